use Rattle.std.proofs.Common.{◌≡◌, ℕ, List, [], ◌++◌, codes, refl, ap, sym, ◌∙◌, append_assoc}
use Rattle.std.specs.Prelude.{decimal}
use Rattle.file_relay.specs.Stats.{consumer_lines, refused_line, time_line}
use Rattle.file_relay.proofs.stats.Stats.text.Goals as goal

-- the parts of a line, as the macro puts them together
regroup : (m d n t e : List ℕ) → m ++ d ++ n ++ t ++ e ≡ m ++ (d ++ (n ++ (t ++ e)))
regroup m d n t e = simp append_assoc refl

-- lines that were put one after another
three-parts : (empty one two three time consumers refused told : List ℕ) → empty ≡ [] → one ≡ empty ++ time → two ≡ one ++ consumers → three ≡ two ++ told → refused ≡ told
    → three ≡ time ++ consumers ++ refused
three-parts empty one two three time consumers refused told none first second third same =
    third ∙ ap (λ l. l ++ told) (second ∙ ap (λ l. l ++ consumers) (first ∙ ap (λ l. l ++ time) none)) ∙ ap (λ l. (time ++ consumers) ++ l) (sym same)

pub returns : goal.returns
returns c =
    let stats = c.args.self.now in
    let refused = regroup (codes "refused full ") (decimal stats.full) (codes " empty ") (decimal stats.empty) (codes "\n") in
    let consumers = rw c.deref.ensures.value at c.in_ok-push_consumers.ensures in
    three-parts _ _ _ _ (time_line stats.delivered stats.nanoseconds) (consumer_lines 0 stats.took.items) (refused_line stats) _
    c.new-text.ensures.bytes c.in_ok-push_time.ensures consumers c.in_ok-writeln.ensures.bytes refused
