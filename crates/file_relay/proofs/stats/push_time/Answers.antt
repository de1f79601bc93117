use Rattle.std.proofs.Common.{◌≡◌, ℕ, ◌*◌, ◌/◌, max, List, ◌++◌, codes, string_bytes, refl, ap, sym, ◌∙◌, append_assoc}
use Rattle.std.specs.Prelude.{decimal}
use Rattle.file_relay.proofs.stats.push_time.Goals as goal

-- the parts of a line, as the macro puts them together
regroup : (m d n t p r e : List ℕ) → m ++ d ++ n ++ t ++ p ++ r ++ e ≡ m ++ (d ++ (n ++ (t ++ (p ++ (r ++ e)))))
regroup m d n t p r e = simp append_assoc refl

pub returns-in_ok-writeln-in-Some : goal.returns-in_ok-writeln-in-Some
returns-in_ok-writeln-in-Some c =
    let told = rw (c.from.ensures, c.max.ensures) at c.in_ok-writeln-in-Some.ensures.bytes in
    let rate = c.args.delivered * 1_000_000_000 / max c.in-Some.time 1 in
    let line = regroup (codes "messages ") (decimal c.args.delivered) (codes " nanoseconds ") (decimal c.in-Some.time) (codes " per second ") (decimal rate) (codes "\n") in
    rw c.in-Some.is (told ∙ ap (λ l. string_bytes c.args.text.now ++ l) (sym line))

pub returns-in_ok-writeln-in-None : goal.returns-in_ok-writeln-in-None
returns-in_ok-writeln-in-None c = rw c.in-None.is c.in_ok-writeln-in-None.ensures.bytes
