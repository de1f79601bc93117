-- What is read as a script is one, every script is read, and a fault is the text's.
use Rattle.std.proofs.Common.{◌≡◌, ℕ, suc, ◌+◌, ◌≤◌, Bool, true, false, cond, leb, ◌&&◌, List, [], ◌∷◌, ◌++◌, Option, Some, None, Result, Ok, Err, refl, sym, ap, subst, ◌∙◌, arith, inl, inr, append_assoc}
use Rattle.std.specs.Prelude.{IfOk, IfErr, IsTrue, codes, map, option_and_then}
use Rattle.std.specs.Char.{is_ascii_alphanumeric, is_ascii_lowercase}
use Rattle.std.specs.Fmt.{decimal}
use Rattle.std.specs.List.{list_all, onto_first, AllByRecursion}
use Rattle.std.proofs.lemmas.Bool.{and_parts, and_from, eqb-true, eqb-false, leb-true}
use Rattle.std.proofs.lemmas.Bool.Decides.{eqb_tells, nat_tests}
use Rattle.std.proofs.lemmas.Option.{cond_some}
use Rattle.bounded_model.specs.declared.commands.Command.{Command}
use Rattle.bounded_model.specs.declared.commands.Command.TheVariants.{Put, Take, Close, Shut, Look}
use Rattle.bounded_model.specs.declared.history.Order.{Order}
use Rattle.bounded_model.specs.declared.history.Order.TheVariants.{Fifo, Lifo}
use Rattle.script.specs.declared.fault.ScriptFault.{ScriptFault}
use Rattle.script.specs.declared.fault.ScriptFault.TheVariants.{NoMemory, NoFinalNewline, BadLine}
use Rattle.script.specs.declared.reading.Script.{Script as ReadScript}
use Rattle.script.specs.declared.line.Act.{Act}
use Rattle.script.specs.declared.line.Act.TheVariants.{Call, Begin, Step, Range, Fold, ReversedFold, Meet, Drop}
use Rattle.script.specs.declared.line.Line.{Line}
use Rattle.script.specs.declared.line.Line.TheVariants.{By, Finish}
use Rattle.script.specs.Reading.{Gives, is_ended, split_lines, line_of, is_in_place, placed, line_before, with_line, lines_from, numbered, head_of, with_lines, with_head, script_in, script_of}
use Rattle.script.specs.Script.{Head, IsHead, IsValue, IsCommand, IsAct, IsLine, IsScript, FinishesLast, order_text, head_text, command_text, act_text, line_text, text_of, is_allowed}
use Rattle.script.specs.Words.{spaced}
use Rattle.script.specs.Faults.{IsUnended, Stands, IsWrongAt, IsBadBehind, IsFirstBad, IsAccepted, IsTextFault}
use Rattle.script.proofs.Cuts.{Lacks, Lacks-cons, Lacks-rest}
use Rattle.script.proofs.Heads.{Lacks-decimal, limits_text, head_text_is, head_again, head_found}
use Rattle.script.proofs.Splitting.{split_written}
use Rattle.script.specs.View.{head_view, script_view}
use Rattle.script.proofs.Acts.{line_again, line_found}

-- ---- no line of a script has a newline in it

Lacks-append : (byte : ℕ) (xs ys : List ℕ) → Lacks byte xs → Lacks byte ys → Lacks byte (xs ++ ys)
Lacks-append byte [] ys left right = right
Lacks-append byte (x ∷ xs) ys left right = Lacks-cons byte x (xs ++ ys) (left 0 (omega arith)) (Lacks-append byte xs ys (Lacks-rest byte x xs left) right)

-- by a test that computes
Lacks-tested : (bs : List ℕ) → list_all (λ b. leb 32 b) bs ≡ true → Lacks 10 bs
Lacks-tested [] e = λ i lt. absurd (omega arith)
Lacks-tested (b ∷ bs) e =
    let p = and_parts (leb 32 b) (list_all (λ b. leb 32 b) bs) e in
    let above : 32 ≤ b = leb-true 32 b p.0 in
    Lacks-cons 10 b bs (λ is. absurd (omega arith)) (Lacks-tested bs p.1)

alphanumeric_above : (b : ℕ) → is_ascii_alphanumeric b ≡ true → 32 ≤ b
alphanumeric_above b e = grind (arith, nat_tests)

lowercase_above : (b : ℕ) → is_ascii_lowercase b ≡ true → 32 ≤ b
lowercase_above b e = grind (arith, nat_tests)

Lacks-value : (bs : List ℕ) → list_all is_ascii_alphanumeric bs ≡ true → Lacks 10 bs
Lacks-value [] e = λ i lt. absurd (omega arith)
Lacks-value (b ∷ bs) e =
    let p = and_parts (is_ascii_alphanumeric b) (list_all is_ascii_alphanumeric bs) e in
    let above : 32 ≤ b = alphanumeric_above b p.0 in
    Lacks-cons 10 b bs (λ is. absurd (omega arith)) (Lacks-value bs p.1)

Lacks-command : (command : Command (List ℕ)) → IsCommand command → Lacks 10 (command_text command)
Lacks-command (Put value) is = Lacks-append 10 (codes "put ") value (Lacks-tested (codes "put ") refl) (Lacks-value value is.alphanumeric)
Lacks-command Take is = Lacks-tested (codes "take") refl
Lacks-command Close is = Lacks-tested (codes "close") refl
Lacks-command Shut is = Lacks-tested (codes "shut") refl
Lacks-command Look is = Lacks-tested (codes "look") refl

Lacks-spaced : (values : List (List ℕ)) → AllByRecursion IsValue values → Lacks 10 (spaced values)
Lacks-spaced [] each = Lacks-tested [] refl
Lacks-spaced (value ∷ more) each = Lacks-append 10 (32 ∷ value) (spaced more) (Lacks-cons 10 32 value (λ e. absurd (omega arith)) (Lacks-value value each.0.alphanumeric)) (Lacks-spaced more each.1)

Lacks-pass : (letter : ℕ) (behind : List ℕ) → is_ascii_lowercase letter ≡ true → Lacks 10 behind → Lacks 10 (letter ∷ behind)
Lacks-pass letter behind is lacks =
    let above : 32 ≤ letter = lowercase_above letter is in
    Lacks-cons 10 letter behind (λ e. absurd (omega arith)) lacks

Lacks-act : (act : Act) → IsAct act → Lacks 10 (act_text act)
Lacks-act (Call command) is = Lacks-command command is
Lacks-act (Begin command) is = Lacks-append 10 (codes "begin ") (command_text command) (Lacks-tested (codes "begin ") refl) (Lacks-command command is)
Lacks-act (Step count) is = Lacks-append 10 (codes "step ") (decimal count) (Lacks-tested (codes "step ") refl) (Lacks-decimal 10 count (omega (arith, is.1)) (λ h. absurd (omega arith)))
Lacks-act (Range values) is = Lacks-append 10 (codes "range") (spaced values) (Lacks-tested (codes "range") refl) (Lacks-spaced values is)
Lacks-act Fold is = Lacks-tested (codes "fold") refl
Lacks-act ReversedFold is = Lacks-tested (codes "rfold") refl
Lacks-act (Meet other) is = Lacks-append 10 (codes "meet ") (other.0 ∷ []) (Lacks-tested (codes "meet ") refl) (Lacks-pass other.0 [] is (Lacks-tested [] refl))
Lacks-act Drop is = Lacks-tested (codes "drop") refl

Lacks-line : (line : Line) → IsLine line → Lacks 10 (line_text line)
Lacks-line (By pass act) is = Lacks-pass pass.0 (32 ∷ act_text act) is.0 (Lacks-cons 10 32 (act_text act) (λ e. absurd (omega arith)) (Lacks-act act is.1))
Lacks-line Finish is = Lacks-tested (codes "finish") refl

Lacks-order : (order : Order) → Lacks 10 (order_text order)
Lacks-order Fifo = Lacks-tested (codes "queue") refl
Lacks-order Lifo = Lacks-tested (codes "stack") refl

Lacks-head : (head : Head) → IsHead head → Lacks 10 (head_text head)
Lacks-head head is =
    let capacity = Lacks-decimal 10 head.capacity (omega (arith, is.capacity_in_range)) (λ h. absurd (omega arith)) in
    let tag_limit = Lacks-decimal 10 head.tag_limit (omega (arith, is.tag_limit_in_range)) (λ h. absurd (omega arith)) in
    let second = Lacks-cons 10 32 (decimal head.tag_limit) (λ e. absurd (omega arith)) tag_limit in
    let limits = Lacks-append 10 (decimal head.capacity) (32 ∷ decimal head.tag_limit) capacity second in
    let behind = Lacks-cons 10 32 (limits_text head.capacity head.tag_limit) (λ e. absurd (omega arith)) limits in
    subst (λ (t : List ℕ). Lacks 10 t) (sym (head_text_is head)) (Lacks-append 10 (order_text head.order) (32 ∷ limits_text head.capacity head.tag_limit) (Lacks-order head.order) behind)

-- ---- a text and its lines

ended_more : (line rest : List ℕ) → is_ended rest ≡ true → is_ended (line ++ 10 ∷ rest) ≡ true
ended_more [] [] e = refl
ended_more [] (b ∷ rest) e = e
ended_more (b ∷ []) rest e = ended_more [] rest e
ended_more (b ∷ c ∷ line) rest e = ended_more (c ∷ line) rest e

-- the lines written after one another
regroup : (line : List ℕ) (lines : List (List ℕ)) → text_of (line ∷ lines) ≡ line ++ 10 ∷ text_of lines
regroup line lines = append_assoc line (10 ∷ []) (text_of lines)

ended_text : (lines : List (List ℕ)) → is_ended (text_of lines) ≡ true
ended_text [] = refl
ended_text (line ∷ lines) = rw (regroup line lines) (ended_more line (text_of lines) (ended_text lines))

split_text : (lines : List (List ℕ)) → AllByRecursion (λ line. Lacks 10 line) lines → split_lines (text_of lines) ≡ lines
split_text [] lacks = refl
split_text (line ∷ lines) lacks =
    ap split_lines (regroup line lines) ∙ split_written line (text_of lines) lacks.0 ∙ ap (λ (ls : List (List ℕ)). line ∷ ls) (split_text lines lacks.1)

joined_onto : (b : ℕ) (lines : List (List ℕ)) (rest : List ℕ) → text_of lines ≡ rest → (rest ≡ [] → ⊥) → text_of (onto_first b lines) ≡ b ∷ rest
joined_onto b [] rest e some = absurd (some (sym e))
joined_onto b (line ∷ lines) rest e some = ap (λ (t : List ℕ). b ∷ t) e

not_empty : (b : ℕ) (bs : List ℕ) → b ∷ bs ≡ [] → ⊥
not_empty b bs e = cc

pub joined : (text : List ℕ) → is_ended text ≡ true → text_of (split_lines text) ≡ text
joined [] e = refl
joined (b ∷ []) e = let is : b ≡ 10 = eqb-true b 10 e in rw is refl
joined (b ∷ c ∷ text) e =
    let rest = joined (c ∷ text) e in
    elim (eqb_tells b 10) [
      | inl here ↦ rw (here.0, rest, here.1) refl
      | inr other ↦ rw other.0 (joined_onto b (split_lines (c ∷ text)) (c ∷ text) rest (not_empty c text))
    ]

-- ---- the lines behind the first

in_place-last : (line : Line) (after : List (List ℕ)) → is_in_place line after ≡ true → line ≡ Finish → after ≡ []
in_place-last (By pass act) after e f = let no : By pass act ≡ Finish = f in absurd cc
in_place-last Finish [] e f = refl
in_place-last Finish (next ∷ more) e f = absurd cc

last-in_place : (line : Line) (after : List (List ℕ)) → (line ≡ Finish → after ≡ []) → is_in_place line after ≡ true
last-in_place (By pass act) after last = refl
last-in_place Finish [] last = refl
last-in_place Finish (next ∷ more) last = let no : next ∷ more ≡ [] = last refl in absurd cc

stands_read : (order : Order) (text : List ℕ) (after : List (List ℕ)) (line : Line) → line_before order text after ≡ Some line → Stands order text after line
stands_read order text after line e = go (line_of text) refl e
  where
    go : (o : Option Line) → line_of text ≡ o → option_and_then (λ l. placed order l after) o ≡ Some line → Stands order text after line
    go None is found = absurd cc
    go (Some l) is found =
        let w = line_found text l is in
        let p = cond_some (is_allowed order l && is_in_place l after) l line found in
        let b = and_parts (is_allowed order l) (is_in_place l after) p.0 in
        subst (λ (k : Line). Stands order text after k) p.1 (record { is = w.is; written = w.written; allowed = b.0; last = in_place-last l after b.1 })

stood : (line : Line) (b : Bool) → b ≡ true → cond b (Some line) None ≡ Some line
stood line b e = rw e refl

stands_again : (order : Order) (text : List ℕ) (after : List (List ℕ)) (line : Line) → Stands order text after line → line_before order text after ≡ Some line
stands_again order text after line s =
    let read : line_of text ≡ Some line = ap line_of s.written ∙ line_again line s.is in
    ap (option_and_then (λ l. placed order l after)) read
    ∙ stood line (is_allowed order line && is_in_place line after) (and_from _ _ s.allowed (last-in_place line after s.last))

-- what lines were found, and how they are written
record WroteLines (order : Order) (texts : List (List ℕ)) (lines : List Line) : Type 0 where
  written : texts ≡ map line_text lines
  each : AllByRecursion IsLine lines
  allowed : AllByRecursion (λ line. IsTrue (is_allowed order line)) lines
  finish_last : FinishesLast lines

abbrev read_lines : List Line → Result (List Line) ℕ
read_lines lines = Ok lines

same_ok : (k l : List Line) → read_lines k ≡ read_lines l → k ≡ l
same_ok k l e = cc

map_nil : (lines : List Line) → map line_text lines ≡ [] → lines ≡ []
map_nil [] e = refl
map_nil (line ∷ lines) e = absurd cc

lines_found : (order : Order) (texts : List (List ℕ)) (lines : List Line) → lines_from order texts ≡ Ok lines → WroteLines order texts lines
lines_found order [] lines e = subst (λ (ls : List Line). WroteLines order [] ls) (same_ok [] lines e) (record { written = refl; each = tt; allowed = tt; finish_last = tt })
lines_found order (text ∷ after) lines e = go (lines_found order after) (line_before order text after) refl (lines_from order after) refl e
  where
    go : ((more : List Line) → lines_from order after ≡ Ok more → WroteLines order after more) → (o : Option Line) → line_before order text after ≡ o → (r : Result (List Line) ℕ) → lines_from order after ≡ r → with_line o r ≡ Ok lines → WroteLines order (text ∷ after) lines
    go others None is r read found = absurd cc
    go others (Some line) is (Err place) read found = absurd cc
    go others (Some line) is (Ok more) read found =
        let s = stands_read order text after line is in
        let rest = others more read in
        let w : WroteLines order (text ∷ after) (line ∷ more) = record {
          written = ap (λ (t : List ℕ). t ∷ after) s.written ∙ ap (λ (ts : List (List ℕ)). line_text line ∷ ts) rest.written;
          each = (s.is, rest.each);
          allowed = (s.allowed, rest.allowed);
          finish_last = (λ f. map_nil more (sym rest.written ∙ s.last f), rest.finish_last);
        } in
        subst (λ (ls : List Line). WroteLines order (text ∷ after) ls) (same_ok (line ∷ more) lines found) w

lines_again : (order : Order) (lines : List Line) → AllByRecursion IsLine lines → AllByRecursion (λ line. IsTrue (is_allowed order line)) lines → FinishesLast lines → lines_from order (map line_text lines) ≡ Ok lines
lines_again order [] each allowed last = refl
lines_again order (line ∷ lines) each allowed last =
    let stands : Stands order (line_text line) (map line_text lines) line = record { is = each.0; written = refl; allowed = allowed.0; last = λ f. ap (map line_text) (last.0 f) } in
    ap (λ o. with_line o (lines_from order (map line_text lines))) (stands_again order (line_text line) (map line_text lines) line stands)
    ∙ ap (with_line (Some line)) (lines_again order lines each.1 allowed.1 last.1)

lacks_lines : (lines : List Line) → AllByRecursion IsLine lines → AllByRecursion (λ text. Lacks 10 text) (map line_text lines)
lacks_lines [] each = tt
lacks_lines (line ∷ lines) each = (Lacks-line line each.0, lacks_lines lines each.1)

-- ---- a whole script

abbrev Whole : Type 0
Whole = Head × List Line

abbrev read_whole : Whole → Result Whole ScriptFault
read_whole whole = Ok whole

abbrev refused : ScriptFault → Result Whole ScriptFault
refused fault = Err fault

same_whole : (p q : Whole) → read_whole p ≡ read_whole q → p ≡ q
same_whole p q e = cc

whole_found : (text first : List ℕ) (after : List (List ℕ)) (whole : Whole) → is_ended text ≡ true → split_lines text ≡ first ∷ after → (head : Head) → head_of first ≡ Some head → (r : Result (List Line) ℕ) → lines_from head.order after ≡ r → with_lines head (numbered r) ≡ Ok whole → IsScript text whole.0 whole.1
whole_found text first after whole ended split head is (Err place) read found = absurd cc
whole_found text first after whole ended split head is (Ok lines) read found =
    let h = head_found first head is in
    let ls = lines_found head.order after lines read in
    let made : Whole = (head, lines) in
    let s : IsScript text head lines = record {
      written = sym (joined text ended) ∙ ap text_of (split ∙ ap (λ (t : List ℕ). t ∷ after) h.written ∙ ap (λ (ts : List (List ℕ)). head_text head ∷ ts) ls.written);
      head_in_range = h.is;
      each = ls.each;
      allowed = ls.allowed;
      finish_last = ls.finish_last;
    } in
    subst (λ (w : Whole). IsScript text w.0 w.1) (same_whole made whole found) s

-- what is read is a script
pub script_found : (text : List ℕ) (whole : Head × List Line) → script_of text ≡ Ok whole → IsScript text whole.0 whole.1
unfolding script_of
script_found text whole e = go (is_ended text) refl (split_lines text) refl e
  where
    headed : (first : List ℕ) (after : List (List ℕ)) → is_ended text ≡ true → split_lines text ≡ first ∷ after → (h : Option Head) → head_of first ≡ h → with_head h after ≡ Ok whole → IsScript text whole.0 whole.1
    headed first after ended split None is found = absurd cc
    headed first after ended split (Some head) is found = whole_found text first after whole ended split head is (lines_from head.order after) refl found

    go : (b : Bool) → is_ended text ≡ b → (ls : List (List ℕ)) → split_lines text ≡ ls → cond b (script_in ls) (Err NoFinalNewline) ≡ Ok whole → IsScript text whole.0 whole.1
    go true ended [] split found = absurd cc
    go true ended (first ∷ after) split found = headed first after ended split (head_of first) refl found
    go false ended ls split found = absurd cc

script_of_lines : (lines : List (List ℕ)) → AllByRecursion (λ line. Lacks 10 line) lines → script_of (text_of lines) ≡ script_in lines
unfolding script_of
script_of_lines lines lacks = rw (ended_text lines, split_text lines lacks) refl

-- every script is read, and as itself
pub script_again : (text : List ℕ) (head : Head) (lines : List Line) → IsScript text head lines → script_of text ≡ Ok (head, lines)
script_again text head lines is =
    ap script_of is.written
    ∙ script_of_lines (head_text head ∷ map line_text lines) (Lacks-head head is.head_in_range, lacks_lines lines is.each)
    ∙ ap (λ h. with_head h (map line_text lines)) (head_again head is.head_in_range)
    ∙ ap (λ r. with_lines head (numbered r)) (lines_again head.order lines is.each is.allowed is.finish_last)

-- ---- faults

abbrev wrong_line : ℕ → Result (List Line) ℕ
wrong_line place = Err place

same_place : (j k : ℕ) → wrong_line j ≡ wrong_line k → j ≡ k
same_place j k e = cc

wrong_at : (order : Order) (texts : List (List ℕ)) (place : ℕ) → lines_from order texts ≡ Err place → IsWrongAt order texts place
wrong_at order [] place e = absurd cc
wrong_at order (text ∷ after) place e = go (wrong_at order after) (line_before order text after) refl (lines_from order after) refl e
  where
    go : ((place : ℕ) → lines_from order after ≡ Err place → IsWrongAt order after place) → (o : Option Line) → line_before order text after ≡ o → (r : Result (List Line) ℕ) → lines_from order after ≡ r → with_line o r ≡ Err place → IsWrongAt order (text ∷ after) place
    go others None is r read found =
        subst (λ (k : ℕ). IsWrongAt order (text ∷ after) k) (same_place 0 place found) (λ s. let there = stands_again order text after s.0 s.1 in let no : None ≡ Some s.0 = sym is ∙ there in absurd cc)
    go others (Some line) is (Ok more) read found = absurd cc
    go others (Some line) is (Err k) read found =
        subst (λ (j : ℕ). IsWrongAt order (text ∷ after) j) (same_place (suc k) place found) ((line, stands_read order text after line is), others k read)

unended : (text : List ℕ) → is_ended text ≡ false → IsUnended text
unended [] e = absurd cc
unended (b ∷ []) e = ([], b, refl, eqb-false b 10 e)
unended (b ∷ c ∷ text) e =
    let u = unended (c ∷ text) e in
    (b ∷ u.0, u.1, ap (λ (t : List ℕ). b ∷ t) u.2, u.3)

same_last : (b last : ℕ) → b ∷ [] ≡ last ∷ [] → b ≡ last
same_last b last e = cc

same_front : (b c : ℕ) (bs cs : List ℕ) → b ∷ bs ≡ c ∷ cs → bs ≡ cs
same_front b c bs cs e = cc

-- nothing stands behind the last newline of a text that ends with it
ends_so : (text front : List ℕ) (last : ℕ) → is_ended text ≡ true → text ≡ front ++ last ∷ [] → last ≡ 10
ends_so [] [] last e is = absurd cc
ends_so [] (f ∷ front) last e is = absurd cc
ends_so (b ∷ []) [] last e is = sym (same_last b last is) ∙ eqb-true b 10 e
ends_so (b ∷ []) (f ∷ []) last e is = let no : [] ≡ last ∷ [] = same_front b f [] (last ∷ []) is in absurd cc
ends_so (b ∷ []) (f ∷ g ∷ front) last e is = let no : [] ≡ (g ∷ front) ++ last ∷ [] = same_front b f [] ((g ∷ front) ++ last ∷ []) is in absurd cc
ends_so (b ∷ c ∷ text) [] last e is = let no : c ∷ text ≡ [] = same_front b last (c ∷ text) [] is in absurd cc
ends_so (b ∷ c ∷ text) (f ∷ front) last e is = ends_so (c ∷ text) front last e (same_front b f (c ∷ text) (front ++ last ∷ []) is)

not_unended : (text : List ℕ) → is_ended text ≡ true → ¬ (IsUnended text)
not_unended text e u = u.3 (ends_so text u.0 u.1 e u.2)

same_fault : (e f : ScriptFault) → refused e ≡ refused f → e ≡ f
same_fault e f h = cc

bad_line : (text : List ℕ) (first : List ℕ) (after : List (List ℕ)) (number : ℕ) (fault : ScriptFault) → is_ended text ≡ true → split_lines text ≡ first ∷ after → IsFirstBad (first ∷ after) number → refused (BadLine number) ≡ Err fault → IsTextFault fault text
bad_line text first after number fault ended split bad found =
    subst (λ (f : ScriptFault). IsTextFault f text) (same_fault (BadLine number) fault found) (not_unended text ended, subst (λ (ls : List (List ℕ)). IsFirstBad ls number) (sym split) bad)

lines_fault : (text first : List ℕ) (after : List (List ℕ)) (fault : ScriptFault) → is_ended text ≡ true → split_lines text ≡ first ∷ after → (head : Head) → head_of first ≡ Some head → (r : Result (List Line) ℕ) → lines_from head.order after ≡ r → with_lines head (numbered r) ≡ Err fault → IsTextFault fault text
lines_fault text first after fault ended split head is (Ok lines) read found = absurd cc
lines_fault text first after fault ended split head is (Err place) read found =
    let h = head_found first head is in
    let b : IsBadBehind first after (place + 2) = record { head = head; is = h.is; written = h.written; place = place; counted = refl; wrong = wrong_at head.order after place read } in
    bad_line text first after (place + 2) fault ended split (inr b) found

whole_fault : (text first : List ℕ) (after : List (List ℕ)) (fault : ScriptFault) → is_ended text ≡ true → split_lines text ≡ first ∷ after → (h : Option Head) → head_of first ≡ h → with_head h after ≡ Err fault → IsTextFault fault text
whole_fault text first after fault ended split None is found =
    bad_line text first after 1 fault ended split (inl (refl, λ s. let there : head_of first ≡ Some s.0 = ap head_of s.2 ∙ head_again s.0 s.1 in let no : None ≡ Some s.0 = sym is ∙ there in absurd cc)) found
whole_fault text first after fault ended split (Some head) is found =
    lines_fault text first after fault ended split head is (lines_from head.order after) refl found

-- a fault of reading is in the text
pub script_fault : (text : List ℕ) (fault : ScriptFault) → script_of text ≡ Err fault → IsTextFault fault text
unfolding script_of
script_fault text fault e = go (is_ended text) refl (split_lines text) refl e
  where
    go : (b : Bool) → is_ended text ≡ b → (ls : List (List ℕ)) → split_lines text ≡ ls → cond b (script_in ls) (Err NoFinalNewline) ≡ Err fault → IsTextFault fault text
    go true ended [] split found = subst (λ (f : ScriptFault). IsTextFault f text) (same_fault (BadLine 1) fault found) (not_unended text ended, subst (λ (ls : List (List ℕ)). IsFirstBad ls 1) (sym split) refl)
    go true ended (first ∷ after) split found = whole_fault text first after fault ended split (head_of first) refl found
    go false ended ls split found = subst (λ (f : ScriptFault). IsTextFault f text) (same_fault NoFinalNewline fault found) (unended text ended)

-- a script has no fault
pub script_faultless : (text : List ℕ) (fault : ScriptFault) → script_of text ≡ Err fault → IsAccepted text → ⊥
script_faultless text fault e accepted =
    let there = script_again text accepted.0 accepted.1 accepted.2 in
    let no : refused fault ≡ read_whole (accepted.0, accepted.1) = sym e ∙ there in absurd cc

-- ---- what was read, or why nothing was

abbrev Answered : Type 0
Answered = Result ReadScript ScriptFault

pub answered_script : (text : List ℕ) (r : Answered) → Gives NoMemory script_view r (script_of text) → IfOk r (λ script. IsScript text (head_view script.header) script.lines.items)
answered_script text (Ok script) e = script_found text (script_view script) e
answered_script text (Err fault) e = tt

pub answered_fault : (text : List ℕ) (r : Answered) → Gives NoMemory script_view r (script_of text) → IfErr r (λ fault. IsTextFault fault text)
answered_fault text (Ok script) e = tt
answered_fault text (Err fault) (inl is) = subst (λ (f : ScriptFault). IsTextFault f text) (sym is) tt
answered_fault text (Err fault) (inr e) = script_fault text fault e

pub answered_only : (text : List ℕ) (r : Answered) → Gives NoMemory script_view r (script_of text) → IfErr r (λ fault. IsAccepted text → fault ≡ NoMemory)
answered_only text (Ok script) e = tt
answered_only text (Err fault) (inl is) = λ accepted. is
answered_only text (Err fault) (inr e) = λ accepted. absurd (script_faultless text fault e accepted)

-- a text is one script at most
pub same_script : (text : List ℕ) (head other : Head) (lines more : List Line) → IsScript text head lines → IsScript text other more → (head ≡ other) × (lines ≡ more)
same_script text head other lines more is also =
    let first : Whole = (head, lines) in
    let second : Whole = (other, more) in
    let same : first ≡ second = same_whole first second (sym (script_again text head lines is) ∙ script_again text other more also) in
    (ap (λ (w : Whole). w.0) same, ap (λ (w : Whole). w.1) same)
