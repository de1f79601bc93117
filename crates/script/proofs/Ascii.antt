-- The bytes of a script's lines.
use Rattle.std.proofs.Common.{◌≡◌, ℕ, ◌<◌, true, ltb, List, [], ◌∷◌, Option, Some, None, refl, sym, subst, arith}
use Rattle.std.specs.Prelude.{codes}
use Rattle.std.specs.Char.{is_ascii_alphanumeric, is_ascii_lowercase}
use Rattle.std.specs.Fmt.{decimal}
use Rattle.std.specs.List.{list_all, AllByRecursion}
use Rattle.std.specs.Str.{IsAscii, IsUtf8}
use Rattle.std.proofs.lemmas.Bool.{and_parts, ltb-true}
use Rattle.std.proofs.lemmas.Bool.Decides.{nat_tests}
use Rattle.std.proofs.lemmas.Fmt.{IsAscii-decimal}
use Rattle.std.proofs.lemmas.Str.{IsUtf8-from_ascii, IsAscii-append}
use Rattle.std.proofs.lemmas.Str.Ascii.{IsAscii-nil, IsAscii-cons}
use Rattle.bounded_model.specs.declared.commands.Command.{Command}
use Rattle.bounded_model.specs.declared.commands.Command.TheVariants.{Put, Take, Close, Shut, Look}
use Rattle.bounded_model.specs.declared.history.Order.{Order}
use Rattle.bounded_model.specs.declared.history.Order.TheVariants.{Fifo, Lifo}
use Rattle.script.specs.declared.line.Act.{Act}
use Rattle.script.specs.declared.line.Act.TheVariants.{Call, Begin, Step, Range, Fold, ReversedFold, Meet, Drop}
use Rattle.script.specs.declared.line.Line.{Line}
use Rattle.script.specs.declared.line.Line.TheVariants.{By, Finish}
use Rattle.script.specs.Reading.{line_of, head_of, line_before}
use Rattle.script.specs.Script.{Head, IsHead, IsValue, IsCommand, IsAct, IsLine, order_text, head_text, command_text, act_text, line_text}
use Rattle.script.specs.Words.{spaced}
use Rattle.script.proofs.Acts.{line_found}
use Rattle.script.proofs.Heads.{limits_text, head_text_is, head_found}

-- by a test that computes
ascii_tested : (bs : List ℕ) → list_all (λ b. ltb b 128) bs ≡ true → IsAscii bs
ascii_tested [] e = IsAscii-nil
ascii_tested (b ∷ bs) e = let p = and_parts (ltb b 128) (list_all (λ b. ltb b 128) bs) e in IsAscii-cons b bs (ltb-true _ _ p.0) (ascii_tested bs p.1)

alphanumeric_small : (b : ℕ) → is_ascii_alphanumeric b ≡ true → b < 128
alphanumeric_small b e = grind (arith, nat_tests)

lowercase_small : (b : ℕ) → is_ascii_lowercase b ≡ true → b < 128
lowercase_small b e = grind (arith, nat_tests)

ascii_value : (bs : List ℕ) → list_all is_ascii_alphanumeric bs ≡ true → IsAscii bs
ascii_value [] e = IsAscii-nil
ascii_value (b ∷ bs) e = let p = and_parts (is_ascii_alphanumeric b) (list_all is_ascii_alphanumeric bs) e in IsAscii-cons b bs (alphanumeric_small b p.0) (ascii_value bs p.1)

ascii_command : (command : Command (List ℕ)) → IsCommand command → IsAscii (command_text command)
ascii_command (Put value) is = IsAscii-append (codes "put ") value (ascii_tested (codes "put ") refl) (ascii_value value is.alphanumeric)
ascii_command Take is = ascii_tested (codes "take") refl
ascii_command Close is = ascii_tested (codes "close") refl
ascii_command Shut is = ascii_tested (codes "shut") refl
ascii_command Look is = ascii_tested (codes "look") refl

ascii_spaced : (values : List (List ℕ)) → AllByRecursion IsValue values → IsAscii (spaced values)
ascii_spaced [] each = IsAscii-nil
ascii_spaced (value ∷ more) each = IsAscii-append (32 ∷ value) (spaced more) (IsAscii-cons 32 value (omega arith) (ascii_value value each.0.alphanumeric)) (ascii_spaced more each.1)

ascii_act : (act : Act) → IsAct act → IsAscii (act_text act)
ascii_act (Call command) is = ascii_command command is
ascii_act (Begin command) is = IsAscii-append (codes "begin ") (command_text command) (ascii_tested (codes "begin ") refl) (ascii_command command is)
ascii_act (Step count) is = IsAscii-append (codes "step ") (decimal count) (ascii_tested (codes "step ") refl) (IsAscii-decimal count (omega (arith, is.1)))
ascii_act (Range values) is = IsAscii-append (codes "range") (spaced values) (ascii_tested (codes "range") refl) (ascii_spaced values is)
ascii_act Fold is = ascii_tested (codes "fold") refl
ascii_act ReversedFold is = ascii_tested (codes "rfold") refl
ascii_act (Meet other) is = IsAscii-append (codes "meet ") (other.0 ∷ []) (ascii_tested (codes "meet ") refl) (IsAscii-cons other.0 [] (lowercase_small other.0 is) IsAscii-nil)
ascii_act Drop is = ascii_tested (codes "drop") refl

ascii_line : (line : Line) → IsLine line → IsAscii (line_text line)
ascii_line (By pass act) is = IsAscii-cons pass.0 (32 ∷ act_text act) (lowercase_small pass.0 is.0) (IsAscii-cons 32 (act_text act) (omega arith) (ascii_act act is.1))
ascii_line Finish is = ascii_tested (codes "finish") refl

ascii_order : (order : Order) → IsAscii (order_text order)
ascii_order Fifo = ascii_tested (codes "queue") refl
ascii_order Lifo = ascii_tested (codes "stack") refl

ascii_head : (head : Head) → IsHead head → IsAscii (head_text head)
ascii_head head is =
    let second : IsAscii (32 ∷ decimal head.tag_limit) = IsAscii-cons 32 (decimal head.tag_limit) (omega arith) (IsAscii-decimal head.tag_limit (omega (arith, is.tag_limit_in_range))) in
    let limits : IsAscii (limits_text head.capacity head.tag_limit) = IsAscii-append (decimal head.capacity) (32 ∷ decimal head.tag_limit) (IsAscii-decimal head.capacity (omega (arith, is.capacity_in_range))) second in
    let behind : IsAscii (32 ∷ limits_text head.capacity head.tag_limit) = IsAscii-cons 32 (limits_text head.capacity head.tag_limit) (omega arith) limits in
    rw (head_text_is head) (IsAscii-append (order_text head.order) (32 ∷ limits_text head.capacity head.tag_limit) (ascii_order head.order) behind)

-- bytes that are no text are no line of a script
pub no_text-no_line : (order : Order) (bs : List ℕ) (after : List (List ℕ)) → ¬ (IsUtf8 bs) → line_before order bs after ≡ None
no_text-no_line order bs after fails = go (line_of bs) refl
  where
    go : (o : Option Line) → line_of bs ≡ o → line_before order bs after ≡ None
    go None is = rw is refl
    go (Some line) is =
        let w = line_found bs line is in
        absurd (fails (IsUtf8-from_ascii bs (subst (λ (b : List ℕ). IsAscii b) (sym w.written) (ascii_line line w.is))))

pub no_text-no_head : (bs : List ℕ) → ¬ (IsUtf8 bs) → head_of bs ≡ None
no_text-no_head bs fails = go (head_of bs) refl
  where
    go : (o : Option Head) → head_of bs ≡ o → head_of bs ≡ None
    go None is = is
    go (Some head) is =
        let w = head_found bs head is in
        absurd (fails (IsUtf8-from_ascii bs (subst (λ (b : List ℕ). IsAscii b) (sym w.written) (ascii_head head w.is))))
