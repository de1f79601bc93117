-- Reading the lines of a text one after another.
use Rattle.std.proofs.Common.{◌≡◌, ◌≢◌, ℕ, ◌+◌, ◌<◌, ◌≤◌, Bool, true, false, cond, eqb, List, [], ◌∷◌, ◌++◌, length, Option, Some, None, Result, Ok, Err, option_map, refl, sym, ap, subst, ◌∙◌, arith, inl, inr, append_assoc}
use Rattle.std.specs.List.{onto_first}
use Rattle.std.proofs.lemmas.Bool.{eqb-true, ne_eqb}
use Rattle.std.proofs.lemmas.Bool.Decides.{eqb_tells}
use Rattle.std.proofs.lemmas.List.{length-append, append-nil}
use Rattle.bounded_model.specs.declared.history.Order.{Order}
use Rattle.script.specs.declared.line.Line.{Line}
use Rattle.script.specs.declared.line.Line.TheVariants.{Finish}
use Rattle.script.specs.Reading.{is_ended, split_lines, is_in_place, line_before, with_line, lines_from}
use Rattle.script.specs.Words.{cut_at}
use Rattle.script.proofs.Cuts.{shorter_cut, no_cut-head, Lacks, Lacks-rest, cut_found}

-- ---- cutting a line off

pub split_written : (line rest : List ℕ) → Lacks 10 line → split_lines (line ++ 10 ∷ rest) ≡ line ∷ split_lines rest
split_written [] rest lacks = refl
split_written (b ∷ line) rest lacks =
    elim (eqb_tells b 10) [
      | inl here ↦ absurd (lacks 0 (omega arith) here.1)
      | inr other ↦ rw (other.0, split_written line rest (Lacks-rest 10 b line lacks)) refl
    ]

pub split_cut : (text line rest : List ℕ) → cut_at 10 text ≡ Some (line, rest) → split_lines text ≡ line ∷ split_lines rest
split_cut text line rest e =
    let c = cut_found 10 text line rest e in
    ap split_lines c.parts ∙ split_written line rest c.lacks

ended_behind : (line rest : List ℕ) → is_ended (line ++ 10 ∷ rest) ≡ true → is_ended rest ≡ true
ended_behind [] [] e = refl
ended_behind [] (b ∷ rest) e = e
ended_behind (b ∷ []) rest e = ended_behind [] rest e
ended_behind (b ∷ c ∷ line) rest e = ended_behind (c ∷ line) rest e

pub ended_cut : (text line rest : List ℕ) → cut_at 10 text ≡ Some (line, rest) → is_ended text ≡ true → is_ended rest ≡ true
ended_cut text line rest e ended =
    let c = cut_found 10 text line rest e in
    ended_behind line rest (subst (λ (t : List ℕ). is_ended t ≡ true) c.parts ended)

-- a text with no newline and nothing behind its last one is empty
pub uncut_ended : (text : List ℕ) → cut_at 10 text ≡ None → is_ended text ≡ true → text ≡ []
uncut_ended [] e ended = refl
uncut_ended (b ∷ []) e ended = absurd ((no_cut-head 10 b [] e).0 (eqb-true b 10 ended))
uncut_ended (b ∷ c ∷ text) e ended = let f = uncut_ended (c ∷ text) (no_cut-head 10 b (c ∷ text) e).1 ended in absurd cc

-- ---- `finish` stands last

pub finish_in_place : (after : List ℕ) → is_in_place Finish (split_lines after) ≡ eqb (length after) 0
finish_in_place [] = refl
finish_in_place (b ∷ after) = go (eqb b 10) (split_lines after) ∙ sym (ne_eqb (length (b ∷ after)) 0 (λ e. absurd (omega arith)))
  where
    go : (t : Bool) (ls : List (List ℕ)) → is_in_place Finish (cond t ([] ∷ ls) (onto_first b ls)) ≡ false
    go true ls = refl
    go false [] = refl
    go false (l ∷ ls) = refl

-- ---- the lines read so far, and the reading of the others

abbrev pub behind : List Line → Result (List Line) ℕ → Result (List Line) ℕ
behind lines (Ok more) = Ok (lines ++ more)
behind lines (Err place) = Err (length lines + place)

behind-line : (lines : List Line) (line : Line) (rest : Result (List Line) ℕ) → behind (lines ++ line ∷ []) rest ≡ behind lines (with_line (Some line) rest)
behind-line lines line (Ok more) = ap Ok (append_assoc lines (line ∷ []) more)
behind-line lines line (Err place) = ap Err (omega (arith, length-append lines (line ∷ [])))

-- how far the lines of a text were read: these, and the rest is still to read
pub record Progress (order : Order) (text rest : List ℕ) (lines : List Line) : Type 0 where
  pub told : lines_from order (split_lines text) ≡ behind lines (lines_from order (split_lines rest))
  pub ended : is_ended rest ≡ true
  pub within : length lines + length rest ≤ length text

pub Progress-start : (order : Order) (text : List ℕ) → is_ended text ≡ true → Progress order text text []
Progress-start order text ended = record { told = start (lines_from order (split_lines text)); ended = ended; within = omega arith }
  where
    start : (r : Result (List Line) ℕ) → r ≡ behind [] r
    start (Ok lines) = refl
    start (Err place) = ap Err (omega arith)

pub Progress-more : (order : Order) (text rest : List ℕ) (lines : List Line) (words after : List ℕ) (line : Line) → Progress order text rest lines → cut_at 10 rest ≡ Some (words, after) → line_before order words (split_lines after) ≡ Some line → Progress order text after (lines ++ line ∷ [])
Progress-more order text rest lines words after line p cut is = record {
  told = p.told ∙ ap (λ ls. behind lines (lines_from order ls)) (split_cut rest words after cut) ∙ ap (λ o. behind lines (with_line o (lines_from order (split_lines after)))) is ∙ sym (behind-line lines line (lines_from order (split_lines after)));
  ended = ended_cut rest words after cut p.ended;
  within = omega (arith, p.within, shorter_cut 10 rest words after cut, length-append lines (line ∷ []));
}

-- where the lines end
pub Progress-end : (order : Order) (text rest : List ℕ) (lines : List Line) → Progress order text rest lines → cut_at 10 rest ≡ None → lines_from order (split_lines text) ≡ Ok lines
Progress-end order text rest lines p none =
    p.told ∙ ap (λ r. behind lines (lines_from order (split_lines r))) (uncut_ended rest none p.ended) ∙ ap Ok (append-nil lines)

-- where a line is wrong
pub Progress-wrong : (order : Order) (text rest : List ℕ) (lines : List Line) (words after : List ℕ) → Progress order text rest lines → cut_at 10 rest ≡ Some (words, after) → line_before order words (split_lines after) ≡ None → lines_from order (split_lines text) ≡ Err (length lines)
Progress-wrong order text rest lines words after p cut is =
    p.told ∙ ap (λ ls. behind lines (lines_from order ls)) (split_cut rest words after cut) ∙ ap (λ o. behind lines (with_line o (lines_from order (split_lines after)))) is ∙ ap Err (omega arith)
