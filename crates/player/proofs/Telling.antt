-- The lines answered so far, and those still to be answered.
use Rattle.std.proofs.Common.{◌≡◌, ◌≢◌, ℕ, List, [], ◌∷◌, ◌++◌, map, refl, sym, ap, subst, ◌∙◌, append_assoc, IsTrue, arith, Result, Ok, Err, OnOk}
use Rattle.std.specs.Prelude.{codes}
use Rattle.std.specs.Char.{is_ascii_lowercase}
use Rattle.std.proofs.lemmas.List.{append-nil}
use Rattle.bounded_model.specs.declared.history.Order.{Order}
use Rattle.bounded_model.specs.declared.history.Order.TheVariants.{Fifo, Lifo}
use Rattle.bounded_model.specs.Machine.{Shape}
use Rattle.script.specs.declared.answer.Answer.{Answer}
use Rattle.script.specs.declared.answer.Answer.TheVariants as answer
use Rattle.script.specs.declared.line.Act.{Act}
use Rattle.script.specs.declared.line.Act.TheVariants.{Call, Begin, Step, Range, Fold, ReversedFold, Meet, Drop}
use Rattle.script.specs.declared.line.Line.{Line}
use Rattle.script.specs.declared.line.Line.TheVariants.{By, Finish}
use Rattle.script.specs.declared.line.PassName.{PassName}
use Rattle.script.specs.AnswerTexts.{answer_text}
use Rattle.script.specs.Script.{IsAct, is_act, is_bulk, text_of}
use Rattle.step_names.specs.declared.step_name.StepName.{StepName}
use Rattle.player.specs.declared.place.Place.{Place}
use Rattle.player.specs.Plays.{Acts, Ends, IsFor, Plays, World}
use Rattle.player.specs.Shows.{Reading, ShowsAll}
use Rattle.player.specs.Traces.{ActsTraced, PlaysTraced, nothing_held}

abbrev pub said : List Answer → List ℕ
said answers = text_of (map answer_text answers)

-- whatever answers the rest makes, with what was written, the answers to all lines
abbrev pub Told : Shape → World → List Line → World → List Line → List ℕ → Type 0
Told c first whole world rest written = (more : List Answer) → Plays c world rest more → (answers : List Answer) × Plays c first whole answers × (said answers ≡ written ++ said more)

pub told_start : (c : Shape) (first : World) (whole : List Line) (written : List ℕ) → written ≡ [] → Told c first whole first whole written
told_start c first whole written none more plays = (more, plays, ap (λ (t : List ℕ). t ++ said more) (sym none))

pub told_more : (c : Shape) (first : World) (whole : List Line) (world next : World) (name : PassName) (act : Act) (rest : List Line) (written new : List ℕ) (reply : Answer) → Told c first whole world (By name act ∷ rest) written → Acts c world name.0 act reply next → new ≡ written ++ (answer_text reply ++ codes "\n") → Told c first whole next rest new
told_more c first whole world next name act rest written new reply told acts is more plays =
    let t = told (reply ∷ more) (next, acts, plays) in
    (t.0, t.1, t.2 ∙ sym (append_assoc written (answer_text reply ++ codes "\n") (said more)) ∙ ap (λ (w : List ℕ). w ++ said more) (sym is))

pub told_finish : (c : Shape) (first : World) (whole : List Line) (world : World) (rest : List Line) (written new : List ℕ) (values : List (List ℕ)) → Told c first whole world (Finish ∷ rest) written → rest ≡ [] → Ends c world values → new ≡ written ++ (answer_text (answer.Rest values) ++ codes "\n") → (answers : List Answer) × Plays c first whole answers × (new ≡ said answers)
told_finish c first whole world rest written new values told last ends is =
    let plays : Plays c world (Finish ∷ rest) (answer.Rest values ∷ []) = subst (λ (ls : List Line). Plays c world (Finish ∷ ls) (answer.Rest values ∷ [])) (sym last) ends in
    let t = told (answer.Rest values ∷ []) plays in
    (t.0, t.1, is ∙ ap (λ (w : List ℕ). written ++ w) (sym (append-nil _)) ∙ sym t.2)

pub told_end : (c : Shape) (first : World) (whole : List Line) (world : World) (written : List ℕ) → Told c first whole world [] written → (answers : List Answer) × Plays c first whole answers × (written ≡ said answers)
told_end c first whole world written told =
    let t = told [] tt in
    (t.0, t.1, sym (t.2 ∙ append-nil written))

-- the same of the lines of the trace, too: `traced` are those so far
module _ {R P O : Type 0} (r : Reading R P O) (is_step : O → StepName → Type 0) where
  pub record TracedTold (first : World) (whole : List Line) (world : World) (held : List (Place P O)) (rest : List Line) (written : List ℕ) (traced : List (List ℕ)) : Type 0 where
    pub go_on : (more : List Answer) (left : List (List ℕ)) → PlaysTraced r is_step world held rest more left → (answers : List Answer) × PlaysTraced r is_step first nothing_held whole answers (traced ++ left) × (said answers ≡ written ++ said more)

  pub traced_start : (first : World) (whole : List Line) (held : List (Place P O)) (written : List ℕ) → held ≡ nothing_held → written ≡ [] → TracedTold first whole first held whole written []
  traced_start first whole held written nothing none = record { go_on = λ more left plays. (more, subst (λ (h : List (Place P O)). PlaysTraced r is_step first h whole more left) nothing plays, ap (λ (t : List ℕ). t ++ said more) (sym none)) }

  pub traced_more : (first : World) (whole : List Line) (world next : World) (held holds : List (Place P O)) (name : PassName) (act : Act) (rest : List Line) (written new : List ℕ) (traced made : List (List ℕ)) (reply : Answer) → TracedTold first whole world held (By name act ∷ rest) written traced → ShowsAll r holds next.names → ActsTraced r is_step world held name act reply made next holds → new ≡ written ++ (answer_text reply ++ codes "\n") → TracedTold first whole next holds rest new (traced ++ made)
  traced_more first whole world next held holds name act rest written new traced made reply told shows acts is = record {
    go_on = λ more left plays.
        let t = told.go_on (reply ∷ more) (made ++ left) (next, holds, made, left, shows, acts, refl, plays) in (
          t.0,
          subst (λ (ls : List (List ℕ)). PlaysTraced r is_step first nothing_held whole t.0 ls) (sym (append_assoc traced made left)) t.1,
          t.2 ∙ sym (append_assoc written (answer_text reply ++ codes "\n") (said more)) ∙ ap (λ (w : List ℕ). w ++ said more) (sym is),
        );
  }

  pub traced_finish : (first : World) (whole : List Line) (world : World) (held : List (Place P O)) (rest : List Line) (written new : List ℕ) (traced : List (List ℕ)) (values : List (List ℕ)) → TracedTold first whole world held (Finish ∷ rest) written traced → rest ≡ [] → Ends r.shape world values → new ≡ written ++ (answer_text (answer.Rest values) ++ codes "\n") → (answers : List Answer) × PlaysTraced r is_step first nothing_held whole answers traced × (new ≡ said answers)
  traced_finish first whole world held rest written new traced values told last ends is =
      let plays : PlaysTraced r is_step world held (Finish ∷ rest) (answer.Rest values ∷ []) [] = subst (λ (ls : List Line). PlaysTraced r is_step world held (Finish ∷ ls) (answer.Rest values ∷ []) []) (sym last) (ends, refl) in
      let t = told.go_on (answer.Rest values ∷ []) [] plays in
      (t.0, subst (λ (ls : List (List ℕ)). PlaysTraced r is_step first nothing_held whole t.0 ls) (append-nil traced) t.1, is ∙ ap (λ (w : List ℕ). written ++ w) (sym (append-nil _)) ∙ sym t.2)

  pub traced_end : (first : World) (whole : List Line) (world : World) (held : List (Place P O)) (written : List ℕ) (traced : List (List ℕ)) → TracedTold first whole world held [] written traced → (answers : List Answer) × PlaysTraced r is_step first nothing_held whole answers traced × (written ≡ said answers)
  traced_end first whole world held written traced told =
      let t = told.go_on [] [] refl in
      (t.0, subst (λ (ls : List (List ℕ)). PlaysTraced r is_step first nothing_held whole t.0 ls) (append-nil traced) t.1, sym (t.2 ∙ append-nil written))

-- a meet names another letter
pub meets_another : (order : Order) (name : ℕ) (act : Act) (other : PassName) → act ≡ Meet other → IsAct act → IsTrue (is_act order name act) → IsTrue (is_ascii_lowercase other.0) × (name ≢ other.0)
meets_another order name act other is good allowed =
    let lower : IsAct (Meet other) = rw is at good in
    let apart : IsTrue (is_act order name (Meet other)) = rw is at allowed in
    (lower, λ e. grind (arith, apart, e))

-- a script with ranges or folds is a stack's
is_lifo : (order : Order) → IsTrue (is_bulk order) → order ≡ Lifo
is_lifo Fifo bulk = absurd cc
is_lifo Lifo bulk = refl

pub is_for : (order : Order) (name : ℕ) (act : Act) → IsTrue (is_act order name act) → IsFor order act
is_for order name (Call command) allowed = tt
is_for order name (Begin command) allowed = tt
is_for order name (Step count) allowed = tt
is_for order name (Range values) allowed = is_lifo order allowed
is_for order name Fold allowed = is_lifo order allowed
is_for order name ReversedFold allowed = is_lifo order allowed
is_for order name (Meet other) allowed = tt
is_for order name Drop allowed = tt

pub on_ok_more : {A E : Type 0} {P Q : Type 0} (result : Result A E) → (P → Q) → OnOk result P → OnOk result Q
on_ok_more (Ok a) more p = more p
on_ok_more (Err e) more p = p
