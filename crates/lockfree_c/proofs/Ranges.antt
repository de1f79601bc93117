-- A put of a range that has made no step has no node, so it has made its steps since its pass began it.
use Rattle.std.proofs.lemmas.Bool.{false≢true}
use Rattle.std.proofs.Common.{◌≡◌, ℕ, zero, suc, Bool, true, false, List, [], ◌∷◌, ◌++◌, length, refl, sym, ap, ◌∙◌, subst, length-append, arith}
use Rattle.std.specs.Prelude.{Option as Slot, Result, Ok, Err}
use Rattle.bounded_model.specs.declared.answers.Stepped.TheVariants as stepped
use Rattle.bounded_model.specs.declared.bulk.Ranged.{Ranged}
use Rattle.bounded_model.specs.declared.bulk.RangeRefused.{RangeRefused}
use Rattle.bounded_model.specs.declared.history.Event.{Event}
use Rattle.bounded_model.specs.declared.history.Event.TheVariants.{Free}
use Rattle.bounded_model.specs.declared.views.PassView.{PassView}
use Rattle.bounded_model.specs.Histories.{own}
use Rattle.bounded_model.specs.Laws.{gave_back}
use Rattle.machine.specs.Seats.{pass_of}
use Rattle.running.specs.Passes.{pass_in as pass_now}
use Rattle.running.specs.declared.passes.Pass.{Pass}
use Rattle.stack_machine.specs.Deeds.{Deeds, HasMade, Makes}
use Rattle.stack_machine.specs.declared.lines.Answer.TheVariants.{Put as AnswerPut}
use Rattle.stack_machine.specs.declared.lines.Call.{Call}
use Rattle.stack_machine.specs.declared.lines.Call.TheVariants.{Put as CallPut, Take as CallTake}
use Rattle.stack_machine.specs.declared.lines.Giving.{Giving}
use Rattle.stack_machine.specs.declared.lines.Line.{Line}
use Rattle.stack_machine.specs.declared.lines.Putting.{Putting}
use Rattle.stack_machine.specs.declared.lines.Taking.TheVariants.{One, Whole}
use Rattle.stack_table.specs.Lines.{call_of}
use Rattle.stack_table.specs.declared.operation.Operation.{Operation}
use Rattle.treiber_stack.specs.code.Giving.{give_line}
use Rattle.treiber_stack.specs.code.Ranging.{IsRangeAt, refused}
use Rattle.treiber_stack.specs.code.RangeTrying.{IsRangeOp, MadeWith, RangeOp, gives_back, left_at, left_by}
use Rattle.treiber_stack.specs.Bulk.{RangeSteps}
use Rattle.treiber_stack.specs.code.Refusing.{barring}
use Rattle.treiber_stack.specs.code.Steps.{IsAt}
use Rattle.treiber_stack.specs.Calls.{Stack, begun_of, pass_in, shape_of}
use Rattle.treiber_stack.specs.declared.bulk.range_steps.Held.{Held}
use Rattle.treiber_stack.specs.declared.bulk.range_steps.RangeAt.{RangeAt}
use Rattle.treiber_stack.specs.declared.bulk.range_steps.RangeAt.TheVariants.{GiveBack}
use Rattle.treiber_stack.specs.declared.code.giving.Give.{Give}
use Rattle.treiber_stack.specs.declared.code.giving.Give.TheVariants.{Load, Link, Exchange}
use Rattle.treiber_stack.specs.declared.code.refusing.Barred.{Barred}
use Rattle.treiber_stack.specs.declared.code.refusing.Barred.TheVariants.{Closed, Spent}
use Rattle.lockfree_c.specs.Stacks.{RangeTook, RangeTookFrom, RangeWentOn, RangeWorkedAtMost, StackMade}
use Rattle.lockfree_c.specs.declared.calls.stack.StackWork.TheVariants.{Copy}
use Rattle.lockfree_c.specs.declared.work.Said.TheVariants as said
use Rattle.lockfree_c.specs.declared.work.Worked.TheVariants.{Again, Done}

-- a history that has not grown has nothing between
no_more : {A : Type 0} (xs ys : List A) → xs ≡ ys ++ xs → ys ≡ []
no_more xs [] e = refl
no_more xs (y ∷ ys) e = absurd (omega (arith, ap length e, length-append (y ∷ ys) xs))

-- a range gives no chain back that has taken no node
free_alone : (p k n : ℕ) → Free p k ∷ [] ≡ gave_back {T = ℕ} p n → ⊥
free_alone p k zero e = absurd (omega (arith, ap length e))
free_alone p k (suc n) e = absurd (omega (arith, ap length e))

gives_none : (p k : ℕ) (call : Call ℕ) (why : Barred) (vs : List ℕ) → Makes p call (AnswerPut (Err (barring why vs))) (Free p k ∷ []) → ⊥
gives_none p k (CallPut v others) Closed vs made = free_alone p k made.1.nodes made.1.is
gives_none p k (CallPut v others) (Spent t) vs made = free_alone p k made.1.nodes made.1.is
gives_none p k (CallTake One) why vs made = made
gives_none p k (CallTake (Whole d)) why vs made = made
gives_none p k call why vs made = made

-- on its way back it has its chain still to give
to_give : (p : ℕ) (call : Call ℕ) (g : Giving ℕ) (at : Give) (events : List (Event ℕ)) → HasMade p call (give_line g at) events → Makes p call g.answer (Free p (length g.chain) ∷ events)
to_give p call g Load events made = made
to_give p call g (Link w) events made = made
to_give p call g (Exchange w) events made = made

module _ (c : Stack ℕ) (o : Operation ℕ) (p : Pass ℕ (Line ℕ)) (no_step : begun_of c p ≡ pass_now p) (put : Putting ℕ) where
  -- it has taken no node, so it is not on its way back
  not_on_way : (why : Barred) (at : Give) (slots : List (ℕ × Slot ℕ)) → IsAt c o p (give_line (refused put why) at) slots → ⊥
  not_on_way why at slots is =
      let going = is.at.going in
      let n = going.pass.number in
      let now = no_step ∙ ap pass_of going.is in
      let deeds = subst (λ (v : PassView ℕ). Deeds (shape_of c) n (call_of o) (give_line (refused put why) at) v.seen going.pass.seen) now going.deeds in
      let none = no_more going.pass.seen deeds.between deeds.is in
      let made = to_give n (call_of o) (refused put why) at (own n deeds.between) deeds.made in
      gives_none n (length put.chain) (call_of o) why put.values (subst (λ (b : List (Event ℕ)). Makes n (call_of o) (refused put why).answer (Free n (length put.chain) ∷ own n b)) none made)

  not_back : (held : Held) (at : RangeAt) → IsRangeAt c o p put held at → gives_back at ≡ false
  not_back held (GiveBack why at) is = absurd (not_on_way why at _ is.line)
  not_back held at is = refl

module _ (c : Stack ℕ) (vs : List ℕ) (op : RangeOp ℕ) (is : IsRangeOp c vs op) (v : PassView ℕ) (begun : begun_of c op.pass ≡ v) (now : pass_now op.pass ≡ v) where
  -- a put that was begun, and has made no step
  on_its_way : gives_back op.at.at ≡ false
  on_its_way = not_back c op.operation op.pass (begun ∙ sym now) _ op.at.held op.at.at is.at.is

  module _ (n : ℕ) (left : left_at op.at.at op.at.held ≡ 0) where
    no_node : op.at.held.count ≡ 0
    no_node = subst (λ (b : Bool). left_by b op.at.held.count ≡ 0) on_its_way left

    went_on : (next : RangeOp ℕ) → RangeSteps n op (stepped.Again next) → RangeWentOn n v next
    went_on next took on =
        let t = took (on ∙ sym on_its_way) in
        let none = no_node in
        let counts = t.1 in
        let same : t.0 ≡ next.at.held.count = omega (arith, counts, none) in
        let steps : (pass_now op.pass).steps ≡ v.steps = ap (λ (w : PassView ℕ). w.steps) now in (
          subst (λ (w : PassView ℕ). MadeWith n next.at.held.count w (pass_now next.pass)) now (subst (λ k. MadeWith n k (pass_now op.pass) (pass_now next.pass)) same t.2),
          λ z. let exact = t.3 (same ∙ z) in omega (arith, exact, steps),
        )

    -- it was tried, and has made its steps since then
    pub took_from : (made : StackMade) → RangeTook n op made → RangeTookFrom n v made
    took_from (Again (Copy next)) took = went_on next took
    took_from (Done back (said.Range (Ok put))) took =
        let none = no_node in
        let counts = took.1 in
        let same : took.0 ≡ put.count = omega (arith, counts, none) in
        subst (λ (w : PassView ℕ). MadeWith n put.count w (pass_in back)) now (subst (λ k. MadeWith n k (pass_now op.pass) (pass_in back)) same took.2)
    took_from (Done back (said.Range (Err why))) took = tt
    took_from made took = absurd took

-- one that its begin has ended has made no step
pub at_once : (n : ℕ) (v : PassView ℕ) (back : _) (answer : Result Ranged RangeRefused) → pass_in back ≡ v → RangeTookFrom n v (Done back (said.Range answer))
at_once n v back (Ok put) same = let steps : (pass_in back).steps ≡ v.steps = ap (λ (w : PassView ℕ). w.steps) same in omega (arith, steps)
at_once n v back (Err why) same = tt

pub most_at_once : (n : ℕ) (values : List ℕ) (v : PassView ℕ) (back : _) (answer : Result Ranged RangeRefused) → pass_in back ≡ v → RangeWorkedAtMost n values v (Done back (said.Range answer))
most_at_once n values v back answer same = let steps : (pass_in back).steps ≡ v.steps = ap (λ (w : PassView ℕ). w.steps) same in omega (arith, steps)
