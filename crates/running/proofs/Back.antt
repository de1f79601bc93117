-- The pass that comes back from an operation.
use Rattle.std.proofs.Common.{◌≡◌, ℕ, Bool, true, sym, ap, ◌∙◌, subst}
use Rattle.atomic_table.specs.Seated.{TableId}
use Rattle.bounded_model.specs.declared.answers.Stepped.{Stepped}
use Rattle.bounded_model.specs.declared.answers.Stepped.TheVariants.{Again, Done}
use Rattle.bounded_model.specs.declared.views.PassView.{PassView}
use Rattle.bounded_model.specs.Stepping.{GoesOn, MatchStepped, OneStep}
use Rattle.machine.specs.Seats.{pass_of}
use Rattle.machine.specs.declared.seats.View.{View}
use Rattle.running.specs.Code.{Account}
use Rattle.running.specs.Going.{Ended}
use Rattle.running.specs.Kept.{HasNewCall, IsPassAt, acts_in, Makes, OpRunsFor, OpSteps, Returned, Took, Tried, pass_in, underway_in}
use Rattle.running.specs.Machine.{Names, Machine}
use Rattle.running.specs.Ops.{IsUnderWay}
use Rattle.running.specs.Passes as passes
use Rattle.running.specs.Rule.{line_in}
use Rattle.running.specs.Since.{HasNew, NewActs}
use Rattle.running.specs.Steps.{Ran}
use Rattle.running.specs.declared.code.Next.{Next}
use Rattle.running.specs.declared.code.Next.TheVariants.{On, Done as Ended_now}
use Rattle.running.specs.declared.kept.Answered.{Answered}
use Rattle.running.specs.declared.kept.PassWith.{PassWith}
use Rattle.running.specs.declared.op.Op.{Op}
use Rattle.running.specs.declared.passes.Pass as runs
use Rattle.running.proofs.Going.{rests_at}
use Rattle.running.proofs.Leading.{ended, since_none}
use Rattle.running.proofs.Ways.{begun_is}

module _ {T L O K R S : Type 0} {names : Names L O} (m : Machine T L O names) (c : Account T L O S (Answered K R)) (Keeps : L → K → Type 0) (id : TableId) (Gives : O → PassView T → PassView T → R → Type 0)
    (idle : (o : O) (a : Answered K R) → names.is_idle (c.answer o a) ≡ true)
    (given : (o : O) (v : View T L) (begun : PassView T) (a : Answered K R) → Ended m o v begun (c.answer o a) → Gives o begun (pass_of v) a.reply)
    (kept : (o : O) (a : Answered K R) → Keeps (names.quiet (c.answer o a)) a.kept) where
  abbrev back : runs.Pass T L → Answered K R → PassWith T L K
  back q a = record { pass = q; kept = a.kept }

  -- an operation that has ended returns its pass
  pub returned : (o : O) (begun : PassView T) (q : runs.Pass T L) (a : Answered K R) → passes.IsPassOn m id q → Ended m o q.seat.me.0 begun (c.answer o a) → Returned m c Keeps id Gives o begun (back q a) a.reply
  returned o begun q a on e = record {
    of = record { on = on; keeps = subst (λ (l : L). Keeps l a.kept) (sym (rests_at m (c.answer o a) q.seat.me.0 e.view)) (kept o a) };
    gives = given o q.seat.me.0 begun a e;
    ended = e;
    ran = e.ran (idle o a);
  }

  -- and so does one that some steps of a call have ended
  pub has_returned_by : (o : O) (by q : runs.Pass T L) (a : Answered K R) → Ran m c id o by q (Ended_now a) → Returned m c Keeps id Gives o (passes.begun_of m by) (back q a) a.reply
  has_returned_by o by q a ran = let e = ended m c id o (passes.begun_of m by) q a (idle o a) ran.0 in returned o (passes.begun_of m by) q a e.0 e.1

  module _ (o : O) (by : PassWith T L K) (is : IsPassAt m Keeps id by) where
    -- as its pass was, if it was between its calls
    pub has_returned : (q : runs.Pass T L) (a : Answered K R) → Ran m c id o by.pass q (Ended_now a) → Returned m c Keeps id Gives o (pass_in by) (back q a) a.reply
    has_returned q a ran = subst (λ (v : PassView T). Returned m c Keeps id Gives o v (back q a) a.reply) (begun_is m id by.pass is.on) (has_returned_by o by.pass q a ran)

    -- by what the code found in the result of its first steps
    pub has_returned_now : (q : runs.Pass T L) (next : Next S (Answered K R)) (a : Answered K R) (found : Next S (Answered K R) → Answered K R) (at : PassWith T L K) (reply : R) → next ≡ Ended_now a → found (Ended_now a) ≡ a → at ≡ record { pass = q; kept = (found next).kept } → reply ≡ (found next).reply → Ran m c id o by.pass q next
        → Returned m c Keeps id Gives o (pass_in by) at reply
    has_returned_now q next a found at reply now same is_at is_reply ran =
        let b = has_returned q a (subst (λ (n : Next S (Answered K R)). Ran m c id o by.pass q n) now ran) in
        let f = subst (λ (x : Answered K R). Returned m c Keeps id Gives o (pass_in by) (record { pass = q; kept = x.kept }) x.reply) (sym same) b in
        let n = subst (λ (n : Next S (Answered K R)). Returned m c Keeps id Gives o (pass_in by) (record { pass = q; kept = (found n).kept }) (found n).reply) (sym now) f in
        subst (λ (p : PassWith T L K). Returned m c Keeps id Gives o (pass_in by) p reply) (sym is_at) (subst (λ (r : R). Returned m c Keeps id Gives o (pass_in by) (record { pass = q; kept = (found next).kept }) r) (sym is_reply) n)

-- what some steps of a call came to is what a call that was tried gives
module _ {T L O K R S : Type 0} {names : Names L O} (m : Machine T L O names) (c : Account T L O S (Answered K R)) (Keeps : L → K → Type 0) (id : TableId) (Gives : O → PassView T → PassView T → R → Type 0) (o : O) (begun : PassView T) (IsCall : O → Type 0) (call : IsCall o) (So : PassView T → R → Type 0) (so : (w : PassView T) (r : R) → Gives o begun w r → So w r) where
  pub tried : (made : Stepped (Op T L O S) (PassWith T L K) R) → Took m c Keeps id Gives o begun made → Tried m c Keeps id IsCall begun So made
  tried (Again next) t = (record { call = subst IsCall (sym t.0) call; under_way = t.1 }, t.2)
  tried (Done at reply) t = (t.of, so (pass_in at) reply t.gives, record { operation = o; call = call; ran = t.ran })

-- the steps of an operation that makes any call, by what each call gives
module _ {T L O K R S D : Type 0} {names : Names L O} (m : Machine T L O names) (c : Account T L O S (Answered K R)) (Keeps : L → K → Type 0) (id : TableId) (IsCall : D → O → Type 0) (Gives : D → PassView T → PassView T → R → Type 0) where
  abbrev Promises : O → PassView T → PassView T → R → Type 0
  Promises o begun now r = (call : D) → IsCall call o → Gives call begun now r

  abbrev IsMaking : D → Op T L O S → Type 0
  IsMaking call op = Makes m c id (IsCall call) op

  pub stepped : (op : Op T L O S) (made : Stepped (Op T L O S) (PassWith T L K) R) → OpSteps m c Keeps id Promises op made → (call : D) → IsMaking call op → MatchStepped made
      (λ next. IsMaking call next × GoesOn (underway_in names op.pass) (underway_in names next.pass))
      (λ at reply. IsPassAt m Keeps id at × OneStep (underway_in names op.pass).now (pass_in at) × Gives call (underway_in names op.pass).begun (pass_in at) reply)
  stepped op (Again next) e call is = (record { call = subst (IsCall call) (sym e.2) is.call; under_way = e.0 }, e.1)
  stepped op (Done at reply) e call is = (e.0.of, e.1, e.0.gives call is.call)

  pub stepped_for : (n : ℕ) (op : Op T L O S) (made : Stepped (Op T L O S) (PassWith T L K) R) → OpRunsFor m c Keeps id Promises n op made → (call : D) → IsMaking call op → MatchStepped made
      (λ next. IsMaking call next × ((underway_in names next.pass).begun ≡ (underway_in names op.pass).begun))
      (λ at reply. IsPassAt m Keeps id at × Gives call (underway_in names op.pass).begun (pass_in at) reply)
  stepped_for n op (Again next) e call is = (record { call = subst (IsCall call) (sym e.2) is.call; under_way = e.0 }, e.1)
  stepped_for n op (Done at reply) e call is = (e.0.of, e.0.gives call is.call)

-- an operation that was begun has run no step yet
module _ {T L O K S A : Type 0} {names : Names L O} (m : Machine T L O names) (c : Account T L O S A) (Keeps : L → K → Type 0) (id : TableId) (by : PassWith T L K) (is : IsPassAt m Keeps id by) where
  pub runs_from : (op : Op T L O S) → IsUnderWay m c id op → op.pass ≡ by.pass → Ran m c id op.operation by.pass op.pass (On op.at)
  runs_from op way same = (way.stands, way.named, subst (λ (q : runs.Pass T L). passes.Since m by.pass q) (sym same) (since_none m c id by.pass))

-- a pass that was between its calls has begun a new one
module _ {T L O K : Type 0} {names : Names L O} (m : Machine T L O names) (id : TableId) (by : PassWith T L K) (on : passes.IsPassOn m id by.pass) where
  rests_idle : names.is_idle (line_in names by.pass.seat.me.0) ≡ true
  rests_idle = ap (λ (v : View T L). names.is_idle (line_in names v)) on.rests.view ∙ names.rests (line_in names by.pass.seat.me.0)

  pub new_call : (back : PassWith T L K) → HasNew names by.pass.seat.me.0 back.pass.seat.me.0 → HasNewCall by back
  new_call back n = subst (λ (b : Bool). NewActs b (acts_in by) (acts_in back) (pass_in by).number) rests_idle n

-- by what the code found in the result of its first steps
module _ {T L O K S A : Type 0} {names : Names L O} (m : Machine T L O names) (c : Account T L O S A) (id : TableId) (by : PassWith T L K) (on : passes.IsPassOn m id by.pass) where
  pub new_call_now : (o : O) (q : runs.Pass T L) (next : Next S A) (a : A) (back : PassWith T L K) → next ≡ Ended_now a → back.pass ≡ q → Ran m c id o by.pass q next → HasNewCall by back
  new_call_now o q next a back now same ran =
      let ended = subst (λ (n : Next S A). Ran m c id o by.pass q n) now ran in
      new_call m id by on back (subst (λ (p : runs.Pass T L). HasNew names by.pass.seat.me.0 p.seat.me.0) (sym same) ended.1)
