-- What a fold gives, and where its first steps and its last lead.
use Rattle.std.proofs.Common.{◌≡◌, ℕ, ◌≤◌, Bool, false, List, [], ◌∷◌, ◌++◌, length, refl, sym, ap, ◌∙◌, subst, length-append, arith}
use Rattle.std.specs.Prelude.{take, Option as Slot, Ok, Err}
use Rattle.bounded_model.specs.declared.answers.TakeRefused.TheVariants.{Shut}
use Rattle.bounded_model.specs.declared.history.Event.TheVariants.{TakeAll as TakeAllEvent}
use Rattle.bounded_model.specs.declared.views.Answered.TheVariants.{Fold as FoldAnswered}
use Rattle.bounded_model.specs.Consumes.{Folds}
use Rattle.bounded_model.specs.Laws.{TakesNothing}
use Rattle.stack_machine.proofs.Made.{made_no_fold}
use Rattle.treiber_stack.specs.Prelude.{AnswerFold, Answers, CallTake, Done, Ended, Event, Finding, FoldAnswers, FoldFirst, FoldGives, Free, Front}
use Rattle.treiber_stack.specs.Prelude.{Leads, Line, Next, Operation, Outcome, Pass, PassView, Stops, StopsAt, TakeRefused, View, Whole, direction}
use Rattle.treiber_stack.specs.Prelude.{ends, full, in_order, is_idle, length_in_order, names, next, own, pass_in, pass_of, values_full}
use Rattle.treiber_stack.specs.declared.bulk.fold_op.FoldMade.TheVariants.{Value, Done as Done'}
use Rattle.treiber_stack.specs.declared.bulk.folding.Batch.{Batch}
use Rattle.treiber_stack.specs.declared.bulk.folding.FoldAt.{FoldAt}
use Rattle.treiber_stack.specs.declared.bulk.folding.FoldAt.TheVariants.{Load, TakeAll, LoadToTurn, TurnLink, LoadToFold, GiveBack}
use Rattle.treiber_stack.specs.declared.bulk.folding.FoldStop.{FoldStop}
use Rattle.treiber_stack.specs.declared.bulk.folding.FoldStop.TheVariants.{Yields, Ended as AllGone, Refused}
use Rattle.treiber_stack.specs.declared.code.giving.Chain.{Chain}
use Rattle.treiber_stack.specs.declared.code.giving.Give.{Give}
use Rattle.treiber_stack.specs.code.Folding.{fold_account, nodes_of, folded_of, folding, front_of, gone, fold_line, fold_slots, HasReadToFold, FoldTold}
use Rattle.treiber_stack.specs.Bulk.{FoldOp, IsFoldingWith, FoldTriedWith}
use Rattle.treiber_stack.specs.code.Steps.{GaveTo, as_pass, IsAtWith}
use Rattle.treiber_stack.specs.Calls.{WasRunWith, WasFoldedWith, StackWith, room_of, limit_of, machine_of, machine_with, shape_of, begun_with}
use Rattle.treiber_stack.specs.code.Refusing.{RefusesTake}
use Rattle.treiber_stack.specs.code.KeepsAnswers.{adds_of}
use Rattle.treiber_stack.proofs.Gives.{busy_giving, within, gave_within}

-- one value more is folded
pub Folds_more : {T S : Type 0} (Gives : S → T → S → Type 0) (s : S) (xs : List T) (r t : S) (x : T) → Folds Gives s xs r → Gives r x t → Folds Gives s (xs ++ x ∷ []) t
Folds_more Gives s [] r t x folds next = (t, subst (λ (q : _). Gives q x t) (sym folds) next, refl)
Folds_more Gives s (y ∷ ys) r t x folds next = (folds.0, folds.1, Folds_more Gives folds.0 ys r t x folds.2 next)

pub folds_same : {T S : Type 0} (Gives : S → T → S → Type 0) (s : S) (xs ys : List T) (r : S) → xs ≡ ys → Folds Gives s xs r → Folds Gives s ys r
folds_same Gives s xs ys r e folds = subst (λ (zs : List _). Folds Gives s zs r) e folds

module _ {T : Type 0} (rule : List (Event T) → Type 0) {D : Type 0} (c : StackWith T D) (front : Front) {v : View T (Line T)} {begun : PassView T} where
  pub fold_gives : (folded : List T) (t : ℕ) (e : Ended (machine_with rule c) (FoldFirst front) v begun (ends (AnswerFold (Ok (folded, t))))) → FoldGives begun (pass_of v) e.deeds.made.values t
  fold_gives folded t e =
      let made = e.deeds.made in
      let vs = made.values in
      adds_of rule c.table.shared.key e (Free begun.number (length vs) ∷ TakeAllEvent begun.number vs t ∷ []) (made.is ∙ ap (λ (k : ℕ). Free k (length vs) ∷ TakeAllEvent k vs t ∷ []) e.number)

  pub takes_nothing : (why : TakeRefused) → Ended (machine_with rule c) (FoldFirst front) v begun (ends (AnswerFold (Err why))) → TakesNothing (shape_of c) begun (pass_of v) why
  takes_nothing why e = (adds_of rule c.table.shared.key e [] (made_no_fold (pass_of v).number (own (pass_of v).number e.deeds.between) (CallTake (Whole (direction front))) why e.deeds.made), e.tells)

-- the operation of a fold says which end it goes from
pub front_same : {T : Type 0} (f g : Front) → ◌≡◌ {A = Operation T} (FoldFirst f) (FoldFirst g) → f ≡ g
front_same {T} f g e = ap (front_in f) e
  where
    front_in : Front → Operation T → Front
    front_in d (FoldFirst h) = h
    front_in d o = d

-- a fold that hands out a value has not answered yet
pub fold_busy : {T : Type 0} (at : FoldAt T) → is_idle (fold_line at) ≡ false
fold_busy (Load front) = refl
fold_busy (TakeAll front w) = refl
fold_busy (LoadToTurn b above i) = refl
fold_busy (TurnLink b above i below) = refl
fold_busy (LoadToFold b walk) = refl
fold_busy (GiveBack b chain n at) = busy_giving (folding b (nodes_of b)) at

-- where the code of a fold goes on
module _ {T : Type 0} {D : Type 0} (c : StackWith T D) where
  abbrev pub FoldsTo : FoldAt T → List (ℕ × Slot T) → Next (FoldAt T) (FoldStop T) → Line T → Type 0
  FoldsTo s has to l = Leads names (fold_account c.table.shared.key) s l has to

  abbrev pub Folding : FoldAt T → Outcome → List (ℕ × Slot T) → List (ℕ × Slot T) → Next (FoldAt T) (FoldStop T) → Type 0
  Folding s r had has to = Finding (machine_of c).core (fold_line s) r (fold_slots s) had (λ found came. FoldsTo s has to (next (room_of c) (limit_of c) (fold_line s) found came))

  pub refused : {s : FoldAt T} {front : Front} → s ≡ Load front → (r : Outcome) (had : List (ℕ × Slot T)) (why : TakeRefused) (w : ℕ) → w ≡ r.word → RefusesTake T (limit_of c) w why → Folding s r had had (Done (Refused why))
  refused {s} {front} is r had why w read refuses = subst (λ (k : FoldAt T). Folding k r had had (Done (Refused why))) (sym is)
      (λ kept. record { is = subst (λ (x : ℕ). RefusesTake T (limit_of c) x why) read refuses (Whole (direction front)); hand = kept })

  -- by the give inside it
  pub gave_fold : {s : FoldAt T} {b : Batch T} {chain : Chain} {n : ℕ} {at : Give} → s ≡ GiveBack b chain n at → HasReadToFold (room_of c) (limit_of c) s → (r : Outcome) (has : List (ℕ × Slot T)) (to : Next Give (Unit {0})) → GaveTo c (folding b (nodes_of b)) at r has to → Folding s r has has (within (GiveBack b chain n) (AllGone b n) to)
  gave_fold {s} {b} {chain} {n} {at} is knows r has to gave = subst (λ (k : FoldAt T). Folding k r has has (within (GiveBack b chain n) (AllGone b n) to)) (sym is)
      (gave_within c (fold_account c.table.shared.key) (folding b (nodes_of b)) (GiveBack b chain n) (AllGone b n) (GiveBack b chain n at)
      (λ at'. refl) (λ at'. refl) (λ at'. refl) (λ at'. subst (HasReadToFold (room_of c) (limit_of c)) is knows) refl at r has to gave)

module _ {T : Type 0} (rule : List (Event T) → Type 0) {D : Type 0} (c : StackWith T D) where
  abbrev pub FoldStops : Front → PassView T → Pass T (Line T) → FoldStop T → Type 0
  FoldStops front begun q stop = Stops (machine_with rule c) (fold_account c.table.shared.key) c.table.shared.table_id (FoldFirst front) begun q stop

  -- what a fold gives that was at `op` and has stopped
  module _ (front : Front) (values : List T) (op : FoldOp T) (is : IsFoldingWith rule c front values op) (q : Pass T (Line T)) (stop : FoldStop T) (stops : FoldStops front (begun_with rule c op.pass) q stop)
      (told : FoldTold (room_of c) (limit_of c) (front_of op.at) (gone op.at) stop) where
    pub hands_on : (v : T) (at : FoldAt T) → stop ≡ Yields v at → FoldTriedWith rule c front values (begun_with rule c op.pass) (Value v (record { pass = q; operation = op.operation; at = at }))
    hands_on v at e =
        let t = subst (FoldTold (room_of c) (limit_of c) (front_of op.at) (gone op.at)) e told in
        let from = t.1 ∙ is.from in
        let r = subst (λ (b : Bool). StopsAt (machine_with rule c) (fold_account c.table.shared.key) c.table.shared.table_id b (FoldFirst front) (begun_with rule c op.pass) q (Yields v at)) (fold_busy at) (subst (FoldStops front (begun_with rule c op.pass) q) e stops) in (
          record {
            under_way = record {
              named = is.under_way.named ∙ ap FoldFirst (is.from ∙ sym from);
              stands = record { at = subst (λ (f : Front). IsAtWith rule c (FoldFirst f) q (fold_line at) (fold_slots at)) (sym from) r.0; knows = t.0 };
            };
            from = from;
            handed = t.2 ∙ ap (λ (vs : List T). vs ++ v ∷ []) is.handed;
          },
          r.1,
        )

    pub all_answered : (b : Batch T) (n : ℕ) → stop ≡ AllGone b n → FoldAnswers (in_order (direction front)) (Ok (record { number = b.number; count = n })) (begun_with rule c op.pass) (pass_in q)
    all_answered b n e =
        let r = (subst (FoldStops front (begun_with rule c op.pass) q) e stops).1 in
        let made = r.deeds.made in
        (made.values, fold_gives rule c front (folded_of b) b.number r, subst (λ (vs : List T). Answers (begun_with rule c op.pass) (pass_in q) (FoldAnswered (Ok (vs, b.number)))) made.order r.answered)

    pub none_answered : (why : TakeRefused) → stop ≡ Refused why → FoldAnswers (in_order (direction front)) (Err why) (begun_with rule c op.pass) (pass_in q)
    none_answered why e = (subst (FoldStops front (begun_with rule c op.pass) q) e stops).1.answered

    pub all_gone : (b : Batch T) (n : ℕ) → stop ≡ AllGone b n → FoldTriedWith rule c front values (begun_with rule c op.pass) (Done' (as_pass q) (Ok (record { number = b.number; count = n })))
    all_gone b n e =
        let r = subst (FoldStops front (begun_with rule c op.pass) q) e stops in
        let made = r.1.deeds.made in
        let t = subst (FoldTold (room_of c) (limit_of c) (front_of op.at) (gone op.at)) e told in
        let order = sym is.handed ∙ t.0 ∙ made.order in
        (record { on = r.0; keeps = tt }, (made.values, fold_gives rule c front (folded_of b) b.number r.1, sym t.1 ∙ ap length is.handed ∙ ap length order ∙ length_in_order (direction front) made.values, order), all_answered b n e)

    pub none_taken : (why : TakeRefused) → stop ≡ Refused why → FoldTriedWith rule c front values (begun_with rule c op.pass) (Done' (as_pass q) (Err why))
    none_taken why e =
        let r = subst (FoldStops front (begun_with rule c op.pass) q) e stops in
        (record { on = r.0; keeps = tt }, (takes_nothing rule c front why r.1, sym is.handed ∙ subst (FoldTold (room_of c) (limit_of c) (front_of op.at) (gone op.at)) e told), none_answered why e)

    -- it was run, as one call
    pub all_ran : (b : Batch T) (n : ℕ) → stop ≡ AllGone b n → WasFoldedWith rule c (FoldFirst front) (begun_with rule c op.pass) (as_pass q) front (Ok (record { number = b.number; count = n }))
    all_ran b n e =
        let r = (subst (FoldStops front (begun_with rule c op.pass) q) e stops).1 in
        let made = r.deeds.made in
        (made.values, fold_gives rule c front (folded_of b) b.number r, subst (λ (vs : List T). WasRunWith rule c (FoldFirst front) (begun_with rule c op.pass) (as_pass q) (AnswerFold (Ok (vs, b.number)))) made.order (r.ran refl))

    pub none_ran : (why : TakeRefused) → stop ≡ Refused why → WasRunWith rule c (FoldFirst front) (begun_with rule c op.pass) (as_pass q) (AnswerFold (Err why))
    none_ran why e = (subst (FoldStops front (begun_with rule c op.pass) q) e stops).1.ran refl

module _ {T : Type 0} {D : Type 0} (c : StackWith T D) where
  -- one that is told whatever is told of where it goes on has handed out the same values
  pub same_gone : (at to : FoldAt T) → HasReadToFold (room_of c) (limit_of c) to → ((stop : FoldStop T) → FoldTold (room_of c) (limit_of c) (front_of to) (gone to) stop → FoldTold (room_of c) (limit_of c) (front_of at) (gone at) stop) → gone to ≡ gone at
  same_gone at (LoadToFold b walk) w told =
      let done = take walk.count (folded_of b) in
      let part : Batch T = record b { taken = record b.taken { value = record b.taken.value { me = (b.taken.value.me.0, full w.done done) } } } in
      let same : done ≡ folded_of part = sym (values_full false w.done done (w.counted ∙ sym w.as_many)) in
      same ∙ sym (told (AllGone part (length done)) (same, refl)).0
  same_gone at (GiveBack b chain n give) is told = sym (told (AllGone b (length (folded_of b))) (refl, refl)).0
  same_gone at (Load front) is told = sym (told (Refused Shut) refl)
  same_gone at (TakeAll front w) is told = sym (told (Refused Shut) refl)
  same_gone at (LoadToTurn b above i) is told = sym (told (Refused Shut) refl)
  same_gone at (TurnLink b above i below) is told = sym (told (Refused Shut) refl)

  -- it hands out no more values than there are nodes
  pub gone_few : (at : FoldAt T) → HasReadToFold (room_of c) (limit_of c) at → length (gone at) ≤ room_of c
  gone_few (LoadToFold b walk) w =
      let few = w.batch.hand.few in
      let long : length (nodes_of b) ≡ length (w.done ++ walk.index ∷ w.others) = ap length w.parts in
      let k = w.counted in
      let l = w.as_many in
      omega (arith, few, long, k, l, length-append w.done (walk.index ∷ w.others))
  gone_few (GiveBack b chain n at) is = let few = is.0.hand.few in let many = is.0.hand.as_many in omega arith
  gone_few (Load front) is = omega arith
  gone_few (TakeAll front w) is = omega arith
  gone_few (LoadToTurn b above i) is = omega arith
  gone_few (TurnLink b above i below) is = omega arith
