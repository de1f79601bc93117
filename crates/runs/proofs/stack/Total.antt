-- A stack's passes have made no more steps together than their calls cost.
use Rattle.std.proofs.Common.{◌≡◌, ℕ, suc, ◌+◌, ◌*◌, ◌<◌, ◌≤◌, ltb, Bool, true, false, cond, List, [], ◌∷◌, length, Ok, Err, refl, sym, ap, ◌∙◌, subst, arith}
use Rattle.std.proofs.Math.Nat.{mul-le-mul_right}
use Rattle.std.proofs.lemmas.Bool.Decides.{nat_tests}
use Rattle.std.specs.List.{AllByRecursion as Every}
use mathlib.Core.Option.{some, some-injective}
use lib.ListN.{get_elem?}
use Rattle.tagged_index.specs.declared.word.TheConstants.{NULL}
use Rattle.bounded_model.specs.declared.history.Event.{Event}
use Rattle.bounded_model.specs.declared.views.Answered.{Answered}
use Rattle.bounded_model.specs.declared.views.Answered.TheVariants.{Put, Take, Fold, Close, Shut, Look, Len, Gauge, Heard}
use Rattle.bounded_model.specs.declared.views.RootView.{RootView}
use Rattle.bounded_model.specs.Histories.{own}
use Rattle.bounded_model.specs.Laws.{IsSound, NoneOut}
use Rattle.machine.specs.Progress.{steps_made, calls_cost}
use Rattle.machine.specs.Schedule.{Schedule, start, after}
use Rattle.machine.specs.Seats.{Acts}
use Rattle.machine.proofs.Scheduled.{passes_after}
use Rattle.running.specs.Acts.{Doing, Begins, Steps, Looks, Hears}
use Rattle.stack_machine.specs.declared.lines.Direction.TheVariants.{Down, Up}
use Rattle.stack_machine.specs.declared.lines.Taking.TheVariants.{One, Whole}
use Rattle.stack_machine.specs.declared.lines.Answer.{Answer}
use Rattle.stack_machine.specs.declared.lines.Answer.TheVariants.{Put as AnswerPut, Take as AnswerTake, Fold as AnswerFold, Close as AnswerClose, Shut as AnswerShut, Look as AnswerLook, Gauge as AnswerGauge}
use Rattle.stack_machine.specs.declared.lines.Call.{Call}
use Rattle.stack_machine.specs.declared.lines.Call.TheVariants.{Put as CallPut, Take as CallTake, Close as CallClose, Shut as CallShut, Look as CallLook, Gauge as CallGauge}
use Rattle.stack_machine.specs.declared.lines.Line.{Line}
use Rattle.stack_machine.specs.Answers.{shape}
use Rattle.stack_machine.specs.Deeds.{Makes}
use Rattle.stack_machine.specs.Machine.{Pass, is_idle, stack}
use Rattle.stack_table.specs.Lines.{reply, answered}
use Rattle.stack_table.specs.Core.{stack as on_table}
use Rattle.running.specs.Ends.{IsRun}
use Rattle.runs.specs.Runs.{schedule_of}
use Rattle.runs.specs.Work.{in_all, IsPaid}
use Rattle.runs.proofs.Costs.{at_once, priced, all_costs}
use Rattle.runs.proofs.Work.{below, is_paid}
use Rattle.step_core.specs.stack.Costs.{fit, over, alone, harms, cost, IsSingleCall}
use Rattle.step_core.proofs.stack.Ends.{stack_costs}
use Rattle.step_core.proofs.stack.Run.{all_done, none_unanswered}
use Rattle.runs.specs.stack.Bounded.{call_at}
use Rattle.runs.specs.stack.Work.{fee, single_fee, BeginsSingle, others_of, TotalWork}
use Rattle.runs.proofs.stack.Stacks.{running}

sums : (w h a b k : ℕ) → w ≤ a → h ≤ b → w + h * k ≤ a + b * k
sums w h a b k le le' = omega (arith, le, mul-le-mul_right {m = h} {n = b} k le')

fits : (n r : ℕ) → (4 * fit n r + 3 + over n r ≤ 4 * n + 4) × (fit n r ≤ n)
fits n r = by_test (ltb n r) refl
  where
    by_test : (b : Bool) → ltb n r ≡ b → (4 * cond b n r + 3 + cond b 1 0 ≤ 4 * n + 4) × (cond b n r ≤ n)
    by_test true e = (omega arith, omega arith)
    by_test false e = let le : r ≤ n = grind (arith, nat_tests) in (omega arith, le)

-- a put of one value finds its node
one_fits : (n : ℕ) → 0 < n → (fit n 1 ≡ 1) × (over n 1 ≡ 0)
one_fits n some_node = by_test (ltb n 1) refl
  where
    by_test : (b : Bool) → ltb n 1 ≡ b → (◌≡◌ {A = ℕ} (cond b n 1) 1) × (◌≡◌ {A = ℕ} (cond b 1 0) 0)
    by_test true e = let low : n < 1 = grind (arith, nat_tests) in absurd (omega (arith, low, some_node))
    by_test false e = (refl, refl)

module _ {T : Type 0} (n k : ℕ) (some_node : 0 < n) where
  put_small : (v : T) (vs : List T) → cost n k (CallPut v vs) ≤ 4 * n + 4 + (3 * n + 4) * k
  put_small v vs =
      let t = fits n (length (v ∷ vs)) in
      sums (alone n (CallPut v vs)) (harms n (CallPut v vs)) (4 * n + 4) (3 * n + 4) k t.0 (omega (arith, t.1))

  -- a call's answer is worth what the call costs
  worth_answer : (p : ℕ) (call : Call T) (a : Answer T) (events : List (Event T)) → Makes p call a events → cost n k call ≤ fee n k (answered a)
  worth_answer p (CallPut v vs) (AnswerPut (Ok r)) events made = put_small v vs
  worth_answer p (CallPut v vs) (AnswerPut (Err why)) events made = put_small v vs
  worth_answer p (CallTake One) (AnswerTake r) events made = omega arith
  worth_answer p (CallTake (Whole Down)) (AnswerFold r) events made = omega arith
  worth_answer p (CallTake (Whole Up)) (AnswerFold r) events made = omega arith
  worth_answer p CallClose (AnswerClose b) events made = omega arith
  worth_answer p CallShut (AnswerShut b) events made = omega arith
  worth_answer p CallLook (AnswerLook b) events made = omega arith
  worth_answer p CallGauge (AnswerGauge closed used) events made = omega arith
  worth_answer p call a events made = absurd made

  fee_small : (a : Answered T) → fee n k a ≤ 4 * n + 4 + (3 * n + 4) * k
  fee_small (Put r) = omega arith
  fee_small (Take r) = sums 6 7 (4 * n + 4) (3 * n + 4) k (omega (arith, some_node)) (omega (arith, some_node))
  fee_small (Fold r) = sums (3 * n + 5) 7 (4 * n + 4) (3 * n + 4) k (omega (arith, some_node)) (omega (arith, some_node))
  fee_small (Close b) = sums 2 4 (4 * n + 4) (3 * n + 4) k (omega arith) (omega arith)
  fee_small (Shut b) = sums 2 4 (4 * n + 4) (3 * n + 4) k (omega arith) (omega arith)
  fee_small (Look b) = omega arith
  fee_small (Len m) = omega arith
  fee_small (Gauge closed used) = omega arith
  fee_small Heard = omega arith

  -- the cost of a call of one value, and nothing of others
  abbrev single_cost : Call T → ℕ
  single_cost (CallPut v []) = 7 + 7 * k
  single_cost (CallPut v (u ∷ us)) = 0
  single_cost (CallTake One) = 6 + 7 * k
  single_cost (CallTake (Whole d)) = 0
  single_cost CallClose = 2 + 4 * k
  single_cost CallShut = 2 + 4 * k
  single_cost CallLook = 1
  single_cost CallGauge = 1

  single_worth_answer : (p : ℕ) (call : Call T) (a : Answer T) (events : List (Event T)) → Makes p call a events → single_cost call ≤ single_fee k (answered a)
  single_worth_answer p (CallPut v []) (AnswerPut (Ok r)) events made = omega arith
  single_worth_answer p (CallPut v []) (AnswerPut (Err why)) events made = omega arith
  single_worth_answer p (CallPut v (u ∷ us)) a events made = omega arith
  single_worth_answer p (CallTake One) (AnswerTake r) events made = omega arith
  single_worth_answer p (CallTake (Whole d)) a events made = omega arith
  single_worth_answer p CallClose (AnswerClose b) events made = omega arith
  single_worth_answer p CallShut (AnswerShut b) events made = omega arith
  single_worth_answer p CallLook (AnswerLook b) events made = omega arith
  single_worth_answer p CallGauge (AnswerGauge closed used) events made = omega arith
  single_worth_answer p call a events made = absurd made

  single_fee_small : (a : Answered T) → single_fee k a ≤ 7 + 7 * k
  single_fee_small (Put r) = omega arith
  single_fee_small (Take r) = omega arith
  single_fee_small (Fold r) = omega arith
  single_fee_small (Close b) = omega arith
  single_fee_small (Shut b) = omega arith
  single_fee_small (Look b) = omega arith
  single_fee_small (Len m) = omega arith
  single_fee_small (Gauge closed used) = omega arith
  single_fee_small Heard = omega arith

  single_costs : (call : Call T) → IsSingleCall call → cost n k call ≤ single_cost call
  single_costs (CallPut v []) one = sums (alone n (CallPut v [])) (harms n (CallPut v [])) 7 7 k (omega (arith, (one_fits n some_node).0, (one_fits n some_node).1)) (omega (arith, (one_fits n some_node).0))
  single_costs (CallPut v (u ∷ us)) one = let e : 0 ≡ suc (length us) = sym (ap (λ (l : List T). length l) one) in absurd (omega (arith, e))
  single_costs (CallTake One) one = omega arith
  single_costs (CallTake (Whole d)) one = absurd one
  single_costs CallClose one = omega arith
  single_costs CallShut one = omega arith
  single_costs CallLook one = omega arith
  single_costs CallGauge one = omega arith

  single_prices : (acts : Acts (Line T)) → Every (λ a. BeginsSingle a.1) acts → in_all (priced (λ l. cost n k (call_at l))) acts ≤ in_all (priced (λ l. single_cost (call_at l))) acts
  single_prices [] all = omega arith
  single_prices (a ∷ older) all = omega (arith, one_price a.1 all.0, single_prices older all.1)
    where
      one_price : (d : Doing (Line T)) → BeginsSingle d → priced (λ l. cost n k (call_at l)) d ≤ priced (λ l. single_cost (call_at l)) d
      one_price (Begins first) one = single_costs (call_at first) one
      one_price Steps one = omega arith
      one_price Looks one = omega arith
      one_price Hears one = omega arith

module _ {T : Type 0} (n limit : ℕ) (some_node : 0 < n) (small : n ≤ NULL) where
  worth : (price : Call T → ℕ) (worths : Answered T → ℕ) → ((p : ℕ) (call : Call T) (a : Answer T) (events : List (Event T)) → Makes p call a events → price call ≤ worths (answered a))
      → (passes : ℕ) (schedule : Schedule (Call T)) (p : ℕ) (v : Pass T) (call : Call T) → get_elem? (after (stack (shape n limit)) passes schedule).passes p ≡ some v → v.call ≡ some call → is_idle v.line ≡ true → price call ≤ worths (reply v.line)
  worth price worths each passes schedule p v call at is idle =
      let ended = none_unanswered n limit passes schedule some_node small p v call at is idle in
      let done = all_done n limit passes schedule some_node small p v ended.0 at ended.1 in
      let same : done.call ≡ call = some-injective done.call call (sym done.of ∙ is) in
      subst (λ (l : Line T). price call ≤ worths (reply l)) (sym ended.1)
      (subst (λ (c : Call T). price c ≤ worths (answered ended.0)) same (each p done.call ended.0 (own p done.done.between) done.done.made))

  module _ (r : RootView T) (left : List T) (ran : IsRun (on_table T n limit) r left) (sound : IsSound (shape n limit) r) (nobody : NoneOut r) where
    abbrev k : ℕ
    k = others_of r

    abbrev schedule : Schedule (Call T)
    schedule = schedule_of call_at ran.acts

    few : r.given ≤ suc k
    few = omega arith

    spent : steps_made (stack (shape n limit)) schedule (start (stack (shape n limit)) r.given) ≤ calls_cost (stack (shape n limit)) (cost n k) schedule (start (stack (shape n limit)) r.given)
    spent = stack_costs n limit some_node k r.given schedule small (at_once (stack {T = T} (shape n limit)) r.given (suc k) few schedule (after (stack {T = T} (shape n limit)) r.given []) (passes_after (stack {T = T} (shape n limit)) r.given []))

    prices_of : (price : Call T → ℕ) → calls_cost (stack (shape n limit)) price schedule (start (stack (shape n limit)) r.given) ≡ in_all (priced (λ l. price (call_at l))) ran.acts
    prices_of price = all_costs (on_table T n limit) (stack (shape n limit)) call_at (running n limit) price r.given ran.acts (below (on_table T n limit) (stack (shape n limit)) call_at (running n limit) (λ p. refl) r left ran sound nobody) ran.allowed ran.proper

    paid : IsPaid ran.acts r.works (λ l. cost n k (call_at l)) (fee n k) (4 * n + 4 + (3 * n + 4) * k)
    paid = is_paid (on_table T n limit) (stack (shape n limit)) call_at (running n limit) (λ p. refl) r left ran sound nobody (cost n k) (fee n k) (omega arith)
        (λ older low allowed fresh. worth (cost n k) (fee n k) (worth_answer n k some_node) r.given (schedule_of call_at older)) spent (4 * n + 4 + (3 * n + 4) * k) (fee_small n k some_node)

    singly_paid : Every (λ a. BeginsSingle a.1) ran.acts → IsPaid ran.acts r.works (λ l. single_cost n k some_node (call_at l)) (single_fee k) (7 + 7 * k)
    singly_paid all = is_paid (on_table T n limit) (stack (shape n limit)) call_at (running n limit) (λ p. refl) r left ran sound nobody (single_cost n k some_node) (single_fee k) (omega arith)
        (λ older low allowed fresh. worth (single_cost n k some_node) (single_fee k) (single_worth_answer n k some_node) r.given (schedule_of call_at older))
        (omega (arith, spent, prices_of (cost n k), prices_of (single_cost n k some_node), single_prices n k some_node ran.acts all)) (7 + 7 * k) (single_fee_small n k some_node)

    pub total_work : TotalWork n r ran.acts
    total_work = record {
      prices = paid.prices;
      fees = paid.fees;
      answers = paid.answers;
      singles = λ all. (singly_paid all).fees;
      single_answers = λ all. (singly_paid all).answers;
    }
