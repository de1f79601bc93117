-- The stack's calls end: in every schedule the steps made are paid for by the calls, and each call by its own
-- steps and by the exchanges that others win.
use Rattle.std.proofs.Common.{◌≡◌, ℕ, suc, ◌+◌, ◌*◌, ◌<◌, ◌≤◌, ◌==◌, Bool, true, false, cond, ltb, leb, List, [], ◌∷◌, length, map, refl, ap, subst, arith, Option as Slot, Some, None}
use Rattle.std.proofs.Math.Nat.{mul-le-mul_right}
use Rattle.std.proofs.lemmas.Bool.{false≢true}
use Rattle.std.proofs.lemmas.Bool.Decides.{nat_tests}
use mathlib.Core.Option.{Option, none, some}
use lib.ListN.{get_elem?}
use Rattle.tagged_index.specs.declared.word.TheConstants.{NULL}
use Rattle.bounded_model.specs.declared.history.Event.{Event}
use Rattle.bounded_model.specs.Machine.{Shape}
use Rattle.machine.specs.Bound.{AtLine, IsStretch, own_steps}
use Rattle.machine.specs.Progress.{Only, steps_made, calls_ended, calls_cost, others_win, AtOnce, LockFree, LockFreeOf}
use Rattle.machine.specs.Schedule.{Schedule, start as start_state, after}
use Rattle.machine.specs.Words.{same}
use Rattle.machine.proofs.Paying.{Weighs, Pays, AnyLine, any_line, AnyCall, any_call, overtaken, unhindered, all_paid, all_count, calls_end, some_ends, left_at}
use Rattle.machine.proofs.Scheduled.{passes_after, start_at}
use Rattle.machine.proofs.Stories.{rule_holds, start_rules_alike}
use Rattle.machine.proofs.Sums.{at_map, total_one}
use Rattle.machine.proofs.Tests.{one_of, lost_small, lost_none}
use Rattle.stack_machine.specs.declared.lines.Call.{Call}
use Rattle.stack_machine.specs.declared.lines.Call.TheVariants.{Put as CallPut, Take as CallTake}
use Rattle.stack_machine.specs.declared.lines.Putting.{Putting}
use Rattle.stack_machine.specs.declared.lines.Taking.TheVariants.{One, Whole}
use Rattle.stack_machine.specs.declared.lines.Direction.{Direction}
use Rattle.stack_machine.specs.declared.lines.Direction.TheVariants.{Down, Up}
use Rattle.stack_machine.specs.declared.lines.Line.{Line}
use Rattle.stack_machine.specs.declared.lines.Line.TheVariants.{Idle, LoadFree, LoadFreeLink, TakeFree, LinkTaken, LoadTop, SwapTop, LoadTopToRefuse, LoadTopToTake, TakeTop, TakeChain, LoadLinkToTurn, TurnLink, LoadLinkToFold, GiveBack, LoadTopToClose, MarkTop, LoadTopToShut, ShutTop}
use Rattle.stack_machine.specs.Answers.{shape}
use Rattle.stack_machine.specs.Machine.{Memory, Pass, State, Outcome, held, is_idle, starts, step, stack, wins_value}
use Rattle.stack_machine.specs.Rule.{Lists, IsFine, Good}
use Rattle.stack_machine.proofs.Start.{start_kept}
use Rattle.step_core.specs.stack.Bound.{IsSingle}
use Rattle.step_core.specs.stack.Costs.{fit, over, alone, harms, cost, IsSingleCall}
use Rattle.step_core.proofs.stack.Run.{Rule, Story, starts_busy, stack_told, run_stays}
use Rattle.step_core.proofs.stack.Weight.{folding, further, need, more, weight, price, harm, price_small}
use Rattle.step_core.proofs.stack.Pays.{from_small, same_need, step_raises, step_falls, single_ready, rule_ready}

sums : (w h a b k : ℕ) → w ≤ a → h ≤ b → w + h * k ≤ a + b * k
sums w h a b k le le' = omega (arith, le, mul-le-mul_right {m = h} {n = b} k le')

-- how large the weights of puts are
module _ (n : ℕ) (pos : 0 < n) where
  fit_small : (r : ℕ) → fit n r ≤ n
  fit_small r = by_test (ltb n r) refl
    where
      by_test : (b : Bool) → ltb n r ≡ b → cond b n r ≤ n
      by_test true e = omega arith
      by_test false e = grind (arith, nat_tests, e)

  over_small : (r : ℕ) → over n r ≤ 1
  over_small r = one_of (ltb n r) 1 0 1 (omega arith) (omega arith)

  one_fits : (r : ℕ) → r ≡ 1 → (fit n r ≡ r) × (over n r ≤ 0)
  one_fits r e = by_test (ltb n r) refl
    where
      by_test : (b : Bool) → ltb n r ≡ b → (cond b n r ≡ r) × (cond b 1 0 ≤ 0)
      by_test true h = absurd (grind (arith, nat_tests, h, e))
      by_test false h = (refl, omega arith)

module _ {T : Type 0} (n : ℕ) (pos : 0 < n) where
  further_small : (put : Putting T) → further n put ≤ n
  unfolding further
  further_small put = omega (arith, fit_small n pos (length put.values))

  -- a put that has a node already may take fewer
  fewer : (put : Putting T) → 0 < length put.chain → further n put + 1 ≤ n
  unfolding further
  fewer put some_node = omega (arith, pos, fit_small n pos (length put.values))

  more_small : (put : Putting T) → length put.chain < length put.values → (more n put ≤ 4 * n + 1) × (need n put ≤ n)
  more_small put wants = (by_chain (length put.chain == 0) refl, omega (arith, same_need n put wants, further_small put))
    where
      by_chain : (b : Bool) → (length put.chain == 0) ≡ b → more n put ≤ 4 * n + 1
      by_chain true e = omega (arith, same_need n put wants, further_small put, over_small n pos (length put.values), lost_none (length put.chain == 0) 1 e)
      by_chain false e = omega (arith, same_need n put wants, fewer put (grind (arith, nat_tests, e)), over_small n pos (length put.values), lost_small (length put.chain == 0) 1)

  one_further : (put : Putting T) → length put.values ≡ 1 → (further n put ≤ 1) × (0 < length put.chain → further n put ≡ 0)
  unfolding further
  one_further put e = let f = one_fits n pos (length put.values) e in (omega (arith, f.0), λ some_node. omega (arith, f.0))

  one_needed : (put : Putting T) → length put.values ≡ 1 → need n put ≤ 1
  unfolding need
  one_needed put e = one_of (ltb (length put.chain) (length put.values)) (further n put) 1 1 (one_further put e).0 (omega arith)

  single_more : (put : Putting T) → length put.values ≡ 1 → length put.chain < length put.values → more n put ≤ 4
  single_more put e wants = omega (arith, (one_fits n pos (length put.values) e).1, one_needed put e, lost_none (length put.chain == 0) 1 (grind (arith, nat_tests, e, wants)))

  -- of one value, from every state
  pub single_light : (m : Memory T) (l : Line T) → IsSingle l → (weight n m.free m.top l ≤ 10) × (harm n l ≤ 7)
  single_light m (LoadFree put) e = let f = one_fits n pos (length put.values) e in (omega (arith, f.1, one_needed put e, lost_small), omega (arith, one_needed put e))
  single_light m (LoadFreeLink put w) e = let f = one_fits n pos (length put.values) e in (omega (arith, f.1, one_needed put e, lost_small), omega (arith, one_needed put e))
  single_light m (TakeFree put w k) e = let f = one_fits n pos (length put.values) e in (omega (arith, f.1, one_needed put e, lost_small), omega (arith, one_needed put e))
  single_light m (LinkTaken put) e = let f = one_fits n pos (length put.values) e in (omega (arith, f.1, one_further put e), omega (arith, one_further put e))
  single_light m (LoadTopToTake (Whole d)) e = absurd e
  single_light m l e = (omega (arith, lost_small), omega arith)

  -- and where the rule holds: a put that looks for its node has none
  pub single_small : (limit : ℕ) (m : Memory T) (g : Lists) (l : Line T) → IsFine limit m g l → IsSingle l → weight n m.free m.top l ≤ 9
  single_small limit m g (LoadFree put) f e = omega (arith, single_more put e f.wants)
  single_small limit m g (LoadFreeLink put w) f e = omega (arith, single_more put e f.0.wants, lost_small)
  single_small limit m g (TakeFree put w k) f e = omega (arith, single_more put e f.0.wants, lost_small)
  single_small limit m g (LinkTaken put) f e = omega (arith, (one_fits n pos (length put.values) e).1, (one_further put e).1 f.some_node)
  single_small limit m g (LoadTopToTake (Whole d)) f e = absurd e
  single_small limit m g l f e = omega (arith, lost_small)

module _ {T : Type 0} where
  -- a step of a call of one value leads to another

  one_of_two : (b : Bool) (l l' : Line T) → IsSingle l → IsSingle l' → IsSingle (cond b l l')
  one_of_two true l l' f f' = f
  one_of_two false l l' f f' = f'

  one_outcome : (b : Bool) (o o' : Outcome T) → IsSingle o.line → IsSingle o'.line → IsSingle (cond b o o').line
  one_outcome true o o' f f' = f
  one_outcome false o o' f f' = f'

  pub step_single : (c : Shape) (m : Memory T) (p : ℕ) (l : Line T) → IsSingle l → IsSingle (step c m p l).line
  step_single c m p (LoadFree put) e =
      one_of_two (m.free.index == NULL) _ _ (one_of_two (length put.chain == 0) _ _ tt tt)
      (one_of_two (leb c.limit m.free.tag) _ _ (one_of_two (length put.chain == 0) _ _ tt tt) e)
  step_single c m p (LoadFreeLink put w) e = e
  step_single c m p (TakeFree put w k) e =
      one_outcome (same m.free w) _ _ (one_of_two (length put.chain == 0) _ _ (one_of_two (ltb (suc (length put.chain)) (length put.values)) _ _ e tt) e) e
  step_single c m p (LinkTaken put) e = one_of_two (ltb (length put.chain) (length put.values)) _ _ e tt
  step_single c m p (LoadTop put) e = one_of_two m.top.mark _ _ tt (one_of_two (leb c.limit m.top.tag) _ _ tt tt)
  step_single c m p (SwapTop put w) e = one_outcome (same m.top w) _ _ tt tt
  step_single c m p (LoadTopToRefuse values) e = one_of_two m.top.mark _ _ tt (one_of_two (leb c.limit m.top.tag) _ _ tt tt)
  step_single c m p (LoadTopToTake One) e = one_of_two m.top.second _ _ tt (one_of_two (m.top.index == NULL) _ _ tt (one_of_two (leb c.limit m.top.tag) _ _ tt tt))
  step_single c m p (LoadTopToTake (Whole d)) e = absurd e
  step_single c m p (TakeTop w k) e = one_outcome (same m.top w) _ _ (by_value (m.home w.index)) tt
    where
      by_value : (o : Option (Slot T)) → IsSingle (wins_value m p w k o).line
      by_value (some (Some v)) = tt
      by_value o = tt
  step_single c m p (TakeChain d w) e = absurd e
  step_single c m p (LoadLinkToTurn give above i) e = absurd e
  step_single c m p (TurnLink give above i k) e = absurd e
  step_single c m p (LoadLinkToFold give i) e = absurd e
  step_single c m p (GiveBack give w) e = one_outcome (same m.free w) _ _ tt tt
  step_single c m p LoadTopToClose e = one_of_two m.top.mark _ _ tt tt
  step_single c m p (MarkTop w) e = one_outcome (same m.top w) _ _ tt tt
  step_single c m p LoadTopToShut e = one_of_two m.top.second _ _ tt tt
  step_single c m p (ShutTop w) e = one_outcome (same m.top w) _ _ tt tt
  step_single c m p l e = tt

  starts_single : (call : Call T) → IsSingleCall call → IsSingle (starts call)
  starts_single (CallPut v vs) e = ap (λ (xs : List T). length (v ∷ xs)) e
  starts_single (CallTake One) e = tt
  starts_single (CallTake (Whole d)) e = absurd e
  starts_single call e = tt

  -- Calls of one value, from every state: their weights are those of a stack of one node

  abbrev AnyState : State T → Type 0
  AnyState s = Unit {0}

  abbrev weighs : ℕ → Memory T → Line T → ℕ
  weighs n m l = weight n m.free m.top l

  single_weighs : (n : ℕ) → 0 < n → (c : Shape) → Weighs (stack c) AnyState IsSingle (weighs n) (price n)
  single_weighs n pos c = record {
    holds = record { begins = λ s p v k e idle call. tt; steps = λ s p v k e busy. tt };
    falls = λ s p v k at busy single. (step_falls n c s.memory p v.line (single_ready n c s.memory pos v.line single) busy).0;
    counts = λ s p v k at busy single. step_single c s.memory p v.line single;
    raises = λ s p q u v k at at'. step_raises n c s.memory q v.line u.line;
  }

  pub stack_bounded : (c : Shape) (p : ℕ) (s : State T) (stretch : Schedule (Call T)) → AtLine IsSingle (get_elem? s.passes p) → IsStretch (stack c) p stretch s → own_steps (stack c) p stretch s ≤ 16
  stack_bounded c p s stretch single alone =
      omega (arith, unhindered (stack c) AnyState IsSingle (weighs 1) (price 1) (single_weighs 1 (omega arith) c) 4 (price_small 1) p s stretch tt single alone, light (get_elem? s.passes p) single)
    where
      light : (o : Option (Pass T)) → AtLine IsSingle o → left_at (stack c) AnyState IsSingle (weighs 1) (price 1) (single_weighs 1 (omega arith) c) s.memory o ≤ 10
      light none single = omega arith
      light (some v) single = (single_light 1 (omega arith) s.memory v.line single).0

module _ {T : Type 0} (n limit : ℕ) (pos : 0 < n) where
  abbrev pub Rules : State T → Type 0
  Rules s = Rule n limit s.memory (map (λ (v : Pass T). v.line) s.passes) s.history

  line_at : (s : State T) (q : ℕ) (v : Pass T) → get_elem? s.passes q ≡ some v → get_elem? (map (λ (u : Pass T). u.line) s.passes) q ≡ some v.line
  line_at s q v at = at_map (λ (u : Pass T). u.line) s.passes q v at

  rule_weighs : (Counts : Line T → Type 0) → ((m : Memory T) (p : ℕ) (l : Line T) → Counts l → Counts (step (shape n limit) m p l).line) → Weighs (stack (shape n limit)) Rules Counts (weighs n) (price n)
  rule_weighs Counts counts = record {
    holds = rule_holds (stack (shape n limit)) (Rule n limit) (Story n limit) (stack_told n limit);
    falls = λ s p v k at busy count. (step_falls n (shape n limit) s.memory p v.line (rule_ready k.good p v.line (line_at s p v at)) busy).0;
    counts = λ s p v k at busy count. counts s.memory p v.line count;
    raises = λ s p q u v k at at'. step_raises n (shape n limit) s.memory q v.line u.line;
  }

  idle : (m : Memory T) (l : Line T) → is_idle l ≡ true → (weighs n m l ≡ 0) × (harm n l ≡ 0)
  idle m (Idle a) e = (refl, refl)
  idle m l e = absurd (false≢true e)

  need_first : (v : T) (vs : List T) → need n (record { values = v ∷ vs; chain = [] }) ≡ fit n (length (v ∷ vs))
  unfolding further
  need_first v vs = omega (arith, same_need n (record { values = v ∷ vs; chain = [] }) (omega arith))

  begins : (m : Memory T) (call : Call T) → (weighs n m (starts call) ≤ alone n call) × (harm n (starts call) ≤ harms n call)
  begins m (CallPut v vs) = (omega (arith, need_first v vs, lost_none true 1 refl), omega (arith, need_first v vs))
  begins m (CallTake One) = (omega arith, omega arith)
  begins m (CallTake (Whole Down)) = (omega arith, omega arith)
  begins m (CallTake (Whole Up)) = (omega arith, omega arith)
  begins m call = (omega arith, omega arith)

  stack_pays : Pays (stack (shape n limit)) Rules (weighs n) (price n) (harm n) (alone n) (harms n)
  stack_pays = record {
    weighs = rule_weighs AnyLine (λ m p l any. tt);
    idle = idle;
    starts = λ l call. starts_busy n limit call;
    begins = λ m l call. begins m call;
    pays = λ s p v k at busy. (step_falls n (shape n limit) s.memory p v.line (rule_ready k.good p v.line (line_at s p v at)) busy).1;
  }

  -- no line weighs more than this, and no call costs more

  line_small : {m : Memory T} {g : Lists} {lines : List (Line T)} {history : List (Event T)} (q : ℕ) (l : Line T) → Good T n limit m g some lines history → get_elem? lines q ≡ some l
      → (weighs n m l ≤ 4 * n + 6) × (harm n l ≤ 3 * n + 4)
  line_small {m = m} {g = g} {lines = lines} q l x at = both l (x.linked.fine q l at) (omega (arith, x.told.room, x.told.out, total_one (λ (u : Line T). length (held u)) lines q l at))
    where
      folding_small : (d : Direction) → folding n d ≤ 3 * n + 3
      folding_small Down = omega arith
      folding_small Up = omega arith

      both : (l : Line T) → IsFine limit m g l → length (held l) ≤ n → (weighs n m l ≤ 4 * n + 6) × (harm n l ≤ 3 * n + 4)
      both (LoadFree put) f few = let t = more_small n pos put f.wants in (omega (arith, t), omega (arith, t))
      both (LoadFreeLink put w) f few = let t = more_small n pos put f.0.wants in (omega (arith, t, lost_small), omega (arith, t))
      both (TakeFree put w k) f few = let t = more_small n pos put f.0.wants in (omega (arith, t, lost_small), omega (arith, t))
      both (LinkTaken put) f few = let t = further_small n pos put in (omega (arith, t, over_small n pos (length put.values)), omega (arith, t))
      both (LoadTopToTake One) f few = (omega arith, omega arith)
      both (LoadTopToTake (Whole d)) f few = (omega (arith, folding_small d), omega arith)
      both (TakeChain d w) f few = (omega (arith, folding_small d, lost_small), omega arith)
      both (LoadLinkToTurn give above i) f few = (omega (arith, from_small i give.chain), omega arith)
      both (TurnLink give above i k) f few = (omega (arith, from_small i give.chain), omega arith)
      both (LoadLinkToFold give i) f few = (omega (arith, from_small i give.chain), omega arith)
      both l f few = (omega (arith, pos, lost_small), omega (arith, pos))

  call_small : (k : ℕ) (call : Call T) → AnyCall call → cost n k call ≤ 4 * n + 6 + (3 * n + 4) * k
  call_small k call any = let b = both call in sums (alone n call) (harms n call) (4 * n + 6) (3 * n + 4) k b.0 b.1
    where
      both : (call : Call T) → (alone n call ≤ 4 * n + 6) × (harms n call ≤ 3 * n + 4)
      both (CallPut v vs) = let t = fit_small n pos (length (v ∷ vs)) in (omega (arith, t, over_small n pos (length (v ∷ vs))), omega (arith, t))
      both (CallTake One) = (omega arith, omega (arith, pos))
      both (CallTake (Whole Down)) = (omega arith, omega (arith, pos))
      both (CallTake (Whole Up)) = (omega arith, omega (arith, pos))
      both call = (omega arith, omega arith)

  pass_small : (k : ℕ) (s : State T) → Rules s → (q : ℕ) (u : Pass T) → get_elem? s.passes q ≡ some u → weighs n s.memory u.line + harm n u.line * k ≤ 4 * n + 6 + (3 * n + 4) * k
  pass_small k s rules q u at = let b = line_small q u.line rules.good (line_at s q u at) in sums (weighs n s.memory u.line) (harm n u.line) (4 * n + 6) (3 * n + 4) k b.0 b.1

  pub stack_ends : (k : ℕ) (s : State T) (schedule : Schedule (Call T)) → Rules s → AtOnce (stack (shape n limit)) (suc k) schedule s
      → steps_made (stack (shape n limit)) schedule s ≤ (4 * n + 6 + (3 * n + 4) * k) * (calls_ended (stack (shape n limit)) schedule s + suc k)
  stack_ends k s schedule rules few =
      calls_end (stack (shape n limit)) Rules (weighs n) (price n) (harm n) (alone n) (harms n) stack_pays k AnyCall (4 * n + 6 + (3 * n + 4) * k) (call_small k) s rules (pass_small k s rules) schedule (any_call schedule) few

  run_rules : (k : ℕ) (before : Schedule (Call T)) → n ≤ NULL → Rules (after (stack (shape n limit)) k before)
  run_rules k before small = (run_stays n limit k before pos small).rule

  pub stack_lock_free : (k : ℕ) → n ≤ NULL → LockFree (stack {T = T} (shape n limit)) (suc k) ((4 * n + 6 + (3 * n + 4) * k) * suc k)
  stack_lock_free k small before during =
      let s = after (stack {T = T} (shape n limit)) (suc k) before in
      let rules = run_rules (suc k) before small in
      some_ends (stack (shape n limit)) Rules (weighs n) (price n) (harm n) (alone n) (harms n) stack_pays k AnyCall (4 * n + 6 + (3 * n + 4) * k) (call_small k) s rules (pass_small k s rules) during (any_call during)
      (passes_after (stack (shape n limit)) (suc k) before)

  -- from the start: all that is spent is what the calls cost that are begun
  pub stack_costs : (k passes : ℕ) (schedule : Schedule (Call T)) → n ≤ NULL → AtOnce (stack (shape n limit)) (suc k) schedule (start_state (stack (shape n limit)) passes)
      → steps_made (stack (shape n limit)) schedule (start_state (stack (shape n limit)) passes) ≤ calls_cost (stack (shape n limit)) (cost n k) schedule (start_state (stack (shape n limit)) passes)
  stack_costs k passes schedule small few =
      all_paid (stack (shape n limit)) Rules (weighs n) (price n) (harm n) (alone n) (harms n) stack_pays k passes schedule
      (start_rules_alike (stack (shape n limit)) (Rule n limit) (Story n limit) (Idle None) (λ p. refl) passes (start_kept n limit passes pos small)) (λ p. refl) few

  -- a call that others overtake

  left_small : (s : State T) (o : Option (Pass T)) (p : ℕ) → Rules s → get_elem? s.passes p ≡ o → left_at (stack (shape n limit)) Rules AnyLine (weighs n) (price n) (rule_weighs AnyLine (λ m p l any. tt)) s.memory o ≤ 4 * n + 6
  left_small s none p rules at = omega arith
  left_small s (some v) p rules at = (line_small p v.line rules.good (line_at s p v at)).0

  pub stack_overtaken : (p : ℕ) (s : State T) (schedule : Schedule (Call T)) → Rules s
      → own_steps (stack (shape n limit)) p schedule s ≤ 4 * n + 6 + 4 * others_win (stack (shape n limit)) p schedule s
  stack_overtaken p s schedule rules =
      omega (
        arith,
        overtaken (stack (shape n limit)) Rules AnyLine (weighs n) (price n) (rule_weighs AnyLine (λ m p l any. tt)) 4 (price_small n) p s schedule rules (any_line (get_elem? s.passes p)),
        left_small s (get_elem? s.passes p) p rules refl,
      )

  -- Calls of one value

  singles : Weighs (stack (shape n limit)) Rules IsSingle (weighs n) (price n)
  singles = rule_weighs IsSingle (λ m p l single. step_single (shape n limit) m p l single)

  abbrev pub Singles : State T → Type 0
  Singles s = (q : ℕ) (v : Pass T) → get_elem? s.passes q ≡ some v → IsSingle v.line

  single_call_small : (k : ℕ) (call : Call T) → IsSingleCall call → cost n k call ≤ 9 + 7 * k
  single_call_small k call single = let b = both call single in sums (alone n call) (harms n call) 9 7 k b.0 b.1
    where
      both : (call : Call T) → IsSingleCall call → (alone n call ≤ 9) × (harms n call ≤ 7)
      both (CallPut v vs) e = let one : length (v ∷ vs) ≡ 1 = ap (λ (xs : List T). length (v ∷ xs)) e in let f = one_fits n pos (length (v ∷ vs)) one in (omega (arith, f, one), omega (arith, f, one))
      both (CallTake One) e = (omega arith, omega arith)
      both (CallTake (Whole d)) e = absurd e
      both call e = (omega arith, omega arith)

  single_line_small : (s : State T) → Rules s → (q : ℕ) (u : Pass T) → get_elem? s.passes q ≡ some u → IsSingle u.line → weighs n s.memory u.line ≤ 9
  single_line_small s rules q u at single = single_small n pos limit s.memory rules.lists u.line (rules.good.linked.fine q u.line (line_at s q u at)) single

  single_pass_small : (k : ℕ) (s : State T) → Rules s → Singles s → (q : ℕ) (u : Pass T) → get_elem? s.passes q ≡ some u → weighs n s.memory u.line + harm n u.line * k ≤ 9 + 7 * k
  single_pass_small k s rules all q u at = sums (weighs n s.memory u.line) (harm n u.line) 9 7 k (single_line_small s rules q u at (all q u at)) (single_light n pos s.memory u.line (all q u at)).1

  pub singles_end : (k : ℕ) (s : State T) (schedule : Schedule (Call T)) → Rules s → Singles s → Only IsSingleCall schedule → AtOnce (stack (shape n limit)) (suc k) schedule s
      → steps_made (stack (shape n limit)) schedule s ≤ (9 + 7 * k) * (calls_ended (stack (shape n limit)) schedule s + suc k)
  singles_end k s schedule rules all only few =
      calls_end (stack (shape n limit)) Rules (weighs n) (price n) (harm n) (alone n) (harms n) stack_pays k IsSingleCall (9 + 7 * k) (single_call_small k) s rules (single_pass_small k s rules all) schedule only few

  pub singles_lock_free : (k : ℕ) → n ≤ NULL → LockFreeOf (stack {T = T} (shape n limit)) IsSingleCall (suc k) ((9 + 7 * k) * suc k)
  singles_lock_free k small before during only only' =
      let x = stack {T = T} (shape n limit) in
      let s = after x (suc k) before in
      let rules = run_rules (suc k) before small in
      let all : Singles s = all_count x Rules IsSingle (weighs n) (price n) singles IsSingleCall (λ l call single. starts_single call single) before (start_state x (suc k)) (run_rules (suc k) [] small) only
      (λ q v at. subst (λ (u : Pass T). IsSingle u.line) (start_at x (suc k) q v at) tt) in
      some_ends x Rules (weighs n) (price n) (harm n) (alone n) (harms n) stack_pays k IsSingleCall (9 + 7 * k) (single_call_small k) s rules (single_pass_small k s rules all) during only' (passes_after x (suc k) before)

  single_left_small : (s : State T) (o : Option (Pass T)) (p : ℕ) → Rules s → get_elem? s.passes p ≡ o → AtLine IsSingle o → left_at (stack (shape n limit)) Rules IsSingle (weighs n) (price n) singles s.memory o ≤ 9
  single_left_small s none p rules at single = omega arith
  single_left_small s (some v) p rules at single = single_line_small s rules p v at single

  pub single_overtaken : (p : ℕ) (s : State T) (schedule : Schedule (Call T)) → Rules s → AtLine IsSingle (get_elem? s.passes p)
      → own_steps (stack (shape n limit)) p schedule s ≤ 9 + 4 * others_win (stack (shape n limit)) p schedule s
  single_overtaken p s schedule rules single =
      omega (
        arith,
        overtaken (stack (shape n limit)) Rules IsSingle (weighs n) (price n) singles 4 (price_small n) p s schedule rules single,
        single_left_small s (get_elem? s.passes p) p rules refl single,
      )

  pub single_unhindered : (p : ℕ) (s : State T) (stretch : Schedule (Call T)) → Rules s → AtLine IsSingle (get_elem? s.passes p) → IsStretch (stack (shape n limit)) p stretch s → own_steps (stack (shape n limit)) p stretch s ≤ 9
  single_unhindered p s stretch rules single alone =
      omega (
        arith,
        unhindered (stack (shape n limit)) Rules IsSingle (weighs n) (price n) singles 4 (price_small n) p s stretch rules single alone,
        single_left_small s (get_elem? s.passes p) p rules refl single,
      )
