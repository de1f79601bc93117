-- What the acts let hear is the history of invocations and responses of their schedule.
use Rattle.std.proofs.Common.{◌≡◌, ℕ, suc, ◌+◌, ◌<◌, ◌≤◌, false, cond, List, [], ◌∷◌, ◌++◌, append_assoc, append-nil, refl, sym, ap, ◌∙◌, subst, arith}
use Rattle.std.specs.List.{AllByRecursion as Every}
use mathlib.Core.Option.{Option}
use Rattle.bounded_model.specs.declared.history.Event.{Event}
use Rattle.machine.specs.Seats.{Acts}
use Rattle.machine.specs.Schedule.{Machine as Pure, State, Begin, Step, Schedule, next, run, start}
use Rattle.running.specs.Machine.{Names, Machine}
use Rattle.running.specs.Acts.{Doing, Begins, Steps, Looks, Hears, Now, played, IsAllowed}
use Rattle.step_core.specs.Linearizable.{Object, Entry, Invokes, Responds, history_at, concurrent_history, Linearizable}
use Rattle.runs.specs.Runs.{Below, one, schedule_of, IsRunning, Shows}
use Rattle.runs.specs.Heard.{heard_at, heard, IsLinearizable}
use Rattle.runs.proofs.Link.{at_some, same_idle, o_is, shows_all}

-- so many passes are enough
abbrev pub passes_of : {L : Type 0} → Acts L → ℕ
passes_of [] = 0
passes_of (a ∷ older) = suc a.0 + passes_of older

below_more : {L : Type 0} (n n' : ℕ) (acts : Acts L) → n ≤ n' → Below n acts → Below n' acts
below_more n n' [] le low = tt
below_more n n' (a ∷ older) le low = (let h : a.0 < n = low.0 in omega arith, below_more n n' older le low.1)

pub all_below : {L : Type 0} (acts : Acts L) → Below (passes_of acts) acts
all_below [] = tt
all_below (a ∷ older) = (omega arith, below_more (passes_of older) (suc a.0 + passes_of older) older (omega arith) (all_below older))

module _ {M L C T A : Type 0} (x : Pure M L C (Event T)) (answer : L → Option A) where
  history_append : (xs ys : Schedule C) (s : State M L C (Event T)) → concurrent_history x answer (xs ++ ys) s ≡ concurrent_history x answer ys (run x xs s) ++ concurrent_history x answer xs s
  history_append [] ys s = sym (append-nil (concurrent_history x answer ys s))
  history_append (a ∷ xs) ys s =
      let more : List (Entry T C A) = concurrent_history x answer xs (next x s a) in
      let at : List (Entry T C A) = concurrent_history x answer (a ∷ []) s in
      ap (λ (l : List (Entry T C A)). l ++ at) (history_append xs ys (next x s a)) ∙ append_assoc (concurrent_history x answer ys (run x xs (next x s a))) more at

module _ {T L O C A : Type 0} {names : Names L O} (m : Machine T L O names) (x : Pure m.core.Memory L C (Event T)) (call_at : L → C) (answer : L → Option A) (is : IsRunning m x call_at) where
  abbrev S : Type 0
  S = State m.core.Memory L C (Event T)

  abbrev told : Acts L → List (Entry T C A)
  told acts = heard names m.core call_at answer acts

  heard_one : (n : ℕ) (s : S) (k : Now names m.core) → Shows m x call_at n s k → (p : ℕ) → p < n → (d : Doing L) → IsAllowed names m.core d → concurrent_history x answer (one call_at p d) s ≡ heard_at names m.core call_at answer k p d
  heard_one n s k sh p low (Begins first) allowed =
      let there = at_some s.passes p (omega (arith, sh.many, low)) in
      let v = there.0 in
      let to : L = x.starts (call_at first) v.line in
      let starts : to ≡ first = subst (λ (l : L). x.starts (call_at l) v.line ≡ l) (sym allowed.2) (is.starts allowed.0 allowed.1 v.line) in
      let busy : x.is_idle to ≡ false = ap x.is_idle starts ∙ is.idle first ∙ ap names.is_idle allowed.2 ∙ names.starts allowed.0 allowed.1 in
      let idle : x.is_idle v.line ≡ names.is_idle (k.line p) = same_idle m x call_at is n s k sh p v there.1 in
      ap (history_at x answer s p (Begin (call_at first))) there.1
      ∙ (λ t. cond (idle t) (cond (busy t) (Responds p (answer to) ∷ []) [] ++ Invokes p (call_at first) ∷ []) [])
  heard_one n s k sh p low Steps allowed =
      let there = at_some s.passes p (omega (arith, sh.many, low)) in
      let v = there.0 in
      let line : (x.step s.memory p v.line).line ≡ m.core.lands k.memory p (k.line p) = ap (λ o. o.line) (o_is m x call_at is n s k sh p v there.1) in
      let ended : x.is_idle (x.step s.memory p v.line).line ≡ names.is_idle (m.core.lands k.memory p (k.line p)) = ap x.is_idle line ∙ is.idle (m.core.lands k.memory p (k.line p)) in
      let idle : x.is_idle v.line ≡ names.is_idle (k.line p) = same_idle m x call_at is n s k sh p v there.1 in
      ap (history_at x answer s p Step) there.1
      ∙ (λ t. cond (idle t) [] (cond (ended t) (Responds p (answer (line t)) ∷ []) []))
  heard_one n s k sh p low Looks allowed = refl
  heard_one n s k sh p low Hears allowed = refl

  pub heard_all : (n : ℕ) (acts : Acts L) → Below n acts → Every (λ a. IsAllowed names m.core a.1) acts → concurrent_history x answer (schedule_of call_at acts) (start x n) ≡ told acts
  heard_all n [] low allowed = refl
  heard_all n (a ∷ older) low allowed =
      let s : S = run x (schedule_of call_at older) (start x n) in
      let here = heard_one n s (played names m.core older) (shows_all m x call_at is n older low.1 allowed.1) a.0 low.0 a.1 allowed.0 in
      let before = heard_all n older low.1 allowed.1 in
      history_append x answer (schedule_of call_at older) (one call_at a.0 a.1) (start x n) ∙ (λ t. here t ++ before t)

  -- so the acts are linearizable if their schedule is
  pub linearizable_acts : (o : Object T C A) (n : ℕ) (acts : Acts L) → Below n acts → Every (λ a. IsAllowed names m.core a.1) acts → Linearizable x answer o n (schedule_of call_at acts) → IsLinearizable names m.core call_at answer o acts
  linearizable_acts o n acts low allowed l = record {
    course = l.course;
    same_calls = l.same_calls ∙ heard_all n acts low allowed;
    right = l.right;
    same_history = l.same_history ∙ (shows_all m x call_at is n acts low allowed).history;
  }
