-- The stack's machine in every schedule.
use Rattle.std.proofs.Common.{◌≡◌, ℕ, ◌<◌, ◌≤◌, true, false, List, [], length, map, set, refl, sym, ap, ◌∙◌, subst, arith, Some, None, ◌++◌}
use Rattle.std.proofs.lemmas.Bool.{false≢true}
use mathlib.Core.Option.{Option, none, some}
use lib.ListN.{get_elem?}
use Rattle.tagged_index.specs.declared.word.TheConstants.{NULL}
use Rattle.bounded_model.specs.declared.history.Event.{Event}
use Rattle.machine.specs.Words.{times}
use Rattle.machine.specs.Schedule.{Act, run, start}
use Rattle.machine.proofs.Scheduled.{Holds, run_kept}
use Rattle.machine.proofs.Stories.{Told, Stays, stays_holds, start_stays_alike}
use Rattle.machine.proofs.Ahead.{Ahead}
use Rattle.machine.proofs.Sums.{total_map, at_map}
use Rattle.stack_machine.specs.declared.lines.Answer.{Answer}
use Rattle.stack_machine.specs.declared.lines.Line.{Line}
use Rattle.stack_machine.specs.declared.lines.Line.TheVariants.{Idle}
use Rattle.stack_machine.specs.declared.lines.Call.{Call}
use Rattle.stack_machine.specs.declared.lines.Call.TheVariants.{Put as CallPut}
use Rattle.stack_machine.specs.Answers.{shape}
use Rattle.stack_machine.specs.Deeds.{Deeds}
use Rattle.stack_machine.specs.Machine.{Memory, Pass, State, held, is_idle, starts, step, stack}
use Rattle.stack_machine.specs.Rule.{Lists, IsFine, Tells, putting}
use Rattle.stack_machine.proofs.Start.{start_kept, reads_good}
use Rattle.stack_machine.proofs.Moves.{Kept, good_goes}
use Rattle.stack_machine.proofs.Step.{step_kept}
use Rattle.stack_machine.proofs.Tells.{tells_kept, step_apart}
use Rattle.stack_machine.proofs.Doing.{begins, meanwhile, step_does}
use Rattle.step_core.specs.stack.Law.{Lawful, HasAnswered, AllDone, NoneUnanswered}
use Rattle.stack_machine.specs.Places.{NoNodeTwice}
use Rattle.stack_machine.proofs.Places.{no_node_twice}

module _ {T : Type 0} (n limit : ℕ) where
  -- between any two acts the words, slots and lines are right for the history
  abbrev pub Rule : Memory T → List (Line T) → List (Event T) → Type 0
  Rule m lines h = Kept T n limit m some lines h

  -- a pass that was begun with a call has done what its line says
  abbrev pub Did : ℕ → Option (Call T) → Line T → List (Event T) → List (Event T) → Type 0
  Did p none l begun seen = l ≡ Idle None
  Did p (some call) l begun seen = Deeds (shape n limit) p call l begun seen

  -- and the answer that is on its way is right
  abbrev pub Story : ℕ → Option (Call T) → Line T → List (Event T) → List (Event T) → Type 0
  Story p call l begun seen = Tells n limit begun seen l × Did p call l begun seen

  idle_holds : (l : Line T) → is_idle l ≡ true → (held l ≡ []) × (putting l ≡ [])
  idle_holds (Idle a) h = (refl, refl)
  idle_holds l h = absurd (false≢true h)

  module _ (m : Memory T) (lines : List (Line T)) (h : List (Event T)) (p : ℕ) (l : Line T) (x : Rule m lines h) (e : get_elem? lines p ≡ some l) (idle : is_idle l ≡ true) where
    begun_kept : (call : Call T) → held (starts call) ≡ [] → putting (starts call) ≡ [] → ((g : Lists) → IsFine limit m g (starts call)) → Rule m (set lines p (starts call)) h
    begun_kept call none_held none_put fine =
        let empty = idle_holds l idle in
        let same : held (starts call) ≡ held l = none_held ∙ sym empty.0 in
        record { lists = x.lists; good = good_goes p l (starts call) x.good e (λ i. ap (times i) same) (ap length same) (omega (arith, ap length none_put)) (fine x.lists) }

    begins_kept : (call : Call T) → Rule m (set lines p (starts call)) h
    begins_kept (CallPut y ys) = begun_kept (CallPut y ys) refl refl (λ g. record { chained = tt; wants = omega arith })
    begins_kept call = begun_kept call refl refl (λ g. tt)

  -- a call that has just been begun has done nothing
  begins_story : (p : ℕ) (seen : List (Event T)) (call : Call T) → Story p (some call) (starts call) seen seen
  begins_story p seen (CallPut v vs) = (tt, begins (shape n limit) p seen (CallPut v vs))
  begins_story p seen call = (tt, begins (shape n limit) p seen call)

  pub starts_busy : (call : Call T) → is_idle (starts call) ≡ false
  starts_busy (CallPut v vs) = refl
  starts_busy call = refl

  module _ (m : Memory T) (lines : List (Line T)) (h : List (Event T)) (p : ℕ) (l : Line T) (begun seen : List (Event T)) (x : Rule m lines h) (e : get_elem? lines p ≡ some l) (busy : is_idle l ≡ false) (a : Ahead p seen h) where
    steps_did : (call : Option (Call T)) → Did p call l begun seen → Did p call (step (shape n limit) m p l).line begun ((step (shape n limit) m p l).events ++ h)
    steps_did none idle = absurd (false≢true (sym busy ∙ ap is_idle idle))
    steps_did (some call) deeds =
        step_does n limit p call begun h m x.lists l (reads_good n limit m x.lists some lines h p l x.good e) (x.good.linked.fine p l e) (meanwhile (shape n limit) p call begun seen h l a deeds)

  pub stack_told : Told (stack (shape n limit)) Rule Story
  stack_told = record {
    begins = λ m lines h p l call x e idle. begins_kept m lines h p l x e idle call;
    begins_story = λ p l call seen idle. begins_story p seen call;
    steps = λ m lines h p l x e busy. step_kept n limit m some lines h p p refl x l e;
    steps_story = λ m lines h p call l b seen x e busy before ahead story. (
      tells_kept x.good p b seen before (record { more = ahead.rest; is = ahead.is }) l story.0,
      steps_did m lines h p l b seen x e busy ahead call story.1,
    );
    apart = λ m h p q l ne. step_apart (shape n limit) m p q ne h l;
  }

  -- what holds of the state between any two acts
  abbrev pub Kept_at : State T → Type 0
  Kept_at s = Stays (stack (shape n limit)) Rule Story s

  pub stack_holds : Holds (stack (shape n limit)) Kept_at
  stack_holds = stays_holds (stack (shape n limit)) Rule Story stack_told

  pub run_stays : (passes : ℕ) (schedule : List (ℕ × Act (Call T))) → 0 < n → n ≤ NULL → Kept_at (run (stack (shape n limit)) schedule (start (stack (shape n limit)) passes))
  run_stays passes schedule h small = run_kept (stack (shape n limit)) Kept_at stack_holds schedule (start (stack (shape n limit)) passes)
      (start_stays_alike (stack (shape n limit)) Rule Story (Idle None) (λ p. refl) passes (start_kept n limit passes h small) (λ p. (tt, refl)))

  pub stack_lawful : (passes : ℕ) (schedule : List (ℕ × Act (Call T))) → 0 < n → n ≤ NULL → Lawful T n limit (run (stack (shape n limit)) schedule (start (stack (shape n limit)) passes))
  stack_lawful passes schedule h small =
      let s = run (stack (shape n limit)) schedule (start (stack (shape n limit)) passes) in
      let x = run_stays passes schedule h small in
      let g = x.rule.good in
      record {
        legal = g.told.legal;
        frees = x.rule.lists.frees;
        stack = x.rule.lists.stack;
        free_stands = g.linked.free_stands;
        top_stands = g.linked.top_stands;
        once = λ i. omega (arith, g.linked.once i, total_map (λ (l : Line T). times i (held l)) (λ (v : Pass T). v.line) s.passes);
        empty = g.filled.empty;
        stored = g.filled.stored;
        closed = g.told.closed;
        shut = g.told.shut;
        free_tag = g.told.free_tag;
        top_tag = g.told.top_tag;
        free_limit = g.told.free_limit;
        top_limit = g.told.top_limit;
        hands = λ p v e. g.told.hands p p v.line (at_map (λ (u : Pass T). u.line) s.passes p v e) refl;
        knows = x.knows;
        answered = λ p v a e idle. subst (Tells n limit v.begun v.seen) idle (x.story p v e).0;
      }

  pub all_done : (passes : ℕ) (schedule : List (ℕ × Act (Call T))) → 0 < n → n ≤ NULL → AllDone (shape n limit) (run (stack (shape n limit)) schedule (start (stack (shape n limit)) passes))
  all_done passes schedule some_node small p v a e idle = answered v.call refl
      (subst (λ (l : Line T). Did p v.call l v.begun v.seen) idle ((run_stays passes schedule some_node small).story p v e).1)
    where
      answered : (call : Option (Call T)) → v.call ≡ call → Did p call (Idle (Some a)) v.begun v.seen → HasAnswered (shape n limit) p v a
      answered none is at = cc
      answered (some call) is at = record { call = call; of = is; done = record { between = at.between; is = at.is; made = at.made; all = at.all } }

  -- a begun call is never at a line without an answer
  unanswered : (p : ℕ) (call : Call T) (o : Option (Call T)) (l : Line T) (begun seen : List (Event T)) → o ≡ some call → is_idle l ≡ true → Did p o l begun seen → (a : Answer T) × (l ≡ Idle (Some a))
  unanswered p call none l begun seen is idle d = cc
  unanswered p call (some c) (Idle None) begun seen is idle d = absurd d.made
  unanswered p call (some c) (Idle (Some a)) begun seen is idle d = (a, refl)
  unanswered p call (some c) l begun seen is idle d = absurd (false≢true idle)

  pub none_unanswered : (passes : ℕ) (schedule : List (ℕ × Act (Call T))) → 0 < n → n ≤ NULL → NoneUnanswered (run (stack (shape n limit)) schedule (start (stack (shape n limit)) passes))
  none_unanswered passes schedule some_node small p v call e is idle = unanswered p call v.call v.line v.begun v.seen is idle ((run_stays passes schedule some_node small).story p v e).1

  -- between any two acts no node is in two places
  pub stack_nodes_once : (passes : ℕ) (schedule : List (ℕ × Act (Call T))) → 0 < n → n ≤ NULL
      → (let s = run (stack (shape n limit)) schedule (start (stack (shape n limit)) passes) in NoNodeTwice n s.memory (map (λ (v : Pass T). v.line) s.passes))
  stack_nodes_once passes schedule h small = no_node_twice (run_stays passes schedule h small).rule.good
