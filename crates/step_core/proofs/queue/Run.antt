-- The queue's machine in every schedule.
use Rattle.std.proofs.Common.{◌≡◌, ℕ, ◌<◌, Bool, true, false, List, [], map, set, refl, sym, ap, ◌∙◌, subst, None, Some, arith}
use Rattle.std.proofs.lemmas.Bool.{false≢true}
use mathlib.Core.Option.{Option, none, some}
use lib.ListN.{get_elem?}
use Rattle.tagged_index.specs.declared.word.TheConstants.{NULL}
use Rattle.bounded_model.specs.declared.history.Event.{Event}
use Rattle.bounded_model.specs.Machine.{without_first}
use Rattle.machine.specs.Words.{times}
use Rattle.machine.specs.Chains.{last, HasValues}
use Rattle.machine.specs.Schedule.{Act, run, start}
use Rattle.machine.proofs.Sums.{total_map, at_map}
use Rattle.machine.proofs.OneList.{front}
use Rattle.machine.proofs.Scheduled.{run_kept}
use Rattle.machine.proofs.Stories.{Told, Stays, stays_holds, start_stays_alike}
use Rattle.queue_machine.specs.declared.lines.Answer.{Answer}
use Rattle.queue_machine.specs.declared.lines.Call.{Call}
use Rattle.queue_machine.specs.declared.lines.Call.TheVariants.{Put as CallPut}
use Rattle.queue_machine.specs.declared.lines.Line.{Line}
use Rattle.queue_machine.specs.declared.lines.Line.TheVariants.{Idle}
use Rattle.queue_machine.specs.Machine.{Memory, Pass, State, held_cells, held_nodes, is_idle, starts, next_of, queue}
use Rattle.queue_machine.specs.Answers.{shape, state}
use Rattle.queue_machine.specs.Rule.{Lists, IsFine, Tells, bare, wanting, putting, Kept}
use Rattle.queue_machine.specs.Deeds.{Deeds}
use Rattle.queue_machine.proofs.Chain.{head_in}
use Rattle.queue_machine.proofs.Raises.{puts_passed, puts_within}
use Rattle.queue_machine.proofs.Start.{start_kept, end_marked}
use Rattle.queue_machine.proofs.StepKinds.{Alike, good_goes}
use Rattle.queue_machine.proofs.Step.{step_kept}
use Rattle.queue_machine.proofs.Answers.{node_there, node_below}
use Rattle.queue_machine.proofs.Tells.{tells_kept, step_apart}
use Rattle.queue_machine.proofs.Doing.{meanwhile, begins, step_does}
use Rattle.step_core.specs.queue.Bound.{MeetsRule}
use Rattle.queue_machine.specs.Places.{NothingTwice}
use Rattle.queue_machine.proofs.Places.{nothing_twice}
use Rattle.step_core.specs.queue.Law.{Lawful, HasAnswered, AllDone, NoneUnanswered}

module _ {T : Type 0} (n limit : ℕ) where
  -- between any two acts the words, cells and lines are right for the history
  abbrev pub Rule : Memory T → List (Line T) → List (Event T) → Type 0
  Rule m lines h = Kept T n limit m some lines h

  -- what a pass has done since it began its call; one that has begun none is idle and has not answered
  abbrev pub IsDoing : ℕ → Option (Call T) → Line T → List (Event T) → List (Event T) → Type 0
  IsDoing p none l begun seen = l ≡ Idle None
  IsDoing p (some call) l begun seen = Deeds p call l begun seen

  -- each pass's answer is right, and it has done what its line says
  abbrev pub Story : ℕ → Option (Call T) → Line T → List (Event T) → List (Event T) → Type 0
  Story p call l begun seen = Tells n limit begun seen l × IsDoing p call l begun seen

  module _ (m : Memory T) (lines : List (Line T)) (h : List (Event T)) (p : ℕ) (l : Line T) (x : Rule m lines h) (e : get_elem? lines p ≡ some l) (idle : is_idle l ≡ true) where
    begun_kept : (call : Call T) → Alike l (starts call) → ((g : Lists) → IsFine limit m g (starts call)) → Rule m (set lines p (starts call)) h
    begun_kept call alike fine = record { lists = x.lists; good = good_goes p l (starts call) x.good e alike (fine x.lists) }

    idle_alike : (l : Line T) → is_idle l ≡ true → (l' : Line T) → held_cells l' ≡ [] → held_nodes l' ≡ [] → bare l' ≡ 0 → wanting l' ≡ 0 → putting l' ≡ 0 → Alike l l'
    idle_alike (Idle a) i l' cells nodes bare_none wants puts = record { cells = cells; nodes = nodes; bare_same = bare_none; wanting_less = omega arith; putting_less = omega arith }
    idle_alike l i l' cells nodes bare_none wants puts = absurd (false≢true i)

    pub begins_kept : (call : Call T) → Rule m (set lines p (starts call)) h
    begins_kept (CallPut y) = begun_kept (CallPut y) (idle_alike l idle (starts (CallPut y)) refl refl refl refl refl) (λ g. tt)
    begins_kept call = begun_kept call (idle_alike l idle (starts call) refl refl refl refl refl) (λ g. tt)

  -- a call that has just been begun has done nothing
  begins_story : (p : ℕ) (seen : List (Event T)) (call : Call T) → Story p (some call) (starts call) seen seen
  begins_story p seen (CallPut v) = (tt, begins p seen (CallPut v))
  begins_story p seen call = (tt, begins p seen call)

  pub starts_busy : (call : Call T) → is_idle (starts call) ≡ false
  starts_busy (CallPut v) = refl
  starts_busy call = refl

  pub queue_told : Told (queue (shape n limit)) Rule Story
  queue_told = record {
    begins = λ m lines h p l call x e idle. begins_kept m lines h p l x e idle call;
    begins_story = λ p l call seen idle. begins_story p seen call;
    steps = λ m lines h p l x e busy. step_kept n limit m some lines h p p refl x l e;
    steps_story = λ m lines h p call l b seen x e busy before ahead story. (
      tells_kept x.good p p b seen before (record { more = ahead.rest; is = ahead.is }) l e story.0,
      still_doing call busy story.1 (λ c d. step_does x.good p p c b l e (meanwhile p c b seen h l ahead d)),
    );
    apart = λ m h p q l ne. step_apart (shape n limit) m p q ne h l;
  }
    where
      still_doing : {p : ℕ} {l : Line T} {l' : Line T} {b seen newer : List (Event T)} (call : Option (Call T)) → is_idle l ≡ false → IsDoing p call l b seen
          → ((c : Call T) → Deeds p c l b seen → Deeds p c l' b newer) → IsDoing p call l' b newer
      still_doing none busy is goes = absurd (false≢true (sym busy ∙ ap is_idle is))
      still_doing (some c) busy d goes = goes c d

  -- what holds of the state between any two acts
  abbrev Kept_at : State T → Type 0
  Kept_at s = Stays (queue (shape n limit)) Rule Story s

  pub run_stays : (passes : ℕ) (schedule : List (ℕ × Act (Call T))) → 0 < n → n < NULL → 0 < limit → Kept_at (run (queue (shape n limit)) schedule (start (queue (shape n limit)) passes))
  run_stays passes schedule h small some_tags = run_kept (queue (shape n limit)) Kept_at (stays_holds (queue (shape n limit)) Rule Story queue_told) schedule (start (queue (shape n limit)) passes)
      (start_stays_alike (queue (shape n limit)) Rule Story (Idle None) (λ p. refl) passes (start_kept n limit passes h small some_tags) (λ p. (tt, refl)))

  pub run_meets : (passes : ℕ) (schedule : List (ℕ × Act (Call T))) → 0 < n → n < NULL → 0 < limit → MeetsRule n limit (run (queue (shape n limit)) schedule (start (queue (shape n limit)) passes))
  run_meets passes schedule h small some_tags = (run_stays passes schedule h small some_tags).rule

  lawful : (s : State T) → Kept_at s → Lawful T n limit s
  lawful s x =
      let g = x.rule.good in
      let lists = x.rule.lists in
      let ch = g.linked.chained in
      let f = front (next_of s.memory) s.memory.head.index lists.chain NULL (head_in ch) ch.stands in
      let queued : lists.queued ≡ map s.memory.cell f.rest = ch.stored ∙ ap (λ (is : List ℕ). map s.memory.cell (without_first is)) f.is in
      let place = λ (p : ℕ) (v : Pass T) (e : get_elem? s.passes p ≡ some v). at_map (λ (u : Pass T). u.line) s.passes p v e in
      record {
        legal = g.told.legal;
        lists = record { cells = lists.cells; nodes = lists.nodes; behind = f.rest; before = lists.before; after = lists.after };
        represents = record {
          chain = (refl, f.leads);
          values = subst (λ (is : List ℕ). HasValues s.memory.home is (state n limit s.history).values) queued g.filled.stored;
          tail = sym f.is ∙ ch.split;
          lags = ch.short;
          closed = ap (λ (is : List ℕ). (s.memory.next (last is)).mark) (sym f.is) ∙ end_marked g;
          shut = g.told.shut;
        };
        once = record {
          free_cells = g.linked.cells_stand;
          free_nodes = g.linked.nodes_stand;
          empty = g.filled.empty;
          cells = λ i. omega (arith, g.linked.cells_once i, ap (times i) queued, total_map (λ (l : Line T). times i (held_cells l)) (λ (v : Pass T). v.line) s.passes);
          nodes = λ j. omega (arith, g.linked.nodes_once j, ap (times j) f.is, total_map (λ (l : Line T). times j (held_nodes l)) (λ (v : Pass T). v.line) s.passes);
          finds_node = λ p v put e is. let here = place p v e ∙ ap some is in (node_there g p put here, node_below g p put here);
        };
        counts = record {
          cells = g.told.cells_tag;
          head = g.told.head_tag;
          tail = puts_passed g;
          holds = omega (arith, g.told.cells_tag, g.numbered.cells_limit);
          puts = puts_within g;
          nodes = omega (arith, g.numbered.nodes_tag, g.numbered.cells_limit);
          next = g.numbered.next_limit;
        };
        hands = λ p v e. g.told.hands p p v.line (place p v e) refl;
        knows = x.knows;
        answered = λ p v a e idle. subst (Tells n limit v.begun v.seen) idle (x.story p v e).0;
      }

  pub queue_lawful : (passes : ℕ) (schedule : List (ℕ × Act (Call T))) → 0 < n → n < NULL → 0 < limit → Lawful T n limit (run (queue (shape n limit)) schedule (start (queue (shape n limit)) passes))
  queue_lawful passes schedule h small some_tags = lawful (run (queue (shape n limit)) schedule (start (queue (shape n limit)) passes)) (run_stays passes schedule h small some_tags)

  -- an idle pass that has answered has begun a call
  answered : (p : ℕ) (v : Pass T) (a : Answer T) (o : Option (Call T)) → v.call ≡ o → IsDoing p o (Idle (Some a)) v.begun v.seen → HasAnswered p v a
  answered p v a none is d = absurd (has_answer d)
    where
      some_answer : Line T → Bool
      some_answer (Idle (Some a)) = true
      some_answer l = false

      has_answer : Idle (Some a) ≡ Idle None → ⊥
      has_answer d = false≢true (sym (ap some_answer d))
  answered p v a (some call) is d = record { call = call; of = is; done = record { between = d.between; is = d.is; made = d.made } }

  pub all_done : (passes : ℕ) (schedule : List (ℕ × Act (Call T))) → 0 < n → n < NULL → 0 < limit → AllDone (run (queue (shape n limit)) schedule (start (queue (shape n limit)) passes))
  all_done passes schedule some_cell small some_tags p v a e idle =
      answered p v a v.call refl (subst (λ (l : Line T). IsDoing p v.call l v.begun v.seen) idle ((run_stays passes schedule some_cell small some_tags).story p v e).1)

  -- a begun call is never at a line without an answer
  unanswered : (p : ℕ) (call : Call T) (o : Option (Call T)) (l : Line T) (begun seen : List (Event T)) → o ≡ some call → is_idle l ≡ true → IsDoing p o l begun seen → (a : Answer T) × (l ≡ Idle (Some a))
  unanswered p call none l begun seen is idle d = cc
  unanswered p call (some c) (Idle None) begun seen is idle d = absurd d.made
  unanswered p call (some c) (Idle (Some a)) begun seen is idle d = (a, refl)
  unanswered p call (some c) l begun seen is idle d = absurd (false≢true idle)

  pub none_unanswered : (passes : ℕ) (schedule : List (ℕ × Act (Call T))) → 0 < n → n < NULL → 0 < limit → NoneUnanswered (run (queue (shape n limit)) schedule (start (queue (shape n limit)) passes))
  none_unanswered passes schedule some_cell small some_tags p v call e is idle = unanswered p call v.call v.line v.begun v.seen is idle ((run_stays passes schedule some_cell small some_tags).story p v e).1

  -- between any two acts no cell and no node is in two places
  pub queue_nodes_once : (passes : ℕ) (schedule : List (ℕ × Act (Call T))) → 0 < n → n < NULL → 0 < limit
      → (let s = run (queue (shape n limit)) schedule (start (queue (shape n limit)) passes) in NothingTwice n s.memory (map (λ (v : Pass T). v.line) s.passes))
  queue_nodes_once passes schedule h small some_tags = nothing_twice (run_stays passes schedule h small some_tags).rule.good
