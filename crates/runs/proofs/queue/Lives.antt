-- A queue's life: whatever its passes do, no put is refused as spent before all cells of its limit were reserved.
use Rattle.std.proofs.Common.{◌≡◌, ℕ, ◌+◌, ◌<◌, ◌≤◌, true, false, ltb, List, [], ◌∷◌, ◌++◌, length, map, replicate, refl, sym, ap, ◌∙◌, subst, None, Err, arith}
use Rattle.std.proofs.lemmas.Bool.{false≢true}
use Rattle.std.proofs.lemmas.List.{map-set}
use mathlib.Core.Option.{some}
use Rattle.tagged_index.specs.declared.word.TheConstants.{NULL}
use Rattle.bounded_model.specs.declared.answers.PutRefused.TheVariants.{Spent}
use Rattle.bounded_model.specs.declared.answers.Word.{Word}
use Rattle.bounded_model.specs.declared.history.Event.{Event}
use Rattle.bounded_model.specs.declared.views.PassView.{PassView}
use Rattle.machine.specs.declared.seats.Doing.{Doing}
use Rattle.machine.specs.declared.seats.View.{View}
use Rattle.machine.specs.Schedule.{start as started, having_begun, having_stepped}
use Rattle.machine.specs.Seats.{Acts, pass_of}
use Rattle.machine.specs.Words.{Tagged, start_word}
use Rattle.machine.proofs.Scheduled.{Holds, run_kept}
use Rattle.machine.proofs.Stories.{rule_holds, start_rules_alike}
use Rattle.machine.proofs.Sums.{at_map, same_at, total_same}
use Rattle.machine.proofs.Tests.{cases}
use Rattle.queue_machine.specs.declared.lines.Answer.TheVariants.{Put as AnswerPut}
use Rattle.queue_machine.specs.declared.lines.Call.{Call}
use Rattle.queue_machine.specs.declared.lines.Call.TheVariants.{Put as CallPut}
use Rattle.queue_machine.specs.declared.lines.Line.{Line}
use Rattle.queue_machine.specs.declared.lines.Line.TheVariants.{Idle, LoadNodes, LoadNodeLink, TakeNode, StoreCell, LoadNext, PrepareNext, LoadTail, LoadTailNext, CheckTail, SwingTail, LinkNext}
use Rattle.queue_machine.specs.declared.lines.Seeking.{Seeking}
use Rattle.queue_machine.specs.declared.lines.Seeking.TheVariants.{ToLink}
use Rattle.queue_machine.specs.Machine.{Pass, State, ends, held_cells, is_idle, queue, seeking_cells, start, starts}
use Rattle.queue_machine.specs.Answers.{shape, state}
use Rattle.queue_machine.specs.Rule.{Kept, putting, seeks_link}
use Rattle.queue_machine.proofs.Start.{start_kept}
use Rattle.queue_table.specs.declared.operation.Operation.{Operation}
use Rattle.queue_table.specs.Lines.{names}
use Rattle.queue_table.specs.Core.{queue as on_table}
use Rattle.step_core.proofs.queue.Run.{Rule, Story, queue_told}
use Rattle.running.specs.Acts.{Begins}
use Rattle.running.specs.Going.{HasRun}
use Rattle.runs.specs.Runs.{schedule_of}
use Rattle.runs.proofs.Heard.{passes_of, all_below}
use Rattle.runs.proofs.Link.{at_some, shows_all}
use Rattle.runs.specs.queue.Bounded.{call_at, state_after}
use Rattle.runs.specs.queue.Life.{IsSpent}
use Rattle.runs.proofs.queue.LifeKinds.{total_less, weight, Knows, Aged, goes}
use Rattle.runs.proofs.queue.LifeSteps.{step_aged}
use Rattle.runs.proofs.queue.Queues.{running}

module _ {T : Type 0} where
  seeks_held : (s : Seeking T) → seeks_link s ≤ length (seeking_cells s)
  seeks_held (ToLink link) = omega arith
  seeks_held s = omega arith

  -- a put that is not done has its cell in hand
  putting_held : (l : Line T) → putting l ≤ length (held_cells l)
  putting_held (LoadNodes put) = omega arith
  putting_held (LoadNodeLink put w) = omega arith
  putting_held (TakeNode put w k) = omega arith
  putting_held (StoreCell link) = omega arith
  putting_held (LoadNext link) = omega arith
  putting_held (PrepareNext link w) = omega arith
  putting_held (LoadTail s) = seeks_held s
  putting_held (LoadTailNext s w) = seeks_held s
  putting_held (CheckTail s w y) = seeks_held s
  putting_held (SwingTail s w y) = seeks_held s
  putting_held (LinkNext link w y) = omega arith
  putting_held l = omega arith

  light : (l : Line T) → is_idle l ≡ true → weight l ≡ (0, [])
  light (Idle a) idle = refl
  light l idle = absurd (false≢true idle)

  light_first : (call : Call T) → weight (starts call) ≡ (0, [])
  light_first (CallPut v) = refl
  light_first call = refl

  -- whoever acts is among these passes
  is_among : (since before : Acts (Line T)) (p : ℕ) (d : Doing (Line T)) → p < passes_of (since ++ (p, d) ∷ before)
  is_among [] before p d = omega arith
  is_among (a ∷ since) before p d = omega (arith, is_among since before p d)

module _ {T : Type 0} (n limit : ℕ) where
  knows_first : (h : List (Event T)) (call : Call T) → Knows n limit h (starts call)
  knows_first h (CallPut v) = tt
  knows_first h call = tt

  -- what holds between any two acts
  abbrev Lives : State T → Type 0
  Lives s = Kept T n limit s.memory some (map (λ v. v.line) s.passes) s.history × Aged n limit s.memory (map (λ v. v.line) s.passes) s.history

  lives : Holds (queue (shape n limit)) Lives
  lives = record {
    begins = λ s p v k e idle call.
        let c = queue {T = T} (shape n limit) in
        let lines : List (Line T) = map (λ v. v.line) s.passes in
        let here = at_map (λ (u : Pass T). u.line) s.passes p v e in (
          (rule_holds c (Rule n limit) (Story n limit) (queue_told n limit)).begins s p v k.0 e idle call,
          subst (λ (ls : List (Line T)). Aged n limit s.memory ls s.history) (sym (map-set (λ (u : Pass T). u.line) s.passes p (having_begun c s v call)))
              (goes n limit p v.line (starts call) here k.1 s.memory s.history refl k.1.marked refl (light_first call ∙ sym (light v.line idle)) (knows_first s.history call)),
        );
    steps = λ s p v k e busy.
        let c = queue {T = T} (shape n limit) in
        let o = c.step s.memory p v.line in
        let here = at_map (λ (u : Pass T). u.line) s.passes p v e in (
          (rule_holds c (Rule n limit) (Story n limit) (queue_told n limit)).steps s p v k.0 e busy,
          subst (λ (ls : List (Line T)). Aged n limit o.memory ls (o.events ++ s.history)) (sym (map-set (λ (u : Pass T). u.line) s.passes p (having_stepped c s v o)))
              (step_aged n limit s.memory some (map (λ v. v.line) s.passes) s.history p p k.0 k.1 v.line here),
        );
  }

  start_aged : (passes : ℕ) → Aged {T = T} n limit (start (shape n limit)) (replicate passes (Idle None)) []
  start_aged passes = record {
    worn = λ j. omega (arith, untagged j, total_same {V = Line T} putting (Idle None) passes refl);
    marked = λ j is_marked. absurd (false≢true (sym (unmarked j) ∙ is_marked));
    used = λ open_now. record { but_one = omega arith; early = λ low. omega arith; busy = λ some_put. omega arith };
    knows = λ q l e. subst (Knows n limit []) (same_at passes q (Idle None) l e) tt;
  }
    where
      untagged : (j : ℕ) → ((start {T = T} (shape n limit)).next j).tag ≡ 0
      untagged j = cases (λ (w : Tagged). w.tag ≡ 0) (ltb j (n + 1)) (start_word NULL) (start_word 0) (λ b. refl) (λ b. refl)

      unmarked : (j : ℕ) → ((start {T = T} (shape n limit)).next j).mark ≡ false
      unmarked j = cases (λ (w : Tagged). w.mark ≡ false) (ltb j (n + 1)) (start_word NULL) (start_word 0) (λ b. refl) (λ b. refl)

  module _ (some_cell : 0 < n) (small : n < NULL) (some_tag : 0 < limit) where
    -- wherever acts have led
    lives_after : (passes : ℕ) (acts : Acts (Line T)) → Lives (state_after n limit passes acts)
    lives_after passes acts =
        let c = queue {T = T} (shape n limit) in
        run_kept c Lives lives (schedule_of call_at acts) (started c passes) (
          start_rules_alike c (Rule n limit) (Story n limit) (Idle None) (λ p. refl) passes (start_kept n limit passes some_cell small some_tag),
          start_rules_alike c (Aged n limit) (Story n limit) (Idle None) (λ p. refl) passes (start_aged passes),
        )

    -- a pass that was refused as spent
    is_spent : (s : State T) → Lives s → limit ≤ (state n limit s.history).holds → IsSpent n limit s.history
    is_spent s k all =
        let g = k.0.good in
        record {
          all = omega (arith, all, g.told.cells_tag, g.numbered.cells_limit);
          put = λ open_now.
              let u = k.1.used open_now in
              omega (arith, all, u.but_one, g.told.out, total_less putting (λ (l : Line T). length (held_cells l)) putting_held (map (λ v. v.line) s.passes));
        }

    pub spent : (o : Operation T) (v : View T (Line T)) (begun : PassView T) (x : T) (word : Word) (t : ℕ) → HasRun (on_table T n limit) o v begun (ends (AnswerPut (Err (Spent x word t)))) → IsSpent n limit (pass_of v).seen
    spent o v begun x word t ran =
        let p : ℕ = (pass_of v).number in
        let passes : ℕ = passes_of ran.now in
        let s : State T = state_after n limit passes ran.now in
        let sh = shows_all (on_table T n limit) (queue (shape n limit)) call_at (running n limit) passes ran.now (all_below ran.now) ran.course.allowed in
        let low = is_among ran.course.since ran.before p (Begins (names.first o ran.rest)) in
        let there = at_some s.passes p (omega (arith, low, ap passes_of ran.course.is, sh.many)) in
        let line : there.0.line ≡ ends (AnswerPut (Err (Spent x word t))) = sh.lines p there.0 there.1 ∙ ran.course.at in
        let k = lives_after passes ran.now in
        let known = k.1.knows p there.0.line (at_map (λ (u : Pass T). u.line) s.passes p there.0 there.1) in
        subst (IsSpent n limit) (sh.history ∙ ran.history) (is_spent s k (subst (Knows n limit s.history) line known))
