-- The ring with a pool keeps the rule of the ring: of the words, of the passes in an operation, and of the free cells.
use Rattle.std.proofs.Common.{◌≡◌, ◌≢◌, ℕ, zero, suc, ◌+◌, ◌<◌, Bool, true, false, cond, List, [], ◌∷◌, ◌++◌, append-nil, append_assoc, map, set, refl, sym, ap, ◌∙◌, subst, arith}
use Rattle.std.specs.Prelude.{None}
use Rattle.std.proofs.lemmas.Bool.{false≢true}
use Rattle.std.proofs.lemmas.Bool.Decides.{nat_tests}
use Rattle.std.proofs.lemmas.List.{map-set, set-set}
use mathlib.Core.Option.{Option, none, some}
use lib.ListN.{get_elem?}
use Rattle.atomic_table.proofs.Lists.{set_again}
use Rattle.bounded_model.specs.declared.history.Event.{Event}
use Rattle.bounded_model.specs.Histories.{Later, own}
use Rattle.bounded_model.proofs.Histories.{own-append}
use Rattle.machine.specs.Words.{start_word, times}
use Rattle.machine.proofs.Ahead.{Ahead}
use Rattle.machine.proofs.Scheduled.{set_same, first_lines}
use Rattle.machine.proofs.Stories.{Told, Stays, start_stays}
use Rattle.machine.proofs.Sums.{at_map}
use Rattle.machine.proofs.Tests.{cases, if_below}
use Rattle.machine.specs.Schedule.{start}
use Rattle.ring_machine.specs.declared.lines.Call.{Call}
use Rattle.ring_machine.specs.declared.lines.Call.TheVariants.{Put as CallPut, Take as CallTake, Close as CallClose, Shut as CallShut, Look as CallLook, Len as CallLen, Gauge as CallGauge}
use Rattle.ring_machine.specs.declared.lines.Line.{Line}
use Rattle.ring_machine.specs.declared.lines.Line.TheVariants.{Idle}
use Rattle.ring_machine.specs.Machine.{Memory, cell_of, first_of, is_home, resting, step, ring}
use Rattle.ring_machine.specs.Machine as machine
use Rattle.ring_machine.specs.Answers.{shape}
use Rattle.ring_machine.specs.Rule.{IsFine, Good, Tells, progress}
use Rattle.ring_machine.specs.Deeds.{Deeds, HasMade}
use Rattle.ring_machine.proofs.Doing.{meanwhile, step_does}
use Rattle.ring_machine.proofs.Start.{IsNew, shown_good}
use Rattle.ring_machine.proofs.Step.{step_kept}
use Rattle.ring_machine.proofs.StepKinds.{good_goes}
use Rattle.ring_machine.proofs.Tells.{tells_kept, step_apart}
use Rattle.ring_table.specs.declared.line.SeatLine.{SeatLine}
use Rattle.ring_table.specs.declared.line.SeatLine.TheVariants.{At, Stock}
use Rattle.ring_table.specs.Seats.{each_resting, passes_of, cells_from}
use Rattle.ring_table.specs.Core.{first_memory}
use Rattle.ring_table.proofs.Seats.{found, Same}
use Rattle.step_core.proofs.ring.Run as core
use Rattle.runs.specs.ring.Machine.{From}
use Rattle.runs.specs.ring.Bounded.{in_operation}
use Rattle.runs.proofs.ring.Free.{taken_out, laid_back}
use Rattle.runs.proofs.ring.Pool.{Pool, PoolLine, PoolOutcome, Gets, Goes, without, waits, has, got, gets, gone, step_in, idle_in, waiting, pool_ring}

module _ {T : Type 0} where
  -- a pass's line as the rule counts it
  abbrev pub counts : PoolLine T → SeatLine T
  counts (Gets from call) = Stock []
  counts (Goes l) = in_operation l

  idle_counts : (l : PoolLine T) → idle_in l ≡ true → counts l ≡ Stock []
  idle_counts (Gets from call) e = refl
  idle_counts (Goes (At l)) e = ap (λ (b : Bool). cond b (Stock []) (At l)) e
  idle_counts (Goes (Stock cs)) e = refl

  pub busy_counts : (l : Line T) → machine.is_idle l ≡ false → in_operation (At l) ≡ At l
  busy_counts l e = ap (λ (b : Bool). cond b (Stock []) (At l)) e

  pub first_busy : (c : ℕ) (call : Call T) → machine.is_idle (first_of c call) ≡ false
  first_busy c (CallPut v) = refl
  first_busy c CallTake = refl
  first_busy c CallClose = refl
  first_busy c CallShut = refl
  first_busy c CallLook = refl
  first_busy c CallLen = refl
  first_busy c CallGauge = refl

  pub first_cell : (c : ℕ) (call : Call T) → cell_of (first_of c call) ≡ c
  first_cell c (CallPut v) = refl
  first_cell c CallTake = refl
  first_cell c CallClose = refl
  first_cell c CallShut = refl
  first_cell c CallLook = refl
  first_cell c CallLen = refl
  first_cell c CallGauge = refl

  idle_home : (l : Line T) → machine.is_idle l ≡ true → is_home l ≡ true
  idle_home (Idle c a) idle = refl
  idle_home l idle = absurd (false≢true idle)

module _ {T : Type 0} (n laps cells : ℕ) where
  first_fine : (m : Memory T) (h : List (Event T)) (c : ℕ) (call : Call T) → IsFine n laps (progress T n laps m h) (first_of c call)
  first_fine m h c (CallPut v) = tt
  first_fine m h c CallTake = tt
  first_fine m h c CallClose = tt
  first_fine m h c CallShut = tt
  first_fine m h c CallLook = tt
  first_fine m h c CallLen = tt
  first_fine m h c CallGauge = tt

  first_tells : (c : ℕ) (call : Call T) (begun seen : List (Event T)) → Tells n laps begun seen (first_of c call)
  first_tells c (CallPut v) begun seen = tt
  first_tells c CallTake begun seen = tt
  first_tells c CallClose begun seen = tt
  first_tells c CallShut begun seen = tt
  first_tells c CallLook begun seen = tt
  first_tells c CallLen begun seen = tt
  first_tells c CallGauge begun seen = tt

  first_made : (p c : ℕ) (call : Call T) → HasMade p n call (first_of c call) []
  first_made p c (CallPut v) = (refl, refl)
  first_made p c CallTake = (refl, refl)
  first_made p c CallClose = (refl, refl)
  first_made p c CallShut = (refl, refl)
  first_made p c CallLook = (refl, refl)
  first_made p c CallLen = (refl, refl)
  first_made p c CallGauge = (refl, refl)

  -- the rule of the seats
  abbrev K : Memory T → List (SeatLine T) → List (Event T) → Type 0
  K m seats h = Good T n laps cells m (passes_of seats) h

  same_good : (m : Memory T) (seats seats' : List (SeatLine T)) (h : List (Event T)) → Same seats seats' → K m seats h → K m seats' h
  same_good m seats seats' h s k = record {
    tail = k.tail;
    head = k.head;
    turned = k.turned;
    marked = k.marked;
    filled = k.filled;
    spares = λ q l at home. let r = s.from q l at in k.spares r.0 l r.1 home;
    once = λ c. let e = s.sums (λ l. times c (machine.held_cells l)) in let o = k.once c in omega arith;
    told = k.told;
    fine = λ q l at. let r = s.from q l at in k.fine r.0 l r.1;
  }

  goes_at : (m : Memory T) (seats : List (SeatLine T)) (h : List (Event T)) (q : ℕ) (l l' : Line T) → K m seats h → get_elem? seats q ≡ some (At l) → cell_of l' ≡ cell_of l → (is_home l' ≡ true → is_home l ≡ true)
      → IsFine n laps (progress T n laps m h) l' → K m (set seats q (At l')) h
  goes_at m seats h q l l' k e same rests fine =
      let f = found seats q l e in
      subst (λ (ls : List (Line T)). Good T n laps cells m ls h) (sym (f.sets l')) (good_goes f.place l l' k f.there same rests fine)

  -- a pass takes its cell out of the pool
  takes : (m : Memory T) (free : List ℕ) (seats : List (SeatLine T)) (h : List (Event T)) (p c : ℕ) (call : Call T) → K m (Stock free ∷ seats) h → 0 < times c free → get_elem? seats p ≡ some (Stock [])
      → K m (Stock (without c free) ∷ set seats p (At (first_of c call))) h
  takes m free seats h p c call k some_cell e =
      let seats' : List (SeatLine T) = Stock (without c free) ∷ set seats p (At (resting c)) in
      let k' : K m seats' h = same_good m (Stock free ∷ seats) seats' h (taken_out free seats p c some_cell e) k in
      subst (λ (ss : List (SeatLine T)). K m (Stock (without c free) ∷ ss) h) (set-set seats p (At (resting c)) (At (first_of c call)))
      (goes_at m seats' h (suc p) (resting c) (first_of c call) k' (set_same seats p (Stock []) (At (resting c)) e) (first_cell c call) (λ home. refl) (first_fine m h c call))

  -- and lays its spare one back as its operation ends
  ends : (m : Memory T) (free : List ℕ) (seats : List (SeatLine T)) (h : List (Event T)) (p : ℕ) (s : SeatLine T) (l : Line T) → get_elem? seats p ≡ some s → machine.is_idle l ≡ true → K m (Stock free ∷ set seats p (At l)) h
      → K m (Stock (cell_of l ∷ free) ∷ set seats p (Stock [])) h
  ends m free seats h p s l e idle k =
      let c : ℕ = cell_of l in
      let rests : List (SeatLine T) = set seats p (At (resting c)) in
      let k' : K m (Stock free ∷ rests) h = subst (λ (ss : List (SeatLine T)). K m (Stock free ∷ ss) h) (set-set seats p (At l) (At (resting c)))
      (goes_at m (Stock free ∷ set seats p (At l)) h (suc p) l (resting c) k (set_same seats p s (At l) e) refl (λ home. idle_home l idle) tt) in
      subst (λ (ss : List (SeatLine T)). K m (Stock (c ∷ free) ∷ ss) h) (set-set seats p (At (resting c)) (Stock []))
      (same_good m (Stock free ∷ rests) (Stock (c ∷ free) ∷ set rests p (Stock [])) h (laid_back free rests p c (set_same seats p s (At (resting c)) e)) k')

  -- The rule of the pool's machine
  abbrev pub seats_in : Pool T → List (PoolLine T) → List (SeatLine T)
  seats_in m lines = Stock m.free ∷ map counts lines

  abbrev pub Rule : Pool T → List (PoolLine T) → List (Event T) → Type 0
  Rule m lines h = K m.memory (seats_in m lines) h

  -- a line that counts for the same
  alike : (lines : List (PoolLine T)) (p : ℕ) (l l' : PoolLine T) → get_elem? lines p ≡ some l → counts l' ≡ counts l → map counts (set lines p l') ≡ map counts lines
  alike lines p l l' e same = map-set counts lines p l' ∙ ap (set (map counts lines) p) same ∙ set_again (map counts lines) p (counts l) (at_map counts lines p l e)

  stays : (m : Pool T) (lines : List (PoolLine T)) (h : List (Event T)) (p : ℕ) (l l' : PoolLine T) → Rule m lines h → get_elem? lines p ≡ some l → counts l' ≡ counts l → Rule m (set lines p l') h
  stays m lines h p l l' k e same = subst (λ (ss : List (SeatLine T)). K m.memory (Stock m.free ∷ ss) h) (sym (alike lines p l l' e same)) k

  abbrev After : List (PoolLine T) → List (Event T) → ℕ → PoolOutcome T → Type 0
  After lines h p o = Rule o.memory (set lines p o.line) (o.events ++ h)

  -- a line of the ring, among the seats
  there : (lines : List (PoolLine T)) (p : ℕ) (l : Line T) → get_elem? lines p ≡ some (Goes (At l)) → machine.is_idle l ≡ false → get_elem? (map counts lines) p ≡ some (At l)
  there lines p l e busy = at_map counts lines p (Goes (At l)) e ∙ ap some (busy_counts l busy)

  goes_kept : (m : Pool T) (lines : List (PoolLine T)) (h : List (Event T)) (p : ℕ) (l : Line T) → Rule m lines h → get_elem? lines p ≡ some (Goes (At l)) → machine.is_idle l ≡ false
      → After lines h p (gone m (step (shape n laps) m.memory p l))
  goes_kept m lines h p l k e busy =
      let o : machine.Outcome T = step (shape n laps) m.memory p l in
      let here = there lines p l e busy in
      let f = found (seats_in m lines) (suc p) l here in
      let kept : K o.memory (Stock m.free ∷ set (map counts lines) p (At o.line)) (o.events ++ h) =
      subst (λ (ls : List (Line T)). Good T n laps cells o.memory ls (o.events ++ h)) (sym (f.sets o.line)) (step_kept n laps cells m.memory (passes_of (seats_in m lines)) h f.place p k l f.there) in
      subst (λ (ss : List (SeatLine T)). K o.memory (Stock (gone m o).memory.free ∷ ss) (o.events ++ h)) (sym (map-set counts lines p (Goes (At o.line))))
      (by_test o.memory o.line (o.events ++ h) here kept (machine.is_idle o.line) refl)
    where
      by_test : (m' : Memory T) (l' : Line T) (h' : List (Event T)) → get_elem? (map counts lines) p ≡ some (At l) → K m' (Stock m.free ∷ set (map counts lines) p (At l')) h'
          → (b : Bool) → machine.is_idle l' ≡ b → K m' (Stock (cond b (cell_of l' ∷ m.free) m.free) ∷ set (map counts lines) p (cond b (Stock []) (At l'))) h'
      by_test m' l' h' here kept true idle = ends m' m.free (map counts lines) h' p (At l) l' here idle kept
      by_test m' l' h' here kept false idle = kept

  -- a pass that begins has no cell yet
  pub begins_kept : (m : Pool T) (lines : List (PoolLine T)) (h : List (Event T)) (p : ℕ) (l : PoolLine T) (call : From T) → Rule m lines h → get_elem? lines p ≡ some l → idle_in l ≡ true → Rule m (set lines p (Gets call.0 call.1)) h
  begins_kept m lines h p l call k e idle = stays m lines h p l (Gets call.0 call.1) k e (sym (idle_counts l idle))

  -- A pass whose cell is not free goes to a line with no cell
  module _ (refused : SeatLine T → Call T → PoolLine T) (no_cell : (from : SeatLine T) (call : Call T) → counts (refused from call) ≡ Stock []) where
    gets_kept : (m : Pool T) (lines : List (PoolLine T)) (h : List (Event T)) (p : ℕ) (from : SeatLine T) (call : Call T) → Rule m lines h → get_elem? lines p ≡ some (Gets from call) → After lines h p (gets refused m from call)
    gets_kept m lines h p (Stock cs) call k e = stays m lines h p (Gets (Stock cs) call) (refused (Stock cs) call) k e (no_cell (Stock cs) call)
    gets_kept m lines h p (At l) call k e =
        let c : ℕ = cell_of l in
        cases (After lines h p) (has m c) (got m c call) (waits m (refused (At l) call))
        (λ b. subst (λ (ss : List (SeatLine T)). K m.memory (Stock (without c m.free) ∷ ss) h) (sym (map-set counts lines p (Goes (At (first_of c call))) ∙ ap (set (map counts lines) p) (busy_counts (first_of c call) (first_busy c call))))
        (takes m.memory m.free (map counts lines) h p c call k (grind (arith, nat_tests)) (at_map counts lines p (Gets (At l) call) e)))
        (λ b. stays m lines h p (Gets (At l) call) (refused (At l) call) k e (no_cell (At l) call))

    pub kept_by : (m : Pool T) (lines : List (PoolLine T)) (h : List (Event T)) (p : ℕ) (l : PoolLine T) → Rule m lines h → get_elem? lines p ≡ some l → idle_in l ≡ false → After lines h p (step_in refused (shape n laps) m p l)
    kept_by m lines h p (Gets from call) k e busy = gets_kept m lines h p from call k e
    kept_by m lines h p (Goes (At l)) k e busy = goes_kept m lines h p l k e busy
    kept_by m lines h p (Goes (Stock cs)) k e busy = stays m lines h p (Goes (Stock cs)) (Goes (Stock cs)) k e refl

    gets_apart : (m : Pool T) (from : SeatLine T) (k : Call T) (q : ℕ) (h : List (Event T)) → own q ((gets refused m from k).events ++ h) ≡ own q h
    gets_apart m (Stock cs) k q h = refl
    gets_apart m (At l) k q h = let c : ℕ = cell_of l in cases (λ (o : PoolOutcome T). own q (o.events ++ h) ≡ own q h) (has m c) (got m c k) (waits m (refused (At l) k)) (λ yes. refl) (λ no. refl)

    pub apart_by : (m : Pool T) (h : List (Event T)) (p q : ℕ) (l : PoolLine T) → q ≢ p → own q ((step_in refused (shape n laps) m p l).events ++ h) ≡ own q h
    apart_by m h p q (Gets from k) ne = gets_apart m from k q h
    apart_by m h p q (Goes (At l)) ne = step_apart n laps m.memory p q ne h l
    apart_by m h p q (Goes (Stock cs)) ne = refl

  -- What a pass has done since it began its call

  -- nothing, of its own
  pub record Quiet (p : ℕ) (begun seen : List (Event T)) : Type 0 where
    pub between : List (Event T)
    pub is : seen ≡ between ++ begun
    pub none_own : own p between ≡ []

  quiet_later : (p : ℕ) (begun seen h : List (Event T)) → Ahead p seen h → Quiet p begun seen → Quiet p begun h
  quiet_later p begun seen h a q = record {
    between = a.rest ++ q.between;
    is = a.is ∙ ap (λ (l : List (Event T)). a.rest ++ l) q.is ∙ sym (append_assoc a.rest q.between begun);
    none_own = own-append p a.rest q.between ∙ ap (λ (l : List (Event T)). l ++ own p q.between) a.none_own ∙ q.none_own;
  }

  abbrev pub call_only : Option (From T) → Option (Call T)
  call_only none = none
  call_only (some from) = some from.1

  abbrev pub Story : ℕ → Option (From T) → PoolLine T → List (Event T) → List (Event T) → Type 0
  Story p call (Gets from k) begun seen = (call ≡ some (from, k)) × Quiet p begun seen
  Story p call (Goes (At l)) begun seen = core.Story n laps cells p (call_only call) l begun seen
  Story p call (Goes (Stock cs)) begun seen = ⊥

  abbrev Tale : ℕ → Option (From T) → List (Event T) → List (Event T) → PoolOutcome T → Type 0
  Tale p call b h o = Story p call o.line b (o.events ++ h)

  first_story : (p c : ℕ) (from : SeatLine T) (k : Call T) (call : Option (From T)) (b h : List (Event T)) → call ≡ some (from, k) → Quiet p b h → Story p call (Goes (At (first_of c k))) b h
  first_story p c from k call b h is q =
      subst (λ (o : Option (From T)). Story p o (Goes (At (first_of c k))) b h) (sym is)
      (first_tells c k b h, record { between = q.between; is = q.is; made = subst (HasMade p n k (first_of c k)) (sym q.none_own) (first_made p c k) })

  gets_story : (m : Pool T) (p : ℕ) (from : SeatLine T) (k : Call T) (call : Option (From T)) (b h : List (Event T)) → call ≡ some (from, k) → Quiet p b h → Tale p call b h (gets waiting m from k)
  gets_story m p (Stock cs) k call b h is q = (is, q)
  gets_story m p (At l) k call b h is q =
      let c : ℕ = cell_of l in
      cases (Tale p call b h) (has m c) (got m c k) (waits m (waiting (At l) k)) (λ yes. first_story p c (At l) k call b h is q) (λ no. (is, q))

  goes_story : (m : Pool T) (lines : List (PoolLine T)) (h : List (Event T)) (p : ℕ) (call : Option (From T)) (l : Line T) (b seen : List (Event T)) → Rule m lines h → get_elem? lines p ≡ some (Goes (At l)) → machine.is_idle l ≡ false
      → Later b seen → Ahead p seen h → Story p call (Goes (At l)) b seen → Tale p call b h (gone m (step (shape n laps) m.memory p l))
  goes_story m lines h p call l b seen k e busy before ahead story =
      let f = found (seats_in m lines) (suc p) l (there lines p l e busy) in
      let o : machine.Outcome T = step (shape n laps) m.memory p l in
      (tells_kept k f.place p b seen before (record { more = ahead.rest; is = ahead.is }) l f.there story.0, still_doing call o.line (o.events ++ h) (λ c d. step_does k f.place p c b l f.there (meanwhile n p c b seen h l ahead d)) story.1)
    where
      still_doing : (call : Option (From T)) (l' : Line T) (newer : List (Event T)) → ((c : Call T) → Deeds n p c l b seen → Deeds n p c l' b newer) → core.IsDoing n laps cells p (call_only call) l b seen → core.IsDoing n laps cells p (call_only call) l' b newer
      still_doing none l' newer goes is = absurd (false≢true (sym busy ∙ ap machine.is_idle is))
      still_doing (some from) l' newer goes d = goes from.1 d

  story_kept : (m : Pool T) (lines : List (PoolLine T)) (h : List (Event T)) (p : ℕ) (call : Option (From T)) (l : PoolLine T) (b seen : List (Event T)) → Rule m lines h → get_elem? lines p ≡ some l → idle_in l ≡ false
      → Later b seen → Ahead p seen h → Story p call l b seen → Tale p call b h (step_in waiting (shape n laps) m p l)
  story_kept m lines h p call (Gets from k') b seen k e busy before ahead story = gets_story m p from k' call b h story.0 (quiet_later p b seen h ahead story.1)
  story_kept m lines h p call (Goes (At l)) b seen k e busy before ahead story = goes_story m lines h p call l b seen k e busy before ahead story
  story_kept m lines h p call (Goes (Stock cs)) b seen k e busy before ahead story = absurd story

  module _ (passes : ℕ) where
    pub pool_told : Told (pool_ring waiting n laps passes) Rule Story
    pool_told = record {
      begins = λ m lines h p l call k e idle. begins_kept m lines h p l call k e idle;
      begins_story = λ p l call seen idle. (refl, record { between = []; is = refl; none_own = refl });
      steps = λ m lines h p l k e busy. kept_by waiting (λ from call. refl) m lines h p l k e busy;
      steps_story = λ m lines h p call l b seen k e busy before ahead story. story_kept m lines h p call l b seen k e busy before ahead story;
      apart = λ m h p q l ne. apart_by waiting (λ from call. refl) m h p q l ne;
    }

module _ {T : Type 0} (n laps passes : ℕ) (some_slot : 0 < n) where
  -- a pass that has begun nothing does not count
  none_first : (p k : ℕ) → passes_of (map counts (first_lines (pool_ring {T = T} waiting n laps passes) p k)) ≡ []
  none_first p zero = refl
  none_first p (suc k) = none_first (p + 1) k

  rest_lines : (p k : ℕ) → each_resting (cells_from (n + p) k) ≡ first_lines (ring {T = T} (shape n laps)) p k
  rest_lines p zero = refl
  rest_lines p (suc k) = let e : n + p + 1 ≡ n + (p + 1) = omega arith in ap (λ (ls : List (Line T)). resting (n + p) ∷ ls) (ap (λ (c : ℕ). each_resting (cells_from c k)) e ∙ rest_lines (p + 1) k)

  first_passes : (numbers : ℕ) → passes_of (Stock (cells_from n passes) ∷ map counts (first_lines (pool_ring {T = T} waiting n laps passes) 0 numbers)) ≡ first_lines (ring {T = T} (shape n laps)) 0 passes
  first_passes numbers =
      ap (λ (ls : List (Line T)). each_resting (cells_from n passes) ++ ls) (none_first 0 numbers) ∙ append-nil (each_resting (cells_from n passes))
      ∙ (let e : n ≡ n + 0 = omega arith in ap (λ (c : ℕ). each_resting (cells_from c passes)) e) ∙ rest_lines 0 passes

  first_new : IsNew T n laps (n + passes) (first_memory T n laps passes)
  first_new = record {
    head = refl;
    tail = refl;
    slots = λ i low. if_below i n (start_word i) (start_word 0) low;
    home = λ c low. if_below c (n + passes) (some None) none low;
  }

  pub first_rule : (numbers : ℕ) → Rule n laps (n + passes) (record { memory = first_memory T n laps passes; free = cells_from n passes }) (first_lines (pool_ring {T = T} waiting n laps passes) 0 numbers) []
  first_rule numbers = subst (λ (ls : List (Line T)). Good T n laps (n + passes) (first_memory T n laps passes) ls []) (sym (first_passes numbers)) (shown_good T n laps passes (first_memory T n laps passes) some_slot first_new)

  pub pool_stays : (numbers : ℕ) → Stays (pool_ring {T = T} waiting n laps passes) (Rule n laps (n + passes)) (Story n laps (n + passes)) (start (pool_ring waiting n laps passes) numbers)
  pool_stays numbers =
      start_stays (pool_ring waiting n laps passes) (Rule n laps (n + passes)) (Story n laps (n + passes)) numbers
      (first_rule numbers)
      (λ p. (tt, refl))
