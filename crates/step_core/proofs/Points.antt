-- A machine whose lines say what their passes have done is linearizable. Proved once, for every machine: a
-- call takes place at the event that it makes; one that makes none is put, when it ends, at a history
-- between its begin and its end that justifies its answer.
use Rattle.std.proofs.Common.{◌≡◌, ◌≢◌, ◌⊎◌, ℕ, Bool, true, false, cond, List, [], ◌∷◌, ◌++◌, map, set, refl, sym, ap, ◌∙◌, subst, ⊎_elim, inl, inr, eq-eqb, append-nil, append_assoc}
use Rattle.std.proofs.lemmas.Bool.{false≢true}
use Rattle.std.proofs.lemmas.List.{append_cancel_right}
use mathlib.Core.Option.{Option, none, some}
use lib.ListN.{get_elem?}
use Rattle.bounded_model.specs.declared.history.Event.{Event}
use Rattle.bounded_model.specs.Histories.{own, Later}
use Rattle.bounded_model.specs.Justified.{Sometime}
use Rattle.bounded_model.specs.Machine.{state, Legal}
use Rattle.bounded_model.proofs.Histories.{no_parts, own-append, own-between}
use Rattle.machine.specs.Schedule.{Machine, Outcome, Pass, State, Act, Begin, Step, next, run, start, stepped, begun, acts_at}
use Rattle.machine.proofs.Scheduled.{set_same, next_kept, start_at}
use Rattle.machine.proofs.Stories.{Told, Stays, stays_holds}
use Rattle.machine.proofs.Sums.{at_set}
use Rattle.step_core.specs.Linearizable.{Operation, Object, Entry, Invokes, Responds, Reads, Rests, Pending, TookEffect, without_points, events, stage, call_of, IsLinearization, response_of, history_at, concurrent_history, Linearizable}
use Rattle.step_core.proofs.Entries.{visible, visible-append, Mine, own_of_mine, all_mine, single, cut, Quiets, quiet_append, quiet_first, quiet_last, without_points-append, events-append, stage-quiet, call-silent, call-quiet, talk-insert, events-insert, quiet_insert, stage-insert, call-insert, run-insert, split, Fits, hands, place}
use Rattle.step_core.proofs.Holding.{hand_after, hand_is, hand_over, Within, Balanced, unmoved, fits}

abbrev called : {C A : Type 0} → ℕ → C → A → Operation C A
called p c a = record { by = p; call = c; answer = a }

module _ {T C A : Type 0} (o : Object T C A) where
  -- among these events of a call that pass p makes none is visible, or one is, and then its answer is known
  abbrev pub Point : ℕ → C → List (Event T) → Type 0
  Point p c mine = (visible mine ≡ []) ⊎ ((a : A) × (e : Event T) × (visible mine ≡ e ∷ []) × o.updates (called p c a) e)

  -- what a call that goes on has done: it has never had more cells in hand than it may
  pub record Going (p : ℕ) (c : C) (b seen : List (Event T)) : Type 0 where
    pub between : List (Event T)
    pub is : seen ≡ between ++ b
    pub point : Point p c (own p between)
    pub holds : Within (o.most c) (own p between)

  -- and one that has ended, with none in hand
  pub record Ended (p : ℕ) (c : C) (answer : Option A) (b seen : List (Event T)) : Type 0 where
    pub a : A
    pub heard : answer ≡ some a
    pub between : List (Event T)
    pub is : seen ≡ between ++ b
    pub holds : Balanced (o.most c) (own p between)
    pub point : ((visible (own p between) ≡ []) × Sometime b seen (λ h. o.reads (called p c a) h)) ⊎ ((e : Event T) × (visible (own p between) ≡ e ∷ []) × o.updates (called p c a) e)

  -- Of what a call has made, where its answer is justified: the object gives that answer, with what else it says
  module _ (IsRight : List (Event T) → List (Event T) → A → Type 0) (p : ℕ) (c : C) (a : A) (b seen : List (Event T)) where
    -- if the call has made no event, its pass has had nothing in hand since its begin
    abbrev pub Idles : List (Event T) → Type 0
    Idles mine = mine ≡ [] → (h : List (Event T)) → Later b h → Later h seen → (state o.shape h).hand p ≡ 0

    abbrev pub Given : List (Event T) → Type 0
    Given mine = ((visible mine ≡ []) × (IsRight b seen a → Idles mine → Sometime b seen (λ h. o.reads (called p c a) h))) ⊎ ((e : Event T) × (visible mine ≡ e ∷ []) × o.updates (called p c a) e)

    pub point_of : (mine : List (Event T)) → Given mine → Point p c mine
    point_of mine g = ⊎_elim (λ r. inl r.0) (λ r. inr (a, r.0, r.1, r.2)) g

    pub ended_by : (between : List (Event T)) → seen ≡ between ++ b → hand_after (own p b) ≡ 0 → Given (own p between) → Balanced (o.most c) (own p between) → IsRight b seen a → Ended p c (some a) b seen
    ended_by between is empty g holds right = record {
      a = a;
      heard = refl;
      between = between;
      is = is;
      holds = holds;
      point = ⊎_elim (λ r. inl (r.0, r.1 right (unmoved o.shape p b seen between is empty))) (λ r. inr r) g;
    }

pub with : {T X : Type 0} {b seen : List (Event T)} {P : List (Event T) → Type 0} → X → Sometime b seen P → Sometime b seen (λ h. X × P h)
with w s = record { at = s.at; since = s.since; until = s.until; holds = (w, s.holds) }

-- and with what holds of each history of that time
pub with_each : {T X : Type 0} {b seen : List (Event T)} {P Q : List (Event T) → Type 0} → X → ((h : List (Event T)) → Later b h → Later h seen → Q h) → Sometime b seen P → Sometime b seen (λ h. X × P h × Q h)
with_each w each s = record { at = s.at; since = s.since; until = s.until; holds = (w, s.holds, each s.at s.since s.until) }

-- What a rule and a story of a machine say of the object's calls
pub record Speaks {M L T C A : Type 0} (x : Machine M L C (Event T)) (answer : L → Option A) (o : Object T C A) (Rule : M → List L → List (Event T) → Type 0) (Story : ℕ → Option C → L → List (Event T) → List (Event T) → Type 0) : Type 0 where
  pub legal : (m : M) (lines : List L) (h : List (Event T)) → Rule m lines h → Legal o.shape h
  pub rest_idle : (p : ℕ) → x.is_idle (x.rest p) ≡ true
  pub starts_busy : (call : C) (l : L) → x.is_idle (x.starts call l) ≡ false
  pub unbegun : (p : ℕ) (l : L) (b seen : List (Event T)) → Story p none l b seen → x.is_idle l ≡ true
  pub going : (p : ℕ) (c : C) (l : L) (b seen : List (Event T)) → Legal o.shape seen → Story p (some c) l b seen → x.is_idle l ≡ false → Going o p c b seen
  pub ended : (p : ℕ) (c : C) (l : L) (b seen : List (Event T)) → Legal o.shape seen → hand_after (own p b) ≡ 0 → Story p (some c) l b seen → x.is_idle l ≡ true → Ended o p c (answer l) b seen
  pub one_answer : (p : ℕ) (c : C) (a a' : A) (e : Event T) → o.updates (called p c a) e → o.updates (called p c a') e → a ≡ a'

module _ {M L T C A : Type 0} (x : Machine M L C (Event T)) (answer : L → Option A) (o : Object T C A) where
  abbrev Course : Type 0
  Course = List (Entry T C A)

  -- an operation has taken effect, or no entry since its invocation is of its pass
  abbrev Made : ℕ → C → Course → Course → List (Event T) → Type 0
  Made p c young old mine =
      (Quiets p young × (visible mine ≡ []))
      ⊎ ((a : A) × (e : Event T) × (stage p (young ++ old) ≡ TookEffect (some a)) × (visible mine ≡ e ∷ []) × o.updates (called p c a) e)

  -- a call of pass p, which is v, goes on: the course as it was at its begin, and what has come since
  record Underway (p : ℕ) (v : Pass L C (Event T)) (course : Course) : Type 0 where
    call : C
    of : v.call ≡ some call
    young : Course
    old : Course
    is : course ≡ young ++ old
    begun_at : events old ≡ v.begun
    asked : stage p old ≡ Pending call
    calls : call_of p course ≡ some call
    empty : hand_after (own p v.begun) ≡ 0
    made : Made p call young old (own p (events young))

  record At (p : ℕ) (v : Pass L C (Event T)) (course : Course) : Type 0 where
    rests : x.is_idle v.line ≡ true → stage p course ≡ Rests
    holds_none : x.is_idle v.line ≡ true → hand_after (own p (events course)) ≡ 0
    goes : x.is_idle v.line ≡ false → Underway p v course

  -- the course that a history and a state have come to
  record Lined (conv : Course) (s : State M L C (Event T)) : Type 0 where
    course : Course
    talks : without_points course ≡ conv
    right : IsLinearization o course
    history : events course ≡ s.history
    each : (p : ℕ) (v : Pass L C (Event T)) → get_elem? s.passes p ≡ some v → At p v course

  -- a call goes on in a course that has grown since its begin
  younger : {p : ℕ} {v : Pass L C (Event T)} {course course' : Course} (u : Underway p v course) (young : Course) → course' ≡ young ++ u.old → call_of p course' ≡ call_of p course → Made p u.call young u.old (own p (events young)) → Underway p v course'
  younger u young is calls made = record { call = u.call; of = u.of; young = young; old = u.old; is = is; begun_at = u.begun_at; asked = u.asked; calls = calls ∙ u.calls; empty = u.empty; made = made }

  -- other passes go on over entries that are nothing of theirs
  at_more : (q : ℕ) (v : Pass L C (Event T)) (more course : Course) → Quiets q more → own q (events more) ≡ [] → At q v course → At q v (more ++ course)
  at_more q v more course quiet nothing at = record {
    rests = λ idle. stage-quiet q more course quiet ∙ at.rests idle;
    holds_none = λ idle. ap hand_after (same course) ∙ at.holds_none idle;
    goes = λ busy. more_goes (at.goes busy);
  }
    where
      same : (under : Course) → own q (events (more ++ under)) ≡ own q (events under)
      same under = ap (own q) (events-append more under) ∙ own-append q (events more) (events under) ∙ ap (λ (l : List (Event T)). l ++ own q (events under)) nothing

      more_goes : Underway q v course → Underway q v (more ++ course)
      more_goes u =
          younger u (more ++ u.young) (ap (λ (l : Course). more ++ l) u.is ∙ sym (append_assoc more u.young u.old)) (call-quiet q more course quiet) (⊎_elim
          (λ w. inl (quiet_append q more u.young quiet w.0, ap visible (same u.young) ∙ w.1))
          (λ w. inr (w.0, w.1, ap (stage q) (append_assoc more u.young u.old) ∙ stage-quiet q more (u.young ++ u.old) quiet ∙ w.2, ap visible (same u.young) ∙ w.3, w.4))
          u.made)

  -- and over a point of another pass that is put in
  at_insert : (q : ℕ) (v : Pass L C (Event T)) (k : Operation C A) (a b course : Course) → k.by ≢ q → course ≡ a ++ b → At q v course → At q v (a ++ Reads k ∷ b)
  at_insert q v k a b course ne is at = record {
    rests = λ idle. stage-insert k q ne a b ∙ ap (stage q) (sym is) ∙ at.rests idle;
    holds_none = λ idle. ap (λ (h : List (Event T)). hand_after (own q h)) (events-insert k a b ∙ ap events (sym is)) ∙ at.holds_none idle;
    goes = λ busy. insert_goes (at.goes busy);
  }
    where
      calls : call_of q (a ++ Reads k ∷ b) ≡ call_of q course
      calls = call-insert k q a b ∙ ap (call_of q) (sym is)

      insert_goes : Underway q v course → Underway q v (a ++ Reads k ∷ b)
      insert_goes u = ⊎_elim above below (cut u.young u.old a b (sym u.is ∙ is))
        where
          above : (mid : Course) × (u.young ≡ a ++ mid) × (b ≡ mid ++ u.old) → Underway q v (a ++ Reads k ∷ b)
          above m =
              let young : Course = a ++ Reads k ∷ m.0 in
              let same : events young ≡ events u.young = events-insert k a m.0 ∙ ap events (sym m.1) in
              let at_stage : stage q (young ++ u.old) ≡ stage q (u.young ++ u.old) =
              ap (stage q) (append_assoc a (Reads k ∷ m.0) u.old) ∙ stage-insert k q ne a (m.0 ++ u.old) ∙ ap (stage q) (sym (append_assoc a m.0 u.old)) ∙ ap (λ (l : Course). stage q (l ++ u.old)) (sym m.1) in
              younger u young (ap (λ (l : Course). a ++ Reads k ∷ l) m.2 ∙ sym (append_assoc a (Reads k ∷ m.0) u.old)) calls (⊎_elim
              (λ w. inl (quiet_insert k q ne a m.0 (subst (Quiets q) m.1 w.0), ap (λ (l : List (Event T)). visible (own q l)) same ∙ w.1))
              (λ w. inr (w.0, w.1, at_stage ∙ w.2, ap (λ (l : List (Event T)). visible (own q l)) same ∙ w.3, w.4))
              u.made)

          below : (mid : Course) × (u.old ≡ mid ++ b) × (a ≡ u.young ++ mid) → Underway q v (a ++ Reads k ∷ b)
          below m =
              let old : Course = m.0 ++ Reads k ∷ b in
              let at_stage : stage q (u.young ++ old) ≡ stage q (u.young ++ u.old) =
              ap (stage q) (sym (append_assoc u.young m.0 (Reads k ∷ b))) ∙ stage-insert k q ne (u.young ++ m.0) b ∙ ap (stage q) (append_assoc u.young m.0 b) ∙ ap (λ (l : Course). stage q (u.young ++ l)) (sym m.1) in
              record {
                call = u.call;
                of = u.of;
                young = u.young;
                old = old;
                is = ap (λ (l : Course). l ++ Reads k ∷ b) m.2 ∙ append_assoc u.young m.0 (Reads k ∷ b);
                begun_at = events-insert k m.0 b ∙ ap events (sym m.1) ∙ u.begun_at;
                asked = stage-insert k q ne m.0 b ∙ ap (stage q) (sym m.1) ∙ u.asked;
                calls = calls ∙ u.calls;
                empty = u.empty;
                made = ⊎_elim
                    (λ w. inl w)
                    (λ w. inr (w.0, w.1, at_stage ∙ w.2, w.3, w.4))
                    u.made;
              }

  -- a course after the events of a step of pass p's call
  record Extended (p : ℕ) (c : C) (young course : Course) (es mine : List (Event T)) : Type 0 where
    more : Course
    makes : events more ≡ es
    talks : without_points more ≡ []
    right : IsLinearization o (more ++ course)
    quiet : (q : ℕ) → p ≢ q → Quiets q more
    made : (Quiets p (more ++ young) × (visible mine ≡ [])) ⊎ ((a : A) × (e : Event T) × (stage p (more ++ course) ≡ TookEffect (some a)) × (visible mine ≡ e ∷ []) × o.updates (called p c a) e)

  extended : (p : ℕ) (v : Pass L C (Event T)) (course : Course) (u : Underway p v course) (es mine : List (Event T)) → IsLinearization o course → Legal o.shape (es ++ events course) → Mine p es → mine ≡ es ++ own p (events u.young) → Point o p u.call mine → Within (o.most u.call) mine
      → Extended p u.call u.young course es mine
  extended p v course u es mine right legal all_own is point within = ⊎_elim
      (λ w. ⊎_elim (λ nothing. quiet_step w (no_parts (visible es) before (sym parts ∙ nothing)).0 nothing) (λ one. placed w one) point)
      (λ w. ⊎_elim (λ nothing. let e' : w.1 ∷ [] ≡ [] = sym w.3 ∙ (no_parts (visible es) before (sym parts ∙ nothing)).1 in cc) (λ one. kept w one) point)
      u.made
    where
      before : List (Event T)
      before = visible (own p (events u.young))

      parts : visible mine ≡ visible es ++ before
      parts = ap visible is ∙ visible-append es (own p (events u.young))

      -- the call holds no more than it may
      fit : Fits o course es
      fit = fits o p u.call course (own p (events u.young)) (own p v.begun) es
          (ap (λ (l : Course). own p (events l)) u.is ∙ ap (own p) (events-append u.young u.old) ∙ own-append p (events u.young) (events u.old) ∙ ap (λ (h : List (Event T)). own p (events u.young) ++ own p h) u.begun_at)
          u.empty u.calls all_own (subst (Within (o.most u.call)) is within)

      quiet_step : Quiets p u.young × (before ≡ []) → visible es ≡ [] → visible mine ≡ [] → Extended p u.call u.young course es mine
      quiet_step w nothing all = let g = hands o course es nothing fit legal right in record {
        more = g.more;
        makes = g.makes;
        talks = g.talks;
        right = g.right;
        quiet = λ q ne. g.quiet q;
        made = inl (quiet_append p g.more u.young (g.quiet p) w.0, all);
      }

      placed : Quiets p u.young × (before ≡ []) → (a : A) × (e : Event T) × (visible mine ≡ e ∷ []) × o.updates (called p u.call a) e → Extended p u.call u.young course es mine
      placed w one =
          let visible_one : visible es ≡ one.1 ∷ [] = sym (append-nil (visible es)) ∙ ap (λ (l : List (Event T)). visible es ++ l) (sym w.1) ∙ sym parts ∙ one.2 in
          let waits : stage p course ≡ Pending u.call = ap (stage p) u.is ∙ stage-quiet p u.young u.old w.0 ∙ u.asked in
          let g = place o (called p u.call one.0) course es one.1 visible_one one.3 waits fit legal right in
          record {
            more = g.more;
            makes = g.makes;
            talks = g.talks;
            right = g.right;
            quiet = g.quiet;
            made = inr (one.0, one.1, g.has, one.2, one.3);
          }

      kept : (a : A) × (e : Event T) × (stage p (u.young ++ u.old) ≡ TookEffect (some a)) × (before ≡ e ∷ []) × o.updates (called p u.call a) e
          → (a : A) × (e : Event T) × (visible mine ≡ e ∷ []) × o.updates (called p u.call a) e → Extended p u.call u.young course es mine
      kept w one =
          let two = single (visible es) w.1 one.1 (ap (λ (l : List (Event T)). visible es ++ l) (sym w.3) ∙ sym parts ∙ one.2) in
          let g = hands o course es two.0 fit legal right in
          record {
            more = g.more;
            makes = g.makes;
            talks = g.talks;
            right = g.right;
            quiet = λ q ne. g.quiet q;
            made = inr (w.0, w.1, stage-quiet p g.more course (g.quiet p) ∙ ap (stage p) u.is ∙ w.2, one.2 ∙ ap (λ (y : Event T). y ∷ []) (sym two.1), w.4);
          }

  -- a course in which pass p's operation has taken effect, and that of others as before
  record Answered (p : ℕ) (a : A) (course : Course) : Type 0 where
    now : Course
    talks : without_points now ≡ without_points course
    right : IsLinearization o now
    made : events now ≡ events course
    has : stage p now ≡ TookEffect (some a)
    others : (q : ℕ) (w : Pass L C (Event T)) → p ≢ q → At q w course → At q w now

  -- a call that makes no event is put at a history since its begin that justifies its answer
  put_in : (p : ℕ) (c : C) (a : A) (young old : Course) (b : List (Event T)) → IsLinearization o (young ++ old) → Quiets p young → stage p old ≡ Pending c → events old ≡ b → Sometime b (events (young ++ old)) (λ h. o.reads (called p c a) h)
      → Answered p a (young ++ old)
  put_in p c a young old b right quiet asked begun_at some_time =
      let k : Operation C A = called p c a in
      let rest : List (Event T) = some_time.until.more in
      let mid : List (Event T) = some_time.since.more in
      let parts : events young ++ b ≡ (rest ++ mid) ++ b =
      ap (λ (l : List (Event T)). events young ++ l) (sym begun_at) ∙ sym (events-append young old) ∙ some_time.until.is ∙ ap (λ (l : List (Event T)). rest ++ l) some_time.since.is ∙ sym (append_assoc rest mid b) in
      let s = split rest young mid (append_cancel_right (events young) (rest ++ mid) b parts) in
      let base : Course = s.older ++ old in
      let is : young ++ old ≡ s.newer ++ base = ap (λ (l : Course). l ++ old) s.is ∙ append_assoc s.newer s.older old in
      let still : Quiets p (s.newer ++ s.older) = subst (Quiets p) s.is quiet in
      let above : Quiets p s.newer = quiet_first p s.newer s.older still in
      let waits : stage p base ≡ Pending c = stage-quiet p s.older old (quiet_last p s.newer s.older still) ∙ asked in
      let at : some_time.at ≡ events base = some_time.since.is ∙ ap (λ (l : List (Event T)). l ++ b) (sym s.below) ∙ ap (λ (l : List (Event T)). events s.older ++ l) (sym begun_at) ∙ sym (events-append s.older old) in
      record {
        now = s.newer ++ Reads k ∷ base;
        talks = talk-insert k s.newer base ∙ ap without_points (sym is);
        right = run-insert k o s.newer base above waits (subst (λ (h : List (Event T)). o.reads k h) at some_time.holds) (subst (IsLinearization o) is right);
        made = events-insert k s.newer base ∙ ap events (sym is);
        has = stage-quiet p s.newer (Reads k ∷ base) above ∙ at_point base;
        others = λ q w ne there. at_insert q w k s.newer base (young ++ old) ne is there;
      }
    where
      at_point : (base : Course) → stage p (Reads (called p c a) ∷ base) ≡ TookEffect (some a)
      at_point base = rw (eq-eqb p p refl) refl

  module _ (Rule : M → List L → List (Event T) → Type 0) (Story : ℕ → Option C → L → List (Event T) → List (Event T) → Type 0) (t : Told x Rule Story) (says : Speaks x answer o Rule Story) where
    abbrev Keeps : State M L C (Event T) → Type 0
    Keeps s = Stays x Rule Story s

    -- pass p becomes v, and the others stay
    all_at : (s : State M L C (Event T)) (p : ℕ) (v : Pass L C (Event T)) (course course' : Course) → ((q : ℕ) (w : Pass L C (Event T)) → get_elem? s.passes q ≡ some w → At q w course)
        → At p v course' → ((q : ℕ) (w : Pass L C (Event T)) → p ≢ q → At q w course → At q w course')
        → (q : ℕ) (w : Pass L C (Event T)) → get_elem? (set s.passes p v) q ≡ some w → At q w course'
    all_at s p v course course' each mine others q w at = ⊎_elim
        (λ e. subst (λ (y : ℕ). At y w course') (sym e.0) (subst (λ (y : Pass L C (Event T)). At p y course') e.1 mine))
        (λ e. others q w (λ same. e.0 (sym same)) (each q w e.1))
        (at_set s.passes p q v w at)

    module _ (conv : Course) (s : State M L C (Event T)) (p : ℕ) (v : Pass L C (Event T)) (k : Keeps s) (i : Lined conv s) (e : get_elem? s.passes p ≡ some v) where
      begun_lined : x.is_idle v.line ≡ true → (call : C) → Lined ((response_of x answer p (x.starts call v.line) ++ Invokes p call ∷ []) ++ conv) (begun x s p v call)
      begun_lined idle call =
          let course : Course = Invokes p call ∷ i.course in
          let busy : x.is_idle (x.starts call v.line) ≡ false = says.starts_busy call v.line in
          let unheard : response_of {T = T} x answer p (x.starts call v.line) ≡ [] = rw busy in
          let v' : Pass L C (Event T) = record v { line = x.starts call v.line; call = some call; begun = s.history; seen = s.history } in
          record {
            course = course;
            talks = ap (λ (l : Course). Invokes p call ∷ l) i.talks ∙ ap (λ (l : Course). (l ++ Invokes p call ∷ []) ++ conv) (sym unheard);
            right = ((i.each p v e).rests idle, i.right);
            history = i.history;
            each = all_at s p v' i.course course i.each
                (record {
                  rests = λ idle'. absurd (false≢true (sym busy ∙ idle'));
                  holds_none = λ idle'. absurd (false≢true (sym busy ∙ idle'));
                  goes = λ busy'. record {
                    call = call;
                    of = refl;
                    young = [];
                    old = course;
                    is = refl;
                    begun_at = i.history;
                    asked = rw (eq-eqb p p refl) refl;
                    calls = rw (eq-eqb p p refl) refl;
                    empty = ap (λ (h : List (Event T)). hand_after (own p h)) (sym i.history) ∙ (i.each p v e).holds_none idle;
                    made = inl (tt, refl);
                  };
                })
                (λ q w ne at. at_more q w (Invokes p call ∷ []) i.course (ne, tt) refl at);
          }

      module _ (busy : x.is_idle v.line ≡ false) where
        abbrev out : Outcome M L (Event T)
        out = x.step s.memory p v.line

        abbrev es : List (Event T)
        es = out.events

        abbrev newer : List (Event T)
        newer = es ++ s.history

        abbrev v' : Pass L C (Event T)
        v' = record v { line = out.line; seen = newer }

        u : Underway p v i.course
        u = (i.each p v e).goes busy

        kept : Keeps (stepped x s p v out)
        kept = (stays_holds x Rule Story t).steps s p v k e busy

        apart : (q : ℕ) → q ≢ p → own q es ≡ []
        apart q ne = own-between q es s.history (t.apart s.memory s.history p q v.line ne)

        legal_after : Legal o.shape newer
        legal_after = says.legal out.memory (map (λ w. w.line) (set s.passes p v')) newer kept.rule

        legal : Legal o.shape (es ++ events i.course)
        legal = subst (λ (h : List (Event T)). Legal o.shape (es ++ h)) (sym i.history) legal_after

        all_own : Mine p es
        all_own = all_mine p es apart

        story : Story p (some u.call) out.line v.begun newer
        story = subst (λ (c : Option C). Story p c out.line v.begun newer) u.of (kept.story p v' (set_same s.passes p v v' e))

        newer_is : newer ≡ (es ++ events u.young) ++ v.begun
        newer_is = ap (λ (l : List (Event T)). es ++ l) (sym i.history ∙ ap events u.is ∙ events-append u.young u.old ∙ ap (λ (l : List (Event T)). events u.young ++ l) u.begun_at) ∙ sym (append_assoc es (events u.young) v.begun)

        between_is : (between : List (Event T)) → newer ≡ between ++ v.begun → between ≡ es ++ events u.young
        between_is between is = append_cancel_right between (es ++ events u.young) v.begun (sym is ∙ newer_is)

        mine_is : (between : List (Event T)) → newer ≡ between ++ v.begun → own p between ≡ es ++ own p (events u.young)
        mine_is between is = ap (own p) (between_is between is) ∙ own-append p es (events u.young) ∙ ap (λ (l : List (Event T)). l ++ own p (events u.young)) (own_of_mine p es all_own)

        -- the course after the step's events, whatever they are
        module _ (mine : List (Event T)) (ext : Extended p u.call u.young i.course es mine) where
          abbrev course' : Course
          course' = ext.more ++ i.course

          talks' : without_points course' ≡ conv
          talks' = without_points-append ext.more i.course ∙ ap (λ (l : Course). l ++ without_points i.course) ext.talks ∙ i.talks

          history' : events course' ≡ newer
          history' = events-append ext.more i.course ∙ ap (λ (l : List (Event T)). l ++ events i.course) ext.makes ∙ ap (λ (l : List (Event T)). es ++ l) i.history

          others' : (q : ℕ) (w : Pass L C (Event T)) → p ≢ q → At q w i.course → At q w course'
          others' q w ne at = at_more q w ext.more i.course (ext.quiet q ne) (ap (own q) ext.makes ∙ apart q (λ same. ne (sym same))) at

          -- the pass is still in its call
          calls' : call_of p course' ≡ some u.call
          calls' = call-silent p ext.more i.course ext.talks ∙ u.calls

          parts' : (ext.more ++ u.young) ++ u.old ≡ course'
          parts' = append_assoc ext.more u.young u.old ∙ ap (λ (l : Course). ext.more ++ l) (sym u.is)

        goes_on_lined : Going o p u.call v.begun newer → x.is_idle out.line ≡ false → Lined conv (stepped x s p v out)
        goes_on_lined g busy' =
            let mine : List (Event T) = own p g.between in
            let ext = extended p v i.course u es mine i.right legal all_own (mine_is g.between g.is) g.point g.holds in
            let same : events (ext.more ++ u.young) ≡ g.between = events-append ext.more u.young ∙ ap (λ (l : List (Event T)). l ++ events u.young) ext.makes ∙ sym (between_is g.between g.is) in
            let seen : visible (own p (events (ext.more ++ u.young))) ≡ visible mine = ap (λ (l : List (Event T)). visible (own p l)) same in
            record {
              course = ext.more ++ i.course;
              talks = talks' mine ext;
              right = ext.right;
              history = history' mine ext;
              each = all_at s p v' i.course (ext.more ++ i.course) i.each
                  (record {
                    rests = λ idle. absurd (false≢true (sym busy' ∙ idle));
                    holds_none = λ idle. absurd (false≢true (sym busy' ∙ idle));
                    goes = λ _. record {
                      call = u.call;
                      of = u.of;
                      young = ext.more ++ u.young;
                      old = u.old;
                      is = sym (parts' mine ext);
                      begun_at = u.begun_at;
                      asked = u.asked;
                      calls = calls' mine ext;
                      empty = u.empty;
                      made = ⊎_elim
                          (λ w. inl (w.0, seen ∙ w.1))
                          (λ w. inr (w.0, w.1, ap (stage p) (parts' mine ext) ∙ w.2, seen ∙ w.3, w.4))
                          ext.made;
                    };
                  })
                  (others' mine ext);
            }

        -- the operation has taken effect by its end
        answered : (f : Ended o p u.call (answer out.line) v.begun newer) (ext : Extended p u.call u.young i.course es (own p f.between)) → Answered p f.a (ext.more ++ i.course)
        answered f ext = ⊎_elim
            (λ w. ⊎_elim (λ r. late w r.1) (λ r. let no : [] ≡ r.0 ∷ [] = sym w.1 ∙ r.1 in cc) f.point)
            (λ w. ⊎_elim (λ r. let no : [] ≡ w.1 ∷ [] = sym r.0 ∙ w.3 in cc) (λ r. early w r) f.point)
            ext.made
          where
            mine : List (Event T)
            mine = own p f.between

            late : Quiets p (ext.more ++ u.young) × (visible (own p f.between) ≡ []) → Sometime v.begun newer (λ h. o.reads (called p u.call f.a) h) → Answered p f.a (ext.more ++ i.course)
            late w some_time =
                let parts = parts' (own p f.between) ext in
                let end : newer ≡ events ((ext.more ++ u.young) ++ u.old) = sym (history' (own p f.between) ext) ∙ ap events (sym parts) in
                subst (Answered p f.a) parts
                (put_in p u.call f.a (ext.more ++ u.young) u.old v.begun (subst (IsLinearization o) (sym parts) ext.right) w.0 u.asked u.begun_at
                (subst (λ (h : List (Event T)). Sometime v.begun h (λ h'. o.reads (called p u.call f.a) h')) end some_time))

            early : (a : A) × (y : Event T) × (stage p (ext.more ++ i.course) ≡ TookEffect (some a)) × (visible (own p f.between) ≡ y ∷ []) × o.updates (called p u.call a) y
                → (y : Event T) × (visible (own p f.between) ≡ y ∷ []) × o.updates (called p u.call f.a) y → Answered p f.a (ext.more ++ i.course)
            early w r =
                let twice : r.0 ∷ [] ≡ w.1 ∷ [] = sym r.1 ∙ w.3 in
                let same : r.0 ≡ w.1 = cc in
                let one : w.0 ≡ f.a = says.one_answer p u.call w.0 f.a w.1 w.4 (subst (λ (y : Event T). o.updates (called p u.call f.a) y) same r.2) in
                record {
                  now = ext.more ++ i.course;
                  talks = refl;
                  right = ext.right;
                  made = refl;
                  has = w.2 ∙ ap (λ (a : A). TookEffect (some a)) one;
                  others = λ q w' ne at. at;
                }

        ends_lined : Ended o p u.call (answer out.line) v.begun newer → x.is_idle out.line ≡ true → Lined (Responds p (answer out.line) ∷ conv) (stepped x s p v out)
        ends_lined f idle =
            let mine : List (Event T) = own p f.between in
            let point : Point o p u.call mine = ⊎_elim (λ r. inl r.0) (λ r. inr (f.a, r.0, r.1, r.2)) f.point in
            let ext = extended p v i.course u es mine i.right legal all_own (mine_is f.between f.is) point f.holds.0 in
            let y = answered f ext in
            let heard : Entry T C A = Responds p (answer out.line) in
            let now_is : events y.now ≡ newer = y.made ∙ history' mine ext in
            let empty : hand_after (own p newer) ≡ 0 = ap hand_after (ap (own p) f.is ∙ own-append p f.between v.begun) ∙ hand_over mine (own p v.begun) u.empty ∙ f.holds.1 in
            record {
              course = heard ∷ y.now;
              talks = ap (λ (l : Course). heard ∷ l) (y.talks ∙ talks' mine ext);
              right = (y.has ∙ ap (λ (a : Option A). TookEffect a) (sym f.heard), ap (λ (h : List (Event T)). (state o.shape h).hand p) now_is ∙ hand_is o.shape p newer ∙ empty, y.right);
              history = now_is;
              each = all_at s p v' i.course (heard ∷ y.now) i.each
                  (record {
                    rests = λ _. rw (eq-eqb p p refl) refl;
                    holds_none = λ _. ap (λ (h : List (Event T)). hand_after (own p h)) now_is ∙ empty;
                    goes = λ busy'. absurd (false≢true (sym busy' ∙ idle));
                  })
                  (λ q w ne at. at_more q w (heard ∷ []) y.now (ne, tt) refl (y.others q w ne (others' mine ext q w ne at)));
            }

        stepped_lined : Lined (response_of x answer p out.line ++ conv) (stepped x s p v out)
        stepped_lined = go (x.is_idle out.line) refl
          where
            go : (b : Bool) → x.is_idle out.line ≡ b → Lined (cond b (Responds p (answer out.line) ∷ []) [] ++ conv) (stepped x s p v out)
            go true idle = ends_lined (says.ended p u.call out.line v.begun newer legal_after u.empty story idle) idle
            go false busy' = goes_on_lined (says.going p u.call out.line v.begun newer legal_after story busy') busy'

    acts_lined : (conv : Course) (s : State M L C (Event T)) (p : ℕ) (a : Act C) (w : Option (Pass L C (Event T))) → Keeps s → Lined conv s → get_elem? s.passes p ≡ w → Lined (history_at x answer s p a w ++ conv) (acts_at x s p a w)
    acts_lined conv s p a none k i e = i
    acts_lined conv s p (Begin call) (some v) k i e = go (x.is_idle v.line) refl
      where
        go : (b : Bool) → x.is_idle v.line ≡ b → Lined (cond b (response_of x answer p (x.starts call v.line) ++ Invokes p call ∷ []) [] ++ conv) (cond b (begun x s p v call) s)
        go true idle = begun_lined conv s p v k i e idle call
        go false busy = i
    acts_lined conv s p Step (some v) k i e = go (x.is_idle v.line) refl
      where
        go : (b : Bool) → x.is_idle v.line ≡ b → Lined (cond b [] (response_of x answer p (x.step s.memory p v.line).line) ++ conv) (cond b s (stepped x s p v (x.step s.memory p v.line)))
        go true idle = i
        go false busy = stepped_lined conv s p v k i e busy

    run_lined : (schedule : List (ℕ × Act C)) (conv : Course) (s : State M L C (Event T)) → Keeps s → Lined conv s → Lined (concurrent_history x answer schedule s ++ conv) (run x schedule s)
    run_lined [] conv s k i = i
    run_lined (a ∷ more) conv s k i =
        let told : Course = history_at x answer s a.0 a.1 (get_elem? s.passes a.0) in
        subst (λ (l : Course). Lined l (run x more (next x s a))) (sym (append_assoc (concurrent_history x answer more (next x s a)) told conv))
        (run_lined more (told ++ conv) (next x s a) (next_kept x Keeps (stays_holds x Rule Story t) s a k) (acts_lined conv s a.0 a.1 (get_elem? s.passes a.0) k i refl))

    start_lined : (passes : ℕ) → Lined [] (start x passes)
    start_lined passes = record {
      course = [];
      talks = refl;
      right = tt;
      history = refl;
      each = λ p v e. record {
        rests = λ idle. refl;
        holds_none = λ idle. refl;
        goes = λ busy. absurd (false≢true (sym busy ∙ ap (λ (w : Pass L C (Event T)). x.is_idle w.line) (sym (start_at x passes p v e)) ∙ says.rest_idle p));
      };
    }

    pub linearizable : (passes : ℕ) (schedule : List (ℕ × Act C)) → Keeps (start x passes) → Linearizable x answer o passes schedule
    linearizable passes schedule k =
        let l = run_lined schedule [] (start x passes) k (start_lined passes) in
        record { course = l.course; same_calls = l.talks ∙ append-nil (concurrent_history x answer schedule (start x passes)); right = l.right; same_history = l.history }
