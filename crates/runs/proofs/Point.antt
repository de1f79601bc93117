-- In a linearization of acts, a call that was invoked and has responded in them has its point between.
use Rattle.std.proofs.Common.{◌≡◌, ◌≢◌, ◌⊎◌, inl, inr, ⊎_elim, ℕ, ◌==◌, Bool, true, false, cond, List, [], ◌∷◌, ◌++◌, append_assoc, refl, sym, ap, ◌∙◌, subst, eq-eqb, ne_eqb, arith}
use Rattle.std.proofs.lemmas.Bool.Decides.{eqb_tells}
use Rattle.std.proofs.lemmas.Bool.{false≢true}
use mathlib.Core.Option.{Option, some}
use Rattle.bounded_model.specs.declared.views.PassView.{PassView}
use Rattle.machine.specs.declared.seats.View.{View}
use Rattle.machine.specs.Seats.{Acts, pass_of}
use Rattle.machine.proofs.Tests.{cases, same_or_not}
use Rattle.running.specs.Machine.{Names, Machine}
use Rattle.running.specs.Acts.{Doing, Begins, Steps, Looks, Hears, is_begin, begins_in, Now, placed, having_stepped, played, Course}
use Rattle.running.specs.Going.{HasRun}
use Rattle.step_core.specs.Linearizable.{Operation, Object, Entry, Invokes, Responds, Hand, Updates, Reads, Stage, Rests, Pending, TookEffect, without_points, stage, IsLinearization}
use Rattle.step_core.proofs.InTime.{run_before}
use Rattle.runs.specs.Heard.{heard_at, heard, IsLinearizable}
use Rattle.runs.specs.Point.{IsPointOf, NoneOf, HasPoint}
use Rattle.runs.proofs.Points.{line_other}

-- Courses

module _ {T C A : Type 0} where
  none_append : (p : ℕ) (a b : List (Entry T C A)) → NoneOf p a → NoneOf p b → NoneOf p (a ++ b)
  none_append p [] b na nb = nb
  none_append p (Invokes q call ∷ a) b na nb = (na.0, none_append p a b na.1 nb)
  none_append p (Responds q answer ∷ a) b na nb = (na.0, none_append p a b na.1 nb)
  none_append p (Hand e ∷ a) b na nb = none_append p a b na nb
  none_append p (Updates k e ∷ a) b na nb = none_append p a b na nb
  none_append p (Reads k ∷ a) b na nb = none_append p a b na nb

  -- where the newest response of pass p stands
  record AtResponse (p : ℕ) (a : Option A) (rest course : List (Entry T C A)) : Type 0 where
    later : List (Entry T C A)
    older : List (Entry T C A)
    is : course ≡ later ++ Responds p a ∷ older
    before : without_points older ≡ rest
    last : NoneOf p later

  module _ (p : ℕ) (a : Option A) (rest : List (Entry T C A)) where
    behind : (y : Entry T C A) (course : List (Entry T C A)) (r : AtResponse p a rest course) → NoneOf p (y ∷ r.later) → AtResponse p a rest (y ∷ course)
    behind y course r none = record { later = y ∷ r.later; older = r.older; is = ap (λ (l : List (Entry T C A)). y ∷ l) r.is; before = r.before; last = none }

    at_response : (course newer : List (Entry T C A)) → NoneOf p newer → without_points course ≡ newer ++ Responds p a ∷ rest → AtResponse p a rest course
    at_response [] [] none e = cc
    at_response [] (y ∷ newer) none e = cc
    at_response (Invokes q call ∷ course) [] none e = let no : ◌≡◌ {A = Entry T C A} (Invokes q call) (Responds p a) = cc in cc
    at_response (Invokes q call ∷ course) (y ∷ newer) none e =
        let same : y ≡ Invokes q call = cc in
        let more : without_points course ≡ newer ++ Responds p a ∷ rest = cc in
        let others : NoneOf p (Invokes q call ∷ newer) = subst (λ (z : Entry T C A). NoneOf p (z ∷ newer)) same none in
        let r = at_response course newer others.1 more in
        behind (Invokes q call) course r (others.0, r.last)
    at_response (Responds q b ∷ course) [] none e =
        let same : ◌≡◌ {A = Entry T C A} (Responds q b) (Responds p a) = cc in
        let more : without_points course ≡ rest = cc in
        record { later = []; older = course; is = ap (λ (z : Entry T C A). z ∷ course) same; before = more; last = tt }
    at_response (Responds q b ∷ course) (y ∷ newer) none e =
        let same : y ≡ Responds q b = cc in
        let more : without_points course ≡ newer ++ Responds p a ∷ rest = cc in
        let others : NoneOf p (Responds q b ∷ newer) = subst (λ (z : Entry T C A). NoneOf p (z ∷ newer)) same none in
        let r = at_response course newer others.1 more in
        behind (Responds q b) course r (others.0, r.last)
    at_response (Hand e' ∷ course) newer none e = let r = at_response course newer none e in behind (Hand e') course r r.last
    at_response (Updates k e' ∷ course) newer none e = let r = at_response course newer none e in behind (Updates k e') course r r.last
    at_response (Reads k ∷ course) newer none e = let r = at_response course newer none e in behind (Reads k) course r r.last

  module _ (p : ℕ) (call : C) (before : List (Entry T C A)) where
    -- a pending call is the one that was invoked last
    invoked_last : (asked : C) (course pending : List (Entry T C A)) → NoneOf p pending → without_points course ≡ pending ++ Invokes p call ∷ before → stage p course ≡ Pending asked → asked ≡ call
    invoked_last asked [] pending none e st = cc
    invoked_last asked (Invokes q c ∷ course) [] none e st =
        let same : ◌≡◌ {A = Entry T C A} (Invokes q c) (Invokes p call) = cc in
        let who : q ≡ p = cc in
        let what : c ≡ call = cc in
        let now : ◌≡◌ {A = Stage C A} (Pending c) (Pending asked) = sym (ap (λ (b : Bool). cond b (Pending c) (stage p course)) (eq-eqb q p who)) ∙ st in
        let is : c ≡ asked = cc in
        sym is ∙ what
    invoked_last asked (Invokes q c ∷ course) (y ∷ pending) none e st =
        let same : y ≡ Invokes q c = cc in
        let more : without_points course ≡ pending ++ Invokes p call ∷ before = cc in
        let others : NoneOf p (Invokes q c ∷ pending) = subst (λ (z : Entry T C A). NoneOf p (z ∷ pending)) same none in
        invoked_last asked course pending others.1 more (sym (ap (λ (b : Bool). cond b (Pending c) (stage p course)) (ne_eqb q p others.0)) ∙ st)
    invoked_last asked (Responds q b ∷ course) [] none e st = let no : ◌≡◌ {A = Entry T C A} (Responds q b) (Invokes p call) = cc in cc
    invoked_last asked (Responds q b ∷ course) (y ∷ pending) none e st =
        let same : y ≡ Responds q b = cc in
        let more : without_points course ≡ pending ++ Invokes p call ∷ before = cc in
        let others : NoneOf p (Responds q b ∷ pending) = subst (λ (z : Entry T C A). NoneOf p (z ∷ pending)) same none in
        invoked_last asked course pending others.1 more (sym (ap (λ (t : Bool). cond t Rests (stage p course)) (ne_eqb q p others.0)) ∙ st)
    invoked_last asked (Hand e' ∷ course) pending none e st = invoked_last asked course pending none e st
    invoked_last asked (Updates k e' ∷ course) pending none e st = ⊎_elim
        (λ t. let now : ◌≡◌ {A = Stage C A} (TookEffect (some k.answer)) (Pending asked) = sym (ap (λ (b : Bool). cond b (TookEffect (some k.answer)) (stage p course)) t.0) ∙ st in cc)
        (λ t. invoked_last asked course pending none e (sym (ap (λ (b : Bool). cond b (TookEffect (some k.answer)) (stage p course)) t.0) ∙ st))
        (eqb_tells k.by p)
    invoked_last asked (Reads k ∷ course) pending none e st = ⊎_elim
        (λ t. let now : ◌≡◌ {A = Stage C A} (TookEffect (some k.answer)) (Pending asked) = sym (ap (λ (b : Bool). cond b (TookEffect (some k.answer)) (stage p course)) t.0) ∙ st in cc)
        (λ t. invoked_last asked course pending none e (sym (ap (λ (b : Bool). cond b (TookEffect (some k.answer)) (stage p course)) t.0) ∙ st))
        (eqb_tells k.by p)

  -- where the point stands of a call that has taken effect
  record AtPoint (k : Operation C A) (before course : List (Entry T C A)) : Type 0 where
    during : List (Entry T C A)
    point : Entry T C A
    older : List (Entry T C A)
    pending : List (Entry T C A)
    is : course ≡ during ++ point ∷ older
    invoked : without_points older ≡ pending ++ Invokes k.by k.call ∷ before
    of_call : IsPointOf k point
    answers : NoneOf k.by during
    asks : NoneOf k.by pending

  module _ (o : Object T C A) (k : Operation C A) (before : List (Entry T C A)) where
    after : (y : Entry T C A) (course : List (Entry T C A)) (r : AtPoint k before course) → NoneOf k.by (y ∷ r.during) → AtPoint k before (y ∷ course)
    after y course r none = record { during = y ∷ r.during; point = r.point; older = r.older; pending = r.pending; is = ap (λ (l : List (Entry T C A)). y ∷ l) r.is; invoked = r.invoked; of_call = r.of_call; answers = none; asks = r.asks }

    -- an operation of the pass that has taken effect, with its answer, is the call
    same_call : (j : Operation C A) (course pending : List (Entry T C A)) → j.by ≡ k.by → ◌≡◌ {A = Stage C A} (TookEffect (some j.answer)) (TookEffect (some k.answer)) → stage j.by course ≡ Pending j.call → NoneOf k.by pending → without_points course ≡ pending ++ Invokes k.by k.call ∷ before → j ≡ k
    same_call j course pending who took asked none e =
        let told : some j.answer ≡ some k.answer = cc in
        let answer : j.answer ≡ k.answer = cc in
        let call : j.call ≡ k.call = invoked_last k.by k.call before j.call course pending none e (ap (λ (q : ℕ). stage q course) (sym who) ∙ asked) in
        λ t. record { by = who t; call = call t; answer = answer t }

    at_point : (course pending : List (Entry T C A)) → IsLinearization o course → NoneOf k.by pending → without_points course ≡ pending ++ Invokes k.by k.call ∷ before → stage k.by course ≡ TookEffect (some k.answer) → AtPoint k before course
    at_point [] pending run none e st = cc
    at_point (Invokes q c ∷ course) [] run none e st =
        let same : ◌≡◌ {A = Entry T C A} (Invokes q c) (Invokes k.by k.call) = cc in
        let who : q ≡ k.by = cc in
        let now : ◌≡◌ {A = Stage C A} (Pending c) (TookEffect (some k.answer)) = sym (ap (λ (b : Bool). cond b (Pending c) (stage k.by course)) (eq-eqb q k.by who)) ∙ st in
        cc
    at_point (Invokes q c ∷ course) (y ∷ pending) run none e st =
        let same : y ≡ Invokes q c = cc in
        let more : without_points course ≡ pending ++ Invokes k.by k.call ∷ before = cc in
        let others : NoneOf k.by (Invokes q c ∷ pending) = subst (λ (z : Entry T C A). NoneOf k.by (z ∷ pending)) same none in
        let r = at_point course pending run.1 others.1 more (sym (ap (λ (b : Bool). cond b (Pending c) (stage k.by course)) (ne_eqb q k.by others.0)) ∙ st) in
        after (Invokes q c) course r (others.0, r.answers)
    at_point (Responds q b ∷ course) [] run none e st = let no : ◌≡◌ {A = Entry T C A} (Responds q b) (Invokes k.by k.call) = cc in cc
    at_point (Responds q b ∷ course) (y ∷ pending) run none e st =
        let same : y ≡ Responds q b = cc in
        let more : without_points course ≡ pending ++ Invokes k.by k.call ∷ before = cc in
        let others : NoneOf k.by (Responds q b ∷ pending) = subst (λ (z : Entry T C A). NoneOf k.by (z ∷ pending)) same none in
        let r = at_point course pending run.2 others.1 more (sym (ap (λ (t : Bool). cond t Rests (stage k.by course)) (ne_eqb q k.by others.0)) ∙ st) in
        after (Responds q b) course r (others.0, r.answers)
    at_point (Hand e' ∷ course) pending run none e st = let r = at_point course pending run.3 none e st in after (Hand e') course r r.answers
    at_point (Updates j e' ∷ course) pending run none e st = ⊎_elim
        (λ t. let took : ◌≡◌ {A = Stage C A} (TookEffect (some j.answer)) (TookEffect (some k.answer)) = sym (ap (λ (b : Bool). cond b (TookEffect (some j.answer)) (stage k.by course)) t.0) ∙ st in
        record { during = []; point = Updates j e'; older = course; pending = pending; is = refl; invoked = e; of_call = same_call j course pending t.1 took run.0 none e; answers = tt; asks = none })
        (λ t. let r = at_point course pending run.4 none e (sym (ap (λ (b : Bool). cond b (TookEffect (some j.answer)) (stage k.by course)) t.0) ∙ st) in after (Updates j e') course r r.answers)
        (eqb_tells j.by k.by)
    at_point (Reads j ∷ course) pending run none e st = ⊎_elim
        (λ t. let took : ◌≡◌ {A = Stage C A} (TookEffect (some j.answer)) (TookEffect (some k.answer)) = sym (ap (λ (b : Bool). cond b (TookEffect (some j.answer)) (stage k.by course)) t.0) ∙ st in
        record { during = []; point = Reads j; older = course; pending = pending; is = refl; invoked = e; of_call = same_call j course pending t.1 took run.0 none e; answers = tt; asks = none })
        (λ t. let r = at_point course pending run.2 none e (sym (ap (λ (b : Bool). cond b (TookEffect (some j.answer)) (stage k.by course)) t.0) ∙ st) in after (Reads j) course r r.answers)
        (eqb_tells j.by k.by)

    has_point : (course newer pending : List (Entry T C A)) → IsLinearization o course → NoneOf k.by newer → NoneOf k.by pending
        → without_points course ≡ newer ++ Responds k.by (some k.answer) ∷ (pending ++ Invokes k.by k.call ∷ before) → HasPoint course before k
    has_point course newer pending run last asks e =
        let r = at_response k.by (some k.answer) (pending ++ Invokes k.by k.call ∷ before) course newer last e in
        let rest = run_before o r.later (Responds k.by (some k.answer) ∷ r.older) (subst (IsLinearization o) r.is run) in
        let there = at_point r.older pending rest.2 asks r.before rest.0 in
        record {
          later = r.later;
          during = there.during;
          point = there.point;
          older = there.older;
          pending = there.pending;
          is = r.is ∙ ap (λ (l : List (Entry T C A)). r.later ++ Responds k.by (some k.answer) ∷ l) there.is;
          invoked = there.invoked;
          of_call = there.of_call;
          last = r.last;
          answers = there.answers;
          asks = there.asks;
        }

-- Acts

module _ {T L O C A : Type 0} {names : Names L O} (m : Machine T L O names) (call_at : L → C) (answer : L → Option A) where
  abbrev told : Acts L → List (Entry T C A)
  told acts = heard names m.core call_at answer acts

  -- what is heard by an act of another pass
  of_other : (s : Now names m.core) (x q : ℕ) (d : Doing L) → q ≢ x → NoneOf {T = T} x (heard_at names m.core call_at answer s q d)
  of_other s x q (Begins first) ne = cases (NoneOf {T = T} {C = C} {A = A} x) (names.is_idle (s.line q)) (Invokes q (call_at first) ∷ []) [] (λ b. (ne, tt)) (λ b. tt)
  of_other s x q Steps ne =
      let to : L = m.core.lands s.memory q (s.line q) in
      cases (NoneOf {T = T} {C = C} {A = A} x) (names.is_idle (s.line q)) [] (cond (names.is_idle to) (Responds q (answer to) ∷ []) []) (λ b. tt)
      (λ b. cases (NoneOf {T = T} {C = C} {A = A} x) (names.is_idle to) (Responds q (answer to) ∷ []) [] (λ c. (ne, tt)) (λ c. tt))
  of_other s x q Looks ne = tt
  of_other s x q Hears ne = tt

  module _ (x : ℕ) (before : Acts L) (first : L) where
    abbrev at : Acts L → Now names m.core
    at since = played names m.core (since ++ (x, Begins first) ∷ before)

    abbrev all : Acts L → List (Entry T C A)
    all since = told (since ++ (x, Begins first) ∷ before)

    abbrev asked : List (Entry T C A)
    asked = Invokes x (call_at first) ∷ told before

    -- the pass is in its call, or has responded
    record Asks (since : Acts L) : Type 0 where
      pending : List (Entry T C A)
      is : all since ≡ pending ++ asked
      asks : NoneOf x pending
      busy : names.is_idle ((at since).line x) ≡ false

    record Said (since : Acts L) : Type 0 where
      newer : List (Entry T C A)
      pending : List (Entry T C A)
      is : all since ≡ newer ++ Responds x (answer ((at since).line x)) ∷ (pending ++ asked)
      last : NoneOf x newer
      asks : NoneOf x pending
      idle : names.is_idle ((at since).line x) ≡ true

    abbrev Stands : Acts L → Type 0
    Stands since = Asks since ⊎ Said since

    begins : names.is_idle ((played names m.core before).line x) ≡ true → names.is_idle first ≡ false → Stands []
    begins rested busy =
        let s : Now names m.core = played names m.core before in
        let now : Now names m.core = record { memory = s.memory; line = placed s.line x first; history = s.history } in
        let line : (at []).line x ≡ first = ap (λ (b : Bool). (cond b now s).line x) rested ∙ ap (λ (b : Bool). cond b first (s.line x)) (eq-eqb x x refl) in
        inl (record {
          pending = [];
          is = ap (λ (b : Bool). cond b (Invokes x (call_at first) ∷ []) [] ++ told before) rested;
          asks = tt;
          busy = ap names.is_idle line ∙ busy;
        })

    by_other : (q : ℕ) (d : Doing L) (since : Acts L) → q ≢ x → Stands since → Stands ((q, d) ∷ since)
    by_other q d since ne st =
        let s : Now names m.core = at since in
        let new : List (Entry T C A) = heard_at names m.core call_at answer s q d in
        let none : NoneOf x new = of_other s x q d ne in
        let line : (at ((q, d) ∷ since)).line x ≡ s.line x = line_other m s x q d (λ e. ne (sym e)) in
        ⊎_elim
        (λ a. inl (record {
          pending = new ++ a.pending;
          is = ap (λ (l : List (Entry T C A)). new ++ l) a.is ∙ sym (append_assoc new a.pending asked);
          asks = none_append x new a.pending none a.asks;
          busy = ap names.is_idle line ∙ a.busy;
        }))
        (λ r.
        let rest : List (Entry T C A) = r.pending ++ asked in
        inr (record {
          newer = new ++ r.newer;
          pending = r.pending;
          is = ap (λ (l : List (Entry T C A)). new ++ l) r.is
              ∙ sym (append_assoc new r.newer (Responds x (answer (s.line x)) ∷ rest))
              ∙ ap (λ (l : L). (new ++ r.newer) ++ Responds x (answer l) ∷ rest) (sym line);
          last = none_append x new r.newer none r.last;
          asks = r.asks;
          idle = ap names.is_idle line ∙ r.idle;
        }))
        st

    -- a step of the call leads to this line, and is heard if its pass is idle there
    abbrev to : Acts L → L
    to since = m.core.lands (at since).memory x ((at since).line x)

    abbrev ends : L → Bool → List (Entry T C A)
    ends l b = cond b (Responds x (answer l) ∷ []) []

    line_stepped : (since : Acts L) → names.is_idle ((at since).line x) ≡ false → (at ((x, Steps) ∷ since)).line x ≡ to since
    line_stepped since busy = ap (λ (b : Bool). (cond b (at since) (having_stepped names m.core (at since) x ((at since).line x))).line x) busy
        ∙ ap (λ (b : Bool). cond b (to since) ((at since).line x)) (eq-eqb x x refl)

    heard_stepped : (since : Acts L) → names.is_idle ((at since).line x) ≡ false → (b : Bool) → names.is_idle (to since) ≡ b → all ((x, Steps) ∷ since) ≡ ends (to since) b ++ all since
    heard_stepped since busy b e = ap (λ (c : Bool). cond c [] (ends (to since) (names.is_idle (to since))) ++ all since) busy
        ∙ ap (λ (c : Bool). ends (to since) c ++ all since) e

    step : (since : Acts L) → Asks since → Stands ((x, Steps) ∷ since)
    step since a = by_test (names.is_idle (to since)) refl
      where
        by_test : (b : Bool) → names.is_idle (to since) ≡ b → Stands ((x, Steps) ∷ since)
        by_test true e =
            let line : (at ((x, Steps) ∷ since)).line x ≡ to since = line_stepped since a.busy in
            inr (record {
              newer = [];
              pending = a.pending;
              is = heard_stepped since a.busy true e ∙ ap (λ (l : List (Entry T C A)). ends (to since) true ++ l) a.is
                  ∙ ap (λ (l : L). Responds x (answer l) ∷ (a.pending ++ asked)) (sym line);
              last = tt;
              asks = a.asks;
              idle = ap names.is_idle line ∙ e;
            })
        by_test false e = inl (record {
          pending = a.pending;
          is = heard_stepped since a.busy false e ∙ a.is;
          asks = a.asks;
          busy = ap names.is_idle (line_stepped since a.busy) ∙ e;
        })

    -- a step of a pass that is in no call does nothing
    idle_step : (since : Acts L) → Said since → Said ((x, Steps) ∷ since)
    idle_step since r =
        let s : Now names m.core = at since in
        let on : Now names m.core = having_stepped names m.core s x (s.line x) in
        let to : L = m.core.lands s.memory x (s.line x) in
        let line : (at ((x, Steps) ∷ since)).line x ≡ s.line x = ap (λ (b : Bool). (cond b s on).line x) r.idle in
        record {
          newer = r.newer;
          pending = r.pending;
          is = ap (λ (b : Bool). cond b [] (cond (names.is_idle to) (Responds x (answer to) ∷ []) []) ++ all since) r.idle
              ∙ r.is ∙ ap (λ (l : L). r.newer ++ Responds x (answer l) ∷ (r.pending ++ asked)) (sym line);
          last = r.last;
          asks = r.asks;
          idle = ap names.is_idle line ∙ r.idle;
        }

    own : (d : Doing L) (since : Acts L) → is_begin d ≡ 0 → Stands since → Stands ((x, d) ∷ since)
    own (Begins l) since none st = absurd (omega (arith, none))
    own Steps since none st = ⊎_elim (λ a. step since a) (λ r. inr (idle_step since r)) st
    own Looks since none st = ⊎_elim
        (λ a. inl (record { pending = a.pending; is = a.is; asks = a.asks; busy = a.busy }))
        (λ r. inr (record { newer = r.newer; pending = r.pending; is = r.is; last = r.last; asks = r.asks; idle = r.idle }))
        st
    own Hears since none st = ⊎_elim
        (λ a. inl (record { pending = a.pending; is = a.is; asks = a.asks; busy = a.busy }))
        (λ r. inr (record { newer = r.newer; pending = r.pending; is = r.is; last = r.last; asks = r.asks; idle = r.idle }))
        st

    one_more : (q : ℕ) (d : Doing L) (since : Acts L) → cond (x == q) (is_begin d) 0 ≡ 0 → Stands since → Stands ((q, d) ∷ since)
    one_more q d since none st = ⊎_elim
        (λ same. subst (λ (r : ℕ). cond (x == r) (is_begin d) 0 ≡ 0 → Stands ((r, d) ∷ since)) same
        (λ (none : cond (x == x) (is_begin d) 0 ≡ 0). own d since (sym (ap (λ (b : Bool). cond b (is_begin d) 0) (eq-eqb x x refl)) ∙ none) st) none)
        (λ ne. by_other q d since (λ e. ne (sym e)) st)
        (same_or_not x q)

    stands : (since : Acts L) → begins_in x since ≡ 0 → names.is_idle ((played names m.core before).line x) ≡ true → names.is_idle first ≡ false → Stands since
    stands [] once rested busy = begins rested busy
    stands (a ∷ since) once rested busy = one_more a.0 a.1 since (omega (arith, once)) (stands since (omega (arith, once)) rested busy)

  -- an operation that has come from its first line to one at which its pass is idle, with this answer
  pub call_has_point : (o : Object T C A) (x : ℕ) (before now : Acts L) (first l : L) (a : A) → Course names m.core before now x first l → names.is_idle first ≡ false → names.is_idle l ≡ true → answer l ≡ some a
      → (lin : IsLinearizable names m.core call_at answer o now) → HasPoint lin.course (told before) (record { by = x; call = call_at first; answer = a })
  call_has_point o x before now first l a k busy idle says lin =
      let line : (at x before first k.since).line x ≡ l = ap (λ (acts : Acts L). (played names m.core acts).line x) (sym k.is) ∙ k.at in
      ⊎_elim
      (λ asks. absurd (false≢true (sym asks.busy ∙ ap names.is_idle line ∙ idle)))
      (λ said. has_point o (record { by = x; call = call_at first; answer = a }) (told before) lin.course said.newer said.pending lin.right said.last said.asks
      (lin.same_calls ∙ ap told k.is ∙ said.is ∙ ap (λ (says : Option A). said.newer ++ Responds x says ∷ (said.pending ++ asked x before first)) (ap answer line ∙ says)))
      (stands x before first k.since k.once k.rested busy)

  -- so has each whole call in its own run
  pub run_has_point : (o : Object T C A) (op : O) (v : View T L) (begun : PassView T) (l : L) (a : A) (call : C) (ran : HasRun m op v begun l) → call_at (names.first op ran.rest) ≡ call → names.is_idle l ≡ true → answer l ≡ some a
      → (lin : IsLinearizable names m.core call_at answer o ran.now) → HasPoint lin.course (told ran.before) (record { by = (pass_of v).number; call = call; answer = a })
  run_has_point o op v begun l a call ran is idle says lin =
      subst (λ (c : C). HasPoint lin.course (told ran.before) (record { by = (pass_of v).number; call = c; answer = a })) is
      (call_has_point o (pass_of v).number ran.before ran.now (names.first op ran.rest) l a ran.course (names.starts op ran.rest) idle says lin)

-- a course is a linearization up to the point of a call
pub point_runs : {T C A : Type 0} (o : Object T C A) (course before : List (Entry T C A)) (k : Operation C A) (at : HasPoint course before k) → IsLinearization o course → IsLinearization o (at.point ∷ at.older)
point_runs o course before k at run =
    let response = run_before o at.later (Responds k.by (some k.answer) ∷ (at.during ++ at.point ∷ at.older)) (subst (IsLinearization o) at.is run) in
    run_before o at.during (at.point ∷ at.older) response.2
