-- A linearization whose calls are told with more than the object knows is one of the calls alone.
use Rattle.std.proofs.Common.{◌≡◌, ℕ, ◌≤◌, Bool, true, false, cond, eqb, List, [], ◌∷◌, ◌++◌, map, refl, sym, ap, ◌∙◌, subst}
use Rattle.bounded_model.specs.declared.history.Event.{Event}
use Rattle.bounded_model.specs.Histories.{pass_of}
use Rattle.bounded_model.specs.Machine.{state, Needs}
use Rattle.machine.specs.Seats.{Acts}
use mathlib.Core.Option.{Option, none, some}
use Rattle.running.specs.Machine.{Names, Core}
use Rattle.running.specs.Acts.{Doing, Begins, Steps, Looks, Hears, Now, played}
use Rattle.runs.specs.Heard.{heard_at, heard, IsLinearizable}
use Rattle.step_core.specs.Linearizable.{Operation, Object, Entry, Invokes, Responds, Hand, Updates, Reads, Stage, Rests, Pending, TookEffect, most_of, MayHold, without_points, events, stage, call_of, IsLinearization}

module _ {C D : Type 0} (f : C → D) where
  abbrev at_call : Option C → Option D
  at_call none = none
  at_call (some call) = some (f call)

  which : (b : Bool) (c : Option C) (d d' : Option D) (c' : Option C) → d ≡ at_call c → d' ≡ at_call c' → cond b d d' ≡ at_call (cond b c c')
  which true c d d' c' e e' = e
  which false c d d' c' e e' = e'

module _ {C D A : Type 0} (f : C → D) where
  abbrev pub operation : Operation C A → Operation D A
  operation k = record { by = k.by; call = f k.call; answer = k.answer }

  abbrev at_stage : Stage C A → Stage D A
  at_stage Rests = Rests
  at_stage (Pending call) = Pending (f call)
  at_stage (TookEffect answer) = TookEffect answer

  either : (b : Bool) (s : Stage C A) (t t' : Stage D A) (s' : Stage C A) → t ≡ at_stage s → t' ≡ at_stage s' → cond b t t' ≡ at_stage (cond b s s')
  either true s t t' s' e e' = e
  either false s t t' s' e e' = e'

module _ {T C D A : Type 0} (f : C → D) where
  -- the object, of calls that are told with more
  abbrev pub of_more : Object T D A → Object T C A
  of_more o = record { shape = o.shape; most = λ c. o.most (f c); updates = λ k e. o.updates (operation f k) e; reads = λ k h. o.reads (operation f k) h }

  abbrev entry : Entry T C A → Entry T D A
  entry (Invokes p call) = Invokes p (f call)
  entry (Responds p answer) = Responds p answer
  entry (Hand e) = Hand e
  entry (Updates k e) = Updates (operation f k) e
  entry (Reads k) = Reads (operation f k)

  abbrev entries : List (Entry T C A) → List (Entry T D A)
  entries course = map entry course

  entries_append : (xs ys : List (Entry T C A)) → entries (xs ++ ys) ≡ entries xs ++ entries ys
  entries_append [] ys = refl
  entries_append (x ∷ xs) ys = ap (λ (l : List (Entry T D A)). entry x ∷ l) (entries_append xs ys)

  same_points : (course : List (Entry T C A)) → without_points (entries course) ≡ entries (without_points course)
  same_points [] = refl
  same_points (Invokes p call ∷ course) = ap (λ (l : List (Entry T D A)). Invokes p (f call) ∷ l) (same_points course)
  same_points (Responds p answer ∷ course) = ap (λ (l : List (Entry T D A)). Responds p answer ∷ l) (same_points course)
  same_points (Hand e ∷ course) = same_points course
  same_points (Updates k e ∷ course) = same_points course
  same_points (Reads k ∷ course) = same_points course

  same_events : (course : List (Entry T C A)) → events (entries course) ≡ events course
  same_events [] = refl
  same_events (Invokes p call ∷ course) = same_events course
  same_events (Responds p answer ∷ course) = same_events course
  same_events (Hand e ∷ course) = ap (λ (l : List (Event T)). e ∷ l) (same_events course)
  same_events (Updates k e ∷ course) = ap (λ (l : List (Event T)). e ∷ l) (same_events course)
  same_events (Reads k ∷ course) = same_events course

  same_stage : (p : ℕ) (course : List (Entry T C A)) → stage p (entries course) ≡ at_stage f (stage p course)
  same_stage p [] = refl
  same_stage p (Invokes q call ∷ course) = either f (eqb q p) (Pending call) (Pending (f call)) (stage p (entries course)) (stage p course) refl (same_stage p course)
  same_stage p (Responds q answer ∷ course) = either f (eqb q p) Rests Rests (stage p (entries course)) (stage p course) refl (same_stage p course)
  same_stage p (Hand e ∷ course) = same_stage p course
  same_stage p (Updates k e ∷ course) = either f (eqb k.by p) (TookEffect (some k.answer)) (TookEffect (some k.answer)) (stage p (entries course)) (stage p course) refl (same_stage p course)
  same_stage p (Reads k ∷ course) = either f (eqb k.by p) (TookEffect (some k.answer)) (TookEffect (some k.answer)) (stage p (entries course)) (stage p course) refl (same_stage p course)

  same_call : (p : ℕ) (course : List (Entry T C A)) → call_of p (entries course) ≡ at_call f (call_of p course)
  same_call p [] = refl
  same_call p (Invokes q call ∷ course) = which f (eqb q p) (some call) (some (f call)) (call_of p (entries course)) (call_of p course) refl (same_call p course)
  same_call p (Responds q answer ∷ course) = which f (eqb q p) none none (call_of p (entries course)) (call_of p course) refl (same_call p course)
  same_call p (Hand e ∷ course) = same_call p course
  same_call p (Updates k e ∷ course) = same_call p course
  same_call p (Reads k ∷ course) = same_call p course

  same_most : (o : Object T D A) (c : Option C) → most_of (of_more o) c ≡ most_of o (at_call f c)
  same_most o none = refl
  same_most o (some call) = refl

  still_holds : (o : Object T D A) (e : Event T) (course : List (Entry T C A)) → MayHold (of_more o) e (events course) (call_of (pass_of e) course) → MayHold o e (events (entries course)) (call_of (pass_of e) (entries course))
  still_holds o e course may =
      subst (λ (k : ℕ). (state o.shape (e ∷ events (entries course))).hand (pass_of e) ≤ k) (same_most o (call_of (pass_of e) course) ∙ ap (most_of o) (sym (same_call (pass_of e) course)))
      (subst (λ (h : List (Event T)). (state o.shape (e ∷ h)).hand (pass_of e) ≤ most_of (of_more o) (call_of (pass_of e) course)) (sym (same_events course)) may)

  still_right : (o : Object T D A) (course : List (Entry T C A)) → IsLinearization (of_more o) course → IsLinearization o (entries course)
  still_right o [] right = tt
  still_right o (Invokes p call ∷ course) right = (same_stage p course ∙ ap (at_stage f) right.0, still_right o course right.1)
  still_right o (Responds p answer ∷ course) right = (same_stage p course ∙ ap (at_stage f) right.0, ap (λ (h : List (Event T)). (state o.shape h).hand p) (same_events course) ∙ right.1, still_right o course right.2)
  still_right o (Hand e ∷ course) right =
      (right.0, still_holds o e course right.1, subst (λ (h : List (Event T)). Needs o.shape (state o.shape h) e) (sym (same_events course)) right.2, still_right o course right.3)
  still_right o (Updates k e ∷ course) right =
      (same_stage k.by course ∙ ap (at_stage f) right.0, right.1, still_holds o e course right.2, subst (λ (h : List (Event T)). Needs o.shape (state o.shape h) e) (sym (same_events course)) right.3, still_right o course right.4)
  still_right o (Reads k ∷ course) right =
      (same_stage k.by course ∙ ap (at_stage f) right.0, subst (λ (h : List (Event T)). o.reads (operation f k) h) (sym (same_events course)) right.1, still_right o course right.2)

  module _ {L O : Type 0} (names : Names L O) (c : Core T L O) (call_at : L → C) (answer : L → Option A) where
    tested : (b : Bool) (xs ys : List (Entry T C A)) → entries (cond b xs ys) ≡ cond b (entries xs) (entries ys)
    tested true xs ys = refl
    tested false xs ys = refl

    heard_one : (s : Now names c) (p : ℕ) (d : Doing L) → entries (heard_at names c call_at answer s p d) ≡ heard_at names c (λ l. f (call_at l)) answer s p d
    heard_one s p (Begins first) = tested (names.is_idle (s.line p)) (Invokes p (call_at first) ∷ []) []
    heard_one s p Steps =
        let to : L = c.lands s.memory p (s.line p) in
        let answered : List (Entry T C A) = Responds p (answer to) ∷ [] in
        tested (names.is_idle (s.line p)) [] (cond (names.is_idle to) answered []) ∙ ap (λ (l : List (Entry T D A)). cond (names.is_idle (s.line p)) [] l) (tested (names.is_idle to) answered [])
    heard_one s p Looks = refl
    heard_one s p Hears = refl

    same_heard : (acts : Acts L) → entries (heard names c call_at answer acts) ≡ heard names c (λ l. f (call_at l)) answer acts
    same_heard [] = refl
    same_heard (a ∷ older) =
        let one = heard_one (played names c older) a.0 a.1 in
        let more = same_heard older in
        entries_append (heard_at names c call_at answer (played names c older) a.0 a.1) (heard names c call_at answer older) ∙ (λ t. one t ++ more t)

    pub of_calls_alone : (o : Object T D A) (acts : Acts L) → IsLinearizable names c call_at answer (of_more o) acts → IsLinearizable names c (λ l. f (call_at l)) answer o acts
    of_calls_alone o acts l = record {
      course = entries l.course;
      same_calls = same_points l.course ∙ ap entries l.same_calls ∙ same_heard acts;
      right = still_right o l.course l.right;
      same_history = same_events l.course ∙ l.same_history;
    }
