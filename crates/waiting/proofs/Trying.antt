-- A call after tries that did nothing is the same call from before them.
use Rattle.std.proofs.Common.{◌≡◌, ℕ, ◌≤◌, List, [], ◌∷◌, ◌++◌, replicate, zero, suc, refl, sym, ap, ◌∙◌, subst, arith, append-nil, append_assoc, Result, Ok, Err}
use Rattle.bounded_model.specs.declared.history.Event.{Event}
use Rattle.bounded_model.specs.declared.history.Event.TheVariants.{Hold, Put, Take, Free}
use Rattle.bounded_model.specs.declared.answers.PutRefused.{PutRefused}
use Rattle.bounded_model.specs.declared.answers.PutRefused.TheVariants.{Full, Closed, Spent}
use Rattle.bounded_model.specs.declared.answers.TakeRefused.{TakeRefused}
use Rattle.bounded_model.specs.declared.views.Answered.{Answered}
use Rattle.bounded_model.specs.declared.views.PassView.{PassView}
use Rattle.bounded_model.specs.Machine.{Shape}
use Rattle.bounded_model.specs.Histories.{own, Later}
use Rattle.bounded_model.specs.Justified.{Answer, PutFull, PutClosed, PutSpent, Justified, take_answer}
use Rattle.bounded_model.specs.Laws.{Answers, Adds, BacksOut, gave_back, PutGives, TakeGives}
use Rattle.bounded_model.proofs.Histories.{own-append, Later-trans}
use Rattle.waiting.specs.Answering.{AnswersLast}

-- the pass has done nothing, in some tries or in none
pub record Tried {T : Type 0} (v u : PassView T) : Type 0 where
  pub number : u.number ≡ v.number
  pub steps : v.steps ≤ u.steps
  pub between : List (Event T)
  pub seen : u.seen ≡ between ++ v.seen
  pub own_events : own v.number between ≡ []

module _ {T : Type 0} where
  pub Tried-none : (v : PassView T) → Tried v v
  Tried-none v = record { number = refl; steps = omega arith; between = []; seen = refl; own_events = refl }

  Tried-later : {v u : PassView T} → Tried v u → Later v.seen u.seen
  Tried-later {v} {u} t = record { more = t.between; is = t.seen }

  own_all : {v u w : PassView T} {events : List (Event T)} (t : Tried v u) (a : Adds u w events) → own v.number (a.between ++ t.between) ≡ events
  own_all {v} {u} {w} {events} t a =
      own-append v.number a.between t.between
      ∙ ap (λ l. own v.number a.between ++ l) t.own_events
      ∙ append-nil (own v.number a.between)
      ∙ ap (λ n. own n a.between) (sym t.number)
      ∙ a.own_events

  seen_all : {v u w : PassView T} {events : List (Event T)} (t : Tried v u) (a : Adds u w events) → w.seen ≡ (a.between ++ t.between) ++ v.seen
  seen_all {v} {u} {w} {events} t a = a.seen ∙ (ap (λ l. a.between ++ l) t.seen ∙ sym (append_assoc a.between t.between v.seen))

  pub Tried-more : {v u w : PassView T} → Tried v u → Adds u w [] → Tried v w
  Tried-more {v} {u} {w} t a =
      let before = t.steps in
      let more = a.steps in
      record { number = a.number ∙ t.number; steps = omega arith; between = a.between ++ t.between; seen = seen_all t a; own_events = own_all t a }

  Adds-after : {v u w : PassView T} {events : List (Event T)} → Tried v u → Adds u w events → Adds v w events
  Adds-after {v} {u} {w} {events} t a =
      let before = t.steps in
      let more = a.steps in
      record { number = a.number ∙ t.number; steps = omega arith; between = a.between ++ t.between; seen = seen_all t a; own_events = own_all t a }

  BacksOut-after : {v u w : PassView T} {most : ℕ} → Tried v u → BacksOut u w most → BacksOut v w most
  BacksOut-after {v} {u} {w} {most} t b = record {
    held = b.held;
    at_most = b.at_most;
    adds = subst (λ n. Adds v w (gave_back n b.held)) t.number (Adds-after t b.adds);
  }

  Justified-after : (c : Shape) {v u : PassView T} (w : PassView T) (answer : Answer) → Tried v u → Justified c u w answer → Justified c v w answer
  Justified-after c {v} {u} w answer t j = record { at = j.at; since = Later-trans (Tried-later t) j.since; until = j.until; holds = j.holds }

  pub put_after : (c : Shape) {v u : PassView T} (w : PassView T) (x : T) (r : Result ℕ (PutRefused T)) → Tried v u → PutGives c u x w r → PutGives c v x w r
  put_after c {v} {u} w x (Ok n) t g = subst (λ k. Adds v w (Put k (x ∷ []) n ∷ Hold k ∷ [])) t.number (Adds-after t g)
  put_after c {v} {u} w x (Err (Full y)) t g = (g.0, Adds-after t g.1, Justified-after c w PutFull t g.2)
  put_after c {v} {u} w x (Err (Closed y)) t g = (g.0, BacksOut-after t g.1, Justified-after c w PutClosed t g.2)
  put_after c {v} {u} w x (Err (Spent y word tag)) t g = (g.0, BacksOut-after t g.1, Justified-after c w (PutSpent word tag) t g.2)

  pub take_after : (c : Shape) {v u : PassView T} (w : PassView T) (r : Result (T × ℕ) TakeRefused) → Tried v u → TakeGives c u w r → TakeGives c v w r
  take_after c {v} {u} w (Ok taken) t g = subst (λ k. Adds v w (Free k 1 ∷ Take k taken.0 taken.1 ∷ [])) t.number (Adds-after t g)
  take_after c {v} {u} w (Err why) t g = (Adds-after t g.0, Justified-after c w (take_answer why) t g.1)

-- and each of them has answered this
pub record Refused {T : Type 0} (again : Answered T) (v u : PassView T) : Type 0 where
  pub tries : ℕ
  pub answers : u.answers ≡ replicate tries again ++ v.answers

module _ {T : Type 0} {again : Answered T} where
  pub Refused-none : (v : PassView T) → Refused again v v
  Refused-none v = record { tries = zero; answers = refl }

  pub Refused-more : {v u w : PassView T} → Refused again v u → Answers u w again → Refused again v w
  Refused-more {v} {u} {w} before more = record { tries = suc before.tries; answers = more ∙ ap (λ l. again ∷ l) before.answers }

  pub Refused-last : {last : Answered T} {v u w : PassView T} → Refused again v u → Answers u w last → AnswersLast again last v w
  Refused-last {last} {v} {u} {w} before more = record { tries = before.tries; answers = more ∙ ap (λ l. last ∷ l) before.answers }
