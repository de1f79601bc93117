-- Each step of an operation under way is one more of those that it has made.
use Rattle.std.proofs.Common.{◌≡◌, ℕ, ◌+◌, Bool, true, false, cond, [], ◌∷◌, ◌++◌, append_assoc, refl, sym, ap, ◌∙◌, subst, arith}
use Rattle.std.proofs.lemmas.Bool.{false≢true}
use Rattle.atomic_table.specs.Seated.{TableId}
use Rattle.bounded_model.specs.declared.views.PassView.{PassView}
use Rattle.bounded_model.specs.Stepping.{GoesOn, OneStep}
use Rattle.machine.specs.declared.seats.View.{View}
use Rattle.machine.specs.Seats.{Acts, acts_before, acts_now, pass_of}
use Rattle.running.specs.Machine.{Names, Machine}
use Rattle.running.specs.Acts.{Doing, Begins, Steps, is_begin, is_step, sum_of, begins_in, steps_in, Seen, Course}
use Rattle.running.specs.Code.{Account}
use Rattle.running.specs.Going.{Going, IsLine, begun_in}
use Rattle.running.specs.Ops.{IsUnderWay, underway_of}
use Rattle.running.specs.Rule.{line_in}
use Rattle.running.specs.declared.op.Op.{Op}
use Rattle.running.proofs.Acts.{sum_append, sum_same}
use Rattle.running.proofs.Going.{begun_going}
use Rattle.runs.specs.Made.{MadeSince, HasMade}

module _ {L : Type 0} where
  abbrev front : ℕ × Doing L → Acts L → ℕ × Doing L
  front other [] = other
  front other (a ∷ older) = a

  abbrev behind : Acts L → Acts L
  behind [] = []
  behind (a ∷ older) = older

  begins_one : (x : ℕ) (first : L) (acts : Acts L) → begins_in x ((x, Begins first) ∷ acts) ≡ 0 → ⊥
  begins_one x first acts e = let s = sum_same {L = L} is_begin x (Begins first) acts in omega (arith, e, s)

  less_of_sum : (x : ℕ) (a : ℕ × Doing L) (acts : Acts L) → begins_in x (a ∷ acts) ≡ 0 → begins_in x acts ≡ 0
  less_of_sum x a acts e = omega (arith, e)

  -- a pass's last begin stands in one place
  pub same_since : (x : ℕ) (xs ys older older' : Acts L) (first first' : L) → begins_in x xs ≡ 0 → begins_in x ys ≡ 0 → xs ++ (x, Begins first) ∷ older ≡ ys ++ (x, Begins first') ∷ older' → xs ≡ ys
  same_since x [] [] older older' first first' e f is = refl
  same_since x [] (a ∷ ys) older older' first first' e f is = absurd (begins_one x first ys (subst (λ (b : ℕ × Doing L). begins_in x (b ∷ ys) ≡ 0) (sym (ap (front a) is)) f))
  same_since x (a ∷ xs) [] older older' first first' e f is = absurd (begins_one x first' xs (subst (λ (b : ℕ × Doing L). begins_in x (b ∷ xs) ≡ 0) (ap (front a) is) e))
  same_since x (a ∷ xs) (b ∷ ys) older older' first first' e f is =
      ap (λ (c : ℕ × Doing L). c ∷ xs) (ap (front a) is) ∙ ap (λ (zs : Acts L). b ∷ zs) (same_since x xs ys older older' first first' (less_of_sum x a xs e) (less_of_sum x b ys f) (ap behind is))

module _ {T L O : Type 0} {names : Names L O} (m : Machine T L O names) where
  abbrev V : Type 0
  V = View T L

  pub course_in : {o : O} {v : V} {begun : PassView T} {l : L} → Going m o v begun l → names.is_idle (line_in names v) ≡ false → (rest : L) × Course names m.core (acts_before v) (acts_now v) (pass_of v).number (names.first o rest) (line_in names v)
  course_in {o} g busy = subst (λ (u : V). (rest : L) × Course names m.core (acts_before u) (acts_now u) (pass_of u).number (names.first o rest) (line_in names u)) (sym g.is)
      (g.course (ap (λ (u : V). names.is_idle (line_in names u)) (sym g.is) ∙ busy))

  -- what its pass has counted since the begin are steps of the machine, if it makes no other loads
  pub spent_in : {o : O} {v : V} {begun : PassView T} {l : L} → Going m o v begun l → names.is_idle (line_in names v) ≡ false → (m.core.Peeks o → ⊥) → (pass_of v).steps + steps_in (pass_of v).number (acts_before v) ≡ begun.steps + steps_in (pass_of v).number (acts_now v)
  spent_in {begun = begun} g busy none = subst (λ (u : V). (pass_of u).steps + steps_in (pass_of u).number (acts_before u) ≡ begun.steps + steps_in (pass_of u).number (acts_now u)) (sym g.is)
      (g.spent (ap (λ (u : V). names.is_idle (line_in names u)) (sym g.is) ∙ busy) none)

  -- and before the first step they are none
  pub spent_none : {o : O} {v : V} {begun : PassView T} {l : L} → Going m o v begun l → names.is_idle (line_in names v) ≡ true → (pass_of v).steps ≡ begun.steps
  spent_none {begun = begun} g idle =
      let at : names.is_idle g.at ≡ true = ap (λ (u : V). names.is_idle (line_in names u)) (sym g.is) ∙ idle in
      ap (λ (u : V). (pass_of u).steps) g.is ∙ ap (λ (k : PassView T). k.steps) (sym (ap (λ (b : Bool). cond b g.pass g.from.view) at) ∙ g.begun_is)

  -- the steps that it has made are those of its course
  pub course_steps : {before now : Acts L} {x n : ℕ} {first first' l : L} (k : Course names m.core before now x first l) → MadeSince before now x first' n → steps_in x k.since ≡ n
  course_steps {before} {x = x} {first = first} {first' = first'} k w = ap (steps_in x) (same_since x k.since w.since before before first first' k.once w.once (sym k.is ∙ w.is)) ∙ w.steps

  -- wherever an operation is, it has made some steps
  pub some_made : {o : O} {v : V} {begun : PassView T} {l : L} → Going m o v begun l → (n : ℕ) × HasMade names o v n
  some_made {o} {v} g = by_test (names.is_idle (line_in names v)) refl
    where
      by_test : (b : Bool) → names.is_idle (line_in names v) ≡ b → (n : ℕ) × HasMade names o v n
      by_test true e = (0, record { none = λ _. refl; some = λ f. absurd (false≢true (sym f ∙ e)) })
      by_test false e =
          let k = course_in g e in
          (steps_in (pass_of v).number k.1.since, record { none = λ f. absurd (false≢true (sym e ∙ f)); some = λ _. (k.0, record { since = k.1.since; is = k.1.is; once = k.1.once; steps = refl }) })

  module _ {o : O} {v v' : V} {begun begun' : PassView T} {l l' : L} (g : Going m o v begun l) (g' : Going m o v' begun' l') (line : IsLine m v v' l l') (same : begun_in m v' ≡ begun_in m v) (one : OneStep (pass_of v) (pass_of v')) where
    abbrev x : ℕ
    x = (pass_of v).number

    abbrev number : (pass_of v').number ≡ x
    number = one.number

    begun_now_steps : (begun_in m v).steps ≡ begun.steps
    begun_now_steps = ap (λ (p : PassView T). p.steps) (begun_going m g)

    steps_of : g.pass.steps ≡ (pass_of v).steps
    steps_of = ap (λ (u : V). (pass_of u).steps) (sym g.is)

    -- it has made a step, so its pass is at a line
    at_line : names.is_idle (line_in names v') ≡ false
    at_line = by_test (names.is_idle (line_in names v')) refl
      where
        by_test : (b : Bool) → names.is_idle (line_in names v') ≡ b → names.is_idle (line_in names v') ≡ false
        by_test false e = e
        by_test true e =
            let idle : names.is_idle g'.at ≡ true = ap (λ (u : V). names.is_idle (line_in names u)) (sym g'.is) ∙ e in
            let begun_is : begun_in m v' ≡ pass_of v' = ap (begun_in m) g'.is ∙ ap (λ (b : Bool). cond b g'.pass g'.from.view) idle ∙ sym (ap pass_of g'.is) in
            let steps : (pass_of v').steps ≡ (begun_in m v).steps = ap (λ (p : PassView T). p.steps) (sym begun_is ∙ same) in
            let s = one.steps in
            let h = g.steps in
            absurd (omega (arith, steps, s, h, begun_now_steps, steps_of))

    line_is : g'.at ≡ l'
    line_is = ap (λ (b : Bool). cond b (names.first o g'.at) g'.at) (sym (ap (λ (u : V). names.is_idle (line_in names u)) (sym g'.is) ∙ at_line)) ∙ g'.now

    busy : names.is_idle l' ≡ false
    busy = ap names.is_idle (sym line_is) ∙ ap (λ (u : V). names.is_idle (line_in names u)) (sym g'.is) ∙ at_line

    abbrev first : L
    first = names.first o (course_in g' at_line).0

    abbrev k : Course names m.core (acts_before v') (acts_now v') (pass_of v').number first (line_in names v')
    k = (course_in g' at_line).1

    since_is : acts_now v' ≡ k.since ++ (x, Begins first) ∷ acts_before v'
    since_is = subst (λ (y : ℕ). acts_now v' ≡ k.since ++ (y, Begins first) ∷ acts_before v') number k.is

    since_once : begins_in x k.since ≡ 0
    since_once = subst (λ (y : ℕ). begins_in y k.since ≡ 0) number k.once

    abbrev acts : Acts L
    acts = line.rule.led.acts

    acts_are : acts_now v' ≡ (x, Steps) ∷ cond (names.is_idle (line_in names v)) ((x, Begins l) ∷ acts) acts
    acts_are = line.knows ∙ line.acts

    pub one_more : (n : ℕ) → HasMade names o v n → HasMade names o v' (n + 1)
    one_more n h = record { none = λ e. absurd (false≢true (sym at_line ∙ e)); some = λ _. ((course_in g' at_line).0, record { since = k.since; is = k.is; once = k.once; steps = ap (λ (y : ℕ). steps_in y k.since) number ∙ by_test (names.is_idle (line_in names v)) refl }) }
      where
        by_test : (b : Bool) → names.is_idle (line_in names v) ≡ b → steps_in x k.since ≡ n + 1
        by_test true e =
            let is : acts_now v' ≡ ((x, Steps) ∷ []) ++ (x, Begins l) ∷ acts = acts_are ∙ ap (λ (b : Bool). (x, Steps) ∷ cond b ((x, Begins l) ∷ acts) acts) e in
            let since : k.since ≡ (x, Steps) ∷ [] = same_since x k.since ((x, Steps) ∷ []) (acts_before v') acts first l since_once (sum_same {L = L} is_begin x Steps []) (sym since_is ∙ is) in
            ap (steps_in x) since ∙ sum_same {L = L} is_step x Steps [] ∙ ap (λ (i : ℕ). i + 1) (sym (h.none e))
        by_test false e =
            let s : Seen names m.core acts (acts_now v) x = line.sees e in
            let w = (h.some e).1 in
            let from : L = names.first o (h.some e).0 in
            let newer : Acts L = (x, Steps) ∷ (s.others ++ w.since) in
            let is : acts_now v' ≡ newer ++ (x, Begins from) ∷ acts_before v =
            acts_are ∙ ap (λ (b : Bool). (x, Steps) ∷ cond b ((x, Begins l) ∷ acts) acts) e ∙ ap (λ (zs : Acts L). (x, Steps) ∷ zs) (s.is ∙ ap (λ (zs : Acts L). s.others ++ zs) w.is ∙ sym (append_assoc s.others w.since ((x, Begins from) ∷ acts_before v))) in
            let begins : begins_in x newer ≡ 0 =
            (let a = sum_same {L = L} is_begin x Steps (s.others ++ w.since) in let b = sum_append {L = L} is_begin x s.others w.since in let c = sym (ap (sum_of is_begin x) s.is) ∙ s.same is_begin refl in let d = sum_append {L = L} is_begin x s.others (acts_now v) in let e' = w.once in omega (arith, a, b, c, d, e')) in
            let since : k.since ≡ newer = same_since x k.since newer (acts_before v') (acts_before v) first from since_once begins (sym since_is ∙ is) in
            ap (steps_in x) since ∙ (let a = sum_same {L = L} is_step x Steps (s.others ++ w.since) in let b = sum_append {L = L} is_step x s.others w.since in let c = sym (ap (sum_of is_step x) s.is) ∙ s.same is_step refl in let d = sum_append {L = L} is_step x s.others (acts_now v) in let e' = w.steps in omega (arith, a, b, c, d, e'))

module _ {T L O S A : Type 0} {names : Names L O} (m : Machine T L O names) (c : Account T L O S A) (id : TableId) where
  -- where an operation is, as it names itself
  pub going : (op : Op T L O S) → IsUnderWay m c id op → Going m op.operation op.pass.seat.me.0 (begun_in m op.pass.seat.me.0) (c.line op.at)
  going op u = subst (λ (o : O). Going m o op.pass.seat.me.0 (begun_in m op.pass.seat.me.0) (c.line op.at)) (sym u.named) u.stands.at.at.going

  pub made_after : (op next : Op T L O S) → IsUnderWay m c id op → IsUnderWay m c id next → GoesOn (underway_of m op.pass) (underway_of m next.pass) → next.operation ≡ op.operation
      → IsLine m op.pass.seat.me.0 next.pass.seat.me.0 (c.line op.at) (c.line next.at) → (n : ℕ) → HasMade names op.operation op.pass.seat.me.0 n → HasMade names next.operation next.pass.seat.me.0 (n + 1)
  made_after op next u w goes same line n h = subst (λ (o : O). HasMade names o next.pass.seat.me.0 (n + 1)) (sym same)
      (one_more m (going op u) (subst (λ (o : O). Going m o next.pass.seat.me.0 (begun_in m next.pass.seat.me.0) (c.line next.at)) same (going next w)) line goes.begun goes.step n h)
