-- Why those of specs/WrongCalls are refused.
use Rattle.std.proofs.Common.{◌≡◌, ℕ, ◌<◌, ◌≤◌, List, [], ◌∷◌, ◌++◌, length, length-append, refl, suc, ap, sym, ◌∙◌, subst, arith}
use mathlib.Core.Option.{some}
use Rattle.bounded_model.specs.declared.history.Event.{Event}
use Rattle.bounded_model.specs.Histories.{Later}
use Rattle.bounded_model.specs.Machine.{Shape}
use Rattle.step_core.specs.Linearizable.{Entry, Invokes, Responds, Hand, Updates, Reads, without_points}
use Rattle.runs.specs.InTime.{InOneOrder, InTurn}
use Rattle.runs.specs.Point.{IsPointOf, HasPoint}
use Rattle.runs.specs.WrongCalls.{early_point, first_call, late_call, late_point, reading, second_call}

-- the invocations and responses are no more than all entries
points_fewer : {T C A : Type 0} (course : List (Entry T C A)) → length (without_points course) ≤ length course
points_fewer [] = omega arith
points_fewer (Invokes p call ∷ course) = omega (arith, points_fewer course)
points_fewer (Responds p answer ∷ course) = omega (arith, points_fewer course)
points_fewer (Hand e ∷ course) = omega (arith, points_fewer course)
points_fewer (Updates k e ∷ course) = omega (arith, points_fewer course)
points_fewer (Reads k ∷ course) = omega (arith, points_fewer course)

is_nil : {A : Type 0} (xs : List A) → length xs ≡ 0 → xs ≡ []
is_nil [] none = refl
is_nil (x ∷ xs) none = absurd (omega (arith, none))

-- a later history is no shorter
length_later : {T : Type 0} (older newer : List (Event T)) → Later older newer → length older ≤ length newer
length_later older newer l = let e : length newer ≡ length (l.more ++ older) = ap length l.is in omega (arith, e, length-append l.more older)

pub out_of_turn-refused : ¬ InTurn (second_call ∷ first_call ∷ [])
out_of_turn-refused turn =
    let heard = turn 0 1 second_call first_call refl refl (omega arith) refl in
    let fewer = length_later second_call.after.seen first_call.before.seen heard in
    absurd (omega (arith, fewer))

pub late_call-refused : (c : Shape) (h : List (Event ℕ)) → ¬ InOneOrder c h (late_call ∷ [])
late_call-refused c h order =
    let stands = order.stands 0 late_call refl in
    let at = (order.place 0 late_call refl).at in
    let e : length at ≡ suc (length stands.right.0) = ap length stands.right.1 in
    let before = length_later late_call.before.seen stands.right.0 stands.right.2 in
    let after = length_later at late_call.after.seen stands.until in
    absurd (omega (arith, e, before, after))

-- The course has three entries. The response, the point and the invocation are three, so no other stands beside them
module _ (course : List (Entry ℕ ℕ ℕ)) (three : length course ≡ 3) (at : HasPoint course [] reading) where
  older_is : 0 < length at.older
  older_is = let e = ap length at.invoked ∙ length-append at.pending (Invokes 0 7 ∷ []) in omega (arith, e, points_fewer at.older)

  alone : (length at.later ≡ 0) × (length at.during ≡ 0)
  alone =
      let e = ap length at.is ∙ length-append at.later (Responds 0 (some 8) ∷ (at.during ++ at.point ∷ at.older)) in
      let d = length-append at.during (at.point ∷ at.older) in
      (omega (arith, e, d, three, older_is), omega (arith, e, d, three, older_is))

  first_is : course ≡ Responds 0 (some 8) ∷ at.point ∷ at.older
  first_is =
      let later : at.later ≡ [] = is_nil at.later alone.0 in
      let during : at.during ≡ [] = is_nil at.during alone.1 in
      at.is ∙ (λ t. later t ++ Responds 0 (some 8) ∷ (during t ++ at.point ∷ at.older))

pub late_point-refused : ¬ HasPoint late_point [] reading
late_point-refused at =
    let e = first_is late_point refl at in
    let no : ◌≡◌ {A = Entry ℕ ℕ ℕ} (Reads reading) (Responds 0 (some 8)) = cc in
    cc

pub early_point-refused : ¬ HasPoint early_point [] reading
early_point-refused at =
    let e = first_is early_point refl at in
    let rest : ◌≡◌ {A = List (Entry ℕ ℕ ℕ)} (Invokes 0 7 ∷ Reads reading ∷ []) (at.point ∷ at.older) = cc in
    let point : ◌≡◌ {A = Entry ℕ ℕ ℕ} (Invokes 0 7) at.point = cc in
    subst (IsPointOf reading) (sym point) at.of_call
