-- What stays so in every later history, and what the counters count.
use Rattle.std.proofs.Common.{◌≡◌, ◌*◌, ◌≤◌, List, [], ◌∷◌, ◌++◌, refl, Bool, true, false, arith, ap, sym, ◌∙◌, append-nil, length, length-append, true≢false}
use Rattle.bounded_model.specs.declared.history.Event.{Event}
use Rattle.bounded_model.specs.declared.history.Event.TheVariants.{Hold, Put, Take, TakeAll, Free, Close, Shut}
use Rattle.bounded_model.specs.Machine.{Shape, state, Legal}
use Rattle.bounded_model.specs.Histories.{Later}
use Rattle.bounded_model.specs.Justified.{IsEmpty, IsOpen, IsClosed, IsShut, IsUnshut, IsWorn}
use Rattle.bounded_model.specs.Gathers.{gather, put_of, took_of, hold_of, close_of, shut_of}
use Rattle.bounded_model.proofs.Histories.{no_parts}
use Rattle.bounded_model.proofs.Gathering.{gather-append}

module _ {T : Type 0} (c : Shape) where
  closed_below : (more h : List (Event T)) → IsClosed c h → IsClosed c (more ++ h)
  closed_below [] h k = k
  closed_below (Hold p ∷ more) h k = closed_below more h k
  closed_below (Put p vs n ∷ more) h k = closed_below more h k
  closed_below (Take p v n ∷ more) h k = closed_below more h k
  closed_below (TakeAll p vs n ∷ more) h k = closed_below more h k
  closed_below (Free p j ∷ more) h k = closed_below more h k
  closed_below (Close p ∷ more) h k = refl
  closed_below (Shut p ∷ more) h k = closed_below more h k

  shut_below : (more h : List (Event T)) → IsShut c h → IsShut c (more ++ h)
  shut_below [] h k = k
  shut_below (Hold p ∷ more) h k = shut_below more h k
  shut_below (Put p vs n ∷ more) h k = shut_below more h k
  shut_below (Take p v n ∷ more) h k = shut_below more h k
  shut_below (TakeAll p vs n ∷ more) h k = shut_below more h k
  shut_below (Free p j ∷ more) h k = shut_below more h k
  shut_below (Close p ∷ more) h k = shut_below more h k
  shut_below (Shut p ∷ more) h k = refl

  -- closed once, closed for good; shut once, shut for good
  pub closed_stays : {old new : List (Event T)} → Later old new → IsClosed c old → IsClosed c new
  closed_stays {old} {new} later closed = rw later.is (closed_below later.more old closed)

  pub shut_stays : {old new : List (Event T)} → Later old new → IsShut c old → IsShut c new
  shut_stays {old} {new} later shut = rw later.is (shut_below later.more old shut)

  open_case : (old new : List (Event T)) (b : Bool) → Later old new → (state c old).closed ≡ b → IsOpen c new → IsOpen c old
  open_case old new true later is open' = absurd (true≢false (sym (closed_stays later is) ∙ open'))
  open_case old new false later is open' = is

  unshut_case : (old new : List (Event T)) (b : Bool) → Later old new → (state c old).shut ≡ b → IsUnshut c new → IsUnshut c old
  unshut_case old new true later is unshut = absurd (true≢false (sym (shut_stays later is) ∙ unshut))
  unshut_case old new false later is unshut = is

  -- what is open was always open; what is not shut was never shut
  pub open_before : {old new : List (Event T)} → Later old new → IsOpen c new → IsOpen c old
  open_before {old} {new} later open' = open_case old new (state c old).closed later refl open'

  pub unshut_before : {old new : List (Event T)} → Later old new → IsUnshut c new → IsUnshut c old
  unshut_before {old} {new} later unshut = unshut_case old new (state c old).shut later refl unshut

  -- closed and empty once, empty for good
  done_below : (more h : List (Event T)) → Legal c (more ++ h) → IsEmpty c h → IsClosed c h → IsEmpty c (more ++ h)
  done_below [] h l e k = e
  done_below (Hold p ∷ more) h l e k = done_below more h l.1 e k
  done_below (Put p vs n ∷ more) h l e k = let closed = closed_below more h k in cc (l.0.0, closed)
  done_below (Take p v n ∷ more) h l e k = let b = done_below more h l.1 e k in cc (l.0.1.1, b)
  done_below (TakeAll p vs n ∷ more) h l e k = refl
  done_below (Free p j ∷ more) h l e k = done_below more h l.1 e k
  done_below (Close p ∷ more) h l e k = done_below more h l.1 e k
  done_below (Shut p ∷ more) h l e k = done_below more h l.1 e k

  pub done_stays : {old new : List (Event T)} → Later old new → Legal c new → IsEmpty c old → IsClosed c old → IsEmpty c new
  done_stays {old} {new} later legal empty closed = rw later.is (done_below later.more old (rw later.is at legal) empty closed)

  -- legal as a whole, legal at every earlier time
  legal_below : (more h : List (Event T)) → Legal c (more ++ h) → Legal c h
  legal_below [] h l = l
  legal_below (e ∷ more) h l = legal_below more h l.1

  pub legal_before : {old new : List (Event T)} → Later old new → Legal c new → Legal c old
  legal_before {old} {new} later legal = legal_below later.more old (rw later.is at legal)

  -- with no Close among its events a history is open, with no Shut it is not shut
  pub nobody_closed : (h : List (Event T)) → gather close_of h ≡ [] → IsOpen c h
  nobody_closed [] k = refl
  nobody_closed (Hold p ∷ h) k = nobody_closed h (no_parts (gather close_of h) [] k).0
  nobody_closed (Put p vs n ∷ h) k = nobody_closed h (no_parts (gather close_of h) [] k).0
  nobody_closed (Take p v n ∷ h) k = nobody_closed h (no_parts (gather close_of h) [] k).0
  nobody_closed (TakeAll p vs n ∷ h) k = nobody_closed h (no_parts (gather close_of h) [] k).0
  nobody_closed (Free p j ∷ h) k = nobody_closed h (no_parts (gather close_of h) [] k).0
  nobody_closed (Close p ∷ h) k = let none = (no_parts (gather close_of h) (p ∷ []) k).1 in cc
  nobody_closed (Shut p ∷ h) k = nobody_closed h (no_parts (gather close_of h) [] k).0

  pub nobody_shut : (h : List (Event T)) → gather shut_of h ≡ [] → IsUnshut c h
  nobody_shut [] k = refl
  nobody_shut (Hold p ∷ h) k = nobody_shut h (no_parts (gather shut_of h) [] k).0
  nobody_shut (Put p vs n ∷ h) k = nobody_shut h (no_parts (gather shut_of h) [] k).0
  nobody_shut (Take p v n ∷ h) k = nobody_shut h (no_parts (gather shut_of h) [] k).0
  nobody_shut (TakeAll p vs n ∷ h) k = nobody_shut h (no_parts (gather shut_of h) [] k).0
  nobody_shut (Free p j ∷ h) k = nobody_shut h (no_parts (gather shut_of h) [] k).0
  nobody_shut (Close p ∷ h) k = nobody_shut h (no_parts (gather shut_of h) [] k).0
  nobody_shut (Shut p ∷ h) k = let none = (no_parts (gather shut_of h) (p ∷ []) k).1 in cc

  -- so it was so at no earlier time
  pub never_closed : {old new : List (Event T)} → Later old new → gather close_of new ≡ [] → IsClosed c old → ⊥
  never_closed {old} {new} later none closed = true≢false (sym (closed_stays later closed) ∙ nobody_closed new none)

  pub never_shut : {old new : List (Event T)} → Later old new → gather shut_of new ≡ [] → IsShut c old → ⊥
  never_shut {old} {new} later none shut = true≢false (sym (shut_stays later shut) ∙ nobody_shut new none)

  -- the counter counts the Holds
  pub holds_counted : (h : List (Event T)) → (state c h).holds ≡ length (gather hold_of h)
  holds_counted [] = refl
  holds_counted (Hold p ∷ h) = rw (length-append (gather hold_of h) (p ∷ [])) (omega (arith, holds_counted h))
  holds_counted (Put p vs n ∷ h) = rw append-nil (holds_counted h)
  holds_counted (Take p v n ∷ h) = rw append-nil (holds_counted h)
  holds_counted (TakeAll p vs n ∷ h) = rw append-nil (holds_counted h)
  holds_counted (Free p k ∷ h) = rw append-nil (holds_counted h)
  holds_counted (Close p ∷ h) = rw append-nil (holds_counted h)
  holds_counted (Shut p ∷ h) = rw append-nil (holds_counted h)

  pub holds_grow : {old new : List (Event T)} → Later old new → (state c old).holds ≤ (state c new).holds
  holds_grow {old} {new} later =
      let more = ap length (gather-append hold_of later.more old) ∙ length-append (gather hold_of old) (gather hold_of later.more) in
      let before = holds_counted old in
      let after' = holds_counted (later.more ++ old) in
      rw later.is (omega arith)

  -- worn once, worn for good
  pub worn_stays : {old new : List (Event T)} → Later old new → IsWorn c old → c.limit ≤ 2 * length (gather hold_of new)
  worn_stays {old} {new} later worn = let grow = holds_grow later in let counted = holds_counted new in omega arith

  -- what is closed is put into no more, and what is shut is taken from no more
  pub closed_ends_puts : (more h : List (Event T)) → Legal c (more ++ h) → IsClosed c h → gather put_of more ≡ []
  closed_ends_puts [] h l k = refl
  closed_ends_puts (Hold p ∷ more) h l k = append-nil (gather put_of more) ∙ closed_ends_puts more h l.1 k
  closed_ends_puts (Put p vs n ∷ more) h l k = let closed = closed_below more h k in cc (l.0.0, closed)
  closed_ends_puts (Take p v n ∷ more) h l k = append-nil (gather put_of more) ∙ closed_ends_puts more h l.1 k
  closed_ends_puts (TakeAll p vs n ∷ more) h l k = append-nil (gather put_of more) ∙ closed_ends_puts more h l.1 k
  closed_ends_puts (Free p j ∷ more) h l k = append-nil (gather put_of more) ∙ closed_ends_puts more h l.1 k
  closed_ends_puts (Close p ∷ more) h l k = append-nil (gather put_of more) ∙ closed_ends_puts more h l.1 k
  closed_ends_puts (Shut p ∷ more) h l k = append-nil (gather put_of more) ∙ closed_ends_puts more h l.1 k

  pub shut_ends_takes : (more h : List (Event T)) → Legal c (more ++ h) → IsShut c h → gather took_of more ≡ []
  shut_ends_takes [] h l k = refl
  shut_ends_takes (Hold p ∷ more) h l k = append-nil (gather took_of more) ∙ shut_ends_takes more h l.1 k
  shut_ends_takes (Put p vs n ∷ more) h l k = append-nil (gather took_of more) ∙ shut_ends_takes more h l.1 k
  shut_ends_takes (Take p v n ∷ more) h l k = let shut = shut_below more h k in cc (l.0.0, shut)
  shut_ends_takes (TakeAll p vs n ∷ more) h l k = let shut = shut_below more h k in cc (l.0.0, shut)
  shut_ends_takes (Free p j ∷ more) h l k = append-nil (gather took_of more) ∙ shut_ends_takes more h l.1 k
  shut_ends_takes (Close p ∷ more) h l k = append-nil (gather took_of more) ∙ shut_ends_takes more h l.1 k
  shut_ends_takes (Shut p ∷ more) h l k = append-nil (gather took_of more) ∙ shut_ends_takes more h l.1 k

  -- what is open has no Close among its events, so there is at most one
  no_close : (h : List (Event T)) → IsOpen c h → gather close_of h ≡ []
  no_close [] k = refl
  no_close (Hold p ∷ h) k = append-nil (gather close_of h) ∙ no_close h k
  no_close (Put p vs n ∷ h) k = append-nil (gather close_of h) ∙ no_close h k
  no_close (Take p v n ∷ h) k = append-nil (gather close_of h) ∙ no_close h k
  no_close (TakeAll p vs n ∷ h) k = append-nil (gather close_of h) ∙ no_close h k
  no_close (Free p j ∷ h) k = append-nil (gather close_of h) ∙ no_close h k
  no_close (Close p ∷ h) k = absurd (true≢false k)
  no_close (Shut p ∷ h) k = append-nil (gather close_of h) ∙ no_close h k

  pub one_close : (h : List (Event T)) → Legal c h → length (gather close_of h) ≤ 1
  one_close [] l = omega arith
  one_close (Hold p ∷ h) l = rw append-nil (one_close h l.1)
  one_close (Put p vs n ∷ h) l = rw append-nil (one_close h l.1)
  one_close (Take p v n ∷ h) l = rw append-nil (one_close h l.1)
  one_close (TakeAll p vs n ∷ h) l = rw append-nil (one_close h l.1)
  one_close (Free p j ∷ h) l = rw append-nil (one_close h l.1)
  one_close (Close p ∷ h) l = rw (no_close h l.0) (omega arith)
  one_close (Shut p ∷ h) l = rw append-nil (one_close h l.1)

  -- what is not shut has no Shut among its events, so there is at most one
  no_shut : (h : List (Event T)) → IsUnshut c h → gather shut_of h ≡ []
  no_shut [] k = refl
  no_shut (Hold p ∷ h) k = append-nil (gather shut_of h) ∙ no_shut h k
  no_shut (Put p vs n ∷ h) k = append-nil (gather shut_of h) ∙ no_shut h k
  no_shut (Take p v n ∷ h) k = append-nil (gather shut_of h) ∙ no_shut h k
  no_shut (TakeAll p vs n ∷ h) k = append-nil (gather shut_of h) ∙ no_shut h k
  no_shut (Free p j ∷ h) k = append-nil (gather shut_of h) ∙ no_shut h k
  no_shut (Close p ∷ h) k = append-nil (gather shut_of h) ∙ no_shut h k
  no_shut (Shut p ∷ h) k = absurd (true≢false k)

  pub one_shut : (h : List (Event T)) → Legal c h → length (gather shut_of h) ≤ 1
  one_shut [] l = omega arith
  one_shut (Hold p ∷ h) l = rw append-nil (one_shut h l.1)
  one_shut (Put p vs n ∷ h) l = rw append-nil (one_shut h l.1)
  one_shut (Take p v n ∷ h) l = rw append-nil (one_shut h l.1)
  one_shut (TakeAll p vs n ∷ h) l = rw append-nil (one_shut h l.1)
  one_shut (Free p j ∷ h) l = rw append-nil (one_shut h l.1)
  one_shut (Close p ∷ h) l = rw append-nil (one_shut h l.1)
  one_shut (Shut p ∷ h) l = rw (no_shut h l.0) (omega arith)
