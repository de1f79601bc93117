-- What seats have seen keeps the client's rule: after a load, a cut and a union, and of passes, roots and notes between their calls.
use Rattle.std.proofs.Common.{◌≡◌, List, sym, subst}
use Rattle.bounded_model.specs.declared.history.Event.{Event}
use Rattle.machine.specs.declared.seats.View.{View}
use Rattle.machine.specs.declared.seats.View.TheVariants.{AtRoot, AtPass, AtMeeting, AtNote, AtHearing, Left}
use Rattle.machine.specs.Seats.{Acts, at_rest, acts_now, both_of, handed_of, left_of, looked, nothing, pass_of, right_of, root_of, told_of}
use Rattle.running.specs.Machine.{Names, Machine}
use Rattle.running.specs.Rule.{HasTied}

module _ {T L O : Type 0} {names : Names L O} (m : Machine T L O names) where
  -- what a seat has seen after a load keeps the client's rule, as the table's history does
  pub looked_tied : (h : List (Event T)) (acts : Acts L) (v : View T L) → m.rule h → HasTied m v → HasTied m (looked h acts v)
  looked_tied h acts (AtRoot r ks heard l) tied is = tied
  looked_tied h acts (AtPass p begun l) tied is = tied
  looked_tied h acts (AtMeeting p xs k q ys l) tied is = (tied, is.1)
  looked_tied h acts (AtNote told) tied is = is
  looked_tied h acts (AtHearing p xs l told) tied is = (tied, is.1)
  looked_tied h acts Left tied is = is

  -- what is cut off, and what is made one, has seen what was seen before
  pub left_tied : (v : View T L) → HasTied m v → HasTied m (left_of names.shares v)
  left_tied (AtRoot r ks heard l) is = is
  left_tied (AtPass p begun l) is = is
  left_tied (AtMeeting p xs k q ys l) is = is.0
  left_tied (AtNote told) is = is
  left_tied (AtHearing p xs l told) is = is.0
  left_tied Left is = is

  pub right_tied : (v : View T L) → HasTied m v → HasTied m (right_of names.shares v)
  right_tied (AtRoot r ks heard l) is = is
  right_tied (AtPass p begun l) is = is
  right_tied (AtMeeting p xs k q ys l) is = is.1
  right_tied (AtNote told) is = is
  right_tied (AtHearing p xs l told) is = is.1
  right_tied Left is = is

  pub both_tied : (v w : View T L) → HasTied m v → HasTied m w → HasTied m (both_of names.shares v w)
  both_tied (AtRoot r ks heard l) (AtPass p begun k) is too = is
  both_tied (AtPass p begun k) (AtPass q begun' l) is too = (is, too)
  both_tied (AtPass p begun l) (AtNote told) is too = (is, too)
  both_tied v w is too = is

  module _ (v : View T L) (l : L) where
    pub pass_tied : v ≡ at_rest l (pass_of v) (acts_now v) → m.rule (pass_of v).seen → HasTied m v
    pass_tied is tied = subst (HasTied m) (sym is) tied

    pub tied_pass : v ≡ at_rest l (pass_of v) (acts_now v) → HasTied m v → m.rule (pass_of v).seen
    tied_pass is tied = subst (HasTied m) is tied

    pub root_tied : v ≡ AtRoot (root_of v) (acts_now v) nothing l → m.rule (root_of v).seen → HasTied m v
    root_tied is tied = subst (HasTied m) (sym is) tied

    pub tied_root : v ≡ AtRoot (root_of v) (acts_now v) nothing l → HasTied m v → m.rule (root_of v).seen
    tied_root is tied = subst (HasTied m) is tied

  pub note_tied : (v : View T L) → v ≡ AtNote (handed_of v) → m.rule (told_of v) → HasTied m v
  note_tied v is tied = subst (HasTied m) (sym is) tied
