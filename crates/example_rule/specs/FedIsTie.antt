-- That the rule `Fed` is one. The proof stands here because the code of the tie cites it.
use Rattle.std.proofs.Common.{◌≡◌, ℕ, false, List, ◌∷◌, sym}
use Rattle.std.proofs.lemmas.Bool.{false≢true}
use Rattle.bounded_model.specs.Alone.{changes}
use Rattle.bounded_model.specs.declared.history.Event.{Event}
use Rattle.bounded_model.specs.declared.history.Event.TheVariants.{Put}
use Rattle.running.specs.Ties.{IsTie}
use Rattle.example_rule.specs.Fed.{Fed}
use Rattle.example_rule.specs.Frames.{boss as producer, feed, frame_of}

module _ {T : Type 0} (boss : ℕ) (f : ℕ → T) where
  -- no move of hands is a put
  moves : (h : List (Event T)) (e : Event T) → changes e ≡ false → Fed boss f h → Fed boss f (e ∷ h)
  moves h (Put p vs k) still fed = absurd (false≢true (sym still))
  moves h e still fed = (tt, fed)

  pub fed_is_tie : IsTie (Fed boss f)
  fed_is_tie = record { first = tt; hands = moves }

pub feed_is_tie : IsTie feed
feed_is_tie = fed_is_tie producer frame_of
