-- What the arguments ask for, and whether details of it go to standard error.
use Rattle.std.proofs.Common.{◌≡◌, ℕ, List, Result, Ok, Err, inl, inr, subst}
use Rattle.std.specs.Prelude.{IfOk}
use Rattle.words.specs.declared.chosen.Chosen.{Chosen}
use Rattle.words.specs.declared.chosen.Chosen.TheVariants.{Replay, Traced, Relay, Measured}
use Rattle.words.specs.Ranges.{AskForDetails, IsAskedFor, IsDetailed}

asked : (words : List (List ℕ)) (chosen : Chosen) → IsAskedFor words chosen → IsDetailed chosen → AskForDetails words
asked words (Replay file) is detailed = absurd detailed
asked words (Traced file) is detailed = inl is
asked words (Relay args files) is detailed = absurd detailed
asked words (Measured args files) is detailed = inr is

-- details are asked for where they are chosen
pub details_asked : {E : Type 0} (chosen : Result Chosen E) (seen words : List (List ℕ)) → seen ≡ words → IfOk chosen (IsAskedFor seen) → IfOk chosen (λ it. IsDetailed it → AskForDetails words)
details_asked (Ok it) seen words same is = asked words it (subst (λ (all : List (List ℕ)). IsAskedFor all it) same is)
details_asked (Err why) seen words same is = is
