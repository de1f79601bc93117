-- Acts with which near misses are played.
use Rattle.std.specs.Prelude.{ℕ, [], ◌∷◌}
use Rattle.machine.specs.Seats.{Acts}
use Rattle.queue_machine.specs.declared.lines.Line.{Line}
use Rattle.queue_machine.specs.declared.lines.Line.TheVariants.{LoadHeadToLook}
use Rattle.running.specs.Acts.{Begins, Steps, Hears}

-- pass 0 steps, and is in no operation
abbrev pub idle_step : Acts (Line ℕ)
idle_step = (0, Steps) ∷ []

-- pass 0 hears what others have done in the middle of its look
abbrev pub hearing_in_a_look : Acts (Line ℕ)
hearing_in_a_look = (0, Hears) ∷ (0, Begins LoadHeadToLook) ∷ []

-- pass 0 looks: three steps, and the answer is that the queue is empty
abbrev pub one_look : Acts (Line ℕ)
one_look = (0, Steps) ∷ (0, Steps) ∷ (0, Steps) ∷ (0, Begins LoadHeadToLook) ∷ []
