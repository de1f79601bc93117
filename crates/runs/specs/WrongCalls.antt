-- Calls that are nearly in one order, and courses in which a call nearly has its point.
use Rattle.std.specs.Prelude.{ℕ, List, [], ◌∷◌}
use mathlib.Core.Option.{some}
use Rattle.bounded_model.specs.declared.history.Event.{Event}
use Rattle.bounded_model.specs.declared.history.Event.TheVariants.{Put}
use Rattle.bounded_model.specs.declared.views.PassView.{PassView}
use Rattle.step_core.specs.Linearizable.{Operation, Entry, Invokes, Responds, Reads}
use Rattle.runs.specs.InTime.{Changes, KnownCall}

-- pass 0, which has seen this history
abbrev pub having_seen : List (Event ℕ) → PassView ℕ
having_seen h = record { number = 0; seen = h; steps = 0; answers = [] }

-- its two puts, of 7 and then of 8
abbrev pub first_put : Event ℕ
first_put = Put 0 (7 ∷ []) 0

abbrev pub second_put : Event ℕ
second_put = Put 0 (8 ∷ []) 1

abbrev pub first_call : KnownCall ℕ
first_call = record { before = having_seen []; after = having_seen (first_put ∷ []); effect = Changes first_put }

abbrev pub second_call : KnownCall ℕ
second_call = record { before = having_seen (first_put ∷ []); after = having_seen (second_put ∷ first_put ∷ []); effect = Changes second_put }

-- a call whose event had happened before it began
abbrev pub late_call : KnownCall ℕ
late_call = record { before = having_seen (first_put ∷ []); after = having_seen (first_put ∷ []); effect = Changes first_put }

-- the operation of pass 0 with call 7 and answer 8, which reads the object; its point is before its invocation, or after its response
abbrev pub reading : Operation ℕ ℕ
reading = record { by = 0; call = 7; answer = 8 }

abbrev pub early_point : List (Entry ℕ ℕ ℕ)
early_point = Responds 0 (some 8) ∷ Invokes 0 7 ∷ Reads reading ∷ []

abbrev pub late_point : List (Entry ℕ ℕ ℕ)
late_point = Reads reading ∷ Responds 0 (some 8) ∷ Invokes 0 7 ∷ []
