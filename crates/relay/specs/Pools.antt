-- A container as its workers see it.
use Rattle.bounded_model.specs.declared.views.PassView.{PassView}
use Rattle.bounded_model.specs.Machine.{Shape}
use Rattle.relay.specs.declared.messages.Message.{Message}

-- which passes are its own, what each has seen, and its shape
pub record PoolView (P : Type 0) : Type 1 where
  pub is_pass : P → Type 0
  pub view : P → PassView Message
  pub shape : Shape

-- this one of the containers that have these members
abbrev pub pool_of : {S P : Type 0} → (S → P → Type 0) → (P → PassView Message) → (S → Shape) → S → PoolView P
pool_of is_pass view shape c = record { is_pass = is_pass c; view = view; shape = shape c }
