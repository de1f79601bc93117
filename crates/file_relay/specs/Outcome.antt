-- What is written of a relay's outcome.
use Rattle.std.specs.Prelude.{◌≡◌, ℕ, Bool, true, false, List, ◌++◌, Option}
use Rattle.std.specs.Io.KnownBytes.{Appends}
use Rattle.relay.specs.declared.outcome.Relayed.{Relayed}
use Rattle.audit.specs.Texts.{audit_text, list_text}

-- the audit, and then the list if it is wanted
abbrev pub outcome_text : Bool → Relayed → List ℕ
outcome_text true relayed = audit_text relayed ++ list_text relayed
outcome_text false relayed = audit_text relayed

-- known bytes grow by a front of this text
pub record GrowsByFront (text : List ℕ) (old new : Option (List ℕ)) : Type 0 where
  pub front : List ℕ
  pub rest : List ℕ
  pub whole : text ≡ front ++ rest
  pub bytes : Appends old new front
