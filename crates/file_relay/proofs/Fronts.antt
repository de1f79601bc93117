-- A front of a text went out.
use Rattle.std.proofs.Common.{◌≡◌, ℕ, Bool, true, false, List, [], ◌++◌, Option, Err, sym, ap, ◌∙◌, append_assoc, append-nil}
use Rattle.std.specs.Io.KnownBytes.{Appends, Keeps}
use Rattle.std.proofs.KnownBytes.{Appends-trans, Appends-kept}
use Rattle.relay.specs.declared.outcome.Relayed.{Relayed}
use Rattle.audit.specs.declared.faults.AuditFault.{AuditFault}
use Rattle.audit.specs.declared.faults.AuditFault.TheVariants.{Write}
use Rattle.audit.specs.Output.{Writes}
use Rattle.audit.specs.Texts.{audit_text, list_text}
use Rattle.file_relay.specs.Outcome.{GrowsByFront, outcome_text}

-- a text whose writing failed, with more behind it
stopped : (text more : List ℕ) (old new : Option (List ℕ)) (fault : AuditFault) → Writes text old new (Err fault) → GrowsByFront (text ++ more) old new
stopped text more old new (Write n) stops = record {
  front = stops.out;
  rest = stops.rest ++ more;
  whole = ap (λ l. l ++ more) stops.front ∙ append_assoc stops.out stops.rest more;
  bytes = stops.sends.bytes;
}

stopped-alone : (text : List ℕ) (old new : Option (List ℕ)) (fault : AuditFault) → Writes text old new (Err fault) → GrowsByFront text old new
stopped-alone text old new (Write n) stops = record { front = stops.out; rest = stops.rest; whole = stops.front; bytes = stops.sends.bytes }

pub audit-stopped : (list : Bool) (relayed : Relayed) (old new : Option (List ℕ)) (fault : AuditFault) → Writes (audit_text relayed) old new (Err fault)
    → GrowsByFront (outcome_text list relayed) old new
audit-stopped true relayed old new fault stops = stopped (audit_text relayed) (list_text relayed) old new fault stops
audit-stopped false relayed old new fault stops = stopped-alone (audit_text relayed) old new fault stops

-- what went out, and then a front
behind : (text more : List ℕ) (old mid new : Option (List ℕ)) → Appends old mid text → GrowsByFront more mid new → GrowsByFront (text ++ more) old new
behind text more old mid new sent front = record {
  front = text ++ front.front;
  rest = front.rest;
  whole = ap (λ l. text ++ l) front.whole ∙ sym (append_assoc text front.front front.rest);
  bytes = Appends-trans old mid new text front.front sent front.bytes;
}

pub list-stopped : (list : Bool) (relayed : Relayed) (old mid new : Option (List ℕ)) (fault : AuditFault) → list ≡ true → Appends old mid (audit_text relayed)
    → Writes (list_text relayed) mid new (Err fault) → GrowsByFront (outcome_text list relayed) old new
list-stopped list relayed old mid new fault is sent stops =
    rw is (behind (audit_text relayed) (list_text relayed) old mid new sent (stopped-alone (list_text relayed) mid new fault stops))

pub went-out : (text : List ℕ) (old mid new : Option (List ℕ)) → Appends old mid text → Keeps mid new → GrowsByFront text old new
went-out text old mid new sent kept = record { front = text; rest = []; whole = sym (append-nil text); bytes = Appends-kept old mid new text sent kept }

pub both-out : (list : Bool) (relayed : Relayed) (old mid new : Option (List ℕ)) → list ≡ true → Appends old mid (audit_text relayed) → Appends mid new (list_text relayed)
    → Appends old new (outcome_text list relayed)
both-out list relayed old mid new is audit more = rw is (Appends-trans old mid new (audit_text relayed) (list_text relayed) audit more)

pub audit-out : (list : Bool) (relayed : Relayed) (old new : Option (List ℕ)) → list ≡ false → Appends old new (audit_text relayed) → Appends old new (outcome_text list relayed)
audit-out list relayed old new is audit = rw is audit
