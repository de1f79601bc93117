-- Where a step of giving back leads.
use Rattle.std.proofs.Common.{◌≡◌, ℕ, ◌<◌, false, List, [], ◌∷◌, refl, sym, ap, ◌∙◌, subst}
use Rattle.std.specs.Prelude.{Option as Slot}
use mathlib.Core.Option.{some}
use Rattle.index_list.specs.Kinds.{Kind}
use Rattle.stack_table.specs.Lists.{list_step}
use Rattle.running.specs.Code.{left}
use Rattle.treiber_stack.specs.Prelude.{Account, AtStep, Done as NextDone, Event, Finding, Giving, Going, Leads, Line, MatchNext, Next, NextLost}
use Rattle.treiber_stack.specs.Prelude.{On as NextOn, Operation, Outcome, Pass, begun_in, ends, finding, is_idle, lists, names, next, vacant}
use Rattle.treiber_stack.specs.declared.code.giving.Chain.{Chain}
use Rattle.treiber_stack.specs.declared.code.giving.Give.{Give}
use Rattle.treiber_stack.specs.declared.code.giving.Give.TheVariants.{Load, Link, Exchange}
use Rattle.treiber_stack.specs.Calls.{StackWith, room_of, limit_of, machine_of, machine_with, begun_with}
use Rattle.treiber_stack.specs.code.Steps.{IsAtWith, GaveTo}
use Rattle.treiber_stack.specs.code.Giving.{AreNodes, give_line}

module _ {T : Type 0} where
  -- a pass at a line makes its step on a list
  pub ready_step : (rule : List (Event T) → Type 0) {D : Type 0} (c : StackWith T D) (o : Operation T) (p : Pass T (Line T)) (l : Line T) (slots : List (ℕ × Slot T)) (list : ℕ) (kind : Kind) → IsAtWith rule c o p l slots → list_step l ≡ some (list, kind) → AtStep (machine_with rule c) lists o p.seat.me.0 list kind
  ready_step rule c o p l slots list kind at e = record { begun = begun_with rule c p; line = l; going = at.at.going; step = e }

  pub busy_giving : (giving : Giving T) (at : Give) → is_idle (give_line giving at) ≡ false
  busy_giving giving Load = refl
  busy_giving giving (Link w) = refl
  busy_giving giving (Exchange w) = refl

-- a give inside an operation leads on as the operation's
abbrev pub within : {S A : Type 0} → (Give → S) → A → Next Give (Unit {0}) → Next S A
within inside a (NextOn at) = NextOn (inside at)
within inside a (NextLost at) = NextLost (inside at)
within inside a (NextDone x) = NextDone a

module _ {T S A : Type 0} {D : Type 0} (c : StackWith T D) (y : Account T (Line T) (Operation T) S A) (giving : Giving T) (inside : Give → S) (a : A) (s : S)
    (same : (at : Give) → y.operation (inside at) ≡ y.operation s) (is : (at : Give) → give_line giving at ≡ y.line (inside at)) (hand : (at : Give) → vacant giving.chain ≡ y.slots (inside at)) (knows : (at : Give) → y.knows (inside at)) (answers : ends giving.answer ≡ y.answer (y.operation s) a)
    (at : Give) (r : Outcome) (has : List (ℕ × Slot T)) where
  abbrev led : ℕ → List (ℕ × Slot T) → Line T
  led found came = next (room_of c) (limit_of c) (give_line giving at) found came

  abbrev GaveSo : Next Give (Unit {0}) → ℕ → List (ℕ × Slot T) → Type 0
  GaveSo to found came = MatchNext to (λ at'. (led found came ≡ give_line giving at') × (has ≡ vacant giving.chain)) (λ done. (led found came ≡ ends giving.answer) × (has ≡ []))

  abbrev LeadsSo : Next Give (Unit {0}) → ℕ → List (ℕ × Slot T) → Type 0
  LeadsSo to found came = Leads names y s (led found came) has (within inside a to)

  follows : (to : Next Give (Unit {0})) (found : ℕ) (came : List (ℕ × Slot T)) → GaveSo to found came → LeadsSo to found came
  follows (NextOn at') found came e = record { same = same at'; is = e.0 ∙ is at'; busy = subst (λ (l : Line T). is_idle l ≡ false) (is at') (busy_giving giving at'); hand = e.1 ∙ hand at'; knows = knows at' }
  follows (NextLost at') found came e = record { same = same at'; is = e.0 ∙ is at'; busy = subst (λ (l : Line T). is_idle l ≡ false) (is at') (busy_giving giving at'); hand = e.1 ∙ hand at'; knows = knows at' }
  follows (NextDone x) found came e = record { is = e.0 ∙ answers; hand = e.1 ∙ ap (λ (l : Line T). left (is_idle l) (y.rest a)) answers }

  pub gave_within : (to : Next Give (Unit {0})) → GaveTo c giving at r has to → Finding (machine_of c).core (give_line giving at) r (vacant giving.chain) has (LeadsSo to)
  gave_within to so = finding (machine_of c).core (give_line giving at) r (vacant giving.chain) has (GaveSo to) (LeadsSo to) (follows to) ((machine_of c).core.access (give_line giving at)) so

-- a chain of one node
pub one_node : (n i : ℕ) (nodes : Chain) → nodes ≡ record { first = i; last = i } → i < n → AreNodes n (i ∷ []) nodes
one_node n i nodes e low = record {
  begins = sym (ap (λ (x : Chain). x.first) e);
  ends = sym (ap (λ (x : Chain). x.last) e);
  first_low = subst (λ (k : ℕ). k < n) (sym (ap (λ (x : Chain). x.first) e)) low;
  last_low = subst (λ (k : ℕ). k < n) (sym (ap (λ (x : Chain). x.last) e)) low;
}

-- a slot in hand has another value: the pass is where it was
pub moved : {T : Type 0} (rule : List (Event T) → Type 0) {D : Type 0} (c : StackWith T D) (o : Operation T) (p q : Pass T (Line T)) (l : Line T) (had has : List (ℕ × Slot T)) → IsAtWith rule c o p l had → q.seat.table_id ≡ p.seat.table_id → q.seat.me ≡ (p.seat.me.0, has) → IsAtWith rule c o q l has × (begun_with rule c q ≡ begun_with rule c p)
moved rule c o p q l had has at table me =
    let view : q.seat.me.0 ≡ p.seat.me.0 = ap (λ x. x.0) me in (
      record {
        table = table ∙ at.table;
        at = record {
          has = ap (λ x. x.1) me;
          going = subst (λ v. Going (machine_with rule c) o v (begun_in (machine_with rule c) v) l) (sym view) at.at.going;
        };
      },
      ap (begun_in (machine_with rule c)) view,
    )
