-- What a step of an operation leaves.
use Rattle.std.specs.Prelude.{◌≡◌, ℕ, ◌+◌, ◌≤◌, Bool, true, false, List, Option as Slot}
use Rattle.atomic_table.specs.Seated.{TableId}
use Rattle.bounded_model.specs.declared.answers.Stepped.{Stepped}
use Rattle.bounded_model.specs.declared.answers.Stepped.TheVariants.{Again, Done as Done'}
use Rattle.bounded_model.specs.declared.views.PassView.{PassView}
use Rattle.machine.specs.declared.seats.View.{View}
use Rattle.running.specs.Machine.{Names, Machine}
use Rattle.running.specs.Going.{Found, Ended}
use Rattle.running.specs.Passes.{IsAtOn, IsPassOn, Since, WentOn, OneLine, begun_of, pass_in}
use Rattle.running.specs.Since.{HasNew}
use Rattle.running.specs.Code.{Account, FoundBy, MatchNext, Tells}
use Rattle.running.specs.declared.passes.Pass.{Pass}
use Rattle.running.specs.declared.access.Outcome.{Outcome}
use Rattle.running.specs.declared.code.Next.{Next}
use Rattle.running.specs.declared.code.Next.TheVariants.{On, Done}

module _ {T L O : Type 0} {names : Names L O} (m : Machine T L O names) where
  -- the step of the line l came to r
  pub record Made (o : O) (l : L) (me me' : View T L × List (ℕ × Slot T)) (r : Outcome) : Type 0 where
    pub found : ℕ
    pub came : List (ℕ × Slot T)
    pub is : FoundBy m.core (m.core.access l) l r me.1 me'.1 found came
    pub steps : Found m o me.0 me'.0 found came

  module _ {S A : Type 0} (c : Account T L O S A) (id : TableId) where
    -- a pass is in an c.operation that is at s
    pub record Stands (p : Pass T L) (s : S) : Type 0 where
      pub at : IsAtOn m id (c.operation s) p (c.line s) (c.slots s)
      pub knows : c.knows s

    -- The operation o, begun as the pass was `begun`, has stopped with a: its machine has answered too, or is at a line at which the caller
    -- must act
    abbrev pub StopsAt : Bool → O → PassView T → Pass T L → A → Type 0
    StopsAt true o begun q a = IsPassOn m id q × Ended m o q.seat.me.0 begun (c.answer o a)
    StopsAt false o begun q a = IsAtOn m id o q (c.answer o a) (c.rest a) × (begun_of m q ≡ begun)

    abbrev pub Stops : O → PassView T → Pass T L → A → Type 0
    Stops o begun q a = StopsAt (names.is_idle (c.answer o a)) o begun q a

    -- what a step gives
    abbrev pub Gives : Pass T L → S → Pass T L → Next S A → Type 0
    Gives p s q r = MatchNext r
        (λ s'. Stands q s' × (c.operation s' ≡ c.operation s) × WentOn m p q (c.line s) (c.line s'))
        (λ a. Stops (c.operation s) (begun_of m p) q a × OneLine m p q (c.line s) (c.answer (c.operation s) a))

    abbrev pub GivesSingle : Pass T L → S → Stepped (Pass T L × S) (Pass T L) A → Type 0
    GivesSingle p s (Again next) = Gives p s next.0 (On next.1)
    GivesSingle p s (Done' back a) = Gives p s back (Done a)

    -- what some steps of the operation o give
    abbrev pub Ran : O → Pass T L → Pass T L → Next S A → Type 0
    Ran o p q r = MatchNext r
        (λ s'. Stands q s' × (o ≡ c.operation s') × Since m p q)
        (λ a. Stops o (begun_of m p) q a × HasNew names p.seat.me.0 q.seat.me.0)

    abbrev pub RanFor : O → Pass T L → Stepped (Pass T L × S) (Pass T L) A → Type 0
    RanFor o p (Again next) = Ran o p next.0 (On next.1)
    RanFor o p (Done' back a) = Ran o p back (Done a)

-- n steps were to be made: the operation continues after exactly n, or has stopped after at most n
abbrev pub TookFor : {T L S A : Type 0} → ℕ → Pass T L → Stepped (Pass T L × S) (Pass T L) A → Type 0
TookFor n p (Again next) = (pass_in next.0).steps ≡ (pass_in p).steps + n
TookFor n p (Done' back a) = (pass_in back).steps ≤ (pass_in p).steps + n

-- what is told after some steps
abbrev pub TellsFor : {T L S A : Type 0} → (S → A → Type 0) → S → Stepped (Pass T L × S) (Pass T L) A → Type 0
TellsFor Told s (Again next) = Tells Told s (On next.1)
TellsFor Told s (Done' back a) = Told s a
