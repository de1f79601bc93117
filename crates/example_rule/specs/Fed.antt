-- A rule of a client: one pass alone puts, and the value that it puts as number k is f k.
use Rattle.std.specs.Prelude.{◌≡◌, ℕ, ◌+◌, List, [], ◌∷◌}
use Rattle.std.specs.List.{AllByRecursion as Every}
use Rattle.bounded_model.specs.declared.history.Event.{Event}
use Rattle.bounded_model.specs.declared.history.Event.TheVariants.{Put, Take}
use Rattle.bounded_model.specs.declared.views.PassView.{PassView}
use Rattle.bounded_model.specs.Histories.{Among}
use Rattle.bounded_model.specs.Machine.{Legal}
use Rattle.queue_machine.specs.Answers.{shape}
use Rattle.running.specs.Ties.{IsTie, PutDeals, TakeDeals, CloseDeals, changed_by}

-- how many puts there are among these events
abbrev pub count_puts : {T : Type 0} → List (Event T) → ℕ
count_puts [] = 0
count_puts (Put p vs k ∷ h) = 1 + count_puts h
count_puts (e ∷ h) = count_puts h

module _ {T : Type 0} (boss : ℕ) (f : ℕ → T) where
  -- an event that is no put may be any
  abbrev pub IsFed : Event T → Type 0
  IsFed (Put p vs k) = (p ≡ boss) × (vs ≡ f k ∷ [])
  IsFed e = Unit {0}

  abbrev pub Fed : List (Event T) → Type 0
  Fed h = Every IsFed h

  -- It is a rule. In a queue each take and each close keeps it, and the boss's put keeps it by the value of its number, which the boss knows
  -- because it has counted its own puts. Then a take of number k gives f k, whoever makes it
  pub record Feeds (n limit : ℕ) : Type 0 where
    pub tie : IsTie Fed
    pub put : (p : PassView T) (x : T) → p.number ≡ boss → x ≡ f (count_puts (changed_by boss p.seen)) → PutDeals (shape n limit) Fed p x
    pub take : (p : PassView T) → TakeDeals (shape n limit) Fed p
    pub close : (p : PassView T) → CloseDeals (shape n limit) Fed p
    pub taken : (h : List (Event T)) → Legal (shape n limit) h → Fed h → (p : ℕ) (x : T) (k : ℕ) → Among (Take p x k) h → x ≡ f k
