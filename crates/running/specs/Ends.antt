-- What a container at its end stands for: a run of its machine.
use Rattle.std.specs.Prelude.{◌≡◌, ◌⊎◌, ℕ, ◌≤◌, true, List, []}
use Rattle.std.specs.List.{AllByRecursion as Every}
use Rattle.bounded_model.specs.declared.views.RootView.{RootView}
use Rattle.bounded_model.specs.Machine.{state}
use Rattle.bounded_model.specs.Histories.{Later}
use Rattle.bounded_model.specs.Laws.{NoneOut}
use Rattle.machine.specs.Seats.{Acts, Extends, IsJoined}
use Rattle.running.specs.Acts.{Now, IsAllowed, AllProper, AllFresh, HasDone, played}
use Rattle.running.specs.Machine.{Names, Machine}

module _ {T L O : Type 0} {names : Names L O} (m : Machine T L O names) where
  abbrev pub state_at : Acts L → Now names m.core
  state_at acts = played names m.core acts

  -- Some acts of the passes, from a new container on, make the machine's history one that begins with what the root has seen, and is that where no pass
  -- is out; what is left in the container is what that history leaves. The passes that were joined are in no operation, and those that were not given
  -- have made no step. Each joined pass has made as many steps as it counted, and its calls have answered what they answered
  pub record IsRun (r : RootView T) (left : List T) : Type 0 where
    pub acts : Acts L
    pub allowed : Every (λ a. IsAllowed names m.core a.1) acts
    pub begins : Later r.seen (state_at acts).history
    pub whole : NoneOut r → (state_at acts).history ≡ r.seen
    pub values : left ≡ (state m.core.shape (state_at acts).history).values
    pub rests : (x : ℕ) → (r.given ≤ x) ⊎ IsJoined x r.account → names.is_idle ((state_at acts).line x) ≡ true
    pub proper : AllProper names m.core acts
    pub fresh : AllFresh names m.core acts
    pub unmade : (x : ℕ) → r.given ≤ x → HasDone names m.core acts x 0 []
    pub worked : Every (λ w. HasDone names m.core acts w.number w.steps w.answers) r.works

  -- These are acts that come after all that the root knows of them. So the run of each call whose acts the root was handed, by a pass that it joined
  -- or by one that this pass had heard of, is an older part of this run
  pub record IsRunAfter (kept : Acts L) (r : RootView T) (left : List T) : Type 0 where
    pub run : IsRun r left
    pub extends : Extends kept run.acts
