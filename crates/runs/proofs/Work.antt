-- What the joined passes have done together is what their acts pay for.
use Rattle.std.proofs.Common.{◌≡◌, inl, inr, ℕ, ◌+◌, ◌<◌, ◌≤◌, ◌⊎◌, cond, Bool, true, List, [], ◌∷◌, length, map, refl, sym, ap, ◌∙◌, subst, arith}
use Rattle.std.specs.List.{AllByRecursion as Every}
use mathlib.Core.Option.{some}
use lib.ListN.{get_elem?}
use Rattle.bounded_model.specs.declared.history.Event.{Event}
use Rattle.bounded_model.specs.declared.views.Answered.{Answered}
use Rattle.bounded_model.specs.declared.views.Answered.TheVariants.{Heard}
use Rattle.bounded_model.specs.declared.views.RootView.{RootView}
use Rattle.bounded_model.specs.declared.views.Work.{Work}
use Rattle.bounded_model.specs.Histories.{Among}
use Rattle.bounded_model.specs.Laws.{IsSound, NoneOut}
use Rattle.machine.specs.Seats.{Acts, IsJoined}
use Rattle.machine.specs.Words.{total}
use Rattle.machine.specs.Schedule.{Machine as Pure, Pass, run, start}
use Rattle.machine.specs.Progress.{steps_made, calls_cost}
use Rattle.machine.proofs.Sums.{total_map}
use Rattle.running.specs.Machine.{Names, Machine}
use Rattle.running.specs.Acts.{Doing, Begins, Steps, Looks, Hears, counted, is_step, sum_of, made, played, HasDone, IsAllowed, AllFresh}
use Rattle.running.specs.Ends.{IsRun}
use Rattle.runs.specs.Runs.{Below, schedule_of, IsRunning}
use Rattle.runs.specs.Work.{total_steps, total_fees, in_all, is_look, is_hear, pays, IsPaid}
use Rattle.runs.proofs.Sums.{total_plus, total_most, total_below, total_length, total_alike, by_pass, only_below}
use Rattle.runs.proofs.Costs.{priced, open_at, calls, answered, balanced, all_steps, all_costs, covered, nothing_due}

module _ {T L O C : Type 0} {names : Names L O} (m : Machine T L O names) (x : Pure m.core.Memory L C (Event T)) (call_at : L → C) (is : IsRunning m x call_at) (fresh : (p : ℕ) → names.is_idle (m.core.rest p) ≡ true) where
  module _ (r : RootView T) (left : List T) (ran : IsRun m r left) (sound : IsSound m.core.shape r) (nobody : NoneOut r) where
    abbrev acts : Acts L
    acts = ran.acts

    abbrev IsHome : ℕ → Type 0
    IsHome p = (r.given ≤ p) ⊎ IsJoined p r.account

    -- whoever is home is in no operation
    answers_home : (p : ℕ) → IsHome p → calls m x call_at is p acts ≡ length (answered m x call_at is p acts)
    answers_home p home =
        let rests : open_at m x call_at is ((played names m.core acts).line p) ≡ 0 = ap (λ (b : Bool). cond b 0 1) (ran.rests p home) in
        omega (arith, balanced m x call_at is fresh p acts ran.allowed ran.proper, rests)

    pub below : Below r.given acts
    below = only_below r.given acts (λ p above.
        let done = ran.unmade p above in
        omega (arith, done.steps_are, ap (λ (said : List (Answered T)). length said) done.answers_are, answers_home p (inl above)))

    by_work : (f : Doing L → ℕ) → total (λ (w : Work T). sum_of f w.number acts) r.works ≡ in_all f acts
    by_work f = sym (total_map (λ (p : ℕ). sum_of f p acts) (λ (w : Work T). w.number) r.works)
        ∙ ap (total (λ (p : ℕ). sum_of f p acts)) sound.works
        ∙ total_map (λ (p : ℕ). sum_of f p acts) (λ (a : ℕ × List (Event T)). a.0) r.account
        ∙ by_pass f r.given [] r.account sound.apart sound.given (omega (arith, nobody)) acts below

    each_steps : (ws : List (Work T)) → Every (λ w. HasDone names m.core acts w.number w.steps w.answers) ws → Every (λ (w : Work T). w.steps ≡ made w.number acts) ws
    each_steps [] done = tt
    each_steps (w ∷ ws) done = (done.0.steps_are, each_steps ws done.1)

    steps_are : total_steps r.works ≡ in_all counted acts
    steps_are = total_alike (λ (w : Work T). w.steps) (λ (w : Work T). made w.number acts) r.works (each_steps r.works ran.worked) ∙ by_work counted

    abbrev others : Doing L → ℕ
    others d = is_look d + is_hear d

    kinds : (d : Doing L) → counted d ≡ is_step d + others d
    kinds (Begins first) = refl
    kinds Steps = refl
    kinds Looks = refl
    kinds Hears = refl

    module _ (cost : C → ℕ) (fee : Answered T → ℕ) (some_fee : 0 < fee Heard)
        (worth : (older : Acts L) → Below r.given older → Every (λ a. IsAllowed names m.core a.1) older → AllFresh names m.core older → (p : ℕ) (v : Pass L C (Event T)) (call : C) → get_elem? (run x (schedule_of call_at older) (start x r.given)).passes p ≡ some v → v.call ≡ some call → x.is_idle v.line ≡ true → cost call ≤ fee (m.core.reply v.line))
        (paid : steps_made x (schedule_of call_at acts) (start x r.given) ≤ calls_cost x cost (schedule_of call_at acts) (start x r.given)) where
      abbrev price_at : L → ℕ
      price_at l = cost (call_at l)

      one_fee : (w : Work T) → IsJoined w.number r.account → HasDone names m.core acts w.number w.steps w.answers → sum_of (priced price_at) w.number acts + sum_of is_hear w.number acts ≤ total fee w.answers
      one_fee w joined done = omega (
        arith,
        covered m x call_at is r.given cost fee some_fee worth w.number acts below ran.allowed ran.fresh ran.proper,
        nothing_due m x call_at is r.given cost fee some_fee worth w.number acts below ran.allowed (ran.rests w.number (inr joined)),
        ap (λ (said : List (Answered T)). total fee said) done.answers_are,
      )

      each_fee : (ws : List (Work T)) → ((p : ℕ) → Among p (map (λ (w : Work T). w.number) ws) → IsJoined p r.account) → Every (λ w. HasDone names m.core acts w.number w.steps w.answers) ws
          → Every (λ (w : Work T). sum_of (priced price_at) w.number acts + sum_of is_hear w.number acts ≤ total fee w.answers) ws
      each_fee [] joined done = tt
      each_fee (w ∷ ws) joined done = (one_fee w (joined w.number (inl refl)) done.0, each_fee ws (λ p among. joined p (inr among)) done.1)

      fees_cover : in_all (priced price_at) acts + in_all is_hear acts ≤ total_fees fee r.works
      fees_cover =
          let each = each_fee r.works (λ p among. subst (Among p) sound.works among) ran.worked in
          let sum = total_plus (λ (w : Work T). sum_of (priced price_at) w.number acts) (λ (w : Work T). sum_of is_hear w.number acts) (λ (w : Work T). sum_of (priced price_at) w.number acts + sum_of is_hear w.number acts) (λ w. refl) r.works in
          omega (
            arith,
            sum,
            by_work (priced price_at),
            by_work is_hear,
            total_below (λ (w : Work T). sum_of (priced price_at) w.number acts + sum_of is_hear w.number acts) (λ (w : Work T). total fee w.answers) r.works each,
          )

      pays_is : (d : Doing L) → pays price_at d ≡ priced price_at d + others d
      pays_is (Begins first) = omega arith
      pays_is Steps = refl
      pays_is Looks = refl
      pays_is Hears = refl

      steps_paid : total_steps r.works ≤ in_all (priced price_at) acts + (in_all is_look acts + in_all is_hear acts)
      steps_paid =
          let sum = total_plus (λ (a : ℕ × Doing L). is_step a.1) (λ (a : ℕ × Doing L). others a.1) (λ (a : ℕ × Doing L). counted a.1) (λ a. kinds a.1) acts in
          let apart = total_plus (λ (a : ℕ × Doing L). is_look a.1) (λ (a : ℕ × Doing L). is_hear a.1) (λ (a : ℕ × Doing L). others a.1) (λ a. refl) acts in
          omega (
            arith,
            steps_are,
            all_steps m x call_at is r.given acts below ran.allowed ran.proper,
            all_costs m x call_at is cost r.given acts below ran.allowed ran.proper,
            sum,
            apart,
            paid,
          )

      pub is_paid : (most : ℕ) → ((a : Answered T) → fee a ≤ most) → IsPaid acts r.works price_at fee most
      is_paid most small =
          let apart = total_plus (λ (a : ℕ × Doing L). is_look a.1) (λ (a : ℕ × Doing L). is_hear a.1) (λ (a : ℕ × Doing L). others a.1) (λ a. refl) acts in
          let pay = total_plus (λ (a : ℕ × Doing L). priced price_at a.1) (λ (a : ℕ × Doing L). others a.1) (λ (a : ℕ × Doing L). pays price_at a.1) (λ a. pays_is a.1) acts in
          let fees_small = total_most (λ (w : Work T). total fee w.answers) (λ (w : Work T). length w.answers) most (λ w. total_length fee most small w.answers) r.works in
          record {
            prices = omega (arith, steps_paid, apart, pay);
            fees = omega (arith, steps_paid, fees_cover);
            answers = omega (arith, steps_paid, fees_cover, fees_small);
          }
