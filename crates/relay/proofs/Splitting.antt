-- A new pass of a root that has seen nothing.
use Rattle.std.proofs.Common.{[], ◌≡◌, ℕ, ◌+◌, ap, sym, ◌∙◌, arith}
use Rattle.bounded_model.specs.declared.views.PassView.{PassView}
use Rattle.bounded_model.specs.declared.views.RootView.{RootView}
use Rattle.bounded_model.specs.Laws.{Splits}
use Rattle.bounded_model.specs.Machine.{Shape}
use Rattle.relay.specs.declared.messages.Message.{Message}
use Rattle.relay.specs.Passes.{gave, new_pass}

module _ {c : Shape} {r s : RootView Message} {v : PassView Message} where
  pub gave_more_from : (first n m : ℕ) → r ≡ gave (first + n) → m ≡ n + 1 → Splits c r s v → s ≡ gave (first + m)
  gave_more_from first n m e len split =
      let sum : first + n + 1 ≡ first + m = omega (arith, len) in
      split.root ∙ (ap (λ (t : RootView Message). record t { given = t.given + 1 }) e ∙ ap gave sum)

  pub gave_more : {n m : ℕ} → r ≡ gave n → m ≡ n + 1 → Splits c r s v → s ≡ gave m
  gave_more {n} {m} e len split = split.root ∙ (ap (λ (t : RootView Message). record t { given = t.given + 1 }) e ∙ ap gave (sym len))

  pub pass_of_split : {n : ℕ} → r ≡ gave n → Splits c r s v → v ≡ new_pass n
  pass_of_split {n} e split = split.pass ∙ ap (λ (t : RootView Message). record { number = t.given; seen = t.seen; steps = 0; answers = [] }) e
