-- Each kind of step of the stack keeps what the slots at home have.
use Rattle.std.proofs.Common.{◌≡◌, ◌⊎◌, inl, inr, ℕ, zero, suc, ◌+◌, ◌<◌, ◌≤◌, List, [], ◌∷◌, ◌++◌, length, refl, sym, ap, ◌∙◌, subst, ⊎_elim, arith}
use Rattle.std.specs.Prelude.{Option as Slot}
use mathlib.Core.Option.{Option, none}
use Rattle.machine.specs.Words.{times}
use Rattle.stack_machine.specs.Machine.{Memory}
use Rattle.machine.specs.Chains.{with_home, away, filled, emptied, HasValues}
use Rattle.stack_machine.specs.Rule.{Lists, Filled}
use Rattle.machine.proofs.Lists.{times_append, not_there}
use Rattle.machine.proofs.Chains.{home_else, away_else, emptied_else, emptied_here, filled_else, filled_values, values_frame}

some_or_none : (k : ℕ) → (0 < k) ⊎ (k ≡ 0)
some_or_none zero = inr refl
some_or_none (suc k) = inl (omega arith)

module _ {T : Type 0} {m : Memory T} {g : Lists} {values : List T} where
  -- a step that leaves the slots alone
  pub same_filled : (m' : Memory T) → m'.home ≡ m.home → Filled T m g values → Filled T m' g values
  same_filled m' same f = record {
    empty = λ i there. (λ j. same j i) ∙ f.empty i there;
    stored = subst (λ (h : ℕ → Option (Slot T)). HasValues h g.stack values) (sym same) f.stored;
  }

  pub hold_filled : (m' : Memory T) (i : ℕ) (rest : List ℕ) → m'.home ≡ with_home m.home i none → g.frees ≡ i ∷ rest → times i rest ≡ 0 → times i g.stack ≡ 0 → Filled T m g values
      → Filled T m' (record { frees = rest; stack = g.stack }) values
  hold_filled m' i rest home is hf hs f = record {
    empty = λ j there. (λ k. home k j) ∙ home_else m.home i none j (not_there i j rest hf there) ∙ f.empty j (omega (arith, ap (times j) is));
    stored = values_frame m.home m'.home g.stack values (λ j there. (λ k. home k j) ∙ home_else m.home i none j (not_there i j g.stack hs there)) f.stored;
  }

  pub give_filled : (m' : Memory T) (chain : List ℕ) → m'.home ≡ emptied m.home chain → ((j : ℕ) → times j chain + times j g.stack ≤ 1) → Filled T m g values
      → Filled T m' (record { frees = chain ++ g.frees; stack = g.stack }) values
  give_filled m' chain home once f = record {
    empty = λ j there. (λ k. home k j) ∙ ⊎_elim
        (λ h. emptied_here m.home chain j h)
        (λ h. emptied_else m.home chain j h ∙ f.empty j (omega (arith, times_append j chain g.frees)))
        (some_or_none (times j chain));
    stored = values_frame m.home m'.home g.stack values (λ j there. (λ k. home k j) ∙ emptied_else m.home chain j (omega (arith, once j))) f.stored;
  }

  pub put_filled : (m' : Memory T) (chain : List ℕ) (vs : List T) → m'.home ≡ filled m.home chain vs → length chain ≡ length vs → ((j : ℕ) → times j g.frees + times j g.stack + times j chain ≤ 1) → Filled T m g values
      → Filled T m' (record { frees = g.frees; stack = chain ++ g.stack }) (vs ++ values)
  put_filled m' chain vs home same once f = record {
    empty = λ j there. (λ k. home k j) ∙ filled_else m.home chain vs j (omega (arith, once j)) ∙ f.empty j there;
    stored = subst (λ (h : ℕ → Option (Slot T)). HasValues h (chain ++ g.stack) (vs ++ values)) (sym home) (filled_values m.home chain vs g.stack values same (λ j. omega (arith, once j)) f.stored);
  }

  pub take_filled : (m' : Memory T) (i : ℕ) (rest : List ℕ) (left : List T) → m'.home ≡ with_home m.home i none → times i g.frees ≡ 0 → times i rest ≡ 0 → HasValues m.home rest left → Filled T m g values
      → Filled T m' (record { frees = g.frees; stack = rest }) left
  take_filled m' i rest left home hf hs vs f = record {
    empty = λ j there. (λ k. home k j) ∙ home_else m.home i none j (not_there i j g.frees hf there) ∙ f.empty j there;
    stored = values_frame m.home m'.home rest left (λ j there. (λ k. home k j) ∙ home_else m.home i none j (not_there i j rest hs there)) vs;
  }

  pub take_all_filled : (m' : Memory T) (chain : List ℕ) → m'.home ≡ away m.home chain → ((j : ℕ) → times j g.frees + times j chain ≤ 1) → Filled T m g values
      → Filled T m' (record { frees = g.frees; stack = [] }) []
  take_all_filled m' chain home once f = record {
    empty = λ j there. (λ k. home k j) ∙ away_else m.home chain j (omega (arith, once j)) ∙ f.empty j there;
    stored = tt;
  }
