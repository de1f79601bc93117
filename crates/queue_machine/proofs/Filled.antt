-- Each kind of step of the queue keeps its values: in the cells of the chain, and in no free cell.
use Rattle.std.proofs.Common.{◌≡◌, ℕ, ◌<◌, List, [], ◌∷◌, ◌++◌, sym, ap, ◌∙◌, subst, ⊎_elim, Option as Slot, Some, None, arith}
use Rattle.std.proofs.lemmas.Bool.Decides.{eqb_tells}
use mathlib.Core.Option.{Option, none, some}
use Rattle.machine.specs.Words.{times}
use Rattle.machine.specs.Chains.{with_home, HasValues}
use Rattle.machine.proofs.Lists.{times_else, not_there}
use Rattle.machine.proofs.Chains.{home_here, home_else, values_frame}
use Rattle.queue_machine.specs.Machine.{Memory}
use Rattle.queue_machine.specs.Rule.{Lists, Filled}

module _ {T : Type 0} where
  -- a value more, in a cell more
  values_more : (home : ℕ → Option (Slot T)) (is : List ℕ) (vs : List T) (i : ℕ) (v : T) → HasValues home is vs → home i ≡ some (Some v) → HasValues home (is ++ (i ∷ [])) (vs ++ (v ∷ []))
  values_more home [] [] i v x here = (here, tt)
  values_more home (j ∷ js) (u ∷ us) i v x here = (x.0, values_more home js us i v x.1 here)
  values_more home [] (u ∷ us) i v x here = absurd x
  values_more home (j ∷ js) [] i v x here = absurd x

  module _ {m : Memory T} {g : Lists} {values : List T} (x : Filled T m g values) where
    pub same_filled : (m' : Memory T) (g' : Lists) → m'.home ≡ m.home → g'.cells ≡ g.cells → g'.queued ≡ g.queued → Filled T m' g' values
    same_filled m' g' home cells queued = record {
      empty = λ i there. ap (λ (h : ℕ → Option (Slot T)). h i) home ∙ x.empty i (omega (arith, there, ap (times i) cells));
      stored = subst (λ (is : List ℕ). HasValues m'.home is values) (sym queued) (subst (λ (h : ℕ → Option (Slot T)). HasValues h g.queued values) (sym home) x.stored);
    }

    -- a cell of the free list leaves home
    pub hold_filled : (m' : Memory T) (g' : Lists) (i : ℕ) (rest : List ℕ) → m'.home ≡ with_home m.home i none → g'.cells ≡ rest → g'.queued ≡ g.queued → g.cells ≡ i ∷ rest → times i rest ≡ 0 → times i g.queued ≡ 0 → Filled T m' g' values
    hold_filled m' g' i rest home cells queued is out out' = record {
      empty = λ j there.
          let mine : 0 < times j rest = omega (arith, ap (times j) cells) in
          ap (λ (h : ℕ → Option (Slot T)). h j) home ∙ home_else m.home i none j (not_there i j rest out mine) ∙ x.empty j (omega (arith, ap (times j) is));
      stored = subst (λ (is : List ℕ). HasValues m'.home is values) (sym queued)
          (values_frame m.home m'.home g.queued values (λ j there. ap (λ (h : ℕ → Option (Slot T)). h j) home ∙ home_else m.home i none j (not_there i j g.queued out' there)) x.stored);
    }

    -- an empty cell comes home to the free list
    pub free_filled : (m' : Memory T) (g' : Lists) (i : ℕ) → m'.home ≡ with_home m.home i (some None) → g'.cells ≡ i ∷ g.cells → g'.queued ≡ g.queued → times i g.queued ≡ 0 → Filled T m' g' values
    free_filled m' g' i home cells queued out = record {
      empty = λ j there. ap (λ (h : ℕ → Option (Slot T)). h j) home ∙ ⊎_elim
          (λ t. subst (λ (k : ℕ). with_home m.home i (some None) k ≡ some None) (sym t.1) (home_here m.home i (some None)))
          (λ t. home_else m.home i (some None) j t.1 ∙ x.empty j (omega (arith, there, ap (times j) cells, times_else j i g.cells t.1)))
          (eqb_tells j i);
      stored = subst (λ (is : List ℕ). HasValues m'.home is values) (sym queued)
          (values_frame m.home m'.home g.queued values (λ j there. ap (λ (h : ℕ → Option (Slot T)). h j) home ∙ home_else m.home i (some None) j (not_there i j g.queued out there)) x.stored);
    }

    -- a cell comes home with a value, behind the others
    pub link_filled : (m' : Memory T) (g' : Lists) (i : ℕ) (v : T) → m'.home ≡ with_home m.home i (some (Some v)) → g'.cells ≡ g.cells → g'.queued ≡ g.queued ++ (i ∷ []) → times i g.cells ≡ 0 → times i g.queued ≡ 0 → Filled T m' g' (values ++ (v ∷ []))
    link_filled m' g' i v home cells queued out out' = record {
      empty = λ j there.
          let mine : 0 < times j g.cells = omega (arith, there, ap (times j) cells) in
          ap (λ (h : ℕ → Option (Slot T)). h j) home ∙ home_else m.home i (some (Some v)) j (not_there i j g.cells out mine) ∙ x.empty j mine;
      stored = subst (λ (is : List ℕ). HasValues m'.home is (values ++ (v ∷ []))) (sym queued)
          (values_more m'.home g.queued values i v
          (values_frame m.home m'.home g.queued values (λ j there. ap (λ (h : ℕ → Option (Slot T)). h j) home ∙ home_else m.home i (some (Some v)) j (not_there i j g.queued out' there)) x.stored)
          (ap (λ (h : ℕ → Option (Slot T)). h i) home ∙ home_here m.home i (some (Some v))));
    }

    -- the first cell of the chain leaves home, with its value
    pub take_filled : (m' : Memory T) (g' : Lists) (i : ℕ) (rest : List ℕ) (left : List T) → m'.home ≡ with_home m.home i none → g'.cells ≡ g.cells → g'.queued ≡ rest → HasValues m.home rest left → times i g.cells ≡ 0 → times i rest ≡ 0 → Filled T m' g' left
    take_filled m' g' i rest left home cells queued stored out out' = record {
      empty = λ j there.
          let mine : 0 < times j g.cells = omega (arith, there, ap (times j) cells) in
          ap (λ (h : ℕ → Option (Slot T)). h j) home ∙ home_else m.home i none j (not_there i j g.cells out mine) ∙ x.empty j mine;
      stored = subst (λ (is : List ℕ). HasValues m'.home is left) (sym queued)
          (values_frame m.home m'.home rest left (λ j there. ap (λ (h : ℕ → Option (Slot T)). h j) home ∙ home_else m.home i none j (not_there i j rest out' there)) stored);
    }
