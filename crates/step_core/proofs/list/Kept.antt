-- Each kind of step of the list keeps what holds between any two steps, from any state where it holds.
use Rattle.std.proofs.Common.{◌≡◌, ℕ, ◌+◌, ◌<◌, ◌≤◌, List, [], ◌∷◌, set, refl, sym, ap, ◌∙◌, subst, ⊎_elim, arith}
use mathlib.Core.Option.{some}
use lib.ListN.{get_elem?}
use Rattle.tagged_index.specs.declared.word.TheConstants.{NULL}
use Rattle.machine.specs.Words.{Tagged, raised, kept, same, store, times, Stands}
use Rattle.machine.specs.OneList.{Later}
use Rattle.step_core.specs.list.Machine.{Memory, At, Line, Idle, LoadTopLink, TakeTop, LinkToTop, GiveBack}
use Rattle.step_core.specs.list.Law.{giving, holds}
use Rattle.step_core.specs.list.Rule.{IsFine, Good, Kept}
use Rattle.machine.proofs.Tests.{at_most_one}
use Rattle.machine.proofs.Sums.{total_set, total_one, total_two, at_set}
use Rattle.machine.proofs.Lists.{times_here, store_here, store_else, leads_frame, leads_from}
use Rattle.machine.proofs.OneList.{read_top_later, read_link_later, ready}

module _ (limit : ℕ) (top : Tagged) (link : ℕ → ℕ) (list : List ℕ) (top' : Tagged) (link' : ℕ → ℕ) (list' : List ℕ) where
  -- what holds of a pass goes on to hold where the others leave alone what it relies on
  fine_later : (l : Line) → Later top link list top' link' list' → ((i : ℕ) → 0 < times i (giving l) → link' i ≡ link i) → IsFine limit top link list l → IsFine limit top' link' list' l
  fine_later (LoadTopLink w) r own f = read_top_later w r f
  fine_later (TakeTop w k) r own f = (read_top_later w r f.0, read_link_later w k r f.0 f.1)
  fine_later (GiveBack i w) r own f = own i (omega (arith, times_here i [])) ∙ f
  fine_later l r own f = tt

-- What one step of one pass may do, which makes it from v to v'
record Moves (limit : ℕ) (m : Memory) (list : List ℕ) (v : At) (m' : Memory) (list' : List ℕ) (v' : At) : Type 0 where
  tag : m.top.tag ≤ m'.top.tag
  limited : m'.top.tag ≤ limit
  stays : m.top.tag ≡ m'.top.tag → (i : ℕ) → 0 < times i list → 0 < times i list'
  links : (i : ℕ) → holds i v ≡ 0 → m'.link i ≡ m.link i
  moved : (i : ℕ) → times i list' + holds i v' ≡ times i list + holds i v

module _ {n limit : ℕ} {m : Memory} {passes : List At} {list : List ℕ} where
  moves_kept : (p : ℕ) (v v' : At) (m' : Memory) (list' : List ℕ) → Good n limit m passes list → get_elem? passes p ≡ some v → Moves limit m list v m' list' v'
      → Stands m'.link m'.top.index list' → IsFine limit m'.top m'.link list' v'.line → Good n limit m' (set passes p v') list'
  moves_kept p v v' m' list' g e moves stands f = record {
    stands = stands;
    once = λ i. omega (arith, g.once i, total_set (holds i) passes p v v' e, moves.moved i);
    tag = moves.limited;
    fine = λ q u at. ⊎_elim
        (λ t. subst (λ (x : At). IsFine limit m'.top m'.link list' x.line) t.1 f)
        (λ t. fine_later limit m.top m.link list m'.top m'.link list' u.line
        (record { tag = moves.tag; stays = moves.stays; links = λ h i there. moves.links i (omega (arith, g.once i, total_one (holds i) passes p v e, at_most_one i n)) })
        (λ i there. moves.links i (omega (arith, g.once i, total_two (holds i) passes p q v u t.0 e t.1, at_most_one i n)))
        (g.fine q u t.1))
        (at_set passes p q v' u at);
  }

  -- a step that changes nothing but its own pass's line
  pub goes_kept : (p : ℕ) (v : At) (line : Line) (hand : List ℕ) → Good n limit m passes list → get_elem? passes p ≡ some v
      → ((i : ℕ) → times i (giving line) + times i hand ≡ holds i v) → IsFine limit m.top m.link list line → Good n limit m (set passes p (record { line = line; hand = hand })) list
  goes_kept p v line hand g e same f = moves_kept p v (record { line = line; hand = hand }) m list g e
      (record { tag = omega arith; limited = g.tag; stays = λ h i there. there; links = λ i h. refl; moved = λ i. omega (arith, same i) }) g.stands f

module _ {n limit : ℕ} {m : Memory} {passes : List At} {list : List ℕ} where
  -- a won take
  pub take_kept : (p : ℕ) (hand : List ℕ) (w : Tagged) (k : ℕ) → Good n limit m passes list → get_elem? passes p ≡ some (record { line = TakeTop w k; hand = hand }) → m.top ≡ w
      → Kept n limit (record m { top = raised w k }) (set passes p (record { line = Idle; hand = (w.index ∷ hand) }))
  take_kept p hand w k g e won =
      let f : IsFine limit m.top m.link list (TakeTop w k) = g.fine p (record { line = TakeTop w k; hand = hand }) e in
      let t : w.tag ≡ m.top.tag = ap (λ (x : Tagged). x.tag) (sym won) in
      let r = ready limit m.top m.link list w k g.stands won f.0 f.1 in
      let below : w.tag < limit = f.0.below in
      record {
        list = r.rest;
        good = moves_kept p (record { line = TakeTop w k; hand = hand }) (record { line = Idle; hand = w.index ∷ hand }) (record m { top = raised w k }) r.rest g e
            (record {
              tag = omega arith;
              limited = omega arith;
              stays = λ h. absurd (omega arith);
              links = λ i h. refl;
              moved = λ i. let q : times i list ≡ times i (w.index ∷ r.rest) = ap (times i) r.is in omega arith;
            })
            r.stands tt;
      }

  -- a won give
  pub give_kept : (p : ℕ) (hand : List ℕ) (i : ℕ) (w : Tagged) → Good n limit m passes list → get_elem? passes p ≡ some (record { line = GiveBack i w; hand = hand }) → m.top ≡ w
      → Good n limit (record m { top = kept w i }) (set passes p (record { line = Idle; hand = hand })) (i ∷ list)
  give_kept p hand i w g e won =
      let f : IsFine limit m.top m.link list (GiveBack i w) = g.fine p (record { line = GiveBack i w; hand = hand }) e in
      let t : w.tag ≡ m.top.tag = ap (λ (x : Tagged). x.tag) (sym won) in
      moves_kept p (record { line = GiveBack i w; hand = hand }) (record { line = Idle; hand = hand }) (record m { top = kept w i }) (i ∷ list) g e
      (record { tag = omega arith; limited = omega (arith, g.tag); stays = λ h j there. omega arith; links = λ j h. refl; moved = λ j. omega arith })
      (refl, leads_from m.link m.top.index (m.link i) list NULL (ap (λ (y : Tagged). y.index) won ∙ sym f) g.stands) tt

  -- a store into a held link
  pub store_kept : (p : ℕ) (hand : List ℕ) (i : ℕ) (w : Tagged) → Good n limit m passes list → get_elem? passes p ≡ some (record { line = LinkToTop i w; hand = hand })
      → Good n limit (record m { link = store m.link i w.index }) (set passes p (record { line = (GiveBack i w); hand = hand })) list
  store_kept p hand i w g e =
      let v : At = record { line = LinkToTop i w; hand = hand } in
      let links : (j : ℕ) → holds j v ≡ 0 → store m.link i w.index j ≡ m.link j =
      λ j h. store_else m.link i w.index j (λ (q : j ≡ i). absurd (let a : times i (i ∷ []) ≡ 0 = omega (arith, ap (λ (m : ℕ). times m (i ∷ [])) q) in omega (arith, times_here i []))) in
      moves_kept p v (record { line = GiveBack i w; hand = hand }) (record m { link = store m.link i w.index }) list g e
      (record { tag = omega arith; limited = g.tag; stays = λ h j there. there; links = links; moved = λ j. refl })
      (leads_frame m.link (store m.link i w.index) list m.top.index NULL (λ j there. links j (omega (arith, g.once j, total_one (holds j) passes p v e, at_most_one j n))) g.stands)
      (store_here m.link i w.index)
