-- Each kind of step of the stack keeps both lists, the hands, and what passes have read.
use Rattle.std.proofs.Common.{◌≡◌, ℕ, ◌+◌, ◌<◌, ◌≤◌, List, [], ◌∷◌, ◌++◌, reverse, set, refl, sym, ap, ◌∙◌, subst, ⊎_elim, arith}
use mathlib.Core.Option.{some}
use lib.ListN.{get_elem?}
use Rattle.tagged_index.specs.declared.word.TheConstants.{NULL}
use Rattle.bounded_model.specs.Machine.{without_first}
use Rattle.machine.specs.Words.{Tagged, raised, kept, store, times, Stands}
use Rattle.machine.specs.OneList.{Later}
use Rattle.stack_machine.specs.declared.lines.Putting.{Putting}
use Rattle.stack_machine.specs.declared.lines.Line.{Line}
use Rattle.stack_machine.specs.declared.lines.Line.TheVariants.{LoadFree, LoadFreeLink, TakeFree, LinkTaken, LoadTop, LinkToTop, SwapTop, LoadTopLink, TakeTop, TakeChain, LoadLinkToTurn, TurnLink, LoadLinkToFold, LoadFreeToGive, LinkToFree, GiveBack, MarkTop, ShutTop}
use Rattle.stack_machine.specs.Machine.{Memory, held}
use Rattle.machine.specs.Chains.{first, last}
use Rattle.stack_machine.specs.Rule.{Lists, Collects, Adds, Puts, Gives, Walks, Turns, IsFine, Linked}
use Rattle.machine.proofs.Tests.{at_most_one}
use Rattle.machine.proofs.Sums.{total_set, total_one, total_two, at_set}
use Rattle.machine.proofs.Lists.{times_here, times_append, store_else, leads_frame, leads_append, leads_from}
use Rattle.machine.proofs.Chains.{times_reverse, times_rest, chain_frame, chain_leads, last_in}
use Rattle.machine.proofs.OneList.{read_top_later, read_link_later, front_of}

-- the node that a turn has come to is in the chain
pub turning_in : (link : ℕ → ℕ) (chain : List ℕ) (lowest i : ℕ) → Turns link chain lowest i → 0 < times i chain
turning_in link chain lowest i t =
    let f = front_of link i t.left NULL t.here t.downwards in
    omega (arith, ap (times i) t.is, times_append i (reverse t.turned) t.left, ap (times i) f.is, times_here i f.rest)

module _ (link link' : ℕ → ℕ) where
  walks_later : (chain : List ℕ) (i : ℕ) → ((j : ℕ) → 0 < times j chain → link' j ≡ link j) → Walks link chain i → Walks link' chain i
  walks_later chain i own w = record {
    above = w.above;
    left = w.left;
    is = w.is;
    chained = chain_frame link link' chain own w.chained;
    stands = leads_frame link link' w.left i NULL (λ j there. own j (omega (arith, ap (times j) w.is, times_append j w.above w.left))) w.stands;
    here = w.here;
  }

  turns_later : (chain : List ℕ) (lowest i : ℕ) → ((j : ℕ) → 0 < times j chain → link' j ≡ link j) → Turns link chain lowest i → Turns link' chain lowest i
  turns_later chain lowest i own t = record {
    turned = t.turned;
    left = t.left;
    is = t.is;
    upwards = leads_frame link link' t.turned lowest NULL (λ j there. own j (omega (arith, ap (times j) t.is, times_append j (reverse t.turned) t.left, times_reverse j t.turned))) t.upwards;
    downwards = leads_frame link link' t.left i NULL (λ j there. own j (omega (arith, ap (times j) t.is, times_append j (reverse t.turned) t.left))) t.downwards;
    here = t.here;
  }

  gives_later : (chain : List ℕ) → ((j : ℕ) → 0 < times j chain → link' j ≡ link j) → Gives link chain → Gives link' chain
  gives_later chain own g = record { chained = chain_frame link link' chain own g.chained; some_node = g.some_node }

  module _ {T : Type 0} where
    collects_later : (put : Putting T) → ((j : ℕ) → 0 < times j put.chain → link' j ≡ link j) → Collects link put → Collects link' put
    collects_later put own c = record { chained = chain_frame link link' put.chain own c.chained; wants = c.wants }

    adds_later : (put : Putting T) → ((j : ℕ) → 0 < times j put.chain → link' j ≡ link j) → Adds link put → Adds link' put
    adds_later put own c = record { chained = chain_frame link link' (without_first put.chain) (λ j there. own j (omega (arith, times_rest j put.chain))) c.chained; some_node = c.some_node; few = c.few }

    puts_later : (put : Putting T) → ((j : ℕ) → 0 < times j put.chain → link' j ≡ link j) → Puts link put → Puts link' put
    puts_later put own c = record { chained = chain_frame link link' put.chain own c.chained; some_node = c.some_node; few = c.few }

module _ {T : Type 0} where
  -- what holds of a pass goes on to hold where the others leave alone what it relies on
  pub fine_later : (limit : ℕ) (m : Memory T) (g : Lists) (m' : Memory T) (g' : Lists) (l : Line T)
      → Later m.free m.link g.frees m'.free m'.link g'.frees → Later m.top m.link g.stack m'.top m'.link g'.stack
      → ((i : ℕ) → 0 < times i (held l) → m'.link i ≡ m.link i) → IsFine limit m g l → IsFine limit m' g' l
  fine_later limit m g m' g' (LoadFree put) rf rt own f = collects_later m.link m'.link put own f
  fine_later limit m g m' g' (LoadFreeLink put w) rf rt own f = (collects_later m.link m'.link put own f.0, read_top_later w rf f.1)
  fine_later limit m g m' g' (TakeFree put w k) rf rt own f = (collects_later m.link m'.link put own f.0, read_top_later w rf f.1, read_link_later w k rf f.1 f.2)
  fine_later limit m g m' g' (LinkTaken put) rf rt own f = adds_later m.link m'.link put own f
  fine_later limit m g m' g' (LoadTop put) rf rt own f = puts_later m.link m'.link put own f
  fine_later limit m g m' g' (LinkToTop put w) rf rt own f = (puts_later m.link m'.link put own f.0, f.1, f.2)
  fine_later limit m g m' g' (SwapTop put w) rf rt own f = (puts_later m.link m'.link put own f.0, f.1, f.2, own (last put.chain) (last_in put.chain f.0.some_node) ∙ f.3)
  fine_later limit m g m' g' (LoadTopLink w) rf rt own f = (read_top_later w rt f.0, f.1)
  fine_later limit m g m' g' (TakeTop w k) rf rt own f = (read_top_later w rt f.0, f.1, read_link_later w k rt f.0 f.2)
  fine_later limit m g m' g' (TakeChain d w) rf rt own f = f
  fine_later limit m g m' g' (LoadLinkToTurn give lowest i) rf rt own f = turns_later m.link m'.link give.chain lowest i own f
  fine_later limit m g m' g' (TurnLink give lowest i k) rf rt own f = (turns_later m.link m'.link give.chain lowest i own f.0, own i (turning_in m.link give.chain lowest i f.0) ∙ f.1)
  fine_later limit m g m' g' (LoadLinkToFold give i) rf rt own f = walks_later m.link m'.link give.chain i own f
  fine_later limit m g m' g' (LoadFreeToGive give) rf rt own f = gives_later m.link m'.link give.chain own f
  fine_later limit m g m' g' (LinkToFree give w) rf rt own f = gives_later m.link m'.link give.chain own f
  fine_later limit m g m' g' (GiveBack give w) rf rt own f = (gives_later m.link m'.link give.chain own f.0, own (last give.chain) (last_in give.chain f.0.some_node) ∙ f.1)
  fine_later limit m g m' g' (MarkTop w) rf rt own f = f
  fine_later limit m g m' g' (ShutTop w) rf rt own f = f
  fine_later limit m g m' g' l rf rt own f = tt

  -- What one step of one pass, which is at l and then at l', may do to the links and the lists
  pub record Moves (m : Memory T) (g : Lists) (l : Line T) (m' : Memory T) (g' : Lists) (l' : Line T) : Type 0 where
    pub free_tag : m.free.tag ≤ m'.free.tag
    pub free_stays : m.free.tag ≡ m'.free.tag → (i : ℕ) → 0 < times i g.frees → 0 < times i g'.frees
    pub top_tag : m.top.tag ≤ m'.top.tag
    pub top_stays : m.top.tag ≡ m'.top.tag → (i : ℕ) → 0 < times i g.stack → 0 < times i g'.stack
    pub links : (i : ℕ) → times i (held l) ≡ 0 → m'.link i ≡ m.link i
    pub moved : (i : ℕ) → times i g'.frees + times i g'.stack + times i (held l') ≡ times i g.frees + times i g.stack + times i (held l)

  module _ {n limit : ℕ} {m : Memory T} {g : Lists} {lines : List (Line T)} where
    -- how often one pass holds a node, and with another pass
    pub held_once : (q i : ℕ) (l : Line T) → Linked T n limit m g lines → get_elem? lines q ≡ some l → times i g.frees + times i g.stack + times i (held l) ≤ 1
    held_once q i l s e = omega (arith, s.once i, total_one (λ u. times i (held u)) lines q l e, at_most_one i n)

    pub moves_kept : {m' : Memory T} {g' : Lists} (p : ℕ) (l l' : Line T) → Linked T n limit m g lines → get_elem? lines p ≡ some l → Moves m g l m' g' l'
        → Stands m'.link m'.free.index g'.frees → Stands m'.link m'.top.index g'.stack → IsFine limit m' g' l' → Linked T n limit m' g' (set lines p l')
    moves_kept {m'} {g'} p l l' s e v sf st f =
        let by : (i : ℕ) → Line T → ℕ = λ i u. times i (held u) in
        record {
          small = s.small;
          free_stands = sf;
          top_stands = st;
          once = λ i. omega (arith, s.once i, total_set (by i) lines p l l' e, v.moved i);
          fine = λ q u at. ⊎_elim
              (λ t. subst (IsFine limit m' g') t.1 f)
              (λ t. fine_later limit m g m' g' u
              (record { tag = v.free_tag; stays = v.free_stays; links = λ h i there. v.links i (omega (arith, held_once p i l s e)) })
              (record { tag = v.top_tag; stays = v.top_stays; links = λ h i there. v.links i (omega (arith, held_once p i l s e)) })
              (λ i there. v.links i (omega (arith, s.once i, total_two (by i) lines p q l u t.0 e t.1, at_most_one i n)))
              (s.fine q u t.1))
              (at_set lines p q l' u at);
        }

    pub goes_linked : (p : ℕ) (l l' : Line T) → Linked T n limit m g lines → get_elem? lines p ≡ some l → ((i : ℕ) → times i (held l') ≡ times i (held l)) → IsFine limit m g l' → Linked T n limit m g (set lines p l')
    goes_linked p l l' s e same f = moves_kept p l l' s e
        (record { free_tag = omega arith; free_stays = λ h i there. there; top_tag = omega arith; top_stays = λ h i there. there; links = λ i h. refl; moved = λ i. omega (arith, same i) })
        s.free_stands s.top_stands f

    -- a store into the link of a held node
    pub store_linked : (p i x : ℕ) (l l' : Line T) → Linked T n limit m g lines → get_elem? lines p ≡ some l → 0 < times i (held l) → ((j : ℕ) → times j (held l') ≡ times j (held l))
        → IsFine limit (record m { link = store m.link i x }) g l' → Linked T n limit (record m { link = store m.link i x }) g (set lines p l')
    store_linked p i x l l' s e mine same f =
        let links : (j : ℕ) → times j (held l) ≡ 0 → store m.link i x j ≡ m.link j = λ j h. store_else m.link i x j (λ q. absurd (let a : times j (held l) ≡ times i (held l) = ap (λ (k : ℕ). times k (held l)) q in omega arith)) in
        moves_kept p l l' s e
        (record { free_tag = omega arith; free_stays = λ h j there. there; top_tag = omega arith; top_stays = λ h j there. there; links = links; moved = λ j. omega (arith, same j) })
        (leads_frame m.link (store m.link i x) g.frees m.free.index NULL (λ j there. links j (omega (arith, held_once p j l s e))) s.free_stands)
        (leads_frame m.link (store m.link i x) g.stack m.top.index NULL (λ j there. links j (omega (arith, held_once p j l s e))) s.top_stands)
        f

    -- the free list's top changes: a won take
    pub hold_linked : (p : ℕ) (l l' : Line T) (w : Tagged) (k : ℕ) (rest : List ℕ) (m' : Memory T) → Linked T n limit m g lines → get_elem? lines p ≡ some l → m.free ≡ w → g.frees ≡ w.index ∷ rest → Stands m.link k rest
        → ((i : ℕ) → times i (held l') ≡ times i (w.index ∷ held l)) → m'.free ≡ raised w k → m'.top ≡ m.top → m'.link ≡ m.link
        → IsFine limit m' (record { frees = rest; stack = g.stack }) l' → Linked T n limit m' (record { frees = rest; stack = g.stack }) (set lines p l')
    hold_linked p l l' w k rest m' s e won is stands mine free top link f =
        let t : w.tag ≡ m.free.tag = ap (λ (x : Tagged). x.tag) (sym won) in
        let t' : m'.free.tag ≡ w.tag + 1 = ap (λ (x : Tagged). x.tag) free in
        let u : m'.top.tag ≡ m.top.tag = ap (λ (x : Tagged). x.tag) top in
        moves_kept p l l' s e
        (record {
          free_tag = omega arith;
          free_stays = λ h. absurd (omega arith);
          top_tag = omega arith;
          top_stays = λ h j there. there;
          links = λ j h. λ i. link i j;
          moved = λ j. omega (arith, ap (times j) is, mine j);
        })
        (subst (λ (x : Tagged × (ℕ → ℕ)). Stands x.1 x.0.index rest) (λ i. (sym free i, sym link i)) stands)
        (subst (λ (x : Tagged × (ℕ → ℕ)). Stands x.1 x.0.index g.stack) (λ i. (sym top i, sym link i)) s.top_stands)
        f

    -- a won give of a chain
    pub give_linked : (p : ℕ) (l l' : Line T) (w : Tagged) (chain : List ℕ) (m' : Memory T) → Linked T n limit m g lines → get_elem? lines p ≡ some l → m.free ≡ w → Gives m.link chain → m.link (last chain) ≡ w.index
        → ((i : ℕ) → times i (held l) ≡ times i chain) → held l' ≡ [] → m'.free ≡ kept w (first chain) → m'.top ≡ m.top → m'.link ≡ m.link
        → IsFine limit m' (record { frees = chain ++ g.frees; stack = g.stack }) l' → Linked T n limit m' (record { frees = chain ++ g.frees; stack = g.stack }) (set lines p l')
    give_linked p l l' w chain m' s e won gives own mine mine' free top link f =
        let t : w.tag ≡ m.free.tag = ap (λ (x : Tagged). x.tag) (sym won) in
        let t' : m'.free.tag ≡ w.tag = ap (λ (x : Tagged). x.tag) free in
        let u : m'.top.tag ≡ m.top.tag = ap (λ (x : Tagged). x.tag) top in
        let rest : Stands m.link (m.link (last chain)) g.frees = leads_from m.link m.free.index (m.link (last chain)) g.frees NULL (ap (λ (y : Tagged). y.index) won ∙ sym own) s.free_stands in
        let whole : Stands m.link (first chain) (chain ++ g.frees) = leads_append m.link (first chain) chain (m.link (last chain)) g.frees NULL (chain_leads m.link chain gives.some_node gives.chained) rest in
        moves_kept p l l' s e
        (record {
          free_tag = omega arith;
          free_stays = λ h j there. omega (arith, times_append j chain g.frees);
          top_tag = omega arith;
          top_stays = λ h j there. there;
          links = λ j h. λ i. link i j;
          moved = λ j. omega (arith, mine j, ap (times j) mine', times_append j chain g.frees);
        })
        (subst (λ (x : Tagged × (ℕ → ℕ)). Stands x.1 x.0.index (chain ++ g.frees)) (λ i. (sym free i, sym link i)) whole)
        (subst (λ (x : Tagged × (ℕ → ℕ)). Stands x.1 x.0.index g.stack) (λ i. (sym top i, sym link i)) s.top_stands)
        f

    -- a won put of a chain
    pub put_linked : (p : ℕ) (l l' : Line T) (w : Tagged) (chain : List ℕ) (m' : Memory T) → Linked T n limit m g lines → get_elem? lines p ≡ some l → m.top ≡ w → Gives m.link chain → m.link (last chain) ≡ w.index
        → ((i : ℕ) → times i (held l) ≡ times i chain) → held l' ≡ [] → m'.top ≡ raised w (first chain) → m'.free ≡ m.free → m'.link ≡ m.link
        → IsFine limit m' (record { frees = g.frees; stack = chain ++ g.stack }) l' → Linked T n limit m' (record { frees = g.frees; stack = chain ++ g.stack }) (set lines p l')
    put_linked p l l' w chain m' s e won gives own mine mine' top free link f =
        let t : w.tag ≡ m.top.tag = ap (λ (x : Tagged). x.tag) (sym won) in
        let t' : m'.top.tag ≡ w.tag + 1 = ap (λ (x : Tagged). x.tag) top in
        let u : m'.free.tag ≡ m.free.tag = ap (λ (x : Tagged). x.tag) free in
        let rest : Stands m.link (m.link (last chain)) g.stack = leads_from m.link m.top.index (m.link (last chain)) g.stack NULL (ap (λ (y : Tagged). y.index) won ∙ sym own) s.top_stands in
        let whole : Stands m.link (first chain) (chain ++ g.stack) = leads_append m.link (first chain) chain (m.link (last chain)) g.stack NULL (chain_leads m.link chain gives.some_node gives.chained) rest in
        moves_kept p l l' s e
        (record {
          free_tag = omega arith;
          free_stays = λ h j there. there;
          top_tag = omega arith;
          top_stays = λ h. absurd (omega arith);
          links = λ j h. λ i. link i j;
          moved = λ j. omega (arith, mine j, ap (times j) mine', times_append j chain g.stack);
        })
        (subst (λ (x : Tagged × (ℕ → ℕ)). Stands x.1 x.0.index g.frees) (λ i. (sym free i, sym link i)) s.free_stands)
        (subst (λ (x : Tagged × (ℕ → ℕ)). Stands x.1 x.0.index (chain ++ g.stack)) (λ i. (sym top i, sym link i)) whole)
        f

    -- the stack's top changes: its front, or all of it, is taken
    pub take_linked : (p : ℕ) (l l' : Line T) (w : Tagged) (k : ℕ) (chain rest : List ℕ) (m' : Memory T) → Linked T n limit m g lines → get_elem? lines p ≡ some l → m.top ≡ w → g.stack ≡ chain ++ rest → Stands m.link k rest
        → held l ≡ [] → ((i : ℕ) → times i (held l') ≡ times i chain) → m'.top ≡ raised w k → m'.free ≡ m.free → m'.link ≡ m.link
        → IsFine limit m' (record { frees = g.frees; stack = rest }) l' → Linked T n limit m' (record { frees = g.frees; stack = rest }) (set lines p l')
    take_linked p l l' w k chain rest m' s e won is stands mine mine' top free link f =
        let t : w.tag ≡ m.top.tag = ap (λ (x : Tagged). x.tag) (sym won) in
        let t' : m'.top.tag ≡ w.tag + 1 = ap (λ (x : Tagged). x.tag) top in
        let u : m'.free.tag ≡ m.free.tag = ap (λ (x : Tagged). x.tag) free in
        moves_kept p l l' s e
        (record {
          free_tag = omega arith;
          free_stays = λ h j there. there;
          top_tag = omega arith;
          top_stays = λ h. absurd (omega arith);
          links = λ j h. λ i. link i j;
          moved = λ j. omega (arith, ap (times j) is, ap (times j) mine, mine' j, times_append j chain rest);
        })
        (subst (λ (x : Tagged × (ℕ → ℕ)). Stands x.1 x.0.index g.frees) (λ i. (sym free i, sym link i)) s.free_stands)
        (subst (λ (x : Tagged × (ℕ → ℕ)). Stands x.1 x.0.index rest) (λ i. (sym top i, sym link i)) stands)
        f

    -- a mark of the stack's top is set
    pub mark_linked : (p : ℕ) (l l' : Line T) (top' : Tagged) → Linked T n limit m g lines → get_elem? lines p ≡ some l → top'.index ≡ m.top.index → top'.tag ≡ m.top.tag
        → held l ≡ [] → held l' ≡ [] → IsFine limit (record m { top = top' }) g l' → Linked T n limit (record m { top = top' }) g (set lines p l')
    mark_linked p l l' top' s e index tag mine mine' f =
        moves_kept p l l' s e
        (record {
          free_tag = omega arith;
          free_stays = λ h j there. there;
          top_tag = omega arith;
          top_stays = λ h j there. there;
          links = λ j h. refl;
          moved = λ j. omega (arith, ap (times j) mine, ap (times j) mine');
        })
        s.free_stands (leads_from m.link m.top.index top'.index g.stack NULL (sym index) s.top_stands) f
