-- Where the rule holds, each node is in one place, and a step wins only what no pass had.
use Rattle.std.proofs.Common.{◌≡◌, ◌⊎◌, inl, inr, ⊎_elim, ℕ, Bool, true, false, cond, eqb, ltb, leb, List, [], ◌∷◌, length, refl, sym, ap, arith}
use Rattle.std.specs.Prelude.{Option as Slot, Some, None}
use mathlib.Core.Option.{Option, none, some}
use lib.ListN.{get_elem?}
use Rattle.tagged_index.specs.declared.word.TheConstants.{NULL}
use Rattle.bounded_model.specs.declared.answers.Word.TheVariants.{Top}
use Rattle.bounded_model.specs.declared.answers.TakeRefused.{TakeRefused}
use Rattle.bounded_model.specs.declared.answers.TakeRefused.TheVariants.{Empty, Closed, Shut, Spent}
use Rattle.bounded_model.specs.declared.history.Event.{Event}
use Rattle.machine.specs.Words.{Tagged, times}
use Rattle.machine.specs.Chains.{chain_from, values_in}
use Rattle.machine.specs.Places.{Has, InOnePlace}
use Rattle.machine.proofs.Program.{Cases, by_cases}
use Rattle.machine.proofs.OneList.{ready}
use Rattle.machine.proofs.Chains.{times_reverse}
use Rattle.machine.proofs.Places.{either, in_one_place, is_free, is_inside}
use Rattle.stack_machine.specs.declared.lines.Putting.{Putting}
use Rattle.stack_machine.specs.declared.lines.Direction.{Direction}
use Rattle.stack_machine.specs.declared.lines.Direction.TheVariants.{Down, Up}
use Rattle.stack_machine.specs.declared.lines.Taking.{Taking}
use Rattle.stack_machine.specs.declared.lines.Taking.TheVariants.{One, Whole}
use Rattle.stack_machine.specs.declared.lines.Line.{Line}
use Rattle.stack_machine.specs.declared.lines.Line.TheVariants.{Idle, LoadFree, TakeFree, LinkTaken, LoadTop, SwapTop, LoadTopToRefuse, LoadTopToTake, TakeTop, TakeChain, TurnLink, LoadLinkToFold, GiveBack, LoadTopToClose, MarkTop, LoadTopToShut, ShutTop}
use Rattle.stack_machine.specs.Machine.{Memory, memories, table, Outcome, held, step, with_node, next_node, no_node, refuses, takes, at_take_free, at_load_top_to_take, at_take_chain, wins_value, wins_chain}
use Rattle.stack_machine.specs.Answers.{shape}
use Rattle.stack_machine.specs.Rule.{Lists, IsFine, Good}
use Rattle.stack_machine.specs.Places.{Listed, NoNodeTwice, NodeWas, WinsUnheld}
use Rattle.stack_machine.proofs.Moves.{all_nodes}

module _ {T : Type 0} {n limit : ℕ} {m : Memory T} {g : Lists} {who : ℕ → Option ℕ} {lines : List (Line T)} {history : List (Event T)} (x : Good T n limit m g who lines history) where
  abbrev listed : Listed m
  listed = record { frees = g.frees; stack = g.stack; free_stands = x.linked.free_stands; top_stands = x.linked.top_stands }

  placed : InOnePlace held n g.frees g.stack lines
  placed = in_one_place held n g.frees g.stack lines x.linked.once

  pub no_node_twice : NoNodeTwice n m lines
  no_node_twice = record { lists = listed; nodes = placed }

  -- where what a step brings was
  record Brings (l l' : Line T) : Type 0 where
    nodes : (i : ℕ) → Has (held l') i → Has (held l) i ⊎ NodeWas m listed lines l i

  of : (l : Line T) (b : Bool) (y z : Line T) → Brings l y → Brings l z → Brings l (cond b y z)
  of l true y z h h' = h
  of l false y z h h' = h'

  -- it holds what it held, or nothing
  keeps : {l l' : Line T} → held l' ≡ held l → Brings l l'
  keeps same = record { nodes = λ i h. inl (omega (arith, ap (times i) same, h)) }

  empty : {l l' : Line T} → held l' ≡ [] → Brings l l'
  empty none_held = record { nodes = λ i h. absurd (omega (arith, ap (times i) none_held)) }

  refused : (l : Line T) (put : Putting T) (l' : Line T) → held l ≡ put.chain → held l' ≡ [] → Brings l (no_node put l')
  refused l put l' mine none_held = of l (eqb (length put.chain) 0) _ _ (empty none_held) (keeps (sym mine))

  goes_on : (l : Line T) (put : Putting T) → ((i : ℕ) → Has put.chain i → Has (held l) i ⊎ NodeWas m listed lines l i) → Brings l (next_node put)
  goes_on l put chain = of l (ltb (length put.chain) (length put.values)) _ _ (record { nodes = chain }) (record { nodes = chain })

  module _ (q p : ℕ) where
    abbrev After : Line T → Outcome T → Type 0
    After l o = Brings l o.line

    take_free : (put : Putting T) (w : Tagged) (k : ℕ) → get_elem? lines q ≡ some (TakeFree put w k) → m.free ≡ w → Brings (TakeFree put w k) (at_take_free put w)
    take_free put w k e won =
        let f : IsFine limit m g (TakeFree put w k) = x.linked.fine q (TakeFree put w k) e in
        let l : Line T = TakeFree put w k in
        let r = ready limit m.free m.link g.frees w k x.linked.free_stands won f.1 f.2 in
        let chain : (i : ℕ) → Has (w.index ∷ put.chain) i → Has (held l) i ⊎ NodeWas m listed lines l i = λ i h. ⊎_elim
        (λ here. inr (is_free held placed i (omega (arith, ap (times i) r.is, here))))
        (λ rest. inl rest)
        (either (cond (eqb i w.index) 1 0) (times i put.chain) h) in
        of l (eqb (length put.chain) 0) _ _ (goes_on l (with_node put w.index) chain) (record { nodes = chain })

    take_value : (w : Tagged) (k : ℕ) → ((i : ℕ) → Has (w.index ∷ []) i → Has g.stack i) → (o : Option (Slot T)) → After (TakeTop w k) (wins_value m p w k o)
    take_value w k there none = empty refl
    take_value w k there (some None) = empty refl
    take_value w k there (some (Some v)) = record { nodes = λ i h. inr (is_inside held placed i (there i h)) }

    take_top : (w : Tagged) (k : ℕ) → get_elem? lines q ≡ some (TakeTop w k) → m.top ≡ w → After (TakeTop w k) (wins_value m p w k (m.home w.index))
    take_top w k e won =
        let f : IsFine limit m g (TakeTop w k) = x.linked.fine q (TakeTop w k) e in
        let r = ready limit m.top m.link g.stack w k x.linked.top_stands won f.0 f.2 in
        take_value w k (λ i h. omega (arith, ap (times i) r.is, h)) (m.home w.index)

    -- the whole chain that a fold takes is the stack
    whole : (d : Direction) (w : Tagged) (chain : List ℕ) (vs : List T) → held (at_take_chain d w chain vs) ≡ chain
    whole Down w chain vs = refl
    whole Up w chain vs = refl

    take_chain : (d : Direction) (w : Tagged) → get_elem? lines q ≡ some (TakeChain d w) → m.top ≡ w → After (TakeChain d w) (wins_chain m p d w (chain_from n m.link w.index))
    take_chain d w e won =
        let all = all_nodes q (TakeChain d w) w x e won in
        let chain = chain_from n m.link w.index in
        record { nodes = λ i h. inr (is_inside held placed i (omega (arith, ap (times i) all, ap (times i) (whole d w chain (values_in m.home chain)), h))) }

    refuses_empty : (taking : Taking) (why : TakeRefused) → held {T = T} (refuses taking why) ≡ []
    refuses_empty One why = refl
    refuses_empty (Whole d) why = refl

    takes_empty : (taking : Taking) (w : Tagged) → held {T = T} (takes taking w) ≡ []
    takes_empty One w = refl
    takes_empty (Whole d) w = refl

    load_top_to_take : (taking : Taking) → Brings (LoadTopToTake taking) (at_load_top_to_take limit taking m.top)
    load_top_to_take taking =
        let l : Line T = LoadTopToTake taking in
        let why : TakeRefused = cond m.top.mark Closed Empty in
        of l m.top.second (refuses taking Shut) _ (empty (refuses_empty taking Shut))
        (of l (eqb m.top.index NULL) (refuses taking why) _ (empty (refuses_empty taking why))
        (of l (leb limit m.top.tag) (refuses taking (Spent Top m.top.tag)) (takes taking m.top) (empty (refuses_empty taking (Spent Top m.top.tag))) (empty (takes_empty taking m.top))))

    brings : (l : Line T) → get_elem? lines q ≡ some l → Cases memories (Idle None) m p (After l) l (table (shape n limit) l)
    brings (LoadFree put) e =
        let l : Line T = LoadFree put in
        of l (eqb m.free.index NULL) _ _ (refused l put _ refl refl) (of l (leb limit m.free.tag) _ _ (refused l put _ refl refl) (keeps refl))
    brings (TakeFree put w k) e = (λ won. take_free put w k e won, keeps refl)
    brings (LinkTaken put) e = goes_on (LinkTaken put) put (λ i h. inl h)
    brings (LoadTop put) e = let l : Line T = LoadTop put in of l m.top.mark _ _ (keeps refl) (of l (leb limit m.top.tag) _ _ (keeps refl) (keeps refl))
    brings (SwapTop put w) e = (λ won. empty refl, keeps refl)
    brings (LoadTopToRefuse vs) e = let l : Line T = LoadTopToRefuse vs in of l m.top.mark _ _ (empty refl) (of l (leb limit m.top.tag) _ _ (empty refl) (empty refl))
    brings (LoadTopToTake taking) e = load_top_to_take taking
    brings (TakeTop w k) e = (λ won. take_top w k e won, empty refl)
    brings (TakeChain d w) e = (λ won. take_chain d w e won, empty refl)
    brings (TurnLink give above i k) e =
        let l : Line T = TurnLink give above i k in
        of l (eqb k NULL) _ _ (record { nodes = λ j h. inl (omega (arith, times_reverse j give.chain, h)) }) (keeps refl)
    brings (LoadLinkToFold give i) e = let l : Line T = LoadLinkToFold give i in of l (eqb (m.link i) NULL) _ _ (keeps refl) (keeps refl)
    brings (GiveBack give w) e = (λ won. empty refl, keeps refl)
    brings LoadTopToClose e = of LoadTopToClose m.top.mark _ _ (empty refl) (empty refl)
    brings (MarkTop w) e = (λ won. empty refl, empty refl)
    brings LoadTopToShut e = of LoadTopToShut m.top.second _ _ (empty refl) (empty refl)
    brings (ShutTop w) e = (λ won. empty refl, empty refl)
    brings l e = keeps refl

    pub wins_unheld : (l : Line T) → get_elem? lines q ≡ some l → WinsUnheld m lines l (step (shape n limit) m p l).line
    wins_unheld l e = record { lists = listed; nodes = (by_cases memories (Idle None) m p (After l) l (table (shape n limit) l) (brings l e)).nodes }
