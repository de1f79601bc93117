-- Each step of the stack is paid for: it lowers the weight of its line, an exchange that wins is paid out of
-- the line's harm, and no other line weighs more by more than its price.
use Rattle.std.proofs.Common.{◌≡◌, ◌≢◌, ℕ, zero, suc, ◌+◌, ◌*◌, ◌-◌, ◌<◌, ◌≤◌, ◌==◌, ◌++◌, Bool, true, false, cond, eqb, ltb, leb, List, [], ◌∷◌, length, reverse, refl, sym, ap, ◌∙◌, eq-eqb, arith, Option as Slot, Some, Err}
use Rattle.std.proofs.lemmas.Bool.{false≢true}
use Rattle.std.proofs.lemmas.Bool.Decides.{nat_tests}
use Rattle.std.proofs.lemmas.List.{length-reverse}
use mathlib.Core.Option.{Option, some}
use lib.ListN.{get_elem?}
use Rattle.tagged_index.specs.declared.word.TheConstants.{NULL}
use Rattle.bounded_model.specs.declared.answers.Word.TheVariants.{Free as FreeWord, Top as TopWord}
use Rattle.bounded_model.specs.declared.answers.PutRefused.TheVariants.{Full as PutFull, Closed as PutClosed, Spent as PutSpent}
use Rattle.bounded_model.specs.declared.answers.TakeRefused.{TakeRefused}
use Rattle.bounded_model.specs.declared.answers.TakeRefused.TheVariants.{Empty as TakeEmpty, Closed as TakeClosed, Spent as TakeSpent, Shut as TakeShut}
use Rattle.bounded_model.specs.declared.history.Event.{Event}
use Rattle.bounded_model.specs.declared.history.Event.TheVariants.{Hold}
use Rattle.bounded_model.specs.Machine.{Shape}
use Rattle.machine.specs.Words.{Tagged, kept, raised, marked, with_second, same, times, Stands}
use Rattle.machine.specs.Chains.{first, chain_from}
use Rattle.machine.proofs.Tests.{cases, one_of, fresh, lost_small, lost_all, same-is, at_most_one}
use Rattle.machine.proofs.Sums.{total_one}
use Rattle.machine.proofs.Lists.{times_here, times_append}
use Rattle.machine.proofs.OneList.{front_of, ready}
use Rattle.stack_machine.specs.declared.lines.Putting.{Putting}
use Rattle.stack_machine.specs.declared.lines.Giving.{Giving}
use Rattle.stack_machine.specs.declared.lines.Direction.{Direction}
use Rattle.stack_machine.specs.declared.lines.Direction.TheVariants.{Down, Up}
use Rattle.stack_machine.specs.declared.lines.Taking.{Taking}
use Rattle.stack_machine.specs.declared.lines.Taking.TheVariants.{One, Whole}
use Rattle.stack_machine.specs.declared.lines.Answer.TheVariants.{Put as AnswerPut, Close as AnswerClose, Shut as AnswerShut}
use Rattle.stack_machine.specs.declared.lines.Line.{Line}
use Rattle.stack_machine.specs.declared.lines.Line.TheVariants.{Idle, LoadFree, LoadFreeLink, TakeFree, LinkTaken, LoadTop, LinkToTop, SwapTop, LoadTopToRefuse, LoadTopToTake, TakeTop, TakeChain, LoadLinkToTurn, TurnLink, LoadLinkToFold, LoadFreeToGive, GiveBack, LoadTopToClose, MarkTop, LoadTopToShut, ShutTop}
use Rattle.stack_machine.specs.Machine.{Memory, step, held, next_node, no_node, with_node, at_take_free, is_idle, wins, wins_value, wins_chain, wins_exchange, after_hold, ends, gives, refuses, takes}
use Rattle.stack_machine.specs.Answers.{shape}
use Rattle.stack_machine.specs.Rule.{Lists, Walks, IsFine, Good}
use Rattle.step_core.specs.stack.Bound.{IsSingle}
use Rattle.step_core.specs.stack.Costs.{over}
use Rattle.step_core.proofs.Falls.{raised_by, Lower, Low, either, swaps}
use Rattle.step_core.proofs.stack.Weight.{from_node, folding, further, need, more, weight, price, harm, free_raises, top_raises}

-- Puts

module _ {T : Type 0} (n : ℕ) (put : Putting T) where
  -- a put that looks for a node either may take one, or will look for it in vain
  some_left : 1 ≤ need n put + over n (length put.values)
  unfolding further need
  some_left = by_test (ltb (length put.chain) (length put.values)) (ltb n (length put.values)) refl refl
    where
      by_test : (b c : Bool) → ltb (length put.chain) (length put.values) ≡ b → ltb n (length put.values) ≡ c → 1 ≤ cond b (cond c n (length put.values) - length put.chain) 1 + cond c 1 0
      by_test false c e e' = omega arith
      by_test true true e e' = omega arith
      by_test true false e e' = grind (arith, nat_tests, e)

  -- and with one node more it may take one less
  one_less : (w : Tagged) → (length put.chain < length put.values → length put.chain < n) → 1 + further n (with_node put w.index) ≤ need n put
  unfolding further need
  one_less w room = by_test (ltb (length put.chain) (length put.values)) (ltb n (length put.values)) refl refl
    where
      by_test : (b c : Bool) → ltb (length put.chain) (length put.values) ≡ b → ltb n (length put.values) ≡ c → 1 + (cond c n (length put.values) - suc (length put.chain)) ≤ cond b (cond c n (length put.values) - length put.chain) 1
      by_test true true e e' = let r = room (grind (arith, nat_tests, e)) in omega arith
      by_test true false e e' = grind (arith, nat_tests, e)
      by_test false true e e' = grind (arith, nat_tests, e, e')
      by_test false false e e' = grind (arith, nat_tests, e, e')

  -- one that has a node for some of its values alone
  pub same_need : length put.chain < length put.values → need n put ≡ further n put
  unfolding need
  same_need h = rw (below (length put.chain) (length put.values) h) refl
    where
      below : (a b : ℕ) → a < b → ltb a b ≡ true
      below a b h = grind (arith, nat_tests)

-- Walks

from_here : (i : ℕ) (js : List ℕ) → from_node i (i ∷ js) ≡ 1 + length js
from_here i js = rw (eq-eqb i i refl) refl

from_past : (i : ℕ) (above left : List ℕ) → times i above ≡ 0 → from_node i (above ++ left) ≡ from_node i left
from_past i [] left h = refl
from_past i (j ∷ js) left h = by_test (eqb i j) (omega (arith, h)) (from_past i js left)
  where
    by_test : (b : Bool) → cond b 1 0 + times i js ≡ 0 → (times i js ≡ 0 → from_node i (js ++ left) ≡ from_node i left) → cond b (1 + length (js ++ left)) (from_node i (js ++ left)) ≡ from_node i left
    by_test true h' rest = absurd (omega arith)
    by_test false h' rest = rest (omega (arith, h'))

pub from_small : (i : ℕ) (chain : List ℕ) → from_node i chain ≤ length chain
from_small i [] = omega arith
from_small i (j ∷ js) = one_of (eqb i j) (1 + length js) (from_node i js) (length (j ∷ js)) (omega arith) (omega (arith, from_small i js))

chain_small : (n : ℕ) (link : ℕ → ℕ) (x : ℕ) → length (chain_from n link x) ≤ n
chain_small zero link x = omega arith
chain_small (suc n) link x = by_test (eqb x NULL) (chain_small n link (link x))
  where
    by_test : (b : Bool) → length (chain_from n link (link x)) ≤ n → length (cond b [] (x ∷ chain_from n link (link x))) ≤ suc n
    by_test true rest = omega arith
    by_test false rest = omega (arith, rest)

-- a walk that is at node i has a node to see, and the next one is nearer to the end
pub record Nearer (link : ℕ → ℕ) (chain : List ℕ) (i : ℕ) : Type 0 where
  pub some : 0 < from_node i chain
  pub next : link i ≢ NULL → from_node (link i) chain < from_node i chain

nearer_end : (link : ℕ → ℕ) (chain above left : List ℕ) (i : ℕ) → chain ≡ above ++ left → Stands link i left → i ≢ NULL → ((j : ℕ) → times j chain ≤ 1) → Nearer link chain i
nearer_end link chain above left i is stands here once =
    let f = front_of link i left NULL here stands in
    let whole : chain ≡ above ++ i ∷ f.rest = is ∙ ap (λ (xs : List ℕ). above ++ xs) f.is in
    let first_i : times i above ≡ 0 = omega (arith, once i, ap (times i) whole, times_append i above (i ∷ f.rest), times_here i f.rest) in
    let at_i : from_node i chain ≡ 1 + length f.rest = ap (from_node i) whole ∙ from_past i above (i ∷ f.rest) first_i ∙ from_here i f.rest in
    record {
      some = omega (arith, at_i);
      next = λ more.
          let k = link i in
          let f' = front_of link k f.rest NULL more f.leads in
          let long : length f.rest ≡ 1 + length f'.rest = omega (arith, ap length f'.is) in
          let whole' : chain ≡ above ++ i ∷ k ∷ f'.rest = whole ∙ ap (λ (xs : List ℕ). above ++ i ∷ xs) f'.is in
          let seen : times k above + times k (i ∷ []) ≡ 0 = omega (arith, once k, ap (times k) whole', times_append k above (i ∷ k ∷ f'.rest), times_here k f'.rest) in
          let at_k : from_node k chain ≡ 1 + length f'.rest = ap (from_node k) whole' ∙ from_past k above (i ∷ k ∷ f'.rest) (omega (arith, seen)) ∙ from_past k (i ∷ []) (k ∷ f'.rest) (omega (arith, seen)) ∙ from_here k f'.rest in
          omega (arith, at_i, at_k, long);
    }

module _ {T : Type 0} (n : ℕ) where
  -- what the next step of a line costs each other one
  abbrev pub spends : Memory T → Line T → ℕ
  spends m l = cond (wins_exchange m l) (price n l) 0

  abbrev weighs : Memory T → Line T → ℕ
  weighs m l = weight n m.free m.top l

  module _ (c : Shape) (m : Memory T) where
    -- What a step costs the others, from every state

    pub step_raises : (p : ℕ) (l u : Line T) → weighs (step c m p l).memory u ≤ weighs m u + spends m l
    step_raises p (TakeFree put w k) u = raised_by weighs m u (LoadFree put) (same m.free w) _ 3 (λ b. free_raises n m.free (raised w k) m.top u)
    step_raises p (SwapTop put w) u = raised_by weighs m u (LoadTop put) (same m.top w) _ 4 (λ b. top_raises n m.free m.top (raised w (first put.chain)) u)
    step_raises p (TakeTop w k) u = raised_by weighs m u (LoadTopToTake One) (same m.top w) _ 4 (λ b. by_value (m.home w.index))
      where
        by_value : (o : Option (Slot T)) → weighs (wins_value m p w k o).memory u ≤ weighs m u + 4
        by_value (some (Some v)) = top_raises n m.free m.top (raised w k) u
        by_value o = omega arith
    step_raises p (TakeChain d w) u = raised_by weighs m u (LoadTopToTake (Whole d)) (same m.top w) _ 4 (λ b. top_raises n m.free m.top (raised w NULL) u)
    step_raises p (GiveBack give w) u = raised_by weighs m u (LoadFreeToGive give) (same m.free w) _ 3 (λ b. free_raises n m.free (kept w (first give.chain)) m.top u)
    step_raises p (MarkTop w) u = raised_by weighs m u LoadTopToClose (same m.top w) _ 4 (λ b. top_raises n m.free m.top (marked w) u)
    step_raises p (ShutTop w) u = raised_by weighs m u LoadTopToShut (same m.top w) _ 4 (λ b. top_raises n m.free m.top (with_second w) u)
    step_raises p l u = omega arith

    -- What a step leaves. A pass may take no more nodes than there are, and what walks along a chain comes
    -- nearer to its end
    abbrev pub Ready : Line T → Type 0
    Ready (TakeFree put w k) = same m.free w ≡ true → length put.chain < length put.values → length put.chain < n
    Ready (TakeChain d w) = c.capacity ≤ n
    Ready (TurnLink give above i k) = (m.link i ≡ k) × Nearer m.link give.chain i
    Ready (LoadLinkToFold give i) = Nearer m.link give.chain i
    Ready l = Unit {0}

    no_node_low : (put : Putting T) (refused : Line T) → weighs m refused ≤ 1 → harm n refused ≤ 0 → Lower weighs (harm n) m 0 (more n put + 3) (3 * need n put + 4) (no_node put refused)
    no_node_low put refused light harmless =
        cases (Lower weighs (harm n) m 0 (more n put + 3) (3 * need n put + 4)) (length put.chain == 0) refused (LoadTop put)
        (λ b. (omega (arith, light), omega (arith, harmless)))
        (λ b. (omega (arith, some_left n put, lost_all (length put.chain == 0) 1 b), omega arith))

    -- the next node is looked for, or the chain is put
    next_low : (put : Putting T) (m' : Memory T) (d r h : ℕ) → 4 * further n put + over n (length put.values) + 4 < r → 4 < r → 3 * further n put + 4 + d ≤ h → Lower weighs (harm n) m' d r h (next_node put)
    next_low put m' d r h light light' pays =
        cases (Lower weighs (harm n) m' d r h) (ltb (length put.chain) (length put.values)) (LoadFree put) (LoadTop put)
        (λ b. let same = same_need n put (grind (arith, nat_tests, b)) in (omega (arith, same, lost_small (length put.chain == 0) 1), omega (arith, same)))
        (λ b. (omega arith, omega arith))

    take_free_low : (put : Putting T) (w : Tagged) (m' : Memory T) → (length put.chain < length put.values → length put.chain < n) → Lower weighs (harm n) m' 3 (more n put + 1) (3 * need n put + 4) (at_take_free put w)
    take_free_low put w m' room =
        let less = one_less n put w room in
        cases (Lower weighs (harm n) m' 3 (more n put + 1) (3 * need n put + 4)) (length put.chain == 0) (next_node (with_node put w.index)) (LinkTaken (with_node put w.index))
        (λ b. next_low (with_node put w.index) m' 3 (more n put + 1) (3 * need n put + 4) (omega (arith, less)) (omega (arith, less)) (omega (arith, less)))
        (λ b. (omega (arith, less, lost_all (length put.chain == 0) 1 b), omega (arith, less)))

    chain_low : (d : Direction) (w : Tagged) (p : ℕ) → c.capacity ≤ n → Low weighs (harm n) (wins_chain m p d w (chain_from c.capacity m.link w.index)) 4 (folding n d + 1) 7
    chain_low d w p few = by_direction d (chain_small c.capacity m.link w.index) (from_small w.index (chain_from c.capacity m.link w.index))
      where
        by_direction : (d : Direction) → length (chain_from c.capacity m.link w.index) ≤ c.capacity → from_node w.index (chain_from c.capacity m.link w.index) ≤ length (chain_from c.capacity m.link w.index)
            → Low weighs (harm n) (wins_chain m p d w (chain_from c.capacity m.link w.index)) 4 (folding n d + 1) 7
        by_direction Down a b = (omega (arith, a, b, few), omega arith)
        by_direction Up a b = (omega (arith, a, b, few), omega arith)

    take_low : (taking : Taking) (why why' why'' : TakeRefused) → Lower weighs (harm n) m 0 (weighs m (LoadTopToTake taking)) 7
        (cond m.top.second (refuses taking why) (cond (m.top.index == NULL) (refuses taking why') (cond (leb c.limit m.top.tag) (refuses taking why'') (takes taking m.top))))
    take_low One why why' why'' =
        either weighs (harm n) m 6 7 m.top.second (refuses One why) _ (omega arith, omega arith)
        (either weighs (harm n) m 6 7 (m.top.index == NULL) (refuses One why') _ (omega arith, omega arith)
        (either weighs (harm n) m 6 7 (leb c.limit m.top.tag) (refuses One why'') (takes One m.top) (omega arith, omega arith) (omega (arith, fresh m.top 3), omega arith)))
    take_low (Whole d) why why' why'' =
        either weighs (harm n) m (folding n d + 2) 7 m.top.second (refuses (Whole d) why) _ (omega arith, omega arith)
        (either weighs (harm n) m (folding n d + 2) 7 (m.top.index == NULL) (refuses (Whole d) why') _ (omega arith, omega arith)
        (either weighs (harm n) m (folding n d + 2) 7 (leb c.limit m.top.tag) (refuses (Whole d) why'') (takes (Whole d) m.top) (omega arith, omega arith) (omega (arith, fresh m.top 2), omega arith)))

    -- each step of a call lowers its weight, and pays what it spends
    pub step_falls : (p : ℕ) (l : Line T) → Ready l → is_idle l ≡ false → Low weighs (harm n) (step c m p l) (spends m l) (weighs m l) (harm n l)
    step_falls p (Idle a) f busy = absurd (false≢true (sym busy))
    step_falls p (LoadFree put) f busy =
        let spent : Line T = ends (AnswerPut (Err (PutSpent put.values FreeWord m.free.tag))) in
        either weighs (harm n) m (more n put + 3) (3 * need n put + 4) (m.free.index == NULL) (no_node put (LoadTopToRefuse put.values)) (cond (leb c.limit m.free.tag) (no_node put spent) (LoadFreeLink put m.free))
        (no_node_low put (LoadTopToRefuse put.values) (omega arith) (omega arith))
        (either weighs (harm n) m (more n put + 3) (3 * need n put + 4) (leb c.limit m.free.tag) (no_node put spent) (LoadFreeLink put m.free)
        (no_node_low put spent (omega arith) (omega arith))
        (omega (arith, fresh m.free 3), omega arith))
    step_falls p (TakeFree put w k) f busy =
        swaps weighs (harm n) m (same m.free w) (wins (after_hold m w k) (at_take_free put w) (Hold p)) (LoadFree put) 3 (more n put + 1) 3 (3 * need n put + 4) (λ b. take_free_low put w (after_hold m w k) (f b)) (omega arith, omega arith)
    step_falls p (LinkTaken put) f busy = next_low put m 0 (4 * further n put + over n (length put.values) + 5) (3 * further n put + 4) (omega arith) (omega arith) (omega arith)
    step_falls p (LoadTop put) f busy =
        let closed : Line T = gives put.chain (AnswerPut (Err (PutClosed put.values))) in
        let spent : Line T = gives put.chain (AnswerPut (Err (PutSpent put.values TopWord m.top.tag))) in
        either weighs (harm n) m 4 4 m.top.mark closed (cond (leb c.limit m.top.tag) spent (LinkToTop put m.top)) (omega arith, omega arith)
        (either weighs (harm n) m 4 4 (leb c.limit m.top.tag) spent (LinkToTop put m.top) (omega arith, omega arith) (omega (arith, fresh m.top 4), omega arith))
    step_falls p (SwapTop put w) f busy = swaps weighs (harm n) m (same m.top w) _ _ 4 1 4 4 (λ b. (omega arith, omega arith)) (omega arith, omega arith)
    step_falls p (LoadTopToRefuse values) f busy =
        let spent : Line T = ends (AnswerPut (Err (PutSpent values TopWord m.top.tag))) in
        let full : Line T = ends (AnswerPut (Err (PutFull values))) in
        either weighs (harm n) m 1 0 m.top.mark (ends (AnswerPut (Err (PutClosed values)))) (cond (leb c.limit m.top.tag) spent full) (omega arith, omega arith)
        (either weighs (harm n) m 1 0 (leb c.limit m.top.tag) spent full (omega arith, omega arith) (omega arith, omega arith))
    step_falls p (LoadTopToTake taking) f busy = take_low taking TakeShut (cond m.top.mark TakeClosed TakeEmpty) (TakeSpent TopWord m.top.tag)
    step_falls p (TakeTop w k) f busy = swaps weighs (harm n) m (same m.top w) (wins_value m p w k (m.home w.index)) (LoadTopToTake One) 4 4 3 7 (λ b. by_value (m.home w.index)) (omega arith, omega arith)
      where
        by_value : (o : Option (Slot T)) → Low weighs (harm n) (wins_value m p w k o) 4 4 7
        by_value (some (Some v)) = (omega arith, omega arith)
        by_value o = (omega arith, omega arith)
    step_falls p (TakeChain d w) f busy =
        swaps weighs (harm n) m (same m.top w) (wins_chain m p d w (chain_from c.capacity m.link w.index)) (LoadTopToTake (Whole d)) 4 (folding n d + 1) 2 7 (λ b. chain_low d w p f) (omega arith, omega arith)
    step_falls p (TurnLink give above i k) f busy =
        let turned : Giving T = record give { chain = reverse give.chain } in
        cases (Lower weighs (harm n) m 0 (weighs m (TurnLink give above i k)) 3) (k == NULL) (LoadLinkToFold turned i) (LoadLinkToTurn give i k)
        (λ b. (omega (arith, f.1.some, from_small i (reverse give.chain), length-reverse give.chain), omega arith))
        (λ b. let goes : m.link i ≢ NULL = λ e. grind (arith, nat_tests, f.0, e) in
        (omega (arith, f.1.next goes, ap (λ (j : ℕ). from_node j give.chain) f.0), omega arith))
    step_falls p (LoadLinkToFold give i) f busy =
        cases (Lower weighs (harm n) m 0 (weighs m (LoadLinkToFold give i)) 3) (m.link i == NULL) (LoadFreeToGive give) (LoadLinkToFold give (m.link i))
        (λ b. (omega (arith, f.some), omega arith))
        (λ b. let goes : m.link i ≢ NULL = λ e. grind (arith, nat_tests, e) in (omega (arith, f.next goes), omega arith))
    step_falls p (GiveBack give w) f busy = swaps weighs (harm n) m (same m.free w) _ _ 3 1 3 3 (λ b. (omega arith, omega arith)) (omega arith, omega arith)
    step_falls p LoadTopToClose f busy =
        either weighs (harm n) m 2 4 m.top.mark (ends (AnswerClose false)) (MarkTop m.top) (omega arith, omega arith) (omega (arith, fresh m.top 2), omega arith)
    step_falls p (MarkTop w) f busy = swaps weighs (harm n) m (same m.top w) _ _ 4 1 2 4 (λ b. (omega arith, omega arith)) (omega arith, omega arith)
    step_falls p LoadTopToShut f busy =
        either weighs (harm n) m 2 4 m.top.second (ends (AnswerShut false)) (ShutTop m.top) (omega arith, omega arith) (omega (arith, fresh m.top 2), omega arith)
    step_falls p (ShutTop w) f busy = swaps weighs (harm n) m (same m.top w) _ _ 4 1 2 4 (λ b. (omega arith, omega arith)) (omega arith, omega arith)
    step_falls p l f busy = (omega (arith, fresh), omega arith)

    -- a call of one value is ready in every state
    pub single_ready : 0 < n → (l : Line T) → IsSingle l → Ready l
    single_ready pos (TakeFree put w k) one = λ b few. omega (arith, one)
    single_ready pos (TakeChain d w) one = absurd one
    single_ready pos (TurnLink give above i k) one = absurd one
    single_ready pos (LoadLinkToFold give i) one = absurd one
    single_ready pos l one = tt

-- and so is each call where the rule holds
module _ {T : Type 0} {n limit : ℕ} {m : Memory T} {g : Lists} {who : ℕ → Option ℕ} {lines : List (Line T)} {history : List (Event T)} (x : Good T n limit m g who lines history) (q : ℕ) where
  held_once : (l : Line T) → get_elem? lines q ≡ some l → (j : ℕ) → times j (held l) ≤ 1
  held_once l at j = omega (arith, x.linked.once j, total_one (λ (u : Line T). times j (held u)) lines q l at, at_most_one j n)

  pub rule_ready : (l : Line T) → get_elem? lines q ≡ some l → Ready n (shape n limit) m l
  rule_ready (TakeFree put w k) at = λ won few.
      let f : IsFine limit m g (TakeFree put w k) = x.linked.fine q (TakeFree put w k) at in
      let r = ready limit m.free m.link g.frees w k x.linked.free_stands (same-is m.free w won) f.1 f.2 in
      omega (arith, x.told.room, x.told.out, total_one (λ (l : Line T). length (held l)) lines q (TakeFree put w k) at, ap length r.is)
  rule_ready (TakeChain d w) at = omega arith
  rule_ready (TurnLink give above i k) at =
      let f : IsFine limit m g (TurnLink give above i k) = x.linked.fine q (TurnLink give above i k) at in
      (f.1, nearer_end m.link give.chain (reverse f.0.turned) f.0.left i f.0.is f.0.downwards f.0.here (held_once (TurnLink give above i k) at))
  rule_ready (LoadLinkToFold give i) at =
      let f : Walks m.link give.chain i = x.linked.fine q (LoadLinkToFold give i) at in
      nearer_end m.link give.chain f.above f.left i f.is f.stands f.here (held_once (LoadLinkToFold give i) at)
  rule_ready l at = tt
