-- A step of any pass of the stack keeps what holds between any two steps, from any state where it holds.
use Rattle.std.proofs.Common.{◌≡◌, ◌≢◌, ℕ, ◌+◌, ◌<◌, ◌≤◌, true, false, cond, eqb, ltb, leb, List, [], ◌∷◌, ◌++◌, length, reverse, set, refl, sym, ap, ◌∙◌, subst, arith, append_assoc, eqb-true}
use Rattle.std.proofs.lemmas.Bool.Decides.{nat_tests}
use Rattle.std.proofs.lemmas.List.{reverse-append, reverse-reverse, append-nil, length-append, length-reverse, length-take-le}
use Rattle.std.specs.Prelude.{Option as Slot, Some, None, Ok, Err}
use mathlib.Core.Option.{Option, some}
use lib.ListN.{get_elem?}
use Rattle.tagged_index.specs.declared.word.TheConstants.{NULL}
use Rattle.bounded_model.specs.declared.answers.Word.TheVariants.{Free as FreeWord, Top as TopWord}
use Rattle.bounded_model.specs.declared.answers.PutRefused.TheVariants.{Full as PutFull, Closed as PutClosed, Spent as PutSpent}
use Rattle.bounded_model.specs.declared.answers.TakeRefused.TheVariants.{Empty as TakeEmpty, Closed as TakeClosed, Spent as TakeSpent, Shut as TakeShut}
use Rattle.bounded_model.specs.declared.answers.TakeRefused.{TakeRefused}
use Rattle.bounded_model.specs.declared.history.Event.{Event}
use Rattle.bounded_model.specs.declared.history.Event.TheVariants.{Hold, Put, TakeAll}
use Rattle.machine.specs.Words.{Tagged, store, times, Stands, IsChain}
use Rattle.stack_machine.specs.declared.lines.Putting.{Putting}
use Rattle.stack_machine.specs.declared.lines.Giving.{Giving}
use Rattle.stack_machine.specs.declared.lines.Direction.{Direction}
use Rattle.stack_machine.specs.declared.lines.Direction.TheVariants.{Down, Up}
use Rattle.stack_machine.specs.declared.lines.Taking.{Taking}
use Rattle.stack_machine.specs.declared.lines.Taking.TheVariants.{One, Whole}
use Rattle.stack_machine.specs.declared.lines.Answer.TheVariants.{Put as AnswerPut, Take as AnswerTake, Close as AnswerClose, Shut as AnswerShut, Look as AnswerLook, Gauge as AnswerGauge}
use Rattle.stack_machine.specs.declared.lines.Line.{Line}
use Rattle.stack_machine.specs.declared.lines.Line.TheVariants.{Idle, LoadFree, LoadFreeLink, TakeFree, LinkTaken, LoadTop, LinkToTop, SwapTop, LoadTopToRefuse, LoadTopToTake, LoadTopLink, TakeTop, TakeChain, LoadLinkToTurn, TurnLink, LoadLinkToFold, LoadFreeToGive, LinkToFree, GiveBack, LoadTopToClose, MarkTop, LoadTopToShut, ShutTop, LoadTopToLook, LoadTopToGauge}
use Rattle.stack_machine.specs.Machine.{after_put_of, Memory, memories, table, Outcome, placed, unplaced, with_node, held, ends, gives, next_node, no_node, refuses, takes, at_load_free, at_load_top_to_take, at_take_free, at_take_chain, at_turn_link, goes_on, wins, wins_value, wins_chain, step, after_hold, after_take_all, after_store}
use Rattle.machine.specs.Chains.{first, last, second, values_in}
use Rattle.stack_machine.specs.Answers.{shape}
use Rattle.stack_machine.specs.Rule.{Lists, Collects, Adds, Puts, Gives, Walks, Turns, IsFine, putting, Good, Kept}
use Rattle.machine.proofs.Tests.{cases}
use Rattle.machine.proofs.Program.{Cases, by_cases}
use Rattle.machine.proofs.Lists.{times_here, times_append, not_there, store_here, store_else, leads_frame, leads_from, none_of}
use Rattle.machine.proofs.OneList.{read_top, front_of}
use Rattle.machine.proofs.Chains.{times_reverse, leads_chain, chain_store_first, chain_store_last, first_in, last_in}
use Rattle.stack_machine.proofs.Linked.{held_once, turning_in}
use Rattle.stack_machine.proofs.Moves.{good_goes, good_store, good_hold, good_give, good_put, good_take, good_take_all, good_close, good_shut, no_null, all_nodes, all_values}

-- chains

one_chain : (link : ℕ → ℕ) (i : ℕ) (is : List ℕ) → length is ≡ 0 → IsChain link (i ∷ is)
one_chain link i [] h = tt
one_chain link i (j ∷ js) h = absurd (omega arith)

-- a walk goes on to the next node, or has come to its end
walk_on : (link : ℕ → ℕ) (chain : List ℕ) (i : ℕ) → Walks link chain i → link i ≢ NULL → Walks link chain (link i)
walk_on link chain i w on =
    let f = front_of link i w.left NULL w.here w.stands in
    record {
      above = w.above ++ (i ∷ []);
      left = f.rest;
      is = w.is ∙ ap (λ (is : List ℕ). w.above ++ is) f.is ∙ sym (append_assoc w.above (i ∷ []) f.rest);
      chained = w.chained;
      stands = f.leads;
      here = on;
    }

walk_gives : (link : ℕ → ℕ) (chain : List ℕ) (i : ℕ) → Walks link chain i → Gives link chain
walk_gives link chain i w =
    let f = front_of link i w.left NULL w.here w.stands in
    record { chained = w.chained; some_node = omega (arith, ap length w.is, length-append w.above w.left, ap length f.is) }

-- what is left of a turn after node i was linked upwards
record Turned (link : ℕ → ℕ) (chain : List ℕ) (lowest i : ℕ) (turned : List ℕ) : Type 0 where
  rest : List ℕ
  is : chain ≡ reverse (i ∷ turned) ++ rest
  upwards : Stands (store link i lowest) i (i ∷ turned)
  downwards : Stands (store link i lowest) (link i) rest

turn : (link : ℕ → ℕ) (chain : List ℕ) (lowest i : ℕ) → times i chain ≤ 1 → (t : Turns link chain lowest i) → Turned link chain lowest i t.turned
turn link chain lowest i once t =
    let f = front_of link i t.left NULL t.here t.downwards in
    let split : times i chain ≡ times i t.turned + (1 + times i f.rest) = omega (arith, ap (times i) t.is, times_append i (reverse t.turned) t.left, times_reverse i t.turned, ap (times i) f.is, times_here i f.rest) in
    record {
      rest = f.rest;
      is = t.is ∙ ap (λ (is : List ℕ). reverse t.turned ++ is) f.is ∙ sym (append_assoc (reverse t.turned) (i ∷ []) f.rest) ∙ ap (λ (is : List ℕ). is ++ f.rest) (sym (reverse-append (i ∷ []) t.turned));
      upwards = (
        refl,
        subst (λ (x : ℕ). Stands (store link i lowest) x t.turned) (sym (store_here link i lowest))
            (leads_frame link (store link i lowest) t.turned lowest NULL (λ j there. store_else link i lowest j (not_there i j t.turned (omega arith) there)) t.upwards),
      );
      downwards = leads_frame link (store link i lowest) f.rest (link i) NULL (λ j there. store_else link i lowest j (not_there i j f.rest (omega arith) there)) f.leads;
    }

turn_on : (link : ℕ → ℕ) (chain : List ℕ) (lowest i : ℕ) → times i chain ≤ 1 → Turns link chain lowest i → link i ≢ NULL → Turns (store link i lowest) chain i (link i)
turn_on link chain lowest i once t on =
    let u = turn link chain lowest i once t in
    record { turned = i ∷ t.turned; left = u.rest; is = u.is; upwards = u.upwards; downwards = u.downwards; here = on }

-- where nothing is left, the chain has been turned round
turn_ends : (link : ℕ → ℕ) (chain : List ℕ) (lowest i : ℕ) → times i chain ≤ 1 → times NULL chain ≡ 0 → Turns link chain lowest i → link i ≡ NULL → Walks (store link i lowest) (reverse chain) i
turn_ends link chain lowest i once never t end =
    let u = turn link chain lowest i once t in
    let nothing : u.rest ≡ [] = none_left u.rest (subst (λ (x : ℕ). Stands (store link i lowest) x u.rest) end u.downwards) (omega (arith, ap (times NULL) u.is, times_append NULL (reverse (i ∷ t.turned)) u.rest)) in
    let back : reverse chain ≡ i ∷ t.turned =
    ap reverse (u.is ∙ ap (λ (is : List ℕ). reverse (i ∷ t.turned) ++ is) nothing ∙ append-nil (reverse (i ∷ t.turned))) ∙ reverse-reverse (i ∷ t.turned) in
    record {
      above = [];
      left = reverse chain;
      is = refl;
      chained = subst (IsChain (store link i lowest)) (sym back) (leads_chain (store link i lowest) i (i ∷ t.turned) NULL u.upwards);
      stands = subst (λ (is : List ℕ). Stands (store link i lowest) i is) (sym back) u.upwards;
      here = t.here;
    }
  where
    none_left : (rest : List ℕ) → Stands (store link i lowest) NULL rest → times NULL rest ≡ 0 → rest ≡ []
    none_left [] s h = refl
    none_left (j ∷ js) s h = absurd (omega (arith, ap (λ (x : ℕ). times NULL (x ∷ js)) s.0, times_here NULL js))

module _ {T : Type 0} (n limit : ℕ) (m : Memory T) (who : ℕ → Option ℕ) (lines : List (Line T)) (history : List (Event T)) where
  -- the state after a pass's step
  abbrev pub After : ℕ → Outcome T → Type 0
  After q o = Kept T n limit o.memory who (set lines q o.line) (o.events ++ history)

  -- each line in turn
  module _ (q p : ℕ) (of : who q ≡ some p) (x : Kept T n limit m who lines history) where
    -- a step that changes no word, and one that stores at in the link of node i
    to : (l' : Line T) {l : Line T} → get_elem? lines q ≡ some l → held l' ≡ held l → length (putting l') ≤ length (putting l) → IsFine limit m x.lists l' → After q (goes_on m l')
    to l' {l} e mine fewer f = record { lists = x.lists; good = good_goes q l l' x.good e (λ i. ap (times i) mine) (ap length mine) fewer f }

    stores : (i at : ℕ) (l' : Line T) {l : Line T} → get_elem? lines q ≡ some l → 0 < times i (held l) → held l' ≡ held l → length (putting l') ≤ length (putting l) → IsFine limit (after_store m i at) x.lists l' → After q (goes_on (after_store m i at) l')
    stores i at l' {l} e here mine fewer f = record { lists = x.lists; good = good_store q i at l l' x.good e here (λ j. ap (times j) mine) (ap length mine) fewer f }

    no_node_left : (put : Putting T) (refused : Line T) → get_elem? lines q ≡ some (LoadFree put) → held refused ≡ [] → putting refused ≡ [] → ((g : Lists) → IsFine limit m g refused) → After q (goes_on m (no_node put refused))
    no_node_left put refused e none_held none_put fine =
        let f : Collects m.link put = x.good.linked.fine q (LoadFree put) e in
        cases (λ l. After q (goes_on m l)) (eqb (length put.chain) 0) refused (LoadTop put)
        (λ h. to refused e (none_held ∙ sym (none_of put.chain (eqb-true (length put.chain) 0 h))) (omega (arith, ap length none_put)) (fine x.lists))
        (λ h. to (LoadTop put) e refl (omega arith) (record { chained = f.chained; some_node = grind (arith, nat_tests); few = omega (arith, f.wants) }))

    load_free : (put : Putting T) → get_elem? lines q ≡ some (LoadFree put) → After q (goes_on m (at_load_free limit put m.free))
    load_free put e =
        let f : Collects m.link put = x.good.linked.fine q (LoadFree put) e in
        let refused : Line T = ends (AnswerPut (Err (PutSpent put.values FreeWord m.free.tag))) in
        cases (λ l. After q (goes_on m l)) (eqb m.free.index NULL) (no_node put (LoadTopToRefuse put.values)) (cond (leb limit m.free.tag) (no_node put refused) (LoadFreeLink put m.free))
        (λ h. no_node_left put (LoadTopToRefuse put.values) e refl refl (λ g. tt))
        (λ h. cases (λ l. After q (goes_on m l)) (leb limit m.free.tag) (no_node put refused) (LoadFreeLink put m.free)
        (λ h'. no_node_left put refused e refl refl (λ g. tt))
        (λ h'. to (LoadFreeLink put m.free) e refl (omega arith) (f, read_top limit m.free m.link x.lists.frees x.good.linked.free_stands (λ z. grind (arith, nat_tests)) (grind (arith, nat_tests)))))

    take_free : (put : Putting T) (w : Tagged) (k : ℕ) → get_elem? lines q ≡ some (TakeFree put w k) → m.free ≡ w → After q (wins (after_hold m w k) (at_take_free put w) (Hold p))
    take_free put w k e won =
        let f : IsFine limit m x.lists (TakeFree put w k) = x.good.linked.fine q (TakeFree put w k) e in
        let more : Putting T = with_node put w.index in
        let fewer : length put.chain < length put.values = f.0.wants in
        cases (λ l. After q (wins (after_hold m w k) l (Hold p))) (eqb (length put.chain) 0) (next_node more) (LinkTaken more)
        (λ h. let one : IsChain m.link more.chain = one_chain m.link w.index put.chain (eqb-true (length put.chain) 0 h) in
        cases (λ l. After q (wins (after_hold m w k) l (Hold p))) (ltb (length more.chain) (length more.values)) (LoadFree more) (LoadTop more)
        (λ b. good_hold q p (TakeFree put w k) (LoadFree more) w k x.good e of won f.1 f.2 refl (omega arith) (λ rest. record { chained = one; wants = grind (arith, nat_tests) }))
        (λ b. good_hold q p (TakeFree put w k) (LoadTop more) w k x.good e of won f.1 f.2 refl (omega arith) (λ rest. record { chained = one; some_node = omega arith; few = omega arith })))
        (λ h. good_hold q p (TakeFree put w k) (LinkTaken more) w k x.good e of won f.1 f.2 refl (omega arith) (λ rest. record { chained = f.0.chained; some_node = omega arith; few = omega arith }))

    -- a won put, with any values in the slots that the pass brings: its line need not name them
    put_won : (put : Putting T) (w : Tagged) (vs : List T) (l' : Line T) → get_elem? lines q ≡ some (SwapTop put w) → m.top ≡ w → length vs ≡ length put.chain → held l' ≡ [] → putting l' ≡ [] → ((g : Lists) → IsFine limit (after_put_of m w put.chain vs) g l')
        → Kept T n limit (after_put_of m w put.chain vs) who (set lines q l') (Put p vs w.tag ∷ history)
    put_won put w vs l' e won long mine' no_put fine =
        let f : IsFine limit m x.lists (SwapTop put w) = x.good.linked.fine q (SwapTop put w) e in
        let gives : Gives m.link put.chain = record { chained = f.0.chained; some_node = f.0.some_node } in
        let after : Lists = record { frees = x.lists.frees; stack = put.chain ++ x.lists.stack } in
        record { lists = after; good = good_put q p (SwapTop put w) l' w put.chain vs x.good e of won f.1 f.2 gives f.3 long refl refl mine' no_put (fine after) }

    refused : (taking : Taking) (why : TakeRefused) → get_elem? lines q ≡ some (LoadTopToTake taking) → After q (goes_on m (refuses taking why))
    refused One why e = to (refuses One why) e refl (omega arith) tt
    refused (Whole d) why e = to (refuses (Whole d) why) e refl (omega arith) tt

    takes_on : (taking : Taking) → get_elem? lines q ≡ some (LoadTopToTake taking) → m.top.second ≡ false → m.top.index ≢ NULL → m.top.tag < limit → After q (goes_on m (takes taking m.top))
    takes_on One e unshut node below = to (LoadTopLink m.top) e refl (omega arith) (read_top limit m.top m.link x.lists.stack x.good.linked.top_stands node below, unshut)
    takes_on (Whole d) e unshut node below = to (TakeChain d m.top) e refl (omega arith) (node, unshut, below)

    load_top_to_take : (taking : Taking) → get_elem? lines q ≡ some (LoadTopToTake taking) → After q (goes_on m (at_load_top_to_take limit taking m.top))
    load_top_to_take taking e =
        let none_there : Line T = refuses taking (cond m.top.mark TakeClosed TakeEmpty) in
        let spent : Line T = refuses taking (TakeSpent TopWord m.top.tag) in
        cases (λ l. After q (goes_on m l)) m.top.second (refuses taking TakeShut) (cond (eqb m.top.index NULL) none_there (cond (leb limit m.top.tag) spent (takes taking m.top)))
        (λ h. refused taking TakeShut e)
        (λ h. cases (λ l. After q (goes_on m l)) (eqb m.top.index NULL) none_there (cond (leb limit m.top.tag) spent (takes taking m.top))
        (λ h'. refused taking (cond m.top.mark TakeClosed TakeEmpty) e)
        (λ h'. cases (λ l. After q (goes_on m l)) (leb limit m.top.tag) spent (takes taking m.top)
        (λ b. refused taking (TakeSpent TopWord m.top.tag) e)
        (λ b. takes_on taking e h (λ z. grind (arith, nat_tests)) (grind (arith, nat_tests)))))

    take_top : (w : Tagged) (k : ℕ) → get_elem? lines q ≡ some (TakeTop w k) → m.top ≡ w → After q (wins_value m p w k (m.home w.index))
    take_top w k e top =
        let f : IsFine limit m x.lists (TakeTop w k) = x.good.linked.fine q (TakeTop w k) e in
        let given : T → Line T = λ v. gives (w.index ∷ []) (AnswerTake (Ok (v, w.tag))) in
        let t = good_take q p (TakeTop w k) given w k x.good e of top f.1 f.0 f.2 refl (λ v. refl) (λ v. refl) (λ v rest. record { chained = tt; some_node = omega arith }) in
        let won : After q (wins_value m p w k (some (Some t.value))) = record { lists = t.lists; good = t.good } in
        subst (λ (o : Option (Slot T)). After q (wins_value m p w k o)) (sym t.here) won

    -- all nodes of the stack are in hand, in either order
    all_taken : (d : Direction) (w : Tagged) → get_elem? lines q ≡ some (TakeChain d w) → m.top ≡ w → (l' : Line T) → held l' ≡ x.lists.stack → putting l' ≡ []
        → (Stands m.link w.index x.lists.stack → w.index ≢ NULL → IsFine limit (after_take_all m w x.lists.stack) (record { frees = x.lists.frees; stack = [] }) l')
        → Kept T n limit (after_take_all m w x.lists.stack) who (set lines q l') (TakeAll p (values_in m.home x.lists.stack) w.tag ∷ history)
    all_taken d w e won l' mine no_put fine =
        let f : IsFine limit m x.lists (TakeChain d w) = x.good.linked.fine q (TakeChain d w) e in
        let stands : Stands m.link w.index x.lists.stack = leads_from m.link m.top.index w.index x.lists.stack NULL (ap (λ (y : Tagged). y.index) won) x.good.linked.top_stands in
        let after : Lists = record { frees = x.lists.frees; stack = [] } in
        record {
          lists = after;
          good = subst (λ (vs : List T). Good T n limit (after_take_all m w x.lists.stack) after who (set lines q l') (TakeAll p vs w.tag ∷ history)) (sym (all_values x.good))
              (good_take_all q p (TakeChain d w) l' w x.good e of won f.1 f.2 f.0 refl mine no_put (fine stands f.0));
        }

    take_all : (d : Direction) (w : Tagged) → get_elem? lines q ≡ some (TakeChain d w) → m.top ≡ w → After q (wins_chain m p d w x.lists.stack)
    take_all Down w e won = all_taken Down w e won (at_take_chain Down w x.lists.stack (values_in m.home x.lists.stack)) refl refl
        (λ stands node. record { above = []; left = x.lists.stack; is = refl; chained = leads_chain m.link w.index x.lists.stack NULL stands; stands = stands; here = node })
    take_all Up w e won = all_taken Up w e won (at_take_chain Up w x.lists.stack (values_in m.home x.lists.stack)) refl refl
        (λ stands node. record { turned = []; left = x.lists.stack; is = refl; upwards = refl; downwards = stands; here = node })

    turn_link : (give : Giving T) (lowest i k : ℕ) → get_elem? lines q ≡ some (TurnLink give lowest i k) → After q (goes_on (after_store m i lowest) (at_turn_link give i k))
    turn_link give lowest i k e =
        let f : IsFine limit m x.lists (TurnLink give lowest i k) = x.good.linked.fine q (TurnLink give lowest i k) e in
        let here = turning_in m.link give.chain lowest i f.0 in
        let once : times i give.chain ≤ 1 = omega (arith, held_once q i (TurnLink give lowest i k) x.good.linked e) in
        let back : Giving T = record give { chain = reverse give.chain } in
        cases (λ l. After q (goes_on (after_store m i lowest) l)) (eqb k NULL) (LoadLinkToFold back i) (LoadLinkToTurn give i k)
        (λ h. record {
          lists = x.lists;
          good = good_store q i lowest (TurnLink give lowest i k) (LoadLinkToFold back i) x.good e here (λ j. times_reverse j give.chain) (length-reverse give.chain) (omega arith)
              (turn_ends m.link give.chain lowest i once (omega (arith, no_null q (TurnLink give lowest i k) x.good e)) f.0 (f.1 ∙ eqb-true k NULL h));
        })
        (λ h. let on : m.link i ≢ NULL = λ z. grind (arith, nat_tests, f.1) in
        stores i lowest (LoadLinkToTurn give i k) e here refl (omega arith) (subst (λ (y : ℕ). Turns (store m.link i lowest) give.chain i y) f.1 (turn_on m.link give.chain lowest i once f.0 on)))

    kept : (l : Line T) → get_elem? lines q ≡ some l → Cases memories (Idle None) m p (After q) l (table (shape n limit) l)
    kept (Idle a) e = to (Idle a) e refl (omega arith) tt
    kept (LoadFree put) e = load_free put e
    kept (LoadFreeLink put w) e =
        let f : IsFine limit m x.lists (LoadFreeLink put w) = x.good.linked.fine q (LoadFreeLink put w) e in
        to (TakeFree put w (m.link w.index)) e refl (omega arith) (f.0, f.1, λ t. refl)
    kept (TakeFree put w k) e =
        let f : IsFine limit m x.lists (TakeFree put w k) = x.good.linked.fine q (TakeFree put w k) e in
        (λ won. take_free put w k e won, to (LoadFree put) e refl (omega arith) f.0)
    kept (LinkTaken put) e =
        let f : Adds m.link put = x.good.linked.fine q (LinkTaken put) e in
        let i = first put.chain in
        let once : times i put.chain ≤ 1 = omega (arith, held_once q i (LinkTaken put) x.good.linked e) in
        let chained : IsChain (store m.link i (second put.chain)) put.chain = chain_store_first m.link put.chain once f.chained in
        let here = first_in put.chain f.some_node in
        let few : length put.chain ≤ length put.values = f.few in
        cases (λ l. After q (goes_on (after_store m i (second put.chain)) l)) (ltb (length put.chain) (length put.values)) (LoadFree put) (LoadTop put)
        (λ b. stores i (second put.chain) (LoadFree put) e here refl (omega arith) (record { chained = chained; wants = grind (arith, nat_tests) }))
        (λ b. stores i (second put.chain) (LoadTop put) e here refl (omega arith) (record { chained = chained; some_node = f.some_node; few = few }))
    kept (LoadTop put) e =
        let f : Puts m.link put = x.good.linked.fine q (LoadTop put) e in
        let closed : Line T = gives put.chain (AnswerPut (Err (PutClosed put.values))) in
        let spent : Line T = gives put.chain (AnswerPut (Err (PutSpent put.values TopWord m.top.tag))) in
        cases (λ l. After q (goes_on m l)) m.top.mark closed (cond (leb limit m.top.tag) spent (LinkToTop put m.top))
        (λ h. to closed e refl (omega arith) (record { chained = f.chained; some_node = f.some_node }))
        (λ h. cases (λ l. After q (goes_on m l)) (leb limit m.top.tag) spent (LinkToTop put m.top)
        (λ h'. to spent e refl (omega arith) (record { chained = f.chained; some_node = f.some_node }))
        (λ h'. to (LinkToTop put m.top) e refl (omega arith) (f, h, grind (arith, nat_tests))))
    kept (LinkToTop put w) e =
        let f : IsFine limit m x.lists (LinkToTop put w) = x.good.linked.fine q (LinkToTop put w) e in
        let i = last put.chain in
        let once : times i put.chain ≤ 1 = omega (arith, held_once q i (LinkToTop put w) x.good.linked e) in
        stores i w.index (SwapTop put w) e (last_in put.chain f.0.some_node) refl (omega arith)
        (record { chained = chain_store_last m.link put.chain w.index once f.0.chained; some_node = f.0.some_node; few = f.0.few }, f.1, f.2, store_here m.link i w.index)
    kept (SwapTop put w) e =
        let f : IsFine limit m x.lists (SwapTop put w) = x.good.linked.fine q (SwapTop put w) e in
        (λ won. put_won put w (placed put) (ends (AnswerPut (Ok (w.tag, unplaced put)))) e won (length-take-le (length put.chain) put.values f.0.few) refl refl (λ g. tt), to (LoadTop put) e refl (omega arith) f.0)
    kept (LoadTopToRefuse values) e =
        let closed : Line T = ends (AnswerPut (Err (PutClosed values))) in
        let spent : Line T = ends (AnswerPut (Err (PutSpent values TopWord m.top.tag))) in
        let full : Line T = ends (AnswerPut (Err (PutFull values))) in
        cases (λ l. After q (goes_on m l)) m.top.mark closed (cond (leb limit m.top.tag) spent full)
        (λ h. to closed e refl (omega arith) tt)
        (λ h. cases (λ l. After q (goes_on m l)) (leb limit m.top.tag) spent full (λ h'. to spent e refl (omega arith) tt) (λ h'. to full e refl (omega arith) tt))
    kept (LoadTopToTake taking) e = load_top_to_take taking e
    kept (LoadTopLink w) e =
        let f : IsFine limit m x.lists (LoadTopLink w) = x.good.linked.fine q (LoadTopLink w) e in
        to (TakeTop w (m.link w.index)) e refl (omega arith) (f.0, f.1, λ t. refl)
    kept (TakeTop w k) e = (λ won. take_top w k e won, to (LoadTopToTake One) e refl (omega arith) tt)
    kept (TakeChain d w) e = (
      λ won. subst (λ (c : List ℕ). After q (wins_chain m p d w c)) (sym (all_nodes q (TakeChain d w) w x.good e won)) (take_all d w e won),
      to (LoadTopToTake (Whole d)) e refl (omega arith) tt,
    )
    kept (LoadLinkToTurn give lowest i) e = to (TurnLink give lowest i (m.link i)) e refl (omega arith) (x.good.linked.fine q (LoadLinkToTurn give lowest i) e, refl)
    kept (TurnLink give lowest i k) e = turn_link give lowest i k e
    kept (LoadLinkToFold give i) e =
        let f : Walks m.link give.chain i = x.good.linked.fine q (LoadLinkToFold give i) e in
        cases (λ l. After q (goes_on m l)) (eqb (m.link i) NULL) (LoadFreeToGive give) (LoadLinkToFold give (m.link i))
        (λ h. to (LoadFreeToGive give) e refl (omega arith) (walk_gives m.link give.chain i f))
        (λ h. to (LoadLinkToFold give (m.link i)) e refl (omega arith) (walk_on m.link give.chain i f (λ z. grind (arith, nat_tests))))
    kept (LoadFreeToGive give) e = to (LinkToFree give m.free) e refl (omega arith) (x.good.linked.fine q (LoadFreeToGive give) e)
    kept (LinkToFree give w) e =
        let f : Gives m.link give.chain = x.good.linked.fine q (LinkToFree give w) e in
        let i = last give.chain in
        let once : times i give.chain ≤ 1 = omega (arith, held_once q i (LinkToFree give w) x.good.linked e) in
        stores i w.index (GiveBack give w) e (last_in give.chain f.some_node) refl (omega arith)
        (record { chained = chain_store_last m.link give.chain w.index once f.chained; some_node = f.some_node }, store_here m.link i w.index)
    kept (GiveBack give w) e =
        let f : IsFine limit m x.lists (GiveBack give w) = x.good.linked.fine q (GiveBack give w) e in (
          λ won. record { lists = record { frees = give.chain ++ x.lists.frees; stack = x.lists.stack }; good = good_give q p (GiveBack give w) (ends give.answer) w give.chain x.good e of won f.0 f.1 refl refl refl tt },
          to (LoadFreeToGive give) e refl (omega arith) f.0,
        )
    kept LoadTopToClose e = cases (λ l. After q (goes_on m l)) m.top.mark (ends (AnswerClose false)) (MarkTop m.top) (λ h. to (ends (AnswerClose false)) e refl (omega arith) tt) (λ h. to (MarkTop m.top) e refl (omega arith) h)
    kept (MarkTop w) e = (
      λ won. record { lists = x.lists; good = good_close q p (MarkTop w) (ends (AnswerClose true)) w x.good e of won (x.good.linked.fine q (MarkTop w) e) refl refl refl tt },
      to LoadTopToClose e refl (omega arith) tt,
    )
    kept LoadTopToShut e = cases (λ l. After q (goes_on m l)) m.top.second (ends (AnswerShut false)) (ShutTop m.top) (λ h. to (ends (AnswerShut false)) e refl (omega arith) tt) (λ h. to (ShutTop m.top) e refl (omega arith) h)
    kept (ShutTop w) e = (
      λ won. record { lists = x.lists; good = good_shut q p (ShutTop w) (ends (AnswerShut true)) w x.good e of won (x.good.linked.fine q (ShutTop w) e) refl refl refl tt },
      to LoadTopToShut e refl (omega arith) tt,
    )
    kept LoadTopToLook e = to (ends (AnswerLook (eqb m.top.index NULL))) e refl (omega arith) tt
    kept LoadTopToGauge e = to (ends (AnswerGauge m.top.mark m.top.tag)) e refl (omega arith) tt

    -- a step of any pass, from any state where the rule holds
    pub step_kept : (l : Line T) → get_elem? lines q ≡ some l → After q (step (shape n limit) m p l)
    step_kept l e = by_cases memories (Idle None) m p (After q) l (table (shape n limit) l) (kept l e)
