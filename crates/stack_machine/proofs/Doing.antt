-- Each step of a pass of the stack carries on what it has done.
use Rattle.std.proofs.Common.{◌≡◌, ℕ, zero, suc, ◌<◌, ◌≤◌, true, false, cond, eqb, ltb, leb, List, [], ◌∷◌, ◌++◌, length, reverse, refl, sym, ap, ◌∙◌, subst, inl, inr, ⊎_elim, append_assoc, eqb-true, leb-true, arith, Option as Slot, Some, None, Result, Ok, Err}
use Rattle.std.proofs.lemmas.Bool.Decides.{nat_tests}
use Rattle.std.proofs.lemmas.List.{length-take-le, length-reverse, drop_all, take-append-drop}
use mathlib.Core.Option.{Option, some}
use Rattle.tagged_index.specs.declared.word.TheConstants.{NULL}
use Rattle.bounded_model.specs.declared.answers.Word.TheVariants.{Free as FreeWord, Top as TopWord}
use Rattle.bounded_model.specs.declared.answers.PutRefused.{PutRefused}
use Rattle.bounded_model.specs.declared.answers.PutRefused.TheVariants.{Full as PutFull, Closed as PutClosed, Spent as PutSpent}
use Rattle.bounded_model.specs.declared.answers.TakeRefused.{TakeRefused}
use Rattle.bounded_model.specs.declared.answers.TakeRefused.TheVariants.{Empty as TakeEmpty, Closed as TakeClosed, Spent as TakeSpent, Shut as TakeShut}
use Rattle.bounded_model.specs.declared.history.Event.{Event}
use Rattle.bounded_model.specs.declared.history.Event.TheVariants.{Hold, Put, Take, TakeAll, Free, Close, Shut}
use Rattle.bounded_model.specs.Machine.{Shape, state}
use Rattle.bounded_model.specs.Histories.{own, pass_of, Later}
use Rattle.bounded_model.specs.Justified.{IsFull}
use Rattle.bounded_model.specs.Laws.{holds_of, gave_back}
use Rattle.bounded_model.proofs.Histories.{own-append, own-mine, Later-refl, Later-cons}
use Rattle.bounded_model.proofs.Adding.{Sometime-now, Sometime-wider}
use Rattle.machine.specs.Words.{Tagged, times}
use Rattle.machine.specs.OneList.{ReadTop}
use Rattle.bounded_model.specs.Bulk.{HasNoCell}
use Rattle.stack_machine.specs.declared.lines.Putting.{Putting}
use Rattle.stack_machine.specs.declared.lines.Direction.{Direction}
use Rattle.stack_machine.specs.declared.lines.Direction.TheVariants.{Down, Up}
use Rattle.stack_machine.specs.declared.lines.Taking.{Taking}
use Rattle.stack_machine.specs.declared.lines.Taking.TheVariants.{One, Whole}
use Rattle.stack_machine.specs.declared.lines.Answer.{Answer}
use Rattle.stack_machine.specs.declared.lines.Answer.TheVariants.{Put as AnswerPut, Take as AnswerTake, Fold as AnswerFold, Close as AnswerClose, Shut as AnswerShut, Look as AnswerLook, Gauge as AnswerGauge}
use Rattle.stack_machine.specs.declared.lines.Line.{Line}
use Rattle.stack_machine.specs.declared.lines.Line.TheVariants.{Idle, LoadFree, LoadFreeLink, TakeFree, LinkTaken, LoadTop, LinkToTop, SwapTop, LoadTopToRefuse, LoadTopToTake, LoadTopLink, TakeTop, TakeChain, LoadLinkToTurn, TurnLink, LoadLinkToFold, LoadFreeToGive, LinkToFree, GiveBack, LoadTopToClose, MarkTop, LoadTopToShut, ShutTop, LoadTopToLook, LoadTopToGauge}
use Rattle.stack_machine.specs.Machine.{Memory, memories, table, Outcome, starts, step, at_load_top, at_load_top_to_refuse, at_load_top_to_take, wins_value, wins_chain, at_load_free, at_take_free, refuses, takes, ends, gives, no_node, next_node, with_node, placed, unplaced}
use Rattle.machine.specs.Chains.{values_in, chain_from}
use Rattle.stack_machine.specs.Rule.{Lists, IsFine}
use Rattle.stack_machine.specs.declared.lines.Call.{Call}
use Rattle.stack_machine.specs.declared.lines.Call.TheVariants.{Put as CallPut, Take as CallTake, Close as CallClose, Shut as CallShut, Look as CallLook, Gauge as CallGauge}
use Rattle.stack_machine.specs.Deeds.{BackedOut, MakesPut, MakesNothing, Makes, IsPut, HasHeld, HasMade, HasAll, PutsAll, IsAll, Deeds}
use Rattle.stack_machine.specs.Answers.{shape}
use Rattle.machine.proofs.Ahead.{Ahead}
use Rattle.machine.proofs.Tests.{cases}
use Rattle.machine.proofs.Program.{Cases, by_cases}

-- a slot has a value
pub record Stocked {T : Type 0} (home : ℕ → Option (Slot T)) (i : ℕ) : Type 0 where
  pub value : T
  pub here : home i ≡ some (Some value)

-- what the words say of the history and of the values
pub record Reads {T : Type 0} (c : Shape) (m : Memory T) (g : Lists) (h : List (Event T)) : Type 0 where
  pub full : m.free.index ≡ NULL → IsFull c h
  pub spent : c.limit ≤ m.free.tag → (state c h).holds ≡ c.limit
  pub valued : length (values_in m.home (chain_from c.capacity m.link m.top.index)) ≡ length (chain_from c.capacity m.link m.top.index)
  pub stocked : 0 < length g.stack → Stocked m.home m.top.index

some_there : (i : ℕ) (is : List ℕ) → 0 < times i is → 0 < length is
some_there i [] there = there
some_there i (j ∷ is) there = omega arith

gives_back : {T : Type 0} (p k : ℕ) → 0 < k → ◌≡◌ {A = List (Event T)} (Free p k ∷ holds_of p k) (gave_back p k)
gives_back p zero h = absurd (omega arith)
gives_back p (suc k) h = refl

module _ {T : Type 0} (c : Shape) where
  -- what was so at some time of the operation stays so for a later end
  puts_later : (begun seen h : List (Event T)) (a : Answer T) → Later seen h → PutsAll c begun seen a → PutsAll c begun h a
  puts_later begun seen h (AnswerPut (Ok r)) later k = ⊎_elim (λ e. inl e) (λ x. inr (Sometime-wider (Later-refl begun) later x)) k
  puts_later begun seen h a later k = tt

  all_later : (begun seen h : List (Event T)) (put : Putting T) → Later seen h → HasAll c begun seen put → HasAll c begun h put
  all_later begun seen h put later k = ⊎_elim (λ e. inl e) (λ x. inr (Sometime-wider (Later-refl begun) later x)) k

  still_all : (begun seen h : List (Event T)) (l : Line T) → Later seen h → IsAll c begun seen l → IsAll c begun h l
  still_all begun seen h (Idle (Some a)) later k = puts_later begun seen h a later k
  still_all begun seen h (LoadTop put) later k = all_later begun seen h put later k
  still_all begun seen h (LinkToTop put w) later k = all_later begun seen h put later k
  still_all begun seen h (SwapTop put w) later k = all_later begun seen h put later k
  still_all begun seen h (LoadLinkToTurn give above i) later k = puts_later begun seen h give.answer later k
  still_all begun seen h (TurnLink give above i x) later k = puts_later begun seen h give.answer later k
  still_all begun seen h (LoadLinkToFold give i) later k = puts_later begun seen h give.answer later k
  still_all begun seen h (LoadFreeToGive give) later k = puts_later begun seen h give.answer later k
  still_all begun seen h (LinkToFree give w) later k = puts_later begun seen h give.answer later k
  still_all begun seen h (GiveBack give w) later k = puts_later begun seen h give.answer later k
  still_all begun seen h l later k = tt

  -- the story goes on to a later history, to which others alone have added
  pub meanwhile : (p : ℕ) (call : Call T) (begun seen h : List (Event T)) (l : Line T) → Ahead p seen h → Deeds c p call l begun seen → Deeds c p call l begun h
  meanwhile p call begun seen h l a s = record {
    between = a.rest ++ s.between;
    is = a.is ∙ ap (λ (x : List (Event T)). a.rest ++ x) s.is ∙ sym (append_assoc a.rest s.between begun);
    made = subst (HasMade p call l) (sym (own-append p a.rest s.between ∙ ap (λ (x : List (Event T)). x ++ own p s.between) a.none_own)) s.made;
    all = still_all begun seen h l (record { more = a.rest; is = a.is }) s.all;
  }

  -- a call that has just been begun has done nothing
  pub begins : (p : ℕ) (h : List (Event T)) (call : Call T) → Deeds c p call (starts call) h h
  begins p h (CallPut v vs) = record { between = []; is = refl; made = (refl, refl, omega arith); all = tt }
  begins p h call = record { between = []; is = refl; made = (refl, refl); all = tt }

module _ {T : Type 0} (n limit : ℕ) (p : ℕ) (call : Call T) (begun h : List (Event T)) where
  abbrev c : Shape
  c = shape n limit

  abbrev At : Line T → Type 0
  At l = Deeds c p call l begun h

  abbrev Does : Outcome T → Type 0
  Does o = Deeds c p call o.line begun (o.events ++ h)

  -- a step without an event
  stays : {l l' : Line T} (s : At l) → HasMade p call l' (own p s.between) → IsAll c begun h l' → At l'
  stays s made all = record { between = s.between; is = s.is; made = made; all = all }

  -- a step with an event
  adds : {l l' : Line T} (e : Event T) (s : At l) → pass_of e ≡ p → HasMade p call l' (e ∷ own p s.between) → IsAll c begun (e ∷ h) l' → Deeds c p call l' begun (e ∷ h)
  adds {l' = l'} e s mine made all = record {
    between = e ∷ s.between;
    is = ap (λ (x : List (Event T)). e ∷ x) s.is;
    made = subst (HasMade p call l') (sym (own-mine p e s.between mine)) made;
    all = all;
  }

  -- an answer to the call, whichever of its names it goes by
  of : (call' : Call T) (a : Answer T) (events : List (Event T)) → call ≡ call' → Makes p call' a events → Makes p call a events
  of call' a events is made = subst (λ (k : Call T). Makes p k a events) (sym is) made

  of_put : (values : List T) (r : Result (ℕ × List T) (PutRefused (List T))) (events : List (Event T)) → IsPut p call values → MakesPut p values r events → Makes p call (AnswerPut r) events
  of_put values r events is made = put call is
    where
      put : (k : Call T) → IsPut p k values → Makes p k (AnswerPut r) events
      put (CallPut v vs) e = subst (λ (ws : List T). MakesPut p ws r events) e made
      put k e = absurd e

  -- a put that holds no node has made no event
  nothing_made : (put : Putting T) (events : List (Event T)) → HasHeld p call put events → length put.chain ≡ 0 → events ≡ []
  nothing_made put events e none_held = e.1 ∙ ap (λ (k : ℕ). holds_of p k) none_held

  backs_out : (most : ℕ) (events : List (Event T)) → events ≡ [] → BackedOut p most events
  backs_out most events e = record { nodes = 0; at_most = omega arith; is = e }

  next_does : {l : Line T} (put : Putting T) (s : At l) → HasHeld p call put (own p s.between) → At (next_node put)
  next_does put s made = cases At (ltb (length put.chain) (length put.values)) (LoadFree put) (LoadTop put)
      (λ e. stays s made tt)
      (λ e. stays s made (inl (grind (arith, nat_tests))))

  -- a load of TOP by a put that found no node
  load_top_to_refuse_does : (values : List T) (w : Tagged) → At (LoadTopToRefuse values) → At (at_load_top_to_refuse limit values w)
  load_top_to_refuse_does values w s =
      let closed : Line T = ends (AnswerPut (Err (PutClosed values))) in
      let spent : Line T = ends (AnswerPut (Err (PutSpent values TopWord w.tag))) in
      let full : Line T = ends (AnswerPut (Err (PutFull values))) in
      let none_made : BackedOut p (length values) (own p s.between) = backs_out (length values) (own p s.between) s.made.1 in
      cases At w.mark closed (cond (leb limit w.tag) spent full)
      (λ e. stays s (of_put values (Err (PutClosed values)) (own p s.between) s.made.0 (refl, none_made)) tt)
      (λ e. cases At (leb limit w.tag) spent full
      (λ e. stays s (of_put values (Err (PutSpent values TopWord w.tag)) (own p s.between) s.made.0 (refl, none_made)) tt)
      (λ e. stays s (of_put values (Err (PutFull values)) (own p s.between) s.made.0 (refl, s.made.1)) tt))

  -- a load of TOP by a put that holds nodes: it gives them back, or goes on
  load_top_does : (put : Putting T) (w : Tagged) → 0 < length put.chain → length put.chain ≤ length put.values → At (LoadTop put) → At (at_load_top limit put w)
  load_top_does put w some_node few s =
      let closed : Line T = gives put.chain (AnswerPut (Err (PutClosed put.values))) in
      let spent : Line T = gives put.chain (AnswerPut (Err (PutSpent put.values TopWord w.tag))) in
      let backs : BackedOut p (length put.values) (Free p (length put.chain) ∷ own p s.between) = record {
        nodes = length put.chain;
        at_most = few;
        is = ap (λ (x : List (Event T)). Free p (length put.chain) ∷ x) s.made.1 ∙ gives_back p (length put.chain) some_node;
      } in
      cases At w.mark closed (cond (leb limit w.tag) spent (LinkToTop put w))
      (λ e. stays s (of_put put.values (Err (PutClosed put.values)) (Free p (length put.chain) ∷ own p s.between) s.made.0 (refl, backs)) tt)
      (λ e. cases At (leb limit w.tag) spent (LinkToTop put w)
      (λ e. stays s (of_put put.values (Err (PutSpent put.values TopWord w.tag)) (Free p (length put.chain) ∷ own p s.between) s.made.0 (refl, backs)) tt)
      (λ e. stays s s.made s.all))

  -- a load of TOP by a take or a fold
  refuses_does : (taking : Taking) (why : TakeRefused) → (s : At (LoadTopToTake taking)) → MakesNothing p why (own p s.between) → At (refuses taking why)
  refuses_does One why s did = stays s (of (CallTake One) (AnswerTake (Err why)) (own p s.between) s.made.0 did) tt
  refuses_does (Whole d) why s did = stays s (of (CallTake (Whole d)) (AnswerFold (Err why)) (own p s.between) s.made.0 did) tt

  takes_does : (taking : Taking) (w : Tagged) → At (LoadTopToTake taking) → At (takes taking w)
  takes_does One w s = stays s s.made tt
  takes_does (Whole d) w s = stays s s.made tt

  load_top_to_take_does : (taking : Taking) (w : Tagged) → At (LoadTopToTake taking) → At (at_load_top_to_take limit taking w)
  load_top_to_take_does taking w s =
      let nothing : TakeRefused = cond w.mark TakeClosed TakeEmpty in
      cases At w.second (refuses taking TakeShut) (cond (eqb w.index NULL) (refuses taking nothing) (cond (leb limit w.tag) (refuses taking (TakeSpent TopWord w.tag)) (takes taking w)))
      (λ e. refuses_does taking TakeShut s s.made.1)
      (λ e. cases At (eqb w.index NULL) (refuses taking nothing) (cond (leb limit w.tag) (refuses taking (TakeSpent TopWord w.tag)) (takes taking w))
      (λ e. cases (λ (why : TakeRefused). At (refuses taking why)) w.mark TakeClosed TakeEmpty (λ e. refuses_does taking TakeClosed s s.made.1) (λ e. refuses_does taking TakeEmpty s s.made.1))
      (λ e. cases At (leb limit w.tag) (refuses taking (TakeSpent TopWord w.tag)) (takes taking w)
      (λ e. refuses_does taking (TakeSpent TopWord w.tag) s s.made.1)
      (λ e. takes_does taking w s)))

  -- a load of FREE
  no_node_does : (put : Putting T) (refused : Line T) → (s : At (LoadFree put)) → HasNoCell c h → (own p s.between ≡ [] → At refused) → At (no_node put refused)
  no_node_does put refused s none_free refuse = cases At (eqb (length put.chain) 0) refused (LoadTop put)
      (λ e. refuse (nothing_made put (own p s.between) s.made (eqb-true (length put.chain) 0 e)))
      (λ e. stays s s.made (inr (Sometime-now (record { more = s.between; is = s.is }) none_free)))

  module _ (m : Memory T) where
    load_free_does : (g : Lists) (put : Putting T) → Reads c m g h → At (LoadFree put) → At (at_load_free limit put m.free)
    load_free_does g put r s =
        let refused : Line T = ends (AnswerPut (Err (PutSpent put.values FreeWord m.free.tag))) in
        cases At (eqb m.free.index NULL) (no_node put (LoadTopToRefuse put.values)) (cond (leb limit m.free.tag) (no_node put refused) (LoadFreeLink put m.free))
        (λ e. no_node_does put (LoadTopToRefuse put.values) s (inl (r.full (eqb-true m.free.index NULL e))) (λ none_made. stays s (s.made.0, none_made) tt))
        (λ e. cases At (leb limit m.free.tag) (no_node put refused) (LoadFreeLink put m.free)
        (λ e. no_node_does put refused s (inr (r.spent (leb-true limit m.free.tag e))) (λ none_made. stays s (of_put put.values (Err (PutSpent put.values FreeWord m.free.tag)) (own p s.between) s.made.0 (refl, none_made)) tt))
        (λ e. stays s s.made tt))

    -- an exchange that takes a node
    take_free_does : (put : Putting T) (w : Tagged) (k : ℕ) → length put.chain < length put.values → At (TakeFree put w k) → Deeds c p call (at_take_free put w) begun (Hold p ∷ h)
    take_free_does put w k wants s =
        let more : Putting T = with_node put w.index in
        let holds_one : HasHeld p call more (Hold p ∷ own p s.between) = (s.made.0, ap (λ (x : List (Event T)). Hold p ∷ x) s.made.1, omega arith) in
        cases Held (eqb (length put.chain) 0) (next_node more) (LinkTaken more)
        (λ e. cases Held (ltb (length more.chain) (length more.values)) (LoadFree more) (LoadTop more)
        (λ e. adds (Hold p) s refl holds_one tt)
        (λ e. adds (Hold p) s refl holds_one (inl (grind (arith, nat_tests)))))
        (λ e. adds (Hold p) s refl holds_one tt)
      where
        Held : Line T → Type 0
        Held l = Deeds c p call l begun (Hold p ∷ h)

    -- the exchange that puts
    swap_top_does : (put : Putting T) (w : Tagged) → 0 < length put.chain → length put.chain ≤ length put.values → At (SwapTop put w) → Deeds c p call (ends (AnswerPut (Ok (w.tag, unplaced put)))) begun (Put p (placed put) w.tag ∷ h)
    swap_top_does put w some_node few s =
        let event : Event T = Put p (placed put) w.tag in
        let long : length (placed put) ≡ length put.chain = length-take-le (length put.chain) put.values few in
        adds event s refl
        (of_put put.values (Ok (w.tag, unplaced put)) (event ∷ own p s.between) s.made.0 (record {
          values = placed put;
          some_value = omega arith;
          all = take-append-drop (length put.chain) put.values;
          is = ap (λ (x : List (Event T)). event ∷ x) (s.made.1 ∙ ap (λ (k : ℕ). holds_of p k) (sym long));
        }))
        (⊎_elim (λ e. inl (drop_all (length put.chain) put.values e)) (λ x. inr (Sometime-wider (Later-refl begun) (Later-cons event h) x)) s.all)

    -- the exchange that takes one value finds it
    take_top_does : (w : Tagged) (k : ℕ) (g : Lists) → Reads c m g h → ReadTop limit m.top g.stack w → At (TakeTop w k) → m.top ≡ w → Does (wins_value m p w k (m.home w.index))
    take_top_does w k g r read s won =
        let found = r.stocked (some_there w.index g.stack (read.there (ap (λ (u : Tagged). u.tag) (sym won)))) in
        let here : m.home w.index ≡ some (Some found.value) = ap (λ (u : Tagged). m.home u.index) (sym won) ∙ found.here in
        let took : Event T = Take p found.value w.tag in
        subst (λ (o : Option (Slot T)). Does (wins_value m p w k o)) (sym here)
        (adds took s refl (of (CallTake One) (AnswerTake (Ok (found.value, w.tag))) (Free p 1 ∷ took ∷ own p s.between) s.made.0 (ap (λ (x : List (Event T)). Free p 1 ∷ took ∷ x) s.made.1)) tt)

    -- the exchange that takes all values
    take_chain_does : (d : Direction) (w : Tagged) (g : Lists) → Reads c m g h → At (TakeChain d w) → m.top ≡ w → Does (wins_chain m p d w (chain_from n m.link w.index))
    take_chain_does d w g r s won = whole d s.made.0
      where
        chain : List ℕ
        chain = chain_from n m.link w.index

        values : List T
        values = values_in m.home chain

        taken : Event T
        taken = TakeAll p values w.tag

        each : length values ≡ length chain
        each = subst (λ (x : Tagged). length (values_in m.home (chain_from n m.link x.index)) ≡ length (chain_from n m.link x.index)) won r.valued

        made : ◌≡◌ {A = List (Event T)} (Free p (length chain) ∷ taken ∷ own p s.between) (Free p (length values) ∷ taken ∷ [])
        made = ap (λ (x : List (Event T)). Free p (length chain) ∷ taken ∷ x) s.made.1 ∙ ap (λ (k : ℕ). Free p k ∷ taken ∷ []) (sym each)

        whole : (e : Direction) → call ≡ CallTake (Whole e) → Does (wins_chain m p e w chain)
        whole Down is = adds taken s refl (of (CallTake (Whole Down)) (AnswerFold (Ok (values, w.tag))) (Free p (length chain) ∷ taken ∷ own p s.between) is (record { values = values; is = made; order = refl })) tt
        whole Up is = adds taken s refl (of (CallTake (Whole Up)) (AnswerFold (Ok (reverse values, w.tag))) (Free p (length chain) ∷ taken ∷ own p s.between) is (record { values = values; is = made; order = refl })) tt

    does : (g : Lists) (l : Line T) → Reads c m g h → IsFine limit m g l → At l → Cases memories (Idle None) m p Does l (table c l)
    does g (Idle a) r f s = s
    does g (LoadFree put) r f s = load_free_does g put r s
    does g (LoadFreeLink put w) r f s = stays s s.made tt
    does g (TakeFree put w k) r f s = (λ won. take_free_does put w k f.0.wants s, stays s s.made tt)
    does g (LinkTaken put) r f s = next_does put s s.made
    does g (LoadTop put) r f s = load_top_does put m.top f.some_node f.few s
    does g (SwapTop put w) r f s = (λ won. swap_top_does put w f.0.some_node f.0.few s, stays s s.made s.all)
    does g (LoadTopToRefuse values) r f s = load_top_to_refuse_does values m.top s
    does g (LoadTopToTake taking) r f s = load_top_to_take_does taking m.top s
    does g (LoadTopLink w) r f s = stays s s.made tt
    does g (TakeTop w k) r f s = (λ won. take_top_does w k g r f.0 s won, stays s s.made tt)
    does g (TakeChain d w) r f s = (λ won. take_chain_does d w g r s won, stays s s.made tt)
    -- a chain that was turned round is as long as before
    does g (TurnLink give above i k) r f s = cases At (eqb k NULL) (LoadLinkToFold (record give { chain = reverse give.chain }) i) (LoadLinkToTurn give i k)
        (λ e. stays s (subst (λ (x : ℕ). Makes p call give.answer (Free p x ∷ own p s.between)) (sym (length-reverse give.chain)) s.made) s.all)
        (λ e. stays s s.made s.all)
    does g (LoadLinkToFold give i) r f s = cases At (eqb (m.link i) NULL) (LoadFreeToGive give) (LoadLinkToFold give (m.link i)) (λ e. stays s s.made s.all) (λ e. stays s s.made s.all)
    does g (GiveBack give w) r f s =
        let event : Event T = Free p (length give.chain) in
        (λ won. adds event s refl s.made (puts_later c begun h (event ∷ h) give.answer (Later-cons event h) s.all), stays s s.made s.all)
    does g LoadTopToClose r f s = cases At m.top.mark (ends (AnswerClose false)) (MarkTop m.top) (λ e. stays s (of CallClose (AnswerClose false) (own p s.between) s.made.0 s.made.1) tt) (λ e. stays s s.made tt)
    does g (MarkTop w) r f s = (λ won. adds (Close p) s refl (of CallClose (AnswerClose true) (Close p ∷ own p s.between) s.made.0 (ap (λ (x : List (Event T)). Close p ∷ x) s.made.1)) tt, stays s s.made tt)
    does g LoadTopToShut r f s = cases At m.top.second (ends (AnswerShut false)) (ShutTop m.top) (λ e. stays s (of CallShut (AnswerShut false) (own p s.between) s.made.0 s.made.1) tt) (λ e. stays s s.made tt)
    does g (ShutTop w) r f s = (λ won. adds (Shut p) s refl (of CallShut (AnswerShut true) (Shut p ∷ own p s.between) s.made.0 (ap (λ (x : List (Event T)). Shut p ∷ x) s.made.1)) tt, stays s s.made tt)
    does g LoadTopToGauge r f s = stays s (of CallGauge (AnswerGauge m.top.mark m.top.tag) (own p s.between) s.made.0 s.made.1) tt
    does g LoadTopToLook r f s = stays s (of CallLook (AnswerLook (eqb m.top.index NULL)) (own p s.between) s.made.0 s.made.1) tt
    does g l r f s = stays s s.made s.all

    -- each step of a pass carries on what it has done
    pub step_does : (g : Lists) (l : Line T) → Reads c m g h → IsFine limit m g l → At l → Does (step c m p l)
    step_does g l r f s = by_cases memories (Idle None) m p Does l (table c l) (does g l r f s)
