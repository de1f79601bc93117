-- The values of a refused range come out of its nodes.
use Rattle.std.proofs.Common.{◌≡◌, ℕ, zero, suc, ◌+◌, ◌<◌, ◌≤◌, List, [], ◌∷◌, ◌++◌, length, reverse, take, slice_index, refl, sym, ap, ◌∙◌, subst, append_assoc, append-nil, length-append, arith}
use Rattle.std.proofs.lemmas.List.{reverse-append}
use Rattle.std.specs.Prelude.{Option as Slot, Some, None, Err}
use Rattle.bounded_model.proofs.Adding.{Sometime-wider}
use Rattle.bounded_model.proofs.Histories.{is_nil, Later-refl, Later-trans}
use Rattle.machine.specs.Words.{IsChain}
use Rattle.machine.specs.Seats.{Looks}
use Rattle.machine.specs.declared.seats.Begun.{Begun}
use Rattle.running.specs.Acts.{Course, made}
use Rattle.machine.specs.declared.seats.View.TheVariants.{AtPass, AtMeeting, AtNote, AtHearing, Left}
use Rattle.stack_machine.specs.Deeds.{Makes}
use Rattle.stack_machine.specs.Rule.{IsFine, Gives}
use Rattle.stack_machine.specs.declared.lines.Call.TheVariants.{Close as CallClose, Shut as CallShut, Look as CallLook, Gauge as CallGauge}
use Rattle.stack_machine.specs.declared.lines.Line.TheVariants.{Idle}
use Rattle.stack_machine.proofs.Doing.{meanwhile}
use Rattle.stack_table.specs.Lines.{PutsMany}
use Rattle.stack_table.specs.Memories.{memory_of}
use Rattle.running.specs.Going.{Peeked}
use Rattle.running.specs.Rule.{begun_now, MayLook}
use Rattle.treiber_stack.specs.Prelude.{AnswerPut, AtRoot, Call, CallPut, CallTake, Deeds, Event, Giving, Going, Line, LoadFreeToGive, NULL, One}
use Rattle.treiber_stack.specs.Prelude.{Operation, Pass, PassView, PutRefused, View, Whole, begun_in, call_of, first, first_in, full, handed_back}
use Rattle.treiber_stack.specs.Prelude.{index_of, last, last_in, line_in, line_now, link_at, names, rest, stacked, starts, times, times_append}
use Rattle.treiber_stack.specs.Prelude.{times_here, vacant, vacant_append}
use Rattle.treiber_stack.specs.declared.code.giving.Give.TheVariants.{Load}
use Rattle.treiber_stack.specs.declared.bulk.range_steps.Held.{Held}
use Rattle.treiber_stack.specs.declared.code.refusing.Barred.{Barred}
use Rattle.treiber_stack.specs.declared.code.refusing.Barred.TheVariants.{Closed, Spent}
use Rattle.treiber_stack.specs.code.Steps.{IsGiving, IsAtWith}
use Rattle.treiber_stack.specs.code.Ranging.{putting, refused, IsNext, IsRefused, IsRestoring, ReadsAgain}
use Rattle.treiber_stack.specs.code.Refusing.{barring}
use Rattle.treiber_stack.specs.Calls.{StackWith, room_of, limit_of, machine_of, machine_with, shape_of, begun_with}
use Rattle.treiber_stack.proofs.Gives.{moved}
use Rattle.treiber_stack.proofs.Loading.{next_value}
use Rattle.treiber_stack.proofs.Takes.{same_value}

-- a link of a chain names its next node
chain_link : (link : ℕ → ℕ) (before : List ℕ) (i j : ℕ) (others : List ℕ) → IsChain link (before ++ i ∷ j ∷ others) → link i ≡ j
chain_link link [] i j others c = c.0
chain_link link (x ∷ []) i j others c = c.1.0
chain_link link (x ∷ y ∷ xs) i j others c = chain_link link (y ∷ xs) i j others c.1

-- an index read as a word is its own index
plain_index : (k : ℕ) → k ≤ NULL → index_of k ≡ k
plain_index k h = omega arith

parts_of : (xs : List ℕ) (k : ℕ) → length xs ≡ suc k → (more : List ℕ) × (xs ≡ first xs ∷ more)
parts_of [] k e = absurd (omega arith)
parts_of (x ∷ xs) k e = (xs, refl)

pred_of : ℕ → ℕ
pred_of zero = zero
pred_of (suc k) = k

pred_is : (k : ℕ) → 0 < k → k ≡ suc (pred_of k)
unfolding pred_of
pred_is zero h = absurd (omega arith)
pred_is (suc k) h = refl

module _ {T : Type 0} (rule : List (Event T) → Type 0) {D : Type 0} (c : StackWith T D) where
  -- the link that was read
  pub read_so : (v : View T (Line T)) (at found i : ℕ) → at ≡ link_at i → Peeked (machine_with rule c) v at found → (giving : Giving T) (before others : List ℕ) (next : ℕ) → line_in names v ≡ LoadFreeToGive giving → giving.chain ≡ before ++ i ∷ next ∷ others → index_of found ≡ next
  read_so v at found i e peeked giving before others next line parts =
      let m = memory_of peeked.words peeked.homes in
      let fine : IsFine (limit_of c) m peeked.good.lists (line_in names v) = peeked.good.good.linked.fine peeked.seat (line_in names v) peeked.here in
      let gives : Gives m.link giving.chain = subst (IsFine (limit_of c) m peeked.good.lists) line fine in
      let is : m.link i ≡ found = ap (λ (k : ℕ). slice_index peeked.words k) (sym e) ∙ peeked.is in
      ap index_of (sym is) ∙ plain_index (m.link i) (peeked.sane.plain (stacked.link i)) ∙ chain_link m.link before i next others (subst (λ (xs : List ℕ). IsChain m.link xs) parts gives.chained)

  -- a stack's passes make such loads
  pub may_look : (v : View T (Line T)) → MayLook (machine_with rule c) v
  may_look (AtPass p begun l) = tt
  may_look (AtRoot r ks heard l) = tt
  may_look (AtMeeting p xs k q ys l) = tt
  may_look (AtNote told) = tt
  may_look (AtHearing p xs l told) = tt
  may_look Left = tt

  module _ (o : Operation T) where
    no_start : (call : Call T) (giving : Giving T) → starts call ≡ LoadFreeToGive giving → ⊥
    no_start (CallPut v vs) giving e = cc
    no_start call giving e = cc

    begun_same : (l : Line T) (giving : Giving T) (p q : PassView T) (b : Begun T (Line T)) → line_now names o l ≡ LoadFreeToGive giving → begun_now names q b l ≡ begun_now names p b l
    begun_same (Idle a) giving p q b e = absurd (no_start (call_of o) giving e)
    begun_same l giving p q b e = refl

    busy_at : (l : Line T) (giving : Giving T) → line_now names o l ≡ LoadFreeToGive giving → l ≡ LoadFreeToGive giving
    busy_at (Idle a) giving e = absurd (no_start (call_of o) giving e)
    busy_at l giving e = e

    line_is : {v : View T (Line T)} {begun : PassView T} {giving : Giving T} → Going (machine_with rule c) o v begun (LoadFreeToGive giving) → line_in names v ≡ LoadFreeToGive giving
    line_is {v} {begun} {giving} g = ap (line_in names) g.is ∙ busy_at g.at giving g.now

    -- only a put of more than one value has so many to hand back
    puts_many : (p : ℕ) (call : Call T) (why : PutRefused (List T)) (events : List (Event T)) → Makes p call (AnswerPut (Err why)) events → 1 < length (handed_back why) → PutsMany call
    puts_many p (CallPut v []) why events made many = absurd (let one = ap length made.0 in omega (arith, one, many))
    puts_many p (CallPut v (w ∷ more)) why events made many = tt
    puts_many p (CallTake One) why events made many = absurd made
    puts_many p (CallTake (Whole d)) why events made many = absurd made
    puts_many p CallClose why events made many = absurd made
    puts_many p CallShut why events made many = absurd made
    puts_many p CallLook why events made many = absurd made
    puts_many p CallGauge why events made many = absurd made

    -- a load that belongs to no line leaves a refused put of more than one value at its line
    looked_going : {v v' : View T (Line T)} {begun : PassView T} (chain : List ℕ) (why : PutRefused (List T)) → 1 < length (handed_back why) → Going (machine_with rule c) o v begun (LoadFreeToGive (record { chain = chain; answer = AnswerPut (Err why) })) → Looks (shape_of c) v v'
        → Going (machine_with rule c) o v' begun (LoadFreeToGive (record { chain = chain; answer = AnswerPut (Err why) }))
    looked_going {v} {v'} {begun} chain why many g looks =
        let l : Line T = LoadFreeToGive (record { chain = chain; answer = AnswerPut (Err why) }) in
        let looked : Looks (shape_of c) (AtPass g.pass g.from g.at) v' = subst (λ (u : View T (Line T)). Looks (shape_of c) u v') g.is looks in
        let q : PassView T = looked.0 in
        let adds = looked.3 in
        let fewer = g.steps in
        let more = adds.steps in
        record {
          pass = q;
          from = g.from;
          at = g.at;
          is = looked.1;
          now = g.now;
          begun_is = begun_same g.at (record { chain = chain; answer = AnswerPut (Err why) }) g.pass q g.from g.now ∙ g.begun_is;
          number = adds.number ∙ g.number;
          steps = omega arith;
          seen = Later-trans g.seen (record { more = adds.between; is = adds.seen });
          deeds = subst (λ (k : ℕ). Deeds (shape_of c) k (call_of o) l begun.seen q.seen) (sym adds.number)
              (meanwhile (shape_of c) g.pass.number (call_of o) begun.seen g.pass.seen q.seen l (record { rest = adds.between; is = adds.seen; none_own = adds.own_events }) g.deeds);
          tells = Sometime-wider (Later-refl begun.seen) (record { more = adds.between; is = adds.seen }) g.tells;
          course = λ busy. let was = g.course busy in (was.0, subst (λ (k : ℕ). Course names (machine_of c).core g.from.before g.from.now k (names.first o was.0) g.at) (sym adds.number) was.1);
          counted = λ busy. subst (λ (k : ℕ). begun.steps ≡ made k g.from.before) (sym adds.number) (g.counted busy);
          earlier = g.earlier;
          spent = λ busy none. absurd (none (puts_many g.pass.number (call_of o) why _ g.deeds.made many));
          answers = looked.2 ∙ g.answers;
          deal = g.deal;
        }

module _ {T : Type 0} (rule : List (Event T) → Type 0) {D : Type 0} (c : StackWith T D) (o : Operation T) (vs : List T) (nodes : Held) (why : Barred) where
  abbrev back : List ℕ → Giving T
  back chain = refused (putting vs chain) why

  pub restore_start : (p : Pass T (Line T)) → IsRefused rule c o p vs nodes why → IsRestoring rule c o p vs nodes why 0 nodes.chain.first
  restore_start p r = record {
    chain = r.chain;
    has = r.has;
    done = [];
    left = r.chain;
    parts = refl;
    counted = refl;
    next = λ _. r.has.begins;
    at = subst (λ (zs : List (ℕ × Slot T)). IsAtWith rule c o p (LoadFreeToGive (back r.chain)) zs) (sym (append-nil (full r.chain (reverse (take (length r.chain) vs))))) r.at;
  }

  -- a refusal hands all values back
  handed_many : (b : Barred) (us : List T) → 1 < length us → 1 < length (handed_back (barring b us))
  handed_many Closed us many = many
  handed_many (Spent t) us many = many

  module _ (p : Pass T (Line T)) (gone index : ℕ) (r : IsRestoring rule c o p vs nodes why gone index) (here : gone < nodes.count) (place : ℕ) (is : place + (1 + gone) ≡ nodes.count) where
    many : length r.left ≡ suc place
    many = let a = r.has.counted in let b : length r.chain ≡ length (r.done ++ r.left) = ap length r.parts in let d = r.counted in omega (arith, a, b, d, is, length-append r.done r.left)

    abbrev more : List ℕ
    more = (parts_of r.left place many).0

    left_is : r.left ≡ index ∷ more
    left_is = (parts_of r.left place many).1 ∙ ap (λ (x : ℕ). x ∷ more) (r.next (let m = many in omega arith))

    fewer : length more ≡ place
    fewer = let m = many in let l : length r.left ≡ suc (length more) = ap length left_is in omega arith

    pub low_place : place < length vs
    low_place = let f = r.has.few in omega (arith, f, is)

    abbrev pub value : T
    value = (next_value vs place low_place).0

    slots_are : p.seat.me.1 ≡ (index, Some value) ∷ (full more (reverse (take place vs)) ++ vacant r.done)
    slots_are = r.at.at.has
        ∙ (λ t. full (left_is t) (reverse (take (many t) vs)) ++ vacant r.done)
        ∙ ap (λ (us : List T). full (index ∷ more) us ++ vacant r.done) (taken place value (next_value vs place low_place).1)
      where
        taken : (k : ℕ) (v : T) → take (k + 1) vs ≡ take k vs ++ v ∷ [] → reverse (take (suc k) vs) ≡ v ∷ reverse (take k vs)
        taken k v e =
            let one : k + 1 ≡ suc k = omega arith in
            ap (λ (us : List T). reverse us) (subst (λ (m : ℕ). take m vs ≡ take k vs ++ v ∷ []) one e) ∙ reverse-append (take k vs) (v ∷ [])

    pub restore_full : p.seat.me.1 ≡ (index, Some value) ∷ rest p.seat.me.1
    restore_full = slots_are ∙ ap (λ (zs : List (ℕ × Slot T)). (index, Some value) ∷ rest zs) (sym slots_are)

    pub restore_low : index < room_of c
    restore_low = r.has.low index (let e : times index r.chain ≡ times index (r.done ++ index ∷ more) = ap (times index) (r.parts ∙ ap (λ (xs : List ℕ). r.done ++ xs) left_is) in omega (arith, e, times_append index r.done (index ∷ more), times_here index more))

    module _ (q : Pass T (Line T)) (x : T) (table : q.seat.table_id ≡ p.seat.table_id) (has : p.seat.me.1 ≡ (index, Some x) ∷ rest p.seat.me.1) (out : q.seat.me ≡ (p.seat.me.0, rest p.seat.me.1 ++ (index, None) ∷ [])) where
      -- the value that came out
      pub came_out : IsNext vs place x
      came_out = (low_place, (next_value vs place low_place).3 ∙ ap Some (sym (same_value p.seat.me.1 (rest p.seat.me.1) (rest p.seat.me.1) index index x value has restore_full)))

      abbrev slots : List (ℕ × Slot T)
      slots = full more (reverse (take (length more) vs)) ++ vacant (r.done ++ index ∷ [])

      slots_now : rest p.seat.me.1 ++ (index, None) ∷ [] ≡ slots
      slots_now = ap (λ (zs : List (ℕ × Slot T)). rest zs ++ (index, None) ∷ []) slots_are
          ∙ append_assoc (full more (reverse (take place vs))) (vacant r.done) ((index, None) ∷ [])
          ∙ (λ t. full more (reverse (take (sym fewer t) vs)) ++ sym (vacant_append r.done (index ∷ [])) t)

      out_so : IsAtWith rule c o q (LoadFreeToGive (back r.chain)) slots × (begun_with rule c q ≡ begun_with rule c p)
      out_so = moved rule c o p q (LoadFreeToGive (back r.chain)) (full r.left (reverse (take (length r.left) vs)) ++ vacant r.done) slots r.at table (out ∙ ap (λ (zs : List (ℕ × Slot T)). (p.seat.me.0, zs)) slots_now)

      parts : r.chain ≡ (r.done ++ index ∷ []) ++ more
      parts = r.parts ∙ ap (λ (xs : List ℕ). r.done ++ xs) left_is ∙ sym (append_assoc r.done (index ∷ []) more)

      -- the last value is back
      pub restore_last : place ≡ 0 → IsRestoring rule c o q vs nodes why (gone + 1) index × (begun_with rule c q ≡ begun_with rule c p)
      restore_last z = (
        record {
          chain = r.chain;
          has = r.has;
          done = r.done ++ index ∷ [];
          left = more;
          parts = parts;
          counted = length-append r.done (index ∷ []) ∙ ap (λ (k : ℕ). k + 1) r.counted;
          next = λ h. let f = fewer in absurd (omega arith);
          at = out_so.0;
        },
        out_so.1,
      )

      -- or the next node was read
      pub restore_next : 0 < place → (next : ℕ) (s : Pass T (Line T)) → s.seat.table_id ≡ q.seat.table_id → s.seat.me.1 ≡ q.seat.me.1 → Looks (shape_of c) q.seat.me.0 s.seat.me.0 → ReadsAgain q.seat.me.0 index next → IsRestoring rule c o s vs nodes why (gone + 1) next × (begun_with rule c s ≡ begun_with rule c p)
      restore_next h next s table' same looks reads =
          let going = out_so.0.at.going in
          let going' = looked_going rule c o r.chain (barring why vs) (handed_many why vs (let low = low_place in omega (arith, low, h))) going looks in
          let kept : begun_in (machine_with rule c) s.seat.me.0 ≡ begun_with rule c q = begun_going going' in
          let one = parts_of more (pred_of place) (fewer ∙ pred_is place h) in
          let line : line_in names q.seat.me.0 ≡ LoadFreeToGive (back r.chain) = line_is rule c o going in
          let named : next ≡ first more = reads (back r.chain) r.done one.0 (first more) line (r.parts ∙ ap (λ (xs : List ℕ). r.done ++ xs) (left_is ∙ ap (λ (xs : List ℕ). index ∷ xs) one.1)) in (
            record {
              chain = r.chain;
              has = r.has;
              done = r.done ++ index ∷ [];
              left = more;
              parts = parts;
              counted = length-append r.done (index ∷ []) ∙ ap (λ (k : ℕ). k + 1) r.counted;
              next = λ _. sym named;
              at = record {
                table = table' ∙ out_so.0.table;
                at = record {
                  has = same ∙ out_so.0.at.has;
                  going = subst (λ (b : PassView T). Going (machine_with rule c) o s.seat.me.0 b (LoadFreeToGive (back r.chain))) (sym kept) going';
                };
              };
            },
            kept ∙ out_so.1,
          )
        where
          begun_going : {v : View T (Line T)} {b : PassView T} {l : Line T} → Going (machine_with rule c) o v b l → begun_in (machine_with rule c) v ≡ b
          begun_going g = ap (begun_in (machine_with rule c)) g.is ∙ g.begun_is

  -- all values are back
  pub restore_done : (p : Pass T (Line T)) (gone index : ℕ) (r : IsRestoring rule c o p vs nodes why gone index) → gone ≡ nodes.count → 0 < nodes.count → IsGiving rule c o p (back r.chain) nodes.chain Load
  restore_done p gone index r all some_node =
      let a = r.has.counted in
      let b : length r.chain ≡ length (r.done ++ r.left) = ap length r.parts in
      let d = r.counted in
      let none = is_nil r.left (omega (arith, a, b, d, all, length-append r.done r.left)) in
      let whole : r.chain ≡ r.done = r.parts ∙ ap (λ (xs : List ℕ). r.done ++ xs) none ∙ append-nil r.done in
      let some_there : 0 < length r.chain = omega (arith, a, some_node) in
      record {
        line = subst (λ (zs : List (ℕ × Slot T)). IsAtWith rule c o p (LoadFreeToGive (back r.chain)) zs) (λ t. full (none t) (reverse (take (length (none t)) vs)) ++ vacant (sym whole t)) r.at;
        are = record {
          begins = r.has.begins;
          ends = r.has.ends;
          first_low = subst (λ (k : ℕ). k < room_of c) r.has.begins (r.has.low (first r.chain) (first_in r.chain some_there));
          last_low = subst (λ (k : ℕ). k < room_of c) r.has.ends (r.has.low (last r.chain) (last_in r.chain some_there));
        };
      }
