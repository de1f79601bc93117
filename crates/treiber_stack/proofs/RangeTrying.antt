-- Where the steps of a range lead, by what they have told.
use Rattle.std.proofs.lemmas.Bool.{false≢true}
use Rattle.std.proofs.Common.{◌≡◌, ℕ, ◌<◌, ◌≤◌, Bool, true, false, List, length, refl, sym, ap, ◌∙◌, subst, arith}
use Rattle.std.specs.Prelude.{Err}
use Rattle.running.specs.Code.{Tells}
use Rattle.treiber_stack.specs.Prelude.{AnswerPut, Ended, Event, Line, On, Operation, Pass, PassView, Putting, Ran, Stops, ends, is_idle, none_of}
use Rattle.treiber_stack.specs.declared.code.begun.Begun.{Begun}
use Rattle.treiber_stack.specs.declared.code.giving.Give.{Give}
use Rattle.treiber_stack.specs.declared.code.giving.Give.TheVariants as give
use Rattle.treiber_stack.specs.declared.bulk.range_steps.Held.{Held}
use Rattle.treiber_stack.specs.declared.bulk.range_steps.Range.{Range}
use Rattle.treiber_stack.specs.declared.bulk.range_steps.RangeAt.{RangeAt}
use Rattle.treiber_stack.specs.declared.bulk.range_steps.RangeAt.TheVariants.{LoadFree, Link, Hold, Load, LinkTo, Exchange, Refuse, GiveBack}
use Rattle.treiber_stack.specs.declared.bulk.range_steps.RangeEnd.{RangeEnd}
use Rattle.treiber_stack.specs.declared.bulk.range_steps.RangeEnd.TheVariants.{Put, Full as IsFull, GaveBack}
use Rattle.treiber_stack.specs.declared.bulk.range_steps.RangeStop.{RangeStop}
use Rattle.treiber_stack.specs.declared.bulk.range_steps.RangeStop.TheVariants.{Took, Over}
use Rattle.treiber_stack.specs.declared.bulk.range_steps.RangeStopped.{RangeStopped}
use Rattle.treiber_stack.specs.declared.code.refusing.Barred.{Barred}
use Rattle.treiber_stack.specs.declared.code.refusing.Barred.TheVariants as barred
use Rattle.treiber_stack.specs.code.Begun.{put_at, put_begun}
use Rattle.treiber_stack.specs.code.Giving.{AreNodes, give_line}
use Rattle.treiber_stack.specs.Calls.{IsRange, StackWith, room_of, machine_with, begun_with}
use Rattle.treiber_stack.specs.code.Ranging.{range_account, at_operation, stop_line, StopTold, HasNodes, HasRead, HasTaken, IsFilling, IsOver, IsRangeAtWith, StopsSo, Told, ToldStop, putting, range_line, range_slots, refused, takes}
use Rattle.treiber_stack.specs.code.RangeTrying.{HasStopped, IsRangeOf, IsRangeOpWith, RanOn, gives_back, left_at, left_by}
use Rattle.treiber_stack.specs.code.Refusing.{barring}
use Rattle.treiber_stack.specs.code.Steps.{IsAtWith, IsSeatWith}
use Rattle.treiber_stack.proofs.Filling.{wants_node, wants_top}
use Rattle.treiber_stack.proofs.RangeSteps.{are_nodes, begun_at, stopped, takes_node}

-- the nodes were given back
abbrev gave : RangeStop → Bool
gave (Over (GaveBack why)) = true
gave stop = false

module _ (n k : ℕ) where
  -- what is told of a range that does not give back
  told_on : (at : RangeAt) (stop : RangeStop) → Told n k at stop → gave stop ≡ false → (gives_back at ≡ false) × ToldStop n (takes at) k stop
  told_on (GiveBack why at) stop t e = absurd (false≢true (sym e ∙ ap gave t))
  told_on at stop t e = (refl, t)

  told_back : (at : RangeAt) (why : Barred) → Told n k at (Over (GaveBack why)) → gives_back at ≡ true
  told_back (GiveBack _ at) why t = refl
  told_back at why t = absurd t

module _ {T : Type 0} (vs : List T) (chain : List ℕ) where
  given : (why : Barred) (at : Give) → put_at (give_line (refused (putting vs chain) why) at) ≡ putting vs chain
  given barred.Closed give.Load = refl
  given barred.Closed (give.Link w) = refl
  given barred.Closed (give.Exchange w) = refl
  given (barred.Spent t) give.Load = refl
  given (barred.Spent t) (give.Link w) = refl
  given (barred.Spent t) (give.Exchange w) = refl

  -- the put of a state
  put_of : {D : Type 0} (c : StackWith T D) (nodes : Held) (at : RangeAt) → HasNodes c vs chain nodes → HasRead c (putting vs chain) nodes at → put_at (range_line (putting vs chain) at) ≡ putting vs chain
  put_of c nodes Refuse has read = ap (putting vs) (sym (none_of chain (has.counted ∙ read)))
  put_of c nodes (GiveBack why at) has read = given why at
  put_of c nodes at has read = refl

module _ {T : Type 0} {D : Type 0} (c : StackWith T D) where
  some_room : 0 < room_of c
  some_room = let some = c.table.shared.key.capacity_in_range in omega arith

  -- something that a state may stop with
  may_stop : (put : Putting T) (nodes : Held) (at : RangeAt) → HasRead c put nodes at → (stop : RangeStop) × Told (room_of c) nodes.count at stop
  may_stop put nodes LoadFree read = (Took 0, (refl, some_room))
  may_stop put nodes (Link w) read = (Took 0, (refl, some_room))
  may_stop put nodes (Hold w k) read = (Took 0, (refl, some_room))
  may_stop put nodes Load read = (Over (Put 0), read.0)
  may_stop put nodes (LinkTo w) read = (Over (Put 0), read.0)
  may_stop put nodes (Exchange w) read = (Over (Put 0), read.0)
  may_stop put nodes Refuse read = (Over IsFull, read)
  may_stop put nodes (GiveBack why at) read = (Over (GaveBack why), refl)

  module _ (vs : List T) (chain : List ℕ) (nodes : Held) (has : HasNodes c vs chain nodes) where
    back_nodes : (at : RangeAt) → gives_back at ≡ true → HasRead c (putting vs chain) nodes at → AreNodes (room_of c) chain nodes.chain
    back_nodes (GiveBack why at) e read = read
    back_nodes at e read = absurd (false≢true e)

    -- where a state leads that has told this
    module _ (at : RangeAt) (read : HasRead c (putting vs chain) nodes at) where
      took : Told (room_of c) nodes.count at (Took 0) → (gives_back at ≡ false) × ToldStop (room_of c) (takes at) nodes.count (Took 0)
      took t = told_on (room_of c) nodes.count at (Took 0) t refl

      has_put : Told (room_of c) nodes.count at (Over (Put 0)) → (gives_back at ≡ false) × (0 < nodes.count)
      has_put t = told_on (room_of c) nodes.count at (Over (Put 0)) t refl

      abbrev On' : RangeAt → Type 0
      On' at' = HasRead c (putting vs chain) nodes at' × (takes at' ≡ true → takes at ≡ true) × (gives_back at' ≡ gives_back at)

      read_on : (nodes' : Held) (at' : RangeAt) → HasRead c (putting vs chain) nodes' at' → ((stop : RangeStop) → Told (room_of c) nodes'.count at' stop → Told (room_of c) nodes.count at stop) → On' at'
      read_on nodes' LoadFree r tells = let t = took (tells (Took 0) (refl, some_room)) in (has, λ e. t.1.0, sym t.0)
      read_on nodes' (Link w) r tells = let t = took (tells (Took 0) (refl, some_room)) in ((has, r.1, r.2), λ e. t.1.0, sym t.0)
      read_on nodes' (Hold w k) r tells = let t = took (tells (Took 0) (refl, some_room)) in ((has, r.1, r.2, r.3), λ e. t.1.0, sym t.0)
      read_on nodes' Load r tells = let t = has_put (tells (Over (Put 0)) r.0) in ((t.1, are_nodes c vs chain nodes has t.1), λ e. absurd (false≢true e), sym t.0)
      read_on nodes' (LinkTo w) r tells = let t = has_put (tells (Over (Put 0)) r.0) in ((t.1, are_nodes c vs chain nodes has t.1, r.2), λ e. absurd (false≢true e), sym t.0)
      read_on nodes' (Exchange w) r tells = let t = has_put (tells (Over (Put 0)) r.0) in ((t.1, are_nodes c vs chain nodes has t.1, r.2), λ e. absurd (false≢true e), sym t.0)
      read_on nodes' Refuse r tells = let t = told_on (room_of c) nodes.count at (Over IsFull) (tells (Over IsFull) r) refl in (t.1, λ e. absurd (false≢true e), sym t.0)
      read_on nodes' (GiveBack why g) r tells = let t = told_back (room_of c) nodes.count at why (tells (Over (GaveBack why)) refl) in (back_nodes at t read, λ e. absurd (false≢true e), sym t)

-- where a range goes on that has a node more
module _ {T : Type 0} (rule : List (Event T) → Type 0) {D : Type 0} (c : StackWith T D) (o : Operation T) (vs : List T) (is : IsRange o vs) (q : Pass T (Line T)) (nodes : Held) (f : IsFilling rule c o q vs nodes) where
  pub to_node : nodes.count < length vs → IsRangeOpWith rule c vs (record { pass = q; operation = o; at = record { held = nodes; at = LoadFree } })
  to_node low = record { of = is; at = record { chain = f.chain; has = f.has; is = wants_node rule c o vs q nodes f low; wants = λ e. low } }

  pub to_top : 0 < nodes.count → length vs ≤ nodes.count → IsRangeOpWith rule c vs (record { pass = q; operation = o; at = record { held = nodes; at = Load } })
  to_top some_node high = record { of = is; at = record { chain = f.chain; has = f.has; is = wants_top rule c o vs q nodes f some_node high; wants = λ e. absurd (false≢true e) } }

module _ {T : Type 0} (rule : List (Event T) → Type 0) {D : Type 0} (c : StackWith T D) (o : Operation T) (p : Pass T (Line T)) (vs : List T) (nodes : Held) (at : RangeAt) where
  -- some steps that are begun at a state
  module _ (b : Begun T) (of : b.operation.value ≡ o) (whose : b.pass.value ≡ p) (is : IsRangeOf rule c o p vs nodes at) where
    abbrev from : Range T
    from = record { begun = b; held = nodes; at = at }

    named : put_begun b ≡ putting vs is.chain
    named = ap put_at (begun_at rule c o b p (range_line (putting vs is.chain) at) (range_slots (putting vs is.chain) at) of whose is.is.line) ∙ put_of vs is.chain c nodes at is.has is.is.read

    pub begins : Ran (machine_with rule c) (range_account c.table.shared.key) c.table.shared.table_id o p p (On from)
    begins =
        let so = subst (λ (k : Operation T). IsRangeAtWith rule c k p (put_begun b) nodes at) (sym of) (subst (λ (put : Putting T). IsRangeAtWith rule c o p put nodes at) (sym named) is.is) in
        (record { at = so.line; knows = so.read }, sym of, (refl, λ w n. n))

    -- they have stopped
    pub stops_so : (q : Pass T (Line T)) (r : RangeStopped T) → StopTold c from r → Stops (machine_with rule c) (range_account c.table.shared.key) c.table.shared.table_id o (begun_with rule c p) q r → HasStopped rule c o (begun_with rule c p) q vs nodes at r.stop
    stops_so q r told stops = record {
      chain = is.chain;
      has = is.has;
      wants = is.wants;
      stops = subst (λ (put : Putting T). StopsSo rule c o (begun_with rule c p) q put nodes at r.stop) (ap put_begun told.0 ∙ named) (told.1, stopped rule c o (begun_with rule c p) q r (is_idle (stop_line r)) stops);
    }

    -- or go on
    pub ran_on : (q : Pass T (Line T)) (s : Range T) → Ran (machine_with rule c) (range_account c.table.shared.key) c.table.shared.table_id o p q (On s) → Tells (StopTold c) from (On s) → RanOn rule c o p vs nodes at q s.at
    ran_on q s ran tells =
        let w = may_stop c (put_begun s.begun) s.held s.at ran.0.knows in
        let same : put_begun s.begun ≡ putting vs is.chain = ap put_begun (tells (record { begun = s.begun; stop = w.0 }) (refl, w.1)).0 ∙ named in
        let read = subst (λ (put : Putting T). HasRead c put s.held s.at) same ran.0.knows in
        let on = read_on c vs is.chain nodes is.has at is.is.read s.held s.at read (λ stop t. (tells (record { begun = s.begun; stop = stop }) (refl, t)).1) in (
          record {
            chain = is.chain;
            has = is.has;
            is = record {
              line = subst (λ (k : Operation T). IsAtWith rule c k q (range_line (putting vs is.chain) s.at) (range_slots (putting vs is.chain) s.at)) (sym ran.1) (subst (λ (put : Putting T). IsAtWith rule c (at_operation s) q (range_line put s.at) (range_slots put s.at)) same ran.0.at);
              read = on.0;
            };
            wants = λ e. is.wants (on.1 e);
          },
          ran.2.0,
          on.2,
        )

  -- one that has stopped with another end than with its nodes given back was not on its way back
  pub not_back : (v : PassView T) (end : RangeEnd) → gave (Over end) ≡ false → HasStopped rule c o v p vs nodes at (Over end) → gives_back at ≡ false
  not_back v end e h = (told_on (room_of c) nodes.count at (Over end) h.stops.0 e).0

  pub took_not_back : (v : PassView T) (i : ℕ) → HasStopped rule c o v p vs nodes at (Took i) → gives_back at ≡ false
  took_not_back v i h = (told_on (room_of c) nodes.count at (Took i) h.stops.0 refl).0

  -- what it has stopped with
  module _ (v : PassView T) where
    -- a node
    pub has_node : (i : ℕ) → HasStopped rule c o v p vs nodes at (Took i) → HasTaken rule c o p vs nodes i × (begun_with rule c p ≡ v) × (nodes.count < length vs) × (left_at at nodes ≡ nodes.count)
    has_node i h =
        let t = told_on (room_of c) nodes.count at (Took i) h.stops.0 refl in
        let node = takes_node rule c o v p (putting vs h.chain) i t.1.1 h.stops.1 in
        (record { chain = h.chain; has = h.has; takes = record { at = node.at; low = node.low; begun_is = refl } }, node.begun_is, h.wants t.1.0, ap (λ (b : Bool). left_by b nodes.count) t.0)

    -- its end
    pub is_over : (end : RangeEnd) → gave (Over end) ≡ false → HasStopped rule c o v p vs nodes at (Over end) → IsOver rule c o v p vs nodes end × (left_at at nodes ≡ nodes.count)
    is_over end e h = let t = told_on (room_of c) nodes.count at (Over end) h.stops.0 e in (record { chain = h.chain; has = h.has; ends = (t.1, h.stops.1) }, ap (λ (b : Bool). left_by b nodes.count) t.0)

    pub is_back : (why : Barred) → HasStopped rule c o v p vs nodes at (Over (GaveBack why)) → IsSeatWith rule c p × Ended (machine_with rule c) o p.seat.me.0 v (ends (AnswerPut (Err (barring why vs)))) × (left_at at nodes ≡ 0)
    is_back why h = (h.stops.1.0, h.stops.1.1, ap (λ (b : Bool). left_by b nodes.count) (told_back (room_of c) nodes.count at why h.stops.0))
