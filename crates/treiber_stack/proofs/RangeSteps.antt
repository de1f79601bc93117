-- Where the steps of a range lead.
use Rattle.std.proofs.Common.{◌≡◌, ℕ, ◌<◌, Bool, true, false, cond, eqb, ltb, List, [], ◌∷◌, length, reverse, take, refl, sym, ap, ◌∙◌, subst, eq-eqb, ne_eqb, arith}
use Rattle.std.specs.Prelude.{Option as Slot, None, Err}
use Rattle.running.proofs.Going.{now_going}
use Rattle.treiber_stack.specs.Prelude.{AnswerPut, Done, Event, Finding, FreeWord, Leads, Line, LinkTaken, LoadFreeLine, LoadTop, LoadTopToRefuse}
use Rattle.treiber_stack.specs.Prelude.{Next, On, Operation, Outcome, Pass, PassView, PutSpent, Putting, StopsAt, at_load_free, ends, fields_of}
use Rattle.treiber_stack.specs.Prelude.{first, first_in, full, is_idle, last, last_in, line_in, line_now, names, next, next_node, none_of, with_node}
use Rattle.treiber_stack.specs.declared.code.begun.Begun.{Begun}
use Rattle.treiber_stack.specs.declared.bulk.range_steps.Held.{Held}
use Rattle.treiber_stack.specs.declared.bulk.range_steps.Range.{Range}
use Rattle.treiber_stack.specs.declared.bulk.range_steps.RangeAt.TheVariants.{LoadFree, Load, Refuse, GiveBack}
use Rattle.treiber_stack.specs.declared.bulk.range_steps.RangeEnd.TheVariants.{Spent as IsSpent, GaveBack}
use Rattle.treiber_stack.specs.declared.bulk.range_steps.RangeStop.TheVariants.{Took, Over}
use Rattle.treiber_stack.specs.declared.bulk.range_steps.RangeStopped.{RangeStopped}
use Rattle.treiber_stack.specs.declared.code.giving.Give.{Give}
use Rattle.treiber_stack.specs.declared.code.refusing.Barred.{Barred}
use Rattle.treiber_stack.specs.declared.code.refusing.NoNode.{NoNode}
use Rattle.treiber_stack.specs.declared.code.refusing.NoNode.TheVariants.{NoneFree, Spent}
use Rattle.treiber_stack.specs.code.Begun.{line_begun, put_begun}
use Rattle.treiber_stack.specs.code.Giving.{AreNodes}
use Rattle.treiber_stack.specs.code.Steps.{GaveTo, IsAtWith}
use Rattle.treiber_stack.specs.code.Ranging.{range_account, loaded, linking, refused, range_stop, range_hand, at_line, at_slots, stop_line, stop_hand, HasNodes, Stopped, TakesNode}
use Rattle.treiber_stack.specs.code.Refusing.{RefusesNode}
use Rattle.treiber_stack.specs.Calls.{StackWith, room_of, limit_of, machine_of, machine_with}
use Rattle.treiber_stack.proofs.Gives.{within, gave_within}
use Rattle.treiber_stack.proofs.Refusals.{free_null, free_spent}

module _ {T : Type 0} (rule : List (Event T) → Type 0) {D : Type 0} (c : StackWith T D) (o : Operation T) where
  -- a range that has stopped
  pub stopped : (begun : PassView T) (q : Pass T (Line T)) (r : RangeStopped T) (b : Bool) → StopsAt (machine_with rule c) (range_account c.table.shared.key) c.table.shared.table_id b o begun q r → Stopped rule c o begun q (stop_line r) (stop_hand r) b
  stopped begun q r true s = s
  stopped begun q r false s = s

  -- the line that some steps were begun at
  pub begun_at : (b : Begun T) (p : Pass T (Line T)) (l : Line T) (slots : List (ℕ × Slot T)) → b.operation.value ≡ o → b.pass.value ≡ p → IsAtWith rule c o p l slots → line_begun b ≡ l
  begun_at b p l slots of is at = ap (λ (k : Operation T). line_now names k (line_in names b.pass.value.seat.me.0)) of ∙ ap (λ (x : Pass T (Line T)). line_now names o (line_in names x.seat.me.0)) is ∙ now_going (machine_with rule c) at.at.going

module _ {T : Type 0} where
  next_busy : (put : Putting T) → is_idle (next_node put) ≡ false
  next_busy put = by (ltb (length put.chain) (length put.values))
    where
      by : (b : Bool) → is_idle (cond b (LoadFreeLine put) (LoadTop put)) ≡ false
      by true = refl
      by false = refl

  pub linking_busy : (chain : List ℕ) (put : Putting T) → is_idle (linking chain put) ≡ false
  linking_busy [] put = next_busy put
  linking_busy (j ∷ js) put = refl

  linked_as : (chain : List ℕ) (put after : Putting T) → put.chain ≡ chain → cond (eqb (length chain) 0) (next_node after) (LinkTaken after) ≡ linking chain after
  linked_as [] put after e = refl
  linked_as (j ∷ js) put after e = ap (λ (b : Bool). cond b (next_node after) (LinkTaken after)) (ne_eqb (length (j ∷ js)) 0 (λ z. omega arith))

  taken_as : (put : Putting T) (i : ℕ) → range_stop put (Took i) ≡ linking put.chain (with_node put i)
  taken_as put i = linked_as put.chain put (with_node put i) refl

  taken_busy : (put : Putting T) (i : ℕ) → is_idle (range_stop put (Took i)) ≡ false
  taken_busy put i = ap is_idle (taken_as put i) ∙ linking_busy put.chain (with_node put i)

  -- where a put goes on that finds no node
  none_for : (why : NoNode) → List T → Line T
  none_for NoneFree vs = LoadTopToRefuse vs
  none_for (Spent t) vs = ends (AnswerPut (Err (PutSpent vs FreeWord t)))

  finds_none : (limit w x : ℕ) (put : Putting T) (why : NoNode) → w ≡ x → RefusesNode limit w why → at_load_free limit put (fields_of x) ≡ cond (eqb (length put.chain) 0) (none_for why put.values) (LoadTop put)
  unfolding none_for
  finds_none limit w x put NoneFree is null = ap (λ (k : ℕ). at_load_free limit put (fields_of k)) (sym is) ∙ free_null limit w put null
  finds_none limit w x put (Spent t) is high = ap (λ (k : ℕ). at_load_free limit put (fields_of k)) (sym is) ∙ free_spent limit w put t high.2 high.0 high.1

module _ {T : Type 0} {D : Type 0} (c : StackWith T D) where
  -- the ends of a chain that is not empty
  pub are_nodes : (vs : List T) (chain : List ℕ) (held : Held) → HasNodes c vs chain held → 0 < held.count → AreNodes (room_of c) chain held.chain
  are_nodes vs chain held has some_node =
      let a = has.counted in
      let there : 0 < length chain = omega arith in
      record {
        begins = has.begins;
        ends = has.ends;
        first_low = subst (λ (k : ℕ). k < room_of c) has.begins (has.low (first chain) (first_in chain there));
        last_low = subst (λ (k : ℕ). k < room_of c) has.ends (has.low (last chain) (last_in chain there));
      }

  -- where the code of a range goes on
  abbrev pub LeadingRange : Range T → Outcome → List (ℕ × Slot T) → Next (Range T) (RangeStopped T) → Type 0
  LeadingRange s r has to = Finding (machine_of c).core (at_line s) r (at_slots s) has
      (λ found came. Leads names (range_account c.table.shared.key) s (next (room_of c) (limit_of c) (at_line s) found came) has to)

  module _ (b : Begun T) (held : Held) (r : Outcome) (has : List (ℕ × Slot T)) (w : ℕ) where
    abbrev put : Putting T
    put = put_begun b

    -- no node can be had
    module _ (is : w ≡ r.word) (nodes : HasNodes c put.values put.chain held) where
      pub goes_to_top : (why : NoNode) → RefusesNode (limit_of c) w why → 0 < held.count → LeadingRange (record { begun = b; held = held; at = LoadFree }) r has (On (record { begun = b; held = held; at = Load }))
      goes_to_top why refuses some_node = λ kept. let a = nodes.counted in record {
        same = refl;
        is = finds_none (limit_of c) w r.word put why is refuses ∙ ap (λ (x : Bool). cond x (none_for why put.values) (LoadTop put)) (ne_eqb (length put.chain) 0 (λ z. omega arith));
        busy = refl;
        hand = kept;
        knows = (some_node, are_nodes put.values put.chain held nodes some_node);
      }

      module _ (none : held.count ≡ 0) where
        empty : put.chain ≡ []
        empty = none_of put.chain (nodes.counted ∙ none)

        nothing : loaded put ≡ []
        nothing = λ t. full (empty t) (reverse (take (length (empty t)) put.values))

        refused_for : (why : NoNode) → RefusesNode (limit_of c) w why → at_load_free (limit_of c) put (fields_of r.word) ≡ none_for why put.values
        refused_for why refuses = finds_none (limit_of c) w r.word put why is refuses ∙ ap (λ (x : Bool). cond x (none_for why put.values) (LoadTop put)) (eq-eqb (length put.chain) 0 (nodes.counted ∙ none))

        pub goes_to_refuse : RefusesNode (limit_of c) w NoneFree → LeadingRange (record { begun = b; held = held; at = LoadFree }) r has (On (record { begun = b; held = held; at = Refuse }))
        unfolding none_for
        goes_to_refuse refuses = λ kept. record { same = refl; is = refused_for NoneFree refuses; busy = refl; hand = kept ∙ nothing; knows = none }

        pub is_spent : (t : ℕ) → RefusesNode (limit_of c) w (Spent t) → LeadingRange (record { begun = b; held = held; at = LoadFree }) r has (Done (record { begun = b; stop = Over (IsSpent t) }))
        unfolding none_for
        is_spent t refuses = λ kept. record { is = refused_for (Spent t) refuses; hand = kept ∙ nothing }

    -- by the give inside it
    pub gave_range : (why : Barred) (at : Give) → AreNodes (room_of c) put.chain held.chain → (to : Next Give (Unit {0})) → GaveTo c (refused put why) at r has to
        → LeadingRange (record { begun = b; held = held; at = GiveBack why at }) r has (within (λ x. record { begun = b; held = held; at = GiveBack why x }) (record { begun = b; stop = Over (GaveBack why) }) to)
    gave_range why at are = gave_within c (range_account c.table.shared.key) (refused put why) (λ x. record { begun = b; held = held; at = GiveBack why x }) (record { begun = b; stop = Over (GaveBack why) }) (record { begun = b; held = held; at = GiveBack why at })
        (λ x. refl) (λ x. refl) (λ x. refl) (λ x. are) refl at r has

-- a range that has stopped with a node
module _ {T : Type 0} (rule : List (Event T) → Type 0) {D : Type 0} (c : StackWith T D) where
  pub takes_node : (o : Operation T) (begun : PassView T) (q : Pass T (Line T)) (wanted : Putting T) (i : ℕ) → i < room_of c → Stopped rule c o begun q (range_stop wanted (Took i)) (range_hand wanted (Took i)) (is_idle (range_stop wanted (Took i))) → TakesNode rule c o begun wanted q i
  takes_node o begun q wanted i low s =
      let at = subst (Stopped rule c o begun q (range_stop wanted (Took i)) (range_hand wanted (Took i))) (taken_busy wanted i) s in
      record { at = subst (λ (l : Line T). IsAtWith rule c o q l ((i, None) ∷ loaded wanted)) (taken_as wanted i) at.0; low = low; begun_is = at.1 }
