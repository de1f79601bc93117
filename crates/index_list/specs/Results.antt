-- What the step functions tell their callers. Others change the table at any time, so a step can
-- tell only how the table was at that step: there was a table that met the rule.
use Rattle.std.specs.Prelude.{◌≡◌, ◌≢◌, ℕ, Bool, true, false, List, [], ◌++◌}
use mathlib.Core.Option.{Option}
use Rattle.atomic_table.specs.Table.{State, Me}
use Rattle.tagged_index.specs.Fields.{fields_of}
use Rattle.index_list.specs.Lists.{Layout, Stands}
use Rattle.index_list.specs.Steps.{word, changed, Before, Each, IsHome, emptied, filled}
use Rattle.index_list.specs.Kinds.{Kind, exchange, new_top, gives, taken, others, given, arranged}
use Rattle.index_list.specs.Host.{Host, AreSlots, IsReady}
use Rattle.index_list.specs.declared.change.Change.{Change}

abbrev pub homes_after : {S : Type 0} → Bool → List (Option S) → List (ℕ × S) → List (Option S)
homes_after false homes zs = emptied homes zs
homes_after true homes zs = filled homes zs

module _ {S V Line : Type 0} (y : Layout) (host : Host S V Line) (holds : State S V → Type 0) (line : Line) (id l : ℕ) where
  -- one atomic step of the seat, that found this word, left that one, moved no slot and changed
  -- nothing else. What the seat rests on was so: of a store into a link, that the index is in its hand
  pub record Made (kind : Kind) (at found left : ℕ) (v v' : V) : Type 0 where
    pub table : State S V
    pub before : Before holds id v at table
    pub hit : word table at ≡ found
    pub ready : IsReady y l (host.held l v) (word table) kind
    pub after : holds (changed table at left table.homes id v')
    pub said : host.did line l kind left [] v v'
    pub list : List ℕ
    pub stood : Stands y host.held l table list

  -- a load of n
  abbrev pub Loaded : (kind : Kind) (at n : ℕ) → Me S V → Me S V → Type 0
  Loaded kind at n me me' = (me'.1 ≡ me.1) × Made kind at n n me.0 me'.0

  -- a store of x, into the link of an index in hand
  abbrev pub Stored : (kind : Kind) (at x : ℕ) → Me S V → Me S V → Type 0
  Stored kind at x me me' = (me'.1 ≡ me.1) × ((found : ℕ) × Made kind at found x me.0 me'.0)

  -- an exchange of w that lost: another word was there, and it stays
  pub record Missed (w : ℕ) (c : Change) (me me' : Me S V) : Type 0 where
    pub found : ℕ
    pub other : found ≢ w
    pub unmoved : me'.1 ≡ me.1
    pub step : Made (exchange (fields_of w) c) (y.top l) found found me.0 me'.0

  -- slots of what is taken come from home to the front of what the seat has, or those of what is
  -- given go home from there
  abbrev pub Moves : Bool → ℕ → Change → List ℕ → State S V → List (ℕ × S) → Me S V → Me S V → Type 0
  Moves false w c list table zs me me' = (me'.1 ≡ zs ++ me.1) × Each (IsHome table.homes) zs × AreSlots y host holds l (arranged c (taken (fields_of w) c list)) zs
  Moves true w c list table zs me me' = (me.1 ≡ zs ++ me'.1) × AreSlots y host holds l (given c (host.held l me.0)) zs

  -- An exchange of w that won. The list was what is taken from it, then the others, and it is what is
  -- given to it, then the others; the slots of these indexes moved, and nothing else changed. What is
  -- given was in the seat's hand
  pub record ChangedBy (giving : Bool) (w : ℕ) (c : Change) (me me' : Me S V) : Type 0 where
    pub table : State S V
    pub before : Before holds id me.0 (y.top l) table
    pub hit : word table (y.top l) ≡ w
    pub ready : IsReady y l (host.held l me.0) (word table) (exchange (fields_of w) c)
    pub new : ℕ
    pub is : fields_of new ≡ new_top (y.keeps l) (fields_of w) c
    pub list : List ℕ
    pub begins : list ≡ taken (fields_of w) c list ++ others c list
    pub slots : List (ℕ × S)
    pub moves : Moves giving w c list table slots me me'
    pub after : holds (changed table (y.top l) new (homes_after giving table.homes slots) id me'.0)
    pub said : host.did line l (exchange (fields_of w) c) w slots me.0 me'.0
    pub was : Stands y host.held l table list
    pub now : Stands y host.held l (changed table (y.top l) new (homes_after giving table.homes slots) id me'.0) (given c (host.held l me.0) ++ others c list)

  abbrev pub Changed : ℕ → Change → Me S V → Me S V → Type 0
  Changed w c me me' = ChangedBy (gives c) w c me me'

  -- of a give: the slots that may go home are before the others that the seat has
  abbrev pub Brings : Bool → Change → Me S V → Type 0
  Brings false c me = Unit {0}
  Brings true c me = (zs : List (ℕ × S)) × host.rests line l me.0 zs × ((rest : List (ℕ × S)) × (me.1 ≡ zs ++ rest))
