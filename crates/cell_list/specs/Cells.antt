-- One list of three cells in four words: what a seat knows, which steps it may make, and what holds of
-- the table between any two steps.
use Rattle.std.specs.Prelude.{◌≡◌, ◌≢◌, ◌⊎◌, ℕ, ◌+◌, ◌<◌, ◌≤◌, true, false, List, [], ◌∷◌, length}
use mathlib.Core.Option.{some}
use lib.ListN.{get_elem?}
use Rattle.atomic_table.specs.Table.{State}
use Rattle.tagged_index.specs.Fields.{Fields, fields_of}
use Rattle.tagged_index.specs.declared.word.TheConstants.{NULL}
use Rattle.index_list.specs.Lists.{Layout, Leads, Holds, Distinct, Disjoint}
use Rattle.index_list.specs.Steps.{word}
use Rattle.index_list.specs.Kinds.{Kind, read_top, read_link, write_link, exchange}
use Rattle.index_list.specs.Host.{Host}
use Rattle.index_list.specs.declared.change.Change.{Change}
use Rattle.index_list.specs.declared.change.Change.TheVariants.{Take, Give}
use Rattle.cell_list.specs.declared.knows.Knows.{Knows}
use Rattle.cell_list.specs.declared.knows.Knows.TheVariants.{Nothing, Top, Below, Has, Linked}

-- the top is word 0, and the link of cell i is word i + 1. No cell has a slot
abbrev pub layout : Layout
layout = record { top = λ l. 0; link = λ l i. i + 1; keeps = λ l. true; carries = λ l. false }

abbrev pub hand : Knows → List ℕ
hand (Has i) = i ∷ []
hand (Linked i x) = i ∷ []
hand v = []

-- what a seat knows after a load of the top, a load of a link, and an exchange that won or lost
abbrev pub top_read : Knows → Fields → Knows
top_read (Has i) w = Has i
top_read (Linked i x) w = Has i
top_read v w = Top w

abbrev pub link_read : Knows → ℕ → Knows
link_read (Top w) k = Below w k
link_read v k = v

abbrev pub after_won : Fields → Change → Knows
after_won w (Take k) = Has w.index
after_won w c = Nothing

abbrev pub after_lost : Knows → Knows
after_lost (Linked i x) = Has i
after_lost v = Nothing

-- a link is read of the top that was read, and written of the cell in hand
abbrev pub MayRead : ℕ → Knows → Type 0
MayRead i (Top w) = (w.index ≡ i) × (i < NULL)
MayRead i v = ⊥

abbrev pub MayWrite : ℕ → Knows → Type 0
MayWrite i (Has j) = (j ≡ i) × (i < 3)
MayWrite i v = ⊥

-- a take wants both words read and a tag below the limit, and a give wants the top in the link
abbrev pub MayTake : ℕ → Fields → ℕ → Knows → Type 0
MayTake limit w k (Below u j) = (u ≡ w) × (j ≡ k) × (w.tag < limit)
MayTake limit w k v = ⊥

abbrev pub MayGive : Fields → ℕ → Knows → Type 0
MayGive w i (Linked j x) = (j ≡ i) × (x ≡ w.index) × (i < NULL)
MayGive w i v = ⊥

abbrev pub May : ℕ → Kind → Knows → Type 0
May limit read_top v = Unit {0}
May limit (read_link i) v = MayRead i v
May limit (write_link i x) v = MayWrite i v
May limit (exchange w (Take k)) v = MayTake limit w k v
May limit (exchange w (Give i)) v = MayGive w i v
May limit kind v = ⊥

abbrev pub Did : Kind → ℕ → Knows → Knows → Type 0
Did read_top found v v' = v' ≡ top_read v (fields_of found)
Did (read_link i) found v v' = v' ≡ link_read v found
Did (write_link i x) found v v' = v' ≡ Linked i x
Did (exchange w c) found v v' = ((fields_of found ≡ w) × (v' ≡ after_won w c)) ⊎ ((fields_of found ≢ w) × (v' ≡ after_lost v))

abbrev pub host : (S Line : Type 0) (limit : ℕ) → Host S Knows Line
host S Line limit = record {
  held = λ l v. hand v;
  may = λ line l kind v. May limit kind v;
  did = λ line l kind found zs v v'. Did kind found v v' × (zs ≡ []);
  rests = λ line l v zs. zs ≡ [];
}

-- a seat has read w as the top: until the tag rises, its cell stays on the list
pub record Seen (top : Fields) (list : List ℕ) (w : Fields) : Type 0 where
  pub past : w.tag ≤ top.tag
  pub there : w.tag ≡ top.tag → w.index < NULL → Holds list w.index

abbrev pub IsTrueOf : Fields → (ℕ → ℕ) → List ℕ → Knows → Type 0
IsTrueOf top link list Nothing = Unit {0}
IsTrueOf top link list (Top w) = Seen top list w
IsTrueOf top link list (Below w k) = Seen top list w × (w.index < NULL) × (w.tag ≡ top.tag → link w.index ≡ k)
IsTrueOf top link list (Has i) = Unit {0}
IsTrueOf top link list (Linked i x) = link i ≡ x

module _ {S : Type 0} where
  abbrev pub top_of : State S Knows → Fields
  top_of s = fields_of (word s 0)

  abbrev pub link_of : State S Knows → ℕ → ℕ
  link_of s i = word s (i + 1)

  pub record Rule (limit : ℕ) (s : State S Knows) : Type 0 where
    pub words : length s.words ≡ 4
    pub below : (top_of s).tag ≤ limit
    pub list : List ℕ
    pub leads : Leads (link_of s) (top_of s).index list NULL
    pub distinct : Distinct list
    -- a cell is on the list or in one hand
    pub free : (q : ℕ) (v : Knows) → get_elem? s.views q ≡ some v → Disjoint list (hand v)
    pub alone : (q r : ℕ) (v u : Knows) (i : ℕ) → get_elem? s.views q ≡ some v → get_elem? s.views r ≡ some u → Holds (hand v) i → Holds (hand u) i → q ≡ r
    pub knows : (q : ℕ) (v : Knows) → get_elem? s.views q ≡ some v → IsTrueOf (top_of s) (link_of s) list v
