-- Why a top lets no pass put onto it, or take from under it.
use Rattle.std.specs.Prelude.{◌≡◌, ℕ, ◌<◌, false, List, Err, ◌≢◌, ◌≤◌}
use Rattle.stack_machine.specs.Machine.{gives, refuses}
use Rattle.treiber_stack.specs.Prelude.{AnswerPut, Closed as RangeClosed, NULL, PutClosed, PutRefused, PutSpent, Putting, RangeRefused}
use Rattle.treiber_stack.specs.Prelude.{Spent as RangeSpent, TakeRefused, Taking, TopWord, at_load_top, at_load_top_to_refuse, at_load_top_to_take}
use Rattle.treiber_stack.specs.Prelude.{ends, fields_of, index_of, mark_of, second_of, tag_of}
use Rattle.treiber_stack.specs.declared.code.refusing.Barred.{Barred}
use Rattle.treiber_stack.specs.declared.code.refusing.Barred.TheVariants.{Closed, Spent}
use Rattle.treiber_stack.specs.declared.code.refusing.NoNode.{NoNode}
use Rattle.treiber_stack.specs.declared.code.refusing.NoNode.TheVariants as none

-- the refusals that say so
abbrev pub barring : {X : Type 0} → Barred → X → PutRefused X
barring Closed x = PutClosed x
barring (Spent t) x = PutSpent x TopWord t

abbrev pub barring_range : Barred → RangeRefused
barring_range Closed = RangeClosed
barring_range (Spent t) = RangeSpent TopWord t

abbrev pub AllowsPut : ℕ → ℕ → Type 0
AllowsPut limit w = (mark_of w ≡ false) × (tag_of w < limit)

-- a put is refused for it, whether it has a chain to give back or found no node
pub record RefusesPut (T : Type 0) (limit w : ℕ) (why : Barred) : Type 0 where
  pub with_nodes : (put : Putting T) → at_load_top limit put (fields_of w) ≡ gives put.chain (AnswerPut (Err (barring why put.values)))
  pub without : (values : List T) → at_load_top_to_refuse limit values (fields_of w) ≡ ends (AnswerPut (Err (barring why values)))

abbrev pub AllowsTake : ℕ → ℕ → Type 0
AllowsTake limit w = (second_of w ≡ false) × (index_of w ≢ NULL) × (tag_of w < limit)

abbrev pub RefusesTake : Type 0 → ℕ → ℕ → TakeRefused → Type 0
RefusesTake T limit w why = (taking : Taking) → at_load_top_to_take {T = T} limit taking (fields_of w) ≡ refuses taking why

-- a top of the free nodes gives a node, or none
abbrev pub AllowsNode : ℕ → ℕ → Type 0
AllowsNode limit w = (index_of w ≢ NULL) × (tag_of w < limit)

abbrev pub RefusesNode : ℕ → ℕ → NoNode → Type 0
RefusesNode limit w none.NoneFree = index_of w ≡ NULL
RefusesNode limit w (none.Spent t) = (index_of w ≢ NULL) × (limit ≤ tag_of w) × (t ≡ tag_of w)
