-- A list of indexes: a top, and a link of each index. A take and a give are three deeds each.
use Rattle.std.specs.Prelude.{ℕ, Bool, false, List, [], ◌∷◌, Option as Slot}
use mathlib.Core.Option.{Option}
use Rattle.machine.specs.Words.{Tagged}
use Rattle.machine.specs.Program.{Deed, Then, Won, brings, loads, follows, links, swaps, takes, takes_all, gives, gives_chain}

-- where its top lies, and the link of an index
pub record IndexList (P Q : Type 0) : Type 0 where
  pub top : P
  pub link : ℕ → Q

module _ {T M P Q L E : Type 0} (list : IndexList P Q) where
  -- a take: read the top, follow its link, and exchange the top for what stands there
  abbrev pub load_top : (Tagged → L) → Deed T M P Q L E
  load_top to = loads list.top to

  abbrev pub follow_link : Tagged → (ℕ → L) → Deed T M P Q L E
  follow_link w to = follows (list.link w.index) to

  abbrev pub take_top : Tagged → ℕ → Won T M L E → L → Deed T M P Q L E
  take_top w k won lost = swaps list.top w (takes k) won lost

  -- and if each index carries a slot, that of the index comes with it
  abbrev pub take_slot : Tagged → ℕ → (List (Option (Slot T)) → Option (Then L E)) → L → Deed T M P Q L E
  take_slot w k reply lost = take_top w k (brings false (λ m. w.index ∷ []) (λ is. reply)) lost

  -- a take of the whole list, which the memory tells, with the slots in this order or turned round
  abbrev pub take_all : Tagged → Bool → (M → List ℕ) → (List ℕ → List (Option (Slot T)) → Option (Then L E)) → L → Deed T M P Q L E
  take_all w turned which reply lost = swaps list.top w (takes_all turned) (brings turned which reply) lost

  -- a give: read the top, link an index to it, and exchange the top for that index, or for a chain that
  -- ends with it
  abbrev pub link_to_top : ℕ → Tagged → L → Deed T M P Q L E
  link_to_top i w to = links (list.link i) w.index to

  abbrev pub give_top : Tagged → ℕ → Won T M L E → L → Deed T M P Q L E
  give_top w i won lost = swaps list.top w (gives i) won lost

  abbrev pub give_chain : Tagged → ℕ → Won T M L E → L → Deed T M P Q L E
  give_chain w first won lost = swaps list.top w (gives_chain first) won lost
