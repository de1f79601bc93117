-- A machine that has lines which are steps on lists of indexes.
use Rattle.std.specs.Prelude.{◌≡◌, ℕ, ◌<◌, Bool, true, false, List, [], ◌∷◌, length, slice_index, Option as Slot}
use mathlib.Core.Option.{Option, none, some}
use lib.ListN.{get_elem?}
use Rattle.tagged_index.specs.Fields.{fields_of, index_of}
use Rattle.tagged_index.specs.declared.word.TheConstants.{NULL}
use Rattle.bounded_model.specs.declared.history.Event.{Event}
use Rattle.bounded_model.specs.declared.views.PassView.{PassView}
use Rattle.index_list.specs.Lists.{Layout, Leads, Disjoint, Distinct}
use Rattle.index_list.specs.Steps.{numbers}
use Rattle.index_list.specs.Kinds.{Kind, read_top, read_link, write_link, exchange, new_top, in_order}
use Rattle.index_list.specs.Host.{Host, IsReady}
use Rattle.index_list.specs.declared.front.Front.{Front}
use Rattle.index_list.specs.declared.front.Front.TheVariants.{First, Last}
use Rattle.index_list.specs.declared.change.Change.{Change}
use Rattle.index_list.specs.declared.change.Change.TheVariants.{Take, TakeAll, Give, GiveChain, Mark, Shut}
use Rattle.machine.specs.Program.{Memories, Deed}
use Rattle.machine.specs.Program as program
use Rattle.machine.specs.declared.seats.View.{View}
use Rattle.machine.specs.Words.{Tagged}
use Rattle.running.specs.Machine.{Names, Machine, Access, Side, stays, brings, returns, loads, stores, swaps}
use Rattle.running.specs.Rule.{line_in}
use Rattle.running.specs.Going.{Going, Did, now_in}

-- where the lists of a container lie, which indexes of a list a line holds, and which step on which
-- list a line is, if it is one
pub record Lists (L : Type 0) : Type 0 where
  pub layout : Layout
  pub held : ℕ → L → List ℕ
  pub step : L → Option (ℕ × Kind)

-- which end of a list its slots begin with
abbrev pub front_of : Bool → Front
front_of false = First
front_of true = Last

abbrev pub on_list : Option ℕ → Kind → Option (ℕ × Kind)
on_list none kind = none
on_list (some l) kind = some (l, kind)

abbrev pub on_link : Option (ℕ × ℕ) → (ℕ → Kind) → Option (ℕ × Kind)
on_link none kind = none
on_link (some z) kind = some (z.0, kind z.1)

abbrev pub exchanges : Option ℕ → Tagged → program.Change → Option (ℕ × Kind)
exchanges list w (program.takes next) = on_list list (exchange w (Take next))
exchanges list w (program.takes_all turned) = on_list list (exchange w (TakeAll (front_of turned)))
exchanges list w (program.gives i) = on_list list (exchange w (Give i))
exchanges list w (program.gives_chain first) = on_list list (exchange w (GiveChain first))
exchanges list w program.marks = on_list list (exchange w Mark)
exchanges list w program.shuts = on_list list (exchange w Shut)
exchanges list w (program.becomes new) = none

-- which step on which list a line is that does this, if it is one
abbrev pub step_of : {T M P Q L E : Type 0} → Memories T M P Q → Deed T M P Q L E → Option (ℕ × Kind)
step_of x (program.loads at to) = on_list (x.top_of at) read_top
step_of x (program.checks at w here else_) = on_list (x.top_of at) read_top
step_of x (program.follows at to) = on_link (x.link_of at) read_link
step_of x (program.links at k to) = on_link (x.link_of at) (λ i. write_link i k)
step_of x (program.swaps at old change w lost) = exchanges (x.top_of at) old change
step_of x d = none

-- what a won exchange does to the slots of a list
abbrev pub side : Bool → Change → Side
side false c = stays
side true Mark = stays
side true Shut = stays
side true (Take k) = brings
side true (TakeAll front) = brings
side true (Give i) = returns
side true (GiveChain i) = returns

-- the access of each kind of step on a list
abbrev pub kind_access : Layout → ℕ → Kind → Access
kind_access y l read_top = loads (y.top l)
kind_access y l (read_link i) = loads (y.link l i)
kind_access y l (write_link i x) = stores (y.link l i) x
kind_access y l (exchange w c) = swaps (y.top l) w (new_top (y.keeps l) w c) (side (y.carries l) c)

module _ {L : Type 0} (y : Lists L) where
  -- the access of a line that is this step on a list, or else makes that access
  abbrev pub step_access : Access → Option (ℕ × Kind) → Access
  step_access a none = a
  step_access a (some z) = kind_access y.layout z.0 z.1

  -- what its pass may depend on
  abbrev pub Ready : List ℕ → L → Option (ℕ × Kind) → Type 0
  Ready words line none = Unit {0}
  Ready words line (some z) = IsReady y.layout z.0 (y.held z.0 line) (λ at. slice_index words at) z.1

  -- the list l, as the lines know it
  pub record Listed (l : ℕ) (words : List ℕ) (lines : List L) (xs : List ℕ) : Type 0 where
    pub leads : Leads (λ i. slice_index words (y.layout.link l i)) (index_of (slice_index words (y.layout.top l))) xs NULL
    pub distinct : Distinct xs
    pub free : (q : ℕ) (line : L) → get_elem? lines q ≡ some line → Disjoint xs (y.held l line)

module _ {T L : Type 0} (y : Lists L) where
  -- the slots that an exchange brings, if the list carries slots, are those of the indexes that it takes
  abbrev pub Bringing : Bool → List ℕ → List (ℕ × Slot T) → ℕ → Kind → Type 0
  Bringing true words zs l (exchange w (Take k)) = numbers zs ≡ w.index ∷ []
  Bringing true words zs l (exchange w (TakeAll front)) = fields_of (slice_index words (y.layout.top l)) ≡ w → (xs : List ℕ) → Leads (λ i. slice_index words (y.layout.link l i)) (index_of (slice_index words (y.layout.top l))) xs NULL → numbers zs ≡ in_order front xs
  Bringing carries words zs l kind = Unit {0}

  -- and those that it gives back are those of the indexes that it gives
  abbrev pub Returning : Bool → List ℕ → List (ℕ × Slot T) → Kind → Type 0
  Returning true hand zs (exchange w (Give i)) = numbers zs ≡ i ∷ []
  Returning true hand zs (exchange w (GiveChain i)) = numbers zs ≡ hand
  Returning carries hand zs kind = Unit {0}

  abbrev pub BroughtBy : List ℕ → List (ℕ × Slot T) → Option (ℕ × Kind) → Type 0
  BroughtBy words zs none = Unit {0}
  BroughtBy words zs (some z) = Bringing (y.layout.carries z.0) words zs z.0 z.1

  abbrev pub ReturnedBy : L → List (ℕ × Slot T) → Option (ℕ × Kind) → Type 0
  ReturnedBy line zs none = Unit {0}
  ReturnedBy line zs (some z) = Returning (y.layout.carries z.0) (y.held z.0 line) zs z.1

module _ {T L O : Type 0} {names : Names L O} (m : Machine T L O names) (y : Lists L) where
  -- what a container shows of its n lists, beyond what its machine's laws say
  pub record Hosts (n : ℕ) : Type 0 where
    pub idle : (l : ℕ) (line : L) → names.is_idle line ≡ true → y.held l line ≡ []
    pub first : (l : ℕ) (o : O) (rest : L) → y.held l (names.first o rest) ≡ []
    pub apart : (l i : ℕ) → l < n → y.layout.link l i ≡ y.layout.top l → ⊥
    pub placed : (l : ℕ) (words : List ℕ) (homes : List (Option (Slot T))) → l < n → m.core.Sane words homes → y.layout.top l < length words
    pub access : (line : L) → m.core.access line ≡ step_access y (m.core.access line) (y.step line)
    pub stands : (l : ℕ) (words : List ℕ) (homes : List (Option (Slot T))) (of : ℕ → Option ℕ) (lines : List L) (h : List (Event T)) → l < n → m.core.Sane words homes → m.core.Good (m.core.read words homes) of lines h → (xs : List ℕ) × Listed y l words lines xs
    pub ready : (words : List ℕ) (homes : List (Option (Slot T))) (of : ℕ → Option ℕ) (lines : List L) (h : List (Event T)) (q : ℕ) (line : L) → m.core.Sane words homes → m.core.Good (m.core.read words homes) of lines h → get_elem? lines q ≡ some line → Ready y words line (y.step line)
    pub brought : (words : List ℕ) (homes : List (Option (Slot T))) (of : ℕ → Option ℕ) (lines : List L) (h : List (Event T)) (q : ℕ) (line : L) (zs : List (ℕ × Slot T)) → m.core.Good (m.core.read words homes) of lines h → get_elem? lines q ≡ some line
        → m.core.Moves (m.core.read words homes) line zs → BroughtBy y words zs (y.step line)
    pub returned : (words : List ℕ) (homes : List (Option (Slot T))) (of : ℕ → Option ℕ) (lines : List L) (h : List (Event T)) (q : ℕ) (line : L) (zs : List (ℕ × Slot T)) → m.core.Good (m.core.read words homes) of lines h → get_elem? lines q ≡ some line
        → m.core.Fits line zs → ReturnedBy y line zs (y.step line)

  -- a pass in an operation, at a line that is this step on this list
  pub record AtStep (o : O) (v : View T L) (l : ℕ) (kind : Kind) : Type 0 where
    pub begun : PassView T
    pub line : L
    pub going : Going m o v begun line
    pub step : y.step line ≡ some (l, kind)

  abbrev pub Plain : ℕ → Kind → Type 0
  Plain l (write_link i x) = m.core.Plain (y.layout.link l i) x
  Plain l kind = Unit {0}

  -- what a step tells; a won exchange tells too which slots it brings, and that those it gives back are
  -- as many as any that fit
  abbrev pub Tells : O → ℕ → Kind → ℕ → List (ℕ × Slot T) → View T L → View T L → Type 0
  Tells o l (exchange w c) found zs v v' = Did m o found zs v v' × (fields_of found ≡ w → side (y.layout.carries l) c ≡ brings → m.core.Fits (now_in m o v) zs)
      × (fields_of found ≡ w → side (y.layout.carries l) c ≡ returns → (zs' : List (ℕ × Slot T)) → m.core.Fits (now_in m o v) zs' → numbers zs' ≡ numbers zs)
  Tells o l kind found zs v v' = Did m o found zs v v'

  abbrev pub Rests : Bool → O → View T L → List (ℕ × Slot T) → Type 0
  Rests true o v zs = m.core.Fits (now_in m o v) zs
  Rests false o v zs = zs ≡ []

  -- the machine as a host of its lists
  abbrev pub host : Host (Slot T) (View T L) O
  host = record {
    held = λ l v. y.held l (line_in names v);
    may = λ o l kind v. AtStep o v l kind × Plain l kind;
    did = Tells;
    rests = λ o l v zs. Rests (y.layout.carries l) o v zs;
  }
