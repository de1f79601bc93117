-- A machine that is given as data, on a table: where its words lie, and what follows from this for each line.
use Rattle.std.specs.Prelude.{◌≡◌, ◌≢◌, ◌⊎◌, ℕ, ◌<◌, ◌≤◌, Bool, true, false, if◌then◌else◌, List, [], ◌∷◌, map, length, slice_index, Option as Slot}
use mathlib.Core.Option.{Option, none, some}
use lib.ListN.{get_elem?}
use Rattle.tagged_index.specs.Fields.{fields_of, number}
use Rattle.tagged_index.specs.declared.word.TheConstants.{NULL}
use Rattle.bounded_model.specs.declared.history.Event.{Event}
use Rattle.bounded_model.specs.declared.views.Answered.{Answered}
use Rattle.bounded_model.specs.Machine.{Shape}
use Rattle.index_list.specs.Lists.{Holds, Distinct}
use Rattle.index_list.specs.Steps.{Each, IsHome, numbers}
use Rattle.machine.specs.Words.{Tagged, same}
pub use Rattle.machine.specs.Chains.{turned}
use Rattle.machine.specs.Program.{Memories, Then, Won, Deed, new_word, does}
use Rattle.machine.specs.Program as program
use Rattle.running.specs.Machine.{Access, Side, Core, rests, loads, fetches, stows, stores, swaps, stays, brings, returns}

-- where the words of the places lie, how many words there are, and how many slots
pub record Layout (P Q : Type 0) : Type 0 where
  pub place : P → ℕ
  pub link : Q → ℕ
  pub words : ℕ
  pub slots : ℕ

-- what a slot's place has: its value if it is at home, else nothing
abbrev pub at_home : {S : Type 0} → Option (Option S) → Option S
at_home none = none
at_home (some x) = x

-- two places are one word, or two; a test says which
abbrev pub Apart : {A : Type 0} → (A → ℕ) → (A → A → Bool) → A → A → Type 0
Apart at test a b = ((test a b ≡ true) × (at a ≡ at b)) ⊎ ((test a b ≡ false) × (at a ≢ at b))

-- each place lies at a word, no tagged word at that of a number, and a memory is what its places have
pub record Lies {T M P Q : Type 0} (x : Memories T M P Q) (y : Layout P Q) : Type 0 where
  pub places : (a b : P) → Apart y.place x.same_place a b
  pub links : (a b : Q) → Apart y.link x.same_link a b
  pub others : (a : P) (q : Q) → y.place a ≢ y.link q
  pub word_is : (f : P → Tagged) (g : Q → ℕ) (h : ℕ → Option (Slot T)) (a : P) → x.word (x.of f g h) a ≡ f a
  pub link_is : (f : P → Tagged) (g : ℕ → ℕ) (h : ℕ → Option (Slot T)) (q : Q) → x.link (x.of f (λ a. g (y.link a)) h) q ≡ g (y.link q)
  pub home_is : (f : P → Tagged) (g : Q → ℕ) (h : ℕ → Option (Slot T)) → x.home (x.of f g h) ≡ h

-- the memory that a table of words and slots shows
abbrev pub memory_in : {T M P Q : Type 0} → Memories T M P Q → Layout P Q → List ℕ → List (Option (Slot T)) → M
memory_in x y words homes = x.of (λ a. fields_of (slice_index words (y.place a))) (λ q. slice_index words (y.link q)) (λ i. at_home (get_elem? homes i))

-- a machine on a table: besides the data where a pass stops that finds what there never is, what slots a step
-- may bring, and what the word that a line finds tells the code
pub record Board (T M P Q L : Type 0) : Type 1 where
  pub memories : Memories T M P Q
  pub layout : Layout P Q
  pub idle : L → L
  pub table : L → Deed T M P Q L (Event T)
  pub Brings : L → List (ℕ × Slot T) → Type 0
  pub Says : L → ℕ → Type 0
  pub Plain : ℕ → ℕ → Type 0

-- the table, but for the words that are no links: its sizes, and that a link is an index or null
pub record Sane {T P Q : Type 0} (y : Layout P Q) (words : List ℕ) (homes : List (Option (Slot T))) : Type 0 where
  pub words_are : length words ≡ y.words
  pub homes_are : length homes ≡ y.slots
  pub plain : (q : Q) → slice_index words (y.link q) ≤ NULL

abbrev pub values : {S : Type 0} → List (ℕ × S) → List S
values [] = []
values (z ∷ zs) = z.1 ∷ values zs

-- the next line, by the word found and the slots moved; a pass that finds what there never is stops
abbrev pub line_of : {T L : Type 0} → L → Option (Then L (Event T)) → L
line_of idle none = idle
line_of idle (some t) = t.line

abbrev pub won_line : {T M L : Type 0} → L → Won T M L (Event T) → List (ℕ × Slot T) → L
won_line idle (program.stays t) zs = t.line
won_line idle (program.returns slots t) zs = t.line
won_line idle (program.brings way which reply) zs = line_of idle (reply (turned way (numbers zs)) (map some (turned way (values zs))))

abbrev pub next_of : {T M P Q L : Type 0} → L → L → Deed T M P Q L (Event T) → ℕ → List (ℕ × Slot T) → L
next_of idle l program.rests y zs = l
next_of idle l (program.loads at to) y zs = to (fields_of y)
next_of idle l (program.checks at w here else_) y zs = if same (fields_of y) w then here else else_
next_of idle l (program.follows at to) y zs = to y
next_of idle l (program.fetches at is to) y zs = to (fields_of y)
next_of idle l (program.stows at slots to) y zs = to
next_of idle l (program.stores at w to) y zs = to
next_of idle l (program.links at k to) y zs = to
next_of idle l (program.attempts at old new to) y zs = to
next_of idle l (program.swaps at old change w lost) y zs = if same (fields_of y) old then won_line idle w zs else lost

module _ {T M P Q L : Type 0} (b : Board T M P Q L) where
  abbrev pub read : List ℕ → List (Option (Slot T)) → M
  read words homes = memory_in b.memories b.layout words homes

  abbrev pub side_of : Won T M L (Event T) → Side
  side_of (program.stays t) = stays
  side_of (program.returns zs t) = returns
  side_of (program.brings way which reply) = brings

  abbrev pub access_of : Deed T M P Q L (Event T) → Access
  access_of program.rests = rests
  access_of (program.loads at to) = loads (b.layout.place at)
  access_of (program.checks at w here else_) = loads (b.layout.place at)
  access_of (program.follows at to) = loads (b.layout.link at)
  access_of (program.fetches at is to) = fetches (b.layout.place at)
  access_of (program.stows at slots to) = stows (b.layout.place at)
  access_of (program.stores at w to) = stores (b.layout.place at) (number w)
  access_of (program.links at k to) = stores (b.layout.link at) k
  access_of (program.attempts at old new to) = swaps (b.layout.place at) old new stays
  access_of (program.swaps at old change w lost) = swaps (b.layout.place at) old (new_word (b.memories.keeps at) old change) (side_of w)

  -- the slots that an exchange moves
  abbrev pub fits_won : L → Won T M L (Event T) → List (ℕ × Slot T) → Type 0
  fits_won l (program.stays t) zs = Unit {0}
  fits_won l (program.returns slots t) zs = zs ≡ slots
  fits_won l (program.brings way which reply) zs = b.Brings l zs

  abbrev pub fits_of : L → Deed T M P Q L (Event T) → List (ℕ × Slot T) → Type 0
  fits_of l (program.swaps at old change w lost) zs = fits_won l w zs
  fits_of l (program.fetches at is to) zs = b.Brings l zs
  fits_of l (program.stows at slots to) zs = zs ≡ slots
  fits_of l d zs = Unit {0}

  -- in which memory an exchange brings these slots
  abbrev pub moves_won : M → Won T M L (Event T) → List (ℕ × Slot T) → Type 0
  moves_won m (program.brings way which reply) zs = turned way (numbers zs) ≡ which m
  moves_won m w zs = Unit {0}

  abbrev pub moves_of : M → Deed T M P Q L (Event T) → List (ℕ × Slot T) → Type 0
  moves_of m (program.swaps at old change w lost) zs = moves_won m w zs
  moves_of m (program.fetches at is to) zs = numbers zs ≡ is
  moves_of m d zs = Unit {0}

  -- What a container shows of a line, from its rule alone, for its step to be made on the table

  module _ (words : List ℕ) (homes : List (Option (Slot T))) where
    abbrev pub found : ℕ → ℕ
    found at = slice_index words at

    -- slots that come: each is at home, once
    pub record Comes (l : L) (way : Bool) (which : List ℕ) (reply : List (Option (Slot T)) → Option (Then L (Event T))) : Type 0 where
      pub slots : List (ℕ × Slot T)
      pub apart : Distinct (numbers slots)
      pub home : Each (IsHome homes) slots
      pub fits : b.Brings l slots
      pub are : turned way (numbers slots) ≡ which
      pub to : Then L (Event T)
      pub replies : reply (map some (turned way (values slots))) ≡ some to

    -- and those of these indexes
    pub record Fetches (l : L) (is : List ℕ) : Type 0 where
      pub slots : List (ℕ × Slot T)
      pub apart : Distinct (numbers slots)
      pub home : Each (IsHome homes) slots
      pub fits : b.Brings l slots
      pub are : numbers slots ≡ is

    -- slots that go: each is one, once
    pub record Goes (slots : List (ℕ × Slot T)) : Type 0 where
      pub apart : Distinct (numbers slots)
      pub low : (i : ℕ) → Holds (numbers slots) i → i < length homes

    abbrev pub NeedsWon : L → Won T M L (Event T) → Type 0
    NeedsWon l (program.stays t) = Unit {0}
    NeedsWon l (program.returns slots t) = Goes slots
    NeedsWon l (program.brings way which reply) = Comes l way (which (read words homes)) (reply (which (read words homes)))

    abbrev pub Needs : L → Deed T M P Q L (Event T) → Type 0
    Needs l program.rests = Unit {0}
    Needs l (program.loads at to) = b.Says l (found (b.layout.place at))
    Needs l (program.checks at w here else_) = b.Says l (found (b.layout.place at))
    Needs l (program.follows at to) = b.Says l (found (b.layout.link at))
    Needs l (program.fetches at is to) = Fetches l is × b.Says l (found (b.layout.place at))
    Needs l (program.stows at slots to) = Goes slots × b.Says l (found (b.layout.place at))
    Needs l (program.stores at w to) = (b.layout.place at < length words) × (fields_of (number w) ≡ w) × b.Says l (number w)
    Needs l (program.links at k to) = (b.layout.link at < length words) × b.Says l k
    Needs l (program.attempts at old new to) = (fields_of (found (b.layout.place at)) ≡ old → b.layout.place at < length words) × b.Says l (found (b.layout.place at))
    Needs l (program.swaps at old change w lost) = (fields_of (found (b.layout.place at)) ≡ old → (b.layout.place at < length words) × NeedsWon l w) × b.Says l (found (b.layout.place at))

-- what the rule of a container says, for its core
pub record Rules (T M L O : Type 0) : Type 1 where
  pub first : M
  pub shape : Shape
  pub holding : L → ℕ
  pub reply : L → Answered T
  pub Reads : Type 0
  pub Peeks : O → Type 0
  pub Effect : O → ℕ → Event T → Type 0
  pub rest : ℕ → L
  pub stock : L
  pub IsStock : ℕ → L → Type 0
  pub Good : M → (ℕ → Option ℕ) → List L → List (Event T) → Type 0
  pub Deeds : O → ℕ → L → List (Event T) → List (Event T) → Type 0
  pub Tells : List (Event T) → List (Event T) → L → Type 0
  pub WinsUnheld : M → List L → L → L → Type 0
  pub Free : M → (ℕ → L) → L → Type 0

module _ {T M P Q L O : Type 0} (b : Board T M P Q L) (r : Rules T M L O) where
  abbrev pub core_of : Core T L O
  core_of = record {
    Memory = M;
    first = r.first;
    shape = r.shape;
    after = λ m p l. (does b.memories (b.idle l) m p l (b.table l)).memory;
    lands = λ m p l. (does b.memories (b.idle l) m p l (b.table l)).line;
    adds = λ m p l. (does b.memories (b.idle l) m p l (b.table l)).events;
    holding = r.holding;
    reply = r.reply;
    Reads = r.Reads;
    Peeks = r.Peeks;
    Effect = r.Effect;
    rest = r.rest;
    stock = r.stock;
    IsStock = r.IsStock;
    Good = r.Good;
    Deeds = r.Deeds;
    Tells = r.Tells;
    WinsUnheld = r.WinsUnheld;
    Free = r.Free;
    read = read b;
    Sane = Sane b.layout;
    access = λ l. access_of b (b.table l);
    next = λ l. next_of (b.idle l) l (b.table l);
    Fits = λ l. fits_of b l (b.table l);
    Moves = λ m l. moves_of b m (b.table l);
    Says = b.Says;
    Plain = b.Plain;
  }
