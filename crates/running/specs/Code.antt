-- How the code of an operation follows its machine.
use Rattle.std.specs.Prelude.{◌≡◌, ℕ, ◌<◌, ◌≤◌, Bool, false, true, List, [], ◌++◌, Option as Slot}
use mathlib.Core.Option.{some}
use Rattle.tagged_index.specs.Fields.{fields_of, index_of, tag_of}
use Rattle.tagged_index.specs.declared.word.TheConstants.{NULL, MAX_TAG}
use Rattle.index_list.specs.Kinds.{Kind, read_top, read_link, write_link, exchange}
use Rattle.index_list.specs.declared.change.Change.TheVariants as change
use Rattle.machine.specs.Words.{same}
use Rattle.running.specs.Machine.{Names, Core, Access as Deed, Side, stays, brings, returns, loads, fetches, stows, stores, swaps}
use Rattle.running.specs.Lists.{Lists, kind_access}
use Rattle.running.specs.declared.access.Access.{Access}
use Rattle.running.specs.declared.access.Access.TheVariants.{Load, Fetch, Stow, Store, Keep, Swap, Bring, Return, LoadTop, LoadLink, StoreLink, KeepLink, Take, TakeBare, TakeAll, Give, GiveBare, GiveChain, Mark, Shut}
use Rattle.running.specs.declared.access.Outcome.{Outcome}
use Rattle.running.specs.declared.code.Next.{Next}
use Rattle.running.specs.declared.code.Next.TheVariants.{On, Lost, Done}

module _ {T L O : Type 0} (c : Core T L O) (y : Lists L) (lists words : ℕ) where
  -- a line is this step on a list
  abbrev pub IsStep : L → ℕ → Kind → Type 0
  IsStep l list kind = (list < lists) × (y.step l ≡ some (list, kind)) × (c.access l ≡ kind_access y.layout list kind)

  -- this is the access of a line, with these slots in hand
  abbrev pub IsAccess : L → List (ℕ × Slot T) → Access → Type 0
  IsAccess l slots (Load at) = (c.access l ≡ loads at) × (at < words)
  IsAccess l slots (Fetch at) = (c.access l ≡ fetches at) × (at < words)
  IsAccess l slots (Stow at) = (c.access l ≡ stows at) × (at < words) × c.Fits l slots
  IsAccess l slots (Store at x) = (c.access l ≡ stores at x) × (at < words) × c.Plain at x
  IsAccess l slots (Keep at x) = (c.access l ≡ stores at x) × (at < words) × c.Plain at x
  IsAccess l slots (Swap at seen new) = (c.access l ≡ swaps at (fields_of seen) (fields_of new) stays) × (at < words)
  IsAccess l slots (Bring at seen new) = (c.access l ≡ swaps at (fields_of seen) (fields_of new) brings) × (at < words)
  IsAccess l slots (Return at seen new) = (c.access l ≡ swaps at (fields_of seen) (fields_of new) returns) × (at < words) × c.Fits l slots
  IsAccess l slots (LoadTop list) = IsStep l list read_top × (y.layout.top list < words)
  IsAccess l slots (LoadLink list i) = IsStep l list (read_link i) × (i ≤ NULL) × (y.layout.link list i < words)
  IsAccess l slots (StoreLink list i next) = IsStep l list (write_link i next) × (i ≤ NULL) × (y.layout.link list i < words) × c.Plain (y.layout.link list i) next
  IsAccess l slots (KeepLink list i next) = IsStep l list (write_link i next) × (i ≤ NULL) × (y.layout.link list i < words) × c.Plain (y.layout.link list i) next
  IsAccess l slots (Take list seen next) = IsStep l list (exchange (fields_of seen) (change.Take next)) × (y.layout.top list < words) × (y.layout.carries list ≡ true) × (index_of seen < NULL) × (tag_of seen < MAX_TAG) × (next ≤ NULL)
  IsAccess l slots (TakeBare list seen next) = IsStep l list (exchange (fields_of seen) (change.Take next)) × (y.layout.top list < words) × (y.layout.carries list ≡ false) × (index_of seen < NULL) × (tag_of seen < MAX_TAG) × (next ≤ NULL)
  IsAccess l slots (TakeAll list seen front) = IsStep l list (exchange (fields_of seen) (change.TakeAll front)) × (y.layout.top list < words) × (y.layout.carries list ≡ true) × (tag_of seen < MAX_TAG)
  IsAccess l slots (Give list seen i) = IsStep l list (exchange (fields_of seen) (change.Give i)) × (y.layout.top list < words) × (y.layout.carries list ≡ true) × (i < NULL) × (y.layout.keeps list ≡ false → tag_of seen < MAX_TAG) × c.Fits l slots
  IsAccess l slots (GiveBare list seen i) = IsStep l list (exchange (fields_of seen) (change.Give i)) × (y.layout.top list < words) × (y.layout.carries list ≡ false) × (i < NULL) × (y.layout.keeps list ≡ false → tag_of seen < MAX_TAG)
  IsAccess l slots (GiveChain list seen first) = IsStep l list (exchange (fields_of seen) (change.GiveChain first)) × (y.layout.top list < words) × (y.layout.carries list ≡ true) × (first ≤ NULL) × (y.layout.keeps list ≡ false → tag_of seen < MAX_TAG) × c.Fits l slots
  IsAccess l slots (Mark list seen) = IsStep l list (exchange (fields_of seen) change.Mark) × (y.layout.top list < words)
  IsAccess l slots (Shut list seen) = IsStep l list (exchange (fields_of seen) change.Shut) × (y.layout.top list < words)

-- the same access without a load before a store
abbrev pub plain : Access → Access
plain (Keep at x) = Store at x
plain (KeepLink list i next) = StoreLink list i next
plain a = a

-- not the pair of a load and a store
abbrev pub is_single : Access → Bool
is_single (Keep at x) = false
is_single (KeepLink list i next) = false
is_single a = true

module _ {T L O : Type 0} (c : Core T L O) where
  -- what a won exchange did to the slots in hand
  abbrev pub Won : Side → L → List (ℕ × Slot T) → List (ℕ × Slot T) → List (ℕ × Slot T) → Type 0
  Won stays l had has came = (has ≡ had) × (came ≡ [])
  Won brings l had has came = (has ≡ came ++ had) × c.Fits l came
  Won returns l had has came = (has ≡ []) × (came ≡ had)

  -- an access that came to r found this word, and these slots came or went
  abbrev pub FoundBy : Deed → L → Outcome → List (ℕ × Slot T) → List (ℕ × Slot T) → ℕ → List (ℕ × Slot T) → Type 0
  FoundBy (swaps at old new side) l r had has found came = (same (fields_of found) old ≡ r.won) × (r.won ≡ true → Won side l had has came) × (r.won ≡ false → (has ≡ had) × (came ≡ []))
  FoundBy (fetches at) l r had has found came = (found ≡ r.word) × (has ≡ came ++ had) × c.Fits l came
  FoundBy (stows at) l r had has found came = (found ≡ r.word) × (has ≡ []) × (came ≡ had)
  FoundBy deed l r had has found came = (found ≡ r.word) × (has ≡ had) × (came ≡ [])

  -- what an operation that continues is told
  abbrev pub CameBy : Deed → L → Outcome → List (ℕ × Slot T) → List (ℕ × Slot T) → Type 0
  CameBy (swaps at old new side) l r had has = (found : ℕ) × (came : List (ℕ × Slot T)) × FoundBy (swaps at old new side) l r had has found came × c.Says l found
  CameBy (fetches at) l r had has = (found : ℕ) × (came : List (ℕ × Slot T)) × FoundBy (fetches at) l r had has found came × c.Says l found
  CameBy (stows at) l r had has = (has ≡ []) × c.Says l r.word
  CameBy deed l r had has = (has ≡ had) × c.Says l r.word

  -- and what it shows, of whatever was found
  abbrev pub FindingBy : Deed → L → Outcome → List (ℕ × Slot T) → List (ℕ × Slot T) → (ℕ → List (ℕ × Slot T) → Type 0) → Type 0
  FindingBy (swaps at old new side) l r had has So = (found : ℕ) (came : List (ℕ × Slot T)) → FoundBy (swaps at old new side) l r had has found came → So found came
  FindingBy (fetches at) l r had has So = (found : ℕ) (came : List (ℕ × Slot T)) → FoundBy (fetches at) l r had has found came → So found came
  FindingBy (stows at) l r had has So = (found : ℕ) (came : List (ℕ × Slot T)) → FoundBy (stows at) l r had has found came → So found came
  FindingBy deed l r had has So = has ≡ had → So r.word []

  abbrev pub Came : L → Outcome → List (ℕ × Slot T) → List (ℕ × Slot T) → Type 0
  Came l r had has = CameBy (c.access l) l r had has

  abbrev pub Finding : L → Outcome → List (ℕ × Slot T) → List (ℕ × Slot T) → (ℕ → List (ℕ × Slot T) → Type 0) → Type 0
  Finding l r had has So = FindingBy (c.access l) l r had has So

abbrev pub MatchNext : {S A : Type 0} → Next S A → (S → Type 0) → (A → Type 0) → Type 0
MatchNext (On s) goes ends = goes s
MatchNext (Lost s) goes ends = goes s
MatchNext (Done a) goes ends = ends a

-- the slots in hand of an operation that has stopped: none, once its machine has answered
abbrev pub left : {T : Type 0} → Bool → List (ℕ × Slot T) → List (ℕ × Slot T)
left true rest = []
left false rest = rest

-- How an operation is read by what it is at. Which one it is, its machine's line, the slots in hand, and what is known of the words
-- that were read; of one that has stopped its line, the slots in hand, and what is told by where it was before
pub record Account (T L O S A : Type 0) : Type 1 where
  pub operation : S → O
  pub line : S → L
  pub slots : S → List (ℕ × Slot T)
  pub knows : S → Type 0
  pub answer : O → A → L
  pub rest : A → List (ℕ × Slot T)
  pub told : S → A → Type 0

-- of one that stops with its answer alone
abbrev pub to_answer : {T L O S A : Type 0} → (S → O) → (S → L) → (S → List (ℕ × Slot T)) → (S → Type 0) → (O → A → L) → Account T L O S A
to_answer operation line slots knows answer = record { operation = operation; line = line; slots = slots; knows = knows; answer = answer; rest = λ a. []; told = λ s a. Unit {0} }

module _ {T L O S A : Type 0} (names : Names L O) (c : Account T L O S A) where
  -- it continues at s', as the machine at l
  pub record GoesTo (s : S) (l : L) (has : List (ℕ × Slot T)) (s' : S) : Type 0 where
    pub same : c.operation s' ≡ c.operation s
    pub is : l ≡ c.line s'
    pub busy : names.is_idle (c.line s') ≡ false
    pub hand : has ≡ c.slots s'
    pub knows : c.knows s'

  -- or stops: its machine has answered too, or is at a line at which the caller must act
  pub record Answers (s : S) (l : L) (has : List (ℕ × Slot T)) (a : A) : Type 0 where
    pub is : l ≡ c.answer (c.operation s) a
    pub hand : has ≡ left (names.is_idle (c.answer (c.operation s) a)) (c.rest a)

  abbrev pub Leads : S → L → List (ℕ × Slot T) → Next S A → Type 0
  Leads s l has r = MatchNext r (GoesTo s l has) (Answers s l has)

-- What is told of an operation that was at s: what it has stopped with, or what is told of the state in which it continues
abbrev pub Tells : {S A : Type 0} → (S → A → Type 0) → S → Next S A → Type 0
Tells {A = A} Told s r = MatchNext r (λ s'. (a : A) → Told s' a → Told s a) (Told s)
