-- What each step tells, and that a rule's law lets the table's step be made.
use Rattle.std.proofs.Common.{◌≡◌, ◌≢◌, ℕ, List, refl, sym, subst, set, eqb}
use Rattle.std.proofs.lemmas.List.{set-get_or}
use prog.Atomic.{either}
use Rattle.atomic_table.specs.Table.{State, Me, Act, keeps, Valid, stepped, carried_after, Allows}
use Rattle.atomic_table.proofs.Lists.{exchanged, set_again}
use mathlib.Core.Logic.{dite}
use native.Mathlib.Decide.{ℕ_discrete}
use mathlib.Core.Option.{some}
use lib.ListN.{get_elem?}
use Rattle.index_list.specs.Steps.{word, looked, changed, Before, Goes}

module _ {S V : Type 0} where
  -- a load of n
  pub record Loaded (did : ℕ → V → Type 0) (me : Me S V) (n : ℕ) (me' : Me S V) : Type 0 where
    pub unmoved : me'.1 ≡ me.1
    pub said : did n me'.0

  pub record Stored (did : V → Type 0) (me me' : Me S V) : Type 0 where
    pub unmoved : me'.1 ≡ me.1
    pub said : did me'.0

  -- a load that finds the word as a store of `new` would leave it is that store; else it changes nothing
  pub record Kept (new : ℕ) (did : V → Type 0) (me : Me S V) (n : ℕ) (me' : Me S V) : Type 0 where
    pub hit : n ≡ new → Stored did me me'
    pub miss : n ≢ new → me' ≡ me

  -- an exchange that lost: another word than w was there, and it stays
  pub record Lost (w : ℕ) (did : ℕ → V → Type 0) (me me' : Me S V) : Type 0 where
    pub found : ℕ
    pub other : found ≢ w
    pub unmoved : me'.1 ≡ me.1
    pub said : did found me'.0

  -- an exchange of w that found n
  pub record Tried (w : ℕ) (won lost : Me S V → Type 0) (n : ℕ) (me' : Me S V) : Type 0 where
    pub hit : n ≡ w → won me'
    pub miss : n ≢ w → lost me'

module _ {S V : Type 0} (holds : State S V → Type 0) where
  -- a word that is stored as it was leaves the words as they were
  pub same_words : (s : State S V) (at id : ℕ) (v : V) → holds (looked s id v) → holds (changed s at (word s at) s.homes id v)
  same_words s at id v = subst (λ (ws : List ℕ). holds (record { words = ws; homes = s.homes; views = set s.views id v })) (sym (set-get_or s.words at 0))

  pub loads : (slots at id : ℕ) (me : Me S V) (did : ℕ → V → Type 0)
      → ((s : State S V) → Before holds id me.0 at s → Goes holds (looked s id) (did (word s at)))
      → Allows holds slots id me at (λ n. n) (Loaded did me)
  loads slots at id me did law s rule wide mine fits =
      let g = law s (record { rule = rule; mine = mine; fits = fits }) in
      (g.view, keeps, tt, same_words s at id g.view g.rule, record { unmoved = refl; said = g.told })

  pub stores : (slots at id new : ℕ) (me : Me S V) (did : V → Type 0)
      → ((s : State S V) → Before holds id me.0 at s → Goes holds (changed s at new s.homes id) did)
      → Allows holds slots id me at (λ _. new) (λ _. Stored did me)
  stores slots at id new me did law s rule wide mine fits =
      let g = law s (record { rule = rule; mine = mine; fits = fits }) in
      (g.view, keeps, tt, g.rule, record { unmoved = refl; said = g.told })

  -- a seat that keeps its view, and a word that keeps its number
  same_view : (s : State S V) (at id : ℕ) (v : V) → get_elem? s.views id ≡ some v → holds s → holds (changed s at (word s at) s.homes id v)
  same_view s at id v mine rule = same_words s at id v (subst (λ (vs : List V). holds (record { words = s.words; homes = s.homes; views = vs })) (sym (set_again s.views id v mine)) rule)

  pub keeps_stored : (slots at id new : ℕ) (me : Me S V) (did : V → Type 0)
      → ((s : State S V) → Before holds id me.0 at s → Goes holds (changed s at new s.homes id) did)
      → Allows holds slots id me at (λ n. n) (Kept new did me)
  keeps_stored slots at id new me did law s rule wide mine fits = dite (ℕ_discrete (word s at) new)
      (λ hit. let g = law s (record { rule = rule; mine = mine; fits = fits }) in (
        g.view,
        keeps,
        tt,
        subst (λ (n : ℕ). holds (changed s at n s.homes id g.view)) (sym hit) g.rule,
        record { hit = λ _. record { unmoved = refl; said = g.told }; miss = λ n. absurd (n hit) },
      ))
      (λ ne. (me.0, keeps, tt, same_view s at id me.0 mine rule, record { hit = λ is. absurd (ne is); miss = λ _. refl }))

  -- how an exchange of some word for m goes on where it finds that word
  pub record Wins (at m id : ℕ) (me : Me S V) (won : Me S V → Type 0) (s : State S V) : Type 0 where
    pub view : V
    pub act : Act S
    pub valid : Valid s.homes me.1 act
    pub rule : holds (stepped s at m id me.1 view act)
    pub told : won (view, carried_after me.1 act)

  pub tries : (slots at w m id : ℕ) (me : Me S V) (won : Me S V → Type 0) (did : ℕ → V → Type 0)
      → ((s : State S V) → Before holds id me.0 at s → word s at ≡ w → Wins at m id me won s)
      → ((s : State S V) → Before holds id me.0 at s → word s at ≢ w → Goes holds (looked s id) (did (word s at)))
      → Allows holds slots id me at (λ n. either (eqb n w) m n) (Tried w won (Lost w did me))
  tries slots at w m id me won did wins loses s rule wide mine fits =
      let before : Before holds id me.0 at s = record { rule = rule; mine = mine; fits = fits } in
      exchanged (word s at) w m (λ (n : ℕ). (x : V) × (a : Act S) × Valid s.homes me.1 a × holds (stepped s at n id me.1 x a) × Tried w won (Lost w did me) (word s at) (x, carried_after me.1 a))
      (λ hit. let g = wins s before hit in (g.view, g.act, g.valid, g.rule, record { hit = λ _. g.told; miss = λ n. absurd (n hit) }))
      (λ miss. let g = loses s before miss in (
        g.view,
        keeps,
        tt,
        same_words s at id g.view g.rule,
        record { hit = λ e. absurd (miss e); miss = λ _. record { found = word s at; other = miss; unmoved = refl; said = g.told } },
      ))

-- The same, where the word's position is known by an equation.
module _ {S V : Type 0} (holds : State S V → Type 0) (slots at at' id : ℕ) (e : at' ≡ at) (me : Me S V) where
  pub loads_at : (did : ℕ → V → Type 0)
      → ((s : State S V) → Before holds id me.0 at s → Goes holds (looked s id) (did (word s at)))
      → Allows holds slots id me at' (λ n. n) (Loaded did me)
  loads_at did law = subst (λ (k : ℕ). Allows holds slots id me k (λ n. n) (Loaded did me)) (sym e) (loads holds slots at id me did law)

  pub stores_at : (new : ℕ) (did : V → Type 0)
      → ((s : State S V) → Before holds id me.0 at s → Goes holds (changed s at new s.homes id) did)
      → Allows holds slots id me at' (λ _. new) (λ _. Stored did me)
  stores_at new did law = subst (λ (k : ℕ). Allows holds slots id me k (λ _. new) (λ _. Stored did me)) (sym e) (stores holds slots at id new me did law)

  pub keeps_stored_at : (new : ℕ) (did : V → Type 0)
      → ((s : State S V) → Before holds id me.0 at s → Goes holds (changed s at new s.homes id) did)
      → Allows holds slots id me at' (λ n. n) (Kept new did me)
  keeps_stored_at new did law = subst (λ (k : ℕ). Allows holds slots id me k (λ n. n) (Kept new did me)) (sym e) (keeps_stored holds slots at id new me did law)

  pub tries_at : (w m : ℕ) (won : Me S V → Type 0) (did : ℕ → V → Type 0)
      → ((s : State S V) → Before holds id me.0 at s → word s at ≡ w → Wins holds at m id me won s)
      → ((s : State S V) → Before holds id me.0 at s → word s at ≢ w → Goes holds (looked s id) (did (word s at)))
      → Allows holds slots id me at' (λ n. either (eqb n w) m n) (Tried w won (Lost w did me))
  tries_at w m won did wins loses = subst (λ (k : ℕ). Allows holds slots id me k (λ n. either (eqb n w) m n) (Tried w won (Lost w did me))) (sym e) (tries holds slots at w m id me won did wins loses)
