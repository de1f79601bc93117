-- What the laws of a host say of each step function.
use Rattle.std.proofs.Common.{◌≡◌, ◌≢◌, ℕ, ◌<◌, Bool, true, false, cond, List, [], ◌∷◌, ◌++◌, refl, sym, ap, ◌∙◌, subst, arith}
use Rattle.atomic_table.specs.Table.{State, Me}
use Rattle.tagged_index.specs.Fields.{Fields, fields_of, index_of, kept, raised}
use Rattle.tagged_index.specs.declared.word.TheConstants.{NULL}
use Rattle.index_list.specs.Steps.{word, looked, changed, Before, Goes}
use Rattle.index_list.specs.Lists.{Layout, Leads, Stands}
use Rattle.index_list.specs.Kinds.{Kind, write_link, exchange, place, new_top, gives, taken, others, given, IsSound}
use Rattle.index_list.specs.Host.{Host, Laws, Reads, Exchanges, IsReady, Won}
use Rattle.index_list.specs.Results.{Made, ChangedBy, Changed, Brings, homes_after}
use Rattle.index_list.specs.declared.change.Change.{Change}
use Rattle.index_list.specs.declared.change.Change.TheVariants.{Take, TakeAll, Give, GiveChain, Mark, Shut}
use Rattle.index_list.proofs.Allowed.{Wins, same_words}
use Rattle.index_list.proofs.Lists.{leads_on, stands_again}
use Rattle.index_list.proofs.Wins.{take_slots, give_slots}

give_names : (keeps : Bool) (w : Fields) (i : ℕ) → (cond keeps (kept w i) (raised w i)).index ≡ i
give_names true w i = refl
give_names false w i = refl

nothing_more : (xs : List ℕ) → xs ≡ xs ++ []
nothing_more [] = refl
nothing_more (x ∷ xs) = ap (λ ys. x ∷ ys) (nothing_more xs)

module _ {S V Line : Type 0} (y : Layout) (host : Host S V Line) (holds : State S V → Type 0) (l : ℕ) (v : V) (s : State S V) where
  abbrev link : ℕ → ℕ
  link i = word s (y.link l i)

  -- where an exchange leads
  lists_after : (w : Fields) (c : Change) (xs : List ℕ) → IsSound w c → IsReady y l (host.held l v) (word s) (exchange w c) → fields_of (word s (y.top l)) ≡ w → Leads link w.index xs NULL
      → (xs ≡ taken w c xs ++ others c xs) × Leads link (new_top (y.keeps l) w c).index (given c (host.held l v) ++ others c xs) NULL
  lists_after w (Take n) [] low ready hit leads = absurd (omega arith)
  lists_after w (Take n) (x ∷ xs) low ready hit leads =
      ((λ k. sym leads.0 k ∷ xs), subst (λ (z : ℕ). Leads link z xs NULL) (ap link (sym leads.0) ∙ ready hit) leads.2)
  lists_after w (TakeAll front) xs low ready hit leads = (nothing_more xs, refl)
  lists_after w (Give i) xs low ready hit leads =
      (refl, (give_names (y.keeps l) w i, low, subst (λ (z : ℕ). Leads link z xs NULL) (sym ready.1) leads))
  lists_after w (GiveChain i) xs low ready hit leads =
      (refl, subst (λ (z : ℕ). Leads link z (host.held l v ++ xs) NULL) (sym (give_names (y.keeps l) w i)) (leads_on link i w.index (host.held l v) xs ready leads))
  lists_after w Mark xs low ready hit leads = (refl, leads)
  lists_after w Shut xs low ready hit leads = (refl, leads)

module _ {S V Line : Type 0} (y : Layout) (host : Host S V Line) (holds : State S V → Type 0) (n : ℕ) (laws : Laws y host holds n) (line : Line) (l id : ℕ) (low : l < n) (me : Me S V) where
  pub read : (kind : Kind) → Reads y host holds n kind → host.may line l kind me.0 → (s : State S V) → Before holds id me.0 (place y l kind) s
      → Goes holds (looked s id) (λ v. Made y host holds line id l kind (place y l kind) (word s (place y l kind)) (word s (place y l kind)) me.0 v)
  read kind law may s before =
      let g = law line l id me.0 s low may before in
      let st = laws.stands l s low before.rule in
      record { view = g.view; rule = g.rule; told = record { table = s; before = before; hit = refl; ready = laws.ready line l id me.0 s kind low may before; after = same_words holds s (place y l kind) id g.view g.rule; said = g.told; list = st.0; stood = st.1 } }

  pub written : (i x : ℕ) → host.may line l (write_link i x) me.0 → (s : State S V) → Before holds id me.0 (y.link l i) s
      → Goes holds (changed s (y.link l i) x s.homes id) (λ v. (found : ℕ) × Made y host holds line id l (write_link i x) (y.link l i) found x me.0 v)
  written i x may s before =
      let g = laws.writes_link i x line l id me.0 s low may before in
      let st = laws.stands l s low before.rule in
      record { view = g.view; rule = g.rule; told = (word s (y.link l i), record { table = s; before = before; hit = refl; ready = laws.ready line l id me.0 s (write_link i x) low may before; after = g.rule; said = g.told; list = st.0; stood = st.1 }) }

  pub missed : (w : ℕ) (c : Change) → host.may line l (exchange (fields_of w) c) me.0 → (s : State S V) → Before holds id me.0 (y.top l) s → word s (y.top l) ≢ w
      → Goes holds (looked s id) (λ v. Made y host holds line id l (exchange (fields_of w) c) (y.top l) (word s (y.top l)) (word s (y.top l)) me.0 v)
  missed w c may s before miss =
      let g = laws.loses line l id w c me.0 s low may before miss in
      let st = laws.stands l s low before.rule in
      record { view = g.view; rule = g.rule; told = record { table = s; before = before; hit = refl; ready = laws.ready line l id me.0 s (exchange (fields_of w) c) low may before; after = same_words holds s (y.top l) id g.view g.rule; said = g.told; list = st.0; stood = st.1 } }

  law_of : (c : Change) → Exchanges y host holds n c
  law_of (Take k) = laws.takes k
  law_of (TakeAll front) = laws.takes_all front
  law_of (Give i) = laws.gives_one i
  law_of (GiveChain i) = laws.gives_chain i
  law_of Mark = laws.marks
  law_of Shut = laws.shuts

  module _ (w x : ℕ) (c : Change) (is : fields_of x ≡ new_top (y.keeps l) (fields_of w) c) (s : State S V) (before : Before holds id me.0 (y.top l) s) (hit : word s (y.top l) ≡ w)
      (ready : IsReady y l (host.held l me.0) (word s) (exchange (fields_of w) c)) (xs : List ℕ) (was : Stands y host.held l s xs)
      (lists : (xs ≡ taken (fields_of w) c xs ++ others c xs) × Leads (λ i. word s (y.link l i)) (new_top (y.keeps l) (fields_of w) c).index (given c (host.held l me.0) ++ others c xs) NULL) where
    stands_after : (giving : Bool) (zs : List (ℕ × S)) (v : V) → holds (changed s (y.top l) x (homes_after giving s.homes zs) id v)
        → Stands y host.held l (changed s (y.top l) x (homes_after giving s.homes zs) id v) (given c (host.held l me.0) ++ others c xs)
    stands_after giving zs v rule =
        let t : State S V = changed s (y.top l) x (homes_after giving s.homes zs) id v in
        stands_again y host.held l (λ i. laws.apart l i low) s x t.homes t.views (given c (host.held l me.0) ++ others c xs) (laws.placed l s low before.rule)
        (subst (λ (f : Fields). Leads (λ i. word s (y.link l i)) f.index (given c (host.held l me.0) ++ others c xs) NULL) (sym is) lists.1) (laws.stands l t low rule)

    pub won_by : (giving : Bool) → Won y host holds giving line l id w x c me.0 s xs → Brings y host holds line id l giving c me → Wins holds (y.top l) x id me (ChangedBy y host holds line id l giving w c me) s
    won_by false law brings =
        take_slots holds (y.top l) x id (ChangedBy y host holds line id l false w c me) s me law.slots (host.did line l (exchange (fields_of w) c) w law.slots me.0) law.distinct law.home law.goes
        (record { table = s; before = before; hit = hit; ready = ready; new = x; is = is; list = xs; begins = lists.0; slots = law.slots; moves = (refl, law.home, law.are); after = law.goes.rule; said = law.goes.told; was = was; now = stands_after false law.slots law.goes.view law.goes.rule })
    won_by true law brings =
        let zs = brings.0 in
        let given_slots = law zs brings.1 in
        let g = given_slots.1 in
        give_slots holds (y.top l) x id (ChangedBy y host holds line id l true w c me) s me zs brings.2.0 (host.did line l (exchange (fields_of w) c) w zs me.0) brings.2.1 g
        (record { table = s; before = before; hit = hit; ready = ready; new = x; is = is; list = xs; begins = lists.0; slots = zs; moves = (brings.2.1, given_slots.0); after = g.rule; said = g.told; was = was; now = stands_after true zs g.view g.rule })

  pub won : (w x : ℕ) (c : Change) → host.may line l (exchange (fields_of w) c) me.0 → fields_of x ≡ new_top (y.keeps l) (fields_of w) c → IsSound (fields_of w) c → Brings y host holds line id l (gives c) c me
      → (s : State S V) → Before holds id me.0 (y.top l) s → word s (y.top l) ≡ w → Wins holds (y.top l) x id me (Changed y host holds line id l w c me) s
  won w x c may is sound brings s before hit =
      let st = laws.stands l s low before.rule in
      let ready = laws.ready line l id me.0 s (exchange (fields_of w) c) low may before in
      won_by w x c is s before hit ready st.0 st.1
      (lists_after y host holds l me.0 s (fields_of w) c st.0 sound ready (ap fields_of hit) (subst (λ (z : ℕ). Leads (λ i. word s (y.link l i)) (index_of z) st.0 NULL) hit st.1.leads))
      (gives c) (law_of c line l id w x me.0 s st.0 low may is before hit st.1) brings
