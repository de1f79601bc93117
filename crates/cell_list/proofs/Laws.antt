-- The list of cells keeps the laws of a host.
use Rattle.std.proofs.Common.{◌≡◌, ◌≢◌, ℕ, ◌+◌, ◌<◌, ◌≤◌, List, [], ◌∷◌, ◌++◌, length, set, refl, sym, ap, ◌∙◌, subst, ◌⊎◌, inl, inr, ⊎_elim, arith}
use Rattle.std.proofs.lemmas.List.{get_or-set_same, get_or-set_other, length-set}
use mathlib.Core.Option.{Option, some, some-ne-none}
use lib.ListN.{get_elem?}
use Rattle.atomic_table.specs.Table.{State, Splits, opening}
use Rattle.atomic_table.proofs.Lists.{at_set, at_snoc, set_again}
use Rattle.tagged_index.specs.Fields.{Fields, fields_of, kept, raised}
use Rattle.tagged_index.specs.declared.word.TheConstants.{NULL}
use Rattle.tagged_index.proofs.Words.{same_fields}
use Rattle.index_list.specs.Lists.{Leads, Holds, Distinct, Disjoint}
use Rattle.index_list.specs.Steps.{numbers, filled, word, looked, changed, Before, Goes}
use Rattle.index_list.specs.Kinds.{Kind, read_top, read_link, write_link, exchange}
use Rattle.index_list.specs.Host.{Host, Laws, IsReady, Takes}
use Rattle.index_list.specs.declared.change.Change.TheVariants.{Take, Give}
use Rattle.index_list.proofs.Lists.{leads_first, leads_kept}
use Rattle.cell_list.specs.declared.knows.Knows.{Knows}
use Rattle.cell_list.specs.declared.knows.Knows.TheVariants.{Nothing, Top, Below, Has, Linked}
use Rattle.cell_list.specs.Cells.{layout, hand, top_read, link_read, after_lost, MayRead, MayWrite, MayTake, MayGive, May, Did, host, Seen, IsTrueOf, top_of, link_of, Rule}

-- what another seat knows stays true while the tag stays, the list loses nothing, and the links of the
-- list and of its hand stay
still : (top top' : Fields) (link link' : ℕ → ℕ) (list list' : List ℕ) (u : Knows) → top'.tag ≡ top.tag → ((i : ℕ) → Holds list i ⊎ Holds (hand u) i → link' i ≡ link i) → ((i : ℕ) → Holds list i → Holds list' i) → IsTrueOf top link list u → IsTrueOf top' link' list' u
still top top' link link' list list' Nothing tag links more is = tt
still top top' link link' list list' (Top w) tag links more is = let past = is.past in record { past = omega arith; there = λ same low. more w.index (is.there (same ∙ tag) low) }
still top top' link link' list list' (Below w k) tag links more is =
    let past = is.0.past in (
      record { past = omega arith; there = λ same low. more w.index (is.0.there (same ∙ tag) low) },
      is.1,
      λ same. links w.index (inl (is.0.there (same ∙ tag) is.1)) ∙ is.2 (same ∙ tag),
    )
still top top' link link' list list' (Has i) tag links more is = tt
still top top' link link' list list' (Linked i x) tag links more is = links i (inr (inl refl)) ∙ is

-- and once the tag has risen, nothing is known of the top
outdated : (top top' : Fields) (link link' : ℕ → ℕ) (list list' : List ℕ) (u : Knows) → top.tag < top'.tag → ((i : ℕ) → link' i ≡ link i) → IsTrueOf top link list u → IsTrueOf top' link' list' u
outdated top top' link link' list list' Nothing rises links is = tt
outdated top top' link link' list list' (Top w) rises links is = let past = is.past in record { past = omega arith; there = λ same low. absurd (omega arith) }
outdated top top' link link' list list' (Below w k) rises links is =
    let past = is.0.past in (record { past = omega arith; there = λ same low. absurd (omega arith) }, is.1, λ same. absurd (omega arith))
outdated top top' link link' list list' (Has i) rises links is = tt
outdated top top' link link' list list' (Linked i x) rises links is = links i ∙ is

same_hand : (v : Knows) (w : Fields) → hand (top_read v w) ≡ hand v
same_hand Nothing w = refl
same_hand v w = refl

lost_hand : (v : Knows) (i : ℕ) → Holds (hand (after_lost v)) i → Holds (hand v) i
lost_hand (Linked j x) i h = h
lost_hand a i h = absurd h

lost_true : (top : Fields) (link : ℕ → ℕ) (list : List ℕ) (v : Knows) → IsTrueOf top link list (after_lost v)
lost_true top link list Nothing = tt
lost_true top link list v = tt

module _ {S : Type 0} (limit : ℕ) (s : State S Knows) (r : Rule limit s) where
  abbrev top : Fields
  top = top_of s

  abbrev link : ℕ → ℕ
  link = link_of s

  on_list : top.index < NULL → Holds r.list top.index
  on_list low = let f = leads_first link top.index r.list low r.leads in subst (λ (xs : List ℕ). Holds xs top.index) (sym f.1) (inl refl)

  seen_now : Seen top r.list top
  seen_now = record { past = omega arith; there = λ _ low. on_list low }

  top_true : (v : Knows) → IsTrueOf top link r.list (top_read v top)
  top_true (Has i) = tt
  top_true (Linked i x) = tt
  top_true a = seen_now

  module _ (id : ℕ) (v : Knows) (mine : get_elem? s.views id ≡ some v) where
    -- the rule after a step of this seat, that now knows v'
    again : (t : State S Knows) (v' : Knows) (list : List ℕ) → t.views ≡ set s.views id v' → length t.words ≡ 4 → (top_of t).tag ≤ limit → Leads (link_of t) (top_of t).index list NULL → Distinct list
        → Disjoint list (hand v') → IsTrueOf (top_of t) (link_of t) list v'
        → ((q : ℕ) (u : Knows) → q ≢ id → get_elem? s.views q ≡ some u → Disjoint list (hand u) × IsTrueOf (top_of t) (link_of t) list u)
        → ((i : ℕ) → Holds (hand v') i → Holds (hand v) i ⊎ Holds r.list i) → Rule limit t
    again t v' list views words below leads distinct free is others from = record {
      words = words;
      below = below;
      list = list;
      leads = leads;
      distinct = distinct;
      free = λ q u e. ⊎_elim (λ a. subst (λ (z : Knows). Disjoint list (hand z)) a.1 free) (λ a. (others q u a.0 a.1).0) (parts q u e);
      alone = λ q z u w i e f. ⊎_elim
          (λ a. ⊎_elim (λ b. λ _ _. a.0 ∙ sym b.0) (λ b. λ in_u in_w. absurd (not_mine z w i b.0 b.1 (subst (λ (x : Knows). Holds (hand x) i) (sym a.1) in_u) in_w)) (parts z w f))
          (λ a. ⊎_elim (λ b. λ in_u in_w. absurd (not_mine q u i a.0 a.1 (subst (λ (x : Knows). Holds (hand x) i) (sym b.1) in_w) in_u)) (λ b. r.alone q z u w i a.1 b.1) (parts z w f))
          (parts q u e);
      knows = λ q u e. ⊎_elim (λ a. subst (λ (z : Knows). IsTrueOf (top_of t) (link_of t) list z) a.1 is) (λ a. (others q u a.0 a.1).1) (parts q u e);
    }
      where
        parts : (q : ℕ) (u : Knows) → get_elem? t.views q ≡ some u → ((q ≡ id) × (v' ≡ u)) ⊎ ((q ≢ id) × (get_elem? s.views q ≡ some u))
        parts q u e = at_set s.views id q v' u (ap (λ (vs : List Knows). get_elem? vs q) (sym views) ∙ e)

        not_mine : (z : ℕ) (w : Knows) (i : ℕ) → z ≢ id → get_elem? s.views z ≡ some w → Holds (hand v') i → Holds (hand w) i → ⊥
        not_mine z w i ne e in_v in_w = ⊎_elim (λ h. ne (sym (r.alone id z v w i mine e h in_w))) (λ h. r.free z w e i h in_w) (from i in_v)

    looks : (v' : Knows) → ((i : ℕ) → Holds (hand v') i → Holds (hand v) i) → IsTrueOf top link r.list v' → Rule limit (looked s id v')
    looks v' hands is = again (looked s id v') v' r.list refl r.words r.below r.leads r.distinct (λ i h in_v. r.free id v mine i h (hands i in_v)) is (λ q u ne e. (r.free q u e, r.knows q u e)) (λ i h. inl (hands i h))

    -- the word 0 becomes x
    module _ (x : ℕ) (homes : List (Option S)) where
      abbrev after : Knows → State S Knows
      after v' = changed s 0 x homes id v'

      new_top : (v' : Knows) → word (after v') 0 ≡ x
      new_top v' = get_or-set_same s.words 0 x 0 (let w = r.words in omega arith)

      same_link : (v' : Knows) (i : ℕ) → link_of (after v') i ≡ link i
      same_link v' i = get_or-set_other s.words 0 (i + 1) x 0 (λ e. omega arith)

      long : length (set s.words 0 x) ≡ 4
      long = length-set s.words 0 x ∙ r.words

      -- a take of the first cell
      takes : (k : ℕ) → fields_of x ≡ raised top k → top.index < NULL → top.tag < limit → link top.index ≡ k → Rule limit (after (Has top.index))
      takes k is low room next =
          let v' : Knows = Has top.index in
          let f = leads_first link top.index r.list low r.leads in
          let leads : Leads link top.index (top.index ∷ f.0) NULL = subst (λ (xs : List ℕ). Leads link top.index xs NULL) f.1 r.leads in
          let distinct : Distinct (top.index ∷ f.0) = subst Distinct f.1 r.distinct in
          let more : (i : ℕ) → Holds f.0 i → Holds r.list i = λ i h. subst (λ (xs : List ℕ). Holds xs i) (sym f.1) (inr h) in
          let now : top_of (after v') ≡ raised top k = ap fields_of (new_top v') ∙ is in
          let tag : (top_of (after v')).tag ≡ top.tag + 1 = ap (λ (w : Fields). w.tag) now in
          again (after v') v' f.0 refl long (omega arith)
          (subst (λ (i : ℕ). Leads (link_of (after v')) i f.0 NULL) (next ∙ sym (ap (λ (w : Fields). w.index) now)) (leads_kept link (link_of (after v')) (link top.index) NULL f.0 (λ i _. same_link v' i) leads.2))
          distinct.1
          (λ i h in_v. ⊎_elim (λ e. distinct.0 (subst (Holds f.0) e h)) (λ none_more. none_more) in_v)
          tt
          (λ q u ne e. ((λ i h. r.free q u e i (more i h)), outdated top (top_of (after v')) link (link_of (after v')) r.list f.0 u (omega arith) (same_link v') (r.knows q u e)))
          (λ i in_v. ⊎_elim (λ e. inr (subst (Holds r.list) (sym e) (on_list low))) (λ none_more. absurd none_more) in_v)

      -- a give of a cell in hand
      gives : (i : ℕ) → fields_of x ≡ kept top i → i < NULL → Holds (hand v) i → link i ≡ top.index → Rule limit (after Nothing)
      gives i is low in_hand linked =
          let now : top_of (after Nothing) ≡ kept top i = ap fields_of (new_top Nothing) ∙ is in
          let tag : (top_of (after Nothing)).tag ≡ top.tag = ap (λ (w : Fields). w.tag) now in
          let below = r.below in
          again (after Nothing) Nothing (i ∷ r.list) refl long (omega arith)
          (ap (λ (w : Fields). w.index) now, low, subst (λ (j : ℕ). Leads (link_of (after Nothing)) j r.list NULL) (sym linked ∙ sym (same_link Nothing i)) (leads_kept link (link_of (after Nothing)) top.index NULL r.list (λ j _. same_link Nothing j) r.leads))
          ((λ h. r.free id v mine i h in_hand), r.distinct)
          (λ j h none_held. none_held)
          tt
          (λ q u ne e. (
            (λ j h in_u. ⊎_elim (λ same. ne (r.alone q id u v i e mine (subst (Holds (hand u)) same in_u) in_hand)) (λ there. r.free q u e j there in_u) h),
            still top (top_of (after Nothing)) link (link_of (after Nothing)) r.list (i ∷ r.list) u tag (λ j _. same_link Nothing j) (λ j there. inr there) (r.knows q u e),
          ))
          (λ j none_held. absurd none_held)

    -- the link of a cell in hand becomes x
    writes : (i x : ℕ) → i < 3 → Holds (hand v) i → Rule limit (changed s (i + 1) x s.homes id (Linked i x))
    writes i x low in_hand =
        let t : State S Knows = changed s (i + 1) x s.homes id (Linked i x) in
        let size = r.words in
        let same_top : word t 0 ≡ word s 0 = get_or-set_other s.words (i + 1) 0 x 0 (λ e. omega arith) in
        let link_else : (j : ℕ) → j ≢ i → link_of t j ≡ link j = λ j ne. get_or-set_other s.words (i + 1) (j + 1) x 0 (λ e. ne (omega arith)) in
        let off : (j : ℕ) → Holds r.list j → j ≢ i = λ j h e. r.free id v mine j h (subst (Holds (hand v)) (sym e) in_hand) in
        again t (Linked i x) r.list refl (length-set s.words (i + 1) x ∙ r.words) (subst (λ (n : ℕ). (fields_of n).tag ≤ limit) (sym same_top) r.below)
        (subst (λ (n : ℕ). Leads (link_of t) (fields_of n).index r.list NULL) (sym same_top) (leads_kept link (link_of t) top.index NULL r.list (λ j h. link_else j (off j h)) r.leads))
        r.distinct
        (λ j h in_v. ⊎_elim (λ e. off j h e) (λ none_more. none_more) in_v)
        (get_or-set_same s.words (i + 1) x 0 (omega arith))
        (λ q u ne e. (
          r.free q u e,
          still top (top_of t) link (link_of t) r.list r.list u (ap (λ (n : ℕ). (fields_of n).tag) same_top)
              (λ j there. link_else j (⊎_elim (λ h. off j h) (λ in_u same. ne (r.alone q id u v i e mine (subst (Holds (hand u)) same in_u) in_hand)) there))
              (λ j h. h) (r.knows q u e),
        ))
        (λ j in_v. ⊎_elim (λ e. inl (subst (Holds (hand v)) (sym e) in_hand)) (λ none_more. absurd none_more) in_v)

module _ (S Line : Type 0) (limit : ℕ) where
  abbrev h : Host S Knows Line
  h = host S Line limit

  ready : (id : ℕ) (v : Knows) (s : State S Knows) (r : Rule limit s) → get_elem? s.views id ≡ some v → (kind : Kind) → May limit kind v → IsReady layout 0 (hand v) (word s) kind
  ready id v s r mine read_top may = tt
  ready id v s r mine (read_link i) may = tt
  ready id v s r mine (write_link i x) may = wrote v may
    where
      wrote : (u : Knows) → MayWrite i u → Holds (hand u) i
      wrote (Has j) m = inl (sym m.0)
      wrote a m = absurd m
  ready id v s r mine (exchange w (Take k)) may = λ hit. linked v (r.knows id v mine) may hit
    where
      linked : (u : Knows) → IsTrueOf (top_of s) (link_of s) r.list u → MayTake limit w k u → top_of s ≡ w → link_of s w.index ≡ k
      linked (Below f j) is m hit = ap (λ (z : Fields). link_of s z.index) (sym m.0) ∙ is.2 (ap (λ (z : Fields). z.tag) (m.0 ∙ sym hit)) ∙ m.1
      linked a is m hit = absurd m
  ready id v s r mine (exchange w (Give i)) may = given v (r.knows id v mine) may
    where
      given : (u : Knows) → IsTrueOf (top_of s) (link_of s) r.list u → MayGive w i u → Holds (hand u) i × (link_of s i ≡ w.index)
      given (Linked j y) is m = (inl (sym m.0), ap (link_of s) (sym m.0) ∙ is ∙ m.1)
      given a is m = absurd m
  ready id v s r mine a may = absurd may

  reads_link : (i id : ℕ) (v : Knows) (s : State S Knows) → MayRead i v → Before (Rule limit) id v (i + 1) s → Goes (Rule limit) (looked s id) (λ v'. (v' ≡ link_read v (link_of s i)) × (◌≡◌ {A = List (ℕ × S)} [] []))
  reads_link i id (Top w) s may b =
      let is = b.rule.knows id (Top w) b.mine in
      record {
        view = Below w (link_of s i);
        rule = looks limit s b.rule id (Top w) b.mine (Below w (link_of s i)) (λ j none_held. absurd none_held) (is, subst (λ (j : ℕ). j < NULL) (sym may.0) may.1, (λ _. ap (link_of s) may.0));
        told = (refl, refl);
      }
  reads_link i id a s may b = absurd may

  take_low : (w : Fields) (k : ℕ) (v : Knows) (now : Fields) (link : ℕ → ℕ) (list : List ℕ) → IsTrueOf now link list v → MayTake limit w k v → (w.index < NULL) × (w.tag < limit)
  take_low w k (Below f j) now link list is m = (subst (λ (z : Fields). z.index < NULL) m.0 is.1, m.2)
  take_low w k a now link list is m = absurd m

  give_low : (w : Fields) (i : ℕ) (v : Knows) → MayGive w i v → i < NULL
  give_low w i (Linked j y) m = m.2
  give_low w i a m = absurd m

  write_low : (i : ℕ) (v : Knows) → MayWrite i v → i < 3
  write_low i (Has j) m = m.1
  write_low i a m = absurd m

  pub cells_keep : Laws layout h (Rule limit) 1
  cells_keep = record {
    stands = λ l s low r. (r.list, record { leads = r.leads; distinct = r.distinct; free = r.free });
    placed = λ l s low r. let w = r.words in omega arith;
    apart = λ l i low e. omega arith;
    ready = λ line l id v s kind low may b. ready id v s b.rule b.mine kind may;
    reads_top = λ line l id v s low may b. record {
      view = top_read v (top_of s);
      rule = looks limit s b.rule id v b.mine (top_read v (top_of s)) (λ i held. subst (λ (xs : List ℕ). Holds xs i) (same_hand v (top_of s)) held) (top_true limit s b.rule v);
      told = (refl, refl);
    };
    reads_link = λ i line l id v s low may b. reads_link i id v s may b;
    writes_link = λ i x line l id v s low may b. record {
      view = Linked i x;
      rule = writes limit s b.rule id v b.mine i x (write_low i v may) (ready id v s b.rule b.mine (write_link i x) may);
      told = (refl, refl);
    };
    loses = λ line l id w c v s low may b miss. record {
      view = after_lost v;
      rule = looks limit s b.rule id v b.mine (after_lost v) (lost_hand v) (lost_true (top_of s) (link_of s) b.rule.list v);
      told = (inr ((λ e. miss ((same_fields (word s 0) w).1 e)), refl), refl);
    };
    takes = λ k line l id w x v s xs low may is b hit st. takes_law k line l id w x v s xs may is b hit;
    takes_all = λ front line l id w x v s xs low may. absurd may;
    gives_one = λ i line l id w x v s xs low may is b hit st zs rests. gives_law i line l id w x v s may is b hit zs rests;
    gives_chain = λ i line l id w x v s xs low may. absurd may;
    marks = λ line l id w x v s xs low may. absurd may;
    shuts = λ line l id w x v s xs low may. absurd may;
  }
    where
      takes_law : (k : ℕ) (line : Line) (l id w x : ℕ) (v : Knows) (s : State S Knows) (xs : List ℕ) → MayTake limit (fields_of w) k v → fields_of x ≡ raised (fields_of w) k → Before (Rule limit) id v 0 s → word s 0 ≡ w → Takes layout h (Rule limit) line l id w x (Take k) v s xs
      takes_law k line l id w x v s xs may is b hit =
          let t : top_of s ≡ fields_of w = ap fields_of hit in
          let low = take_low (fields_of w) k v (top_of s) (link_of s) b.rule.list (b.rule.knows id v b.mine) may in
          let next : link_of s (top_of s).index ≡ k = ap (λ (f : Fields). link_of s f.index) t ∙ ready id v s b.rule b.mine (exchange (fields_of w) (Take k)) may t in
          let rule : Rule limit (changed s 0 x s.homes id (Has (top_of s).index)) = takes limit s b.rule id v b.mine x s.homes k (is ∙ ap (λ (f : Fields). raised f k) (sym t)) (subst (λ (f : Fields). f.index < NULL) (sym t) low.0) (subst (λ (f : Fields). f.tag < limit) (sym t) low.1) next in
          record {
            slots = [];
            are = refl;
            distinct = tt;
            home = tt;
            goes = record {
              view = Has (fields_of w).index;
              rule = subst (λ (f : Fields). Rule limit (changed s 0 x s.homes id (Has f.index))) t rule;
              told = (inl (refl, refl), refl);
            };
          }

      gives_law : (i : ℕ) (line : Line) (l id w x : ℕ) (v : Knows) (s : State S Knows) → MayGive (fields_of w) i v → fields_of x ≡ kept (fields_of w) i → Before (Rule limit) id v 0 s → word s 0 ≡ w
          → (zs : List (ℕ × S)) → zs ≡ [] → (numbers zs ≡ []) × Goes (Rule limit) (changed s 0 x (filled s.homes zs) id) (λ v'. Did (exchange (fields_of w) (Give i)) w v v' × (zs ≡ []))
      gives_law i line l id w x v s may is b hit zs none =
          let t : top_of s ≡ fields_of w = ap fields_of hit in
          let at = ready id v s b.rule b.mine (exchange (fields_of w) (Give i)) may in
          subst (λ (ys : List (ℕ × S)). (numbers ys ≡ []) × Goes (Rule limit) (changed s 0 x (filled s.homes ys) id) (λ v'. Did (exchange (fields_of w) (Give i)) w v v' × (ys ≡ []))) (sym none) (
            refl,
            record {
              view = Nothing;
              rule = gives limit s b.rule id v b.mine x s.homes i (is ∙ ap (λ (f : Fields). kept f i) (sym t)) (give_low (fields_of w) i v may) at.0 (at.1 ∙ ap (λ (f : Fields). f.index) (sym t));
              told = (inl (refl, refl), refl);
            },
          )

-- a table whose cells are all on the list
module _ (S : Type 0) (limit : ℕ) where
  abbrev at_first : State S Knows
  at_first = opening (0 ∷ 1 ∷ 2 ∷ NULL ∷ []) [] Nothing

  only : (q : ℕ) (v : Knows) → get_elem? (Nothing ∷ []) q ≡ some v → Nothing ≡ v
  only q v e = ⊎_elim (λ there. absurd (some-ne-none v (sym there))) (λ is. is) (at_snoc [] Nothing v q e)

  pub opens : Rule limit at_first
  opens = record {
    words = refl;
    below = omega arith;
    list = 0 ∷ 1 ∷ 2 ∷ [];
    leads = (refl, omega arith, (refl, omega arith, (refl, omega arith, refl)));
    distinct = (
      (λ h. ⊎_elim (λ e. omega arith) (λ k. ⊎_elim (λ e. omega arith) (λ none_more. none_more) k) h),
      ((λ h. ⊎_elim (λ e. omega arith) (λ none_more. none_more) h), ((λ none_more. none_more), tt)),
    );
    free = λ q v e. subst (λ (u : Knows). Disjoint (0 ∷ 1 ∷ 2 ∷ []) (hand u)) (only q v e) (λ i h none_held. none_held);
    alone = λ q z v u i e f in_v in_u. absurd (subst (λ (w : Knows). Holds (hand w) i) (sym (only q v e)) in_v);
    knows = λ q v e. subst (IsTrueOf (top_of at_first) (link_of at_first) (0 ∷ 1 ∷ 2 ∷ [])) (only q v e) tt;
  }

  -- a new seat knows nothing
  pub joined : (id : ℕ) (v : Knows) → Splits (Rule {S = S} limit) id v v Nothing
  joined id v s r mine = record {
    words = r.words;
    below = r.below;
    list = r.list;
    leads = r.leads;
    distinct = r.distinct;
    free = λ q u e. ⊎_elim (λ old. r.free q u old) (λ new. subst (λ (w : Knows). Disjoint r.list (hand w)) new (λ i h none_held. none_held)) (parts q u e);
    alone = λ q z u w i e f in_u in_w. ⊎_elim
        (λ old. ⊎_elim (λ old'. r.alone q z u w i old old' in_u in_w) (λ new. absurd (subst (λ (x : Knows). Holds (hand x) i) (sym new) in_w)) (parts z w f))
        (λ new. absurd (subst (λ (x : Knows). Holds (hand x) i) (sym new) in_u))
        (parts q u e);
    knows = λ q u e. ⊎_elim (λ old. r.knows q u old) (λ new. subst (IsTrueOf (top_of s) (link_of s) r.list) new tt) (parts q u e);
  }
    where
      parts : (q : ℕ) (u : Knows) → get_elem? (set s.views id v ++ Nothing ∷ []) q ≡ some u → (get_elem? s.views q ≡ some u) ⊎ (Nothing ≡ u)
      parts q u e = at_snoc s.views Nothing u q (ap (λ (vs : List Knows). get_elem? (vs ++ Nothing ∷ []) q) (sym (set_again s.views id v mine)) ∙ e)
