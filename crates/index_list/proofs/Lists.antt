-- Links lead through one list only, and a list stands again once its top is changed.
use Rattle.std.proofs.Common.{◌≡◌, ◌≢◌, ℕ, ◌<◌, List, [], ◌∷◌, ◌++◌, length, refl, sym, ap, ◌∙◌, subst, inl, inr, arith}
use Rattle.std.specs.Prelude.{slice_set}
use Rattle.std.proofs.lemmas.List.{get_or-set_same, get_or-set_other}
use mathlib.Core.Option.{Option}
use Rattle.atomic_table.specs.Table.{State}
use Rattle.tagged_index.specs.Fields.{index_of}
use Rattle.tagged_index.specs.declared.word.TheConstants.{NULL}
use Rattle.index_list.specs.Steps.{word}
use Rattle.index_list.specs.Lists.{Layout, Leads, Holds, Stands}

-- a list whose first index is i begins with i
pub leads_first : (link : ℕ → ℕ) (i : ℕ) (xs : List ℕ) → i < NULL → Leads link i xs NULL → (ys : List ℕ) × (xs ≡ i ∷ ys)
leads_first link i [] h c = absurd (omega arith)
leads_first link i (x ∷ xs) h c = (xs, λ k. sym c.0 k ∷ xs)

pub leads_one : (link : ℕ → ℕ) (i : ℕ) (xs ys : List ℕ) → Leads link i xs NULL → Leads link i ys NULL → xs ≡ ys
leads_one link i [] [] c d = refl
leads_one link i [] (y ∷ ys) c d = let d₀ = d.0 in let d₁ = d.1 in absurd (omega arith)
leads_one link i (x ∷ xs) [] c d = let c₀ = c.0 in let c₁ = c.1 in absurd (omega arith)
leads_one link i (x ∷ xs) (y ∷ ys) c d =
    let e : x ≡ y = sym c.0 ∙ d.0 in
    λ k. e k ∷ leads_one link (link x) xs ys c.2 (subst (λ (z : ℕ). Leads link (link z) ys NULL) (sym e) d.2) k

pub leads_on : (link : ℕ → ℕ) (i j : ℕ) (xs ys : List ℕ) → Leads link i xs j → Leads link j ys NULL → Leads link i (xs ++ ys) NULL
leads_on link i j [] ys c d = subst (λ (z : ℕ). Leads link z ys NULL) (sym c) d
leads_on link i j (x ∷ xs) ys c d = (c.0, c.1, leads_on link (link x) j xs ys c.2 d)

pub leads_kept : (link other : ℕ → ℕ) (i j : ℕ) (xs : List ℕ) → ((x : ℕ) → Holds xs x → other x ≡ link x) → Leads link i xs j → Leads other i xs j
leads_kept link other i j [] same c = c
leads_kept link other i j (x ∷ xs) same c =
    (c.0, c.1, subst (λ (z : ℕ). Leads other z xs j) (sym (same x (inl refl))) (leads_kept link other (link x) j xs (λ z h. same z (inr h)) c.2))

module _ {S V : Type 0} (y : Layout) (held : ℕ → V → List ℕ) (l : ℕ) (links_off : (i : ℕ) → y.link l i ≢ y.top l) where
  -- the links that a table has
  abbrev next : State S V → ℕ → ℕ
  next s i = word s (y.link l i)

  -- where some list stands once the top is m, it is the one that the links lead through from m
  pub stands_again : (s : State S V) (m : ℕ) (homes : List (Option S)) (views : List V) (xs : List ℕ) → y.top l < length s.words → Leads (next s) (index_of m) xs NULL
      → (zs : List ℕ) × Stands y held l (record { words = slice_set s.words (y.top l) m; homes = homes; views = views }) zs
      → Stands y held l (record { words = slice_set s.words (y.top l) m; homes = homes; views = views }) xs
  stands_again s m homes views xs placed leads st =
      let t : State S V = record { words = slice_set s.words (y.top l) m; homes = homes; views = views } in
      let top : index_of (word t (y.top l)) ≡ index_of m = ap index_of (get_or-set_same s.words (y.top l) m 0 placed) in
      let after : Leads (next t) (index_of m) st.0 NULL = subst (λ (z : ℕ). Leads (next t) z st.0 NULL) top st.1.leads in
      let before : Leads (next s) (index_of m) st.0 NULL = leads_kept (next t) (next s) (index_of m) NULL st.0 (λ i _. sym (get_or-set_other s.words (y.top l) (y.link l i) m 0 (links_off i))) after in
      subst (Stands y held l t) (leads_one (next s) (index_of m) st.0 xs before leads) st.1
