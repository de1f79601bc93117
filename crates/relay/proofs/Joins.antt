-- A loop over workers that joins the pass of each.
use Rattle.std.proofs.Common.{◌≡◌, List, [], ◌∷◌, ◌++◌, refl, sym, ◌∙◌, ap, subst, append-nil, map}
use Rattle.std.specs.List.{AllZip}
use Rattle.bounded_model.specs.declared.views.PassView.{PassView}
use Rattle.bounded_model.specs.declared.views.RootView.{RootView}
use Rattle.bounded_model.specs.Laws.{Joins}
use Rattle.relay.specs.declared.messages.Message.{Message}
use Rattle.relay.specs.Passes.{JoinsAll}
use Rattle.relay.proofs.Zips.{zip_more, again}

pub JoinsAll_more : (r s t : RootView Message) (vs : List (PassView Message)) (v : PassView Message) → JoinsAll r vs s → Joins s v t → JoinsAll r (vs ++ v ∷ []) t
JoinsAll_more r s t [] v e j = (t, subst (λ u. Joins u v t) e j, refl)
JoinsAll_more r s t (w ∷ vs) v e j = (e.0, e.1, JoinsAll_more e.0 s t vs v e.2 j)

pub JoinsAll_append : (r s t : RootView Message) (vs ws : List (PassView Message)) → JoinsAll r vs s → JoinsAll s ws t → JoinsAll r (vs ++ ws) t
JoinsAll_append r s t [] ws e j = subst (λ u. JoinsAll u ws t) e j
JoinsAll_append r s t (v ∷ vs) ws e j = (e.0, e.1, JoinsAll_append e.0 s t vs ws e.2 j)

map_more : {A B : Type 0} (f : A → B) (xs : List A) (x : A) → map f (xs ++ x ∷ []) ≡ map f xs ++ f x ∷ []
map_more f [] x = refl
map_more f (y ∷ xs) x = ap (λ l. f y ∷ l) (map_more f xs x)

module _ {A B : Type 0} (R : A → B → Type 0) (view : A → PassView Message) (start : RootView Message) where
  -- of these workers some are joined, which gave this, and the rest are to come
  pub record Joining (all rest : List A) (done : List B) (root : RootView Message) : Type 0 where
    pub front : List A
    pub is : all ≡ front ++ rest
    pub each : AllZip R front done
    pub joined : JoinsAll start (map view front) root

  pub Joining_none : (all : List A) → Joining all all [] start
  Joining_none all = record { front = []; is = refl; each = tt; joined = refl }

  pub Joining_more : (all : List A) (x : A) (rest : List A) (done : List B) (y : B) (r s : RootView Message) → Joining all (x ∷ rest) done r → R x y → Joins r (view x) s → Joining all rest (done ++ y ∷ []) s
  Joining_more all x rest done y r s g h j = record {
    front = g.front ++ x ∷ [];
    is = g.is ∙ again g.front x rest;
    each = zip_more R g.front done x y g.each h;
    joined = subst (λ l. JoinsAll start l s) (sym (map_more view g.front x)) (JoinsAll_more start r s (map view g.front) (view x) g.joined j);
  }

  whole : (all rest : List A) (done : List B) (r : RootView Message) (g : Joining all rest done r) → rest ≡ [] → all ≡ g.front
  whole all rest done r g e = g.is ∙ (ap (λ l. g.front ++ l) e ∙ append-nil g.front)

  pub Joining_each : (all rest : List A) (done : List B) (r : RootView Message) → Joining all rest done r → rest ≡ [] → AllZip R all done
  Joining_each all rest done r g e = subst (λ l. AllZip R l done) (sym (whole all rest done r g e)) g.each

  pub Joining_all : (all rest : List A) (done : List B) (r : RootView Message) → Joining all rest done r → rest ≡ [] → JoinsAll start (map view all) r
  Joining_all all rest done r g e = subst (λ l. JoinsAll start (map view l) r) (sym (whole all rest done r g e)) g.joined
