-- What a root knows of the passes that it has joined.
use Rattle.std.proofs.Common.{◌≡◌, ℕ, suc, List, [], ◌∷◌, refl, ap, sym, ◌∙◌, subst, inl, inr}
use Rattle.std.specs.List.{AllByRecursion as Every}
use Rattle.bounded_model.specs.declared.history.Event.{Event}
use Rattle.bounded_model.specs.declared.views.PassView.{PassView}
use Rattle.bounded_model.specs.declared.views.RootView.{RootView}
use Rattle.bounded_model.specs.Machine.{Shape, state}
use Rattle.bounded_model.specs.Histories.{Among, own, Later}
use Rattle.bounded_model.specs.Gathers.{Counts, EachFrom}
use Rattle.bounded_model.specs.Laws.{IsSound, NoneOut, Splits, Joins, Leaves}
use Rattle.bounded_model.proofs.Histories.{Later-trans}

Every-among : {A : Type 0} (P : A → Type 0) (x : A) (xs : List A) → Every P xs → Among x xs → P x
Every-among P x [] every among = absurd among
Every-among P x (y ∷ ys) every (inl e) = subst P (sym e) every.0
Every-among P x (y ∷ ys) every (inr among) = Every-among P x ys every.1 among

-- this pass, as it was at the end, stands in the account
pub record HasJoined {T : Type 0} (r : RootView T) (v : PassView T) : Type 0 where
  pub listed : Among (v.number, own v.number v.seen) r.account
  pub seen : Later v.seen r.seen

module _ {T : Type 0} where
  pub HasJoined-now : {r s : RootView T} {v : PassView T} → Joins r v s → HasJoined s v
  HasJoined-now {r} {s} {v} j = record { listed = rw j.account (inl refl); seen = j.seen }

  pub HasJoined-join : {r s : RootView T} {u v : PassView T} → HasJoined r v → Joins r u s → HasJoined s v
  HasJoined-join {r} {s} {u} {v} h j = record { listed = rw j.account (inr h.listed); seen = Later-trans h.seen j.root_seen }

  pub HasJoined-split : {c : Shape} {r s : RootView T} {u v : PassView T} → HasJoined r v → Splits c r s u → HasJoined s v
  HasJoined-split {c} {r} {s} {u} {v} h p = record {
    listed = subst (λ (t : RootView T). Among (v.number, own v.number v.seen) t.account) (sym p.root) h.listed;
    seen = subst (λ (t : RootView T). Later v.seen t.seen) (sym p.root) h.seen;
  }

  -- the root has seen of it exactly its own events
  pub own-joined : (c : Shape) {r : RootView T} {v : PassView T} → IsSound c r → HasJoined r v → own v.number r.seen ≡ own v.number v.seen
  own-joined c {r} {v} sound h = Every-among (λ (a : ℕ × List (Event T)). own a.0 r.seen ≡ a.1) (v.number, own v.number v.seen) r.account sound.joined h.listed

  -- passes a, a + 1, .. in a row
  pub each_joined : (c : Shape) (r : RootView T) (a : ℕ) (ps : List (PassView T)) → IsSound c r → Counts (λ (p : PassView T). p.number) a ps → Every (HasJoined r) ps
      → EachFrom (λ k (p : PassView T). own k r.seen ≡ own p.number p.seen) a ps
  each_joined c r a [] sound numbers joined = tt
  each_joined c r a (p ∷ ps) sound numbers joined = (
    ap (λ k. own k r.seen) (sym numbers.0) ∙ own-joined c sound joined.0,
    each_joined c r (suc a) ps sound numbers.1 joined.1,
  )

  -- where no pass is out, what is left is the list at the end of what the root has seen
  pub left_is : (c : Shape) (r : RootView T) (left : List T) → NoneOut r → Leaves c r left → left ≡ (state c r.seen).values
  left_is c r left none leaves = leaves.values ∙ ap (λ h. (state c h).values) (leaves.whole none)
