-- One list: what a load of its top tells, what the winner of an exchange knows, and what others go
-- on to rely on. None of it knows a machine.
use Rattle.std.proofs.Common.{◌≡◌, ℕ, ◌<◌, ◌≢◌, List, [], ◌∷◌, refl, sym, ap, ◌∙◌, arith}
use Rattle.tagged_index.specs.declared.word.TheConstants.{NULL}
use Rattle.machine.specs.Words.{Tagged, times, Leads, Stands}
use Rattle.machine.specs.OneList.{ReadTop, ReadLink, Later}
use Rattle.machine.proofs.Lists.{times_here, leads_from}

module _ {limit : ℕ} {top : Tagged} {link : ℕ → ℕ} {list : List ℕ} {top' : Tagged} {link' : ℕ → ℕ} {list' : List ℕ} where
  pub read_top_later : (w : Tagged) → Later top link list top' link' list' → ReadTop limit top list w → ReadTop limit top' list' w
  read_top_later w l r = record {
    below = r.below;
    past = omega arith;
    there = λ e. l.stays (omega arith) w.index (r.there (omega arith));
  }

  pub read_link_later : (w : Tagged) (k : ℕ) → Later top link list top' link' list' → ReadTop limit top list w → ReadLink top link w k → ReadLink top' link' w k
  read_link_later w k l r s e = l.links (omega arith) w.index (r.there (omega arith)) ∙ s (omega arith)

-- the front of a list that is not empty
pub record Front (link : ℕ → ℕ) (x : ℕ) (list : List ℕ) (y : ℕ) : Type 0 where
  pub rest : List ℕ
  pub is : list ≡ x ∷ rest
  pub leads : Leads link (link x) rest y

pub front : (link : ℕ → ℕ) (x : ℕ) (list : List ℕ) (y : ℕ) → 0 < times x list → Leads link x list y → Front link x list y
front link x [] y h l = absurd (omega arith)
front link x (i ∷ is) y h l = record { rest = is; is = λ k. sym l.0 k ∷ is; leads = rw l.0 l.1 }

-- the same where its first index is not its end
pub front_of : (link : ℕ → ℕ) (x : ℕ) (list : List ℕ) (y : ℕ) → x ≢ y → Leads link x list y → Front link x list y
front_of link x [] y h l = absurd (h l)
front_of link x (i ∷ is) y h l = record { rest = is; is = λ k. sym l.0 k ∷ is; leads = rw l.0 l.1 }

-- what a load of the top tells, where it is not null and below the limit
pub read_top : (limit : ℕ) (top : Tagged) (link : ℕ → ℕ) (list : List ℕ) → Stands link top.index list → top.index ≢ NULL → top.tag < limit → ReadTop limit top list top
read_top limit top link list s ne below =
    let f = front_of link top.index list NULL ne s in
    record { below = below; past = omega arith; there = λ e. omega (arith, times_here top.index f.rest, ap (times top.index) f.is) }

-- what the winner of a take knows: the front of the list, and that the link read leads to the rest
pub record Ready (link : ℕ → ℕ) (list : List ℕ) (w : Tagged) (k : ℕ) : Type 0 where
  pub rest : List ℕ
  pub is : list ≡ w.index ∷ rest
  pub stands : Stands link k rest

pub ready : (limit : ℕ) (top : Tagged) (link : ℕ → ℕ) (list : List ℕ) (w : Tagged) (k : ℕ) → Stands link top.index list → top ≡ w → ReadTop limit top list w → ReadLink top link w k → Ready link list w k
ready limit top link list w k s won r at =
    let t : w.tag ≡ top.tag = ap (λ (x : Tagged). x.tag) (sym won) in
    let f = front link w.index list NULL (r.there t) (leads_from link top.index w.index list NULL (ap (λ (y : Tagged). y.index) won) s) in
    record { rest = f.rest; is = f.is; stands = leads_from link (link w.index) k f.rest NULL (at t) f.leads }

-- a list whose first index is null is empty
pub none_there : (link : ℕ → ℕ) (x : ℕ) (list : List ℕ) → x ≡ NULL → times NULL list ≡ 0 → Stands link x list → list ≡ []
none_there link x [] e never s = refl
none_there link x (i ∷ is) e never s = absurd (omega (arith, ap (λ (k : ℕ). times NULL (k ∷ is)) (sym s.0 ∙ e), times_here NULL is))
