-- What one call after another makes of a worker's own events.
use Rattle.std.proofs.Common.{◌≡◌, ℕ, ◌+◌, ◌≤◌, List, [], ◌∷◌, ◌++◌, refl, arith, ap, sym, ◌∙◌, subst, append-nil, append_assoc, length, length-append, Bool, true, false, Some}
use Rattle.bounded_model.specs.declared.history.Event.{Event}
use Rattle.bounded_model.specs.declared.history.Event.TheVariants.{Hold, Put, Take, Free}
use Rattle.relay.specs.declared.workers.ProducerEnd.{ProducerEnd}
use Rattle.relay.specs.declared.workers.ProducerEnd.TheVariants.{ClosedIt}
use Rattle.relay.specs.declared.workers.ConsumerEnd.{ConsumerEnd}
use Rattle.relay.specs.declared.workers.ConsumerEnd.TheVariants.{ShutIt}
use Rattle.relay.specs.declared.plan.Orders.{Orders}
use Rattle.std.specs.List.{AllByRecursion as Every}
use Rattle.bounded_model.specs.declared.views.PassView.{PassView}
use Rattle.bounded_model.specs.Machine.{Shape}
use Rattle.bounded_model.specs.Histories.{own}
use Rattle.bounded_model.specs.Gathers.{gather, Moved, put_of, took_of, hold_of, fold_of, close_of, shut_of}
use Rattle.bounded_model.specs.Laws.{Adds, BacksOut, CloseGives, ShutGives}
use Rattle.relay.specs.Workers.{Produces, Consumes, SendEnds, TakeEnds, Once}
use Rattle.bounded_model.specs.Justified.{Sometime}
use Rattle.bounded_model.proofs.Doing.{did-adds, did-backs_out, holds_by-backs_out}

abbrev pub mine : {T : Type 0} → PassView T → List (Event T)
mine v = own v.number v.seen

module _ {T A : Type 0} (f : Event T → List A) where
  gain : (v w : PassView T) (es : List (Event T)) → Adds v w es → gather f (mine w) ≡ gather f (mine v) ++ gather f es
  gain v w es a = did-adds f a

  pub keep : (v w : PassView T) (es : List (Event T)) → Adds v w es → gather f es ≡ [] → gather f (mine w) ≡ gather f (mine v)
  keep v w es a none = gain v w es a ∙ (ap (λ l. gather f (mine v) ++ l) none ∙ append-nil (gather f (mine v)))

-- n messages were put, and this rest is to come
pub record Producing {T : Type 0} (v : PassView T) (items rest : List T) (n : ℕ) : Type 0 where
  pub puts : gather put_of (mine v) ++ rest ≡ items
  pub count : length (gather put_of (mine v)) ≡ n
  pub holds : length (gather hold_of (mine v)) ≡ n
  pub takes : gather took_of (mine v) ≡ []
  pub folds : gather fold_of (mine v) ≡ []
  pub shuts : gather shut_of (mine v) ≡ []
  pub closes : gather close_of (mine v) ≡ []

module _ {T : Type 0} (items : List T) where
  pub Producing_new : (v : PassView T) → mine v ≡ [] → Producing v items items 0
  Producing_new v e = record { puts = rw e refl; count = rw e refl; holds = rw e refl; takes = rw e refl; folds = rw e refl; shuts = rw e refl; closes = rw e refl }

  pub Producing_ok : (v w : PassView T) (rest : List T) (x : T) (n k : ℕ) → Producing v items (x ∷ rest) n → Adds v w (Put v.number (x ∷ []) k ∷ Hold v.number ∷ []) → Producing w items rest (n + 1)
  Producing_ok v w rest x n k p a = record {
    puts = ap (λ l. l ++ rest) (gain put_of v w _ a) ∙ (append_assoc (gather put_of (mine v)) (x ∷ []) rest ∙ p.puts);
    count = ap length (gain put_of v w _ a) ∙ (length-append (gather put_of (mine v)) (x ∷ []) ∙ omega (arith, p.count));
    holds = ap length (gain hold_of v w _ a) ∙ (length-append (gather hold_of (mine v)) (v.number ∷ []) ∙ omega (arith, p.holds));
    takes = keep took_of v w _ a refl ∙ p.takes;
    folds = keep fold_of v w _ a refl ∙ p.folds;
    shuts = keep shut_of v w _ a refl ∙ p.shuts;
    closes = keep close_of v w _ a refl ∙ p.closes;
  }

  pub Producing_same : (v w : PassView T) (rest : List T) (n : ℕ) → Producing v items rest n → Adds v w [] → Producing w items rest n
  Producing_same v w rest n p a = record {
    puts = ap (λ l. l ++ rest) (keep put_of v w [] a refl) ∙ p.puts;
    count = ap length (keep put_of v w [] a refl) ∙ p.count;
    holds = ap length (keep hold_of v w [] a refl) ∙ p.holds;
    takes = keep took_of v w [] a refl ∙ p.takes;
    folds = keep fold_of v w [] a refl ∙ p.folds;
    shuts = keep shut_of v w [] a refl ∙ p.shuts;
    closes = keep close_of v w [] a refl ∙ p.closes;
  }

  module _ (sender : T → ℕ) (c : Shape) (plan : Orders) where
    abbrev Made : PassView T → List T → ProducerEnd → Type 0
    Made w rest end = Produces sender c plan w.seen w.number (mine w) items rest end

    -- at rest
    pub Produces_from : (v : PassView T) (rest : List T) (n : ℕ) (end : ProducerEnd) → Every (λ x. sender x ≡ v.number) items → Producing v items rest n → SendEnds c plan v.seen v.number (mine v) items rest end → Made v rest end
    Produces_from v rest n end from p e = record {
      from = from;
      puts = p.puts;
      takes = p.takes;
      folds = p.folds;
      shuts = p.shuts;
      holds = omega (arith, p.holds, p.count, ap length p.puts, length-append (gather put_of (mine v)) rest);
      ends = e;
    }

    -- after a refusal for good
    pub Produces_refused : (v w : PassView T) (rest : List T) (x : T) (n : ℕ) (end : ProducerEnd) → Every (λ x. sender x ≡ w.number) items → Producing v items (x ∷ rest) n → BacksOut v w 1
        → (gather close_of (mine w) ≡ [] → SendEnds c plan w.seen w.number (mine w) items (x ∷ rest) end) → Made w (x ∷ rest) end
    Produces_refused v w rest x n end from p b e = record {
      from = from;
      puts = ap (λ l. l ++ x ∷ rest) (did-backs_out put_of b refl (λ j. refl)) ∙ p.puts;
      takes = did-backs_out took_of b refl (λ j. refl) ∙ p.takes;
      folds = did-backs_out fold_of b refl (λ j. refl) ∙ p.folds;
      shuts = did-backs_out shut_of b refl (λ j. refl) ∙ p.shuts;
      holds = omega (arith, holds_by-backs_out b, p.holds, p.count, ap length p.puts, length-append (gather put_of (mine v)) (x ∷ rest));
      ends = e (did-backs_out close_of b refl (λ j. refl) ∙ p.closes);
    }

    closed_by : (v w : PassView T) (rest : List T) (n : ℕ) (es : List (Event T)) → Every (λ x. sender x ≡ w.number) items → Producing v items rest n → Adds v w es
        → gather put_of es ≡ [] → gather took_of es ≡ [] → gather fold_of es ≡ [] → gather shut_of es ≡ [] → gather hold_of es ≡ [] → w.number ≡ 0 → plan.close_after ≡ Some n → Made w rest ClosedIt
    closed_by v w rest n es from p a e1 e2 e3 e4 e5 zero' m = record {
      from = from;
      puts = ap (λ l. l ++ rest) (keep put_of v w es a e1) ∙ p.puts;
      takes = keep took_of v w es a e2 ∙ p.takes;
      folds = keep fold_of v w es a e3 ∙ p.folds;
      shuts = keep shut_of v w es a e4 ∙ p.shuts;
      holds = omega (arith, ap length (keep hold_of v w es a e5), p.holds, p.count, ap length p.puts, length-append (gather put_of (mine v)) rest);
      ends = (zero', m ∙ ap Some (sym p.count ∙ ap length (sym (keep put_of v w es a e1))));
    }

    -- after its own close
    pub Produces_closed : (v w : PassView T) (rest : List T) (n : ℕ) (b : Bool) → Every (λ x. sender x ≡ w.number) items → Producing v items rest n → CloseGives c v w b → w.number ≡ 0 → plan.close_after ≡ Some n → Made w rest ClosedIt
    Produces_closed v w rest n true from p g z m = closed_by v w rest n _ from p g refl refl refl refl refl z m
    Produces_closed v w rest n false from p g z m = closed_by v w rest n [] from p g.0 refl refl refl refl refl z m

-- these were taken
pub record Consuming {T : Type 0} (v : PassView T) (taken : List (Moved T)) : Type 0 where
  pub takes : gather took_of (mine v) ≡ taken
  pub puts : gather put_of (mine v) ≡ []
  pub folds : gather fold_of (mine v) ≡ []
  pub closes : gather close_of (mine v) ≡ []
  pub holds : gather hold_of (mine v) ≡ []
  pub shuts : gather shut_of (mine v) ≡ []

-- no more than was asked for
pub record Within (plan : Orders) (a n : ℕ) : Type 0 where
  pub most : (k : ℕ) → plan.take ≡ Some k → n ≤ k
  pub most_first : (m : ℕ) → a ≡ plan.producers → plan.shut_after ≡ Some m → n ≤ m

module _ {T : Type 0} where
  pub Consuming_new : (v : PassView T) → mine v ≡ [] → Consuming v []
  Consuming_new v e = record { takes = rw e refl; puts = rw e refl; folds = rw e refl; closes = rw e refl; holds = rw e refl; shuts = rw e refl }

  pub Consuming_ok : (v w : PassView T) (taken : List (Moved T)) (x : T) (k : ℕ) → Consuming v taken → Adds v w (Free v.number 1 ∷ Take v.number x k ∷ []) → Consuming w (taken ++ record { value = x; number = k; by = v.number } ∷ [])
  Consuming_ok v w taken x k p a = record {
    takes = gain took_of v w _ a ∙ ap (λ l. l ++ record { value = x; number = k; by = v.number } ∷ []) p.takes;
    puts = keep put_of v w _ a refl ∙ p.puts;
    folds = keep fold_of v w _ a refl ∙ p.folds;
    closes = keep close_of v w _ a refl ∙ p.closes;
    holds = keep hold_of v w _ a refl ∙ p.holds;
    shuts = keep shut_of v w _ a refl ∙ p.shuts;
  }

  pub Consuming_same : (v w : PassView T) (taken : List (Moved T)) → Consuming v taken → Adds v w [] → Consuming w taken
  Consuming_same v w taken p a = record {
    takes = keep took_of v w [] a refl ∙ p.takes;
    puts = keep put_of v w [] a refl ∙ p.puts;
    folds = keep fold_of v w [] a refl ∙ p.folds;
    closes = keep close_of v w [] a refl ∙ p.closes;
    holds = keep hold_of v w [] a refl ∙ p.holds;
    shuts = keep shut_of v w [] a refl ∙ p.shuts;
  }

  module _ (c : Shape) (plan : Orders) where
    pub Consumes_from : (v : PassView T) (taken : List (Moved T)) (end : ConsumerEnd) → Consuming v taken → Within plan v.number (length taken) → TakeEnds c plan v.seen v.number (mine v) taken end → Consumes c plan v.seen v.number (mine v) taken end
    Consumes_from v taken end p w e = record { takes = p.takes; puts = p.puts; folds = p.folds; closes = p.closes; holds = p.holds; most = w.most; most_first = w.most_first; ends = e }

    pub Consumes_shut : (v w : PassView T) (taken : List (Moved T)) (b : Bool) → Consuming v taken → ShutGives c v w b → Within plan w.number (length taken) → w.number ≡ plan.producers → plan.shut_after ≡ Some (length taken)
        → Consumes c plan w.seen w.number (mine w) taken ShutIt
    Consumes_shut v w taken true p g i z m = record {
      takes = keep took_of v w _ g refl ∙ p.takes;
      puts = keep put_of v w _ g refl ∙ p.puts;
      folds = keep fold_of v w _ g refl ∙ p.folds;
      closes = keep close_of v w _ g refl ∙ p.closes;
      holds = keep hold_of v w _ g refl ∙ p.holds;
      most = i.most;
      most_first = i.most_first;
      ends = (z, m);
    }
    Consumes_shut v w taken false p g i z m = Consumes_from w taken ShutIt (Consuming_same v w taken p g.0) i (z, m)

pub is_nil : {B : Type 0} (xs : List B) → length xs ≡ 0 → xs ≡ []
is_nil [] e = refl
is_nil (x ∷ xs) e = absurd (omega arith)

pub number-from_close : {T : Type 0} (c : Shape) (v w : PassView T) (b : Bool) → CloseGives c v w b → w.number ≡ v.number
number-from_close c v w true g = g.number
number-from_close c v w false g = g.0.number

pub from_number : {T : Type 0} (sender : T → ℕ) (a b : ℕ) (items : List T) → b ≡ a → Every (λ x. sender x ≡ a) items → Every (λ x. sender x ≡ b) items
from_number sender a b items e h = subst (λ k. Every (λ x. sender x ≡ k) items) (sym e) h

pub once : {T : Type 0} {old new : List (Event T)} {P : List (Event T) → Type 0} → Sometime old new P → Once new P
once s = record { at = s.at; until = s.until; holds = s.holds }

pub once_by : {T : Type 0} {old new : List (Event T)} {P Q : List (Event T) → Type 0} → ((h : List (Event T)) → P h → Q h) → Sometime old new P → Once new Q
once_by f s = record { at = s.at; until = s.until; holds = f s.at s.holds }
