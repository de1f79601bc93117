-- Where the steps of a take lead.
use Rattle.std.proofs.Common.{◌≡◌, ℕ, ◌+◌, ◌<◌, Bool, true, false, cond, List, [], ◌∷◌, ◌++◌, refl, sym, ap, ◌∙◌, subst}
use Rattle.std.specs.Prelude.{map, Option as Slot, Some, None, Ok}
use mathlib.Core.Bool.{not}
use mathlib.Core.Option.{some}
use Rattle.machine.specs.Words.{Tagged}
use Rattle.machine.proofs.Tests.{same-is}
use Rattle.queue_machine.specs.declared.lines.Line.TheVariants.{Idle}
use Rattle.queue_machine.specs.declared.lines.Answer as lines
use Rattle.queue_machine.specs.Machine.{took as took_by}
use Rattle.running.specs.Tables.{line_of, values}
use Rattle.ms_queue.specs.Prelude.{AnswerTake, Came, Done, Finding, Leads, Line, LoadHead, LoadNodesToGive, Lost, Next, On, Outcome, fields_of}
use Rattle.ms_queue.specs.Prelude.{index_of, names, next, rest, tag_of}
use Rattle.ms_queue.specs.declared.code.giving.Give.{Give}
use Rattle.ms_queue.specs.declared.code.giving.Give.TheVariants.{LoadNodes}
use Rattle.ms_queue.specs.declared.code.giving.Held.{Held}
use Rattle.ms_queue.specs.declared.code.taking.Taken.{Taken}
use Rattle.ms_queue.specs.declared.code.taking.TakeAt.{TakeAt}
use Rattle.ms_queue.specs.declared.code.taking.TakeAt.TheVariants.{TakeHead as TakeFirstNode, GiveBack}
use Rattle.ms_queue.specs.code.Giving.{AreHeld, Gives}
use Rattle.ms_queue.specs.code.Steps.{GaveTo}
use Rattle.ms_queue.specs.Calls.{QueueWith, room_of, limit_of, machine_of}
use Rattle.ms_queue.specs.code.Taking.{Answer, take_account, took, take_line, take_slots, HasReadToTake}
use Rattle.ms_queue.proofs.Gives.{busy_giving, gave_within}

module _ {T : Type 0} where
  -- where the pass goes on that has won the head, by the slots that it brings
  abbrev pub won_take : Tagged → ℕ → List (ℕ × Slot T) → Line T
  won_take h k zs = line_of (Idle None) (took_by h k (map some (values zs)))

  value_or : T → List (ℕ × Slot T) → T
  value_or d ((i, Some x) ∷ zs) = x
  value_or d zs = d

  pub same_value : (zs us vs : List (ℕ × Slot T)) (i j : ℕ) (x y : T) → zs ≡ (i, Some x) ∷ us → zs ≡ (j, Some y) ∷ vs → x ≡ y
  unfolding value_or
  same_value zs us vs i j x y e f = sym (ap (value_or x) e) ∙ ap (value_or x) f

by_not : (b : Bool) → not b ≡ false → b ≡ true
by_not true e = refl
by_not false e = sym e

-- where the code of a take goes on, by the give inside it
abbrev pub returning : {T : Type 0} → Taken T → Next Give (Unit {0}) → Next (TakeAt T) (Answer T)
returning t (On at) = On (GiveBack t at)
returning t (Lost at) = Lost (GiveBack t at)
returning t (Done x) = Done (record { kept = tt; reply = Ok (t.value, t.number) })

module _ {T : Type 0} {D : Type 0} (c : QueueWith T D) where
  abbrev pub TakesTo : TakeAt T → List (ℕ × Slot T) → Next (TakeAt T) (Answer T) → Line T → Type 0
  TakesTo s has to l = Leads names (take_account c.table.shared.key) s l has to

  abbrev pub Taking : TakeAt T → Outcome → List (ℕ × Slot T) → List (ℕ × Slot T) → Next (TakeAt T) (Answer T) → Type 0
  Taking s r had has to = Finding (machine_of c).core (take_line s) r (take_slots s) had (λ found came. TakesTo s has to (next (limit_of c) (take_line s) found came))

  module _ (t : Taken T) (held : AreHeld (room_of c) t.held) (s : TakeAt T) (has : List (ℕ × Slot T)) where
    follows : (to : Next Give (Unit {0})) (l : Line T) → Gives l (took t) t.held has to → TakesTo s has (returning t to) l
    follows (On at) l e = record { same = refl; is = e.0; busy = busy_giving (took t) t.held at; hand = e.1; knows = held }
    follows (Lost at) l e = record { same = refl; is = e.0; busy = busy_giving (took t) t.held at; hand = e.1; knows = held }
    follows (Done x) l e = record { is = e.0; hand = e.1 }

  pub gave_take : {s : TakeAt T} {t : Taken T} {at : Give} → s ≡ GiveBack t at → HasReadToTake (room_of c) (limit_of c) s → (r : Outcome) (has : List (ℕ × Slot T)) (to : Next Give (Unit {0})) → ((a : lines.Answer T) (held : Held) (has : List (ℕ × Slot T)) → GaveTo c a held at r has to)
      → Taking s r has has (returning t to)
  gave_take {s} {t} {at} is read r has to gave = subst (λ (k : TakeAt T). Taking k r has has (returning t to)) (sym is)
      (gave_within c (took t) t.held at r has to (gave (took t) t.held has) (TakesTo (GiveBack t at) has (returning t to)) (follows t (subst (HasReadToTake (room_of c) (limit_of c)) is read) (GiveBack t at) has to))

  -- and by the head that was won, whose cell had this value in its slot
  module _ {s : TakeAt T} {h x k : ℕ} (is : s ≡ TakeFirstNode h x k) (r : Outcome) (had has : List (ℕ × Slot T)) (not_lost : not r.won ≡ false) (read : HasReadToTake (room_of c) (limit_of c) s) (came : Came (machine_of c).core (take_line s) r (take_slots s) had) where
    won : r.won ≡ true
    won = by_not r.won not_lost

    low : k < room_of c
    low = let e = subst (λ (a : TakeAt T). Came (machine_of c).core (take_line a) r (take_slots a) had) is came in e.3 (same-is (fields_of e.0) (fields_of h) (e.2.0 ∙ won))

    abbrev taken : T → ℕ → ℕ → Taken T
    taken v number node = record { value = v; number = number; held = record { cell = k; node = node; aligned = [] } }

    pub won_head : (v : T) (number node : ℕ) → had ≡ (k, Some v) ∷ rest had → has ≡ (k, None) ∷ rest had → number ≡ tag_of h → node ≡ index_of h → Taking s r had has (On (GiveBack (taken v number node) LoadNodes))
    won_head v number node value out is_tag is_index = subst (λ (a : TakeAt T). Taking a r had has (On (GiveBack (taken v number node) LoadNodes))) (sym is)
        (λ found brought f.
        let w = f.1 won in
        let slot = w.1 in
        let whole : had ≡ (k, Some slot.0) ∷ [] = w.0 ∙ ap (λ (zs : List (ℕ × Slot T)). zs ++ []) slot.1 in
        let same_one : slot.0 ≡ v = same_value had [] (rest had) k k slot.0 v whole value in
        record {
          same = refl;
          is = ap (λ (b : Bool). cond b (won_take (fields_of h) k brought) LoadHead) (f.0 ∙ won) ∙ ap (won_take (fields_of h) k) slot.1 ∙ (λ t. LoadNodesToGive (record { cell = k; node = sym is_index t; answer = AnswerTake (Ok (same_one t, sym is_tag t)) }));
          busy = refl;
          hand = out ∙ ap (λ (zs : List (ℕ × Slot T)). (k, None) ∷ rest zs) whole;
          knows = (low, subst (λ (i : ℕ). i < room_of c + 1) (sym is_index) (subst (HasReadToTake (room_of c) (limit_of c)) is read).0);
        })
