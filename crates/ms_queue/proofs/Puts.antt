-- Where the steps of a put lead.
use Rattle.std.proofs.Common.{◌≡◌, ℕ, List, [], ◌∷◌, refl, sym, ap, ◌∙◌, subst}
use Rattle.std.specs.Prelude.{Option as Slot, Some, None, Err}
use Rattle.core.specs.declared.snapshot.Snapshot.{Snapshot}
use Rattle.queue_machine.specs.declared.lines.Answer as lines
use Rattle.queue_machine.specs.Machine.{gives}
use Rattle.ms_queue.specs.Prelude.{AnswerPut, Came, Closed, Done as Answered, Finding, Full, Leads, Line, Lost, Next as Onward, On, Outcome}
use Rattle.ms_queue.specs.Prelude.{PutRefused, Seeking as Aim, ToLink, ToRefuse, names, next, rest}
use Rattle.ms_queue.specs.declared.code.giving.Give.{Give}
use Rattle.ms_queue.specs.declared.code.giving.Give.TheVariants.{LoadNodes}
use Rattle.ms_queue.specs.declared.code.giving.Held.{Held}
use Rattle.ms_queue.specs.declared.code.putting.PutAt.{PutAt}
use Rattle.ms_queue.specs.declared.code.putting.PutAt.TheVariants.{Refusing, Seeking, LinkNext, GiveBack}
use Rattle.ms_queue.specs.declared.code.seeking.Seek.{Seek}
use Rattle.ms_queue.specs.declared.code.seeking.End.{End}
use Rattle.ms_queue.specs.declared.code.seeking.End.TheVariants.{Closed as AtMark, Open as AtNull}
use Rattle.ms_queue.specs.code.Giving.{AreHeld, Gives}
use Rattle.ms_queue.specs.code.Steps.{GaveTo, Seeks, SoughtTo}
use Rattle.ms_queue.specs.code.Machine.{put_of}
use Rattle.ms_queue.specs.code.Putting.{Answer, put_account, linking, refused, put_line, put_slots, full_slot, HasReadToPut}
use Rattle.ms_queue.specs.Calls.{QueueWith, room_of, limit_of, machine_of}
use Rattle.ms_queue.proofs.Gives.{busy_giving, gave_within}
use Rattle.ms_queue.proofs.Seeks.{busy, sought_within}

module _ {T : Type 0} where
  value_or : T → List (ℕ × Slot T) → T
  value_or d ((i, Some x) ∷ zs) = x
  value_or d zs = d

  -- the one value in hand
  pub one_value : (zs us vs : List (ℕ × Slot T)) (i j : ℕ) (x y : T) → zs ≡ (i, Some x) ∷ us → zs ≡ (j, Some y) ∷ vs → x ≡ y
  unfolding value_or
  one_value zs us vs i j x y e f = sym (ap (value_or x) e) ∙ ap (value_or x) f

-- where the code of a put goes on
module _ {T : Type 0} {D : Type 0} (c : QueueWith T D) where
  abbrev pub PutsTo : PutAt T → List (ℕ × Slot T) → Onward (PutAt T) (Answer T) → Line T → Type 0
  PutsTo s has to l = Leads names (put_account c.table.shared.key) s l has to

  abbrev pub Putting : PutAt T → Outcome → List (ℕ × Slot T) → List (ℕ × Slot T) → Onward (PutAt T) (Answer T) → Type 0
  Putting s r had has to = Finding (machine_of c).core (put_line s) r (put_slots s) had (λ found came. PutsTo s has to (next (limit_of c) (put_line s) found came))

  -- by the give inside it
  module _ (why : PutRefused T) (held : Held) where
    abbrev pub refusing : Onward Give (Unit {0}) → Onward (PutAt T) (Answer T)
    refusing (On at) = On (GiveBack why held at)
    refusing (Lost at) = Lost (GiveBack why held at)
    refusing (Answered x) = Answered (record { kept = tt; reply = Err why })

    follows : (read : AreHeld (room_of c) held) (at : Give) (has : List (ℕ × Slot T)) (to : Onward Give (Unit {0})) (l : Line T) → Gives l (refused why) held has to → PutsTo (GiveBack why held at) has (refusing to) l
    follows read at has (On to) l e = record { same = refl; is = e.0; busy = busy_giving (refused why) held to; hand = e.1; knows = read }
    follows read at has (Lost to) l e = record { same = refl; is = e.0; busy = busy_giving (refused why) held to; hand = e.1; knows = read }
    follows read at has (Answered x) l e = record { is = e.0; hand = e.1 }

    pub gave_put : {s : PutAt T} {at : Give} → s ≡ GiveBack why held at → HasReadToPut (room_of c) (limit_of c) s → (r : Outcome) (has : List (ℕ × Slot T)) (to : Onward Give (Unit {0})) → ((a : lines.Answer T) (held : Held) (has : List (ℕ × Slot T)) → GaveTo c a held at r has to) → Putting s r has has (refusing to)
    gave_put {s} {at} is read r has to gave = subst (λ (k : PutAt T). Putting k r has has (refusing to)) (sym is)
        (gave_within c (refused why) held at r has to (gave (refused why) held has) (PutsTo (GiveBack why held at) has (refusing to)) (follows (subst (HasReadToPut (room_of c) (limit_of c)) is read) at has to))

  -- by the way to the end of the chain, where nothing can be put
  module _ (x : T) where
    abbrev pub barred : Onward Seek End → Onward (PutAt T) (Answer T)
    barred (On at) = On (Refusing x at)
    barred (Lost at) = Lost (Refusing x at)
    barred (Answered (AtMark w)) = Answered (record { kept = tt; reply = Err (Closed x) })
    barred (Answered (AtNull w n)) = Answered (record { kept = tt; reply = Err (Full x) })

    barred_so : (at : Seek) (has : List (ℕ × Slot T)) (to : Onward Seek End) (l : Line T) → Seeks c l (ToRefuse x) [] has to → PutsTo (Refusing x at) has (barred to) l
    barred_so at has (On to) l e = record { same = refl; is = e.0; busy = busy (ToRefuse x) to; hand = e.1; knows = e.2 }
    barred_so at has (Lost to) l e = record { same = refl; is = e.0; busy = busy (ToRefuse x) to; hand = e.1; knows = e.2 }
    barred_so at has (Answered (AtMark w)) l e = record { is = e.0; hand = e.1 }
    barred_so at has (Answered (AtNull w n)) l e = record { is = e.0; hand = e.1 }

    pub sought_refusal : {s : PutAt T} {at : Seek} → s ≡ Refusing x at → (r : Outcome) (has : List (ℕ × Slot T)) → Came (machine_of c).core (put_line s) r (put_slots s) has → (to : Onward Seek End) → ((aim : Aim T) (had has : List (ℕ × Slot T)) → SoughtTo c aim at r had has to) → Putting s r has has (barred to)
    sought_refusal {s} {at} is r has came to sought = subst (λ (k : PutAt T). Putting k r has has (barred to)) (sym is)
        (sought_within c (ToRefuse x) at r [] has to (sought (ToRefuse x) [] has) (subst (λ (k : PutAt T). Came (machine_of c).core (put_line k) r (put_slots k) has) is came) (PutsTo (Refusing x at) has (barred to)) (barred_so at has to))

  -- and where the node is to be linked
  module _ {s : PutAt T} {shown : Snapshot T} {held : Held} {at : Seek} (is : s ≡ Seeking shown held at) (r : Outcome) (had has : List (ℕ × Slot T)) (read : HasReadToPut (room_of c) (limit_of c) s) (came : Came (machine_of c).core (put_line s) r (put_slots s) had) (to : Onward Seek End) (sought : (aim : Aim T) (had has : List (ℕ × Slot T)) → SoughtTo c aim at r had has to) where
    abbrev aim : Aim T
    aim = ToLink (linking shown.value held)

    abbrev hand : List (ℕ × Slot T)
    hand = full_slot shown.value held.cell

    sought_so : (goes : Onward (PutAt T) (Answer T)) → ((l : Line T) → AreHeld (room_of c) held → Seeks c l aim hand had to → PutsTo (Seeking shown held at) has goes l) → Putting s r had has goes
    sought_so goes so = subst (λ (k : PutAt T). Putting k r had has goes) (sym is)
        (sought_within c aim at r hand had to (sought aim hand had) (subst (λ (k : PutAt T). Came (machine_of c).core (put_line k) r (put_slots k) had) is came) (PutsTo (Seeking shown held at) has goes)
        (λ l e. so l (subst (HasReadToPut (room_of c) (limit_of c)) is read).0 e))

    pub sought_on : (at' : Seek) → to ≡ On at' → has ≡ had → Putting s r had has (On (Seeking shown held at'))
    sought_on at' is_on kept = sought_so (On (Seeking shown held at')) (λ l low f. let e = subst (Seeks c l aim hand had) is_on f in record { same = refl; is = e.0; busy = busy aim at'; hand = kept ∙ e.1; knows = (low, e.2) })

    pub sought_lost : (at' : Seek) → to ≡ Lost at' → has ≡ had → Putting s r had has (Lost (Seeking shown held at'))
    sought_lost at' is_lost kept = sought_so (Lost (Seeking shown held at')) (λ l low f. let e = subst (Seeks c l aim hand had) is_lost f in record { same = refl; is = e.0; busy = busy aim at'; hand = kept ∙ e.1; knows = (low, e.2) })

    pub sought_end : (w n : ℕ) → to ≡ Answered (AtNull w n) → has ≡ had → Putting s r had has (On (LinkNext shown held w n))
    sought_end w n is_end kept = sought_so (On (LinkNext shown held w n)) (λ l low f. let e = subst (Seeks c l aim hand had) is_end f in record { same = refl; is = e.0; busy = refl; hand = kept ∙ e.1; knows = (low, e.2.0, e.2.1) })

    -- the end has the mark, and the value moves out of the slot
    pub sought_mark : {w : ℕ} (v : T) → to ≡ Answered (AtMark w) → had ≡ (held.cell, Some v) ∷ rest had → has ≡ (held.cell, None) ∷ rest had → Putting s r had has (On (GiveBack (Closed v) held LoadNodes))
    sought_mark v is_mark value out = sought_so (On (GiveBack (Closed v) held LoadNodes)) (λ l low f.
        let e = subst (Seeks c l aim hand had) is_mark f in
        let same_one : shown.value ≡ v = one_value had [] (rest had) held.cell held.cell shown.value v e.1 value in
        record {
          same = ap put_of (sym same_one);
          is = e.0 ∙ ap (λ (x : T). gives (linking shown.value held) (AnswerPut (Err (Closed x)))) same_one;
          busy = refl;
          hand = out ∙ ap (λ (zs : List (ℕ × Slot T)). (held.cell, None) ∷ rest zs) e.1;
          knows = low;
        })
