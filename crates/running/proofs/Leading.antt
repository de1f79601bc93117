-- What a step of an operation gives, by where its code goes on.
use Rattle.std.proofs.Common.{◌≡◌, ◌≤◌, ◌+◌, ℕ, Bool, true, false, List, [], refl, sym, ◌∙◌, subst, arith}
use Rattle.std.specs.Prelude.{Option as Slot}
use Rattle.atomic_table.specs.Seated.{TableId}
use Rattle.bounded_model.specs.declared.views.PassView.{PassView}
use Rattle.running.specs.Machine.{Names, Machine, Core, Access as Deed, rests, loads, fetches, stows, stores, swaps}
use Rattle.running.specs.Going.{Found}
use Rattle.bounded_model.specs.Stepping.{OneStep}
use Rattle.running.specs.Passes.{IsAtOn, OneLine, Since, WentOn, begun_of, pass_in}
use Rattle.running.specs.Since.{HasNew}
use Rattle.running.specs.Code.{Account, FoundBy, CameBy, FindingBy, Leads, Tells, left}
use Rattle.running.specs.Steps.{Stands, StopsAt, Gives, Ran}
use Rattle.running.specs.declared.passes.Pass.{Pass}
use Rattle.running.specs.declared.access.Outcome.{Outcome}
use Rattle.running.specs.declared.code.Next.{Next}
use Rattle.running.specs.declared.code.Next.TheVariants.{On, Lost, Done}
use Rattle.running.proofs.Since.{going_busy, step_new, step_on}
use Rattle.running.proofs.Ways.{goes_on, ends_so}

-- what was found is what the code is told, and what it shows holds of that
module _ {T L O : Type 0} (c : Core T L O) (l : L) (r : Outcome) (had has : List (ℕ × Slot T)) (found : ℕ) (came : List (ℕ × Slot T)) where
  pub tells : (a : Deed) → FoundBy c a l r had has found came → c.Says l found → CameBy c a l r had has
  tells rests f says = (f.1, subst (c.Says l) f.0 says)
  tells (loads at) f says = (f.1, subst (c.Says l) f.0 says)
  tells (fetches at) f says = (found, came, f, says)
  tells (stows at) f says = (f.1, subst (c.Says l) f.0 says)
  tells (stores at x) f says = (f.1, subst (c.Says l) f.0 says)
  tells (swaps at old new side) f says = (found, came, f, says)

  pub shows : (So : ℕ → List (ℕ × Slot T) → Type 0) (a : Deed) → FoundBy c a l r had has found came → FindingBy c a l r had has So → So found came
  shows So rests f so = subst (So found) (sym f.2) (subst (λ (n : ℕ). So n []) (sym f.0) (so f.1))
  shows So (loads at) f so = subst (So found) (sym f.2) (subst (λ (n : ℕ). So n []) (sym f.0) (so f.1))
  shows So (fetches at) f so = so found came f
  shows So (stows at) f so = so found came f
  shows So (stores at x) f so = subst (So found) (sym f.2) (subst (λ (n : ℕ). So n []) (sym f.0) (so f.1))
  shows So (swaps at old new side) f so = so found came f

-- what is shown of whatever was found, and what follows of it
module _ {T L O : Type 0} (c : Core T L O) (l : L) (r : Outcome) (had has : List (ℕ × Slot T)) (So So' : ℕ → List (ℕ × Slot T) → Type 0) (follows : (found : ℕ) (came : List (ℕ × Slot T)) → So found came → So' found came) where
  pub finding : (a : Deed) → FindingBy c a l r had has So → FindingBy c a l r had has So'
  finding rests so = λ kept. follows r.word [] (so kept)
  finding (loads at) so = λ kept. follows r.word [] (so kept)
  finding (fetches at) so = λ found came f. follows found came (so found came f)
  finding (stows at) so = λ found came f. follows found came (so found came f)
  finding (stores at x) so = λ kept. follows r.word [] (so kept)
  finding (swaps at old new side) so = λ found came f. follows found came (so found came f)

module _ {T L O S A : Type 0} {names : Names L O} (m : Machine T L O names) (c : Account T L O S A) (id : TableId) where
  pub gave : (p q : Pass T L) (s : S) → Stands m c id p s → q.seat.table_id ≡ p.seat.table_id → (found : ℕ) (came : List (ℕ × Slot T)) → Found m (c.operation s) p.seat.me.0 q.seat.me.0 found came
      → (r : Next S A) → Leads names c s (m.core.next (c.line s) found came) q.seat.me.1 r → Gives m c id p s q r
  gave p q s is table found came steps (On s') l =
      let r = goes_on m is.at q found came steps table (c.slots s') (c.line s') l.hand l.is l.busy in
      (record { at = subst (λ (o : O). IsAtOn m id o q (c.line s') (c.slots s')) (sym l.same) r.0; knows = l.knows }, l.same, r.1)
  gave p q s is table found came steps (Lost s') l =
      let r = goes_on m is.at q found came steps table (c.slots s') (c.line s') l.hand l.is l.busy in
      (record { at = subst (λ (o : O). IsAtOn m id o q (c.line s') (c.slots s')) (sym l.same) r.0; knows = l.knows }, l.same, r.1)
  gave p q s is table found came steps (Done a) l = stopped (names.is_idle (c.answer (c.operation s) a)) refl l.hand
    where
      stopped : (b : Bool) → names.is_idle (c.answer (c.operation s) a) ≡ b → q.seat.me.1 ≡ left b (c.rest a) → StopsAt m c id b (c.operation s) (begun_of m p) q a × OneLine m p q (c.line s) (c.answer (c.operation s) a)
      stopped true e has = let r = ends_so m is.at q found came steps table (c.answer (c.operation s) a) has l.is e in ((r.0, r.1), r.2)
      stopped false e has = let r = goes_on m is.at q found came steps table (c.rest a) (c.answer (c.operation s) a) has l.is e in ((r.0, r.1.0), r.1.1)

  abbrev StopsSo : Bool → O → PassView T → Pass T L → A → Type 0
  StopsSo b o v q a = StopsAt m c id b o v q a

  -- the acts that are new after one step, after no step, and after some and then others
  since_step : (p q : Pass T L) (l k : L) → names.is_idle k ≡ false → WentOn m p q l k → Since m p q
  since_step p q l k busy went = (went.0, λ w. step_on m p.seat.me.0 q.seat.me.0 w went.1.0 busy went.1.1.number)

  pub since_none : (p : Pass T L) → Since m p p
  since_none p = (refl, λ w n. n)

  pub since_on : (p q t : Pass T L) → Since m p q → Since m q t → Since m p t
  since_on p q t a b = (b.0 ∙ a.0, λ w n. a.1 w (b.1 w n))

  pub new_on : (p q t : Pass T L) → Since m p q → HasNew names q.seat.me.0 t.seat.me.0 → HasNew names p.seat.me.0 t.seat.me.0
  new_on p q t a b = a.1 t.seat.me.0 b

  pub one : (p q : Pass T L) (s : S) (r : Next S A) → Gives m c id p s q r → OneStep (pass_in p) (pass_in q)
  one p q s (On s') e = e.2.1.1
  one p q s (Lost s') e = e.2.1.1
  one p q s (Done a) e = e.1.1

  pub one_at_most : (p q : Pass T L) (s : S) (r : Next S A) → Gives m c id p s q r → (pass_in q).steps ≤ (pass_in p).steps + 1
  one_at_most p q s r e = omega (arith, (one p q s r e).steps)

  -- what has stopped with its machine's answer has ended
  pub ended : (o : O) (v : PassView T) (q : Pass T L) (a : A) → names.is_idle (c.answer o a) ≡ true → StopsAt m c id (names.is_idle (c.answer o a)) o v q a → StopsAt m c id true o v q a
  ended o v q a idle stops = subst (λ (b : Bool). StopsAt m c id b o v q a) idle stops

  -- a step is the first of some
  pub ran : (o : O) (p q : Pass T L) (s : S) → o ≡ c.operation s → (r : Next S A) → Gives m c id p s q r → Ran m c id o p q r
  ran o p q s named (On s') e = (e.0, named ∙ sym e.1, since_step p q (c.line s) (c.line s') (going_busy m e.0.at.at.going) e.2)
  ran o p q s named (Lost s') e = (e.0, named ∙ sym e.1, since_step p q (c.line s) (c.line s') (going_busy m e.0.at.at.going) e.2)
  ran o p q s named (Done a) e = (subst (λ (k : O). StopsSo (names.is_idle (c.answer k a)) k (begun_of m p) q a) (sym named) e.0, step_new m e.1.0)

  -- and others may follow it
  pub ran_on : (o : O) (p q t : Pass T L) → Since m p q → (r : Next S A) → Ran m c id o q t r → Ran m c id o p t r
  ran_on o p q t since (On u) e = (e.0, e.1, since_on p q t since e.2)
  ran_on o p q t since (Lost u) e = (e.0, e.1, since_on p q t since e.2)
  ran_on o p q t since (Done a) e = (subst (λ (v : PassView T). StopsSo (names.is_idle (c.answer o a)) o v t a) since.0 e.0, new_on p q t since e.1)

-- what is told of where an operation goes on is told of where it came from
module _ {S A : Type 0} (Told : S → A → Type 0) (s t : S) (on : (a : A) → Told t a → Told s a) where
  pub tells_on : (r : Next S A) → Tells Told t r → Tells Told s r
  tells_on (On u) e = λ a told. on a (e a told)
  tells_on (Lost u) e = λ a told. on a (e a told)
  tells_on (Done a) e = on a e
