-- What the words that a pass finds tell of the history, so that its answer is right.
use Rattle.std.proofs.Common.{◌≡◌, ◌≢◌, ℕ, suc, ◌+◌, ◌*◌, ◌<◌, ◌≤◌, true, false, List, [], ◌∷◌, length, reverse, refl, sym, ap, ◌∙◌, subst, arith}
use Rattle.std.proofs.lemmas.List.{length-append, length-reverse}
use mathlib.Core.Option.{Option}
use Rattle.tagged_index.specs.declared.word.TheConstants.{NULL}
use Rattle.bounded_model.specs.declared.answers.Word.TheVariants.{Free as FreeWord, Top as TopWord}
use Rattle.bounded_model.specs.declared.history.Event.{Event}
use Rattle.bounded_model.specs.declared.history.Event.TheVariants.{Hold, Put, Take, TakeAll, Free, Close, Shut}
use Rattle.bounded_model.specs.Machine.{Legal, without_first}
use Rattle.bounded_model.specs.Justified.{IsEmpty, IsOpen, IsClosed, IsUnshut, IsShut, IsFull, Justifies, PutSpent}
use Rattle.machine.specs.Words.{times}
use Rattle.stack_machine.specs.declared.lines.Line.{Line}
use Rattle.stack_machine.specs.Machine.{Memory}
use Rattle.stack_machine.specs.Answers.{shape, state, IsGauged}
use Rattle.machine.specs.Chains.{HasValues}
use Rattle.stack_machine.specs.Rule.{Lists, values_put, Good}
use Rattle.machine.proofs.OneList.{front_of, none_there}
use Rattle.machine.proofs.Tests.{not_below}

module _ {T : Type 0} (n limit : ℕ) where
  -- each put, take and take of all has moved a value
  turns_legal : (h : List (Event T)) → Legal (shape n limit) h → (state n limit h).puts + (state n limit h).takes + length (state n limit h).values ≤ 2 * values_put h
  turns_legal [] l = omega arith
  turns_legal (Hold p ∷ h) l = turns_legal h l.1
  turns_legal (Put p vs k ∷ h) l = let r = turns_legal h l.1 in let some_value : 0 < length vs = l.0.1 in omega (arith, length-append (reverse vs) (state n limit h).values, length-reverse vs)
  turns_legal (Take p v k ∷ h) l =
      let r = turns_legal h l.1 in
      let first = l.0.1 in
      let rest : length (without_first (state n limit h).values) ≡ length first.0 = ap (λ (vs : List T). length (without_first vs)) first.1 in
      let one : length (state n limit h).values ≡ suc (length first.0) = ap length first.1 in
      omega arith
  turns_legal (TakeAll p vs k ∷ h) l = let r = turns_legal h l.1 in let some_value : 0 < length vs = l.0.3 in let all : length (state n limit h).values ≡ length vs = ap length l.0.2 in omega arith
  turns_legal (Free p k ∷ h) l = turns_legal h l.1
  turns_legal (Close p ∷ h) l = turns_legal h l.1
  turns_legal (Shut p ∷ h) l = turns_legal h l.1

module _ {T : Type 0} {n limit : ℕ} {m : Memory T} {g : Lists} {who : ℕ → Option ℕ} {lines : List (Line T)} {history : List (Event T)} (x : Good T n limit m g who lines history) where
  null_no_node : times NULL g.frees + times NULL g.stack ≡ 0
  null_no_node = omega (arith, x.linked.once NULL, not_below NULL n x.linked.small)

  -- a null top of the free list: every node has a value or is in some hand
  pub full_now : m.free.index ≡ NULL → IsFull (shape n limit) history
  full_now e =
      let no : g.frees ≡ [] = none_there m.link m.free.index g.frees e (omega (arith, null_no_node)) x.linked.free_stands in
      omega (arith, x.told.room, x.told.listed, ap length no)

  -- a null top of the stack
  pub empty_now : m.top.index ≡ NULL → IsEmpty (shape n limit) history
  empty_now e =
      let no : g.stack ≡ [] = none_there m.link m.top.index g.stack e (omega (arith, null_no_node)) x.linked.top_stands in
      no_values (state n limit history).values (subst (λ (is : List ℕ). HasValues m.home is (state n limit history).values) no x.filled.stored)
    where
      no_values : (vs : List T) → HasValues m.home [] vs → vs ≡ []
      no_values [] h = refl
      no_values (v ∷ vs) h = absurd h

  pub some_now : m.top.index ≢ NULL → IsEmpty (shape n limit) history → ⊥
  some_now ne e = let f = front_of m.link m.top.index g.stack NULL ne x.linked.top_stands in omega (arith, x.told.listed, ap length f.is, ap length e)

  pub closed_now : m.top.mark ≡ true → IsClosed (shape n limit) history
  closed_now e = sym x.told.closed ∙ e

  pub open_now : m.top.mark ≡ false → IsOpen (shape n limit) history
  open_now e = sym x.told.closed ∙ e

  pub gauged_now : IsGauged n limit m.top.mark m.top.tag history
  gauged_now = (sym x.told.closed, sym x.told.top_tag, x.told.top_limit)

  pub shut_now : m.top.second ≡ true → IsShut (shape n limit) history
  shut_now e = sym x.told.shut ∙ e

  pub unshut_now : m.top.second ≡ false → IsUnshut (shape n limit) history
  unshut_now e = sym x.told.shut ∙ e

  pub free_spent_now : limit ≤ m.free.tag → Justifies (shape n limit) history (PutSpent FreeWord m.free.tag)
  free_spent_now h = ((tt, (omega (arith, x.told.free_limit), sym x.told.free_tag)), omega (arith, x.told.free_tag))

  pub top_spent_now : limit ≤ m.top.tag → Justifies (shape n limit) history (PutSpent TopWord m.top.tag)
  top_spent_now h = ((tt, (omega (arith, x.told.top_limit), sym x.told.top_tag)), omega (arith, x.told.top_tag, x.told.spare, turns_legal n limit history x.told.legal))
