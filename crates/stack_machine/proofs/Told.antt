-- Each kind of step of the stack keeps what is told of its history.
use Rattle.std.proofs.Common.{◌≡◌, ℕ, suc, ◌+◌, ◌-◌, ◌<◌, ◌≤◌, false, List, [], ◌∷◌, ◌++◌, length, reverse, set, refl, sym, ap, ◌∙◌, ⊎_elim, arith}
use Rattle.std.proofs.lemmas.List.{length-append, length-reverse}
use mathlib.Core.Option.{Option, some}
use lib.ListN.{get_elem?}
use Rattle.bounded_model.specs.declared.history.Event.{Event}
use Rattle.bounded_model.specs.declared.history.Event.TheVariants.{Hold, Put, Take, TakeAll, Free, Close, Shut}
use Rattle.bounded_model.specs.Machine.{with_hand, without_first}
use Rattle.bounded_model.proofs.Hands.{with_hand-same, with_hand-other}
use Rattle.machine.specs.Words.{Tagged, raised, kept, marked, with_second}
use Rattle.stack_machine.specs.declared.lines.Line.{Line}
use Rattle.stack_machine.specs.Machine.{held}
use Rattle.stack_machine.specs.Answers.{state}
use Rattle.stack_machine.specs.Rule.{Lists, putting, Told}
use Rattle.machine.proofs.Hands.{hands_set}
use Rattle.machine.proofs.Sums.{total_set, total_one, at_set}

module _ {T : Type 0} where
  -- how many nodes a line holds, and how many of them for a put
  abbrev size : Line T → ℕ
  size l = length (held l)

  abbrev spent : Line T → ℕ
  spent l = length (putting l)

  length_rest : (values : List T) (v : T) (left : List T) → values ≡ v ∷ left → length (without_first values) ≡ length left
  length_rest values v left e = ap (λ (vs : List T). length (without_first vs)) e

  module _ {n limit : ℕ} {free top : Tagged} {g : Lists} {who : ℕ → Option ℕ} {lines : List (Line T)} {history : List (Event T)} where
    -- no event: the pass holds as many nodes as before, and no more of them for a put
    pub goes_told : (p : ℕ) (l l' : Line T) → get_elem? lines p ≡ some l → length (held l') ≡ length (held l) → length (putting l') ≤ length (putting l)
        → Told T n limit free top g who lines history → Told T n limit free top g who (set lines p l') history
    goes_told p l l' e same fewer t = record {
      legal = t.legal;
      room = t.room;
      out = omega (arith, t.out, total_set size lines p l l' e);
      listed = t.listed;
      hands = λ r x u at of. ⊎_elim (λ c. t.hands r x l (ap (get_elem? lines) c.0 ∙ e) of ∙ sym same ∙ ap (λ (y : Line T). length (held y)) c.1) (λ c. t.hands r x u c.1 of) (at_set lines p r l' u at);
      alone = t.alone;
      closed = t.closed;
      shut = t.shut;
      free_tag = t.free_tag;
      top_tag = t.top_tag;
      free_limit = t.free_limit;
      top_limit = t.top_limit;
      spare = omega (arith, t.spare, total_set spent lines p l l' e);
    }

    pub hold_told : (q p : ℕ) (l l' : Line T) (w : Tagged) (k : ℕ) (rest : List ℕ) → get_elem? lines q ≡ some l → who q ≡ some p → free ≡ w → w.tag < limit → g.frees ≡ w.index ∷ rest
        → length (held l') ≡ length (held l) + 1 → length (putting l') ≤ length (putting l) + 1
        → Told T n limit free top g who lines history → Told T n limit (raised w k) top (record { frees = rest; stack = g.stack }) who (set lines q l') (Hold p ∷ history)
    hold_told q p l l' w k rest e of won below is more putting_more t =
        let same : w.tag ≡ free.tag = ap (λ (x : Tagged). x.tag) (sym won) in
        let long : length g.frees ≡ suc (length rest) = ap length is in
        let hand = (state n limit history).hand in
        record {
          legal = (omega (arith, t.room, t.listed), t.legal);
          room = omega (arith, t.room);
          out = omega (arith, t.out, total_set size lines q l l' e);
          listed = t.listed;
          hands = hands_set size who lines hand (with_hand hand p (hand p + 1)) q p l' t.alone of t.hands (omega (arith, with_hand-same hand p (hand p + 1), t.hands q p l e of)) (with_hand-other hand p (hand p + 1));
          alone = t.alone;
          closed = t.closed;
          shut = t.shut;
          free_tag = omega (arith, t.free_tag);
          top_tag = t.top_tag;
          free_limit = omega arith;
          top_limit = t.top_limit;
          spare = omega (arith, t.spare, total_set spent lines q l l' e);
        }

    pub give_told : (q p : ℕ) (l l' : Line T) (w : Tagged) (chain : List ℕ) (x : ℕ) → get_elem? lines q ≡ some l → who q ≡ some p → free ≡ w → 0 < length chain → length (held l) ≡ length chain → length (held l') ≡ 0
        → length (putting l') ≤ length (putting l)
        → Told T n limit free top g who lines history → Told T n limit (kept w x) top (record { frees = chain ++ g.frees; stack = g.stack }) who (set lines q l') (Free p (length chain) ∷ history)
    give_told q p l l' w chain x e of won some_node mine none_left fewer t =
        let same : w.tag ≡ free.tag = ap (λ (y : Tagged). y.tag) (sym won) in
        let some_out = total_one size lines q l e in
        let hand = (state n limit history).hand in
        let k = length chain in
        record {
          legal = ((omega arith, omega (arith, t.hands q p l e of)), t.legal);
          room = omega (arith, t.room, t.out, length-append chain g.frees);
          out = omega (arith, t.out, total_set size lines q l l' e);
          listed = t.listed;
          hands = hands_set size who lines hand (with_hand hand p (hand p - k)) q p l' t.alone of t.hands (omega (arith, with_hand-same hand p (hand p - k), t.hands q p l e of)) (with_hand-other hand p (hand p - k));
          alone = t.alone;
          closed = t.closed;
          shut = t.shut;
          free_tag = omega (arith, t.free_tag);
          top_tag = t.top_tag;
          free_limit = omega (arith, t.free_limit);
          top_limit = t.top_limit;
          spare = omega (arith, t.spare, total_set spent lines q l l' e);
        }

    pub put_told : (q p : ℕ) (l l' : Line T) (w : Tagged) (chain : List ℕ) (vs : List T) (x : ℕ) → get_elem? lines q ≡ some l → who q ≡ some p → top ≡ w → w.mark ≡ false → w.tag < limit
        → 0 < length chain → length vs ≡ length chain → length (held l) ≡ length chain → length (putting l) ≡ length chain → length (held l') ≡ 0 → length (putting l') ≡ 0
        → Told T n limit free top g who lines history → Told T n limit free (raised w x) (record { frees = g.frees; stack = chain ++ g.stack }) who (set lines q l') (Put p vs w.tag ∷ history)
    put_told q p l l' w chain vs x e of won unmarked below some_node long mine mine_put none_left none_put t =
        let same : w.tag ≡ top.tag = ap (λ (y : Tagged). y.tag) (sym won) in
        let mark : w.mark ≡ top.mark = ap (λ (y : Tagged). y.mark) (sym won) in
        let second : w.second ≡ top.second = ap (λ (y : Tagged). y.second) (sym won) in
        let some_out = total_one size lines q l e in
        let s = state n limit history in
        let left = s.hand p - length vs in
        record {
          legal = ((sym t.closed ∙ sym mark ∙ unmarked, omega arith, omega (arith, t.hands q p l e of), omega (arith, t.top_tag)), t.legal);
          room = omega (arith, t.room, t.out, length-append chain g.stack);
          out = omega (arith, t.out, total_set size lines q l l' e);
          listed = omega (arith, t.listed, length-append chain g.stack, length-append (reverse vs) s.values, length-reverse vs);
          hands = hands_set size who lines s.hand (with_hand s.hand p left) q p l' t.alone of t.hands (omega (arith, with_hand-same s.hand p left, t.hands q p l e of)) (with_hand-other s.hand p left);
          alone = t.alone;
          closed = mark ∙ t.closed;
          shut = second ∙ t.shut;
          free_tag = t.free_tag;
          top_tag = omega (arith, t.top_tag);
          free_limit = t.free_limit;
          top_limit = omega arith;
          spare = omega (arith, t.spare, total_set spent lines q l l' e);
        }

    pub take_told : (q p : ℕ) (l l' : Line T) (w : Tagged) (k : ℕ) (rest : List ℕ) (v : T) (left : List T) → get_elem? lines q ≡ some l → who q ≡ some p → top ≡ w → w.second ≡ false → w.tag < limit
        → g.stack ≡ w.index ∷ rest → (state n limit history).values ≡ v ∷ left → length (held l) ≡ 0 → length (held l') ≡ 1 → length (putting l') ≤ length (putting l)
        → Told T n limit free top g who lines history → Told T n limit free (raised w k) (record { frees = g.frees; stack = rest }) who (set lines q l') (Take p v w.tag ∷ history)
    take_told q p l l' w k rest v left e of won unshut below is first none_yet one fewer t =
        let same : w.tag ≡ top.tag = ap (λ (y : Tagged). y.tag) (sym won) in
        let mark : w.mark ≡ top.mark = ap (λ (y : Tagged). y.mark) (sym won) in
        let second : w.second ≡ top.second = ap (λ (y : Tagged). y.second) (sym won) in
        let long : length g.stack ≡ suc (length rest) = ap length is in
        let s = state n limit history in
        record {
          legal = ((sym t.shut ∙ sym second ∙ unshut, (left, first), omega (arith, t.top_tag)), t.legal);
          room = omega (arith, t.room, t.out);
          out = omega (arith, t.out, total_set size lines q l l' e);
          listed = omega (arith, t.listed, ap length first, length_rest s.values v left first);
          hands = hands_set size who lines s.hand (with_hand s.hand p (s.hand p + 1)) q p l' t.alone of t.hands (omega (arith, with_hand-same s.hand p (s.hand p + 1), t.hands q p l e of)) (with_hand-other s.hand p (s.hand p + 1));
          alone = t.alone;
          closed = mark ∙ t.closed;
          shut = second ∙ t.shut;
          free_tag = t.free_tag;
          top_tag = omega (arith, t.top_tag);
          free_limit = t.free_limit;
          top_limit = omega arith;
          spare = omega (arith, t.spare, total_set spent lines q l l' e);
        }

    pub take_all_told : (q p : ℕ) (l l' : Line T) (w : Tagged) (k : ℕ) → get_elem? lines q ≡ some l → who q ≡ some p → top ≡ w → w.second ≡ false → w.tag < limit
        → 0 < length g.stack → length (held l) ≡ 0 → length (held l') ≡ length g.stack → length (putting l') ≤ length (putting l)
        → Told T n limit free top g who lines history → Told T n limit free (raised w k) (record { frees = g.frees; stack = [] }) who (set lines q l') (TakeAll p (state n limit history).values w.tag ∷ history)
    take_all_told q p l l' w k e of won unshut below some_node none_yet all fewer t =
        let same : w.tag ≡ top.tag = ap (λ (y : Tagged). y.tag) (sym won) in
        let mark : w.mark ≡ top.mark = ap (λ (y : Tagged). y.mark) (sym won) in
        let second : w.second ≡ top.second = ap (λ (y : Tagged). y.second) (sym won) in
        let s = state n limit history in
        let more = s.hand p + length s.values in
        record {
          legal = ((sym t.shut ∙ sym second ∙ unshut, tt, refl, omega (arith, t.listed), omega (arith, t.top_tag)), t.legal);
          room = omega (arith, t.room, t.out, t.listed);
          out = omega (arith, t.out, t.listed, total_set size lines q l l' e);
          listed = refl;
          hands = hands_set size who lines s.hand (with_hand s.hand p more) q p l' t.alone of t.hands (omega (arith, with_hand-same s.hand p more, t.hands q p l e of, t.listed)) (with_hand-other s.hand p more);
          alone = t.alone;
          closed = mark ∙ t.closed;
          shut = second ∙ t.shut;
          free_tag = t.free_tag;
          top_tag = omega (arith, t.top_tag);
          free_limit = t.free_limit;
          top_limit = omega arith;
          spare = omega (arith, t.spare, total_set spent lines q l l' e);
        }

    pub close_told : (q p : ℕ) (l l' : Line T) (w : Tagged) → get_elem? lines q ≡ some l → who q ≡ some p → top ≡ w → w.mark ≡ false → length (held l') ≡ length (held l) → length (putting l') ≤ length (putting l)
        → Told T n limit free top g who lines history → Told T n limit free (marked w) g who (set lines q l') (Close p ∷ history)
    close_told q p l l' w e of won unmarked same fewer t =
        let tag : w.tag ≡ top.tag = ap (λ (y : Tagged). y.tag) (sym won) in
        let mark : w.mark ≡ top.mark = ap (λ (y : Tagged). y.mark) (sym won) in
        let second : w.second ≡ top.second = ap (λ (y : Tagged). y.second) (sym won) in
        let s = state n limit history in
        record {
          legal = (sym t.closed ∙ sym mark ∙ unmarked, t.legal);
          room = t.room;
          out = omega (arith, t.out, total_set size lines q l l' e);
          listed = t.listed;
          hands = hands_set size who lines s.hand s.hand q p l' t.alone of t.hands (t.hands q p l e of ∙ sym same) (λ x ne. refl);
          alone = t.alone;
          closed = refl;
          shut = second ∙ t.shut;
          free_tag = t.free_tag;
          top_tag = omega (arith, t.top_tag);
          free_limit = t.free_limit;
          top_limit = omega (arith, t.top_limit);
          spare = omega (arith, t.spare, total_set spent lines q l l' e);
        }

    pub shut_told : (q p : ℕ) (l l' : Line T) (w : Tagged) → get_elem? lines q ≡ some l → who q ≡ some p → top ≡ w → w.second ≡ false → length (held l') ≡ length (held l) → length (putting l') ≤ length (putting l)
        → Told T n limit free top g who lines history → Told T n limit free (with_second w) g who (set lines q l') (Shut p ∷ history)
    shut_told q p l l' w e of won unshut same fewer t =
        let tag : w.tag ≡ top.tag = ap (λ (y : Tagged). y.tag) (sym won) in
        let mark : w.mark ≡ top.mark = ap (λ (y : Tagged). y.mark) (sym won) in
        let second : w.second ≡ top.second = ap (λ (y : Tagged). y.second) (sym won) in
        let s = state n limit history in
        record {
          legal = (sym t.shut ∙ sym second ∙ unshut, t.legal);
          room = t.room;
          out = omega (arith, t.out, total_set size lines q l l' e);
          listed = t.listed;
          hands = hands_set size who lines s.hand s.hand q p l' t.alone of t.hands (t.hands q p l e of ∙ sym same) (λ x ne. refl);
          alone = t.alone;
          closed = mark ∙ t.closed;
          shut = refl;
          free_tag = t.free_tag;
          top_tag = omega (arith, t.top_tag);
          free_limit = t.free_limit;
          top_limit = omega (arith, t.top_limit);
          spare = omega (arith, t.spare, total_set spent lines q l l' e);
        }
