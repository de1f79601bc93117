-- What the words that a pass finds tell of the history, so that its answer is right.
use Rattle.std.proofs.Common.{◌≡◌, ◌≢◌, ℕ, ◌+◌, ◌<◌, ◌≤◌, Bool, true, false, List, [], ◌∷◌, ◌++◌, length, refl, sym, ap, ◌∙◌, subst, ⊎_elim, arith}
use Rattle.std.proofs.lemmas.Bool.{false≢true}
use Rattle.std.proofs.lemmas.Bool.Decides.{eqb_tells}
use Rattle.std.proofs.lemmas.List.{length-append}
use mathlib.Core.Option.{Option, some}
use lib.ListN.{get_elem?}
use Rattle.tagged_index.specs.declared.word.TheConstants.{NULL}
use Rattle.bounded_model.specs.declared.answers.Word.TheVariants.{Cells as CellsWord, Next as NextWord}
use Rattle.bounded_model.specs.declared.history.Event.{Event}
use Rattle.bounded_model.specs.declared.history.Event.TheVariants.{Hold, Put, Take, TakeAll, Free, Close, Shut}
use Rattle.bounded_model.specs.Machine.{Shape, Legal}
use Rattle.bounded_model.specs.Machine as bounded
use Rattle.bounded_model.specs.Histories.{Later}
use Rattle.bounded_model.specs.Justified.{Sometime, IsClosed, IsUnshut, IsShut, IsFull, Justifies, PutSpent}
use Rattle.bounded_model.proofs.Histories.{Later-refl, Later-cons, is_nil}
use Rattle.bounded_model.proofs.Adding.{Sometime-now, Sometime-wider}
use Rattle.bounded_model.proofs.Staying.{closed_stays}
use Rattle.machine.specs.Words.{Tagged, times, Stands}
use Rattle.machine.proofs.Sums.{total_one}
use Rattle.machine.proofs.OneList.{none_there}
use Rattle.machine.proofs.Tests.{is_false}
use Rattle.queue_machine.specs.declared.lines.Placing.{Placing}
use Rattle.queue_machine.specs.declared.lines.Line.{Line}
use Rattle.queue_machine.specs.declared.lines.Line.TheVariants.{LoadNodes}
use Rattle.queue_machine.specs.Machine.{Memory, next_of}
use Rattle.queue_machine.specs.Answers.{shape, state, IsGauged}
use Rattle.queue_machine.specs.Rule.{Lists, Past, Ends, Spans, HasRoom, bare, wanting, EndTells, FrontTells, Good}
use Rattle.queue_machine.proofs.Chain.{chain_length, head_in, at_end, at_front, behind}
use Rattle.queue_machine.proofs.Linked.{no_null}
use Rattle.queue_machine.proofs.Told.{queued_length, puts_now}
use Rattle.queue_machine.proofs.Raises.{puts_within}

-- in a queue's history each value was put, and is there or was taken
module _ {T : Type 0} (n limit : ℕ) where
  pub balanced : (h : List (Event T)) → Legal (shape n limit) h → (state n limit h).puts ≡ (state n limit h).takes + length (state n limit h).values
  balanced [] l = refl
  balanced (Hold p ∷ h) l = balanced h l.1
  balanced (Put p vs k ∷ h) l = let r = balanced h l.1 in omega (arith, r, l.0.1, length-append (state n limit h).values vs)
  balanced (Take p v k ∷ h) l = let r = balanced h l.1 in let is = l.0.1.1 in omega (arith, r, ap length is, ap (λ (vs : List T). length (bounded.without_first vs)) is)
  balanced (TakeAll p vs k ∷ h) l = absurd l.0.1
  balanced (Free p k ∷ h) l = balanced h l.1
  balanced (Close p ∷ h) l = balanced h l.1
  balanced (Shut p ∷ h) l = balanced h l.1

-- two tests with the same outcome
pub same_truth : (a b : Bool) → (a ≡ true → b ≡ true) → (b ≡ true → a ≡ true) → a ≡ b
same_truth true b h k = sym (h refl)
same_truth false true h k = k refl
same_truth false false h k = refl

-- how the counts go on
module _ {T : Type 0} (c : Shape) where
  more_takes : (more h : List (Event T)) → (bounded.state c h).takes ≤ (bounded.state c (more ++ h)).takes
  more_takes [] h = omega arith
  more_takes (Hold p ∷ more) h = more_takes more h
  more_takes (Put p vs k ∷ more) h = more_takes more h
  more_takes (Take p v k ∷ more) h = let r = more_takes more h in omega arith
  more_takes (TakeAll p vs k ∷ more) h = let r = more_takes more h in omega arith
  more_takes (Free p k ∷ more) h = more_takes more h
  more_takes (Close p ∷ more) h = more_takes more h
  more_takes (Shut p ∷ more) h = more_takes more h

  pub takes_grow : {old new : List (Event T)} → Later old new → (bounded.state c old).takes ≤ (bounded.state c new).takes
  takes_grow {old} {new} later = subst (λ (h : List (Event T)). (bounded.state c old).takes ≤ (bounded.state c h).takes) (sym later.is) (more_takes later.more old)

  -- once closed, nothing more is put
  no_more_puts : (more h : List (Event T)) → Legal c (more ++ h) → IsClosed c h → (bounded.state c (more ++ h)).puts ≡ (bounded.state c h).puts
  no_more_puts [] h l k = refl
  no_more_puts (Hold p ∷ more) h l k = no_more_puts more h l.1 k
  no_more_puts (Put p vs n ∷ more) h l k = absurd (false≢true (sym l.0.0 ∙ closed_stays c (record { more = more; is = refl }) k))
  no_more_puts (Take p v n ∷ more) h l k = no_more_puts more h l.1 k
  no_more_puts (TakeAll p vs n ∷ more) h l k = no_more_puts more h l.1 k
  no_more_puts (Free p n ∷ more) h l k = no_more_puts more h l.1 k
  no_more_puts (Close p ∷ more) h l k = no_more_puts more h l.1 k
  no_more_puts (Shut p ∷ more) h l k = no_more_puts more h l.1 k

  pub puts_stay : {old new : List (Event T)} → Later old new → Legal c new → IsClosed c old → (bounded.state c new).puts ≡ (bounded.state c old).puts
  puts_stay {old} {new} later legal closed = subst (λ (h : List (Event T)). (bounded.state c h).puts ≡ (bounded.state c old).puts) (sym later.is) (no_more_puts later.more old (subst (Legal c) later.is legal) closed)

-- puts are made one by one: there was a moment with each number of them
module _ {T : Type 0} (c : Shape) (d : ℕ) where
  abbrev AtPuts : List (Event T) → Type 0
  AtPuts h = Legal c h × ((bounded.state c h).puts ≡ d)

  earlier : (e : Event T) (more h : List (Event T)) → Sometime h (more ++ h) AtPuts → Sometime h (e ∷ more ++ h) AtPuts
  earlier e more h s = Sometime-wider (Later-refl h) (Later-cons e (more ++ h)) s

  on_the_way : (more h : List (Event T)) → Legal c (more ++ h) → (bounded.state c h).puts ≤ d → d ≤ (bounded.state c (more ++ h)).puts → Sometime h (more ++ h) AtPuts
  on_the_way [] h l few many = Sometime-now (Later-refl h) (l, omega (arith, few, many))
  on_the_way (Put p vs k ∷ more) h l few many = ⊎_elim
      (λ t. Sometime-now (record { more = Put p vs k ∷ more; is = refl }) (l, sym t.1))
      (λ t. earlier (Put p vs k) more h (on_the_way more h l.1 few (let ne = t.1 in grind (arith, ne))))
      (eqb_tells d ((bounded.state c (more ++ h)).puts + 1))
  on_the_way (Hold p ∷ more) h l few many = earlier (Hold p) more h (on_the_way more h l.1 few many)
  on_the_way (Take p v k ∷ more) h l few many = earlier (Take p v k) more h (on_the_way more h l.1 few many)
  on_the_way (TakeAll p vs k ∷ more) h l few many = earlier (TakeAll p vs k) more h (on_the_way more h l.1 few many)
  on_the_way (Free p k ∷ more) h l few many = earlier (Free p k) more h (on_the_way more h l.1 few many)
  on_the_way (Close p ∷ more) h l few many = earlier (Close p) more h (on_the_way more h l.1 few many)
  on_the_way (Shut p ∷ more) h l few many = earlier (Shut p) more h (on_the_way more h l.1 few many)

  pub some_moment : {old new : List (Event T)} → Later old new → Legal c new → (bounded.state c old).puts ≤ d → d ≤ (bounded.state c new).puts → Sometime old new AtPuts
  some_moment {old} {new} later l few many = subst (λ (h : List (Event T)). Sometime old h AtPuts) (sym later.is)
      (on_the_way later.more old (subst (Legal c) later.is l) few (subst (λ (h : List (Event T)). d ≤ (bounded.state c h).puts) later.is many))

module _ {T : Type 0} {n limit : ℕ} {m : Memory T} {g : Lists} {who : ℕ → Option ℕ} {lines : List (Line T)} {history : List (Event T)} (x : Good T n limit m g who lines history) where
  -- a null top of the free cells: every cell has a value or is in some hand
  pub full_now : m.cells.index ≡ NULL → IsFull (shape n limit) history
  full_now e =
      let no : g.cells ≡ [] = none_there m.clink m.cells.index g.cells e (omega (arith, no_null x.linked)) x.linked.cells_stand in
      omega (arith, x.told.room, x.told.listed, ap length no)

  pub cells_spent_now : limit ≤ m.cells.tag → Justifies (shape n limit) history (PutSpent CellsWord m.cells.tag)
  cells_spent_now h = ((tt, (omega (arith, x.numbered.cells_limit), sym x.told.cells_tag)), omega (arith, x.told.cells_tag))

  -- a link's tag near the limit means many nodes taken, and as many cells
  pub next_spent_now : (j : ℕ) → HasRoom limit m g j → limit ≤ (m.next j).tag + 1 → Justifies (shape n limit) history (PutSpent (NextWord j) (m.next j).tag)
  next_spent_now j room h = ((tt, omega arith), omega (arith, room, h, x.numbered.nodes_tag, x.told.cells_tag))

  -- a pass that has a cell and wants a node finds one, whose top's tag is below the limit
  pub node_there : (q : ℕ) (put : Placing T) → get_elem? lines q ≡ some (LoadNodes put) → m.nodes.index ≢ NULL
  node_there q put e z =
      let no : g.nodes ≡ [] = none_there m.nlink m.nodes.index g.nodes z (omega (arith, no_null x.linked)) x.linked.nodes_stand in
      omega (arith, x.told.spare, ap length no, total_one bare lines q (LoadNodes put) e)

  pub node_below : (q : ℕ) (put : Placing T) → get_elem? lines q ≡ some (LoadNodes put) → m.nodes.tag < limit
  node_below q put e = omega (arith, x.numbered.nodes_tag, x.numbered.cells_limit, total_one wanting lines q (LoadNodes put) e)

  pub shut_now : m.head.second ≡ true → IsShut (shape n limit) history
  shut_now e = sym x.told.shut ∙ e

  pub unshut_now : m.head.second ≡ false → IsUnshut (shape n limit) history
  unshut_now e = sym x.told.shut ∙ e

  -- once closed, the tail is at the last node for good
  pub closed_tail : IsClosed (shape n limit) history → m.tail.tag ≡ (state n limit history).puts
  closed_tail h = puts_now x.linked.chained x.told (at_end x.linked.chained (omega (arith, no_null x.linked)) (x.linked.chained.tidy m.tail.index (x.told.closed_marked h)))

  -- a queue is gauged at its last node
  pub closed_gauged : (w : Tagged) → m.tail ≡ w → IsClosed (shape n limit) history → IsGauged n limit true w.tag history
  closed_gauged w won h = let tag : w.tag ≡ m.tail.tag = ap (λ (u : Tagged). u.tag) (sym won) in (h, sym (closed_tail h) ∙ sym tag, omega (arith, tag, closed_tail h, puts_within x))

  -- the tail's node, whose link is null, is the last
  pub open_gauged : (w y : Tagged) → Ends m.tail m.next w y → m.next w.index ≡ y → IsGauged n limit false w.tag history
  open_gauged w y f won =
      let at = f.last (ap (λ (u : Tagged). u.tag) (sym won)) in
      let here : m.next m.tail.index ≡ y = ap m.next (sym at.1) ∙ won in
      let all : (state n limit history).puts ≡ w.tag = sym (puts_now x.linked.chained x.told (at_end x.linked.chained (omega (arith, no_null x.linked)) (ap (λ (u : Tagged). u.index) here ∙ f.null))) ∙ sym at.0 in (
        is_false (state n limit history).closed (λ h. false≢true (sym f.unmarked ∙ ap (λ (u : Tagged). u.mark) (sym here) ∙ x.told.closed_marked h)),
        all,
        omega (arith, all, puts_within x),
      )

  -- what the link of a node tells of the end, where the tail was that node
  pub end_tells : (w : Tagged) → Past m.tail w → EndTells n limit history w (m.next w.index)
  end_tells w past = record {
    marked = x.told.marked_closed w.index;
    null = λ closed number null. ap (λ (i : ℕ). (m.next i).mark) (past.index (number ∙ sym (closed_tail closed))) ∙ x.told.closed_marked closed;
  }

  -- the tail is at the last node or at the one before
  pub puts_near : (m.tail.tag ≤ (state n limit history).puts) × ((state n limit history).puts ≤ m.tail.tag + 1)
  puts_near =
      let ch = x.linked.chained in
      (omega (arith, ch.place, x.told.head_tag, x.told.balance, x.told.listed, queued_length ch, chain_length ch), omega (arith, ch.place, ch.short, x.told.head_tag, x.told.balance, x.told.listed, queued_length ch, chain_length ch))

  -- as many were put as the tail w says, since no node stands behind that of w and no take was made
  pub puts_to_end : {h w : Tagged} → Spans m.head m.tail m.next g.chain h w → h.tag ≡ m.head.tag → next_of m w.index ≡ NULL → (state n limit history).puts ≡ w.tag
  puts_to_end s e null =
      let t = s.last e null in
      omega (arith, t, puts_now x.linked.chained x.told (at_end x.linked.chained (omega (arith, no_null x.linked)) (ap (next_of m) (sym (s.past.index t)) ∙ null)))

  -- or more, since one does
  pub puts_past : {h w : Tagged} → Spans m.head m.tail m.next g.chain h w → next_of m w.index ≢ NULL → w.tag + 1 ≤ (state n limit history).puts
  puts_past {h} {w} s node = ⊎_elim
      (λ t. let ch = x.linked.chained in
      let one = behind ch (λ z. node (ap (next_of m) (s.past.index t.1) ∙ z)) in
      omega (arith, t.1, ap length one, ch.place, x.told.head_tag, x.told.balance, x.told.listed, queued_length ch, chain_length ch))
      (λ t. let ne = t.1 in let low = s.past.tag in let near = puts_near.0 in grind (arith, ne))
      (eqb_tells w.tag m.tail.tag)

  -- the dummy alone
  only_dummy : next_of m m.head.index ≡ NULL → length g.chain ≡ 1
  only_dummy null = is_one g.chain x.linked.chained.stands (omega (arith, no_null x.linked)) (head_in x.linked.chained)
    where
      is_one : (chain : List ℕ) → Stands (next_of m) m.head.index chain → times NULL chain ≡ 0 → 0 < times m.head.index chain → length chain ≡ 1
      is_one [] stands never some_node = absurd (omega arith)
      is_one (i ∷ is) stands never some_node =
          let rest : is ≡ [] = none_there (next_of m) (next_of m i) is (ap (next_of m) (sym stands.0) ∙ null) (omega arith) stands.1 in
          omega (arith, ap length rest)

  more_than_dummy : next_of m m.head.index ≢ NULL → 1 < length g.chain
  more_than_dummy node = is_more g.chain x.linked.chained.stands (head_in x.linked.chained)
    where
      is_more : (chain : List ℕ) → Stands (next_of m) m.head.index chain → 0 < times m.head.index chain → 1 < length chain
      is_more [] stands some_node = absurd (omega arith)
      is_more (i ∷ []) stands some_node = absurd (node (ap (next_of m) stands.0 ∙ stands.1))
      is_more (i ∷ j ∷ js) stands some_node = omega arith

  -- what the link of a node tells of the front, where the head was that node
  pub front_tells : (h : Tagged) → Past m.head h → FrontTells n limit history h (m.next h.index)
  front_tells h past = record {
    since = omega (arith, past.tag, x.told.head_tag);
    tidy = x.linked.chained.tidy h.index;
    null = λ number null.
        let at : h.index ≡ m.head.index = past.index (omega (arith, number, x.told.head_tag)) in
        let one = only_dummy (ap (next_of m) (sym at) ∙ null) in
        let alone : m.tail.index ≡ m.head.index = at_front x.linked.chained (omega (arith, one, chain_length x.linked.chained, x.linked.chained.place)) in
        let same : (m.next h.index).mark ≡ (m.next m.tail.index).mark = ap (λ (i : ℕ). (m.next i).mark) (at ∙ sym alone) in (
          is_nil (state n limit history).values (omega (arith, one, queued_length x.linked.chained, x.told.listed)),
          same ∙ same_truth (m.next m.tail.index).mark (state n limit history).closed (x.told.marked_closed m.tail.index) x.told.closed_marked,
        );
    node = λ number node empty.
        let at : h.index ≡ m.head.index = past.index (omega (arith, number, x.told.head_tag)) in
        let more = more_than_dummy (λ z. node (ap (next_of m) at ∙ z)) in
        absurd (omega (arith, more, queued_length x.linked.chained, x.told.listed, ap length empty));
  }
