-- A step of the stack keeps what its line tells of the history, and adds only events of its own pass.
use Rattle.std.proofs.Common.{◌≡◌, ◌≢◌, ℕ, Bool, true, false, cond, eqb, ltb, leb, List, ◌∷◌, ◌++◌, length, reverse, refl, sym, ◌∙◌, arith, eqb-true}
use Rattle.std.proofs.lemmas.Bool.Decides.{nat_tests}
use Rattle.std.specs.Prelude.{Option as Slot, Some, None, Ok, Err}
use mathlib.Core.Option.{Option, none, some}
use Rattle.tagged_index.specs.declared.word.TheConstants.{NULL}
use Rattle.bounded_model.specs.declared.answers.Word.TheVariants.{Free as FreeWord, Top as TopWord}
use Rattle.bounded_model.specs.declared.answers.PutRefused.TheVariants.{Full as PutFull, Closed as PutClosed, Spent as PutSpent}
use Rattle.bounded_model.specs.declared.answers.TakeRefused.TheVariants.{Empty as TakeEmpty, Closed as TakeClosed, Spent as TakeSpent, Shut as TakeShut}
use Rattle.bounded_model.specs.declared.answers.TakeRefused.{TakeRefused}
use Rattle.bounded_model.specs.declared.history.Event.{Event}
use Rattle.bounded_model.specs.declared.history.Event.TheVariants.{Hold, Put, Take, TakeAll, Free, Close, Shut}
use Rattle.bounded_model.specs.Machine.{Shape}
use Rattle.bounded_model.specs.Histories.{Later, own, pass_of}
use Rattle.bounded_model.specs.Justified.{Sometime, Justifies, IsFull, take_answer, Looked}
use Rattle.bounded_model.proofs.Histories.{Later-refl, Later-cons, Later-trans, own-other}
use Rattle.bounded_model.proofs.Adding.{Sometime-now, Sometime-wider}
use Rattle.bounded_model.proofs.Staying.{open_before}
use Rattle.machine.specs.Words.{Tagged}
use Rattle.stack_machine.specs.declared.lines.Putting.{Putting}
use Rattle.stack_machine.specs.declared.lines.Direction.{Direction}
use Rattle.stack_machine.specs.declared.lines.Direction.TheVariants.{Down, Up}
use Rattle.stack_machine.specs.declared.lines.Taking.{Taking}
use Rattle.stack_machine.specs.declared.lines.Taking.TheVariants.{One, Whole}
use Rattle.stack_machine.specs.declared.lines.Answer.{Answer}
use Rattle.stack_machine.specs.declared.lines.Answer.TheVariants.{Put as AnswerPut, Take as AnswerTake, Fold as AnswerFold, Close as AnswerClose, Shut as AnswerShut}
use Rattle.stack_machine.specs.declared.lines.Line.{Line}
use Rattle.stack_machine.specs.declared.lines.Line.TheVariants.{Idle, LoadFree, LoadFreeLink, TakeFree, LinkTaken, LoadTop, LinkToTop, SwapTop, LoadTopToRefuse, LoadTopToTake, TakeTop, TakeChain, LoadLinkToTurn, TurnLink, LoadLinkToFold, LoadFreeToGive, LinkToFree, GiveBack, LoadTopToClose, MarkTop, LoadTopToShut, ShutTop, LoadTopToLook, LoadTopToGauge}
use Rattle.stack_machine.specs.Machine.{Memory, memories, table, Outcome, placed, with_node, ends, gives, next_node, no_node, at_load_free, at_load_top, at_load_top_to_refuse, at_load_top_to_take, refuses, takes, at_take_free, at_take_chain, wins_value, step}
use Rattle.machine.specs.Chains.{chain_from, values_in}
use Rattle.stack_machine.specs.Answers.{shape, IsRight}
use Rattle.stack_machine.specs.Rule.{Lists, Tells, Good}
use Rattle.machine.proofs.Tests.{cases}
use Rattle.machine.proofs.Program.{Cases, by_cases, Apart, adds_own}
use Rattle.stack_machine.proofs.Answers.{full_now, empty_now, some_now, closed_now, open_now, gauged_now, shut_now, unshut_now, free_spent_now, top_spent_now}

module _ {T : Type 0} where
  -- an answer that was right stays so when its pass has seen more
  pub right_wider : (n limit : ℕ) (begun seen newer : List (Event T)) (a : Answer T) → Later seen newer → IsRight n limit begun seen a → IsRight n limit begun newer a
  right_wider n limit begun seen newer (AnswerPut (Ok done)) l r = tt
  right_wider n limit begun seen newer (AnswerTake (Ok done)) l r = tt
  right_wider n limit begun seen newer (AnswerFold (Ok done)) l r = tt
  right_wider n limit begun seen newer (AnswerClose true) l r = tt
  right_wider n limit begun seen newer (AnswerShut true) l r = tt
  right_wider n limit begun seen newer a l r = Sometime-wider (Later-refl begun) l r

  module _ {n limit : ℕ} {m : Memory T} {g : Lists} {who : ℕ → Option ℕ} {lines : List (Line T)} {history : List (Event T)} (x : Good T n limit m g who lines history) (p : ℕ)
      (begun seen : List (Event T)) (before : Later begun seen) (now : Later seen history) where
    since : Later begun history
    since = Later-trans before now

    no_node_tells : (put : Putting T) (refused : Line T) → Tells n limit begun history refused → Tells n limit begun history (no_node put refused)
    no_node_tells put refused t = cases (Tells n limit begun history) (eqb (length put.chain) 0) refused (LoadTop put) (λ h. t) (λ h. tt)

    next_node_tells : (newer : List (Event T)) (put : Putting T) → Tells n limit begun newer (next_node put)
    next_node_tells newer put = cases (Tells n limit begun newer) (ltb (length put.chain) (length put.values)) (LoadFree put) (LoadTop put) (λ h. tt) (λ h. tt)

    at_take_free_tells : (newer : List (Event T)) (put : Putting T) (w : Tagged) → Tells n limit begun newer (at_take_free put w)
    at_take_free_tells newer put w = cases (Tells n limit begun newer) (eqb (length put.chain) 0) (next_node (with_node put w.index)) (LinkTaken (with_node put w.index)) (λ h. next_node_tells newer (with_node put w.index)) (λ h. tt)

    load_free_tells : (put : Putting T) → Tells n limit begun history (at_load_free limit put m.free)
    load_free_tells put =
        let refused : Line T = ends (AnswerPut (Err (PutSpent put.values FreeWord m.free.tag))) in
        cases (Tells n limit begun history) (eqb m.free.index NULL) (no_node put (LoadTopToRefuse put.values)) (cond (leb limit m.free.tag) (no_node put refused) (LoadFreeLink put m.free))
        (λ h. no_node_tells put (LoadTopToRefuse put.values) (Sometime-now since (full_now x (eqb-true m.free.index NULL h))))
        (λ h. cases (Tells n limit begun history) (leb limit m.free.tag) (no_node put refused) (LoadFreeLink put m.free)
        (λ h'. no_node_tells put refused (Sometime-now since (free_spent_now x (grind (arith, nat_tests)))))
        (λ h'. tt))

    load_top_tells : (put : Putting T) → Tells n limit begun history (at_load_top limit put m.top)
    load_top_tells put =
        let closed : Line T = gives put.chain (AnswerPut (Err (PutClosed put.values))) in
        let spent : Line T = gives put.chain (AnswerPut (Err (PutSpent put.values TopWord m.top.tag))) in
        cases (Tells n limit begun history) m.top.mark closed (cond (leb limit m.top.tag) spent (LinkToTop put m.top))
        (λ h. Sometime-now since (closed_now x h))
        (λ h. cases (Tells n limit begun history) (leb limit m.top.tag) spent (LinkToTop put m.top)
        (λ h'. Sometime-now since (top_spent_now x (grind (arith, nat_tests))))
        (λ h'. tt))

    load_top_to_refuse_tells : (values : List T) → Sometime begun seen (IsFull (shape n limit)) → Tells n limit begun history (at_load_top_to_refuse limit values m.top)
    load_top_to_refuse_tells values t =
        let closed : Line T = ends (AnswerPut (Err (PutClosed values))) in
        let spent : Line T = ends (AnswerPut (Err (PutSpent values TopWord m.top.tag))) in
        let full : Line T = ends (AnswerPut (Err (PutFull values))) in
        let until : Later t.at history = Later-trans t.until now in
        cases (Tells n limit begun history) m.top.mark closed (cond (leb limit m.top.tag) spent full)
        (λ h. Sometime-now since (closed_now x h))
        (λ h. cases (Tells n limit begun history) (leb limit m.top.tag) spent full
        (λ h'. Sometime-now since (top_spent_now x (grind (arith, nat_tests))))
        (λ h'. record { at = t.at; since = t.since; until = until; holds = (t.holds, open_before (shape n limit) until (open_now x h)) }))

    refused_tells : (taking : Taking) (why : TakeRefused) → Sometime begun history (λ h. Justifies (shape n limit) h (take_answer why)) → Tells n limit begun history (refuses taking why)
    refused_tells One why t = t
    refused_tells (Whole d) why t = t

    takes_tells : (taking : Taking) → Tells n limit begun history (takes taking m.top)
    takes_tells One = tt
    takes_tells (Whole d) = tt

    none_tells : m.top.second ≡ false → m.top.index ≡ NULL → Sometime begun history (λ h. Justifies (shape n limit) h (take_answer (cond m.top.mark TakeClosed TakeEmpty)))
    none_tells unshut e =
        cases (λ why. Sometime begun history (λ h. Justifies (shape n limit) h (take_answer why))) m.top.mark TakeClosed TakeEmpty
        (λ h. Sometime-now since (empty_now x e, closed_now x h, unshut_now x unshut))
        (λ h. Sometime-now since (empty_now x e, open_now x h, unshut_now x unshut))

    load_top_to_take_tells : (taking : Taking) → Tells n limit begun history (at_load_top_to_take limit taking m.top)
    load_top_to_take_tells taking =
        let none_there : Line T = refuses taking (cond m.top.mark TakeClosed TakeEmpty) in
        let spent : Line T = refuses taking (TakeSpent TopWord m.top.tag) in
        cases (Tells n limit begun history) m.top.second (refuses taking TakeShut) (cond (eqb m.top.index NULL) none_there (cond (leb limit m.top.tag) spent (takes taking m.top)))
        (λ h. refused_tells taking TakeShut (Sometime-now since (shut_now x h)))
        (λ h. cases (Tells n limit begun history) (eqb m.top.index NULL) none_there (cond (leb limit m.top.tag) spent (takes taking m.top))
        (λ h'. refused_tells taking (cond m.top.mark TakeClosed TakeEmpty) (none_tells h (eqb-true m.top.index NULL h')))
        (λ h'. cases (Tells n limit begun history) (leb limit m.top.tag) spent (takes taking m.top)
        (λ b. let worn = top_spent_now x (grind (arith, nat_tests)) in refused_tells taking (TakeSpent TopWord m.top.tag) (Sometime-now since (worn.0, worn.1, unshut_now x h)))
        (λ b. takes_tells taking)))

    value_tells : (w : Tagged) (k : ℕ) (o : Option (Slot T)) → let out = wins_value m p w k o in Tells n limit begun (out.events ++ history) out.line
    value_tells w k none = tt
    value_tells w k (some None) = tt
    value_tells w k (some (Some v)) = tt

    chain_tells : (newer : List (Event T)) (d : Direction) (w : Tagged) (chain : List ℕ) (values : List T) → Tells n limit begun newer (at_take_chain d w chain values)
    chain_tells newer Down w chain values = tt
    chain_tells newer Up w chain values = tt

    look_tells : (b : Bool) → eqb m.top.index NULL ≡ b → Sometime begun history (λ h. Justifies (shape n limit) h (Looked b))
    look_tells true e = Sometime-now since (empty_now x (eqb-true m.top.index NULL e))
    look_tells false e = Sometime-now since (some_now x (λ z. grind (arith, nat_tests)))

    -- what an outcome tells of the history with its events
    abbrev Told : Outcome T → Type 0
    Told o = Tells n limit begun (o.events ++ history) o.line

    told : (l : Line T) → Tells n limit begun seen l → Cases memories (Idle None) m p Told l (table (shape n limit) l)
    told (Idle (Some a)) t = right_wider n limit begun seen history a now t
    told (LoadFree put) t = load_free_tells put
    told (TakeFree put w k) t = (λ won. at_take_free_tells (Hold p ∷ history) put w, tt)
    told (LinkTaken put) t = next_node_tells history put
    told (LoadTop put) t = load_top_tells put
    told (SwapTop put w) t = (λ won. tt, tt)
    told (LoadTopToRefuse values) t = load_top_to_refuse_tells values t
    told (LoadTopToTake taking) t = load_top_to_take_tells taking
    told (TakeTop w k) t = (λ won. value_tells w k (m.home w.index), tt)
    told (TakeChain d w) t =
        let chain = chain_from n m.link w.index in
        (λ won. chain_tells (TakeAll p (values_in m.home chain) w.tag ∷ history) d w chain (values_in m.home chain), tt)
    told (LoadLinkToTurn give lowest i) t = right_wider n limit begun seen history give.answer now t
    told (TurnLink give lowest i k) t =
        let r = right_wider n limit begun seen history give.answer now t in
        cases (Tells n limit begun history) (eqb k NULL) (LoadLinkToFold (record give { chain = reverse give.chain }) i) (LoadLinkToTurn give i k) (λ h. r) (λ h. r)
    told (LoadLinkToFold give i) t =
        let r = right_wider n limit begun seen history give.answer now t in
        cases (Tells n limit begun history) (eqb (m.link i) NULL) (LoadFreeToGive give) (LoadLinkToFold give (m.link i)) (λ h. r) (λ h. r)
    told (LoadFreeToGive give) t = right_wider n limit begun seen history give.answer now t
    told (LinkToFree give w) t = right_wider n limit begun seen history give.answer now t
    told (GiveBack give w) t =
        let freed : Event T = Free p (length give.chain) in (
          λ won. right_wider n limit begun seen (freed ∷ history) give.answer (Later-trans now (Later-cons freed history)) t,
          right_wider n limit begun seen history give.answer now t,
        )
    told LoadTopToClose t = cases (Tells n limit begun history) m.top.mark (ends (AnswerClose false)) (MarkTop m.top) (λ h. Sometime-now since (closed_now x h)) (λ h. tt)
    told (MarkTop w) t = (λ won. tt, tt)
    told LoadTopToShut t = cases (Tells n limit begun history) m.top.second (ends (AnswerShut false)) (ShutTop m.top) (λ h. Sometime-now since (shut_now x h)) (λ h. tt)
    told (ShutTop w) t = (λ won. tt, tt)
    told LoadTopToLook t = look_tells (eqb m.top.index NULL) refl
    told LoadTopToGauge t = Sometime-now since (gauged_now x)
    told l t = tt

    pub tells_kept : (l : Line T) → Tells n limit begun seen l → let o = step (shape n limit) m p l in Tells n limit begun (o.events ++ history) o.line
    tells_kept l t = by_cases memories (Idle None) m p Told l (table (shape n limit) l) (told l t)

-- each event of a step is of the pass that makes it
module _ {T : Type 0} (c : Shape) (m : Memory T) (p q : ℕ) (other : q ≢ p) (history : List (Event T)) where
  another : (e : Event T) → pass_of e ≡ p → own q (e ∷ history) ≡ own q history
  another e mine = own-other q e history (λ z. other (sym z ∙ mine))

  took_apart : (w : Tagged) (k : ℕ) (o : Option (Slot T)) → own q ((wins_value m p w k o).events ++ history) ≡ own q history
  took_apart w k none = refl
  took_apart w k (some None) = refl
  took_apart w k (some (Some v)) = another (Take p v w.tag) refl

  apart : (l : Line T) → Apart memories (Idle None) m p q history (table c l)
  apart (TakeFree put w k) = another (Hold p) refl
  apart (SwapTop put w) = another (Put p (placed put) w.tag) refl
  apart (TakeTop w k) = took_apart w k (m.home w.index)
  apart (TakeChain d w) = another (TakeAll p (values_in m.home (chain_from c.capacity m.link w.index)) w.tag) refl
  apart (GiveBack give w) = another (Free p (length give.chain)) refl
  apart (MarkTop w) = another (Close p) refl
  apart (ShutTop w) = another (Shut p) refl
  apart l = tt

  pub step_apart : (l : Line T) → own q ((step c m p l).events ++ history) ≡ own q history
  step_apart l = adds_own memories (Idle None) m p q history l (table c l) (apart l)
