-- `open_mut` lends what is behind a full handle, and the handle follows it.
use mathlib.Core.Path.{◌≡◌, refl, sym, subst}
use Prim.Native.Nat.{ℕ}
use mathlib.Core.List.{List, [], ◌∷◌}
use mathlib.Core.Bool.{Bool, true}
use seplogic.Ra.Ura.{Ura}
use base.Fraction.{full_share}
use mir.Syntax.{Body, named, seq, assign, return, place, copy, rv_opd}
use mir.Raw.{raw as bare}
use mir.Val.{Val, vptr}
use base.Logic.{SProp, ent, sep, id⊢}
use base.Fml.{GName, Fml, ftrue, fsep, flft}
use prog.Memory.{Memory}
use prog.Routine.{Routine}
use prog.Wp.{Env, WpFn, Tables}
use types.Logic.{Logic, sem}
use contract.Monad.{Fun, fact}
use contract.Running.{tables, tables_of}
use sound.WpLaws.{WpFn-mono}
use types.Kit.{‵, raw, ◌⊛◌, some, later, at_ret, ◌$◌, ◌∵◌, !, qed, move, keep, drop, use1, join, split, split3, group, pick, rewrite, fsplit, fsplit3, fjoin, fpack, suffices, frame, await, done}
use types.Part.{whole, sub, look_in}
use types.Run.{stop, fld, addr, load, of_opd, first, blocks, exec, returns, enter}
use types.ByLocal.{alloc_all, pass_all, free_all, look_at, get, through, sets, sets_last, env}
use denote.RattleType.{RattleType, owns}
use denote.Exit.{no}
use denote.Follow.{follows, Part, lends_Part}
use denote.Memory.{part_at, part_of, raw_all, mem, cell_at}
use denote.Param.{param}
use denote.RawPtr.{block_ptr}
use denote.Ref.{MutRef, mut_vals, mut_Tells}
use denote.Signature.{plain, mut_ref_to}
use denote.Steps.{heard, nothing, opens}
use denote.Triple.Spec.{triple_of}
use denote.Triple.Table.{entered}
use denote.Triple.Walked.{says, Stays, stay_dropped, walk_of, ends_at, walked, walk_Meets, Goes-spent_ref}
use Rattle.core.proofs.alloc.Calls.{token}
use Rattle.std_alloc.proofs.BoxSteps.Form.{D, B, τ, word, handle}
use Rattle.std_alloc.proofs.BoxSteps.Steps.{box_out, box_in}
use Rattle.lockfree_c.specs.Lending.{with_held}
use Rattle.lockfree_c.specs.contracts.held.Held as Held
use Rattle.lockfree_c.specs.contracts.handle.Handle as Handle
use Rattle.lockfree_c.proofs.AsBox.{E}
use Rattle.lockfree_c.specs.contracts.handle.Handle.open_mut as F
use Rattle.lockfree_c.specs.contracts.handle.Handle.open_mut.Key.{name as #self}
use Rattle.lockfree_c.proofs.handle.Handle.open_mut.Statement as stated
use Rattle.lockfree_c.proofs.handle.Handle.open_mut.Code as code

abbrev Row : RattleType
Row = Handle.the_row

abbrev stayed : Stays (F.ended).signature.params (F.ended).kept
stayed = (stay_dropped (mut_ref_to (0 ∷ []) tt (plain (λ _. Row))) no, tt)

abbrev Behind : RattleType
Behind = Held.the_row

abbrev rest : Body
rest = seq (assign (place 0 []) (rv_opd (copy (place 2 [])))) return

-- a handle as the box that it owns where it is full
abbrev boxed : Row.Denot → D E
boxed h = record { ptr = h.at; alloc = h.alloc; value = h.held }

as_param : (x : Behind.Denot) (b o : ℕ) → part_at Behind full_share x b o ≡ part_at (param 0 Behind) full_share x b o
as_param x b o j = part_of (raw_all (E.laws.one j)) Behind.own_val full_share x b o

module _ {M : Type 1} {𝓤 : Ura M} (𝓛 : Logic 𝓤) where
  owned : (h : Row.Denot) (vs : List Val) → h.full ≡ true → ent 𝓤 (sem 𝓛 (Row.own_val h vs)) (sem 𝓛 ((B E).own_val (boxed h) vs))
  owned h vs full = subst (λ (f : Bool). ent 𝓤 (sem 𝓛 (Row.own_val (record { at = h.at; alloc = h.alloc; full = f; held = h.held }) vs)) (sem 𝓛 ((B E).own_val (boxed h) vs))) (sym full) (id⊢ 𝓤 _)

  owns_again : (h : Row.Denot) (vs : List Val) → h.full ≡ true → ent 𝓤 (sem 𝓛 ((B E).own_val (boxed h) vs)) (sem 𝓛 (Row.own_val h vs))
  owns_again h vs full = subst (λ (f : Bool). ent 𝓤 (sem 𝓛 ((B E).own_val (boxed h) vs)) (sem 𝓛 (Row.own_val (record { at = h.at; alloc = h.alloc; full = f; held = h.held }) vs))) (sym full) (id⊢ 𝓤 _)

  module _ (h : Row.Denot) (b o b' o' : ℕ) (hv : Val) where
    -- all of the handle but what is behind it
    abbrev Rest : Fml
    Rest = fsep (fsep (token E.al h.alloc (bare (τ E)) (block_ptr b' o')) (handle E h.alloc hv)) (cell_at full_share Row.mir (word E hv b' o' ∷ []) b o)

    back : h.full ≡ true → h.at ≡ block_ptr b' o' → (w : Behind.Denot) → ent 𝓤 (sep 𝓤 (sem 𝓛 ((mem Behind).own_at w b' o')) (sem 𝓛 Rest)) (sem 𝓛 ((mem Row).own_at (with_held h w) b o))
    unfolding part_of
    back full e w =
        qed 𝓛 (‵ (part_at Behind full_share w b' o') ∷ ‵ Rest ∷ []) ∵ rewrite ! 0 (λ (P : Fml). ‵ P) (as_param w b' o') refl $ move ! (1 ∷ []) $ fsplit ! $ fsplit ! $ move ! (3 ∷ []) $
        box_in E ! (boxed (with_held h w)) b' o' w e refl $ use1 𝓛 (‵ (Row.own_val (with_held h w) (word E hv b' o' ∷ []))) (owns_again (with_held h w) (word E hv b' o' ∷ []) full) $ move ! (1 ∷ 0 ∷ []) $ fjoin ! $
        fpack ! (List Val) (λ us. fsep (cell_at full_share Row.mir us b o) (Row.own_val (with_held h w) us)) (word E hv b' o' ∷ []) $ done !

module _ {M : Type 1} {𝓤 : Ura M} (𝓛 : Logic 𝓤) (at_mem : Memory → SProp 𝓤) (run : Routine → Fun 𝓤) (𝓣 : Tables 𝓤 𝓛.H) where
  open 𝓛 use {H}

  abbrev at : (walk_of 𝓛 F.ended stayed (F.clauses 𝓛 at_mem run)).Ghost → (walk_of 𝓛 F.ended stayed (F.clauses 𝓛 at_mem run)).Ghost
  at y = ((y.0.0, y.0.1, y.0.2, y.0.3, (mut_vals y.0.3.0, tt)), y.1)

  walk : (y : (walk_of 𝓛 F.ended stayed (F.clauses 𝓛 at_mem run)).Ghost)
      → ent 𝓤 ((walk_of 𝓛 F.ended stayed (F.clauses 𝓛 at_mem run)).pre (at y)) (WpFn 𝓤 H 𝓣.C 𝓣.Λ code.function (mut_vals y.0.3.0) ((walk_of 𝓛 F.ended stayed (F.clauses 𝓛 at_mem run)).post (at y)))
  walk y =
      let κs = y.0.0 in let qs = y.0.1 in let self = y.0.3.0 in let Post = (walk_of 𝓛 F.ended stayed (F.clauses 𝓛 at_mem run)).post (at y) in
      let κ = κs.0 in let q = qs.0 in let h = self.now in let b = self.ref_ptr.0 in let o = self.ref_ptr.1 in let γ = self.ghost_name in
      let c = Row.coded.code h in
      qed 𝓛 (((‵ (flft κ q) ⊛ ‵ ftrue) ⊛ ‵ (owns (MutRef (named 0) κ Row ∷ []) (self, tt) (vptr b o ∷ [], tt))) ∷ raw (fact 𝓤 (h.full ≡ true)) ∷ []) ∵ move ! (1 ∷ []) $ heard ! (h.full ≡ true) (λ full.
      enter ! 𝓣.C 𝓣.Λ code.function (vptr b o ∷ []) _ $ alloc_all ! (λ ls. pass_all ! refl ((tt, tt), tt) $ let En : Env 𝓤 H = env (code.function).locals ls in
      split ! $ split ! $ move ! (2 ∷ []) $ fsplit ! $ fsplit3 ! $ drop ! $ move ! (0 ∷ 1 ∷ 3 ∷ []) $
      opens ! tt Row {h = h} b o (λ vs. move ! (1 ∷ []) $ use1 𝓛 (‵ ((B E).own_val (boxed h) vs)) (owned 𝓛 h vs full) $
      box_out E ! (boxed h) vs (λ b' o' hv e ws fa. rewrite ! 3 (λ (us : List Val). ‵ (cell_at full_share Row.mir us b o)) ws refl $
      -- [what is behind; the token; the allocator; the word; the open borrow; obs; auth; true; the tokens]
      first ! $ blocks ! $ sets ! (of_opd ! (load ! (through ! refl (fld ! refl (stop !))) (look_in ! 3 (sub ! 0 refl (whole !))))) refl (tt, tt) $ sets ! (of_opd ! (get ! refl)) refl (tt, tt) $
      sets_last ! (addr ! (through ! refl (stop !))) refl (tt, tt) $ exec ! 𝓣.C 𝓣.Λ En rest (at_ret En Post) $ sets ! (of_opd ! (get ! refl)) refl (tt, tt) $
      rewrite ! 0 (λ (P : Fml). ‵ P) (sym (as_param h.held b' o')) refl $ move ! (1 ∷ 2 ∷ []) $ fjoin ! $ move ! (0 ∷ 2 ∷ []) $ fjoin ! $ move ! (2 ∷ 3 ∷ 4 ∷ 1 ∷ 0 ∷ []) $ group ! 5 $
      use1 𝓛 (later (some (λ (γ' : GName). raw (Part 𝓛 Row Behind (with_held h) (named 0) κ q b o b' o' γ (sem 𝓛 (Rest 𝓛 h b o b' o' hv)) (back 𝓛 h b o b' o' hv full e) h.held γ'))))
      (lends_Part 𝓛 Row Behind (with_held h) (named 0) κ q b o b' o' γ (sem 𝓛 (Rest 𝓛 h b o b' o' hv)) (back 𝓛 h b o b' o' hv full e) c c h.held) $ await ! tt $ pick ! (λ γ'.
      use1 𝓛 (‵ ((MutRef (named 0) κ Behind).own_val (record { ref_ptr = (b', o'); ghost_name = γ'; now = h.held }) (vptr b' o' ∷ [])) ⊛ ‵ (flft κ q) ⊛ ‵ (follows Row Behind γ γ' (with_held h))) (id⊢ 𝓤 _) $ split3 ! $
      returns ! (look_at ! 0 refl) $ free_all ! refl $ keep ! (0 ∷ 1 ∷ 2 ∷ []) $
      suffices ! _ (ends_at 𝓛 F.ended stayed (F.clauses 𝓛 at_mem run) (at y) (vptr b' o') (record { ref_ptr = (b', o'); ghost_name = γ'; now = h.held }) (tt, tt) (tt, tt)) $
      nothing ! $ nothing ! $ fjoin ! $ join ! $ nothing ! $ move ! (2 ∷ 0 ∷ []) $ join ! $ join ! $ frame ! $ says ! refl $ done !)))))

pub open_mut_spec : {M : Type 1} → stated.statement M
unfolding tables_of
open_mut_spec 𝓤 𝓛 𝓜 𝓡 wired =
    let 𝓣 : Tables 𝓤 𝓛.H = tables_of 𝓤 𝓛.H 𝓜 (tables 𝓤 𝓛.H 𝓜 𝓡 𝓡.env) in
    let c = F.clauses 𝓛 𝓜.mem 𝓡.returns in
    entered 𝓤 𝓛.H (triple_of 𝓛 F.signature (F.spec 𝓛 𝓜.mem 𝓡.returns)) 𝓣.C 𝓣.Λ #self code.function (code.unfolded 𝓤 𝓛.H 𝓜 𝓡 wired)
    (walk_Meets 𝓛 F.ended stayed (Goes-spent_ref 𝓛 1 (0 ∷ []) tt (plain (λ _. Row)), tt) c (WpFn 𝓤 𝓛.H 𝓣.C 𝓣.Λ code.function) (WpFn-mono 𝓤 𝓛.H 𝓛.laws 𝓣 code.function)
    (walked 𝓛 F.ended stayed c (WpFn 𝓤 𝓛.H 𝓣.C 𝓣.Λ code.function) (λ κs. (mut_vals, tt)) (λ κs. (mut_Tells (named 0) κs.0 Row, tt))
    (λ κs qs bounds a g are. walk 𝓛 𝓜.mem 𝓡.returns 𝓣 ((κs, qs, bounds, a, (mut_vals a.0, tt)), g))))
