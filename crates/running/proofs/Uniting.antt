-- Which seats may be made one or cut in two, by what passes, roots and notes show of them; and the lines of a container whose passes are all
-- alike between their operations.
use Rattle.std.proofs.Common.{refl, true, false, ◌≡◌, ◌⊎◌, inl, inr, ⊎_elim, ℕ, Bool, List, [], ◌∷◌, ◌++◌, set, sym, ap, ◌∙◌, subst}
use mathlib.Core.Option.{some}
use lib.ListN.{get_elem?}
use Rattle.atomic_table.proofs.Lists.{set_again}
use Rattle.bounded_model.specs.declared.views.RootView.{RootView}
use Rattle.machine.specs.declared.seats.View.{View}
use Rattle.machine.specs.declared.seats.View.TheVariants.{AtRoot, AtMeeting, AtNote, AtHearing}
use Rattle.machine.specs.Seats.{Acts, Looks, all_alike, at_rest, both_of, acts_now, pass_of, handed_of, nothing}
use Rattle.running.specs.Machine.{Names, Machine, Core, Cuts, Unites, Shared}
use Rattle.running.specs.Rule.{line_in, MayCut, MayLook, MayUnite}

module _ {T L O : Type 0} {names : Names L O} (m : Machine T L O names) where
  abbrev R : L → L
  R l = names.quiet l

  module _ (v w : View T L) where
    pub unites_root : (r : RootView T) (ks : Acts L) (out : ℕ) → v ≡ AtRoot r ks nothing (line_in names v) → m.core.IsStock out (line_in names v) → w ≡ at_rest (R (line_in names w)) (pass_of w) (acts_now w) → MayUnite m v w
    unites_root r ks out ev stock ew = subst (λ (u : View T L). MayUnite m u w) (sym ev) (subst (MayUnite m (AtRoot r ks nothing (line_in names v))) (sym ew) ((out, stock), names.calm (line_in names w), refl))

    pub unites_passes : v ≡ at_rest (R (line_in names v)) (pass_of v) (acts_now v) → w ≡ at_rest (R (line_in names w)) (pass_of w) (acts_now w) → MayUnite m v w
    unites_passes ev ew = subst (λ (u : View T L). MayUnite m u w) (sym ev) (subst (MayUnite m (at_rest (R (line_in names v)) (pass_of v) (acts_now v))) (sym ew) (names.calm (line_in names v), names.calm (line_in names w)))

    pub unites_note : v ≡ at_rest (R (line_in names v)) (pass_of v) (acts_now v) → w ≡ AtNote (handed_of w) → MayUnite m v w
    unites_note ev ew = subst (λ (u : View T L). MayUnite m u w) (sym ev) (subst (MayUnite m (at_rest (R (line_in names v)) (pass_of v) (acts_now v))) (sym ew) (names.calm (line_in names v)))

    -- what was made one may look what others have done
    pub looks_root : (between : View T L) (r : RootView T) (ks : Acts L) → v ≡ AtRoot r ks nothing (line_in names v) → w ≡ at_rest (R (line_in names w)) (pass_of w) (acts_now w) → between ≡ both_of names.shares v w → MayLook m between
    looks_root between r ks ev ew e = subst (MayLook m) (sym (e ∙ (λ i. both_of names.shares (ev i) (ew i)))) tt

    pub looks_passes : (between : View T L) → v ≡ at_rest (R (line_in names v)) (pass_of v) (acts_now v) → w ≡ at_rest (R (line_in names w)) (pass_of w) (acts_now w) → between ≡ both_of names.shares v w → MayLook m between
    looks_passes between ev ew e = subst (MayLook m) (sym (e ∙ (λ i. both_of names.shares (ev i) (ew i)))) tt

    pub looks_note : (between : View T L) → v ≡ at_rest (R (line_in names v)) (pass_of v) (acts_now v) → w ≡ AtNote (handed_of w) → between ≡ both_of names.shares v w → MayLook m between
    looks_note between ev ew e = subst (MayLook m) (sym (e ∙ (λ i. both_of names.shares (ev i) (ew i)))) tt

    -- what was made one may be cut again, after a load
    pub cuts_passes : (between after : View T L) → v ≡ at_rest (R (line_in names v)) (pass_of v) (acts_now v) → w ≡ at_rest (R (line_in names w)) (pass_of w) (acts_now w) → between ≡ both_of names.shares v w → Looks m.core.shape between after → MayCut m after
    cuts_passes between after ev ew e tells =
        let is : between ≡ AtMeeting (pass_of v) (acts_now v) (R (line_in names v)) (pass_of w) (acts_now w) (R (line_in names w)) = e ∙ (λ i. both_of names.shares (ev i) (ew i)) in
        let t = subst (λ (x : View T L). Looks m.core.shape x after) is tells in
        subst (MayCut m) (sym t.1) tt

    pub cuts_note : (between after : View T L) → v ≡ at_rest (R (line_in names v)) (pass_of v) (acts_now v) → w ≡ AtNote (handed_of w) → between ≡ both_of names.shares v w → Looks m.core.shape between after → MayCut m after
    cuts_note between after ev ew e tells =
        let is : between ≡ AtHearing (pass_of v) (acts_now v) (R (line_in names v)) (handed_of w) = e ∙ (λ i. both_of names.shares (ev i) (ew i)) in
        let t = subst (λ (x : View T L). Looks m.core.shape x after) is tells in
        subst (MayCut m) (sym t.1) tt

-- where all passes are alike, a line of a seat stays, and that of a new seat is the idle one
module _ {T L O : Type 0} (idle : L) (is_idle : L → Bool) (first : O → L → L) (rests : is_idle idle ≡ true) (starts : (o : O) (l : L) → is_idle (first o l) ≡ false) (c : Core T L O) where
  abbrev N : Names L O
  N = record { shares = all_alike idle; is_idle = is_idle; quiet = λ l. idle; first = first; rests = λ l. rests; calm = λ l i. idle; starts = starts }

  stays : (lines : List L) (seat : ℕ) (line l : L) → get_elem? lines seat ≡ some line → l ≡ line → set lines seat l ≡ lines
  stays lines seat line l e same = ap (set lines seat) same ∙ set_again lines seat line e

  cut_so : (lines lines' : List L) → Cuts N c lines lines' → lines' ≡ lines ++ idle ∷ []
  cut_so lines lines' k =
      let parts : (k.parts.0 ≡ k.line) × (k.parts.1 ≡ idle) = ⊎_elim
      (λ t. (ap (λ (p : L × L). p.0) t.1, ap (λ (p : L × L). p.1) t.1))
      (λ t. ⊎_elim (λ p. (sym p.first ∙ sym p.were, sym p.second)) (λ e. (ap (λ (p : L × L). p.0) e, ap (λ (p : L × L). p.1) e)) t)
      k.how in
      k.after ∙ (λ i. stays lines k.seat k.line k.parts.0 k.here parts.0 i ++ parts.1 i ∷ [])

  united_so : (lines lines' : List L) → Unites N c lines lines' → lines' ≡ lines
  united_so lines lines' k =
      let same : (k.both ≡ k.line) × (idle ≡ k.line') = ⊎_elim
      (λ t. (t.2, t.1))
      (λ t. ⊎_elim (λ p. (p.2 ∙ p.0, p.1)) (λ p. (p.1, sym p.0)) t)
      k.how in
      k.after ∙ ap (λ (ls : List L). set ls k.other idle) (stays lines k.seat k.line k.both k.here same.0) ∙ stays lines k.other k.line' idle k.there same.1

  pub alike : (lines lines' : List L) → Shared N c lines lines' → (lines' ≡ lines) ⊎ (lines' ≡ lines ++ idle ∷ [])
  alike lines lines' which = ⊎_elim (λ e. inl e) (λ t. ⊎_elim (λ k. inr (cut_so lines lines' k)) (λ k. inl (united_so lines lines' k)) t) which
