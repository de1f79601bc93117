-- Where the rule holds, each cell is in one place, and a step wins only what no pass had.
use Rattle.std.proofs.Common.{◌≡◌, inl, inr, ℕ, ◌+◌, ◌*◌, ◌<◌, Bool, cond, eqb, leb, ltb, List, [], ◌∷◌, refl, sym, ap, ◌∙◌, subst, eqb-true, Option as Slot, Some, None, arith}
use mathlib.Core.Option.{Option, none, some}
use lib.ListN.{get_elem?}
use Rattle.bounded_model.specs.declared.history.Event.{Event}
use Rattle.machine.specs.Words.{Tagged, times}
use Rattle.machine.specs.Places.{Has}
use Rattle.machine.proofs.Tests.{cases}
use Rattle.machine.proofs.Program.{Cases, by_cases}
use Rattle.machine.proofs.Places.{in_one_place, is_inside}
use Rattle.ring_machine.specs.declared.lines.Walk.{Walk}
use Rattle.ring_machine.specs.declared.lines.Back.{Back}
use Rattle.ring_machine.specs.declared.lines.Back.TheVariants.{ToPut, ToClose, ToCount, ToGauge}
use Rattle.ring_machine.specs.declared.lines.Front.{Front}
use Rattle.ring_machine.specs.declared.lines.Front.TheVariants.{ToTake, ToShut, ToLook, ToCount as ToCountFrom}
use Rattle.ring_machine.specs.declared.lines.Line.{Line}
use Rattle.ring_machine.specs.declared.lines.Line.TheVariants.{Idle, FetchTail, LoadTail, LoadBack, MoveTail, PutCell, PassTail, MarkBack, LoadHead, LoadFront, MoveHead, TakeCell, PassHead, Stow, ShutFront, CheckFront}
use Rattle.ring_machine.specs.Machine.{Memory, memories, Outcome, empty_at, full_at, stride, at_back, at_front, table, cell_of, held_cells, resting, step, wins_put, wins_value}
use Rattle.ring_machine.specs.Answers.{shape}
use Rattle.ring_machine.specs.Rule.{cells_in, IsFine, progress, Good}
use Rattle.ring_machine.specs.Places.{NothingTwice, WinsUnheld}
use Rattle.ring_machine.proofs.Cells.{cell_in}

-- what is in a list of one is that one
one_only : (c i : ℕ) → Has (i ∷ []) c → c ≡ i
one_only c i h = cases (λ x. 0 < x + 0 → c ≡ i) (eqb c i) 1 0 (λ b there. eqb-true c i b) (λ b there. absurd (omega arith)) h

module _ {T : Type 0} {n laps cells : ℕ} {m : Memory T} {lines : List (Line T)} {history : List (Event T)} (x : Good T n laps cells m lines history) where
  pub nothing_twice : NothingTwice n cells m lines
  nothing_twice = in_one_place held_cells cells [] (cells_in n m.slot) lines (λ c. omega (arith, x.once c))

  module _ (q p : ℕ) where
    abbrev After : Line T → Outcome T → Type 0
    After l o = WinsUnheld n m lines l o.line

    -- a line that has the spare cell that another has
    same : (l l' : Line T) → cell_of l' ≡ cell_of l → WinsUnheld n m lines l l'
    same l l' e = record { cells = λ c h. inl (subst (λ (k : ℕ). 0 < times c (k ∷ [])) e h) }

    of : (l : Line T) (b : Bool) (y z : Line T) → WinsUnheld n m lines l y → WinsUnheld n m lines l z → WinsUnheld n m lines l (cond b y z)
    of l b y z f g = cases (WinsUnheld n m lines l) b y z (λ e. f) (λ e. g)

    -- the cell of a slot
    inside : (w : Walk) (y : Tagged) (c : ℕ) → w.at.index < n → m.slot w.at.index ≡ y → Has (y.index ∷ []) c → Has (cells_in n m.slot) c
    inside w y c low won h = subst (λ (k : ℕ). 0 < times k (cells_in n m.slot)) (ap (λ (u : Tagged). u.index) won ∙ sym (one_only c y.index h)) (cell_in n w.at.index m.slot low)

    put_wins : (w : Walk) (v : T) (y : Tagged) → get_elem? lines q ≡ some (PutCell w v y) → m.slot w.at.index ≡ y → After (PutCell w v y) (wins_put n m p w v y)
    put_wins w v y e won =
        let f : IsFine n laps (progress T n laps m history) (PutCell w v y) = x.fine q (PutCell w v y) e in
        let brings : (l' : Line T) → cell_of l' ≡ y.index → WinsUnheld n m lines (PutCell w v y) l' = λ l' is. record {
          cells = λ c h. inr (is_inside held_cells nothing_twice c (inside w y c f.0.at.slot won (subst (λ (k : ℕ). 0 < times c (k ∷ [])) is h)));
        } in
        of _ (eqb (w.gone + 1) stride) _ _ (brings _ refl) (brings _ refl)

    take_wins : (w : Walk) (y : Tagged) → get_elem? lines q ≡ some (TakeCell w y) → m.slot w.at.index ≡ y → (o : Option (Slot T)) → After (TakeCell w y) (wins_value n m p w y o)
    take_wins w y e won none = same _ (resting w.cell) refl
    take_wins w y e won (some None) = same _ (resting w.cell) refl
    take_wins w y e won (some (Some v)) =
        let l : Line T = TakeCell w y in
        let f : IsFine n laps (progress T n laps m history) l = x.fine q l e in
        let brings : (l' : Line T) → cell_of l' ≡ y.index → WinsUnheld n m lines (TakeCell w y) l' = λ l' is. record {
          cells = λ c h. inr (is_inside held_cells nothing_twice c (inside w y c f.0.at.slot won (subst (λ (k : ℕ). 0 < times c (k ∷ [])) is h)));
        } in
        of _ (eqb (w.gone + 1) stride) _ _ (brings _ refl) (brings _ refl)

    back_wins : (w : Walk) (s : Back T) (l : Line T) → cell_of l ≡ w.cell → (y : Tagged) → WinsUnheld n m lines l (at_back n (2 * laps) w s y)
    back_wins w (ToPut v) l is y = of _ y.mark _ _ (same _ _ (sym is)) (of _ (eqb y.tag (empty_at w.at.tag)) _ _ (of _ (leb (2 * laps) (y.tag + 1)) _ _ (same _ _ (sym is)) (same _ _ (sym is))) (same _ _ (sym is)))
    back_wins w ToClose l is y = of _ y.mark _ _ (same _ _ (sym is)) (same _ _ (sym is))
    back_wins w (ToCount front) l is y = same _ _ (sym is)
    back_wins w ToGauge l is y = same _ _ (sym is)

    front_wins : (w : Walk) (s : Front) (l : Line T) → cell_of l ≡ w.cell → (y : Tagged) → WinsUnheld n m lines l (at_front w s y)
    front_wins w ToTake l is y = of _ y.second _ _ (same _ _ (sym is)) (of _ (eqb y.tag (full_at w.at.tag)) _ _ (same _ _ (sym is)) (of _ y.mark _ _ (same _ _ (sym is)) (same _ _ (sym is))))
    front_wins w ToShut l is y = of _ y.second _ _ (same _ _ (sym is)) (same _ _ (sym is))
    front_wins w ToLook l is y = same _ _ (sym is)
    front_wins w ToCountFrom l is y = same _ _ (sym is)

    brings : (l : Line T) → get_elem? lines q ≡ some l → Cases memories (resting (cell_of l)) m p (After l) l (table n (2 * laps) l)
    brings (Idle c a) e = same _ (Idle c a) refl
    brings (FetchTail c v) e = same _ _ refl
    brings (LoadTail c s) e = same _ _ refl
    brings (Stow w a) e = same _ _ refl
    brings (LoadBack w s) e = let y = m.slot w.at.index in of _ (ltb (empty_at w.at.tag) y.tag) _ _ (of _ (eqb (w.gone + 1) stride) _ _ (same _ _ refl) (same _ _ refl)) (back_wins w s (LoadBack w s) refl y)
    brings (MoveTail w s) e = (λ won. same _ _ refl, same _ _ refl)
    brings (PutCell w v y) e = (λ won. put_wins w v y e won, same _ _ refl)
    brings (PassTail w) e = (λ won. same _ _ refl, same _ _ refl)
    brings (MarkBack w y) e = (λ won. same _ _ refl, same _ _ refl)
    brings (LoadHead c s) e = same _ _ refl
    brings (LoadFront w s) e = let y = m.slot w.at.index in of _ (ltb (full_at w.at.tag) y.tag) _ _ (of _ (eqb (w.gone + 1) stride) _ _ (same _ _ refl) (same _ _ refl)) (front_wins w s (LoadFront w s) refl y)
    brings (MoveHead w s) e = (λ won. same _ _ refl, same _ _ refl)
    brings (TakeCell w y) e = (λ won. take_wins w y e won (m.home y.index), same _ _ refl)
    brings (PassHead w v) e = (λ won. same _ _ refl, same _ _ refl)
    brings (ShutFront w y) e = (λ won. same _ _ refl, same _ _ refl)
    brings (CheckFront c front back) e = of _ (ltb (full_at front.tag) (m.slot front.index).tag) _ _ (same _ _ refl) (same _ _ refl)

    pub wins_unheld : (l : Line T) → get_elem? lines q ≡ some l → WinsUnheld n m lines l (step (shape n laps) m p l).line
    wins_unheld l e = by_cases memories (resting (cell_of l)) m p (After l) l (table n (2 * laps) l) (brings l e)
