-- What a trace gains, piece by piece.
use Rattle.std.proofs.Common.{◌≡◌, ℕ, List, [], ◌∷◌, ◌++◌, refl, sym, ap, subst, ◌∙◌, append_assoc, string_bytes, Option, Some, None, IsSome}
use Rattle.std.specs.List.{concat}
use Rattle.std.specs.Option.{option_map}
use Rattle.std.proofs.lemmas.List.{append-nil}
use Rattle.player.specs.Traces.{Adds, Traces, lines_in, with_line}
use Rattle.player.specs.declared.trace.Trace.{Trace}

concat_more : (xs ys : List (List ℕ)) → concat (xs ++ ys) ≡ concat xs ++ concat ys
concat_more [] ys = refl
concat_more (x ∷ xs) ys = ap (λ (t : List ℕ). x ++ t) (concat_more xs ys) ∙ sym (append_assoc x (concat xs) (concat ys))

pub adds_nothing : (old : Option (List ℕ)) (traced : List (List ℕ) → Type 0) → traced [] → Adds old old traced
adds_nothing None traced is = tt
adds_nothing (Some old) traced is = ([], is, ap Some (sym (append-nil old)))

pub adds_more : (old now new : Option (List ℕ)) (first second both : List (List ℕ) → Type 0) → Adds old now first → Adds now new second → ((xs ys : List (List ℕ)) → first xs → second ys → both (xs ++ ys)) → Adds old new both
adds_more None now new first second both one two join = tt
adds_more (Some old) now new first second both one two join =
    let next : Adds (Some (old ++ concat one.0)) new second = subst (λ (n : Option (List ℕ)). Adds n new second) one.2 two in (
      one.0 ++ next.0,
      join one.0 next.0 one.1 next.1,
      next.2 ∙ ap Some (append_assoc old (concat one.0) (concat next.0)) ∙ ap (λ (t : List ℕ). Some (old ++ t)) (sym (concat_more one.0 next.0)),
    )

pub adds_as : (old new : Option (List ℕ)) (traced same : List (List ℕ) → Type 0) → Adds old new traced → ((lines : List (List ℕ)) → traced lines → same lines) → Adds old new same
adds_as None new traced same adds as' = tt
adds_as (Some old) new traced same adds as' = (adds.0, as' adds.0 adds.1, adds.2)

pub adds_line : (old new : Option (List ℕ)) (line : List ℕ) (traced : List (List ℕ) → Type 0) → new ≡ with_line old line → traced (line ∷ []) → Adds old new traced
adds_line None new line traced is one = tt
adds_line (Some old) new line traced is one = (line ∷ [], one, is ∙ ap (λ (t : List ℕ). Some (old ++ t)) (sym (append-nil line)))

pub traces_nothing : (t : Trace) (traced : List (List ℕ) → Type 0) → traced [] → Traces t t traced
traces_nothing t traced is = record { pass = refl; lines = adds_nothing (lines_in t) traced is }

-- no trace is kept
adds_none : {S : Type 0} (text : S → List ℕ) (t : Option S) (new : Option (List ℕ)) (traced : List (List ℕ) → Type 0) → ¬ (IsSome t) → Adds (option_map text t) new traced
adds_none text None new traced none = tt
adds_none text (Some t) new traced none = absurd (none refl)

pub traces_unkept : (t : Trace) (traced : List (List ℕ) → Type 0) → ¬ (IsSome t.lines) → Traces t t traced
traces_unkept t traced none = record { pass = refl; lines = adds_none string_bytes t.lines (lines_in t) traced none }

-- one line more, of one step
pub traces_line : (old new : Trace) (line : List ℕ) (traced : List (List ℕ) → Type 0) → new.pass ≡ old.pass → lines_in new ≡ with_line (lines_in old) line → traced (line ∷ []) → Traces old new traced
traces_line old new line traced same is one = record { pass = same; lines = adds_line (lines_in old) (lines_in new) line traced is one }

pub traces_more : (old now new : Trace) (first second both : List (List ℕ) → Type 0) → Traces old now first → Traces now new second → ((xs ys : List (List ℕ)) → first xs → second ys → both (xs ++ ys)) → Traces old new both
traces_more old now new first second both one two join = record {
  pass = two.pass ∙ one.pass;
  lines = adds_more (lines_in old) (lines_in now) (lines_in new) first second both one.lines two.lines join;
}

pub traces_as : (old new : Trace) (traced same : List (List ℕ) → Type 0) → Traces old new traced → ((lines : List (List ℕ)) → traced lines → same lines) → Traces old new same
traces_as old new traced same traces as' = record { pass = traces.pass; lines = adds_as (lines_in old) (lines_in new) traced same traces.lines as' }
