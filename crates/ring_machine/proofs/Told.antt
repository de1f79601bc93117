-- What each step that has events adds to the history of a ring.
use Rattle.std.proofs.Common.{◌≡◌, ℕ, ◌+◌, ◌-◌, ◌<◌, ◌≤◌, false, List, [], ◌∷◌, length, refl, ap, ◌∙◌, ⊎_elim, arith}
use Rattle.std.proofs.lemmas.Bool.Decides.{eqb_tells}
use Rattle.std.proofs.lemmas.List.{length-append}
use Rattle.bounded_model.specs.declared.history.Event.{Event}
use Rattle.bounded_model.specs.declared.history.Event.TheVariants.{Hold, Put, Take, Free, Close, Shut}
use Rattle.bounded_model.specs.Machine.{with_hand, without_first}
use Rattle.bounded_model.proofs.Hands.{with_hand-same, with_hand-other, within_capacity}
use Rattle.ring_machine.specs.Answers.{shape, state}
use Rattle.ring_machine.specs.Rule.{Told}

-- a hand that takes one and gives it away
hand_back : (hand : ℕ → ℕ) (p : ℕ) → ((q : ℕ) → hand q ≡ 0) → (q : ℕ) → with_hand (with_hand hand p (hand p + 1)) p (with_hand hand p (hand p + 1) p - 1) q ≡ 0
hand_back hand p none q =
    let once = with_hand hand p (hand p + 1) in
    ⊎_elim
    (λ t. let at = t.1 in ap (with_hand once p (once p - 1)) at ∙ with_hand-same once p (once p - 1) ∙ (let h = with_hand-same hand p (hand p + 1) in omega (arith, h, none p)))
    (λ t. with_hand-other once p (once p - 1) q t.1 ∙ with_hand-other hand p (hand p + 1) q t.1 ∙ none q)
    (eqb_tells q p)

module _ {T : Type 0} {n laps : ℕ} {history : List (Event T)} (t : Told T n laps history) (p : ℕ) where
  pub put_told : (v : T) (k : ℕ) → (state n laps history).closed ≡ false → k ≡ (state n laps history).puts → (state n laps history).puts < (state n laps history).takes + n → Told T n laps (Put p (v ∷ []) k ∷ Hold p ∷ history)
  put_told v k unclosed number room =
      let s = state n laps history in
      let one = with_hand-same s.hand p (s.hand p + 1) in
      record {
        legal = ((unclosed, refl, omega (arith, one), number), (omega (arith, room, t.balance, t.held), t.legal));
        hands = hand_back s.hand p t.hands;
        held = omega (arith, t.held);
        holds = omega (arith, t.holds);
        balance = omega (arith, t.balance, length-append s.values (v ∷ []));
      }

  pub take_told : (v : T) (left : List T) (k : ℕ) → (state n laps history).shut ≡ false → (state n laps history).values ≡ v ∷ left → k ≡ (state n laps history).takes → Told T n laps (Free p 1 ∷ Take p v k ∷ history)
  take_told v left k unshut is number =
      let s = state n laps history in
      let one = with_hand-same s.hand p (s.hand p + 1) in
      let rest : length (without_first s.values) ≡ length left = ap (λ (vs : List T). length (without_first vs)) is in
      record {
        legal = ((omega arith, omega (arith, one)), ((unshut, (left, is), number), t.legal));
        hands = hand_back s.hand p t.hands;
        held = omega (arith, t.held);
        holds = t.holds;
        balance = omega (arith, t.balance, rest, ap length is);
      }

  pub close_told : (state n laps history).closed ≡ false → Told T n laps (Close p ∷ history)
  close_told unclosed = record { legal = (unclosed, t.legal); hands = t.hands; held = t.held; holds = t.holds; balance = t.balance }

  pub shut_told : (state n laps history).shut ≡ false → Told T n laps (Shut p ∷ history)
  shut_told unshut = record { legal = (unshut, t.legal); hands = t.hands; held = t.held; holds = t.holds; balance = t.balance }

module _ {T : Type 0} {n laps : ℕ} {history : List (Event T)} (t : Told T n laps history) where
  -- there are never more values than slots
  pub few_values : length (state n laps history).values ≤ n
  few_values = omega (arith, within_capacity (shape n laps) history t.legal)

-- a list with something in it
pub record Front (T : Type 0) (values : List T) : Type 0 where
  pub value : T
  pub left : List T
  pub is : values ≡ value ∷ left

pub front_of : {T : Type 0} (values : List T) → 0 < length values → Front T values
front_of [] h = absurd (omega (arith, h))
front_of (v ∷ vs) h = record { value = v; left = vs; is = refl }
