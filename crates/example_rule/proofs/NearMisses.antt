-- Puts that do not deal by the rule of the producer, and one that does.
use Rattle.std.proofs.Common.{◌≡◌, [], ◌∷◌, refl, ap, arith}
use Rattle.bounded_model.specs.declared.history.Event.TheVariants.{Hold, Put}
use Rattle.bounded_model.specs.Machine.{Legal}
use Rattle.queue_machine.specs.Answers.{shape}
use Rattle.example_rule.specs.declared.frame.Frame.{Frame}
use Rattle.example_rule.specs.Frames.{boss, feed, frame_of, sum_of}
use Rattle.example_rule.specs.NearMisses.{FirstDeals, new_pass}
use Rattle.example_rule.proofs.Feeding.{head_or, put_deals}

pub right : FirstDeals boss (frame_of 0)
right = put_deals boss frame_of 1 15 (new_pass boss) (frame_of 0) refl refl

-- a pass that has a cell in hand may put anything, by the bounded machine alone
may_put : (x : Frame) → Legal (shape 1 15) (Put 0 (x ∷ []) 0 ∷ Hold 0 ∷ [])
may_put x = ((refl, refl, omega arith, refl), (omega arith, tt))

may_put_too : (x : Frame) → Legal (shape 1 15) (Put 1 (x ∷ []) 0 ∷ Hold 1 ∷ [])
may_put_too x = ((refl, refl, omega arith, refl), (omega arith, tt))

-- the first frame that the producer puts is frame 0
first_is : (x : Frame) → FirstDeals boss x → x ≡ frame_of 0
first_is x deals =
    let got : feed (Put 0 (x ∷ []) 0 ∷ Hold 0 ∷ []) = deals (Hold 0 ∷ []) (Put 0 (x ∷ []) 0) (0, refl) (record { more = Hold 0 ∷ []; is = refl }) refl (may_put x) (tt, tt) in
    ap (head_or x) got.0.1

pub other_value : FirstDeals boss (frame_of 1) → ⊥
other_value deals =
    let e : 1 ≡ 0 = ap (λ (x : Frame). x.number) (first_is (frame_of 1) deals) in
    omega (arith, e)

sums_differ : sum_of 1 ≡ sum_of 0 → ⊥
sums_differ e = omega (arith, e)

pub wrong_sum : FirstDeals boss (record { number = 0; sum = sum_of 1 }) → ⊥
wrong_sum deals = sums_differ (ap (λ (x : Frame). x.sum) (first_is (record { number = 0; sum = sum_of 1 }) deals))

pub other_pass : FirstDeals 1 (frame_of 0) → ⊥
other_pass deals =
    let x : Frame = frame_of 0 in
    let got : feed (Put 1 (x ∷ []) 0 ∷ Hold 1 ∷ []) = deals (Hold 1 ∷ []) (Put 1 (x ∷ []) 0) (0, refl) (record { more = Hold 1 ∷ []; is = refl }) refl (may_put_too x) (tt, tt) in
    let e : 1 ≡ 0 = got.0.0 in
    omega (arith, e)
