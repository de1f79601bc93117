-- How the premises of the laws are met.
use Rattle.std.proofs.Common.{◌≡◌, ℕ, zero, suc, ◌<◌, List, [], ◌∷◌, Result, Ok, Err, refl, sym, ap, subst, arith}
use Rattle.std.specs.List.{AllByRecursion as Every}
use mathlib.Core.Option.{some-injective, some-ne-none}
use Rattle.bounded_model.specs.declared.answers.PutRefused.{PutRefused}
use Rattle.bounded_model.specs.declared.answers.PutRefused.TheVariants.{Full, Closed, Spent}
use Rattle.bounded_model.specs.declared.answers.TakeRefused.{TakeRefused}
use Rattle.bounded_model.specs.declared.history.Event.{Event}
use Rattle.bounded_model.specs.declared.views.PassView.{PassView}
use Rattle.bounded_model.specs.Histories.{Later}
use Rattle.bounded_model.specs.Laws.{Meets}
use Rattle.bounded_model.specs.Machine.{Shape}
use Rattle.bounded_model.specs.declared.commands.Command.TheVariants.{Put as PutCall}
use Rattle.machine.specs.declared.seats.View.{View}
use Rattle.machine.specs.Seats.{Acts, pass_of}
use Rattle.ring_machine.specs.declared.lines.Answer.TheVariants.{Put as AnswerPut}
use Rattle.ring_machine.specs.declared.lines.Call.TheVariants.{Put as CallPut}
use Rattle.ring_machine.specs.Machine.{ends}
use Rattle.ring_table.specs.declared.line.SeatLine.{SeatLine}
use Rattle.ring_table.specs.declared.line.SeatLine.TheVariants.{At}
use Rattle.ring_table.specs.declared.operation.Operation.{Operation}
use Rattle.ring_table.specs.Lines.{call_of}
use Rattle.ring_table.proofs.Laws.{ring_on}
use Rattle.running.specs.Going.{HasRun}
use Rattle.running.specs.Kept.{WasRun}
use Rattle.ring_queue.specs.code.Machine.{is_call}
use Rattle.ring_queue.specs.code.Putting.{put_account}
use Rattle.ring_queue.specs.Calls.{RingQueue, Pass, laps_of, machine_of, pass_in, passes_of, room_of}
use Rattle.runs.specs.ring.Full.{WasFull}
use Rattle.tagged_index.specs.declared.limit.Limits.{Limits}
use Rattle.runs.specs.InTime.{DidOnce, HeardOf, InOneOrder, InTurn, IsCallOf, KnownCall, put_effect, take_effect}
use Rattle.example_order.specs.Order.{FullSays, TookAfter}

-- two calls, of which the second had heard of the first, are listed in turn
in_turn : (a b : KnownCall ℕ) → HeardOf a b → InTurn (a ∷ b ∷ [])
in_turn a b heard zero (suc zero) x y is at less same =
    let first : a ≡ x = some-injective a x is in
    let second : b ≡ y = some-injective b y at in
    subst (λ (u : KnownCall ℕ). HeardOf u y) first (subst (HeardOf a) second heard)
in_turn a b heard i zero x y is at less same = absurd (omega (arith, less))
in_turn a b heard (suc i) (suc zero) x y is at less same = absurd (omega (arith, less))
in_turn a b heard i (suc (suc j)) x y is at less same = absurd (some-ne-none y (sym at))

-- A pass is v before its put and w after it, another is u before it meets the first, t after that, and s after its take
pub took_after : (c : Shape) (v w u t s : PassView ℕ) (x : ℕ) (put : Result ℕ (PutRefused ℕ)) (took : Result (ℕ × ℕ) TakeRefused) (h : List (Event ℕ))
    → ((calls : List (KnownCall ℕ)) → Every (IsCallOf c h) calls → InTurn calls → InOneOrder c h calls)
    → DidOnce c v w (put_effect v.number x put) → Meets u w t → DidOnce c t s (take_effect t.number took) → Later w.seen h → Later s.seen h → TookAfter c v x put u took h
took_after c v w u t s x put took h law did met did' seen seen' =
    let a : KnownCall ℕ = record { before = v; after = w; effect = put_effect v.number x put } in
    let b : KnownCall ℕ = record { before = t; after = s; effect = take_effect t.number took } in
    let order : InOneOrder c h (a ∷ b ∷ []) = law (a ∷ b ∷ []) (record { did = did; seen = seen }, (record { did = did'; seen = seen' }, tt)) (in_turn a b met.second) in
    record {
      putting = a;
      taking = b;
      puts = refl;
      takes = ap (λ (n : ℕ). take_effect n took) met.number;
      order = order;
      one = refl;
      two = refl;
      after = order.in_time 0 1 a b refl refl (omega arith) met.second;
    }

-- The run of a put gives the premise of its law
module _ (c : RingQueue ℕ) where
  pub some_slot : 0 < room_of c
  some_slot = let limits : Limits = c.table.shared.key in let e = limits.some_capacity in omega arith

  pub full_says : (x : ℕ) (v : PassView ℕ) (back : Pass ℕ) (said : Result ℕ (PutRefused ℕ))
      → ((n laps passes : ℕ) → 0 < n → (o : Operation ℕ) (w : View ℕ (SeatLine ℕ)) (begun : PassView ℕ) (cell : ℕ) (x y : ℕ) → call_of o ≡ CallPut x
      → (ran : HasRun (ring_on ℕ n laps passes) o w begun (At (ends cell (AnswerPut (Err (Full y)))))) → WasFull n laps passes (pass_of w).number x y ran.before ran.now)
      → WasRun (machine_of c) (put_account c.table.shared.key) (is_call (PutCall x)) v back said → FullSays c x back said
  full_says x v back (Ok n) law w = tt
  full_says x v back (Err (Full y)) law w =
      let ran = w.ran in
      let was : WasFull (room_of c) (laps_of c) (passes_of c) (pass_in back).number x y ran.before ran.now = law (room_of c) (laps_of c) (passes_of c) some_slot w.operation back.pass.seat.me.0 v back.kept.index x y (ap call_of w.call) ran in
      (ran.before, subst (λ (acts : Acts (SeatLine ℕ)). WasFull (room_of c) (laps_of c) (passes_of c) (pass_in back).number x y ran.before acts) (sym ran.kept) was)
  full_says x v back (Err (Closed y)) law w = tt
  full_says x v back (Err (Spent y word t)) law w = tt
