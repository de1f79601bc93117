use denote.Param.Send.{sendable, param_send}
use Rattle.std.proofs.Common.{ap, refl, string_bytes}
use Rattle.player.proofs.Tracing.{adds_as}
use Rattle.treiber_stack.specs.code.Machine.{shape_at}
use Rattle.treiber_stack.specs.code.Naming.{IsStep}
use Rattle.treiber_stack.proofs.Crossing.{op_send, rest_send}
use Rattle.script_replay.specs.Readings.{stack_reading}
use Rattle.running.proofs.Crossing.{note_send, pass_send, root_send}
use Rattle.script_replay.proofs.Tracing.{played_on}
use Rattle.script_replay.proofs.stack.play_stack.Lts.{arg-4-3, arg-4-4, arg-4-5, arg-4-6, arg-4-7}
use Rattle.script_replay.proofs.stack.play_stack.Goals as goal

pub play-requires : goal.play-requires
play-requires g c κs =
    let made = c.in_ok-stack.ensures in
    (param_send _ (arg-4-3 g.row.R g.R.laws g.R.Wait-dict κs) (search (sendable, op_send) depth 30), (param_send _ (arg-4-4 g.row.R g.R.laws g.R.Wait-dict κs) (search (sendable, root_send) depth 30), (param_send _ (arg-4-5 g.row.R g.R.laws g.R.Wait-dict κs) (search (sendable, pass_send) depth 30), (param_send _ (arg-4-6 g.row.R g.R.laws g.R.Wait-dict κs) (search (sendable, note_send) depth 30), (param_send _ (arg-4-7 g.row.R g.R.laws g.R.Wait-dict κs) (search (sendable, rest_send) depth 30), ((refl, tt), (made.1, (c.requires.each, (c.requires.allowed, c.requires.finish_last)))))))))

pub returns-clause-traced : goal.returns-clause-traced
returns-clause-traced g c =
    let new = c.in_ok-stack.ensures in
    adds_as _ _ _ _ c.in_ok-play.ensures.traced (λ lines traced. (
      c.in_ok-stack.stack,
      ap shape_at new.0,
      played_on (stack_reading c.in_ok-stack.stack) IsStep _ c.args.script.lines.items (string_bytes c.in_ok-play.field-0) lines new.2 traced,
    ))
