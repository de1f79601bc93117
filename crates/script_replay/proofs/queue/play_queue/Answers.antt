use denote.Exit.{yes}
use denote.Param.Send.{arg_send, sendable, param_send}
use Rattle.std.proofs.Common.{ap, refl, string_bytes}
use Rattle.tagged_index.specs.Limits.{capacity_of, tag_limit_of}
use Rattle.tagged_index.specs.declared.limit.Limits.{Limits}
use Rattle.queue_machine.specs.Answers.{shape}
use Rattle.player.proofs.Tracing.{adds_as}
use Rattle.ms_queue.specs.code.Naming.{IsStep}
use Rattle.ms_queue.proofs.Crossing.{op_send, rest_send}
use Rattle.script_replay.specs.Readings.{queue_reading}
use Rattle.running.proofs.Crossing.{note_send, pass_send, root_send}
use Rattle.script_replay.proofs.Tracing.{played_on}
use Rattle.script_replay.proofs.queue.play_queue.Lts.{arg-4-3, arg-4-4, arg-4-5, arg-4-6, arg-4-7}
use Rattle.script_replay.proofs.queue.play_queue.Goals as goal

pub play-requires : goal.play-requires
play-requires g c κs =
    let made = c.in_ok-queue.ensures in
    (param_send _ (arg-4-3 g.row.R g.R.laws g.R.Wait-dict κs) (arg_send _ yes _ (op_send _ (search sendable depth 30))), (param_send _ (arg-4-4 g.row.R g.R.laws g.R.Wait-dict κs) (search (sendable, root_send) depth 30), (param_send _ (arg-4-5 g.row.R g.R.laws g.R.Wait-dict κs) (search (sendable, pass_send) depth 30), (param_send _ (arg-4-6 g.row.R g.R.laws g.R.Wait-dict κs) (search (sendable, note_send) depth 30), (param_send _ (arg-4-7 g.row.R g.R.laws g.R.Wait-dict κs) (search (sendable, rest_send) depth 30), ((refl, tt), (made.1, (c.requires.each, (c.requires.allowed, c.requires.finish_last)))))))))

pub returns-clause-traced : goal.returns-clause-traced
returns-clause-traced g c =
    let new = c.in_ok-queue.ensures in
    adds_as _ _ _ _ c.in_ok-play.ensures.traced (λ lines traced. (
      c.in_ok-queue.queue,
      ap (λ (k : Limits). shape (capacity_of k) (tag_limit_of k)) new.0,
      played_on (queue_reading c.in_ok-queue.queue) IsStep _ c.args.script.lines.items (string_bytes c.in_ok-play.field-0) lines new.2 traced,
    ))
