-- Any call, by the command that names it: what it gives, in its own kind of reply.
use Rattle.bounded_model.specs.declared.commands.Command.{Command}
use Rattle.bounded_model.specs.declared.commands.Command.TheVariants as command
use Rattle.bounded_model.specs.declared.commands.Reply.{Reply}
use Rattle.bounded_model.specs.declared.commands.Reply.TheVariants as reply
use Rattle.bounded_model.specs.declared.views.Answered.TheVariants as answered
use Rattle.bounded_model.specs.declared.views.PassView.{PassView}
use Rattle.bounded_model.specs.Laws.{Answers, PutGives, TakeGives, CloseGives, ShutGives, LookGives, put_answered}
use Rattle.bounded_model.specs.Machine.{Shape}

-- what a whole call gives: its own kind of reply, by its own law, and its pass keeps one answer more
abbrev pub CallGives : {T : Type 0} → Shape → PassView T → Command T → PassView T → Reply T → Type 0
CallGives c v (command.Put x) w (reply.Put said) = PutGives c v x w said × Answers v w (put_answered said)
CallGives c v command.Take w (reply.Take said) = TakeGives c v w said × Answers v w (answered.Take said)
CallGives c v command.Close w (reply.Close said) = CloseGives c v w said × Answers v w (answered.Close said)
CallGives c v command.Shut w (reply.Shut said) = ShutGives c v w said × Answers v w (answered.Shut said)
CallGives c v command.Look w (reply.Look said) = LookGives c v w said × Answers v w (answered.Look said)
CallGives c v call w said = ⊥
