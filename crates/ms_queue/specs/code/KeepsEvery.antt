-- What the reply of any call of a queue tells: the laws of that one operation.
use Rattle.std.specs.Prelude.{◌≡◌, List}
use Rattle.std.proofs.Common.{subst}
use Rattle.bounded_model.specs.declared.commands.Reply.TheVariants as reply
use Rattle.bounded_model.specs.Calls.{CallGives}
use Rattle.bounded_model.specs.declared.commands.Command.TheVariants as command
use Rattle.ms_queue.specs.Prelude.{Command, Ended, Event, Limits, Line}
use Rattle.ms_queue.specs.Prelude.{Operation, PassView, Reply, View, ends, pass_of}
use Rattle.ms_queue.specs.code.Machine.{Answered, is_call, shape_at, machine_for}
use Rattle.ms_queue.specs.code.KeepsAnswers.{close_gives, look_gives, put_gives, shut_gives, take_gives}
use Rattle.ms_queue.specs.code.Every.{every_answer, every_account}

module _ {T : Type 0} (k : Limits) where
  -- its reply tells what each call gives that it makes
  abbrev pub every_promises : Operation T → PassView T → PassView T → Reply T → Type 0
  every_promises o begun now r = (call : Command T) → is_call call o → CallGives (shape_at T k) begun call now r

module _ {T : Type 0} (rule : List (Event T) → Type 0) (k : Limits) where
  module _ (o : Operation T) (v : View T (Line T)) (begun : PassView T) where
    abbrev EndsAt : Operation T → Reply T → Type 0
    EndsAt o r = Ended (machine_for rule k) o v begun (ends (every_answer r))

    turned : {o' : Operation T} (r : Reply T) → o ≡ o' → EndsAt o r → EndsAt o' r
    turned r is e = subst (λ (o : Operation T). EndsAt o r) is e

    gives : (call : Command T) (r : Reply T) → is_call call o → EndsAt o r → CallGives (shape_at T k) begun call (pass_of v) r
    gives (command.Put x) (reply.Put said) is e = put_gives rule k o v begun x (record { kept = tt; reply = said }) is e
    gives (command.Put x) (reply.Take said) is e = absurd (turned (reply.Take said) is e).deeds.made
    gives (command.Put x) (reply.Close said) is e = absurd (turned (reply.Close said) is e).deeds.made
    gives (command.Put x) (reply.Shut said) is e = absurd (turned (reply.Shut said) is e).deeds.made
    gives (command.Put x) (reply.Look said) is e = absurd (turned (reply.Look said) is e).deeds.made
    gives command.Take (reply.Take said) is e = take_gives rule k o v begun (record { kept = tt; reply = said }) is e
    gives command.Take (reply.Put said) is e = absurd (turned (reply.Put said) is e).deeds.made
    gives command.Take (reply.Close said) is e = absurd (turned (reply.Close said) is e).deeds.made
    gives command.Take (reply.Shut said) is e = absurd (turned (reply.Shut said) is e).deeds.made
    gives command.Take (reply.Look said) is e = absurd (turned (reply.Look said) is e).deeds.made
    gives command.Close (reply.Close said) is e = close_gives rule k o v begun (record { kept = tt; reply = said }) is e
    gives command.Close (reply.Put said) is e = absurd (turned (reply.Put said) is e).deeds.made
    gives command.Close (reply.Take said) is e = absurd (turned (reply.Take said) is e).deeds.made
    gives command.Close (reply.Shut said) is e = absurd (turned (reply.Shut said) is e).deeds.made
    gives command.Close (reply.Look said) is e = absurd (turned (reply.Look said) is e).deeds.made
    gives command.Shut (reply.Shut said) is e = shut_gives rule k o v begun (record { kept = tt; reply = said }) is e
    gives command.Shut (reply.Put said) is e = absurd (turned (reply.Put said) is e).deeds.made
    gives command.Shut (reply.Take said) is e = absurd (turned (reply.Take said) is e).deeds.made
    gives command.Shut (reply.Close said) is e = absurd (turned (reply.Close said) is e).deeds.made
    gives command.Shut (reply.Look said) is e = absurd (turned (reply.Look said) is e).deeds.made
    gives command.Look (reply.Look said) is e = look_gives rule k o v begun (record { kept = tt; reply = said }) is e
    gives command.Look (reply.Put said) is e = absurd (turned (reply.Put said) is e).deeds.made
    gives command.Look (reply.Take said) is e = absurd (turned (reply.Take said) is e).deeds.made
    gives command.Look (reply.Close said) is e = absurd (turned (reply.Close said) is e).deeds.made
    gives command.Look (reply.Shut said) is e = absurd (turned (reply.Shut said) is e).deeds.made

  pub every_given : (o : Operation T) (v : View T (Line T)) (begun : PassView T) (a : Answered (Reply T)) → Ended (machine_for rule k) o v begun ((every_account k).answer o a) → every_promises k o begun (pass_of v) a.reply
  every_given o v begun a e call is = gives o v begun call a.reply is e
