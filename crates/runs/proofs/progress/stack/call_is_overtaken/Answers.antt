use Rattle.std.proofs.Common.{refl, sym, subst}
use Rattle.bounded_model.specs.declared.commands.Command.{Command}
use Rattle.bounded_model.specs.declared.commands.Command.TheVariants.{Put, Take, Close, Shut, Look}
use Rattle.stack_table.specs.declared.operation.Operation.{Operation}
use Rattle.stack_table.specs.Lines.{PutsMany, call_of, first_line}
use Rattle.step_core.specs.stack.Bound.{IsSingle}
use Rattle.treiber_stack.specs.code.Machine.{is_call}
use Rattle.treiber_stack.specs.Calls.{machine_of}
use Rattle.runs.proofs.stack.Progress.{overtaken_seen}
use Rattle.runs.proofs.Made.{going}
use Rattle.runs.proofs.progress.stack.call_is_overtaken.Goals as goal

-- a call moves one value at most
module _ {T : Type 0} where
  Single : Operation T → Type 0
  Single o = IsSingle (first_line o) × (PutsMany (call_of o) → ⊥)

  single : (call : Command T) (o : Operation T) → is_call call o → Single o
  unfolding Single
  single (Put x) o is = subst Single (sym is) (refl, λ many. many)
  single Take o is = subst Single (sym is) (tt, λ many. many)
  single Close o is = subst Single (sym is) (tt, λ many. many)
  single Shut o is = subst Single (sym is) (tt, λ many. many)
  single Look o is = subst Single (sym is) (tt, λ many. many)

pub returns : goal.returns
unfolding Single
returns g c =
    let one = single c.requires.0 c.args.op.now.operation c.requires.1.call in
    overtaken_seen c.args.stack.now c.args.op.now.operation c.args.op.now.pass (going (machine_of c.args.stack.now) _ _ c.args.op.now c.requires.1.under_way) one.0 one.1
