-- Why a text is not replayed.
use Rattle.script.specs.declared.fault.ScriptFault.{ScriptFault}
use Rattle.script.specs.declared.fault.ScriptFault.TheVariants as script
use Rattle.script_replay.specs.declared.fault.ReplayFault.{ReplayFault}
use Rattle.script_replay.specs.declared.fault.ReplayFault.TheVariants.{NoMemory, NoFinalNewline, BadLine}

-- the fault of a replay whose text has this fault
abbrev pub replay_fault_of : ScriptFault → ReplayFault
replay_fault_of script.NoMemory = NoMemory
replay_fault_of script.NoFinalNewline = NoFinalNewline
replay_fault_of (script.BadLine number) = BadLine number
