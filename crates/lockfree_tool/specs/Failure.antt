-- How the program fails after a fault of a replay or of a relay.
use Rattle.lockfree_tool.specs.declared.failure.Failure.{Failure}
use Rattle.lockfree_tool.specs.declared.failure.Failure.TheVariants.{File as FileFailed, Relay as RelayFailed, Script, Output as OutputFailed}
use Rattle.script_replay.specs.declared.fault.ReplayFault.{ReplayFault}
use Rattle.script_replay.specs.declared.fault.ReplayFault.TheVariants.{NoMemory, Device, NoFinalNewline, TooLong, BadLine, Output}
use Rattle.file_relay.specs.declared.tool_fault.ToolFault.{ToolFault}
use Rattle.file_relay.specs.declared.tool_fault.ToolFault.TheVariants as tool

abbrev pub failure_of : ReplayFault → Failure
failure_of Output = OutputFailed
failure_of NoMemory = Script NoMemory
failure_of Device = Script Device
failure_of NoFinalNewline = Script NoFinalNewline
failure_of TooLong = Script TooLong
failure_of (BadLine number) = Script (BadLine number)

abbrev pub relay_failure_of : ToolFault → Failure
relay_failure_of (tool.File number fault) = FileFailed number fault
relay_failure_of (tool.Relay fault) = RelayFailed fault
relay_failure_of tool.Output = OutputFailed
