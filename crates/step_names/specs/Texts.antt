-- How a step is written.
use Rattle.std.specs.Prelude.{ℕ, List, [], ◌++◌, codes}
use Rattle.std.specs.Fmt.{decimal}
use Rattle.step_names.specs.declared.location.Location.{Location}
use Rattle.step_names.specs.declared.location.Location.TheVariants.{Cells, Nodes, Head, Tail, Next, Cell, CellLink, NodeLink, Free, Top, Link, Slot}
use Rattle.step_names.specs.declared.step_name.StepName.{StepName}
use Rattle.step_names.specs.declared.step_name.StepName.TheVariants.{Load, Stow, Store, CompareAndSwap, Attempt}
use Rattle.step_names.specs.declared.step_name.Outcome.{Outcome}
use Rattle.step_names.specs.declared.step_name.Outcome.TheVariants.{Done, Succeeded, Failed, Tried}

abbrev pub location_text : Location → List ℕ
location_text Cells = codes "CELLS"
location_text Nodes = codes "NODES"
location_text Head = codes "HEAD"
location_text Tail = codes "TAIL"
location_text (Next node) = codes "next " ++ decimal node
location_text (Cell node) = codes "cell " ++ decimal node
location_text (CellLink cell) = codes "cell link " ++ decimal cell
location_text (NodeLink node) = codes "node link " ++ decimal node
location_text Free = codes "FREE"
location_text Top = codes "TOP"
location_text (Link node) = codes "link " ++ decimal node
location_text (Slot index) = codes "slot " ++ decimal index

abbrev pub name_text : StepName → List ℕ
name_text (Load location) = codes "load " ++ location_text location
name_text (Stow location) = codes "load " ++ location_text location
name_text (Store location) = codes "store " ++ location_text location
name_text (CompareAndSwap location retried) = codes "compare-and-swap " ++ location_text location
name_text (Attempt location) = codes "compare-and-swap " ++ location_text location

abbrev pub outcome_text : Outcome → List ℕ
outcome_text Done = []
outcome_text Succeeded = codes " succeeded"
outcome_text Failed = codes " failed"
outcome_text Tried = codes " tried"
