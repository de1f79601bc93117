-- Which calls of the stack end after a bounded number of their own steps, while no other pass wins an
-- exchange.
use Rattle.std.specs.Prelude.{◌≡◌, length}
use Rattle.stack_machine.specs.declared.lines.Taking.TheVariants.{Whole}
use Rattle.stack_machine.specs.declared.lines.Line.{Line}
use Rattle.stack_machine.specs.declared.lines.Line.TheVariants.{LoadFree, LoadFreeLink, TakeFree, LinkTaken, LoadTopToTake, TakeChain, LoadLinkToTurn, TurnLink, LoadLinkToFold}

module _ {T : Type 0} where
  -- a put of one value, a take of one value, a close, a shut, a look or a gauge, wherever it is
  abbrev pub IsSingle : Line T → Type 0
  IsSingle (LoadFree put) = length put.values ≡ 1
  IsSingle (LoadFreeLink put w) = length put.values ≡ 1
  IsSingle (TakeFree put w k) = length put.values ≡ 1
  IsSingle (LinkTaken put) = length put.values ≡ 1
  IsSingle (LoadTopToTake (Whole d)) = ⊥
  IsSingle (TakeChain d w) = ⊥
  IsSingle (LoadLinkToTurn give above i) = ⊥
  IsSingle (TurnLink give above i k) = ⊥
  IsSingle (LoadLinkToFold give i) = ⊥
  IsSingle l = Unit {0}
