-- How many steps a line of the stack has left at most while no other pass wins an exchange, by how much an
-- exchange raises that number for another line, and how much the exchanges that its call may yet win do.
use Rattle.std.proofs.Common.{ℕ, ◌+◌, ◌*◌, ◌-◌, ◌≤◌, ◌==◌, cond, ltb, eqb, List, [], ◌∷◌, length, arith}
use Rattle.machine.specs.Words.{Tagged, same}
use Rattle.machine.proofs.Tests.{lost, lost_small}
use Rattle.stack_machine.specs.declared.lines.Putting.{Putting}
use Rattle.stack_machine.specs.declared.lines.Direction.{Direction}
use Rattle.stack_machine.specs.declared.lines.Direction.TheVariants.{Down, Up}
use Rattle.stack_machine.specs.declared.lines.Taking.TheVariants.{One, Whole}
use Rattle.stack_machine.specs.declared.lines.Line.{Line}
use Rattle.stack_machine.specs.declared.lines.Line.TheVariants.{Idle, LoadFree, LoadFreeLink, TakeFree, LinkTaken, LoadTop, LinkToTop, SwapTop, LoadTopToRefuse, LoadTopToTake, LoadTopLink, TakeTop, TakeChain, LoadLinkToTurn, TurnLink, LoadLinkToFold, LoadFreeToGive, LinkToFree, GiveBack, LoadTopToClose, MarkTop, LoadTopToShut, ShutTop, LoadTopToLook, LoadTopToGauge}
use Rattle.step_core.specs.stack.Costs.{fit, over}

-- how many nodes a walk from node i to the end of the chain sees
abbrev pub from_node : ℕ → List ℕ → ℕ
from_node i [] = 0
from_node i (j ∷ js) = cond (eqb i j) (1 + length js) (from_node i js)

abbrev pub folding : ℕ → Direction → ℕ
folding n Down = n + 3
folding n Up = 3 * n + 3

module _ {T : Type 0} (n : ℕ) where
  -- how many nodes a put may take beside those that it has, and how many one that looks for a node: one more
  -- where it has one for each value already, as no put does
  unfoldable pub further : Putting T → ℕ
  further put = fit n (length put.values) - length put.chain

  unfoldable pub need : Putting T → ℕ
  unfolding further
  need put = cond (ltb (length put.chain) (length put.values)) (further put) 1

  -- what a put has left before it looks for a node, without the three steps at the top
  abbrev pub more : Putting T → ℕ
  more put = 4 * need put + lost (length put.chain == 0) 1 + over n (length put.values)

  abbrev pub weight : Tagged → Tagged → Line T → ℕ
  weight free top (Idle a) = 0
  weight free top (LoadFree put) = more put + 3
  weight free top (LoadFreeLink put w) = more put + 2 + lost (same free w) 3
  weight free top (TakeFree put w k) = more put + 1 + lost (same free w) 3
  weight free top (LinkTaken put) = 4 * further put + over n (length put.values) + 5
  weight free top (LoadTop put) = 4
  weight free top (LinkToTop put w) = 2 + lost (same top w) 4
  weight free top (SwapTop put w) = 1 + lost (same top w) 4
  weight free top (LoadTopToRefuse values) = 1
  weight free top (LoadTopToTake One) = 6
  weight free top (LoadTopToTake (Whole d)) = folding n d + 2
  weight free top (LoadTopLink w) = 5 + lost (same top w) 3
  weight free top (TakeTop w k) = 4 + lost (same top w) 3
  weight free top (TakeChain d w) = folding n d + 1 + lost (same top w) 2
  weight free top (LoadLinkToTurn give above i) = 3 + length give.chain + 2 * from_node i give.chain
  weight free top (TurnLink give above i k) = 2 + length give.chain + 2 * from_node i give.chain
  weight free top (LoadLinkToFold give i) = 3 + from_node i give.chain
  weight free top (LoadFreeToGive give) = 3
  weight free top (LinkToFree give w) = 2 + lost (same free w) 3
  weight free top (GiveBack give w) = 1 + lost (same free w) 3
  weight free top LoadTopToClose = 2
  weight free top (MarkTop w) = 1 + lost (same top w) 2
  weight free top LoadTopToShut = 2
  weight free top (ShutTop w) = 1 + lost (same top w) 2
  weight free top LoadTopToLook = 1
  weight free top LoadTopToGauge = 1

  -- what an exchange costs another line where it is won
  abbrev pub price : Line T → ℕ
  price (TakeFree put w k) = 3
  price (SwapTop put w) = 4
  price (TakeTop w k) = 4
  price (TakeChain d w) = 4
  price (GiveBack give w) = 3
  price (MarkTop w) = 4
  price (ShutTop w) = 4
  price l = 0

  -- and what the call may still cost another line
  abbrev pub harm : Line T → ℕ
  harm (LoadFree put) = 3 * need put + 4
  harm (LoadFreeLink put w) = 3 * need put + 4
  harm (TakeFree put w k) = 3 * need put + 4
  harm (LinkTaken put) = 3 * further put + 4
  harm (LoadTop put) = 4
  harm (LinkToTop put w) = 4
  harm (SwapTop put w) = 4
  harm (LoadTopToTake taking) = 7
  harm (LoadTopLink w) = 7
  harm (TakeTop w k) = 7
  harm (TakeChain d w) = 7
  harm (LoadLinkToTurn give above i) = 3
  harm (TurnLink give above i k) = 3
  harm (LoadLinkToFold give i) = 3
  harm (LoadFreeToGive give) = 3
  harm (LinkToFree give w) = 3
  harm (GiveBack give w) = 3
  harm LoadTopToClose = 4
  harm (MarkTop w) = 4
  harm LoadTopToShut = 4
  harm (ShutTop w) = 4
  harm l = 0

  -- an exchange of the free top makes three steps vain at most, and one of the top four
  pub free_raises : (free free' top : Tagged) (l : Line T) → weight free' top l ≤ weight free top l + 3
  free_raises free free' top (LoadTopToTake One) = omega arith
  free_raises free free' top (LoadTopToTake (Whole d)) = omega arith
  free_raises free free' top l = omega (arith, lost_small)

  pub top_raises : (free top top' : Tagged) (l : Line T) → weight free top' l ≤ weight free top l + 4
  top_raises free top top' (LoadTopToTake One) = omega arith
  top_raises free top top' (LoadTopToTake (Whole d)) = omega arith
  top_raises free top top' l = omega (arith, lost_small)

  pub price_small : (l : Line T) → price l ≤ 4
  price_small (Idle a) = omega arith
  price_small l = omega arith
