-- Giving a chain of nodes back.
use Rattle.std.specs.Prelude.{◌≡◌, ℕ, ◌<◌, List}
use Rattle.treiber_stack.specs.Prelude.{GiveBack, Giving, Line, LinkToFree, LoadFreeToGive, fields_of, first, last}
use Rattle.treiber_stack.specs.declared.code.giving.Chain.{Chain}
use Rattle.treiber_stack.specs.declared.code.giving.Give.{Give}
use Rattle.treiber_stack.specs.declared.code.giving.Give.TheVariants.{Load, Link, Exchange}

-- a chain of nodes below n, by its ends
pub record AreNodes (n : ℕ) (chain : List ℕ) (nodes : Chain) : Type 0 where
  pub begins : first chain ≡ nodes.first
  pub ends : last chain ≡ nodes.last
  pub first_low : nodes.first < n
  pub last_low : nodes.last < n

module _ {T : Type 0} where
  -- the machine's line
  abbrev pub give_line : Giving T → Give → Line T
  give_line giving Load = LoadFreeToGive giving
  give_line giving (Link w) = LinkToFree giving (fields_of w)
  give_line giving (Exchange w) = GiveBack giving (fields_of w)
