-- What an operation was at when some of its steps were begun.
use Rattle.std.specs.Prelude.{List, [], Err}
use Rattle.treiber_stack.specs.Prelude.{Answer, AnswerPut, GiveBack, Giving, Line, LinkToFree, LinkToTop, LoadFreeLine as LoadFree, LoadFreeLink}
use Rattle.treiber_stack.specs.Prelude.{LoadFreeToGive, LoadTop, LoadTopToRefuse, Putting, SwapTop, TakeFree, handed_back, line_in, line_now, names}
use Rattle.treiber_stack.specs.declared.code.begun.Begun.{Begun}

module _ {T : Type 0} where
  abbrev pub line_begun : Begun T → Line T
  line_begun b = line_now names b.operation.value (line_in names b.pass.value.seat.me.0)

  -- the values that an answer hands back
  abbrev pub handed : Answer T → List T
  handed (AnswerPut (Err why)) = handed_back why
  handed a = []

  -- a put that gives its nodes back
  abbrev pub put_given : Giving T → Putting T
  put_given giving = record { values = handed giving.answer; chain = giving.chain }

  -- the put that takes nodes, goes to the top, or is refused
  abbrev pub put_at : Line T → Putting T
  put_at (LoadFree put) = put
  put_at (LoadFreeLink put w) = put
  put_at (TakeFree put w k) = put
  put_at (LoadTop put) = put
  put_at (LinkToTop put w) = put
  put_at (SwapTop put w) = put
  put_at (LoadTopToRefuse values) = record { values = values; chain = [] }
  put_at (LoadFreeToGive giving) = put_given giving
  put_at (LinkToFree giving w) = put_given giving
  put_at (GiveBack giving w) = put_given giving
  put_at l = record { values = []; chain = [] }

  abbrev pub put_begun : Begun T → Putting T
  put_begun b = put_at (line_begun b)
