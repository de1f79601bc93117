use Rattle.std.proofs.Common.{string_bytes, sym, subst}
use Rattle.std.specs.List.{AllByRecursion}
use Rattle.std.specs.Prelude.{IsTrue}
use Rattle.bounded_model.specs.declared.history.Order.{Order}
use Rattle.bounded_model.specs.declared.history.Order.TheVariants.{Fifo, Lifo}
use Rattle.script.specs.Script.{is_allowed}
use Rattle.script.specs.View.{head_view}
use Rattle.player.specs.Traces.{Adds, lines_in}
use Rattle.script_replay.specs.Outcome.{IsOutputIn, IsOutputOf}
use Rattle.script_replay.specs.Traced.{IsTracedIn, IsTracedOf}
use Rattle.script_replay.proofs.Outcomes.{if_ok}
use Rattle.script_replay.proofs.answer.answer.Goals as goal

pub play_queue-requires-clause-allowed : goal.play_queue-requires-clause-allowed
play_queue-requires-clause-allowed g c =
    subst (λ (order : Order). AllByRecursion (λ line. IsTrue (is_allowed order line)) c.args.script.lines.items) c.in-Fifo.is c.requires.allowed

pub play_stack-requires-clause-allowed : goal.play_stack-requires-clause-allowed
play_stack-requires-clause-allowed g c =
    subst (λ (order : Order). AllByRecursion (λ line. IsTrue (is_allowed order line)) c.args.script.lines.items) c.in-Lifo.is c.requires.allowed

pub returns-in-Fifo-clause-output : goal.returns-in-Fifo-clause-output
returns-in-Fifo-clause-output g c =
    let head = head_view c.args.script.header in
    let lines = c.args.script.lines.items in
    if_ok c.play_queue.result (λ output. IsOutputIn Fifo head lines (string_bytes output)) (λ output. IsOutputOf head lines (string_bytes output)) c.play_queue.ensures.output
    (λ output is. subst (λ (order : Order). IsOutputIn order head lines (string_bytes output)) (sym c.in-Fifo.is) is)

pub returns-in-Lifo-clause-output : goal.returns-in-Lifo-clause-output
returns-in-Lifo-clause-output g c =
    let head = head_view c.args.script.header in
    let lines = c.args.script.lines.items in
    if_ok c.play_stack.result (λ output. IsOutputIn Lifo head lines (string_bytes output)) (λ output. IsOutputOf head lines (string_bytes output)) c.play_stack.ensures.output
    (λ output is. subst (λ (order : Order). IsOutputIn order head lines (string_bytes output)) (sym c.in-Lifo.is) is)

pub returns-in-Fifo-clause-traced : goal.returns-in-Fifo-clause-traced
returns-in-Fifo-clause-traced g c =
    let head = head_view c.args.script.header in
    let lines = c.args.script.lines.items in
    let old = lines_in c.args.trace.now in
    let new = lines_in c.play_queue.new.trace in
    if_ok c.play_queue.result (λ output. Adds old new (IsTracedIn Fifo head lines (string_bytes output))) (λ output. Adds old new (IsTracedOf head lines (string_bytes output))) c.play_queue.ensures.traced
    (λ output is. subst (λ (order : Order). Adds old new (IsTracedIn order head lines (string_bytes output))) (sym c.in-Fifo.is) is)

pub returns-in-Lifo-clause-traced : goal.returns-in-Lifo-clause-traced
returns-in-Lifo-clause-traced g c =
    let head = head_view c.args.script.header in
    let lines = c.args.script.lines.items in
    let old = lines_in c.args.trace.now in
    let new = lines_in c.play_stack.new.trace in
    if_ok c.play_stack.result (λ output. Adds old new (IsTracedIn Lifo head lines (string_bytes output))) (λ output. Adds old new (IsTracedOf head lines (string_bytes output))) c.play_stack.ensures.traced
    (λ output is. subst (λ (order : Order). Adds old new (IsTracedIn order head lines (string_bytes output))) (sym c.in-Lifo.is) is)
