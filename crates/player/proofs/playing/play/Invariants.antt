use Rattle.std.proofs.Common.{string_bytes}
use Rattle.std.specs.List.{AllByRecursion}
use Rattle.std.specs.Prelude.{IsTrue}
use Rattle.std.specs.VecDeque.{deque_len}
use Rattle.script.specs.Script.{FinishesLast, IsLine, is_allowed}
use Rattle.player.specs.Plays.{World, start}
use Rattle.player.specs.Shows.{IsOn, reading_of}
use Rattle.player.specs.Traces.{Adds, lines_in}
use Rattle.player.proofs.Telling.{Told, TracedTold}
use Rattle.player.proofs.playing.play.Given as goal

-- the lines that are left, and what was written for those before them
abbrev pub invariant-loop-line : goal.invariant-loop-line
invariant-loop-line g l =
    let r = reading_of g.C.Container g.C.Stepwise l.fn.container in
    record {
      each : AllByRecursion IsLine l.lines.items;
      allowed : AllByRecursion (λ line. IsTrue (is_allowed r.shape.order line)) l.lines.items;
      finish_last : FinishesLast l.lines.items;
      on : (world : World) × IsOn r l.stage world;
      playing : (world : World) × IsOn r l.stage world
          × Told r.shape (start (r.root l.fn.root)) l.initial.lines.items world l.lines.items (string_bytes l.output);
      traced : Adds (lines_in l.fn.trace) (lines_in l.trace) (λ lines. (world : World) × IsOn r l.stage world
          × TracedTold r g.C.Named.is_step (start (r.root l.fn.root)) l.initial.lines.items world l.stage.places.of.items l.lines.items (string_bytes l.output) lines);
    }

abbrev pub decreases-loop-line : goal.decreases-loop-line
decreases-loop-line g l = deque_len l.lines

abbrev pub ghost-fitting : goal.ghost-fitting
ghost-fitting g a = (g.C.Container.shape a._container.now).order
