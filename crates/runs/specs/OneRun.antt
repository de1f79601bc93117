-- The run at the end of a container, and the whole calls in it.
use Rattle.std.specs.Prelude.{List}
use Rattle.std.specs.List.{AllByRecursion as Every}
use mathlib.Core.Option.{Option}
use Rattle.bounded_model.specs.declared.views.PassView.{PassView}
use Rattle.bounded_model.specs.declared.views.RootView.{RootView}
use Rattle.machine.specs.declared.seats.View.{View}
use Rattle.machine.specs.Seats.{Acts, Extends, acts_now, pass_of}
use Rattle.running.specs.Ends.{IsRunAfter, state_at}
use Rattle.running.specs.Going.{HasRun}
use Rattle.running.specs.Machine.{Names, Machine}
use Rattle.running.specs.Since.{BeganSince}
use Rattle.step_core.specs.Linearizable.{Object}
use Rattle.runs.specs.Heard.{IsLinearizable}
use Rattle.runs.specs.InTime.{KnownCall, IsCallOf, InTurn, InOneOrder}

-- A call was begun after all acts that its pass kept then, and so after each call whose acts these were
module _ {T L O : Type 0} {names : Names L O} (m : Machine T L O names) where
  pub record KeepsTime : Type 0 where
    pub begun : (o : O) (v : View T L) (was : PassView T) (l : L) (ran : HasRun m o v was l) (kept : Acts L) → BeganSince kept (acts_now v) (pass_of v).number → Extends kept ran.before
    pub in_time : (o o' : O) (v w : View T L) (was was' : PassView T) (l l' : L) (first : HasRun m o v was l) (second : HasRun m o' w was' l') (kept : Acts L)
        → Extends (acts_now v) kept → BeganSince kept (acts_now w) (pass_of w).number → Extends first.now second.before

  -- The run that a container's end tells, where the root kept these acts. Its calls are linearizable. Each call whose acts the root was handed stands in
  -- it: its own run is an older part. All calls whose events the root has seen, as their callers know them, are in one order of the history of that run
  pub record OneRun {C A : Type 0} (call_at : L → C) (answer : L → Option A) (object : Object T C A) (kept : Acts L) (r : RootView T) (left : List T) (all : IsRunAfter m kept r left) : Type 0 where
    pub linearizable : IsLinearizable names m.core call_at answer object all.run.acts
    pub stands : (o : O) (v : View T L) (was : PassView T) (l : L) (ran : HasRun m o v was l) → Extends (acts_now v) kept → Extends ran.now all.run.acts
    pub order : (calls : List (KnownCall T)) → Every (IsCallOf m.core.shape r.seen) calls → InTurn calls → InOneOrder m.core.shape (state_at m all.run.acts).history calls
