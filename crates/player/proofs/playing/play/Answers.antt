use Rattle.std.proofs.Common.{◌≡◌, List, [], ◌∷◌, string_bytes, length, refl, sym, ap, subst, ◌∙◌, arith}
use Rattle.std.specs.List.{AllByRecursion}
use Rattle.std.specs.Prelude.{IsTrue}
use Rattle.script.specs.declared.line.Act.{Act}
use Rattle.script.specs.declared.line.Line.{Line}
use Rattle.script.specs.declared.line.Line.TheVariants.{By, Finish}
use Rattle.script.specs.Script.{FinishesLast, IsLine, is_allowed}
use Rattle.player.specs.Plays.{IsFit, start}
use Rattle.player.specs.Shows.{IsOn, reading_of}
use Rattle.player.proofs.Showing.{shows_none}
use Rattle.player.proofs.Telling.{Told, TracedTold, is_for, meets_another, told_start, told_more, told_finish, told_end, traced_start, traced_finish, traced_end}
use Rattle.player.proofs.Tracing.{adds_as, adds_nothing}
use Rattle.player.proofs.Going.{lines_same, play_on}
use Rattle.player.proofs.playing.play.Goals as goal

empty : (lines : List Line) → length lines ≡ 0 → lines ≡ []
empty [] e = refl
empty (line ∷ lines) e = absurd (omega arith)

pub loop-line-init : goal.loop-line-init
loop-line-init g c =
    let r = reading_of g.C.Container g.C.Stepwise c.args.container in
    let first = start (r.root c.args.root) in
    let on : IsOn r c.in_ok-stage.stage first = record {
      is = rw c.in_ok-stage.ensures.root c.requires.root;
      root = ap r.root (sym c.in_ok-stage.ensures.root);
      names = rw c.in_ok-stage.ensures.places (shows_none r 26);
    } in
    record {
      each = c.requires.each;
      allowed = c.requires.allowed;
      finish_last = c.requires.finish_last;
      on = (first, on);
      playing = (first, on, told_start r.shape first c.args.lines.items (string_bytes c.new-output.result) c.new-output.ensures.bytes);
      traced = adds_nothing _ _ (first, on, traced_start r g.C.Named.is_step first c.args.lines.items _ (string_bytes c.new-output.result) c.in_ok-stage.ensures.places c.new-output.ensures.bytes);
    }

pub fitting-what-requires : goal.fitting-what-requires
fitting-what-requires g c κs within =
    let r = reading_of g.C.Container g.C.Stepwise c.args.container in
    let i = c.loop-line.invariant in
    let name = c.in-By.name in
    let what = c.in-By.what in
    let rest = c.pop_front.new.self.items in
    let left : c.loop-line.lines.items ≡ By name what ∷ rest = c.in-Some.ensures.items ∙ ap (λ (l : Line). l ∷ rest) c.in-By.is in
    let good = (subst (λ (ls : List Line). AllByRecursion IsLine ls) left i.each).0 in
    let allowed = (subst (λ (ls : List Line). AllByRecursion (λ line. IsTrue (is_allowed r.shape.order line)) ls) left i.allowed).0 in
    let fit : IsFit r.shape.order name.0 what = record {
      small = good.0;
      another = λ other meets. meets_another r.shape.order name.0 what other meets good.1 allowed;
      fits = is_for r.shape.order name.0 what allowed;
    } in
    (within, rw c.turn_to.ensures.pass fit)

pub loop-line-preserved : goal.loop-line-preserved
loop-line-preserved g c =
    let r = reading_of g.C.Container g.C.Stepwise c.args.container in
    let i = c.loop-line.invariant in
    let what = c.fitting-what.result in
    let line = By c.in-By.name what in
    let rest = c.pop_front.new.self.items in
    let left : c.loop-line.lines.items ≡ line ∷ rest = c.in-Some.ensures.items ∙ ap (λ (l : Line). l ∷ rest) (c.in-By.is ∙ ap (λ (w : Act). By c.in-By.name w) (sym c.fitting-what.ensures.same)) in
    let next = c.in_ok-answer-in-By.ensures.acts i.playing.0 i.playing.1 in
    let told = subst (λ (ls : List Line). Told r.shape (start (r.root c.args.root)) c.args.lines.items i.playing.0 ls (string_bytes c.loop-line.output)) left i.playing.2 in
    record {
      each = (subst (λ (ls : List Line). AllByRecursion IsLine ls) left i.each).1;
      allowed = (subst (λ (ls : List Line). AllByRecursion (λ line. IsTrue (is_allowed r.shape.order line)) ls) left i.allowed).1;
      finish_last = (subst FinishesLast left i.finish_last).1;
      on = (next.0, next.1);
      playing = (next.0, next.1, told_more r.shape _ c.args.lines.items i.playing.0 next.0 c.in-By.name what rest _ _ c.in_ok-answer-in-By.answer told (rw c.turn_to.ensures.pass at next.2) c.in_ok-write_reply-in-By.ensures);
      traced = play_on r g.C.Named.is_step (start (r.root c.args.root)) c.args.lines.items c.loop-line.lines.items c.in-By.name what rest _ _ c.in_ok-answer-in-By.answer c.loop-line.stage _ _ c.loop-line.trace c.turn_to.new.self _ left (lines_same c.turn_to.new.self c.loop-line.trace c.turn_to.ensures.lines) c.turn_to.ensures.pass i.traced
          c.in_ok-answer-in-By.ensures.traced c.in_ok-write_reply-in-By.ensures;
    }

pub returns-in-Finish-clause-plays : goal.returns-in-Finish-clause-plays
returns-in-Finish-clause-plays g c =
    let r = reading_of g.C.Container g.C.Stepwise c.args.container in
    let i = c.loop-line.invariant in
    let rest = c.pop_front.new.self.items in
    let left : c.loop-line.lines.items ≡ Finish ∷ rest = c.in-Some.ensures.items ∙ ap (λ (l : Line). l ∷ rest) c.in-Finish.is in
    let last : rest ≡ [] = (subst FinishesLast left i.finish_last).0 refl in
    let end = c.in_ok-play_end-in-Finish.ensures i.playing.0 i.playing.1 in
    let told = subst (λ (ls : List Line). Told r.shape (start (r.root c.args.root)) c.args.lines.items i.playing.0 ls (string_bytes c.loop-line.output)) left i.playing.2 in
    told_finish r.shape _ c.args.lines.items i.playing.0 rest _ _ end.0 told last end.1 end.2

pub returns-clause-plays : goal.returns-clause-plays
returns-clause-plays g c =
    let r = reading_of g.C.Container g.C.Stepwise c.args.container in
    let i = c.loop-line.invariant in
    let none : c.loop-line.lines.items ≡ [] = empty c.loop-line.lines.items (omega (arith, c.in_default.ensures.cases.0)) in
    let told = subst (λ (ls : List Line). Told r.shape (start (r.root c.args.root)) c.args.lines.items i.playing.0 ls (string_bytes c.loop-line.output)) none i.playing.2 in
    told_end r.shape _ c.args.lines.items i.playing.0 _ told

pub returns-in-Finish-clause-traced : goal.returns-in-Finish-clause-traced
returns-in-Finish-clause-traced g c =
    let r = reading_of g.C.Container g.C.Stepwise c.args.container in
    let is_step = g.C.Named.is_step in
    let i = c.loop-line.invariant in
    let rest = c.pop_front.new.self.items in
    let left : c.loop-line.lines.items ≡ Finish ∷ rest = c.in-Some.ensures.items ∙ ap (λ (l : Line). l ∷ rest) c.in-Finish.is in
    let last : rest ≡ [] = (subst FinishesLast left i.finish_last).0 refl in
    adds_as _ _ _ _ i.traced (λ lines t.
    let end = c.in_ok-play_end-in-Finish.ensures t.0 t.1 in
    let told = subst (λ (ls : List Line). TracedTold r is_step (start (r.root c.args.root)) c.args.lines.items t.0 c.loop-line.stage.places.of.items ls (string_bytes c.loop-line.output) lines) left t.2 in
    traced_finish r is_step _ c.args.lines.items t.0 _ rest _ _ lines end.0 told last end.1 end.2)

pub returns-clause-traced : goal.returns-clause-traced
returns-clause-traced g c =
    let r = reading_of g.C.Container g.C.Stepwise c.args.container in
    let is_step = g.C.Named.is_step in
    let i = c.loop-line.invariant in
    let none : c.loop-line.lines.items ≡ [] = empty c.loop-line.lines.items (omega (arith, c.in_default.ensures.cases.0)) in
    adds_as _ _ _ _ i.traced (λ lines t.
    let told = subst (λ (ls : List Line). TracedTold r is_step (start (r.root c.args.root)) c.args.lines.items t.0 c.loop-line.stage.places.of.items ls (string_bytes c.loop-line.output) lines) none t.2 in
    traced_end r is_step _ c.args.lines.items t.0 _ _ lines told)
