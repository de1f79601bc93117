use Rattle.std.proofs.Common.{ℕ, List, rules, sym, ap, ◌∙◌, subst}
use Rattle.std.specs.Prelude.{Option as Slot}
use Rattle.bounded_model.specs.declared.views.PassView.{PassView}
use Rattle.bounded_model.specs.Bulk.{PutsRange, RangeAnswers, somes}
use Rattle.running.specs.Ties.{PutAllDeals}
use Rattle.treiber_stack.specs.Calls.{WasRangeWith, begun_with, call_of, pass_in, shape_of}
use Rattle.treiber_stack.specs.code.Ranging.{places_from}
use Rattle.treiber_stack.specs.code.RangeTrying.{put_of}
use Rattle.treiber_stack.proofs.Filling.{range_owes}
use Rattle.treiber_stack.proofs.Loading.{somes_all}
use Rattle.treiber_stack.proofs.life.stack.Stack.put_range_as.Goals as goal

pub begin-requires-clause-owes : goal.begin-requires-clause-owes
begin-requires-clause-owes g c =
    let stack = c.args.self.now in
    let put = c.put_of_places.ensures in
    let deal = subst (λ (vs : List _). PutAllDeals (shape_of stack) g.D.Tie.rule (pass_in c.args.by) vs) (ap somes put.1 ∙ somes_all put.0) c.requires.deal in
    range_owes g.D.Tie.rule stack (pass_in c.args.by) put.0 deal c.put_of_places.result put.2

pub run_whole-requires : goal.run_whole-requires
run_whole-requires g c =
    let put = c.put_of_places.ensures in
    let starts = c.in-Again.ensures put.0 put.2 in
    (put.0, starts.0.0, put.1 ∙ ap (λ (k : ℕ). places_from k put.0) (sym starts.1))

pub returns-in-Again-clause-of : goal.returns-in-Again-clause-of
returns-in-Again-clause-of g c =
    let put = c.put_of_places.ensures in
    let starts = c.in-Again.ensures put.0 put.2 in
    (c.run_whole.ensures.came put.0 starts.0.0 (put.1 ∙ ap (λ (k : ℕ). places_from k put.0) (sym starts.1))).0.0

pub returns-in-Again-clause-tied : goal.returns-in-Again-clause-tied
returns-in-Again-clause-tied g c =
    let put = c.put_of_places.ensures in
    let starts = c.in-Again.ensures put.0 put.2 in
    (c.run_whole.ensures.came put.0 starts.0.0 (put.1 ∙ ap (λ (k : ℕ). places_from k put.0) (sym starts.1))).0.0.on.rests.tied

pub returns-in-Again-clause-gives : goal.returns-in-Again-clause-gives
returns-in-Again-clause-gives g c =
    let stack = c.args.self.now in
    let put = c.put_of_places.ensures in
    let starts = c.in-Again.ensures put.0 put.2 in
    let back = c.run_whole.result.0 in
    let answer = c.run_whole.result.1 in
    let came = c.run_whole.ensures.came put.0 starts.0.0 (put.1 ∙ ap (λ (k : ℕ). places_from k put.0) (sym starts.1)) in
    let left = came.1 in
    let gives = subst (λ (v : PassView _). PutsRange (record { shape = shape_of stack; from = v; to = pass_in back }) c.args.values.now (places_from (put_of answer) put.0) answer) starts.0.1
    (subst (λ (ps : List (Slot _)). PutsRange (record { shape = shape_of stack; from = begun_with g.D.Tie.rule stack c.in-Again.begun.pass; to = pass_in back }) ps (places_from (put_of answer) put.0) answer) (sym put.1) came.0.1) in
    subst (λ (ps : List (Slot _)). PutsRange (call_of stack c.args.by back) c.args.values.now ps answer) (search rules depth 5) gives

pub returns-in-Again-clause-answered : goal.returns-in-Again-clause-answered
returns-in-Again-clause-answered g c =
    let put = c.put_of_places.ensures in
    let starts = c.in-Again.ensures put.0 put.2 in
    let whole = c.run_whole in
    let back = pass_in whole.result.0 in
    let came = whole.ensures.came put.0 starts.0.0 (put.1 ∙ ap (λ (k : ℕ). places_from k put.0) (sym starts.1)) in
    let answers = subst (λ (v : PassView _). RangeAnswers put.0 whole.result.1 v back) starts.0.1 came.0.2 in
    subst (λ (vs : List _). RangeAnswers vs whole.result.1 (pass_in c.args.by) back) (sym (ap somes put.1 ∙ somes_all put.0)) answers

pub returns-in-Again-clause-ran : goal.returns-in-Again-clause-ran
returns-in-Again-clause-ran g c =
    let stack = c.args.self.now in
    let put = c.put_of_places.ensures in
    let starts = c.in-Again.ensures put.0 put.2 in
    let whole = c.run_whole in
    let came = whole.ensures.came put.0 starts.0.0 (put.1 ∙ ap (λ (k : ℕ). places_from k put.0) (sym starts.1)) in
    let ran = subst (λ (v : PassView _). WasRangeWith g.D.Tie.rule stack v put.0 whole.result.1 whole.result.0) starts.0.1 came.0.3 in
    subst (λ (vs : List _). WasRangeWith g.D.Tie.rule stack (pass_in c.args.by) vs whole.result.1 whole.result.0) (sym (ap somes put.1 ∙ somes_all put.0)) ran

pub returns-in-Done-clause-of : goal.returns-in-Done-clause-of
returns-in-Done-clause-of g c = let put = c.put_of_places.ensures in (c.in-Done.ensures put.0 put.2).0.0

pub returns-in-Done-clause-tied : goal.returns-in-Done-clause-tied
returns-in-Done-clause-tied g c = let put = c.put_of_places.ensures in (c.in-Done.ensures put.0 put.2).0.0.on.rests.tied

pub returns-in-Done-clause-gives : goal.returns-in-Done-clause-gives
returns-in-Done-clause-gives g c =
    let stack = c.args.self.now in
    let put = c.put_of_places.ensures in
    let starts = c.in-Done.ensures put.0 put.2 in
    let back = c.in-Done.pass in
    let answer = c.in-Done.answer in
    let left = ap (λ (k : ℕ). places_from k put.0) starts.1 ∙ sym put.1 in
    let gives = subst (λ (ps : List (Slot _)). PutsRange (call_of stack c.args.by back) ps (places_from (put_of answer) put.0) answer) (sym put.1) starts.0.1 in
    subst (λ (ps : List (Slot _)). PutsRange (call_of stack c.args.by back) c.args.values.now ps answer) (search rules depth 5) gives

pub returns-in-Done-clause-answered : goal.returns-in-Done-clause-answered
returns-in-Done-clause-answered g c =
    let put = c.put_of_places.ensures in
    let starts = c.in-Done.ensures put.0 put.2 in
    subst (λ (vs : List _). RangeAnswers vs c.in-Done.answer (pass_in c.args.by) (pass_in c.in-Done.pass)) (sym (ap somes put.1 ∙ somes_all put.0)) starts.0.2

pub returns-in-Done-clause-ran : goal.returns-in-Done-clause-ran
returns-in-Done-clause-ran g c =
    let put = c.put_of_places.ensures in
    let starts = c.in-Done.ensures put.0 put.2 in
    subst (λ (vs : List _). WasRangeWith g.D.Tie.rule c.args.self.now (pass_in c.args.by) vs c.in-Done.answer c.in-Done.pass) (sym (ap somes put.1 ∙ somes_all put.0)) starts.0.3
