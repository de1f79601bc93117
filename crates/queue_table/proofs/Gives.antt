-- What a put gives.
use Rattle.tagged_index.specs.Limits.{capacity_of, tag_limit_of}
use Rattle.tagged_index.specs.declared.limit.Limits.{Limits}
use Rattle.queue_machine.specs.Answers.{shape}
use Rattle.queue_table.specs.Core.{queue_with}
use Rattle.std.proofs.Common.{◌≡◌, ℕ, ⊎_elim, List, [], ◌∷◌, sym, ap, ◌∙◌, subst, arith}
use Rattle.std.specs.Prelude.{Result, Ok, Err}
use Rattle.bounded_model.specs.declared.answers.Word.TheVariants.{Cells, Nodes, Next, Free as FreeWord, Top, Count}
use Rattle.bounded_model.specs.declared.answers.PutRefused.{PutRefused}
use Rattle.bounded_model.specs.declared.answers.PutRefused.TheVariants.{Full, Closed, Spent}
use Rattle.bounded_model.specs.declared.history.Event.{Event}
use Rattle.bounded_model.specs.declared.history.Event.TheVariants.{Hold, Put, Free}
use Rattle.bounded_model.specs.declared.views.PassView.{PassView}
use Rattle.bounded_model.specs.Histories.{own}
use Rattle.bounded_model.specs.Laws.{Adds, PutGives, BacksOut}
use Rattle.machine.specs.Seats.{pass_of}
use Rattle.machine.specs.declared.seats.View.{View}
use Rattle.queue_machine.specs.declared.lines.Answer.TheVariants.{Put as AnswerPut}
use Rattle.queue_machine.specs.declared.lines.Line.{Line}
use Rattle.queue_machine.specs.Deeds.{Deeds}
use Rattle.queue_machine.specs.Machine.{ends}
use Rattle.queue_machine.specs.declared.lines.Call.{Call}
use Rattle.queue_machine.specs.declared.lines.Call.TheVariants.{Put as CallPut}
use Rattle.queue_table.specs.Lines.{call_of}
use Rattle.queue_table.specs.declared.operation.Operation.{Operation}
use Rattle.running.specs.Going.{Ended}

module _ {T : Type 0} (rule : List (Event T) → Type 0) (k : Limits) (o : Operation T) (v : View T (Line T)) (begun : PassView T) (x : T) where
  abbrev EndsSo : Result ℕ (PutRefused T) → Type 0
  EndsSo r = Ended (queue_with T (capacity_of k) (tag_limit_of k) rule) o v begun (ends (AnswerPut r))

  abbrev Done : Result ℕ (PutRefused T) → Type 0
  Done r = Deeds (pass_of v).number (CallPut x) (ends (AnswerPut r)) begun.seen (pass_of v).seen

  adds : (r : Result ℕ (PutRefused T)) (e : EndsSo r) (d : Done r) (events : List (Event T)) → own (pass_of v).number d.between ≡ events → Adds begun (pass_of v) events
  adds r e d events made = record {
    number = e.number;
    steps = e.steps;
    between = d.between;
    seen = d.is;
    own_events = ap (λ (n : ℕ). own n d.between) (sym e.number) ∙ made;
  }

  -- it took no cell, or gave it back
  none_held : (r : Result ℕ (PutRefused T)) (e : EndsSo r) (d : Done r) → own (pass_of v).number d.between ≡ [] → BacksOut begun (pass_of v) 1
  none_held r e d made = record { held = 0; at_most = omega arith; adds = adds r e d [] made }

  gave_back : (r : Result ℕ (PutRefused T)) (e : EndsSo r) (d : Done r) → own (pass_of v).number d.between ≡ Free (pass_of v).number 1 ∷ Hold (pass_of v).number ∷ [] → BacksOut begun (pass_of v) 1
  gave_back r e d made = record {
    held = 1;
    at_most = omega arith;
    adds = adds r e d (Free begun.number 1 ∷ Hold begun.number ∷ []) (made ∙ ap (λ (n : ℕ). Free n 1 ∷ Hold n ∷ []) e.number);
  }

  gives_so : (r : Result ℕ (PutRefused T)) → EndsSo r → Done r → PutGives (shape (capacity_of k) (tag_limit_of k)) begun x (pass_of v) r
  gives_so (Ok n) e d = adds (Ok n) e d (Put begun.number (x ∷ []) n ∷ Hold begun.number ∷ []) (d.made ∙ ap (λ (j : ℕ). Put j (x ∷ []) n ∷ Hold j ∷ []) e.number)
  gives_so (Err (Full y)) e d = (d.made.0, adds (Err (Full y)) e d [] d.made.1, e.tells)
  gives_so (Err (Closed y)) e d = (d.made.0, ⊎_elim (λ m. none_held (Err (Closed y)) e d m) (λ m. gave_back (Err (Closed y)) e d m) d.made.1, e.tells)
  gives_so (Err (Spent y Cells t)) e d = (d.made.0, none_held (Err (Spent y Cells t)) e d d.made.1, e.tells)
  gives_so (Err (Spent y (Next j) t)) e d = (d.made.0, gave_back (Err (Spent y (Next j) t)) e d d.made.1, e.tells)
  gives_so (Err (Spent y Nodes t)) e d = absurd d.made
  gives_so (Err (Spent y FreeWord t)) e d = absurd d.made
  gives_so (Err (Spent y Top t)) e d = absurd d.made
  gives_so (Err (Spent y Count t)) e d = absurd d.made

-- an operation that is a put of x gives what a put of x promises
pub put_gives : {T : Type 0} {rule : List (Event T) → Type 0} (k : Limits) (x : T) (o : Operation T) (v : View T (Line T)) (begun : PassView T) → call_of o ≡ CallPut x → (r : Result ℕ (PutRefused T)) → Ended (queue_with T (capacity_of k) (tag_limit_of k) rule) o v begun (ends (AnswerPut r)) → PutGives (shape (capacity_of k) (tag_limit_of k)) begun x (pass_of v) r
put_gives {rule = rule} k x o v begun is r e = gives_so rule k o v begun x r e (subst (λ (call : Call _). Deeds (pass_of v).number call (ends (AnswerPut r)) begun.seen (pass_of v).seen) is e.deeds)
