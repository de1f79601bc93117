-- A table that was closed with the root's seat is where its acts led.
use Rattle.std.proofs.Common.{◌≡◌, ℕ, List, [], ◌∷◌, sym, ap, ◌∙◌, subst}
use Rattle.std.specs.Prelude.{Option as Slot}
use Rattle.atomic_table.specs.Table.{Final, Seen}
use Rattle.bounded_model.specs.declared.history.Event.{Event}
use Rattle.bounded_model.specs.declared.views.RootView.{RootView}
use Rattle.bounded_model.specs.declared.views.Work.{Work}
use Rattle.std.specs.List.{AllByRecursion as Every}
use Rattle.bounded_model.specs.Machine.{state}
use Rattle.bounded_model.specs.Histories.{Later}
use Rattle.bounded_model.specs.Laws.{IsSound}
use Rattle.bounded_model.proofs.Whole.{whole}
use Rattle.machine.specs.declared.seats.View.{View}
use Rattle.machine.specs.declared.seats.View.TheVariants.{AtRoot}
use Rattle.machine.specs.Seats.{Acts, Rooted, Knows, nothing}
use Rattle.running.specs.Machine.{Names, Machine}
use Rattle.running.specs.Rule.{Rule}
use Rattle.running.specs.Acts.{Follows, HasDone, Worked, played}
use Rattle.running.specs.Ends.{IsRunAfter}

module _ {T L O : Type 0} {names : Names L O} (m : Machine T L O names) where
  works : (acts : Acts L) (account : List (ℕ × List (Event T))) (ws : List (Work T)) → Every (Worked names m.core acts account) ws → Every (λ w. HasDone names m.core acts w.number w.steps w.answers) ws
  works acts account [] d = tt
  works acts account (w ∷ ws) d = (d.0.1, works acts account ws d.1)

  pub runs_all : {root : L} {ks : Acts L} (id : ℕ) (v : View T L) (r : RootView T) (words : List ℕ) (slots : List (Slot T)) (left : List T) → (final : Final (Seen (Rule m) id v) words slots) → v ≡ AtRoot r ks nothing root → IsSound m.core.shape r
      → left ≡ (state m.core.shape final.1.0.history).values → IsRunAfter m ks r left
  runs_all {root} {ks} id v r words slots left final is sound are =
      let rule = final.1.0 in
      let led = rule.led in
      let rooted : Rooted rule.history r [] = subst (Knows rule.history) is (rule.seated.each id v final.1.1).knows in
      let follows : Follows names m.core (played names m.core led.acts).line led.acts (AtRoot r ks nothing root) = subst (Follows names m.core (played names m.core led.acts).line led.acts) is (led.each id v final.1.1) in
      record {
        extends = follows.sees.1;
        run = record {
          acts = led.acts;
          allowed = led.allowed;
          begins = subst (Later r.seen) (sym led.history_is) rooted.seen;
          whole = λ nobody. led.history_is ∙ whole m.core.shape rule.history r rooted.seen sound nobody rooted.joined rooted.unknown;
          values = are ∙ sym (ap (λ (h : List (Event T)). (state m.core.shape h).values) led.history_is);
          rests = follows.lines;
          proper = led.proper;
          fresh = led.fresh;
          unmade = follows.counts.0;
          worked = works led.acts r.account r.works follows.counts.1;
        };
      }
