-- What any table of a container says as a whole.
use Rattle.std.proofs.Common.{◌≡◌, ℕ, ◌≤◌, ◌⊎◌, List, [], ◌∷◌, ◌++◌, refl, sym, subst, ◌∙◌, inl, inr}
use Rattle.std.specs.Prelude.{Option as Slot}
use mathlib.Core.Option.{Option}
use Rattle.atomic_table.specs.Table.{State}
use Rattle.bounded_model.specs.declared.history.Event.{Event}
use Rattle.bounded_model.specs.declared.history.Order.TheVariants.{Fifo, Lifo}
use Rattle.bounded_model.specs.Machine.{Shape, Legal}
use Rattle.bounded_model.specs.Histories.{Later}
use Rattle.bounded_model.proofs.Balance.{all_there, values_of-sent, first_in_first_out}
use Rattle.bounded_model.proofs.Hands.{within_capacity}
use Rattle.bounded_model.proofs.Newest.{takes_latest}
use Rattle.bounded_model.proofs.Numbers.{numbers_count, sends_count, takes_count}
use Rattle.bounded_model.proofs.Staying.{closed_ends_puts, shut_ends_takes}
use Rattle.machine.specs.declared.seats.View.{View}
use Rattle.running.specs.Machine.{Names, Machine}
use Rattle.running.specs.Rule.{Rule}
use Rattle.step_core.specs.Linearizable.{Object}
use Rattle.step_core.proofs.Full.{hands_in}
use Rattle.runs.specs.Heard.{IsLinearizable}
use Rattle.runs.specs.Table.{HoldAtMost, IsHistory, IsQueueHistory, IsStackHistory, OneHistory, LedTo}

module _ {T : Type 0} where
  cut : (xs ys a b : List (Event T)) → xs ++ a ≡ ys ++ b → Later a b ⊎ Later b a
  cut [] ys a b e = inr (record { more = ys; is = e })
  cut (x ∷ xs) [] a b e = inl (record { more = x ∷ xs; is = sym e })
  cut (x ∷ xs) (y ∷ ys) a b e = let rest : xs ++ a ≡ ys ++ b = cc in cut xs ys a b rest

  -- of two parts of one history one is a part of the other
  pub in_order : {a b h : List (Event T)} → Later a h → Later b h → Later a b ⊎ Later b a
  in_order {a} {b} {h} la lb = cut la.more lb.more a b (sym la.is ∙ lb.is)

  module _ (c : Shape) (h : List (Event T)) (legal : Legal c h) where
    pub history : IsHistory c h
    history = record {
      legal = legal;
      none_lost = all_there c h legal;
      closed = λ more older is k. closed_ends_puts c more older (subst (Legal c) is legal) k;
      shut = λ more older is k. shut_ends_takes c more older (subst (Legal c) is legal) k;
      room = within_capacity c h legal;
    }

    pub queue_history : c.order ≡ Fifo → IsQueueHistory c h
    queue_history fifo = record {
      is = history;
      values = values_of-sent h ∙ first_in_first_out c h fifo legal;
      puts = (sends_count c h fifo legal).1;
      takes = (takes_count c h fifo legal).1;
    }

    pub stack_history : c.order ≡ Lifo → IsStackHistory c h
    stack_history lifo = record {
      is = history;
      values = λ newer e older is. takes_latest c newer e older lifo (subst (Legal c) is legal);
      numbers = numbers_count c h lifo legal;
    }

module _ {T L O : Type 0} {names : Names L O} (m : Machine T L O names) (s : State (Slot T) (View T L)) (r : Rule m s) where
  pub one_history : OneHistory r.history s.views
  one_history = record {
    passes = λ j p b l at. (r.seated.each j _ at).knows;
    apart = λ j k p q b c l n ne at at' same. r.seated.apart j k _ _ ne at at' p.number refl same;
    in_one_order = λ j k p q b c l n at at'. in_order (r.seated.each j _ at).knows.seen (r.seated.each k _ at').knows.seen;
    seats = λ j v at. (r.seated.each j v at).knows;
  }

  -- no call of the acts has more cells in hand than it may
  pub hold_at_most : {C A : Type 0} (call_at : L → C) (answer : L → Option A) (o : Object T C A) (few : ℕ) → ((call : C) → o.most call ≤ few) → IsLinearizable names m.core call_at answer o r.led.acts → HoldAtMost o.shape few r.history
  hold_at_most call_at answer o few each l more older is = hands_in o few each l.course l.right more older (l.same_history ∙ r.led.history_is ∙ is)

  pub led_to : LedTo names m.core r.led.acts (m.core.read s.words s.homes) r.history s.views
  led_to = record {
    proper = r.led.proper;
    memory_is = r.led.memory_is;
    history_is = r.led.history_is;
    passes = λ j p b l at. (r.led.each j _ at).counts;
  }
