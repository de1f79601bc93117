-- What the producer knows once it has put, or tried to.
use Rattle.std.proofs.Common.{◌≡◌, ℕ, ◌+◌, Ok, Err, sym, ap, ◌∙◌, subst, arith}
use Rattle.bounded_model.specs.declared.answers.PutRefused.{PutRefused}
use Rattle.bounded_model.specs.declared.views.PassView.{PassView}
use Rattle.bounded_model.specs.Laws.{PutGives}
use Rattle.running.specs.Ties.{PutDeals, changed_by}
use Rattle.ms_queue.specs.Calls.{QueueWith, Pass, limit_of, pass_in, room_of, shape_of}
use Rattle.example_rule.specs.declared.feed.Feed.{Feed}
use Rattle.example_rule.specs.declared.frame.Frame.{Frame}
use Rattle.example_rule.specs.declared.producer.Producer.{Producer}
use Rattle.example_rule.specs.Ends.{IsPassOf, IsProducer}
use Rattle.example_rule.specs.Fed.{count_puts}
use Rattle.example_rule.specs.Frames.{boss, feed, frame_of}
use Rattle.example_rule.proofs.Counting.{none_more, one_more, put_has_number, put_number}
use Rattle.example_rule.proofs.Feeding.{put_deals}

module _ (stream : QueueWith Frame Feed) (by : Producer) (producer : IsProducer stream by) where
  abbrev begun : PassView Frame
  begun = pass_in by.pass

  -- the next frame deals
  pub next_deals : (x : Frame) → x ≡ frame_of by.next → PutDeals (shape_of stream) feed begun x
  next_deals x is = put_deals boss frame_of (room_of stream) (limit_of stream) begun x producer.alone (is ∙ ap frame_of (sym producer.counted))

  module _ (x : Frame) (back : Pass Frame) (of : IsPassOf stream back) where
    counts_on : (d : ℕ) → (pass_in back).number ≡ begun.number → count_puts (changed_by begun.number (pass_in back).seen) ≡ d + count_puts (changed_by begun.number begun.seen) → count_puts (changed_by boss (pass_in back).seen) ≡ d + by.next
    counts_on d same more =
        subst (λ (b : ℕ). count_puts (changed_by b (pass_in back).seen) ≡ d + count_puts (changed_by b begun.seen)) producer.alone more ∙ ap (λ (m : ℕ). d + m) producer.counted

    pub after_put : (k next : ℕ) → next ≡ by.next + 1 → PutGives (shape_of stream) begun x (pass_in back) (Ok k) → IsProducer stream (record { pass = back; next = next })
    after_put k next is gives =
        let number = put_number (shape_of stream) begun (pass_in back) x (Ok k) gives in
        let counted = counts_on 1 number (one_more (shape_of stream) begun (pass_in back) x k gives) in
        record { pass = of; alone = number ∙ producer.alone; counted = omega (arith, counted, is) }

    pub after_refusal : (why : PutRefused Frame) → PutGives (shape_of stream) begun x (pass_in back) (Err why) → IsProducer stream (record { pass = back; next = by.next })
    after_refusal why gives =
        let number = put_number (shape_of stream) begun (pass_in back) x (Err why) gives in
        let more = none_more (shape_of stream) begun (pass_in back) x why gives in
        record {
          pass = of;
          alone = number ∙ producer.alone;
          counted = subst (λ (b : ℕ). count_puts (changed_by b (pass_in back).seen) ≡ count_puts (changed_by b begun.seen)) producer.alone more ∙ producer.counted;
        }

    pub has_number : (k : ℕ) → PutGives (shape_of stream) begun x (pass_in back) (Ok k) → k ≡ by.next
    has_number k gives =
        put_has_number boss frame_of (room_of stream) (limit_of stream) begun (pass_in back) x k producer.alone gives of.on.rests.rests.legal of.on.rests.tied ∙ producer.counted
