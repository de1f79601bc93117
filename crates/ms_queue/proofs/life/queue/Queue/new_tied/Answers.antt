use Rattle.std.proofs.Common.{◌≡◌, ℕ, ◌<◌, length, rules, subst}
use Rattle.std.specs.Prelude.{slice_index}
use Rattle.tagged_index.specs.Limits.{capacity_of, tag_limit_of}
use Rattle.queue_table.specs.Layout.{words_for, start_at}
use Rattle.queue_table.proofs.Opening.{opens}
use Rattle.ms_queue.proofs.life.queue.Queue.new_tied.Goals as goal

pub vacant-requires : goal.vacant-requires
vacant-requires g c =
    let l = c.args.limits in
    let xs = c.in_ok-words.words.items in
    let e = subst (λ (n : ℕ). (length xs ≡ words_for n) × ((k : ℕ) → k < words_for n → slice_index xs k ≡ start_at n k)) c.capacity.ensures c.in_ok-words.ensures in
    opens g.row.T.Denot (capacity_of l) (tag_limit_of l) g.D.Tie.rule g.D.Tie.is_tie c.as_slice.result.now xs c.as_slice.ensures.value l.some_capacity (search rules) (search rules) e.0 e.1 _ c.capacity-count.ensures
