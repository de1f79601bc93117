use Rattle.std.proofs.Common.{◌≡◌, ◌++◌, ◌∷◌, [], arith, ap, sym, ◌∙◌, subst, append-nil, length, IsPermutation}
use Rattle.std.proofs.lemmas.List.Elements.{All-append, All-cons, All-nil}
use Rattle.std.proofs.lemmas.List.Sorted.{IsPermutation-trans, length_permutation}
use Rattle.relay.specs.Merge.{all_of, IsUp, Merging}
use Rattle.relay.proofs.Tops.{turned, length_back, merging_turned, merging_moved}
use Rattle.relay.proofs.merge.merge_many.Goals as goal

pub move_run-rest-requires-clause-room : goal.move_run-rest-requires-clause-room
move_run-rest-requires-clause-room c =
    let whole = length_permutation _ _ c.in-Some.ensures.same in
    omega (arith, whole, length_back c.take_greatest.new.lists.items c.in-Some.list, c.in-Some.list.ok.0, c.loop-list.invariant.room)

pub loop-list-smaller : goal.loop-list-smaller
loop-list-smaller c =
    let whole = length_permutation _ _ c.in-Some.ensures.same in
    let lists = c.take_greatest.new.lists.items in
    let after = ap (λ ls. length (all_of ls)) c.push_reserved.ensures.items in
    omega (arith, whole, after, length_back lists c.in-Some.list, length_back lists c.shrunk.result, ap length c.shrunk.ensures, c.move_run-rest.ensures.fewer, c.in-Some.list.ok.0, c.move_run-rest.result.0.ok.0)

pub loop-list-preserved : goal.loop-list-preserved
loop-list-preserved c =
    let old = c.loop-list.invariant in
    let taken = c.in-Some.ensures in
    let ran = c.move_run-rest.ensures in
    let lists = c.take_greatest.new.lists.items in
    let pushed = c.push_reserved.ensures in
    let start = all_of c.args.lists.items in
    let whole = length_permutation _ _ taken.same in
    let after = ap (λ ls. length (all_of ls)) pushed.items in
    let back = merging_turned start c.loop-list.all.items c.loop-list.lists.items (lists ++ c.in-Some.list ∷ []) taken.same old.merging in
    let moved = subst (λ ls. Merging start c.move_run-rest.result.1.items (ls ++ c.move_run-rest.result.0 ∷ [])) c.deref.ensures.value (ran.merging start (subst (λ ls. Merging start c.loop-list.all.items (ls ++ c.in-Some.list ∷ [])) (sym c.deref.ensures.value) back)) in
    record {
      some = omega (arith, pushed.len);
      up = rw pushed.items (All-append IsUp lists (c.shrunk.result ∷ []) taken.up.1 (All-cons IsUp c.shrunk.result [] (rw c.shrunk.ensures ran.up) (All-nil IsUp)));
      merging = rw pushed.items (merging_moved start c.move_run-rest.result.1.items lists c.move_run-rest.result.0 c.shrunk.result (sym c.shrunk.ensures) moved);
      room = omega (arith, whole, after, length_back lists c.in-Some.list, length_back lists c.shrunk.result, ap length c.shrunk.ensures, ran.room, ran.capacity, c.in-Some.list.ok.0, c.move_run-rest.result.0.ok.0, old.room);
    }

pub returns-clause-same : goal.returns-clause-same
returns-clause-same c =
    let all = c.loop-list.all.items in
    let none : all ++ all_of c.loop-list.lists.items ≡ all = ap (λ l. all ++ l) c.in_default.ensures.none ∙ append-nil all in
    IsPermutation-trans (all_of c.args.lists.items) all c.reverse.new.self.items (subst (IsPermutation (all_of c.args.lists.items)) none c.loop-list.invariant.merging.same) c.reverse.ensures.permutation

pub returns-clause-sorted : goal.returns-clause-sorted
returns-clause-sorted c = rw c.reverse.ensures.items (turned c.loop-list.all.items c.loop-list.invariant.merging.falls)
