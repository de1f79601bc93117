use Rattle.std.proofs.Common.{◌≡◌, ◌<◌, ℕ, List, Vec, slice_index_or, arith, ap, sym, subst, length, vec_len, ◌∙◌}
use Rattle.std.proofs.lemmas.Bool.Decides.{nat_tests}
use Rattle.std.proofs.lemmas.List.{get_or_default}
use Rattle.std.specs.declared.alloc.Global.{Global}
use Rattle.relay.specs.declared.outcome.Taken.{Taken}
use Rattle.relay.specs.Merge.{IsTop, IsUp, IsAbove}
use Rattle.relay.proofs.Zips.{is_nil}
use Rattle.relay.proofs.Tops.{All-remove, above_others, all_empty, taken_out}
use Rattle.relay.proofs.merge.take_greatest.Goals as goal

-- what `greatest` says of the slice holds of the list
top_of : (slice lists : List (Vec Taken Global)) (place : ℕ) (l : Vec Taken Global) → slice ≡ lists → ((m : Vec Taken Global) → m ≡ slice_index_or slice place m → IsTop slice m) → l ≡ slice_index_or lists place l → IsTop lists l
top_of slice lists place l e top at = subst (λ ls. IsTop ls l) e (top l (subst (λ ls. l ≡ slice_index_or ls place l) (sym e) at))

pub returns-then-is_empty-clause-none : goal.returns-then-is_empty-clause-none
returns-then-is_empty-clause-none c =
    let list = c.index.result.now in
    let none : vec_len list ≡ 0 = grind (arith, nat_tests) in
    let top = top_of c.deref.result.now c.args.lists.now.items c.greatest-place.result list c.deref.ensures.value c.greatest-place.ensures.top c.index.ensures in
    all_empty c.args.lists.now.items list top (is_nil list.items (omega (arith, none, list.ok.0)))

pub returns-clause-up : goal.returns-clause-up
returns-clause-up c =
    let lists = c.args.lists.now.items in
    let within : c.greatest-place.result < length lists = omega (arith, c.greatest-place.ensures.place, c.deref.ensures.len, ap length c.deref.ensures.value) in
    let own : IsUp c.remove.result = subst IsUp (sym c.remove.ensures.value) (c.requires.up c.greatest-place.result c.remove.result within) in
    (own, rw c.remove.ensures.items (All-remove IsUp lists c.greatest-place.result c.requires.up))

pub returns-clause-above : goal.returns-clause-above
returns-clause-above c =
    let lists = c.args.lists.now.items in
    let list = c.remove.result in
    let within : c.greatest-place.result < length lists = omega (arith, c.greatest-place.ensures.place, c.deref.ensures.len, ap length c.deref.ensures.value) in
    let same : c.index.result.now ≡ list = c.index.ensures ∙ (get_or_default lists c.greatest-place.result c.index.result.now list within ∙ sym c.remove.ensures.value) in
    let seen : 0 < vec_len c.index.result.now = grind (arith, nat_tests) in
    let some : 0 < vec_len list = subst (λ l. 0 < vec_len l) same seen in
    let top = top_of c.deref.result.now lists c.greatest-place.result list c.deref.ensures.value c.greatest-place.ensures.top c.remove.ensures.value in
    (some, subst (IsAbove list) (sym c.remove.ensures.items) (above_others lists c.greatest-place.result list top))

pub returns-clause-same : goal.returns-clause-same
returns-clause-same c =
    let within : c.greatest-place.result < length c.args.lists.now.items = omega (arith, c.greatest-place.ensures.place, c.deref.ensures.len, ap length c.deref.ensures.value) in
    rw c.remove.ensures.items (taken_out c.args.lists.now.items c.greatest-place.result c.remove.result within c.remove.ensures.value)
