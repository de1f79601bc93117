use Rattle.std.proofs.Common.{rules, ◌≡◌, ◌≤◌, refl, inl, inr, map, take, count_by, ◌+◌, [], ◌∷◌, ◌++◌, string_bytes, arith, length-append}
use Rattle.lockfree_tool.specs.Sources.{IsSourceOf, given, is_input}
use Rattle.std.proofs.lemmas.List.{length-map}
use Rattle.std.proofs.lemmas.Result.{err_from_is_err_and}
use Rattle.lockfree_tool.specs.declared.failure.Failure.TheVariants.{File as FileFailed, FileUnopened}
use Rattle.audit.specs.declared.faults.ReadFault.TheVariants.{NoMemory}
use Rattle.lockfree_tool.proofs.Sources.{given-once, names-around, names-more, none-there, once-more, zip-more}
use Rattle.lockfree_tool.proofs.opening.open_sources.Goals as goal

pub loop-place-preserved : goal.loop-place-preserved
loop-place-preserved g c =
    let sources = c.loop-place.opened.items in
    let source = c.in_ok-source.source in
    let name = c.index-names-place.result in
    let pushed : c.push.new.self.items ≡ sources ++ source ∷ [] = search (rules, c.push.ensures.items, c.in_ok-map_err.ensures.cases, c.in_ok-map_err.ensures.variant) in
    let is_file = g.F.OpenFiles.is_file c.args.files.now in
    let named : IsSourceOf is_file (string_bytes name) source = rw c.as_str.ensures.value at (rw c.in_ok-source.ensures.ok_part at c.open_source-source.ensures.of) in
    let used = rw c.in_ok-source.ensures.ok_part at c.open_source-source.ensures.once in
    let names = names-more string_bytes c.args.names.now c.loop-place.place name c.loop-place-test.true c.index-names-place.is in
    rw pushed record {
      long = omega (arith, length-append sources (source ∷ []), c.loop-place.invariant.long);
      each = rw names (zip-more (IsSourceOf is_file) _ sources _ source c.loop-place.invariant.each named);
      once = once-more is_input sources source _ _ _ used c.loop-place.invariant.once;
    }

pub returns-in_err-source-clause-fault : goal.returns-in_err-source-clause-fault
returns-in_err-source-clause-fault g c =
    let p = err_from_is_err_and c.from_residual.result c.from_residual.ensures.1 in
    let i = c.loop-place.invariant in
    let name = c.index-names-place.result in
    let around = names-around string_bytes c.args.names.now c.loop-place.place name c.loop-place-test.true c.index-names-place.is in
    let none = none-there c.open_source-source.result c.in_err-source.field-0.0 (FileUnopened (c.loop-place.place + 1)) _ c.in_err-source.ensures.value c.open_source-source.ensures.none in
    let one : count_by is_input c.loop-place.opened.items ≤ 1 = omega (arith, i.once, given-once c.args.input) in
    rw (p.1, p.2, none.0) (
      c.loop-place.place + 1,
      inl (
        refl,
        record {
          before = map string_bytes (take c.loop-place.place c.args.names.now);
          name = string_bytes name;
          after = around.0;
          opened = c.loop-place.opened.items;
          left = given c.loop-place.input;
          all = around.1;
          number_is = omega (arith, around.2);
          sources = record { each = i.each; once = one };
          left_is = i.once;
          none = rw c.as_str.ensures.value at none.1;
        },
      ),
    )

pub returns-in_err-map_err-clause-fault : goal.returns-in_err-map_err-clause-fault
returns-in_err-map_err-clause-fault g c =
    let p = err_from_is_err_and c.from_residual-in_err-map_err.result c.from_residual-in_err-map_err.ensures.1 in
    let is : c.in_err-map_err.field-0.0 ≡ FileFailed (c.loop-place.place + 1) NoMemory = search (rules, c.in_err-map_err.ensures.cases, c.in_err-map_err.ensures.variant) in
    let many = length-map c.args.names.now string_bytes in
    rw (p.1, p.2) (c.loop-place.place + 1, inr (is, omega arith, omega (arith, many, c.loop-place-test.true)))
