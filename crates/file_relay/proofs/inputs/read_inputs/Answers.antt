use Rattle.std.proofs.Common.{◌≡◌, ◌∷◌, [], ◌++◌, length, refl, sym, ap, subst, ◌∙◌, append_assoc, arith, length-append, ◌+◌, ◌<◌, ◌^◌}
use Rattle.std.specs.Vec.Iter.{into_iter_items}
use Rattle.file_relay.specs.Inputs.{AreRead}
use Rattle.file_relay.proofs.Readers.{as-many, next-more}
use Rattle.file_relay.proofs.inputs.read_inputs.Goals as goal

pub read_input-requires : goal.read_input-requires
read_input-requires g c =
    let at = c.loop-reader in
    let many = as-many g.R.Read.remaining 0 at.yielded at.inputs.items at.invariant.read in
    let all = ap length at.invariant.all in
    let sum = length-append at.yielded (into_iter_items at.reader-iterator) in
    let few : length at.inputs.items < 2 ^ 32 = omega (arith, many, all, sum, c.requires) in
    few

pub loop-reader-preserved : goal.loop-reader-preserved
loop-reader-preserved g c =
    let at = c.loop-reader in
    let reader = c.in-Some.reader in
    let steps : into_iter_items at.reader-iterator ≡ reader ∷ into_iter_items c.next.new.self = c.in-Some.ensures.steps.0 in
    let more = c.in-Ok.ensures.read in
    record {
      can = tt;
      finite = tt;
      all = append_assoc at.yielded (reader ∷ []) _ ∙ rw (← steps) at.invariant.all;
      left = let was = at.invariant.left in
          let gone = c.in-Some.ensures.steps.1 in
          let short = ap length steps in
          omega arith;
      read = subst (λ l. AreRead g.R.Read.remaining 0 (at.yielded ++ reader ∷ []) l) (sym more.1)
          (next-more g.R.Read.remaining at.yielded at.inputs.items reader more.0 at.invariant.read more.2);
    }

pub returns-in-Err-clause-fault : goal.returns-in-Err-clause-fault
returns-in-Err-clause-fault g c =
    let at = c.loop-reader in
    let reader = c.in-Some.reader in
    let steps : into_iter_items at.reader-iterator ≡ reader ∷ into_iter_items c.next.new.self = c.in-Some.ensures.steps.0 in
    let many = as-many g.R.Read.remaining 0 at.yielded at.inputs.items at.invariant.read in (
      c.len.result + 1,
      c.in-Err.fault,
      refl,
      record {
        before = at.yielded;
        reader = reader;
        after = into_iter_items c.next.new.self;
        inputs = at.inputs.items;
        all = sym at.invariant.all ∙ ap (λ l. at.yielded ++ l) steps;
        number_is = let long = c.len.ensures in omega arith;
        read = at.invariant.read;
        has = c.in-Err.ensures.fault;
      },
    )
