use Rattle.stack_tests.proofs.fold_parts.a_fold_leaves_what_is_put_after_it_took_all.Goals as goal

pub fold_in_parts-answer-requires : goal.fold_in_parts-answer-requires
fold_in_parts-answer-requires g c = (_, _, (c.in-Again.ensures.tried _ _ c.begin_fold.ensures.0).0)
