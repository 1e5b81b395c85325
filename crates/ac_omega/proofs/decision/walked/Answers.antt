use Rattle.std.proofs.Common.{◌∙◌, inl}
use Rattle.ac_omega.proofs.Deciding.{normal-made, normal-wide, walk-is, err-decides, refutations-of, question-bound}
use Rattle.ac_omega.proofs.decision.walked.Goals as goal

pub returns-in-Err-Wide-clause-exact : goal.returns-in-Err-Wide-clause-exact
returns-in-Err-Wide-clause-exact c = inl (normal-wide c.args.strategy c.args.budget c.args.conj.now (rw c.in-Err-Wide.field-0-is at c.in-Err-Wide.ensures.exact))

pub search_all-requires-clause-made : goal.search_all-requires-clause-made
search_all-requires-clause-made c = normal-made c.args.conj.now c.in-Ok.normal c.requires.made c.in-Ok.ensures.exact.1

pub returns-in-Ok-Empty-clause-exact : goal.returns-in-Ok-Empty-clause-exact
returns-in-Ok-Empty-clause-exact c =
    let w = walk-is c.args.strategy c.args.budget c.args.conj.now c.in-Ok.normal c.with_rows-met.result c.in-Ok.ensures.exact.0 c.in-Ok.ensures.exact.1 (rw c.as_slice.ensures at c.with_rows-met.ensures) in
    w ∙ (rw c.in-Ok-Empty.field-0-is at c.in-Ok-Empty.ensures.exact)

pub returns-in-Ok-Empty-clause-refuted : goal.returns-in-Ok-Empty-clause-refuted
returns-in-Ok-Empty-clause-refuted c =
    refutations-of c.args.conj.now c.in-Ok.normal c.in-Ok-Empty.refutation c.in-Ok.ensures.exact.0 c.in-Ok.ensures.exact.1 (rw c.in-Ok-Empty.field-0-is at c.in-Ok-Empty.ensures.refuted)

pub returns-in-Ok-Empty-clause-bound : goal.returns-in-Ok-Empty-clause-bound
returns-in-Ok-Empty-clause-bound c =
    question-bound c.args.conj.now c.with_rows-met.result c.in-Ok-Empty.maxima (rw c.as_slice.ensures at c.with_rows-met.ensures) (rw c.in-Ok-Empty.field-0-is at c.in-Ok-Empty.ensures.risen)

pub returns-in-Ok-test-clause-exact : goal.returns-in-Ok-test-clause-exact
returns-in-Ok-test-clause-exact c =
    let w = walk-is c.args.strategy c.args.budget c.args.conj.now c.in-Ok.normal c.with_rows-met.result c.in-Ok.ensures.exact.0 c.in-Ok.ensures.exact.1 (rw c.as_slice.ensures at c.with_rows-met.ensures) in
    (w ∙ (rw c.in-Ok-Found.field-0-is at c.in-Ok-Found.ensures.exact), rw c.deref.ensures.value at c.in-Ok-test.ensures)

pub returns-in-Err-clause-exact : goal.returns-in-Err-clause-exact
returns-in-Err-clause-exact c =
    let w = walk-is c.args.strategy c.args.budget c.args.conj.now c.in-Ok.normal c.with_rows-met.result c.in-Ok.ensures.exact.0 c.in-Ok.ensures.exact.1 (rw c.as_slice.ensures at c.with_rows-met.ensures) in
    err-decides c.in-Err.stop c.args.conj.now _ _ w c.in-Err.ensures.exact
