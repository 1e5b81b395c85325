use Rattle.std.proofs.Common.{rules, ◌∷◌, [], ◌++◌, ◌<◌, ◌^◌, length}
use Rattle.ac_prooftext.proofs.Judging.{line_more, free_more}
use Rattle.ac_prooftext.proofs.ReadSteps.{spelled_read, same_read, faulty_read}
use Rattle.ac_prooftext.proofs.read.read_proof.Goals as goal

pub loop-line-preserved : goal.loop-line-preserved
loop-line-preserved c =
    let i = c.loop-line.invariant in (
      i.0 ++ c.in-Some.line.now ∷ [],
      (line_more c.args.bytes.now c.loop-line.rest.now c.in-Some.line.now c.in-Some.behind.now i.0 i.1.0 c.in-Some.ensures.1, free_more i.0 c.in-Some.line.now i.1.1 c.in-Some.ensures.0, c.in_ok-read_line.ensures i.0 i.1.2),
    )

pub returns-then-not-is_complete-clause-fault : goal.returns-then-not-is_complete-clause-fault
returns-then-not-is_complete-clause-fault c =
    let i = c.loop-line.invariant in
    faulty_read c.args.alloc c.args.bytes.now c.loop-line.rest.now i.0 c.loop-line.reader c.loop-line.proof c.saturating_add.result i.1.0 i.1.2 i.1.1 c.in_default.ensures (λ done. let yes = c.is_complete.ensures.1 done in absurd (search rules)) (search rules)

pub returns-clause-proof : goal.returns-clause-proof
returns-clause-proof c =
    let i = c.loop-line.invariant in
    let short : length c.args.bytes.now < 2 ^ 63 = search rules in
    spelled_read c.args.alloc c.args.bytes.now c.loop-line.rest.now i.0 c.loop-line.reader c.loop-line.proof c.finish.result i.1.0 short i.1.2 (c.is_complete.ensures.0 (search rules)) c.finish.ensures

pub returns-clause-same : goal.returns-clause-same
returns-clause-same c =
    let i = c.loop-line.invariant in
    let short : length c.args.bytes.now < 2 ^ 63 = search rules in
    same_read c.args.alloc c.args.bytes.now c.loop-line.rest.now i.0 c.loop-line.reader c.loop-line.proof c.finish.result i.1.0 short i.1.2 (c.is_complete.ensures.0 (search rules)) c.finish.ensures
