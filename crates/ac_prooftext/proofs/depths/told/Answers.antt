use Rattle.std.proofs.Common.{rules, ◌≡◌, ◌+◌, ◌++◌, Some, subst, sym}
use Rattle.ac_prooftext.specs.ProofTexts.{IsNesting, lines_text, capped}
use Rattle.ac_prooftext.proofs.Judging.{incomplete, complete}
use Rattle.ac_prooftext.proofs.depths.told.Goals as goal

pub returns-then-is_complete : goal.returns-then-is_complete
returns-then-is_complete c = λ ls h lines free. complete c.args.reader.now c.args.rest.now (search rules) ls h

pub returns-else-is_complete : goal.returns-else-is_complete
returns-else-is_complete c = λ ls h lines free.
    let fault : c.saturating_add.result ≡ capped (c.args.reader.now.lines + 1) = search rules in
    subst (λ line. IsNesting (lines_text ls ++ c.args.rest.now) c.args.reader.now.deepest (Some line)) (sym fault)
    (incomplete c.args.reader.now c.args.rest.now free (λ done. let yes = c.is_complete.ensures.1 done in absurd (search rules)) ls h lines)
