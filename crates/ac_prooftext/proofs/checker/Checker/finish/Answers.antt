use Rattle.std.proofs.Common.{rules, ◌≡◌, ◌≤◌, ◌+◌, ◌∙◌, sym}
use Rattle.ac_prooftext.specs.ProofTexts.{capped}
use Rattle.ac_prooftext.proofs.Answering.{too_deep, text_refused, answered}
use Rattle.ac_prooftext.proofs.checker.Checker.finish.Goals as goal

pub returns-then-self-gt-MAX_DEPTH-clause-answer : goal.returns-then-self-gt-MAX_DEPTH-clause-answer
returns-then-self-gt-MAX_DEPTH-clause-answer c = λ g outputs text h. too_deep g outputs text c.args.self h c.if-self-gt-MAX_BYTES.false c.if-self-gt-MAX_DEPTH.true

pub returns-then-not-is_complete-clause-answer : goal.returns-then-not-is_complete-clause-answer
returns-then-not-is_complete-clause-answer c = λ g outputs text h.
    text_refused g outputs text c.args.self c.saturating_add.result h c.if-self-gt-MAX_BYTES.false c.if-self-gt-MAX_DEPTH.false (λ done. let yes = c.is_complete.ensures.1 (done.0, done.1, c.as_slice.ensures.value ∙ done.2) in absurd (search rules)) (search rules)

pub returns-clause-answer : goal.returns-clause-answer
returns-clause-answer c = λ g outputs text h.
    let done = c.is_complete.ensures.0 (search rules) in
    answered g outputs text c.args.self c.judged.result h c.if-self-gt-MAX_BYTES.false c.if-self-gt-MAX_DEPTH.false (done.0, done.1, sym c.as_slice.ensures.value ∙ done.2) c.judged.ensures
