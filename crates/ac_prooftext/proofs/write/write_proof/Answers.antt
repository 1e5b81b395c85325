use Rattle.std.proofs.Common.{rules, ◌≡◌, subst, sym}
use Rattle.std.specs.Prelude.{is_some}
use Rattle.ac_claims.specs.ProofMachine.{lines_of}
use Rattle.ac_prooftext.specs.ProofTexts.{IsSpelling, deepest, proof_text}
use Rattle.ac_prooftext.proofs.Excluding.{spelled_proof}
use Rattle.ac_prooftext.proofs.WriteSteps.{whole_text}
use Rattle.ac_prooftext.proofs.write.write_proof.Goals as goal

pub returns-clause-spelling : goal.returns-clause-spelling
returns-clause-spelling c = λ spelled.
    let p = c.args.proof.now in
    let is : c.write_items.new.text.items ≡ proof_text p = whole_text p c.write_format.new.text c.write_items.new.text (search rules) c.in_ok-write_items.ensures in
    subst (λ text. IsSpelling text (deepest (is_some p.heads) (lines_of p))) (sym is) (spelled_proof p spelled)
