-- The check of a text answers by the rules.
use Rattle.std.proofs.Common.{◌≡◌, ℕ, List, map, Some, None, Ok, Err, refl}
use Rattle.ac_cert.specs.CertificateFaults.{Fault}
use Rattle.ac_cert.specs.declared.types.Rule.{Rule}
use Rattle.ac_claims.specs.ProofFaults.{proof_fault}
use Rattle.ac_claims.specs.Steppers.{verdict_by}
use Rattle.ac_prooftext.specs.CheckLaws.{WrittenProofsAreJudged}
use Rattle.ac_prooftext.specs.declared.types.CheckFault.TheVariants.{TooLong, TooDeep, Refused, Memory}
use Rattle.ac_claims_valid.specs.TextLaws.{TextsAreJudgedByTheRules}
use Rattle.ac_claims_valid.proofs.ProofLaw.{valid_proofs_meet_the_rules}

no_fault : (f : Fault) (named outputs : List ℕ) → verdict_by f outputs ≡ Ok named → (f ≡ None) × (named ≡ outputs)
no_fault None named outputs e = (refl, cc)
no_fault (Some x) named outputs e = absurd cc

some_fault : (f : Fault) (outputs : List ℕ) (x : ℕ × Rule) → verdict_by f outputs ≡ Err x → f ≡ None → ⊥
some_fault None outputs x e is = absurd cc
some_fault (Some y) outputs x e is = absurd cc

pub texts_are_judged_by_the_rules : WrittenProofsAreJudged → TextsAreJudgedByTheRules
texts_are_judged_by_the_rules written g outputs p (Ok v) sp h =
    let t = no_fault (proof_fault g outputs p) v.items (map (λ o. o.0) p.outputs) (written g outputs p (Ok v) sp h) in
    ((valid_proofs_meet_the_rules g outputs p).0 t.0, t.1)
texts_are_judged_by_the_rules written g outputs p (Err (Refused line r)) sp h =
    λ meets. some_fault (proof_fault g outputs p) (map (λ o. o.0) p.outputs) (line, r) (written g outputs p (Err (Refused line r)) sp h) ((valid_proofs_meet_the_rules g outputs p).1 meets)
texts_are_judged_by_the_rules written g outputs p (Err TooLong) sp h = tt
texts_are_judged_by_the_rules written g outputs p (Err TooDeep) sp h = tt
texts_are_judged_by_the_rules written g outputs p (Err (Memory e)) sp h = tt
