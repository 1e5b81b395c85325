-- The claims of a valid proof that stops at the recurrence pairs stand, so that no obligation is a mismatch.
use Rattle.std.proofs.Common.{◌≡◌, sym, inl, inr, ℕ, zero, suc, ◌+◌, List, [], ◌∷◌, length, Some, ap, ◌∙◌, subst, arith}
use Rattle.std.specs.Prelude.{slice_get}
use Rattle.std.specs.List.{AllByRecursion}
use Rattle.ac_forms.specs.Rows.{HaveModuli}
use Rattle.ac_syntax.specs.declared.tree.Position.{Position}
use Rattle.ac_poly.specs.Model.{model_of}
use Rattle.ac_poly.specs.declared.types.Model.{Model}
use Rattle.ac_cert.specs.CertificateFaults.{first_fault_of}
use Rattle.ac_cert.specs.declared.types.Rule.TheVariants as rule
use Rattle.ac_cert.proofs.Soundness.{first-none}
use Rattle.ac_claims.specs.PlanFaults.{fault_unless}
use Rattle.ac_claims.specs.ProofFaults.{is_point, head_lines, heads_fault, claims_fault, claim_lines, outputs_fault, due_from, trees_fault, IsValidProof}
use Rattle.ac_claims.specs.Soundness.{pairing_of}
use Rattle.ac_claims.specs.declared.types.Claim.{Claim}
use Rattle.ac_widen.specs.Claims.{IsClaimRow}
use Rattle.ac_widen.specs.Combinations.{Each}
use Rattle.ac_widen.proofs.Standing.{stands_no_mismatch}
use Rattle.ac_widen_programs.specs.PairSetting.{setting}
use Rattle.ac_widen_programs.proofs.Lawful.{pairs_are_a_setting, search_decides_pairs}
use Rattle.ac_unfold_plans.specs.PlanStops.{claim_at, claims_of, programs_of}
use Rattle.ac_unfold_plans.specs.ProofDecisions.{StoppedProofsDecide, StoppedProofsStand, SearchesSayEqual}
use Rattle.ac_unfold_plans.proofs.Handled.{claims_stand}
use Rattle.ac_unfold_plans.proofs.Claimed.{IsClaimed, claim_rows, claim_met, within_claim}
use Rattle.ac_unfold_plans.proofs.Trees.{claimed_handled}
use Rattle.ac_unfold_plans.proofs.Outputs.{output_claimed}
use Rattle.ac_claims.proofs.Headline.{moduli_at}

pub stopped_proofs_stand : StoppedProofsStand
stopped_proofs_stand pair order recurrent template part proof d outputs named =
    let g = programs_of pair in
    let valid : IsValidProof g pair.outputs proof = subst (λ (n : Model). IsValidProof (pairing_of pair (model_of pair.left pair.context) n) pair.outputs proof) d.models.right_is (subst (λ (n : Model). IsValidProof (pairing_of pair n d.right) pair.outputs proof) d.models.left_is d.valid) in
    let first = 4 + head_lines proof.heads in
    let k = first + claim_lines proof.claims in
    let trees = trees_fault g proof.claims proof.trees.items (due_from g 0 proof.claims) (k + length proof.outputs) in
    let outs = outputs_fault g pair.outputs proof.claims proof.outputs k in
    let claims = claims_fault g proof.claims first in
    let a = first-none (fault_unless (is_point g.left proof.point) 2 rule.Point) (first_fault_of (heads_fault g proof.heads) (first_fault_of claims (first_fault_of outs trees))) valid in
    let h = first-none (heads_fault g proof.heads) (first_fault_of claims (first_fault_of outs trees)) a.1 in
    let b = first-none claims (first_fault_of outs trees) h.1 in
    let c = first-none outs trees b.1 in
    let moduli = moduli_at proof.claims d.moduli in
    let paired = d.recurring.edges.flows.paired in
    claims_stand (setting pair outputs recurrent template) order (claim_at (claims_of part 0 proof.claims)) (IsClaimed pair part proof.claims)
    (claimed_handled pair outputs order recurrent template part proof.claims d.stops.alone moduli paired first (k + length proof.outputs) proof.trees.items b.0 c.1 d.stops.trees)
    (pairs_are_a_setting pair outputs recurrent template d.recurring)
    (λ key rec. claim_rows (claims_of part 0 proof.claims) key (template key) (λ x n e. subst (λ (z : Position × Position). Each (IsClaimRow (template z)) x.rows) e (d.stops.rows x n (ap recurrent e ∙ rec))))
    (λ key p s. elim s [
      | inl o ↦ output_claimed pair part proof.claims paired moduli proof.outputs k c.0 outputs named key p o
      | inr m ↦ (let r = claim_met (claims_of part 0 proof.claims) key p m.2 in let w = within_claim part 0 proof.claims r.0 r.1 in let z : 0 + w.0 ≡ w.0 = omega arith in record { number = w.0; claim = r.0; is = w.1; within = ap part (sym z) ∙ w.2; key_is = r.2; there = m.1; meets = r.3 })
    ])

pub stopped_proofs_decide : StoppedProofsDecide
stopped_proofs_decide pair order recurrent template part proof d outputs named =
    stands_no_mismatch (setting pair outputs recurrent template) (pairs_are_a_setting pair outputs recurrent template d.recurring) order (claim_at (claims_of part 0 proof.claims)) (stopped_proofs_stand pair order recurrent template part proof d outputs named)

pub searches_say_equal : SearchesSayEqual
searches_say_equal pair order recurrent template part proof d outputs named s = (search_decides_pairs pair outputs recurrent template d.recurring s).1 (order, stopped_proofs_decide pair order recurrent template part proof d outputs named)
