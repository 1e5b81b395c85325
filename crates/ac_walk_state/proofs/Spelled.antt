-- A plan that no line fails is spelled.
use Rattle.std.proofs.Common.{◌≡◌, ℕ, ◌+◌, ℤ, pos, List, [], ◌∷◌, length, Option, Some, None, arith}
use Rattle.std.specs.Prelude.{nat_eq}
use Rattle.std.proofs.lemmas.Bool.{eqb-true}
use Rattle.ac_forms.specs.Affine.{Affine}
use Rattle.ac_forms.specs.declared.conj.Conj.{Conj}
use Rattle.ac_cert.specs.CertificateFaults.{Fault, split_fault}
use Rattle.ac_cert.specs.Rules.{after_step, both_sides, class, is_partition, rule_of}
use Rattle.ac_cert.specs.declared.types.Rule.TheVariants as rule
use Rattle.ac_cert.specs.declared.types.Step.{Step}
use Rattle.ac_cert.proofs.Soundness.{first-none}
use Rattle.ac_claims_paths.specs.PathSteps.{Pairing, at_rows, branches}
use Rattle.ac_claims_paths.specs.declared.path.Path.{Path}
use Rattle.ac_claims.specs.Machine.{IsSpelled, AreSpelled}
use Rattle.ac_claims.specs.PlanFaults.{cases_fault, classes_fault, count_of, go_fault, line_count, next_fault, plan_fault, steps_fault}
use Rattle.ac_claims.specs.declared.types.Claim.{Claim}
use Rattle.ac_claims.specs.declared.types.Plan.{Plan}
use Rattle.ac_claims.specs.declared.types.PlanNext.{PlanNext, Split', Residue', Go', Row_of-Plan, end_of-Plan, more_of-Plan}
use Rattle.ac_claims.specs.declared.types.PlanNext.TheVariants.{Absurd, Killed, Hit, SameNumber, SameInitial}
use Rattle.ac_claims.proofs.Plans.{none_if, partition_parts, step_none}

-- behind steps without fault there is a conjunction, and no fault there
through : (ss : List Step) (F : Conj → ℕ → Fault) (c : Conj) (k : ℕ) → steps_fault ss F c k ≡ None → (d : Conj) × (j : ℕ) × (F d j ≡ None)
through [] F c k e = (c, k, e)
through (s ∷ ss) F c k e = let n = step_none (after_step s c) k (rule_of s) (λ d. steps_fault ss F d (k + 1)) e in through ss F n.0 (k + 1) n.2

sides : (o : Option (Conj × Conj)) (k : ℕ) (L R : Conj → Fault) → split_fault o k L R ≡ None → (a : Conj) × (b : Conj) × (L a ≡ None) × (R b ≡ None)
sides None k L R e = absurd cc
sides (Some s) k L R e = let t = first-none (L s.0) (R s.1) e in (s.0, s.1, t.0, t.1)

went : (o : Option (List Path)) (count k : ℕ) (F : List Path → Fault) → go_fault o count k F ≡ None → (hs : List Path) × (count ≡ length hs) × (F hs ≡ None)
went None count k F e = absurd cc
went (Some hs) count k F e = let b = none_if (nat_eq count (length hs)) (F hs) (k, rule.Go) e in (hs, eqb-true count (length hs) b.0, b.1)

module _ (g : Pairing) (cs : List Claim) where
  mutual
    next_spelled : (x : PlanNext) (h : Path) (k : ℕ) → next_fault g cs x h k ≡ None → IsSpelled x
    next_spelled (Split' f p s l q t r) h k e =
        let b = sides (both_sides f h.conj) k (λ a. steps_fault s (λ c. next_fault g cs l (at_rows h c)) a (k + 1)) (λ b. steps_fault t (λ c. next_fault g cs r (at_rows h c)) b (k + 1 + (length s + line_count l))) e in
        let x = through s (λ c. next_fault g cs l (at_rows h c)) b.0 (k + 1) b.2 in
        let y = through t (λ c. next_fault g cs r (at_rows h c)) b.1 (k + 1 + (length s + line_count l)) b.3 in
        (next_spelled l (at_rows h x.0) x.1 x.2, next_spelled r (at_rows h y.0) y.1 y.2)
    next_spelled (Residue' m f shape all) h k e =
        let b = none_if (is_partition m f h.conj.columns (count_of all)) (classes_fault g cs all m f 0 h (k + 1)) (k, rule.Residue) e in
        let t = partition_parts m f h.conj.columns (count_of all) b.0 in
        (t.0, classes_spelled all m f 0 h (k + 1) b.1)
    next_spelled (Go' order shape all) h k e =
        let b = went (branches g order h) (count_of all) k (λ hs. cases_fault g cs all hs (k + 1)) e in
        cases_spelled all b.0 (k + 1) b.1 b.2
    next_spelled (Absurd i) h k e = tt
    next_spelled (Killed kill) h k e = tt
    next_spelled (Hit c) h k e = tt
    next_spelled SameNumber h k e = tt
    next_spelled SameInitial h k e = tt

    classes_spelled : {w : _} (all : Row_of-Plan w) (m : ℤ) (f : Affine) (first : ℕ) (h : Path) (k : ℕ) → classes_fault g cs all m f first h k ≡ None → AreSpelled all
    classes_spelled end_of-Plan m f first h k e = tt
    classes_spelled (more_of-Plan s t rest) m f first h k e =
        let n = first-none (steps_fault s (λ c. next_fault g cs t (at_rows h c)) (class m f (pos first) h.conj) k) (classes_fault g cs rest m f (first + 1) h (k + (length s + line_count t))) e in
        let x = through s (λ c. next_fault g cs t (at_rows h c)) (class m f (pos first) h.conj) k n.0 in
        (next_spelled t (at_rows h x.0) x.1 x.2, classes_spelled rest m f (first + 1) h (k + (length s + line_count t)) n.1)

    cases_spelled : {w : _} (all : Row_of-Plan w) (hs : List Path) (k : ℕ) → count_of all ≡ length hs → cases_fault g cs all hs k ≡ None → AreSpelled all
    cases_spelled end_of-Plan hs k n e = tt
    cases_spelled (more_of-Plan s t rest) [] k n e = absurd (omega (arith, n))
    cases_spelled (more_of-Plan s t rest) (h ∷ hs) k n e =
        let f = first-none (steps_fault s (λ c. next_fault g cs t (at_rows h c)) h.conj k) (cases_fault g cs rest hs (k + (length s + line_count t))) e in
        let x = through s (λ c. next_fault g cs t (at_rows h c)) h.conj k f.0 in
        (next_spelled t (at_rows h x.0) x.1 x.2, cases_spelled rest hs (k + (length s + line_count t)) (omega (arith, n)) f.1)

  pub plan_spelled : (t : Plan) (h : Path) (k : ℕ) → plan_fault g cs t h k ≡ None → IsSpelled t.next
  plan_spelled t h k e = let x = through t.steps (λ c. next_fault g cs t.next (at_rows h c)) h.conj k e in next_spelled t.next (at_rows h x.0) x.1 x.2
