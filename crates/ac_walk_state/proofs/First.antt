-- A plan's first fault is the same against other claims that agree where the plan ends.
use Rattle.std.proofs.Common.{◌≡◌, ◌<◌, ℕ, zero, suc, ◌+◌, ℤ, pos, List, [], ◌∷◌, ◌++◌, length, Some, cond, refl, ◌∙◌, arith}
use Rattle.std.specs.Prelude.{slice_get}
use Rattle.ac_forms.specs.Affine.{Affine}
use Rattle.ac_cert.specs.CertificateFaults.{first_fault_of, split_fault}
use Rattle.ac_cert.specs.Rules.{both_sides, class, is_partition}
use Rattle.ac_cert.specs.declared.types.Rule.TheVariants as rule
use Rattle.ac_claims.specs.ProofEnds.{is_hit}
use Rattle.ac_claims.specs.PlanFaults.{steps_fault, fault_unless, go_fault, count_of, line_count, next_fault, classes_fault, cases_fault, plan_fault}
use Rattle.ac_claims.specs.declared.types.Claim.{Claim}
use Rattle.ac_claims.specs.declared.types.Plan.{Plan}
use Rattle.ac_claims.specs.declared.types.PlanNext.{PlanNext, Split', Residue', Go', Row_of-Plan, end_of-Plan, more_of-Plan}
use Rattle.ac_claims.specs.declared.types.PlanNext.TheVariants.{Absurd, Killed, Hit, SameNumber, SameInitial}
use Rattle.ac_claims_paths.specs.PathSteps.{Pairing, at_rows, branches}
use Rattle.ac_claims_paths.specs.declared.path.Path.{Path}
use Rattle.ac_walk_state.specs.Hits.{HitsWithin, EachHitsWithin, FirstClaimsAccept}

module _ (g : Pairing) (n : ℕ) (cs ds : List Claim) (same : (c : ℕ) → c < n → slice_get cs c ≡ slice_get ds c) where
  mutual
    same_next : (x : PlanNext) → HitsWithin n x → (h : Path) (k : ℕ) → next_fault g cs x h k ≡ next_fault g ds x h k
    same_next (Split' f p s l q t r) (u, v) h k =
        λ i. split_fault (both_sides f h.conj) k (λ a. steps_fault s (λ c j. same_next l u (at_rows h c) j i) a (k + 1)) (λ b. steps_fault t (λ c j. same_next r v (at_rows h c) j i) b (k + 1 + (length s + line_count l)))
    same_next (Residue' m f shape all) u h k = λ i. cond (is_partition m f h.conj.columns (count_of all)) (same_classes all u m f 0 h (k + 1) i) (Some (k, rule.Residue))
    same_next (Go' order shape all) u h k = λ i. go_fault (branches g order h) (count_of all) k (λ hs. same_cases all u hs (k + 1) i)
    same_next (Absurd a) u h k = refl
    same_next (Killed kill) u h k = refl
    same_next (Hit c) u h k = λ i. fault_unless (is_hit g h (same c u i)) k rule.Hit
    same_next SameNumber u h k = refl
    same_next SameInitial u h k = refl

    same_classes : {w : _} (all : Row_of-Plan w) → EachHitsWithin n all → (m : ℤ) (f : Affine) (i : ℕ) (h : Path) (k : ℕ) → classes_fault g cs all m f i h k ≡ classes_fault g ds all m f i h k
    same_classes end_of-Plan u m f i h k = refl
    same_classes (more_of-Plan s t more) (u, v) m f i h k =
        λ z. first_fault_of (steps_fault s (λ c j. same_next t u (at_rows h c) j z) (class m f (pos i) h.conj) k) (same_classes more v m f (i + 1) h (k + (length s + line_count t)) z)

    same_cases : {w : _} (all : Row_of-Plan w) → EachHitsWithin n all → (hs : List Path) (k : ℕ) → cases_fault g cs all hs k ≡ cases_fault g ds all hs k
    same_cases end_of-Plan u hs k = refl
    same_cases (more_of-Plan s t more) u [] k = refl
    same_cases (more_of-Plan s t more) (u, v) (h ∷ hs) k =
        λ z. first_fault_of (steps_fault s (λ c j. same_next t u (at_rows h c) j z) h.conj k) (same_cases more v hs (k + (length s + line_count t)) z)

  same_plan : (t : Plan) → HitsWithin n t.next → (h : Path) (k : ℕ) → plan_fault g cs t h k ≡ plan_fault g ds t h k
  same_plan t u h k = λ i. steps_fault t.steps (λ c j. same_next t.next u (at_rows h c) j i) h.conj k

first_at : {A : Type 0} (xs ys : List A) (i : ℕ) → i < length xs → slice_get xs i ≡ slice_get (xs ++ ys) i
first_at [] ys i l = absurd (omega (arith, l))
first_at (x ∷ xs) ys zero l = refl
first_at (x ∷ xs) ys (suc i) l = first_at xs ys i (omega (arith, l))

pub first_claims_accept : FirstClaimsAccept
first_claims_accept g first further t h u accepts k = same_plan g (length first) first (first ++ further) (first_at first further) t u h k ∙ accepts k
