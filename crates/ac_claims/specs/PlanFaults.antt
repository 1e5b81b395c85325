-- The first line of a plan that fails, and its rule. Each step, branch, end and choice is a line.
use Rattle.std.specs.Prelude.{ℕ, suc, ◌+◌, ℤ, pos, List, [], ◌∷◌, length, Bool, Option, Some, None, cond, nat_eq, slice_get, option_map}
use Rattle.ac_forms.specs.Affine.{Affine}
use Rattle.ac_forms.specs.declared.conj.Conj.{Conj}
use Rattle.ac_cert.specs.AbsurdEnd.{absurd_refusal}
use Rattle.ac_cert.specs.CertificateFaults.{Fault, first_fault_of, split_fault, step_fault}
use Rattle.ac_cert.specs.Rules.{after_step, rule_of, both_sides, class, is_partition}
use Rattle.ac_omega_steps.specs.declared.choose.Choice.{Choice}
use Rattle.ac_cert.specs.declared.types.Rule.{Rule}
use Rattle.ac_cert.specs.declared.types.Rule.TheVariants as rule
use Rattle.ac_cert.specs.declared.types.Step.{Step}
use Rattle.ac_claims.specs.ProofEnds.{is_hit, is_number, is_initial}
use Rattle.ac_claims_paths.specs.PathSteps.{Pairing, at_rows, branches}
use Rattle.ac_claims_paths.specs.CopyKills.{case_width, copy_of, chosen, is_killed}
use Rattle.ac_claims_paths.specs.declared.path.Assumed.{Assumed}
use Rattle.ac_claims_paths.specs.declared.path.Path.{Path}
use Rattle.ac_claims.specs.declared.types.Claim.{Claim}
use Rattle.ac_claims.specs.declared.types.Kill.{Kill}
use Rattle.ac_claims.specs.declared.types.Plan.{Plan}
use Rattle.ac_claims.specs.declared.types.PlanNext.{PlanNext, Split', Residue', Go', Row_of-Plan, end_of-Plan, more_of-Plan}
use Rattle.ac_claims.specs.declared.types.PlanNext.TheVariants.{Absurd, Killed, Hit, SameNumber, SameInitial}

-- the first fault of steps, from line k on, and of what comes behind them
abbrev pub steps_fault : List Step → (Conj → ℕ → Fault) → Conj → ℕ → Fault
steps_fault [] go c k = go c k
steps_fault (s ∷ steps) go c k = step_fault (after_step s c) (rule_of s) k (λ d. steps_fault steps go d (k + 1))

-- no fault where the test holds
abbrev pub fault_unless : Bool → ℕ → Rule → Fault
fault_unless b k r = cond b None (Some (k, r))

abbrev pub absurd_fault : Option Rule → ℕ → Fault
absurd_fault o k = option_map (λ r. (k, r)) o

-- the choices of a copy, from line k on; where rows or columns are left over, the fault is that of the line `killed`
abbrev pub choices_fault : ℕ → Path → Assumed → ℕ → List Choice → Conj → ℕ → Fault
choices_fault params h a first [] c k = fault_unless (is_killed params h.conj.rows a c) first rule.Killed
choices_fault params h a first (x ∷ xs) c k = step_fault (chosen h.conj.columns (case_width params a) x c) rule.Killed k (λ d. choices_fault params h a first xs d (k + 1))

-- a copy that kills what was assumed last
abbrev pub kill_fault : Pairing → Path → Option Assumed → Kill → ℕ → Fault
kill_fault g h None kill k = Some (k, rule.Killed)
kill_fault g h (Some a) kill k = step_fault (copy_of g a kill.stmt kill.piece kill.after kill.before) rule.Killed k (λ c. choices_fault g.params h a k kill.choices c (k + 1))

-- the cases of a step, where there are as many as the step has
abbrev pub go_fault : Option (List Path) → ℕ → ℕ → (List Path → Fault) → Fault
go_fault None count k cases = Some (k, rule.Go)
go_fault (Some hs) count k cases = cond (nat_eq count (length hs)) (cases hs) (Some (k, rule.Go))

abbrev pub count_of : {m : _} → Row_of-Plan m → ℕ
count_of end_of-Plan = 0
count_of (more_of-Plan s t rest) = suc (count_of rest)

abbrev mutual
  -- the lines behind the steps of a plan
  pub line_count : PlanNext → ℕ
  line_count (Split' f p s l q t r) = 1 + (length s + line_count l) + (length t + line_count r)
  line_count (Residue' m f shape all) = 1 + line_counts all
  line_count (Go' order shape all) = 1 + line_counts all
  line_count (Absurd i) = 1
  line_count (Killed kill) = 1 + length kill.choices
  line_count (Hit c) = 1
  line_count SameNumber = 1
  line_count SameInitial = 1

  pub line_counts : {m : _} → Row_of-Plan m → ℕ
  line_counts end_of-Plan = 0
  line_counts (more_of-Plan s t rest) = (length s + line_count t) + line_counts rest

abbrev mutual
  -- the first fault behind the steps of a plan, on a path, from line k on
  pub next_fault : Pairing → List Claim → PlanNext → Path → ℕ → Fault
  next_fault g cs (Split' f p s l q t r) h k =
      split_fault (both_sides f h.conj) k (λ a. steps_fault s (λ c. next_fault g cs l (at_rows h c)) a (k + 1)) (λ b. steps_fault t (λ c. next_fault g cs r (at_rows h c)) b (k + 1 + (length s + line_count l)))
  next_fault g cs (Residue' m f shape all) h k =
      cond (is_partition m f h.conj.columns (count_of all)) (classes_fault g cs all m f 0 h (k + 1)) (Some (k, rule.Residue))
  next_fault g cs (Go' order shape all) h k = go_fault (branches g order h) (count_of all) k (λ hs. cases_fault g cs all hs (k + 1))
  next_fault g cs (Absurd i) h k = absurd_fault (absurd_refusal i h.conj) k
  next_fault g cs (Killed kill) h k = kill_fault g h h.last kill k
  next_fault g cs (Hit c) h k = fault_unless (is_hit g h (slice_get cs c)) k rule.Hit
  next_fault g cs SameNumber h k = fault_unless (is_number g h) k rule.Number
  next_fault g cs SameInitial h k = fault_unless (is_initial g h) k rule.Initial

  pub classes_fault : Pairing → List Claim → {w : _} → Row_of-Plan w → ℤ → Affine → ℕ → Path → ℕ → Fault
  classes_fault g cs end_of-Plan m f i h k = None
  classes_fault g cs (more_of-Plan s t rest) m f i h k =
      first_fault_of (steps_fault s (λ c. next_fault g cs t (at_rows h c)) (class m f (pos i) h.conj) k) (classes_fault g cs rest m f (i + 1) h (k + (length s + line_count t)))

  pub cases_fault : Pairing → List Claim → {w : _} → Row_of-Plan w → List Path → ℕ → Fault
  cases_fault g cs end_of-Plan hs k = None
  cases_fault g cs (more_of-Plan s t rest) [] k = None
  cases_fault g cs (more_of-Plan s t rest) (h ∷ hs) k =
      first_fault_of (steps_fault s (λ c. next_fault g cs t (at_rows h c)) h.conj k) (cases_fault g cs rest hs (k + (length s + line_count t)))

-- the first fault of a plan, on a path, from line k on
abbrev pub plan_fault : Pairing → List Claim → Plan → Path → ℕ → Fault
plan_fault g cs t h k = steps_fault t.steps (λ c. next_fault g cs t.next (at_rows h c)) h.conj k

abbrev pub plan_lines : Plan → ℕ
plan_lines t = length t.steps + line_count t.next
