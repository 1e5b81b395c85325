-- A plan that no line fails has no fault against more claims either, whatever the number of its first line.
use Rattle.std.proofs.Common.{◌≡◌, ℕ, ◌+◌, ℤ, pos, List, [], ◌∷◌, length, Bool, true, false, cond, Option, Some, None, refl, ap, ◌∙◌}
use Rattle.std.specs.Prelude.{slice_get, nat_eq}
use Rattle.ac_forms.specs.Affine.{Affine}
use Rattle.ac_forms.specs.declared.conj.Conj.{Conj}
use Rattle.ac_omega_steps.specs.declared.choose.Choice.{Choice}
use Rattle.ac_cert.specs.AbsurdEnd.{absurd_refusal}
use Rattle.ac_cert.specs.CertificateFaults.{Fault, first_fault_of, split_fault, step_fault}
use Rattle.ac_cert.specs.Rules.{after_step, both_sides, class, is_partition, rule_of}
use Rattle.ac_cert.specs.declared.types.Rule.{Rule}
use Rattle.ac_cert.specs.declared.types.Rule.TheVariants as rule
use Rattle.ac_cert.specs.declared.types.Step.{Step}
use Rattle.ac_cert.proofs.Soundness.{first-none}
use Rattle.ac_claims_paths.specs.PathSteps.{Pairing, at_rows, branches}
use Rattle.ac_claims_paths.specs.CopyKills.{case_width, chosen, copy_of, is_killed}
use Rattle.ac_claims_paths.specs.declared.path.Assumed.{Assumed}
use Rattle.ac_claims_paths.specs.declared.path.Path.{Path}
use Rattle.ac_claims.specs.ProofEnds.{is_hit, is_initial, is_number}
use Rattle.ac_claims.specs.PlanFaults.{absurd_fault, cases_fault, choices_fault, classes_fault, count_of, fault_unless, go_fault, kill_fault, line_count, next_fault, plan_fault, steps_fault}
use Rattle.ac_claims.specs.declared.types.Claim.{Claim}
use Rattle.ac_claims.specs.declared.types.Kill.{Kill}
use Rattle.ac_claims.specs.declared.types.Plan.{Plan}
use Rattle.ac_claims.specs.declared.types.PlanNext.{PlanNext, Split', Residue', Go', Row_of-Plan, end_of-Plan, more_of-Plan}
use Rattle.ac_claims.specs.declared.types.PlanNext.TheVariants.{Absurd, Killed, Hit, SameNumber, SameInitial}
use Rattle.ac_claims.proofs.Plans.{none_if, unless_none}

-- ---- the parts of a fault

pub both_none : (a b : Fault) → a ≡ None → b ≡ None → first_fault_of a b ≡ None
both_none None b e f = f
both_none (Some x) b e f = absurd cc

pub holds_none : (b : Bool) (k : ℕ) (r : Rule) → b ≡ true → fault_unless b k r ≡ None
holds_none true k r e = refl
holds_none false k r e = absurd cc

pub if_none : (b : Bool) (o : Fault) (x : ℕ × Rule) → b ≡ true → o ≡ None → cond b o (Some x) ≡ None
if_none true o x e f = f
if_none false o x e f = absurd cc

unless_again : (b : Bool) (k j : ℕ) (r : Rule) → fault_unless b k r ≡ None → fault_unless b j r ≡ None
unless_again b k j r e = holds_none b j r (unless_none b k r e)

step_again : (o : Option Conj) (r : Rule) (k j : ℕ) (F G : Conj → Fault) → ((d : Conj) → F d ≡ None → G d ≡ None) → step_fault o r k F ≡ None → step_fault o r j G ≡ None
step_again None r k j F G on e = absurd cc
step_again (Some d) r k j F G on e = on d e

steps_again : (ss : List Step) (F G : Conj → ℕ → Fault) → ((d : Conj) (k j : ℕ) → F d k ≡ None → G d j ≡ None) → (c : Conj) (k j : ℕ) → steps_fault ss F c k ≡ None → steps_fault ss G c j ≡ None
steps_again [] F G on c k j e = on c k j e
steps_again (s ∷ ss) F G on c k j e =
    step_again (after_step s c) (rule_of s) k j (λ d. steps_fault ss F d (k + 1)) (λ d. steps_fault ss G d (j + 1)) (λ d f. steps_again ss F G on d (k + 1) (j + 1) f) e

split_again : (o : Option (Conj × Conj)) (k j : ℕ) (L R L' R' : Conj → Fault) → ((c : Conj) → L c ≡ None → L' c ≡ None) → ((c : Conj) → R c ≡ None → R' c ≡ None) → split_fault o k L R ≡ None → split_fault o j L' R' ≡ None
split_again None k j L R L' R' l r e = absurd cc
split_again (Some s) k j L R L' R' l r e = let t = first-none (L s.0) (R s.1) e in both_none (L' s.0) (R' s.1) (l s.0 t.0) (r s.1 t.1)

choices_again : (params : ℕ) (h : Path) (a : Assumed) (first second : ℕ) (xs : List Choice) (c : Conj) (k j : ℕ) → choices_fault params h a first xs c k ≡ None → choices_fault params h a second xs c j ≡ None
choices_again params h a first second [] c k j e = unless_again (is_killed params h.conj.rows a c) first second rule.Killed e
choices_again params h a first second (x ∷ xs) c k j e =
    step_again (chosen h.conj.columns (case_width params a) x c) rule.Killed k j (λ d. choices_fault params h a first xs d (k + 1)) (λ d. choices_fault params h a second xs d (j + 1))
    (λ d f. choices_again params h a first second xs d (k + 1) (j + 1) f) e

kill_again : (g : Pairing) (h : Path) (o : Option Assumed) (kill : Kill) (k j : ℕ) → kill_fault g h o kill k ≡ None → kill_fault g h o kill j ≡ None
kill_again g h None kill k j e = absurd cc
kill_again g h (Some a) kill k j e =
    step_again (copy_of g a kill.stmt kill.piece kill.after kill.before) rule.Killed k j (λ c. choices_fault g.params h a k kill.choices c (k + 1)) (λ c. choices_fault g.params h a j kill.choices c (j + 1))
    (λ c f. choices_again g.params h a k j kill.choices c (k + 1) (j + 1) f) e

go_again : (o : Option (List Path)) (count k j : ℕ) (F G : List Path → Fault) → ((hs : List Path) → F hs ≡ None → G hs ≡ None) → go_fault o count k F ≡ None → go_fault o count j G ≡ None
go_again None count k j F G on e = absurd cc
go_again (Some hs) count k j F G on e =
    let b = none_if (nat_eq count (length hs)) (F hs) (k, rule.Go) e in
    if_none (nat_eq count (length hs)) (G hs) (j, rule.Go) b.0 (on hs b.1)

absurd_again : (o : Option Rule) (k j : ℕ) → absurd_fault o k ≡ None → absurd_fault o j ≡ None
absurd_again None k j e = refl
absurd_again (Some r) k j e = absurd cc

-- ---- plans

module _ (g : Pairing) (cs ds : List Claim) (keeps : (i : ℕ) (c : Claim) → slice_get cs i ≡ Some c → slice_get ds i ≡ Some c) where
  hit_again : (h : Path) (c : ℕ) → is_hit g h (slice_get cs c) ≡ true → is_hit g h (slice_get ds c) ≡ true
  hit_again h c e = by (slice_get cs c) refl e
    where
      by : (o : Option Claim) → slice_get cs c ≡ o → is_hit g h o ≡ true → is_hit g h (slice_get ds c) ≡ true
      by None q f = absurd cc
      by (Some d) q f = ap (is_hit g h) (keeps c d q) ∙ f

  -- what comes behind the steps of a plan
  abbrev IsKept : PlanNext → Type 0
  IsKept x = (h : Path) (k j : ℕ) → next_fault g cs x h k ≡ None → next_fault g ds x h j ≡ None

  behind : (ss : List Step) (x : PlanNext) → IsKept x → (h : Path) (c : Conj) (k j : ℕ) → steps_fault ss (λ d. next_fault g cs x (at_rows h d)) c k ≡ None → steps_fault ss (λ d. next_fault g ds x (at_rows h d)) c j ≡ None
  behind ss x kept h c k j e = steps_again ss (λ d. next_fault g cs x (at_rows h d)) (λ d. next_fault g ds x (at_rows h d)) (λ d m n. kept (at_rows h d) m n) c k j e

  mutual
    next_again : (x : PlanNext) → IsKept x
    next_again (Split' f p s l q t r) h k j e =
        split_again (both_sides f h.conj) k j (λ a. steps_fault s (λ c. next_fault g cs l (at_rows h c)) a (k + 1)) (λ b. steps_fault t (λ c. next_fault g cs r (at_rows h c)) b (k + 1 + (length s + line_count l)))
        (λ a. steps_fault s (λ c. next_fault g ds l (at_rows h c)) a (j + 1)) (λ b. steps_fault t (λ c. next_fault g ds r (at_rows h c)) b (j + 1 + (length s + line_count l)))
        (λ a f. behind s l (next_again l) h a (k + 1) (j + 1) f) (λ b f. behind t r (next_again r) h b (k + 1 + (length s + line_count l)) (j + 1 + (length s + line_count l)) f) e
    next_again (Residue' m f shape all) h k j e =
        let b = none_if (is_partition m f h.conj.columns (count_of all)) (classes_fault g cs all m f 0 h (k + 1)) (k, rule.Residue) e in
        if_none (is_partition m f h.conj.columns (count_of all)) (classes_fault g ds all m f 0 h (j + 1)) (j, rule.Residue) b.0 (classes_again all m f 0 h (k + 1) (j + 1) b.1)
    next_again (Go' order shape all) h k j e =
        go_again (branches g order h) (count_of all) k j (λ hs. cases_fault g cs all hs (k + 1)) (λ hs. cases_fault g ds all hs (j + 1)) (λ hs f. cases_again all hs (k + 1) (j + 1) f) e
    next_again (Absurd i) h k j e = absurd_again (absurd_refusal i h.conj) k j e
    next_again (Killed kill) h k j e = kill_again g h h.last kill k j e
    next_again (Hit c) h k j e = holds_none (is_hit g h (slice_get ds c)) j rule.Hit (hit_again h c (unless_none (is_hit g h (slice_get cs c)) k rule.Hit e))
    next_again SameNumber h k j e = unless_again (is_number g h) k j rule.Number e
    next_again SameInitial h k j e = unless_again (is_initial g h) k j rule.Initial e

    classes_again : {w : _} (all : Row_of-Plan w) (m : ℤ) (f : Affine) (first : ℕ) (h : Path) (k j : ℕ) → classes_fault g cs all m f first h k ≡ None → classes_fault g ds all m f first h j ≡ None
    classes_again end_of-Plan m f first h k j e = refl
    classes_again (more_of-Plan s t rest) m f first h k j e =
        let n = first-none (steps_fault s (λ c. next_fault g cs t (at_rows h c)) (class m f (pos first) h.conj) k) (classes_fault g cs rest m f (first + 1) h (k + (length s + line_count t))) e in
        both_none (steps_fault s (λ c. next_fault g ds t (at_rows h c)) (class m f (pos first) h.conj) j) (classes_fault g ds rest m f (first + 1) h (j + (length s + line_count t))) (behind s t (next_again t) h (class m f (pos first) h.conj) k j n.0)
        (classes_again rest m f (first + 1) h (k + (length s + line_count t)) (j + (length s + line_count t)) n.1)

    cases_again : {w : _} (all : Row_of-Plan w) (hs : List Path) (k j : ℕ) → cases_fault g cs all hs k ≡ None → cases_fault g ds all hs j ≡ None
    cases_again end_of-Plan hs k j e = refl
    cases_again (more_of-Plan s t rest) [] k j e = refl
    cases_again (more_of-Plan s t rest) (h ∷ hs) k j e =
        let n = first-none (steps_fault s (λ c. next_fault g cs t (at_rows h c)) h.conj k) (cases_fault g cs rest hs (k + (length s + line_count t))) e in
        both_none (steps_fault s (λ c. next_fault g ds t (at_rows h c)) h.conj j) (cases_fault g ds rest hs (j + (length s + line_count t))) (behind s t (next_again t) h h.conj k j n.0)
        (cases_again rest hs (k + (length s + line_count t)) (j + (length s + line_count t)) n.1)

  pub plan_again : (t : Plan) (h : Path) (k j : ℕ) → plan_fault g cs t h k ≡ None → plan_fault g ds t h j ≡ None
  plan_again t h k j e = behind t.steps t.next (next_again t.next) h h.conj k j e
