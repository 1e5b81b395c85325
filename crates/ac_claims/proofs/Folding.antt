-- The items of a plan drive the machine to the plan's first fault.
use Rattle.std.proofs.Common.{◌≡◌, ℕ, suc, ◌+◌, ◌-◌, ℤ, pos, ◌-ℤ◌, unsigned_abs, List, [], ◌∷◌, ◌++◌, map, length, Bool, true, false, Option, Some, None, cond, nat_eq, slice_get, refl, sym, ap, ◌∙◌, arith}
use Rattle.std.specs.Ordering.{int_eq}
use Rattle.std.proofs.lemmas.Bool.Decides.{Decides-int_eq, Decides-eqb}
use Rattle.ac_forms.specs.Affine.{Affine}
use Rattle.ac_forms.specs.declared.conj.Conj.{Conj}
use Rattle.ac_cert.specs.AbsurdEnd.{absurd_refusal}
use Rattle.ac_cert.specs.CertificateFaults.{Fault, Onward, first_fault_of, split_fault, step_fault}
use Rattle.ac_cert.specs.Rules.{after_step, rule_of, both_sides, class, has_class, is_partition}
use Rattle.ac_omega_steps.specs.declared.choose.Choice.{Choice}
use Rattle.ac_cert.specs.declared.types.Rule.{Rule}
use Rattle.ac_cert.specs.declared.types.Rule.TheVariants as rule
use Rattle.ac_cert.specs.declared.types.Step.{Step}
use Rattle.ac_claims.specs.ProofEnds.{is_hit, is_number, is_initial}
use Rattle.ac_claims_paths.specs.PathSteps.{Pairing, at_rows, branches}
use Rattle.ac_claims_paths.specs.CopyKills.{case_width, copy_of, chosen, is_killed}
use Rattle.ac_claims.specs.Machine.{Due, PlanAt, Onto, onto_if, onto_some, onto_unless, classes, settled, copied, goes_on, run, step_items, choice_items, next_items, row_items, IsSpelled, AreSpelled}
use Rattle.ac_claims.specs.PlanFaults.{steps_fault, fault_unless, absurd_fault, choices_fault, kill_fault, go_fault, count_of, line_count, line_counts, next_fault, classes_fault, cases_fault}
use Rattle.ac_claims.specs.declared.item.Item.{Item}
use Rattle.ac_claims_paths.specs.declared.path.Assumed.{Assumed}
use Rattle.ac_claims_paths.specs.declared.path.Path.{Path}
use Rattle.ac_claims.specs.declared.types.Kill.{Kill}
use Rattle.ac_claims.specs.declared.types.Claim.{Claim}
use Rattle.ac_claims.specs.declared.types.PlanNext.{PlanNext, Split', Residue', Go', Row_of-Plan, end_of-Plan, more_of-Plan}
use Rattle.ac_claims.specs.declared.types.PlanNext.TheVariants.{Absurd, Killed, Hit, SameNumber, SameInitial}

pub first_again : (a b c : Fault) → first_fault_of (first_fault_of a b) c ≡ first_fault_of a (first_fault_of b c)
first_again None b c = refl
first_again (Some x) b c = refl

-- what comes behind steps, where it is a fault and then another one
path_first : (ss : List Step) (F : Onward) (G : ℕ → Fault) (n : ℕ) (c : Conj) (k : ℕ)
    → steps_fault ss (λ d j. first_fault_of (F d j) (G (j + n))) c k ≡ first_fault_of (steps_fault ss F c k) (G (k + (length ss + n)))
path_first [] F G n c k = let e : 0 + n ≡ n = omega arith in rw e refl
path_first (s ∷ ss) F G n c k = by (after_step s c) (λ d. path_first ss F G n d (k + 1))
  where
    by : (o : Option Conj)
        → ((d : Conj) → steps_fault ss (λ d j. first_fault_of (F d j) (G (j + n))) d (k + 1) ≡ first_fault_of (steps_fault ss F d (k + 1)) (G (k + 1 + (length ss + n))))
        → step_fault o (rule_of s) k (λ d. steps_fault ss (λ d j. first_fault_of (F d j) (G (j + n))) d (k + 1))
        ≡ first_fault_of (step_fault o (rule_of s) k (λ d. steps_fault ss F d (k + 1))) (G (k + (length (s ∷ ss) + n)))
    by None h = refl
    by (Some d) h =
        let e : k + 1 + (length ss + n) ≡ k + (length (s ∷ ss) + n) = omega arith in
        h d ∙ ap (λ j. first_fault_of (steps_fault ss F d (k + 1)) (G j)) e

fault-first : (b : Bool) (k : ℕ) (r : Rule) (due : List Due) (go : List Due → Fault) → goes_on (onto_if b k r due) go ≡ first_fault_of (fault_unless b k r) (go due)
fault-first true k r due go = refl
fault-first false k r due go = refl

module _ (g : Pairing) (cs : List Claim) (on : ℕ → List Due → Fault) where
  pub steps_run : (ss : List Step) (rest : List Item) (h : Path) (due : List Due) (c : Conj) (k : ℕ)
      → run g cs on (step_items ss rest) k (PlanAt (at_rows h c) ∷ due) ≡ steps_fault ss (λ d j. run g cs on rest j (PlanAt (at_rows h d) ∷ due)) c k
  steps_run [] rest h due c k = refl
  steps_run (s ∷ ss) rest h due c k = by (after_step s c) (λ d. steps_run ss rest h due d (k + 1))
    where
      by : (o : Option Conj) → ((d : Conj) → run g cs on (step_items ss rest) (k + 1) (PlanAt (at_rows h d) ∷ due) ≡ steps_fault ss (λ e j. run g cs on rest j (PlanAt (at_rows h e) ∷ due)) d (k + 1))
          → goes_on (onto_some o k (rule_of s) (λ d. Onto (PlanAt (at_rows h d) ∷ due))) (run g cs on (step_items ss rest) (k + 1))
          ≡ step_fault o (rule_of s) k (λ d. steps_fault ss (λ e j. run g cs on rest j (PlanAt (at_rows h e) ∷ due)) d (k + 1))
      by None i = refl
      by (Some d) i = i d

  choices_run : (xs : List Choice) (rest : List Item) (first : ℕ) (h : Path) (a : Assumed) (due : List Due) (c : Conj) (k : ℕ)
      → goes_on (settled g.params first (length xs) h a c due) (run g cs on (choice_items xs rest) k) ≡ first_fault_of (choices_fault g.params h a first xs c k) (run g cs on rest (k + length xs) due)
  choices_run [] rest first h a due c k = fault-first (is_killed g.params h.conj.rows a c) first rule.Killed due (run g cs on rest k) ∙ (let e : k + 0 ≡ k = omega arith in rw e refl)
  choices_run (x ∷ xs) rest first h a due c k = by (chosen h.conj.columns (case_width g.params a) x c) (λ d. choices_run xs rest first h a due d (k + 1))
    where
      by : (o : Option Conj)
          → ((d : Conj) → goes_on (settled g.params first (length xs) h a d due) (run g cs on (choice_items xs rest) (k + 1)) ≡ first_fault_of (choices_fault g.params h a first xs d (k + 1)) (run g cs on rest (k + 1 + length xs) due))
          → goes_on (onto_some o k rule.Killed (λ d. settled g.params first (suc (length xs) - 1) h a d due)) (run g cs on (choice_items xs rest) (k + 1))
          ≡ first_fault_of (step_fault o rule.Killed k (λ d. choices_fault g.params h a first xs d (k + 1))) (run g cs on rest (k + suc (length xs)) due)
      by None i = refl
      by (Some d) i =
          let e : suc (length xs) - 1 ≡ length xs = omega arith in
          let f : k + 1 + length xs ≡ k + suc (length xs) = omega arith in
          rw (e, ← f) (i d)

  copy_run : (o : Option Conj) (xs : List Choice) (rest : List Item) (h : Path) (a : Assumed) (due : List Due) (k : ℕ)
      → goes_on (onto_some o k rule.Killed (λ c. settled g.params k (length xs) h a c due)) (run g cs on (choice_items xs rest) (k + 1))
      ≡ first_fault_of (step_fault o rule.Killed k (λ c. choices_fault g.params h a k xs c (k + 1))) (run g cs on rest (k + (1 + length xs)) due)
  copy_run None xs rest h a due k = refl
  copy_run (Some c) xs rest h a due k = choices_run xs rest k h a due c (k + 1) ∙ ap (λ j. first_fault_of (choices_fault g.params h a k xs c (k + 1)) (run g cs on rest j due)) (omega arith)

  kill_run : (o : Option Assumed) (kill : Kill) (rest : List Item) (h : Path) (due : List Due) (k : ℕ)
      → goes_on (copied g kill.stmt kill.piece kill.after kill.before (length kill.choices) k h o due) (run g cs on (choice_items kill.choices rest) (k + 1)) ≡ first_fault_of (kill_fault g h o kill k) (run g cs on rest (k + (1 + length kill.choices)) due)
  kill_run None kill rest h due k = refl
  kill_run (Some a) kill rest h due k = copy_run (copy_of g a kill.stmt kill.piece kill.after kill.before) kill.choices rest h a due k

  absurd_run : (o : Option Rule) (k : ℕ) (due : List Due) (go : List Due → Fault) → goes_on (onto_unless o k due) go ≡ first_fault_of (absurd_fault o k) (go due)
  absurd_run None k due go = refl
  absurd_run (Some r) k due go = refl

  -- what a plan behind its steps does, and a whole plan
  abbrev pub Runs : PlanNext → Type 0
  Runs x = (rest : List Item) (h : Path) (due : List Due) (k : ℕ) → run g cs on (next_items x rest) k (PlanAt h ∷ due) ≡ first_fault_of (next_fault g cs x h k) (run g cs on rest (k + line_count x) due)

  -- behind steps
  pub plan_run : (ss : List Step) (x : PlanNext) → Runs x → (rest : List Item) (h : Path) (due : List Due) (k : ℕ)
      → run g cs on (step_items ss (next_items x rest)) k (PlanAt h ∷ due) ≡ first_fault_of (steps_fault ss (λ c. next_fault g cs x (at_rows h c)) h.conj k) (run g cs on rest (k + (length ss + line_count x)) due)
  plan_run ss x runs rest h due k =
      steps_run ss (next_items x rest) h due h.conj k
      ∙ (λ i. steps_fault ss (λ d j. runs rest (at_rows h d) due j i) h.conj k)
      ∙ path_first ss (λ c. next_fault g cs x (at_rows h c)) (λ j. run g cs on rest j due) (line_count x) h.conj k

  split_run : (s t : List Step) (l r : PlanNext) → Runs l → Runs r → (f : Affine) (rest : List Item) (h : Path) (due : List Due) (k : ℕ) (o : Option (Conj × Conj))
      → goes_on (onto_some o k rule.Split (λ s. Onto (PlanAt (at_rows h s.0) ∷ PlanAt (at_rows h s.1) ∷ due))) (run g cs on (step_items s (next_items l (step_items t (next_items r rest)))) (k + 1))
      ≡ first_fault_of (split_fault o k (λ a. steps_fault s (λ c. next_fault g cs l (at_rows h c)) a (k + 1)) (λ b. steps_fault t (λ c. next_fault g cs r (at_rows h c)) b (k + 1 + (length s + line_count l))))
      (run g cs on rest (k + (1 + (length s + line_count l) + (length t + line_count r))) due)
  split_run s t l r left right f rest h due k None = refl
  split_run s t l r left right f rest h due k (Some (a, b)) =
      plan_run s l left (step_items t (next_items r rest)) (at_rows h a) (PlanAt (at_rows h b) ∷ due) (k + 1)
      ∙ ap (first_fault_of (steps_fault s (λ c. next_fault g cs l (at_rows h c)) a (k + 1))) (plan_run t r right rest (at_rows h b) due (k + 1 + (length s + line_count l)))
      ∙ sym (first_again (steps_fault s (λ c. next_fault g cs l (at_rows h c)) a (k + 1)) (steps_fault t (λ c. next_fault g cs r (at_rows h c)) b (k + 1 + (length s + line_count l))) _)
      ∙ ap (λ j. first_fault_of (first_fault_of (steps_fault s (λ c. next_fault g cs l (at_rows h c)) a (k + 1)) (steps_fault t (λ c. next_fault g cs r (at_rows h c)) b (k + 1 + (length s + line_count l)))) (run g cs on rest j due)) (omega arith)

  class-tests : (m : ℤ) (f : Affine) (columns count : ℕ) → m ≡ pos count → is_partition m f columns count ≡ has_class m f (m -ℤ pos 1) columns
  unfolding is_partition
  class-tests m f columns count e = let i : int_eq m (pos count) ≡ true = (Decides-int_eq m (pos count)).1 e in rw i refl

  residue_run : (b : Bool) (xs : List Item) (ds due : List Due) (k : ℕ) (F E : Fault) → run g cs on xs (k + 1) (ds ++ due) ≡ first_fault_of F E
      → goes_on (onto_if b k rule.Residue (ds ++ due)) (run g cs on xs (k + 1)) ≡ first_fault_of (cond b F (Some (k, rule.Residue))) E
  residue_run true xs ds due k F E e = e
  residue_run false xs ds due k F E e = refl

  go_run : (o : Option (List Path)) (count : ℕ) (xs : List Item) (due : List Due) (k : ℕ) (F : List Path → Fault) (E : Fault)
      → ((hs : List Path) → count ≡ length hs → run g cs on xs (k + 1) (map PlanAt hs ++ due) ≡ first_fault_of (F hs) E)
      → goes_on (onto_some o k rule.Go (λ hs. onto_if (nat_eq count (length hs)) k rule.Go (map PlanAt hs ++ due))) (run g cs on xs (k + 1)) ≡ first_fault_of (go_fault o count k F) E
  go_run None count xs due k F E e = refl
  go_run (Some hs) count xs due k F E e = by (nat_eq count (length hs)) refl
    where
      by : (b : Bool) → nat_eq count (length hs) ≡ b → goes_on (onto_if b k rule.Go (map PlanAt hs ++ due)) (run g cs on xs (k + 1)) ≡ first_fault_of (cond b (F hs) (Some (k, rule.Go))) E
      by true i = e hs ((Decides-eqb count (length hs)).0 i)
      by false i = refl

  mutual
    -- the items of what stands behind a plan's steps drive the machine to its first fault, or onto what is due then
    pub next_run : (x : PlanNext) → IsSpelled x → Runs x
    next_run (Split' f p s l q t r) (u, v) rest h due k = split_run s t l r (next_run l u) (next_run r v) f rest h due k (both_sides f h.conj)
    next_run (Residue' m f shape all) (e, u) rest h due k =
        let i : is_partition m f h.conj.columns (count_of all) ≡ has_class m f (m -ℤ pos 1) h.conj.columns = class-tests m f h.conj.columns (count_of all) e in
        let j : unsigned_abs m ≡ count_of all = rw e refl in
        let n : k + 1 + line_counts all ≡ k + (1 + line_counts all) = omega arith in
        rw (j, i) (residue_run (has_class m f (m -ℤ pos 1) h.conj.columns) (row_items all rest) (classes m f 0 (count_of all) h) due k (classes_fault g cs all m f 0 h (k + 1)) (run g cs on rest (k + (1 + line_counts all)) due)
        (classes_run all u m f 0 rest h due (k + 1) ∙ rw n refl))
    next_run (Go' order shape all) u rest h due k =
        let n : k + 1 + line_counts all ≡ k + (1 + line_counts all) = omega arith in
        go_run (branches g order h) (count_of all) (row_items all rest) due k (λ hs. cases_fault g cs all hs (k + 1)) (run g cs on rest (k + (1 + line_counts all)) due)
        (λ hs e. cases_run all u hs e rest due (k + 1) ∙ rw n refl)
    next_run (Absurd i) u rest h due k = absurd_run (absurd_refusal i h.conj) k due (run g cs on rest (k + 1))
    next_run (Killed kill) u rest h due k = kill_run h.last kill rest h due k
    next_run (Hit c) u rest h due k = fault-first (is_hit g h (slice_get cs c)) k rule.Hit due (run g cs on rest (k + 1))
    next_run SameNumber u rest h due k = fault-first (is_number g h) k rule.Number due (run g cs on rest (k + 1))
    next_run SameInitial u rest h due k = fault-first (is_initial g h) k rule.Initial due (run g cs on rest (k + 1))

    classes_run : {w : _} (all : Row_of-Plan w) → AreSpelled all → (m : ℤ) (f : Affine) (i : ℕ) (rest : List Item) (h : Path) (due : List Due) (k : ℕ)
        → run g cs on (row_items all rest) k (classes m f i (count_of all) h ++ due) ≡ first_fault_of (classes_fault g cs all m f i h k) (run g cs on rest (k + line_counts all) due)
    classes_run end_of-Plan u m f i rest h due k = let e : k + 0 ≡ k = omega arith in rw e refl
    classes_run (more_of-Plan s t more) (u, v) m f i rest h due k =
        let n : k + (length s + line_count t) + line_counts more ≡ k + ((length s + line_count t) + line_counts more) = omega arith in
        plan_run s t (next_run t u) (row_items more rest) (at_rows h (class m f (pos i) h.conj)) (classes m f (i + 1) (count_of more) h ++ due) k
        ∙ ap (first_fault_of (steps_fault s (λ c. next_fault g cs t (at_rows h c)) (class m f (pos i) h.conj) k)) (classes_run more v m f (i + 1) rest h due (k + (length s + line_count t)))
        ∙ sym (first_again (steps_fault s (λ c. next_fault g cs t (at_rows h c)) (class m f (pos i) h.conj) k) (classes_fault g cs more m f (i + 1) h (k + (length s + line_count t))) _)
        ∙ rw n refl

    cases_run : {w : _} (all : Row_of-Plan w) → AreSpelled all → (hs : List Path) → count_of all ≡ length hs → (rest : List Item) (due : List Due) (k : ℕ)
        → run g cs on (row_items all rest) k (map PlanAt hs ++ due) ≡ first_fault_of (cases_fault g cs all hs k) (run g cs on rest (k + line_counts all) due)
    cases_run end_of-Plan u [] i rest due k = let e : k + 0 ≡ k = omega arith in rw e refl
    cases_run end_of-Plan u (h ∷ hs) i rest due k = absurd (omega (arith, i))
    cases_run (more_of-Plan s t more) u [] i rest due k = absurd (omega (arith, i))
    cases_run (more_of-Plan s t more) (u, v) (h ∷ hs) i rest due k =
        let c : count_of more ≡ length hs = omega (arith, i) in
        let n : k + (length s + line_count t) + line_counts more ≡ k + ((length s + line_count t) + line_counts more) = omega arith in
        plan_run s t (next_run t u) (row_items more rest) h (map PlanAt hs ++ due) k
        ∙ ap (first_fault_of (steps_fault s (λ c. next_fault g cs t (at_rows h c)) h.conj k)) (cases_run more v hs c rest due (k + (length s + line_count t)))
        ∙ sym (first_again (steps_fault s (λ c. next_fault g cs t (at_rows h c)) h.conj k) (cases_fault g cs more hs (k + (length s + line_count t))) _)
        ∙ rw n refl
