-- No line of a plan fails if and only if its rules are met.
use Rattle.std.proofs.Common.{◌≡◌, ◌↔◌, ◌+◌, ◌++◌, ◌&&◌, ℕ, ℤ, pos, List, [], ◌∷◌, length, Bool, true, false, cond, Option, Some, None, refl, sym, ◌∙◌, subst, arith}
use Rattle.std.specs.Prelude.{nat_eq, slice_get}
use Rattle.std.proofs.lemmas.Bool.{eq-eqb, and_from, false≢true}
use Rattle.ac_forms.specs.Affine.{Affine}
use Rattle.ac_forms.specs.Negation.{below}
use Rattle.ac_forms.specs.Renaming.{rows_renaming}
use Rattle.ac_forms.specs.Rows.{form_of}
use Rattle.ac_forms.specs.declared.conj.Conj.{Conj}
use Rattle.ac_forms.specs.declared.row.Row.{Row}
use Rattle.ac_forms.specs.declared.row.Row.TheVariants.{Ge}
use Rattle.ac_syntax.specs.declared.tree.Position.{Position}
use Rattle.ac_syntax.specs.declared.tree.Position.TheVariants.{Output, Node, InitialOutput, InitialNode}
use Rattle.ac_base.proofs.Options.{some-is}
use Rattle.ac_omega_steps.specs.declared.choose.Choice.{Choice}
use Rattle.ac_cert.specs.AbsurdEnd.{is_absurd, is_false}
use Rattle.ac_cert.specs.CertificateFaults.{Fault, split_fault}
use Rattle.ac_cert.specs.Rules.{after_step, all_zero, both_sides, class, is_partition, rule_of, with_row}
use Rattle.ac_cert.specs.declared.types.Rule.TheVariants as rule
use Rattle.ac_cert.specs.declared.types.Step.{Step}
use Rattle.ac_poly.specs.Model.{is_input}
use Rattle.ac_claims_paths.specs.CopyKills.{case_width, chosen, copy_of, is_killed}
use Rattle.ac_claims_paths.specs.ModelPositions.{initial_cell, number_at}
use Rattle.ac_claims_paths.specs.PathColumns.{base, columns_of, equal_forms}
use Rattle.ac_claims_paths.specs.PathRows.{made_and_stand}
use Rattle.ac_claims_paths.specs.PathSteps.{Pairing, at_rows, branches}
use Rattle.ac_claims_paths.specs.declared.path.Assumed.{Assumed}
use Rattle.ac_claims_paths.specs.declared.path.Path.{Path}
use Rattle.ac_claims_paths.specs.declared.places.CellForms.{CellForms}
use Rattle.ac_claims.specs.PlanFaults.{absurd_fault, cases_fault, choices_fault, classes_fault, count_of, kill_fault, line_count, next_fault, steps_fault}
use Rattle.ac_claims.specs.ProofEnds.{equal_cells, equal_numbers, is_hit, is_initial, is_number, same_position}
use Rattle.ac_claims.specs.declared.types.Claim.{Claim}
use Rattle.ac_claims.specs.declared.types.Kill.{Kill}
use Rattle.ac_claims.specs.declared.types.PlanNext.{PlanNext, Split', Residue', Go', Row_of-Plan, end_of-Plan, more_of-Plan}
use Rattle.ac_claims.specs.declared.types.PlanNext.TheVariants.{Absurd, Killed, Hit, SameNumber, SameInitial}
use Rattle.ac_claims.proofs.Plans.{position_is}
use Rattle.ac_claims_valid.specs.PlanRules.{AfterSteps, IsAbsurdRow, IsHitOn, AreEqualNumbers, AreOneCell, AfterChoices, IsKilledBy, NextShows, ClassesShow, CasesShow}
use Rattle.ac_claims_valid.specs.RuleLaws.{FaultlessPlansShow}
use Rattle.ac_claims_valid.specs.StepRules.{CanSplit, IsPartition}
use Rattle.ac_claims_valid.proofs.StepLaw.{step_law, sides_law, law_sides, partition_law}
use Rattle.ac_claims_valid.proofs.Faults.{none_some, both_tests, equal_test, both_faults, unless_faults, test_faults, step_faults, split_faults, go_faults}

-- ---- steps and choices

steps_law : (ss : List Step) (F : Conj → ℕ → Fault) (P : Conj → Type 0) → ((d : Conj) (j : ℕ) → (F d j ≡ None) ↔ P d) → (c : Conj) (k : ℕ) → (steps_fault ss F c k ≡ None) ↔ AfterSteps ss P c
steps_law [] F P w c k = w c k
steps_law (s ∷ ss) F P w c k =
    let law = step_faults (after_step s c) (rule_of s) k (λ d. steps_fault ss F d (k + 1)) (AfterSteps ss P) (λ d. steps_law ss F P w d (k + 1)) in (
      (λ e. let t = law.0 e in (t.0, (step_law s c t.0).0 t.1, t.2)),
      (λ t. law.1 (t.0, (step_law s c t.0).1 t.1, t.2)),
    )

choices_law : (params : ℕ) (h : Path) (a : Assumed) (first : ℕ) (xs : List Choice) (c : Conj) (k : ℕ)
    → (choices_fault params h a first xs c k ≡ None) ↔ AfterChoices h.conj.columns (case_width params a) xs (λ left. is_killed params h.conj.rows a left ≡ true) c
choices_law params h a first [] c k = unless_faults (is_killed params h.conj.rows a c) first rule.Killed (is_killed params h.conj.rows a c ≡ true) ((λ e. e), (λ e. e))
choices_law params h a first (x ∷ xs) c k =
    step_faults (chosen h.conj.columns (case_width params a) x c) rule.Killed k (λ d. choices_fault params h a first xs d (k + 1)) (AfterChoices h.conj.columns (case_width params a) xs (λ left. is_killed params h.conj.rows a left ≡ true))
    (λ d. choices_law params h a first xs d (k + 1))

split_law : (f : Affine) (c : Conj) (k : ℕ) (L R : Conj → Fault) (P Q : Conj → Type 0) → ((d : Conj) → (L d ≡ None) ↔ P d) → ((d : Conj) → (R d ≡ None) ↔ Q d)
    → (split_fault (both_sides f c) k L R ≡ None) ↔ (CanSplit f c × P (with_row c (Ge f)) × Q (with_row c (Ge (below f))))
split_law f c k L R P Q p q =
    let law = split_faults (both_sides f c) k L R P Q p q in (
      (λ e.
          let t = law.0 e in
          let s = sides_law f c t.0 t.1 in
          (s.0, subst (λ (z : Conj × Conj). P z.0) s.1 t.2, subst (λ (z : Conj × Conj). Q z.1) s.1 t.3)),
      (λ t. law.1 ((with_row c (Ge f), with_row c (Ge (below f))), law_sides f c t.0, t.1, t.2)),
    )

-- ---- ends

absurd_law : (o : Option Row) (k : ℕ) → (absurd_fault (cond (is_absurd o) None (Some rule.Absurd)) k ≡ None) ↔ IsAbsurdRow o
absurd_law None k = ((λ e. absurd cc), (λ h. absurd (none_some h.row h.is)))
absurd_law (Some r) k = by (is_absurd (Some r)) (both_tests (all_zero (form_of r).coefs) (is_false r) (all_zero (form_of r).coefs ≡ true) (is_false r ≡ true) ((λ e. e), (λ e. e)) ((λ e. e), (λ e. e)))
  where
    by : (b : Bool) → (b ≡ true) ↔ ((all_zero (form_of r).coefs ≡ true) × (is_false r ≡ true)) → (absurd_fault (cond b None (Some rule.Absurd)) k ≡ None) ↔ IsAbsurdRow (Some r)
    by true w = ((λ e. let t = w.0 refl in record { row = r; is = refl; constant = t.0; wrong = t.1 }), (λ h. refl))
    by false w = (
      (λ e. absurd cc),
      (λ h.
          let same : h.row ≡ r = sym (some-is r h.row h.is) in
          absurd (false≢true (w.1 (subst (λ (x : Row). all_zero (form_of x).coefs ≡ true) same h.constant, subst (λ (x : Row). is_false x ≡ true) same h.wrong)))),
    )

pub same_test : (P Q : Position) → (same_position P Q ≡ true) ↔ (P ≡ Q)
same_test P Q = (position_is P Q, λ e. subst (λ (X : Position). same_position P X ≡ true) e (itself P))
  where
    itself : (P : Position) → same_position P P ≡ true
    itself (Output o) = eq-eqb o o refl
    itself (Node s k) = and_from (nat_eq s s) (nat_eq k k) (eq-eqb s s refl) (eq-eqb k k refl)
    itself (InitialOutput o) = eq-eqb o o refl
    itself (InitialNode s k) = and_from (nat_eq s s) (nat_eq k k) (eq-eqb s s refl) (eq-eqb k k refl)

hit_law : (g : Pairing) (h : Path) (o : Option Claim) → (is_hit g h o ≡ true) ↔ ((claim : Claim) × (o ≡ Some claim) × IsHitOn g h claim)
hit_law g h None = ((λ e. absurd (false≢true e)), (λ t. absurd (none_some t.0 t.1)))
hit_law g h (Some c) =
    let stand = made_and_stand h.conj.rows (rows_renaming (base g.params ++ (columns_of h.left ++ columns_of h.right)) c.rows) in
    let right = both_tests (same_position h.right.position c.right) stand (h.right.position ≡ c.right) (stand ≡ true) (same_test h.right.position c.right) ((λ e. e), (λ e. e)) in
    let left = both_tests (same_position h.left.position c.left) (same_position h.right.position c.right && stand) (h.left.position ≡ c.left) ((h.right.position ≡ c.right) × (stand ≡ true)) (same_test h.left.position c.left) right in
    let all = both_tests h.gone (same_position h.left.position c.left && (same_position h.right.position c.right && stand)) (h.gone ≡ true) ((h.left.position ≡ c.left) × ((h.right.position ≡ c.right) × (stand ≡ true))) ((λ e. e), (λ e. e)) left in (
      (λ e. let t = all.0 e in (c, refl, record { below = t.0; left = t.1.0; right = t.1.1.0; rows = t.1.1.1 })),
      (λ t.
          let on : IsHitOn g h c = subst (IsHitOn g h) (sym (some-is c t.0 t.1)) t.2 in
          all.1 (on.below, (on.left, (on.right, on.rows)))),
    )

numbers_law : (g : Pairing) (h : Path) (o o' : Option Affine) → number_at g.left h.left.position ≡ o → number_at g.right h.right.position ≡ o' → (made_and_stand h.conj.rows (equal_numbers g h o o') ≡ true) ↔ AreEqualNumbers g h
numbers_law g h None o' q q' = ((λ e. absurd (false≢true e)), (λ t. absurd (none_some t.left (sym q ∙ t.left_is))))
numbers_law g h (Some f) None q q' = ((λ e. absurd (false≢true e)), (λ t. absurd (none_some t.right (sym q' ∙ t.right_is))))
numbers_law g h (Some f) (Some f') q q' = (
  (λ e. record { left = f; right = f'; left_is = q; right_is = q'; equal = e }),
  (λ t.
      let a : t.left ≡ f = sym (some-is f t.left (sym q ∙ t.left_is)) in
      let b : t.right ≡ f' = sym (some-is f' t.right (sym q' ∙ t.right_is)) in
      subst (λ (z : Affine × Affine). made_and_stand h.conj.rows (equal_forms (base g.params ++ columns_of h.left) (z.0 ∷ []) (base g.params ++ columns_of h.right) (z.1 ∷ [])) ≡ true) (λ i. (a i, b i)) t.equal),
)

number_law : (g : Pairing) (h : Path) → (is_number g h ≡ true) ↔ AreEqualNumbers g h
number_law g h = numbers_law g h (number_at g.left h.left.position) (number_at g.right h.right.position) refl refl

made_if : (rows : List Row) (b : Bool) (o : Option (List Row)) → (made_and_stand rows (cond b o None) ≡ true) ↔ ((b ≡ true) × (made_and_stand rows o ≡ true))
made_if rows true o = ((λ e. (refl, e)), (λ t. t.1))
made_if rows false o = ((λ e. absurd (false≢true e)), (λ t. absurd (false≢true t.0)))

cells_law : (g : Pairing) (h : Path) (o o' : Option CellForms) → initial_cell g.left h.left.position ≡ o → initial_cell g.right h.right.position ≡ o' → (made_and_stand h.conj.rows (equal_cells g h o o') ≡ true) ↔ AreOneCell g h
cells_law g h None o' q q' = ((λ e. absurd (false≢true e)), (λ t. absurd (none_some t.left (sym q ∙ t.left_is))))
cells_law g h (Some c) None q q' = ((λ e. absurd (false≢true e)), (λ t. absurd (none_some t.right (sym q' ∙ t.right_is))))
cells_law g h (Some c) (Some d) q q' =
    let input = is_input (slice_get g.left.kinds c.array) in
    let forms = equal_forms (base g.params ++ columns_of h.left) c.subs (base g.params ++ columns_of h.right) d.subs in
    let test = both_tests (nat_eq c.array d.array) input (c.array ≡ d.array) (input ≡ true) (equal_test c.array d.array) ((λ e. e), (λ e. e)) in
    let made = made_if h.conj.rows (nat_eq c.array d.array && input) forms in (
      (λ e. let t = made.0 e in let u = test.0 t.0 in record { left = c; right = d; left_is = q; right_is = q'; array = u.0; input = u.1; equal = t.1 }),
      (λ t.
          let a : t.left ≡ c = sym (some-is c t.left (sym q ∙ t.left_is)) in
          let b : t.right ≡ d = sym (some-is d t.right (sym q' ∙ t.right_is)) in
          let array : c.array ≡ d.array = subst (λ (z : CellForms × CellForms). z.0.array ≡ z.1.array) (λ i. (a i, b i)) t.array in
          let is : input ≡ true = subst (λ (z : CellForms). is_input (slice_get g.left.kinds z.array) ≡ true) a t.input in
          let equal : made_and_stand h.conj.rows forms ≡ true =
          subst (λ (z : CellForms × CellForms). made_and_stand h.conj.rows (equal_forms (base g.params ++ columns_of h.left) z.0.subs (base g.params ++ columns_of h.right) z.1.subs) ≡ true) (λ i. (a i, b i)) t.equal in
          made.1 (test.1 (array, is), equal)),
    )

initial_law : (g : Pairing) (h : Path) → (is_initial g h ≡ true) ↔ AreOneCell g h
initial_law g h = cells_law g h (initial_cell g.left h.left.position) (initial_cell g.right h.right.position) refl refl

kills_law : (g : Pairing) (h : Path) (o : Option Assumed) (kill : Kill) (k : ℕ) → h.last ≡ o → (kill_fault g h o kill k ≡ None) ↔ IsKilledBy g h kill
kills_law g h None kill k q = ((λ e. absurd cc), (λ t. absurd (none_some t.assumed (sym q ∙ t.last))))
kills_law g h (Some a) kill k q =
    let rest : Conj → Type 0 = AfterChoices h.conj.columns (case_width g.params a) kill.choices (λ left. is_killed g.params h.conj.rows a left ≡ true) in
    let steps = step_faults (copy_of g a kill.stmt kill.piece kill.after kill.before) rule.Killed k (λ c. choices_fault g.params h a k kill.choices c (k + 1)) rest (λ c. choices_law g.params h a k kill.choices c (k + 1)) in (
      (λ e. let t = steps.0 e in record { assumed = a; last = q; copy = t.0; copy_is = t.1; rest = t.2 }),
      (λ t.
          let same : t.assumed ≡ a = sym (some-is a t.assumed (sym q ∙ t.last)) in
          steps.1 (
            t.copy,
            subst (λ (z : Assumed). copy_of g z kill.stmt kill.piece kill.after kill.before ≡ Some t.copy) same t.copy_is,
            subst (λ (z : Assumed). AfterChoices h.conj.columns (case_width g.params z) kill.choices (λ left. is_killed g.params h.conj.rows z left ≡ true) t.copy) same t.rest,
          )),
    )

-- ---- plans

module _ (g : Pairing) (cs : List Claim) where
  -- the law behind the steps of a plan
  abbrev IsLawful : PlanNext → Type 0
  IsLawful x = (h : Path) (k : ℕ) → (next_fault g cs x h k ≡ None) ↔ NextShows g cs x h

  behind : (ss : List Step) (x : PlanNext) → IsLawful x → (h : Path) (c : Conj) (k : ℕ) → (steps_fault ss (λ d. next_fault g cs x (at_rows h d)) c k ≡ None) ↔ AfterSteps ss (λ d. NextShows g cs x (at_rows h d)) c
  behind ss x law h c k = steps_law ss (λ d. next_fault g cs x (at_rows h d)) (λ d. NextShows g cs x (at_rows h d)) (λ d j. law (at_rows h d) j) c k

  cases_count : {w : _} (all : Row_of-Plan w) (hs : List Path) → CasesShow g cs all hs → count_of all ≡ length hs
  cases_count end_of-Plan [] t = refl
  cases_count end_of-Plan (h ∷ hs) t = absurd t
  cases_count (more_of-Plan s p rest) [] t = absurd t
  cases_count (more_of-Plan s p rest) (h ∷ hs) t = let n = cases_count rest hs t.1 in omega (arith, n)

  mutual
    pub next_law : (x : PlanNext) → IsLawful x
    next_law (Split' f p s l q t r) h k =
        split_law f h.conj k (λ a. steps_fault s (λ c. next_fault g cs l (at_rows h c)) a (k + 1)) (λ b. steps_fault t (λ c. next_fault g cs r (at_rows h c)) b (k + 1 + (length s + line_count l)))
        (AfterSteps s (λ c. NextShows g cs l (at_rows h c))) (AfterSteps t (λ c. NextShows g cs r (at_rows h c)))
        (λ a. behind s l (next_law l) h a (k + 1)) (λ b. behind t r (next_law r) h b (k + 1 + (length s + line_count l)))
    next_law (Residue' m f shape all) h k =
        test_faults (is_partition m f h.conj.columns (count_of all)) (classes_fault g cs all m f 0 h (k + 1)) (k, rule.Residue) (IsPartition m f h.conj (count_of all)) (ClassesShow g cs all m f 0 h)
        (partition_law m f h.conj (count_of all)) (classes_law all m f 0 h (k + 1))
    next_law (Go' order shape all) h k = go_faults (branches g order h) (count_of all) k (λ hs. cases_fault g cs all hs (k + 1)) (CasesShow g cs all) (λ hs n. cases_law all hs (k + 1) n) (λ hs t. cases_count all hs t)
    next_law (Absurd i) h k = absurd_law (slice_get h.conj.rows i) k
    next_law (Killed kill) h k = kills_law g h h.last kill k refl
    next_law (Hit c) h k = unless_faults (is_hit g h (slice_get cs c)) k rule.Hit ((claim : Claim) × (slice_get cs c ≡ Some claim) × IsHitOn g h claim) (hit_law g h (slice_get cs c))
    next_law SameNumber h k = unless_faults (is_number g h) k rule.Number (AreEqualNumbers g h) (number_law g h)
    next_law SameInitial h k = unless_faults (is_initial g h) k rule.Initial (AreOneCell g h) (initial_law g h)

    classes_law : {w : _} (all : Row_of-Plan w) (m : ℤ) (f : Affine) (i : ℕ) (h : Path) (k : ℕ) → (classes_fault g cs all m f i h k ≡ None) ↔ ClassesShow g cs all m f i h
    classes_law end_of-Plan m f i h k = ((λ e. tt), (λ t. refl))
    classes_law (more_of-Plan s t rest) m f i h k =
        both_faults (steps_fault s (λ c. next_fault g cs t (at_rows h c)) (class m f (pos i) h.conj) k) (classes_fault g cs rest m f (i + 1) h (k + (length s + line_count t)))
        (AfterSteps s (λ c. NextShows g cs t (at_rows h c)) (class m f (pos i) h.conj)) (ClassesShow g cs rest m f (i + 1) h)
        (behind s t (next_law t) h (class m f (pos i) h.conj) k) (classes_law rest m f (i + 1) h (k + (length s + line_count t)))

    cases_law : {w : _} (all : Row_of-Plan w) (hs : List Path) (k : ℕ) → count_of all ≡ length hs → (cases_fault g cs all hs k ≡ None) ↔ CasesShow g cs all hs
    cases_law end_of-Plan [] k n = ((λ e. tt), (λ t. refl))
    cases_law end_of-Plan (h ∷ hs) k n = absurd (omega (arith, n))
    cases_law (more_of-Plan s t rest) [] k n = absurd (omega (arith, n))
    cases_law (more_of-Plan s t rest) (h ∷ hs) k n =
        both_faults (steps_fault s (λ c. next_fault g cs t (at_rows h c)) h.conj k) (cases_fault g cs rest hs (k + (length s + line_count t)))
        (AfterSteps s (λ c. NextShows g cs t (at_rows h c)) h.conj) (CasesShow g cs rest hs)
        (behind s t (next_law t) h h.conj k) (cases_law rest hs (k + (length s + line_count t)) (omega (arith, n)))

pub faultless_plans_show : FaultlessPlansShow
faultless_plans_show g cs t h k = behind g cs t.steps t.next (next_law g cs t.next) h h.conj k
