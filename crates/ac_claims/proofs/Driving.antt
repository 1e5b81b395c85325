-- The machine with its count, against the machine on all numbers of lines.
use Rattle.std.proofs.Common.{◌≡◌, ℕ, zero, suc, ◌+◌, ◌-◌, ℤ, pos, List, [], ◌∷◌, ◌++◌, map, length, Bool, true, false, cond, nat_le, Option, Some, None, Ok, nat_eq, slice_get, refl, sym, ap, ◌∙◌, arith, append_assoc, append-nil}
use Rattle.ac_forms.specs.Affine.{Affine}
use Rattle.ac_forms.specs.declared.conj.Conj.{Conj}
use Rattle.ac_cert.specs.CertificateFaults.{Fault, later, first_fault_of}
use Rattle.ac_cert.specs.AbsurdEnd.{absurd_refusal}
use Rattle.ac_cert.specs.Rules.{after_step, rule_of, both_sides, class, has_class}
use Rattle.ac_cert.specs.declared.types.Rule.{Rule}
use Rattle.ac_cert.specs.declared.types.Rule.TheVariants as rule
use Rattle.ac_claims.specs.MachineRuns.{ItemsDriveThePlan, LinesDriveTheProof}
use Rattle.ac_claims.specs.ProofEnds.{is_hit, is_number, is_initial}
use Rattle.ac_claims_paths.specs.PathSteps.{Pairing, at_rows, branches}
use Rattle.ac_claims_paths.specs.CopyKills.{case_width, copy_of, chosen, is_killed}
use Rattle.ac_claims.specs.Machine.{Due, PlanAt, Choices, Taken, Refused, Onto, onto_if, onto_some, onto_unless, classes, settled, copied, take_at, choose, take_item}
use Rattle.ac_claims.specs.PlanFaults.{plan_fault}
use Rattle.ac_claims.specs.ProofMachine.{Known, Came, No, Yes, yes_if, with_output, open_claim, open_path, open_tree, closed, come_within, come, unknown, items_of, head_items, row_lines, claims_lines, output_lines, tree_lines, lines_of, AreSpelledTrees}
use Rattle.ac_claims.specs.Steppers.{capped, come_by, after, after_all, beginning, answer_of, verdict_by}
use Rattle.ac_claims.specs.declared.item.Item.{Item}
use Rattle.ac_claims.specs.declared.item.Item.TheVariants as item
use Rattle.ac_claims_paths.specs.declared.path.Assumed.{Assumed}
use Rattle.ac_claims_paths.specs.declared.path.Path.{Path}
use Rattle.ac_forms.specs.Rows.{form_of}
use Rattle.ac_forms.specs.declared.row.Row.{Row}
use Rattle.ac_syntax.specs.declared.tree.Position.{Position}
use Rattle.ac_claims.specs.ProofFaults.{Domain, domain, is_point, have_shapes, output_stands, DuePlan, is_due_at, proof_fault}
use Rattle.ac_claims.specs.declared.types.Claim.{Claim}
use Rattle.ac_claims.specs.declared.types.ClaimTree.{ClaimTree}
use Rattle.ac_claims.specs.declared.types.Heads.{Heads}
use Rattle.ac_claims.specs.declared.types.Proof.{Proof}
use Rattle.ac_claims.proofs.ProofFolding.{IsOfPlan, AreOfPlan, items_within, come_on, judged, arrays_of, lines_judged}
use Rattle.ac_claims.proofs.Folding.{plan_run, next_run}

-- the same, with capped lines
abbrev cap : Due → Due
cap (PlanAt h) = PlanAt h
cap (Choices first n h a c) = Choices (capped first) n h a c

abbrev cap_taken : Taken → Taken
cap_taken (Refused k r) = Refused (capped k) r
cap_taken (Onto due) = Onto (map cap due)

cap_if : (b : Bool) (k : ℕ) (r : Rule) (due : List Due) → onto_if b (capped k) r (map cap due) ≡ cap_taken (onto_if b k r due)
cap_if true k r due = refl
cap_if false k r due = refl

cap_if-to : (b : Bool) (k : ℕ) (r : Rule) (due new : List Due) → new ≡ map cap due → onto_if b (capped k) r new ≡ cap_taken (onto_if b k r due)
cap_if-to b k r due new e = ap (onto_if b (capped k) r) e ∙ cap_if b k r due

cap_some : {A : Type 0} (o : Option A) (k : ℕ) (r : Rule) (F G : A → Taken) → ((x : A) → F x ≡ cap_taken (G x)) → onto_some o (capped k) r F ≡ cap_taken (onto_some o k r G)
cap_some None k r F G e = refl
cap_some (Some x) k r F G e = e x

cap_unless : (o : Option Rule) (k : ℕ) (due : List Due) → onto_unless o (capped k) (map cap due) ≡ cap_taken (onto_unless o k due)
cap_unless None k due = refl
cap_unless (Some r) k due = refl

cap_classes : (m : ℤ) (f : Affine) (i n : ℕ) (h : Path) (due : List Due) → classes m f i n h ++ map cap due ≡ map cap (classes m f i n h ++ due)
cap_classes m f i zero h due = refl
cap_classes m f i (suc n) h due = ap (λ z. PlanAt (at_rows h (class m f (pos i) h.conj)) ∷ z) (cap_classes m f (i + 1) n h due)

cap_plans : (hs : List Path) (due : List Due) → map PlanAt hs ++ map cap due ≡ map cap (map PlanAt hs ++ due)
cap_plans [] due = refl
cap_plans (h ∷ hs) due = ap (λ z. PlanAt h ∷ z) (cap_plans hs due)

cap_settled : (params first n : ℕ) (h : Path) (a : Assumed) (c : Conj) (due : List Due) → settled params (capped first) n h a c (map cap due) ≡ cap_taken (settled params first n h a c due)
cap_settled params first zero h a c due = cap_if (is_killed params h.conj.rows a c) first rule.Killed due
cap_settled params first (suc n) h a c due = refl

cap_copied : (g : Pairing) (stmt piece : ℕ) (after : Option ℕ) (before count k : ℕ) (h : Path) (o : Option Assumed) (due : List Due) → copied g stmt piece after before count (capped k) h o (map cap due) ≡ cap_taken (copied g stmt piece after before count k h o due)
cap_copied g stmt piece after before count k h None due = refl
cap_copied g stmt piece after before count k h (Some a) due = cap_some (copy_of g a stmt piece after before) k rule.Killed _ _ (λ c. cap_settled g.params k count h a c due)

cap_at : (g : Pairing) (cs : List Claim) (x : Item) (k : ℕ) (h : Path) (due : List Due) → take_at g cs x (capped k) h (map cap due) ≡ cap_taken (take_at g cs x k h due)
cap_at g cs (item.Step s) k h due = cap_some (after_step s h.conj) k (rule_of s) _ _ (λ c. refl)
cap_at g cs (item.Split f) k h due = cap_some (both_sides f h.conj) k rule.Split _ _ (λ s. refl)
cap_at g cs (item.Residue m f) k h due = cap_if-to (has_class m f _ h.conj.columns) k rule.Residue _ _ (cap_classes m f 0 _ h due)
cap_at g cs (item.Go order count) k h due = cap_some (branches g order h) k rule.Go _ _ (λ hs. cap_if-to (nat_eq count (length hs)) k rule.Go _ _ (cap_plans hs due))
cap_at g cs (item.Absurd i) k h due = cap_unless (absurd_refusal i h.conj) k due
cap_at g cs (item.Hit c) k h due = cap_if (is_hit g h (slice_get cs c)) k rule.Hit due
cap_at g cs item.Number k h due = cap_if (is_number g h) k rule.Number due
cap_at g cs item.Initial k h due = cap_if (is_initial g h) k rule.Initial due
cap_at g cs (item.Killed stmt piece after before count) k h due = cap_copied g stmt piece after before count k h h.last due
cap_at g cs (item.Choice x) k h due = refl
cap_at g cs (item.Point p) k h due = refl
cap_at g cs (item.Left p) k h due = refl
cap_at g cs (item.Right p) k h due = refl
cap_at g cs (item.Claims n) k h due = refl
cap_at g cs (item.Claim P Q n) k h due = refl
cap_at g cs (item.Row r) k h due = refl
cap_at g cs (item.Output o c) k h due = refl
cap_at g cs (item.Tree c a b) k h due = refl
cap_at g cs item.End k h due = refl

cap_choose : (params : ℕ) (x : Item) (k first n : ℕ) (h : Path) (a : Assumed) (c : Conj) (due : List Due) → choose params x (capped k) (capped first) n h a c (map cap due) ≡ cap_taken (choose params x k first n h a c due)
cap_choose params (item.Choice x) k first n h a c due = cap_some (chosen h.conj.columns (case_width params a) x c) k rule.Killed _ _ (λ d. cap_settled params first (n - 1) h a d due)
cap_choose params (item.Step s) k first n h a c due = refl
cap_choose params (item.Split f) k first n h a c due = refl
cap_choose params (item.Residue m f) k first n h a c due = refl
cap_choose params (item.Go order count) k first n h a c due = refl
cap_choose params (item.Absurd i) k first n h a c due = refl
cap_choose params (item.Hit d) k first n h a c due = refl
cap_choose params item.Number k first n h a c due = refl
cap_choose params item.Initial k first n h a c due = refl
cap_choose params (item.Killed stmt piece after before count) k first n h a c due = refl
cap_choose params (item.Point p) k first n h a c due = refl
cap_choose params (item.Left p) k first n h a c due = refl
cap_choose params (item.Right p) k first n h a c due = refl
cap_choose params (item.Claims i) k first n h a c due = refl
cap_choose params (item.Claim P Q i) k first n h a c due = refl
cap_choose params (item.Row r) k first n h a c due = refl
cap_choose params (item.Output o i) k first n h a c due = refl
cap_choose params (item.Tree i j l) k first n h a c due = refl
cap_choose params item.End k first n h a c due = refl

cap_item : (g : Pairing) (cs : List Claim) (x : Item) (k : ℕ) (due : List Due) → take_item g cs x (capped k) (map cap due) ≡ cap_taken (take_item g cs x k due)
cap_item g cs x k [] = refl
cap_item g cs x k (PlanAt h ∷ due) = cap_at g cs x k h due
cap_item g cs x k (Choices first n h a c ∷ due) = cap_choose g.params x k first n h a c due

abbrev cap_known : Known → Known
cap_known s = record { claims = s.claims; columns = s.columns; named = s.named; plans = s.plans; due = map cap s.due }

abbrev cap_came : Came → Came
cap_came (No k r) = No (capped k) r
cap_came (Yes s) = Yes (cap_known s)

cap_yes : (b : Bool) (k : ℕ) (r : Rule) (s : Known) → yes_if b (capped k) r (cap_known s) ≡ cap_came (yes_if b k r s)
cap_yes true k r s = refl
cap_yes false k r s = refl

cap_claim : (g : Pairing) (a b : Option Domain) (P Q : Position) (k : ℕ) (s : Known) → open_claim g a b P Q (capped k) (cap_known s) ≡ cap_came (open_claim g a b P Q k s)
cap_claim g (Some a) (Some b) P Q k s = refl
cap_claim g None b P Q k s = refl
cap_claim g (Some a) None P Q k s = refl

cap_path : (o : Option Path) (k : ℕ) (s : Known) (ds : List DuePlan) → open_path o (capped k) (cap_known s) ds ≡ cap_came (open_path o k s ds)
cap_path None k s ds = refl
cap_path (Some h) k s ds = refl

cap_tree : (c a b k : ℕ) (s : Known) (ds : List DuePlan) → open_tree c a b (capped k) (cap_known s) ds ≡ cap_came (open_tree c a b k s ds)
cap_tree c a b k s [] = refl
cap_tree c a b k s (d ∷ ds) = by (is_due_at c a b d)
  where
    by : (t : Bool) → cond t (open_path d.path (capped k) (cap_known s) ds) (No (capped k) rule.Tree) ≡ cap_came (cond t (open_path d.path k s ds) (No k rule.Tree))
    by true = cap_path d.path k s ds
    by false = refl

cap_closed : (ds : List DuePlan) (k : ℕ) (s : Known) → closed ds (capped k) (cap_known s) ≡ cap_came (closed ds k s)
cap_closed [] k s = refl
cap_closed (d ∷ ds) k s = refl

cap_within : (t : Taken) (s : Known) → come_within (cap_taken t) (cap_known s) ≡ cap_came (come_within t s)
cap_within (Refused k r) s = refl
cap_within (Onto due) s = refl

module _ (g : Pairing) (outputs : List ℕ) where
  cap_plan : (x : Item) (k : ℕ) (s : Known) → come_within (take_item g s.claims x (capped k) (map cap s.due)) (cap_known s) ≡ cap_came (come_within (take_item g s.claims x k s.due) s)
  cap_plan x k s = ap (λ t. come_within t (cap_known s)) (cap_item g s.claims x k s.due) ∙ cap_within (take_item g s.claims x k s.due) s

  cap_come : (x : Item) (k : ℕ) (s : Known) → come g outputs x (capped k) (cap_known s) ≡ cap_came (come g outputs x k s)
  cap_come (item.Point p) k s = cap_yes (is_point g.left p) k rule.Point s
  cap_come (item.Left shapes) k s = cap_yes (have_shapes shapes g.left.stmts) k rule.Coords s
  cap_come (item.Right shapes) k s = cap_yes (have_shapes shapes g.right.stmts) k rule.Coords s
  cap_come (item.Claims n) k s = refl
  cap_come (item.Claim P Q n) k s = cap_claim g (domain g.left P) (domain g.right Q) P Q k s
  cap_come (item.Row r) k s = cap_yes (nat_le (length (form_of r).coefs) s.columns) k rule.Claim _
  cap_come (item.Output o c) k s = cap_yes (output_stands g outputs o (slice_get s.claims c)) k rule.Output _
  cap_come (item.Tree c a b) k s = cap_tree c a b k s s.plans
  cap_come item.End k s = cap_closed s.plans k s
  cap_come (item.Step x) k s = cap_plan (item.Step x) k s
  cap_come (item.Split f) k s = cap_plan (item.Split f) k s
  cap_come (item.Residue m f) k s = cap_plan (item.Residue m f) k s
  cap_come (item.Go order count) k s = cap_plan (item.Go order count) k s
  cap_come (item.Absurd i) k s = cap_plan (item.Absurd i) k s
  cap_come (item.Hit c) k s = cap_plan (item.Hit c) k s
  cap_come item.Number k s = cap_plan item.Number k s
  cap_come item.Initial k s = cap_plan item.Initial k s
  cap_come (item.Killed stmt piece after before count) k s = cap_plan (item.Killed stmt piece after before count) k s
  cap_come (item.Choice x) k s = cap_plan (item.Choice x) k s

  -- what lines come to, on all numbers of lines
  abbrev went : List Item → ℕ → Known → Came
  went [] k s = Yes s
  went (x ∷ xs) k s = come_by (come g outputs x k s) (went xs (k + 1))

  stopped : (xs : List Item) (j k : ℕ) (r : Rule) → (after_all g outputs xs (record { line = j; came = No k r })).came ≡ No k r
  stopped [] j k r = refl
  stopped (x ∷ xs) j k r = stopped xs (later j 1) k r

  later_is : (k : ℕ) → later (capped k) 1 ≡ capped (k + 1)
  later_is k = omega arith

  counted : (xs : List Item) (k : ℕ) (s : Known) → (after_all g outputs xs (record { line = capped k; came = Yes (cap_known s) })).came ≡ cap_came (went xs k s)
  counted [] k s = refl
  counted (x ∷ xs) k s =
      ap (λ (t : Came). (after_all g outputs xs (record { line = later (capped k) 1; came = t })).came) (cap_come x k s) ∙ by (come g outputs x k s) (λ t. counted xs (k + 1) t)
    where
      by : (c : Came) → ((t : Known) → (after_all g outputs xs (record { line = capped (k + 1); came = Yes (cap_known t) })).came ≡ cap_came (went xs (k + 1) t))
          → (after_all g outputs xs (record { line = later (capped k) 1; came = cap_came c })).came ≡ cap_came (come_by c (went xs (k + 1)))
      by (No l r) next = stopped xs (later (capped k) 1) (capped l) r
      by (Yes t) next = ap (λ n. (after_all g outputs xs (record { line = n; came = Yes (cap_known t) })).came) (later_is k) ∙ next t

  abbrev fault_of : Came → Fault
  fault_of (No k r) = Some (k, r)
  fault_of (Yes s) = None

  went_judged : (xs : List Item) (k : ℕ) (s : Known) → fault_of (went xs k s) ≡ judged g outputs xs k s
  went_judged [] k s = refl
  went_judged (x ∷ xs) k s = by (come g outputs x k s) (λ t. went_judged xs (k + 1) t)
    where
      by : (c : Came) → ((t : Known) → fault_of (went xs (k + 1) t) ≡ judged g outputs xs (k + 1) t) → fault_of (come_by c (went xs (k + 1))) ≡ come_on c (judged g outputs xs (k + 1))
      by (No l r) next = refl
      by (Yes t) next = next t

  -- the outputs that lines name
  abbrev naming : Item → List ℕ
  naming (item.Output o c) = o ∷ []
  naming _ = []

  abbrev namings : List Item → List ℕ
  namings [] = []
  namings (x ∷ xs) = naming x ++ namings xs

  yes_named : (b : Bool) (k : ℕ) (r : Rule) (s t : Known) → yes_if b k r s ≡ Yes t → t.named ≡ s.named
  yes_named true k r s t e = cc
  yes_named false k r s t e = absurd cc

  claim_named : (a b : Option Domain) (P Q : Position) (k : ℕ) (s t : Known) → open_claim g a b P Q k s ≡ Yes t → t.named ≡ s.named
  claim_named (Some a) (Some b) P Q k s t e = cc
  claim_named None b P Q k s t e = absurd cc
  claim_named (Some a) None P Q k s t e = absurd cc

  path_named : (o : Option Path) (k : ℕ) (s t : Known) (ds : List DuePlan) → open_path o k s ds ≡ Yes t → t.named ≡ s.named
  path_named None k s t ds e = absurd cc
  path_named (Some h) k s t ds e = cc

  tree_named : (c a b k : ℕ) (s t : Known) (ds : List DuePlan) → open_tree c a b k s ds ≡ Yes t → t.named ≡ s.named
  tree_named c a b k s t [] e = absurd cc
  tree_named c a b k s t (d ∷ ds) e = by (is_due_at c a b d) e
    where
      by : (t' : Bool) → cond t' (open_path d.path k s ds) (No k rule.Tree) ≡ Yes t → t.named ≡ s.named
      by true e = path_named d.path k s t ds e
      by false e = absurd cc

  closed_named : (ds : List DuePlan) (k : ℕ) (s t : Known) → closed ds k s ≡ Yes t → t.named ≡ s.named
  closed_named [] k s t e = cc
  closed_named (d ∷ ds) k s t e = absurd cc

  within_named : (z : Taken) (s t : Known) → come_within z s ≡ Yes t → t.named ≡ s.named
  within_named (Refused k r) s t e = absurd cc
  within_named (Onto due) s t e = cc

  abbrev none_more : (s t : Known) → t.named ≡ s.named → t.named ≡ s.named ++ []
  none_more s t e = e ∙ sym (append-nil s.named)

  come_named : (x : Item) (k : ℕ) (s t : Known) → come g outputs x k s ≡ Yes t → t.named ≡ s.named ++ naming x
  come_named (item.Point p) k s t e = none_more s t (yes_named (is_point g.left p) k rule.Point s t e)
  come_named (item.Left shapes) k s t e = none_more s t (yes_named (have_shapes shapes g.left.stmts) k rule.Coords s t e)
  come_named (item.Right shapes) k s t e = none_more s t (yes_named (have_shapes shapes g.right.stmts) k rule.Coords s t e)
  come_named (item.Claims n) k s t e = none_more s t cc
  come_named (item.Claim P Q n) k s t e = none_more s t (claim_named (domain g.left P) (domain g.right Q) P Q k s t e)
  come_named (item.Row r) k s t e = none_more s t (yes_named (nat_le (length (form_of r).coefs) s.columns) k rule.Claim _ t e)
  come_named (item.Output o c) k s t e = yes_named (output_stands g outputs o (slice_get s.claims c)) k rule.Output (with_output s o) t e
  come_named (item.Tree c a b) k s t e = none_more s t (tree_named c a b k s t s.plans e)
  come_named item.End k s t e = none_more s t (closed_named s.plans k s t e)
  come_named (item.Step x) k s t e = none_more s t (within_named (take_item g s.claims (item.Step x) k s.due) s t e)
  come_named (item.Split f) k s t e = none_more s t (within_named (take_item g s.claims (item.Split f) k s.due) s t e)
  come_named (item.Residue m f) k s t e = none_more s t (within_named (take_item g s.claims (item.Residue m f) k s.due) s t e)
  come_named (item.Go order count) k s t e = none_more s t (within_named (take_item g s.claims (item.Go order count) k s.due) s t e)
  come_named (item.Absurd i) k s t e = none_more s t (within_named (take_item g s.claims (item.Absurd i) k s.due) s t e)
  come_named (item.Hit c) k s t e = none_more s t (within_named (take_item g s.claims (item.Hit c) k s.due) s t e)
  come_named item.Number k s t e = none_more s t (within_named (take_item g s.claims item.Number k s.due) s t e)
  come_named item.Initial k s t e = none_more s t (within_named (take_item g s.claims item.Initial k s.due) s t e)
  come_named (item.Killed stmt piece after before count) k s t e = none_more s t (within_named (take_item g s.claims (item.Killed stmt piece after before count) k s.due) s t e)
  come_named (item.Choice x) k s t e = none_more s t (within_named (take_item g s.claims (item.Choice x) k s.due) s t e)

  went_named : (xs : List Item) (k : ℕ) (s t : Known) → went xs k s ≡ Yes t → t.named ≡ s.named ++ namings xs
  went_named [] k s t e = let i : s ≡ t = cc in ap (λ (z : Known). z.named) (sym i) ∙ sym (append-nil s.named)
  went_named (x ∷ xs) k s t e = by (come g outputs x k s) refl e (λ u. went_named xs (k + 1) u t)
    where
      by : (c : Came) → come g outputs x k s ≡ c → come_by c (went xs (k + 1)) ≡ Yes t → ((u : Known) → went xs (k + 1) u ≡ Yes t → t.named ≡ u.named ++ namings xs) → t.named ≡ s.named ++ (naming x ++ namings xs)
      by (No l r) q e next = absurd cc
      by (Yes u) q e next = next u e ∙ ap (λ z. z ++ namings xs) (come_named x k s u q) ∙ append_assoc s.named (naming x) (namings xs)

  -- those of a proof
  row_namings : (rows : List Row) (rest : List Item) → namings (row_lines rows rest) ≡ namings rest
  row_namings [] rest = refl
  row_namings (r ∷ rows) rest = row_namings rows rest

  claim_namings : (cs : List Claim) (rest : List Item) → namings (claims_lines cs rest) ≡ namings rest
  claim_namings [] rest = refl
  claim_namings (c ∷ cs) rest = row_namings c.rows (claims_lines cs rest) ∙ claim_namings cs rest

  output_namings : (os : List (ℕ × ℕ)) (rest : List Item) → namings (output_lines os rest) ≡ arrays_of os ++ namings rest
  output_namings [] rest = refl
  output_namings (o ∷ os) rest = ap (λ z. o.0 ∷ z) (output_namings os rest)

  not_naming : (x : Item) → IsOfPlan x → naming x ≡ []
  not_naming (item.Step _) u = refl
  not_naming (item.Split f) u = refl
  not_naming (item.Residue m f) u = refl
  not_naming (item.Go order count) u = refl
  not_naming (item.Absurd i) u = refl
  not_naming (item.Hit c) u = refl
  not_naming item.Number u = refl
  not_naming item.Initial u = refl
  not_naming (item.Killed stmt piece after before count) u = refl
  not_naming (item.Choice x) u = refl
  not_naming (item.Point p) u = refl
  not_naming (item.Left p) u = refl
  not_naming (item.Right p) u = refl
  not_naming (item.Claims n) u = refl
  not_naming (item.Claim P Q n) u = refl
  not_naming (item.Row r) u = refl
  not_naming (item.Output o c) u = absurd u
  not_naming (item.Tree c a b) u = refl
  not_naming item.End u = refl

  plan_namings : (xs : List Item) → AreOfPlan xs → (rest : List Item) → namings (xs ++ rest) ≡ namings rest
  plan_namings [] u rest = refl
  plan_namings (x ∷ xs) u rest = ap (λ z. z ++ namings (xs ++ rest)) (not_naming x u.0) ∙ plan_namings xs u.1 rest

  tree_namings : (ts : List ClaimTree) → namings (tree_lines ts (item.End ∷ [])) ≡ []
  tree_namings [] = refl
  tree_namings (t ∷ ts) = plan_namings (items_of t.tree) (items_within t.tree) (tree_lines ts (item.End ∷ [])) ∙ tree_namings ts

  head_namings : (o : Option Heads) (rest : List Item) → namings (head_items o rest) ≡ namings rest
  head_namings None rest = refl
  head_namings (Some h) rest = refl

  proof_namings : (p : Proof) → namings (lines_of p) ≡ arrays_of p.outputs
  proof_namings p =
      let trees = tree_lines p.trees.items (item.End ∷ []) in
      head_namings p.heads (item.Claims (length p.claims) ∷ claims_lines p.claims (output_lines p.outputs trees)) ∙ claim_namings p.claims (output_lines p.outputs trees) ∙ output_namings p.outputs trees
      ∙ ap (λ z. arrays_of p.outputs ++ z) (tree_namings p.trees.items) ∙ append-nil (arrays_of p.outputs)

  answers : (c : Came) (f : Fault) (os : List ℕ) → fault_of c ≡ f → ((t : Known) → c ≡ Yes t → t.named ≡ os) → answer_of (cap_came c) ≡ verdict_by f os
  answers (No k r) f os e h = ap (λ z. verdict_by z os) e
  answers (Yes s) f os e h = ap Ok (h s refl) ∙ ap (λ z. verdict_by z os) e

  driven : (p : Proof) → AreSpelledTrees p.trees.items → answer_of (after_all g outputs (lines_of p) beginning).came ≡ verdict_by (proof_fault g outputs p) (arrays_of p.outputs)
  driven p u =
      ap answer_of (counted (lines_of p) 2 unknown)
      ∙ answers (went (lines_of p) 2 unknown) (proof_fault g outputs p) (arrays_of p.outputs) (went_judged (lines_of p) 2 unknown ∙ lines_judged g outputs p u) (λ t e. went_named (lines_of p) 2 unknown t e ∙ proof_namings p)

pub lines_drive_the_proof : LinesDriveTheProof
lines_drive_the_proof g outputs p u = driven g outputs p u

abbrev nothing : ℕ → List Due → Fault
nothing k due = None

first_none : (a : Fault) → first_fault_of a None ≡ a
first_none None = refl
first_none (Some x) = refl

pub items_drive_the_plan : ItemsDriveThePlan
items_drive_the_plan g cs plan h k u = plan_run g cs nothing plan.steps plan.next (next_run g cs nothing plan.next u) [] h [] k ∙ first_none (plan_fault g cs plan h k)
