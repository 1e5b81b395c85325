-- A proof is valid if and only if its rules are met.
use Rattle.std.proofs.Common.{◌≡◌, ◌↔◌, ◌≤◌, ◌+◌, ◌&&◌, ℕ, List, [], ◌∷◌, length, true, Option, Some, None, nat_le, refl, sym, ◌∙◌, subst}
use Rattle.std.specs.Prelude.{nat_eq, slice_get}
use Rattle.std.specs.List.{AllByRecursion, list_any}
use Rattle.std.proofs.lemmas.Bool.{false≢true}
use Rattle.ac_forms.specs.Rows.{form_of}
use Rattle.ac_forms.specs.declared.row.Row.{Row}
use Rattle.ac_syntax.specs.declared.tree.Position.TheVariants.{Output}
use Rattle.ac_base.proofs.Options.{some-is}
use Rattle.ac_cert.specs.CertificateFaults.{first_fault_of}
use Rattle.ac_cert.specs.declared.types.Rule.TheVariants as rule
use Rattle.ac_claims_paths.specs.PathSteps.{Pairing}
use Rattle.ac_claims_paths.specs.declared.path.Path.{Path}
use Rattle.ac_claims.specs.PlanFaults.{fault_unless, plan_lines}
use Rattle.ac_claims.specs.ProofEnds.{same_position}
use Rattle.ac_claims.specs.ProofFaults.{Domain, DuePlan, asks_no_more, claim_fault, claim_fault_at, claim_lines, claim_rows_fault, claims_fault, domain, due_from, have_shapes, head_lines, heads_fault, is_due, is_point, output_stands, outputs_fault, tree_fault_at, trees_fault}
use Rattle.ac_claims.specs.Soundness.{pairing_of}
use Rattle.ac_claims.specs.declared.types.Claim.{Claim}
use Rattle.ac_claims.specs.declared.types.ClaimTree.{ClaimTree}
use Rattle.ac_claims.specs.declared.types.Heads.{Heads}
use Rattle.ac_claims.proofs.Headline.{valid_proofs_name_same_outputs}
use Rattle.ac_claims_valid.specs.PlanRules.{PlanShows}
use Rattle.ac_claims_valid.specs.ProofRules.{AreShapes, AreTreesOf, IsClaimOver, IsClaimOfOutput}
use Rattle.ac_claims_valid.specs.RuleLaws.{ValidProofsMeetTheRules, RulesNameSameOutputs}
use Rattle.ac_claims_valid.proofs.Faults.{none_some, both_tests, equal_test, least_test, both_faults, unless_faults, test_faults, each_faults}
use Rattle.ac_claims_valid.proofs.PlanLaw.{faultless_plans_show, same_test}

-- ---- the head

shapes_law : (g : Pairing) (o : Option Heads) → (heads_fault g o ≡ None) ↔ AreShapes g o
shapes_law g None = ((λ e. tt), (λ t. refl))
shapes_law g (Some heads) =
    both_faults (fault_unless (have_shapes heads.left g.left.stmts) 3 rule.Coords) (fault_unless (have_shapes heads.right g.right.stmts) 4 rule.Coords) (have_shapes heads.left g.left.stmts ≡ true) (have_shapes heads.right g.right.stmts ≡ true)
    (unless_faults (have_shapes heads.left g.left.stmts) 3 rule.Coords (have_shapes heads.left g.left.stmts ≡ true) ((λ e. e), (λ e. e)))
    (unless_faults (have_shapes heads.right g.right.stmts) 4 rule.Coords (have_shapes heads.right g.right.stmts ≡ true) ((λ e. e), (λ e. e)))

claim_rows_law : (columns : ℕ) (rows : List Row) (k : ℕ) → (claim_rows_fault columns rows k ≡ None) ↔ AllByRecursion (λ (r : Row). length (form_of r).coefs ≤ columns) rows
claim_rows_law columns =
    each_faults (claim_rows_fault columns) (λ r k. fault_unless (nat_le (length (form_of r).coefs) columns) k rule.Claim) (λ r. 1) (λ (r : Row). length (form_of r).coefs ≤ columns) (λ k. refl) (λ r rs k. refl)
    (λ r k. unless_faults (nat_le (length (form_of r).coefs) columns) k rule.Claim (length (form_of r).coefs ≤ columns) (least_test (length (form_of r).coefs) columns))

claim_law_at : (g : Pairing) (c : Claim) (o o' : Option Domain) (k : ℕ) → domain g.left c.left ≡ o → domain g.right c.right ≡ o' → (claim_fault_at g o o' c.rows k ≡ None) ↔ IsClaimOver g c
claim_law_at g c None o' k q q' = ((λ e. absurd cc), (λ t. absurd (none_some t.left (sym q ∙ t.left_is))))
claim_law_at g c (Some a) None k q q' = ((λ e. absurd cc), (λ t. absurd (none_some t.right (sym q' ∙ t.right_is))))
claim_law_at g c (Some a) (Some b) k q q' =
    let law = claim_rows_law (g.params + (a.width + b.width)) c.rows (k + 1) in (
      (λ e. record { left = a; right = b; left_is = q; right_is = q'; rows = law.0 e }),
      (λ t.
          let x : t.left ≡ a = sym (some-is a t.left (sym q ∙ t.left_is)) in
          let y : t.right ≡ b = sym (some-is b t.right (sym q' ∙ t.right_is)) in
          law.1 (subst (λ (z : Domain × Domain). AllByRecursion (λ (r : Row). length (form_of r).coefs ≤ g.params + (z.0.width + z.1.width)) c.rows) (λ i. (x i, y i)) t.rows)),
    )

claims_law : (g : Pairing) (cs : List Claim) (k : ℕ) → (claims_fault g cs k ≡ None) ↔ AllByRecursion (IsClaimOver g) cs
claims_law g =
    each_faults (claims_fault g) (claim_fault g) (λ c. 1 + length c.rows) (IsClaimOver g) (λ k. refl) (λ c cs k. refl)
    (λ c k. claim_law_at g c (domain g.left c.left) (domain g.right c.right) k refl refl)

output_law_at : (g : Pairing) (outputs : List ℕ) (cs : List Claim) (o : ℕ × ℕ) (oc : Option Claim) → slice_get cs o.1 ≡ oc → (output_stands g outputs o.0 oc ≡ true) ↔ IsClaimOfOutput g outputs cs o
output_law_at g outputs cs o None q = ((λ e. absurd (false≢true e)), (λ t. absurd (none_some t.claim (sym q ∙ t.is))))
output_law_at g outputs cs o (Some c) q =
    let paired = list_any (nat_eq o.0) outputs in
    let asks = asks_no_more g c (domain g.left c.left) (domain g.right c.right) in
    let left = same_position c.left (Output o.0) in
    let right = same_position c.right (Output o.0) in
    let x = both_tests right asks (c.right ≡ Output o.0) (asks ≡ true) (same_test c.right (Output o.0)) ((λ e. e), (λ e. e)) in
    let y = both_tests left (right && asks) (c.left ≡ Output o.0) ((c.right ≡ Output o.0) × (asks ≡ true)) (same_test c.left (Output o.0)) x in
    let z = both_tests paired (left && (right && asks)) (paired ≡ true) ((c.left ≡ Output o.0) × ((c.right ≡ Output o.0) × (asks ≡ true))) ((λ e. e), (λ e. e)) y in (
      (λ e. let t = z.0 e in record { paired = t.0; claim = c; is = q; left = t.1.0; right = t.1.1.0; asks = t.1.1.1 }),
      (λ t.
          let same : t.claim ≡ c = sym (some-is c t.claim (sym q ∙ t.is)) in
          z.1 (
            t.paired,
            (
              subst (λ (d : Claim). d.left ≡ Output o.0) same t.left,
              (subst (λ (d : Claim). d.right ≡ Output o.0) same t.right, subst (λ (d : Claim). asks_no_more g d (domain g.left d.left) (domain g.right d.right) ≡ true) same t.asks),
            ),
          )),
    )

outputs_law : (g : Pairing) (outputs : List ℕ) (cs : List Claim) (os : List (ℕ × ℕ)) (k : ℕ) → (outputs_fault g outputs cs os k ≡ None) ↔ AllByRecursion (IsClaimOfOutput g outputs cs) os
outputs_law g outputs cs =
    each_faults (outputs_fault g outputs cs) (λ o k. fault_unless (output_stands g outputs o.0 (slice_get cs o.1)) k rule.Output) (λ o. 1) (IsClaimOfOutput g outputs cs) (λ k. refl) (λ o os k. refl)
    (λ o k. unless_faults (output_stands g outputs o.0 (slice_get cs o.1)) k rule.Output (IsClaimOfOutput g outputs cs o) (output_law_at g outputs cs o (slice_get cs o.1) refl))

-- ---- the trees

path_law : (g : Pairing) (cs : List Claim) (t : ClaimTree) (o : Option Path) (k : ℕ) → (tree_fault_at g cs t o k ≡ None) ↔ ((h : Path) × (o ≡ Some h) × PlanShows g cs t.tree h)
path_law g cs t None k = ((λ e. absurd cc), (λ s. absurd (none_some s.0 s.1)))
path_law g cs t (Some h) k =
    let law = faultless_plans_show g cs t.tree h (k + 1) in
    ((λ e. (h, refl, law.0 e)), (λ s. law.1 (subst (PlanShows g cs t.tree) (sym (some-is h s.0 s.1)) s.2)))

due_test : (t : ClaimTree) (d : DuePlan) → (is_due t d ≡ true) ↔ ((t.claim ≡ d.claim) × ((t.left_piece ≡ d.left_piece) × (t.right_piece ≡ d.right_piece)))
due_test t d =
    both_tests (nat_eq t.claim d.claim) (nat_eq t.left_piece d.left_piece && nat_eq t.right_piece d.right_piece) (t.claim ≡ d.claim) ((t.left_piece ≡ d.left_piece) × (t.right_piece ≡ d.right_piece)) (equal_test t.claim d.claim)
    (both_tests (nat_eq t.left_piece d.left_piece) (nat_eq t.right_piece d.right_piece) (t.left_piece ≡ d.left_piece) (t.right_piece ≡ d.right_piece) (equal_test t.left_piece d.left_piece) (equal_test t.right_piece d.right_piece))

trees_law : (g : Pairing) (cs : List Claim) (ts : List ClaimTree) (ds : List DuePlan) (k : ℕ) → (trees_fault g cs ts ds k ≡ None) ↔ AreTreesOf g cs ts ds
trees_law g cs [] [] k = ((λ e. tt), (λ t. refl))
trees_law g cs [] (d ∷ ds) k = ((λ e. absurd cc), (λ t. absurd t))
trees_law g cs (t ∷ ts) [] k = ((λ e. absurd cc), (λ s. absurd s))
trees_law g cs (t ∷ ts) (d ∷ ds) k =
    let Numbers = (t.claim ≡ d.claim) × ((t.left_piece ≡ d.left_piece) × (t.right_piece ≡ d.right_piece)) in
    let Shown = (h : Path) × (d.path ≡ Some h) × PlanShows g cs t.tree h in
    let rest = trees_law g cs ts ds (k + (1 + plan_lines t.tree)) in
    let both = both_faults (tree_fault_at g cs t d.path k) (trees_fault g cs ts ds (k + (1 + plan_lines t.tree))) Shown (AreTreesOf g cs ts ds) (path_law g cs t d.path k) rest in
    let all =
    test_faults (is_due t d) (first_fault_of (tree_fault_at g cs t d.path k) (trees_fault g cs ts ds (k + (1 + plan_lines t.tree)))) (k, rule.Tree) Numbers (Shown × AreTreesOf g cs ts ds) (due_test t d) both in (
      (λ e. let s = all.0 e in (record { claim = s.0.0; left_piece = s.0.1.0; right_piece = s.0.1.1; path = s.1.0.0; path_is = s.1.0.1; shows = s.1.0.2 }, s.1.1)),
      (λ s. all.1 ((s.0.claim, (s.0.left_piece, s.0.right_piece)), ((s.0.path, s.0.path_is, s.0.shows), s.1))),
    )

-- ---- the whole

pub valid_proofs_meet_the_rules : ValidProofsMeetTheRules
valid_proofs_meet_the_rules g outputs p =
    let first = 4 + head_lines p.heads in
    let k = first + claim_lines p.claims in
    let Claims = AllByRecursion (IsClaimOver g) p.claims in
    let Named = AllByRecursion (IsClaimOfOutput g outputs p.claims) p.outputs in
    let Trees = AreTreesOf g p.claims p.trees.items (due_from g 0 p.claims) in
    let point = fault_unless (is_point g.left p.point) 2 rule.Point in
    let trees = trees_fault g p.claims p.trees.items (due_from g 0 p.claims) (k + length p.outputs) in
    let outs = outputs_fault g outputs p.claims p.outputs k in
    let four = both_faults outs trees Named Trees (outputs_law g outputs p.claims p.outputs k) (trees_law g p.claims p.trees.items (due_from g 0 p.claims) (k + length p.outputs)) in
    let three = both_faults (claims_fault g p.claims first) (first_fault_of outs trees) Claims (Named × Trees) (claims_law g p.claims first) four in
    let two = both_faults (heads_fault g p.heads) (first_fault_of (claims_fault g p.claims first) (first_fault_of outs trees)) (AreShapes g p.heads) (Claims × (Named × Trees)) (shapes_law g p.heads) three in
    let all =
    both_faults point (first_fault_of (heads_fault g p.heads) (first_fault_of (claims_fault g p.claims first) (first_fault_of outs trees))) (is_point g.left p.point ≡ true) (AreShapes g p.heads × (Claims × (Named × Trees)))
    (unless_faults (is_point g.left p.point) 2 rule.Point (is_point g.left p.point ≡ true) ((λ e. e), (λ e. e))) two in (
      (λ e. let t = all.0 e in record { point = t.0; shapes = t.1.0; claims = t.1.1.0; named = t.1.1.1.0; trees = t.1.1.1.1 }),
      (λ t. all.1 (t.point, (t.shapes, (t.claims, (t.named, t.trees))))),
    )

pub rules_name_same_outputs : RulesNameSameOutputs
rules_name_same_outputs pair left right proof paired are moduli meets =
    valid_proofs_name_same_outputs pair left right proof paired are moduli ((valid_proofs_meet_the_rules (pairing_of pair left right) pair.outputs proof).1 meets)
