-- Run over the lines of a proof, the machine meets the proof's first fault.
use Rattle.std.proofs.Common.{◌≡◌, ℕ, suc, ◌+◌, List, [], ◌∷◌, ◌++◌, map, length, Bool, true, false, nat_le, cond, Option, Some, None, slice_get, refl, sym, ap, ◌∙◌, arith, append_assoc, append-nil}
use Rattle.ac_forms.specs.Rows.{form_of}
use Rattle.ac_forms.specs.declared.row.Row.{Row}
use Rattle.ac_cert.specs.CertificateFaults.{Fault, first_fault_of}
use Rattle.ac_omega_steps.specs.declared.choose.Choice.{Choice}
use Rattle.ac_cert.specs.declared.types.Rule.{Rule}
use Rattle.ac_cert.specs.declared.types.Rule.TheVariants as rule
use Rattle.ac_cert.specs.declared.types.Step.{Step}
use Rattle.ac_claims_paths.specs.PathSteps.{Pairing}
use Rattle.ac_claims.specs.Machine.{Due, PlanAt, Taken, Refused, Onto, take_item, goes_on, run, step_items, choice_items, next_items, row_items}
use Rattle.ac_claims.specs.PlanFaults.{fault_unless, plan_fault, plan_lines}
use Rattle.ac_claims.specs.ProofFaults.{Domain, domain, is_point, have_shapes, head_lines, heads_fault, claim_rows_fault, claim_fault_at, claim_fault, claims_fault, claim_lines, output_stands, outputs_fault, DuePlan, due_from, is_due, tree_fault_at, trees_fault, proof_fault}
use Rattle.ac_claims.specs.ProofMachine.{Known, Came, No, Yes, yes_if, with_last, open_claim, open_path, come_within, come, unknown, items_of, head_items, row_lines, claims_lines, output_lines, tree_lines, lines_of, AreSpelledTrees}
use Rattle.ac_claims.specs.declared.item.Item.{Item}
use Rattle.ac_claims.specs.declared.item.Item.TheVariants as item
use Rattle.ac_claims_paths.specs.declared.path.Path.{Path}
use Rattle.ac_claims.specs.declared.types.Claim.{Claim}
use Rattle.ac_claims.specs.declared.types.ClaimTree.{ClaimTree}
use Rattle.ac_claims.specs.declared.types.Heads.{Heads}
use Rattle.ac_claims.specs.declared.types.Plan.{Plan}
use Rattle.ac_claims.specs.declared.types.Proof.{Proof}
use Rattle.ac_claims.specs.declared.types.PlanNext.{PlanNext, Split', Residue', Go', Row_of-Plan, end_of-Plan, more_of-Plan}
use Rattle.ac_claims.specs.declared.types.PlanNext.TheVariants.{Absurd, Killed, Hit, SameNumber, SameInitial}
use Rattle.ac_claims.proofs.Folding.{first_again, plan_run, next_run}

-- a line of a plan
abbrev pub IsOfPlan : Item → Type 0
IsOfPlan (item.Step s) = Unit {0}
IsOfPlan (item.Split f) = Unit {0}
IsOfPlan (item.Residue m f) = Unit {0}
IsOfPlan (item.Go order count) = Unit {0}
IsOfPlan (item.Absurd i) = Unit {0}
IsOfPlan (item.Hit c) = Unit {0}
IsOfPlan item.Number = Unit {0}
IsOfPlan item.Initial = Unit {0}
IsOfPlan (item.Killed stmt piece after before count) = Unit {0}
IsOfPlan (item.Choice x) = Unit {0}
IsOfPlan _ = ⊥

abbrev pub AreOfPlan : List Item → Type 0
AreOfPlan [] = Unit {0}
AreOfPlan (x ∷ xs) = IsOfPlan x × AreOfPlan xs

steps_within : (ss : List Step) (rest : List Item) → AreOfPlan rest → AreOfPlan (step_items ss rest)
steps_within [] rest u = u
steps_within (s ∷ ss) rest u = (tt, steps_within ss rest u)

choices_within : (xs : List Choice) (rest : List Item) → AreOfPlan rest → AreOfPlan (choice_items xs rest)
choices_within [] rest u = u
choices_within (x ∷ xs) rest u = (tt, choices_within xs rest u)

mutual
  next_within : (x : PlanNext) (rest : List Item) → AreOfPlan rest → AreOfPlan (next_items x rest)
  next_within (Split' f p s l q t r) rest u = (tt, steps_within s _ (next_within l _ (steps_within t _ (next_within r rest u))))
  next_within (Residue' m f shape all) rest u = (tt, rows_within all rest u)
  next_within (Go' order shape all) rest u = (tt, rows_within all rest u)
  next_within (Absurd i) rest u = (tt, u)
  next_within (Killed kill) rest u = (tt, choices_within kill.choices rest u)
  next_within (Hit c) rest u = (tt, u)
  next_within SameNumber rest u = (tt, u)
  next_within SameInitial rest u = (tt, u)

  rows_within : {m : _} (all : Row_of-Plan m) (rest : List Item) → AreOfPlan rest → AreOfPlan (row_items all rest)
  rows_within end_of-Plan rest u = u
  rows_within (more_of-Plan s t more) rest u = steps_within s _ (next_within t _ (rows_within more rest u))

-- a plan has no other lines
pub items_within : (t : Plan) → AreOfPlan (items_of t)
items_within t = steps_within t.steps (next_items t.next []) (next_within t.next [] tt)

-- such a line is the plan's under way
pub come-within : (g : Pairing) (outputs : List ℕ) (x : Item) → IsOfPlan x → (k : ℕ) (s : Known) → come g outputs x k s ≡ come_within (take_item g s.claims x k s.due) s
come-within g outputs (item.Step _) u k s = refl
come-within g outputs (item.Split f) u k s = refl
come-within g outputs (item.Residue m f) u k s = refl
come-within g outputs (item.Go order count) u k s = refl
come-within g outputs (item.Absurd i) u k s = refl
come-within g outputs (item.Hit c) u k s = refl
come-within g outputs item.Number u k s = refl
come-within g outputs item.Initial u k s = refl
come-within g outputs (item.Killed stmt piece after before count) u k s = refl
come-within g outputs (item.Choice x) u k s = refl
come-within g outputs (item.Point p) u k s = absurd u
come-within g outputs (item.Left p) u k s = absurd u
come-within g outputs (item.Right p) u k s = absurd u
come-within g outputs (item.Claims n) u k s = absurd u
come-within g outputs (item.Claim P Q n) u k s = absurd u
come-within g outputs (item.Row r) u k s = absurd u
come-within g outputs (item.Output o c) u k s = absurd u
come-within g outputs (item.Tree c a b) u k s = absurd u
come-within g outputs item.End u k s = absurd u

abbrev pub come_on : Came → (Known → Fault) → Fault
come_on (No k r) go = Some (k, r)
come_on (Yes s) go = go s

-- the first refusal of lines
abbrev pub judged : Pairing → List ℕ → List Item → ℕ → Known → Fault
judged g outputs [] k s = None
judged g outputs (x ∷ xs) k s = come_on (come g outputs x k s) (judged g outputs xs (k + 1))

-- the claim with these rows
abbrev pub with_rows : Claim → List Row → Claim
with_rows c rows = record { left = c.left; right = c.right; rows = rows }

pub last_is : (cs : List Claim) (c : Claim) (r : Row) → with_last (cs ++ c ∷ []) r ≡ cs ++ with_rows c (c.rows ++ r ∷ []) ∷ []
last_is [] c r = refl
last_is (d ∷ []) c r = refl
last_is (d ∷ e ∷ cs) c r = ap (λ z. d ∷ z) (last_is (e ∷ cs) c r)

yes_first : (b : Bool) (k : ℕ) (r : Rule) (s : Known) (go : Known → Fault) → come_on (yes_if b k r s) go ≡ first_fault_of (fault_unless b k r) (go s)
yes_first true k r s go = refl
yes_first false k r s go = refl

abbrev known : List Claim → ℕ → List ℕ → List DuePlan → List Due → Known
known cs n named plans due = record { claims = cs; columns = n; named = named; plans = plans; due = due }

abbrev pub arrays_of : List (ℕ × ℕ) → List ℕ
arrays_of = map (λ o. o.0)

module _ (g : Pairing) (outputs : List ℕ) where
  -- so many claims are known, and no more
  abbrev claimed : List Claim → ℕ → Known
  claimed cs n = known cs n [] (due_from g 0 cs) []

  rows_judged : (rows : List Row) (front : List Claim) (c : Claim) (n : ℕ) (rest : List Item) (k : ℕ)
      → judged g outputs (row_lines rows rest) k (claimed (front ++ c ∷ []) n) ≡ first_fault_of (claim_rows_fault n rows k) (judged g outputs rest (k + length rows) (claimed (front ++ with_rows c (c.rows ++ rows) ∷ []) n))
  rows_judged [] front c n rest k =
      let e : k + 0 ≡ k = omega arith in
      let a : c.rows ++ [] ≡ c.rows = append-nil c.rows in
      sym ((λ i. judged g outputs rest (e i) (claimed (front ++ with_rows c (a i) ∷ []) n)))
  rows_judged (r ∷ rows) front c n rest k =
      let b = nat_le (length (form_of r).coefs) n in
      let e : k + 1 + length rows ≡ k + suc (length rows) = omega arith in
      let a : (c.rows ++ r ∷ []) ++ rows ≡ c.rows ++ r ∷ rows = append_assoc c.rows (r ∷ []) rows in
      yes_first b k rule.Claim (claimed (with_last (front ++ c ∷ []) r) n) (judged g outputs (row_lines rows rest) (k + 1))
      ∙ ap (λ z. first_fault_of (fault_unless b k rule.Claim) (judged g outputs (row_lines rows rest) (k + 1) (claimed z n))) (last_is front c r)
      ∙ ap (first_fault_of (fault_unless b k rule.Claim)) (rows_judged rows front (with_rows c (c.rows ++ r ∷ [])) n rest (k + 1))
      ∙ sym (first_again (fault_unless b k rule.Claim) (claim_rows_fault n rows (k + 1)) _)
      ∙ (λ i. first_fault_of (first_fault_of (fault_unless b k rule.Claim) (claim_rows_fault n rows (k + 1))) (judged g outputs rest (e i) (claimed (front ++ with_rows c (a i) ∷ []) n)))

  -- the columns of a claim's rows
  columns_by : Option Domain → Option Domain → ℕ
  columns_by (Some a) (Some b) = g.params + (a.width + b.width)
  columns_by None b = 0
  columns_by (Some a) None = 0

  columns_after : ℕ → List Claim → ℕ
  columns_after n [] = n
  columns_after n (c ∷ cs) = columns_after (columns_by (domain g.left c.left) (domain g.right c.right)) cs

  claim_judged : (o o' : Option Domain) (c : Claim) (front : List Claim) (n : ℕ) (rest : List Item) (k : ℕ)
      → come_on (open_claim g o o' c.left c.right k (claimed front n)) (judged g outputs (row_lines c.rows rest) (k + 1))
      ≡ first_fault_of (claim_fault_at g o o' c.rows k) (judged g outputs rest (k + (1 + length c.rows)) (claimed (front ++ c ∷ []) (columns_by o o')))
  unfolding columns_by
  claim_judged None o' c front n rest k = refl
  claim_judged (Some a) None c front n rest k = refl
  claim_judged (Some a) (Some b) c front n rest k =
      let e : k + 1 + length c.rows ≡ k + (1 + length c.rows) = omega arith in
      rows_judged c.rows front (with_rows c []) (g.params + (a.width + b.width)) rest (k + 1)
      ∙ ap (λ j. first_fault_of (claim_rows_fault (g.params + (a.width + b.width)) c.rows (k + 1)) (judged g outputs rest j (claimed (front ++ c ∷ []) (g.params + (a.width + b.width))))) e

  claims_judged : (cs front : List Claim) (n : ℕ) (rest : List Item) (k : ℕ)
      → judged g outputs (claims_lines cs rest) k (claimed front n) ≡ first_fault_of (claims_fault g cs k) (judged g outputs rest (k + claim_lines cs) (claimed (front ++ cs) (columns_after n cs)))
  unfolding columns_after
  claims_judged [] front n rest k =
      let e : k + 0 ≡ k = omega arith in
      let a : front ++ [] ≡ front = append-nil front in
      sym (λ i. judged g outputs rest (e i) (claimed (a i) n))
  claims_judged (c ∷ cs) front n rest k =
      let m = columns_by (domain g.left c.left) (domain g.right c.right) in
      let e : k + (1 + length c.rows) + claim_lines cs ≡ k + ((1 + length c.rows) + claim_lines cs) = omega arith in
      let a : (front ++ c ∷ []) ++ cs ≡ front ++ c ∷ cs = append_assoc front (c ∷ []) cs in
      claim_judged (domain g.left c.left) (domain g.right c.right) c front n (claims_lines cs rest) k
      ∙ ap (first_fault_of (claim_fault g c k)) (claims_judged cs (front ++ c ∷ []) m rest (k + (1 + length c.rows)))
      ∙ sym (first_again (claim_fault g c k) (claims_fault g cs (k + (1 + length c.rows))) _)
      ∙ (λ i. first_fault_of (first_fault_of (claim_fault g c k) (claims_fault g cs (k + (1 + length c.rows)))) (judged g outputs rest (e i) (claimed (a i) (columns_after m cs))))

  outputs_judged : (os : List (ℕ × ℕ)) (cs : List Claim) (n : ℕ) (named : List ℕ) (plans : List DuePlan) (rest : List Item) (k : ℕ)
      → judged g outputs (output_lines os rest) k (known cs n named plans []) ≡ first_fault_of (outputs_fault g outputs cs os k) (judged g outputs rest (k + length os) (known cs n (named ++ arrays_of os) plans []))
  outputs_judged [] cs n named plans rest k =
      let e : k + 0 ≡ k = omega arith in
      let a : named ++ [] ≡ named = append-nil named in
      sym (λ i. judged g outputs rest (e i) (known cs n (a i) plans []))
  outputs_judged (o ∷ os) cs n named plans rest k =
      let b = output_stands g outputs o.0 (slice_get cs o.1) in
      let e : k + 1 + length os ≡ k + suc (length os) = omega arith in
      let a : (named ++ o.0 ∷ []) ++ arrays_of os ≡ named ++ o.0 ∷ arrays_of os = append_assoc named (o.0 ∷ []) (arrays_of os) in
      yes_first b k rule.Output (known cs n (named ++ o.0 ∷ []) plans []) (judged g outputs (output_lines os rest) (k + 1))
      ∙ ap (first_fault_of (fault_unless b k rule.Output)) (outputs_judged os cs n (named ++ o.0 ∷ []) plans rest (k + 1))
      ∙ sym (first_again (fault_unless b k rule.Output) (outputs_fault g outputs cs os (k + 1)) _)
      ∙ (λ i. first_fault_of (first_fault_of (fault_unless b k rule.Output) (outputs_fault g outputs cs os (k + 1))) (judged g outputs rest (e i) (known cs n (a i) plans [])))

  -- the lines of a plan within a proof
  within_judged : (xs : List Item) → AreOfPlan xs → (cs : List Claim) (n : ℕ) (named : List ℕ) (plans : List DuePlan) (due : List Due) (rest : List Item) (k : ℕ)
      → judged g outputs (xs ++ rest) k (known cs n named plans due) ≡ run g cs (λ j d. judged g outputs rest j (known cs n named plans d)) xs k due
  within_judged [] u cs n named plans due rest k = refl
  within_judged (x ∷ xs) u cs n named plans due rest k =
      ap (λ z. come_on z (judged g outputs (xs ++ rest) (k + 1))) (come-within g outputs x u.0 k (known cs n named plans due))
      ∙ by (take_item g cs x k due) (λ d. within_judged xs u.1 cs n named plans d rest (k + 1))
    where
      by : (t : Taken) → ((d : List Due) → judged g outputs (xs ++ rest) (k + 1) (known cs n named plans d) ≡ run g cs (λ j d. judged g outputs rest j (known cs n named plans d)) xs (k + 1) d)
          → come_on (come_within t (known cs n named plans due)) (judged g outputs (xs ++ rest) (k + 1)) ≡ goes_on t (run g cs (λ j d. judged g outputs rest j (known cs n named plans d)) xs (k + 1))
      by (Refused l r) next = refl
      by (Onto d) next = next d

  trees_judged : (ts : List ClaimTree) → AreSpelledTrees ts → (cs : List Claim) (n : ℕ) (named : List ℕ) (ds : List DuePlan) (k : ℕ)
      → judged g outputs (tree_lines ts (item.End ∷ [])) k (known cs n named ds []) ≡ trees_fault g cs ts ds k
  trees_judged [] u cs n named [] k = refl
  trees_judged [] u cs n named (d ∷ ds) k = refl
  trees_judged (t ∷ ts) u cs n named [] k = refl
  trees_judged (t ∷ ts) u cs n named (d ∷ ds) k = due (is_due t d) (λ j. trees_judged ts u.1 cs n named ds j)
    where
      path : (o : Option Path) → ((j : ℕ) → judged g outputs (tree_lines ts (item.End ∷ [])) j (known cs n named ds []) ≡ trees_fault g cs ts ds j)
          → come_on (open_path o k (known cs n named (d ∷ ds) []) ds) (judged g outputs (items_of t.tree ++ tree_lines ts (item.End ∷ [])) (k + 1)) ≡ first_fault_of (tree_fault_at g cs t o k) (trees_fault g cs ts ds (k + (1 + plan_lines t.tree)))
      path None next = refl
      path (Some h) next =
          let e : k + 1 + plan_lines t.tree ≡ k + (1 + plan_lines t.tree) = omega arith in
          let on : ℕ → List Due → Fault = λ j d. judged g outputs (tree_lines ts (item.End ∷ [])) j (known cs n named ds d) in
          within_judged (items_of t.tree) (items_within t.tree) cs n named ds (PlanAt h ∷ []) (tree_lines ts (item.End ∷ [])) (k + 1)
          ∙ plan_run g cs on t.tree.steps t.tree.next (next_run g cs on t.tree.next u.0) [] h [] (k + 1)
          ∙ ap (first_fault_of (plan_fault g cs t.tree h (k + 1))) (next (k + 1 + plan_lines t.tree))
          ∙ ap (λ j. first_fault_of (plan_fault g cs t.tree h (k + 1)) (trees_fault g cs ts ds j)) e

      due : (b : Bool) → ((j : ℕ) → judged g outputs (tree_lines ts (item.End ∷ [])) j (known cs n named ds []) ≡ trees_fault g cs ts ds j)
          → come_on (cond b (open_path d.path k (known cs n named (d ∷ ds) []) ds) (No k rule.Tree)) (judged g outputs (items_of t.tree ++ tree_lines ts (item.End ∷ [])) (k + 1))
          ≡ cond b (first_fault_of (tree_fault_at g cs t d.path k) (trees_fault g cs ts ds (k + (1 + plan_lines t.tree)))) (Some (k, rule.Tree))
      due true next = path d.path next
      due false next = refl

  -- the lines behind the point
  heads_judged : (o : Option Heads) (rest : List Item) → judged g outputs (head_items o rest) 3 unknown ≡ first_fault_of (heads_fault g o) (judged g outputs rest (3 + head_lines o) unknown)
  heads_judged None rest = refl
  heads_judged (Some h) rest =
      yes_first (have_shapes h.left g.left.stmts) 3 rule.Coords unknown (judged g outputs (item.Right h.right ∷ rest) 4)
      ∙ ap (first_fault_of (fault_unless (have_shapes h.left g.left.stmts) 3 rule.Coords)) (yes_first (have_shapes h.right g.right.stmts) 4 rule.Coords unknown (judged g outputs rest 5))
      ∙ sym (first_again (fault_unless (have_shapes h.left g.left.stmts) 3 rule.Coords) (fault_unless (have_shapes h.right g.right.stmts) 4 rule.Coords) _)

  -- THE theorem: taken line by line, a proof is refused where its definition says
  pub lines_judged : (p : Proof) → AreSpelledTrees p.trees.items → judged g outputs (lines_of p) 2 unknown ≡ proof_fault g outputs p
  lines_judged p u =
      let first = 4 + head_lines p.heads in
      let k = first + claim_lines p.claims in
      let b = is_point g.left p.point in
      let trees = tree_lines p.trees.items (item.End ∷ []) in
      let e : 3 + head_lines p.heads + 1 ≡ 4 + head_lines p.heads = omega arith in
      yes_first b 2 rule.Point unknown (judged g outputs (head_items p.heads (item.Claims (length p.claims) ∷ claims_lines p.claims (output_lines p.outputs trees))) 3)
      ∙ ap (first_fault_of (fault_unless b 2 rule.Point)) (heads_judged p.heads (item.Claims (length p.claims) ∷ claims_lines p.claims (output_lines p.outputs trees))
      ∙ ap (first_fault_of (heads_fault g p.heads)) (ap (λ j. judged g outputs (claims_lines p.claims (output_lines p.outputs trees)) j unknown) e
      ∙ claims_judged p.claims [] 0 (output_lines p.outputs trees) first
      ∙ ap (first_fault_of (claims_fault g p.claims first)) (outputs_judged p.outputs p.claims (columns_after 0 p.claims) [] (due_from g 0 p.claims) trees k
      ∙ ap (first_fault_of (outputs_fault g outputs p.claims p.outputs k)) (trees_judged p.trees.items u p.claims (columns_after 0 p.claims) (arrays_of p.outputs) (due_from g 0 p.claims) (k + length p.outputs)))))
