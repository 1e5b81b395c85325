-- The machine for a whole proof: it takes the lines of a proof one by one.
use Rattle.std.specs.Prelude.{ℕ, ◌+◌, List, [], ◌∷◌, ◌++◌, length, Bool, Option, Some, None, cond, nat_le, slice_get}
use Rattle.ac_forms.specs.Rows.{form_of}
use Rattle.ac_forms.specs.declared.row.Row.{Row}
use Rattle.ac_syntax.specs.declared.tree.Position.{Position}
use Rattle.ac_cert.specs.declared.types.Rule.{Rule}
use Rattle.ac_cert.specs.declared.types.Rule.TheVariants as rule
use Rattle.ac_claims_paths.specs.PathSteps.{Pairing}
use Rattle.ac_claims.specs.Machine.{Due, PlanAt, Taken, Refused, Onto, take_item, step_items, next_items, IsSpelled}
use Rattle.ac_claims.specs.ProofFaults.{Domain, domain, is_point, have_shapes, output_stands, DuePlan, due_from, is_due_at}
use Rattle.ac_claims.specs.declared.item.Item.{Item}
use Rattle.ac_claims.specs.declared.item.Item.TheVariants as item
use Rattle.ac_claims_paths.specs.declared.path.Path.{Path}
use Rattle.ac_claims.specs.declared.types.Claim.{Claim}
use Rattle.ac_claims.specs.declared.types.ClaimTree.{ClaimTree}
use Rattle.ac_claims.specs.declared.types.Heads.{Heads}
use Rattle.ac_claims.specs.declared.types.Plan.{Plan}
use Rattle.ac_claims.specs.declared.types.Proof.{Proof}

-- what is known so far: the claims and the columns of the last one, the outputs that were named, the plans that are still to
-- come, and what is due in the plan under way
pub record Known : Type 0 where
  pub claims : List Claim
  pub columns : ℕ
  pub named : List ℕ
  pub plans : List DuePlan
  pub due : List Due

-- what a line comes to: its refusal, at a line; or what is known then
pub data Came : Type 0 where
  No : ℕ → Rule → Came
  Yes : Known → Came

abbrev pub yes_if : Bool → ℕ → Rule → Known → Came
yes_if b k r s = cond b (Yes s) (No k r)

-- a plan is to come for each of these claims and pair of pieces
abbrev pub with_claims : Pairing → Known → List Claim → ℕ → Known
with_claims g s cs columns = record { claims = cs; columns = columns; named = s.named; plans = due_from g 0 cs; due = s.due }

abbrev pub with_output : Known → ℕ → Known
with_output s o = record { claims = s.claims; columns = s.columns; named = s.named ++ o ∷ []; plans = s.plans; due = s.due }

abbrev pub with_due : Known → List DuePlan → List Due → Known
with_due s plans due = record { claims = s.claims; columns = s.columns; named = s.named; plans = plans; due = due }

-- the last claim with a further row
abbrev pub with_last : List Claim → Row → List Claim
with_last [] r = []
with_last (c ∷ []) r = record { left = c.left; right = c.right; rows = c.rows ++ r ∷ [] } ∷ []
with_last (c ∷ d ∷ cs) r = c ∷ with_last (d ∷ cs) r

abbrev pub open_claim : Pairing → Option Domain → Option Domain → Position → Position → ℕ → Known → Came
open_claim g (Some a) (Some b) P Q k s = Yes (with_claims g s (s.claims ++ record { left = P; right = Q; rows = [] } ∷ []) (g.params + (a.width + b.width)))
open_claim g None b P Q k s = No k rule.Claim
open_claim g (Some a) None P Q k s = No k rule.Claim

abbrev pub open_path : Option Path → ℕ → Known → List DuePlan → Came
open_path None k s ds = No k rule.Tree
open_path (Some h) k s ds = Yes (with_due s ds (PlanAt h ∷ s.due))

-- the next plan that is to come
abbrev pub open_tree : ℕ → ℕ → ℕ → ℕ → Known → List DuePlan → Came
open_tree c a b k s [] = No k rule.Tree
open_tree c a b k s (d ∷ ds) = cond (is_due_at c a b d) (open_path d.path k s ds) (No k rule.Tree)

abbrev pub closed : List DuePlan → ℕ → Known → Came
closed [] k s = Yes s
closed (d ∷ ds) k s = No k rule.End

abbrev pub come_within : Taken → Known → Came
come_within (Refused k r) s = No k r
come_within (Onto due) s = Yes (with_due s s.plans due)

-- a line, at its number; those from `Step` on belong to the plan under way
abbrev pub come : Pairing → List ℕ → Item → ℕ → Known → Came
come g outputs (item.Point p) k s = yes_if (is_point g.left p) k rule.Point s
come g outputs (item.Left shapes) k s = yes_if (have_shapes shapes g.left.stmts) k rule.Coords s
come g outputs (item.Right shapes) k s = yes_if (have_shapes shapes g.right.stmts) k rule.Coords s
come g outputs (item.Claims n) k s = Yes s
come g outputs (item.Claim P Q n) k s = open_claim g (domain g.left P) (domain g.right Q) P Q k s
come g outputs (item.Row r) k s = yes_if (nat_le (length (form_of r).coefs) s.columns) k rule.Claim (with_claims g s (with_last s.claims r) s.columns)
come g outputs (item.Output o c) k s = yes_if (output_stands g outputs o (slice_get s.claims c)) k rule.Output (with_output s o)
come g outputs (item.Tree c a b) k s = open_tree c a b k s s.plans
come g outputs item.End k s = closed s.plans k s
come g outputs x k s = come_within (take_item g s.claims x k s.due) s

-- nothing is known at the beginning
abbrev pub unknown : Known
unknown = record { claims = []; columns = 0; named = []; plans = []; due = [] }

-- the items of a plan, in preorder
abbrev pub items_of : Plan → List Item
items_of t = step_items t.steps (next_items t.next [])

-- the lines of a proof after the first, part by part, each in front of others
abbrev pub head_items : Option Heads → List Item → List Item
head_items None rest = rest
head_items (Some h) rest = item.Left h.left ∷ item.Right h.right ∷ rest

abbrev pub row_lines : List Row → List Item → List Item
row_lines [] rest = rest
row_lines (r ∷ rs) rest = item.Row r ∷ row_lines rs rest

abbrev pub claims_lines : List Claim → List Item → List Item
claims_lines [] rest = rest
claims_lines (c ∷ cs) rest = item.Claim c.left c.right (length c.rows) ∷ row_lines c.rows (claims_lines cs rest)

abbrev pub output_lines : List (ℕ × ℕ) → List Item → List Item
output_lines [] rest = rest
output_lines (o ∷ os) rest = item.Output o.0 o.1 ∷ output_lines os rest

abbrev pub tree_lines : List ClaimTree → List Item → List Item
tree_lines [] rest = rest
tree_lines (t ∷ ts) rest = item.Tree t.claim t.left_piece t.right_piece ∷ (items_of t.tree ++ tree_lines ts rest)

abbrev pub lines_of : Proof → List Item
lines_of p = item.Point p.point ∷ head_items p.heads (item.Claims (length p.claims) ∷ claims_lines p.claims (output_lines p.outputs (tree_lines p.trees.items (item.End ∷ []))))

-- a proof that is spelled: each residue branch of its plans has as many children as its modulus says
abbrev pub AreSpelledTrees : List ClaimTree → Type 0
AreSpelledTrees [] = Unit {0}
AreSpelledTrees (t ∷ ts) = IsSpelled t.tree.next × AreSpelledTrees ts
