-- When a proof meets the rules of its format: those of its head, and those of its trees.
use Rattle.std.specs.Prelude.{ℕ, ◌+◌, ◌≤◌, ◌≡◌, List, [], ◌∷◌, length, Option, Some, None, true, nat_eq, slice_get}
use Rattle.std.specs.List.{AllByRecursion, list_any}
use Rattle.ac_forms.specs.Rows.{form_of}
use Rattle.ac_forms.specs.declared.row.Row.{Row}
use Rattle.ac_syntax.specs.declared.tree.Position.TheVariants.{Output}
use Rattle.ac_claims_paths.specs.PathSteps.{Pairing}
use Rattle.ac_claims_paths.specs.declared.path.Path.{Path}
use Rattle.ac_claims.specs.ProofFaults.{Domain, DuePlan, asks_no_more, domain, due_from, have_shapes, is_point}
use Rattle.ac_claims.specs.declared.types.Claim.{Claim}
use Rattle.ac_claims.specs.declared.types.ClaimTree.{ClaimTree}
use Rattle.ac_claims.specs.declared.types.Heads.{Heads}
use Rattle.ac_claims.specs.declared.types.Proof.{Proof}
use Rattle.ac_claims_valid.specs.PlanRules.{PlanShows}

-- left and right, in format 2: the number of counters of each assignment, and 0
abbrev pub AreShapes : Pairing → Option Heads → Type 0
AreShapes g None = Unit {0}
AreShapes g (Some heads) = (have_shapes heads.left g.left.stmts ≡ true) × (have_shapes heads.right g.right.stmts ≡ true)

-- claim: both positions are there, and each row is over the parameters and their coordinates
pub record IsClaimOver (g : Pairing) (c : Claim) : Type 0 where
  pub left : Domain
  pub right : Domain
  pub left_is : domain g.left c.left ≡ Some left
  pub right_is : domain g.right c.right ≡ Some right
  pub rows : AllByRecursion (λ (r : Row). length (form_of r).coefs ≤ g.params + (left.width + right.width)) c.rows

-- output: one of the pair; its claim is of this output on both sides, and asks no more than equal elements, the context and both extents
pub record IsClaimOfOutput (g : Pairing) (outputs : List ℕ) (cs : List Claim) (o : ℕ × ℕ) : Type 0 where
  pub paired : list_any (nat_eq o.0) outputs ≡ true
  pub claim : Claim
  pub is : slice_get cs o.1 ≡ Some claim
  pub left : claim.left ≡ Output o.0
  pub right : claim.right ≡ Output o.0
  pub asks : asks_no_more g claim (domain g.left claim.left) (domain g.right claim.right) ≡ true

-- tree: it has the numbers of the one that is due, whose path can be formed, and its plan meets the rules there
pub record IsTreeOf (g : Pairing) (cs : List Claim) (t : ClaimTree) (due : DuePlan) : Type 0 where
  pub claim : t.claim ≡ due.claim
  pub left_piece : t.left_piece ≡ due.left_piece
  pub right_piece : t.right_piece ≡ due.right_piece
  pub path : Path
  pub path_is : due.path ≡ Some path
  pub shows : PlanShows g cs t.tree path

-- as many trees as are due, in their order
abbrev pub AreTreesOf : Pairing → List Claim → List ClaimTree → List DuePlan → Type 0
AreTreesOf g cs [] [] = Unit {0}
AreTreesOf g cs [] (d ∷ ds) = ⊥
AreTreesOf g cs (t ∷ ts) [] = ⊥
AreTreesOf g cs (t ∷ ts) (d ∷ ds) = IsTreeOf g cs t d × AreTreesOf g cs ts ds

-- the proof meets the rules, where the pair has these outputs
pub record MeetsTheRules (g : Pairing) (outputs : List ℕ) (p : Proof) : Type 0 where
  -- one number for each parameter, at which the context holds
  pub point : is_point g.left p.point ≡ true
  pub shapes : AreShapes g p.heads
  pub claims : AllByRecursion (IsClaimOver g) p.claims
  pub named : AllByRecursion (IsClaimOfOutput g outputs p.claims) p.outputs
  -- claims in order, for each every piece of its left position, for each of these every piece of its right one
  pub trees : AreTreesOf g p.claims p.trees.items (due_from g 0 p.claims)
