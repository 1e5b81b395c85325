-- The plans of claims, claim by claim in order: one for each pair of pieces of its positions.
use Rattle.std.specs.Prelude.{◌≡◌, ℕ, ◌+◌, List, [], ◌∷◌, ◌++◌, map, Some, slice_get}
use Rattle.std.specs.List.{AllByRecursion}
use Rattle.ac_claims_paths.specs.PathSteps.{Pairing}
use Rattle.ac_claims.specs.CheckKnowledge.{IsClaimMade}
use Rattle.ac_claims.specs.ProofFaults.{domain}
use Rattle.ac_claims.specs.RemainingPlans.{count_by}
use Rattle.ac_claims.specs.declared.types.Claim.{Claim}
use Rattle.ac_claims.specs.declared.types.ClaimTree.{ClaimTree}
use Rattle.ac_claims_plans.specs.DuePlans.{StartsAccepted, pairs_of, pieces_of}

-- the numbers of a plan: its claim, and the pieces
abbrev pub numbers_of : ClaimTree → ℕ × ℕ × ℕ
numbers_of t = (t.claim, t.left_piece, t.right_piece)

-- the pairs of pieces of a claim
abbrev pub pairs_at : Pairing → Claim → List (ℕ × ℕ)
pairs_at g c = pairs_of (count_by (domain g.left c.left)) (count_by (domain g.right c.right))

-- the numbers of the plans that are due for claims, of which the first has this number
abbrev pub due_numbers : Pairing → ℕ → List Claim → List (ℕ × ℕ × ℕ)
due_numbers g i [] = []
due_numbers g i (c ∷ cs) = map (λ (p : ℕ × ℕ). (i, p.0, p.1)) (pairs_at g c) ++ due_numbers g (i + 1) cs

-- where the claim with its number starts, the plan is accepted
abbrev pub IsTreeAccepted : Pairing → List Claim → ClaimTree → Type 0
IsTreeAccepted g cs t = (c : Claim) → slice_get cs t.claim ≡ Some c → StartsAccepted g cs c t

-- the claim is made, has this number among others, and these plans
pub record IsClaimPlanned (g : Pairing) (cs : List Claim) (number : ℕ) (claim : Claim) (trees : List ClaimTree) : Type 0 where
  pub there : slice_get cs number ≡ Some claim
  pub made : IsClaimMade g claim
  pub numbered : AllByRecursion (λ (t : ClaimTree). t.claim ≡ number) trees
  pub pieces : map pieces_of trees ≡ pairs_at g claim
  pub accepted : AllByRecursion (StartsAccepted g cs claim) trees

-- the claims, the first of which has this number among others, are made and have these plans
pub record ArePlanned (g : Pairing) (cs : List Claim) (first : ℕ) (claims : List Claim) (trees : List ClaimTree) : Type 0 where
  pub made : AllByRecursion (IsClaimMade g) claims
  pub due : map numbers_of trees ≡ due_numbers g first claims
  pub accepted : AllByRecursion (IsTreeAccepted g cs) trees
