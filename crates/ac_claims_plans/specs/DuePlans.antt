-- When the plans of a claim are those that a judge of proofs asks for.
use Rattle.std.specs.Prelude.{◌≡◌, ◌+◌, ℕ, List, map, Some, slice_get}
use Rattle.std.specs.List.{flat_map, range_with_len}
use Rattle.ac_claims_paths.specs.PathSteps.{Pairing}
use Rattle.ac_claims_paths.specs.declared.path.Path.{Path}
use Rattle.ac_claims.specs.RemainingPlans.{start_at}
use Rattle.ac_claims.specs.declared.types.Claim.{Claim}
use Rattle.ac_claims.specs.declared.types.ClaimTree.{ClaimTree}
use Rattle.ac_claims_plans.specs.PlanAcceptance.{AcceptsPlan}

-- the first of the claims has this number, and each other one the next
abbrev pub AreNumbered : ℕ → List Claim → List Claim → Type 0
AreNumbered base claims cs = (i : ℕ) (c : Claim) → slice_get claims i ≡ Some c → slice_get cs (base + i) ≡ Some c

-- the claim starts at these pieces of its positions, and there the plan is accepted
pub record StartsAccepted (g : Pairing) (cs : List Claim) (start : Claim) (t : ClaimTree) : Type 0 where
  pub path : Path
  pub starts : start_at g start t.left_piece t.right_piece ≡ Some path
  pub accepted : AcceptsPlan g cs t.tree path

-- each left piece with each right one, in order
abbrev pub pairs_of : ℕ → ℕ → List (ℕ × ℕ)
pairs_of lefts rights = flat_map (λ left. map (λ right. (left, right)) (range_with_len 0 rights)) (range_with_len 0 lefts)

abbrev pub pieces_of : ClaimTree → ℕ × ℕ
pieces_of t = (t.left_piece, t.right_piece)
