-- Parts of proofs, and proofs that a judge accepts.
use Rattle.std.specs.Prelude.{◌≡◌, ℕ, ℤ, List, [], ◌∷◌, ◌++◌, length, Bool, ◌&&◌, true, Option, Some, nat_le, suc, ◌+◌, slice_get}
use Rattle.ac_forms.specs.ListMembers.{IsAmong}
use Rattle.ac_syntax.specs.declared.tree.Position.TheVariants.{Output}
use Rattle.ac_claims_paths.specs.PathSteps.{Pairing}
use Rattle.ac_claims_paths.specs.declared.path.Path.{Path}
use Rattle.ac_claims.specs.ProofFaults.{IsValidProof, asks_no_more, domain}
use Rattle.ac_claims.specs.ProofMachine.{AreSpelledTrees}
use Rattle.ac_claims.specs.RemainingPlans.{start_at}
use Rattle.ac_claims.specs.Soundness.{ClaimsHaveModuli}
use Rattle.ac_claims.specs.declared.types.Claim.{Claim}
use Rattle.ac_claims.specs.declared.types.Heads.{Heads}
use Rattle.ac_claims.specs.declared.types.Proof.{Proof}
use Rattle.ac_walk_state.specs.ClaimPlans.{ArePlanned}
use Rattle.ac_walk_state.specs.declared.types.Part.{Part}

-- no line of the proof fails, and it is spelled: each residue branch of its plans has as many children as its modulus says, and each
-- modulus of a claim's rows is at least 1
pub record IsAccepted (g : Pairing) (outputs : List ℕ) (proof : Proof) : Type 0 where
  pub valid : IsValidProof g outputs proof
  pub spelled : AreSpelledTrees proof.trees.items
  pub moduli : ClaimsHaveModuli proof

-- a proof without claims
pub record IsEmpty (point : List ℤ) (heads : Option Heads) (proof : Proof) : Type 0 where
  pub point_is : proof.point ≡ point
  pub heads_are : proof.heads ≡ heads
  pub claims : proof.claims ≡ []
  pub outputs : proof.outputs ≡ []
  pub trees : proof.trees.items ≡ []

-- one more output is named, with the claims and the plans of a part
pub record IsLonger (proof : Proof) (part : Part) (array : ℕ) (longer : Proof) : Type 0 where
  pub point : longer.point ≡ proof.point
  pub heads : longer.heads ≡ proof.heads
  pub claims : longer.claims ≡ proof.claims ++ part.claims.items
  pub outputs : longer.outputs ≡ proof.outputs ++ (array, length proof.claims) ∷ []
  pub trees : longer.trees.items ≡ proof.trees.items ++ part.trees.items

-- a claim of an output on both sides; where its first plan starts, it asks no more than equal elements, the context and the extents
pub record IsOutputClaim (g : Pairing) (array : ℕ) (claim : Claim) : Type 0 where
  pub left_is : claim.left ≡ Output array
  pub right_is : claim.right ≡ Output array
  pub asks : (h : Path) → start_at g claim 0 0 ≡ Some h → asks_no_more g claim (domain g.left claim.left) (domain g.right claim.right) ≡ true

-- a part for an output behind some claims: its first claim is the output's, and all of its claims have their plans
pub record IsPartFor (g : Pairing) (outputs : List ℕ) (array : ℕ) (before : List Claim) (part : Part) : Type 0 where
  pub among : IsAmong array outputs
  pub claim : Claim
  pub first : slice_get part.claims.items 0 ≡ Some claim
  pub output : IsOutputClaim g array claim
  pub planned : ArePlanned g (before ++ part.claims.items) (length before) part.claims.items part.trees.items

-- the numbers of so many claims, from one on
abbrev pub in_part : ℕ → ℕ → ℕ → Bool
in_part first count i = nat_le first i && nat_le (suc i) (first + count)
