-- The point of a valid proof.
use Rattle.ac_syntax.specs.Outputs.{IsValuation}
use Rattle.ac_syntax.specs.declared.tree.Pair.{Pair}
use Rattle.ac_poly.specs.declared.types.Model.{Model}
use Rattle.ac_claims.specs.ProofFaults.{IsValidProof}
use Rattle.ac_claims.specs.Soundness.{ArePaired, AreModels, pairing_of}
use Rattle.ac_claims.specs.declared.types.Proof.{Proof}

-- the point of a valid proof is a valuation of the context, so no valid proof is about an empty context
abbrev pub PointsAreValuations : Type 0
PointsAreValuations = (pair : Pair) (left right : Model) (proof : Proof) → ArePaired pair → AreModels pair left right → IsValidProof (pairing_of pair left right) pair.outputs proof → IsValuation pair proof.point
