-- The laws of parts.
use Rattle.std.specs.Prelude.{◌≡◌, ℤ, List, true, Some, length}
use Rattle.ac_forms.specs.Rows.{AreRowsOver, CanTest, Meets}
use Rattle.ac_syntax.specs.declared.tree.Pair.{Pair}
use Rattle.ac_poly.specs.declared.types.Model.{Model}
use Rattle.ac_claims.specs.CheckKnowledge.{IsClaimMade}
use Rattle.ac_claims.specs.ProofFaults.{Domain, domain, is_point}
use Rattle.ac_claims.specs.declared.types.Claim.{Claim}
use Rattle.ac_widen_programs.specs.PairSetting.{point_width}
use Rattle.ac_unfold_plans.specs.PlanStops.{claim_positions, programs_of}

-- a point that is seen to meet the context is a valuation for a judge
abbrev pub TestedPointsAreValuations : Type 0
TestedPointsAreValuations = (m : Model) (p : List ℤ) → length p ≡ m.params → CanTest m.context p → Meets m.context p → is_point m p ≡ true

-- a claim of positions that are there is made, where its rows are over the columns of their points
abbrev pub ClaimsAreMade : Type 0
ClaimsAreMade =
    (pair : Pair) (c : Claim) (a b : Domain) → domain (programs_of pair).left c.left ≡ Some a → domain (programs_of pair).right c.right ≡ Some b → AreRowsOver (point_width pair (claim_positions c)) c.rows → IsClaimMade (programs_of pair) c
