-- What comes of the plans of a start.
use Rattle.std.specs.Prelude.{◌≡◌, List, Some}
use Rattle.ac_widen.specs.declared.derivation.Entry.{Entry}
use Rattle.ac_claims_paths.specs.PathSteps.{Pairing}
use Rattle.ac_claims.specs.ProofFaults.{Domain, domain}
use Rattle.ac_claims.specs.declared.types.Claim.{Claim}
use Rattle.ac_claims.specs.declared.types.ClaimTree.{ClaimTree}
use Rattle.ac_widen_programs.specs.BrokenPaths.{IsBroken}
use Rattle.ac_widen_programs.specs.PairPaths.{Unfolding}
use Rattle.ac_unfold.specs.BrokenPathResults.{IsFoundIn, IsFrom, IsOf}
use Rattle.ac_unfold.specs.declared.ends.Search.{Search}
use Rattle.ac_unfold.specs.declared.types.Planned.{Planned}
use Rattle.ac_unfold.specs.declared.types.Planned.TheVariants.{Plans, Broken}

-- where plans are made
abbrev pub IfPlans : (List ClaimTree → Type 0) → Planned → Type 0
IfPlans P (Plans trees) = P trees.items
IfPlans P (Broken path) = Unit {0}

-- where a path is broken
abbrev pub IfBroken : (List Entry → Type 0) → Planned → Type 0
IfBroken P (Plans trees) = Unit {0}
IfBroken P (Broken path) = P path

-- both positions of the claim are there
pub record HasDomains (g : Pairing) (c : Claim) : Type 0 where
  pub left : Domain
  pub left_is : domain g.left c.left ≡ Some left
  pub right : Domain
  pub right_is : domain g.right c.right ≡ Some right

-- the path is broken, and found so, in each unfolding of the search from the claim on
abbrev pub IsBrokenFrom : Search → Claim → List Entry → Type 0
IsBrokenFrom search start path = (u : Unfolding) → IsOf search u → IsFrom start u → IsBroken u search.claims.now path × IsFoundIn search u path
