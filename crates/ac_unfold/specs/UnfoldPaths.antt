-- What is told of broken paths and of plans.
use Rattle.std.specs.Prelude.{◌≡◌, ◌+◌, ℕ, zero, suc, List, [], ◌∷◌}
use Rattle.std.specs.List.{AllByRecursion}
use Rattle.ac_widen.specs.declared.derivation.Entry.{Entry}
use Rattle.ac_widen.specs.declared.derivation.Reason.{Reason}
use Rattle.ac_widen.specs.declared.derivation.Reason.TheVariants.{Output, Step}
use Rattle.ac_claims.specs.declared.types.ClaimTree.{ClaimTree}

-- what an unfolding has found so far: broken paths, and the paths to ends that it reached
pub record BrokenPathsOf : Type 0 where
  pub paths : List (List Entry)
  pub ended : List (List Entry)

-- the pair with this number is where the path begins, or a step of the one before
abbrev pub reason_at : ℕ → Reason
reason_at zero = Output
reason_at (suc n) = Step n

-- from this number on
abbrev pub AreFrom : ℕ → List Entry → Type 0
AreFrom n [] = Unit {0}
AreFrom n (e ∷ es) = e.reason ≡ reason_at n × AreFrom (n + 1) es

-- the pairs of a path, each but the first a step of the one before
abbrev pub IsPath : List Entry → Type 0
IsPath entries = AreFrom 0 entries

-- plans of the claim with this number
abbrev pub ArePlansOf : ℕ → List ClaimTree → Type 0
ArePlansOf number trees = AllByRecursion (λ (t : ClaimTree). t.claim ≡ number) trees
