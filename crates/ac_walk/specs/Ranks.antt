-- Numbers of widening points, and the claims of the widening points with these numbers.
use Rattle.std.specs.Prelude.{ℕ, ◌≡◌, ◌<◌, List, [], ◌∷◌, length, Bool, true, false, Some, slice_get}
use Rattle.std.specs.List.{AllByRecursion}
use Rattle.ac_forms.specs.ListMembers.{IsAmong}
use Rattle.ac_claims.specs.declared.types.Claim.{Claim}
use Rattle.ac_walk_state.specs.RecurrencePairs.{WideningPointOf, claim_of}

-- the widening point has no member; or it has some
abbrev pub IsBare : Bool → WideningPointOf → Type 0
IsBare true widening_point = widening_point.hull.members ≡ []
IsBare false widening_point = ¬ (widening_point.hull.members ≡ [])

-- a widening point has each of the numbers
abbrev pub Within : List WideningPointOf → List ℕ → Type 0
Within widening_points numbers = AllByRecursion (λ n. n < length widening_points) numbers

-- these are the numbers of all widening points
pub record AreRanks (widening_points : List WideningPointOf) (numbers : List ℕ) : Type 0 where
  pub within : Within widening_points numbers
  pub whole : (n : ℕ) → n < length widening_points → IsAmong n numbers

-- the claim of the widening point with the number
abbrev pub IsClaimAt : List WideningPointOf → ℕ → Claim → Type 0
IsClaimAt widening_points n c = (widening_point : WideningPointOf) × (slice_get widening_points n ≡ Some widening_point) × (c ≡ claim_of widening_point)

abbrev pub AreClaimsAt : List WideningPointOf → List ℕ → List Claim → Type 0
AreClaimsAt widening_points [] [] = Unit {0}
AreClaimsAt widening_points [] (c ∷ cs) = ⊥
AreClaimsAt widening_points (n ∷ ns) [] = ⊥
AreClaimsAt widening_points (n ∷ ns) (c ∷ cs) = IsClaimAt widening_points n c × AreClaimsAt widening_points ns cs
