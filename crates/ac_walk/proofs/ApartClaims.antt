-- Claims beside those of the pairs up to which a search goes.
use Rattle.std.specs.Prelude.{◌≡◌, List}
use Rattle.ac_forms.specs.ListMembers.{IsAmong}
use Rattle.ac_syntax.specs.declared.tree.Position.{Position}
use Rattle.ac_claims.specs.declared.types.Claim.{Claim}
use Rattle.ac_unfold_plans.specs.PlanStops.{claim_positions}
use Rattle.ac_walk.specs.declared.search_types.Search.{Search}

-- none of the claims is of a pair up to which the search goes
abbrev pub AreApart : Search → List Claim → Type 0
AreApart s tabled = (c : Claim) → IsAmong c tabled → (positions : Position × Position) → IsAmong positions s.stops.now → ¬ (claim_positions c ≡ positions)
