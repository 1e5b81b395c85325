-- Tables of a search.
use Rattle.std.specs.Prelude.{◌≡◌, ◌+◌, List, [], ◌∷◌}
use Rattle.ac_syntax.specs.declared.tree.Order.{Order}
use Rattle.ac_syntax.specs.declared.tree.Site.{Site}
use Rattle.ac_claims.specs.declared.types.Claim.{Claim}
use Rattle.ac_walk_state.specs.declared.known.Known.{Known}
use Rattle.ac_unfold_table.specs.TabledClaims.{AreTabled}
use Rattle.ac_unfold_table.specs.Tables.{TableOf}
use Rattle.ac_walk.specs.StartPaths.{AreBrokenFrom}
use Rattle.ac_walk.specs.declared.tabling.Filled.{Filled}
use Rattle.ac_walk.specs.declared.tabling.Filled.TheVariants as filled
use Rattle.ac_walk.specs.declared.search_types.Search.{Search}

-- the claims of the table are these, behind that of the output, under the order; and each that is tabled was proved
pub record IsTable (s : Search) (order : List (Site × Order)) (claims : List Claim) (t : TableOf) : Type 0 where
  pub base : t.base ≡ s.first + 1
  pub claims_are : t.claims ≡ claims
  pub order_is : t.order ≡ order
  pub tabled : AreTabled s.program_flows.now t

-- there is such a table; or a path is broken
abbrev pub IsFilled : Search → List (Site × Order) → Known → List Claim → Filled → Type 0
IsFilled s order known claims (filled.Table t) = IsTable s order claims t
IsFilled s order known claims (filled.Broken from path) = AreBrokenFrom s order known from (path ∷ [])
