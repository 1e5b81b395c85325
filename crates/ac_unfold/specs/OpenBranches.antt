-- Branches on rows behind which a plan stands.
use Rattle.std.specs.Prelude.{◌≡◌, List, [], ◌∷◌, ◌++◌}
use Rattle.ac_forms.specs.declared.row.Row.{Row}
use Rattle.ac_claims.specs.declared.types.Plan.{Plan}
use Rattle.ac_claims_plans.specs.PlanAcceptance.{BranchesTo}
use Rattle.ac_claims_plans.specs.BranchSides.{BranchServesAnywhere}
use Rattle.ac_unfold.specs.declared.course.Course.{Course}
use Rattle.ac_unfold.specs.declared.course.Open.{Open}

-- the plan of an open branch, with a plan inside
pub record IsBranched (b : Open) (inside t : Plan) : Type 0 where
  pub serves : BranchServesAnywhere b.embedding b.row inside b.outside.items t
  pub branches : BranchesTo (inside ∷ b.outside.items) t.next

-- the second plan is the first one behind the branches, of which the first is the outermost
abbrev pub IsBehind : List Open → Plan → Plan → Type 0
IsBehind [] end t = end ≡ t
IsBehind (b ∷ bs) end t = (inside : Plan) × IsBehind bs end inside × IsBranched b inside t

-- behind one branch more: on the row, with the plans of the parts of its negation
pub record HasBranchMore (course : Course) (row : Row) (outside : List Plan) (next : Course) : Type 0 where
  pub last : Open
  pub branches : next.branches.items ≡ course.branches.items ++ last ∷ []
  pub embedding : last.embedding ≡ course.node.embedding
  pub row_is : last.row ≡ row
  pub outside_are : last.outside.items ≡ outside
