-- The nodes of a value in preorder, with a form for each index expression.
use Rattle.std.specs.Prelude.{ℕ, ◌+◌, List, [], ◌∷◌, ◌++◌, map}
use Rattle.ac_forms.specs.Affine.{Affine}
use Rattle.ac_syntax.specs.ValueNodes.{size}
use Rattle.ac_syntax.specs.declared.tree.IndexExpr.{IndexExpr}
use Rattle.ac_syntax.specs.declared.tree.Value.{Value, Row_of-Value, end_of-Value, more_of-Value}
use Rattle.ac_syntax.specs.declared.tree.Value.TheVariants.{Number, Access, Call'}
use Rattle.ac_poly.specs.declared.types.NodeModel.{NodeModel}
use Rattle.ac_poly.specs.declared.types.NodeModel.TheVariants.{Number as Constant, Read, Call}

-- the numbers of values that stand one after another from `at` on
unfoldable pub roots : {m : _} → Row_of-Value m → ℕ → List ℕ
roots end_of-Value at = []
roots (more_of-Value v rest) at = at ∷ roots rest (at + size v)

-- the nodes of a value whose root has the number `at`
unfoldable mutual
  pub nodes : (IndexExpr → Affine) → Value → ℕ → List NodeModel
  nodes form (Number e) at = Constant (form e) ∷ []
  nodes form (Access array subs place) at = Read array (map form subs) ∷ []
  nodes form (Call' symbol n args place) at = Call symbol (roots args (at + 1)) ∷ nodes_in form args (at + 1)

  pub nodes_in : (IndexExpr → Affine) → {m : _} → Row_of-Value m → ℕ → List NodeModel
  nodes_in form end_of-Value at = []
  nodes_in form (more_of-Value v rest) at = nodes form v at ++ nodes_in form rest (at + size v)
