-- The quotients of an assignment itself, in the order of evaluation: those of its value, and then those of its subscripts.
use Rattle.std.specs.Prelude.{List, [], ◌++◌}
use Rattle.std.specs.List.{flat_map}
use Rattle.ac_syntax.specs.declared.tree.IndexExpr.{IndexExpr}
use Rattle.ac_syntax.specs.declared.tree.Quot.{Quot}
use Rattle.ac_syntax.specs.declared.tree.Value.{Value, Row_of-Value, end_of-Value, more_of-Value}
use Rattle.ac_syntax.specs.declared.tree.Value.TheVariants.{Number, Access, Call'}

abbrev pub form_quots : IndexExpr → List Quot
form_quots e = e.quots

-- node by node in preorder
unfoldable mutual
  pub value_quots : Value → List Quot
  value_quots (Number e) = form_quots e
  value_quots (Access array subs place) = flat_map form_quots subs
  value_quots (Call' symbol n args place) = values_quots args

  pub values_quots : {m : _} → Row_of-Value m → List Quot
  values_quots end_of-Value = []
  values_quots (more_of-Value v rest) = value_quots v ++ values_quots rest

abbrev pub own_quots : List IndexExpr → Value → List Quot
own_quots subs value = value_quots value ++ flat_map form_quots subs
