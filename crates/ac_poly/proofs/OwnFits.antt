-- The quotients of an assignment that fits, fit.
use Rattle.std.proofs.Common.{ℕ, List, [], ◌∷◌}
use Rattle.std.specs.List.{AllByRecursion, flat_map}
use Rattle.ac_syntax.specs.FittingForms.{FitsQuot, FormsFit}
use Rattle.ac_syntax.specs.ReadyPrograms.{FitsValue, FitValues}
use Rattle.ac_syntax.specs.declared.tree.IndexExpr.{IndexExpr}
use Rattle.ac_syntax.specs.declared.tree.Value.{Value, Row_of-Value, end_of-Value, more_of-Value}
use Rattle.ac_syntax.specs.declared.tree.Value.TheVariants.{Number, Access, Call'}
use Rattle.ac_poly_quotients.specs.OwnQuotients.{form_quots, value_quots, values_quots, own_quots}
use Rattle.ac_poly_quotients.proofs.NarrowRows.{all_append}

forms_fit : (ps xs : ℕ) (es : List IndexExpr) → FormsFit ps xs es → AllByRecursion (FitsQuot ps xs) (flat_map form_quots es)
forms_fit ps xs [] f = tt
forms_fit ps xs (e ∷ es) f = all_append (FitsQuot ps xs) (form_quots e) (flat_map form_quots es) f.0.quots (forms_fit ps xs es f.1)

mutual
  unfolding FitsValue value_quots

  value_fits : (ps xs : ℕ) (v : Value) → FitsValue ps xs v → AllByRecursion (FitsQuot ps xs) (value_quots v)
  value_fits ps xs (Number e) f = f.quots
  value_fits ps xs (Access array subs place) f = forms_fit ps xs subs f
  value_fits ps xs (Call' symbol n args place) f = values_fit ps xs args f

  values_fit : (ps xs : ℕ) {m : _} (vs : Row_of-Value m) → FitValues ps xs vs → AllByRecursion (FitsQuot ps xs) (values_quots vs)
  values_fit ps xs end_of-Value f = tt
  values_fit ps xs (more_of-Value v rest) f = all_append (FitsQuot ps xs) (value_quots v) (values_quots rest) (value_fits ps xs v f.0) (values_fit ps xs rest f.1)

pub own_fit : (ps xs : ℕ) (subs : List IndexExpr) (value : Value) → FormsFit ps xs subs → FitsValue ps xs value → AllByRecursion (FitsQuot ps xs) (own_quots subs value)
own_fit ps xs subs value f g = all_append (FitsQuot ps xs) (value_quots value) (flat_map form_quots subs) (value_fits ps xs value g) (forms_fit ps xs subs f)
