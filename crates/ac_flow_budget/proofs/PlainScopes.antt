-- Programs of differences have no quotients, so that no scope gets a column for one.
use Rattle.std.proofs.Common.{◌≡◌, ℕ, ◌+◌, List, [], ◌∷◌, ◌++◌, map, refl, ap}
use Rattle.std.specs.List.{flat_map}
use Rattle.ac_forms.specs.Affine.{Affine, column_form}
use Rattle.ac_syntax.specs.ReadyPrograms.{IsPlain}
use Rattle.ac_syntax.specs.declared.tree.Comparison.{Comparison}
use Rattle.ac_syntax.specs.declared.tree.IndexExpr.{IndexExpr}
use Rattle.ac_syntax.specs.declared.tree.Quot.{Quot}
use Rattle.ac_syntax.specs.declared.tree.Rel.{Rel}
use Rattle.ac_syntax.specs.declared.tree.Rel.TheVariants.{NonNegative, Zero, Divides}
use Rattle.ac_syntax.specs.declared.tree.Value.{Value, Row_of-Value, end_of-Value, more_of-Value}
use Rattle.ac_syntax.specs.declared.tree.Value.TheVariants.{Number, Access, Call'}
use Rattle.ac_poly_quotients.specs.FilledColumns.{quots_of}
use Rattle.ac_poly_quotients.specs.LoweredForms.{replaced, lowered}
use Rattle.ac_poly_quotients.specs.OwnQuotients.{form_quots, value_quots, values_quots, own_quots}
use Rattle.ac_poly_quotients.specs.QuotientScopes.{coef_of, column_for, lowered_in, rel_quots, part_quots}
use Rattle.ac_poly_quotients.specs.declared.types.Column.{Column}
use Rattle.ac_poly_quotients.specs.declared.types.Column.TheVariants.{Counter, Quotient}
use Rattle.ac_poly_quotients.specs.declared.types.Scope.{Scope}
use Rattle.ac_flow_budget.specs.DifferencePrograms.{AreDifferenceParts, AreVariableExprs, ValueIsOfDifferences, ValuesAreOfDifferences}

both-none : (xs ys : List Quot) → xs ≡ [] → ys ≡ [] → xs ++ ys ≡ []
both-none xs ys e f = rw (e, f) refl

-- ---- conditions, subscripts and values have none

rel-none : (r : Rel) (e : IndexExpr) → IsPlain r → rel_quots r e ≡ []
rel-none NonNegative e p = refl
rel-none Zero e p = refl
rel-none (Divides m) e p = absurd p

pub parts-none : (parts : List Comparison) → AreDifferenceParts parts → flat_map part_quots parts ≡ []
parts-none [] d = refl
parts-none (c ∷ parts) d = both-none (part_quots c) (flat_map part_quots parts) (both-none c.form.quots (rel_quots c.rel c.form) d.0.form.plain (rel-none c.rel c.form d.0.rel)) (parts-none parts d.1)

subs-none : (subs : List IndexExpr) → AreVariableExprs subs → flat_map form_quots subs ≡ []
subs-none [] v = refl
subs-none (e ∷ subs) v = both-none e.quots (flat_map form_quots subs) v.0.plain (subs-none subs v.1)

mutual
  unfolding value_quots ValueIsOfDifferences

  value-none : (v : Value) → ValueIsOfDifferences v → value_quots v ≡ []
  value-none (Number e) d = d
  value-none (Access array subs place) d = subs-none subs d
  value-none (Call' symbol n args place) d = values-none args d

  values-none : {m : _} (vs : Row_of-Value m) → ValuesAreOfDifferences vs → values_quots vs ≡ []
  values-none end_of-Value d = refl
  values-none (more_of-Value v rest) d = both-none (value_quots v) (values_quots rest) (value-none v d.0) (values-none rest d.1)

pub own-none : (subs : List IndexExpr) (value : Value) → AreVariableExprs subs → ValueIsOfDifferences value → own_quots subs value ≡ []
own-none subs value v d = both-none (value_quots value) (flat_map form_quots subs) (value-none value d) (subs-none subs v)

-- ---- columns and forms

-- a counter is no quotient
pub counter-none : (ss : List Column) → quots_of ss ≡ [] → quots_of (ss ++ Counter ∷ []) ≡ []
counter-none [] e = refl
counter-none (Counter ∷ ss) e = counter-none ss e
counter-none (Quotient r ∷ ss) e = absurd cc

-- without quotients a form is what it is with them aside
pub plain-lowered : (sc : Scope) (gs : List Affine) (e : IndexExpr) → e.quots ≡ [] → lowered_in sc gs e ≡ lowered gs e
plain-lowered sc gs e h = ap (λ (qs : List Quot). replaced (lowered gs e) (map coef_of qs) (map (λ (k : ℕ). column_form (k + 1) k) (map (column_for sc) qs))) h
