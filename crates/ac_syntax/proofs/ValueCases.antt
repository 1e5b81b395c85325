-- The cases of a value, with a call's arguments as a list.
use Rattle.std.proofs.Common.{◌≡◌, ◌⊎◌, inl, inr, ℕ, List, refl, ◌∙◌, subst}
use Rattle.ac_syntax.specs.LawsOfNodes.{IsNumber, IsAccess, IsCall, ValuesHaveThreeCases}
use Rattle.ac_syntax.specs.declared.tree.IndexExpr.{IndexExpr}
use Rattle.ac_syntax.specs.declared.tree.Place.{Place}
use Rattle.ac_syntax.specs.declared.tree.Symbol.{Symbol}
use Rattle.ac_syntax.specs.declared.tree.Value.{Value, out-Value, roll-Value, roll-out-Value}
use Rattle.ac_syntax.specs.declared.tree.Value.TheVariants.{Number, Access, Call, rolls-Number, rolls-Access, rolls-Call}
use Rattle.ac_syntax.specs.declared.tree.Value.TheOpen.{Value-F}
use Rattle.ac_syntax.specs.declared.tree.Value.TheOpen as layer
use denote.Hole.Carrier.{roll}

pub value_cases : (P : Value → Type 0) → ((e : IndexExpr) → P (Number e)) → ((array : ℕ) (subs : List IndexExpr) (place : Place) → P (Access array subs place))
    → ((f : Symbol) (xs : List Value) (place : Place) → P (Call f xs place)) → (v : Value) → P v
unfolding roll-Value roll
value_cases P number access call v = by (out-Value v) (roll-out-Value v)
  where
    by : (o : Value-F Value) → roll-Value o ≡ v → P v
    by (layer.Number e) h = subst P (rolls-Number e ∙ h) (number e)
    by (layer.Access array subs place) h = subst P (rolls-Access array subs place ∙ h) (access array subs place)
    by (layer.Call f xs place) h = subst P (rolls-Call f xs place ∙ h) (call f xs place)

pub values_have_three_cases : ValuesHaveThreeCases
values_have_three_cases = value_cases (λ (v : Value). IsNumber v ⊎ (IsAccess v ⊎ IsCall v)) (λ e. inl (e, refl)) (λ array subs place. inr (inl (array, subs, place, refl))) (λ f xs place. inr (inr (f, xs, place, refl)))
