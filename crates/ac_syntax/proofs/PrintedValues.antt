-- The texts of values, over lists of arguments.
use Rattle.std.proofs.Common.{◌≡◌, ℕ, List, ◌∷◌, ◌++◌, map, refl, rules, ap}
use Rattle.std.specs.Prelude.{slice_get}
use Rattle.ac_syntax.specs.Text.{Scope, form_text, in_parentheses, array_name, subscripts_text, call_text, value_text, value_texts}
use Rattle.ac_syntax.specs.declared.tree.Symbol.{Symbol}
use Rattle.ac_syntax.specs.declared.tree.Place.{Place}
use Rattle.ac_syntax.specs.declared.tree.IndexExpr.{IndexExpr}
use Rattle.ac_syntax.specs.declared.tree.Value.{Value, Row_of-Value, end_of-Value, more_of-Value, items-the_row-Value, the_lemmas}
use Rattle.ac_syntax.specs.declared.tree.Value.TheVariants.{Number, Access, Call}

texts_row : (scope : Scope) (m : _) (k : Row_of-Value m) → value_texts scope k ≡ map (value_text scope) (items-the_row-Value m k)
unfolding value_text
texts_row scope m end_of-Value = refl
texts_row scope m (more_of-Value {n = n} v rest) = ap (λ k. value_text scope v ∷ k) (texts_row scope n rest)

pub text_call : (scope : Scope) (s : Symbol) (args : List Value) (p : Place) → value_text scope (Call s args p) ≡ call_text s.name (map (value_text scope) args)
unfolding value_text
text_call scope s args p = search (rules, the_lemmas, texts_row)

pub text_number : (scope : Scope) (e : IndexExpr) → value_text scope (Number e) ≡ in_parentheses (form_text scope e)
unfolding value_text
text_number scope e = refl

pub text_access : (scope : Scope) (a : ℕ) (s : List IndexExpr) (p : Place) → value_text scope (Access a s p) ≡ array_name (slice_get scope.arrays a) ++ subscripts_text scope s
unfolding value_text
text_access scope a s p = refl

pub ruleset value_texts_are = (text_number, text_access, text_call)
