-- The quotients of values, over lists of values.
use Rattle.std.proofs.Common.{◌≡◌, ℕ, List, refl, rules}
use Rattle.ac_syntax.specs.Quotients.{noted_form, noted_subs, noted_value, noted_values, noted_all}
use Rattle.ac_syntax.specs.declared.tree.Place.{Place}
use Rattle.ac_syntax.specs.declared.tree.Symbol.{Symbol}
use Rattle.ac_syntax.specs.declared.tree.Quot.{Quot}
use Rattle.ac_syntax.specs.declared.tree.IndexExpr.{IndexExpr}
use Rattle.ac_syntax.specs.declared.tree.Value.{Value, Row_of-Value, end_of-Value, more_of-Value, items-the_row-Value, the_lemmas}
use Rattle.ac_syntax.specs.declared.tree.Value.TheVariants.{Number, Access, Call, Call'}

row : (seen : List Quot) (m : _) (k : Row_of-Value m) → noted_values seen k ≡ noted_all seen (items-the_row-Value m k)
unfolding noted_value
row seen m end_of-Value = refl
row seen m (more_of-Value {n = n} v rest) = row (noted_value seen v) n rest

call_row : (seen : List Quot) (s : Symbol) (n : _) (args : Row_of-Value _) (place : Place) → noted_value seen (Call' s n args place) ≡ noted_all seen (items-the_row-Value _ args)
unfolding noted_value
call_row seen s n args place = row seen _ args

pub noted_call : (seen : List Quot) (s : Symbol) (args : List Value) (place : Place) → noted_value seen (Call s args place) ≡ noted_all seen args
noted_call seen s args place = search (rules, the_lemmas, call_row)

pub noted_number : (seen : List Quot) (e : IndexExpr) → noted_value seen (Number e) ≡ noted_form seen e
unfolding noted_value
noted_number seen e = refl

pub noted_access : (seen : List Quot) (array : ℕ) (subs : List IndexExpr) (place : Place) → noted_value seen (Access array subs place) ≡ noted_subs seen subs
unfolding noted_value
noted_access seen array subs place = refl

pub ruleset noted_cases = (noted_call, noted_number, noted_access)
