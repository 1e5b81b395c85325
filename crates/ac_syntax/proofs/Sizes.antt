use Rattle.std.proofs.Common.{◌≡◌, ℕ, ◌+◌, List, refl, rules, ap, sym, ◌∙◌, sum_by}
use Rattle.std.proofs.lemmas.List.Sums.{sum_by-cons}
use Rattle.ac_syntax.specs.ValueNodes.{size, size_in}
use Rattle.ac_syntax.specs.declared.tree.Symbol.{Symbol}
use Rattle.ac_syntax.specs.declared.tree.Place.{Place}
use Rattle.ac_syntax.specs.declared.tree.IndexExpr.{IndexExpr}
use Rattle.ac_syntax.specs.declared.tree.Value.{Value, Row_of-Value, end_of-Value, more_of-Value, items-the_row-Value, the_lemmas}
use Rattle.ac_syntax.specs.declared.tree.Value.TheVariants.{Number, Access, Call}

size_row : (m : _) (k : Row_of-Value m) → size_in k ≡ sum_by size (items-the_row-Value m k)
unfolding size
size_row m end_of-Value = refl
size_row m (more_of-Value {n = n} v rest) = ap (λ k. size v + k) (size_row n rest) ∙ sym (sum_by-cons size v (items-the_row-Value n rest))

pub size_call : (s : Symbol) (args : List Value) (p : Place) → size (Call s args p) ≡ sum_by size args + 1
unfolding size
size_call s args p = search (rules, the_lemmas, size_row)

pub size_number : (e : IndexExpr) → size (Number e) ≡ 1
unfolding size
size_number e = refl

pub size_access : (a : ℕ) (s : List IndexExpr) (p : Place) → size (Access a s p) ≡ 1
unfolding size
size_access a s p = refl

pub ruleset sizes = (size_number, size_access, size_call)
