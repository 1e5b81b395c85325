-- What holds of each declared array holds of each array of a declaration list.
use Rattle.std.proofs.Common.{◌+◌, ℕ, List, [], ◌∷◌, Bool, true, false, cond}
use Rattle.std.specs.List.{AllByRecursion}
use Rattle.ac_syntax.specs.declared.tree.Array.{Array}
use Rattle.ac_syntax.specs.declared.tree.Kind.{Kind}
use Rattle.ac_parse_grammar.specs.declared.tree.Declared.{Declared}
use Rattle.ac_parse_exprs.specs.declared.scope.Entry.{Entry}
use Rattle.ac_parse_exprs.specs.declared.scope.Scope.{Scope}
use Rattle.ac_parse_rules.specs.Declarations.{array_of, arrays_from}

module _ (Has : Array → Type 0) (names : List Entry) (scope : Scope) (kind : Kind) (array_has : (k : ℕ) (d : Declared) → Has (array_of names scope kind k d)) where
  array_case : (a : Array) (rest : List Array) (skipped : Bool) → Has a → AllByRecursion Has rest → AllByRecursion Has (cond skipped rest (a ∷ rest))
  array_case a rest true h k = k
  array_case a rest false h k = (h, k)

  pub arrays_have : (skipped : Declared → Bool) (k : ℕ) (ds : List Declared) → AllByRecursion Has (arrays_from names scope kind skipped k ds)
  arrays_have skipped k [] = tt
  arrays_have skipped k (d ∷ ds) = array_case (array_of names scope kind k d) (arrays_from names scope kind skipped (k + 1) ds) (skipped d) (array_has k d) (arrays_have skipped (k + 1) ds)
