-- The word that gives each parameter a value.
use Rattle.std.specs.Prelude.{◌≡◌, ℕ, ℤ, List, [], ◌∷◌, map, true, nat_eq, if◌then◌else◌}
use Rattle.std.specs.List.{list_any, list_all}
use Rattle.std.specs.Cmp.Lexicographic.{pointwise}
use Rattle.ac_cli_args.specs.ValuationEntries.{Given, parts_of, AreEntries}

-- the integers that are given to a name
abbrev pub given_to : List ℕ → List Given → List ℤ
given_to name [] = []
given_to name (g ∷ gs) = if pointwise nat_eq g.name name then g.value ∷ given_to name gs else given_to name gs

-- each parameter is given one integer, in the order of the parameters, and nothing else is given
pub record Gives (params : List (List ℕ)) (given : List Given) (values : List ℤ) : Type 0 where
  pub each : map (λ name. given_to name given) params ≡ map (λ v. v ∷ []) values
  pub only : list_all (λ g. list_any (pointwise nat_eq g.name) params) given ≡ true

-- the word is a list of `name=integer` that gives each parameter once
pub record IsValuationWord (params : List (List ℕ)) (word : List ℕ) (values : List ℤ) : Type 0 where
  pub given : List Given
  pub entries : AreEntries (parts_of word) given
  pub gives : Gives params given values
