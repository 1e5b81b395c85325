-- The splinters of all rows together, and the column with the fewest, one further.
use Rattle.std.proofs.Common.{◌≡◌, ℕ, List, Option, Some}
use Rattle.std.specs.Prelude.{option_map}
use Rattle.std.specs.List.{filter}
use Rattle.ac_forms.specs.declared.row.Row.{Row}
use Rattle.ac_omega.specs.ColumnChoice.{least_from, fewest, is_two_sided, precedes_by_two, splinter_key, excess_key, plus, fitting, total_of}
use Rattle.ac_omega.specs.Fewest.{candidate_of}
use Rattle.ac_omega.specs.declared.fewest.Candidate.{Candidate}
use Rattle.ac_omega_certify.specs.declared.strategy.Strategy.TheVariants.{Economical}

-- the splinters so far, and those of the rows that are left
abbrev pub TotalSoFar : ℕ → ℕ → List Row → List Row → Type 0
TotalSoFar z total rows left = splinter_key rows z ≡ fitting (plus (Some total) (total_of Economical z rows left))

-- the best column so far, and the columns that are left
pub record IsBestSoFar (vars : List ℕ) (rows : List Row) (best : Option Candidate) (left : List ℕ) : Type 0 where
  pub column : Option ℕ
  pub is : best ≡ option_map (candidate_of rows) column
  pub so_far : fewest vars rows ≡ least_from (precedes_by_two (splinter_key rows) (excess_key rows)) column (filter (λ z. is_two_sided z rows) left)
