-- Forms and rows of a model among the columns of a path.
use Rattle.std.specs.Prelude.{ℕ, pos, negsuc, List, [], ◌∷◌, ◌++◌, Option, Some, None, option_and_then, option_map}
use Rattle.std.specs.List.{range_with_len}
use Rattle.ac_forms.specs.Affine.{Affine}
use Rattle.ac_forms.specs.Renaming.{renaming}
use Rattle.ac_forms.specs.declared.row.Row.{Row}
use Rattle.ac_forms.specs.declared.row.Row.TheVariants.{Eq}
use Rattle.ac_omega_steps.specs.Combination.{combination}
use Rattle.ac_claims_paths.specs.declared.path.Seat.{Seat}

-- the columns of the parameters
abbrev pub base : ℕ → List ℕ
base params = range_with_len 0 params

-- the columns of a position's coordinates
abbrev pub columns_of : Seat → List ℕ
columns_of seat = range_with_len seat.first seat.width

-- all of them, or none where one is missing
abbrev pub all_of : {A : Type 0} → List (Option A) → Option (List A)
all_of [] = Some []
all_of (o ∷ os) = option_and_then (λ x. option_map (λ xs. x ∷ xs) (all_of os)) o

-- one list behind the other
abbrev pub appended : Option (List Row) → Option (List Row) → Option (List Row)
appended a b = option_and_then (λ x. option_map (λ y. x ++ y) b) a

-- the form f over these columns less the form g over those
abbrev pub difference : List ℕ → Affine → List ℕ → Affine → Option Affine
difference ks f ls g = option_and_then (λ x. option_and_then (λ y. combination (pos 1) x (negsuc 0) y) (renaming ls g)) (renaming ks f)

-- one equality for each dimension
abbrev pub equal_forms : List ℕ → List Affine → List ℕ → List Affine → Option (List Row)
equal_forms ks [] ls [] = Some []
equal_forms ks [] ls (g ∷ gs) = None
equal_forms ks (f ∷ fs) ls [] = None
equal_forms ks (f ∷ fs) ls (g ∷ gs) = option_and_then (λ e. option_map (λ rows. Eq e ∷ rows) (equal_forms ks fs ls gs)) (difference ks f ls g)
