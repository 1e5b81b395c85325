-- What a hull keeps beside its members, and what it keeps of a further point.
use Rattle.std.specs.Prelude.{◌≡◌, ℕ, ℤ, List, [], ◌∷◌, ◌++◌, length}
use Rattle.ac_forms.specs.Affine.{Affine}
use Rattle.ac_widen.specs.Combinations.{Each}
use Rattle.ac_hull.specs.FractionFreeElimination.{minus, next_line, Eliminates, IsZero}
use Rattle.ac_hull.specs.Equalities.{equalities_below}
use Rattle.ac_hull.specs.Hulls.{differences, lines_of}
use Rattle.ac_hull.specs.declared.line.Line.{Line}

-- what a hull keeps
abbrev pub IsHull : ℕ → List (List ℤ) → List Line → List Affine → Type 0
IsHull columns [] ls es = (ls ≡ []) × (es ≡ [])
IsHull columns (f ∷ ps) ls es =
    (length f ≡ columns) × Each (λ p. length p ≡ columns) ps × (ls ≡ lines_of f ps) × Eliminates columns (differences f ps) ls × (es ≡ equalities_below columns ls f columns)

-- the row is that of a further point, and does not come to 0
abbrev pub IsGrowth : ℕ → List (List ℤ) → List ℤ → Line → Type 0
IsGrowth columns [] p l = ⊥
IsGrowth columns (f ∷ ps) p l = (l ≡ next_line (lines_of f ps) (minus p f)) × (¬ (IsZero l.coords)) × (length p ≡ columns)

-- rows and members as a hull keeps them, and the row of a further point
abbrev pub IsExtension : ℕ → List Line → List (List ℤ) → Line → Type 0
IsExtension columns ls [] l = ⊥
IsExtension columns ls (f ∷ ps) l =
    (length f ≡ columns) × (ls ≡ lines_of f ps) × ((ds : List (List ℤ)) × Eliminates columns ds (ls ++ l ∷ []))

abbrev pub equalities_behind : ℕ → List (List ℤ) → Line → List Affine
equalities_behind columns [] l = []
equalities_behind columns (f ∷ ps) l = equalities_below columns (lines_of f ps ++ l ∷ []) f columns
