-- The kept members of a hull, and its rows.
use Rattle.std.specs.Prelude.{◌≡◌, ◌<◌, ◌≤◌, ◌≤ℤ◌, ℕ, ℤ, pos, negsuc, neg_ℤ, ◌-ℤ◌, List, [], ◌∷◌, ◌++◌, length, map, take, unsigned_abs}
use Rattle.ac_forms.specs.Affine.{Affine, value_at, CanEvaluate}
use Rattle.ac_forms.specs.Rows.{form_of}
use Rattle.ac_forms.specs.declared.row.Row.{Row}
use Rattle.ac_widen.specs.Combinations.{total, Each, InHull, IsCombination}
use Rattle.ac_hull.specs.FractionFreeElimination.{entry, minus, next_line}
use Rattle.ac_hull.specs.Equalities.{equalities_below}
use Rattle.std.specs.Int.{◌∣◌}
use Rattle.ac_base.specs.Gcd.{DividesEach}
use Rattle.ac_hull.specs.declared.combination.Combination.{Combination}
use Rattle.ac_hull.specs.declared.line.Line.{Line}

-- the differences of points to the first
abbrev pub differences : List ℤ → List (List ℤ) → List (List ℤ)
differences f ps = map (λ p. minus p f) ps

-- the rows of the elimination, from the rows of those before
abbrev pub lines_from : List Line → List ℤ → List (List ℤ) → List Line
lines_from ls f [] = ls
lines_from ls f (p ∷ ps) = lines_from (ls ++ next_line ls (minus p f) ∷ []) f ps

abbrev pub lines_of : List ℤ → List (List ℤ) → List Line
lines_of f ps = lines_from [] f ps

-- a hull as callers see it: its columns and its kept members
pub record HullOf : Type 0 where
  pub columns : ℕ
  pub members : List (List ℤ)

-- the equalities of a hull with these members
abbrev pub equalities_of : ℕ → List (List ℤ) → List Affine
equalities_of columns [] = []
equalities_of columns (f ∷ ps) = equalities_below columns (lines_of f ps) f columns

-- the point was outside the hull of the members, and is a member now
abbrev pub IsGrown : HullOf → List ℤ → HullOf → Type 0
IsGrown old p new = (¬ (InHull old.members p)) × (new ≡ record { columns = old.columns; members = old.members ++ p ∷ [] })

-- the point is in the hull of the members, which stay
abbrev pub IsWithin : HullOf → List ℤ → HullOf → Type 0
IsWithin old p new = InHull old.members p × (new ≡ old)

-- the number with the opposite sign where t is positive
abbrev pub turned : ℤ → ℤ → ℤ
turned (pos t) w = neg_ℤ w
turned (negsuc t) w = w

-- m and the weights of the members, read off a row whose coordinates are 0, behind n differences
abbrev pub read_m : ℕ → Line → ℤ
read_m n l = pos (unsigned_abs (entry n l.weights))

abbrev pub read_rest : ℕ → Line → List ℤ
read_rest n l = map (turned (entry n l.weights)) (take n l.weights)

abbrev pub read_weights : ℕ → Line → List ℤ
read_weights n l = (read_m n l -ℤ total (read_rest n l)) ∷ read_rest n l

-- a combination of the members that gives the point: m is at least 1, and no number above 1 divides m and all weights
pub record IsFound (members : List (List ℤ)) (q : List ℤ) (c : Combination) : Type 0 where
  pub combines : IsCombination q c.m c.weights members
  pub positive : pos 1 ≤ℤ c.m
  pub least : (k : ℕ) → k ∣ unsigned_abs c.m → DividesEach k c.weights → k ≡ 1

-- each form is 0 at the point
abbrev pub Vanish : List Affine → List ℤ → Type 0
Vanish es q = Each (λ f. value_at f q ≡ pos 0) es

-- each form up to the first that is not 0 can be evaluated in `i128`
abbrev pub CanVanish : List Affine → List ℤ → Type 0
CanVanish [] q = Unit {0}
CanVanish (f ∷ fs) q = CanEvaluate f q × (value_at f q ≡ pos 0 → CanVanish fs q)

-- a hull that grew has fewer equalities, and no more than columns with its first member
abbrev pub Falls : HullOf → HullOf → Type 0
Falls old new =
    (old.members ≡ [] → length (equalities_of new.columns new.members) ≤ old.columns)
    × (¬ (old.members ≡ []) → length (equalities_of new.columns new.members) < length (equalities_of old.columns old.members))

-- each row can be evaluated at the point in `i128`
abbrev pub CanNarrow : List Row → List ℤ → Type 0
CanNarrow [] p = Unit {0}
CanNarrow (r ∷ rs) p = CanEvaluate (form_of r) p × CanNarrow rs p
