-- The numbers that the elimination forms: where all of them are numbers of `i128`, it is not wide.
use Rattle.std.specs.Prelude.{◌≡◌, ℕ, zero, suc, ℤ, pos, neg_ℤ, ◌-ℤ◌, ◌*ℤ◌, List, [], ◌∷◌, ◌++◌, length, true}
use Rattle.ac_base.specs.Dot.{dot}
use Rattle.ac_forms.specs.Affine.{CanEvaluate}
use Rattle.ac_forms.specs.NormalRows.{NormalFits}
use Rattle.ac_forms.specs.declared.row.Row.TheVariants.{Eq}
use Rattle.ac_base.specs.Gcd.{content}
use Rattle.ac_forms.specs.Fits.{Fits, AllFit}
use Rattle.ac_hull.specs.FractionFreeElimination.{entry, column_of, pivot_of, reduced_by, fresh, next_line, next_content, minus, IsZero}
use Rattle.ac_hull.specs.Equalities.{unit, cleared, coefs_of, least_coefs, through_form, is_free}
use Rattle.ac_hull.specs.Hulls.{lines_of, read_m, read_rest}
use Rattle.ac_hull.specs.declared.line.Line.{Line}

-- the two products and the difference of `p x - r y`
abbrev pub CrossFits : ℤ → ℤ → ℤ → ℤ → Type 0
CrossFits p x r y = Fits (p *ℤ x) × Fits (r *ℤ y) × Fits (p *ℤ x -ℤ r *ℤ y)

-- those of two lists, column by column; a list that ends first stands for zeros
abbrev pub AllCross : ℤ → List ℤ → ℤ → List ℤ → Type 0
AllCross p [] r [] = Unit {0}
AllCross p [] r (y ∷ ys) = CrossFits p (pos 0) r y × AllCross p [] r ys
AllCross p (x ∷ xs) r [] = CrossFits p x r (pos 0) × AllCross p xs r []
AllCross p (x ∷ xs) r (y ∷ ys) = CrossFits p x r y × AllCross p xs r ys

-- a row is reduced by another
abbrev pub CanReduce : Line → Line → Type 0
CanReduce o l = AllCross (pivot_of o) l.coords (entry (column_of o) l.coords) o.coords × AllCross (pivot_of o) l.weights (entry (column_of o) l.coords) o.weights

-- by rows in order
abbrev pub CanReduceAll : List Line → Line → Type 0
CanReduceAll [] l = Unit {0}
CanReduceAll (o ∷ os) l = CanReduce o l × CanReduceAll os (reduced_by o l)

-- and then divided by the greatest common divisor of its entries, which is a number too
abbrev pub CanNext : List Line → List ℤ → Type 0
CanNext ls d = CanReduceAll ls (fresh (length ls) d) × Fits (pos (next_content ls d))

-- a sum of products, column by column
abbrev pub CanSum : List ℤ → List ℤ → Type 0
CanSum v x = CanEvaluate (record { konst = pos 0; coefs = v }) x

-- coefficients are made 0 at a row
abbrev pub CanClearBy : Line → List ℤ → Type 0
CanClearBy l v = CanSum v l.coords × AllCross (pivot_of l) v (pos 0) [] × CrossFits (pivot_of l) (entry (column_of l) v) (pos 1) (dot v l.coords)

abbrev pub CanClear : List Line → List ℤ → Type 0
CanClear [] v = Unit {0}
CanClear (l ∷ ls) v = CanClear ls v × CanClearBy l (cleared ls v)

-- the equality with these coefficients through a point
abbrev pub CanThrough : List ℤ → List ℤ → Type 0
CanThrough v f = CanSum v f × Fits (neg_ℤ (dot v f)) × NormalFits (Eq (through_form v f))

-- the equality of a column
abbrev pub CanEquality : ℕ → List Line → List ℤ → ℕ → Type 0
CanEquality columns ls f z = CanClear ls (unit columns z) × Fits (pos (content (coefs_of columns ls z))) × CanThrough (least_coefs columns ls z) f

-- the equalities of the free columns below n
abbrev pub CanEqualities : ℕ → List Line → List ℤ → ℕ → Type 0
CanEqualities columns ls f zero = Unit {0}
CanEqualities columns ls f (suc z) = CanEqualities columns ls f z × (is_free ls z ≡ true → CanEquality columns ls f z)

-- the equalities behind a further row
abbrev pub CanGrow : ℕ → List (List ℤ) → Line → Type 0
CanGrow columns [] l = ⊥
CanGrow columns (f ∷ ps) l = CanEqualities columns (lines_of f ps ++ l ∷ []) f columns

-- a point's row behind those of the members
abbrev pub CanRow : List ℤ → List (List ℤ) → List ℤ → Type 0
CanRow f ps p = AllCross (pos 1) p (pos 1) f × CanNext (lines_of f ps) (minus p f)

-- a point is added to a hull with these members
abbrev pub CanAdd : ℕ → List (List ℤ) → List ℤ → Type 0
CanAdd columns [] p = CanEqualities columns [] p columns
CanAdd columns (f ∷ ps) p =
    CanRow f ps p × (¬ (IsZero (next_line (lines_of f ps) (minus p f)).coords) → CanGrow columns (f ∷ ps) (next_line (lines_of f ps) (minus p f)))

-- the differences of a number less others in order
abbrev pub differences_from : ℤ → List ℤ → List ℤ
differences_from m [] = []
differences_from m (w ∷ ws) = (m -ℤ w) ∷ differences_from (m -ℤ w) ws

-- m and the weights are read off a row behind n differences
abbrev pub CanRead : ℕ → Line → Type 0
CanRead n l = Fits (read_m n l) × AllFit (read_rest n l) × AllFit (differences_from (read_m n l) (read_rest n l))

-- a point is combined from the members
abbrev pub CanCombine : List (List ℤ) → List ℤ → Type 0
CanCombine [] p = Unit {0}
CanCombine (f ∷ ps) p =
    CanRow f ps p × (IsZero (next_line (lines_of f ps) (minus p f)).coords → CanRead (length ps) (next_line (lines_of f ps) (minus p f)))
