-- Fraction-free elimination of the differences of points to the first, with the weights that each row has over them.
use Rattle.std.specs.Prelude.{◌≡◌, ℕ, suc, ℤ, pos, neg_ℤ, List, [], ◌∷◌, ◌++◌, length, replicate, slice_index_or, if◌then◌else◌}
use Rattle.std.specs.Ordering.{int_eq}
use Rattle.ac_base.specs.Dot.{mix, floored}
use Rattle.ac_base.specs.Gcd.{content}
use Rattle.ac_hull.specs.declared.line.Line.{Line}

-- the entry of a column, 0 past the end
abbrev pub entry : ℕ → List ℤ → ℤ
entry z xs = slice_index_or xs z (pos 0)

-- how many zeros the list begins with: the column of its first entry that is not 0
abbrev pub lead : List ℤ → ℕ
lead [] = 0
lead (x ∷ xs) = if int_eq x (pos 0) then suc (lead xs) else 0

-- the pivot's column and the pivot
abbrev pub column_of : Line → ℕ
column_of l = lead l.coords

abbrev pub pivot_of : Line → ℤ
pivot_of l = entry (lead l.coords) l.coords

-- p xs - r ys
abbrev pub crossed : ℤ → List ℤ → ℤ → List ℤ → List ℤ
crossed p xs r ys = mix p xs (neg_ℤ r) ys

-- the row reduced by another: p row - r other, with p the other's pivot and r the row's entry in its column
abbrev pub reduced_by : Line → Line → Line
reduced_by other l =
    record { coords = crossed (pivot_of other) l.coords (entry (column_of other) l.coords) other.coords; weights = crossed (pivot_of other) l.weights (entry (column_of other) l.coords) other.weights }

-- reduced by rows in order
abbrev pub reduced_all : List Line → Line → Line
reduced_all [] l = l
reduced_all (o ∷ os) l = reduced_all os (reduced_by o l)

-- all entries divided by their greatest common divisor
abbrev pub lowered : Line → Line
lowered l = record { coords = floored (pos (content (l.coords ++ l.weights))) l.coords; weights = floored (pos (content (l.coords ++ l.weights))) l.weights }

-- a difference as a row, behind n others: it has the weight 1 for itself
abbrev pub fresh : ℕ → List ℤ → Line
fresh n d = record { coords = d; weights = replicate n (pos 0) ++ pos 1 ∷ [] }

-- the row of a further difference
abbrev pub next_line : List Line → List ℤ → Line
next_line ls d = lowered (reduced_all ls (fresh (length ls) d))

-- the greatest common divisor by which it was divided
abbrev pub next_content : List Line → List ℤ → ℕ
next_content ls d = content ((reduced_all ls (fresh (length ls) d)).coords ++ (reduced_all ls (fresh (length ls) d)).weights)

-- p - f
abbrev pub minus : List ℤ → List ℤ → List ℤ
minus p f = mix (pos 1) p (neg_ℤ (pos 1)) f

-- each entry is 0
abbrev pub IsZero : List ℤ → Type 0
IsZero xs = (z : ℕ) → entry z xs ≡ pos 0

-- the rows of the differences, one after the other, where none comes to 0
pub data Eliminates (columns : ℕ) : List (List ℤ) → List Line → Type 0 where
  none : Eliminates columns [] []
  more : (ds : List (List ℤ)) (ls : List Line) (d : List ℤ) → Eliminates columns ds ls → length d ≡ columns → ¬ (IsZero (next_line ls d).coords)
      → Eliminates columns (ds ++ d ∷ []) (ls ++ next_line ls d ∷ [])
