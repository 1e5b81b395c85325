-- Columns in the order in which they come: each is a counter or a quotient.
use Rattle.std.specs.Prelude.{◌≡◌, ℕ, suc, ◌+◌, ◌≤◌, ℤ, pos, ◌≤ℤ◌, List, [], ◌∷◌, ◌++◌, length, slice_index_or}
use Rattle.ac_poly_quotients.specs.QuotientRows.{rounded_at}
use Rattle.ac_poly_quotients.specs.declared.types.Rounded.{Rounded}
use Rattle.ac_poly_quotients.specs.declared.types.Column.{Column}
use Rattle.ac_poly_quotients.specs.declared.types.Column.TheVariants.{Counter, Quotient}

-- how many are counters
abbrev pub counters : List Column → ℕ
counters [] = 0
counters (Counter ∷ ss) = suc (counters ss)
counters (Quotient r ∷ ss) = counters ss

-- the quotients, in their order
abbrev pub quots_of : List Column → List Rounded
quots_of [] = []
quots_of (Counter ∷ ss) = quots_of ss
quots_of (Quotient r ∷ ss) = r ∷ quots_of ss

-- the point p with its columns behind: the numbers zs for the counters, 0 where they have ended, and the values of the quotients
abbrev pub filled : List Column → List ℤ → List ℤ → List ℤ
filled [] p zs = p
filled (Counter ∷ ss) p [] = filled ss (p ++ pos 0 ∷ []) []
filled (Counter ∷ ss) p (z ∷ zs) = filled ss (p ++ z ∷ []) zs
filled (Quotient r ∷ ss) p zs = filled ss (p ++ rounded_at r p ∷ []) zs

-- these columns alone
abbrev pub filling : List Column → List ℤ → List ℤ → List ℤ
filling [] p zs = []
filling (Counter ∷ ss) p [] = pos 0 ∷ filling ss (p ++ pos 0 ∷ []) []
filling (Counter ∷ ss) p (z ∷ zs) = z ∷ filling ss (p ++ z ∷ []) zs
filling (Quotient r ∷ ss) p zs = rounded_at r p ∷ filling ss (p ++ rounded_at r p ∷ []) zs

-- the columns of the counters, where the first column is k
abbrev pub counter_columns : ℕ → List Column → List ℕ
counter_columns k [] = []
counter_columns k (Counter ∷ ss) = k ∷ counter_columns (k + 1) ss
counter_columns k (Quotient r ∷ ss) = counter_columns (k + 1) ss

-- each quotient is over the columns before it, of which the first has k; its divisor is at least 1
abbrev pub ColumnsAreMade : ℕ → List Column → Type 0
ColumnsAreMade k [] = Unit {0}
ColumnsAreMade k (Counter ∷ ss) = ColumnsAreMade (k + 1) ss
ColumnsAreMade k (Quotient r ∷ ss) = (length r.form.coefs ≤ k) × (pos 1 ≤ℤ r.div) × ColumnsAreMade (k + 1) ss

-- at the column of each quotient a point has its value
abbrev pub AreKnown : ℕ → List Column → List ℤ → Type 0
AreKnown k [] p = Unit {0}
AreKnown k (Counter ∷ ss) p = AreKnown (k + 1) ss p
AreKnown k (Quotient r ∷ ss) p = (slice_index_or p k (pos 0) ≡ rounded_at r p) × AreKnown (k + 1) ss p
