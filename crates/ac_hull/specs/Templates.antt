-- The template rows of a key: differences of two coordinates, or of one and 0, bounded by thresholds or in a residue class.
use Rattle.std.specs.Prelude.{◌≡◌, ◌⊎◌, ◌==◌, nat_lt, ℕ, zero, suc, ◌+◌, ◌<◌, ◌≤◌, ℤ, pos, negsuc, List, [], ◌∷◌, ◌++◌, map, replicate, slice_set, unsigned_abs, if◌then◌else◌}
use Rattle.ac_forms.specs.Affine.{Affine}
use Rattle.ac_forms.specs.declared.row.Row.{Row}
use Rattle.ac_forms.specs.declared.row.Row.TheVariants.{Div, Ge}
use Rattle.ac_forms.specs.ListMembers.{IsAmong}

-- s - t + c, where a column past the end stands for 0
abbrev pub difference : ℕ → ℕ → ℕ → ℤ → Affine
difference columns s t c = record { konst = c; coefs = slice_set (slice_set (replicate columns (pos 0)) s (pos 1)) t (negsuc 0) }

-- `s - t + c >= 0`, with s and t different coordinates or 0 and c a threshold
abbrev pub IsBound : ℕ → List ℤ → Row → Type 0
IsBound columns thresholds r = (s : ℕ) × (t : ℕ) × (c : ℤ) × (s ≤ columns) × (t ≤ columns) × (¬ (s ≡ t)) × IsAmong c thresholds × (r ≡ Ge (difference columns s t c))

-- `m divides s - t + c`, with m a modulus, c from 0 to m - 1, s a coordinate and t a later coordinate or 0
abbrev pub IsClass : ℕ → List ℤ → Row → Type 0
IsClass columns moduli r = (s : ℕ) × (t : ℕ) × (m : ℤ) × (c : ℕ) × (s < t) × (t ≤ columns) × IsAmong m moduli × (c < unsigned_abs m) × (r ≡ Div m (difference columns s t (pos c)))

-- the rows of two columns
abbrev pub bounds_of : ℕ → List ℤ → ℕ → ℕ → List Row
bounds_of columns thresholds s t = if s == t then [] else map (λ c. Ge (difference columns s t c)) thresholds

abbrev pub classes_below : ℕ → ℕ → ℕ → ℤ → ℕ → List Row
classes_below columns s t m zero = []
classes_below columns s t m (suc c) = classes_below columns s t m c ++ Div m (difference columns s t (pos c)) ∷ []

abbrev pub classes_of : ℕ → ℕ → ℕ → List ℤ → List Row
classes_of columns s t [] = []
classes_of columns s t (m ∷ ms) = classes_below columns s t m (unsigned_abs m) ++ classes_of columns s t ms

abbrev pub pair_rows : ℕ → List ℤ → List ℤ → ℕ → ℕ → List Row
pair_rows columns thresholds moduli s t = bounds_of columns thresholds s t ++ (if nat_lt s t then classes_of columns s t moduli else [])

-- with t below n
abbrev pub row_rows : ℕ → List ℤ → List ℤ → ℕ → ℕ → List Row
row_rows columns thresholds moduli s zero = []
row_rows columns thresholds moduli s (suc t) = row_rows columns thresholds moduli s t ++ pair_rows columns thresholds moduli s t

-- with s below n
abbrev pub all_rows : ℕ → List ℤ → List ℤ → ℕ → List Row
all_rows columns thresholds moduli zero = []
all_rows columns thresholds moduli (suc s) = all_rows columns thresholds moduli s ++ row_rows columns thresholds moduli s (columns + 1)

abbrev pub template_rows : ℕ → List ℤ → List ℤ → List Row
template_rows columns thresholds moduli = all_rows columns thresholds moduli (columns + 1)

-- exactly the template rows
abbrev pub IsTemplate : ℕ → List ℤ → List ℤ → List Row → Type 0
IsTemplate columns thresholds moduli rows = (r : Row) → (IsAmong r rows → IsBound columns thresholds r ⊎ IsClass columns moduli r) × (IsBound columns thresholds r ⊎ IsClass columns moduli r → IsAmong r rows)
