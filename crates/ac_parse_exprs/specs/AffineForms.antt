-- Affine forms: a constant, a coefficient for each integer parameter and one for each iterator, the outermost first, and quotients with
-- their coefficients, in the order in which they first appear.
use Rattle.std.specs.Prelude.{ℕ, ◌==◌, nat_le, Bool, true, false, not, ◌&&◌, ◌||◌, List, [], ◌∷◌, map, length, ℤ, pos, negsuc, ◌+ℤ◌, ◌*ℤ◌, unsigned_abs, if◌then◌else◌, replicate, Option, Some, None}
use Rattle.std.specs.Option.{option_map, option_and_then}
use Rattle.std.specs.List.{list_all, range_with_len}
use Rattle.ac_syntax.specs.Index.{is_zero}
use Rattle.ac_syntax.specs.Quotients.{same_quot}
use Rattle.ac_syntax.specs.declared.tree.Quot.{Quot}
use Rattle.ac_parse_exprs.specs.declared.form.Affine.{Affine}
use Rattle.ac_parse_exprs.specs.declared.form.Collected.{Collected}
use Rattle.ac_parse_exprs.specs.declared.form.Collected.TheVariants.{Known, Large, Unknown}

-- a number that an index expression may have
abbrev pub is_small : ℤ → Bool
is_small z = nat_le (unsigned_abs z) 2147483648

abbrev pub all_small : List ℤ → Bool
all_small cs = list_all is_small cs

abbrev pub coef_of : Quot → ℤ
coef_of q = q.coef

-- no text has a form of more quotients than that
abbrev pub is_within : Affine → Bool
is_within f = is_small f.constant && all_small f.params && all_small f.iters && all_small (map coef_of f.quots) && nat_le (length f.quots) 65536

-- a number that is kept: at most 2^126 in absolute value
abbrev pub is_kept : ℤ → Bool
is_kept z = nat_le (unsigned_abs z) 85070591730234615865843651857942052864

abbrev pub all_kept : List ℤ → Bool
all_kept cs = list_all is_kept cs

abbrev pub are_kept : Affine → Bool
are_kept f = is_kept f.constant && all_kept f.params && all_kept f.iters

-- no parameter, no iterator and no quotient counts
abbrev pub is_constant : Affine → Bool
is_constant f = list_all is_zero f.params && list_all is_zero f.iters && list_all is_zero (map coef_of f.quots)

-- the sign of a sum or a difference
abbrev pub signed : Bool → ℤ
signed down = if down then negsuc 0 else pos 1

-- the first plus k times the second, column by column; a column that the second lacks is 0
abbrev pub plus_times : ℤ → List ℤ → List ℤ → List ℤ
plus_times k [] ys = []
plus_times k (x ∷ xs) [] = x ∷ plus_times k xs []
plus_times k (x ∷ xs) (y ∷ ys) = (x +ℤ (k *ℤ y)) ∷ plus_times k xs ys

abbrev pub times : ℤ → List ℤ → List ℤ
times k xs = map (λ x. k *ℤ x) xs

-- ---- quotients, whose coefficients stay within the limit

-- with another coefficient, where that is within the limit
abbrev pub with_coef : ℤ → Quot → Option Quot
with_coef c q = option_map (λ z. record q { coef = z }) (if is_small c then Some c else None)

-- with k times a quotient more: equal quotients are one, where it first appears
abbrev pub with_quot : ℤ → Quot → List Quot → Option (List Quot)
with_quot k q [] = option_map (λ r. r ∷ []) (with_coef (k *ℤ q.coef) q)
with_quot k q (p ∷ ps) = if same_quot q p then option_map (λ r. r ∷ ps) (with_coef (p.coef +ℤ (k *ℤ q.coef)) p) else option_map (λ rest. p ∷ rest) (with_quot k q ps)

-- the first and k times the second
abbrev pub joined_quots : ℤ → List Quot → List Quot → Option (List Quot)
joined_quots k ps [] = Some ps
joined_quots k ps (q ∷ qs) = option_and_then (λ more. joined_quots k more qs) (with_quot k q ps)

abbrev pub scaled_quots : ℤ → List Quot → Option (List Quot)
scaled_quots k [] = Some []
scaled_quots k (q ∷ qs) = option_and_then (λ p. option_map (λ ps. p ∷ ps) (scaled_quots k qs)) (with_coef (k *ℤ q.coef) q)

-- ---- forms

-- f + k g, with these quotients
abbrev pub sum_form : ℤ → Affine → Affine → List Quot → Affine
sum_form k f g qs = record { constant = f.constant +ℤ (k *ℤ g.constant); params = plus_times k f.params g.params; iters = plus_times k f.iters g.iters; quots = qs }

abbrev pub multiple_form : ℤ → Affine → List Quot → Affine
multiple_form k f qs = record { constant = k *ℤ f.constant; params = times k f.params; iters = times k f.iters; quots = qs }

-- n numbers, 1 in the place k and 0 in all others
abbrev pub indicator : ℕ → ℕ → ℤ
indicator k j = if j == k then pos 1 else pos 0

abbrev pub unit : ℕ → ℕ → List ℤ
unit n k = map (indicator k) (range_with_len 0 n)

abbrev pub zeros : ℕ → List ℤ
zeros n = replicate n (pos 0)

abbrev pub constant_form : ℕ → ℕ → ℤ → Affine
constant_form ps xs c = record { constant = c; params = zeros ps; iters = zeros xs; quots = [] }

abbrev pub parameter_form : ℕ → ℕ → ℕ → Affine
parameter_form ps xs k = record { constant = pos 0; params = unit ps k; iters = zeros xs; quots = [] }

abbrev pub iterator_form : ℕ → ℕ → ℕ → Affine
iterator_form ps xs k = record { constant = pos 0; params = zeros ps; iters = unit xs k; quots = [] }

abbrev pub quotient_form : ℕ → ℕ → Quot → Affine
quotient_form ps xs q = record { constant = pos 0; params = zeros ps; iters = zeros xs; quots = q ∷ [] }

-- What is collected of an expression: its form. Where a number of it is not kept, or that of a quotient passes the limit, all that is known is whether the expression counts
-- as constant: such an expression does where each of its parts does. Nothing is known where a rule is broken inside.
abbrev pub counts_as_constant : Collected → Bool
counts_as_constant (Known f) = is_constant f
counts_as_constant (Large constant) = constant
counts_as_constant Unknown = false

abbrev pub is_known : Collected → Bool
is_known (Known f) = true
is_known (Large constant) = true
is_known Unknown = false

-- a number passes the limit of an index expression
abbrev pub is_large : Collected → Bool
is_large (Known f) = not (is_within f)
is_large (Large constant) = true
is_large Unknown = false

-- a form with these quotients, where there are any and each number is kept
abbrev pub limited : Option (List Quot) → (List Quot → Affine) → Bool → Collected
limited None form constant = Large constant
limited (Some qs) form constant = if are_kept (form qs) then Known (form qs) else Large constant

-- a + k b, where k is 1 or -1
abbrev pub sum_of : ℤ → Collected → Collected → Collected
sum_of k (Known f) (Known g) = limited (joined_quots k f.quots g.quots) (sum_form k f g) (is_constant f && is_constant g)
sum_of k (Known f) (Large d) = Large (is_constant f && d)
sum_of k (Known f) Unknown = Unknown
sum_of k (Large c) (Known g) = Large (c && is_constant g)
sum_of k (Large c) (Large d) = Large (c && d)
sum_of k (Large c) Unknown = Unknown
sum_of k Unknown b = Unknown

-- one side is constant, or there is no product
abbrev pub known_product : Affine → Affine → Collected
known_product f g =
    if is_constant f then limited (scaled_quots f.constant g.quots) (multiple_form f.constant g) (is_constant g)
    else if is_constant g then limited (scaled_quots g.constant f.quots) (multiple_form g.constant f) false
    else Unknown

abbrev pub large_product : Bool → Bool → Collected
large_product c d = if c || d then Large (c && d) else Unknown

abbrev pub product_of : Collected → Collected → Collected
product_of (Known f) (Known g) = known_product f g
product_of (Known f) (Large d) = large_product (is_constant f) d
product_of (Known f) Unknown = Unknown
product_of (Large c) (Known g) = large_product c (is_constant g)
product_of (Large c) (Large d) = large_product c d
product_of (Large c) Unknown = Unknown
product_of Unknown b = Unknown

abbrev pub negative_of : Collected → Collected
negative_of (Known f) = limited (scaled_quots (negsuc 0) f.quots) (multiple_form (negsuc 0) f) (is_constant f)
negative_of (Large constant) = Large constant
negative_of Unknown = Unknown
