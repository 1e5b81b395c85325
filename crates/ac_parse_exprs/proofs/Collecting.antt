-- What is collected of an expression: a form has a number for each parameter and each iterator, and each is within the limit.
use Rattle.std.proofs.Common.{◌≡◌, ℕ, zero, suc, List, [], ◌∷◌, map, length, refl, ap, ◌∙◌, Bool, true, false, not, ◌&&◌, ◌||◌, cond, ℤ, pos, negsuc, ◌*ℤ◌, nat_le, nat_lt, arith, ◌==◌, sym, subst}
use Rattle.std.specs.Prelude.{Option, Some, None}
use Rattle.ac_syntax.specs.declared.tree.Quot.{Quot}
use Rattle.std.specs.List.{range_with_len}
use Rattle.std.proofs.lemmas.Int.{unsigned_abs-mul}
use Rattle.std.proofs.lemmas.List.{length-replicate}
use Rattle.std.proofs.lemmas.List.FromFn.{length-map-range_with_len}
use Rattle.std.proofs.lemmas.Bool.Decides.{nat_tests}
use Rattle.ac_parse_grammar.specs.declared.tree.Operator.{Operator}
use Rattle.ac_parse_grammar.specs.declared.tree.Operator.TheVariants.{Add, Subtract, Multiply, Divide, Remainder}
use Rattle.ac_parse_exprs.specs.declared.form.Affine.{Affine}
use Rattle.ac_parse_exprs.specs.declared.form.Collected.{Collected}
use Rattle.ac_parse_exprs.specs.declared.form.Collected.TheVariants.{Known, Large, Unknown}
use Rattle.ac_parse_exprs.specs.AffineForms.{is_small, all_small, is_within, coef_of, with_coef, joined_quots, scaled_quots, is_kept, all_kept, are_kept, is_constant, times, sum_form, multiple_form, indicator, zeros, constant_form, parameter_form, iterator_form, quotient_form, is_known, is_large, limited, sum_of, product_of, negative_of, signed}
use Rattle.ac_parse_exprs.specs.IndexExpressions.{form_of, is_not_affine}
use Rattle.ac_parse_exprs.proofs.Absent.{both_true}
use Rattle.ac_parse_exprs.proofs.Columns.{length-plus_times, length-times}

-- a column for each of ps parameters and of xs iterators, and no number beyond the limit
abbrev pub HasColumns : ℕ → ℕ → Affine → Type 0
HasColumns ps xs f = (length f.params ≡ ps) × (length f.iters ≡ xs) × (is_within f ≡ true)

-- where there is a form it has its columns
abbrev pub Shaped : ℕ → ℕ → Collected → Type 0
Shaped ps xs (Known f) = (length f.params ≡ ps) × (length f.iters ≡ xs)
Shaped ps xs (Large constant) = Unit {0}
Shaped ps xs Unknown = Unit {0}

-- there is a form within the limit
abbrev pub IsKnown : Collected → Type 0
IsKnown (Known f) = is_within f ≡ true
IsKnown (Large constant) = ⊥
IsKnown Unknown = ⊥

zeros_small : (n : ℕ) → all_small (zeros n) ≡ true
zeros_small zero = refl
zeros_small (suc n) = zeros_small n

mark_small : (b : Bool) → is_small (cond b (pos 1) (pos 0)) ≡ true
mark_small true = refl
mark_small false = refl

marks_small : (k : ℕ) (js : List ℕ) → all_small (map (indicator k) js) ≡ true
marks_small k [] = refl
marks_small k (j ∷ js) = rw (mark_small (j == k), marks_small k js) refl

pub constant_shaped : (ps xs : ℕ) (c : ℤ) → is_small c ≡ true → HasColumns ps xs (constant_form ps xs c)
constant_shaped ps xs c h = (length-replicate ps (pos 0), length-replicate xs (pos 0), rw (h, zeros_small ps, zeros_small xs) refl)

pub parameter_shaped : (ps xs k : ℕ) → HasColumns ps xs (parameter_form ps xs k)
parameter_shaped ps xs k = (length-map-range_with_len (indicator k) 0 ps, length-replicate xs (pos 0), rw (zeros_small xs, marks_small k (range_with_len 0 ps)) refl)

pub iterator_shaped : (ps xs k : ℕ) → HasColumns ps xs (iterator_form ps xs k)
iterator_shaped ps xs k = (length-replicate ps (pos 0), length-map-range_with_len (indicator k) 0 xs, rw (zeros_small ps, marks_small k (range_with_len 0 xs)) refl)

limited_case : (ps xs : ℕ) (f : Affine) (constant b : Bool) → length f.params ≡ ps → length f.iters ≡ xs → Shaped ps xs (cond b (Known f) (Large constant))
limited_case ps xs f constant true h k = (h, k)
limited_case ps xs f constant false h k = tt

pub limited_shaped : (ps xs : ℕ) (qs : Option (List Quot)) (form : List Quot → Affine) (constant : Bool) → ((rs : List Quot) → length (form rs).params ≡ ps) → ((rs : List Quot) → length (form rs).iters ≡ xs)
    → Shaped ps xs (limited qs form constant)
limited_shaped ps xs None form constant h k = tt
limited_shaped ps xs (Some rs) form constant h k = limited_case ps xs (form rs) constant (are_kept (form rs)) (h rs) (k rs)

sum_shaped : (ps xs : ℕ) (k : ℤ) (a b : Collected) → Shaped ps xs a → Shaped ps xs (sum_of k a b)
sum_shaped ps xs k (Known f) (Known g) h = limited_shaped ps xs (joined_quots k f.quots g.quots) (sum_form k f g) (is_constant f && is_constant g) (λ rs. length-plus_times k f.params g.params ∙ h.0) (λ rs. length-plus_times k f.iters g.iters ∙ h.1)
sum_shaped ps xs k (Known f) (Large d) h = tt
sum_shaped ps xs k (Known f) Unknown h = tt
sum_shaped ps xs k (Large c) (Known g) h = tt
sum_shaped ps xs k (Large c) (Large d) h = tt
sum_shaped ps xs k (Large c) Unknown h = tt
sum_shaped ps xs k Unknown b h = tt

multiple_shaped : (ps xs : ℕ) (k : ℤ) (f : Affine) (constant : Bool) → Shaped ps xs (Known f) → Shaped ps xs (limited (scaled_quots k f.quots) (multiple_form k f) constant)
multiple_shaped ps xs k f constant h = limited_shaped ps xs (scaled_quots k f.quots) (multiple_form k f) constant (λ rs. length-times k f.params ∙ h.0) (λ rs. length-times k f.iters ∙ h.1)

either_shaped : (ps xs : ℕ) (b c : Bool) (x y : Collected) → Shaped ps xs x → Shaped ps xs y → Shaped ps xs (cond b x (cond c y Unknown))
either_shaped ps xs true c x y h k = h
either_shaped ps xs false true x y h k = k
either_shaped ps xs false false x y h k = tt

large_shaped : (ps xs : ℕ) (b c : Bool) → Shaped ps xs (cond b (Large c) Unknown)
large_shaped ps xs true c = tt
large_shaped ps xs false c = tt

product_shaped : (ps xs : ℕ) (a b : Collected) → Shaped ps xs a → Shaped ps xs b → Shaped ps xs (product_of a b)
product_shaped ps xs (Known f) (Known g) h k =
    either_shaped ps xs (is_constant f) (is_constant g) (limited (scaled_quots f.constant g.quots) (multiple_form f.constant g) (is_constant g)) (limited (scaled_quots g.constant f.quots) (multiple_form g.constant f) false)
    (multiple_shaped ps xs f.constant g (is_constant g) k) (multiple_shaped ps xs g.constant f false h)
product_shaped ps xs (Known f) (Large d) h k = large_shaped ps xs (is_constant f || d) (is_constant f && d)
product_shaped ps xs (Known f) Unknown h k = tt
product_shaped ps xs (Large c) (Known g) h k = large_shaped ps xs (c || is_constant g) (c && is_constant g)
product_shaped ps xs (Large c) (Large d) h k = large_shaped ps xs (c || d) (c && d)
product_shaped ps xs (Large c) Unknown h k = tt
product_shaped ps xs Unknown b h k = tt

pub negative_shaped : (ps xs : ℕ) (a : Collected) → Shaped ps xs a → Shaped ps xs (negative_of a)
negative_shaped ps xs (Known f) h = multiple_shaped ps xs (negsuc 0) f (is_constant f) h
negative_shaped ps xs (Large c) h = tt
negative_shaped ps xs Unknown h = tt

pub form_shaped : (ps xs : ℕ) (op : Operator) (a b : Collected) → Shaped ps xs a → Shaped ps xs b → Shaped ps xs (form_of op a b)
form_shaped ps xs Add a b h k = sum_shaped ps xs (signed false) a b h
form_shaped ps xs Subtract a b h k = sum_shaped ps xs (signed true) a b h
form_shaped ps xs Multiply a b h k = product_shaped ps xs a b h k
form_shaped ps xs Divide a b h k = tt
form_shaped ps xs Remainder a b h k = tt

not_false : (b : Bool) → not b ≡ false → b ≡ true
not_false true h = refl
not_false false h = absurd cc

-- a form that is neither large nor unknown is known
known_when : (c : Collected) → not (is_known c) ≡ false → is_large c ≡ false → IsKnown c
known_when (Known f) h k = not_false (is_within f) k
known_when (Large c) h k = absurd cc
known_when Unknown h k = absurd cc

pub known_join : (op : Operator) (a b : Collected) → IsKnown a → IsKnown b → is_not_affine op a b ≡ false → is_large (form_of op a b) ≡ false → IsKnown (form_of op a b)
known_join op (Known f) (Known g) h k n l = known_when (form_of op (Known f) (Known g)) n l
known_join op (Known f) (Large d) h k n l = absurd k
known_join op (Known f) Unknown h k n l = absurd k
known_join op (Large c) b h k n l = absurd h
known_join op Unknown b h k n l = absurd h

large_case : (f : Affine) (constant b : Bool) → is_large (cond b (Known f) (Large constant)) ≡ false → IsKnown (cond b (Known f) (Large constant))
large_case f constant true h = not_false (is_within f) h
large_case f constant false h = absurd cc

pub known_limited : (qs : Option (List Quot)) (form : List Quot → Affine) (constant : Bool) → is_large (limited qs form constant) ≡ false → IsKnown (limited qs form constant)
known_limited None form constant h = absurd cc
known_limited (Some rs) form constant h = large_case (form rs) constant (are_kept (form rs)) h

small_negative : (z : ℤ) → is_small (negsuc 0 *ℤ z) ≡ is_small z
small_negative z = ap (λ n. nat_le n 2147483648) (unsigned_abs-mul (negsuc 0) z ∙ omega arith)

all_negative : (zs : List ℤ) → all_small (times (negsuc 0) zs) ≡ all_small zs
all_negative [] = refl
all_negative (z ∷ zs) = rw (small_negative z, all_negative zs) refl

abbrev pub negated : List Quot → List Quot
negated [] = []
negated (q ∷ qs) = record q { coef = negsuc 0 *ℤ q.coef } ∷ negated qs

some_coef : (q : Quot) (c : ℤ) → is_small c ≡ true → with_coef c q ≡ Some (record q { coef = c })
some_coef q c h = rw h refl

-- small coefficients may be negated
pub scaled_negative : (qs : List Quot) → all_small (map coef_of qs) ≡ true → scaled_quots (negsuc 0) qs ≡ Some (negated qs)
scaled_negative [] h = refl
scaled_negative (q ∷ qs) h =
    let b = both_true (is_small q.coef) (all_small (map coef_of qs)) h in
    rw (some_coef q (negsuc 0 *ℤ q.coef) (small_negative q.coef ∙ b.0), scaled_negative qs b.1) refl

negated_small : (qs : List Quot) → all_small (map coef_of (negated qs)) ≡ all_small (map coef_of qs)
negated_small [] = refl
negated_small (q ∷ qs) = rw (small_negative q.coef, negated_small qs) refl

negated_count : (qs : List Quot) → length (negated qs) ≡ length qs
negated_count [] = refl
negated_count (q ∷ qs) = ap suc (negated_count qs)

within_negative : (f : Affine) → is_within (multiple_form (negsuc 0) f (negated f.quots)) ≡ is_within f
within_negative f = rw (small_negative f.constant, all_negative f.params, all_negative f.iters, negated_small f.quots, negated_count f.quots) refl

-- what it is for a form to be within the limit
pub record Within (f : Affine) : Type 0 where
  pub constant : is_small f.constant ≡ true
  pub params : all_small f.params ≡ true
  pub iters : all_small f.iters ≡ true
  pub coefs : all_small (map coef_of f.quots) ≡ true
  pub count : nat_le (length f.quots) 65536 ≡ true

pub within : (f : Affine) → is_within f ≡ true → Within f
within f h =
    let e = both_true (is_small f.constant && all_small f.params && all_small f.iters && all_small (map coef_of f.quots)) (nat_le (length f.quots) 65536) h in
    let d = both_true (is_small f.constant && all_small f.params && all_small f.iters) (all_small (map coef_of f.quots)) e.0 in
    let b = both_true (is_small f.constant && all_small f.params) (all_small f.iters) d.0 in
    let c = both_true (is_small f.constant) (all_small f.params) b.0 in
    record { constant = c.0; params = c.1; iters = b.1; coefs = d.1; count = e.1 }

small_kept : (z : ℤ) → is_small z ≡ true → is_kept z ≡ true
small_kept z h = grind (arith, nat_tests)

all_small_kept : (zs : List ℤ) → all_small zs ≡ true → all_kept zs ≡ true
all_small_kept [] h = refl
all_small_kept (z ∷ zs) h = let b = both_true (is_small z) (all_small zs) h in rw (small_kept z b.0, all_small_kept zs b.1) refl

within_kept : (f : Affine) → is_within f ≡ true → are_kept f ≡ true
within_kept f h = let w = within f h in rw (small_kept f.constant w.constant, all_small_kept f.params w.params, all_small_kept f.iters w.iters) refl

within_case : (f : Affine) (constant b : Bool) → b ≡ true → is_within f ≡ true → IsKnown (cond b (Known f) (Large constant))
within_case f constant true h w = w
within_case f constant false h w = absurd cc

-- the negative of a form is within the limits where the form is
pub known_negative : (ps xs : ℕ) (a : Collected) → Shaped ps xs a → IsKnown a → IsKnown (negative_of a)
known_negative ps xs (Known f) h k =
    let g = multiple_form (negsuc 0) f (negated f.quots) in
    let w : is_within g ≡ true = within_negative f ∙ k in
    subst (λ qs. IsKnown (limited qs (multiple_form (negsuc 0) f) (is_constant f))) (sym (scaled_negative f.quots (within f k).coefs)) (within_case g (is_constant f) (are_kept g) (within_kept g w) w)
known_negative ps xs (Large c) h k = absurd k
known_negative ps xs Unknown h k = absurd k

pub known_true : (a : Collected) → IsKnown a → is_known a ≡ true
known_true (Known f) h = refl
known_true (Large c) h = absurd h
known_true Unknown h = absurd h

pub quotient_within : (ps xs : ℕ) (q : Quot) → q.coef ≡ pos 1 → is_within (quotient_form ps xs q) ≡ true
quotient_within ps xs q h = rw (h, zeros_small ps, zeros_small xs) refl

pub number_small : (n : ℕ) → nat_lt 2147483648 n ≡ false → is_small (pos n) ≡ true
number_small n h = grind (arith, nat_tests)
