-- The rows that columns are equal to those behind them, as a judge makes them; and that they stand among themselves.
use Rattle.std.proofs.Common.{◌≡◌, ℕ, zero, suc, ◌+◌, ◌-◌, ◌<◌, ◌≤◌, ℤ, pos, negsuc, List, [], ◌∷◌, ◌++◌, map, length, replicate, Bool, true, false, cond, Some, refl, sym, ap, ◌∙◌, subst, append_assoc, arith}
use Rattle.std.specs.Prelude.{slice_get, option_and_then, option_map, ◌==◌}
use Rattle.std.specs.List.{range_with_len}
use Rattle.std.proofs.lemmas.List.{map-append}
use Rattle.ac_base.specs.Dot.{floored, mix}
use Rattle.ac_base.specs.Gcd.{content, gcd, gcd_all, gcd_within}
use Rattle.ac_base.specs.Multiple.{divides}
use Rattle.ac_forms.specs.Affine.{Affine, CanCombine, column_form, mix_numbers, scaled}
use Rattle.ac_forms.specs.Fits.{AllFit, Fits}
use Rattle.ac_forms.specs.NormalForm.{is_absurd}
use Rattle.ac_forms.specs.NormalRows.{NormalFits, absolutes, divided, eq_numbers, leads_negative, normal_row, sign_numbers, signed, trim, trim_onto}
use Rattle.ac_forms.specs.Renaming.{add_at, renamed_coefs, renaming}
use Rattle.ac_forms.specs.Standing.{all_stand, stands}
use Rattle.ac_forms.specs.declared.normal.NormalRow.TheVariants.{Absurd, Dropped, Kept}
use Rattle.ac_forms.specs.declared.row.Row.{Row}
use Rattle.ac_forms.specs.declared.row.Row.TheVariants.{Eq}
use Rattle.ac_forms.proofs.Distinct.{distinct-fits}
use Rattle.ac_forms.proofs.Standings.{stands-there}
use Rattle.ac_omega_steps.specs.Combination.{combination}
use Rattle.ac_omega_steps.proofs.Fitting.{combination_some, true_fits}
use Rattle.ac_claims_paths.specs.PathColumns.{difference, equal_forms}
use Rattle.ac_claims_paths.specs.ModelPositions.{element_forms}
use Rattle.ac_claims_paths.proofs.Moduli.{form_made}
use Rattle.ac_claims_plans.proofs.Selves.{range-distinct}
use Rattle.ac_walk_state.specs.Elements.{column_less, equal_columns}
use Rattle.ac_walk_state.proofs.ListElements.{get_behind, true_both}

-- ---- one column

-- the coefficients of a column
abbrev unit : ℕ → List ℤ
unit k = replicate k (pos 0) ++ pos 1 ∷ []

-- of a column less the one t + 1 columns behind it
abbrev apart : ℕ → ℕ → List ℤ
apart k t = replicate k (pos 0) ++ pos 1 ∷ (replicate t (pos 0) ++ negsuc 0 ∷ [])

column_is : (k : ℕ) → column_form (k + 1) k ≡ record { konst = pos 0; coefs = unit k }
column_is k = let z : k + 1 - k - 1 ≡ 0 = omega arith in ap (λ (n : ℕ). record { konst = pos 0; coefs = replicate k (pos 0) ++ pos 1 ∷ replicate n (pos 0) }) z

zero_fits : Fits (pos 0)
zero_fits = true_fits (pos 0) refl

one_fits : Fits (pos 1)
one_fits = true_fits (pos 1) refl

less_fits : Fits (negsuc 0)
less_fits = true_fits (negsuc 0) refl

unit_fits : (k : ℕ) → AllFit (unit k)
unit_fits zero = (one_fits, tt)
unit_fits (suc k) = (zero_fits, unit_fits k)

-- ---- its renaming

add_front : (p : ℕ) → add_at p (pos 1) [] ≡ unit p
add_front zero = refl
add_front (suc p) = ap (λ (xs : List ℤ). pos 0 ∷ xs) (add_front p)

add_nothing : (p n : ℕ) → p ≤ n → add_at p (pos 0) (unit n) ≡ unit n
add_nothing zero zero h = refl
add_nothing zero (suc n) h = refl
add_nothing (suc p) zero h = absurd (omega (arith, h))
add_nothing (suc p) (suc n) h = ap (λ (xs : List ℤ). pos 0 ∷ xs) (add_nothing p n (omega (arith, h)))

no_coefs : (ks : List ℕ) → renamed_coefs ks [] ≡ []
no_coefs [] = refl
no_coefs (k ∷ ks) = refl

moved : (p w k : ℕ) → k < w → renamed_coefs (range_with_len p w) (unit k) ≡ unit (p + k)
moved p zero k h = absurd (omega (arith, h))
moved p (suc w) zero h = let z : p ≡ p + 0 = omega arith in ap (add_at p (pos 1)) (no_coefs (range_with_len (p + 1) w)) ∙ add_front p ∙ ap unit z
moved p (suc w) (suc k) h =
    let z : p + 1 + k ≡ p + suc k = omega arith in
    ap (add_at p (pos 0)) (moved (p + 1) w k (omega (arith, h))) ∙ add_nothing p (p + 1 + k) (omega arith) ∙ ap unit z

renamed_column : (p w k : ℕ) → k < w → renaming (range_with_len p w) (column_form (k + 1) k) ≡ Some (record { konst = pos 0; coefs = unit (p + k) })
renamed_column p w k h =
    let ks = range_with_len p w in
    ap (renaming ks) (column_is k) ∙ sym (form_made ks (record { konst = pos 0; coefs = unit k }) (distinct-fits ks (unit k) (range-distinct p w) (unit_fits k)))
    ∙ ap (λ (cs : List ℤ). Some (record { konst = pos 0; coefs = cs })) (moved p w k h)

-- ---- the difference

negative : (t : ℕ) → mix (pos 1) [] (negsuc 0) (unit t) ≡ replicate t (pos 0) ++ negsuc 0 ∷ []
negative zero = refl
negative (suc t) = ap (λ (xs : List ℤ). pos 0 ∷ xs) (negative t)

mixed : (n t m : ℕ) → m ≡ n + suc t → mix (pos 1) (unit n) (negsuc 0) (unit m) ≡ apart n t
mixed zero t zero e = absurd (omega (arith, e))
mixed zero t (suc m) e = let z : m ≡ t = omega (arith, e) in ap (λ (xs : List ℤ). pos 1 ∷ xs) (negative m) ∙ ap (λ (k : ℕ). pos 1 ∷ (replicate k (pos 0) ++ negsuc 0 ∷ [])) z
mixed (suc n) t zero e = absurd (omega (arith, e))
mixed (suc n) t (suc m) e = ap (λ (xs : List ℤ). pos 0 ∷ xs) (mixed n t m (omega (arith, e)))

negative_fits : (t : ℕ) → AllFit (mix_numbers (pos 1) [] (negsuc 0) (unit t))
negative_fits zero = (less_fits, tt)
negative_fits (suc t) = (zero_fits, negative_fits t)

mixed_fits : (n t m : ℕ) → m ≡ n + suc t → AllFit (mix_numbers (pos 1) (unit n) (negsuc 0) (unit m))
mixed_fits zero t zero e = absurd (omega (arith, e))
mixed_fits zero t (suc m) e = (one_fits, (zero_fits, (one_fits, negative_fits m)))
mixed_fits (suc n) t zero e = absurd (omega (arith, e))
mixed_fits (suc n) t (suc m) e = (zero_fits, (zero_fits, (zero_fits, mixed_fits n t m (omega (arith, e)))))

-- each column of the first list less that of the second
one_difference : (p w k : ℕ) → k < w → difference (range_with_len p w) (column_form (k + 1) k) (range_with_len (p + w) w) (column_form (k + 1) k) ≡ Some (column_less (p + k) w)
one_difference p zero k h = absurd (omega (arith, h))
one_difference p (suc t) k h =
    let w = suc t in
    let X : Affine = record { konst = pos 0; coefs = unit (p + k) } in
    let Y : Affine = record { konst = pos 0; coefs = unit (p + w + k) } in
    let x = renamed_column p w k h in
    let y = renamed_column (p + w) w k h in
    let e : p + suc t + k ≡ p + k + suc t = omega arith in
    let can : CanCombine (pos 1) X (negsuc 0) Y = (mixed_fits (p + k) t (p + w + k) e, (zero_fits, zero_fits, zero_fits)) in
    let less : w - 1 ≡ t = omega arith in
    (λ i. option_and_then (λ (a : Affine). option_and_then (λ (b : Affine). combination (pos 1) a (negsuc 0) b) (y i)) (x i))
    ∙ combination_some (pos 1) X (negsuc 0) Y can
    ∙ ap (λ (cs : List ℤ). Some (record { konst = pos 0; coefs = cs })) (mixed (p + k) t (p + w + k) e ∙ ap (apart (p + k)) (sym less))

from : (p w n k : ℕ) → k + n ≤ w
    → equal_forms (range_with_len p w) (element_forms k n) (range_with_len (p + w) w) (element_forms k n) ≡ Some (map (λ (c : ℕ). Eq (column_less c w)) (range_with_len (p + k) n))
from p w zero k h = refl
from p w (suc n) k h =
    let ks = range_with_len p w in
    let ls = range_with_len (p + w) w in
    let z : p + (k + 1) ≡ p + k + 1 = omega arith in
    let d = one_difference p w k (omega (arith, h)) in
    let rest = from p w n (k + 1) (omega (arith, h)) ∙ ap (λ (first : ℕ). Some (map (λ (c : ℕ). Eq (column_less c w)) (range_with_len first n))) z in
    λ i. option_and_then (λ (e : Affine). option_map (λ (rows : List Row). Eq e ∷ rows) (rest i)) (d i)

-- the rows of a judge
pub equal_is : (p w : ℕ) → equal_forms (range_with_len p w) (element_forms 0 w) (range_with_len (p + w) w) (element_forms 0 w) ≡ Some (equal_columns p w)
equal_is p w = let z : p + 0 ≡ p = omega arith in from p w w 0 (omega arith) ∙ ap (λ (first : ℕ). Some (map (λ (c : ℕ). Eq (column_less c w)) (range_with_len first w))) z

-- ---- normal forms

one_more : (t : ℕ) → gcd_all 1 (replicate t (pos 0) ++ negsuc 0 ∷ []) ≡ 1
unfolding gcd gcd_within
one_more zero = refl
one_more (suc t) = one_more t

content_is : (k t : ℕ) → content (apart k t) ≡ 1
unfolding gcd gcd_within
content_is zero t = one_more t
content_is (suc k) t = content_is k t

floored_zeros : (t : ℕ) → floored (pos 1) (replicate t (pos 0) ++ negsuc 0 ∷ []) ≡ replicate t (pos 0) ++ negsuc 0 ∷ []
floored_zeros zero = refl
floored_zeros (suc t) = ap (λ (xs : List ℤ). pos 0 ∷ xs) (floored_zeros t)

floored_is : (k t : ℕ) → floored (pos 1) (apart k t) ≡ apart k t
floored_is zero t = ap (λ (xs : List ℤ). pos 1 ∷ xs) (floored_zeros t)
floored_is (suc k) t = ap (λ (xs : List ℤ). pos 0 ∷ xs) (floored_is k t)

leads_one : (cs : List ℤ) → leads_negative (trim_onto (pos 1) cs) ≡ false
leads_one [] = refl
leads_one (c ∷ cs) = refl

leads_zero : (cs : List ℤ) → leads_negative cs ≡ false → leads_negative (trim_onto (pos 0) cs) ≡ false
leads_zero [] e = refl
leads_zero (c ∷ cs) e = e

leads : (k : ℕ) (cs : List ℤ) → leads_negative (trim (replicate k (pos 0) ++ pos 1 ∷ cs)) ≡ false
leads zero cs = leads_one (trim cs)
leads (suc k) cs = leads_zero (trim (replicate k (pos 0) ++ pos 1 ∷ cs)) (leads k cs)

form : ℕ → ℕ → Affine
form k t = record { konst = pos 0; coefs = apart k t }

leads_not : (k t : ℕ) → leads_negative (divided (pos 1) (form k t)).coefs ≡ false
unfolding form
leads_not k t = ap (λ (cs : List ℤ). leads_negative (trim cs)) (floored_is k t) ∙ leads k (replicate t (pos 0) ++ negsuc 0 ∷ [])

numbers_are : (k t : ℕ) → eq_numbers (form k t) ≡ []
unfolding form
numbers_are k t =
    let f : Affine = record { konst = pos 0; coefs = apart k t } in
    let g = divided (pos 1) f in
    ap (λ (n : ℕ). cond (n == 0) [] (cond (divides n (pos 0)) (sign_numbers (divided (pos n) f)) [])) (content_is k t) ∙ ap (λ (b : Bool). cond b ((scaled (negsuc 0) g).coefs ++ (scaled (negsuc 0) g).konst ∷ []) []) (leads_not k t)

sizes_zeros : (t : ℕ) → AllFit (absolutes (replicate t (pos 0) ++ negsuc 0 ∷ []))
sizes_zeros zero = (one_fits, tt)
sizes_zeros (suc t) = (zero_fits, sizes_zeros t)

sizes : (k t : ℕ) → AllFit (absolutes (apart k t))
sizes zero t = (one_fits, sizes_zeros t)
sizes (suc k) t = (zero_fits, sizes k t)

normal : (k t : ℕ) → NormalFits (Eq (form k t))
unfolding form
normal k t = (sizes k t, subst AllFit (sym (numbers_are k t)) tt)

not_absurd : (k t : ℕ) → is_absurd (normal_row (Eq (form k t))) ≡ false
unfolding form
not_absurd k t =
    let f : Affine = record { konst = pos 0; coefs = apart k t } in
    ap (λ (n : ℕ). is_absurd (cond (n == 0) Dropped (cond (divides n (pos 0)) (Kept (Eq (signed (divided (pos n) f)))) Absurd))) (content_is k t)

-- ---- they stand

stands_at : (rows : List Row) (i k w : ℕ) → slice_get rows i ≡ Some (Eq (column_less k w)) → stands rows (Eq (column_less k w)) ≡ true
unfolding form
stands_at rows i k w e = stands-there rows i (Eq (column_less k w)) e (normal k (w - 1)) (not_absurd k (w - 1))

all_from : (w n first : ℕ) (before : List Row) → all_stand (before ++ map (λ (c : ℕ). Eq (column_less c w)) (range_with_len first n)) (map (λ (c : ℕ). Eq (column_less c w)) (range_with_len first n)) ≡ true
all_from w zero first before = refl
all_from w (suc n) first before =
    let r = Eq (column_less first w) in
    let rest = map (λ (c : ℕ). Eq (column_less c w)) (range_with_len (first + 1) n) in
    let z : length before + 0 ≡ length before = omega arith in
    let at : slice_get (before ++ r ∷ rest) (length before + 0) ≡ Some r = get_behind before (r ∷ rest) 0 r refl in
    let again : (before ++ r ∷ []) ++ rest ≡ before ++ r ∷ rest = append_assoc before (r ∷ []) rest in
    true_both (stands (before ++ r ∷ rest) r) (all_stand (before ++ r ∷ rest) rest) (stands_at (before ++ r ∷ rest) (length before + 0) first w at) (subst (λ (rows : List Row). all_stand rows rest ≡ true) again (all_from w n (first + 1) (before ++ r ∷ [])))

pub all_stand_there : (p w : ℕ) → all_stand (equal_columns p w) (equal_columns p w) ≡ true
all_stand_there p w = all_from w w p []

-- ---- row by row

range_last : (first k : ℕ) → range_with_len first (suc k) ≡ range_with_len first k ++ (first + k) ∷ []
range_last first zero = let z : first ≡ first + 0 = omega arith in ap (λ (n : ℕ). n ∷ []) z
range_last first (suc k) =
    let z : first + 1 + k ≡ first + suc k = omega arith in
    ap (λ (xs : List ℕ). first ∷ xs) (range_last (first + 1) k) ∙ ap (λ (n : ℕ). first ∷ (range_with_len (first + 1) k ++ n ∷ [])) z

pub equal_more : (first count k column : ℕ) (rows new : List Row) (r : Row) → rows ≡ map (λ (c : ℕ). Eq (column_less c count)) (range_with_len first k) → column ≡ first + k → r ≡ Eq (column_less column count) → new ≡ rows ++ r ∷ []
    → new ≡ map (λ (c : ℕ). Eq (column_less c count)) (range_with_len first (k + 1))
equal_more first count k column rows new r er ec es en =
    let one = λ (c : ℕ). Eq (column_less c count) in
    let z : suc k ≡ k + 1 = omega arith in
    en ∙ (λ i. er i ++ (es ∙ ap one ec) i ∷ []) ∙ sym (map-append one (range_with_len first k) ((first + k) ∷ [])) ∙ ap (map one) (sym (range_last first k)) ∙ ap (λ (n : ℕ). map one (range_with_len first n)) z
