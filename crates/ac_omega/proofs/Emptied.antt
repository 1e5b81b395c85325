-- A normal form in which no row has a column has no row, or is absurd.
use Rattle.std.proofs.Common.{◌≡◌, inl, inr, ℕ, zero, suc, ◌*◌, ◌<◌, ◌≤◌, ◌==◌, ℤ, pos, negsuc, ◌*ℤ◌, ◌≤ℤ◌, int_le, int_eq, List, [], ◌∷◌, get_or, length, map, Bool, true, false, cond, not, ◌||◌, arith, refl, sym, ap, subst, ◌∙◌}
use Rattle.std.specs.Prelude.{unsigned_abs}
use Rattle.std.specs.Int.{◌∣◌, int_div_euclid, int_rem_euclid}
use Rattle.std.proofs.lemmas.Int.{ints}
use Rattle.std.proofs.lemmas.Nat.Gcd.{dvd_refl, dvd-zero}
use Rattle.std.proofs.Math.Nat.{eq-zero_of_zero-dvd, mul-le-mul_left}
use Rattle.std.specs.List.{dedup}
use Rattle.ac_base.specs.Dot.{floored}
use Rattle.ac_base.specs.Gcd.{gcd, gcd_all, content, DividesEach}
use Rattle.ac_base.specs.Multiple.{divides}
use Rattle.ac_base.proofs.Divisors.{gcd_is, gcd_all_divides}
use Rattle.ac_base.proofs.Floor.{floor_exact}
use Rattle.ac_forms.specs.Affine.{Affine, coef, scaled}
use Rattle.ac_forms.specs.NormalForm.{absurd_rows, alike, has_absurd, has_clash, in_order, left_rows, normal_form}
use Rattle.ac_forms.specs.NormalRows.{normal_row, normal_ge, normal_eq, normal_div, divided, reduced, signed, leads_negative, modular_content, trim, trim_onto}
use Rattle.ac_forms.specs.Rows.{form_of, HasModulus, AreRowsOver, IsWellMade}
use Rattle.ac_forms.specs.ListMembers.{IsAmong}
use Rattle.ac_forms.specs.Traces.{IsLeftOf}
use Rattle.ac_forms.specs.declared.conj.Conj.{Conj}
use Rattle.ac_forms.specs.declared.row.Row.{Row}
use Rattle.ac_forms.specs.declared.row.Row.TheVariants.{Eq, Div, Ge}
use Rattle.ac_forms.specs.declared.normal.NormalRow.TheVariants.{Kept, Dropped, Absurd}
use Rattle.ac_forms.proofs.Traces.{left_trace, order_trace, joined_trace}
use Rattle.ac_omega_steps.specs.Choices.{are_absurd}
use Rattle.ac_forms.specs.RowColumns.{is_present}
use Rattle.ac_omega.specs.WalkAnswers.{IsNormal}

-- each number is 0
abbrev pub AreZero : List ℤ → Type 0
AreZero [] = Unit {0}
AreZero (c ∷ cs) = (c ≡ pos 0) × AreZero cs

zero-test : (c : ℤ) → int_eq c (pos 0) ≡ true → c ≡ pos 0
zero-test c e = grind (arith, ints)

by-places : (cs : List ℤ) → ((z : ℕ) → z < length cs → get_or cs z (pos 0) ≡ pos 0) → AreZero cs
by-places [] h = tt
by-places (c ∷ cs) h = (h 0 (omega arith), by-places cs (λ z l. h (suc z) (omega arith)))

onto-zero : (c : ℤ) (xs : List ℤ) → AreZero (trim_onto c xs) → (c ≡ pos 0) × AreZero xs
onto-zero c [] h = by (int_eq c (pos 0)) refl h
  where
    by : (t : Bool) → int_eq c (pos 0) ≡ t → AreZero (cond t [] (c ∷ [])) → (c ≡ pos 0) × AreZero []
    by true e h = (zero-test c e, tt)
    by false e h = h
onto-zero c (x ∷ xs) h = h

trim-zero : (cs : List ℤ) → AreZero (trim cs) → AreZero cs
trim-zero [] h = tt
trim-zero (c ∷ cs) h = let p = onto-zero c (trim cs) h in (p.0, trim-zero cs p.1)

floored-zero : (g : ℕ) (cs : List ℤ) → 0 < g → DividesEach g cs → AreZero (floored (pos g) cs) → AreZero cs
floored-zero g [] l d h = tt
floored-zero g (c ∷ cs) l d h = (floor_exact c g l d.0 ∙ ap (λ q. pos g *ℤ q) h.0 ∙ times-zero (pos g), floored-zero g cs l d.1 h.1)
  where
    times-zero : (x : ℤ) → x *ℤ pos 0 ≡ pos 0
    times-zero x = omega (arith, ints)

gcd-zero : (a : ℕ) → gcd a 0 ≡ a
gcd-zero a = sym (gcd_is a 0 a (dvd_refl a, dvd-zero a, λ k p q. p))

all-zero : (d : ℕ) (cs : List ℤ) → AreZero cs → gcd_all d cs ≡ d
all-zero d [] h = refl
all-zero d (c ∷ cs) h = rw (h.0, gcd-zero d) (all-zero d cs h.1)

positive : (g : ℕ) → (g == 0) ≡ false → 0 < g
positive zero e = absurd cc
positive (suc g) e = omega arith

scaled-zero : (cs : List ℤ) → AreZero (map (λ c. negsuc 0 *ℤ c) cs) → AreZero cs
scaled-zero [] h = tt
scaled-zero (c ∷ cs) h = (by c h.0, scaled-zero cs h.1)
  where
    by : (c : ℤ) → negsuc 0 *ℤ c ≡ pos 0 → c ≡ pos 0
    by c e = omega (arith, ints)

signed-zero : (f : Affine) → AreZero (signed f).coefs → AreZero f.coefs
signed-zero f h = by (leads_negative f.coefs) h
  where
    by : (t : Bool) → AreZero (cond t (scaled (negsuc 0) f) f).coefs → AreZero f.coefs
    by true h = scaled-zero f.coefs h
    by false h = h

divided-zero : (g d : ℕ) (f : Affine) → g ≡ gcd_all d f.coefs → 0 < g → AreZero (divided (pos g) f).coefs → g ≡ d
divided-zero g d f e l h =
    let each : DividesEach g f.coefs = rw e (gcd_all_divides d f.coefs).1 in
    e ∙ all-zero d f.coefs (floored-zero g f.coefs l each (trim-zero (floored (pos g) f.coefs) h))

no-content : (g : ℕ) → (g == 0) ≡ false → g ≡ 0 → ⊥
no-content zero e z = cc
no-content (suc g) e z = cc

kept-ge : (f : Affine) (r : Row) → normal_ge f ≡ Kept r → AreZero (form_of r).coefs → ⊥
kept-ge f r e h = by (content f.coefs == 0) (int_le (pos 0) f.konst) refl e
  where
    by : (t u : Bool) → (content f.coefs == 0) ≡ t → cond t (cond u Dropped Absurd) (Kept (Ge (divided (pos (content f.coefs)) f))) ≡ Kept r → ⊥
    by true true n e = cc
    by true false n e = cc
    by false u n e =
        let s : r ≡ Ge (divided (pos (content f.coefs)) f) = cc in
        no-content (content f.coefs) n (divided-zero (content f.coefs) 0 f refl (positive _ n) (subst (λ x. AreZero (form_of x).coefs) s h))

kept-eq : (f : Affine) (r : Row) → normal_eq f ≡ Kept r → AreZero (form_of r).coefs → ⊥
kept-eq f r e h = by (content f.coefs == 0) (int_eq f.konst (pos 0)) (divides (content f.coefs) f.konst) refl e
  where
    by : (t u v : Bool) → (content f.coefs == 0) ≡ t → cond t (cond u Dropped Absurd) (cond v (Kept (Eq (signed (divided (pos (content f.coefs)) f)))) Absurd) ≡ Kept r → ⊥
    by true true v n e = cc
    by true false v n e = cc
    by false u false n e = cc
    by false u true n e =
        let s : r ≡ Eq (signed (divided (pos (content f.coefs)) f)) = cc in
        no-content (content f.coefs) n (divided-zero (content f.coefs) 0 f refl (positive _ n) (signed-zero (divided (pos (content f.coefs)) f) (subst (λ x. AreZero (form_of x).coefs) s h)))

-- a modulus divided by its own size is 1, where it is positive
one-times : (n k : ℕ) → 0 < n → 1 ≤ k → n ≡ n * k → k ≡ 1
one-times n zero l m e = absurd (omega arith)
one-times n (suc zero) l m e = refl
one-times n (suc (suc k)) l m e =
    let p : n * 2 ≤ n * suc (suc k) = mul-le-mul_left n (omega arith) in
    absurd (omega arith)

pos-times : (n k : ℕ) → pos n *ℤ pos k ≡ pos (n * k)
pos-times n k = refl

own-size : (m q : ℤ) (g : ℕ) → g ≡ unsigned_abs m → 0 < g → q ≡ int_div_euclid m (pos g) → pos 1 ≤ℤ q → q ≡ pos 1
own-size m q g e l d o = by m q e (floor_exact m g l (rw e (dvd_refl (unsigned_abs m))) ∙ ap (λ x. pos g *ℤ x) (sym d)) o
  where
    by : (m q : ℤ) → g ≡ unsigned_abs m → m ≡ pos g *ℤ q → pos 1 ≤ℤ q → q ≡ pos 1
    by m (negsuc k) e f o = absurd (omega (arith, ints))
    by (negsuc n) (pos k) e f o = let x : negsuc n ≡ pos (g * k) = f in absurd cc
    by (pos n) (pos k) e f o =
        let x : pos n ≡ pos (g * k) = f in
        let y : n ≡ g * k = cc in
        ap pos (one-times g k l (omega (arith, ints)) (e ∙ y))

no-modulus : (m q : ℤ) (g : ℕ) → g ≡ 0 → g ∣ unsigned_abs m → q ≡ int_div_euclid m (pos g) → pos 1 ≤ℤ q → ⊥
no-modulus m q g z d e o = by m (eq-zero_of_zero-dvd (subst (λ x. x ∣ unsigned_abs m) z d)) (e ∙ ap (λ x. int_div_euclid m (pos x)) z)
  where
    by : (m : ℤ) → unsigned_abs m ≡ 0 → q ≡ int_div_euclid m (pos 0) → ⊥
    by (pos zero) u e = let f : pos 1 ≤ℤ int_div_euclid (pos 0) (pos 0) = subst (λ x. pos 1 ≤ℤ x) e o in omega (arith, ints)
    by (pos (suc n)) u e = omega arith
    by (negsuc n) u e = omega arith

kept-div : (m : ℤ) (f : Affine) (r : Row) → normal_div m f ≡ Kept r → HasModulus r → AreZero (form_of r).coefs → ⊥
kept-div m f r e o h = by (divides (modular_content m f) (int_rem_euclid f.konst m)) (int_eq (int_div_euclid m (pos (modular_content m f))) (pos 1)) refl e
  where
    at : (g : ℕ) (q : ℤ) → g ≡ modular_content m f → q ≡ int_div_euclid m (pos g) → int_eq q (pos 1) ≡ false → pos 1 ≤ℤ q → AreZero (divided (pos g) (reduced m f)).coefs → ⊥
    at zero q e d n l h = no-modulus m q 0 refl (rw e (gcd_all_divides (unsigned_abs m) (reduced m f).coefs).0) d l
    at (suc g) q e d n l h =
        let s : suc g ≡ unsigned_abs m = divided-zero (suc g) (unsigned_abs m) (reduced m f) e (omega arith) h in
        let one : q ≡ pos 1 = own-size m q (suc g) s (omega arith) d l in
        let t : int_eq (pos 1) (pos 1) ≡ false = subst (λ x. int_eq x (pos 1) ≡ false) one n in
        cc

    by : (t u : Bool) → int_eq (int_div_euclid m (pos (modular_content m f))) (pos 1) ≡ u
        → cond t (cond u Dropped (Kept (Div (int_div_euclid m (pos (modular_content m f))) (divided (pos (modular_content m f)) (reduced m f))))) Absurd ≡ Kept r → ⊥
    by false u n e = cc
    by true true n e = cc
    by true false n e =
        let s : r ≡ Div (int_div_euclid m (pos (modular_content m f))) (divided (pos (modular_content m f)) (reduced m f)) = cc in
        at (modular_content m f) (int_div_euclid m (pos (modular_content m f))) refl refl n (subst HasModulus s o) (subst (λ x. AreZero (form_of x).coefs) s h)

-- a row that is kept has a coefficient
kept-row : (x r : Row) → normal_row x ≡ Kept r → HasModulus r → AreZero (form_of r).coefs → ⊥
kept-row (Eq f) r e o h = kept-eq f r e h
kept-row (Div m f) r e o h = kept-div m f r e o h
kept-row (Ge f) r e o h = kept-ge f r e h

left-row : (r : Row) (xs : List Row) → IsLeftOf r xs → HasModulus r → AreZero (form_of r).coefs → ⊥
left-row r [] i o h = i
left-row r (x ∷ xs) (inl e) o h = kept-row x r e o h
left-row r (x ∷ xs) (inr i) o h = left-row r xs i o h

absent : (z : ℕ) (r : Row) (rs : List Row) → is_present z (r ∷ rs) ≡ false → coef z (form_of r) ≡ pos 0
absent z r rs e = by (int_eq (coef z (form_of r)) (pos 0)) refl e
  where
    by : (t : Bool) → int_eq (coef z (form_of r)) (pos 0) ≡ t → (not t || is_present z rs) ≡ false → coef z (form_of r) ≡ pos 0
    by true f e = zero-test _ f
    by false f e = absurd cc

pub no-columns : (c : Conj) → IsWellMade c → IsNormal c → are_absurd c.rows ≡ false → ((z : ℕ) → z < c.columns → is_present z c.rows ≡ false) → c.rows ≡ []
no-columns c made normal a h = by c.rows made a h normal.1
  where
    raw : List Row
    raw = normal.0

    from : (t u : Bool) (r : Row) (rs : List Row) → are_absurd (r ∷ rs) ≡ false → r ∷ rs ≡ cond t absurd_rows (cond u absurd_rows (dedup alike (in_order (left_rows raw)))) → IsLeftOf r raw
    from true u r rs a e = absurd (let f : are_absurd absurd_rows ≡ false = subst (λ x. are_absurd x ≡ false) e a in cc)
    from false true r rs a e = absurd (let f : are_absurd absurd_rows ≡ false = subst (λ x. are_absurd x ≡ false) e a in cc)
    from false false r rs a e = left_trace r raw (order_trace r (left_rows raw) (joined_trace r (in_order (left_rows raw)) (subst (IsAmong r) e (inl refl))))

    by : (rows : List Row) → AreRowsOver c.columns rows → are_absurd rows ≡ false → ((z : ℕ) → z < c.columns → is_present z rows ≡ false) → rows ≡ normal_form raw → rows ≡ []
    by [] made a h e = refl
    by (r ∷ rs) made a h e =
        absurd (left-row r raw (from (has_absurd raw) (has_clash (in_order (left_rows raw))) r rs a e) made.0.1
        (by-places (form_of r).coefs (λ z l. absent z r rs (h z (omega (arith, made.0.0))))))
