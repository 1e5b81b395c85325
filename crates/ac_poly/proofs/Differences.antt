-- The value of a difference of two columns, its coefficients one by one, and equalities of forms.
use Rattle.std.proofs.Common.{◌≡◌, ℕ, zero, suc, ◌+◌, ◌-◌, ◌<◌, ◌≤◌, List, [], ◌∷◌, ◌++◌, length, replicate, set, get_or, refl, sym, ap, ◌∙◌, arith, ℤ, pos, negsuc, ◌+ℤ◌, ◌*ℤ◌}
use Rattle.std.proofs.lemmas.Int.{ints}
use Rattle.ac_base.specs.Dot.{dot, mix}
use Rattle.ac_forms.specs.Affine.{Affine, value_at, combined, column_form, constant_form}
use Rattle.ac_forms.proofs.Values.{value_at-combined}
use Rattle.ac_poly.specs.LevelRows.{difference, EqualitiesAreEqualValues}
use Rattle.ac_poly.specs.ModelMeaning.{values_at}
use Rattle.ac_poly_quotients.proofs.FormValues.{length-mix, narrow-column}
pub use Rattle.ac_poly_quotients.proofs.FormValues.{column-value}

pub no_more : (k : ℕ) → k + 1 - k - 1 ≡ 0
no_more k = omega arith

-- a column has the number that the point has there
pub dot-unit : (k : ℕ) (p : List ℤ) → dot (replicate k (pos 0) ++ pos 1 ∷ []) p ≡ get_or p k (pos 0)
dot-unit zero [] = refl
dot-unit zero (x ∷ p) = let e : dot [] p ≡ pos 0 = refl in omega (arith, ints)
dot-unit (suc k) [] = refl
dot-unit (suc k) (x ∷ p) = omega (arith, ints, dot-unit k p)

pub value-difference : (i j : ℕ) (k : ℤ) (p : List ℤ) → value_at (difference i j k) p ≡ get_or p j (pos 0) +ℤ (negsuc 0 *ℤ get_or p i (pos 0)) +ℤ k
value-difference i j k p =
    let v = value_at-combined (pos 1) (column_form (j + 1) j) (negsuc 0) (column_form (i + 1) i) p in
    let a = column-value i p in
    let b = column-value j p in
    let w : value_at (combined (pos 1) (column_form (j + 1) j) (negsuc 0) (column_form (i + 1) i)) p ≡ pos 1 *ℤ get_or p j (pos 0) +ℤ negsuc 0 *ℤ get_or p i (pos 0) = v ∙ (λ t. pos 1 *ℤ b t +ℤ negsuc 0 *ℤ a t) in
    omega (arith, ints, w)

pub difference-within : (i j n : ℕ) (k : ℤ) → i < n → j < n → length (difference i j k).coefs ≤ n
difference-within i j n k a b =
    let l = length-mix (pos 1) (column_form (j + 1) j).coefs (negsuc 0) (column_form (i + 1) i).coefs in
    let c : length (column_form (i + 1) i).coefs ≤ i + 1 = narrow-column i in
    let d : length (column_form (j + 1) j).coefs ≤ j + 1 = narrow-column j in
    omega (arith, l, c, d)

-- its coefficients: -1 at column i and 1 at column j, or none where they are one column
abbrev unit : ℕ → List ℤ
unit k = replicate k (pos 0) ++ pos 1 ∷ []

unit-is : (k : ℕ) → (column_form (k + 1) k).coefs ≡ unit k
unit-is k = ap (λ n. replicate k (pos 0) ++ pos 1 ∷ replicate n (pos 0)) (no_more k)

first-alone : (j : ℕ) → mix (pos 1) (unit j) (negsuc 0) [] ≡ set (replicate (suc j) (pos 0)) j (pos 1)
first-alone zero = refl
first-alone (suc j) = ap (λ (xs : List ℤ). pos 0 ∷ xs) (first-alone j)

second-alone : (i : ℕ) → mix (pos 1) [] (negsuc 0) (unit i) ≡ set (replicate (suc i) (pos 0)) i (negsuc 0)
second-alone zero = refl
second-alone (suc i) = ap (λ (xs : List ℤ). pos 0 ∷ xs) (second-alone i)

below : (i j : ℕ) → i < j → mix (pos 1) (unit j) (negsuc 0) (unit i) ≡ set (set (replicate (suc j) (pos 0)) i (negsuc 0)) j (pos 1)
below i zero l = absurd (omega arith)
below zero (suc j) l = ap (λ (xs : List ℤ). negsuc 0 ∷ xs) (first-alone j)
below (suc i) (suc j) l = ap (λ (xs : List ℤ). pos 0 ∷ xs) (below i j (omega arith))

beyond : (i j : ℕ) → j < i → mix (pos 1) (unit j) (negsuc 0) (unit i) ≡ set (set (replicate (suc i) (pos 0)) i (negsuc 0)) j (pos 1)
beyond zero j l = absurd (omega arith)
beyond (suc i) zero l = ap (λ (xs : List ℤ). pos 1 ∷ xs) (second-alone i)
beyond (suc i) (suc j) l = ap (λ (xs : List ℤ). pos 0 ∷ xs) (beyond i j (omega arith))

one : (i : ℕ) → mix (pos 1) (unit i) (negsuc 0) (unit i) ≡ replicate (suc i) (pos 0)
one zero = refl
one (suc i) = ap (λ (xs : List ℤ). pos 0 ∷ xs) (one i)

made : (i j : ℕ) (k : ℤ) (cs : List ℤ) → mix (pos 1) (unit j) (negsuc 0) (unit i) ≡ cs → record { konst = k; coefs = cs } ≡ difference i j k
made i j k cs e =
    let c : mix (pos 1) (column_form (j + 1) j).coefs (negsuc 0) (column_form (i + 1) i).coefs ≡ cs = (λ t. mix (pos 1) (unit-is j t) (negsuc 0) (unit-is i t)) ∙ e in
    let z : k ≡ (pos 1 *ℤ pos 0 +ℤ negsuc 0 *ℤ pos 0) +ℤ k = omega (arith, ints) in
    λ t. record { konst = z t; coefs = sym c t }

pub made-below : (i j n : ℕ) (k : ℤ) (form : Affine) → i < j → n ≡ j + 1 → form ≡ record { konst = k; coefs = set (set (replicate n (pos 0)) i (negsuc 0)) j (pos 1) } → form ≡ difference i j k
made-below i j n k form l e f =
    let m : suc j ≡ n = omega (arith, e) in
    f ∙ made i j k (set (set (replicate n (pos 0)) i (negsuc 0)) j (pos 1)) (below i j l ∙ ap (λ x. set (set (replicate x (pos 0)) i (negsuc 0)) j (pos 1)) m)

pub made-beyond : (i j n : ℕ) (k : ℤ) (form : Affine) → ¬ (i ≡ j) → ¬ (i < j) → n ≡ i + 1 → form ≡ record { konst = k; coefs = set (set (replicate n (pos 0)) i (negsuc 0)) j (pos 1) } → form ≡ difference i j k
made-beyond i j n k form o l e f =
    let m : suc i ≡ n = omega (arith, e) in
    let g : j < i = grind (arith, o, l) in
    f ∙ made i j k (set (set (replicate n (pos 0)) i (negsuc 0)) j (pos 1)) (beyond i j g ∙ ap (λ x. set (set (replicate x (pos 0)) i (negsuc 0)) j (pos 1)) m)

pub made-one : (i j n : ℕ) (k : ℤ) (form : Affine) → i ≡ j → n ≡ i + 1 → form ≡ constant_form n k → form ≡ difference i j k
made-one i j n k form o e f =
    let m : suc i ≡ n = omega (arith, e) in
    f ∙ made i i k (replicate n (pos 0)) (one i ∙ ap (λ x. replicate x (pos 0)) m) ∙ ap (λ x. difference i x k) o

pub ruleset difference_steps = (made-below, made-beyond, made-one)

minus : (f g : Affine) (p : List ℤ) → value_at (combined (pos 1) f (negsuc 0) g) p ≡ value_at f p +ℤ negsuc 0 *ℤ value_at g p
minus f g p = let e = value_at-combined (pos 1) f (negsuc 0) g p in omega (arith, ints, e)

head_of : (x y : ℤ) (xs ys : List ℤ) → (x ∷ xs) ≡ (y ∷ ys) → (x ≡ y) × (xs ≡ ys)
head_of x y xs ys e = (cc, cc)

pub equalities_hold : EqualitiesAreEqualValues
equalities_hold [] [] p h = ((λ _. refl), (λ _. tt))
equalities_hold [] (g ∷ gs) p h = absurd (omega arith)
equalities_hold (f ∷ fs) [] p h = absurd (omega arith)
equalities_hold (f ∷ fs) (g ∷ gs) p h =
    let again = equalities_hold fs gs p (omega arith) in
    let v = minus f g p in (
      (λ m. let a : value_at (combined (pos 1) f (negsuc 0) g) p ≡ pos 0 = m.0 in
          let e : value_at f p ≡ value_at g p = omega (arith, ints, v) in let r = again.0 m.1 in λ i. e i ∷ r i),
      (λ e. let s = head_of (value_at f p) (value_at g p) (values_at p fs) (values_at p gs) e in
          let a : value_at f p ≡ value_at g p = s.0 in
          (omega (arith, ints, v), again.1 s.1)),
    )
