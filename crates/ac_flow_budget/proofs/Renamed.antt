-- Rows of differences among other columns are rows of differences.
use Rattle.std.proofs.Common.{◌≡◌, ℕ, zero, suc, ◌+◌, ◌≤◌, lit<, nat_eq, cond, Bool, true, false, ℤ, pos, ◌+ℤ◌, ◌-ℤ◌, List, [], ◌∷◌, get_or, Option, Some, None, arith, refl, ap, sym, ◌∙◌, subst, eq-eqb}
use Rattle.std.specs.Prelude.{unsigned_abs}
use Rattle.std.proofs.lemmas.Int.{ints}
use borrow.Author.Tests.{eqb-true}
use Rattle.ac_forms.specs.Affine.{Affine, coef}
use Rattle.ac_forms.specs.Fits.{fits}
use Rattle.ac_forms.specs.Renaming.{add_at, renamed_coefs, renamed, sums_fit, renaming, rows_renaming}
use Rattle.ac_forms.specs.declared.row.Row.{Row}
use Rattle.ac_forms.specs.declared.row.Row.TheVariants.{Eq, Div, Ge}
use Rattle.ac_omega.specs.DifferenceRows.{one_in, IsDifference, AreDifferences}
use Rattle.ac_omega.proofs.DifferenceForms.{weight, weight-two}
use Rattle.ac_omega.proofs.DifferenceNormals.{nothing-at, fits-within, both-true}
use Rattle.ac_flow_budget.specs.Models.{IsShifted}
use Rattle.ac_omega.proofs.DifferenceSweeps.{differ}

-- ---- one more at a column

at-same : (k : ℕ) (c : ℤ) (xs : List ℤ) → get_or (add_at k c xs) k (pos 0) ≡ get_or xs k (pos 0) +ℤ c
at-same zero c [] = omega (arith, ints)
at-same zero c (x ∷ xs) = refl
at-same (suc k) c [] = at-same k c [] ∙ ap (λ (x : ℤ). x +ℤ c) (nothing-at k)
at-same (suc k) c (x ∷ xs) = at-same k c xs

at-other : (k j : ℕ) (c : ℤ) (xs : List ℤ) → (k ≡ j → ⊥) → get_or (add_at k c xs) j (pos 0) ≡ get_or xs j (pos 0)
at-other zero zero c xs h = absurd (h refl)
at-other zero (suc j) c [] h = nothing-at j
at-other zero (suc j) c (x ∷ xs) h = refl
at-other (suc k) zero c [] h = refl
at-other (suc k) zero c (x ∷ xs) h = refl
at-other (suc k) (suc j) c [] h = at-other k j c [] (λ e. h (ap suc e)) ∙ nothing-at j
at-other (suc k) (suc j) c (x ∷ xs) h = at-other k j c xs (λ e. h (ap suc e))

plus-none : (x : ℤ) → x ≡ x +ℤ pos 0
plus-none x = omega (arith, ints)

at-add : (k j : ℕ) (c : ℤ) (xs : List ℤ) → get_or (add_at k c xs) j (pos 0) ≡ get_or xs j (pos 0) +ℤ cond (nat_eq k j) c (pos 0)
at-add k j c xs = by (nat_eq k j) refl
  where
    by : (t : Bool) → nat_eq k j ≡ t → get_or (add_at k c xs) j (pos 0) ≡ get_or xs j (pos 0) +ℤ cond t c (pos 0)
    by true e = subst (λ (i : ℕ). get_or (add_at k c xs) i (pos 0) ≡ get_or xs i (pos 0) +ℤ c) (eqb-true k j e) (at-same k c xs)
    by false e = at-other k j c xs (λ s. differ (eq-eqb k j s) e) ∙ plus-none (get_or xs j (pos 0))

-- ---- all that goes to a column

abbrev spread : List ℕ → (ℕ → ℤ) → ℕ → ℤ
spread [] c j = pos 0
spread (k ∷ ks) c j = spread ks (λ i. c (suc i)) j +ℤ cond (nat_eq k j) (c 0) (pos 0)

cond-none : (t : Bool) (x : ℤ) → x ≡ pos 0 → cond t x (pos 0) ≡ pos 0
cond-none true x e = e
cond-none false x e = refl

sum-none : (x y : ℤ) → x ≡ pos 0 → y ≡ pos 0 → x +ℤ y ≡ pos 0
sum-none x y e f = omega (arith, ints)

spread-none : (ks : List ℕ) (c : ℕ → ℤ) (j : ℕ) → ((i : ℕ) → c i ≡ pos 0) → spread ks c j ≡ pos 0
spread-none [] c j h = refl
spread-none (k ∷ ks) c j h = sum-none _ _ (spread-none ks (λ i. c (suc i)) j (λ i. h (suc i))) (cond-none (nat_eq k j) (c 0) (h 0))

less-at : (t : Bool) (x y z c a b : ℤ) → x ≡ y -ℤ z → c ≡ a -ℤ b → x +ℤ cond t c (pos 0) ≡ (y +ℤ cond t a (pos 0)) -ℤ (z +ℤ cond t b (pos 0))
less-at true x y z c a b e f = omega (arith, ints)
less-at false x y z c a b e f = omega (arith, ints)

spread-less : (ks : List ℕ) (c a b : ℕ → ℤ) (j : ℕ) → ((i : ℕ) → c i ≡ a i -ℤ b i) → spread ks c j ≡ spread ks a j -ℤ spread ks b j
spread-less [] c a b j h = refl
spread-less (k ∷ ks) c a b j h = less-at (nat_eq k j) _ _ _ (c 0) (a 0) (b 0) (spread-less ks (λ i. c (suc i)) (λ i. a (suc i)) (λ i. b (suc i)) j (λ i. h (suc i))) (h 0)

spread-same : (ks : List ℕ) (c a : ℕ → ℤ) (j : ℕ) → ((i : ℕ) → c i ≡ a i) → spread ks c j ≡ spread ks a j
spread-same [] c a j h = refl
spread-same (k ∷ ks) c a j h =
    ap (λ (x : ℤ). x +ℤ cond (nat_eq k j) (c 0) (pos 0)) (spread-same ks (λ i. c (suc i)) (λ i. a (suc i)) j (λ i. h (suc i))) ∙ ap (λ (x : ℤ). spread ks (λ i. a (suc i)) j +ℤ cond (nat_eq k j) x (pos 0)) (h 0)

pub renamed-at : (ks : List ℕ) (cs : List ℤ) (j : ℕ) → get_or (renamed_coefs ks cs) j (pos 0) ≡ spread ks (λ i. get_or cs i (pos 0)) j
renamed-at [] cs j = nothing-at j
renamed-at (k ∷ ks) [] j = nothing-at j ∙ sym (spread-none (k ∷ ks) (λ i. get_or [] i (pos 0)) j (λ i. nothing-at i))
renamed-at (k ∷ ks) (c ∷ cs) j = at-add k j c (renamed_coefs ks cs) ∙ ap (λ (x : ℤ). x +ℤ cond (nat_eq k j) c (pos 0)) (renamed-at ks cs j)

-- where a column goes
moved : List ℕ → Option ℕ → Option ℕ
moved [] o = None
moved (k ∷ ks) None = None
moved (k ∷ ks) (Some zero) = Some k
moved (k ∷ ks) (Some (suc x)) = moved ks (Some x)

pub first-first : one_in (Some 0) 0 ≡ pos 1
first-first = refl

pub first-later : (i : ℕ) → one_in (Some 0) (suc i) ≡ pos 0
first-later i = let e : nat_eq 0 (suc i) ≡ false = grind arith in rw e refl

pub later-first : (x : ℕ) → one_in (Some (suc x)) 0 ≡ pos 0
later-first x = let e : nat_eq (suc x) 0 ≡ false = grind arith in rw e refl

pub later-later : (x i : ℕ) → one_in (Some (suc x)) (suc i) ≡ one_in (Some x) i
later-later x i = let e : nat_eq (suc x) (suc i) ≡ nat_eq x i = grind arith in rw e refl

none-plus : (x y : ℤ) → x ≡ pos 0 → x +ℤ y ≡ y
none-plus x y e = omega (arith, ints)

spread-one : (ks : List ℕ) (o : Option ℕ) (j : ℕ) → spread ks (one_in o) j ≡ one_in (moved ks o) j
unfolding moved
spread-one [] o j = refl
spread-one (k ∷ ks) None j = spread-none (k ∷ ks) (one_in None) j (λ i. refl)
spread-one (k ∷ ks) (Some zero) j =
    none-plus _ _ (spread-none ks (λ i. one_in (Some 0) (suc i)) j (λ i. first-later i)) ∙ ap (λ (x : ℤ). cond (nat_eq k j) x (pos 0)) first-first
spread-one (k ∷ ks) (Some (suc x)) j =
    ap (λ (y : ℤ). y +ℤ cond (nat_eq k j) (one_in (Some (suc x)) 0) (pos 0)) (spread-same ks (λ i. one_in (Some (suc x)) (suc i)) (one_in (Some x)) j (λ i. later-later x i) ∙ spread-one ks (Some x) j)
    ∙ ap (λ (y : ℤ). one_in (moved ks (Some x)) j +ℤ y) (cond-none (nat_eq k j) (one_in (Some (suc x)) 0) (later-first x)) ∙ sym (plus-none (one_in (moved ks (Some x)) j))

pub renamed-difference : (ks : List ℕ) (f : Affine) → IsDifference (λ z. coef z f) → IsDifference (λ z. coef z (renamed ks f))
renamed-difference ks f h = record {
  plus = moved ks h.plus;
  minus = moved ks h.minus;
  is = λ j. renamed-at ks f.coefs j ∙ spread-less ks (λ z. coef z f) (one_in h.plus) (one_in h.minus) j h.is
      ∙ ap (λ (x : ℤ). x -ℤ spread ks (one_in h.minus) j) (spread-one ks h.plus j) ∙ ap (λ (x : ℤ). one_in (moved ks h.plus) j -ℤ x) (spread-one ks h.minus j);
}

pub renamed-shifted : (ks : List ℕ) (b : ℕ) (f : Affine) → IsShifted b f → IsShifted b (renamed ks f)
renamed-shifted ks b f h = record {
  column = moved ks h.column;
  is = λ j. renamed-at ks f.coefs j ∙ spread-same ks (λ z. coef z f) (one_in h.column) j h.is ∙ spread-one ks h.column j;
  small = h.small;
}

-- ---- the sums stay in `i128`

cond-small : (t : Bool) (x c : ℤ) (n : ℕ) → unsigned_abs x ≤ n → unsigned_abs (x +ℤ cond t c (pos 0)) ≤ unsigned_abs c + n
cond-small true x c n l = omega (arith, ints)
cond-small false x c n l = omega (arith, ints)

zero-small : (x : ℤ) (n : ℕ) → x ≡ pos 0 → unsigned_abs x ≤ n
zero-small x n e = omega (arith, ints)

renamed-weight : (ks : List ℕ) (cs : List ℤ) (j : ℕ) → unsigned_abs (get_or (renamed_coefs ks cs) j (pos 0)) ≤ weight cs
renamed-weight [] cs j = zero-small _ (weight cs) (nothing-at j)
renamed-weight (k ∷ ks) [] j = zero-small _ 0 (nothing-at j)
renamed-weight (k ∷ ks) (c ∷ cs) j = rw (at-add k j c (renamed_coefs ks cs)) (cond-small (nat_eq k j) (get_or (renamed_coefs ks cs) j (pos 0)) c (weight cs) (renamed-weight ks cs j))

sum-small : (x c : ℤ) (n : ℕ) → unsigned_abs x ≤ n → unsigned_abs (x +ℤ c) ≤ unsigned_abs c + n
sum-small x c n l = omega (arith, ints)

sums-fit : (ks : List ℕ) (cs : List ℤ) → weight cs ≤ 2 → sums_fit ks cs ≡ true
sums-fit [] cs l = refl
sums-fit (k ∷ ks) [] l = refl
sums-fit (k ∷ ks) (c ∷ cs) l =
    let s = sum-small (get_or (renamed_coefs ks cs) k (pos 0)) c (weight cs) (renamed-weight ks cs k) in
    both-true (sums_fit ks cs) (fits (get_or (renamed_coefs ks cs) k (pos 0) +ℤ c)) (sums-fit ks cs (omega arith)) (fits-within (get_or (renamed_coefs ks cs) k (pos 0) +ℤ c) 2 (omega (arith, s)) (lit< tt))

pub renaming-made : (ks : List ℕ) (f : Affine) → IsDifference (λ z. coef z f) → renaming ks f ≡ Some (renamed ks f)
renaming-made ks f h = let e = sums-fit ks f.coefs (weight-two f.coefs h) in rw e refl

-- ---- rows

pub record Renames (b : ℕ) (ks : List ℕ) (rs : List Row) : Type 0 where
  pub rows : List Row
  pub is : rows_renaming ks rs ≡ Some rows
  pub differences : AreDifferences b rows

pub renames : (b : ℕ) (ks : List ℕ) (rs : List Row) → AreDifferences b rs → Renames b ks rs
renames b ks [] d = record { rows = []; is = refl; differences = tt }
renames b ks (Eq f ∷ rs) d =
    let r = renames b ks rs d.1 in
    let e = renaming-made ks f d.0.0 in
    record { rows = Eq (renamed ks f) ∷ r.rows; is = rw (e, r.is) refl; differences = ((renamed-difference ks f d.0.0, d.0.1), r.differences) }
renames b ks (Div m f ∷ rs) d = absurd d.0
renames b ks (Ge f ∷ rs) d =
    let r = renames b ks rs d.1 in
    let e = renaming-made ks f d.0.0 in
    record { rows = Ge (renamed ks f) ∷ r.rows; is = rw (e, r.is) refl; differences = ((renamed-difference ks f d.0.0, d.0.1), r.differences) }
