-- The values of forms and rows among the columns of a path.
use Rattle.std.proofs.Common.{◌≡◌, ℕ, zero, suc, ◌+◌, ◌-◌, ◌≤◌, ℤ, pos, negsuc, ◌-ℤ◌, List, [], ◌∷◌, ◌++◌, length, replicate, get_or, Option, Some, refl, subst, arith}
use Rattle.std.specs.Prelude.{option_and_then, option_map, ◌↔◌}
use Rattle.std.proofs.lemmas.Int.{ints}
use Rattle.std.proofs.lemmas.List.{map-append}
use Rattle.ac_base.specs.Dot.{dot}
use Rattle.ac_forms.specs.Affine.{Affine, value_at, column_form}
use Rattle.ac_forms.specs.Rows.{Meets, HaveModuli, AreRowsOver}
use Rattle.ac_forms.specs.declared.row.Row.{Row}
use Rattle.ac_forms.specs.declared.row.Row.TheVariants.{Eq}
use Rattle.ac_poly.specs.ModelMeaning.{values_at}
use Rattle.ac_omega_steps.specs.Combination.{combination}
use Rattle.ac_omega_steps.proofs.Keeping.{combination-value, combination-within}
use Rattle.ac_base.proofs.Options.{bind-some, map-some, some-is, if-some}
use Rattle.ac_forms.specs.Renaming.{picked, renamed, sums_fit, renaming, rows_renaming, AreColumns}
use Rattle.ac_forms.proofs.Renamings.{form-within}
use Rattle.ac_forms.proofs.Distinct.{renaming-value, rows_renaming-points, rows_renaming-over}
use Rattle.ac_claims_paths.specs.PathColumns.{all_of, appended, difference, equal_forms}
use Rattle.ac_poly.proofs.Differences.{no_more, dot-unit, column-value}

pub pick-append : (ks ls : List ℕ) (p : List ℤ) → picked (ks ++ ls) p ≡ picked ks p ++ picked ls p
pick-append ks ls p = map-append (λ k. get_or p k (pos 0)) ks ls

-- columns that are there
abbrev pub InColumns : List ℕ → ℕ → Type 0
InColumns ks n = AreColumns n ks

-- a form among other columns
pub moved-value : (ks : List ℕ) (f g : Affine) (p : List ℤ) → renaming ks f ≡ Some g → value_at g p ≡ value_at f (picked ks p)
moved-value ks f g p e = renaming-value ks f g p e

pub moved-within : (ks : List ℕ) (f g : Affine) (n : ℕ) → InColumns ks n → renaming ks f ≡ Some g → length g.coefs ≤ n
moved-within ks f g n w e =
    let b = if-some (sums_fit ks f.coefs) (Some (renamed ks f)) g e in
    subst (λ (x : Affine). length x.coefs ≤ n) (some-is (renamed ks f) g b.1) (form-within ks f n w)

-- the first of several and the rest
pub all-cons : {A : Type 0} (o : Option A) (os : List (Option A)) (zs : List A) → all_of (o ∷ os) ≡ Some zs → (x : A) × (xs : List A) × (o ≡ Some x) × (all_of os ≡ Some xs) × (zs ≡ x ∷ xs)
all-cons o os zs e =
    let b = bind-some o (λ x. option_map (λ xs. x ∷ xs) (all_of os)) zs e in
    let c = map-some (all_of os) (λ xs. b.0 ∷ xs) zs b.2 in
    (b.0, c.0, b.1, c.1, c.2)

pub rows-value : (ks : List ℕ) (rs ss : List Row) (p : List ℤ) → rows_renaming ks rs ≡ Some ss → Meets ss p ↔ Meets rs (picked ks p)
rows-value ks rs ss p e = rows_renaming-points ks rs ss p e

pub rows-within : (ks : List ℕ) (rs ss : List Row) (n : ℕ) → InColumns ks n → HaveModuli rs → rows_renaming ks rs ≡ Some ss → AreRowsOver n ss
rows-within ks rs ss n w h e = rows_renaming-over ks n rs ss w h e

-- the parts of two lists of rows
pub appended-parts : (a b : Option (List Row)) (zs : List Row) → appended a b ≡ Some zs → (xs : List Row) × (ys : List Row) × (a ≡ Some xs) × (b ≡ Some ys) × (zs ≡ xs ++ ys)
appended-parts a b zs e =
    let x = bind-some a (λ x. option_map (λ y. x ++ y) b) zs e in
    let y = map-some b (λ y. x.0 ++ y) zs x.2 in
    (x.0, y.0, x.1, y.1, y.2)

pub meets-both : (rs ss : List Row) (p : List ℤ) → Meets rs p → Meets ss p → Meets (rs ++ ss) p
meets-both [] ss p a b = b
meets-both (r ∷ rs) ss p a b = (a.0, meets-both rs ss p a.1 b)

pub meets-parts : (rs ss : List Row) (p : List ℤ) → Meets (rs ++ ss) p → Meets rs p × Meets ss p
meets-parts [] ss p h = (tt, h)
meets-parts (r ∷ rs) ss p h = let t = meets-parts rs ss p h.1 in ((h.0, t.0), t.1)

pub made-both : (n : ℕ) (rs ss : List Row) → AreRowsOver n rs → AreRowsOver n ss → AreRowsOver n (rs ++ ss)
made-both n [] ss a b = b
made-both n (r ∷ rs) ss a b = (a.0, made-both n rs ss a.1 b)

pub difference-value : (ks : List ℕ) (f : Affine) (ls : List ℕ) (g e : Affine) (p : List ℤ) → difference ks f ls g ≡ Some e → value_at e p ≡ value_at f (picked ks p) -ℤ value_at g (picked ls p)
difference-value ks f ls g e p i =
    let a = bind-some (renaming ks f) (λ x. option_and_then (λ y. combination (pos 1) x (negsuc 0) y) (renaming ls g)) e i in
    let b = bind-some (renaming ls g) (λ y. combination (pos 1) a.0 (negsuc 0) y) e a.2 in
    let v = combination-value (pos 1) a.0 (negsuc 0) b.0 e p b.2 in
    let x = moved-value ks f a.0 p a.1 in
    let y = moved-value ls g b.0 p b.1 in
    omega (arith, ints, v, x, y)

difference-within : (ks : List ℕ) (f : Affine) (ls : List ℕ) (g e : Affine) (n : ℕ) → InColumns ks n → InColumns ls n → difference ks f ls g ≡ Some e → length e.coefs ≤ n
difference-within ks f ls g e n w u i =
    let a = bind-some (renaming ks f) (λ x. option_and_then (λ y. combination (pos 1) x (negsuc 0) y) (renaming ls g)) e i in
    let b = bind-some (renaming ls g) (λ y. combination (pos 1) a.0 (negsuc 0) y) e a.2 in
    combination-within (pos 1) a.0 (negsuc 0) b.0 e n b.2 (moved-within ks f a.0 n w a.1) (moved-within ls g b.0 n u b.1)

equal-parts : (ks : List ℕ) (f : Affine) (fs : List Affine) (ls : List ℕ) (g : Affine) (gs : List Affine) (rows : List Row) → equal_forms ks (f ∷ fs) ls (g ∷ gs) ≡ Some rows
    → (e : Affine) × (rest : List Row) × (difference ks f ls g ≡ Some e) × (equal_forms ks fs ls gs ≡ Some rest) × (rows ≡ Eq e ∷ rest)
equal-parts ks f fs ls g gs rows e =
    let a = bind-some (difference ks f ls g) (λ e. option_map (λ rows. Eq e ∷ rows) (equal_forms ks fs ls gs)) rows e in
    let b = map-some (equal_forms ks fs ls gs) (λ rows. Eq a.0 ∷ rows) rows a.2 in
    (a.0, b.0, a.1, b.1, b.2)

two : {x y : ℤ} {xs ys : List ℤ} → x ≡ y → xs ≡ ys → x ∷ xs ≡ y ∷ ys
two a b = λ i. a i ∷ b i

-- the equalities hold exactly where all values are equal
pub equal-values : (ks : List ℕ) (fs : List Affine) (ls : List ℕ) (gs : List Affine) (rows : List Row) (p : List ℤ) → equal_forms ks fs ls gs ≡ Some rows → Meets rows p ↔ (values_at (picked ks p) fs ≡ values_at (picked ls p) gs)
equal-values ks [] ls [] rows p e = let i : [] ≡ rows = some-is [] rows e in rw (← i) (λ h. refl, λ h. tt)
equal-values ks [] ls (g ∷ gs) rows p e = absurd cc
equal-values ks (f ∷ fs) ls [] rows p e = absurd cc
equal-values ks (f ∷ fs) ls (g ∷ gs) rows p e =
    let b = equal-parts ks f fs ls g gs rows e in
    let v = difference-value ks f ls g b.0 p b.2 in
    let w = equal-values ks fs ls gs b.1 p b.3 in
    rw b.4 (
      λ h. let k : value_at b.0 p ≡ pos 0 = h.0 in two (omega (arith, ints, v, k)) (w.0 h.1),
      λ h.
          let i : value_at f (picked ks p) ≡ value_at g (picked ls p) = cc in
          let j : values_at (picked ks p) fs ≡ values_at (picked ls p) gs = cc in
          (omega (arith, ints, v, i), w.1 j),
    )

pub equal-within : (ks : List ℕ) (fs : List Affine) (ls : List ℕ) (gs : List Affine) (rows : List Row) (n : ℕ) → InColumns ks n → InColumns ls n → equal_forms ks fs ls gs ≡ Some rows → AreRowsOver n rows
equal-within ks [] ls [] rows n w u e = let i : [] ≡ rows = some-is [] rows e in rw (← i) tt
equal-within ks [] ls (g ∷ gs) rows n w u e = absurd cc
equal-within ks (f ∷ fs) ls [] rows n w u e = absurd cc
equal-within ks (f ∷ fs) ls (g ∷ gs) rows n w u e =
    let b = equal-parts ks f fs ls g gs rows e in
    rw b.4 ((difference-within ks f ls g b.0 n w u b.2, tt), equal-within ks fs ls gs b.1 n w u b.3)
