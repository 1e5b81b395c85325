-- The common modulus, one row further.
use Rattle.std.proofs.Common.{◌≡◌, ℕ, ◌+◌, ◌<◌, ◌≤◌, ◌^◌, ℤ, pos, negsuc, ◌≤ℤ◌, List, [], ◌∷◌, drop, length, get_or, true, false, cond, arith, refl, ap, sym, ◌∙◌}
use Rattle.std.specs.Prelude.{unsigned_abs}
use Rattle.std.proofs.lemmas.Int.{ints}
use Rattle.std.proofs.lemmas.List.{at_drop_more}
use Rattle.ac_forms.specs.Fits.{Fits}
use Rattle.ac_forms.specs.Rows.{HasModulus, HaveModuli}
use Rattle.ac_forms.specs.declared.row.Row.{Row}
use Rattle.ac_forms.specs.declared.row.Row.TheVariants.{Eq, Div, Ge}
use Rattle.ac_forms.specs.RowColumns.{has_column}
use Rattle.ac_omega_certify.specs.Alternatives.{lcm, common_modulus}
use Rattle.ac_omega.proofs.CommonMultiples.{lcm-positive, lcm-grows}

pub drop-at : {A : Type 0} (xs : List A) (i : ℕ) (x : A) → i < length xs → x ≡ get_or xs i x → drop i xs ≡ x ∷ drop (i + 1) xs
drop-at xs i x h e = at_drop_more (λ y. y) xs i x h ∙ ap (λ y. y ∷ drop (i + 1) xs) (sym e)

pub common-cons : (z m : ℕ) (r : Row) (rs : List Row) → common_modulus z m (r ∷ rs) ≡ common_modulus z (common_modulus z m (r ∷ [])) rs
common-cons z m (Eq f) rs = refl
common-cons z m (Div n f) rs = refl
common-cons z m (Ge f) rs = refl

pub size_positive : (n : ℤ) → pos 1 ≤ℤ n → 0 < unsigned_abs n
size_positive (pos n) h = omega (arith, ints)
size_positive (negsuc n) h = omega (arith, ints)

-- one modulus more: the number stays positive and does not fall
pub row-grows : (z m : ℕ) (r : Row) → 0 < m → HasModulus r → (0 < common_modulus z m (r ∷ [])) × (m ≤ common_modulus z m (r ∷ []))
row-grows z m (Eq f) p h = (p, omega arith)
row-grows z m (Div n f) p h =
    elim (has_column z (Div n f)) as (λ t. (0 < cond t (lcm m (unsigned_abs n)) m) × (m ≤ cond t (lcm m (unsigned_abs n)) m)) [
      | true ↦ (lcm-positive m (unsigned_abs n) p (size_positive n h), lcm-grows m (unsigned_abs n) p (size_positive n h))
      | false ↦ (p, omega arith)
    ]
row-grows z m (Ge f) p h = (p, omega arith)

pub common-grows : (z m : ℕ) (rs : List Row) → 0 < m → HaveModuli rs → (0 < common_modulus z m rs) × (m ≤ common_modulus z m rs)
common-grows z m [] p h = (p, omega arith)
common-grows z m (r ∷ rs) p h =
    let s = row-grows z m r p h.0 in
    let t = common-grows z (common_modulus z m (r ∷ [])) rs s.0 h.1 in
    rw (common-cons z m r rs) (t.0, omega arith)

-- where one more modulus leads too far, so does the whole
pub modulus-wide : (z m i : ℕ) (rows : List Row) (r : Row) → i < length rows → r ≡ get_or rows i r → common_modulus z 1 rows ≡ common_modulus z m (drop i rows) → 0 < m → HaveModuli (drop i rows) → ¬ (common_modulus z m (r ∷ []) < 2 ^ 128)
    → ¬ Fits (pos (common_modulus z 1 rows))
modulus-wide z m i rows r h e is p moduli wide f =
    let d = drop-at rows i r h e in
    let all = rw d at moduli in
    let s = row-grows z m r p all.0 in
    let t = common-grows z (common_modulus z m (r ∷ [])) (drop (i + 1) rows) s.0 all.1 in
    let whole = rw (d, common-cons z m r (drop (i + 1) rows)) at is in
    wide (omega (arith, f.sfits, whole, t.1))

pub modulus-more : (z m i next : ℕ) (rows : List Row) (r : Row) → i < length rows → r ≡ get_or rows i r → common_modulus z 1 rows ≡ common_modulus z m (drop i rows) → 0 < m → HaveModuli (drop i rows) → next ≡ common_modulus z m (r ∷ [])
    → (common_modulus z 1 rows ≡ common_modulus z next (drop (i + 1) rows)) × (0 < next) × HaveModuli (drop (i + 1) rows)
modulus-more z m i next rows r h e is p moduli n =
    let d = drop-at rows i r h e in
    let all = rw d at moduli in
    rw n (rw (d, common-cons z m r (drop (i + 1) rows)) at is, (row-grows z m r p all.0).0, all.1)
