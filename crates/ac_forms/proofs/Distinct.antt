-- Renamings as values that may be missing, and renamings to columns of which none stands twice.
use Rattle.std.proofs.Common.{◌≡◌, ◌↔◌, ℕ, zero, suc, ℤ, pos, ◌+ℤ◌, List, [], ◌∷◌, map, get_or, Bool, true, false, cond, Option, Some, None, refl, ap, ◌∙◌, arith}
use Rattle.std.specs.Prelude.{option_map, option_and_then}
use Rattle.std.proofs.lemmas.Int.{ints}
use Rattle.ac_forms.specs.Affine.{Affine, value_at}
use Rattle.ac_forms.specs.Fits.{AllFit, fits}
use Rattle.ac_forms.specs.Renaming.{add_at, renamed_coefs, renamed, with_form, renamed_row, picked, AreColumns, IsApartFrom, AreDistinct, SumsFit, sums_fit, renaming, row_renaming, rows_renaming}
use Rattle.ac_forms.specs.Rows.{form_of, Holds, Meets, HaveModuli, AreRowsOver}
use Rattle.ac_forms.specs.declared.row.Row.{Row}
use Rattle.ac_forms.proofs.Renamings.{value-renamed, holds-renamed, meets-renamed, rows-over}
use Rattle.ac_forms.proofs.Twins.{fits-is, and-is}

pub sums_fit-is : (ks : List ℕ) (cs : List ℤ) → (sums_fit ks cs ≡ true) ↔ SumsFit ks cs
sums_fit-is [] cs = ((λ _. tt), (λ _. refl))
sums_fit-is (k ∷ ks) [] = ((λ _. tt), (λ _. refl))
sums_fit-is (k ∷ ks) (c ∷ cs) =
    and-is (sums_fit ks cs) (fits (get_or (renamed_coefs ks cs) k (pos 0) +ℤ c)) (sums_fit-is ks cs) (fits-is (get_or (renamed_coefs ks cs) k (pos 0) +ℤ c))

some_of : {A : Type 0} (b : Bool) (x y : A) → cond b (Some x) None ≡ Some y → y ≡ x
some_of true x y e = cc
some_of false x y e = absurd cc

renaming-is : (ks : List ℕ) (f g : Affine) → renaming ks f ≡ Some g → g ≡ renamed ks f
renaming-is ks f g e = some_of (sums_fit ks f.coefs) (renamed ks f) g e

pub renaming-value : (ks : List ℕ) (f g : Affine) (p : List ℤ) → renaming ks f ≡ Some g → value_at g p ≡ value_at f (picked ks p)
renaming-value ks f g p e = ap (λ (x : Affine). value_at x p) (renaming-is ks f g e) ∙ value-renamed ks f p

map-of : {A B : Type 0} (o : Option A) (f : A → B) (z : B) → option_map f o ≡ Some z → (x : A) × (o ≡ Some x) × (z ≡ f x)
map-of None f z e = absurd cc
map-of (Some x) f z e = (x, refl, cc)

bind-of : {A B : Type 0} (o : Option A) (f : A → Option B) (z : B) → option_and_then f o ≡ Some z → (x : A) × (o ≡ Some x) × (f x ≡ Some z)
bind-of None f z e = absurd cc
bind-of (Some x) f z e = (x, refl, e)

row_renaming-is : (ks : List ℕ) (r s : Row) → row_renaming ks r ≡ Some s → s ≡ renamed_row ks r
row_renaming-is ks r s e =
    let b = map-of (renaming ks (form_of r)) (with_form r) s e in
    b.2 ∙ ap (with_form r) (renaming-is ks (form_of r) b.0 b.1)

pub row_renaming-points : (ks : List ℕ) (r s : Row) (p : List ℤ) → row_renaming ks r ≡ Some s → Holds s p ↔ Holds r (picked ks p)
row_renaming-points ks r s p e = rw (row_renaming-is ks r s e) (holds-renamed ks r p)

rows_renaming-is : (ks : List ℕ) (rs ss : List Row) → rows_renaming ks rs ≡ Some ss → ss ≡ map (renamed_row ks) rs
rows_renaming-is ks [] ss e = cc
rows_renaming-is ks (r ∷ rs) ss e =
    let b = bind-of (row_renaming ks r) (λ s. option_map (λ ss. s ∷ ss) (rows_renaming ks rs)) ss e in
    let d = map-of (rows_renaming ks rs) (λ ss. b.0 ∷ ss) ss b.2 in
    d.2 ∙ ap (λ (x : Row). x ∷ d.0) (row_renaming-is ks r b.0 b.1) ∙ ap (λ (xs : List Row). renamed_row ks r ∷ xs) (rows_renaming-is ks rs d.0 d.1)

pub rows_renaming-points : (ks : List ℕ) (rs ss : List Row) (p : List ℤ) → rows_renaming ks rs ≡ Some ss → Meets ss p ↔ Meets rs (picked ks p)
rows_renaming-points ks rs ss p e = rw (rows_renaming-is ks rs ss e) (meets-renamed ks rs p)

pub rows_renaming-over : (ks : List ℕ) (n : ℕ) (rs ss : List Row) → AreColumns n ks → HaveModuli rs → rows_renaming ks rs ≡ Some ss → AreRowsOver n ss
rows_renaming-over ks n rs ss h m e = rw (rows_renaming-is ks rs ss e) (rows-over ks rs n h m)

-- ---- no column twice

get-other : (k j : ℕ) (c : ℤ) (xs : List ℤ) → (j ≡ k → ⊥) → get_or (add_at k c xs) j (pos 0) ≡ get_or xs j (pos 0)
get-other zero zero c xs h = absurd (h refl)
get-other zero (suc j) c [] h = refl
get-other zero (suc j) c (x ∷ xs) h = refl
get-other (suc k) zero c [] h = refl
get-other (suc k) zero c (x ∷ xs) h = refl
get-other (suc k) (suc j) c [] h = get-other k j c [] (λ e. h (ap suc e))
get-other (suc k) (suc j) c (x ∷ xs) h = get-other k j c xs (λ e. h (ap suc e))

none-at : (j : ℕ) (ks : List ℕ) (cs : List ℤ) → IsApartFrom j ks → get_or (renamed_coefs ks cs) j (pos 0) ≡ pos 0
none-at j [] cs h = refl
none-at j (k ∷ ks) [] h = refl
none-at j (k ∷ ks) (c ∷ cs) h = get-other k j c (renamed_coefs ks cs) h.0 ∙ none-at j ks cs h.1

pub distinct-fits : (ks : List ℕ) (cs : List ℤ) → AreDistinct ks → AllFit cs → SumsFit ks cs
distinct-fits [] cs h f = tt
distinct-fits (k ∷ ks) [] h f = tt
distinct-fits (k ∷ ks) (c ∷ cs) h f =
    let e : get_or (renamed_coefs ks cs) k (pos 0) +ℤ c ≡ c = rw (none-at k ks cs h.0) (alone c) in
    (distinct-fits ks cs h.1 f.1, rw e f.0)
  where
    alone : (c : ℤ) → pos 0 +ℤ c ≡ c
    alone c = omega (arith, ints)
