-- Rows over columns that stand in their order, from the first one on, are the same rows.
use Rattle.std.proofs.Common.{◌≡◌, inl, inr, ℕ, zero, suc, ◌+◌, ◌≤◌, ℤ, pos, ◌+ℤ◌, List, [], ◌∷◌, ◌++◌, length, get_or, true, cond, Option, Some, None, refl, sym, ap, ◌∙◌, subst, arith}
use Rattle.std.specs.Prelude.{option_map, option_and_then}
use Rattle.std.specs.List.{range_with_len}
use Rattle.std.proofs.lemmas.Int.{ints}
use Rattle.ac_forms.specs.Affine.{Affine}
use Rattle.ac_forms.specs.Fits.{Fits, AllFit}
use Rattle.ac_forms.specs.Renaming.{add_at, renamed_coefs, renamed, with_form, SumsFit, sums_fit, row_renaming, rows_renaming}
use Rattle.ac_forms.specs.Rows.{form_of, AreRowsOver}
use Rattle.ac_forms.specs.RangeTests.{form_fits}
use Rattle.ac_forms.specs.declared.row.Row.{Row}
use Rattle.ac_forms.specs.declared.row.Row.TheVariants.{Eq, Div, Ge}
use Rattle.ac_forms.proofs.Distinct.{sums_fit-is}
use Rattle.ac_forms.proofs.Twins.{form_fits-is}
use Rattle.ac_claims_paths.specs.CopyKills.{source_columns, source_width, source_from}
use Rattle.ac_forms.specs.ListMembers.{IsAmong}
use Rattle.ac_claims_paths.specs.declared.path.Seat.{Seat}

-- ---- coefficients

-- so many zeros in front
abbrev zeros_onto : ℕ → List ℤ → List ℤ
zeros_onto zero xs = xs
zeros_onto (suc k) xs = pos 0 ∷ zeros_onto k xs

-- the coefficients from a column on
abbrev from_column : ℕ → List ℤ → List ℤ
from_column k [] = []
from_column k (c ∷ cs) = zeros_onto k (c ∷ cs)

zero_sum : (c : ℤ) → pos 0 +ℤ c ≡ c
zero_sum c = omega (arith, ints)

add_alone : (k : ℕ) (c : ℤ) → add_at k c [] ≡ zeros_onto k (c ∷ [])
add_alone zero c = refl
add_alone (suc k) c = ap (λ (xs : List ℤ). pos 0 ∷ xs) (add_alone k c)

add_front : (k : ℕ) (c : ℤ) (xs : List ℤ) → add_at k c (zeros_onto (suc k) xs) ≡ zeros_onto k (c ∷ xs)
add_front zero c xs = ap (λ (z : ℤ). z ∷ xs) (zero_sum c)
add_front (suc k) c xs = ap (λ (ys : List ℤ). pos 0 ∷ ys) (add_front k c xs)

add_from : (k : ℕ) (c : ℤ) (cs : List ℤ) → add_at k c (from_column (suc k) cs) ≡ from_column k (c ∷ cs)
add_from k c [] = add_alone k c
add_from k c (d ∷ ds) = add_front k c (d ∷ ds)

get_front : (k : ℕ) (xs : List ℤ) → get_or (zeros_onto (suc k) xs) k (pos 0) ≡ pos 0
get_front zero xs = refl
get_front (suc k) xs = get_front k xs

get_from : (k : ℕ) (cs : List ℤ) → get_or (from_column (suc k) cs) k (pos 0) ≡ pos 0
get_from k [] = refl
get_from k (d ∷ ds) = get_front k (d ∷ ds)

next : (k : ℕ) → k + 1 ≡ suc k
next k = omega arith

own_coefs : (k n : ℕ) (cs : List ℤ) → length cs ≤ n → renamed_coefs (range_with_len k n) cs ≡ from_column k cs
own_coefs k zero [] l = refl
own_coefs k zero (c ∷ cs) l = absurd (omega (arith, l))
own_coefs k (suc n) [] l = refl
own_coefs k (suc n) (c ∷ cs) l =
    ap (λ j. add_at k c (renamed_coefs (range_with_len j n) cs)) (next k) ∙ ap (add_at k c) (own_coefs (suc k) n cs (omega (arith, l))) ∙ add_from k c cs

own_sums : (k n : ℕ) (cs : List ℤ) → length cs ≤ n → AllFit cs → SumsFit (range_with_len k n) cs
own_sums k zero cs l f = tt
own_sums k (suc n) [] l f = tt
own_sums k (suc n) (c ∷ cs) l f = (own_sums (k + 1) n cs (omega (arith, l)) f.1, subst Fits (sym e) f.0)
  where
    e : get_or (renamed_coefs (range_with_len (k + 1) n) cs) k (pos 0) +ℤ c ≡ c
    e =
        ap (λ j. get_or (renamed_coefs (range_with_len j n) cs) k (pos 0) +ℤ c) (next k)
        ∙ ap (λ (xs : List ℤ). get_or xs k (pos 0) +ℤ c) (own_coefs (suc k) n cs (omega (arith, l)))
        ∙ ap (λ (z : ℤ). z +ℤ c) (get_from k cs) ∙ zero_sum c

from_first : (cs : List ℤ) → from_column 0 cs ≡ cs
from_first [] = refl
from_first (c ∷ cs) = refl

-- ---- rows

same_row : (r : Row) → with_form r (form_of r) ≡ r
same_row (Eq f) = refl
same_row (Div m f) = refl
same_row (Ge f) = refl

own_row : (n : ℕ) (r : Row) → length (form_of r).coefs ≤ n → AllFit (form_of r).coefs → row_renaming (range_with_len 0 n) r ≡ Some r
own_row n r l a =
    let ks = range_with_len 0 n in
    let f = form_of r in
    let s : sums_fit ks f.coefs ≡ true = (sums_fit-is ks f.coefs).1 (own_sums 0 n f.coefs l a) in
    let c : renamed ks f ≡ f = ap (λ (cs : List ℤ). record { konst = f.konst; coefs = cs }) (own_coefs 0 n f.coefs l ∙ from_first f.coefs) in
    ap (λ b. option_map (with_form r) (cond b (Some (renamed ks f)) None)) s ∙ ap (λ (g : Affine). Some (with_form r g)) c ∙ ap Some (same_row r)

pub own_rows : (n : ℕ) (rs : List Row) → AreRowsOver n rs → ((r : Row) → IsAmong r rs → form_fits (form_of r) ≡ true) → rows_renaming (range_with_len 0 n) rs ≡ Some rs
own_rows n [] w f = refl
own_rows n (r ∷ rs) w f =
    let ks = range_with_len 0 n in
    let a = (form_fits-is (form_of r)).0 (f r (inl refl)) in
    ap (option_and_then (λ (s : Row). option_map (λ (ss : List Row). s ∷ ss) (rows_renaming ks rs))) (own_row n r w.0.0 a.0)
    ∙ ap (λ (o : Option (List Row)). option_map (λ (ss : List Row). r ∷ ss) o) (own_rows n rs w.1 (λ s i. f s (inr i)))

-- ---- the columns of a case, in order

range_append : (a x y : ℕ) → range_with_len a x ++ range_with_len (a + x) y ≡ range_with_len a (x + y)
range_append a zero y = let e : a + 0 ≡ a = omega arith in let z : y ≡ 0 + y = omega arith in λ i. range_with_len (e i) (z i)
range_append a (suc x) y =
    let e : a + suc x ≡ a + 1 + x = omega arith in
    let z : suc (x + y) ≡ suc x + y = omega arith in
    ap (λ j. a ∷ (range_with_len (a + 1) x ++ range_with_len j y)) e ∙ ap (λ (ks : List ℕ). a ∷ ks) (range_append (a + 1) x y) ∙ ap (range_with_len a) z

all_columns : (p c w : ℕ) → range_with_len 0 p ++ (range_with_len p c ++ range_with_len (p + c) w) ≡ range_with_len 0 (p + (c + w))
all_columns p c w =
    let z : p ≡ 0 + p = omega arith in
    ap (λ (ks : List ℕ). range_with_len 0 p ++ ks) (range_append p c w) ∙ ap (λ j. range_with_len 0 p ++ range_with_len j (c + w)) z ∙ range_append 0 p (c + w)

pub own_columns : (p c : ℕ) (o : Option Seat) → source_from (p + c) o ≡ o → range_with_len 0 p ++ (range_with_len p c ++ source_columns o) ≡ range_with_len 0 (p + (c + source_width o))
own_columns p c None e = all_columns p c 0
own_columns p c (Some seat) e =
    let first : p + c ≡ seat.first = ap (λ (s : Seat). s.first) (seat_is e) in
    ap (λ j. range_with_len 0 p ++ (range_with_len p c ++ range_with_len j seat.width)) (sym first) ∙ all_columns p c seat.width
  where
    seat_is : Some (record { position = seat.position; first = p + c; width = seat.width }) ≡ Some seat → record { position = seat.position; first = p + c; width = seat.width } ≡ seat
    seat_is h = cc
