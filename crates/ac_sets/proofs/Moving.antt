-- The columns to which quotients go: no column stands twice.
use Rattle.std.proofs.Common.{◌≡◌, ℕ, zero, suc, ◌+◌, ◌-◌, ◌<◌, ◌≤◌, Bool, List, [], ◌∷◌, ◌++◌, append_assoc, append-nil, map, refl, sym, ap, ◌∙◌, subst, arith}
use Rattle.std.specs.List.{list_all, range_with_len}
use Rattle.ac_forms.specs.Renaming.{renamed_row, IsApartFrom, AreDistinct}
use Rattle.ac_forms.specs.declared.conj.Conj.{Conj}
use Rattle.ac_forms.specs.declared.row.Row.{Row}
use Rattle.ac_forms.specs.Standing.{is_among}
use Rattle.ac_base.proofs.Truths.{true-nat_le}
use Rattle.ac_sets.specs.DifferenceEnds.{stands}
use Rattle.ac_sets.specs.SetIntersections.{quotients_from, common}

apart-range : (j first count : ℕ) → j < first → IsApartFrom j (range_with_len first count)
apart-range j first zero h = tt
apart-range j first (suc count) h = ((λ e. absurd (omega (arith, e, h))), apart-range j (first + 1) count (omega (arith, h)))

apart-both : (j : ℕ) (ks ls : List ℕ) → IsApartFrom j ks → IsApartFrom j ls → IsApartFrom j (ks ++ ls)
apart-both j [] ls h g = g
apart-both j (k ∷ ks) ls h g = (h.0, apart-both j ks ls h.1 g)

distinct-ranges : (first n at m : ℕ) → first + n ≤ at → AreDistinct (range_with_len first n ++ range_with_len at m)
distinct-ranges first zero at zero h = tt
distinct-ranges first zero at (suc m) h = (apart-range at (at + 1) m (omega arith), distinct-ranges at 0 (at + 1) m (omega arith))
distinct-ranges first (suc n) at m h = (
  apart-both first (range_with_len (first + 1) n) (range_with_len at m) (apart-range first (first + 1) n (omega arith)) (apart-range first at m (omega (arith, h))),
  distinct-ranges (first + 1) n at m (omega (arith, h)),
)

pub two_ranges : (visible at count : ℕ) (made : List ℕ) → visible ≤ at → made ≡ range_with_len 0 visible ++ range_with_len at count → AreDistinct made
two_ranges visible at count made h e = subst AreDistinct (sym e) (distinct-ranges 0 visible at count (omega (arith, h)))

pub common_is : (visible : ℕ) (c d : Conj) (end : ℕ) (ks : List ℕ) (rows : List Row) → end ≡ c.columns + (d.columns - visible) → ks ≡ range_with_len 0 visible ++ range_with_len c.columns (end - c.columns) → rows ≡ c.rows ++ map (renamed_row ks) d.rows → record { columns = end; rows = rows } ≡ common visible c d
common_is visible c d end ks rows e k r =
    let count : end - c.columns ≡ d.columns - visible = omega (arith, e) in
    let all : ks ≡ quotients_from visible c.columns d.columns = k ∙ ap (λ j. range_with_len 0 visible ++ range_with_len c.columns j) count in
    let whole = r ∙ ap (λ xs. c.rows ++ map (renamed_row xs) d.rows) all in
    λ i. record { columns = e i; rows = whole i }

-- what a loop over the rows of a conjunction tests
stand_from : (visible : ℕ) (path c : Conj) (at : ℕ) (ks : List ℕ) → visible ≤ c.columns → c.columns ≤ path.columns → at ≡ path.columns - (c.columns - visible) → ks ≡ range_with_len 0 visible ++ range_with_len at (path.columns - at)
    → ks ≡ quotients_from visible (path.columns - (c.columns - visible)) c.columns
stand_from visible path c at ks low high e k =
    let count : path.columns - at ≡ c.columns - visible = omega (arith, e, low, high) in
    k ∙ (λ i. range_with_len 0 visible ++ range_with_len (e i) (count i))

pub stand_is : (visible : ℕ) (path c : Conj) (at : ℕ) (ks : List ℕ) (b : Bool) → visible ≤ c.columns → c.columns ≤ path.columns → at ≡ path.columns - (c.columns - visible) → ks ≡ range_with_len 0 visible ++ range_with_len at (path.columns - at)
    → b ≡ list_all (λ r. is_among (renamed_row ks r) path.rows) c.rows → b ≡ stands visible path c
stand_is visible path c at ks b low high e k h =
    rw (true-nat_le visible c.columns low, true-nat_le c.columns path.columns high) (h ∙ ap (λ (xs : List ℕ). list_all (λ r. is_among (renamed_row xs r) path.rows) c.rows) (stand_from visible path c at ks low high e k))
