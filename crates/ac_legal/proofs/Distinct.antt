-- The columns of an assignment in a question: no column stands twice.
use Rattle.std.proofs.Common.{◌≡◌, ℕ, zero, suc, ◌+◌, ◌≤◌, ◌<◌, List, [], ◌∷◌, ◌++◌, sym, subst, arith}
use Rattle.std.specs.List.{range_with_len}
use Rattle.ac_forms.specs.Renaming.{IsApartFrom, AreDistinct}

apart_range : (j first count : ℕ) → j < first → IsApartFrom j (range_with_len first count)
apart_range j first zero h = tt
apart_range j first (suc count) h = ((λ e. absurd (omega (arith, e, h))), apart_range j (first + 1) count (omega (arith, h)))

apart_both : (j : ℕ) (ks ls : List ℕ) → IsApartFrom j ks → IsApartFrom j ls → IsApartFrom j (ks ++ ls)
apart_both j [] ls h g = g
apart_both j (k ∷ ks) ls h g = (h.0, apart_both j ks ls h.1 g)

distinct_ranges : (first n at m : ℕ) → first + n ≤ at → AreDistinct (range_with_len first n ++ range_with_len at m)
distinct_ranges first zero at zero h = tt
distinct_ranges first zero at (suc m) h = (apart_range at (at + 1) m (omega arith), distinct_ranges at 0 (at + 1) m (omega arith))
distinct_ranges first (suc n) at m h = (
  apart_both first (range_with_len (first + 1) n) (range_with_len at m) (apart_range first (first + 1) n (omega arith)) (apart_range first at m (omega (arith, h))),
  distinct_ranges (first + 1) n at m (omega (arith, h)),
)

pub two_ranges : (params first count : ℕ) (made : List ℕ) → params ≤ first → made ≡ range_with_len 0 params ++ range_with_len first count → AreDistinct made
two_ranges params first count made h e = subst AreDistinct (sym e) (distinct_ranges 0 params first count (omega (arith, h)))
