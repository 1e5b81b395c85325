-- Which points meet a row, rows one after another, and pieces with further rows.
use Rattle.std.proofs.Common.{◌≡◌, ◌↔◌, ◌⊎◌, inl, inr, zero, suc, List, [], ◌∷◌, ◌++◌, map, true, false, refl, arith, ℤ, pos, negsuc, ◌≤ℤ◌}
use Rattle.std.proofs.lemmas.Int.{ints}
use Rattle.ac_forms.specs.Affine.{Affine, value_at}
use Rattle.ac_forms.specs.Negation.{below, above}
use Rattle.ac_forms.specs.PieceMembership.{IsInSome}
use Rattle.ac_forms.specs.Rows.{Holds, Meets}
use Rattle.ac_forms.specs.declared.row.Row.{Row}
use Rattle.ac_forms.specs.declared.row.Row.TheVariants.{Ge}
use Rattle.ac_forms.proofs.Negations.{value-above, value-below}
use Rattle.ac_syntax.specs.Index.{is_nonnegative, is_zero}

pub nonneg : (z : ℤ) → (is_nonnegative z ≡ true) ↔ (pos 0 ≤ℤ z)
nonneg (pos n) = ((λ h. omega (arith, ints)), (λ h. refl))
nonneg (negsuc n) = ((λ h. absurd (let k : false ≡ true = h in cc)), (λ h. absurd (omega (arith, ints))))

pub negative : (z : ℤ) → (is_nonnegative z ≡ false) ↔ (z ≤ℤ negsuc 0)
negative (pos n) = ((λ h. absurd (let k : true ≡ false = h in cc)), (λ h. absurd (omega (arith, ints))))
negative (negsuc n) = ((λ h. omega (arith, ints)), (λ h. refl))

pub zero_is : (z : ℤ) → (is_zero z ≡ true) ↔ (z ≡ pos 0)
zero_is (pos zero) = ((λ h. refl), (λ h. refl))
zero_is (pos (suc n)) = ((λ h. absurd (let k : false ≡ true = h in cc)), (λ h. absurd (omega (arith, ints))))
zero_is (negsuc n) = ((λ h. absurd (let k : false ≡ true = h in cc)), (λ h. absurd (omega (arith, ints))))

pub zero_not : (z : ℤ) → (is_zero z ≡ false) ↔ ((pos 1 ≤ℤ z) ⊎ (z ≤ℤ negsuc 0))
zero_not (pos zero) = ((λ h. absurd (let k : true ≡ false = h in cc)), (λ h. absurd (neither h)))
  where
    neither : (pos 1 ≤ℤ pos 0) ⊎ (pos 0 ≤ℤ negsuc 0) → ⊥
    neither (inl h) = omega (arith, ints)
    neither (inr h) = omega (arith, ints)
zero_not (pos (suc n)) = ((λ h. inl (omega (arith, ints))), (λ h. refl))
zero_not (negsuc n) = ((λ h. inr (omega (arith, ints))), (λ h. refl))

pub meets_append : (q rs : List Row) (p : List ℤ) → Meets (q ++ rs) p ↔ (Meets q p × Meets rs p)
meets_append [] rs p = ((λ h. (tt, h)), (λ h. h.1))
meets_append (r ∷ q) rs p = let i = meets_append q rs p in ((λ h. let j = i.0 h.1 in ((h.0, j.0), j.1)), (λ h. (h.0.0, i.1 (h.0.1, h.1))))

pub somewhere_with : (qs : List (List Row)) (rs : List Row) (p : List ℤ) → IsInSome Meets (map (λ q. q ++ rs) qs) p ↔ (IsInSome Meets qs p × Meets rs p)
somewhere_with [] rs p = ((λ h. absurd h), (λ h. absurd h.0))
somewhere_with (q ∷ qs) rs p = let again = somewhere_with qs rs p in (to again, (λ h. from again h.0 h.1))
  where
    to : (IsInSome Meets (map (λ q. q ++ rs) qs) p ↔ (IsInSome Meets qs p × Meets rs p)) → Meets (q ++ rs) p ⊎ IsInSome Meets (map (λ q. q ++ rs) qs) p → (Meets q p ⊎ IsInSome Meets qs p) × Meets rs p
    to again (inl m) = let i = (meets_append q rs p).0 m in (inl i.0, i.1)
    to again (inr s) = let i = again.0 s in (inr i.0, i.1)

    from : (IsInSome Meets (map (λ q. q ++ rs) qs) p ↔ (IsInSome Meets qs p × Meets rs p)) → Meets q p ⊎ IsInSome Meets qs p → Meets rs p → Meets (q ++ rs) p ⊎ IsInSome Meets (map (λ q. q ++ rs) qs) p
    from again (inl m) r = inl ((meets_append q rs p).1 (m, r))
    from again (inr s) r = inr (again.1 (s, r))

pub one_row : (q : List Row) (r : Row) (p : List ℤ) → Meets (q ++ r ∷ []) p ↔ (Meets q p × Holds r p)
one_row q r p = let i = meets_append q (r ∷ []) p in ((λ h. let j = i.0 h in (j.0, j.1.0)), (λ h. i.1 (h.0, (h.1, tt))))

pub below_holds : (f : Affine) (p : List ℤ) → Holds (Ge (below f)) p ↔ (value_at f p ≤ℤ negsuc 0)
below_holds f p = ((λ h. let k = rw (value-below f p) at h in omega (arith, ints)), (λ h. rw (value-below f p) (omega (arith, ints))))

pub above_holds : (f : Affine) (p : List ℤ) → Holds (Ge (above f)) p ↔ (pos 1 ≤ℤ value_at f p)
above_holds f p = ((λ h. let k = rw (value-above f p) at h in omega (arith, ints)), (λ h. rw (value-above f p) (omega (arith, ints))))
