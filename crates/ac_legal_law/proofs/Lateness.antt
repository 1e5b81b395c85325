-- The rows by which one time isn't smaller than another.
use Rattle.std.proofs.Common.{◌≡◌, ◌↔◌, ◌⊎◌, inl, inr, List, [], ◌∷◌, ◌++◌, refl, sym, ap, ◌∙◌, ℤ, pos, negsuc, ◌+ℤ◌, ◌*ℤ◌, ◌≤ℤ◌, arith}
use Rattle.std.specs.Prelude.{◌<ℤ◌}
use Rattle.std.specs.Ordering.{int_cmp, ordering_then}
use Rattle.std.specs.declared.cmp.Ordering.{Ordering}
use Rattle.std.specs.declared.cmp.Ordering.TheVariants.{Less, Greater}
use Rattle.std.proofs.lemmas.Cmp.{by_ranked, int_ranked}
use Rattle.std.proofs.lemmas.Int.{ints}
use Rattle.ac_forms.specs.Affine.{Affine, value_at, combined, shifted}
use Rattle.ac_forms.specs.PieceMembership.{IsInSome}
use Rattle.ac_forms.specs.Rows.{Holds, Meets}
use Rattle.ac_forms.specs.declared.row.Row.{Row}
use Rattle.ac_forms.specs.declared.row.Row.TheVariants.{Eq, Ge}
use Rattle.ac_forms.proofs.Values.{value_at-combined, value_at-shifted}
use Rattle.ac_poly.specs.ModelMeaning.{values_at}
use Rattle.ac_poly.proofs.Rows.{meets_append}
use Rattle.ac_legal_law.specs.OrderQuestions.{late}
use Rattle.ac_legal_law.specs.EntryTimes.{time_cmp, IsSmaller}

one_row : (q : List Row) (r : Row) (p : List ℤ) → Meets (q ++ r ∷ []) p ↔ (Meets q p × Holds r p)
one_row q r p = let i = meets_append q (r ∷ []) p in ((λ h. let j = i.0 h in (j.0, j.1.0)), (λ h. i.1 (h.0, (h.1, tt))))

minus : (f g : Affine) (p : List ℤ) → value_at (combined (pos 1) f (negsuc 0) g) p ≡ value_at f p +ℤ negsuc 0 *ℤ value_at g p
minus f g p = let e = value_at-combined (pos 1) f (negsuc 0) g p in omega (arith, ints, e)

equal_row : (f g : Affine) (p : List ℤ) → Holds (Eq (combined (pos 1) f (negsuc 0) g)) p ↔ (value_at f p ≡ value_at g p)
equal_row f g p = let e = minus f g p in ((λ h. let k : value_at (combined (pos 1) f (negsuc 0) g) p ≡ pos 0 = h in omega (arith, ints, e)), (λ h. omega (arith, ints, e)))

more_row : (f g : Affine) (p : List ℤ) → Holds (Ge (shifted (combined (pos 1) f (negsuc 0) g) (negsuc 0))) p ↔ (value_at g p <ℤ value_at f p)
more_row f g p =
    let e = minus f g p in
    let s = value_at-shifted (combined (pos 1) f (negsuc 0) g) (negsuc 0) p in
    ((λ h. let k : pos 0 ≤ℤ value_at (shifted (combined (pos 1) f (negsuc 0) g) (negsuc 0)) p = h in omega (arith, ints, e, s)), (λ h. omega (arith, ints, e, s)))

not_less : (x y : ℤ) (o : Ordering) → (ordering_then (int_cmp x y) o ≡ Less → ⊥) → (y <ℤ x) ⊎ ((x ≡ y) × (o ≡ Less → ⊥))
not_less x y o n =
    by_ranked (x <ℤ y) (x ≡ y) (y <ℤ x) (int_cmp x y) (int_ranked x y (int_cmp x y) refl)
    (λ e h. absurd (n (ap (λ (r : Ordering). ordering_then r o) e)))
    (λ e h. inr (h, λ k. n (ap (λ (r : Ordering). ordering_then r o) e ∙ k)))
    (λ e h. inl h)

less_not : (x y : ℤ) (o : Ordering) → (y <ℤ x) ⊎ ((x ≡ y) × (o ≡ Less → ⊥)) → ordering_then (int_cmp x y) o ≡ Less → ⊥
less_not x y o s k =
    by_ranked (x <ℤ y) (x ≡ y) (y <ℤ x) (int_cmp x y) (int_ranked x y (int_cmp x y) refl)
    (λ e h. elim s [ inl l ↦ absurd (omega (arith, ints)) | inr r ↦ (let q : x ≡ y = r.0 in absurd (omega (arith, ints))) ])
    (λ e h. elim s [ inl l ↦ absurd (omega (arith, ints)) | inr r ↦ r.1 (sym (ap (λ (t : Ordering). ordering_then t o) e) ∙ k) ])
    (λ e h. (let z : Greater ≡ Less = sym (ap (λ (t : Ordering). ordering_then t o) e) ∙ k in absurd cc))

pub late_holds : (fs gs : List Affine) (done : List Row) (p : List ℤ) → IsInSome Meets (late fs gs done) p ↔ (Meets done p × (IsSmaller (values_at p fs) (values_at p gs) → ⊥))
late_holds [] [] done p = ((λ h. elim h [ inl m ↦ (m, λ k. absurd cc) | inr n ↦ absurd n ]), (λ h. inl h.0))
late_holds [] (g ∷ gs) done p = ((λ h. absurd h), (λ h. absurd (h.1 refl)))
late_holds (f ∷ fs) [] done p = ((λ h. elim h [ inl m ↦ (m, λ k. absurd cc) | inr n ↦ absurd n ]), (λ h. inl h.0))
late_holds (f ∷ fs) (g ∷ gs) done p =
    let x = value_at f p in
    let y = value_at g p in
    let o = time_cmp (values_at p fs) (values_at p gs) in
    let more = one_row done (Ge (shifted (combined (pos 1) f (negsuc 0) g) (negsuc 0))) p in
    let equal = one_row done (Eq (combined (pos 1) f (negsuc 0) g)) p in
    let again = late_holds fs gs (done ++ Eq (combined (pos 1) f (negsuc 0) g) ∷ []) p in (
      (λ h. elim h [
        | inl m ↦ (let k = more.0 m in (k.0, less_not x y o (inl ((more_row f g p).0 k.1))))
        | inr s ↦ (let k = again.0 s in let e = equal.0 k.0 in (e.0, less_not x y o (inr ((equal_row f g p).0 e.1, k.1))))
      ]),
      (λ h. elim (not_less x y o h.1) [
        | inl l ↦ inl (more.1 (h.0, (more_row f g p).1 l))
        | inr r ↦ inr (again.1 (equal.1 (h.0, (equal_row f g p).1 r.0), r.1))
      ]),
    )
