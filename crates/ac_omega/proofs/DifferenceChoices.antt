-- What the choices for a column leave of rows of differences: such rows over the other columns, with constants up to twice as great.
use Rattle.std.proofs.Common.{◌≡◌, ◌⊎◌, inl, inr, ℕ, zero, suc, ◌+◌, ◌≤◌, cond, Bool, true, false, not, ◌||◌, ◌==◌, ℤ, pos, negsuc, ◌+ℤ◌, ◌*ℤ◌, neg_ℤ, int_eq, List, [], ◌∷◌, ◌++◌, map, take, drop, Some, slice_get, arith, refl, ap, sym, subst, ◌∙◌}
use Rattle.std.specs.Prelude.{unsigned_abs}
use Rattle.std.proofs.lemmas.Int.{ints}
use borrow.Author.Tests.{eqb-true}
use Rattle.ac_forms.specs.Affine.{Affine, coef, combined, scaled}
use Rattle.ac_forms.specs.declared.row.Row.{Row}
use Rattle.ac_forms.specs.declared.row.Row.TheVariants.{Eq, Div, Ge}
use Rattle.ac_omega_steps.specs.Bounds.{without}
use Rattle.ac_omega_steps.specs.Choices.{size_of, against, replaced, replaced_row, others, by_equality}
use Rattle.ac_omega_steps.proofs.OneColumn.{coef-combined}
use Rattle.ac_omega.specs.DifferenceRows.{IsDifference}
use Rattle.ac_omega.specs.Projection.{is_among}
use Rattle.ac_omega.proofs.DifferenceForms.{IsUnit, unit-at, sum-difference, same-difference}
use Rattle.ac_omega.proofs.DifferenceRows.{IsOver, IsRow, IsRaw, Each, at-turned, over-turned}
use Rattle.ac_omega_certify.proofs.Tried.{or-none}

-- the columns but for one
unfoldable pub leave : ℕ → List ℕ → List ℕ
leave z [] = []
leave z (y ∷ ys) = cond (z == y) (leave z ys) (y ∷ leave z ys)

pub leave-within : (z j : ℕ) (vars : List ℕ) → is_among j (leave z vars) ≡ false → (j ≡ z) ⊎ (is_among j vars ≡ false)
unfolding leave
leave-within z j [] a = inr refl
leave-within z j (y ∷ ys) a = by (z == y) refl (j == y) refl (leave-within z j ys) a
  where
    other : (t : Bool) → t ≡ false → is_among j ys ≡ false → (t || is_among j ys) ≡ false
    other t e f = rw e f

    by : (t : Bool) → (z == y) ≡ t → (u : Bool) → (j == y) ≡ u → (is_among j (leave z ys) ≡ false → (j ≡ z) ⊎ (is_among j ys ≡ false))
        → is_among j (cond t (leave z ys) (y ∷ leave z ys)) ≡ false → (j ≡ z) ⊎ (((j == y) || is_among j ys) ≡ false)
    by true e true f i a = inl (eqb-true j y f ∙ sym (eqb-true z y e))
    by true e false f i a = elim (i a) [ inl s ↦ inl s | inr s ↦ inr (other (j == y) f s) ]
    by false e u f i a = let o = or-none (j == y) (is_among j (leave z ys)) a in elim (i o.1) [ inl s ↦ inl s | inr s ↦ inr (other (j == y) o.0 s) ]

over-of : (vars : List ℕ) (b z : ℕ) (h : Affine) → IsDifference (λ j. coef j h) → coef z h ≡ pos 0 → ((j : ℕ) → is_among j vars ≡ false → coef j h ≡ pos 0) → unsigned_abs h.konst ≤ b → IsOver (leave z vars) b h
over-of vars b z h d e w l = record {
  difference = d;
  within = λ j a. elim (leave-within z j vars a) [ inl s ↦ rw s e | inr s ↦ w j s ];
  small = l;
}

zero-sum : (h c d : ℤ) → h ≡ c +ℤ d → c ≡ pos 0 → d ≡ pos 0 → h ≡ pos 0
zero-sum h c d e f g = omega (arith, ints)

one-sum : (h c d : ℤ) → h ≡ c +ℤ d → c ≡ pos 1 → d ≡ negsuc 0 → h ≡ pos 0
one-sum h c d e f g = omega (arith, ints)

small-sum : (h c d : ℤ) (b : ℕ) → h ≡ c +ℤ d → unsigned_abs c ≤ b → unsigned_abs d ≤ b → unsigned_abs h ≤ b + b
small-sum h c d b e f g = omega (arith, ints)

-- a sum in which the column goes
pub plus-over : (vars : List ℕ) (b z : ℕ) (f g h : Affine) → IsOver vars b f → IsOver vars b g → ((j : ℕ) → coef j h ≡ coef j f +ℤ coef j g) → h.konst ≡ f.konst +ℤ g.konst → coef z f ≡ pos 1 → coef z g ≡ negsuc 0 → IsOver (leave z vars) (b + b) h
plus-over vars b z f g h p q same k cf cg =
    over-of vars (b + b) z h (sum-difference (λ j. coef j f) (λ j. coef j g) (λ j. coef j h) z same cf cg p.difference q.difference) (one-sum (coef z h) (coef z f) (coef z g) (same z) cf cg)
    (λ j a. zero-sum (coef j h) (coef j f) (coef j g) (same j) (p.within j a) (q.within j a)) (small-sum h.konst f.konst g.konst b k p.small q.small)

-- a form without the column
pub free-over : (vars : List ℕ) (b z : ℕ) (f h : Affine) → IsOver vars b f → ((j : ℕ) → coef j h ≡ coef j f) → h.konst ≡ f.konst → coef z f ≡ pos 0 → IsOver (leave z vars) (b + b) h
free-over vars b z f h p same k cf =
    over-of vars (b + b) z h (same-difference (λ j. coef j f) (λ j. coef j h) same p.difference) (same z ∙ cf) (λ j a. same j ∙ p.within j a) (rw k (omega (arith, p.small)))

times-zero : (x y : ℤ) → pos 1 *ℤ x +ℤ pos 0 *ℤ y ≡ x
times-zero x y = omega (arith, ints)

times-one : (x y : ℤ) → pos 1 *ℤ x +ℤ pos 1 *ℤ y ≡ x +ℤ y
times-one x y = omega (arith, ints)

times-swapped : (x y : ℤ) → pos 1 *ℤ x +ℤ pos 1 *ℤ y ≡ y +ℤ x
times-swapped x y = omega (arith, ints)

times-less : (x y : ℤ) → pos 1 *ℤ x +ℤ negsuc 0 *ℤ y ≡ x +ℤ neg_ℤ y
times-less x y = omega (arith, ints)

times-under : (x y : ℤ) → pos 1 *ℤ x +ℤ negsuc 0 *ℤ y ≡ neg_ℤ y +ℤ x
times-under x y = omega (arith, ints)

turned-is : (y : ℤ) → negsuc 0 *ℤ y ≡ neg_ℤ y
turned-is y = omega (arith, ints)

turned-coef : (g : Affine) (j : ℕ) (c : ℤ) → coef j g ≡ c → coef j (scaled (negsuc 0) g) ≡ neg_ℤ c
turned-coef g j c e = at-turned g.coefs j ∙ ap (λ (x : ℤ). neg_ℤ x) e

-- where an equality replaces the column
zero-replaced : (vars : List ℕ) (b z : ℕ) (f g : Affine) → IsOver vars b f → coef z f ≡ pos 0 → IsOver (leave z vars) (b + b) (combined (pos 1) f (pos 0) g)
zero-replaced vars b z f g p e = free-over vars b z f (combined (pos 1) f (pos 0) g) p (λ j. coef-combined j (pos 1) f (pos 0) g ∙ times-zero (coef j f) (coef j g)) (times-zero f.konst g.konst) e

added-replaced : (vars : List ℕ) (b z : ℕ) (f g : Affine) → IsOver vars b f → IsOver vars b g → coef z f ≡ pos 1 → coef z g ≡ negsuc 0 → IsOver (leave z vars) (b + b) (combined (pos 1) f (pos 1) g)
added-replaced vars b z f g p q e d = plus-over vars b z f g (combined (pos 1) f (pos 1) g) p q (λ j. coef-combined j (pos 1) f (pos 1) g ∙ times-one (coef j f) (coef j g)) (times-one f.konst g.konst) e d

swapped-replaced : (vars : List ℕ) (b z : ℕ) (f g : Affine) → IsOver vars b f → IsOver vars b g → coef z f ≡ negsuc 0 → coef z g ≡ pos 1 → IsOver (leave z vars) (b + b) (combined (pos 1) f (pos 1) g)
swapped-replaced vars b z f g p q e d = plus-over vars b z g f (combined (pos 1) f (pos 1) g) q p (λ j. coef-combined j (pos 1) f (pos 1) g ∙ times-swapped (coef j f) (coef j g)) (times-swapped f.konst g.konst) d e

less-replaced : (vars : List ℕ) (b z : ℕ) (f g : Affine) → IsOver vars b f → IsOver vars b g → coef z f ≡ pos 1 → coef z g ≡ pos 1 → IsOver (leave z vars) (b + b) (combined (pos 1) f (negsuc 0) g)
less-replaced vars b z f g p q e d =
    plus-over vars b z f (scaled (negsuc 0) g) (combined (pos 1) f (negsuc 0) g) p (over-turned vars b g q)
    (λ j. coef-combined j (pos 1) f (negsuc 0) g ∙ times-less (coef j f) (coef j g) ∙ ap (λ (x : ℤ). coef j f +ℤ x) (sym (at-turned g.coefs j)))
    (times-less f.konst g.konst ∙ ap (λ (x : ℤ). f.konst +ℤ x) (sym (turned-is g.konst))) e (turned-coef g z (pos 1) d)

under-replaced : (vars : List ℕ) (b z : ℕ) (f g : Affine) → IsOver vars b f → IsOver vars b g → coef z f ≡ negsuc 0 → coef z g ≡ negsuc 0 → IsOver (leave z vars) (b + b) (combined (pos 1) f (negsuc 0) g)
under-replaced vars b z f g p q e d =
    plus-over vars b z (scaled (negsuc 0) g) f (combined (pos 1) f (negsuc 0) g) (over-turned vars b g q) p
    (λ j. coef-combined j (pos 1) f (negsuc 0) g ∙ times-under (coef j f) (coef j g) ∙ ap (λ (x : ℤ). x +ℤ coef j f) (sym (at-turned g.coefs j)))
    (times-under f.konst g.konst ∙ ap (λ (x : ℤ). x +ℤ f.konst) (sym (turned-is g.konst))) (turned-coef g z (negsuc 0) d) e

-- 1 or -1
abbrev pub IsSign : ℤ → Type 0
IsSign c = (c ≡ pos 1) ⊎ (c ≡ negsuc 0)

replaced-as : (vars : List ℕ) (b z : ℕ) (f g : Affine) (c d : ℤ) → coef z g ≡ c → coef z f ≡ d → IsOver vars b (combined (size_of c) f (against c d) g) → IsOver vars b (replaced z g f)
replaced-as vars b z f g c d e h o =
    let P : ℤ → ℤ → Type 0 = λ x y. IsOver vars b (combined (size_of x) f (against x y) g) in
    subst (λ (x : ℤ). P x (coef z f)) (sym e) (subst (λ (y : ℤ). P c y) (sym h) o)

pub replaced-over : (vars : List ℕ) (b z : ℕ) (f g : Affine) → IsOver vars b f → IsOver vars b g → IsUnit (coef z f) → IsSign (coef z g) → IsOver (leave z vars) (b + b) (replaced z g f)
replaced-over vars b z f g p q (inl e) (inl d) = replaced-as (leave z vars) (b + b) z f g (pos 1) (pos 1) d e (less-replaced vars b z f g p q e d)
replaced-over vars b z f g p q (inl e) (inr d) = replaced-as (leave z vars) (b + b) z f g (negsuc 0) (pos 1) d e (added-replaced vars b z f g p q e d)
replaced-over vars b z f g p q (inr (inl e)) (inl d) = replaced-as (leave z vars) (b + b) z f g (pos 1) (pos 0) d e (zero-replaced vars b z f g p e)
replaced-over vars b z f g p q (inr (inl e)) (inr d) = replaced-as (leave z vars) (b + b) z f g (negsuc 0) (pos 0) d e (zero-replaced vars b z f g p e)
replaced-over vars b z f g p q (inr (inr e)) (inl d) = replaced-as (leave z vars) (b + b) z f g (pos 1) (negsuc 0) d e (swapped-replaced vars b z f g p q e d)
replaced-over vars b z f g p q (inr (inr e)) (inr d) = replaced-as (leave z vars) (b + b) z f g (negsuc 0) (negsuc 0) d e (under-replaced vars b z f g p q e d)

pub each-append : (P : Row → Type 0) (rs ss : List Row) → Each P rs → Each P ss → Each P (rs ++ ss)
each-append P [] ss h g = g
each-append P (r ∷ rs) ss h g = (h.0, each-append P rs ss h.1 g)

each-take : (P : Row → Type 0) (i : ℕ) (rs : List Row) → Each P rs → Each P (take i rs)
each-take P zero rs h = tt
each-take P (suc i) [] h = tt
each-take P (suc i) (r ∷ rs) h = (h.0, each-take P i rs h.1)

each-drop : (P : Row → Type 0) (i : ℕ) (rs : List Row) → Each P rs → Each P (drop i rs)
each-drop P zero rs h = h
each-drop P (suc i) [] h = tt
each-drop P (suc i) (r ∷ rs) h = each-drop P i rs h.1

pub each-others : (P : Row → Type 0) (i : ℕ) (rs : List Row) → Each P rs → Each P (others i rs)
each-others P i rs h = each-append P (take i rs) (drop (suc i) rs) (each-take P i rs h) (each-drop P (suc i) rs h)

pub each-at : (P : Row → Type 0) (i : ℕ) (rs : List Row) (r : Row) → Each P rs → slice_get rs i ≡ Some r → P r
each-at P i [] r h e = absurd cc
each-at P zero (s ∷ rs) r h e = let t : s ≡ r = cc in subst P t h.0
each-at P (suc i) (s ∷ rs) r h e = each-at P i rs r h.1 e

each-replaced : (vars : List ℕ) (b z : ℕ) (g : Affine) (rs : List Row) → IsOver vars b g → IsSign (coef z g) → Each (IsRow vars b) rs → Each (IsRaw (leave z vars) (b + b)) (map (replaced_row z g) rs)
each-replaced vars b z g [] q s h = tt
each-replaced vars b z g (Eq f ∷ rs) q s h = (replaced-over vars b z f g h.0.0 q (unit-at (λ j. coef j f) h.0.0.difference z) s, each-replaced vars b z g rs q s h.1)
each-replaced vars b z g (Div m f ∷ rs) q s h = absurd h.0
each-replaced vars b z g (Ge f ∷ rs) q s h = (replaced-over vars b z f g h.0.0 q (unit-at (λ j. coef j f) h.0.0.difference z) s, each-replaced vars b z g rs q s h.1)

pub sign-size : (c : ℤ) → IsSign c → size_of c ≡ pos 1
sign-size c (inl e) = rw e refl
sign-size c (inr e) = rw e refl

pub sign-of : (c : ℤ) → IsUnit c → not (int_eq c (pos 0)) ≡ true → IsSign c
sign-of c (inl e) n = inl e
sign-of c (inr (inl e)) n = absurd (let m = rw e at n in cc)
sign-of c (inr (inr e)) n = inr e

pub equality-each : (vars : List ℕ) (b z i : ℕ) (g : Affine) (rs : List Row) → IsOver vars b g → IsSign (coef z g) → Each (IsRow vars b) rs → Each (IsRaw (leave z vars) (b + b)) (by_equality z i (Some (Eq g)) rs)
equality-each vars b z i g rs q s h =
    each-append (IsRaw (leave z vars) (b + b)) (map (replaced_row z g) (others i rs)) (Div (size_of (coef z g)) (without z g) ∷ []) (each-replaced vars b z g (others i rs) q s (each-others (IsRow vars b) i rs h)) (sign-size (coef z g) s, tt)
