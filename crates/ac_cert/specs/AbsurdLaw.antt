-- Where `Absurd` is accepted, no point meets the rows.
use Rattle.std.proofs.Common.{◌≡◌, ◌&&◌, ℕ, zero, suc, Bool, true, false, not, ℤ, pos, List, [], ◌∷◌, Some, None, cond, slice_get, refl, ◌∙◌, sym, subst, arith}
use Rattle.std.specs.Prelude.{◌<ℤ◌, unsigned_abs}
use Rattle.std.specs.Ordering.{int_eq}
use Rattle.std.proofs.lemmas.Bool.Decides.{Decides-int_eq}
use Rattle.std.proofs.lemmas.Int.{ints}
use Rattle.ac_base.specs.Dot.{dot}
use Rattle.ac_base.specs.Multiple.{IsMultiple, divides}
use Rattle.ac_base.proofs.Divisors.{true-divides}
use Rattle.ac_forms.specs.Affine.{Affine, value_at}
use Rattle.ac_forms.specs.Rows.{form_of, Holds, Meets}
use Rattle.ac_forms.specs.declared.conj.Conj.{Conj}
use Rattle.ac_forms.specs.declared.row.Row.{Row}
use Rattle.ac_forms.specs.declared.row.Row.TheVariants.{Eq, Div, Ge}
use Rattle.ac_omega_steps.specs.IntegerPoints.{IsPoint}
use Rattle.ac_cert.specs.declared.types.Rule.TheVariants as rule
use Rattle.ac_cert.specs.AbsurdEnd.{is_false, is_absurd, absurd_refusal}
use Rattle.ac_cert.specs.Rules.{all_zero}

both : (a b : Bool) → (a && b) ≡ true → (a ≡ true) × (b ≡ true)
both true b e = (refl, e)
both false b e = absurd cc

-- a form without coefficients is worth its constant
pub no_terms : (cs p : List ℤ) → all_zero cs ≡ true → dot cs p ≡ pos 0
no_terms [] p e = refl
no_terms (c ∷ cs) [] e = refl
no_terms (c ∷ cs) (x ∷ p) e =
    let b = both (int_eq c (pos 0)) (all_zero cs) e in
    let z : c ≡ pos 0 = (Decides-int_eq c (pos 0)).0 b.0 in
    rw (z, no_terms cs p b.1) (omega (arith, ints))

constant-value : (f : Affine) (p : List ℤ) → all_zero f.coefs ≡ true → value_at f p ≡ f.konst
constant-value f p e = let z = no_terms f.coefs p e in omega (arith, ints, z)

not-both : (b : Bool) → not b ≡ true → b ≡ true → ⊥
not-both true n e = absurd cc
not-both false n e = absurd cc

-- a row that is false does not hold where its form is worth its constant
false-holds : (r : Row) (p : List ℤ) → is_false r ≡ true → value_at (form_of r) p ≡ (form_of r).konst → Holds r p → ⊥
false-holds (Eq f) p e v h = not-both (int_eq f.konst (pos 0)) e ((Decides-int_eq f.konst (pos 0)).1 (sym v ∙ h))
false-holds (Div m f) p e v h = not-both (divides (unsigned_abs m) f.konst) e (true-divides (unsigned_abs m) f.konst (subst (λ (x : ℤ). IsMultiple m x) v h))
false-holds (Ge f) p e v h =
    let l : f.konst <ℤ pos 0 = grind (arith, ints, e) in
    omega (arith, ints, h, v, l)

at_row : (rows : List Row) (i : ℕ) (p : List ℤ) → is_absurd (slice_get rows i) ≡ true → Meets rows p → ⊥
at_row [] i p e h = cc
at_row (r ∷ rows) zero p e h =
    let b = both (all_zero (form_of r).coefs) (is_false r) e in
    false-holds r p b.1 (constant-value (form_of r) p b.0) h.0
at_row (r ∷ rows) (suc i) p e h = at_row rows i p e h.1

accepted : (b : Bool) → cond b None (Some rule.Absurd) ≡ None → b ≡ true
accepted true e = refl
accepted false e = absurd cc

pub absurd_sound : (row : ℕ) (c : Conj) (p : List ℤ) → absurd_refusal row c ≡ None → IsPoint c p → ⊥
absurd_sound row c p e at = at_row c.rows row p (accepted (is_absurd (slice_get c.rows row)) e) at.meets
