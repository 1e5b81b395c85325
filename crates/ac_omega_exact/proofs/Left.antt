-- What is left of the shadows of a pair, where the numbers stay in `i128`.
use Rattle.std.proofs.Common.{◌≡◌, ℕ, ℤ, neg_ℤ, Bool, true, false, ◌&&◌, ◌||◌, cond, List, Option, Some, None, refl, sym, ap, ◌∙◌}
use Rattle.std.specs.Prelude.{IfSome}
use Rattle.ac_forms.specs.Affine.{Affine, coef}
use Rattle.ac_forms.specs.Fits.{fits}
use Rattle.ac_forms.specs.NormalRows.{normal_ge}
use Rattle.ac_forms.specs.RangeTests.{normal_fits}
use Rattle.ac_forms.specs.declared.row.Row.{Row}
use Rattle.ac_forms.specs.declared.row.Row.TheVariants.{Ge}
use Rattle.ac_omega_steps.specs.declared.column.Bound.{Bound}
use Rattle.ac_omega_steps.specs.Bounds.{without, low_bound, high_bound, rows_without}
use Rattle.ac_omega_steps.specs.ChoiceFits.{shadow_fits}
use Rattle.ac_omega_steps.specs.Choices.{shadow_form}
use Rattle.ac_omega_steps.proofs.Parts.{and-assoc}
use Rattle.ac_omega_exact.specs.Exact.{real_form}
use Rattle.ac_omega_exact.specs.Reasons.{IsLeftFor, IsReason}
use Rattle.ac_omega_exact.specs.ExactnessTests.{is_same_left, is_implied, is_exact, pair_fits}
use Rattle.ac_omega_exact.specs.declared.pairs.LeftShadows.{LeftShadows}
use Rattle.ac_omega_exact.specs.declared.pairs.Reason.{Reason}
use Rattle.ac_omega_exact.specs.declared.pairs.Shadows.{Shadows}

some-is : {A : Type 0} (b : Bool) (o : Option A) (x y : A) → o ≡ Some x → o ≡ cond b (Some y) None → (b ≡ true) × (x ≡ y)
some-is true o x y e h = (refl, cc)
some-is false o x y e h = absurd cc

abbrev shadows : Bound → Bound → Shadows
shadows low high = record { real = real_form low high; dark = (shadow_form low high).konst }

abbrev left : Bound → Bound → LeftShadows
left low high = record { dark = normal_ge (shadow_form low high); real = normal_ge (real_form low high) }

pub shadows-made : (z : ℕ) (low high : Affine) (o : Option ℤ) (a b : ℤ) (e f : Affine) (made : Option Shadows) → o ≡ Some a → o ≡ cond (fits (neg_ℤ (coef z high))) (Some (neg_ℤ (coef z high))) None → b ≡ coef z low → e ≡ without z low → f ≡ without z high
    → made ≡ cond (shadow_fits (record { size = b; rest = e }) (record { size = a; rest = f })) (Some (shadows (record { size = b; rest = e }) (record { size = a; rest = f }))) None
    → made ≡ cond (fits (neg_ℤ (coef z high)) && shadow_fits (low_bound z low) (high_bound z high)) (Some (shadows (low_bound z low) (high_bound z high))) None
shadows-made z low high o a b e f made is h eb ee ef m =
    let s = some-is (fits (neg_ℤ (coef z high))) o a (neg_ℤ (coef z high)) is h in
    rw s.0 (rw (s.1, eb, ee, ef) at m)

pub left-made : (low high : Bound) (o : Option Shadows) (s : Shadows) (made : Option LeftShadows) → o ≡ Some s → o ≡ cond (fits high.size && shadow_fits low high) (Some (shadows low high)) None
    → made ≡ cond (normal_fits (Ge s.real)) (Some (record { dark = normal_ge (record { konst = s.dark; coefs = s.real.coefs }); real = normal_ge s.real })) None
    → made ≡ cond (pair_fits low high) (Some (left low high)) None
left-made low high o s made is h m =
    let t = some-is (fits high.size && shadow_fits low high) o s (shadows low high) is h in
    let n : Bool = normal_fits (Ge (shadow_form low high)) in
    let e : pair_fits low high ≡ n = sym (and-assoc (fits high.size) (shadow_fits low high) n) ∙ ap (λ (b : Bool). b && n) t.0 in
    rw e (rw t.1 at m)

pub exact-made : (z : ℕ) (rows : List Row) (low high : Bound) (o : Option LeftShadows) (l : LeftShadows) (found : Bool) → o ≡ Some l → o ≡ cond (pair_fits low high) (Some (left low high)) None
    → found ≡ (is_same_left l.dark l.real || is_implied (rows_without z rows) l.dark) → (pair_fits low high ≡ true) × (found ≡ is_exact z rows low high)
exact-made z rows low high o l found is h m =
    let t = some-is (pair_fits low high) o l (left low high) is h in
    (t.0, rw t.1 at m)

pub reason-made : (z : ℕ) (rows : List Row) (low high : Bound) (o : Option LeftShadows) (l : LeftShadows) (why : Option Reason) → o ≡ Some l → o ≡ cond (pair_fits low high) (Some (left low high)) None
    → IfSome why (λ r. IsLeftFor z rows l.dark l.real r) → IfSome why (λ r. IsReason z rows low high r)
reason-made z rows low high o l why is h m =
    let t = some-is (pair_fits low high) o l (left low high) is h in
    rw t.1 at m
