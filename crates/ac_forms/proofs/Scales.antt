-- A multiple of a form as a combination with the zero form.
use Rattle.std.proofs.Common.{◌≡◌, ◌↔◌, ℤ, pos, ◌+ℤ◌, ◌*ℤ◌, List, [], ◌∷◌, map, arith, refl, ap, Result, Ok, Err, lit<, ◌∙◌}
use Rattle.std.proofs.lemmas.Int.{ints}
use Rattle.ac_base.specs.Dot.{mix}
use Rattle.ac_forms.specs.Fits.{AllFit}
use Rattle.ac_forms.specs.Affine.{Affine, mix_numbers, combined, CanCombine, scaled, FormFits}
use Rattle.ac_forms.specs.FormStops.{MadeIff}
use Rattle.ac_forms.specs.declared.stop.FormStop.{FormStop}
use Rattle.ac_forms.specs.declared.stop.FormStop.TheVariants.{Wide, Memory}

mix_nil : (k l : ℤ) (a : List ℤ) → mix k a l [] ≡ map (λ c. k *ℤ c) a
mix_nil k l [] = refl
mix_nil k l (x ∷ xs) = ap (λ r. (k *ℤ x) ∷ r) (mix_nil k l xs)

mix_fits : (k l : ℤ) (a : List ℤ) → AllFit (mix_numbers k a l []) ↔ AllFit (map (λ c. k *ℤ c) a)
mix_fits k l [] = ((λ h. h), (λ h. h))
mix_fits k l (x ∷ xs) = ((λ h. (h.0, (mix_fits k l xs).0 h.1)), (λ h. (h.0, (mix_fits k l xs).1 h.1)))

abbrev pub nothing : Affine
nothing = record { konst = pos 0; coefs = [] }

-- the same result by another name
pub made_as : {T : Type 0} {P Q : Type 0} {v w : T} (r : Result T FormStop) → P ↔ Q → v ≡ w → MadeIff r P v → MadeIff r Q w
made_as (Ok x) i e h = (i.0 h.0, h.1 ∙ e)
made_as (Err Wide) i e h = λ q. h (i.1 q)
made_as (Err (Memory m)) i e h = tt

no_constant : (k c : ℤ) → k *ℤ c +ℤ pos 0 *ℤ pos 0 ≡ k *ℤ c
no_constant k c = omega (arith, ints)

pub scaled_is : (k : ℤ) (f : Affine) → combined k f (pos 0) nothing ≡ scaled k f
scaled_is k f = rw (mix_nil k (pos 0) f.coefs, no_constant k f.konst) refl

pub can_scale : (k : ℤ) (f : Affine) → CanCombine k f (pos 0) nothing ↔ FormFits (scaled k f)
can_scale k f =
    ((λ h. ((mix_fits k (pos 0) f.coefs).0 h.0, h.1.0)), (λ h. ((mix_fits k (pos 0) f.coefs).1 h.0, (h.1, record { sfits = lit< tt }, rw (no_constant k f.konst) h.1))))
