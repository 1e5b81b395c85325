-- Adding a multiple of a form as a combination with factor 1.
use Rattle.std.proofs.Common.{◌≡◌, ◌↔◌, ℤ, pos, ◌+ℤ◌, ◌*ℤ◌, List, [], ◌∷◌, arith, refl}
use Rattle.std.proofs.lemmas.Int.{ints}
use Rattle.ac_forms.specs.Fits.{Fits, AllFit}
use Rattle.ac_forms.specs.Affine.{Affine, mix_numbers, CanCombine, times_numbers, CanAddTimes, FormFits}

one_times : (x : ℤ) → pos 1 *ℤ x ≡ x
one_times x = omega (arith, ints)

-- the products by 1 that `combine` makes leave nothing
times_mix : (xs : List ℤ) (c : ℤ) (ys : List ℤ) → AllFit xs → AllFit (mix_numbers (pos 1) xs c ys) ↔ AllFit (times_numbers xs c ys)
times_mix [] c [] f = ((λ h. tt), (λ h. tt))
times_mix [] c (y ∷ ys) f = let r = times_mix [] c ys tt in ((λ h. (h.0, r.0 h.1)), (λ h. (h.0, r.1 h.1)))
times_mix (x ∷ xs) c [] f = let r = times_mix xs c [] f.1 in rw one_times ((λ h. tt), (λ h. (f.0, r.1 tt)))
times_mix (x ∷ xs) c (y ∷ ys) f = let r = times_mix xs c ys f.1 in rw one_times ((λ h. (h.1.0, (h.1.1.0, r.0 h.1.1.1))), (λ h. (f.0, (h.0, (h.1.0, r.1 h.1.1)))))

pub can_add_times : (f : Affine) (c : ℤ) (g : Affine) → FormFits f → CanCombine (pos 1) f c g ↔ CanAddTimes f c g
can_add_times f c g p =
    let r = times_mix f.coefs c g.coefs p.0 in
    rw (one_times f.konst) ((λ h. (r.0 h.0, h.1.1, h.1.2)), (λ h. (r.1 h.0, (p.1, h.1, h.2))))
