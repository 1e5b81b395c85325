-- The sum of two forms as a combination with factors 1.
use Rattle.std.proofs.Common.{◌≡◌, ◌↔◌, ℕ, zero, suc, ◌<◌, ℤ, pos, ◌*ℤ◌, List, [], ◌∷◌, length, get_or, take, ◌+◌, add-one, arith, refl}
use Rattle.std.proofs.lemmas.Int.{ints}
use Rattle.ac_base.specs.Dot.{mix}
use Rattle.ac_forms.specs.Fits.{Fits, AllFit}
use Rattle.ac_forms.specs.Affine.{Affine, mix_numbers, combined, CanCombine, plus, added, FormFits}

pub AllFit_from : (cs : List ℤ) → ((i : ℕ) → i < length cs → Fits (get_or cs i (pos 0))) → AllFit cs
AllFit_from [] h = tt
AllFit_from (c ∷ cs) h = (h 0 (omega arith), AllFit_from cs (λ i l. h (suc i) (omega arith)))

one_times : (x : ℤ) → pos 1 *ℤ x ≡ x
one_times x = omega (arith, ints)

plus-nil : (xs : List ℤ) → plus xs [] ≡ xs
plus-nil [] = refl
plus-nil (x ∷ xs) = refl

mix_ones : (a b : List ℤ) → mix (pos 1) a (pos 1) b ≡ plus a b
mix_ones [] [] = refl
mix_ones [] (y ∷ ys) = rw (one_times y, mix_ones [] ys) refl
mix_ones (x ∷ xs) [] = rw (one_times x, mix_ones xs [], plus-nil xs) refl
mix_ones (x ∷ xs) (y ∷ ys) = rw (one_times x, one_times y, mix_ones xs ys) refl

ones_fit : (a b : List ℤ) → AllFit a → AllFit b → AllFit (mix_numbers (pos 1) a (pos 1) b) ↔ AllFit (plus a b)
ones_fit [] [] f g = ((λ h. h), (λ h. h))
ones_fit [] (y ∷ ys) f g = let r = ones_fit [] ys f g.1 in rw one_times ((λ h. (h.0, r.0 h.1)), (λ h. (h.0, r.1 h.1)))
ones_fit (x ∷ xs) [] f g = let r = rw (plus-nil xs) at (ones_fit xs [] f.1 g) in rw one_times ((λ h. (h.0, r.0 h.1)), (λ h. (h.0, r.1 h.1)))
ones_fit (x ∷ xs) (y ∷ ys) f g =
    let r = ones_fit xs ys f.1 g.1 in
    rw (one_times x, one_times y) ((λ h. (h.1.1.0, r.0 h.1.1.1)), (λ h. (f.0, (g.0, (h.0, r.1 h.1)))))

pub added_is : (f g : Affine) → combined (pos 1) f (pos 1) g ≡ added f g
added_is f g = rw (mix_ones f.coefs g.coefs, one_times f.konst, one_times g.konst) refl

pub can_add : (f g : Affine) → FormFits f → FormFits g → CanCombine (pos 1) f (pos 1) g ↔ FormFits (added f g)
can_add f g p q =
    let r = ones_fit f.coefs g.coefs p.0 q.0 in
    rw (one_times f.konst, one_times g.konst) ((λ h. (r.0 h.0, h.1.2)), (λ h. (r.1 h.0, (p.1, q.1, h.1))))

pub AllFit_none : (cs : List ℤ) → AllFit (take 0 cs)
AllFit_none cs = tt

pub AllFit_more : (cs : List ℤ) (i : ℕ) → AllFit (take i cs) → i < length cs → Fits (get_or cs i (pos 0)) → AllFit (take (i + 1) cs)
AllFit_more cs i h l f = rw add-one (by_index cs i h l f)
  where
    by_index : (cs : List ℤ) (i : ℕ) → AllFit (take i cs) → i < length cs → Fits (get_or cs i (pos 0)) → AllFit (take (suc i) cs)
    by_index [] i h l f = absurd (omega arith)
    by_index (c ∷ cs) zero h l f = (f, tt)
    by_index (c ∷ cs) (suc i) h l f = (h.0, by_index cs i h.1 (omega arith) f)

pub ruleset all_fit_steps = (AllFit_none, AllFit_more)
