-- What checked arithmetic of 128 bits answers.
use Rattle.std.proofs.Common.{◌≡◌, ℕ, ◌+◌, ◌<◌, ◌^◌, ℤ, pos, negsuc, ◌+ℤ◌, ◌*ℤ◌, Option, Some, None, true, false, refl, sym, ap, ◌∙◌, arith, cond, FitsSigned, w64, List, length, drop, get_or, drop-cons, add-one, ◌≤◌, ◌⊎◌, inl, inr, [], ◌∷◌}
use Rattle.std.proofs.lemmas.List.{drop_all}
use Rattle.std.specs.Int.{w128}
use Rattle.std.specs.Prelude.{option_and_then}
use Rattle.std.specs.Option.{SomeIff}
use Rattle.std.proofs.lemmas.Int.{ints, fits_signed_mul}
use Rattle.std.proofs.lemmas.Bool.Decides.{nat_tests}
use Rattle.ac_syntax.specs.CheckedArithmetic.{checked, fits_128, summed}

pub fits_true : (z : ℤ) → FitsSigned w128 z → fits_128 z ≡ true
fits_true (pos n) h = grind (arith, nat_tests, h)
fits_true (negsuc n) h = grind (arith, nat_tests, h)

pub fits_false : (z : ℤ) → (FitsSigned w128 z → ⊥) → fits_128 z ≡ false
fits_false (pos n) h = grind (arith, nat_tests, h)
fits_false (negsuc n) h = grind (arith, nat_tests, h)

pub checked_is : (r : Option ℤ) (y z : ℤ) → y ≡ z → SomeIff r (FitsSigned w128 y) y → r ≡ checked z
checked_is None y z e h = sym (ap checked (sym e) ∙ ap (λ b. cond b (Some y) None) (fits_false y h))
checked_is (Some x) y z e h = ap Some h.1 ∙ sym (ap checked (sym e) ∙ ap (λ b. cond b (Some y) None) (fits_true y h.0))

-- a product of two numbers of 64 bits fits 128
pub widened : (z : ℤ) → FitsSigned w64 z → FitsSigned w128 z
widened z h = omega (arith, ints)

pub product_fits : (c x : ℤ) → FitsSigned w64 c → FitsSigned w64 x → FitsSigned w128 (c *ℤ x)
product_fits c x h k = fits_signed_mul w128 c x (2 ^ 63) (2 ^ 63) (omega (arith, ints)) (omega (arith, ints)) (omega arith)

pub summed_step : (s : ℤ) (cs xs : List ℤ) (i : ℕ) → i < length cs → i < length xs → summed s (drop i cs) (drop i xs) ≡ option_and_then (λ t. summed t (drop (i + 1) cs) (drop (i + 1) xs)) (checked (s +ℤ (get_or cs i (pos 0) *ℤ get_or xs i (pos 0))))
summed_step s cs xs i h k = rw (drop-cons cs i (pos 0), drop-cons xs i (pos 0), add-one) refl

-- where a list has ended, nothing is added
pub summed_end : (s : ℤ) (cs xs : List ℤ) (i : ℕ) → (length cs ≤ i) ⊎ (length xs ≤ i) → summed s (drop i cs) (drop i xs) ≡ Some s
summed_end s cs xs i (inl h) = rw (drop_all i cs h) refl
summed_end s cs xs i (inr h) = rw (drop_all i xs h) (ended (drop i cs))
  where
    ended : (cs : List ℤ) → summed s cs [] ≡ Some s
    ended [] = refl
    ended (c ∷ cs) = refl
