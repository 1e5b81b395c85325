-- The difference of two lists of coefficients, column by column.
use Rattle.std.proofs.Common.{◌≡◌, ℕ, ◌+◌, ◌<◌, ◌≤◌, max, ℤ, pos, negsuc, ◌+ℤ◌, ◌-ℤ◌, ◌*ℤ◌, List, [], ◌∷◌, ◌++◌, length, drop, get_or, arith, ◌∙◌, sym, ap, refl, subst, append_assoc, add-zero, append-nil}
use Rattle.std.proofs.lemmas.List.{length-drop, get_or-drop, drop-drop, drop_all}
use Rattle.std.proofs.lemmas.Int.{ints}
use Rattle.ac_base.specs.Dot.{mix}
use Rattle.ac_base.proofs.Bits.{again_128}
use Rattle.ac_forms.specs.Fits.{Fits, AllFit}

pub less-is : (x y : ℤ) → x -ℤ y ≡ pos 1 *ℤ x +ℤ negsuc 0 *ℤ y
less-is x y = omega (arith, ints)

-- where one list has a column: the difference there, and the rest
head : (a b : List ℤ) → 0 < max (length a) (length b) → mix (pos 1) a (negsuc 0) b ≡ (get_or a 0 (pos 0) -ℤ get_or b 0 (pos 0)) ∷ mix (pos 1) (drop 1 a) (negsuc 0) (drop 1 b)
head [] [] h = absurd (omega arith)
head [] (y ∷ ys) h = let e : negsuc 0 *ℤ y ≡ pos 0 -ℤ y = omega (arith, ints) in ap (λ (z : ℤ). z ∷ mix (pos 1) [] (negsuc 0) ys) e
head (x ∷ xs) [] h = let e : pos 1 *ℤ x ≡ x -ℤ pos 0 = omega (arith, ints) in ap (λ (z : ℤ). z ∷ mix (pos 1) xs (negsuc 0) []) e
head (x ∷ xs) (y ∷ ys) h = ap (λ (z : ℤ). z ∷ mix (pos 1) xs (negsuc 0) ys) (sym (less-is x y))

at_column : (a b : List ℤ) (i : ℕ) → i < max (length a) (length b)
    → mix (pos 1) (drop i a) (negsuc 0) (drop i b) ≡ (get_or a i (pos 0) -ℤ get_or b i (pos 0)) ∷ mix (pos 1) (drop (i + 1) a) (negsuc 0) (drop (i + 1) b)
at_column a b i h = simp (get_or-drop, drop-drop, add-zero) at (head (drop i a) (drop i b) (omega (arith, length-drop i a, length-drop i b)))

-- before column i: what is done, and what is left to do and to test
pub record Subtracting (a b done : List ℤ) (i : ℕ) : Type 0 where
  pub room : i ≤ max (length a) (length b)
  pub onward : AllFit (mix (pos 1) a (negsuc 0) b) → AllFit (mix (pos 1) (drop i a) (negsuc 0) (drop i b))
  pub back : AllFit (mix (pos 1) (drop i a) (negsuc 0) (drop i b)) → AllFit (mix (pos 1) a (negsuc 0) b)
  pub value : mix (pos 1) a (negsuc 0) b ≡ done ++ mix (pos 1) (drop i a) (negsuc 0) (drop i b)

pub less_start : (a b : List ℤ) → Subtracting a b [] 0
less_start a b = record { room = omega arith; onward = λ f. f; back = λ f. f; value = refl }

pub less_step : (a b done : List ℤ) (i : ℕ) → Subtracting a b done i → i < max (length a) (length b) → Fits (get_or a i (pos 0) -ℤ get_or b i (pos 0))
    → Subtracting a b (done ++ (get_or a i (pos 0) -ℤ get_or b i (pos 0)) ∷ []) (i + 1)
less_step a b done i h m f =
    let t = at_column a b i m in
    record {
      room = omega arith;
      onward = λ all. (subst AllFit t (h.onward all)).1;
      back = λ rest. h.back (subst AllFit (sym t) (f, rest));
      value = h.value ∙ ap (λ r. done ++ r) t ∙ sym (append_assoc done _ _);
    }

pub less_fits : (a b done : List ℤ) (i : ℕ) → Subtracting a b done i → i < max (length a) (length b) → AllFit (mix (pos 1) a (negsuc 0) b) → Fits (get_or a i (pos 0) -ℤ get_or b i (pos 0))
less_fits a b done i h m all = (subst AllFit (at_column a b i m) (h.onward all)).0

pub less_end : (a b done : List ℤ) (i : ℕ) → Subtracting a b done i → max (length a) (length b) ≤ i → AllFit (mix (pos 1) a (negsuc 0) b) × (mix (pos 1) a (negsuc 0) b ≡ done)
less_end a b done i h m =
    let e = rw (drop_all i a (omega arith), drop_all i b (omega arith)) at h.value in
    (h.back (rw (drop_all i a (omega arith), drop_all i b (omega arith)) tt), e ∙ append-nil done)

pub ruleset less_steps = (again_128, less_start, less_step, less_fits, less_end)

pub ruleset constant_steps = (again_128, less-is)

-- the step with the number as the code hands it on, by its bits
pub less_pushed : (a b done new : List ℤ) (i : ℕ) (z : ℤ) → Subtracting a b done i → i < max (length a) (length b) → Fits (get_or a i (pos 0) -ℤ get_or b i (pos 0)) → z ≡ get_or a i (pos 0) -ℤ get_or b i (pos 0)
    → new ≡ done ++ z ∷ [] → Subtracting a b new (i + 1)
less_pushed a b done new i z h m f e n = subst (λ (xs : List ℤ). Subtracting a b xs (i + 1)) (sym (n ∙ ap (λ (x : ℤ). done ++ x ∷ []) e)) (less_step a b done i h m f)
