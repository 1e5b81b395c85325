-- Tests of lists of numbers, number by number: what lies behind the end of a list counts as 0.
use Rattle.std.proofs.Common.{lit<, ◌≡◌, ℕ, zero, suc, ◌+◌, ◌-◌, ◌<◌, ◌≤◌, ℤ, pos, ◌+ℤ◌, ◌*ℤ◌, ◌≤ℤ◌, List, [], ◌∷◌, ◌++◌, length, map, replicate, get_or, Bool, true, false, cond, int_eq, unsigned_abs, refl, sym, ◌∙◌, subst, arith, ◌⊎◌, inl, inr}
use Rattle.std.specs.Int.{int_div_euclid}
use Rattle.std.proofs.lemmas.Int.{ints}
use Rattle.std.proofs.lemmas.Nat.Gcd.{dvd-zero}
use Rattle.std.proofs.lemmas.Bool.{cases_lt}
use Rattle.ac_base.specs.Dot.{floored}
use Rattle.ac_base.specs.Multiple.{divides}
use Rattle.ac_base.proofs.Divisors.{true-divides}
use Rattle.ac_base.proofs.Floor.{positive_is}
use Rattle.ac_forms.specs.Affine.{mix_numbers, MixFits}
use Rattle.ac_forms.specs.Fits.{Fits, AllFit}
use Rattle.ac_forms.specs.NormalRows.{trim, trim_onto}
use Rattle.ac_cert.specs.Rules.{divides_each, all_zero}
use Rattle.ac_base.proofs.Truths.{and-true}
use Rattle.ac_forms.proofs.Again.{zero_test}
use Rattle.ac_forms.proofs.Trims.{test_zero}

pub fits-zero : Fits (pos 0)
fits-zero = record { sfits = lit< tt }

pub times_zero : (k : ℤ) → k *ℤ pos 0 ≡ pos 0
times_zero k = omega (arith, ints)

none_mixed : (k l : ℤ) → k *ℤ pos 0 +ℤ l *ℤ pos 0 ≡ pos 0
none_mixed k l = omega (arith, ints)

first_mixed : (k x l : ℤ) → k *ℤ x +ℤ l *ℤ pos 0 ≡ k *ℤ x
first_mixed k x l = omega (arith, ints)

last_mixed : (k l y : ℤ) → k *ℤ pos 0 +ℤ l *ℤ y ≡ l *ℤ y
last_mixed k l y = omega (arith, ints)

pub none_fits : (k l : ℤ) → MixFits k (pos 0) l (pos 0)
none_fits k l = rw (times_zero k, times_zero l) (fits-zero, fits-zero, fits-zero)

last-fits : (k l y : ℤ) → Fits (l *ℤ y) → MixFits k (pos 0) l y
last-fits k l y h = (subst Fits (sym (times_zero k)) fits-zero, h, subst Fits (sym (last_mixed k l y)) h)

first-fits : (k x l : ℤ) → Fits (k *ℤ x) → MixFits k x l (pos 0)
first-fits k x l h = (h, subst Fits (sym (times_zero l)) fits-zero, subst Fits (sym (first_mixed k x l)) h)

-- ---- what fits

pub all-each : (cs : List ℤ) → AllFit cs → (j : ℕ) → Fits (get_or cs j (pos 0))
all-each [] h zero = fits-zero
all-each [] h (suc j) = fits-zero
all-each (c ∷ cs) h zero = h.0
all-each (c ∷ cs) h (suc j) = all-each cs h.1 j

pub each-all : (cs : List ℤ) → ((j : ℕ) → Fits (get_or cs j (pos 0))) → AllFit cs
each-all [] h = tt
each-all (c ∷ cs) h = (h 0, each-all cs (λ j. h (suc j)))

pub all-mixed : (k : ℤ) (a : List ℤ) (l : ℤ) (b : List ℤ) → AllFit (mix_numbers k a l b) → (j : ℕ) → MixFits k (get_or a j (pos 0)) l (get_or b j (pos 0))
all-mixed k [] l [] h zero = none_fits k l
all-mixed k [] l [] h (suc j) = none_fits k l
all-mixed k [] l (y ∷ ys) h zero = last-fits k l y h.0
all-mixed k [] l (y ∷ ys) h (suc j) = all-mixed k [] l ys h.1 j
all-mixed k (x ∷ xs) l [] h zero = first-fits k x l h.0
all-mixed k (x ∷ xs) l [] h (suc j) = all-mixed k xs l [] h.1 j
all-mixed k (x ∷ xs) l (y ∷ ys) h zero = (h.0, h.1.0, h.1.1.0)
all-mixed k (x ∷ xs) l (y ∷ ys) h (suc j) = all-mixed k xs l ys h.1.1.1 j

pub mixed-all : (k : ℤ) (a : List ℤ) (l : ℤ) (b : List ℤ) → ((j : ℕ) → MixFits k (get_or a j (pos 0)) l (get_or b j (pos 0))) → AllFit (mix_numbers k a l b)
mixed-all k [] l [] h = tt
mixed-all k [] l (y ∷ ys) h = ((h 0).1, mixed-all k [] l ys (λ j. h (suc j)))
mixed-all k (x ∷ xs) l [] h = ((h 0).0, mixed-all k xs l [] (λ j. h (suc j)))
mixed-all k (x ∷ xs) l (y ∷ ys) h = ((h 0).0, ((h 0).1, ((h 0).2, mixed-all k xs l ys (λ j. h (suc j)))))

-- ---- what divides, and what is 0

pub divides-zero : (d : ℕ) → divides d (pos 0) ≡ true
divides-zero d = true-divides d (pos 0) (dvd-zero d)

pub each-divides : (g : ℤ) (cs : List ℤ) → divides_each g cs ≡ true → (j : ℕ) → divides (unsigned_abs g) (get_or cs j (pos 0)) ≡ true
each-divides g [] h zero = divides-zero (unsigned_abs g)
each-divides g [] h (suc j) = divides-zero (unsigned_abs g)
each-divides g (c ∷ cs) h zero = (and-true (divides (unsigned_abs g) c) (divides_each g cs) h).0
each-divides g (c ∷ cs) h (suc j) = each-divides g cs (and-true (divides (unsigned_abs g) c) (divides_each g cs) h).1 j

pub divides-each : (g : ℤ) (cs : List ℤ) → ((j : ℕ) → divides (unsigned_abs g) (get_or cs j (pos 0)) ≡ true) → divides_each g cs ≡ true
divides-each g [] h = refl
divides-each g (c ∷ cs) h = rw (h 0) (divides-each g cs (λ j. h (suc j)))

pub each-zero : (cs : List ℤ) → all_zero cs ≡ true → (j : ℕ) → get_or cs j (pos 0) ≡ pos 0
each-zero [] h zero = refl
each-zero [] h (suc j) = refl
each-zero (c ∷ cs) h zero = zero_test c (and-true (int_eq c (pos 0)) (all_zero cs) h).0
each-zero (c ∷ cs) h (suc j) = each-zero cs (and-true (int_eq c (pos 0)) (all_zero cs) h).1 j

pub zero-each : (cs : List ℤ) → ((j : ℕ) → get_or cs j (pos 0) ≡ pos 0) → all_zero cs ≡ true
zero-each [] h = refl
zero-each (c ∷ cs) h = rw (test_zero c (h 0)) (zero-each cs (λ j. h (suc j)))

-- ---- one number of a list that is made

pub get-scaled : (k : ℤ) (cs : List ℤ) (j : ℕ) → get_or (map (λ c. k *ℤ c) cs) j (pos 0) ≡ k *ℤ get_or cs j (pos 0)
get-scaled k [] zero = sym (times_zero k)
get-scaled k [] (suc j) = sym (times_zero k)
get-scaled k (c ∷ cs) zero = refl
get-scaled k (c ∷ cs) (suc j) = get-scaled k cs j

pub zero_over : (g : ℤ) → pos 1 ≤ℤ g → int_div_euclid (pos 0) g ≡ pos 0
zero_over g h = let s = positive_is g h in rw s.2 (by s.0 s.1)
  where
    by : (k : ℕ) → 0 < k → int_div_euclid (pos 0) (pos k) ≡ pos 0
    by k l = omega (arith, ints)

pub get-floored : (g : ℤ) (cs : List ℤ) (j : ℕ) → pos 1 ≤ℤ g → get_or (floored g cs) j (pos 0) ≡ int_div_euclid (get_or cs j (pos 0)) g
get-floored g [] zero h = sym (zero_over g h)
get-floored g [] (suc j) h = sym (zero_over g h)
get-floored g (c ∷ cs) zero h = refl
get-floored g (c ∷ cs) (suc j) h = get-floored g cs j h

get-onto : (c : ℤ) (cs : List ℤ) (j : ℕ) → get_or (trim_onto c cs) j (pos 0) ≡ get_or (c ∷ cs) j (pos 0)
get-onto c (d ∷ ds) j = refl
get-onto c [] j = by (int_eq c (pos 0)) j refl
  where
    by : (b : Bool) (j : ℕ) → int_eq c (pos 0) ≡ b → get_or (cond b [] (c ∷ [])) j (pos 0) ≡ get_or (c ∷ []) j (pos 0)
    by true zero e = sym (zero_test c e)
    by true (suc j) e = refl
    by false j e = refl

pub get-trim : (cs : List ℤ) (j : ℕ) → get_or (trim cs) j (pos 0) ≡ get_or cs j (pos 0)
get-trim [] j = refl
get-trim (c ∷ cs) zero = get-onto c (trim cs) zero
get-trim (c ∷ cs) (suc j) = get-onto c (trim cs) (suc j) ∙ get-trim cs j

pub trim-short : (cs : List ℤ) → length (trim cs) ≤ length cs
trim-short [] = omega arith
trim-short (c ∷ cs) = by (trim cs) (trim-short cs)
  where
    by : (t : List ℤ) → length t ≤ length cs → length (trim_onto c t) ≤ length (c ∷ cs)
    by [] l = kept (int_eq c (pos 0))
      where
        kept : (b : Bool) → length (cond b [] (c ∷ [])) ≤ length (c ∷ cs)
        kept true = omega arith
        kept false = omega arith
    by (d ∷ ds) l = omega (arith, l)

pub get-past : (cs : List ℤ) (j : ℕ) → length cs ≤ j → get_or cs j (pos 0) ≡ pos 0
get-past [] zero h = refl
get-past [] (suc j) h = refl
get-past (c ∷ cs) zero h = absurd (omega arith)
get-past (c ∷ cs) (suc j) h = get-past cs j (omega arith)

pub get-zeros : (n j : ℕ) → get_or (replicate n (pos 0)) j (pos 0) ≡ pos 0
get-zeros zero zero = refl
get-zeros zero (suc j) = refl
get-zeros (suc n) zero = refl
get-zeros (suc n) (suc j) = get-zeros n j

-- zeros up to a column, and a number there
get-wide : (cs : List ℤ) (m : ℕ) (k : ℤ) (j : ℕ) → j < length cs + m → get_or ((cs ++ replicate m (pos 0)) ++ k ∷ []) j (pos 0) ≡ get_or cs j (pos 0)
get-wide [] zero k j l = absurd (omega (arith, l))
get-wide [] (suc m) k zero l = refl
get-wide [] (suc m) k (suc j) l = get-wide [] m k j (omega (arith, l)) ∙ nothing j
  where
    nothing : (j : ℕ) → get_or [] j (pos 0) ≡ get_or [] (suc j) (pos 0)
    nothing zero = refl
    nothing (suc j) = refl
get-wide (c ∷ cs) m k zero l = refl
get-wide (c ∷ cs) m k (suc j) l = get-wide cs m k j (omega (arith, l))

get-there : (cs : List ℤ) (m : ℕ) (k : ℤ) (j : ℕ) → j ≡ length cs + m → get_or ((cs ++ replicate m (pos 0)) ++ k ∷ []) j (pos 0) ≡ k
get-there [] zero k zero l = refl
get-there [] zero k (suc j) l = absurd (omega (arith, l))
get-there [] (suc m) k zero l = absurd (omega (arith, l))
get-there [] (suc m) k (suc j) l = get-there [] m k j (omega (arith, l))
get-there (c ∷ cs) m k zero l = absurd (omega (arith, l))
get-there (c ∷ cs) m k (suc j) l = get-there cs m k j (omega (arith, l))

get-behind : (cs : List ℤ) (m : ℕ) (k : ℤ) (j : ℕ) → length cs + m < j → get_or ((cs ++ replicate m (pos 0)) ++ k ∷ []) j (pos 0) ≡ pos 0
get-behind [] zero k zero l = absurd (omega (arith, l))
get-behind [] zero k (suc zero) l = refl
get-behind [] zero k (suc (suc j)) l = refl
get-behind [] (suc m) k zero l = absurd (omega (arith, l))
get-behind [] (suc m) k (suc j) l = get-behind [] m k j (omega (arith, l))
get-behind (c ∷ cs) m k zero l = absurd (omega (arith, l))
get-behind (c ∷ cs) m k (suc j) l = get-behind cs m k j (omega (arith, l))

-- the further column, and the others
pub get-column : (n : ℕ) (k : ℤ) (cs : List ℤ) → length cs ≤ n → get_or ((cs ++ replicate (n - length cs) (pos 0)) ++ k ∷ []) n (pos 0) ≡ k
get-column n k cs l = get-there cs (n - length cs) k n (omega (arith, l))

pub get-others : (n : ℕ) (k : ℤ) (cs : List ℤ) (j : ℕ) → length cs ≤ n → (j ≡ n → ⊥) → get_or ((cs ++ replicate (n - length cs) (pos 0)) ++ k ∷ []) j (pos 0) ≡ get_or cs j (pos 0)
get-others n k cs j l ne = by (cases_lt j n)
  where
    by : (j < n) ⊎ (n ≤ j) → get_or ((cs ++ replicate (n - length cs) (pos 0)) ++ k ∷ []) j (pos 0) ≡ get_or cs j (pos 0)
    by (inl h) = get-wide cs (n - length cs) k j (omega (arith, l, h))
    by (inr h) =
        let far : n < j = omega (arith, h, ne) in
        get-behind cs (n - length cs) k j (omega (arith, l, far)) ∙ sym (get-past cs j (omega (arith, l, h)))
