-- Coefficients in other columns that are in the order of their own: zeros stand between them and behind them.
use Rattle.std.proofs.Common.{◌≡◌, ℕ, zero, suc, ◌≤◌, ◌&&◌, ℤ, pos, ◌+ℤ◌, List, [], ◌∷◌, map, length, Bool, true, false, cond, int_eq, unsigned_abs, refl, sym, ap, ◌∙◌, arith}
use Rattle.std.specs.Int.Signed.{lt_z}
use Rattle.std.proofs.lemmas.Int.{ints}
use Rattle.ac_base.specs.Gcd.{gcd, gcd_within, gcd_all}
use Rattle.ac_forms.specs.Fits.{fits, all_fit}
use Rattle.ac_forms.specs.NormalRows.{trim, trim_onto, leads_negative}
use Rattle.ac_forms.specs.Renaming.{add_at, renamed_coefs}
use Rattle.ac_forms.proofs.Trimmed.{trim-twice}
use Rattle.ac_claims_plans.specs.QuestionPaths.{AreRising}

zero_test : (c : ℤ) → int_eq c (pos 0) ≡ true → c ≡ pos 0
zero_test c e = grind (arith, ints)

sum_of : (c : ℤ) → pos 0 +ℤ c ≡ c
sum_of c = omega (arith, ints)

-- ---- lists without their zeros

abbrev pub nonzeros : List ℤ → List ℤ
nonzeros [] = []
nonzeros (c ∷ cs) = cond (int_eq c (pos 0)) (nonzeros cs) (c ∷ nonzeros cs)

pub nonzeros-trim : (cs : List ℤ) → nonzeros (trim cs) ≡ nonzeros cs
nonzeros-trim [] = refl
nonzeros-trim (c ∷ cs) = by (trim cs) (nonzeros-trim cs)
  where
    alone : (b : Bool) → int_eq c (pos 0) ≡ b → nonzeros (cond b [] (c ∷ [])) ≡ cond b [] (c ∷ [])
    alone true e = refl
    alone false e = rw e refl

    by : (ds : List ℤ) → nonzeros ds ≡ nonzeros cs → nonzeros (trim_onto c ds) ≡ nonzeros (c ∷ cs)
    by [] h = rw (← h) (alone (int_eq c (pos 0)) refl)
    by (d ∷ ds) h = ap (λ xs. cond (int_eq c (pos 0)) xs (c ∷ xs)) h

-- the same lists but for zeros at their ends
pub trim-nonzeros : (cs ds : List ℤ) → trim cs ≡ trim ds → nonzeros cs ≡ nonzeros ds
trim-nonzeros cs ds e = sym (nonzeros-trim cs) ∙ ap nonzeros e ∙ nonzeros-trim ds

gcd-none : (d : ℕ) → gcd d 0 ≡ d
unfolding gcd gcd_within
gcd-none d = refl

gcd-nonzeros : (n : ℕ) (cs : List ℤ) → gcd_all n (nonzeros cs) ≡ gcd_all n cs
gcd-nonzeros n [] = refl
gcd-nonzeros n (c ∷ cs) = by (int_eq c (pos 0)) refl (λ m. gcd-nonzeros m cs)
  where
    by : (b : Bool) → int_eq c (pos 0) ≡ b → ((m : ℕ) → gcd_all m (nonzeros cs) ≡ gcd_all m cs) → gcd_all n (cond b (nonzeros cs) (c ∷ nonzeros cs)) ≡ gcd_all (gcd n (unsigned_abs c)) cs
    by true e rest = rest n ∙ ap (λ m. gcd_all m cs) (sym (ap (λ z. gcd n (unsigned_abs z)) (zero_test c e) ∙ gcd-none n))
    by false e rest = rest (gcd n (unsigned_abs c))

pub same-gcd : (n : ℕ) (cs ds : List ℤ) → nonzeros cs ≡ nonzeros ds → gcd_all n cs ≡ gcd_all n ds
same-gcd n cs ds e = sym (gcd-nonzeros n cs) ∙ ap (gcd_all n) e ∙ gcd-nonzeros n ds

leads-nonzeros : (cs : List ℤ) → leads_negative (nonzeros cs) ≡ leads_negative cs
leads-nonzeros [] = refl
leads-nonzeros (c ∷ cs) = by (int_eq c (pos 0)) refl (leads-nonzeros cs)
  where
    by : (b : Bool) → int_eq c (pos 0) ≡ b → leads_negative (nonzeros cs) ≡ leads_negative cs → leads_negative (cond b (nonzeros cs) (c ∷ nonzeros cs)) ≡ cond b (leads_negative cs) (lt_z c (pos 0))
    by true e rest = rest
    by false e rest = rw e refl

pub same-leads : (cs ds : List ℤ) → nonzeros cs ≡ nonzeros ds → leads_negative cs ≡ leads_negative ds
same-leads cs ds e = sym (leads-nonzeros cs) ∙ ap leads_negative e ∙ leads-nonzeros ds

fit-nonzeros : (cs : List ℤ) → all_fit (nonzeros cs) ≡ all_fit cs
fit-nonzeros [] = refl
fit-nonzeros (c ∷ cs) = by (int_eq c (pos 0)) refl (fit-nonzeros cs)
  where
    by : (b : Bool) → int_eq c (pos 0) ≡ b → all_fit (nonzeros cs) ≡ all_fit cs → all_fit (cond b (nonzeros cs) (c ∷ nonzeros cs)) ≡ (fits c && all_fit cs)
    by true e rest = rest ∙ ap (λ z. fits z && all_fit cs) (sym (zero_test c e))
    by false e rest = ap (λ b. fits c && b) rest

pub same-fit : (cs ds : List ℤ) → nonzeros cs ≡ nonzeros ds → all_fit cs ≡ all_fit ds
same-fit cs ds e = sym (fit-nonzeros cs) ∙ ap all_fit e ∙ fit-nonzeros ds

-- ---- each number by itself

-- what goes to 0 at 0 keeps zeros at the end
pub map-trim : (f : ℤ → ℤ) → f (pos 0) ≡ pos 0 → (cs : List ℤ) → trim (map f (trim cs)) ≡ trim (map f cs)
map-trim f z [] = refl
map-trim f z (c ∷ cs) = by (trim cs) (map-trim f z cs)
  where
    last : int_eq c (pos 0) ≡ true → [] ≡ trim_onto (f c) []
    last e = rw (zero_test c e, z) refl

    alone : (b : Bool) → int_eq c (pos 0) ≡ b → trim (map f (cond b [] (c ∷ []))) ≡ trim_onto (f c) []
    alone true e = last e
    alone false e = refl

    by : (ds : List ℤ) → trim (map f ds) ≡ trim (map f cs) → trim (map f (trim_onto c ds)) ≡ trim_onto (f c) (trim (map f cs))
    by [] h = rw (← h) (alone (int_eq c (pos 0)) refl)
    by (d ∷ ds) h = ap (trim_onto (f c)) h

pub same-map : (f : ℤ → ℤ) → f (pos 0) ≡ pos 0 → (cs ds : List ℤ) → trim cs ≡ trim ds → trim (map f cs) ≡ trim (map f ds)
same-map f z cs ds e = sym (map-trim f z cs) ∙ ap (λ xs. trim (map f xs)) e ∙ map-trim f z ds

-- ---- columns in order

-- each column is this one or a later one
abbrev pub AreFrom : ℕ → List ℕ → Type 0
AreFrom n [] = Unit {0}
AreFrom n (k ∷ ks) = (n ≤ k) × AreFrom n ks

from-less : (m n : ℕ) (ks : List ℕ) → m ≤ n → AreFrom n ks → AreFrom m ks
from-less m n [] l h = tt
from-less m n (k ∷ ks) l h = (omega (arith, l, h.0), from-less m n ks l h.1)

-- the first numbers are zeros, as far as there are any
abbrev pub AreClear : ℕ → List ℤ → Type 0
AreClear zero xs = Unit {0}
AreClear (suc n) [] = Unit {0}
AreClear (suc n) (x ∷ xs) = (x ≡ pos 0) × AreClear n xs

clear-none : (n : ℕ) → AreClear n []
clear-none zero = tt
clear-none (suc n) = tt

clear-add : (n k : ℕ) (c : ℤ) (xs : List ℤ) → n ≤ k → AreClear n xs → AreClear n (add_at k c xs)
clear-add zero k c xs l h = tt
clear-add (suc n) zero c xs l h = absurd (omega (arith, l))
clear-add (suc n) (suc k) c [] l h = (refl, clear-add n k c [] (omega (arith, l)) (clear-none n))
clear-add (suc n) (suc k) c (x ∷ xs) l h = (h.0, clear-add n k c xs (omega (arith, l)) h.1)

clear-renamed : (n : ℕ) (ks : List ℕ) (cs : List ℤ) → AreFrom n ks → AreClear n (renamed_coefs ks cs)
clear-renamed n [] cs h = clear-none n
clear-renamed n (k ∷ ks) [] h = clear-none n
clear-renamed n (k ∷ ks) (c ∷ cs) h = clear-add n k c (renamed_coefs ks cs) h.0 (clear-renamed n ks cs h.1)

nonzeros-add : (k : ℕ) (c : ℤ) (xs : List ℤ) → AreClear (suc k) xs → nonzeros (add_at k c xs) ≡ nonzeros (c ∷ xs)
nonzeros-add zero c [] h = refl
nonzeros-add zero c (x ∷ xs) h = rw (h.0, sum_of c) refl
nonzeros-add (suc k) c [] h = nonzeros-add k c [] (clear-none (suc k))
nonzeros-add (suc k) c (x ∷ xs) h = rw h.0 (nonzeros-add k c xs h.1)

map-add : (f : ℤ → ℤ) → f (pos 0) ≡ pos 0 → (k : ℕ) (c : ℤ) (xs : List ℤ) → AreClear (suc k) xs → map f (add_at k c xs) ≡ add_at k (f c) (map f xs)
map-add f z zero c [] h = refl
map-add f z zero c (x ∷ xs) h = rw (h.0, z, sum_of c, sum_of (f c)) refl
map-add f z (suc k) c [] h = rw (z, map-add f z k c [] (clear-none (suc k))) refl
map-add f z (suc k) c (x ∷ xs) h = ap (λ ys. f x ∷ ys) (map-add f z k c xs h.1)

rising-from : (k : ℕ) (ks : List ℕ) → AreRising (k ∷ ks) → AreFrom (suc k) ks
rising-from k [] h = tt
rising-from k (l ∷ ks) h = (omega (arith, h.0), from-less (suc k) (suc l) ks (omega (arith, h.0)) (rising-from l ks h.1))

rising-rest : (k : ℕ) (ks : List ℕ) → AreRising (k ∷ ks) → AreRising ks
rising-rest k [] h = tt
rising-rest k (l ∷ ks) h = h.1

clear-behind : (k : ℕ) (ks : List ℕ) (cs : List ℤ) → AreRising (k ∷ ks) → AreClear (suc k) (renamed_coefs ks cs)
clear-behind k ks cs h = clear-renamed (suc k) ks cs (rising-from k ks h)

pub nonzeros-renamed : (ks : List ℕ) (cs : List ℤ) → AreRising ks → length cs ≤ length ks → nonzeros (renamed_coefs ks cs) ≡ nonzeros cs
nonzeros-renamed [] [] h l = refl
nonzeros-renamed [] (c ∷ cs) h l = absurd (omega (arith, l))
nonzeros-renamed (k ∷ ks) [] h l = refl
nonzeros-renamed (k ∷ ks) (c ∷ cs) h l =
    nonzeros-add k c (renamed_coefs ks cs) (clear-behind k ks cs h) ∙ ap (λ xs. cond (int_eq c (pos 0)) xs (c ∷ xs)) (nonzeros-renamed ks cs (rising-rest k ks h) (omega (arith, l)))

pub map-renamed : (f : ℤ → ℤ) → f (pos 0) ≡ pos 0 → (ks : List ℕ) (cs : List ℤ) → AreRising ks → map f (renamed_coefs ks cs) ≡ renamed_coefs ks (map f cs)
map-renamed f z [] cs h = refl
map-renamed f z (k ∷ ks) [] h = refl
map-renamed f z (k ∷ ks) (c ∷ cs) h = map-add f z k c (renamed_coefs ks cs) (clear-behind k ks cs h) ∙ ap (add_at k (f c)) (map-renamed f z ks cs (rising-rest k ks h))

-- ---- zeros at the end of what is renamed

add-trim : (k : ℕ) (c : ℤ) (xs : List ℤ) → trim (add_at k c (trim xs)) ≡ trim (add_at k c xs)
add-trim k c [] = refl
add-trim zero c (x ∷ xs) = by (trim xs) (trim-twice xs)
  where
    alone : (b : Bool) → int_eq x (pos 0) ≡ b → trim (add_at zero c (cond b [] (x ∷ []))) ≡ trim_onto (x +ℤ c) []
    alone true e = rw (zero_test x e, sum_of c) refl
    alone false e = refl

    by : (ds : List ℤ) → trim ds ≡ ds → trim (add_at zero c (trim_onto x ds)) ≡ trim_onto (x +ℤ c) ds
    by [] h = alone (int_eq x (pos 0)) refl
    by (d ∷ ds) h = ap (trim_onto (x +ℤ c)) h
add-trim (suc k) c (x ∷ xs) = by (trim xs) (add-trim k c xs)
  where
    alone : (b : Bool) → int_eq x (pos 0) ≡ b → trim (add_at (suc k) c (cond b [] (x ∷ []))) ≡ trim_onto x (trim (add_at k c []))
    alone true e = ap (λ z. trim_onto z (trim (add_at k c []))) (sym (zero_test x e))
    alone false e = refl

    by : (ds : List ℤ) → trim (add_at k c ds) ≡ trim (add_at k c xs) → trim (add_at (suc k) c (trim_onto x ds)) ≡ trim_onto x (trim (add_at k c xs))
    by [] h = alone (int_eq x (pos 0)) refl ∙ ap (trim_onto x) h
    by (d ∷ ds) h = ap (trim_onto x) h

same-add : (k : ℕ) (c : ℤ) (xs ys : List ℤ) → trim xs ≡ trim ys → trim (add_at k c xs) ≡ trim (add_at k c ys)
same-add k c xs ys e = sym (add-trim k c xs) ∙ ap (λ zs. trim (add_at k c zs)) e ∙ add-trim k c ys

add-zero : (k : ℕ) (xs : List ℤ) → trim (add_at k (pos 0) xs) ≡ trim xs
add-zero zero [] = refl
add-zero zero (x ∷ xs) = ap (λ z. trim_onto z (trim xs)) (none x)
  where
    none : (x : ℤ) → x +ℤ pos 0 ≡ x
    none x = omega (arith, ints)
add-zero (suc k) [] = rw (add-zero k []) refl
add-zero (suc k) (x ∷ xs) = ap (trim_onto x) (add-zero k xs)

renamed-none : (ks : List ℕ) → renamed_coefs ks [] ≡ []
renamed-none [] = refl
renamed-none (k ∷ ks) = refl

pub renamed-trim : (ks : List ℕ) (cs : List ℤ) → trim (renamed_coefs ks (trim cs)) ≡ trim (renamed_coefs ks cs)
renamed-trim [] cs = refl
renamed-trim (k ∷ ks) [] = refl
renamed-trim (k ∷ ks) (c ∷ cs) = by (trim cs) (renamed-trim ks cs)
  where
    none : trim (renamed_coefs ks []) ≡ trim (renamed_coefs ks cs) → [] ≡ trim (renamed_coefs ks cs)
    none h = sym (ap trim (renamed-none ks)) ∙ h

    alone : (b : Bool) → int_eq c (pos 0) ≡ b → trim (renamed_coefs ks []) ≡ trim (renamed_coefs ks cs) → trim (renamed_coefs (k ∷ ks) (cond b [] (c ∷ []))) ≡ trim (add_at k c (renamed_coefs ks cs))
    alone true e h = none h ∙ sym (add-zero k (renamed_coefs ks cs)) ∙ ap (λ z. trim (add_at k z (renamed_coefs ks cs))) (sym (zero_test c e))
    alone false e h = same-add k c (renamed_coefs ks []) (renamed_coefs ks cs) h

    by : (ds : List ℤ) → trim (renamed_coefs ks ds) ≡ trim (renamed_coefs ks cs) → trim (renamed_coefs (k ∷ ks) (trim_onto c ds)) ≡ trim (add_at k c (renamed_coefs ks cs))
    by [] h = alone (int_eq c (pos 0)) refl h
    by (d ∷ ds) h = same-add k c (renamed_coefs ks (d ∷ ds)) (renamed_coefs ks cs) h
