-- The coefficients of a form at the names of its columns.
use Rattle.std.proofs.Common.{◌≡◌, inl, inr, ℕ, zero, suc, ◌+◌, ◌<◌, ◌≤◌, ℤ, pos, List, [], ◌∷◌, length, replicate, get_or, set, drop, Option, Some, None, option_map, Bool, true, false, cond, nat_eq, unsigned_abs, refl, sym, ap, subst, ◌∙◌, arith, length-set}
use Rattle.std.proofs.lemmas.List.{get_or-set_same, get_or-set_other, drop_more, drop_all}
use Rattle.std.proofs.lemmas.Bool.{cases_lt}
use borrow.Author.Tests.{eqb-true, eqb-false}
use Rattle.ac_forms.specs.Affine.{Affine, coef}
use Rattle.ac_omega_certify.specs.Descents.{AreNames}
use Rattle.ac_omega_certify.proofs.Distinct.{name-within}
use Rattle.ac_omega_certify.specs.TreePathRows.{place_of, coef_of, Renames}

-- the coefficient that stands at column j of the path, where the names are those of columns k, k + 1 and so on
abbrev pub named_from : ℕ → ℕ → List ℕ → Affine → ℤ
named_from k j [] f = pos 0
named_from k j (x ∷ xs) f = cond (nat_eq x j) (coef k f) (named_from (suc k) j xs f)

named-is : (k j : ℕ) (xs : List ℕ) (f : Affine) → named_from k j xs f ≡ coef_of (option_map (λ i. k + i) (place_of j xs)) f
named-is k j [] f = refl
named-is k j (x ∷ xs) f = by (nat_eq x j) (place_of j xs) (named-is (suc k) j xs f)
  where
    further : (o : Option ℕ) → coef_of (option_map (λ i. suc k + i) o) f ≡ coef_of (option_map (λ i. k + i) (option_map (λ i. suc i) o)) f
    further None = refl
    further (Some i) = ap (λ (n : ℕ). coef n f) (omega arith)

    by : (b : Bool) (o : Option ℕ) → named_from (suc k) j xs f ≡ coef_of (option_map (λ i. suc k + i) o) f → cond b (coef k f) (named_from (suc k) j xs f) ≡ coef_of (option_map (λ i. k + i) (cond b (Some 0) (option_map (λ i. suc i) o))) f
    by true o e = ap (λ (n : ℕ). coef n f) (omega arith)
    by false o e = e ∙ further o

named-all : (j : ℕ) (xs : List ℕ) (f : Affine) → named_from 0 j xs f ≡ coef_of (place_of j xs) f
named-all j xs f = named-is 0 j xs f ∙ by (place_of j xs)
  where
    by : (o : Option ℕ) → coef_of (option_map (λ i. 0 + i) o) f ≡ coef_of o f
    by None = refl
    by (Some i) = ap (λ (n : ℕ). coef n f) (omega arith)

-- the names from column k on have their coefficients
pub record Named (names : List ℕ) (columns : ℕ) (f : Affine) (cs : List ℤ) (k : ℕ) : Type 0 where
  pub size : length cs ≡ columns
  pub coefs : (j : ℕ) → j < columns → get_or cs j (pos 0) ≡ named_from k j (drop k names) f

all_zeros : (n j : ℕ) → get_or (replicate n (pos 0)) j (pos 0) ≡ pos 0
all_zeros zero zero = refl
all_zeros zero (suc j) = refl
all_zeros (suc n) zero = refl
all_zeros (suc n) (suc j) = all_zeros n j

pub named_start : (names : List ℕ) (columns : ℕ) (f : Affine) (cs : List ℤ) (k : ℕ) → cs ≡ replicate columns (pos 0) → length names ≤ k → Named names columns f cs k
named_start names columns f cs k e l = record {
  size = ap (λ (x : List ℤ). length x) e ∙ long columns;
  coefs = λ j h. ap (λ (x : List ℤ). get_or x j (pos 0)) e ∙ all_zeros columns j ∙ rw (drop_all k names l) refl;
}
  where
    long : (n : ℕ) → length (replicate n (pos 0)) ≡ n
    long zero = refl
    long (suc n) = ap suc (long n)

pub named_step : (names : List ℕ) (columns : ℕ) (f : Affine) (cs new : List ℤ) (k m : ℕ) → Named names columns f cs m → m ≡ k + 1 → k < length names → new ≡ set cs (get_or names k 0) (coef k f) → Named names columns f new k
named_step names columns f cs new k m h e l is = rw is (record {
  size = length-set cs (get_or names k 0) (coef k f) ∙ h.size;
  coefs = λ j less. rw (drop_more names k 0 l) (by j less (nat_eq (get_or names k 0) j) refl);
})
  where
    before : (j : ℕ) → j < columns → get_or cs j (pos 0) ≡ named_from (suc k) j (drop (k + 1) names) f
    before j less = subst (λ (n : ℕ). get_or cs j (pos 0) ≡ named_from n j (drop (k + 1) names) f) (add_one k) (rw e at (h.coefs j less))
      where
        add_one : (k : ℕ) → k + 1 ≡ suc k
        add_one k = omega arith

    by : (j : ℕ) → j < columns → (b : Bool) → nat_eq (get_or names k 0) j ≡ b → get_or (set cs (get_or names k 0) (coef k f)) j (pos 0) ≡ cond b (coef k f) (named_from (suc k) j (drop (k + 1) names) f)
    by j less true t =
        let same : get_or names k 0 ≡ j = eqb-true (get_or names k 0) j t in
        let room : j < length cs = omega (arith, h.size) in
        rw same (get_or-set_same cs j (coef k f) (pos 0) room)
    by j less false t =
        let other : j ≡ get_or names k 0 → ⊥ = λ q. eqb-false (get_or names k 0) j t (sym q) in
        get_or-set_other cs (get_or names k 0) j (coef k f) (pos 0) other ∙ before j less

pub named_end : (names : List ℕ) (columns : ℕ) (f : Affine) (cs : List ℤ) (g : Affine) (k : ℕ) → Named names columns f cs k → k ≡ 0 → g.coefs ≡ cs → Named names columns f g.coefs 0
named_end names columns f cs g k h z e = rw (e, ← z) h

pub ruleset naming_steps = (named_start, named_step)

-- past the columns of the path no name stands
past_end : (cs : List ℤ) (j : ℕ) → length cs ≤ j → get_or cs j (pos 0) ≡ pos 0
past_end [] zero h = refl
past_end [] (suc j) h = refl
past_end (c ∷ cs) zero h = absurd (omega arith)
past_end (c ∷ cs) (suc j) h = past_end cs j (omega arith)

place-within : (j : ℕ) (xs : List ℕ) (n : ℕ) → ((k : ℕ) → k < length xs → get_or xs k 0 < n) → n ≤ j → place_of j xs ≡ None
place-within j [] n h l = refl
place-within j (x ∷ xs) n h l = rw (other x (h 0 (omega arith)), place-within j xs n (λ k m. h (suc k) (omega arith)) l) refl
  where
    other : (x : ℕ) → x < n → nat_eq x j ≡ false
    other x m = grind arith

pub named_renames : (names : List ℕ) (columns : ℕ) (f g : Affine) → Named names columns f g.coefs 0 → g.konst ≡ f.konst → AreNames columns names → Renames names f g
named_renames names columns f g h e a = record { konst = e; coefs = λ j. by j }
  where
    inside : (j : ℕ) → j < columns → coef j g ≡ coef_of (place_of j names) f
    inside j l = h.coefs j l ∙ named-all j names f

    outside : (j : ℕ) → columns ≤ j → coef j g ≡ coef_of (place_of j names) f
    outside j l = rw (place-within j names columns (name-within columns names a.within) l) (past_end g.coefs j (omega (arith, h.size)))

    by : (j : ℕ) → coef j g ≡ coef_of (place_of j names) f
    by j = elim (cases_lt j columns) [ inl l ↦ inside j l | inr l ↦ outside j l ]

named_small : (k j n : ℕ) (xs : List ℕ) (f : Affine) → ((i : ℕ) → unsigned_abs (coef i f) ≤ n) → unsigned_abs (named_from k j xs f) ≤ n
named_small k j n [] f h = omega arith
named_small k j n (x ∷ xs) f h = by (nat_eq x j) (named_small (suc k) j n xs f h)
  where
    by : (b : Bool) → unsigned_abs (named_from (suc k) j xs f) ≤ n → unsigned_abs (cond b (coef k f) (named_from (suc k) j xs f)) ≤ n
    by true l = h k
    by false l = l

pub named_sizes : (names : List ℕ) (columns : ℕ) (f g : Affine) → Named names columns f g.coefs 0 → (n : ℕ) → ((j : ℕ) → unsigned_abs (coef j f) ≤ n) → (j : ℕ) → unsigned_abs (coef j g) ≤ n
named_sizes names columns f g h n small j = elim (cases_lt j columns) [ inl l ↦ rw (h.coefs j l) (named_small 0 j n names f small) | inr l ↦ rw (past_end g.coefs j (omega (arith, h.size))) (omega arith) ]
