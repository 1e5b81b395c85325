-- Forms on a path: what is made of them there, and what is tested, is that of the forms.
use Rattle.std.proofs.Common.{◌≡◌, ℕ, zero, suc, ◌≤◌, ℤ, pos, negsuc, ◌+ℤ◌, ◌*ℤ◌, ◌≤ℤ◌, length, Option, Some, None, Bool, true, false, ◌&&◌, nat_eq, unsigned_abs, refl, sym, ap, ◌∙◌, arith}
use Rattle.std.specs.Int.{int_div_euclid}
use Rattle.std.proofs.lemmas.Int.{ints}
use borrow.Author.Tests.{eqb-true, eqb-false}
use Rattle.ac_base.proofs.Columns.{get_or-mix}
use Rattle.ac_base.specs.Multiple.{divides}
use Rattle.ac_forms.specs.Affine.{Affine, coef, combined, scaled, shifted, mix_numbers, MixFits, CanCombine, FormFits}
use Rattle.ac_forms.specs.Fits.{Fits, fits, all_fit}
use Rattle.ac_forms.specs.RangeTests.{can_combine, form_fits}
use Rattle.ac_forms.specs.Negation.{opposite, with_column}
use Rattle.ac_forms.proofs.Twins.{form_fits-is, all_fit-is}
use Rattle.ac_omega_steps.specs.Combination.{combination}
use Rattle.ac_cert.specs.Rules.{rest_of, multiple_of, quotient_form, divides_each, divides_form, all_zero, is_zero, zero_form}
use Rattle.ac_omega_steps.proofs.Fitting.{combination_some, true_fits}
use Rattle.ac_cert.proofs.Fitting.{multiple_some, rest_some}
use Rattle.ac_omega_steps.proofs.Keeping.{combination-is}
use Rattle.ac_base.proofs.Options.{if-some, some-is}
use Rattle.ac_base.proofs.Truths.{and-true}
use Rattle.ac_claims_plans.proofs.Named.{coef_of, Renames}
use Rattle.ac_claims_plans.proofs.Numbers.{fits-zero, times_zero, none_fits, all-each, each-all, all-mixed, mixed-all, divides-zero, each-divides, divides-each, each-zero, zero-each, get-scaled, zero_over, get-floored, get-column, get-others}

-- what holds of each coefficient, and of 0, holds of each coefficient on the path
pub renames-each : (names : ℕ → Option ℕ) (f g : Affine) (P : ℤ → Type 0) → Renames names f g → P (pos 0) → ((j : ℕ) → P (coef j f)) → (j : ℕ) → P (coef j g)
renames-each names f g P r z h j = rw (r.coefs j) (by (names j))
  where
    by : (o : Option ℕ) → P (coef_of o f)
    by None = z
    by (Some i) = h i

-- ---- combinations

pub renames-combined : (names : ℕ → Option ℕ) (k : ℤ) (f : Affine) (l : ℤ) (g f' g' : Affine) → Renames names f f' → Renames names g g' → Renames names (combined k f l g) (combined k f' l g')
renames-combined names k f l g f' g' x y = record {
  konst = rw (x.konst, y.konst) refl;
  coefs = λ j. get_or-mix k f'.coefs l g'.coefs j ∙ rw (x.coefs j, y.coefs j) (by (names j));
}
  where
    none_mixed : k *ℤ pos 0 +ℤ l *ℤ pos 0 ≡ pos 0
    none_mixed = omega (arith, ints)

    by : (o : Option ℕ) → k *ℤ coef_of o f +ℤ l *ℤ coef_of o g ≡ coef_of o (combined k f l g)
    by None = none_mixed
    by (Some i) = sym (get_or-mix k f.coefs l g.coefs i)

renames-can : (names : ℕ → Option ℕ) (k : ℤ) (f : Affine) (l : ℤ) (g f' g' : Affine) → Renames names f f' → Renames names g g' → CanCombine k f l g → CanCombine k f' l g'
renames-can names k f l g f' g' x y h = (
  mixed-all k f'.coefs l g'.coefs (λ j. rw (x.coefs j, y.coefs j) (by (names j))),
  rw (x.konst, y.konst) h.1,
)
  where
    by : (o : Option ℕ) → MixFits k (coef_of o f) l (coef_of o g)
    by None = none_fits k l
    by (Some i) = all-mixed k f.coefs l g.coefs h.0 i

can-combine : (k : ℤ) (f : Affine) (l : ℤ) (g : Affine) → can_combine k f l g ≡ true → CanCombine k f l g
can-combine k f l g e =
    let a = and-true (all_fit (mix_numbers k f.coefs l g.coefs)) (fits (k *ℤ f.konst) && (fits (l *ℤ g.konst) && fits (k *ℤ f.konst +ℤ l *ℤ g.konst))) e in
    let b = and-true (fits (k *ℤ f.konst)) (fits (l *ℤ g.konst) && fits (k *ℤ f.konst +ℤ l *ℤ g.konst)) a.1 in
    let c = and-true (fits (l *ℤ g.konst)) (fits (k *ℤ f.konst +ℤ l *ℤ g.konst)) b.1 in
    ((all_fit-is (mix_numbers k f.coefs l g.coefs)).0 a.0, (true_fits (k *ℤ f.konst) b.0, true_fits (l *ℤ g.konst) c.0, true_fits (k *ℤ f.konst +ℤ l *ℤ g.konst) c.1))

-- a form that is made on the path, and how it is made
pub record Made (names : ℕ → Option ℕ) (h : Affine) (made : Option Affine) : Type 0 where
  pub form : Affine
  pub is : made ≡ Some form
  pub renames : Renames names h form

pub moved-combination : (names : ℕ → Option ℕ) (k : ℤ) (f : Affine) (l : ℤ) (g h f' g' : Affine) → Renames names f f' → Renames names g g' → combination k f l g ≡ Some h → Made names h (combination k f' l g')
unfolding combination
moved-combination names k f l g h f' g' x y e =
    let can = can-combine k f l g (if-some (can_combine k f l g) (Some (combined k f l g)) h e).0 in
    record {
      form = combined k f' l g';
      is = combination_some k f' l g' (renames-can names k f l g f' g' x y can);
      renames = rw (combination-is k f l g h e) (renames-combined names k f l g f' g' x y);
    }

-- ---- multiples and changes of sign

pub renames-scaled : (names : ℕ → Option ℕ) (k : ℤ) (f g : Affine) → Renames names f g → Renames names (scaled k f) (scaled k g)
renames-scaled names k f g r = record {
  konst = ap (λ z. k *ℤ z) r.konst;
  coefs = λ j. get-scaled k g.coefs j ∙ ap (λ z. k *ℤ z) (r.coefs j) ∙ by (names j);
}
  where
    by : (o : Option ℕ) → k *ℤ coef_of o f ≡ coef_of o (scaled k f)
    by None = times_zero k
    by (Some i) = sym (get-scaled k f.coefs i)

pub renames-shifted : (names : ℕ → Option ℕ) (k : ℤ) (f g : Affine) → Renames names f g → Renames names (shifted f k) (shifted g k)
renames-shifted names k f g r = record { konst = ap (λ z. z +ℤ k) r.konst; coefs = λ j. r.coefs j ∙ by (names j) }
  where
    by : (o : Option ℕ) → coef_of o f ≡ coef_of o (shifted f k)
    by None = refl
    by (Some i) = refl

pub renames-fits : (names : ℕ → Option ℕ) (f g : Affine) → Renames names f g → FormFits f → FormFits g
renames-fits names f g r h = (each-all g.coefs (renames-each names f g Fits r fits-zero (all-each f.coefs h.0)), rw r.konst h.1)

pub moved-multiple : (names : ℕ → Option ℕ) (k : ℤ) (f g h : Affine) → Renames names f g → multiple_of k f ≡ Some h → Made names h (multiple_of k g)
unfolding multiple_of
moved-multiple names k f g h r e =
    let s = if-some (form_fits (scaled k f)) (Some (scaled k f)) h e in
    let same : h ≡ scaled k f = sym (some-is (scaled k f) h s.1) in
    let scales = renames-scaled names k f g r in
    record {
      form = scaled k g;
      is = multiple_some k g (renames-fits names (scaled k f) (scaled k g) scales ((form_fits-is (scaled k f)).0 s.0));
      renames = rw same scales;
    }

pub moved-rest : (names : ℕ → Option ℕ) (k : ℤ) (f g h : Affine) → Renames names f g → rest_of k f ≡ Some h → Made names h (rest_of k g)
unfolding rest_of
moved-rest names k f g h r e =
    let s = if-some (form_fits (opposite f) && fits ((opposite f).konst +ℤ k)) (Some (shifted (opposite f) k)) h e in
    let both = and-true (form_fits (opposite f)) (fits ((opposite f).konst +ℤ k)) s.0 in
    let same : h ≡ shifted (opposite f) k = sym (some-is (shifted (opposite f) k) h s.1) in
    let turned = renames-scaled names (negsuc 0) f g r in
    record {
      form = shifted (opposite g) k;
      is = rest_some k g (renames-fits names (opposite f) (opposite g) turned ((form_fits-is (opposite f)).0 both.0)) (rw turned.konst (true_fits ((opposite f).konst +ℤ k) both.1));
      renames = rw same (renames-shifted names k (opposite f) (opposite g) turned);
    }

-- ---- divisions

pub moved-divides : (names : ℕ → Option ℕ) (n : ℤ) (f g : Affine) → Renames names f g → divides_each n f.coefs ≡ true → divides_each n g.coefs ≡ true
moved-divides names n f g r e =
    divides-each n g.coefs (renames-each names f g (λ z. divides (unsigned_abs n) z ≡ true) r (divides-zero (unsigned_abs n)) (each-divides n f.coefs e))

pub moved-divides_form : (names : ℕ → Option ℕ) (n : ℤ) (f g : Affine) → Renames names f g → divides_form n f ≡ true → divides_form n g ≡ true
moved-divides_form names n f g r e =
    let both = and-true (divides (unsigned_abs n) f.konst) (divides_each n f.coefs) e in
    rw (r.konst, both.0) (moved-divides names n f g r both.1)

pub renames-quotient : (names : ℕ → Option ℕ) (n : ℤ) (f g : Affine) → pos 1 ≤ℤ n → Renames names f g → Renames names (quotient_form n f) (quotient_form n g)
renames-quotient names n f g h r = record {
  konst = ap (λ z. int_div_euclid z n) r.konst;
  coefs = λ j. get-floored n g.coefs j h ∙ ap (λ z. int_div_euclid z n) (r.coefs j) ∙ by (names j);
}
  where
    by : (o : Option ℕ) → int_div_euclid (coef_of o f) n ≡ coef_of o (quotient_form n f)
    by None = zero_over n h
    by (Some i) = sym (get-floored n f.coefs i h)

pub moved-all_zero : (names : ℕ → Option ℕ) (f g : Affine) → Renames names f g → all_zero f.coefs ≡ true → all_zero g.coefs ≡ true
moved-all_zero names f g r e = zero-each g.coefs (renames-each names f g (λ z. z ≡ pos 0) r refl (each-zero f.coefs e))

pub moved-is_zero : (names : ℕ → Option ℕ) (f g : Affine) → Renames names f g → is_zero f ≡ true → is_zero g ≡ true
moved-is_zero names f g r e =
    let both = and-true (all_zero f.coefs) _ e in
    rw (moved-all_zero names f g r both.0, r.konst) both.1

pub renames-zero : (names : ℕ → Option ℕ) → Renames names zero_form zero_form
renames-zero names = record { konst = refl; coefs = λ j. nothing j ∙ by (names j) }
  where
    nothing : (j : ℕ) → coef j zero_form ≡ pos 0
    nothing zero = refl
    nothing (suc j) = refl

    by : (o : Option ℕ) → pos 0 ≡ coef_of o zero_form
    by None = refl
    by (Some i) = sym (nothing i)

-- ---- a further column, whose name is the next one

pub record IsNext (names : ℕ → Option ℕ) (n m : ℕ) : Type 0 where
  pub here : names m ≡ Some n
  pub alone : (j : ℕ) → names j ≡ Some n → j ≡ m

pub renames-column : (names : ℕ → Option ℕ) (n m : ℕ) (k : ℤ) (f g : Affine) → IsNext names n m → length f.coefs ≤ n → length g.coefs ≤ m → Renames names f g → Renames names (with_column n k f) (with_column m k g)
renames-column names n m k f g x lf lg r = record { konst = r.konst; coefs = λ j. by j (nat_eq j m) refl }
  where
    old : (o : Option ℕ) → (o ≡ Some n → ⊥) → coef_of o f ≡ coef_of o (with_column n k f)
    old None h = refl
    old (Some i) h = sym (get-others n k f.coefs i lf (λ e. h (ap (λ (z : ℕ). Some z) e)))

    by : (j : ℕ) (b : Bool) → nat_eq j m ≡ b → coef j (with_column m k g) ≡ coef_of (names j) (with_column n k f)
    by j true e =
        let same : j ≡ m = eqb-true j m e in
        rw (same, x.here) (get-column m k g.coefs lg ∙ sym (get-column n k f.coefs lf))
    by j false e =
        let other : j ≡ m → ⊥ = eqb-false j m e in
        get-others m k g.coefs j lg other ∙ r.coefs j ∙ old (names j) (λ h. other (x.alone j h))
