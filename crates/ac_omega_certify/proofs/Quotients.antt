-- The quotient of a row that stands, and the equality of two rows with opposite forms.
use Rattle.std.proofs.Common.{◌≡◌, ℕ, zero, suc, ◌<◌, ℤ, pos, ◌+ℤ◌, ◌*ℤ◌, ◌≤ℤ◌, List, [], ◌∷◌, get_or, Option, Some, None, Bool, true, false, cond, int_eq, unsigned_abs, refl, sym, ap, ◌∙◌, arith}
use Rattle.std.specs.Int.{int_div_euclid, ◌∣◌}
use Rattle.std.proofs.lemmas.Int.{ints}
use Rattle.std.proofs.lemmas.Nat.Gcd.{dvd-zero}
use Rattle.ac_base.specs.Dot.{floored}
use Rattle.ac_base.specs.Gcd.{DividesEach}
use Rattle.ac_base.proofs.Columns.{get_or-mix}
use Rattle.ac_base.proofs.Divisors.{true-divides}
use Rattle.ac_base.proofs.Floor.{positive_is}
use Rattle.ac_forms.specs.Affine.{Affine, coef, combined}
use Rattle.ac_forms.specs.NormalRows.{trim, trim_onto, divided}
use Rattle.ac_forms.specs.declared.conj.Conj.{Conj}
use Rattle.ac_forms.specs.declared.row.Row.TheVariants.{Eq, Ge}
use Rattle.ac_cert.specs.declared.types.Step.TheVariants.{Cut, EqCut}
use Rattle.ac_cert.specs.Rules.{divides_each, quotient_form, all_zero, is_zero}
use Rattle.ac_cert.proofs.Equations.{cut-row, eq_cut-row}
use Rattle.ac_omega_certify.specs.declared.path.TreePath.{TreePath}
use Rattle.ac_omega_certify.specs.TreePathRows.{place_of, coef_of, Renames, Blends, StandsAt, Reaches, Leads, Grows, AreOpposite}
use Rattle.ac_omega_certify.proofs.Renaming.{renames-blends, blends-can}
use Rattle.ac_omega_certify.proofs.Paths.{row_leads}
use Rattle.ac_forms.proofs.Again.{zero_test}
use Rattle.ac_forms.proofs.Trims.{test_zero}

pub zero_over : (g : ℤ) → pos 1 ≤ℤ g → int_div_euclid (pos 0) g ≡ pos 0
zero_over g h = let s = positive_is g h in rw s.2 (by s.0 s.1)
  where
    by : (k : ℕ) → 0 < k → int_div_euclid (pos 0) (pos k) ≡ pos 0
    by k l = omega (arith, ints)

pub get_or-floored : (g : ℤ) (cs : List ℤ) (j : ℕ) → pos 1 ≤ℤ g → get_or (floored g cs) j (pos 0) ≡ int_div_euclid (get_or cs j (pos 0)) g
get_or-floored g [] zero h = sym (zero_over g h)
get_or-floored g [] (suc j) h = sym (zero_over g h)
get_or-floored g (c ∷ cs) zero h = refl
get_or-floored g (c ∷ cs) (suc j) h = get_or-floored g cs j h

get_or-onto : (c : ℤ) (cs : List ℤ) (j : ℕ) → get_or (trim_onto c cs) j (pos 0) ≡ get_or (c ∷ cs) j (pos 0)
get_or-onto c (d ∷ ds) j = refl
get_or-onto c [] j = by (int_eq c (pos 0)) j refl
  where
    by : (b : Bool) (j : ℕ) → int_eq c (pos 0) ≡ b → get_or (cond b [] (c ∷ [])) j (pos 0) ≡ get_or (c ∷ []) j (pos 0)
    by true zero e = sym (zero_test c e)
    by true (suc j) e = refl
    by false j e = refl

pub get_or-trim : (cs : List ℤ) (j : ℕ) → get_or (trim cs) j (pos 0) ≡ get_or cs j (pos 0)
get_or-trim [] j = refl
get_or-trim (c ∷ cs) zero = get_or-onto c (trim cs) zero
get_or-trim (c ∷ cs) (suc j) = get_or-onto c (trim cs) (suc j) ∙ get_or-trim cs j

-- each coefficient is divided
pub coef-divided : (g : ℤ) (f : Affine) (j : ℕ) → pos 1 ≤ℤ g → coef j (divided g f) ≡ int_div_euclid (coef j f) g
coef-divided g f j h = get_or-trim (floored g f.coefs) j ∙ get_or-floored g f.coefs j h

pub renames-divided : (names : List ℕ) (g : ℤ) (f f' : Affine) → pos 1 ≤ℤ g → Renames names f f' → Renames names (divided g f) (quotient_form g f')
renames-divided names g f f' h x = record {
  konst = ap (λ z. int_div_euclid z g) x.konst;
  coefs = λ j. get_or-floored g f'.coefs j h ∙ ap (λ z. int_div_euclid z g) (x.coefs j) ∙ by (place_of j names);
}
  where
    by : (o : Option ℕ) → int_div_euclid (coef_of o f) g ≡ coef_of o (divided g f)
    by None = zero_over g h
    by (Some i) = sym (coef-divided g f i h)

pub divides-coef : (d : ℕ) (cs : List ℤ) (j : ℕ) → DividesEach d cs → d ∣ unsigned_abs (get_or cs j (pos 0))
divides-coef d [] zero h = dvd-zero d
divides-coef d [] (suc j) h = dvd-zero d
divides-coef d (c ∷ cs) zero h = h.0
divides-coef d (c ∷ cs) (suc j) h = divides-coef d cs j h.1

pub each-true : (g : ℤ) (cs : List ℤ) → ((j : ℕ) → unsigned_abs g ∣ unsigned_abs (get_or cs j (pos 0))) → divides_each g cs ≡ true
each-true g [] h = refl
each-true g (c ∷ cs) h = rw (true-divides (unsigned_abs g) c (h 0)) (each-true g cs (λ j. h (suc j)))

renamed-divides : (names : List ℕ) (g : ℤ) (f f' : Affine) → Renames names f f' → DividesEach (unsigned_abs g) f.coefs → divides_each g f'.coefs ≡ true
renamed-divides names g f f' x d = each-true g f'.coefs (λ j. rw (x.coefs j) (by (place_of j names)))
  where
    by : (o : Option ℕ) → unsigned_abs g ∣ unsigned_abs (coef_of o f)
    by None = dvd-zero (unsigned_abs g)
    by (Some i) = divides-coef (unsigned_abs g) f.coefs i d

pub cut_leads : (t u : TreePath) (start path : Conj) (names : List ℕ) (x i : ℕ) (g : ℤ) (f : Affine) → Grows t u (Cut x g) i
    → Reaches t start path → StandsAt names path x (Ge f) → pos 1 ≤ℤ g → DividesEach (unsigned_abs g) f.coefs → Leads u start path names i (Ge (divided g f))
cut_leads t u start path names x i g f w h a l d =
    row_leads t u (Cut x g) start path names i (Ge (divided g f)) (quotient_form g a.form) w h
    (cut-row path x g a.form a.at l (renamed-divides names g f a.form a.renames d))
    (renames-divided names g f a.form l a.renames)

pub zeros : (cs : List ℤ) → ((j : ℕ) → get_or cs j (pos 0) ≡ pos 0) → all_zero cs ≡ true
zeros [] h = refl
zeros (c ∷ cs) h = rw (test_zero c (h 0)) (zeros cs (λ j. h (suc j)))

sum_once : (x y : ℤ) → pos 1 *ℤ x +ℤ pos 1 *ℤ y ≡ x +ℤ y
sum_once x y = omega (arith, ints)

opposite-zero : (names : List ℕ) (f g f' g' : Affine) → Renames names f f' → Renames names g g' → AreOpposite f g → is_zero (combined (pos 1) f' (pos 1) g') ≡ true
opposite-zero names f g f' g' x y o =
    rw (zeros (combined (pos 1) f' (pos 1) g').coefs (λ j. get_or-mix (pos 1) f'.coefs (pos 1) g'.coefs j ∙ sum_once (coef j f') (coef j g') ∙ rw (x.coefs j, y.coefs j) (by (place_of j names))))
    (test_zero _ (sum_once f'.konst g'.konst ∙ rw (x.konst, y.konst) o.konst))
  where
    by : (o : Option ℕ) → coef_of o f +ℤ coef_of o g ≡ pos 0
    by None = refl
    by (Some i) = o.coefs i

pub eq_cut_leads : (t u : TreePath) (start path : Conj) (names : List ℕ) (x y i : ℕ) (f g : Affine) → Grows t u (EqCut x y) i
    → Reaches t start path → StandsAt names path x (Ge f) → StandsAt names path y (Ge g) → AreOpposite f g → Blends (pos 1) f (pos 1) g → Leads u start path names i (Eq f)
eq_cut_leads t u start path names x y i f g w h a b o v =
    row_leads t u (EqCut x y) start path names i (Eq f) a.form w h
    (eq_cut-row path x y a.form b.form a.at b.at (blends-can (pos 1) a.form (pos 1) b.form (renames-blends names (pos 1) f (pos 1) g a.form b.form a.renames b.renames v)) (opposite-zero names f g a.form b.form a.renames b.renames o))
    a.renames
