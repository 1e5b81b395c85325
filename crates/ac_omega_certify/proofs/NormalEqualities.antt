-- What is left of an equality that stands: from its two bounds, each divided by the content.
use Rattle.std.proofs.Common.{◌≡◌, ◌==◌, ◌⊎◌, inl, inr, ℕ, zero, suc, ◌^◌, ◌<◌, ◌≤◌, ℤ, pos, negsuc, neg_ℤ, ◌+ℤ◌, ◌*ℤ◌, ◌≤ℤ◌, List, [], ◌∷◌, map, Bool, true, false, cond, int_eq, slice_get, unsigned_abs, refl, sym, ap, ◌∙◌, arith}
use Rattle.std.specs.Int.{int_div_euclid, ◌∣◌}
use Rattle.std.specs.Int.Signed.{lt_z}
use Rattle.std.proofs.lemmas.Int.{ints}
use Rattle.ac_base.specs.Dot.{floored}
use Rattle.ac_base.specs.Gcd.{content, DividesEach}
use Rattle.ac_base.specs.Multiple.{divides}
use Rattle.ac_base.proofs.Columns.{get_or-mix}
use Rattle.ac_base.proofs.Divisors.{divides-true, divides-false, gcd_all_divides}
use Rattle.ac_base.proofs.Floor.{floor_exact}
use Rattle.ac_forms.specs.Affine.{Affine, MixFits, coef, combined, scaled}
use Rattle.ac_forms.specs.NormalRows.{trim, trim_onto, divided, leads_negative, signed, normal_eq}
use Rattle.ac_forms.specs.Rows.{form_of}
use Rattle.ac_forms.specs.declared.conj.Conj.{Conj}
use Rattle.ac_forms.specs.declared.row.Row.{Row}
use Rattle.ac_forms.specs.declared.row.Row.TheVariants.{Eq, Ge}
use Rattle.ac_forms.specs.declared.normal.NormalRow.{NormalRow}
use Rattle.ac_forms.specs.declared.normal.NormalRow.TheVariants.{Kept, Dropped, Absurd}
use Rattle.ac_cert.specs.AbsurdEnd.{is_absurd}
use Rattle.ac_omega_certify.specs.Descents.{IsFormUpTo2To122}
use Rattle.ac_omega_certify.specs.TreePathRows.{Alike, AreOpposite, Blends, CanScale, StandsAt, LeftStands, Leads, Reaches, Shows, IsOnto, IsSameBase, HasOne, one_form, CanAdd, sum_of}
use Rattle.ac_omega_certify.specs.RowRemainders.{Bounds}
use Rattle.ac_omega_certify.specs.declared.path.TreePath.{TreePath}
use Rattle.ac_omega_certify.proofs.Divisibilities.{get_or-scaled}
use Rattle.ac_omega_certify.proofs.Inequalities.{absurd-at, no_coefs}
use Rattle.ac_omega_certify.proofs.Paths.{onto-self, onto-again, stands-on}
use Rattle.ac_omega_certify.proofs.Quotients.{coef-divided, divides-coef}
use Rattle.ac_omega_certify.proofs.Renaming.{renames-alike}
use Rattle.ac_omega_certify.proofs.SmallNumbers.{fits_small, floor_small, once_small, turned_small, sum_fits, floor_turned, floors_cancel, floors_meet, gcd_all_small}

-- the equality or its bounds under another form with the same values
pub alike_equality : (names : List ℕ) (c : Conj) (i : ℕ) (f g : Affine) → Alike f g → StandsAt names c i (Eq f) → StandsAt names c i (Eq g)
alike_equality names c i f g a h = record { form = h.form; at = h.at; renames = renames-alike names f g h.form h.renames a }

pub once_scales : (f : Affine) → IsFormUpTo2To122 f → CanScale (pos 1) f
once_scales f m = record {
  konst = fits_small (pos 1 *ℤ f.konst) (omega (arith, once_small f.konst, m.konst));
  coefs = λ j. fits_small (pos 1 *ℤ coef j f) (omega (arith, once_small (coef j f), m.coefs j));
}

pub turned_scales : (f : Affine) → IsFormUpTo2To122 f → CanScale (negsuc 0) f
turned_scales f m = record {
  konst = fits_small (negsuc 0 *ℤ f.konst) (omega (arith, turned_small f.konst, m.konst));
  coefs = λ j. fits_small (negsuc 0 *ℤ coef j f) (omega (arith, turned_small (coef j f), m.coefs j));
}

pub each_scaled : (d : ℕ) (k : ℤ) (cs : List ℤ) → ((c : ℤ) → unsigned_abs (k *ℤ c) ≡ unsigned_abs c) → DividesEach d cs → DividesEach d (map (λ c. k *ℤ c) cs)
each_scaled d k [] e h = tt
each_scaled d k (c ∷ cs) e h = (rw (e c) h.0, each_scaled d k cs e h.1)

-- a bound of the equality, divided
abbrev pub half : ℕ → ℤ → Affine → Affine
half d k f = divided (pos d) (scaled k f)

above_zero : (d : ℕ) → 0 < d → pos 1 ≤ℤ pos d
above_zero d h = omega (arith, ints)

coef-half : (d : ℕ) (k : ℤ) (f : Affine) (j : ℕ) → 0 < d → coef j (half d k f) ≡ int_div_euclid (k *ℤ coef j f) (pos d)
coef-half d k f j h = coef-divided (pos d) (scaled k f) j (above_zero d h) ∙ ap (λ z. int_div_euclid z (pos d)) (get_or-scaled k f.coefs j)

half_small : (d : ℕ) (k c : ℤ) → 0 < d → unsigned_abs (k *ℤ c) ≡ unsigned_abs c → unsigned_abs c ≤ 2 ^ 122 → unsigned_abs (int_div_euclid (k *ℤ c) (pos d)) ≤ 2 ^ 123
half_small d k c h e l = omega (arith, floor_small (k *ℤ c) d h)

pub halves_blend : (d : ℕ) (k l : ℤ) (f : Affine) → 0 < d → ((c : ℤ) → unsigned_abs (k *ℤ c) ≡ unsigned_abs c) → ((c : ℤ) → unsigned_abs (l *ℤ c) ≡ unsigned_abs c) → IsFormUpTo2To122 f → Blends (pos 1) (half d k f) (pos 1) (half d l f)
halves_blend d k l f h ek el m = record {
  konst = sum_fits (int_div_euclid (k *ℤ f.konst) (pos d)) (int_div_euclid (l *ℤ f.konst) (pos d)) (half_small d k f.konst h (ek f.konst) m.konst) (half_small d l f.konst h (el f.konst) m.konst);
  coefs = λ j. rw (coef-half d k f j h, coef-half d l f j h) (sum_fits (int_div_euclid (k *ℤ coef j f) (pos d)) (int_div_euclid (l *ℤ coef j f) (pos d)) (half_small d k (coef j f) h (ek (coef j f)) (m.coefs j)) (half_small d l (coef j f) h (el (coef j f)) (m.coefs j)));
}

pub low_opposite : (d : ℕ) (f : Affine) → 0 < d → DividesEach d f.coefs → d ∣ unsigned_abs f.konst → AreOpposite (half d (pos 1) f) (half d (negsuc 0) f)
low_opposite d f h each k = record {
  konst = floors_cancel f.konst d h k;
  coefs = λ j. rw (coef-half d (pos 1) f j h, coef-half d (negsuc 0) f j h) (floors_cancel (coef j f) d h (divides-coef d f.coefs j each));
}

turn_sum : (x y : ℤ) → x +ℤ y ≡ pos 0 → y +ℤ x ≡ pos 0
turn_sum x y e = omega (arith, ints)

pub opposite_turned : (f g : Affine) → AreOpposite f g → AreOpposite g f
opposite_turned f g o = record { konst = turn_sum f.konst g.konst o.konst; coefs = λ j. turn_sum (coef j f) (coef j g) (o.coefs j) }

-- the sign of the first coefficient stays under the division
same_zero : (c : ℤ) (d : ℕ) → 0 < d → d ∣ unsigned_abs c → int_eq (int_div_euclid c (pos d)) (pos 0) ≡ int_eq c (pos 0)
same_zero c d h e = by c (int_div_euclid c (pos d)) (floor_exact c d h e)
  where
    by : (c q : ℤ) → c ≡ pos d *ℤ q → int_eq q (pos 0) ≡ int_eq c (pos 0)
    by c (pos zero) e = rw e (zero_product d)
      where
        zero_product : (d : ℕ) → true ≡ int_eq (pos d *ℤ pos 0) (pos 0)
        zero_product d = grind (arith, ints)
    by c (pos (suc q)) e = grind (arith, ints)
    by c (negsuc q) e = grind (arith, ints)

same_sign : (c : ℤ) (d : ℕ) → 0 < d → lt_z (int_div_euclid c (pos d)) (pos 0) ≡ lt_z c (pos 0)
same_sign (pos a) d h = grind (arith, ints)
same_sign (negsuc a) d h = refl

leads-onto : (c : ℤ) (cs : List ℤ) → leads_negative (trim_onto c cs) ≡ leads_negative (c ∷ cs)
leads-onto c (d ∷ ds) = refl
leads-onto c [] = by (int_eq c (pos 0)) refl
  where
    by : (b : Bool) → int_eq c (pos 0) ≡ b → leads_negative (cond b [] (c ∷ [])) ≡ cond b false (lt_z c (pos 0))
    by true e = refl
    by false e = rw e refl

leads-trim : (cs : List ℤ) → leads_negative (trim cs) ≡ leads_negative cs
leads-trim [] = refl
leads-trim (c ∷ cs) = leads-onto c (trim cs) ∙ ap (λ (b : Bool). cond (int_eq c (pos 0)) b (lt_z c (pos 0))) (leads-trim cs)

leads-floored : (d : ℕ) (cs : List ℤ) → 0 < d → DividesEach d cs → leads_negative (floored (pos d) cs) ≡ leads_negative cs
leads-floored d [] h e = refl
leads-floored d (c ∷ cs) h e = rw (same_zero c d h e.0, same_sign c d h, leads-floored d cs h e.1) refl

pub leads-divided : (d : ℕ) (f : Affine) → 0 < d → DividesEach d f.coefs → leads_negative (divided (pos d) f).coefs ≡ leads_negative f.coefs
leads-divided d f h e = leads-trim (floored (pos d) f.coefs) ∙ leads-floored d f.coefs h e

one_times : (c : ℤ) → pos 1 *ℤ c ≡ c
one_times c = omega (arith, ints)

minus_is : (c : ℤ) → negsuc 0 *ℤ c ≡ neg_ℤ c
minus_is c = omega (arith, ints)

-- the equality of the bounds is the normal form
pub low_signed : (d : ℕ) (f : Affine) → 0 < d → DividesEach d f.coefs → leads_negative f.coefs ≡ false → Alike (half d (pos 1) f) (signed (divided (pos d) f))
low_signed d f h e l = rw (leads-divided d f h e, l) (record {
  konst = ap (λ z. int_div_euclid z (pos d)) (sym (one_times f.konst));
  coefs = λ j. coef-divided (pos d) f j (above_zero d h) ∙ ap (λ z. int_div_euclid z (pos d)) (sym (one_times (coef j f))) ∙ sym (coef-half d (pos 1) f j h);
})

pub high_signed : (d : ℕ) (f : Affine) → 0 < d → DividesEach d f.coefs → d ∣ unsigned_abs f.konst → leads_negative f.coefs ≡ true → Alike (half d (negsuc 0) f) (signed (divided (pos d) f))
high_signed d f h e k l = rw (leads-divided d f h e, l) (record {
  konst = minus_is (int_div_euclid f.konst (pos d)) ∙ sym (floor_turned f.konst d h k);
  coefs = λ j.
      get_or-scaled (negsuc 0) (divided (pos d) f).coefs j ∙ ap (λ z. negsuc 0 *ℤ z) (coef-divided (pos d) f j (above_zero d h)) ∙ minus_is (int_div_euclid (coef j f) (pos d))
      ∙ sym (coef-half d (negsuc 0) f j h ∙ floor_turned (coef j f) d h (divides-coef d f.coefs j e));
})

-- where the content does not divide the constant, the bounds add up to `-1 >= 0`
pub sum_absurd : (names : List ℕ) (c : Conj) (i d : ℕ) (f : Affine) → 0 < d → DividesEach d f.coefs → ¬ (d ∣ unsigned_abs f.konst) → StandsAt names c i (Ge (combined (pos 1) (half d (pos 1) f) (pos 1) (half d (negsuc 0) f))) → is_absurd (slice_get c.rows i) ≡ true
sum_absurd names c i d f h e n a = absurd-at names c i (Ge (combined (pos 1) (half d (pos 1) f) (pos 1) (half d (negsuc 0) f))) zero_coefs (rw konst refl) a
  where
    twice : (x y : ℤ) → pos 1 *ℤ x +ℤ pos 1 *ℤ y ≡ x +ℤ y
    twice x y = omega (arith, ints)

    konst : pos 1 *ℤ (half d (pos 1) f).konst +ℤ pos 1 *ℤ (half d (negsuc 0) f).konst ≡ negsuc 0
    konst = twice (half d (pos 1) f).konst (half d (negsuc 0) f).konst ∙ floors_meet f.konst d h n

    zero_coefs : (j : ℕ) → coef j (combined (pos 1) (half d (pos 1) f) (pos 1) (half d (negsuc 0) f)) ≡ pos 0
    zero_coefs j = get_or-mix (pos 1) (half d (pos 1) f).coefs (pos 1) (half d (negsuc 0) f).coefs j ∙ twice (coef j (half d (pos 1) f)) (coef j (half d (negsuc 0) f)) ∙ rw (coef-half d (pos 1) f j h, coef-half d (negsuc 0) f j h) (floors_cancel (coef j f) d h (divides-coef d f.coefs j e))

-- a row without coefficients
eq_still : (names : List ℕ) (c : Conj) (x : ℕ) (f : Affine) → (content f.coefs == 0) ≡ true → StandsAt names c x (Eq f) → LeftStands names c x (normal_eq f)
eq_still names c x f e a = rw e (by (int_eq f.konst (pos 0)) refl)
  where
    by : (b : Bool) → int_eq f.konst (pos 0) ≡ b → LeftStands names c x (cond b Dropped Absurd)
    by true t = tt
    by false t = absurd-at names c x (Eq f) (λ j. no_coefs f.coefs j e) (rw t refl) a

pub eq_shows_still : (t : TreePath) (start path : Conj) (names : List ℕ) (x d : ℕ) (f : Affine) → d ≡ content f.coefs → d ≡ 0 → Reaches t start path → StandsAt names path x (Eq f) → Shows t start path names x (normal_eq f)
eq_shows_still t start path names x d f e z h a = record {
  further = path;
  reaches = h;
  onto = onto-self path;
  stands = eq_still names path x f (rw (← e, z) refl) a;
}

content-some : (d c : ℕ) → d ≡ c → 0 < d → (c == 0) ≡ false
content-some d c e h = grind arith

pub eq_kept : (d : ℕ) (f : Affine) → d ≡ content f.coefs → 0 < d → divides d f.konst ≡ true → normal_eq f ≡ Kept (Eq (signed (divided (pos d) f)))
eq_kept d f e h k = rw (content-some d (content f.coefs) e h, ← e, k) refl

pub eq_absurd : (d : ℕ) (f : Affine) → d ≡ content f.coefs → 0 < d → divides d f.konst ≡ false → normal_eq f ≡ Absurd
eq_absurd d f e h k = rw (content-some d (content f.coefs) e h, ← e, k) refl

-- a call that adds k times an equality as a row `>= 0`
abbrev pub MakesBound : TreePath → TreePath → ℕ → ℤ → ℕ → Type 0
MakesBound t u x k i = (start path : Conj) (names : List ℕ) (f : Affine) → Reaches t start path → HasOne t path → StandsAt names path x (Eq f) → CanScale k f → Leads u start path names i (Ge (scaled k f))

-- a call that divides a row `>= 0`
abbrev pub MakesQuotient : TreePath → TreePath → ℕ → ℤ → ℕ → Type 0
MakesQuotient t u x g i = (start path : Conj) (names : List ℕ) (f : Affine) → Reaches t start path → StandsAt names path x (Ge f) → pos 1 ≤ℤ g → DividesEach (unsigned_abs g) f.coefs → Leads u start path names i (Ge (divided g f))

-- both bounds, then both quotients
pub bounds_shown : (t u v w z : TreePath) (x a b i j : ℕ) (g : ℤ) → IsSameBase t u
    → MakesBound t u x (pos 1) a → MakesBound u v x (negsuc 0) b → MakesQuotient v w a g i → MakesQuotient w z b g j
    → (start path : Conj) (names : List ℕ) (f : Affine) → Reaches t start path → HasOne t path → StandsAt names path x (Eq f) → pos 1 ≤ℤ g → DividesEach (unsigned_abs g) f.coefs → IsFormUpTo2To122 f → Bounds z start path names i j g f
bounds_shown t u v w z x a b i j g base one two three four start path names f h o s p d m =
    let l = one start path names f h o s (once_scales f m) in
    let r = two start l.further names f l.reaches (rw base.one (stands-on [] path l.further t.one (Ge one_form) l.onto o)) (stands-on names path l.further x (Eq f) l.onto s) (turned_scales f m) in
    let low = three start r.further names (scaled (pos 1) f) r.reaches (stands-on names l.further r.further a (Ge (scaled (pos 1) f)) r.onto l.stands) p (each_scaled (unsigned_abs g) (pos 1) f.coefs once_small d) in
    let high = four start low.further names (scaled (negsuc 0) f) low.reaches (stands-on names r.further low.further b (Ge (scaled (negsuc 0) f)) low.onto r.stands) p (each_scaled (unsigned_abs g) (negsuc 0) f.coefs turned_small d) in
    record {
      further = high.further;
      reaches = high.reaches;
      onto = onto-again path l.further high.further l.onto (onto-again l.further r.further high.further r.onto (onto-again r.further low.further high.further low.onto high.onto));
      low = stands-on names low.further high.further i (Ge (divided g (scaled (pos 1) f))) high.onto low.stands;
      high = high.stands;
    }

pub content_divides : (d : ℕ) (f : Affine) → d ≡ content f.coefs → DividesEach d f.coefs
content_divides d f e = rw e (gcd_all_divides 0 f.coefs).1

-- the bounds add up to an absurd row
pub bounds_absurd : (u : TreePath) (start path : Conj) (names : List ℕ) (i d : ℕ) (f : Affine) → d ≡ content f.coefs → 0 < d → divides d f.konst ≡ false → Leads u start path names i (Ge (combined (pos 1) (half d (pos 1) f) (pos 1) (half d (negsuc 0) f))) → Shows u start path names i (normal_eq f)
bounds_absurd u start path names i d f e h k l = rw (eq_absurd d f e h k) (record {
  further = l.further;
  reaches = l.reaches;
  onto = l.onto;
  stands = sum_absurd names l.further i d f h (content_divides d f e) (divides-false d f.konst k) l.stands;
})

-- or they make the equality
pub bounds_kept : (u : TreePath) (start path : Conj) (names : List ℕ) (i d : ℕ) (k : ℤ) (f : Affine) → d ≡ content f.coefs → 0 < d → divides d f.konst ≡ true → Alike (half d k f) (signed (divided (pos d) f)) → Leads u start path names i (Eq (half d k f)) → Shows u start path names i (normal_eq f)
bounds_kept u start path names i d k f e h q a l = rw (eq_kept d f e h q) (record {
  further = l.further;
  reaches = l.reaches;
  onto = l.onto;
  stands = alike_equality names l.further i (half d k f) (signed (divided (pos d) f)) a l.stands;
})

-- what is left of it stands behind its bounds
pub shows_behind : (u : TreePath) (start b c : Conj) (names : List ℕ) (i : ℕ) (r : NormalRow) → IsOnto b c → Shows u start c names i r → Shows u start b names i r
shows_behind u start b c names i r o s = record { further = s.further; reaches = s.reaches; onto = onto-again b c s.further o s.onto; stands = s.stands }

-- the content of coefficients up to 2^122 is one of `i128`
pub content_small : (f : Affine) → IsFormUpTo2To122 f → content f.coefs < 2 ^ 127
content_small f m = gcd_all_small (2 ^ 127) 0 f.coefs (omega arith) (λ j. omega (arith, m.coefs j))

-- a call that adds two rows, and one that makes an equality of two bounds
abbrev pub MakesSum : TreePath → TreePath → ℕ → ℕ → ℕ → Type 0
MakesSum t u x y i = (start path : Conj) (names : List ℕ) (r s : Row) → Reaches t start path → StandsAt names path x r → StandsAt names path y s → CanAdd (pos 1) r → CanAdd (pos 1) s → Blends (pos 1) (form_of r) (pos 1) (form_of s) → Leads u start path names i (sum_of (pos 1) r (pos 1) s)

abbrev pub MakesEquality : TreePath → TreePath → ℕ → ℕ → ℕ → Type 0
MakesEquality t u x y i = (start path : Conj) (names : List ℕ) (f g : Affine) → Reaches t start path → StandsAt names path x (Ge f) → StandsAt names path y (Ge g) → AreOpposite f g → Blends (pos 1) f (pos 1) g → Leads u start path names i (Eq f)

-- what is left of the equality stands, where its divided bounds do
abbrev pub IsLeftOfBounds : TreePath → TreePath → ℕ → ℕ → ℤ → Affine → ℕ → Type 0
IsLeftOfBounds t u x y g f i = (start path : Conj) (names : List ℕ) → Reaches t start path → StandsAt names path x (Ge (divided g (scaled (pos 1) f))) → StandsAt names path y (Ge (divided g (scaled (negsuc 0) f))) → Shows u start path names i (normal_eq f)

content-above : (g : ℤ) (d : ℕ) → g ≡ pos d → pos 1 ≤ℤ g → 0 < d
content-above g d e h = omega (arith, ints, e)

pub sum_left : (t u : TreePath) (x y i : ℕ) (g : ℤ) (f : Affine) → g ≡ pos (content f.coefs) → pos 1 ≤ℤ g → IsFormUpTo2To122 f → divides (unsigned_abs g) f.konst ≡ false → MakesSum t u x y i → IsLeftOfBounds t u x y g f i
sum_left t u x y i g f is l m k add =
    let h = content-above g (content f.coefs) is l in
    let n : divides (content f.coefs) f.konst ≡ false = rw is at k in
    rw is (λ start path names r a b. bounds_absurd u start path names i (content f.coefs) f refl h n
    (add start path names (Ge (half (content f.coefs) (pos 1) f)) (Ge (half (content f.coefs) (negsuc 0) f)) r a b (omega (arith, ints)) (omega (arith, ints)) (halves_blend (content f.coefs) (pos 1) (negsuc 0) f h once_small turned_small m)))

pub low_left : (t u : TreePath) (x y i : ℕ) (g : ℤ) (f : Affine) → g ≡ pos (content f.coefs) → pos 1 ≤ℤ g → IsFormUpTo2To122 f → divides (unsigned_abs g) f.konst ≡ true → leads_negative f.coefs ≡ false → MakesEquality t u x y i → IsLeftOfBounds t u x y g f i
low_left t u x y i g f is l m k s join =
    let h = content-above g (content f.coefs) is l in
    let q : divides (content f.coefs) f.konst ≡ true = rw is at k in
    let each = content_divides (content f.coefs) f refl in
    let d = divides-true (content f.coefs) f.konst q in
    rw is (λ start path names r a b. bounds_kept u start path names i (content f.coefs) (pos 1) f refl h q (low_signed (content f.coefs) f h each s)
    (join start path names (half (content f.coefs) (pos 1) f) (half (content f.coefs) (negsuc 0) f) r a b (low_opposite (content f.coefs) f h each d) (halves_blend (content f.coefs) (pos 1) (negsuc 0) f h once_small turned_small m)))

pub high_left : (t u : TreePath) (x y i : ℕ) (g : ℤ) (f : Affine) → g ≡ pos (content f.coefs) → pos 1 ≤ℤ g → IsFormUpTo2To122 f → divides (unsigned_abs g) f.konst ≡ true → leads_negative f.coefs ≡ true → MakesEquality t u y x i → IsLeftOfBounds t u x y g f i
high_left t u x y i g f is l m k s join =
    let h = content-above g (content f.coefs) is l in
    let q : divides (content f.coefs) f.konst ≡ true = rw is at k in
    let each = content_divides (content f.coefs) f refl in
    let d = divides-true (content f.coefs) f.konst q in
    rw is (λ start path names r a b. bounds_kept u start path names i (content f.coefs) (negsuc 0) f refl h q (high_signed (content f.coefs) f h each d s)
    (join start path names (half (content f.coefs) (negsuc 0) f) (half (content f.coefs) (pos 1) f) r b a (opposite_turned (half (content f.coefs) (pos 1) f) (half (content f.coefs) (negsuc 0) f) (low_opposite (content f.coefs) f h each d)) (halves_blend (content f.coefs) (negsuc 0) (pos 1) f h turned_small once_small m)))

-- the bounds, and what is left of the equality behind them
pub equality_left : (t u v : TreePath) (x a b i : ℕ) (g : ℤ) (f : Affine)
    → ((start path : Conj) (names : List ℕ) (f : Affine) → Reaches t start path → HasOne t path → StandsAt names path x (Eq f) → pos 1 ≤ℤ g → DividesEach (unsigned_abs g) f.coefs → IsFormUpTo2To122 f → Bounds u start path names a b g f)
    → IsLeftOfBounds u v a b g f i → pos 1 ≤ℤ g → DividesEach (unsigned_abs g) f.coefs → IsFormUpTo2To122 f
    → (start path : Conj) (names : List ℕ) → Reaches t start path → HasOne t path → StandsAt names path x (Eq f) → Shows v start path names i (normal_eq f)
equality_left t u v x a b i g f bounds left l d m start path names h o s =
    let c = bounds start path names f h o s l d m in
    shows_behind v start path c.further names i (normal_eq f) c.onto (left start c.further names c.reaches c.low c.high)

-- a divisor other than 0 is positive, and the numbers are at most 2^122
pub divisor_some : (g : ℤ) (d : ℕ) → g ≡ pos d → (g ≡ pos 0 → ⊥) → pos 1 ≤ℤ g
divisor_some g zero e n = absurd (n e)
divisor_some g (suc d) e n = rw e (omega (arith, ints))

pub moderate_of : (g : ℤ) (f : Affine) → g ≡ pos (content f.coefs) → (g ≡ pos 0 → ⊥) → (content f.coefs ≡ 0) ⊎ IsFormUpTo2To122 f → IsFormUpTo2To122 f
moderate_of g f e n (inl z) = absurd (n (e ∙ ap pos z))
moderate_of g f e n (inr m) = m

pub divisor_divides : (g : ℤ) (f : Affine) → g ≡ pos (content f.coefs) → DividesEach (unsigned_abs g) f.coefs
divisor_divides g f e = rw e (content_divides (content f.coefs) f refl)

pub content_fits : (f : Affine) → (content f.coefs ≡ 0) ⊎ IsFormUpTo2To122 f → content f.coefs < 2 ^ 127
content_fits f (inl z) = omega (arith, z)
content_fits f (inr m) = content_small f m

-- ---- an equality whose coefficients have no common divisor stands as it is, or with the opposite sign

divided_by_one : (k : ℤ) → divides 1 k ≡ true
divided_by_one k = grind arith

over_one : (k c : ℤ) → int_div_euclid (k *ℤ c) (pos 1) ≡ k *ℤ c
over_one k c = sym (floor_exact (k *ℤ c) 1 (omega arith) (divides-true 1 (k *ℤ c) (divided_by_one (k *ℤ c))) ∙ one_times (int_div_euclid (k *ℤ c) (pos 1)))

alike-trans : (f g h : Affine) → Alike f g → Alike g h → Alike f h
alike-trans f g h a b = record { konst = b.konst ∙ a.konst; coefs = λ j. b.coefs j ∙ a.coefs j }

once_alike : (f : Affine) → Alike f (half 1 (pos 1) f)
once_alike f = record {
  konst = over_one (pos 1) f.konst ∙ one_times f.konst;
  coefs = λ j. coef-half 1 (pos 1) f j (omega arith) ∙ over_one (pos 1) (coef j f) ∙ one_times (coef j f);
}

-- -1 times the form, as a sum with 0 times it
abbrev turned : Affine → Affine
turned f = combined (negsuc 0) f (pos 0) f

turned_value : (c : ℤ) → negsuc 0 *ℤ c +ℤ pos 0 *ℤ c ≡ negsuc 0 *ℤ c
turned_value c = omega (arith, ints)

turned_alike : (f : Affine) → Alike (turned f) (half 1 (negsuc 0) f)
turned_alike f = record {
  konst = over_one (negsuc 0) f.konst ∙ sym (turned_value f.konst);
  coefs = λ j. coef-half 1 (negsuc 0) f j (omega arith) ∙ over_one (negsuc 0) (coef j f) ∙ sym (get_or-mix (negsuc 0) f.coefs (pos 0) f.coefs j ∙ turned_value (coef j f));
}

mix_turned : (c : ℤ) → unsigned_abs c ≤ 2 ^ 122 → MixFits (negsuc 0) c (pos 0) c
mix_turned c l = (fits_small (negsuc 0 *ℤ c) (omega (arith, turned_small c, l)), fits_small (pos 0 *ℤ c) (rw (no_times c) (omega arith)), rw (turned_value c) (fits_small (negsuc 0 *ℤ c) (omega (arith, turned_small c, l))))
  where
    no_times : (c : ℤ) → pos 0 *ℤ c ≡ pos 0
    no_times c = omega (arith, ints)

pub turned_blends : (f : Affine) → IsFormUpTo2To122 f → Blends (negsuc 0) f (pos 0) f
turned_blends f m = record { konst = mix_turned f.konst m.konst; coefs = λ j. mix_turned (coef j f) (m.coefs j) }

pub unit_kept : (t : TreePath) (start path : Conj) (names : List ℕ) (x : ℕ) (f : Affine) → content f.coefs ≡ 1 → leads_negative f.coefs ≡ false → Reaches t start path → StandsAt names path x (Eq f) → Shows t start path names x (normal_eq f)
unit_kept t start path names x f e l h a =
    bounds_kept t start path names x 1 (pos 1) f (sym e) (omega arith) (divided_by_one f.konst) (low_signed 1 f (omega arith) (content_divides 1 f (sym e)) l) (record {
      further = path;
      reaches = h;
      onto = onto-self path;
      stands = alike_equality names path x f (half 1 (pos 1) f) (once_alike f) a;
    })

pub unit_turned : (u : TreePath) (start path : Conj) (names : List ℕ) (i : ℕ) (f : Affine) → content f.coefs ≡ 1 → leads_negative f.coefs ≡ true → Leads u start path names i (Eq (turned f)) → Shows u start path names i (normal_eq f)
unit_turned u start path names i f e l h =
    bounds_kept u start path names i 1 (negsuc 0) f (sym e) (omega arith) (divided_by_one f.konst)
    (high_signed 1 f (omega arith) (content_divides 1 f (sym e)) (divides-true 1 f.konst (divided_by_one f.konst)) l) (record {
      further = h.further;
      reaches = h.reaches;
      onto = h.onto;
      stands = alike_equality names h.further i (turned f) (half 1 (negsuc 0) f) (turned_alike f) h.stands;
    })
