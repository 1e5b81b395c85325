-- Steps to the quotient of a residue, and to the rows less a multiple of its row.
use Rattle.std.proofs.Common.{lit<, ◌≡◌, ℕ, zero, suc, ◌+◌, ◌-◌, ◌<◌, ◌≤◌, ℤ, pos, negsuc, neg_ℤ, ◌+ℤ◌, ◌-ℤ◌, ◌*ℤ◌, ◌≤ℤ◌, List, [], ◌∷◌, ◌++◌, length, get_or, replicate, Some, true, ◌⊎◌, inl, inr, to_z, of_z, unsigned_abs, refl, sym, ap, ◌∙◌, subst, arith, length-append}
use Rattle.std.specs.Int.{w128, ◌∣◌}
use Rattle.ac_base.proofs.Bits.{again_128}
use Rattle.std.proofs.lemmas.Int.{ints}
use Rattle.std.proofs.lemmas.List.{length-replicate}
use Rattle.std.proofs.lemmas.Nat.Gcd.{dvd-zero, dvd_refl}
use Rattle.ac_base.proofs.Columns.{get_or-mix}
use Rattle.ac_base.proofs.Divisors.{true-divides}
use Rattle.ac_forms.specs.Affine.{Affine, coef, combined, MixFits}
use Rattle.ac_forms.specs.Fits.{Fits}
use Rattle.ac_forms.specs.Negation.{with_column}
use Rattle.ac_forms.specs.Rows.{form_of}
use Rattle.ac_forms.specs.declared.conj.Conj.{Conj}
use Rattle.ac_forms.specs.declared.row.Row.{Row}
use Rattle.ac_forms.specs.declared.row.Row.TheVariants.{Eq, Div, Ge}
use Rattle.ac_cert.specs.declared.types.Step.{Step}
use Rattle.ac_cert.specs.declared.types.Step.TheVariants.{DivMod}
use Rattle.ac_cert.specs.Rules.{after_step, with_row, with_column_row, divides_form}
use Rattle.ac_cert.specs.StepRows.{IsAt}
use Rattle.ac_cert.proofs.Equations.{div_mod-row}
use Rattle.ac_omega_certify.specs.declared.path.TreePath.{TreePath}
use Rattle.ac_omega_certify.proofs.Distinct.{name-within}
use Rattle.ac_omega_certify.specs.Descents.{AreNames, column_less}
use Rattle.ac_omega_certify.specs.Residues.{quotient_form, less_times, CanTake}
use Rattle.ac_forms.specs.Renaming.{with_form}
use Rattle.ac_omega_certify.specs.TreePathRows.{Renames, Alike, Blends, StandsAt, CanAdd, sum_of, IsOnto, Reaches, Leads, Grows}
use Rattle.ac_omega_certify.proofs.Terms.{once}
use Rattle.ac_omega_certify.proofs.Renaming.{fits-zero, none_fits, renames-blends, blends-can, renames-alike}
use Rattle.ac_omega_certify.proofs.Quotients.{each-true}
use Rattle.ac_omega_certify.proofs.Paths.{steps-further, get-last, onto-self, onto-row, onto-again}
use Rattle.ac_omega_certify.proofs.Places.{is-or-not}
use Rattle.ac_omega_certify.proofs.Spreading.{column-long, column-at, column-off, renames-class, renames-further}

-- ---- the column's own form

less_nothing : (r : ℤ) → pos 0 +ℤ neg_ℤ r ≡ neg_ℤ r
less_nothing r = omega (arith, ints)

opposites : (x y : ℤ) → x ≡ y → pos 1 *ℤ x +ℤ neg_ℤ (pos 1) *ℤ y ≡ pos 0
opposites x y e = omega (arith, ints, e)

once-turned : (x : ℤ) → neg_ℤ (pos 1) *ℤ x ≡ neg_ℤ x
once-turned x = omega (arith, ints)

turned-again : (r : ℤ) → neg_ℤ (neg_ℤ r) ≡ r
turned-again r = omega (arith, ints)

opposites-fit : (x : ℤ) → Fits x → Fits (neg_ℤ x) → MixFits (pos 1) x (neg_ℤ (pos 1)) x
opposites-fit x a b = rw (opposites x x refl, once x, once-turned x) (a, b, fits-zero)

turned-fits : (r : ℤ) → pos 0 ≤ℤ r → Fits r → Fits (neg_ℤ r)
turned-fits (pos zero) l h = fits-zero
turned-fits (pos (suc n)) l h = record { sfits = omega (arith, ints, h.sfits) }
turned-fits (negsuc n) l h = absurd (omega (arith, ints, l))

own-blends : (n z : ℕ) (r : ℤ) → pos 0 ≤ℤ r → Fits r → Blends (pos 1) (column_less n z r) (neg_ℤ (pos 1)) (column_less n z r)
own-blends n z r l h = record {
  konst = rw (less_nothing r) (opposites-fit (neg_ℤ r) (turned-fits r l h) (rw (turned-again r) h));
  coefs = λ j. is-or-not j z
      (λ is. rw (is, column-at n z r) (opposites-fit (pos 1) (record { sfits = lit< tt }) (record { sfits = lit< tt })))
      (λ off. rw (column-off n z j r off) (none_fits (pos 1) (neg_ℤ (pos 1))));
}

gone : (d : ℕ) (x y : ℤ) → x ≡ y → d ∣ unsigned_abs (pos 1 *ℤ x +ℤ neg_ℤ (pos 1) *ℤ y)
gone d x y e = rw (opposites x y e) (dvd-zero d)

-- two forms on the path of one form say the same
same-divides : (g : ℤ) (names : List ℕ) (f e h : Affine) → Renames names f e → Renames names f h → divides_form g (combined (pos 1) e (neg_ℤ (pos 1)) h) ≡ true
same-divides g names f e h x y =
    rw (true-divides (unsigned_abs g) (combined (pos 1) e (neg_ℤ (pos 1)) h).konst (gone (unsigned_abs g) e.konst h.konst (x.konst ∙ sym y.konst)))
    (each-true g (combined (pos 1) e (neg_ℤ (pos 1)) h).coefs (λ j. rw (get_or-mix (pos 1) e.coefs (neg_ℤ (pos 1)) h.coefs j) (gone (unsigned_abs g) (coef j e) (coef j h) (x.coefs j ∙ sym (y.coefs j)))))

-- that m divides a form that stands, said of another one that says the same
stated : (names : List ℕ) (c : Conj) (i : ℕ) (m : ℤ) (f e h : Affine) → IsAt c i (Div m e) → Renames names f e → Renames names f h → length h.coefs ≤ c.columns → pos 1 ≤ℤ m → Fits m → Blends (pos 1) f (neg_ℤ (pos 1)) f
    → after_step (DivMod i (pos 1) m h) c ≡ Some (with_row c (Div m h))
stated names c i m f e h at x y short one fits b =
    div_mod-row c i (pos 1) m m e h at (omega (arith, ints)) one short (rw (once m) fits)
    (rw (once m) (true-divides (unsigned_abs m) m (dvd_refl (unsigned_abs m))))
    (blends-can (pos 1) e (neg_ℤ (pos 1)) h (renames-blends names (pos 1) f (neg_ℤ (pos 1)) f e h x y b))
    (same-divides (pos 1 *ℤ m) names f e h x y)

class-long : (name : ℕ) (k : ℤ) (f : Affine) → f.coefs ≡ [] → length (with_column name k f).coefs ≡ name + 1
class-long name k f e = rw e (length-append (replicate (name - 0) (pos 0)) (k ∷ []) ∙ rw (length-replicate (name - 0) (pos 0)) (omega arith))

-- ---- a further row

pub grown_reaches : (t u : TreePath) (s : Step) (i : ℕ) (start path : Conj) (r : Row) → Grows t u s i → Reaches t start path → after_step s path ≡ Some (with_row path r) → Reaches u start (with_row path r)
grown_reaches t u s i start path r g h k = record {
  steps = rw g.steps (steps-further t.steps s start path (with_row path r) h.steps k);
  columns = h.columns ∙ sym g.columns;
  rows = omega (arith, length-append path.rows (r ∷ []), h.rows, g.rows);
}

onto-column : (c : Conj) (r : Row) → IsOnto c (with_column_row c r)
onto-column c r = record { more = r ∷ []; rows = refl; columns = omega arith }

pub quotient_leads : (t u v : TreePath) (start path : Conj) (names : List ℕ) (z class said i : ℕ) (m r : ℤ) (form : Affine)
    → form ≡ with_column (get_or names z 0) (pos 1) (record { konst = neg_ℤ r; coefs = [] }) → z < length names → pos 1 ≤ℤ m → pos 0 ≤ℤ r → Fits m → Fits r
    → Grows t u (DivMod class (pos 1) m form) said → i ≡ u.rows
    → ((start path : Conj) (m : ℤ) (f : Affine) → Reaches u start path → IsAt path said (Div m f) → pos 1 ≤ℤ m → length f.coefs ≤ path.columns → Reaches v start (with_column_row path (Eq (with_column path.columns (neg_ℤ m) f))))
    → Reaches t start path → AreNames t.columns names → StandsAt names path class (Div m (column_less (length names) z r)) → Leads v start path (names ++ t.columns ∷ []) i (Eq (quotient_form (length names) z m r))
quotient_leads t u v start path names z class said i m r form is l one low fm fr g place quot h ns s =
    let own : Renames names (column_less (length names) z r) form = rw is (renames-class names z t.columns r ns l) in
    let name : get_or names z 0 < t.columns = name-within t.columns names ns.within z l in
    let long : length form.coefs ≡ get_or names z 0 + 1 = rw is (class-long (get_or names z 0) (pos 1) (record { konst = neg_ℤ r; coefs = [] }) refl) in
    let short : length form.coefs ≤ path.columns = omega (arith, long, name, h.columns) in
    let first = with_row path (Div m form) in
    let one_more : Reaches u start first = grown_reaches t u (DivMod class (pos 1) m form) said start path (Div m form) g h (stated names path class m (column_less (length names) z r) s.form form s.at s.renames own short one fm (own-blends (length names) z r low fr)) in
    let at : IsAt first said (Div m form) = rw (g.place, ← h.rows) (get-last path.rows (Div m form)) in
    let row = Eq (with_column path.columns (neg_ℤ m) form) in
    let second = with_column_row first row in
    record {
      further = second;
      reaches = quot start first m form one_more at one short;
      onto = onto-again path first second (onto-row path (Div m form)) (onto-column first row);
      stands = record {
        form = with_column path.columns (neg_ℤ m) form;
        at = rw (place, ← one_more.rows) (get-last first.rows row);
        renames = rw h.columns (renames-further names z t.columns (neg_ℤ m) (column_less (length names) z r) form ns l (omega (arith, column-long (length names) z l)) (omega (arith, short, h.columns)) own);
      };
    }

-- ---- rows less a multiple of an equality

no-multiple : (x a y : ℤ) → a ≡ pos 0 → pos 1 *ℤ x +ℤ neg_ℤ a *ℤ y ≡ x
no-multiple x a y e = rw e (once-only x y)
  where
    once-only : (x y : ℤ) → pos 1 *ℤ x +ℤ pos 0 *ℤ y ≡ x
    once-only x y = omega (arith, ints)

none-alike : (f e : Affine) (a : ℤ) → a ≡ pos 0 → Alike f (combined (pos 1) f (neg_ℤ a) e)
none-alike f e a is = record {
  konst = no-multiple f.konst a e.konst is;
  coefs = λ j. get_or-mix (pos 1) f.coefs (neg_ℤ a) e.coefs j ∙ no-multiple (coef j f) a (coef j e) is;
}

-- a row that stands, with another form that stands where its own does
pub form-stands : (names new : List ℕ) (c : Conj) (i : ℕ) (r : Row) (f : Affine) → StandsAt names c i r → ((g : Affine) → Renames names (form_of r) g → Renames new f g) → StandsAt new c i (with_form r f)
form-stands names new c i (Eq e) f s h = record { form = s.form; at = s.at; renames = h s.form s.renames }
form-stands names new c i (Div m e) f s h = record { form = s.form; at = s.at; renames = h s.form s.renames }
form-stands names new c i (Ge e) f s h = record { form = s.form; at = s.at; renames = h s.form s.renames }

pub none_taken : (t : TreePath) (start path : Conj) (names : List ℕ) (place z : ℕ) (e : Affine) (r : Row) → coef z (form_of r) ≡ pos 0 → Reaches t start path → StandsAt names path place r → Leads t start path names place (less_times z e r)
none_taken t start path names place z e r none h s = record {
  further = path;
  reaches = h;
  onto = onto-self path;
  stands = form-stands names names path place r (combined (pos 1) (form_of r) (neg_ℤ (coef z (form_of r))) e) s (λ g x. renames-alike names (form_of r) (combined (pos 1) (form_of r) (neg_ℤ (coef z (form_of r))) e) g x (none-alike (form_of r) e (coef z (form_of r)) none));
}

-- a row that is an equality or a bound may stand in a sum
pub adds-once : (r : Row) → ((f : Affine) × (r ≡ Eq f)) ⊎ ((f : Affine) × (r ≡ Ge f)) → CanAdd (pos 1) r
adds-once r (inl h) = rw h.1 tt
adds-once r (inr h) = rw h.1 (omega (arith, ints))

sum-is : (r : Row) (k : ℤ) (e : Affine) → CanAdd (pos 1) r → sum_of (pos 1) r k (Eq e) ≡ with_form r (combined (pos 1) (form_of r) k e)
sum-is (Eq f) k e h = refl
sum-is (Div m f) k e h = absurd h
sum-is (Ge f) k e h = refl

pub sum_taken : (t u : TreePath) (start path : Conj) (names : List ℕ) (x y i z : ℕ) (k : ℤ) (e : Affine) (r : Row) → CanAdd (pos 1) r → k ≡ neg_ℤ (coef z (form_of r))
    → ((start path : Conj) (names : List ℕ) (r s : Row) → Reaches t start path → StandsAt names path x r → StandsAt names path y s → CanAdd (pos 1) r → CanAdd k s → Blends (pos 1) (form_of r) k (form_of s) → Leads u start path names i (sum_of (pos 1) r k s))
    → Reaches t start path → StandsAt names path x r → StandsAt names path y (Eq e) → CanTake z e r → Leads u start path names i (less_times z e r)
sum_taken t u start path names x y i z k e r one is add h a b v =
    subst (λ (l : ℤ). Leads u start path names i (with_form r (combined (pos 1) (form_of r) l e))) is
    (subst (λ (s : Row). Leads u start path names i s) (sum-is r k e one) (add start path names r (Eq e) h a b one tt (rw is v.blends)))

pub divisibility_taken : (t u : TreePath) (start path : Conj) (names : List ℕ) (x y i z : ℕ) (k m : ℤ) (f e : Affine) (r : Row) → r ≡ Div m f → k ≡ neg_ℤ (coef z (form_of r))
    → ((start path : Conj) (names : List ℕ) (f g : Affine) → Reaches t start path → StandsAt names path x (Div m f) → StandsAt names path y (Eq g) → pos 1 ≤ℤ pos 1 → pos 1 ≤ℤ m → Blends (pos 1) f k g → Leads u start path names i (Div (pos 1 *ℤ m) (combined (pos 1) f k g)))
    → Reaches t start path → StandsAt names path x r → StandsAt names path y (Eq e) → CanTake z e r → Leads u start path names i (less_times z e r)
divisibility_taken t u start path names x y i z k m f e r row is add h a b v =
    by (subst (λ (s : Row). StandsAt names path x s) row a) (subst (CanTake z e) row v) (is ∙ ap (λ (s : Row). neg_ℤ (coef z (form_of s))) row)
  where
    by : StandsAt names path x (Div m f) → CanTake z e (Div m f) → k ≡ neg_ℤ (coef z f) → Leads u start path names i (less_times z e r)
    by a v is =
        let made : Leads u start path names i (Div m (combined (pos 1) f k e)) = subst (λ (n : ℤ). Leads u start path names i (Div n (combined (pos 1) f k e))) (once m) (add start path names f e h a b (omega (arith, ints)) v.modulus (rw is v.blends)) in
        rw row (subst (λ (l : ℤ). Leads u start path names i (Div m (combined (pos 1) f l e))) is made)

-- ---- numbers as code makes them

pub zero_test : (x : ℤ) → Fits x → of_z w128 x ≡ 0 → x ≡ pos 0
zero_test x h e = sym (again_128 x h) ∙ ap (to_z w128) e

pub turned_made : (x y : ℤ) → x ≡ y → pos 0 -ℤ x ≡ neg_ℤ y
turned_made x y e = omega (arith, ints, e)
