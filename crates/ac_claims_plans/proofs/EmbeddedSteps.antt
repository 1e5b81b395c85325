-- Each step and branch of the conjunction, and its like on the path.
use Rattle.std.proofs.Common.{◌≡◌, ℕ, zero, suc, ◌≤◌, ℤ, pos, negsuc, ◌+ℤ◌, ◌-ℤ◌, ◌*ℤ◌, neg_ℤ, List, [], ◌∷◌, length, map, Option, Some, None, Bool, true, false, ◌&&◌, cond, int_le, nat_le, nat_eq, slice_get, unsigned_abs, refl, ap, ◌∙◌, subst, arith}
use Rattle.std.specs.Prelude.{option_and_then, option_map}
use Rattle.std.specs.Ordering.{int_eq}
use Rattle.ac_base.specs.Multiple.{divides}
use Rattle.ac_forms.specs.Affine.{Affine, shifted}
use Rattle.ac_forms.specs.Fits.{fits}
use Rattle.ac_forms.specs.Negation.{with_column, opposite}
use Rattle.ac_forms.specs.RangeTests.{form_fits}
use Rattle.ac_forms.specs.Rows.{form_of, IsWellMade}
use Rattle.ac_forms.specs.declared.conj.Conj.{Conj}
use Rattle.ac_forms.specs.declared.row.Row.{Row}
use Rattle.ac_forms.specs.declared.row.Row.TheVariants.{Eq, Div, Ge}
use Rattle.ac_cert.specs.declared.types.Step.{Step}
use Rattle.ac_cert.specs.declared.types.Step.TheVariants.{Add, Cut, DivScale, DivAdd, DivMod, DivEq, Quot, Floor, EqCut}
use Rattle.ac_omega_steps.specs.Combination.{combination}
use Rattle.ac_cert.specs.Rules.{multiple_of, rest_of, with_row, with_column_row, sum_from, sum_row, zero_form, are_equalities, divides_each, cut_row, quotient_form, greater_modulus, div_scale_row, div_add_row, div_mod_stands, reduced_row, divides_form, div_mod_row, div_eq_row, less_column, quotient, floor_of, is_zero, eq_cut_row, after_step, side_rows, both_sides, has_class, class_row, class, is_partition}
use Rattle.ac_omega_steps.proofs.Keeping.{row-made}
use Rattle.ac_base.proofs.Options.{bind-some, map-some, if-some, unless-some, some-is}
use Rattle.ac_base.proofs.Truths.{and-true, le-true, true-nat_le}
use Rattle.ac_claims_plans.specs.declared.embedding.Embedding.{Embedding}
use Rattle.ac_forms.specs.Renaming.{with_form}
use Rattle.ac_claims_plans.proofs.Named.{named, Renames, Stands, IsShifted}
use Rattle.ac_claims_plans.specs.Embeddings.{row_on, moved_form, moved_terms, moved_step}
use Rattle.ac_claims_plans.proofs.Forms.{renames-moved, moved-within}
use Rattle.ac_claims_plans.proofs.Renamings.{Made, renames-column, renames-zero, renames-shifted, moved-combination, moved-multiple, moved-rest, moved-divides, moved-divides_form, renames-quotient, moved-is_zero}
use Rattle.ac_claims_plans.proofs.Rows.{next-column, shifted-row, shifted-column}
use Rattle.ac_claims_plans.proofs.Sums.{moved-sum}

-- a row that is made on the path
record MadeRow (names : ℕ → Option ℕ) (r : Row) (made : Option Row) : Type 0 where
  form : Affine
  is : made ≡ Some (with_form r form)
  renames : Renames names (form_of r) form

made-row : (names : ℕ → Option ℕ) (q r : Row) (f : Affine) (made : Option Row) → r ≡ q → made ≡ Some (with_form q f) → Renames names (form_of q) f → MadeRow names r made
made-row names q r f made e is a = rw e (record { form = f; is = is; renames = a })

-- what is made on the path stands there
pub record MadeOn (s : Embedding) (c : Conj) (made : Option Conj) : Type 0 where
  pub path : Conj
  pub is : made ≡ Some path
  pub shifted : IsShifted s c path

row-on : (s : Embedding) (b c d : Conj) (o p : Option Row) → IsShifted s b d → option_map (with_row b) o ≡ Some c → ((r : Row) → o ≡ Some r → MadeRow (named s) r p) → MadeOn s c (option_map (with_row d) p)
row-on s b c d o p x e h =
    let u = map-some o (with_row b) c e in
    let m = h u.0 u.1 in
    rw u.2 (record { path = with_row d (with_form u.0 m.form); is = rw m.is refl; shifted = shifted-row s b d u.0 m.form x m.renames })

-- ---- rows that are made of one row

cut-on : (names : ℕ → Option ℕ) (g : ℤ) (d : Conj) (i : ℕ) (q r : Row) → Stands names d i q → cut_row g (Some q) ≡ Some r → MadeRow names r (cut_row g (slice_get d.rows i))
cut-on names g d i (Eq f) r a e = absurd cc
cut-on names g d i (Div m f) r a e = absurd cc
cut-on names g d i (Ge f) r a e =
    let u = if-some (int_le (pos 1) g && divides_each g f.coefs) (Some (Ge (quotient_form g f))) r e in
    let both = and-true (int_le (pos 1) g) (divides_each g f.coefs) u.0 in
    rw (a.at, both.0, moved-divides names g f a.form a.renames both.1) (
    subst (λ (x : Row). MadeRow names x (Some (Ge (quotient_form g a.form)))) (some-is (Ge (quotient_form g f)) r u.1)
    (record { form = quotient_form g a.form; is = refl; renames = renames-quotient names g f a.form (le-true (pos 1) g both.0) a.renames })
    )

scale-is : (k m n : ℤ) (o : Option Row) (g h : Affine) → o ≡ Some (Div m g) → int_eq k (pos 0) ≡ false → greater_modulus m k ≡ Some n → multiple_of k g ≡ Some h → div_scale_row k o ≡ Some (Div n h)
scale-is k m n o g h e a b c = rw (e, a, b, c) refl

add-is : (k l m n : ℤ) (o p : Option Row) (f g h : Affine) → o ≡ Some (Div m f) → p ≡ Some (Div n g) → int_eq m n ≡ true → combination k f l g ≡ Some h → div_add_row k o l p ≡ Some (Div m h)
add-is k l m n o p f g h e d a b = rw (e, d, a, b) refl

scale-on : (names : ℕ → Option ℕ) (k : ℤ) (d : Conj) (i : ℕ) (q r : Row) → Stands names d i q → div_scale_row k (Some q) ≡ Some r → MadeRow names r (div_scale_row k (slice_get d.rows i))
scale-on names k d i (Eq f) r a e = absurd cc
scale-on names k d i (Ge f) r a e = absurd cc
scale-on names k d i (Div m f) r a e =
    let u = unless-some (int_eq k (pos 0)) (option_and_then (λ n. option_map (λ g. Div n g) (multiple_of k f)) (greater_modulus m k)) r e in
    let v = bind-some (greater_modulus m k) (λ n. option_map (λ g. Div n g) (multiple_of k f)) r u.1 in
    let w = map-some (multiple_of k f) (λ g. Div v.0 g) r v.2 in
    let made = moved-multiple names k f a.form w.0 a.renames w.1 in
    made-row names (Div v.0 w.0) r made.form (div_scale_row k (slice_get d.rows i)) w.2 (scale-is k m v.0 (slice_get d.rows i) a.form made.form a.at u.0 v.1 made.is) made.renames

add-on : (names : ℕ → Option ℕ) (k l : ℤ) (d : Conj) (i j : ℕ) (p q r : Row) → Stands names d i p → Stands names d j q → div_add_row k (Some p) l (Some q) ≡ Some r → MadeRow names r (div_add_row k (slice_get d.rows i) l (slice_get d.rows j))
add-on names k l d i j (Eq f) q r a b e = absurd cc
add-on names k l d i j (Ge f) q r a b e = absurd cc
add-on names k l d i j (Div m f) (Eq g) r a b e = absurd cc
add-on names k l d i j (Div m f) (Ge g) r a b e = absurd cc
add-on names k l d i j (Div m f) (Div n g) r a b e =
    let u = if-some (int_eq m n) (option_map (λ h. Div m h) (combination k f l g)) r e in
    let w = map-some (combination k f l g) (λ h. Div m h) r u.1 in
    let made = moved-combination names k f l g w.0 a.form b.form a.renames b.renames w.1 in
    made-row names (Div m w.0) r made.form (div_add_row k (slice_get d.rows i) l (slice_get d.rows j)) w.2 (add-is k l m n (slice_get d.rows i) (slice_get d.rows j) a.form b.form made.form a.at b.at u.0 made.is) made.renames

eq-on : (names : ℕ → Option ℕ) (n : ℤ) (d : Conj) (i : ℕ) (q r : Row) → Stands names d i q → div_eq_row n (Some q) ≡ Some r → MadeRow names r (div_eq_row n (slice_get d.rows i))
eq-on names n d i (Div m f) r a e = absurd cc
eq-on names n d i (Ge f) r a e = absurd cc
eq-on names n d i (Eq f) r a e =
    let u = if-some (int_le (pos 1) n) (Some (Div n f)) r e in
    rw (a.at, u.0) (subst (λ (x : Row). MadeRow names x (Some (Div n a.form))) (some-is (Div n f) r u.1) (record { form = a.form; is = refl; renames = a.renames }))

cut_eq-on : (names : ℕ → Option ℕ) (d : Conj) (i j : ℕ) (p q r : Row) → Stands names d i p → Stands names d j q → eq_cut_row (Some p) (Some q) ≡ Some r → MadeRow names r (eq_cut_row (slice_get d.rows i) (slice_get d.rows j))
cut_eq-on names d i j (Eq f) q r a b e = absurd cc
cut_eq-on names d i j (Div m f) q r a b e = absurd cc
cut_eq-on names d i j (Ge f) (Eq g) r a b e = absurd cc
cut_eq-on names d i j (Ge f) (Div m g) r a b e = absurd cc
cut_eq-on names d i j (Ge f) (Ge g) r a b e =
    let u = bind-some (combination (pos 1) f (pos 1) g) (λ s. cond (is_zero s) (Some (Eq f)) None) r e in
    let v = if-some (is_zero u.0) (Some (Eq f)) r u.2 in
    let made = moved-combination names (pos 1) f (pos 1) g u.0 a.form b.form a.renames b.renames u.1 in
    rw (a.at, b.at, made.is, moved-is_zero names u.0 made.form made.renames v.0) (
    subst (λ (x : Row). MadeRow names x (Some (Eq a.form))) (some-is (Eq f) r v.1) (record { form = a.form; is = refl; renames = a.renames })
    )

mod-stands : (n m : ℕ) (g k q : ℤ) (f h : Affine) → div_mod_stands n g k q f ≡ true → (length f.coefs ≤ n → length h.coefs ≤ m) → div_mod_stands m g k q h ≡ true
unfolding div_mod_stands
mod-stands n m g k q f h e l =
    let a = and-true (int_le (pos 1) g) (int_le (pos 1) k && (nat_le (length f.coefs) n && (fits (g *ℤ k) && divides (unsigned_abs (g *ℤ k)) q))) e in
    let b = and-true (int_le (pos 1) k) (nat_le (length f.coefs) n && (fits (g *ℤ k) && divides (unsigned_abs (g *ℤ k)) q)) a.1 in
    let c = and-true (nat_le (length f.coefs) n) (fits (g *ℤ k) && divides (unsigned_abs (g *ℤ k)) q) b.1 in
    let short : length f.coefs ≤ n = grind (arith, c.0) in
    rw (a.0, b.0, true-nat_le (length h.coefs) m (l short)) c.1

mod-on : (names : ℕ → Option ℕ) (n m : ℕ) (g k : ℤ) (f h : Affine) (d : Conj) (i : ℕ) (q r : Row) → Stands names d i q → Renames names f h → (length f.coefs ≤ n → length h.coefs ≤ m) → div_mod_row n g k f (Some q) ≡ Some r → MadeRow names r (div_mod_row m g k h (slice_get d.rows i))
mod-on names n m g k f h d i (Eq w) r a x l e = absurd cc
mod-on names n m g k f h d i (Ge w) r a x l e = absurd cc
mod-on names n m g k f h d i (Div q w) r a x l e =
    let u = if-some (div_mod_stands n g k q f) (reduced_row g k f (combination (pos 1) w (neg_ℤ g) f)) r e in
    let v = bind-some (combination (pos 1) w (neg_ℤ g) f) (λ z. cond (divides_form (g *ℤ k) z) (Some (Div k f)) None) r u.1 in
    let y = if-some (divides_form (g *ℤ k) v.0) (Some (Div k f)) r v.2 in
    let made = moved-combination names (pos 1) w (neg_ℤ g) f v.0 a.form h a.renames x v.1 in
    rw (a.at, mod-stands n m g k q f h u.0 l, made.is, moved-divides_form names (g *ℤ k) v.0 made.form made.renames y.0) (
    subst (λ (z : Row). MadeRow names z (Some (Div k h))) (some-is (Div k f) r y.1) (record { form = h; is = refl; renames = x })
    )

terms-long : (s : Embedding) (ts : List (ℕ × ℤ)) → length (moved_terms s ts) ≡ length ts
terms-long s [] = refl
terms-long s (t ∷ ts) = ap (λ (n : ℕ). suc n) (terms-long s ts)

sum-is : (ts : List (ℕ × ℤ)) (rows : List Row) (f : Affine) (b : Bool) → nat_eq (length ts) 0 ≡ false → sum_from zero_form ts rows ≡ Some f → are_equalities ts rows ≡ b → sum_row ts rows ≡ Some (cond b (Eq f) (Ge f))
unfolding sum_row
sum-is ts rows f b e a c = rw (e, a, c) refl

sum-on : (s : Embedding) (c d : Conj) (ts : List (ℕ × ℤ)) (r : Row) → IsShifted s c d → sum_row ts c.rows ≡ Some r → MadeRow (named s) r (sum_row (moved_terms s ts) d.rows)
unfolding sum_row
sum-on s c d ts r x e =
    let u = unless-some (nat_eq (length ts) 0) (option_map (λ f. cond (are_equalities ts c.rows) (Eq f) (Ge f)) (sum_from zero_form ts c.rows)) r e in
    let v = map-some (sum_from zero_form ts c.rows) (λ f. cond (are_equalities ts c.rows) (Eq f) (Ge f)) r u.1 in
    let made = moved-sum s c d ts zero_form zero_form v.0 x (renames-zero (named s)) v.1 in
    let is : sum_row (moved_terms s ts) d.rows ≡ Some (cond (are_equalities ts c.rows) (Eq made.form) (Ge made.form)) = sum-is (moved_terms s ts) d.rows made.form (are_equalities ts c.rows) (ap (λ (n : ℕ). nat_eq n 0) (terms-long s ts) ∙ u.0) made.is made.same in
    kind (are_equalities ts c.rows) v.0 made.form made.renames v.2 is
  where
    kind : (b : Bool) (f g : Affine) → Renames (named s) f g → r ≡ cond b (Eq f) (Ge f) → sum_row (moved_terms s ts) d.rows ≡ Some (cond b (Eq g) (Ge g)) → MadeRow (named s) r (sum_row (moved_terms s ts) d.rows)
    kind true f g a e is = made-row (named s) (Eq f) r g (sum_row (moved_terms s ts) d.rows) e is a
    kind false f g a e is = made-row (named s) (Ge f) r g (sum_row (moved_terms s ts) d.rows) e is a

-- ---- a row at a place

place-on : (s : Embedding) (c d : Conj) (i : ℕ) (r : Row) (make : Option Row → Option Row) (made : Option Row → Option Row) → IsShifted s c d → make None ≡ None
    → ((q : Row) → Stands (named s) d (row_on s i) q → make (Some q) ≡ Some r → MadeRow (named s) r (made (slice_get d.rows (row_on s i)))) → make (slice_get c.rows i) ≡ Some r → MadeRow (named s) r (made (slice_get d.rows (row_on s i)))
place-on s c d i r make made x none h e = by (slice_get c.rows i) refl e
  where
    by : (o : Option Row) → slice_get c.rows i ≡ o → make o ≡ Some r → MadeRow (named s) r (made (slice_get d.rows (row_on s i)))
    by None p e = absurd cc
    by (Some q) p e = h q (x.rows i q p) e

-- rows at two places
two-on : (s : Embedding) (c d : Conj) (i j : ℕ) (r : Row) (make made : Option Row → Option Row → Option Row) → IsShifted s c d → ((q : Option Row) → make None q ≡ None) → ((p : Row) → make (Some p) None ≡ None)
    → ((p q : Row) → Stands (named s) d (row_on s i) p → Stands (named s) d (row_on s j) q → make (Some p) (Some q) ≡ Some r → MadeRow (named s) r (made (slice_get d.rows (row_on s i)) (slice_get d.rows (row_on s j)))) → make (slice_get c.rows i) (slice_get c.rows j) ≡ Some r → MadeRow (named s) r (made (slice_get d.rows (row_on s i)) (slice_get d.rows (row_on s j)))
two-on s c d i j r make made x none-first none-second h e = by (slice_get c.rows i) (slice_get c.rows j) refl refl e
  where
    by : (o p : Option Row) → slice_get c.rows i ≡ o → slice_get c.rows j ≡ p → make o p ≡ Some r → MadeRow (named s) r (made (slice_get d.rows (row_on s i)) (slice_get d.rows (row_on s j)))
    by None p a b e = let n = none-first p in absurd cc
    by (Some p) None a b e = let n = none-second p in absurd cc
    by (Some p) (Some q) a b e = h p q (x.rows i p a) (x.rows j q b) e

no-second : (k l : ℤ) (p : Row) → div_add_row k (Some p) l None ≡ None
no-second k l (Eq f) = refl
no-second k l (Div m f) = refl
no-second k l (Ge f) = refl

no-other : (p : Row) → eq_cut_row (Some p) None ≡ None
no-other (Eq f) = refl
no-other (Div m f) = refl
no-other (Ge f) = refl

-- the columns of what is made
less-within : (n : ℕ) (m : ℤ) (f h : Affine) → less_column n m f ≡ Some h → length f.coefs ≤ n
unfolding less_column
less-within n m f h e =
    let u = if-some (int_le (pos 1) m && nat_le (length f.coefs) n) (Some (with_column n (neg_ℤ m) f)) h e in
    let b = and-true (int_le (pos 1) m) (nat_le (length f.coefs) n) u.0 in
    let t = b.1 in
    grind (arith, t)

rest-within : (k : ℤ) (f h : Affine) (n : ℕ) → rest_of k f ≡ Some h → length f.coefs ≤ n → length h.coefs ≤ n
unfolding rest_of
rest-within k f h n e l =
    let u = if-some (form_fits (opposite f) && fits ((opposite f).konst +ℤ k)) (Some (shifted (opposite f) k)) h e in
    subst (λ (z : Affine). length z.coefs ≤ n) (some-is (shifted (opposite f) k) h u.1) (scaled-within f.coefs n l)
  where
    scaled-within : (cs : List ℤ) (n : ℕ) → length cs ≤ n → length (map (λ c. negsuc 0 *ℤ c) cs) ≤ n
    scaled-within [] n l = omega arith
    scaled-within (c ∷ cs) zero l = absurd (omega (arith, l))
    scaled-within (c ∷ cs) (suc n) l = omega (arith, scaled-within cs n (omega (arith, l)))

-- ---- further columns

column-on : (s : Embedding) (c d : Conj) (m : ℤ) (f g h : Affine) → IsShifted s c d → Renames (named s) f g → (length f.coefs ≤ c.columns → length g.coefs ≤ d.columns) → less_column c.columns m f ≡ Some h → Made (named s) h (less_column d.columns m g)
unfolding less_column
column-on s c d m f g h x a l e =
    let u = if-some (int_le (pos 1) m && nat_le (length f.coefs) c.columns) (Some (with_column c.columns (neg_ℤ m) f)) h e in
    let b = and-true (int_le (pos 1) m) (nat_le (length f.coefs) c.columns) u.0 in
    let short : length f.coefs ≤ c.columns = grind (arith, b.1) in
    rw (b.0, true-nat_le (length g.coefs) d.columns (l short), ← (some-is (with_column c.columns (neg_ℤ m) f) h u.1)) (record {
      form = with_column d.columns (neg_ℤ m) g;
      is = refl;
      renames = renames-column (named s) c.columns d.columns (neg_ℤ m) f g (next-column s c d x) short (l short) a;
    })

-- the columns of a form there
pub form-within : (s : Embedding) (c d : Conj) (f : Affine) → IsShifted s c d → length f.coefs ≤ c.columns → length (moved_form s f).coefs ≤ d.columns
form-within s c d f x l = omega (arith, moved-within s f x.wider x.names (omega (arith, l, x.columns)), x.path_columns)

quotient-at : (s : Embedding) (b c d : Conj) (i : ℕ) (q : Row) → IsShifted s b d → IsWellMade d → Stands (named s) d i q → quotient b (Some q) ≡ Some c → MadeOn s c (quotient d (slice_get d.rows i))
quotient-at s b c d i (Eq f) x w a e = absurd cc
quotient-at s b c d i (Ge f) x w a e = absurd cc
quotient-at s b c d i (Div m f) x w a e =
    let u = map-some (less_column b.columns m f) (λ g. with_column_row b (Eq g)) c e in
    let made = column-on s b d m f a.form u.0 x a.renames (λ l. (row-made d.columns d.rows i (Div m a.form) w a.at).0) u.1 in
    rw (u.2, a.at) (record {
      path = with_column_row d (Eq made.form);
      is = rw made.is refl;
      shifted = shifted-column s b d (Eq u.0) made.form x made.renames;
    })

quotient-on : (s : Embedding) (b c d : Conj) (i : ℕ) → IsShifted s b d → IsWellMade d → quotient b (slice_get b.rows i) ≡ Some c → MadeOn s c (quotient d (slice_get d.rows (row_on s i)))
quotient-on s b c d i x w e = by (slice_get b.rows i) refl e
  where
    by : (o : Option Row) → slice_get b.rows i ≡ o → quotient b o ≡ Some c → MadeOn s c (quotient d (slice_get d.rows (row_on s i)))
    by None p e = absurd cc
    by (Some q) p e = quotient-at s b c d (row_on s i) q x w (x.rows i q p) e

-- two rows over a further column
floor-rows : (s : Embedding) (b d : Conj) (m : ℤ) (f g h k : Affine) → IsShifted s b d → Renames (named s) f g → Renames (named s) h k → (r : Row) → r ≡ Ge h → IsShifted s (with_row (with_column_row b (Ge f)) r) (with_row (with_column_row d (Ge g)) (Ge k))
floor-rows s b d m f g h k x a c r e = rw e (shifted-row s (with_column_row b (Ge f)) (with_column_row d (Ge g)) (Ge h) k (shifted-column s b d (Ge f) g x a) c)

floor-is : (d : Conj) (m : ℤ) (g low high : Affine) → less_column d.columns m g ≡ Some low → rest_of (m -ℤ pos 1) g ≡ Some high → floor_of d m g ≡ Some (with_row (with_column_row d (Ge low)) (Ge (with_column d.columns m high)))
unfolding floor_of
floor-is d m g low high e h = rw (e, h) refl

floor-on : (s : Embedding) (b c d : Conj) (m : ℤ) (f : Affine) → IsShifted s b d → floor_of b m f ≡ Some c → MadeOn s c (floor_of d m (moved_form s f))
unfolding floor_of
floor-on s b c d m f x e =
    let g = moved_form s f in
    let u = bind-some (less_column b.columns m f) (λ low. option_map (λ high. with_row (with_column_row b (Ge low)) (Ge (with_column b.columns m high))) (rest_of (m -ℤ pos 1) f)) c e in
    let v = map-some (rest_of (m -ℤ pos 1) f) (λ high. with_row (with_column_row b (Ge u.0)) (Ge (with_column b.columns m high))) c u.2 in
    let a = renames-moved s f x.names in
    let short = less-within b.columns m f u.0 u.1 in
    let low = column-on s b d m f g u.0 x a (λ l. form-within s b d f x l) u.1 in
    let high = moved-rest (named s) (m -ℤ pos 1) f g v.0 a v.1 in
    let here : length g.coefs ≤ d.columns = form-within s b d f x short in
    let wide = renames-column (named s) b.columns d.columns m v.0 high.form (next-column s b d x) (rest-within (m -ℤ pos 1) f v.0 b.columns v.1 short) (rest-within (m -ℤ pos 1) g high.form d.columns high.is here) high.renames in
    rw v.2 (record {
      path = with_row (with_column_row d (Ge low.form)) (Ge (with_column d.columns m high.form));
      is = floor-is d m g low.form high.form low.is high.is;
      shifted = floor-rows s b d m u.0 low.form (with_column b.columns m v.0) (with_column d.columns m high.form) x low.renames wide (Ge (with_column b.columns m v.0)) refl;
    })

-- ---- all steps

pub moved-on : (s : Embedding) (t : Step) (b c d : Conj) → IsShifted s b d → IsWellMade d → after_step t b ≡ Some c → MadeOn s c (after_step (moved_step s t) d)
unfolding after_step
moved-on s (Add ts) b c d x w e = row-on s b c d (sum_row ts b.rows) (sum_row (moved_terms s ts) d.rows) x e (λ r h. sum-on s b d ts r x h)
moved-on s (Cut i g) b c d x w e = row-on s b c d (cut_row g (slice_get b.rows i)) (cut_row g (slice_get d.rows (row_on s i))) x e
    (λ r h. place-on s b d i r (cut_row g) (cut_row g) x refl (λ q a k. cut-on (named s) g d (row_on s i) q r a k) h)
moved-on s (DivScale i k) b c d x w e = row-on s b c d (div_scale_row k (slice_get b.rows i)) (div_scale_row k (slice_get d.rows (row_on s i))) x e
    (λ r h. place-on s b d i r (div_scale_row k) (div_scale_row k) x refl (λ q a z. scale-on (named s) k d (row_on s i) q r a z) h)
moved-on s (DivAdd i k j l) b c d x w e = row-on s b c d (div_add_row k (slice_get b.rows i) l (slice_get b.rows j)) (div_add_row k (slice_get d.rows (row_on s i)) l (slice_get d.rows (row_on s j))) x e
    (λ r h. two-on s b d i j r (λ p q. div_add_row k p l q) (λ p q. div_add_row k p l q) x (λ q. refl) (λ p. no-second k l p) (λ p q a z y. add-on (named s) k l d (row_on s i) (row_on s j) p q r a z y) h)
moved-on s (DivMod i g n f) b c d x w e = row-on s b c d (div_mod_row b.columns g n f (slice_get b.rows i)) (div_mod_row d.columns g n (moved_form s f) (slice_get d.rows (row_on s i))) x e
    (λ r h. place-on s b d i r (div_mod_row b.columns g n f) (div_mod_row d.columns g n (moved_form s f)) x refl (λ q a z. mod-on (named s) b.columns d.columns g n f (moved_form s f) d (row_on s i) q r a (renames-moved s f x.names) (λ l. form-within s b d f x l) z) h)
moved-on s (DivEq i n) b c d x w e = row-on s b c d (div_eq_row n (slice_get b.rows i)) (div_eq_row n (slice_get d.rows (row_on s i))) x e
    (λ r h. place-on s b d i r (div_eq_row n) (div_eq_row n) x refl (λ q a z. eq-on (named s) n d (row_on s i) q r a z) h)
moved-on s (Quot i) b c d x w e = quotient-on s b c d i x w e
moved-on s (Floor m f) b c d x w e = floor-on s b c d m f x e
moved-on s (EqCut i j) b c d x w e = row-on s b c d (eq_cut_row (slice_get b.rows i) (slice_get b.rows j)) (eq_cut_row (slice_get d.rows (row_on s i)) (slice_get d.rows (row_on s j))) x e
    (λ r h. two-on s b d i j r eq_cut_row eq_cut_row x (λ q. refl) (λ p. no-other p) (λ p q a z y. cut_eq-on (named s) d (row_on s i) (row_on s j) p q r a z y) h)

-- ---- branches

pub record BothOn (s : Embedding) (a b : Conj) (made : Option (Conj × Conj)) : Type 0 where
  pub left : Conj
  pub right : Conj
  pub is : made ≡ Some (left, right)
  pub first : IsShifted s a left
  pub second : IsShifted s b right

sides-is : (f below : Affine) (d : Conj) → length f.coefs ≤ d.columns → rest_of (negsuc 0) f ≡ Some below → both_sides f d ≡ Some (with_row d (Ge f), with_row d (Ge below))
unfolding side_rows
sides-is f below d l e = rw (true-nat_le (length f.coefs) d.columns l, e) refl

sides-from : (f : Affine) (c a b : Conj) → both_sides f c ≡ Some (a, b) → (below : Affine) × (length f.coefs ≤ c.columns) × (rest_of (negsuc 0) f ≡ Some below) × (a ≡ with_row c (Ge f)) × (b ≡ with_row c (Ge below))
unfolding side_rows
sides-from f c a b e =
    let u = map-some (side_rows f c.columns) (λ s. (with_row c s.0, with_row c s.1)) (a, b) e in
    let v = if-some (nat_le (length f.coefs) c.columns) (option_map (λ g. (Ge f, Ge g)) (rest_of (negsuc 0) f)) u.0 u.1 in
    let y = map-some (rest_of (negsuc 0) f) (λ g. (Ge f, Ge g)) u.0 v.1 in
    let l : length f.coefs ≤ c.columns = grind (arith, v.0) in
    (y.0, l, y.1, ap (λ (z : Conj × Conj). z.0) u.2 ∙ ap (λ (z : Row × Row). with_row c z.0) y.2, ap (λ (z : Conj × Conj). z.1) u.2 ∙ ap (λ (z : Row × Row). with_row c z.1) y.2)

pub sides-on : (s : Embedding) (f : Affine) (c d a b : Conj) → IsShifted s c d → both_sides f c ≡ Some (a, b) → BothOn s a b (both_sides (moved_form s f) d)
sides-on s f c d a b x e =
    let u = sides-from f c a b e in
    let n = renames-moved s f x.names in
    let low = moved-rest (named s) (negsuc 0) f (moved_form s f) u.0 n u.2 in
    rw (u.3, u.4) (record {
      left = with_row d (Ge (moved_form s f));
      right = with_row d (Ge low.form);
      is = sides-is (moved_form s f) low.form d (form-within s c d f x u.1) low.is;
      first = shifted-row s c d (Ge f) (moved_form s f) x n;
      second = shifted-row s c d (Ge u.0) low.form x low.renames;
    })

pub partition-on : (s : Embedding) (m : ℤ) (f : Affine) (c d : Conj) (n : ℕ) → IsShifted s c d → is_partition m f c.columns n ≡ true → is_partition m (moved_form s f) d.columns n ≡ true
unfolding is_partition has_class
partition-on s m f c d n x e =
    let a = and-true (int_eq m (pos n)) (int_le (pos 1) m && (nat_le (length f.coefs) c.columns && fits (f.konst -ℤ (m -ℤ pos 1)))) e in
    let b = and-true (int_le (pos 1) m) (nat_le (length f.coefs) c.columns && fits (f.konst -ℤ (m -ℤ pos 1))) a.1 in
    let l = and-true (nat_le (length f.coefs) c.columns) (fits (f.konst -ℤ (m -ℤ pos 1))) b.1 in
    let short : length f.coefs ≤ c.columns = grind (arith, l.0) in
    rw (a.0, b.0, true-nat_le (length (moved_form s f).coefs) d.columns (form-within s c d f x short)) l.1

pub class-on : (s : Embedding) (m : ℤ) (f : Affine) (r : ℤ) (c d : Conj) → IsShifted s c d → IsShifted s (class m f r c) (class m (moved_form s f) r d)
class-on s m f r c d x = shifted-row s c d (class_row m f r) (shifted (moved_form s f) (neg_ℤ r)) x (renames-shifted (named s) (neg_ℤ r) f (moved_form s f) (renames-moved s f x.names))
