-- The row `1 >= 0`, from the quotient of 0 by 2.
use Rattle.std.proofs.Common.{lit<, ◌≡◌, ℕ, zero, suc, ◌+◌, ◌-◌, ℤ, pos, neg_ℤ, List, [], ◌∷◌, ◌++◌, length, replicate, get_or, Option, Some, None, Bool, true, false, cond, nat_eq, slice_get, refl, sym, ap, ◌∙◌, arith, length-append, append_assoc}
use Rattle.std.proofs.lemmas.Int.{ints}
use borrow.Author.Tests.{eqb-true, eqb-false}
use Rattle.ac_forms.specs.Affine.{Affine, coef, combined, MixFits}
use Rattle.ac_forms.specs.Negation.{with_column}
use Rattle.ac_forms.specs.declared.conj.Conj.{Conj}
use Rattle.ac_forms.specs.declared.row.Row.{Row}
use Rattle.ac_forms.specs.declared.row.Row.TheVariants.{Ge}
use Rattle.ac_cert.specs.declared.types.Step.TheVariants.{Floor}
use Rattle.ac_cert.specs.Rules.{after_step, zero_form, with_row, with_column_row}
use Rattle.ac_cert.proofs.Equations.{floor-rows}
use Rattle.ac_omega_certify.specs.declared.path.TreePath.{TreePath}
use Rattle.ac_omega_certify.specs.TreePathRows.{place_of, coef_of, Renames, Blends, StandsAt, one_form, IsOnto, Reaches, Leads, Starts}
use Rattle.ac_omega_certify.proofs.Renaming.{fits-zero, none_fits}
use Rattle.ac_omega_certify.proofs.Paths.{get-appended, get-last, onto-again}

-- the forms `0 - 2 q` and `1 + 2 q` of the further column q alone
abbrev pub low_form : Affine
low_form = record { konst = pos 0; coefs = neg_ℤ (pos 2) ∷ [] }

abbrev pub high_form : Affine
high_form = record { konst = pos 1; coefs = pos 2 ∷ [] }

spike-at : (n : ℕ) (k : ℤ) → get_or (replicate n (pos 0) ++ k ∷ []) n (pos 0) ≡ k
spike-at zero k = refl
spike-at (suc n) k = spike-at n k

spike-off : (n j : ℕ) (k : ℤ) → (n ≡ j → ⊥) → get_or (replicate n (pos 0) ++ k ∷ []) j (pos 0) ≡ pos 0
spike-off zero zero k h = absurd (h refl)
spike-off zero (suc j) k h = refl
spike-off (suc n) zero k h = refl
spike-off (suc n) (suc j) k h = spike-off n j k (λ e. h (ap suc e))

spike : (n : ℕ) (c k : ℤ) (j : ℕ) → get_or (replicate n (pos 0) ++ k ∷ []) j (pos 0) ≡ coef_of (place_of j (n ∷ [])) (record { konst = c; coefs = k ∷ [] })
spike n c k j = by (nat_eq n j) refl
  where
    by : (b : Bool) → nat_eq n j ≡ b → get_or (replicate n (pos 0) ++ k ∷ []) j (pos 0) ≡ coef_of (cond b (Some 0) None) (record { konst = c; coefs = k ∷ [] })
    by true e = ap (λ i. get_or (replicate n (pos 0) ++ k ∷ []) i (pos 0)) (sym (eqb-true n j e)) ∙ spike-at n k
    by false e = spike-off n j k (eqb-false n j e)

no_less : (n : ℕ) → n - 0 ≡ n
no_less n = omega arith

renames-column : (n : ℕ) (c k : ℤ) (f : Affine) → f ≡ record { konst = c; coefs = [] } → Renames (n ∷ []) (record { konst = c; coefs = k ∷ [] }) (with_column n k f)
renames-column n c k f e = rw (e, no_less n) (record { konst = refl; coefs = spike n c k })

pub one-blends : Blends (pos 1) low_form (pos 1) high_form
one-blends = record { konst = (fits-zero, record { sfits = lit< tt }, record { sfits = lit< tt }); coefs = by }
  where
    by : (j : ℕ) → MixFits (pos 1) (coef j low_form) (pos 1) (coef j high_form)
    by zero = (record { sfits = lit< tt }, record { sfits = lit< tt }, fits-zero)
    by (suc j) = none_fits (pos 1) (pos 1)

-- the rows behind the step
abbrev pub low_row : ℕ → Row
low_row n = Ge (with_column n (neg_ℤ (pos 2)) zero_form)

abbrev pub high_row : ℕ → Row
high_row n = Ge (with_column n (pos 2) (record { konst = pos 1; coefs = [] }))

abbrev pub with_floor : Conj → Conj
with_floor c = with_row (with_column_row c (low_row c.columns)) (high_row c.columns)

floor-made : (c : Conj) → after_step (Floor (pos 2) zero_form) c ≡ Some (with_floor c)
floor-made c = floor-rows c (pos 2) zero_form (omega (arith, ints)) (omega arith) (tt, fits-zero) (record { sfits = lit< tt })

pub floor_reaches : (t : TreePath) (start : Conj) → t.steps ≡ Floor (pos 2) zero_form ∷ [] → t.columns ≡ start.columns + 1 → t.rows ≡ length start.rows + 2 → Reaches t start (with_floor start)
floor_reaches t start e f g = record {
  steps = rw (e, floor-made start) refl;
  columns = sym f;
  rows = omega (arith, length-append (start.rows ++ low_row start.columns ∷ []) (high_row start.columns ∷ []), length-append start.rows (low_row start.columns ∷ []), g);
}

pub floor-onto : (c : Conj) → IsOnto c (with_floor c)
floor-onto c = record { more = low_row c.columns ∷ high_row c.columns ∷ []; rows = append_assoc c.rows (low_row c.columns ∷ []) (high_row c.columns ∷ []); columns = omega arith }

pub low-stands : (c : Conj) → StandsAt (c.columns ∷ []) (with_floor c) (length c.rows) (Ge low_form)
low-stands c = record {
  form = with_column c.columns (neg_ℤ (pos 2)) zero_form;
  at = get-appended (c.rows ++ low_row c.columns ∷ []) (high_row c.columns ∷ []) (length c.rows) (low_row c.columns) (get-last c.rows (low_row c.columns));
  renames = renames-column c.columns (pos 0) (neg_ℤ (pos 2)) zero_form refl;
}

last-place : (xs : List Row) (x y : Row) (i : ℕ) → i ≡ length xs + 1 → slice_get ((xs ++ x ∷ []) ++ y ∷ []) i ≡ Some y
last-place xs x y i e =
    let l : i ≡ length (xs ++ x ∷ []) = omega (arith, length-append xs (x ∷ [])) in
    rw l (get-last (xs ++ x ∷ []) y)

pub high-stands : (c : Conj) (i : ℕ) → i ≡ length c.rows + 1 → StandsAt (c.columns ∷ []) (with_floor c) i (Ge high_form)
high-stands c i e = record {
  form = with_column c.columns (pos 2) (record { konst = pos 1; coefs = [] });
  at = last-place c.rows (low_row c.columns) (high_row c.columns) i e;
  renames = renames-column c.columns (pos 1) (pos 2) (record { konst = pos 1; coefs = [] }) refl;
}

one-coefs : (o : Option ℕ) (n j : ℕ) → coef_of (cond (nat_eq n j) (Some 0) None) (combined (pos 1) low_form (pos 1) high_form) ≡ coef_of o one_form
one-coefs None n j = by (nat_eq n j)
  where
    by : (b : Bool) → coef_of (cond b (Some 0) None) (combined (pos 1) low_form (pos 1) high_form) ≡ pos 0
    by true = refl
    by false = refl
one-coefs (Some i) n j = by (nat_eq n j)
  where
    by : (b : Bool) → coef_of (cond b (Some 0) None) (combined (pos 1) low_form (pos 1) high_form) ≡ pos 0
    by true = refl
    by false = refl

-- the sum is `1 >= 0`, whatever the names
one-stands : (names : List ℕ) (n : ℕ) (c : Conj) (i : ℕ) → StandsAt (n ∷ []) c i (Ge (combined (pos 1) low_form (pos 1) high_form)) → StandsAt names c i (Ge one_form)
one-stands names n c i h = record { form = h.form; at = h.at; renames = record { konst = h.renames.konst; coefs = λ j. h.renames.coefs j ∙ one-coefs (place_of j names) n j } }

pub one_starts : (u : TreePath) (start : Conj) (i : ℕ) → u.one ≡ i → Leads u start (with_floor start) (start.columns ∷ []) i (Ge (combined (pos 1) low_form (pos 1) high_form)) → Starts u start
one_starts u start i e l = record {
  path = l.further;
  reaches = l.reaches;
  onto = onto-again start (with_floor start) l.further (floor-onto start) l.onto;
  one = rw e (one-stands [] start.columns l.further i l.stands);
}

any-one : (o : Option ℕ) → coef_of o one_form ≡ pos 0
any-one None = refl
any-one (Some i) = refl

-- under whatever names
pub one-anywhere : (names : List ℕ) (c : Conj) (i : ℕ) → StandsAt [] c i (Ge one_form) → StandsAt names c i (Ge one_form)
one-anywhere names c i h = record { form = h.form; at = h.at; renames = record { konst = h.renames.konst; coefs = λ j. h.renames.coefs j ∙ sym (any-one (place_of j names)) } }
