-- The quotient of a residue as a further column, and the rows in which it replaces a column.
use Rattle.std.proofs.Common.{◌≡◌, ℕ, zero, suc, ◌+◌, ◌-◌, ◌<◌, ◌≤◌, ℤ, pos, neg_ℤ, ◌+ℤ◌, ◌*ℤ◌, ◌≤ℤ◌, List, [], ◌∷◌, ◌++◌, length, replicate, set, get_or, Option, Some, None, refl, sym, ap, ◌∙◌, arith, length-append}
use Rattle.std.specs.Prelude.{◌≢◌}
use Rattle.std.proofs.lemmas.Int.{ints}
use Rattle.std.proofs.lemmas.List.{get_or-set_other, length-replicate}
use Rattle.ac_base.proofs.Columns.{get_or-mix}
use Rattle.ac_base.proofs.Products.{mul-neg_ℤ, neg-mul_ℤ}
use Rattle.ac_forms.specs.Affine.{Affine, coef, column_form, combined}
use Rattle.ac_forms.specs.Negation.{with_column}
use Rattle.ac_forms.specs.declared.conj.Conj.{Conj}
use Rattle.ac_forms.specs.declared.row.Row.TheVariants.{Eq, Div}
use Rattle.ac_omega_steps.specs.Choices.{substitute_residue}
use Rattle.ac_cert.specs.declared.types.Step.TheVariants.{Quot}
use Rattle.ac_cert.specs.Rules.{with_column_row}
use Rattle.ac_cert.specs.StepRows.{IsAt}
use Rattle.ac_cert.proofs.Equations.{quot-row}
use Rattle.ac_omega_certify.specs.declared.path.TreePath.{TreePath}
use Rattle.ac_omega_certify.proofs.Distinct.{same-place}
use Rattle.ac_omega_certify.specs.Descents.{AreNames, column_less}
use Rattle.ac_omega_certify.specs.Residues.{quotient_form}
use Rattle.ac_omega_certify.specs.TreePathRows.{place_of, coef_of, Renames, Reaches}
use Rattle.ac_omega_certify.proofs.Paths.{steps-further}
use Rattle.ac_omega_certify.proofs.Places.{place-some, place-none, by-places, is-or-not}

-- ---- coefficients of columns

past-end : (cs : List ℤ) (j : ℕ) → length cs ≤ j → get_or cs j (pos 0) ≡ pos 0
past-end [] j l = refl
past-end (c ∷ cs) zero l = absurd (omega (arith, l))
past-end (c ∷ cs) (suc j) l = past-end cs j (omega (arith, l))

zero-at : (n j : ℕ) → get_or (replicate n (pos 0)) j (pos 0) ≡ pos 0
zero-at zero j = refl
zero-at (suc n) zero = refl
zero-at (suc n) (suc j) = zero-at n j

-- a number behind zeros
spike-at : (n : ℕ) (k : ℤ) (cs : List ℤ) → get_or (replicate n (pos 0) ++ k ∷ cs) n (pos 0) ≡ k
spike-at zero k cs = refl
spike-at (suc n) k cs = spike-at n k cs

spike-off : (n w j : ℕ) (k : ℤ) → j ≢ n → get_or (replicate n (pos 0) ++ k ∷ replicate w (pos 0)) j (pos 0) ≡ pos 0
spike-off zero w zero k h = absurd (h refl)
spike-off zero w (suc j) k h = zero-at w j
spike-off (suc n) w zero k h = refl
spike-off (suc n) w (suc j) k h = spike-off n w j k (λ e. h (ap suc e))

nothing-less : (n : ℕ) → n - 0 ≡ n
nothing-less n = omega arith

one-less : (n m : ℕ) → suc n - suc m ≡ n - m
one-less n m = omega arith

-- the further column's own coefficient, and those of the others
pub further-at : (cs : List ℤ) (n : ℕ) (k : ℤ) → length cs ≤ n → get_or ((cs ++ replicate (n - length cs) (pos 0)) ++ k ∷ []) n (pos 0) ≡ k
further-at [] n k l = rw (nothing-less n) (spike-at n k [])
further-at (c ∷ cs) zero k l = absurd (omega (arith, l))
further-at (c ∷ cs) (suc n) k l = rw (one-less n (length cs)) (further-at cs n k (omega (arith, l)))

pub further-off : (cs : List ℤ) (n j : ℕ) (k : ℤ) → length cs ≤ n → j ≢ n → get_or ((cs ++ replicate (n - length cs) (pos 0)) ++ k ∷ []) j (pos 0) ≡ get_or cs j (pos 0)
further-off [] n j k l h = rw (nothing-less n) (spike-off n 0 j k h)
further-off (c ∷ cs) zero j k l h = absurd (omega (arith, l))
further-off (c ∷ cs) (suc n) zero k l h = refl
further-off (c ∷ cs) (suc n) (suc j) k l h = rw (one-less n (length cs)) (further-off cs n j k (omega (arith, l)) (λ e. h (ap suc e)))

pub column-long : (n z : ℕ) → z < n → length (column_form n z).coefs ≡ n
column-long n z l = rw (length-append (replicate z (pos 0)) (pos 1 ∷ replicate (n - z - 1) (pos 0)), length-replicate z (pos 0), length-replicate (n - z - 1) (pos 0)) (omega (arith, l))

pub column-at : (n z : ℕ) (r : ℤ) → coef z (column_less n z r) ≡ pos 1
column-at n z r = spike-at z (pos 1) (replicate (n - z - 1) (pos 0))

pub column-off : (n z j : ℕ) (r : ℤ) → j ≢ z → coef j (column_less n z r) ≡ pos 0
column-off n z j r h = spike-off z (n - z - 1) j (pos 1) h

-- the coefficients of the quotient's form
pub quotient-at : (n z : ℕ) (m r : ℤ) → z < n → coef z (quotient_form n z m r) ≡ pos 1
quotient-at n z m r l = further-off (column_form n z).coefs n z (neg_ℤ m) (omega (arith, column-long n z l)) (omega (arith, l)) ∙ column-at n z r

pub quotient-further : (n z : ℕ) (m r : ℤ) → z < n → coef n (quotient_form n z m r) ≡ neg_ℤ m
quotient-further n z m r l = further-at (column_form n z).coefs n (neg_ℤ m) (omega (arith, column-long n z l))

pub quotient-off : (n z j : ℕ) (m r : ℤ) → z < n → j ≢ n → j ≢ z → coef j (quotient_form n z m r) ≡ pos 0
quotient-off n z j m r l a b = further-off (column_form n z).coefs n j (neg_ℤ m) (omega (arith, column-long n z l)) a ∙ column-off n z j r b

-- ---- names

-- a further column on the path
pub renames-further : (names : List ℕ) (z q : ℕ) (k : ℤ) (f g : Affine) → AreNames q names → z < length names → length f.coefs ≤ length names → length g.coefs ≤ q → Renames names f g
    → Renames (names ++ q ∷ []) (with_column (length names) k f) (with_column q k g)
renames-further names z q k f g h l a b x = record {
  konst = x.konst;
  coefs = λ j. by-places names z q j (λ (o p s : Option ℕ). coef j g ≡ coef_of o f → coef j (with_column q k g) ≡ coef_of p (with_column (length names) k f)) h l
      (λ off e. further-off g.coefs q j k b off ∙ e)
      (λ is e. ap (λ (i : ℕ). coef i (with_column q k g)) is ∙ further-at g.coefs q k b ∙ sym (further-at f.coefs (length names) k a))
      (λ off e. further-off g.coefs q j k b off ∙ e ∙ sym (further-off f.coefs (length names) z k a (omega (arith, l))))
      (λ i off m ne e. further-off g.coefs q j k b off ∙ e ∙ sym (further-off f.coefs (length names) i k a (omega (arith, m))))
      (x.coefs j);
}

-- a form without the further column
pub renames-wide : (names : List ℕ) (z q : ℕ) (f g : Affine) → AreNames q names → z < length names → length f.coefs ≤ length names → Renames names f g → Renames (names ++ q ∷ []) f g
renames-wide names z q f g h l a x = record {
  konst = x.konst;
  coefs = λ j. by-places names z q j (λ (o p s : Option ℕ). coef j g ≡ coef_of o f → coef j g ≡ coef_of p f) h l
      (λ off e. e)
      (λ is e. e ∙ sym (past-end f.coefs (length names) a))
      (λ off e. e)
      (λ i off m ne e. e)
      (x.coefs j);
}

-- ---- the column replaced

less-none : (x a : ℤ) → pos 1 *ℤ x +ℤ neg_ℤ a *ℤ pos 0 ≡ x
less-none x a = omega (arith, ints)

less-self : (a : ℤ) → pos 1 *ℤ a +ℤ neg_ℤ a *ℤ pos 1 ≡ pos 0
less-self a = omega (arith, ints)

twice-turned : (a : ℤ) → neg_ℤ (neg_ℤ a) ≡ a
twice-turned a = omega (arith, ints)

turned-product : (a m : ℤ) → neg_ℤ a *ℤ neg_ℤ m ≡ a *ℤ m
turned-product a m = neg-mul_ℤ a (neg_ℤ m) ∙ ap neg_ℤ (mul-neg_ℤ a m) ∙ twice-turned (a *ℤ m)

only-product : (a m p : ℤ) → p ≡ a *ℤ m → pos 1 *ℤ pos 0 +ℤ p ≡ a *ℤ m
only-product a m p e = omega (arith, ints, e)

with-product : (k p s : ℤ) → p ≡ s → pos 1 *ℤ k +ℤ p ≡ k +ℤ s
with-product k p s e = omega (arith, ints, e)

less-nothing : (r : ℤ) → pos 0 +ℤ neg_ℤ r ≡ neg_ℤ r
less-nothing r = omega (arith, ints)

substitute_residue-konst : (k a r : ℤ) → pos 1 *ℤ k +ℤ neg_ℤ a *ℤ (pos 0 +ℤ neg_ℤ r) ≡ k +ℤ a *ℤ r
substitute_residue-konst k a r = with-product k (neg_ℤ a *ℤ (pos 0 +ℤ neg_ℤ r)) (a *ℤ r) (ap (λ x. neg_ℤ a *ℤ x) (less-nothing r) ∙ turned-product a r)

-- the coefficient of the column that is replaced: that of the new one
substitute_residue-at : (cs : List ℤ) (z : ℕ) (m : ℤ) → get_or (set cs z (get_or cs z (pos 0) *ℤ m)) z (pos 0) ≡ get_or cs z (pos 0) *ℤ m
substitute_residue-at [] z m = no-times m
  where
    no-times : (m : ℤ) → pos 0 ≡ pos 0 *ℤ m
    no-times m = omega (arith, ints)
substitute_residue-at (c ∷ cs) zero m = refl
substitute_residue-at (c ∷ cs) (suc z) m = substitute_residue-at cs z m

pub renames-substitute_residue : (names : List ℕ) (z q : ℕ) (m r : ℤ) (f g : Affine) → AreNames q names → z < length names → length f.coefs ≤ length names
    → Renames (names ++ q ∷ []) (combined (pos 1) f (neg_ℤ (coef z f)) (quotient_form (length names) z m r)) g → Renames (set names z q) (substitute_residue z m r f) g
renames-substitute_residue names z q m r f g h l short x = record {
  konst = x.konst ∙ substitute_residue-konst f.konst (coef z f) r;
  coefs = λ j. by-places names z q j (λ (o p s : Option ℕ). coef j g ≡ coef_of p less → coef j g ≡ coef_of s (substitute_residue z m r f)) h l
      (λ off e. e)
      (λ is e. e ∙ mixed (length names) ∙ rw (past-end f.coefs (length names) short, quotient-further (length names) z m r l) (only-product (coef z f) m (neg_ℤ (coef z f) *ℤ neg_ℤ m) (turned-product (coef z f) m)) ∙ sym (substitute_residue-at f.coefs z m))
      (λ off e. e ∙ mixed z ∙ rw (quotient-at (length names) z m r l) (less-self (coef z f)))
      (λ i off a ne e. e ∙ mixed i ∙ rw (quotient-off (length names) z i m r l (omega (arith, a)) ne) (less-none (coef i f) (coef z f)) ∙ sym (get_or-set_other f.coefs z i (coef z f *ℤ m) (pos 0) ne))
      (x.coefs j);
}
  where
    less : Affine
    less = combined (pos 1) f (neg_ℤ (coef z f)) (quotient_form (length names) z m r)

    mixed : (j : ℕ) → get_or (combined (pos 1) f (neg_ℤ (coef z f)) (quotient_form (length names) z m r)).coefs j (pos 0) ≡ pos 1 *ℤ coef j f +ℤ neg_ℤ (coef z f) *ℤ coef j (quotient_form (length names) z m r)
    mixed j = get_or-mix (pos 1) f.coefs (neg_ℤ (coef z f)) (quotient_form (length names) z m r).coefs j

-- the column's own form on the path
pub renames-class : (names : List ℕ) (z q : ℕ) (r : ℤ) → AreNames q names → z < length names
    → Renames names (column_less (length names) z r) (with_column (get_or names z 0) (pos 1) (record { konst = neg_ℤ r; coefs = [] }))
renames-class names z q r h l = record { konst = sym (less-nothing r); coefs = λ j. by j (place_of j names) refl }
  where
    name : ℕ
    name = get_or names z 0

    here : (j : ℕ) → j ≡ get_or names z 0 → coef j (with_column (get_or names z 0) (pos 1) (record { konst = neg_ℤ r; coefs = [] })) ≡ pos 1
    here j is = ap (λ (i : ℕ). coef i (with_column (get_or names z 0) (pos 1) (record { konst = neg_ℤ r; coefs = [] }))) is ∙ further-at [] (get_or names z 0) (pos 1) (omega arith)

    there : (j : ℕ) → j ≢ get_or names z 0 → coef j (with_column (get_or names z 0) (pos 1) (record { konst = neg_ℤ r; coefs = [] })) ≡ pos 0
    there j off = further-off [] (get_or names z 0) j (pos 1) (omega arith) off

    by : (j : ℕ) (o : Option ℕ) → place_of j names ≡ o → coef j (with_column (get_or names z 0) (pos 1) (record { konst = neg_ℤ r; coefs = [] })) ≡ coef_of (place_of j names) (column_less (length names) z r)
    by j None e = rw e (there j (λ is. place-none j names e z l (sym is)))
    by j (Some k) e =
        let p = place-some j names k e in
        is-or-not k z
        (λ is. rw (e, is) (here j (sym p.1 ∙ ap (λ (i : ℕ). get_or names i 0) is) ∙ sym (column-at (length names) z r)))
        (λ off. rw e (there j (λ is. off (same-place names h.apart k z p.0 l (p.1 ∙ is))) ∙ sym (column-off (length names) z k r off)))

-- ---- steps

pub quotient_reaches : (t u : TreePath) (x : ℕ) (start path : Conj) (m : ℤ) (f : Affine) → u.steps ≡ t.steps ++ Quot x ∷ [] → u.columns ≡ t.columns + 1 → u.rows ≡ t.rows + 1
    → Reaches t start path → IsAt path x (Div m f) → pos 1 ≤ℤ m → length f.coefs ≤ path.columns → Reaches u start (with_column_row path (Eq (with_column path.columns (neg_ℤ m) f)))
quotient_reaches t u x start path m f s n k h at one short =
    let row = Eq (with_column path.columns (neg_ℤ m) f) in
    record {
      steps = rw s (steps-further t.steps (Quot x) start path (with_column_row path row) h.steps (quot-row path x m f at one short));
      columns = omega (arith, h.columns, n);
      rows = omega (arith, length-append path.rows (row ∷ []), h.rows, k);
    }
