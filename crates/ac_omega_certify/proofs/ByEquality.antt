-- What rows within 2^120 allow where one of them is an equality that replaces a column, and what is left of them on a path.
use Rattle.std.proofs.Common.{◌≡◌, ℕ, zero, suc, ◌<◌, pos, Bool, true, false, not, List, [], ◌∷◌, length, get_or, slice_get, Some, arith, refl, ◌∙◌}
use Rattle.std.specs.Prelude.{◌≢◌}
use Rattle.std.specs.Ordering.{int_eq}
use Rattle.std.proofs.lemmas.Bool.Decides.{Decides-int_eq}
use Rattle.std.proofs.lemmas.Option.{slice_get_read}
use Rattle.ac_forms.specs.Affine.{Affine, coef}
use Rattle.ac_forms.specs.Rows.{AreRowsOver, HaveModuli}
use Rattle.ac_forms.specs.declared.conj.Conj.{Conj}
use Rattle.ac_forms.specs.declared.row.Row.{Row}
use Rattle.ac_forms.specs.declared.row.Row.TheVariants.{Eq, Div, Ge}
use Rattle.ac_omega_steps.specs.Choices.{others, by_equality, is_equality_of}
use Rattle.ac_omega_certify.specs.Descents.{AreNames, AreRowsUpTo2To122, Carries}
use Rattle.ac_omega_certify.specs.Refutations.{AreWithin2To120, AreRowsWithin, IsFormWithin}
use Rattle.ac_omega_certify.specs.Replacements.{CanDivide, CanReplaceAll, LeadsAll}
use Rattle.ac_omega_certify.specs.TreePathRows.{IsSameBase, Reaches, Stand, one_form}
use Rattle.ac_omega_certify.specs.declared.path.TreePath.{TreePath}
use Rattle.ac_omega_certify.proofs.Moderate.{can-divide, can-replace-all, equality-calm}
use Rattle.ac_omega_certify.proofs.Paths.{stands-on}

-- the equality of the column
pub equality-at : (rows : List Row) (i : ℕ) (r : Row) (g : Affine) → i < length rows → r ≡ get_or rows i r → r ≡ Eq g → slice_get rows i ≡ Some (Eq g)
equality-at rows i r g h e f = slice_get_read rows (length rows) i r refl h e ∙ rw f refl

equality_column : (z : ℕ) (rows : List Row) (i : ℕ) (g : Affine) → slice_get rows i ≡ Some (Eq g) → is_equality_of z (slice_get rows i) ≡ true → coef z g ≢ pos 0
equality_column z rows i g e h = λ n. by (int_eq (coef z g) (pos 0)) ((Decides-int_eq (coef z g) (pos 0)).1 n) (rw e at h)
  where
    by : (b : Bool) → b ≡ true → not b ≡ true → ⊥
    by true e f = absurd cc
    by false e f = absurd cc

pub other-equality : (z : ℕ) (rows : List Row) (i : ℕ) (r : Row) → i < length rows → r ≡ get_or rows i r → ((g : Affine) → r ≡ Eq g → ⊥) → is_equality_of z (slice_get rows i) ≡ true → ⊥
other-equality z rows i r h e n t = by r n (rw (slice_get_read rows (length rows) i r refl h e) at t)
  where
    by : (r : Row) → ((g : Affine) → r ≡ Eq g → ⊥) → is_equality_of z (Some r) ≡ true → ⊥
    by (Eq g) n t = n g refl
    by (Div m f) n t = absurd cc
    by (Ge f) n t = absurd cc

within_equality : (p q : ℕ) (rows : List Row) (i : ℕ) (g : Affine) → AreRowsWithin p q rows → slice_get rows i ≡ Some (Eq g) → IsFormWithin p q g
within_equality p q [] i g w e = absurd cc
within_equality p q (r ∷ rows) zero g w e = let s : r ≡ Eq g = cc in rw s at w.0
within_equality p q (r ∷ rows) (suc i) g w e = within_equality p q rows i g w.1 e

have-moduli : (n : ℕ) (rows : List Row) → AreRowsOver n rows → HaveModuli rows
have-moduli n [] h = tt
have-moduli n (r ∷ rows) h = (h.0.1, have-moduli n rows h.1)

within-others : (p q i : ℕ) (rows : List Row) → AreRowsWithin p q rows → AreRowsWithin p q (others i rows)
within-others p q zero [] w = tt
within-others p q (suc i) [] w = tt
within-others p q zero (r ∷ rows) w = w.1
within-others p q (suc i) (r ∷ rows) w = (w.0, within-others p q i rows w.1)

pub modest-divides : (z : ℕ) (rows : List Row) (i : ℕ) (g : Affine) → AreWithin2To120 rows [] → slice_get rows i ≡ Some (Eq g) → is_equality_of z (slice_get rows i) ≡ true → CanDivide z g
modest-divides z rows i g a e h = can-divide a.factor a.number z g a.product (within_equality a.factor a.number rows i g a.rows e) (equality_column z rows i g e h)

pub modest-replaces : (n z : ℕ) (rows : List Row) (i : ℕ) (g : Affine) → AreWithin2To120 rows [] → AreRowsOver n rows → slice_get rows i ≡ Some (Eq g) → is_equality_of z (slice_get rows i) ≡ true → CanReplaceAll z g rows
modest-replaces n z rows i g a w e h = can-replace-all a.factor a.number z g rows a.product (within_equality a.factor a.number rows i g a.rows e) (equality_column z rows i g e h) a.rows (have-moduli n rows w)

pub by-equality-calm : (z : ℕ) (rows : List Row) (i : ℕ) (g : Affine) → AreWithin2To120 rows [] → slice_get rows i ≡ Some (Eq g) → is_equality_of z (slice_get rows i) ≡ true → AreRowsUpTo2To122 (by_equality z i (Some (Eq g)) rows)
by-equality-calm z rows i g a e h = equality-calm a.factor a.number z g (others i rows) a.product (within_equality a.factor a.number rows i g a.rows e) (equality_column z rows i g e h) (within-others a.factor a.number i rows a.rows)

-- a tree path that leads from rows that stand to others carries them
pub leads-carries : (t u : TreePath) (start : Conj) (names : List ℕ) (rows : List Row) (places : List ℕ) (left : List Row) (left_places : List ℕ) → IsSameBase t u
    → ((path : Conj) → Reaches t start path → AreNames t.columns names → Stand names path rows places → LeadsAll u start path names left left_places)
    → Carries t start names rows places → Carries u start names left left_places
leads-carries t u start names rows places left left_places b lead c =
    let x = lead c.path (record { steps = c.steps; columns = c.stand.columns; rows = c.stand.rows }) c.stand.names c.stand.stand in
    record {
      path = x.further;
      steps = x.reaches.steps;
      stand = record {
        columns = x.reaches.columns;
        rows = x.reaches.rows;
        one = rw b.one (stands-on [] c.path x.further t.one (Ge one_form) x.onto c.stand.one);
        names = rw b.columns c.stand.names;
        stand = x.stand;
      };
    }

pub equality-within : (z : ℕ) (rows : List Row) (i : ℕ) → is_equality_of z (slice_get rows i) ≡ true → i < length rows
equality-within z [] i h = absurd cc
equality-within z (r ∷ rows) zero h = omega arith
equality-within z (r ∷ rows) (suc i) h = let l = equality-within z rows i h in omega arith
