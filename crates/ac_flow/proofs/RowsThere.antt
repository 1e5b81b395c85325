-- Rows that are among those of a path with a point stand there.
use Rattle.std.proofs.Common.{◌≡◌, inl, inr, ℤ, List, [], ◌∷◌, ◌&&◌, true, false, refl, sym, subst}
use Rattle.ac_forms.specs.NormalForm.{is_absurd, RowsFit}
use Rattle.ac_forms.specs.NormalRows.{normal_row, NormalFits, LeftHolds}
use Rattle.ac_forms.specs.Rows.{Holds, Meets, HasModulus, HaveModuli, AreRowsOver}
use Rattle.ac_forms.specs.Standing.{stands, all_stand}
use Rattle.ac_forms.specs.declared.normal.NormalRow.{NormalRow}
use Rattle.ac_forms.specs.declared.normal.NormalRow.TheVariants.{Kept, Dropped, Absurd}
use Rattle.ac_forms.specs.declared.row.Row.{Row}
use Rattle.ac_forms.proofs.NormalLaws.{row_keeps}
use Rattle.ac_forms.proofs.Standings.{stands-there}
use Rattle.ac_forms.specs.ListMembers.{IsAmong}
use Rattle.ac_claims_paths.proofs.InBranches.{in_get}
use Rattle.std.specs.Prelude.{ℕ}

holds_in : (r : Row) (rows : List Row) (p : List ℤ) → IsAmong r rows → Meets rows p → Holds r p
holds_in r [] p i h = absurd i
holds_in r (s ∷ rows) p (inl e) h = subst (λ (y : Row). Holds y p) (sym e) h.0
holds_in r (s ∷ rows) p (inr i) h = holds_in r rows p i h.1

not_absurd : (r : Row) (p : List ℤ) → HasModulus r → Holds r p → is_absurd (normal_row r) ≡ false
not_absurd r p m h = by (normal_row r) ((row_keeps r p m).1 h)
  where
    by : (n : NormalRow) → LeftHolds n p → is_absurd n ≡ false
    by (Kept s) k = refl
    by Dropped k = refl
    by Absurd k = absurd k

stands_in : (rows : List Row) (r : Row) (p : List ℤ) → IsAmong r rows → HasModulus r → NormalFits r → Meets rows p → stands rows r ≡ true
stands_in rows r p i m f h = let k = in_get r rows i in stands-there rows k.0 r k.1 f (not_absurd r p m (holds_in r rows p i h))

pub all_there : (rows wanted : List Row) (p : List ℤ) → ((r : Row) → IsAmong r wanted → IsAmong r rows) → HaveModuli wanted → RowsFit wanted → Meets rows p → all_stand rows wanted ≡ true
all_there rows [] p i m f h = refl
all_there rows (r ∷ wanted) p i m f h = λ j. stands_in rows r p (i r (inl refl)) m.0 f.0 h j && all_there rows wanted p (λ s k. i s (inr k)) m.1 f.1 h j

pub moduli_of : (n : ℕ) (rows : List Row) → AreRowsOver n rows → HaveModuli rows
moduli_of n [] w = tt
moduli_of n (r ∷ rows) w = (w.0.1, moduli_of n rows w.1)
