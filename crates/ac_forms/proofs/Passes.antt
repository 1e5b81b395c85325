-- A pass over rows that makes each one normal.
use Rattle.std.proofs.Common.{◌≡◌, ℕ, zero, suc, ◌+◌, ◌<◌, ◌≤◌, List, [], ◌∷◌, ◌++◌, length, get_or, drop, arith, refl, sym, ap, ◌∙◌, Bool, true, false, ◌||◌, append_assoc, append-nil}
use Rattle.std.proofs.lemmas.List.{drop_more, drop_all}
use Rattle.ac_forms.specs.NormalForm.{left_onto, left_rows, is_absurd, has_absurd, RowsFit}
use Rattle.ac_forms.specs.NormalRows.{normal_row, NormalFits}
use Rattle.ac_forms.specs.Rows.{HasModulus, HaveModuli, AreRowsOver}
use Rattle.ac_forms.specs.declared.row.Row.{Row}
use Rattle.ac_forms.specs.declared.normal.NormalRow.{NormalRow}
use Rattle.ac_forms.specs.declared.normal.NormalRow.TheVariants.{Kept, Dropped, Absurd}

-- before row i: what is left of the rows so far, and whether one was absurd
pub record PassHalfway (rs done : List Row) (bad : Bool) (i : ℕ) : Type 0 where
  pub room : i ≤ length rs
  pub onward : RowsFit rs → RowsFit (drop i rs)
  pub back : RowsFit (drop i rs) → RowsFit rs
  pub value : left_rows rs ≡ done ++ left_rows (drop i rs)
  pub absurdity : has_absurd rs ≡ (bad || has_absurd (drop i rs))

pub pass_start : (rs : List Row) → PassHalfway rs [] false 0
pass_start rs = record { room = omega arith; onward = λ h. h; back = λ h. h; value = refl; absurdity = refl }

or_false : (b : Bool) → (b || false) ≡ b
or_false true = refl
or_false false = refl

or_true : (b : Bool) → (b || true) ≡ true
or_true true = refl
or_true false = refl

pub pass_end : (rs done : List Row) (bad : Bool) (i : ℕ) → PassHalfway rs done bad i → length rs ≤ i → RowsFit rs × (done ≡ left_rows rs) × (bad ≡ has_absurd rs)
pass_end rs done bad i h l =
    let v = rw (drop_all i rs l) at h.value in
    let a = rw (drop_all i rs l) at h.absurdity in
    (h.back (rw (drop_all i rs l) tt), sym (v ∙ append-nil done), sym (a ∙ or_false bad))

-- what one more row adds
abbrev pub left_of : NormalRow → List Row
left_of (Kept r) = r ∷ []
left_of Dropped = []
left_of Absurd = []

onto_is : (l : NormalRow) (rs : List Row) → left_onto l rs ≡ left_of l ++ rs
onto_is (Kept r) rs = refl
onto_is Dropped rs = refl
onto_is Absurd rs = refl

or_assoc : (a b c : Bool) → (a || (b || c)) ≡ ((a || b) || c)
or_assoc true b c = refl
or_assoc false b c = refl

pass_more : (rs done : List Row) (bad : Bool) (i : ℕ) (r : Row) (l : NormalRow) → PassHalfway rs done bad i → i < length rs → r ≡ get_or rs i r → NormalFits r → l ≡ normal_row r
    → PassHalfway rs (done ++ left_of l) (bad || is_absurd l) (i + 1)
pass_more rs done bad i r l h m er fits n =
    let d : drop i rs ≡ r ∷ drop (i + 1) rs = rw er (drop_more rs i r m) in
    record {
      room = omega arith;
      onward = λ all. (rw d at (h.onward all)).1;
      back = λ rest. h.back (rw d (fits, rest));
      value = (rw (d, ← n, onto_is l (left_rows (drop (i + 1) rs))) at h.value) ∙ sym (append_assoc done (left_of l) (left_rows (drop (i + 1) rs)));
      absurdity = (rw (d, ← n) at h.absurdity) ∙ or_assoc bad (is_absurd l) (has_absurd (drop (i + 1) rs));
    }

pub pass_kept : (rs done new : List Row) (bad : Bool) (i : ℕ) (r s : Row) → PassHalfway rs done bad i → i < length rs → r ≡ get_or rs i r → NormalFits r × (Kept s ≡ normal_row r) → new ≡ done ++ s ∷ [] → PassHalfway rs new bad (i + 1)
pass_kept rs done new bad i r s h m er n e = rw (e, ← (or_false bad)) (pass_more rs done bad i r (Kept s) h m er n.0 n.1)

pub pass_dropped : (rs done : List Row) (bad : Bool) (i : ℕ) (r : Row) → PassHalfway rs done bad i → i < length rs → r ≡ get_or rs i r → NormalFits r × (Dropped ≡ normal_row r) → PassHalfway rs done bad (i + 1)
pass_dropped rs done bad i r h m er n = rw (or_false bad, append-nil done) at (pass_more rs done bad i r Dropped h m er n.0 n.1)

pub pass_absurd : (rs done : List Row) (bad : Bool) (i : ℕ) (r : Row) → PassHalfway rs done bad i → i < length rs → r ≡ get_or rs i r → NormalFits r × (Absurd ≡ normal_row r) → PassHalfway rs done true (i + 1)
pass_absurd rs done bad i r h m er n = rw (or_true bad, append-nil done) at (pass_more rs done bad i r Absurd h m er n.0 n.1)

pub pass_wide : (rs done : List Row) (bad : Bool) (i : ℕ) (r : Row) → PassHalfway rs done bad i → i < length rs → r ≡ get_or rs i r → RowsFit rs → NormalFits r
pass_wide rs done bad i r h m er all =
    let d : drop i rs ≡ r ∷ drop (i + 1) rs = rw er (drop_more rs i r m) in
    (rw d at (h.onward all)).0

pub modulus_at : (rs : List Row) (i : ℕ) (r : Row) → HaveModuli rs → i < length rs → r ≡ get_or rs i r → HasModulus r
modulus_at [] i r h m e = absurd (omega arith)
modulus_at (x ∷ rs) zero r h m e = rw e h.0
modulus_at (x ∷ rs) (suc i) r h m e = modulus_at rs i r h.1 (omega arith) e

pub moduli_of : (n : ℕ) (rs : List Row) → AreRowsOver n rs → HaveModuli rs
moduli_of n [] h = tt
moduli_of n (r ∷ rs) h = (h.0.1, moduli_of n rs h.1)

pub ruleset pass_steps = (pass_start, pass_end, pass_kept, pass_dropped, pass_absurd, pass_wide, modulus_at)
