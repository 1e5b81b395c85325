use Rattle.std.proofs.Common.{◌≡◌, ℕ, zero, suc, ◌+◌, ◌<◌, ◌≤◌, ℤ, List, [], ◌∷◌, length, drop, get_or, arith, to_z, of_z, Bool}
use Rattle.std.proofs.lemmas.List.{drop_more, drop_all}
use Rattle.std.specs.Int.{◌∣◌, w128}
use Rattle.std.specs.Prelude.{unsigned_abs, IsTrue, ◌↔◌}
use Rattle.ac_base.proofs.Bits.{again_128}
use Rattle.ac_forms.specs.declared.row.Row.TheVariants.{Div}
use Rattle.ac_forms.specs.Affine.{CanEvaluate, Affine, value_at}
use Rattle.ac_forms.specs.Fits.{Fits}
use Rattle.ac_forms.specs.Rows.{Holds, IsRowOver, AreRowsOver, form_of, Meets, CanTest}
use Rattle.ac_forms.specs.declared.row.Row.{Row}

-- the rows before row i hold: what is left to test
pub record TestHalfway (rs : List Row) (p : List ℤ) (i : ℕ) : Type 0 where
  pub room : i ≤ length rs
  pub onward : CanTest rs p → CanTest (drop i rs) p
  pub back : CanTest (drop i rs) p → CanTest rs p
  pub meets : Meets rs p → Meets (drop i rs) p
  pub met : Meets (drop i rs) p → Meets rs p

pub test_start : (rs : List Row) (p : List ℤ) → TestHalfway rs p 0
test_start rs p = record { room = omega arith; onward = λ f. f; back = λ f. f; meets = λ f. f; met = λ f. f }

pub test_step : (rs : List Row) (p : List ℤ) (i : ℕ) (r : Row) → TestHalfway rs p i → i < length rs → r ≡ get_or rs i r
    → CanEvaluate (form_of r) p → Holds r p → TestHalfway rs p (i + 1)
test_step rs p i r h m e can holds =
    let d : drop i rs ≡ r ∷ drop (i + 1) rs = rw e (drop_more rs i r m) in
    record {
      room = omega arith;
      onward = λ f. (rw d at (h.onward f)).1 holds;
      back = λ f. h.back (rw d (can, λ _. f));
      meets = λ f. (rw d at (h.meets f)).1;
      met = λ f. h.met (rw d (holds, f));
    }

pub test_can : (rs : List Row) (p : List ℤ) (i : ℕ) (r : Row) → TestHalfway rs p i → i < length rs → r ≡ get_or rs i r → CanTest rs p → CanEvaluate (form_of r) p
test_can rs p i r h m e f =
    let d : drop i rs ≡ r ∷ drop (i + 1) rs = rw e (drop_more rs i r m) in
    (rw d at (h.onward f)).0

pub test_fails : (rs : List Row) (p : List ℤ) (i : ℕ) (r : Row) → TestHalfway rs p i → i < length rs → r ≡ get_or rs i r
    → CanEvaluate (form_of r) p → ¬ (Holds r p) → CanTest rs p × (¬ (Meets rs p))
test_fails rs p i r h m e can fails =
    let d : drop i rs ≡ r ∷ drop (i + 1) rs = rw e (drop_more rs i r m) in
    (h.back (rw d (can, λ holds. absurd (fails holds))), λ f. fails (rw d at (h.meets f)).0)

pub test_end : (rs : List Row) (p : List ℤ) (i : ℕ) → TestHalfway rs p i → length rs ≤ i → CanTest rs p × Meets rs p
test_end rs p i h m = (h.back (rw (drop_all i rs m) tt), h.met (rw (drop_all i rs m) tt))

pub rows_at : (n : ℕ) (rs : List Row) (i : ℕ) (r : Row) → AreRowsOver n rs → i < length rs → r ≡ get_or rs i r → IsRowOver n r
rows_at n [] i r h m e = absurd (omega arith)
rows_at n (x ∷ rs) zero r h m e = rw e h.0
rows_at n (x ∷ rs) (suc i) r h m e = rows_at n rs i r h.1 (omega arith) e

abbrev again : ℤ → ℤ
again z = to_z w128 (of_z w128 z)

pub div_made : (row : Row) (m : ℤ) (f : Affine) (p : List ℤ) (v : ℤ) (b : Bool) → row ≡ Div m f → Fits m → CanEvaluate f p → v ≡ value_at f p
    → IsTrue b ↔ (unsigned_abs (again m) ∣ unsigned_abs (again v)) → CanEvaluate (form_of row) p × (IsTrue b ↔ Holds row p)
div_made row m f p v b e fm can is h =
    let fv : Fits v = rw is can.1 in
    rw e (can, rw (← is) (rw (again_128 m fm, again_128 v fv) at h))

pub ruleset test_steps = (test_start, test_step, test_can, test_fails, test_end, rows_at)

-- the rows before row i are well made: what is left to look at
pub record MadeHalfway (n : ℕ) (rs : List Row) (i : ℕ) : Type 0 where
  pub room : i ≤ length rs
  pub onward : AreRowsOver n rs → AreRowsOver n (drop i rs)
  pub back : AreRowsOver n (drop i rs) → AreRowsOver n rs

pub made_start : (n : ℕ) (rs : List Row) → MadeHalfway n rs 0
made_start n rs = record { room = omega arith; onward = λ f. f; back = λ f. f }

pub made_step : (n : ℕ) (rs : List Row) (i : ℕ) (r : Row) → MadeHalfway n rs i → i < length rs → r ≡ get_or rs i r → IsRowOver n r → MadeHalfway n rs (i + 1)
made_step n rs i r h m e w =
    let d : drop i rs ≡ r ∷ drop (i + 1) rs = rw e (drop_more rs i r m) in
    record {
      room = omega arith;
      onward = λ f. (rw d at (h.onward f)).1;
      back = λ f. h.back (rw d (w, f));
    }

pub made_fails : (n : ℕ) (rs : List Row) (i : ℕ) (r : Row) → MadeHalfway n rs i → i < length rs → r ≡ get_or rs i r → ¬ (IsRowOver n r) → ¬ (AreRowsOver n rs)
made_fails n rs i r h m e w f =
    let d : drop i rs ≡ r ∷ drop (i + 1) rs = rw e (drop_more rs i r m) in
    w (rw d at (h.onward f)).0

pub made_end : (n : ℕ) (rs : List Row) (i : ℕ) → MadeHalfway n rs i → length rs ≤ i → AreRowsOver n rs
made_end n rs i h m = h.back (rw (drop_all i rs m) tt)

pub ruleset made_steps = (made_start, made_step, made_fails, made_end)
