-- A test of columns, one by one.
use Rattle.std.proofs.Common.{◌≡◌, ℕ, ◌+◌, ◌<◌, ◌≤◌, List, ◌∷◌, length, drop, get_or, arith}
use Rattle.std.proofs.lemmas.List.{drop_more, drop_all}
use Rattle.ac_omega.specs.ColumnChoice.{AreColumns}

-- the columns before place i pass: what is left to look at
pub record TestedHalfway (n : ℕ) (zs : List ℕ) (i : ℕ) : Type 0 where
  pub onward : AreColumns n zs → AreColumns n (drop i zs)
  pub back : AreColumns n (drop i zs) → AreColumns n zs

pub tested_start : (n : ℕ) (zs : List ℕ) → TestedHalfway n zs 0
tested_start n zs = record { onward = λ f. f; back = λ f. f }

pub tested_step : (n : ℕ) (zs : List ℕ) (i : ℕ) → TestedHalfway n zs i → i < length zs → get_or zs i 0 < n → TestedHalfway n zs (i + 1)
tested_step n zs i h m e =
    let d : drop i zs ≡ get_or zs i 0 ∷ drop (i + 1) zs = drop_more zs i 0 m in
    record { onward = λ f. (rw d at (h.onward f)).1; back = λ f. h.back (rw d (e, f)) }

pub tested_fails : (n : ℕ) (zs : List ℕ) (i : ℕ) → TestedHalfway n zs i → i < length zs → n ≤ get_or zs i 0 → AreColumns n zs → ⊥
tested_fails n zs i h m e f =
    let d : drop i zs ≡ get_or zs i 0 ∷ drop (i + 1) zs = drop_more zs i 0 m in
    let g = (rw d at (h.onward f)).0 in
    omega arith

pub tested_end : (n : ℕ) (zs : List ℕ) (i : ℕ) → TestedHalfway n zs i → length zs ≤ i → AreColumns n zs
tested_end n zs i h m = h.back (rw (drop_all i zs m) tt)

pub ruleset column_steps = (tested_start, tested_step, tested_fails, tested_end)
