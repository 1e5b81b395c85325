-- Coefficients cleared by rows, from the last to the first.
use Rattle.std.proofs.Common.{◌≡◌, ℕ, zero, suc, ◌+◌, ◌-◌, ◌<◌, ◌≤◌, ℤ, List, [], ◌∷◌, length, drop, get_or, refl, arith, sym, ◌∙◌, ap}
use Rattle.std.proofs.lemmas.List.{drop_more, drop_all}
use Rattle.ac_widen.specs.Combinations.{Each}
use Rattle.ac_hull.specs.Equalities.{cleared_by, cleared}
use Rattle.ac_hull.specs.EliminationRange.{CanClearBy, CanClear}
use Rattle.ac_hull.specs.declared.line.Line.{Line}
use Rattle.ac_hull.proofs.Clearing.{length_cleared}

-- the rows from i on are done
pub record ClearHalfway (ls : List Line) (from made : List ℤ) (i : ℕ) : Type 0 where
  pub room : i ≤ length ls
  pub can : CanClear (drop i ls) from
  pub value : made ≡ cleared (drop i ls) from

pub clear_start : (ls : List Line) (from : List ℤ) (i : ℕ) → i ≡ length ls → ClearHalfway ls from from i
clear_start ls from i e = rw e (record { room = omega arith; can = rw (drop_all (length ls) ls (omega arith)) tt; value = rw (drop_all (length ls) ls (omega arith)) refl })

pub clear_step : (ls : List Line) (from made new : List ℤ) (i j : ℕ) (l : Line) → ClearHalfway ls from made i → 0 < i → j ≡ i - 1 → l ≡ get_or ls j l → CanClearBy l made → new ≡ cleared_by l made → ClearHalfway ls from new j
clear_step ls from made new i j l h p e is can to =
    let d : drop j ls ≡ l ∷ drop (j + 1) ls = rw is (drop_more ls j l (omega (arith, h.room))) in
    let s : j + 1 ≡ i = omega arith in
    let d2 : drop j ls ≡ l ∷ drop i ls = rw s at d in
    record { room = omega (arith, h.room); can = rw d2 (h.can, rw h.value at can); value = to ∙ ap (cleared_by l) h.value ∙ sym (ap (λ t. cleared t from) d2) }

can_drop : (ls : List Line) (from : List ℤ) (i : ℕ) → CanClear ls from → CanClear (drop i ls) from
can_drop ls from zero c = c
can_drop [] from (suc i) c = c
can_drop (l ∷ ls) from (suc i) c = can_drop ls from i c.0

pub clear_fails : (ls : List Line) (from made : List ℤ) (i j : ℕ) (l : Line) → ClearHalfway ls from made i → 0 < i → j ≡ i - 1 → l ≡ get_or ls j l → ¬ (CanClearBy l made) → ¬ (CanClear ls from)
clear_fails ls from made i j l h p e is n c =
    let d : drop j ls ≡ l ∷ drop (j + 1) ls = rw is (drop_more ls j l (omega (arith, h.room))) in
    let s : j + 1 ≡ i = omega arith in
    let d2 : drop j ls ≡ l ∷ drop i ls = rw s at d in
    n (rw (sym h.value) at (rw d2 at (can_drop ls from j c)).1)

pub clear_end : (ls : List Line) (from made : List ℤ) (i : ℕ) → ClearHalfway ls from made i → i ≡ 0 → CanClear ls from × (made ≡ cleared ls from)
clear_end ls from made i h e = (rw e at h.can, rw e at h.value)

pub each_at : (P : Line → Type 0) (ls : List Line) (i : ℕ) (l : Line) → Each P ls → i < length ls → l ≡ get_or ls i l → P l
each_at P [] i l a h e = absurd (omega arith)
each_at P (k ∷ ls) zero l a h e = rw e a.0
each_at P (k ∷ ls) (suc i) l a h e = each_at P ls i l a.1 (omega arith) e

pub length_made : (ls : List Line) (from made : List ℤ) (i : ℕ) → ClearHalfway ls from made i → length made ≡ length from
length_made ls from made i h = ap length h.value ∙ length_cleared (drop i ls) from

pub line_within : (ls : List Line) (n : ℕ) (from made : List ℤ) (i j : ℕ) (l : Line) → Each (λ k. length from ≤ length k.coords) ls → ClearHalfway ls from made i → 0 < i → j ≡ i - 1 → l ≡ get_or ls j l → length made ≤ length l.coords
line_within ls n from made i j l all h p e is =
    let a = each_at (λ k. length from ≤ length k.coords) ls j l all (omega (arith, h.room)) is in omega (arith, a, length_made ls from made i h)

pub ruleset clearing_steps = (clear_start, clear_step, clear_fails, clear_end)
