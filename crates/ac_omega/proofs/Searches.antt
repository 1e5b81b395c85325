-- One conjunction of a walk: what the code answers is the definition's.
use Rattle.std.proofs.Common.{◌≡◌, ℕ, zero, suc, ◌+◌, ◌-◌, ◌^◌, ◌<◌, ◌≤◌, min, ℤ, pos, List, length, Some, None, Result, Ok, Err, Bool, true, false, cond, ◌&&◌, arith, refl, ◌∙◌, ap, sym, subst}
use Rattle.std.specs.Prelude.{replicate, IfOk}
use borrow.Author.Tests.{lt-ltb, le-ltb}
use Rattle.ac_forms.specs.NormalForm.{normal_conj}
use Rattle.ac_forms.specs.Rows.{IsWellMade}
use Rattle.ac_forms.specs.declared.conj.Conj.{Conj}
use Rattle.ac_forms.specs.RangeTests.{rows_fit}
use Rattle.ac_omega_steps.specs.Choices.{are_absurd, left_by}
use Rattle.ac_omega_steps.specs.ChoiceFits.{after_choice, choice_fits, raw}
use Rattle.ac_omega_steps.specs.IntegerPoints.{IsPoint}
use Rattle.ac_omega_steps.specs.declared.choose.Choice.{Choice}
use Rattle.ac_omega.specs.ColumnChoice.{next_column}
use Rattle.ac_omega.specs.ConjunctionCosts.{cost_of}
use Rattle.ac_omega.specs.Maxima.{with_rows}
use Rattle.ac_omega.specs.WalkAnswers.{IfFound, IsNormal, Settle, SettleFor, WantsPoint}
use Rattle.ac_omega.specs.Visits.{Seen, seen, visiting, Visits, tried, Tried, at_leaf}
use Rattle.ac_omega_certify.specs.Alternatives.{alternatives_for}
use Rattle.ac_omega.specs.Walk as def
use Rattle.ac_omega.specs.Walk.{walk, looked, behind, entered}
use Rattle.ac_omega.specs.declared.halt.Halt.{Halt}
use Rattle.ac_omega.specs.declared.halt.Halt.TheVariants as halt
use Rattle.ac_omega.specs.declared.piece.Piece.{Piece}
use Rattle.ac_omega.specs.declared.search.Aim.{Aim}
use Rattle.ac_omega.specs.declared.search.Aim.TheVariants.{ForPoint, ForRefutation, ForPieces}
use Rattle.ac_omega.specs.declared.search.Walked.{Walked}
use Rattle.ac_omega.specs.declared.search.Walked.TheVariants as done
use Rattle.ac_omega.proofs.Rows.{column-cost}
use Rattle.ac_omega_certify.specs.declared.strategy.Strategy.{Strategy}

-- what a choice leaves is in normal form
pub after-normal : (h : Choice) (c d : Conj) → after_choice h c ≡ Some d → (d.columns ≡ c.columns) × IsNormal d
unfolding after_choice
after-normal h c d e = by (choice_fits h c.rows) (rows_fit (left_by h c.rows)) e
  where
    by : (a b : Bool) → cond (a && b) (Some (normal_conj (raw h c))) None ≡ Some d → (d.columns ≡ c.columns) × IsNormal d
    by true true e =
        let s : normal_conj (raw h c) ≡ d = cc in
        (ap (λ x. x.columns) (sym s), (left_by h c.rows, ap (λ x. x.rows) (sym s)))
    by true false e = absurd cc
    by false b e = absurd cc

-- a conjunction within the budget
walk-looks : (strategy : Strategy) (aim : Aim) (vars : List ℕ) (n b : ℕ) (path : List Choice) (c : Conj) (k : ℕ) (s : Seen) → k + cost_of strategy vars c.rows ≤ b → b < n + k
    → (m : ℕ) × (n ≡ suc m) × (walk (visiting strategy aim vars) n b (path, c) k s ≡ looked (visiting strategy aim vars) (λ x j t. walk (visiting strategy aim vars) m b x j t) (path, c) (k + cost_of strategy vars c.rows) ((visiting strategy aim vars).note (path, c) s) ((visiting strategy aim vars).look (path, c)))
unfolding walk
walk-looks strategy aim vars zero b path c k s l f = absurd (omega arith)
walk-looks strategy aim vars (suc m) b path c k s l f = (m, refl, rw (le-ltb b (k + cost_of strategy vars c.rows) l) refl)

pub over-budget : (strategy : Strategy) (aim : Aim) (vars : List ℕ) (n b : ℕ) (path : List Choice) (c : Conj) (k j : ℕ) (s : Seen) (ps : List Piece) → k ≤ b → b < k + cost_of strategy vars c.rows → b < n + k → j ≡ min (k + cost_of strategy vars c.rows) (2 ^ 64 - 1) → Visits (Err (halt.Spent j)) ps (walk (visiting strategy aim vars) n b (path, c) k s)
unfolding walk
over-budget strategy aim vars zero b path c k j s ps l o f e = absurd (omega arith)
over-budget strategy aim vars (suc m) b path c k j s ps l o f e = (k + cost_of strategy vars c.rows, rw (lt-ltb b (k + cost_of strategy vars c.rows) o) refl, e)

pub absurd-gone : (strategy : Strategy) (aim : Aim) (vars : List ℕ) (n b : ℕ) (path : List Choice) (c : Conj) (k : ℕ) (s : Seen) → k + cost_of strategy vars c.rows ≤ b → b < n + k → are_absurd c.rows ≡ true → walk (visiting strategy aim vars) n b (path, c) k s ≡ def.Empty (k + cost_of strategy vars c.rows) (seen (with_rows c.rows s.maxima) s.pieces)
absurd-gone strategy aim vars n b path c k s l f e = (walk-looks strategy aim vars n b path c k s l f).2 ∙ rw e refl

leaf-here : (strategy : Strategy) (aim : Aim) (vars : List ℕ) (m b : ℕ) (path : List Choice) (c : Conj) (k : ℕ) (s : Seen) → are_absurd c.rows ≡ false → next_column strategy vars c.rows ≡ None
    → looked (visiting strategy aim vars) (λ x j t. walk (visiting strategy aim vars) m b x j t) (path, c) k ((visiting strategy aim vars).note (path, c) s) ((visiting strategy aim vars).look (path, c)) ≡ at_leaf aim path c k (with_rows c.rows s.maxima) s.pieces
leaf-here strategy ForPoint vars m b path c k s e o = rw (e, o) refl
leaf-here strategy ForRefutation vars m b path c k s e o = rw (e, o) refl
leaf-here strategy ForPieces vars m b path c k s e o = rw (e, o) refl

pub leaf-found : (strategy : Strategy) (aim : Aim) (vars : List ℕ) (n b : ℕ) (path : List Choice) (c : Conj) (k : ℕ) (s : Seen) → k + cost_of strategy vars c.rows ≤ b → b < n + k → are_absurd c.rows ≡ false → next_column strategy vars c.rows ≡ None → walk (visiting strategy aim vars) n b (path, c) k s ≡ at_leaf aim path c (k + cost_of strategy vars c.rows) (with_rows c.rows s.maxima) s.pieces
leaf-found strategy aim vars n b path c k s l f e o = let w = walk-looks strategy aim vars n b path c k s l f in w.2 ∙ leaf-here strategy aim vars w.0 b path c (k + cost_of strategy vars c.rows) s e o

pub by-column : (strategy : Strategy) (aim : Aim) (vars : List ℕ) (n b : ℕ) (path : List Choice) (c : Conj) (k : ℕ) (s : Seen) (z : ℕ) (r : Result Walked Halt) (ps : List Piece) → k + cost_of strategy vars c.rows ≤ b → b < n + k → are_absurd c.rows ≡ false → next_column strategy vars c.rows ≡ Some z
    → Tried r ps strategy aim vars b path c (alternatives_for strategy z c.rows) (k + cost_of strategy vars c.rows) (seen (with_rows c.rows s.maxima) s.pieces) → Visits r ps (walk (visiting strategy aim vars) n b (path, c) k s)
by-column strategy aim vars n b path c k s z r ps l f e o h =
    let w = walk-looks strategy aim vars n b path c k s l f in
    let q = column-cost strategy vars c.rows z o in
    let t : walk (visiting strategy aim vars) n b (path, c) k s ≡ tried strategy aim vars w.0 b path c (alternatives_for strategy z c.rows) (k + cost_of strategy vars c.rows) (seen (with_rows c.rows s.maxima) s.pieces) = w.2 ∙ rw (e, o) refl in
    rw t (h w.0 (omega (arith, w.1)))

-- zeros, where no row is left
zeros-meet : (strategy : Strategy) (vars : List ℕ) (c : Conj) (p : List ℤ) → IsWellMade c → IsNormal c → Settle strategy c.columns vars → are_absurd c.rows ≡ false → next_column strategy vars c.rows ≡ None → p ≡ replicate c.columns (pos 0) → IsPoint c p
zeros-meet strategy vars c p made normal settle e o z =
    record { long = rw z (length-replicate c.columns (pos 0)); meets = rw (settle c made normal refl e o) tt }
  where
    length-replicate : (n : ℕ) (x : ℤ) → length (replicate n x) ≡ n
    length-replicate zero x = refl
    length-replicate (suc n) x = ap suc (length-replicate n x)

pub leaf-point : (strategy : Strategy) (aim : Aim) (vars : List ℕ) (c : Conj) (r : Result Walked Halt) → IsWellMade c → IsNormal c → SettleFor strategy aim c.columns vars → are_absurd c.rows ≡ false → next_column strategy vars c.rows ≡ None
    → IfOk r (λ w. IfFound w (λ p. WantsPoint aim × (p ≡ replicate c.columns (pos 0)))) → IfOk r (λ w. IfFound w (λ p. IsPoint c p))
leaf-point strategy aim vars c (Ok (done.Empty k s r)) made normal settle e o h = tt
leaf-point strategy aim vars c (Ok (done.Found p)) made normal settle e o h = zeros-meet strategy vars c p.items made normal (settle h.0) e o h.1
leaf-point strategy aim vars c (Err stop) made normal settle e o h = tt

-- an answer of equal walks
pub visits-as : (r : Result Walked Halt) (ps : List Piece) (v w : def.Walked Seen) → v ≡ w → Visits r ps w → Visits r ps v
visits-as r ps v w e h = subst (λ (x : def.Walked Seen). Visits r ps x) (sym e) h
