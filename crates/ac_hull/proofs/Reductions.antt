-- A row reduced by others, one after the other.
use Rattle.std.proofs.Common.{◌≡◌, ℕ, ◌+◌, ◌<◌, ◌≤◌, ℤ, List, ◌∷◌, length, drop, get_or, refl, arith, sym, ◌∙◌, ap}
use Rattle.std.proofs.lemmas.List.{drop_more, drop_all}
use Rattle.ac_hull.specs.FractionFreeElimination.{entry, column_of, pivot_of, crossed, reduced_by, reduced_all}
use Rattle.ac_hull.specs.EliminationRange.{AllCross, CanReduce, CanReduceAll}
use Rattle.ac_hull.specs.declared.line.Line.{Line}

-- before row i
pub record ReduceHalfway (os : List Line) (from line : Line) (i : ℕ) : Type 0 where
  pub room : i ≤ length os
  pub onward : CanReduceAll os from → CanReduceAll (drop i os) line
  pub back : CanReduceAll (drop i os) line → CanReduceAll os from
  pub value : reduced_all os from ≡ reduced_all (drop i os) line

-- both parts of a row
pub reduced_made : (o l : Line) (p n : ℤ) (xs ys ws vs cs ms : List ℤ) → p ≡ pivot_of o → n ≡ entry (column_of o) l.coords → xs ≡ l.coords → ys ≡ o.coords → ws ≡ l.weights → vs ≡ o.weights
    → AllCross p xs n ys × (cs ≡ crossed p xs n ys) → AllCross p ws n vs × (ms ≡ crossed p ws n vs) → CanReduce o l × (record { coords = cs; weights = ms } ≡ reduced_by o l)
reduced_made o l p n xs ys ws vs cs ms e f a b d g c m =
    let coords = rw (e, f, a, b) at c in
    let weights = rw (e, f, d, g) at m in
    ((coords.0, weights.0), rw (coords.1, weights.1) refl)

pub reduce_start : (os : List Line) (from : Line) → ReduceHalfway os from from 0
reduce_start os from = record { room = omega arith; onward = λ f. f; back = λ f. f; value = refl }

pub reduce_step : (os : List Line) (from line new : Line) (i : ℕ) (o : Line) → ReduceHalfway os from line i → i < length os → o ≡ get_or os i o → CanReduce o line → new ≡ reduced_by o line
    → ReduceHalfway os from new (i + 1)
reduce_step os from line new i o h m e can is =
    let d : drop i os ≡ o ∷ drop (i + 1) os = rw e (drop_more os i o m) in
    rw is (record {
      room = omega arith;
      onward = λ f. (rw d at (h.onward f)).1;
      back = λ f. h.back (rw d (can, f));
      value = h.value ∙ ap (λ t. reduced_all t line) d;
    })

pub reduce_fails : (os : List Line) (from line : Line) (i : ℕ) (o : Line) → ReduceHalfway os from line i → i < length os → o ≡ get_or os i o → ¬ (CanReduce o line) → ¬ (CanReduceAll os from)
reduce_fails os from line i o h m e n f =
    let d : drop i os ≡ o ∷ drop (i + 1) os = rw e (drop_more os i o m) in
    n (rw d at (h.onward f)).0

pub reduce_end : (os : List Line) (from line : Line) (i : ℕ) → ReduceHalfway os from line i → length os ≤ i → CanReduceAll os from × (line ≡ reduced_all os from)
reduce_end os from line i h m = (h.back (rw (drop_all i os m) tt), sym (rw (drop_all i os m) at h.value))

pub ruleset reduction_steps = (reduce_start, reduce_step, reduce_fails, reduce_end)
