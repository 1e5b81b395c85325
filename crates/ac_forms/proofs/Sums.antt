-- An evaluation, column by column.
use Rattle.std.proofs.Common.{◌≡◌, ℕ, ◌+◌, ◌<◌, ◌≤◌, ℤ, pos, ◌+ℤ◌, ◌*ℤ◌, List, length, drop, get_or, arith, to_z, of_z}
use Rattle.std.specs.Int.{w128}
use Rattle.std.proofs.lemmas.List.{drop_more, drop_all}
use Rattle.std.proofs.lemmas.Int.{ints, to_z-of_z}
use Rattle.ac_base.specs.Dot.{dot}
use Rattle.ac_forms.specs.Fits.{Fits, AllFit}
use Rattle.ac_forms.specs.Affine.{partial_sums}

-- after i columns, what is left to add and to test
pub record Halfway (cs xs : List ℤ) (sum : ℤ) (i : ℕ) : Type 0 where
  pub room : i ≤ length cs
  pub onward : AllFit (partial_sums (pos 0) cs xs) → AllFit (partial_sums sum (drop i cs) (drop i xs))
  pub back : AllFit (partial_sums sum (drop i cs) (drop i xs)) → AllFit (partial_sums (pos 0) cs xs)
  pub value : dot cs xs ≡ sum +ℤ dot (drop i cs) (drop i xs)

pub halfway_start : (cs xs : List ℤ) → Halfway cs xs (pos 0) 0
halfway_start cs xs = record { room = omega arith; onward = λ h. h; back = λ h. h; value = omega (arith, ints) }

-- the next product and the next sum fit, where all do
pub halfway_fits : (cs xs : List ℤ) (sum : ℤ) (i : ℕ) → Halfway cs xs sum i → i < length cs → length cs ≤ length xs
    → AllFit (partial_sums (pos 0) cs xs) → Fits (get_or cs i (pos 0) *ℤ get_or xs i (pos 0)) × Fits (sum +ℤ get_or cs i (pos 0) *ℤ get_or xs i (pos 0))
halfway_fits cs xs sum i h l m all =
    let p : i < length xs = omega arith in
    let rest = rw (drop_more cs i (pos 0) l, drop_more xs i (pos 0) p) at (h.onward all) in
    (rest.0, rest.1.0)

pub halfway_step : (cs xs : List ℤ) (sum : ℤ) (i : ℕ) → Halfway cs xs sum i → i < length cs → length cs ≤ length xs
    → Fits (get_or cs i (pos 0) *ℤ get_or xs i (pos 0)) → Fits (sum +ℤ get_or cs i (pos 0) *ℤ get_or xs i (pos 0))
    → Halfway cs xs (sum +ℤ get_or cs i (pos 0) *ℤ get_or xs i (pos 0)) (i + 1)
halfway_step cs xs sum i h l m fp fs =
    let p : i < length xs = omega arith in
    record {
      room = omega arith;
      onward = λ all. (rw (drop_more cs i (pos 0) l, drop_more xs i (pos 0) p) at (h.onward all)).1.1;
      back = λ rest. h.back (rw (drop_more cs i (pos 0) l, drop_more xs i (pos 0) p) (fp, (fs, rest)));
      value = let e = rw (drop_more cs i (pos 0) l, drop_more xs i (pos 0) p) at h.value in omega (arith, ints, e);
    }

pub halfway_end : (cs xs : List ℤ) (sum : ℤ) (i : ℕ) → Halfway cs xs sum i → length cs ≤ i → AllFit (partial_sums (pos 0) cs xs) × (dot cs xs ≡ sum)
halfway_end cs xs sum i h l =
    let e = rw (drop_all i cs l) at h.value in
    (h.back (rw (drop_all i cs l) tt), omega (arith, ints, e))

pub ruleset eval_steps = (to_z-of_z, halfway_start, halfway_fits, halfway_step, halfway_end)

-- a number as the code hands it on, by its bits
abbrev again : ℤ → ℤ
again z = to_z w128 (of_z w128 z)

pub halfway_made : (cs xs : List ℤ) (sum p next : ℤ) (i : ℕ) → Halfway cs xs sum i → i < length cs → length cs ≤ length xs
    → Fits (get_or cs i (pos 0)) → Fits (get_or xs i (pos 0))
    → Fits (again (get_or cs i (pos 0)) *ℤ again (get_or xs i (pos 0))) × (p ≡ again (get_or cs i (pos 0)) *ℤ again (get_or xs i (pos 0)))
    → Fits (sum +ℤ again p) × (next ≡ sum +ℤ again p)
    → Halfway cs xs (again next) (i + 1)
halfway_made cs xs sum p next i h l m fc fx made added =
    let a = rw (to_z-of_z w128 _ fc, to_z-of_z w128 _ fx) at made in
    let fp : Fits p = rw a.1 a.0 in
    let b = rw (to_z-of_z w128 _ fp) at added in
    let fn : Fits next = rw b.1 b.0 in
    rw (to_z-of_z w128 _ fn, b.1, a.1) (halfway_step cs xs sum i h l m a.0 (rw (← a.1) b.0))
