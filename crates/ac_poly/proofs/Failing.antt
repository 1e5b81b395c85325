-- In how many ways a condition fails.
use Rattle.std.proofs.Common.{◌≡◌, ℕ, ◌+◌, ◌<◌, ◌≤◌, List, length, drop, get_or, arith}
use Rattle.std.proofs.lemmas.List.{drop_all}
use Rattle.ac_syntax.specs.declared.tree.Comparison.{Comparison}
use Rattle.ac_poly.specs.LoweringSteps.{ways_by, ways}
pub use Rattle.ac_poly_quotients.proofs.Making.{more}

-- in how many ways a condition fails
pub record Counted (cs : List Comparison) (i count : ℕ) : Type 0 where
  pub value : count + ways (drop i cs) ≡ ways cs

pub count_start : (cs : List Comparison) → Counted cs 0 0
count_start cs = record { value = let e : 0 + ways cs ≡ ways cs = omega arith in e }

pub count_step : (cs : List Comparison) (i count next : ℕ) (c : Comparison) → Counted cs i count → i < length cs → c ≡ get_or cs i c → next ≡ count + ways_by c.rel → Counted cs (i + 1) next
count_step cs i count next c h l e n =
    let v : count + (ways_by c.rel + ways (drop (i + 1) cs)) ≡ ways cs = rw (more cs i c l e) at h.value in
    record { value = let w : next + ways (drop (i + 1) cs) ≡ ways cs = omega arith in w }

pub count_end : (cs : List Comparison) (i count : ℕ) → Counted cs i count → length cs ≤ i → count ≡ ways cs
count_end cs i count h l = let v : count + 0 ≡ ways cs = rw (drop_all i cs l) at h.value in omega arith

pub ruleset count_steps = (count_start, count_step, count_end)
