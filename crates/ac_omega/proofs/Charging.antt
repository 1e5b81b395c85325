-- A cost that stands still at the last number of 128 bits, as the pairs of columns are added to it.
use Rattle.std.proofs.Common.{◌≡◌, ℕ, ◌+◌, ◌-◌, ◌^◌, ◌<◌, ◌≤◌, List, [], ◌∷◌, length, drop, get_or, arith, refl, ap, ◌∙◌}
use Rattle.std.specs.Prelude.{min}
use Rattle.std.proofs.lemmas.List.{drop_more, drop_all}
use Rattle.ac_forms.specs.declared.row.Row.{Row}
use Rattle.ac_omega.specs.ConjunctionCosts.{pairs_at, pairs_of}

pub stays : (n : ℕ) → n < 2 ^ 128 → n ≡ min (n + 0) (2 ^ 128 - 1)
stays n l = omega (arith, l)

-- the cost with the pairs of all columns is the cost so far with those of the columns that are left
pub record PairsHalfway (rows : List Row) (zs : List ℕ) (cost total i : ℕ) : Type 0 where
  pub so_far : min (cost + pairs_of rows zs) (2 ^ 128 - 1) ≡ min (total + pairs_of rows (drop i zs)) (2 ^ 128 - 1)
  pub most : total < 2 ^ 128

pub pairs_start : (rows : List Row) (zs : List ℕ) (cost : ℕ) → cost < 2 ^ 128 → PairsHalfway rows zs cost cost 0
pairs_start rows zs cost l = record { so_far = refl; most = l }

saturates : (total pairs rest next : ℕ) → next ≡ min (total + pairs) (2 ^ 128 - 1) → min (total + (pairs + rest)) (2 ^ 128 - 1) ≡ min (next + rest) (2 ^ 128 - 1)
saturates total pairs rest next e = omega (arith, e)

last-one : (x next : ℕ) → next ≡ min x (2 ^ 128 - 1) → next < 2 ^ 128
last-one x next e = omega (arith, e)

pub pairs_step : (rows : List Row) (zs : List ℕ) (cost total next i : ℕ) → PairsHalfway rows zs cost total i → i < length zs → next ≡ min (total + pairs_at rows (get_or zs i 0)) (2 ^ 128 - 1) → PairsHalfway rows zs cost next (i + 1)
pairs_step rows zs cost total next i h m e =
    let d : drop i zs ≡ get_or zs i 0 ∷ drop (i + 1) zs = drop_more zs i 0 m in
    record {
      so_far = h.so_far ∙ ap (λ (ys : List ℕ). min (total + pairs_of rows ys) (2 ^ 128 - 1)) d ∙ saturates total (pairs_at rows (get_or zs i 0)) (pairs_of rows (drop (i + 1) zs)) next e;
      most = last-one (total + pairs_at rows (get_or zs i 0)) next e;
    }

ends-there : (total x : ℕ) → x ≡ min (total + 0) (2 ^ 128 - 1) → total < 2 ^ 128 → total ≡ x
ends-there total x e l = omega (arith, e, l)

pub pairs_end : (rows : List Row) (zs : List ℕ) (cost total i : ℕ) → PairsHalfway rows zs cost total i → length zs ≤ i → total ≡ min (cost + pairs_of rows zs) (2 ^ 128 - 1)
pairs_end rows zs cost total i h m =
    let d : drop i zs ≡ [] = drop_all i zs m in
    ends-there total (min (cost + pairs_of rows zs) (2 ^ 128 - 1)) (h.so_far ∙ ap (λ (ys : List ℕ). min (total + pairs_of rows ys) (2 ^ 128 - 1)) d) h.most

pub ruleset pair_steps = (pairs_start, pairs_step, pairs_end)
