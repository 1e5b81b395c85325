-- The test of two cells holds exactly where they are one cell.
use Rattle.std.proofs.Common.{◌≡◌, ◌&&◌, ◌==◌, Bool, true, false, refl, arith}
use Rattle.std.specs.Ordering.{int_eq}
use Rattle.std.specs.Cmp.Lexicographic.{pointwise}
use Rattle.std.specs.Bool.{Decides}
use Rattle.std.proofs.lemmas.Bool.Decides.{Decides-int_eq, nat_tests}
use Rattle.std.proofs.lemmas.Slice.Eq.{slice_eq-Decides}
use Rattle.ac_syntax.specs.Algebra.{Cell, same_cell}

both_true : (a b : Bool) → (a && b) ≡ true → (a ≡ true) × (b ≡ true)
both_true true true h = (refl, refl)
both_true true false h = absurd cc
both_true false b h = absurd cc

pub same_cell_is : (c d : Cell) → same_cell c d ≡ true → c ≡ d
same_cell_is c d h =
    let r = both_true (c.array == d.array) (pointwise int_eq c.at d.at) h in
    let a : c.array ≡ d.array = (let k : (c.array == d.array) ≡ true = r.0 in grind (arith, nat_tests)) in
    let dec : Decides (pointwise int_eq c.at d.at) (c.at ≡ d.at) = slice_eq-Decides Decides-int_eq c.at d.at _ refl in
    let b : c.at ≡ d.at = dec.0 r.1 in
    λ i. record { array = a i; at = b i }

pub same_cell_refl : (c : Cell) → same_cell c c ≡ true
same_cell_refl c =
    let a : (c.array == c.array) ≡ true = grind (arith, nat_tests) in
    let dec : Decides (pointwise int_eq c.at c.at) (c.at ≡ c.at) = slice_eq-Decides Decides-int_eq c.at c.at _ refl in
    let b : pointwise int_eq c.at c.at ≡ true = dec.1 refl in
    rw (a, b) refl
