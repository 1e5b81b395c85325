-- Counters with quotients behind them.
use Rattle.std.proofs.Common.{◌≡◌, List, [], ◌∷◌, ◌++◌, refl, ap, ◌∙◌, arith, append_assoc, ℤ}
use Rattle.std.specs.List.{range_with_len}
use Rattle.ac_forms.specs.Renaming.{picked}
use Rattle.ac_poly_quotients.proofs.Blocks.{numbers_behind}
use Rattle.ac_poly_quotients.specs.LawsOfColumns.{CountersAreRead, CountersAreTheSame}

pub counters_are_read : CountersAreRead
counters_are_read front zs qs back from count e l =
    ap (λ (p : List ℤ). picked (range_with_len from count) (front ++ p)) (append_assoc zs qs back) ∙ numbers_behind front zs (qs ++ back) from count e l

pub counters_are_the_same : CountersAreTheSame
counters_are_the_same [] [] qs rs e i = (refl, i)
counters_are_the_same [] (y ∷ ys) qs rs e i = absurd (omega arith)
counters_are_the_same (x ∷ xs) [] qs rs e i = absurd (omega arith)
counters_are_the_same (x ∷ xs) (y ∷ ys) qs rs e i =
    let first : x ≡ y = cc in
    let more : xs ++ qs ≡ ys ++ rs = cc in
    let again = counters_are_the_same xs ys qs rs (omega arith) more in
    ((λ t. first t ∷ again.0 t), again.1)
