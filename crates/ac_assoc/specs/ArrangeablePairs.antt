-- Pairs without a fault can be arranged.
use Rattle.std.specs.Prelude.{ℕ, ◌≡◌, List, None}
use Rattle.ac_syntax.specs.ExecutedCalls.{HaveArities}
use Rattle.ac_syntax.specs.declared.tree.Pair.{Pair}
use Rattle.ac_assoc_law.specs.ArrangedPairs.{PairCanArrange}
use Rattle.ac_assoc.specs.ArrangementFaults.{fault_of}

abbrev pub PairsWithoutFaultCanBeArranged : Type 0
PairsWithoutFaultCanBeArranged =
    (names : List (List ℕ)) (pair : Pair) → HaveArities pair.left.body → HaveArities pair.right.body → fault_of names pair ≡ None → PairCanArrange names pair
