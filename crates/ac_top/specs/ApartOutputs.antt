-- The law on outputs that are apart in the pair of an arrangement.
use Rattle.std.specs.Prelude.{ℕ, [], ◌∷◌}
use Rattle.ac_syntax.specs.ExecutedCalls.{HaveArities}
use Rattle.ac_syntax.specs.declared.tree.Order.{Order}
use Rattle.ac_syntax.specs.declared.tree.Pair.{Pair}
use Rattle.ac_syntax.specs.declared.tree.Position.{Position}
use Rattle.ac_claims.specs.Soundness.{ArePaired}
use Rattle.ac_widen.specs.Obligations.{HasMismatch}
use Rattle.ac_widen_programs.specs.OutputAgreement.{AreOutputs}
use Rattle.ac_walk_state.specs.SearchSetting.{Widening, IsWideningOf, searched}
use Rattle.ac_top.specs.ArrangementReports.{IsApart}

-- of an output that is apart no order is without a mismatch, in the setting of the search on it
abbrev pub ApartOutputsHaveMismatches : Type 0
ApartOutputsHaveMismatches =
    (pair : Pair) (output : ℕ) → ArePaired pair → HaveArities pair.left.body → HaveArities pair.right.body → AreOutputs pair (output ∷ []) → IsApart pair output
    → (w : Widening) → IsWideningOf pair output w → (order : Position × Position → Order) → ¬ (¬ (HasMismatch (searched pair output w) order))
