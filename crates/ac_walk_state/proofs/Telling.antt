-- An output has one widening.
use Rattle.std.proofs.Common.{◌≡◌, ℕ}
use Rattle.ac_syntax.specs.declared.tree.Pair.{Pair}
use Rattle.ac_walk_state.specs.SearchSetting.{Widening, IsWideningOf}
use Rattle.ac_walk_state.proofs.Widening.{widenings_are_one}

pub same_widening : (pair : Pair) (output : ℕ) (w v : Widening) → IsWideningOf pair output w → IsWideningOf pair output v → w ≡ v
same_widening pair output w v h k = let one = widenings_are_one pair output w v h k in λ i. record { recurrent = λ key. one.recurrent key i; thresholds = one.thresholds i; moduli = one.moduli i }
