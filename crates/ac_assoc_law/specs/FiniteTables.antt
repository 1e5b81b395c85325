-- The same, where tables are finite maps.
use Rattle.std.specs.Prelude.{ℕ, ◌≡◌, List, ℤ}
use Rattle.ac_syntax.specs.Algebra.{Cell, integers}
use Rattle.ac_syntax.specs.Term.{Respects}
use Rattle.ac_syntax.specs.Sameness.{AgreeOn, leaves}
use Rattle.ac_syntax.specs.Where.{element}
use Rattle.ac_syntax.specs.Outputs.{input_at, swaps_of, IsValuation, IsElement}
use Rattle.ac_syntax.specs.declared.tree.Symbol.{Symbol}
use Rattle.ac_syntax.specs.declared.tree.Pair.{Pair}
use Rattle.ac_assoc_law.specs.OperandChains.{Tables, chain_leaves}
use Rattle.ac_assoc_law.specs.ArrangedTables.{IsFinite}

abbrev pub SameFinitely : Pair → ℕ → Type 0
SameFinitely pair output =
    (params : List ℤ) → IsValuation pair params → (e : List ℤ) → IsElement pair params output e
    → (table : Symbol → List ℤ → ℤ) (at_left at_right : Cell → ℤ) → IsFinite table → Respects (swaps_of pair.commutative) (integers table) → AgreeOn (input_at pair.left.arrays) at_left at_right
    → leaves pair.left.body params table at_left (element output e) ≡ leaves pair.right.body params table at_right (element output e)

abbrev pub SameUnderFiniteChains : List (List ℕ) → Pair → ℕ → Type 0
SameUnderFiniteChains names pair output =
    (params : List ℤ) → IsValuation pair params → (e : List ℤ) → IsElement pair params output e
    → (t : Tables) (at_left at_right : Cell → ℤ) → IsFinite t.calls → IsFinite t.chains → Respects (swaps_of pair.commutative) (integers t.calls) → AgreeOn (input_at pair.left.arrays) at_left at_right
    → chain_leaves names pair.left.body params t at_left (element output e) ≡ chain_leaves names pair.right.body params t at_right (element output e)
