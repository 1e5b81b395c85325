-- When an output of a pair of programs is the same under chains of listed symbols.
use Rattle.std.specs.Prelude.{ℕ, ◌≡◌, List, ℤ, Bool}
use Rattle.ac_syntax.specs.Algebra.{Cell, integers}
use Rattle.ac_syntax.specs.Term.{Respects}
use Rattle.ac_syntax.specs.Sameness.{AgreeOn}
use Rattle.ac_syntax.specs.Where.{element}
use Rattle.ac_syntax.specs.Outputs.{input_at, swaps_of, IsValuation, IsElement}
use Rattle.ac_syntax.specs.declared.tree.Stmt.{Stmt}
use Rattle.ac_syntax.specs.declared.tree.Symbol.{Symbol}
use Rattle.ac_syntax.specs.declared.tree.Pair.{Pair}
use Rattle.ac_assoc_law.specs.OperandChains.{Tables, chain_leaves}

-- both chain runs leave equal integers in a cell, for every table of the calls that respects the declarations, every table of
-- the chains and all contents that agree
abbrev pub SameByChains : (ℕ → Bool) → (Symbol → Bool) → List (List ℕ) → List Stmt → List Stmt → List ℤ → Cell → Type 0
SameByChains is_input swaps names left right params cell =
    (t : Tables) (at_left at_right : Cell → ℤ) → Respects swaps (integers t.calls) → AgreeOn is_input at_left at_right
    → chain_leaves names left params t at_left cell ≡ chain_leaves names right params t at_right cell

-- the output is the same under chains, at each valuation of the context and at each of its elements
abbrev pub SameUnderChains : List (List ℕ) → Pair → ℕ → Type 0
SameUnderChains names pair output =
    (params : List ℤ) → IsValuation pair params → (e : List ℤ) → IsElement pair params output e
    → SameByChains (input_at pair.left.arrays) (swaps_of pair.commutative) names pair.left.body pair.right.body params (element output e)
