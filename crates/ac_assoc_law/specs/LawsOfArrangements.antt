-- What the arranged pair says of the chains of the old one.
use Rattle.std.specs.Prelude.{ℕ, ◌≡◌, ◌++◌, List, ℤ}
use Rattle.ac_syntax.specs.Index.{Point}
use Rattle.ac_syntax.specs.Algebra.{Cell, integers, value_of}
use Rattle.ac_syntax.specs.Term.{Respects}
use Rattle.ac_syntax.specs.ReadyPrograms.{ReadyProgram}
use Rattle.ac_syntax.specs.ExecutedCalls.{HaveArities}
use Rattle.ac_syntax.specs.Dimensions.{HasDimensions}
use Rattle.ac_syntax.specs.Small.{IsSmallPair}
use Rattle.ac_syntax.specs.Sameness.{leaves}
use Rattle.ac_syntax.specs.Outputs.{swaps_of, SameOutput}
use Rattle.ac_syntax.specs.declared.tree.Symbol.{Symbol}
use Rattle.ac_syntax.specs.declared.tree.Stmt.{Stmt}
use Rattle.ac_syntax.specs.declared.tree.Value.{Value}
use Rattle.ac_syntax.specs.declared.tree.Pair.{Pair}
use Rattle.ac_assoc_law.specs.OperandChains.{Tables, chain_value, chain_leaves}
use Rattle.ac_assoc_law.specs.ChainSameness.{SameUnderChains}
use Rattle.ac_assoc_law.specs.FiniteTables.{SameFinitely, SameUnderFiniteChains}
use Rattle.ac_assoc_law.specs.ArrangedPairs.{CanArrange, CallsHaveArities, ProgramCanArrange, PairCanArrange, arranged, arranged_all, arranged_pair}
use Rattle.ac_assoc_law.specs.ArrangedTables.{arranged_table, IsFinite}

-- one value in one state
abbrev pub ArrangedValuesAreChainValues : Type 0
ArrangedValuesAreChainValues =
    (names : List (List ℕ)) (t : Tables) (choice : ℕ → ℕ) (k : ℕ) (p : Point) (state : Cell → ℤ) (v : Value) → CanArrange names v → CallsHaveArities v
    → value_of (integers (arranged_table names t)) p state (arranged names choice k v) ≡ chain_value names t p state v

-- whole runs, whatever orders are chosen
abbrev pub ArrangedRunsAreChainRuns : Type 0
ArrangedRunsAreChainRuns =
    (names : List (List ℕ)) (t : Tables) (choice : ℕ → ℕ → ℕ) (body : List Stmt) (params : List ℤ) (contents : Cell → ℤ) (c : Cell)
    → ProgramCanArrange names body → HaveArities body
    → leaves (arranged_all names choice 0 body) params (arranged_table names t) contents c ≡ chain_leaves names body params t contents c

-- the table of the new pair respects its names where the old one respects the old names
abbrev pub ArrangedTablesRespect : Type 0
ArrangedTablesRespect =
    (names commutative : List (List ℕ)) (t : Tables) → Respects (swaps_of commutative) (integers t.calls)
    → Respects (swaps_of (commutative ++ names)) (integers (arranged_table names t))

abbrev pub ArrangedTablesAreFinite : Type 0
ArrangedTablesAreFinite = (names : List (List ℕ)) (t : Tables) → IsFinite t.calls → IsFinite t.chains → IsFinite (arranged_table names t)

-- a table of the new pair under which each of its runs leaves what the chain run of the old pair leaves
pub record StandsFor (names : List (List ℕ)) (pair new : Pair) (t : Tables) (table : Symbol → List ℤ → ℤ) : Type 0 where
  pub respects : Respects (swaps_of new.commutative) (integers table)
  pub left : (params : List ℤ) (contents : Cell → ℤ) (c : Cell) → leaves new.left.body params table contents c ≡ chain_leaves names pair.left.body params t contents c
  pub right : (params : List ℤ) (contents : Cell → ℤ) (c : Cell) → leaves new.right.body params table contents c ≡ chain_leaves names pair.right.body params t contents c
  pub finite : IsFinite t.calls → IsFinite t.chains → IsFinite table

-- for every two tables there is one
abbrev pub ArrangedPairsHaveTables : Type 0
ArrangedPairsHaveTables =
    (names : List (List ℕ)) (choice : ℕ → ℕ → ℕ) (pair : Pair) → PairCanArrange names pair → (t : Tables) → Respects (swaps_of pair.commutative) (integers t.calls)
    → (table : Symbol → List ℤ → ℤ) × StandsFor names pair (arranged_pair names choice pair) t table

-- an output that is the same in the new pair is the same under chains in the old one
abbrev pub SameArrangedIsSameUnderChains : Type 0
SameArrangedIsSameUnderChains =
    (names : List (List ℕ)) (choice : ℕ → ℕ → ℕ) (pair : Pair) (output : ℕ) → PairCanArrange names pair
    → SameOutput (arranged_pair names choice pair) output → SameUnderChains names pair output

-- so it is where tables are finite maps
abbrev pub SameFinitelyIsSameUnderFiniteChains : Type 0
SameFinitelyIsSameUnderFiniteChains =
    (names : List (List ℕ)) (choice : ℕ → ℕ → ℕ) (pair : Pair) (output : ℕ) → PairCanArrange names pair
    → SameFinitely (arranged_pair names choice pair) output → SameUnderFiniteChains names pair output

-- what the judge and the runs ask of a pair stays
abbrev pub ArrangedPairsAreReady : Type 0
ArrangedPairsAreReady =
    (names : List (List ℕ)) (choice : ℕ → ℕ → ℕ) (pair : Pair) → ReadyProgram pair.left → ReadyProgram pair.right
    → ReadyProgram (arranged_pair names choice pair).left × ReadyProgram (arranged_pair names choice pair).right

abbrev pub ArrangedPairsHaveArities : Type 0
ArrangedPairsHaveArities =
    (names : List (List ℕ)) (choice : ℕ → ℕ → ℕ) (pair : Pair) → HaveArities pair.left.body → HaveArities pair.right.body
    → HaveArities (arranged_pair names choice pair).left.body × HaveArities (arranged_pair names choice pair).right.body

abbrev pub ArrangedPairsHaveDimensions : Type 0
ArrangedPairsHaveDimensions =
    (names : List (List ℕ)) (choice : ℕ → ℕ → ℕ) (pair : Pair) → HasDimensions pair.left → HasDimensions pair.right
    → HasDimensions (arranged_pair names choice pair).left × HasDimensions (arranged_pair names choice pair).right

abbrev pub ArrangedPairsAreSmall : Type 0
ArrangedPairsAreSmall = (names : List (List ℕ)) (choice : ℕ → ℕ → ℕ) (pair : Pair) → IsSmallPair pair → IsSmallPair (arranged_pair names choice pair)
