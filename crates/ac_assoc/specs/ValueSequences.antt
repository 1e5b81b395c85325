-- Values one after another.
use Rattle.std.specs.Prelude.{ℕ, ◌+◌, List, [], ◌∷◌, ◌++◌, Option, None}
use Rattle.ac_syntax.specs.ValueNodes.{size}
use Rattle.ac_syntax.specs.declared.tree.Value.{Value}
use Rattle.ac_syntax.specs.declared.tree.Symbol.{Symbol}
use Rattle.ac_syntax.specs.declared.tree.Place.{Place}
use Rattle.ac_instance.specs.declared.halt.Side.{Side}
use Rattle.ac_assoc.specs.declared.types.Chain.{Chain}
use Rattle.ac_assoc.specs.ProgramChains.{operand_nodes, is_part, chains_of}
use Rattle.ac_assoc.specs.ArrangementFaults.{or_first, misused, long}
use Rattle.ac_assoc_law.specs.ArrangedPairs.{arranged, arranged_operands}

-- arranged, the first with the node k
abbrev pub arranged_values : List (List ℕ) → (ℕ → ℕ) → ℕ → List Value → List Value
arranged_values names choice k [] = []
arranged_values names choice k (v ∷ vs) = arranged names choice k v ∷ arranged_values names choice (k + size v) vs

-- what they bring to a chain, arranged
abbrev pub brought : List (List ℕ) → (ℕ → ℕ) → List ℕ → ℕ → List Value → List Value
brought names choice f k [] = []
brought names choice f k (v ∷ vs) = arranged_operands names choice f k v ++ brought names choice f (k + size v) vs

-- the nodes of their operands
abbrev pub nodes_brought : List ℕ → ℕ → List Value → List ℕ
nodes_brought f k [] = []
nodes_brought f k (v ∷ vs) = operand_nodes f k v ++ nodes_brought f (k + size v) vs

-- their chains, where they are the arguments of a call
abbrev pub chains_among : List (List ℕ) → Side → ℕ → Symbol → ℕ → List Value → List Chain
chains_among names side stmt parent k [] = []
chains_among names side stmt parent k (v ∷ vs) = chains_of names side stmt (is_part parent v) k v ++ chains_among names side stmt parent (k + size v) vs

-- their first faults
abbrev pub misused_among : List (List ℕ) → List Value → Option Place
misused_among names [] = None
misused_among names (v ∷ vs) = or_first (misused names v) (misused_among names vs)

abbrev pub long_among : List (List ℕ) → Symbol → List Value → Option Place
long_among names parent [] = None
long_among names parent (v ∷ vs) = or_first (long names (is_part parent v) v) (long_among names parent vs)
