-- The chains of programs, in the order of their nodes.
use Rattle.std.specs.Prelude.{ℕ, suc, ◌+◌, ◌≡◌, List, [], ◌∷◌, ◌++◌, map, Bool, false, not, ◌&&◌, ◌==◌, Some, if◌then◌else◌}
use Rattle.ac_syntax.specs.Trace.{assignments, assignments_in}
use Rattle.ac_syntax.specs.ValueNodes.{size, node_of}
use Rattle.ac_syntax.specs.Outputs.{swaps_of}
use Rattle.ac_syntax.specs.declared.tree.Symbol.{Symbol}
use Rattle.ac_syntax.specs.declared.tree.Value.{Value, Row_of-Value, end_of-Value, more_of-Value}
use Rattle.ac_syntax.specs.declared.tree.Value.TheVariants.{Number, Access, Call'}
use Rattle.ac_syntax.specs.declared.tree.Stmt.{Stmt, Row_of-Stmt, end_of-Stmt, more_of-Stmt}
use Rattle.ac_syntax.specs.declared.tree.Stmt.TheVariants.{For', If', Assign}
use Rattle.ac_syntax.specs.declared.tree.Pair.{Pair}
use Rattle.ac_assoc_law.specs.OperandChains.{is_binary, operands}
use Rattle.ac_instance.specs.declared.halt.Side.{Side}
use Rattle.ac_instance.specs.declared.halt.Side.TheVariants.{Left, Right}
use Rattle.ac_assoc.specs.declared.types.Chain.{Chain}

-- the nodes of the operands that a value, whose first node is k, brings to a chain of a name
unfoldable mutual
  pub operand_nodes : List ℕ → ℕ → Value → List ℕ
  operand_nodes f k (Number e) = k ∷ []
  operand_nodes f k (Access array subs place) = k ∷ []
  operand_nodes f k (Call' symbol n args place) = if is_binary f symbol then operand_nodes_in f (suc k) args else k ∷ []

  pub operand_nodes_in : List ℕ → ℕ → {m : _} → Row_of-Value m → List ℕ
  operand_nodes_in f k end_of-Value = []
  operand_nodes_in f k (more_of-Value v rest) = operand_nodes f k v ++ operand_nodes_in f (k + size v) rest

-- whether an argument of a call of the parent goes on the parent's chain
abbrev pub is_part : Symbol → Value → Bool
is_part parent (Number e) = false
is_part parent (Access array subs place) = false
is_part parent (Call' symbol n args place) = (parent.arity == 2) && is_binary parent.name symbol

-- the chain of a call, if it is no part of another one
abbrev pub own_chain : List (List ℕ) → Side → ℕ → Bool → ℕ → Symbol → List ℕ → List Chain
own_chain names side stmt part k symbol nodes = if not part && swaps_of names symbol then record { side = side; stmt = stmt; node = k; operands = nodes } ∷ [] else []

unfoldable mutual
  pub chains_of : List (List ℕ) → Side → ℕ → Bool → ℕ → Value → List Chain
  chains_of names side stmt part k (Number e) = []
  chains_of names side stmt part k (Access array subs place) = []
  chains_of names side stmt part k (Call' symbol n args place) =
      own_chain names side stmt part k symbol (operand_nodes_in symbol.name (suc k) args) ++ chains_in names side stmt symbol (suc k) args

  pub chains_in : List (List ℕ) → Side → ℕ → Symbol → ℕ → {m : _} → Row_of-Value m → List Chain
  chains_in names side stmt parent k end_of-Value = []
  chains_in names side stmt parent k (more_of-Value v rest) =
      chains_of names side stmt (is_part parent v) k v ++ chains_in names side stmt parent (k + size v) rest

unfoldable mutual
  pub chains_of_stmt : List (List ℕ) → Side → ℕ → Stmt → List Chain
  chains_of_stmt names side first (For' iter start cond step n body place) = chains_of_body names side first body
  chains_of_stmt names side first (If' cond n taken m other place) =
      chains_of_body names side first taken ++ chains_of_body names side (first + assignments_in taken) other
  chains_of_stmt names side first (Assign array subs value place) = chains_of names side first false 0 value

  pub chains_of_body : List (List ℕ) → Side → ℕ → {m : _} → Row_of-Stmt m → List Chain
  chains_of_body names side first end_of-Stmt = []
  chains_of_body names side first (more_of-Stmt s rest) = chains_of_stmt names side first s ++ chains_of_body names side (first + assignments s) rest

abbrev pub chains_of_all : List (List ℕ) → Side → ℕ → List Stmt → List Chain
chains_of_all names side first [] = []
chains_of_all names side first (s ∷ ss) = chains_of_stmt names side first s ++ chains_of_all names side (first + assignments s) ss

abbrev pub chains_of_pair : List (List ℕ) → Pair → List Chain
chains_of_pair names pair = chains_of_all names Left 0 pair.left.body ++ chains_of_all names Right 0 pair.right.body

-- the nodes of the operands that a value brings are those of its operands, in their order
abbrev pub OperandsStandAtTheirNodes : Type 0
OperandsStandAtTheirNodes =
    (f : List ℕ) (root : Value) (k : ℕ) (v : Value) → node_of root k ≡ Some v → map (node_of root) (operand_nodes f k v) ≡ map (λ u. Some u) (operands f v)
