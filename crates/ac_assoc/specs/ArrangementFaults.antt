-- Why a pair is not arranged: the first call of a listed symbol with three to six arguments, or the first chain of more than
-- six operands, in the order of sides, assignments and nodes.
use Rattle.std.specs.Prelude.{ℕ, ◌≡◌, List, [], ◌∷◌, Bool, true, false, not, ◌&&◌, length, nat_lt, Option, None, Some, if◌then◌else◌}
use Rattle.ac_syntax.specs.Outputs.{swaps_of}
use Rattle.ac_syntax.specs.declared.tree.Place.{Place}
use Rattle.ac_syntax.specs.declared.tree.Symbol.{Symbol}
use Rattle.ac_syntax.specs.declared.tree.Value.{Value, Row_of-Value, end_of-Value, more_of-Value}
use Rattle.ac_syntax.specs.declared.tree.Value.TheVariants.{Number, Access, Call'}
use Rattle.ac_syntax.specs.declared.tree.Stmt.{Stmt, Row_of-Stmt, end_of-Stmt, more_of-Stmt}
use Rattle.ac_syntax.specs.declared.tree.Stmt.TheVariants.{For', If', Assign}
use Rattle.ac_syntax.specs.declared.tree.Pair.{Pair}
use Rattle.ac_assoc_law.specs.OperandChains.{operands_in}
use Rattle.ac_assoc_law.specs.ArrangedPairs.{is_misused}
use Rattle.ac_instance.specs.declared.halt.Side.{Side}
use Rattle.ac_instance.specs.declared.halt.Side.TheVariants.{Left, Right}
use Rattle.ac_assoc.specs.declared.types.AssocFault.{AssocFault}
use Rattle.ac_assoc.specs.declared.types.AssocFault.TheVariants.{Arity, Long, Memory}
use Rattle.ac_assoc.specs.ProgramChains.{is_part}

abbrev pub or_first : {A : Type 0} → Option A → Option A → Option A
or_first None g = g
or_first (Some f) g = Some f

unfoldable mutual
  pub misused : List (List ℕ) → Value → Option Place
  misused names (Number e) = None
  misused names (Access array subs place) = None
  misused names (Call' symbol n args place) = if is_misused names symbol then Some place else misused_in names args

  pub misused_in : List (List ℕ) → {m : _} → Row_of-Value m → Option Place
  misused_in names end_of-Value = None
  misused_in names (more_of-Value v rest) = or_first (misused names v) (misused_in names rest)

abbrev pub is_long : List (List ℕ) → Bool → Symbol → ℕ → Bool
is_long names part symbol count = (not part && swaps_of names symbol) && nat_lt 6 count

unfoldable mutual
  pub long : List (List ℕ) → Bool → Value → Option Place
  long names part (Number e) = None
  long names part (Access array subs place) = None
  long names part (Call' symbol n args place) = if is_long names part symbol (length (operands_in symbol.name args)) then Some place else long_in names symbol args

  pub long_in : List (List ℕ) → Symbol → {m : _} → Row_of-Value m → Option Place
  long_in names parent end_of-Value = None
  long_in names parent (more_of-Value v rest) = or_first (long names (is_part parent v) v) (long_in names parent rest)

-- the first fault among the values of statements
unfoldable mutual
  pub first_of : (Value → Option Place) → Stmt → Option Place
  first_of fault (For' iter start cond step n body place) = first_in fault body
  first_of fault (If' cond n taken m other place) = or_first (first_in fault taken) (first_in fault other)
  first_of fault (Assign array subs value place) = fault value

  pub first_in : (Value → Option Place) → {m : _} → Row_of-Stmt m → Option Place
  first_in fault end_of-Stmt = None
  first_in fault (more_of-Stmt s rest) = or_first (first_of fault s) (first_in fault rest)

abbrev pub first_all : (Value → Option Place) → List Stmt → Option Place
first_all fault [] = None
first_all fault (s ∷ ss) = or_first (first_of fault s) (first_all fault ss)

abbrev pub fault_by : List (List ℕ) → Bool → Value → Option Place
fault_by names true = misused names
fault_by names false = long names false

-- as the fault of a side
abbrev pub made : Bool → Side → Option Place → Option AssocFault
made arity side None = None
made true side (Some place) = Some (Arity side place)
made false side (Some place) = Some (Long side place)

abbrev pub side_fault : List (List ℕ) → Bool → Side → List Stmt → Option AssocFault
side_fault names arity side body = made arity side (first_all (fault_by names arity) body)

-- in the left program, then in the right one; wrong numbers of arguments go before long chains
abbrev pub fault_of : List (List ℕ) → Pair → Option AssocFault
fault_of names pair =
    or_first (side_fault names true Left pair.left.body)
    (or_first (side_fault names true Right pair.right.body)
    (or_first (side_fault names false Left pair.left.body) (side_fault names false Right pair.right.body)))

abbrev pub IsFault : List (List ℕ) → Pair → AssocFault → Type 0
IsFault names pair (Arity side place) = fault_of names pair ≡ Some (Arity side place)
IsFault names pair (Long side place) = fault_of names pair ≡ Some (Long side place)
IsFault names pair (Memory e) = Unit {0}
