-- A pair in which each chain is one call of its operands, in an order of choice.
use Rattle.std.specs.Prelude.{ℕ, zero, suc, ◌+◌, ◌*◌, ◌/◌, ◌%◌, ◌≤◌, ◌≡◌, List, [], ◌∷◌, ◌++◌, map, length, Bool, true, false, ◌&&◌, nat_eq, nat_le, slice_get, Some, if◌then◌else◌}
use Rattle.std.specs.List.{list_any, AllByRecursion}
use Rattle.std.specs.Option.{option_map_or}
use Rattle.std.specs.Cmp.Lexicographic.{pointwise}
use Rattle.ac_syntax.specs.Trace.{assignments, assignments_in}
use Rattle.ac_syntax.specs.ValueNodes.{size, node_of}
use Rattle.ac_syntax.specs.ExecutedCalls.{HaveArities}
use Rattle.ac_syntax.specs.Outputs.{swaps_of}
use Rattle.ac_syntax.specs.declared.tree.Place.{Place}
use Rattle.ac_syntax.specs.declared.tree.Symbol.{Symbol}
use Rattle.ac_syntax.specs.declared.tree.Value.{Value, Row_of-Value, end_of-Value, more_of-Value}
use Rattle.ac_syntax.specs.declared.tree.Value.TheVariants.{Number, Access, Call, Call'}
use Rattle.ac_syntax.specs.declared.tree.Stmt.{Stmt, Row_of-Stmt, end_of-Stmt, more_of-Stmt}
use Rattle.ac_syntax.specs.declared.tree.Stmt.TheVariants.{For, For', If, If', Assign}
use Rattle.ac_syntax.specs.declared.tree.Pair.{Pair}
use Rattle.ac_assoc_law.specs.OperandChains.{is_binary, operands_in}

-- ---- permutations

unfoldable pub factorial : ℕ → ℕ
factorial zero = 1
factorial (suc n) = suc n * factorial n

-- each element with the others, in order
unfoldable pub picks : {X : Type 0} → List X → List (X × List X)
picks [] = []
picks (x ∷ xs) = (x, xs) ∷ map (λ q. (q.0, x ∷ q.1)) (picks xs)

-- the permutation with a number, in lexicographic order of the places, of the first n elements to be picked
unfoldable pub permuted : {X : Type 0} → ℕ → ℕ → List X → List X
permuted zero number xs = xs
permuted (suc n) number xs = option_map_or (λ q. q.0 ∷ permuted n (number % factorial n) q.1) (slice_get (picks xs) (number / factorial n)) xs

-- ---- what can be arranged

abbrev pub is_listed : List (List ℕ) → Symbol → Bool
is_listed names s = list_any (pointwise nat_eq s.name) names

-- a listed symbol with three to six arguments
abbrev pub is_misused : List (List ℕ) → Symbol → Bool
is_misused names s = is_listed names s && (nat_le 3 s.arity && nat_le s.arity 6)

-- no call of a listed symbol has three to six arguments, and no chain has more than six operands
unfoldable mutual
  pub CanArrange : List (List ℕ) → Value → Type 0
  CanArrange names (Number e) = Unit {0}
  CanArrange names (Access array subs place) = Unit {0}
  CanArrange names (Call' symbol n args place) =
      (is_misused names symbol ≡ false) × (swaps_of names symbol ≡ true → length (operands_in symbol.name args) ≤ 6)
      × EachCanArrange names args

  pub EachCanArrange : List (List ℕ) → {m : _} → Row_of-Value m → Type 0
  EachCanArrange names end_of-Value = Unit {0}
  EachCanArrange names (more_of-Value v rest) = CanArrange names v × EachCanArrange names rest

unfoldable mutual
  pub StmtCanArrange : List (List ℕ) → Stmt → Type 0
  StmtCanArrange names (For' iter start cond step n body place) = BodyCanArrange names body
  StmtCanArrange names (If' cond n taken m other place) = BodyCanArrange names taken × BodyCanArrange names other
  StmtCanArrange names (Assign array subs value place) = CanArrange names value

  pub BodyCanArrange : List (List ℕ) → {m : _} → Row_of-Stmt m → Type 0
  BodyCanArrange names end_of-Stmt = Unit {0}
  BodyCanArrange names (more_of-Stmt s rest) = StmtCanArrange names s × BodyCanArrange names rest

abbrev pub ProgramCanArrange : List (List ℕ) → List Stmt → Type 0
ProgramCanArrange names = AllByRecursion (StmtCanArrange names)

-- each call of a value has as many arguments as its symbol says
abbrev pub CallsHaveArities : Value → Type 0
CallsHaveArities v = (k : ℕ) (f : Symbol) (args : List Value) (place : Place) → node_of v k ≡ Some (Call f args place) → length args ≡ f.arity

-- ---- the arrangement

-- one call of as many arguments as there are operands, in the order with a number
abbrev pub one_call : Symbol → ℕ → List Value → Place → Value
one_call s number xs place = Call (record { name = s.name; arity = length xs }) (permuted (length xs) number xs) place

-- A value whose first node has the number k: each chain is one call of its operands, in the order whose number is chosen for
-- the chain's node.
unfoldable mutual
  pub arranged : List (List ℕ) → (ℕ → ℕ) → ℕ → Value → Value
  arranged names choice k (Number e) = Number e
  arranged names choice k (Access array subs place) = Access array subs place
  arranged names choice k (Call' symbol n args place) =
      if swaps_of names symbol then one_call symbol (choice k) (arranged_operands_in names choice symbol.name (suc k) args) place
      else Call symbol (arranged_args names choice (suc k) args) place

  pub arranged_args : List (List ℕ) → (ℕ → ℕ) → ℕ → {m : _} → Row_of-Value m → List Value
  arranged_args names choice k end_of-Value = []
  arranged_args names choice k (more_of-Value v rest) = arranged names choice k v ∷ arranged_args names choice (k + size v) rest

  pub arranged_operands : List (List ℕ) → (ℕ → ℕ) → List ℕ → ℕ → Value → List Value
  arranged_operands names choice f k (Number e) = Number e ∷ []
  arranged_operands names choice f k (Access array subs place) = Access array subs place ∷ []
  arranged_operands names choice f k (Call' symbol n args place) =
      if is_binary f symbol then arranged_operands_in names choice f (suc k) args
      else (if swaps_of names symbol then one_call symbol (choice k) (arranged_operands_in names choice symbol.name (suc k) args) place
      else Call symbol (arranged_args names choice (suc k) args) place) ∷ []

  pub arranged_operands_in : List (List ℕ) → (ℕ → ℕ) → List ℕ → ℕ → {m : _} → Row_of-Value m → List Value
  arranged_operands_in names choice f k end_of-Value = []
  arranged_operands_in names choice f k (more_of-Value v rest) =
      arranged_operands names choice f k v ++ arranged_operands_in names choice f (k + size v) rest

-- the same for each assignment, by its number in the text
unfoldable mutual
  pub arranged_stmt : List (List ℕ) → (ℕ → ℕ → ℕ) → ℕ → Stmt → Stmt
  arranged_stmt names choice first (For' iter start cond step n body place) = For iter start cond step (arranged_body names choice first body) place
  arranged_stmt names choice first (If' cond n taken m other place) =
      If cond (arranged_body names choice first taken) (arranged_body names choice (first + assignments_in taken) other) place
  arranged_stmt names choice first (Assign array subs value place) = Assign array subs (arranged names (choice first) 0 value) place

  pub arranged_body : List (List ℕ) → (ℕ → ℕ → ℕ) → ℕ → {m : _} → Row_of-Stmt m → List Stmt
  arranged_body names choice first end_of-Stmt = []
  arranged_body names choice first (more_of-Stmt s rest) =
      arranged_stmt names choice first s ∷ arranged_body names choice (first + assignments s) rest

abbrev pub arranged_all : List (List ℕ) → (ℕ → ℕ → ℕ) → ℕ → List Stmt → List Stmt
arranged_all names choice first [] = []
arranged_all names choice first (s ∷ ss) = arranged_stmt names choice first s ∷ arranged_all names choice (first + assignments s) ss

-- on the left in their order, on the right in the chosen one; the listed symbols join the commutative names
abbrev pub arranged_pair : List (List ℕ) → (ℕ → ℕ → ℕ) → Pair → Pair
arranged_pair names choice pair =
    record pair {
      left = record pair.left { body = arranged_all names (λ stmt node. 0) 0 pair.left.body };
      right = record pair.right { body = arranged_all names choice 0 pair.right.body };
      commutative = pair.commutative ++ names;
    }

-- a pair that can be arranged; each call of an assignment that is executed has as many arguments as its symbol says
pub record PairCanArrange (names : List (List ℕ)) (pair : Pair) : Type 0 where
  pub left : ProgramCanArrange names pair.left.body
  pub right : ProgramCanArrange names pair.right.body
  pub arities : HaveArities pair.left.body × HaveArities pair.right.body
