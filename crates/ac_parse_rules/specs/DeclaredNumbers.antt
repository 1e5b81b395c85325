-- Programs in which each number of an array or a parameter is one that the program has.
use Rattle.std.specs.Prelude.{◌≡◌, ◌<◌, ℕ, List, [], ◌∷◌, length, nat_lt, Bool, true, ◌&&◌}
use Rattle.std.specs.List.{AllByRecursion, range_with_len, list_all}
use Rattle.ac_syntax.specs.declared.tree.Value.{Value, Row_of-Value, end_of-Value, more_of-Value}
use Rattle.ac_syntax.specs.declared.tree.Value.TheVariants.{Number, Access, Call'}
use Rattle.ac_syntax.specs.declared.tree.Stmt.{Stmt, Row_of-Stmt, end_of-Stmt, more_of-Stmt}
use Rattle.ac_syntax.specs.declared.tree.Stmt.TheVariants.{For', If', Assign}
use Rattle.ac_syntax.specs.declared.tree.Slot.{Slot}
use Rattle.ac_syntax.specs.declared.tree.Slot.TheVariants as slot
use Rattle.ac_syntax.specs.declared.tree.Program.{Program}
use Rattle.ac_syntax.specs.Outputs.{input_at}
use Rattle.ac_parse_grammar.specs.declared.tree.Statement.{Statement}
use Rattle.ac_parse_grammar.specs.declared.tree.Statement.TheOpen.{Statement-F}
use Rattle.ac_parse_grammar.specs.declared.tree.Statement.TheFolds.{fold-Statement}
use Rattle.ac_parse_grammar.specs.declared.tree.File.{File}

-- each array that a value reads is one of the first n
unfoldable mutual
  pub ReadsOf : ℕ → Value → Type 0
  ReadsOf n (Number e) = Unit {0}
  ReadsOf n (Access array subs place) = array < n
  ReadsOf n (Call' symbol m args place) = ReadsIn n args

  pub ReadsIn : ℕ → {m : _} → Row_of-Value m → Type 0
  ReadsIn n end_of-Value = Unit {0}
  ReadsIn n (more_of-Value v rest) = ReadsOf n v × ReadsIn n rest

-- each array that a statement reads or assigns is one of the first n
unfoldable mutual
  pub ArraysOf : ℕ → Stmt → Type 0
  ArraysOf n (For' iter start cond step m body place) = ArraysIn n body
  ArraysOf n (If' cond m taken k other place) = ArraysIn n taken × ArraysIn n other
  ArraysOf n (Assign array subs value place) = (array < n) × ReadsOf n value

  pub ArraysIn : ℕ → {m : _} → Row_of-Stmt m → Type 0
  ArraysIn n end_of-Stmt = Unit {0}
  ArraysIn n (more_of-Stmt s rest) = ArraysOf n s × ArraysIn n rest

-- an integer parameter or an array that the program has
abbrev pub IsSlotOf : Program → Slot → Type 0
IsSlotOf program (slot.Param number) = number < length program.params
IsSlotOf program (slot.Array number) = number < length program.arrays

pub record HasDeclaredNumbers (program : Program) : Type 0 where
  pub body : AllByRecursion (ArraysOf (length program.arrays)) program.body
  pub slots : AllByRecursion (IsSlotOf program) program.slots

-- the numbers of the integer parameters of a parameter list
abbrev pub param_numbers : List Slot → List ℕ
param_numbers [] = []
param_numbers (slot.Param k ∷ slots) = k ∷ param_numbers slots
param_numbers (slot.Array k ∷ slots) = param_numbers slots

-- each integer parameter stands once in the parameter list, in order
abbrev pub ListsItsParameters : Program → Type 0
ListsItsParameters program = param_numbers program.slots ≡ range_with_len 0 (length program.params)

-- the numbers of the arrays of a parameter list
abbrev pub array_numbers : List Slot → List ℕ
array_numbers [] = []
array_numbers (slot.Param k ∷ slots) = array_numbers slots
array_numbers (slot.Array k ∷ slots) = k ∷ array_numbers slots

-- the arrays of the parameter list are inputs
abbrev pub HasInputs : Program → Type 0
HasInputs program = list_all (input_at program.arrays) (array_numbers program.slots) ≡ true

-- each branch of a source tree has a comparison in its condition
abbrev pub conditions_step : Statement-F Bool → Bool
conditions_step (Statement-F.Loop typed name start cond step body place) = list_all (λ b. b) body
conditions_step (Statement-F.Branch cond taken other place) = nat_lt 0 (length cond) && (list_all (λ b. b) taken && list_all (λ b. b) other)
conditions_step (Statement-F.Assign target subs operator value) = true

unfoldable pub has_conditions : Statement → Bool
has_conditions = fold-Statement Bool conditions_step

abbrev pub HasConditions : File → Type 0
HasConditions file = list_all has_conditions file.body ≡ true
