-- The tree of the canonical text of a program, whatever the places: relations between the parts of a program and the trees that the
-- grammar gives for their text.
use Rattle.std.specs.Prelude.{◌≡◌, ℕ, suc, ℤ, pos, negsuc, Bool, true, false, List, [], ◌∷◌, ◌++◌, map, codes, Option, None, Some, slice_get, unsigned_abs, if◌then◌else◌}
use Rattle.std.specs.List.{flat_map}
use Rattle.ac_syntax.specs.declared.tree.Place.{Place}
use Rattle.ac_syntax.specs.declared.tree.Quot.{Quot}
use Rattle.ac_syntax.specs.declared.tree.IndexExpr.{IndexExpr}
use Rattle.ac_syntax.specs.declared.tree.Rel.{Rel}
use Rattle.ac_syntax.specs.declared.tree.Rel.TheVariants.{NonNegative, Zero, Divides}
use Rattle.ac_syntax.specs.declared.tree.Comparison.{Comparison}
use Rattle.ac_syntax.specs.declared.tree.Cond.{Cond}
use Rattle.ac_syntax.specs.declared.tree.Value.{Value, Row_of-Value, end_of-Value, more_of-Value}
use Rattle.ac_syntax.specs.declared.tree.Value.TheVariants.{Number, Access, Call'}
use Rattle.ac_syntax.specs.declared.tree.Stmt.{Stmt, Row_of-Stmt, end_of-Stmt, more_of-Stmt}
use Rattle.ac_syntax.specs.declared.tree.Stmt.TheVariants.{For', If', Assign}
use Rattle.ac_syntax.specs.declared.tree.Kind.{Kind}
use Rattle.ac_syntax.specs.declared.tree.Kind.TheVariants.{Input, Local}
use Rattle.ac_syntax.specs.declared.tree.Array.{Array}
use Rattle.ac_syntax.specs.declared.tree.Slot.{Slot}
use Rattle.ac_syntax.specs.declared.tree.Slot.TheVariants as slot
use Rattle.ac_syntax.specs.declared.tree.Program.{Program}
use Rattle.ac_syntax.specs.Text.{Scope, inside, whole_scope, array_name, name_or_none, is_other_than_zero, is_operator, is_decimal}
use Rattle.ac_parse_grammar.specs.declared.tree.Word.{Word}
use Rattle.ac_parse_grammar.specs.declared.tree.Numeral.{Numeral}
use Rattle.ac_parse_grammar.specs.declared.tree.Operator.{Operator}
use Rattle.ac_parse_grammar.specs.declared.tree.Operator.TheVariants.{Add, Subtract, Multiply, Divide, Remainder}
use Rattle.ac_parse_grammar.specs.declared.tree.Expr.{Expr}
use Rattle.ac_parse_grammar.specs.declared.tree.Expr.TheVariants as expr
use Rattle.ac_parse_grammar.specs.declared.tree.Relation.{Relation}
use Rattle.ac_parse_grammar.specs.declared.tree.Relation.TheVariants.{AtLeast, Equal}
use Rattle.ac_parse_grammar.specs.declared.tree.Part.{Part}
use Rattle.ac_parse_grammar.specs.declared.tree.Step.{Step}
use Rattle.ac_parse_grammar.specs.declared.tree.Statement.{Statement}
use Rattle.ac_parse_grammar.specs.declared.tree.Statement.TheVariants as statement
use Rattle.ac_parse_grammar.specs.declared.tree.Extent.{Extent}
use Rattle.ac_parse_grammar.specs.declared.tree.Declared.{Declared}
use Rattle.ac_parse_grammar.specs.declared.tree.Pragma.{Pragma}
use Rattle.ac_parse_grammar.specs.declared.tree.Pragma.TheVariants.{Context, Commutative, Output}
use Rattle.ac_parse_grammar.specs.declared.tree.File.{File}
use Rattle.ac_parse_grammar.specs.Chains.{chain_of}

-- as many on either side, and each related to the one at its place
abbrev pub Each : {A B : Type 0} → (A → B → Type 0) → List A → List B → Type 0
Each R [] [] = Unit {0}
Each R [] (y ∷ ys) = ⊥
Each R (x ∷ xs) [] = ⊥
Each R (x ∷ xs) (y ∷ ys) = R x y × Each R xs ys

-- ---- words and numbers

abbrev pub IsWordOf : List ℕ → Word → Type 0
IsWordOf name word = word.name ≡ name

abbrev pub IsNameTree : List ℕ → Expr → Type 0
IsNameTree name tree = (word : Word) × IsWordOf name word × (tree ≡ expr.Access word [])

abbrev pub IsNumberTree : ℕ → Expr → Type 0
IsNumberTree n tree = (numeral : Numeral) × (numeral.number ≡ n) × (tree ≡ expr.Number numeral)

-- a minus before a number below 0
abbrev pub IsIntegerTree : ℤ → Expr → Type 0
IsIntegerTree (pos n) tree = IsNumberTree n tree
IsIntegerTree (negsuc n) tree = (operand : Expr) × (place : Place) × IsNumberTree (suc n) operand × (tree ≡ expr.Negative operand place)

-- ---- forms and conditions

-- what a number is multiplied by in a form
pub data Factor : Type 0 where
  by_name : List ℕ → Factor
  by_quotient : Quot → Factor

-- a summand of a form: a number, and what it is multiplied by, nothing at the constant
pub record Summand : Type 0 where
  pub number : ℤ
  pub factor : Option Factor

-- those that are other than 0 are written
abbrev pub summand : ℤ → Option Factor → List Summand
summand c factor = if is_other_than_zero c then record { number = c; factor = factor } ∷ [] else []

abbrev pub products : List ℤ → List (List ℕ) → List Summand
products [] names = []
products (c ∷ cs) [] = []
products (c ∷ cs) (name ∷ names) = summand c (Some (by_name name)) ++ products cs names

abbrev pub multiples : List Quot → List Summand
multiples [] = []
multiples (q ∷ qs) = summand q.coef (Some (by_quotient q)) ++ multiples qs

-- parameters, iterators, quotients, constant
abbrev pub summands : Scope → IndexExpr → List Summand
summands scope e = products e.params scope.params ++ products e.iters scope.iters ++ multiples e.quots ++ summand e.konst None

-- those of what a quotient divides
abbrev pub argument_summands : Scope → Quot → List Summand
argument_summands scope q = products q.params scope.params ++ products q.iters scope.iters ++ summand q.konst None

-- Rounds is of the trees of quotients, here and below
abbrev pub IsFactorTree : (Quot → Expr → Type 0) → Factor → Expr → Type 0
IsFactorTree Rounds (by_name name) tree = IsNameTree name tree
IsFactorTree Rounds (by_quotient q) tree = Rounds q tree

abbrev pub IsProductTree : (Quot → Expr → Type 0) → ℤ → Option Factor → Expr → Type 0
IsProductTree Rounds c None tree = IsIntegerTree c tree
IsProductTree Rounds c (Some f) tree =
    (number : Expr) × (factor : Expr) × IsIntegerTree c number × IsFactorTree Rounds f factor × (tree ≡ expr.Chain (number ∷ factor ∷ []) (Multiply ∷ []))

abbrev pub IsSummandTree : (Quot → Expr → Type 0) → Summand → Expr → Type 0
IsSummandTree Rounds s tree = IsProductTree Rounds s.number s.factor tree

-- no summand is 0, and one alone is the sum
abbrev pub IsSumTree : (Quot → Expr → Type 0) → List Summand → Expr → Type 0
IsSumTree Rounds [] tree = IsNumberTree 0 tree
IsSumTree Rounds (s ∷ more) tree =
    (first : Expr) × (others : List Expr) × IsSummandTree Rounds s first × Each (IsSummandTree Rounds) more others
    × (tree ≡ chain_of (first ∷ others) (map (λ (other : Expr). Add) others))

-- no quotient stands inside another
abbrev pub NoneRounds : Quot → Expr → Type 0
NoneRounds q tree = ⊥

abbrev pub IsDivisor : ℤ → Numeral → Type 0
IsDivisor m numeral = pos numeral.number ≡ m

-- a quotient that is rounded down
abbrev pub IsQuotientTree : Scope → Quot → Expr → Type 0
IsQuotientTree scope q tree =
    (argument : Expr) × (divisor : Numeral) × (place : Place) × IsSumTree NoneRounds (argument_summands scope q) argument × IsDivisor q.div divisor
    × (tree ≡ expr.Quotient false argument divisor place)

abbrev pub IsFormTree : Scope → IndexExpr → Expr → Type 0
IsFormTree scope e tree = IsSumTree (IsQuotientTree scope) (summands scope e) tree

abbrev pub relation : Rel → Relation
relation NonNegative = AtLeast
relation Zero = Equal
relation (Divides m) = Equal

-- what is compared with 0: a form, or what is left of it behind a division
abbrev pub IsTestedTree : Scope → Rel → IndexExpr → Expr → Type 0
IsTestedTree scope NonNegative e tree = IsFormTree scope e tree
IsTestedTree scope Zero e tree = IsFormTree scope e tree
IsTestedTree scope (Divides m) e tree =
    (form : Expr) × (place : Place) × (divisor : Numeral) × IsFormTree scope e form × IsDivisor m divisor
    × (tree ≡ expr.Chain (expr.Group form place ∷ expr.Number divisor ∷ []) (Remainder ∷ []))

pub record IsComparisonTree (scope : Scope) (c : Comparison) (part : Part) : Type 0 where
  pub left : IsTestedTree scope c.rel c.form part.left
  pub relation : part.relation ≡ relation c.rel
  pub right : IsNumberTree 0 part.right

abbrev pub IsConditionTree : Scope → Cond → List Part → Type 0
IsConditionTree scope c parts = Each (IsComparisonTree scope) c.parts parts

-- ---- values

abbrev pub sign : Operator → List ℕ
sign Add = codes "+"
sign Subtract = codes "-"
sign Multiply = codes "*"
sign Divide = codes "/"
sign Remainder = codes "%"

-- the call of a symbol from the trees of its arguments: an operator of one or two operands, a decimal, a function
pub data IsCallTree (name : List ℕ) : List Expr → Expr → Type 0 where
  negation : {operand : Expr} (minus place : Place) → name ≡ sign Subtract
      → IsCallTree name (operand ∷ []) (expr.Group (expr.Negative operand minus) place)
  operation : {left right : Expr} (operator : Operator) (place : Place) → name ≡ sign operator
      → IsCallTree name (left ∷ right ∷ []) (expr.Group (expr.Chain (left ∷ right ∷ []) (operator ∷ [])) place)
  decimal : (word : Word) → is_decimal name ≡ true → IsWordOf name word → IsCallTree name [] (expr.Decimal word)
  function : (word : Word) {args : List Expr} → is_operator name ≡ false → is_decimal name ≡ false → IsWordOf name word → IsCallTree name args (expr.Call word args)

unfoldable mutual
  pub IsValueTree : Scope → Value → Expr → Type 0
  IsValueTree scope (Number e) tree = (inner : Expr) × (place : Place) × IsFormTree scope e inner × (tree ≡ expr.Group inner place)
  IsValueTree scope (Access array subs place) tree =
      (word : Word) × (trees : List Expr) × IsWordOf (array_name (slice_get scope.arrays array)) word × Each (IsFormTree scope) subs trees
      × (tree ≡ expr.Access word trees)
  IsValueTree scope (Call' symbol n args place) tree = (trees : List Expr) × AreValueTrees scope args trees × IsCallTree symbol.name trees tree

  pub AreValueTrees : Scope → {m : _} → Row_of-Value m → List Expr → Type 0
  AreValueTrees scope end_of-Value trees = trees ≡ []
  AreValueTrees scope (more_of-Value v rest) trees =
      (first : Expr) × (more : List Expr) × IsValueTree scope v first × AreValueTrees scope rest more × (trees ≡ first ∷ more)

-- ---- statements

abbrev pub is_below_zero : ℤ → Bool
is_below_zero (pos n) = false
is_below_zero (negsuc n) = true

-- the loop's own name, and what is added to it or taken from it
pub record IsStepTree (iter : List ℕ) (by : ℤ) (step : Step) : Type 0 where
  pub target : IsWordOf iter step.target
  pub source : step.source ≡ None
  pub down : step.down ≡ is_below_zero by
  pub number : step.by.number ≡ unsigned_abs by

unfoldable mutual
  pub IsStatementTree : Scope → Stmt → Statement → Type 0
  IsStatementTree scope (For' iter start cond by n body place) tree =
      (name : Word) × (from : Expr) × (parts : List Part) × (step : Step) × (trees : List Statement) × (keyword : Place)
      × IsWordOf iter name × IsFormTree scope start from × IsConditionTree (inside scope iter) cond parts × IsStepTree iter by step
      × AreStatementTrees (inside scope iter) body trees × (tree ≡ statement.Loop true name from parts step trees keyword)
  IsStatementTree scope (If' cond n taken m other place) tree =
      (parts : List Part) × (first : List Statement) × (second : List Statement) × (keyword : Place)
      × IsConditionTree scope cond parts × AreStatementTrees scope taken first × AreStatementTrees scope other second
      × (tree ≡ statement.Branch parts first second keyword)
  IsStatementTree scope (Assign array subs v place) tree =
      (target : Word) × (trees : List Expr) × (right : Expr)
      × IsWordOf (array_name (slice_get scope.arrays array)) target × Each (IsFormTree scope) subs trees × IsValueTree scope v right
      × (tree ≡ statement.Assign target trees None right)

  pub AreStatementTrees : Scope → {m : _} → Row_of-Stmt m → List Statement → Type 0
  AreStatementTrees scope end_of-Stmt trees = trees ≡ []
  AreStatementTrees scope (more_of-Stmt s rest) trees =
      (first : Statement) × (more : List Statement) × IsStatementTree scope s first × AreStatementTrees scope rest more × (trees ≡ first ∷ more)

-- ---- declarations and pragma lines

abbrev pub IsExtentTree : Scope → IndexExpr → Extent → Type 0
IsExtentTree scope e extent = IsFormTree scope e extent.size

pub record IsDeclaredTree (scope : Scope) (is_whole : Bool) (array : Array) (tree : Declared) : Type 0 where
  pub whole : tree.whole ≡ is_whole
  pub name : IsWordOf array.name tree.name
  pub extents : Each (IsExtentTree scope) array.extents tree.extents

-- a scalar input is no whole number
abbrev pub has_dimensions : List IndexExpr → Bool
has_dimensions [] = false
has_dimensions (e ∷ extents) = true

abbrev pub IsInputTree : Scope → Option Array → Declared → Type 0
IsInputTree scope None tree = ⊥
IsInputTree scope (Some array) tree = IsDeclaredTree scope (has_dimensions array.extents) array tree

pub record IsParameterTree (spelling : List ℕ) (tree : Declared) : Type 0 where
  pub whole : tree.whole ≡ true
  pub name : IsWordOf spelling tree.name
  pub extents : tree.extents ≡ []

abbrev pub IsSlotTree : Scope → Slot → Declared → Type 0
IsSlotTree scope (slot.Param k) tree = IsParameterTree (name_or_none (slice_get scope.params k)) tree
IsSlotTree scope (slot.Array k) tree = IsInputTree scope (slice_get scope.arrays k) tree

abbrev pub local_of : Kind → Array → List Array
local_of Input array = []
local_of Local array = array ∷ []

abbrev pub locals : List Array → List Array
locals arrays = flat_map (λ (a : Array). local_of a.kind a) arrays

-- a line of each kind, where there is something to say
abbrev pub AreContext : Scope → List Comparison → List Pragma → Type 0
AreContext scope [] pragmas = pragmas ≡ []
AreContext scope (c ∷ cs) pragmas = (parts : List Part) × Each (IsComparisonTree scope) (c ∷ cs) parts × (pragmas ≡ Context parts ∷ [])

abbrev pub AreCommutative : List (List ℕ) → List Pragma → Type 0
AreCommutative [] pragmas = pragmas ≡ []
AreCommutative (name ∷ names) pragmas = (words : List Word) × Each IsWordOf (name ∷ names) words × (pragmas ≡ Commutative words ∷ [])

abbrev pub AreOutput : Scope → Option (List ℕ) → List Pragma → Type 0
AreOutput scope None pragmas = pragmas ≡ []
AreOutput scope (Some outputs) pragmas =
    (words : List Word) × Each (λ k word. IsWordOf (array_name (slice_get scope.arrays k)) word) outputs words × (pragmas ≡ Output words ∷ [])

abbrev pub ArePragmas : Program → List Pragma → Type 0
ArePragmas p pragmas =
    (context : List Pragma) × (commutative : List Pragma) × (output : List Pragma)
    × AreContext (whole_scope p) p.context.parts context × AreCommutative p.commutative commutative × AreOutput (whole_scope p) p.outputs output
    × (pragmas ≡ context ++ (commutative ++ output))

-- ---- the program

pub record IsFileTree (p : Program) (file : File) : Type 0 where
  pub name : IsWordOf p.name file.name
  pub params : Each (IsSlotTree (whole_scope p)) p.slots file.params
  pub locals : Each (IsDeclaredTree (whole_scope p) true) (locals p.arrays) file.locals
  pub body : Each (IsStatementTree (whole_scope p)) p.body file.body
  pub pragmas : ArePragmas p file.pragmas
