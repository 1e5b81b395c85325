-- Programs whose canonical text is in the grammar: names are names, symbols are symbols, literals are small,
-- divisors are at least 1, and conditions compare with 0.
use Rattle.std.specs.Prelude.{◌≡◌, ◌⊎◌, ℕ, suc, pos, ◌≤ℤ◌, true, false, List, [], ◌∷◌, Option, None, Some, slice_get}
use Rattle.std.specs.List.{AllByRecursion}
use Rattle.ac_syntax.specs.declared.tree.Quot.{Quot}
use Rattle.ac_syntax.specs.declared.tree.IndexExpr.{IndexExpr}
use Rattle.ac_syntax.specs.declared.tree.Comparison.{Comparison}
use Rattle.ac_syntax.specs.declared.tree.Cond.{Cond}
use Rattle.ac_syntax.specs.declared.tree.Value.{Value, Row_of-Value, end_of-Value, more_of-Value}
use Rattle.ac_syntax.specs.declared.tree.Value.TheVariants.{Number, Access, Call'}
use Rattle.ac_syntax.specs.declared.tree.Stmt.{Stmt, Row_of-Stmt, end_of-Stmt, more_of-Stmt}
use Rattle.ac_syntax.specs.declared.tree.Stmt.TheVariants.{For', If', Assign}
use Rattle.ac_syntax.specs.declared.tree.Array.{Array}
use Rattle.ac_syntax.specs.declared.tree.Slot.{Slot}
use Rattle.ac_syntax.specs.declared.tree.Slot.TheVariants as slot
use Rattle.ac_syntax.specs.declared.tree.Program.{Program}
use Rattle.ac_syntax.specs.Small.{IsSmall, IsSmallRel}
use Rattle.ac_syntax.specs.Text.{array_name, name_or_none, is_operator, is_decimal}
use Rattle.ac_lex.specs.declared.tokens.TokenKind.TheVariants as token
use Rattle.ac_parse_grammar.specs.declared.terminal.Terminal.TheVariants as t
use Rattle.ac_parse_grammar.specs.declared.tree.Operator.{Operator}
use Rattle.ac_parse_grammar.specs.declared.tree.Operator.TheVariants.{Subtract}
use Rattle.ac_parse_grammar.specs.Terminals.{terminal_by, is_name}
use Rattle.ac_parse_roundtrip.specs.CanonicalTrees.{sign}

-- a word that the grammar takes as a name
abbrev pub IsName : List ℕ → Type 0
IsName name = is_name (terminal_by token.Word name) ≡ true

-- the name of the array with this number, which is there
abbrev pub NamesArray : List Array → ℕ → Type 0
NamesArray arrays k = IsName (array_name (slice_get arrays k))

-- an operator or a name
abbrev pub IsSymbolName : List ℕ → Type 0
IsSymbolName name = ((operator : Operator) × (name ≡ sign operator)) ⊎ ((is_operator name ≡ false) × IsName name)

-- ---- forms and conditions

-- literals of at most 2^31, and a divisor of at least 1
pub record HasQuotientLiterals (q : Quot) : Type 0 where
  pub coef : IsSmall q.coef
  pub constant : IsSmall q.konst
  pub params : AllByRecursion IsSmall q.params
  pub iters : AllByRecursion IsSmall q.iters
  pub positive : pos 1 ≤ℤ q.div
  pub divisor : IsSmall q.div

-- literals of at most 2^31
pub record HasLiterals (e : IndexExpr) : Type 0 where
  pub constant : IsSmall e.konst
  pub params : AllByRecursion IsSmall e.params
  pub iters : AllByRecursion IsSmall e.iters
  pub quots : AllByRecursion HasQuotientLiterals e.quots

-- a divisor that is tested is from 1 to 2^31
pub record HasPartLiterals (c : Comparison) : Type 0 where
  pub form : HasLiterals c.form
  pub rel : IsSmallRel c.rel

abbrev pub HaveLiterals : List Comparison → Type 0
HaveLiterals = AllByRecursion HasPartLiterals

-- a condition has a comparison at least
abbrev pub HasSome : List Comparison → Type 0
HasSome [] = ⊥
HasSome (c ∷ cs) = Unit {0}

pub record HasComparisons (c : Cond) : Type 0 where
  pub some : HasSome c.parts
  pub literals : HaveLiterals c.parts

-- ---- values

-- how many arguments a call has
abbrev pub count : {m : _} → Row_of-Value m → ℕ
count end_of-Value = 0
count (more_of-Value v rest) = suc (count rest)

-- what a call of so many arguments may apply: an operator, a decimal, a function
pub data IsCallName (name : List ℕ) (n : ℕ) : Type 0 where
  negation : name ≡ sign Subtract → n ≡ 1 → IsCallName name n
  operation : (operator : Operator) → name ≡ sign operator → n ≡ 2 → IsCallName name n
  decimal : is_decimal name ≡ true → terminal_by token.Decimal name ≡ t.Decimal → n ≡ 0 → IsCallName name n
  function : is_operator name ≡ false → is_decimal name ≡ false → IsName name → IsCallName name n

unfoldable mutual
  pub HasValueNames : List Array → Value → Type 0
  HasValueNames arrays (Number e) = HasLiterals e
  HasValueNames arrays (Access array subs place) = NamesArray arrays array × AllByRecursion HasLiterals subs
  HasValueNames arrays (Call' symbol n args place) = IsCallName symbol.name (count args) × HaveValueNames arrays args

  pub HaveValueNames : List Array → {m : _} → Row_of-Value m → Type 0
  HaveValueNames arrays end_of-Value = Unit {0}
  HaveValueNames arrays (more_of-Value v rest) = HasValueNames arrays v × HaveValueNames arrays rest

-- ---- statements

unfoldable mutual
  pub HasStatementNames : List Array → Stmt → Type 0
  HasStatementNames arrays (For' iter start cond by n body place) =
      IsName iter × HasLiterals start × HasComparisons cond × IsSmall by × HaveStatementNames arrays body
  HasStatementNames arrays (If' cond n taken m other place) = HasComparisons cond × HaveStatementNames arrays taken × HaveStatementNames arrays other
  HasStatementNames arrays (Assign array subs v place) = NamesArray arrays array × AllByRecursion HasLiterals subs × HasValueNames arrays v

  pub HaveStatementNames : List Array → {m : _} → Row_of-Stmt m → Type 0
  HaveStatementNames arrays end_of-Stmt = Unit {0}
  HaveStatementNames arrays (more_of-Stmt s rest) = HasStatementNames arrays s × HaveStatementNames arrays rest

-- ---- declarations and pragma lines

pub record HasArrayNames (array : Array) : Type 0 where
  pub name : IsName array.name
  pub extents : AllByRecursion HasLiterals array.extents

abbrev pub HasInput : Option Array → Type 0
HasInput None = ⊥
HasInput (Some array) = HasArrayNames array

abbrev pub HasSlotName : Program → Slot → Type 0
HasSlotName p (slot.Param k) = IsName (name_or_none (slice_get p.params k))
HasSlotName p (slot.Array k) = HasInput (slice_get p.arrays k)

abbrev pub HaveOutputs : List Array → Option (List ℕ) → Type 0
HaveOutputs arrays None = Unit {0}
HaveOutputs arrays (Some outputs) = AllByRecursion (NamesArray arrays) outputs

-- ---- the program

pub record HasNames (p : Program) : Type 0 where
  pub name : IsName p.name
  pub params : AllByRecursion IsName p.params
  pub slots : AllByRecursion (HasSlotName p) p.slots
  pub arrays : AllByRecursion HasArrayNames p.arrays
  pub body : AllByRecursion (HasStatementNames p.arrays) p.body
  pub context : HaveLiterals p.context.parts
  pub commutative : AllByRecursion IsSymbolName p.commutative
  pub outputs : HaveOutputs p.arrays p.outputs
