-- The value of a right side as it is written: a term over what a state holds in the cells that are read.
use Rattle.std.specs.Prelude.{ℕ, ◌==◌, not, ◌&&◌, if◌then◌else◌, List, [], ◌∷◌, map, length, codes, ℤ, pos, neg_ℤ, Option, Some, None}
use Rattle.std.specs.Option.{option_map, option_and_then}
use Rattle.ac_syntax.specs.Index.{Point}
use Rattle.ac_syntax.specs.Algebra.{Cell}
use Rattle.ac_syntax.specs.Term.{Term, Num, Apply, terms}
use Rattle.ac_parse_grammar.specs.declared.tree.Word.{Word}
use Rattle.ac_parse_grammar.specs.declared.tree.Operator.{Operator}
use Rattle.ac_parse_grammar.specs.declared.tree.Expr.{Expr}
use Rattle.ac_parse_grammar.specs.declared.tree.Expr.TheOpen.{Expr-F}
use Rattle.ac_parse_grammar.specs.declared.tree.Expr.TheFolds.{para-Expr}
use Rattle.ac_parse_exprs.specs.declared.scope.Meaning.{Meaning}
use Rattle.ac_parse_exprs.specs.declared.scope.Meaning.TheVariants.{Parameter, Iterator, Array, LoopName, OwnStart, Nothing}
use Rattle.ac_parse_exprs.specs.declared.scope.Entry.{Entry}
use Rattle.ac_parse_exprs.specs.declared.scope.Scope.{Scope}
use Rattle.ac_parse_exprs.specs.Meanings.{meaning, is_array}
use Rattle.ac_parse_exprs.specs.Values.{symbol, operator_name}
use Rattle.ac_parse_exprs.specs.WrittenValues.{meant_integer, integer_of, operated, rounded, expression_value}

-- An expression of a right side: without an access to an array, a call or a decimal it is an index expression, and has an integer;
-- any other has a term. Nothing where it has no meaning.
pub data Written : Type 0 where
  index : Option ℤ → Written
  other : Option Term → Written

-- an integer is a term too
abbrev pub as_term : Written → Option Term
as_term (index z) = option_map Num z
as_term (other t) = t

-- the first of a list that is there, and the others
abbrev pub in_front : {A : Type 0} → Option A → Option (List A) → Option (List A)
in_front (Some x) (Some xs) = Some (x ∷ xs)
in_front (Some x) None = None
in_front None xs = None

-- all of several, where each is there
abbrev pub all_of : {A : Type 0} → List (Option A) → Option (List A)
all_of [] = Some []
all_of (x ∷ xs) = in_front x (all_of xs)

-- a symbol of so many arguments, applied to them
abbrev pub applied_to : List ℕ → List (Option Term) → Option Term
applied_to name args = option_map (λ ts. Apply (symbol name (length args)) (terms ts)) (all_of args)

-- the cell of an array, with a subscript for each dimension
abbrev pub cell_of : Meaning → List (Option ℤ) → Option Cell
cell_of (Array k dimensions) subs = if length subs == dimensions then option_map (λ at. record { array = k; at = at }) (all_of subs) else None
cell_of (Parameter k) subs = None
cell_of (Iterator k) subs = None
cell_of LoopName subs = None
cell_of OwnStart subs = None
cell_of Nothing subs = None

-- a name without brackets that is no array has an integer
abbrev pub access_written : Point → (Cell → Term) → Meaning → List (Option ℤ) → Written
access_written p state m subs = if (length subs == 0) && not (is_array m) then index (meant_integer p m) else other (option_map state (cell_of m subs))

-- what is called has no declaration
abbrev pub call_written : Meaning → List ℕ → List Written → Option Term
call_written Nothing name args = applied_to name (map as_term args)
call_written (Parameter k) name args = None
call_written (Iterator k) name args = None
call_written (Array k dimensions) name args = None
call_written LoopName name args = None
call_written OwnStart name args = None

abbrev pub negative_written : Written → Written
negative_written (index z) = index (option_map neg_ℤ z)
negative_written (other t) = other (applied_to (codes "-") (t ∷ []))

-- an operator calculates with two integers, and else is a symbol
abbrev pub joined_written : Operator → Written → Written → Written
joined_written op (index x) (index y) = index (operated op x y)
joined_written op (index x) (other t) = other (applied_to (operator_name op) (option_map Num x ∷ t ∷ []))
joined_written op (other t) w = other (applied_to (operator_name op) (t ∷ as_term w ∷ []))

-- operators group to the left
abbrev pub chained_written : Written → List Written → List Operator → Written
chained_written w [] operators = w
chained_written w (v ∷ vs) [] = w
chained_written w (v ∷ vs) (op ∷ operators) = chained_written (joined_written op w v) vs operators

-- a chain of nothing, which no text has, is 0
abbrev pub chain_written : List Written → List Operator → Written
chain_written [] operators = index (Some (pos 0))
chain_written (w ∷ ws) operators = chained_written w ws operators

-- an expression by its parts and what these are
abbrev pub written_step : List Entry → Scope → Point → (Cell → Term) → Expr-F (Expr × Written) → Written
written_step names scope p state (Expr-F.Number n) = index (Some (pos n.number))
written_step names scope p state (Expr-F.Decimal word) = other (applied_to word.name [])
written_step names scope p state (Expr-F.Access name subs) = access_written p state (meaning names scope name.name) (map (λ s. expression_value (integer_of names scope p) s.0) subs)
written_step names scope p state (Expr-F.Call name args) = other (call_written (meaning names scope name.name) name.name (map (λ a. a.1) args))
written_step names scope p state (Expr-F.Quotient up argument divisor place) = index (option_and_then (rounded up divisor.number) (expression_value (integer_of names scope p) argument.0))
written_step names scope p state (Expr-F.Negative operand place) = negative_written operand.1
written_step names scope p state (Expr-F.Group inner place) = inner.1
written_step names scope p state (Expr-F.Chain operands operators) = chain_written (map (λ e. e.1) operands) operators

-- what an expression is at a point of its scope, where the cells have these terms
unfoldable pub written : List Entry → Scope → Point → (Cell → Term) → Expr → Written
written names scope p state = para-Expr Written (written_step names scope p state)

-- the cell that an assignment changes
abbrev pub target_cell : List Entry → Scope → Point → Word → List Expr → Option Cell
target_cell names scope p target subs = cell_of (meaning names scope target.name) (map (expression_value (integer_of names scope p)) subs)

-- what it puts there: `a op= e` puts `a op (e)`
abbrev pub assigned_term : List Entry → Scope → Point → (Cell → Term) → Word → List Expr → Option Operator → Expr → Option Term
assigned_term names scope p state target subs None e = as_term (written names scope p state e)
assigned_term names scope p state target subs (Some op) e =
    applied_to (operator_name op) (option_map state (target_cell names scope p target subs) ∷ as_term (written names scope p state e) ∷ [])
