-- The canonical text of a program: one item per line, two spaces for each level, every body in braces, every comparison a form
-- that is compared with 0.
use Rattle.std.specs.Prelude.{ℕ, zero, suc, ℤ, pos, negsuc, Bool, true, false, List, [], ◌∷◌, ◌++◌, codes, Option, None, Some, slice_get, if◌then◌else◌, ◌==◌, nat_le, ◌||◌, ◌&&◌}
use Rattle.std.specs.List.{flat_map, join_by, list_any}
use Rattle.std.specs.Fmt.{signed_decimal}
use Rattle.ac_syntax.specs.declared.tree.Quot.{Quot}
use Rattle.ac_syntax.specs.declared.tree.IndexExpr.{IndexExpr}
use Rattle.ac_syntax.specs.declared.tree.Rel.{Rel}
use Rattle.ac_syntax.specs.declared.tree.Rel.TheVariants.{NonNegative, Zero, Divides}
use Rattle.ac_syntax.specs.declared.tree.Comparison.{Comparison}
use Rattle.ac_syntax.specs.declared.tree.Cond.{Cond}
use Rattle.ac_syntax.specs.declared.tree.Value.{Value, Row_of-Value, end_of-Value, more_of-Value}
use Rattle.ac_syntax.specs.declared.tree.Value.TheVariants.{Number, Access, Call'}
use Rattle.ac_syntax.specs.declared.tree.Stmt.{Stmt, Row_of-Stmt, end_of-Stmt, more_of-Stmt}
use Rattle.ac_syntax.specs.declared.tree.Stmt.TheVariants.{For', If', Assign}
use Rattle.ac_syntax.specs.declared.tree.Kind.{Kind}
use Rattle.ac_syntax.specs.declared.tree.Kind.TheVariants.{Input, Local}
use Rattle.ac_syntax.specs.declared.tree.Array.{Array}
use Rattle.ac_syntax.specs.declared.tree.Slot.{Slot}
use Rattle.ac_syntax.specs.declared.tree.Slot.TheVariants as slot
use Rattle.ac_syntax.specs.declared.tree.Program.{Program}

abbrev pub line : List ℕ → List ℕ → List ℕ
line indent text = indent ++ text ++ 10 ∷ []

abbrev pub deeper : List ℕ → List ℕ
deeper indent = indent ++ codes "  "

abbrev pub bracketed : List ℕ → List ℕ
bracketed text = codes "[" ++ text ++ codes "]"

abbrev pub in_parentheses : List ℕ → List ℕ
in_parentheses text = codes "(" ++ text ++ codes ")"

abbrev pub joined : List ℕ → List (List ℕ) → List ℕ
joined separator pieces = join_by (λ piece. piece) separator pieces

-- ---- names

-- the names of the parameters, of the loops around, the outermost first, and the arrays
pub record Scope : Type 0 where
  pub params : List (List ℕ)
  pub iters : List (List ℕ)
  pub arrays : List Array

abbrev pub inside : Scope → List ℕ → Scope
inside scope iter = record { params = scope.params; iters = scope.iters ++ iter ∷ []; arrays = scope.arrays }

abbrev pub name_or_none : Option (List ℕ) → List ℕ
name_or_none None = []
name_or_none (Some name) = name

abbrev pub array_name : Option Array → List ℕ
array_name None = []
array_name (Some array) = array.name

-- ---- forms and conditions

abbrev pub is_other_than_zero : ℤ → Bool
is_other_than_zero (pos zero) = false
is_other_than_zero (pos (suc n)) = true
is_other_than_zero (negsuc n) = true

-- a coefficient other than 0 and what it multiplies
abbrev pub term : ℤ → List ℕ → List (List ℕ)
term c name = if is_other_than_zero c then (signed_decimal c ++ codes "*" ++ name) ∷ [] else []

abbrev pub terms : List ℤ → List (List ℕ) → List (List ℕ)
terms [] names = []
terms (c ∷ cs) [] = []
terms (c ∷ cs) (name ∷ names) = term c name ++ terms cs names

abbrev pub constant_term : ℤ → List (List ℕ)
constant_term c = if is_other_than_zero c then signed_decimal c ∷ [] else []

abbrev pub sum_text : List (List ℕ) → List ℕ
sum_text [] = codes "0"
sum_text (t ∷ ts) = joined (codes " + ") (t ∷ ts)

-- the parameters, the iterators and the constant of what a quotient divides
abbrev pub argument_text : Scope → Quot → List ℕ
argument_text scope q = sum_text (terms q.params scope.params ++ terms q.iters scope.iters ++ constant_term q.konst)

abbrev pub quot_text : Scope → Quot → List ℕ
quot_text scope q = codes "floord(" ++ argument_text scope q ++ codes ", " ++ signed_decimal q.div ++ codes ")"

abbrev pub quot_terms : Scope → List Quot → List (List ℕ)
quot_terms scope [] = []
quot_terms scope (q ∷ qs) = term q.coef (quot_text scope q) ++ quot_terms scope qs

-- parameters, iterators, quotients, constant
abbrev pub form_text : Scope → IndexExpr → List ℕ
form_text scope e = sum_text (terms e.params scope.params ++ terms e.iters scope.iters ++ quot_terms scope e.quots ++ constant_term e.konst)

abbrev pub tested_text : Rel → List ℕ → List ℕ
tested_text NonNegative form = form ++ codes " >= 0"
tested_text Zero form = form ++ codes " == 0"
tested_text (Divides m) form = in_parentheses form ++ codes " % " ++ signed_decimal m ++ codes " == 0"

abbrev pub comparison_text : Scope → Comparison → List ℕ
comparison_text scope c = tested_text c.rel (form_text scope c.form)

abbrev pub cond_text : Scope → Cond → List ℕ
cond_text scope cond = join_by (comparison_text scope) (codes " && ") cond.parts

abbrev pub subscripts_text : Scope → List IndexExpr → List ℕ
subscripts_text scope subs = flat_map (λ e. bracketed (form_text scope e)) subs

-- ---- values

-- an operator begins with its sign
abbrev pub is_operator : List ℕ → Bool
is_operator [] = false
is_operator (b ∷ bytes) = list_any (λ sign. sign == b) (codes "+-*/%")

-- a decimal begins with a digit or a point
abbrev pub is_decimal : List ℕ → Bool
is_decimal [] = false
is_decimal (b ∷ bytes) = b == 46 || (nat_le 48 b && nat_le b 57)

-- a decimal constant by its spelling, a function with its arguments
abbrev pub function_text : List ℕ → List (List ℕ) → List ℕ
function_text name args = if is_decimal name then name else name ++ in_parentheses (joined (codes ", ") args)

-- an operator of one or two operands, with the whole call in parentheses
abbrev pub operation_text : List ℕ → List (List ℕ) → List ℕ
operation_text name (a ∷ []) = in_parentheses (name ++ a)
operation_text name (a ∷ b ∷ []) = in_parentheses (a ++ codes " " ++ name ++ codes " " ++ b)
operation_text name args = function_text name args

abbrev pub call_text : List ℕ → List (List ℕ) → List ℕ
call_text name args = if is_operator name then operation_text name args else function_text name args

unfoldable mutual
  pub value_text : Scope → Value → List ℕ
  value_text scope (Number e) = in_parentheses (form_text scope e)
  value_text scope (Access array subs place) = array_name (slice_get scope.arrays array) ++ subscripts_text scope subs
  value_text scope (Call' symbol n args place) = call_text symbol.name (value_texts scope args)

  pub value_texts : Scope → {m : _} → Row_of-Value m → List (List ℕ)
  value_texts scope end_of-Value = []
  value_texts scope (more_of-Value v rest) = value_text scope v ∷ value_texts scope rest

-- ---- statements

abbrev pub step_text : ℤ → List ℕ
step_text (pos n) = codes " += " ++ signed_decimal (pos n)
step_text (negsuc n) = codes " -= " ++ signed_decimal (pos (suc n))

abbrev pub loop_text : Scope → List ℕ → IndexExpr → Cond → ℤ → List ℕ
loop_text scope iter start cond step =
    codes "for (int " ++ iter ++ codes " = " ++ form_text scope start ++ codes "; " ++ cond_text (inside scope iter) cond ++ codes "; "
    ++ iter ++ step_text step ++ codes ") {"

abbrev pub assignment_text : Scope → ℕ → List IndexExpr → Value → List ℕ
assignment_text scope array subs value =
    array_name (slice_get scope.arrays array) ++ subscripts_text scope subs ++ codes " = " ++ value_text scope value ++ codes ";"

abbrev pub branch_text : Scope → Cond → List ℕ
branch_text scope cond = codes "if (" ++ cond_text scope cond ++ codes ") {"

-- the lines of a statement
unfoldable mutual
  pub stmt_text : Scope → List ℕ → Stmt → List ℕ
  stmt_text scope indent (For' iter start cond step n body place) =
      line indent (loop_text scope iter start cond step) ++ body_text (inside scope iter) (deeper indent) body ++ line indent (codes "}")
  stmt_text scope indent (If' cond n taken m other place) =
      line indent (branch_text scope cond) ++ body_text scope (deeper indent) taken ++ else_text scope indent other ++ line indent (codes "}")
  stmt_text scope indent (Assign array subs value place) = line indent (assignment_text scope array subs value)

  pub body_text : Scope → List ℕ → {m : _} → Row_of-Stmt m → List ℕ
  body_text scope indent end_of-Stmt = []
  body_text scope indent (more_of-Stmt s rest) = stmt_text scope indent s ++ body_text scope indent rest

  -- an else without statements is left out
  pub else_text : Scope → List ℕ → {m : _} → Row_of-Stmt m → List ℕ
  else_text scope indent end_of-Stmt = []
  else_text scope indent (more_of-Stmt s rest) =
      line indent (codes "} else {") ++ (stmt_text scope (deeper indent) s ++ body_text scope (deeper indent) rest)

-- ---- declarations and pragma lines

abbrev pub declared_text : Scope → Array → List ℕ
declared_text scope array = array.name ++ subscripts_text scope array.extents

-- a scalar input is `double`, all others are `int`
abbrev pub input_type : List IndexExpr → List ℕ
input_type [] = codes "double "
input_type (e ∷ extents) = codes "int "

abbrev pub input_text : Scope → Option Array → List ℕ
input_text scope None = []
input_text scope (Some array) = input_type array.extents ++ declared_text scope array

abbrev pub slot_text : Scope → Slot → List ℕ
slot_text scope (slot.Param k) = codes "int " ++ name_or_none (slice_get scope.params k)
slot_text scope (slot.Array k) = input_text scope (slice_get scope.arrays k)

abbrev pub local_line : Scope → Kind → Array → List ℕ
local_line scope Input array = []
local_line scope Local array = line (codes "  ") (codes "int " ++ declared_text scope array ++ codes ";")

abbrev pub context_line : Scope → List Comparison → List ℕ
context_line scope [] = []
context_line scope (c ∷ parts) = line [] (codes "#pragma affine context " ++ cond_text scope (record { parts = c ∷ parts }))

-- each behind a blank
abbrev pub words_text : List (List ℕ) → List ℕ
words_text words = flat_map (λ word. codes " " ++ word) words

abbrev pub commutative_line : List (List ℕ) → List ℕ
commutative_line [] = []
commutative_line (name ∷ names) = line [] (codes "#pragma affine commutative" ++ words_text (name ∷ names))

-- an output line stands where the program has one, also without names
abbrev pub output_line : Scope → Option (List ℕ) → List ℕ
output_line scope None = []
output_line scope (Some outputs) =
    line [] (codes "#pragma affine output" ++ flat_map (λ k. codes " " ++ array_name (slice_get scope.arrays k)) outputs)

-- ---- the program

abbrev pub whole_scope : Program → Scope
whole_scope p = record { params = p.params; iters = []; arrays = p.arrays }

abbrev pub head_text : Scope → List ℕ → List Slot → List ℕ
head_text scope name slots = codes "void " ++ name ++ codes "(" ++ join_by (slot_text scope) (codes ", ") slots ++ codes ") {"

abbrev pub pragma_lines : Program → List ℕ
pragma_lines p = context_line (whole_scope p) p.context.parts ++ commutative_line p.commutative ++ output_line (whole_scope p) p.outputs

abbrev pub program_text : Program → List ℕ
program_text p =
    pragma_lines p ++ line [] (head_text (whole_scope p) p.name p.slots) ++ flat_map (λ (a : Array). local_line (whole_scope p) a.kind a) p.arrays
    ++ flat_map (stmt_text (whole_scope p) (codes "  ")) p.body ++ line [] (codes "}")
