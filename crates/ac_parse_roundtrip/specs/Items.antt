-- The canonical text of a program as a list of items: tokens, white space, and the two ends of a pragma line.
use Rattle.std.specs.Prelude.{ℕ, suc, ◌+◌, ℤ, pos, negsuc, List, [], ◌∷◌, ◌++◌, codes, length, Option, None, Some, slice_get, if◌then◌else◌}
use Rattle.std.specs.List.{flat_map, join_by}
use Rattle.std.specs.Fmt.{decimal}
use Rattle.ac_syntax.specs.Text.{Scope, inside, whole_scope, deeper, array_name, name_or_none, is_other_than_zero, is_operator, is_decimal}
use Rattle.ac_syntax.specs.declared.tree.Quot.{Quot}
use Rattle.ac_syntax.specs.declared.tree.IndexExpr.{IndexExpr}
use Rattle.ac_syntax.specs.declared.tree.Rel.{Rel}
use Rattle.ac_syntax.specs.declared.tree.Rel.TheVariants.{NonNegative, Zero, Divides}
use Rattle.ac_syntax.specs.declared.tree.Comparison.{Comparison}
use Rattle.ac_syntax.specs.declared.tree.Cond.{Cond}
use Rattle.ac_syntax.specs.declared.tree.Value.{Value, Row_of-Value, end_of-Value, more_of-Value}
use Rattle.ac_syntax.specs.declared.tree.Value.TheVariants.{Number, Access, Call'}
use Rattle.ac_syntax.specs.declared.tree.Stmt.{Stmt, Row_of-Stmt, end_of-Stmt, more_of-Stmt}
use Rattle.ac_syntax.specs.declared.tree.Stmt.TheVariants.{For', If', Assign}
use Rattle.ac_syntax.specs.declared.tree.Kind.{Kind}
use Rattle.ac_syntax.specs.declared.tree.Kind.TheVariants.{Input, Local}
use Rattle.ac_syntax.specs.declared.tree.Array.{Array}
use Rattle.ac_syntax.specs.declared.tree.Slot.{Slot}
use Rattle.ac_syntax.specs.declared.tree.Slot.TheVariants as slot
use Rattle.ac_syntax.specs.declared.tree.Program.{Program}
use Rattle.ac_lex.specs.declared.tokens.TokenKind.{TokenKind}
use Rattle.ac_lex.specs.declared.tokens.TokenKind.TheVariants as kind
use Rattle.ac_lex.specs.Lexemes.{Lexeme}

pub data Item : Type 0 where
  blank : List ℕ → Item
  token : TokenKind → List ℕ → Item
  pragma : Item
  line_end : Item

-- ---- what items spell, and the tokens that they are

abbrev pub pragma_text : List ℕ
pragma_text = codes "#pragma affine"

abbrev pub spelling : Item → List ℕ
spelling (blank text) = text
spelling (token kind text) = text
spelling pragma = pragma_text
spelling line_end = 10 ∷ []

abbrev pub spelled : List Item → List ℕ
spelled items = flat_map spelling items

abbrev pub lexeme : TokenKind → ℕ → List ℕ → Lexeme
lexeme kind at text = record { kind = kind; at = at; text = text }

-- the token of an item at a place
abbrev pub lexeme_of : ℕ → Item → List Lexeme
lexeme_of at (blank text) = []
lexeme_of at (token kind text) = lexeme kind at text ∷ []
lexeme_of at pragma = lexeme kind.PragmaStart at pragma_text ∷ []
lexeme_of at line_end = lexeme kind.PragmaEnd at [] ∷ []

-- those of the items, from a place on
abbrev pub lexemes : ℕ → List Item → List Lexeme
lexemes at [] = []
lexemes at (i ∷ is) = lexeme_of at i ++ lexemes (at + length (spelling i)) is

-- ---- items

abbrev pub space : Item
space = blank (codes " ")

abbrev pub mark : List ℕ → Item
mark text = token kind.Mark text

abbrev pub word : List ℕ → Item
word text = token kind.Word text

abbrev pub number : ℕ → Item
number n = token kind.Number (decimal n)

abbrev pub joined : List Item → List (List Item) → List Item
joined separator parts = join_by (λ part. part) separator parts

abbrev pub enclosed : List ℕ → List Item → List ℕ → List Item
enclosed left items right = mark left ∷ items ++ mark right ∷ []

abbrev pub in_parentheses : List Item → List Item
in_parentheses items = enclosed (codes "(") items (codes ")")

-- ---- forms and conditions

abbrev pub signed : ℤ → List Item
signed (pos n) = number n ∷ []
signed (negsuc n) = mark (codes "-") ∷ number (suc n) ∷ []

abbrev pub term : ℤ → List ℕ → List (List Item)
term c name = if is_other_than_zero c then (signed c ++ mark (codes "*") ∷ word name ∷ []) ∷ [] else []

abbrev pub terms : List ℤ → List (List ℕ) → List (List Item)
terms [] names = []
terms (c ∷ cs) [] = []
terms (c ∷ cs) (name ∷ names) = term c name ++ terms cs names

abbrev pub constant_term : ℤ → List (List Item)
constant_term c = if is_other_than_zero c then signed c ∷ [] else []

abbrev pub plus : List Item
plus = space ∷ mark (codes "+") ∷ space ∷ []

abbrev pub sum : List (List Item) → List Item
sum [] = number 0 ∷ []
sum (t ∷ ts) = joined plus (t ∷ ts)

-- what a quotient divides
abbrev pub argument : Scope → Quot → List Item
argument scope q = sum (terms q.params scope.params ++ terms q.iters scope.iters ++ constant_term q.konst)

abbrev pub quot : Scope → Quot → List Item
quot scope q = word (codes "floord") ∷ mark (codes "(") ∷ argument scope q ++ (mark (codes ",") ∷ space ∷ signed q.div ++ mark (codes ")") ∷ [])

abbrev pub quot_term : Scope → Quot → List (List Item)
quot_term scope q = if is_other_than_zero q.coef then (signed q.coef ++ mark (codes "*") ∷ quot scope q) ∷ [] else []

abbrev pub quot_terms : Scope → List Quot → List (List Item)
quot_terms scope [] = []
quot_terms scope (q ∷ qs) = quot_term scope q ++ quot_terms scope qs

abbrev pub form : Scope → IndexExpr → List Item
form scope e = sum (terms e.params scope.params ++ terms e.iters scope.iters ++ quot_terms scope e.quots ++ constant_term e.konst)

abbrev pub is_zero : List Item
is_zero = space ∷ mark (codes "==") ∷ space ∷ number 0 ∷ []

-- a form that is compared with 0, or tested for a divisor
abbrev pub tested : Rel → List Item → List Item
tested NonNegative items = items ++ space ∷ mark (codes ">=") ∷ space ∷ number 0 ∷ []
tested Zero items = items ++ is_zero
tested (Divides m) items = in_parentheses items ++ (space ∷ mark (codes "%") ∷ space ∷ signed m ++ is_zero)

abbrev pub comparison : Scope → Comparison → List Item
comparison scope c = tested c.rel (form scope c.form)

abbrev pub cond : Scope → Cond → List Item
cond scope c = join_by (comparison scope) (space ∷ mark (codes "&&") ∷ space ∷ []) c.parts

abbrev pub subscript : Scope → IndexExpr → List Item
subscript scope e = enclosed (codes "[") (form scope e) (codes "]")

abbrev pub subscripts : Scope → List IndexExpr → List Item
subscripts scope subs = flat_map (subscript scope) subs

-- ---- values

abbrev pub function : List ℕ → List (List Item) → List Item
function name args =
    if is_decimal name then token kind.Decimal name ∷ [] else word name ∷ in_parentheses (joined (mark (codes ",") ∷ space ∷ []) args)

abbrev pub operation : List ℕ → List (List Item) → List Item
operation name (a ∷ []) = in_parentheses (mark name ∷ a)
operation name (a ∷ b ∷ []) = in_parentheses (a ++ space ∷ mark name ∷ space ∷ b)
operation name args = function name args

abbrev pub call : List ℕ → List (List Item) → List Item
call name args = if is_operator name then operation name args else function name args

unfoldable mutual
  pub value : Scope → Value → List Item
  value scope (Number e) = in_parentheses (form scope e)
  value scope (Access array subs place) = word (array_name (slice_get scope.arrays array)) ∷ subscripts scope subs
  value scope (Call' symbol n args place) = call symbol.name (values scope args)

  pub values : Scope → {m : _} → Row_of-Value m → List (List Item)
  values scope end_of-Value = []
  values scope (more_of-Value v rest) = value scope v ∷ values scope rest

-- ---- statements

abbrev pub line : List ℕ → List Item → List Item
line indent items = blank indent ∷ items ++ blank (10 ∷ []) ∷ []

abbrev pub step : ℤ → List Item
step (pos n) = space ∷ mark (codes "+=") ∷ space ∷ number n ∷ []
step (negsuc n) = space ∷ mark (codes "-=") ∷ space ∷ number (suc n) ∷ []

abbrev pub loop : Scope → List ℕ → IndexExpr → Cond → ℤ → List Item
loop scope iter start c by =
    word (codes "for") ∷ space ∷ mark (codes "(") ∷ word (codes "int") ∷ space ∷ word iter ∷ space ∷ mark (codes "=") ∷ space ∷ form scope start
    ++ mark (codes ";") ∷ space ∷ cond (inside scope iter) c ++ mark (codes ";") ∷ space ∷ word iter ∷ step by
    ++ mark (codes ")") ∷ space ∷ mark (codes "{") ∷ []

abbrev pub assignment : Scope → ℕ → List IndexExpr → Value → List Item
assignment scope array subs v =
    word (array_name (slice_get scope.arrays array)) ∷ subscripts scope subs ++ space ∷ mark (codes "=") ∷ space ∷ value scope v ++ mark (codes ";") ∷ []

abbrev pub branch : Scope → Cond → List Item
branch scope c = word (codes "if") ∷ space ∷ mark (codes "(") ∷ cond scope c ++ mark (codes ")") ∷ space ∷ mark (codes "{") ∷ []

abbrev pub otherwise : List Item
otherwise = mark (codes "}") ∷ space ∷ word (codes "else") ∷ space ∷ mark (codes "{") ∷ []

unfoldable mutual
  pub stmt : Scope → List ℕ → Stmt → List Item
  stmt scope indent (For' iter start c by n inner place) =
      line indent (loop scope iter start c by) ++ body (inside scope iter) (deeper indent) inner ++ line indent (mark (codes "}") ∷ [])
  stmt scope indent (If' c n taken m other place) =
      line indent (branch scope c) ++ body scope (deeper indent) taken ++ other_branch scope indent other ++ line indent (mark (codes "}") ∷ [])
  stmt scope indent (Assign array subs v place) = line indent (assignment scope array subs v)

  pub body : Scope → List ℕ → {m : _} → Row_of-Stmt m → List Item
  body scope indent end_of-Stmt = []
  body scope indent (more_of-Stmt s rest) = stmt scope indent s ++ body scope indent rest

  pub other_branch : Scope → List ℕ → {m : _} → Row_of-Stmt m → List Item
  other_branch scope indent end_of-Stmt = []
  other_branch scope indent (more_of-Stmt s rest) = line indent otherwise ++ (stmt scope (deeper indent) s ++ body scope (deeper indent) rest)

-- ---- declarations and pragma lines

abbrev pub declared : Scope → Array → List Item
declared scope array = word array.name ∷ subscripts scope array.extents

abbrev pub input_type : List IndexExpr → List Item
input_type [] = word (codes "double") ∷ space ∷ []
input_type (e ∷ extents) = word (codes "int") ∷ space ∷ []

abbrev pub input : Scope → Option Array → List Item
input scope None = []
input scope (Some array) = input_type array.extents ++ declared scope array

abbrev pub slot_items : Scope → Slot → List Item
slot_items scope (slot.Param k) = word (codes "int") ∷ space ∷ word (name_or_none (slice_get scope.params k)) ∷ []
slot_items scope (slot.Array k) = input scope (slice_get scope.arrays k)

abbrev pub local_line : Scope → Kind → Array → List Item
local_line scope Input array = []
local_line scope Local array = line (codes "  ") (word (codes "int") ∷ space ∷ declared scope array ++ mark (codes ";") ∷ [])

abbrev pub pragma_line : List ℕ → List Item → List Item
pragma_line name items = pragma ∷ space ∷ word name ∷ items ++ line_end ∷ []

abbrev pub context_line : Scope → List Comparison → List Item
context_line scope [] = []
context_line scope (c ∷ parts) = pragma_line (codes "context") (space ∷ cond scope (record { parts = c ∷ parts }))

-- each behind a blank; an operator is a mark
abbrev pub symbol : List ℕ → Item
symbol name = if is_operator name then mark name else word name

abbrev pub commutative_line : List (List ℕ) → List Item
commutative_line [] = []
commutative_line (name ∷ names) = pragma_line (codes "commutative") (flat_map (λ n. space ∷ symbol n ∷ []) (name ∷ names))

abbrev pub output_line : Scope → Option (List ℕ) → List Item
output_line scope None = []
output_line scope (Some outputs) = pragma_line (codes "output") (flat_map (λ k. space ∷ word (array_name (slice_get scope.arrays k)) ∷ []) outputs)

-- ---- the program

abbrev pub head : Scope → List ℕ → List Slot → List Item
head scope name slots =
    word (codes "void") ∷ space ∷ word name ∷ mark (codes "(") ∷ join_by (slot_items scope) (mark (codes ",") ∷ space ∷ []) slots
    ++ mark (codes ")") ∷ space ∷ mark (codes "{") ∷ []

abbrev pub pragma_lines : Program → List Item
pragma_lines p = context_line (whole_scope p) p.context.parts ++ commutative_line p.commutative ++ output_line (whole_scope p) p.outputs

abbrev pub program : Program → List Item
program p =
    pragma_lines p ++ line [] (head (whole_scope p) p.name p.slots) ++ flat_map (λ (a : Array). local_line (whole_scope p) a.kind a) p.arrays
    ++ flat_map (stmt (whole_scope p) (codes "  ")) p.body ++ line [] (mark (codes "}") ∷ [])
