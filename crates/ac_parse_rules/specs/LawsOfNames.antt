-- That a file that breaks no rule declares no name twice and uses none that is not declared, and that a declared name means the
-- parameter or array of the program that has it. How the names of a file are numbered.
use Rattle.std.specs.Prelude.{◌≡◌, ℕ, ◌+◌, nat_eq, Bool, true, ◌||◌, List, [], ◌∷◌, ◌++◌, map, length, take, slice_get, Option, Some, None}
use Rattle.std.specs.List.{AllByRecursion, IsDistinct, flat_map}
use Rattle.std.specs.Cmp.Lexicographic.{pointwise}
use Rattle.ac_syntax.specs.declared.tree.Array.{Array as SyntaxArray}
use Rattle.ac_syntax.specs.declared.tree.Place.{Place}
use Rattle.ac_syntax.specs.declared.tree.Program.{Program}
use Rattle.ac_parse_grammar.specs.declared.tree.Word.{Word}
use Rattle.ac_parse_grammar.specs.declared.tree.Operator.{Operator}
use Rattle.ac_parse_grammar.specs.declared.tree.Part.{Part}
use Rattle.ac_parse_grammar.specs.declared.tree.Step.{Step}
use Rattle.ac_parse_grammar.specs.declared.tree.Expr.{Expr}
use Rattle.ac_parse_grammar.specs.declared.tree.Expr.TheOpen.{Expr-F}
use Rattle.ac_parse_grammar.specs.declared.tree.Expr.TheFolds.{fold-Expr}
use Rattle.ac_parse_grammar.specs.declared.tree.Statement.{Statement}
use Rattle.ac_parse_grammar.specs.declared.tree.Statement.TheVariants.{Loop, Branch, Assign}
use Rattle.ac_parse_grammar.specs.declared.tree.File.{File}
use Rattle.ac_parse_exprs.specs.declared.scope.Meaning.{Meaning}
use Rattle.ac_parse_exprs.specs.declared.scope.Meaning.TheVariants as means
use Rattle.ac_parse_exprs.specs.declared.scope.Entry.{Entry}
use Rattle.ac_parse_exprs.specs.declared.scope.Scope.{Scope}
use Rattle.ac_parse_rules.specs.Declarations.{is_declared, param_count, fixed_scope}
use Rattle.ac_parse_exprs.specs.Meanings.{declared_meaning}
use Rattle.ac_parse_exprs.specs.FormValues.{AreNumbered}
use Rattle.ac_parse_rules.specs.Statements.{inside, in_start, is_running}
use Rattle.ac_parse_rules.specs.Files.{context_parts, output_words, body_scope, names_of, file_broken, program_of}

-- the names of a file are numbered as its scopes want them, and so are the first k of them, which are all that an extent sees
abbrev pub FilesAreNumbered : Type 0
FilesAreNumbered = (file : File) → AreNumbered (param_count file.params) (names_of file) × ((k : ℕ) → AreNumbered (param_count file.params) (take k (names_of file)))

-- the names of the parameters and then of the locals
abbrev pub declared_names : File → List (List ℕ)
declared_names file = map (λ d. d.name.name) (file.params ++ file.locals)

abbrev pub NamesAreDeclaredOnce : Type 0
NamesAreDeclaredOnce = (file : File) → file_broken file ≡ None → IsDistinct (pointwise nat_eq) (declared_names file)

-- the integer parameter or the array with this number has the name, and the array as many extents as dimensions
abbrev pub IsNamed : Program → List ℕ → Meaning → Type 0
IsNamed program name (means.Parameter k) = slice_get program.params k ≡ Some name
IsNamed program name (means.Array k dimensions) = (array : SyntaxArray) × (slice_get program.arrays k ≡ Some array) × (array.name ≡ name) × (length array.extents ≡ dimensions)
IsNamed program name (means.Iterator k) = Unit {0}
IsNamed program name means.LoopName = Unit {0}
IsNamed program name means.OwnStart = Unit {0}
IsNamed program name means.Nothing = Unit {0}

abbrev pub NamesMeanTheirOwn : Type 0
NamesMeanTheirOwn = (file : File) (name : List ℕ) → IsNamed (program_of file) name (declared_meaning (names_of file) name)

-- the names that an expression reads, with subscripts or without; what is called is none
abbrev pub reads_step : Expr-F (List (List ℕ)) → List (List ℕ)
reads_step (Expr-F.Number n) = []
reads_step (Expr-F.Decimal word) = []
reads_step (Expr-F.Access name subs) = name.name ∷ flat_map (λ names. names) subs
reads_step (Expr-F.Call name args) = flat_map (λ names. names) args
reads_step (Expr-F.Quotient up argument divisor place) = argument
reads_step (Expr-F.Negative operand place) = operand
reads_step (Expr-F.Group inner place) = inner
reads_step (Expr-F.Chain operands operators) = flat_map (λ names. names) (take (length operators + 1) operands)

unfoldable pub reads : Expr → List (List ℕ)
reads = fold-Expr (List (List ℕ)) reads_step

-- a loop of the name runs, or it is declared
abbrev pub IsKnown : List Entry → Scope → List ℕ → Type 0
IsKnown names scope name = (is_running scope name || is_declared names name) ≡ true

abbrev pub ReadsKnown : List Entry → Scope → Expr → Type 0
ReadsKnown names scope e = AllByRecursion (IsKnown names scope) (reads e)

abbrev pub ComparesKnown : List Entry → Scope → List Part → Type 0
ComparesKnown names scope parts = AllByRecursion (λ part. ReadsKnown names scope part.left × ReadsKnown names scope part.right) parts

abbrev pub SourceKnown : List Entry → Scope → Option Word → Type 0
SourceKnown names scope None = Unit {0}
SourceKnown names scope (Some word) = IsKnown names scope word.name

-- each name that a statement uses is known where it stands
mutual
  pub data UsesKnown (names : List Entry) : Scope → Statement → Type 0 where
    loop : {scope : Scope} {typed : Bool} {name : Word} {start : Expr} {cond : List Part} {step : Step} {body : List Statement} {place : Place}
        → ReadsKnown names (in_start scope typed name.name) start → ComparesKnown names (inside scope name.name) cond
        → IsKnown names (inside scope name.name) step.target.name → SourceKnown names (inside scope name.name) step.source
        → AllUseKnown names (inside scope name.name) body → UsesKnown names scope (Loop typed name start cond step body place)
    branch : {scope : Scope} {cond : List Part} {taken other : List Statement} {place : Place}
        → ComparesKnown names scope cond → AllUseKnown names scope taken → AllUseKnown names scope other → UsesKnown names scope (Branch cond taken other place)
    assignment : {scope : Scope} {target : Word} {subs : List Expr} {operator : Option Operator} {e : Expr}
        → IsKnown names scope target.name → AllByRecursion (ReadsKnown names scope) subs → ReadsKnown names scope e → UsesKnown names scope (Assign target subs operator e)

  pub data AllUseKnown (names : List Entry) : Scope → List Statement → Type 0 where
    no_statement : {scope : Scope} → AllUseKnown names scope []
    one_more : {scope : Scope} {s : Statement} {ss : List Statement} → UsesKnown names scope s → AllUseKnown names scope ss → AllUseKnown names scope (s ∷ ss)

-- in the body, on context lines and on output lines
pub record UsesDeclared (names : List Entry) (file : File) : Type 0 where
  pub body : AllUseKnown names (body_scope (param_count file.params)) file.body
  pub context : ComparesKnown names (fixed_scope (param_count file.params)) (context_parts file.pragmas)
  pub outputs : AllByRecursion (λ word. is_declared names word.name ≡ true) (output_words file.pragmas)

abbrev pub NoneIsUndeclared : Type 0
NoneIsUndeclared = (file : File) → file_broken file ≡ None → UsesDeclared (names_of file) file
