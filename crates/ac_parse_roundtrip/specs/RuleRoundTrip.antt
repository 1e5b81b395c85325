-- That the rules read back what canonical text says.
use Rattle.std.specs.Prelude.{◌≡◌, List, None}
use Rattle.ac_syntax.specs.declared.tree.IndexExpr.{IndexExpr}
use Rattle.ac_syntax.specs.declared.tree.Cond.{Cond}
use Rattle.ac_syntax.specs.declared.tree.Value.{Value}
use Rattle.ac_syntax.specs.declared.tree.Stmt.{Stmt}
use Rattle.ac_syntax.specs.declared.tree.Program.{Program}
use Rattle.ac_syntax.specs.Text as text
use Rattle.ac_parse_grammar.specs.declared.tree.Expr.{Expr}
use Rattle.ac_parse_grammar.specs.declared.tree.Part.{Part}
use Rattle.ac_parse_grammar.specs.declared.tree.Statement.{Statement}
use Rattle.ac_parse_grammar.specs.declared.tree.File.{File}
use Rattle.ac_parse_exprs.specs.declared.scope.Entry.{Entry}
use Rattle.ac_parse_exprs.specs.declared.scope.Scope.{Scope}
use Rattle.ac_parse_exprs.specs.Comparisons.{index, index_broken, condition, condition_broken}
use Rattle.ac_parse_exprs.specs.Values.{value, value_broken}
use Rattle.ac_parse_rules.specs.Statements.{statement_broken, stmt}
use Rattle.ac_parse_rules.specs.Files.{file_broken, program_of}
use Rattle.ac_parse_roundtrip.specs.CanonicalTrees.{IsFormTree, IsConditionTree, IsValueTree, IsStatementTree, IsFileTree}
use Rattle.ac_parse_roundtrip.specs.PlaceErasure.{form_without_place, parts_without_places, value_without_places, stmt_without_places, IsSameButPlaces}
use Rattle.ac_parse_roundtrip.specs.ColumnNames.{FitsScope, PartsFitScope}
use Rattle.ac_parse_roundtrip.specs.ReadableStatements.{IsReadable, IsReadableStmt}
use Rattle.ac_parse_roundtrip.specs.CanonicalPrograms.{IsReadableProgram}

-- the form of a tree is the form that the tree was made from
abbrev pub FormsAreReadBack : Type 0
FormsAreReadBack = (names : List Entry) (scope : Scope) (written : text.Scope) (e : IndexExpr) → FitsScope names scope written e
    → (tree : Expr) → IsFormTree written e tree → (index_broken names scope tree ≡ None) × (form_without_place (index names scope tree) ≡ form_without_place e)

-- the condition of trees is the condition that they were made from
abbrev pub ConditionsAreReadBack : Type 0
ConditionsAreReadBack = (names : List Entry) (scope : Scope) (written : text.Scope) (c : Cond) → PartsFitScope names scope written c.parts
    → (trees : List Part) → IsConditionTree written c trees → (condition_broken names scope trees ≡ None) × (parts_without_places (condition names scope trees) ≡ parts_without_places c.parts)

-- the value of a tree is the value that the tree was made from
abbrev pub ValuesAreReadBack : Type 0
ValuesAreReadBack = (names : List Entry) (scope : Scope) (written : text.Scope) (v : Value) → IsReadable names scope written v
    → (tree : Expr) → IsValueTree written v tree → (value_broken names scope tree ≡ None) × (value_without_places (value names scope tree) ≡ value_without_places v)

-- the statement of a tree is the statement that the tree was made from
abbrev pub StatementsAreReadBack : Type 0
StatementsAreReadBack = (names : List Entry) (scope : Scope) (written : text.Scope) (s : Stmt) → IsReadableStmt names scope written s
    → (tree : Statement) → IsStatementTree written s tree → (statement_broken names tree scope ≡ None) × (stmt_without_places (stmt names tree scope) ≡ stmt_without_places s)

-- the program of a file is the program that the file was made from
abbrev pub ProgramsAreReadBack : Type 0
ProgramsAreReadBack = (p : Program) → IsReadableProgram p → (file : File) → IsFileTree p file → (file_broken file ≡ None) × IsSameButPlaces p (program_of file)
