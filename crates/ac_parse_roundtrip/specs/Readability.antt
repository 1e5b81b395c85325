-- That what the rules give where none is broken is readable in its canonical text.
use Rattle.std.specs.Prelude.{◌≡◌, ℕ, List, None}
use Rattle.ac_syntax.specs.Text as text
use Rattle.ac_lex.specs.Lexemes.{Lexeme}
use Rattle.ac_lex.specs.Tokens.{AreTokens}
use Rattle.ac_parse_grammar.specs.declared.tree.Expr.{Expr}
use Rattle.ac_parse_grammar.specs.declared.tree.Part.{Part}
use Rattle.ac_parse_grammar.specs.declared.tree.File.{File}
use Rattle.ac_parse_grammar.specs.FileGrammar.{IsFile}
use Rattle.ac_parse_exprs.specs.declared.scope.Entry.{Entry}
use Rattle.ac_parse_exprs.specs.declared.scope.Scope.{Scope}
use Rattle.ac_parse_exprs.specs.Comparisons.{index, index_broken, condition, condition_broken}
use Rattle.ac_parse_rules.specs.Files.{file_broken, program_of}
use Rattle.ac_parse_roundtrip.specs.ColumnNames.{FitsScope, PartsFitScope}
use Rattle.ac_parse_roundtrip.specs.CanonicalPrograms.{IsReadableProgram}
use Rattle.ac_parse_roundtrip.specs.NameCorrespondence.{Carries}

-- the form of an index expression that breaks no rule
abbrev pub FormsAreReadable : Type 0
FormsAreReadable = (names : List Entry) (scope : Scope) (text_names : List Entry) (text_scope : Scope) (written : text.Scope) → Carries names scope text_names text_scope written
    → (e : Expr) → index_broken names scope e ≡ None → FitsScope text_names text_scope written (index names scope e)

-- the comparisons of a condition that breaks no rule
abbrev pub ConditionsAreReadable : Type 0
ConditionsAreReadable = (names : List Entry) (scope : Scope) (text_names : List Entry) (text_scope : Scope) (written : text.Scope) → Carries names scope text_names text_scope written
    → (parts : List Part) → condition_broken names scope parts ≡ None → PartsFitScope text_names text_scope written (condition names scope parts)

-- the program of a text of the grammar that breaks no rule
abbrev pub ProgramsAreReadable : Type 0
ProgramsAreReadable = (bytes : List ℕ) (tokens : List Lexeme) (room : ℕ) (file : File) → AreTokens bytes tokens → IsFile room tokens file → file_broken file ≡ None
    → IsReadableProgram (program_of file)
