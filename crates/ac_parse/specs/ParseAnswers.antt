-- What `parse` answers of a text that has no program.
use Rattle.std.specs.Prelude.{◌≡◌, ◌<◌, ℕ, Bool, true, false, List, length, Some, Result, Ok, Err}
use Rattle.std.specs.declared.alloc.AllocError.{AllocError}
use Rattle.ac_syntax.specs.declared.tree.Place.{Place}
use Rattle.ac_syntax.specs.declared.tree.Program.{Program}
use Rattle.ac_lex.specs.Lexemes.{Lexeme}
use Rattle.ac_lex.specs.TextPieces.{Why, bad_byte, bad_number, long_name, open_comment_begins}
use Rattle.ac_lex.specs.Tokens.{AreTokens, IsFault}
use Rattle.ac_lex.specs.declared.tokens.LexFault.{LexFault}
use Rattle.ac_lex.specs.declared.tokens.LexFault.TheVariants as lex
use Rattle.ac_parse_grammar.specs.declared.tree.File.{File}
use Rattle.ac_parse_grammar.specs.FileAnswers.{HasSyntaxFault, HasNestingFault}
use Rattle.ac_parse_exprs.specs.declared.fault.Which.TheVariants as which
use Rattle.ac_parse_exprs.specs.declared.fault.Rule.{Rule}
use Rattle.ac_parse_exprs.specs.declared.fault.Rule.TheVariants as rule
use Rattle.ac_parse_exprs.specs.declared.fault.Broken.{Broken}
use Rattle.ac_parse_rules.specs.Files.{file_broken}
use Rattle.ac_parse.specs.declared.faults.SourceFault.{SourceFault}
use Rattle.ac_parse.specs.declared.faults.SourceFault.TheVariants.{Lex, Syntax, NotAffine, Undeclared, Misused, Duplicate, Endless, Limit, Memory}
use Rattle.ac_parse.specs.Program.{IsShort, IsText}

-- a fault of the lexer, by its kind and place
abbrev pub lex_fault : Why → Place → LexFault
lex_fault bad_byte place = lex.BadByte place
lex_fault bad_number place = lex.BadNumber place
lex_fault long_name place = lex.LongName place
lex_fault open_comment_begins place = lex.OpenComment place

-- a broken rule, by its kind and place
abbrev pub rule_fault : Rule → Place → SourceFault
rule_fault rule.NotAffine place = NotAffine place
rule_fault rule.Undeclared place = Undeclared place
rule_fault rule.Misused place = Misused place
rule_fault rule.Duplicate place = Duplicate place
rule_fault rule.Endless place = Endless place
rule_fault (rule.Limit which) place = Limit which place

-- The length is looked at first, then the bytes, then the grammar, then the rules: a fault is told only of a text that has none of
-- an earlier kind. Want of memory says nothing of the text.
pub data HasSourceFault (bytes : List ℕ) : SourceFault → Type 0 where
  too_long : 65536 < length bytes → HasSourceFault bytes (Limit which.File (record { at = 0 }))
  no_tokens : (why : Why) (place : Place) → IsShort bytes → IsFault bytes why place.at → HasSourceFault bytes (Lex (lex_fault why place))
  no_file : (tokens : List Lexeme) (place : Place) → IsShort bytes → AreTokens bytes tokens → HasSyntaxFault 128 (length bytes) tokens place
      → HasSourceFault bytes (Syntax place)
  too_deep : (tokens : List Lexeme) (place : Place) → IsShort bytes → AreTokens bytes tokens → HasNestingFault 128 (length bytes) tokens place
      → HasSourceFault bytes (Limit which.Nesting place)
  breaks_a_rule : (file : File) (first : Broken) → IsText bytes file → file_broken file ≡ Some first → HasSourceFault bytes (rule_fault first.rule first.place)
  no_memory : (error : AllocError) → HasSourceFault bytes (Memory error)

-- want of memory, which says nothing of the text
abbrev pub is_memory : SourceFault → Bool
is_memory (Memory error) = true
is_memory _ = false

-- this program, unless memory fails
abbrev pub IsOnlyProgram : Program → Result Program SourceFault → Type 0
IsOnlyProgram program (Ok found) = found ≡ program
IsOnlyProgram program (Err (Lex fault)) = ⊥
IsOnlyProgram program (Err (Syntax place)) = ⊥
IsOnlyProgram program (Err (NotAffine place)) = ⊥
IsOnlyProgram program (Err (Undeclared place)) = ⊥
IsOnlyProgram program (Err (Misused place)) = ⊥
IsOnlyProgram program (Err (Duplicate place)) = ⊥
IsOnlyProgram program (Err (Endless place)) = ⊥
IsOnlyProgram program (Err (Limit which place)) = ⊥
IsOnlyProgram program (Err (Memory error)) = Unit {0}
