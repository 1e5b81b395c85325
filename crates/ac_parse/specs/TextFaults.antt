-- How the faults of the lexer, the grammar and the rules are told as faults of a text, and what is answered of its tokens.
use Rattle.std.specs.Prelude.{◌≡◌, ℕ, List, None, Some, Result, Ok, Err}
use Rattle.std.specs.declared.alloc.AllocError.{AllocError}
use Rattle.ac_syntax.specs.declared.tree.Place.{Place}
use Rattle.ac_syntax.specs.declared.tree.Program.{Program}
use Rattle.ac_lex.specs.Lexemes.{Lexeme}
use Rattle.ac_parse_grammar.specs.declared.tree.File.{File}
use Rattle.ac_parse_grammar.specs.FileGrammar.{IsFile}
use Rattle.ac_parse_grammar.specs.FileAnswers.{HasSyntaxFault, HasNestingFault}
use Rattle.ac_parse_exprs.specs.declared.fault.Broken.{Broken}
use Rattle.ac_parse_rules.specs.Files.{file_broken, program_of}
use Rattle.ac_parse.specs.ParseAnswers.{rule_fault}
use Rattle.ac_lex.specs.declared.tokens.LexFault.{LexFault}
use Rattle.ac_lex.specs.declared.tokens.LexFault.TheVariants as lex
use Rattle.ac_parse_grammar.specs.declared.file.GrammarFault.{GrammarFault}
use Rattle.ac_parse_grammar.specs.declared.file.GrammarFault.TheVariants as grammar
use Rattle.ac_parse_exprs.specs.declared.fault.Which.TheVariants as which
use Rattle.ac_parse_rules.specs.declared.fault.RuleFault.{RuleFault}
use Rattle.ac_parse_rules.specs.declared.fault.RuleFault.TheVariants as rules
use Rattle.ac_parse.specs.declared.faults.SourceFault.{SourceFault}
use Rattle.ac_parse.specs.declared.faults.SourceFault.TheVariants.{Lex, Syntax, NotAffine, Undeclared, Misused, Duplicate, Endless, Limit, Memory}

abbrev pub of_lexer : LexFault → SourceFault
of_lexer (lex.BadByte place) = Lex (lex.BadByte place)
of_lexer (lex.BadNumber place) = Lex (lex.BadNumber place)
of_lexer (lex.LongName place) = Lex (lex.LongName place)
of_lexer (lex.OpenComment place) = Lex (lex.OpenComment place)
of_lexer (lex.Memory error) = Memory error

abbrev pub of_grammar : GrammarFault → SourceFault
of_grammar (grammar.Syntax place) = Syntax place
of_grammar (grammar.Nesting place) = Limit which.Nesting place
of_grammar (grammar.Memory error) = Memory error

abbrev pub of_rules : RuleFault → SourceFault
of_rules (rules.NotAffine place) = NotAffine place
of_rules (rules.Undeclared place) = Undeclared place
of_rules (rules.Misused place) = Misused place
of_rules (rules.Duplicate place) = Duplicate place
of_rules (rules.Endless place) = Endless place
of_rules (rules.Limit which place) = Limit which place
of_rules (rules.Memory error) = Memory error

-- what is answered of tokens: the program of their file, or the fault of the grammar or of the rules
pub data IsTokensAnswer (end : ℕ) (tokens : List Lexeme) : Result Program SourceFault → Type 0 where
  has_program : (file : File) → IsFile 128 tokens file → file_broken file ≡ None → IsTokensAnswer end tokens (Ok (program_of file))
  is_no_file : (place : Place) → HasSyntaxFault 128 end tokens place → IsTokensAnswer end tokens (Err (Syntax place))
  is_too_deep : (place : Place) → HasNestingFault 128 end tokens place → IsTokensAnswer end tokens (Err (Limit which.Nesting place))
  breaks : (file : File) (first : Broken) → IsFile 128 tokens file → file_broken file ≡ Some first → IsTokensAnswer end tokens (Err (rule_fault first.rule first.place))
  lacks_memory : (error : AllocError) → IsTokensAnswer end tokens (Err (Memory error))
