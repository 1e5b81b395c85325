-- That the tokens of a text are spelled as their kinds say, and that its program has words for names.
use Rattle.std.specs.Prelude.{◌≡◌, ℕ, List, None}
use Rattle.ac_lex.specs.Lexemes.{Lexeme}
use Rattle.ac_lex.specs.Tokens.{AreTokens}
use Rattle.ac_parse_grammar.specs.declared.tree.File.{File}
use Rattle.ac_parse_grammar.specs.FileGrammar.{IsFile}
use Rattle.ac_parse_rules.specs.Files.{file_broken, program_of}
use Rattle.ac_parse_roundtrip.specs.ProgramWords.{HasWords}
use Rattle.ac_parse_roundtrip.specs.GrammarPrograms.{HasNames}
use Rattle.ac_parse_roundtrip.specs.TokenSpelling.{AreSpelled}

abbrev pub TokensAreSpelled : Type 0
TokensAreSpelled = (bytes : List ℕ) (tokens : List Lexeme) → AreTokens bytes tokens → AreSpelled tokens

-- the program of a text of the grammar that breaks no rule
abbrev pub ProgramsHaveNames : Type 0
ProgramsHaveNames = (bytes : List ℕ) (tokens : List Lexeme) (room : ℕ) (file : File) → AreTokens bytes tokens → IsFile room tokens file → file_broken file ≡ None
    → HasWords (program_of file) × HasNames (program_of file)
