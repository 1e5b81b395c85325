-- The program of a text.
use Rattle.std.specs.Prelude.{◌≡◌, ◌≤◌, ℕ, List, length, None}
use Rattle.ac_syntax.specs.declared.tree.Program.{Program}
use Rattle.ac_lex.specs.Lexemes.{Lexeme}
use Rattle.ac_lex.specs.Tokens.{AreTokens}
use Rattle.ac_parse_grammar.specs.declared.tree.File.{File}
use Rattle.ac_parse_grammar.specs.FileGrammar.{IsFile}
use Rattle.ac_parse_rules.specs.Files.{file_broken, program_of}

-- at most 65,536 bytes
abbrev pub IsShort : List ℕ → Type 0
IsShort bytes = length bytes ≤ 65536

-- the bytes are tokens, and these are a file of the grammar, in which at most 128 constructs nest
pub record IsText (bytes : List ℕ) (file : File) : Type 0 where
  pub short : IsShort bytes
  pub tokens : List Lexeme
  pub cut : AreTokens bytes tokens
  pub grammar : IsFile 128 tokens file

-- the file of the bytes breaks no rule, and this is its program
pub record IsProgramOf (bytes : List ℕ) (program : Program) : Type 0 where
  pub file : File
  pub text : IsText bytes file
  pub rules : file_broken file ≡ None
  pub is : program ≡ program_of file
