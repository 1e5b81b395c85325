-- What is answered of the tokens of a file: its tree, or the first token with which no file goes on.
use Rattle.std.specs.Prelude.{◌≡◌, ℕ, true, List, [], ◌∷◌, ◌++◌, Result, Ok, Err}
use Rattle.ac_syntax.specs.declared.tree.Place.{Place}
use Rattle.ac_lex.specs.Lexemes.{Lexeme}
use Rattle.ac_parse_grammar.specs.declared.tree.File.{File}
use Rattle.ac_parse_grammar.specs.declared.cursor.Stop.{Stop}
use Rattle.ac_parse_grammar.specs.declared.cursor.Stop.TheVariants as stop
use Rattle.ac_parse_grammar.specs.declared.file.GrammarFault.{GrammarFault}
use Rattle.ac_parse_grammar.specs.declared.file.GrammarFault.TheVariants.{Syntax, Nesting, Memory}
use Rattle.ac_parse_grammar.specs.TokenWords.{place_of}
use Rattle.ac_parse_grammar.specs.ReaderCombinators.{peek, front}
use Rattle.ac_parse_grammar.specs.Found.{CanGoOn, Begins, opens_construct}
use Rattle.ac_parse_grammar.specs.GrammarAnswers.{AtAnyDepth}
use Rattle.ac_parse_grammar.specs.FileGrammar.{IsFile}

-- the place of the first token, or where the file ends if there is none
abbrev pub place_at : ℕ → List Lexeme → Place
place_at end [] = record { at = end }
place_at end (t ∷ ts) = place_of t

-- a file, however deep its constructs nest
abbrev pub IsAnyFile : List Lexeme → File → Type 0
IsAnyFile = AtAnyDepth IsFile

-- The tokens before this place begin some file, also one in which at most so many constructs nest, and no file at all has a token of
-- the same terminal at this place.
pub record HasSyntaxFault (room end : ℕ) (tokens : List Lexeme) (place : Place) : Type 0 where
  pub before : List Lexeme
  pub bad : List Lexeme
  pub cut : tokens ≡ before ++ bad
  pub at : place ≡ place_at end bad
  pub begins : CanGoOn IsAnyFile before
  pub alive : Begins (IsFile room) before
  pub dead : (other : List Lexeme) (file : File) → peek other ≡ peek bad → IsAnyFile (before ++ other) file → ⊥

-- The tokens through the one at this place, a mark that opens a construct, begin some file; those before it begin one in which at most
-- so many constructs nest, and no such file has a token of the same terminal there.
pub record HasNestingFault (room end : ℕ) (tokens : List Lexeme) (place : Place) : Type 0 where
  pub before : List Lexeme
  pub bad : List Lexeme
  pub cut : tokens ≡ before ++ bad
  pub at : place ≡ place_at end bad
  pub opens : opens_construct (peek bad) ≡ true
  pub begins : CanGoOn IsAnyFile (before ++ front bad ∷ [])
  pub alive : Begins (IsFile room) before
  pub dead : (other : List Lexeme) (file : File) → peek other ≡ peek bad → IsFile room (before ++ other) file → ⊥

-- what is answered
abbrev pub IsFileAnswer : ℕ → ℕ → List Lexeme → Result File GrammarFault → Type 0
IsFileAnswer room end tokens (Ok file) = IsFile room tokens file
IsFileAnswer room end tokens (Err (Syntax place)) = HasSyntaxFault room end tokens place
IsFileAnswer room end tokens (Err (Nesting place)) = HasNestingFault room end tokens place
IsFileAnswer room end tokens (Err (Memory fault)) = Unit {0}

-- this file, unless memory fails
abbrev pub IsOnlyFile : File → Result File GrammarFault → Type 0
IsOnlyFile file (Ok found) = found ≡ file
IsOnlyFile file (Err (Syntax place)) = ⊥
IsOnlyFile file (Err (Nesting place)) = ⊥
IsOnlyFile file (Err (Memory fault)) = Unit {0}

-- how a stop is told, with the place where reading stopped
abbrev pub told : Result File Stop → Place → Result File GrammarFault
told (Ok file) place = Ok file
told (Err stop.Syntax) place = Err (Syntax place)
told (Err stop.Nesting) place = Err (Nesting place)
told (Err (stop.Memory fault)) place = Err (Memory fault)
