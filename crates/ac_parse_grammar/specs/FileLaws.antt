-- What the tokens of a file determine.
use Rattle.std.specs.Prelude.{◌≡◌, ℕ, List}
use Rattle.ac_syntax.specs.declared.tree.Place.{Place}
use Rattle.ac_lex.specs.Lexemes.{Lexeme}
use Rattle.ac_parse_grammar.specs.declared.tree.File.{File}
use Rattle.ac_parse_grammar.specs.ReaderCombinators.{Why, syntax, nesting}
use Rattle.ac_parse_grammar.specs.FileGrammar.{IsFile}
use Rattle.ac_parse_grammar.specs.FileAnswers.{IsAnyFile, HasSyntaxFault, HasNestingFault}

-- they have one tree at most, however deep its constructs nest
abbrev pub HasOneTree : Type 0
HasOneTree = (tokens : List Lexeme) (a b : File) → IsAnyFile tokens a → IsAnyFile tokens b → a ≡ b

-- a fault of tokens, by its kind
abbrev pub HasFault : (room end : ℕ) → List Lexeme → Why → Place → Type 0
HasFault room end tokens syntax place = HasSyntaxFault room end tokens place
HasFault room end tokens nesting place = HasNestingFault room end tokens place

-- they have one fault at most, of one kind
abbrev pub HasOneFault : Type 0
HasOneFault = (room end : ℕ) (tokens : List Lexeme) (why why' : Why) (place place' : Place) → HasFault room end tokens why place → HasFault room end tokens why' place' → (why ≡ why') × (place ≡ place')

-- and none that is a file
abbrev pub HasNotBoth : Type 0
HasNotBoth = (room end : ℕ) (tokens : List Lexeme) (file : File) (why : Why) (place : Place) → IsFile room tokens file → HasFault room end tokens why place → ⊥
