-- The trees of steps, loops, branches and files, from their parts.
use Rattle.std.specs.Prelude.{Bool, List, ◌++◌, None}
use Rattle.ac_lex.specs.Lexemes.{Lexeme}
use Rattle.ac_parse_grammar.specs.declared.statements.LoopHeader.{LoopHeader}
use Rattle.ac_parse_grammar.specs.declared.tree.Word.{Word}
use Rattle.ac_parse_grammar.specs.declared.tree.Part.{Part}
use Rattle.ac_parse_grammar.specs.declared.tree.Step.{Step}
use Rattle.ac_parse_grammar.specs.declared.tree.Statement.{Statement}
use Rattle.ac_parse_grammar.specs.declared.tree.Statement.TheVariants.{Loop, Branch}
use Rattle.ac_parse_grammar.specs.declared.tree.Pragma.{Pragma}
use Rattle.ac_parse_grammar.specs.declared.tree.File.{File}
use Rattle.ac_parse_grammar.specs.declared.file.Function.{Function}
use Rattle.ac_parse_grammar.specs.TokenWords.{place_of}

-- a step of one, at the place of the sign
abbrev pub unit_step : Word → Bool → Lexeme → Step
unit_step target down sign = record { target = target; source = None; down = down; by = record { number = 1; place = place_of sign } }

-- a loop and a branch are placed by their keywords
abbrev pub loop_of : Lexeme → LoopHeader → List Statement → Statement
loop_of keyword header body = Loop header.typed header.name header.start header.cond header.step body (place_of keyword)

abbrev pub branch_of : Lexeme → List Part → List Statement → List Statement → Statement
branch_of keyword cond taken other = Branch cond taken other (place_of keyword)

-- a function, and the pragma lines before and behind it
abbrev pub file_of : List Pragma → Function → List Pragma → File
file_of before function behind = record {
  name = function.name;
  params = function.params;
  locals = function.body.locals;
  body = function.body.statements;
  pragmas = before ++ behind;
}
