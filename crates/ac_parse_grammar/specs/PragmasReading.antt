-- Reading the lines that begin with `#pragma affine`, all a function on lists.
use Rattle.std.specs.Prelude.{ℕ, Bool, true, List, [], if◌then◌else◌}
use Rattle.ac_parse_grammar.specs.declared.terminal.Terminal.{Terminal}
use Rattle.ac_parse_grammar.specs.declared.terminal.Terminal.TheVariants as t
use Rattle.ac_parse_grammar.specs.declared.tree.Word.{Word}
use Rattle.ac_parse_grammar.specs.declared.tree.Pragma.{Pragma}
use Rattle.ac_parse_grammar.specs.declared.tree.Pragma.TheVariants.{Context, Commutative, Output}
use Rattle.ac_parse_grammar.specs.Terminals.{is_name}
use Rattle.ac_parse_grammar.specs.TokenWords.{word_of}
use Rattle.ac_parse_grammar.specs.ReaderCombinators.{Reader, ◌>>=◌, ◌>>◌, pure, refuse, take, by_terminal, is, expect, many, name, peek, front, rest, found, stopped, syntax}
use Rattle.ac_parse_grammar.specs.Conditions.{cond}
use Rattle.ac_parse_grammar.specs.DeclarationsReading.{one_more}

-- the terminals that are symbols: names and the operators of two operands
abbrev pub is_symbol : Terminal → Bool
is_symbol t.Plus = true
is_symbol t.Minus = true
is_symbol t.Star = true
is_symbol t.Slash = true
is_symbol t.Percent = true
is_symbol next = is_name next

unfoldable pub symbol : Reader Word
symbol = λ ts. if is_symbol (peek ts) then found (word_of (front ts)) (rest ts) else stopped syntax ts

-- { symbol }
unfoldable pub symbols : Reader (List Word)
symbols = many is_symbol one_more symbol []

-- { name }
unfoldable pub names : Reader (List Word)
names = many is_name one_more name []

abbrev pub pragma_by : ℕ → Terminal → Reader Pragma
pragma_by room t.Context = take >> (cond room >>= (λ parts. pure (Context parts)))
pragma_by room t.Commutative = take >> (symbols >>= (λ symbols. pure (Commutative symbols)))
pragma_by room t.Output = take >> (names >>= (λ names. pure (Output names)))
pragma_by room _ = refuse

-- what stands between the start and the end of a line
unfoldable pub pragma_inside : ℕ → Reader Pragma
pragma_inside room = by_terminal (pragma_by room)

unfoldable pub pragma : ℕ → Reader Pragma
pragma room = take >> (pragma_inside room >>= (λ line. expect t.PragmaEnd >> pure line))

-- { pragma }
unfoldable pub pragmas : ℕ → Reader (List Pragma)
pragmas room = many (is t.PragmaStart) one_more (pragma room) []
