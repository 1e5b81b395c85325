-- The places, words and numbers of tokens.
use Rattle.std.specs.Prelude.{ℕ, List, [], ◌∷◌, ◌+◌, ◌*◌, ◌-◌, min}
use Rattle.ac_syntax.specs.declared.tree.Place.{Place}
use Rattle.ac_lex.specs.Lexemes.{Lexeme}
use Rattle.ac_parse_grammar.specs.declared.tree.Word.{Word}
use Rattle.ac_parse_grammar.specs.declared.tree.Numeral.{Numeral}

-- the place of a token is its first byte
abbrev pub place_of : Lexeme → Place
place_of t = record { at = t.at }

abbrev pub word_of : Lexeme → Word
word_of t = record { name = t.text; place = place_of t }

-- the number that digits spell behind digits that spell `front`
abbrev pub spelled : ℕ → List ℕ → ℕ
spelled front [] = front
spelled front (digit ∷ digits) = spelled (10 * front + (digit - 48)) digits

-- a number above 2147483648 counts as 2147483649
abbrev pub numeral_of : Lexeme → Numeral
numeral_of t = record { number = min (spelled 0 t.text) 2147483649; place = place_of t }
