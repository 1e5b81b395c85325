-- A recursion on a count of turns beside a loop that counts up; the statement inside a construct; symbols fit into names.
use Rattle.std.proofs.Common.{◌≡◌, ℕ, suc, ◌+◌, ◌-◌, ◌<◌, ◌≤◌, List, length, refl, sym, subst, ap, arith}
use Rattle.std.specs.Prelude.{true}
use Rattle.ac_lex.specs.Lexemes.{Lexeme, lexeme_of}
use Rattle.ac_lex.specs.declared.tokens.Token.{Token}
use Rattle.ac_parse_grammar.specs.ReaderCombinators.{peek, front}
use Rattle.ac_parse_grammar.specs.StatementsReading.{statement, statement_inside}
use Rattle.ac_parse_grammar.specs.PragmasReading.{is_symbol}
use Rattle.ac_parse_grammar.proofs.Spellings.{Fitting, front_fits}

pub turns : (n at : ℕ) → at < n → n - at ≡ suc (n - (at + 1))
turns n at below = omega arith

-- inside a construct one level is left less
pub inside : (room inner : ℕ) → room ≡ suc inner → statement_inside room ≡ statement inner
unfolding statement_inside statement
inside room inner e = ap statement_inside e

pub symbol_fits : (ts : List Lexeme) (t : Token) → lexeme_of t ≡ front ts → is_symbol (peek ts) ≡ true → (0 < length t.text.now) × (length t.text.now ≤ 64)
symbol_fits ts t same e = subst (λ l. Fitting l.text) (sym same) (front_fits is_symbol refl refl refl refl refl ts e)
