-- Tokens as plain data: kind, place and text.
use Rattle.std.specs.Prelude.{ℕ, List, Vec, map}
use Rattle.std.specs.declared.alloc.Global.{Global}
use Rattle.ac_lex.specs.declared.tokens.TokenKind.{TokenKind}
use Rattle.ac_lex.specs.declared.tokens.Token.{Token}

pub record Lexeme : Type 0 where
  pub kind : TokenKind
  pub at : ℕ
  pub text : List ℕ

abbrev pub lexeme_of : Token → Lexeme
lexeme_of token = record { kind = token.kind; at = token.at; text = token.text.now }

abbrev pub lexemes : Vec Token Global → List Lexeme
lexemes tokens = map lexeme_of tokens.items
