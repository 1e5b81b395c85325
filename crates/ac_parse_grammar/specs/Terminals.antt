-- Which terminal of the grammar a token is, by its kind and its spelling.
use Rattle.std.specs.Prelude.{ℕ, Bool, true, false, List, [], ◌∷◌, codes, length, nat_le, nat_lt, nat_eq, if◌then◌else◌, ◌&&◌}
use Rattle.std.specs.Cmp.Lexicographic.{pointwise}
use Rattle.ac_lex.specs.Lexemes.{Lexeme}
use Rattle.ac_lex.specs.declared.tokens.TokenKind.{TokenKind}
use Rattle.ac_lex.specs.declared.tokens.TokenKind.TheVariants as token
use Rattle.ac_parse_grammar.specs.declared.terminal.Terminal.{Terminal}
use Rattle.ac_parse_grammar.specs.declared.terminal.Terminal.TheVariants as t

abbrev pub marks : List (List ℕ × Terminal)
marks =
    (codes "(", t.Open) ∷ (codes ")", t.Close) ∷ (codes "[", t.OpenBracket) ∷ (codes "]", t.CloseBracket) ∷ (codes "{", t.OpenBrace)
    ∷ (codes "}", t.CloseBrace) ∷ (codes ",", t.Comma) ∷ (codes ";", t.Semicolon) ∷ (codes "=", t.Becomes) ∷ (codes "+=", t.PlusBecomes)
    ∷ (codes "-=", t.MinusBecomes) ∷ (codes "*=", t.StarBecomes) ∷ (codes "/=", t.SlashBecomes) ∷ (codes "%=", t.PercentBecomes)
    ∷ (codes "+", t.Plus) ∷ (codes "-", t.Minus) ∷ (codes "*", t.Star) ∷ (codes "/", t.Slash) ∷ (codes "%", t.Percent)
    ∷ (codes "++", t.PlusPlus) ∷ (codes "--", t.MinusMinus) ∷ (codes "<", t.Less) ∷ (codes "<=", t.AtMost) ∷ (codes ">", t.Greater)
    ∷ (codes ">=", t.AtLeast) ∷ (codes "==", t.Equal) ∷ (codes "&&", t.And) ∷ []

-- the reserved words of C (ISO/IEC 9899, 6.4.1), those of quotients, and the words of pragma lines
abbrev pub words : List (List ℕ × Terminal)
words =
    (codes "const", t.Const) ∷ (codes "double", t.Double) ∷ (codes "else", t.Else) ∷ (codes "float", t.Float) ∷ (codes "for", t.For)
    ∷ (codes "if", t.If) ∷ (codes "int", t.Int) ∷ (codes "long", t.Long) ∷ (codes "void", t.Void) ∷ (codes "floord", t.Floord)
    ∷ (codes "ceild", t.Ceild) ∷ (codes "context", t.Context)
    ∷ (codes "commutative", t.Commutative) ∷ (codes "output", t.Output)
    ∷ (codes "auto", t.Other) ∷ (codes "break", t.Other) ∷ (codes "case", t.Other) ∷ (codes "char", t.Other) ∷ (codes "continue", t.Other)
    ∷ (codes "default", t.Other) ∷ (codes "do", t.Other) ∷ (codes "enum", t.Other) ∷ (codes "extern", t.Other) ∷ (codes "goto", t.Other)
    ∷ (codes "inline", t.Other) ∷ (codes "register", t.Other) ∷ (codes "restrict", t.Other) ∷ (codes "return", t.Other)
    ∷ (codes "short", t.Other) ∷ (codes "signed", t.Other) ∷ (codes "sizeof", t.Other) ∷ (codes "static", t.Other)
    ∷ (codes "struct", t.Other) ∷ (codes "switch", t.Other) ∷ (codes "typedef", t.Other) ∷ (codes "union", t.Other)
    ∷ (codes "unsigned", t.Other) ∷ (codes "volatile", t.Other) ∷ (codes "while", t.Other) ∷ []

-- the terminal with this spelling in a table, or else the other one
abbrev pub look_up : List (List ℕ × Terminal) → List ℕ → Terminal → Terminal
look_up [] text other = other
look_up (row ∷ rows) text other = if pointwise nat_eq text row.0 then row.1 else look_up rows text other

-- marks, words and decimals have from 1 to 64 bytes
abbrev pub if_spelling : Terminal → List ℕ → Terminal
if_spelling terminal text = if nat_lt 0 (length text) && nat_le (length text) 64 then terminal else t.Other

abbrev pub terminal_by : TokenKind → List ℕ → Terminal
terminal_by token.Mark text = if_spelling (look_up marks text t.Other) text
terminal_by token.Word text = if_spelling (look_up words text t.Name) text
terminal_by token.Number text = t.Number
terminal_by token.Decimal text = if_spelling t.Decimal text
terminal_by token.PragmaStart text = t.PragmaStart
terminal_by token.PragmaEnd text = t.PragmaEnd

unfoldable pub terminal : Lexeme → Terminal
terminal lexeme = terminal_by lexeme.kind lexeme.text

-- the terminals that are names wherever a name may stand
abbrev pub is_name : Terminal → Bool
is_name t.Name = true
is_name t.Context = true
is_name t.Commutative = true
is_name t.Output = true
is_name _ = false

-- the words that begin a quotient
abbrev pub is_rounding : Terminal → Bool
is_rounding t.Floord = true
is_rounding t.Ceild = true
is_rounding _ = false

-- which of the two rounds up
abbrev pub rounds_up : Terminal → Bool
rounds_up t.Ceild = true
rounds_up _ = false
