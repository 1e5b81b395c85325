-- Words fit into names, and numbers may stop growing at the least one that is too great.
use Rattle.std.specs.Prelude.{min, Bool, true, false, nat_lt, nat_le}
use Rattle.std.proofs.Common.{◌≡◌, ℕ, ◌+◌, ◌*◌, ◌-◌, ◌≤◌, ◌<◌, List, [], ◌∷◌, length, drop, refl, sym, ◌∙◌, ap, subst, arith}
use Rattle.std.proofs.Math.ListN.{drop_of_length-le}
use Rattle.ac_lex.specs.Lexemes.{Lexeme, lexeme_of}
use Rattle.ac_lex.specs.declared.tokens.Token.{Token}
use Rattle.ac_lex.specs.declared.tokens.TokenKind.{TokenKind}
use Rattle.ac_lex.specs.declared.tokens.TokenKind.TheVariants as token
use Rattle.ac_parse_grammar.specs.declared.terminal.Terminal.{Terminal}
use Rattle.ac_parse_grammar.specs.declared.terminal.Terminal.TheVariants as t
use Rattle.ac_parse_grammar.specs.Terminals.{terminal, terminal_by, if_spelling, is_name, look_up, marks, words}
use Rattle.ac_parse_grammar.specs.TokenWords.{spelled}
use Rattle.ac_parse_grammar.specs.ReaderCombinators.{peek, front}

abbrev pub Fitting : List ℕ → Type 0
Fitting text = (0 < length text) × (length text ≤ 64)

-- a terminal that is another one at a text that is too long
fits : (test : Terminal → Bool) → test t.Other ≡ false → (k : Terminal) (text : List ℕ) → test (if_spelling k text) ≡ true → Fitting text
fits test off k text e = by_size (nat_lt 0 (length text)) (nat_le (length text) 64) refl refl
  where
    by_size : (a b : Bool) → nat_lt 0 (length text) ≡ a → nat_le (length text) 64 ≡ b → Fitting text
    by_size true true is at = grind arith
    by_size false b is at = cc (e, off)
    by_size true false is at = cc (e, off)

pub front_fits : (test : Terminal → Bool) → test t.Other ≡ false → test t.Number ≡ false → test t.PragmaStart ≡ false → test t.PragmaEnd ≡ false → test t.End ≡ false
    → (ts : List Lexeme) → test (peek ts) ≡ true → Fitting (front ts).text
unfolding terminal
front_fits test off number starts ends last [] e = cc (e, last)
front_fits test off number starts ends last (l ∷ ts) e = by_kind l.kind e
  where
    by_kind : (kind : TokenKind) → test (terminal_by kind l.text) ≡ true → Fitting l.text
    by_kind token.Mark e = fits test off (look_up marks l.text t.Other) l.text e
    by_kind token.Word e = fits test off (look_up words l.text t.Name) l.text e
    by_kind token.Number e = cc (e, number)
    by_kind token.Decimal e = fits test off t.Decimal l.text e
    by_kind token.PragmaStart e = cc (e, starts)
    by_kind token.PragmaEnd e = cc (e, ends)

pub name_fits : (ts : List Lexeme) (t : Token) → lexeme_of t ≡ front ts → is_name (peek ts) ≡ true → (0 < length t.text.now) × (length t.text.now ≤ 64)
name_fits ts t same e = subst (λ l. Fitting l.text) (sym same) (front_fits is_name refl refl refl refl refl ts e)

is_decimal : Terminal → Bool
is_decimal t.Decimal = true
is_decimal _ = false

pub decimal_fits : (ts : List Lexeme) (token : Token) → lexeme_of token ≡ front ts → peek ts ≡ t.Decimal → (0 < length token.text.now) × (length token.text.now ≤ 64)
unfolding is_decimal
decimal_fits ts token same e = subst (λ l. Fitting l.text) (sym same) (front_fits is_decimal refl refl refl refl refl ts (ap is_decimal e))

great : (text : List ℕ) (front : ℕ) → 2147483649 ≤ front → 2147483649 ≤ spelled front text
great [] front e = e
great (digit ∷ digits) front e = great digits (10 * front + (digit - 48)) (omega arith)

next_digit : (digit : ℕ) (digits : List ℕ) (front : ℕ)
    → min (spelled (min (10 * front + (digit - 48)) 2147483649) digits) 2147483649 ≡ min (spelled front (digit ∷ digits)) 2147483649
next_digit digit digits front = by_size (nat_le (10 * front + (digit - 48)) 2147483649) refl
  where
    next : ℕ
    next = 10 * front + (digit - 48)

    by_size : (b : Bool) → nat_le next 2147483649 ≡ b → min (spelled (min next 2147483649) digits) 2147483649 ≡ min (spelled next digits) 2147483649
    by_size true is = let small : next ≤ 2147483649 = grind arith in let same : min next 2147483649 ≡ next = grind arith in ap (λ n. min (spelled n digits) 2147483649) same
    by_size false is =
        let big : 2147483649 ≤ next = grind arith in
        let same : min next 2147483649 ≡ 2147483649 = grind arith in
        let a : 2147483649 ≤ spelled (min next 2147483649) digits = great digits (min next 2147483649) (grind arith) in
        let b : 2147483649 ≤ spelled next digits = great digits next big in
        let c : min (spelled (min next 2147483649) digits) 2147483649 ≡ 2147483649 = grind arith in
        let d : min (spelled next digits) 2147483649 ≡ 2147483649 = grind arith in
        c ∙ sym d

abbrev pub clamped : ℕ → List ℕ → ℕ
clamped number [] = number
clamped number (digit ∷ digits) = clamped (min (10 * number + (digit - 48)) 2147483649) digits

clamped_is : (digits : List ℕ) (number : ℕ) → number ≤ 2147483649 → clamped number digits ≡ min (spelled number digits) 2147483649
clamped_is [] number small = grind arith
clamped_is (digit ∷ digits) number small =
    clamped_is digits (min (10 * number + (digit - 48)) 2147483649) (grind arith) ∙ next_digit digit digits number

pub all_read : (text : List ℕ) (at number : ℕ) → clamped number (drop at text) ≡ clamped 0 text → length text ≤ at → number ≡ min (spelled 0 text) 2147483649
all_read text at number same end = ap (clamped number) (sym (drop_of_length-le text end)) ∙ same ∙ clamped_is text 0 (omega arith)
