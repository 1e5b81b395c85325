-- What tokens that are spelled as their kinds say are where the grammar takes a name, a decimal or a symbol.
use Rattle.std.specs.Prelude.{Bool, true, false, not, ◌&&◌, ◌||◌, ◌==◌, nat_eq, nat_le, nat_lt, codes, if◌then◌else◌}
use Rattle.std.specs.List.{AllByRecursion, list_all, list_any}
use Rattle.std.specs.Cmp.Lexicographic.{pointwise}
use Rattle.std.proofs.Common.{◌≡◌, inl, inr, ℕ, ◌≤◌, ◌<◌, List, [], ◌∷◌, ◌++◌, length, get_or, refl, sym, ◌∙◌, ap, subst, arith}
use Rattle.std.proofs.lemmas.Bool.Decides.{nat_tests, Decides-eqb}
use Rattle.std.proofs.lemmas.Slice.Eq.{slice_eq-Decides}
use Rattle.ac_syntax.specs.Text.{is_operator, is_decimal}
use Rattle.ac_lex.specs.declared.tokens.TokenKind.{TokenKind}
use Rattle.ac_lex.specs.declared.tokens.TokenKind.TheVariants as token
use Rattle.ac_lex.specs.Bytes.{is_letter, is_digit}
use Rattle.ac_lex.specs.Numerals.{IsDecimal, pointed, scaled}
use Rattle.ac_lex.specs.Lexemes.{Lexeme}
use Rattle.ac_lex.specs.TextPieces.{IsPiece, name, named}
use Rattle.ac_parse_grammar.specs.declared.terminal.Terminal.{Terminal}
use Rattle.ac_parse_grammar.specs.declared.terminal.Terminal.TheVariants as t
use Rattle.ac_parse_grammar.specs.declared.tree.Operator.TheVariants.{Add, Subtract, Multiply, Divide, Remainder}
use Rattle.ac_parse_grammar.specs.Terminals.{marks, words, look_up, if_spelling, terminal_by, terminal, is_name}
use Rattle.ac_parse_grammar.specs.PragmasReading.{is_symbol}
use Rattle.ac_parse_exprs.proofs.Absent.{both_true}
use Rattle.ac_parse_roundtrip.specs.ProgramWords.{IsWord, IsCommutative, called, operated}
use Rattle.ac_parse_roundtrip.specs.ProgramWords as operator
use Rattle.ac_parse_roundtrip.specs.GrammarPrograms.{IsName, IsSymbolName}
use Rattle.ac_parse_roundtrip.specs.TokenSpelling.{IsSpelledAs, IsSpelled}

-- ---- terminals that no spelling has

true_is_false : {X : Type 0} → true ≡ false → X
true_is_false e = absurd cc

not_both : {X : Type 0} (b : Bool) → not b ≡ true → b ≡ true → X
not_both true h k = absurd cc
not_both false h k = absurd cc

-- what holds of each terminal of a table holds of the one of a text
looked_up : (p : Terminal → Bool) (rows : List (List ℕ × Terminal)) (text : List ℕ) (default : Terminal)
    → list_all (λ (row : List ℕ × Terminal). p row.1) rows ≡ true → p default ≡ true → p (look_up rows text default) ≡ true
looked_up p [] text default all h = h
looked_up p (row ∷ rows) text default all h =
    let b = both_true (p row.1) (list_all (λ (row : List ℕ × Terminal). p row.1) rows) all in by (pointwise nat_eq text row.0) b.0 (looked_up p rows text default b.1 h)
  where
    by : (b : Bool) → p row.1 ≡ true → p (look_up rows text default) ≡ true → p (if b then row.1 else look_up rows text default) ≡ true
    by true here later = here
    by false here later = later

spelling_has : (p : Terminal → Bool) (k : Terminal) (text : List ℕ) → p k ≡ true → p t.Other ≡ true → p (if_spelling k text) ≡ true
spelling_has p k text h o = by (nat_lt 0 (length text) && nat_le (length text) 64)
  where
    by : (b : Bool) → p (if b then k else t.Other) ≡ true
    by true = h
    by false = o

module _ (p : Terminal → Bool) where
  mark_has : (text : List ℕ) → list_all (λ (row : List ℕ × Terminal). p row.1) marks ≡ true → p t.Other ≡ true → p (terminal_by token.Mark text) ≡ true
  mark_has text all o = spelling_has p (look_up marks text t.Other) text (looked_up p marks text t.Other all o) o

  word_has : (text : List ℕ) → list_all (λ (row : List ℕ × Terminal). p row.1) words ≡ true → p t.Name ≡ true → p t.Other ≡ true → p (terminal_by token.Word text) ≡ true
  word_has text all n o = spelling_has p (look_up words text t.Name) text (looked_up p words text t.Name all n) o

-- ---- names

-- a word that the grammar takes as a name
pub record IsNamed (text : List ℕ) : Type 0 where
  pub word : IsWord text
  pub name : IsName text

abbrev no_name : Terminal → Bool
no_name k = not (is_name k)

named_by : (kind : TokenKind) (text : List ℕ) → IsSpelledAs kind text → is_name (terminal_by kind text) ≡ true → IsNamed text
named_by token.Word text is h = record { word = is; name = h }
named_by token.Number text is h = true_is_false (sym h)
named_by token.Decimal text is h = not_both (is_name (terminal_by token.Decimal text)) (spelling_has no_name t.Decimal text refl refl) h
named_by token.Mark text is h = not_both (is_name (terminal_by token.Mark text)) (mark_has no_name text refl refl) h
named_by token.PragmaStart text is h = true_is_false (sym h)
named_by token.PragmaEnd text is h = true_is_false (sym h)

pub is_named : (n : Lexeme) → IsSpelled n → is_name (terminal n) ≡ true → IsNamed n.text
unfolding terminal
is_named n is h = named_by n.kind n.text is h

-- ---- decimals

-- a decimal constant that the grammar takes
pub record IsConstant (text : List ℕ) : Type 0 where
  pub decimal : IsDecimal text
  pub short : length text ≤ 64
  pub terminal : terminal_by token.Decimal text ≡ t.Decimal

abbrev is_constant : Terminal → Bool
is_constant t.Decimal = true
is_constant _ = false

abbrev no_constant : Terminal → Bool
no_constant k = not (is_constant k)

constant_by : (kind : TokenKind) (text : List ℕ) → IsSpelledAs kind text → terminal_by kind text ≡ t.Decimal → IsConstant text
constant_by token.Word text is h = not_both (is_constant (terminal_by token.Word text)) (word_has no_constant text refl refl refl) (ap is_constant h)
constant_by token.Number text is h = true_is_false (sym (ap is_constant h))
constant_by token.Decimal text is h = record { decimal = is.0; short = is.1; terminal = h }
constant_by token.Mark text is h = not_both (is_constant (terminal_by token.Mark text)) (mark_has no_constant text refl refl) (ap is_constant h)
constant_by token.PragmaStart text is h = true_is_false (sym (ap is_constant h))
constant_by token.PragmaEnd text is h = true_is_false (sym (ap is_constant h))

pub constant_is : (n : Lexeme) → IsSpelled n → terminal n ≡ t.Decimal → IsConstant n.text
unfolding terminal
constant_is n is h = constant_by n.kind n.text is h

-- ---- what is told by the first byte

letter_first : (b : ℕ) → is_letter b ≡ true → (is_operator (b ∷ []) ≡ false) × (is_decimal (b ∷ []) ≡ false)
letter_first b h = (grind (arith, nat_tests), grind (arith, nat_tests))

piece_first : {text : List ℕ} → IsPiece name text → (is_operator text ≡ false) × (is_decimal text ≡ false)
piece_first (named {b} is all) = letter_first b is

pub word_first : (text : List ℕ) → IsWord text → (is_operator text ≡ false) × (is_decimal text ≡ false)
word_first text word = piece_first word.is

or_digit : (b : ℕ) (test : Bool) → is_digit b ≡ true → (test || is_digit b) ≡ true
or_digit b true h = refl
or_digit b false h = h

digits_first : (whole rest : List ℕ) → is_decimal rest ≡ true → ((k d : ℕ) → k < length whole → is_digit (get_or whole k d) ≡ true) → is_decimal (whole ++ rest) ≡ true
digits_first [] rest h all = h
digits_first (d ∷ whole) rest h all = or_digit d (d == 46) (all 0 0 (omega arith))

some_digits_first : (whole rest : List ℕ) → 0 < length whole → ((k d : ℕ) → k < length whole → is_digit (get_or whole k d) ≡ true) → is_decimal (whole ++ rest) ≡ true
some_digits_first [] rest h all = absurd (omega (arith, h))
some_digits_first (d ∷ whole) rest h all = or_digit d (d == 46) (all 0 0 (omega arith))

pub decimal_first : (text : List ℕ) → IsDecimal text → is_decimal text ≡ true
decimal_first text (pointed whole fraction exponent suffix digits _ _ _ _ is) = ap is_decimal is ∙ digits_first whole (46 ∷ (fraction ++ (exponent ++ suffix))) refl digits
decimal_first text (scaled whole exponent suffix digits some _ _ is) = ap is_decimal is ∙ some_digits_first whole (exponent ++ suffix) some digits

-- ---- symbols

-- a name, or an operator of two operands
pub record IsNamedSymbol (text : List ℕ) : Type 0 where
  pub commutative : IsCommutative text
  pub name : IsSymbolName text

pub named_symbol : (text : List ℕ) → IsNamed text → IsNamedSymbol text
named_symbol text is = record { commutative = called is.word; name = inr ((word_first text is.word).0, is.name) }

abbrev signs : List (List ℕ)
signs = codes "+" ∷ codes "-" ∷ codes "*" ∷ codes "/" ∷ codes "%" ∷ []

each_sign : (P : List ℕ → Type 0) (texts : List (List ℕ)) (text : List ℕ) → list_any (pointwise nat_eq text) texts ≡ true → AllByRecursion P texts → P text
each_sign P [] text h all = true_is_false (sym h)
each_sign P (s ∷ texts) text h all = by (pointwise nat_eq text s) refl h (λ k. each_sign P texts text k all.1)
  where
    by : (b : Bool) → b ≡ pointwise nat_eq text s → (b || list_any (pointwise nat_eq text) texts) ≡ true → (list_any (pointwise nat_eq text) texts ≡ true → P text) → P text
    by true e h later = subst P (sym ((slice_eq-Decides Decides-eqb text s true e).0 refl)) all.0
    by false e h later = later h

sign_named : (text : List ℕ) → list_any (pointwise nat_eq text) signs ≡ true → IsNamedSymbol text
sign_named text h = each_sign IsNamedSymbol signs text h (
  record { commutative = operated (operator.sign refl); name = inl (Add, refl) },
  (
    record { commutative = operated (operator.sign refl); name = inl (Subtract, refl) },
    (
      record { commutative = operated (operator.sign refl); name = inl (Multiply, refl) },
      (
        record { commutative = operated (operator.sign refl); name = inl (Divide, refl) },
        (record { commutative = operated (operator.sign refl); name = inl (Remainder, refl) }, tt),
      ),
    ),
  ),
)

-- a mark of a table that is a symbol is one of the signs
abbrev is_signed : List ℕ × Terminal → Bool
is_signed row = not (is_symbol row.1) || list_any (pointwise nat_eq row.0) signs

of_signed : (b c : Bool) → (not b || c) ≡ true → b ≡ true → c ≡ true
of_signed true c h k = h
of_signed false c h k = absurd cc

sign_found : (rows : List (List ℕ × Terminal)) (text : List ℕ) → list_all is_signed rows ≡ true → is_symbol (look_up rows text t.Other) ≡ true → list_any (pointwise nat_eq text) signs ≡ true
sign_found [] text all h = true_is_false (sym h)
sign_found (row ∷ rows) text all h =
    let b = both_true (is_signed row) (list_all is_signed rows) all in by (pointwise nat_eq text row.0) refl b.0 (sign_found rows text b.1) h
  where
    by : (b : Bool) → b ≡ pointwise nat_eq text row.0 → is_signed row ≡ true → (is_symbol (look_up rows text t.Other) ≡ true → list_any (pointwise nat_eq text) signs ≡ true)
        → is_symbol (if b then row.1 else look_up rows text t.Other) ≡ true → list_any (pointwise nat_eq text) signs ≡ true
    by true e here later h =
        subst (λ s. list_any (pointwise nat_eq s) signs ≡ true) (sym ((slice_eq-Decides Decides-eqb text row.0 true e).0 refl)) (of_signed (is_symbol row.1) (list_any (pointwise nat_eq row.0) signs) here h)
    by false e here later h = later h

symbol_spelled : (k : Terminal) (text : List ℕ) → is_symbol (if_spelling k text) ≡ true → is_symbol k ≡ true
symbol_spelled k text = by (nat_lt 0 (length text) && nat_le (length text) 64)
  where
    by : (b : Bool) → is_symbol (if b then k else t.Other) ≡ true → is_symbol k ≡ true
    by true h = h
    by false h = true_is_false (sym h)

-- a word that is a symbol is a name
abbrev is_name_or_none : Terminal → Bool
is_name_or_none k = not (is_symbol k) || is_name k

symbol_by : (kind : TokenKind) (text : List ℕ) → IsSpelledAs kind text → is_symbol (terminal_by kind text) ≡ true → IsNamedSymbol text
symbol_by token.Word text is h =
    named_symbol text (named_by token.Word text is (of_signed (is_symbol (terminal_by token.Word text)) (is_name (terminal_by token.Word text)) (word_has is_name_or_none text refl refl refl) h))
symbol_by token.Number text is h = true_is_false (sym h)
symbol_by token.Decimal text is h = true_is_false (sym (symbol_spelled t.Decimal text h))
symbol_by token.Mark text is h = sign_named text (sign_found marks text refl (symbol_spelled (look_up marks text t.Other) text h))
symbol_by token.PragmaStart text is h = true_is_false (sym h)
symbol_by token.PragmaEnd text is h = true_is_false (sym h)

pub symbol_named : (n : Lexeme) → IsSpelled n → is_symbol (terminal n) ≡ true → IsNamedSymbol n.text
unfolding terminal
symbol_named n is h = symbol_by n.kind n.text is h
