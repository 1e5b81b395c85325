-- Words, numerals, marks and blanks where they stand.
use Rattle.std.specs.Prelude.{Bool, true, false, ◌&&◌, nat_le, codes}
use Rattle.std.specs.List.{list_all, AllPass}
use Rattle.std.specs.Fmt.{decimal}
use Rattle.std.proofs.Common.{◌≡◌, ℕ, ◌≤◌, ◌<◌, ◌^◌, List, [], ◌∷◌, ◌++◌, length, refl, sym, subst, arith}
use Rattle.std.proofs.lemmas.Bool.Decides.{nat_tests}
use Rattle.std.proofs.lemmas.List.{append-nil}
use Rattle.std.proofs.lemmas.List.Elements.{All-cons, All-nil}
use Rattle.std.proofs.lemmas.List.Sums.{AllPass-from_list_all}
use Rattle.ac_lex.specs.Bytes.{is_gap, is_letter, is_digit, is_word_byte}
use Rattle.ac_lex.specs.Numerals.{IsDecimal, IsRun, from_digit, from_point}
use Rattle.ac_lex.specs.TextPieces.{IsPiece, named, a_word, a_number, a_decimal, a_mark}
use Rattle.ac_lex.specs.TextPieces as piece
use Rattle.ac_lex.specs.LexerModel.{is_single_mark}
use Rattle.ac_lex.specs.declared.tokens.TokenKind.TheVariants as kind
use Rattle.ac_parse_roundtrip.specs.Items.{token, mark, word, number}
use Rattle.ac_parse_roundtrip.specs.ProgramWords.{IsWord}
use Rattle.ac_parse_roundtrip.proofs.Pieces.{Stops, IsQuiet, is_quiet, name_next, run_next, bracket_next, mark_next, with_equals_next, doubled_next}
use Rattle.ac_parse_roundtrip.proofs.Apart.{Stands}
use Rattle.ac_parse_roundtrip.proofs.Numerals.{decimal_is_number, number_is_run, decimal_is_run}

-- ---- words

-- a fixed word
abbrev pub is_name : List ℕ → Bool
is_name [] = false
is_name (b ∷ bytes) = is_letter b && (list_all is_word_byte bytes && nat_le (length bytes) 63)

pub fixed_word : (text : List ℕ) → is_name text ≡ true → IsWord text
fixed_word [] h = cc
fixed_word (b ∷ bytes) h = by_tests (is_letter b) (list_all is_word_byte bytes) (nat_le (length bytes) 63) refl refl refl h
  where
    low : nat_le (length bytes) 63 ≡ true → length bytes ≤ 63
    low e = grind (arith, nat_tests)

    by_tests : (l a s : Bool) → is_letter b ≡ l → list_all is_word_byte bytes ≡ a → nat_le (length bytes) 63 ≡ s → (l && (a && s)) ≡ true → IsWord (b ∷ bytes)
    by_tests true true true el ea es h = record { is = named el (AllPass-from_list_all is_word_byte bytes ea); short = omega (arith, low es) }
    by_tests true true false el ea es h = cc
    by_tests true false s el ea es h = cc
    by_tests false a s el ea es h = cc

pub word_stands : (text rest : List ℕ) → IsWord text → Stops rest → Stands is_gap (word text) rest
word_stands text rest is stops = (piece.name, name_next rest is.is stops, a_word is.short)

letter_quiet : (b : ℕ) → is_letter b ≡ true → is_quiet b ≡ true
letter_quiet b h = grind (arith, nat_tests)

pub word_quiet : {text : List ℕ} (rest : List ℕ) → IsPiece piece.name text → IsQuiet (text ++ rest)
word_quiet rest (named {b} {bytes} is all) = letter_quiet b is

-- ---- numerals

pub number_stands : (n : ℕ) (rest : List ℕ) → n < 2 ^ 64 → Stops rest → Stands is_gap (number n) rest
number_stands n rest fits stops =
    let is = decimal_is_number n fits in (piece.numeral, run_next rest (number_is_run is) stops, a_number is)

pub constant_stands : (text rest : List ℕ) → IsDecimal text → length text ≤ 64 → Stops rest → Stands is_gap (token kind.Decimal text) rest
constant_stands text rest is short stops = (piece.numeral, run_next rest (decimal_is_run is) stops, a_decimal is short)

digit_quiet : (b : ℕ) → is_digit b ≡ true → is_quiet b ≡ true
digit_quiet b h = grind (arith, nat_tests)

pub run_quiet : {text : List ℕ} (rest : List ℕ) → IsRun text → IsQuiet (text ++ rest)
run_quiet rest (from_digit {d} {bytes} is on) = digit_quiet d is
run_quiet rest (from_point {d} {bytes} is on) = refl

pub number_quiet : (n : ℕ) (rest : List ℕ) → n < 2 ^ 64 → IsQuiet ((decimal n ++ []) ++ rest)
number_quiet n rest fits = subst (λ l. IsQuiet (l ++ rest)) (sym (append-nil (decimal n))) (run_quiet rest (number_is_run (decimal_is_number n fits)))

-- ---- blanks and marks

pub space_stands : AllPass is_gap (codes " ")
space_stands = All-cons (λ b. is_gap b ≡ true) 32 [] refl (All-nil (λ b. is_gap b ≡ true))

pub mark_stands : (a : ℕ) (rest : List ℕ) → is_single_mark a ≡ true → IsQuiet rest → Stands is_gap (mark (a ∷ [])) rest
mark_stands a rest is quiet = (piece.mark, mark_next a rest is quiet, a_mark)

module _ (rest : List ℕ) where
  pub round_opens : Stands is_gap (mark (codes "(")) rest
  round_opens = (piece.mark, bracket_next 40 rest refl refl refl refl, a_mark)

  pub round_closes : Stands is_gap (mark (codes ")")) rest
  round_closes = (piece.mark, bracket_next 41 rest refl refl refl refl, a_mark)

  pub square_opens : Stands is_gap (mark (codes "[")) rest
  square_opens = (piece.mark, bracket_next 91 rest refl refl refl refl, a_mark)

  pub square_closes : Stands is_gap (mark (codes "]")) rest
  square_closes = (piece.mark, bracket_next 93 rest refl refl refl refl, a_mark)

  pub body_opens : Stands is_gap (mark (codes "{")) rest
  body_opens = (piece.mark, bracket_next 123 rest refl refl refl refl, a_mark)

  pub body_closes : Stands is_gap (mark (codes "}")) rest
  body_closes = (piece.mark, bracket_next 125 rest refl refl refl refl, a_mark)

  pub comma_stands : Stands is_gap (mark (codes ",")) rest
  comma_stands = (piece.mark, bracket_next 44 rest refl refl refl refl, a_mark)

  pub semicolon_stands : Stands is_gap (mark (codes ";")) rest
  semicolon_stands = (piece.mark, bracket_next 59 rest refl refl refl refl, a_mark)

  pub at_least_stands : Stands is_gap (mark (codes ">=")) rest
  at_least_stands = (piece.mark, with_equals_next 62 rest refl refl, a_mark)

  pub equals_stands : Stands is_gap (mark (codes "==")) rest
  equals_stands = (piece.mark, with_equals_next 61 rest refl refl, a_mark)

  pub adds_stands : Stands is_gap (mark (codes "+=")) rest
  adds_stands = (piece.mark, with_equals_next 43 rest refl refl, a_mark)

  pub subtracts_stands : Stands is_gap (mark (codes "-=")) rest
  subtracts_stands = (piece.mark, with_equals_next 45 rest refl refl, a_mark)

  pub also_stands : Stands is_gap (mark (codes "&&")) rest
  also_stands = (piece.mark, doubled_next 38 rest refl refl, a_mark)
