-- Decimal numbers and decimal constants are runs.
use Rattle.std.specs.Prelude.{Bool, true, false, ◌&&◌, ◌||◌, ◌==◌, codes}
use Rattle.std.specs.List.{AllPass}
use Rattle.std.specs.Fmt.{decimal}
use Rattle.std.specs.Str.Parse.{AllDigits}
use Rattle.std.proofs.Common.{◌≡◌, ℕ, zero, suc, ◌≤◌, ◌<◌, ◌^◌, List, [], ◌∷◌, ◌++◌, length, get_or, refl, sym, subst, arith, ◌⊎◌, inl, inr}
use Rattle.std.proofs.lemmas.Bool.Decides.{nat_tests}
use Rattle.std.proofs.lemmas.List.Elements.{All-head, All-tail, All-cons, All-nil}
use Rattle.std.proofs.lemmas.Fmt.{decimal_digit, decimal_is_IsNumeral, first_decimal}
use Rattle.std.proofs.lemmas.Str.Parse.{digit_from_value}
use Rattle.ac_lex.specs.Bytes.{is_digit, is_word_byte, is_exponent_letter, is_suffix_letter, is_sign}
use Rattle.ac_lex.specs.Numerals.{continues, GoesOn, ends, goes, IsRun, from_digit, from_point, IsNumber, nought, digits, IsExponent, unsigned, signed, IsSuffix, absent, letter, IsDecimal, pointed, scaled}
use Rattle.ac_lex.proofs.Classes.{one_of_all}

-- a run goes on over these bytes after any
abbrev AnyGoes : List ℕ → Type 0
AnyGoes bytes = (before : ℕ) → GoesOn before bytes

word_goes : (before b : ℕ) → is_word_byte b ≡ true → continues before b ≡ true
word_goes before b is = subst (λ w. (w || b == 46 || (is_sign b && is_exponent_letter before)) ≡ true) (sym is) refl

digit_word : (b : ℕ) → is_digit b ≡ true → is_word_byte b ≡ true
digit_word b h = grind (arith, nat_tests)

digits_go : (ds : List ℕ) → AllPass is_digit ds → AnyGoes ds
digits_go [] all before = ends
digits_go (d ∷ ds) all before =
    goes (word_goes before d (digit_word d (All-head (λ b. is_digit b ≡ true) d ds all))) (digits_go ds (All-tail (λ b. is_digit b ≡ true) d ds all) d)

go_append : {before : ℕ} {xs : List ℕ} (ys : List ℕ) → GoesOn before xs → AnyGoes ys → GoesOn before (xs ++ ys)
go_append ys (ends {before}) more = more before
go_append ys (goes on rest) more = goes on (go_append ys rest more)

-- ---- whole numbers

all_digits : (ds : List ℕ) → AllDigits 10 ds → AllPass is_digit ds
all_digits [] all = All-nil (λ b. is_digit b ≡ true)
all_digits (d ∷ ds) all = All-cons (λ b. is_digit b ≡ true) d ds (in_range d (digit_from_value d all.0)) (all_digits ds all.1)
  where
    in_range : (d : ℕ) → (48 ≤ d) × (d ≤ 57) → is_digit d ≡ true
    in_range d h = grind (arith, nat_tests)

number_by : (text : List ℕ) → 0 < length text → AllPass is_digit text → 48 < get_or text 0 0 → IsNumber text
number_by [] some all first = absurd (omega arith)
number_by (d ∷ ds) some all first =
    digits (All-head (λ b. is_digit b ≡ true) d ds all) (λ e. omega (arith, e, first)) (All-tail (λ b. is_digit b ≡ true) d ds all)

pub decimal_is_number : (n : ℕ) → n < 2 ^ 64 → IsNumber (decimal n)
decimal_is_number zero fits = subst IsNumber (sym (decimal_digit 0 (omega arith))) nought
decimal_is_number (suc n) fits =
    let numeral = decimal_is_IsNumeral (suc n) fits in
    number_by (decimal (suc n)) numeral.0.0 (all_digits (decimal (suc n)) numeral.0.1) (first_decimal (suc n) (omega arith) fits)

pub number_is_run : {text : List ℕ} → IsNumber text → IsRun text
number_is_run nought = from_digit refl ends
number_is_run (digits {d} {bytes} is not_nought all) = from_digit is (digits_go bytes all d)

-- ---- decimal constants

exponent_word : (b : ℕ) → is_exponent_letter b ≡ true → is_word_byte b ≡ true
exponent_word b is = one_of_all is_word_byte (codes "eE") b is refl

suffix_word : (b : ℕ) → is_suffix_letter b ≡ true → is_word_byte b ≡ true
suffix_word b is = one_of_all is_word_byte (codes "fFlL") b is refl

sign_goes : (e b : ℕ) → is_exponent_letter e ≡ true → is_sign b ≡ true → continues e b ≡ true
sign_goes e b first is =
    subst (λ x. (is_word_byte b || b == 46 || (is_sign b && x)) ≡ true) (sym first)
    (subst (λ s. (is_word_byte b || b == 46 || (s && true)) ≡ true) (sym is) (any (is_word_byte b) (b == 46)))
  where
    any : (w p : Bool) → (w || p || true) ≡ true
    any true p = refl
    any false true = refl
    any false false = refl

exponent_goes : {text : List ℕ} → IsExponent text → AnyGoes text
exponent_goes (unsigned {e} {digits = ds} is count all) before = goes (word_goes before e (exponent_word e is)) (digits_go ds all e)
exponent_goes (signed {e} {sign} {digits = ds} is sg count all) before =
    goes (word_goes before e (exponent_word e is)) (goes (sign_goes e sign is sg) (digits_go ds all sign))

suffix_goes : {text : List ℕ} → IsSuffix text → AnyGoes text
suffix_goes absent before = ends
suffix_goes (letter {b} is) before = goes (word_goes before b (suffix_word b is)) ends

tail_goes : (exponent suffix : List ℕ) → (exponent ≡ []) ⊎ IsExponent exponent → IsSuffix suffix → AnyGoes (exponent ++ suffix)
tail_goes exponent suffix (inl e) s before = subst (λ l. GoesOn before (l ++ suffix)) (sym e) (suffix_goes s before)
tail_goes exponent suffix (inr is) s before = go_append suffix (exponent_goes is before) (suffix_goes s)

pointed_run : (whole fraction tail : List ℕ) → AllPass is_digit whole → AllPass is_digit fraction → 0 < length (whole ++ fraction) → AnyGoes tail → IsRun (whole ++ 46 ∷ (fraction ++ tail))
pointed_run [] [] tail allw allf count go = absurd (omega arith)
pointed_run [] (f ∷ fs) tail allw allf count go =
    from_point (All-head (λ b. is_digit b ≡ true) f fs allf) (go_append tail (digits_go fs (All-tail (λ b. is_digit b ≡ true) f fs allf) f) go)
pointed_run (d ∷ ds) fraction tail allw allf count go =
    from_digit (All-head (λ b. is_digit b ≡ true) d ds allw)
    (go_append (46 ∷ (fraction ++ tail)) (digits_go ds (All-tail (λ b. is_digit b ≡ true) d ds allw) d) (λ before. goes refl (go_append tail (digits_go fraction allf 46) go)))

scaled_run : (whole tail : List ℕ) → AllPass is_digit whole → 0 < length whole → AnyGoes tail → IsRun (whole ++ tail)
scaled_run [] tail allw count go = absurd (omega arith)
scaled_run (d ∷ ds) tail allw count go =
    from_digit (All-head (λ b. is_digit b ≡ true) d ds allw) (go_append tail (digits_go ds (All-tail (λ b. is_digit b ≡ true) d ds allw) d) go)

pub decimal_is_run : {text : List ℕ} → IsDecimal text → IsRun text
decimal_is_run (pointed whole fraction exponent suffix allw allf count ex s e) =
    subst IsRun (sym e) (pointed_run whole fraction (exponent ++ suffix) allw allf count (tail_goes exponent suffix ex s))
decimal_is_run (scaled whole exponent suffix allw count ex s e) =
    subst IsRun (sym e) (scaled_run whole (exponent ++ suffix) allw count (tail_goes exponent suffix (inr ex) s))
