-- Numerals: the run of bytes that a numeral takes, as the preprocessing numbers of C (ISO/IEC 9899, 6.4.8), and the two
-- kinds that a run may be: a whole number, and a decimal constant (6.4.4.2).
use Rattle.std.specs.Prelude.{◌≡◌, ◌≢◌, ◌<◌, ◌⊎◌, ℕ, Bool, true, ◌&&◌, ◌||◌, ◌==◌, List, [], ◌∷◌, ◌++◌, length}
use Rattle.std.specs.List.{AllPass}
use Rattle.ac_lex.specs.Bytes.{is_digit, is_word_byte, is_exponent_letter, is_sign, is_suffix_letter}

-- a run goes on over letters, digits, underscores and points, and over a sign directly after e or E
abbrev pub continues : ℕ → ℕ → Bool
continues before b = is_word_byte b || b == 46 || (is_sign b && is_exponent_letter before)

-- bytes over which a run goes on after the byte before them
pub data GoesOn : ℕ → List ℕ → Type 0 where
  ends : {before : ℕ} → GoesOn before []
  goes : {before b : ℕ} {bytes : List ℕ} → continues before b ≡ true → GoesOn b bytes → GoesOn before (b ∷ bytes)

-- a run begins with a digit, or with a point and a digit
pub data IsRun : List ℕ → Type 0 where
  from_digit : {d : ℕ} {bytes : List ℕ} → is_digit d ≡ true → GoesOn d bytes → IsRun (d ∷ bytes)
  from_point : {d : ℕ} {bytes : List ℕ} → is_digit d ≡ true → GoesOn d bytes → IsRun (46 ∷ d ∷ bytes)

-- a whole number is 0, or digits that don't begin with 0
pub data IsNumber : List ℕ → Type 0 where
  nought : IsNumber (48 ∷ [])
  digits : {d : ℕ} {bytes : List ℕ} → is_digit d ≡ true → d ≢ 48 → AllPass is_digit bytes → IsNumber (d ∷ bytes)

-- an exponent is e or E, an optional sign, and digits
pub data IsExponent : List ℕ → Type 0 where
  unsigned : {e : ℕ} {digits : List ℕ} → is_exponent_letter e ≡ true → 0 < length digits → AllPass is_digit digits → IsExponent (e ∷ digits)
  signed : {e sign : ℕ} {digits : List ℕ} → is_exponent_letter e ≡ true → is_sign sign ≡ true → 0 < length digits → AllPass is_digit digits
      → IsExponent (e ∷ sign ∷ digits)

-- nothing, or one of f, F, l and L
pub data IsSuffix : List ℕ → Type 0 where
  absent : IsSuffix []
  letter : {b : ℕ} → is_suffix_letter b ≡ true → IsSuffix (b ∷ [])

-- a decimal is digits with a point, at least one digit on either side, and an optional exponent, or digits with an
-- exponent, each with an optional suffix
pub data IsDecimal (text : List ℕ) : Type 0 where
  pointed : (whole fraction exponent suffix : List ℕ) → AllPass is_digit whole → AllPass is_digit fraction → 0 < length (whole ++ fraction)
      → (exponent ≡ []) ⊎ IsExponent exponent → IsSuffix suffix → text ≡ whole ++ 46 ∷ (fraction ++ (exponent ++ suffix)) → IsDecimal text
  scaled : (whole exponent suffix : List ℕ) → AllPass is_digit whole → 0 < length whole
      → IsExponent exponent → IsSuffix suffix → text ≡ whole ++ (exponent ++ suffix) → IsDecimal text
