-- Numbers of 128 bits and their digits.
use Rattle.std.proofs.Common.{rules, ◌≡◌, ◌<◌, ◌^◌, ◌⊎◌, ℕ, suc, ℤ, pos, negsuc, List, ◌∷◌, length, slice_index_or, decimal, FitsSigned, MatchOption, Option, None, Some, Result, Ok, arith, lit<, refl, sym, ap, subst, ◌∙◌}
use Rattle.std.specs.Fmt.{signed_decimal}
use Rattle.std.specs.Int.{IsInRange}
use Rattle.std.specs.Str.{IsUtf8}
use Rattle.std.specs.Str.Parse.{ParsesUnsigned, digits_value}
use Rattle.std.proofs.lemmas.Fmt.{decimal_is_IsNumeral_wide, parse-decimal_wide, IsAscii-decimal_wide}
use Rattle.std.proofs.lemmas.Str.{IsUtf8-from_ascii}
use Rattle.std.proofs.lemmas.Str.Parse.{digit_at}
use Rattle.ac_forms.specs.Fits.{Fits}

-- a number of 128 bits has fewer than 64 digits
pub short : (n : ℕ) → n < 2 ^ 128 → n < 10 ^ 64
short n h = let top : 2 ^ 128 < 10 ^ 64 = lit< tt in omega (arith, h, top)

pub of_64 : (n : ℕ) → n < 2 ^ 64 → n < 2 ^ 128
of_64 n h = let top : 2 ^ 64 < 2 ^ 128 = lit< tt in omega (arith, h, top)

pub parsed : {E : Type 0} (n : ℕ) (bs : List ℕ) (r : Result ℕ E) → n < 2 ^ 128 → bs ≡ decimal n → ParsesUnsigned 128 10 bs r → r ≡ Ok n
parsed n bs r h e p = parse-decimal_wide 128 n bs r h (short n h) e p

pub same_number : (m n : ℕ) → m < 2 ^ 128 → n < 2 ^ 128 → decimal m ≡ decimal n → m ≡ n
same_number m n h k e = sym (decimal_is_IsNumeral_wide m (short m h)).1 ∙ (ap (digits_value 10) e ∙ (decimal_is_IsNumeral_wide n (short n k)).1)

pub is_text : (n : ℕ) (bs : List ℕ) → n < 2 ^ 128 → bs ≡ decimal n → IsUtf8 bs
is_text n bs h e = subst IsUtf8 (sym e) (IsUtf8-from_ascii (decimal n) (IsAscii-decimal_wide n (short n h)))

-- digits begin with no minus
pub no_minus : (n : ℕ) (ds : List ℕ) → n < 2 ^ 128 → ¬ (decimal n ≡ 45 ∷ ds)
no_minus n ds h e =
    let k = (decimal_is_IsNumeral_wide n (short n h)).0 in
    let d : IsInRange 48 57 45 = subst (λ (t : List ℕ). IsInRange 48 57 (slice_index_or t 0 0)) e (digit_at (decimal n) 0 k.1 k.0) in
    omega (arith, d.0)

-- an integer without a minus is not negative
pub from_positive : (word : List ℕ) (r : Option ℤ) → ((rest : List ℕ) → ¬ (word ≡ 45 ∷ rest))
    → MatchOption r ((n : ℕ) → Fits (pos n) → ¬ (word ≡ decimal n)) (λ z. word ≡ signed_decimal z)
    → MatchOption r ((z : ℤ) → Fits z → ¬ (word ≡ signed_decimal z)) (λ z. word ≡ signed_decimal z)
from_positive word None plain none = λ z fits e. by_sign z fits e
  where
    by_sign : (z : ℤ) → Fits z → word ≡ signed_decimal z → ⊥
    by_sign (pos n) fits e = none n fits e
    by_sign (negsuc n) fits e = plain (decimal (suc n)) e
from_positive word (Some z) plain found = found

-- and one with a minus is
pub from_negative : (word digits : List ℕ) (r : Option ℤ) → word ≡ 45 ∷ digits
    → MatchOption r ((n : ℕ) → Fits (negsuc n) → ¬ (digits ≡ decimal (suc n))) (λ z. 45 ∷ digits ≡ signed_decimal z)
    → MatchOption r ((z : ℤ) → Fits z → ¬ (word ≡ signed_decimal z)) (λ z. word ≡ signed_decimal z)
from_negative word digits None minus none = λ z fits e. by_sign z fits (sym minus ∙ e)
  where
    by_sign : (z : ℤ) → Fits z → 45 ∷ digits ≡ signed_decimal z → ⊥
    by_sign (pos n) fits e = no_minus n digits (let k : n < 2 ^ 127 = search rules in omega (arith, k)) (sym e)
    by_sign (negsuc n) fits e = none n fits (let tail : digits ≡ decimal (suc n) = cc in tail)
from_negative word digits (Some z) minus found = minus ∙ found

-- a word is one integer
pub same_integer : (y z : ℤ) → Fits y → Fits z → signed_decimal y ≡ signed_decimal z → y ≡ z
same_integer (pos m) (pos n) f g e = ap pos (same_number m n (wide m (search rules)) (wide n (search rules)) e)
  where
    wide : (n : ℕ) → n < 2 ^ 127 → n < 2 ^ 128
    wide n h = omega (arith, h)
same_integer (pos m) (negsuc n) f g e = absurd (no_minus m (decimal (suc n)) (let h : m < 2 ^ 127 = search rules in omega (arith, h)) e)
same_integer (negsuc m) (pos n) f g e = absurd (no_minus n (decimal (suc m)) (let h : n < 2 ^ 127 = search rules in omega (arith, h)) (sym e))
same_integer (negsuc m) (negsuc n) f g e =
    let low : m < 2 ^ 127 = search rules in
    let high : n < 2 ^ 127 = search rules in
    let same : suc m ≡ suc n = same_number (suc m) (suc n) (omega (arith, low)) (omega (arith, high)) (let t : decimal (suc m) ≡ decimal (suc n) = cc in t) in
    ap negsuc (omega (arith, same))
