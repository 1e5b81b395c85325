-- Small integers and their digits.
use Rattle.std.proofs.Common.{◌≡◌, ◌<◌, ◌≤◌, ◌^◌, ℕ, suc, ℤ, pos, negsuc, List, [], ◌∷◌, ◌++◌, take, drop, length, slice_index_or, decimal, FitsSigned, MatchOption, Option, None, Some, Result, Ok, Err, arith, refl, sym, ap, subst, ◌∙◌}
use Rattle.std.specs.Fmt.{signed_decimal}
use Rattle.std.specs.Int.{IsInRange, w128}
use Rattle.std.specs.Str.{IsUtf8}
use Rattle.std.specs.Str.Parse.{ParsesSigned}
use Rattle.std.proofs.lemmas.Fmt.{decimal_is_IsNumeral, parse-signed_decimal, IsAscii-signed, signed_decimal_injective}
use Rattle.std.proofs.lemmas.Int.{fits_signed_from_abs}
use Rattle.std.proofs.lemmas.List.{take-append-drop}
use Rattle.std.proofs.lemmas.Str.{IsUtf8-from_ascii}
use Rattle.std.proofs.lemmas.Str.Parse.{digit_at}
use Rattle.ac_legal_text.specs.Fronts.{IsInk, IsEnd}
use Rattle.ac_legal_text.specs.OrderTexts.{IsSmall}
use Rattle.ac_legal_text.proofs.Texts.{same_word}

below_63 : (n : ℕ) → IsSmall (pos n) → n < 2 ^ 63
below_63 n h = let k : n ≤ 2147483648 = h in omega (arith, k)

below_63_neg : (n : ℕ) → IsSmall (negsuc n) → n < 2 ^ 63
below_63_neg n h = let k : suc n ≤ 2147483648 = h in omega (arith, k)

below_64 : (n : ℕ) → IsSmall (pos n) → n < 2 ^ 64
below_64 n h = let k : n ≤ 2147483648 = h in omega (arith, k)

below_64_neg : (n : ℕ) → IsSmall (negsuc n) → suc n < 2 ^ 64
below_64_neg n h = let k : suc n ≤ 2147483648 = h in omega (arith, k)

small_fits : (z : ℤ) → IsSmall z → FitsSigned w128 z
small_fits z h = fits_signed_from_abs w128 z (omega (arith, h))

pub parsed : {E : Type 0} (z : ℤ) (text : List ℕ) (r : Result ℤ E) → IsSmall z → text ≡ signed_decimal z → ParsesSigned w128 10 text r → r ≡ Ok z
parsed (pos n) text r h e p = parse-signed_decimal w128 (pos n) text r (small_fits (pos n) h) (below_63 n h) e p
parsed (negsuc n) text r h e p = parse-signed_decimal w128 (negsuc n) text r (small_fits (negsuc n) h) (below_63_neg n h) e p

abbrev ok_or_zero : {E : Type 0} → Result ℤ E → ℤ
ok_or_zero (Ok z) = z
ok_or_zero (Err e) = pos 0

pub same_value : {E : Type 0} (y z : ℤ) (r : Result ℤ E) → r ≡ Ok y → r ≡ Ok z → y ≡ z
same_value y z r h k = ap ok_or_zero (sym h ∙ k)

-- of a word for an integer that is not small no small one is spelled
pub only_small : (word : List ℕ) (value : ℤ) → ((y : ℤ) → IsSmall y → word ≡ signed_decimal y → y ≡ value) → ¬ (IsSmall value) → (z : ℤ) → IsSmall z → ¬ (word ≡ signed_decimal z)
only_small word value one large z small e = large (subst IsSmall (one z small e) small)

pub is_text : (z : ℤ) (word : List ℕ) → IsSmall z → word ≡ signed_decimal z → IsUtf8 word
is_text (pos n) word h e = subst IsUtf8 (sym e) (IsUtf8-from_ascii (signed_decimal (pos n)) (IsAscii-signed (pos n) (below_63 n h)))
is_text (negsuc n) word h e = subst IsUtf8 (sym e) (IsUtf8-from_ascii (signed_decimal (negsuc n)) (IsAscii-signed (negsuc n) (below_63_neg n h)))

pub same_small : (y z : ℤ) → IsSmall y → IsSmall z → signed_decimal y ≡ signed_decimal z → y ≡ z
same_small (pos m) (pos n) h k e = signed_decimal_injective (pos m) (pos n) (below_63 m h) (below_63 n k) e
same_small (pos m) (negsuc n) h k e = signed_decimal_injective (pos m) (negsuc n) (below_63 m h) (below_63_neg n k) e
same_small (negsuc m) (pos n) h k e = signed_decimal_injective (negsuc m) (pos n) (below_63_neg m h) (below_63 n k) e
same_small (negsuc m) (negsuc n) h k e = signed_decimal_injective (negsuc m) (negsuc n) (below_63_neg m h) (below_63_neg n k) e

-- ---- digits are above the blank

digits_ink : (ds : List ℕ) → ((k : ℕ) → k < length ds → IsInRange 48 57 (slice_index_or ds k 0)) → IsInk ds
digits_ink [] h = tt
digits_ink (d ∷ ds) h = (let k : IsInRange 48 57 d = h 0 (omega arith) in omega (arith, k.0), digits_ink ds (λ k b. h (suc k) (omega (arith, b))))

pub number_ink : (n : ℕ) → n < 2 ^ 64 → IsInk (decimal n)
number_ink n h = let k = (decimal_is_IsNumeral n h).0 in digits_ink (decimal n) (λ i b. digit_at (decimal n) i k.1 b)

pub small_ink : (z : ℤ) → IsSmall z → IsInk (signed_decimal z)
small_ink (pos n) h = number_ink n (below_64 n h)
small_ink (negsuc n) h = (omega arith, number_ink (suc n) (below_64_neg n h))

-- ---- a number at the front

pub no_number : (text word rest : List ℕ) (n : ℕ) → word ≡ take n text → rest ≡ drop n text → IsInk (take n text) → IsEnd (drop n text) → ((z : ℤ) → IsSmall z → ¬ (word ≡ signed_decimal z))
    → (z : ℤ) (tail : List ℕ) → IsSmall z → IsEnd tail → ¬ (text ≡ signed_decimal z ++ tail)
no_number text word rest n w r ink ends none z tail small end e =
    let both = same_word (take n text) (drop n text) (signed_decimal z) tail ink ends (small_ink z small) end (take-append-drop n text ∙ e) in
    none z small (w ∙ both.0)

pub some_number : (text word rest : List ℕ) (n : ℕ) (z : ℤ) → word ≡ take n text → rest ≡ drop n text → IsEnd (drop n text) → IsSmall z → word ≡ signed_decimal z
    → IsSmall z × IsEnd rest × (text ≡ signed_decimal z ++ rest)
some_number text word rest n z w r ends small e = (small, subst IsEnd (sym r) ends, sym (take-append-drop n text) ∙ (λ i. (sym w ∙ e) i ++ sym r i))

-- a number at the front, and what is behind it, are one
pub same_number : (text : List ℕ) (y z : ℤ) (r s : List ℕ) → IsSmall y → IsEnd r → text ≡ signed_decimal y ++ r → IsSmall z → IsEnd s → text ≡ signed_decimal z ++ s → (y ≡ z) × (r ≡ s)
same_number text y z r s a b e c d f =
    let both = same_word (signed_decimal y) r (signed_decimal z) s (small_ink y a) b (small_ink z c) d (sym e ∙ f) in
    (same_small y z a c both.0, both.1)
