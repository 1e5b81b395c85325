-- The code's tests of numbers and decimals decide what the definitions say.
use Rattle.std.specs.Prelude.{Bool, true, false, cond, not, ◌&&◌, ◌||◌, nat_lt, ◌==◌, codes}
use Rattle.std.specs.List.{prefix_len, AllPass, list_all}
use Rattle.std.proofs.Common.{◌≡◌, ℕ, zero, suc, ◌+◌, ◌<◌, List, [], ◌∷◌, ◌++◌, length, take, drop, refl, sym, ◌∙◌, ap, subst, arith, length-append, ◌⊎◌, inl, inr}
use Rattle.std.proofs.lemmas.Bool.Decides.{Decides-eqb, nat_tests}
use Rattle.std.proofs.lemmas.List.Elements.{All-head, All-tail, All-cons, All-nil}
use Rattle.std.proofs.lemmas.List.Sums.{AllPass-from_list_all, list_all-from_AllPass}
use Rattle.std.proofs.Math.Seq.{drop-append_seam}
use Rattle.ac_lex.proofs.Lists.{take_drop, prefix_exact, prefix_passes, length_take_prefix}
use Rattle.ac_lex.proofs.Classes.{one_of_all}
use Rattle.ac_lex.specs.Bytes.{is_digit, is_sign, is_exponent_letter, is_suffix_letter}
use Rattle.ac_lex.specs.Numerals.{IsNumber, nought, digits, IsExponent, unsigned, signed, IsSuffix, absent, letter, IsDecimal, pointed, scaled}
use Rattle.ac_lex.specs.LexerModel.{digit_count, after_digits, is_suffix, ends_in_digits, past_sign, ends_in_exponent, ends_in_fraction, is_decimal_after, is_decimal, is_number}

both : (x y : Bool) → (x && y) ≡ true → (x ≡ true) × (y ≡ true)
both true true h = (refl, refl)
both true false h = cc
both false y h = cc

joined : (x y : Bool) → x ≡ true → y ≡ true → (x && y) ≡ true
joined true true h k = refl
joined true false h k = cc
joined false y h k = cc

either : (x y : Bool) → (x || y) ≡ true → (x ≡ true) ⊎ (y ≡ true)
either true y h = inl refl
either false y h = inr h

left : (x y : Bool) → x ≡ true → (x || y) ≡ true
left true y h = refl
left false y h = cc

right : (x y : Bool) → y ≡ true → (x || y) ≡ true
right true y h = refl
right false y h = h

no : (x : Bool) → not x ≡ true → x ≡ false
no true h = cc
no false h = refl

some : (n : ℕ) → 0 < n → nat_lt 0 n ≡ true
some n h = grind (arith, nat_tests)

some_back : (n : ℕ) → nat_lt 0 n ≡ true → 0 < n
some_back n h = grind (arith, nat_tests)

-- bytes that are not digits
letter_no_digit : (b : ℕ) → is_exponent_letter b ≡ true → is_digit b ≡ false
letter_no_digit b h = no (is_digit b) (one_of_all (λ c. not (is_digit c)) (codes "eE") b h refl)

letter_no_point : (b : ℕ) → is_exponent_letter b ≡ true → (b == 46) ≡ false
letter_no_point b h = no (b == 46) (one_of_all (λ c. not (c == 46)) (codes "eE") b h refl)

sign_no_digit : (b : ℕ) → is_sign b ≡ true → is_digit b ≡ false
sign_no_digit b h = no (is_digit b) (one_of_all (λ c. not (is_digit c)) (codes "+-") b h refl)

suffix_no_digit : (b : ℕ) → is_suffix_letter b ≡ true → is_digit b ≡ false
suffix_no_digit b h = no (is_digit b) (one_of_all (λ c. not (is_digit c)) (codes "fFlL") b h refl)

digit_no_sign : (b : ℕ) → is_digit b ≡ true → is_sign b ≡ false
digit_no_sign b h = by_test (is_sign b) refl
  where
    by_test : (t : Bool) → is_sign b ≡ t → t ≡ false
    by_test true is = cc (h, sign_no_digit b is)
    by_test false is = refl

no_digits : (b : ℕ) (bytes : List ℕ) → is_digit b ≡ false → prefix_len is_digit (b ∷ bytes) ≡ 0
no_digits b bytes h = subst (λ t. cond t (1 + prefix_len is_digit bytes) 0 ≡ 0) (sym h) refl

suffix_stops : (suffix : List ℕ) → IsSuffix suffix → prefix_len is_digit suffix ≡ 0
suffix_stops _ absent = refl
suffix_stops _ (letter {b} is) = no_digits b [] (suffix_no_digit b is)

exponent_stops : (exponent rest : List ℕ) → IsExponent exponent → prefix_len is_digit (exponent ++ rest) ≡ 0
exponent_stops _ rest (unsigned {e} {digits = ds} is count all) = no_digits e (ds ++ rest) (letter_no_digit e is)
exponent_stops _ rest (signed {e} {sign} {digits = ds} is s count all) = no_digits e (sign ∷ (ds ++ rest)) (letter_no_digit e is)

-- digits and what stops them
module _ (front rest : List ℕ) (all : AllPass is_digit front) (stop : prefix_len is_digit rest ≡ 0) where
  count_of_digits : digit_count (front ++ rest) ≡ length front
  unfolding digit_count
  count_of_digits = prefix_exact is_digit front rest all stop

  rest_of_digits : after_digits (front ++ rest) ≡ rest
  unfolding after_digits
  rest_of_digits = ap (λ n. drop n (front ++ rest)) count_of_digits ∙ drop-append_seam front rest

suffix_yes : (bytes : List ℕ) → is_suffix bytes ≡ true → IsSuffix bytes
suffix_yes [] h = absent
suffix_yes (b ∷ []) h = letter h
suffix_yes (b ∷ c ∷ bytes) h = cc

suffix_back : (bytes : List ℕ) → IsSuffix bytes → is_suffix bytes ≡ true
suffix_back _ absent = refl
suffix_back _ (letter is) = is

front_digits : List ℕ → List ℕ
front_digits bytes = take (digit_count bytes) bytes

digits_cut : (bytes : List ℕ) → bytes ≡ front_digits bytes ++ after_digits bytes
unfolding after_digits front_digits
digits_cut bytes = take_drop (digit_count bytes) bytes

digits_pass : (bytes : List ℕ) → AllPass is_digit (front_digits bytes)
unfolding digit_count front_digits
digits_pass bytes = prefix_passes is_digit bytes

digits_length : (bytes : List ℕ) → length (front_digits bytes) ≡ digit_count bytes
unfolding digit_count front_digits
digits_length bytes = length_take_prefix is_digit bytes

IsEnd : List ℕ → Type 0
IsEnd bytes = (ds suffix : List ℕ) × (bytes ≡ ds ++ suffix) × (0 < length ds) × AllPass is_digit ds × IsSuffix suffix

end_yes : (bytes : List ℕ) → ends_in_digits bytes ≡ true → IsEnd bytes
unfolding IsEnd ends_in_digits
end_yes bytes h =
    let parts = both (nat_lt 0 (digit_count bytes)) (is_suffix (after_digits bytes)) h in
    let count : 0 < digit_count bytes = some_back (digit_count bytes) parts.0 in
    (front_digits bytes, after_digits bytes, digits_cut bytes, omega (arith, count, digits_length bytes), digits_pass bytes, suffix_yes (after_digits bytes) parts.1)

end_back : (ds suffix : List ℕ) → 0 < length ds → AllPass is_digit ds → IsSuffix suffix → ends_in_digits (ds ++ suffix) ≡ true
unfolding ends_in_digits
end_back ds suffix count all is =
    let stop = suffix_stops suffix is in
    let n : digit_count (ds ++ suffix) ≡ length ds = count_of_digits ds suffix all stop in
    joined (nat_lt 0 (digit_count (ds ++ suffix))) (is_suffix (after_digits (ds ++ suffix))) (some (digit_count (ds ++ suffix)) (omega (arith, n, count)))
    (ap is_suffix (rest_of_digits ds suffix all stop) ∙ suffix_back suffix is)

IsScale : List ℕ → Type 0
IsScale bytes = (exponent suffix : List ℕ) × (bytes ≡ exponent ++ suffix) × IsExponent exponent × IsSuffix suffix

exponent_yes : (bytes : List ℕ) → ends_in_exponent bytes ≡ true → IsScale bytes
unfolding IsScale IsEnd
exponent_yes [] h = cc
exponent_yes (e ∷ []) h =
    let parts = both (is_exponent_letter e) (ends_in_digits []) h in
    let end = end_yes [] parts.1 in
    absurd (omega (arith, end.3, ap length end.2, length-append end.0 end.1))
exponent_yes (e ∷ b ∷ bytes) h =
    let parts = both (is_exponent_letter e) (ends_in_digits (past_sign (b ∷ bytes))) h in by_sign (is_sign b) refl parts.0 parts.1
  where
    by_sign : (t : Bool) → is_sign b ≡ t → is_exponent_letter e ≡ true → ends_in_digits (cond t bytes (b ∷ bytes)) ≡ true → IsScale (e ∷ b ∷ bytes)
    by_sign true is le more =
        let end = end_yes bytes more in
        (e ∷ b ∷ end.0, end.1, ap (λ l. e ∷ b ∷ l) end.2, signed le is end.3 end.4, end.5)
    by_sign false is le more =
        let end = end_yes (b ∷ bytes) more in
        (e ∷ end.0, end.1, ap (λ l. e ∷ l) end.2, unsigned le end.3 end.4, end.5)

exponent_back : (exponent suffix : List ℕ) → IsExponent exponent → IsSuffix suffix → ends_in_exponent (exponent ++ suffix) ≡ true
exponent_back _ suffix (unsigned {e} {digits = []} is count all) s = absurd (omega arith)
exponent_back _ suffix (unsigned {e} {digits = b ∷ ds} is count all) s =
    joined (is_exponent_letter e) (ends_in_digits (past_sign (b ∷ (ds ++ suffix)))) is
    (subst (λ t. ends_in_digits (cond t (ds ++ suffix) (b ∷ (ds ++ suffix))) ≡ true) (sym (digit_no_sign b (All-head (λ x. is_digit x ≡ true) b ds all)))
    (end_back (b ∷ ds) suffix count all s))
exponent_back _ suffix (signed {e} {sign} {digits = ds} is sg count all) s =
    joined (is_exponent_letter e) (ends_in_digits (past_sign (sign ∷ (ds ++ suffix)))) is
    (subst (λ t. ends_in_digits (cond t (ds ++ suffix) (sign ∷ (ds ++ suffix))) ≡ true) (sym sg) (end_back ds suffix count all s))

pub decimal_yes : (text : List ℕ) → is_decimal text ≡ true → IsDecimal text
unfolding is_decimal IsScale
decimal_yes text h = by_rest (after_digits text) refl h
  where
    whole : List ℕ
    whole = front_digits text

    by_tail : (rest : List ℕ) (fraction tail : List ℕ) → text ≡ whole ++ 46 ∷ rest → rest ≡ fraction ++ tail → AllPass is_digit fraction → 0 < length (whole ++ fraction)
        → (is_suffix tail ≡ true) ⊎ (ends_in_exponent tail ≡ true) → IsDecimal text
    by_tail rest fraction tail cut cut' all count (inl is) =
        pointed whole fraction [] tail (digits_pass text) all count (inl refl) (suffix_yes tail is) (cut ∙ ap (λ l. whole ++ 46 ∷ l) cut')
    by_tail rest fraction tail cut cut' all count (inr is) =
        let end = exponent_yes tail is in
        pointed whole fraction end.0 end.1 (digits_pass text) all count (inr end.3) end.4 (cut ∙ ap (λ l. whole ++ 46 ∷ l) cut' ∙ ap (λ l. whole ++ 46 ∷ (fraction ++ l)) end.2)

    some_digit : (rest : List ℕ) → (nat_lt 0 (digit_count text) ≡ true) ⊎ (nat_lt 0 (digit_count rest) ≡ true) → 0 < length (whole ++ front_digits rest)
    some_digit rest (inl is) = omega (arith, some_back (digit_count text) is, digits_length text, length-append whole (front_digits rest))
    some_digit rest (inr is) = omega (arith, some_back (digit_count rest) is, digits_length rest, length-append whole (front_digits rest))

    by_point : (b : ℕ) (rest : List ℕ) → after_digits text ≡ b ∷ rest → (t : Bool) → (b == 46) ≡ t
        → cond t (ends_in_fraction (digit_count text) rest) (nat_lt 0 (digit_count text) && ends_in_exponent (b ∷ rest)) ≡ true → IsDecimal text
    by_point b rest e true is h =
        let point : b ≡ 46 = (Decides-eqb b 46).0 is in
        let parts = both (nat_lt 0 (digit_count text) || nat_lt 0 (digit_count rest)) (is_suffix (after_digits rest) || ends_in_exponent (after_digits rest)) h in
        by_tail rest (front_digits rest) (after_digits rest) (digits_cut text ∙ ap (λ l. whole ++ l) (e ∙ ap (λ c. c ∷ rest) point)) (digits_cut rest) (digits_pass rest)
        (some_digit rest (either (nat_lt 0 (digit_count text)) (nat_lt 0 (digit_count rest)) parts.0))
        (either (is_suffix (after_digits rest)) (ends_in_exponent (after_digits rest)) parts.1)
    by_point b rest e false is h =
        let parts = both (nat_lt 0 (digit_count text)) (ends_in_exponent (b ∷ rest)) h in
        let end = exponent_yes (b ∷ rest) parts.1 in
        scaled whole end.0 end.1 (digits_pass text) (omega (arith, some_back (digit_count text) parts.0, digits_length text)) end.3 end.4
        (digits_cut text ∙ ap (λ l. whole ++ l) (e ∙ end.2))

    by_rest : (rest : List ℕ) → after_digits text ≡ rest → is_decimal_after (digit_count text) rest ≡ true → IsDecimal text
    by_rest [] e h = cc
    by_rest (b ∷ rest) e h = by_point b rest e (b == 46) refl h

tail_stops : (exponent suffix : List ℕ) → (exponent ≡ []) ⊎ IsExponent exponent → IsSuffix suffix → prefix_len is_digit (exponent ++ suffix) ≡ 0
tail_stops exponent suffix (inl e) s = subst (λ l. prefix_len is_digit (l ++ suffix) ≡ 0) (sym e) (suffix_stops suffix s)
tail_stops exponent suffix (inr is) s = exponent_stops exponent suffix is

tail_ends : (exponent suffix : List ℕ) → (exponent ≡ []) ⊎ IsExponent exponent → IsSuffix suffix → (is_suffix (exponent ++ suffix) || ends_in_exponent (exponent ++ suffix)) ≡ true
tail_ends exponent suffix (inl e) s = subst (λ l. (is_suffix (l ++ suffix) || ends_in_exponent (l ++ suffix)) ≡ true) (sym e) (left (is_suffix suffix) (ends_in_exponent suffix) (suffix_back suffix s))
tail_ends exponent suffix (inr is) s = right (is_suffix (exponent ++ suffix)) (ends_in_exponent (exponent ++ suffix)) (exponent_back exponent suffix is s)

some_of : (m n : ℕ) → 0 < m + n → (nat_lt 0 m || nat_lt 0 n) ≡ true
some_of zero n h = some n (omega arith)
some_of (suc m) n h = left (nat_lt 0 (suc m)) (nat_lt 0 n) (some (suc m) (omega arith))

scaled_after : (n : ℕ) (exponent suffix : List ℕ) → IsExponent exponent → IsSuffix suffix → 0 < n → is_decimal_after n (exponent ++ suffix) ≡ true
scaled_after n _ suffix (unsigned {e} {digits = ds} is count all) s more =
    subst (λ t. cond t (ends_in_fraction n (ds ++ suffix)) (nat_lt 0 n && ends_in_exponent (e ∷ (ds ++ suffix))) ≡ true) (sym (letter_no_point e is))
    (joined (nat_lt 0 n) (ends_in_exponent (e ∷ (ds ++ suffix))) (some n more) (exponent_back (e ∷ ds) suffix (unsigned is count all) s))
scaled_after n _ suffix (signed {e} {sign} {digits = ds} is sg count all) s more =
    subst (λ t. cond t (ends_in_fraction n (sign ∷ (ds ++ suffix))) (nat_lt 0 n && ends_in_exponent (e ∷ sign ∷ (ds ++ suffix))) ≡ true) (sym (letter_no_point e is))
    (joined (nat_lt 0 n) (ends_in_exponent (e ∷ sign ∷ (ds ++ suffix))) (some n more) (exponent_back (e ∷ sign ∷ ds) suffix (signed is sg count all) s))

pub decimal_back : {text : List ℕ} → IsDecimal text → is_decimal text ≡ true
unfolding is_decimal
decimal_back {text} (pointed whole fraction exponent suffix allw allf count ex s e) =
    let tail = exponent ++ suffix in let rest = fraction ++ tail in
    let stop = tail_stops exponent suffix ex s in
    let first : digit_count text ≡ length whole = ap digit_count e ∙ count_of_digits whole (46 ∷ rest) allw refl in
    let after : after_digits text ≡ 46 ∷ rest = ap after_digits e ∙ rest_of_digits whole (46 ∷ rest) allw refl in
    let second : digit_count rest ≡ length fraction = count_of_digits fraction tail allf stop in
    let last : after_digits rest ≡ tail = rest_of_digits fraction tail allf stop in
    subst (λ l. is_decimal_after (digit_count text) l ≡ true) (sym after)
    (joined (nat_lt 0 (digit_count text) || nat_lt 0 (digit_count rest)) (is_suffix (after_digits rest) || ends_in_exponent (after_digits rest))
    (some_of (digit_count text) (digit_count rest) (omega (arith, count, first, second, length-append whole fraction)))
    (subst (λ l. (is_suffix l || ends_in_exponent l) ≡ true) (sym last) (tail_ends exponent suffix ex s)))
decimal_back {text} (scaled whole exponent suffix allw count ex s e) =
    let tail = exponent ++ suffix in
    let stop = exponent_stops exponent suffix ex in
    let first : digit_count text ≡ length whole = ap digit_count e ∙ count_of_digits whole tail allw stop in
    let after : after_digits text ≡ tail = ap after_digits e ∙ rest_of_digits whole tail allw stop in
    subst (λ l. is_decimal_after (digit_count text) l ≡ true) (sym after) (scaled_after (digit_count text) exponent suffix ex s (omega (arith, first, count)))

pub number_yes : (text : List ℕ) → is_number text ≡ true → IsNumber text
unfolding is_number
number_yes [] h = cc
number_yes (d ∷ []) h = by_test (d == 48) refl
  where
    by_test : (t : Bool) → (d == 48) ≡ t → IsNumber (d ∷ [])
    by_test true is = subst (λ c. IsNumber (c ∷ [])) (sym ((Decides-eqb d 48).0 is)) nought
    by_test false is = digits h (λ e. cc (is, (Decides-eqb d 48).1 e)) (All-nil (λ b. is_digit b ≡ true))
number_yes (d ∷ e ∷ bytes) h =
    let parts = both (not (d == 48)) (list_all is_digit (d ∷ e ∷ bytes)) h in
    let all = AllPass-from_list_all is_digit (d ∷ e ∷ bytes) parts.1 in
    digits (All-head (λ b. is_digit b ≡ true) d (e ∷ bytes) all) (λ q. cc (no (d == 48) parts.0, (Decides-eqb d 48).1 q)) (All-tail (λ b. is_digit b ≡ true) d (e ∷ bytes) all)

pub number_back : {text : List ℕ} → IsNumber text → is_number text ≡ true
unfolding is_number
number_back nought = refl
number_back (digits {d} {bytes = []} is not_nought all) = is
number_back (digits {d} {bytes = e ∷ bytes} is not_nought all) =
    joined (not (d == 48)) (list_all is_digit (d ∷ e ∷ bytes)) (by_test (d == 48) refl)
    (list_all-from_AllPass is_digit (d ∷ e ∷ bytes) (All-cons (λ b. is_digit b ≡ true) d (e ∷ bytes) is all))
  where
    by_test : (t : Bool) → (d == 48) ≡ t → not t ≡ true
    by_test true is = absurd (not_nought ((Decides-eqb d 48).0 is))
    by_test false is = refl

all_of_number : {text : List ℕ} → IsNumber text → AllPass is_digit text
all_of_number nought = All-cons (λ b. is_digit b ≡ true) 48 [] refl (All-nil (λ b. is_digit b ≡ true))
all_of_number (digits {d} {bytes} is not_nought all) = All-cons (λ b. is_digit b ≡ true) d bytes is all

-- no text is both
pub number_no_decimal : (text : List ℕ) → IsNumber text → IsDecimal text → ⊥
unfolding is_decimal
number_no_decimal text one two =
    let none : after_digits (text ++ []) ≡ [] = rest_of_digits text [] (all_of_number one) refl in
    let here : after_digits text ≡ [] = subst (λ l. after_digits l ≡ []) (append_nil text) none in
    let yes : is_decimal_after (digit_count text) (after_digits text) ≡ true = decimal_back two in
    let never : false ≡ true = subst (λ l. is_decimal_after (digit_count text) l ≡ true) here yes in cc
  where
    append_nil : (l : List ℕ) → l ++ [] ≡ l
    append_nil [] = refl
    append_nil (b ∷ l) = ap (λ x. b ∷ x) (append_nil l)
