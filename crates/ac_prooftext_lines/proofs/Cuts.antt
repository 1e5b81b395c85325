-- Texts that are cut at a byte.
use Rattle.std.proofs.Common.{◌≡◌, ◌<◌, ◌^◌, ◌==◌, ℕ, zero, suc, ℤ, pos, negsuc, false, List, [], ◌∷◌, ◌++◌, take, drop, length, slice_index_or, Option, None, Some, MatchOption, decimal, refl, sym, ap, subst, ◌∙◌, arith}
use Rattle.std.specs.List.{AllByRecursion}
use Rattle.std.specs.Fmt.{signed_decimal}
use Rattle.std.proofs.lemmas.Fmt.{decimal_is_IsNumeral_wide}
use Rattle.std.proofs.lemmas.Str.Parse.{digit_at}
use Rattle.std.specs.Int.{IsInRange}
use Rattle.std.specs.Str.Parse.{AllDigits}
use Rattle.ac_forms.specs.Fits.{Fits}
use Rattle.ac_prooftext_lines.proofs.Numerals.{short, of_64}
use Rattle.ac_prooftext_lines.specs.LineWords.{IsFree}

differs : (b mark : ℕ) → b ≡ mark → (b == mark) ≡ false → ⊥
differs b mark e f = grind arith

-- a text is cut at one place
pub same_cut : (mark : ℕ) (x y x' y' : List ℕ) → IsFree mark x → IsFree mark x' → x ++ mark ∷ y ≡ x' ++ mark ∷ y' → (x ≡ x') × (y ≡ y')
same_cut mark [] y [] y' h k e = (refl, let t : y ≡ y' = cc in t)
same_cut mark [] y (b ∷ bs) y' h k e = absurd (differs b mark (let t : b ≡ mark = cc in t) k.0)
same_cut mark (b ∷ bs) y [] y' h k e = absurd (differs b mark (let t : b ≡ mark = cc in t) h.0)
same_cut mark (b ∷ bs) y (c ∷ cs) y' h k e =
    let rest = same_cut mark bs y cs y' h.1 k.1 (let t : bs ++ mark ∷ y ≡ cs ++ mark ∷ y' = cc in t) in
    (λ i. (let t : b ≡ c = cc in t) i ∷ rest.0 i, rest.1)

-- a text without the byte is not cut
pub uncut : (mark : ℕ) (text x y : List ℕ) → IsFree mark text → ¬ (text ≡ x ++ mark ∷ y)
uncut mark [] [] y h e = absurd cc
uncut mark [] (c ∷ cs) y h e = absurd cc
uncut mark (b ∷ bs) [] y h e = differs b mark (let t : b ≡ mark = cc in t) h.0
uncut mark (b ∷ bs) (c ∷ cs) y h e = uncut mark bs cs y h.1 (let t : bs ≡ cs ++ mark ∷ y = cc in t)

-- a byte that is not among the first ones
pub free_at : (mark : ℕ) (text : List ℕ) (at : ℕ) → at < length text → IsFree mark (take at text) → (slice_index_or text at 0 == mark) ≡ false → IsFree mark (take (suc at) text)
free_at mark [] at h f e = absurd (omega (arith, h))
free_at mark (b ∷ bs) zero h f e = (e, tt)
free_at mark (b ∷ bs) (suc at) h f e = (f.0, free_at mark bs at (omega (arith, h)) f.1 e)

-- digits are the bytes from 48 to 57
digits_free : (mark : ℕ) (ds : List ℕ) → ¬ (IsInRange 48 57 mark) → ((k : ℕ) → k < length ds → IsInRange 48 57 (slice_index_or ds k 0)) → IsFree mark ds
digits_free mark [] other h = tt
digits_free mark (d ∷ ds) other h = (no_match d mark other (h 0 (omega arith)), digits_free mark ds other (λ k b. h (suc k) (omega (arith, b))))
  where
    no_match : (d mark : ℕ) → ¬ (IsInRange 48 57 mark) → IsInRange 48 57 d → (d == mark) ≡ false
    no_match d mark other digit = not_same d mark (λ e. other (subst (IsInRange 48 57) e digit))
      where
        not_same : (d mark : ℕ) → ¬ (d ≡ mark) → (d == mark) ≡ false
        not_same d mark h = grind arith

pub number_free : (mark n : ℕ) → ¬ (IsInRange 48 57 mark) → n < 2 ^ 128 → IsFree mark (decimal n)
number_free mark n other h =
    let k = (decimal_is_IsNumeral_wide n (short n h)).0 in
    digits_free mark (decimal n) other (λ i b. digit_at (decimal n) i k.1 b)

-- a word that is cut at a byte, where it is a number before that byte
pub cut_number : (mark n : ℕ) (word x y rest : List ℕ) → ¬ (IsInRange 48 57 mark) → n < 2 ^ 64 → IsFree mark x × (word ≡ x ++ mark ∷ y) → word ≡ decimal n ++ mark ∷ rest → (x ≡ decimal n) × (y ≡ rest)
cut_number mark n word x y rest other h cut e = same_cut mark x y (decimal n) rest cut.0 (number_free mark n other (of_64 n h)) (sym cut.1 ∙ e)

pub no_point : ¬ (IsInRange 48 57 46)
no_point h = omega (arith, h.0)

pub no_colon : ¬ (IsInRange 48 57 58)
no_colon h = omega (arith, h.1)

pub no_blank : ¬ (IsInRange 48 57 32)
no_blank h = omega (arith, h.0)
