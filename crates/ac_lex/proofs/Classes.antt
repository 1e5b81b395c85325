-- The kind of a piece is told by its first byte: white space, a letter, a digit or point, or another byte.
use Rattle.std.specs.Prelude.{Bool, true, false, ◌&&◌, ◌||◌, ◌==◌, not, codes}
use Rattle.std.specs.List.{list_any, list_all}
use Rattle.std.proofs.Common.{◌≡◌, ℕ, ◌≤◌, List, [], ◌∷◌, refl, ◌∙◌, ap, arith}
use Rattle.std.proofs.lemmas.Bool.Decides.{nat_tests, Decides-eqb}
use Rattle.ac_lex.specs.Bytes.{is_one_of, is_white_byte, is_letter, is_digit}

pub white_low : (b : ℕ) → is_white_byte b ≡ true → b ≤ 32
white_low b h = grind (arith, nat_tests)

pub digit_low : (b : ℕ) → is_digit b ≡ true → b ≤ 57
digit_low b h = grind (arith, nat_tests)

pub digit_high : (b : ℕ) → is_digit b ≡ true → 48 ≤ b
digit_high b h = grind (arith, nat_tests)

pub letter_high : (b : ℕ) → is_letter b ≡ true → 65 ≤ b
letter_high b h = grind (arith, nat_tests)

pub no_white : (b : ℕ) → 33 ≤ b → is_white_byte b ≡ false
no_white b h = grind (arith, nat_tests)

pub no_letter : (b : ℕ) → b ≤ 64 → is_letter b ≡ false
no_letter b h = grind (arith, nat_tests)

-- what holds of each byte of a text holds of one of them
pub one_of_all : (p : ℕ → Bool) (text : List ℕ) (b : ℕ) → is_one_of text b ≡ true → list_all p text ≡ true → p b ≡ true
one_of_all p [] b one all = cc
one_of_all p (c ∷ text) b one all = by_test (b == c) refl (λ h k. one_of_all p text b h k) one
  where
    both : (x y : Bool) → (x && y) ≡ true → (x ≡ true) × (y ≡ true)
    both true true h = (refl, refl)
    both true false h = cc
    both false y h = cc

    by_test : (t : Bool) → (b == c) ≡ t → (list_any (λ d. b == d) text ≡ true → list_all p text ≡ true → p b ≡ true) → (t || list_any (λ d. b == d) text) ≡ true → p b ≡ true
    by_test true is later more = let same : b ≡ c = (Decides-eqb b c).0 is in ap p same ∙ (both (p c) (list_all p text) all).0
    by_test false is later more = later more (both (p c) (list_all p text) all).1

-- none of white space, letters, digits and the point
abbrev pub is_other : ℕ → Bool
is_other b = not (is_white_byte b) && not (is_letter b) && not (is_digit b) && not (b == 46)

pub record IsOther (b : ℕ) : Type 0 where
  pub not_white : is_white_byte b ≡ false
  pub not_letter : is_letter b ≡ false
  pub not_digit : is_digit b ≡ false
  pub not_point : (b == 46) ≡ false

pub other_facts : (b : ℕ) → is_other b ≡ true → IsOther b
other_facts b h = by_tests (is_white_byte b) (is_letter b) (is_digit b) (b == 46) refl refl refl refl h
  where
    by_tests : (w l d p : Bool) → is_white_byte b ≡ w → is_letter b ≡ l → is_digit b ≡ d → (b == 46) ≡ p → (not w && not l && not d && not p) ≡ true → IsOther b
    by_tests false false false false ew el ed ep h = record { not_white = ew; not_letter = el; not_digit = ed; not_point = ep }
    by_tests true l d p ew el ed ep h = cc
    by_tests false true d p ew el ed ep h = cc
    by_tests false false true p ew el ed ep h = cc
    by_tests false false false true ew el ed ep h = cc

pub single_other : (b : ℕ) → is_one_of (codes "()[]{},;=+-*/%<>") b ≡ true → IsOther b
single_other b h = other_facts b (one_of_all is_other (codes "()[]{},;=+-*/%<>") b h refl)

pub equals_other : (b : ℕ) → is_one_of (codes "+-*/%<>=") b ≡ true → IsOther b
equals_other b h = other_facts b (one_of_all is_other (codes "+-*/%<>=") b h refl)

pub doubled_other : (b : ℕ) → is_one_of (codes "+-&") b ≡ true → IsOther b
doubled_other b h = other_facts b (one_of_all is_other (codes "+-&") b h refl)
