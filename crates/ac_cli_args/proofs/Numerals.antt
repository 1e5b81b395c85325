-- Spellings of integers and of limits.
use Rattle.std.proofs.Common.{rules, ◌≡◌, ◌<◌, ◌^◌, ◌⊎◌, inl, inr, ⊎_elim, ℕ, zero, suc, ℤ, pos, negsuc, List, ◌∷◌, [], length, decimal, FitsSigned, w64, arith, refl, sym, ap, subst, ◌∙◌}
use Rattle.std.specs.Prelude.{codes}
use Rattle.std.specs.Fmt.{signed_decimal}
use Rattle.std.specs.Int.{IsInRange}
use Rattle.std.proofs.lemmas.Fmt.{decimal_digit, decimal_injective, signed_decimal_injective, decimal_is_IsNumeral}
use Rattle.std.proofs.lemmas.Str.Parse.{digit_at}
use Rattle.ac_cli_args.specs.DecimalNumbers.{Spells, natural, opposite, IsInteger, IsNumberIn}

zero_text : decimal 0 ≡ 48 ∷ []
zero_text = decimal_digit 0 (omega arith)

-- an integer's text, or a zero with a minus
pub spelling : (text : List ℕ) (v : ℤ) → Spells text v → (text ≡ signed_decimal v) ⊎ ((text ≡ codes "-0") × (v ≡ pos 0))
spelling text v (natural n) = inl refl
spelling text v (opposite zero) = inr (ap (λ ds. 45 ∷ ds) zero_text, refl)
spelling text v (opposite (suc n)) = inl refl

spells : (v : ℤ) → Spells (signed_decimal v) v
spells (pos n) = natural n
spells (negsuc n) = opposite (suc n)

pub is_integer : (text : List ℕ) (v : ℤ) → FitsSigned w64 v → text ≡ signed_decimal v → IsInteger text v
is_integer text v fits e = record { spelled = subst (λ t. Spells t v) (sym e) (spells v); fits = fits }

pub is_zero : (text : List ℕ) → FitsSigned w64 (pos 0) → text ≡ codes "-0" → IsInteger text (pos 0)
is_zero text fits e = record { spelled = subst (λ t. Spells t (pos 0)) (sym (e ∙ ap (λ ds. 45 ∷ ds) (sym zero_text))) (opposite 0); fits = fits }

no_minus : (n : ℕ) (ds : List ℕ) → n < 2 ^ 64 → ¬ (decimal n ≡ 45 ∷ ds)
no_minus n ds fits e =
    let k = (decimal_is_IsNumeral n fits).0 in
    let d : IsInRange 48 57 45 = subst (λ (t : List ℕ). IsInRange 48 57 (Rattle.std.proofs.Common.slice_index_or t 0 0)) e (digit_at (decimal n) 0 k.1 k.0) in
    omega (arith, d.0)

no_zero : (v : ℤ) → FitsSigned w64 v → ¬ (signed_decimal v ≡ codes "-0")
no_zero (pos n) fits e = no_minus n (48 ∷ []) (search rules) e
no_zero (negsuc n) fits e = let k : decimal (suc n) ≡ 48 ∷ [] = cc in let same : suc n ≡ 0 = decimal_injective (suc n) 0 (search rules) (omega arith) (k ∙ sym zero_text) in absurd (omega (arith, same))

-- a text spells one integer
pub integer_once : (text : List ℕ) (v w : ℤ) → IsInteger text v → IsInteger text w → v ≡ w
integer_once text v w h k = ⊎_elim
    (λ a. ⊎_elim (λ b. signed_decimal_injective v w (let f = h.fits in search rules) (let f = k.fits in search rules) (sym a ∙ b)) (λ b. absurd (no_zero v h.fits (sym a ∙ b.0))) (spelling text w k.spelled))
    (λ a. ⊎_elim (λ b. absurd (no_zero w k.fits (sym b ∙ a.0))) (λ b. a.1 ∙ sym b.1) (spelling text w k.spelled))
    (spelling text v h.spelled)

-- and one number
pub number_is : (least greatest : ℕ) (text : List ℕ) (n m : ℕ) → greatest < 2 ^ 64 → IsNumberIn least greatest text n → m < 2 ^ 64 → text ≡ decimal m → n ≡ m
number_is least greatest text n m room h fits e = decimal_injective n m (let k = h.at_most in omega (arith, k, room)) fits (sym h.spelled ∙ e)
