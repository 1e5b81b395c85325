-- Whether a row holds at a point is decided.
use Rattle.std.proofs.Common.{◌≡◌, ◌⊎◌, inl, inr, ℤ, pos, List, [], ◌∷◌, Bool, true, false, refl, arith, unsigned_abs}
use Rattle.std.proofs.lemmas.Int.{ints, by_lt_z}
use Rattle.ac_base.specs.Multiple.{IsMultiple, divides}
use Rattle.ac_base.proofs.Divisors.{divides-true, divides-false}
use Rattle.ac_forms.specs.Affine.{value_at}
use Rattle.ac_forms.specs.Rows.{Holds}
use Rattle.ac_forms.specs.declared.row.Row.{Row}
use Rattle.ac_forms.specs.declared.row.Row.TheVariants.{Eq, Div, Ge}
use Rattle.ac_forms.specs.ListMembers.{IsAmong}
use Rattle.ac_widen.specs.Combinations.{Each}

zero_or : (z : ℤ) → (z ≡ pos 0) ⊎ (¬ (z ≡ pos 0))
zero_or z =
    by_lt_z z (pos 0)
    (λ l. inr (λ e. absurd (omega (arith, ints))))
    (λ l. by_lt_z (pos 0) z (λ m. inr (λ e. absurd (omega (arith, ints)))) (λ m. inl (omega (arith, ints))))

multiple_or : (m z : ℤ) (b : Bool) → divides (unsigned_abs m) z ≡ b → IsMultiple m z ⊎ (¬ (IsMultiple m z))
multiple_or m z true e = inl (divides-true (unsigned_abs m) z e)
multiple_or m z false e = inr (divides-false (unsigned_abs m) z e)

pub holds_or : (r : Row) (p : List ℤ) → Holds r p ⊎ (¬ (Holds r p))
holds_or (Eq f) p = zero_or (value_at f p)
holds_or (Div m f) p = multiple_or m (value_at f p) (divides (unsigned_abs m) (value_at f p)) refl
holds_or (Ge f) p = by_lt_z (value_at f p) (pos 0) (λ l. inr (λ h. absurd (omega (arith, ints)))) (λ h. inl h)

-- all of the points meet the row, or one of them breaks it
pub all_meet_or : (r : Row) (ps : List (List ℤ)) → Each (Holds r) ps ⊎ ((b : List ℤ) × IsAmong b ps × ¬ (Holds r b))
all_meet_or r [] = inl tt
all_meet_or r (p ∷ ps) =
    elim (holds_or r p) [
      | inr n ↦ inr (p, inl refl, n)
      | inl h ↦ elim (all_meet_or r ps) [
        | inl hs ↦ inl (h, hs)
        | inr b ↦ inr (b.0, inr b.1, b.2)
      ]
    ]
