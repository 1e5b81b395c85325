-- The rows that a point meets: exactly those that hold, and fewer where one is broken.
use Rattle.std.proofs.Common.{◌≡◌, ◌↔◌, inl, inr, ℕ, ◌+◌, ◌<◌, ◌≤◌, ℤ, pos, negsuc, ◌≤ℤ◌, int_le, List, [], ◌∷◌, length, Bool, true, false, cond, refl, arith, unsigned_abs}
use borrow.Author.Tests.{le-leb}
use Rattle.std.specs.List.{filter}
use Rattle.std.proofs.lemmas.Bool.Decides.{Decides-int_eq}
use Rattle.std.proofs.lemmas.Int.{ints}
use Rattle.ac_base.proofs.Divisors.{divides-true, true-divides}
use Rattle.ac_forms.specs.Affine.{value_at}
use Rattle.ac_forms.specs.Rows.{Holds}
use Rattle.ac_forms.specs.declared.row.Row.{Row}
use Rattle.ac_forms.specs.declared.row.Row.TheVariants.{Eq, Div, Ge}
use Rattle.ac_forms.specs.ListMembers.{IsAmong}
use Rattle.ac_widen.specs.Narrowing.{is_met, narrowed}

nonnegative : (v : ℤ) → (int_le (pos 0) v ≡ true) ↔ (pos 0 ≤ℤ v)
nonnegative (pos n) = ((λ _. omega (arith, ints)), (λ _. le-leb 0 n (omega arith)))
nonnegative (negsuc n) = ((λ e. absurd cc), (λ h. absurd (omega (arith, ints))))

pub is_met-is : (p : List ℤ) (r : Row) → (is_met p r ≡ true) ↔ Holds r p
is_met-is p (Eq f) = Decides-int_eq (value_at f p) (pos 0)
is_met-is p (Div m f) = ((λ e. divides-true (unsigned_abs m) (value_at f p) e), (λ h. true-divides (unsigned_abs m) (value_at f p) h))
is_met-is p (Ge f) = nonnegative (value_at f p)

kept_row : (p : List ℤ) (r x : Row) (rows : List Row) (b : Bool) → is_met p r ≡ b → (IsAmong x (filter (is_met p) rows) → IsAmong x rows × Holds x p)
    → IsAmong x (cond b (r ∷ filter (is_met p) rows) (filter (is_met p) rows)) → IsAmong x (r ∷ rows) × Holds x p
kept_row p r x rows true e h (inl a) = (inl a, rw a ((is_met-is p r).0 e))
kept_row p r x rows true e h (inr a) = (inr (h a).0, (h a).1)
kept_row p r x rows false e h a = (inr (h a).0, (h a).1)

pub narrowed_among : (rows : List Row) (p : List ℤ) (x : Row) → IsAmong x (narrowed rows p) → IsAmong x rows × Holds x p
narrowed_among [] p x a = absurd a
narrowed_among (r ∷ rows) p x a = kept_row p r x rows (is_met p r) refl (narrowed_among rows p x) a

stays : (p : List ℤ) (r x : Row) (rows : List Row) (b : Bool) → is_met p r ≡ b → Holds x p → (IsAmong x rows → IsAmong x (filter (is_met p) rows))
    → IsAmong x (r ∷ rows) → IsAmong x (cond b (r ∷ filter (is_met p) rows) (filter (is_met p) rows))
stays p r x rows true e h f (inl a) = inl a
stays p r x rows true e h f (inr a) = inr (f a)
stays p r x rows false e h f (inl a) = let g : is_met p r ≡ true = (is_met-is p r).1 (rw a at h) in absurd cc
stays p r x rows false e h f (inr a) = f a

pub among_narrowed : (rows : List Row) (p : List ℤ) (x : Row) → IsAmong x rows → Holds x p → IsAmong x (narrowed rows p)
among_narrowed [] p x a h = absurd a
among_narrowed (r ∷ rows) p x a h = stays p r x rows (is_met p r) refl h (λ b. among_narrowed rows p x b h) a

shorter : (b : Bool) (r : Row) (xs : List Row) (n : ℕ) → length xs ≤ n → length (cond b (r ∷ xs) xs) ≤ n + 1
shorter true r xs n h = omega arith
shorter false r xs n h = omega arith

pub narrowed_length : (rows : List Row) (p : List ℤ) → length (narrowed rows p) ≤ length rows
narrowed_length [] p = omega arith
narrowed_length (r ∷ rows) p = omega (arith, shorter (is_met p r) r (filter (is_met p) rows) (length rows) (narrowed_length rows p))

falls : (p : List ℤ) (r x : Row) (rows : List Row) (b : Bool) → is_met p r ≡ b → ¬ (Holds x p) → length (filter (is_met p) rows) ≤ length rows → (IsAmong x rows → length (filter (is_met p) rows) < length rows)
    → IsAmong x (r ∷ rows) → length (cond b (r ∷ filter (is_met p) rows) (filter (is_met p) rows)) < length (r ∷ rows)
falls p r x rows true e n l f (inl a) = absurd (n (rw a ((is_met-is p r).0 e)))
falls p r x rows true e n l f (inr a) = omega (arith, f a)
falls p r x rows false e n l f a = omega (arith, l)

-- a row that is broken makes them fewer
pub narrowed_falls : (rows : List Row) (p : List ℤ) (x : Row) → IsAmong x rows → ¬ (Holds x p) → length (narrowed rows p) < length rows
narrowed_falls [] p x a n = absurd a
narrowed_falls (r ∷ rows) p x a n = falls p r x rows (is_met p r) refl n (narrowed_length rows p) (λ b. narrowed_falls rows p x b n) a
