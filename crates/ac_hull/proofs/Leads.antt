-- The zeros at the beginning of a list, number by number.
use Rattle.std.proofs.Common.{◌≡◌, ℕ, suc, ◌+◌, ◌<◌, ◌≤◌, ℤ, pos, List, [], ◌∷◌, length, drop, get_or, ◌==◌, ◌↔◌, inl, inr, IsTrue, nat_eq, Bool, true, false, refl, ap, sym, ◌∙◌, arith}
use Rattle.std.specs.Ordering.{int_eq}
use Rattle.std.proofs.lemmas.Bool.Decides.{Decides-int_eq}
use Rattle.std.proofs.lemmas.List.{drop_more, drop_all}
use Rattle.std.proofs.lemmas.Bool.{eqb-true, eqb-false}
use Rattle.ac_hull.specs.FractionFreeElimination.{lead, IsZero}
use Rattle.ac_hull.proofs.Entries.{lead_or}

-- before number i: those before it are 0
pub record LeadHalfway (xs : List ℤ) (i : ℕ) : Type 0 where
  pub room : i ≤ length xs
  pub value : lead xs ≡ i + lead (drop i xs)

lead_zero : (x : ℤ) (xs : List ℤ) → x ≡ pos 0 → lead (x ∷ xs) ≡ suc (lead xs)
lead_zero x xs e = rw e refl

lead_none : (x : ℤ) (xs : List ℤ) (b : Bool) → int_eq x (pos 0) ≡ b → ¬ (x ≡ pos 0) → lead (x ∷ xs) ≡ 0
lead_none x xs true e n = absurd (n ((Decides-int_eq x (pos 0)).0 e))
lead_none x xs false e n = rw e refl

pub lead_start : (xs : List ℤ) → LeadHalfway xs 0
lead_start xs = record { room = omega arith; value = omega arith }

pub lead_step : (xs : List ℤ) (i : ℕ) → LeadHalfway xs i → i < length xs → get_or xs i (pos 0) ≡ pos 0 → LeadHalfway xs (i + 1)
lead_step xs i h l e =
    let d = lead_zero (get_or xs i (pos 0)) (drop (i + 1) xs) e in
    let m : drop i xs ≡ get_or xs i (pos 0) ∷ drop (i + 1) xs = drop_more xs i (pos 0) l in
    record { room = omega arith; value = h.value ∙ ap (λ t. i + lead t) m ∙ (omega (arith, d)) }

pub lead_found : (xs : List ℤ) (i : ℕ) → LeadHalfway xs i → i < length xs → ¬ (get_or xs i (pos 0) ≡ pos 0) → i ≡ lead xs
lead_found xs i h l n =
    let d = lead_none (get_or xs i (pos 0)) (drop (i + 1) xs) (int_eq (get_or xs i (pos 0)) (pos 0)) refl n in
    let m : drop i xs ≡ get_or xs i (pos 0) ∷ drop (i + 1) xs = drop_more xs i (pos 0) l in
    sym (h.value ∙ ap (λ t. i + lead t) m ∙ (omega (arith, d)))

pub lead_end : (xs : List ℤ) (i : ℕ) → LeadHalfway xs i → length xs ≤ i → length xs ≡ lead xs
lead_end xs i h l = let e = h.value ∙ ap (λ t. i + lead t) (drop_all i xs l) in omega (arith, h.room, e)

pub ruleset lead_steps = (lead_start, lead_step, lead_found, lead_end)

zero_entries : (xs : List ℤ) (b : Bool) → (lead xs == length xs) ≡ b → (b ≡ true) ↔ IsZero xs
zero_entries xs true e =
    ((λ _. elim (lead_or xs) [ inl z ↦ z | inr p ↦ absurd (omega (arith, p.0, eqb-true (lead xs) (length xs) e)) ]), (λ _. refl))
zero_entries xs false e =
    ((λ f. absurd cc), (λ z. elim (lead_or xs) [ inl y ↦ absurd (eqb-false (lead xs) (length xs) e (lead_all xs z)) | inr p ↦ absurd (p.1 (z (lead xs))) ]))
  where
    lead_all : (xs : List ℤ) → IsZero xs → lead xs ≡ length xs
    lead_all [] z = refl
    lead_all (x ∷ xs) z = lead_zero x xs (z 0) ∙ ap suc (lead_all xs (λ i. z (suc i)))

pub zero_test : (xs : List ℤ) (m n : ℕ) → m ≡ lead xs → n ≡ length xs → IsTrue (nat_eq m n) ↔ IsZero xs
zero_test xs m n e f = rw (e, f) (zero_entries xs (lead xs == length xs) refl)

pub ruleset zero_steps = zero_test
