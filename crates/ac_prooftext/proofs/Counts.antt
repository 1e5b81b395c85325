-- The counts of open branches, of which the innermost stands last in the list that code keeps.
use Rattle.std.proofs.Common.{rules, ◌≡◌, ◌<◌, ◌+◌, ◌-◌, ℕ, zero, suc, Bool, false, true, cond, nat_le, List, [], ◌∷◌, ◌++◌, length, reverse, slice_index_or, refl, sym, ap, ◌∙◌, arith}
use Rattle.std.specs.Prelude.{slice_set}
use Rattle.std.proofs.lemmas.List.{reverse-append}
use Rattle.ac_prooftext.specs.LineOrder.{Place, closed}
use Rattle.ac_prooftext.specs.declared.stages.Stage.TheVariants as stage

at_last : (xs : List ℕ) (at d : ℕ) → suc at ≡ length xs → (front : List ℕ) × ((length front ≡ at) × (xs ≡ front ++ slice_index_or xs at d ∷ []))
at_last [] at d e = absurd (omega (arith, e))
at_last (x ∷ []) zero d e = ([], (refl, refl))
at_last (x ∷ []) (suc at) d e = absurd (omega (arith, e))
at_last (x ∷ y ∷ ys) zero d e = absurd (omega (arith, e))
at_last (x ∷ y ∷ ys) (suc at) d e =
    let rest = at_last (y ∷ ys) at d (omega (arith, e)) in
    (x ∷ rest.0, (ap suc rest.1.0, ap (λ l. x ∷ l) rest.1.1))

set_last : (front : List ℕ) (n y : ℕ) → slice_set (front ++ n ∷ []) (length front) y ≡ front ++ y ∷ []
set_last [] n y = refl
set_last (x ∷ xs) n y = ap (λ l. x ∷ l) (set_last xs n y)

above : (n : ℕ) → 1 < n → nat_le n 1 ≡ false
above n h = grind arith

-- one child of a branch is complete, and it has another one
pub counted : (xs : List ℕ) (at n : ℕ) → suc at ≡ length xs → n ≡ slice_index_or xs at n → 1 < n → closed (reverse xs) ≡ record { stage = stage.Plan; open_counts = reverse (slice_set xs at (n - 1)) }
counted xs at n e is more =
    let split = at_last xs at n e in
    let front = split.0 in
    let whole : xs ≡ front ++ n ∷ [] = split.1.1 ∙ ap (λ m. front ++ m ∷ []) (sym is) in
    let turned : reverse xs ≡ n ∷ reverse front = ap reverse whole ∙ reverse-append front (n ∷ []) in
    let set : reverse (slice_set xs at (n - 1)) ≡ (n - 1) ∷ reverse front =
    ap (λ l. reverse (slice_set l at (n - 1))) whole ∙ ap (λ k. reverse (slice_set (front ++ n ∷ []) k (n - 1))) (sym split.1.0) ∙ ap reverse (set_last front n (n - 1)) ∙ reverse-append front ((n - 1) ∷ []) in
    ap closed turned ∙ ap (λ b. cond b (closed (reverse front)) (record { stage = stage.Plan; open_counts = (n - 1) ∷ reverse front })) (above n more)
    ∙ (λ i. record { stage = stage.Plan; open_counts = sym set i })
