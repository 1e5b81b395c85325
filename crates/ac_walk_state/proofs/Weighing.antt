-- The numbers of entries with their weights.
use Rattle.std.proofs.Common.{◌≡◌, ℕ, ◌+◌, ◌<◌, ◌≤◌, ℤ, pos, List, [], ◌∷◌, ◌++◌, length, zip, drop, get_or, refl, ap, sym, ◌∙◌, arith, append_assoc, append-nil}
use Rattle.std.proofs.lemmas.List.{drop_more, drop_all}

-- before place i: what is made, and what is still to come
pub record WeighHalfway (at : List ℕ) (ws : List ℤ) (made : List (ℕ × ℤ)) (i : ℕ) : Type 0 where
  pub room : i ≤ length at
  pub value : zip at ws ≡ made ++ zip (drop i at) (drop i ws)

pub weigh_start : (at : List ℕ) (ws : List ℤ) → WeighHalfway at ws [] 0
weigh_start at ws = record { room = omega arith; value = refl }

pub weigh_step : (at : List ℕ) (ws : List ℤ) (made new : List (ℕ × ℤ)) (i : ℕ) → WeighHalfway at ws made i → i < length at → length at ≡ length ws → new ≡ made ++ (get_or at i 0, get_or ws i (pos 0)) ∷ [] → WeighHalfway at ws new (i + 1)
weigh_step at ws made new i h l e is =
    let a : drop i at ≡ get_or at i 0 ∷ drop (i + 1) at = drop_more at i 0 l in
    let w : drop i ws ≡ get_or ws i (pos 0) ∷ drop (i + 1) ws = drop_more ws i (pos 0) (omega (arith, e)) in
    let x : ℕ × ℤ = (get_or at i 0, get_or ws i (pos 0)) in
    record {
      room = omega arith;
      value = h.value ∙ ap (λ t. made ++ zip t (drop i ws)) a ∙ ap (λ t. made ++ zip (get_or at i 0 ∷ drop (i + 1) at) t) w
          ∙ sym (append_assoc made (x ∷ []) (zip (drop (i + 1) at) (drop (i + 1) ws))) ∙ ap (λ t. t ++ zip (drop (i + 1) at) (drop (i + 1) ws)) (sym is);
    }

pub weigh_end : (at : List ℕ) (ws : List ℤ) (made : List (ℕ × ℤ)) (i : ℕ) → WeighHalfway at ws made i → length at ≤ i → made ≡ zip at ws
weigh_end at ws made i h l = sym (h.value ∙ ap (λ t. made ++ zip t (drop i ws)) (drop_all i at l) ∙ append-nil made)

pub ruleset weigh_steps = (weigh_start, weigh_step, weigh_end)
