-- The generator's step, and the stages that are drawn one after another.
use Rattle.std.proofs.Common.{◌≡◌, ◌+◌, ◌*◌, ◌%◌, ◌-◌, ◌^◌, ◌<◌, ◌++◌, ℕ, zero, suc, List, [], ◌∷◌, length, refl, ap, sym, ◌∙◌, arith}
use Rattle.std.proofs.lemmas.List.{append_assoc}
use Rattle.std.proofs.Math.Nat.{mod-add-mod, mul_comm}
use Rattle.ac_gen.specs.Draws.{state_after, stage_at, stages}
use Rattle.ac_gen.specs.declared.draws.Stage.{Stage}

pub length_stages : (x n : ℕ) → length (stages x n) ≡ n
length_stages x zero = refl
length_stages x (suc n) = ap suc (length_stages (state_after (state_after (state_after x))) n)

pub next_is : (x : ℕ) → (x * 6364136223846793005 % 2 ^ 64 + 1442695040888963407) % 2 ^ 64 ≡ state_after x
unfolding state_after
next_is x =
    mod-add-mod (x * 6364136223846793005) (2 ^ 64) 1442695040888963407
    ∙ ap (λ p. (p + 1442695040888963407) % 2 ^ 64) (mul_comm x 6364136223846793005)

-- the state after a stage
abbrev pub state_behind : ℕ → ℕ
state_behind x = state_after (state_after (state_after x))

less_one : (n i : ℕ) → i < n → n - i ≡ suc (n - (i + 1))
less_one n i h = omega (arith, h)

-- one more stage of those that are left
pub stages_more : (x n i : ℕ) (seen : List Stage) → i < n → (seen ++ stage_at x ∷ []) ++ stages (state_behind x) (n - (i + 1)) ≡ seen ++ stages x (n - i)
stages_more x n i seen h = append_assoc seen (stage_at x ∷ []) (stages (state_behind x) (n - (i + 1))) ∙ ap (λ k. seen ++ stages x k) (sym (less_one n i h))
