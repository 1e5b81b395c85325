-- What the loop that counts turns keeps.
use Rattle.std.proofs.Common.{◌≡◌, ℕ, ◌+◌, ◌<◌, ◌⊎◌, inl, inr, true, false, sym, ap, ◌∙◌, arith, ℤ, pos, ◌+ℤ◌, ◌*ℤ◌, length}
use Rattle.std.proofs.lemmas.Int.{ints}
use Rattle.std.proofs.Math.IntN.{*ℤ-one, *ℤ-zero, pos-+ℤ-pos}
use Rattle.ac_syntax.specs.Index.{Point, index_value, holds}
use Rattle.ac_syntax.specs.Turns.{inside, iterator_at, turns, Bounded}
use Rattle.ac_syntax.specs.declared.tree.IndexExpr.{IndexExpr}
use Rattle.ac_syntax.specs.declared.tree.Cond.{Cond}
use Rattle.ac_base.proofs.Products.{mul-add_ℤ}
use Rattle.ac_syntax.proofs.Ends.{turns_is}

pub record Walking (p : Point) (start : IndexExpr) (cond : Cond) (step x : ℤ) (k : ℕ) : Type 0 where
  pub place : x ≡ iterator_at (index_value p start) step k
  pub held : (j : ℕ) → j < k → holds (inside p (iterator_at (index_value p start) step j)) cond ≡ true

pub walk_first : (p : Point) (start : IndexExpr) (cond : Cond) (step x : ℤ) → x ≡ index_value p start → Walking p start cond step x 0
walk_first p start cond step x e = record { place = omega (arith, ints, *ℤ-zero step); held = λ j h. absurd (omega arith) }

pub walk_next : (p : Point) (start : IndexExpr) (cond : Cond) (step x : ℤ) (k : ℕ) (y : ℤ) → Walking p start cond step x k → holds (inside p x) cond ≡ true → y ≡ x +ℤ step → Walking p start cond step y (k + 1)
walk_next p start cond step x k y w h e = record {
  place = omega (arith, ints, w.place, mul-add_ℤ step (pos k) (pos 1), *ℤ-one step, ap (λ z. step *ℤ z) (pos-+ℤ-pos k 1));
  held = λ j lt. by j (cases j k lt);
}
  where
    cases : (a b : ℕ) → a < b + 1 → (a < b) ⊎ (a ≡ b)
    cases a b h = grind arith

    by : (j : ℕ) → (j < k) ⊎ (j ≡ k) → holds (inside p (iterator_at (index_value p start) step j)) cond ≡ true
    by j (inl lt) = w.held j lt
    by j (inr e) = ap (λ i. holds (inside p (iterator_at (index_value p start) step i)) cond) e ∙ ap (λ z. holds (inside p z) cond) (sym w.place) ∙ h

pub walk_done : (p : Point) (start : IndexExpr) (cond : Cond) (step x : ℤ) (k n : ℕ) → length p.iters ≡ n → Bounded n step cond → Walking p start cond step x k → holds (inside p x) cond ≡ false → k ≡ turns p start cond step
walk_done p start cond step x k n l b w h = turns_is p start cond step n l b k w.held (ap (λ z. holds (inside p z) cond) (sym w.place) ∙ h)
