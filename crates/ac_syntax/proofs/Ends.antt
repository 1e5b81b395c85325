-- A loop with a comparison that bounds its iterator ends within the bound on its turns.
use Rattle.std.proofs.Math.IntN.{*ℤ-zero, *ℤ-one}
use Rattle.std.proofs.Common.{not, ◌⊎◌, inl, inr, ◌≡◌, ℕ, zero, suc, ◌+◌, ◌<◌, ◌≤◌, List, [], ◌∷◌, length, Bool, true, false, refl, sym, ap, ◌∙◌, arith, subst, ℤ, pos, negsuc, ◌+ℤ◌, ◌*ℤ◌, ◌<ℤ◌, ◌&&◌, unsigned_abs, sum_by}
use Rattle.std.specs.List.{Contains, list_all, AllByRecursion}
use Rattle.std.proofs.lemmas.Int.{ints}
use Rattle.std.proofs.lemmas.List.Sums.{get_or-le-sum_by}
use Rattle.ac_syntax.specs.Index.{Point, index_value, is_nonnegative, is_zero, comparison_holds, holds}
use Rattle.ac_syntax.specs.Turns.{innermost, inside, iterator_at, bounds, bounds_by, is_negative, bound_on_turns, turns, Bounded, IsSteady, own}
use Rattle.ac_syntax.specs.declared.tree.IndexExpr.{IndexExpr}
use Rattle.ac_syntax.specs.declared.tree.Comparison.{Comparison}
use Rattle.ac_syntax.specs.declared.tree.Cond.{Cond}
use Rattle.ac_syntax.specs.declared.tree.Rel.{Rel}
use Rattle.ac_syntax.specs.declared.tree.Rel.TheVariants.{NonNegative, Zero, Divides}
use Rattle.ac_syntax.proofs.Bound.{value_at_turn, fails_by}
use Rattle.ac_syntax.proofs.Turns.{count_ends_by, count_before}

negative : (z : ℤ) → is_negative z ≡ true → z <ℤ pos 0
negative (pos n) h = absurd (let k : false ≡ true = h in cc)
negative (negsuc n) h = omega (arith, ints)

-- one that is negative at some turn fails there
fails_late : (p : Point) (f : IndexExpr) (start step : ℤ) → length f.iters ≡ length p.iters + 1 → AllByRecursion (λ q. own (length p.iters) q.iters ≡ pos 0) f.quots → is_negative (innermost f.iters *ℤ step) ≡ true
    → is_nonnegative (index_value (inside p (iterator_at start step (suc (unsigned_abs (index_value (inside p start) f))))) f) ≡ false
fails_late p f start step l s h = rw (value_at_turn p f start step (suc (unsigned_abs (index_value (inside p start) f))) l s) (fails_by (index_value (inside p start) f) _ (negative _ h))

all_fails : {A : Type 0} (q : A → Bool) (xs : List A) (x : A) → Contains xs x → q x ≡ false → list_all q xs ≡ false
all_fails q [] x h e = absurd (let k : h.0 < 0 = h.1 in omega arith)
all_fails q (y ∷ ys) x (zero, h, i) e = rw (ap q i ∙ e) refl
all_fails q (y ∷ ys) x (suc k, h, i) e = both (q y) (list_all q ys) (all_fails q ys x (k, omega arith, i) e)
  where
    both : (b c : Bool) → c ≡ false → (b && c) ≡ false
    both true c e = e
    both false c e = refl

within : (p : Point) (start : ℤ) (cond : Cond) (c : Comparison) → Contains cond.parts c → suc (unsigned_abs (index_value (inside p start) c.form)) ≤ bound_on_turns p start cond
within p start cond c h =
    let f : Comparison → ℕ = λ c. suc (unsigned_abs (index_value (inside p start) c.form)) in
    subst (λ d. f d ≤ sum_by f cond.parts) h.2 (get_or-le-sum_by f cond.parts h.0 c h.1)

zero_once : (v d : ℤ) → is_zero d ≡ false → (is_zero (v +ℤ (d *ℤ pos 0)) ≡ false) ⊎ (is_zero (v +ℤ (d *ℤ pos 1)) ≡ false)
zero_once v d h = by v (is_zero (v +ℤ (d *ℤ pos 0))) refl
  where
    is_it : (z : ℤ) → is_zero z ≡ true → z ≡ pos 0
    is_it (pos zero) h = refl
    is_it (pos (suc n)) h = absurd (let k : false ≡ true = h in cc)
    is_it (negsuc n) h = absurd (let k : false ≡ true = h in cc)

    by : (v : ℤ) (b : Bool) → is_zero (v +ℤ (d *ℤ pos 0)) ≡ b → (is_zero (v +ℤ (d *ℤ pos 0)) ≡ false) ⊎ (is_zero (v +ℤ (d *ℤ pos 1)) ≡ false)
    by v false e = inl e
    by v true e = inr (ap is_zero (let k : v +ℤ (d *ℤ pos 0) ≡ pos 0 = is_it _ e in let m : v +ℤ (d *ℤ pos 1) ≡ d = omega (arith, ints, *ℤ-zero d, *ℤ-one d) in m) ∙ h)

-- some turn within the bound fails
some_turn : (p : Point) (start step : ℤ) (c : Comparison) (r : Rel) → c.rel ≡ r → length c.form.iters ≡ length p.iters + 1 → IsSteady (length p.iters) c → bounds_by r (innermost c.form.iters *ℤ step) ≡ true
    → (j : ℕ) × (j ≤ suc (unsigned_abs (index_value (inside p start) c.form))) × (comparison_holds (inside p (iterator_at start step j)) c ≡ false)
some_turn p start step c (Divides m) i l s b = absurd cc
some_turn p start step c NonNegative i l s b = (suc (unsigned_abs (index_value (inside p start) c.form)), omega arith, rw i (fails_late p c.form start step l s.quots b))
some_turn p start step c Zero i l s b = by (zero_once (index_value (inside p start) c.form) (innermost c.form.iters *ℤ step) (not_true _ b))
  where
    not_true : (x : Bool) → not x ≡ true → x ≡ false
    not_true true h = sym h
    not_true false h = refl

    by : (is_zero (index_value (inside p start) c.form +ℤ ((innermost c.form.iters *ℤ step) *ℤ pos 0)) ≡ false) ⊎ (is_zero (index_value (inside p start) c.form +ℤ ((innermost c.form.iters *ℤ step) *ℤ pos 1)) ≡ false)
        → (j : ℕ) × (j ≤ suc (unsigned_abs (index_value (inside p start) c.form))) × (comparison_holds (inside p (iterator_at start step j)) c ≡ false)
    by (inl e) = (0, omega arith, rw i (ap is_zero (value_at_turn p c.form start step 0 l s.quots) ∙ e))
    by (inr e) = (1, omega arith, rw i (ap is_zero (value_at_turn p c.form start step 1 l s.quots) ∙ e))

-- the turns of such a loop end because the condition fails
pub turns_end : (p : Point) (start : IndexExpr) (cond : Cond) (step : ℤ) (c : Comparison) → Contains cond.parts c → length c.form.iters ≡ length p.iters + 1 → bounds step c ≡ true → IsSteady (length p.iters) c
    → holds (inside p (iterator_at (index_value p start) step (turns p start cond step))) cond ≡ false
turns_end p start cond step c h l b s =
    let first = index_value p start in
    let t = some_turn p first step c c.rel refl l s b in
    let w : suc (unsigned_abs (index_value (inside p first) c.form)) ≤ bound_on_turns p first cond = within p first cond c h in
    let m : t.0 ≤ suc (unsigned_abs (index_value (inside p first) c.form)) = t.1 in
    count_ends_by (bound_on_turns p first cond) (λ k. holds (inside p (iterator_at first step k)) cond) t.0 (omega arith) (all_fails (comparison_holds (inside p (iterator_at first step t.0))) cond.parts c h t.2)

-- and all before it hold
pub turns_hold : (p : Point) (start : IndexExpr) (cond : Cond) (step : ℤ) (k : ℕ) → k < turns p start cond step → holds (inside p (iterator_at (index_value p start) step k)) cond ≡ true
turns_hold p start cond step k h = count_before (bound_on_turns p (index_value p start) cond) (λ k. holds (inside p (iterator_at (index_value p start) step k)) cond) k h

-- where the condition first fails is the number of turns
pub turns_is : (p : Point) (start : IndexExpr) (cond : Cond) (step : ℤ) (n : ℕ) → length p.iters ≡ n → Bounded n step cond → (k : ℕ)
    → ((j : ℕ) → j < k → holds (inside p (iterator_at (index_value p start) step j)) cond ≡ true) → holds (inside p (iterator_at (index_value p start) step k)) cond ≡ false → k ≡ turns p start cond step
turns_is p start cond step n l b k before at = by (cases k (turns p start cond step))
  where
    not_both : (b : Bool) → b ≡ true → b ≡ false → ⊥
    not_both b e g = cc

    cases : (a b : ℕ) → (a < b) ⊎ ((a ≡ b) ⊎ (b < a))
    cases a b = grind arith

    by : (k < turns p start cond step) ⊎ ((k ≡ turns p start cond step) ⊎ (turns p start cond step < k)) → k ≡ turns p start cond step
    by (inl lt) = absurd (not_both _ (turns_hold p start cond step k lt) at)
    by (inr (inl e)) = e
    by (inr (inr gt)) = absurd (not_both _ (before (turns p start cond step) gt) (turns_end p start cond step b.bound b.stands (b.innermost ∙ ap (λ i. i + 1) (sym l)) b.ends (subst (λ i. IsSteady i b.bound) (sym l) b.steady)))
