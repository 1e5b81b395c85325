-- The turns of a loop are the numbers at which its condition holds, if it holds at 0.
use Rattle.std.proofs.Common.{◌≡◌, ℕ, zero, suc, ◌+◌, ◌*◌, ◌<◌, ◌≤◌, refl, sym, ap, ◌∙◌, arith, List, [], ◌∷◌, length, Bool, true, false, ℤ, pos, negsuc, ◌+ℤ◌, ◌*ℤ◌, ◌≤ℤ◌, ◌⊎◌, inl, inr}
use Rattle.std.specs.List.{list_all, AllByRecursion}
use Rattle.std.proofs.lemmas.Int.{ints}
use Rattle.std.proofs.lemmas.Bool.{and_parts, and_from}
use Rattle.std.proofs.Math.IntN.{negsuc-*ℤ-pos, pos-*ℤ-pos, *ℤ-zero}
use Rattle.ac_syntax.specs.Index.{Point, index_value, holds, comparison_holds, rel_holds, is_nonnegative, is_zero}
use Rattle.ac_syntax.specs.Turns.{turns, inside, iterator_at, innermost, Bounded, IsSteady, IsSteadyRel}
use Rattle.ac_syntax.specs.declared.tree.Rel.{Rel}
use Rattle.ac_syntax.specs.declared.tree.Rel.TheVariants.{NonNegative, Zero, Divides}
use Rattle.ac_syntax.specs.declared.tree.IndexExpr.{IndexExpr}
use Rattle.ac_syntax.specs.declared.tree.Comparison.{Comparison}
use Rattle.ac_syntax.specs.declared.tree.Cond.{Cond}
use Rattle.ac_syntax.proofs.Bound.{value_at_turn, value_still}
use Rattle.ac_syntax.proofs.Ends.{turns_end, turns_hold}

nonnegative : (z : ℤ) → is_nonnegative z ≡ true → pos 0 ≤ℤ z
nonnegative (pos n) h = omega (arith, ints)
nonnegative (negsuc n) h = absurd cc

of_nonnegative : (z : ℤ) → pos 0 ≤ℤ z → is_nonnegative z ≡ true
of_nonnegative (pos n) h = refl
of_nonnegative (negsuc n) h = absurd (omega (arith, ints))

is_nought : (z : ℤ) → is_zero z ≡ true → z ≡ pos 0
is_nought (pos zero) h = refl
is_nought (pos (suc n)) h = absurd cc
is_nought (negsuc n) h = absurd cc

mul_mono : (m t k : ℕ) → t ≤ k → m * t ≤ m * k
mul_mono m t k h = grind arith

-- a product with a natural lies between 0 and that with a larger one
between : (d : ℤ) (t k : ℕ) → t ≤ k → ((pos 0 ≤ℤ (d *ℤ pos t)) × ((d *ℤ pos t) ≤ℤ (d *ℤ pos k))) ⊎ (((d *ℤ pos t) ≤ℤ pos 0) × ((d *ℤ pos k) ≤ℤ (d *ℤ pos t)))
between (pos n) t k h = inl (omega (arith, ints, pos-*ℤ-pos n t), omega (arith, ints, pos-*ℤ-pos n t, pos-*ℤ-pos n k, mul_mono n t k h))
between (negsuc m) t k h = let e : suc m * t ≤ suc m * k = mul_mono (suc m) t k h in inr (omega (arith, ints, negsuc-*ℤ-pos m t), omega (arith, ints, negsuc-*ℤ-pos m t, negsuc-*ℤ-pos m k, e))

of_nought : (z : ℤ) → z ≡ pos 0 → is_zero z ≡ true
of_nought z e = rw e refl

-- what holds at 0 and at k holds between
rel_between : (r : Rel) (v d : ℤ) (t k : ℕ) → ((m : ℤ) → r ≡ Divides m → ⊥) → t ≤ k → rel_holds r (v +ℤ (d *ℤ pos 0)) ≡ true → rel_holds r (v +ℤ (d *ℤ pos k)) ≡ true → rel_holds r (v +ℤ (d *ℤ pos t)) ≡ true
rel_between (Divides m) v d t k n h a b = absurd (n m refl)
rel_between NonNegative v d t k n h a b =
    let x = nonnegative _ a in
    let y = nonnegative _ b in
    let z = *ℤ-zero d in
    of_nonnegative _ (by (between d t k h) x y z)
  where
    by : ((pos 0 ≤ℤ (d *ℤ pos t)) × ((d *ℤ pos t) ≤ℤ (d *ℤ pos k))) ⊎ (((d *ℤ pos t) ≤ℤ pos 0) × ((d *ℤ pos k) ≤ℤ (d *ℤ pos t)))
        → pos 0 ≤ℤ (v +ℤ (d *ℤ pos 0)) → pos 0 ≤ℤ (v +ℤ (d *ℤ pos k)) → d *ℤ pos 0 ≡ pos 0 → pos 0 ≤ℤ (v +ℤ (d *ℤ pos t))
    by (inl q) x y z = omega (arith, ints, q.0)
    by (inr q) x y z = omega (arith, ints, q.1)
rel_between Zero v d t k n h a b =
    let x = is_nought _ a in
    let y = is_nought _ b in
    let z = *ℤ-zero d in
    of_nought _ (by (between d t k h) x y z)
  where
    by : ((pos 0 ≤ℤ (d *ℤ pos t)) × ((d *ℤ pos t) ≤ℤ (d *ℤ pos k))) ⊎ (((d *ℤ pos t) ≤ℤ pos 0) × ((d *ℤ pos k) ≤ℤ (d *ℤ pos t)))
        → (v +ℤ (d *ℤ pos 0)) ≡ pos 0 → (v +ℤ (d *ℤ pos k)) ≡ pos 0 → d *ℤ pos 0 ≡ pos 0 → (v +ℤ (d *ℤ pos t)) ≡ pos 0
    by (inl q) x y z = omega (arith, ints, q.0, q.1)
    by (inr q) x y z = omega (arith, ints, q.0, q.1)

comparison_between : (p : Point) (first step : ℤ) (c : Comparison) → length c.form.iters ≡ length p.iters + 1 → IsSteady (length p.iters) c → (t k : ℕ) → t ≤ k → comparison_holds (inside p (iterator_at first step 0)) c ≡ true
    → comparison_holds (inside p (iterator_at first step k)) c ≡ true → comparison_holds (inside p (iterator_at first step t)) c ≡ true
comparison_between p first step c l s t k h a b = by c.rel refl s.rel
  where
    linear : ((m : ℤ) → c.rel ≡ Divides m → ⊥) → comparison_holds (inside p (iterator_at first step t)) c ≡ true
    linear n =
        let v : (j : ℕ) → index_value (inside p (iterator_at first step j)) c.form ≡ index_value (inside p first) c.form +ℤ ((innermost c.form.iters *ℤ step) *ℤ pos j) = λ j. value_at_turn p c.form first step j l s.quots in
        let f : ℤ → Bool = rel_holds c.rel in
        ap f (v t) ∙ rel_between c.rel _ _ t k n h (sym (ap f (v 0)) ∙ a) (sym (ap f (v k)) ∙ b)

    by : (r : Rel) → c.rel ≡ r → IsSteadyRel (length p.iters) r c.form.iters → comparison_holds (inside p (iterator_at first step t)) c ≡ true
    by NonNegative e still = linear (λ m f. cc)
    by Zero e still = linear (λ m f. cc)
    by (Divides m) e still = ap (rel_holds c.rel) (value_still p c.form (iterator_at first step t) (iterator_at first step 0) still s.quots) ∙ a

cond_between : (p : Point) (first step : ℤ) (cs : List Comparison) → AllByRecursion (λ (c : Comparison). length c.form.iters ≡ length p.iters + 1) cs → AllByRecursion (IsSteady (length p.iters)) cs → (t k : ℕ) → t ≤ k → list_all (comparison_holds (inside p (iterator_at first step 0))) cs ≡ true
    → list_all (comparison_holds (inside p (iterator_at first step k))) cs ≡ true → list_all (comparison_holds (inside p (iterator_at first step t))) cs ≡ true
cond_between p first step [] l s t k h a b = refl
cond_between p first step (c ∷ cs) l s t k h a b =
    let x = and_parts _ _ a in
    let y = and_parts _ _ b in
    and_from _ _ (comparison_between p first step c l.0 s.0 t k h x.0 y.0) (cond_between p first step cs l.1 s.1 t k h x.1 y.1)

-- the rows of a loop's piece: the condition at 0 and at the counter
pub turn_rows : (p : Point) (start : IndexExpr) (cond : Cond) (step : ℤ) → Bounded (length p.iters) step cond → AllByRecursion (λ (c : Comparison). length c.form.iters ≡ length p.iters + 1) cond.parts
    → AllByRecursion (IsSteady (length p.iters)) cond.parts → (k : ℕ)
    → holds (inside p (iterator_at (index_value p start) step 0)) cond ≡ true → holds (inside p (iterator_at (index_value p start) step k)) cond ≡ true → k < turns p start cond step
turn_rows p start cond step b l s k at_first at = by (cases k (turns p start cond step))
  where
    not_both : (b : Bool) → b ≡ true → b ≡ false → ⊥
    not_both b e g = cc

    cases : (a b : ℕ) → (a < b) ⊎ (b ≤ a)
    cases a b = grind arith

    by : (k < turns p start cond step) ⊎ (turns p start cond step ≤ k) → k < turns p start cond step
    by (inl lt) = lt
    by (inr le) = absurd (not_both _ (cond_between p (index_value p start) step cond.parts l s (turns p start cond step) k le at_first at) (turns_end p start cond step b.bound b.stands b.innermost b.ends b.steady))

pub rows_turn : (p : Point) (start : IndexExpr) (cond : Cond) (step : ℤ) (k : ℕ) → k < turns p start cond step
    → (holds (inside p (iterator_at (index_value p start) step 0)) cond ≡ true) × (holds (inside p (iterator_at (index_value p start) step k)) cond ≡ true)
rows_turn p start cond step k h = (turns_hold p start cond step 0 (omega arith), turns_hold p start cond step k h)
