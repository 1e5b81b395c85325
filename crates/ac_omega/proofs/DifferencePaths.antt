-- The walk over rows of differences is one path: by the number of columns that are left.
use Rattle.std.proofs.Common.{◌≡◌, ℕ, zero, suc, ◌+◌, ◌*◌, ◌<◌, ◌≤◌, ◌^◌, nat_lt, cond, Bool, true, false, ℤ, List, length, Option, Some, None, arith, refl, sym, subst, ◌∙◌, mul-le-mul_left}
use borrow.Author.Tests.{ltb-true}
use Rattle.ac_forms.specs.NormalForm.{normal_conj}
use Rattle.ac_forms.specs.RangeTests.{rows_fit}
use Rattle.ac_forms.specs.declared.conj.Conj.{Conj}
use Rattle.ac_omega_steps.specs.Choices.{are_absurd, left_by, lifted}
use Rattle.ac_omega_steps.specs.ChoiceFits.{after_choice, choice_fits, lift_fits, raw}
use Rattle.ac_omega_steps.specs.declared.choose.Choice.{Choice}
use Rattle.ac_omega_certify.specs.Alternatives.{Alternatives, alternatives_for}
use Rattle.ac_omega.specs.ColumnChoice.{next_column}
use Rattle.ac_omega.specs.ConjunctionCosts.{pairs_formed, cost_of}
use Rattle.ac_omega.specs.ColumnElimination.{eliminating, look_at}
use Rattle.ac_omega.specs.Maxima.{Maxima, with_rows, with_choice}
use Rattle.ac_omega.proofs.AllColumns.{AreBelow}
use Rattle.ac_omega.specs.Walk.{Walked, Empty, Spent, Absurd, behind, entered, tries, looked, walk}
use Rattle.ac_omega.proofs.Rows.{column-cost}
use Rattle.ac_omega.proofs.DifferenceNormals.{rows-fit}
use Rattle.ac_omega.proofs.DifferenceChoices.{leave}
use Rattle.ac_omega.proofs.DifferencePoints.{AreWithin, within-more}
use Rattle.ac_omega.proofs.DifferenceAlternatives.{OneChoice, one-choice}
use Rattle.ac_omega.proofs.DifferenceNexts.{next-left, leave-less}
use Rattle.ac_omega.proofs.DifferencePairs.{formed-few}
use Rattle.ac_omega.proofs.DifferenceWalks.{level, cost, cost-step, cost-level, squares, grown, grown-least, Standing, normal-standing, AreSmall, rows-small, Comes, zeros-within, zeros-length, behind-comes}
use Rattle.ac_omega_certify.specs.declared.strategy.Strategy.{Strategy}
use Rattle.ac_omega_certify.specs.declared.strategy.Strategy.TheVariants.{Full, Economical}

-- what is the same all along
pub record Frame (strategy : Strategy) (top n : ℕ) (cols : List ℕ) : Type 0 where
  pub below : AreBelow strategy n cols
  pub one : 1 ≤ top
  pub room : 121 * top < 2 ^ 127

-- where m columns are left
pub record Stage (top n m : ℕ) (vars : List ℕ) (b : ℕ) (c : Conj) : Type 0 where
  pub short : length vars ≤ m
  pub depth : m ≤ 60
  pub columns : c.columns ≡ n
  pub standing : Standing vars b c
  pub one : 1 ≤ b
  pub grows : grown m b ≤ top

rows-within : (r s q : ℕ) → r ≤ 2 * s → r ≤ 2 * s + q
rows-within r s q l = omega arith

both-within : (r s p q : ℕ) → r ≤ 2 * s → p ≤ q → r + p ≤ 2 * s + q
both-within r s p q l h = omega arith

square-within : (p v m : ℕ) → p ≤ v * v → v ≤ m → p ≤ m * m
square-within p v m h l = omega (arith, h, mul-le-mul_left v l, mul-le-mul_left m l)

-- the rows and the pairs of a stage
pub stage-cost : (strategy : Strategy) (top n m : ℕ) (cols vars : List ℕ) (b : ℕ) (c : Conj) → Stage top n m vars b c → cost_of strategy cols c.rows ≤ level m
unfolding level cost_of
stage-cost strategy top n m cols vars b c h = by strategy
  where
    few : length c.rows ≤ 2 * (suc m * suc m)
    few = omega (arith, h.standing.few, squares (length vars) m h.short)

    formed : pairs_formed cols c.rows ≤ m * m
    formed = square-within (pairs_formed cols c.rows) (length vars) m (formed-few vars cols b c.rows h.standing.rows h.standing.apart) h.short

    by : (strategy : Strategy) → cost_of strategy cols c.rows ≤ 2 * (suc m * suc m) + m * m
    by Full = rows-within (length c.rows) (suc m * suc m) (m * m) few
    by Economical = both-within (length c.rows) (suc m * suc m) (pairs_formed cols c.rows) (m * m) few formed

abbrev going : Strategy → List ℕ → ℕ → ℕ → Conj → ℕ → Maxima → Walked Maxima
going strategy cols f budget d j t = walk (eliminating strategy cols) f budget d j t

-- the choices, where there are some
abbrev OpenComes : Strategy → ℕ → ℕ → ℕ → List ℕ → ℕ → Conj → ℕ → ℕ → Maxima → Type 0
OpenComes strategy top budget n cols m c fuel k s =
    (f z : ℕ) → fuel ≡ suc f → next_column strategy cols c.rows ≡ Some z → Comes top budget n m k (tries (eliminating strategy cols) (going strategy cols f budget) c (alternatives_for strategy z c.rows) (k + cost_of strategy cols c.rows) (with_rows c.rows s))

looked-comes : (strategy : Strategy) (top budget n m : ℕ) (cols vars : List ℕ) (b : ℕ) (c : Conj) (f k : ℕ) (s : Maxima) → Frame strategy top n cols → Stage top n m vars b c → AreSmall top s
    → ((z : ℕ) → next_column strategy cols c.rows ≡ Some z → Comes top budget n m k (tries (eliminating strategy cols) (going strategy cols f budget) c (alternatives_for strategy z c.rows) (k + cost_of strategy cols c.rows) (with_rows c.rows s)))
    → (t : Bool) (o : Option ℕ) → next_column strategy cols c.rows ≡ o → Comes top budget n m k (looked (eliminating strategy cols) (going strategy cols f budget) c (k + cost_of strategy cols c.rows) (with_rows c.rows s) (cond t Absurd (look_at strategy c o)))
looked-comes strategy top budget n m cols vars b c f k s frame h small open-case true o e =
    (omega (arith, stage-cost strategy top n m cols vars b c h, cost-level m), rows-small vars b top c.rows s h.standing.rows (omega (arith, grown-least m b, h.grows)) frame.one small)
looked-comes strategy top budget n m cols vars b c f k s frame h small open-case false None e = (zeros-within (m * top) c.columns, zeros-length c.columns ∙ h.columns)
looked-comes strategy top budget n m cols vars b c f k s frame h small open-case false (Some z) e = open-case z e

within-comes : (top budget n m k j : ℕ) (t : Bool) (w : Walked Maxima) → nat_lt budget j ≡ t → j ≤ k + cost m → Comes top budget n m k w → Comes top budget n m k (cond t (Spent j) w)
within-comes top budget n m k j true w e l h = omega (arith, ltb-true budget j e)
within-comes top budget n m k j false w e l h = h

walk-stage : (strategy : Strategy) (top budget n m : ℕ) (cols vars : List ℕ) (b : ℕ) (c : Conj) (fuel k : ℕ) (s : Maxima) → Frame strategy top n cols → Stage top n m vars b c → AreSmall top s → budget < fuel + k → OpenComes strategy top budget n cols m c fuel k s
    → Comes top budget n m k (walk (eliminating strategy cols) fuel budget c k s)
unfolding walk
walk-stage strategy top budget n m cols vars b c zero k s frame h small l open-case = omega arith
walk-stage strategy top budget n m cols vars b c (suc f) k s frame h small l open-case =
    within-comes top budget n m k (k + cost_of strategy cols c.rows) (nat_lt budget (k + cost_of strategy cols c.rows)) _ refl (omega (arith, stage-cost strategy top n m cols vars b c h, cost-level m))
    (looked-comes strategy top budget n m cols vars b c f k s frame h small (λ z e. open-case f z refl e) (are_absurd c.rows) (next_column strategy cols c.rows) refl)

-- what the choice leaves
pub after-one : (h : Choice) (c : Conj) → choice_fits h c.rows ≡ true → rows_fit (left_by h c.rows) ≡ true → after_choice h c ≡ Some (normal_conj (raw h c))
unfolding after_choice
after-one h c e f = rw (e, f) refl

some-lifted : (t : Bool) (q : List ℤ) → t ≡ true → cond t (Some q) None ≡ Some q
some-lifted true q e = refl
some-lifted false q e = absurd cc

pub times-room : (m top b : ℕ) → m ≤ 60 → b ≤ top → 121 * top < 2 ^ 127 → m * top + m * top + b < 2 ^ 127
times-room m top b l k room =
    let t : top * m ≤ top * 60 = mul-le-mul_left top l in
    let u : m * top ≤ 60 * top = omega arith in
    omega arith

more-times : (m top b : ℕ) → b ≤ top → m * top + b ≤ suc m * top
more-times m top b l = omega arith

-- the one choice and the walk behind it
choice-comes : (strategy : Strategy) (top budget n m : ℕ) (cols vars : List ℕ) (b : ℕ) (c : Conj) (f z k : ℕ) (s : Maxima) → Frame strategy top n cols → Stage top n (suc m) vars b c → next_column strategy cols c.rows ≡ Some z → (o : OneChoice strategy vars b z c.rows)
    → Comes top budget n m (k + cost_of strategy cols c.rows) (walk (eliminating strategy cols) f budget (normal_conj (raw o.one c)) (k + cost_of strategy cols c.rows) s)
    → Comes top budget n (suc m) k (tries (eliminating strategy cols) (going strategy cols f budget) c (alternatives_for strategy z c.rows) (k + cost_of strategy cols c.rows) s)
unfolding grown
choice-comes strategy top budget n m cols vars b c f z k s frame h e o w =
    let double : b + b ≤ top = omega (arith, grown-least m (b + b), h.grows) in
    let fit = rows-fit (leave z vars) (b + b) (left_by o.one c.rows) (omega (arith, frame.room)) o.left in
    let lift : List ℤ → Option (List ℤ) = λ q. cond (lift_fits o.one c.rows q) (Some (lifted o.one c.rows q)) None in
    let least : b ≤ top = omega arith in
    let back : (q : List ℤ) → AreWithin (m * top) q → length q ≡ n → (p : List ℤ) × (lift q ≡ Some p) × AreWithin (suc m * top) p × (length p ≡ n) = λ q v l.
    let below : z < length q = omega (arith, frame.below c z e, l) in
    let g = o.back (m * top) q below v (times-room m top b (omega (arith, h.depth)) least frame.room) in
    (lifted o.one c.rows q, some-lifted (lift_fits o.one c.rows q) (lifted o.one c.rows q) g.fits, within-more (m * top + b) (suc m * top) (lifted o.one c.rows q) (more-times m top b least) g.within, g.long ∙ l) in
    let sum : k + cost_of strategy cols c.rows + cost m ≤ k + cost (suc m) = omega (arith, stage-cost strategy top n (suc m) cols vars b c h, cost-step m) in
    let y = behind-comes top budget n m k (k + cost_of strategy cols c.rows) _ lift sum back w in
    let y1 = subst (λ (t : Maxima). Comes top budget n (suc m) k (behind (going strategy cols f budget (normal_conj (raw o.one c)) (k + cost_of strategy cols c.rows) t) lift (λ i u. Empty i u))) (sym (o.mark s)) y in
    let y2 = subst (λ (d : Option Conj). Comes top budget n (suc m) k (behind (entered d (λ d. going strategy cols f budget d (k + cost_of strategy cols c.rows) (with_choice o.one s))) lift (λ i u. Empty i u))) (sym (after-one o.one c o.fits fit)) y1 in
    subst (λ (hs : Alternatives). Comes top budget n (suc m) k (tries (eliminating strategy cols) (going strategy cols f budget) c hs (k + cost_of strategy cols c.rows) s)) (sym o.tries) y2

-- one column fewer
pub next-stage : (strategy : Strategy) (top n m : ℕ) (cols vars : List ℕ) (b : ℕ) (c : Conj) (z : ℕ) → Stage top n (suc m) vars b c → next_column strategy cols c.rows ≡ Some z → (o : OneChoice strategy vars b z c.rows) → Stage top n m (leave z vars) (b + b) (normal_conj (raw o.one c))
unfolding grown
next-stage strategy top n m cols vars b c z h e o = record {
  short = omega (arith, leave-less z vars (next-left strategy vars cols b z c.rows h.standing.rows e), h.short);
  depth = omega (arith, h.depth);
  columns = h.columns;
  standing = normal-standing (leave z vars) (b + b) (raw o.one c) (omega (arith, h.one)) o.left;
  one = omega (arith, h.one);
  grows = h.grows;
}

pub none-left : (strategy : Strategy) (top n : ℕ) (cols vars : List ℕ) (b : ℕ) (c : Conj) (z : ℕ) → Stage top n zero vars b c → next_column strategy cols c.rows ≡ Some z → ⊥
none-left strategy top n cols vars b c z h e = omega (arith, leave-less z vars (next-left strategy vars cols b z c.rows h.standing.rows e), h.short)

pub double-fits : (top n m : ℕ) (vars : List ℕ) (b : ℕ) (c : Conj) → Stage top n (suc m) vars b c → 121 * top < 2 ^ 127 → b + b < 2 ^ 127
unfolding grown
double-fits top n m vars b c h room = omega (arith, grown-least m (b + b), h.grows)

pub walk-comes : (strategy : Strategy) (top budget n m : ℕ) (cols vars : List ℕ) (b : ℕ) (c : Conj) (fuel k : ℕ) (s : Maxima) → Frame strategy top n cols → Stage top n m vars b c → AreSmall top s → budget < fuel + k → Comes top budget n m k (walk (eliminating strategy cols) fuel budget c k s)
walk-comes strategy top budget n zero cols vars b c fuel k s frame h small l =
    walk-stage strategy top budget n zero cols vars b c fuel k s frame h small l (λ f z e i. absurd (none-left strategy top n cols vars b c z h i))
walk-comes strategy top budget n (suc m) cols vars b c fuel k s frame h small l =
    walk-stage strategy top budget n (suc m) cols vars b c fuel k s frame h small l
    (λ f z e i.
    let o = one-choice strategy vars b z c.rows (double-fits top n m vars b c h frame.room) h.standing.rows in
    let t = rows-small vars b top c.rows s h.standing.rows (omega (arith, grown-least (suc m) b, h.grows)) frame.one small in
    choice-comes strategy top budget n m cols vars b c f z k (with_rows c.rows s) frame h i o
    (walk-comes strategy top budget n m cols (leave z vars) (b + b) (normal_conj (raw o.one c)) f (k + cost_of strategy cols c.rows) (with_rows c.rows s) frame (next-stage strategy top n m cols vars b c z h i o) t (omega (arith, column-cost strategy cols c.rows z i))))
