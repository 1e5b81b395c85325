-- What a walk has cost where it is given up.
use Rattle.std.proofs.Common.{◌≡◌, ℕ, zero, suc, ◌+◌, ◌-◌, ◌^◌, ◌<◌, ◌≤◌, ℤ, List, [], ◌∷◌, Option, Some, None, nat_lt, Bool, true, false, cond, arith, refl, subst}
use borrow.Author.Tests.{ltb-true, ltb-false}
use Rattle.ac_forms.specs.declared.conj.Conj.{Conj}
use Rattle.ac_omega_certify.specs.declared.strategy.Strategy.{Strategy}
use Rattle.ac_omega.specs.Decisions.{walk_of, IsSpent}
use Rattle.ac_omega.specs.ColumnElimination.{eliminating, normal_of}
use Rattle.ac_omega.specs.Maxima.{nothing_met, with_rows}
use Rattle.ac_omega.specs.WalkAnswers.{columns_to}
use Rattle.ac_omega.specs.Walk.{Walked, Empty, Found, Spent, Wide, Node, Done, Absurd, Open, Method, lifted, behind, entered, tries, looked, walk, HasRows}
use Rattle.ac_omega.proofs.Rows.{has-rows}
use Rattle.ac_omega.proofs.Walks.{open-rows}

-- a walk from a cost on ends within the budget, or is given up above it
Comes : {S : Type 0} → ℕ → ℕ → Walked S → Type 0
Comes k b (Empty j s) = (k ≤ j) × (j ≤ b)
Comes k b (Found p) = Unit {0}
Comes k b (Spent j) = b < j
Comes k b Wide = Unit {0}

comes_lifted : (S : Type 0) (k b : ℕ) (o : Option (List ℤ)) → Comes {S = S} k b (lifted o)
unfolding Comes
comes_lifted S k b None = tt
comes_lifted S k b (Some p) = tt

comes_behind : {S : Type 0} (k b : ℕ) (w : Walked S) (lift : List ℤ → Option (List ℤ)) (rest : ℕ → S → Walked S) → Comes k b w → ((j : ℕ) (s : S) → k ≤ j → j ≤ b → Comes k b (rest j s)) → Comes k b (behind w lift rest)
unfolding Comes
comes_behind k b (Empty j s) lift rest h r = r j s h.0 h.1
comes_behind k b (Found p) lift rest h r = comes_lifted _ k b (lift p)
comes_behind k b (Spent j) lift rest h r = h
comes_behind k b Wide lift rest h r = tt

comes_entered : {C S : Type 0} (k b : ℕ) (o : Option C) (go : C → Walked S) → ((d : C) → Comes k b (go d)) → Comes k b (entered o go)
unfolding Comes
comes_entered k b None go h = tt
comes_entered k b (Some d) go h = h d

comes_less : {S : Type 0} (j k b : ℕ) (w : Walked S) → j ≤ k → Comes k b w → Comes j b w
unfolding Comes
comes_less j k b (Empty n s) l h = (omega arith, h.1)
comes_less j k b (Found p) l h = tt
comes_less j k b (Spent n) l h = h
comes_less j k b Wide l h = tt

comes_tries : {C H S : Type 0} (m : Method C H S) (go : C → ℕ → S → Walked S) (c : C) (hs : List (Option H)) (k : ℕ) (s : S) (b : ℕ) → k ≤ b → ((d : C) (j : ℕ) (t : S) → k ≤ j → j ≤ b → Comes j b (go d j t)) → Comes k b (tries m go c hs k s)
unfolding Comes
comes_tries m go c [] k s b l g = (omega arith, l)
comes_tries m go c (None ∷ hs) k s b l g = tt
comes_tries m go c (Some h ∷ hs) k s b l g =
    comes_behind k b _ (m.lift c h) (tries m go c hs) (comes_entered k b (m.step c h) (λ d. go d k (m.mark h s)) (λ d. g d k (m.mark h s) (omega arith) l))
    (λ j t e f. comes_less k j b _ e (comes_tries m go c hs j t b f (λ d i u x y. g d i u (omega arith) y)))

comes_looked : {C H S : Type 0} (m : Method C H S) (go : C → ℕ → S → Walked S) (c : C) (k : ℕ) (s : S) (b : ℕ) (l : Node H) → k ≤ b → ((hs : List (Option H)) → l ≡ Open hs → (d : C) (j : ℕ) (t : S) → k ≤ j → j ≤ b → Comes j b (go d j t)) → Comes k b (looked m go c k s l)
unfolding Comes
comes_looked m go c k s b (Done p) l g = tt
comes_looked m go c k s b Absurd l g = (omega arith, l)
comes_looked m go c k s b (Open hs) l g = comes_tries m go c hs k s b l (g hs refl)

comes_if : {S : Type 0} (k j b : ℕ) (t : Bool) (w : Walked S) → nat_lt b j ≡ t → (j ≤ b → Comes k b w) → Comes k b (cond t (Spent j) w)
unfolding Comes
comes_if k j b true w e h = ltb-true b j e
comes_if k j b false w e h = h (ltb-false b j e)

-- each conjunction with choices has a row, so the budget is spent before the bound on the path is
comes_walk : {C H S : Type 0} (m : Method C H S) → ((c : C) → HasRows (m.look c) (m.size c)) → (n b : ℕ) (c : C) (k : ℕ) (s : S) → b < n + k → Comes k b (walk m n b c k s)
unfolding walk Comes
comes_walk m rows zero b c k s l = omega (arith, l)
comes_walk m rows (suc n) b c k s l =
    comes_if k (k + m.size c) b (nat_lt b (k + m.size c)) _ refl (λ v. comes_less k (k + m.size c) b _ (omega arith)
    (comes_looked m (λ d j t. walk m n b d j t) c (k + m.size c) (m.note c s) b (m.look c) v
    (λ hs e d j t u w. let r = open-rows (m.look c) hs (m.size c) e (rows c) in comes_walk m rows n b d j t (omega arith))))

-- a question whose walk is given up costs more than the budget
above : (s : Strategy) (budget j : ℕ) (q : Conj) → walk_of s budget q ≡ Spent j → budget < j
unfolding Comes
above s budget j q e = by (normal_of q) e
  where
    by : (o : Option Conj) → entered o (λ c. walk (eliminating s (columns_to c.columns)) (budget + 1) budget c 0 (with_rows q.rows nothing_met)) ≡ Spent j → budget < j
    by None e = absurd cc
    by (Some c) e = subst (Comes 0 budget) e (comes_walk (eliminating s (columns_to c.columns)) (λ d. has-rows s (columns_to c.columns) d) (budget + 1) budget c 0 (with_rows q.rows nothing_met) (omega arith))

pub spent_above : (s : Strategy) (budget cost : ℕ) (q : Conj) → IsSpent cost (walk_of s budget q) → budget < 2 ^ 64 - 1 → budget < cost
spent_above s budget cost q h small = let l = above s budget h.0 q h.1 in omega (arith, l, h.2, small)
