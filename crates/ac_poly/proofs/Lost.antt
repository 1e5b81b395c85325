-- Where something around does not fit, or there are too many pieces, the first assignment inside is the first fault.
use Rattle.std.proofs.Common.{◌≡◌, ◌⊎◌, inl, inr, ℕ, ℤ, suc, ◌+◌, ◌*◌, ◌<◌, ◌≤◌, List, [], ◌∷◌, ◌++◌, length, map, Bool, true, false, refl, sym, ap, ◌∙◌, arith, Option, Some, None, subst, length-append}
use Rattle.std.specs.Prelude.{nat_lt}
use Rattle.std.specs.List.{flat_map}
use Rattle.std.proofs.lemmas.List.{length-map}
use Rattle.std.proofs.lemmas.Bool.Decides.{nat_tests}
use Rattle.ac_forms.specs.Affine.{Affine}
use Rattle.ac_forms.specs.declared.row.Row.{Row}
use Rattle.ac_syntax.specs.LoopNests.{loop_count, loop_count_in}
use Rattle.ac_syntax.specs.ReadyPrograms.{Ready, ReadyIn, ReadyAll}
use Rattle.ac_syntax.specs.declared.tree.Rel.{Rel}
use Rattle.ac_syntax.specs.declared.tree.Rel.TheVariants.{NonNegative, Zero, Divides}
use Rattle.ac_syntax.specs.declared.tree.Place.{Place}
use Rattle.ac_syntax.specs.declared.tree.Comparison.{Comparison}
use Rattle.ac_syntax.specs.declared.tree.Cond.{Cond}
use Rattle.ac_syntax.specs.declared.tree.Stmt.{Stmt, Row_of-Stmt, end_of-Stmt, more_of-Stmt}
use Rattle.ac_syntax.specs.declared.tree.Stmt.TheVariants.{For', If', Assign}
use Rattle.ac_syntax.specs.declared.tree.IndexExpr.{IndexExpr}
use Rattle.ac_poly_quotients.specs.ComparisonWays.{with_each, failing_by}
use Rattle.ac_poly_quotients.specs.QuotientScopes.{with_quots, part_quots, lowered_in, rel_way, part_way, in_loop, where_holds, where_fails}
use Rattle.ac_poly_quotients.specs.ScopeRange.{CanHold, CanFail, CanEnter}
use Rattle.ac_poly_quotients.specs.declared.types.Scope.{Scope}
use Rattle.ac_poly_quotients.proofs.NotedColumns.{grown_all}
use Rattle.ac_poly.specs.Lower.{lower, lower_in, lower_all}
use Rattle.ac_poly.specs.LoweringRange.{CanAssign}
use Rattle.ac_poly.specs.LoweringFaults.{IsLowerable, IsLowerableIn, Names, IsFirst, IsFirstIn, AreLowerable, IsFirstAll}
use Rattle.ac_poly.specs.LoweringSteps.{ways, ways_by, pieces_by, or_first, fault, fault_in, fault_all}
use Rattle.ac_poly.specs.declared.types.LowerFault.{LowerFault}
use Rattle.ac_poly.specs.declared.types.LowerFault.TheVariants.{Pieces, Wide, Memory}

length-failing : (sc : Scope) (its : List Affine) (cs : List Comparison) (q : List Row) → length (failing_by (map (part_way sc its) cs) q) ≡ ways cs
length-failing sc its [] q = refl
length-failing sc its (c ∷ cs) q =
    length-append (with_each q (part_way sc its c).negations) (failing_by (map (part_way sc its) cs) (q ++ (part_way sc its c).row ∷ []))
    ∙ (λ i. one c.form c.rel (lowered_in sc its c.form) i + length-failing sc its cs (q ++ (part_way sc its c).row ∷ []) i)
  where
    one : (e : IndexExpr) (r : Rel) (f : Affine) → length (with_each q (rel_way sc e r f).negations) ≡ ways_by r
    one e NonNegative f = refl
    one e Zero f = refl
    one e (Divides m) f = refl

length-parts : (sc : Scope) (its : List Affine) (cs : List Comparison) (qs : List (List Row)) → length (flat_map (failing_by (map (part_way sc its) cs)) qs) ≡ length qs * ways cs
length-parts sc its cs [] = grind arith
length-parts sc its cs (q ∷ qs) =
    let e = length-append (failing_by (map (part_way sc its) cs) q) (flat_map (failing_by (map (part_way sc its) cs)) qs) in
    let f = length-failing sc its cs q in
    let g = length-parts sc its cs qs in
    grind (arith, e, f, g)

-- how many pieces there are in a loop, and where a condition holds and where it fails
pub length-loop : (sc : Scope) (number : ℕ) (start : IndexExpr) (cond : Cond) (step : ℤ) → length (in_loop sc number start cond step).pieces ≡ length sc.pieces
length-loop sc number start cond step = length-map (with_quots sc start.quots).pieces _ ∙ ap length (grown_all sc start.quots).pieces

pub length-holds : (sc : Scope) (cond : Cond) → length (where_holds sc cond).pieces ≡ length sc.pieces
length-holds sc cond = length-map (with_quots sc (flat_map part_quots cond.parts)).pieces _ ∙ ap length (grown_all sc (flat_map part_quots cond.parts)).pieces

pub length-fails : (sc : Scope) (cond : Cond) → length (where_fails sc cond).pieces ≡ length sc.pieces * ways cond.parts
length-fails sc cond =
    let c : Scope = with_quots sc (flat_map part_quots cond.parts) in
    length-parts c c.iters cond.parts c.pieces ∙ ap (λ (qs : List (List Row)). length qs * ways cond.parts) (grown_all sc (flat_map part_quots cond.parts)).pieces

ways_some : (cs : List Comparison) → 0 < length cs → 0 < ways cs
ways_some [] h = absurd (omega arith)
ways_some (c ∷ cs) h = by c.rel
  where
    by : (r : Rel) → 0 < ways_by r + ways cs
    by NonNegative = omega arith
    by Zero = omega arith
    by (Divides m) = omega arith

-- not fine, whatever is inside
abbrev pub Lost : Scope → Type 0 → Type 0
Lost sc ok = (¬ ok) ⊎ (16 < length sc.pieces)

lost_loop : (sc inner : Scope) (ok more : Type 0) → length inner.pieces ≡ length sc.pieces → Lost sc ok → Lost inner (ok × more)
lost_loop sc inner ok more e (inl n) = inl (λ h. n h.0)
lost_loop sc inner ok more e (inr l) = inr (omega arith)

lost_other : (sc : Scope) (cond : Cond) (ok more : Type 0) → 0 < length cond.parts → Lost sc ok → Lost (where_fails sc cond) (ok × more)
lost_other sc cond ok more h (inl n) = inl (λ h. n h.0)
lost_other sc cond ok more h (inr l) = inr (let w = ways_some cond.parts h in let e = length-fails sc cond in more_of (length sc.pieces) (ways cond.parts) _ l w e)
  where
    more_of : (a w n : ℕ) → 16 < a → 0 < w → n ≡ a * w → 16 < n
    more_of a w n h i e = rw e (many a w h i)
      where
        many : (a w : ℕ) → 16 < a → 0 < w → 16 < a * w
        many a w h i = grind arith

-- the number of pieces, or both are too many
abbrev pub Counts : ℕ → ℕ → Type 0
Counts n m = (n ≡ m) ⊎ ((16 < n) × (16 < m))

counts_as : (n m k : ℕ) → k ≡ m → Counts n m → Counts n k
counts_as n m k e h = subst (Counts n) (sym e) h

many : (a w : ℕ) → 16 < a → 0 < w → 16 < a * w
many a w h i = grind arith

pub counts_by : (n m w : ℕ) → 0 < w → Counts n m → Counts (pieces_by n w) (m * w)
counts_by n m w h c = by (nat_lt 16 n) refl c
  where
    by : (b : Bool) → nat_lt 16 n ≡ b → Counts n m → Counts (Rattle.std.proofs.Common.cond (nat_lt 16 n) n (n * w)) (m * w)
    by true e (inl q) = let l : 16 < n = grind (arith, nat_tests, e) in rw e (inr (l, many m w (subst (λ k. 16 < k) q l) h))
    by true e (inr p) = rw e (inr (p.0, many m w p.1 h))
    by false e (inl q) = rw e (inl (ap (λ k. k * w) q))
    by false e (inr p) = absurd (let l : n ≤ 16 = grind (arith, nat_tests, e) in omega (arith, p.0))

counts_other : (n : ℕ) (sc : Scope) (cond : Cond) → 0 < length cond.parts → Counts n (length sc.pieces) → Counts (pieces_by n (ways cond.parts)) (length (where_fails sc cond).pieces)
counts_other n sc cond h c = counts_as _ _ _ (length-fails sc cond) (counts_by n (length sc.pieces) (ways cond.parts) (ways_some cond.parts h) c)

neither : (a b : Option LowerFault) → or_first a b ≡ None → (a ≡ None) × (b ≡ None)
neither None b h = (refl, h)
neither (Some f) b h = absurd (let k : Some f ≡ None = h in cc)

-- the answer at an option: fine, or the first
abbrev pub Tells : Option LowerFault → Type 0 → (LowerFault → Type 0) → Type 0
Tells None fine first = fine
Tells (Some f) fine first = first f

tells_or : (a b : Option LowerFault) (P Q : Type 0) (F G : LowerFault → Type 0) → Tells a P F → Tells b Q G → Tells (or_first a b) (P × Q) (λ f. F f ⊎ (P × G f))
tells_or None None P Q F G h i = (h, i)
tells_or None (Some g) P Q F G h i = inr (h, i)
tells_or (Some f) b P Q F G h i = inl h

mutual
  unfolding IsLowerable IsFirst fault Ready

  pub lost : (ps xs : ℕ) (s : Stmt) (loop : ℕ) (sc : Scope) (ok : Type 0) (n : ℕ) → Ready ps xs s → Lost sc ok → Counts n (length sc.pieces) → Tells (fault s n) (IsLowerable s loop sc ok) (IsFirst s loop sc ok)
  lost ps xs (For' iter start cond step k body place) loop sc ok n r l e =
      lost_in ps (xs + 1) body (suc loop) (in_loop sc loop start cond step) (ok × CanEnter sc loop start cond step) n r.4
      (lost_loop sc (in_loop sc loop start cond step) ok (CanEnter sc loop start cond step) (length-loop sc loop start cond step) l) (counts_as _ _ _ (length-loop sc loop start cond step) e)
  lost ps xs (If' cond k taken m other place) loop sc ok n r l e =
      tells_or (fault_in taken n) (fault_in other (pieces_by n (ways cond.parts))) _ _ _ _
      (lost_in ps xs taken loop (where_holds sc cond) (ok × CanHold sc cond) n r.1 (lost_loop sc (where_holds sc cond) ok (CanHold sc cond) (length-holds sc cond) l) (counts_as _ _ _ (length-holds sc cond) e))
      (lost_in ps xs other (loop + loop_count_in taken) (where_fails sc cond) (ok × CanFail sc cond) (pieces_by n (ways cond.parts)) r.2 (lost_other sc cond ok (CanFail sc cond) r.3 l)
      (counts_other n sc cond r.3 e))
  lost ps xs (Assign array subs value place) loop sc ok n r l e = by (nat_lt 16 n) refl l e
    where
      by : (b : Bool) → nat_lt 16 n ≡ b → Lost sc ok → Counts n (length sc.pieces) → Names place sc (ok × CanAssign sc subs value) (Rattle.std.proofs.Common.cond (nat_lt 16 n) (Pieces place) (Wide place))
      by true h m (inl q) = rw h (refl, let k : 16 < n = grind (arith, nat_tests, h) in omega arith)
      by true h m (inr p) = rw h (refl, p.1)
      by false h (inl m) (inl q) = rw h (refl, (let k : n ≤ 16 = grind (arith, nat_tests, h) in omega arith), λ k. m k.0)
      by false h (inr g) (inl q) = absurd (let k : n ≤ 16 = grind (arith, nat_tests, h) in omega arith)
      by false h m (inr p) = absurd (let k : n ≤ 16 = grind (arith, nat_tests, h) in omega (arith, p.0))

  pub lost_in : (ps xs : ℕ) {m : _} (b : Row_of-Stmt m) (loop : ℕ) (sc : Scope) (ok : Type 0) (n : ℕ) → ReadyIn ps xs b → Lost sc ok → Counts n (length sc.pieces) → Tells (fault_in b n) (IsLowerableIn b loop sc ok) (IsFirstIn b loop sc ok)
  lost_in ps xs end_of-Stmt loop sc ok n r l e = tt
  lost_in ps xs (more_of-Stmt s rest) loop sc ok n r l e = tells_or (fault s n) (fault_in rest n) _ _ _ _ (lost ps xs s loop sc ok n r.0 l e) (lost_in ps xs rest (loop + loop_count s) sc ok n r.1 l e)

pub lost_all : (ps xs : ℕ) (ss : List Stmt) (loop : ℕ) (sc : Scope) (ok : Type 0) (n : ℕ) → ReadyAll ps xs ss → Lost sc ok → Counts n (length sc.pieces) → Tells (fault_all ss n) (AreLowerable ss loop sc ok) (IsFirstAll ss loop sc ok)
lost_all ps xs [] loop sc ok n r l e = tt
lost_all ps xs (s ∷ ss) loop sc ok n r l e = tells_or (fault s n) (fault_all ss n) _ _ _ _ (lost ps xs s loop sc ok n r.0 l e) (lost_all ps xs ss (loop + loop_count s) sc ok n r.1 l e)

-- nothing is lowered where no assignment is inside
mutual
  unfolding fault lower

  nothing : (s : Stmt) (n loop : ℕ) (sc : Scope) → fault s n ≡ None → lower s loop sc ≡ []
  nothing (For' iter start cond step k body place) n loop sc h = nothing_in body n (suc loop) (in_loop sc loop start cond step) h
  nothing (If' cond k taken m other place) n loop sc h =
      let a = neither (fault_in taken n) (fault_in other (pieces_by n (ways cond.parts))) h in
      λ i. nothing_in taken n loop (where_holds sc cond) a.0 i ++ nothing_in other (pieces_by n (ways cond.parts)) (loop + loop_count_in taken) (where_fails sc cond) a.1 i
  nothing (Assign array subs value place) n loop sc h = cc

  nothing_in : {m : _} (b : Row_of-Stmt m) (n loop : ℕ) (sc : Scope) → fault_in b n ≡ None → lower_in b loop sc ≡ []
  nothing_in end_of-Stmt n loop sc h = refl
  nothing_in (more_of-Stmt s rest) n loop sc h =
      let a = neither (fault s n) (fault_in rest n) h in
      λ i. nothing s n loop sc a.0 i ++ nothing_in rest n (loop + loop_count s) sc a.1 i

pub nothing_all : (ss : List Stmt) (n loop : ℕ) (sc : Scope) → fault_all ss n ≡ None → lower_all ss loop sc ≡ []
nothing_all [] n loop sc h = refl
nothing_all (s ∷ ss) n loop sc h = let a = neither (fault s n) (fault_all ss n) h in λ i. nothing s n loop sc a.0 i ++ nothing_all ss n (loop + loop_count s) sc a.1 i

-- the same facts where the first condition is spelled otherwise
mutual
  unfolding IsLowerable IsFirst

  pub fine_as : (s : Stmt) (loop : ℕ) (sc : Scope) (p q : Type 0) → (p → q) → IsLowerable s loop sc p → IsLowerable s loop sc q
  fine_as (For' iter start cond step k body place) loop sc p q f h = fine_as_in body (suc loop) (in_loop sc loop start cond step) _ _ (λ a. (f a.0, a.1)) h
  fine_as (If' cond k taken m other place) loop sc p q f h = (fine_as_in taken loop (where_holds sc cond) _ _ (λ a. (f a.0, a.1)) h.0, fine_as_in other (loop + loop_count_in taken) (where_fails sc cond) _ _ (λ a. (f a.0, a.1)) h.1)
  fine_as (Assign array subs value place) loop sc p q f h = (h.0, f h.1, h.2)

  pub fine_as_in : {m : _} (b : Row_of-Stmt m) (loop : ℕ) (sc : Scope) (p q : Type 0) → (p → q) → IsLowerableIn b loop sc p → IsLowerableIn b loop sc q
  fine_as_in end_of-Stmt loop sc p q f h = tt
  fine_as_in (more_of-Stmt s rest) loop sc p q f h = (fine_as s loop sc p q f h.0, fine_as_in rest (loop + loop_count s) sc p q f h.1)

names_as : (place : Place) (sc : Scope) (p q : Type 0) (f : LowerFault) → (q → p) → Names place sc p f → Names place sc q f
names_as place sc p q (Pieces x) g h = h
names_as place sc p q (Wide x) g h = (h.0, h.1, λ a. h.2 (g a))
names_as place sc p q (Memory x) g h = h

mutual
  unfolding IsLowerable IsFirst

  pub first_as : (s : Stmt) (loop : ℕ) (sc : Scope) (p q : Type 0) (f : LowerFault) → (p → q) → (q → p) → IsFirst s loop sc p f → IsFirst s loop sc q f
  first_as (For' iter start cond step k body place) loop sc p q f a b h = first_as_in body (suc loop) (in_loop sc loop start cond step) _ _ f (λ x. (a x.0, x.1)) (λ x. (b x.0, x.1)) h
  first_as (If' cond k taken m other place) loop sc p q f a b (inl h) = inl (first_as_in taken loop (where_holds sc cond) _ _ f (λ x. (a x.0, x.1)) (λ x. (b x.0, x.1)) h)
  first_as (If' cond k taken m other place) loop sc p q f a b (inr h) =
      inr (fine_as_in taken loop (where_holds sc cond) _ _ (λ x. (a x.0, x.1)) h.0, first_as_in other (loop + loop_count_in taken) (where_fails sc cond) _ _ f (λ x. (a x.0, x.1)) (λ x. (b x.0, x.1)) h.1)
  first_as (Assign array subs value place) loop sc p q f a b h = names_as place sc _ _ f (λ x. (b x.0, x.1)) h

  pub first_as_in : {m : _} (c : Row_of-Stmt m) (loop : ℕ) (sc : Scope) (p q : Type 0) (f : LowerFault) → (p → q) → (q → p) → IsFirstIn c loop sc p f → IsFirstIn c loop sc q f
  first_as_in end_of-Stmt loop sc p q f a b h = h
  first_as_in (more_of-Stmt s rest) loop sc p q f a b (inl h) = inl (first_as s loop sc p q f a b h)
  first_as_in (more_of-Stmt s rest) loop sc p q f a b (inr h) = inr (fine_as s loop sc p q a h.0, first_as_in rest (loop + loop_count s) sc p q f a b h.1)
