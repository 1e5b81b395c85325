-- Covered claims hold: both spots of a pair have agreeing terms.
use Rattle.std.proofs.Common.{◌≡◌, ℕ, zero, suc, ◌+◌, ◌<◌, ◌≤◌, List, [], ◌∷◌, length, Bool, true, false, cond, refl, sym, ap, ◌∙◌, arith, Option, Some, None, ◌⊎◌, inl, inr, subst}
use Rattle.ac_syntax.specs.Index.{Point, index_value}
use Rattle.ac_syntax.specs.Trace.{Entry}
use Rattle.ac_syntax.specs.Algebra.{Algebra, Cell, run, value_of, same_cell, target}
use Rattle.ac_syntax.specs.Term.{Term, Input, free, Num, Initial, terms, Agree, AgreeAll, same, through, under, swap, nothing, both}
use Rattle.ac_syntax.specs.Source.{Writer, source, after}
use Rattle.ac_syntax.specs.ValueNodes.{size}
use Rattle.ac_syntax.specs.Sameness.{left_leaf, right_leaf}
use Rattle.ac_syntax.specs.declared.tree.Value.{Value}
use Rattle.ac_syntax.specs.declared.tree.Value.TheVariants.{Number, Call}
use Rattle.ac_syntax.proofs.Traces.{value_call}
use Rattle.ac_syntax.proofs.Sizes.{size_call}
use Rattle.std.proofs.Common.{map, sum_by}
use Rattle.std.proofs.lemmas.List.Sums.{sum_by-cons}
use Rattle.ac_syntax.specs.declared.tree.Place.{Place}
use Rattle.ac_syntax.specs.declared.tree.Symbol.{Symbol}
use Rattle.ac_syntax.specs.declared.tree.IndexExpr.{IndexExpr}
use Rattle.ac_syntax.proofs.Stored.{run_resolved}
use Rattle.ac_syntax.specs.Spot.{Spot, AtNode, Reads, an_output, an_access, resolved, value_at, entries_before, weight, cell_at}
use Rattle.ac_claims.proofs.Covered.{Runs, Covered, AllCovered, numbers, one_input, hit, go_left, go_right, go_keep, go_swap, no_more, one_more, left_term, right_term, Agreeing}

-- the source stands strictly before
pub source_earlier : (c : Cell) (es : List Entry) (w : Writer) → source c es ≡ Some w → length w.earlier < length es
source_earlier c [] w h = absurd (cc)
source_earlier c (e ∷ es) w h = by (source_earlier c es) (source c es) refl (same_cell c (target e)) h
  where
    by : ((v : Writer) → source c es ≡ Some v → length v.earlier < length es) → (o : Option Writer) → source c es ≡ o → (b : Bool) → after e o (cond b (Some (record { earlier = []; entry = e })) None) ≡ Some w → length w.earlier < suc (length es)
    by before (Some v) i b k = let m : length v.earlier < length es = before v i in let j : w.earlier ≡ e ∷ v.earlier = cc in rw j (omega arith)
    by before None i true k = let j : w.earlier ≡ [] = cc in rw j (omega arith)
    by before None i false k = absurd (cc)

le_or_lt : (a b : ℕ) → (a < b) ⊎ (b ≤ a)
le_or_lt zero zero = inr (omega arith)
le_or_lt zero (suc b) = inl (omega arith)
le_or_lt (suc a) zero = inr (omega arith)
le_or_lt (suc a) (suc b) = elim (le_or_lt a b) as (λ x. (suc a < suc b) ⊎ (suc b ≤ suc a)) [ inl h ↦ inl (omega arith) | inr h ↦ inr (omega arith) ]

-- a step to the source lowers the measures
resolved_lower : (c : Cell) (es : List Entry) (all : List Entry) → (entries_before all (resolved c (source c es)) ≤ length es) × (length es ≤ entries_before all (resolved c (source c es)) → weight (resolved c (source c es)) < 1)
resolved_lower c es all = by (source c es) refl
  where
    by : (o : Option Writer) → source c es ≡ o → (entries_before all (resolved c o) ≤ length es) × (length es ≤ entries_before all (resolved c o) → weight (resolved c o) < 1)
    by None i = (omega arith, λ h. omega arith)
    by (Some w) i = let m : length w.earlier < length es = source_earlier c es w i in (omega arith, λ h. absurd (omega arith))

reads_measure : (es : List Entry) (s : Spot) (c : Cell) (before : List Entry) → Reads es s c before → (entries_before es s ≡ length before) × (weight s ≡ 1)
unfolding size
reads_measure es s c before (an_output d) = (refl, refl)
reads_measure es s c before (an_access w array subs place) = (refl, refl)

-- a step to the source keeps the value
-- what stands at a source does not depend on the entries behind it
at_one_end : (a : Algebra) (es fs : List Entry) (state : Cell → a.Carrier) (c : Cell) (o : Option Writer) → value_at a es state (resolved c o) ≡ value_at a fs state (resolved c o)
at_one_end a es fs state c None = refl
at_one_end a es fs state c (Some w) = refl

pub reads_value : (a : Algebra) (es : List Entry) (state : Cell → a.Carrier) (s : Spot) (c : Cell) (before : List Entry) → Reads es s c before → value_at a es state s ≡ value_at a es state (resolved c (source c before))
unfolding value_of
reads_value a es state s c before (an_output d) = run_resolved a es state d
reads_value a es state s c before (an_access w array subs place) = run_resolved a w.earlier state (cell_at w array subs) ∙ at_one_end a w.earlier es state (cell_at w array subs) (source (cell_at w array subs) w.earlier)

-- both measures of a pair
abbrev pub before_both : Runs → Spot → Spot → ℕ
before_both r s t = entries_before r.left s + entries_before r.right t

abbrev pub weight_both : Spot → Spot → ℕ
weight_both s t = weight s + weight t

-- the pair has come below the one with the measures n and m
pub record Below (n m : ℕ) (before weight : ℕ) : Type 0 where
  pub entries : before ≤ n
  pub sizes : n ≤ before → weight < m

-- or may stand at it still
pub record Reached (n m : ℕ) (b : Bool) (before weight : ℕ) : Type 0 where
  pub entries : before ≤ n
  pub sizes : n ≤ before → weight ≤ m
  pub gone : b ≡ true → n ≤ before → weight < m

reached_below : {n m : ℕ} {b : Bool} {p w p' w' : ℕ} → Reached n m b p w → p' ≤ p → (p ≤ p' → w' < w) → Below n m p' w'
reached_below {n} {m} {b} {p} {w} {p'} {w'} h le lt = record { entries = let k : p ≤ n = h.entries in omega arith; sizes = λ k. let a : p ≤ n = h.entries in let c : w ≤ m = h.sizes (omega arith) in let d : w' < w = lt (omega arith) in omega arith }

below_reached : {n m : ℕ} {b : Bool} {p w : ℕ} → Below n m p w → Reached n m b p w
below_reached {n} {m} {b} {p} {w} h = record { entries = h.entries; sizes = λ k. let d : w < m = h.sizes k in omega arith; gone = λ e. h.sizes }

below_less : {n m p w w' : ℕ} → Below n m p w → w' ≤ w → Below n m p w'
below_less {n} {m} {p} {w} {w'} h le = record { entries = h.entries; sizes = λ k. let d : w < m = h.sizes k in omega arith }

sum_cons : (v : Value) (xs : List Value) → sum_by size (v ∷ xs) ≡ size v + sum_by size xs
sum_cons v xs = sum_by-cons size v xs

sum_two : (v u : Value) → sum_by size (v ∷ u ∷ []) ≡ size v + size u
sum_two v u = omega (arith, sum_cons v (u ∷ []), sum_cons u [])

agree_leaf : (is_input : ℕ → Bool) (swaps : Symbol → Bool) (c : Cell) → is_input c.array ≡ true → Agree swaps (Initial (left_leaf is_input c)) (Initial (right_leaf is_input c))
agree_leaf is_input swaps c h = rw h (same (Initial (Input c)))

same_if : (swaps : Symbol → Bool) (t u : Term) → t ≡ u → Agree swaps t u
same_if swaps t u e = subst (λ (x : Term). Agree swaps t x) e (same t)

number_term : (p : Point) (state : Cell → Term) (e : IndexExpr) → value_of free p state (Number e) ≡ Num (index_value p e)
unfolding value_of
number_term p state e = refl

-- the measures of the steps
read_lower : (es : List Entry) (s : Spot) (c : Cell) (before : List Entry) → Reads es s c before → (entries_before es (resolved c (source c before)) ≤ entries_before es s) × (entries_before es s ≤ entries_before es (resolved c (source c before)) → weight (resolved c (source c before)) < weight s)
read_lower es s c before h =
    let e : entries_before es s ≡ length before = (reads_measure es s c before h).0 in
    let w : weight s ≡ 1 = (reads_measure es s c before h).1 in
    rw (e, w) (resolved_lower c before es)

module _ (r : Runs) (Claimed : Spot → Spot → Type 0) (n m : ℕ)
    (known : (s t : Spot) → Below n m (before_both r s t) (weight_both s t) → Claimed s t → Agreeing r s t) where
  left_reached : {b : Bool} (s t : Spot) (c : Cell) (before : List Entry) → Reads r.left s c before → Reached n m b (before_both r s t) (weight_both s t) → Reached n m true (before_both r (resolved c (source c before)) t) (weight_both (resolved c (source c before)) t)
  left_reached s t c before h k =
      let le : entries_before r.left (resolved c (source c before)) ≤ entries_before r.left s = (read_lower r.left s c before h).0 in
      let lt : entries_before r.left s ≤ entries_before r.left (resolved c (source c before)) → weight (resolved c (source c before)) < weight s = (read_lower r.left s c before h).1 in
      below_reached (reached_below k (omega arith) (λ e. omega arith))

  right_reached : {b : Bool} (s t : Spot) (c : Cell) (before : List Entry) → Reads r.right t c before → Reached n m b (before_both r s t) (weight_both s t) → Reached n m true (before_both r s (resolved c (source c before))) (weight_both s (resolved c (source c before)))
  right_reached s t c before h k =
      let le : entries_before r.right (resolved c (source c before)) ≤ entries_before r.right t = (read_lower r.right t c before h).0 in
      let lt : entries_before r.right t ≤ entries_before r.right (resolved c (source c before)) → weight (resolved c (source c before)) < weight t = (read_lower r.right t c before h).1 in
      below_reached (reached_below k (omega arith) (λ e. omega arith))

  calls_below : {b : Bool} (w u : Writer) (f : Symbol) (xs ys : List Value) (p q : Place) → Reached n m b (before_both r (AtNode w (Call f xs p)) (AtNode u (Call f ys q))) (weight_both (AtNode w (Call f xs p)) (AtNode u (Call f ys q)))
      → Below n m (length w.earlier + length u.earlier) (sum_by size xs + sum_by size ys)
  calls_below w u f xs ys p q k =
      let a : size (Call f xs p) ≡ sum_by size xs + 1 = size_call f xs p in
      let b : size (Call f ys q) ≡ sum_by size ys + 1 = size_call f ys q in
      reached_below k (omega arith) (λ e. omega arith)

  mutual
    covered : {b : Bool} {s t : Spot} → Covered r Claimed b s t → Reached n m b (before_both r s t) (weight_both s t) → Agreeing r s t
    covered (numbers b w u e f h) k = same_if r.swaps _ _ (number_term w.entry.point _ e ∙ ap Num h ∙ sym (number_term u.entry.point _ f))
    covered (one_input b c h) k = agree_leaf r.is_input r.swaps c h
    covered (hit s t h) k = known s t (record { entries = k.entries; sizes = k.gone refl }) h
    covered (go_left b s t c before h g) k =
        subst (λ (x : Term). Agree r.swaps x (right_term r t)) (sym (reads_value free r.left (λ c. Initial (left_leaf r.is_input c)) s c before h)) (covered g (left_reached s t c before h k))
    covered (go_right b s t c before h g) k =
        subst (λ (x : Term). Agree r.swaps (left_term r s) x) (sym (reads_value free r.right (λ c. Initial (right_leaf r.is_input c)) t c before h)) (covered g (right_reached s t c before h k))
    covered (go_keep b w u f xs ys p q g) k =
        rw (value_call free w.entry.point (run free w.earlier (λ c. Initial (left_leaf r.is_input c))) f xs p, value_call free u.entry.point (run free u.earlier (λ c. Initial (right_leaf r.is_input c))) f ys q)
        (under f _ _ (all_covered g (calls_below w u f xs ys p q k)))
    covered (go_swap b w u f x y z v p q h g g') k =
        let l : Below n m (length w.earlier + length u.earlier) (sum_by size (x ∷ y ∷ []) + sum_by size (z ∷ v ∷ [])) = calls_below w u f (x ∷ y ∷ []) (z ∷ v ∷ []) p q k in
        rw (value_call free w.entry.point (run free w.earlier (λ c. Initial (left_leaf r.is_input c))) f (x ∷ y ∷ []) p, value_call free u.entry.point (run free u.earlier (λ c. Initial (right_leaf r.is_input c))) f (z ∷ v ∷ []) q)
        (through _ _ _ (under f _ _ (both _ _ _ _ (covered g (below_reached (below_less l (omega (arith, sum_two x y, sum_two z v))))) (both _ _ _ _ (covered g' (below_reached (below_less l (omega (arith, sum_two x y, sum_two z v))))) nothing))) (swap f _ _ h))

    all_covered : {w u : Writer} {xs ys : List Value} → AllCovered r Claimed w u xs ys → Below n m (length w.earlier + length u.earlier) (sum_by size xs + sum_by size ys) → AgreeAll r.swaps (terms (map (λ v. left_term r (AtNode w v)) xs)) (terms (map (λ v. right_term r (AtNode u v)) ys))
    all_covered (no_more w u) k = nothing
    all_covered (one_more w u a b xs ys g gs) k = both _ _ _ _ (covered g (below_reached (below_less k (omega (arith, sum_cons a xs, sum_cons b ys))))) (all_covered gs (below_less k (omega (arith, sum_cons a xs, sum_cons b ys))))

-- valid claims: each pair that is claimed is covered, with a step above each hit
abbrev pub Valid : Runs → (Spot → Spot → Type 0) → Type 0
Valid r Claimed = (s t : Spot) → Claimed s t → Covered r Claimed false s t

by_size : (r : Runs) (Claimed : Spot → Spot → Type 0) → Valid r Claimed → (n : ℕ) → ((s t : Spot) → before_both r s t < n → Claimed s t → Agreeing r s t)
    → (m : ℕ) (s t : Spot) → before_both r s t ≤ n → weight_both s t < m → Claimed s t → Agreeing r s t
by_size r Claimed valid n outer zero s t h k c = absurd (omega arith)
by_size r Claimed valid n outer (suc m) s t h k c =
    covered r Claimed (before_both r s t) (weight_both s t) (λ s' t' b. by s' t' b (le_or_lt (before_both r s' t') n) (by_size r Claimed valid n outer m s' t'))
    (valid s t c) (record { entries = omega arith; sizes = λ e. omega arith; gone = λ e. absurd cc })
  where
    by : (s' t' : Spot) → Below (before_both r s t) (weight_both s t) (before_both r s' t') (weight_both s' t') → (before_both r s' t' < n) ⊎ (n ≤ before_both r s' t')
        → (before_both r s' t' ≤ n → weight_both s' t' < m → Claimed s' t' → Agreeing r s' t') → Claimed s' t' → Agreeing r s' t'
    by s' t' b (inl lt) inner = outer s' t' lt
    by s' t' b (inr ge) inner =
        let e : before_both r s' t' ≤ before_both r s t = b.entries in
        let w : weight_both s' t' < weight_both s t = b.sizes (omega arith) in
        inner (omega arith) (omega arith)

by_place : (r : Runs) (Claimed : Spot → Spot → Type 0) → Valid r Claimed → (n : ℕ) (s t : Spot) → before_both r s t < n → Claimed s t → Agreeing r s t
by_place r Claimed valid zero s t h = absurd (omega arith)
by_place r Claimed valid (suc n) s t h = by_size r Claimed valid n (by_place r Claimed valid n) (suc (weight_both s t)) s t (omega arith) (omega arith)

-- THE central theorem: valid claims hold
pub claims_hold : (r : Runs) (Claimed : Spot → Spot → Type 0) → Valid r Claimed → (s t : Spot) → Claimed s t → Agreeing r s t
claims_hold r Claimed valid s t = by_place r Claimed valid (suc (before_both r s t)) s t (omega arith)
