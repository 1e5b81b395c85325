-- Orders by their numbers.
use Rattle.std.proofs.Common.{◌≡◌, ℕ, zero, suc, ◌+◌, ◌*◌, ◌-◌, ◌/◌, ◌%◌, ◌<◌, ◌≤◌, List, [], ◌∷◌, ◌++◌, length, drop, remove, map, get_or, Bool, true, false, cond, Some, None, slice_get, refl, sym, ap, ◌∙◌, append_assoc, append-nil, arith, subst}
use Rattle.std.specs.Prelude.{◌==◌, ◌&&◌}
use Rattle.std.specs.Option.{option_map_or}
use Rattle.std.proofs.lemmas.List.{drop_more, drop_all}
use Rattle.ac_assoc_law.specs.ArrangedPairs.{factorial, picks, permuted}
use Rattle.ac_assoc.specs.ChosenOrders.{number_at}
use Rattle.ac_assoc.specs.declared.types.Chosen.{Chosen}

pub factorial_zero : factorial 0 ≡ 1
unfolding factorial
factorial_zero = refl

pub factorial_next : (k : ℕ) → factorial (k + 1) ≡ factorial k * (k + 1)
unfolding factorial
factorial_next k = let e : k + 1 ≡ suc k = omega arith in rw e (omega arith)

pub ruleset factorial_steps = (factorial_zero, factorial_next)

-- a node that is not the first chosen one
pub passed : (orders : List Chosen) (i : ℕ) (c : Chosen) (stmt node : ℕ) (r : Bool) → i < length orders → c ≡ get_or orders i c → r ≡ ((c.stmt == stmt) && (c.node == node)) → r ≡ false
    → number_at (drop i orders) stmt node ≡ number_at (drop (i + 1) orders) stmt node
passed orders i c stmt node r l e t f =
    ap (λ cs. number_at cs stmt node) (drop_more orders i c l) ∙ ap (λ (x : Chosen). number_at (x ∷ drop (i + 1) orders) stmt node) (sym e)
    ∙ ap (λ b. cond b c.number (number_at (drop (i + 1) orders) stmt node)) (sym t ∙ f)

pub found : (orders : List Chosen) (i : ℕ) (c : Chosen) (stmt node : ℕ) (r : Bool) → i < length orders → c ≡ get_or orders i c → r ≡ ((c.stmt == stmt) && (c.node == node)) → r ≡ true
    → number_at (drop i orders) stmt node ≡ c.number
found orders i c stmt node r l e t f =
    ap (λ cs. number_at cs stmt node) (drop_more orders i c l) ∙ ap (λ (x : Chosen). number_at (x ∷ drop (i + 1) orders) stmt node) (sym e)
    ∙ ap (λ b. cond b c.number (number_at (drop (i + 1) orders) stmt node)) (sym t ∙ f)

pub none_found : (orders : List Chosen) (i : ℕ) (stmt node : ℕ) → length orders ≤ i → number_at (drop i orders) stmt node ≡ 0
none_found orders i stmt node l = ap (λ cs. number_at cs stmt node) (drop_all i orders l)

get_map : {X Y : Type 0} (g : X → Y) (xs : List X) (i : ℕ) (x : X) → slice_get xs i ≡ Some x → slice_get (map g xs) i ≡ Some (g x)
get_map g [] i x h = absurd cc
get_map g (y ∷ ys) zero x h = let e : y ≡ x = cc in ap (λ z. Some (g z)) e
get_map g (y ∷ ys) (suc i) x h = get_map g ys i x h

get_none : {X : Type 0} (xs : List X) (i : ℕ) → length xs ≤ i → slice_get xs i ≡ None
get_none [] i h = refl
get_none (x ∷ xs) zero h = absurd (omega arith)
get_none (x ∷ xs) (suc i) h = get_none xs i (omega arith)

len_map : {X Y : Type 0} (g : X → Y) (xs : List X) → length (map g xs) ≡ length xs
len_map g [] = refl
len_map g (x ∷ xs) = ap (λ n. suc n) (len_map g xs)

length_picks : {X : Type 0} (xs : List X) → length (picks xs) ≡ length xs
unfolding picks
length_picks [] = refl
length_picks {X} (x ∷ xs) = ap (λ n. suc n) (len_map (λ (q : X × List X). (q.0, x ∷ q.1)) (picks xs) ∙ length_picks xs)

pick_at : {X : Type 0} (xs : List X) (i : ℕ) (d : X) → i < length xs → slice_get (picks xs) i ≡ Some (get_or xs i d, remove xs i)
unfolding picks
pick_at [] i d h = absurd (omega arith)
pick_at (x ∷ xs) zero d h = refl
pick_at {X} (x ∷ xs) (suc i) d h = get_map (λ (q : X × List X). (q.0, x ∷ q.1)) (picks xs) i (get_or xs i d, remove xs i) (pick_at xs i d (omega arith))

length_removed : {X : Type 0} (xs : List X) (i : ℕ) (n : ℕ) → i < length xs → length xs ≡ suc n → length (remove xs i) ≡ n
length_removed [] i n h e = absurd (omega arith)
length_removed (x ∷ xs) zero n h e = omega arith
length_removed (x ∷ xs) (suc i) zero h e = absurd (omega arith)
length_removed (x ∷ xs) (suc i) (suc n) h e = ap (λ k. suc k) (length_removed xs i n (omega arith) (omega arith))

module _ {X : Type 0} where
  one_more : (rest : List X) (left after i n : ℕ) (x : X) → length rest ≡ suc n → after ≡ factorial n → i ≡ left / after → i < length rest → x ≡ get_or rest i x
      → permuted (length rest) left rest ≡ x ∷ permuted (length (remove rest i)) (left % after) (remove rest i)
  unfolding permuted
  one_more rest left after i n x e f a l is =
      rw (length_removed rest i n l e, e, f) (
      ap (λ o. option_map_or (λ q. q.0 ∷ permuted n (left % factorial n) q.1) o rest) (ap (slice_get (picks rest)) (sym (a ∙ ap (λ k. left / k) f)) ∙ pick_at rest i x l)
      ∙ ap (λ y. y ∷ permuted n (left % factorial n) (remove rest i)) (sym is))

  pub permute_step : (whole made new rest : List X) (left after i : ℕ) (x : X) → whole ≡ made ++ permuted (length rest) left rest → after ≡ factorial (length rest - 1) → i ≡ left / after → i < length rest → x ≡ get_or rest i x
      → new ≡ made ++ x ∷ [] → whole ≡ new ++ permuted (length (remove rest i)) (left % after) (remove rest i)
  permute_step whole made new [] left after i x h f a l is m = absurd (omega arith)
  permute_step whole made new (y ∷ ys) left after i x h f a l is m =
      let g : after ≡ factorial (length ys) = f ∙ ap factorial (omega arith) in
      h ∙ ap (λ r. made ++ r) (one_more (y ∷ ys) left after i (length ys) x refl g a l is)
      ∙ sym (append_assoc made (x ∷ []) (permuted (length (remove (y ∷ ys) i)) (left % after) (remove (y ∷ ys) i)))
      ∙ ap (λ r. r ++ permuted (length (remove (y ∷ ys) i)) (left % after) (remove (y ∷ ys) i)) (sym m)

  pub permute_over : (whole made new rest : List X) (left after i : ℕ) → whole ≡ made ++ permuted (length rest) left rest → after ≡ factorial (length rest - 1) → i ≡ left / after → length rest ≤ i
      → new ≡ made ++ rest → whole ≡ new
  unfolding permuted
  permute_over whole made new [] left after i h f a l m = h ∙ sym m
  permute_over whole made new (y ∷ ys) left after i h f a l m =
      let g : after ≡ factorial (length ys) = f ∙ ap factorial (omega arith) in
      h ∙ ap (λ o. made ++ option_map_or (λ q. q.0 ∷ permuted (length ys) (left % factorial (length ys)) q.1) o (y ∷ ys))
      (ap (slice_get (picks (y ∷ ys))) (sym (a ∙ ap (λ k. left / k) g)) ∙ get_none (picks (y ∷ ys)) i (subst (λ k. k ≤ i) (sym (length_picks (y ∷ ys))) l))
      ∙ sym m

  pub permute_end : (whole made rest : List X) (left : ℕ) → whole ≡ made ++ permuted (length rest) left rest → length rest ≡ 0 → whole ≡ made
  unfolding permuted
  permute_end whole made [] left h e = h ∙ append-nil made
  permute_end whole made (y ∷ ys) left h e = absurd (omega arith)
