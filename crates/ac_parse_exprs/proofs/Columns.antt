-- Sums and products of coefficients, column by column.
use Rattle.std.proofs.Common.{◌≡◌, ℕ, zero, suc, ◌+◌, ◌-◌, ◌<◌, ◌≤◌, ℤ, pos, ◌+ℤ◌, ◌*ℤ◌, List, [], ◌∷◌, ◌++◌, Bool, true, false, length, take, get_or, arith, refl, ◌∙◌}
use Rattle.ac_syntax.specs.Turns.{innermost}
use Rattle.std.specs.Prelude.{Option, Some, None, if◌then◌else◌, cond}
use Rattle.std.specs.List.{list_all}
use Rattle.std.proofs.lemmas.Int.{ints}
use Rattle.std.proofs.lemmas.List.{take_more, take_all}
use Rattle.std.proofs.lemmas.List.Folds.{list_all_more, list_all_at}
use Rattle.ac_parse_exprs.specs.AffineForms.{plus_times, times}

pub length-plus_times : (k : ℤ) (xs ys : List ℤ) → length (plus_times k xs ys) ≡ length xs
length-plus_times k [] ys = refl
length-plus_times k (x ∷ xs) [] = let h = length-plus_times k xs [] in grind arith
length-plus_times k (x ∷ xs) (y ∷ ys) = let h = length-plus_times k xs ys in grind arith

no_more : (k x : ℤ) → x ≡ x +ℤ k *ℤ pos 0
no_more k x = omega (arith, ints)

pub get_or-plus_times : (k : ℤ) (xs ys : List ℤ) (i : ℕ) → i < length xs → get_or (plus_times k xs ys) i (pos 0) ≡ get_or xs i (pos 0) +ℤ k *ℤ get_or ys i (pos 0)
get_or-plus_times k [] ys i h = absurd (omega arith)
get_or-plus_times k (x ∷ xs) [] zero h = no_more k x
get_or-plus_times k (x ∷ xs) [] (suc i) h = get_or-plus_times k xs [] i (omega arith)
get_or-plus_times k (x ∷ xs) (y ∷ ys) zero h = refl
get_or-plus_times k (x ∷ xs) (y ∷ ys) (suc i) h = get_or-plus_times k xs ys i (omega arith)

pub ruleset columns = (length-plus_times, get_or-plus_times)

-- numbers that pass a test
module _ (passes : ℤ → Bool) where
  -- the number where it passes
  abbrev pub tested : ℤ → Option ℤ
  tested z = if passes z then Some z else None

  abbrev pub tested_all : List ℤ → Option (List ℤ)
  tested_all w = if list_all passes w then Some w else None

  tested_cases : (v z : ℤ) (b : Bool) → passes v ≡ b → Some z ≡ cond b (Some v) None → (z ≡ v) × (passes v ≡ true)
  tested_cases v z true e h = (cc, e)
  tested_cases v z false e h = absurd cc

  not_cases : (v : ℤ) (b : Bool) → passes v ≡ b → None ≡ cond b (Some v) None → passes v ≡ false
  not_cases v true e h = absurd cc
  not_cases v false e h = e

  -- one number more passes
  pub passed_more : (w done new : List ℤ) (i : ℕ) (v z : ℤ) → i < length w → get_or w i (pos 0) ≡ v → Some z ≡ tested v
      → done ≡ take i w → list_all passes done ≡ true → new ≡ done ++ z ∷ [] → (new ≡ take (i + 1) w) × (list_all passes new ≡ true)
  passed_more w done new i v z h g o d s n =
      let t = tested_cases v z (passes v) refl o in
      let e : new ≡ take (i + 1) w = rw (take_more w i (pos 0) h, g, ← t.0, ← d) n in
      let a = list_all_more passes w i (pos 0) h in
      (e, rw e (a ∙ rw (g, ← d, s, t.1) refl))

  -- one number does not
  pub passed_not : (w : List ℤ) (i : ℕ) (v : ℤ) → i < length w → get_or w i (pos 0) ≡ v → None ≡ tested v → None ≡ tested_all w
  passed_not w i v h g o =
      let f : list_all passes w ≡ false = list_all_at passes w i (pos 0) h (rw g (not_cases v (passes v) refl o)) in
      rw f refl

  pub passed_all : (w done : List ℤ) (i : ℕ) → length w ≤ i → done ≡ take i w → list_all passes done ≡ true → Some done ≡ tested_all w
  passed_all w done i h d s =
      let e : done ≡ w = d ∙ take_all i w h in
      let t : list_all passes w ≡ true = rw (← e) s in
      rw (t, e) refl

pub length-times : (k : ℤ) (xs : List ℤ) → length (times k xs) ≡ length xs
length-times k [] = refl
length-times k (x ∷ xs) = let h = length-times k xs in grind arith

pub get_or-times : (k : ℤ) (xs : List ℤ) (i : ℕ) → i < length xs → get_or (times k xs) i (pos 0) ≡ k *ℤ get_or xs i (pos 0)
get_or-times k [] i h = absurd (omega arith)
get_or-times k (x ∷ xs) zero h = refl
get_or-times k (x ∷ xs) (suc i) h = get_or-times k xs i (omega arith)

-- the innermost coefficient is the last
pub innermost_at : (xs : List ℤ) → get_or xs (length xs - 1) (pos 0) ≡ innermost xs
innermost_at [] = refl
innermost_at (x ∷ []) = refl
innermost_at (x ∷ y ∷ xs) = let e : length (x ∷ y ∷ xs) - 1 ≡ suc (length (y ∷ xs) - 1) = omega arith in rw e (innermost_at (y ∷ xs))
