-- The permutation with a number is the one with this number in the list of all, in lexicographic order of the places picked.
use Rattle.std.proofs.Common.{◌≡◌, ℕ, zero, suc, ◌+◌, ◌*◌, ◌-◌, ◌/◌, ◌%◌, ◌<◌, ◌≤◌, List, [], ◌∷◌, ◌++◌, length, map, Some, slice_get, refl, sym, ap, ◌∙◌, subst, arith, length-append}
use Rattle.std.specs.List.{flat_map, AllByRecursion}
use Rattle.std.specs.Option.{option_map_or}
use Rattle.std.proofs.lemmas.Nat.{mul-le}
use Rattle.std.proofs.Math.Nat.{div-lt_iff_lt-mul, div-eq_of_lt, mod-eq-sub-div-mul, div-mul-le_self}
use Rattle.ac_assoc_law.specs.ArrangedPairs.{factorial, picks, permuted}
use Rattle.ac_assoc_law.specs.LawsOfChains.{orders}
use Rattle.ac_assoc_law.proofs.Permuting.{IfThere, got, all_map}

factorial_some : (n : ℕ) → 0 < factorial n
unfolding factorial
factorial_some zero = omega arith
factorial_some (suc n) = let h : 1 * 1 ≤ suc n * factorial n = mul-le 1 1 (suc n) (factorial n) (omega arith) (factorial_some n) in omega arith

len_map : {X Y : Type 0} (g : X → Y) (xs : List X) → length (map g xs) ≡ length xs
len_map g [] = refl
len_map g (x ∷ xs) = ap (λ n. suc n) (len_map g xs)

get_map : {X Y : Type 0} (g : X → Y) (xs : List X) (i : ℕ) (x : X) → slice_get xs i ≡ Some x → slice_get (map g xs) i ≡ Some (g x)
get_map g [] i x h = absurd cc
get_map g (y ∷ ys) zero x h = let e : y ≡ x = cc in ap (λ z. Some (g z)) e
get_map g (y ∷ ys) (suc i) x h = get_map g ys i x h

get_left : {X : Type 0} (xs ys : List X) (i : ℕ) → i < length xs → slice_get (xs ++ ys) i ≡ slice_get xs i
get_left [] ys i h = absurd (omega arith)
get_left (x ∷ xs) ys zero h = refl
get_left (x ∷ xs) ys (suc i) h = get_left xs ys i (omega arith)

get_right : {X : Type 0} (xs ys : List X) (i : ℕ) → slice_get (xs ++ ys) (length xs + i) ≡ slice_get ys i
get_right [] ys i = let e : 0 + i ≡ i = omega arith in rw e refl
get_right (x ∷ xs) ys i = let e : suc (length xs) + i ≡ suc (length xs + i) = omega arith in rw e (get_right xs ys i)

length_picks : {X : Type 0} (xs : List X) → length (picks xs) ≡ length xs
unfolding picks
length_picks [] = refl
length_picks {X} (x ∷ xs) = ap (λ n. suc n) (len_map (λ (q : X × List X). (q.0, x ∷ q.1)) (picks xs) ∙ length_picks xs)

picks_length : {X : Type 0} (n : ℕ) (xs : List X) → length xs ≡ suc n → AllByRecursion (λ q. length q.1 ≡ n) (picks xs)
unfolding picks
picks_length n [] h = absurd (omega arith)
picks_length zero (x ∷ []) h = (refl, tt)
picks_length zero (x ∷ y ∷ xs) h = absurd (omega arith)
picks_length {X} (suc n) (x ∷ xs) h =
    (omega arith, all_map (λ (q : X × List X). length q.1 ≡ n) (λ (q : X × List X). length q.1 ≡ suc n) (λ (q : X × List X). (q.0, x ∷ q.1)) (λ q g. ap (λ k. suc k) g) (picks xs) (picks_length n xs (omega arith)))

parts : (n m r : ℕ) → r ≡ n - m → m ≤ n → n ≡ m + r
parts n m r e l = omega arith

zero_times : (n : ℕ) → 0 ≡ 0 * n
zero_times n = omega arith

suc_times : (i n : ℕ) → suc i * n ≡ n + i * n
suc_times i n = omega arith

-- blocks of one length
length_blocks : {X Y : Type 0} (f : X → List Y) (size : ℕ) (ps : List X) → AllByRecursion (λ p. length (f p) ≡ size) ps → length (flat_map f ps) ≡ length ps * size
length_blocks f size [] h = zero_times size
length_blocks f size (p ∷ ps) h =
    let a : length (f p ++ flat_map f ps) ≡ length (f p) + length (flat_map f ps) = length-append (f p) (flat_map f ps) in
    let b : length (flat_map f ps) ≡ length ps * size = length_blocks f size ps h.1 in
    let e : suc (length ps) * size ≡ size + length ps * size = suc_times (length ps) size in
    a ∙ (λ i. h.0 i + b i) ∙ sym e

get_block : {X Y : Type 0} (f : X → List Y) (size : ℕ) (ps : List X) (i j : ℕ) (p : X) → AllByRecursion (λ p. length (f p) ≡ size) ps → j < size → slice_get ps i ≡ Some p → slice_get (flat_map f ps) (i * size + j) ≡ slice_get (f p) j
get_block f size [] i j p h l e = absurd cc
get_block f size (q ∷ ps) zero j p h l e =
    let is : q ≡ p = cc in
    let k : 0 * size + j ≡ j = omega arith in
    let m : j < length (f q) = subst (λ (n : ℕ). j < n) (sym h.0) l in
    rw k (get_left (f q) (flat_map f ps) j m ∙ ap (λ x. slice_get (f x) j) is)
get_block f size (q ∷ ps) (suc i) j p h l e =
    let a : suc i * size + j ≡ size + (i * size + j) = let e : suc i * size ≡ size + i * size = suc_times i size in omega arith in
    ap (slice_get (f q ++ flat_map f ps)) (a ∙ ap (λ n. n + (i * size + j)) (sym h.0))
    ∙ get_right (f q) (flat_map f ps) (i * size + j) ∙ get_block f size ps i j p h.1 l e

get_there : {X : Type 0} (xs : List X) (i : ℕ) → i < length xs → (x : X) × (slice_get xs i ≡ Some x)
get_there [] i h = absurd (omega arith)
get_there (x ∷ xs) zero h = (x, refl)
get_there (x ∷ xs) (suc i) h = get_there xs i (omega arith)

all_weaker : {X : Type 0} (P Q : X → Type 0) (xs : List X) → ((x : X) → P x → Q x) → AllByRecursion P xs → AllByRecursion Q xs
all_weaker P Q [] f h = tt
all_weaker P Q (x ∷ xs) f h = (f x h.0, all_weaker P Q xs f h.1)

abbrev block : {X : Type 0} → ℕ → X × List X → List (List X)
block n q = map (λ r. q.0 ∷ r) (orders n q.1)

length_orders : {X : Type 0} (n : ℕ) (xs : List X) → length xs ≡ n → length (orders n xs) ≡ factorial n
unfolding orders factorial
length_orders zero xs h = refl
length_orders {X} (suc n) xs h =
    length_blocks (block n) (factorial n) (picks xs)
    (all_weaker (λ (q : X × List X). length q.1 ≡ n) (λ (q : X × List X). length (block n q) ≡ factorial n) (picks xs) (λ q e. len_map (λ r. q.0 ∷ r) (orders n q.1) ∙ length_orders n q.1 e) (picks_length n xs h))
    ∙ ap (λ k. k * factorial n) (length_picks xs ∙ h)

pub stands_in_order : {X : Type 0} (n number : ℕ) (xs : List X) → length xs ≡ n → number < factorial n → slice_get (orders n xs) number ≡ Some (permuted n number xs)
unfolding orders permuted factorial
stands_in_order zero number xs h l = let e : number ≡ 0 = omega arith in rw e refl
stands_in_order {X} (suc n) number xs h l =
    let pos : 0 < factorial n = factorial_some n in
    let at : number / factorial n < length (picks xs) = subst (λ (k : ℕ). number / factorial n < k) (sym (length_picks xs ∙ h)) ((div-lt_iff_lt-mul pos).1 l) in
    let there : (q : X × List X) × (slice_get (picks xs) (number / factorial n) ≡ Some q) = get_there (picks xs) (number / factorial n) at in
    let long : length there.0.1 ≡ n = subst (IfThere (λ (q : X × List X). length q.1 ≡ n)) there.1 (got (λ (q : X × List X). length q.1 ≡ n) (picks xs) (number / factorial n) (picks_length n xs h)) in
    let split : number ≡ number / factorial n * factorial n + number % factorial n = parts number (number / factorial n * factorial n) (number % factorial n) (mod-eq-sub-div-mul number (factorial n)) (div-mul-le_self number (factorial n)) in
    let low : number % factorial n < factorial n = omega arith in
    ap (slice_get (flat_map (block n) (picks xs))) split
    ∙ get_block (block n) (factorial n) (picks xs) (number / factorial n) (number % factorial n) there.0
    (all_weaker (λ (q : X × List X). length q.1 ≡ n) (λ (q : X × List X). length (block n q) ≡ factorial n) (picks xs) (λ q e. len_map (λ r. q.0 ∷ r) (orders n q.1) ∙ length_orders n q.1 e) (picks_length n xs h))
    low there.1
    ∙ get_map (λ r. there.0.0 ∷ r) (orders n there.0.1) (number % factorial n) (permuted n (number % factorial n) there.0.1) (stands_in_order n (number % factorial n) there.0.1 long low)
    ∙ ap (λ o. Some (option_map_or (λ q. q.0 ∷ permuted n (number % factorial n) q.1) o xs)) (sym there.1)

mod_zero : (n : ℕ) → 0 % n ≡ 0
mod_zero n = let h : 0 % n ≡ 0 - 0 / n * n = mod-eq-sub-div-mul 0 n in omega arith

pub first_order : {X : Type 0} (n : ℕ) (xs : List X) → permuted n 0 xs ≡ xs
unfolding permuted picks
first_order zero xs = refl
first_order (suc n) [] = refl
first_order {X} (suc n) (x ∷ xs) =
    let d : 0 / factorial n ≡ 0 = div-eq_of_lt (factorial_some n) in
    let m : 0 % factorial n ≡ 0 = mod_zero (factorial n) in
    ap (λ i. option_map_or (λ q. q.0 ∷ permuted n (0 % factorial n) q.1) (slice_get (picks (x ∷ xs)) i) (x ∷ xs)) d
    ∙ ap (λ k. x ∷ permuted n k xs) m ∙ ap (λ r. x ∷ r) (first_order n xs)
