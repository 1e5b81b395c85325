-- The elements of an output, one coordinate after another.
use Rattle.std.proofs.Common.{◌≡◌, ℕ, zero, suc, ◌+◌, ◌-◌, ◌<◌, ◌≤◌, ◌==◌, ◌⊎◌, inl, inr, ⊎_elim, ℤ, pos, negsuc, ◌≤ℤ◌, ◌<ℤ◌, Bool, true, false, List, [], ◌∷◌, ◌++◌, Option, None, Some, map, refl, sym, ap, subst, ◌∙◌, append_assoc, append-nil, ◌||◌, length, get_or, take, drop, arith}
use Rattle.std.proofs.lemmas.Bool.Decides.{nat_tests}
use Rattle.std.specs.List.{flat_map, range_with_len}
use Rattle.std.proofs.lemmas.List.{take_all}
use Rattle.std.proofs.lemmas.Int.{ints}
use Rattle.ac_syntax.specs.Index.{Point, index_value}
use Rattle.ac_syntax.specs.Outputs.{InExtents}
use Rattle.ac_syntax.specs.declared.tree.IndexExpr.{IndexExpr}
use Rattle.ac_instance.specs.Events.{Event, event, natural, in_elements}
use Rattle.ac_instance.specs.Least.{IsEarlier, Looked, IsLeast, IsFound, InSizes, beneath, throughout, has_none_of, first_found}

never_itself : (e : List ℤ) → IsEarlier e e → ⊥
never_itself [] h = h
never_itself (x ∷ xs) h = ⊎_elim (λ lt. omega (arith, ints, lt)) (λ k. never_itself xs k.1) h

-- below one prefix the next coordinate decides
next_rises : (prefix : List ℤ) (x y : ℤ) (xs ys : List ℤ) → IsEarlier (prefix ++ x ∷ xs) (prefix ++ y ∷ ys) → x ≤ℤ y
next_rises [] x y xs ys h = ⊎_elim (λ lt. omega (arith, ints, lt)) (λ k. (let e : x ≡ y = k.0 in omega (arith, ints, e))) h
next_rises (a ∷ prefix) x y xs ys h = ⊎_elim (λ lt. absurd (let z : a <ℤ a = lt in omega (arith, ints, z))) (λ k. next_rises prefix x y xs ys k.1) h

below : (n x : ℤ) → pos 0 ≤ℤ x → x <ℤ n → (y : ℕ) × (y < natural n) × (x ≡ pos y)
below (pos n) (pos y) h k = (y, omega (arith, ints, k), refl)
below (pos n) (negsuc y) h k = absurd (omega (arith, ints, h))
below (negsuc n) (pos y) h k = absurd (omega (arith, ints, k))
below (negsuc n) (negsuc y) h k = absurd (omega (arith, ints, h))

module _ (agrees : List ℤ → Type 0) (prefix sizes : List ℤ) where
  -- the elements whose next coordinate is below k
  abbrev pub upto : ℕ → Looked
  upto k = record { At = λ e. (y : ℕ) × (rest : List ℤ) × (y < k) × (e ≡ prefix ++ pos y ∷ rest) × InSizes sizes rest; Agrees = agrees }

  pub none_yet : IsLeast (upto 0) None
  none_yet = λ e at. absurd (omega (arith, at.2))

  one_longer : (k : ℕ) (rest : List ℤ) → (prefix ++ pos k ∷ []) ++ rest ≡ prefix ++ pos k ∷ rest
  one_longer k rest = append_assoc prefix (pos k ∷ []) rest

  last_of : (a b : ℕ) → a < b + 1 → (a < b) ⊎ (a ≡ b)
  last_of a b h = grind arith

  -- an element beneath the next coordinate k
  beneath_next : (k : ℕ) (e : List ℤ) (y : ℕ) (rest : List ℤ) → y ≡ k → e ≡ prefix ++ pos y ∷ rest → InSizes sizes rest → Looked.At (beneath agrees (prefix ++ pos k ∷ []) sizes) e
  beneath_next k e y rest same is inside = (rest, is ∙ ap (λ n. prefix ++ pos n ∷ rest) same ∙ sym (one_longer k rest), inside)

  wider : (k : ℕ) (e : List ℤ) → Looked.At (upto k) e → Looked.At (upto (k + 1)) e
  wider k e at = (at.0, at.1, (let lt = at.2 in omega (arith, lt)), at.3, at.4)

  pub one_more_size : (k : ℕ) (best found : Option (List ℤ)) → IsLeast (upto k) best → IsLeast (beneath agrees (prefix ++ pos k ∷ []) sizes) found → IsLeast (upto (k + 1)) (first_found best found)
  one_more_size k None None h g = λ e at. ⊎_elim (λ lt. h e (at.0, at.1, lt, at.3, at.4)) (λ same. g e (beneath_next k e at.0 at.1 same at.3 at.4)) (last_of at.0 k at.2)
  one_more_size k None (Some b) h g = (
    (k, g.0.0, omega arith, g.0.1 ∙ one_longer k g.0.0, g.0.2),
    g.1,
    λ f at earlier. ⊎_elim (λ lt. h f (at.0, at.1, lt, at.3, at.4)) (λ same. g.2 f (beneath_next k f at.0 at.1 same at.3 at.4) earlier) (last_of at.0 k at.2),
  )
  one_more_size k (Some b) found h g = (
    wider k b h.0,
    h.1,
    λ f at earlier. ⊎_elim (λ lt. h.2 f (at.0, at.1, lt, at.3, at.4) earlier)
        (λ same. absurd (
        let lt = h.0.2 in
        let e : IsEarlier (prefix ++ pos at.0 ∷ at.1) (prefix ++ pos h.0.0 ∷ h.0.1) = subst (λ z. IsEarlier z (prefix ++ pos h.0.0 ∷ h.0.1)) at.3 (subst (λ z. IsEarlier f z) h.0.3 earlier) in
        let up : pos at.0 ≤ℤ pos h.0.0 = next_rises prefix (pos at.0) (pos h.0.0) at.1 h.0.1 e in
        omega (arith, ints, lt, up, same)))
        (last_of at.0 k at.2),
  )

  within : (n : ℤ) (y : ℕ) → y < natural n → (pos 0 ≤ℤ pos y) × (pos y <ℤ n)
  within (pos n) y h = (omega (arith, ints), omega (arith, ints, h))
  within (negsuc n) y h = absurd (omega (arith, h))

  to_upto : (n : ℤ) (e rest : List ℤ) → e ≡ prefix ++ rest → InSizes (n ∷ sizes) rest → Looked.At (upto (natural n)) e
  to_upto n e [] is inside = absurd inside
  to_upto n e (x ∷ xs) is inside = let b = below n x inside.0 inside.1 in (b.0, xs, b.1, is ∙ ap (λ z. prefix ++ z ∷ xs) b.2, inside.2)

  pub all_sizes : (n : ℤ) (k : ℕ) (best : Option (List ℤ)) → k ≡ natural n → IsLeast (upto k) best → IsLeast (beneath agrees prefix (n ∷ sizes)) best
  all_sizes n k None same h = λ e at. h e (subst (λ j. Looked.At (upto j) e) (sym same) (to_upto n e at.0 at.1 at.2))
  all_sizes n k (Some b) same h = (
    (pos h.0.0 ∷ h.0.1, h.0.3, (let w = within n h.0.0 (subst (λ j. h.0.0 < j) same h.0.2) in (w.0, w.1, h.0.4))),
    h.1,
    λ f at earlier. h.2 f (subst (λ j. Looked.At (upto j) f) (sym same) (to_upto n f at.0 at.1 at.2)) earlier,
  )

-- one element
pub only_one : (agrees : List ℤ → Type 0) (at : List ℤ) (o : Option (List ℤ)) → IsFound agrees at o → IsLeast (beneath agrees at []) o
only_one agrees at None h = λ e k. by k.0 k.1 k.2
  where
    by : {e : List ℤ} (rest : List ℤ) → e ≡ at ++ rest → InSizes [] rest → agrees e
    by [] is inside = subst agrees (sym (is ∙ append-nil at)) h
    by (x ∷ xs) is inside = absurd inside
only_one agrees at (Some e) h = (([], h.0 ∙ sym (append-nil at), tt), (λ a. h.1 (subst agrees h.0 a)), λ f k earlier. absurd (by f k.0 k.1 k.2 earlier))
  where
    by : (f rest : List ℤ) → f ≡ at ++ rest → InSizes [] rest → IsEarlier f e → ⊥
    by f [] is inside earlier = never_itself at (subst (λ z. IsEarlier z at) (is ∙ append-nil at) (subst (λ z. IsEarlier f z) h.0 earlier))
    by f (x ∷ xs) is inside earlier = inside

pub sizes_of : (p : Point) (extents : List IndexExpr) (e : List ℤ) → InExtents p extents e → InSizes (map (index_value p) extents) e
sizes_of p [] [] h = tt
sizes_of p [] (x ∷ xs) h = h
sizes_of p (n ∷ ns) [] h = h
sizes_of p (n ∷ ns) (x ∷ xs) h = (h.0, h.1, sizes_of p ns xs h.2)

of_sizes : (p : Point) (extents : List IndexExpr) (e : List ℤ) → InSizes (map (index_value p) extents) e → InExtents p extents e
of_sizes p [] [] h = tt
of_sizes p [] (x ∷ xs) h = h
of_sizes p (n ∷ ns) [] h = h
of_sizes p (n ∷ ns) (x ∷ xs) h = (h.0, h.1, of_sizes p ns xs h.2)

-- the elements of an output are those beneath no coordinate
pub whole : (agrees : List ℤ → Type 0) (p : Point) (extents : List IndexExpr) (o : Option (List ℤ)) → IsLeast (beneath agrees [] (map (index_value p) extents)) o → IsLeast (throughout agrees p extents) o
whole agrees p extents None h = λ e at. h e (e, refl, sizes_of p extents e at)
whole agrees p extents (Some b) h = (subst (InExtents p extents) (sym h.0.1) (of_sizes p extents h.0.0 h.0.2), h.1, λ f at earlier. h.2 f (f, refl, sizes_of p extents f at) earlier)

empty_range : (n : ℕ) → ◌≡◌ {A = List Event} (flat_map (λ k. []) (range_with_len 0 n)) []
empty_range n = by 0 n
  where
    by : (a n : ℕ) → ◌≡◌ {A = List Event} (flat_map (λ k. []) (range_with_len a n)) []
    by a zero = refl
    by a (suc n) = by (a + 1) n

is_zero_nat : (n : ℕ) → (n == 0) ≡ true → n ≡ 0
is_zero_nat n h = grind (arith, nat_tests, h)

-- where some size leaves no coordinate there are no elements
pub no_events : (sizes : List ℤ) → has_none_of sizes ≡ true → in_elements sizes ≡ []
no_events [] h = absurd cc
no_events (n ∷ ns) h = by (natural n == 0) refl h (λ k. no_events ns k)
  where
    by : (b : Bool) → (natural n == 0) ≡ b → (b || has_none_of ns) ≡ true → (has_none_of ns ≡ true → in_elements ns ≡ []) → flat_map (λ k. in_elements ns) (range_with_len 0 (natural n)) ≡ []
    by true e k f = ap (λ m. flat_map (λ j. in_elements ns) (range_with_len 0 m)) (is_zero_nat (natural n) e)
    by false e k f = ap (λ hs. flat_map (λ j. hs) (range_with_len 0 (natural n))) (f k) ∙ empty_range (natural n)

-- what is left of the elements from the coordinate k on
abbrev pub elements_left : ℕ → ℕ → List ℤ → List Event
elements_left k n ns = flat_map (λ j. in_elements ns) (range_with_len k (n - k))

pub element_left : (k n : ℕ) (ns : List ℤ) → k < n → elements_left k n ns ≡ in_elements ns ++ elements_left (k + 1) n ns
element_left k n ns h = ap (λ j. flat_map (λ i. in_elements ns) (range_with_len k j)) (let e : n - k ≡ suc (n - (k + 1)) = omega (arith, h) in e)

pub elements_done : (k n : ℕ) (ns : List ℤ) → n ≤ k → elements_left k n ns ≡ []
elements_done k n ns h = ap (λ j. flat_map (λ i. in_elements ns) (range_with_len k j)) (let e : n - k ≡ 0 = omega (arith, h) in e)

-- and no element lies in them
pub none_inside : (sizes e : List ℤ) → has_none_of sizes ≡ true → InSizes sizes e → ⊥
none_inside [] e h k = absurd cc
none_inside (n ∷ ns) [] h k = k
none_inside (n ∷ ns) (x ∷ xs) h k = by (natural n == 0) refl h (λ j. none_inside ns xs j k.2)
  where
    by : (b : Bool) → (natural n == 0) ≡ b → (b || has_none_of ns) ≡ true → (has_none_of ns ≡ true → ⊥) → ⊥
    by true e j f = (let b = below n x k.0 k.1 in let z = is_zero_nat (natural n) e in let lt = b.1 in absurd (omega (arith, z, lt)))
    by false e j f = f j

pub first_and_rest : (xs : List ℤ) (d : ℤ) → 1 ≤ length xs → xs ≡ get_or xs 0 d ∷ take (length xs - 1) (drop 1 xs)
first_and_rest [] d h = absurd (omega (arith, h))
first_and_rest (x ∷ xs) d h = ap (λ zs. x ∷ zs) (sym (take_all (length (x ∷ xs) - 1) xs (omega arith)))

pub nothing_there : (xs : List ℤ) → length xs < 1 → xs ≡ []
nothing_there [] h = refl
nothing_there (x ∷ xs) h = absurd (omega (arith, h))
