-- Numbers in order: one put into its place, and the first of some candidates.
use Rattle.std.proofs.Common.{◌≡◌, ◌⊎◌, inl, inr, ℕ, zero, suc, ◌+◌, ◌-◌, ◌<◌, ◌≤◌, ℤ, pos, negsuc, List, [], ◌∷◌, ◌++◌, length, take, drop, get_or, Some, Bool, true, false, if◌then◌else◌, nat_lt, refl, ap, sym, ◌∙◌, arith, append_assoc, length-append}
use Rattle.std.specs.Prelude.{slice_get, IfSome, IfOk, insert, Result, Ok, Err}
use Rattle.std.specs.declared.alloc.AllocError.{AllocError}
use Rattle.std.specs.Ordering.{int_eq}
use Rattle.std.proofs.lemmas.Bool.{cases_lt, ltb-true, lt-ltb}
use Rattle.std.proofs.lemmas.Bool.Decides.{Decides-int_eq}
use Rattle.std.proofs.lemmas.List.{take_more, take-append-le, drop-append-le, take_all, length-take}
use Rattle.std.proofs.Math.Seq.{take-append_seam}
use Rattle.ac_forms.specs.ListMembers.{IsAmong}
use Rattle.ac_widen.specs.Combinations.{Each}
use Rattle.ac_widen.proofs.Combining.{each_among}
use Rattle.ac_hull.specs.SmallestIntegers.{rank, IsRising, AreFirst}
use Rattle.ac_hull.specs.HullInternals.Placing.{placed, inserted}
use Rattle.ac_hull.proofs.Among.{among_back, among_front, among_parts}
use Rattle.ac_widen.proofs.Combining.{each_map}

rank_same : (x y : ℤ) → rank x ≡ rank y → x ≡ y
rank_same (pos m) (pos n) e = let f : m ≡ n = omega arith in ap pos f
rank_same (pos m) (negsuc n) e = absurd (omega arith)
rank_same (negsuc m) (pos n) e = absurd (omega arith)
rank_same (negsuc m) (negsuc n) e = let f : m ≡ n = omega arith in ap negsuc f

each_take : (P : ℤ → Type 0) (n : ℕ) (xs : List ℤ) → Each P xs → Each P (take n xs)
each_take P zero xs h = tt
each_take P (suc n) [] h = tt
each_take P (suc n) (x ∷ xs) h = (h.0, each_take P n xs h.1)

rising_take : (n : ℕ) (xs : List ℤ) → IsRising xs → IsRising (take n xs)
rising_take zero xs h = tt
rising_take (suc n) [] h = tt
rising_take (suc n) (x ∷ xs) h = (each_take (λ y. rank x < rank y) n xs h.0, rising_take n xs h.1)

not_before : (m n : ℕ) → nat_lt m n ≡ false → n ≤ m
not_before m n e = elim (cases_lt m n) [ inl l ↦ (let g : nat_lt m n ≡ true = lt-ltb m n l in absurd cc) | inr l ↦ l ]

not_equal : (x y : ℤ) → int_eq x y ≡ false → ¬ (x ≡ y)
not_equal x y e h = let g : int_eq x y ≡ true = (Decides-int_eq x y).1 h in absurd cc

module _ (x : ℤ) where
  placed_each : (P : ℤ → Type 0) (xs : List ℤ) → P x → Each P xs → Each P (placed x xs)
  placed_each P [] p h = (p, tt)
  placed_each P (y ∷ ys) p h = at (nat_lt (rank y) (rank x)) (int_eq y x) (placed_each P ys p h.1)
    where
      at : (b c : Bool) → Each P (placed x ys) → Each P (if b then y ∷ placed x ys else (if c then y ∷ ys else x ∷ y ∷ ys))
      at true c r = (h.0, r)
      at false true r = h
      at false false r = (p, h)

  placed_rising : (xs : List ℤ) → IsRising xs → IsRising (placed x xs)
  placed_rising [] h = (tt, tt)
  placed_rising (y ∷ ys) h = at (nat_lt (rank y) (rank x)) (int_eq y x) refl refl (placed_rising ys h.1)
    where
      further : ¬ (y ≡ x) → rank x ≤ rank y → rank x < rank y
      further n l = elim (cases_lt (rank x) (rank y)) [ inl k ↦ k | inr k ↦ (let e : rank y ≡ rank x = omega arith in absurd (n (rank_same y x e))) ]

      at : (b c : Bool) → nat_lt (rank y) (rank x) ≡ b → int_eq y x ≡ c → IsRising (placed x ys) → IsRising (if b then y ∷ placed x ys else (if c then y ∷ ys else x ∷ y ∷ ys))
      at true c e f r = (placed_each (λ z. rank y < rank z) ys (ltb-true (rank y) (rank x) e) h.0, r)
      at false true e f r = h
      at false false e f r =
          let l : rank x < rank y = further (not_equal y x f) (not_before (rank y) (rank x) e) in
          ((l, each_map (λ z. rank y < rank z) (λ z. rank x < rank z) ys (λ z k. omega arith) h.0), h)

  placed_among : (z : ℤ) (xs : List ℤ) → IsAmong z xs → IsAmong z (placed x xs)
  placed_among z [] a = absurd a
  placed_among z (y ∷ ys) a = at (nat_lt (rank y) (rank x)) (int_eq y x) a (λ b. placed_among z ys b)
    where
      at : (b c : Bool) → IsAmong z (y ∷ ys) → (IsAmong z ys → IsAmong z (placed x ys)) → IsAmong z (if b then y ∷ placed x ys else (if c then y ∷ ys else x ∷ y ∷ ys))
      at true c (inl e) r = inl e
      at true c (inr a) r = inr (r a)
      at false true a r = a
      at false false a r = inr a

  placed_self : (xs : List ℤ) → IsAmong x (placed x xs)
  placed_self [] = inl refl
  placed_self (y ∷ ys) = at (nat_lt (rank y) (rank x)) (int_eq y x) refl (placed_self ys)
    where
      at : (b c : Bool) → int_eq y x ≡ c → IsAmong x (placed x ys) → IsAmong x (if b then y ∷ placed x ys else (if c then y ∷ ys else x ∷ y ∷ ys))
      at true c f r = inr r
      at false true f r = inl (sym ((Decides-int_eq y x).0 f))
      at false false f r = inl refl

  placed_length : (xs : List ℤ) → length xs ≤ length (placed x xs)
  placed_length [] = omega arith
  placed_length (y ∷ ys) = at (nat_lt (rank y) (rank x)) (int_eq y x) (placed_length ys)
    where
      at : (b c : Bool) → length ys ≤ length (placed x ys) → length (y ∷ ys) ≤ length (if b then y ∷ placed x ys else (if c then y ∷ ys else x ∷ y ∷ ys))
      at true c r = omega arith
      at false true r = omega arith
      at false false r = omega arith

  true_before : (y : ℤ) → rank y < rank x → nat_lt (rank y) (rank x) ≡ true
  true_before y l = lt-ltb (rank y) (rank x) l

  placed_last : (xs : List ℤ) → Each (λ z. rank z < rank x) xs → placed x xs ≡ xs ++ x ∷ []
  placed_last [] h = refl
  placed_last (y ∷ ys) h = rw (true_before y h.0) (ap (λ t. y ∷ t) (placed_last ys h.1))

  false_before : (y : ℤ) → rank x ≤ rank y → nat_lt (rank y) (rank x) ≡ false
  false_before y l = at (nat_lt (rank y) (rank x)) refl
    where
      at : (b : Bool) → nat_lt (rank y) (rank x) ≡ b → nat_lt (rank y) (rank x) ≡ false
      at true e = absurd (omega (arith, ltb-true (rank y) (rank x) e))
      at false e = e

  false_equal : (y : ℤ) → ¬ (y ≡ x) → int_eq y x ≡ false
  false_equal y n = at (int_eq y x) refl
    where
      at : (b : Bool) → int_eq y x ≡ b → int_eq y x ≡ false
      at true e = absurd (n ((Decides-int_eq y x).0 e))
      at false e = e

  true_equal : (y : ℤ) → y ≡ x → int_eq y x ≡ true
  true_equal y e = (Decides-int_eq y x).1 e

  -- put into its place by a number of items before it
  placed_at : (xs : List ℤ) (at : ℕ) → at ≤ length xs → Each (λ z. rank z < rank x) (take at xs) → IfSome (slice_get xs at) (λ z. rank x ≤ rank z) → ¬ (slice_get xs at ≡ Some x) → placed x xs ≡ take at xs ++ x ∷ drop at xs
  placed_at [] zero l h b n = refl
  placed_at [] (suc at) l h b n = absurd (omega arith)
  placed_at (y ∷ ys) zero l h b n = rw (false_before y b, false_equal y (λ e. n (ap Some e))) refl
  placed_at (y ∷ ys) (suc at) l h b n = rw (true_before y h.0) (ap (λ t. y ∷ t) (placed_at ys at (omega arith) h.1 b n))

  -- it is there already
  placed_in : (xs : List ℤ) (at : ℕ) → Each (λ z. rank z < rank x) (take at xs) → slice_get xs at ≡ Some x → placed x xs ≡ xs
  placed_in [] zero h e = absurd cc
  placed_in [] (suc at) h e = absurd cc
  placed_in (y ∷ ys) zero h e = let f : y ≡ x = cc in rw (false_before y (let g : rank y ≡ rank x = ap rank f in omega arith), true_equal y f) refl
  placed_in (y ∷ ys) (suc at) h e = rw (true_before y h.0) (ap (λ t. y ∷ t) (placed_in ys at h.1 e))

take_whole : (n : ℕ) (xs : List ℤ) → length xs ≤ n → take n xs ≡ xs
take_whole n xs h = take_all n xs h

-- no room: all come before it
pub inserted_past : (limit : ℕ) (x : ℤ) (xs : List ℤ) (at : ℕ) → length xs ≤ limit → at ≡ limit → at ≤ length xs → Each (λ z. rank z < rank x) (take at xs) → xs ≡ inserted limit x xs
inserted_past limit x xs at l e k h =
    let n : length xs ≡ limit = omega arith in
    let a : Each (λ z. rank z < rank x) xs = rw (take_whole at xs (omega arith)) at h in
    sym (ap (take limit) (placed_last x xs a) ∙ take-append-le limit xs (x ∷ []) (omega arith) ∙ take_whole limit xs l)

pub inserted_there : (limit : ℕ) (x : ℤ) (xs : List ℤ) (at : ℕ) → length xs ≤ limit → Each (λ z. rank z < rank x) (take at xs) → slice_get xs at ≡ Some x → xs ≡ inserted limit x xs
inserted_there limit x xs at l h e = sym (ap (take limit) (placed_in x xs at h e) ∙ take_whole limit xs l)

inserted_length : (x : ℤ) (xs : List ℤ) (at : ℕ) → length (take at xs ++ x ∷ drop at xs) ≡ suc (length xs)
inserted_length x xs zero = refl
inserted_length x [] (suc at) = refl
inserted_length x (y ∷ ys) (suc at) = ap suc (inserted_length x ys at)

pub inserted_room : (limit : ℕ) (x : ℤ) (xs : List ℤ) (at : ℕ) → length xs < limit → at ≤ length xs → Each (λ z. rank z < rank x) (take at xs) → IfSome (slice_get xs at) (λ z. rank x ≤ rank z) → ¬ (slice_get xs at ≡ Some x)
    → insert xs at x ≡ inserted limit x xs
inserted_room limit x xs at l k h b n =
    sym (ap (take limit) (placed_at x xs at k h b n) ∙ take_whole limit (take at xs ++ x ∷ drop at xs) (omega (arith, inserted_length x xs at)))

pub inserted_full : (limit : ℕ) (x : ℤ) (xs front : List ℤ) (last : ℤ) (at : ℕ) → xs ≡ front ++ last ∷ [] → length xs ≡ limit → ¬ (at ≡ limit) → at ≤ length xs → Each (λ z. rank z < rank x) (take at xs)
    → IfSome (slice_get xs at) (λ z. rank x ≤ rank z) → ¬ (slice_get xs at ≡ Some x) → insert front at x ≡ inserted limit x xs
inserted_full limit x xs front last at is l ne k h b n =
    let m : length xs ≡ length front + 1 = ap length is ∙ length-append front (last ∷ []) in
    let r : at ≤ length front = omega arith in
    let whole : placed x xs ≡ (take at front ++ x ∷ drop at front) ++ last ∷ [] =
    placed_at x xs at k h b n
    ∙ ap (λ t. take at t ++ x ∷ drop at t) is
    ∙ ap (λ t. t ++ x ∷ drop at (front ++ last ∷ [])) (take-append-le at front (last ∷ []) r)
    ∙ ap (λ t. take at front ++ x ∷ t) (drop-append-le at front (last ∷ []) r)
    ∙ sym (append_assoc (take at front) (x ∷ drop at front) (last ∷ [])) in
    let n : limit ≡ length (take at front ++ x ∷ drop at front) = omega (arith, inserted_length x front at) in
    sym (ap (take limit) whole ∙ ap (λ t. take t ((take at front ++ x ∷ drop at front) ++ last ∷ [])) n ∙ take-append_seam (take at front ++ x ∷ drop at front) (last ∷ []))

pub inserted_popped : (limit : ℕ) (x : ℤ) (xs front : List ℤ) (n at : ℕ) → front ≡ take (n - 1) xs → n ≡ length xs → n ≡ limit → ¬ (at ≡ limit) → at ≤ length xs → Each (λ z. rank z < rank x) (take at xs)
    → IfSome (slice_get xs at) (λ z. rank x ≤ rank z) → ¬ (slice_get xs at ≡ Some x) → insert front at x ≡ inserted limit x xs
inserted_popped limit x xs front n at is m l ne k h b absent =
    let some : n - 1 < length xs = omega arith in
    let one : n ≡ (n - 1) + 1 = omega arith in
    let e : xs ≡ front ++ get_or xs (n - 1) (pos 0) ∷ [] = sym (take_whole n xs (omega arith)) ∙ ap (λ t. take t xs) one ∙ take_more xs (n - 1) (pos 0) some ∙ ap (λ t. t ++ get_or xs (n - 1) (pos 0) ∷ []) (sym is) in
    inserted_full limit x xs front (get_or xs (n - 1) (pos 0)) at e (omega arith) ne k h b absent

-- what is among numbers in order is among the first, or all the first come before it
take_or : (n : ℕ) (y : ℤ) (zs : List ℤ) → IsRising zs → IsAmong y zs → IsAmong y (take n zs) ⊎ ((length (take n zs) ≡ n) × Each (λ z. rank z < rank y) (take n zs))
take_or zero y zs h a = inr (refl, tt)
take_or (suc n) y [] h a = absurd a
take_or (suc n) y (z ∷ zs) h (inl e) = inl (inl e)
take_or (suc n) y (z ∷ zs) h (inr a) =
    elim (take_or n y zs h.1 a) [
      | inl b ↦ inl (inr b)
      | inr b ↦ inr (ap suc b.0, (each_among (λ t. rank z < rank t) y zs h.0 a, b.1))
    ]

grown : (limit : ℕ) (P : ℤ → Type 0) (x : ℤ) (xs : List ℤ) → AreFirst limit P xs → AreFirst limit (λ y. P y ⊎ (y ≡ x)) (inserted limit x xs)
grown limit P x xs h =
    let up : IsRising (placed x xs) = placed_rising x xs h.rising in
    record {
      rising = rising_take limit (placed x xs) up;
      few = omega (arith, length-take limit (placed x xs));
      among = each_take (λ y. P y ⊎ (y ≡ x)) limit (placed x xs) (placed_each x (λ y. P y ⊎ (y ≡ x)) xs (inr refl) (each_map P (λ y. P y ⊎ (y ≡ x)) xs (λ y p. inl p) h.among));
      all = λ y p. elim p [
        | inl q ↦ elim (h.all y q) [ inl a ↦ take_or limit y (placed x xs) up (placed_among x y xs a) | inr a ↦ inr (left_out y a.0 a.1 (cases_lt (rank x) (rank y))) ]
        | inr e ↦ take_or limit y (placed x xs) up (rw e (placed_self x xs))
      ];
    }
  where
    left_out : (y : ℤ) → length xs ≡ limit → Each (λ z. rank z < rank y) xs → (rank x < rank y) ⊎ (rank y ≤ rank x) → (length (inserted limit x xs) ≡ limit) × Each (λ z. rank z < rank y) (inserted limit x xs)
    left_out y l e (inl k) = (omega (arith, length-take limit (placed x xs), placed_length x xs), each_take (λ z. rank z < rank y) limit (placed x xs) (placed_each x (λ z. rank z < rank y) xs k e))
    left_out y l e (inr k) =
        let a : Each (λ z. rank z < rank x) xs = each_map (λ z. rank z < rank y) (λ z. rank z < rank x) xs (λ z m. omega arith) e in
        let same : inserted limit x xs ≡ xs = ap (take limit) (placed_last x xs a) ∙ take-append-le limit xs (x ∷ []) (omega arith) ∙ take_whole limit xs (omega arith) in
        rw same (l, e)

same_first : (limit : ℕ) (P Q : ℤ → Type 0) (xs : List ℤ) → AreFirst limit P xs → ((y : ℤ) → P y → Q y) → ((y : ℤ) → Q y → P y) → AreFirst limit Q xs
same_first limit P Q xs h f g = record { rising = h.rising; few = h.few; among = each_map P Q xs f h.among; all = λ y q. h.all y (g y q) }

pub first_start : (limit : ℕ) (cs : List ℤ) → AreFirst limit (λ x. IsAmong x (take 0 cs)) []
first_start limit cs = record { rising = tt; few = omega arith; among = tt; all = λ y p. absurd p }

pub first_step : (limit : ℕ) (cs xs new : List ℤ) (i : ℕ) → AreFirst limit (λ x. IsAmong x (take i cs)) xs → i < length cs → new ≡ inserted limit (get_or cs i (pos 0)) xs → AreFirst limit (λ x. IsAmong x (take (i + 1) cs)) new
first_step limit cs xs new i h l e =
    let x = get_or cs i (pos 0) in
    let m : take (i + 1) cs ≡ take i cs ++ x ∷ [] = take_more cs i (pos 0) l in
    rw (e, m)
    (same_first limit (λ y. IsAmong y (take i cs) ⊎ (y ≡ x)) (λ y. IsAmong y (take i cs ++ x ∷ [])) (inserted limit x xs) (grown limit (λ y. IsAmong y (take i cs)) x xs h)
    (λ y p. elim p [ inl a ↦ among_front y (take i cs) (x ∷ []) a | inr f ↦ among_back y (take i cs) (x ∷ []) (inl f) ])
    (λ y p. elim (among_parts y (take i cs) (x ∷ []) p) [ inl a ↦ inl a | inr a ↦ elim a [ inl f ↦ inr f | inr z ↦ absurd z ] ]))

pub first_end : (limit : ℕ) (cs xs : List ℤ) (i : ℕ) → AreFirst limit (λ x. IsAmong x (take i cs)) xs → length cs ≤ i → AreFirst limit (λ x. IsAmong x cs) xs
first_end limit cs xs i h l = rw (take_whole i cs l) at h

pub ruleset place_steps = take_more

pub ruleset insert_steps = (inserted_past, inserted_there, inserted_room, inserted_popped)

pub ruleset first_steps = (first_start, first_step, first_end)

-- the first of the same candidates
pub first_again : (r : Result (List ℤ) AllocError) (limit : ℕ) (cs ds : List ℤ) → cs ≡ ds → IfOk r (AreFirst limit (λ x. IsAmong x cs)) → IfOk r (AreFirst limit (λ x. IsAmong x ds))
first_again (Ok xs) limit cs ds e h = rw (← e) h
first_again (Err w) limit cs ds e h = h
