-- Rows thinned out one after another.
use Rattle.std.proofs.Common.{◌≡◌, ◌⊎◌, inl, inr, ℕ, zero, suc, ◌+◌, ◌-◌, ◌<◌, ◌≤◌, ℤ, List, [], ◌∷◌, ◌++◌, length, take, drop, get_or, refl, ap, sym, ◌∙◌, arith, append_assoc, length-drop}
use Rattle.std.proofs.lemmas.List.{take_more, take_all, drop_more, drop_all}
use Rattle.ac_forms.specs.ListMembers.{IsAmong}
use Rattle.ac_hull.specs.ColumnDifferences.{IsConstant, IsSum, IsWeaker, RestsOn, own, constant, weaker, sum, IsThin, AllMeetRow}
use Rattle.ac_hull.specs.HullInternals.Thinning.{IsRedundant}
use Rattle.ac_hull.specs.declared.difference.Difference.{Difference}
use Rattle.ac_hull.proofs.Among.{among_front, among_back, among_parts}

-- some item with P, up to a place
abbrev pub SomeAmong : {A : Type 0} → (A → Type 0) → List A → Type 0
SomeAmong {A} P xs = (x : A) × IsAmong x xs × P x

pub none_more : {A : Type 0} (P : A → Type 0) (xs : List A) (i : ℕ) (d : A) → ¬ (SomeAmong P (take i xs)) → i < length xs → ¬ (P (get_or xs i d)) → ¬ (SomeAmong P (take (i + 1) xs))
none_more P xs i d n l m s =
    let x = get_or xs i d in
    let a : IsAmong s.0 (take i xs ++ get_or xs i d ∷ []) = rw (take_more xs i d l) at s.1 in
    elim (among_parts s.0 (take i xs) (get_or xs i d ∷ []) a) [
      | inl b ↦ n (s.0, b, s.2)
      | inr b ↦ elim b [ inl f ↦ m (rw f at s.2) | inr z ↦ absurd z ]
    ]

pub among_place : {A : Type 0} (xs : List A) (i : ℕ) (d : A) → i < length xs → IsAmong (get_or xs i d) xs
among_place [] i d l = absurd (omega arith)
among_place (y ∷ ys) zero d l = inl refl
among_place (y ∷ ys) (suc i) d l = inr (among_place ys i d (omega arith))

pub found_at : {A : Type 0} (P : A → Type 0) (xs : List A) (i : ℕ) (d : A) → i < length xs → P (get_or xs i d) → SomeAmong P xs
found_at P xs i d l p = (get_or xs i d, among_place xs i d l, p)

pub none_whole : {A : Type 0} (P : A → Type 0) (xs : List A) (i : ℕ) → ¬ (SomeAmong P (take i xs)) → length xs ≤ i → ¬ (SomeAmong P xs)
none_whole P xs i n l = rw (take_all i xs l) at n

-- where each row rests on present ones, and each of these on kept ones, all rest on the kept ones
pub rests_through : (points : List (List ℤ)) (present kept : List Difference) → ((d : Difference) → IsAmong d present → RestsOn points kept d) → (d : Difference) → RestsOn points present d → RestsOn points kept d
rests_through points present kept f _ (own d a) = f d a
rests_through points present kept f _ (constant d m c) = constant d m c
rests_through points present kept f _ (weaker e d m r w) = weaker e d m (rests_through points present kept f e r) w
rests_through points present kept f _ (sum a b d m r s w) = sum a b d m (rests_through points present kept f a r) (rests_through points present kept f b s) w

rests_redundant : (points : List (List ℤ)) (others : List Difference) (d : Difference) → AllMeetRow points d → IsRedundant points others d → RestsOn points others d
rests_redundant points others d m (inl c) = constant d m c
rests_redundant points others d m (inr (inl w)) = weaker w.0 d m (own w.0 w.1) w.2
rests_redundant points others d m (inr (inr s)) = sum s.0 s.1 d m (own s.0 s.2) (own s.1 s.3) s.4

-- before row i: those that are kept, and those that are still to come
pub record Halfway (points : List (List ℤ)) (rows kept : List Difference) (i : ℕ) : Type 0 where
  pub room : i ≤ length rows
  pub among : (d : Difference) → IsAmong d kept → IsAmong d rows
  pub rests : (d : Difference) → IsAmong d rows → RestsOn points (kept ++ drop i rows) d
  pub varying : (d : Difference) → IsAmong d kept → ¬ (IsConstant points d)
  pub apart : (e d : Difference) → IsAmong e (kept ++ drop i rows) → IsAmong d kept → ¬ (e ≡ d) → ¬ (IsWeaker points e d)
  pub whole : (a b d : Difference) → IsAmong a (kept ++ drop i rows) → IsAmong b (kept ++ drop i rows) → IsAmong d kept → ¬ (a ≡ d) → ¬ (b ≡ d) → ¬ (IsSum a b d)

pub thin_start : (points : List (List ℤ)) (rows : List Difference) → Halfway points rows [] 0
thin_start points rows = record {
  room = omega arith;
  among = λ d a. absurd a;
  rests = λ d a. own d a;
  varying = λ d a. absurd a;
  apart = λ e d a b. absurd b;
  whole = λ a b d x y z. absurd z;
}

module _ (points : List (List ℤ)) (rows kept : List Difference) (i : ℕ) (o : Difference) (h : Halfway points rows kept i) (l : i < length rows) where
  abbrev x : Difference
  x = get_or rows i o

  left_is : drop i rows ≡ x ∷ drop (i + 1) rows
  left_is = drop_more rows i o l

  smaller : (d : Difference) → IsAmong d (kept ++ drop (i + 1) rows) → IsAmong d (kept ++ drop i rows)
  smaller d a =
      rw left_is (elim (among_parts d kept (drop (i + 1) rows) a) [
        | inl b ↦ among_front d kept (x ∷ drop (i + 1) rows) b
        | inr b ↦ among_back d kept (x ∷ drop (i + 1) rows) (inr b)
      ])

  parts : (d : Difference) → IsAmong d (kept ++ drop i rows) → (d ≡ x) ⊎ IsAmong d (kept ++ drop (i + 1) rows)
  parts d a =
      let b : IsAmong d (kept ++ x ∷ drop (i + 1) rows) = rw left_is at a in
      elim (among_parts d kept (x ∷ drop (i + 1) rows) b) [
        | inl f ↦ inr (among_front d kept (drop (i + 1) rows) f)
        | inr f ↦ elim f [ inl g ↦ inl g | inr g ↦ inr (among_back d kept (drop (i + 1) rows) g) ]
      ]

  pub thin_drop : AllMeetRow points x → IsRedundant points (kept ++ drop (i + 1) rows) x → Halfway points rows kept (i + 1)
  thin_drop m r = record {
    room = omega arith;
    among = h.among;
    rests = λ d a. rests_through points (kept ++ drop i rows) (kept ++ drop (i + 1) rows) present d (h.rests d a);
    varying = h.varying;
    apart = λ e d a. h.apart e d (smaller e a);
    whole = λ a b d y z. h.whole a b d (smaller a y) (smaller b z);
  }
    where
      present : (d : Difference) → IsAmong d (kept ++ drop i rows) → RestsOn points (kept ++ drop (i + 1) rows) d
      present d a = elim (parts d a) [ inl f ↦ rw f (rests_redundant points (kept ++ drop (i + 1) rows) x m r) | inr b ↦ own d b ]

  pub thin_keep : ¬ (IsRedundant points (kept ++ drop (i + 1) rows) x) → Halfway points rows (kept ++ x ∷ []) (i + 1)
  thin_keep n = record {
    room = omega arith;
    among = λ d a. elim (one d a) [ inl b ↦ h.among d b | inr f ↦ rw f (among_place rows i o l) ];
    rests = λ d a. rw same (h.rests d a);
    varying = λ d a c. elim (one d a) [ inl b ↦ h.varying d b c | inr f ↦ n (inl (rw f at c)) ];
    apart = λ e d a b ne w. elim (one d b) [
      | inl k ↦ h.apart e d (rw same at a) k ne w
      | inr f ↦ elim (parts e (rw same at a)) [ inl g ↦ ne (g ∙ sym f) | inr k ↦ n (inr (inl (e, k, rw f at w))) ]
    ];
    whole = λ a b d y z k ne no w. elim (one d k) [
      | inl g ↦ h.whole a b d (rw same at y) (rw same at z) g ne no w
      | inr f ↦ elim (parts a (rw same at y)) [
        | inl g ↦ ne (g ∙ sym f)
        | inr u ↦ elim (parts b (rw same at z)) [ inl g ↦ no (g ∙ sym f) | inr v ↦ n (inr (inr (a, b, u, v, rw f at w))) ]
      ]
    ];
  }
    where
      same : (kept ++ x ∷ []) ++ drop (i + 1) rows ≡ kept ++ drop i rows
      same = append_assoc kept (x ∷ []) (drop (i + 1) rows) ∙ ap (λ t. kept ++ t) (sym left_is)

      one : (d : Difference) → IsAmong d (kept ++ x ∷ []) → IsAmong d kept ⊎ (d ≡ x)
      one d a = elim (among_parts d kept (x ∷ []) a) [ inl b ↦ inl b | inr b ↦ elim b [ inl f ↦ inr f | inr z ↦ absurd z ] ]

pub rest_all : (xs : List Difference) (i : ℕ) → take (length xs - i) (drop i xs) ≡ drop i xs
rest_all xs i = take_all (length xs - i) (drop i xs) (omega (arith, length-drop i xs))

pub thin_end : (points : List (List ℤ)) (rows kept : List Difference) (i : ℕ) → Halfway points rows kept i → length rows ≤ i → IsThin points (λ d. IsAmong d rows) kept
thin_end points rows kept i h l = record {
  among = h.among;
  rests = λ d a. rw same at (h.rests d a);
  varying = h.varying;
  apart = λ e d a. h.apart e d (rw same a);
  whole = λ a b d y z. h.whole a b d (rw same y) (rw same z);
}
  where
    front : (xs : List Difference) → xs ++ [] ≡ xs
    front [] = refl
    front (x ∷ xs) = ap (λ t. x ∷ t) (front xs)

    same : kept ++ drop i rows ≡ kept
    same = ap (λ t. kept ++ t) (drop_all i rows l) ∙ front kept
