-- The entries of a pair path at a point, one after the other.
use Rattle.std.proofs.Common.{◌≡◌, ℕ, zero, suc, ◌+◌, ℤ, pos, List, [], ◌∷◌, ◌++◌, length, refl, sym, ap, ◌∙◌, arith, append_assoc}
use Rattle.std.specs.Prelude.{slice_index_or}
use Rattle.std.specs.List.{range_with_len}
use Rattle.ac_forms.specs.Renaming.{picked}
use Rattle.ac_claims_paths.specs.PathColumns.{base, columns_of}
use Rattle.ac_claims_paths.specs.declared.path.Seat.{Seat}
use Rattle.ac_claims_paths.proofs.Moving.{pick-append}
use Rattle.ac_widen.specs.declared.derivation.Entry.{Entry}
use Rattle.ac_widen_programs.specs.PairPathEnds.{entries_at, entry_at, step_from, steps_behind}
use Rattle.ac_widen_programs.specs.PairPaths.{point_of}
use Rattle.ac_unfold.specs.UnfoldPaths.{reason_at}

-- ---- the numbers in some columns

pub picked_none : (first : ℕ) (p ns : List ℤ) → ns ≡ ns ++ picked (range_with_len first 0) p
picked_none first p [] = refl
picked_none first p (n ∷ ns) = ap (λ (xs : List ℤ). n ∷ xs) (picked_none first p ns)

picked_last : (first k : ℕ) (p : List ℤ) → picked (range_with_len first (k + 1)) p ≡ picked (range_with_len first k) p ++ slice_index_or p (first + k) (pos 0) ∷ []
picked_last first zero p = let z : first + 0 ≡ first = omega arith in ap (λ (j : ℕ). slice_index_or p j (pos 0) ∷ []) (sym z)
picked_last first (suc k) p =
    let z : first + 1 + k ≡ first + suc k = omega arith in
    let y : suc k + 1 ≡ suc (k + 1) = omega arith in
    ap (λ (j : ℕ). picked (range_with_len first j) p) y ∙ ap (λ (xs : List ℤ). slice_index_or p first (pos 0) ∷ xs) (picked_last (first + 1) k p ∙ ap (λ (j : ℕ). picked (range_with_len (first + 1) k) p ++ slice_index_or p j (pos 0) ∷ []) z)

pub picked_more : (first k : ℕ) (p old now new : List ℤ) (n : ℤ) → now ≡ old ++ picked (range_with_len first k) p → new ≡ now ++ n ∷ [] → n ≡ slice_index_or p (first + k) (pos 0) → new ≡ old ++ picked (range_with_len first (k + 1)) p
picked_more first k p old now new n e f g =
    f ∙ ap (λ (xs : List ℤ). xs ++ n ∷ []) e ∙ append_assoc old (picked (range_with_len first k) p) (n ∷ []) ∙ ap (λ (z : ℤ). old ++ (picked (range_with_len first k) p ++ z ∷ [])) g ∙ ap (λ (xs : List ℤ). old ++ xs) (sym (picked_last first k p))

pub pair_is : (params : ℕ) (s : Seat × Seat) (p a b c : List ℤ) → a ≡ [] ++ picked (range_with_len 0 params) p → b ≡ a ++ picked (range_with_len s.0.first s.0.width) p → c ≡ b ++ picked (range_with_len s.1.first s.1.width) p → c ≡ point_of params p s
pair_is params s p a b c e f g =
    let x = picked (base params) p in
    let y = picked (columns_of s.0) p in
    let z = picked (columns_of s.1) p in
    g ∙ ap (λ (xs : List ℤ). xs ++ z) (f ∙ ap (λ (xs : List ℤ). xs ++ y) e) ∙ append_assoc x y z ∙ ap (λ (xs : List ℤ). x ++ xs) (sym (pick-append (columns_of s.0) (columns_of s.1) p)) ∙ sym (pick-append (base params) (columns_of s.0 ++ columns_of s.1) p)

-- ---- entries

steps_long : (k params : ℕ) (p : List ℤ) (t : List (Seat × Seat)) → length (steps_behind k params p t) ≡ length t
steps_long k params p [] = refl
steps_long k params p (s ∷ t) = ap suc (steps_long (suc k) params p t)

steps_last : (k params : ℕ) (p : List ℤ) (t : List (Seat × Seat)) (s : Seat × Seat) → steps_behind k params p (t ++ s ∷ []) ≡ steps_behind k params p t ++ step_from (k + length t) (entry_at params p s) ∷ []
steps_last k params p [] s = let z : k + 0 ≡ k = omega arith in ap (λ (j : ℕ). step_from j (entry_at params p s) ∷ []) (sym z)
steps_last k params p (x ∷ t) s =
    let z : suc k + length t ≡ k + suc (length t) = omega arith in
    ap (λ (es : List Entry). step_from k (entry_at params p x) ∷ es) (steps_last (suc k) params p t s ∙ ap (λ (j : ℕ). steps_behind (suc k) params p t ++ step_from j (entry_at params p s) ∷ []) z)

entry_is : (params : ℕ) (p : List ℤ) (s : Seat × Seat) (e : Entry) (n : ℕ) → e.left ≡ s.0.position → e.right ≡ s.1.position → e.point ≡ point_of params p s → e.reason ≡ reason_at n → e ≡ record (entry_at params p s) { reason = reason_at n }
entry_is params p s e n l r q f = λ i. record { left = l i; right = r i; point = q i; reason = f i }

pub entries_more : (params : ℕ) (p : List ℤ) (t : List (Seat × Seat)) (made : List Entry) (s : Seat × Seat) (e : Entry) → made ≡ entries_at params p t → e.left ≡ s.0.position → e.right ≡ s.1.position → e.point ≡ point_of params p s
    → e.reason ≡ reason_at (length made) → made ++ e ∷ [] ≡ entries_at params p (t ++ s ∷ [])
entries_more params p [] made s e m l r q f = ap (λ (es : List Entry). es ++ e ∷ []) m ∙ ap (λ (x : Entry). x ∷ []) (entry_is params p s e 0 l r q (f ∙ ap (λ (es : List Entry). reason_at (length es)) m))
entries_more params p (x ∷ t) made s e m l r q f =
    let n : length (entries_at params p (x ∷ t)) ≡ suc (length t) = ap suc (steps_long 0 params p t) in
    let z : 0 + length t ≡ length t = omega arith in
    ap (λ (es : List Entry). es ++ e ∷ []) m
    ∙ ap (λ (y : Entry). entries_at params p (x ∷ t) ++ y ∷ []) (entry_is params p s e (suc (length t)) l r q (f ∙ ap (λ (es : List Entry). reason_at (length es)) m ∙ ap reason_at n) ∙ ap (λ (j : ℕ). step_from j (entry_at params p s)) (sym z))
    ∙ ap (λ (es : List Entry). entry_at params p x ∷ es) (sym (steps_last 0 params p t s))

-- the same with the entries behind some
pub entries_next : (params : ℕ) (p : List ℤ) (t t' : List (Seat × Seat)) (made new : List Entry) (s : Seat × Seat) (e : Entry) → made ≡ entries_at params p t → new ≡ made ++ e ∷ [] → t' ≡ t ++ s ∷ [] → e.left ≡ s.0.position → e.right ≡ s.1.position
    → e.point ≡ point_of params p s → e.reason ≡ reason_at (length made) → new ≡ entries_at params p t'
entries_next params p t t' made new s e m n u l r q f = n ∙ entries_more params p t made s e m l r q f ∙ ap (entries_at params p) (sym u)

pub ruleset trace_steps = (picked_none, picked_more, pair_is, entries_more, entries_next)
