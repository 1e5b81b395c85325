-- The search of a union for a point, and the tests of its pieces.
use Rattle.std.proofs.Common.{◌≡◌, ◌⊎◌, inl, inr, ℕ, zero, suc, ◌+◌, ◌-◌, ◌<◌, ◌≤◌, ℤ, List, [], ◌∷◌, ◌++◌, length, take, drop, drop_of_length-le, get_or, refl, sym, ap, ◌∙◌, subst, arith, min}
use Rattle.std.proofs.lemmas.List.{drop_more, length-append, length-take-le, take-append-drop, take-take}
use Rattle.ac_forms.specs.Negation.{HasExtension}
use Rattle.ac_forms.specs.PieceMembership.{IsInSome}
use Rattle.ac_forms.specs.Rows.{IsWellMade, Meets, CanTest}
use Rattle.ac_forms.specs.declared.conj.Conj.{Conj}
use Rattle.ac_sets.specs.Unions.{ArePieces, AreWithin, IsUnion, Holds, IsMet, CanSearch}
use Rattle.ac_sets.specs.declared.unions.Union.{Union}

-- the pieces before piece i are not met: what is left to search
pub record SearchHalfway (cs : List Conj) (p : List ℤ) (i : ℕ) : Type 0 where
  pub room : i ≤ length cs
  pub onward : CanSearch cs p → CanSearch (drop i cs) p
  pub back : CanSearch (drop i cs) p → CanSearch cs p
  pub met : IsInSome IsMet cs p → IsInSome IsMet (drop i cs) p
  pub meets : IsInSome IsMet (drop i cs) p → IsInSome IsMet cs p

pub search_start : (cs : List Conj) (p : List ℤ) → SearchHalfway cs p 0
search_start cs p = record { room = omega arith; onward = λ f. f; back = λ f. f; met = λ f. f; meets = λ f. f }

split-at : (cs : List Conj) (i : ℕ) (c : Conj) → i < length cs → c ≡ get_or cs i c → drop i cs ≡ c ∷ drop (i + 1) cs
split-at cs i c m e = rw e (drop_more cs i c m)

not-first : (p : List ℤ) (c : Conj) (cs : List Conj) → ¬ IsMet c p → IsInSome IsMet (c ∷ cs) p → IsInSome IsMet cs p
not-first p c cs n (inl h) = absurd (n h)
not-first p c cs n (inr h) = h

pub search_step : (cs : List Conj) (p : List ℤ) (i : ℕ) (c : Conj) → SearchHalfway cs p i → i < length cs → c ≡ get_or cs i c → CanTest c.rows (take c.columns p) → ¬ Meets c.rows (take c.columns p) → SearchHalfway cs p (i + 1)
search_step cs p i c h m e can not =
    let d = split-at cs i c m e in
    record {
      room = omega arith;
      onward = λ f. (rw d at (h.onward f)).1 not;
      back = λ f. h.back (rw d (can, λ _. f));
      met = λ f. not-first p c (drop (i + 1) cs) not (rw d at (h.met f));
      meets = λ f. h.meets (rw d (inr f));
    }

-- a piece that is met decides
pub search_found : (cs : List Conj) (p : List ℤ) (i : ℕ) (c : Conj) → SearchHalfway cs p i → i < length cs → c ≡ get_or cs i c → CanTest c.rows (take c.columns p) → Meets c.rows (take c.columns p) → CanSearch cs p × IsInSome IsMet cs p
search_found cs p i c h m e can met =
    let d = split-at cs i c m e in
    (h.back (rw d (can, λ n. absurd (n met))), h.meets (rw d (inl met)))

pub search_wide : (cs : List Conj) (p : List ℤ) (i : ℕ) (c : Conj) → SearchHalfway cs p i → i < length cs → c ≡ get_or cs i c → ¬ CanTest c.rows (take c.columns p) → ¬ CanSearch cs p
search_wide cs p i c h m e wide f = let d = split-at cs i c m e in wide (rw d at (h.onward f)).0

pub search_end : (cs : List Conj) (p : List ℤ) (i : ℕ) → SearchHalfway cs p i → length cs ≤ i → CanSearch cs p × (¬ IsInSome IsMet cs p)
search_end cs p i h l = let d = drop_of_length-le cs l in (h.back (rw d tt), λ f. rw d at (h.met f))

pub ruleset search_steps = (search_start, search_step, search_found, search_wide, search_end)

-- what is known of the piece with a number
pub piece-at : (n : ℕ) (cs : List Conj) (i : ℕ) (c : Conj) → ArePieces n cs → i < length cs → c ≡ get_or cs i c → (n ≤ c.columns) × IsWellMade c
piece-at n [] i c w m e = absurd (omega (arith, m))
piece-at n (d ∷ cs) zero c w m e = rw e (w.0, w.1)
piece-at n (d ∷ cs) (suc i) c w m e = piece-at n cs i c w.2 (omega (arith, m)) e

pub within-at : (n : ℕ) (cs : List Conj) (i : ℕ) (c : Conj) → AreWithin n cs → i < length cs → c ≡ get_or cs i c → c.columns ≤ n
within-at n [] i c w m e = absurd (omega (arith, m))
within-at n (d ∷ cs) zero c w m e = rw e w.0
within-at n (d ∷ cs) (suc i) c w m e = within-at n cs i c w.1 (omega (arith, m)) e

-- the tests, piece by piece
pub record PiecesHalfway (n : ℕ) (cs : List Conj) (i : ℕ) : Type 0 where
  pub room : i ≤ length cs
  pub onward : ArePieces n cs → ArePieces n (drop i cs)
  pub back : ArePieces n (drop i cs) → ArePieces n cs

pub pieces_start : (n : ℕ) (cs : List Conj) → PiecesHalfway n cs 0
pieces_start n cs = record { room = omega arith; onward = λ f. f; back = λ f. f }

pub pieces_step : (n : ℕ) (cs : List Conj) (i : ℕ) (c : Conj) → PiecesHalfway n cs i → i < length cs → c ≡ get_or cs i c → n ≤ c.columns → IsWellMade c → PiecesHalfway n cs (i + 1)
pieces_step n cs i c h m e low made =
    let d = split-at cs i c m e in
    record { room = omega arith; onward = λ f. (rw d at (h.onward f)).2; back = λ f. h.back (rw d (low, made, f)) }

pub pieces_few : (n : ℕ) (cs : List Conj) (i : ℕ) (c : Conj) → PiecesHalfway n cs i → i < length cs → c ≡ get_or cs i c → c.columns < n → ¬ ArePieces n cs
pieces_few n cs i c h m e few f = let d = split-at cs i c m e in omega (arith, (rw d at (h.onward f)).0, few)

pub pieces_bad : (n : ℕ) (cs : List Conj) (i : ℕ) (c : Conj) → PiecesHalfway n cs i → i < length cs → c ≡ get_or cs i c → ¬ IsWellMade c → ¬ ArePieces n cs
pieces_bad n cs i c h m e bad f = let d = split-at cs i c m e in bad (rw d at (h.onward f)).1

pub pieces_end : (n : ℕ) (cs : List Conj) (i : ℕ) → PiecesHalfway n cs i → length cs ≤ i → ArePieces n cs
pieces_end n cs i h l = let d = drop_of_length-le cs l in h.back (rw d tt)

pub ruleset pieces_steps = (pieces_start, pieces_step, pieces_few, pieces_bad, pieces_end)

pub record WithinHalfway (n : ℕ) (cs : List Conj) (i : ℕ) : Type 0 where
  pub room : i ≤ length cs
  pub onward : AreWithin n cs → AreWithin n (drop i cs)
  pub back : AreWithin n (drop i cs) → AreWithin n cs

pub within_start : (n : ℕ) (cs : List Conj) → WithinHalfway n cs 0
within_start n cs = record { room = omega arith; onward = λ f. f; back = λ f. f }

pub within_step : (n : ℕ) (cs : List Conj) (i : ℕ) (c : Conj) → WithinHalfway n cs i → i < length cs → c ≡ get_or cs i c → c.columns ≤ n → WithinHalfway n cs (i + 1)
within_step n cs i c h m e low =
    let d = split-at cs i c m e in
    record { room = omega arith; onward = λ f. (rw d at (h.onward f)).1; back = λ f. h.back (rw d (low, f)) }

pub within_more : (n : ℕ) (cs : List Conj) (i : ℕ) (c : Conj) → WithinHalfway n cs i → i < length cs → c ≡ get_or cs i c → n < c.columns → ¬ AreWithin n cs
within_more n cs i c h m e more f = let d = split-at cs i c m e in omega (arith, (rw d at (h.onward f)).0, more)

pub within_end : (n : ℕ) (cs : List Conj) (i : ℕ) → WithinHalfway n cs i → length cs ≤ i → AreWithin n cs
within_end n cs i h l = let d = drop_of_length-le cs l in h.back (rw d tt)

pub ruleset within_steps = (within_start, within_step, within_more, within_end)

-- a piece that is met holds the point's front
met-extends : (n : ℕ) (c : Conj) (p : List ℤ) → n ≤ c.columns → c.columns ≤ length p → IsMet c p → HasExtension c (take n p)
met-extends n c p low high met =
    let q = take c.columns p in
    let l : length q ≡ c.columns = length-take-le c.columns p high in
    let front : take n q ≡ take n p = take-take n c.columns p low in
    let whole : take n p ++ drop n q ≡ q = ap (λ (xs : List ℤ). xs ++ drop n q) (sym front) ∙ take-append-drop n q in
    (drop n q, ap (λ (xs : List ℤ). length xs) whole ∙ l, subst (λ (xs : List ℤ). Meets c.rows xs) (sym whole) met)

some-met : (n : ℕ) (cs : List Conj) (p : List ℤ) → ArePieces n cs → AreWithin (length p) cs → IsInSome IsMet cs p → IsInSome HasExtension cs (take n p)
some-met n [] p w v m = m
some-met n (c ∷ cs) p w v (inl m) = inl (met-extends n c p w.0 v.0 m)
some-met n (c ∷ cs) p w v (inr m) = inr (some-met n cs p w.2 v.1 m)

visible-within : (n : ℕ) (cs : List Conj) (p : List ℤ) → ArePieces n cs → AreWithin (length p) cs → IsInSome IsMet cs p → n ≤ length p
visible-within n [] p w v m = absurd m
visible-within n (c ∷ cs) p w v m = omega (arith, w.0, v.0)

pub met-holds : (u : Union) (p : List ℤ) → IsUnion u → AreWithin (length p) u.pieces → IsInSome IsMet u.pieces p → Holds u (take u.visible p)
met-holds u p w v m = (length-take-le u.visible p (visible-within u.visible u.pieces p w v m), some-met u.visible u.pieces p w v m)
