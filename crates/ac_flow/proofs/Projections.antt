-- The pieces that are left of a copy are its projection.
use Rattle.std.proofs.Common.{◌≡◌, ◌↔◌, inl, inr, ℕ, zero, suc, ◌+◌, ◌-◌, ◌<◌, ◌≤◌, ℤ, pos, List, [], ◌∷◌, ◌++◌, length, take, drop, replicate, get_or, Bool, true, false, ◌||◌, ◌==◌, refl, sym, ap, ◌∙◌, subst, arith}
use Rattle.std.specs.Prelude.{Result, Ok, Err, IfOk, nat_lt}
use Rattle.std.specs.List.{range_with_len}
use Rattle.std.proofs.lemmas.List.{length-append, length-replicate, take-append-drop}
use Rattle.std.proofs.Math.ListN.{get_or-append}
use Rattle.ac_forms.specs.Rows.{Meets}
use Rattle.ac_forms.specs.declared.conj.Conj.{Conj}
use Rattle.ac_sets.proofs.Commons.{Meets-cut}
use Rattle.ac_omega_steps.proofs.Keeping.{Meets-append}
use Rattle.ac_omega.specs.Either.{EliminatesEither}
use Rattle.ac_omega_certify.specs.declared.strategy.Strategy.TheVariants.{Full, Economical}
use Rattle.ac_omega.specs.ColumnElimination.{pieces_of}
use Rattle.ac_omega.specs.Projection.{is_among, HoldsFor, MeetsRest}
use Rattle.ac_omega.specs.declared.pieces.Stop.{Stop}
use Rattle.ac_omega.specs.declared.piece.Piece.{Piece}
use Rattle.ac_omega.specs.Replays.{AreReached, HaveAllFrom, AreOver}
use Rattle.ac_flow.specs.CopyProjection.{columns_from, AreProjection}
use Rattle.ac_forms.specs.Negation.{HasExtension}
use Rattle.ac_forms.specs.PieceMembership.{IsInSome}
use Rattle.ac_forms.proofs.Trimmed.{past}

lt-true : (a b : ℕ) → nat_lt a b ≡ true → a < b
lt-true a b e = grind (arith, e)

lt-false : (a b : ℕ) → nat_lt a b ≡ false → b ≤ a
lt-false a b e = grind (arith, e)

-- ---- the columns

among-range : (from count j : ℕ) → from ≤ j → j < from + count → is_among j (range_with_len from count) ≡ true
among-range from zero j low high = absurd (omega (arith, low, high))
among-range from (suc count) j low high = by (j == from) refl (λ l. among-range (from + 1) count j l (omega (arith, high)))
  where
    by : (b : Bool) → (j == from) ≡ b → (from + 1 ≤ j → is_among j (range_with_len (from + 1) count) ≡ true) → (b || is_among j (range_with_len (from + 1) count)) ≡ true
    by true e more = refl
    by false e more = more (grind (arith, e, low))

pub record Ranged (first z : ℕ) (items : List ℕ) : Type 0 where
  pub low : first ≤ z
  pub is : items ≡ range_with_len first (z - first)

pub ranged_start : (first : ℕ) (items : List ℕ) → items ≡ [] → Ranged first first items
ranged_start first items e = record { low = omega arith; is = e ∙ ap (range_with_len first) (let z : 0 ≡ first - first = omega arith in z) }

range-more : (a n : ℕ) → range_with_len a (n + 1) ≡ range_with_len a n ++ (a + n) ∷ []
range-more a zero = let z : a ≡ a + 0 = omega arith in λ i. z i ∷ []
range-more a (suc n) = ap (range_with_len a) (let z : suc n + 1 ≡ suc (n + 1) = omega arith in z) ∙ ap (λ (xs : List ℕ). a ∷ xs) (range-more (a + 1) n ∙ ap (λ (k : ℕ). range_with_len (a + 1) n ++ k ∷ []) (let z : a + 1 + n ≡ a + suc n = omega arith in z))

pub ranged_step : (first z : ℕ) (items next : List ℕ) → Ranged first z items → next ≡ items ++ z ∷ [] → Ranged first (z + 1) next
ranged_step first z items next h e = record {
  low = let l = h.low in omega (arith, l);
  is = let l = h.low in
      e ∙ ap (λ (xs : List ℕ). xs ++ z ∷ []) h.is
      ∙ ap (λ (k : ℕ). range_with_len first (z - first) ++ k ∷ []) (let k : z ≡ first + (z - first) = omega (arith, l) in k)
      ∙ sym (range-more first (z - first))
      ∙ ap (range_with_len first) (let k : z - first + 1 ≡ z + 1 - first = omega (arith, l) in k);
}

pub ranged_end : (first z columns : ℕ) (items : List ℕ) → Ranged first z items → first ≤ columns → z ≡ columns → items ≡ range_with_len first (columns - first)
ranged_end first z columns items h l e = h.is ∙ ap (λ (k : ℕ). range_with_len first (k - first)) e

pub ruleset ranged_steps = (ranged_start, ranged_step, ranged_end)

not-among : (from count j : ℕ) → j < from → is_among j (range_with_len from count) ≡ false
not-among from zero j h = refl
not-among from (suc count) j h = by (j == from) refl (not-among (from + 1) count j (omega (arith, h)))
  where
    by : (b : Bool) → (j == from) ≡ b → is_among j (range_with_len (from + 1) count) ≡ false → (b || is_among j (range_with_len (from + 1) count)) ≡ false
    by true e more = absurd (grind (arith, e, h))
    by false e more = more

-- lists that agree below n
agree : (xs ys : List ℤ) (n : ℕ) → n ≤ length xs → n ≤ length ys → ((j : ℕ) → j < n → get_or xs j (pos 0) ≡ get_or ys j (pos 0)) → take n xs ≡ take n ys
agree xs ys zero a b h = refl
agree [] ys (suc n) a b h = absurd (omega (arith, a))
agree (x ∷ xs) [] (suc n) a b h = absurd (omega (arith, b))
agree (x ∷ xs) (y ∷ ys) (suc n) a b h =
    let e : x ≡ y = h 0 (omega arith) in
    let r = agree xs ys n (omega (arith, a)) (omega (arith, b)) (λ j l. h (suc j) (omega (arith, l))) in
    λ i. e i ∷ r i

take-front : (xs ys : List ℤ) (n : ℕ) → length xs ≡ n → take n (xs ++ ys) ≡ xs
take-front [] ys n e = rw (← e) refl
take-front (x ∷ xs) ys zero e = absurd (omega (arith, e))
take-front (x ∷ xs) ys (suc n) e = ap (λ (r : List ℤ). x ∷ r) (take-front xs ys n (omega (arith, e)))

some-first : (first : ℕ) (ps : List Piece) (p more : List ℤ) → length p ≡ first → AreOver first ps → IsInSome MeetsRest ps (p ++ more) ↔ IsInSome MeetsRest ps p
some-first first [] p more l w = ((λ h. h), (λ h. h))
some-first first (x ∷ ps) p more l w =
    let r = some-first first ps p more l w.1 in (
      (λ h. elim h [ inl a ↦ inl (Meets-cut x.rest.rows first p more (omega (arith, l)) w.0 a) | inr b ↦ inr (r.0 b) ]),
      (λ h. elim h [ inl a ↦ inl (Meets-append x.rest.rows first p more (omega (arith, l)) w.0 a) | inr b ↦ inr (r.1 b) ]),
    )

pub projection-of : (first : ℕ) (copy : Conj) (ps : List Piece) → first ≤ copy.columns → AreOver first ps
    → ((p : List ℤ) → length p ≡ copy.columns → HoldsFor (columns_from first copy) copy.rows p ↔ IsInSome MeetsRest ps p) → AreProjection first copy ps
projection-of first copy ps low over exact p l = (there, back)
  where
    vars : List ℕ
    vars = columns_from first copy

    more : List ℤ
    more = replicate (copy.columns - first) (pos 0)

    long : length (p ++ more) ≡ copy.columns
    long = omega (arith, length-append p more, length-replicate {A = ℤ} (copy.columns - first) (pos 0), l, low)

    there : HasExtension copy p → IsInSome MeetsRest ps p
    there x = (some-first first ps p more l over).0 ((exact (p ++ more) long).0 (record {
      at = p ++ x.0;
      differs = record { long = x.1 ∙ sym long; same = λ j e. by j e (nat_lt j first) refl };
      meets = x.2;
    }))
      where
        behind : (j : ℕ) → is_among j vars ≡ false → (b : Bool) → nat_lt j copy.columns ≡ b → first ≤ j → get_or (p ++ x.0) j (pos 0) ≡ get_or (p ++ more) j (pos 0)
        behind j e true h le = let t : is_among j vars ≡ true = among-range first (copy.columns - first) j le (let k = lt-true j copy.columns h in omega (arith, k, low)) in absurd cc
        behind j e false h le =
            let k = lt-false j copy.columns h in
            past (p ++ x.0) j (let a = x.1 in omega (arith, a, k)) ∙ sym (past (p ++ more) j (omega (arith, long, k)))

        by : (j : ℕ) → is_among j vars ≡ false → (b : Bool) → nat_lt j first ≡ b → get_or (p ++ x.0) j (pos 0) ≡ get_or (p ++ more) j (pos 0)
        by j e true h = let lt = lt-true j first h in let k : j < length p = omega (arith, lt, l) in get_or-append p x.0 (pos 0) j k ∙ sym (get_or-append p more (pos 0) j k)
        by j e false h = behind j e (nat_lt j copy.columns) refl (lt-false j first h)

    back : IsInSome MeetsRest ps p → HasExtension copy p
    back h =
        let x = (exact (p ++ more) long).1 ((some-first first ps p more l over).1 h) in
        let size : length x.at ≡ copy.columns = x.differs.long ∙ long in
        let front : take first x.at ≡ p =
        agree x.at (p ++ more) first (omega (arith, size, low)) (omega (arith, long, low)) (λ j lt. x.differs.same j (not-among first (copy.columns - first) j lt)) ∙ take-front p more first l in
        let whole : p ++ drop first x.at ≡ x.at = ap (λ (q : List ℤ). q ++ drop first x.at) (sym front) ∙ take-append-drop first x.at in
        (drop first x.at, ap length whole ∙ size, subst (Meets copy.rows) (sym whole) x.meets)

-- ---- what an elimination answers

pub has-all : (first : ℕ) (copy : Conj) → first ≤ copy.columns → HaveAllFrom first copy.columns (columns_from first copy)
has-all first copy low j l h = among-range first (copy.columns - first) j l (omega (arith, low, h))

pub record Answered (first : ℕ) (copy : Conj) (budget : ℕ) (r : Result (List Piece) Stop) : Type 0 where
  pub exact : EliminatesEither r copy (pieces_of Economical (columns_from first copy) budget copy) (pieces_of Full (columns_from first copy) budget copy)
  pub kills : IfOk r (λ pieces. AreReached (columns_from first copy) copy pieces)
  pub over : IfOk r (λ pieces. AreOver first pieces)
  pub projection : IfOk r (λ pieces. AreProjection first copy pieces)

pub answered : (first : ℕ) (copy : Conj) (budget : ℕ) (vars : List ℕ) (r : Result (List Piece) Stop) → vars ≡ columns_from first copy → first ≤ copy.columns → EliminatesEither r copy (pieces_of Economical vars budget copy) (pieces_of Full vars budget copy)
    → IfOk r (λ pieces. (p : List ℤ) → length p ≡ copy.columns → HoldsFor vars copy.rows p ↔ IsInSome MeetsRest pieces p) → IfOk r (λ pieces. AreReached vars copy pieces)
    → ((n : ℕ) → HaveAllFrom n copy.columns vars → IfOk r (λ pieces. AreOver n pieces)) → Answered first copy budget r
answered first copy budget vars r is low exact points reached over = record {
  exact = subst (λ (zs : List ℕ). EliminatesEither r copy (pieces_of Economical zs budget copy) (pieces_of Full zs budget copy)) is exact;
  kills = subst (λ (zs : List ℕ). IfOk r (λ pieces. AreReached zs copy pieces)) is reached;
  over = all;
  projection = projected r all (subst (λ (zs : List ℕ). IfOk r (λ pieces. (p : List ℤ) → length p ≡ copy.columns → HoldsFor zs copy.rows p ↔ IsInSome MeetsRest pieces p)) is points);
}
  where
    all : IfOk r (λ pieces. AreOver first pieces)
    all = over first (subst (HaveAllFrom first copy.columns) (sym is) (has-all first copy low))

    projected : (r : Result (List Piece) Stop) → IfOk r (λ pieces. AreOver first pieces) → IfOk r (λ pieces. (p : List ℤ) → length p ≡ copy.columns → HoldsFor (columns_from first copy) copy.rows p ↔ IsInSome MeetsRest pieces p) → IfOk r (λ pieces. AreProjection first copy pieces)
    projected (Ok ps) o h = projection-of first copy ps low o h
    projected (Err stop) o h = tt
