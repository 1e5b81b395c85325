-- The rows of the levels hold where the order of entries does, and no two of them together.
use Rattle.std.proofs.Common.{◌≡◌, ◌↔◌, inl, inr, ℕ, zero, suc, ◌+◌, ◌<◌, ◌≤◌, List, [], ◌∷◌, ◌++◌, length, get_or, Bool, true, false, cond, refl, sym, ◌∙◌, arith, ℤ, pos, negsuc, ◌+ℤ◌, ◌*ℤ◌, ◌≤ℤ◌}
use Rattle.std.specs.List.{AllByRecursion}
use Rattle.std.proofs.lemmas.Int.{ints}
use Rattle.ac_forms.specs.Affine.{value_at}
use Rattle.ac_forms.specs.Rows.{Meets, Holds, AreRowsOver}
use Rattle.ac_forms.specs.declared.row.Row.{Row}
use Rattle.ac_forms.specs.declared.row.Row.TheVariants.{Ge, Eq}
use Rattle.ac_syntax.specs.ExecutionOrder.{Before}
use Rattle.ac_syntax.specs.LoopNests.{common}
use Rattle.ac_poly.specs.LevelRows.{difference, levels_from, numbers, LevelsAreApart, LevelsHaveColumns, LevelsMove}
use Rattle.ac_forms.specs.PieceMembership.{IsInSome, IsInOneAtMost}
use Rattle.ac_poly.proofs.Commons.{common_within}
use Rattle.ac_poly.proofs.Differences.{value-difference, difference-within}
use Rattle.ac_poly.proofs.Rows.{meets_append}
use Rattle.ac_forms.proofs.InPieces.{none-of}

one_row : (q : List Row) (r : Row) (p : List ℤ) → Meets (q ++ r ∷ []) p ↔ (Meets q p × Holds r p)
one_row q r p = let i = meets_append q (r ∷ []) p in ((λ h. let j = i.0 h in (j.0, j.1.0)), (λ h. i.1 (h.0, (h.1, tt))))

at_text : (text : Bool) (T : Type 0) (done : List Row) (p : List ℤ) → (text ≡ true) ↔ T → IsInSome Meets (cond text (done ∷ []) []) p ↔ (Meets done p × T)
at_text true T done p h = ((λ s. elim s [ inl m ↦ (m, h.0 refl) | inr n ↦ absurd n ]), (λ m. inl m.0))
at_text false T done p h = ((λ s. absurd s), (λ m. absurd (let k : false ≡ true = h.1 m.1 in cc)))

pub levels_hold : (c s u : ℕ) (p : List ℤ) (i j : ℕ) (ws xs : List ℤ) (text : Bool) (done : List Row)
    → c ≤ length ws → c ≤ length xs → numbers i (length ws) p ≡ ws → numbers j (length xs) p ≡ xs → (text ≡ true) ↔ (s < u)
    → IsInSome Meets (levels_from c i j text done) p ↔ (Meets done p × Before c s u ws xs)
levels_hold zero s u p i j ws xs text done a b v w h = at_text text (s < u) done p h
levels_hold (suc c) s u p i j [] xs text done a b v w h = absurd (omega arith)
levels_hold (suc c) s u p i j (x ∷ ws) [] text done a b v w h = absurd (omega arith)
levels_hold (suc c) s u p i j (x ∷ ws) (y ∷ xs) text done a b v w h =
    by (levels_hold c s u p (i + 1) (j + 1) ws xs text (done ++ Eq (difference i j (pos 0)) ∷ []) (omega arith) (omega arith) rest_first rest_second h)
  where
    rest_first : numbers (i + 1) (length ws) p ≡ ws
    rest_first = cc

    rest_second : numbers (j + 1) (length xs) p ≡ xs
    rest_second = cc

    first : get_or p i (pos 0) ≡ x
    first = cc

    second : get_or p j (pos 0) ≡ y
    second = cc

    val : (k : ℤ) → value_at (difference i j k) p ≡ y +ℤ (negsuc 0 *ℤ x) +ℤ k
    val k = value-difference i j k p ∙ (λ t. second t +ℤ (negsuc 0 *ℤ first t) +ℤ k)

    by : IsInSome Meets (levels_from c (i + 1) (j + 1) text (done ++ Eq (difference i j (pos 0)) ∷ [])) p ↔ (Meets (done ++ Eq (difference i j (pos 0)) ∷ []) p × Before c s u ws xs)
        → IsInSome Meets (levels_from (suc c) i j text done) p ↔ (Meets done p × Before (suc c) s u (x ∷ ws) (y ∷ xs))
    by again =
        let g = one_row done (Ge (difference i j (negsuc 0))) p in
        let f = one_row done (Eq (difference i j (pos 0))) p in
        let v1 = val (negsuc 0) in
        let v0 = val (pos 0) in (
          (λ s. elim s [
            | inl m ↦ (let n = g.0 m in (n.0, inl (let z : pos 0 ≤ℤ value_at (difference i j (negsuc 0)) p = n.1 in omega (arith, ints, v1))))
            | inr m ↦ (let n = again.0 m in let k = f.0 n.0 in (k.0, inr ((let z : value_at (difference i j (pos 0)) p ≡ pos 0 = k.1 in omega (arith, ints, v0)), n.1)))
          ]),
          (λ s. elim s.1 [
            | inl lt ↦ inl (g.1 (s.0, omega (arith, ints, v1)))
            | inr r ↦ inr (again.1 (f.1 (s.0, (let z : x ≡ y = r.0 in omega (arith, ints, v0))), r.1))
          ]),
        )

-- what is done holds in each level
done_holds : (c i j : ℕ) (text : Bool) (done : List Row) (p : List ℤ) → IsInSome Meets (levels_from c i j text done) p → Meets done p
done_holds zero i j true done p (inl m) = m
done_holds zero i j true done p (inr n) = absurd n
done_holds zero i j false done p s = absurd s
done_holds (suc c) i j text done p (inl m) = ((one_row done (Ge (difference i j (negsuc 0))) p).0 m).0
done_holds (suc c) i j text done p (inr s) = ((one_row done (Eq (difference i j (pos 0))) p).0 (done_holds c (i + 1) (j + 1) text _ p s)).0

not_both : (d a b : ℤ) → a ≡ d +ℤ negsuc 0 → b ≡ d +ℤ pos 0 → b ≡ pos 0 → pos 0 ≤ℤ a → ⊥
not_both d a b e f z l = omega (arith, ints, e, f, z, l)

at_most_one : (c i j : ℕ) (text : Bool) (done : List Row) (p : List ℤ) → IsInOneAtMost Meets (levels_from c i j text done) p
at_most_one zero i j true done p = ((λ m. tt), tt)
at_most_one zero i j false done p = tt
at_most_one (suc c) i j text done p = (
  (λ m. none-of Meets (levels_from c (i + 1) (j + 1) text (done ++ Eq (difference i j (pos 0)) ∷ [])) p (λ s.
      let a = ((one_row done (Ge (difference i j (negsuc 0))) p).0 m).1 in
      let b = ((one_row done (Eq (difference i j (pos 0))) p).0 (done_holds c (i + 1) (j + 1) text _ p s)).1 in
      not_both (get_or p j (pos 0) +ℤ (negsuc 0 *ℤ get_or p i (pos 0))) (value_at (difference i j (negsuc 0)) p) (value_at (difference i j (pos 0)) p)
      (value-difference i j (negsuc 0) p) (value-difference i j (pos 0) p) b a)),
  at_most_one c (i + 1) (j + 1) text (done ++ Eq (difference i j (pos 0)) ∷ []) p,
)

pub levels_are_apart : LevelsAreApart
levels_are_apart i j ls ms text p = at_most_one _ i j text [] p

-- the columns of the rows
more_over : (n : ℕ) (rows : List Row) (r : Row) → AreRowsOver n rows → AreRowsOver n (r ∷ []) → AreRowsOver n (rows ++ r ∷ [])
more_over n [] r h k = k
more_over n (x ∷ rows) r h k = (h.0, more_over n rows r h.1 k)

from_over : (c i j n : ℕ) (text : Bool) (done : List Row) → i + c ≤ n → j + c ≤ n → AreRowsOver n done → AllByRecursion (AreRowsOver n) (levels_from c i j text done)
from_over zero i j n true done a b h = (h, tt)
from_over zero i j n false done a b h = tt
from_over (suc c) i j n text done a b h =
    let w : (k : ℤ) → length (difference i j k).coefs ≤ n = λ k. difference-within i j n k (omega arith) (omega arith) in (
      more_over n done (Ge (difference i j (negsuc 0))) h ((w (negsuc 0), tt), tt),
      from_over c (i + 1) (j + 1) n text (done ++ Eq (difference i j (pos 0)) ∷ []) (omega arith) (omega arith) (more_over n done (Eq (difference i j (pos 0))) h ((w (pos 0), tt), tt)),
    )

pub levels_have_columns : LevelsHaveColumns
levels_have_columns i j n ls ms text a b =
    let c = common_within ls ms in
    let l = c.0 in
    let m = c.1 in
    from_over (common ls ms) i j n text [] (omega (arith, l)) (omega (arith, m)) tt

-- levels at other columns hold where the counters are the same
same_row : (i j k l : ℕ) (c : ℤ) (p q : List ℤ) → get_or p i (pos 0) ≡ get_or q k (pos 0) → get_or p j (pos 0) ≡ get_or q l (pos 0) → value_at (difference i j c) p ≡ value_at (difference k l c) q
same_row i j k l c p q a b = value-difference i j c p ∙ (λ t. b t +ℤ (negsuc 0 *ℤ a t) +ℤ c) ∙ sym (value-difference k l c q)

texts : (text : Bool) (done next : List Row) (p q : List ℤ) → Meets done p ↔ Meets next q → IsInSome Meets (cond text (done ∷ []) []) p ↔ IsInSome Meets (cond text (next ∷ []) []) q
texts true done next p q h = ((λ s. elim s [ inl m ↦ inl (h.0 m) | inr n ↦ absurd n ]), (λ s. elim s [ inl m ↦ inl (h.1 m) | inr n ↦ absurd n ]))
texts false done next p q h = ((λ s. absurd s), (λ s. absurd s))

move_from : (c a b i j k l : ℕ) (text : Bool) (done next : List Row) (p q : List ℤ) → c ≤ a → c ≤ b → numbers i a p ≡ numbers k a q → numbers j b p ≡ numbers l b q → Meets done p ↔ Meets next q
    → IsInSome Meets (levels_from c i j text done) p ↔ IsInSome Meets (levels_from c k l text next) q
move_from zero a b i j k l text done next p q x y v w h = texts text done next p q h
move_from (suc c) zero b i j k l text done next p q x y v w h = absurd (omega arith)
move_from (suc c) (suc a) zero i j k l text done next p q x y v w h = absurd (omega arith)
move_from (suc c) (suc a) (suc b) i j k l text done next p q x y v w h =
    let first : get_or p i (pos 0) ≡ get_or q k (pos 0) = cc in
    let second : get_or p j (pos 0) ≡ get_or q l (pos 0) = cc in
    let e : value_at (difference i j (pos 0)) p ≡ value_at (difference k l (pos 0)) q = same_row i j k l (pos 0) p q first second in
    let g : value_at (difference i j (negsuc 0)) p ≡ value_at (difference k l (negsuc 0)) q = same_row i j k l (negsuc 0) p q first second in
    let ep = one_row done (Eq (difference i j (pos 0))) p in
    let eq = one_row next (Eq (difference k l (pos 0))) q in
    let gp = one_row done (Ge (difference i j (negsuc 0))) p in
    let gq = one_row next (Ge (difference k l (negsuc 0))) q in
    let v1 : numbers (i + 1) a p ≡ numbers (k + 1) a q = cc in
    let w1 : numbers (j + 1) b p ≡ numbers (l + 1) b q = cc in
    let again = move_from c a b (i + 1) (j + 1) (k + 1) (l + 1) text (done ++ Eq (difference i j (pos 0)) ∷ []) (next ++ Eq (difference k l (pos 0)) ∷ []) p q (omega arith) (omega arith) v1 w1
    ((λ m. let n = ep.0 m in eq.1 (h.0 n.0, sym e ∙ n.1)), (λ m. let n = eq.0 m in ep.1 (h.1 n.0, e ∙ n.1))) in (
      (λ s. elim s [
        | inl m ↦ inl (let n = gp.0 m in gq.1 (h.0 n.0, (let z : pos 0 ≤ℤ value_at (difference i j (negsuc 0)) p = n.1 in omega (arith, ints, g))))
        | inr t ↦ inr (again.0 t)
      ]),
      (λ s. elim s [
        | inl m ↦ inl (let n = gq.0 m in gp.1 (h.1 n.0, (let z : pos 0 ≤ℤ value_at (difference k l (negsuc 0)) q = n.1 in omega (arith, ints, g))))
        | inr t ↦ inr (again.1 t)
      ]),
    )

pub levels_move : LevelsMove
levels_move i j k l ls ms text p q v w =
    let c = common_within ls ms in
    move_from (common ls ms) (length ls) (length ms) i j k l text [] [] p q c.0 c.1 v w ((λ h. h), (λ h. h))
