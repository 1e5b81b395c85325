-- What rests on rows that a point of the hull meets, the point meets too.
use Rattle.std.proofs.Common.{◌≡◌, inl, inr, ℕ, zero, suc, ◌+◌, ◌<◌, ◌≤◌, ℤ, pos, neg_ℤ, ◌+ℤ◌, ◌-ℤ◌, ◌*ℤ◌, ◌≤ℤ◌, List, [], ◌∷◌, length, Option, Some, None, refl, ap, sym, ◌∙◌, arith}
use Rattle.std.proofs.lemmas.Int.{ints}
use Rattle.std.proofs.lemmas.Bool.{cases_lt}
use Rattle.ac_base.specs.Dot.{dot, mix}
use Rattle.ac_base.specs.Multiple.{IsMultiple}
use Rattle.ac_base.proofs.Dot.{dot-mix}
use Rattle.ac_base.proofs.Multiples.{multiple_add}
use Rattle.ac_forms.specs.Affine.{Affine, value_at}
use Rattle.ac_forms.specs.Fits.{Fits}
use Rattle.ac_forms.specs.ListMembers.{IsAmong}
use Rattle.ac_widen.specs.Combinations.{Each, IsCombination}
use Rattle.ac_widen.proofs.Combining.{equality_combined, each_among}
use Rattle.ac_hull.specs.FractionFreeElimination.{entry}
use Rattle.ac_hull.specs.ColumnDifferences.{gap, gap_of, GapsFit, HoldsWith, AllMeetRow, IsConstant, IsWeaker, IsSum, RestsOn, own, constant, weaker, sum}
use Rattle.ac_hull.specs.declared.difference.Difference.{Difference}
use Rattle.ac_hull.proofs.Comparing.{each_from}
use Rattle.ac_hull.proofs.Entries.{entry_past}

-- the form of a column
abbrev pick : ℕ → List ℤ
pick zero = pos 1 ∷ []
pick (suc z) = pos 0 ∷ pick z

dot_pick : (z : ℕ) (p : List ℤ) → dot (pick z) p ≡ entry z p
dot_pick zero [] = refl
dot_pick zero (x ∷ p) = omega (arith, ints)
dot_pick (suc z) [] = refl
dot_pick (suc z) (x ∷ p) = let e = dot_pick z p in omega (arith, ints, e)

-- two differences of columns, one less the other, less a number
abbrev apart_form : ℕ → ℕ → ℕ → ℕ → ℤ → Affine
apart_form s t u v k = record { konst = neg_ℤ k; coefs = mix (pos 1) (mix (pos 1) (pick s) (neg_ℤ (pos 1)) (pick t)) (neg_ℤ (pos 1)) (mix (pos 1) (pick u) (neg_ℤ (pos 1)) (pick v)) }

apart_value : (s t u v : ℕ) (k : ℤ) (p : List ℤ) → value_at (apart_form s t u v k) p ≡ (gap s t p -ℤ gap u v p) -ℤ k
apart_value s t u v k p =
    let a = dot-mix (pos 1) (mix (pos 1) (pick s) (neg_ℤ (pos 1)) (pick t)) (neg_ℤ (pos 1)) (mix (pos 1) (pick u) (neg_ℤ (pos 1)) (pick v)) p in
    let b = dot-mix (pos 1) (pick s) (neg_ℤ (pos 1)) (pick t) p in
    let c = dot-mix (pos 1) (pick u) (neg_ℤ (pos 1)) (pick v) p in
    omega (arith, ints, a, b, c, dot_pick s p, dot_pick t p, dot_pick u p, dot_pick v p)

-- where two differences differ by one number at all members, they do on the hull
gap_combined : (s t u v : ℕ) (k : ℤ) (q : List ℤ) (m : ℤ) (ws : List ℤ) (ps : List (List ℤ)) → IsCombination q m ws ps → Each (λ p. gap s t p -ℤ gap u v p ≡ k) ps → gap s t q -ℤ gap u v q ≡ k
gap_combined s t u v k q m ws ps c h =
    let z : Each (λ p. value_at (apart_form s t u v k) p ≡ pos 0) ps = each_from (λ p. value_at (apart_form s t u v k) p ≡ pos 0) ps (λ p a. let e = each_among (λ p. gap s t p -ℤ gap u v p ≡ k) p ps h a in let f = apart_value s t u v k p in omega (arith, ints, e, f)) in
    let e = equality_combined (apart_form s t u v k) q m ws ps c z in
    let f = apart_value s t u v k q in
    omega (arith, ints, e, f)

-- a form that is at least another, which holds
kept_bound : (g c h d : ℤ) → pos 0 ≤ℤ (h +ℤ d) → (h +ℤ d) ≤ℤ (g +ℤ c) → pos 0 ≤ℤ (g +ℤ c)
kept_bound g c h d a b = omega (arith, ints)

-- multiples: a sum less others
three : (m x y z : ℤ) → IsMultiple m x → IsMultiple m y → IsMultiple m z → IsMultiple m ((x +ℤ y) -ℤ z)
three m x y z a b c =
    let d = multiple_add m (pos 1) x (pos 1) y a b in
    let e = multiple_add m (pos 1) (pos 1 *ℤ x +ℤ pos 1 *ℤ y) (neg_ℤ (pos 1)) z d c in
    let f : (pos 1 *ℤ (pos 1 *ℤ x +ℤ pos 1 *ℤ y) +ℤ neg_ℤ (pos 1) *ℤ z) ≡ (x +ℤ y) -ℤ z = omega (arith, ints) in
    rw f at e

module _ (kept : List Difference) (points : List (List ℤ)) where
  pub rests_met : Each (AllMeetRow points) kept → (d : Difference) → RestsOn points kept d → AllMeetRow points d
  rests_met h _ (own d a) = each_among (AllMeetRow points) d kept h a
  rests_met h _ (constant d m c) = m
  rests_met h _ (weaker e d m r w) = m
  rests_met h _ (sum a b d m r s w) = m

module _ (points : List (List ℤ)) (kept : List Difference) (q : List ℤ) (m : ℤ) (ws : List ℤ) (p : List ℤ) (ps : List (List ℤ)) (c : IsCombination q m ws (p ∷ ps)) (within : Each (λ x. IsAmong x points) (p ∷ ps)) where
  abbrev At : List ℤ → Difference → Type 0
  At x d = HoldsWith d.modulus (gap_of d x +ℤ d.constant)

  met_at : (d : Difference) → AllMeetRow points d → At p d
  met_at d h = each_among (λ x. HoldsWith d.modulus (gap_of d x +ℤ d.constant)) p points h within.0

  member : (x : List ℤ) → IsAmong x (p ∷ ps) → IsAmong x points
  member x a = each_among (λ x. IsAmong x points) x (p ∷ ps) within a

  constant_at : (d : Difference) → AllMeetRow points d → IsConstant points d → At q d
  constant_at d h k =
      let e = gap_combined d.first d.second 0 0 (gap_of d p) q m ws (p ∷ ps) c (each_from (λ x. gap_of d x -ℤ gap 0 0 x ≡ gap_of d p) (p ∷ ps) (λ x a. let f = k x p (member x a) within.0 in omega (arith, ints, f))) in
      let f : gap_of d q ≡ gap_of d p = omega (arith, ints, e) in
      rw f (met_at d h)

  weaker_at : (e d : Difference) → At p e → AllMeetRow points d → IsWeaker points e d → At q e → At q d
  weaker_at e d y h w x =
      let k = gap_combined d.first d.second e.first e.second (gap_of d p -ℤ gap_of e p) q m ws (p ∷ ps) c
      (each_from (λ x. gap_of d x -ℤ gap_of e x ≡ gap_of d p -ℤ gap_of e p) (p ∷ ps) (λ x a. let f = w.parallel x p (member x a) within.0 in omega (arith, ints, f))) in
      by_kind d.modulus refl k (rw w.kind at x) (rw w.kind at y) (met_at d h)
    where
      by_kind : (o : Option ℤ) → d.modulus ≡ o → gap_of d q -ℤ gap_of e q ≡ gap_of d p -ℤ gap_of e p → HoldsWith d.modulus (gap_of e q +ℤ e.constant) → HoldsWith d.modulus (gap_of e p +ℤ e.constant) → HoldsWith d.modulus (gap_of d p +ℤ d.constant)
          → HoldsWith d.modulus (gap_of d q +ℤ d.constant)
      by_kind None n k x y z =
          let b = w.below n p within.0 in
          let a : pos 0 ≤ℤ (gap_of e q +ℤ e.constant) = rw n at x in
          rw n (kept_bound (gap_of d q) d.constant (gap_of e q) e.constant a (omega (arith, ints, b, k)))
      by_kind (Some o) n k x y z =
          let t = three o (gap_of e q +ℤ e.constant) (gap_of d p +ℤ d.constant) (gap_of e p +ℤ e.constant) (rw n at x) (rw n at z) (rw n at y) in
          let f : ((gap_of e q +ℤ e.constant) +ℤ (gap_of d p +ℤ d.constant)) -ℤ (gap_of e p +ℤ e.constant) ≡ gap_of d q +ℤ d.constant = omega (arith, ints, k) in
          rw n (rw f at t)

  sum_at : (a b d : Difference) → At p a → At p b → AllMeetRow points d → IsSum a b d → At q a → At q b → At q d
  sum_at a b d ya yb h w xa xb =
      by_kind d.modulus refl (chain q) (chain p) (rw w.left at xa) (rw w.right at xb) (rw w.left at ya) (rw w.right at yb) (met_at d h)
    where
      chain : (x : List ℤ) → gap_of d x ≡ gap_of a x +ℤ gap_of b x
      chain x =
          let e : entry d.first x ≡ entry a.first x = ap (λ z. entry z x) (sym w.first) in
          let f : entry a.second x ≡ entry b.first x = ap (λ z. entry z x) w.between in
          let g : entry d.second x ≡ entry b.second x = ap (λ z. entry z x) (sym w.second) in
          omega (arith, ints, e, f, g)

      by_kind : (o : Option ℤ) → d.modulus ≡ o → gap_of d q ≡ gap_of a q +ℤ gap_of b q → gap_of d p ≡ gap_of a p +ℤ gap_of b p → HoldsWith d.modulus (gap_of a q +ℤ a.constant) → HoldsWith d.modulus (gap_of b q +ℤ b.constant)
          → HoldsWith d.modulus (gap_of a p +ℤ a.constant) → HoldsWith d.modulus (gap_of b p +ℤ b.constant) → HoldsWith d.modulus (gap_of d p +ℤ d.constant) → HoldsWith d.modulus (gap_of d q +ℤ d.constant)
      by_kind None n k l x y u v z =
          let l = w.below n in
          let g : pos 0 ≤ℤ (gap_of a q +ℤ a.constant) = rw n at x in
          let h : pos 0 ≤ℤ (gap_of b q +ℤ b.constant) = rw n at y in
          rw n (bound_sum (gap_of d q) (gap_of a q) (gap_of b q) a.constant b.constant d.constant k l g h)
        where
          bound_sum : (g x y a b c : ℤ) → g ≡ x +ℤ y → (a +ℤ b) ≤ℤ c → pos 0 ≤ℤ (x +ℤ a) → pos 0 ≤ℤ (y +ℤ b) → pos 0 ≤ℤ (g +ℤ c)
          bound_sum g x y a b c e l h k = omega (arith, ints)
      by_kind (Some o) n k l x y u v z =
          let t = three o (gap_of a q +ℤ a.constant) (gap_of b q +ℤ b.constant) (gap_of a p +ℤ a.constant) (rw n at x) (rw n at y) (rw n at u) in
          let r = three o (((gap_of a q +ℤ a.constant) +ℤ (gap_of b q +ℤ b.constant)) -ℤ (gap_of a p +ℤ a.constant)) (gap_of d p +ℤ d.constant) (gap_of b p +ℤ b.constant) t (rw n at z) (rw n at v) in
          let f : ((((gap_of a q +ℤ a.constant) +ℤ (gap_of b q +ℤ b.constant)) -ℤ (gap_of a p +ℤ a.constant)) +ℤ (gap_of d p +ℤ d.constant)) -ℤ (gap_of b p +ℤ b.constant) ≡ gap_of d q +ℤ d.constant = omega (arith, ints, k, l) in
          rw n (rw f at r)

  pub rests_hold : Each (AllMeetRow points) kept → Each (At q) kept → (d : Difference) → RestsOn points kept d → At q d
  rests_hold h g _ (own d a) = each_among (At q) d kept g a
  rests_hold h g _ (constant d m c) = constant_at d m c
  rests_hold h g _ (weaker e d m r w) = weaker_at e d (met_at e (rests_met kept points h e r)) m w (rests_hold h g e r)
  rests_hold h g _ (sum a b d m r s w) = sum_at a b d (met_at a (rests_met kept points h a r)) (met_at b (rests_met kept points h b s)) m w (rests_hold h g a r) (rests_hold h g b s)

-- columns past the end are as the last one
pub gaps_all : (p : List ℤ) (n k : ℕ) → ((s t : ℕ) → s < k → t < n + 1 → Fits (gap s t p)) → n + 1 ≤ k → length p ≡ n → GapsFit p
gaps_all p n k f l e s t = elim (cases_lt s n) [
  | inl a ↦ elim (cases_lt t n) [ inl b ↦ f s t (omega arith) (omega arith) | inr b ↦ rw (past t b) (f s n (omega arith) (omega arith)) ]
  | inr a ↦ rw (past s a) (elim (cases_lt t n) [ inl b ↦ f n t (omega arith) (omega arith) | inr b ↦ rw (past t b) (f n n (omega arith) (omega arith)) ])
]
  where
    past : (z : ℕ) → n ≤ z → entry z p ≡ entry n p
    past z h = entry_past z p (omega arith) ∙ sym (entry_past n p (omega arith))
