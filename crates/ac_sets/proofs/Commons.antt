-- The points of a joined pair of pieces are those of both.
use Rattle.std.proofs.Common.{◌≡◌, ◌↔◌, ◌⊎◌, inl, inr, ℕ, zero, suc, ◌+◌, ◌-◌, ◌<◌, ◌≤◌, ℤ, pos, nat_le, List, [], ◌∷◌, ◌++◌, append_assoc, length, map, take, drop, replicate, get_or, Bool, true, false, refl, sym, ap, ◌∙◌, subst, arith}
use Rattle.std.specs.Prelude.{if◌then◌else◌}
use Rattle.std.specs.List.{flat_map, range_with_len}
use Rattle.std.proofs.lemmas.List.{length-append, length-replicate, length-take-le, length-drop, take-append-drop}
use Rattle.ac_forms.specs.Affine.{Affine, value_at}
use Rattle.ac_forms.specs.Negation.{HasExtension}
use Rattle.ac_forms.specs.PieceMembership.{IsInSome}
use Rattle.ac_forms.specs.Renaming.{renamed_row, AreColumns}
use Rattle.ac_forms.specs.Rows.{form_of, Holds, Meets, HasModulus, IsRowOver, AreRowsOver, IsWellMade}
use Rattle.ac_forms.specs.declared.conj.Conj.{Conj}
use Rattle.ac_forms.specs.declared.row.Row.{Row}
use Rattle.ac_forms.specs.declared.row.Row.TheVariants.{Eq, Div, Ge}
use Rattle.ac_forms.proofs.Passes.{moduli_of}
use Rattle.ac_forms.proofs.Renamings.{rows-over}
use Rattle.ac_forms.proofs.Values.{value_at-append}
use Rattle.ac_omega_steps.specs.IntegerPoints.{IsPoint}
use Rattle.ac_omega_steps.proofs.Keeping.{Meets-append}
use Rattle.ac_sets.specs.SetIntersections.{quotients_from, common, common_pieces}
use Rattle.ac_sets.specs.MoveLaws.{moved-meets}
use Rattle.ac_sets.specs.Unions.{ArePieces, IsUnion, AreFixed, IsFixed}
use Rattle.ac_sets.specs.Unions as unions
use Rattle.ac_sets.specs.declared.unions.Union.{Union}
use Rattle.ac_forms.proofs.InPieces.{some-append}

-- ---- rows one after the other, and further columns

pub Meets-front : (rs ss : List Row) (p : List ℤ) → Meets (rs ++ ss) p → Meets rs p
Meets-front [] ss p h = tt
Meets-front (r ∷ rs) ss p h = (h.0, Meets-front rs ss p h.1)

pub Meets-back : (rs ss : List Row) (p : List ℤ) → Meets (rs ++ ss) p → Meets ss p
Meets-back [] ss p h = h
Meets-back (r ∷ rs) ss p h = Meets-back rs ss p h.1

pub Meets-both : (rs ss : List Row) (p : List ℤ) → Meets rs p → Meets ss p → Meets (rs ++ ss) p
Meets-both [] ss p h g = g
Meets-both (r ∷ rs) ss p h g = (h.0, Meets-both rs ss p h.1 g)

Holds-cut : (r : Row) (p more : List ℤ) → length (form_of r).coefs ≤ length p → Holds r (p ++ more) → Holds r p
Holds-cut (Ge f) p more l h = let e = value_at-append f p more l in rw e at h
Holds-cut (Eq f) p more l h = sym (value_at-append f p more l) ∙ h
Holds-cut (Div m f) p more l h = let e = value_at-append f p more l in rw e at h

pub Meets-cut : (rs : List Row) (n : ℕ) (p more : List ℤ) → n ≤ length p → AreRowsOver n rs → Meets rs (p ++ more) → Meets rs p
Meets-cut [] n p more l w h = tt
Meets-cut (r ∷ rs) n p more l w h = (Holds-cut r p more (omega (arith, w.0.0)) h.0, Meets-cut rs n p more l w.1 h.1)

pub Over-both : (n : ℕ) (rs ss : List Row) → AreRowsOver n rs → AreRowsOver n ss → AreRowsOver n (rs ++ ss)
Over-both n [] ss w v = v
Over-both n (r ∷ rs) ss w v = (w.0, Over-both n rs ss w.1 v)

pub Over-more : (m n : ℕ) (rs : List Row) → m ≤ n → AreRowsOver m rs → AreRowsOver n rs
Over-more m n [] l w = tt
Over-more m n (r ∷ rs) l w = ((omega (arith, w.0.0, l), w.0.1), Over-more m n rs l w.1)

-- ---- moved rows are over more columns

range-over : (first count n : ℕ) → first + count ≤ n → AreColumns n (range_with_len first count)
range-over first zero n h = tt
range-over first (suc count) n h = (omega (arith, h), range-over (first + 1) count n (omega (arith, h)))

both-over : (n : ℕ) (ks ls : List ℕ) → AreColumns n ks → AreColumns n ls → AreColumns n (ks ++ ls)
both-over n [] ls h g = g
both-over n (k ∷ ks) ls h g = (h.0, both-over n ks ls h.1 g)

common-made : (n : ℕ) (c d : Conj) → n ≤ c.columns → n ≤ d.columns → IsWellMade c → IsWellMade d → IsWellMade (common n c d)
common-made n c d low lower w v =
    let all = c.columns + (d.columns - n) in
    let ks = quotients_from n c.columns d.columns in
    let over = both-over all (range_with_len 0 n) (range_with_len c.columns (d.columns - n)) (range-over 0 n all (omega (arith, low))) (range-over c.columns (d.columns - n) all (omega arith)) in
    Over-both all c.rows (map (renamed_row ks) d.rows) (Over-more c.columns all c.rows (omega arith) w) (rows-over ks d.rows all over (moduli_of d.columns d.rows v))

-- ---- points

-- a point of the joined pair: quotients of the first and of the second, each with its own
record Pair (n : ℕ) (c d : Conj) (p more : List ℤ) : Type 0 where
  first : List ℤ
  second : List ℤ
  whole : more ≡ first ++ second
  at_first : IsPoint c (p ++ first)
  at_second : IsPoint d (p ++ second)

pair-of : (n : ℕ) (c d : Conj) (p more : List ℤ) → n ≤ c.columns → n ≤ d.columns → IsWellMade c → length p ≡ n → IsPoint (common n c d) (p ++ more) → Pair n c d p more
pair-of n c d p more low lower w l at =
    let by = c.columns - n in
    let q = take by more in
    let r = drop by more in
    let room : by + (d.columns - n) ≡ length more = omega (arith, at.long, length-append p more, l, low, lower) in
    let long : length q ≡ by = length-take-le by more (omega (arith, room)) in
    let rest : length r ≡ d.columns - n = omega (arith, length-drop by more, room) in
    let parts : q ++ r ≡ more = take-append-drop by more in
    let whole : (p ++ q) ++ r ≡ p ++ more = append_assoc p q r ∙ ap (λ (xs : List ℤ). p ++ xs) parts in
    let moved = map (renamed_row (quotients_from n c.columns d.columns)) d.rows in
    let met : Meets (c.rows ++ moved) ((p ++ q) ++ r) = subst (λ (xs : List ℤ). Meets (c.rows ++ moved) xs) (sym whole) at.meets in
    let one = Meets-cut c.rows c.columns (p ++ q) r (omega (arith, length-append p q, long, l, low)) w (Meets-front c.rows _ _ met) in
    let other = Meets-back c.rows moved ((p ++ q) ++ r) met in
    let seam : length (p ++ q) ≡ c.columns = omega (arith, length-append p q, long, l, low) in
    record {
      first = q;
      second = r;
      whole = sym parts;
      at_first = record { long = omega (arith, length-append p q, long, l, low); meets = one };
      at_second = record { long = omega (arith, length-append p r, rest, l, lower); meets = (moved-meets n c.columns d.columns d.rows p q r l seam rest).0 other };
    }

pair-in : (n : ℕ) (c d : Conj) (p q r : List ℤ) → n ≤ c.columns → n ≤ d.columns → IsWellMade c → length p ≡ n → IsPoint c (p ++ q) → IsPoint d (p ++ r) → IsPoint (common n c d) (p ++ (q ++ r))
pair-in n c d p q r low lower w l at to =
    let rest : length r ≡ d.columns - n = omega (arith, to.long, length-append p r, l, lower) in
    let moved = map (renamed_row (quotients_from n c.columns d.columns)) d.rows in
    let met = (moved-meets n c.columns d.columns d.rows p q r l at.long rest).1 to.meets in
    let one = Meets-append c.rows c.columns (p ++ q) r (omega (arith, at.long)) w at.meets in
    let all = Meets-both c.rows moved ((p ++ q) ++ r) one met in
    record {
      long = omega (arith, length-append p (q ++ r), length-append q r, at.long, to.long, length-append p q, length-append p r, l, low, lower);
      meets = subst (λ (xs : List ℤ). Meets (c.rows ++ moved) xs) (append_assoc p q r) all;
    }

as-point : (p : List ℤ) (c : Conj) → HasExtension c p → (more : List ℤ) × IsPoint c (p ++ more)
as-point p c x = (x.0, record { long = x.1; meets = x.2 })

common-extends : (n : ℕ) (c d : Conj) (p : List ℤ) → n ≤ c.columns → n ≤ d.columns → IsWellMade c → length p ≡ n → HasExtension (common n c d) p ↔ (HasExtension c p × HasExtension d p)
common-extends n c d p low lower w l = (
  (λ x. let t = pair-of n c d p x.0 low lower w l (record { long = x.1; meets = x.2 }) in
      ((t.first, t.at_first.long, t.at_first.meets), (t.second, t.at_second.long, t.at_second.meets))),
  (λ x. let t = pair-in n c d p x.0.0 x.1.0 low lower w l (record { long = x.0.1; meets = x.0.2 }) (record { long = x.1.1; meets = x.1.2 }) in
      (x.0.0 ++ x.1.0, t.long, t.meets)),
)

common-fixed : (n : ℕ) (c d : Conj) → n ≤ c.columns → n ≤ d.columns → IsWellMade c → IsFixed n c → IsFixed n d → IsFixed n (common n c d)
common-fixed n c d low lower w one other p q r l at to =
    let s = pair-of n c d p q low lower w l at in
    let t = pair-of n c d p r low lower w l to in
    let e = one p s.first t.first l s.at_first t.at_first in
    let f = other p s.second t.second l s.at_second t.at_second in
    s.whole ∙ ap (λ (xs : List ℤ). xs ++ s.second) e ∙ ap (λ (xs : List ℤ). t.first ++ xs) f ∙ sym t.whole

-- ---- lists of pieces

one-out : (n : ℕ) (c : Conj) (ds : List Conj) (p : List ℤ) → n ≤ c.columns → IsWellMade c → ArePieces n ds → length p ≡ n → IsInSome HasExtension (map (common n c) ds) p → HasExtension c p × IsInSome HasExtension ds p
one-out n c [] p low w v l h = absurd h
one-out n c (d ∷ ds) p low w v l (inl h) = let x = (common-extends n c d p low v.0 w l).0 h in (x.0, inl x.1)
one-out n c (d ∷ ds) p low w v l (inr h) = let x = one-out n c ds p low w v.2 l h in (x.0, inr x.1)

one-in : (n : ℕ) (c : Conj) (ds : List Conj) (p : List ℤ) → n ≤ c.columns → IsWellMade c → ArePieces n ds → length p ≡ n → HasExtension c p → IsInSome HasExtension ds p → IsInSome HasExtension (map (common n c) ds) p
one-in n c [] p low w v l x h = absurd h
one-in n c (d ∷ ds) p low w v l x (inl h) = inl ((common-extends n c d p low v.0 w l).1 (x, h))
one-in n c (d ∷ ds) p low w v l x (inr h) = inr (one-in n c ds p low w v.2 l x h)

all-out : (n : ℕ) (cs ds : List Conj) (p : List ℤ) → ArePieces n cs → ArePieces n ds → length p ≡ n → IsInSome HasExtension (common_pieces n cs ds) p → IsInSome HasExtension cs p × IsInSome HasExtension ds p
all-out n [] ds p w v l h = absurd h
all-out n (c ∷ cs) ds p w v l h = elim ((some-append HasExtension (map (common n c) ds) (common_pieces n cs ds) p).0 h) [
  | inl a ↦ (let x = one-out n c ds p w.0 w.1 v l a in (inl x.0, x.1))
  | inr b ↦ (let x = all-out n cs ds p w.2 v l b in (inr x.0, x.1))
]

all-in : (n : ℕ) (cs ds : List Conj) (p : List ℤ) → ArePieces n cs → ArePieces n ds → length p ≡ n → IsInSome HasExtension cs p → IsInSome HasExtension ds p → IsInSome HasExtension (common_pieces n cs ds) p
all-in n [] ds p w v l x h = absurd x
all-in n (c ∷ cs) ds p w v l (inl x) h = (some-append HasExtension (map (common n c) ds) (common_pieces n cs ds) p).1 (inl (one-in n c ds p w.0 w.1 v l x h))
all-in n (c ∷ cs) ds p w v l (inr x) h = (some-append HasExtension (map (common n c) ds) (common_pieces n cs ds) p).1 (inr (all-in n cs ds p w.2 v l x h))

pub common-points : (a b u : Union) → a.visible ≡ b.visible → IsUnion a → IsUnion b → u.visible ≡ a.visible → u.pieces ≡ common_pieces a.visible a.pieces b.pieces → (p : List ℤ) → unions.Holds u p ↔ (unions.Holds a p × unions.Holds b p)
common-points a b u e w v s t p =
    let second : ArePieces a.visible b.pieces = subst (λ (n : ℕ). ArePieces n b.pieces) (sym e) v in (
      (λ h. let l = h.0 ∙ s in
          let x = all-out a.visible a.pieces b.pieces p w second l (subst (λ (cs : List Conj). IsInSome HasExtension cs p) t h.1) in
          ((l, x.0), (l ∙ e, x.1))),
      (λ h. (h.0.0 ∙ sym s, subst (λ (cs : List Conj). IsInSome HasExtension cs p) (sym t) (all-in a.visible a.pieces b.pieces p w second h.0.0 h.0.1 h.1.1))),
    )

pub Pieces-both : (n : ℕ) (cs ds : List Conj) → ArePieces n cs → ArePieces n ds → ArePieces n (cs ++ ds)
Pieces-both n [] ds w v = v
Pieces-both n (c ∷ cs) ds w v = (w.0, w.1, Pieces-both n cs ds w.2 v)

one-made : (n : ℕ) (c : Conj) (ds : List Conj) → n ≤ c.columns → IsWellMade c → ArePieces n ds → ArePieces n (map (common n c) ds)
one-made n c [] low w v = tt
one-made n c (d ∷ ds) low w v = (omega (arith, low), common-made n c d low v.0 w v.1, one-made n c ds low w v.2)

all-made : (n : ℕ) (cs ds : List Conj) → ArePieces n cs → ArePieces n ds → ArePieces n (common_pieces n cs ds)
all-made n [] ds w v = tt
all-made n (c ∷ cs) ds w v = Pieces-both n (map (common n c) ds) (common_pieces n cs ds) (one-made n c ds w.0 w.1 v) (all-made n cs ds w.2 v)

pub common-union : (a b u : Union) → a.visible ≡ b.visible → IsUnion a → IsUnion b → u.visible ≡ a.visible → u.pieces ≡ common_pieces a.visible a.pieces b.pieces → IsUnion u
common-union a b u e w v s t =
    let second : ArePieces a.visible b.pieces = subst (λ (n : ℕ). ArePieces n b.pieces) (sym e) v in
    rw (s, t) (all-made a.visible a.pieces b.pieces w second)

pub Fixed-both : (n : ℕ) (cs ds : List Conj) → AreFixed n cs → AreFixed n ds → AreFixed n (cs ++ ds)
Fixed-both n [] ds w v = v
Fixed-both n (c ∷ cs) ds w v = (w.0, Fixed-both n cs ds w.1 v)

one-fixed : (n : ℕ) (c : Conj) (ds : List Conj) → n ≤ c.columns → IsWellMade c → ArePieces n ds → IsFixed n c → AreFixed n ds → AreFixed n (map (common n c) ds)
one-fixed n c [] low w v x y = tt
one-fixed n c (d ∷ ds) low w v x y = (common-fixed n c d low v.0 w x y.0, one-fixed n c ds low w v.2 x y.1)

all-fixed : (n : ℕ) (cs ds : List Conj) → ArePieces n cs → ArePieces n ds → AreFixed n cs → AreFixed n ds → AreFixed n (common_pieces n cs ds)
all-fixed n [] ds w v x y = tt
all-fixed n (c ∷ cs) ds w v x y = Fixed-both n (map (common n c) ds) (common_pieces n cs ds) (one-fixed n c ds w.0 w.1 v x.0 y) (all-fixed n cs ds w.2 v x.1 y)

pub common-all_fixed : (a b u : Union) → a.visible ≡ b.visible → IsUnion a → IsUnion b → u.visible ≡ a.visible → u.pieces ≡ common_pieces a.visible a.pieces b.pieces → AreFixed a.visible a.pieces → AreFixed b.visible b.pieces → AreFixed u.visible u.pieces
common-all_fixed a b u e w v s t x y =
    let second : ArePieces a.visible b.pieces = subst (λ (n : ℕ). ArePieces n b.pieces) (sym e) v in
    let fixed : AreFixed a.visible b.pieces = subst (λ (n : ℕ). AreFixed n b.pieces) (sym e) y in
    rw (s, t) (all-fixed a.visible a.pieces b.pieces w second x fixed)
