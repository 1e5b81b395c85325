-- No point is in two pieces.
use Rattle.std.proofs.Common.{◌≡◌, inl, inr, ℕ, ◌≤◌, ℤ, negsuc, List, [], ◌∷◌, ◌++◌, length, map, Bool, true, false, cond, sym, ap, ◌∙◌, subst, arith}
use Rattle.std.proofs.lemmas.Int.{ints}
use Rattle.ac_forms.specs.Affine.{Affine}
use Rattle.ac_forms.specs.Negation.{negation, above, below, opposite, piece, HasExtension}
use Rattle.ac_forms.specs.PieceMembership.{IsInSome, IsInOneAtMost}
use Rattle.ac_forms.specs.Rows.{Holds, IsRowOver, AreRowsOver, IsWellMade}
use Rattle.ac_forms.specs.declared.conj.Conj.{Conj}
use Rattle.ac_forms.specs.declared.row.Row.{Row}
use Rattle.ac_forms.specs.declared.row.Row.TheVariants.{Eq, Div, Ge}
use Rattle.ac_forms.proofs.Values.{value_at-append, value_at-scaled, value_at-shifted}
use Rattle.ac_forms.specs.Standing.{is_among}
use Rattle.ac_sets.specs.Unions.{ArePieces}
use Rattle.ac_sets.proofs.Commons.{Over-more}
use Rattle.ac_flow.specs.Cuts.{extended, row_parts, after_row, parts_outside, Sieved, Cuts, CutsAll, ArePartlyCut, NoneMeet}
use Rattle.ac_flow.proofs.CutLoops.{over-new}
use Rattle.ac_flow.proofs.Points.{outside-points, outside-pieces, sieved-points, some-split, cut-points, cuts-points, all-new-meets, row-parts-points, row-parts-pieces, new-meets, holds-first}
use Rattle.ac_forms.proofs.InPieces.{some-append, none-of, none-or}

apart-both : (p : List ℤ) (cs ds : List Conj) → IsInOneAtMost HasExtension cs p → IsInOneAtMost HasExtension ds p → (IsInSome HasExtension cs p → IsInSome HasExtension ds p → ⊥) → IsInOneAtMost HasExtension (cs ++ ds) p
apart-both p [] ds h g n = g
apart-both p (c ∷ cs) ds h g n = (
  (λ x. none-of HasExtension (cs ++ ds) p (λ y. elim ((some-append HasExtension cs ds p).0 y) [ inl a ↦ none-or HasExtension cs p (h.0 x) a | inr b ↦ n (inl x) b ])),
  apart-both p cs ds h.1 g (λ x y. n (inr x) y),
)

apart-front : (p : List ℤ) (cs ds : List Conj) → IsInOneAtMost HasExtension (cs ++ ds) p → IsInOneAtMost HasExtension cs p
apart-front p [] ds h = tt
apart-front p (c ∷ cs) ds h = ((λ x. none-of HasExtension cs p (λ y. none-or HasExtension (cs ++ ds) p (h.0 x) ((some-append HasExtension cs ds p).1 (inl y)))), apart-front p cs ds h.1)

-- ---- of one conjunction

-- a point of a part where the row fails is one where it fails
row-fails : (n : ℕ) (c : Conj) (r : Row) (p : List ℤ) → n ≤ c.columns → IsWellMade c → IsRowOver n r → length p ≡ n → IsInSome HasExtension (row_parts c r) p → ¬ Holds r p
row-fails n c r p low w v l h =
    let over : IsRowOver c.columns r = (let a = v.0 in omega (arith, a, low), v.1) in
    let x = some-split p c.columns (row_parts c r) (omega (arith, l, low)) (row-parts-pieces c r w over) h in
    let y = (row-parts-points c r (p ++ x.0) w over x.1).0 x.2 in
    λ m. y.1 ((holds-first n r p x.0 l v).1 m)

later-holds : (n : ℕ) (c : Conj) (r : Row) (rs : List Row) (p : List ℤ) → n ≤ c.columns → IsWellMade c → AreRowsOver n (r ∷ rs) → length p ≡ n → IsInSome HasExtension (parts_outside (after_row c r) rs) p → Holds r p
later-holds n c r rs p low w v l h =
    let over : AreRowsOver c.columns (r ∷ rs) = Over-more n c.columns (r ∷ rs) low v in
    let made = over-new c.columns c.rows r w over.0 in
    let x = some-split p c.columns (parts_outside (after_row c r) rs) (omega (arith, l, low)) (outside-pieces (after_row c r) rs made over.1) h in
    let y = (outside-points (after_row c r) rs (p ++ x.0) made over.1 x.1).0 x.2 in
    (holds-first n r p x.0 l v.0).0 ((new-meets c.rows r (p ++ x.0)).0 y.0).1

-- the two parts of an equality's negation
eq-apart : (n : ℕ) (c : Conj) (f : Affine) (p : List ℤ) → length f.coefs ≤ n → length p ≡ n → HasExtension (extended c (piece c.columns (Ge (above f) ∷ []))) p → HasExtension (extended c (piece c.columns (Ge (below f) ∷ []))) p → ⊥
eq-apart n c f p short l x y =
    let a = ((all-new-meets c.rows (Ge (above f) ∷ []) (p ++ x.0)).0 x.2).1.0 in
    let b = ((all-new-meets c.rows (Ge (below f) ∷ []) (p ++ y.0)).0 y.2).1.0 in
    let up = value_at-shifted f (negsuc 0) (p ++ x.0) in
    let down = value_at-shifted (opposite f) (negsuc 0) (p ++ y.0) in
    let turn = value_at-scaled (negsuc 0) f (p ++ y.0) in
    let u = value_at-append f p x.0 (omega (arith, short, l)) in
    let v = value_at-append f p y.0 (omega (arith, short, l)) in
    omega (arith, ints, a, b, up, down, turn, u, v)

failing-apart : (n : ℕ) (c : Conj) (r : Row) (p : List ℤ) → IsRowOver n r → length p ≡ n → IsInOneAtMost HasExtension (map (extended c) (negation c.columns r)) p
failing-apart n c (Eq f) p v l = ((λ x. ((λ y. eq-apart n c f p v.0 l x y), tt)), ((λ x. tt), tt))
failing-apart n c (Div m f) p v l = ((λ x. tt), tt)
failing-apart n c (Ge f) p v l = ((λ x. tt), tt)

row-apart : (n : ℕ) (c : Conj) (r : Row) (p : List ℤ) → IsRowOver n r → length p ≡ n → IsInOneAtMost HasExtension (row_parts c r) p
row-apart n c r p v l = by (is_among r c.rows)
  where
    by : (b : Bool) → IsInOneAtMost HasExtension (cond b [] (map (extended c) (negation c.columns r))) p
    by true = tt
    by false = failing-apart n c r p v l

pub outside-apart : (n : ℕ) (c : Conj) (rs : List Row) → n ≤ c.columns → IsWellMade c → AreRowsOver n rs → NoneMeet n (parts_outside c rs)
outside-apart n c [] low w v p l = tt
outside-apart n c (r ∷ rs) low w v p l =
    let made = over-new c.columns c.rows r w (Over-more n c.columns (r ∷ []) low (v.0, tt)).0 in
    apart-both p (row_parts c r) (parts_outside (after_row c r) rs) (row-apart n c r p v.0 l) (outside-apart n (after_row c r) rs low made v.1 p l)
    (λ a b. row-fails n c r p low w v.0 l a (later-holds n c r rs p low w v l b))

sieved-apart : (p : List ℤ) (parts kept : List Conj) → IsInOneAtMost HasExtension parts p → Sieved parts kept → IsInOneAtMost HasExtension kept p
sieved-apart p [] kept a s = subst (λ (cs : List Conj). IsInOneAtMost HasExtension cs p) (sym s) tt
sieved-apart p (c ∷ cs) kept a (inl (empty, s)) = sieved-apart p cs kept a.1 s
sieved-apart p (c ∷ cs) kept a (inr (rest, e, has, s)) =
    subst (λ (cs : List Conj). IsInOneAtMost HasExtension cs p) (sym e) ((λ x. none-of HasExtension rest p (λ y. none-or HasExtension cs p (a.0 x) ((sieved-points cs rest p s).0 y))), sieved-apart p cs rest a.1 s)

cut-apart : (n : ℕ) (c : Conj) (kill : List Row) (kept : List Conj) → n ≤ c.columns → IsWellMade c → AreRowsOver n kill → Cuts c kill kept → NoneMeet n kept
cut-apart n c kill kept low w v (inl (empty, e)) p l = subst (λ (cs : List Conj). IsInOneAtMost HasExtension cs p) (sym e) ((λ x. tt), tt)
cut-apart n c kill kept low w v (inr (has, s)) p l = sieved-apart p (parts_outside c kill) kept (outside-apart n c kill low w v p l) s

-- ---- of several

pub cuts-apart : (n : ℕ) (pieces : List Conj) (kill : List Row) (kept : List Conj) → ArePieces n pieces → AreRowsOver n kill → NoneMeet n pieces → CutsAll pieces kill kept → NoneMeet n kept
cuts-apart n [] kill kept w v a e p l = subst (λ (cs : List Conj). IsInOneAtMost HasExtension cs p) (sym e) tt
cuts-apart n (c ∷ cs) kill kept w v a (first, rest, e, f, s) p l =
    subst (λ (cs : List Conj). IsInOneAtMost HasExtension cs p) (sym e) (apart-both p first rest (cut-apart n c kill first w.0 w.1 v f p l) (cuts-apart n cs kill rest w.2 v (λ q m. (a q m).1) s p l)
    (λ x y. none-or HasExtension cs p ((a p l).0 ((cut-points n c kill first p w.0 w.1 v l f).0 x).0) ((cuts-points n cs kill rest p w.2 v l s).0 y).0))

-- some of the parts of one
some-kept : (n : ℕ) (c : Conj) (kill : List Row) (done rest more : List Conj) (p : List ℤ) → n ≤ c.columns → IsWellMade c → AreRowsOver n kill → length p ≡ n → done ++ rest ≡ parts_outside c kill → Sieved done more → IsInSome HasExtension more p → HasExtension c p
some-kept n c kill done rest more p low w v l e s h =
    let over : AreRowsOver c.columns kill = Over-more n c.columns kill low v in
    let all = subst (λ (cs : List Conj). IsInSome HasExtension cs p) e ((some-append HasExtension done rest p).1 (inl ((sieved-points done more p s).0 h))) in
    let x = some-split p c.columns (parts_outside c kill) (omega (arith, l, low)) (outside-pieces c kill w over) all in
    (x.0, x.1, ((outside-points c kill (p ++ x.0) w over x.1).0 x.2).0)

pieces-front : (n : ℕ) (cs : List Conj) (c : Conj) (ds : List Conj) → ArePieces n (cs ++ c ∷ ds) → ArePieces n cs × ((n ≤ c.columns) × IsWellMade c)
pieces-front n [] c ds w = (tt, (w.0, w.1))
pieces-front n (b ∷ bs) c ds w = let r = pieces-front n bs c ds w.2 in ((w.0, w.1, r.0), r.1)

-- a point of a later one is in none of the earlier ones
apart-at : (p : List ℤ) (cs : List Conj) (c : Conj) (ds : List Conj) → IsInOneAtMost HasExtension (cs ++ c ∷ ds) p → IsInSome HasExtension cs p → HasExtension c p → ⊥
apart-at p [] c ds a h x = h
apart-at p (b ∷ bs) c ds a (inl h) x = none-or HasExtension (bs ++ c ∷ ds) p (a.0 h) ((some-append HasExtension bs (c ∷ ds) p).1 (inr (inl x)))
apart-at p (b ∷ bs) c ds a (inr h) x = apart-at p bs c ds a.1 h x

pub partly-apart : (n : ℕ) (pieces : List Conj) (kill : List Row) (old new : List Conj) → old ≡ [] → ArePieces n pieces → AreRowsOver n kill → NoneMeet n pieces → ArePartlyCut pieces kill old new → NoneMeet n new
partly-apart n pieces kill old new none w v a k p l = subst (λ (cs : List Conj). IsInOneAtMost HasExtension cs p) (sym whole.1) (apart-both p k.all.more whole.0 first whole.2 meet)
  where
    made : ArePieces n k.before × ((n ≤ k.at.columns) × IsWellMade k.at)
    made = pieces-front n k.before k.at k.behind (subst (ArePieces n) (sym k.split) w)

    apart : IsInOneAtMost HasExtension (k.before ++ k.at ∷ k.behind) p
    apart = subst (λ (cs : List Conj). IsInOneAtMost HasExtension cs p) (sym k.split) (a p l)

    mids : k.mid ≡ k.all.more
    mids = k.all.is ∙ ap (λ (xs : List Conj). xs ++ k.all.more) none

    first : IsInOneAtMost HasExtension k.all.more p
    first = cuts-apart n k.before kill k.all.more made.0 v (λ q m. apart-front q k.before (k.at ∷ k.behind) (subst (λ (cs : List Conj). IsInOneAtMost HasExtension cs q) (sym k.split) (a q m))) k.all.cut p l

    -- what is kept of the last one
    whole : (more : List Conj) × (new ≡ k.all.more ++ more) × IsInOneAtMost HasExtension more p × (IsInSome HasExtension more p → HasExtension k.at p)
    whole = elim k.last [
      | inl c ↦ (c.more, c.is ∙ ap (λ (xs : List Conj). xs ++ c.more) mids, cut-apart n k.at kill c.more made.1.0 made.1.1 v c.cut p l, (λ h. ((cut-points n k.at kill c.more p made.1.0 made.1.1 v l c.cut).0 h).0))
      | inr c ↦ (
        c.1.kept.more,
        c.1.kept.is ∙ ap (λ (xs : List Conj). xs ++ c.1.kept.more) mids,
        sieved-apart p c.1.done c.1.kept.more (apart-front p c.1.done c.1.rest (subst (λ (cs : List Conj). IsInOneAtMost HasExtension cs p) (sym c.1.split) (outside-apart n k.at kill made.1.0 made.1.1 v p l))) c.1.kept.sieved,
        (λ h. some-kept n k.at kill c.1.done c.1.rest c.1.kept.more p made.1.0 made.1.1 v l c.1.split c.1.kept.sieved h),
      )
    ]

    meet : IsInSome HasExtension k.all.more p → IsInSome HasExtension whole.0 p → ⊥
    meet x y = apart-at p k.before k.at k.behind apart ((cuts-points n k.before kill k.all.more p made.0 v l k.all.cut).0 x).0 (whole.3 y)
