-- The pieces of a difference, row by row.
use Rattle.std.proofs.Common.{◌≡◌, ◌↔◌, ◌⊎◌, inl, inr, ℕ, zero, suc, ◌+◌, ◌-◌, ◌<◌, ◌≤◌, ℤ, pos, negsuc, neg_ℤ, ◌+ℤ◌, ◌-ℤ◌, ◌*ℤ◌, ◌≤ℤ◌, List, [], ◌∷◌, ◌++◌, append_assoc, append-nil, length, map, get_or, drop, drop_of_length-le, Bool, true, false, refl, sym, ap, ◌∙◌, subst, arith}
use Rattle.std.specs.Prelude.{unsigned_abs}
use Rattle.std.proofs.lemmas.Int.{ints, by_lt_z}
use Rattle.std.proofs.lemmas.List.{drop_more, length-append, length-map}
use Rattle.ac_base.specs.Multiple.{divides, IsMultiple}
use Rattle.ac_base.proofs.Divisors.{divides-true, divides-false}
use Rattle.ac_base.proofs.Floor.{positive_is}
use Rattle.ac_base.proofs.Products.{mul-le-mul_ℤ, mul-add_ℤ, neg-mul_ℤ}
use Rattle.ac_forms.specs.Affine.{Affine, value_at, shifted}
use Rattle.ac_forms.specs.Negation.{negation, NegationFits, opposite, above, below, with_column, piece, HasExtension}
use Rattle.ac_forms.specs.PieceMembership.{IsInSome, IsInNone, IsInOneAtMost}
use Rattle.ac_forms.specs.Rows.{Holds, Meets, HasModulus, IsRowOver, AreRowsOver, IsWellMade}
use Rattle.ac_forms.specs.declared.conj.Conj.{Conj}
use Rattle.ac_forms.specs.declared.row.Row.{Row}
use Rattle.ac_forms.specs.declared.row.Row.TheVariants.{Eq, Div, Ge}
use Rattle.ac_forms.proofs.Negations.{complement, apart, length-with_column, value-with_column}
use Rattle.ac_forms.proofs.Values.{value_at-scaled, value_at-shifted}
use Rattle.ac_omega_steps.specs.IntegerPoints.{IsPoint}
use Rattle.ac_cert.specs.Rules.{with_row}
use Rattle.ac_omega_steps.proofs.Keeping.{Meets-append, Meets-push, made-push}
use Rattle.ac_sets.specs.SetDifferences.{further, outside, NegationsFit}
use Rattle.ac_sets.specs.Unions.{ArePieces, IsFixed, AreFixed}
use Rattle.ac_sets.proofs.Commons.{Meets-front, Meets-back, Meets-both, Meets-cut, Over-both, Over-more, Pieces-both, Fixed-both}
use Rattle.ac_forms.proofs.InPieces.{some-append, none-of}

-- ---- the loop over the rows

pub record OutsideHalfway (c : Conj) (rs : List Row) (here : Conj) (pieces : List Conj) (i : ℕ) : Type 0 where
  pub room : i ≤ length rs
  pub columns : here.columns ≡ c.columns
  pub made : pieces ++ outside here (drop i rs) ≡ outside c rs
  pub onward : NegationsFit rs → NegationsFit (drop i rs)
  pub back : NegationsFit (drop i rs) → NegationsFit rs

pub outside_start : (c here : Conj) (rs : List Row) → here ≡ c → OutsideHalfway c rs here [] 0
outside_start c here rs e = record { room = omega arith; columns = ap (λ (d : Conj). d.columns) e; made = ap (λ (d : Conj). outside d rs) e; onward = λ f. f; back = λ f. f }

pub row-at : (rs : List Row) (i : ℕ) (r : Row) → i < length rs → r ≡ get_or rs i r → drop i rs ≡ r ∷ drop (i + 1) rs
row-at rs i r m e = rw e (drop_more rs i r m)

pub outside_step : (c : Conj) (rs : List Row) (here : Conj) (pieces new : List Conj) (rows : List Row) (i : ℕ) (r : Row) → OutsideHalfway c rs here pieces i → i < length rs → r ≡ get_or rs i r → NegationFits r
    → new ≡ pieces ++ map (further here) (negation here.columns r) → rows ≡ here.rows ++ r ∷ [] → OutsideHalfway c rs (record { columns = here.columns; rows = rows }) new (i + 1)
outside_step c rs here pieces new rows i r h m e fits put push =
    let d = row-at rs i r m e in
    let rest = outside (with_row here r) (drop (i + 1) rs) in
    let now : outside (record { columns = here.columns; rows = rows }) (drop (i + 1) rs) ≡ rest = ap (λ (xs : List Row). outside (record { columns = here.columns; rows = xs }) (drop (i + 1) rs)) push in
    record {
      room = omega arith;
      columns = h.columns;
      made = ap (λ (xs : List Conj). new ++ xs) now ∙ ap (λ (xs : List Conj). xs ++ rest) put ∙ append_assoc pieces (map (further here) (negation here.columns r)) rest
          ∙ ap (λ (xs : List Row). pieces ++ outside here xs) (sym d) ∙ h.made;
      onward = λ f. (subst NegationsFit d (h.onward f)).1;
      back = λ f. h.back (subst NegationsFit (sym d) (fits, f));
    }

pub outside_wide : (c : Conj) (rs : List Row) (here : Conj) (pieces : List Conj) (i : ℕ) (r : Row) → OutsideHalfway c rs here pieces i → i < length rs → r ≡ get_or rs i r → ¬ NegationFits r → ¬ NegationsFit rs
outside_wide c rs here pieces i r h m e wide f = wide (subst NegationsFit (row-at rs i r m e) (h.onward f)).0

pub outside_fits : (c : Conj) (rs : List Row) (here : Conj) (pieces : List Conj) (i : ℕ) → OutsideHalfway c rs here pieces i → length rs ≤ i → NegationsFit rs
outside_fits c rs here pieces i h l = h.back (subst NegationsFit (sym (drop_of_length-le rs l)) tt)

pub outside_end : (c : Conj) (rs : List Row) (here : Conj) (pieces : List Conj) (i : ℕ) → OutsideHalfway c rs here pieces i → length rs ≤ i → pieces ≡ outside c rs
outside_end c rs here pieces i h l = sym (append-nil pieces) ∙ ap (λ (xs : List Row). pieces ++ outside here xs) (sym (drop_of_length-le rs l)) ∙ h.made

pub ruleset outside_steps = (outside_start, outside_step, outside_wide, outside_fits, outside_end)

-- ---- what the pieces of a row's negation are

-- each row either holds or not
pub holds-either : (r : Row) (p : List ℤ) → Holds r p ⊎ (¬ Holds r p)
holds-either (Ge f) p = by_lt_z (value_at f p) (pos 0) (λ less. inr (λ h. omega (arith, ints, less, h))) (λ most. inl most)
holds-either (Eq f) p =
    by_lt_z (value_at f p) (pos 0) (λ less. inr (λ h. omega (arith, ints, less, h)))
    (λ most. by_lt_z (pos 0) (value_at f p) (λ more. inr (λ h. omega (arith, ints, more, h))) (λ least. inl (omega (arith, ints, most, least))))
holds-either (Div m f) p = by-test (divides (unsigned_abs m) (value_at f p)) refl
  where
    by-test : (b : Bool) → divides (unsigned_abs m) (value_at f p) ≡ b → IsMultiple m (value_at f p) ⊎ (¬ IsMultiple m (value_at f p))
    by-test true e = inl (divides-true (unsigned_abs m) (value_at f p) e)
    by-test false e = inr (divides-false (unsigned_abs m) (value_at f p) e)

record IsPart (n : ℕ) (d : Conj) : Type 0 where
  low : n ≤ d.columns
  over : AreRowsOver d.columns d.rows
  fixed : IsFixed n d

flat-fixed : (n : ℕ) (d : Conj) → d.columns ≡ n → IsFixed n d
flat-fixed n d e p [] [] l a b = refl
flat-fixed n d e p [] (y ∷ ys) l a b = absurd (omega (arith, length-append p (y ∷ ys), b.long, l, e))
flat-fixed n d e p (x ∷ xs) r l a b = absurd (omega (arith, length-append p (x ∷ xs), a.long, l, e))

minus-length : (cs : List ℤ) (n : ℕ) → length cs ≤ n → length (map (λ c. negsuc 0 *ℤ c) cs) ≤ n
minus-length cs n h = omega (arith, h, length-map cs (λ (c : ℤ). negsuc 0 *ℤ c))

flat-part : (n : ℕ) (g : Affine) → length g.coefs ≤ n → IsPart n (piece n (Ge g ∷ []))
flat-part n g h = record { low = omega arith; over = ((h, tt), tt); fixed = flat-fixed n (piece n (Ge g ∷ [])) refl }

-- the quotient is fixed by what is left
same-quotient : (k : ℕ) (v x y : ℤ) → (pos 1 ≤ℤ (v +ℤ neg_ℤ (pos k) *ℤ x)) → ((v +ℤ neg_ℤ (pos k) *ℤ y) ≤ℤ (pos k -ℤ pos 1)) → x ≤ℤ y
same-quotient k v x y low high =
    by_lt_z y x
    (λ less.
    let m = mul-le-mul_ℤ k (y +ℤ pos 1) x (omega (arith, ints, less)) in
    absurd (omega (arith, ints, m, mul-add_ℤ (pos k) y (pos 1), neg-mul_ℤ (pos k) x, neg-mul_ℤ (pos k) y, low, high)))
    (λ most. most)

one-number : (xs : List ℤ) → length xs ≡ 1 → (x : ℤ) × (xs ≡ x ∷ [])
one-number [] e = absurd (omega (arith, e))
one-number (x ∷ []) e = (x, refl)
one-number (x ∷ y ∷ xs) e = absurd (omega (arith, e))

record Quotient (k : ℕ) (v x : ℤ) : Type 0 where
  low : pos 1 ≤ℤ (v +ℤ neg_ℤ (pos k) *ℤ x)
  high : (v +ℤ neg_ℤ (pos k) *ℤ x) ≤ℤ (pos k -ℤ pos 1)

div-quotient : (n k : ℕ) (f : Affine) (p : List ℤ) (x : ℤ) → length f.coefs ≤ n → length p ≡ n
    → pos 0 ≤ℤ value_at (with_column n (neg_ℤ (pos k)) (above f)) (p ++ x ∷ []) → pos 0 ≤ℤ value_at (with_column n (pos k) (shifted (opposite f) (pos k -ℤ pos 1))) (p ++ x ∷ []) → Quotient k (value_at f p) x
div-quotient n k f p x short l low high =
    let a = value-with_column n (neg_ℤ (pos k)) (above f) p x short l in
    let b = value-with_column n (pos k) (shifted (opposite f) (pos k -ℤ pos 1)) p x (minus-length f.coefs n short) l in
    let up = value_at-shifted f (negsuc 0) p in
    let down = value_at-shifted (opposite f) (pos k -ℤ pos 1) p in
    let turn = value_at-scaled (negsuc 0) f p in
    let n = neg-mul_ℤ (pos k) x in
    record { low = omega (arith, ints, a, up, low); high = omega (arith, ints, b, down, turn, high, n) }

div-fixed : (n k : ℕ) (f : Affine) → length f.coefs ≤ n → IsFixed n (piece (n + 1) (Ge (with_column n (neg_ℤ (pos k)) (above f)) ∷ Ge (with_column n (pos k) (shifted (opposite f) (pos k -ℤ pos 1))) ∷ []))
div-fixed n k f short p q r l a b =
    let x = one-number q (omega (arith, length-append p q, a.long, l)) in
    let y = one-number r (omega (arith, length-append p r, b.long, l)) in
    let ma = rw x.1 at a.meets in
    let mb = rw y.1 at b.meets in
    let s = div-quotient n k f p x.0 short l ma.0 ma.1.0 in
    let t = div-quotient n k f p y.0 short l mb.0 mb.1.0 in
    let up = same-quotient k (value_at f p) x.0 y.0 s.low t.high in
    let down = same-quotient k (value_at f p) y.0 x.0 t.low s.high in
    let same : x.0 ≡ y.0 = omega (arith, ints, up, down) in
    x.1 ∙ ap (λ (z : ℤ). z ∷ []) same ∙ sym y.1

div-part : (n k : ℕ) (f : Affine) → length f.coefs ≤ n → IsPart n (piece (n + 1) (Ge (with_column n (neg_ℤ (pos k)) (above f)) ∷ Ge (with_column n (pos k) (shifted (opposite f) (pos k -ℤ pos 1))) ∷ []))
div-part n k f short = record {
  low = omega arith;
  over = ((omega (arith, length-with_column n (neg_ℤ (pos k)) (above f) short), tt), ((omega (arith, length-with_column n (pos k) (shifted (opposite f) (pos k -ℤ pos 1)) (minus-length f.coefs n short)), tt), tt));
  fixed = div-fixed n k f short;
}

abbrev AreParts : ℕ → List Conj → Type 0
AreParts n [] = Unit {0}
AreParts n (d ∷ ds) = IsPart n d × AreParts n ds

negation-parts : (n : ℕ) (r : Row) → IsRowOver n r → AreParts n (negation n r)
negation-parts n (Eq f) w = (flat-part n (above f) w.0, (flat-part n (below f) (minus-length f.coefs n w.0), tt))
negation-parts n (Div m f) w = let s = positive_is m w.1 in (subst (λ (z : ℤ). IsPart n (piece (n + 1) (Ge (with_column n (neg_ℤ z) (above f)) ∷ Ge (with_column n z (shifted (opposite f) (z -ℤ pos 1))) ∷ []))) (sym s.2) (div-part n s.0 f w.0), tt)
negation-parts n (Ge f) w = (flat-part n (below f) (minus-length f.coefs n w.0), tt)

further-part : (c d : Conj) → IsWellMade c → IsPart c.columns d → IsPart c.columns (further c d)
further-part c d w h = record {
  low = h.low;
  over = Over-both d.columns c.rows d.rows (Over-more c.columns d.columns c.rows h.low w) h.over;
  fixed = λ p q r l a b. h.fixed p q r l (record { long = a.long; meets = Meets-back c.rows d.rows (p ++ q) a.meets }) (record { long = b.long; meets = Meets-back c.rows d.rows (p ++ r) b.meets });
}

further-parts : (c : Conj) (ds : List Conj) → IsWellMade c → AreParts c.columns ds → AreParts c.columns (map (further c) ds)
further-parts c [] w h = tt
further-parts c (d ∷ ds) w h = (further-part c d w h.0, further-parts c ds w h.1)

parts-both : (n : ℕ) (cs ds : List Conj) → AreParts n cs → AreParts n ds → AreParts n (cs ++ ds)
parts-both n [] ds h g = g
parts-both n (c ∷ cs) ds h g = (h.0, parts-both n cs ds h.1 g)

outside-parts : (c : Conj) (rs : List Row) → IsWellMade c → AreRowsOver c.columns rs → AreParts c.columns (outside c rs)
outside-parts c [] w v = tt
outside-parts c (r ∷ rs) w v =
    parts-both c.columns (map (further c) (negation c.columns r)) (outside (with_row c r) rs) (further-parts c (negation c.columns r) w (negation-parts c.columns r v.0))
    (outside-parts (with_row c r) rs (made-push c.columns c.rows r w v.0) v.1)

made-of : (n : ℕ) (ds : List Conj) → AreParts n ds → ArePieces n ds
made-of n [] h = tt
made-of n (d ∷ ds) h = (h.0.low, h.0.over, made-of n ds h.1)

fixed-of : (n : ℕ) (ds : List Conj) → AreParts n ds → AreFixed n ds
fixed-of n [] h = tt
fixed-of n (d ∷ ds) h = (h.0.fixed, fixed-of n ds h.1)

pub outside-made : (c : Conj) (rs : List Row) → IsWellMade c → AreRowsOver c.columns rs → ArePieces c.columns (outside c rs)
outside-made c rs w v = made-of c.columns (outside c rs) (outside-parts c rs w v)

pub outside-fixed : (c : Conj) (rs : List Row) → IsWellMade c → AreRowsOver c.columns rs → AreFixed c.columns (outside c rs)
outside-fixed c rs w v = fixed-of c.columns (outside c rs) (outside-parts c rs w v)

-- ---- the points of the pieces

further-out : (c d : Conj) (p : List ℤ) → IsWellMade c → length p ≡ c.columns → HasExtension (further c d) p → Meets c.rows p × HasExtension d p
further-out c d p w l x = (Meets-cut c.rows c.columns p x.0 (omega (arith, l)) w (Meets-front c.rows d.rows (p ++ x.0) x.2), (x.0, x.1, Meets-back c.rows d.rows (p ++ x.0) x.2))

further-in : (c d : Conj) (p : List ℤ) → IsWellMade c → length p ≡ c.columns → Meets c.rows p → HasExtension d p → HasExtension (further c d) p
further-in c d p w l m x = (x.0, x.1, Meets-both c.rows d.rows (p ++ x.0) (Meets-append c.rows c.columns p x.0 (omega (arith, l)) w m) x.2)

some-out : (c : Conj) (ds : List Conj) (p : List ℤ) → IsWellMade c → length p ≡ c.columns → IsInSome HasExtension (map (further c) ds) p → Meets c.rows p × IsInSome HasExtension ds p
some-out c [] p w l h = absurd h
some-out c (d ∷ ds) p w l (inl h) = let x = further-out c d p w l h in (x.0, inl x.1)
some-out c (d ∷ ds) p w l (inr h) = let x = some-out c ds p w l h in (x.0, inr x.1)

some-in : (c : Conj) (ds : List Conj) (p : List ℤ) → IsWellMade c → length p ≡ c.columns → Meets c.rows p → IsInSome HasExtension ds p → IsInSome HasExtension (map (further c) ds) p
some-in c [] p w l m h = absurd h
some-in c (d ∷ ds) p w l m (inl h) = inl (further-in c d p w l m h)
some-in c (d ∷ ds) p w l m (inr h) = inr (some-in c ds p w l m h)

outside-out : (c : Conj) (rs : List Row) (p : List ℤ) → IsWellMade c → AreRowsOver c.columns rs → length p ≡ c.columns → IsInSome HasExtension (outside c rs) p → Meets c.rows p × (¬ Meets rs p)
outside-out c [] p w v l h = absurd h
outside-out c (r ∷ rs) p w v l h = elim ((some-append HasExtension (map (further c) (negation c.columns r)) (outside (with_row c r) rs) p).0 h) [
  | inl a ↦ (let x = some-out c (negation c.columns r) p w l a in (x.0, (λ m. (complement c.columns r p v.0 l).1 x.1 m.0)))
  | inr b ↦ (let x = outside-out (with_row c r) rs p (made-push c.columns c.rows r w v.0) v.1 l b in (Meets-front c.rows (r ∷ []) p x.0, (λ m. x.1 m.1)))
]

outside-in : (c : Conj) (rs : List Row) (p : List ℤ) → IsWellMade c → AreRowsOver c.columns rs → length p ≡ c.columns → Meets c.rows p → (¬ Meets rs p) → IsInSome HasExtension (outside c rs) p
outside-in c [] p w v l m h = absurd (h tt)
outside-in c (r ∷ rs) p w v l m h = elim (holds-either r p) [
  | inl held ↦ (some-append HasExtension (map (further c) (negation c.columns r)) (outside (with_row c r) rs) p).1 (inr (outside-in (with_row c r) rs p (made-push c.columns c.rows r w v.0) v.1 l (Meets-push c.rows r p m held) (λ k. h (held, k))))
  | inr failed ↦ (some-append HasExtension (map (further c) (negation c.columns r)) (outside (with_row c r) rs) p).1 (inl (some-in c (negation c.columns r) p w l m ((complement c.columns r p v.0 l).0 failed)))
]

pub outside-points : (c : Conj) (rs : List Row) (p : List ℤ) → IsWellMade c → AreRowsOver c.columns rs → length p ≡ c.columns → (Meets c.rows p × (¬ Meets rs p)) ↔ IsInSome HasExtension (outside c rs) p
outside-points c rs p w v l = ((λ h. outside-in c rs p w v l h.0 h.1), (λ h. outside-out c rs p w v l h))

-- ---- no point is in two pieces

none-both : (p : List ℤ) (cs ds : List Conj) → IsInNone HasExtension cs p → IsInNone HasExtension ds p → IsInNone HasExtension (cs ++ ds) p
none-both p [] ds h g = g
none-both p (c ∷ cs) ds h g = (h.0, none-both p cs ds h.1 g)

apart-both : (p : List ℤ) (cs ds : List Conj) → IsInOneAtMost HasExtension cs p → IsInOneAtMost HasExtension ds p → (IsInSome HasExtension cs p → IsInNone HasExtension ds p) → IsInOneAtMost HasExtension (cs ++ ds) p
apart-both p [] ds h g n = g
apart-both p (c ∷ cs) ds h g n = ((λ x. none-both p cs ds (h.0 x) (n (inl x))), apart-both p cs ds h.1 g (λ x. n (inr x)))

none-further : (p : List ℤ) (c : Conj) (ds : List Conj) → IsInNone HasExtension ds p → IsInNone HasExtension (map (further c) ds) p
none-further p c [] h = tt
none-further p c (d ∷ ds) h = ((λ x. h.0 (x.0, x.1, Meets-back c.rows d.rows (p ++ x.0) x.2)), none-further p c ds h.1)

apart-further : (p : List ℤ) (c : Conj) (ds : List Conj) → IsInOneAtMost HasExtension ds p → IsInOneAtMost HasExtension (map (further c) ds) p
apart-further p c [] h = tt
apart-further p c (d ∷ ds) h = ((λ x. none-further p c ds (h.0 (x.0, x.1, Meets-back c.rows d.rows (p ++ x.0) x.2))), apart-further p c ds h.1)

pub outside-apart : (c : Conj) (rs : List Row) (p : List ℤ) → IsWellMade c → AreRowsOver c.columns rs → length p ≡ c.columns → IsInOneAtMost HasExtension (outside c rs) p
outside-apart c [] p w v l = tt
outside-apart c (r ∷ rs) p w v l =
    let made = made-push c.columns c.rows r w v.0 in
    apart-both p (map (further c) (negation c.columns r)) (outside (with_row c r) rs) (apart-further p c (negation c.columns r) (apart c.columns r p l)) (outside-apart (with_row c r) rs p made v.1 l)
    (λ x. none-of HasExtension (outside (with_row c r) rs) p (λ y.
    let no = (complement c.columns r p v.0 l).1 (some-out c (negation c.columns r) p w l x).1 in
    no (Meets-back c.rows (r ∷ []) p (outside-out (with_row c r) rs p made v.1 l y).0).0))
