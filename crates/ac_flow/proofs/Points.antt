-- What is left of pieces outside a kill piece are their points that do not meet it.
use Rattle.std.proofs.Common.{◌≡◌, ◌↔◌, ◌⊎◌, inl, inr, ℕ, ◌+◌, ◌-◌, ◌≤◌, ℤ, pos, List, [], ◌∷◌, ◌++◌, append_assoc, length, map, take, drop, Bool, true, false, cond, refl, sym, ap, ◌∙◌, subst, arith}
use Rattle.std.proofs.lemmas.Int.{ints, by_lt_z}
use Rattle.std.proofs.lemmas.List.{length-append, length-take-le, take-append-drop}
use Rattle.std.specs.Prelude.{unsigned_abs, Result, Ok, Err, IfOk, OnOk}
use Rattle.ac_base.specs.Multiple.{divides, IsMultiple}
use Rattle.ac_base.proofs.Divisors.{divides-true, divides-false}
use Rattle.ac_forms.specs.Affine.{value_at}
use Rattle.ac_forms.specs.Negation.{negation, HasExtension}
use Rattle.ac_forms.specs.PieceMembership.{IsInSome}
use Rattle.ac_forms.specs.Rows.{Holds, Meets, IsRowOver, AreRowsOver, IsWellMade}
use Rattle.ac_forms.specs.declared.conj.Conj.{Conj}
use Rattle.ac_forms.specs.declared.row.Row.{Row}
use Rattle.ac_forms.specs.declared.row.Row.TheVariants.{Eq, Div, Ge}
use Rattle.ac_forms.proofs.Negations.{complement}
use Rattle.ac_forms.proofs.Standings.{among-holds}
use Rattle.ac_omega_steps.proofs.Keeping.{Meets-append, Meets-push}
use Rattle.ac_forms.specs.Standing.{is_among}
use Rattle.ac_sets.specs.Unions.{ArePieces}
use Rattle.ac_sets.proofs.Commons.{Meets-front, Meets-back, Meets-cut, Over-more}
use Rattle.ac_flow.specs.Cuts.{with_new, with_all_new, extended, row_parts, after_row, parts_outside, HasPoint, Sieved, Cuts, IsPartlyCut, CutsAll, AreAllCut, ArePartlyCut, AllHavePoints, IsLeft}
use Rattle.ac_flow.proofs.CutLoops.{over-new, over-all-new, negation-made}
use Rattle.ac_forms.proofs.InPieces.{some-append}
use Rattle.ac_sets.proofs.Outsides.{holds-either}

-- ---- rows added where they do not stand

pub new-meets : (rows : List Row) (r : Row) (p : List ℤ) → Meets (with_new rows r) p ↔ (Meets rows p × Holds r p)
new-meets rows r p = by (is_among r rows) refl
  where
    by : (b : Bool) → is_among r rows ≡ b → Meets (cond b rows (rows ++ r ∷ [])) p ↔ (Meets rows p × Holds r p)
    by true e = ((λ h. (h, among-holds r rows p e h)), (λ h. h.0))
    by false e = ((λ h. (Meets-front rows (r ∷ []) p h, (Meets-back rows (r ∷ []) p h).0)), (λ h. Meets-push rows r p h.0 h.1))

pub all-new-meets : (rows rs : List Row) (p : List ℤ) → Meets (with_all_new rows rs) p ↔ (Meets rows p × Meets rs p)
all-new-meets rows [] p = ((λ h. (h, tt)), (λ h. h.0))
all-new-meets rows (r ∷ rs) p =
    let a = all-new-meets (with_new rows r) rs p in
    let b = new-meets rows r p in (
      (λ h. let x = a.0 h in let y = b.0 x.0 in (y.0, (y.1, x.1))),
      (λ h. a.1 (b.1 (h.0, h.1.0), h.1.1)),
    )

-- ---- points over all columns of a conjunction

extended-out : (c d : Conj) (p : List ℤ) → IsWellMade c → length p ≡ c.columns → HasExtension (extended c d) p → Meets c.rows p × HasExtension d p
extended-out c d p w l x =
    let m = (all-new-meets c.rows d.rows (p ++ x.0)).0 x.2 in
    (Meets-cut c.rows c.columns p x.0 (omega (arith, l)) w m.0, (x.0, x.1, m.1))

extended-in : (c d : Conj) (p : List ℤ) → IsWellMade c → length p ≡ c.columns → Meets c.rows p → HasExtension d p → HasExtension (extended c d) p
extended-in c d p w l m x = (x.0, x.1, (all-new-meets c.rows d.rows (p ++ x.0)).1 (Meets-append c.rows c.columns p x.0 (omega (arith, l)) w m, x.2))

some-out : (c : Conj) (ds : List Conj) (p : List ℤ) → IsWellMade c → length p ≡ c.columns → IsInSome HasExtension (map (extended c) ds) p → Meets c.rows p × IsInSome HasExtension ds p
some-out c [] p w l h = absurd h
some-out c (d ∷ ds) p w l (inl h) = let x = extended-out c d p w l h in (x.0, inl x.1)
some-out c (d ∷ ds) p w l (inr h) = let x = some-out c ds p w l h in (x.0, inr x.1)

some-in : (c : Conj) (ds : List Conj) (p : List ℤ) → IsWellMade c → length p ≡ c.columns → Meets c.rows p → IsInSome HasExtension ds p → IsInSome HasExtension (map (extended c) ds) p
some-in c [] p w l m h = absurd h
some-in c (d ∷ ds) p w l m (inl h) = inl (extended-in c d p w l m h)
some-in c (d ∷ ds) p w l m (inr h) = inr (some-in c ds p w l m h)

pub row-parts-points : (c : Conj) (r : Row) (p : List ℤ) → IsWellMade c → IsRowOver c.columns r → length p ≡ c.columns → IsInSome HasExtension (row_parts c r) p ↔ (Meets c.rows p × ¬ Holds r p)
row-parts-points c r p w v l = by (is_among r c.rows) refl
  where
    by : (b : Bool) → is_among r c.rows ≡ b → IsInSome HasExtension (cond b [] (map (extended c) (negation c.columns r))) p ↔ (Meets c.rows p × ¬ Holds r p)
    by true e = ((λ h. absurd h), (λ h. absurd (h.1 (among-holds r c.rows p e h.0))))
    by false e = (
      (λ h. let x = some-out c (negation c.columns r) p w l h in (x.0, (complement c.columns r p v l).1 x.1)),
      (λ h. some-in c (negation c.columns r) p w l h.0 ((complement c.columns r p v l).0 h.1)),
    )

pub outside-points : (c : Conj) (rs : List Row) (p : List ℤ) → IsWellMade c → AreRowsOver c.columns rs → length p ≡ c.columns → IsInSome HasExtension (parts_outside c rs) p ↔ (Meets c.rows p × ¬ Meets rs p)
outside-points c [] p w v l = ((λ h. absurd h), (λ h. absurd (h.1 tt)))
outside-points c (r ∷ rs) p w v l =
    let here = row-parts-points c r p w v.0 l in
    let next = outside-points (after_row c r) rs p (over-new c.columns c.rows r w v.0) v.1 l in
    let add = new-meets c.rows r p in (
      (λ h. elim ((some-append HasExtension (row_parts c r) (parts_outside (after_row c r) rs) p).0 h) [
        | inl a ↦ (let x = here.0 a in (x.0, (λ m. x.1 m.0)))
        | inr b ↦ (let x = next.0 b in ((add.0 x.0).0, (λ m. x.1 m.1)))
      ]),
      (λ h. elim (holds-either r p) [
        | inl held ↦ (some-append HasExtension (row_parts c r) (parts_outside (after_row c r) rs) p).1 (inr (next.1 (add.1 (h.0, held), (λ k. h.1 (held, k)))))
        | inr failed ↦ (some-append HasExtension (row_parts c r) (parts_outside (after_row c r) rs) p).1 (inl (here.1 (h.0, failed)))
      ]),
    )

-- ---- points over the first columns

-- more columns in two steps
extends-split : (p : List ℤ) (k : ℕ) (c : Conj) → length p ≤ k → k ≤ c.columns → HasExtension c p → (more : List ℤ) × (length (p ++ more) ≡ k) × HasExtension c (p ++ more)
extends-split p k c low high x =
    let cut = k - length p in
    let long : length p + length x.0 ≡ c.columns = sym (length-append p x.0) ∙ x.1 in
    let size : length (take cut x.0) ≡ cut = length-take-le cut x.0 (omega (arith, long, low, high)) in
    let whole : (p ++ take cut x.0) ++ drop cut x.0 ≡ p ++ x.0 = append_assoc p (take cut x.0) (drop cut x.0) ∙ ap (λ (r : List ℤ). p ++ r) (take-append-drop cut x.0) in
    (take cut x.0, omega (arith, length-append p (take cut x.0), size, low), (drop cut x.0, ap length whole ∙ x.1, subst (Meets c.rows) (sym whole) x.2))

extends-join : (p more : List ℤ) (c : Conj) → HasExtension c (p ++ more) → HasExtension c p
extends-join p more c x =
    let whole : p ++ (more ++ x.0) ≡ (p ++ more) ++ x.0 = sym (append_assoc p more x.0) in
    (more ++ x.0, ap length whole ∙ x.1, subst (Meets c.rows) (sym whole) x.2)

pub some-split : (p : List ℤ) (k : ℕ) (cs : List Conj) → length p ≤ k → ArePieces k cs → IsInSome HasExtension cs p → (more : List ℤ) × (length (p ++ more) ≡ k) × IsInSome HasExtension cs (p ++ more)
some-split p k [] low w h = absurd h
some-split p k (c ∷ cs) low w (inl h) = let x = extends-split p k c low w.0 h in (x.0, x.1, inl x.2)
some-split p k (c ∷ cs) low w (inr h) = let x = some-split p k cs low w.2 h in (x.0, x.1, inr x.2)

some-join : (p more : List ℤ) (cs : List Conj) → IsInSome HasExtension cs (p ++ more) → IsInSome HasExtension cs p
some-join p more [] h = absurd h
some-join p more (c ∷ cs) (inl h) = inl (extends-join p more c h)
some-join p more (c ∷ cs) (inr h) = inr (some-join p more cs h)

-- parts are well made and have all columns
pieces-append : (n : ℕ) (cs ds : List Conj) → ArePieces n cs → ArePieces n ds → ArePieces n (cs ++ ds)
pieces-append n [] ds a b = b
pieces-append n (c ∷ cs) ds a b = (a.0, a.1, pieces-append n cs ds a.2 b)

extended-pieces : (c : Conj) (ds : List Conj) → IsWellMade c → ArePieces c.columns ds → ArePieces c.columns (map (extended c) ds)
extended-pieces c [] w a = tt
extended-pieces c (d ∷ ds) w a = (a.0, over-all-new d.columns c.rows d.rows (Over-more c.columns d.columns c.rows a.0 w) a.1, extended-pieces c ds w a.2)

pub row-parts-pieces : (c : Conj) (r : Row) → IsWellMade c → IsRowOver c.columns r → ArePieces c.columns (row_parts c r)
row-parts-pieces c r w v = by (is_among r c.rows)
  where
    by : (b : Bool) → ArePieces c.columns (cond b [] (map (extended c) (negation c.columns r)))
    by true = tt
    by false = extended-pieces c (negation c.columns r) w (negation-made c.columns r v)

pub outside-pieces : (c : Conj) (rs : List Row) → IsWellMade c → AreRowsOver c.columns rs → ArePieces c.columns (parts_outside c rs)
outside-pieces c [] w v = tt
outside-pieces c (r ∷ rs) w v = pieces-append c.columns (row_parts c r) (parts_outside (after_row c r) rs) (row-parts-pieces c r w v.0) (outside-pieces (after_row c r) rs (over-new c.columns c.rows r w v.0) v.1)

-- ---- what is kept

pub sieved-points : (parts kept : List Conj) (p : List ℤ) → Sieved parts kept → IsInSome HasExtension kept p ↔ IsInSome HasExtension parts p
sieved-points [] kept p s = ((λ h. subst (λ (cs : List Conj). IsInSome HasExtension cs p) s h), (λ h. absurd h))
sieved-points (c ∷ cs) kept p (inl (empty, s)) =
    let r = sieved-points cs kept p s in
    ((λ h. inr (r.0 h)), (λ h. elim h [ inl x ↦ absurd (empty (p ++ x.0, record { long = x.1; meets = x.2 })) | inr x ↦ r.1 x ]))
sieved-points (c ∷ cs) kept p (inr (rest, e, has, s)) =
    let r = sieved-points cs rest p s in (
      (λ h. elim (subst (λ (cs : List Conj). IsInSome HasExtension cs p) e h) [ inl x ↦ inl x | inr x ↦ inr (r.0 x) ]),
      (λ h. subst (λ (cs : List Conj). IsInSome HasExtension cs p) (sym e) (elim h [ inl x ↦ inl x | inr x ↦ inr (r.1 x) ])),
    )

sieved-have : (parts kept : List Conj) → Sieved parts kept → AllHavePoints kept
sieved-have [] kept s = subst AllHavePoints (sym s) tt
sieved-have (c ∷ cs) kept (inl (empty, s)) = sieved-have cs kept s
sieved-have (c ∷ cs) kept (inr (rest, e, has, s)) = subst AllHavePoints (sym e) (has, sieved-have cs rest s)

sieved-pieces : (n : ℕ) (parts kept : List Conj) → ArePieces n parts → Sieved parts kept → ArePieces n kept
sieved-pieces n [] kept w s = subst (ArePieces n) (sym s) tt
sieved-pieces n (c ∷ cs) kept w (inl (empty, s)) = sieved-pieces n cs kept w.2 s
sieved-pieces n (c ∷ cs) kept w (inr (rest, e, has, s)) = subst (ArePieces n) (sym e) (w.0, w.1, sieved-pieces n cs rest w.2 s)

-- rows over the first columns say the same of all points behind them
pub meets-first : (n : ℕ) (kill : List Row) (p more : List ℤ) → length p ≡ n → AreRowsOver n kill → Meets kill (p ++ more) ↔ Meets kill p
meets-first n kill p more l v = ((λ h. Meets-cut kill n p more (omega (arith, l)) v h), (λ h. Meets-append kill n p more (omega (arith, l)) v h))

pub holds-first : (n : ℕ) (r : Row) (p more : List ℤ) → length p ≡ n → IsRowOver n r → Holds r (p ++ more) ↔ Holds r p
holds-first n r p more l v = let b = meets-first n (r ∷ []) p more l (v, tt) in ((λ h. (b.0 (h, tt)).0), (λ h. (b.1 (h, tt)).0))

-- ---- one piece, and several

pub cut-points : (n : ℕ) (c : Conj) (kill : List Row) (kept : List Conj) (p : List ℤ) → n ≤ c.columns → IsWellMade c → AreRowsOver n kill → length p ≡ n → Cuts c kill kept → IsInSome HasExtension kept p ↔ (HasExtension c p × ¬ Meets kill p)
cut-points n c kill kept p low w v l (inl (empty, e)) = (
  (λ h. elim (subst (λ (cs : List Conj). IsInSome HasExtension cs p) e h) [
    | inl x ↦ (x, (λ m. empty (p ++ x.0, record { long = x.1; meets = (all-new-meets c.rows kill (p ++ x.0)).1 (x.2, (meets-first n kill p x.0 l v).1 m) })))
    | inr x ↦ absurd x
  ]),
  (λ h. subst (λ (cs : List Conj). IsInSome HasExtension cs p) (sym e) (inl h.0)),
)
cut-points n c kill kept p low w v l (inr (has, s)) =
    let over : AreRowsOver c.columns kill = Over-more n c.columns kill low v in
    let sv = sieved-points (parts_outside c kill) kept p s in (
      (λ h.
          let x = some-split p c.columns (parts_outside c kill) (omega (arith, l, low)) (outside-pieces c kill w over) (sv.0 h) in
          let y = (outside-points c kill (p ++ x.0) w over x.1).0 x.2 in
          ((x.0, x.1, y.0), (λ m. y.1 ((meets-first n kill p x.0 l v).1 m)))),
      (λ h.
          let y = (outside-points c kill (p ++ h.0.0) w over h.0.1).1 (h.0.2, (λ m. h.1 ((meets-first n kill p h.0.0 l v).0 m))) in
          sv.1 (some-join p h.0.0 (parts_outside c kill) y)),
    )

pub cuts-points : (n : ℕ) (pieces : List Conj) (kill : List Row) (kept : List Conj) (p : List ℤ) → ArePieces n pieces → AreRowsOver n kill → length p ≡ n → CutsAll pieces kill kept → IsInSome HasExtension kept p ↔ (IsInSome HasExtension pieces p × ¬ Meets kill p)
cuts-points n [] kill kept p w v l e = ((λ h. absurd (subst (λ (cs : List Conj). IsInSome HasExtension cs p) e h)), (λ h. absurd h.0))
cuts-points n (c ∷ cs) kill kept p w v l (first, rest, e, f, s) =
    let a = cut-points n c kill first p w.0 w.1 v l f in
    let b = cuts-points n cs kill rest p w.2 v l s in (
      (λ h. elim ((some-append HasExtension first rest p).0 (subst (λ (cs : List Conj). IsInSome HasExtension cs p) e h)) [
        | inl x ↦ (let y = a.0 x in (inl y.0, y.1))
        | inr x ↦ (let y = b.0 x in (inr y.0, y.1))
      ]),
      (λ h. subst (λ (cs : List Conj). IsInSome HasExtension cs p) (sym e) (elim h.0 [
        | inl x ↦ (some-append HasExtension first rest p).1 (inl (a.1 (x, h.1)))
        | inr x ↦ (some-append HasExtension first rest p).1 (inr (b.1 (x, h.1)))
      ])),
    )

have-append : (cs ds : List Conj) → AllHavePoints cs → AllHavePoints ds → AllHavePoints (cs ++ ds)
have-append [] ds a b = b
have-append (c ∷ cs) ds a b = (a.0, have-append cs ds a.1 b)

cut-have : (c : Conj) (kill : List Row) (kept : List Conj) → HasPoint c → Cuts c kill kept → AllHavePoints kept
cut-have c kill kept h (inl (empty, e)) = subst AllHavePoints (sym e) (h, tt)
cut-have c kill kept h (inr (has, s)) = sieved-have (parts_outside c kill) kept s

pub cuts-have : (pieces : List Conj) (kill : List Row) (kept : List Conj) → AllHavePoints pieces → CutsAll pieces kill kept → AllHavePoints kept
cuts-have [] kill kept h e = subst AllHavePoints (sym e) tt
cuts-have (c ∷ cs) kill kept h (first, rest, e, f, s) = subst AllHavePoints (sym e) (have-append first rest (cut-have c kill first h.0 f) (cuts-have cs kill rest h.1 s))

cut-pieces : (n : ℕ) (c : Conj) (kill : List Row) (kept : List Conj) → n ≤ c.columns → IsWellMade c → AreRowsOver n kill → Cuts c kill kept → ArePieces n kept
cut-pieces n c kill kept low w v (inl (empty, e)) = subst (ArePieces n) (sym e) (low, w, tt)
cut-pieces n c kill kept low w v (inr (has, s)) = fewer c.columns n kept low (sieved-pieces c.columns (parts_outside c kill) kept (outside-pieces c kill w (Over-more n c.columns kill low v)) s)
  where
    fewer : (m n : ℕ) (cs : List Conj) → n ≤ m → ArePieces m cs → ArePieces n cs
    fewer m n [] l a = tt
    fewer m n (c ∷ cs) l a = (omega (arith, l, a.0), a.1, fewer m n cs l a.2)

pub cuts-pieces : (n : ℕ) (pieces : List Conj) (kill : List Row) (kept : List Conj) → ArePieces n pieces → AreRowsOver n kill → CutsAll pieces kill kept → ArePieces n kept
cuts-pieces n [] kill kept w v e = subst (ArePieces n) (sym e) tt
cuts-pieces n (c ∷ cs) kill kept w v (first, rest, e, f, s) = subst (ArePieces n) (sym e) (pieces-append n first rest (cut-pieces n c kill first w.0 w.1 v f) (cuts-pieces n cs kill rest w.2 v s))

pieces-part : (n : ℕ) (cs ds : List Conj) → ArePieces n (cs ++ ds) → ArePieces n cs
pieces-part n [] ds a = tt
pieces-part n (c ∷ cs) ds a = (a.0, a.1, pieces-part n cs ds a.2)

pieces-at : (n : ℕ) (cs : List Conj) (c : Conj) (ds : List Conj) → ArePieces n (cs ++ c ∷ ds) → (n ≤ c.columns) × IsWellMade c
pieces-at n [] c ds a = (a.0, a.1)
pieces-at n (b ∷ bs) c ds a = pieces-at n bs c ds a.2

fewer-columns : (m n : ℕ) (cs : List Conj) → n ≤ m → ArePieces m cs → ArePieces n cs
fewer-columns m n [] l a = tt
fewer-columns m n (c ∷ cs) l a = (omega (arith, l, a.0), a.1, fewer-columns m n cs l a.2)

-- where only some of them are cut
pub partly-pieces : (n : ℕ) (pieces : List Conj) (kill : List Row) (old new : List Conj) → old ≡ [] → ArePieces n pieces → AreRowsOver n kill → ArePartlyCut pieces kill old new → ArePieces n new
partly-pieces n pieces kill old new none w v k = by k.last
  where
    made : ArePieces n (k.before ++ k.at ∷ k.behind)
    made = subst (ArePieces n) (sym k.split) w

    at : (n ≤ k.at.columns) × IsWellMade k.at
    at = pieces-at n k.before k.at k.behind made

    mid : ArePieces n k.mid
    mid = subst (ArePieces n) (sym (k.all.is ∙ ap (λ (xs : List Conj). xs ++ k.all.more) none)) (cuts-pieces n k.before kill k.all.more (pieces-part n k.before (k.at ∷ k.behind) made) v k.all.cut)

    by : IsPartlyCut k.at kill k.mid new → ArePieces n new
    by (inl c) = subst (ArePieces n) (sym c.is) (pieces-append n k.mid c.more mid (cut-pieces n k.at kill c.more at.0 at.1 v c.cut))
    by (inr (has, c)) =
        let done = pieces-part k.at.columns c.done c.rest (subst (ArePieces k.at.columns) (sym c.split) (outside-pieces k.at kill at.1 (Over-more n k.at.columns kill at.0 v))) in
        subst (ArePieces n) (sym c.kept.is) (pieces-append n k.mid c.kept.more mid (fewer-columns k.at.columns n c.kept.more at.0 (sieved-pieces k.at.columns c.done c.kept.more done c.kept.sieved)))

pub is_left : (n : ℕ) (pieces : List Conj) (kill : List Row) (kept : List Conj) → ArePieces n pieces → AreRowsOver n kill → CutsAll pieces kill kept → IsLeft n pieces kill kept
is_left n pieces kill kept w v s = record {
  points = λ p l. cuts-points n pieces kill kept p w v l s;
  each = λ h. cuts-have pieces kill kept h s;
}

pub if_ok : {A E : Type 0} (r : Result A E) (P Q : A → Type 0) → ((x : A) → P x → Q x) → IfOk r P → IfOk r Q
if_ok (Ok x) P Q f h = f x h
if_ok (Err e) P Q f h = tt

pub on_ok : {A E : Type 0} (r : Result A E) (P Q : Type 0) → (P → Q) → OnOk r P → OnOk r Q
on_ok (Ok x) P Q f h = f h
on_ok (Err e) P Q f h = tt

pub cuts-of : (pieces : List Conj) (kill : List Row) (old new : List Conj) → old ≡ [] → AreAllCut pieces kill old new → CutsAll pieces kill new
cuts-of pieces kill old new e k = subst (CutsAll pieces kill) (sym (k.is ∙ ap (λ (xs : List Conj). xs ++ k.more) e)) k.cut
