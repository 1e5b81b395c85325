-- What is left of a case is where no copy has a point, so where what is assumed is the source.
use Rattle.std.proofs.Common.{◌≡◌, ◌↔◌, ◌⊎◌, inl, inr, ℕ, suc, ℤ, List, [], ◌∷◌, ◌++◌, map, length, refl, sym, ap, ◌∙◌, subst, arith}
use Rattle.ac_forms.specs.Negation.{HasExtension}
use Rattle.ac_forms.specs.PieceMembership.{IsInSome, IsInNone}
use Rattle.ac_forms.specs.Rows.{Meets, AreRowsOver}
use Rattle.ac_forms.specs.declared.conj.Conj.{Conj}
use Rattle.ac_forms.specs.declared.row.Row.{Row}
use Rattle.ac_omega.specs.declared.piece.Piece.{Piece}
use Rattle.ac_poly.specs.declared.types.Model.{Model}
use Rattle.ac_omega_steps.proofs.Keeping.{Meets-append}
use Rattle.ac_flow.specs.CaseRemainder.{AllKills}
use Rattle.ac_flow.proofs.Remains.{remains}
use Rattle.ac_claims_paths.proofs.Moving.{meets-parts, meets-both}
use Rattle.ac_flow.specs.FlowCases.{AreParts, ArePiecesOver, case_conj, remainder, conj_of_remainder}
use Rattle.ac_flow.specs.declared.types.Remainder.{Remainder}
use Rattle.ac_forms.proofs.InPieces.{some-append}

-- the case's rows hold in some piece of the reader
InSomePiece : Model → List Row → List (List Row) → List ℤ → Type 0
InSomePiece m rows qs p = IsInSome (λ (q : List Row). Meets (m.context ++ (q ++ rows))) qs p

conjs_of : (d : ℕ) (group : List Conj) (rest : List Remainder) → map conj_of_remainder (map (remainder d) group ++ rest) ≡ group ++ map conj_of_remainder rest
conjs_of d [] rest = refl
conjs_of d (c ∷ group) rest = ap (λ (cs : List Conj). c ∷ cs) (conjs_of d group rest)

left_points : (m : Model) (columns : ℕ) (rows : List Row) (found : List (List Piece)) (all : List Conj) (d : ℕ) (qs : List (List Row)) (rs : List Remainder) → AreParts m columns rows found d qs rs → AllKills columns all found → (p : List ℤ) → length p ≡ columns
    → IsInSome HasExtension (map conj_of_remainder rs) p ↔ (InSomePiece m rows qs p × IsInNone HasExtension all p)
unfolding InSomePiece
left_points m columns rows found all d [] rs e k p l = ((λ h. absurd (subst (λ (x : List Remainder). IsInSome HasExtension (map conj_of_remainder x) p) e h)), (λ h. absurd h.0))
left_points m columns rows found all d (q ∷ qs) rs (group, rest, e, c, h) k p l =
    let r = left_points m columns rows found all (suc d) qs rest h k p l in
    let b = (remains (case_conj m columns rows q) all found group c k).points p l in
    let f : map conj_of_remainder rs ≡ group ++ map conj_of_remainder rest = ap (map conj_of_remainder) e ∙ conjs_of d group rest in
    let s = some-append HasExtension group (map conj_of_remainder rest) p in (
      (λ x. elim (s.0 (subst (λ (cs : List Conj). IsInSome HasExtension cs p) f x)) [ inl y ↦ let z = b.0 y in (inl z.0, z.1) | inr y ↦ let z = r.0 y in (inr z.0, z.1) ]),
      (λ x. subst (λ (cs : List Conj). IsInSome HasExtension cs p) (sym f) (s.1 (elim x.0 [ inl y ↦ inl (b.1 (y, x.1)) | inr y ↦ inr (r.1 (y, x.1)) ]))),
    )

-- the rows of the source are among those of the case
own_meets : (m : Model) (rows : List Row) (qs : List (List Row)) (p : List ℤ) → InSomePiece m rows qs p → Meets rows p
unfolding InSomePiece
own_meets m rows [] p h = absurd h
own_meets m rows (q ∷ qs) p (inl h) = (meets-parts q rows p (meets-parts m.context (q ++ rows) p h).1).1
own_meets m rows (q ∷ qs) p (inr h) = own_meets m rows qs p h

-- and the case's rows hold where the context, a piece of the reader and the source's rows do
in_piece : (m : Model) (rows : List Row) (n : ℕ) (qs : List (List Row)) (front more : List ℤ) → AreRowsOver n m.context → ArePiecesOver n qs → length front ≡ n → Meets m.context front → IsInSome Meets qs front → Meets rows (front ++ more) → InSomePiece m rows qs (front ++ more)
unfolding InSomePiece
in_piece m rows n [] front more wc wq l c s h = absurd s
in_piece m rows n (q ∷ qs) front more wc wq l c (inl s) h =
    inl (meets-both m.context (q ++ rows) (front ++ more) (Meets-append m.context n front more (omega (arith, l)) wc c) (meets-both q rows (front ++ more) (Meets-append q n front more (omega (arith, l)) wq.0 s) h))
in_piece m rows n (q ∷ qs) front more wc wq l c (inr s) h = inr (in_piece m rows n qs front more wc wq.1 l c s h)

-- what is left of a case is where the source's rows hold and no copy has a point
pub left_is : (m : Model) (columns : ℕ) (rows : List Row) (found : List (List Piece)) (all : List Conj) (qs : List (List Row)) (rs : List Remainder) (n : ℕ) (front more : List ℤ) → AreParts m columns rows found 0 qs rs → AllKills columns all found
    → AreRowsOver n m.context → ArePiecesOver n qs → length front ≡ n → Meets m.context front → IsInSome Meets qs front → length (front ++ more) ≡ columns → IsInSome HasExtension (map conj_of_remainder rs) (front ++ more) ↔ (Meets rows (front ++ more) × IsInNone HasExtension all (front ++ more))
left_is m columns rows found all qs rs n front more parts killed wc wq l c s lp =
    let r = left_points m columns rows found all 0 qs rs parts killed (front ++ more) lp in
    ((λ h. let z = r.0 h in (own_meets m rows qs (front ++ more) z.0, z.1)), (λ h. r.1 (in_piece m rows n qs front more wc wq l c s h.0, h.1)))
