-- No copy of a case has a point exactly where none of its kills holds.
use Rattle.std.proofs.Common.{◌≡◌, ◌↔◌, inl, inr, ℕ, ℤ, List, [], ◌∷◌, ◌++◌, map, length, Some, sym, subst}
use Rattle.ac_forms.specs.declared.conj.Conj.{Conj}
use Rattle.ac_flow.specs.CaseRemainder.{AllKills}
use Rattle.ac_omega.specs.declared.piece.Piece.{Piece}
use Rattle.ac_claims.specs.declared.types.Kill.{Kill}
use Rattle.ac_poly.specs.declared.types.Model.{Model}
use Rattle.ac_claims_paths.specs.PathColumns.{all_of}
use Rattle.ac_claims_paths.specs.declared.path.Assumed.{Assumed}
use Rattle.ac_claims_paths.specs.declared.path.CopyNumbers.{CopyNumbers}
use Rattle.ac_claims_paths.proofs.Moving.{all-cons}
use Rattle.ac_flow.specs.FlowCases.{kill_of, kills_of}
use Rattle.ac_flow.specs.Writings.{conj_of}
use Rattle.ac_flow.specs.SourceSteps.{InNoKill}
use Rattle.ac_forms.specs.Negation.{HasExtension}
use Rattle.ac_forms.specs.PieceMembership.{IsInNone, IsInSome}
use Rattle.ac_omega.specs.Projection.{MeetsRest}

pieces_none : (n : ℕ) (w : CopyNumbers) (found : List Piece) (p : List ℤ) → (¬ IsInSome MeetsRest found p) ↔ InNoKill (map (kill_of n w) found) p
pieces_none n w [] p = ((λ h. tt), (λ h x. x))
pieces_none n w (x ∷ xs) p = let r = pieces_none n w xs p in ((λ h. ((λ m. h (inl m)), r.0 (λ s. h (inr s)))), (λ t s. elim s [ inl m ↦ t.0 m | inr q ↦ r.1 t.1 q ]))

none_append : (xs ys : List (Conj × Kill)) (p : List ℤ) → InNoKill (xs ++ ys) p ↔ (InNoKill xs p × InNoKill ys p)
none_append [] ys p = ((λ h. (tt, h)), (λ h. h.1))
none_append (x ∷ xs) ys p = let r = none_append xs ys p in ((λ h. let t = r.0 h.1 in ((h.0, t.0), t.1)), (λ h. (h.0.0, r.1 (h.0.1, h.1))))

pub no_kill : (m : Model) (a : Assumed) (n : ℕ) (ws : List CopyNumbers) (all : List Conj) (found : List (List Piece)) (p : List ℤ) → all_of (map (conj_of m a) ws) ≡ Some all → AllKills n all found → length p ≡ n → IsInNone HasExtension all p ↔ InNoKill (kills_of n ws found) p
no_kill m a n [] all found p e k l = by all e k
  where
    by : (all : List Conj) → Some [] ≡ Some all → AllKills n all found → IsInNone HasExtension all p ↔ InNoKill (kills_of n [] found) p
    by [] e k = ((λ h. tt), (λ h. tt))
    by (c ∷ cs) e k = absurd cc
no_kill m a n (w ∷ ws) all [] p e k l =
    let b = all-cons (conj_of m a w) (map (conj_of m a) ws) all e in
    absurd (subst (λ (cs : List Conj). AllKills n cs []) b.4 k)
no_kill m a n (w ∷ ws) all (x ∷ found) p e k l =
    let b = all-cons (conj_of m a w) (map (conj_of m a) ws) all e in
    let h : AllKills n (b.0 ∷ b.1) (x ∷ found) = subst (λ (cs : List Conj). AllKills n cs (x ∷ found)) b.4 k in
    let j = h.0.projection p l in
    let q = pieces_none n w x p in
    let r = no_kill m a n ws b.1 found p b.3 h.1 l in
    let s = none_append (map (kill_of n w) x) (kills_of n ws found) p in (
      (λ t. let u = subst (λ (cs : List Conj). IsInNone HasExtension cs p) b.4 t in s.1 (q.0 (λ y. u.0 (j.1 y)), r.0 u.1)),
      (λ t. let u = s.0 t in subst (λ (cs : List Conj). IsInNone HasExtension cs p) (sym b.4) ((λ y. q.1 u.0 (j.0 y)), r.1 u.1)),
    )
