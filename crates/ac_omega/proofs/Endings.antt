-- What an elimination answers.
use Rattle.std.proofs.Common.{◌≡◌, ℕ, ◌+◌, ◌<◌, ℤ, List, [], length, Result, Ok, Err, arith, refl, sym, ◌∙◌, subst}
use Rattle.ac_forms.specs.NormalForm.{normal_conj, RowsFit}
use Rattle.ac_forms.specs.Rows.{IsWellMade}
use Rattle.ac_forms.specs.declared.conj.Conj.{Conj}
use Rattle.ac_omega_steps.specs.declared.choose.Choice.{Choice}
use Rattle.ac_omega_steps.proofs.LeftMade.{conj_made, rows_fit_true, rows_fit_false}
use Rattle.ac_omega.specs.declared.halt.Halt.{Halt}
use Rattle.ac_omega.specs.declared.halt.Halt.TheVariants as halt
use Rattle.ac_omega.specs.declared.piece.Piece.{Piece}
use Rattle.ac_omega.specs.declared.search.Aim.TheVariants.{ForPieces}
use Rattle.ac_omega.specs.declared.search.Walked.{Walked}
use Rattle.ac_omega.specs.declared.search.Walked.TheVariants as done
use Rattle.ac_omega.specs.Maxima.{Maxima}
use Rattle.ac_omega.specs.declared.pieces.Stop.{Stop}
use Rattle.ac_omega.specs.declared.pieces.Stop.TheVariants as stop
use Rattle.ac_omega.specs.EliminationAnswers.{parts, HandsBack, Eliminates}
use Rattle.ac_omega.specs.ColumnElimination.{elimination, pieces_of}
use Rattle.ac_omega.specs.Projection.{HoldsFor, AllEmpty, MeetsRest}
use Rattle.ac_forms.specs.PieceMembership.{IsInSome}
use Rattle.ac_omega.specs.Sweep as def
use Rattle.ac_omega.specs.Visits.{seen, visiting, Visits}
use Rattle.ac_omega.specs.Walk.{walk}
use Rattle.ac_omega.proofs.Empties.{all-gone}
use Rattle.ac_omega.proofs.Projecting.{pieces-project}
use Rattle.ac_omega.proofs.Sweeps.{sweep-done}
use Rattle.ac_omega.proofs.Visiting.{SweepsTo, swept-to}
use Rattle.ac_omega_certify.specs.declared.strategy.Strategy.{Strategy}

-- the walk from the normal form
pieces-from : (strategy : Strategy) (vars : List ℕ) (b : ℕ) (c : Conj) → RowsFit c.rows → pieces_of strategy vars b c ≡ def.sweep (elimination strategy vars) (b + 1) b [] (normal_conj c) 0
pieces-from strategy vars b c f = rw (rows_fit_true c.rows f) refl

pub pieces-wide : (strategy : Strategy) (vars : List ℕ) (b : ℕ) (c : Conj) → (RowsFit c.rows → ⊥) → pieces_of strategy vars b c ≡ def.Wide
pieces-wide strategy vars b c f = rw (rows_fit_false c.rows f) refl

pub wide-back : (s : Stop) (c : Conj) (w : def.Projected Conj Choice) → HandsBack s halt.Wide c → w ≡ def.Wide → Eliminates (Err s) c w
wide-back (stop.Overflow d) c w h e = (e, h.1)
wide-back (stop.Spent d k) c w h e = let f = h.0 in absurd cc
wide-back (stop.Memory x) c w h e = tt

-- the walk from the normal form, by its answer
stopped : (s : Stop) (h : Halt) (c : Conj) (ps : List Piece) (w : def.Projected Conj Choice) → HandsBack s h c → SweepsTo (Err h) ps w → Eliminates (Err s) c w
stopped (stop.Overflow d) halt.Wide c ps w b e = (e, b.1)
stopped (stop.Overflow d) (halt.Spent k) c ps w b e = let f = b.0 in absurd cc
stopped (stop.Overflow d) (halt.Memory x) c ps w b e = let f = b.0 in absurd cc
stopped (stop.Spent d k) halt.Wide c ps w b e = let f = b.0 in absurd cc
stopped (stop.Spent d k) (halt.Spent j) c ps w b e = let f = b.0 in let s : j ≡ k = cc in (b.1, e.0, e.1, sym s ∙ e.2)
stopped (stop.Spent d k) (halt.Memory x) c ps w b e = let f = b.0 in absurd cc
stopped (stop.Memory x) h c ps w b e = tt

-- the walk's answer, from no pieces on, is that of the question
from-normal : (strategy : Strategy) (r : Result Walked Halt) (ps : List Piece) (vars : List ℕ) (b : ℕ) (c d : Conj) (s : Maxima) (path : List Choice) (old : List Piece) → RowsFit c.rows → d ≡ normal_conj c → path ≡ [] → old ≡ []
    → ((n : ℕ) → b < n + 0 → Visits r ps (walk (visiting strategy ForPieces vars) n b (path, d) 0 (seen s old))) → SweepsTo r ps (def.sweep (elimination strategy vars) (b + 1) b [] (normal_conj c) 0)
from-normal strategy r ps vars b c d s path old f e p o h = swept-to strategy r vars (b + 1) b [] (normal_conj c) 0 s ps (rw (e, p, o) at (h (b + 1) (omega arith)))

pub first-back : (strategy : Strategy) (s : Stop) (h : Halt) (ps : List Piece) (vars : List ℕ) (b : ℕ) (c d : Conj) (m : Maxima) (path : List Choice) (old : List Piece) → RowsFit c.rows → d ≡ normal_conj c → path ≡ [] → old ≡ []
    → ((n : ℕ) → b < n + 0 → Visits (Err h) ps (walk (visiting strategy ForPieces vars) n b (path, d) 0 (seen m old))) → HandsBack s h c → Eliminates (Err s) c (pieces_of strategy vars b c)
first-back strategy s h ps vars b c d m path old f e p o w back =
    subst (λ (v : def.Projected Conj Choice). Eliminates (Err s) c v) (sym (pieces-from strategy vars b c f)) (stopped s h c ps _ back (from-normal strategy (Err h) ps vars b c d m path old f e p o w))

-- all that is said of the pieces
pub record Answered (strategy : Strategy) (vars : List ℕ) (b : ℕ) (c : Conj) (ps : List Piece) : Type 0 where
  pub exact : Eliminates (Ok ps) c (pieces_of strategy vars b c)
  pub gone : AllEmpty vars ps
  pub projection : (p : List ℤ) → length p ≡ c.columns → (HoldsFor vars c.rows p → IsInSome MeetsRest ps p) × (IsInSome MeetsRest ps p → HoldsFor vars c.rows p)

answered : (strategy : Strategy) (k : ℕ) (ps : List Piece) (vars : List ℕ) (b : ℕ) (c : Conj) → IsWellMade c → RowsFit c.rows → def.sweep (elimination strategy vars) (b + 1) b [] (normal_conj c) 0 ≡ def.Pieces (parts ps) k → Answered strategy vars b c ps
answered strategy k ps vars b c made f is = record {
  exact = (k, pieces-from strategy vars b c f ∙ is);
  gone = all-gone strategy vars ps (sweep-done (elimination strategy vars) (b + 1) b [] (normal_conj c) 0 k (parts ps) is);
  projection = λ q l. pieces-project strategy vars b k c ps q made is l;
}

pub first-answer : (strategy : Strategy) (r : Walked) (ps : List Piece) (vars : List ℕ) (b : ℕ) (c d : Conj) (m : Maxima) (path : List Choice) (old : List Piece) → IsWellMade c → RowsFit c.rows → d ≡ normal_conj c → path ≡ [] → old ≡ []
    → ((n : ℕ) → b < n + 0 → Visits (Ok r) ps (walk (visiting strategy ForPieces vars) n b (path, d) 0 (seen m old))) → Answered strategy vars b c ps
first-answer strategy (done.Empty k s r) ps vars b c d m path old made f e p o w = answered strategy k ps vars b c made f (from-normal strategy (Ok (done.Empty k s r)) ps vars b c d m path old f e p o w)
first-answer strategy (done.Found q) ps vars b c d m path old made f e p o w = absurd (from-normal strategy (Ok (done.Found q)) ps vars b c d m path old f e p o w)

pub normal-made : (c d : Conj) → IsWellMade c → d ≡ normal_conj c → IsWellMade d
normal-made c d made e = let P : Conj → Type 0 = λ x. IsWellMade x in subst P (sym e) (conj_made c made)
