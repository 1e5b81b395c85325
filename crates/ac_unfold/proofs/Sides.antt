-- The side of a branch where its row holds.
use Rattle.std.proofs.Common.{◌≡◌, ◌&&◌, Bool, true, false, cond, List, [], ◌∷◌, ◌++◌, length, Some, refl, sym, ap, subst, arith}
use Rattle.std.specs.Prelude.{slice_get}
use Rattle.ac_forms.specs.Rows.{AreRowsOver, IsRowOver, IsWellMade}
use Rattle.ac_forms.specs.Standing.{all_stand, stands}
use Rattle.ac_forms.specs.declared.conj.Conj.{Conj}
use Rattle.ac_forms.specs.declared.row.Row.{Row}
use Rattle.ac_forms.specs.declared.row.Row.TheVariants.{Eq, Div, Ge}
use Rattle.ac_forms.proofs.Standings.{stands-more, stands-there}
use Rattle.ac_claims_plans.specs.BranchSides.{has_few, inside_of, one_row, side_of}
use Rattle.ac_claims_plans.specs.declared.branching.Part.{Part}
use Rattle.ac_claims_plans.specs.QuestionCover.{HasPlaces}
use Rattle.ac_unfold.specs.PlanResults.{IsStanding, AreStanding}
use Rattle.ac_unfold.specs.RequiredRows.{CanStand}
use Rattle.ac_unfold.specs.UnfoldQuestions.{IsNew}

-- it has the row, at one place, and no further column
pub record IsInside (r : Row) (p : Part) : Type 0 where
  pub rows : p.rows ≡ r ∷ []
  pub columns : p.question_columns ≡ 0
  pub places : HasPlaces p

pub inside_is : (r : Row) → IsInside r (inside_of r)
inside_is (Eq f) = record { rows = refl; columns = refl; places = refl }
inside_is (Div m f) = by (has_few m)
  where
    by : (b : Bool) → IsInside (Div m f) (cond b (one_row (Div m f) 0 0 1) (one_row (Div m f) 5 1 6))
    by true = record { rows = refl; columns = refl; places = refl }
    by false = record { rows = refl; columns = refl; places = refl }
inside_is (Ge f) = record { rows = refl; columns = refl; places = refl }

-- what stands goes on to stand there
pub standing_side : (c : Conj) (p : Part) (r : Row) → IsStanding c r → IsStanding (side_of c p) r
standing_side c p r h = (omega (arith, h.0), stands-more c.rows p.rows r h.1)

pub all_standing_side : (c : Conj) (p : Part) (rs : List Row) → AreStanding c rs → AreStanding (side_of c p) rs
all_standing_side c p [] h = tt
all_standing_side c p (r ∷ rs) h = (standing_side c p r h.0, all_standing_side c p rs h.1)

at_end : (rs : List Row) (r : Row) → slice_get (rs ++ r ∷ []) (length rs) ≡ Some r
at_end [] r = refl
at_end (x ∷ rs) r = at_end rs r

-- and the row itself stands
pub standing_inside : (c : Conj) (r : Row) → CanStand c.columns r → IsStanding (side_of c (inside_of r)) r
standing_inside c r k =
    let i = inside_is r in
    let e : stands (c.rows ++ r ∷ []) r ≡ true = stands-there (c.rows ++ r ∷ []) (length c.rows) r (at_end c.rows r) k.fits k.met in
    (omega (arith, k.over.0), subst (λ (ps : List Row). stands (c.rows ++ ps) r ≡ true) (sym i.rows) e)

pub one_more_stands : (c : Conj) (rs : List Row) (r : Row) → AreStanding c rs → IsStanding c r → AreStanding c (rs ++ r ∷ [])
one_more_stands c [] r h k = (k, tt)
one_more_stands c (x ∷ rs) r h k = (h.0, one_more_stands c rs r h.1 k)

-- where a row does not stand yet, the side where it holds is new
pub inside_new : (c : Conj) (r : Row) → (IsWellMade c → IsRowOver c.columns r → stands c.rows r ≡ false) → IsNew c (inside_of r)
inside_new c r h zero made over =
    let i = inside_is r in
    let one : AreRowsOver c.columns (r ∷ []) = subst (AreRowsOver c.columns) i.rows over in
    let alone : all_stand c.rows (r ∷ []) ≡ false = ap (λ (b : Bool). b && true) (h made one.0) in
    subst (λ (rs : List Row). all_stand c.rows rs ≡ false) (sym i.rows) alone
