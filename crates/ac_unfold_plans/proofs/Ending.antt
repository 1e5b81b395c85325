-- The ends of a plan on a path that follows a question.
use Rattle.std.proofs.Common.{◌≡◌, ℕ, ◌&&◌, List, [], ◌∷◌, ◌++◌, Bool, true, false, Option, Some, None, cond, nat_eq, slice_get, refl, ap, ◌∙◌}
use Rattle.ac_forms.specs.Affine.{Affine}
use Rattle.ac_forms.specs.Renaming.{rows_renaming}
use Rattle.ac_forms.specs.declared.row.Row.{Row}
use Rattle.ac_poly.specs.Model.{is_input}
use Rattle.ac_claims_paths.specs.PathColumns.{base, columns_of, equal_forms}
use Rattle.ac_claims_paths.specs.PathSteps.{Pairing}
use Rattle.ac_claims_paths.specs.ModelPositions.{number_at, initial_cell}
use Rattle.ac_claims_paths.specs.PathRows.{made_and_stand}
use Rattle.ac_claims_paths.specs.declared.path.Path.{Path}
use Rattle.ac_claims_paths.specs.declared.places.CellForms.{CellForms}
use Rattle.ac_claims.specs.ProofEnds.{same_position, is_hit, equal_numbers, is_number, equal_cells, is_initial}
use Rattle.ac_claims.specs.declared.types.Claim.{Claim}
use Rattle.ac_claims.specs.declared.types.Plan.{Plan}
use Rattle.ac_claims.specs.declared.types.PlanNext.TheVariants.{Hit, SameNumber, SameInitial}
use Rattle.ac_claims_plans.specs.PlanAcceptance.{AcceptsPlan}
use Rattle.ac_claims_plans.specs.declared.embedding.Embedding.{Embedding}
use Rattle.ac_claims_plans.specs.QuestionPaths.{Follows}
use Rattle.ac_unfold_plans.specs.PlanEnds.{ClaimsAreHit, NumbersAreEqual, InitialCellsAreEqual, IsEnd, HitsArePlans, EqualNumbersArePlans, EqualCellsArePlans}
use Rattle.ac_claims_plans.proofs.Named.{place_of}
use Rattle.ac_claims_plans.proofs.Views.{embedding-names}
use Rattle.ac_claims_plans.proofs.Along.{RowsMade, rows-along, equal-along, placed-both}
use Rattle.ac_unfold_plans.proofs.Carrying.{made-there, on-path}

-- ---- claims

pub claims_hit : ClaimsAreHit
claims_hit g s q h c wanted a f r =
    let on = placed-both s.columns (base g.params) (base g.params) (columns_of q.left ++ columns_of q.right) (columns_of h.left ++ columns_of h.right) f.parameters
    (placed-both s.columns (columns_of q.left) (columns_of h.left) (columns_of q.right) (columns_of h.right) f.left.coordinates f.right.coordinates) in
    let m = rows-along s.next_column s.columns (embedding-names s q.conj h.conj f.stands) (base g.params ++ (columns_of q.left ++ columns_of q.right)) (base g.params ++ (columns_of h.left ++ columns_of h.right)) on c.rows wanted a.rows in
    let gone : h.gone ≡ true = f.gone ∙ a.gone in
    let left : same_position h.left.position c.left ≡ true = ap (λ p. same_position p c.left) f.left.position ∙ a.left in
    let right : same_position h.right.position c.right ≡ true = ap (λ p. same_position p c.right) f.right.position ∙ a.right in
    rw (gone, left, right) (made-there g.params s q h wanted (rows_renaming (base g.params ++ (columns_of h.left ++ columns_of h.right)) c.rows) f m r)

-- ---- equalities

equal-there : (params : ℕ) (s : Embedding) (q h : Path) → Follows params s q h → (fs gs : List Affine) (rows : List Row) → equal_forms (base params ++ columns_of q.left) fs (base params ++ columns_of q.right) gs ≡ Some rows
    → RowsMade (λ j. place_of j s.columns) rows (equal_forms (base params ++ columns_of h.left) fs (base params ++ columns_of h.right) gs)
equal-there params s q h f fs gs rows e =
    equal-along s.next_column s.columns (embedding-names s q.conj h.conj f.stands) (base params ++ columns_of q.left) (base params ++ columns_of h.left) (base params ++ columns_of q.right) (base params ++ columns_of h.right)
    (placed-both s.columns (base params) (base params) (columns_of q.left) (columns_of h.left) f.parameters f.left.coordinates)
    (placed-both s.columns (base params) (base params) (columns_of q.right) (columns_of h.right) f.parameters f.right.coordinates) fs gs rows e

numbers-there : (g : Pairing) (s : Embedding) (q h : Path) (wanted : List Row) (a b : Option Affine) → Follows g.params s q h → equal_numbers g q a b ≡ Some wanted → RowsMade (λ j. place_of j s.columns) wanted (equal_numbers g h a b)
numbers-there g s q h wanted (Some a) (Some b) f e = equal-there g.params s q h f (a ∷ []) (b ∷ []) wanted e
numbers-there g s q h wanted (Some a) None f e = absurd cc
numbers-there g s q h wanted None b f e = absurd cc

pub numbers_equal : NumbersAreEqual
numbers_equal g s q h wanted e f r =
    let m = numbers-there g s q h wanted (number_at g.left q.left.position) (number_at g.right q.right.position) f e in
    ap (λ p. made_and_stand h.conj.rows (equal_numbers g h (number_at g.left p) (number_at g.right h.right.position))) f.left.position
    ∙ ap (λ p. made_and_stand h.conj.rows (equal_numbers g h (number_at g.left q.left.position) (number_at g.right p))) f.right.position
    ∙ made-there g.params s q h wanted (equal_numbers g h (number_at g.left q.left.position) (number_at g.right q.right.position)) f m r

cells-there : (g : Pairing) (s : Embedding) (q h : Path) (wanted : List Row) (a b : Option CellForms) → Follows g.params s q h → equal_cells g q a b ≡ Some wanted → RowsMade (λ j. place_of j s.columns) wanted (equal_cells g h a b)
cells-there g s q h wanted (Some a) (Some b) f e = by (nat_eq a.array b.array && is_input (slice_get g.left.kinds a.array)) e
  where
    by : (t : Bool) → cond t (equal_forms (base g.params ++ columns_of q.left) a.subs (base g.params ++ columns_of q.right) b.subs) None ≡ Some wanted
        → RowsMade (λ j. place_of j s.columns) wanted (cond t (equal_forms (base g.params ++ columns_of h.left) a.subs (base g.params ++ columns_of h.right) b.subs) None)
    by true e = equal-there g.params s q h f a.subs b.subs wanted e
    by false e = absurd cc
cells-there g s q h wanted (Some a) None f e = absurd cc
cells-there g s q h wanted None b f e = absurd cc

pub cells_equal : InitialCellsAreEqual
cells_equal g s q h wanted e f r =
    let m = cells-there g s q h wanted (initial_cell g.left q.left.position) (initial_cell g.right q.right.position) f e in
    ap (λ p. made_and_stand h.conj.rows (equal_cells g h (initial_cell g.left p) (initial_cell g.right h.right.position))) f.left.position
    ∙ ap (λ p. made_and_stand h.conj.rows (equal_cells g h (initial_cell g.left q.left.position) (initial_cell g.right p))) f.right.position
    ∙ made-there g.params s q h wanted (equal_cells g h (initial_cell g.left q.left.position) (initial_cell g.right q.right.position)) f m r

-- ---- ends

hit-accepted : (g : Pairing) (cs : List Claim) (h : Path) (t : Plan) (n : ℕ) → IsEnd (Hit n) t → is_hit g h (slice_get cs n) ≡ true → AcceptsPlan g cs t h
hit-accepted g cs h t n e i = λ k. rw (e.0, e.1, i) refl

number-accepted : (g : Pairing) (cs : List Claim) (h : Path) (t : Plan) → IsEnd SameNumber t → is_number g h ≡ true → AcceptsPlan g cs t h
number-accepted g cs h t e i = λ k. rw (e.0, e.1, i) refl

initial-accepted : (g : Pairing) (cs : List Claim) (h : Path) (t : Plan) → IsEnd SameInitial t → is_initial g h ≡ true → AcceptsPlan g cs t h
initial-accepted g cs h t e i = λ k. rw (e.0, e.1, i) refl

pub hits_plans : HitsArePlans
hits_plans g cs s q c n wanted t a at stand e = λ h f _.
    hit-accepted g cs h t n e (ap (is_hit g h) at ∙ claims_hit g s q h c wanted a f (on-path g.params s q h wanted f stand))

pub numbers_plans : EqualNumbersArePlans
numbers_plans g cs s q wanted t made stand e = λ h f _.
    number-accepted g cs h t e (numbers_equal g s q h wanted made f (on-path g.params s q h wanted f stand))

pub cells_plans : EqualCellsArePlans
cells_plans g cs s q wanted t made stand e = λ h f _.
    initial-accepted g cs h t e (cells_equal g s q h wanted made f (on-path g.params s q h wanted f stand))
