-- The rows of each side of a branch are over the question's columns there.
use Rattle.std.proofs.Common.{◌≡◌, ℕ, zero, suc, ◌+◌, ◌-◌, ◌≤◌, ℤ, pos, negsuc, neg_ℤ, ◌-ℤ◌, ◌*ℤ◌, unsigned_abs, Bool, true, false, cond, List, [], ◌∷◌, map, length, arith}
use Rattle.std.specs.List.{range_with_len}
use Rattle.std.proofs.lemmas.List.{length-map}
use Rattle.ac_forms.specs.Affine.{Affine, shifted}
use Rattle.ac_forms.specs.Negation.{opposite, above}
use Rattle.ac_forms.specs.Rows.{IsRowOver, AreRowsOver}
use Rattle.ac_forms.specs.declared.row.Row.{Row}
use Rattle.ac_forms.specs.declared.row.Row.TheVariants.{Eq, Div, Ge}
use Rattle.ac_forms.proofs.Negations.{length-with_column}
use Rattle.ac_cert.specs.Rules.{class_row}
use Rattle.ac_claims_paths.specs.WellFormedPaths.{IsFormed, AllFormed}
use Rattle.ac_claims_paths.specs.declared.path.Path.{Path}
use Rattle.ac_claims_paths.proofs.InBranches.{made-wide}
use Rattle.ac_claims_paths.proofs.Moving.{made-both}
use Rattle.ac_claims_plans.specs.BranchSides.{side_of, one_row, rest_side, has_few, inside_of, outside_of}
use Rattle.ac_claims_plans.specs.declared.branching.Part.{Part}
use Rattle.ac_claims_plans.specs.QuestionPlans.{question_on, SidesAreFormed}
use Rattle.ac_claims_plans.proofs.Serving.{formed-wider}

-- the side's rows over the columns that the question has there
abbrev IsOverOn : ℕ → Part → Type 0
IsOverOn n p = AreRowsOver (n + p.question_columns) p.rows

abbrev AreOverOn : ℕ → List Part → Type 0
AreOverOn n [] = Unit {0}
AreOverOn n (p ∷ ps) = IsOverOn n p × AreOverOn n ps

one-over : (n : ℕ) (r : Row) (place columns rows : ℕ) → IsRowOver n r → IsOverOn n (one_row r place columns rows)
one-over n r place columns rows h = ((let l = h.0 in omega (arith, l), h.1), tt)

inside-over : (n : ℕ) (r : Row) → IsRowOver n r → IsOverOn n (inside_of r)
inside-over n (Eq f) h = one-over n (Eq f) 2 0 3 h
inside-over n (Div m f) h = by (has_few m)
  where
    by : (b : Bool) → IsOverOn n (cond b (one_row (Div m f) 0 0 1) (one_row (Div m f) 5 1 6))
    by true = one-over n (Div m f) 0 0 1 h
    by false = one-over n (Div m f) 5 1 6 h
inside-over n (Ge f) h = one-over n (Ge f) 0 0 1 h

long : (f : Affine) → length (opposite f).coefs ≡ length f.coefs
long f = length-map f.coefs (λ c. negsuc 0 *ℤ c)

classes-over : (n : ℕ) (m : ℤ) (f : Affine) (i count : ℕ) → IsRowOver n (Div m f) → AreOverOn n (map (λ r. one_row (class_row m f (pos r)) 0 0 1) (range_with_len i count))
classes-over n m f i zero h = tt
classes-over n m f i (suc count) h = (one-over n (class_row m f (pos i)) 0 0 1 (h.0, h.1), classes-over n m f (i + 1) count h)

rest-over : (n : ℕ) (m : ℤ) (f : Affine) → length f.coefs ≤ n → IsOverOn n (rest_side n m f)
rest-over n m f l = (
  (omega (arith, length-with_column n (neg_ℤ m) (above f) l), tt),
  ((omega (arith, length-with_column n m (shifted (opposite f) (m -ℤ pos 1)) (omega (arith, long f, l))), tt), tt),
)

outside-over : (n : ℕ) (r : Row) → IsRowOver n r → AreOverOn n (outside_of n r)
outside-over n (Eq f) h = (one-over n (Ge (above f)) 1 0 2 (h.0, tt), (one-over n (Ge (shifted (opposite f) (negsuc 0))) 0 0 1 (omega (arith, long f, h.0), tt), tt))
outside-over n (Div m f) h = by (has_few m)
  where
    by : (b : Bool) → AreOverOn n (cond b (map (λ r. one_row (class_row m f (pos r)) 0 0 1) (range_with_len 1 (unsigned_abs m - 1))) (rest_side n m f ∷ []))
    by true = classes-over n m f 1 (unsigned_abs m - 1) h
    by false = (rest-over n m f h.0, tt)
outside-over n (Ge f) h = (one-over n (Ge (shifted (opposite f) (negsuc 0))) 0 0 1 (omega (arith, long f, h.0), tt), tt)

formed-on : (params : ℕ) (q : Path) (p : Part) → IsFormed params q → IsOverOn q.conj.columns p → IsFormed params (question_on q p)
formed-on params q p i o =
    let n = q.conj.columns + p.question_columns in
    formed-wider params q (side_of q.conj p) (omega arith) i (made-both n q.conj.rows p.rows (made-wide q.conj.rows q.conj.columns n (omega arith) i.made) o)

each-formed : (params : ℕ) (q : Path) (ps : List Part) → IsFormed params q → AreOverOn q.conj.columns ps → AllFormed params (map (question_on q) ps)
each-formed params q [] i o = tt
each-formed params q (p ∷ ps) i o = (formed-on params q p i o.0, each-formed params q ps i o.1)

pub sides_formed : SidesAreFormed
sides_formed params q r i h = (formed-on params q (inside_of r) i (inside-over q.conj.columns r h), each-formed params q (outside_of q.conj.columns r) i (outside-over q.conj.columns r h))
