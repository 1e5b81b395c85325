-- Rows and forms of contexts and extents have no coefficient past the parameters.
use Rattle.std.proofs.Common.{◌≡◌, ℕ, ◌≤◌, List, [], ◌∷◌, length}
use Rattle.std.specs.List.{AllByRecursion}
use Rattle.ac_forms.specs.Affine.{Affine}
use Rattle.ac_forms.specs.Rows.{form_of}
use Rattle.ac_syntax.specs.ReadyPrograms.{FitParts}
use Rattle.ac_syntax.specs.declared.tree.Comparison.{Comparison}
use Rattle.ac_syntax.specs.declared.tree.IndexExpr.{IndexExpr}
use Rattle.ac_syntax.specs.declared.tree.Rel.{Rel}
use Rattle.ac_syntax.specs.declared.tree.Rel.TheVariants.{NonNegative, Zero, Divides}
use Rattle.ac_poly.specs.IndexForms.{lowered, row_by, rows_of}
use Rattle.ac_poly_quotients.proofs.FormValues.{Narrow}
use Rattle.ac_poly_quotients.proofs.NarrowRows.{NarrowRows, narrow-among}
pub use Rattle.ac_poly_quotients.proofs.NarrowRows.{all_append}

pub narrow-lowered : (n ps : ℕ) (its : List Affine) (e : IndexExpr) → ps ≤ n → length e.params ≡ ps → AllByRecursion (Narrow n) its → Narrow n (lowered its e)
narrow-lowered n ps its e h f i = narrow-among n ps its e.konst e.params e.iters h f i

row_narrow : (n : ℕ) (r : Rel) (f : Affine) → Narrow n f → Narrow n (form_of (row_by r f))
row_narrow n NonNegative f h = h
row_narrow n Zero f h = h
row_narrow n (Divides m) f h = h

pub narrow_rows : (n ps xs : ℕ) (its : List Affine) (cs : List Comparison) → ps ≤ n → FitParts ps xs cs → AllByRecursion (Narrow n) its → NarrowRows n (rows_of its cs)
narrow_rows n ps xs its [] h f i = tt
narrow_rows n ps xs its (c ∷ cs) h f i = (row_narrow n c.rel (lowered its c.form) (narrow-lowered n ps its c.form h f.0.form.params i), narrow_rows n ps xs its cs h f.1 i)
