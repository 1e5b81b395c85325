-- What kind an array is, and its extents.
use Rattle.std.proofs.Common.{◌≡◌, ℕ, zero, suc, List, [], ◌∷◌, Bool, false, Option, None, Some, slice_get, refl}
use Rattle.ac_syntax.specs.Outputs.{input_at, is_input_kind, extents_at}
use Rattle.ac_syntax.specs.declared.tree.IndexExpr.{IndexExpr}
use Rattle.ac_syntax.specs.declared.tree.Array.{Array}

abbrev pub kind_at : Option Array → Bool
kind_at None = false
kind_at (Some a) = is_input_kind a.kind

pub kinds : (arrays : List Array) (k : ℕ) → input_at arrays k ≡ kind_at (slice_get arrays k)
kinds [] k = refl
kinds (a ∷ rest) zero = refl
kinds (a ∷ rest) (suc k) = kinds rest k

abbrev pub extents_of : Option Array → List IndexExpr
extents_of None = []
extents_of (Some a) = a.extents

pub extents_is : (arrays : List Array) (k : ℕ) → extents_at arrays k ≡ extents_of (slice_get arrays k)
extents_is [] k = refl
extents_is (a ∷ rest) zero = refl
extents_is (a ∷ rest) (suc k) = extents_is rest k
