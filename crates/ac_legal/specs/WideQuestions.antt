-- Questions that cannot be formed: the difference of two subscripts, or of two times, leaves `i128`.
use Rattle.std.specs.Prelude.{ℕ, ◌≡◌, ◌⊎◌, ◌+ℤ◌, pos, negsuc, List, [], ◌∷◌, map, length}
use Rattle.ac_forms.specs.Affine.{Affine, CanCombine, combined}
use Rattle.ac_forms.specs.Fits.{Fits}
use Rattle.ac_forms.specs.ListMembers.{IsAmong}
use Rattle.ac_forms.specs.Renaming.{renamed}
use Rattle.ac_poly.specs.LevelRows.{CanEquate}
use Rattle.ac_poly.specs.declared.types.StmtModel.{StmtModel}
use Rattle.ac_legal_law.specs.OrderQuestions.{CellForms, written, reads}

-- ---- cells

-- two cells of one array of which a difference of two subscripts leaves `i128`
pub record AreWideCells (ks ls : List ℕ) (a b : CellForms) : Type 0 where
  pub one_array : a.array ≡ b.array
  pub one_length : length a.subs ≡ length b.subs
  pub leaves : ¬ CanEquate (map (renamed ks) a.subs) (map (renamed ls) b.subs)

-- a cell with one of several cells
abbrev pub IsWideWith : List ℕ → List ℕ → CellForms → List CellForms → Type 0
IsWideWith ks ls a bs = (b : CellForms) × IsAmong b bs × AreWideCells ks ls a b

-- one of several cells with a cell
abbrev pub AreWideWith : List ℕ → List ℕ → List CellForms → CellForms → Type 0
AreWideWith ks ls xs b = (a : CellForms) × IsAmong a xs × AreWideCells ks ls a b

-- two such cells of two assignments, of which one is a target
abbrev pub HaveWideCells : List ℕ → List ℕ → StmtModel → StmtModel → Type 0
HaveWideCells ks ls s u = IsWideWith ks ls (written s) (written u ∷ reads u.nodes) ⊎ AreWideWith ks ls (reads s.nodes) (written u)

-- ---- times

-- the difference of two numbers of times, or 1 less, leaves `i128`
abbrev pub IsWideDifference : Affine → Affine → Type 0
IsWideDifference f g = (¬ CanCombine (pos 1) f (negsuc 0) g) ⊎ (¬ Fits ((combined (pos 1) f (negsuc 0) g).konst +ℤ negsuc 0))

-- so it is at one place of two times
abbrev pub AreWideTimes : List Affine → List Affine → Type 0
AreWideTimes [] gs = ⊥
AreWideTimes (f ∷ fs) [] = ⊥
AreWideTimes (f ∷ fs) (g ∷ gs) = IsWideDifference f g ⊎ AreWideTimes fs gs
