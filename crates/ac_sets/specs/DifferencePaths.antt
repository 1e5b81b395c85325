-- The path of the tree of a difference: the rows behind each row of what is taken away, and the ends beside it.
use Rattle.std.specs.Prelude.{◌≡◌, ℕ, ◌+◌, List, [], ◌∷◌, length, None}
use Rattle.ac_forms.specs.declared.conj.Conj.{Conj}
use Rattle.ac_forms.specs.declared.row.Row.{Row}
use Rattle.ac_forms.specs.declared.row.Row.TheVariants.{Eq, Div, Ge}
use Rattle.ac_cert.specs.AcceptedTrees.{Accepts}
use Rattle.ac_cert.specs.RowBranches.{behind, under, over_zero, with_rest}
use Rattle.ac_cert.specs.CertificateFaults.{Refusal}
use Rattle.ac_cert.specs.declared.types.Tree.{Tree}
use Rattle.ac_sets.specs.declared.parts.Part.{Part}
use Rattle.ac_sets.specs.declared.parts.Part.TheVariants.{Piece, Inside}

-- how many pieces the negation of the row has
abbrev pub piece_count : Row → ℕ
piece_count (Eq f) = 2
piece_count (Div m f) = 1
piece_count (Ge f) = 1

-- the pieces of the row's negation, from piece k on, are accepted where the row does not hold
abbrev pub SidesStand : Refusal Part → Row → Conj → ℕ → Type 0
SidesStand refusal (Eq f) c k = (refusal (Piece k) (over_zero c f) ≡ None) × (refusal (Piece (k + 1)) (under c f) ≡ None)
SidesStand refusal (Div m f) c k = refusal (Piece k) (with_rest c m f) ≡ None
SidesStand refusal (Ge f) c k = refusal (Piece k) (under c f) ≡ None

-- all ends along the path are accepted
abbrev pub EndsStand : Refusal Part → List Row → Conj → ℕ → Type 0
EndsStand refusal [] c k = refusal Inside c ≡ None
EndsStand refusal (r ∷ rs) c k = SidesStand refusal r c k × EndsStand refusal rs (behind c r) (k + piece_count r)

-- behind a path of so many columns and rows the tree is accepted, where the pieces of the row, from piece k on, and the further tree are
abbrev pub LeadsOn : Row → ℕ → ℕ → ℕ → Tree Part → Tree Part → Type 0
LeadsOn r columns count k onward t = (refusal : Refusal Part) (c : Conj) → c.columns ≡ columns → length c.rows ≡ count → SidesStand refusal r c k → Accepts onward refusal (behind c r) → Accepts t refusal c

-- behind a path of so many columns and rows the tree is accepted, where all ends along the rows are, from piece k on
abbrev pub Leads : List Row → ℕ → ℕ → ℕ → Tree Part → Type 0
Leads rs columns count k t = (refusal : Refusal Part) (c : Conj) → c.columns ≡ columns → length c.rows ≡ count → EndsStand refusal rs c k → Accepts t refusal c
