-- When two positions without reads do not match, by the models.
use Rattle.std.specs.Prelude.{◌≡◌, List, ℤ, Some, true}
use Rattle.ac_forms.specs.Affine.{Affine, value_at}
use Rattle.ac_syntax.specs.Outputs.{input_at}
use Rattle.ac_syntax.specs.declared.tree.Array.{Array}
use Rattle.ac_syntax.specs.declared.tree.Position.{Position}
use Rattle.ac_poly.specs.ModelMeaning.{values_at}
use Rattle.ac_poly.specs.declared.types.Model.{Model}
use Rattle.ac_claims_paths.specs.ModelPositions.{CallAt, call_at, number_at, initial_cell}
use Rattle.ac_claims_paths.specs.declared.places.CellForms.{CellForms}

-- no two calls of one symbol
abbrev pub NotCalls : Model → Model → Position → Position → Type 0
NotCalls left right P Q = (c d : CallAt) → call_at left P ≡ Some c → call_at right Q ≡ Some d → ¬ (c.symbol ≡ d.symbol)

-- no two numbers of equal value, at the points p and q
abbrev pub NotNumbers : Model → Model → Position → Position → List ℤ → List ℤ → Type 0
NotNumbers left right P Q p q = (f g : Affine) → number_at left P ≡ Some f → number_at right Q ≡ Some g → ¬ (value_at f p ≡ value_at g q)

-- the cells are not one cell of an input
abbrev pub AreApart : List Array → CellForms → List ℤ → CellForms → List ℤ → Type 0
AreApart arrays c p d q = input_at arrays c.array ≡ true → ¬ ((c.array ≡ d.array) × (values_at p c.subs ≡ values_at q d.subs))

abbrev pub NotOneInput : List Array → Model → Model → Position → Position → List ℤ → List ℤ → Type 0
NotOneInput arrays left right P Q p q = (c d : CellForms) → initial_cell left P ≡ Some c → initial_cell right Q ≡ Some d → AreApart arrays c p d q
