-- What the answer of a check of lines means.
use Rattle.std.specs.Prelude.{◌≡◌, ◌<◌, ◌^◌, ℕ, Bool, List, length, Ok, Vec}
use Rattle.std.specs.Global.{Global}
use Rattle.std.specs.List.{AllByRecursion}
use Rattle.ac_syntax.specs.Outputs.{SameOutput}
use Rattle.ac_syntax.specs.declared.tree.Pair.{Pair}
use Rattle.ac_poly.specs.declared.types.Model.{Model}
use Rattle.ac_claims.specs.Soundness.{ArePaired, AreModels, pairing_of}
use Rattle.ac_claims.specs.Steppers.{after_all, beginning, answer_of}
use Rattle.ac_claims.specs.declared.item.Item.{Item}
use Rattle.ac_prooftext.specs.StreamChecks.{IsAnswer}
use Rattle.ac_prooftext.specs.LineOrder.{Place}
use Rattle.ac_prooftext.specs.ProofTexts.{Begin}
use Rattle.ac_prooftext.specs.declared.stages.Stage.TheVariants as stage

-- where the check of the items of a complete proof names outputs, each of them is the same
abbrev pub NamedOutputsAreSame : Type 0
NamedOutputsAreSame =
    (pair : Pair) (left right : Model) (shapes : Bool) (xs : List Item) (p : Place) (outputs : List ℕ) → ArePaired pair → AreModels pair left right → Begin shapes xs p → p.stage ≡ stage.Done → length xs < 2 ^ 63
    → answer_of (after_all (pairing_of pair left right) pair.outputs xs beginning).came ≡ Ok outputs → AllByRecursion (SameOutput pair) outputs

-- so where the check of a stream of bytes names outputs, each of them is the same
abbrev pub AcceptedOutputsAreSame : Type 0
AcceptedOutputsAreSame =
    (pair : Pair) (left right : Model) (text : List ℕ) (outputs : Vec ℕ Global) → ArePaired pair → AreModels pair left right → IsAnswer (pairing_of pair left right) pair.outputs text (Ok outputs) → AllByRecursion (SameOutput pair) outputs.items
