-- A check that has taken some of the lines of a text.
use Rattle.std.specs.Prelude.{◌≡◌, ◌<◌, ◌⊎◌, ℕ, true, List, [], ◌++◌, length, Option, None, Some, Result, Ok, Err, Vec}
use Rattle.std.specs.Global.{Global}
use Rattle.std.specs.List.{AllByRecursion}
use Rattle.ac_claims_paths.specs.ModelCalls.{pairing}
use Rattle.ac_claims_paths.specs.PathSteps.{Pairing}
use Rattle.ac_claims.specs.CheckState.{state_of, IsSteady}
use Rattle.ac_claims.specs.Steppers.{State, beginning, answer_of}
use Rattle.ac_claims.specs.declared.stepper.Stepper.{Stepper}
use Rattle.ac_prooftext_lines.specs.LineWords.{IsFree}
use Rattle.ac_prooftext.specs.LineOrder.{Place}
use Rattle.ac_prooftext.specs.ProofTexts.{lines_text, capped}
use Rattle.ac_prooftext.specs.LinePrefixes.{IsBroken, IsWithin}
use Rattle.ac_prooftext.specs.StreamChecks.{max_bytes, max_depth, IsTooDeep, behind}
use Rattle.ac_prooftext.specs.declared.checker.Checker.{Checker}
use Rattle.ac_prooftext.specs.declared.types.CheckFault.{CheckFault}
use Rattle.ac_prooftext.specs.declared.types.CheckFault.TheVariants.{TooLong, TooDeep, Refused, Memory}
use Rattle.ac_prooftext.specs.declared.lines.LineReader.{LineReader}
use Rattle.ac_prooftext.specs.declared.lines.Reading.{Reading}
use Rattle.ac_prooftext.specs.declared.lines.Reading.TheVariants.{Unopened, Within, Faulty}

-- the check has taken the items of the lines
pub record Checked (g : Pairing) (outputs : List ℕ) (lines : List (List ℕ)) (p : Place) (count depth : ℕ) (state : Option State) : Type 0 where
  pub within : IsWithin lines p count depth
  pub state_is : state ≡ Some (behind g outputs within.items)

abbrev pub IsCourseBy : Pairing → List ℕ → List (List ℕ) → Reading → Place → ℕ → ℕ → Option State → Type 0
IsCourseBy g outputs lines Unopened p count depth state = ((lines ≡ []) × (count ≡ 0) × (depth ≡ 0)) × (state ≡ Some beginning)
IsCourseBy g outputs lines Within p count depth state = Checked g outputs lines p count depth state
IsCourseBy g outputs lines Faulty p count depth state = IsBroken lines count depth

abbrev pub IsCourse : Pairing → List ℕ → List (List ℕ) → LineReader → Stepper → Type 0
IsCourse g outputs lines r s = IsCourseBy g outputs lines r.reading r.outline r.lines r.deepest (state_of s)

-- the lines so far, and the one under way
pub record IsUnderWay (g : Pairing) (outputs : List ℕ) (text line : List ℕ) (r : LineReader) (s : Stepper) : Type 0 where
  pub lines : List (List ℕ)
  pub text_is : text ≡ lines_text lines ++ line
  pub lines_free : AllByRecursion (IsFree 10) lines
  pub line_free : IsFree 10 line
  pub course : IsCourse g outputs lines r s

-- a check of a pair that was fed with this text
pub record IsFed (g : Pairing) (outputs : List ℕ) (text : List ℕ) (c : Checker) : Type 0 where
  pub bytes : c.bytes ≡ capped (length text)
  pub pairing_is : pairing c.stepper.programs ≡ g
  pub outputs_are : c.stepper.outputs.now ≡ outputs
  pub known : (max_bytes < length text) ⊎ (((max_depth < c.reader.deepest) × IsTooDeep text) ⊎ IsUnderWay g outputs text c.line.items c.reader c.stepper)

-- a check that goes on, and one for which there was no memory
abbrev pub IsReady : Checker → Type 0
IsReady c = IsSteady c.stepper

abbrev pub IsWanting : Checker → Type 0
IsWanting c = c.want ≡ true

-- an answer that there was no memory
abbrev pub TellsWant : Result (Vec ℕ Global) CheckFault → Type 0
TellsWant (Err (Memory e)) = Unit {0}
TellsWant _ = ⊥

-- what a further piece of the text leads to: it is too deep, or its lines are taken
abbrev pub GoesOn : Pairing → List ℕ → List ℕ → LineReader → Stepper → List ℕ → List ℕ → LineReader → Stepper → Type 0
GoesOn g outputs line r s piece line' r' s' =
    (text : List ℕ) → IsUnderWay g outputs text line r s → ((max_depth < r'.deepest) × IsTooDeep (text ++ piece)) ⊎ IsUnderWay g outputs (text ++ piece) line' r' s'

-- the answer of the check of the items
abbrev pub HasVerdict : Option State → Result (Vec ℕ Global) CheckFault → Type 0
HasVerdict None result = Unit {0}
HasVerdict (Some s) (Ok v) = answer_of s.came ≡ Ok v.items
HasVerdict (Some s) (Err TooLong) = ⊥
HasVerdict (Some s) (Err TooDeep) = ⊥
HasVerdict (Some s) (Err (Refused line r)) = answer_of s.came ≡ Err (line, r)
HasVerdict (Some s) (Err (Memory e)) = Unit {0}
