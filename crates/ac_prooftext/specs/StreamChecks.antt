-- What is known of a stream of bytes that is checked as a proof, and the answer.
use Rattle.std.specs.Prelude.{◌≡◌, ◌≤◌, ◌<◌, ◌⊎◌, ℕ, Bool, List, [], ◌∷◌, ◌++◌, length, Option, Some, None, Result, Ok, Err, Vec}
use Rattle.std.specs.Global.{Global}
use Rattle.std.specs.List.{AllByRecursion}
use Rattle.ac_cert.specs.declared.types.Rule.{Rule}
use Rattle.ac_cert.specs.declared.types.Rule.TheVariants as rule
use Rattle.ac_claims_paths.specs.ModelCalls.{pairing}
use Rattle.ac_claims_paths.specs.PathSteps.{Pairing}
use Rattle.ac_claims.specs.CheckState.{state_of, IsSteady}
use Rattle.ac_claims.specs.Steppers.{State, after_all, beginning, answer_of}
use Rattle.ac_claims.specs.declared.item.Item.{Item}
use Rattle.ac_claims.specs.declared.stepper.Stepper.{Stepper}
use Rattle.ac_prooftext_lines.specs.LineWords.{IsFree}
use Rattle.ac_prooftext.specs.LineOrder.{Place}
use Rattle.ac_prooftext.specs.ProofTexts.{Begin, text_of, lines_text, deepest, capped, IsSpelling, IsTextFault}
use Rattle.ac_prooftext.specs.LinePrefixes.{IsBroken, IsWithin}
use Rattle.ac_prooftext.specs.declared.types.CheckFault.{CheckFault}
use Rattle.ac_prooftext.specs.declared.types.CheckFault.TheVariants.{TooLong, TooDeep, Refused, Memory}

-- the greatest length of a file in bytes, and the greatest number of branches that are open on one path
abbrev pub max_bytes : ℕ
max_bytes = 67108864

abbrev pub max_depth : ℕ
max_depth = 10000

-- lines that may stand at the beginning have more branches open on one path
pub record IsTooDeep (text : List ℕ) : Type 0 where
  pub shapes : Bool
  pub items : List Item
  pub place : Place
  pub rest : List ℕ
  pub begin : Begin shapes items place
  pub text_is : text ≡ text_of shapes items ++ rest
  pub deep : max_depth < deepest shapes items

-- the state of the check behind these items
abbrev pub behind : Pairing → List ℕ → List Item → State
behind g outputs xs = after_all g outputs xs beginning

-- a spelling that is not too deep, with this answer of the check of its items
pub record IsJudged (g : Pairing) (outputs : List ℕ) (text : List ℕ) (answer : Result (List ℕ) (ℕ × Rule)) : Type 0 where
  pub depth : ℕ
  pub spelling : IsSpelling text depth
  pub shallow : depth ≤ max_depth
  pub answer_is : answer_of (behind g outputs spelling.items).came ≡ answer

-- a fault of the text, whose lines before it are not too deep
pub record IsTextRefused (text : List ℕ) (line : ℕ) : Type 0 where
  pub first : ℕ
  pub depth : ℕ
  pub fault : IsTextFault text first depth
  pub shallow : depth ≤ max_depth
  pub line_is : line ≡ capped first

-- the answer on a stream: too long; too deep; a fault of the text; else the answer of the check. Want of memory tells nothing
abbrev pub IsAnswer : Pairing → List ℕ → List ℕ → Result (Vec ℕ Global) CheckFault → Type 0
IsAnswer g outputs text (Ok v) = (length text ≤ max_bytes) × IsJudged g outputs text (Ok v.items)
IsAnswer g outputs text (Err TooLong) = max_bytes < length text
IsAnswer g outputs text (Err TooDeep) = (length text ≤ max_bytes) × IsTooDeep text
IsAnswer g outputs text (Err (Refused line r)) = (length text ≤ max_bytes) × (((r ≡ rule.Text) × IsTextRefused text line) ⊎ IsJudged g outputs text (Err (line, r)))
IsAnswer g outputs text (Err (Memory e)) = Unit {0}
