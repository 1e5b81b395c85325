-- Which line of a text is the first that is not as it has to be.
use Rattle.std.specs.Prelude.{ℕ, suc, ◌≡◌, ◌≢◌, ◌+◌, ◌⊎◌, List, [], ◌∷◌, ◌++◌, replicate}
use Rattle.ac_forms.specs.Affine.{Affine}
use Rattle.ac_poly.specs.declared.types.Model.{Model}
use Rattle.ac_legal_text.specs.OrderTexts.{head_line, assign_line, time_line, end_line, IsTimeOver, AreLevels, columns_of}

-- the kinds of lines behind the first: that of an assignment, that of a form over so many columns, and the last
pub data Kind : Type 0 where
  assign : ℕ → Kind
  time : ℕ → Kind
  last : Kind

abbrev pub IsOf : Kind → List ℕ → Type 0
IsOf (assign k) line = line ≡ assign_line k
IsOf (time columns) line = (f : Affine) × IsTimeOver columns f × (line ≡ time_line f)
IsOf last line = line ≡ end_line

-- the text begins with a line of a kind, and this is behind it
pub record BeginsWith (kind : Kind) (text rest : List ℕ) : Type 0 where
  pub line : List ℕ
  pub is : IsOf kind line
  pub joined : text ≡ line ++ 10 ∷ rest

-- behind so many lines, the line with this number is missing or not of its kind, or stands behind the last
abbrev pub FailsAt : List Kind → List ℕ → ℕ → ℕ → Type 0
FailsAt [] text before number = (number ≡ before + 1) × (text ≢ [])
FailsAt (kind ∷ kinds) text before number =
    ((number ≡ before + 1) × ((rest : List ℕ) → ¬ (BeginsWith kind text rest))) ⊎ ((rest : List ℕ) × BeginsWith kind text rest × FailsAt kinds rest (before + 1) number)

-- the kinds of lines of the assignments from one number on, and of the last line
abbrev pub kinds_from : ℕ → ℕ → List ℕ → List Kind
kinds_from levels k [] = last ∷ []
kinds_from levels k (columns ∷ more) = assign k ∷ (replicate levels (time columns) ++ kinds_from levels (suc k) more)

-- the line with this number is the first of a text that is not as it has to be
pub data HasFault (m : Model) (text : List ℕ) : ℕ → Type 0 where
  no_head : ((levels : ℕ) (rest : List ℕ) → AreLevels levels → ¬ (text ≡ head_line levels ++ 10 ∷ rest)) → HasFault m text 1
  wrong_line : (levels number : ℕ) (rest : List ℕ) → AreLevels levels → text ≡ head_line levels ++ 10 ∷ rest → FailsAt (kinds_from levels 0 (columns_of m)) rest 1 number → HasFault m text number
