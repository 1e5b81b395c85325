-- The text of a schedule: a line that says how many numbers a time has, for each assignment a line with its number and a line
-- for each form of its time, and a last line.
use Rattle.std.specs.Prelude.{ℕ, suc, ◌≡◌, ◌≤◌, ◌+◌, ℤ, List, [], ◌∷◌, ◌++◌, map, length, codes, decimal, unsigned_abs}
use Rattle.std.specs.List.{AllByRecursion, flat_map}
use Rattle.ac_forms.specs.Affine.{Affine}
use Rattle.ac_poly.specs.declared.types.Model.{Model}
use Rattle.ac_prooftext_lines.specs.LineWords.{line_of}
use Rattle.ac_prooftext_lines.specs.Spelling.{form_words}

-- ---- lines

abbrev pub head_line : ℕ → List ℕ
head_line levels = line_of (codes "affine-order" ∷ codes "1" ∷ decimal levels ∷ [])

abbrev pub assign_line : ℕ → List ℕ
assign_line k = line_of (codes "assign" ∷ decimal k ∷ [])

abbrev pub time_line : Affine → List ℕ
time_line f = line_of (codes "time" ∷ form_words f)

abbrev pub end_line : List ℕ
end_line = codes "end"

-- the lines of the assignments from one number on
abbrev pub assignment_lines : ℕ → List (List Affine) → List (List ℕ)
assignment_lines k [] = []
assignment_lines k (fs ∷ more) = assign_line k ∷ (map time_line fs ++ assignment_lines (suc k) more)

abbrev pub order_lines : ℕ → List (List Affine) → List (List ℕ)
order_lines levels times = head_line levels ∷ (assignment_lines 0 times ++ end_line ∷ [])

-- the text of lines, of which each ends with a newline
abbrev pub text_of : List (List ℕ) → List ℕ
text_of = flat_map (λ line. line ++ 10 ∷ [])

-- ---- schedules that can be spelled

-- an integer of at most 2^31 in absolute value
abbrev pub IsSmall : ℤ → Type 0
IsSmall z = unsigned_abs z ≤ 2147483648

-- a form with a small constant, and a small coefficient for each of so many columns
pub record IsTimeOver (columns : ℕ) (f : Affine) : Type 0 where
  pub constant : IsSmall f.konst
  pub coefficients : AllByRecursion IsSmall f.coefs
  pub each : length f.coefs ≡ columns

-- so many of them
pub record AreTimesOver (levels columns : ℕ) (fs : List Affine) : Type 0 where
  pub count : length fs ≡ levels
  pub all : AllByRecursion (IsTimeOver columns) fs

-- the columns of each assignment: the parameters and its counters
abbrev pub columns_of : Model → List ℕ
columns_of m = map (λ s. m.params + length s.loops) m.stmts

-- so many forms for each assignment, over its columns
abbrev pub AreTimes : ℕ → List ℕ → List (List Affine) → Type 0
AreTimes levels [] [] = Unit {0}
AreTimes levels [] (fs ∷ more) = ⊥
AreTimes levels (n ∷ ns) [] = ⊥
AreTimes levels (n ∷ ns) (fs ∷ more) = AreTimesOver levels n fs × AreTimes levels ns more

-- how many numbers a time may have
abbrev pub AreLevels : ℕ → Type 0
AreLevels levels = (1 ≤ levels) × (levels ≤ 13)

-- the text is that of a schedule for the model
pub record Spells (m : Model) (text : List ℕ) (times : List (List Affine)) : Type 0 where
  pub levels : ℕ
  pub within : AreLevels levels
  pub forms : AreTimes levels (columns_of m) times
  pub spelled : text ≡ text_of (order_lines levels times)
