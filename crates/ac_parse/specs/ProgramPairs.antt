-- When two programs are a pair, and which.
use Rattle.std.specs.Prelude.{◌≡◌, ◌≢◌, ◌≤◌, ◌+◌, ◌-◌, ◌^◌, ℕ, ℤ, pos, min, Bool, false, ◌&&◌, ◌||◌, ◌==◌, nat_lt, is_none, if◌then◌else◌, List, [], ◌∷◌, ◌++◌, map, filter, length, take, slice_get, Option, None, Some, option_map}
use Rattle.std.specs.List.{list_any}
use Rattle.std.specs.Ordering.{int_eq}
use Rattle.ac_syntax.specs.declared.tree.IndexExpr.{IndexExpr}
use Rattle.ac_syntax.specs.declared.tree.Array.{Array}
use Rattle.ac_syntax.specs.declared.tree.Slot.{Slot}
use Rattle.ac_syntax.specs.declared.tree.Slot.TheVariants as slot
use Rattle.ac_syntax.specs.declared.tree.Program.{Program}
use Rattle.ac_syntax.specs.declared.tree.Pair.{Pair}
use Rattle.ac_parse_rules.specs.DeclaredNumbers.{array_numbers}
use Rattle.ac_parse.specs.declared.faults.PairFault.{PairFault}
use Rattle.ac_parse.specs.declared.faults.PairFault.TheVariants.{Signature, NoOutput, Memory}
use Rattle.ac_parse.specs.AssignedArrays.{assigns}

-- a coefficient, and those behind it if one of them is not 0
abbrev pub with_later : ℤ → List ℤ → List ℤ
with_later z [] = if int_eq z (pos 0) then [] else z ∷ []
with_later z (y ∷ ys) = z ∷ y ∷ ys

-- coefficients up to the last one that is not 0
abbrev pub significant : List ℤ → List ℤ
significant [] = []
significant (z ∷ zs) = with_later z (significant zs)

-- an extent as a form: its constant and its coefficients, wherever it stands in its text, and whatever parameters follow those
-- that it names
pub record Extent : Type 0 where
  pub constant : ℤ
  pub params : List ℤ

abbrev pub extent_of : IndexExpr → Extent
extent_of e = record { constant = e.konst; params = significant e.params }

-- an array without where it stands in its text: its name and its extents
pub record Shape : Type 0 where
  pub name : List ℕ
  pub extents : List Extent

abbrev pub shape_of : Array → Shape
shape_of array = record { name = array.name; extents = map extent_of array.extents }

-- what both programs must agree on at a place of the parameter list: the name of an integer, the shape of an array
pub data Parameter : Type 0 where
  integer_named : Option (List ℕ) → Parameter
  array_shaped : Option Shape → Parameter

abbrev pub parameter_at : Program → Slot → Parameter
parameter_at program (slot.Param k) = integer_named (slice_get program.params k)
parameter_at program (slot.Array k) = array_shaped (option_map shape_of (slice_get program.arrays k))

abbrev pub signature : Program → List Parameter
signature program = map (parameter_at program) program.slots

-- the lists agree before this place and not at it; a list that has ended has nothing there
pub record IsFirstDifference {X : Type 0} (xs ys : List X) (place : ℕ) : Type 0 where
  pub before : take place xs ≡ take place ys
  pub differs : slice_get xs place ≢ slice_get ys place
  pub within : (place ≤ length xs) × (place ≤ length ys)

-- an output line names the array with this number
abbrev pub names_output : Option (List ℕ) → ℕ → Bool
names_output None number = false
names_output (Some numbers) number = list_any (λ other. other == number) numbers

abbrev pub has_extents : Option Array → Bool
has_extents None = false
has_extents (Some array) = nat_lt 0 (length array.extents)

-- without any output line, an array with extents that either file assigns
abbrev pub is_assigned_array : Program → Program → ℕ → Bool
is_assigned_array left right number =
    has_extents (slice_get left.arrays number) && (list_any (assigns number) left.body || list_any (assigns number) right.body)

-- an array that an output line of either file names, or one of those that stand for it
abbrev pub is_output : Program → Program → ℕ → Bool
is_output left right number =
    if is_none left.outputs && is_none right.outputs then is_assigned_array left right number
    else (names_output left.outputs number || names_output right.outputs number)

-- in the order of the parameter list
abbrev pub outputs_of : Program → Program → List ℕ
outputs_of left right = filter (is_output left right) (array_numbers left.slots)

-- the pair of two programs with one signature and some output: the context and the commutative names of both
pub record IsPairOf (left right : Program) (pair : Pair) : Type 0 where
  pub left_is : pair.left ≡ left
  pub right_is : pair.right ≡ right
  pub signatures : signature left ≡ signature right
  pub context : pair.context.parts ≡ left.context.parts ++ right.context.parts
  pub commutative : pair.commutative ≡ left.commutative ++ right.commutative
  pub outputs : pair.outputs ≡ outputs_of left right
  pub some_output : outputs_of left right ≢ []

-- the number of a place, from 1, up to the last number of 32 bits
abbrev pub ordinal : ℕ → ℕ
ordinal place = min (place + 1) (2 ^ 32 - 1)

-- why two programs are no pair; want of memory says nothing of them
abbrev pub HasPairFault : Program → Program → PairFault → Type 0
HasPairFault left right (Signature number) = (place : ℕ) × IsFirstDifference (signature left) (signature right) place × (number ≡ ordinal place)
HasPairFault left right NoOutput = (signature left ≡ signature right) × (outputs_of left right ≡ [])
HasPairFault left right (Memory fault) = Unit {0}
