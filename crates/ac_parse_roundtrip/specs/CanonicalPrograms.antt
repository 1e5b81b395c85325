-- Programs whose canonical text the rules read back: the names that their text declares, and what holds of these.
use Rattle.std.specs.Prelude.{◌≡◌, ◌≤◌, ◌<◌, ◌+◌, ◌||◌, nat_lt, ℕ, Bool, false, List, [], ◌∷◌, ◌++◌, map, take, length, Option, Some, None, slice_get}
use Rattle.std.specs.List.{AllByRecursion, list_any}
use Rattle.ac_syntax.specs.Quotients.{noted_form, noted_subs, noted_parts, noted_value}
use Rattle.ac_syntax.specs.declared.tree.Quot.{Quot}
use Rattle.ac_syntax.specs.declared.tree.Kind.{Kind}
use Rattle.ac_syntax.specs.declared.tree.Kind.TheVariants.{Input, Local}
use Rattle.ac_syntax.specs.declared.tree.Array.{Array}
use Rattle.ac_syntax.specs.declared.tree.Slot.{Slot}
use Rattle.ac_syntax.specs.declared.tree.Slot.TheVariants as slot
use Rattle.ac_syntax.specs.declared.tree.Program.{Program}
use Rattle.ac_syntax.specs.declared.tree.Stmt.{Stmt, Row_of-Stmt, end_of-Stmt, more_of-Stmt}
use Rattle.ac_syntax.specs.declared.tree.Stmt.TheVariants.{For', If', Assign}
use Rattle.ac_syntax.specs.Text.{whole_scope, array_name, name_or_none}
use Rattle.ac_parse_exprs.specs.declared.scope.Meaning.{Meaning}
use Rattle.ac_parse_exprs.specs.declared.scope.Meaning.TheVariants as means
use Rattle.ac_parse_exprs.specs.declared.scope.Entry.{Entry}
use Rattle.ac_parse_exprs.specs.Meanings.{declared_meaning}
use Rattle.ac_parse_rules.specs.Declarations.{is_declared, fixed_scope}
use Rattle.ac_parse_rules.specs.Files.{body_scope}
use Rattle.ac_parse_roundtrip.specs.CanonicalTrees.{locals}
use Rattle.ac_parse_roundtrip.specs.ReadableStatements.{IsReadableStmt}
use Rattle.ac_parse_roundtrip.specs.ColumnNames.{FitScope, PartsFitScope}

-- ---- the names that a canonical text declares

abbrev pub array_entry : ℕ → Array → Entry
array_entry k array = record { name = array.name; meaning = means.Array k (length array.extents) }

abbrev pub entry_at : ℕ → Option Array → Entry
entry_at k None = record { name = []; meaning = means.Array k 0 }
entry_at k (Some array) = array_entry k array

abbrev pub slot_entry : Program → Slot → Entry
slot_entry p (slot.Param k) = record { name = name_or_none (slice_get p.params k); meaning = means.Parameter k }
slot_entry p (slot.Array k) = entry_at k (slice_get p.arrays k)

-- arrays that are numbered from k on
abbrev pub entries_from : ℕ → List Array → List Entry
entries_from k [] = []
entries_from k (array ∷ arrays) = array_entry k array ∷ entries_from (k + 1) arrays

-- those of the parameter list, and then the locals, behind so many inputs
abbrev pub declared : Program → ℕ → List Entry
declared p inputs = map (slot_entry p) p.slots ++ entries_from inputs (locals p.arrays)

-- ---- what holds of them

abbrev pub IsFew : Meaning → Type 0
IsFew (means.Parameter k) = k ≤ 3
IsFew (means.Iterator k) = Unit {0}
IsFew (means.Array k dimensions) = k ≤ 31
IsFew means.LoopName = Unit {0}
IsFew means.OwnStart = Unit {0}
IsFew means.Nothing = Unit {0}

-- the declaration with the number i: declared once, and one of few
pub record FitsDeclaration (names : List Entry) (i : ℕ) (e : Entry) : Type 0 where
  pub new : is_declared (take i names) e.name ≡ false
  pub means : declared_meaning names e.name ≡ e.meaning
  pub few : IsFew e.meaning

abbrev pub DeclarationsFit : List Entry → ℕ → List Entry → Type 0
DeclarationsFit names i [] = Unit {0}
DeclarationsFit names i (e ∷ es) = FitsDeclaration names i e × DeclarationsFit names (i + 1) es

-- an array that is the declaration with the number i: its extents see the names before it
pub record FitsArray (p : Program) (names : List Entry) (expected : Kind) (i : ℕ) (array : Array) : Type 0 where
  pub kind : array.kind ≡ expected
  pub few : length array.extents ≤ 4
  pub extents : FitScope (take i names) (fixed_scope (length p.params)) (whole_scope p) array.extents

-- the slots from the number i on are the integers from k on and the inputs from a on, in order
abbrev pub SlotsFit : Program → List Entry → ℕ → ℕ → ℕ → List Slot → List (List ℕ) → List Array → Type 0
SlotsFit p names i k a [] [] [] = Unit {0}
SlotsFit p names i k a [] [] (x ∷ xs) = ⊥
SlotsFit p names i k a [] (n ∷ ns) xs = ⊥
SlotsFit p names i k a (slot.Param j ∷ ss) [] xs = ⊥
SlotsFit p names i k a (slot.Param j ∷ ss) (n ∷ ns) xs = (j ≡ k) × (slice_get p.params j ≡ Some n) × SlotsFit p names (i + 1) (k + 1) a ss ns xs
SlotsFit p names i k a (slot.Array j ∷ ss) ns [] = ⊥
SlotsFit p names i k a (slot.Array j ∷ ss) ns (x ∷ xs) = (j ≡ a) × (slice_get p.arrays j ≡ Some x) × FitsArray p names Input i x × SlotsFit p names (i + 1) k (a + 1) ss ns xs

abbrev pub LocalsFit : Program → List Entry → ℕ → List Array → Type 0
LocalsFit p names i [] = Unit {0}
LocalsFit p names i (x ∷ xs) = FitsArray p names Local i x × LocalsFit p names (i + 1) xs

-- an output is an input with dimensions
pub record FitsOutput (names : List Entry) (arrays : List Array) (inputs : ℕ) (k : ℕ) : Type 0 where
  pub dimensions : ℕ
  pub means : declared_meaning names (array_name (slice_get arrays k)) ≡ means.Array k dimensions
  pub input : k < inputs
  pub some : 0 < dimensions

abbrev pub OutputsFit : List Entry → List Array → ℕ → Option (List ℕ) → Type 0
OutputsFit names arrays inputs None = Unit {0}
OutputsFit names arrays inputs (Some outputs) = AllByRecursion (FitsOutput names arrays inputs) outputs

-- how many assignments there are
unfoldable mutual
  pub assignments : Stmt → ℕ
  assignments (For' iter start cond step n body place) = assignments_in body
  assignments (If' cond n taken m other place) = assignments_in taken + assignments_in other
  assignments (Assign array subs v place) = 1

  pub assignments_in : {m : _} → Row_of-Stmt m → ℕ
  assignments_in end_of-Stmt = 0
  assignments_in (more_of-Stmt s rest) = assignments s + assignments_in rest

abbrev pub all_assignments : List Stmt → ℕ
all_assignments [] = 0
all_assignments (s ∷ ss) = assignments s + all_assignments ss

-- an assignment has more than 8 quotients, with those of what stands around
unfoldable mutual
  pub is_crowded : List Quot → Stmt → Bool
  is_crowded seen (For' iter start cond step n body place) = is_crowded_in (noted_parts (noted_form seen start) cond.parts) body
  is_crowded seen (If' cond n taken m other place) = is_crowded_in (noted_parts seen cond.parts) taken || is_crowded_in (noted_parts seen cond.parts) other
  is_crowded seen (Assign array subs v place) = nat_lt 8 (length (noted_subs (noted_value seen v) subs))

  pub is_crowded_in : List Quot → {m : _} → Row_of-Stmt m → Bool
  is_crowded_in seen end_of-Stmt = false
  is_crowded_in seen (more_of-Stmt s rest) = is_crowded seen s || is_crowded_in seen rest

-- ---- the program

pub record IsReadableProgram (p : Program) : Type 0 where
  pub inputs : List Array
  pub arrays : p.arrays ≡ inputs ++ locals p.arrays
  pub declarations : DeclarationsFit (declared p (length inputs)) 0 (declared p (length inputs))
  pub slots : SlotsFit p (declared p (length inputs)) 0 0 0 p.slots p.params inputs
  pub locals : LocalsFit p (declared p (length inputs)) (length p.slots) (locals p.arrays)
  pub body : AllByRecursion (IsReadableStmt (declared p (length inputs)) (body_scope (length p.params)) (whole_scope p)) p.body
  pub few : all_assignments p.body ≤ 48
  pub uncrowded : list_any (is_crowded []) p.body ≡ false
  pub context : PartsFitScope (declared p (length inputs)) (fixed_scope (length p.params)) (whole_scope p) p.context.parts
  pub outputs : OutputsFit (declared p (length inputs)) p.arrays (length inputs) p.outputs
