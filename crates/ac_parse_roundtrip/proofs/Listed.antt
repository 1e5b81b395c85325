-- What the canonical text declares are the declarations of the file but for loop names.
use Rattle.std.proofs.Common.{◌≡◌, ℕ, ◌+◌, Bool, true, false, cond, List, [], ◌∷◌, ◌++◌, map, length, take, filter, refl, sym, ap, subst, ◌∙◌, arith, Some}
use Rattle.std.specs.Prelude.{not, if◌then◌else◌, slice_get}
use Rattle.std.proofs.lemmas.List.{append_assoc, length-append, length-map, map-append}
use Rattle.std.proofs.lemmas.List.Sums.{sum_by-cons}
use Rattle.ac_syntax.specs.Text.{name_or_none}
use Rattle.ac_syntax.specs.declared.tree.Array.{Array}
use Rattle.ac_syntax.specs.declared.tree.Kind.TheVariants.{Input, Local}
use Rattle.ac_syntax.specs.declared.tree.Program.{Program}
use Rattle.ac_syntax.specs.declared.tree.Slot.TheVariants as slot
use Rattle.ac_parse_grammar.specs.declared.tree.Declared.{Declared}
use Rattle.ac_parse_grammar.specs.declared.tree.Extent.{Extent}
use Rattle.ac_parse_grammar.specs.declared.tree.File.{File}
use Rattle.ac_parse_grammar.specs.declared.tree.Statement.{Statement}
use Rattle.ac_parse_exprs.specs.declared.scope.Entry.{Entry}
use Rattle.ac_parse_exprs.specs.declared.scope.Meaning.TheVariants as means
use Rattle.ac_parse_exprs.specs.declared.scope.Scope.{Scope}
use Rattle.ac_parse_exprs.specs.Comparisons.{index}
use Rattle.ac_parse_rules.specs.Declarations.{is_whole, is_loop_name, entry, count, param_count, input_count, param_entries, local_entries, each_declared_broken, array_of, arrays_from, slots_from, param_names}
use Rattle.ac_parse_rules.specs.Files.{names_of}
use Rattle.ac_parse_rules.specs.LawsOfNames.{declared_names}
use Rattle.ac_parse_exprs.proofs.Absent.{NoneBroken}
use Rattle.ac_parse_roundtrip.specs.CanonicalTrees.{locals}
use Rattle.ac_parse_roundtrip.specs.CanonicalPrograms.{slot_entry, entry_at, entries_from}
use Rattle.ac_parse_roundtrip.proofs.ReadableDeclarations.{none_more, get_seam}
use Rattle.ac_parse_roundtrip.proofs.Plain.{plain}

-- ---- names and lengths

params_named : (ds : List Declared) (p a : ℕ) → map (λ (e : Entry). e.name) (param_entries ds p a) ≡ map (λ (d : Declared). d.name.name) ds
params_named [] p a = refl
params_named (d ∷ ds) p a = ap (λ ns. d.name.name ∷ ns) (params_named ds (p + count (is_whole d)) (a + count (not (is_whole d))))

locals_named : (body : List Statement) (ds : List Declared) (a : ℕ) → map (λ (e : Entry). e.name) (local_entries body ds a) ≡ map (λ (d : Declared). d.name.name) ds
locals_named body [] a = refl
locals_named body (d ∷ ds) a = ap (λ ns. d.name.name ∷ ns) (locals_named body ds (a + count (not (is_loop_name body d))))

pub all_named : (file : File) → map (λ (e : Entry). e.name) (names_of file) ≡ declared_names file
all_named file =
    map-append (λ (e : Entry). e.name) (param_entries file.params 0 0) (local_entries file.body file.locals (input_count file.params))
    ∙ rw (params_named file.params 0 0, locals_named file.body file.locals (input_count file.params)) (sym (map-append (λ (d : Declared). d.name.name) file.params file.locals))

pub as_many : (ds : List Declared) (p a : ℕ) → length (param_entries ds p a) ≡ length ds
as_many [] p a = refl
as_many (d ∷ ds) p a = let r = as_many ds (p + count (is_whole d)) (a + count (not (is_whole d))) in omega (arith, r)

pub params_counted : (ds : List Declared) → length (param_names ds) ≡ param_count ds
params_counted [] = refl
params_counted (d ∷ ds) = by (is_whole d) (params_counted ds) ∙ sym (sum_by-cons (λ (x : Declared). cond (is_whole x) 1 0) d ds)
  where
    by : (b : Bool) → length (param_names ds) ≡ param_count ds → length (map (λ (x : Declared). x.name.name) (cond b (d ∷ filter is_whole ds) (filter is_whole ds))) ≡ cond b 1 0 + param_count ds
    by true e = omega (arith, e)
    by false e = omega (arith, e)

-- declarations in two lists, the second behind the first
pub one_list : (names : List Entry) (scope : Scope) (k : ℕ) (xs ys : List Declared) → NoneBroken (each_declared_broken names scope k xs) → NoneBroken (each_declared_broken names scope (k + length xs) ys)
    → NoneBroken (each_declared_broken names scope k (xs ++ ys))
one_list names scope k [] ys h l = let e : k + 0 ≡ k = omega arith in subst (λ n. NoneBroken (each_declared_broken names scope n ys)) e l
one_list names scope k (x ∷ xs) ys h l =
    let e : k + length (x ∷ xs) ≡ (k + 1) + length xs = omega arith in
    (h.0, one_list names scope (k + 1) xs ys h.1 (subst (λ n. NoneBroken (each_declared_broken names scope n ys)) e l))

-- ---- the parameter list

module _ (p : Program) (names : List Entry) (scope : Scope) where
  pub slots_listed : (rest : List Array) (ds : List Declared) (k : ℕ) (ps : List (List ℕ)) (before : List Array) → p.params ≡ ps ++ param_names ds
      → p.arrays ≡ before ++ (arrays_from names scope Input is_whole k ds ++ rest) → map (slot_entry p) (slots_from ds (length ps) (length before)) ≡ plain (param_entries ds (length ps) (length before))
  slots_listed rest [] k ps before e f = refl
  slots_listed rest (d ∷ ds) k ps before e f = by (is_whole d) (λ k ps before. slots_listed rest ds k ps before) e f
    where
      by : (b : Bool)
          → ((k : ℕ) (ps : List (List ℕ)) (before : List Array) → p.params ≡ ps ++ param_names ds → p.arrays ≡ before ++ (arrays_from names scope Input is_whole k ds ++ rest)
          → map (slot_entry p) (slots_from ds (length ps) (length before)) ≡ plain (param_entries ds (length ps) (length before)))
          → p.params ≡ ps ++ map (λ (d : Declared). d.name.name) (cond b (d ∷ filter is_whole ds) (filter is_whole ds))
          → p.arrays ≡ before ++ ((if b then arrays_from names scope Input is_whole (k + 1) ds else array_of names scope Input k d ∷ arrays_from names scope Input is_whole (k + 1) ds) ++ rest)
          → map (slot_entry p) ((if b then slot.Param (length ps) else slot.Array (length before)) ∷ slots_from ds (length ps + count b) (length before + count (not b)))
          ≡ plain (entry d (if b then means.Parameter (length ps) else means.Array (length before) (length d.extents)) ∷ param_entries ds (length ps + count b) (length before + count (not b)))
      by true again e f =
          let n = d.name.name in
          let l : length (ps ++ n ∷ []) ≡ length ps + 1 = length-append ps (n ∷ []) in
          let z : length before ≡ length before + 0 = sym (none_more (length before)) in
          let g : slice_get p.params (length ps) ≡ Some n = ap (λ xs. slice_get xs (length ps)) e ∙ get_seam ps n (param_names ds) in
          let r = again (k + 1) (ps ++ n ∷ []) before (e ∙ sym (append_assoc ps (n ∷ []) (param_names ds))) f in
          let s = subst (λ a. map (slot_entry p) (slots_from ds (length ps + 1) a) ≡ plain (param_entries ds (length ps + 1) a)) z
          (subst (λ q. map (slot_entry p) (slots_from ds q (length before)) ≡ plain (param_entries ds q (length before))) l r) in
          ap (λ o. record { name = name_or_none o; meaning = means.Parameter (length ps) } ∷ map (slot_entry p) (slots_from ds (length ps + 1) (length before + 0))) g
          ∙ ap (λ es. entry d (means.Parameter (length ps)) ∷ es) s
      by false again e f =
          let x = array_of names scope Input k d in
          let more = arrays_from names scope Input is_whole (k + 1) ds ++ rest in
          let l : length (before ++ x ∷ []) ≡ length before + 1 = length-append before (x ∷ []) in
          let z : length ps ≡ length ps + 0 = sym (none_more (length ps)) in
          let g : slice_get p.arrays (length before) ≡ Some x = ap (λ xs. slice_get xs (length before)) f ∙ get_seam before x more in
          let m : length x.extents ≡ length d.extents = length-map d.extents (λ (extent : Extent). index (take k names) scope extent.size) in
          let r = again (k + 1) ps (before ++ x ∷ []) e (f ∙ sym (append_assoc before (x ∷ []) more)) in
          let s = subst (λ q. map (slot_entry p) (slots_from ds q (length before + 1)) ≡ plain (param_entries ds q (length before + 1))) z
          (subst (λ a. map (slot_entry p) (slots_from ds (length ps) a) ≡ plain (param_entries ds (length ps) a)) l r) in
          ap (λ o. entry_at (length before) o ∷ map (slot_entry p) (slots_from ds (length ps + 0) (length before + 1))) g
          ∙ ap (λ j. entry d (means.Array (length before) j) ∷ map (slot_entry p) (slots_from ds (length ps + 0) (length before + 1))) m
          ∙ ap (λ es. entry d (means.Array (length before) (length d.extents)) ∷ es) s

-- ---- locals

module _ (names : List Entry) (scope : Scope) where
  pub locals_listed : (body : List Statement) (ds : List Declared) (k a : ℕ) → entries_from a (arrays_from names scope Local (is_loop_name body) k ds) ≡ plain (local_entries body ds a)
  locals_listed body [] k a = refl
  locals_listed body (d ∷ ds) k a = by (is_loop_name body d) (λ k a. locals_listed body ds k a)
    where
      by : (b : Bool) → ((k a : ℕ) → entries_from a (arrays_from names scope Local (is_loop_name body) k ds) ≡ plain (local_entries body ds a))
          → entries_from a (if b then arrays_from names scope Local (is_loop_name body) (k + 1) ds else array_of names scope Local k d ∷ arrays_from names scope Local (is_loop_name body) (k + 1) ds)
          ≡ plain (entry d (if b then means.LoopName else means.Array a (length d.extents)) ∷ local_entries body ds (a + count (not b)))
      by true again = again (k + 1) a ∙ ap (λ i. plain (local_entries body ds i)) (sym (none_more a))
      by false again =
          let x = array_of names scope Local k d in
          let m : length x.extents ≡ length d.extents = length-map d.extents (λ (extent : Extent). index (take k names) scope extent.size) in
          ap (λ j. entry d (means.Array a j) ∷ entries_from (a + 1) (arrays_from names scope Local (is_loop_name body) (k + 1) ds)) m
          ∙ ap (λ es. entry d (means.Array a (length d.extents)) ∷ es) (again (k + 1) (a + 1))

  pub inputs_no_locals : (ys : List Array) (ds : List Declared) (k : ℕ) → locals (arrays_from names scope Input is_whole k ds ++ ys) ≡ locals ys
  inputs_no_locals ys [] k = refl
  inputs_no_locals ys (d ∷ ds) k = by (is_whole d) (inputs_no_locals ys ds (k + 1))
    where
      by : (b : Bool) → locals (arrays_from names scope Input is_whole (k + 1) ds ++ ys) ≡ locals ys
          → locals ((if b then arrays_from names scope Input is_whole (k + 1) ds else array_of names scope Input k d ∷ arrays_from names scope Input is_whole (k + 1) ds) ++ ys) ≡ locals ys
      by true again = again
      by false again = again

  pub locals_all : (skipped : Declared → Bool) (ds : List Declared) (k : ℕ) → locals (arrays_from names scope Local skipped k ds) ≡ arrays_from names scope Local skipped k ds
  locals_all skipped [] k = refl
  locals_all skipped (d ∷ ds) k = by (skipped d) (locals_all skipped ds (k + 1))
    where
      by : (b : Bool) → locals (arrays_from names scope Local skipped (k + 1) ds) ≡ arrays_from names scope Local skipped (k + 1) ds
          → locals (if b then arrays_from names scope Local skipped (k + 1) ds else array_of names scope Local k d ∷ arrays_from names scope Local skipped (k + 1) ds)
          ≡ (if b then arrays_from names scope Local skipped (k + 1) ds else array_of names scope Local k d ∷ arrays_from names scope Local skipped (k + 1) ds)
      by true again = again
      by false again = ap (λ xs. array_of names scope Local k d ∷ xs) again
