-- The numbers of the declared parameters and arrays.
use Rattle.std.proofs.Common.{◌≡◌, ℕ, ◌+◌, ◌<◌, ◌≤◌, Bool, true, false, List, [], ◌∷◌, ◌++◌, map, length, refl, sym, ap, subst, ◌∙◌, arith, length-append}
use Rattle.std.specs.Prelude.{Option, Some, None, not, cond, if◌then◌else◌}
use Rattle.std.specs.List.{AllByRecursion, range_with_len, list_all, filter}
use Rattle.std.proofs.lemmas.List.{append_assoc}
use Rattle.std.proofs.lemmas.List.Sums.{sum_by-cons}
use Rattle.ac_syntax.specs.Outputs.{is_input_kind, input_at}
use Rattle.ac_syntax.specs.declared.tree.Kind.TheVariants.{Input, Local}
use Rattle.ac_syntax.specs.declared.tree.Array.{Array}
use Rattle.ac_syntax.specs.declared.tree.Slot.{Slot}
use Rattle.ac_syntax.specs.declared.tree.Slot.TheVariants as slot
use Rattle.ac_syntax.specs.declared.tree.Program.{Program}
use Rattle.ac_parse_grammar.specs.declared.tree.Declared.{Declared}
use Rattle.ac_parse_grammar.specs.declared.tree.Statement.{Statement}
use Rattle.ac_parse_grammar.specs.declared.tree.File.{File}
use Rattle.ac_parse_exprs.specs.declared.scope.Meaning.{Meaning}
use Rattle.ac_parse_exprs.specs.declared.scope.Meaning.TheVariants as means
use Rattle.ac_parse_exprs.specs.declared.scope.Entry.{Entry}
use Rattle.ac_parse_exprs.specs.declared.scope.Scope.{Scope}
use Rattle.ac_parse_exprs.specs.Meanings.{declared_meaning, meaning, meaning_behind, iterator_number, is_starting}
use Rattle.ac_parse_rules.specs.Declarations.{is_whole, is_loop_name, count, entry, param_entries, local_entries, input_count, fixed_scope, array_of, arrays_from, slots_from, param_names, param_count}
use Rattle.ac_parse_rules.specs.DeclaredNumbers.{IsSlotOf, param_numbers, array_numbers, ListsItsParameters, HasInputs}
use Rattle.ac_parse_rules.specs.Files.{arrays_under, names_of, program_under, program_of}
use Rattle.ac_parse_exprs.proofs.Absent.{each_append}
use Rattle.ac_parse_exprs.proofs.NumberedMeanings.{declared_has}

none_more : (n : ℕ) → n + 0 ≡ n
none_more n = omega arith

-- the integer parameters are numbered in order
numbered : (ds : List Declared) (p a : ℕ) → param_numbers (slots_from ds p a) ≡ range_with_len p (length (param_names ds))
numbered [] p a = refl
numbered (d ∷ ds) p a = by (is_whole d) (λ q b. numbered ds q b)
  where
    by : (b : Bool) → ((q b : ℕ) → param_numbers (slots_from ds q b) ≡ range_with_len q (length (param_names ds))) → param_numbers ((if b then slot.Param p else slot.Array a) ∷ slots_from ds (p + count b) (a + count (not b)))
        ≡ range_with_len p (length (map (λ (d : Declared). d.name.name) (cond b (d ∷ filter is_whole ds) (filter is_whole ds))))
    by true again = ap (λ ks. p ∷ ks) (again (p + 1) (a + 0))
    by false again = again (p + 0) (a + 1) ∙ ap (λ k. range_with_len k (length (param_names ds))) (none_more p)

pub lists_parameters : (file : File) → ListsItsParameters (program_of file)
lists_parameters file = numbered file.params 0 0

input_behind : (front rest : List Array) (x : Array) → is_input_kind x.kind ≡ true → input_at (front ++ (x ∷ rest)) (length front) ≡ true
input_behind [] rest x h = h
input_behind (y ∷ front) rest x h = input_behind front rest x h

one_more : (xs : List Array) (x : Array) → length (xs ++ x ∷ []) ≡ length xs + 1
one_more xs x = length-append xs (x ∷ [])

-- behind some arrays, the arrays of a parameter list are inputs
inputs_behind : (names : List Entry) (scope : Scope) (rest : List Array) (ds : List Declared) (front : List Array) (k p : ℕ)
    → list_all (input_at (front ++ (arrays_from names scope Input is_whole k ds ++ rest))) (array_numbers (slots_from ds p (length front))) ≡ true
inputs_behind names scope rest [] front k p = refl
inputs_behind names scope rest (d ∷ ds) front k p = by (is_whole d) (λ front k p. inputs_behind names scope rest ds front k p)
  where
    by : (b : Bool)
        → ((front : List Array) (k p : ℕ) → list_all (input_at (front ++ (arrays_from names scope Input is_whole k ds ++ rest))) (array_numbers (slots_from ds p (length front))) ≡ true)
        → list_all (input_at (front ++ ((if b then arrays_from names scope Input is_whole (k + 1) ds else array_of names scope Input k d ∷ arrays_from names scope Input is_whole (k + 1) ds) ++ rest)))
        (array_numbers ((if b then slot.Param p else slot.Array (length front)) ∷ slots_from ds (p + count b) (length front + count (not b)))) ≡ true
    by true again = rw (none_more (length front)) (again front (k + 1) (p + 1))
    by false again =
        let x = array_of names scope Input k d in
        let more = arrays_from names scope Input is_whole (k + 1) ds ++ rest in
        let h : input_at (front ++ (x ∷ more)) (length front) ≡ true = input_behind front more x refl in
        let i : list_all (input_at ((front ++ x ∷ []) ++ more)) (array_numbers (slots_from ds (p + 0) (length (front ++ x ∷ [])))) ≡ true = again (front ++ x ∷ []) (k + 1) (p + 0) in
        let j : list_all (input_at (front ++ (x ∷ more))) (array_numbers (slots_from ds (p + 0) (length front + 1))) ≡ true =
        subst (λ n. list_all (input_at (front ++ (x ∷ more))) (array_numbers (slots_from ds (p + 0) n)) ≡ true) (one_more front x)
        (subst (λ xs. list_all (input_at xs) (array_numbers (slots_from ds (p + 0) (length (front ++ x ∷ [])))) ≡ true) (append_assoc front (x ∷ []) more) i) in
        rw (h, j) refl

pub has_inputs : (file : File) → HasInputs (program_of file)
has_inputs file =
    inputs_behind (names_of file) (fixed_scope (param_count file.params)) (arrays_from (names_of file) (fixed_scope (param_count file.params)) Local (is_loop_name file.body) (length file.params) file.locals) file.params [] 0 0

-- the program that is made of the file
pub parameters_listed : (file : File) (names : List Entry) (program : Program) → names ≡ names_of file → program ≡ program_under names file → ListsItsParameters program
parameters_listed file names program e h = subst ListsItsParameters (sym (h ∙ ap (λ ns. program_under ns file) e)) (lists_parameters file)

pub inputs_had : (file : File) (names : List Entry) (program : Program) → names ≡ names_of file → program ≡ program_under names file → HasInputs program
inputs_had file names program e h = subst HasInputs (sym (h ∙ ap (λ ns. program_under ns file) e)) (has_inputs file)

-- a number below the number of the integer parameters or of the arrays
abbrev IsSlotBelow : ℕ → ℕ → Slot → Type 0
IsSlotBelow ps ns (slot.Param k) = k < ps
IsSlotBelow ps ns (slot.Array k) = k < ns

slots_below : (names : List Entry) (scope : Scope) (ps ns : ℕ) (ds : List Declared) (k p a : ℕ)
    → p + length (param_names ds) ≤ ps → a + length (arrays_from names scope Input is_whole k ds) ≤ ns → AllByRecursion (IsSlotBelow ps ns) (slots_from ds p a)
slots_below names scope ps ns [] k p a h l = tt
slots_below names scope ps ns (d ∷ ds) k p a h l = by (is_whole d) (λ k p a. slots_below names scope ps ns ds k p a) h l
  where
    by : (b : Bool)
        → ((k p a : ℕ) → p + length (param_names ds) ≤ ps → a + length (arrays_from names scope Input is_whole k ds) ≤ ns → AllByRecursion (IsSlotBelow ps ns) (slots_from ds p a))
        → p + length (map (λ (d : Declared). d.name.name) (cond b (d ∷ filter is_whole ds) (filter is_whole ds))) ≤ ps
        → a + length (if b then arrays_from names scope Input is_whole (k + 1) ds else array_of names scope Input k d ∷ arrays_from names scope Input is_whole (k + 1) ds) ≤ ns
        → AllByRecursion (IsSlotBelow ps ns) ((if b then slot.Param p else slot.Array a) ∷ slots_from ds (p + count b) (a + count (not b)))
    by true again h l = (omega arith, again (k + 1) (p + 1) (a + 0) (omega arith) (omega arith))
    by false again h l = (omega arith, again (k + 1) (p + 0) (a + 1) (omega arith) (omega arith))

slots_of : (file : File) (ss : List Slot) → AllByRecursion (IsSlotBelow (length (param_names file.params)) (length (arrays_under (names_of file) file))) ss → AllByRecursion (IsSlotOf (program_of file)) ss
slots_of file [] h = tt
slots_of file (slot.Param k ∷ ss) h = (h.0, slots_of file ss h.1)
slots_of file (slot.Array k ∷ ss) h = (h.0, slots_of file ss h.1)

pub has_slots : (file : File) → AllByRecursion (IsSlotOf (program_of file)) (slots_from file.params 0 0)
has_slots file =
    let scope = fixed_scope (param_count file.params) in
    let inputs = arrays_from (names_of file) scope Input is_whole 0 file.params in
    let locals = arrays_from (names_of file) scope Local (is_loop_name file.body) (length file.params) file.locals in
    let e : length (inputs ++ locals) ≡ length inputs + length locals = length-append inputs locals in
    slots_of file (slots_from file.params 0 0) (slots_below (names_of file) scope (length (param_names file.params)) (length (inputs ++ locals)) file.params 0 0 0 (omega arith) (omega (arith, e)))

-- a name that means an array means one of the first n
abbrev pub MeansBelow : ℕ → Meaning → Type 0
MeansBelow n (means.Parameter k) = Unit {0}
MeansBelow n (means.Iterator k) = Unit {0}
MeansBelow n (means.Array k dimensions) = k < n
MeansBelow n means.LoopName = Unit {0}
MeansBelow n means.OwnStart = Unit {0}
MeansBelow n means.Nothing = Unit {0}

abbrev pub NamesBelow : ℕ → List Entry → Type 0
NamesBelow n = AllByRecursion (λ (e : Entry). MeansBelow n e.meaning)

params_below : (names : List Entry) (scope : Scope) (n : ℕ) (ds : List Declared) (k p a : ℕ) → a + length (arrays_from names scope Input is_whole k ds) ≤ n → NamesBelow n (param_entries ds p a)
params_below names scope n [] k p a h = tt
params_below names scope n (d ∷ ds) k p a h = by (is_whole d) (λ k p a. params_below names scope n ds k p a) h
  where
    by : (b : Bool) → ((k p a : ℕ) → a + length (arrays_from names scope Input is_whole k ds) ≤ n → NamesBelow n (param_entries ds p a))
        → a + length (if b then arrays_from names scope Input is_whole (k + 1) ds else array_of names scope Input k d ∷ arrays_from names scope Input is_whole (k + 1) ds) ≤ n
        → NamesBelow n (entry d (if b then means.Parameter p else means.Array a (length d.extents)) ∷ param_entries ds (p + count b) (a + count (not b)))
    by true again h = (tt, again (k + 1) (p + 1) (a + 0) (omega arith))
    by false again h = (omega arith, again (k + 1) (p + 0) (a + 1) (omega arith))

locals_below : (names : List Entry) (scope : Scope) (body : List Statement) (n : ℕ) (ds : List Declared) (k a : ℕ)
    → a + length (arrays_from names scope Local (is_loop_name body) k ds) ≤ n → NamesBelow n (local_entries body ds a)
locals_below names scope body n [] k a h = tt
locals_below names scope body n (d ∷ ds) k a h = by (is_loop_name body d) (λ k a. locals_below names scope body n ds k a) h
  where
    by : (b : Bool) → ((k a : ℕ) → a + length (arrays_from names scope Local (is_loop_name body) k ds) ≤ n → NamesBelow n (local_entries body ds a))
        → a + length (if b then arrays_from names scope Local (is_loop_name body) (k + 1) ds else array_of names scope Local k d ∷ arrays_from names scope Local (is_loop_name body) (k + 1) ds) ≤ n
        → NamesBelow n (entry d (if b then means.LoopName else means.Array a (length d.extents)) ∷ local_entries body ds (a + count (not b)))
    by true again h = (tt, again (k + 1) (a + 0) (omega arith))
    by false again h = (omega arith, again (k + 1) (a + 1) (omega arith))

pub counted : (names : List Entry) (scope : Scope) (ds : List Declared) (k : ℕ) → length (arrays_from names scope Input is_whole k ds) ≡ input_count ds
counted names scope [] k = refl
counted names scope (d ∷ ds) k = by (is_whole d) (counted names scope ds (k + 1)) ∙ sym (sum_by-cons (λ (d : Declared). cond (not (is_whole d)) 1 0) d ds)
  where
    by : (b : Bool) → length (arrays_from names scope Input is_whole (k + 1) ds) ≡ input_count ds
        → length (if b then arrays_from names scope Input is_whole (k + 1) ds else array_of names scope Input k d ∷ arrays_from names scope Input is_whole (k + 1) ds) ≡ cond (not b) 1 0 + input_count ds
    by true i = omega (arith, i)
    by false i = omega (arith, i)

pub names_below : (file : File) → NamesBelow (length (arrays_under (names_of file) file)) (names_of file)
names_below file =
    let scope = fixed_scope (param_count file.params) in
    let inputs = arrays_from (names_of file) scope Input is_whole 0 file.params in
    let locals = arrays_from (names_of file) scope Local (is_loop_name file.body) (length file.params) file.locals in
    let e : length (inputs ++ locals) ≡ length inputs + length locals = length-append inputs locals in
    let c : length inputs ≡ input_count file.params = counted (names_of file) scope file.params 0 in
    each_append (λ (e : Entry). MeansBelow (length (inputs ++ locals)) e.meaning) (param_entries file.params 0 0) (local_entries file.body file.locals (input_count file.params))
    (params_below (names_of file) scope (length (inputs ++ locals)) file.params 0 0 0 (omega (arith, e)))
    (locals_below (names_of file) scope file.body (length (inputs ++ locals)) file.locals (length file.params) (input_count file.params) (omega (arith, e, c)))

-- what a name means in a scope
pub meaning_below : (n : ℕ) (names : List Entry) (scope : Scope) (name : List ℕ) → NamesBelow n names → MeansBelow n (meaning names scope name)
meaning_below n names scope name h = by (iterator_number scope.iterators name) (is_starting scope.starting name)
  where
    by : (k : Option ℕ) (own : Bool) → MeansBelow n (meaning_behind k own (declared_meaning names name))
    by (Some k) own = tt
    by None true = tt
    by None false = declared_has (MeansBelow n) tt names name h
