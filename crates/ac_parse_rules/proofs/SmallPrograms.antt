-- The program of a file that breaks no rule has small numbers, few parameters and few loops around a statement.
use Rattle.std.proofs.Common.{◌≡◌, ℕ, ◌+◌, ◌≤◌, Bool, true, false, List, [], ◌∷◌, ◌++◌, length, take, nat_lt, nat_eq, None, refl, sym, ap, subst, ◌∙◌, arith}
use Rattle.std.specs.Prelude.{◌||◌, not, if◌then◌else◌, cond}
use Rattle.std.specs.List.{AllByRecursion}
use Rattle.std.specs.Cmp.Lexicographic.{pointwise, other_text}
use Rattle.std.proofs.Math.Seq.{take-append_seam}
use Rattle.std.proofs.lemmas.Bool.Decides.{nat_tests}
use Rattle.std.proofs.lemmas.List.{append_assoc, length-append}
use Rattle.std.proofs.lemmas.List.Sums.{sum_by-cons}
use Rattle.ac_syntax.specs.Small.{IsSmallForm, AreSmallForms, IsSmallProgram}
use Rattle.ac_syntax.specs.declared.tree.Array.{Array}
use Rattle.ac_syntax.specs.declared.tree.Kind.{Kind}
use Rattle.ac_syntax.specs.declared.tree.Place.{Place}
use Rattle.ac_syntax.specs.declared.tree.Kind.TheVariants.{Input, Local}
use Rattle.ac_parse_grammar.specs.declared.tree.Declared.{Declared}
use Rattle.ac_parse_grammar.specs.declared.tree.Extent.{Extent}
use Rattle.ac_parse_grammar.specs.declared.tree.File.{File}
use Rattle.ac_parse_exprs.specs.declared.fault.Which.TheVariants as which
use Rattle.ac_parse_exprs.specs.declared.fault.Rule.TheVariants.{Duplicate, Limit}
use Rattle.ac_parse_exprs.specs.declared.scope.Meaning.{Meaning}
use Rattle.ac_parse_exprs.specs.declared.scope.Meaning.TheVariants as means
use Rattle.ac_parse_exprs.specs.declared.scope.Entry.{Entry}
use Rattle.ac_parse_exprs.specs.declared.scope.Scope.{Scope}
use Rattle.ac_parse_exprs.specs.FaultOrder.{earlier, broken_where}
use Rattle.ac_parse_exprs.specs.Meanings.{declared_meaning}
use Rattle.ac_parse_exprs.specs.Comparisons.{first_of, index}
use Rattle.ac_parse_rules.specs.Declarations.{is_whole, is_loop_name, entry, count, param_meaning, param_entries, local_entries, param_count, input_count, fixed_scope, is_declared, count_broken, dimensions_broken, extents_broken, name_broken, declared_broken, each_declared_broken, array_of, arrays_from}
use Rattle.ac_parse_rules.specs.FewQuotients.{all_crowded}
use Rattle.ac_parse_rules.specs.Statements.{statements_broken}
use Rattle.ac_parse_rules.specs.Files.{body_scope, assignments_broken, declarations_broken, body_broken, pragmas_broken, context_parts, names_of, file_broken, program_of}
use Rattle.ac_parse_exprs.proofs.Absent.{NoneBroken, neither, none_of, not_where, each, each_map, each_append}
use Rattle.ac_parse_rules.proofs.EachArray.{arrays_have}
use Rattle.ac_parse_exprs.proofs.SmallForms.{Few, small_index, small_condition}
use Rattle.ac_parse_rules.proofs.UnbrokenParts.{context_unbroken}
use Rattle.ac_parse_rules.proofs.SmallStatements.{small_statements}

-- a name that is not declared before means what is declared behind
behind : (before es : List Entry) (name : List ℕ) → is_declared before name ≡ false → declared_meaning (before ++ es) name ≡ declared_meaning es name
behind [] es name h = refl
behind (b ∷ bs) es name h = by (pointwise nat_eq b.name name) h (behind bs es name)
  where
    by : (t : Bool) → (t || is_declared bs name) ≡ false → (is_declared bs name ≡ false → declared_meaning (bs ++ es) name ≡ declared_meaning es name) → (if t then b.meaning else declared_meaning (bs ++ es) name) ≡ declared_meaning es name
    by true h k = absurd cc
    by false h k = k h

-- a name is itself
pub same_name : (name : List ℕ) → pointwise nat_eq name name ≡ true
same_name name = by (pointwise nat_eq name name) refl
  where
    by : (b : Bool) → pointwise nat_eq name name ≡ b → b ≡ true
    by true e = refl
    by false e = absurd (other_text name name (sym e) refl)

first_meaning : (d : Declared) (m : Meaning) (es : List Entry) → declared_meaning (entry d m ∷ es) d.name.name ≡ m
first_meaning d m es = ap (λ b. if b then m else declared_meaning es d.name.name) (same_name d.name.name)

-- what a declaration means
own_meaning : (before es : List Entry) (d : Declared) (m : Meaning) → is_declared before d.name.name ≡ false → declared_meaning (before ++ (entry d m ∷ es)) d.name.name ≡ m
own_meaning before es d m h = behind before (entry d m ∷ es) d.name.name h ∙ first_meaning d m es

counted : (d : Declared) (ds : List Declared) → param_count (d ∷ ds) ≡ count (is_whole d) + param_count ds
counted d ds = sum_by-cons (λ (x : Declared). cond (is_whole x) 1 0) d ds

whole_few : (d : Declared) (p a : ℕ) (place : Place) → p ≤ 4 → count_broken (param_meaning d p a) place ≡ None → p + count (is_whole d) ≤ 4
whole_few d p a place h e = by (is_whole d) e
  where
    by : (b : Bool) → count_broken (if b then means.Parameter p else means.Array a (length d.extents)) place ≡ None → p + count b ≤ 4
    by true e = let n : nat_lt 3 p ≡ false = not_where (nat_lt 3 p) (Limit which.Parameters) place e in grind (arith, nat_tests)
    by false e = omega (arith, h)

pub names_none : (names : List Entry) (scope : Scope) (k : ℕ) (d : Declared) → declared_broken names scope k d ≡ None
    → (is_declared (take k names) d.name.name ≡ false) × (count_broken (declared_meaning names d.name.name) d.name.place ≡ None)
names_none names scope k d h =
    let a = neither (name_broken names k d) (earlier (dimensions_broken d.extents) (extents_broken (take k names) scope d.extents)) h in
    let c = neither (broken_where (is_declared (take k names) d.name.name) Duplicate d.name.place) (count_broken (declared_meaning names d.name.name) d.name.place) a.0 in
    (not_where (is_declared (take k names) d.name.name) Duplicate d.name.place c.0, c.1)

-- parameters that break no rule, behind p integers, make at most 4 of them
few_params : (scope : Scope) (before : List Entry) (ds : List Declared) (tail : List Entry) (p a : ℕ) → p ≤ 4
    → NoneBroken (each_declared_broken (before ++ (param_entries ds p a ++ tail)) scope (length before) ds) → p + param_count ds ≤ 4
few_params scope before [] tail p a l h = omega (arith, l)
few_params scope before (d ∷ ds) tail p a l h =
    let rest = param_entries ds (p + count (is_whole d)) (a + count (not (is_whole d))) ++ tail in
    let names = before ++ (entry d (param_meaning d p a) ∷ rest) in
    let n = names_none names scope (length before) d h.0 in
    let t : is_declared before d.name.name ≡ false = subst (λ es. is_declared es d.name.name ≡ false) (take-append_seam before (entry d (param_meaning d p a) ∷ rest)) n.0 in
    let c : count_broken (param_meaning d p a) d.name.place ≡ None = subst (λ m. count_broken m d.name.place ≡ None) (own_meaning before rest d (param_meaning d p a) t) n.1 in
    let w = whole_few d p a d.name.place l c in
    let s : names ≡ (before ++ entry d (param_meaning d p a) ∷ []) ++ rest = sym (append_assoc before (entry d (param_meaning d p a) ∷ []) rest) in
    let k : length before + 1 ≡ length (before ++ entry d (param_meaning d p a) ∷ []) = sym (length-append before (entry d (param_meaning d p a) ∷ [])) in
    let r = few_params scope (before ++ entry d (param_meaning d p a) ∷ []) ds tail (p + count (is_whole d)) (a + count (not (is_whole d))) w
    (subst (λ i. NoneBroken (each_declared_broken ((before ++ entry d (param_meaning d p a) ∷ []) ++ rest) scope i ds)) k (subst (λ es. NoneBroken (each_declared_broken es scope (length before + 1) ds)) s h.1)) in
    omega (arith, r, counted d ds)

-- arrays
abbrev SmallExtents : Array → Type 0
SmallExtents a = AreSmallForms a.extents

module _ (names : List Entry) (scope : Scope) (kind : Kind) (few : Few scope) where
  small_array : (k : ℕ) (d : Declared) → SmallExtents (array_of names scope kind k d)
  small_array k d =
      each_map (λ (extent : Extent). index (take k names) scope extent.size) IsSmallForm d.extents
      (each (λ (extent : Extent). IsSmallForm (index (take k names) scope extent.size)) (λ extent. small_index (take k names) scope few extent.size) d.extents)

  small_arrays : (skipped : Declared → Bool) (k : ℕ) (ds : List Declared) → AllByRecursion SmallExtents (arrays_from names scope kind skipped k ds)
  small_arrays = arrays_have SmallExtents names scope kind small_array

-- the whole
params_few : (file : File) → declarations_broken (names_of file) file ≡ None → param_count file.params ≤ 4
params_few file h =
    let scope = fixed_scope (param_count file.params) in
    let names = names_of file in
    let e = neither (first_of (each_declared_broken names scope 0 file.params)) (first_of (each_declared_broken names scope (length file.params) file.locals)) h in
    let f = none_of (each_declared_broken names scope 0 file.params) e.0 in
    let n = few_params scope [] file.params (local_entries file.body file.locals (input_count file.params)) 0 0 (omega arith) f in
    omega (arith, n)

pub small_program : (file : File) → file_broken file ≡ None → IsSmallProgram (program_of file)
small_program file h =
    let names = names_of file in
    let a = neither (declarations_broken names file) (earlier (body_broken names file) (pragmas_broken names file)) h in
    let b = neither (body_broken names file) (pragmas_broken names file) a.1 in
    let s = neither (statements_broken names (body_scope (param_count file.params)) file.body) (earlier (assignments_broken file.body) (all_crowded names (body_scope (param_count file.params)) [] file.body)) b.0 in
    let n = params_few file a.0 in
    let inside : Few (body_scope (param_count file.params)) = record { params = n; loops = omega arith } in
    let fixed : Few (fixed_scope (param_count file.params)) = record { params = n; loops = omega arith } in record {
      body = small_statements names (body_scope (param_count file.params)) file.body inside s.0;
      context = small_condition names (fixed_scope (param_count file.params)) fixed (context_parts file.pragmas) (context_unbroken names (fixed_scope (param_count file.params)) (input_count file.params) file.pragmas b.1);
      extents = each_append SmallExtents _ _ (small_arrays names (fixed_scope (param_count file.params)) Input fixed is_whole 0 file.params) (small_arrays names (fixed_scope (param_count file.params)) Local fixed (is_loop_name file.body) (length file.params) file.locals);
    }
