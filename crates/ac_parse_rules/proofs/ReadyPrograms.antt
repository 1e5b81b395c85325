-- The program of a file that breaks no rule is ready.
use Rattle.std.proofs.Common.{◌≡◌, ℕ, List, [], length, refl, ◌∙◌, sym, subst, Bool, true, filter, take, None}
use Rattle.std.specs.List.{AllByRecursion}
use Rattle.std.proofs.lemmas.List.{length-map}
use Rattle.std.proofs.lemmas.List.Sums.{length-filter}
use Rattle.ac_syntax.specs.ReadyPrograms.{Fits, AllFit, FitParts, ReadyAll, ReadyProgram}
use Rattle.ac_syntax.specs.declared.tree.Array.{Array}
use Rattle.ac_syntax.specs.declared.tree.Kind.{Kind}
use Rattle.ac_syntax.specs.declared.tree.Kind.TheVariants.{Input, Local}
use Rattle.ac_parse_grammar.specs.declared.tree.Declared.{Declared}
use Rattle.ac_parse_grammar.specs.declared.tree.Extent.{Extent}
use Rattle.ac_parse_grammar.specs.declared.tree.File.{File}
use Rattle.ac_parse_exprs.specs.declared.scope.Entry.{Entry}
use Rattle.ac_parse_exprs.specs.declared.scope.Scope.{Scope}
use Rattle.ac_parse_exprs.specs.FaultOrder.{earlier}
use Rattle.ac_parse_exprs.specs.Comparisons.{index}
use Rattle.ac_parse_rules.specs.Declarations.{is_whole, is_loop_name, param_count, input_count, fixed_scope, array_of, arrays_from, param_names}
use Rattle.ac_parse_rules.specs.FewQuotients.{all_crowded}
use Rattle.ac_parse_rules.specs.Statements.{statements_broken}
use Rattle.ac_parse_rules.specs.Files.{context_parts, body_scope, assignments_broken, declarations_broken, body_broken, pragmas_broken, arrays_under, body_under, context_under, names_of, file_broken, program_of}
use Rattle.ac_parse_rules.specs.DeclaredNumbers.{HasConditions}
use Rattle.ac_parse_exprs.proofs.Absent.{neither, each, each_map, each_append}
use Rattle.ac_parse_rules.proofs.EachArray.{arrays_have}
use Rattle.ac_parse_exprs.proofs.FittingForms.{fixed_index, fixed_parts}
use Rattle.ac_parse_rules.proofs.UnbrokenParts.{context_unbroken}
use Rattle.ac_parse_rules.proofs.ReadyStatements.{statements_ready}

length-param_names : (ds : List Declared) → length (param_names ds) ≡ param_count ds
length-param_names ds = length-map (filter is_whole ds) (λ d. d.name.name) ∙ length-filter is_whole ds

module _ (names : List Entry) (scope : Scope) (only : scope.fixed ≡ true) (kind : Kind) where
  abbrev ExtentsFit : Array → Type 0
  ExtentsFit a = AllFit scope.params (length scope.iterators) a.extents

  array_fits : (k : ℕ) (d : Declared) → ExtentsFit (array_of names scope kind k d)
  array_fits k d =
      each_map (λ (extent : Extent). index (take k names) scope extent.size) (Fits scope.params (length scope.iterators)) d.extents
      (each (λ (extent : Extent). Fits scope.params (length scope.iterators) (index (take k names) scope extent.size)) (λ extent. fixed_index (take k names) scope only extent.size) d.extents)

  arrays_fit : (skipped : Declared → Bool) (k : ℕ) (ds : List Declared) → AllByRecursion ExtentsFit (arrays_from names scope kind skipped k ds)
  arrays_fit = arrays_have ExtentsFit names scope kind array_fits

body_none : (names : List Entry) (file : File)
    → earlier (declarations_broken names file) (earlier (body_broken names file) (pragmas_broken names file)) ≡ None
    → (statements_broken names (body_scope (param_count file.params)) file.body ≡ None) × (pragmas_broken names file ≡ None)
body_none names file h =
    let n = neither (declarations_broken names file) (earlier (body_broken names file) (pragmas_broken names file)) h in
    let m = neither (body_broken names file) (pragmas_broken names file) n.1 in
    let i = neither (statements_broken names (body_scope (param_count file.params)) file.body) (earlier (assignments_broken file.body) (all_crowded names (body_scope (param_count file.params)) [] file.body)) m.0 in
    (i.0, m.1)

pub ready_program : (file : File) → file_broken file ≡ None → HasConditions file → ReadyProgram (program_of file)
ready_program file h c =
    let names = names_of file in
    let scope = fixed_scope (param_count file.params) in
    let e = sym (length-param_names file.params) in
    let n = body_none names file h in
    let b = statements_ready names (body_scope (param_count file.params)) file.body n.0 c in
    let p = fixed_parts names scope refl (context_parts file.pragmas) (context_unbroken names scope (input_count file.params) file.pragmas n.1) in
    let a = each_append (ExtentsFit names scope refl Input) (arrays_from names scope Input is_whole 0 file.params) (arrays_from names scope Local (is_loop_name file.body) (length file.params) file.locals)
    (arrays_fit names scope refl Input is_whole 0 file.params) (arrays_fit names scope refl Local (is_loop_name file.body) (length file.params) file.locals) in
    record {
      body = subst (λ n. ReadyAll n 0 (body_under names file)) e b;
      context = subst (λ n. FitParts n 0 (context_under names file)) e p;
      extents = subst (λ n. AllByRecursion (λ (a : Array). AllFit n 0 a.extents) (arrays_under names file)) e a;
    }
