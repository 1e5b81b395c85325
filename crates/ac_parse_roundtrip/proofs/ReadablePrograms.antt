-- The program of a text that breaks no rule is readable.
use Rattle.std.proofs.Common.{◌≡◌, ◌<◌, ◌+◌, ℕ, Bool, true, false, ◌&&◌, List, [], ◌∷◌, ◌++◌, map, length, nat_lt, nat_eq, refl, sym, ap, subst, ◌∙◌, arith, Some, None}
use Rattle.std.specs.Prelude.{slice_get, if◌then◌else◌}
use Rattle.std.specs.List.{AllByRecursion, IsDistinct}
use Rattle.std.specs.Cmp.Lexicographic.{pointwise}
use Rattle.std.proofs.lemmas.Bool.Decides.{nat_tests}
use Rattle.std.proofs.lemmas.List.{length-map}
use Rattle.ac_syntax.specs.Text.{whole_scope, array_name}
use Rattle.ac_syntax.specs.Text as text
use Rattle.ac_syntax.specs.declared.tree.Array.{Array}
use Rattle.ac_syntax.specs.declared.tree.Kind.TheVariants.{Input, Local}
use Rattle.ac_syntax.specs.declared.tree.Program.{Program}
use Rattle.ac_lex.specs.Lexemes.{Lexeme}
use Rattle.ac_parse_grammar.specs.declared.file.Function.{Function}
use Rattle.ac_parse_grammar.specs.declared.tree.File.{File}
use Rattle.ac_parse_grammar.specs.declared.tree.Pragma.{Pragma}
use Rattle.ac_parse_grammar.specs.declared.tree.Pragma.TheVariants.{Context, Commutative, Output}
use Rattle.ac_parse_grammar.specs.declared.tree.Statement.{Statement}
use Rattle.ac_parse_grammar.specs.declared.tree.Word.{Word}
use Rattle.ac_parse_grammar.specs.FileGrammar.{IsFunction, function, IsFile, file}
use Rattle.ac_parse_exprs.specs.declared.scope.Entry.{Entry}
use Rattle.ac_parse_exprs.specs.declared.scope.Meaning.{Meaning}
use Rattle.ac_parse_exprs.specs.declared.scope.Meaning.TheVariants as means
use Rattle.ac_parse_exprs.specs.declared.scope.Scope.{Scope}
use Rattle.ac_parse_exprs.specs.FaultOrder.{earlier}
use Rattle.ac_parse_exprs.specs.Comparisons.{first_of}
use Rattle.ac_parse_rules.specs.Declarations.{is_whole, is_loop_name, param_count, input_count, param_entries, local_entries, fixed_scope, each_declared_broken, arrays_from}
use Rattle.ac_parse_exprs.specs.FormValues.{IsNumbered}
use Rattle.ac_parse_rules.specs.LawsOfNames.{IsNamed}
use Rattle.ac_parse_exprs.specs.Meanings.{declared_meaning, iterator_number}
use Rattle.ac_parse_rules.specs.FewQuotients.{all_crowded}
use Rattle.ac_parse_rules.specs.Statements.{statements_broken, stmts}
use Rattle.ac_parse_exprs.specs.Values.{array_number}
use Rattle.ac_parse_rules.specs.Files.{context_parts, output_words, has_output_line, output_rule, output_broken, pragma_broken, output_numbers, output_line, body_scope, assignments_broken, declarations_broken, body_broken, pragmas_broken, context_under, names_of, file_broken, program_of}
use Rattle.ac_parse_exprs.proofs.Absent.{NoneBroken, neither, none_of, both_true}
use Rattle.ac_parse_exprs.proofs.NumberedMeanings.{declared_has}
use Rattle.ac_parse_rules.proofs.DeclaredNumbers.{counted}
use Rattle.ac_parse_rules.proofs.DeclaredOnce.{declared_once, names_mean_their_own}
use Rattle.ac_parse_rules.proofs.NumberedNames.{files_are_numbered}
use Rattle.ac_parse_rules.proofs.UnbrokenParts.{context_none}
use Rattle.ac_parse_roundtrip.specs.CanonicalTrees.{locals}
use Rattle.ac_parse_roundtrip.specs.ReadableStatements.{IsReadableStmt}
use Rattle.ac_parse_roundtrip.specs.CanonicalPrograms.{declared, slot_entry, entries_from, DeclarationsFit, SlotsFit, LocalsFit, FitsOutput, OutputsFit, IsReadableProgram}
use Rattle.ac_parse_roundtrip.specs.TokenSpelling.{AreSpelled}
use Rattle.ac_parse_roundtrip.proofs.Expressions.{front_spelled, rest_spelled}
use Rattle.ac_parse_roundtrip.proofs.TokenSpelling.{tokens_spelled}
use Rattle.ac_parse_roundtrip.specs.Readability.{ProgramsAreReadable}
use Rattle.ac_parse_roundtrip.proofs.Assignments.{few_assignments}
use Rattle.ac_parse_roundtrip.proofs.Crowding.{few_quotients}
use Rattle.ac_parse_roundtrip.proofs.ReadableDeclarations.{entries_fit, declarations_fit, locals_fit, slots_fit}
use Rattle.ac_parse_roundtrip.proofs.ReadableForms.{parts_fit}
use Rattle.ac_parse_roundtrip.proofs.Listed.{all_named, as_many, params_counted, one_list, slots_listed, locals_listed, inputs_no_locals, locals_all}
use Rattle.ac_parse_roundtrip.proofs.Plain.{plain, plain_append, kept_plain, new_plain, loop_plain}
use Rattle.ac_parse_roundtrip.proofs.Scopes.{Keeps, Leaves, Follows, carries}
use Rattle.ac_parse_roundtrip.proofs.ReadableStatements.{statements_readable}
use Rattle.ac_parse_roundtrip.proofs.ReadableValues.{no_rule, not_misused}
use Rattle.ac_parse_roundtrip.specs.ColumnNames.{PartsFitScope}

-- ---- the body of a file of the grammar

-- the statements that the rules make of a body that breaks none are readable, wherever its names are kept
abbrev IsReadableBody : List Statement → Type 0
IsReadableBody body = (p : Program) (names text_names : List Entry) → Keeps p names text_names → Leaves names text_names → (scope : Scope) (written : text.Scope) → scope.starting ≡ None → Follows p scope written
    → statements_broken names scope body ≡ None → AllByRecursion (IsReadableStmt text_names scope written) (stmts names scope body)

function_readable : {room : ℕ} {ts : List Lexeme} {f : Function} → IsFunction room ts f → AreSpelled ts → IsReadableBody f.body.statements
function_readable (function {n = n} c b d {ps = ps} {ds = ds} {ss = ss} void is opens params closes begins locals body ends) h p names text_names keeps leaves scope written starting follows none =
    let inner = rest_spelled ps (c ∷ b ∷ ds ++ (ss ++ d ∷ [])) h.1.1.1 in
    statements_readable p names text_names keeps leaves body (front_spelled ss (d ∷ []) (rest_spelled ds (ss ++ d ∷ []) inner.1.1)) scope written starting follows none

file_readable : {room : ℕ} {ts : List Lexeme} {f : File} → IsFile room ts f → AreSpelled ts → IsReadableBody f.body
file_readable (file {bs = bs} {fs = fs} {ts = ts} first is last) h = function_readable is (front_spelled fs ts (rest_spelled bs (fs ++ ts) h))

-- ---- pragma lines

-- an output that breaks no rule is an input with dimensions
output_array : (inputs : ℕ) (m : Meaning) → output_rule inputs m ≡ None → (k : ℕ) × (dimensions : ℕ) × (m ≡ means.Array k dimensions) × (k < inputs) × (0 < dimensions)
output_array inputs (means.Parameter k) h = absurd cc
output_array inputs (means.Iterator k) h = absurd cc
output_array inputs (means.Array k dimensions) h =
    let b = both_true (nat_lt k inputs) (nat_lt 0 dimensions) (not_misused (nat_lt k inputs && nat_lt 0 dimensions) h) in
    (k, dimensions, refl, less k inputs b.0, less 0 dimensions b.1)
  where
    less : (i n : ℕ) → nat_lt i n ≡ true → i < n
    less i n e = grind (arith, nat_tests)
output_array inputs means.LoopName h = absurd cc
output_array inputs means.OwnStart h = absurd cc
output_array inputs means.Nothing h = absurd cc

module _ (p : Program) (names text_names : List Entry) (keeps : Keeps p names text_names) (inputs : ℕ) where
  abbrev Fits : ℕ → Type 0
  Fits = FitsOutput text_names p.arrays inputs

  output_fits : (word : Word) → output_broken names inputs word ≡ None → Fits (array_number (declared_meaning names word.name))
  output_fits word h =
      let a = output_array inputs (declared_meaning names word.name) (no_rule (output_rule inputs (declared_meaning names word.name)) word.place h) in
      let named : IsNamed p word.name (means.Array a.0 a.1) = subst (IsNamed p word.name) a.2 (keeps.owned word.name) in
      let name : array_name (slice_get p.arrays a.0) ≡ word.name = ap array_name named.1 ∙ named.2 in
      let kept = keeps.kept word.name (means.Array a.0 a.1) tt a.2 in
      subst Fits (sym (ap array_number a.2)) (record {
        dimensions = a.1;
        means = subst (λ x. declared_meaning text_names x ≡ means.Array a.0 a.1) (sym name) kept;
        input = a.3;
        some = a.4;
      })

  outputs_of_words : (words : List Word) → NoneBroken (map (output_broken names inputs) words) → AllByRecursion Fits (output_numbers names words)
  outputs_of_words [] h = tt
  outputs_of_words (word ∷ words) h = (output_fits word h.0, outputs_of_words words h.1)

  numbers_append : (xs ys : List Word) → AllByRecursion Fits (output_numbers names xs) → AllByRecursion Fits (output_numbers names ys) → AllByRecursion Fits (output_numbers names (xs ++ ys))
  numbers_append [] ys h k = k
  numbers_append (x ∷ xs) ys h k = (h.0, numbers_append xs ys h.1 k)

  outputs_of_lines : (scope : Scope) (ps : List Pragma) → NoneBroken (map (pragma_broken names scope inputs) ps) → AllByRecursion Fits (output_numbers names (output_words ps))
  outputs_of_lines scope [] h = tt
  outputs_of_lines scope (Context parts ∷ ps) h = outputs_of_lines scope ps h.1
  outputs_of_lines scope (Commutative words ∷ ps) h = outputs_of_lines scope ps h.1
  outputs_of_lines scope (Output words ∷ ps) h =
      numbers_append words (output_words ps) (outputs_of_words words (none_of (map (output_broken names inputs) words) h.0)) (outputs_of_lines scope ps h.1)

  outputs_fit : (scope : Scope) (ps : List Pragma) → NoneBroken (map (pragma_broken names scope inputs) ps) → OutputsFit text_names p.arrays inputs (output_line names ps)
  outputs_fit scope ps h = by (has_output_line ps)
    where
      by : (b : Bool) → OutputsFit text_names p.arrays inputs (if b then Some (output_numbers names (output_words ps)) else None)
      by true = outputs_of_lines scope ps h
      by false = tt

-- ---- a file

module _ (f : File) (none : file_broken f ≡ None) where
  abbrev names : List Entry
  names = names_of f

  abbrev fixed : Scope
  fixed = fixed_scope (param_count f.params)

  abbrev p : Program
  p = program_of f

  abbrev inputs : List Array
  inputs = arrays_from names fixed Input is_whole 0 f.params

  abbrev owned_locals : List Array
  owned_locals = arrays_from names fixed Local (is_loop_name f.body) (length f.params) f.locals

  keeps : Keeps p names (plain names)
  keeps = record {
    kept = kept_plain names;
    no_iterator = λ name k e. subst (IsNumbered (param_count f.params)) e (declared_has (IsNumbered (param_count f.params)) tt names name (files_are_numbered f).0);
    owned = names_mean_their_own f;
  }

  leaves : Leaves names (plain names)
  leaves = record {
    loop_name = λ name e. loop_plain names name (subst (IsDistinct (pointwise nat_eq)) (sym (all_named f)) (declared_once f none)) e;
    new = new_plain names;
  }

  many : length p.params ≡ param_count f.params
  many = params_counted f.params

  outside : (scope : Scope) → scope.params ≡ param_count f.params → scope.iterators ≡ [] → Follows p scope (whole_scope p)
  outside scope e i = record {
    params = refl;
    arrays = refl;
    many = many ∙ sym e;
    iterators = ap length (sym i);
    named = λ name k h. let n : None ≡ Some k = subst (λ is. iterator_number is name ≡ Some k) i h in absurd cc;
  }

  as_many_inputs : length inputs ≡ input_count f.params
  as_many_inputs = counted names fixed f.params 0

  only_locals : locals p.arrays ≡ owned_locals
  only_locals = inputs_no_locals names fixed owned_locals f.params 0 ∙ locals_all names fixed (is_loop_name f.body) f.locals (length f.params)

  listed_slots : map (slot_entry p) p.slots ≡ plain (param_entries f.params 0 0)
  listed_slots = slots_listed p names fixed owned_locals f.params 0 [] [] refl refl

  all_listed : declared p (length inputs) ≡ plain names
  all_listed =
      let a = ap (λ xs. entries_from (length inputs) xs) only_locals ∙ locals_listed names fixed f.body f.locals (length f.params) (length inputs)
      ∙ ap (λ a. plain (local_entries f.body f.locals a)) as_many_inputs in
      rw (listed_slots, a) (sym (plain_append (param_entries f.params 0 0) (local_entries f.body f.locals (input_count f.params))))

  -- no rule is broken in any of its halves
  declarations_none : declarations_broken names f ≡ None
  declarations_none = (neither (declarations_broken names f) (earlier (body_broken names f) (pragmas_broken names f)) none).0

  rest_none : (body_broken names f ≡ None) × (pragmas_broken names f ≡ None)
  rest_none = neither (body_broken names f) (pragmas_broken names f) (neither (declarations_broken names f) (earlier (body_broken names f) (pragmas_broken names f)) none).1

  body_none : (statements_broken names (body_scope (param_count f.params)) f.body ≡ None) × (earlier (assignments_broken f.body) (all_crowded names (body_scope (param_count f.params)) [] f.body) ≡ None)
  body_none =
      neither (statements_broken names (body_scope (param_count f.params)) f.body) (earlier (assignments_broken f.body) (all_crowded names (body_scope (param_count f.params)) [] f.body)) rest_none.0

  limits_none : (assignments_broken f.body ≡ None) × (all_crowded names (body_scope (param_count f.params)) [] f.body ≡ None)
  limits_none = neither (assignments_broken f.body) (all_crowded names (body_scope (param_count f.params)) [] f.body) body_none.1

  each_none : NoneBroken (each_declared_broken names fixed 0 f.params) × NoneBroken (each_declared_broken names fixed (length f.params) f.locals)
  each_none =
      let n = neither (first_of (each_declared_broken names fixed 0 f.params)) (first_of (each_declared_broken names fixed (length f.params) f.locals)) declarations_none in
      (none_of (each_declared_broken names fixed 0 f.params) n.0, none_of (each_declared_broken names fixed (length f.params) f.locals) n.1)

  params_none : NoneBroken (each_declared_broken names fixed 0 f.params)
  params_none = each_none.0

  locals_none : NoneBroken (each_declared_broken names fixed (length f.params) f.locals)
  locals_none = each_none.1

  declarations_readable : DeclarationsFit (plain names) 0 (plain names)
  declarations_readable =
      let z : length f.params ≡ 0 + length f.params = omega arith in
      declarations_fit (plain names) [] names
      (entries_fit fixed names (f.params ++ f.locals) [] (all_named f)
      (one_list names fixed 0 f.params f.locals params_none (subst (λ n. NoneBroken (each_declared_broken names fixed n f.locals)) z locals_none))) refl

  slots_readable : SlotsFit p (plain names) 0 0 0 p.slots p.params inputs
  slots_readable =
      slots_fit p names fixed keeps (outside fixed refl refl) many refl refl refl f.params (local_entries f.body f.locals (input_count f.params)) [] [] [] owned_locals refl refl refl params_none

  locals_readable : LocalsFit p (plain names) (length p.slots) (locals p.arrays)
  locals_readable =
      let front = param_entries f.params 0 0 in
      let l : length front ≡ length f.params = as_many f.params 0 0 in
      let i : length (plain front) ≡ length p.slots = ap length (sym listed_slots) ∙ length-map p.slots (slot_entry p) in
      let r = locals_fit p names fixed keeps (outside fixed refl refl) many refl refl refl f.body f.locals front (input_count f.params) refl
      (subst (λ n. NoneBroken (each_declared_broken names fixed n f.locals)) (sym l) locals_none) in
      subst (LocalsFit p (plain names) (length p.slots)) (sym only_locals)
      (subst (λ n. LocalsFit p (plain names) n owned_locals) i
      (subst (λ n. LocalsFit p (plain names) (length (plain front)) (arrays_from names fixed Local (is_loop_name f.body) n f.locals)) l r))

  pragmas_none : NoneBroken (map (pragma_broken names fixed (input_count f.params)) f.pragmas)
  pragmas_none = none_of (map (pragma_broken names fixed (input_count f.params)) f.pragmas) rest_none.1

  context_readable : PartsFitScope (plain names) (fixed_scope (length p.params)) (whole_scope p) (context_under names f)
  context_readable =
      parts_fit names fixed (plain names) (fixed_scope (length p.params)) (whole_scope p)
      (carries p names (plain names) keeps fixed (fixed_scope (length p.params)) (whole_scope p) (outside fixed refl refl) many refl refl refl refl)
      (context_parts f.pragmas) (context_none names fixed (input_count f.params) f.pragmas pragmas_none)

  body_readable : IsReadableBody f.body → AllByRecursion (IsReadableStmt (plain names) (body_scope (length p.params)) (whole_scope p)) p.body
  body_readable has =
      let scope = body_scope (param_count f.params) in
      subst (λ n. AllByRecursion (IsReadableStmt (plain names) (body_scope n) (whole_scope p)) p.body) (sym many)
      (has p names (plain names) keeps leaves scope (whole_scope p) refl (outside scope refl refl) body_none.0)

  program_readable : IsReadableBody f.body → IsReadableProgram p
  program_readable has =
      let back = sym all_listed in
      record {
        inputs = inputs;
        arrays = ap (λ xs. inputs ++ xs) (sym only_locals);
        declarations = subst (λ es. DeclarationsFit es 0 es) back declarations_readable;
        slots = subst (λ es. SlotsFit p es 0 0 0 p.slots p.params inputs) back slots_readable;
        locals = subst (λ es. LocalsFit p es (length p.slots) (locals p.arrays)) back locals_readable;
        body = subst (λ es. AllByRecursion (IsReadableStmt es (body_scope (length p.params)) (whole_scope p)) p.body) back (body_readable has);
        few = few_assignments names (body_scope (param_count f.params)) f.body limits_none.0;
        uncrowded = few_quotients names (body_scope (param_count f.params)) f.body limits_none.1;
        context = subst (λ es. PartsFitScope es (fixed_scope (length p.params)) (whole_scope p) p.context.parts) back context_readable;
        outputs = subst (λ es. OutputsFit es p.arrays (length inputs) p.outputs) back
            (subst (λ n. OutputsFit (plain names) p.arrays n p.outputs) (sym as_many_inputs) (outputs_fit p names (plain names) keeps (input_count f.params) fixed f.pragmas pragmas_none));
      }

pub programs_are_readable : ProgramsAreReadable
programs_are_readable bytes tokens room f are is none = program_readable f none (file_readable is (tokens_spelled bytes tokens are))
