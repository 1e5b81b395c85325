-- The rules read programs back from the trees of their canonical text.
use Rattle.std.proofs.Common.{◌≡◌, ℕ, zero, suc, ◌+◌, ◌≤◌, List, [], ◌∷◌, ◌++◌, map, length, refl, sym, ap, subst, ◌∙◌, false, arith, Option, None}
use Rattle.std.specs.Prelude.{slice_get}
use Rattle.std.specs.List.{AllByRecursion, list_any}
use Rattle.std.proofs.lemmas.List.{length-map}
use Rattle.ac_syntax.specs.declared.tree.Kind.TheVariants.{Input, Local}
use Rattle.ac_syntax.specs.declared.tree.Array.{Array}
use Rattle.ac_syntax.specs.declared.tree.Slot.{Slot}
use Rattle.ac_syntax.specs.declared.tree.Stmt.{Stmt}
use Rattle.ac_syntax.specs.declared.tree.Cond.{Cond}
use Rattle.ac_syntax.specs.declared.tree.Program.{Program}
use Rattle.ac_syntax.specs.Text as text
use Rattle.ac_syntax.specs.Text.{whole_scope}
use Rattle.ac_parse_grammar.specs.declared.tree.Statement.{Statement}
use Rattle.ac_parse_grammar.specs.declared.tree.File.{File}
use Rattle.ac_parse_exprs.specs.declared.scope.Entry.{Entry}
use Rattle.ac_parse_exprs.specs.declared.scope.Scope.{Scope}
use Rattle.ac_parse_exprs.specs.FaultOrder.{earlier}
use Rattle.ac_parse_exprs.specs.Comparisons.{first_of, condition}
use Rattle.ac_parse_rules.specs.Declarations.{runs, is_whole, is_loop_name, param_entries, local_entries, param_count, fixed_scope, each_declared_broken, arrays_from, slots_from, param_names}
use Rattle.ac_parse_rules.specs.Statements.{all_targets, statement_broken, statements_broken, stmts}
use Rattle.ac_parse_rules.specs.FewQuotients.{all_crowded}
use Rattle.ac_parse_rules.specs.Files.{body_scope, context_parts, commutative_words, output_line, assignments_broken, declarations_broken, body_broken, pragma_broken, pragmas_broken, broken_under, arrays_under, body_under, context_under, program_under, names_of, file_broken, program_of}
use Rattle.ac_parse_roundtrip.specs.CanonicalTrees.{Each, IsSlotTree, IsStatementTree, IsFileTree, locals}
use Rattle.ac_parse_roundtrip.specs.PlaceErasure.{parts_without_places, condition_without_places, stmt_without_places, array_without_places, program_without_places}
use Rattle.ac_parse_roundtrip.specs.ReadableStatements.{IsReadableStmt}
use Rattle.ac_parse_roundtrip.specs.CanonicalPrograms.{slot_entry, entries_from, declared, DeclarationsFit, IsReadableProgram}
use Rattle.ac_parse_roundtrip.specs.RuleRoundTrip.{ProgramsAreReadBack}
use Rattle.ac_parse_roundtrip.proofs.ConditionRoundTrip.{none_broken, same_length}
use Rattle.ac_parse_roundtrip.proofs.StatementRoundTrip.{AreStmtsRead, stmt_read, both_none}
use Rattle.ac_parse_roundtrip.proofs.DeclarationRoundTrip.{AreParams, params_read, AreLocals, locals_read}
use Rattle.ac_parse_roundtrip.proofs.CrowdedRoundTrip.{body_few}
use Rattle.ac_parse_roundtrip.proofs.PragmaRoundTrip.{PragmasRead, output_read, commutative_read, context_read}
use Rattle.ac_parse_roundtrip.proofs.Shapes.{all_typed, all_counted}

fits_split : (names : List Entry) (i : ℕ) (xs ys : List Entry) → DeclarationsFit names i (xs ++ ys) → DeclarationsFit names i xs × DeclarationsFit names (i + length xs) ys
fits_split names i [] ys h = (tt, subst (λ n. DeclarationsFit names n ys) (let e : i ≡ i + 0 = omega arith in e) h)
fits_split names i (x ∷ xs) ys h =
    let r = fits_split names (i + 1) xs ys h.1 in
    let e : i + 1 + length xs ≡ i + suc (length xs) = omega arith in
    ((h.0, r.0), subst (λ n. DeclarationsFit names n ys) e r.1)

past_end : {A : Type 0} (xs : List A) (n : ℕ) → length xs ≤ n → slice_get xs n ≡ None
past_end [] n h = refl
past_end (x ∷ xs) zero h = absurd (omega (arith, h))
past_end (x ∷ xs) (suc n) h = past_end xs n (omega (arith, h))

map_append : {A B : Type 0} (f : A → B) (xs ys : List A) → map f (xs ++ ys) ≡ map f xs ++ map f ys
map_append f [] ys = refl
map_append f (x ∷ xs) ys = ap (λ rest. f x ∷ rest) (map_append f xs ys)

body_read : (names : List Entry) (scope : Scope) (written : text.Scope) (ss : List Stmt) (trees : List Statement) → AllByRecursion (IsReadableStmt names scope written) ss → Each (IsStatementTree written) ss trees
    → AreStmtsRead names scope (map stmt_without_places ss) trees
body_read names scope written [] [] fit t = record { none = tt; same = refl }
body_read names scope written [] (tree ∷ trees) fit t = absurd t
body_read names scope written (s ∷ ss) [] fit t = absurd t
body_read names scope written (s ∷ ss) (tree ∷ trees) fit t =
    let a = stmt_read names scope written s tree fit.0 t.0 in
    let b = body_read names scope written ss trees fit.1 t.1 in
    record { none = (a.none, b.none); same = rw (a.same, b.same) refl }

abbrev made : List ℕ → List (List ℕ) → List Array → List Slot → List Stmt → Cond → List (List ℕ) → Option (List ℕ) → Program
made name params arrays slots body context commutative outputs =
    record { name = name; params = params; arrays = arrays; slots = slots; body = body; context = context; commutative = commutative; outputs = outputs }

program_same : (m n : List ℕ) (ps qs : List (List ℕ)) (xs ys : List Array) (ss ts : List Slot) (b d : List Stmt) (c e : Cond) (us vs : List (List ℕ)) (o r : Option (List ℕ))
    → m ≡ n → ps ≡ qs → xs ≡ ys → ss ≡ ts → b ≡ d → c ≡ e → us ≡ vs → o ≡ r → made m ps xs ss b c us o ≡ made n qs ys ts d e vs r
program_same m n ps qs xs ys ss ts b d c e us vs o r h1 h2 h3 h4 h5 h6 h7 h8 = rw (h1, h2, h3, h4, h5, h6, h7, h8) refl

module _ (p : Program) (fit : IsReadableProgram p) (file : File) (t : IsFileTree p file) where
  abbrev names : List Entry
  names = declared p (length fit.inputs)

  abbrev written : text.Scope
  written = whole_scope p

  typed : (name : List ℕ) → list_any (runs name) file.body ≡ false
  typed name = all_typed name written p.body file.body t.body

  fits : DeclarationsFit names 0 (map (slot_entry p) p.slots) × DeclarationsFit names (0 + length (map (slot_entry p) p.slots)) (entries_from (length fit.inputs) (locals p.arrays))
  fits = fits_split names 0 (map (slot_entry p) p.slots) (entries_from (length fit.inputs) (locals p.arrays)) fit.declarations

  params : AreParams p names 0 0 0 p.slots p.params fit.inputs file.params
  params = params_read p names 0 0 0 p.slots p.params fit.inputs file.params fit.slots fits.0 t.params

  behind : 0 + length (map (slot_entry p) p.slots) ≡ length p.slots
  behind = let l = length-map p.slots (slot_entry p) in omega arith

  locals_are : AreLocals p names file.body typed (length p.slots) (length fit.inputs) (locals p.arrays) file.locals
  locals_are = locals_read p names file.body typed (length p.slots) (length fit.inputs) (locals p.arrays) file.locals fit.locals (subst (λ i. DeclarationsFit names i (entries_from (length fit.inputs) (locals p.arrays))) behind fits.1) t.locals

  statements : AreStmtsRead names (body_scope (length p.params)) (map stmt_without_places p.body) file.body
  statements = body_read names (body_scope (length p.params)) written p.body file.body fit.body t.body

  pragmas : PragmasRead names (fixed_scope (length p.params)) (length fit.inputs) written p.context.parts p.commutative p.outputs file.pragmas
  pragmas =
      let a = t.pragmas in
      let o = output_read names (fixed_scope (length p.params)) (length fit.inputs) written p.outputs a.2 fit.outputs a.5 in
      let c = commutative_read names (fixed_scope (length p.params)) (length fit.inputs) written p.commutative p.outputs a.1 a.2 a.4 o in
      subst (PragmasRead names (fixed_scope (length p.params)) (length fit.inputs) written p.context.parts p.commutative p.outputs) (sym a.6)
      (context_read names (fixed_scope (length p.params)) (length fit.inputs) written p.context.parts p.commutative p.outputs a.0 (a.1 ++ a.2) fit.context a.3 c)

  -- the names that the text declares
  names_are : names_of file ≡ names
  names_are =
      ap (λ n. param_entries file.params 0 0 ++ local_entries file.body file.locals n) params.inputs
      ∙ ap (λ es. es ++ local_entries file.body file.locals (length fit.inputs)) params.entries
      ∙ ap (λ es. map (slot_entry p) p.slots ++ es) locals_are.entries

  at_end : length p.slots ≡ length file.params
  at_end = sym (same_length (IsSlotTree written) p.slots file.params t.params)

  declarations_none : declarations_broken names file ≡ None
  declarations_none =
      let a = none_broken (each_declared_broken names (fixed_scope (length p.params)) 0 file.params) params.none in
      let b = none_broken (each_declared_broken names (fixed_scope (length p.params)) (length p.slots) file.locals) locals_are.none in
      let c = subst (λ n. first_of (each_declared_broken names (fixed_scope n) 0 file.params) ≡ None) (sym params.integers) a in
      let d = subst (λ n. first_of (each_declared_broken names (fixed_scope n) (length p.slots) file.locals) ≡ None) (sym params.integers) b in
      let e = subst (λ i. first_of (each_declared_broken names (fixed_scope (param_count file.params)) i file.locals) ≡ None) at_end d in
      both_none (first_of (each_declared_broken names (fixed_scope (param_count file.params)) 0 file.params)) (first_of (each_declared_broken names (fixed_scope (param_count file.params)) (length file.params) file.locals)) c e

  assignments_none : assignments_broken file.body ≡ None
  assignments_none =
      let l = all_counted written p.body file.body t.body in
      let f = fit.few in
      let e : slice_get (all_targets file.body) 48 ≡ None = past_end (all_targets file.body) 48 (omega arith) in
      rw e refl

  quotients_none : all_crowded names (body_scope (param_count file.params)) [] file.body ≡ None
  quotients_none = subst (λ n. all_crowded names (body_scope n) [] file.body ≡ None) (sym params.integers) (body_few names (body_scope (length p.params)) written p.body file.body fit.body t.body fit.uncrowded)

  body_none : body_broken names file ≡ None
  body_none =
      let a = none_broken (map (λ s. statement_broken names s (body_scope (length p.params))) file.body) statements.none in
      let b = subst (λ n. statements_broken names (body_scope n) file.body ≡ None) (sym params.integers) a in
      let few = all_crowded names (body_scope (param_count file.params)) [] file.body in
      both_none (statements_broken names (body_scope (param_count file.params)) file.body) (earlier (assignments_broken file.body) few) b (both_none (assignments_broken file.body) few assignments_none quotients_none)

  pragmas_none : pragmas_broken names file ≡ None
  pragmas_none =
      let a = none_broken (map (pragma_broken names (fixed_scope (length p.params)) (length fit.inputs)) file.pragmas) pragmas.none in
      let b = subst (λ n. first_of (map (pragma_broken names (fixed_scope n) (length fit.inputs)) file.pragmas) ≡ None) (sym params.integers) a in
      subst (λ n. first_of (map (pragma_broken names (fixed_scope (param_count file.params)) n) file.pragmas) ≡ None) (sym params.inputs) b

  pub file_none : file_broken file ≡ None
  file_none = ap (λ ns. broken_under ns file) names_are
      ∙ both_none (declarations_broken names file) (earlier (body_broken names file) (pragmas_broken names file))
      declarations_none (both_none (body_broken names file) (pragmas_broken names file) body_none pragmas_none)

  arrays_same : map array_without_places (arrays_under names file) ≡ map array_without_places p.arrays
  arrays_same =
      let a = subst (λ n. map array_without_places (arrays_from names (fixed_scope n) Input is_whole 0 file.params) ≡ map array_without_places fit.inputs) (sym params.integers) params.arrays in
      let b = subst (λ n. map array_without_places (arrays_from names (fixed_scope n) Local (is_loop_name file.body) (length p.slots) file.locals) ≡ map array_without_places (locals p.arrays)) (sym params.integers) locals_are.arrays in
      let c = subst (λ i. map array_without_places (arrays_from names (fixed_scope (param_count file.params)) Local (is_loop_name file.body) i file.locals) ≡ map array_without_places (locals p.arrays)) at_end b in
      map_append array_without_places (arrays_from names (fixed_scope (param_count file.params)) Input is_whole 0 file.params) (arrays_from names (fixed_scope (param_count file.params)) Local (is_loop_name file.body) (length file.params) file.locals)
      ∙ ap (λ xs. xs ++ map array_without_places (arrays_from names (fixed_scope (param_count file.params)) Local (is_loop_name file.body) (length file.params) file.locals)) a
      ∙ ap (λ xs. map array_without_places fit.inputs ++ xs) c
      ∙ sym (map_append array_without_places fit.inputs (locals p.arrays)) ∙ ap (map array_without_places) (sym fit.arrays)

  body_same : map stmt_without_places (body_under names file) ≡ map stmt_without_places p.body
  body_same = subst (λ n. map stmt_without_places (stmts names (body_scope n) file.body) ≡ map stmt_without_places p.body) (sym params.integers) statements.same

  context_same : parts_without_places (context_under names file) ≡ parts_without_places p.context.parts
  context_same = subst (λ n. parts_without_places (condition names (fixed_scope n) (context_parts file.pragmas)) ≡ parts_without_places p.context.parts) (sym params.integers) pragmas.parts

  pub program_read : program_without_places (program_of file) ≡ program_without_places p
  program_read = ap (λ ns. program_without_places (program_under ns file)) names_are
      ∙ program_same file.name.name p.name (param_names file.params) p.params (map array_without_places (arrays_under names file)) (map array_without_places p.arrays) (slots_from file.params 0 0) p.slots
      (map stmt_without_places (body_under names file)) (map stmt_without_places p.body) (condition_without_places (record { parts = context_under names file })) (condition_without_places p.context)
      (map (λ word. word.name) (commutative_words file.pragmas)) p.commutative (output_line names file.pragmas) p.outputs
      t.name params.named arrays_same params.slots body_same (ap (λ parts. record { parts = parts }) context_same) pragmas.words pragmas.numbers

pub programs_are_read_back : ProgramsAreReadBack
programs_are_read_back p fit file t = (file_none p fit file t, sym (program_read p fit file t))
