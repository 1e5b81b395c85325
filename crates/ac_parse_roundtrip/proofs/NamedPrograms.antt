-- The program of a text that breaks no rule has words and names.
use Rattle.std.specs.Prelude.{◌≡◌, ◌<◌, ◌+◌, ℕ, zero, suc, Bool, true, false, List, [], ◌∷◌, ◌++◌, map, filter, length, slice_get, Option, Some, None, IfSome, cond, if◌then◌else◌}
use Rattle.std.specs.List.{AllByRecursion}
use Rattle.std.proofs.Common.{refl, arith}
use Rattle.ac_syntax.specs.Small.{AreSmallForms}
use Rattle.ac_syntax.specs.declared.tree.Array.{Array}
use Rattle.ac_syntax.specs.declared.tree.Kind.{Kind}
use Rattle.ac_syntax.specs.declared.tree.Kind.TheVariants.{Input, Local}
use Rattle.ac_syntax.specs.declared.tree.Place.{Place}
use Rattle.ac_syntax.specs.declared.tree.Program.{Program}
use Rattle.ac_syntax.specs.declared.tree.Slot.{Slot}
use Rattle.ac_syntax.specs.declared.tree.Slot.TheVariants as slot
use Rattle.ac_syntax.specs.Text.{name_or_none}
use Rattle.ac_lex.specs.Lexemes.{Lexeme}
use Rattle.ac_parse_grammar.specs.declared.file.Function.{Function}
use Rattle.ac_parse_grammar.specs.declared.tree.Word.{Word}
use Rattle.ac_parse_grammar.specs.declared.tree.Declared.{Declared}
use Rattle.ac_parse_grammar.specs.declared.tree.Statement.{Statement}
use Rattle.ac_parse_grammar.specs.declared.tree.Pragma.{Pragma}
use Rattle.ac_parse_grammar.specs.declared.tree.Pragma.TheVariants.{Context, Commutative, Output}
use Rattle.ac_parse_grammar.specs.declared.tree.File.{File}
use Rattle.ac_parse_grammar.specs.FileGrammar.{IsPragma, IsFunction, function, IsFile, file}
use Rattle.ac_parse_exprs.specs.declared.fault.Rule.{Rule}
use Rattle.ac_parse_exprs.specs.declared.scope.Entry.{Entry}
use Rattle.ac_parse_exprs.specs.declared.scope.Meaning.{Meaning}
use Rattle.ac_parse_exprs.specs.declared.scope.Meaning.TheVariants as means
use Rattle.ac_parse_exprs.specs.declared.scope.Scope.{Scope}
use Rattle.ac_parse_exprs.specs.FaultOrder.{rule_broken}
use Rattle.ac_parse_exprs.specs.Meanings.{declared_meaning}
use Rattle.ac_parse_exprs.specs.Values.{array_number}
use Rattle.ac_parse_rules.specs.Declarations.{is_whole, is_loop_name, param_count, input_count, fixed_scope, array_of, arrays_from, param_names}
use Rattle.ac_parse_rules.specs.Statements.{statements_broken, stmts}
use Rattle.ac_parse_rules.specs.DeclaredNumbers.{IsSlotOf}
use Rattle.ac_parse_rules.specs.Files.{output_words, has_output_line, output_rule, output_broken, pragma_broken, output_numbers, body_scope, arrays_under, commutative_words, names_of, file_broken, program_of}
use Rattle.ac_parse_exprs.proofs.Absent.{NoneBroken, neither, none_of, each_append, each_map, each_further}
use Rattle.ac_parse_rules.proofs.ArraysUsed.{has_declared}
use Rattle.ac_parse_exprs.proofs.NumberedMeanings.{declared_has}
use Rattle.ac_parse_rules.proofs.DeclaredNumbers.{MeansBelow, NamesBelow, names_below}
use Rattle.ac_parse_rules.proofs.SmallPrograms.{small_program}
use Rattle.ac_parse_roundtrip.specs.ProgramWords.{IsWord, IsDeclared, IsThere, IsCommutative, HasWords}
use Rattle.ac_parse_roundtrip.specs.GrammarPrograms.{IsName, NamesArray, IsSymbolName, HasArrayNames, HasInput, HasSlotName, HaveOutputs, HasNames}
use Rattle.ac_parse_roundtrip.specs.TokenSpelling.{AreSpelled}
use Rattle.ac_parse_roundtrip.specs.ProgramNames.{ProgramsHaveNames}
use Rattle.ac_parse_roundtrip.proofs.TokenSpelling.{tokens_spelled}
use Rattle.ac_parse_roundtrip.proofs.NameTerminals.{IsNamed, is_named, IsNamedSymbol}
use Rattle.ac_parse_roundtrip.proofs.Expressions.{front_spelled, rest_spelled}
use Rattle.ac_parse_roundtrip.proofs.NamedDeclarations.{run_has, AreNamedDeclarations, parameters_named, declarations_named, HasSymbols, pragma_named, words_named}
use Rattle.ac_parse_roundtrip.proofs.NamedValues.{forms_named, parts_named, AreNamedArrays, array_named}
use Rattle.ac_parse_roundtrip.proofs.NamedStatements.{IsNamedStmt, stmts_named}
use Rattle.ac_parse_roundtrip.proofs.BuiltStatements.{statements_named}

-- ---- files

-- the statements that the rules make of a body that breaks none are named, whatever named arrays there are
abbrev IsNamedBody : List Statement → Type 0
IsNamedBody body = (arrays : List Array) (named : AreNamedArrays arrays) (entries : List Entry) (scope : Scope)
    → statements_broken entries scope body ≡ None → AllByRecursion (IsNamedStmt arrays named) (stmts entries scope body)

record IsNamedFunction (f : Function) : Type 0 where
  name : IsNamed f.name.name
  params : AreNamedDeclarations f.params
  locals : AreNamedDeclarations f.body.locals
  body : IsNamedBody f.body.statements

function_named : {room : ℕ} {ts : List Lexeme} {f : Function} → IsFunction room ts f → AreSpelled ts → IsNamedFunction f
function_named (function {n = n} c b d {ps = ps} {ds = ds} {ss = ss} void is opens params closes begins locals body ends) h =
    let inner = rest_spelled ps (c ∷ b ∷ ds ++ (ss ++ d ∷ [])) h.1.1.1 in
    let statements = front_spelled ss (d ∷ []) (rest_spelled ds (ss ++ d ∷ []) inner.1.1) in
    record {
      name = is_named n h.1.0 is;
      params = parameters_named params (front_spelled ps (c ∷ b ∷ ds ++ (ss ++ d ∷ [])) h.1.1.1);
      locals = declarations_named locals (front_spelled ds (ss ++ d ∷ []) inner.1.1);
      body = λ arrays named entries scope none. statements_named arrays named body statements entries scope none;
    }

record IsNamedFile (f : File) : Type 0 where
  name : IsNamed f.name.name
  params : AreNamedDeclarations f.params
  locals : AreNamedDeclarations f.locals
  body : IsNamedBody f.body
  pragmas : AllByRecursion HasSymbols f.pragmas

file_named : {room : ℕ} {ts : List Lexeme} {f : File} → IsFile room ts f → AreSpelled ts → IsNamedFile f
file_named {room = room} (file {bs = bs} {fs = fs} {ts = ts} {before = before} {behind = behind} first is last) h =
    let inner = rest_spelled bs (fs ++ ts) h in
    let f = function_named is (front_spelled fs ts inner) in
    record {
      name = f.name;
      params = f.params;
      locals = f.locals;
      body = f.body;
      pragmas = each_append HasSymbols before behind
          (run_has (IsPragma room) HasSymbols (pragma_named room) first (front_spelled bs (fs ++ ts) h))
          (run_has (IsPragma room) HasSymbols (pragma_named room) last (rest_spelled fs ts inner));
    }

-- ---- parameters and arrays

params_named : (ds : List Declared) → AreNamedDeclarations ds → AllByRecursion IsNamed (param_names ds)
params_named [] h = tt
params_named (d ∷ ds) h = by (is_whole d) (params_named ds h.1)
  where
    by : (b : Bool) → AllByRecursion IsNamed (param_names ds) → AllByRecursion IsNamed (map (λ (x : Declared). x.name.name) (cond b (d ∷ filter is_whole ds) (filter is_whole ds)))
    by true rest = (h.0, rest)
    by false rest = rest

abbrev IsNamedArray : Array → Type 0
IsNamedArray array = IsNamed array.name

arrays_from_named : (entries : List Entry) (scope : Scope) (kind : Kind) (skipped : Declared → Bool) (k : ℕ) (ds : List Declared) → AreNamedDeclarations ds
    → AllByRecursion IsNamedArray (arrays_from entries scope kind skipped k ds)
arrays_from_named entries scope kind skipped k [] h = tt
arrays_from_named entries scope kind skipped k (d ∷ ds) h = by (skipped d) (arrays_from_named entries scope kind skipped (k + 1) ds h.1)
  where
    by : (b : Bool) → AllByRecursion IsNamedArray (arrays_from entries scope kind skipped (k + 1) ds)
        → AllByRecursion IsNamedArray (if b then arrays_from entries scope kind skipped (k + 1) ds else array_of entries scope kind k d ∷ arrays_from entries scope kind skipped (k + 1) ds)
    by true rest = rest
    by false rest = (h.0, rest)

arrays_named : (f : File) → IsNamedFile f → AllByRecursion IsNamedArray (arrays_under (names_of f) f)
arrays_named f h =
    let scope = fixed_scope (param_count f.params) in
    each_append IsNamedArray (arrays_from (names_of f) scope Input is_whole 0 f.params) (arrays_from (names_of f) scope Local (is_loop_name f.body) (length f.params) f.locals)
    (arrays_from_named (names_of f) scope Input is_whole 0 f.params h.params)
    (arrays_from_named (names_of f) scope Local (is_loop_name f.body) (length f.params) f.locals h.locals)

-- arrays of small extents
declared_named : (arrays : List Array) → AllByRecursion IsNamedArray arrays → AllByRecursion (λ (array : Array). AreSmallForms array.extents) arrays
    → AllByRecursion IsDeclared arrays × AllByRecursion HasArrayNames arrays
declared_named [] h small = (tt, tt)
declared_named (a ∷ arrays) h small =
    let r = declared_named arrays h.1 small.1 in
    let e = forms_named a.extents small.0 in
    ((record { name = h.0.word; extents = e.0 }, r.0), (record { name = h.0.name; extents = e.1 }, r.1))

-- ---- the parameter list

element_has : {A : Type 0} (P : A → Type 0) (Q : Option A → Type 0) → ((x : A) → P x → Q (Some x)) → (xs : List A) (k : ℕ) → AllByRecursion P xs → k < length xs → Q (slice_get xs k)
element_has P Q of [] k h there = absurd (omega (arith, there))
element_has P Q of (x ∷ xs) zero h there = of x h.0
element_has P Q of (x ∷ xs) (suc k) h there = element_has P Q of xs k h.1 (omega (arith, there))

slot_named : (p : Program) → AllByRecursion IsName p.params → AllByRecursion HasArrayNames p.arrays → (x : Slot) → IsSlotOf p x → IsThere p x × HasSlotName p x
slot_named p params arrays (slot.Param k) there = (there, element_has IsName (λ o. IsName (name_or_none o)) (λ x is. is) p.params k params there)
slot_named p params arrays (slot.Array k) there = (there, element_has HasArrayNames HasInput (λ x is. is) p.arrays k arrays there)

-- ---- outputs

no_rule : (rule : Option Rule) (place : Place) → rule_broken rule place ≡ None → rule ≡ None
no_rule None place h = refl
no_rule (Some rule) place h = absurd cc

output_below : (n inputs : ℕ) (m : Meaning) → output_rule inputs m ≡ None → MeansBelow n m → array_number m < n
output_below n inputs (means.Parameter k) h l = absurd cc
output_below n inputs (means.Iterator k) h l = absurd cc
output_below n inputs (means.Array k dimensions) h l = l
output_below n inputs means.LoopName h l = absurd cc
output_below n inputs means.OwnStart h l = absurd cc
output_below n inputs means.Nothing h l = absurd cc

module _ (n inputs : ℕ) (entries : List Entry) (below : NamesBelow n entries) where
  abbrev IsBelow : Word → Type 0
  IsBelow word = array_number (declared_meaning entries word.name) < n

  words_below : (words : List Word) → NoneBroken (map (output_broken entries inputs) words) → AllByRecursion IsBelow words
  words_below [] h = tt
  words_below (word ∷ words) h = (
    output_below n inputs (declared_meaning entries word.name) (no_rule (output_rule inputs (declared_meaning entries word.name)) word.place h.0)
        (declared_has (MeansBelow n) tt entries word.name below),
    words_below words h.1,
  )

  lines_below : (scope : Scope) (ps : List Pragma) → NoneBroken (map (pragma_broken entries scope inputs) ps) → AllByRecursion IsBelow (output_words ps)
  lines_below scope [] h = tt
  lines_below scope (Context parts ∷ ps) h = lines_below scope ps h.1
  lines_below scope (Commutative words ∷ ps) h = lines_below scope ps h.1
  lines_below scope (Output words ∷ ps) h =
      each_append IsBelow words (output_words ps) (words_below words (none_of (map (output_broken entries inputs) words) h.0)) (lines_below scope ps h.1)

outputs_named : (arrays : List Array) → AreNamedArrays arrays → (b : Bool) (ks : List ℕ) → AllByRecursion (λ k. k < length arrays) ks
    → IfSome (if b then Some ks else None) (AllByRecursion (λ k. k < length arrays)) × HaveOutputs arrays (if b then Some ks else None)
outputs_named arrays named true ks h = (h, each_further (λ k. k < length arrays) (NamesArray arrays) (λ k there. array_named arrays k named there) ks h)
outputs_named arrays named false ks h = (tt, tt)

-- ---- programs

program_named : (f : File) → IsNamedFile f → file_broken f ≡ None → HasWords (program_of f) × HasNames (program_of f)
program_named f h none =
    let p = program_of f in
    let n = neither _ _ none in
    let m = neither _ _ n.1 in
    let small = small_program f none in
    let there = has_declared f none in
    let all = arrays_named f h in
    let named = each_further IsNamedArray (λ (array : Array). IsName array.name) (λ array is. is.name) p.arrays all in
    let declared = declared_named p.arrays all small.extents in
    let params = params_named f.params h.params in
    let param_words = each_further IsNamed IsWord (λ name is. is.word) p.params params in
    let param_names = each_further IsNamed IsName (λ name is. is.name) p.params params in
    let slots = each_further (IsSlotOf p) (λ x. IsThere p x × HasSlotName p x) (slot_named p param_names declared.1) p.slots there.slots in
    let body = stmts_named p.arrays named p.body (h.body p.arrays named (names_of f) (body_scope (param_count f.params)) (neither _ _ m.0).0) small.body there.body in
    let context = parts_named p.context.parts small.context in
    let symbols = each_map (λ (word : Word). word.name) IsNamedSymbol (commutative_words f.pragmas) (words_named f.pragmas h.pragmas) in
    let below = lines_below (length p.arrays) (input_count f.params) (names_of f) (names_below f) (fixed_scope (param_count f.params)) f.pragmas (none_of _ m.1) in
    let outputs = outputs_named p.arrays named (has_output_line f.pragmas) (output_numbers (names_of f) (output_words f.pragmas))
    (each_map (λ (word : Word). array_number (declared_meaning (names_of f) word.name)) (λ k. k < length p.arrays) (output_words f.pragmas) below) in (
      record {
        name = h.name.word;
        params = param_words;
        arrays = declared.0;
        slots = each_further (λ x. IsThere p x × HasSlotName p x) (IsThere p) (λ x is. is.0) p.slots slots;
        body = body.0;
        context = context.0;
        commutative = each_further IsNamedSymbol IsCommutative (λ name is. is.commutative) p.commutative symbols;
        outputs = outputs.0;
      },
      record {
        name = h.name.name;
        params = param_names;
        slots = each_further (λ x. IsThere p x × HasSlotName p x) (HasSlotName p) (λ x is. is.1) p.slots slots;
        arrays = declared.1;
        body = body.1;
        context = context.1;
        commutative = each_further IsNamedSymbol IsSymbolName (λ name is. is.name) p.commutative symbols;
        outputs = outputs.1;
      },
    )

pub programs_have_names : ProgramsHaveNames
programs_have_names bytes tokens room f are is none = program_named f (file_named is (tokens_spelled bytes tokens are)) none
