-- A file that breaks no rule declares no name twice, and a declared name means the parameter or array that has it.
use Rattle.std.proofs.Common.{◌≡◌, ℕ, ◌+◌, Bool, true, false, List, [], ◌∷◌, ◌++◌, map, length, take, filter, nat_eq, Some, refl, sym, ap, subst, ◌∙◌, arith, cond}
use Rattle.std.specs.Prelude.{not, if◌then◌else◌, slice_get}
use Rattle.std.specs.List.{AllByRecursion, IsDistinct}
use Rattle.std.specs.Cmp.Lexicographic.{pointwise}
use Rattle.std.proofs.Math.Seq.{take-append_seam}
use Rattle.std.proofs.lemmas.Bool.Decides.{Decides-eqb}
use Rattle.std.proofs.lemmas.List.{append_assoc, length-append, length-map, map-append}
use Rattle.std.proofs.lemmas.Slice.Eq.{slice_eq-Decides}
use Rattle.ac_syntax.specs.declared.tree.Array.{Array}
use Rattle.ac_syntax.specs.declared.tree.Kind.TheVariants.{Input, Local}
use Rattle.ac_syntax.specs.declared.tree.Program.{Program}
use Rattle.ac_parse_grammar.specs.declared.tree.Declared.{Declared}
use Rattle.ac_parse_grammar.specs.declared.tree.Extent.{Extent}
use Rattle.ac_parse_grammar.specs.declared.tree.File.{File}
use Rattle.ac_parse_grammar.specs.declared.tree.Statement.{Statement}
use Rattle.ac_parse_exprs.specs.declared.scope.Meaning.TheVariants as means
use Rattle.ac_parse_exprs.specs.declared.scope.Entry.{Entry}
use Rattle.ac_parse_exprs.specs.declared.scope.Scope.{Scope}
use Rattle.ac_parse_exprs.specs.Comparisons.{index}
use Rattle.ac_parse_exprs.specs.Meanings.{declared_meaning}
use Rattle.ac_parse_rules.specs.Declarations.{is_whole, is_loop_name, count, entry, param_entries, local_entries, param_count, input_count, fixed_scope, is_declared, each_declared_broken, array_of, arrays_from, param_names}
use Rattle.ac_parse_rules.specs.Files.{names_of, program_of}
use Rattle.ac_parse_rules.specs.LawsOfNames.{declared_names, NamesAreDeclaredOnce, IsNamed, NamesMeanTheirOwn}
use Rattle.ac_parse_exprs.proofs.Absent.{NoneBroken, neither, none_of, each_append, each_further, each_map}
use Rattle.ac_parse_rules.proofs.DeclaredNumbers.{counted}
use Rattle.ac_parse_exprs.proofs.Judges.{neither_is}
use Rattle.ac_parse_rules.proofs.SmallPrograms.{names_none}

params_named : (ds : List Declared) (p a : ℕ) → map (λ (e : Entry). e.name) (param_entries ds p a) ≡ map (λ (d : Declared). d.name.name) ds
params_named [] p a = refl
params_named (d ∷ ds) p a = ap (λ ns. d.name.name ∷ ns) (params_named ds (p + count (is_whole d)) (a + count (not (is_whole d))))

locals_named : (body : List Statement) (ds : List Declared) (a : ℕ) → map (λ (e : Entry). e.name) (local_entries body ds a) ≡ map (λ (d : Declared). d.name.name) ds
locals_named body [] a = refl
locals_named body (d ∷ ds) a = ap (λ ns. d.name.name ∷ ns) (locals_named body ds (a + count (not (is_loop_name body d))))

all_named : (file : File) → map (λ (e : Entry). e.name) (names_of file) ≡ declared_names file
all_named file =
    map-append (λ (e : Entry). e.name) (param_entries file.params 0 0) (local_entries file.body file.locals (input_count file.params))
    ∙ rw (params_named file.params 0 0, locals_named file.body file.locals (input_count file.params)) (sym (map-append (λ (d : Declared). d.name.name) file.params file.locals))

-- declarations in two lists, the second behind the first
one_list : (names : List Entry) (scope : Scope) (k : ℕ) (xs ys : List Declared) → NoneBroken (each_declared_broken names scope k xs) → NoneBroken (each_declared_broken names scope (k + length xs) ys)
    → NoneBroken (each_declared_broken names scope k (xs ++ ys))
one_list names scope k [] ys h l = let e : k + 0 ≡ k = omega arith in subst (λ n. NoneBroken (each_declared_broken names scope n ys)) e l
one_list names scope k (x ∷ xs) ys h l =
    let e : k + length (x ∷ xs) ≡ (k + 1) + length xs = omega arith in
    (h.0, one_list names scope (k + 1) xs ys h.1 (subst (λ n. NoneBroken (each_declared_broken names scope n ys)) e l))

not_among : (front : List Entry) (x : Entry) (name : List ℕ) → is_declared (front ++ x ∷ []) name ≡ false → (is_declared front name ≡ false) × (pointwise nat_eq x.name name ≡ false)
not_among [] x name h = (refl, (neither_is (pointwise nat_eq x.name name) false h).0)
not_among (f ∷ fs) x name h =
    let n = neither_is (pointwise nat_eq f.name name) (is_declared (fs ++ x ∷ []) name) h in
    let r = not_among fs x name n.1 in
    (rw (n.0, r.0) refl, r.1)

-- declarations behind others break no rule: none of their names stands before, nor twice among them
apart : (scope : Scope) (es : List Entry) (ds : List Declared) (front : List Entry) → map (λ (e : Entry). e.name) es ≡ map (λ (d : Declared). d.name.name) ds
    → NoneBroken (each_declared_broken (front ++ es) scope (length front) ds)
    → AllByRecursion (λ (d : Declared). is_declared front d.name.name ≡ false) ds × IsDistinct (pointwise nat_eq) (map (λ (d : Declared). d.name.name) ds)
unfolding IsDistinct
apart scope es [] front e h = (tt, tt)
apart scope [] (d ∷ ds) front e h = absurd cc
apart scope (x ∷ es) (d ∷ ds) front e h =
    let n : x.name ≡ d.name.name = cc in
    let t : map (λ (e : Entry). e.name) es ≡ map (λ (d : Declared). d.name.name) ds = cc in
    let f = names_none (front ++ (x ∷ es)) scope (length front) d h.0 in
    let g : is_declared front d.name.name ≡ false = subst (λ es. is_declared es d.name.name ≡ false) (take-append_seam front (x ∷ es)) f.0 in
    let s : front ++ (x ∷ es) ≡ (front ++ x ∷ []) ++ es = sym (append_assoc front (x ∷ []) es) in
    let k : length front + 1 ≡ length (front ++ x ∷ []) = sym (length-append front (x ∷ [])) in
    let r = apart scope es ds (front ++ x ∷ []) t (subst (λ i. NoneBroken (each_declared_broken ((front ++ x ∷ []) ++ es) scope i ds)) k (subst (λ ns. NoneBroken (each_declared_broken ns scope (length front + 1) ds)) s h.1)) in (
      (g, each_further (λ (c : Declared). is_declared (front ++ x ∷ []) c.name.name ≡ false) (λ (c : Declared). is_declared front c.name.name ≡ false) (λ c u. (not_among front x c.name.name u).0) ds r.0),
      (
        each_map (λ (c : Declared). c.name.name) (λ m. pointwise nat_eq d.name.name m ≡ false) ds
            (each_further (λ (c : Declared). is_declared (front ++ x ∷ []) c.name.name ≡ false) (λ (c : Declared). pointwise nat_eq d.name.name c.name.name ≡ false)
            (λ c u. subst (λ m. pointwise nat_eq m c.name.name ≡ false) n (not_among front x c.name.name u).1) ds r.0),
        r.1,
      ),
    )

pub declared_once : NamesAreDeclaredOnce
declared_once file h =
    let scope = fixed_scope (param_count file.params) in
    let names = names_of file in
    let z : length file.params ≡ 0 + length file.params = omega arith in
    let d = neither _ _ (neither _ _ h).0 in
    let l = none_of (each_declared_broken names scope (length file.params) file.locals) d.1 in
    (apart scope names (file.params ++ file.locals) [] (all_named file)
    (one_list names scope 0 file.params file.locals (none_of (each_declared_broken names scope 0 file.params) d.0) (subst (λ n. NoneBroken (each_declared_broken names scope n file.locals)) z l))).1

get_seam : {A : Type 0} (xs : List A) (y : A) (ys : List A) → slice_get (xs ++ (y ∷ ys)) (length xs) ≡ Some y
get_seam [] y ys = refl
get_seam (x ∷ xs) y ys = get_seam xs y ys

none_more : (n : ℕ) → n + 0 ≡ n
none_more n = omega arith

module _ (program : Program) (names : List Entry) (scope : Scope) where
  abbrev Owns : List Entry → Type 0
  Owns = AllByRecursion (λ (e : Entry). IsNamed program e.name e.meaning)

  array_owned : (front rest : List Array) (x : Array) (n : ℕ) → program.arrays ≡ front ++ (x ∷ rest) → length x.extents ≡ n → IsNamed program x.name (means.Array (length front) n)
  array_owned front rest x n e l = (x, ap (λ xs. slice_get xs (length front)) e ∙ get_seam front x rest, refl, l)

  params_own : (rest : List Array) (ds : List Declared) (k : ℕ) (ps : List (List ℕ)) (front : List Array)
      → program.params ≡ ps ++ param_names ds → program.arrays ≡ front ++ (arrays_from names scope Input is_whole k ds ++ rest) → Owns (param_entries ds (length ps) (length front))
  params_own rest [] k ps front e f = tt
  params_own rest (d ∷ ds) k ps front e f = by (is_whole d) (λ k ps front. params_own rest ds k ps front) e f
    where
      by : (b : Bool)
          → ((k : ℕ) (ps : List (List ℕ)) (front : List Array) → program.params ≡ ps ++ param_names ds → program.arrays ≡ front ++ (arrays_from names scope Input is_whole k ds ++ rest) → Owns (param_entries ds (length ps) (length front)))
          → program.params ≡ ps ++ map (λ (d : Declared). d.name.name) (cond b (d ∷ filter is_whole ds) (filter is_whole ds))
          → program.arrays ≡ front ++ ((if b then arrays_from names scope Input is_whole (k + 1) ds else array_of names scope Input k d ∷ arrays_from names scope Input is_whole (k + 1) ds) ++ rest)
          → Owns (entry d (if b then means.Parameter (length ps) else means.Array (length front) (length d.extents)) ∷ param_entries ds (length ps + count b) (length front + count (not b)))
      by true again e f =
          let n = d.name.name in
          let l : length (ps ++ n ∷ []) ≡ length ps + 1 = length-append ps (n ∷ []) in
          let r = again (k + 1) (ps ++ n ∷ []) front (e ∙ sym (append_assoc ps (n ∷ []) (param_names ds))) f in (
            ap (λ xs. slice_get xs (length ps)) e ∙ get_seam ps n (param_names ds),
            subst (λ a. Owns (param_entries ds (length ps + 1) a)) (sym (none_more (length front))) (subst (λ p. Owns (param_entries ds p (length front))) l r),
          )
      by false again e f =
          let x = array_of names scope Input k d in
          let more = arrays_from names scope Input is_whole (k + 1) ds ++ rest in
          let l : length (front ++ x ∷ []) ≡ length front + 1 = length-append front (x ∷ []) in
          let r = again (k + 1) ps (front ++ x ∷ []) e (f ∙ sym (append_assoc front (x ∷ []) more)) in (
            array_owned front more x (length d.extents) f (length-map d.extents (λ (extent : Extent). index (take k names) scope extent.size)),
            subst (λ p. Owns (param_entries ds p (length front + 1))) (sym (none_more (length ps))) (subst (λ a. Owns (param_entries ds (length ps) a)) l r),
          )

  locals_own : (body : List Statement) (ds : List Declared) (k : ℕ) (front : List Array) → program.arrays ≡ front ++ arrays_from names scope Local (is_loop_name body) k ds → Owns (local_entries body ds (length front))
  locals_own body [] k front f = tt
  locals_own body (d ∷ ds) k front f = by (is_loop_name body d) (λ k front. locals_own body ds k front) f
    where
      by : (b : Bool) → ((k : ℕ) (front : List Array) → program.arrays ≡ front ++ arrays_from names scope Local (is_loop_name body) k ds → Owns (local_entries body ds (length front)))
          → program.arrays ≡ front ++ (if b then arrays_from names scope Local (is_loop_name body) (k + 1) ds else array_of names scope Local k d ∷ arrays_from names scope Local (is_loop_name body) (k + 1) ds)
          → Owns (entry d (if b then means.LoopName else means.Array (length front) (length d.extents)) ∷ local_entries body ds (length front + count (not b)))
      by true again f = (tt, subst (λ a. Owns (local_entries body ds a)) (sym (none_more (length front))) (again (k + 1) front f))
      by false again f =
          let x = array_of names scope Local k d in
          let more = arrays_from names scope Local (is_loop_name body) (k + 1) ds in
          let l : length (front ++ x ∷ []) ≡ length front + 1 = length-append front (x ∷ []) in (
            array_owned front more x (length d.extents) f (length-map d.extents (λ (extent : Extent). index (take k names) scope extent.size)),
            subst (λ a. Owns (local_entries body ds a)) l (again (k + 1) (front ++ x ∷ []) (f ∙ sym (append_assoc front (x ∷ []) more))),
          )

  -- what a name is declared as is what the program has
  own_meaning : (es : List Entry) (name : List ℕ) → Owns es → IsNamed program name (declared_meaning es name)
  own_meaning [] name h = tt
  own_meaning (e ∷ es) name h = by (pointwise nat_eq e.name name) refl (own_meaning es name h.1)
    where
      by : (b : Bool) → b ≡ pointwise nat_eq e.name name → IsNamed program name (declared_meaning es name) → IsNamed program name (if b then e.meaning else declared_meaning es name)
      by true same again = subst (λ n. IsNamed program n e.meaning) ((slice_eq-Decides Decides-eqb e.name name true same).0 refl) h.0
      by false same again = again

pub names_mean_their_own : NamesMeanTheirOwn
names_mean_their_own file name =
    let scope = fixed_scope (param_count file.params) in
    let names = names_of file in
    let program = program_of file in
    let inputs = arrays_from names scope Input is_whole 0 file.params in
    let locals = arrays_from names scope Local (is_loop_name file.body) (length file.params) file.locals in
    let c : length inputs ≡ input_count file.params = counted names scope file.params 0 in
    own_meaning program names scope names name
    (each_append (λ (e : Entry). IsNamed program e.name e.meaning) (param_entries file.params 0 0) (local_entries file.body file.locals (input_count file.params))
    (params_own program names scope locals file.params 0 [] [] refl refl)
    (subst (λ a. AllByRecursion (λ (e : Entry). IsNamed program e.name e.meaning) (local_entries file.body file.locals a)) c (locals_own program names scope file.body file.locals (length file.params) inputs refl)))
