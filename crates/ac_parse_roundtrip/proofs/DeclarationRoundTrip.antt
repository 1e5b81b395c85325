-- The rules read declarations back from the trees of a canonical text.
use Rattle.std.proofs.Common.{◌≡◌, ℕ, suc, ◌+◌, ◌≤◌, List, [], ◌∷◌, map, take, length, refl, sym, ap, subst, ◌∙◌, Bool, true, false, not, cond, ◌&&◌, ◌==◌, nat_lt, arith, Some, None}
use Rattle.std.specs.Prelude.{slice_get}
use Rattle.std.specs.List.{list_any}
use Rattle.std.proofs.lemmas.Bool.Decides.{nat_tests}
use Rattle.std.proofs.lemmas.List.Sums.{sum_by-cons}
use Rattle.ac_syntax.specs.declared.tree.IndexExpr.{IndexExpr}
use Rattle.ac_syntax.specs.declared.tree.Place.{Place}
use Rattle.ac_syntax.specs.declared.tree.Kind.{Kind}
use Rattle.ac_syntax.specs.declared.tree.Kind.TheVariants.{Input, Local}
use Rattle.ac_syntax.specs.declared.tree.Array.{Array}
use Rattle.ac_syntax.specs.declared.tree.Slot.{Slot}
use Rattle.ac_syntax.specs.declared.tree.Slot.TheVariants as slot
use Rattle.ac_syntax.specs.declared.tree.Program.{Program}
use Rattle.ac_syntax.specs.Text as text
use Rattle.ac_syntax.specs.Text.{whole_scope, name_or_none}
use Rattle.ac_parse_grammar.specs.declared.tree.Extent.{Extent}
use Rattle.ac_parse_grammar.specs.declared.tree.Declared.{Declared}
use Rattle.ac_parse_grammar.specs.declared.tree.Statement.{Statement}
use Rattle.ac_parse_exprs.specs.declared.scope.Meaning.{Meaning}
use Rattle.ac_parse_exprs.specs.declared.scope.Meaning.TheVariants as means
use Rattle.ac_parse_exprs.specs.declared.scope.Entry.{Entry}
use Rattle.ac_parse_exprs.specs.declared.scope.Scope.{Scope}
use Rattle.ac_parse_exprs.specs.Meanings.{declared_meaning}
use Rattle.ac_parse_exprs.specs.Comparisons.{index, index_broken}
use Rattle.ac_parse_rules.specs.Declarations.{runs, is_whole, is_loop_name, entry, count, param_entries, local_entries, param_count, input_count, fixed_scope, is_declared, count_broken, extents_broken, name_broken, declared_broken, each_declared_broken, array_of, arrays_from, slots_from, param_names}
use Rattle.ac_parse_exprs.proofs.Absent.{NoneBroken}
use Rattle.ac_parse_roundtrip.specs.CanonicalTrees.{Each, IsExtentTree, IsDeclaredTree, has_dimensions, IsParameterTree, IsInputTree, IsSlotTree}
use Rattle.ac_parse_roundtrip.specs.PlaceErasure.{forms_without_places, array_without_places}
use Rattle.ac_parse_roundtrip.specs.CanonicalPrograms.{array_entry, entry_at, slot_entry, entries_from, IsFew, FitsDeclaration, DeclarationsFit, FitsArray, SlotsFit, LocalsFit}
use Rattle.ac_parse_roundtrip.proofs.QuotientRoundTrip.{forms_are_read_back}
use Rattle.ac_parse_roundtrip.proofs.ConditionRoundTrip.{none_broken, same_length}
use Rattle.ac_parse_roundtrip.specs.ColumnNames.{FitScope}

none_more : (n : ℕ) → n + 0 ≡ n
none_more n = omega arith

not_both : (b : Bool) → (b && false) ≡ false
not_both true = refl
not_both false = refl

-- ---- whole numbers and arrays of a parameter list

whole_param : (name : List ℕ) (d : Declared) → IsParameterTree name d → is_whole d ≡ true
whole_param name d t = rw (t.whole, t.extents) refl

some_extents : (n k : ℕ) → n ≡ suc k → (n == 0) ≡ false
some_extents n k h = grind (arith, nat_tests)

whole_case : (scope : text.Scope) (array : Array) (extents : List IndexExpr) (d : Declared) → d.whole ≡ has_dimensions extents → Each (IsExtentTree scope) extents d.extents → is_whole d ≡ false
whole_case scope array [] d w t = rw w refl
whole_case scope array (e ∷ es) d w t = let l = same_length (IsExtentTree scope) (e ∷ es) d.extents t in rw (w, some_extents (length d.extents) (length es) l) refl

whole_input : (scope : text.Scope) (array : Array) (d : Declared) → IsDeclaredTree scope (has_dimensions array.extents) array d → is_whole d ≡ false
whole_input scope array d t = whole_case scope array array.extents d t.whole t.extents

entries_whole : (d : Declared) (ds : List Declared) (k a : ℕ) → is_whole d ≡ true → param_entries (d ∷ ds) k a ≡ entry d (means.Parameter k) ∷ param_entries ds (k + 1) a
entries_whole d ds k a w = rw (w, none_more a) refl

entries_other : (d : Declared) (ds : List Declared) (k a : ℕ) → is_whole d ≡ false → param_entries (d ∷ ds) k a ≡ entry d (means.Array a (length d.extents)) ∷ param_entries ds k (a + 1)
entries_other d ds k a w = rw (w, none_more k) refl

slots_whole : (d : Declared) (ds : List Declared) (k a : ℕ) → is_whole d ≡ true → slots_from (d ∷ ds) k a ≡ slot.Param k ∷ slots_from ds (k + 1) a
slots_whole d ds k a w = rw (w, none_more a) refl

slots_other : (d : Declared) (ds : List Declared) (k a : ℕ) → is_whole d ≡ false → slots_from (d ∷ ds) k a ≡ slot.Array a ∷ slots_from ds k (a + 1)
slots_other d ds k a w = rw (w, none_more k) refl

names_whole : (d : Declared) (ds : List Declared) → is_whole d ≡ true → param_names (d ∷ ds) ≡ d.name.name ∷ param_names ds
names_whole d ds w = rw w refl

names_other : (d : Declared) (ds : List Declared) → is_whole d ≡ false → param_names (d ∷ ds) ≡ param_names ds
names_other d ds w = rw w refl

integers_of : (d : Declared) (ds : List Declared) (b : Bool) → is_whole d ≡ b → param_count (d ∷ ds) ≡ count b + param_count ds
integers_of d ds b w = sum_by-cons (λ (x : Declared). cond (is_whole x) 1 0) d ds ∙ ap (λ c. count c + param_count ds) w

inputs_of : (d : Declared) (ds : List Declared) (b : Bool) → is_whole d ≡ b → input_count (d ∷ ds) ≡ count (not b) + input_count ds
inputs_of d ds b w = sum_by-cons (λ (x : Declared). cond (not (is_whole x)) 1 0) d ds ∙ ap (λ c. count (not c) + input_count ds) w

-- ---- one declaration

few_none : (m : Meaning) (place : Place) → IsFew m → count_broken m place ≡ None
few_none (means.Parameter k) place h = let l : nat_lt 3 k ≡ false = grind (arith, nat_tests) in rw l refl
few_none (means.Iterator k) place h = refl
few_none (means.Array k dimensions) place h = let l : nat_lt 31 k ≡ false = grind (arith, nat_tests) in rw l refl
few_none means.LoopName place h = refl
few_none means.OwnStart place h = refl
few_none means.Nothing place h = refl

no_fifth : (es : List Extent) → length es ≤ 4 → slice_get es 4 ≡ None
no_fifth [] h = refl
no_fifth (a ∷ []) h = refl
no_fifth (a ∷ b ∷ []) h = refl
no_fifth (a ∷ b ∷ c ∷ []) h = refl
no_fifth (a ∷ b ∷ c ∷ d ∷ []) h = refl
no_fifth (a ∷ b ∷ c ∷ d ∷ e ∷ es) h = absurd (omega (arith, h))

name_none : (names : List Entry) (i : ℕ) (d : Declared) (e : Entry) → FitsDeclaration names i e → d.name.name ≡ e.name → name_broken names i d ≡ None
name_none names i d e fit n =
    let m : declared_meaning names d.name.name ≡ e.meaning = ap (declared_meaning names) n ∙ fit.means in
    let u : is_declared (take i names) d.name.name ≡ false = ap (is_declared (take i names)) n ∙ fit.new in
    rw (u, m) (few_none e.meaning d.name.place fit.few)

declared_none : (names : List Entry) (scope : Scope) (i : ℕ) (d : Declared) (e : Entry) → FitsDeclaration names i e → d.name.name ≡ e.name → length d.extents ≤ 4 → extents_broken (take i names) scope d.extents ≡ None
    → declared_broken names scope i d ≡ None
declared_none names scope i d e fit n l x = rw (name_none names i d e fit n, no_fifth d.extents l, x) refl

-- ---- extents

module _ (names : List Entry) (scope : Scope) (written : text.Scope) where
  extents_none : (es : List IndexExpr) (ts : List Extent) → FitScope names scope written es → Each (IsExtentTree written) es ts → NoneBroken (map (λ t. index_broken names scope t.size) ts)
  extents_none [] [] fit t = tt
  extents_none [] (x ∷ ts) fit t = absurd t
  extents_none (e ∷ es) [] fit t = absurd t
  extents_none (e ∷ es) (x ∷ ts) fit t = ((forms_are_read_back names scope written e fit.0 x.size t.0).0, extents_none es ts fit.1 t.1)

  extents_same : (es : List IndexExpr) (ts : List Extent) → FitScope names scope written es → Each (IsExtentTree written) es ts → forms_without_places (map (λ t. index names scope t.size) ts) ≡ forms_without_places es
  extents_same [] [] fit t = refl
  extents_same [] (x ∷ ts) fit t = absurd t
  extents_same (e ∷ es) [] fit t = absurd t
  extents_same (e ∷ es) (x ∷ ts) fit t = rw ((forms_are_read_back names scope written e fit.0 x.size t.0).1, extents_same es ts fit.1 t.1) refl

module _ (p : Program) (names : List Entry) where
  abbrev scope : Scope
  scope = fixed_scope (length p.params)

  array_none : (kind : Kind) (is : Bool) (i a : ℕ) (x : Array) (d : Declared) → FitsArray p names kind i x → FitsDeclaration names i (array_entry a x) → IsDeclaredTree (whole_scope p) is x d → declared_broken names scope i d ≡ None
  array_none kind is i a x d fit e t =
      let l : length d.extents ≤ 4 = subst (λ n. n ≤ 4) (sym (same_length (IsExtentTree (whole_scope p)) x.extents d.extents t.extents)) fit.few in
      declared_none names scope i d (array_entry a x) e t.name l (none_broken _ (extents_none (take i names) scope (whole_scope p) x.extents d.extents fit.extents t.extents))

  array_same : (kind : Kind) (is : Bool) (i : ℕ) (x : Array) (d : Declared) → FitsArray p names kind i x → IsDeclaredTree (whole_scope p) is x d → array_without_places (array_of names scope kind i d) ≡ array_without_places x
  array_same kind is i x d fit t =
      let e = extents_same (take i names) scope (whole_scope p) x.extents d.extents fit.extents t.extents in
      rw (t.name, e, fit.kind) refl

  -- what the rules make of a parameter list
  pub record AreParams (i k a : ℕ) (ss : List Slot) (ns : List (List ℕ)) (xs : List Array) (ds : List Declared) : Type 0 where
    pub entries : param_entries ds k a ≡ map (slot_entry p) ss
    pub slots : slots_from ds k a ≡ ss
    pub named : param_names ds ≡ ns
    pub integers : param_count ds ≡ length ns
    pub inputs : input_count ds ≡ length xs
    pub arrays : map array_without_places (arrays_from names scope Input is_whole i ds) ≡ map array_without_places xs
    pub none : NoneBroken (each_declared_broken names scope i ds)

  param_more : (i k a j : ℕ) (ss : List Slot) (n : List ℕ) (ns : List (List ℕ)) (xs : List Array) (d : Declared) (ds : List Declared) → j ≡ k → slice_get p.params j ≡ Some n
      → FitsDeclaration names i (slot_entry p (slot.Param j)) → IsParameterTree (name_or_none (slice_get p.params j)) d → AreParams (i + 1) (k + 1) a ss ns xs ds → AreParams i k a (slot.Param j ∷ ss) (n ∷ ns) xs (d ∷ ds)
  param_more i k a j ss n ns xs d ds e g f t r =
      let w = whole_param (name_or_none (slice_get p.params j)) d t in
      let c : d.name.name ≡ n = t.name ∙ ap name_or_none g in
      let l : length d.extents ≤ 4 = rw t.extents (omega arith) in
      let x : extents_broken (take i names) scope d.extents ≡ None = rw t.extents refl in
      record {
        entries = entries_whole d ds k a w ∙ rw (r.entries, t.name, e) refl;
        slots = slots_whole d ds k a w ∙ rw (r.slots, e) refl;
        named = names_whole d ds w ∙ rw (r.named, c) refl;
        integers = integers_of d ds true w ∙ (let q = r.integers in omega arith);
        inputs = inputs_of d ds true w ∙ (let q = r.inputs in omega arith);
        arrays = rw w r.arrays;
        none = (declared_none names scope i d (slot_entry p (slot.Param j)) f t.name l x, r.none);
      }

  input_more : (i k a j : ℕ) (ss : List Slot) (ns : List (List ℕ)) (x : Array) (xs : List Array) (d : Declared) (ds : List Declared) → j ≡ a → slice_get p.arrays j ≡ Some x → FitsArray p names Input i x
      → FitsDeclaration names i (slot_entry p (slot.Array j)) → IsInputTree (whole_scope p) (slice_get p.arrays j) d → AreParams (i + 1) k (a + 1) ss ns xs ds → AreParams i k a (slot.Array j ∷ ss) ns (x ∷ xs) (d ∷ ds)
  input_more i k a j ss ns x xs d ds e g fit f t r =
      let u = subst (λ o. IsInputTree (whole_scope p) o d) g t in
      let v = subst (λ o. FitsDeclaration names i (entry_at j o)) g f in
      let w = whole_input (whole_scope p) x d u in
      let l = same_length (IsExtentTree (whole_scope p)) x.extents d.extents u.extents in
      let s = array_same Input (has_dimensions x.extents) i x d fit u in
      record {
        entries = entries_other d ds k a w ∙ rw (r.entries, u.name, l, ← e, g) refl;
        slots = slots_other d ds k a w ∙ rw (r.slots, e) refl;
        named = names_other d ds w ∙ r.named;
        integers = integers_of d ds false w ∙ (let q = r.integers in omega arith);
        inputs = inputs_of d ds false w ∙ (let q = r.inputs in omega arith);
        arrays = rw (w, s, r.arrays) refl;
        none = (array_none Input (has_dimensions x.extents) i j x d fit v u, r.none);
      }

  pub params_read : (i k a : ℕ) (ss : List Slot) (ns : List (List ℕ)) (xs : List Array) (ds : List Declared) → SlotsFit p names i k a ss ns xs → DeclarationsFit names i (map (slot_entry p) ss)
      → Each (IsSlotTree (whole_scope p)) ss ds → AreParams i k a ss ns xs ds
  params_read i k a [] [] [] [] f e t = record { entries = refl; slots = refl; named = refl; integers = refl; inputs = refl; arrays = refl; none = tt }
  params_read i k a [] ns xs (d ∷ ds) f e t = absurd t
  params_read i k a [] [] (x ∷ xs) [] f e t = absurd f
  params_read i k a [] (n ∷ ns) xs [] f e t = absurd f
  params_read i k a (s ∷ ss) ns xs [] f e t = absurd t
  params_read i k a (slot.Param j ∷ ss) [] xs (d ∷ ds) f e t = absurd f
  params_read i k a (slot.Param j ∷ ss) (n ∷ ns) xs (d ∷ ds) f e t =
      param_more i k a j ss n ns xs d ds f.0 f.1 e.0 t.0 (params_read (i + 1) (k + 1) a ss ns xs ds f.2 e.1 t.1)
  params_read i k a (slot.Array j ∷ ss) ns [] (d ∷ ds) f e t = absurd f
  params_read i k a (slot.Array j ∷ ss) ns (x ∷ xs) (d ∷ ds) f e t =
      input_more i k a j ss ns x xs d ds f.0 f.1 f.2 e.0 t.0 (params_read (i + 1) k (a + 1) ss ns xs ds f.3 e.1 t.1)

  -- what they make of the locals, where no loop goes without a type
  module _ (body : List Statement) (typed : (name : List ℕ) → list_any (runs name) body ≡ false) where
    pub record AreLocals (i a : ℕ) (xs : List Array) (ds : List Declared) : Type 0 where
      pub entries : local_entries body ds a ≡ entries_from a xs
      pub arrays : map array_without_places (arrays_from names scope Local (is_loop_name body) i ds) ≡ map array_without_places xs
      pub none : NoneBroken (each_declared_broken names scope i ds)

    no_loop_name : (d : Declared) → is_loop_name body d ≡ false
    no_loop_name d = rw (typed d.name.name) (not_both (is_whole d))

    entries_local : (d : Declared) (ds : List Declared) (a : ℕ) → local_entries body (d ∷ ds) a ≡ entry d (means.Array a (length d.extents)) ∷ local_entries body ds (a + 1)
    entries_local d ds a = rw (no_loop_name d) refl

    arrays_local : (d : Declared) (ds : List Declared) (i : ℕ) → arrays_from names scope Local (is_loop_name body) i (d ∷ ds) ≡ array_of names scope Local i d ∷ arrays_from names scope Local (is_loop_name body) (i + 1) ds
    arrays_local d ds i = rw (no_loop_name d) refl

    pub locals_read : (i a : ℕ) (xs : List Array) (ds : List Declared) → LocalsFit p names i xs → DeclarationsFit names i (entries_from a xs) → Each (IsDeclaredTree (whole_scope p) true) xs ds → AreLocals i a xs ds
    locals_read i a [] [] f e t = record { entries = refl; arrays = refl; none = tt }
    locals_read i a [] (d ∷ ds) f e t = absurd t
    locals_read i a (x ∷ xs) [] f e t = absurd t
    locals_read i a (x ∷ xs) (d ∷ ds) f e t =
        let r = locals_read (i + 1) (a + 1) xs ds f.1 e.1 t.1 in
        let l = same_length (IsExtentTree (whole_scope p)) x.extents d.extents t.0.extents in
        record {
          entries = entries_local d ds a ∙ rw (r.entries, t.0.name, l) refl;
          arrays = ap (map array_without_places) (arrays_local d ds i) ∙ rw (array_same Local true i x d f.0 t.0, r.arrays) refl;
          none = (array_none Local true i a x d f.0 e.0 t.0, r.none);
        }
