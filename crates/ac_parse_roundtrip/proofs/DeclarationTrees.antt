-- The trees of declarations.
use Rattle.std.specs.Prelude.{List, [], ◌∷◌, ◌++◌, length, codes, Bool, true, false, Option, None, Some, slice_get}
use Rattle.std.specs.List.{flat_map, join_by, AllByRecursion}
use Rattle.std.proofs.Common.{◌≡◌, ℕ, suc, ◌+◌, refl, sym, ◌∙◌, ap, subst}
use Rattle.std.proofs.lemmas.List.{append-nil}
use Rattle.ac_syntax.specs.declared.tree.IndexExpr.{IndexExpr}
use Rattle.ac_syntax.specs.declared.tree.Kind.{Kind}
use Rattle.ac_syntax.specs.declared.tree.Kind.TheVariants.{Input, Local}
use Rattle.ac_syntax.specs.declared.tree.Array.{Array}
use Rattle.ac_syntax.specs.declared.tree.Slot.{Slot}
use Rattle.ac_syntax.specs.declared.tree.Slot.TheVariants as slot
use Rattle.ac_syntax.specs.declared.tree.Program.{Program}
use Rattle.ac_syntax.specs.Text.{Scope, whole_scope, name_or_none}
use Rattle.ac_syntax.proofs.Pairwise.{every_map}
use Rattle.ac_lex.specs.Lexemes.{Lexeme}
use Rattle.ac_parse_grammar.specs.declared.tree.Extent.{Extent}
use Rattle.ac_parse_grammar.specs.declared.tree.Declared.{Declared}
use Rattle.ac_parse_grammar.specs.TokenWords.{place_of, word_of}
use Rattle.ac_parse_grammar.specs.DeclarationsGrammar as g
use Rattle.ac_parse_grammar.specs.DeclarationsGrammar.{numbers_of, IsRun, IsNext, IsList, IsType, IsExtent, IsDeclared, IsParameter, IsParameters, IsDeclaration, IsDeclarations}
use Rattle.ac_parse_roundtrip.specs.Items.{Item, lexemes, space, mark, word, form, subscript, line, declared, input_type, input, slot_items, local_line}
use Rattle.ac_parse_roundtrip.specs.CanonicalTrees.{Each, IsExtentTree, IsDeclaredTree, has_dimensions, IsInputTree, IsParameterTree, IsSlotTree, local_of, locals}
use Rattle.ac_parse_roundtrip.specs.GrammarPrograms.{IsName, HasLiterals, HasArrayNames, HasInput, HasSlotName}
use Rattle.ac_parse_roundtrip.proofs.ItemSequences.{after, lexemes-append, Reads}
use Rattle.ac_parse_roundtrip.proofs.TokenTerminals.{mark_at, word_at, name_is, int_is, double_is, open_bracket_is, close_bracket_is, comma_is, semicolon_is}
use Rattle.ac_parse_roundtrip.proofs.PartSequences.{run}
use Rattle.ac_parse_roundtrip.proofs.FormTrees.{IsNamedScope, form_read}
use Rattle.ac_parse_roundtrip.proofs.Calls.{comma_items}
use Rattle.ac_parse_roundtrip.proofs.Lines.{below, line_then}

-- ---- extents

extent_read : (room : ℕ) (scope : Scope) → IsNamedScope scope → (e : IndexExpr) → HasLiterals e → Reads (IsExtent (suc (suc (suc room)))) (IsExtentTree scope e) (subscript scope e)
extent_read room scope named e has = record {
  at = λ at.
      let x = (form_read room scope named e has).at (at + 1) in
      let close = after (at + 1) (form scope e) in
      let left = mark_at at (codes "[") in
      let tree : Extent = record { size = x.0; place = place_of left } in (
        tree,
        subst (λ ts. IsExtent (suc (suc (suc room))) (left ∷ ts) tree) (sym (lexemes-append (at + 1) (form scope e) (mark (codes "]") ∷ [])))
            (g.extent (mark_at close (codes "]")) (open_bracket_is at) x.1 (close_bracket_is close)),
        x.2,
      );
}

-- names with their extents
declared_read : (room : ℕ) (scope : Scope) (whole : Bool) (array : Array) → IsNamedScope scope → HasArrayNames array
    → Reads (IsDeclared whole (suc (suc (suc room)))) (IsDeclaredTree scope whole array) (declared scope array)
declared_read room scope whole array named has = record {
  at = λ at.
      let n = word_at at array.name in
      let x = (run (IsExtent (suc (suc (suc room)))) (IsExtentTree scope) (subscript scope) array.extents
      (every_map HasLiterals (λ e. Reads (IsExtent (suc (suc (suc room)))) (IsExtentTree scope e) (subscript scope e)) (extent_read room scope named) array.extents has.extents)).at
      (at + length array.name) in
      (record { whole = whole; name = word_of n; extents = x.0 }, g.declared (name_is at array.name has.name) x.1, record { whole = refl; name = refl; extents = x.2 });
}

-- ---- parameters

-- the words of types
int_type : (at : ℕ) → IsType (word_at at (codes "int") ∷ []) true
int_type at = g.plain (ap numbers_of (int_is at))

double_type : (at : ℕ) → IsType (word_at at (codes "double") ∷ []) false
double_type at = g.plain (ap numbers_of (double_is at))

typed_read : (room : ℕ) (whole : Bool) (text : List ℕ) (T : Declared → Type 0) (is : List Item) → ((at : ℕ) → IsType (word_at at text ∷ []) whole)
    → Reads (IsDeclared whole room) T is → Reads (IsParameter room) T (word text ∷ space ∷ is)
typed_read room whole text T is types r = record { at = λ at. let x = r.at (at + length text + 1) in (x.0, g.parameter (types at) x.1, x.2) }

scalar_read : (room : ℕ) (name : List ℕ) → IsName name → Reads (IsDeclared true room) (IsParameterTree name) (word name ∷ [])
scalar_read room name named = record {
  at = λ at.
      let n = word_at at name in
      (record { whole = true; name = word_of n; extents = [] }, g.declared (name_is at name named) g.no_item, record { whole = refl; name = refl; extents = refl });
}

-- an input by its dimensions
dimensioned_read : (room : ℕ) (extents : List IndexExpr) (T : Declared → Type 0) (is : List Item) → Reads (IsDeclared (has_dimensions extents) room) T is
    → Reads (IsParameter room) T (input_type extents ++ is)
dimensioned_read room [] T is r = typed_read room false (codes "double") T is double_type r
dimensioned_read room (e ∷ extents) T is r = typed_read room true (codes "int") T is int_type r

input_read : (room : ℕ) (scope : Scope) (array : Option Array) → IsNamedScope scope → HasInput array → Reads (IsParameter (suc (suc (suc room)))) (IsInputTree scope array) (input scope array)
input_read room scope None named has = absurd has
input_read room scope (Some array) named has =
    dimensioned_read (suc (suc (suc room))) array.extents (IsDeclaredTree scope (has_dimensions array.extents) array) (declared scope array)
    (declared_read room scope (has_dimensions array.extents) array named has)

slot_read : (room : ℕ) (p : Program) → IsNamedScope (whole_scope p) → (s : Slot) → HasSlotName p s
    → Reads (IsParameter (suc (suc (suc room)))) (IsSlotTree (whole_scope p) s) (slot_items (whole_scope p) s)
slot_read room p named (slot.Param k) has =
    let name = name_or_none (slice_get p.params k) in typed_read (suc (suc (suc room))) true (codes "int") (IsParameterTree name) (word name ∷ []) int_type (scalar_read (suc (suc (suc room))) name has)
slot_read room p named (slot.Array k) has = input_read room (whole_scope p) (slice_get p.arrays k) named has

next_read : {A : Type 0} (One : List Lexeme → A → Type 0) (T : A → Type 0) (is : List Item) → Reads One T is → Reads (IsNext One) T (comma_items ++ is)
next_read One T is r = record { at = λ at. let x = r.at (at + 1 + 1) in (x.0, g.next_item {comma = mark_at at (codes ",")} (comma_is at) x.1, x.2) }

module _ (room : ℕ) (p : Program) (named : IsNamedScope (whole_scope p)) where
  abbrev SlotReads : Slot → Type 0
  SlotReads s = Reads (IsParameter (suc (suc (suc room)))) (IsSlotTree (whole_scope p) s) (slot_items (whole_scope p) s)

  abbrev slot_behind : Slot → List Item
  slot_behind s = comma_items ++ slot_items (whole_scope p) s

  slots_behind : (slots : List Slot) → AllByRecursion (HasSlotName p) slots → Reads (IsRun (IsNext (IsParameter (suc (suc (suc room)))))) (Each (IsSlotTree (whole_scope p)) slots) (flat_map slot_behind slots)
  slots_behind slots has =
      run (IsNext (IsParameter (suc (suc (suc room))))) (IsSlotTree (whole_scope p)) slot_behind slots
      (every_map (HasSlotName p) (λ s. Reads (IsNext (IsParameter (suc (suc (suc room))))) (IsSlotTree (whole_scope p) s) (slot_behind s))
      (λ s h. next_read (IsParameter (suc (suc (suc room)))) (IsSlotTree (whole_scope p) s) (slot_items (whole_scope p) s) (slot_read room p named s h)) slots has)

  pub parameters_read : (slots : List Slot) → AllByRecursion (HasSlotName p) slots
      → Reads (IsParameters (suc (suc (suc room)))) (Each (IsSlotTree (whole_scope p)) slots) (join_by (slot_items (whole_scope p)) comma_items slots)
  parameters_read [] has = record { at = λ at. ([], g.no_parameter, tt) }
  parameters_read (s ∷ slots) has = record {
    at = λ at.
        let is = slot_items (whole_scope p) s in
        let x = (slot_read room p named s has.0).at at in
        let y = (slots_behind slots has.1).at (after at is) in (
          x.0 ∷ y.0,
          subst (λ ts. IsParameters (suc (suc (suc room))) ts (x.0 ∷ y.0)) (sym (lexemes-append at is (flat_map slot_behind slots))) (g.parameters (g.items x.1 y.1)),
          (x.2, y.2),
        );
  }

-- ---- locals

-- one in a list
alone : {A : Type 0} {One : List Lexeme → A → Type 0} (ts : List Lexeme) (a : A) → One ts a → IsList One ts (a ∷ [])
alone {One = One} ts a x = subst (λ us. IsList One us (a ∷ [])) (append-nil ts) (g.items x g.no_item)

abbrev local_items : Scope → Array → List Item
local_items scope array = word (codes "int") ∷ space ∷ declared scope array ++ mark (codes ";") ∷ []

module _ (room : ℕ) (scope : Scope) (named : IsNamedScope scope) where
  abbrev LocalsRead : List Array → List Item → Type 0
  LocalsRead arrays is = Reads (IsDeclarations (suc (suc (suc room)))) (Each (IsDeclaredTree scope true) arrays) is

  one_local : (array : Array) → HasArrayNames array → (arrays : List Array) (is : List Item) → LocalsRead arrays is
      → LocalsRead (array ∷ arrays) (line (codes "  ") (local_items scope array) ++ is)
  one_local array has arrays is r = record {
    at = λ at.
        let a = at + 2 in
        let from = a + 3 + 1 in
        let x = (declared_read room scope true array named has).at from in
        let close = after from (declared scope array) in
        let y = r.at (below at (codes "  ") (local_items scope array)) in
        let all = x.0 ∷ y.0 in
        let end = mark_at close (codes ";") in
        let ts = lexemes from (declared scope array) in
        let us = lexemes (below at (codes "  ") (local_items scope array)) is in
        let same : lexemes at (line (codes "  ") (local_items scope array) ++ is) ≡ (word_at a (codes "int") ∷ ts ++ end ∷ []) ++ us
        = line_then at (codes "  ") (local_items scope array) is ∙ ap (λ vs. word_at a (codes "int") ∷ vs ++ us) (lexemes-append from (declared scope array) (mark (codes ";") ∷ [])) in (
          all,
          subst (λ vs. IsDeclarations (suc (suc (suc room))) vs all) (sym same) (g.a_declaration (g.declaration end (int_type a) (alone ts x.0 x.1) (semicolon_is close)) y.1),
          (x.2, y.2),
        );
  }

  abbrev line_of : Array → List Item
  line_of a = local_line scope a.kind a

  by_kind : (kind : Kind) (array : Array) → HasArrayNames array → (arrays : List Array) (is : List Item) → LocalsRead arrays is
      → LocalsRead (local_of kind array ++ arrays) (local_line scope kind array ++ is)
  by_kind Input array has arrays is r = r
  by_kind Local array has arrays is r = one_local array has arrays is r

  pub locals_read : (arrays : List Array) → AllByRecursion HasArrayNames arrays → LocalsRead (locals arrays) (flat_map line_of arrays)
  locals_read [] has = record { at = λ at. ([], g.no_declaration, tt) }
  locals_read (a ∷ arrays) has = by_kind a.kind a has.0 (locals arrays) (flat_map line_of arrays) (locals_read arrays has.1)
