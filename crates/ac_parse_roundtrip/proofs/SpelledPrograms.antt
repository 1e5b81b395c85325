-- What the items of declarations, pragma lines and whole programs spell.
use Rattle.std.specs.Prelude.{Bool, true, false, codes, Option, Some, None, slice_get, if◌then◌else◌}
use Rattle.std.specs.List.{flat_map, join_by}
use Rattle.std.proofs.Common.{◌≡◌, ℕ, List, [], ◌∷◌, ◌++◌, refl, ◌∙◌, ap, append_assoc}
use Rattle.std.proofs.lemmas.List.{append-nil}
use Rattle.ac_syntax.specs.Text.{Scope, whole_scope, array_name, name_or_none, is_operator}
use Rattle.ac_syntax.specs.Text as text
use Rattle.ac_syntax.specs.declared.tree.IndexExpr.{IndexExpr}
use Rattle.ac_syntax.specs.declared.tree.Comparison.{Comparison}
use Rattle.ac_syntax.specs.declared.tree.Kind.{Kind}
use Rattle.ac_syntax.specs.declared.tree.Kind.TheVariants.{Input, Local}
use Rattle.ac_syntax.specs.declared.tree.Array.{Array}
use Rattle.ac_syntax.specs.declared.tree.Slot.{Slot}
use Rattle.ac_syntax.specs.declared.tree.Slot.TheVariants as slot
use Rattle.ac_syntax.specs.declared.tree.Program.{Program}
use Rattle.ac_parse_roundtrip.specs.Items.{Item, spelled, space, mark, word, cond, line, stmt, declared, input_type, input, slot_items, local_line, line_end, pragma_line, context_line, symbol, commutative_line, output_line, head, pragma_lines, program}
use Rattle.ac_parse_roundtrip.proofs.ItemSpelling.{spelled_append, spelled_joined, spelled_each, flat_map_same, join_same, spelled_cond, spelled_subscripts}
use Rattle.ac_parse_roundtrip.proofs.SpelledStatements.{spelled_three, spelled_line, spelled_stmt}

-- ---- declarations

spelled_declared : (scope : Scope) (array : Array) → spelled (declared scope array) ≡ text.declared_text scope array
spelled_declared scope array = ap (λ l. array.name ++ l) (spelled_subscripts scope array.extents)

spelled_type : (extents : List IndexExpr) → spelled (input_type extents) ≡ text.input_type extents
spelled_type [] = refl
spelled_type (e ∷ extents) = refl

spelled_input : (scope : Scope) (array : Option Array) → spelled (input scope array) ≡ text.input_text scope array
spelled_input scope None = refl
spelled_input scope (Some array) =
    spelled_append (input_type array.extents) (declared scope array) ∙ ap (λ l. l ++ spelled (declared scope array)) (spelled_type array.extents)
    ∙ ap (λ l. text.input_type array.extents ++ l) (spelled_declared scope array)

spelled_slot : (scope : Scope) (s : Slot) → spelled (slot_items scope s) ≡ text.slot_text scope s
spelled_slot scope (slot.Param k) = ap (λ l. codes "int " ++ l) (append-nil (name_or_none (slice_get scope.params k)))
spelled_slot scope (slot.Array k) = spelled_input scope (slice_get scope.arrays k)

spelled_local : (scope : Scope) (k : Kind) (array : Array) → spelled (local_line scope k array) ≡ text.local_line scope k array
spelled_local scope Input array = refl
spelled_local scope Local array =
    spelled_line (codes "  ") (word (codes "int") ∷ space ∷ declared scope array ++ mark (codes ";") ∷ [])
    ∙ ap (λ l. text.line (codes "  ") (codes "int " ++ l)) (spelled_append (declared scope array) (mark (codes ";") ∷ []) ∙ ap (λ l. l ++ codes ";") (spelled_declared scope array))

-- ---- pragma lines

spelled_pragma : (name : List ℕ) (items : List Item) → spelled (pragma_line name items) ≡ text.line [] (codes "#pragma affine " ++ name ++ spelled items)
spelled_pragma name items =
    ap (λ l. codes "#pragma affine " ++ (name ++ l)) (spelled_append items (line_end ∷ [])) ∙ shape name (spelled items)
  where
    shape : (name rest : List ℕ) → codes "#pragma affine " ++ (name ++ (rest ++ 10 ∷ [])) ≡ [] ++ (codes "#pragma affine " ++ name ++ rest) ++ 10 ∷ []
    shape name rest = simp append_assoc

spelled_context : (scope : Scope) (parts : List Comparison) → spelled (context_line scope parts) ≡ text.context_line scope parts
spelled_context scope [] = refl
spelled_context scope (c ∷ parts) =
    spelled_pragma (codes "context") (space ∷ cond scope (record { parts = c ∷ parts }))
    ∙ ap (λ l. text.line [] (codes "#pragma affine context " ++ l)) (spelled_cond scope (record { parts = c ∷ parts }))

spelled_symbol : (name : List ℕ) → spelled (space ∷ symbol name ∷ []) ≡ codes " " ++ name
spelled_symbol name = by_test (is_operator name)
  where
    by_test : (t : Bool) → spelled (space ∷ (if t then mark name else word name) ∷ []) ≡ codes " " ++ name
    by_test true = ap (λ l. codes " " ++ l) (append-nil name)
    by_test false = ap (λ l. codes " " ++ l) (append-nil name)

spelled_commutative : (names : List (List ℕ)) → spelled (commutative_line names) ≡ text.commutative_line names
spelled_commutative [] = refl
spelled_commutative (name ∷ names) =
    spelled_pragma (codes "commutative") (flat_map (λ n. space ∷ symbol n ∷ []) (name ∷ names))
    ∙ ap (λ l. text.line [] (codes "#pragma affine commutative" ++ l))
    (spelled_each (λ n. space ∷ symbol n ∷ []) (name ∷ names) ∙ flat_map_same (λ n. spelled (space ∷ symbol n ∷ [])) (λ n. codes " " ++ n) spelled_symbol (name ∷ names))

spelled_output : (scope : Scope) (outputs : Option (List ℕ)) → spelled (output_line scope outputs) ≡ text.output_line scope outputs
spelled_output scope None = refl
spelled_output scope (Some outputs) =
    spelled_pragma (codes "output") (flat_map (λ k. space ∷ word (array_name (slice_get scope.arrays k)) ∷ []) outputs)
    ∙ ap (λ l. text.line [] (codes "#pragma affine output" ++ l)) (
    spelled_each (λ k. space ∷ word (array_name (slice_get scope.arrays k)) ∷ []) outputs
    ∙ flat_map_same (λ k. spelled (space ∷ word (array_name (slice_get scope.arrays k)) ∷ [])) (λ k. codes " " ++ array_name (slice_get scope.arrays k))
    (λ k. ap (λ l. codes " " ++ l) (append-nil (array_name (slice_get scope.arrays k)))) outputs)

-- ---- the program

spelled_head : (scope : Scope) (name : List ℕ) (slots : List Slot) → spelled (head scope name slots) ≡ text.head_text scope name slots
spelled_head scope name slots =
    ap (λ l. codes "void " ++ (name ++ (codes "(" ++ l))) (
    spelled_append (join_by (slot_items scope) (mark (codes ",") ∷ space ∷ []) slots) (mark (codes ")") ∷ space ∷ mark (codes "{") ∷ [])
    ∙ ap (λ l. l ++ codes ") {") (spelled_joined (slot_items scope) (mark (codes ",") ∷ space ∷ []) slots ∙ join_same (λ s. spelled (slot_items scope s)) (text.slot_text scope) (codes ", ") (spelled_slot scope) slots))
    ∙ shape name (join_by (text.slot_text scope) (codes ", ") slots)
  where
    shape : (name slots : List ℕ) → codes "void " ++ (name ++ (codes "(" ++ (slots ++ codes ") {"))) ≡ codes "void " ++ name ++ codes "(" ++ slots ++ codes ") {"
    shape name slots = simp append_assoc

spelled_pragmas : (p : Program) → spelled (pragma_lines p) ≡ text.pragma_lines p
spelled_pragmas p =
    let scope = whole_scope p in
    spelled_three (context_line scope p.context.parts) (commutative_line p.commutative) (output_line scope p.outputs)
    ∙ ap (λ l. l ++ spelled (commutative_line p.commutative) ++ spelled (output_line scope p.outputs)) (spelled_context scope p.context.parts)
    ∙ ap (λ l. text.context_line scope p.context.parts ++ l ++ spelled (output_line scope p.outputs)) (spelled_commutative p.commutative)
    ∙ ap (λ l. text.context_line scope p.context.parts ++ text.commutative_line p.commutative ++ l) (spelled_output scope p.outputs)

spelled_five : (a b c d e : List Item) → spelled (a ++ b ++ c ++ d ++ e) ≡ spelled a ++ spelled b ++ spelled c ++ spelled d ++ spelled e
spelled_five a b c d e = spelled_append (a ++ b ++ c ++ d) e ∙ ap (λ l. l ++ spelled e) (spelled_append (a ++ b ++ c) d ∙ ap (λ l. l ++ spelled d) (spelled_three a b c))

-- the canonical text
pub spelled_program : (p : Program) → spelled (program p) ≡ text.program_text p
spelled_program p =
    let scope = whole_scope p in
    let a = pragma_lines p in
    let b = line [] (head scope p.name p.slots) in
    let c = flat_map (λ (a : Array). local_line scope a.kind a) p.arrays in
    let d = flat_map (stmt scope (codes "  ")) p.body in
    let e = line [] (mark (codes "}") ∷ []) in
    let head_is = spelled_line [] (head scope p.name p.slots) ∙ ap (text.line []) (spelled_head scope p.name p.slots) in
    let locals_are = spelled_each (λ (a : Array). local_line scope a.kind a) p.arrays
    ∙ flat_map_same (λ (a : Array). spelled (local_line scope a.kind a)) (λ (a : Array). text.local_line scope a.kind a) (λ a. spelled_local scope a.kind a) p.arrays in
    let body_is = spelled_each (stmt scope (codes "  ")) p.body ∙ flat_map_same (λ s. spelled (stmt scope (codes "  ") s)) (text.stmt_text scope (codes "  ")) (spelled_stmt scope (codes "  ")) p.body in
    spelled_five a b c d e
    ∙ ap (λ l. l ++ spelled b ++ spelled c ++ spelled d ++ spelled e) (spelled_pragmas p)
    ∙ ap (λ l. text.pragma_lines p ++ l ++ spelled c ++ spelled d ++ spelled e) head_is
    ∙ ap (λ l. text.pragma_lines p ++ text.line [] (text.head_text scope p.name p.slots) ++ l ++ spelled d ++ spelled e) locals_are
    ∙ ap (λ l. text.pragma_lines p ++ text.line [] (text.head_text scope p.name p.slots) ++ flat_map (λ (a : Array). text.local_line scope a.kind a) p.arrays ++ l ++ spelled e) body_is
