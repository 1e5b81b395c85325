-- The tokens of the items of declarations, pragma lines and whole programs.
use Rattle.std.specs.Prelude.{codes, Option, Some, None, slice_get, if◌then◌else◌, IfSome}
use Rattle.std.specs.List.{flat_map, join_by, AllByRecursion}
use Rattle.std.proofs.Common.{◌≡◌, ℕ, zero, suc, ◌<◌, List, [], ◌∷◌, ◌++◌, length, refl, sym, subst, arith, append_assoc}
use Rattle.ac_syntax.specs.Text.{Scope, whole_scope, array_name, name_or_none, program_text}
use Rattle.ac_syntax.specs.declared.tree.IndexExpr.{IndexExpr}
use Rattle.ac_syntax.specs.declared.tree.Comparison.{Comparison}
use Rattle.ac_syntax.specs.declared.tree.Kind.{Kind}
use Rattle.ac_syntax.specs.declared.tree.Kind.TheVariants.{Input, Local}
use Rattle.ac_syntax.specs.declared.tree.Array.{Array}
use Rattle.ac_syntax.specs.declared.tree.Slot.{Slot}
use Rattle.ac_syntax.specs.declared.tree.Slot.TheVariants as slot
use Rattle.ac_syntax.specs.declared.tree.Program.{Program}
use Rattle.ac_lex.specs.Bytes.{is_gap}
use Rattle.ac_lex.specs.Tokens.{AreTokens}
use Rattle.ac_parse_roundtrip.specs.Items.{Item, spelled, lexemes, space, mark, word, cond, line, stmt, declared, input_type, input, slot_items, local_line, pragma_line, context_line, symbol, commutative_line, output_line, head, pragma_lines, program}
use Rattle.ac_parse_roundtrip.specs.ProgramWords.{IsWord, IsCommutative, called, operated, AreComparisons, IsDeclared, IsThere, HasWords, HasStmtWords}
use Rattle.ac_parse_roundtrip.proofs.SpelledPrograms.{spelled_program}
use Rattle.ac_parse_roundtrip.proofs.Pieces.{Stops, IsQuiet}
use Rattle.ac_parse_roundtrip.proofs.Apart.{Stands, AllStand, stand_append}
use Rattle.ac_parse_roundtrip.proofs.TokenItems.{fixed_word, word_stands, space_stands, round_opens, round_closes, body_opens, semicolon_stands}
use Rattle.ac_parse_roundtrip.proofs.FormItems.{Stand, HasScopeWords, joined_stand, cond_stands}
use Rattle.ac_parse_roundtrip.proofs.ValueItems.{word_first, operator_first, operator_stands, array_word, access_stands, comma}
use Rattle.ac_parse_roundtrip.proofs.StatementItems.{StandsAlone, alone_append, each_alone, no_indent, one_level, line_stands, closing_line, stmt_stands}
use Rattle.ac_parse_roundtrip.proofs.PragmaLines.{AreRead, AreLines, no_lines, read_append, lines_append, read_alone, all_tokens, is_pragma_line}

-- ---- declarations

declared_stands : (scope : Scope) (a : Array) → HasScopeWords scope → IsDeclared a → Stand (declared scope a)
declared_stands scope a words is = (access_stands scope a.name a.extents words is.name is.extents).stand

type_stands : (extents : List IndexExpr) (rest : List ℕ) → AllStand is_gap (input_type extents) rest
type_stands [] rest = (word_stands (codes "double") _ (fixed_word (codes "double") refl) refl, (space_stands, tt))
type_stands (e ∷ extents) rest = (word_stands (codes "int") _ (fixed_word (codes "int") refl) refl, (space_stands, tt))

input_stands : (scope : Scope) (arrays : List Array) (k : ℕ) → HasScopeWords scope → AllByRecursion IsDeclared arrays → Stand (input scope (slice_get arrays k))
input_stands scope [] k words are = λ rest stops. tt
input_stands scope (a ∷ arrays) zero words are = λ rest stops.
    stand_append is_gap (input_type a.extents) (declared scope a) rest (type_stands a.extents (spelled (declared scope a) ++ rest)) (declared_stands scope a words are.0 rest stops)
input_stands scope (a ∷ arrays) (suc k) words are = input_stands scope arrays k words are.1

param_word : (params : List (List ℕ)) (k : ℕ) → AllByRecursion IsWord params → k < length params → IsWord (name_or_none (slice_get params k))
param_word [] k all there = absurd (omega arith)
param_word (name ∷ params) zero all there = all.0
param_word (name ∷ params) (suc k) all there = param_word params k all.1 (omega arith)

slot_stands : (p : Program) → HasScopeWords (whole_scope p) → (s : Slot) → IsThere p s → Stand (slot_items (whole_scope p) s)
slot_stands p words (slot.Param k) there = λ rest stops.
    (word_stands (codes "int") _ (fixed_word (codes "int") refl) refl, (space_stands, (word_stands (name_or_none (slice_get p.params k)) rest (param_word p.params k words.params there) stops, tt)))
slot_stands p words (slot.Array k) there = input_stands (whole_scope p) p.arrays k words words.arrays

local_stands : (scope : Scope) (kind : Kind) (a : Array) → HasScopeWords scope → IsDeclared a → StandsAlone (local_line scope kind a)
local_stands scope Input a words is = λ rest. tt
local_stands scope Local a words is =
    line_stands (codes "  ") (word (codes "int") ∷ space ∷ declared scope a ++ mark (codes ";") ∷ []) one_level (λ rest stops. (
      word_stands (codes "int") _ (fixed_word (codes "int") refl) refl,
      (
        space_stands,
        stand_append is_gap (declared scope a) (mark (codes ";") ∷ []) rest (declared_stands scope a words is (59 ∷ rest) refl) (semicolon_stands rest, tt),
      ),
    ))

head_stands : (p : Program) → HasScopeWords (whole_scope p) → HasWords p → Stand (head (whole_scope p) p.name p.slots)
head_stands p words has rest stops =
    let slots = join_by (slot_items (whole_scope p)) (mark (codes ",") ∷ space ∷ []) p.slots in
    let after = mark (codes ")") ∷ space ∷ mark (codes "{") ∷ [] in (
      word_stands (codes "void") _ (fixed_word (codes "void") refl) refl,
      (
        space_stands,
        (
          word_stands p.name _ has.name refl,
          (
            round_opens _,
            stand_append is_gap slots after rest
                (joined_stand (IsThere p) (slot_items (whole_scope p)) (mark (codes ",") ∷ space ∷ []) (λ rest. refl) comma (slot_stands p words) p.slots has.slots (spelled after ++ rest) refl)
                (round_closes _, (space_stands, (body_opens rest, tt))),
          ),
        ),
      ),
    )

-- ---- pragma lines

named_line : (name : List ℕ) (items : List Item) → IsWord name → Stops (spelled items ++ []) → AllStand is_gap items [] → AreLines (pragma_line name items)
named_line name items is stops stand = is_pragma_line (word name ∷ items) (space_stands, (word_stands name (spelled items ++ []) is stops, stand))

context_lines : (scope : Scope) (parts : List Comparison) → HasScopeWords scope → AreComparisons parts → AreLines (context_line scope parts)
context_lines scope [] words are = no_lines
context_lines scope (c ∷ parts) words are =
    named_line (codes "context") (space ∷ cond scope (record { parts = c ∷ parts })) (fixed_word (codes "context") refl) refl
    (space_stands, cond_stands scope (record { parts = c ∷ parts }) words are [] tt)

-- what stands behind a word or an operator of a list: nothing, or a blank
listed_stop : {X : Type 0} (f : X → Item) (xs : List X) → Stops (spelled (flat_map (λ x. space ∷ f x ∷ []) xs) ++ [])
listed_stop f [] = tt
listed_stop f (x ∷ xs) = refl

listed_quiet : {X : Type 0} (f : X → Item) (xs : List X) → IsQuiet (spelled (flat_map (λ x. space ∷ f x ∷ []) xs) ++ [])
listed_quiet f [] = tt
listed_quiet f (x ∷ xs) = refl

listed_stand : {X : Type 0} (P : X → Type 0) (f : X → Item) → ((x : X) → P x → (rest : List ℕ) → Stops rest → IsQuiet rest → Stands is_gap (f x) rest)
    → (xs : List X) → AllByRecursion P xs → AllStand is_gap (flat_map (λ x. space ∷ f x ∷ []) xs) []
listed_stand P f each [] all = tt
listed_stand P f each (x ∷ xs) all =
    (space_stands, (each x all.0 (spelled (flat_map (λ x. space ∷ f x ∷ []) xs) ++ []) (listed_stop f xs) (listed_quiet f xs), listed_stand P f each xs all.1))

symbol_stands : (name : List ℕ) → IsCommutative name → (rest : List ℕ) → Stops rest → IsQuiet rest → Stands is_gap (symbol name) rest
symbol_stands name (called is) rest stops quiet = subst (λ t. Stands is_gap (if t then mark name else word name) rest) (sym (word_first is.is).0) (word_stands name rest is stops)
symbol_stands name (operated is) rest stops quiet = subst (λ t. Stands is_gap (if t then mark name else word name) rest) (sym (operator_first is)) (operator_stands rest is quiet)

commutative_lines : (names : List (List ℕ)) → AllByRecursion IsCommutative names → AreLines (commutative_line names)
commutative_lines [] are = no_lines
commutative_lines (name ∷ names) are =
    named_line (codes "commutative") (flat_map (λ n. space ∷ symbol n ∷ []) (name ∷ names)) (fixed_word (codes "commutative") refl) refl
    (listed_stand IsCommutative symbol symbol_stands (name ∷ names) are)

output_lines : (scope : Scope) (outputs : Option (List ℕ)) → HasScopeWords scope → IfSome outputs (AllByRecursion (λ k. k < length scope.arrays)) → AreLines (output_line scope outputs)
output_lines scope None words are = no_lines
output_lines scope (Some outputs) words are =
    named_line (codes "output") (flat_map (λ k. space ∷ word (array_name (slice_get scope.arrays k)) ∷ []) outputs) (fixed_word (codes "output") refl)
    (listed_stop (λ k. word (array_name (slice_get scope.arrays k))) outputs)
    (listed_stand (λ k. k < length scope.arrays) (λ k. word (array_name (slice_get scope.arrays k)))
    (λ k there rest stops quiet. word_stands (array_name (slice_get scope.arrays k)) rest (array_word scope.arrays k words.arrays there) stops) outputs are)

-- ---- the program

turned : (a b c d e : List Item) → a ++ (b ++ c ++ d ++ e) ≡ a ++ b ++ c ++ d ++ e
turned a b c d e = simp append_assoc

pub program_tokens : (p : Program) → HasWords p → AreTokens (program_text p) (lexemes 0 (program p))
program_tokens p has = subst (λ l. AreTokens l (lexemes 0 (program p))) (spelled_program p) (all_tokens (program p) read)
  where
    words : HasScopeWords (whole_scope p)
    words = record { params = has.params; iters = tt; arrays = has.arrays }

    pragmas : AreLines (pragma_lines p)
    pragmas =
        lines_append (context_line (whole_scope p) p.context.parts ++ commutative_line p.commutative) (output_line (whole_scope p) p.outputs)
        (lines_append (context_line (whole_scope p) p.context.parts) (commutative_line p.commutative) (context_lines (whole_scope p) p.context.parts words has.context) (commutative_lines p.commutative has.commutative))
        (output_lines (whole_scope p) p.outputs words has.outputs)

    behind : List Item
    behind =
        line [] (head (whole_scope p) p.name p.slots) ++ flat_map (λ (a : Array). local_line (whole_scope p) a.kind a) p.arrays
        ++ flat_map (stmt (whole_scope p) (codes "  ")) p.body ++ line [] (mark (codes "}") ∷ [])

    alone : StandsAlone behind
    alone =
        alone_append
        (line [] (head (whole_scope p) p.name p.slots) ++ flat_map (λ (a : Array). local_line (whole_scope p) a.kind a) p.arrays ++ flat_map (stmt (whole_scope p) (codes "  ")) p.body)
        (line [] (mark (codes "}") ∷ []))
        (alone_append (line [] (head (whole_scope p) p.name p.slots) ++ flat_map (λ (a : Array). local_line (whole_scope p) a.kind a) p.arrays) (flat_map (stmt (whole_scope p) (codes "  ")) p.body)
        (alone_append (line [] (head (whole_scope p) p.name p.slots)) (flat_map (λ (a : Array). local_line (whole_scope p) a.kind a) p.arrays)
        (line_stands [] (head (whole_scope p) p.name p.slots) no_indent (head_stands p words has))
        (each_alone IsDeclared (λ (a : Array). local_line (whole_scope p) a.kind a) (λ a is. local_stands (whole_scope p) a.kind a words is) p.arrays has.arrays))
        (each_alone (HasStmtWords p.arrays) (stmt (whole_scope p) (codes "  ")) (λ s is. stmt_stands (whole_scope p) (codes "  ") s words one_level is) p.body has.body))
        (closing_line [] no_indent)

    read : AreRead (program p)
    read =
        subst AreRead (turned (pragma_lines p) (line [] (head (whole_scope p) p.name p.slots)) (flat_map (λ (a : Array). local_line (whole_scope p) a.kind a) p.arrays)
        (flat_map (stmt (whole_scope p) (codes "  ")) p.body) (line [] (mark (codes "}") ∷ [])))
        (read_append (pragma_lines p) behind pragmas (read_alone behind alone))
