-- The items of statements stand before any bytes.
use Rattle.std.specs.Prelude.{true, codes, slice_get}
use Rattle.std.specs.List.{flat_map, AllByRecursion, AllPass}
use Rattle.std.proofs.Common.{◌≡◌, ℕ, suc, ◌<◌, List, [], ◌∷◌, ◌++◌, length, refl, ℤ, pos, negsuc}
use Rattle.std.proofs.lemmas.List.Elements.{All-cons, All-nil, All-append}
use Rattle.ac_syntax.specs.Text.{Scope, inside, deeper, array_name}
use Rattle.ac_syntax.specs.declared.tree.IndexExpr.{IndexExpr}
use Rattle.ac_syntax.specs.declared.tree.Cond.{Cond}
use Rattle.ac_syntax.specs.declared.tree.Value.{Value}
use Rattle.ac_syntax.specs.declared.tree.Stmt.{Stmt, Row_of-Stmt, end_of-Stmt, more_of-Stmt}
use Rattle.ac_syntax.specs.declared.tree.Stmt.TheVariants.{For', If', Assign}
use Rattle.ac_lex.specs.Bytes.{is_white_byte, is_gap}
use Rattle.ac_parse_roundtrip.specs.Items.{Item, blank, spelled, space, mark, word, form, cond, subscripts, value, line, step, loop, assignment, branch, otherwise, stmt, body, other_branch}
use Rattle.ac_parse_roundtrip.specs.ProgramWords.{IsWord, Fits64, IsWritable, AreWritable, AreComparisons, HasValueWords, HasStmtWords, HaveStmtWords}
use Rattle.ac_parse_roundtrip.proofs.Pieces.{Stops}
use Rattle.ac_parse_roundtrip.proofs.Apart.{AllStand, stand_append, all_white}
use Rattle.ac_parse_roundtrip.proofs.TokenItems.{fixed_word, word_stands, number_stands, space_stands, mark_stands, round_opens, round_closes, body_opens, body_closes, semicolon_stands, adds_stands, subtracts_stands}
use Rattle.ac_parse_roundtrip.proofs.FormItems.{Stand, HasScopeWords, every_append, form_stands, cond_stands}
use Rattle.ac_parse_roundtrip.proofs.ValueItems.{array_word, value_stands, access_stands}

-- items that stand before any bytes
abbrev pub StandsAlone : List Item → Type 0
StandsAlone items = (rest : List ℕ) → AllStand is_white_byte items rest

pub alone_append : (xs ys : List Item) → StandsAlone xs → StandsAlone ys → StandsAlone (xs ++ ys)
alone_append xs ys first second rest = stand_append is_white_byte xs ys rest (first (spelled ys ++ rest)) (second rest)

pub each_alone : {X : Type 0} (P : X → Type 0) (f : X → List Item) → ((x : X) → P x → StandsAlone (f x)) → (xs : List X) → AllByRecursion P xs → StandsAlone (flat_map f xs)
each_alone P f each [] all = λ rest. tt
each_alone P f each (x ∷ xs) all = alone_append (f x) (flat_map f xs) (each x all.0) (each_alone P f each xs all.1)

-- ---- lines

abbrev pub IsIndent : List ℕ → Type 0
IsIndent = AllPass is_white_byte

pub no_indent : IsIndent []
no_indent = All-nil (λ b. is_white_byte b ≡ true)

newline : IsIndent (10 ∷ [])
newline = All-cons (λ b. is_white_byte b ≡ true) 10 [] refl no_indent

pub one_level : IsIndent (codes "  ")
one_level = All-cons (λ b. is_white_byte b ≡ true) 32 (codes " ") refl (All-cons (λ b. is_white_byte b ≡ true) 32 [] refl no_indent)

deeper_indent : (indent : List ℕ) → IsIndent indent → IsIndent (deeper indent)
deeper_indent indent white = All-append (λ b. is_white_byte b ≡ true) indent (codes "  ") white one_level

pub line_stands : (indent : List ℕ) (items : List Item) → IsIndent indent → Stand items → StandsAlone (line indent items)
line_stands indent items white stand rest =
    (white, stand_append is_white_byte items (blank (10 ∷ []) ∷ []) rest (all_white items (10 ∷ rest) (stand (10 ∷ rest) refl)) (newline, tt))

pub closing_line : (indent : List ℕ) → IsIndent indent → StandsAlone (line indent (mark (codes "}") ∷ []))
closing_line indent white = line_stands indent (mark (codes "}") ∷ []) white (λ rest stops. (body_closes rest, tt))

-- ---- the parts of statements

step_stands : (by : ℤ) → Fits64 by → Stand (step by)
step_stands (pos n) fits rest stops = (space_stands, (adds_stands _, (space_stands, (number_stands n rest fits stops, tt))))
step_stands (negsuc n) fits rest stops = (space_stands, (subtracts_stands _, (space_stands, (number_stands (suc n) rest fits stops, tt))))

step_begins : (by : ℤ) (rest : List ℕ) → Stops (spelled (step by) ++ rest)
step_begins (pos n) rest = refl
step_begins (negsuc n) rest = refl

stand_four : (a b c d : List Item) (rest : List ℕ) → AllStand is_gap a (spelled b ++ (spelled c ++ (spelled d ++ rest))) → AllStand is_gap b (spelled c ++ (spelled d ++ rest))
    → AllStand is_gap c (spelled d ++ rest) → AllStand is_gap d rest → AllStand is_gap (a ++ b ++ c ++ d) rest
stand_four a b c d rest sa sb sc sd = stand_append is_gap (a ++ b ++ c) d rest (stand_append is_gap (a ++ b) c (spelled d ++ rest) (stand_append is_gap a b (spelled c ++ (spelled d ++ rest)) sa sb) sc) sd

loop_stands : (scope : Scope) (iter : List ℕ) (start : IndexExpr) (c : Cond) (by : ℤ) → HasScopeWords scope → HasScopeWords (inside scope iter)
    → IsWord iter → IsWritable start → AreComparisons c.parts → Fits64 by → Stand (loop scope iter start c by)
loop_stands scope iter start c by words within is starts are fits rest stops =
    stand_four (word (codes "for") ∷ space ∷ mark (codes "(") ∷ word (codes "int") ∷ space ∷ word iter ∷ space ∷ mark (codes "=") ∷ space ∷ form scope start)
    (mark (codes ";") ∷ space ∷ cond (inside scope iter) c) (mark (codes ";") ∷ space ∷ word iter ∷ step by) (mark (codes ")") ∷ space ∷ mark (codes "{") ∷ []) rest (
      word_stands (codes "for") _ (fixed_word (codes "for") refl) refl,
      (
        space_stands,
        (
          round_opens _,
          (
            word_stands (codes "int") _ (fixed_word (codes "int") refl) refl,
            (space_stands, (word_stands iter _ is refl, (space_stands, (mark_stands 61 _ refl refl, (space_stands, form_stands scope start words starts _ refl))))),
          ),
        ),
      ),
    )
    (semicolon_stands _, (space_stands, cond_stands (inside scope iter) c within are _ refl))
    (semicolon_stands _, (space_stands, (word_stands iter _ is (step_begins by _), step_stands by fits _ refl)))
    (round_closes _, (space_stands, (body_opens rest, tt)))

assignment_stands : (scope : Scope) (array : ℕ) (subs : List IndexExpr) (v : Value) → HasScopeWords scope → array < length scope.arrays → AreWritable subs
    → HasValueWords scope.arrays v → Stand (assignment scope array subs v)
assignment_stands scope array subs v words there are has rest stops =
    let after = space ∷ mark (codes "=") ∷ space ∷ value scope v in
    stand_append is_gap (word (array_name (slice_get scope.arrays array)) ∷ subscripts scope subs ++ after) (mark (codes ";") ∷ []) rest
    (stand_append is_gap (word (array_name (slice_get scope.arrays array)) ∷ subscripts scope subs) after (59 ∷ rest)
    ((access_stands scope (array_name (slice_get scope.arrays array)) subs words (array_word scope.arrays array words.arrays there) are).stand (spelled after ++ 59 ∷ rest) refl)
    (space_stands, (mark_stands 61 _ refl refl, (space_stands, (value_stands scope v words has).stand (59 ∷ rest) refl))))
    (semicolon_stands rest, tt)

branch_stands : (scope : Scope) (c : Cond) → HasScopeWords scope → AreComparisons c.parts → Stand (branch scope c)
branch_stands scope c words are rest stops =
    let after = mark (codes ")") ∷ space ∷ mark (codes "{") ∷ [] in (
      word_stands (codes "if") _ (fixed_word (codes "if") refl) refl,
      (
        space_stands,
        (
          round_opens _,
          stand_append is_gap (cond scope c) after rest (cond_stands scope c words are (spelled after ++ rest) refl) (round_closes _, (space_stands, (body_opens rest, tt))),
        ),
      ),
    )

otherwise_stands : Stand otherwise
otherwise_stands rest stops =
    (body_closes _, (space_stands, (word_stands (codes "else") _ (fixed_word (codes "else") refl) refl, (space_stands, (body_opens rest, tt)))))

inside_words : (scope : Scope) (iter : List ℕ) → HasScopeWords scope → IsWord iter → HasScopeWords (inside scope iter)
inside_words scope iter words is = record {
  params = words.params;
  iters = every_append IsWord scope.iters (iter ∷ []) words.iters (is, tt);
  arrays = words.arrays;
}

-- ---- statements

mutual
  unfolding stmt HasStmtWords

  pub stmt_stands : (scope : Scope) (indent : List ℕ) (s : Stmt) → HasScopeWords scope → IsIndent indent → HasStmtWords scope.arrays s → StandsAlone (stmt scope indent s)
  stmt_stands scope indent (For' iter start c by n inner place) words white has =
      let within = inside_words scope iter words has.0 in
      alone_append (line indent (loop scope iter start c by) ++ body (inside scope iter) (deeper indent) inner) (line indent (mark (codes "}") ∷ []))
      (alone_append (line indent (loop scope iter start c by)) (body (inside scope iter) (deeper indent) inner)
      (line_stands indent (loop scope iter start c by) white (loop_stands scope iter start c by words within has.0 has.1 has.2 has.3))
      (body_stands (inside scope iter) (deeper indent) inner within (deeper_indent indent white) has.4))
      (closing_line indent white)
  stmt_stands scope indent (If' c n taken m other place) words white has =
      alone_append (line indent (branch scope c) ++ body scope (deeper indent) taken ++ other_branch scope indent other) (line indent (mark (codes "}") ∷ []))
      (alone_append (line indent (branch scope c) ++ body scope (deeper indent) taken) (other_branch scope indent other)
      (alone_append (line indent (branch scope c)) (body scope (deeper indent) taken)
      (line_stands indent (branch scope c) white (branch_stands scope c words has.0))
      (body_stands scope (deeper indent) taken words (deeper_indent indent white) has.1))
      (other_stands scope indent other words white has.2))
      (closing_line indent white)
  stmt_stands scope indent (Assign array subs v place) words white has =
      line_stands indent (assignment scope array subs v) white (assignment_stands scope array subs v words has.0 has.1 has.2)

  body_stands : (scope : Scope) (indent : List ℕ) {m : _} (k : Row_of-Stmt m) → HasScopeWords scope → IsIndent indent → HaveStmtWords scope.arrays k → StandsAlone (body scope indent k)
  body_stands scope indent end_of-Stmt words white has = λ rest. tt
  body_stands scope indent (more_of-Stmt s more) words white has =
      alone_append (stmt scope indent s) (body scope indent more) (stmt_stands scope indent s words white has.0) (body_stands scope indent more words white has.1)

  other_stands : (scope : Scope) (indent : List ℕ) {m : _} (k : Row_of-Stmt m) → HasScopeWords scope → IsIndent indent → HaveStmtWords scope.arrays k
      → StandsAlone (other_branch scope indent k)
  other_stands scope indent end_of-Stmt words white has = λ rest. tt
  other_stands scope indent (more_of-Stmt s more) words white has =
      alone_append (line indent otherwise) (stmt scope (deeper indent) s ++ body scope (deeper indent) more)
      (line_stands indent otherwise white otherwise_stands)
      (alone_append (stmt scope (deeper indent) s) (body scope (deeper indent) more)
      (stmt_stands scope (deeper indent) s words (deeper_indent indent white) has.0) (body_stands scope (deeper indent) more words (deeper_indent indent white) has.1))
