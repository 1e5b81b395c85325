-- The tokens of pragma lines, and of what follows them.
use Rattle.std.specs.Prelude.{true, codes}
use Rattle.std.specs.List.{AllPass}
use Rattle.std.proofs.Common.{◌≡◌, ℕ, ◌+◌, List, [], ◌∷◌, ◌++◌, length, take, refl, sym, ◌∙◌, ap, subst, arith, length-append, append_assoc}
use Rattle.std.proofs.Math.Seq.{take-append_seam}
use Rattle.std.proofs.lemmas.List.{append-nil}
use Rattle.std.proofs.lemmas.List.Elements.{All-append}
use Rattle.std.proofs.lemmas.List.Sums.{AllPass-from_list_all}
use Rattle.ac_lex.specs.declared.tokens.TokenKind.TheVariants as kind
use Rattle.ac_lex.specs.Bytes.{is_white_byte, is_gap, is_inside_line}
use Rattle.ac_lex.specs.Directives.{is_line_start, line_of, IsDirective, IsAffinePragma}
use Rattle.ac_lex.specs.Lexemes.{Lexeme}
use Rattle.ac_lex.specs.TextPieces as piece
use Rattle.ac_lex.specs.Tokens.{Sequence, the_end, next, PieceStep, passes, FileStep, piece_step, affine_pragma, AreLineTokens, AreTokens, pragma_tokens}
use Rattle.ac_lex.proofs.Lists.{prefix_exact}
use Rattle.ac_lex.proofs.LineStarts.{step_start}
use Rattle.ac_parse_roundtrip.specs.Items.{Item, pragma, line_end, space, spelled, pragma_text, lexeme, lexemes}
use Rattle.ac_parse_roundtrip.proofs.ItemSpelling.{spelled_append}
use Rattle.ac_parse_roundtrip.proofs.Pieces.{white_next}
use Rattle.ac_parse_roundtrip.proofs.Apart.{AllStand, all_white, spelled_inside, lexemes_append, read_items}

-- from the start of a line, items give their tokens, and then come those of what follows
abbrev pub AreRead : List Item → Type 0
AreRead items = (before rest : List ℕ) (more : List Lexeme) → is_line_start before ≡ true → Sequence FileStep (before ++ spelled items) rest more
    → Sequence FileStep before (spelled items ++ rest) (lexemes (length before) items ++ more)

-- a line starts behind them too
pub record AreLines (items : List Item) : Type 0 where
  pub read : AreRead items
  pub ends : (before : List ℕ) → is_line_start before ≡ true → is_line_start (before ++ spelled items) ≡ true

pub no_lines : AreLines []
no_lines = record {
  read = λ before rest more start after. subst (λ l. Sequence FileStep l rest more) (append-nil before) after;
  ends = λ before start. ap is_line_start (append-nil before) ∙ start;
}

-- items behind lines
pub read_append : (xs ys : List Item) → AreLines xs → AreRead ys → AreRead (xs ++ ys)
read_append xs ys first second before rest more start after =
    let later = second (before ++ spelled xs) rest more (first.ends before start)
    (subst (λ l. Sequence FileStep l rest more) (ap (λ l. before ++ l) (spelled_append xs ys) ∙ sym (append_assoc before (spelled xs) (spelled ys))) after) in
    let all = first.read before (spelled ys ++ rest) (lexemes (length (before ++ spelled xs)) ys ++ more) start later in
    subst (λ l. Sequence FileStep before l (lexemes (length before) (xs ++ ys) ++ more)) (sym (ap (λ l. l ++ rest) (spelled_append xs ys) ∙ append_assoc (spelled xs) (spelled ys) rest))
    (subst (λ l. Sequence FileStep before (spelled xs ++ (spelled ys ++ rest)) l) (sym tokens) all)
  where
    tokens : lexemes (length before) (xs ++ ys) ++ more ≡ lexemes (length before) xs ++ (lexemes (length (before ++ spelled xs)) ys ++ more)
    tokens =
        ap (λ l. l ++ more) (lexemes_append (length before) xs ys ∙ ap (λ n. lexemes (length before) xs ++ lexemes n ys) (sym (length-append before (spelled xs))))
        ∙ append_assoc (lexemes (length before) xs) (lexemes (length (before ++ spelled xs)) ys) more

pub lines_append : (xs ys : List Item) → AreLines xs → AreLines ys → AreLines (xs ++ ys)
lines_append xs ys first second = record {
  read = read_append xs ys first second.read;
  ends = λ before start.
      ap is_line_start (ap (λ l. before ++ l) (spelled_append xs ys) ∙ sym (append_assoc before (spelled xs) (spelled ys))) ∙ second.ends (before ++ spelled xs) (first.ends before start);
}

-- items without pragmas are read anywhere
pub read_alone : (items : List Item) → ((rest : List ℕ) → AllStand is_white_byte items rest) → AreRead items
read_alone items stand before rest more start after = read_items FileStep (λ before text rest ts step. piece_step step) items rest before more (stand rest) after

-- all the tokens of a text
pub all_tokens : (items : List Item) → AreRead items → AreTokens (spelled items) (lexemes 0 items)
all_tokens items read =
    subst (λ l. Sequence FileStep [] l (lexemes 0 items)) (append-nil (spelled items))
    (subst (λ l. Sequence FileStep [] (spelled items ++ []) l) (append-nil (lexemes 0 items)) (read [] [] [] refl the_end))

-- ---- one pragma line

module _ (items : List Item) (stand : AllStand is_gap (space ∷ items) []) where
  -- the line without its line feed
  line : List ℕ
  line = pragma_text ++ spelled (space ∷ items)

  abbrev whole_line : List Item
  whole_line = pragma ∷ space ∷ items ++ line_end ∷ []

  inside : AllPass is_inside_line line
  unfolding line
  inside = All-append (λ b. is_inside_line b ≡ true) pragma_text (spelled (space ∷ items)) (AllPass-from_list_all is_inside_line pragma_text refl) (spelled_inside (space ∷ items) [] stand)

  spells : spelled whole_line ≡ line ++ 10 ∷ []
  unfolding line
  spells = ap (λ l. pragma_text ++ (32 ∷ l)) (spelled_append items (line_end ∷ []))

  to_line_feed : (rest : List ℕ) → line ≡ line_of (line ++ 10 ∷ rest)
  to_line_feed rest = sym (ap (λ n. take n (line ++ 10 ∷ rest)) (prefix_exact is_inside_line line (10 ∷ rest) inside refl) ∙ take-append_seam line (10 ∷ rest))

  begins : take 1 line ≡ codes "#"
  unfolding line
  begins = refl

  directive : (before rest : List ℕ) → is_line_start before ≡ true → IsDirective before line (10 ∷ rest)
  directive before rest start = record { starts = record { line_start = start; hash = begins }; whole_line = to_line_feed rest }

  is_pragma : IsAffinePragma line pragma_text (spelled (space ∷ items))
  unfolding line
  is_pragma = record { word = refl; next_word = refl; start_text = refl; parts = refl }

  inner : (before : List ℕ) → AreLineTokens (before ++ pragma_text) (spelled (space ∷ items)) (lexemes (length (before ++ pragma_text)) (space ∷ items))
  inner before =
      subst (λ l. Sequence PieceStep (before ++ pragma_text) l (lexemes (length (before ++ pragma_text)) (space ∷ items))) (append-nil (spelled (space ∷ items)))
      (subst (λ l. Sequence PieceStep (before ++ pragma_text) (spelled (space ∷ items) ++ []) l) (append-nil (lexemes (length (before ++ pragma_text)) (space ∷ items)))
      (read_items PieceStep (λ before text rest ts step. step) (space ∷ items) [] (before ++ pragma_text) [] (all_white (space ∷ items) [] stand) the_end))

  long : length line ≡ 14 + length (spelled (space ∷ items))
  unfolding line
  long = length-append pragma_text (spelled (space ∷ items))

  tokens_are : (before : List ℕ) → pragma_tokens before pragma_text line (lexemes (length (before ++ pragma_text)) (space ∷ items)) ≡ lexemes (length before) whole_line
  tokens_are before =
      let start = length before + 14 in
      let first : length (before ++ pragma_text) ≡ start = length-append before pragma_text in
      let last : length (before ++ line) ≡ start + length (spelled (space ∷ items)) = omega (arith, length-append before line, long) in
      ap (λ l. lexeme kind.PragmaStart (length before) pragma_text ∷ l) (
      ap (λ n. lexemes n (space ∷ items) ++ lexeme kind.PragmaEnd (length (before ++ line)) [] ∷ []) first
      ∙ ap (λ n. lexemes start (space ∷ items) ++ lexeme kind.PragmaEnd n [] ∷ []) last
      ∙ sym (lexemes_append start (space ∷ items) (line_end ∷ [])))

  behind : (before : List ℕ) → before ++ spelled whole_line ≡ (before ++ line) ++ 10 ∷ []
  behind before = ap (λ l. before ++ l) spells ∙ sym (append_assoc before line (10 ∷ []))

  line_read : AreRead whole_line
  line_read before rest more start after =
      let feed : Sequence FileStep (before ++ line) (10 ∷ rest) more =
      next (piece_step (passes (white_next 10 rest refl) piece.space)) (subst (λ l. Sequence FileStep l rest more) (behind before) after) in
      let all : Sequence FileStep before (line ++ 10 ∷ rest) (pragma_tokens before pragma_text line (lexemes (length (before ++ pragma_text)) (space ∷ items)) ++ more) =
      next (affine_pragma (directive before rest start) is_pragma (inner before)) feed in
      subst (λ l. Sequence FileStep before l (lexemes (length before) whole_line ++ more)) (sym (ap (λ l. l ++ rest) spells ∙ append_assoc line (10 ∷ []) rest))
      (subst (λ l. Sequence FileStep before (line ++ 10 ∷ rest) (l ++ more)) (tokens_are before) all)

  line_ends : (before : List ℕ) → is_line_start (before ++ spelled whole_line) ≡ true
  line_ends before =
      ap is_line_start (behind before) ∙ step_start (before ++ line) (10 ∷ []) [] [] (passes (white_next 10 [] refl) piece.space) 10 [] refl

  pub is_pragma_line : AreLines whole_line
  is_pragma_line = record { read = line_read; ends = λ before start. line_ends before }
