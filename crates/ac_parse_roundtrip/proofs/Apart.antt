-- Items that are tokens where they stand, and the steps that read them.
use Rattle.std.specs.Prelude.{Bool, true, codes}
use Rattle.std.specs.List.{AllPass}
use Rattle.std.proofs.Common.{◌≡◌, ℕ, ◌+◌, List, [], ◌∷◌, ◌++◌, length, refl, sym, ◌∙◌, ap, subst, arith, length-append, append_assoc}
use Rattle.std.proofs.lemmas.List.{append-nil}
use Rattle.std.proofs.lemmas.Bool.Decides.{nat_tests}
use Rattle.std.proofs.lemmas.List.Elements.{All-head, All-tail, All-cons, All-nil, All-weaker, All-append}
use Rattle.ac_lex.specs.declared.tokens.TokenKind.{TokenKind}
use Rattle.ac_lex.specs.Bytes.{is_white_byte, is_gap, is_inside_line, is_letter, is_digit, is_word_byte}
use Rattle.ac_lex.specs.Lexemes.{Lexeme}
use Rattle.ac_lex.specs.Numerals.{continues, GoesOn, ends, goes, from_digit, from_point}
use Rattle.ac_lex.specs.TextPieces.{Piece, name, numeral, mark, IsPiece, named, run, single, with_equals, doubled, IsNextPiece, space, IsToken, a_word, a_number, a_decimal, a_mark}
use Rattle.ac_lex.specs.Tokens.{Sequence, next, PieceStep, passes, gives}
use Rattle.ac_lex.proofs.Classes.{one_of_all}
use Rattle.ac_parse_roundtrip.specs.Items.{Item, blank, token, pragma, line_end, spelling, spelled, lexeme_of, lexemes}
use Rattle.ac_parse_roundtrip.proofs.ItemSpelling.{spelled_append}
use Rattle.ac_parse_roundtrip.proofs.Pieces.{white_next}

-- white space of a class, or a token that is the next piece before these bytes
abbrev pub Stands : (ℕ → Bool) → Item → List ℕ → Type 0
Stands white (blank text) rest = AllPass white text
Stands white (token kind text) rest = (piece : Piece) × IsNextPiece piece text rest × IsToken kind piece text
Stands white pragma rest = ⊥
Stands white line_end rest = ⊥

-- each of them, before the next ones and these bytes
abbrev pub AllStand : (ℕ → Bool) → List Item → List ℕ → Type 0
AllStand white [] rest = Unit {0}
AllStand white (i ∷ items) rest = Stands white i (spelled items ++ rest) × AllStand white items rest

pub stand_append : (white : ℕ → Bool) (xs ys : List Item) (rest : List ℕ) → AllStand white xs (spelled ys ++ rest) → AllStand white ys rest → AllStand white (xs ++ ys) rest
stand_append white [] ys rest first second = second
stand_append white (x ∷ xs) ys rest first second =
    let same : spelled (xs ++ ys) ++ rest ≡ spelled xs ++ (spelled ys ++ rest) = ap (λ l. l ++ rest) (spelled_append xs ys) ∙ append_assoc (spelled xs) (spelled ys) rest in
    (subst (Stands white x) (sym same) first.0, stand_append white xs ys rest first.1 second)

gap_white : (b : ℕ) → is_gap b ≡ true → is_white_byte b ≡ true
gap_white b h = grind (arith, nat_tests)

-- white space of a line is white space
pub all_white : (items : List Item) (rest : List ℕ) → AllStand is_gap items rest → AllStand is_white_byte items rest
all_white [] rest stand = tt
all_white (blank text ∷ items) rest stand = (All-weaker (λ b. is_gap b ≡ true) (λ b. is_white_byte b ≡ true) gap_white text stand.0, all_white items rest stand.1)
all_white (token kind text ∷ items) rest stand = (stand.0, all_white items rest stand.1)
all_white (pragma ∷ items) rest stand = absurd stand.0
all_white (line_end ∷ items) rest stand = absurd stand.0

-- ---- inside a line

word_inside : (b : ℕ) → is_word_byte b ≡ true → is_inside_line b ≡ true
word_inside b h = grind (arith, nat_tests)

letter_inside : (b : ℕ) → is_letter b ≡ true → is_inside_line b ≡ true
letter_inside b h = grind (arith, nat_tests)

digit_inside : (b : ℕ) → is_digit b ≡ true → is_inside_line b ≡ true
digit_inside b h = grind (arith, nat_tests)

goes_inside : (before b : ℕ) → continues before b ≡ true → is_inside_line b ≡ true
goes_inside before b h = grind (arith, nat_tests)

gap_inside : (b : ℕ) → is_gap b ≡ true → is_inside_line b ≡ true
gap_inside b h = grind (arith, nat_tests)

abbrev Inside : List ℕ → Type 0
Inside bytes = AllPass is_inside_line bytes

cons : (b : ℕ) (bytes : List ℕ) → is_inside_line b ≡ true → Inside bytes → Inside (b ∷ bytes)
cons b bytes is all = All-cons (λ b. is_inside_line b ≡ true) b bytes is all

none : Inside []
none = All-nil (λ b. is_inside_line b ≡ true)

run_inside : {before : ℕ} {bytes : List ℕ} → GoesOn before bytes → Inside bytes
run_inside ends = none
run_inside (goes {before} {b} {bytes} on more) = cons b bytes (goes_inside before b on) (run_inside more)

numeral_inside : {text : List ℕ} → IsPiece numeral text → Inside text
numeral_inside (run (from_digit {d} {bytes} is on)) = cons d bytes (digit_inside d is) (run_inside on)
numeral_inside (run (from_point {d} {bytes} is on)) = cons 46 (d ∷ bytes) refl (cons d bytes (digit_inside d is) (run_inside on))

name_inside : {text : List ℕ} → IsPiece name text → Inside text
name_inside (named {b} {bytes} is all) = cons b bytes (letter_inside b is) (All-weaker (λ b. is_word_byte b ≡ true) (λ b. is_inside_line b ≡ true) word_inside bytes all)

mark_inside : {text : List ℕ} → IsPiece mark text → Inside text
mark_inside (single {b} is) = cons b [] (one_of_all is_inside_line (codes "()[]{},;=+-*/%<>") b is refl) none
mark_inside (with_equals {b} is) = cons b (codes "=") (one_of_all is_inside_line (codes "+-*/%<>=") b is refl) (cons 61 [] refl none)
mark_inside (doubled {b} is) = let inside = one_of_all is_inside_line (codes "+-&") b is refl in cons b (b ∷ []) inside (cons b [] inside none)

token_inside : {kind : TokenKind} {piece : Piece} {text : List ℕ} → IsPiece piece text → IsToken kind piece text → Inside text
token_inside is (a_word short) = name_inside is
token_inside is (a_number number) = numeral_inside is
token_inside is (a_decimal decimal short) = numeral_inside is
token_inside is a_mark = mark_inside is

-- items that stand within a line spell no line feed
pub spelled_inside : (items : List Item) (rest : List ℕ) → AllStand is_gap items rest → AllPass is_inside_line (spelled items)
spelled_inside [] rest stand = none
spelled_inside (blank text ∷ items) rest stand =
    All-append (λ b. is_inside_line b ≡ true) text (spelled items) (All-weaker (λ b. is_gap b ≡ true) (λ b. is_inside_line b ≡ true) gap_inside text stand.0) (spelled_inside items rest stand.1)
spelled_inside (token kind text ∷ items) rest stand =
    All-append (λ b. is_inside_line b ≡ true) text (spelled items) (token_inside stand.0.1.is stand.0.2) (spelled_inside items rest stand.1)
spelled_inside (pragma ∷ items) rest stand = absurd stand.0
spelled_inside (line_end ∷ items) rest stand = absurd stand.0

-- ---- the steps

-- the tokens of two lists, one behind the other
pub lexemes_append : (at : ℕ) (xs ys : List Item) → lexemes at (xs ++ ys) ≡ lexemes at xs ++ lexemes (at + length (spelled xs)) ys
lexemes_append at [] ys = let e : at ≡ at + 0 = omega arith in ap (λ n. lexemes n ys) e
lexemes_append at (x ∷ xs) ys =
    let there : (at + length (spelling x)) + length (spelled xs) ≡ at + length (spelling x ++ spelled xs) = omega (arith, length-append (spelling x) (spelled xs)) in
    ap (λ l. lexeme_of at x ++ l) (lexemes_append (at + length (spelling x)) xs ys ∙ ap (λ n. lexemes (at + length (spelling x)) xs ++ lexemes n ys) there)
    ∙ sym (append_assoc (lexeme_of at x) (lexemes (at + length (spelling x)) xs) (lexemes (at + length (spelling x ++ spelled xs)) ys))

-- steps of which each piece is one
module _ (Step : List ℕ → List ℕ → List ℕ → List Lexeme → Type 0) (embed : (before text rest : List ℕ) (ts : List Lexeme) → PieceStep before text rest ts → Step before text rest ts) where
  read_white : (text rest before : List ℕ) (more : List Lexeme) → AllPass is_white_byte text → Sequence Step (before ++ text) rest more → Sequence Step before (text ++ rest) more
  read_white [] rest before more all after = subst (λ l. Sequence Step l rest more) (append-nil before) after
  read_white (b ∷ text) rest before more all after =
      let is : is_white_byte b ≡ true = All-head (λ x. is_white_byte x ≡ true) b text all in
      next (embed before (b ∷ []) (text ++ rest) [] (passes (white_next b (text ++ rest) is) space))
      (read_white text rest (before ++ b ∷ []) more (All-tail (λ x. is_white_byte x ≡ true) b text all) (subst (λ l. Sequence Step l rest more) (sym (append_assoc before (b ∷ []) text)) after))

  read_item : (i : Item) (rest before : List ℕ) (more : List Lexeme) → Stands is_white_byte i rest → Sequence Step (before ++ spelling i) rest more
      → Sequence Step before (spelling i ++ rest) (lexeme_of (length before) i ++ more)
  read_item (blank text) rest before more stands after = read_white text rest before more stands after
  read_item (token kind text) rest before more stands after = next (embed before text rest _ (gives stands.1 stands.2)) after
  read_item pragma rest before more stands after = absurd stands
  read_item line_end rest before more stands after = absurd stands

  -- the tokens of items that stand, and then those of what follows
  pub read_items : (items : List Item) (rest before : List ℕ) (more : List Lexeme) → AllStand is_white_byte items rest → Sequence Step (before ++ spelled items) rest more
      → Sequence Step before (spelled items ++ rest) (lexemes (length before) items ++ more)
  read_items [] rest before more stand after = subst (λ l. Sequence Step l rest more) (append-nil before) after
  read_items (i ∷ items) rest before more stand after =
      let later = read_items items rest (before ++ spelling i) more stand.1 (subst (λ l. Sequence Step l rest more) (sym (append_assoc before (spelling i) (spelled items))) after) in
      let here : Sequence Step before (spelling i ++ (spelled items ++ rest)) (lexeme_of (length before) i ++ (lexemes (length (before ++ spelling i)) items ++ more)) =
      read_item i (spelled items ++ rest) before (lexemes (length (before ++ spelling i)) items ++ more) stand.0 later in
      let placed : Sequence Step before (spelling i ++ (spelled items ++ rest)) (lexeme_of (length before) i ++ (lexemes (length before + length (spelling i)) items ++ more)) =
      subst (λ n. Sequence Step before (spelling i ++ (spelled items ++ rest)) (lexeme_of (length before) i ++ (lexemes n items ++ more))) (length-append before (spelling i)) here in
      subst (λ l. Sequence Step before l ((lexeme_of (length before) i ++ lexemes (length before + length (spelling i)) items) ++ more)) (sym (append_assoc (spelling i) (spelled items) rest))
      (subst (λ l. Sequence Step before (spelling i ++ (spelled items ++ rest)) l) (sym (append_assoc (lexeme_of (length before) i) (lexemes (length before + length (spelling i)) items) more)) placed)
