-- Where a line starts, after a piece or a directive.
use Rattle.std.specs.Prelude.{Bool, true, false, cond, not, ◌&&◌, ◌||◌, codes, nat_le}
use Rattle.std.specs.List.{prefix_len, suffix_len, list_all, AllPass}
use Rattle.std.proofs.Common.{◌≡◌, ℕ, ◌+◌, ◌-◌, ◌≤◌, List, [], ◌∷◌, ◌++◌, length, drop, refl, sym, ◌∙◌, ap, subst, arith, length-append, append_assoc}
use Rattle.std.proofs.lemmas.List.{reverse-append, drop-append-le}
use Rattle.std.proofs.lemmas.List.Folds.{list_all-append}
use Rattle.std.proofs.lemmas.List.Elements.{All-head, All-tail, All-weaker, All-cons, All-nil}
use Rattle.std.proofs.lemmas.Bool.Decides.{nat_tests}
use Rattle.std.proofs.Math.ListN.{drop_of_length-le}
use Rattle.ac_lex.specs.declared.tokens.TokenKind.{TokenKind}
use Rattle.ac_lex.specs.Lexemes.{Lexeme}
use Rattle.ac_lex.specs.Bytes.{is_one_of, is_newline, is_indent, is_inside_line, is_word_byte, is_letter, is_digit}
use Rattle.ac_lex.specs.Numerals.{continues, GoesOn, ends, goes, from_digit, from_point}
use Rattle.ac_lex.specs.TextPieces.{Piece, open_comment, IsPiece, white, to_line_end, closed, unclosed, named, run, single, with_equals, doubled, IsPassedOver, space, remark, comment, IsToken, a_word, a_number, a_decimal, a_mark}
use Rattle.ac_lex.specs.Directives.{is_line_start, IsDirective}
use Rattle.ac_lex.specs.Tokens.{PieceStep, passes, gives}
use Rattle.ac_lex.specs.LexerModel.{next_line_start}
use Rattle.ac_lex.proofs.Lists.{prefix_passes}
use Rattle.ac_lex.proofs.Classes.{one_of_all, letter_high, digit_high}

line_start_more : (before : List ℕ) (b : ℕ) → is_line_start (before ++ b ∷ []) ≡ next_line_start (is_line_start before) b
line_start_more before b = by_test (is_newline b) refl
  where
    q : ℕ → Bool
    q = λ x. not (is_newline x)

    k : ℕ
    k = suffix_len (λ x. not (is_newline x)) before

    turned : suffix_len (λ x. not (is_newline x)) (before ++ b ∷ []) ≡ cond (not (is_newline b)) (1 + k) 0
    turned = ap (prefix_len (λ x. not (is_newline x))) (reverse-append before (b ∷ []))

    long : length (before ++ b ∷ []) ≡ length before + 1
    long = length-append before (b ∷ [])

    by_test : (t : Bool) → is_newline b ≡ t → is_line_start (before ++ b ∷ []) ≡ (t || (is_indent b && is_line_start before))
    by_test true is =
        let none_after : suffix_len (λ x. not (is_newline x)) (before ++ b ∷ []) ≡ 0 = subst (λ t. suffix_len (λ x. not (is_newline x)) (before ++ b ∷ []) ≡ cond (not t) (1 + k) 0) is turned in
        let all : drop (length (before ++ b ∷ []) - suffix_len (λ x. not (is_newline x)) (before ++ b ∷ [])) (before ++ b ∷ []) ≡ [] =
        drop_of_length-le (before ++ b ∷ []) (omega (arith, none_after)) in
        ap (list_all is_indent) all
    by_test false is =
        let count : suffix_len (λ x. not (is_newline x)) (before ++ b ∷ []) ≡ 1 + k = subst (λ t. suffix_len (λ x. not (is_newline x)) (before ++ b ∷ []) ≡ cond (not t) (1 + k) 0) is turned in
        let from : length (before ++ b ∷ []) - suffix_len (λ x. not (is_newline x)) (before ++ b ∷ []) ≡ length before - k = omega (arith, count, long) in
        let part : drop (length (before ++ b ∷ []) - suffix_len (λ x. not (is_newline x)) (before ++ b ∷ [])) (before ++ b ∷ []) ≡ drop (length before - k) before ++ b ∷ [] =
        ap (λ n. drop n (before ++ b ∷ [])) from ∙ drop-append-le (length before - k) before (b ∷ []) (omega arith) in
        ap (list_all is_indent) part ∙ list_all-append is_indent (drop (length before - k) before) (b ∷ []) ∙ turn (list_all is_indent (drop (length before - k) before)) (is_indent b)
      where
        turn : (x y : Bool) → (x && (y && true)) ≡ (y && x)
        turn true true = refl
        turn true false = refl
        turn false true = refl
        turn false false = refl

-- within a line, what is no line's start stays none
stays : (before bytes : List ℕ) → is_line_start before ≡ false → AllPass is_inside_line bytes → is_line_start (before ++ bytes) ≡ false
stays before [] out all = ap is_line_start (append_nil before) ∙ out
  where
    append_nil : (l : List ℕ) → l ++ [] ≡ l
    append_nil [] = refl
    append_nil (b ∷ l) = ap (λ x. b ∷ x) (append_nil l)
stays before (b ∷ bytes) out all =
    let inside : not (is_newline b) ≡ true = All-head (λ x. is_inside_line x ≡ true) b bytes all in
    let more : is_line_start (before ++ b ∷ []) ≡ false = line_start_more before b ∙ both (is_newline b) (is_indent b) (is_line_start before) inside out in
    ap is_line_start (sym (append_assoc before (b ∷ []) bytes)) ∙ stays (before ++ b ∷ []) bytes more (All-tail (λ x. is_inside_line x ≡ true) b bytes all)
  where
    both : (n i s : Bool) → not n ≡ true → s ≡ false → (n || (i && s)) ≡ false
    both true i s h k = cc
    both false true s h k = k
    both false false s h k = refl

-- a byte that is neither white space nor part of it
solid : (b : ℕ) → 33 ≤ b → (line_start : Bool) → next_line_start line_start b ≡ false
solid b high line_start = by_tests (is_newline b) (is_indent b) line_start (no_newline b high) (no_indent b high)
  where
    no_newline : (b : ℕ) → 33 ≤ b → is_newline b ≡ false
    no_newline b h = grind (arith, nat_tests)

    no_indent : (b : ℕ) → 33 ≤ b → is_indent b ≡ false
    no_indent b h = grind (arith, nat_tests)

    by_tests : (n i s : Bool) → n ≡ false → i ≡ false → (n || (i && s)) ≡ false
    by_tests true i s h k = cc
    by_tests false true s h k = cc
    by_tests false false s h k = refl

-- a text that begins with such a byte and stays within the line
solid_text : (before : List ℕ) (b : ℕ) (bytes : List ℕ) → 33 ≤ b → AllPass is_inside_line bytes → is_line_start (before ++ b ∷ bytes) ≡ next_line_start (is_line_start before) b
solid_text before b bytes high all =
    ap is_line_start (sym (append_assoc before (b ∷ []) bytes))
    ∙ stays (before ++ b ∷ []) bytes (line_start_more before b ∙ solid b high (is_line_start before)) all
    ∙ sym (solid b high (is_line_start before))

inside_of_word : (b : ℕ) → is_word_byte b ≡ true → is_inside_line b ≡ true
inside_of_word b h = grind (arith, nat_tests)

inside_of_run : (before b : ℕ) → continues before b ≡ true → is_inside_line b ≡ true
inside_of_run before b h = grind (arith, nat_tests)

run_inside : {before : ℕ} {bytes : List ℕ} → GoesOn before bytes → AllPass is_inside_line bytes
run_inside ends = All-nil (λ x. is_inside_line x ≡ true)
run_inside (goes {before} {b} {bytes} on more) = All-cons (λ x. is_inside_line x ≡ true) b bytes (inside_of_run before b on) (run_inside more)

nothing_more : AllPass is_inside_line []
nothing_more = All-nil (λ x. is_inside_line x ≡ true)

one_more : (b : ℕ) → is_inside_line b ≡ true → AllPass is_inside_line (b ∷ [])
one_more b is = All-cons (λ x. is_inside_line x ≡ true) b [] is nothing_more

mark_high : (text : List ℕ) (b : ℕ) → is_one_of text b ≡ true → list_all (λ c. nat_le 33 c) text ≡ true → 33 ≤ b
mark_high text b one all = let high = one_of_all (λ c. nat_le 33 c) text b one all in grind (arith, nat_tests)

IsStart : List ℕ → List ℕ → Type 0
IsStart before t = (b : ℕ) (bytes : List ℕ) → t ≡ b ∷ bytes → is_line_start (before ++ t) ≡ next_line_start (is_line_start before) b

start_by : (before : List ℕ) (b : ℕ) (bytes : List ℕ) → is_line_start (before ++ b ∷ bytes) ≡ next_line_start (is_line_start before) b → IsStart before (b ∷ bytes)
unfolding IsStart
start_by before b bytes is c rest e = let same : b ≡ c = cc in is ∙ ap (next_line_start (is_line_start before)) same

piece_start : {piece : Piece} {t : List ℕ} (before : List ℕ) → (piece ≡ open_comment → ⊥) → IsPiece piece t → IsStart before t
unfolding IsStart
piece_start before shut (white {b} is) = start_by before b [] (line_start_more before b)
piece_start before shut (to_line_end {inner} all) =
    start_by before 47 (47 ∷ inner) (solid_text before 47 (47 ∷ inner) (omega arith) (All-cons (λ x. is_inside_line x ≡ true) 47 inner refl all))
piece_start before shut (closed inner {text = t} none_in e) = λ b bytes first.
    let front = before ++ (codes "/*" ++ (inner ++ codes "*")) in
    let whole : before ++ t ≡ front ++ codes "/" =
    ap (λ l. before ++ l) e ∙ ap (λ l. before ++ (codes "/*" ++ l)) (sym (append_assoc inner (codes "*") (codes "/"))) ∙ sym (append_assoc before (codes "/*" ++ (inner ++ codes "*")) (codes "/")) in
    let slash : b ≡ 47 = cc (first, e) in
    ap is_line_start whole ∙ line_start_more front 47 ∙ solid 47 (omega arith) (is_line_start front)
    ∙ sym (ap (next_line_start (is_line_start before)) slash ∙ solid 47 (omega arith) (is_line_start before))
piece_start before shut (unclosed none_in) = absurd (shut refl)
piece_start before shut (named {b} {bytes} is all) =
    start_by before b bytes (solid_text before b bytes (omega (arith, letter_high b is)) (All-weaker (λ x. is_word_byte x ≡ true) (λ x. is_inside_line x ≡ true) inside_of_word bytes all))
piece_start before shut (run (from_digit {d} {bytes} is on)) = start_by before d bytes (solid_text before d bytes (omega (arith, digit_high d is)) (run_inside on))
piece_start before shut (run (from_point {d} {bytes} is on)) =
    start_by before 46 (d ∷ bytes) (solid_text before 46 (d ∷ bytes) (omega arith) (All-cons (λ x. is_inside_line x ≡ true) d bytes (inside_of_word d (word_of_digit d is)) (run_inside on)))
  where
    word_of_digit : (d : ℕ) → is_digit d ≡ true → is_word_byte d ≡ true
    word_of_digit d h = by_letter (is_letter d)
      where
        by_letter : (t : Bool) → (t || is_digit d) ≡ true
        by_letter true = refl
        by_letter false = h
piece_start before shut (single {b} is) = start_by before b [] (solid_text before b [] (mark_high (codes "()[]{},;=+-*/%<>") b is refl) nothing_more)
piece_start before shut (with_equals {b} is) = start_by before b (codes "=") (solid_text before b (codes "=") (mark_high (codes "+-*/%<>=") b is refl) (one_more 61 refl))
piece_start before shut (doubled {b} is) =
    let high = mark_high (codes "+-&") b is refl in
    start_by before b (b ∷ []) (solid_text before b (b ∷ []) high (one_more b (inside_high b high)))
  where
    inside_high : (b : ℕ) → 33 ≤ b → is_inside_line b ≡ true
    inside_high b h = grind (arith, nat_tests)

-- the line's start after a step that begins with a byte
pub step_start : (before t rest : List ℕ) (ts : List Lexeme) → PieceStep before t rest ts → (b : ℕ) (bytes : List ℕ) → t ≡ b ∷ bytes
    → is_line_start (before ++ t) ≡ next_line_start (is_line_start before) b
unfolding IsStart
step_start before t rest _ (passes next pass) = piece_start before (shut pass) next.is
  where
    shut : {piece : Piece} → IsPassedOver piece → piece ≡ open_comment → ⊥
    shut space e = cc
    shut remark e = cc
    shut comment e = cc
step_start before t rest _ (gives next is) = piece_start before (shut is) next.is
  where
    shut : {piece : Piece} {kind : TokenKind} → IsToken kind piece t → piece ≡ open_comment → ⊥
    shut (a_word h) e = cc
    shut (a_number h) e = cc
    shut (a_decimal h short) e = cc
    shut a_mark e = cc

-- no line starts directly after a directive
pub directive_start : (before line rest : List ℕ) → IsDirective before line rest → is_line_start (before ++ line) ≡ false
directive_start before [] rest d = let clash : [] ≡ codes "#" = d.starts.hash in cc
directive_start before (a ∷ line) rest d =
    let same : a ≡ 35 = let e : a ∷ [] ≡ codes "#" = d.starts.hash in cc in
    let all : AllPass is_inside_line (a ∷ line) = subst (AllPass is_inside_line) (sym d.whole_line) (prefix_passes is_inside_line (a ∷ line ++ rest)) in
    solid_text before a line (omega (arith, same)) (All-tail (λ x. is_inside_line x ≡ true) a line all) ∙ solid a (omega (arith, same)) (is_line_start before)
