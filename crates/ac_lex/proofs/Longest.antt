-- How long the longest piece at the front of the bytes is.
use Rattle.std.specs.Prelude.{Bool, true, false, cond, not, ◌&&◌, ◌||◌, nat_lt, ◌==◌, codes, Option, Some, None}
use Rattle.std.specs.List.{prefix_len}
use Rattle.std.proofs.Common.{◌≡◌, ℕ, suc, ◌+◌, ◌≤◌, ◌<◌, List, [], ◌∷◌, ◌++◌, length, refl, sym, ◌∙◌, ap, subst, arith, length-append, append_assoc, ◌⊎◌, inl, inr}
use Rattle.std.proofs.lemmas.Bool.{cases_lt}
use Rattle.std.proofs.lemmas.Bool.Decides.{Decides-eqb, nat_tests}
use Rattle.ac_lex.specs.Bytes.{is_one_of, is_white_byte, is_letter, is_digit, is_word_byte, is_inside_line}
use Rattle.ac_lex.specs.Numerals.{IsRun, from_digit, from_point}
use Rattle.ac_lex.specs.TextPieces.{Piece, HasClose, IsPiece, white, to_line_end, closed, unclosed, named, run, single, with_equals, doubled}
use Rattle.ac_lex.specs.LexerModel.{run_at, close_end, word_len, line_len, is_single_mark, is_double_mark, mark_len}
use Rattle.ac_lex.proofs.Lists.{prefix_at_least}
use Rattle.ac_lex.proofs.Classes.{IsOther, single_other, equals_other, doubled_other, one_of_all, no_white, no_letter, letter_high, digit_high, digit_low}
use Rattle.ac_lex.proofs.Comments.{close_first, close_inside}
use Rattle.ac_lex.proofs.Runs.{run_most, run_none}

abbrev pub comment_len : List ℕ → Option ℕ → ℕ
comment_len bytes None = 2 + length bytes
comment_len bytes (Some n) = 2 + n

abbrev pub other_by : Bool → Bool → ℕ → ℕ → ℕ → ℕ
other_by l c to_end closing marked = cond l to_end (cond c closing marked)

abbrev pub other_len : List ℕ → ℕ
other_len [] = 0
other_len (a ∷ []) = mark_len (a ∷ [])
other_len (a ∷ b ∷ bytes) =
    other_by (a == 47 && b == 47) (a == 47 && b == 42) (line_len (a ∷ b ∷ bytes)) (comment_len bytes (close_end 0 bytes)) (mark_len (a ∷ b ∷ bytes))

abbrev pub piece_by : Bool → Bool → Bool → ℕ → ℕ → ℕ → ℕ
piece_by w l r word_n run_n other_n = cond w 1 (cond l word_n (cond r run_n other_n))

-- how long the longest piece at the front is
abbrev pub piece_len : List ℕ → ℕ
piece_len [] = 0
piece_len (a ∷ bytes) =
    piece_by (is_white_byte a) (is_letter a) (nat_lt 0 (run_at (a ∷ bytes))) (word_len (a ∷ bytes)) (run_at (a ∷ bytes)) (other_len (a ∷ bytes))

pub len_by : (w l r w' l' r' : Bool) (x y z : ℕ) → w ≡ w' → l ≡ l' → r ≡ r' → piece_by w l r x y z ≡ piece_by w' l' r' x y z
len_by w l r w' l' r' x y z ew el er = cc

pub len_letter : (a : ℕ) (bytes : List ℕ) → is_letter a ≡ true → piece_len (a ∷ bytes) ≡ word_len (a ∷ bytes)
len_letter a bytes is =
    len_by (is_white_byte a) (is_letter a) (nat_lt 0 (run_at (a ∷ bytes))) false true (nat_lt 0 (run_at (a ∷ bytes))) (word_len (a ∷ bytes)) (run_at (a ∷ bytes)) (other_len (a ∷ bytes))
    (no_white a (omega (arith, letter_high a is))) is refl

pub len_run : (a : ℕ) (bytes : List ℕ) → is_white_byte a ≡ false → is_letter a ≡ false → 0 < run_at (a ∷ bytes) → piece_len (a ∷ bytes) ≡ run_at (a ∷ bytes)
len_run a bytes nw nl some =
    len_by (is_white_byte a) (is_letter a) (nat_lt 0 (run_at (a ∷ bytes))) false false true (word_len (a ∷ bytes)) (run_at (a ∷ bytes)) (other_len (a ∷ bytes)) nw nl (is_some (run_at (a ∷ bytes)) some)
  where
    is_some : (n : ℕ) → 0 < n → nat_lt 0 n ≡ true
    is_some n h = grind (arith, nat_tests)

len_other : (a : ℕ) (bytes : List ℕ) → IsOther a → piece_len (a ∷ bytes) ≡ other_len (a ∷ bytes)
len_other a bytes o =
    len_by (is_white_byte a) (is_letter a) (nat_lt 0 (run_at (a ∷ bytes))) false false false (word_len (a ∷ bytes)) (run_at (a ∷ bytes)) (other_len (a ∷ bytes))
    o.not_white o.not_letter (ap (nat_lt 0) (run_none a bytes o.not_digit o.not_point))

pub word_is : (a : ℕ) → is_letter a ≡ true → is_word_byte a ≡ true
word_is a is = subst (λ t. (t || is_digit a) ≡ true) (sym is) refl

pub word_len_is : (a : ℕ) (bytes : List ℕ) → is_letter a ≡ true → word_len (a ∷ bytes) ≡ 1 + prefix_len is_word_byte bytes
unfolding word_len
word_len_is a bytes is = subst (λ t. cond t (1 + prefix_len is_word_byte bytes) 0 ≡ 1 + prefix_len is_word_byte bytes) (sym (word_is a is)) refl

pub by_eq : (a b : ℕ) (P : Bool → Type 0) → (a ≡ b → P true) → ((a == b) ≡ false → P false) → P (a == b)
by_eq a b P when_same none_in = by_test (a == b) refl
  where
    by_test : (t : Bool) → (a == b) ≡ t → P t
    by_test true is = when_same ((Decides-eqb a b).0 is)
    by_test false is = none_in is

mark_some : (a : ℕ) (bytes : List ℕ) → is_single_mark a ≡ true → 1 ≤ mark_len (a ∷ bytes)
mark_some a [] is = subst (λ t. 1 ≤ cond t 1 0) (sym is) (omega arith)
mark_some a (b ∷ bytes) is = by_double (is_double_mark a b)
  where
    by_double : (d : Bool) → 1 ≤ cond d 2 (cond (is_single_mark a) 1 0)
    by_double true = omega arith
    by_double false = subst (λ t. 1 ≤ cond t 1 0) (sym is) (omega arith)

mark_two : (a b : ℕ) (bytes : List ℕ) → is_double_mark a b ≡ true → 2 ≤ mark_len (a ∷ b ∷ bytes)
mark_two a b bytes is = subst (λ t. 2 ≤ cond t 2 (cond (is_single_mark a) 1 0)) (sym is) (omega arith)

comment_some : (bytes : List ℕ) (o : Option ℕ) → 1 ≤ comment_len bytes o
comment_some bytes None = omega arith
comment_some bytes (Some n) = omega arith

other_some : (a : ℕ) (bytes : List ℕ) → is_single_mark a ≡ true → 1 ≤ other_len (a ∷ bytes)
unfolding line_len
other_some a [] is = mark_some a [] is
other_some a (b ∷ bytes) is =
    by_eq a 47 (λ t. 1 ≤ other_by (t && b == 47) (t && b == 42) (line_len (a ∷ b ∷ bytes)) (comment_len bytes (close_end 0 bytes)) (mark_len (a ∷ b ∷ bytes)))
    (λ e. by_second e (b == 47) (b == 42)) (λ e. mark_some a (b ∷ bytes) is)
  where
    line_some : a ≡ 47 → 1 ≤ line_len (a ∷ b ∷ bytes)
    line_some e = subst (λ c. 1 ≤ line_len (c ∷ b ∷ bytes)) (sym e) (omega arith)

    by_second : a ≡ 47 → (s t : Bool) → 1 ≤ other_by s t (line_len (a ∷ b ∷ bytes)) (comment_len bytes (close_end 0 bytes)) (mark_len (a ∷ b ∷ bytes))
    by_second e true t = line_some e
    by_second e false true = comment_some bytes (close_end 0 bytes)
    by_second e false false = mark_some a (b ∷ bytes) is

closed_most : (inner more : List ℕ) → (HasClose (inner ++ codes "*") → ⊥) → 4 + length inner ≤ comment_len ((inner ++ codes "*/") ++ more) (close_end 0 ((inner ++ codes "*/") ++ more))
closed_most inner more none_in =
    let bytes = (inner ++ codes "*/") ++ more in
    let first = close_first 0 inner bytes more (append_assoc inner (codes "*/") more) in
    subst (λ o. 4 + length inner ≤ comment_len bytes o) (sym first.1) (at_end first.0 first.1 (cases_lt (length inner + 1) first.0))
  where
    at_end : (n : ℕ) → close_end 0 ((inner ++ codes "*/") ++ more) ≡ Some n → (length inner + 1 < n) ⊎ (n ≤ length inner + 1) → 4 + length inner ≤ 2 + n
    at_end n e (inl below) = omega arith
    at_end n e (inr early) =
        absurd (none_in (close_inside ((inner ++ codes "*/") ++ more) (inner ++ codes "*") (codes "/" ++ more) n e
        (append_assoc inner (codes "*/") more ∙ sym (append_assoc inner (codes "*") (codes "/" ++ more))) (omega (arith, early, length-append inner (codes "*")))))

unclosed_most : (inner more : List ℕ) → (HasClose inner → ⊥) → 2 + length inner ≤ comment_len (inner ++ more) (close_end 0 (inner ++ more))
unclosed_most inner more none_in = by_end (close_end 0 (inner ++ more)) refl
  where
    by_end : (o : Option ℕ) → close_end 0 (inner ++ more) ≡ o → 2 + length inner ≤ comment_len (inner ++ more) o
    by_end None e = omega (arith, length-append inner more)
    by_end (Some n) e = at_end (cases_lt (length inner) n)
      where
        at_end : (length inner < n) ⊎ (n ≤ length inner) → 2 + length inner ≤ 2 + n
        at_end (inl below) = omega arith
        at_end (inr early) = absurd (none_in (close_inside (inner ++ more) inner more n e refl early))

run_first : (t more : List ℕ) → IsRun t → length t ≤ piece_len (t ++ more)
run_first _ more (from_digit {d} {bytes} is on) =
    let below : suc (length bytes) ≤ run_at (d ∷ (bytes ++ more)) = run_most more (from_digit is on) in
    let same = len_run d (bytes ++ more) (no_white d (omega (arith, digit_high d is))) (no_letter d (omega (arith, digit_low d is))) (omega arith) in
    omega (arith, same, below)
run_first _ more (from_point {d} {bytes} is on) =
    let below : suc (suc (length bytes)) ≤ run_at (46 ∷ d ∷ (bytes ++ more)) = run_most more (from_point is on) in
    let same = len_run 46 (d ∷ (bytes ++ more)) refl refl (omega arith) in
    omega (arith, same, below)

-- no piece at the front is longer
pub most : {piece : Piece} {t : List ℕ} (more : List ℕ) → IsPiece piece t → length t ≤ piece_len (t ++ more)
unfolding line_len run_at
most more (white {b} is) =
    subst (λ w. 1 ≤ piece_by w (is_letter b) (nat_lt 0 (run_at (b ∷ more))) (word_len (b ∷ more)) (run_at (b ∷ more)) (other_len (b ∷ more))) (sym is) (omega arith)
most more (to_line_end {inner} all) =
    let below : length inner ≤ prefix_len is_inside_line (inner ++ more) = prefix_at_least is_inside_line inner more all in omega arith
most more (closed inner none_in e) =
    let below = closed_most inner more none_in in
    subst (λ l. length l ≤ piece_len (l ++ more)) (sym e) (omega (arith, below, length-append inner (codes "*/")))
most more (unclosed {inner} none_in) = omega (arith, unclosed_most inner more none_in)
most more (named {b} {bytes} is all) =
    let below = prefix_at_least is_word_byte bytes more all in
    omega (arith, len_letter b (bytes ++ more) is, word_len_is b (bytes ++ more) is, below)
most more (run is) = run_first _ more is
most more (single {b} is) = omega (arith, len_other b more (single_other b is), other_some b more is)
most more (with_equals {b} is) =
    let o = len_other b (61 ∷ more) (equals_other b is) in
    let marked : 2 ≤ mark_len (b ∷ 61 ∷ more) = mark_two b 61 more (subst (λ t. (t || (b == 61 && is_one_of (codes "+-&") b)) ≡ true) (sym is) refl) in
    let all : 2 ≤ other_len (b ∷ 61 ∷ more) =
    by_eq b 47 (λ t. 2 ≤ other_by (t && false) (t && false) (line_len (b ∷ 61 ∷ more)) (comment_len more (close_end 0 more)) (mark_len (b ∷ 61 ∷ more))) (λ q. marked) (λ q. marked) in
    omega (arith, o, all)
most more (doubled {b} is) =
    let o = len_other b (b ∷ more) (doubled_other b is) in
    let same : (b == b) ≡ true = (Decides-eqb b b).1 refl in
    let no_slash : (b == 47) ≡ false = not_slash in
    let double : is_double_mark b b ≡ true = or_right (b == 61 && is_one_of (codes "+-*/%<>=") b) (and_both same is) in
    let marked : 2 ≤ mark_len (b ∷ b ∷ more) = mark_two b b more double in
    let all : 2 ≤ other_len (b ∷ b ∷ more) =
    subst (λ t. 2 ≤ other_by (t && t) (t && b == 42) (line_len (b ∷ b ∷ more)) (comment_len more (close_end 0 more)) (mark_len (b ∷ b ∷ more))) (sym no_slash) marked in
    omega (arith, o, all)
  where
    none_in : (x : Bool) → not x ≡ true → x ≡ false
    none_in true h = cc
    none_in false h = refl

    not_slash : (b == 47) ≡ false
    not_slash = none_in (b == 47) (one_of_all (λ c. not (c == 47)) (codes "+-&") b is refl)

    or_right : (x : Bool) {y : Bool} → y ≡ true → (x || y) ≡ true
    or_right true h = refl
    or_right false h = h

    and_both : {x y : Bool} → x ≡ true → y ≡ true → (x && y) ≡ true
    and_both {x} {y} h k = subst (λ t. (t && y) ≡ true) (sym h) k

pub not_empty : {piece : Piece} {t : List ℕ} → IsPiece piece t → 0 < length t
not_empty (white is) = omega arith
not_empty (to_line_end all) = omega arith
not_empty (closed inner none_in e) = omega (arith, ap length e)
not_empty (unclosed none_in) = omega arith
not_empty (named is all) = omega arith
not_empty (run (from_digit is on)) = omega arith
not_empty (run (from_point is on)) = omega arith
not_empty (single is) = omega arith
not_empty (with_equals is) = omega arith
not_empty (doubled is) = omega arith
