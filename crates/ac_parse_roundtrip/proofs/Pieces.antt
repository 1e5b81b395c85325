-- The next piece, by what stands at the front and the byte after it.
use Rattle.std.specs.Prelude.{Bool, true, false, cond, not, ◌&&◌, ◌||◌, nat_lt, ◌==◌, codes}
use Rattle.std.specs.List.{prefix_len}
use Rattle.std.proofs.Common.{◌≡◌, ℕ, suc, ◌+◌, ◌≤◌, List, [], ◌∷◌, ◌++◌, length, refl, sym, ◌∙◌, ap, subst, arith}
use Rattle.ac_lex.specs.Bytes.{is_one_of, is_white_byte, is_letter, is_word_byte, is_sign, is_exponent_letter}
use Rattle.ac_lex.specs.Numerals.{continues, GoesOn, ends, goes, IsRun, from_digit, from_point}
use Rattle.ac_lex.specs.TextPieces.{Piece, white_space, name, numeral, mark, IsPiece, white, named, run, single, with_equals, doubled, IsNextPiece}
use Rattle.ac_lex.specs.LexerModel.{run_at, run_len, pointed_run, word_len, is_single_mark, is_double_mark, line_len, close_end}
use Rattle.ac_lex.proofs.Lists.{prefix_exact}
use Rattle.ac_lex.proofs.Classes.{IsOther, single_other, equals_other, doubled_other, no_white, no_letter, digit_high, digit_low}
use Rattle.ac_lex.proofs.Runs.{run_none}
use Rattle.ac_lex.proofs.Longest.{piece_by, piece_len, most, other_by, other_len, comment_len, len_by, len_letter, len_run, word_len_is, by_eq}

-- a byte over which neither a name nor a numeral goes on
abbrev pub is_stop : ℕ → Bool
is_stop b = not (is_word_byte b) && not (b == 46) && not (is_sign b)

-- a name or a numeral ends before these bytes
abbrev pub Stops : List ℕ → Type 0
Stops [] = Unit {0}
Stops (b ∷ rest) = is_stop b ≡ true

-- a byte with which no mark goes on, and no comment begins
abbrev pub is_quiet : ℕ → Bool
is_quiet b = not (is_one_of (codes "=+-&/*") b)

abbrev pub IsQuiet : List ℕ → Type 0
IsQuiet [] = Unit {0}
IsQuiet (b ∷ rest) = is_quiet b ≡ true

next_piece : {piece : Piece} {text : List ℕ} (rest : List ℕ) → IsPiece piece text → piece_len (text ++ rest) ≤ length text → IsNextPiece piece text rest
next_piece {piece} {text} rest is long = record {
  is = is;
  longest = λ other longer more of same.
      let below : length longer ≤ piece_len (longer ++ more) = most more of in
      omega (arith, below, ap piece_len same, long);
}

-- ---- white space

pub white_next : (b : ℕ) (rest : List ℕ) → is_white_byte b ≡ true → IsNextPiece white_space (b ∷ []) rest
white_next b rest is =
    let one : piece_len (b ∷ rest) ≡ 1 =
    subst (λ w. piece_by w (is_letter b) (nat_lt 0 (run_at (b ∷ rest))) (word_len (b ∷ rest)) (run_at (b ∷ rest)) (other_len (b ∷ rest)) ≡ 1) (sym is) refl in
    next_piece rest (white is) (omega (arith, one))

-- ---- names

three : (w p s : Bool) → (not w && not p && not s) ≡ true → (w ≡ false) × (p ≡ false) × (s ≡ false)
three false false false h = (refl, refl, refl)
three true p s h = cc
three false true s h = cc
three false false true h = cc

no_word : (rest : List ℕ) → Stops rest → prefix_len is_word_byte rest ≡ 0
no_word [] stops = refl
no_word (b ∷ rest) stops =
    subst (λ t. cond t (1 + prefix_len is_word_byte rest) 0 ≡ 0) (sym (three (is_word_byte b) (b == 46) (is_sign b) stops).0) refl

pub name_next : {text : List ℕ} (rest : List ℕ) → IsPiece name text → Stops rest → IsNextPiece name text rest
name_next rest (named {b} {bytes} is all) stops =
    let count : prefix_len is_word_byte (bytes ++ rest) ≡ length bytes = prefix_exact is_word_byte bytes rest all (no_word rest stops) in
    next_piece rest (named is all) (omega (arith, len_letter b (bytes ++ rest) is, word_len_is b (bytes ++ rest) is, count))

-- ---- numerals

no_more : (before b : ℕ) → is_stop b ≡ true → continues before b ≡ false
no_more before b stops = let parts = three (is_word_byte b) (b == 46) (is_sign b) stops in
    subst (λ w. (w || b == 46 || (is_sign b && is_exponent_letter before)) ≡ false) (sym parts.0)
    (subst (λ p. (false || p || (is_sign b && is_exponent_letter before)) ≡ false) (sym parts.1)
    (subst (λ s. (false || false || (s && is_exponent_letter before)) ≡ false) (sym parts.2) refl))

run_stops : (before : ℕ) (rest : List ℕ) → Stops rest → run_len before rest ≡ 0
run_stops before [] stops = refl
run_stops before (b ∷ rest) stops = subst (λ t. cond t (suc (run_len b rest)) 0 ≡ 0) (sym (no_more before b stops)) refl

run_exact : {before : ℕ} {xs : List ℕ} (rest : List ℕ) → Stops rest → GoesOn before xs → run_len before (xs ++ rest) ≡ length xs
run_exact rest stops (ends {before}) = run_stops before rest stops
run_exact rest stops (goes {before} {b} {bytes = xs} on more) =
    subst (λ t. cond t (suc (run_len b (xs ++ rest))) 0 ≡ suc (length xs)) (sym on) (ap suc (run_exact rest stops more))

pub run_next : {text : List ℕ} (rest : List ℕ) → IsRun text → Stops rest → IsNextPiece numeral text rest
unfolding run_at
run_next rest (from_digit {d} {bytes} is on) stops =
    let count : run_len d (bytes ++ rest) ≡ length bytes = run_exact rest stops on in
    let whole : run_at (d ∷ (bytes ++ rest)) ≡ 1 + run_len d (bytes ++ rest) =
    subst (λ t. cond t (1 + run_len d (bytes ++ rest)) (cond (d == 46) (pointed_run (bytes ++ rest)) 0) ≡ 1 + run_len d (bytes ++ rest)) (sym is) refl in
    let same = len_run d (bytes ++ rest) (no_white d (omega (arith, digit_high d is))) (no_letter d (omega (arith, digit_low d is))) (omega (arith, whole)) in
    next_piece rest (run (from_digit is on)) (omega (arith, same, whole, count))
run_next rest (from_point {d} {bytes} is on) stops =
    let count : run_len d (bytes ++ rest) ≡ length bytes = run_exact rest stops on in
    let whole : run_at (46 ∷ d ∷ (bytes ++ rest)) ≡ 2 + run_len d (bytes ++ rest) = subst (λ t. cond t (2 + run_len d (bytes ++ rest)) 0 ≡ 2 + run_len d (bytes ++ rest)) (sym is) refl in
    let same = len_run 46 (d ∷ (bytes ++ rest)) refl refl (omega (arith, whole)) in
    next_piece rest (run (from_point is on)) (omega (arith, same, whole, count))

-- ---- marks

len_other : (a : ℕ) (bytes : List ℕ) → IsOther a → piece_len (a ∷ bytes) ≡ other_len (a ∷ bytes)
len_other a bytes o =
    len_by (is_white_byte a) (is_letter a) (nat_lt 0 (run_at (a ∷ bytes))) false false false (word_len (a ∷ bytes)) (run_at (a ∷ bytes)) (other_len (a ∷ bytes))
    o.not_white o.not_letter (ap (nat_lt 0) (run_none a bytes o.not_digit o.not_point))

-- neither a longer mark nor a comment begins with the byte and what follows it
abbrev pub EndsMark : ℕ → List ℕ → Type 0
EndsMark a [] = Unit {0}
EndsMark a (b ∷ rest) = (is_double_mark a b ≡ false) × ((a == 47 && b == 47) ≡ false) × ((a == 47 && b == 42) ≡ false)

one_mark : (a : ℕ) (rest : List ℕ) → EndsMark a rest → other_len (a ∷ rest) ≤ 1
one_mark a [] ended = by_single (is_single_mark a)
  where
    by_single : (s : Bool) → cond s 1 0 ≤ 1
    by_single true = omega arith
    by_single false = omega arith
one_mark a (b ∷ rest) ended =
    by_tests (is_double_mark a b) (a == 47 && b == 47) (a == 47 && b == 42) (is_single_mark a) ended.0 ended.1 ended.2
  where
    by_tests : (d l c s : Bool) → d ≡ false → l ≡ false → c ≡ false
        → other_by l c (line_len (a ∷ b ∷ rest)) (comment_len rest (close_end 0 rest)) (cond d 2 (cond s 1 0)) ≤ 1
    by_tests false false false true hd hl hc = omega arith
    by_tests false false false false hd hl hc = omega arith
    by_tests true l c s hd hl hc = cc
    by_tests false true c s hd hl hc = cc
    by_tests false false true s hd hl hc = cc

single_next : (a : ℕ) (rest : List ℕ) → is_single_mark a ≡ true → EndsMark a rest → IsNextPiece mark (a ∷ []) rest
single_next a rest is ended = next_piece rest (single is) (omega (arith, len_other a rest (single_other a is), one_mark a rest ended))

-- a mark that is the front of no other
pub bracket_next : (a : ℕ) (rest : List ℕ) → is_single_mark a ≡ true → is_one_of (codes "+-*/%<>=") a ≡ false → is_one_of (codes "+-&") a ≡ false → (a == 47) ≡ false
    → IsNextPiece mark (a ∷ []) rest
bracket_next a rest is no_equals no_double no_slash = single_next a rest is (ended rest)
  where
    never : (x : Bool) → (x && false) ≡ false
    never true = refl
    never false = refl

    neither : (x y : Bool) → ((x && false) || (y && false)) ≡ false
    neither true y = never y
    neither false y = never y

    ended : (rest : List ℕ) → EndsMark a rest
    ended [] = tt
    ended (b ∷ rest) = (
      subst (λ t. ((b == 61 && t) || (a == b && is_one_of (codes "+-&") a)) ≡ false) (sym no_equals) (subst (λ t. ((b == 61 && false) || (a == b && t)) ≡ false) (sym no_double) (neither (b == 61) (a == b))),
      subst (λ t. (t && b == 47) ≡ false) (sym no_slash) refl,
      subst (λ t. (t && b == 42) ≡ false) (sym no_slash) refl,
    )

-- none of = + - & / *
record IsNone (b : ℕ) : Type 0 where
  equals : (b == 61) ≡ false
  plus : (b == 43) ≡ false
  minus : (b == 45) ≡ false
  also : (b == 38) ≡ false
  slash : (b == 47) ≡ false
  star : (b == 42) ≡ false

quiet_facts : (b : ℕ) → is_quiet b ≡ true → IsNone b
quiet_facts b h = by_tests (b == 61) (b == 43) (b == 45) (b == 38) (b == 47) (b == 42) refl refl refl refl refl refl h
  where
    by_tests : (e p m a s t : Bool) → (b == 61) ≡ e → (b == 43) ≡ p → (b == 45) ≡ m → (b == 38) ≡ a → (b == 47) ≡ s → (b == 42) ≡ t
        → not (e || (p || (m || (a || (s || (t || false)))))) ≡ true → IsNone b
    by_tests false false false false false false he hp hm ha hs ht h = record { equals = he; plus = hp; minus = hm; also = ha; slash = hs; star = ht }
    by_tests true p m a s t he hp hm ha hs ht h = cc
    by_tests false true m a s t he hp hm ha hs ht h = cc
    by_tests false false true a s t he hp hm ha hs ht h = cc
    by_tests false false false true s t he hp hm ha hs ht h = cc
    by_tests false false false false true t he hp hm ha hs ht h = cc
    by_tests false false false false false true he hp hm ha hs ht h = cc

-- a mark before a byte with which none goes on
pub mark_next : (a : ℕ) (rest : List ℕ) → is_single_mark a ≡ true → IsQuiet rest → IsNextPiece mark (a ∷ []) rest
mark_next a rest is quiet = single_next a rest is (ended rest quiet)
  where
    never : (x : Bool) → (x && false) ≡ false
    never true = refl
    never false = refl

    no_double : (b : ℕ) → IsNone b → is_one_of (codes "+-&") b ≡ false
    no_double b n =
        subst (λ t. (t || (b == 45 || (b == 38 || false))) ≡ false) (sym n.plus)
        (subst (λ t. (false || (t || (b == 38 || false))) ≡ false) (sym n.minus)
        (subst (λ t. (false || (false || (t || false))) ≡ false) (sym n.also) refl))

    ended : (rest : List ℕ) → IsQuiet rest → EndsMark a rest
    ended [] quiet = tt
    ended (b ∷ rest) quiet = let n = quiet_facts b quiet in (
      subst (λ t. ((t && is_one_of (codes "+-*/%<>=") a) || (a == b && is_one_of (codes "+-&") a)) ≡ false) (sym n.equals)
          (by_eq a b (λ t. (t && is_one_of (codes "+-&") a) ≡ false) (λ e. ap (is_one_of (codes "+-&")) e ∙ no_double b n) (λ e. refl)),
      subst (λ t. (a == 47 && t) ≡ false) (sym n.slash) (never (a == 47)),
      subst (λ t. (a == 47 && t) ≡ false) (sym n.star) (never (a == 47)),
    )

two : (a : ℕ) (rest : List ℕ) → piece_len (a ∷ rest) ≡ other_len (a ∷ rest) → other_len (a ∷ rest) ≡ 2 → piece_len (a ∷ rest) ≤ 2
two a rest e f = omega (arith, e, f)

pub with_equals_next : (a : ℕ) (rest : List ℕ) → is_one_of (codes "+-*/%<>=") a ≡ true → other_len (a ∷ 61 ∷ rest) ≡ 2 → IsNextPiece mark (a ∷ codes "=") rest
with_equals_next a rest is count = next_piece rest (with_equals is) (two a (61 ∷ rest) (len_other a (61 ∷ rest) (equals_other a is)) count)

pub doubled_next : (a : ℕ) (rest : List ℕ) → is_one_of (codes "+-&") a ≡ true → other_len (a ∷ a ∷ rest) ≡ 2 → IsNextPiece mark (a ∷ a ∷ []) rest
doubled_next a rest is count = next_piece rest (doubled is) (two a (a ∷ rest) (len_other a (a ∷ rest) (doubled_other a is)) count)
