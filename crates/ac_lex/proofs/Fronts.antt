-- What the code reads at the front of the bytes is the next piece.
use Rattle.std.specs.Prelude.{Bool, true, false, cond, ◌&&◌, ◌||◌, nat_lt, ◌==◌, codes, Option, Some, None}
use Rattle.std.specs.List.{prefix_len}
use Rattle.std.proofs.Common.{◌≡◌, ℕ, suc, ◌+◌, ◌≤◌, ◌<◌, List, [], ◌∷◌, ◌++◌, length, take, drop, refl, sym, ◌∙◌, ap, subst, arith, length-append, append_assoc, ◌⊎◌, inl, inr}
use Rattle.std.proofs.lemmas.List.{length-take-le}
use Rattle.std.proofs.Math.Seq.{drop-append_seam}
use Rattle.std.proofs.lemmas.Bool.Decides.{Decides-eqb, nat_tests}
use Rattle.ac_lex.specs.declared.tokens.TokenKind.TheVariants.{Word, Number, Decimal, Mark}
use Rattle.ac_lex.specs.Bytes.{is_one_of, is_white_byte, is_letter, is_word_byte, is_inside_line}
use Rattle.ac_lex.specs.TextPieces.{Piece, white_space, line_comment, block_comment, open_comment, name, numeral, mark, IsPiece, white, to_line_end, closed, unclosed, named, run, single, with_equals, doubled, IsNextPiece, HasNoPiece, IsPassedOver, space, remark, comment, IsToken, a_word, a_number, a_decimal, a_mark, bad_byte, bad_number, long_name, long_word, long_decimal, no_numeral, no_end}
use Rattle.ac_lex.specs.Tokens.{PieceFault, no_piece, refused}
use Rattle.ac_lex.specs.LexerModel.{run_at, close_end, word_len, line_len, Seen, nothing, over, text, bad, cut, name_at, numeral_of, comment_by, comment_at, is_single_mark, is_double_mark, mark_len, mark_at, other_at, front, is_number, is_decimal}
use Rattle.ac_lex.proofs.Lists.{take_drop, prefix_passes, length_take_prefix}
use Rattle.ac_lex.proofs.Comments.{close_found, close_none}
use Rattle.ac_lex.proofs.Runs.{run_is, run_fits}
use Rattle.ac_lex.proofs.Decimals.{decimal_yes, decimal_back, number_yes, number_back}
use Rattle.ac_lex.proofs.Longest.{comment_len, other_by, other_len, piece_by, piece_len, most, not_empty, word_len_is, len_letter, len_run, by_eq, len_by}

-- what stands at the front, in the terms of the definitions
abbrev pub FrontIs : List ℕ → Seen → Type 0
FrontIs bytes nothing = bytes ≡ []
FrontIs bytes (over rest) = (piece : Piece) × (t : List ℕ) × (bytes ≡ t ++ rest) × IsNextPiece piece t rest × IsPassedOver piece
FrontIs bytes (text kind t rest) = (piece : Piece) × (bytes ≡ t ++ rest) × IsNextPiece piece t rest × IsToken kind piece t
FrontIs bytes (bad why) = (before : List ℕ) → PieceFault before bytes why (length before)

next_piece : (bytes : List ℕ) (piece : Piece) (t rest : List ℕ) → bytes ≡ t ++ rest → IsPiece piece t → piece_len bytes ≤ length t → IsNextPiece piece t rest
next_piece bytes piece t rest cut is long = record {
  is = is;
  longest = λ other longer more of same.
      let below : length longer ≤ piece_len (longer ++ more) = most more of in
      let here : longer ++ more ≡ bytes = sym same ∙ sym cut in
      omega (arith, below, ap piece_len here, long);
}

no_front : (bytes : List ℕ) → piece_len bytes ≡ 0 → HasNoPiece bytes
no_front bytes none_in piece t rest of cut =
    let below : length t ≤ piece_len (t ++ rest) = most rest of in
    omega (arith, below, ap piece_len cut, none_in, not_empty of)

white_front : (a : ℕ) (bytes : List ℕ) → is_white_byte a ≡ true → FrontIs (a ∷ bytes) (over bytes)
white_front a bytes is =
    let one : piece_len (a ∷ bytes) ≡ 1 =
    subst (λ w. piece_by w (is_letter a) (nat_lt 0 (run_at (a ∷ bytes))) (word_len (a ∷ bytes)) (run_at (a ∷ bytes)) (other_len (a ∷ bytes)) ≡ 1) (sym is) refl in
    (white_space, a ∷ [], refl, next_piece (a ∷ bytes) white_space (a ∷ []) bytes refl (white is) (omega (arith, one)), space)

name_front : (a : ℕ) (bytes : List ℕ) → is_letter a ≡ true → FrontIs (a ∷ bytes) (name_at (a ∷ bytes))
unfolding name_at
name_front a bytes is = by_long (nat_lt 64 (word_len (a ∷ bytes))) refl
  where
    count : word_len (a ∷ bytes) ≡ suc (prefix_len is_word_byte bytes)
    count = let m = prefix_len is_word_byte bytes in let e : 1 + m ≡ suc m = omega arith in word_len_is a bytes is ∙ e

    t : List ℕ
    t = take (word_len (a ∷ bytes)) (a ∷ bytes)

    rest : List ℕ
    rest = drop (word_len (a ∷ bytes)) (a ∷ bytes)

    parts : a ∷ bytes ≡ t ++ rest
    parts = take_drop (word_len (a ∷ bytes)) (a ∷ bytes)

    its : IsPiece name t
    its = subst (λ k. IsPiece name (take k (a ∷ bytes))) (sym count) (named is (prefix_passes is_word_byte bytes))

    long : length t ≡ word_len (a ∷ bytes)
    long = subst (λ k. length (take k (a ∷ bytes)) ≡ k) (sym count) (ap suc (length_take_prefix is_word_byte bytes))

    next : IsNextPiece name t rest
    next = next_piece (a ∷ bytes) name t rest parts its (omega (arith, len_letter a bytes is, long))

    is_long : nat_lt 64 (word_len (a ∷ bytes)) ≡ true → 64 < word_len (a ∷ bytes)
    is_long h = grind (arith, nat_tests)

    is_short : nat_lt 64 (word_len (a ∷ bytes)) ≡ false → word_len (a ∷ bytes) ≤ 64
    is_short h = grind (arith, nat_tests)

    by_long : (b : Bool) → nat_lt 64 (word_len (a ∷ bytes)) ≡ b → FrontIs (a ∷ bytes) (cond b (bad long_name) (text Word t rest))
    by_long true e = λ before. refused parts next (long_word (omega (arith, is_long e, long)))
    by_long false e = (name, parts, next, a_word (omega (arith, is_short e, long)))

numeral_front : (a : ℕ) (bytes : List ℕ) → is_white_byte a ≡ false → is_letter a ≡ false → 0 < run_at (a ∷ bytes)
    → FrontIs (a ∷ bytes) (numeral_of (run_at (a ∷ bytes)) (a ∷ bytes))
unfolding numeral_of
numeral_front a bytes nw nl some = by_tests (is_number t) (is_decimal t) (nat_lt 64 n) refl refl refl
  where
    n : ℕ
    n = run_at (a ∷ bytes)

    t : List ℕ
    t = take n (a ∷ bytes)

    rest : List ℕ
    rest = drop n (a ∷ bytes)

    parts : a ∷ bytes ≡ t ++ rest
    parts = take_drop n (a ∷ bytes)

    long : length t ≡ n
    long = length-take-le n (a ∷ bytes) (run_fits (a ∷ bytes))

    next : IsNextPiece numeral t rest
    next = next_piece (a ∷ bytes) numeral t rest parts (run (run_is (a ∷ bytes) some)) (omega (arith, len_run a bytes nw nl some, long))

    is_long : nat_lt 64 n ≡ true → 64 < n
    is_long h = grind (arith, nat_tests)

    is_short : nat_lt 64 n ≡ false → n ≤ 64
    is_short h = grind (arith, nat_tests)

    by_tests : (b c d : Bool) → is_number t ≡ b → is_decimal t ≡ c → nat_lt 64 n ≡ d
        → FrontIs (a ∷ bytes) (cond b (text Number t rest) (cond c (cond d (bad long_name) (text Decimal t rest)) (bad bad_number)))
    by_tests true c d eb ec ed = (numeral, parts, next, a_number (number_yes t eb))
    by_tests false true true eb ec ed = λ before. refused parts next (long_decimal (decimal_yes t ec) (omega (arith, is_long ed, long)))
    by_tests false true false eb ec ed = (numeral, parts, next, a_decimal (decimal_yes t ec) (omega (arith, is_short ed, long)))
    by_tests false false d eb ec ed = λ before. refused parts next (no_numeral (λ h. cc (eb, number_back h)) (λ h. cc (ec, decimal_back h)))

mark_fits : (bytes : List ℕ) → mark_len bytes ≤ length bytes
mark_fits [] = omega arith
mark_fits (a ∷ []) = by_single (is_single_mark a)
  where
    by_single : (s : Bool) → cond s 1 0 ≤ 1
    by_single true = omega arith
    by_single false = omega arith
mark_fits (a ∷ b ∷ bytes) = by_tests (is_double_mark a b) (is_single_mark a)
  where
    by_tests : (d s : Bool) → cond d 2 (cond s 1 0) ≤ suc (suc (length bytes))
    by_tests true s = omega arith
    by_tests false true = omega arith
    by_tests false false = omega arith

mark_is : (bytes : List ℕ) → 0 < mark_len bytes → IsPiece mark (take (mark_len bytes) bytes)
mark_is [] h = absurd (omega arith)
mark_is (a ∷ []) h = by_single (is_single_mark a) refl h
  where
    by_single : (s : Bool) → is_single_mark a ≡ s → 0 < cond s 1 0 → IsPiece mark (take (cond s 1 0) (a ∷ []))
    by_single true is h = single is
    by_single false is h = absurd (omega arith)
mark_is (a ∷ b ∷ bytes) h = by_tests (is_double_mark a b) (is_single_mark a) refl refl h
  where
    both : (x y : Bool) → (x && y) ≡ true → (x ≡ true) × (y ≡ true)
    both true true h = (refl, refl)
    both true false h = cc
    both false y h = cc

    either : (x y : Bool) → (x || y) ≡ true → (x ≡ true) ⊎ (y ≡ true)
    either true y h = inl refl
    either false y h = inr h

    by_double : ((b == 61 && is_one_of (codes "+-*/%<>=") a) ≡ true) ⊎ ((a == b && is_one_of (codes "+-&") a) ≡ true) → IsPiece mark (a ∷ b ∷ [])
    by_double (inl is) =
        let pair = both (b == 61) (is_one_of (codes "+-*/%<>=") a) is in
        subst (λ c. IsPiece mark (a ∷ c ∷ [])) (sym ((Decides-eqb b 61).0 pair.0)) (with_equals pair.1)
    by_double (inr is) =
        let pair = both (a == b) (is_one_of (codes "+-&") a) is in
        subst (λ c. IsPiece mark (a ∷ c ∷ [])) ((Decides-eqb a b).0 pair.0) (doubled pair.1)

    by_tests : (d s : Bool) → is_double_mark a b ≡ d → is_single_mark a ≡ s → 0 < cond d 2 (cond s 1 0) → IsPiece mark (take (cond d 2 (cond s 1 0)) (a ∷ b ∷ bytes))
    by_tests true s ed es h = by_double (either (b == 61 && is_one_of (codes "+-*/%<>=") a) (a == b && is_one_of (codes "+-&") a) ed)
    by_tests false true ed es h = single es
    by_tests false false ed es h = absurd (omega arith)

mark_front : (a : ℕ) (bytes : List ℕ) → piece_len (a ∷ bytes) ≡ mark_len (a ∷ bytes) → FrontIs (a ∷ bytes) (mark_at (a ∷ bytes))
unfolding mark_at
mark_front a bytes same = by_eq (mark_len (a ∷ bytes)) 0 (λ z. FrontIs (a ∷ bytes) (cond z (bad bad_byte) (text Mark t rest)))
    (λ e before. no_piece (omega arith) (no_front (a ∷ bytes) (same ∙ e))) (λ e. found (some e))
  where
    t : List ℕ
    t = take (mark_len (a ∷ bytes)) (a ∷ bytes)

    rest : List ℕ
    rest = drop (mark_len (a ∷ bytes)) (a ∷ bytes)

    parts : a ∷ bytes ≡ t ++ rest
    parts = take_drop (mark_len (a ∷ bytes)) (a ∷ bytes)

    long : length t ≡ mark_len (a ∷ bytes)
    long = length-take-le (mark_len (a ∷ bytes)) (a ∷ bytes) (mark_fits (a ∷ bytes))

    some : (mark_len (a ∷ bytes) == 0) ≡ false → 0 < mark_len (a ∷ bytes)
    some h = grind (arith, nat_tests)

    found : 0 < mark_len (a ∷ bytes) → FrontIs (a ∷ bytes) (text Mark t rest)
    found h = (mark, parts, next_piece (a ∷ bytes) mark t rest parts (mark_is (a ∷ bytes) h) (omega (arith, same, long)), a_mark)

line_front : (bytes : List ℕ) → FrontIs (47 ∷ 47 ∷ bytes) (over (drop (line_len (47 ∷ 47 ∷ bytes)) (47 ∷ 47 ∷ bytes)))
unfolding line_len run_at
line_front bytes =
    let n = prefix_len is_inside_line bytes in
    let t = take n bytes in let rest = drop n bytes in
    let e : 1 + (1 + n) ≡ suc (suc n) = omega arith in
    let there : drop (1 + (1 + n)) (47 ∷ 47 ∷ bytes) ≡ rest = ap (λ k. drop k (47 ∷ 47 ∷ bytes)) e in
    let parts : 47 ∷ 47 ∷ bytes ≡ (codes "//" ++ t) ++ rest = ap (λ l. 47 ∷ 47 ∷ l) (take_drop n bytes) in
    let long : length t ≡ n = length_take_prefix is_inside_line bytes in
    subst (λ l. FrontIs (47 ∷ 47 ∷ bytes) (over l)) (sym there)
    (line_comment, codes "//" ++ t, parts, next_piece (47 ∷ 47 ∷ bytes) line_comment (codes "//" ++ t) rest parts (to_line_end (prefix_passes is_inside_line bytes)) (omega (arith, long)), remark)

comment_front : (bytes : List ℕ) → FrontIs (47 ∷ 42 ∷ bytes) (comment_at bytes)
unfolding comment_at run_at
comment_front bytes = by_end (close_end 0 bytes) refl
  where
    by_end : (o : Option ℕ) → close_end 0 bytes ≡ o → FrontIs (47 ∷ 42 ∷ bytes) (comment_by bytes o)
    by_end None e =
        let len : piece_len (47 ∷ 42 ∷ bytes) ≡ 2 + length bytes = ap (comment_len bytes) e in
        let parts : 47 ∷ 42 ∷ bytes ≡ (codes "/*" ++ bytes) ++ [] = ap (λ l. 47 ∷ 42 ∷ l) (sym (append_nil bytes)) in
        λ before. refused parts (next_piece (47 ∷ 42 ∷ bytes) open_comment (codes "/*" ++ bytes) [] parts (unclosed (close_none bytes e)) (omega (arith, len))) no_end
      where
        append_nil : (l : List ℕ) → l ++ [] ≡ l
        append_nil [] = refl
        append_nil (b ∷ l) = ap (λ x. b ∷ x) (append_nil l)
    by_end (Some n) e =
        let len : piece_len (47 ∷ 42 ∷ bytes) ≡ 2 + n = ap (comment_len bytes) e in
        let found = close_found bytes n e in
        let inner = found.0 in let after = found.1 in
        let t = codes "/*" ++ (inner ++ codes "*/") in
        let short : length (inner ++ codes "*/") ≡ n = length-append inner (codes "*/") ∙ found.3 in
        let whole : bytes ≡ (inner ++ codes "*/") ++ after = found.2 ∙ sym (append_assoc inner (codes "*/") after) in
        let there : drop n bytes ≡ after =
        ap (drop n) whole ∙ ap (λ k. drop k ((inner ++ codes "*/") ++ after)) (sym short) ∙ drop-append_seam (inner ++ codes "*/") after in
        let parts : 47 ∷ 42 ∷ bytes ≡ t ++ after = ap (λ l. 47 ∷ 42 ∷ l) whole in
        subst (λ l. FrontIs (47 ∷ 42 ∷ bytes) (over l)) (sym there)
        (block_comment, t, parts, next_piece (47 ∷ 42 ∷ bytes) block_comment t after parts (closed inner found.4 refl) (omega (arith, len, short)), comment)

other_front : (a : ℕ) (bytes : List ℕ) → piece_len (a ∷ bytes) ≡ other_len (a ∷ bytes) → FrontIs (a ∷ bytes) (other_at (a ∷ bytes))
unfolding other_at
other_front a [] same = mark_front a [] same
other_front a (b ∷ bytes) same =
    by_tests (a == 47) (b == 47) (b == 42) refl refl refl same
  where
    by_tests : (x y z : Bool) → (a == 47) ≡ x → (b == 47) ≡ y → (b == 42) ≡ z
        → piece_len (a ∷ b ∷ bytes) ≡ other_by (x && y) (x && z) (line_len (a ∷ b ∷ bytes)) (comment_len bytes (close_end 0 bytes)) (mark_len (a ∷ b ∷ bytes))
        → FrontIs (a ∷ b ∷ bytes) (cond (x && y) (over (drop (line_len (a ∷ b ∷ bytes)) (a ∷ b ∷ bytes))) (cond (x && z) (comment_at bytes) (mark_at (a ∷ b ∷ bytes))))
    by_tests true true z ex ey ez e =
        subst (λ c. FrontIs (c ∷ b ∷ bytes) (over (drop (line_len (c ∷ b ∷ bytes)) (c ∷ b ∷ bytes)))) (sym ((Decides-eqb a 47).0 ex))
        (subst (λ c. FrontIs (47 ∷ c ∷ bytes) (over (drop (line_len (47 ∷ c ∷ bytes)) (47 ∷ c ∷ bytes)))) (sym ((Decides-eqb b 47).0 ey)) (line_front bytes))
    by_tests true false true ex ey ez e =
        subst (λ c. FrontIs (c ∷ b ∷ bytes) (comment_at bytes)) (sym ((Decides-eqb a 47).0 ex))
        (subst (λ c. FrontIs (47 ∷ c ∷ bytes) (comment_at bytes)) (sym ((Decides-eqb b 42).0 ez)) (comment_front bytes))
    by_tests true false false ex ey ez e = mark_front a (b ∷ bytes) e
    by_tests false y z ex ey ez e = mark_front a (b ∷ bytes) e

pub front_is : (bytes : List ℕ) → FrontIs bytes (front bytes)
unfolding front
front_is [] = refl
front_is (a ∷ bytes) = by_tests (is_white_byte a) (is_letter a) (nat_lt 0 (run_at (a ∷ bytes))) refl refl refl
  where
    some : nat_lt 0 (run_at (a ∷ bytes)) ≡ true → 0 < run_at (a ∷ bytes)
    some h = grind (arith, nat_tests)

    by_tests : (w l r : Bool) → is_white_byte a ≡ w → is_letter a ≡ l → nat_lt 0 (run_at (a ∷ bytes)) ≡ r
        → FrontIs (a ∷ bytes) (cond w (over bytes) (cond l (name_at (a ∷ bytes)) (cond r (numeral_of (run_at (a ∷ bytes)) (a ∷ bytes)) (other_at (a ∷ bytes)))))
    by_tests true l r ew el er = white_front a bytes ew
    by_tests false true r ew el er = name_front a bytes el
    by_tests false false true ew el er = numeral_front a bytes ew el (some er)
    by_tests false false false ew el er =
        other_front a bytes (len_by (is_white_byte a) (is_letter a) (nat_lt 0 (run_at (a ∷ bytes))) false false false (word_len (a ∷ bytes)) (run_at (a ∷ bytes)) (other_len (a ∷ bytes)) ew el er)
