-- The next piece, its token and its fault are determined by the bytes.
use Rattle.std.specs.Prelude.{Bool, true, false, cond, not, ◌==◌, codes, Option, Some, None}
use Rattle.std.proofs.Common.{◌≡◌, ℕ, ◌≤◌, ◌<◌, List, [], ◌∷◌, ◌++◌, length, refl, sym, ◌∙◌, ap, subst, arith, length-append}
use Rattle.ac_lex.specs.declared.tokens.TokenKind.{TokenKind}
use Rattle.ac_lex.specs.Lexemes.{Lexeme}
use Rattle.ac_lex.specs.Bytes.{is_white_byte, is_letter, is_digit}
use Rattle.ac_lex.specs.Numerals.{from_digit, from_point}
use Rattle.ac_lex.specs.TextPieces.{Piece, white_space, line_comment, block_comment, open_comment, name, numeral, mark, IsPiece, white, to_line_end, closed, unclosed, named, run, single, with_equals, doubled, IsNextPiece, IsPassedOver, space, remark, comment, IsToken, a_word, a_number, a_decimal, a_mark, Why, IsRefused, long_word, long_decimal, no_numeral, no_end}
use Rattle.ac_lex.specs.Tokens.{PieceStep, passes, gives, PieceFault, no_piece, refused}
use Rattle.ac_lex.specs.LexerModel.{close_end}
use Rattle.ac_lex.proofs.Lists.{same_front}
use Rattle.ac_lex.proofs.Classes.{IsOther, single_other, equals_other, doubled_other, one_of_all, no_white, no_letter, letter_high, digit_high, digit_low}
use Rattle.ac_lex.proofs.Comments.{close_first, close_found}
use Rattle.ac_lex.proofs.Longest.{not_empty}
use Rattle.ac_lex.proofs.Decimals.{number_no_decimal}
use Rattle.ac_lex.proofs.Sequences.{IsDetermined}

abbrev comment_of : Option ℕ → Piece
comment_of None = open_comment
comment_of (Some n) = block_comment

abbrev after_slash : List ℕ → Piece
after_slash [] = mark
after_slash (b ∷ bytes) = cond (b == 47) line_comment (cond (b == 42) (comment_of (close_end 0 bytes)) mark)

abbrev kind_by : Bool → Bool → Bool → Bool → Bool → Piece → Piece
kind_by w l d p s after = cond w white_space (cond l name (cond d numeral (cond p numeral (cond s after mark))))

-- the kind of piece that a text can be
abbrev kind_of : List ℕ → Piece
kind_of [] = mark
kind_of (a ∷ bytes) = kind_by (is_white_byte a) (is_letter a) (is_digit a) (a == 46) (a == 47) (after_slash bytes)

by_kind : {w l d p s w' l' d' p' s' : Bool} (after : Piece) → w ≡ w' → l ≡ l' → d ≡ d' → p ≡ p' → s ≡ s' → kind_by w l d p s after ≡ kind_by w' l' d' p' s' after
by_kind after ew el ed ep es = cc

other_kind : (b : ℕ) (bytes : List ℕ) → IsOther b → after_slash bytes ≡ mark → kind_of (b ∷ bytes) ≡ mark
other_kind b bytes o e =
    by_kind {s = b == 47} (after_slash bytes) o.not_white o.not_letter o.not_digit o.not_point refl ∙ by_slash (b == 47)
  where
    by_slash : (t : Bool) → cond t (after_slash bytes) mark ≡ mark
    by_slash true = e
    by_slash false = refl

kind_is : {piece : Piece} {t : List ℕ} → IsPiece piece t → kind_of t ≡ piece
kind_is (white {b} is) = by_kind {l = is_letter b} {d = is_digit b} {p = b == 46} {s = b == 47} mark is refl refl refl refl
kind_is (to_line_end all) = refl
kind_is (closed inner none_in e) =
    ap kind_of e ∙ ap comment_of (close_first 0 inner (inner ++ codes "*/") [] refl).1
kind_is (unclosed {inner} none_in) = ap comment_of (never (close_end 0 inner) refl)
  where
    never : (o : Option ℕ) → close_end 0 inner ≡ o → close_end 0 inner ≡ None
    never None e = e
    never (Some n) e = let found = close_found inner n e in absurd (none_in (found.0, found.1, found.2))
kind_is (named {b} {bytes} is all) =
    by_kind {d = is_digit b} {p = b == 46} {s = b == 47} (after_slash bytes) (no_white b (omega (arith, letter_high b is))) is refl refl refl
kind_is (run (from_digit {d} {bytes} is on)) =
    by_kind {p = d == 46} {s = d == 47} (after_slash bytes) (no_white d (omega (arith, digit_high d is))) (no_letter d (omega (arith, digit_low d is))) is refl refl
kind_is (run (from_point is on)) = refl
kind_is (single {b} is) = other_kind b [] (single_other b is) refl
kind_is (with_equals {b} is) = other_kind b (codes "=") (equals_other b is) refl
kind_is (doubled {b} is) =
    let o = doubled_other b is in
    by_kind (after_slash (b ∷ [])) o.not_white o.not_letter o.not_digit o.not_point (off (b == 47) (one_of_all (λ c. not (c == 47)) (codes "+-&") b is refl))
  where
    off : (x : Bool) → not x ≡ true → x ≡ false
    off true h = cc
    off false h = refl

-- there is at most one next piece, of one kind
pub one_piece : {p q : Piece} (a b x y : List ℕ) → IsNextPiece p a x → IsNextPiece q b y → a ++ x ≡ b ++ y → (a ≡ b) × (x ≡ y) × (p ≡ q)
one_piece {p} {q} a b x y one two e =
    let less : length b ≤ length a = one.longest q b y two.is e in
    let more : length a ≤ length b = two.longest p a x one.is (sym e) in
    let same = same_front a b x y (omega arith) e in
    (same.0, same.1, sym (kind_is one.is) ∙ ap kind_of same.0 ∙ kind_is two.is)

no_token : {p : Piece} {k : TokenKind} {t : List ℕ} → IsPassedOver p → IsToken k p t → ⊥
no_token space h = elim h [ ]
no_token remark h = elim h [ ]
no_token comment h = elim h [ ]

no_refusal : {p : Piece} {w : Why} {t : List ℕ} → IsPassedOver p → IsRefused w p t → ⊥
no_refusal space h = elim h [ ]
no_refusal remark h = elim h [ ]
no_refusal comment h = elim h [ ]

same_kind : {p : Piece} {k l : TokenKind} {t : List ℕ} → IsToken k p t → IsToken l p t → k ≡ l
same_kind (a_word h) (a_word g) = refl
same_kind (a_number h) (a_number g) = refl
same_kind (a_number {text} h) (a_decimal g short) = absurd (number_no_decimal text h g)
same_kind (a_decimal {text} h short) (a_number g) = absurd (number_no_decimal text g h)
same_kind (a_decimal h short) (a_decimal g short') = refl
same_kind a_mark a_mark = refl

not_refused : {p : Piece} {k : TokenKind} {w : Why} {t : List ℕ} → IsToken k p t → IsRefused w p t → ⊥
not_refused (a_word h) (long_word g) = omega arith
not_refused (a_number {text} h) (long_decimal g long) = number_no_decimal text h g
not_refused (a_number h) (no_numeral g g') = g h
not_refused (a_decimal h short) (long_decimal g long) = omega arith
not_refused (a_decimal h short) (no_numeral g g') = g' h
not_refused a_mark h = elim h [ ]

same_refusal : {p : Piece} {w v : Why} {t : List ℕ} → IsRefused w p t → IsRefused v p t → w ≡ v
same_refusal (long_word h) (long_word g) = refl
same_refusal (long_decimal h long) (long_decimal g long') = refl
same_refusal (long_decimal h long) (no_numeral g g') = absurd (g' h)
same_refusal (no_numeral g g') (long_decimal h long) = absurd (g' h)
same_refusal (no_numeral g g') (no_numeral h h') = refl
same_refusal no_end no_end = refl

step_not_empty : (before t rest : List ℕ) (ts : List Lexeme) → PieceStep before t rest ts → 0 < length t
step_not_empty before t rest _ (passes next pass) = not_empty next.is
step_not_empty before t rest _ (gives next is) = not_empty next.is

one_step : (before t rest t' rest' : List ℕ) (ts ts' : List Lexeme) → PieceStep before t rest ts → PieceStep before t' rest' ts' → t ++ rest ≡ t' ++ rest'
    → (t ≡ t') × (rest ≡ rest') × (ts ≡ ts')
one_step before t rest t' rest' _ _ (passes one pass) (passes two pass') e = let same = one_piece t t' rest rest' one two e in (same.0, same.1, refl)
one_step before t rest t' rest' _ _ (passes one pass) (gives two is) e =
    let same = one_piece t t' rest rest' one two e in absurd (no_token (subst IsPassedOver same.2 pass) is)
one_step before t rest t' rest' _ _ (gives one is) (passes two pass) e =
    let same = one_piece t t' rest rest' one two e in absurd (no_token (subst IsPassedOver (sym same.2) pass) is)
one_step before t rest t' rest' _ _ (gives {piece = p} {kind = k} one is) (gives {piece = q} {kind = l} two is') e =
    let same = one_piece t t' rest rest' one two e in
    let there : IsToken l p t = subst (λ d. IsToken l d t) (sym same.2) (subst (λ x. IsToken l q x) (sym same.0) is') in
    let kinds : k ≡ l = same_kind is there in
    (same.0, same.1, ap (λ x. record { kind = x; at = length before; text = t } ∷ []) kinds ∙ ap (λ x. record { kind = l; at = length before; text = x } ∷ []) same.0)

fault_not_empty : (before bytes : List ℕ) (why : Why) (at : ℕ) → PieceFault before bytes why at → 0 < length bytes
fault_not_empty before bytes _ _ (no_piece some none_in) = some
fault_not_empty before bytes why _ (refused {text} {rest} cut next is) = omega (arith, ap length cut, length-append text rest, not_empty next.is)

one_fault : (before bytes : List ℕ) (why why' : Why) (at at' : ℕ) → PieceFault before bytes why at → PieceFault before bytes why' at' → (why ≡ why') × (at ≡ at')
one_fault before bytes _ _ _ _ (no_piece some none_in) (no_piece some' none_in') = (refl, refl)
one_fault before bytes _ _ _ _ (no_piece some none_in) (refused {piece} {text} {rest} cut next is) = absurd (none_in piece text rest next.is cut)
one_fault before bytes _ _ _ _ (refused {piece} {text} {rest} cut next is) (no_piece some none_in) = absurd (none_in piece text rest next.is cut)
one_fault before bytes _ _ _ _ (refused {piece = p} {text = t} {rest = x} {why = w} cut one is) (refused {piece = q} {text = u} {rest = y} {why = v} cut' two is') =
    let same = one_piece t u x y one two (sym cut ∙ cut') in
    (same_refusal is (subst (λ d. IsRefused v d t) (sym same.2) (subst (λ l. IsRefused v q l) (sym same.0) is')), refl)

not_both : (before t rest : List ℕ) (ts : List Lexeme) (why : Why) (at : ℕ) → PieceStep before t rest ts → PieceFault before (t ++ rest) why at → ⊥
not_both before t rest _ _ _ (passes {piece} next pass) (no_piece some none_in) = none_in piece t rest next.is refl
not_both before t rest _ _ _ (gives {piece} next is) (no_piece some none_in) = none_in piece t rest next.is refl
not_both before t rest _ _ _ (passes one pass) (refused {text = u} {rest = y} cut two is) =
    let same = one_piece t u rest y one two cut in no_refusal (subst IsPassedOver same.2 pass) is
not_both before t rest _ _ _ (gives {piece = p} one is) (refused {piece = q} {text = u} {rest = y} {why = v} cut two is') =
    let same = one_piece t u rest y one two cut in
    not_refused is (subst (λ d. IsRefused v d t) (sym same.2) (subst (λ l. IsRefused v q l) (sym same.0) is'))

pub piece_determined : IsDetermined PieceStep PieceFault
piece_determined = record { not_empty = step_not_empty; one_step = one_step; fault_not_empty = fault_not_empty; one_fault = one_fault; not_both = not_both }
