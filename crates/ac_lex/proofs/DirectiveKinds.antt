-- The code's test of a directive decides what the definitions say.
use Rattle.std.specs.Prelude.{Bool, true, false, cond, codes}
use Rattle.std.specs.List.{prefix_len}
use Rattle.std.specs.Str.{bytes_eq}
use Rattle.std.proofs.Common.{◌≡◌, ℕ, ◌+◌, ◌-◌, ◌≤◌, List, length, take, drop, refl, sym, ◌∙◌, ap, subst, arith, length-drop}
use Rattle.std.proofs.lemmas.List.{drop-drop}
use Rattle.std.proofs.Math.Seq.{take-length}
use Rattle.std.proofs.lemmas.Slice.Eq.{bytes_eq-Decides}
use Rattle.ac_lex.specs.declared.directives.Directive.TheVariants as d
use Rattle.ac_lex.specs.Bytes.{is_gap, is_word_byte}
use Rattle.ac_lex.specs.Directives.{directive_word, pragma_gap, pragma_word, include, other_pragma}
use Rattle.ac_lex.specs.LexerModel.{word_len, gap_len, word_of, pragma_of, directive_of, IsOfKind}
use Rattle.ac_lex.proofs.Lists.{take_drop, length_take_prefix, prefix_fits}

word_is : (line : List ℕ) → word_of (drop 1 line) ≡ directive_word line
unfolding word_of word_len
word_is line = refl

word_count : (bytes : List ℕ) → length (word_of bytes) ≡ word_len bytes
unfolding word_of word_len
word_count bytes = length_take_prefix is_word_byte bytes

word_fits : (bytes : List ℕ) → word_len bytes ≤ length bytes
unfolding word_len
word_fits bytes = prefix_fits is_word_byte bytes

gap_count : (line : List ℕ) → length (pragma_gap line) ≡ gap_len (drop 7 line)
unfolding gap_len
gap_count line = length_take_prefix is_gap (drop 7 line)

next_word_is : (line : List ℕ) → word_of (drop (gap_len (drop 7 line)) (drop 7 line)) ≡ pragma_word line
unfolding word_of word_len
next_word_is line =
    ap (λ l. take (prefix_len is_word_byte l) l) (drop-drop (gap_len (drop 7 line)) 7 line ∙ ap (λ n. drop (7 + n) line) (sym (gap_count line)))

pragma_is : (line : List ℕ) → directive_word line ≡ codes "pragma" → IsOfKind line (pragma_of (drop 7 line))
pragma_is line word = by_test (bytes_eq (word_of (drop (gap_len (drop 7 line)) (drop 7 line))) (codes "affine")) refl
  where
    by_test : (t : Bool) → bytes_eq (word_of (drop (gap_len (drop 7 line)) (drop 7 line))) (codes "affine") ≡ t
        → IsOfKind line (cond t (d.Affine (13 + gap_len (drop 7 line))) d.Skipped)
    by_test true is =
        let g = gap_len (drop 7 line) in
        let found : word_of (drop g (drop 7 line)) ≡ codes "affine" = (bytes_eq-Decides (word_of (drop g (drop 7 line))) (codes "affine")).0 is in
        let count : 6 ≡ word_len (drop g (drop 7 line)) = sym (ap length found) ∙ word_count (drop g (drop 7 line)) in
        let n : 13 + g ≡ 7 + length (pragma_gap line) + 6 = omega (arith, gap_count line) in (
          record {
            word = word;
            next_word = sym (next_word_is line) ∙ found;
            start_text = ap (λ k. take k line) n;
            parts = take_drop (13 + g) line;
          },
          omega (arith, count, word_fits (drop g (drop 7 line)), length-drop g (drop 7 line), length-drop 7 line),
        )
    by_test false is =
        other_pragma word (λ e. cc (is, (bytes_eq-Decides (word_of (drop (gap_len (drop 7 line)) (drop 7 line))) (codes "affine")).1 (next_word_is line ∙ e)))

pub kind_is : (line : List ℕ) → IsOfKind line (directive_of (drop 1 line))
kind_is line = by_tests (bytes_eq (word_of (drop 1 line)) (codes "include")) (bytes_eq (word_of (drop 1 line)) (codes "pragma")) refl refl
  where
    differs : (w : List ℕ) → bytes_eq (word_of (drop 1 line)) w ≡ false → directive_word line ≡ w → ⊥
    differs w is e = cc (is, (bytes_eq-Decides (word_of (drop 1 line)) w).1 (word_is line ∙ e))

    by_tests : (t s : Bool) → bytes_eq (word_of (drop 1 line)) (codes "include") ≡ t → bytes_eq (word_of (drop 1 line)) (codes "pragma") ≡ s
        → IsOfKind line (cond t d.Skipped (cond s (pragma_of (drop (word_len (drop 1 line)) (drop 1 line))) d.Unknown))
    by_tests true s et es = include (sym (word_is line) ∙ (bytes_eq-Decides (word_of (drop 1 line)) (codes "include")).0 et)
    by_tests false true et es =
        let found : word_of (drop 1 line) ≡ codes "pragma" = (bytes_eq-Decides (word_of (drop 1 line)) (codes "pragma")).0 es in
        let count : word_len (drop 1 line) ≡ 6 = sym (word_count (drop 1 line)) ∙ ap length found in
        let after : drop (word_len (drop 1 line)) (drop 1 line) ≡ drop 7 line = ap (λ n. drop n (drop 1 line)) count ∙ drop-drop 6 1 line in
        subst (λ l. IsOfKind line (pragma_of l)) (sym after) (pragma_is line (sym (word_is line) ∙ found))
    by_tests false false et es = record { no_include = differs (codes "include") et; no_pragma = differs (codes "pragma") es }

-- the slice from the second byte on
pub rest_is : (line : List ℕ) → take (length line - 1) (drop 1 line) ≡ drop 1 line
rest_is line = ap (λ n. take n (drop 1 line)) (sym (length-drop 1 line)) ∙ take-length (drop 1 line)
