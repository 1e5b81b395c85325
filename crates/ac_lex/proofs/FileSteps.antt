-- The next step in a file, with its directives, is determined by the bytes.
use Rattle.std.specs.Prelude.{Bool, true, false, cond, ◌&&◌, ◌||◌, ◌==◌, codes}
use Rattle.std.proofs.Common.{◌≡◌, ℕ, ◌+◌, ◌<◌, List, [], ◌∷◌, ◌++◌, length, take, refl, sym, ◌∙◌, ap, subst, arith, length-append}
use Rattle.ac_lex.specs.Lexemes.{Lexeme}
use Rattle.ac_lex.specs.TextPieces.{Piece, IsNextPiece, Why}
use Rattle.ac_lex.specs.Directives.{line_of, directive_word, pragma_gap, StartsDirective, IsDirective, IsSkipped, include, other_pragma, IsAffinePragma, IsUnknown}
use Rattle.ac_lex.specs.Tokens.{PieceStep, passes, gives, PieceFault, AreLineTokens, IsLineFault, pragma_tokens, FileStep, piece_step, skipped, affine_pragma, FileFault, piece_fault, unknown, in_pragma}
use Rattle.ac_lex.specs.LexerModel.{run_at}
use Rattle.ac_lex.proofs.Lists.{same_front}
use Rattle.ac_lex.proofs.Longest.{piece_len, most, not_empty}
use Rattle.ac_lex.proofs.Sequences.{IsDetermined, one_sequence, no_fault, one_first_fault}
use Rattle.ac_lex.proofs.PieceSteps.{piece_determined}

-- no piece begins with `#`
no_hash : (bytes : List ℕ) → piece_len (35 ∷ bytes) ≡ 0
unfolding run_at
no_hash [] = refl
no_hash (b ∷ bytes) = ap (λ t. cond t 2 0) (never (b == 61) (35 == b))
  where
    never : (x y : Bool) → ((x && false) || (y && false)) ≡ false
    never true true = refl
    never true false = refl
    never false true = refl
    never false false = refl

hash_front : (bytes : List ℕ) → take 1 bytes ≡ codes "#" → piece_len bytes ≡ 0
hash_front [] h = refl
hash_front (a ∷ bytes) h = let same : a ≡ 35 = cc in subst (λ c. piece_len (c ∷ bytes) ≡ 0) (sym same) (no_hash bytes)

starts_more : (line rest : List ℕ) → take 1 line ≡ codes "#" → take 1 (line ++ rest) ≡ codes "#"
starts_more [] rest h = cc
starts_more (a ∷ line) rest h = h

directive_not_empty : (before line rest : List ℕ) → IsDirective before line rest → 0 < length line
directive_not_empty before [] rest d = let clash : [] ≡ codes "#" = d.starts.hash in cc
directive_not_empty before (a ∷ line) rest d = omega arith

no_piece_step : (before t rest line rest' : List ℕ) (ts : List Lexeme) → PieceStep before t rest ts → IsDirective before line rest' → t ++ rest ≡ line ++ rest' → ⊥
no_piece_step before t rest line rest' ts step d e = by_next (next_of step)
  where
    next_of : {us : List Lexeme} → PieceStep before t rest us → (piece : Piece) × IsNextPiece piece t rest
    next_of (passes {piece} next pass) = (piece, next)
    next_of (gives {piece} next is) = (piece, next)

    by_next : (piece : Piece) × IsNextPiece piece t rest → ⊥
    by_next (piece, next) =
        let none_here : piece_len (t ++ rest) ≡ 0 = hash_front (t ++ rest) (ap (take 1) e ∙ starts_more line rest' d.starts.hash) in
        omega (arith, most rest next.is, not_empty next.is, none_here)

-- one line, and what follows it
one_line : (before line rest line' rest' : List ℕ) → IsDirective before line rest → IsDirective before line' rest' → line ++ rest ≡ line' ++ rest' → (line ≡ line') × (rest ≡ rest')
one_line before line rest line' rest' d d' e =
    let same : line ≡ line' = d.whole_line ∙ ap line_of e ∙ sym d'.whole_line in
    same_front line line' rest rest' (ap length same) e

no_start : (before line rest : List ℕ) → IsDirective before line rest → (StartsDirective before (line ++ rest) → ⊥) → ⊥
no_start before line rest d h = h (record { line_start = d.starts.line_start; hash = starts_more line rest d.starts.hash })

skip_not_affine : (line start tail : List ℕ) → IsSkipped line → IsAffinePragma line start tail → ⊥
skip_not_affine line start tail (include e) p = let clash : codes "include" ≡ codes "pragma" = sym e ∙ p.word in cc
skip_not_affine line start tail (other_pragma e differs) p = differs p.next_word

skip_not_unknown : (line : List ℕ) → IsSkipped line → IsUnknown line → ⊥
skip_not_unknown line (include e) u = u.no_include e
skip_not_unknown line (other_pragma e differs) u = u.no_pragma e

-- the parts of a `#pragma affine` line
one_start : (line line' start tail start' tail' : List ℕ) → line ≡ line' → IsAffinePragma line start tail → IsAffinePragma line' start' tail' → (start ≡ start') × (tail ≡ tail')
one_start line line' start tail start' tail' e p p' =
    let same : start ≡ start' =
    p.start_text ∙ ap (λ l. take (length (codes "#pragma") + length (pragma_gap l) + length (codes "affine")) l) e ∙ sym p'.start_text in
    same_front start start' tail tail' (ap length same) (sym p.parts ∙ e ∙ p'.parts)

step_not_empty : (before t rest : List ℕ) (ts : List Lexeme) → FileStep before t rest ts → 0 < length t
step_not_empty before t rest ts (piece_step step) = piece_determined.not_empty before t rest ts step
step_not_empty before t rest _ (skipped d is) = directive_not_empty before t rest d
step_not_empty before t rest _ (affine_pragma d is inner) = directive_not_empty before t rest d

one_step : (before t rest t' rest' : List ℕ) (ts ts' : List Lexeme) → FileStep before t rest ts → FileStep before t' rest' ts' → t ++ rest ≡ t' ++ rest'
    → (t ≡ t') × (rest ≡ rest') × (ts ≡ ts')
one_step before t rest t' rest' ts ts' (piece_step one) (piece_step two) e = piece_determined.one_step before t rest t' rest' ts ts' one two e
one_step before t rest t' rest' ts _ (piece_step one) (skipped d is) e = absurd (no_piece_step before t rest t' rest' ts one d e)
one_step before t rest t' rest' ts _ (piece_step one) (affine_pragma d is inner) e = absurd (no_piece_step before t rest t' rest' ts one d e)
one_step before t rest t' rest' _ ts' (skipped d is) (piece_step two) e = absurd (no_piece_step before t' rest' t rest ts' two d (sym e))
one_step before t rest t' rest' _ ts' (affine_pragma d is inner) (piece_step two) e = absurd (no_piece_step before t' rest' t rest ts' two d (sym e))
one_step before t rest t' rest' _ _ (skipped d is) (skipped d' is') e = let same = one_line before t rest t' rest' d d' e in (same.0, same.1, refl)
one_step before t rest t' rest' _ _ (skipped d is) (affine_pragma {start} {tail} d' p inner) e =
    let same = one_line before t rest t' rest' d d' e in absurd (skip_not_affine t' start tail (subst IsSkipped same.0 is) p)
one_step before t rest t' rest' _ _ (affine_pragma {start} {tail} d p inner) (skipped d' is) e =
    let same = one_line before t rest t' rest' d d' e in absurd (skip_not_affine t start tail (subst IsSkipped (sym same.0) is) p)
one_step before t rest t' rest' _ _ (affine_pragma {start = s} {tail = u} {inner = i} d p inside) (affine_pragma {start = s'} {tail = u'} {inner = i'} d' p' inside') e =
    let same = one_line before t rest t' rest' d d' e in
    let parts = one_start t t' s u s' u' same.0 p p' in
    let there : AreLineTokens (before ++ s) u i' = subst (λ l. AreLineTokens (before ++ l) u i') (sym parts.0) (subst (λ l. AreLineTokens (before ++ s') l i') (sym parts.1) inside') in
    let inner : i ≡ i' = one_sequence PieceStep PieceFault piece_determined inside there in
    (same.0, same.1, ap (λ l. pragma_tokens before s t l) inner ∙ ap (λ l. pragma_tokens before l t i') parts.0 ∙ ap (λ l. pragma_tokens before s' l i') same.0)

fault_not_empty : (before bytes : List ℕ) (why : Why) (at : ℕ) → FileFault before bytes why at → 0 < length bytes
fault_not_empty before bytes why at (piece_fault free fault) = piece_determined.fault_not_empty before bytes why at fault
fault_not_empty before bytes _ _ (unknown {line} {rest} cut d u) = omega (arith, ap length cut, length-append line rest, directive_not_empty before line rest d)
fault_not_empty before bytes why at (in_pragma {line} {rest} cut d p f) = omega (arith, ap length cut, length-append line rest, directive_not_empty before line rest d)

free_of : (before bytes line rest : List ℕ) → bytes ≡ line ++ rest → IsDirective before line rest → (StartsDirective before bytes → ⊥) → ⊥
free_of before bytes line rest cut d free = no_start before line rest d (subst (λ l. StartsDirective before l → ⊥) cut free)

one_fault : (before bytes : List ℕ) (why why' : Why) (at at' : ℕ) → FileFault before bytes why at → FileFault before bytes why' at' → (why ≡ why') × (at ≡ at')
one_fault before bytes why why' at at' (piece_fault free f) (piece_fault free' f') = piece_determined.one_fault before bytes why why' at at' f f'
one_fault before bytes why _ at _ (piece_fault free f) (unknown {line} {rest} cut d u) = absurd (free_of before bytes line rest cut d free)
one_fault before bytes why why' at at' (piece_fault free f) (in_pragma {line} {rest} cut d p g) = absurd (free_of before bytes line rest cut d free)
one_fault before bytes _ why' _ at' (unknown {line} {rest} cut d u) (piece_fault free f) = absurd (free_of before bytes line rest cut d free)
one_fault before bytes why why' at at' (in_pragma {line} {rest} cut d p g) (piece_fault free f) = absurd (free_of before bytes line rest cut d free)
one_fault before bytes _ _ _ _ (unknown cut d u) (unknown cut' d' u') = (refl, refl)
one_fault before bytes _ why' _ at' (unknown {line = l} {rest = r} cut d u) (in_pragma {line = l'} {rest = r'} cut' d' p g) =
    let same = one_line before l r l' r' d d' (sym cut ∙ cut') in absurd (u.no_pragma (ap directive_word same.0 ∙ p.word))
one_fault before bytes why _ at _ (in_pragma {line = l} {rest = r} cut d p g) (unknown {line = l'} {rest = r'} cut' d' u) =
    let same = one_line before l r l' r' d d' (sym cut ∙ cut') in absurd (u.no_pragma (ap directive_word (sym same.0) ∙ p.word))
one_fault before bytes why why' at at' (in_pragma {line = l} {rest = r} {start = s} {tail = t} cut d p g) (in_pragma {line = l'} {rest = r'} {start = s'} {tail = t'} cut' d' p' g') =
    let same = one_line before l r l' r' d d' (sym cut ∙ cut') in
    let parts = one_start l l' s t s' t' same.0 p p' in
    one_first_fault PieceStep PieceFault piece_determined g
    (subst (λ x. IsLineFault (before ++ x) t why' at') (sym parts.0) (subst (λ x. IsLineFault (before ++ s') x why' at') (sym parts.1) g'))

not_both : (before t rest : List ℕ) (ts : List Lexeme) (why : Why) (at : ℕ) → FileStep before t rest ts → FileFault before (t ++ rest) why at → ⊥
not_both before t rest ts why at (piece_step step) (piece_fault free f) = piece_determined.not_both before t rest ts why at step f
not_both before t rest ts _ _ (piece_step step) (unknown {line} {rest = r} cut d u) = no_piece_step before t rest line r ts step d cut
not_both before t rest ts why at (piece_step step) (in_pragma {line} {rest = r} cut d p g) = no_piece_step before t rest line r ts step d cut
not_both before t rest _ why at (skipped d is) (piece_fault free f) = no_start before t rest d free
not_both before t rest _ why at (affine_pragma d p inner) (piece_fault free f) = no_start before t rest d free
not_both before t rest _ _ _ (skipped d is) (unknown {line} {rest = r} cut d' u) =
    let same = one_line before t rest line r d d' cut in skip_not_unknown line (subst IsSkipped same.0 is) u
not_both before t rest _ why at (skipped d is) (in_pragma {line} {rest = r} {start} {tail} cut d' p g) =
    let same = one_line before t rest line r d d' cut in skip_not_affine line start tail (subst IsSkipped same.0 is) p
not_both before t rest _ _ _ (affine_pragma d p inner) (unknown {line} {rest = r} cut d' u) =
    let same = one_line before t rest line r d d' cut in u.no_pragma (ap directive_word (sym same.0) ∙ p.word)
not_both before t rest _ why at (affine_pragma {start = s} {tail = v} d p inner) (in_pragma {line} {rest = r} {start = s'} {tail = v'} cut d' p' g) =
    let same = one_line before t rest line r d d' cut in
    let parts = one_start t line s v s' v' same.0 p p' in
    no_fault PieceStep PieceFault piece_determined inner
    (subst (λ x. IsLineFault (before ++ x) v why at) (sym parts.0) (subst (λ x. IsLineFault (before ++ s') x why at) (sym parts.1) g))

pub file_determined : IsDetermined FileStep FileFault
file_determined = record { not_empty = step_not_empty; one_step = one_step; fault_not_empty = fault_not_empty; one_fault = one_fault; not_both = not_both }
