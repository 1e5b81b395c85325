-- The texts of the tokens are slices of the bytes, in order.
use Rattle.std.proofs.Common.{◌≡◌, ℕ, ◌≤◌, List, [], ◌∷◌, ◌++◌, length, take, drop, sym, ◌∙◌, ap, subst, arith, length-append, append_assoc}
use Rattle.std.proofs.Math.Seq.{drop-append_seam, take-append_seam}
use Rattle.std.proofs.lemmas.List.{append-nil}
use Rattle.ac_lex.specs.declared.tokens.TokenKind.{TokenKind}
use Rattle.ac_lex.specs.declared.tokens.TokenKind.TheVariants.{PragmaStart, PragmaEnd}
use Rattle.ac_lex.specs.Lexemes.{Lexeme}
use Rattle.ac_lex.specs.Tokens.{Sequence, the_end, next, PieceStep, passes, gives, FileStep, piece_step, skipped, affine_pragma, AreTokens, AreSlices}

sooner : (whole : List ℕ) (from to : ℕ) (ts : List Lexeme) → from ≤ to → AreSlices whole to ts → AreSlices whole from ts
sooner whole from to [] le is = is
sooner whole from to (t ∷ ts) le is = (omega (arith, is.0), is.1, is.2)

-- a token whose text stands at its place, and then others
one_slice : (whole before text after : List ℕ) (kind : TokenKind) (from : ℕ) (ts : List Lexeme) → whole ≡ before ++ (text ++ after) → from ≤ length before
    → AreSlices whole (length (before ++ text)) ts → AreSlices whole from (record { kind = kind; at = length before; text = text } ∷ ts)
one_slice whole before text after kind from ts parts le is =
    let there : drop (length before) whole ≡ text ++ after = ap (drop (length before)) parts ∙ drop-append_seam before (text ++ after) in
    let here : take (length text) (drop (length before) whole) ≡ text = ap (take (length text)) there ∙ take-append_seam text after in
    (le, here, subst (λ n. AreSlices whole n ts) (length-append before text) is)

-- what a step's tokens have to show
abbrev StepSlices : (List ℕ → List ℕ → List ℕ → List Lexeme → Type 0) → Type 0
StepSlices Step = (whole before text rest after : List ℕ) (ts us : List Lexeme) (from : ℕ) → Step before text rest ts → whole ≡ before ++ (text ++ (rest ++ after)) → from ≤ length before
    → AreSlices whole (length (before ++ text)) us → AreSlices whole from (ts ++ us)

sequence_slices : (Step : List ℕ → List ℕ → List ℕ → List Lexeme → Type 0) → StepSlices Step → (whole after : List ℕ) {before bytes : List ℕ} {ts : List Lexeme} (us : List Lexeme) (from : ℕ)
    → Sequence Step before bytes ts → whole ≡ before ++ (bytes ++ after) → from ≤ length before → AreSlices whole (length (before ++ bytes)) us → AreSlices whole from (ts ++ us)
sequence_slices Step step whole after us from (the_end {before}) parts le is =
    sooner whole from (length (before ++ [])) us (omega (arith, le, length-append before [])) is
sequence_slices Step step whole after us from (next {before} {text} {rest} {tokens = ts} {more = vs} s more) parts le is =
    let parts' : whole ≡ before ++ (text ++ (rest ++ after)) = parts ∙ ap (λ l. before ++ l) (append_assoc text rest after) in
    let later : AreSlices whole (length (before ++ text)) (vs ++ us) =
    sequence_slices Step step whole after us (length (before ++ text)) more (parts' ∙ sym (append_assoc before text (rest ++ after))) (omega arith)
    (subst (λ l. AreSlices whole (length l) us) (sym (append_assoc before text rest)) is) in
    subst (AreSlices whole from) (sym (append_assoc ts vs us)) (step whole before text rest after ts (vs ++ us) from s parts' le later)

piece_slices : StepSlices PieceStep
piece_slices whole before text rest after _ us from (passes piece pass) parts le is =
    sooner whole from (length (before ++ text)) us (omega (arith, le, length-append before text)) is
piece_slices whole before text rest after _ us from (gives {kind} piece its) parts le is = one_slice whole before text (rest ++ after) kind from us parts le is

file_slices : StepSlices FileStep
file_slices whole before text rest after ts us from (piece_step step) parts le is = piece_slices whole before text rest after ts us from step parts le is
file_slices whole before text rest after _ us from (skipped d its) parts le is = sooner whole from (length (before ++ text)) us (omega (arith, le, length-append before text)) is
file_slices whole before text rest after _ us from (affine_pragma {start} {tail} {inner} d its inside) parts le is =
    let last : AreSlices whole (length (before ++ text)) (record { kind = PragmaEnd; at = length (before ++ text); text = [] } ∷ us) =
    one_slice whole (before ++ text) [] (rest ++ after) PragmaEnd (length (before ++ text)) us (parts ∙ sym (append_assoc before text (rest ++ after))) (omega arith)
    (subst (λ l. AreSlices whole (length l) us) (sym (append-nil (before ++ text))) is) in
    let cut : before ++ text ≡ (before ++ start) ++ tail = ap (λ l. before ++ l) its.parts ∙ sym (append_assoc before start tail) in
    let there : whole ≡ (before ++ start) ++ (tail ++ (rest ++ after)) =
    parts ∙ sym (append_assoc before text (rest ++ after)) ∙ ap (λ l. l ++ (rest ++ after)) cut ∙ append_assoc (before ++ start) tail (rest ++ after) in
    let ends = record { kind = PragmaEnd; at = length (before ++ text); text = [] } ∷ us in
    let middle : AreSlices whole (length (before ++ start)) (inner ++ ends) =
    sequence_slices PieceStep piece_slices whole (rest ++ after) ends (length (before ++ start)) inside there (omega arith)
    (subst (λ l. AreSlices whole (length l) ends) cut last) in
    let all = one_slice whole before start (tail ++ (rest ++ after)) PragmaStart from (inner ++ ends) (there ∙ append_assoc before start (tail ++ (rest ++ after))) le middle in
    subst (λ l. AreSlices whole from (record { kind = PragmaStart; at = length before; text = start } ∷ l)) (sym (append_assoc inner (record { kind = PragmaEnd; at = length (before ++ text); text = [] } ∷ []) us)) all

pub tokens_are_slices : (bytes : List ℕ) (ts : List Lexeme) → AreTokens bytes ts → AreSlices bytes 0 ts
tokens_are_slices bytes ts is =
    subst (AreSlices bytes 0) (append-nil ts) (sequence_slices FileStep file_slices bytes [] [] 0 is (sym (append-nil bytes)) (omega arith) tt)
