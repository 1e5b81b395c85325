-- The tokens of a file read so far, and what is left of it: what holds of the rest holds of the whole.
use Rattle.std.specs.Prelude.{Bool, true, false, codes, ◌&&◌, ◌==◌}
use Rattle.std.specs.List.{prefix_len}
use Rattle.std.proofs.Common.{◌≡◌, ℕ, suc, ◌+◌, ◌<◌, List, [], ◌∷◌, ◌++◌, length, take, drop, refl, sym, ◌∙◌, ap, subst, arith, length-append, append_assoc, get_or}
use Rattle.std.proofs.lemmas.List.{append-nil}
use Rattle.std.proofs.lemmas.Bool.Decides.{Decides-eqb, nat_tests}
use Rattle.ac_lex.specs.declared.tokens.LexFault.{LexFault}
use Rattle.ac_lex.specs.declared.tokens.LexFault.TheVariants.{BadByte, BadNumber, LongName, OpenComment, Memory}
use Rattle.ac_lex.specs.Lexemes.{Lexeme}
use Rattle.ac_lex.specs.Bytes.{is_inside_line}
use Rattle.ac_lex.specs.TextPieces.{Why}
use Rattle.ac_lex.specs.Directives.{is_line_start, line_of, StartsDirective, IsDirective}
use Rattle.ac_lex.specs.LexerAnswers.{IsFaultBy, HasFault, HasNoTokens, IsOnlyList}
use Rattle.ac_lex.specs.Tokens.{Sequence, the_end, next, FirstFault, here, later, FileStep, piece_step, FileFault, piece_fault, AreTokens, IsFault}
use Rattle.ac_lex.specs.LexerModel.{ReadsPiece, ReadsDirective, PieceFaultAt, DirectiveFaultAt, next_line_start, starts_directive, line_len}
use Rattle.ac_lex.proofs.Sequences.{one_sequence, no_fault}
use Rattle.ac_lex.proofs.PieceSteps.{piece_determined}
use Rattle.ac_lex.proofs.FileSteps.{file_determined}
use Rattle.ac_lex.proofs.LineStarts.{step_start, directive_start}
use Rattle.ac_lex.proofs.ReadLemmas.{faults_follow}

pub record FileSoFar (bytes rest : List ℕ) (line_start : Bool) (now : List Lexeme) : Type 0 where
  pub done : List ℕ
  pub parts : bytes ≡ done ++ rest
  pub fresh : line_start ≡ is_line_start done
  pub whole : (more : List Lexeme) → Sequence FileStep done rest more → AreTokens bytes (now ++ more)
  pub faults : (why : Why) (place : ℕ) → FirstFault FileStep FileFault done rest why place → IsFault bytes why place

pub file_begins : (bytes : List ℕ) → FileSoFar bytes bytes true []
file_begins bytes = record { done = []; parts = refl; fresh = refl; whole = λ more is. is; faults = λ why place is. is }

-- one step on
file_step : (bytes rest t rest' : List ℕ) (line_start line_start' : Bool) (now added now' : List Lexeme) (so_far : FileSoFar bytes rest line_start now) → rest ≡ t ++ rest'
    → FileStep so_far.done t rest' added → now' ≡ now ++ added → line_start' ≡ is_line_start (so_far.done ++ t) → FileSoFar bytes rest' line_start' now'
file_step bytes rest t rest' line_start line_start' now added now' so_far parts step tokens fresh = record {
  done = so_far.done ++ t;
  parts = so_far.parts ∙ ap (λ l. so_far.done ++ l) parts ∙ sym (append_assoc so_far.done t rest');
  fresh = fresh;
  whole = λ more is.
      let all = subst (λ l. Sequence FileStep so_far.done l (added ++ more)) (sym parts) (next step is) in
      subst (AreTokens bytes) (sym (ap (λ l. l ++ more) tokens ∙ append_assoc now added more)) (so_far.whole (added ++ more) all);
  faults = λ why place is. so_far.faults why place (subst (λ l. FirstFault FileStep FileFault so_far.done l why place) (sym parts) (later step is));
}

at_place : (bytes rest : List ℕ) (line_start : Bool) (now : List Lexeme) (so_far : FileSoFar bytes rest line_start now) (at : ℕ) → at + length rest ≡ length bytes → length so_far.done ≡ at
at_place bytes rest line_start now so_far at place = omega (arith, place, ap length so_far.parts, length-append so_far.done rest)

first_of : (t rest' xs : List ℕ) (b : ℕ) → 0 < length t → b ∷ xs ≡ t ++ rest' → (bytes : List ℕ) × (t ≡ b ∷ bytes)
first_of [] rest' xs b some e = absurd (omega arith)
first_of (a ∷ t) rest' xs b some e = (t, let same : b ≡ a = cc in cc)

pub file_piece : (bytes rest xs rest' : List ℕ) (b at : ℕ) (line_start : Bool) (now now' : List Lexeme) → FileSoFar bytes rest line_start now → rest ≡ b ∷ xs
    → at + length rest ≡ length bytes → ReadsPiece at rest rest' now now' → FileSoFar bytes rest' (next_line_start line_start b) now'
file_piece bytes rest xs rest' b at line_start now now' so_far first place reads =
    let step = reads.step so_far.done (at_place bytes rest line_start now so_far at place) in
    let some = piece_determined.not_empty so_far.done reads.piece rest' reads.added step in
    let front = first_of reads.piece rest' xs b some (sym first ∙ reads.parts) in
    let fresh = step_start so_far.done reads.piece rest' reads.added step b front.0 front.1 in
    file_step bytes rest reads.piece rest' line_start (next_line_start line_start b) now reads.added now' so_far reads.parts (piece_step step) reads.tokens
    (ap (λ s. next_line_start s b) so_far.fresh ∙ sym fresh)

both : (x y : Bool) → (x && y) ≡ true → (x ≡ true) × (y ≡ true)
both true true h = (refl, refl)
both true false h = cc
both false y h = cc

-- the line at the front is a directive
its_directive : (bytes rest xs line rest' : List ℕ) (b : ℕ) (line_start : Bool) (now : List Lexeme) (so_far : FileSoFar bytes rest line_start now) → rest ≡ b ∷ xs
    → starts_directive line_start b ≡ true → line ≡ line_of rest → rest ≡ line ++ rest' → IsDirective so_far.done line rest'
its_directive bytes rest xs line rest' b line_start now so_far first is cut parts =
    let tests = both line_start (b == 35) is in
    let hash : b ≡ 35 = (Decides-eqb b 35).0 tests.1 in
    let n = prefix_len is_inside_line xs in
    let one : 1 + n ≡ suc n = omega arith in
    let whole : line ≡ take (suc n) (35 ∷ xs) = cut ∙ ap line_of (first ∙ ap (λ c. c ∷ xs) hash) ∙ ap (λ k. take k (35 ∷ xs)) one in
    record {
      starts = record { line_start = sym so_far.fresh ∙ tests.0; hash = ap (take 1) whole };
      whole_line = cut ∙ ap line_of parts;
    }

pub file_directive : (bytes rest xs line rest' : List ℕ) (b at : ℕ) (line_start : Bool) (now now' : List Lexeme) → FileSoFar bytes rest line_start now → rest ≡ b ∷ xs
    → starts_directive line_start b ≡ true → line ≡ line_of rest → rest ≡ line ++ rest' → at + length rest ≡ length bytes → ReadsDirective at line now now'
    → FileSoFar bytes rest' false now'
file_directive bytes rest xs line rest' b at line_start now now' so_far first is cut parts place reads =
    let d = its_directive bytes rest xs line rest' b line_start now so_far first is cut parts in
    file_step bytes rest line rest' line_start false now reads.added now' so_far parts
    (reads.step so_far.done rest' (at_place bytes rest line_start now so_far at place) d) reads.tokens (sym (directive_start so_far.done line rest' d))

pub directive_fails : (bytes rest xs line rest' : List ℕ) (b at : ℕ) (line_start : Bool) (now : List Lexeme) (fault : LexFault) → FileSoFar bytes rest line_start now → rest ≡ b ∷ xs
    → starts_directive line_start b ≡ true → line ≡ line_of rest → rest ≡ line ++ rest' → at + length rest ≡ length bytes → IsFaultBy (DirectiveFaultAt at line) fault
    → HasFault bytes fault
directive_fails bytes rest xs line rest' b at line_start now fault so_far first is cut parts place f =
    let d = its_directive bytes rest xs line rest' b line_start now so_far first is cut parts in
    faults_follow (DirectiveFaultAt at line) (IsFault bytes) fault
    (λ why place' g. so_far.faults why place' (here (subst (λ l. FileFault so_far.done l why place') (sym parts)
    (g so_far.done rest' (at_place bytes rest line_start now so_far at place) d)))) f

no_directive : (done rest xs : List ℕ) (b : ℕ) (line_start : Bool) → line_start ≡ is_line_start done → rest ≡ b ∷ xs → starts_directive line_start b ≡ false → StartsDirective done rest → ⊥
no_directive done rest xs b line_start fresh first is_none starts =
    let one : b ∷ [] ≡ codes "#" = sym (ap (take 1) first) ∙ starts.hash in
    let hash : b ≡ 35 = cc in
    let yes_it_is : starts_directive line_start b ≡ true =
    subst (λ t. (t && b == 35) ≡ true) (sym (fresh ∙ starts.line_start)) ((Decides-eqb b 35).1 hash) in
    cc

pub piece_fails : (bytes rest xs : List ℕ) (b at : ℕ) (line_start : Bool) (now : List Lexeme) (fault : LexFault) → FileSoFar bytes rest line_start now → rest ≡ b ∷ xs
    → starts_directive line_start b ≡ false → at + length rest ≡ length bytes → IsFaultBy (PieceFaultAt at rest) fault → HasFault bytes fault
piece_fails bytes rest xs b at line_start now fault so_far first is place f =
    faults_follow (PieceFaultAt at rest) (IsFault bytes) fault
    (λ why place' g. so_far.faults why place' (here (piece_fault (no_directive so_far.done rest xs b line_start so_far.fresh first is)
    (g so_far.done (at_place bytes rest line_start now so_far at place))))) f

pub file_ends : (bytes rest : List ℕ) (line_start : Bool) (now : List Lexeme) → FileSoFar bytes rest line_start now → length rest ≡ 0 → AreTokens bytes now
file_ends bytes [] line_start now so_far none_left = subst (AreTokens bytes) (append-nil now) (so_far.whole [] the_end)
file_ends bytes (b ∷ rest) line_start now so_far none_left = absurd (omega arith)

pub only_list : (bytes : List ℕ) (tokens : List Lexeme) → AreTokens bytes tokens → IsOnlyList bytes tokens
only_list bytes tokens is others are = one_sequence FileStep FileFault file_determined are is

pub no_tokens : (bytes : List ℕ) (fault : LexFault) → HasFault bytes fault → HasNoTokens bytes fault
no_tokens bytes (BadByte place) is = λ tokens are. no_fault FileStep FileFault file_determined are is
no_tokens bytes (BadNumber place) is = λ tokens are. no_fault FileStep FileFault file_determined are is
no_tokens bytes (LongName place) is = λ tokens are. no_fault FileStep FileFault file_determined are is
no_tokens bytes (OpenComment place) is = λ tokens are. no_fault FileStep FileFault file_determined are is
no_tokens bytes (Memory m) is = tt

pub head_tail : (rest : List ℕ) → 0 < length rest → rest ≡ get_or rest 0 0 ∷ drop 1 rest
head_tail [] some = absurd (omega arith)
head_tail (b ∷ rest) some = refl

pub some_left : (n : ℕ) → false ≡ (n == 0) → 0 < n
some_left n h = grind (arith, nat_tests)

pub cut_line : (n : ℕ) (rest line : List ℕ) → n ≡ line_len rest → line ≡ take n rest → line ≡ line_of rest
unfolding line_len
cut_line n rest line count cut = cut ∙ ap (λ k. take k rest) count

-- a directive's line has its `#`
pub line_some : (rest xs line : List ℕ) (b : ℕ) (line_start : Bool) → rest ≡ b ∷ xs → starts_directive line_start b ≡ true → line ≡ line_of rest → 0 < length line
line_some rest xs line b line_start first is cut =
    let hash : b ≡ 35 = (Decides-eqb b 35).0 (both line_start (b == 35) is).1 in
    let n = prefix_len is_inside_line xs in
    let one : 1 + n ≡ suc n = omega arith in
    let whole : line ≡ take (suc n) (35 ∷ xs) = cut ∙ ap line_of (first ∙ ap (λ c. c ∷ xs) hash) ∙ ap (λ k. take k (35 ∷ xs)) one in
    omega (arith, ap length whole)
