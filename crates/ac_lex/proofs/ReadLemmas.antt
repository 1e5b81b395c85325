-- What one read of the code shows of the tokens and faults.
use Rattle.std.proofs.Common.{◌≡◌, ℕ, ◌+◌, ◌<◌, List, [], ◌∷◌, ◌++◌, length, take, drop, refl, sym, ◌∙◌, ap, subst, arith, length-append, append_assoc, replicate}
use Rattle.std.proofs.lemmas.List.{append-nil, length-replicate}
use Rattle.std.proofs.Math.Seq.{drop-length}
use Rattle.ac_lex.specs.declared.tokens.TokenKind.{TokenKind}
use Rattle.ac_lex.specs.declared.tokens.TokenKind.TheVariants.{PragmaStart, PragmaEnd}
use Rattle.ac_lex.specs.declared.front.Refusal.{Refusal}
use Rattle.ac_lex.specs.declared.front.Refusal.TheVariants as r
use Rattle.ac_lex.specs.declared.tokens.LexFault.{LexFault}
use Rattle.ac_lex.specs.declared.tokens.LexFault.TheVariants.{BadByte, BadNumber, LongName, OpenComment, Memory}
use Rattle.ac_lex.specs.Lexemes.{Lexeme}
use Rattle.ac_lex.specs.TextPieces.{Why, bad_byte, bad_number, long_name, open_comment_begins}
use Rattle.ac_lex.specs.Directives.{IsSkipped, IsAffinePragma, IsUnknown}
use Rattle.ac_lex.specs.LexerAnswers.{IsFaultBy}
use Rattle.ac_lex.specs.Tokens.{the_end, next, here, later, PieceStep, passes, gives, PieceFault, AreLineTokens, IsLineFault, FileStep, skipped, affine_pragma, FileFault, unknown, in_pragma}
use Rattle.ac_lex.specs.LexerModel.{Seen, nothing, over, text, bad, front, why_of, fault_of, ReadsPiece, ReadsLine, ReadsDirective, PieceFaultAt, LineFaultAt, DirectiveFaultAt}
use Rattle.ac_lex.proofs.Fronts.{FrontIs, front_is}
use Rattle.ac_lex.proofs.PieceSteps.{piece_determined}

shown : (bytes : List ℕ) (s : Seen) → s ≡ front bytes → FrontIs bytes s
shown bytes s e = subst (FrontIs bytes) (sym e) (front_is bytes)

-- what is passed over gives no token
pub reads_over : (at : ℕ) (bytes rest : List ℕ) (old : List Lexeme) → over rest ≡ front bytes → ReadsPiece at bytes rest old old
reads_over at bytes rest old e =
    let is = shown bytes (over rest) e in
    record { piece = is.1; added = []; parts = is.2; step = λ before count. passes is.3 is.4; tokens = sym (append-nil old) }

pub reads_text : (at : ℕ) (bytes rest t : List ℕ) (kind : TokenKind) (old : List Lexeme) → text kind t rest ≡ front bytes
    → ReadsPiece at bytes rest old (old ++ record { kind = kind; at = at; text = t } ∷ [])
reads_text at bytes rest t kind old e =
    let is = shown bytes (text kind t rest) e in
    record {
      piece = t;
      added = record { kind = kind; at = at; text = t } ∷ [];
      parts = is.1;
      step = λ before count. subst (λ n. PieceStep before t rest (record { kind = kind; at = n; text = t } ∷ [])) count (gives is.2 is.3);
      tokens = refl;
    }

pub reads_bad : (at : ℕ) (bytes : List ℕ) (refusal : Refusal) → bad (why_of refusal) ≡ front bytes → IsFaultBy (PieceFaultAt at bytes) (fault_of refusal at)
reads_bad at bytes r.Byte e = λ before count. subst (PieceFault before bytes (why_of r.Byte)) count (shown bytes (bad (why_of r.Byte)) e before)
reads_bad at bytes r.Number e = λ before count. subst (PieceFault before bytes (why_of r.Number)) count (shown bytes (bad (why_of r.Number)) e before)
reads_bad at bytes r.Long e = λ before count. subst (PieceFault before bytes (why_of r.Long)) count (shown bytes (bad (why_of r.Long)) e before)
reads_bad at bytes r.Open e = λ before count. subst (PieceFault before bytes (why_of r.Open)) count (shown bytes (bad (why_of r.Open)) e before)

-- The tokens of a line read so far, and what is left of it: what holds of the rest holds of the whole.
pub record LineSoFar (at : ℕ) (line rest : List ℕ) (old now : List Lexeme) : Type 0 where
  pub done : List ℕ
  pub added : List Lexeme
  pub parts : line ≡ done ++ rest
  pub tokens : now ≡ old ++ added
  pub whole : (before : List ℕ) → length before ≡ at → (more : List Lexeme) → AreLineTokens (before ++ done) rest more → AreLineTokens before line (added ++ more)
  pub faults : (before : List ℕ) → length before ≡ at → (why : Why) (place : ℕ) → IsLineFault (before ++ done) rest why place → IsLineFault before line why place

append_nil : (l : List ℕ) → l ++ [] ≡ l
append_nil l = append-nil l

pub line_begins : (at : ℕ) (line : List ℕ) (old : List Lexeme) → LineSoFar at line line old old
line_begins at line old = record {
  done = [];
  added = [];
  parts = refl;
  tokens = sym (append-nil old);
  whole = λ before count more is. subst (λ l. AreLineTokens l line more) (append_nil before) is;
  faults = λ before count why place is. subst (λ l. IsLineFault l line why place) (append_nil before) is;
}

pub line_goes_on : (at here_at : ℕ) (line rest rest' : List ℕ) (old now now' : List Lexeme) → LineSoFar at line rest old now → here_at + length rest ≡ at + length line
    → ReadsPiece here_at rest rest' now now' → LineSoFar at line rest' old now'
line_goes_on at here_at line rest rest' old now now' so_far place reads = record {
  done = so_far.done ++ reads.piece;
  added = so_far.added ++ reads.added;
  parts = so_far.parts ∙ ap (λ l. so_far.done ++ l) reads.parts ∙ sym (append_assoc so_far.done reads.piece rest');
  tokens = reads.tokens ∙ ap (λ l. l ++ reads.added) so_far.tokens ∙ append_assoc old so_far.added reads.added;
  whole = λ before count more is.
      let there = subst (λ l. AreLineTokens l rest' more) (sym (append_assoc before so_far.done reads.piece)) is in
      let all = next (reads.step (before ++ so_far.done) (at_place before count)) there in
      let moved = subst (λ l. AreLineTokens (before ++ so_far.done) l (reads.added ++ more)) (sym reads.parts) all in
      subst (AreLineTokens before line) (sym (append_assoc so_far.added reads.added more)) (so_far.whole before count (reads.added ++ more) moved);
  faults = λ before count why place' is.
      let there = subst (λ l. IsLineFault l rest' why place') (sym (append_assoc before so_far.done reads.piece)) is in
      let all = later (reads.step (before ++ so_far.done) (at_place before count)) there in
      so_far.faults before count why place' (subst (λ l. IsLineFault (before ++ so_far.done) l why place') (sym reads.parts) all);
}
  where
    at_place : (before : List ℕ) → length before ≡ at → length (before ++ so_far.done) ≡ here_at
    at_place before count = omega (arith, count, place, length-append before so_far.done, ap length so_far.parts, length-append so_far.done rest)

pub line_ends : (at : ℕ) (line rest : List ℕ) (old now : List Lexeme) → LineSoFar at line rest old now → length rest ≡ 0 → ReadsLine at line old now
line_ends at line [] old now so_far none_left = record {
  added = so_far.added;
  step = λ before count. subst (AreLineTokens before line) (append-nil so_far.added) (so_far.whole before count [] the_end);
  tokens = so_far.tokens;
}
line_ends at line (b ∷ rest) old now so_far none_left = absurd (omega arith)

-- a fault by its kind, of a relation that follows from another
pub faults_follow : (P Q : Why → ℕ → Type 0) (fault : LexFault) → ((why : Why) (place : ℕ) → P why place → Q why place) → IsFaultBy P fault → IsFaultBy Q fault
faults_follow P Q (BadByte place) f is = f bad_byte place.at is
faults_follow P Q (BadNumber place) f is = f bad_number place.at is
faults_follow P Q (LongName place) f is = f long_name place.at is
faults_follow P Q (OpenComment place) f is = f open_comment_begins place.at is
faults_follow P Q (Memory m) f is = tt

pub line_fails : (at here_at : ℕ) (line rest : List ℕ) (old now : List Lexeme) (fault : LexFault) → LineSoFar at line rest old now → here_at + length rest ≡ at + length line
    → IsFaultBy (PieceFaultAt here_at rest) fault → IsFaultBy (LineFaultAt at line) fault
line_fails at here_at line rest old now fault so_far place is =
    faults_follow (PieceFaultAt here_at rest) (LineFaultAt at line) fault
    (λ why at' f before count. so_far.faults before count why at' (here (f (before ++ so_far.done)
    (omega (arith, count, place, length-append before so_far.done, ap length so_far.parts, length-append so_far.done rest))))) is

-- a line that is skipped
pub reads_skipped : (at : ℕ) (line : List ℕ) (old : List Lexeme) → IsSkipped line → ReadsDirective at line old old
reads_skipped at line old is = record { added = []; step = λ before rest count d. skipped d is; tokens = sym (append-nil old) }

pub reads_unknown : (at : ℕ) (line : List ℕ) → IsUnknown line → DirectiveFaultAt at line bad_byte at
reads_unknown at line is before rest count d = subst (FileFault before (line ++ rest) bad_byte) count (unknown refl d is)

-- a `#pragma affine` line
pub reads_pragma : (at end : ℕ) (line start tail : List ℕ) (old one two : List Lexeme) → IsAffinePragma line start tail → end ≡ at + length line
    → one ≡ old ++ record { kind = PragmaStart; at = at; text = start } ∷ [] → ReadsLine (at + length start) tail one two
    → ReadsDirective at line old (two ++ record { kind = PragmaEnd; at = end; text = [] } ∷ [])
reads_pragma at end line start tail old one two is at_end first reads = record {
  added = first_token ∷ (reads.added ++ last_token ∷ []);
  step = λ before rest count d.
      let inner = reads.step (before ++ start) (length-append before start ∙ ap (λ n. n + length start) count) in
      let all = affine_pragma d is inner in
      let last : length (before ++ line) ≡ end = length-append before line ∙ ap (λ n. n + length line) count ∙ sym at_end in
      subst (λ n. FileStep before line rest (record { kind = PragmaStart; at = n; text = start } ∷ (reads.added ++ last_token ∷ []))) count
      (subst (λ n. FileStep before line rest (record { kind = PragmaStart; at = length before; text = start } ∷ (reads.added ++ record { kind = PragmaEnd; at = n; text = [] } ∷ []))) last all);
  tokens = ap (λ l. l ++ last_token ∷ []) (reads.tokens ∙ ap (λ l. l ++ reads.added) first ∙ append_assoc old (first_token ∷ []) reads.added)
      ∙ append_assoc old (first_token ∷ reads.added) (last_token ∷ []);
}
  where
    first_token : Lexeme
    first_token = record { kind = PragmaStart; at = at; text = start }

    last_token : Lexeme
    last_token = record { kind = PragmaEnd; at = end; text = [] }

pub pragma_fails : (at : ℕ) (line start tail : List ℕ) (fault : LexFault) → IsAffinePragma line start tail
    → IsFaultBy (LineFaultAt (at + length start) tail) fault → IsFaultBy (DirectiveFaultAt at line) fault
pragma_fails at line start tail fault is f =
    faults_follow (LineFaultAt (at + length start) tail) (DirectiveFaultAt at line) fault
    (λ why place g before rest count d. in_pragma refl d is (g (before ++ start) (length-append before start ∙ ap (λ n. n + length start) count))) f

-- nothing stands at the front of no bytes alone
pub reads_nothing : (bytes : List ℕ) → nothing ≡ front bytes → 0 < length bytes → ⊥
reads_nothing bytes e some = let empty = shown bytes nothing e in omega (arith, ap length empty, some)

-- what is left is shorter
pub reads_shorter : (at : ℕ) (bytes rest : List ℕ) (old new : List Lexeme) → ReadsPiece at bytes rest old new → length rest < length bytes
reads_shorter at bytes rest old new reads =
    let step = reads.step (replicate at 0) (length-replicate at 0) in
    let some = piece_determined.not_empty (replicate at 0) reads.piece rest reads.added step in
    omega (arith, some, ap length reads.parts, length-append reads.piece rest)

affine_cut : (line start tail : List ℕ) (n : ℕ) → IsAffinePragma line (take n line) (drop n line) → start ≡ take n line → tail ≡ drop n line → IsAffinePragma line start tail
affine_cut line start tail n is es et = subst (λ l. IsAffinePragma line l tail) (sym es) (subst (λ l. IsAffinePragma line (take n line) l) (sym et) is)

-- the same with the line cut after its first bytes
pub reads_pragma_cut : (at n : ℕ) (line start tail empty : List ℕ) (old one two new : List Lexeme) → IsAffinePragma line (take n line) (drop n line)
    → start ≡ take n line → tail ≡ drop n line → length start ≡ n → empty ≡ drop (length line) line
    → one ≡ old ++ record { kind = PragmaStart; at = at; text = start } ∷ [] → ReadsLine (at + n) tail one two
    → new ≡ two ++ record { kind = PragmaEnd; at = at + length line; text = empty } ∷ [] → ReadsDirective at line old new
reads_pragma_cut at n line start tail empty old one two new is es et count ee first reads last =
    let none_left : empty ≡ [] = ee ∙ drop-length line in
    let there : ReadsLine (at + length start) tail one two = subst (λ k. ReadsLine (at + k) tail one two) (sym count) reads in
    let all = reads_pragma at (at + length line) line start tail old one two (affine_cut line start tail n is es et) refl first there in
    subst (ReadsDirective at line old) (sym (last ∙ ap (λ l. two ++ record { kind = PragmaEnd; at = at + length line; text = l } ∷ []) none_left)) all

pub pragma_fails_cut : (at n : ℕ) (line start tail : List ℕ) (fault : LexFault) → IsAffinePragma line (take n line) (drop n line)
    → start ≡ take n line → tail ≡ drop n line → length start ≡ n → IsFaultBy (LineFaultAt (at + n) tail) fault → IsFaultBy (DirectiveFaultAt at line) fault
pragma_fails_cut at n line start tail fault is es et count f =
    pragma_fails at line start tail fault (affine_cut line start tail n is es et) (subst (λ k. IsFaultBy (LineFaultAt (at + k) tail) fault) (sym count) f)
