-- What holds of the rest of the bytes holds of all, at each turn.
use Rattle.std.proofs.Common.{◌-◌, ◌∙◌, length, drop, get_or, arith, sym, subst}
use Rattle.std.proofs.lemmas.Result.{err_from_is_err_and}
use Rattle.std.proofs.lemmas.Bool.Decides.{Decides-eqb}
use Rattle.ac_lex.specs.Lexemes.{lexemes}
use Rattle.ac_lex.proofs.ReadLemmas.{reads_shorter}
use Rattle.ac_lex.proofs.FileLemmas.{FileSoFar, file_piece, file_directive, directive_fails, piece_fails, file_ends, only_list, no_tokens, head_tail, some_left, cut_line, line_some}
use Rattle.ac_lex.proofs.Slices.{tokens_are_slices}
use Rattle.ac_lex.proofs.lexer.lex.Goals as goal

pub read_directive-requires-clause-some : goal.read_directive-requires-clause-some
read_directive-requires-clause-some c =
    let l = c.loop-rest in let rest = l.rest.now in
    let first = head_tail rest (some_left (length rest) c.loop-rest-test.ensures) in
    line_some rest (drop 1 rest) c.split_at.result.0.now (get_or rest 0 0) l.line_start first (sym c.starts_directive.ensures ∙ c.if-starts_directive.true)
    (cut_line c.line_len.result rest c.split_at.result.0.now c.line_len.ensures.count c.split_at.ensures.front)

pub returns-in_err-read_directive-clause-fault : goal.returns-in_err-read_directive-clause-fault
returns-in_err-read_directive-clause-fault c =
    let l = c.loop-rest in let rest = l.rest.now in let bytes = c.args.bytes.now in
    let first = head_tail rest (some_left (length rest) c.loop-rest-test.ensures) in
    let p = err_from_is_err_and c.from_residual.result c.from_residual.ensures.1 in
    rw (p.1, p.2) (directive_fails bytes rest (drop 1 rest) c.split_at.result.0.now c.split_at.result.1.now (get_or rest 0 0) (length bytes - length rest) l.line_start (lexemes l.tokens)
    c.in_err-read_directive.field-0.0 l.invariant.0 first (sym c.starts_directive.ensures ∙ c.if-starts_directive.true)
    (cut_line c.line_len.result rest c.split_at.result.0.now c.line_len.ensures.count c.split_at.ensures.front) c.split_at.ensures.by_index.0
    (omega (arith, l.invariant.1)) c.in_err-read_directive.ensures.fault)

pub returns-in_err-read_directive-clause-none : goal.returns-in_err-read_directive-clause-none
returns-in_err-read_directive-clause-none c =
    let l = c.loop-rest in let rest = l.rest.now in let bytes = c.args.bytes.now in
    let first = head_tail rest (some_left (length rest) c.loop-rest-test.ensures) in
    let p = err_from_is_err_and c.from_residual.result c.from_residual.ensures.1 in
    rw (p.1, p.2) (no_tokens bytes c.in_err-read_directive.field-0.0
    (directive_fails bytes rest (drop 1 rest) c.split_at.result.0.now c.split_at.result.1.now (get_or rest 0 0) (length bytes - length rest) l.line_start (lexemes l.tokens)
    c.in_err-read_directive.field-0.0 l.invariant.0 first (sym c.starts_directive.ensures ∙ c.if-starts_directive.true)
    (cut_line c.line_len.result rest c.split_at.result.0.now c.line_len.ensures.count c.split_at.ensures.front) c.split_at.ensures.by_index.0
    (omega (arith, l.invariant.1)) c.in_err-read_directive.ensures.fault))

pub loop-rest-smaller-then-starts_directive : goal.loop-rest-smaller-then-starts_directive
loop-rest-smaller-then-starts_directive c =
    let l = c.loop-rest in let rest = l.rest.now in
    let first = head_tail rest (some_left (length rest) c.loop-rest-test.ensures) in
    let cut = cut_line c.line_len.result rest c.split_at.result.0.now c.line_len.ensures.count c.split_at.ensures.front in
    let some = line_some rest (drop 1 rest) c.split_at.result.0.now (get_or rest 0 0) l.line_start first (sym c.starts_directive.ensures ∙ c.if-starts_directive.true) cut in
    omega (arith, some, c.split_at.ensures.front_len, c.split_at.ensures.back_len)

pub loop-rest-preserved-then-starts_directive : goal.loop-rest-preserved-then-starts_directive
loop-rest-preserved-then-starts_directive c =
    let l = c.loop-rest in let rest = l.rest.now in let bytes = c.args.bytes.now in
    let first = head_tail rest (some_left (length rest) c.loop-rest-test.ensures) in (
      file_directive bytes rest (drop 1 rest) c.split_at.result.0.now c.split_at.result.1.now (get_or rest 0 0) (length bytes - length rest) l.line_start (lexemes l.tokens)
          (lexemes c.read_directive.new.tokens) l.invariant.0 first (sym c.starts_directive.ensures ∙ c.if-starts_directive.true)
          (cut_line c.line_len.result rest c.split_at.result.0.now c.line_len.ensures.count c.split_at.ensures.front) c.split_at.ensures.by_index.0
          (omega (arith, l.invariant.1)) c.in_ok-read_directive.ensures.read,
      omega (arith, l.invariant.1, c.split_at.ensures.back_len),
    )

pub returns-in_err-rest-clause-fault : goal.returns-in_err-rest-clause-fault
returns-in_err-rest-clause-fault c =
    let l = c.loop-rest in let rest = l.rest.now in let bytes = c.args.bytes.now in
    let first = head_tail rest (some_left (length rest) c.loop-rest-test.ensures) in
    let p = err_from_is_err_and c.from_residual-in_err-rest.result c.from_residual-in_err-rest.ensures.1 in
    rw (p.1, p.2) (piece_fails bytes rest (drop 1 rest) (get_or rest 0 0) (length bytes - length rest) l.line_start (lexemes l.tokens) c.in_err-rest.field-0.0 l.invariant.0 first
    (sym c.starts_directive.ensures ∙ c.if-starts_directive.false) (omega (arith, l.invariant.1)) c.in_err-rest.ensures.fault)

pub returns-in_err-rest-clause-none : goal.returns-in_err-rest-clause-none
returns-in_err-rest-clause-none c =
    let l = c.loop-rest in let rest = l.rest.now in let bytes = c.args.bytes.now in
    let first = head_tail rest (some_left (length rest) c.loop-rest-test.ensures) in
    let p = err_from_is_err_and c.from_residual-in_err-rest.result c.from_residual-in_err-rest.ensures.1 in
    rw (p.1, p.2) (no_tokens bytes c.in_err-rest.field-0.0
    (piece_fails bytes rest (drop 1 rest) (get_or rest 0 0) (length bytes - length rest) l.line_start (lexemes l.tokens) c.in_err-rest.field-0.0 l.invariant.0 first
    (sym c.starts_directive.ensures ∙ c.if-starts_directive.false) (omega (arith, l.invariant.1)) c.in_err-rest.ensures.fault))

pub loop-rest-smaller : goal.loop-rest-smaller
loop-rest-smaller c =
    let l = c.loop-rest in
    reads_shorter (length c.args.bytes.now - length l.rest.now) l.rest.now c.in_ok-rest.rest.now (lexemes l.tokens) (lexemes c.read_piece.new.tokens) c.in_ok-rest.ensures.read

pub loop-rest-preserved : goal.loop-rest-preserved
loop-rest-preserved c =
    let l = c.loop-rest in let rest = l.rest.now in let bytes = c.args.bytes.now in
    let first = head_tail rest (some_left (length rest) c.loop-rest-test.ensures) in
    let short = reads_shorter (length bytes - length rest) rest c.in_ok-rest.rest.now (lexemes l.tokens) (lexemes c.read_piece.new.tokens) c.in_ok-rest.ensures.read in
    let so_far = file_piece bytes rest (drop 1 rest) c.in_ok-rest.rest.now (get_or rest 0 0) (length bytes - length rest) l.line_start (lexemes l.tokens) (lexemes c.read_piece.new.tokens)
    l.invariant.0 first (omega (arith, l.invariant.1)) c.in_ok-rest.ensures.read in
    (subst (λ s. FileSoFar bytes c.in_ok-rest.rest.now s (lexemes c.read_piece.new.tokens)) (sym c.next_line_start-line_start.ensures) so_far, omega (arith, short, l.invariant.1))

pub returns-clause-tokens : goal.returns-clause-tokens
returns-clause-tokens c =
    let l = c.loop-rest in
    file_ends c.args.bytes.now l.rest.now l.line_start (lexemes l.tokens) l.invariant.0 ((Decides-eqb (length l.rest.now) 0).0 (sym c.loop-rest-test.ensures))

pub returns-clause-only : goal.returns-clause-only
returns-clause-only c =
    let l = c.loop-rest in
    only_list c.args.bytes.now (lexemes l.tokens)
    (file_ends c.args.bytes.now l.rest.now l.line_start (lexemes l.tokens) l.invariant.0 ((Decides-eqb (length l.rest.now) 0).0 (sym c.loop-rest-test.ensures)))

pub returns-clause-slices : goal.returns-clause-slices
returns-clause-slices c =
    let l = c.loop-rest in
    tokens_are_slices c.args.bytes.now (lexemes l.tokens)
    (file_ends c.args.bytes.now l.rest.now l.line_start (lexemes l.tokens) l.invariant.0 ((Decides-eqb (length l.rest.now) 0).0 (sym c.loop-rest-test.ensures)))
