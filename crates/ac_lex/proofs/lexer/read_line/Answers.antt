-- What holds of the rest of the line holds of the whole line, at each turn.
use Rattle.std.proofs.Common.{◌+◌, ◌-◌, length, arith, sym}
use Rattle.std.proofs.lemmas.Result.{err_from_is_err_and}
use Rattle.std.proofs.lemmas.Bool.Decides.{Decides-eqb}
use Rattle.ac_lex.specs.Lexemes.{lexemes}
use Rattle.ac_lex.proofs.ReadLemmas.{line_begins, line_goes_on, line_ends, line_fails, reads_shorter}
use Rattle.ac_lex.proofs.lexer.read_line.Goals as goal

pub loop-rest-init : goal.loop-rest-init
loop-rest-init c = (line_begins c.args.at c.args.line.now (lexemes c.args.tokens.now), omega arith)

pub loop-rest-preserved : goal.loop-rest-preserved
loop-rest-preserved c =
    let l = c.loop-rest in
    let read = c.in_ok-rest.ensures.read in
    let here_at = c.args.at + (length c.args.line.now - length l.rest.now) in
    let short = reads_shorter here_at l.rest.now c.in_ok-rest.rest.now (lexemes l.tokens) (lexemes c.read_piece.new.tokens) read in (
      line_goes_on c.args.at here_at c.args.line.now l.rest.now c.in_ok-rest.rest.now (lexemes c.args.tokens.now) (lexemes l.tokens) (lexemes c.read_piece.new.tokens) l.invariant.0 (omega (arith, l.invariant.1)) read,
      omega (arith, short, l.invariant.1),
    )

pub loop-rest-smaller : goal.loop-rest-smaller
loop-rest-smaller c =
    let l = c.loop-rest in
    reads_shorter (c.args.at + (length c.args.line.now - length l.rest.now)) l.rest.now c.in_ok-rest.rest.now (lexemes l.tokens) (lexemes c.read_piece.new.tokens) c.in_ok-rest.ensures.read

pub returns-in_err-rest-clause-fault : goal.returns-in_err-rest-clause-fault
returns-in_err-rest-clause-fault c =
    let l = c.loop-rest in
    let p = err_from_is_err_and c.from_residual.result c.from_residual.ensures.1 in
    rw (p.1, p.2) (line_fails c.args.at (c.args.at + (length c.args.line.now - length l.rest.now)) c.args.line.now l.rest.now (lexemes c.args.tokens.now) (lexemes l.tokens)
    c.in_err-rest.field-0.0 l.invariant.0 (omega (arith, l.invariant.1)) c.in_err-rest.ensures.fault)

pub returns-clause-read : goal.returns-clause-read
returns-clause-read c =
    let l = c.loop-rest in
    line_ends c.args.at c.args.line.now l.rest.now (lexemes c.args.tokens.now) (lexemes l.tokens) l.invariant.0
    ((Decides-eqb (length l.rest.now) 0).0 (sym c.loop-rest-test.ensures))
