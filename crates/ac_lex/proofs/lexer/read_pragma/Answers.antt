-- The start, the tokens of the line's rest and the end are the tokens of the line.
use Rattle.std.proofs.lemmas.Result.{err_from_is_err_and, on_ok_weaker}
use Rattle.ac_lex.specs.Lexemes.{lexemes}
use Rattle.ac_lex.proofs.ReadLemmas.{reads_pragma_cut, pragma_fails_cut}
use Rattle.ac_lex.proofs.lexer.read_pragma.Goals as goal

pub returns-in_err-read_line-clause-fault : goal.returns-in_err-read_line-clause-fault
returns-in_err-read_line-clause-fault c =
    let cut = c.split_at in
    let p = err_from_is_err_and c.from_residual-in_err-read_line.result c.from_residual-in_err-read_line.ensures.1 in
    rw (p.1, p.2) (pragma_fails_cut c.args.at c.args.n c.args.line.now cut.result.0.now cut.result.1.now c.in_err-read_line.field-0.0
    c.requires.kind cut.ensures.front cut.ensures.back cut.ensures.front_len c.in_err-read_line.ensures.fault)

pub returns-clause-read : goal.returns-clause-read
returns-clause-read c =
    let cut = c.split_at in
    on_ok_weaker c.push-2.result (λ last. reads_pragma_cut c.args.at c.args.n c.args.line.now cut.result.0.now cut.result.1.now c.split_at-2.result.1.now
    (lexemes c.args.tokens.now) (lexemes c.push.new.tokens) (lexemes c.read_line.new.tokens) (lexemes c.push-2.new.tokens)
    c.requires.kind cut.ensures.front cut.ensures.back cut.ensures.front_len c.split_at-2.ensures.back
    c.in_ok-push.ensures.pushed c.in_ok-read_line.ensures.read last)
    c.push-2.ensures.pushed
