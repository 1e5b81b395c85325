-- Each arm is one kind of directive.
use Rattle.std.proofs.Common.{sym, subst}
use Rattle.ac_lex.specs.LexerAnswers.{IsFaultBy}
use Rattle.ac_lex.specs.Lexemes.{lexemes}
use Rattle.ac_lex.specs.LexerModel.{DirectiveFaultAt}
use Rattle.ac_lex.proofs.ReadLemmas.{reads_skipped, reads_unknown}
use Rattle.ac_lex.proofs.lexer.read_directive.Goals as goal

pub returns-in-Skipped-clause-read : goal.returns-in-Skipped-clause-read
returns-in-Skipped-clause-read c = reads_skipped c.args.at c.args.line.now (lexemes c.args.tokens.now) c.in-Skipped.ensures

pub returns-in-Unknown-clause-fault : goal.returns-in-Unknown-clause-fault
returns-in-Unknown-clause-fault c =
    subst (IsFaultBy (DirectiveFaultAt c.args.at c.args.line.now)) (sym c.fault.ensures) (reads_unknown c.args.at c.args.line.now c.in-Unknown.ensures)
