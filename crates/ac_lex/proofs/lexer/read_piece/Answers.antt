-- Each arm is one case of what stands at the front.
use Rattle.std.proofs.Common.{sym, subst}
use Rattle.ac_lex.specs.LexerAnswers.{IsFaultBy}
use Rattle.ac_lex.specs.Lexemes.{lexemes}
use Rattle.ac_lex.specs.LexerModel.{ReadsPiece, PieceFaultAt}
use Rattle.ac_lex.proofs.ReadLemmas.{reads_nothing, reads_over, reads_text, reads_bad}
use Rattle.ac_lex.proofs.lexer.read_piece.Goals as goal

pub returns-in-Nothing-clause-read : goal.returns-in-Nothing-clause-read
returns-in-Nothing-clause-read c = absurd (reads_nothing c.args.bytes.now c.in-Nothing.ensures c.requires)

pub returns-in-Over-clause-read : goal.returns-in-Over-clause-read
returns-in-Over-clause-read c = reads_over c.args.at c.args.bytes.now c.in-Over.rest.now (lexemes c.args.tokens.now) c.in-Over.ensures

pub returns-in_ok-push-in-Text-clause-read : goal.returns-in_ok-push-in-Text-clause-read
returns-in_ok-push-in-Text-clause-read c =
    let t = c.in-Text in
    subst (ReadsPiece c.args.at c.args.bytes.now t.rest.now (lexemes c.args.tokens.now)) (sym c.in_ok-push-in-Text.ensures.pushed)
    (reads_text c.args.at c.args.bytes.now t.rest.now t.text.now t.kind (lexemes c.args.tokens.now) t.ensures)

pub returns-in-Bad-clause-fault : goal.returns-in-Bad-clause-fault
returns-in-Bad-clause-fault c =
    subst (IsFaultBy (PieceFaultAt c.args.at c.args.bytes.now)) (sym c.fault.ensures) (reads_bad c.args.at c.args.bytes.now c.in-Bad.refusal c.in-Bad.ensures)
