use Rattle.std.proofs.Common.{map, subst, sym}
use Rattle.std.specs.Prelude.{IfErr}
use Rattle.ac_lex.specs.Lexemes.{lexeme_of}
use Rattle.ac_lex.specs.Tokens.{AreTokens}
use Rattle.ac_parse.specs.ParseAnswers.{HasSourceFault}
use Rattle.ac_parse.specs.TextFaults.{of_lexer}
use Rattle.ac_parse.proofs.Composing.{converted, lexer_fault, text_told}
use Rattle.ac_parse.proofs.parsing.parse_short.Goals as goal

pub returns-in_err-tokens-clause-fault : goal.returns-in_err-tokens-clause-fault
returns-in_err-tokens-clause-fault c =
    let e = c.in_err-tokens.field-0.0 in
    converted (λ r. IfErr r (HasSourceFault c.args.bytes.now)) c.from_residual.result (of_lexer e) c.from_residual.ensures.1 (lexer_fault c.args.bytes.now e c.requires c.in_err-tokens.ensures.fault)

pub returns-clause-fault : goal.returns-clause-fault
returns-clause-fault c =
    let ts = map lexeme_of c.deref.result.now in
    let cut : AreTokens c.args.bytes.now ts = subst (λ xs. AreTokens c.args.bytes.now (map lexeme_of xs)) (sym c.deref.ensures.value) c.in_ok-tokens.ensures.tokens in
    text_told c.args.bytes.now ts c.parse_tokens.result c.requires cut c.parse_tokens.ensures.answer
