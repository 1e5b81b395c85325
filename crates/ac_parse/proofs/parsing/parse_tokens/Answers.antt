use Rattle.std.proofs.Common.{◌≡◌, map, ap, ◌∙◌}
use Rattle.ac_lex.specs.Lexemes.{lexeme_of}
use Rattle.ac_parse_rules.specs.Files.{file_broken, program_of}
use Rattle.ac_parse.specs.ParseAnswers.{IsOnlyProgram}
use Rattle.ac_parse.specs.TextFaults.{of_grammar, of_rules, IsTokensAnswer}
use Rattle.ac_parse.proofs.Composing.{converted, grammar_answer, rules_answer, program_answer, rules_only}
use Rattle.ac_parse.proofs.Conditions.{file_conditions}
use Rattle.ac_parse.proofs.parsing.parse_tokens.Goals as goal

pub returns-in_err-file-clause-answer : goal.returns-in_err-file-clause-answer
returns-in_err-file-clause-answer c =
    let ts = map lexeme_of c.args.tokens.now in
    let e = c.in_err-file.field-0.0 in
    converted (IsTokensAnswer c.args.end ts) c.from_residual.result (of_grammar e) c.from_residual.ensures.1 (grammar_answer c.args.end ts e c.in_err-file.ensures.exact)

pub returns-in_err-program-clause-answer : goal.returns-in_err-program-clause-answer
returns-in_err-program-clause-answer c =
    let ts = map lexeme_of c.args.tokens.now in
    let e = c.in_err-program.field-0.0 in
    converted (IsTokensAnswer c.args.end ts) c.from_residual-in_err-program.result (of_rules e) c.from_residual-in_err-program.ensures.1
    (rules_answer c.args.end ts c.in_ok-file.file e c.in_ok-file.ensures.exact c.in_err-program.ensures.answer)

pub returns-in_err-program-clause-only : goal.returns-in_err-program-clause-only
returns-in_err-program-clause-only c = λ file is none.
    let e = c.in_err-program.field-0.0 in
    let same : c.in_ok-file.file ≡ file = c.in_ok-file.ensures.only file is in
    converted (IsOnlyProgram (program_of file)) c.from_residual-in_err-program.result (of_rules e) c.from_residual-in_err-program.ensures.1
    (rules_only (program_of file) c.in_ok-file.file e (ap file_broken same ∙ none) c.in_err-program.ensures.answer)

pub returns-clause-answer : goal.returns-clause-answer
returns-clause-answer c =
    program_answer c.args.end (map lexeme_of c.args.tokens.now) c.in_ok-file.file c.in_ok-program.program c.in_ok-file.ensures.exact c.in_ok-program.ensures.answer

pub returns-clause-ready : goal.returns-clause-ready
returns-clause-ready c = c.in_ok-program.ensures.ready (file_conditions c.in_ok-file.ensures.exact)
