use Rattle.std.specs.Prelude.{map}
use Rattle.std.proofs.Common.{◌≡◌, ◌∙◌, ap, sym, subst}
use Rattle.ac_lex.specs.Lexemes.{lexeme_of}
use Rattle.ac_parse_grammar.specs.ReaderCombinators.{Reads}
use Rattle.ac_parse_grammar.specs.FileReading.{file}
use Rattle.ac_parse_grammar.specs.FileAnswers.{IsFileAnswer, IsOnlyFile, told, place_at}
use Rattle.ac_parse_grammar.proofs.StatementAnswers.{file_answer, file_only}
use Rattle.ac_parse_grammar.proofs.file.read.Goals as goal

pub returns-clause-exact : goal.returns-clause-exact
returns-clause-exact c =
    let tokens = map lexeme_of c.args.tokens.now in
    let same : c.told.result ≡ told c.read_file-found.result (place_at c.args.end c.read_file-found.new.tokens) = c.told.ensures ∙ ap (told c.read_file-found.result) c.place_at.ensures in
    subst (λ r. IsFileAnswer 128 c.args.end tokens r) (sym same)
    (file_answer 127 c.args.end tokens c.read_file-found.new.tokens c.read_file-found.result
    (subst (λ old. Reads (λ a. a) (file 128 old) c.read_file-found.result c.read_file-found.new.tokens) c.new-left.ensures c.read_file-found.ensures))

pub returns-clause-only : goal.returns-clause-only
returns-clause-only c = λ a is.
    let tokens = map lexeme_of c.args.tokens.now in
    let same : c.told.result ≡ told c.read_file-found.result (place_at c.args.end c.read_file-found.new.tokens) = c.told.ensures ∙ ap (told c.read_file-found.result) c.place_at.ensures in
    subst (λ r. IsOnlyFile a r) (sym same)
    (file_only 127 c.args.end tokens c.read_file-found.new.tokens c.read_file-found.result
    (subst (λ old. Reads (λ a. a) (file 128 old) c.read_file-found.result c.read_file-found.new.tokens) c.new-left.ensures c.read_file-found.ensures) a is)
