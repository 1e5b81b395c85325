-- Reading a file, all a function on lists.
use Rattle.std.specs.Prelude.{ℕ}
use Rattle.ac_parse_grammar.specs.declared.terminal.Terminal.TheVariants as t
use Rattle.ac_parse_grammar.specs.declared.tree.File.{File}
use Rattle.ac_parse_grammar.specs.declared.file.Function.{Function}
use Rattle.ac_parse_grammar.specs.declared.file.Body.{Body}
pub use Rattle.ac_parse_grammar.specs.StatementsTrees.{file_of}
use Rattle.ac_parse_grammar.specs.ReaderCombinators.{Reader, ◌>>=◌, ◌>>◌, pure, expect, name}
use Rattle.ac_parse_grammar.specs.Constructs.{opening}
use Rattle.ac_parse_grammar.specs.DeclarationsReading.{parameters, declarations}
use Rattle.ac_parse_grammar.specs.StatementsReading.{statements}
use Rattle.ac_parse_grammar.specs.PragmasReading.{pragmas}

-- "{" { decl } { stmt } "}"
unfoldable pub body : ℕ → Reader Body
body room =
    opening t.OpenBrace room >>= (λ inner.
    declarations inner >>= (λ locals.
    statements inner >>= (λ statements.
    expect t.CloseBrace >>
    pure (record { locals = locals; statements = statements }))))

unfoldable pub function : ℕ → Reader Function
function room =
    expect t.Void >>
    (name >>= (λ name.
    opening t.Open room >>= (λ inner.
    parameters inner >>= (λ params.
    expect t.Close >>
    (body room >>= (λ body.
    pure (record { name = name; params = params; body = body })))))))

-- { pragma } function { pragma }, and no token behind them
unfoldable pub file : ℕ → Reader File
file room =
    pragmas room >>= (λ before.
    function room >>= (λ function.
    pragmas room >>= (λ behind.
    expect t.End >>
    pure (file_of before function behind))))
