-- Marks that open a construct, where only so many more may open.
use Rattle.std.specs.Prelude.{ℕ, zero, suc, Option, Some, None, if◌then◌else◌}
use Rattle.ac_parse_grammar.specs.declared.terminal.Terminal.{Terminal}
use Rattle.ac_parse_grammar.specs.ReaderCombinators.{Reader, found, stopped, syntax, nesting, peek, rest, is}

-- how many constructs may open inside one that opens where so many may, if one may
abbrev pub inside_of : ℕ → Option ℕ
inside_of zero = None
inside_of (suc inner) = Some inner

-- passes the mark that opens a construct, and gives how many may open inside
abbrev pub opened : Option ℕ → Reader ℕ
opened None = λ ts. stopped nesting ts
opened (Some inner) = λ ts. found inner (rest ts)

unfoldable pub opening : Terminal → ℕ → Reader ℕ
opening mark room = λ ts. if is mark (peek ts) then opened (inside_of room) ts else stopped syntax ts
