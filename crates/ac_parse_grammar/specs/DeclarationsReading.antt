-- Reading declarations, all a function on lists: types, parameters and locals, with their extents.
use Rattle.std.specs.Prelude.{ℕ, Bool, true, false, List, [], ◌∷◌, ◌++◌, Option, Some, None}
use Rattle.ac_parse_grammar.specs.declared.terminal.Terminal.{Terminal}
use Rattle.ac_parse_grammar.specs.declared.terminal.Terminal.TheVariants as t
use Rattle.ac_parse_grammar.specs.declared.tree.Extent.{Extent}
use Rattle.ac_parse_grammar.specs.declared.tree.Declared.{Declared}
use Rattle.ac_parse_grammar.specs.TokenWords.{place_of}
use Rattle.ac_parse_grammar.specs.ReaderCombinators.{Reader, stopped, nesting, ◌>>=◌, ◌>>◌, pure, refuse, take, by_terminal, is, expect, name, repeat, many}
use Rattle.ac_parse_grammar.specs.Constructs.{inside_of}
use Rattle.ac_parse_grammar.specs.Expressions.{expr, comma_of}

abbrev pub joined_by_comma : {A : Type 0} → List A → Unit {0} → A → List A
joined_by_comma all comma item = all ++ item ∷ []

-- item { "," item }
unfoldable pub list : {A : Type 0} → Reader A → Reader (List A)
list item = item >>= (λ first. repeat comma_of joined_by_comma item (first ∷ []))

-- ---- types

abbrev pub numbers_by : Terminal → Reader Bool
numbers_by t.Int = take >> pure true
numbers_by t.Long = take >> pure true
numbers_by t.Float = take >> pure false
numbers_by t.Double = take >> pure false
numbers_by _ = refuse

-- whether the numbers of a type are whole
unfoldable pub numbers : Reader Bool
numbers = by_terminal numbers_by

abbrev pub scalar_by : Terminal → Reader Bool
scalar_by t.Const = take >> numbers
scalar_by _ = numbers

unfoldable pub scalar : Reader Bool
scalar = by_terminal scalar_by

-- the terminals with which a type begins
abbrev pub begins_type : Terminal → Bool
begins_type t.Const = true
begins_type t.Int = true
begins_type t.Long = true
begins_type t.Float = true
begins_type t.Double = true
begins_type _ = false

-- ---- declared names

-- behind an opening bracket, by which an extent is placed
abbrev pub extent_in : Option ℕ → Reader Extent
extent_in None = λ ts. stopped nesting ts
extent_in (Some inner) =
    take >>= (λ bracket.
    expr inner >>= (λ size.
    expect t.CloseBracket >>
    pure (record { size = size; place = place_of bracket })))

unfoldable pub extent : ℕ → Reader Extent
extent room = extent_in (inside_of room)

abbrev pub one_more : {A : Type 0} → List A → A → List A
one_more all item = all ++ item ∷ []

unfoldable pub extents : ℕ → Reader (List Extent)
extents room = many (is t.OpenBracket) one_more (extent room) []

-- a name and its extents, behind a type
unfoldable pub declared : ℕ → Bool → Reader Declared
declared room whole =
    name >>= (λ name.
    extents room >>= (λ extents.
    pure (record { whole = whole; name = name; extents = extents })))

unfoldable pub parameter : ℕ → Reader Declared
parameter room = scalar >>= declared room

abbrev pub parameters_by : ℕ → Terminal → Reader (List Declared)
parameters_by room t.Close = pure []
parameters_by room t.Void = take >> pure []
parameters_by room _ = list (parameter room)

-- [ "void" | param { "," param } ]
unfoldable pub parameters : ℕ → Reader (List Declared)
parameters room = by_terminal (parameters_by room)

-- the names of one line
unfoldable pub declaration : ℕ → Reader (List Declared)
declaration room =
    scalar >>= (λ whole.
    list (declared room whole) >>= (λ all.
    expect t.Semicolon >>
    pure all))

-- { decl }
unfoldable pub declarations : ℕ → Reader (List Declared)
declarations room = many begins_type ◌++◌ (declaration room) []
