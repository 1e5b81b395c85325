-- What a name means at a place, and which rule its use there breaks.
use Rattle.std.specs.Prelude.{ℕ, ◌==◌, Bool, true, false, List, [], ◌∷◌, length, nat_eq, Option, Some, None, if◌then◌else◌}
use Rattle.std.specs.Cmp.Lexicographic.{pointwise}
use Rattle.ac_parse_exprs.specs.declared.fault.Rule.{Rule}
use Rattle.ac_parse_exprs.specs.declared.fault.Rule.TheVariants.{Undeclared, Misused}
use Rattle.ac_parse_exprs.specs.declared.scope.Meaning.{Meaning}
use Rattle.ac_parse_exprs.specs.declared.scope.Meaning.TheVariants.{Parameter, Iterator, Array, LoopName, OwnStart, Nothing}
use Rattle.ac_parse_exprs.specs.declared.scope.Entry.{Entry}
use Rattle.ac_parse_exprs.specs.declared.scope.Scope.{Scope}

-- what the first entry with the name says
abbrev pub declared_meaning : List Entry → List ℕ → Meaning
declared_meaning [] name = Nothing
declared_meaning (e ∷ es) name = if pointwise nat_eq e.name name then e.meaning else declared_meaning es name

-- of the loops that run, the innermost first, the first with the name; it is numbered by the loops around it
abbrev pub iterator_number : List (List ℕ) → List ℕ → Option ℕ
iterator_number [] name = None
iterator_number (i ∷ is) name = if pointwise nat_eq i name then Some (length is) else iterator_number is name

abbrev pub is_starting : Option (List ℕ) → List ℕ → Bool
is_starting None name = false
is_starting (Some own) name = pointwise nat_eq own name

-- a loop that runs goes first, then the loop whose start this is, then the declarations
abbrev pub meaning_behind : Option ℕ → Bool → Meaning → Meaning
meaning_behind (Some k) own declared = Iterator k
meaning_behind None own declared = if own then OwnStart else declared

abbrev pub meaning : List Entry → Scope → List ℕ → Meaning
meaning names scope name =
    meaning_behind (iterator_number scope.iterators name) (is_starting scope.starting name) (declared_meaning names name)

abbrev pub is_array : Meaning → Bool
is_array (Parameter k) = false
is_array (Iterator k) = false
is_array (Array number dimensions) = true
is_array LoopName = false
is_array OwnStart = false
is_array Nothing = false

abbrev pub misused_unless : Bool → Option Rule
misused_unless b = if b then None else Some Misused

-- a read with so many subscripts
abbrev pub read_rule : Meaning → ℕ → Option Rule
read_rule (Parameter k) subs = misused_unless (subs == 0)
read_rule (Iterator k) subs = misused_unless (subs == 0)
read_rule (Array number dimensions) subs = misused_unless (subs == dimensions)
read_rule LoopName subs = Some Undeclared
read_rule OwnStart subs = Some Misused
read_rule Nothing subs = Some Undeclared

-- a call; a called name needs no declaration
abbrev pub call_rule : Meaning → Option Rule
call_rule (Parameter k) = Some Misused
call_rule (Iterator k) = Some Misused
call_rule (Array number dimensions) = Some Misused
call_rule LoopName = Some Undeclared
call_rule OwnStart = Some Misused
call_rule Nothing = None
