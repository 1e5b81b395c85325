-- Which of two broken rules comes first: the one at the lower place, and at one place the one that ranks lower.
use Rattle.std.specs.Prelude.{ℕ, ◌+◌, Bool, ◌==◌, nat_lt, if◌then◌else◌, Option, Some, None}
use Rattle.ac_parse_exprs.specs.declared.fault.Which.{Which}
use Rattle.ac_parse_exprs.specs.declared.fault.Which.TheVariants as which
use Rattle.ac_parse_exprs.specs.declared.fault.Rule.{Rule}
use Rattle.ac_parse_exprs.specs.declared.fault.Rule.TheVariants.{NotAffine, Undeclared, Misused, Duplicate, Endless, Limit}
use Rattle.ac_parse_exprs.specs.declared.fault.Broken.{Broken}
use Rattle.ac_syntax.specs.declared.tree.Place.{Place}

abbrev pub number_of_limit : Which → ℕ
number_of_limit which.File = 0
number_of_limit which.Nesting = 1
number_of_limit which.Parameters = 2
number_of_limit which.Arrays = 3
number_of_limit which.Dimensions = 4
number_of_limit which.Depth = 5
number_of_limit which.Assignments = 6
number_of_limit which.Nodes = 7
number_of_limit which.Literal = 8
number_of_limit which.Coefficient = 9
number_of_limit which.Pieces = 10
number_of_limit which.Quotients = 11

abbrev pub rank : Rule → ℕ
rank NotAffine = 0
rank Undeclared = 1
rank Misused = 2
rank Duplicate = 3
rank Endless = 4
rank (Limit which) = 5 + number_of_limit which

abbrev pub is_earlier : Broken → Broken → Bool
is_earlier f g = if f.place.at == g.place.at then nat_lt (rank f.rule) (rank g.rule) else nat_lt f.place.at g.place.at

-- the first of what may be broken
abbrev pub earlier : Option Broken → Option Broken → Option Broken
earlier None g = g
earlier (Some f) None = Some f
earlier (Some f) (Some g) = if is_earlier g f then Some g else Some f

-- a rule that is broken at a place
abbrev pub broken : Rule → Place → Option Broken
broken rule place = Some (record { rule = rule; place = place })

-- a rule that is broken at a place where a test says so
abbrev pub broken_where : Bool → Rule → Place → Option Broken
broken_where b rule place = if b then broken rule place else None

-- a rule that may be broken at a place
abbrev pub rule_broken : Option Rule → Place → Option Broken
rule_broken None place = None
rule_broken (Some rule) place = broken rule place
