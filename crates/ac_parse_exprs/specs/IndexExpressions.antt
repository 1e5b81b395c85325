-- What the rules say of an expression that stands for an index: its first byte, its affine form, whether a number of a subexpression passes
-- the limit, whether something is rounded in it and whether something in it is not affine, and the first rule that is broken. An expression
-- is not affine where its parts are and it is not.
use Rattle.std.specs.Prelude.{ℕ, ◌==◌, nat_lt, Bool, true, false, not, ◌&&◌, ◌||◌, List, [], ◌∷◌, length, ℤ, pos, ◌+ℤ◌, ◌-ℤ◌, if◌then◌else◌, Option, None}
use Rattle.ac_syntax.specs.Index.{is_zero}
use Rattle.ac_syntax.specs.Turns.{innermost}
use Rattle.ac_syntax.specs.declared.tree.Place.{Place}
use Rattle.ac_syntax.specs.declared.tree.Quot.{Quot}
use Rattle.ac_parse_grammar.specs.declared.tree.Word.{Word}
use Rattle.ac_parse_grammar.specs.declared.tree.Numeral.{Numeral}
use Rattle.ac_parse_grammar.specs.declared.tree.Operator.{Operator}
use Rattle.ac_parse_grammar.specs.declared.tree.Operator.TheVariants.{Add, Subtract, Multiply, Divide, Remainder}
use Rattle.ac_parse_grammar.specs.declared.tree.Expr.{Expr}
use Rattle.ac_parse_grammar.specs.declared.tree.Expr.TheOpen.{Expr-F}
use Rattle.ac_parse_grammar.specs.declared.tree.Expr.TheFolds.{fold-Expr}
use Rattle.ac_parse_exprs.specs.declared.fault.Which.TheVariants.{Literal}
use Rattle.ac_parse_exprs.specs.declared.fault.Rule.{Rule}
use Rattle.ac_parse_exprs.specs.declared.fault.Rule.TheVariants.{NotAffine, Misused, Limit}
use Rattle.ac_parse_exprs.specs.declared.fault.Broken.{Broken}
use Rattle.ac_parse_exprs.specs.declared.scope.Meaning.{Meaning}
use Rattle.ac_parse_exprs.specs.declared.scope.Meaning.TheVariants.{Parameter, Iterator, Array, LoopName, OwnStart, Nothing}
use Rattle.ac_parse_exprs.specs.declared.scope.Entry.{Entry}
use Rattle.ac_parse_exprs.specs.declared.scope.Scope.{Scope}
use Rattle.ac_parse_exprs.specs.declared.form.Affine.{Affine}
use Rattle.ac_parse_exprs.specs.declared.form.Collected.{Collected}
use Rattle.ac_parse_exprs.specs.declared.form.Collected.TheVariants.{Known, Large, Unknown}
use Rattle.ac_parse_exprs.specs.declared.index.Judged.{Judged}
use Rattle.ac_parse_exprs.specs.declared.index.Parts.{Parts}
use Rattle.ac_parse_exprs.specs.FaultOrder.{earlier, broken, broken_where, rule_broken}
use Rattle.ac_parse_exprs.specs.Meanings.{meaning, is_array, read_rule, call_rule}
use Rattle.ac_parse_exprs.specs.AffineForms.{is_small, is_within, signed, constant_form, parameter_form, iterator_form, quotient_form, is_known, is_large, sum_of, product_of, negative_of}

-- a Number above 2147483648 passes the limit
abbrev pub is_long : Numeral → Bool
is_long n = nat_lt 2147483648 n.number

abbrev pub judged_number : Scope → Numeral → Judged
judged_number scope n = record {
  place = n.place;
  form = if is_long n then Large true else Known (constant_form scope.params (length scope.iterators) (pos n.number));
  large = is_long n;
  rounds = false;
  awry = false;
  broken = broken_where (is_long n) (Limit Literal) n.place;
}

abbrev pub judged_decimal : Word → Judged
judged_decimal word = record { place = word.place; form = Unknown; large = false; rounds = false; awry = true; broken = broken NotAffine word.place }

-- several expressions: whether each has a form, whether one is large, rounds or is not affine, and the first that is broken
abbrev pub with_part : Parts → Judged → Parts
with_part p j = record {
  known = p.known && is_known j.form;
  large = p.large || j.large;
  rounds = p.rounds || j.rounds;
  awry = p.awry || j.awry;
  broken = earlier p.broken j.broken;
}

abbrev pub gathered : Parts → List Judged → Parts
gathered p [] = p
gathered p (j ∷ js) = gathered (with_part p j) js

abbrev pub no_parts : Parts
no_parts = record { known = true; large = false; rounds = false; awry = false; broken = None }

-- what a name alone stands for
abbrev pub name_form : Scope → Meaning → Collected
name_form scope (Parameter k) = Known (parameter_form scope.params (length scope.iterators) k)
name_form scope (Iterator k) = Known (iterator_form scope.params (length scope.iterators) k)
name_form scope (Array number dimensions) = Unknown
name_form scope LoopName = Unknown
name_form scope OwnStart = Unknown
name_form scope Nothing = Unknown

abbrev pub judged_name : Scope → Meaning → Word → Judged
judged_name scope m word = record {
  place = word.place;
  form = name_form scope m;
  large = false;
  rounds = false;
  awry = false;
  broken = rule_broken (read_rule m 0) word.place;
}

-- an access or a call, of whose name a rule may be broken: it is not affine, unless the fault is in its parts
abbrev pub judged_other : Option Rule → Word → Parts → Judged
judged_other rule word parts = record {
  place = word.place;
  form = Unknown;
  large = parts.large;
  rounds = parts.rounds;
  awry = parts.awry || parts.known;
  broken = earlier (rule_broken rule word.place) (earlier parts.broken (broken_where parts.known NotAffine word.place));
}

-- an array or a scalar where only parameters may stand
abbrev pub judged_variable : Word → Judged
judged_variable word = record { place = word.place; form = Unknown; large = false; rounds = false; awry = false; broken = broken Misused word.place }

abbrev pub judged_access : Scope → Meaning → Word → ℕ → Parts → Judged
judged_access scope m word subs parts =
    if scope.fixed && is_array m then judged_variable word
    else if (subs == 0) && not (is_array m) then judged_name scope m word
    else judged_other (read_rule m subs) word parts

abbrev pub judged_negative : Place → Judged → Judged
judged_negative place j = record { place = place; form = negative_of j.form; large = j.large; rounds = j.rounds; awry = j.awry; broken = j.broken }

abbrev pub judged_group : Place → Judged → Judged
judged_group place j = record { place = place; form = j.form; large = j.large; rounds = j.rounds; awry = j.awry; broken = j.broken }

abbrev pub form_of : Operator → Collected → Collected → Collected
form_of Add a b = sum_of (signed false) a b
form_of Subtract a b = sum_of (signed true) a b
form_of Multiply a b = product_of a b
form_of Divide a b = Unknown
form_of Remainder a b = Unknown

abbrev pub is_not_affine : Operator → Collected → Collected → Bool
is_not_affine op a b = (is_known a && is_known b) && not (is_known (form_of op a b))

abbrev pub is_remainder : Operator → Bool
is_remainder Add = false
is_remainder Subtract = false
is_remainder Multiply = false
is_remainder Divide = false
is_remainder Remainder = true

-- ---- what is rounded

-- in the condition of a loop a form that changes from turn to turn
abbrev pub changes_by_turn : Scope → Collected → Bool
changes_by_turn scope (Known f) = scope.tested && not (is_zero (innermost f.iters))
changes_by_turn scope (Large constant) = false
changes_by_turn scope Unknown = false

-- what may not be divided: anything where only parameters may stand, by 0, what rounds itself or is not affine, and what changes by turn
abbrev pub is_refused : Scope → Numeral → Judged → Bool
is_refused scope n j = scope.fixed || (n.number == 0) || j.rounds || j.awry || changes_by_turn scope j.form

-- `ceild(e, c)` is `floord(e + c - 1, c)`
abbrev pub added : Bool → Numeral → ℤ
added up n = if up then pos n.number -ℤ pos 1 else pos 0

abbrev pub quot_of : Bool → Numeral → Place → Affine → Quot
quot_of up n place f = record { coef = pos 1; konst = f.constant +ℤ added up n; params = f.params; iters = f.iters; div = pos n.number; place = place }

-- what is divided is within the limit, also with what ceild adds
abbrev pub rounded_form : Scope → Bool → Numeral → Place → Affine → Collected
rounded_form scope up n place f =
    if is_within f && is_small (f.constant +ℤ added up n) then Known (quotient_form scope.params (length scope.iterators) (quot_of up n place f)) else Large false

abbrev pub quotient_of : Scope → Bool → Numeral → Place → Collected → Collected
quotient_of scope up n place (Known f) = rounded_form scope up n place f
quotient_of scope up n place (Large constant) = Large false
quotient_of scope up n place Unknown = Unknown

-- what is divided, by a number
abbrev pub divided_broken : Bool → Numeral → Place → Judged → Option Broken
divided_broken refused n place j = earlier (earlier j.broken (broken_where (is_long n) (Limit Literal) n.place)) (broken_where refused NotAffine place)

abbrev pub judged_quotient : Scope → Bool → Numeral → Place → Judged → Judged
judged_quotient scope up n place j =
    let form = if is_refused scope n j || is_long n then Unknown else quotient_of scope up n place j.form in
    record {
      place = place;
      form = form;
      large = j.large || is_large form;
      rounds = true;
      awry = j.awry || is_refused scope n j;
      broken = divided_broken (is_refused scope n j) n place j;
    }

-- an operator between two expressions
abbrev pub joined : Operator → Judged → Judged → Judged
joined op a b = record {
  place = a.place;
  form = form_of op a.form b.form;
  large = (a.large || b.large) || is_large (form_of op a.form b.form);
  rounds = (a.rounds || b.rounds) || is_remainder op;
  awry = (a.awry || b.awry) || is_not_affine op a.form b.form;
  broken = earlier (earlier a.broken b.broken) (broken_where (is_not_affine op a.form b.form) NotAffine a.place);
}

-- operators group to the left
abbrev pub chained : Judged → List Judged → List Operator → Judged
chained a [] ops = a
chained a (j ∷ js) [] = a
chained a (j ∷ js) (op ∷ ops) = chained (joined op a j) js ops

-- a chain of nothing, which no text has, is taken for 0 at the start of the file
abbrev pub judged_chain : Scope → List Judged → List Operator → Judged
judged_chain scope [] ops = judged_number scope (record { number = 0; place = record { at = 0 } })
judged_chain scope (j ∷ js) ops = chained j js ops

-- an expression, by what is said of its parts
abbrev pub judge_step : List Entry → Scope → Expr-F Judged → Judged
judge_step names scope (Expr-F.Number n) = judged_number scope n
judge_step names scope (Expr-F.Decimal word) = judged_decimal word
judge_step names scope (Expr-F.Access name subs) = judged_access scope (meaning names scope name.name) name (length subs) (gathered no_parts subs)
judge_step names scope (Expr-F.Call name args) = judged_other (call_rule (meaning names scope name.name)) name (gathered no_parts args)
judge_step names scope (Expr-F.Quotient up argument divisor place) = judged_quotient scope up divisor place argument
judge_step names scope (Expr-F.Negative operand place) = judged_negative place operand
judge_step names scope (Expr-F.Group inner place) = judged_group place inner
judge_step names scope (Expr-F.Chain operands operators) = judged_chain scope operands operators

unfoldable pub judged : List Entry → Scope → Expr → Judged
judged names scope = fold-Expr Judged (judge_step names scope)
