-- Index expressions and comparisons as they stand in a program, and what the rules say of them.
use Rattle.std.specs.Prelude.{Bool, true, false, ◌||◌, if◌then◌else◌, List, [], ◌∷◌, map, length, ℤ, pos, negsuc, ◌+ℤ◌, ◌*ℤ◌, not, Option, Some, None}
use Rattle.std.specs.Option.{option_and_then}
use Rattle.std.specs.List.{filter}
use Rattle.ac_syntax.specs.Index.{is_zero}
use Rattle.ac_syntax.specs.declared.tree.Place.{Place}
use Rattle.ac_syntax.specs.declared.tree.IndexExpr.{IndexExpr}
use Rattle.ac_syntax.specs.declared.tree.Rel.{Rel}
use Rattle.ac_syntax.specs.declared.tree.Rel.TheVariants.{NonNegative, Zero, Divides}
use Rattle.ac_syntax.specs.declared.tree.Quot.{Quot}
use Rattle.ac_syntax.specs.declared.tree.Comparison.{Comparison}
use Rattle.ac_parse_grammar.specs.declared.tree.Numeral.{Numeral}
use Rattle.ac_parse_grammar.specs.declared.tree.Expr.{Expr}
use Rattle.ac_parse_grammar.specs.declared.tree.Part.{Part}
use Rattle.ac_parse_grammar.specs.declared.tree.Relation.{Relation}
use Rattle.ac_parse_grammar.specs.declared.tree.Relation.TheVariants.{Less, AtMost, Greater, AtLeast, Equal}
use Rattle.ac_parse_exprs.specs.declared.fault.Which.TheVariants.{Coefficient}
use Rattle.ac_parse_exprs.specs.declared.fault.Rule.TheVariants.{Limit}
use Rattle.ac_parse_exprs.specs.declared.fault.Broken.{Broken}
use Rattle.ac_parse_exprs.specs.declared.scope.Entry.{Entry}
use Rattle.ac_parse_exprs.specs.declared.scope.Scope.{Scope}
use Rattle.ac_parse_exprs.specs.declared.form.Affine.{Affine}
use Rattle.ac_parse_exprs.specs.declared.form.Collected.{Collected}
use Rattle.ac_parse_exprs.specs.declared.form.Collected.TheVariants.{Known, Large, Unknown}
use Rattle.ac_parse_exprs.specs.declared.index.Judged.{Judged}
use Rattle.ac_parse_exprs.specs.FaultOrder.{earlier, broken_where}
use Rattle.ac_parse_exprs.specs.AffineForms.{plus_times, joined_quots, scaled_quots, constant_form, is_within, limited, is_large}
use Rattle.ac_parse_exprs.specs.IndexExpressions.{is_long, is_refused, divided_broken, judged_chain, judged}
use Rattle.ac_parse_exprs.specs.Divisions.{Division, tested_division}

-- the first of several
abbrev pub first_from : Option Broken → List (Option Broken) → Option Broken
first_from b [] = b
first_from b (c ∷ cs) = first_from (earlier b c) cs

abbrev pub first_of : List (Option Broken) → Option Broken
first_of cs = first_from None cs

-- what is broken in a whole index expression: a large subexpression counts at its first byte
abbrev pub whole_broken : Judged → Option Broken
whole_broken j = earlier j.broken (broken_where j.large (Limit Coefficient) j.place)

-- the form, or 0 where there is none within the limit
abbrev pub form_or_zero : Scope → Collected → Affine
form_or_zero scope (Known f) = if is_within f then f else constant_form scope.params (length scope.iterators) (pos 0)
form_or_zero scope (Large constant) = constant_form scope.params (length scope.iterators) (pos 0)
form_or_zero scope Unknown = constant_form scope.params (length scope.iterators) (pos 0)

-- those of coefficient 0 don't count
abbrev pub counted : List Quot → List Quot
counted qs = filter (λ q. not (is_zero q.coef)) qs

abbrev pub placed_form : Place → Affine → IndexExpr
placed_form place f = record { konst = f.constant; params = f.params; iters = f.iters; quots = counted f.quots; place = place }

-- the index expression of a form within the limit, where there is one
abbrev pub known_index : Place → Collected → Option IndexExpr
known_index place (Known f) = if is_within f then Some (placed_form place f) else None
known_index place (Large constant) = None
known_index place Unknown = None

abbrev pub index_expr : Scope → Judged → IndexExpr
index_expr scope j = placed_form j.place (form_or_zero scope j.form)

-- an index expression of the text
abbrev pub index : List Entry → Scope → Expr → IndexExpr
index names scope e = index_expr scope (judged names scope e)

abbrev pub index_broken : List Entry → Scope → Expr → Option Broken
index_broken names scope e = whole_broken (judged names scope e)

-- f - g, less 1 where it has to be above 0
abbrev pub margin : Bool → ℤ
margin strict = if strict then negsuc 0 else pos 0

-- the quotients of f - g in the order of the text, where g stands on the left or on the right
abbrev pub difference_quots : Bool → List Quot → List Quot → Option (List Quot)
difference_quots turned ps qs = if turned then option_and_then (λ rs. joined_quots (pos 1) rs ps) (scaled_quots (negsuc 0) qs) else joined_quots (negsuc 0) ps qs

abbrev pub difference_form : Bool → Affine → Affine → List Quot → Affine
difference_form strict f g qs = record {
  constant = (f.constant +ℤ (negsuc 0 *ℤ g.constant)) +ℤ margin strict;
  params = plus_times (negsuc 0) f.params g.params;
  iters = plus_times (negsuc 0) f.iters g.iters;
  quots = qs;
}

abbrev pub difference : Bool → Bool → Collected → Collected → Collected
difference turned strict (Known f) (Known g) = limited (difference_quots turned f.quots g.quots) (difference_form strict f g) false
difference turned strict (Known f) (Large d) = Large false
difference turned strict (Known f) Unknown = Unknown
difference turned strict (Large c) (Known g) = Large false
difference turned strict (Large c) (Large d) = Large false
difference turned strict (Large c) Unknown = Unknown
difference turned strict Unknown b = Unknown

-- the form that a comparison compares with 0
abbrev pub compared_form : Relation → Collected → Collected → Collected
compared_form Less a b = difference true true b a
compared_form AtMost a b = difference true false b a
compared_form Greater a b = difference false true a b
compared_form AtLeast a b = difference false false a b
compared_form Equal a b = difference false false a b

abbrev pub rel_of : Relation → Rel
rel_of Less = NonNegative
rel_of AtMost = NonNegative
rel_of Greater = NonNegative
rel_of AtLeast = NonNegative
rel_of Equal = Zero

abbrev pub compared_forms : Relation → Judged → Judged → Judged
compared_forms relation a b = record {
  place = a.place;
  form = compared_form relation a.form b.form;
  large = (a.large || b.large) || is_large (compared_form relation a.form b.form);
  rounds = a.rounds || b.rounds;
  awry = a.awry || b.awry;
  broken = earlier a.broken b.broken;
}

abbrev pub side_place : Option Place → Place → Place
side_place None place = place
side_place (Some parenthesis) place = parenthesis

-- a test of a divisor, by what the rules say of what is divided: a form that is compared with its multiples
abbrev pub judged_division : Scope → Numeral → Place → Judged → Judged
judged_division scope n place j = record {
  place = place;
  form = if is_refused scope n j || is_long n then Unknown else j.form;
  large = j.large;
  rounds = true;
  awry = j.awry || is_refused scope n j;
  broken = divided_broken (is_refused scope n j) n place j;
}

abbrev pub tested : Scope → Division → Judged → Judged
tested scope d j = judged_division scope d.divisor (side_place d.parenthesis j.place) j

abbrev pub compared_by : List Entry → Scope → Part → Option Division → Judged
compared_by names scope part None = compared_forms part.relation (judged names scope part.left) (judged names scope part.right)
compared_by names scope part (Some d) = tested scope d (judged_chain scope (map (judged names scope) d.operands) d.operators)

abbrev pub compared : List Entry → Scope → Part → Judged
compared names scope part = compared_by names scope part (tested_division part)

abbrev pub rel_by : Relation → Option Division → Rel
rel_by relation None = rel_of relation
rel_by relation (Some d) = Divides (pos d.divisor.number)

-- how a comparison compares its form
abbrev pub part_rel : Part → Rel
part_rel part = rel_by part.relation (tested_division part)

abbrev pub comparison : List Entry → Scope → Part → Comparison
comparison names scope part = record { form = index_expr scope (compared names scope part); rel = part_rel part }

-- a condition
abbrev pub condition : List Entry → Scope → List Part → List Comparison
condition names scope parts = map (comparison names scope) parts

abbrev pub condition_broken : List Entry → Scope → List Part → Option Broken
condition_broken names scope parts = first_of (map (λ part. whole_broken (compared names scope part)) parts)
