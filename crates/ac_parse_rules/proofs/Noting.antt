-- The first target with too many quotients, at statements of each kind.
use Rattle.std.proofs.Common.{◌≡◌, List, [], ◌∷◌, map, refl, sym, rules, ap, ◌∙◌, Bool, Option}
use Rattle.ac_syntax.specs.Quotients.{noted_parts}
use Rattle.ac_syntax.specs.declared.tree.Place.{Place}
use Rattle.ac_syntax.specs.declared.tree.Quot.{Quot}
use Rattle.ac_parse_grammar.specs.declared.tree.Word.{Word}
use Rattle.ac_parse_grammar.specs.declared.tree.Step.{Step}
use Rattle.ac_parse_grammar.specs.declared.tree.Part.{Part}
use Rattle.ac_parse_grammar.specs.declared.tree.Operator.{Operator}
use Rattle.ac_parse_grammar.specs.declared.tree.Expr.{Expr}
use Rattle.ac_parse_grammar.specs.declared.tree.Statement.{Statement, the_lemmas}
use Rattle.ac_parse_grammar.specs.declared.tree.Statement.TheVariants.{Loop, Branch, Assign}
use Rattle.ac_parse_exprs.specs.declared.fault.Broken.{Broken}
use Rattle.ac_parse_exprs.specs.declared.scope.Entry.{Entry}
use Rattle.ac_parse_exprs.specs.declared.scope.Scope.{Scope}
use Rattle.ac_parse_exprs.specs.FaultOrder.{earlier}
use Rattle.ac_parse_exprs.specs.Comparisons.{first_of, condition}
use Rattle.ac_parse_rules.specs.FewQuotients.{loop_noted, assignment_crowded, first_crowded, crowded, all_crowded}
use Rattle.ac_parse_rules.specs.Statements.{inside}

applied_twice : {A B C D : Type 0} (f : A → B → C → D) (b : B) (c : C) (xs : List A) → map (λ (g : B → C → D). g b c) (map f xs) ≡ map (λ x. f x b c) xs
applied_twice f b c [] = refl
applied_twice f b c (x ∷ xs) = ap (λ ys. f x b c ∷ ys) (applied_twice f b c xs)

crowded_loop : (names : List Entry) (typed : Bool) (name : Word) (start : Expr) (cond : List Part) (step : Step) (body : List Statement) (place : Place)
    → crowded names (Loop typed name start cond step body place) ≡ (λ scope seen. first_crowded (inside scope name.name) (loop_noted names scope typed name start cond seen) (map (crowded names) body))
unfolding crowded
crowded_loop names typed name start cond step body place = search (rules, the_lemmas)

pub crowded-loop : (names : List Entry) (scope : Scope) (seen : List Quot) (typed : Bool) (name : Word) (start : Expr) (cond : List Part) (step : Step) (body : List Statement) (place : Place)
    → crowded names (Loop typed name start cond step body place) scope seen ≡ all_crowded names (inside scope name.name) (loop_noted names scope typed name start cond seen) body
crowded-loop names scope seen typed name start cond step body place =
    ap (λ f. f scope seen) (crowded_loop names typed name start cond step body place)
    ∙ ap first_of (applied_twice (crowded names) (inside scope name.name) (loop_noted names scope typed name start cond seen) body)

crowded_branch : (names : List Entry) (cond : List Part) (taken other : List Statement) (place : Place)
    → crowded names (Branch cond taken other place)
    ≡ (λ scope seen. earlier (first_crowded scope (noted_parts seen (condition names scope cond)) (map (crowded names) taken)) (first_crowded scope (noted_parts seen (condition names scope cond)) (map (crowded names) other)))
unfolding crowded
crowded_branch names cond taken other place = search (rules, the_lemmas)

pub crowded-branch : (names : List Entry) (scope : Scope) (seen : List Quot) (cond : List Part) (taken other : List Statement) (place : Place)
    → crowded names (Branch cond taken other place) scope seen
    ≡ earlier (all_crowded names scope (noted_parts seen (condition names scope cond)) taken) (all_crowded names scope (noted_parts seen (condition names scope cond)) other)
crowded-branch names scope seen cond taken other place =
    ap (λ f. f scope seen) (crowded_branch names cond taken other place)
    ∙ rw (applied_twice (crowded names) scope (noted_parts seen (condition names scope cond)) taken, applied_twice (crowded names) scope (noted_parts seen (condition names scope cond)) other) refl

crowded_assign : (names : List Entry) (target : Word) (subs : List Expr) (operator : Option Operator) (e : Expr)
    → crowded names (Assign target subs operator e) ≡ (λ scope seen. assignment_crowded names scope target subs operator e seen)
unfolding crowded
crowded_assign names target subs operator e = search (rules, the_lemmas)

pub crowded-assign : (names : List Entry) (scope : Scope) (seen : List Quot) (target : Word) (subs : List Expr) (operator : Option Operator) (e : Expr)
    → crowded names (Assign target subs operator e) scope seen ≡ assignment_crowded names scope target subs operator e seen
crowded-assign names scope seen target subs operator e = ap (λ f. f scope seen) (crowded_assign names target subs operator e)

pub ruleset crowding = (crowded-loop, crowded-branch, crowded-assign)

-- the same where the parts of the statement are known by equations
pub loop_at : (names : List Entry) (scope : Scope) (seen : List Quot) (s : Statement) (typed of_type : Bool) (name word : Word) (start first : Expr) (cond slice parts : List Part) (step : Step) (body inner : List Statement) (place : Place)
    → s ≡ Loop typed name start cond step body place → of_type ≡ typed → word ≡ name → first ≡ start → parts ≡ slice → slice ≡ cond → inner ≡ body
    → all_crowded names (inside scope word.name) (loop_noted names scope of_type word first parts seen) inner ≡ crowded names s scope seen
loop_at names scope seen s typed of_type name word start first cond slice parts step body inner place e t n f p c b =
    rw (e, t, n, f, p, c, b) (sym (crowded-loop names scope seen typed name start cond step body place))

pub branch_at : (names : List Entry) (scope : Scope) (seen : List Quot) (s : Statement) (cond parts : List Part) (taken other left_body right_body : List Statement) (place : Place) (noted left_noted right_noted : List Quot) (left right first : Option Broken)
    → s ≡ Branch cond taken other place → parts ≡ cond → noted ≡ noted_parts seen (condition names scope parts) → left_noted ≡ noted → right_noted ≡ noted → left_body ≡ taken → right_body ≡ other
    → left ≡ all_crowded names scope left_noted left_body → right ≡ all_crowded names scope right_noted right_body → first ≡ earlier left right
    → first ≡ crowded names s scope seen
branch_at names scope seen s cond parts taken other left_body right_body place noted left_noted right_noted left right first e p n m k t o l r f =
    rw (f, l, r, m, k, n, p, t, o, e) (sym (crowded-branch names scope seen cond taken other place))
