-- Which names the loops without a type run, at lists.
use Rattle.std.proofs.Common.{◌≡◌, ℕ, List, [], ◌∷◌, map, refl, rules, ap, Bool, false, Option, nat_eq}
use Rattle.std.specs.Prelude.{not, ◌&&◌, ◌||◌}
use Rattle.std.specs.List.{list_any}
use Rattle.std.specs.Cmp.Lexicographic.{pointwise}
use Rattle.ac_syntax.specs.declared.tree.Place.{Place}
use Rattle.ac_parse_grammar.specs.declared.tree.Word.{Word}
use Rattle.ac_parse_grammar.specs.declared.tree.Step.{Step}
use Rattle.ac_parse_grammar.specs.declared.tree.Part.{Part}
use Rattle.ac_parse_grammar.specs.declared.tree.Operator.{Operator}
use Rattle.ac_parse_grammar.specs.declared.tree.Expr.{Expr}
use Rattle.ac_parse_grammar.specs.declared.tree.Statement.{Statement, the_lemmas}
use Rattle.ac_parse_grammar.specs.declared.tree.Statement.TheVariants.{Loop, Branch, Assign}
use Rattle.ac_parse_rules.specs.Declarations.{runs}

any_of : {A : Type 0} (f : A → Bool) (xs : List A) → list_any (λ b. b) (map f xs) ≡ list_any f xs
any_of f [] = refl
any_of f (x ∷ xs) = ap (λ b. f x || b) (any_of f xs)

pub runs-loop : (name : List ℕ) (typed : Bool) (word : Word) (start : Expr) (cond : List Part) (step : Step) (body : List Statement) (place : Place)
    → runs name (Loop typed word start cond step body place) ≡ ((not typed && pointwise nat_eq word.name name) || list_any (runs name) body)
unfolding runs
runs-loop name typed word start cond step body place = search (rules, the_lemmas, any_of)

pub runs-branch : (name : List ℕ) (cond : List Part) (taken other : List Statement) (place : Place) → runs name (Branch cond taken other place) ≡ (list_any (runs name) taken || list_any (runs name) other)
unfolding runs
runs-branch name cond taken other place = search (rules, the_lemmas, any_of)

pub runs-assign : (name : List ℕ) (target : Word) (subs : List Expr) (operator : Option Operator) (value : Expr) → runs name (Assign target subs operator value) ≡ false
unfolding runs
runs-assign name target subs operator value = search (rules, the_lemmas)

pub ruleset running = (runs-loop, runs-branch, runs-assign)
