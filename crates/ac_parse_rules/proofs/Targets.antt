-- The target with a number among the targets of several statements.
use Rattle.std.proofs.Common.{◌≡◌, ℕ, zero, suc, ◌+◌, ◌<◌, List, [], ◌∷◌, ◌++◌, drop, length, refl, ap, ◌∙◌, sym, arith, Some, slice_get, get_or, length-append, drop-cons, add-one}
use Rattle.ac_syntax.specs.declared.tree.Place.{Place}
use Rattle.ac_parse_grammar.specs.declared.tree.Statement.{Statement}
use Rattle.ac_parse_rules.specs.Statements.{targets, all_targets}

pub at_left : (xs ys : List Place) (n : ℕ) (p : Place) → slice_get xs n ≡ Some p → slice_get (xs ++ ys) n ≡ Some p
at_left [] ys n p h = absurd (cc h)
at_left (x ∷ xs) ys zero p h = h
at_left (x ∷ xs) ys (suc n) p h = at_left xs ys n p h

pub at_right : (xs ys : List Place) (n m : ℕ) → m + length xs ≡ n → slice_get (xs ++ ys) n ≡ slice_get ys m
at_right [] ys n m h = let e : n ≡ m = omega arith in rw e refl
at_right (x ∷ xs) ys zero m h = absurd (omega arith)
at_right (x ∷ xs) ys (suc n) m h = at_right xs ys n m (omega arith)

drop_here : (ss : List Statement) (i : ℕ) (s : Statement) → i < length ss → s ≡ get_or ss i s → drop i ss ≡ s ∷ drop (i + 1) ss
drop_here ss i s h g = rw (add-one) (drop-cons ss i s h ∙ ap (λ x. x ∷ drop (suc i) ss) (sym g))

-- the target is one of this statement's
pub in_turn : (ss : List Statement) (i : ℕ) (s : Statement) (m n : ℕ) (p : Place) → i < length ss → s ≡ get_or ss i s → slice_get (targets s) m ≡ Some p
    → slice_get (all_targets (drop i ss)) m ≡ slice_get (all_targets ss) n → slice_get (all_targets ss) n ≡ Some p
in_turn ss i s m n p h g t e = sym e ∙ ap (λ xs. slice_get (all_targets xs) m) (drop_here ss i s h g) ∙ at_left (targets s) (all_targets (drop (i + 1) ss)) m p t

-- or it stands behind them
pub past_turn : (ss : List Statement) (i : ℕ) (s : Statement) (m left n : ℕ) → i < length ss → s ≡ get_or ss i s → left + length (targets s) ≡ m
    → slice_get (all_targets (drop i ss)) m ≡ slice_get (all_targets ss) n → slice_get (all_targets (drop (i + 1) ss)) left ≡ slice_get (all_targets ss) n
past_turn ss i s m left n h g l e = sym (at_right (targets s) (all_targets (drop (i + 1) ss)) m left l) ∙ ap (λ xs. slice_get (all_targets xs) m) (sym (drop_here ss i s h g)) ∙ e

pub past_length : (ss : List Statement) (i : ℕ) (s : Statement) → i < length ss → s ≡ get_or ss i s → length (all_targets (drop i ss)) ≡ length (targets s) + length (all_targets (drop (i + 1) ss))
past_length ss i s h g = ap (λ xs. length (all_targets xs)) (drop_here ss i s h g) ∙ length-append (targets s) (all_targets (drop (i + 1) ss))

pub both_lengths : (xs ys : List Place) → length (xs ++ ys) ≡ length xs + length ys
both_lengths xs ys = length-append xs ys

pub ruleset target_steps = (at_left, at_right, both_lengths)
