-- One site assigned, and both ways tried.
use Rattle.std.proofs.Common.{◌≡◌, ◌==◌, ◌++◌, add-one, ℕ, zero, suc, ◌+◌, ◌<◌, ◌≤◌, List, [], ◌∷◌, length, set, replicate, inl, inr, ◌⊎◌, Option, Some, None, Bool, true, false, refl, ap, sym, ◌∙◌, arith}
use Rattle.std.specs.Prelude.{slice_get}
use Rattle.std.proofs.lemmas.Bool.{eqb-true, eqb-false}
use Rattle.std.proofs.lemmas.Option.{slice_get_within}
use Rattle.std.proofs.lemmas.List.{length-set, length-map, length-replicate}
use Rattle.ac_syntax.specs.declared.tree.Order.{Order}
use Rattle.ac_syntax.specs.declared.tree.Order.TheVariants.{Keep, Swap}
use Rattle.ac_match.specs.MatchInternals.Search.{Has, SomeExtended, open_count, filled}
use Rattle.ac_match.specs.declared.look.Choice.{Choice}

-- an open site counts, until it is assigned
pub open_fewer : (assigned : List (Option Order)) (s : ℕ) (o : Order) → slice_get assigned s ≡ Some None → open_count (set assigned s (Some o)) + 1 ≡ open_count assigned
open_fewer [] s o e = absurd cc
open_fewer (x ∷ xs) zero o e = let i : x ≡ None = cc in rw i (omega arith)
open_fewer (None ∷ xs) (suc s) o e = let r = open_fewer xs s o e in omega (arith, r)
open_fewer (Some v ∷ xs) (suc s) o e = open_fewer xs s o e

get_set_same : (assigned : List (Option Order)) (s : ℕ) (v w : Option Order) → slice_get assigned s ≡ Some w → slice_get (set assigned s v) s ≡ Some v
get_set_same [] s v w e = absurd cc
get_set_same (x ∷ xs) zero v w e = refl
get_set_same (x ∷ xs) (suc s) v w e = get_set_same xs s v w e

get_set_other : (assigned : List (Option Order)) (s i : ℕ) (v : Option Order) → ¬ (i ≡ s) → slice_get (set assigned s v) i ≡ slice_get assigned i
get_set_other [] s i v n = refl
get_set_other (x ∷ xs) zero zero v n = absurd (n refl)
get_set_other (x ∷ xs) zero (suc i) v n = refl
get_set_other (x ∷ xs) (suc s) zero v n = refl
get_set_other (x ∷ xs) (suc s) (suc i) v n = get_set_other xs s i v (λ e. n (ap suc e))

-- an order with what was assigned and this order at the site has what is assigned behind
has_with : (assigned : List (Option Order)) (s : ℕ) (o : Order) (os : List Order) → slice_get assigned s ≡ Some None → Has os assigned → slice_get os s ≡ Some o → Has os (set assigned s (Some o))
has_with assigned s o os e h t = (h.0 ∙ sym (length-set assigned s (Some o)), λ i v g. by_test i v g (i == s) refl)
  where
    by_test : (i : ℕ) (v : Order) → slice_get (set assigned s (Some o)) i ≡ Some (Some v) → (b : Bool) → (i == s) ≡ b → slice_get os i ≡ Some v
    by_test i v g true f =
        let is : i ≡ s = eqb-true i s f in
        let a : slice_get (set assigned s (Some o)) s ≡ Some (Some v) = rw is at g in
        let b = get_set_same assigned s (Some o) None e in
        let c : o ≡ v = cc in
        rw is (t ∙ ap (λ (x : Order). Some x) c)
    by_test i v g false f = h.1 i v (sym (get_set_other assigned s i (Some o) (eqb-false i s f)) ∙ g)

two_orders : (os : List Order) (s : ℕ) → s < length os → (slice_get os s ≡ Some Keep) ⊎ (slice_get os s ≡ Some Swap)
two_orders [] s l = absurd (omega (arith, l))
two_orders (Keep ∷ os) zero l = inl refl
two_orders (Swap ∷ os) zero l = inr refl
two_orders (o ∷ os) (suc s) l = two_orders os s (omega (arith, l))

-- where both orders of the site lead to a refuted order, all do
pub both_refuted : (assigned : List (Option Order)) (refuted : List (List Choice)) (s : ℕ) → slice_get assigned s ≡ Some None
    → ((os : List Order) → Has os (set assigned s (Some Keep)) → SomeExtended os refuted)
    → ((os : List Order) → Has os (set assigned s (Some Swap)) → SomeExtended os refuted)
    → (os : List Order) → Has os assigned → SomeExtended os refuted
both_refuted assigned refuted s e k w os h =
    elim (two_orders os s (let l = slice_get_within assigned s None e in omega (arith, l, h.0))) [
      | inl t ↦ k os (has_with assigned s Keep os e h t)
      | inr t ↦ w os (has_with assigned s Swap os e h t)
    ]

-- the same place set again
pub set_again : (assigned : List (Option Order)) (s : ℕ) (v w : Option Order) → set (set assigned s v) s w ≡ set assigned s w
set_again [] s v w = refl
set_again (x ∷ xs) zero v w = refl
set_again (x ∷ xs) (suc s) v w = ap (λ t. x ∷ t) (set_again xs s v w)

pub set_back : (assigned : List (Option Order)) (s : ℕ) → slice_get assigned s ≡ Some None → set assigned s None ≡ assigned
set_back [] s e = refl
set_back (x ∷ xs) zero e = let i : x ≡ None = cc in rw i refl
set_back (x ∷ xs) (suc s) e = ap (λ t. x ∷ t) (set_back xs s e)

pub open_within : (assigned : List (Option Order)) (s : ℕ) → slice_get assigned s ≡ Some None → s < length assigned
open_within assigned s e = slice_get_within assigned s None e

pub ruleset search_steps = (open_within, open_fewer)

-- at the beginning nothing is assigned
pub open_all : (n : ℕ) → open_count (replicate n None) ≤ n
open_all zero = omega arith
open_all (suc n) = omega (arith, open_all n)

-- nothing is assigned
abbrev pub none_of : Option Order
none_of = None

not_some : (n i : ℕ) (o : Order) → ¬ (slice_get (replicate n None) i ≡ Some (Some o))
not_some zero i o e = cc
not_some (suc n) zero o e = cc
not_some (suc n) (suc i) o e = not_some n i o e

pub none_assigned : (n : ℕ) (os : List Order) → length os ≡ n → Has os (replicate n None)
none_assigned n os l = (l ∙ sym (length-replicate n none_of), λ i o e. absurd (not_some n i o e))

-- the order of a list has what is assigned
filled_at : (assigned : List (Option Order)) (i : ℕ) (o : Order) → slice_get assigned i ≡ Some (Some o) → slice_get (filled assigned) i ≡ Some o
filled_at [] i o e = absurd cc
filled_at (x ∷ xs) zero o e = let s : x ≡ Some o = cc in rw s refl
filled_at (x ∷ xs) (suc i) o e = filled_at xs i o e

pub filled_has : (assigned : List (Option Order)) → Has (filled assigned) assigned
filled_has assigned = (length-map assigned _, filled_at assigned)

pub replicate_snoc : (n : ℕ) → replicate (n + 1) none_of ≡ replicate n None ++ None ∷ []
replicate_snoc n = rw add-one (by_number n)
  where
    by_number : (n : ℕ) → replicate (suc n) none_of ≡ replicate n None ++ None ∷ []
    by_number zero = refl
    by_number (suc n) = ap (λ t. None ∷ t) (by_number n)
