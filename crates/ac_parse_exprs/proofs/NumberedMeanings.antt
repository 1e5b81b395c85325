-- The parameters and iterators that names mean are ones that their scope has.
use Rattle.std.proofs.Common.{◌≡◌, ℕ, ◌+◌, ◌<◌, Bool, true, false, List, [], ◌∷◌, length, refl, arith}
use Rattle.std.specs.Prelude.{Option, Some, None, if◌then◌else◌, nat_eq}
use Rattle.std.specs.List.{AllByRecursion}
use Rattle.std.specs.Cmp.Lexicographic.{pointwise}
use Rattle.ac_parse_exprs.specs.declared.scope.Meaning.{Meaning}
use Rattle.ac_parse_exprs.specs.declared.scope.Meaning.TheVariants as means
use Rattle.ac_parse_exprs.specs.declared.scope.Entry.{Entry}
use Rattle.ac_parse_exprs.specs.declared.scope.Scope.{Scope}
use Rattle.ac_parse_exprs.specs.Meanings.{declared_meaning, meaning, meaning_behind, iterator_number, is_starting}
use Rattle.ac_parse_exprs.specs.FormValues.{IsNumbered, AreNumbered}

-- what holds of the meaning of each entry holds of what a name is declared as
pub declared_has : (P : Meaning → Type 0) → P means.Nothing → (names : List Entry) (name : List ℕ) → AllByRecursion (λ (e : Entry). P e.meaning) names → P (declared_meaning names name)
declared_has P none [] name h = none
declared_has P none (e ∷ es) name h = by (pointwise nat_eq e.name name) (declared_has P none es name h.1)
  where
    by : (b : Bool) → P (declared_meaning es name) → P (if b then e.meaning else declared_meaning es name)
    by true again = h.0
    by false again = again

-- a parameter or an iterator that a scope has
abbrev pub IsIn : Scope → Meaning → Type 0
IsIn scope (means.Parameter k) = k < scope.params
IsIn scope (means.Iterator k) = k < length scope.iterators
IsIn scope (means.Array number dimensions) = Unit {0}
IsIn scope means.LoopName = Unit {0}
IsIn scope means.OwnStart = Unit {0}
IsIn scope means.Nothing = Unit {0}

numbered_in : (scope : Scope) (m : Meaning) → IsNumbered scope.params m → IsIn scope m
numbered_in scope (means.Parameter k) h = h
numbered_in scope (means.Iterator k) h = absurd h
numbered_in scope (means.Array number dimensions) h = tt
numbered_in scope means.LoopName h = tt
numbered_in scope means.OwnStart h = tt
numbered_in scope means.Nothing h = tt

number_case : (n k : ℕ) (o : Option ℕ) (b : Bool) → ((k : ℕ) → o ≡ Some k → k < n) → (if b then Some n else o) ≡ Some k → k < n + 1
number_case n k o true again h = let e : n ≡ k = cc in omega (arith, e)
number_case n k o false again h = omega (arith, again k h)

iterators_numbered : (is : List (List ℕ)) (name : List ℕ) (k : ℕ) → iterator_number is name ≡ Some k → k < length is
iterators_numbered [] name k h = absurd cc
iterators_numbered (i ∷ is) name k h =
    let l : k < length is + 1 = number_case (length is) k (iterator_number is name) (pointwise nat_eq i name) (iterators_numbered is name) h in omega (arith, l)

pub meaning_in : (scope : Scope) (names : List Entry) (name : List ℕ) → AreNumbered scope.params names → IsIn scope (meaning names scope name)
meaning_in scope names name h = by (iterator_number scope.iterators name) (is_starting scope.starting name) refl
  where
    by : (k : Option ℕ) (own : Bool) → iterator_number scope.iterators name ≡ k → IsIn scope (meaning_behind k own (declared_meaning names name))
    by (Some k) own e = iterators_numbered scope.iterators name k e
    by None true e = tt
    by None false e = numbered_in scope (declared_meaning names name) (declared_has (IsNumbered scope.params) tt names name h)
