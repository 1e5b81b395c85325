-- Where no rule is broken, none is broken in any part; and facts of each element of a list.
use Rattle.std.proofs.Common.{◌≡◌, suc, List, [], ◌∷◌, ◌++◌, map, refl, Bool, true, false, ◌&&◌, Option, Some, None, arith, cond}
use Rattle.std.specs.List.{AllByRecursion, Contains, list_all}
use Rattle.ac_syntax.specs.declared.tree.Place.{Place}
use Rattle.ac_parse_exprs.specs.declared.fault.Rule.{Rule}
use Rattle.ac_parse_exprs.specs.declared.fault.Broken.{Broken}
use Rattle.ac_parse_exprs.specs.FaultOrder.{earlier, broken_where, is_earlier}
use Rattle.ac_parse_exprs.specs.Comparisons.{first_from, first_of}

one_of : (f g : Broken) (b : Bool) {X : Type 0} → cond b (Some g) (Some f) ≡ None → X
one_of f g true h = absurd cc
one_of f g false h = absurd cc

-- of two that may be broken neither is
pub neither : (a b : Option Broken) → earlier a b ≡ None → (a ≡ None) × (b ≡ None)
neither None b h = (refl, h)
neither (Some f) None h = absurd cc
neither (Some f) (Some g) h = one_of f g (is_earlier g f) h

-- in no part of several a rule is broken
abbrev pub NoneBroken : List (Option Broken) → Type 0
NoneBroken = AllByRecursion (λ (b : Option Broken). b ≡ None)

none_from : (b : Option Broken) (cs : List (Option Broken)) → first_from b cs ≡ None → (b ≡ None) × NoneBroken cs
none_from b [] h = (h, tt)
none_from b (c ∷ cs) h =
    let r = none_from (earlier b c) cs h in
    let n = neither b c r.0 in
    (n.0, (n.1, r.1))

-- of several that may be broken none is
pub none_of : (cs : List (Option Broken)) → first_of cs ≡ None → NoneBroken cs
none_of cs h = (none_from None cs h).1

-- a test says that no rule is broken
pub not_where : (b : Bool) (rule : Rule) (place : Place) → broken_where b rule place ≡ None → b ≡ false
not_where true rule place h = absurd cc
not_where false rule place h = refl

pub both_true : (a b : Bool) → (a && b) ≡ true → (a ≡ true) × (b ≡ true)
both_true true b h = (refl, h)
both_true false b h = absurd cc

module _ {A : Type 0} where
  pub each : (P : A → Type 0) → ((x : A) → P x) → (xs : List A) → AllByRecursion P xs
  each P f [] = tt
  each P f (x ∷ xs) = (f x, each P f xs)

  pub each_further : (P Q : A → Type 0) → ((x : A) → P x → Q x) → (xs : List A) → AllByRecursion P xs → AllByRecursion Q xs
  each_further P Q f [] h = tt
  each_further P Q f (x ∷ xs) h = (f x h.0, each_further P Q f xs h.1)

  pub each_both : (P Q : A → Type 0) (xs : List A) → AllByRecursion P xs → AllByRecursion Q xs → AllByRecursion (λ x. P x × Q x) xs
  each_both P Q [] h k = tt
  each_both P Q (x ∷ xs) h k = ((h.0, k.0), each_both P Q xs h.1 k.1)

  pub each_append : (P : A → Type 0) (xs ys : List A) → AllByRecursion P xs → AllByRecursion P ys → AllByRecursion P (xs ++ ys)
  each_append P [] ys h k = k
  each_append P (x ∷ xs) ys h k = (h.0, each_append P xs ys h.1 k)

  pub in_rest : (y : A) (xs : List A) (x : A) → Contains xs x → Contains (y ∷ xs) x
  in_rest y xs x h = (suc h.0, (omega (arith, h.1)), h.2)

  pub in_front : (x : A) (xs : List A) → Contains (x ∷ xs) x
  in_front x xs = (0, (omega arith), refl)

  pub passes_each : (p : A → Bool) (xs : List A) → list_all p xs ≡ true → AllByRecursion (λ x. p x ≡ true) xs
  passes_each p [] h = tt
  passes_each p (x ∷ xs) h = let b = both_true (p x) (list_all p xs) h in (b.0, passes_each p xs b.1)

module _ {A B : Type 0} (f : A → B) where
  pub each_map : (P : B → Type 0) (xs : List A) → AllByRecursion (λ x. P (f x)) xs → AllByRecursion P (map f xs)
  each_map P [] h = tt
  each_map P (x ∷ xs) h = (h.0, each_map P xs h.1)

  pub each_of_map : (P : B → Type 0) (xs : List A) → AllByRecursion P (map f xs) → AllByRecursion (λ x. P (f x)) xs
  each_of_map P [] h = tt
  each_of_map P (x ∷ xs) h = (h.0, each_of_map P xs h.1)
