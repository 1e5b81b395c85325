-- How many choices are splinters of a row, one choice and one row further.
use Rattle.std.proofs.Common.{◌≡◌, ℕ, zero, suc, ◌+◌, ◌-◌, ◌<◌, nat_eq, true, false, List, [], ◌∷◌, ◌++◌, length, drop, get_or, eq-eqb, refl, ap, ◌∙◌, arith, append_assoc}
use Rattle.std.proofs.lemmas.Bool.{ne_eqb}
use Rattle.ac_omega_steps.specs.declared.choose.Choice.{Choice}
use Rattle.ac_omega_steps.specs.declared.choose.Choice.TheVariants as choice
use Rattle.ac_omega_certify.specs.ChoiceBranches.{count_of, counts_from}
use Rattle.ac_omega_certify.proofs.Tried.{count-append}

pub same_place : (i j : ℕ) → i ≡ j → nat_eq i j ≡ true
same_place i j e = eq-eqb i j e

pub other_place : (i j : ℕ) → (i ≡ j → ⊥) → nat_eq i j ≡ false
other_place i j e = ne_eqb i j e

pub ruleset place_steps = (same_place, other_place)

at-front : (i : ℕ) (hs : List Choice) (j : ℕ) (h : Choice) → j < length hs → count_of i (drop j hs) ≡ count_of i (get_or hs j h ∷ []) + count_of i (drop (j + 1) hs)
at-front i [] j h l = absurd (omega arith)
at-front i (x ∷ hs) zero h l = count-append i (x ∷ []) hs
at-front i (x ∷ hs) (suc j) h l = at-front i hs j h (omega arith) ∙ ap (λ (k : ℕ). count_of i (get_or hs j h ∷ []) + count_of i (drop k (x ∷ hs))) (later j)
  where
    later : (j : ℕ) → suc (j + 1) ≡ suc j + 1
    later j = omega arith

pub count_step : (i : ℕ) (hs : List Choice) (j : ℕ) → j < length hs → count_of i (drop j hs) ≡ count_of i (get_or hs j (choice.Drop 0) ∷ []) + count_of i (drop (j + 1) hs)
count_step i hs j l = at-front i hs j (choice.Drop 0) l

-- the counts of the rows from row i on
pub counts_step : (i n : ℕ) (hs : List Choice) (made : List ℕ) (c : ℕ) → i < n → c ≡ count_of i hs → (made ++ c ∷ []) ++ counts_from (i + 1) (n - (i + 1)) hs ≡ made ++ counts_from i (n - i) hs
counts_step i n hs made c l e =
    let k : n - i ≡ suc (n - (i + 1)) = omega arith in
    let s : i + 1 ≡ suc i = omega arith in
    append_assoc made (c ∷ []) (counts_from (i + 1) (n - (i + 1)) hs) ∙ rw (k, s, e) refl
