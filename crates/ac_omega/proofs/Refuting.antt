-- A refutation as a search makes it, at lists of choices and of what refutes behind each.
use Rattle.std.proofs.Common.{◌≡◌, ℕ, List, [], ◌∷◌, ◌++◌, Option, Some, None, Result, Ok, Err, true, rules, refl, sym, subst}
use Rattle.std.specs.Prelude.{IfOk, IfSome, IsSome}
use Rattle.std.specs.List.{AllByRecursion}
use Rattle.ac_forms.specs.Rows.{IsWellMade}
use Rattle.ac_forms.specs.declared.conj.Conj.{Conj}
use Rattle.ac_forms.specs.declared.row.Row.{Row}
use Rattle.ac_omega_steps.specs.Choices.{are_absurd}
use Rattle.ac_omega_steps.specs.declared.choose.Choice.{Choice}
use Rattle.ac_omega.specs.Maxima.{Maxima}
use Rattle.ac_omega.specs.WalkAnswers.{IfWalkedEmpty, IsRefuted, IsRefutedBehind, WantsRefutation, wanted, with_choice_behind, with_refutation}
use Rattle.ac_omega.specs.Within.{Bounds, HaveRisen, IsWithin, AreAllWithin}
use Rattle.ac_omega.specs.declared.search.Aim.{Aim}
use Rattle.ac_omega.specs.declared.search.Aim.TheVariants.{ForPoint, ForRefutation, ForPieces}
use Rattle.ac_omega.specs.declared.search.Walked.{Walked}
use Rattle.ac_omega.specs.declared.search.Walked.TheVariants as done
use Rattle.ac_omega.specs.declared.halt.Halt.{Halt}
use Rattle.ac_omega.proofs.Bounding.{risen-on, all-more, moduli-more}
use Rattle.ac_omega.proofs.Gathering.{gathered_all}
use Rattle.ac_omega_certify.specs.Refutations.{Refutes, RefuteEach, AreChoicesOf, AreModuliWithin}
use Rattle.ac_omega_certify.specs.Alternatives.{Alternatives, alternatives_for, all_of}
use Rattle.ac_omega_certify.proofs.GatheredChoices.{gathered}
use Rattle.ac_omega_certify.specs.declared.refutation.Refutation.{Refutation, Row_of-Refutation, end_of-Refutation, more_of-Refutation, items-the_row-Refutation, the_lemmas}
use Rattle.ac_omega_certify.specs.declared.refutation.Refutation.TheVariants.{Absurd, Open, Open'}
use Rattle.ac_omega_certify.specs.declared.strategy.Strategy.{Strategy}

-- what each choice leaves is refuted, in turn
abbrev pub AreRefutedBehind : List Choice → Conj → List Refutation → Type 0
AreRefutedBehind [] c [] = Unit {0}
AreRefutedBehind (h ∷ hs) c (r ∷ rs) = IsRefutedBehind h c r × AreRefutedBehind hs c rs
AreRefutedBehind [] c (r ∷ rs) = ⊥
AreRefutedBehind (h ∷ hs) c [] = ⊥

pub one-behind-more : (hs : List Choice) (c : Conj) (rs : List Refutation) (h : Choice) (r : Refutation) → AreRefutedBehind hs c rs → IsRefutedBehind h c r → AreRefutedBehind (hs ++ h ∷ []) c (rs ++ r ∷ [])
one-behind-more [] c [] h r a b = (b, tt)
one-behind-more [] c (y ∷ rs) h r a b = absurd a
one-behind-more (x ∷ hs) c [] h r a b = absurd a
one-behind-more (x ∷ hs) c (y ∷ rs) h r a b = (a.0, one-behind-more hs c rs h r a.1 b)

refute_row : (c : Conj) (hs : List Choice) (m : _) (k : Row_of-Refutation m) → AreRefutedBehind hs c (items-the_row-Refutation m k) → RefuteEach c hs k
unfolding Refutes
refute_row c [] m end_of-Refutation a = tt
refute_row c [] m (more_of-Refutation {n = n} r rest) a = absurd a
refute_row c (h ∷ hs) m end_of-Refutation a = absurd a
refute_row c (h ∷ hs) m (more_of-Refutation {n = n} r rest) a = (a.0.left, a.0.refutes, refute_row c hs n rest a.1)

open_row : (c : Conj) (hs : List Choice) (n : _) (below : Row_of-Refutation _) → IsWellMade c → AreChoicesOf c hs → AreRefutedBehind hs c (items-the_row-Refutation _ below) → IsRefuted c (Open' c hs n below)
unfolding Refutes
open_row c hs n below made of a = record { conj = refl; refutes = (made, of, refute_row c hs _ below a) }

-- all choices, where each leaves what is refuted
pub open-refutes : (c : Conj) (hs : List Choice) (below : List Refutation) → IsWellMade c → AreChoicesOf c hs → AreRefutedBehind hs c below → IsRefuted c (Open c hs below)
open-refutes c hs below made of a = search (rules, the_lemmas, open_row, made, of, a)

-- the absurd one
pub absurd-refutes : (c : Conj) → IsWellMade c → are_absurd c.rows ≡ true → IsRefuted c (Absurd c)
unfolding Refutes
absurd-refutes c made e = record { conj = refl; refutes = (made, e) }

within_row : (s : Maxima) (m : _) (k : Row_of-Refutation m) → AllByRecursion (IsWithin s) (items-the_row-Refutation m k) → AreAllWithin s k
unfolding IsWithin
within_row s m end_of-Refutation a = tt
within_row s m (more_of-Refutation {n = n} r rest) a = (a.0, within_row s n rest a.1)

within_open_row : (s : Maxima) (c : Conj) (hs : List Choice) (n : _) (below : Row_of-Refutation _) → Bounds s c.rows → AreModuliWithin s.factor hs → AllByRecursion (IsWithin s) (items-the_row-Refutation _ below) → IsWithin s (Open' c hs n below)
unfolding IsWithin
within_open_row s c hs n below b m a = (b, m, within_row s _ below a)

pub open-within : (s : Maxima) (c : Conj) (hs : List Choice) (below : List Refutation) → Bounds s c.rows → AreModuliWithin s.factor hs → AllByRecursion (IsWithin s) below → IsWithin s (Open c hs below)
open-within s c hs below b m a = search (rules, the_lemmas, within_open_row, b, m, a)

pub absurd-within : (s : Maxima) (c : Conj) → Bounds s c.rows → IsWithin s (Absurd c)
unfolding IsWithin
absurd-within s c b = b

-- the choices that are done, of all
pub first-tried : (strategy : Strategy) (z : ℕ) (rows seen : List Row) (left : Alternatives) (hs : List Choice) → seen ≡ rows → left ≡ alternatives_for strategy z seen → hs ≡ [] → all_of (alternatives_for strategy z rows) ≡ gathered hs left
first-tried strategy z rows seen left hs e l n = rw (l, e, n) (sym (gathered_all (alternatives_for strategy z rows)))

pub next-tried : (aim : Aim) (hs gs : List Choice) (h : Choice) (r : Option Refutation) (all : Option (List Choice)) (left rest : Alternatives) → (WantsRefutation aim → all ≡ gathered hs left) → left ≡ Some h ∷ rest → gs ≡ with_choice_behind hs h r → (WantsRefutation aim → IsSome r)
    → WantsRefutation aim → all ≡ gathered gs rest
next-tried aim hs gs h None all left rest a l g told w = let f = told w in absurd cc
next-tried aim hs gs h (Some r) all left rest a l g told w = rw g (rw l at (a w))

pub last-tried : (hs : List Choice) (all : Option (List Choice)) (left : Alternatives) → all ≡ gathered hs left → left ≡ [] → all ≡ Some hs
last-tried hs all left a l = rw l at a

-- one more of each, where there is one
pub refuted-more : (hs : List Choice) (c : Conj) (rs : List Refutation) (h : Choice) (r : Option Refutation) → AreRefutedBehind hs c rs → IfSome r (λ x. IsRefutedBehind h c x) → AreRefutedBehind (with_choice_behind hs h r) c (with_refutation rs r)
refuted-more hs c rs h None a b = a
refuted-more hs c rs h (Some r) a b = one-behind-more hs c rs h r a b

pub within-more : (s : Maxima) (rs : List Refutation) (r : Option Refutation) → AllByRecursion (IsWithin s) rs → IfSome r (λ x. IsWithin s x) → AllByRecursion (IsWithin s) (with_refutation rs r)
within-more s rs None a b = a
within-more s rs (Some r) a b = all-more s rs r a b

pub moduli-kept : (n : ℕ) (hs : List Choice) (h : Choice) (r : Option Refutation) → AreModuliWithin n hs → AreModuliWithin n (h ∷ []) → AreModuliWithin n (with_choice_behind hs h r)
moduli-kept n hs h None a b = a
moduli-kept n hs h (Some r) a b = moduli-more n hs h a b

-- the refutation, where it is wanted
pub told-wanted : (aim : Aim) (r : Refutation) → WantsRefutation aim → IsSome (wanted aim r)
told-wanted ForPoint r w = absurd w
told-wanted ForRefutation r w = refl
told-wanted ForPieces r w = absurd w

pub if-wanted : (aim : Aim) (r : Refutation) (P : Refutation → Type 0) → (WantsRefutation aim → P r) → IfSome (wanted aim r) (λ x. P x)
if-wanted ForPoint r P h = tt
if-wanted ForRefutation r P h = h tt
if-wanted ForPieces r P h = tt

pub risen-behind : (r : Result Walked Halt) (a b : Maxima) → HaveRisen a b → IfOk r (λ w. IfWalkedEmpty w (λ s r. HaveRisen b s)) → IfOk r (λ w. IfWalkedEmpty w (λ s r. HaveRisen a s))
risen-behind (Ok (done.Empty k s r)) a b h w = risen-on a b s h w
risen-behind (Ok (done.Found p)) a b h w = tt
risen-behind (Err e) a b h w = tt

-- what is kept at a leaf changes no maxima
pub leaf-risen : (r : Result Walked Halt) (aim : Aim) (a b : Maxima) → HaveRisen a b → IfOk r (λ w. IfWalkedEmpty w (λ s x. (aim ≡ ForPieces) × (s ≡ b))) → IfOk r (λ w. IfWalkedEmpty w (λ s x. HaveRisen a s))
leaf-risen (Ok (done.Empty k s x)) aim a b h w = subst (λ (m : Maxima). HaveRisen a m) (sym w.1) h
leaf-risen (Ok (done.Found p)) aim a b h w = tt
leaf-risen (Err e) aim a b h w = tt
