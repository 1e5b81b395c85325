-- What it means that there is no fault.
use Rattle.std.proofs.Common.{◌≡◌, ◌↔◌, ◌≤◌, ◌+◌, ◌&&◌, ℕ, List, [], ◌∷◌, length, Bool, true, false, cond, Option, Some, None, nat_le, refl, sym, ◌∙◌, subst}
use Rattle.std.specs.Prelude.{nat_eq}
use Rattle.std.specs.List.{AllByRecursion}
use Rattle.std.proofs.lemmas.Bool.{eqb-true, eq-eqb, leb-true, false≢true}
use Rattle.ac_forms.specs.declared.conj.Conj.{Conj}
use Rattle.ac_base.proofs.Options.{some-is}
use Rattle.ac_forms.proofs.Twins.{and-is}
use Rattle.ac_base.proofs.Truths.{true-nat_le}
use Rattle.ac_cert.specs.CertificateFaults.{Fault, first_fault_of, split_fault, step_fault}
use Rattle.ac_cert.specs.declared.types.Rule.{Rule}
use Rattle.ac_cert.specs.declared.types.Rule.TheVariants as rule
use Rattle.ac_cert.proofs.Soundness.{first-none}
use Rattle.ac_claims_paths.specs.declared.path.Path.{Path}
use Rattle.ac_claims.specs.PlanFaults.{fault_unless, go_fault}

pub none_some : {A : Type 0} (x : A) → None ≡ Some x → ⊥
none_some x e = absurd cc

-- ---- tests

pub both_tests : (a b : Bool) (P Q : Type 0) → (a ≡ true) ↔ P → (b ≡ true) ↔ Q → ((a && b) ≡ true) ↔ (P × Q)
both_tests a b P Q p q = and-is {P = P} {Q = Q} a b p q

pub equal_test : (a b : ℕ) → (nat_eq a b ≡ true) ↔ (a ≡ b)
equal_test a b = (eqb-true a b, eq-eqb a b)

pub least_test : (a b : ℕ) → (nat_le a b ≡ true) ↔ (a ≤ b)
least_test a b = (leb-true a b, true-nat_le a b)

-- ---- faults

both_none : (a b : Fault) → a ≡ None → b ≡ None → first_fault_of a b ≡ None
both_none None b e f = f
both_none (Some x) b e f = absurd cc

pub both_faults : (a b : Fault) (P Q : Type 0) → (a ≡ None) ↔ P → (b ≡ None) ↔ Q → (first_fault_of a b ≡ None) ↔ (P × Q)
both_faults a b P Q p q = ((λ e. let t = first-none a b e in (p.0 t.0, q.0 t.1)), (λ t. both_none a b (p.1 t.0) (q.1 t.1)))

pub unless_faults : (b : Bool) (k : ℕ) (r : Rule) (P : Type 0) → (b ≡ true) ↔ P → (fault_unless b k r ≡ None) ↔ P
unless_faults true k r P p = ((λ e. p.0 refl), (λ h. refl))
unless_faults false k r P p = ((λ e. absurd cc), (λ h. absurd (false≢true (p.1 h))))

pub test_faults : (b : Bool) (F : Fault) (x : ℕ × Rule) (P Q : Type 0) → (b ≡ true) ↔ P → (F ≡ None) ↔ Q → (cond b F (Some x) ≡ None) ↔ (P × Q)
test_faults true F x P Q p q = ((λ e. (p.0 refl, q.0 e)), (λ t. q.1 t.1))
test_faults false F x P Q p q = ((λ e. absurd cc), (λ t. absurd (false≢true (p.1 t.0))))

pub step_faults : (o : Option Conj) (r : Rule) (k : ℕ) (F : Conj → Fault) (P : Conj → Type 0) → ((d : Conj) → (F d ≡ None) ↔ P d) → (step_fault o r k F ≡ None) ↔ ((d : Conj) × (o ≡ Some d) × P d)
step_faults None r k F P w = ((λ e. absurd cc), (λ t. absurd (none_some t.0 t.1)))
step_faults (Some d) r k F P w = ((λ e. (d, refl, (w d).0 e)), (λ t. (w d).1 (subst P (sym (some-is d t.0 t.1)) t.2)))

pub split_faults : (o : Option (Conj × Conj)) (k : ℕ) (L R : Conj → Fault) (P Q : Conj → Type 0) → ((d : Conj) → (L d ≡ None) ↔ P d) → ((d : Conj) → (R d ≡ None) ↔ Q d)
    → (split_fault o k L R ≡ None) ↔ ((sides : Conj × Conj) × (o ≡ Some sides) × P sides.0 × Q sides.1)
split_faults None k L R P Q p q = ((λ e. absurd cc), (λ t. absurd (none_some t.0 t.1)))
split_faults (Some s) k L R P Q p q = (
  (λ e. let t = first-none (L s.0) (R s.1) e in (s, refl, (p s.0).0 t.0, (q s.1).0 t.1)),
  (λ t.
      let same : t.0 ≡ s = sym (some-is s t.0 t.1) in
      both_none (L s.0) (R s.1) ((p s.0).1 (subst (λ (z : Conj × Conj). P z.0) same t.2)) ((q s.1).1 (subst (λ (z : Conj × Conj). Q z.1) same t.3))),
)

pub go_faults : (o : Option (List Path)) (count k : ℕ) (F : List Path → Fault) (P : List Path → Type 0) → ((hs : List Path) → count ≡ length hs → (F hs ≡ None) ↔ P hs) → ((hs : List Path) → P hs → count ≡ length hs)
    → (go_fault o count k F ≡ None) ↔ ((hs : List Path) × (o ≡ Some hs) × P hs)
go_faults None count k F P w n = ((λ e. absurd cc), (λ t. absurd (none_some t.0 t.1)))
go_faults (Some hs) count k F P w n =
    let test = test_faults (nat_eq count (length hs)) (F hs) (k, rule.Go) (count ≡ length hs) (F hs ≡ None) (equal_test count (length hs)) ((λ e. e), (λ e. e)) in (
      (λ e. let t = test.0 e in (hs, refl, (w hs t.0).0 t.1)),
      (λ t. let p : P hs = subst P (sym (some-is hs t.0 t.1)) t.2 in let m = n hs p in test.1 (m, (w hs m).1 p)),
    )

-- the items of a list, each with its fault
pub each_faults : {A : Type 0} (F : List A → ℕ → Fault) (one : A → ℕ → Fault) (lines : A → ℕ) (P : A → Type 0) → ((k : ℕ) → F [] k ≡ None) → ((x : A) (xs : List A) (k : ℕ) → F (x ∷ xs) k ≡ first_fault_of (one x k) (F xs (k + lines x)))
    → ((x : A) (k : ℕ) → (one x k ≡ None) ↔ P x) → (xs : List A) (k : ℕ) → (F xs k ≡ None) ↔ AllByRecursion P xs
each_faults F one lines P first more w [] k = ((λ e. tt), (λ t. first k))
each_faults F one lines P first more w (x ∷ xs) k =
    let both = both_faults (one x k) (F xs (k + lines x)) (P x) (AllByRecursion P xs) (w x k) (each_faults F one lines P first more w xs (k + lines x)) in
    ((λ e. both.0 (sym (more x xs k) ∙ e)), (λ t. more x xs k ∙ both.1 t))
