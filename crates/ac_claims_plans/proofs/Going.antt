-- A plan that steps is accepted where a plan for each branch of the step is.
use Rattle.std.proofs.Common.{◌≡◌, ℕ, ◌+◌, suc, List, [], ◌∷◌, length, Option, Some, None, true, nat_eq, refl, ap, ◌∙◌}
use Rattle.std.specs.Prelude.{Vec}
use Rattle.std.specs.declared.alloc.Global.{Global}
use Rattle.std.proofs.lemmas.Bool.Decides.{Decides-eqb}
use Rattle.ac_syntax.specs.declared.tree.Order.{Order}
use Rattle.ac_cert.specs.CertificateFaults.{Fault, first_fault_of}
use Rattle.ac_claims_paths.specs.PathSteps.{Pairing, at_rows, branches}
use Rattle.ac_claims_paths.specs.declared.path.Path.{Path}
use Rattle.ac_claims.specs.PlanFaults.{steps_fault, go_fault, count_of, line_count, next_fault, cases_fault, plan_fault, plan_lines}
use Rattle.ac_claims.specs.declared.types.Claim.{Claim}
use Rattle.ac_claims.specs.declared.types.Plan.{Plan}
use Rattle.ac_claims.specs.declared.types.PlanNext.{Go, Row_of-Plan, end_of-Plan, more_of-Plan, items-the_row-Plan, items_hidden-the_row-Plan-0}
use Rattle.ac_claims.specs.declared.types.PlanNext.TheBlock.{hidden-the_row-Plan-0}
use Rattle.ac_claims_plans.specs.PlanAcceptance.{AcceptsPlan}
use Rattle.ac_claims_plans.proofs.PlanParts.{bare, count-row}

-- a plan for each path
abbrev pub AcceptEach : Pairing → List Claim → List Plan → List Path → Type 0
AcceptEach g cs [] [] = Unit {0}
AcceptEach g cs (t ∷ ts) (h ∷ hs) = AcceptsPlan g cs t h × AcceptEach g cs ts hs
AcceptEach g cs _ _ = ⊥

abbrev cases-list : Pairing → List Claim → List Plan → List Path → ℕ → Fault
cases-list g cs [] hs k = None
cases-list g cs (t ∷ ts) [] k = None
cases-list g cs (t ∷ ts) (h ∷ hs) k = first_fault_of (plan_fault g cs t h k) (cases-list g cs ts hs (k + plan_lines t))

cases-row : (g : Pairing) (cs : List Claim) {w : _} (all : Row_of-Plan w) (hs : List Path) (k : ℕ) → cases_fault g cs all hs k ≡ cases-list g cs (items-the_row-Plan w all) hs k
cases-row g cs end_of-Plan hs k = refl
cases-row g cs (more_of-Plan s t rest) [] k = refl
cases-row g cs (more_of-Plan s t rest) (h ∷ hs) k =
    ap (λ (x : Fault). first_fault_of (steps_fault s (λ c. next_fault g cs t (at_rows h c)) h.conj k) x) (cases-row g cs rest hs (k + (length s + line_count t)))

cases-none : (g : Pairing) (cs : List Claim) (ts : List Plan) (hs : List Path) (k : ℕ) → AcceptEach g cs ts hs → cases-list g cs ts hs k ≡ None
cases-none g cs [] [] k a = refl
cases-none g cs [] (h ∷ hs) k a = absurd a
cases-none g cs (t ∷ ts) [] k a = absurd a
cases-none g cs (t ∷ ts) (h ∷ hs) k a = rw (a.0 k) (cases-none g cs ts hs (k + plan_lines t) a.1)

cases-long : (g : Pairing) (cs : List Claim) (ts : List Plan) (hs : List Path) → AcceptEach g cs ts hs → length ts ≡ length hs
cases-long g cs [] [] a = refl
cases-long g cs [] (h ∷ hs) a = absurd a
cases-long g cs (t ∷ ts) [] a = absurd a
cases-long g cs (t ∷ ts) (h ∷ hs) a = ap (λ (n : ℕ). suc n) (cases-long g cs ts hs a.1)

go-row : (g : Pairing) (cs : List Claim) {w : _} (all : Row_of-Plan w) (ts : List Plan) (hs : List Path) (k : ℕ) (o : Option (List Path)) → items-the_row-Plan w all ≡ ts → o ≡ Some hs → AcceptEach g cs ts hs
    → go_fault o (count_of all) k (λ hs. cases_fault g cs all hs (k + 1)) ≡ None
go-row g cs all ts hs k o is e a =
    let n : count_of all ≡ length hs = count-row all ∙ ap length is ∙ cases-long g cs ts hs a in
    let t : nat_eq (length hs) (length hs) ≡ true = (Decides-eqb (length hs) (length hs)).1 refl in
    rw (e, n, t) (cases-row g cs all hs (k + 1) ∙ ap (λ x. cases-list g cs x hs (k + 1)) is ∙ cases-none g cs ts hs (k + 1) a)

pub go-accepted : (g : Pairing) (cs : List Claim) (t : Plan) (order : Order) (cases : Vec Plan Global) (h : Path) (hs : List Path) → t.steps ≡ [] → t.next ≡ Go order cases → branches g order h ≡ Some hs
    → AcceptEach g cs cases.items hs → AcceptsPlan g cs t h
go-accepted g cs t order cases h hs empty next is each k =
    bare g cs t (Go order cases) h k empty next
    ∙ go-row g cs (hidden-the_row-Plan-0 cases) cases.items hs k (branches g order h) (items_hidden-the_row-Plan-0 cases) is each
