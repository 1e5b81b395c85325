-- A plan made of accepted parts is accepted.
use Rattle.std.proofs.Common.{◌≡◌, ℕ, ◌+◌, ℤ, pos, List, [], ◌∷◌, ◌++◌, length, Option, Some, None, true, cond, refl, ap, ◌∙◌, suc}
use Rattle.std.specs.Prelude.{Box, Vec}
use Rattle.std.specs.declared.alloc.Global.{Global}
use Rattle.ac_forms.specs.Affine.{Affine}
use Rattle.ac_forms.specs.declared.conj.Conj.{Conj}
use Rattle.ac_cert.specs.AcceptedTrees.{after_steps}
use Rattle.ac_cert.specs.CertificateFaults.{Fault, first_fault_of, split_fault}
use Rattle.ac_cert.specs.Rules.{after_step, both_sides, class, is_partition}
use Rattle.ac_cert.specs.declared.types.Rule.TheVariants as rule
use Rattle.ac_cert.specs.declared.types.Step.{Step}
use Rattle.ac_base.proofs.Options.{bind-some, some-is}
use Rattle.ac_claims_paths.specs.PathSteps.{Pairing, at_rows}
use Rattle.ac_claims_paths.specs.declared.path.Path.{Path}
use Rattle.ac_claims.specs.PlanFaults.{steps_fault, count_of, line_count, next_fault, classes_fault, plan_fault, plan_lines}
use Rattle.ac_claims.specs.declared.types.Claim.{Claim}
use Rattle.ac_claims.specs.declared.types.Plan.{Plan, roll-Plan}
use Rattle.ac_claims.specs.declared.types.PlanNext.{PlanNext, Split, Residue, Row_of-Plan, end_of-Plan, more_of-Plan, items-the_row-Plan, items_hidden-the_row-Plan-0}
use Rattle.ac_claims.specs.declared.types.PlanNext.TheBlock.{hidden-the_row-Plan-0}
use Rattle.ac_claims_plans.specs.PlanAcceptance.{AcceptsPlan}
use Rattle.ac_claims_plans.specs.BranchSides.{AcceptsClasses}

-- a plan without steps
pub bare : (g : Pairing) (cs : List Claim) (t : Plan) (x : PlanNext) (h : Path) (k : ℕ) → t.steps ≡ [] → t.next ≡ x → plan_fault g cs t h k ≡ next_fault g cs x h k
bare g cs t x h k empty next = ap (λ (steps : List Step). steps_fault steps (λ c. next_fault g cs t.next (at_rows h c)) h.conj k) empty ∙ ap (λ (y : PlanNext). next_fault g cs y h k) next

two-none : (o : Option (Conj × Conj)) (k : ℕ) (left right : Conj → Fault) (a b : Conj) → o ≡ Some (a, b) → left a ≡ None → right b ≡ None → split_fault o k left right ≡ None
two-none o k left right a b e l r = rw (e, l) r

pub split-accepted : (g : Pairing) (cs : List Claim) (t : Plan) (e : Affine) (l r : Box Plan Global) (h : Path) (a b : Conj) → t.steps ≡ [] → t.next ≡ Split e l r → both_sides e h.conj ≡ Some (a, b) → AcceptsPlan g cs l.value (at_rows h a) → AcceptsPlan g cs r.value (at_rows h b) → AcceptsPlan g cs t h
split-accepted g cs t e l r h a b empty next is al ar k =
    bare g cs t (Split e l r) h k empty next
    ∙ two-none (both_sides e h.conj) k (λ a. plan_fault g cs l.value (at_rows h a) (k + 1)) (λ b. plan_fault g cs r.value (at_rows h b) (k + 1 + plan_lines l.value)) a b is (al _) (ar _)

-- ---- rows of plans as lists

classes-list : Pairing → List Claim → List Plan → ℤ → Affine → ℕ → Path → ℕ → Fault
classes-list g cs [] m f i h k = None
classes-list g cs (t ∷ ts) m f i h k = first_fault_of (plan_fault g cs t (at_rows h (class m f (pos i) h.conj)) k) (classes-list g cs ts m f (i + 1) h (k + plan_lines t))

pub count-row : {w : _} (all : Row_of-Plan w) → count_of all ≡ length (items-the_row-Plan w all)
count-row end_of-Plan = refl
count-row (more_of-Plan s t rest) = ap (λ (n : ℕ). suc n) (count-row rest)

classes-row : (g : Pairing) (cs : List Claim) {w : _} (all : Row_of-Plan w) (m : ℤ) (f : Affine) (i : ℕ) (h : Path) (k : ℕ) → classes_fault g cs all m f i h k ≡ classes-list g cs (items-the_row-Plan w all) m f i h k
unfolding classes-list
classes-row g cs end_of-Plan m f i h k = refl
classes-row g cs (more_of-Plan s t rest) m f i h k =
    ap (λ (x : Fault). first_fault_of (steps_fault s (λ c. next_fault g cs t (at_rows h c)) (class m f (pos i) h.conj) k) x) (classes-row g cs rest m f (i + 1) h (k + (length s + line_count t)))

classes-none : (g : Pairing) (cs : List Claim) (ts : List Plan) (m : ℤ) (f : Affine) (i : ℕ) (h : Path) (k : ℕ) → AcceptsClasses g cs ts m f i h → classes-list g cs ts m f i h k ≡ None
unfolding classes-list
classes-none g cs [] m f i h k a = refl
classes-none g cs (t ∷ ts) m f i h k a = rw (a.0 k) (classes-none g cs ts m f (i + 1) h (k + plan_lines t) a.1)

residue-row : (g : Pairing) (cs : List Claim) {w : _} (all : Row_of-Plan w) (ts : List Plan) (h : Path) (k : ℕ) (m : ℤ) (e : Affine) → items-the_row-Plan w all ≡ ts
    → cond (is_partition m e h.conj.columns (count_of all)) (classes_fault g cs all m e 0 h (k + 1)) (Some (k, rule.Residue)) ≡ cond (is_partition m e h.conj.columns (length ts)) (classes-list g cs ts m e 0 h (k + 1)) (Some (k, rule.Residue))
residue-row g cs all ts h k m e is =
    let a = count-row all ∙ ap length is in
    let b = classes-row g cs all m e 0 h (k + 1) ∙ ap (λ x. classes-list g cs x m e 0 h (k + 1)) is in
    rw (a, b) refl

pub residue-accepted : (g : Pairing) (cs : List Claim) (t : Plan) (m : ℤ) (e : Affine) (kids : Vec Plan Global) (h : Path) → t.steps ≡ [] → t.next ≡ Residue m e kids → is_partition m e h.conj.columns (length kids.items) ≡ true → AcceptsClasses g cs kids.items m e 0 h → AcceptsPlan g cs t h
residue-accepted g cs t m e kids h empty next is each k =
    bare g cs t (Residue m e kids) h k empty next
    ∙ residue-row g cs (hidden-the_row-Plan-0 kids) kids.items h k m e (items_hidden-the_row-Plan-0 kids)
    ∙ rw is (classes-none g cs kids.items m e 0 h (k + 1) each)

-- ---- steps

steps-on : (steps further : List Step) (go : Conj → ℕ → Fault) (c d : Conj) → after_steps steps c ≡ Some d → ((k : ℕ) → steps_fault further go d k ≡ None) → (k : ℕ) → steps_fault (steps ++ further) go c k ≡ None
steps-on [] further go c d e h k = ap (λ (x : Conj). steps_fault further go x k) (some-is c d e) ∙ h k
steps-on (s ∷ steps) further go c d e h k =
    let t = bind-some (after_step s c) (after_steps steps) d e in
    rw t.1 (steps-on steps further go t.0 d t.2 h (k + 1))

pub behind-accepted : (g : Pairing) (cs : List Claim) (steps s f : List Step) (x : PlanNext) (h : Path) (d : Conj) → s ≡ steps ++ f → after_steps steps h.conj ≡ Some d
    → AcceptsPlan g cs (roll-Plan (record { steps = f; next = x })) (at_rows h d) → AcceptsPlan g cs (roll-Plan (record { steps = s; next = x })) h
behind-accepted g cs steps s f x h d is e a k =
    ap (λ (y : List Step). steps_fault y (λ c. next_fault g cs x (at_rows h c)) h.conj k) is
    ∙ steps-on steps f (λ c. next_fault g cs x (at_rows h c)) h.conj d e a k
