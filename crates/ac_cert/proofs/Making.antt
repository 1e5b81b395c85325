-- A tree made of accepted parts is accepted.
use Rattle.std.proofs.Common.{◌≡◌, ℕ, ◌+◌, ℤ, List, [], ◌∷◌, ◌++◌, length, Option, Some, None, true, refl, ap, ◌∙◌}
use Rattle.std.specs.Prelude.{Box, Vec}
use Rattle.std.specs.declared.alloc.Global.{Global}
use Rattle.ac_forms.specs.Affine.{Affine}
use Rattle.ac_forms.specs.Rows.{IsWellMade}
use Rattle.ac_forms.specs.declared.conj.Conj.{Conj}
use Rattle.ac_omega_steps.specs.IntegerPoints.{IsPoint}
use Rattle.ac_base.proofs.Options.{bind-some, some-is}
use Rattle.ac_cert.specs.declared.types.Step.{Step}
use Rattle.ac_cert.specs.declared.types.Next.{Next, Split, Residue}
use Rattle.ac_cert.specs.declared.types.Tree.{Tree, roll-Tree}
use Rattle.ac_cert.specs.declared.ends.Absurd.{Absurd}
use Rattle.ac_cert.specs.AcceptedTrees.{Accepts, AcceptsEach, absurd_refusals, after_steps}
use Rattle.ac_cert.specs.AbsurdLaw.{absurd_sound}
use Rattle.ac_cert.specs.Rules.{after_step, both_sides, is_partition}
use Rattle.ac_cert.specs.CertificateFaults.{Fault, Refusal, Onward, later, split_fault, path_fault, fault_of, tree_fault, kids_fault, size_of}
use Rattle.ac_cert.proofs.Kids.{fault-at-residue}
use Rattle.ac_cert.proofs.Soundness.{tree-covered, end-of_cover}

two-none : (o : Option (Conj × Conj)) (k : ℕ) (left right : Conj → Fault) (a b : Conj) → o ≡ Some (a, b) → left a ≡ None → right b ≡ None → split_fault o k left right ≡ None
two-none o k left right a b e l r = rw (e, l) r

bare : {E : Type 0} (s : List Step) (x : Next E) (R : Refusal E) (c : Conj) (k : ℕ) → s ≡ [] → tree_fault (roll-Tree E (record { steps = s; next = x })) R c k ≡ fault_of x R c k
bare s x R c k empty = ap (λ (steps : List Step). path_fault steps (fault_of x R) c k) empty

pub split-accepted : {E : Type 0} (s : List Step) (e : Affine) (l r : Box (Tree E) Global) (R : Refusal E) (c a b : Conj) → s ≡ [] → both_sides e c ≡ Some (a, b) → Accepts l.value R a → Accepts r.value R b → Accepts (roll-Tree E (record { steps = s; next = Split e l r })) R c
split-accepted s e l r R c a b empty is al ar k =
    bare s (Split e l r) R c k empty
    ∙ two-none (both_sides e c) k (λ a. tree_fault l.value R a (later k 1)) (λ b. tree_fault r.value R b (later (later k 1) (size_of l.value))) a b is (al _) (ar _)

each-none : {E : Type 0} (ts : List (Tree E)) (R : Refusal E) (m : ℤ) (e : Affine) (i : ℕ) (c : Conj) (k : ℕ) → AcceptsEach ts R m e i c → kids_fault ts R m e i c k ≡ None
each-none [] R m e i c k h = refl
each-none (t ∷ ts) R m e i c k h = rw (h.0 k) (each-none ts R m e (i + 1) c (later k (size_of t)) h.1)

pub residue-accepted : {E : Type 0} (s : List Step) (m : ℤ) (e : Affine) (kids : Vec (Tree E) Global) (R : Refusal E) (c : Conj) → s ≡ [] → is_partition m e c.columns (length kids.items) ≡ true → AcceptsEach kids.items R m e 0 c → Accepts (roll-Tree E (record { steps = s; next = Residue m e kids })) R c
residue-accepted s m e kids R c empty is each k =
    bare s (Residue m e kids) R c k empty
    ∙ fault-at-residue (Residue m e kids) R c k m e kids refl
    ∙ rw is (each-none kids.items R m e 0 c (later k 1) each)

-- a path of steps that all stand goes on behind them
pub steps-on : (steps further : List Step) (go : Onward) (c d : Conj) → after_steps steps c ≡ Some d → ((k : ℕ) → path_fault further go d k ≡ None) → (k : ℕ) → path_fault (steps ++ further) go c k ≡ None
steps-on [] further go c d e h k = ap (λ (x : Conj). path_fault further go x k) (some-is c d e) ∙ h k
steps-on (s ∷ steps) further go c d e h k =
    let t = bind-some (after_step s c) (after_steps steps) d e in
    rw t.1 (steps-on steps further go t.0 d t.2 h (later k 1))

pub behind-accepted : {E : Type 0} (steps s f : List Step) (x : Next E) (R : Refusal E) (c d : Conj) → s ≡ steps ++ f → after_steps steps c ≡ Some d → Accepts (roll-Tree E (record { steps = f; next = x })) R d → Accepts (roll-Tree E (record { steps = s; next = x })) R c
behind-accepted steps s f x R c d is e h k =
    ap (λ (y : List Step). path_fault y (fault_of x R) c k) is
    ∙ steps-on steps f (fault_of x R) c d e h k

-- an accepted tree of absurd ends and a point contradict each other
pub accepted-empty : (t : Tree Absurd) (c : Conj) → IsWellMade c → tree_fault t absurd_refusals c 0 ≡ None → (p : List ℤ) → IsPoint c p → ⊥
accepted-empty t c w h p at =
    (end-of_cover t (λ e q. ⊥) c p (tree-covered t absurd_refusals (λ e q. ⊥) (λ e d q r wd aq. absurd_sound e.row d q r aq) c 0 w h p at)).3
