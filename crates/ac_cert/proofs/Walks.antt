-- One step along a path.
use Rattle.std.proofs.Common.{◌≡◌, ℕ, ◌+◌, ◌<◌, ◌≤◌, List, ◌∷◌, length, drop, get_or, Option, Some, None, sym, ap, ◌∙◌}
use Rattle.std.specs.Prelude.{option_and_then}
use Rattle.std.proofs.lemmas.List.{at_drop_more, at_drop_all}
use Rattle.ac_forms.specs.declared.conj.Conj.{Conj}
use Rattle.ac_cert.specs.declared.types.Rule.{Rule}
use Rattle.ac_cert.specs.declared.types.Step.{Step}
use Rattle.ac_cert.specs.declared.types.EndStop.{EndStop}
use Rattle.ac_cert.specs.declared.types.EndStop.TheVariants.{Refused, Memory}
use Rattle.ac_cert.specs.AcceptedTrees.{after_steps}
use Rattle.ac_cert.specs.Rules.{after_step, rule_of}
use Rattle.ac_cert.specs.CertificateFaults.{Fault, Onward, later, step_fault, path_fault}
use Rattle.ac_cert.specs.CheckStops.{Refuses, at_node, Fails}

step-stops : (o : Option Conj) (r : Rule) (stop : EndStop) (k : ℕ) (go : Conj → Fault) → Refuses r stop (o ≡ None) → Fails (step_fault o r k go) (at_node stop k)
step-stops o r (Refused s) k go b = ap (λ (x : Option Conj). step_fault x r k go) b.0 ∙ ap (λ (x : Rule). Some (k, x)) (sym b.1)
step-stops o r (Memory e) k go b = tt

pub path-ok : (steps : List Step) (i : ℕ) (s : Step) (c : Conj) (k : ℕ) (d : Conj) → i < length steps → s ≡ get_or steps i s → after_step s c ≡ Some d → (go : Onward) → path_fault (drop i steps) go c k ≡ path_fault (drop (i + 1) steps) go d (later k 1)
path-ok steps i s c k d l e b go =
    at_drop_more (λ (x : List Step). path_fault x go c k) steps i s l
    ∙ ap (λ (x : Step). path_fault (x ∷ drop (i + 1) steps) go c k) (sym e)
    ∙ ap (λ (x : Option Conj). step_fault x (rule_of s) k (λ d. path_fault (drop (i + 1) steps) go d (later k 1))) b

pub path-stops : (steps : List Step) (i : ℕ) (s : Step) (c : Conj) (k : ℕ) (stop : EndStop) (f : Fault) → i < length steps → s ≡ get_or steps i s → Refuses (rule_of s) stop (after_step s c ≡ None) → (go : Onward) → f ≡ path_fault (drop i steps) go c k → Fails f (at_node stop k)
path-stops steps i s c k stop f l e b go h =
    let e : f ≡ step_fault (after_step s c) (rule_of s) k (λ d. path_fault (drop (i + 1) steps) go d (later k 1)) =
    h ∙ at_drop_more (λ (x : List Step). path_fault x go c k) steps i s l
    ∙ ap (λ (x : Step). path_fault (x ∷ drop (i + 1) steps) go c k) (sym e) in
    rw e (step-stops (after_step s c) (rule_of s) stop k (λ d. path_fault (drop (i + 1) steps) go d (later k 1)) b)

pub path-end : (steps : List Step) (i : ℕ) (c : Conj) (k : ℕ) (go : Onward) → length steps ≤ i → path_fault (drop i steps) go c k ≡ go c k
path-end steps i c k go l = at_drop_all (λ (x : List Step). path_fault x go c k) steps i l

pub rows-ok : (steps : List Step) (i : ℕ) (s : Step) (c d : Conj) → i < length steps → s ≡ get_or steps i s → after_step s c ≡ Some d → after_steps (drop i steps) c ≡ after_steps (drop (i + 1) steps) d
rows-ok steps i s c d l e b =
    at_drop_more (λ (x : List Step). after_steps x c) steps i s l
    ∙ ap (λ (x : Step). after_steps (x ∷ drop (i + 1) steps) c) (sym e)
    ∙ ap (λ (x : Option Conj). option_and_then (after_steps (drop (i + 1) steps)) x) b

pub rows-end : (steps : List Step) (i : ℕ) (c : Conj) → length steps ≤ i → after_steps (drop i steps) c ≡ Some c
rows-end steps i c l = at_drop_all (λ (x : List Step). after_steps x c) steps i l
