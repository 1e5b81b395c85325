-- An item leaves what is due behind the next plan or copy.
use Rattle.std.proofs.Common.{◌≡◌, ℕ, zero, suc, ◌-◌, ◌-ℤ◌, pos, List, ◌∷◌, ◌++◌, map, length, Bool, true, false, nat_eq, slice_get, Option, Some, None, refl, sym, ap, ◌∙◌, append_assoc}
use Rattle.std.specs.Prelude.{unsigned_abs}
use Rattle.ac_forms.specs.declared.conj.Conj.{Conj}
use Rattle.ac_cert.specs.AbsurdEnd.{absurd_refusal}
use Rattle.ac_cert.specs.Rules.{after_step, both_sides, has_class, rule_of}
use Rattle.ac_cert.specs.declared.types.Rule.{Rule}
use Rattle.ac_cert.specs.declared.types.Rule.TheVariants as rule
use Rattle.ac_claims_paths.specs.PathSteps.{Pairing, at_rows, branches}
use Rattle.ac_claims_paths.specs.CopyKills.{case_width, chosen, copy_of, is_killed}
use Rattle.ac_claims_paths.specs.declared.path.Assumed.{Assumed}
use Rattle.ac_claims_paths.specs.declared.path.Path.{Path}
use Rattle.ac_claims.specs.ProofEnds.{is_hit, is_number, is_initial}
use Rattle.ac_claims.specs.Machine.{Due, PlanAt, Choices, Taken, Refused, Onto, onto_if, onto_some, onto_unless, classes, settled, copied, choose, take_at, take_item}
use Rattle.ac_claims.specs.declared.item.Item.{Item}
use Rattle.ac_claims.specs.declared.item.Item.TheVariants as item
use Rattle.ac_claims.specs.declared.types.Claim.{Claim}

-- the same, and others behind what is due then
abbrev pub beside : List Due → Taken → Taken
beside es (Refused k r) = Refused k r
beside es (Onto due) = Onto (due ++ es)

beside_some : {A : Type 0} (es : List Due) (o : Option A) (k : ℕ) (r : Rule) (go more : A → Taken) → ((x : A) → more x ≡ beside es (go x)) → onto_some o k r more ≡ beside es (onto_some o k r go)
beside_some es None k r go more f = refl
beside_some es (Some x) k r go more f = f x

beside_if : (es : List Due) (b : Bool) (k : ℕ) (r : Rule) (due : List Due) → onto_if b k r (due ++ es) ≡ beside es (onto_if b k r due)
beside_if es true k r due = refl
beside_if es false k r due = refl

beside_front : (es : List Due) (b : Bool) (k : ℕ) (r : Rule) (front due : List Due) → onto_if b k r (front ++ (due ++ es)) ≡ beside es (onto_if b k r (front ++ due))
beside_front es b k r front due = ap (onto_if b k r) (sym (append_assoc front due es)) ∙ beside_if es b k r (front ++ due)

beside_unless : (es : List Due) (o : Option Rule) (k : ℕ) (due : List Due) → onto_unless o k (due ++ es) ≡ beside es (onto_unless o k due)
beside_unless es None k due = refl
beside_unless es (Some r) k due = refl

beside_settled : (es : List Due) (params first n : ℕ) (h : Path) (a : Assumed) (c : Conj) (due : List Due) → settled params first n h a c (due ++ es) ≡ beside es (settled params first n h a c due)
beside_settled es params first zero h a c due = beside_if es (is_killed params h.conj.rows a c) first rule.Killed due
beside_settled es params first (suc n) h a c due = refl

beside_copied : (es : List Due) (g : Pairing) (stmt piece : ℕ) (after : Option ℕ) (before count k : ℕ) (h : Path) (o : Option Assumed) (due : List Due) → copied g stmt piece after before count k h o (due ++ es) ≡ beside es (copied g stmt piece after before count k h o due)
beside_copied es g stmt piece after before count k h None due = refl
beside_copied es g stmt piece after before count k h (Some a) due =
    beside_some es (copy_of g a stmt piece after before) k rule.Killed (λ c. settled g.params k count h a c due) (λ c. settled g.params k count h a c (due ++ es)) (λ c. beside_settled es g.params k count h a c due)

beside_at : (es : List Due) (g : Pairing) (cs : List Claim) (x : Item) (k : ℕ) (h : Path) (due : List Due) → take_at g cs x k h (due ++ es) ≡ beside es (take_at g cs x k h due)
beside_at es g cs (item.Step s) k h due = beside_some es (after_step s h.conj) k (rule_of s) (λ c. Onto (PlanAt (at_rows h c) ∷ due)) (λ c. Onto (PlanAt (at_rows h c) ∷ (due ++ es))) (λ c. refl)
beside_at es g cs (item.Split f) k h due =
    beside_some es (both_sides f h.conj) k rule.Split (λ (s : Conj × Conj). Onto (PlanAt (at_rows h s.0) ∷ PlanAt (at_rows h s.1) ∷ due)) (λ (s : Conj × Conj). Onto (PlanAt (at_rows h s.0) ∷ PlanAt (at_rows h s.1) ∷ (due ++ es))) (λ s. refl)
beside_at es g cs (item.Residue m f) k h due = beside_front es (has_class m f (m -ℤ pos 1) h.conj.columns) k rule.Residue (classes m f 0 (unsigned_abs m) h) due
beside_at es g cs (item.Go order count) k h due =
    beside_some es (branches g order h) k rule.Go (λ hs. onto_if (nat_eq count (length hs)) k rule.Go (map PlanAt hs ++ due)) (λ hs. onto_if (nat_eq count (length hs)) k rule.Go (map PlanAt hs ++ (due ++ es)))
    (λ hs. beside_front es (nat_eq count (length hs)) k rule.Go (map PlanAt hs) due)
beside_at es g cs (item.Absurd n) k h due = beside_unless es (absurd_refusal n h.conj) k due
beside_at es g cs (item.Hit c) k h due = beside_if es (is_hit g h (slice_get cs c)) k rule.Hit due
beside_at es g cs item.Number k h due = beside_if es (is_number g h) k rule.Number due
beside_at es g cs item.Initial k h due = beside_if es (is_initial g h) k rule.Initial due
beside_at es g cs (item.Killed stmt piece after before count) k h due = beside_copied es g stmt piece after before count k h h.last due
beside_at es g cs _ k h due = refl

beside_choose : (es : List Due) (params : ℕ) (x : Item) (k first n : ℕ) (h : Path) (a : Assumed) (c : Conj) (due : List Due) → choose params x k first n h a c (due ++ es) ≡ beside es (choose params x k first n h a c due)
beside_choose es params (item.Choice z) k first n h a c due =
    beside_some es (chosen h.conj.columns (case_width params a) z c) k rule.Killed (λ d. settled params first (n - 1) h a d due) (λ d. settled params first (n - 1) h a d (due ++ es)) (λ d. beside_settled es params first (n - 1) h a d due)
beside_choose es params _ k first n h a c due = refl

beside_item : (es : List Due) (g : Pairing) (cs : List Claim) (x : Item) (k : ℕ) (d : Due) (due : List Due) → take_item g cs x k ((d ∷ due) ++ es) ≡ beside es (take_item g cs x k (d ∷ due))
beside_item es g cs x k (PlanAt h) due = beside_at es g cs x k h due
beside_item es g cs x k (Choices first n h a c) due = beside_choose es g.params x k first n h a c due

pub item_beside : (es : List Due) (g : Pairing) (cs : List Claim) (x : Item) (k : ℕ) (ds : List Due) (some : (d : Due) × (due : List Due) × (ds ≡ d ∷ due)) → take_item g cs x k (ds ++ es) ≡ beside es (take_item g cs x k ds)
item_beside es g cs x k ds some = ap (λ z. take_item g cs x k (z ++ es)) some.2 ∙ beside_item es g cs x k some.0 some.1 ∙ ap (λ z. beside es (take_item g cs x k z)) (sym some.2)
