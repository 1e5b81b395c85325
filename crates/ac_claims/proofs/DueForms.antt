-- What is due stays well made.
use Rattle.std.proofs.Common.{◌≡◌, ℕ, zero, suc, ◌+◌, ◌-◌, ◌≤◌, ℤ, pos, ◌-ℤ◌, ◌≤ℤ◌, nat_eq, nat_le, length, List, [], ◌∷◌, ◌++◌, map, slice_get, Bool, true, false, Option, Some, None, refl, sym, subst, arith}
use Rattle.std.specs.Prelude.{Ok, unsigned_abs}
use Rattle.std.specs.List.{AllByRecursion}
use Rattle.ac_forms.specs.Affine.{Affine}
use Rattle.ac_forms.specs.Rows.{AreRowsOver, IsRowOver, IsWellMade}
use Rattle.ac_forms.specs.declared.conj.Conj.{Conj}
use Rattle.ac_forms.specs.declared.row.Row.{Row}
use Rattle.ac_cert.proofs.Behind.{step-onto}
use Rattle.ac_cert.specs.AbsurdEnd.{absurd_refusal}
use Rattle.ac_base.proofs.Options.{map-some}
use Rattle.ac_cert.proofs.StepRules.{step-keeps, sides-keep, class-over}
use Rattle.ac_cert.specs.Rules.{after_step, both_sides, class, has_class, rule_of, side_rows, with_row}
use Rattle.ac_cert.specs.declared.types.Rule.{Rule}
use Rattle.ac_cert.specs.declared.types.Rule.TheVariants as rule
use Rattle.ac_cert.specs.declared.types.Step.{Step}
use Rattle.ac_claims_paths.specs.WellFormedPaths.{AllFormed, HasModuli, IsFormed}
use Rattle.ac_claims_paths.specs.PathSteps.{Pairing, at_rows, branches, model_of}
use Rattle.ac_claims_paths.specs.CopyKills.{case_width, chosen, copy_of, is_killed}
use Rattle.ac_claims_paths.specs.declared.path.Assumed.{Assumed}
use Rattle.ac_claims_paths.specs.declared.path.Path.{Path}
use Rattle.ac_claims_paths.specs.declared.path.Side.{Side}
use Rattle.ac_claims_paths.specs.declared.path.Side.TheVariants.{Left, Right}
use Rattle.ac_claims_paths.proofs.CopySteps.{copy_made, chosen_result}
use Rattle.ac_claims_paths.proofs.Forming.{branches_formed}
use Rattle.ac_claims_paths.proofs.OnPaths.{formed_more}
use Rattle.ac_claims.specs.Dues.{IsDueFormed, AreDueFormed}
use Rattle.ac_claims.specs.ProofEnds.{is_hit, is_number, is_initial}
use Rattle.ac_claims.specs.Machine.{Due, PlanAt, Choices, Taken, Refused, Onto, onto_if, onto_some, onto_unless, classes, settled, copied, choose, take_at, take_item}
use Rattle.ac_claims.specs.declared.item.Item.{Item}
use Rattle.ac_claims.specs.declared.item.Item.TheVariants as item
use Rattle.ac_claims.specs.declared.types.Claim.{Claim}
use Rattle.ac_claims.proofs.Residues.{class_parts}

-- lists one behind the other
pub all_both : {X : Type 0} (P : X → Type 0) (xs ys : List X) → AllByRecursion P xs → AllByRecursion P ys → AllByRecursion P (xs ++ ys)
all_both P [] ys a b = b
all_both P (x ∷ xs) ys a b = (a.0, all_both P xs ys a.1 b)

pub all_parts : {X : Type 0} (P : X → Type 0) (xs ys : List X) → AllByRecursion P (xs ++ ys) → AllByRecursion P xs × AllByRecursion P ys
all_parts P [] ys a = (tt, a)
all_parts P (x ∷ xs) ys a = let r = all_parts P xs ys a.1 in ((a.0, r.0), r.1)

-- a row more, and less
rows_front : (n : ℕ) (rows : List Row) (r : Row) → AreRowsOver n (rows ++ r ∷ []) → AreRowsOver n rows × IsRowOver n r
rows_front n [] r a = (tt, a.0)
rows_front n (s ∷ rows) r a = let b = rows_front n rows r a.1 in ((a.0, b.0), b.1)

pub made_front : (c : Conj) (r : Row) → IsWellMade (with_row c r) → IsWellMade c × IsRowOver c.columns r
made_front c r w = rows_front c.columns c.rows r w

pub formed_back : (params : ℕ) (h : Path) (r : Row) → IsFormed params (at_rows h (with_row h.conj r)) → IsFormed params h
formed_back params h r i = record { made = (made_front h.conj r i.made).0; base_in = i.base_in; left_in = i.left_in; right_in = i.right_in; last_in = i.last_in }

-- the children of steps and branches
step_formed : (params : ℕ) (s : Step) (h : Path) (c : Conj) → after_step s h.conj ≡ Some c → IsFormed params h → IsFormed params (at_rows h c)
step_formed params s h c e i = formed_more params h c i (step-keeps s h.conj c e i.made).made (step-onto s h.conj c e).columns

pub classes_formed : (params : ℕ) (m : ℤ) (f : Affine) (i n : ℕ) (h : Path) → pos 1 ≤ℤ m → nat_le (length f.coefs) h.conj.columns ≡ true → IsFormed params h → AreDueFormed params (classes m f i n h)
classes_formed params m f i zero h l w a = tt
classes_formed params m f i (suc n) h l w a = (formed_more params h (class m f (pos i) h.conj) a (class-over m f (pos i) h.conj l w a.made) (omega arith), classes_formed params m f (i + 1) n h l w a)

plans_formed : (params : ℕ) (hs : List Path) → AllFormed params hs → AreDueFormed params (map PlanAt hs)
plans_formed params [] a = tt
plans_formed params (h ∷ hs) a = (a.0, plans_formed params hs a.1)

pub side_moduli : (g : Pairing) (side : Side) → HasModuli g.left → HasModuli g.right → HasModuli (model_of g side)
side_moduli g Left l r = l
side_moduli g Right l r = r

side_columns : (f : Affine) (c : Conj) (s : Conj × Conj) → both_sides f c ≡ Some s → (c.columns ≤ s.0.columns) × (c.columns ≤ s.1.columns)
side_columns f c s e =
    let m = map-some (side_rows f c.columns) (λ (r : Row × Row). (with_row c r.0, with_row c r.1)) s e in
    rw m.2 (omega arith, omega arith)

-- what an item comes to
abbrev pub IsTakenFormed : ℕ → Taken → Type 0
IsTakenFormed params (Refused k r) = Unit {0}
IsTakenFormed params (Onto due) = AreDueFormed params due

some_formed : {A : Type 0} (params : ℕ) (o : Option A) (k : ℕ) (r : Rule) (go : A → Taken) → ((x : A) → o ≡ Some x → IsTakenFormed params (go x)) → IsTakenFormed params (onto_some o k r go)
some_formed params None k r go f = tt
some_formed params (Some x) k r go f = f x refl

if_formed : (params : ℕ) (b : Bool) (k : ℕ) (r : Rule) (due : List Due) → (b ≡ true → AreDueFormed params due) → IsTakenFormed params (onto_if b k r due)
if_formed params true k r due f = f refl
if_formed params false k r due f = tt

unless_formed : (params : ℕ) (o : Option Rule) (k : ℕ) (due : List Due) → AreDueFormed params due → IsTakenFormed params (onto_unless o k due)
unless_formed params None k due d = d
unless_formed params (Some r) k due d = tt

settled_formed : (params first n : ℕ) (h : Path) (a : Assumed) (c : Conj) (due : List Due) → IsFormed params h → IsWellMade c → AreDueFormed params due → IsTakenFormed params (settled params first n h a c due)
settled_formed params first zero h a c due i w d = if_formed params (is_killed params h.conj.rows a c) first rule.Killed due (λ _. d)
settled_formed params first (suc n) h a c due i w d = ((i, w), d)

copied_formed : (g : Pairing) (stmt piece : ℕ) (after : Option ℕ) (before count k : ℕ) (h : Path) (o : Option Assumed) (due : List Due) → HasModuli g.left → HasModuli g.right → IsFormed g.params h → AreDueFormed g.params due → IsTakenFormed g.params (copied g stmt piece after before count k h o due)
copied_formed g stmt piece after before count k h None due l r i d = tt
copied_formed g stmt piece after before count k h (Some a) due l r i d =
    some_formed g.params (copy_of g a stmt piece after before) k rule.Killed (λ c. settled g.params k count h a c due)
    (λ c e. settled_formed g.params k count h a c due i (copy_made g a stmt piece after before c (side_moduli g a.side l r) e) d)

at_formed : (g : Pairing) (cs : List Claim) (x : Item) (k : ℕ) (h : Path) (due : List Due) → HasModuli g.left → HasModuli g.right → IsFormed g.params h → AreDueFormed g.params due → IsTakenFormed g.params (take_at g cs x k h due)
at_formed g cs (item.Step s) k h due l r i d = some_formed g.params (after_step s h.conj) k (rule_of s) (λ c. Onto (PlanAt (at_rows h c) ∷ due)) (λ c e. (step_formed g.params s h c e i, d))
at_formed g cs (item.Split f) k h due l r i d =
    some_formed g.params (both_sides f h.conj) k rule.Split (λ (s : Conj × Conj). Onto (PlanAt (at_rows h s.0) ∷ PlanAt (at_rows h s.1) ∷ due))
    (λ s e. let w = sides-keep f h.conj s.0 s.1 e i.made in (formed_more g.params h s.0 i w.0 (side_columns f h.conj s e).0, (formed_more g.params h s.1 i w.1 (side_columns f h.conj s e).1, d)))
at_formed g cs (item.Residue m f) k h due l r i d =
    if_formed g.params (has_class m f (m -ℤ pos 1) h.conj.columns) k rule.Residue (classes m f 0 (unsigned_abs m) h ++ due)
    (λ e. let t = class_parts m f (m -ℤ pos 1) h.conj.columns e in all_both (IsDueFormed g.params) (classes m f 0 (unsigned_abs m) h) due (classes_formed g.params m f 0 (unsigned_abs m) h t.0 t.1 i) d)
at_formed g cs (item.Go order count) k h due l r i d =
    some_formed g.params (branches g order h) k rule.Go (λ hs. onto_if (nat_eq count (length hs)) k rule.Go (map PlanAt hs ++ due))
    (λ hs e. if_formed g.params (nat_eq count (length hs)) k rule.Go (map PlanAt hs ++ due) (λ _. all_both (IsDueFormed g.params) (map PlanAt hs) due (plans_formed g.params hs (branches_formed g order h hs l r i e)) d))
at_formed g cs (item.Absurd n) k h due l r i d = unless_formed g.params (absurd_refusal n h.conj) k due d
at_formed g cs (item.Hit c) k h due l r i d = if_formed g.params (is_hit g h (slice_get cs c)) k rule.Hit due (λ _. d)
at_formed g cs item.Number k h due l r i d = if_formed g.params (is_number g h) k rule.Number due (λ _. d)
at_formed g cs item.Initial k h due l r i d = if_formed g.params (is_initial g h) k rule.Initial due (λ _. d)
at_formed g cs (item.Killed stmt piece after before count) k h due l r i d = copied_formed g stmt piece after before count k h h.last due l r i d
at_formed g cs _ k h due l r i d = (i, d)

choose_formed : (params : ℕ) (x : Item) (k first n : ℕ) (h : Path) (a : Assumed) (c : Conj) (due : List Due) → IsFormed params h → IsWellMade c → AreDueFormed params due → IsTakenFormed params (choose params x k first n h a c due)
choose_formed params (item.Choice z) k first n h a c due i w d =
    some_formed params (chosen h.conj.columns (case_width params a) z c) k rule.Killed (λ b. settled params first (n - 1) h a b due)
    (λ b e. settled_formed params first (n - 1) h a b due i (chosen_result h.conj.columns (case_width params a) z c (Ok (Some b)) w (sym e)) d)
choose_formed params _ k first n h a c due i w d = ((i, w), d)

take_formed : (g : Pairing) (cs : List Claim) (x : Item) (k : ℕ) (due : List Due) → HasModuli g.left → HasModuli g.right → AreDueFormed g.params due → IsTakenFormed g.params (take_item g cs x k due)
take_formed g cs x k [] l r d = tt
take_formed g cs x k (PlanAt h ∷ due) l r d = at_formed g cs x k h due l r d.0 d.1
take_formed g cs x k (Choices first n h a c ∷ due) l r d = choose_formed g.params x k first n h a c due d.0.0 d.0.1 d.1

pub taken_formed : (g : Pairing) (cs : List Claim) (x : Item) (k : ℕ) (old new : List Due) → HasModuli g.left → HasModuli g.right → AreDueFormed g.params old → take_item g cs x k old ≡ Onto new → AreDueFormed g.params new
taken_formed g cs x k old new l r d e = subst (IsTakenFormed g.params) e (take_formed g cs x k old l r d)
