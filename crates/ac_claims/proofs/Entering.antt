-- The plans under way, and the next thing that is due in them.
use Rattle.std.proofs.Common.{◌≡◌, ◌≢◌, ℕ, ◌+◌, ◌-◌, List, [], ◌∷◌, ◌++◌, refl, sym, ap, ◌∙◌, append_assoc, append-nil, subst}
use Rattle.std.specs.Prelude.{Result, Ok, Err, ◌↔◌, unsigned_abs}
use Rattle.std.specs.List.{AllByRecursion}
use Rattle.ac_forms.specs.declared.row.Row.{Row}
use Rattle.ac_cert.specs.Rules.{class, with_row}
use Rattle.ac_claims_paths.specs.WellFormedPaths.{IsFormed}
use Rattle.ac_claims_paths.specs.PathSteps.{Pairing, at_rows}
use Rattle.ac_claims_paths.specs.declared.path.Branch.{Branch}
use Rattle.ac_claims_paths.specs.declared.path.Path.{Path}
use Rattle.ac_claims.specs.Dues.{IsDueFormed, AreDueFormed}
use Rattle.ac_claims.specs.StackEntries.{AreClasses, AreEntries, HasDues, IsOngoing, Settles, SettlesAll, all_dues, branches_of, classes_of, due_at, due_of, dues, path_at}
use Rattle.ac_claims.specs.Machine.{Due, PlanAt, Choices, Taken, Onto, classes, take_item}
use Rattle.ac_claims.specs.declared.entry.Awaited.{Awaited}
use Rattle.ac_claims.specs.declared.entry.Awaited.TheVariants as awaited
use Rattle.ac_claims.specs.declared.entry.Classes.{Classes}
use Rattle.ac_claims.specs.declared.entry.Entry.{Entry}
use Rattle.ac_claims.specs.declared.entry.Ongoing.{Ongoing}
use Rattle.ac_claims.specs.declared.entry.TakeStop.{TakeStop}
use Rattle.ac_claims.specs.declared.entry.TakeStop.TheVariants as stop
use Rattle.ac_claims.specs.declared.item.Item.{Item}
use Rattle.ac_claims.specs.declared.types.Claim.{Claim}
use Rattle.ac_claims.proofs.BranchSteps.{some_branch}
use Rattle.ac_claims.proofs.DueForms.{all_parts, classes_formed, formed_back}
use Rattle.ac_claims.proofs.Framing.{beside, item_beside}
use Rattle.ac_claims.proofs.Residues.{class_parts, classes_split}
use Rattle.ac_claims.proofs.StackSteps.{all_front, all_last, popped, popped_due, popped_entries, row_dues}
use Rattle.ac_claims_paths.proofs.Notes.{all_push}

-- something is due by each entry
some_due : (h : Path) (a : Awaited) → HasDues h.conj.columns a → (d : Due) × (ds : List Due) × (due_at h a ≡ d ∷ ds)
some_due h awaited.Plan i = (PlanAt h, [], refl)
some_due h (awaited.Side row) i = (PlanAt (at_rows h (with_row h.conj row)), [], refl)
some_due h (awaited.Classes c) i = (PlanAt (at_rows h (class c.modulus c.form c.next h.conj)), classes c.modulus c.form (unsigned_abs c.next + 1) (unsigned_abs c.modulus - (unsigned_abs c.next + 1)) h, classes_split h h.conj.columns c i)
some_due h (awaited.Branches left) i = some_branch h left i
some_due h (awaited.Choosing c) i = (Choices c.line c.left h c.assumed c.copy, [], refl)

behind_some : (xs : List Due) (y : Due) (ys : List Due) → (d : Due) × (ds : List Due) × (xs ++ (y ∷ ys) ≡ d ∷ ds)
behind_some [] y ys = (y, ys, refl)
behind_some (x ∷ xs) y ys = (x, xs ++ (y ∷ ys), refl)

pub some_dues : (rows : List Row) (es : List Entry) → AllByRecursion (λ (e : Entry). HasDues e.prefix.columns e.awaited) es → es ≢ [] → (d : Due) × (ds : List Due) × (dues rows es ≡ d ∷ ds)
some_dues rows [] a n = absurd (n refl)
some_dues rows (e ∷ es) a n =
    let s = some_due (path_at rows e.prefix) e.awaited a.0 in
    let b = behind_some (dues rows es) s.0 s.1 in
    (b.0, b.1, ap (λ z. dues rows es ++ z) s.2 ∙ b.2)

-- nothing is due where no plan is under way, and only there
not_empty : (xs ys : List Due) (some : (d : Due) × (ds : List Due) × (ys ≡ d ∷ ds)) → xs ++ ys ≡ [] → ⊥
not_empty xs ys some e =
    let b = behind_some xs some.0 some.1 in
    let c : b.0 ∷ b.1 ≡ [] = sym b.2 ∙ ap (λ z. xs ++ z) (sym some.2) ∙ e in
    cc

none_ongoing : (ps : List Ongoing) → AllByRecursion IsOngoing ps → all_dues ps ≡ [] → ps ≡ []
none_ongoing [] a e = refl
none_ongoing (p ∷ ps) a e = absurd (not_empty (all_dues ps) (dues p.rows p.entries) (some_dues p.rows p.entries a.0.entries.due a.0.some) e)

pub empty_is : (ps : List Ongoing) → AllByRecursion IsOngoing ps → (ps ≡ []) ↔ (all_dues ps ≡ [])
empty_is ps a = ((λ e. ap all_dues e), none_ongoing ps a)

-- a plan is put onto others, and taken off
all_dues_push : (ps : List Ongoing) (p : Ongoing) → all_dues (ps ++ p ∷ []) ≡ dues p.rows p.entries ++ all_dues ps
all_dues_push [] p = sym (append-nil (dues p.rows p.entries))
all_dues_push (q ∷ ps) p = ap (λ z. z ++ dues q.rows q.entries) (all_dues_push ps p) ∙ append_assoc (dues p.rows p.entries) (all_dues ps) (dues q.rows q.entries)

pub all_dues_with : (old new : List Ongoing) (p : Ongoing) → new ≡ old ++ p ∷ [] → all_dues new ≡ dues p.rows p.entries ++ all_dues old
all_dues_with old new p n = ap all_dues n ∙ all_dues_push old p

pub ongoing_with : (old new : List Ongoing) (p : Ongoing) → new ≡ old ++ p ∷ [] → AllByRecursion IsOngoing old → IsOngoing p → AllByRecursion IsOngoing new
ongoing_with old new p n a i = subst (AllByRecursion IsOngoing) (sym n) (all_push IsOngoing old p a i)

pub ongoing_front : (old rest : List Ongoing) (p : Ongoing) → old ≡ rest ++ p ∷ [] → AllByRecursion IsOngoing old → AllByRecursion IsOngoing rest
ongoing_front old rest p n a = all_front IsOngoing rest p (subst (AllByRecursion IsOngoing) n a)

pub ongoing_last : (old rest : List Ongoing) (p : Ongoing) → old ≡ rest ++ p ∷ [] → AllByRecursion IsOngoing old → IsOngoing p
ongoing_last old rest p n a = all_last IsOngoing rest p (subst (AllByRecursion IsOngoing) n a)

pub formed_last : (params : ℕ) (old rest : List Ongoing) (p : Ongoing) → old ≡ rest ++ p ∷ [] → AreDueFormed params (all_dues old) → AreDueFormed params (dues p.rows p.entries)
formed_last params old rest p n f = (all_parts (IsDueFormed params) (dues p.rows p.entries) (all_dues rest) (subst (AreDueFormed params) (all_dues_with rest old p n) f)).0

-- an item that is taken in the last plan
last_taken : (g : Pairing) (cs : List Claim) (x : Item) (k : ℕ) (old rest : List Ongoing) (p : Ongoing) → old ≡ rest ++ p ∷ [] → AllByRecursion IsOngoing old → take_item g cs x k (all_dues old) ≡ beside (all_dues rest) (take_item g cs x k (dues p.rows p.entries))
last_taken g cs x k old rest p n a =
    let i = ongoing_last old rest p n a in
    ap (take_item g cs x k) (all_dues_with rest old p n)
    ∙ item_beside (all_dues rest) g cs x k (dues p.rows p.entries) (some_dues p.rows p.entries i.entries.due i.some)

pub last_goes_on : (g : Pairing) (cs : List Claim) (x : Item) (k : ℕ) (old rest new : List Ongoing) (p : Ongoing) (rows : List Row) (es : List Entry) → old ≡ rest ++ p ∷ [] → AllByRecursion IsOngoing old → take_item g cs x k (dues p.rows p.entries) ≡ Onto (dues rows es) → all_dues new ≡ dues rows es ++ all_dues rest
    → take_item g cs x k (all_dues old) ≡ Onto (all_dues new)
last_goes_on g cs x k old rest new p rows es n a t d = last_taken g cs x k old rest p n a ∙ ap (beside (all_dues rest)) t ∙ ap Onto (sym d)

pub last_stops : (g : Pairing) (cs : List Claim) (x : Item) (k : ℕ) (old rest new : List Ongoing) (p : Ongoing) (es : List Entry) (e : TakeStop) → old ≡ rest ++ p ∷ [] → AllByRecursion IsOngoing old → Settles (take_item g cs x k (dues p.rows p.entries)) es (Err e)
    → SettlesAll (take_item g cs x k (all_dues old)) new (Err e)
last_stops g cs x k old rest new p es (stop.Refused f) n a s = last_taken g cs x k old rest p n a ∙ ap (beside (all_dues rest)) s
last_stops g cs x k old rest new p es (stop.Memory e) n a s = tt

-- where nothing is due
pub none_taken : (g : Pairing) (cs : List Claim) (x : Item) (k : ℕ) (old new : List Ongoing) → old ≡ [] → new ≡ [] → take_item g cs x k (all_dues old) ≡ Onto (all_dues new)
none_taken g cs x k old new o n = ap (λ (z : List Ongoing). take_item g cs x k (all_dues z)) o ∙ ap (λ (z : List Ongoing). Onto (all_dues z)) (sym n)

pub settles_none : (g : Pairing) (cs : List Claim) (x : Item) (k : ℕ) (rows : List Row) (old new : List Entry) → old ≡ [] → new ≡ [] → AreEntries rows old → Settles (take_item g cs x k (dues rows old)) new (Ok rows)
settles_none g cs x k rows old new o n a =
    (ap (λ (z : List Entry). take_item g cs x k (dues rows z)) o ∙ ap (λ (z : List Entry). Onto (dues rows z)) (sym n), subst (AreEntries rows) (o ∙ sym n) a)

-- an item where a plan is due
pub settles_at : (g : Pairing) (cs : List Claim) (x : Item) (k : ℕ) (ds es : List Due) (new : List Entry) (r : Result (List Row) TakeStop) → ds ≡ es → Settles (take_item g cs x k es) new r → Settles (take_item g cs x k ds) new r
settles_at g cs x k ds es new r e s = subst (λ (t : Taken). Settles t new r) (sym (ap (take_item g cs x k) e)) s

-- the path of the next plan is well made
pub next_formed : (params : ℕ) (ds : List Due) (h : Path) (xs ys : List Due) (some : (d : Due) × (es : List Due) × (ds ≡ d ∷ es)) → PlanAt h ∷ xs ≡ ds ++ ys → AreDueFormed params ds → IsFormed params h
next_formed params ds h xs ys some e f =
    let g : AreDueFormed params (some.0 ∷ some.1) = subst (AreDueFormed params) some.2 f in
    let i : PlanAt h ∷ xs ≡ some.0 ∷ (some.1 ++ ys) = e ∙ ap (λ z. z ++ ys) some.2 in
    let d : some.0 ≡ PlanAt h = cc in
    subst (IsDueFormed params) d g.0

pub class_formed : (params : ℕ) (h : Path) (c : Classes) (next : Path) (xs ys : List Due) → AreClasses h.conj.columns c → PlanAt next ∷ xs ≡ classes_of h c ++ ys → IsFormed params h → IsFormed params next
class_formed params h c next xs ys a e i =
    let t = class_parts c.modulus c.form _ h.conj.columns a.last in
    next_formed params (classes_of h c) next xs ys (some_due h (awaited.Classes c) a) e (classes_formed params c.modulus c.form (unsigned_abs c.next) (unsigned_abs c.modulus - unsigned_abs c.next) h t.0 t.1 i)

pub branch_formed : (params : ℕ) (h : Path) (left : List Branch) (next : Path) (xs ys : List Due) → left ≢ [] → PlanAt next ∷ xs ≡ branches_of h left ++ ys → AreDueFormed params (branches_of h left) → IsFormed params next
branch_formed params h left next xs ys n e f = next_formed params (branches_of h left) next xs ys (some_branch h left n) e f

-- the path of classes is well made where they are
pub of_classes : (params : ℕ) (h : Path) (c : Classes) → AreClasses h.conj.columns c → AreDueFormed params (classes_of h c) → IsFormed params h
of_classes params h c a f =
    let g : AreDueFormed params (PlanAt (at_rows h (class c.modulus c.form c.next h.conj)) ∷ classes c.modulus c.form (unsigned_abs c.next + 1) (unsigned_abs c.modulus - (unsigned_abs c.next + 1)) h) = subst (AreDueFormed params) (classes_split h h.conj.columns c a) f in
    formed_back params h _ g.0

-- the next entry of a plan
pub entry_formed : (params : ℕ) (rows : List Row) (old es : List Entry) (e : Entry) (h : Path) → old ≡ es ++ e ∷ [] → AreEntries rows old → h ≡ path_at rows e.prefix → AreDueFormed params (dues rows old) → AreDueFormed params (due_at h e.awaited)
entry_formed params rows old es e h o a i f =
    subst (λ (z : Path). AreDueFormed params (due_at z e.awaited)) (sym i) (all_parts (IsDueFormed params) (due_of rows e) _ (subst (AreDueFormed params) (popped rows old es e o a) f)).0

pub entry_due : (rows : List Row) (old es : List Entry) (e : Entry) (h : Path) → old ≡ es ++ e ∷ [] → AreEntries rows old → h ≡ path_at rows e.prefix → HasDues h.conj.columns e.awaited
entry_due rows old es e h o a i = subst (λ (z : Path). HasDues z.conj.columns e.awaited) (sym i) (popped_due rows old es e o a)

pub entry_entries : (rows : List Row) (old es : List Entry) (e : Entry) (h : Path) → old ≡ es ++ e ∷ [] → AreEntries rows old → h ≡ path_at rows e.prefix → AreEntries h.conj.rows es
entry_entries rows old es e h o a i = subst (λ (z : Path). AreEntries z.conj.rows es) (sym i) (popped_entries rows old es e o a)

pub entry_settles : (g : Pairing) (cs : List Claim) (x : Item) (k : ℕ) (rows : List Row) (old es : List Entry) (e : Entry) (h : Path) (new : List Entry) (r : Result (List Row) TakeStop) → old ≡ es ++ e ∷ [] → AreEntries rows old → h ≡ path_at rows e.prefix
    → Settles (take_item g cs x k (due_at h e.awaited ++ dues h.conj.rows es)) new r → Settles (take_item g cs x k (dues rows old)) new r
entry_settles g cs x k rows old es e h new r o a i s =
    settles_at g cs x k _ _ new r (popped rows old es e o a ∙ ap (λ (z : Path). due_at z e.awaited ++ dues z.conj.rows es) (sym i)) s

pub side_settles : (g : Pairing) (cs : List Claim) (x : Item) (k : ℕ) (h p : Path) (row : Row) (es new : List Entry) (r : Result (List Row) TakeStop) → p ≡ at_rows h (with_row h.conj row) → AreEntries h.conj.rows es
    → Settles (take_item g cs x k (PlanAt p ∷ dues p.conj.rows es)) new r → Settles (take_item g cs x k (PlanAt (at_rows h (with_row h.conj row)) ∷ dues h.conj.rows es)) new r
side_settles g cs x k h p row es new r e a s = settles_at g cs x k _ _ new r (sym (λ i. PlanAt (e i) ∷ row_dues h p row es e a i)) s
