-- What the entries of a plan under way stand for, while rows are added to its path and cut back.
use Rattle.std.proofs.Common.{◌≡◌, ◌≢◌, ℕ, ◌+◌, ◌≤◌, List, [], ◌∷◌, ◌++◌, length, take, Option, Some, refl, sym, ap, ◌∙◌, append_assoc, append-nil, length-append, subst, arith}
use Rattle.std.specs.Prelude.{Result, Ok, Err, IfOk, ℤ, option_map}
use Rattle.std.specs.declared.alloc.AllocError.{AllocError}
use Rattle.std.specs.List.{AllByRecursion}
use Rattle.std.proofs.lemmas.List.{take_all, take-take, take-append-le, length-take-le}
use Rattle.ac_forms.specs.Affine.{Affine}
use Rattle.ac_forms.specs.declared.conj.Conj.{Conj}
use Rattle.ac_forms.specs.declared.row.Row.{Row}
use Rattle.ac_cert.proofs.Behind.{step-onto}
use Rattle.ac_cert.specs.Rules.{after_step, rule_of, both_sides, side_rows, with_row}
use Rattle.ac_cert.specs.declared.types.Rule.TheVariants as rule
use Rattle.ac_cert.specs.declared.types.Step.{Step}
use Rattle.ac_syntax.specs.declared.tree.Order.{Order}
use Rattle.ac_claims_paths.specs.BranchPaths.{onto}
use Rattle.ac_claims_paths.specs.PathSteps.{Pairing, at_rows}
use Rattle.ac_claims_paths.specs.declared.path.Branch.{Branch}
use Rattle.ac_claims_paths.specs.declared.path.Path.{Path}
use Rattle.ac_claims.specs.StackEntries.{AreEntries, Climb, HasDues, Settles, due_at, due_of, dues, path_at, prefix_of}
use Rattle.ac_claims.specs.Machine.{Due, PlanAt, Taken, Onto, onto_some, take_at}
use Rattle.ac_claims.specs.declared.entry.Awaited.{Awaited}
use Rattle.ac_claims.specs.declared.entry.Entry.{Entry}
use Rattle.ac_claims.specs.declared.entry.Prefix.{Prefix}
use Rattle.ac_claims.specs.declared.entry.TakeStop.{TakeStop}
use Rattle.ac_claims.specs.declared.item.Item.{Item}
use Rattle.ac_claims.specs.declared.item.Item.TheVariants as item
use Rattle.ac_claims.specs.declared.types.Claim.{Claim}
use Rattle.ac_claims_paths.proofs.Notes.{all_push}

pub all_front : {X : Type 0} (P : X → Type 0) (xs : List X) (x : X) → AllByRecursion P (xs ++ x ∷ []) → AllByRecursion P xs
all_front P [] x a = tt
all_front P (y ∷ xs) x a = (a.0, all_front P xs x a.1)

pub all_last : {X : Type 0} (P : X → Type 0) (xs : List X) (x : X) → AllByRecursion P (xs ++ x ∷ []) → P x
all_last P [] x a = a.0
all_last P (y ∷ xs) x a = all_last P xs x a.1

-- the numbers of rows
climb_push : (low : ℕ) (es : List Entry) (high : ℕ) (e : Entry) (top : ℕ) → Climb low es high → high ≤ e.prefix.count → e.prefix.count ≤ top → Climb low (es ++ e ∷ []) top
climb_push low [] high e top c a b = (omega (arith, c, a), b)
climb_push low (x ∷ es) high e top c a b = (c.0, climb_push x.prefix.count es high e top c.1 a b)

climb_pop : (low : ℕ) (es : List Entry) (e : Entry) (top : ℕ) → Climb low (es ++ e ∷ []) top → Climb low es e.prefix.count × (e.prefix.count ≤ top)
climb_pop low [] e top c = (c.0, c.1)
climb_pop low (x ∷ es) e top c = let r = climb_pop x.prefix.count es e top c.1 in ((c.0, r.0), r.1)

climb_more : (low : ℕ) (es : List Entry) (high top : ℕ) → high ≤ top → Climb low es high → Climb low es top
climb_more low [] high top l c = omega (arith, l, c)
climb_more low (x ∷ es) high top l c = (c.0, climb_more x.prefix.count es high top l c.1)

climb_low : (low : ℕ) (es : List Entry) (high : ℕ) → Climb low es high → low ≤ high
climb_low low [] high c = c
climb_low low (x ∷ es) high c =
    let a = c.0 in
    let b = climb_low x.prefix.count es high c.1 in
    omega (arith, a, b)

-- the same first rows
path_kept : (rows others : List Row) (n : ℕ) (p : Prefix) → p.count ≤ n → take n rows ≡ take n others → path_at rows p ≡ path_at others p
path_kept rows others n p l e =
    let t : take p.count rows ≡ take p.count others = sym (take-take p.count n rows l) ∙ ap (take p.count) e ∙ take-take p.count n others l in
    (λ i. record { conj = record { columns = p.columns; rows = t i }; left = p.left; right = p.right; gone = p.gone; last = p.last })

dues_kept : (rows others : List Row) (low n : ℕ) (es : List Entry) → Climb low es n → take n rows ≡ take n others → dues rows es ≡ dues others es
dues_kept rows others low n [] c e = refl
dues_kept rows others low n (x ∷ es) c e =
    let h = path_kept rows others n x.prefix (climb_low x.prefix.count es n c.1) e in
    let d = dues_kept rows others x.prefix.count n es c.1 e in
    (λ i. d i ++ due_at (h i) x.awaited)

same_front : (rows longer more : List Row) → longer ≡ rows ++ more → take (length rows) longer ≡ take (length rows) rows
same_front rows longer more e = ap (take (length rows)) e ∙ take-append-le (length rows) rows more (omega arith)

-- further rows
pub dues_longer : (rows longer more : List Row) (es : List Entry) → longer ≡ rows ++ more → AreEntries rows es → dues longer es ≡ dues rows es
dues_longer rows longer more es e a = dues_kept longer rows 0 (length rows) es a.climb (same_front rows longer more e)

pub entries_longer : (rows longer more : List Row) (es : List Entry) → longer ≡ rows ++ more → AreEntries rows es → AreEntries longer es
entries_longer rows longer more es e a =
    let l : length longer ≡ length rows + length more = ap length e ∙ length-append rows more in
    record { climb = climb_more 0 es (length rows) (length longer) (omega (arith, l)) a.climb; due = a.due }

-- an entry is put onto others
pub dues_push : (rows : List Row) (es : List Entry) (e : Entry) → dues rows (es ++ e ∷ []) ≡ due_of rows e ++ dues rows es
dues_push rows [] e = sym (append-nil (due_of rows e))
dues_push rows (x ∷ es) e = ap (λ z. z ++ due_of rows x) (dues_push rows es e) ∙ append_assoc (due_of rows e) (dues rows es) (due_of rows x)

at_prefix : (h : Path) → path_at h.conj.rows (prefix_of h) ≡ h
at_prefix h =
    let t : take (length h.conj.rows) h.conj.rows ≡ h.conj.rows = take_all (length h.conj.rows) h.conj.rows (omega arith) in
    (λ i. record { conj = record { columns = h.conj.columns; rows = t i }; left = h.left; right = h.right; gone = h.gone; last = h.last })

as_pushed : (h : Path) (p : Prefix) (a : Awaited) (old new : List Entry) → p ≡ prefix_of h → new ≡ old ++ (record { prefix = p; awaited = a }) ∷ [] → new ≡ old ++ (record { prefix = prefix_of h; awaited = a }) ∷ []
as_pushed h p a old new e n = n ∙ (λ i. old ++ (record { prefix = e i; awaited = a }) ∷ [])

pub pushed : (h : Path) (p : Prefix) (a : Awaited) (old new : List Entry) → p ≡ prefix_of h → new ≡ old ++ (record { prefix = p; awaited = a }) ∷ [] → dues h.conj.rows new ≡ due_at h a ++ dues h.conj.rows old
pushed h p a old new e n =
    ap (dues h.conj.rows) (as_pushed h p a old new e n)
    ∙ dues_push h.conj.rows old (record { prefix = prefix_of h; awaited = a })
    ∙ ap (λ (z : Path). due_at z a ++ dues h.conj.rows old) (at_prefix h)

pub pushed_entries : (h : Path) (p : Prefix) (a : Awaited) (old new : List Entry) → p ≡ prefix_of h → new ≡ old ++ (record { prefix = p; awaited = a }) ∷ [] → AreEntries h.conj.rows old → HasDues h.conj.columns a → AreEntries h.conj.rows new
pushed_entries h p a old new e n k d =
    let x : Entry = record { prefix = prefix_of h; awaited = a } in
    subst (AreEntries h.conj.rows) (sym (as_pushed h p a old new e n)) (record {
      climb = climb_push 0 old (length h.conj.rows) x (length h.conj.rows) k.climb (omega arith) (omega arith);
      due = all_push (λ (y : Entry). HasDues y.prefix.columns y.awaited) old x k.due d;
    })

-- the first entry
pub no_entries : (rows : List Row) (es : List Entry) → es ≡ [] → AreEntries rows es
no_entries rows es e =
    let l : 0 ≤ length rows = omega arith in
    subst (AreEntries rows) (sym e) (record { climb = l; due = tt })

pub first_plan : (h : Path) (old new : List Entry) → old ≡ [] → dues h.conj.rows new ≡ PlanAt h ∷ dues h.conj.rows old → dues h.conj.rows new ≡ PlanAt h ∷ []
first_plan h old new o d = d ∙ ap (λ (z : List Entry). PlanAt h ∷ dues h.conj.rows z) o

pub some_entries : (rows : List Row) (es : List Entry) (d : Due) (ds : List Due) → dues rows es ≡ d ∷ ds → es ≢ []
some_entries rows es d ds e z =
    let i : [] ≡ d ∷ ds = sym (ap (dues rows) z) ∙ e in
    cc

-- the last entry is taken off
pub popped : (rows : List Row) (old es : List Entry) (e : Entry) → old ≡ es ++ e ∷ [] → AreEntries rows old → dues rows old ≡ due_of rows e ++ dues (take e.prefix.count rows) es
popped rows old es e o a =
    let b : AreEntries rows (es ++ e ∷ []) = subst (AreEntries rows) o a in
    let c = climb_pop 0 es e (length rows) b.climb in
    ap (dues rows) o ∙ dues_push rows es e
    ∙ ap (λ z. due_of rows e ++ z) (dues_kept rows (take e.prefix.count rows) 0 e.prefix.count es c.0 (sym (take-take e.prefix.count e.prefix.count rows (omega arith))))

pub popped_entries : (rows : List Row) (old es : List Entry) (e : Entry) → old ≡ es ++ e ∷ [] → AreEntries rows old → AreEntries (take e.prefix.count rows) es
popped_entries rows old es e o a =
    let b : AreEntries rows (es ++ e ∷ []) = subst (AreEntries rows) o a in
    let c = climb_pop 0 es e (length rows) b.climb in
    let l : length (take e.prefix.count rows) ≡ e.prefix.count = length-take-le e.prefix.count rows c.1 in
    record {
      climb = subst (Climb 0 es) (sym l) c.0;
      due = all_front (λ (y : Entry). HasDues y.prefix.columns y.awaited) es e b.due;
    }

pub popped_due : (rows : List Row) (old es : List Entry) (e : Entry) → old ≡ es ++ e ∷ [] → AreEntries rows old → HasDues e.prefix.columns e.awaited
popped_due rows old es e o a = all_last (λ (y : Entry). HasDues y.prefix.columns y.awaited) es e (subst (AreEntries rows) o a).due

-- the same item comes to the same
pub settles_as : (t u : Taken) (new : List Entry) (r : Result (List Row) TakeStop) → u ≡ t → Settles t new r → Settles u new r
settles_as t u new r e s = subst (λ (x : Taken). Settles x new r) (sym e) s

-- a plan at a path whose rows are those of another one and further ones
pub plan_longer : (h p : Path) (more : List Row) (es : List Entry) → p.conj.rows ≡ h.conj.rows ++ more → AreEntries h.conj.rows es → Onto (PlanAt p ∷ dues h.conj.rows es) ≡ Onto (PlanAt p ∷ dues p.conj.rows es)
plan_longer h p more es e a = ap (λ z. Onto (PlanAt p ∷ z)) (sym (dues_longer h.conj.rows p.conj.rows more es e a))

-- a step
pub step_taken : (g : Pairing) (cs : List Claim) (s : Step) (k : ℕ) (h : Path) (c : Conj) (es : List Entry) → after_step s h.conj ≡ Some c → AreEntries h.conj.rows es → take_at g cs (item.Step s) k h (dues h.conj.rows es) ≡ Onto (PlanAt (at_rows h c) ∷ dues c.rows es)
step_taken g cs s k h c es e a =
    let o = step-onto s h.conj c e in
    ap (λ o. onto_some o k (rule_of s) (λ c. Onto (PlanAt (at_rows h c) ∷ dues h.conj.rows es))) e ∙ plan_longer h (at_rows h c) o.more es o.rows a

pub step_entries : (s : Step) (h : Path) (c : Conj) (es : List Entry) → after_step s h.conj ≡ Some c → AreEntries h.conj.rows es → AreEntries c.rows es
step_entries s h c es e a =
    let o = step-onto s h.conj c e in
    entries_longer h.conj.rows c.rows o.more es o.rows a

-- both sides of a split
sides_are : (f : Affine) (c : Conj) (s : Row × Row) → side_rows f c.columns ≡ Some s → both_sides f c ≡ Some (with_row c s.0, with_row c s.1)
sides_are f c s e = ap (option_map (λ (s : Row × Row). (with_row c s.0, with_row c s.1))) e

pub split_taken : (g : Pairing) (cs : List Claim) (f : Affine) (k : ℕ) (h : Path) (s : Row × Row) (p : Path) (old mid : List Entry) → side_rows f h.conj.columns ≡ Some s → p ≡ at_rows h (with_row h.conj s.0)
    → dues h.conj.rows mid ≡ PlanAt (at_rows h (with_row h.conj s.1)) ∷ dues h.conj.rows old → AreEntries h.conj.rows mid → take_at g cs (item.Split f) k h (dues h.conj.rows old) ≡ Onto (PlanAt p ∷ dues p.conj.rows mid)
split_taken g cs f k h s p old mid e ep m a =
    ap (λ o. onto_some o k rule.Split (λ (s : Conj × Conj). Onto (PlanAt (at_rows h s.0) ∷ PlanAt (at_rows h s.1) ∷ dues h.conj.rows old))) (sides_are f h.conj s e)
    ∙ (λ i. Onto (PlanAt (sym ep i) ∷ sym m i))
    ∙ plan_longer h p (s.0 ∷ []) mid (ap (λ (q : Path). q.conj.rows) ep) a

-- a row more
pub row_entries : (h p : Path) (r : Row) (es : List Entry) → p ≡ at_rows h (with_row h.conj r) → AreEntries h.conj.rows es → AreEntries p.conj.rows es
row_entries h p r es e a = entries_longer h.conj.rows p.conj.rows (r ∷ []) es (ap (λ (q : Path). q.conj.rows) e) a

pub row_dues : (h p : Path) (r : Row) (es : List Entry) → p ≡ at_rows h (with_row h.conj r) → AreEntries h.conj.rows es → dues p.conj.rows es ≡ dues h.conj.rows es
row_dues h p r es e a = dues_longer h.conj.rows p.conj.rows (r ∷ []) es (ap (λ (q : Path). q.conj.rows) e) a

-- a branch
pub branch_entries : (h p : Path) (b : Branch) (es : List Entry) → p ≡ onto h b → AreEntries h.conj.rows es → AreEntries p.conj.rows es
branch_entries h p b es e a = entries_longer h.conj.rows p.conj.rows b.rows es (ap (λ (q : Path). q.conj.rows) e) a

pub branch_dues : (h p : Path) (b : Branch) (es : List Entry) → p ≡ onto h b → AreEntries h.conj.rows es → dues p.conj.rows es ≡ dues h.conj.rows es
branch_dues h p b es e a = dues_longer h.conj.rows p.conj.rows b.rows es (ap (λ (q : Path). q.conj.rows) e) a

pub branch_result : (h : Path) (b : Branch) (es : List Entry) (before : List Due) (r : Result Path AllocError) → IfOk r (λ p. p ≡ onto h b) → dues h.conj.rows es ≡ before → AreEntries h.conj.rows es → IfOk r (λ p. PlanAt p ∷ dues p.conj.rows es ≡ PlanAt (onto h b) ∷ before)
branch_result h b es before (Ok p) e d a = (λ i. PlanAt (e i) ∷ (branch_dues h p b es e a ∙ d) i)
branch_result h b es before (Err x) e d a = tt

pub branch_all : (h : Path) (b : Branch) (es : List Entry) (r : Result Path AllocError) → IfOk r (λ p. p ≡ onto h b) → AreEntries h.conj.rows es → IfOk r (λ p. AreEntries p.conj.rows es)
branch_all h b es (Ok p) e a = branch_entries h p b es e a
branch_all h b es (Err x) e a = tt

pub row_result : (h : Path) (r : Row) (es : List Entry) (before : List Due) (o : Result Path AllocError) → IfOk o (λ p. p ≡ at_rows h (with_row h.conj r)) → PlanAt (at_rows h (with_row h.conj r)) ∷ dues h.conj.rows es ≡ before → AreEntries h.conj.rows es → IfOk o (λ p. PlanAt p ∷ dues p.conj.rows es ≡ before)
row_result h r es before (Ok p) e d a = (λ i. PlanAt (e i) ∷ row_dues h p r es e a i) ∙ d
row_result h r es before (Err x) e d a = tt

pub row_all : (h : Path) (r : Row) (es : List Entry) (o : Result Path AllocError) → IfOk o (λ p. p ≡ at_rows h (with_row h.conj r)) → AreEntries h.conj.rows es → IfOk o (λ p. AreEntries p.conj.rows es)
row_all h r es (Ok p) e a = row_entries h p r es e a
row_all h r es (Err x) e a = tt

-- an item that is none of a plan
pub take_other : (g : Pairing) (cs : List Claim) (x : Item) (k : ℕ) (h : Path) (due : List Due) → ((s : Step) → x ≡ item.Step s → ⊥) → ((f : Affine) → x ≡ item.Split f → ⊥) → ((m : ℤ) (f : Affine) → x ≡ item.Residue m f → ⊥) → ((o : Order) (n : ℕ) → x ≡ item.Go o n → ⊥)
    → ((i : ℕ) → x ≡ item.Absurd i → ⊥) → ((c : ℕ) → x ≡ item.Hit c → ⊥) → (x ≡ item.Number → ⊥) → (x ≡ item.Initial → ⊥) → ((s p : ℕ) (a : Option ℕ) (b n : ℕ) → x ≡ item.Killed s p a b n → ⊥) → take_at g cs x k h due ≡ Onto (PlanAt h ∷ due)
take_other g cs (item.Step s) k h due a b c d e f i j l = absurd (a s refl)
take_other g cs (item.Split f') k h due a b c d e f i j l = absurd (b f' refl)
take_other g cs (item.Residue m f') k h due a b c d e f i j l = absurd (c m f' refl)
take_other g cs (item.Go o n) k h due a b c d e f i j l = absurd (d o n refl)
take_other g cs (item.Absurd r) k h due a b c d e f i j l = absurd (e r refl)
take_other g cs (item.Hit r) k h due a b c d e f i j l = absurd (f r refl)
take_other g cs item.Number k h due a b c d e f i j l = absurd (i refl)
take_other g cs item.Initial k h due a b c d e f i j l = absurd (j refl)
take_other g cs (item.Killed s p a' b' n) k h due a b c d e f i j l = absurd (l s p a' b' n refl)
take_other g cs _ k h due a b c d e f i j l = refl
