-- What is known of a source: it stands there, it writes the cell, and no later entry does.
use Rattle.std.proofs.Common.{◌≡◌, ◌<◌, ◌≤◌, List, [], ◌∷◌, ◌++◌, length, Bool, true, false, cond, refl, sym, ap, ◌∙◌, arith, Option, Some, None, subst, append_assoc, length-append}
use Rattle.ac_syntax.specs.Trace.{Entry}
use Rattle.ac_syntax.specs.Algebra.{Cell, same_cell, target}
use Rattle.ac_syntax.specs.Source.{Writer, source, after, Stands}

writer : List Entry → Entry → Writer
writer es e = record { earlier = es; entry = e }

pub source_stands : (c : Cell) (es : List Entry) (w : Writer) → source c es ≡ Some w → Stands es w × (same_cell c (target w.entry) ≡ true)
source_stands c [] w h = absurd cc
source_stands c (e ∷ es) w h = by (source_stands c es) (source c es) refl (same_cell c (target e)) refl h
  where
    by : ((v : Writer) → source c es ≡ Some v → Stands es v × (same_cell c (target v.entry) ≡ true)) → (o : Option Writer) → source c es ≡ o → (b : Bool) → same_cell c (target e) ≡ b
        → after e o (cond b (Some (record { earlier = []; entry = e })) None) ≡ Some w → Stands (e ∷ es) w × (same_cell c (target w.entry) ≡ true)
    by before (Some v) i b j k =
        let r = before v i in
        let x : w.earlier ≡ e ∷ v.earlier = cc in
        let y : w.entry ≡ v.entry = cc in
        (record { later = r.0.later; splits = rw (x, y, ← r.0.splits) refl }, rw y r.1)
    by before None i true j k =
        let x : w.earlier ≡ [] = cc in
        let y : w.entry ≡ e = cc in
        (record { later = es; splits = rw (x, y) refl }, rw y j)
    by before None i false j k = absurd cc

-- an entry that writes the cell is no later than the source
wrote : (c : Cell) (xs : List Entry) (e : Entry) (later : List Entry) → same_cell c (target e) ≡ true → (w : Writer) × (source c (xs ++ e ∷ later) ≡ Some w) × (length xs ≤ length w.earlier)
wrote c [] e later h = rw h (by (source c later))
  where
    by : (o : Option Writer) → (w : Writer) × (after e o (Some (record { earlier = []; entry = e })) ≡ Some w) × (0 ≤ length w.earlier)
    by (Some v) = (_, refl, omega arith)
    by None = (_, refl, omega arith)
wrote c (x ∷ xs) e later h =
    let r = wrote c xs e later h in
    let le : length xs ≤ length r.0.earlier = r.2 in
    (record { earlier = x ∷ r.0.earlier; entry = r.0.entry }, rw r.1 refl, omega arith)

-- no entry after the source writes the cell
pub source_last : (c : Cell) (es : List Entry) (w u : Writer) → source c es ≡ Some w → Stands es u → same_cell c (target u.entry) ≡ true → length u.earlier ≤ length w.earlier
source_last c es w u h s k =
    let r = wrote c u.earlier u.entry s.later k in
    let e : Some r.0 ≡ Some w = sym r.1 ∙ ap (source c) (sym s.splits) ∙ h in
    let i : r.0 ≡ w = cc in
    subst (λ (x : Writer). length u.earlier ≤ length x.earlier) i r.2

-- without a source none does
pub source_none : (c : Cell) (es : List Entry) (u : Writer) → source c es ≡ None → Stands es u → same_cell c (target u.entry) ≡ true → ⊥
source_none c es u h s k =
    let r = wrote c u.earlier u.entry s.later k in
    let e : Some r.0 ≡ None = sym r.1 ∙ ap (source c) (sym s.splits) ∙ h in
    absurd cc

-- entries before an entry of the trace stand in the trace
pub stands_within : {es : List Entry} {w u : Writer} → Stands es w → Stands w.earlier u → Stands es u
stands_within {es} {w} {u} a b = record { later = b.later ++ w.entry ∷ a.later; splits = a.splits ∙ ap (λ xs. xs ++ w.entry ∷ a.later) b.splits ∙ append_assoc u.earlier (u.entry ∷ b.later) (w.entry ∷ a.later) }

pub place_below : {es : List Entry} {w : Writer} → Stands es w → length w.earlier < length es
place_below {es} {w} a = let e : length es ≡ length (w.earlier ++ w.entry ∷ a.later) = ap length a.splits in let k = simp length-append at e in omega arith

-- of two splits of one list the shorter front is a front of the other
front : {A : Type 0} (xs ys : List A) (x y : A) (us vs : List A) → xs ++ x ∷ us ≡ ys ++ y ∷ vs → length xs < length ys → (zs : List A) × (ys ≡ xs ++ x ∷ zs)
front [] [] x y us vs e h = absurd (omega arith)
front [] (z ∷ ys) x y us vs e h = (ys, cc)
front (w ∷ xs) [] x y us vs e h = absurd (omega arith)
front (w ∷ xs) (z ∷ ys) x y us vs e h =
    let t : xs ++ x ∷ us ≡ ys ++ y ∷ vs = cc in
    let k : w ≡ z = cc in
    let r = front xs ys x y us vs t (omega arith) in
    (r.0, rw (k, ← r.1) refl)

same_front : {A : Type 0} (xs ys : List A) (x y : A) (us vs : List A) → xs ++ x ∷ us ≡ ys ++ y ∷ vs → length xs ≡ length ys → (xs ≡ ys) × (x ≡ y)
same_front [] [] x y us vs e h = (refl, cc)
same_front [] (z ∷ ys) x y us vs e h = absurd (omega arith)
same_front (w ∷ xs) [] x y us vs e h = absurd (omega arith)
same_front (w ∷ xs) (z ∷ ys) x y us vs e h =
    let t : xs ++ x ∷ us ≡ ys ++ y ∷ vs = cc in
    let k : w ≡ z = cc in
    let r = same_front xs ys x y us vs t (omega arith) in
    (rw (k, r.0) refl, r.1)

-- an entry of the trace that stands earlier stands among the entries before
pub earlier_stands : {es : List Entry} {w u : Writer} → Stands es w → Stands es u → length u.earlier < length w.earlier → Stands w.earlier u
earlier_stands {es} {w} {u} a b h =
    let r = front u.earlier w.earlier u.entry w.entry b.later a.later (sym b.splits ∙ a.splits) h in
    record { later = r.0; splits = r.1 }

-- one place, one entry
pub one_place : {es : List Entry} (w u : Writer) → Stands es w → Stands es u → length w.earlier ≡ length u.earlier → w ≡ u
one_place w u a b h =
    let r = same_front w.earlier u.earlier w.entry u.entry a.later b.later (sym a.splits ∙ b.splits) h in
    λ i. record { earlier = r.0 i; entry = r.1 i }

-- a killed case: a copy that writes the cell between the source that is assumed and the read
pub killed_after : {es : List Entry} (c : Cell) (w v u : Writer) → Stands es w → Stands es u → source c w.earlier ≡ Some v → same_cell c (target u.entry) ≡ true
    → length v.earlier < length u.earlier → length u.earlier < length w.earlier → ⊥
killed_after c w v u a b h k after before = let le : length u.earlier ≤ length v.earlier = source_last c w.earlier v u h (earlier_stands a b before) k in omega arith

pub killed_initial : {es : List Entry} (c : Cell) (w u : Writer) → Stands es w → Stands es u → source c w.earlier ≡ None → same_cell c (target u.entry) ≡ true
    → length u.earlier < length w.earlier → ⊥
killed_initial c w u a b h k before = source_none c w.earlier u h (earlier_stands a b before) k
