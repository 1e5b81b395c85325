-- The entries of a path: what they derive, and which pair stands last.
use Rattle.std.proofs.Common.{◌≡◌, ℕ, zero, suc, ◌+◌, ◌<◌, ◌≤◌, ℤ, List, [], ◌∷◌, ◌++◌, map, length, drop, get_or, Some, refl, sym, ap, ◌∙◌, subst, arith, append_assoc, length-append}
use Rattle.std.specs.Prelude.{slice_get}
use Rattle.ac_syntax.specs.declared.tree.Position.{Position}
use Rattle.ac_claims_paths.specs.declared.path.Seat.{Seat}
use Rattle.ac_widen.specs.Derivations.{EntryOf, Justified, IsDerivation, StandsAt, entry_of}
use Rattle.ac_widen.specs.DerivationPaths.{path_entries}
use Rattle.ac_widen.specs.declared.derivation.Entry.{Entry}
use Rattle.ac_widen.specs.declared.derivation.Reason.{Reason}
use Rattle.ac_widen.specs.declared.derivation.Reason.TheVariants.{Step}
use Rattle.ac_widen.proofs.Deriving.{get_last, one_more, path_more}
use Rattle.ac_widen_programs.specs.DerivationEntries.{entries_of}
use Rattle.ac_widen_programs.specs.PairPathEnds.{entries_at, entry_at, step_from, steps_behind}
use Rattle.ac_widen_programs.specs.PairPaths.{Unfolding, last_of, pair_of, params_of, point_of, positions_of, setting_of}
use Rattle.ac_widen_programs.proofs.Trails.{Steps}
use Rattle.ac_walk_state.specs.PathEntries.{Begins, GoesOn, by_reason, entered, steps_from}
use Rattle.ac_walk_state.specs.Growth.{StillDerives}
use Rattle.ac_walk_state.specs.declared.begins.Begin.{Begin}
use Rattle.ac_walk_state.specs.declared.begins.Begin.TheVariants.{At, Further}
use Rattle.ac_walk_state.proofs.LastItems.{append_nil, length-map, map-append}

-- ---- steps one by one

drop_next : {A : Type 0} (xs : List A) (i : ℕ) (x : A) → i < length xs → x ≡ get_or xs i x → drop i xs ≡ x ∷ drop (i + 1) xs
drop_next [] i x l e = absurd (omega (arith, l))
drop_next (y ∷ []) zero x l e = ap (λ z. z ∷ []) (sym e)
drop_next (y ∷ z ∷ xs) zero x l e = ap (λ w. w ∷ (z ∷ xs)) (sym e)
drop_next (y ∷ xs) (suc i) x l e = let n : suc (i + 1) ≡ suc i + 1 = omega arith in drop_next xs i x (omega (arith, l)) e ∙ ap (λ k. x ∷ drop k (y ∷ xs)) n

drop_none : {A : Type 0} (xs : List A) → drop 0 xs ≡ xs
drop_none [] = refl
drop_none (x ∷ xs) = refl

drop_past : {A : Type 0} (xs : List A) (i : ℕ) → length xs ≤ i → drop i xs ≡ []
drop_past [] zero l = refl
drop_past [] (suc i) l = refl
drop_past (x ∷ xs) zero l = absurd (omega (arith, l))
drop_past (x ∷ xs) (suc i) l = drop_past xs i (omega (arith, l))

pub steps_first : (es : List Entry) (from n : ℕ) (steps : List Entry) → es ++ steps_from from n steps ≡ es ++ steps_from from n (drop 0 steps)
steps_first es from n steps = ap (λ (xs : List Entry). es ++ steps_from from n xs) (sym (drop_none steps))

pub steps_more : (all new : List Entry) (from : ℕ) (steps : List Entry) (i : ℕ) (x : Entry) → i < length steps → x ≡ get_or steps i x → new ≡ all ++ by_reason x (Step from) ∷ []
    → all ++ steps_from from (length all) (drop i steps) ≡ new ++ steps_from (length all) (length new) (drop (i + 1) steps)
steps_more all new from steps i x l is e =
    let more = by_reason x (Step from) in
    let long : length new ≡ suc (length all) = ap length e ∙ length-append all (more ∷ []) ∙ (omega arith) in
    ap (λ (xs : List Entry). all ++ steps_from from (length all) xs) (drop_next steps i x l is) ∙ sym (append_assoc all (more ∷ []) (steps_from (length all) (suc (length all)) (drop (i + 1) steps)))
    ∙ (λ j. sym e j ++ steps_from (length all) (sym long j) (drop (i + 1) steps))

pub steps_all : (all : List Entry) (from n : ℕ) (steps : List Entry) (i : ℕ) → length steps ≤ i → all ++ steps_from from n (drop i steps) ≡ all
steps_all all from n steps i l = ap (λ (xs : List Entry). all ++ steps_from from n xs) (drop_past steps i l) ∙ append_nil all

-- ---- what stays

pub entered_more : (es : List Entry) (begin : Begin) (path : List Entry) → (more : List Entry) × (entered es begin path ≡ es ++ more)
entered_more es begin [] = ([], sym (append_nil es))
entered_more es (At place) (e ∷ path) = (steps_from place (length es) path, refl)
entered_more es (Further reason) (e ∷ path) = (by_reason e reason ∷ steps_from (length es) (suc (length es)) path, append_assoc es (by_reason e reason ∷ []) (steps_from (length es) (suc (length es)) path))

-- ---- derivations

steps_are : (n k params : ℕ) (p : List ℤ) (rest : List (Seat × Seat)) → entries_of (steps_from n (suc n) (steps_behind k params p rest)) ≡ path_entries n (map (pair_of params p) rest)
steps_are n k params p [] = refl
steps_are n k params p (s ∷ rest) =
    ap (λ (es : List (EntryOf (Position × Position))). record { positions = positions_of s; point = point_of params p s; reason = Step n } ∷ es) (steps_are (suc n) (suc k) params p rest)

-- an entry of a pair of seats, for a reason
abbrev new_entry : ℕ → List ℤ → Seat × Seat → Reason → EntryOf (Position × Position)
new_entry params p s reason = record { positions = positions_of s; point = point_of params p s; reason = reason }

-- a justified entry and the steps behind it
from_new : (u : Unfolding) (p : List ℤ) (es : List Entry) (s : Seat × Seat) (rest : List (Seat × Seat)) (k : ℕ) (reason : Reason) → IsDerivation (setting_of u) u.order (entries_of es)
    → Justified (setting_of u) u.order (entries_of es) (positions_of s) (point_of (params_of u) p s) reason → Steps u p s rest
    → IsDerivation (setting_of u) u.order ((entries_of es ++ new_entry (params_of u) p s reason ∷ []) ++ entries_of (steps_from (length es) (suc (length es)) (steps_behind k (params_of u) p rest)))
from_new u p es s rest k reason d j steps =
    let n = params_of u in
    let e = new_entry n p s reason in
    let old = entries_of es in
    let many : length old ≡ length es = length-map entry_of es in
    let one = one_more (setting_of u) u.order old e d j in
    let long : length (old ++ e ∷ []) ≡ suc (length es) = omega (arith, length-append old (e ∷ []), many) in
    let is : slice_get (old ++ e ∷ []) (length es) ≡ Some e = subst (λ (i : ℕ). slice_get (old ++ e ∷ []) i ≡ Some e) many (get_last old e []) in
    let all = path_more (setting_of u) u.order (old ++ e ∷ []) (length es) (positions_of s) (point_of n p s) (map (pair_of n p) rest) one long (e, is, refl, refl) steps in
    subst (λ (more : List (EntryOf (Position × Position))). IsDerivation (setting_of u) u.order ((old ++ e ∷ []) ++ more)) (sym (steps_are (length es) k n p rest)) all

entries_with : (es : List Entry) (e : Entry) (more : List Entry) → entries_of ((es ++ e ∷ []) ++ more) ≡ (entries_of es ++ entry_of e ∷ []) ++ entries_of more
entries_with es e more = map-append entry_of (es ++ e ∷ []) more ∙ ap (λ (x : List (EntryOf (Position × Position))). x ++ entries_of more) (map-append entry_of es (e ∷ []))

derives_at : (u : Unfolding) (p : List ℤ) (es : List Entry) (s : Seat × Seat) (rest : List (Seat × Seat)) (begin : Begin) → Steps u p s rest → Begins (setting_of u) u.order es (entries_at (params_of u) p (s ∷ rest)) begin
    → StillDerives u es (entered es begin (entries_at (params_of u) p (s ∷ rest)))
derives_at u p es s rest (Further reason) steps begins d =
    let n = params_of u in
    subst (IsDerivation (setting_of u) u.order) (sym (entries_with es (by_reason (entry_at n p s) reason) (steps_from (length es) (suc (length es)) (steps_behind 0 n p rest)))) (from_new u p es s rest 0 reason d begins steps)
derives_at u p es s [] (At place) steps begins d = subst (λ (x : List Entry). IsDerivation (setting_of u) u.order (entries_of x)) (sym (append_nil es)) d
derives_at u p es s (t ∷ rest) (At place) steps begins d =
    let n = params_of u in
    let e = by_reason (step_from 0 (entry_at n p t)) (Step place) in
    let tail = steps_from (length es) (suc (length es)) (steps_behind 1 n p rest) in
    let all = from_new u p es t rest 1 (Step place) d (positions_of s, point_of n p s, begins, steps.0) steps.1 in
    subst (IsDerivation (setting_of u) u.order) (sym (ap (λ (x : List Entry). entries_of x) (sym (append_assoc es (e ∷ []) tail)) ∙ entries_with es e tail)) all

-- a derivation stays one with a path
pub still_derives : (u : Unfolding) (p : List ℤ) (es : List Entry) (s : Seat × Seat) (rest : List (Seat × Seat)) (begin : Begin) (path : List Entry) → path ≡ entries_at (params_of u) p (s ∷ rest) → Steps u p s rest
    → Begins (setting_of u) u.order es path begin → StillDerives u es (entered es begin path)
still_derives u p es s rest begin path e steps =
    subst (λ (x : List Entry). Begins (setting_of u) u.order es x begin → StillDerives u es (entered es begin x)) (sym e) (derives_at u p es s rest begin steps)

-- ---- the last entry

-- the pair of an entry with its point
abbrev pub spot : EntryOf (Position × Position) → (Position × Position) × List ℤ
spot e = (e.positions, e.point)

steps_spots : (n m k params : ℕ) (p : List ℤ) (rest : List (Seat × Seat)) → map spot (entries_of (steps_from n m (steps_behind k params p rest))) ≡ map (pair_of params p) rest
steps_spots n m k params p [] = refl
steps_spots n m k params p (s ∷ rest) = ap (λ (xs : List ((Position × Position) × List ℤ)). pair_of params p s ∷ xs) (steps_spots m (suc m) (suc k) params p rest)

-- the last entry of a list is of the pair at the point
pub record EndsWith (es : List (EntryOf (Position × Position))) (positions : Position × Position) (p : List ℤ) : Type 0 where
  pub front : List (EntryOf (Position × Position))
  pub last : EntryOf (Position × Position)
  pub is : es ≡ front ++ last ∷ []
  pub key_is : last.positions ≡ positions
  pub point_is : last.point ≡ p

last_spot : (params : ℕ) (p : List ℤ) (E : List (EntryOf (Position × Position))) (x : EntryOf (Position × Position)) (T : List (EntryOf (Position × Position))) (s : Seat × Seat) (rest : List (Seat × Seat))
    → spot x ≡ pair_of params p s → map spot T ≡ map (pair_of params p) rest → EndsWith ((E ++ x ∷ []) ++ T) (positions_of (last_of s rest)) (point_of params p (last_of s rest))
last_spot params p E x [] s [] e t = record { front = E; last = x; is = append_nil (E ++ x ∷ []); key_is = ap (λ (y : (Position × Position) × List ℤ). y.0) e; point_is = ap (λ (y : (Position × Position) × List ℤ). y.1) e }
last_spot params p E x [] s (r ∷ rest) e t = absurd cc
last_spot params p E x (y ∷ T) s [] e t = absurd cc
last_spot params p E x (y ∷ T) s (r ∷ rest) e t =
    let h : spot y ≡ pair_of params p r = cc in
    let g : map spot T ≡ map (pair_of params p) rest = cc in
    let i = last_spot params p (E ++ x ∷ []) y T r rest h g in
    record { front = i.front; last = i.last; is = sym (append_assoc (E ++ x ∷ []) (y ∷ []) T) ∙ i.is; key_is = i.key_is; point_is = i.point_is }

last_at : (params : ℕ) (p : List ℤ) (es : List Entry) (s : Seat × Seat) (rest : List (Seat × Seat)) (begin : Begin) → GoesOn (entries_at params p (s ∷ rest)) begin
    → EndsWith (entries_of (entered es begin (entries_at params p (s ∷ rest)))) (positions_of (last_of s rest)) (point_of params p (last_of s rest))
last_at params p es s rest (Further reason) goes =
    let e = by_reason (entry_at params p s) reason in
    let tail = steps_from (length es) (suc (length es)) (steps_behind 0 params p rest) in
    subst (λ (x : List (EntryOf (Position × Position))). EndsWith x (positions_of (last_of s rest)) (point_of params p (last_of s rest))) (sym (entries_with es e tail))
    (last_spot params p (entries_of es) (entry_of e) (entries_of tail) s rest refl (steps_spots (length es) (suc (length es)) 0 params p rest))
last_at params p es s [] (At place) goes = absurd (omega (arith, goes))
last_at params p es s (t ∷ rest) (At place) goes =
    let e = by_reason (step_from 0 (entry_at params p t)) (Step place) in
    let tail = steps_from (length es) (suc (length es)) (steps_behind 1 params p rest) in
    subst (λ (x : List (EntryOf (Position × Position))). EndsWith x (positions_of (last_of t rest)) (point_of params p (last_of t rest))) (sym (ap (λ (x : List Entry). entries_of x) (sym (append_assoc es (e ∷ []) tail)) ∙ entries_with es e tail))
    (last_spot params p (entries_of es) (entry_of e) (entries_of tail) t rest refl (steps_spots (length es) (suc (length es)) 1 params p rest))

pub ends_with : (params : ℕ) (p : List ℤ) (es : List Entry) (s : Seat × Seat) (rest : List (Seat × Seat)) (begin : Begin) (path : List Entry) → path ≡ entries_at params p (s ∷ rest) → GoesOn path begin
    → EndsWith (entries_of (entered es begin path)) (positions_of (last_of s rest)) (point_of params p (last_of s rest))
ends_with params p es s rest begin path e =
    subst (λ (x : List Entry). GoesOn x begin → EndsWith (entries_of (entered es begin x)) (positions_of (last_of s rest)) (point_of params p (last_of s rest))) (sym e) (last_at params p es s rest begin)

-- it stands at the last number
pub stands_last : (es : List (EntryOf (Position × Position))) (positions : Position × Position) (p : List ℤ) (place : ℕ) → EndsWith es positions p → suc place ≡ length es → StandsAt es place positions p
stands_last es positions p place h l =
    let many : length es ≡ length h.front + 1 = ap length h.is ∙ length-append h.front (h.last ∷ []) in
    let at : length h.front ≡ place = omega (arith, many, l) in
    let is : slice_get es place ≡ Some h.last = ap (λ (x : List (EntryOf (Position × Position))). slice_get x place) h.is ∙ subst (λ (i : ℕ). slice_get (h.front ++ h.last ∷ []) i ≡ Some h.last) at (get_last h.front h.last []) in
    (h.last, is, h.key_is, h.point_is)
