-- Things that happen one after another.
use Rattle.std.proofs.Common.{◌≡◌, ℕ, zero, suc, ◌+◌, ◌<◌, ◌≤◌, ◌^◌, ℤ, pos, negsuc, Bool, true, false, List, [], ◌∷◌, ◌++◌, Option, None, Some, Result, Ok, Err, IfErr, refl, sym, ap, subst, ◌∙◌, nat_lt, if◌then◌else◌, arith, FitsSigned, w64, length, drop, get_or, drop-cons, add-one}
use Rattle.std.specs.Result.{IsErrAnd}
use Rattle.std.proofs.lemmas.Bool.Decides.{nat_tests}
use Rattle.std.proofs.lemmas.Int.{ints}
use Rattle.ac_syntax.specs.declared.tree.Place.{Place}
use Rattle.ac_instance.specs.declared.state.Machine.{Machine}
use Rattle.ac_instance.specs.declared.halt.Side.{Side}
use Rattle.ac_instance.specs.declared.halt.Halt.{Halt}
use Rattle.ac_instance.specs.declared.halt.Halt.TheVariants.{OutsideContext, TooLarge, Range, Wide, Memory}
use Rattle.ac_terms.specs.Table.{Keeps}
use Rattle.ac_instance.specs.Events.{Event, event, evaluated, reached, fits_64, out_of_range, unless}
use Rattle.ac_instance.specs.MachineSteps.{IsDue, Advances, Steps}

-- what is reached after n events
abbrev pub and_then : Result ℕ Halt → (ℕ → Result ℕ Halt) → Result ℕ Halt
and_then (Ok n) f = f n
and_then (Err h) f = Err h

pub reached-append : (limit n : ℕ) (xs ys : List Event) → reached limit n (xs ++ ys) ≡ and_then (reached limit n xs) (λ m. reached limit m ys)
reached-append limit n [] ys = refl
reached-append limit n (event ∷ xs) ys = by (nat_lt n limit) (reached-append limit (n + 1) xs ys)
  where
    by : (b : Bool) → reached limit (n + 1) (xs ++ ys) ≡ and_then (reached limit (n + 1) xs) (λ m. reached limit m ys)
        → (if b then reached limit (n + 1) (xs ++ ys) else Err (TooLarge limit)) ≡ and_then (if b then reached limit (n + 1) xs else Err (TooLarge limit)) (λ m. reached limit m ys)
    by true h = h
    by false h = refl
reached-append limit n (evaluated side place v ∷ xs) ys = by (out_of_range side place v) (reached-append limit n xs ys)
  where
    by : (o : Option Halt) → reached limit n (xs ++ ys) ≡ and_then (reached limit n xs) (λ m. reached limit m ys)
        → unless o (reached limit n (xs ++ ys)) ≡ and_then (unless o (reached limit n xs)) (λ m. reached limit m ys)
    by None h = h
    by (Some e) h = refl

-- a halt that was due stays due whatever comes later
due_first : (limit n : ℕ) (xs ys : List Event) (h : Halt) → reached limit n xs ≡ Err h → reached limit n (xs ++ ys) ≡ Err h
due_first limit n xs ys h e = reached-append limit n xs ys ∙ ap (λ r. and_then r (λ m. reached limit m ys)) e

pub due_before : (limit n : ℕ) (xs ys : List Event) (h : Halt) → IsDue (reached limit n xs) h → IsDue (reached limit n (xs ++ ys)) h
due_before limit n xs ys OutsideContext d = due_first limit n xs ys OutsideContext d
due_before limit n xs ys (TooLarge k) d = due_first limit n xs ys (TooLarge k) d
due_before limit n xs ys (Range side place value) d = due_first limit n xs ys (Range side place value) d
due_before limit n xs ys Wide d = due_first limit n xs ys Wide d
due_before limit n xs ys (Memory e) d = tt

then_reached : (limit n m : ℕ) (xs ys : List Event) → reached limit n xs ≡ Ok m → reached limit n (xs ++ ys) ≡ reached limit m ys
then_reached limit n m xs ys e = reached-append limit n xs ys ∙ ap (λ r. and_then r (λ k. reached limit k ys)) e

-- and one that is due later is due
pub due_after : (a b : Machine) (xs ys : List Event) → Advances a xs b → (h : Halt) → IsDue (reached b.limit b.events ys) h → IsDue (reached a.limit a.events (xs ++ ys)) h
due_after a b xs ys s h d =
    subst (λ r. IsDue r h) (ap (λ l. reached l b.events ys) s.limit ∙ sym (then_reached a.limit a.events b.events xs ys s.events)) d

pub advance : (a b c : Machine) (xs ys : List Event) → Advances a xs b → Advances b ys c → Advances a (xs ++ ys) c
advance a b c xs ys s t = record {
  events = then_reached a.limit a.events b.events xs ys s.events ∙ ap (λ l. reached l b.events ys) (sym s.limit) ∙ t.events;
  limit = t.limit ∙ s.limit;
  kept = λ u id h. t.kept u id (s.kept u id h);
  names = t.names ∙ s.names;
}

pub nothing : (a : Machine) → Advances a [] a
nothing a = record { events = refl; limit = refl; kept = λ u id h. h; names = refl }

-- a call after others
pub steps_after : {T : Type 0} (a b c : Machine) (xs ys : List Event) (r : Result T Halt) → Advances a xs b → Steps b ys r c → Steps a (xs ++ ys) r c
steps_after a b c xs ys (Ok x) s t = advance a b c xs ys s t
steps_after a b c xs ys (Err h) s t = due_after a b xs ys s h t

-- the halt that a `?` passed on
pub halts : {T : Type 0} (a b : Machine) (xs : List Event) (r : Result T Halt) (h : Halt) → IsErrAnd r (λ e. e ≡ h) → IsDue (reached a.limit a.events xs) h → Steps a xs r b
halts a b xs (Ok x) h is d = absurd is
halts a b xs (Err e) h is d = subst (IsDue (reached a.limit a.events xs)) (sym is) d

-- want of memory may come at any time
pub is_memory : {T E : Type 0} (a b : Machine) (xs : List Event) (r : Result T Halt) (f : E → Halt → Type 0) (e : E) → ((h : Halt) → f e h → (x : _) × (h ≡ Memory x)) → IsErrAnd r (f e) → Steps a xs r b
is_memory a b xs (Ok x) f e only is = absurd is
is_memory a b xs (Err h) f e only is = let k = only h is in subst (IsDue (reached a.limit a.events xs)) (sym k.1) tt

pub fits_true : (z : ℤ) → FitsSigned w64 z → fits_64 z ≡ true
fits_true (pos n) h = grind (arith, nat_tests, h)
fits_true (negsuc n) h = grind (arith, nat_tests, h)

fits_false : (z : ℤ) → (FitsSigned w64 z → ⊥) → fits_64 z ≡ false
fits_false (pos n) h = grind (arith, nat_tests, h)
fits_false (negsuc n) h = grind (arith, nat_tests, h)

-- an index value that fits
pub fitted : (m : Machine) (side : Side) (place : Place) (z : ℤ) → FitsSigned w64 z → Advances m (evaluated side place (Some z) ∷ []) m
fitted m side place z h = record {
  events = ap (λ b. unless (if b then None else Some (Range side place z)) (Ok m.events)) (fits_true z h);
  limit = refl;
  kept = λ u id k. k;
  names = refl;
}

-- and one that does not
pub out : (m : Machine) (side : Side) (place : Place) (z : ℤ) → (FitsSigned w64 z → ⊥) → reached m.limit m.events (evaluated side place (Some z) ∷ []) ≡ Err (Range side place z)
out m side place z h = ap (λ b. unless (if b then None else Some (Range side place z)) (Ok m.events)) (fits_false z h)

-- a change of the table alone
pub changed : (b c : Machine) → c.events ≡ b.events → c.limit ≡ b.limit → Keeps b.table c.table → c.table.commutative ≡ b.table.commutative → Advances b [] c
changed b c e l k n = record { events = ap Ok (sym e); limit = l; kept = k; names = n }

-- what is left to happen of a whole
pub record Continues (a : Machine) (whole : List Event) (b : Machine) (rest : List Event) : Type 0 where
  pub left : reached a.limit a.events whole ≡ reached b.limit b.events rest
  pub limit : b.limit ≡ a.limit
  pub kept : Keeps a.table b.table
  pub names : b.table.commutative ≡ a.table.commutative

pub begins : (a : Machine) (whole : List Event) → Continues a whole a whole
begins a whole = record { left = refl; limit = refl; kept = λ u id h. h; names = refl }

pub goes_on : (a b c : Machine) (whole rest xs ys : List Event) → Continues a whole b rest → rest ≡ xs ++ ys → Advances b xs c → Continues a whole c ys
goes_on a b c whole rest xs ys s e t = record {
  left = s.left ∙ ap (reached b.limit b.events) e ∙ then_reached b.limit b.events c.events xs ys t.events ∙ ap (λ l. reached l c.events ys) (sym t.limit);
  limit = t.limit ∙ s.limit;
  kept = λ u id h. t.kept u id (s.kept u id h);
  names = t.names ∙ s.names;
}

pub ends : (a b : Machine) (whole rest : List Event) → Continues a whole b rest → rest ≡ [] → Advances a whole b
ends a b whole rest s e = record { events = s.left ∙ ap (reached b.limit b.events) e; limit = s.limit; kept = s.kept; names = s.names }

pub due_in_whole : (a b : Machine) (whole rest xs ys : List Event) (h : Halt) → Continues a whole b rest → rest ≡ xs ++ ys → IsDue (reached b.limit b.events xs) h → IsDue (reached a.limit a.events whole) h
due_in_whole a b whole rest xs ys h s e d = subst (λ r. IsDue r h) (sym (s.left ∙ ap (reached b.limit b.events) e)) (due_before b.limit b.events xs ys h d)

-- the events never fall
pub never_falls : (limit n m : ℕ) (hs : List Event) → reached limit n hs ≡ Ok m → n ≤ m
never_falls limit n m [] h = (let k : n ≡ m = cc in omega arith)
never_falls limit n m (event ∷ hs) h = by (nat_lt n limit) h (never_falls limit (n + 1) m hs)
  where
    by : (b : Bool) → (if b then reached limit (n + 1) hs else Err (TooLarge limit)) ≡ Ok m → (reached limit (n + 1) hs ≡ Ok m → n + 1 ≤ m) → n ≤ m
    by true k f = (let j = f k in omega (arith, j))
    by false k f = absurd cc
never_falls limit n m (evaluated side place v ∷ hs) h = by (out_of_range side place v) h (never_falls limit n m hs)
  where
    by : (o : Option Halt) → unless o (reached limit n hs) ≡ Ok m → (reached limit n hs ≡ Ok m → n ≤ m) → n ≤ m
    by None k f = f k
    by (Some e) k f = absurd cc

-- the items from a place on
pub drop_more : {A : Type 0} (xs : List A) (i : ℕ) (x : A) → i < length xs → x ≡ get_or xs i x → drop i xs ≡ x ∷ drop (i + 1) xs
drop_more xs i x h e = drop-cons xs i x h ∙ ap (λ y. y ∷ drop (suc i) xs) (sym e) ∙ ap (λ n. x ∷ drop n xs) (sym (add-one i))

-- a counted event
pub counts_one : (limit n m : ℕ) → reached limit n (event ∷ []) ≡ Ok m → n + 1 ≡ m
counts_one limit n m h = by (nat_lt n limit) h
  where
    by : (b : Bool) → (if b then reached limit (n + 1) [] else Err (TooLarge limit)) ≡ Ok m → n + 1 ≡ m
    by true k = cc
    by false k = absurd cc

-- an item is the same whatever stands for one that is missing
pub item_at : {A : Type 0} (xs : List A) (i : ℕ) (d e : A) → i < length xs → get_or xs i d ≡ get_or xs i e
item_at [] i d e h = absurd (omega (arith, h))
item_at (x ∷ xs) zero d e h = refl
item_at (x ∷ xs) (suc i) d e h = item_at xs i d e (omega (arith, h))
