-- Paths that are added to those that were found.
use Rattle.std.proofs.Common.{◌≡◌, ◌≤◌, inl, inr, ℕ, ℤ, List, [], ◌∷◌, ◌++◌, length, refl, sym, ap, ◌∙◌, subst, arith, append_assoc, append-nil, length-append}
use Rattle.std.specs.List.{AllByRecursion}
use Rattle.ac_forms.specs.declared.conj.Conj.{Conj}
use Rattle.ac_omega_steps.specs.IntegerPoints.{IsPoint}
use Rattle.ac_forms.specs.ListMembers.{IsAmong}
use Rattle.ac_claims_paths.specs.declared.path.Seat.{Seat}
use Rattle.ac_widen.specs.declared.derivation.Entry.{Entry}
use Rattle.ac_claims_plans.specs.BranchSides.{side_of}
use Rattle.ac_claims_plans.specs.declared.branching.Part.{Part}
use Rattle.ac_widen_programs.specs.PairPathEnds.{entries_at}
use Rattle.ac_unfold.specs.EndResults.{EndsMore}
use Rattle.ac_unfold.specs.UnfoldPaths.{BrokenPathsOf}
use Rattle.ac_unfold.specs.BrokenPathResults.{Adds, IsNone, IsPathAt, IsPathBeside}

-- ---- lists

all_both : (Kind : List Entry → Type 0) (xs ys : List (List Entry)) → AllByRecursion Kind xs → AllByRecursion Kind ys → AllByRecursion Kind (xs ++ ys)
all_both Kind [] ys h k = k
all_both Kind (x ∷ xs) ys h k = (h.0, all_both Kind xs ys h.1 k)

all_by : (Kind Other : List Entry → Type 0) (xs : List (List Entry)) → ((es : List Entry) → Kind es → Other es) → AllByRecursion Kind xs → AllByRecursion Other xs
all_by Kind Other [] f h = tt
all_by Kind Other (x ∷ xs) f h = (f x h.0, all_by Kind Other xs f h.1)

-- ---- what is added

-- nothing, of either
pub adds_same : (Kind Ends : List Entry → Type 0) (before after : BrokenPathsOf) → after.paths ≡ before.paths → after.ended ≡ before.ended → Adds Kind Ends before after
adds_same Kind Ends before after e f = record { more = []; is = e ∙ sym (append-nil before.paths); all = tt; ends = []; ended_is = f ∙ sym (append-nil before.ended); all_ends = tt }

pub adds_none : (Kind Ends : List Entry → Type 0) (before after : BrokenPathsOf) → after ≡ before → Adds Kind Ends before after
adds_none Kind Ends before after e = adds_same Kind Ends before after (ap (λ (f : BrokenPathsOf). f.paths) e) (ap (λ (f : BrokenPathsOf). f.ended) e)

-- one broken path
pub adds_one : (Kind Ends : List Entry → Type 0) (before after : BrokenPathsOf) (es : List Entry) → after.paths ≡ before.paths ++ es ∷ [] → after.ended ≡ before.ended → Kind es → Adds Kind Ends before after
adds_one Kind Ends before after es e f k = record { more = es ∷ []; is = e; all = (k, tt); ends = []; ended_is = f ∙ sym (append-nil before.ended); all_ends = tt }

-- an end that is reached, if it is kept
pub adds_end : (Kind Ends : List Entry → Type 0) (before after : BrokenPathsOf) → after.paths ≡ before.paths → EndsMore Ends before.ended after.ended → Adds Kind Ends before after
adds_end Kind Ends before after e (inl f) = adds_same Kind Ends before after e f
adds_end Kind Ends before after e (inr x) = record { more = []; is = e ∙ sym (append-nil before.paths); all = tt; ends = x.0 ∷ []; ended_is = x.2; all_ends = (x.1, tt) }

pub adds_then : (Kind Ends : List Entry → Type 0) (a b c : BrokenPathsOf) → Adds Kind Ends a b → Adds Kind Ends b c → Adds Kind Ends a c
adds_then Kind Ends a b c h k = record {
  more = h.more ++ k.more;
  is = k.is ∙ ap (λ (xs : List (List Entry)). xs ++ k.more) h.is ∙ append_assoc a.paths h.more k.more;
  all = all_both Kind h.more k.more h.all k.all;
  ends = h.ends ++ k.ends;
  ended_is = k.ended_is ∙ ap (λ (xs : List (List Entry)). xs ++ k.ends) h.ended_is ∙ append_assoc a.ended h.ends k.ends;
  all_ends = all_both Ends h.ends k.ends h.all_ends k.all_ends;
}

pub adds_by : (Kind Other Ends : List Entry → Type 0) (a b : BrokenPathsOf) → ((es : List Entry) → Kind es → Other es) → Adds Kind Ends a b → Adds Other Ends a b
adds_by Kind Other Ends a b f h = record { more = h.more; is = h.is; all = all_by Kind Other h.more f h.all; ends = h.ends; ended_is = h.ended_is; all_ends = h.all_ends }

-- the same with ends of another kind
pub adds_ends : (Kind Ends Other : List Entry → Type 0) (a b : BrokenPathsOf) → ((es : List Entry) → Ends es → Other es) → Adds Kind Ends a b → Adds Kind Other a b
adds_ends Kind Ends Other a b f h = record { more = h.more; is = h.is; all = h.all; ends = h.ends; ended_is = h.ended_is; all_ends = all_by Ends Other h.ends f h.all_ends }

-- where no end is reached
pub adds_no_end : (Kind Ends : List Entry → Type 0) (a b : BrokenPathsOf) → Adds Kind IsNone a b → Adds Kind Ends a b
adds_no_end Kind Ends a b h = adds_ends Kind IsNone Ends a b (λ es x. absurd x) h

-- no path is lost
pub adds_kept : (Kind Ends : List Entry → Type 0) (a b : BrokenPathsOf) → Adds Kind Ends a b → length a.paths ≤ length b.paths
adds_kept Kind Ends a b h = omega (arith, ap length h.is, length-append a.paths h.more)

-- the paths found before stay broken
pub adds_all : (Kind Ends Other : List Entry → Type 0) (a b : BrokenPathsOf) → ((es : List Entry) → Kind es → Other es) → Adds Kind Ends a b → AllByRecursion Other a.paths → AllByRecursion Other b.paths
adds_all Kind Ends Other a b f h k = subst (AllByRecursion Other) (sym h.is) (all_both Other a.paths h.more k (all_by Kind Other h.more f h.all))

-- so do the ends
pub adds_all_ends : (Kind Ends Other : List Entry → Type 0) (a b : BrokenPathsOf) → ((es : List Entry) → Ends es → Other es) → Adds Kind Ends a b → AllByRecursion Other a.ended → AllByRecursion Other b.ended
adds_all_ends Kind Ends Other a b f h k = subst (AllByRecursion Other) (sym h.ended_is) (all_both Other a.ended h.ends k (all_by Ends Other h.ends f h.all_ends))

-- ---- at a point

pub found_at : (Ends : List Entry → Type 0) (params n : ℕ) (pair_path : List (Seat × Seat)) (c : Conj) (p : List ℤ) (before after : BrokenPathsOf) → params ≡ n → IsPoint c p → after.paths ≡ before.paths ++ entries_at params p pair_path ∷ [] → after.ended ≡ before.ended
    → Adds (IsPathAt n pair_path c) Ends before after
found_at Ends params n pair_path c p before after e h is f = adds_one (IsPathAt n pair_path c) Ends before after (entries_at params p pair_path) is f (record { point = p; there = h; are = ap (λ (k : ℕ). entries_at k p pair_path) e })

-- ---- at a side

pub beside_some : (Ends : List Entry → Type 0) (n : ℕ) (pair_path t : List (Seat × Seat)) (c d : Conj) (parts more : List Part) (part : Part) (before now after : BrokenPathsOf) → Adds (IsPathBeside n pair_path c parts) Ends before now → t ≡ pair_path → d ≡ side_of c part → more ≡ parts ++ part ∷ []
    → Adds (IsPathAt n t d) Ends now after → Adds (IsPathBeside n pair_path c more) Ends before after
beside_some Ends n pair_path t c d parts more part before now after h e f m k =
    adds_then (IsPathBeside n pair_path c more) Ends before now after (adds_by (IsPathBeside n pair_path c parts) (IsPathBeside n pair_path c more) Ends before now (λ es x. record { part = x.part; among = subst (IsAmong x.part) (sym m) (first parts x.part x.among); at = x.at }) h)
    (adds_by (IsPathAt n t d) (IsPathBeside n pair_path c more) Ends now after
    (λ es x. record { part = part; among = subst (IsAmong part) (sym m) (last parts); at = record { point = x.point; there = subst (λ (y : Conj). IsPoint y x.point) f x.there; are = x.are ∙ ap (entries_at n x.point) e } }) k)
  where
    first : (xs : List Part) (y : Part) → IsAmong y xs → IsAmong y (xs ++ part ∷ [])
    first [] y i = absurd i
    first (x ∷ xs) y (inl i) = inl i
    first (x ∷ xs) y (inr i) = inr (first xs y i)

    last : (xs : List Part) → IsAmong part (xs ++ part ∷ [])
    last [] = inl refl
    last (x ∷ xs) = inr (last xs)

-- those of the first parts are of all
pub beside_all : (Ends : List Entry → Type 0) (n : ℕ) (pair_path : List (Seat × Seat)) (c : Conj) (parts all rest : List Part) (before after : BrokenPathsOf) → all ≡ parts ++ rest → Adds (IsPathBeside n pair_path c parts) Ends before after → Adds (IsPathBeside n pair_path c all) Ends before after
beside_all Ends n pair_path c parts all rest before after e h =
    adds_by (IsPathBeside n pair_path c parts) (IsPathBeside n pair_path c all) Ends before after (λ es x. record { part = x.part; among = subst (IsAmong x.part) (sym e) (first parts x.part x.among); at = x.at }) h
  where
    first : (xs : List Part) (y : Part) → IsAmong y xs → IsAmong y (xs ++ rest)
    first [] y i = absurd i
    first (x ∷ xs) y (inl i) = inl i
    first (x ∷ xs) y (inr i) = inr (first xs y i)

-- those at one part more
pub beside_more : (Ends : List Entry → Type 0) (n : ℕ) (pair_path : List (Seat × Seat)) (c : Conj) (parts more : List Part) (part : Part) (before now after : BrokenPathsOf) → more ≡ parts ++ part ∷ [] → Adds (IsPathBeside n pair_path c parts) Ends before now
    → Adds (IsPathBeside n pair_path c (part ∷ [])) Ends now after → Adds (IsPathBeside n pair_path c more) Ends before after
beside_more Ends n pair_path c parts more part before now after m h k =
    adds_then (IsPathBeside n pair_path c more) Ends before now after (beside_all Ends n pair_path c parts more (part ∷ []) before now m h)
    (adds_by (IsPathBeside n pair_path c (part ∷ [])) (IsPathBeside n pair_path c more) Ends now after (λ es x. record { part = x.part; among = subst (IsAmong x.part) (sym m) (last parts x.part x.among); at = x.at }) k)
  where
    last : (xs : List Part) (y : Part) → IsAmong y (part ∷ []) → IsAmong y (xs ++ part ∷ [])
    last [] y i = i
    last (x ∷ xs) y i = inr (last xs y i)
