-- Valuations that are listed, and tried one after another.
use Rattle.std.proofs.Common.{◌≡◌, ◌⊎◌, inl, inr, ◌<◌, ◌≤◌, ◌+◌, ℕ, zero, suc, ℤ, pos, negsuc, List, [], ◌∷◌, ◌++◌, map, take, length, get_or, Bool, true, false, cond, ◌&&◌, ◌||◌, FitsSigned, w64, refl, sym, ap, subst, ◌∙◌, append_assoc, append-nil, arith}
use Rattle.std.specs.Prelude.{MatchOption, None, Option, Some, filter}
use Rattle.std.specs.Cmp.Lexicographic.{pointwise}
use Rattle.std.specs.Cmp.Rules.{signed_items}
use Rattle.std.specs.List.{AllByRecursion, flat_map}
use Rattle.std.specs.Ordering.{int_eq}
use Rattle.std.specs.Set.{distinct_count, is_member, unique_keys}
use Rattle.std.proofs.lemmas.Bool.Decides.{nat_tests}
use Rattle.std.proofs.lemmas.Grind.{flat_map-append}
use Rattle.std.proofs.lemmas.List.{length-take, map-append, take_all, take_more}
use Rattle.std.proofs.lemmas.List.Elements.{filter-append}
use Rattle.std.proofs.lemmas.List.Folds.{list_all-append}
use Rattle.std.proofs.lemmas.Map.Made.{distinct_count-le}
use Rattle.ac_forms.specs.ListMembers.{IsAmong}
use Rattle.ac_instance.specs.Events.{fits_64}
use Rattle.ac_match.specs.declared.orders.Refuted.{Refuted}
use Rattle.ac_widen.specs.declared.derivation.Entry.{Entry}
use Rattle.ac_syntax.specs.declared.tree.Pair.{Pair}
use Rattle.ac_walk.specs.TriedValuations.{HoldsOfFirst, IsTriedToo, again, anew, NumberShowsNone, ShowNone, in_64_bits, valuations_in, valuations_of}
use Rattle.ac_walk.specs.OutputDecisions.{IsDifference}
use Rattle.ac_walk.specs.declared.differing.Difference.{Difference}
use Rattle.ac_report.specs.declared.types.Cause.{Cause}
use Rattle.ac_walk.proofs.Lists.{all_map, all_snoc}

-- ---- 64 bits

pub fits_true : (z : ℤ) → FitsSigned w64 z → fits_64 z ≡ true
fits_true (pos n) h = grind (arith, nat_tests, h)
fits_true (negsuc n) h = grind (arith, nat_tests, h)

pub fits_false : (z : ℤ) → (FitsSigned w64 z → ⊥) → fits_64 z ≡ false
fits_false (pos n) h = grind (arith, nat_tests, h)
fits_false (negsuc n) h = grind (arith, nat_tests, h)

-- one number that does not fit
pub one_wide : (xs : List ℤ) (i : ℕ) (d : ℤ) → i < length xs → fits_64 (get_or xs i d) ≡ false → in_64_bits xs ≡ false
one_wide [] i d l h = absurd (omega (arith, l))
one_wide (x ∷ xs) zero d l h = ap (λ b. b && in_64_bits xs) h
one_wide (x ∷ xs) (suc i) d l h = by (fits_64 x) (one_wide xs i d (omega (arith, l)) h)
  where
    by : (b : Bool) → in_64_bits xs ≡ false → (b && in_64_bits xs) ≡ false
    by true e = e
    by false e = refl

-- one more that fits
pub more_fit : (xs : List ℤ) (x : ℤ) → in_64_bits xs ≡ true → fits_64 x ≡ true → in_64_bits (xs ++ x ∷ []) ≡ true
more_fit xs x h k = list_all-append fits_64 xs (x ∷ []) ∙ ap (λ b. b && (fits_64 x && true)) h ∙ ap (λ b. b && true) k

-- ---- listed valuations

pub kept_wide : (at : List ℤ) → in_64_bits at ≡ false → filter in_64_bits (at ∷ []) ≡ []
kept_wide at h = ap (λ b. cond b (at ∷ []) []) h

pub kept_narrow : (at : List ℤ) → in_64_bits at ≡ true → filter in_64_bits (at ∷ []) ≡ at ∷ []
kept_narrow at h = ap (λ b. cond b (at ∷ []) []) h

-- behind earlier ones those of one more entry
pub one_entry_more : (params : ℕ) (before now after : List (List ℤ)) (es : List Entry) (i : ℕ) (e : Entry) → i < length es → e ≡ get_or es i e → now ≡ before ++ valuations_in params (take i es) → after ≡ now ++ filter in_64_bits (take params e.point ∷ [])
    → after ≡ before ++ valuations_in params (take (i + 1) es)
one_entry_more params before now after es i e l is h k =
    let f : Entry → List ℤ = λ x. take params x.point in
    let taken : take (i + 1) es ≡ take i es ++ e ∷ [] = take_more es i e l ∙ ap (λ x. take i es ++ x ∷ []) (sym is) in
    let both : valuations_in params (take (i + 1) es) ≡ valuations_in params (take i es) ++ filter in_64_bits (f e ∷ []) =
    ap (valuations_in params) taken ∙ ap (filter in_64_bits) (map-append f (take i es) (e ∷ [])) ∙ filter-append in_64_bits (map f (take i es)) (f e ∷ []) in
    k ∙ ap (λ zs. zs ++ filter in_64_bits (f e ∷ [])) h ∙ append_assoc before (valuations_in params (take i es)) (filter in_64_bits (f e ∷ [])) ∙ ap (λ zs. before ++ zs) (sym both)

-- those of one more derivation
pub one_order_more : (params : ℕ) (now after : List (List ℤ)) (rs : List Refuted) (i : ℕ) (r : Refuted) → i < length rs → r ≡ get_or rs i r → now ≡ flat_map (λ x. valuations_in params x.why.entries) (take i rs)
    → after ≡ now ++ valuations_in params r.why.entries → after ≡ flat_map (λ x. valuations_in params x.why.entries) (take (i + 1) rs)
one_order_more params now after rs i r l is h k =
    let f : Refuted → List (List ℤ) = λ x. valuations_in params x.why.entries in
    let taken : take (i + 1) rs ≡ take i rs ++ r ∷ [] = take_more rs i r l ∙ ap (λ x. take i rs ++ x ∷ []) (sym is) in
    let both : flat_map f (take (i + 1) rs) ≡ flat_map f (take i rs) ++ f r = ap (flat_map f) taken ∙ flat_map-append f (take i rs) (r ∷ []) ∙ ap (λ zs. flat_map f (take i rs) ++ zs) (append-nil (f r)) in
    k ∙ ap (λ zs. zs ++ f r) h ∙ sym both

-- ---- different ones

-- two valuations are one
abbrev same : List ℤ → List ℤ → Bool
same = pointwise int_eq

abbrev different_in : List (List ℤ) → ℕ
different_in = distinct_count same

same_is : (a b : List ℤ) → same a b ≡ true → a ≡ b
same_is a b = (signed_items a b).0

same_self : (a b : List ℤ) → a ≡ b → same a b ≡ true
same_self a b = (signed_items a b).1

same_turned : (a b : List ℤ) → same a b ≡ false → same b a ≡ false
same_turned a b h = by (same b a) refl
  where
    by : (c : Bool) → same b a ≡ c → c ≡ false
    by true e = let k : same a b ≡ true = same_self a b (sym (same_is b a e)) in absurd cc
    by false e = refl

or_false : (b c : Bool) → (b || c) ≡ false → (b ≡ false) × (c ≡ false)
or_false true c h = absurd cc
or_false false c h = (refl, h)

or_with_false : (b : Bool) → (b || false) ≡ b
or_with_false true = refl
or_with_false false = refl

member_last : (xs : List (List ℤ)) (x q : List ℤ) → is_member same (xs ++ x ∷ []) q ≡ (is_member same xs q || same q x)
member_last [] x q = or_with_false (same q x)
member_last (y ∷ xs) x q = by (same q y) (member_last xs x q)
  where
    by : (b : Bool) → is_member same (xs ++ x ∷ []) q ≡ (is_member same xs q || same q x) → (b || is_member same (xs ++ x ∷ []) q) ≡ ((b || is_member same xs q) || same q x)
    by true h = refl
    by false h = h

-- one that was not there
one_more_differs : (xs : List (List ℤ)) (x : List ℤ) → is_member same xs x ≡ false → different_in (xs ++ x ∷ []) ≡ suc (different_in xs)
one_more_differs [] x h = refl
one_more_differs (y ∷ xs) x h =
    let apart = or_false (same x y) (is_member same xs x) h in
    let there : is_member same (xs ++ x ∷ []) y ≡ is_member same xs y = member_last xs x y ∙ ap (λ b. is_member same xs y || b) (same_turned x y apart.0) ∙ or_with_false (is_member same xs y) in
    ap (λ b. length (cond b (unique_keys same (xs ++ x ∷ [])) (y ∷ unique_keys same (xs ++ x ∷ [])))) there ∙ by (is_member same xs y) (one_more_differs xs x apart.1)
  where
    by : (b : Bool) → different_in (xs ++ x ∷ []) ≡ suc (different_in xs)
        → length (cond b (unique_keys same (xs ++ x ∷ [])) (y ∷ unique_keys same (xs ++ x ∷ []))) ≡ suc (length (cond b (unique_keys same xs) (y ∷ unique_keys same xs)))
    by true r = r
    by false r = ap suc r

-- one more leaves no fewer
no_fewer : (xs : List (List ℤ)) (x : List ℤ) → different_in xs ≤ different_in (xs ++ x ∷ [])
no_fewer [] x = omega arith
no_fewer (y ∷ xs) x = by (is_member same xs y) (is_member same (xs ++ x ∷ []) y) refl refl (no_fewer xs x)
  where
    now_there : is_member same xs y ≡ false → is_member same (xs ++ x ∷ []) y ≡ true → different_in (xs ++ x ∷ []) ≡ suc (different_in xs)
    now_there b c =
        let last : same y x ≡ true = ap (λ d. d || same y x) (sym b) ∙ sym (member_last xs x y) ∙ c in
        one_more_differs xs x (subst (λ z. is_member same xs z ≡ false) (same_is y x last) b)

    by : (b c : Bool) → is_member same xs y ≡ b → is_member same (xs ++ x ∷ []) y ≡ c → different_in xs ≤ different_in (xs ++ x ∷ [])
        → length (cond b (unique_keys same xs) (y ∷ unique_keys same xs)) ≤ length (cond c (unique_keys same (xs ++ x ∷ [])) (y ∷ unique_keys same (xs ++ x ∷ [])))
    by true true b c r = r
    by true false b c r = omega (arith, r)
    by false true b c r = let e = now_there b c in omega (arith, e)
    by false false b c r = omega (arith, r)

-- ---- one after another

-- of those that are done each was tried, fewer or as many as there are different ones, and it holds of them
pub record HaveTried (P : List ℤ → Type 0) (tried done : List (List ℤ)) : Type 0 where
  pub members : (q : List ℤ) → is_member same done q ≡ true → is_member same tried q ≡ true
  pub fewer : length tried ≤ different_in done
  pub none : AllByRecursion P tried
  pub holds : AllByRecursion P done

pub none_tried : (P : List ℤ → Type 0) → HaveTried P [] []
none_tried P = record { members = λ q h. h; fewer = omega arith; none = tt; holds = tt }

all_member : (P : List ℤ → Type 0) (xs : List (List ℤ)) (q : List ℤ) → AllByRecursion P xs → is_member same xs q ≡ true → P q
all_member P [] q h m = absurd cc
all_member P (x ∷ xs) q h m = by (same q x) refl m (all_member P xs q h.1)
  where
    by : (b : Bool) → same q x ≡ b → (b || is_member same xs q) ≡ true → (is_member same xs q ≡ true → P q) → P q
    by true e k rest = subst P (sym (same_is q x e)) h.0
    by false e k rest = rest k

is_there : (xs ys : List (List ℤ)) (x q : List ℤ) → ((z : List ℤ) → is_member same xs z ≡ true → is_member same ys z ≡ true) → is_member same ys x ≡ true → is_member same (xs ++ x ∷ []) q ≡ true → is_member same ys q ≡ true
is_there xs ys x q h k m = by (is_member same xs q) refl (sym (member_last xs x q) ∙ m)
  where
    by : (b : Bool) → is_member same xs q ≡ b → (b || same q x) ≡ true → is_member same ys q ≡ true
    by true e n = h q e
    by false e n = subst (λ z. is_member same ys z ≡ true) (sym (same_is q x n)) k

last_there : (xs : List (List ℤ)) (x : List ℤ) → is_member same (xs ++ x ∷ []) x ≡ true
last_there xs x = member_last xs x x ∙ ap (λ b. is_member same xs x || b) (same_self x x refl) ∙ by (is_member same xs x)
  where
    by : (b : Bool) → (b || true) ≡ true
    by true = refl
    by false = refl

front_there : (xs : List (List ℤ)) (x q : List ℤ) → is_member same xs q ≡ true → is_member same (xs ++ x ∷ []) q ≡ true
front_there xs x q h = member_last xs x q ∙ ap (λ b. b || same q x) h

tried_again : (P : List ℤ → Type 0) (tried done : List (List ℤ)) (at : List ℤ) → HaveTried P tried done → is_member same tried at ≡ true → HaveTried P tried (done ++ at ∷ [])
tried_again P tried done at h m = record {
  members = λ q. is_there done tried at q h.members m;
  fewer = let a = h.fewer in let b = no_fewer done at in omega (arith, a, b);
  none = h.none;
  holds = all_snoc P done at h.holds (all_member P tried at h.none m);
}

tried_anew : (P : List ℤ → Type 0) (tried done : List (List ℤ)) (at : List ℤ) → HaveTried P tried done → is_member same tried at ≡ false → P at → HaveTried P (tried ++ at ∷ []) (done ++ at ∷ [])
tried_anew P tried done at h m p = record {
  members = λ q. is_there done (tried ++ at ∷ []) at q (λ z k. front_there tried at z (h.members z k)) (last_there tried at);
  fewer = let a = h.fewer in let b = one_more_differs done at (not_done (is_member same done at) refl) in let c = length_last tried in omega (arith, a, b, c);
  none = all_snoc P tried at h.none p;
  holds = all_snoc P done at h.holds p;
}
  where
    not_done : (b : Bool) → is_member same done at ≡ b → b ≡ false
    not_done true e = let k : is_member same tried at ≡ true = h.members at e in absurd cc
    not_done false e = refl

    length_last : (xs : List (List ℤ)) → length (xs ++ at ∷ []) ≡ suc (length xs)
    length_last [] = refl
    length_last (x ∷ xs) = ap suc (length_last xs)

pub one_tried : (pair : Pair) (number : ℕ) (before after done : List (List ℤ)) (at : List ℤ) → HaveTried (NumberShowsNone pair number) before done → IsTriedToo pair number before at after → HaveTried (NumberShowsNone pair number) after (done ++ at ∷ [])
one_tried pair number before after done at h (again m e) = subst (λ (t : List (List ℤ)). HaveTried (NumberShowsNone pair number) t (done ++ at ∷ [])) (sym e) (tried_again (NumberShowsNone pair number) before done at h m)
one_tried pair number before after done at h (anew m p e) = subst (λ (t : List (List ℤ)). HaveTried (NumberShowsNone pair number) t (done ++ at ∷ [])) (sym e) (tried_anew (NumberShowsNone pair number) before done at h m p)

-- the next of a list
pub next_tried : (pair : Pair) (number : ℕ) (before after all : List (List ℤ)) (i : ℕ) (at : List ℤ) → i < length all → at ≡ get_or all i at → HaveTried (NumberShowsNone pair number) before (take i all) → IsTriedToo pair number before at after
    → HaveTried (NumberShowsNone pair number) after (take (i + 1) all)
next_tried pair number before after all i at l is h k =
    let taken : take (i + 1) all ≡ take i all ++ at ∷ [] = take_more all i at l ∙ ap (λ x. take i all ++ x ∷ []) (sym is) in
    subst (λ (d : List (List ℤ)). HaveTried (NumberShowsNone pair number) after d) (sym taken) (one_tried pair number before after (take i all) at h k)

-- so many are tried, or all
pub enough_tried : (P : List ℤ → Type 0) (tried all : List (List ℤ)) (i most : ℕ) → HaveTried P tried (take i all) → most ≤ length tried → HoldsOfFirst P most all
enough_tried P tried all i most h m = record { count = i; holds = h.holds; enough = inr (let a = h.fewer in omega (arith, a, m)) }

pub all_tried : (P : List ℤ → Type 0) (tried all : List (List ℤ)) (i most : ℕ) → HaveTried P tried (take i all) → length all ≤ i → HoldsOfFirst P most all
all_tried P tried all i most h l = record { count = i; holds = h.holds; enough = inl l }

-- where it holds of so many different ones of a list as it is long, it holds of all
pub holds_of_all : (P : List ℤ → Type 0) (all : List (List ℤ)) → HoldsOfFirst P (length all) all → AllByRecursion P all
holds_of_all P all h = subst (AllByRecursion P) (take_all h.count all (by h.enough)) h.holds
  where
    by : (length all ≤ h.count) ⊎ (length all ≤ different_in (take h.count all)) → length all ≤ h.count
    by (inl l) = l
    by (inr m) = let a = distinct_count-le same (take h.count all) in let b = length-take h.count all in omega (arith, a, b, m)

-- what holds of the first of a list, where something else does
pub holds_too : (P Q : List ℤ → Type 0) (most : ℕ) (all : List (List ℤ)) → ((at : List ℤ) → P at → Q at) → HoldsOfFirst P most all → HoldsOfFirst Q most all
holds_too P Q most all f h = record { count = h.count; holds = all_map P Q (take h.count all) f h.holds; enough = h.enough }

-- neither the derivations nor the samples show a difference
pub none_shown : (pair : Pair) (samples listed : List (List ℤ)) (number most : ℕ) (cause : Cause) (found : Option Difference) → most ≡ length samples → listed ≡ valuations_of (length pair.left.params) cause → HoldsOfFirst (NumberShowsNone pair number) 16 listed
    → MatchOption found (HoldsOfFirst (NumberShowsNone pair number) most samples) (IsDifference pair number) → MatchOption found (ShowNone pair samples number cause) (IsDifference pair number)
none_shown pair samples listed number most cause None e is l h = record {
  samples_show = holds_of_all (NumberShowsNone pair number) samples (subst (λ n. HoldsOfFirst (NumberShowsNone pair number) n samples) e h);
  listed_show = subst (HoldsOfFirst (NumberShowsNone pair number) 16) is l;
}
none_shown pair samples listed number most cause (Some d) e is l h = h

pub all_among : (P : List ℤ → Type 0) (all : List (List ℤ)) (at : List ℤ) → IsAmong at all → AllByRecursion P all → P at
all_among P [] at i h = absurd i
all_among P (x ∷ xs) at (inl e) h = subst P (sym e) h.0
all_among P (x ∷ xs) at (inr i) h = all_among P xs at i h.1
