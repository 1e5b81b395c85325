-- Widening points by their numbers, and their claims.
use Rattle.std.proofs.Common.{◌≡◌, ◌↔◌, ◌⊎◌, inl, inr, ◌<◌, ℕ, zero, suc, ◌+◌, List, [], ◌∷◌, ◌++◌, length, take, get_or, Bool, true, false, Some, refl, sym, ap, subst, ◌∙◌, arith}
use Rattle.std.specs.Prelude.{slice_get}
use mathlib.Core.Bool.{beq}
use Rattle.std.proofs.Math.Seq.{take-length}
use Rattle.ac_forms.specs.ListMembers.{IsAmong}
use Rattle.ac_claims.specs.declared.types.Claim.{Claim}
use Rattle.ac_walk_state.specs.RecurrencePairs.{WideningPointOf, claim_of}
use Rattle.ac_walk.specs.Ranks.{AreClaimsAt, AreRanks, IsBare, IsClaimAt, Within}
use Rattle.ac_walk.proofs.Lists.{all_snoc, among_get, get_among, get_some, get_within, take_more}

-- each widening point has a member or none
bare_or_not : (widening_point : WideningPointOf) → IsBare true widening_point ⊎ IsBare false widening_point
bare_or_not widening_point = by widening_point.hull.members refl
  where
    by : (ps : List _) → widening_point.hull.members ≡ ps → IsBare true widening_point ⊎ IsBare false widening_point
    by [] e = inl e
    by (p ∷ ps) e = inr (λ n. absurd cc)

-- ---- claims

pub claim_there : (widening_points : List WideningPointOf) (numbers : List ℕ) (claims : List Claim) (at n : ℕ) → AreClaimsAt widening_points numbers claims → slice_get numbers at ≡ Some n → (c : Claim) × (slice_get claims at ≡ Some c) × IsClaimAt widening_points n c
claim_there widening_points [] claims at n h e = absurd cc
claim_there widening_points (m ∷ ns) [] at n h e = absurd h
claim_there widening_points (m ∷ ns) (c ∷ cs) zero n h e = let s : m ≡ n = cc in (c, refl, subst (λ k. IsClaimAt widening_points k c) s h.0)
claim_there widening_points (m ∷ ns) (c ∷ cs) (suc at) n h e = claim_there widening_points ns cs at n h.1 e

-- each claim is that of a widening point
pub claim_of_key : (widening_points : List WideningPointOf) (numbers : List ℕ) (claims : List Claim) (c : Claim) → AreClaimsAt widening_points numbers claims → IsAmong c claims → (n : ℕ) × IsClaimAt widening_points n c
claim_of_key widening_points [] [] c h m = absurd m
claim_of_key widening_points [] (d ∷ cs) c h m = absurd h
claim_of_key widening_points (n ∷ ns) [] c h m = absurd m
claim_of_key widening_points (n ∷ ns) (d ∷ cs) c h (inl e) = (n, subst (IsClaimAt widening_points n) (sym e) h.0)
claim_of_key widening_points (n ∷ ns) (d ∷ cs) c h (inr m) = claim_of_key widening_points ns cs c h.1 m

-- and each widening point has its claim there
pub key_has_claim : (widening_points : List WideningPointOf) (numbers : List ℕ) (claims : List Claim) (widening_point : WideningPointOf) → AreRanks widening_points numbers → AreClaimsAt widening_points numbers claims → IsAmong widening_point widening_points → IsAmong (claim_of widening_point) claims
key_has_claim widening_points numbers claims widening_point r h m =
    let at = among_get widening_points widening_point m in
    let number = among_get numbers at.0 (r.whole at.0 (get_within widening_points at.0 widening_point at.1)) in
    let there = claim_there widening_points numbers claims number.0 at.0 h number.1 in
    let same : there.2.0 ≡ widening_point = (let a = there.2.1 in let b = at.1 in cc) in
    let is : there.0 ≡ claim_of widening_point = there.2.2 ∙ ap claim_of same in
    subst (λ (c : Claim). IsAmong c claims) is (get_among claims number.0 there.0 there.1)

pub counted : (widening_points : List WideningPointOf) (numbers : List ℕ) (claims : List Claim) → AreClaimsAt widening_points numbers claims → length numbers ≡ length claims
counted widening_points [] [] h = refl
counted widening_points [] (c ∷ cs) h = absurd h
counted widening_points (n ∷ ns) [] h = absurd h
counted widening_points (n ∷ ns) (c ∷ cs) h = let r = counted widening_points ns cs h.1 in omega (arith, r)

pub all_ranks : (widening_points : List WideningPointOf) (numbers first : List ℕ) → Within widening_points numbers → ((n : ℕ) → IsAmong n first → IsAmong n numbers)
    → ((n : ℕ) (widening_point : WideningPointOf) → slice_get widening_points n ≡ Some widening_point → IsBare false widening_point → IsAmong n first) → ((n : ℕ) (widening_point : WideningPointOf) → slice_get widening_points n ≡ Some widening_point → IsBare true widening_point → IsAmong n numbers) → AreRanks widening_points numbers
all_ranks widening_points numbers first within kept some none = record {
  within = within;
  whole = λ n l. elim (at n l) [ inl b ↦ none n _ (widening_point_at n l).1 b | inr b ↦ kept n (some n _ (widening_point_at n l).1 b) ];
}
  where
    found : (ks : List WideningPointOf) (n : ℕ) → n < length ks → (widening_point : WideningPointOf) × (slice_get ks n ≡ Some widening_point)
    found [] n l = absurd (omega (arith, l))
    found (k ∷ ks) zero l = (k, refl)
    found (k ∷ ks) (suc n) l = found ks n (omega (arith, l))

    widening_point_at : (n : ℕ) → n < length widening_points → (widening_point : WideningPointOf) × (slice_get widening_points n ≡ Some widening_point)
    widening_point_at n l = found widening_points n l

    at : (n : ℕ) (l : n < length widening_points) → IsBare true (widening_point_at n l).0 ⊎ IsBare false (widening_point_at n l).0
    at n l = bare_or_not (widening_point_at n l).0

-- ---- numbers, one by one

-- the numbers of the first i widening points that are bare, or are not, are added to others
pub record Numbered (widening_points : List WideningPointOf) (bare : Bool) (old : List ℕ) (i : ℕ) (new : List ℕ) : Type 0 where
  pub within : Within widening_points old → Within widening_points new
  pub kept : (n : ℕ) → IsAmong n old → IsAmong n new
  pub whole : (n : ℕ) (widening_point : WideningPointOf) → n < i → slice_get widening_points n ≡ Some widening_point → IsBare bare widening_point → IsAmong n new

pub none_numbered : (widening_points : List WideningPointOf) (bare : Bool) (old : List ℕ) → Numbered widening_points bare old 0 old
none_numbered widening_points bare old = record { within = λ h. h; kept = λ n h. h; whole = λ n widening_point l. absurd (omega (arith, l)) }

among_snoc : (xs : List ℕ) (y n : ℕ) → IsAmong n xs → IsAmong n (xs ++ y ∷ [])
among_snoc [] y n h = absurd h
among_snoc (x ∷ xs) y n (inl e) = inl e
among_snoc (x ∷ xs) y n (inr h) = inr (among_snoc xs y n h)

last_among : (xs : List ℕ) (y : ℕ) → IsAmong y (xs ++ y ∷ [])
last_among [] y = inl refl
last_among (x ∷ xs) y = inr (last_among xs y)

below_or_at : (n i : ℕ) → n < i + 1 → (n < i) ⊎ (n ≡ i)
below_or_at zero zero l = inr refl
below_or_at zero (suc i) l = inl (omega arith)
below_or_at (suc n) zero l = absurd (omega (arith, l))
below_or_at (suc n) (suc i) l = elim (below_or_at n i (omega (arith, l))) [ inl k ↦ inl (omega (arith, k)) | inr e ↦ inr (ap (λ (x : ℕ). suc x) e) ]

-- with the number of a further one
pub one_numbered : (widening_points : List WideningPointOf) (bare : Bool) (old : List ℕ) (i : ℕ) (made new : List ℕ) → i < length widening_points → Numbered widening_points bare old i made → new ≡ made ++ i ∷ [] → Numbered widening_points bare old (i + 1) new
one_numbered widening_points bare old i made new l h is = record {
  within = λ w. subst (Within widening_points) (sym is) (all_snoc (λ (n : ℕ). n < length widening_points) made i (h.within w) l);
  kept = λ n k. subst (IsAmong n) (sym is) (among_snoc made i n (h.kept n k));
  whole = λ n widening_point below e b. elim (below_or_at n i below) [
    | inl k ↦ subst (IsAmong n) (sym is) (among_snoc made i n (h.whole n widening_point k e b))
    | inr same ↦ subst (IsAmong n) (sym is) (subst (λ (m : ℕ). IsAmong m (made ++ i ∷ [])) (sym same) (last_among made i))
  ];
}

-- and without it, where the widening point is not so
pub next_numbered : (widening_points : List WideningPointOf) (bare : Bool) (old : List ℕ) (i : ℕ) (made new : List ℕ) (widening_point : WideningPointOf) → new ≡ made → slice_get widening_points i ≡ Some widening_point → ¬ (IsBare bare widening_point) → Numbered widening_points bare old i made → Numbered widening_points bare old (i + 1) new
next_numbered widening_points bare old i made new widening_point is at other h = subst (Numbered widening_points bare old (i + 1)) (sym is) (record {
  within = h.within;
  kept = h.kept;
  whole = λ n k below e b. elim (below_or_at n i below) [
    | inl less ↦ h.whole n k less e b
    | inr same ↦ absurd (other (subst (IsBare bare) (one n k e same) b))
  ];
})
  where
    one : (n : ℕ) (k : WideningPointOf) → slice_get widening_points n ≡ Some k → n ≡ i → k ≡ widening_point
    one n k e same = let f : slice_get widening_points i ≡ Some k = subst (λ (m : ℕ). slice_get widening_points m ≡ Some k) same e in cc

pub apart : (a b : Bool) → beq a b ≡ false → ¬ (a ≡ b)
apart true true h e = absurd cc
apart true false h e = absurd cc
apart false true h e = absurd cc
apart false false h e = absurd cc

-- what a test of a widening point says of it
pub not_bare : (empty bare : Bool) (widening_point : WideningPointOf) → (empty ≡ true) ↔ (widening_point.hull.members ≡ []) → ¬ (empty ≡ bare) → ¬ (IsBare bare widening_point)
not_bare empty true widening_point e n b = n (e.1 b)
not_bare true false widening_point e n b = b (e.0 refl)
not_bare false false widening_point e n b = n refl

-- ---- claims, one by one

pub claims_more : (widening_points : List WideningPointOf) (numbers : List ℕ) (i : ℕ) (made new : List Claim) (c : Claim) (n : ℕ) → i < length numbers → n ≡ get_or numbers i 0 → IsClaimAt widening_points n c → AreClaimsAt widening_points (take i numbers) made → new ≡ made ++ c ∷ [] → AreClaimsAt widening_points (take (i + 1) numbers) new
claims_more widening_points numbers i made new c n l e is h grown =
    let same : slice_get numbers i ≡ Some n = get_some numbers i 0 l ∙ ap Some (sym e) in
    subst (λ ns. AreClaimsAt widening_points ns new) (sym (take_more numbers i n same)) (subst (AreClaimsAt widening_points (take i numbers ++ n ∷ [])) (sym grown) (snoc (take i numbers) made h))
  where
    snoc : (ns : List ℕ) (cs : List Claim) → AreClaimsAt widening_points ns cs → AreClaimsAt widening_points (ns ++ n ∷ []) (cs ++ c ∷ [])
    snoc [] [] k = (is, tt)
    snoc [] (d ∷ cs) k = absurd k
    snoc (m ∷ ns) [] k = absurd k
    snoc (m ∷ ns) (d ∷ cs) k = (k.0, snoc ns cs k.1)

pub claims_whole : (widening_points : List WideningPointOf) (numbers : List ℕ) (i : ℕ) (made : List Claim) → length numbers ≡ i → AreClaimsAt widening_points (take i numbers) made → AreClaimsAt widening_points numbers made
claims_whole widening_points numbers i made e h = subst (λ ns. AreClaimsAt widening_points ns made) (ap (λ (n : ℕ). take n numbers) (sym e) ∙ take-length numbers) h
