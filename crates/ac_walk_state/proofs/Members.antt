-- What is kept with a further member.
use Rattle.std.proofs.Common.{◌≡◌, ◌⊎◌, inl, inr, ℕ, ◌+◌, ℤ, List, [], ◌∷◌, ◌++◌, length, Bool, true, false, MatchBool, if◌then◌else◌, refl, ap, sym, ◌∙◌, subst, arith, length-append}
use Rattle.std.specs.Prelude.{◌↔◌, IsTrue}
use Rattle.ac_forms.specs.ListMembers.{IsAmong}
use Rattle.ac_forms.specs.Rows.{AreRowsOver}
use Rattle.ac_forms.specs.declared.row.Row.{Row}
use Rattle.ac_hull.specs.Hulls.{HullOf, IsGrown, IsWithin}
use Rattle.ac_hull.proofs.Among.{among_front, among_back}
use Rattle.ac_hull.proofs.Facts.{each_snoc}
use Rattle.ac_widen.specs.Combinations.{Each, IsCombination}
use Rattle.ac_widen.proofs.Combining.{each_map, first_of_some}
use Rattle.ac_walk_state.specs.RecurrencePairs.{AreKept, WideningPointOf}
use Rattle.ac_walk_state.specs.RecurrencePairInvariant.{IsWith}

-- the hull behind a point
pub record IsAdded (old : HullOf) (p : List ℤ) (grew : Bool) (new : HullOf) : Type 0 where
  pub is : MatchBool grew (IsGrown old p new) (IsWithin old p new)

columns_by : (old new : HullOf) (p : List ℤ) (grew : Bool) → MatchBool grew (IsGrown old p new) (IsWithin old p new) → new.columns ≡ old.columns
columns_by old new p true h = ap (λ v. v.columns) h.1
columns_by old new p false h = ap (λ v. v.columns) h.1

pub columns_stay : (old new : HullOf) (p : List ℤ) (grew : Bool) → IsAdded old p grew new → new.columns ≡ old.columns
columns_stay old new p grew h = columns_by old new p grew h.is

still_among : (members : List (List ℤ)) (p : List ℤ) (own : List (List ℤ)) → Each (λ q. IsAmong q members) own → Each (λ q. IsAmong q (members ++ p ∷ [])) own
still_among members p own h = each_map (λ q. IsAmong q members) (λ q. IsAmong q (members ++ p ∷ [])) own (λ q a. among_front q members (p ∷ []) a) h

among_by : (old new : HullOf) (p : List ℤ) (grew : Bool) (members : List (List ℤ)) → MatchBool grew (IsGrown old p new) (IsWithin old p new) → Each (λ q. IsAmong q members) old.members → Each (λ q. IsAmong q (members ++ p ∷ [])) new.members
among_by old new p true members h a =
    let e : new.members ≡ old.members ++ p ∷ [] = ap (λ v. v.members) h.1 in
    rw e (each_snoc (λ q. IsAmong q (members ++ p ∷ [])) old.members p (still_among members p old.members a) (among_back p members (p ∷ []) (inl refl)))
among_by old new p false members h a = let e : new.members ≡ old.members = ap (λ v. v.members) h.1 in rw e (still_among members p old.members a)

-- the members of the hull are among the found ones
pub among_with : (old new : HullOf) (p : List ℤ) (grew : Bool) (members more_ : List (List ℤ)) → IsAdded old p grew new → more_ ≡ members ++ p ∷ [] → Each (λ q. IsAmong q members) old.members → Each (λ q. IsAmong q more_) new.members
among_with old new p grew members more_ h e a = rw e (among_by old new p grew members h.is a)

-- each member has a number for each column
pub widths_with : (old new : HullOf) (p : List ℤ) (grew : Bool) (members more_ : List (List ℤ)) → IsAdded old p grew new → more_ ≡ members ++ p ∷ [] → length p ≡ old.columns → Each (λ q. length q ≡ old.columns) members
    → Each (λ q. length q ≡ new.columns) more_
widths_with old new p grew members more_ h e l w = rw (e, columns_stay old new p grew h) (each_snoc (λ q. length q ≡ old.columns) members p w l)

kept_by : (old new : HullOf) (p : List ℤ) (grew : Bool) (kept own : List ℕ) (n : ℕ) → MatchBool grew (IsGrown old p new) (IsWithin old p new) → own ≡ (if grew then kept ++ n ∷ [] else kept) → length kept ≡ length old.members → length own ≡ length new.members
kept_by old new p true kept own n h e l =
    let m : new.members ≡ old.members ++ p ∷ [] = ap (λ v. v.members) h.1 in
    let a : length own ≡ length kept + 1 = ap length e ∙ length-append kept (n ∷ []) in
    let b : length new.members ≡ length old.members + 1 = ap length m ∙ length-append old.members (p ∷ []) in
    omega arith
kept_by old new p false kept own n h e l = let m : new.members ≡ old.members = ap (λ v. v.members) h.1 in ap length e ∙ l ∙ sym (ap length m)

snoc_some : (members : List (List ℤ)) (p : List ℤ) → ¬ (members ++ p ∷ [] ≡ [])
snoc_some [] p e = absurd cc
snoc_some (q ∷ members) p e = absurd cc

some_by : (old new : HullOf) (p : List ℤ) (grew : Bool) → MatchBool grew (IsGrown old p new) (IsWithin old p new) → ¬ (new.members ≡ [])
some_by old new p true h e = snoc_some old.members p (sym (ap (λ (v : HullOf). v.members) h.1) ∙ e)
some_by old new p false h e = first_of_some p h.0.0 h.0.1 (subst (IsCombination p h.0.0 h.0.1) (sym (ap (λ (v : HullOf). v.members) h.1) ∙ e) h.0.2)

-- there is no member exactly where the hull has none
none_among : (own members : List (List ℤ)) → Each (λ p. IsAmong p members) own → members ≡ [] → own ≡ []
none_among [] members a e = refl
none_among (p ∷ own) members a e = absurd (subst (IsAmong p) e a.0)

pub none_found : (hull : HullOf) (members : List (List ℤ)) (places kept : List ℕ) (rows : List Row) (empty : Bool) → AreKept hull members places kept rows → IsTrue empty ↔ (hull.members ≡ []) → IsTrue empty ↔ (members ≡ [])
none_found hull members places kept rows empty k h = ((λ t. k.none (h.0 t)), (λ e. h.1 (none_among hull.members members k.among e)))

-- and all is kept as it is to be
pub kept_with : (old new : HullOf) (p : List ℤ) (grew : Bool) (members more_ : List (List ℤ)) (places all kept own : List ℕ) (n : ℕ) (rows made : List Row) → AreKept old members places kept rows → IsAdded old p grew new → length p ≡ old.columns
    → more_ ≡ members ++ p ∷ [] → all ≡ places ++ n ∷ [] → own ≡ (if grew then kept ++ n ∷ [] else kept) → AreRowsOver new.columns made → AreKept new more_ all own made
kept_with old new p grew members more_ places all kept own n rows made k h l m a o over = record {
  among = among_with old new p grew members more_ h m k.among;
  none = λ e. absurd (some_by old new p grew h.is e);
  widths = widths_with old new p grew members more_ h m l k.widths;
  entries =
      let x : length all ≡ length places + 1 = ap length a ∙ length-append places (n ∷ []) in
      let y : length more_ ≡ length members + 1 = ap length m ∙ length-append members (p ∷ []) in
      let e = k.entries in
      omega arith;
  own_entries = kept_by old new p grew kept own n h.is o k.own_entries;
  over = over;
}

with_by : (old new : HullOf) (p : List ℤ) (grew : Bool) (kept own : List ℕ) (n : ℕ) → MatchBool grew (IsGrown old p new) (IsWithin old p new) → own ≡ (if grew then kept ++ n ∷ [] else kept)
    → (IsGrown old p new × (own ≡ kept ++ n ∷ [])) ⊎ (IsWithin old p new × (own ≡ kept))
with_by old new p true kept own n h e = inl (h, e)
with_by old new p false kept own n h e = inr (h, e)

-- the point is a further member
pub is_with : (old : WideningPointOf) (p : List ℤ) (place : ℕ) (grew : Bool) (hull : HullOf) (members : List (List ℤ)) (places kept : List ℕ) (rows : List Row) → IsAdded old.hull p grew hull → members ≡ old.members ++ p ∷ [] → places ≡ old.places ++ place ∷ []
    → kept ≡ (if grew then old.kept ++ place ∷ [] else old.kept) → IsWith old p place (record { left = old.left; right = old.right; hull = hull; members = members; places = places; kept = kept; rows = rows })
is_with old p place grew hull members places kept rows h m a o = record { left = refl; right = refl; members = m; places = a; hull = with_by old.hull hull p grew old.kept kept place h.is o }
