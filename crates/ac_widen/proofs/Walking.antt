-- One turn of the walk: the claims of what is kept, a found path, and a found member.
use Rattle.std.proofs.Common.{◌≡◌, ◌⊎◌, ◌↔◌, inl, inr, ℕ, ◌+◌, ◌<◌, ◌≤◌, ℤ, pos, negsuc, List, [], ◌∷◌, ◌++◌, length, map, zip, true, refl, ap, sym, ◌∙◌, arith, length-append}
use Rattle.std.proofs.lemmas.Int.{ints}
use Rattle.ac_syntax.specs.declared.tree.Order.{Order}
use Rattle.ac_forms.specs.Affine.{Affine, value_at}
use Rattle.ac_forms.specs.Rows.{Holds, Meets}
use Rattle.ac_forms.specs.declared.row.Row.{Row}
use Rattle.ac_forms.specs.declared.row.Row.TheVariants.{Eq, Ge}
use Rattle.ac_forms.specs.ListMembers.{IsAmong}
use Rattle.ac_widen.specs.Combinations.{IsCombination, InHull, Each}
use Rattle.ac_widen.specs.Setting.{Setting}
use Rattle.ac_widen.specs.Claims.{IsClaimRow, IsClaimOf}
use Rattle.ac_widen.specs.Derivations.{EntryOf, StandsAt, IsDerivation}
use Rattle.ac_widen.specs.declared.derivation.Reason.TheVariants.{Output, Hull}
use Rattle.ac_widen.specs.Narrowing.{narrowed}
use Rattle.ac_widen.specs.DerivationPaths.{StepsOn, path_entries, AreAt}
use Rattle.ac_widen.specs.Walks.{Kept, rows_with, rows_of, narrowed_by, IsKept, room_with, room_of, Adds, within, grown}
use Rattle.ac_widen.proofs.Combining.{first_of_some}
use Rattle.ac_widen.proofs.Deriving.{get_last, one_more, path_more, hull_justified, are_still_at}
use Rattle.ac_widen.proofs.Narrowings.{narrowed_among, among_narrowed, narrowed_length, narrowed_falls}
use Rattle.ac_widen.proofs.Tests.{holds_or}

-- a row is left exactly where it is a template row that all found members meet
pub left_among : (rows : List Row) (ps : List (List ℤ)) (r : Row) → IsAmong r (narrowed_by rows ps) → IsAmong r rows × Each (Holds r) ps
left_among rows [] r a = (a, tt)
left_among rows (p ∷ ps) r a =
    let x = left_among (narrowed rows p) ps r a in
    let y = narrowed_among rows p r x.0 in
    (y.0, (y.1, x.1))

pub among_left : (rows : List Row) (ps : List (List ℤ)) (r : Row) → IsAmong r rows → Each (Holds r) ps → IsAmong r (narrowed_by rows ps)
among_left rows [] r a h = a
among_left rows (p ∷ ps) r a h = among_left (narrowed rows p) ps r (among_narrowed rows p r a h.0) h.1

narrowed_snoc : (rows : List Row) (ps : List (List ℤ)) (p : List ℤ) → narrowed_by rows (ps ++ p ∷ []) ≡ narrowed (narrowed_by rows ps) p
narrowed_snoc rows [] p = refl
narrowed_snoc rows (q ∷ ps) p = narrowed_snoc (narrowed rows q) ps p

left_length : (rows : List Row) (ps : List (List ℤ)) → length (narrowed_by rows ps) ≤ length rows
left_length rows [] = omega arith
left_length rows (p ∷ ps) = omega (arith, left_length (narrowed rows p) ps, narrowed_length rows p)

meets_parts : (es : List Affine) (left : List Row) (q : List ℤ) → Meets (map Eq es ++ left) q → Each (λ f. value_at f q ≡ pos 0) es × Meets left q
meets_parts [] left q m = (tt, m)
meets_parts (f ∷ es) left q m = let r = meets_parts es left q m.1 in ((m.0, r.0), r.1)

meets_among : (rows : List Row) (q : List ℤ) (r : Row) → Meets rows q → IsAmong r rows → Holds r q
meets_among [] q r m a = absurd a
meets_among (x ∷ rows) q r m (inl e) = rw e m.0
meets_among (x ∷ rows) q r m (inr a) = meets_among rows q r m.1 a

abbrev never : Row
never = Ge (record { konst = negsuc 0; coefs = [] })

never_holds : (q : List ℤ) → ¬ (Holds never q)
never_holds q h = absurd (omega (arith, ints, h))

met_rows : (found : List (List ℤ)) (rows : List Row) (q : List ℤ) → Meets (rows_with found rows) q → (¬ (found ≡ [])) × Meets rows q
met_rows [] rows q m = absurd (never_holds q m.0)
met_rows (p ∷ ps) rows q m = ((λ e. absurd cc), m)

module _ {K : Type 0} (s : Setting K) (es : List (EntryOf K)) (k : K) (c : Kept) (is : IsKept s es k c) where
  -- the rows of what is kept are the claim of the found members
  pub kept_claim : IsClaimOf (s.width k) (s.template k) c.members c.found (rows_of c)
  kept_claim = record {
    hull = λ q l m. let a = met_rows c.members (map Eq c.equalities ++ c.rows) q m in (is.hull q l a.0).0 (meets_parts c.equalities c.rows q a.1).0;
    narrowed = λ r q l a h m.
        let b = met_rows c.members (map Eq c.equalities ++ c.rows) q m in
        let n : IsAmong r c.left = rw is.left (among_left (s.template k) c.found r a h) in
        let x = meets_parts c.equalities c.rows q b.1 in
        is.follow r q n ((is.hull q l b.0).0 x.0) x.1;
  }

  equality_rows : (fs : List Affine) (left : List Row) → Each (IsClaimRow (s.template k)) left → Each (IsClaimRow (s.template k)) (map Eq fs ++ left)
  equality_rows [] left h = h
  equality_rows (f ∷ fs) left h = (inl (f, refl), equality_rows fs left h)

  among_rows : (left : List Row) → ((r : Row) → IsAmong r left → IsAmong r (s.template k)) → Each (IsClaimRow (s.template k)) left
  among_rows [] h = tt
  among_rows (r ∷ left) h = (inr (inl (h r (inl refl))), among_rows left (λ x a. h x (inr a)))

  with_rows : (found : List (List ℤ)) (rows : List Row) → Each (IsClaimRow (s.template k)) rows → Each (IsClaimRow (s.template k)) (rows_with found rows)
  with_rows [] rows h = (inr (inr never_holds), tt)
  with_rows (p ∷ ps) rows h = h

  -- each of them is an equality, a template row, or met by no point
  pub kept_rows : Each (IsClaimRow (s.template k)) (rows_of c)
  kept_rows = with_rows c.members (map Eq c.equalities ++ c.rows) (equality_rows c.equalities c.rows (among_rows c.rows (λ r a. (left_among (s.template k) c.found r (rw is.left at (is.among r a))).0)))

  -- a path from a point of the claim, with the weights of a combination
  pub advance : (order : K → Order) (p : List ℤ) (m : ℤ) (ws : List ℤ) (path : List (K × List ℤ)) → IsDerivation s order es → s.recurrent k ≡ true → s.Instance k p → length p ≡ s.width k → Meets (rows_of c) p
      → IsCombination p m ws c.members → StepsOn s order k p path
      → IsDerivation s order ((es ++ record { positions = k; point = p; reason = Hull m (zip c.members_at ws) } ∷ []) ++ path_entries (length es) path)
  advance order p m ws path d t inst w meets comb steps =
      let e : EntryOf K = record { positions = k; point = p; reason = Hull m (zip c.members_at ws) } in
      let j = hull_justified s order es k c.members c.found c.members_at c.found_at (rows_of c) p m ws t inst w kept_claim is.members_stand is.found_stand meets comb in
      path_more s order (es ++ e ∷ []) (length es) k p path (one_more s order es e d j) (length-append es (e ∷ []) ∙ (omega arith)) (e, get_last es e [], refl, refl) steps

-- a path from an output pair
pub advance_output : {K : Type 0} (s : Setting K) (es : List (EntryOf K)) (order : K → Order) (k : K) (p : List ℤ) (path : List (K × List ℤ)) → IsDerivation s order es → s.Output k p → StepsOn s order k p path
    → IsDerivation s order ((es ++ record { positions = k; point = p; reason = Output } ∷ []) ++ path_entries (length es) path)
advance_output {K} s es order k p path d o steps =
    let e : EntryOf K = record { positions = k; point = p; reason = Output } in
    path_more s order (es ++ e ∷ []) (length es) k p path (one_more s order es e d o) (length-append es (e ∷ []) ∙ (omega arith)) (e, get_last es e [], refl, refl) steps

-- a member
are_snoc : {K : Type 0} (es : List (EntryOf K)) (k : K) (ns : List ℕ) (ps : List (List ℤ)) (n : ℕ) (p : List ℤ) → AreAt es k ns ps → StandsAt es n k p → AreAt es k (ns ++ n ∷ []) (ps ++ p ∷ [])
are_snoc es k [] [] n p a st = (st, tt)
are_snoc es k [] (q ∷ ps) n p a st = absurd a
are_snoc es k (m ∷ ns) [] n p a st = absurd a
are_snoc es k (m ∷ ns) (q ∷ ps) n p a st = (a.0, are_snoc es k ns ps n p a.1 st)

-- the point breaks the claim: an equality, a row that is left, or there was no member
equality_or : (fs : List Affine) (q : List ℤ) → Each (λ f. value_at f q ≡ pos 0) fs ⊎ (¬ (Each (λ f. value_at f q ≡ pos 0) fs))
equality_or [] q = inl tt
equality_or (f ∷ fs) q =
    elim (holds_or (Eq f) q) [
      | inr n ↦ inr (λ h. n h.0)
      | inl h ↦ elim (equality_or fs q) [ inl hs ↦ inl (h, hs) | inr n ↦ inr (λ x. n x.1) ]
    ]

row_or : (rows : List Row) (q : List ℤ) → Meets rows q ⊎ ((r : Row) × IsAmong r rows × ¬ (Holds r q))
row_or [] q = inl tt
row_or (r ∷ rows) q =
    elim (holds_or r q) [
      | inr n ↦ inr (r, inl refl, n)
      | inl h ↦ elim (row_or rows q) [ inl hs ↦ inl (h, hs) | inr b ↦ inr (b.0, inr b.1, b.2) ]
    ]

join_parts : (fs : List Affine) (left : List Row) (q : List ℤ) → Each (λ f. value_at f q ≡ pos 0) fs → Meets left q → Meets (map Eq fs ++ left) q
join_parts [] left q h m = m
join_parts (f ∷ fs) left q h m = (h.0, join_parts fs left q h.1 m)

room_snoc : (members : List (List ℤ)) (p : List ℤ) (all n new : ℕ) → (members ≡ [] → new ≤ all) → (¬ (members ≡ []) → new < n) → room_with (members ++ p ∷ []) all new < room_with members all n
room_snoc [] p all n new h g = let a = h refl in omega (arith, a)
room_snoc (q ∷ ps) p all n new h g = g (λ e. absurd cc)

room_less : (members : List (List ℤ)) (all n new : ℕ) → ¬ (members ≡ []) → new < n → room_with members all new < room_with members all n
room_less [] all n new h g = absurd (h refl)
room_less (q ∷ ps) all n new h g = g

some_member : (members : List (List ℤ)) (p : List ℤ) → InHull members p → ¬ (members ≡ [])
some_member [] p h e = first_of_some p h.0 h.1 h.2
some_member (q ∷ ps) p h e = absurd cc

some_rows : (members : List (List ℤ)) (rows : List Row) (p : List ℤ) → ¬ (members ≡ []) → Meets rows p → Meets (rows_with members rows) p
some_rows [] rows p n m = absurd (n refl)
some_rows (q ∷ ps) rows p n m = m

-- there is less room behind a point that breaks the claim
pub room_falls : {K : Type 0} (s : Setting K) (es : List (EntryOf K)) (k : K) (c : Kept) (n : ℕ) (p : List ℤ) (members : List (List ℤ)) (at : List ℕ) (fs : List Affine) (rows : List Row) → IsKept s es k c → length p ≡ s.width k
    → ¬ (Meets (rows_of c) p) → Adds (s.width k) p n c.members c.members_at c.equalities members at fs
    → room_of s k (record { found = c.found ++ p ∷ []; found_at = c.found_at ++ n ∷ []; members = members; members_at = at; equalities = fs; left = narrowed c.left p; rows = rows }) < room_of s k c
room_falls s es k c n p _ at fs rows is l breaks (within inside) =
    let some = some_member c.members p inside in
    elim (row_or c.rows p) [
      | inl m ↦ absurd (breaks (some_rows c.members (map Eq c.equalities ++ c.rows) p some (join_parts c.equalities c.rows p ((is.hull p l some).1 inside) m)))
      | inr b ↦ room_less c.members (s.width k + length (s.template k)) (length c.equalities + length c.left) (length c.equalities + length (narrowed c.left p)) some (omega (arith, narrowed_falls c.left p b.0 (is.among b.0 b.1) b.2))
    ]
room_falls s es k c n p _ at fs rows is l breaks (grown new outside first further) =
    room_snoc c.members p (s.width k + length (s.template k)) (length c.equalities + length c.left) (length new + length (narrowed c.left p))
    (λ e. let a = first e in let b : length c.left ≤ length (s.template k) = rw is.left (left_length (s.template k) c.found) in omega (arith, a, b, narrowed_length c.left p))
    (λ x. let a = further x in omega (arith, a, narrowed_length c.left p))

added_members : {K : Type 0} (s : Setting K) (es : List (EntryOf K)) (k : K) (n : ℕ) (p : List ℤ) (old new : List (List ℤ)) (old_at new_at : List ℕ) (old_es new_es : List Affine)
    → AreAt es k old_at old → StandsAt es n k p → Adds (s.width k) p n old old_at old_es new new_at new_es → AreAt es k new_at new
added_members s es k n p old _ old_at _ old_es _ a st (within inside) = a
added_members s es k n p old _ old_at _ old_es _ a st (grown new outside first further) = are_snoc es k old_at old n p a st

-- what is kept stays right as entries are added, and with a found member
pub still_kept : {K : Type 0} (s : Setting K) (es more_ : List (EntryOf K)) (k : K) (c : Kept) → IsKept s es k c → IsKept s (es ++ more_) k c
still_kept s es more_ k c is = record { found_stand = are_still_at es more_ k c.found_at c.found is.found_stand; members_stand = are_still_at es more_ k c.members_at c.members is.members_stand; hull = is.hull; left = is.left; among = is.among; follow = is.follow }

pub added_kept : {K : Type 0} (s : Setting K) (es : List (EntryOf K)) (k : K) (c : Kept) (n : ℕ) (p : List ℤ) (members : List (List ℤ)) (at : List ℕ) (fs : List Affine) (rows : List Row) → IsKept s es k c → StandsAt es n k p
    → Adds (s.width k) p n c.members c.members_at c.equalities members at fs
    → ((q : List ℤ) → length q ≡ s.width k → Each (λ f. value_at f q ≡ pos 0) fs ↔ InHull members q)
    → ((r : Row) → IsAmong r rows → IsAmong r (narrowed c.left p)) → ((r : Row) (q : List ℤ) → IsAmong r (narrowed c.left p) → InHull members q → Meets rows q → Holds r q)
    → IsKept s es k (record { found = c.found ++ p ∷ []; found_at = c.found_at ++ n ∷ []; members = members; members_at = at; equalities = fs; left = narrowed c.left p; rows = rows })
added_kept s es k c n p members at fs rows is st adds h among follow =
    record {
      found_stand = are_snoc es k c.found_at c.found n p is.found_stand st;
      members_stand = added_members s es k n p c.members members c.members_at at c.equalities fs is.members_stand st adds;
      hull = λ q l _. h q l;
      left = ap (λ t. narrowed t p) is.left ∙ sym (narrowed_snoc (s.template k) c.found p);
      among = among;
      follow = follow;
    }

-- before the first member
pub begins_kept : {K : Type 0} (s : Setting K) (es : List (EntryOf K)) (k : K) → IsKept s es k (record { found = []; found_at = []; members = []; members_at = []; equalities = []; left = s.template k; rows = [] })
begins_kept s es k = record { found_stand = tt; members_stand = tt; hull = λ q l n. absurd (n refl); left = refl; among = λ r a. absurd a; follow = λ r q a h. absurd (first_of_some q h.0 h.1 h.2) }
