-- The laws of the method, as statements about a setting.
use Rattle.std.specs.Prelude.{◌≡◌, ◌↔◌, ◌<◌, ℕ, suc, ℤ, pos, List, [], ◌∷◌, ◌++◌, length, zip, true}
use Rattle.ac_syntax.specs.declared.tree.Order.{Order}
use Rattle.ac_forms.specs.Affine.{Affine, value_at}
use Rattle.ac_forms.specs.Rows.{Holds, Meets}
use Rattle.ac_forms.specs.declared.row.Row.{Row}
use Rattle.ac_widen.specs.Claims.{IsClaimRow, IsClaimOf, IsFine, IsStart, Leads}
use Rattle.ac_forms.specs.ListMembers.{IsAmong}
use Rattle.ac_widen.specs.Combinations.{Each, InHull, IsCombination}
use Rattle.ac_widen.specs.Derivations.{EntryOf, IsDerivation, Justified, StandsAt}
use Rattle.ac_widen.specs.declared.derivation.Reason.TheVariants.{Output, Hull}
use Rattle.ac_widen.specs.Narrowing.{narrowed}
use Rattle.ac_widen.specs.Obligations.{Obligation, Obligations, HasMismatch}
use Rattle.ac_widen.specs.DerivationPaths.{AreAt, StepsOn, path_entries}
use Rattle.ac_widen.specs.OrderRefutations.{Decided, Extends, IsPartOf, IsRefuted, is_equal}
use Rattle.ac_widen.specs.Setting.{Setting}
use Rattle.ac_widen.specs.Walks.{Adds, IsKept, Kept, room_of, rows_of}

-- each obligation at a recurrence pair meets the claim there
abbrev pub ObligationsMeet : {K : Type 0} → Setting K → (K → Order) → (K → List Row) → Type 0
ObligationsMeet {K} s order claim = (k : K) (p : List ℤ) → Obligation s order k p → s.recurrent k ≡ true → Meets (claim k) p

-- each pair to which an output pair or an instance point of a claim leads is fine
abbrev pub LeadToFine : {K : Type 0} → Setting K → (K → Order) → (K → List Row) → Type 0
LeadToFine {K} s order claim = (k : K) (p : List ℤ) → IsStart s claim k p → (j : K) (q : List ℤ) → Leads s order k p j q → IsFine s claim j q

-- the rows of each claim are claim rows
abbrev pub HaveClaimRows : {K : Type 0} → Setting K → (K → List Row) → Type 0
HaveClaimRows {K} s claim = (k : K) → s.recurrent k ≡ true → Each (IsClaimRow (s.template k)) (claim k)

-- each entry is an obligation
abbrev pub AreObligations : {K : Type 0} → Setting K → (K → Order) → List (EntryOf K) → Type 0
AreObligations s order es = Each (λ e. Obligation s order e.positions e.point) es

-- a derivation goes on by a justified entry
abbrev pub GoesOnByEntry : {K : Type 0} → Setting K → (K → Order) → Type 0
GoesOnByEntry {K} s order = (es : List (EntryOf K)) (e : EntryOf K) → IsDerivation s order es → Justified s order es e.positions e.point e.reason → IsDerivation s order (es ++ e ∷ [])

-- and by a path of steps from its last entry
abbrev pub GoesOnByPath : {K : Type 0} → Setting K → (K → Order) → Type 0
GoesOnByPath {K} s order =
    (es : List (EntryOf K)) (i : ℕ) (k : K) (p : List ℤ) (path : List (K × List ℤ)) → IsDerivation s order es → length es ≡ suc i → StandsAt es i k p → StepsOn s order k p path
    → IsDerivation s order (es ++ path_entries i path)

-- an instance point of a claim whose members are obligations is one
abbrev pub ClaimedAreObligations : {K : Type 0} → Setting K → (K → Order) → Type 0
ClaimedAreObligations {K} s order =
    (k : K) (kept found : List (List ℤ)) (rows : List Row) (q : List ℤ) → IsClaimOf (s.width k) (s.template k) kept found rows → Obligations s order k kept → Obligations s order k found
    → s.recurrent k ≡ true → s.Instance k q → Meets rows q → Obligation s order k q

-- what an obligation leads to is one
abbrev pub LedAreObligations : {K : Type 0} → Setting K → (K → Order) → Type 0
LedAreObligations {K} s order = (k : K) (p : List ℤ) (j : K) (q : List ℤ) → Obligation s order k p → Leads s order k p j q → Obligation s order j q

-- an instance point of a claim whose members stand among the entries is justified by the weights of a combination of the kept ones
abbrev pub ClaimedAreJustified : {K : Type 0} → Setting K → (K → Order) → Type 0
ClaimedAreJustified {K} s order =
    (es : List (EntryOf K)) (k : K) (kept found : List (List ℤ)) (kept_at found_at : List ℕ) (rows : List Row) (q : List ℤ) (m : ℤ) (ws : List ℤ)
    → s.recurrent k ≡ true → s.Instance k q → IsClaimOf (s.width k) (s.template k) kept found rows → AreAt es k kept_at kept → AreAt es k found_at found → Meets rows q → IsCombination q m ws kept
    → Justified s order es k q (Hull m (zip kept_at ws))

-- what is kept before the first member
abbrev pub kept_at_first : List Row → Kept
kept_at_first template = record { found = []; found_at = []; members = []; members_at = []; equalities = []; left = template; rows = [] }

-- what is kept with a further found member, whose entry has the number n
abbrev pub kept_with : Kept → ℕ → List ℤ → List (List ℤ) → List ℕ → List Affine → List Row → Kept
kept_with c n p members at equalities rows =
    record { found = c.found ++ p ∷ []; found_at = c.found_at ++ n ∷ []; members = members; members_at = at; equalities = equalities; left = narrowed c.left p; rows = rows }

-- the equalities are those of the hull of the members
abbrev pub AreOfHull : ℕ → List Affine → List (List ℤ) → Type 0
AreOfHull width equalities members = (q : List ℤ) → length q ≡ width → Each (λ f. value_at f q ≡ pos 0) equalities ↔ InHull members q

-- the rows are some of those that are left, from which the others follow on the hull
abbrev pub AreEnough : List (List ℤ) → List Row → List Row → Type 0
AreEnough members left rows = ((r : Row) → IsAmong r rows → IsAmong r left) × ((r : Row) (q : List ℤ) → IsAmong r left → InHull members q → Meets rows q → Holds r q)

-- what is kept stays right with a found member
abbrev pub StaysRight : {K : Type 0} → Setting K → Type 0
StaysRight {K} s =
    (es : List (EntryOf K)) (k : K) (c : Kept) (n : ℕ) (p : List ℤ) (members : List (List ℤ)) (at : List ℕ) (equalities : List Affine) (rows : List Row) → IsKept s es k c → StandsAt es n k p
    → Adds (s.width k) p n c.members c.members_at c.equalities members at equalities → AreOfHull (s.width k) equalities members → AreEnough members (narrowed c.left p) rows
    → IsKept s es k (kept_with c n p members at equalities rows)

-- the rows of what is kept are those of the found members
abbrev pub IsRightClaim : {K : Type 0} → Setting K → Type 0
IsRightClaim {K} s =
    (es : List (EntryOf K)) (k : K) (c : Kept) → IsKept s es k c → IsClaimOf (s.width k) (s.template k) c.members c.found (rows_of c) × Each (IsClaimRow (s.template k)) (rows_of c)

-- a found member that breaks the claim leaves room for fewer
abbrev pub RoomFalls : {K : Type 0} → Setting K → Type 0
RoomFalls {K} s =
    (es : List (EntryOf K)) (k : K) (c : Kept) (n : ℕ) (p : List ℤ) (members : List (List ℤ)) (at : List ℕ) (equalities : List Affine) (rows : List Row) → IsKept s es k c → length p ≡ s.width k
    → ¬ (Meets (rows_of c) p) → Adds (s.width k) p n c.members c.members_at c.equalities members at equalities
    → room_of s k (kept_with c n p members at equalities rows) < room_of s k c

-- a path from an instance point of a claim, with the weights of a combination of the kept members
abbrev pub GoesOnFromClaim : {K : Type 0} → Setting K → (K → Order) → Type 0
GoesOnFromClaim {K} s order =
    (es : List (EntryOf K)) (k : K) (c : Kept) (p : List ℤ) (m : ℤ) (ws : List ℤ) (path : List (K × List ℤ)) → IsKept s es k c → IsDerivation s order es → s.recurrent k ≡ true → s.Instance k p
    → Meets (rows_of c) p → IsCombination p m ws c.members → StepsOn s order k p path
    → IsDerivation s order ((es ++ record { positions = k; point = p; reason = Hull m (zip c.members_at ws) } ∷ []) ++ path_entries (length es) path)

-- a path from an output pair
abbrev pub GoesOnFromOutput : {K : Type 0} → Setting K → (K → Order) → Type 0
GoesOnFromOutput {K} s order =
    (es : List (EntryOf K)) (k : K) (p : List ℤ) (path : List (K × List ℤ)) → IsDerivation s order es → s.Output k p → StepsOn s order k p path
    → IsDerivation s order ((es ++ record { positions = k; point = p; reason = Output } ∷ []) ++ path_entries (length es) path)

-- a derivation that ends in a mismatch refutes the partial order of the sites through which it steps
abbrev pub DerivationsRefute : {K : Type 0} → Setting K → Type 0
DerivationsRefute {K} s =
    (order : K → Order) (partial : List (K × Order)) (es front : List (EntryOf K)) (last : EntryOf K) → IsDerivation s order es → IsPartOf s order es partial → es ≡ front ++ last ∷ []
    → s.Mismatch last.positions last.point → IsRefuted s partial es

-- each order that extends a refuted one has a mismatch
abbrev pub RefutedHaveMismatch : {K : Type 0} → Setting K → Type 0
RefutedHaveMismatch {K} s = (partial : List (K × Order)) (es : List (EntryOf K)) (order : K → Order) → IsRefuted s partial es → Extends order partial → HasMismatch s order

-- the search says equal exactly where some order has no mismatch
abbrev pub DecidesExactly : {K : Type 0} → Setting K → Type 0
DecidesExactly {K} s = (d : Decided s) → (is_equal d ≡ true) ↔ ((order : K → Order) × ¬ (HasMismatch s order))
