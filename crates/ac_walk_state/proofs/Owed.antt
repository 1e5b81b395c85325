-- The obligations that a derivation shows: the members of widening points, and each pair of a broken path.
use Rattle.std.proofs.Common.{◌≡◌, inl, inr, ℕ, ℤ, List, [], ◌∷◌, ◌++◌, map, zip, Option, Some, None, refl, sym, ap, subst}
use Rattle.ac_syntax.specs.declared.tree.Order.{Order}
use Rattle.ac_syntax.specs.declared.tree.Position.{Position}
use Rattle.ac_claims.specs.declared.types.Claim.{Claim}
use Rattle.ac_claims_paths.specs.declared.path.Seat.{Seat}
use Rattle.ac_forms.specs.ListMembers.{IsAmong}
use Rattle.ac_forms.specs.Rows.{Meets}
use Rattle.ac_widen.specs.Combinations.{Each}
use Rattle.ac_widen.specs.DerivationPaths.{AreAt, StepsOn}
use Rattle.ac_widen.specs.Derivations.{EntryOf, IsDerivation, Justified, StandsAt}
use Rattle.ac_widen.specs.Obligations.{Obligation, Obligations, output, step, none, more}
use Rattle.ac_widen.specs.Setting.{Setting}
use Rattle.ac_widen.specs.declared.derivation.Entry.{Entry}
use Rattle.ac_widen.specs.declared.derivation.Reason.{Reason}
use Rattle.ac_widen.specs.declared.derivation.Reason.TheVariants.{Hull}
use Rattle.ac_widen.proofs.Deriving.{derived_obligation, one_more}
use Rattle.ac_widen_programs.specs.BrokenPaths.{IsBroken}
use Rattle.ac_widen_programs.specs.DerivationEntries.{entries_of}
use Rattle.ac_widen_programs.specs.PairPathEnds.{entries_at, entry_at, steps_behind}
use Rattle.ac_widen_programs.specs.PairPaths.{Unfolding, pair_of, params_of, point_of, positions_of, setting_of}
use Rattle.ac_walk_state.specs.RecurrencePairs.{claim_of}
use Rattle.ac_walk_state.specs.declared.template.Template.{Template}
use Rattle.ac_walk_state.specs.BrokenPathStarts.{BeginsInside}
use Rattle.ac_walk_state.specs.PathEnds.{entry_positions}
use Rattle.ac_walk_state.specs.PathEntries.{Begins}
use Rattle.ac_walk_state.specs.OrderKnowledge.{IsWidenedAt, claims_of}
use Rattle.ac_walk_state.specs.Growth.{StartsFrom}
use Rattle.ac_walk_state.specs.declared.begins.Begin.TheVariants.{Further}
use Rattle.ac_walk_state.specs.declared.known.Known.{Known}
use Rattle.ac_walk_state.proofs.Beginning.{begins_there, right_at, wide_key}
use Rattle.ac_walk_state.proofs.Ending.{of_claim, place_of, places, steps_on}
use Rattle.ac_walk_state.proofs.LastItems.{among_last, among_map, each_in, in_get}
use Rattle.ac_walk_state.proofs.Standing.{claim_in_hull}

module _ (s : Setting (Position × Position)) (order : Position × Position → Order) where
  abbrev pub Owed : EntryOf (Position × Position) → Type 0
  Owed e = Obligation s order e.positions e.point

  -- ---- entries

  stands_owed : (es : List (EntryOf (Position × Position))) (i : ℕ) (k : Position × Position) (p : List ℤ) → Each Owed es → StandsAt es i k p → Obligation s order k p
  stands_owed es i k p h a = subst (λ (j : Position × Position). Obligation s order j p) a.2 (subst (Obligation s order a.0.positions) a.3 (each_in Owed es a.0 h (in_get es i a.0 a.1)))

  pub at_owed : (es : List (EntryOf (Position × Position))) (k : Position × Position) (ns : List ℕ) (ps : List (List ℤ)) → Each Owed es → AreAt es k ns ps → Obligations s order k ps
  at_owed es k [] [] h a = none k
  at_owed es k [] (p ∷ ps) h a = absurd a
  at_owed es k (n ∷ ns) [] h a = absurd a
  at_owed es k (n ∷ ns) (p ∷ ps) h a = more k p ps (stands_owed es n k p h a.0) (at_owed es k ns ps h a.1)

  pub with_owed : (k : Position × Position) (ps : List (List ℤ)) (q : List ℤ) → Obligations s order k ps → Obligation s order k q → Obligations s order k (ps ++ q ∷ [])
  with_owed k [] q h o = more k q [] o (none k)
  with_owed k (p ∷ ps) q (more _ _ _ x h) o = more k p (ps ++ q ∷ []) x (with_owed k ps q h o)

  -- a pair that a derivation justifies
  justified_owed : (es : List (EntryOf (Position × Position))) (k : Position × Position) (p : List ℤ) (reason : Reason) → IsDerivation s order es → Justified s order es k p reason → Obligation s order k p
  justified_owed es k p reason d j =
      let e : EntryOf (Position × Position) = record { positions = k; point = p; reason = reason } in
      each_in Owed (es ++ e ∷ []) e (derived_obligation s order (es ++ e ∷ []) (one_more s order es e d j)) (among_last e es)

  -- those to which steps lead
  steps_owed : (k : Position × Position) (p : List ℤ) (path : List ((Position × Position) × List ℤ)) → Obligation s order k p → StepsOn s order k p path → Each (λ c. Obligation s order c.0 c.1) path
  steps_owed k p [] o h = tt
  steps_owed k p (c ∷ cs) o h = let next : Obligation s order c.0 c.1 = step k p c.0 c.1 o h.0 in (next, steps_owed c.0 c.1 cs next h.1)

-- ---- broken paths

-- the first pair, from an output or from the claim of a widening point
pub first_owed : (u : Unfolding) (t : Template) (known : Known) (from : Option ℕ) (path : List Entry) → StartsFrom u t known from → IsWidenedAt (setting_of u) t known → IsDerivation (setting_of u) u.order (entries_of known.entries)
    → (b : IsBroken u (claims_of known) path) → Obligation (setting_of u) u.order (positions_of b.first) (point_of (params_of u) b.point b.first)
first_owed u t known None path h w d b = output (positions_of b.first) (point_of (params_of u) b.point b.first) (h.start (positions_of b.first) (point_of (params_of u) b.point b.first) (of_claim u (claims_of known) path b))
first_owed u t known (Some at) path h w d b =
    let n = params_of u in
    let widening_point = h.start.0 in
    let is = h.start.1 in
    let claim = h.start.2 in
    let of = of_claim u (claims_of known) path b in
    let p = point_of n b.point b.first in
    let hull = claim_in_hull t (entries_of known.entries) widening_point p (right_at u t known at widening_point h.is_known is) (wide_key u t known at widening_point h.is_known is claim (positions_of b.first) p of)
    (subst (λ (c : Claim). Meets c.rows p) claim of.meets) in
    let reason = Hull hull.0 (zip widening_point.kept hull.1) in
    let within : BeginsInside widening_point (entries_at n b.point (b.first ∷ b.rest)) (Further reason) = (hull.0, hull.1, refl, hull.2) in
    let begins : Begins (setting_of u) u.order known.entries path (Further reason) =
    begins_there u t known at widening_point path (Further reason) h.is_known w is claim b (subst (λ (x : List Entry). BeginsInside widening_point x (Further reason)) (sym b.are) within) in
    let first : Begins (setting_of u) u.order known.entries (entries_at n b.point (b.first ∷ b.rest)) (Further reason) = subst (λ (x : List Entry). Begins (setting_of u) u.order known.entries x (Further reason)) b.are begins in
    justified_owed (setting_of u) u.order (entries_of known.entries) (positions_of b.first) p reason d first

-- and then each entry
pub path_owed : (u : Unfolding) (claims : List Claim) (path : List Entry) (b : IsBroken u claims path) → Obligation (setting_of u) u.order (positions_of b.first) (point_of (params_of u) b.point b.first) → (e : Entry) → IsAmong e path
    → Obligation (setting_of u) u.order (entry_positions e) e.point
path_owed u claims path b first e i =
    let n = params_of u in
    let pairs = map (pair_of n b.point) (b.first ∷ b.rest) in
    let all : Each (λ (c : (Position × Position) × List ℤ). Obligation (setting_of u) u.order c.0 c.1) pairs =
    (first, steps_owed (setting_of u) u.order (positions_of b.first) (point_of n b.point b.first) (map (pair_of n b.point) b.rest) first (steps_on u claims path b)) in
    let there : IsAmong (place_of e) (map place_of (entries_at n b.point (b.first ∷ b.rest))) = among_map place_of (entries_at n b.point (b.first ∷ b.rest)) e (subst (IsAmong e) b.are i) in
    each_in (λ (c : (Position × Position) × List ℤ). Obligation (setting_of u) u.order c.0 c.1) pairs (place_of e) all (subst (IsAmong (place_of e)) (places n b.point b.first b.rest) there)
