-- What comes of one path.
use Rattle.std.proofs.Common.{◌≡◌, inl, inr, ℕ, suc, ◌+◌, ◌<◌, ℤ, List, [], ◌∷◌, ◌++◌, length, get_or, Some, refl, sym, ap, ◌∙◌, subst, arith, length-append}
use Rattle.std.specs.Prelude.{slice_get}
use Rattle.std.proofs.lemmas.Option.{slice_get_within}
use Rattle.ac_syntax.specs.declared.tree.Position.{Position}
use Rattle.ac_claims.specs.declared.types.Claim.{Claim}
use Rattle.ac_forms.specs.ListMembers.{IsAmong}
use Rattle.ac_forms.specs.Rows.{Holds, Meets}
use Rattle.ac_forms.specs.declared.row.Row.{Row}
use Rattle.ac_graph.specs.PairMoves.{AreDistinct}
use Rattle.ac_widen_programs.specs.PairSetting.{IsMismatchPair, point_width}
use Rattle.ac_widen.specs.Combinations.{Each}
use Rattle.ac_widen.specs.Derivations.{EntryOf, StandsAt, entry_of}
use Rattle.ac_widen.specs.declared.derivation.Entry.{Entry}
use Rattle.ac_widen_programs.specs.DerivationEntries.{entries_of}
use Rattle.ac_widen_programs.specs.BrokenPaths.{IsBroken, EndsAtClaim}
use Rattle.ac_widen_programs.specs.PairPaths.{Unfolding, params_of, point_of, positions_of, seats_of}
use Rattle.ac_walk_state.specs.RecurrencePairs.{WideningPointOf, positions, claim_of}
use Rattle.ac_walk_state.specs.RecurrencePairInvariant.{IsWideningPoint}
use Rattle.ac_walk_state.specs.declared.template.Template.{Template}
use Rattle.ac_walk_state.specs.PathEnds.{EndsFree, IsEnd, entry_positions}
use Rattle.ac_walk_state.specs.PathEntries.{GoesOn, entered}
use Rattle.ac_walk_state.specs.OrderKnowledge.{IsWide, claims_of, pairs_of}
use Rattle.ac_walk_state.specs.MemberGrowth.{GrowsAt}
use Rattle.ac_walk_state.specs.GrowthStep.{IsPathFor, Takes, pair_of as pair_of_claim}
use Rattle.ac_walk_state.specs.declared.begins.Begin.{Begin}
use Rattle.ac_walk_state.specs.declared.known.Known.{Known}
use Rattle.ac_walk_state.specs.declared.growth.Growth.TheVariants.{Grown, Mismatch, Nothing}
use Rattle.ac_walk_state.proofs.Ending.{claim_broken, end_place, end_there, end_unique, free_mismatch, last_is, steps_on, wide_there}
use Rattle.ac_walk_state.proofs.Entered.{EndsWith, ends_with, entered_more, stands_last, still_derives}
use Rattle.ac_walk_state.specs.Growth.{StillDerives}
use Rattle.ac_walk_state.proofs.LastItems.{append_nil, each_in, get_in, get_map, in_get, length-map, map-append, map_among, map_get, among_map}
use Rattle.ac_walk_state.proofs.MemberGrowth.{grown_keys, grown_members, grown_pairs, grown_widths, grows_key, read_is}

-- ---- the entries

-- the path's entries stand behind the others, and its end last
ends_there : (u : Unfolding) (claims : List Claim) (path : List Entry) (b : IsBroken u claims path) (es : List Entry) (begin : Begin) → GoesOn path begin
    → EndsWith (entries_of (entered es begin path)) (positions_of (seats_of b.question)) (point_of (params_of u) b.point (seats_of b.question))
ends_there u claims path b es begin goes =
    subst (λ s. EndsWith (entries_of (entered es begin path)) (positions_of s) (point_of (params_of u) b.point s)) (last_is u claims path b) (ends_with (params_of u) b.point es b.first b.rest begin path b.are goes)

-- ---- a mismatch

pub taken_mismatch : (u : Unfolding) (t : Template) (claims : List Claim) (known : Known) (begin : Begin) (path : List Entry) → IsPathFor u t claims known path → GoesOn path begin → EndsFree (pairs_of known) path
    → Takes u t claims known begin path (Mismatch (entered known.entries begin path))
taken_mismatch u t claims known begin path h goes free =
    let b = h.broken in
    let w = ends_there u claims path b known.entries begin goes in
    let m = free_mismatch u claims path b h.arities (subst (λ (ps : List (Position × Position)). EndsFree ps path) (sym h.pairs) free) in
    record {
      is_known = tt;
      pairs = tt;
      members = tt;
      more = entered_more known.entries begin path;
      grown = tt;
      mismatch = (w.front, w.last, w.is, subst (λ (x : (Position × Position) × List ℤ). IsMismatchPair u.pair x.0 x.1) (λ i. (sym w.key_is i, sym w.point_is i)) m);
      nothing = tt;
      derivation = still_derives u b.point known.entries b.first b.rest begin path b.are (steps_on u claims path b);
    }

-- ---- nothing

-- a claim of the widening points at the pair of one of them is its claim
own_claim : (known : Known) → AreDistinct (pairs_of known) → (at : ℕ) (widening_point : WideningPointOf) → slice_get known.widening_points.items at ≡ Some widening_point → (c : Claim) → IsAmong c (claims_of known) → pair_of_claim c ≡ positions widening_point → c ≡ claim_of widening_point
own_claim known distinct at widening_point is c among same =
    let other = map_among claim_of known.widening_points.items c among in
    let j = get_in known.widening_points.items other.0 other.1 in
    let there : slice_get (pairs_of known) j.0 ≡ Some (positions widening_point) = get_map positions known.widening_points.items j.0 other.0 j.1 ∙ ap Some (ap pair_of_claim (sym other.2) ∙ same) in
    let one : j.0 ≡ at = distinct j.0 at (positions widening_point) there (get_map positions known.widening_points.items at widening_point is) in
    let two : Some other.0 ≡ Some widening_point = sym j.1 ∙ ap (slice_get known.widening_points.items) one ∙ is in
    let equal : other.0 ≡ widening_point = cc in
    other.2 ∙ ap claim_of equal

row_meets : (rows : List Row) (r : Row) (p : List ℤ) → IsAmong r rows → Meets rows p → Holds r p
row_meets [] r p i m = absurd i
row_meets (x ∷ rows) r p (inl e) m = subst (λ (z : Row). Holds z p) (sym e) m.0
row_meets (x ∷ rows) r p (inr i) m = row_meets rows r p i m.1

-- where the claims are those of the widening points, the end breaks the claim there
breaks_own : (u : Unfolding) (t : Template) (known : Known) (path : List Entry) → IsPathFor u t (claims_of known) known path → (e : Entry) → IsEnd path e → (at : ℕ) (widening_point : WideningPointOf) → slice_get known.widening_points.items at ≡ Some widening_point → positions widening_point ≡ entry_positions e
    → ¬ (Meets (claim_of widening_point).rows e.point)
breaks_own u t known path h e end at widening_point is same meets =
    let b = h.broken in
    let claims = claims_of known in
    let among : IsAmong (claim_of widening_point) claims = among_map claim_of known.widening_points.items widening_point (in_get known.widening_points.items at widening_point is) in
    let broken : EndsAtClaim u claims b.rest b.question b.point = claim_broken u claims path b e end (claim_of widening_point) among same in
    let place = end_place u claims path b e end in
    let pair : pair_of_claim broken.claim ≡ positions widening_point = (λ i. (sym broken.left_is i, sym broken.right_is i)) ∙ sym (ap (λ (x : (Position × Position) × List ℤ). x.0) place) ∙ sym same in
    let own = own_claim known h.is_known.distinct at widening_point is broken.claim broken.among pair in
    let point : e.point ≡ point_of (params_of u) b.point (seats_of b.question) = ap (λ (x : (Position × Position) × List ℤ). x.1) place in
    let all : Meets broken.claim.rows (point_of (params_of u) b.point (seats_of b.question)) = subst (Meets broken.claim.rows) point (subst (λ (c : Claim). Meets c.rows e.point) (sym own) meets) in
    broken.fails (row_meets broken.claim.rows broken.row (point_of (params_of u) b.point (seats_of b.question)) broken.row_among all)

pub taken_nothing : (u : Unfolding) (t : Template) (claims : List Claim) (known : Known) (begin : Begin) (path : List Entry) → IsPathFor u t claims known path → (e : Entry) → IsEnd path e
    → (at : ℕ) (widening_point : WideningPointOf) → slice_get known.widening_points.items at ≡ Some widening_point → positions widening_point ≡ entry_positions e → ¬ (¬ (Meets (claim_of widening_point).rows e.point)) → Takes u t claims known begin path (Nothing known)
taken_nothing u t claims known begin path h e end at widening_point is same within = record {
  is_known = h.is_known;
  pairs = refl;
  members = λ pair p m. inl m;
  more = ([], sym (append_nil known.entries));
  grown = tt;
  mismatch = tt;
  nothing = (refl, λ (those : claims ≡ claims_of known). within (breaks_own u t known path (subst (λ (cs : List Claim). IsPathFor u t cs known path) those h) e end at widening_point is same));
  derivation = λ begins d. d;
}

-- ---- a member

-- the end's point has as many numbers as the widening point's points
pub end_wide : (u : Unfolding) (t : Template) (claims : List Claim) (known : Known) (path : List Entry) → IsPathFor u t claims known path → (e : Entry) → IsEnd path e → (at : ℕ) (widening_point : WideningPointOf) → slice_get known.widening_points.items at ≡ Some widening_point → positions widening_point ≡ entry_positions e
    → length e.point ≡ widening_point.hull.columns
end_wide u t claims known path h e end at widening_point is same =
    let b = h.broken in
    let place = end_place u claims path b e end in
    let there = wide_there u.pair (positions_of (seats_of b.question)) (point_of (params_of u) b.point (seats_of b.question)) (end_there u (b.first ∷ b.rest) b.question b.point b.comes) in
    let own : IsWide u.pair widening_point = each_in (IsWide u.pair) known.widening_points.items widening_point h.is_known.widths (in_get known.widening_points.items at widening_point is) in
    ap (λ (x : (Position × Position) × List ℤ). length x.1) place ∙ there ∙ ap (λ (x : (Position × Position) × List ℤ). point_width u.pair x.0) (sym place) ∙ ap (point_width u.pair) (sym same) ∙ sym own

pub taken_grown : (u : Unfolding) (t : Template) (claims : List Claim) (known new : Known) (begin : Begin) (path : List Entry) → IsPathFor u t claims known path → GoesOn path begin → (e : Entry) → IsEnd path e
    → (at : ℕ) (widening_point : WideningPointOf) → slice_get known.widening_points.items at ≡ Some widening_point → positions widening_point ≡ entry_positions e → (place : ℕ) → new.entries ≡ entered known.entries begin path → suc place ≡ length new.entries → GrowsAt t known.widening_points.items at e.point place new.widening_points.items
    → ¬ (Meets (claim_of widening_point).rows e.point) → Takes u t claims known begin path (Grown new)
taken_grown u t claims known new begin path h goes e end at widening_point is same place entries last g breaks =
    let b = h.broken in
    let old = known.widening_points.items in
    let end_is = end_place u claims path b e end in
    let w = ends_there u claims path b known.entries begin goes in
    let more = entered_more known.entries begin path in
    let all : entries_of new.entries ≡ entries_of known.entries ++ entries_of more.0 = ap (λ (es : List Entry). entries_of es) (entries ∙ more.1) ∙ map-append entry_of known.entries more.0 in
    let many : suc place ≡ length (entries_of (entered known.entries begin path)) = last ∙ ap length entries ∙ sym (length-map entry_of (entered known.entries begin path)) in
    let stands = stands_last (entries_of (entered known.entries begin path)) (positions_of (seats_of b.question)) (point_of (params_of u) b.point (seats_of b.question)) place w many in
    let grows : positions g.widening_point ≡ positions_of (seats_of b.question) = ap positions (grows_key t old at e.point place new.widening_points.items g widening_point is) ∙ same ∙ ap (λ (x : (Position × Position) × List ℤ). x.0) end_is in
    let point : e.point ≡ point_of (params_of u) b.point (seats_of b.question) = ap (λ (x : (Position × Position) × List ℤ). x.1) end_is in
    let here : StandsAt (entries_of new.entries) place (positions g.widening_point) e.point =
    subst (λ (es : List Entry). StandsAt (entries_of es) place (positions g.widening_point) e.point) (sym entries)
    (subst (λ (x : (Position × Position) × List ℤ). StandsAt (entries_of (entered known.entries begin path)) place x.0 x.1) (λ i. (sym grows i, sym point i)) stands) in
    let pairs = grown_pairs t old at e.point place new.widening_points.items g in
    record {
      is_known = record {
        widening_points = subst (λ (es : List (EntryOf (Position × Position))). Each (IsWideningPoint t es) new.widening_points.items) (sym all)
            (grown_keys t old at e.point place new.widening_points.items (entries_of known.entries) (entries_of more.0) g h.is_known.widening_points (subst (λ (es : List (EntryOf (Position × Position))). StandsAt es place (positions g.widening_point) e.point) all here));
        widths = grown_widths u.pair t old at e.point place new.widening_points.items g h.is_known.widths;
        distinct = subst AreDistinct (sym pairs) h.is_known.distinct;
      };
      pairs = pairs;
      members = grown_members t old at e.point place new.widening_points.items g path e end (sym same ∙ ap positions (sym (grows_key t old at e.point place new.widening_points.items g widening_point is))) refl;
      more = (more.0, entries ∙ more.1);
      grown = record { at = at; point = e.point; place = place; grows = g; breaks = subst (λ (k : WideningPointOf). ¬ (Meets (claim_of k).rows e.point)) (sym (grows_key t old at e.point place new.widening_points.items g widening_point is)) breaks };
      mismatch = tt;
      nothing = tt;
      derivation = λ begins d. subst (λ (es : List Entry). StillDerives u known.entries es) (sym entries) (still_derives u b.point known.entries b.first b.rest begin path b.are (steps_on u claims path b) begins) d;
    }

-- ---- what is asked for

-- the widening point with the number is at the end
pub widening_point_at : (known : Known) (at : ℕ) (e : Entry) (x : WideningPointOf) → slice_get (pairs_of known) at ≡ Some (entry_positions e) → x ≡ get_or known.widening_points.items at x → (slice_get known.widening_points.items at ≡ Some x) × (positions x ≡ entry_positions e)
widening_point_at known at e x is same =
    let k = map_get positions known.widening_points.items at (entry_positions e) is in
    let one = read_is known.widening_points.items at x k.0 k.1 same in
    (subst (λ (y : WideningPointOf). slice_get known.widening_points.items at ≡ Some y) (sym one) k.1, ap positions one ∙ k.2)

pub at_within : (known : Known) (at : ℕ) (e : Entry) → slice_get (pairs_of known) at ≡ Some (entry_positions e) → at < length known.widening_points.items
at_within known at e is = let k = map_get positions known.widening_points.items at (entry_positions e) is in slice_get_within known.widening_points.items at k.0 k.1

-- the entries of a path are some
pub some_entries : (u : Unfolding) (t : Template) (claims : List Claim) (known : Known) (begin : Begin) (path entries : List Entry) → IsPathFor u t claims known path → GoesOn path begin → entries ≡ entered known.entries begin path → 0 < length entries
some_entries u t claims known begin path entries h goes e =
    let w = ends_there u claims path h.broken known.entries begin goes in
    let many : length (entries_of (entered known.entries begin path)) ≡ length w.front + 1 = ap length w.is ∙ length-append w.front (w.last ∷ []) in
    let same : length entries ≡ length (entries_of (entered known.entries begin path)) = ap length e ∙ sym (length-map entry_of (entered known.entries begin path)) in
    omega (arith, many, same)

-- an end that is at none of the pairs
pub ends_free : (known : Known) (path : List Entry) (e : Entry) → IsEnd path e → ¬ (IsAmong (entry_positions e) (pairs_of known)) → EndsFree (pairs_of known) path
ends_free known path e end none d g = subst (λ (x : Entry). ¬ (IsAmong (entry_positions x) (pairs_of known))) (end_unique path e d end g) none
