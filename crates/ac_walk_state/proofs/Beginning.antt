-- Where a broken path begins.
use Rattle.std.proofs.Common.{◌≡◌, ℕ, ◌<◌, ℤ, List, ◌∷◌, length, Option, Some, None, true, refl, sym, ap, ◌∙◌, subst}
use Rattle.std.specs.Prelude.{slice_get}
use Rattle.std.proofs.lemmas.Option.{slice_get_within}
use Rattle.ac_syntax.specs.declared.tree.Position.{Position}
use Rattle.ac_claims.specs.declared.types.Claim.{Claim}
use Rattle.ac_forms.specs.ListMembers.{IsAmong}
use Rattle.ac_forms.specs.Rows.{Meets}
use Rattle.ac_widen_programs.specs.PairSetting.{PairAt, point_width}
use Rattle.ac_widen.specs.Combinations.{InHull}
use Rattle.ac_widen.specs.Derivations.{EntryOf, Justified, StandsAt}
use Rattle.ac_widen.specs.declared.derivation.Entry.{Entry}
use Rattle.ac_widen.specs.declared.derivation.Reason.TheVariants.{Output}
use Rattle.ac_widen_programs.specs.DerivationEntries.{entries_of}
use Rattle.ac_widen_programs.specs.BrokenPaths.{IsBroken}
use Rattle.ac_widen_programs.specs.PairPathEnds.{entry_at, steps_behind}
use Rattle.ac_widen_programs.specs.PairPaths.{Unfolding, IsOfClaim, params_of, point_of, positions_of, setting_of}
use Rattle.ac_walk_state.specs.RecurrencePairs.{WideningPointOf, positions, claim_of}
use Rattle.ac_walk_state.specs.RecurrencePairInvariant.{IsWideningPoint, IsWideningPointIn, IsTemplateAt}
use Rattle.ac_walk_state.specs.declared.template.Template.{Template}
use Rattle.ac_walk_state.proofs.Standing.{claim_in_hull, key_in, reason_justified}
use Rattle.ac_walk_state.specs.BrokenPathStarts.{BeginsInside, BeginsOf, IsInside}
use Rattle.ac_walk_state.specs.PathEntries.{Begins, GoesOn}
use Rattle.ac_walk_state.specs.OrderKnowledge.{IsKnown, IsWide, IsWidenedAt, claims_of, pairs_of}
use Rattle.ac_walk_state.specs.Growth.{IsStart, StartsFrom}
use Rattle.ac_walk_state.specs.declared.begins.Begin.{Begin}
use Rattle.ac_walk_state.specs.declared.begins.Begin.TheVariants.{At, Further}
use Rattle.ac_walk_state.specs.declared.known.Known.{Known}
use Rattle.ac_walk_state.proofs.Ending.{of_claim, wide_there}
use Rattle.ac_walk_state.proofs.LastItems.{each_in, get_map, in_get}

-- ---- from an output

pub begins_output : (u : Unfolding) (t : Template) (known : Known) (path : List Entry) → StartsFrom u t known None → IsBroken u (claims_of known) path → Begins (setting_of u) u.order known.entries path (Further Output)
begins_output u t known path h b =
    subst (λ (x : List Entry). Begins (setting_of u) u.order known.entries x (Further Output)) (sym b.are)
    (h.start (positions_of b.first) (point_of (params_of u) b.point b.first) (of_claim u (claims_of known) path b))

-- ---- from a widening point

-- the pair of the first entry is that of the widening point
pub at_key : (u : Unfolding) (widening_point : WideningPointOf) (k : Position × Position) (p : List ℤ) → u.claim ≡ claim_of widening_point → IsOfClaim u k p → k ≡ positions widening_point
at_key u widening_point k p claim of = λ i. ((of.left_is ∙ ap (λ (c : Claim). c.left) claim) i, (of.right_is ∙ ap (λ (c : Claim). c.right) claim) i)

pub wide_key : (u : Unfolding) (t : Template) (known : Known) (at : ℕ) (widening_point : WideningPointOf) → IsKnown u.pair t known → slice_get known.widening_points.items at ≡ Some widening_point → u.claim ≡ claim_of widening_point → (k : Position × Position) (p : List ℤ) → IsOfClaim u k p → length p ≡ widening_point.hull.columns
wide_key u t known at widening_point h is claim k p of =
    wide_there u.pair k p of.there ∙ ap (point_width u.pair) (at_key u widening_point k p claim of) ∙ sym (each_in (IsWide u.pair) known.widening_points.items widening_point h.widths (in_get known.widening_points.items at widening_point is))

pub begins_inside : (u : Unfolding) (t : Template) (known : Known) (at : ℕ) (widening_point : WideningPointOf) (path : List Entry) → IsKnown u.pair t known → slice_get known.widening_points.items at ≡ Some widening_point → u.claim ≡ claim_of widening_point → IsBroken u (claims_of known) path → IsInside widening_point path
begins_inside u t known at widening_point path h is claim b =
    let n = params_of u in
    let of = of_claim u (claims_of known) path b in
    record {
      first = entry_at n b.point b.first;
      rest = steps_behind 0 n b.point b.rest;
      path_is = b.are;
      there = at_key u widening_point (positions_of b.first) (point_of n b.point b.first) claim of;
      width = wide_key u t known at widening_point h is claim (positions_of b.first) (point_of n b.point b.first) of;
      meets = subst (λ (c : Claim). Meets c.rows (point_of n b.point b.first)) claim of.meets;
    }

pub right_at : (u : Unfolding) (t : Template) (known : Known) (at : ℕ) (widening_point : WideningPointOf) → IsKnown u.pair t known → slice_get known.widening_points.items at ≡ Some widening_point → IsWideningPoint t (entries_of known.entries) widening_point
right_at u t known at widening_point h is = each_in (IsWideningPoint t (entries_of known.entries)) known.widening_points.items widening_point h.widening_points (in_get known.widening_points.items at widening_point is)

-- in a setting that widens at the widening points
key_there : (u : Unfolding) (t : Template) (known : Known) (at : ℕ) (widening_point : WideningPointOf) → IsKnown u.pair t known → IsWidenedAt (setting_of u) t known → slice_get known.widening_points.items at ≡ Some widening_point → IsWideningPointIn (setting_of u) (entries_of known.entries) widening_point
key_there u t known at widening_point h w is =
    let among : IsAmong (positions widening_point) (pairs_of known) = in_get (pairs_of known) at (positions widening_point) (get_map positions known.widening_points.items at widening_point is) in
    key_in (setting_of u) t (entries_of known.entries) widening_point (right_at u t known at widening_point h is) (each_in (IsWide u.pair) known.widening_points.items widening_point h.widths (in_get known.widening_points.items at widening_point is))
    (each_in (λ (k : Position × Position). IsTemplateAt (setting_of u) k t) (pairs_of known) (positions widening_point) w.templates among)

begins_key : (u : Unfolding) (t : Template) (known : Known) (at : ℕ) (widening_point : WideningPointOf) (path : List Entry) → IsKnown u.pair t known → IsWidenedAt (setting_of u) t known → slice_get known.widening_points.items at ≡ Some widening_point → u.claim ≡ claim_of widening_point
    → (k : Position × Position) (e : Entry) (rest : List Entry) → (e.left, e.right) ≡ k → IsOfClaim u k e.point → (begin : Begin) → BeginsInside widening_point (e ∷ rest) begin → Begins (setting_of u) u.order known.entries (e ∷ rest) begin
begins_key u t known at widening_point path h w is claim k e rest pair of (At place) inside =
    let key_is : (e.left, e.right) ≡ positions widening_point = pair ∙ at_key u widening_point k e.point claim of in
    subst (λ (z : Position × Position). StandsAt (entries_of known.entries) place z e.point) (sym key_is) (inside (entries_of known.entries) (right_at u t known at widening_point h is).1.found_stand)
begins_key u t known at widening_point path h w is claim k e rest pair of (Further reason) inside =
    let key_is : (e.left, e.right) ≡ positions widening_point = pair ∙ at_key u widening_point k e.point claim of in
    let among : IsAmong (positions widening_point) (pairs_of known) = in_get (pairs_of known) at (positions widening_point) (get_map positions known.widening_points.items at widening_point is) in
    let recur = each_in (λ (z : Position × Position). u.recurrent z ≡ true) (pairs_of known) (positions widening_point) w.recur among in
    let there : PairAt u.pair (positions widening_point) e.point = subst (λ (z : Position × Position). PairAt u.pair z e.point) (at_key u widening_point k e.point claim of) of.there in
    subst (λ (z : Position × Position). Justified (setting_of u) u.order (entries_of known.entries) z e.point reason) (sym key_is)
    (reason_justified (setting_of u) u.order (entries_of known.entries) widening_point e.point reason (key_there u t known at widening_point h w is) recur there (wide_key u t known at widening_point h is claim k e.point of) (subst (λ (c : Claim). Meets c.rows e.point) claim of.meets) inside)

pub begins_there : (u : Unfolding) (t : Template) (known : Known) (at : ℕ) (widening_point : WideningPointOf) (path : List Entry) (begin : Begin) → IsKnown u.pair t known → IsWidenedAt (setting_of u) t known → slice_get known.widening_points.items at ≡ Some widening_point → u.claim ≡ claim_of widening_point → IsBroken u (claims_of known) path
    → BeginsInside widening_point path begin → Begins (setting_of u) u.order known.entries path begin
begins_there u t known at widening_point path begin h w is claim b =
    let n = params_of u in
    subst (λ (x : List Entry). BeginsInside widening_point x begin → Begins (setting_of u) u.order known.entries x begin) (sym b.are)
    (begins_key u t known at widening_point path h w is claim (positions_of b.first) (entry_at n b.point b.first) (steps_behind 0 n b.point b.rest) refl (of_claim u (claims_of known) path b) begin)

-- ---- what is asked for and given

pub start_at : (u : Unfolding) (t : Template) (known : Known) (from : Option ℕ) (at : ℕ) → from ≡ Some at → StartsFrom u t known from → IsStart u known (Some at)
start_at u t known from at e h = subst (IsStart u known) e h.start

pub one_key : (known : Known) (at : ℕ) (x y : WideningPointOf) → slice_get known.widening_points.items at ≡ Some x → slice_get known.widening_points.items at ≡ Some y → x ≡ y
one_key known at x y e f = let same : Some x ≡ Some y = sym e ∙ f in cc

pub from_within : (u : Unfolding) (t : Template) (known : Known) (from : Option ℕ) (at : ℕ) → from ≡ Some at → StartsFrom u t known from → at < length known.widening_points.items
from_within u t known from at e h = let s = start_at u t known from at e h in slice_get_within known.widening_points.items at s.0 s.1

pub inside_from : (u : Unfolding) (t : Template) (known : Known) (from : Option ℕ) (at : ℕ) (x : WideningPointOf) (path : List Entry) → from ≡ Some at → slice_get known.widening_points.items at ≡ Some x → StartsFrom u t known from → IsBroken u (claims_of known) path → IsInside x path
inside_from u t known from at x path e is h b =
    let s = start_at u t known from at e h in
    begins_inside u t known at x path h.is_known is (s.2 ∙ ap claim_of (one_key known at s.0 x s.1 is)) b

pub begins_by_key : (known : Known) (from : Option ℕ) (at : ℕ) (x : WideningPointOf) (path : List Entry) (begin : Begin) → from ≡ Some at → slice_get known.widening_points.items at ≡ Some x → GoesOn path begin → BeginsInside x path begin → BeginsOf known from path begin
begins_by_key known from at x path begin e is goes inside = (
  goes,
  λ u t h w b. let s = start_at u t known from at e h in begins_there u t known at x path begin h.is_known w is (s.2 ∙ ap claim_of (one_key known at s.0 x s.1 is)) b inside,
)

pub begins_by_output : (known : Known) (from : Option ℕ) (path : List Entry) → from ≡ None → BeginsOf known from path (Further Output)
begins_by_output known from path e = (tt, λ u t h w b. begins_output u t known path (record { arities = h.arities; is_known = h.is_known; start = subst (IsStart u known) e h.start }) b)

-- the first point is in the hull
pub first_in_hull : (t : Template) (es : List (EntryOf (Position × Position))) (k : WideningPointOf) (path : List Entry) (e : Entry) (rest : List Entry) → IsWideningPoint t es k → IsInside k path → path ≡ e ∷ rest → InHull k.hull.members e.point
first_in_hull t es k path e rest right h is =
    let same : e ∷ rest ≡ h.first ∷ h.rest = sym is ∙ h.path_is in
    let first : h.first ≡ e = cc in
    subst (λ (x : Entry). InHull k.hull.members x.point) first (claim_in_hull t es k h.first.point right h.width h.meets)
