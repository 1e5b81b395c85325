-- What comes of path after path.
use Rattle.std.proofs.Common.{◌≡◌, inl, inr, ℕ, ◌+◌, ◌<◌, ℤ, List, [], ◌∷◌, ◌++◌, map, length, take, get_or, Option, Some, refl, sym, ap, ◌∙◌, subst, append_assoc}
use Rattle.std.specs.Prelude.{slice_get}
use Rattle.ac_syntax.specs.declared.tree.Position.{Position}
use Rattle.ac_claims.specs.declared.types.Claim.{Claim}
use Rattle.ac_syntax.specs.declared.tree.Order.{Order}
use Rattle.ac_widen.specs.Derivations.{EntryOf, Justified, StandsAt, Weighs, entry_of}
use Rattle.ac_widen.specs.Setting.{Setting}
use Rattle.ac_widen.specs.declared.derivation.Reason.{Reason}
use Rattle.ac_widen.specs.declared.derivation.Reason.TheVariants.{Output, Step, Hull}
use Rattle.ac_widen.specs.declared.derivation.Entry.{Entry}
use Rattle.ac_widen.proofs.Deriving.{get_front}
use Rattle.ac_widen_programs.specs.DerivationEntries.{entries_of}
use Rattle.ac_widen_programs.specs.BrokenPaths.{IsBroken}
use Rattle.ac_widen_programs.specs.PairPaths.{Unfolding, setting_of}
use Rattle.ac_walk_state.specs.RecurrencePairs.{WideningPointOf, positions, claim_of}
use Rattle.ac_walk_state.specs.declared.template.Template.{Template}
use Rattle.ac_walk_state.specs.PathEntries.{Begins}
use Rattle.ac_walk_state.specs.OrderKnowledge.{IsKnown, IsWidenedAt, claims_of, pairs_of}
use Rattle.ac_walk_state.specs.MemberGrowth.{ClaimsGrow, once, again}
use Rattle.ac_walk_state.specs.BrokenPathStarts.{AtEach, BeginsOf}
use Rattle.ac_walk_state.specs.Growth.{ArePathsOf, IfKnown, IsGrowthOf, MembersEnd}
use Rattle.ac_walk_state.specs.GrowthStep.{BeginsIf, IsPathFor, Takes, as_grown, pair_of as pair_of_claim}
use Rattle.ac_walk_state.specs.declared.begins.Begin.{Begin}
use Rattle.ac_walk_state.specs.declared.begins.Begin.TheVariants.{At, Further}
use Rattle.ac_walk_state.specs.declared.known.Known.{Known}
use Rattle.ac_walk_state.specs.declared.growth.Growth.{Growth}
use Rattle.ac_walk_state.specs.declared.growth.Growth.TheVariants.{Grown, Mismatch, Nothing}
use Rattle.ac_walk_state.proofs.LastItems.{all_in, among_back, among_front, append_nil, get_is, in_get, map-append, next_item}

-- the claims of the widening points are of their pairs
pub claim_pairs : (widening_points : List WideningPointOf) → map pair_of_claim (map claim_of widening_points) ≡ map positions widening_points
claim_pairs [] = refl
claim_pairs (k ∷ widening_points) = ap (λ (ps : List (Position × Position)). positions k ∷ ps) (claim_pairs widening_points)

-- ---- further entries

-- what justifies stays where it is
still_stands : (es more : List (EntryOf (Position × Position))) (i : ℕ) (k : Position × Position) (p : List ℤ) → StandsAt es i k p → StandsAt (es ++ more) i k p
still_stands es more i k p h = (h.0, get_front es more i h.0 h.1, h.2, h.3)

still_weighs : (es more : List (EntryOf (Position × Position))) (k : Position × Position) (ws : List (ℕ × ℤ)) (ps : List (List ℤ)) → Weighs es k ws ps → Weighs (es ++ more) k ws ps
still_weighs es more k [] [] h = tt
still_weighs es more k [] (p ∷ ps) h = absurd h
still_weighs es more k (w ∷ ws) [] h = absurd h
still_weighs es more k (w ∷ ws) (p ∷ ps) h = (still_stands es more w.0 k p h.0, still_weighs es more k ws ps h.1)

still_justified : (s : Setting (Position × Position)) (order : Position × Position → Order) (es more : List (EntryOf (Position × Position))) (k : Position × Position) (p : List ℤ) (reason : Reason) → Justified s order es k p reason → Justified s order (es ++ more) k p reason
still_justified s order es more k p Output h = h
still_justified s order es more k p (Step i) h = (h.0, h.1, still_stands es more i h.0 h.1 h.2, h.3)
still_justified s order es more k p (Hull m ws) h = (h.0, h.1, (h.2.0, still_weighs es more k ws h.2.0 h.2.1, h.2.2), λ r a n. let x = h.3 r a n in (x.0, x.1, still_stands es more x.0 k x.1 x.2, x.3))

still_begins : (s : Setting (Position × Position)) (order : Position × Position → Order) (es more path : List Entry) (begin : Begin) → Begins s order es path begin → Begins s order (es ++ more) path begin
still_begins s order es more [] begin h = absurd h
still_begins s order es more (e ∷ path) (At place) h = subst (λ (xs : List (EntryOf (Position × Position))). StandsAt xs place (e.left, e.right) e.point) (sym (map-append entry_of es more)) (still_stands (entries_of es) (entries_of more) place (e.left, e.right) e.point h)
still_begins s order es more (e ∷ path) (Further reason) h =
    subst (λ (xs : List (EntryOf (Position × Position))). Justified s order xs (e.left, e.right) e.point reason) (sym (map-append entry_of es more)) (still_justified s order (entries_of es) (entries_of more) (e.left, e.right) e.point reason h)

begins_later : (u : Unfolding) (t : Template) (start known : Known) (more path : List Entry) (begin : Begin) → known.entries ≡ start.entries ++ more → BeginsIf u t start path begin → IsWidenedAt (setting_of u) t start → Begins (setting_of u) u.order known.entries path begin
begins_later u t start known more path begin e h w = subst (λ (es : List Entry). Begins (setting_of u) u.order es path begin) (sym e) (still_begins (setting_of u) u.order start.entries more path begin (h w))

-- ---- a further path

-- a path for the claims at first is one for what is known later
pub path_later : (u : Unfolding) (t : Template) (start known : Known) (path : List Entry) → IsPathFor u t (claims_of start) start path → IsKnown u.pair t known → pairs_of known ≡ pairs_of start → IsPathFor u t (claims_of start) known path
path_later u t start known path h is pairs = record { arities = h.arities; is_known = is; pairs = h.pairs ∙ sym pairs; broken = h.broken }

pub may_take : (u : Unfolding) (t : Template) (start : Known) (paths : List (List Entry)) (path : List Entry) (growth : Growth) → IsGrowthOf u t start paths growth → IsPathFor u t (claims_of start) start path
    → IfKnown (λ known. (v : Unfolding) × (claims : List Claim) × IsPathFor v t claims known path) growth
may_take u t start paths path (Grown known) h p = (u, claims_of start, path_later u t start known path p h.is_known h.pairs)
may_take u t start paths path (Mismatch entries) h p = tt
may_take u t start paths path (Nothing known) h p = (u, claims_of start, path_later u t start known path p h.is_known h.pairs)

pub before_paths : (u : Unfolding) (t : Template) (start : Known) → IsKnown u.pair t start → IsGrowthOf u t start [] (Nothing start)
before_paths u t start h = record {
  is_known = h;
  pairs = refl;
  members = λ pair p m. inl m;
  more = ([], sym (append_nil start.entries));
  grown = tt;
  mismatch = tt;
  nothing = (refl, refl);
  derivation = λ w d. d;
}

pub behind_mismatch : (u : Unfolding) (t : Template) (start : Known) (paths : List (List Entry)) (path : List Entry) (entries : List Entry) → IsGrowthOf u t start paths (Mismatch entries) → IsGrowthOf u t start (paths ++ path ∷ []) (Mismatch entries)
behind_mismatch u t start paths path entries h = record { is_known = tt; pairs = tt; members = tt; more = h.more; grown = tt; mismatch = h.mismatch; nothing = tt; derivation = h.derivation }

-- entries behind those of the start
more_again : (start known new a b : List Entry) → known ≡ start ++ a → new ≡ known ++ b → (es : List Entry) × (new ≡ start ++ es)
more_again start known new a b e f = (a ++ b, f ∙ ap (λ (xs : List Entry). xs ++ b) e ∙ append_assoc start a b)

-- members behind the paths and one more
members_later : (old known new : List WideningPointOf) (paths : List (List Entry)) (path : List Entry) → MembersEnd old paths known → MembersEnd known (path ∷ []) new → MembersEnd old (paths ++ path ∷ []) new
members_later old known new paths path h k pair p m = elim (k pair p m) [
  | inl n ↦ elim (h pair p n) [ inl o ↦ inl o | inr e ↦ inr (e.0, among_front paths (path ∷ []) e.0 e.1, e.2, e.3, e.4, e.5) ]
  | inr e ↦ inr (e.0, among_back paths (path ∷ []) e.0 e.1, e.2, e.3, e.4, e.5)
]

pub behind_nothing : (u : Unfolding) (t : Template) (start : Known) (paths : List (List Entry)) (known : Known) (begin : Begin) (path : List Entry) (next : Growth) → IsGrowthOf u t start paths (Nothing known) → BeginsIf u t start path begin
    → Takes u t (claims_of start) known begin path next → IsGrowthOf u t start (paths ++ path ∷ []) next
behind_nothing u t start paths known begin path (Grown new) h begins k = record {
  is_known = k.is_known;
  pairs = k.pairs ∙ h.pairs;
  members = members_later start.widening_points.items known.widening_points.items new.widening_points.items paths path h.members k.members;
  more = more_again start.entries known.entries new.entries h.more.0 k.more.0 h.more.1 k.more.1;
  grown = subst (λ (x : Known). ClaimsGrow t x.widening_points.items new.widening_points.items) h.nothing.1 (once known.widening_points.items new.widening_points.items k.grown);
  mismatch = tt;
  nothing = tt;
  derivation = λ w d. k.derivation (begins_later u t start known h.more.0 path begin h.more.1 begins w) (h.derivation w d);
}
behind_nothing u t start paths known begin path (Mismatch entries) h begins k = record {
  is_known = tt;
  pairs = tt;
  members = tt;
  more = more_again start.entries known.entries entries h.more.0 k.more.0 h.more.1 k.more.1;
  grown = tt;
  mismatch = k.mismatch;
  nothing = tt;
  derivation = λ w d. k.derivation (begins_later u t start known h.more.0 path begin h.more.1 begins w) (h.derivation w d);
}
behind_nothing u t start paths known begin path (Nothing new) h begins k = absurd (k.nothing.1 (ap (λ (x : Known). claims_of x) (sym h.nothing.1)))

pub behind_grown : (u : Unfolding) (t : Template) (start : Known) (paths : List (List Entry)) (known : Known) (begin : Begin) (path : List Entry) (next : Growth) → IsGrowthOf u t start paths (Grown known) → BeginsIf u t start path begin
    → Takes u t (claims_of start) known begin path next → IsGrowthOf u t start (paths ++ path ∷ []) (as_grown next)
behind_grown u t start paths known begin path (Grown new) h begins k = record {
  is_known = k.is_known;
  pairs = k.pairs ∙ h.pairs;
  members = members_later start.widening_points.items known.widening_points.items new.widening_points.items paths path h.members k.members;
  more = more_again start.entries known.entries new.entries h.more.0 k.more.0 h.more.1 k.more.1;
  grown = again start.widening_points.items known.widening_points.items new.widening_points.items h.grown k.grown;
  mismatch = tt;
  nothing = tt;
  derivation = λ w d. k.derivation (begins_later u t start known h.more.0 path begin h.more.1 begins w) (h.derivation w d);
}
behind_grown u t start paths known begin path (Mismatch entries) h begins k = record {
  is_known = tt;
  pairs = tt;
  members = tt;
  more = more_again start.entries known.entries entries h.more.0 k.more.0 h.more.1 k.more.1;
  grown = tt;
  mismatch = k.mismatch;
  nothing = tt;
  derivation = λ w d. k.derivation (begins_later u t start known h.more.0 path begin h.more.1 begins w) (h.derivation w d);
}
behind_grown u t start paths known begin path (Nothing new) h begins k = record {
  is_known = k.is_known;
  pairs = k.pairs ∙ h.pairs;
  members = members_later start.widening_points.items known.widening_points.items new.widening_points.items paths path h.members k.members;
  more = more_again start.entries known.entries new.entries h.more.0 k.more.0 h.more.1 k.more.1;
  grown = subst (λ (x : Known). ClaimsGrow t start.widening_points.items x.widening_points.items) (sym k.nothing.0) h.grown;
  mismatch = tt;
  nothing = tt;
  derivation = λ w d. k.derivation (begins_later u t start known h.more.0 path begin h.more.1 begins w) (h.derivation w d);
}

-- ---- the paths of a start

pub start_path : (u : Unfolding) (t : Template) (start : Known) (from : Option ℕ) (paths : List (List Entry)) (at : ℕ) (path : List Entry) → ArePathsOf u t start from paths → slice_get paths at ≡ Some path → IsPathFor u t (claims_of start) start path
start_path u t start from paths at path h is = record {
  arities = h.0.arities;
  is_known = h.0.is_known;
  pairs = claim_pairs start.widening_points.items;
  broken = all_in (IsBroken u (claims_of start)) paths path h.1 (in_get paths at path is);
}

pub start_begins : (u : Unfolding) (t : Template) (start : Known) (from : Option ℕ) (paths : List (List Entry)) (begins : List Begin) (at : ℕ) (path : List Entry) (begin : Begin) → ArePathsOf u t start from paths → AtEach (BeginsOf start from) paths begins
    → slice_get paths at ≡ Some path → slice_get begins at ≡ Some begin → BeginsIf u t start path begin
start_begins u t start from paths begins at path begin h each ip ib w = (each at path begin ip ib).1 u t h.0 w (start_path u t start from paths at path h ip).broken

-- a further one of them
pub take_one : (u : Unfolding) (t : Template) (start : Known) (from : Option ℕ) (paths : List (List Entry)) (begins : List Begin) (at : ℕ) (path : List Entry) (begin : Begin) (growth next : Growth) → ArePathsOf u t start from paths → AtEach (BeginsOf start from) paths begins
    → at < length paths → path ≡ get_or paths at path → slice_get begins at ≡ Some begin
    → ((before : List (List Entry)) → IsGrowthOf u t start before growth → IsPathFor u t (claims_of start) start path → BeginsIf u t start path begin → IsGrowthOf u t start (before ++ path ∷ []) next)
    → IsGrowthOf u t start (take at paths) growth → IsGrowthOf u t start (take (at + 1) paths) next
take_one u t start from paths begins at path begin growth next h each l is ib step before =
    let ip = get_is paths at path l is in
    subst (λ (ps : List (List Entry)). IsGrowthOf u t start ps next) (sym (next_item paths at path l is)) (step (take at paths) before (start_path u t start from paths at path h ip) (start_begins u t start from paths begins at path begin h each ip ib))
