-- The choices of an order at the sites from which entries step.
use Rattle.std.proofs.Common.{◌≡◌, ◌⊎◌, inl, inr, ℕ, ◌+◌, ◌<◌, List, [], ◌∷◌, ◌++◌, length, map, take, get_or, Option, Some, Bool, true, refl, sym, ap, ◌∙◌, subst}
use Rattle.std.specs.Prelude.{slice_get}
use Rattle.ac_syntax.specs.declared.tree.Order.{Order}
use Rattle.ac_syntax.specs.declared.tree.Pair.{Pair}
use Rattle.ac_syntax.specs.declared.tree.Position.{Position}
use Rattle.ac_syntax.specs.declared.tree.Site.{Site}
use Rattle.ac_forms.specs.ListMembers.{IsAmong}
use Rattle.ac_forms.specs.declared.row.Row.{Row}
use Rattle.ac_graph.specs.PairMoves.{AreDistinct, AreSites, pairing_of}
use Rattle.ac_widen_programs.specs.PairSetting.{is_site_pair, setting}
use Rattle.ac_widen_programs.proofs.Lawful.{sites_are_declared}
use Rattle.ac_unfold_plans.specs.ArgumentOrders.{order_of}
use Rattle.ac_widen.specs.Combinations.{Each}
use Rattle.ac_widen.specs.Derivations.{EntryOf, entry_of}
use Rattle.ac_widen.specs.OrderRefutations.{IsPartOf, StepsFrom}
use Rattle.ac_widen.specs.declared.derivation.Entry.{Entry}
use Rattle.ac_widen.specs.declared.derivation.Reason.{Reason}
use Rattle.ac_widen.specs.declared.derivation.Reason.TheVariants.{Step}
use Rattle.ac_widen_programs.specs.PairPoints.{choice_of as key_choice, choices_of}
use Rattle.ac_widen_programs.specs.DerivationEntries.{entries_of}
use Rattle.ac_walk_state.specs.PartialOrders.{AreChoices, AreOnce, AreSourcesOf, AreSteppedFrom, IsSource, HasSite, choice_of}
use Rattle.ac_walk_state.specs.UnmatchedOutputs.{pair_at}
use Rattle.ac_walk_state.proofs.Making.{distinct_more}
use Rattle.ac_walk_state.proofs.LastItems.{among_front, among_last, among_map, among_more, get_map, in_read, map-append, map_among, map_get, next_item}

each_from : {A : Type 0} (P : A → Type 0) (xs : List A) → ((x : A) → IsAmong x xs → P x) → Each P xs
each_from P [] h = tt
each_from P (x ∷ xs) h = (h x (inl refl), each_from P xs (λ y k. h y (inr k)))

-- ---- sites, each once

pub none_once : AreOnce [] []
none_once = ((λ site. ((λ k. k), (λ k. k))), (λ i j p e f. absurd cc))

pub once_same : (sites made : List Site) (site : Site) → IsAmong site made → AreOnce sites made → AreOnce (sites ++ site ∷ []) made
once_same sites made site there h = (
  (λ s. ((λ k. among_front sites (site ∷ []) s ((h.0 s).0 k)), (λ k. elim (among_more s site sites k) [ inl j ↦ (h.0 s).1 j | inr same ↦ subst (λ (x : Site). IsAmong x made) (sym same) there ]))),
  h.1,
)

-- a site is told by its pair of positions
told : (site other : Site) → pair_at site ≡ pair_at other → site ≡ other
told site other e = λ i. record { left = (e i).0; right = (e i).1 }

pub once_more : (sites made : List Site) (site : Site) → ¬ (IsAmong site made) → AreOnce sites made → AreOnce (sites ++ site ∷ []) (made ++ site ∷ [])
once_more sites made site none h =
    let apart : ¬ (IsAmong (pair_at site) (map pair_at made)) = λ k. let m = map_among pair_at made (pair_at site) k in none (subst (λ (x : Site). IsAmong x made) (sym (told site m.0 m.2)) m.1) in (
      (λ s. (
        (λ k. elim (among_more s site made k) [ inl j ↦ among_front sites (site ∷ []) s ((h.0 s).0 j) | inr same ↦ subst (λ (x : Site). IsAmong x (sites ++ site ∷ [])) (sym same) (among_last site sites) ]),
        (λ k. elim (among_more s site sites k) [ inl j ↦ among_front made (site ∷ []) s ((h.0 s).1 j) | inr same ↦ subst (λ (x : Site). IsAmong x (made ++ site ∷ [])) (sym same) (among_last site made) ]),
      )),
      subst AreDistinct (sym (map-append pair_at made (site ∷ []))) (distinct_more (map pair_at made) (pair_at site) h.1 apart),
    )

-- ---- choices

pub no_choices : (order : List (Site × Order)) (sites : List Site) → AreChoices order sites []
no_choices order sites c k = absurd k

pub choices_more : (order : List (Site × Order)) (sites : List Site) (site : Site) (o : Order) (old new : List (Site × Order)) → IsAmong site sites → o ≡ (choice_of order site).1 → new ≡ old ++ (site, o) ∷ [] → AreChoices order sites old → AreChoices order sites new
choices_more order sites site o old new among is e h c k = by (among_more c (site, o) old (subst (IsAmong c) e k))
  where
    by : IsAmong c old ⊎ (c ≡ (site, o)) → IsAmong c.0 sites × (c ≡ choice_of order c.0)
    by (inl j) = h c j
    by (inr same) =
        let all : c ≡ choice_of order site = same ∙ ap (λ (x : Order). (site, x)) is in
        let first : c.0 ≡ site = ap (λ (x : Site × Order). x.0) same in
        (subst (λ (x : Site). IsAmong x sites) (sym first) among, all ∙ ap (choice_of order) (sym first))

-- a site that has a choice has that of the order
pub chosen_is : (order : List (Site × Order)) (sites : List Site) (site : Site) (choices : List (Site × Order)) → AreChoices order sites choices → HasSite choices site → IsAmong (choice_of order site) choices
chosen_is order sites site choices h k =
    let r = map_among (λ (c : Site × Order). c.0) choices site k in
    let is : r.0 ≡ choice_of order site = (h r.0 r.1).1 ∙ ap (choice_of order) (sym r.2) in
    subst (λ (c : Site × Order). IsAmong c choices) is r.1

-- ---- sources

pub no_sources : (es : List Entry) → AreSourcesOf es [] []
no_sources es widening_point = ((λ k. absurd k), (λ (e, k, s). absurd k))

source_one : (es : List Entry) (e : Entry) (a b : Position × Position) → IsSource es e a → IsSource es e b → a ≡ b
source_one es e a b h g =
    let steps : Step h.0 ≡ Step g.0 = subst (λ (r : Reason). r ≡ Step g.0) h.1 g.1 in
    let number : h.0 ≡ g.0 = cc in
    let there : slice_get es g.0 ≡ Some h.2 = subst (λ (i : ℕ). slice_get es i ≡ Some h.2) number h.3 in
    let same : Some h.2 ≡ Some g.2 = subst (λ (o : Option Entry). o ≡ Some g.2) there g.3 in
    let from : h.2 ≡ g.2 = cc in
    subst (λ (x : Position × Position). x ≡ b) h.4 (subst (λ (x : Entry). (x.left, x.right) ≡ b) (sym from) g.4)

pub sources_more : (es first : List Entry) (e : Entry) (pairs : List (Position × Position)) (positions : Position × Position) → IsSource es e positions → AreSourcesOf es first pairs → AreSourcesOf es (first ++ e ∷ []) (pairs ++ positions ∷ [])
sources_more es first e pairs positions s h k = (to, from)
  where
    to : IsAmong k (pairs ++ positions ∷ []) → (d : Entry) × IsAmong d (first ++ e ∷ []) × IsSource es d k
    to i = elim (among_more k positions pairs i) [
      | inl j ↦ let r = (h k).0 j in (r.0, among_front first (e ∷ []) r.0 r.1, r.2)
      | inr same ↦ (e, among_last e first, subst (IsSource es e) (sym same) s)
    ]

    from : (d : Entry) × IsAmong d (first ++ e ∷ []) × IsSource es d k → IsAmong k (pairs ++ positions ∷ [])
    from (d, i, g) = elim (among_more d e first i) [
      | inl j ↦ among_front pairs (positions ∷ []) k ((h k).1 (d, j, g))
      | inr same ↦ subst (λ (x : Position × Position). IsAmong x (pairs ++ positions ∷ [])) (source_one es e positions k s (subst (λ (x : Entry). IsSource es x k) same g)) (among_last positions pairs)
    ]

pub sources_same : (es first : List Entry) (e : Entry) (pairs : List (Position × Position)) → ((positions : Position × Position) → ¬ (IsSource es e positions)) → AreSourcesOf es first pairs → AreSourcesOf es (first ++ e ∷ []) pairs
sources_same es first e pairs none h k = (to, from)
  where
    to : IsAmong k pairs → (d : Entry) × IsAmong d (first ++ e ∷ []) × IsSource es d k
    to i = let r = (h k).0 i in (r.0, among_front first (e ∷ []) r.0 r.1, r.2)

    from : (d : Entry) × IsAmong d (first ++ e ∷ []) × IsSource es d k → IsAmong k pairs
    from (d, i, g) = elim (among_more d e first i) [
      | inl j ↦ (h k).1 (d, j, g)
      | inr same ↦ absurd (none k (subst (λ (x : Entry). IsSource es x k) same g))
    ]

-- those of all entries
pub stepped_from : (es : List Entry) (pairs : List (Position × Position)) → AreSourcesOf es es pairs → AreSteppedFrom es pairs
stepped_from es pairs h widening_point = (to, from)
  where
    to : IsAmong widening_point pairs → StepsFrom (entries_of es) widening_point
    to i =
        let r = (h widening_point).0 i in
        let s = r.2 in
        (entry_of r.0, among_map entry_of es r.0 r.1, s.0, s.1, entry_of s.2, get_map entry_of es s.0 s.2 s.3, s.4)

    from : StepsFrom (entries_of es) widening_point → IsAmong widening_point pairs
    from s =
        let e = map_among entry_of es s.0 s.1 in
        let f = map_get entry_of es s.2 s.4 s.5 in
        (h widening_point).1 (e.0, e.1, (s.2, ap (λ (x : EntryOf (Position × Position)). x.reason) (sym e.2) ∙ s.3, f.0, f.1, ap (λ (x : EntryOf (Position × Position)). x.positions) f.2 ∙ s.6))

-- ---- the part

pub part_is : (pair : Pair) (es : List Entry) (order : List (Site × Order)) (pairs : List (Position × Position)) (sites : List Site) (choices : List (Site × Order)) → AreSteppedFrom es pairs → AreSites (pairing_of pair) pairs sites
    → AreChoices order sites choices → ((site : Site) → IsAmong site sites → IsAmong (choice_of order site) choices)
    → (outputs : List ℕ) (recurrent : Position × Position → Bool) (template : Position × Position → List Row) → IsPartOf (setting pair outputs recurrent template) (order_of order) (entries_of es) (choices_of choices)
part_is pair es order pairs sites choices stepped are right all outputs recurrent template = record {
  extends = each_from (λ (c : (Position × Position) × Order). order_of order c.0 ≡ c.1) (choices_of choices) extends_at;
  whole = λ k site steps.
      let s : Site = record { left = k.0; right = k.1 } in
      let among : IsAmong s sites = (are s).1 ((stepped k).1 steps, (sites_are_declared pair k).0 site) in
      among_map key_choice choices (choice_of order s) (all s among);
  exact = λ c k.
      let d = map_among key_choice choices c k in
      let widening_point : c.0 ≡ (d.0.0.left, d.0.0.right) = ap (λ (x : (Position × Position) × Order). x.0) d.2 in
      let site = (are d.0.0).0 (right d.0 d.1).0 in
      (subst (λ (x : Position × Position). is_site_pair pair x ≡ true) (sym widening_point) ((sites_are_declared pair (d.0.0.left, d.0.0.right)).1 site.1), subst (StepsFrom (entries_of es)) (sym widening_point) ((stepped (d.0.0.left, d.0.0.right)).0 site.0));
}
  where
    extends_at : (c : (Position × Position) × Order) → IsAmong c (choices_of choices) → order_of order c.0 ≡ c.1
    extends_at c k =
        let d = map_among key_choice choices c k in
        let is : d.0.1 ≡ order_of order (d.0.0.left, d.0.0.right) = ap (λ (x : Site × Order). x.1) (right d.0 d.1).1 in
        ap (λ (x : (Position × Position) × Order). order_of order x.0) d.2 ∙ sym is ∙ ap (λ (x : (Position × Position) × Order). x.1) (sym d.2)

-- ---- tests of lists

pub has_found : {A : Type 0} (sites : List A) (i : ℕ) (x site : A) → i < length sites → x ≡ get_or sites i x → site ≡ x → IsAmong site sites
has_found sites i x site l e same = subst (λ y. IsAmong y sites) (sym same) (in_read sites i x l e)

pub site_found : (choices : List (Site × Order)) (i : ℕ) (x : Site × Order) (site : Site) → i < length choices → x ≡ get_or choices i x → site ≡ x.0 → HasSite choices site
site_found choices i x site l e same = subst (λ (y : Site). HasSite choices y) (sym same) (among_map (λ (c : Site × Order). c.0) choices x (in_read choices i x l e))

-- none of the first sites is that one, nor the next one
pub has_not_more : {A : Type 0} (sites : List A) (i : ℕ) (x site : A) → i < length sites → x ≡ get_or sites i x → ¬ (site ≡ x) → ¬ (IsAmong site (take i sites)) → ¬ (IsAmong site (take (i + 1) sites))
has_not_more sites i x site l e other none k = elim (among_more site x (take i sites) (subst (IsAmong site) (next_item sites i x l e) k)) [ inl j ↦ none j | inr same ↦ other same ]

-- the choices at all of the sites so far
pub all_more : (order : List (Site × Order)) (sites : List Site) (i : ℕ) (x : Site) (old new : List (Site × Order)) → i < length sites → x ≡ get_or sites i x → ((c : Site × Order) → IsAmong c old → IsAmong c new) → IsAmong (choice_of order x) new
    → ((site : Site) → IsAmong site (take i sites) → IsAmong (choice_of order site) old) → (site : Site) → IsAmong site (take (i + 1) sites) → IsAmong (choice_of order site) new
all_more order sites i x old new l e stays here all site k = elim (among_more site x (take i sites) (subst (IsAmong site) (next_item sites i x l e) k)) [
  | inl j ↦ stays (choice_of order site) (all site j)
  | inr same ↦ subst (λ (s : Site). IsAmong (choice_of order s) new) (sym same) here
]

pub chosen_more : (order : List (Site × Order)) (site : Site) (o : Order) (old new : List (Site × Order)) → o ≡ (choice_of order site).1 → new ≡ old ++ (site, o) ∷ [] → IsAmong (choice_of order site) new
chosen_more order site o old new is e = subst (IsAmong (choice_of order site)) (sym e) (subst (λ (x : Order). IsAmong (choice_of order site) (old ++ (site, x) ∷ [])) (sym is) (among_last (choice_of order site) old))

pub still_among : {A : Type 0} (old new : List A) (y : A) → new ≡ old ++ y ∷ [] → (x : A) → IsAmong x old → IsAmong x new
still_among old new y e x k = subst (IsAmong x) (sym e) (among_front old (y ∷ []) x k)
