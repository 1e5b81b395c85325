-- Refuted orders, one of which each order of the sites extends.
use Rattle.std.proofs.Common.{◌≡◌, inl, inr, List, [], ◌∷◌, ◌++◌, map, refl, sym, ap, ◌∙◌}
use Rattle.ac_syntax.specs.declared.tree.Order.{Order}
use Rattle.ac_syntax.specs.declared.tree.Position.{Position}
use Rattle.ac_syntax.specs.declared.tree.Site.{Site}
use Rattle.ac_match.specs.SiteOrders.{Extends as ExtendsSites, ExtendsRefuted, HasOrder, IsOrderOf}
use Rattle.ac_match.specs.declared.orders.Refuted.{Refuted}
use Rattle.ac_widen.specs.Obligations.{HasMismatch}
use Rattle.ac_widen.specs.OrderRefutations.{Extends}
use Rattle.ac_widen.specs.Setting.{Setting}
use Rattle.ac_widen.proofs.Refuting.{refuted, refuted_mismatch}
use Rattle.ac_widen_programs.specs.PairPoints.{choices_of}
use Rattle.ac_widen_programs.specs.DerivationEntries.{entries_of}
use Rattle.ac_walk_state.specs.RefutedOrders.{RefutesPart}
use Rattle.ac_walk_state.specs.SearchSetting.{searched}
use Rattle.ac_walk_state.specs.UnmatchedByWidening.{UnmatchedHaveMismatches}
use Rattle.ac_walk_state.specs.UnmatchedOutputs.{AreRefutedInTurn, pair_at}

pub refutes_part : (s : Setting (Position × Position)) → RefutesPart s
refutes_part s order es partial lawful d end part = refuted s lawful order (choices_of partial) (entries_of es) end.0 end.1 d part end.2 end.3

-- ---- the orders of the sites that an order of the pairs gives

abbrev chosen_by : (Position × Position → Order) → Site → Site × Order
chosen_by order s = (s, order (pair_at s))

of_sites : (order : Position × Position → Order) (sites : List Site) → IsOrderOf sites (map (chosen_by order) sites)
of_sites order [] = refl
of_sites order (s ∷ sites) = λ i. s ∷ of_sites order sites i

order_there : (order : Position × Position → Order) (sites : List Site) (s : Site) (o : Order) → HasOrder (map (chosen_by order) sites) s o → order (pair_at s) ≡ o
order_there order [] s o h = absurd h
order_there order (t ∷ sites) s o (inl h) = ap (λ (x : Site). order (pair_at x)) (sym h.0) ∙ h.1
order_there order (t ∷ sites) s o (inr h) = order_there order sites s o h.1

extends_choices : (order : Position × Position → Order) (sites : List Site) (partial : List (Site × Order)) → ExtendsSites (map (chosen_by order) sites) partial → Extends order (choices_of partial)
extends_choices order sites [] h = tt
extends_choices order sites (c ∷ partial) h = (order_there order sites c.0 c.1 h.0, extends_choices order sites partial h.1)

-- ---- mismatches

extended_mismatch : (s : Setting (Position × Position)) (order : Position × Position → Order) (sites : List Site) (earlier list : List Refuted) → AreRefutedInTurn s sites earlier list → ExtendsRefuted (map (chosen_by order) sites) list → HasMismatch s order
extended_mismatch s order sites earlier [] h x = absurd x
extended_mismatch s order sites earlier (r ∷ list) h (inl x) = refuted_mismatch s (choices_of r.partial) (entries_of r.why.entries) order h.0.refuted (extends_choices order sites r.partial x)
extended_mismatch s order sites earlier (r ∷ list) h (inr x) = extended_mismatch s order sites (earlier ++ r ∷ []) list h.1 x

pub unmatched_have_mismatches : UnmatchedHaveMismatches
unmatched_have_mismatches pair output list u w is order =
    extended_mismatch (searched pair output w) order u.sites [] list (u.refuted w is) (u.comes (map (chosen_by order) u.sites) (of_sites order u.sites))
