-- What is known at a recurrence pair is right in each setting with its template, and stays so; and what follows for its claim.
use Rattle.std.proofs.Common.{◌≡◌, inl, inr, ℕ, ℤ, List, [], ◌∷◌, ◌++◌, length, true, refl, ap, sym, ◌∙◌, subst}
use Rattle.ac_syntax.specs.declared.tree.Order.{Order}
use Rattle.ac_syntax.specs.declared.tree.Position.{Position}
use Rattle.ac_forms.specs.Rows.{Meets}
use Rattle.ac_hull.specs.Hulls.{equalities_of}
use Rattle.ac_hull.specs.Templates.{template_rows}
use Rattle.ac_widen.specs.Claims.{IsClaimRow}
use Rattle.ac_widen.specs.Combinations.{Each, InHull}
use Rattle.ac_widen.specs.Derivations.{EntryOf, Justified, StandsAt}
use Rattle.ac_widen.specs.DerivationPaths.{AreAt}
use Rattle.ac_widen.specs.Setting.{Setting}
use Rattle.ac_widen.specs.WideningLaws.{AreEnough, AreOfHull}
use Rattle.ac_widen.specs.Walks.{narrowed_by}
use Rattle.ac_widen.specs.declared.derivation.Reason.{Reason}
use Rattle.ac_widen.proofs.Combining.{first_of_some}
use Rattle.ac_widen.proofs.Deriving.{hull_justified}
use Rattle.ac_widen.proofs.Walking.{kept_claim, kept_rows, still_kept}
use Rattle.ac_walk_state.specs.RecurrencePairs.{WideningPointOf, positions, claim_of}
use Rattle.ac_walk_state.specs.RecurrencePairInvariant.{IsWideningPoint, IsWideningPointIn, IsReasonAt, IsTemplateAt, IsWith, bare, kept_of, template_at}
use Rattle.ac_walk_state.specs.declared.template.Template.{Template}

abbrev Entries : Type 0
Entries = List (EntryOf (Position × Position))

-- as entries are added
pub key_stays : (t : Template) (es more_ : Entries) (k : WideningPointOf) → IsWideningPoint t es k → IsWideningPoint t (es ++ more_) k
key_stays t es more_ k is = (is.0, still_kept (bare k.hull.columns (template_at t k)) es more_ (positions k) (kept_of (template_at t k) k) is.1)

-- in a setting with the template
pub key_in : (s : Setting (Position × Position)) (t : Template) (es : Entries) (k : WideningPointOf) → IsWideningPoint t es k → k.hull.columns ≡ s.width (positions k) → IsTemplateAt s (positions k) t → IsWideningPointIn s es k
key_in s t es k is w e =
    let r : s.template (positions k) ≡ template_at t k = e ∙ ap (λ n. template_rows n t.thresholds t.moduli) (sym w) in (
      w,
      record {
        found_stand = is.1.found_stand;
        members_stand = is.1.members_stand;
        hull = λ q l n. is.1.hull q (l ∙ sym w) n;
        left = refl;
        among = λ x a. rw r (is.1.among x a);
        follow = λ x q a h m. is.1.follow x q (rw r at a) h m;
      },
    )

-- the claim of a widening point
pub claim_rows_are : (s : Setting (Position × Position)) (es : Entries) (k : WideningPointOf) → IsWideningPointIn s es k → Each (IsClaimRow (s.template (positions k))) (claim_of k).rows
claim_rows_are s es k is = kept_rows s es (positions k) (kept_of (s.template (positions k)) k) is.1

pub claim_in_hull : (t : Template) (es : Entries) (k : WideningPointOf) (q : List ℤ) → IsWideningPoint t es k → length q ≡ k.hull.columns → Meets (claim_of k).rows q → InHull k.hull.members q
claim_in_hull t es k q is l m = (kept_claim (bare k.hull.columns (template_at t k)) es (positions k) (kept_of (template_at t k) k) is.1).hull q l m

-- a combination justifies a point of the claim
pub reason_justified : (s : Setting (Position × Position)) (order : Position × Position → Order) (es : Entries) (k : WideningPointOf) (q : List ℤ) (r : Reason) → IsWideningPointIn s es k → s.recurrent (positions k) ≡ true → s.Instance (positions k) q
    → length q ≡ k.hull.columns → Meets (claim_of k).rows q → IsReasonAt k q r → Justified s order es (positions k) q r
reason_justified s order es k q r is t inst l m reason =
    let j = hull_justified s order es (positions k) k.hull.members k.members k.kept k.places (claim_of k).rows q reason.0 reason.1 t inst (l ∙ is.0)
    (kept_claim s es (positions k) (kept_of (s.template (positions k)) k) is.1) is.1.members_stand is.1.found_stand m reason.3 in
    subst (λ (x : Reason). Justified s order es (positions k) q x) (sym reason.2) j

-- ---- widening points

-- before the first member
pub key_new : (left right : Position) (columns : ℕ) (t : Template) (es : Entries)
    → IsWideningPoint t es (record { left = left; right = right; hull = record { columns = columns; members = [] }; members = []; places = []; kept = []; rows = [] })
key_new left right columns t es = (refl, record { found_stand = tt; members_stand = tt; hull = λ q l n. absurd (n refl); left = refl; among = λ r a. absurd a; follow = λ r q a h. absurd (first_of_some q h.0 h.1 h.2) })

are_snoc : (es : Entries) (k : Position × Position) (ns : List ℕ) (ps : List (List ℤ)) (n : ℕ) (p : List ℤ) → AreAt es k ns ps → StandsAt es n k p → AreAt es k (ns ++ n ∷ []) (ps ++ p ∷ [])
are_snoc es k [] [] n p a st = (st, tt)
are_snoc es k [] (q ∷ ps) n p a st = absurd a
are_snoc es k (m ∷ ns) [] n p a st = absurd a
are_snoc es k (m ∷ ns) (q ∷ ps) n p a st = (a.0, are_snoc es k ns ps n p a.1 st)

members_with : (es : Entries) (old new : WideningPointOf) (p : List ℤ) (place : ℕ) → AreAt es (positions old) old.kept old.hull.members → StandsAt es place (positions old) p → IsWith old p place new → AreAt es (positions old) new.kept new.hull.members
members_with es old new p place a st w =
    elim w.hull [
      | inl g ↦ rw (g.1, ap (λ h. h.members) g.0.1) (are_snoc es (positions old) old.kept old.hull.members place p a st)
      | inr g ↦ rw (g.1, ap (λ h. h.members) g.0.1) a
    ]

-- with a further member
pub key_with : (t : Template) (es : Entries) (old new : WideningPointOf) (p : List ℤ) (place : ℕ) → IsWideningPoint t es old → StandsAt es place (positions old) p → IsWith old p place new
    → AreOfHull new.hull.columns (equalities_of new.hull.columns new.hull.members) new.hull.members → AreEnough new.hull.members (narrowed_by (template_at t new) new.members) new.rows → IsWideningPoint t es new
key_with t es old new p place is st w hull enough =
    let at : positions new ≡ positions old = λ i. (w.left i, w.right i) in (
      refl,
      record {
        found_stand = rw (at, w.places, w.members) (are_snoc es (positions old) old.places old.members place p is.1.found_stand st);
        members_stand = rw at (members_with es old new p place is.1.members_stand st w);
        hull = λ q l n. hull q l;
        left = refl;
        among = enough.0;
        follow = enough.1;
      },
    )
