-- A derivation holds under each order that has its orders at the sites through which it steps.
use Rattle.std.proofs.Common.{◌≡◌, ◌↔◌, inl, inr, ℤ, List, [], ◌∷◌, ◌++◌, Some, Bool, true, false, refl, sym, ◌∙◌, append_assoc}
use Rattle.std.specs.Prelude.{slice_get}
use Rattle.ac_syntax.specs.declared.tree.Order.{Order}
use Rattle.ac_forms.specs.ListMembers.{IsAmong}
use Rattle.ac_widen.specs.Combinations.{Each}
use Rattle.ac_widen.specs.Setting.{Setting, IsLawful}
use Rattle.ac_widen.specs.Obligations.{Obligation, HasMismatch}
use Rattle.ac_widen.specs.Derivations.{EntryOf, Justified, Derives, IsDerivation}
use Rattle.ac_widen.specs.declared.derivation.Reason.{Reason}
use Rattle.ac_widen.specs.declared.derivation.Reason.TheVariants.{Output, Step, Hull}
use Rattle.ac_widen.specs.OrderRefutations.{StepsFrom, Extends, IsPartOf, IsRefuted, Decided, Equal, Unmatched, is_equal}
use Rattle.ac_widen.proofs.Combining.{each_among}
use Rattle.ac_widen.proofs.Deriving.{derived_obligation, get_front}
use Rattle.ac_widen.proofs.Standing.{stands_no_mismatch}

among_last : {A : Type 0} (xs : List A) (x : A) (ys : List A) → IsAmong x (xs ++ x ∷ ys)
among_last [] x ys = inl refl
among_last (z ∷ xs) x ys = inr (among_last xs x ys)

each_last : {A : Type 0} (P : A → Type 0) (xs : List A) (x : A) → Each P (xs ++ x ∷ []) → P x
each_last P [] x h = h.0
each_last P (z ∷ xs) x h = each_last P xs x h.1

module _ {K : Type 0} (s : Setting K) where
  -- each order that extends a refuted one has a mismatch
  pub refuted_mismatch : (partial : List (K × Order)) (es : List (EntryOf K)) (order : K → Order) → IsRefuted s partial es → Extends order partial → HasMismatch s order
  refuted_mismatch partial es order r x =
      let m = r.mismatch in
      let all : Each (λ e. Obligation s order e.positions e.point) (m.0 ++ m.1 ∷ []) = rw m.2 at (derived_obligation s order es (r.derivation order x)) in
      (m.1.positions, m.1.point, each_last (λ e. Obligation s order e.positions e.point) m.0 m.1 all, m.3)

  -- unmatched: each order has a mismatch
  pub each_mismatch : (list : List (List (K × Order) × List (EntryOf K))) → Each (λ c. IsRefuted s c.0 c.1) list
      → ((order : K → Order) → (c : List (K × Order) × List (EntryOf K)) × IsAmong c list × Extends order c.0) → (order : K → Order) → HasMismatch s order
  each_mismatch list h g order =
      let x = g order in
      refuted_mismatch x.0.0 x.0.1 order (each_among (λ c. IsRefuted s c.0 c.1) x.0 list h x.1) x.2

module _ {K : Type 0} (s : Setting K) (laws : IsLawful s) where
  -- the orders agree where it matters
  abbrev Agree : (K → Order) → (K → Order) → List (EntryOf K) → Type 0
  Agree order other es = (k : K) → s.is_site k ≡ true → StepsFrom es k → order k ≡ other k

  reordered : (t u : Order) (k : K) (p : List ℤ) (j : K) (q : List ℤ) (b : Bool) → s.is_site k ≡ b → (b ≡ true → t ≡ u) → s.Step t k p j q → s.Step u k p j q
  reordered t u k p j q true e f d = rw (f refl) at d
  reordered t u k p j q false e f d = laws.plain t u k p j q e d

  step_agrees : (order other : K → Order) (all before es : List (EntryOf K)) (e : EntryOf K) (why : Reason) → all ≡ before ++ e ∷ es → e.reason ≡ why → Agree order other all
      → Justified s order before e.positions e.point why → Justified s other before e.positions e.point why
  step_agrees order other all before es e Output is w g j = j
  step_agrees order other all before es e (Step i) is w g j =
      let from = j.2.0 in
      let at_ : slice_get all i ≡ Some from = rw is (get_front before (e ∷ es) i from j.2.1) in
      let on : IsAmong e all = rw is (among_last before e es) in
      (j.0, j.1, j.2, reordered (order j.0) (other j.0) j.0 j.1 e.positions e.point (s.is_site j.0) refl (λ t. g j.0 t (e, on, i, w, from, at_, j.2.2)) j.3)
  step_agrees order other all before es e (Hull m ws) is w g j = j

  derives_agrees : (order other : K → Order) (all before es : List (EntryOf K)) → all ≡ before ++ es → Agree order other all → Derives s order before es → Derives s other before es
  derives_agrees order other all before [] is g d = tt
  derives_agrees order other all before (e ∷ es) is g d = (
    step_agrees order other all before es e e.reason is refl g d.0,
    derives_agrees order other all (before ++ e ∷ []) es (is ∙ sym (append_assoc before (e ∷ []) es)) g d.1,
  )

  -- a derivation under one order that ends in a mismatch refutes the partial order of its sites
  pub refuted : (order : K → Order) (partial : List (K × Order)) (es front : List (EntryOf K)) (last : EntryOf K) → IsDerivation s order es → IsPartOf s order es partial
      → es ≡ front ++ last ∷ [] → s.Mismatch last.positions last.point → IsRefuted s partial es
  refuted order partial es front last d part is m =
      record {
        derivation = λ other x. derives_agrees order other es [] es refl (λ k t f. sym (each_among (λ c. other c.0 ≡ c.1) (k, order k) partial x (part.whole k t f))) d;
        mismatch = (front, last, is, m);
      }

  -- equal exactly where for some order no obligation is a mismatch
  pub equal_exactly : (d : Decided s) → (is_equal d ≡ true) ↔ ((order : K → Order) × ¬ (HasMismatch s order))
  equal_exactly (Equal order claim h) = ((λ _. (order, stands_no_mismatch s laws order claim h)), (λ _. refl))
  equal_exactly (Unmatched list h g) = ((λ e. absurd cc), (λ x. absurd (x.1 (each_mismatch s list h g x.0))))
