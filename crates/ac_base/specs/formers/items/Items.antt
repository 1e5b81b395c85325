-- How `Items` stores the values that it holds, so that a type may hold itself through it: its value is the list, its one field a `Vec`.
use mathlib.Core.Path.{◌≡◌, refl, sym}
use mathlib.Core.List.{List, []}
use mathlib.Core.Former.{Former, this, list, via, children}
use base.Stored.{code_map}
use denote.RattleType.{RattleType}
use denote.HoleLaws.{Alike}
use denote.HolePlaces.{Recodes, struct_places, laid}
use denote.Hole.Carrier.{listed, list-listed}
use denote.Hole.Fix.{over}
use denote.Param.Weighed.{Weighed, w_list}
use denote.Model.Placed.{view_places}
use Rattle.std.specs.formers.vec.Vec as inner
use Rattle.std.specs.declared.alloc.Global.{Global}
use Rattle.std.specs.contracts.alloc.Global as global
use Rattle.std.specs.contracts.impls.GlobalAllocator.TheImpl.{ghosts}
use Rattle.ac_base.specs.declared.items.Items.TheInside.{Inside}
use Rattle.ac_base.specs.declared.items.Items.TheView.{view, invariant}
use Rattle.ac_base.specs.contracts.items.Items as whole
use Rattle.ac_base.specs.contracts.items.Items.TheInside as fields

-- the value is a list, and so is what it holds
abbrev pub the_former : Former {0} → Former {0}
the_former g = list g

abbrev pub the_weighed : {g : Former {0}} → Weighed g → Weighed (the_former g)
the_weighed weighed = w_list weighed

pub the_empty : List ⊥
the_empty = []

abbrev pub the_items : (X : Type 0) → List X → List X
the_items X held = held

pub the_items_listed : (X : Type 0) (held : List X) → listed _ (children (the_former this) X held) ≡ the_items X held
the_items_listed X held = list-listed X held

-- the fields are a `Vec` of what is held
abbrev stored : Former {0}
stored = via (inner.the_former this Global) Inside (λ X record_of. record_of.held) (λ X vector. record { held = vector }) (λ X record_of. refl) (λ X vector. refl)

module _ (R S : RattleType) (h : R.Denot → S.Denot) where
  pub the_places : Alike R S h → Alike (whole.the_row R) (whole.the_row S) ((the_former this).map R.Denot S.Denot h)
  the_places alike = view_places stored (list this) view (λ X Y k u. refl) (λ X u. refl) R.Denot S.Denot h (whole.the_row R).coded (whole.the_row S).coded
      (invariant R.Denot) (invariant S.Denot) (λ u p q. refl) (λ u p q. refl) (λ u e. tt) (λ u e. tt)
      (over (fields.the_row R)) (over (fields.the_row S))
      (struct_places (fields.the_type R) (fields.the_type S) (inner.mapped h, tt) _ (λ d. refl) refl (laid _ _ _ (inner.the_places global.the_row ghosts R S h alike), tt))

  pub the_codes_placed : Recodes R S h → Recodes (whole.the_row R) (whole.the_row S) ((the_former this).map R.Denot S.Denot h)
  the_codes_placed recodes held = sym (code_map R.coded.code S.coded.code h (λ x. sym (recodes x)) held)
