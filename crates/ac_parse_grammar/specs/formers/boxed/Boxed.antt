-- How `Boxed` stores the value that it holds, so that a type may hold itself through it: its value is that value, its one field a `Box`.
use mathlib.Core.Path.{refl}
use mathlib.Core.Former.{Former, this, const, pair, via}
use base.Stored.{gnil}
use base.Fml.{ftrue}
use denote.RattleType.{RattleType}
use denote.Memory.{part_of}
use denote.RawPtr.{Ptr}
use denote.Sharing.{nothing}
use denote.HoleLaws.{Alike}
use denote.HolePlaces.{Recodes, struct_places, laid, one_value}
use denote.Hole.Fix.{over}
use denote.Param.Weighed.{Weighed}
use denote.Model.Placed.{view_places}
use Rattle.std.specs.declared.boxed.Box.{Box}
use Rattle.std.specs.contracts.boxed.Box as inner
use Rattle.std.specs.declared.alloc.Global.{Global}
use Rattle.std.specs.contracts.alloc.Global as global
use Rattle.std.specs.contracts.impls.GlobalAllocator.TheImpl.{ghosts}
use Rattle.ac_parse_grammar.specs.declared.boxed.Boxed.TheInside.{Inside}
use Rattle.ac_parse_grammar.specs.declared.boxed.Boxed.TheView.{view, invariant}
use Rattle.ac_parse_grammar.specs.contracts.boxed.Boxed as whole
use Rattle.ac_parse_grammar.specs.contracts.boxed.Boxed.TheInside as fields

-- the value is what is held
abbrev pub the_former : Former {0} → Former {0}
the_former g = g

abbrev pub the_weighed : {g : Former {0}} → Weighed g → Weighed (the_former g)
the_weighed weighed = weighed

-- the field is a pointer, its allocator and what is held
abbrev stored : Former {0}
stored = via (pair (const (Ptr × Global)) this) Inside (λ X record_of. ((record_of.held.ptr, record_of.held.alloc), record_of.held.value))
    (λ X parts. record { held = record { ptr = parts.0.0; alloc = parts.0.1; value = parts.1 } }) (λ X record_of. refl) (λ X parts. refl)

abbrev holding : {X Y : Type 0} → Box X Global → Y → Box Y Global
holding box value = record { ptr = box.ptr; alloc = box.alloc; value = value }

abbrev box_of : RattleType → RattleType
box_of R = inner.the_row R global.the_row ghosts

module _ (R S : RattleType) (h : R.Denot → S.Denot) where
  box_places : Alike R S h → Alike (box_of R) (box_of S) (λ box. holding box (h box.value))
  unfolding part_of
  box_places alike = record {
    mir_same = λ i. (box_of (one_value R (alike.mir_same i) (λ _. ftrue) (λ _ _. nothing) gnil)).mir;
    own_same = λ box i. (box_of (one_value R (alike.mir_same i) (alike.own_same box.value i) (alike.shr_same box.value i) gnil)).own_val (holding box tt);
    shr_same = λ box i. (box_of (one_value R (alike.mir_same i) (alike.own_same box.value i) (alike.shr_same box.value i) gnil)).shr_at (holding box tt);
  }

  pub the_places : Alike R S h → Alike (whole.the_row R) (whole.the_row S) ((the_former this).map R.Denot S.Denot h)
  the_places alike = view_places stored this view (λ X Y k u. refl) (λ X u. refl) R.Denot S.Denot h (whole.the_row R).coded (whole.the_row S).coded
      (invariant R.Denot) (invariant S.Denot) (λ u p q. refl) (λ u p q. refl) (λ u e. tt) (λ u e. tt)
      (over (fields.the_row R)) (over (fields.the_row S))
      (struct_places (fields.the_type R) (fields.the_type S) ((λ box. holding box (h box.value)), tt) _ (λ d. refl) refl (laid _ _ _ (box_places alike), tt))

  pub the_codes_placed : Recodes R S h → Recodes (whole.the_row R) (whole.the_row S) ((the_former this).map R.Denot S.Denot h)
  the_codes_placed recodes value = recodes value
