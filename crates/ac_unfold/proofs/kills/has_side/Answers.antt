use Rattle.std.proofs.Common.{◌≡◌, List, false, take, sym, subst}
use Rattle.std.proofs.lemmas.List.{take_all}
use Rattle.std.specs.List.{AllByRecursion}
use Rattle.ac_forms.specs.Rows.{AreRowsOver, Meets}
use Rattle.ac_forms.specs.Standing.{all_stand}
use Rattle.ac_forms.specs.declared.row.Row.{Row}
use Rattle.ac_unfold.specs.UnfoldQuestions.{IsNew}
use Rattle.ac_unfold.proofs.Results.{in_read, next_item}
use Rattle.ac_unfold.proofs.Stops.{all_more}
use Rattle.ac_unfold.proofs.kills.has_side.Goals as goal

pub loop-part-init : goal.loop-part-init
loop-part-init c = tt

pub loop-part-preserved-then-part-ne0 : goal.loop-part-preserved-then-part-ne0
loop-part-preserved-then-part-ne0 c =
    let k = c.args.conj.now in
    let ps = c.args.outside.now in
    let i = c.loop-part.part-index in
    let new : IsNew k c.part-item.result = λ zero. absurd (c.if-part-ne0.true zero) in
    subst (AllByRecursion (IsNew k)) (sym (next_item ps i c.part-item.result c.loop-part-test.true c.part-item.is)) (all_more (IsNew k) (take i ps) c.part-item.result c.loop-part.invariant new)

pub loop-part-preserved : goal.loop-part-preserved
loop-part-preserved c =
    let k = c.args.conj.now in
    let ps = c.args.outside.now in
    let i = c.loop-part.part-index in
    let part = c.part-item.result in
    let new : IsNew k part = λ zero made over. subst (λ (rs : List Row). all_stand k.rows rs ≡ false) c.as_slice.ensures (c.in_ok-stand.ensures.fails c.if-stand.false made (subst (AreRowsOver k.columns) (sym c.as_slice.ensures) over)) in
    subst (AllByRecursion (IsNew k)) (sym (next_item ps i part c.loop-part-test.true c.part-item.is)) (all_more (IsNew k) (take i ps) part c.loop-part.invariant new)

pub returns-then-stand-clause-there : goal.returns-then-stand-clause-there
returns-then-stand-clause-there c = λ _. record {
  part = c.part-item.result;
  among = in_read c.args.outside.now c.loop-part.part-index c.part-item.result c.loop-part-test.true c.part-item.is;
  columns = c.if-part-ne0.false;
  holds = λ p meets. subst (λ (rs : List Row). Meets rs p) c.as_slice.ensures (c.in_ok-stand.ensures.holds c.if-stand.true p meets);
}

pub returns-clause-new : goal.returns-clause-new
returns-clause-new c = λ _. subst (AllByRecursion (IsNew c.args.conj.now)) (take_all c.loop-part.part-index c.args.outside.now c.loop-part-test.false) c.loop-part.invariant
