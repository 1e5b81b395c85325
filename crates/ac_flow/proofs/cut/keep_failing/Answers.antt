use Rattle.std.proofs.Common.{◌∙◌, List, ap}
use Rattle.ac_flow.proofs.Asked.{full_map, kept_have, contains_at, part_stops}
use Rattle.ac_forms.specs.declared.conj.Conj.{Conj}
use Rattle.ac_forms.specs.declared.row.Row.{Row}
use Rattle.ac_flow.specs.Cuts.{with_all_new}
use Rattle.ac_flow.proofs.CutLoops.{part-made, failing_step, failing_full}
use Rattle.ac_flow.proofs.cut.keep_failing.Goals as goal

rows_as : Conj → Conj → List Row → Conj
rows_as here part rows = record { columns = part.columns; rows = with_all_new here.rows rows }

pub keep-requires : goal.keep-requires
unfolding rows_as
keep-requires c =
    part-made c.args.here.now c.args.row.now c.deref-part-items.result.now c.loop-part.part-index c.part-item.result c.in_ok-part.part c.requires.made c.requires.row
    (c.deref-part-items.ensures.value ∙ c.in-Ok.ensures.exact.1) c.loop-part-test.true c.part-item.is
    (c.in_ok-part.ensures ∙ ap (rows_as c.args.here.now c.part-item.result) c.as_slice.ensures)

pub returns-in_err-part-clause-have : goal.returns-in_err-part-clause-have
returns-in_err-part-clause-have c = kept_have _ _ _ c.loop-part.invariant.done

pub returns-in-Err-clause-stops : goal.returns-in-Err-clause-stops
unfolding rows_as
returns-in-Err-clause-stops c = λ new.
    let is = c.in_ok-part.ensures ∙ ap (rows_as c.args.here.now c.part-item.result) c.as_slice.ensures in
    let at = contains_at c.deref-part-items.result.now _ c.loop-part.part-index c.part-item.result c.loop-part-test.true c.part-item.is (c.deref-part-items.ensures.value ∙ c.in-Ok.ensures.exact.1) in
    part_stops c.args.budget c.args.here.now c.in_ok-part.part c.part-item.result c.args.row.now c.in-Err.stop at is new c.in-Err.ensures.stops

pub returns-in-Err-clause-have : goal.returns-in-Err-clause-have
returns-in-Err-clause-have c = λ a. c.keep.ensures.have (kept_have _ _ _ c.loop-part.invariant.done a)

pub returns-clause-have : goal.returns-clause-have
returns-clause-have c = kept_have _ _ _ c.loop-part.invariant.done

pub returns-in-Err-clause-full : goal.returns-in-Err-clause-full
unfolding rows_as
returns-in-Err-clause-full c =
    full_map c.in-Err.stop _ _ (λ k. (
      k.0,
      failing_full c.args.here.now c.deref-part-items.result.now c.args.room c.args.kept.now c.loop-part.kept c.keep.new.kept c.loop-part.part-index c.part-item.result c.in_ok-part.part c.args.row.now c.loop-part.invariant
          c.loop-part-test.true c.part-item.is (c.in_ok-part.ensures ∙ ap (rows_as c.args.here.now c.part-item.result) c.as_slice.ensures) k.1 (c.deref-part-items.ensures.value ∙ c.in-Ok.ensures.exact.1),
    )) c.in-Err.ensures.full

pub returns-in-Err-clause-one_more : goal.returns-in-Err-clause-one_more
returns-in-Err-clause-one_more c = λ l. c.in-Err.ensures.one_more (c.loop-part.invariant.within l)

pub returns-clause-within : goal.returns-clause-within
returns-clause-within c = c.loop-part.invariant.within

pub loop-part-preserved : goal.loop-part-preserved
unfolding rows_as
loop-part-preserved c =
    failing_step c.args.here.now c.deref-part-items.result.now c.args.room c.args.kept.now c.loop-part.kept c.keep.new.kept c.loop-part.part-index c.part-item.result c.in_ok-part.part c.loop-part.invariant
    c.loop-part-test.true c.part-item.is (c.in_ok-part.ensures ∙ ap (rows_as c.args.here.now c.part-item.result) c.as_slice.ensures) c.in-Ok-keep.ensures.kept c.in-Ok-keep.ensures.within
