use Rattle.std.proofs.Common.{◌+◌, sym, ◌∙◌}
use Rattle.ac_unfold_table.proofs.Places.{items_of, placed_at, placed_further, placed_same}
use Rattle.ac_unfold_table.proofs.relations.places.Goals as goal
use Rattle.ac_unfold_table.proofs.relations.places.Goals.{in-Some+in_ok-push, in_default+in_ok-push-2+in_ok-further}

pub loop-column-preserved : goal.loop-column-preserved
loop-column-preserved c =
    let own = c.args.own.now in
    let n = c.args.columns in
    let column = c.loop-column.column in
    let old = c.loop-column.places.items in
    elim c.match-place_of.branch [
      | in-Some+in_ok-push w ↦
          placed_same own n (column + 1) c.loop-column.further c.match-place_of.further c.match-place_of.places.items w.further-is
          (placed_at own n column c.loop-column.further w.in-Some.at old c.match-place_of.places.items c.loop-column.invariant c.loop-column-test.true (sym w.in-Some.is ∙ c.place_of.ensures) (items_of c.match-place_of.places w.push.new.self w.places-is ∙ w.in_ok-push.ensures.items))
      | in_default+in_ok-push-2+in_ok-further w ↦
          placed_further own n column c.loop-column.further c.match-place_of.further old c.match-place_of.places.items c.loop-column.invariant c.loop-column-test.true (sym w.in_default.is ∙ c.place_of.ensures) (items_of c.match-place_of.places w.push-in_default.new.self w.places-is ∙ w.in_ok-push-2.ensures.items) (w.further-is ∙ w.in_ok-further.ensures)
    ]
