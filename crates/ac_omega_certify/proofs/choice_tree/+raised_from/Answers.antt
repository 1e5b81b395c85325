use Rattle.std.proofs.Common.{◌≡◌, ℕ, ◌+◌, ◌<◌, ◌≤◌, ◌^◌, length, take, get_or, arith, rules, refl, sym, ap, ◌∙◌, subst}
use Rattle.ac_forms.specs.Affine.{Affine}
use Rattle.ac_omega_certify.specs.ChoiceBranches.{Stage, seen, lift_count}
use Rattle.ac_omega_certify.specs.TreePathRows.{Renames}
use Rattle.ac_omega_certify.proofs.RaisedPlaces.{lift_same, lift_more}
use Rattle.ac_omega_certify.proofs.RaisedTrees.{Served, serves-same, serves-parts, leaves-long, counts-long, raised-whole, raised-past, IsLower, lower-row, lower-room, Behind, raised-by}
use Rattle.ac_omega_certify.proofs.choice_tree.+raised_from.Goals as goal

pub returns-then-i-rows : goal.returns-then-i-rows
returns-then-i-rows t c = λ p d on up. c.requires.shadow p d on (raised-whole c.args.stage.now.names.now c.args.stage.now.rows.now c.args.stage.now.counts.now c.args.i p d c.if-i-rows.true up)

pub bounds-counts-i : goal.bounds-counts-i
bounds-counts-i t c =
    let long : length c.args.stage.now.counts.now ≡ length c.args.stage.now.rows.now = counts-long c.args.stage.now.rows.now c.args.stage.now.counts.now c.requires.counts in
    omega arith

pub raised_from-requires : goal.raised_from-requires
raised_from-requires t c = (
  search rules,
  let s : Stage = seen c.args.stage.now in
      let long : length c.args.stage.now.counts.now ≡ length c.args.stage.now.rows.now = counts-long c.args.stage.now.rows.now c.args.stage.now.counts.now c.requires.counts in
      let within : c.args.i < length c.args.stage.now.counts.now = omega arith in
      let none : get_or c.args.stage.now.counts.now c.args.i 0 ≡ 0 = c.if-count-eq0.true in
      let same : lift_count (take (c.args.i + 1) c.args.stage.now.counts.now) ≡ lift_count (take c.args.i c.args.stage.now.counts.now) = lift_same c.args.stage.now.counts.now c.args.i (c.args.i + 1) refl refl within (omega arith) in
      (c.requires.long, (c.requires.counts, (c.requires.within_2_to_120, (c.requires.deep, (omega arith, (c.requires.end ∙ ap (λ (n : ℕ). c.args.stage.now.base.rows + n) (sym same), (serves-same s c.args.i c.args.splinters.items within none c.requires.served, c.requires.shadow))))))),
)

pub returns-then-count-eq0 : goal.returns-then-count-eq0
returns-then-count-eq0 t c =
    let s : Stage = seen c.args.stage.now in
    raised-past s c.args.i c.raised_from.result (counts-long c.args.stage.now.rows.now c.args.stage.now.counts.now c.requires.counts) c.if-count-eq0.true c.raised_from.ensures

pub split_off-requires : goal.split_off-requires
split_off-requires t c =
    let s : Stage = seen c.args.stage.now in
    let long : length c.args.stage.now.counts.now ≡ length c.args.stage.now.rows.now = counts-long c.args.stage.now.rows.now c.args.stage.now.counts.now c.requires.counts in
    let few : get_or c.args.stage.now.counts.now c.args.i 0 ≤ length c.args.splinters.items = leaves-long s c.args.i c.args.splinters.items (omega arith) c.requires.served in
    first_of (omega (arith, few, c.args.splinters.ok), search (rules, few))

pub raised_from-requires-2 : goal.raised_from-requires-2
raised_from-requires-2 t c = (
  search rules,
  let s : Stage = seen c.args.stage.now in
      let long : length c.args.stage.now.counts.now ≡ length c.args.stage.now.rows.now = counts-long c.args.stage.now.rows.now c.args.stage.now.counts.now c.requires.counts in
      let within : c.args.i < length c.args.stage.now.counts.now = omega arith in
      let some : 0 < get_or c.args.stage.now.counts.now c.args.i 0 = omega arith in
      let p : Served s c.args.i c.args.splinters.items c.split_off.new.self.items c.in_ok-later.later.items = serves-parts s c.args.i c.args.splinters.items c.split_off.new.self.items c.in_ok-later.later.items within c.in_ok-later.ensures.items c.in_ok-later.ensures.tail c.requires.served in
      let more : lift_count (take (c.args.i + 1) c.args.stage.now.counts.now) ≡ lift_count (take c.args.i c.args.stage.now.counts.now) + 1 = lift_more c.args.stage.now.counts.now c.args.i (c.args.i + 1) refl within some in
      let next : c.in-Some.next ≡ c.args.end + 1 = first_of (omega arith, search rules) in
      (c.requires.long, (c.requires.counts, (c.requires.within_2_to_120, (omega (arith, p.back-long, c.requires.deep), (omega arith, (omega (arith, c.requires.end, next, more), (p.later, c.requires.shadow))))))),
)

pub raised_tree-requires-clause-room : goal.raised_tree-requires-clause-room
raised_tree-requires-clause-room t c =
    let s : Stage = seen c.args.stage.now in
    let long : length c.args.stage.now.counts.now ≡ length c.args.stage.now.rows.now = counts-long c.args.stage.now.rows.now c.args.stage.now.counts.now c.requires.counts in
    let here : c.args.i < length c.args.stage.now.rows.now = omega arith in
    let within : c.args.i < length c.args.stage.now.counts.now = omega arith in
    let some : 0 < get_or c.args.stage.now.counts.now c.args.i 0 = omega arith in
    let p : Served s c.args.i c.args.splinters.items c.split_off.new.self.items c.in_ok-later.later.items = serves-parts s c.args.i c.args.splinters.items c.split_off.new.self.items c.in_ok-later.later.items within c.in_ok-later.ensures.items c.in_ok-later.ensures.tail c.requires.served in
    let lower : IsLower c.index-rows-i.result = lower-row c.args.stage.now.rows.now c.args.stage.now.counts.now c.args.i c.index-rows-i.result c.requires.counts here c.index-rows-i.is some in
    let small : length c.split_off.new.self.items < 2 ^ 64 = omega (arith, p.front-long, c.see_count.ensures) in
    lower-room c.args.stage.now.rows.now c.args.i c.index-rows-i.result c.in_ok-form.form (length c.split_off.new.self.items) c.requires.within_2_to_120 here c.index-rows-i.is lower (c.in_ok-form.ensures.konst ∙ ap (λ (f : Affine). f.konst) c.form.ensures) (rw c.form.ensures at c.in_ok-form.ensures.sizes) small

pub returns : goal.returns
returns t c =
    let s : Stage = seen c.args.stage.now in
    let long : length c.args.stage.now.counts.now ≡ length c.args.stage.now.rows.now = counts-long c.args.stage.now.rows.now c.args.stage.now.counts.now c.requires.counts in
    let here : c.args.i < length c.args.stage.now.rows.now = omega arith in
    let within : c.args.i < length c.args.stage.now.counts.now = omega arith in
    let some : 0 < get_or c.args.stage.now.counts.now c.args.i 0 = omega arith in
    let p : Served s c.args.i c.args.splinters.items c.split_off.new.self.items c.in_ok-later.later.items = serves-parts s c.args.i c.args.splinters.items c.split_off.new.self.items c.in_ok-later.later.items within c.in_ok-later.ensures.items c.in_ok-later.ensures.tail c.requires.served in
    let lower : IsLower c.index-rows-i.result = lower-row c.args.stage.now.rows.now c.args.stage.now.counts.now c.args.i c.index-rows-i.result c.requires.counts here c.index-rows-i.is some in
    let b : Behind s c.args.i c.index-rows-i.result c.in_ok-form.form c.split_off.new.self.items c.in_ok-onward.onward c.args.end = record {
      within = here;
      long = long;
      row = c.index-rows-i.is;
      lower = lower;
      some = some;
      count = p.front-long;
      column = p.column;
      served = p.here;
      ends = c.requires.end;
      short = c.in_ok-form.ensures.within;
    } in
    raised-by s c.args.i c.args.end c.index-rows-i.result c.in_ok-form.form c.split_off.new.self.items c.in_ok-onward.onward c.raised_tree.result b
    (λ q on. subst (λ (f : Affine). Renames c.args.stage.now.names.now f c.in_ok-form.form) c.form.ensures (c.in_ok-form.ensures.renames on.names)) c.in_ok-onward.ensures c.raised_tree.ensures
