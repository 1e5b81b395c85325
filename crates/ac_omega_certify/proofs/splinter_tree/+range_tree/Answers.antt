use Rattle.std.proofs.Common.{◌≡◌, ℕ, suc, ◌+◌, ◌-◌, ◌/◌, ◌≤◌, length, rules, arith, sym, subst}
use Rattle.ac_forms.specs.Affine.{Affine}
use Rattle.ac_omega_certify.specs.Leaves.{less, HasRoom, AcceptsRange}
use Rattle.ac_omega_certify.proofs.Leaves.{room-rest, room-less}
use Rattle.ac_omega_certify.proofs.Ranges.{Halves, cut-in-two, one-range, again-range, two-ranges}
use Rattle.ac_omega_certify.proofs.splinter_tree.+range_tree.Goals as goal

pub returns-then-depth-eq0 : goal.returns-then-depth-eq0
returns-then-depth-eq0 t c =
    let none : c.args.depth ≡ 0 = omega arith in
    one-range c.args.leaves.items c.args.form.now c.args.depth c.args.low c.args.high c.args.end c.remove.result c.in_ok-tree.tree none c.requires.some c.requires.deep c.requires.room c.remove.ensures.value c.in_ok-tree.ensures

pub returns-then-count-eq1 : goal.returns-then-count-eq1
returns-then-count-eq1 t c =
    let one : length c.args.leaves.items ≡ 1 = omega (arith, c.len-count.ensures) in
    let deep : c.args.depth ≡ suc (c.args.depth - 1) = omega arith in
    let grown : c.in-Some.next ≡ c.args.end + 1 = first_of (omega arith, search rules) in
    again-range c.args.leaves.items c.args.form.now c.args.depth (c.args.depth - 1) c.args.low c.args.high c.args.end c.in-Some.next c.in_ok-same.same c.in_ok-tree-2.tree one deep grown c.requires.room c.in_ok-tree-2.ensures c.in_ok-same.ensures

pub range_tree-requires-2 : goal.range_tree-requires-2
range_tree-requires-2 t c =
    let ts = c.args.leaves.items in
    let half = c.len-count.result / 2 in
    let big : 2 ≤ length ts = omega (arith, c.len-count.ensures) in
    let h : Halves ts c.split_off.new.self.items c.in_ok-above.above.items c.args.depth half = cut-in-two ts c.split_off.new.self.items c.in_ok-above.above.items c.args.depth half (omega arith) (omega (arith, c.len-count.ensures, big)) (omega (arith, c.len-count.ensures)) (omega (arith, c.len-count.ensures)) c.requires.deep c.in_ok-above.ensures.items c.in_ok-above.ensures.tail in
    let room = subst (λ (n : ℕ). HasRoom (less c.args.form.now half) n) (sym h.rest) (room-rest c.args.form.now (length ts) half c.requires.room h.within) in
    (search rules, (h.more, (h.back, subst (λ (g : Affine). HasRoom g (length c.in_ok-above.above.items)) (sym c.in_ok-middle.ensures) room)))

pub range_tree-requires-3 : goal.range_tree-requires-3
range_tree-requires-3 t c =
    let ts = c.args.leaves.items in
    let half = c.len-count.result / 2 in
    let big : 2 ≤ length ts = omega (arith, c.len-count.ensures) in
    let h : Halves ts c.split_off.new.self.items c.in_ok-above.above.items c.args.depth half = cut-in-two ts c.split_off.new.self.items c.in_ok-above.above.items c.args.depth half (omega arith) (omega (arith, c.len-count.ensures, big)) (omega (arith, c.len-count.ensures)) (omega (arith, c.len-count.ensures)) c.requires.deep c.in_ok-above.ensures.items c.in_ok-above.ensures.tail in
    let room = subst (HasRoom c.args.form.now) (sym h.size) (room-less c.args.form.now (length ts) half c.requires.room h.within) in
    (search rules, (h.some, (h.front, room)))

pub returns : goal.returns
returns t c =
    let ts = c.args.leaves.items in
    let f = c.args.form.now in
    let d = c.args.depth - 1 in
    let half = c.len-count.result / 2 in
    let xs = c.split_off.new.self.items in
    let ys = c.in_ok-above.above.items in
    let big : 2 ≤ length ts = omega (arith, c.len-count.ensures) in
    let h : Halves ts xs ys c.args.depth half = cut-in-two ts xs ys c.args.depth half (omega arith) (omega (arith, c.len-count.ensures, big)) (omega (arith, c.len-count.ensures)) (omega (arith, c.len-count.ensures)) c.requires.deep c.in_ok-above.ensures.items c.in_ok-above.ensures.tail in
    let deep : c.args.depth ≡ suc d = omega arith in
    let grown : c.in-Some.next ≡ c.args.end + 1 = first_of (omega arith, search rules) in
    let upper = subst (λ (g : Affine). AcceptsRange c.in_ok-upper.upper g ys d c.args.end c.args.high c.in-Some.next) c.in_ok-middle.ensures c.in_ok-upper.ensures in
    two-ranges ts xs ys f c.args.depth d c.args.low c.args.high c.args.end c.in-Some.next half c.in_ok-upper.upper c.in_ok-lower.lower c.in_ok-tree-3.tree h.whole h.size deep grown c.in_ok-tree-3.ensures upper c.in_ok-lower.ensures
