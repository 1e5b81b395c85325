use Rattle.std.proofs.Common.{rules, ◌≡◌, ◌-◌, ◌/◌, ◌<◌, ◌≤◌, ◌++◌, ◌∷◌, [], length, refl, sym, get_or, remove}
use Rattle.ac_assoc_law.specs.ArrangedPairs.{factorial}
use Rattle.ac_assoc.proofs.Numbering.{permute_step, permute_over, permute_end}
use Rattle.ac_assoc.proofs.orders.permute.Goals as goal

pub returns-then-at-len : goal.returns-then-at-len
returns-then-at-len c =
    let f : c.in_ok-after.after ≡ factorial (length c.loop-rest.rest.items - 1) = search rules in
    let l : length c.loop-rest.rest.items ≤ c.loop-rest.left / c.in_ok-after.after = search rules in
    let m : c.append.new.self.items ≡ c.loop-rest.made.items ++ c.loop-rest.rest.items = search rules in
    sym (permute_over _ _ _ _ _ _ _ c.loop-rest.invariant f refl l m)

pub loop-rest-preserved : goal.loop-rest-preserved
loop-rest-preserved c =
    let f : c.in_ok-after.after ≡ factorial (length c.loop-rest.rest.items - 1) = search rules in
    let l : c.loop-rest.left / c.in_ok-after.after < length c.loop-rest.rest.items = search rules in
    let is : c.remove.result ≡ get_or c.loop-rest.rest.items (c.loop-rest.left / c.in_ok-after.after) c.remove.result = search rules in
    let m : c.push.new.self.items ≡ c.loop-rest.made.items ++ c.remove.result ∷ [] = search rules in
    let e : c.remove.new.self.items ≡ remove c.loop-rest.rest.items (c.loop-rest.left / c.in_ok-after.after) = search rules in
    rw e (permute_step _ _ _ _ _ _ _ c.remove.result c.loop-rest.invariant f refl l is m)

pub returns : goal.returns
returns c =
    let e : length c.loop-rest.rest.items ≡ 0 = search rules in
    sym (permute_end _ _ _ _ c.loop-rest.invariant e)
