use Rattle.std.proofs.Common.{◌≡◌, false, rules, ◌∙◌, sym, ap}
use Rattle.std.specs.List.{dedup}
use Rattle.std.proofs.lemmas.Fn.{dedup_same}
use Rattle.ac_forms.specs.NormalForm.{alike, has_clash, in_order}
use Rattle.ac_forms.proofs.Joining.{joined_is}
use Rattle.ac_forms.proofs.join.join.Goals as goal

pub returns : goal.returns
returns c =
    let made : c.dedup_by.new.self.items ≡ dedup alike c.in_ok-rows.rows.items = dedup_same _ alike _ (λ x y b f' x' y' k. search rules) _ _ c.dedup_by.ensures.filtered in
    let none : has_clash c.in_ok-rows.rows.items ≡ false = rw (← c.as_slice.ensures.value, ← c.clashes.ensures) c.if-clashes.false in
    made ∙ joined_is c.in_ok-rows.rows.items (in_order c.args.rows.items) c.in_ok-rows.ensures none
