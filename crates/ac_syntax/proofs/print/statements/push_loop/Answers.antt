use Rattle.std.proofs.Common.{List, ℕ, ◌++◌, ap, ◌∙◌, codes, FitsSigned, w64, rules}
use Rattle.std.proofs.lemmas.Int.{to_z-of_z}
use Rattle.ac_syntax.specs.Text.{Scope, form_text, cond_text, step_text}
use Rattle.ac_syntax.proofs.Shapes.{loop_shape}
use Rattle.ac_syntax.proofs.print.statements.push_loop.Goals as goal

pub returns : goal.returns
returns c =
    let head = c.args.head.now in
    let old = c.args.bytes.now.items in
    let indent = c.args.indent.now in
    let start = form_text c.args.scope.now head.start.now in
    let fits : FitsSigned w64 c.args.head.now.step = search rules in
    let turn = simp to_z-of_z at c.in_ok-push_turn.ensures in
    let iter = c.as_bytes-iter.result.now in
    let whole : List ℕ → Scope → List ℕ = λ i s.
    old ++ (indent ++ (codes "for (int " ++ i ++ codes " = " ++ start ++ codes "; " ++ cond_text s head.cond.now ++ codes "; " ++ i ++ step_text head.step ++ codes ") {") ++ codes "\n") in
    turn ∙ ap (λ l. l ++ cond_text c.args.inner.now head.cond.now ++ codes "; " ++ iter ++ step_text head.step ++ codes ") {\n") c.in_ok-push_start.ensures
    ∙ loop_shape old indent iter start (cond_text c.args.inner.now head.cond.now) (step_text head.step)
    ∙ ap (λ i. whole i c.args.inner.now) c.as_bytes-iter.ensures.value
    ∙ ap (whole head.iter.now) c.requires
