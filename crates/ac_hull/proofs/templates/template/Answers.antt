use Rattle.std.proofs.Common.{arith, ◌≡◌, ◌+◌, ◌∙◌, ap}
use Rattle.ac_hull.specs.Templates.{template_rows, all_rows}
use Rattle.ac_hull.proofs.Templating.{template_exact}
use Rattle.ac_hull.proofs.templates.template.Goals as goal

pub returns-clause-exact : goal.returns-clause-exact
returns-clause-exact c =
    let n : c.loop-first.first ≡ c.args.columns + 1 = omega arith in
    let e : c.loop-first.rows ≡ template_rows c.args.columns c.args.thresholds.now c.args.moduli.now =
    c.loop-first.invariant ∙ ap (λ m. all_rows c.args.columns c.args.thresholds.now c.args.moduli.now m) n in
    template_exact c.args.columns c.args.thresholds.now c.args.moduli.now c.loop-first.rows e
