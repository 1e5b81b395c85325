use Rattle.std.proofs.Common.{◌≡◌, true, List, ◌++◌, sym, ap, ◌∙◌}
use Rattle.ac_forms.specs.declared.row.Row.{Row}
use Rattle.ac_forms.specs.declared.row.Row.TheVariants.{Ge}
use Rattle.ac_omega_steps.specs.Bounds.{is_high, low_bound}
use Rattle.ac_omega_certify.proofs.Bounding.{one-shown}
use Rattle.ac_omega_certify.proofs.Shadowings.{shows-one}
use Rattle.ac_omega_certify.proofs.path.TreePath.show_beside.Goals as goal

pub returns-clause-rows : goal.returns-clause-rows
returns-clause-rows c =
    let z = c.args.bounded.now.column in
    let low = low_bound z c.args.low.now.form.now in
    let high : is_high z c.in-Ge.high ≡ true = sym c.is_high.ensures ∙ c.if-not-is_high.false in
    c.in_ok-keep.ensures.rows ∙ ap (λ (rs : List Row). c.args.made.now.rows.items ++ rs) (one-shown z c.args.low.now.margin low c.args.row.now c.in-Ge.high c.in_ok-shown.shown.form c.in-Ge.is high c.in_ok-shown.ensures.form)

pub returns-clause-shows : goal.returns-clause-shows
returns-clause-shows c = λ start path names h o k s.
    let y = rw c.in-Ge.is at k.1 in
    let l = c.in_ok-shown.ensures.leads start path names h o k.0 y in
    shows-one c.args.self.now c.show_pair.new.self start path names c.in_ok-shown.shown.place (Ge c.in_ok-shown.shown.form) c.args.made.now _ c.in_ok-shown.ensures.base o s l c.in_ok-keep.ensures.rows c.in_ok-keep.ensures.places
