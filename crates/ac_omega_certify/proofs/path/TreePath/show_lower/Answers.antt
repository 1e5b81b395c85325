use Rattle.std.proofs.Common.{◌≡◌, ◌<◌, ◌^◌, to_z, true, List, ◌++◌, length, refl, sym, ap, ◌∙◌, arith, rules}
use Rattle.std.specs.Int.{w128}
use Rattle.ac_forms.specs.declared.row.Row.{Row}
use Rattle.ac_omega_steps.specs.Bounds.{is_low}
use Rattle.ac_omega_certify.proofs.Bounding.{row-margin, low-shown, count-is}
use Rattle.ac_omega_certify.proofs.Shadowings.{raised-here, one-low}
use Rattle.ac_omega_certify.proofs.path.TreePath.show_lower.Goals as goal

pub show_uppers-requires-clause-margin : goal.show_uppers-requires-clause-margin
show_uppers-requires-clause-margin c =
    let fits : c.args.candidate.now.count < 2 ^ 64 = first_of (omega arith, search rules) in
    let low : is_low c.args.bounded.now.column c.in-Ge.form ≡ true = sym c.is_low.ensures ∙ c.if-not-is_low.false in
    rw (count-is c.args.candidate.now.count fits)
    (row-margin c.args.bounded.now.column c.args.candidate.now.count c.in-Ge.form c.args.bounded.now.rows.now (rw c.in-Ge.is at c.requires.within_2_to_120) (rw c.in-Ge.is at c.requires.suffices) low)

pub returns-clause-rows : goal.returns-clause-rows
returns-clause-rows c =
    let fits : c.args.candidate.now.count < 2 ^ 64 = first_of (omega arith, search rules) in
    let low : is_low c.args.bounded.now.column c.in-Ge.form ≡ true = sym c.is_low.ensures ∙ c.if-not-is_low.false in
    c.in_ok-show_uppers.ensures.rows ∙ ap (λ (rs : List Row). c.args.made.now.rows.items ++ rs) (low-shown c.args.bounded.now.column c.args.candidate.now.count (to_z w128 c.args.candidate.now.count) c.args.bounded.now.rows.now c.args.candidate.now.row.now c.in-Ge.form c.in-Ge.is low (count-is c.args.candidate.now.count fits))

pub returns-clause-shows : goal.returns-clause-shows
returns-clause-shows c = λ rest counts start path names h o k s.
    let fits : c.args.candidate.now.count < 2 ^ 64 = first_of (omega arith, search rules) in
    let z = c.args.bounded.now.column in
    let low : is_low z c.in-Ge.form ≡ true = sym c.is_low.ensures ∙ c.if-not-is_low.false in
    let within : c.args.used < length c.args.raised.now = one-low z c.in-Ge.form c.args.used (length c.args.raised.now) low (rw c.in-Ge.is at c.requires.raised) in
    let less = raised-here z c.in-Ge.form c.args.candidate.now.count (to_z w128 c.args.candidate.now.count) rest counts c.args.raised.now c.args.used _ names path low (count-is c.args.candidate.now.count fits) within refl (rw c.in-Ge.is at k.0) in
    c.in_ok-show_uppers.ensures.shows start path names h o (record { less = less; whole = rw c.in-Ge.is at k.1; all = k.2 }) s
