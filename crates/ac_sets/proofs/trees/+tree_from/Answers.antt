use Rattle.std.proofs.Common.{◌-◌, length, take, drop, rules, subst}
use Rattle.ac_forms.specs.Rows.{AreRowsOver}
use Rattle.ac_sets.specs.SetDifferences.{NegationsFit}
use Rattle.ac_sets.proofs.Branches.{front-row, over-wider, div-made}
use Rattle.ac_sets.proofs.trees.+tree_from.Goals as goal

pub tree_from-requires-in-Div : goal.tree_from-requires-in-Div
tree_from-requires-in-Div t c =
    let rows = c.args.rows.now in
    let rest = take (length rows - 1) (drop 1 rows) in
    let whole = front-row rows c.row-item.result c.in-len1-up.len_at_least c.row-item.is in
    let over = subst (AreRowsOver c.args.columns) whole c.requires.over in
    let fits = subst NegationsFit whole c.requires.fits in
    (search rules, (over-wider c.args.columns c.in_ok-wider-in-Div.wider rest c.in_ok-wider-in-Div.ensures over.1, fits.1))

pub returns-in_ok-onward-in-Div : goal.returns-in_ok-onward-in-Div
returns-in_ok-onward-in-Div t c =
    let rows = c.args.rows.now in
    let rest = take (length rows - 1) (drop 1 rows) in
    let whole = front-row rows c.row-item.result c.in-len1-up.len_at_least c.row-item.is in
    div-made c.divisibility_tree.result rows rest c.row-item.result c.in-Div.modulus c.in-Div.form c.args.columns c.in_ok-wider-in-Div.wider c.args.count c.in_ok-sum-in-Div.field-0 c.args.piece c.in_ok-sum-in-Div-2.field-0 c.in_ok-onward-in-Div.onward
    whole c.in-Div.is c.in_ok-wider-in-Div.ensures c.in_ok-sum-in-Div.ensures c.in_ok-sum-in-Div-2.ensures c.requires.fits c.in_ok-onward-in-Div.ensures.1 c.divisibility_tree.ensures
