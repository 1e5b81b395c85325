use Rattle.std.proofs.Common.{Some, if◌then◌else◌, ap, ◌∙◌, map}
use Rattle.ac_syntax.specs.Algebra.{same_cell}
use Rattle.ac_instance.specs.KeptIds.{cell_of, id_at}
use Rattle.ac_instance.proofs.Ids.{id_at-inserted, seen}
use Rattle.ac_instance.proofs.cells.Cells.set.Goals as goal

pub returns : goal.returns
returns c p =
    ap (λ es. id_at (map seen es) p) c.in_ok-insert.ensures.entries ∙ id_at-inserted c.self.inside.ids.entries c.args.target c.args.id p
    ∙ ap (λ l. if same_cell (cell_of c.args.target) p then Some c.args.id else id_at l p) c.self.view_is
