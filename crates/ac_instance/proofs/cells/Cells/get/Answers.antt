use Rattle.std.proofs.Common.{ap, ◌∙◌}
use Rattle.ac_instance.specs.KeptIds.{cell_of, id_at}
use Rattle.ac_instance.proofs.Ids.{lookup_seen}
use Rattle.ac_instance.proofs.cells.Cells.get.Goals as goal

pub returns : goal.returns
returns c =
    c.copied.ensures ∙ c.get.ensures.value ∙ lookup_seen c.self.inside.ids.entries c.args.target.now ∙ ap (λ l. id_at l (cell_of c.args.target.now)) c.self.view_is
