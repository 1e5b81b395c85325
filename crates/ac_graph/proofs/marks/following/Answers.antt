use Rattle.std.proofs.Common.{◌∙◌, ap, sym, refl, length, Some}
use Rattle.std.proofs.lemmas.Option.{slice_get_read}
use Rattle.ac_graph.proofs.marks.following.Goals as goal

pub returns : goal.returns
returns c = slice_get_read c.args.next.now (length c.args.next.now) c.args.node c.index-next-node.result refl c.requires c.index-next-node.is ∙ ap Some (sym c.as_slice.ensures)
