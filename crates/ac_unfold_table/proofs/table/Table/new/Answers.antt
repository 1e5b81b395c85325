use Rattle.ac_unfold_table.proofs.Growing.{nothing_tabled}
use Rattle.ac_unfold_table.proofs.table.Table.new.Goals as goal

pub returns-clause-valid : goal.returns-clause-valid
returns-clause-valid c = λ program_flows. nothing_tabled program_flows c.args.base c.from.result c.from-2.result c.new.result c.new-2.result c.new.ensures c.new-2.ensures
