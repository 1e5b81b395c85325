use Rattle.std.proofs.Common.{rules}
use Rattle.ac_forms.proofs.Sorting.{sort_is}
use Rattle.ac_forms.proofs.join.sort.Goals as goal

pub returns : goal.returns
returns c = sort_is c.args.rows.items c.sort.new.self.items c.sort.ensures.permutation c.in_ok-sort.ensures.sorted
