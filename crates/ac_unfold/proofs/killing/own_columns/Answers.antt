use Rattle.std.proofs.Common.{◌≡◌, true, false, sym, ap, ◌∙◌}
use Rattle.std.specs.Prelude.{is_some}
use Rattle.ac_unfold.proofs.killing.own_columns.Goals as goal

pub unreachable-requires : goal.unreachable-requires
unreachable-requires c = let z : false ≡ true = sym (ap is_some c.in-None.is) ∙ c.requires in absurd cc
