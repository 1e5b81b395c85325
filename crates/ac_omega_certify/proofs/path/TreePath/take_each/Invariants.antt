use Rattle.std.proofs.Common.{◌≡◌, ℕ, List, length, map, take}
use Rattle.ac_forms.specs.Affine.{Affine}
use Rattle.ac_forms.specs.declared.conj.Conj.{Conj}
use Rattle.ac_forms.specs.declared.row.Row.TheVariants.{Eq}
use Rattle.ac_omega_certify.specs.Residues.{less_times, AllCanTake, LeadsAll}
use Rattle.ac_omega_certify.specs.TreePathRows.{IsSameBase, Reaches, Stand, StandsAt}
use Rattle.ac_omega_certify.proofs.path.TreePath.take_each.Given as goal

abbrev pub invariant-loop-i : goal.invariant-loop-i
invariant-loop-i l = record {
  base : IsSameBase l.fn.self l.self;
  long : length l.made.items ≡ l.i;
  leads : (start path : Conj) (names : List ℕ) (e : Affine) → Reaches l.fn.self start path → Stand names path l.rows l.places → StandsAt names path l.equality (Eq e) → AllCanTake l.z e l.rows → LeadsAll l.self start path names (map (less_times l.z e) (take l.i l.rows)) l.made.items;
}
