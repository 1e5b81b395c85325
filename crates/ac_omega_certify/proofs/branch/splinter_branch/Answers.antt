use Rattle.std.proofs.Common.{◌≡◌, ℕ, ◌+◌, Some, length, take, subst, sym, ap, ◌∙◌, arith}
use Rattle.ac_base.proofs.Bits.{again_128}
use Rattle.ac_forms.specs.Affine.{Affine}
use Rattle.ac_forms.specs.declared.row.Row.TheVariants.{Eq, Ge}
use Rattle.ac_forms.proofs.Passes.{moduli_of}
use Rattle.ac_omega_certify.specs.ChoiceBranches.{Stage, seen, lift_count, worth}
use Rattle.ac_omega_certify.specs.TreePathRows.{StandsAt}
use Rattle.ac_omega_certify.proofs.Branching.{carries-behind, OnSplinter, stand-splinter}
use Rattle.ac_omega_certify.proofs.RaisedPlaces.{at-within}
use Rattle.ac_omega_certify.proofs.ShownFor.{stand-same}
use Rattle.ac_omega_certify.proofs.branch.splinter_branch.Goals as goal

pub splinter_rows-requires-clause-moduli : goal.splinter_rows-requires-clause-moduli
splinter_rows-requires-clause-moduli c = moduli_of _ c.args.stage.now.rows.now c.requires.made

pub splinter_rows-requires-clause-lower : goal.splinter_rows-requires-clause-lower
splinter_rows-requires-clause-lower c = at-within c.args.stage.now.rows.now c.args.i _ c.requires.lower.at

same-row : (g f : Affine) → Some (Ge g) ≡ Some (Ge f) → f ≡ g
same-row g f e = cc

pub returns : goal.returns
returns c = record {
  names = ap length c.in_ok-names.ensures.items;
  long = c.in_ok-standing.ensures.long;
  rows = stand-same (length c.args.stage.now.names.now) _ _ (rw (again_128 c.args.k c.ranges.k) at c.in_ok-standing.ensures.rows);
  up_to_2_to_122 = c.in_ok-standing.ensures.up_to_2_to_122;
  carries = λ p d on is.
      let s : Stage = seen c.args.stage.now in
      let f = c.requires.lower.form in
      let place : c.in-Some.place ≡ c.args.stage.now.base.rows + lift_count (take c.args.i c.args.stage.now.counts.now) + c.args.stage.now.depth + 1 = c.in-Some.ensures ∙ ap (λ (n : ℕ). c.args.stage.now.base.rows + n + c.args.stage.now.depth + 1) (c.lift_count.ensures ∙ ap lift_count c.split_at.ensures.front) in
      let end : c.in-Some-checked_add.end ≡ c.in-Some.place + 1 = first_of (omega arith, omega (arith, c.in-Some-checked_add.ensures)) in
      let at : OnSplinter s c.args.i c.args.k c.in-Some.place c.in-Some-checked_add.end f d = stand-splinter s c.args.i c.args.k c.in-Some.place c.in-Some-checked_add.end f p d c.requires.counts place end c.requires.lower.at on is in
      let go = rw (again_128 c.args.k c.ranges.k) at c.in_ok-standing.ensures.stand in
      rw c.in_ok-names.ensures.items (carries-behind c.behind-tree_path.result _ d c.args.stage.now.names.now _ _ c.behind-tree_path.ensures.steps c.behind-tree_path.ensures.base (go _ d c.args.stage.now.names.now at.stand (λ g e. subst (λ (h : Affine). StandsAt c.args.stage.now.names.now d c.in-Some.place (Eq (worth c.args.k h))) (same-row g f (sym e ∙ c.requires.lower.at)) at.worth-row)));
}
