use Rattle.std.proofs.Common.{◌≡◌, List, [], ◌∷◌, ◌++◌, length, ◌∙◌, ap, subst, arith, length-append}
use Rattle.ac_forms.specs.declared.row.Row.{Row}
use Rattle.ac_omega_certify.specs.Residues.{less_times, LeadsAll}
use Rattle.ac_omega_certify.proofs.SpreadRows.{small-at, map-whole, more-led}
use Rattle.ac_omega_certify.proofs.path.TreePath.take_each.Goals as goal

pub take_times-requires : goal.take_times-requires
take_times-requires c = small-at c.args.z c.args.rows.now c.loop-i.i c.index-rows-i.result c.requires.small c.loop-i-test.true c.index-rows-i.is

pub loop-i-preserved : goal.loop-i-preserved
loop-i-preserved c =
    let inv = c.loop-i.invariant in
    let items : c.push.new.self.items ≡ c.loop-i.made.items ++ c.in_ok-place.place ∷ [] = c.in_ok-push.ensures.items in
    record {
      base = record { columns = c.in_ok-place.ensures.base.columns ∙ inv.base.columns; one = c.in_ok-place.ensures.base.one ∙ inv.base.one };
      long = omega (arith, ap length items, length-append c.loop-i.made.items (c.in_ok-place.place ∷ []), inv.long);
      leads = λ start path names e h s q can.
          rw items (more-led c.loop-i.self c.take_times.new.self start path names c.args.z c.args.equality c.in_ok-place.place c.loop-i.i e c.args.rows.now c.args.places.now c.loop-i.made.items c.index-rows-i.result c.loop-i-test.true c.index-rows-i.is
          c.in_ok-place.ensures.leads s q can (inv.leads start path names e h s q can));
    }

pub returns-clause-leads : goal.returns-clause-leads
returns-clause-leads c = λ start path names e h s q can.
    subst (λ (rs : List Row). LeadsAll c.loop-i.self start path names rs c.loop-i.made.items) (map-whole (less_times c.args.z e) c.args.rows.now c.loop-i.i (omega arith) (omega arith)) (c.loop-i.invariant.leads start path names e h s q can)
