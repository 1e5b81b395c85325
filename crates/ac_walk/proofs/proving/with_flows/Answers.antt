use Rattle.std.proofs.Common.{sym, ap, subst, ◌∙◌}
use Rattle.ac_walk.specs.TriedValuations.{AreSamples, samples_of}
use Rattle.ac_walk.proofs.Flowing.{is_graph}
use Rattle.ac_walk.proofs.proving.with_flows.Goals as goal

pub verdicts-requires-clause-basis : goal.verdicts-requires-clause-basis
verdicts-requires-clause-basis c = record {
  programs = c.requires.programs;
  commutative = c.requires.commutative;
  flows = c.requires.flows;
  arities = c.requires.arities;
  graph = is_graph c.args.pair.now c.args.left_flow.now c.args.right_flow.now c.in_ok-graph.graph c.in_ok-graph.ensures.left c.in_ok-graph.ensures.right c.in_ok-graph.ensures.reachable c.in_ok-graph.ensures.recurrent;
  numbers = c.in_ok-template.ensures.numbers;
  moduli = c.in_ok-template.ensures.moduli;
  samples = subst (AreSamples c.args.budget c.args.pair.now) (sym (c.as_slice-2.ensures ∙ c.in_ok-samples.ensures ∙ ap (samples_of c.args.pair.now) c.as_slice.ensures.value)) c.requires.samples;
}
