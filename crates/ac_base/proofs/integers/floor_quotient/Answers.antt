use Rattle.std.proofs.Common.{rules, FitsSigned}
use Rattle.std.specs.Int.{w128}
use Rattle.ac_base.proofs.Bits.{again_128}
use Rattle.ac_base.proofs.Floor.{floor_low, floor_high}
use Rattle.ac_base.proofs.integers.floor_quotient.Goals as goal

pub returns-clause-low : goal.returns-clause-low
returns-clause-low c = let f : FitsSigned w128 c.div_euclid.result = search rules in rw (again_128 c.div_euclid.result f, c.div_euclid.ensures, again_128 _ c.ranges.number, again_128 _ c.ranges.divisor) (floor_low c.args.number c.args.divisor c.requires)

pub returns-clause-high : goal.returns-clause-high
returns-clause-high c = let f : FitsSigned w128 c.div_euclid.result = search rules in rw (again_128 c.div_euclid.result f, c.div_euclid.ensures, again_128 _ c.ranges.number, again_128 _ c.ranges.divisor) (floor_high c.args.number c.args.divisor c.requires)
