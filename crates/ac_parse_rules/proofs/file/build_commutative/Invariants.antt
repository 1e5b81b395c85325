use Rattle.std.proofs.Common.{◌≡◌, ◌++◌, drop, map}
use Rattle.ac_parse_rules.specs.Files.{commutative_words}
use Rattle.ac_parse_rules.proofs.file.build_commutative.Given as goal

abbrev pub invariant-loop-pragma : goal.invariant-loop-pragma
invariant-loop-pragma l = l.all ++ map (λ word. word.name) (commutative_words (drop l.pragma-index l.pragmas)) ≡ map (λ word. word.name) (commutative_words l.pragmas)
