-- How verdicts and their proof are gathered, output by output.
use Rattle.std.specs.Prelude.{◌≡◌, ℕ, List, ◌++◌}
use Rattle.ac_syntax.specs.declared.tree.Pair.{Pair}
use Rattle.ac_syntax.specs.ExecutedCalls.{HaveArities}
use Rattle.ac_claims.specs.ProofMachine.{AreSpelledTrees}
use Rattle.ac_claims.specs.Soundness.{ClaimsHaveModuli}
use Rattle.ac_claims.specs.declared.types.Proof.{Proof}
use Rattle.ac_unfold_plans.specs.PlanStops.{programs_of}
use Rattle.ac_graph.specs.GraphMeaning.{HaveFlows}
use Rattle.ac_walk_state.specs.RecurrencePairInvariant.{HasModuli}
use Rattle.ac_walk_state.specs.Elements.{AreProgramsOf}
use Rattle.ac_walk_state.specs.ProofParts as parts
use Rattle.ac_report.specs.declared.types.Verdict.{Verdict}
use Rattle.ac_walk_state.specs.GraphWidenings.{AreNumbersOf, IsGraphOf}
use Rattle.ac_walk.specs.TriedValuations.{AreSamples, AreTried, IsTriedIf}
use Rattle.ac_walk.specs.UnknownCauses.{AreSearched, IsSearched}
use Rattle.ac_walk.specs.Verdicts.{IsVerdict, AreVerdicts, IsMatchedIf, AreMatched, if_equal, equal_outputs, named}
use Rattle.ac_walk.specs.declared.outputs.Basis.{Basis}
use Rattle.ac_walk.specs.declared.verdict_types.Proved.{Proved}

-- what is known of a pair: its programs under its context with their flows, the graph of their moves, the numbers of the template
-- rows, and the samples; its calls have as many arguments as their symbols say
pub record IsBasis (b : Basis) : Type 0 where
  pub programs : AreProgramsOf b.pair.now b.program_flows.now.programs
  pub commutative : b.program_flows.now.programs.commutative.now ≡ b.pair.now.commutative
  pub flows : HaveFlows b.pair.now b.program_flows.now.left_flow.now b.program_flows.now.right_flow.now
  pub arities : HaveArities b.pair.now.left.body × HaveArities b.pair.now.right.body
  pub graph : IsGraphOf b.pair.now b.program_flows.now.left_flow.now b.program_flows.now.right_flow.now b.graph.now
  pub numbers : AreNumbersOf b.pair.now b.template.now.thresholds b.template.now.moduli
  pub moduli : HasModuli b.template.now
  pub samples : AreSamples b.program_flows.now.budget b.pair.now b.samples.now

-- a judge of proofs accepts it
abbrev pub IsValid : Pair → Proof → Type 0
IsValid pair proof = parts.IsAccepted (programs_of pair) pair.outputs proof

-- a proof that is spelled
pub record IsHeld (proof : Proof) : Type 0 where
  pub spelled : AreSpelledTrees proof.trees.items
  pub claims : ClaimsHaveModuli proof

-- the verdict on an output, with which the search at a budget may end, and the proof behind it
pub record IsSaidOf (budget : ℕ) (pair : Pair) (output : ℕ) (proof : Proof) (said : Verdict × Proof) : Type 0 where
  pub verdict : IsVerdict pair output said.0
  pub matched : IsMatchedIf pair output said.0
  pub searched : IsSearched budget pair output said.0
  pub tried : IsTriedIf budget pair output said.0
  pub named_then : named said.1 ≡ named proof ++ if_equal output said.0
  pub valid : IsValid pair said.1

-- the verdicts on outputs, and a proof that names those that are equal
pub record IsProvedOf (pair : Pair) (outputs : List ℕ) (proved : Proved) : Type 0 where
  pub verdicts : AreVerdicts pair outputs proved.verdicts
  pub matched : AreMatched pair outputs proved.verdicts
  pub equal : named proved.proof ≡ equal_outputs outputs proved.verdicts
  pub held : IsHeld proved.proof

-- the same of outputs that are searched on, at a budget; a judge accepts the proof
pub record IsSearchedOf (budget : ℕ) (pair : Pair) (outputs : List ℕ) (proved : Proved) : Type 0 where
  pub verdicts : AreVerdicts pair outputs proved.verdicts
  pub matched : AreMatched pair outputs proved.verdicts
  pub searched : AreSearched budget pair outputs proved.verdicts
  pub tried : AreTried budget pair outputs proved.verdicts
  pub equal : named proved.proof ≡ equal_outputs outputs proved.verdicts
  pub valid : IsValid pair proved.proof
