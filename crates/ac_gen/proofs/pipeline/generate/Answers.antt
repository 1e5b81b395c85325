use Rattle.std.proofs.Common.{◌≡◌, ◌≤◌, ℕ, List, length, map, ap, sym, subst, ◌∙◌, arith}
use Rattle.std.proofs.lemmas.List.{length-map}
use Rattle.ac_gen.specs.Draws.{stages}
use Rattle.ac_gen.specs.Plain.{unshifted}
use Rattle.ac_gen.specs.Pipelines as spec
use Rattle.ac_gen.specs.declared.draws.Stage.{Stage}
use Rattle.ac_syntax.specs.declared.tree.Program.{Program}
use Rattle.ac_gen.specs.WellMade.{IsWellMade}
use Rattle.ac_gen.proofs.Making.{made}
use Rattle.ac_gen.proofs.Random.{length_stages}
use Rattle.ac_gen.proofs.Shifts.{unshifted_is}
use Rattle.ac_gen.proofs.pipeline.generate.Goals as goal

few_drawn : (x n : ℕ) (ts : List Stage) → ts ≡ stages x n → n ≤ 12 → length ts ≤ 12
few_drawn x n ts e h = let k = ap length e ∙ length_stages x n in omega (arith, k, h)

few_plain : (x n : ℕ) (ts : List Stage) → ts ≡ map unshifted (stages x n) → n ≤ 12 → length ts ≤ 12
few_plain x n ts e h = let k = ap length e ∙ length-map (stages x n) unshifted ∙ length_stages x n in omega (arith, k, h)

pub program-requires : goal.program-requires
program-requires c =
    let drawn : c.deref.result.now ≡ stages c.args.seed c.args.count = c.deref.ensures.value ∙ c.in_ok-stages.ensures in
    few_plain c.args.seed c.args.count c.deref-2.result.now (c.deref-2.ensures.value ∙ c.in_ok-plain.ensures ∙ ap (map unshifted) drawn) c.requires.few

pub program-requires-2 : goal.program-requires-2
program-requires-2 c = few_drawn c.args.seed c.args.count c.deref-3.result.now (c.deref-3.ensures.value ∙ c.in_ok-stages.ensures) c.requires.few

drawn_are : (x n : ℕ) (first second : List Stage) → first ≡ map unshifted (stages x n) → second ≡ stages x n → (pair : Program × Program)
    → pair.0 ≡ spec.program (spec.shifted_each first (spec.pipeline first)) → pair.1 ≡ spec.program (spec.shifted_each second (spec.pipeline second)) → spec.IsGenerated x n pair
drawn_are x n first second plain again pair original transformed = record {
  original = original ∙ ap (λ us. spec.program (spec.shifted_each us (spec.pipeline us))) plain ∙ ap spec.program (unshifted_is (stages x n));
  transformed = transformed ∙ ap (λ us. spec.program (spec.shifted_each us (spec.pipeline us))) again;
}

made_by : (x n : ℕ) → 1 ≤ n → n ≤ 12 → (pair : Program × Program) → spec.IsGenerated x n pair → IsWellMade pair.0 × IsWellMade pair.1
made_by x n some few pair h = let both = made x n some few in (subst IsWellMade (sym h.original) both.0, subst IsWellMade (sym h.transformed) both.1)

pub returns : goal.returns
returns c =
    let x = c.args.seed in
    let n = c.args.count in
    let drawn : c.deref.result.now ≡ stages x n = c.deref.ensures.value ∙ c.in_ok-stages.ensures in
    let pair : Program × Program = (c.in_ok-original.original, c.in_ok-transformed.transformed) in
    let are = drawn_are x n c.deref-2.result.now c.deref-3.result.now (c.deref-2.ensures.value ∙ c.in_ok-plain.ensures ∙ ap (map unshifted) drawn) (c.deref-3.ensures.value ∙ c.in_ok-stages.ensures)
    pair c.in_ok-original.ensures c.in_ok-transformed.ensures in
    record { pair = are; made = made_by x n c.requires.some c.requires.few pair are }
