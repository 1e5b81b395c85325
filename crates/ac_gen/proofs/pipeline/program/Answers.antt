use Rattle.std.proofs.Common.{◌≡◌, ◌-◌, [], ◌∷◌, length, codes, None, ap, sym, ◌∙◌}
use Rattle.ac_gen.specs.Pipelines as spec
use Rattle.ac_gen.proofs.Listed.{length_shifted}
use Rattle.ac_gen.proofs.pipeline.program.Goals as goal

pub returns : goal.returns
returns c =
    let ts = c.args.stages.now in
    let ls = spec.shifted_each ts (spec.pipeline ts) in
    let view : c.arrays-2.inside.held.items ≡ c.in_ok-arrays.arrays = c.arrays-2.view_is in
    let arrays : c.in_ok-arrays.arrays ≡ spec.input (codes "B") ∷ spec.input (codes "C") ∷ spec.locals 0 (length ts - 1) = c.in_ok-arrays.ensures in
    let arrays_are = view ∙ arrays ∙ ap (λ n. spec.input (codes "B") ∷ spec.input (codes "C") ∷ spec.locals 0 (n - 1)) (sym (length_shifted ts)) in
    let params : c.in_ok-only.field-0 ≡ codes "N" ∷ [] = c.in_ok-only.ensures ∙ ap (λ n. n ∷ []) c.in_ok-parameter.ensures in
    λ i. record {
      name = c.in_ok-name.ensures i;
      params = params i;
      arrays = arrays_are i;
      slots = c.in_ok-slots.ensures i;
      body = c.in_ok-body.ensures i;
      context = record { parts = c.new.ensures i };
      commutative = c.new-2.ensures i;
      outputs = None;
    }
