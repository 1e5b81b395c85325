use Rattle.std.proofs.Common.{◌≡◌, true, false, refl, sym, rules, ◌∙◌}
use Rattle.ac_unfold.proofs.tasks.with_step.Goals as goal

pub returns-then-not-search : goal.returns-then-not-search
returns-then-not-search c = record { making = λ on. let z : true ≡ false = sym on ∙ c.if-not-search.true in absurd cc; finding = λ off. refl }

pub returns : goal.returns
returns c = record {
  making = λ on. record { around = c.replace-around.result; around_is = search rules; made_is = search rules; none = search rules };
  finding = λ off. let z : true ≡ false = sym c.if-not-search.false ∙ off in absurd cc;
}
