-- Conditions without quotients are steady.
use Rattle.std.proofs.Common.{◌≡◌, ℕ, ℤ, pos, List, [], ◌∷◌, sym, subst}
use Rattle.std.specs.List.{AllByRecursion}
use Rattle.ac_syntax.specs.Turns.{IsSteady, IsSteadyRel, own}
use Rattle.ac_syntax.specs.ReadyPrograms.{FitsPart, FitParts, IsPlain}
use Rattle.ac_syntax.specs.declared.tree.Rel.{Rel}
use Rattle.ac_syntax.specs.declared.tree.Rel.TheVariants.{NonNegative, Zero, Divides}
use Rattle.ac_syntax.specs.declared.tree.Comparison.{Comparison}

steady_rel : (n : ℕ) (r : Rel) (cs : List ℤ) → IsPlain r → IsSteadyRel n r cs
steady_rel n NonNegative cs h = tt
steady_rel n Zero cs h = tt
steady_rel n (Divides m) cs h = absurd h

pub part_steady : (ps xs n : ℕ) (c : Comparison) → FitsPart ps xs c → IsSteady n c
part_steady ps xs n c h = record {
  quots = subst (AllByRecursion (λ q. own n q.iters ≡ pos 0)) (sym h.form.plain) tt;
  rel = steady_rel n c.rel c.form.iters h.rel;
}

pub parts_steady : (ps xs n : ℕ) (cs : List Comparison) → FitParts ps xs cs → AllByRecursion (IsSteady n) cs
parts_steady ps xs n [] h = tt
parts_steady ps xs n (c ∷ cs) h = (part_steady ps xs n c h.0, parts_steady ps xs n cs h.1)
