-- Combinations of two forms.
use Rattle.std.specs.Prelude.{ℤ, Option, Some, None, cond}
use Rattle.ac_forms.specs.Affine.{Affine, combined}
use Rattle.ac_forms.specs.RangeTests.{can_combine}

-- k times a form plus l times another, where the numbers stay in `i128`
unfoldable pub combination : ℤ → Affine → ℤ → Affine → Option Affine
combination k f l g = cond (can_combine k f l g) (Some (combined k f l g)) None
