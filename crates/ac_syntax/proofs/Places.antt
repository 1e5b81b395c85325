-- Each entry of a list has a place there.
use Rattle.std.proofs.Common.{◌≡◌, zero, suc, List, [], ◌∷◌, refl, ap, arith}
use Rattle.std.specs.List.{Contains}
use Rattle.ac_syntax.specs.Trace.{Entry}
use Rattle.ac_syntax.specs.Source.{Writer, Stands}

pub contains_stands : (es : List Entry) (e : Entry) → Contains es e → (w : Writer) × Stands es w × (w.entry ≡ e)
contains_stands [] e (k, lt, eq) = absurd (omega arith)
contains_stands (f ∷ es) e (zero, lt, eq) = (record { earlier = []; entry = f }, record { later = es; splits = refl }, eq)
contains_stands (f ∷ es) e (suc k, lt, eq) =
    let r = contains_stands es e (k, omega arith, eq) in
    (record { earlier = f ∷ r.0.earlier; entry = r.0.entry }, record { later = r.1.later; splits = ap (λ (xs : List Entry). f ∷ xs) r.1.splits }, r.2)
