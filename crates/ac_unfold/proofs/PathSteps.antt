-- What the loops over paths and plans keep.
use Rattle.std.proofs.Common.{◌≡◌, ℕ, ◌+◌, List, [], ◌∷◌, ◌++◌, length, suc, arith, sym, ap, ◌∙◌}
use Rattle.std.specs.List.{AllByRecursion}
use Rattle.ac_widen.specs.declared.derivation.Entry.{Entry}
use Rattle.ac_claims.specs.declared.types.ClaimTree.{ClaimTree}
use Rattle.ac_unfold.specs.UnfoldPaths.{reason_at, AreFrom, IsPath, ArePlansOf}

one_more : (n : ℕ) (es : List Entry) (e : Entry) → AreFrom n es → e.reason ≡ reason_at (n + length es) → AreFrom n (es ++ e ∷ [])
one_more n [] e h is = let z : n + 0 ≡ n = omega arith in (is ∙ ap reason_at z, tt)
one_more n (x ∷ es) e h is = let z : n + suc (length es) ≡ n + 1 + length es = omega arith in (h.0, one_more (n + 1) es e h.1 (is ∙ ap reason_at z))

pub path_more : (es : List Entry) (e : Entry) → IsPath es → e.reason ≡ reason_at (length es) → IsPath (es ++ e ∷ [])
path_more es e h is = let z : 0 + length es ≡ length es = omega arith in one_more 0 es e h (is ∙ ap reason_at (sym z))

pub paths_more : (ps : List (List Entry)) (p : List Entry) → AllByRecursion IsPath ps → IsPath p → AllByRecursion IsPath (ps ++ p ∷ [])
paths_more [] p h k = (k, tt)
paths_more (q ∷ ps) p h k = (h.0, paths_more ps p h.1 k)

pub plans_more : (number : ℕ) (ts : List ClaimTree) (t : ClaimTree) → ArePlansOf number ts → t.claim ≡ number → ArePlansOf number (ts ++ t ∷ [])
plans_more number [] t h k = (k, tt)
plans_more number (x ∷ ts) t h k = (h.0, plans_more number ts t h.1 k)

pub ruleset path_steps = (path_more, paths_more, plans_more)
