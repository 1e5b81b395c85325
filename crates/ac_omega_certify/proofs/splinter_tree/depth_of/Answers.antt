use Rattle.std.proofs.Common.{◌≡◌, ℕ, suc, ◌-◌, ◌*◌, ◌<◌, ◌≤◌, ◌^◌, arith}
use Rattle.std.proofs.lemmas.Nat.{leading_length}
use Rattle.std.proofs.Math.Nat.{pow-succ', pow-le-pow_right}
use Rattle.std.specs.Int.Count.{count_leading_zeros}
use Rattle.ac_omega_certify.proofs.splinter_tree.depth_of.Goals as goal

length-deep : (width count last : ℕ) → last ≡ count - 1 → last < 2 ^ width → count ≤ 2 ^ (width - count_leading_zeros width last)
length-deep width count last e l =
    let h = leading_length width last l in
    let is : width - count_leading_zeros width last ≡ h.0 = omega (arith, h.1) in
    rw is (omega (arith, h.2))

not-above : (k m : ℕ) → (suc k ≤ m → ⊥) → m ≤ k
not-above k m h = grind arith

length-least : (width count last : ℕ) → last ≡ count - 1 → last < 2 ^ width → (k : ℕ) → count ≤ 2 ^ k → width - count_leading_zeros width last ≤ k
length-least width count last e l k small =
    let h = leading_length width last l in
    let twice : 2 ^ suc k ≡ 2 * 2 ^ k = pow-succ' 2 k in
    let one : 2 ^ 0 ≤ 2 ^ k = pow-le-pow_right {n = 2} (omega arith) {i = 0} {j = k} (omega arith) in
    let at : h.0 ≤ k = not-above k h.0 (λ more. absurd (omega (arith, h.3, twice, one, pow-le-pow_right {n = 2} (omega arith) more))) in
    omega (arith, h.1, at)

pub returns-clause-deep : goal.returns-clause-deep
returns-clause-deep c = length-deep 64 c.args.count c.saturating_sub-last.result c.saturating_sub-last.ensures c.saturating_sub-last.type_inv

pub returns-clause-least : goal.returns-clause-least
returns-clause-least c = length-least 64 c.args.count c.saturating_sub-last.result c.saturating_sub-last.ensures c.saturating_sub-last.type_inv
