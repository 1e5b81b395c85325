-- What a `DivMod` step's tests say of its numbers.
use Rattle.std.proofs.Common.{◌≡◌, ℕ, ℤ, pos, ◌*ℤ◌, ◌≤ℤ◌, int_le, nat_le, length, true, arith}
use Rattle.std.proofs.lemmas.Int.{ints}
use Rattle.ac_base.proofs.Floor.{positive_is}
use Rattle.ac_base.proofs.Products.{mul-le-mul_ℤ}
use Rattle.ac_forms.specs.Affine.{Affine}
use Rattle.ac_forms.specs.Fits.{Fits, fits}
use Rattle.ac_forms.proofs.Twins.{fits-is}
use Rattle.ac_base.proofs.Truths.{and-true, le-true}
use Rattle.ac_cert.specs.Rules.{div_mod_stands}

pub product_positive : (g n : ℤ) → pos 1 ≤ℤ g → pos 1 ≤ℤ n → pos 1 ≤ℤ (g *ℤ n)
product_positive g n a b =
    let k = positive_is g a in
    let m = mul-le-mul_ℤ k.0 (pos 1) n b in
    rw k.2 (omega (arith, ints, m, k.1))

pub product_fits : (columns : ℕ) (g n m : ℤ) (f : Affine) → div_mod_stands columns g n m f ≡ true → (pos 1 ≤ℤ g) × (pos 1 ≤ℤ (g *ℤ n)) × Fits (g *ℤ n)
unfolding div_mod_stands
product_fits columns g n m f e =
    let a = and-true (int_le (pos 1) g) _ e in
    let b = and-true (int_le (pos 1) n) _ a.1 in
    let c = and-true (nat_le (length f.coefs) columns) _ b.1 in
    let d = and-true (fits (g *ℤ n)) _ c.1 in
    let x = le-true (pos 1) g a.0 in
    let y = le-true (pos 1) n b.0 in
    (x, product_positive g n x y, (fits-is (g *ℤ n)).0 d.0)

pub ruleset stands_steps = (product_positive, product_fits)
