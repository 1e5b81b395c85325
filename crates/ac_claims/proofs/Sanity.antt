-- Not vacuous: the machine accepts a small proof, and refuses it where it is wrong.
use Rattle.std.proofs.Common.{◌≡◌, ℤ, pos, negsuc, List, [], ◌∷◌, false, Some, None, refl}
use Rattle.ac_base.specs.Gcd as gcds
use Rattle.ac_forms.specs.declared.row.Row.TheVariants.{Eq}
use Rattle.ac_syntax.specs.declared.tree.Kind.TheVariants.{Input}
use Rattle.ac_syntax.specs.declared.tree.Order.TheVariants.{Keep}
use Rattle.ac_syntax.specs.declared.tree.Position.TheVariants.{Output}
use Rattle.ac_poly.specs.declared.types.Model.{Model}
use Rattle.ac_omega_steps.specs.Combination.{combination}
use Rattle.ac_cert.specs.declared.types.Rule.TheVariants as rule
use Rattle.ac_claims_paths.specs.PathSteps.{Pairing}
use Rattle.ac_claims.specs.ProofMachine.{unknown}
use Rattle.ac_claims.proofs.ProofFolding.{judged}
use Rattle.ac_claims.specs.declared.item.Item.{Item}
use Rattle.ac_claims.specs.declared.item.Item.TheVariants as item

-- `void f(int N, int C[N]) { }`
abbrev empty_body : Model
empty_body = record { params = 1; context = []; stmts = []; extents = (record { konst = pos 0; coefs = pos 1 ∷ [] } ∷ []) ∷ []; kinds = Input ∷ [] }

abbrev against_itself : Pairing
against_itself = record { params = 1; left = empty_body; right = empty_body; swaps = λ s. false }

-- the lines with a constant in the claim's row, and with what stands in the tree
abbrev lines : ℤ → List Item → List Item
lines k tree =
    item.Point (pos 0 ∷ []) ∷ item.Claims 1 ∷ item.Claim (Output 0) (Output 0) 1 ∷ item.Row (Eq (record { konst = k; coefs = pos 0 ∷ pos 1 ∷ negsuc 0 ∷ [] })) ∷ item.Output 0 0 ∷ item.Tree 0 0 0 ∷ tree

accepted : judged against_itself (0 ∷ []) (lines (pos 0) (item.Go Keep 1 ∷ item.Go Keep 1 ∷ item.Initial ∷ item.End ∷ [])) 2 unknown ≡ None
unfolding combination gcds.gcd gcds.gcd_within
accepted = refl

-- a claim that asks for more than equal elements
other_output : judged against_itself (0 ∷ []) (lines (pos 1) (item.Go Keep 1 ∷ item.Go Keep 1 ∷ item.Initial ∷ item.End ∷ [])) 2 unknown ≡ Some (6, rule.Output)
unfolding combination gcds.gcd gcds.gcd_within
other_output = refl

-- a claim that hits itself before any step
hit_at_once : judged against_itself (0 ∷ []) (lines (pos 0) (item.Hit 0 ∷ item.End ∷ [])) 2 unknown ≡ Some (8, rule.Hit)
unfolding combination gcds.gcd gcds.gcd_within
hit_at_once = refl

-- a tree is missing
no_tree : judged against_itself (0 ∷ []) (item.Point (pos 0 ∷ []) ∷ item.Claims 1 ∷ item.Claim (Output 0) (Output 0) 1 ∷ item.Row (Eq (record { konst = pos 0; coefs = pos 0 ∷ pos 1 ∷ negsuc 0 ∷ [] })) ∷ item.Output 0 0 ∷ item.End ∷ []) 2 unknown ≡ Some (7, rule.End)
unfolding combination gcds.gcd gcds.gcd_within
no_tree = refl

-- shapes of programs that have assignments
other_heads : judged against_itself (0 ∷ []) (item.Point (pos 0 ∷ []) ∷ item.Left [] ∷ item.Right ((1, 0) ∷ []) ∷ []) 2 unknown ≡ Some (4, rule.Coords)
other_heads = refl
