-- The paths behind a step have their columns and are well made, and equalities have no modulus.
use Rattle.std.proofs.Common.{◌≡◌, ℕ, inl, inr, List, [], ◌∷◌, map, Option, Some, None, IfOk, refl, sym, subst}
use Rattle.std.specs.Prelude.{Result, Ok, Err, option_and_then, option_map}
use Rattle.std.specs.declared.alloc.AllocError.{AllocError}
use Rattle.ac_forms.specs.Affine.{Affine}
use Rattle.ac_forms.specs.declared.row.Row.{Row}
use Rattle.ac_forms.specs.declared.row.Row.TheVariants.{Eq}
use Rattle.ac_syntax.specs.declared.tree.Order.{Order}
use Rattle.ac_syntax.specs.declared.tree.Order.TheVariants.{Keep, Swap}
use Rattle.ac_claims_paths.specs.BranchPaths.{onto, all_onto}
use Rattle.ac_claims_paths.specs.PathColumns.{difference, equal_forms}
use Rattle.ac_claims_paths.specs.WellFormedPaths.{IsFormed, AllFormed, AreFormedIf, HasModuli}
use Rattle.ac_claims_paths.specs.PathSteps.{Pairing, model_of, branches_of_calls, branches_by, branches}
use Rattle.ac_claims_paths.specs.OptionalRows.{HaveIf}
use Rattle.ac_claims_paths.specs.ModelPositions.{CellForms, CallAt, cell_read, call_at}
use Rattle.ac_claims_paths.specs.declared.path.Branch.{Branch}
use Rattle.ac_claims_paths.specs.declared.path.Path.{Path}
use Rattle.ac_claims_paths.specs.declared.path.Side.{Side}
use Rattle.ac_claims_paths.specs.declared.path.Side.TheVariants.{Left, Right}
use Rattle.ac_forms.specs.ListMembers.{IsAmong}
use Rattle.ac_claims_paths.proofs.CallSteps.{calls_formed}
use Rattle.ac_claims_paths.proofs.InBranches.{in_branches}

equal_have : (ks : List ℕ) (fs : List Affine) (ls : List ℕ) (gs : List Affine) → HaveIf (equal_forms ks fs ls gs)
equal_have ks [] ls [] = tt
equal_have ks [] ls (g ∷ gs) = tt
equal_have ks (f ∷ fs) ls [] = tt
equal_have ks (f ∷ fs) ls (g ∷ gs) = by (difference ks f ls g) (equal_forms ks fs ls gs) (equal_have ks fs ls gs)
  where
    by : (o : Option Affine) (r : Option (List Row)) → HaveIf r → HaveIf (option_and_then (λ e. option_map (λ rows. Eq e ∷ rows) r) o)
    by None r h = tt
    by (Some e) None h = tt
    by (Some e) (Some rows) h = (tt, h)

pub equal_result : (ks : List ℕ) (fs : List Affine) (ls : List ℕ) (gs : List Affine) (r : Result (Option (List Row)) AllocError) → IfOk r (λ made. made ≡ equal_forms ks fs ls gs) → IfOk r (λ made. HaveIf made)
equal_result ks fs ls gs (Ok made) e = subst HaveIf (sym e) (equal_have ks fs ls gs)
equal_result ks fs ls gs (Err a) e = tt

all_formed : (params : ℕ) (hs : List Path) → ((k : Path) → IsAmong k hs → IsFormed params k) → AllFormed params hs
all_formed params [] each = tt
all_formed params (h ∷ hs) each = (each h (inl refl), all_formed params hs (λ k n. each k (inr n)))

calls_all : (g : Pairing) (order : Order) (h : Path) (o p : Option CallAt) (hs : List Path) → IsFormed g.params h → branches_of_calls g order h o p ≡ Some hs → (k : Path) → IsAmong k hs → IsFormed g.params k
calls_all g order h (Some c) (Some d) hs i e = calls_formed g order h c d hs i e
calls_all g order h None p hs i e = absurd cc
calls_all g order h (Some c) None hs i e = absurd cc

branches_all : (g : Pairing) → ((side : Side) → HasModuli (model_of g side)) → (order : Order) (h : Path) (o p : Option CellForms) (hs : List Path) → IsFormed g.params h → branches_by g order h o p ≡ Some hs → (k : Path) → IsAmong k hs → IsFormed g.params k
branches_all g hm Keep h (Some cell) p hs i e = in_branches g hm h Left cell hs i e
branches_all g hm Swap h (Some cell) p hs i e = absurd cc
branches_all g hm Keep h None (Some cell) hs i e = in_branches g hm h Right cell hs i e
branches_all g hm Swap h None (Some cell) hs i e = absurd cc
branches_all g hm order h None None hs i e = calls_all g order h (call_at g.left h.left.position) (call_at g.right h.right.position) hs i e

both_sides : (g : Pairing) → HasModuli g.left → HasModuli g.right → (side : Side) → HasModuli (model_of g side)
both_sides g l r Left = l
both_sides g l r Right = r

pub branches_formed : (g : Pairing) (order : Order) (h : Path) (hs : List Path) → HasModuli g.left → HasModuli g.right → IsFormed g.params h → branches g order h ≡ Some hs → AllFormed g.params hs
branches_formed g order h hs l r i e = all_formed g.params hs (branches_all g (both_sides g l r) order h (cell_read g.left h.left.position) (cell_read g.right h.right.position) hs i e)

pub branches_result : (g : Pairing) (order : Order) (h : Path) (r : Result (Option (List Branch)) AllocError) → HasModuli g.left → HasModuli g.right → IsFormed g.params h → IfOk r (λ made. all_onto h made ≡ branches g order h) → IfOk r (λ made. AreFormedIf g.params (all_onto h made))
branches_result g order h (Ok None) l r i e = tt
branches_result g order h (Ok (Some bs)) l r i e = branches_formed g order h (map (onto h) bs) l r i (sym e)
branches_result g order h (Err a) l r i e = tt
