-- Paths for claims, and for the same claims in another order.
use Rattle.std.proofs.Common.{◌≡◌, inl, inr, List, [], ◌∷◌, subst}
use Rattle.std.specs.List.{AllByRecursion}
use Rattle.ac_forms.specs.ListMembers.{IsAmong}
use Rattle.ac_syntax.specs.declared.tree.Order.{Order}
use Rattle.ac_syntax.specs.declared.tree.Site.{Site}
use Rattle.ac_claims_paths.specs.declared.path.Path.{Path}
use Rattle.ac_claims_paths.specs.declared.path.Seat.{Seat}
use Rattle.ac_claims.specs.declared.types.Claim.{Claim}
use Rattle.ac_widen.specs.declared.derivation.Entry.{Entry}
use Rattle.ac_widen_programs.specs.BrokenPaths.{EndsBroken, HasNoClaim, IsBroken}
use Rattle.ac_widen_programs.specs.PairPaths.{Unfolding}
use Rattle.ac_unfold.specs.FoundPaths.{IsFoundAt}
use Rattle.ac_unfold.specs.StartResults.{IfBroken}
use Rattle.ac_unfold.specs.Unfoldings.{IsUnfoldingOf}
use Rattle.ac_unfold.specs.declared.types.Planned.{Planned}
use Rattle.ac_unfold.specs.declared.types.Planned.TheVariants.{Broken}
use Rattle.ac_unfold.specs.declared.types.ProgramFlows.{ProgramFlows}
use Rattle.ac_walk.specs.StartPaths.{IsPathFound}
use Rattle.ac_walk.proofs.Lists.{all_map}

module _ (u : Unfolding) (cs ds : List Claim) (onto : (c : Claim) → IsAmong c cs → IsAmong c ds) (back : (c : Claim) → IsAmong c ds → IsAmong c cs) where
  pub none_there : (s : Seat × Seat) → HasNoClaim cs s → HasNoClaim ds s
  none_there s h c i l r = h c (back c i) l r

  ends_there : (rest : List (Seat × Seat)) (q : Path) (p : List _) → EndsBroken u cs rest q p → EndsBroken u ds rest q p
  ends_there rest q p (inl h) = inl (record { free = all_map (HasNoClaim cs) (HasNoClaim ds) rest none_there h.free; nothing = h.nothing })
  ends_there rest q p (inr h) = inr (record {
    between = h.between;
    rest_is = h.rest_is;
    free = all_map (HasNoClaim cs) (HasNoClaim ds) h.between none_there h.free;
    claim = h.claim;
    among = onto h.claim h.among;
    left_is = h.left_is;
    right_is = h.right_is;
    row = h.row;
    row_among = h.row_among;
    fails = h.fails;
  })

  pub broken_there : (path : List Entry) → IsBroken u cs path → IsBroken u ds path
  broken_there path b = record { first = b.first; rest = b.rest; question = b.question; point = b.point; comes = b.comes; are = b.are; ends = ends_there b.rest b.question b.point b.ends }

-- a path that an unfolding against the claims finds
pub path_found : (program_flows : ProgramFlows) (start : Claim) (order : List (Site × Order)) (claims : List Claim) (made : Planned) (path : List Entry) → made ≡ Broken path → IfBroken (λ es. (u : Unfolding) → IsUnfoldingOf program_flows start order u → IsBroken u claims es) made
    → IfBroken (λ es. (u : Unfolding) → IsUnfoldingOf program_flows start order u → IsFoundAt u program_flows.left_flow.now program_flows.right_flow.now claims es) made → (u : Unfolding) → IsUnfoldingOf program_flows start order u → IsPathFound program_flows u claims path
path_found program_flows start order claims made path is h f u of = record {
  broken = subst (IfBroken (λ es. (v : Unfolding) → IsUnfoldingOf program_flows start order v → IsBroken v claims es)) is h u of;
  found = subst (IfBroken (λ es. (v : Unfolding) → IsUnfoldingOf program_flows start order v → IsFoundAt v program_flows.left_flow.now program_flows.right_flow.now claims es)) is f u of;
}

-- so are several
pub paths_found : (program_flows : ProgramFlows) (u : Unfolding) (claims : List Claim) (paths : List (List Entry)) → AllByRecursion (IsBroken u claims) paths → AllByRecursion (IsFoundAt u program_flows.left_flow.now program_flows.right_flow.now claims) paths → AllByRecursion (IsPathFound program_flows u claims) paths
paths_found program_flows u claims [] h f = tt
paths_found program_flows u claims (path ∷ paths) h f = (record { broken = h.0; found = f.0 }, paths_found program_flows u claims paths h.1 f.1)
