-- Parts of a proof with tabled claims.
use Rattle.std.proofs.Common.{◌≡◌, ◌⊎◌, inl, inr, ℕ, suc, ◌+◌, List, [], ◌∷◌, ◌++◌, append_assoc, length, length-append, take, Option, Some, refl, sym, ap, subst, ◌∙◌, arith}
use Rattle.std.specs.Prelude.{slice_get, IfSome}
use Rattle.std.specs.List.{AllByRecursion}
use Rattle.std.proofs.Math.Seq.{take-length}
use Rattle.ac_forms.specs.ListMembers.{IsAmong}
use Rattle.ac_syntax.specs.declared.tree.Order.{Order}
use Rattle.ac_syntax.specs.declared.tree.Site.{Site}
use Rattle.ac_claims_paths.specs.PathSteps.{Pairing}
use Rattle.ac_claims.specs.CheckKnowledge.{IsClaimMade}
use Rattle.ac_claims.specs.declared.types.Claim.{Claim}
use Rattle.ac_claims.specs.declared.types.ClaimTree.{ClaimTree}
use Rattle.ac_widen.specs.declared.derivation.Entry.{Entry}
use Rattle.ac_unfold_plans.specs.ArgumentOrders.{order_of}
use Rattle.ac_walk_state.specs.SearchSetting.{Widening, IsWideningOf}
use Rattle.ac_unfold_plans.specs.PlanStops.{claim_positions, programs_of}
use Rattle.ac_walk_state.specs.ProofParts.{in_part}
use Rattle.ac_walk_state.specs.ClaimPlans.{ArePlanned}
use Rattle.ac_walk_state.specs.PartStops.{TreeStops}
use Rattle.ac_walk_state.specs.declared.types.Part.{Part}
use Rattle.ac_unfold.specs.UnfoldCauses.{StopsUnfolding}
use Rattle.ac_unfold.specs.StartResults.{IfBroken}
use Rattle.ac_unfold.specs.FoundPaths.{IsFoundAt}
use Rattle.ac_unfold.specs.Unfoldings.{IsUnfoldingOf}
use Rattle.ac_unfold.specs.declared.types.Planned.{Planned}
use Rattle.ac_unfold.specs.declared.types.Planned.TheVariants.{Broken}
use Rattle.ac_unfold.specs.declared.types.UnfoldStop.{UnfoldStop}
use Rattle.ac_widen_programs.specs.BrokenPaths.{IsBroken}
use Rattle.ac_widen_programs.specs.PairPaths.{Unfolding}
use Rattle.ac_unfold_table.specs.TabledClaims.{AddsTabled, IsTabled, more, none}
use Rattle.ac_unfold_table.specs.Tables.{all_trees, new_table, Grows, TableOf}
use Rattle.ac_unfold_table.specs.StartPlans.{AreTreesOf}
use Rattle.ac_unfold_table.proofs.Later.{trees_more}
use Rattle.ac_unfold.specs.declared.types.ProgramFlows.{ProgramFlows}
use Rattle.ac_walk.specs.PartConstruction.{HaveClaims, IsBegun, IsBrokenBy}
use Rattle.ac_walk.proofs.ApartClaims.{AreApart}
use Rattle.ac_walk.specs.OutputSearch.{IsSearch}
use Rattle.ac_walk.specs.SearchStops.{EndsEarlyBy}
use Rattle.ac_walk.specs.StartPaths.{IsPathFound}
use Rattle.ac_walk.specs.SearchTables.{IsTable}
use Rattle.ac_walk.specs.declared.stops.Stop.{Stop}
use Rattle.ac_walk.specs.declared.search_types.Search.{Search}
use Rattle.ac_walk.proofs.Added.{one_added, settled, stays, ArePlansFor}
use Rattle.ac_walk.proofs.Lists.{among_both, get_behind}
use Rattle.ac_walk.proofs.Programs.{programs_are}
use Rattle.ac_walk.proofs.SameClaims.{path_found}

-- ---- tables

pub new_is_table : (s : Search) (order : List (Site × Order)) (claims : List Claim) (base : ℕ) (t : TableOf) → base ≡ s.first + 1 → t ≡ new_table base claims order → IsTable s order claims t
new_is_table s order claims base t b e = subst (IsTable s order claims) (sym e) (record { base = b; claims_are = refl; order_is = refl; tabled = none })

pub table_grows : (s : Search) (order : List (Site × Order)) (claims : List Claim) (old new : TableOf) → IsTable s order claims old → AddsTabled s.program_flows.now old new → IsTable s order claims new
table_grows s order claims old new t adds = record {
  base = adds.kept.base ∙ t.base;
  claims_are = adds.kept.claims ∙ t.claims_are;
  order_is = adds.kept.order ∙ t.order_is;
  tabled = adds.valid t.tabled;
}

-- ---- plans

-- what was made against the first tabled claims is made against all of them
pub earlier_plans : (s : Search) (order : List (Site × Order)) (claims fewer rest tabled : List Claim) (c : Claim) (number base : ℕ) (ts : List ClaimTree) → IsSearch s → fewer ++ rest ≡ tabled → AreTreesOf s.program_flows.now base claims fewer order number c ts → ArePlansFor s order claims tabled c number base ts
earlier_plans s order claims fewer rest tabled c number base ts is whole h =
    let all = trees_more s.program_flows.now base claims fewer rest order number c ts h in
    subst (λ (xs : List Claim). ArePlansFor s order claims xs c number base ts) whole (record { claim = all.claim; pieces = all.pieces; accepted = all.accepted (settled s is); stops = all.stops })

-- ---- the plans of the tabled claims behind others

append_none : {A : Type 0} (xs : List A) → xs ++ [] ≡ xs
append_none [] = refl
append_none (x ∷ xs) = ap (λ ys. x ∷ ys) (append_none xs)

pub trees_last : (done : List (List ClaimTree)) (ts : List ClaimTree) → all_trees (done ++ ts ∷ []) ≡ all_trees done ++ ts
trees_last [] ts = append_none ts
trees_last (d ∷ done) ts = ap (λ xs. d ++ xs) (trees_last done ts) ∙ sym (append_assoc d (all_trees done) ts)

-- the output's claim, those of the widening points, and their plans, behind which tabled claims come
module _ (s : Search) (order : List (Site × Order)) (claims tabled : List Claim) (is : IsSearch s) (have : HaveClaims s.stops.now claims) (output : Claim) (own : List Claim) (plans : List ClaimTree) (base : ℕ) (b : base ≡ s.first + 1) (count : length own ≡ length claims + 1) where
  all : List Claim
  all = output ∷ (claims ++ tabled)

  -- a tabled claim stands at its place
  place : (before rest : List Claim) (c : Claim) → before ++ c ∷ rest ≡ tabled → slice_get (output ∷ (claims ++ tabled)) (length (own ++ before)) ≡ Some c
  place before rest c whole =
      let n : length (own ++ before) ≡ suc (length claims + (length before + 0)) = (let l = length-append own before in omega (arith, l, count)) in
      let there : slice_get tabled (length before + 0) ≡ Some c = ap (λ (xs : List Claim). slice_get xs (length before + 0)) (sym whole) ∙ get_behind before (c ∷ rest) 0 in
      ap (slice_get (output ∷ (claims ++ tabled))) n ∙ get_behind claims tabled (length before + 0) ∙ there

  numbers : (before : List Claim) → base + length claims + length before ≡ s.first + length (own ++ before)
  numbers before = let l = length-append own before in omega (arith, l, count, b)

  planned_behind : (first : List Claim) → length first ≡ s.first → (some : List Claim) (trees : List (List ClaimTree)) (rest : List Claim) → IsTabled s.program_flows.now base claims order some trees → some ++ rest ≡ tabled
      → ArePlanned (programs_of s.pair.now) (first ++ output ∷ (claims ++ tabled)) s.first own plans → ArePlanned (programs_of s.pair.now) (first ++ output ∷ (claims ++ tabled)) s.first (own ++ some) (plans ++ all_trees trees)
  planned_behind first len some trees rest none whole p =
      subst (λ (xs : List Claim). ArePlanned (programs_of s.pair.now) (first ++ output ∷ (claims ++ tabled)) s.first xs (plans ++ [])) (sym (append_none own))
      (subst (ArePlanned (programs_of s.pair.now) (first ++ output ∷ (claims ++ tabled)) s.first own) (sym (append_none plans)) p)
  planned_behind first len some trees rest (more before done c ts some' trees' h made use_tabled some_is trees_are fit) whole p =
      let again : before ++ c ∷ rest ≡ tabled = sym (append_assoc before (c ∷ []) rest) ∙ ap (λ (xs : List Claim). xs ++ rest) (sym some_is) ∙ whole in
      let fewer = planned_behind first len before done (c ∷ rest) h again p in
      let is_made : IsClaimMade (programs_of s.pair.now) c = subst (λ (g : Pairing). IsClaimMade g c) (sym (programs_are s is)) fit.made in
      let for_all = earlier_plans s order claims before (c ∷ rest) tabled c (base + length claims + length before) base ts is again made in
      let next = one_added s order claims tabled is have c is_made (own ++ before) (plans ++ all_trees done) output first (base + length claims + length before) base ts len (numbers before) b (place before rest c again) for_all fewer in
      subst (λ (xs : List Claim). ArePlanned (programs_of s.pair.now) (first ++ output ∷ (claims ++ tabled)) s.first xs (plans ++ all_trees trees)) (append_assoc own before (c ∷ []) ∙ ap (λ (xs : List Claim). own ++ xs) (sym some_is))
      (subst (λ (xs : List ClaimTree). ArePlanned (programs_of s.pair.now) (first ++ output ∷ (claims ++ tabled)) s.first ((own ++ before) ++ c ∷ []) xs)
      (append_assoc plans (all_trees done) ts ∙ ap (λ (xs : List ClaimTree). plans ++ xs) (sym (trees_last done ts)) ∙ ap (λ (xs : List (List ClaimTree)). plans ++ all_trees xs) (sym trees_are)) next)

  stops_behind : (first : List Claim) → length first ≡ s.first → (w : Widening) → IsWideningOf s.pair.now s.array w → (some : List Claim) (trees : List (List ClaimTree)) (rest : List Claim) → IsTabled s.program_flows.now base claims order some trees → some ++ rest ≡ tabled
      → AllByRecursion (TreeStops s.pair.now (order_of order) w.recurrent (in_part s.first (length (output ∷ (claims ++ tabled)))) (first ++ output ∷ (claims ++ tabled))) plans
      → AllByRecursion (TreeStops s.pair.now (order_of order) w.recurrent (in_part s.first (length (output ∷ (claims ++ tabled)))) (first ++ output ∷ (claims ++ tabled))) (plans ++ all_trees trees)
  stops_behind first len w v some trees rest none whole p =
      subst (AllByRecursion (TreeStops s.pair.now (order_of order) w.recurrent (in_part s.first (length (output ∷ (claims ++ tabled)))) (first ++ output ∷ (claims ++ tabled)))) (sym (append_none plans)) p
  stops_behind first len w v some trees rest (more before done c ts some' trees' h made use_tabled some_is trees_are fit) whole p =
      let again : before ++ c ∷ rest ≡ tabled = sym (append_assoc before (c ∷ []) rest) ∙ ap (λ (xs : List Claim). xs ++ rest) (sym some_is) ∙ whole in
      let fewer = stops_behind first len w v before done (c ∷ rest) h again p in
      let is_made : IsClaimMade (programs_of s.pair.now) c = subst (λ (g : Pairing). IsClaimMade g c) (sym (programs_are s is)) fit.made in
      let for_all = earlier_plans s order claims before (c ∷ rest) tabled c (base + length claims + length before) base ts is again made in
      let next = stays s order claims tabled is have c is_made (plans ++ all_trees done) output first (length (own ++ before)) (base + length claims + length before) base ts w len (numbers before) b (place before rest c again) v for_all fewer in
      subst (AllByRecursion (TreeStops s.pair.now (order_of order) w.recurrent (in_part s.first (length (output ∷ (claims ++ tabled)))) (first ++ output ∷ (claims ++ tabled))))
      (append_assoc plans (all_trees done) ts ∙ ap (λ (xs : List ClaimTree). plans ++ xs) (sym (trees_last done ts)) ∙ ap (λ (xs : List (List ClaimTree)). plans ++ all_trees xs) (sym trees_are)) next

-- ---- the part with them

take_front : (xs ys : List Claim) → take (length xs) (xs ++ ys) ≡ xs
take_front [] ys = by ys
  where
    by : (ys : List Claim) → take 0 ys ≡ []
    by [] = refl
    by (y ∷ ys) = refl
take_front (x ∷ xs) ys = ap (λ (zs : List Claim). x ∷ zs) (take_front xs ys)

-- where a part has the claims of the output and of all widening points, with their plans, it has the tabled ones too
pub tabled_begun : (s : Search) (order : List (Site × Order)) (claims : List Claim) (t : TableOf) (part longer : Part) → IsSearch s → HaveClaims s.stops.now claims → IsTable s order claims t → IsBegun s order claims t.tabled (length claims) part
    → longer.claims.items ≡ part.claims.items ++ t.tabled → longer.trees.items ≡ part.trees.items ++ all_trees t.trees → IsBegun s order claims t.tabled (length claims + length t.tabled) longer
tabled_begun s order claims t part longer is have table begun grown plans =
    let output = begun.output in
    let own = part.claims.items in
    let all = output ∷ (claims ++ t.tabled) in
    let tabled : IsTabled s.program_flows.now t.base claims order t.tabled t.trees = subst (λ (o : List (Site × Order)). IsTabled s.program_flows.now t.base claims o t.tabled t.trees) table.order_is (subst (λ (cs : List Claim). IsTabled s.program_flows.now t.base cs t.order t.tabled t.trees) table.claims_are table.tabled) in
    let own_is : own ≡ output ∷ claims = begun.partly.claims ∙ ap (λ (n : ℕ). take n all) (begun.counted ∙ (let z : length claims + 1 ≡ length (output ∷ claims) = omega arith in z)) ∙ take_front (output ∷ claims) t.tabled in
    let counted : length longer.claims.items ≡ length all = (let a = ap length grown in let e = length-append own t.tabled in let c = begun.counted in let d = length-append claims t.tabled in omega (arith, a, e, c, d)) in
    let whole : t.tabled ++ [] ≡ t.tabled = append_none t.tabled in
    record {
      output = output;
      is_output = begun.is_output;
      partly = record {
        claims = grown ∙ ap (λ (xs : List Claim). xs ++ t.tabled) own_is ∙ sym (take-length all) ∙ ap (λ (n : ℕ). take n all) (sym counted);
        planned = λ before len.
            subst (λ (xs : List Claim). ArePlanned (programs_of s.pair.now) (before ++ all) s.first xs longer.trees.items) (sym grown)
            (subst (ArePlanned (programs_of s.pair.now) (before ++ all) s.first (own ++ t.tabled)) (sym plans)
            (planned_behind s order claims t.tabled is have output own part.trees.items t.base table.base begun.counted before len t.tabled t.trees [] tabled whole (begun.partly.planned before len)));
        stops = λ before len w v.
            subst (AllByRecursion (TreeStops s.pair.now (order_of order) w.recurrent (in_part s.first (length all)) (before ++ all))) (sym plans)
            (stops_behind s order claims t.tabled is have output own part.trees.items t.base table.base begun.counted before len w v t.tabled t.trees [] tabled whole (begun.partly.stops before len w v));
      };
      counted = (let d = length-append claims t.tabled in omega (arith, counted, d));
    }

-- ---- their pairs

-- no tabled claim is of a pair up to which the search goes
pub tabled_apart : (s : Search) (order : List (Site × Order)) (claims : List Claim) (t : TableOf) → HaveClaims s.stops.now claims → IsTable s order claims t → AreApart s t.tabled
tabled_apart s order claims t have table c i widening_point among same =
    let of = have widening_point among in
    fit t.tabled t.trees table.tabled c i of.0 (subst (IsAmong of.0) (sym table.claims_are) of.1) (of.2 ∙ sym same)
  where
    fit : (some : List Claim) (trees : List (List ClaimTree)) → IsTabled s.program_flows.now t.base t.claims t.order some trees → (c : Claim) → IsAmong c some → (d : Claim) → IsAmong d t.claims → ¬ (claim_positions d ≡ claim_positions c)
    fit some trees none c i d m = absurd i
    fit some trees (more before done x ts some' trees' h made use_tabled some_is trees_are is_fit) c i d m = by (λ j. fit before done h c j d m) (among_both before (x ∷ []) c (subst (IsAmong c) some_is i))
      where
        by : (IsAmong c before → ¬ (claim_positions d ≡ claim_positions c)) → IsAmong c before ⊎ IsAmong c (x ∷ []) → ¬ (claim_positions d ≡ claim_positions c)
        by earlier (inl j) = earlier j
        by earlier (inr (inl e)) = subst (λ (y : Claim). ¬ (claim_positions d ≡ claim_positions y)) (sym e) (is_fit.free d m)
        by earlier (inr (inr j)) = absurd j

-- ---- paths that are broken

pub broken_of_table : (s : Search) (order : List (Site × Order)) (claims : List Claim) (t : TableOf) (start : Claim) (path : List Entry) → IsTable s order claims t → IsBrokenBy s t.order t.claims start path → IsBrokenBy s order claims start path
broken_of_table s order claims t start path table h = subst (λ (cs : List Claim). IsBrokenBy s order cs start path) table.claims_are (subst (λ (o : List (Site × Order)). IsBrokenBy s o t.claims start path) table.order_is h)

pub ends_of_table : (s : Search) (order : List (Site × Order)) (claims : List Claim) (t : TableOf) (start : Claim) (stop : Stop) → IsTable s order claims t → EndsEarlyBy s t.order t.claims start stop → EndsEarlyBy s order claims start stop
ends_of_table s order claims t start stop table h = subst (λ (cs : List Claim). EndsEarlyBy s order cs start stop) table.claims_are (subst (λ (o : List (Site × Order)). EndsEarlyBy s o t.claims start stop) table.order_is h)

pub some_broken : {A : Type 0} (P : A → Type 0) (found : Option A) (path : A) → found ≡ Some path → IfSome found P → P path
some_broken P found path e h = subst (λ o. IfSome o P) e h

-- ---- a table of its own

kept_claims : (base : ℕ) (claims : List Claim) (order : List (Site × Order)) (old new : TableOf) → old ≡ new_table base claims order → Grows old new → new.claims ≡ claims
kept_claims base claims order old new e kept = kept.claims ∙ ap (λ (t : TableOf). t.claims) e

kept_order : (base : ℕ) (claims : List Claim) (order : List (Site × Order)) (old new : TableOf) → old ≡ new_table base claims order → Grows old new → new.order ≡ order
kept_order base claims order old new e kept = kept.order ∙ ap (λ (t : TableOf). t.order) e

pub broken_alone : (program_flows : ProgramFlows) (start : Claim) (base : ℕ) (claims : List Claim) (order : List (Site × Order)) (old new : TableOf) (made : Planned) (path : List Entry) (paths : List (List Entry)) → old ≡ new_table base claims order → Grows old new → made ≡ Broken path → paths ≡ path ∷ []
    → IfBroken (λ es. (u : Unfolding) → IsUnfoldingOf program_flows start new.order u → IsBroken u new.claims es) made
    → IfBroken (λ es. (u : Unfolding) → IsUnfoldingOf program_flows start new.order u → IsFoundAt u program_flows.left_flow.now program_flows.right_flow.now new.claims es) made → (u : Unfolding) → IsUnfoldingOf program_flows start order u
    → AllByRecursion (IsPathFound program_flows u claims) paths
broken_alone program_flows start base claims order old new made path paths e kept is one h f u of =
    let there = path_found program_flows start new.order new.claims made path is h f u (subst (λ (o : List (Site × Order)). IsUnfoldingOf program_flows start o u) (sym (kept_order base claims order old new e kept)) of) in
    subst (AllByRecursion (IsPathFound program_flows u claims)) (sym one) (subst (λ (cs : List Claim). IsPathFound program_flows u cs path) (kept_claims base claims order old new e kept) there, tt)

pub stops_kept : (program_flows : ProgramFlows) (start : Claim) (base : ℕ) (claims : List Claim) (order : List (Site × Order)) (old new : TableOf) (stop : UnfoldStop) → old ≡ new_table base claims order → Grows old new → StopsUnfolding program_flows start new.claims new.order stop
    → StopsUnfolding program_flows start claims order stop
stops_kept program_flows start base claims order old new stop e kept h =
    subst (λ (o : List (Site × Order)). StopsUnfolding program_flows start claims o stop) (kept_order base claims order old new e kept) (subst (λ (cs : List Claim). StopsUnfolding program_flows start cs new.order stop) (kept_claims base claims order old new e kept) h)
