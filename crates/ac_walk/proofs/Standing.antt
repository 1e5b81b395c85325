-- An output that stands is the same in both programs, and some order has no mismatch.
use Rattle.std.proofs.Common.{◌≡◌, ℕ, List, [], ◌∷◌, ◌++◌, map, length, refl, ap, subst, ◌∙◌}
use Rattle.std.specs.List.{AllByRecursion}
use Rattle.std.proofs.lemmas.List.{map-append}
use Rattle.ac_syntax.specs.Outputs.{SameOutput}
use Rattle.ac_syntax.specs.declared.tree.Order.{Order}
use Rattle.ac_syntax.specs.declared.tree.Pair.{Pair}
use Rattle.ac_syntax.specs.declared.tree.Position.{Position}
use Rattle.ac_poly.specs.Model.{model_of}
use Rattle.ac_claims.specs.Soundness.{AreModels}
use Rattle.ac_claims.specs.declared.types.Proof.{Proof}
use Rattle.ac_claims.proofs.Headline.{valid_proofs_name_same_outputs}
use Rattle.ac_unfold_plans.specs.ProofDecisions.{IsStoppedProof}
use Rattle.ac_unfold_plans.specs.PlanStops.{programs_of}
use Rattle.ac_walk.specs.MatchedOutputs.{IsMatched}
use Rattle.ac_walk.proofs.Stopping.{stopped_proofs_match}
use Rattle.ac_walk_state.specs.PartExtension.{NamesWithPart, StaysAccepted, StopsWithPart}
use Rattle.ac_walk_state.specs.ProofParts.{IsLonger, IsPartFor, in_part}
use Rattle.ac_walk_state.specs.declared.types.Part.{Part}
use Rattle.ac_report.specs.declared.types.Verdict.TheVariants.{Equal}
use Rattle.ac_walk.specs.FoundMembers.{rows_at}
use Rattle.ac_walk.specs.OutputSearch.{IsFound}
use Rattle.ac_walk_state.proofs.Widening.{widenings_recur}
use Rattle.ac_walk.specs.VerdictCollection.{IsBasis, IsSaidOf, IsValid}
use Rattle.ac_walk.specs.declared.outputs.Basis.{Basis}
use Rattle.ac_walk_state.specs.SearchSetting.{Widening, IsWideningOf}

own_models : (pair : Pair) → AreModels pair (model_of pair.left pair.context) (model_of pair.right pair.context)
own_models pair = record { left_is = refl; right_is = refl }

last_same : (pair : Pair) (os : List (ℕ × ℕ)) (o i : ℕ) → AllByRecursion (λ (o : ℕ × ℕ). SameOutput pair o.0) (os ++ (o, i) ∷ []) → SameOutput pair o
last_same pair [] o i h = h.0
last_same pair (p ∷ os) o i h = last_same pair os o i h.1

-- a valid proof tells that the output that it names last is the same
is_same : (b : Basis) (proof longer : Proof) (part : Part) (array : ℕ) → IsBasis b → IsLonger proof part array longer → IsValid b.pair.now longer → SameOutput b.pair.now array
is_same b proof longer part array h l valid =
    let pair = b.pair.now in
    let all = valid_proofs_name_same_outputs pair (model_of pair.left pair.context) (model_of pair.right pair.context) longer h.programs.paired (own_models pair) valid.moduli valid.valid in
    last_same pair proof.outputs array (length proof.claims) (subst (λ (os : List (ℕ × ℕ)). AllByRecursion (λ (o : ℕ × ℕ). SameOutput pair o.0) os) l.outputs all)

-- and where the part stops, some order has no mismatch
is_matched : (b : Basis) (array : ℕ) (own_widening : (w : Widening) × IsWideningOf b.pair.now array w) (order : Position × Position → Order) (proof longer : Proof) (part : Part) → IsBasis b → IsFound b.pair.now order array (length proof.claims) part → IsPartFor (programs_of b.pair.now) b.pair.now.outputs array proof.claims part → StopsWithPart proof part array longer → NamesWithPart proof part array longer
    → IsValid b.pair.now proof → IsValid b.pair.now longer → IsMatched b.pair.now array
is_matched b array own_widening order proof longer part h found fits stops names before valid =
    let pair = b.pair.now in
    let w = own_widening.0 in
    let is = own_widening.1 in
    let own = in_part (length proof.claims) (length part.claims.items) in
    let stopped : IsStoppedProof pair order w.recurrent (rows_at pair w) own longer = record {
      left = model_of pair.left pair.context;
      right = model_of pair.right pair.context;
      models = own_models pair;
      moduli = valid.moduli;
      recurring = widenings_recur pair array b.program_flows.now.left_flow.now b.program_flows.now.right_flow.now w h.flows is;
      valid = valid.valid;
      stops = stops pair order w.recurrent (rows_at pair w) pair.outputs before fits (found.stops proof.claims refl w is);
    } in
    stopped_proofs_match pair w order own longer array is stopped (names (programs_of pair) pair.outputs fits)

pub equal_said : (b : Basis) (budget array : ℕ) (own_widening : (w : Widening) × IsWideningOf b.pair.now array w) (order : Position × Position → Order) (proof longer : Proof) (part : Part) (first : ℕ) → IsBasis b → first ≡ length proof.claims → IsFound b.pair.now order array first part → IsLonger proof part array longer → StaysAccepted proof part array longer → StopsWithPart proof part array longer → NamesWithPart proof part array longer
    → IsValid b.pair.now proof → IsSaidOf budget b.pair.now array proof (Equal, longer)
equal_said b budget array own_widening order proof longer part first h e f l stays stops names valid =
    let pair = b.pair.now in
    let found : IsFound pair order array (length proof.claims) part = subst (λ (n : ℕ). IsFound pair order array n part) e f in
    let fits = found.is_part proof.claims refl in
    let after : IsValid pair longer = stays (programs_of pair) pair.outputs valid fits in
    record {
      verdict = is_same b proof longer part array h l after;
      matched = is_matched b array own_widening order proof longer part h found fits stops names valid after;
      searched = tt;
      tried = tt;
      named_then = ap (map (λ (o : ℕ × ℕ). o.0)) l.outputs ∙ map-append (λ (o : ℕ × ℕ). o.0) proof.outputs ((array, length proof.claims) ∷ []);
      valid = after;
    }
