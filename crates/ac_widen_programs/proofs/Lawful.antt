-- The setting of a pair is one in which the laws of widening hold.
use Rattle.std.proofs.Common.{◌≡◌, ◌↔◌, ◌⊎◌, inl, inr, ℕ, ◌+◌, ◌&&◌, ℤ, List, ◌++◌, length, Bool, true, false, cond, Option, Some, None, refl, sym, ap, ◌∙◌, subst}
use Rattle.std.specs.Prelude.{nat_eq}
use Rattle.std.specs.Cmp.Lexicographic.{pointwise}
use Rattle.std.proofs.lemmas.Bool.{eq-eqb}
use Rattle.std.proofs.lemmas.Bool.Decides.{Decides-eqb}
use Rattle.std.proofs.lemmas.List.{length-append}
use Rattle.std.proofs.lemmas.Slice.Eq.{slice_eq-Decides}
use Rattle.ac_syntax.specs.Algebra.{integers, value_of}
use Rattle.ac_syntax.specs.Index.{index_value}
use Rattle.ac_syntax.specs.Spot.{value_at}
use Rattle.ac_syntax.specs.Trace.{trace_of}
use Rattle.ac_syntax.specs.declared.tree.Order.{Order}
use Rattle.ac_syntax.specs.declared.tree.Order.TheVariants.{Keep}
use Rattle.ac_syntax.specs.declared.tree.Pair.{Pair}
use Rattle.ac_syntax.specs.declared.tree.Position.{Position}
use Rattle.ac_syntax.specs.declared.tree.Position.TheVariants.{Output}
use Rattle.ac_syntax.specs.declared.tree.Symbol.{Symbol}
use Rattle.ac_forms.proofs.Joining.{both_of}
use Rattle.ac_base.proofs.Options.{some-is}
use Rattle.ac_poly.specs.Model.{model_of}
use Rattle.ac_claims_paths.specs.Executions.{execution}
use Rattle.ac_claims_paths.specs.PathSteps.{same_symbol}
use Rattle.ac_claims_paths.specs.Pairs.{StepsTo}
use Rattle.ac_claims_paths.specs.ModelPositions.{CallAt, call_at}
use Rattle.ac_claims_paths.proofs.CallSteps.{symbol_is}
use Rattle.ac_graph.specs.PairMoves.{Dependences, Moves, IsRecurrent, IsRoot, IsSite, dependences, pairing_of}
use Rattle.ac_graph.specs.GraphMeaning.{comparison}
use Rattle.ac_graph.specs.Ways.{Leads, one, more}
use Rattle.ac_widen.proofs.Refuting.{equal_exactly}
use Rattle.ac_widen_programs.specs.PairSetting.{PairAt, IsOutputPair, IsMismatchPair, coordinate_count, point_width, is_site_pair, may_swap, order_at, setting}
use Rattle.ac_widen_programs.specs.LawfulPairs.{AreRecurring, PairsAreASetting, SearchDecidesPairs, SitesAreDeclared, MatchesAgree}
use Rattle.ac_widen_programs.proofs.PositionModels.{at_width, reads_there, call_there, output_reads}
use Rattle.ac_graph.proofs.MoveSteps.{true_both}
use Rattle.ac_graph.proofs.SiteSteps.{symbol_self}

abbrev pub Positions : Type 0
Positions = Position × Position

-- ---- points

point_of : (pair : Pair) (key : Positions) (p : List ℤ) → PairAt pair key p → length p ≡ point_width pair key
point_of pair key p h =
    let l = at_width (model_of pair.left pair.context) h.params (execution pair.left (model_of pair.left pair.context) h.params) h.compared.left h.a.position h.a.at h.a.spot h.a.here in
    let r = at_width (model_of pair.right pair.context) h.params (execution pair.right (model_of pair.right pair.context) h.params) h.compared.right h.b.position h.b.at h.b.spot h.b.here in
    let left : length h.a.at ≡ coordinate_count (model_of pair.left pair.context) key.0 = l ∙ ap (coordinate_count (model_of pair.left pair.context)) h.placed.left_is in
    let right : length h.b.at ≡ coordinate_count (model_of pair.right pair.context) key.1 = r ∙ ap (coordinate_count (model_of pair.right pair.context)) h.placed.right_is in
    ap length h.placed.point_is ∙ length-append h.params (h.a.at ++ h.b.at) ∙ (λ i. h.compared.valuation.each i + (length-append h.a.at h.b.at ∙ (λ j. left j + right j)) i)

-- ---- moves and mismatches

first_move : (d : Dependences) (p q : Positions) → Leads (Moves d) p q → (s : Positions) × Moves d p s
first_move d p q (one a b m) = (q, m)
first_move d p q (more a b c l m) = first_move d p b l

moves_no_mismatch : (pair : Pair) (ls rs : List (Position × Position)) (key next : Positions) (p : List ℤ) → Moves (dependences pair ls rs) key next → ¬ (IsMismatchPair pair key p)
moves_no_mismatch pair ls rs key next p (inl m) h =
    h.mismatch.left (reads_there (model_of pair.left pair.context) h.there.params (execution pair.left (model_of pair.left pair.context) h.there.params) h.there.compared.left h.there.a key.0 h.there.placed.left_is m.reader)
moves_no_mismatch pair ls rs key next p (inr (inl m)) h =
    h.mismatch.right (reads_there (model_of pair.right pair.context) h.there.params (execution pair.right (model_of pair.right pair.context) h.there.params) h.there.compared.right h.there.b key.1 h.there.placed.right_is m.reader)
moves_no_mismatch pair ls rs key next p (inr (inr m)) h =
    let l = call_there (model_of pair.left pair.context) h.there.params (execution pair.left (model_of pair.left pair.context) h.there.params) h.there.compared.left h.there.a key.0 m.left h.there.placed.left_is m.left_is in
    let r = call_there (model_of pair.right pair.context) h.there.params (execution pair.right (model_of pair.right pair.context) h.there.params) h.there.compared.right h.there.b key.1 m.right h.there.placed.right_is m.right_is in
    h.mismatch.apart (inl (l.0, r.0, ap (λ (c : CallAt). c.symbol) l.1 ∙ m.one_symbol ∙ ap (λ (c : CallAt). c.symbol) (sym r.1)))

-- ---- outputs

no_root : (pair : Pair) (ls rs : List (Position × Position)) (key : Positions) (o : ℕ) → key.0 ≡ Output o → key.1 ≡ Output o → ¬ (IsRecurrent (dependences pair ls rs) key)
no_root pair ls rs key o l r h = by h.root
  where
    by : IsRoot key.0 ⊎ IsRoot key.1 → ⊥
    by (inl a) = subst IsRoot l a
    by (inr b) = subst IsRoot r b

pub is-false : (b : Bool) → ¬ (b ≡ true) → b ≡ false
is-false true h = absurd (h refl)
is-false false h = refl

outputs_move : (pair : Pair) (outputs : List ℕ) (recurrent : Positions → Bool) → AreRecurring pair recurrent → (key : Positions) (p : List ℤ) → IsOutputPair pair outputs key p → (recurrent key ≡ false) × ¬ (IsMismatchPair pair key p)
outputs_move pair outputs recurrent are key p h =
    let l : key.0 ≡ Output h.output = sym h.there.placed.left_is ∙ h.left_is in
    let r : key.1 ≡ Output h.output = sym h.there.placed.right_is ∙ h.right_is in (
      is-false (recurrent key) (λ t. no_root pair are.left_edges are.right_edges key h.output l r (are.recur key t)),
      (λ m. m.mismatch.left (output_reads (execution pair.left (model_of pair.left pair.context) m.there.params) m.there.a h.output (m.there.placed.left_is ∙ l))),
    )

-- ---- the setting

one_order : (pair : Pair) (key : Positions) (t u : Order) → is_site_pair pair key ≡ false → order_at pair key t ≡ order_at pair key u
one_order pair key t u e = ap (λ (b : Bool). cond b t Keep) e ∙ sym (ap (λ (b : Bool). cond b u Keep) e)

pub pairs_are_a_setting : PairsAreASetting
pairs_are_a_setting pair outputs recurrent template are = record {
  output_instance = λ key p h. h.there;
  step_instance = λ t key p next q h. record { params = h.params; compared = h.compared; a = h.a'; b = h.b'; placed = h.to };
  instance_width = λ key p h. point_of pair key p h;
  output_moves = λ key p h. outputs_move pair outputs recurrent are key p h;
  moves = λ key p t. let m = first_move (dependences pair are.left_edges are.right_edges) key key (are.recur key t).cycle in moves_no_mismatch pair are.left_edges are.right_edges key m.0 p m.1;
  plain = λ t u key p next q e h. record {
    params = h.params;
    compared = h.compared;
    a = h.a;
    b = h.b;
    a' = h.a';
    b' = h.b';
    from = h.from;
    to = h.to;
    steps = subst (λ (o : Order). StepsTo (comparison pair h.params h.compared) o h.a h.b h.a' h.b') (one_order pair key t u e) h.steps;
  };
}

pub search_decides_pairs : SearchDecidesPairs
search_decides_pairs pair outputs recurrent template are = λ d. equal_exactly (setting pair outputs recurrent template) (pairs_are_a_setting pair outputs recurrent template are) d

-- ---- sites

pub sites_are_declared : SitesAreDeclared
sites_are_declared pair key = by (call_at (model_of pair.left pair.context) key.0) (call_at (model_of pair.right pair.context) key.1) refl refl
  where
    by : (c d : Option CallAt) → call_at (model_of pair.left pair.context) key.0 ≡ c → call_at (model_of pair.right pair.context) key.1 ≡ d → (may_swap (pairing_of pair) c d ≡ true) ↔ IsSite (pairing_of pair) key
    by None d e f = ((λ t. absurd cc), (λ h. let n : None ≡ Some h.left = sym e ∙ h.left_is in absurd cc))
    by (Some c) None e f = ((λ t. absurd cc), (λ h. let n : None ≡ Some h.right = sym f ∙ h.right_is in absurd cc))
    by (Some c) (Some d) e f = (
      (λ t. let b = both_of (same_symbol c.symbol d.symbol) ((pairing_of pair).swaps c.symbol) t in record { left = c; right = d; left_is = e; right_is = f; one_symbol = symbol_is c.symbol d.symbol b.0; swaps = b.1 }),
      (λ h. swapped h),
    )
      where
        swapped : IsSite (pairing_of pair) key → may_swap (pairing_of pair) (Some c) (Some d) ≡ true
        swapped h =
            let l : c ≡ h.left = some-is c h.left (sym e ∙ h.left_is) in
            let r : d ≡ h.right = some-is d h.right (sym f ∙ h.right_is) in
            let s : c.symbol ≡ d.symbol = ap (λ (x : CallAt). x.symbol) l ∙ h.one_symbol ∙ ap (λ (x : CallAt). x.symbol) (sym r) in
            true_both (same_symbol c.symbol d.symbol) ((pairing_of pair).swaps c.symbol) (subst (λ (x : Symbol). same_symbol c.symbol x ≡ true) s (symbol_self c.symbol)) (ap (λ (x : CallAt). (pairing_of pair).swaps x.symbol) l ∙ h.swaps)

-- ---- matches

pub matches_agree : MatchesAgree
unfolding value_of
matches_agree pair params c a b (inl n) table left right agree =
    let l : value_at (integers table) (trace_of pair.left.body params) left a.spot ≡ index_value n.left.entry.point n.left_form = ap (value_at (integers table) (trace_of pair.left.body params) left) n.left_is in
    let r : value_at (integers table) (trace_of pair.right.body params) right b.spot ≡ index_value n.right.entry.point n.right_form = ap (value_at (integers table) (trace_of pair.right.body params) right) n.right_is in
    l ∙ n.equal ∙ sym r
matches_agree pair params c a b (inr (cell, input, l, r)) table left right agree =
    ap (value_at (integers table) (trace_of pair.left.body params) left) l ∙ agree cell input ∙ sym (ap (value_at (integers table) (trace_of pair.right.body params) right) r)
