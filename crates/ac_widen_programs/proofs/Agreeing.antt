-- Where the terms of outputs agree, so do those of each pair that steps lead to; and agreeing terms are no mismatch.
use Rattle.std.proofs.Common.{◌≡◌, inl, inr, ℕ, ℤ, List, [], ◌∷◌, ◌++◌, length, Bool, true, false, Option, Some, None, refl, sym, ap, ◌∙◌, subst}
use Rattle.std.specs.Prelude.{slice_get}
use Rattle.ac_forms.specs.declared.row.Row.{Row}
use Rattle.ac_syntax.specs.Algebra.{Cell}
use Rattle.ac_syntax.specs.Outputs.{swaps_of}
use Rattle.ac_syntax.specs.Source.{source}
use Rattle.ac_syntax.specs.Spot.{Spot, AtEnd, value_at, resolved}
use Rattle.ac_syntax.specs.Term.{Term, Agree, free, Apply, terms}
use Rattle.ac_syntax.specs.Where.{element}
use Rattle.ac_syntax.specs.declared.tree.Order.{Order}
use Rattle.ac_syntax.specs.declared.tree.Order.TheVariants.{Keep, Swap}
use Rattle.ac_syntax.specs.declared.tree.Pair.{Pair}
use Rattle.ac_syntax.specs.declared.tree.Position.{Position}
use Rattle.ac_syntax.specs.declared.tree.Position.TheVariants.{Output}
use Rattle.ac_syntax.specs.declared.tree.Symbol.{Symbol}
use Rattle.ac_syntax.proofs.Matching.{agree_matches, matches_agree}
use Rattle.ac_poly.specs.Model.{model_of}
use Rattle.ac_poly.specs.declared.types.Model.{Model}
use Rattle.ac_claims_paths.specs.Executions.{Execution, At, Describes, execution}
use Rattle.ac_claims_paths.specs.OnPaths.{Compared}
use Rattle.ac_forms.specs.ListMembers.{IsAmong}
use Rattle.ac_claims_paths.specs.Pairs.{Placed, IsReader, IsResolved, ResolvesTo, IsMatch, ArgumentsMeet, StepsTo}
use Rattle.ac_claims_paths.proofs.ReaderSteps.{at_once}
use Rattle.ac_claims.specs.Soundness.{TermsAgree}
use Rattle.ac_claims.proofs.Central.{reads_value}
use Rattle.ac_graph.specs.GraphMeaning.{IsCompared, comparison, LeftPlaced, RightPlaced}
use Rattle.ac_widen.specs.Obligations.{Obligation, output, step, hull}
use Rattle.ac_widen_programs.specs.PairSetting.{IsPlaced, IsOutputPair, IsStepPair, coordinate_count, order_at, setting}
use Rattle.ac_widen_programs.proofs.PositionModels.{at_width}
use Rattle.ac_widen_programs.specs.OutputAgreement.{AgreeingTermsHaveNoMismatch}
use Rattle.ac_widen_programs.proofs.Terms.{same_head, match_arguments, match_at, none_swap}
use Rattle.ac_widen_programs.proofs.CallTerms.{call_term}
use Rattle.ac_widen_programs.proofs.Shapes.{left_state, right_state, shape, matched}
use Rattle.ac_widen_programs.proofs.Lawful.{Positions}

-- ---- two programs at a valuation

abbrev left_term : (g : Compared) → Spot → Term
left_term g s = value_at free g.left.trace (left_state g.input) s

abbrev right_term : (g : Compared) → Spot → Term
right_term g s = value_at free g.right.trace (right_state g.input) s

abbrev Alike : Compared → Spot → Spot → Type 0
Alike g s t = Agree g.pairing.swaps (left_term g s) (right_term g t)

moved : (g : Compared) (s s' t t' : Spot) → left_term g s ≡ left_term g s' → right_term g t ≡ right_term g t' → Alike g s t → Alike g s' t'
moved g s s' t t' e i h = subst (λ (z : Term). Agree g.pairing.swaps (left_term g s') z) i (subst (λ (z : Term). Agree g.pairing.swaps z (right_term g t)) e h)

-- what is read has the term of what it is read from
resolved_spot : (x : Execution) (a b : Placed x) (c : Cell) (o : Option _) → IsResolved x a c o b → b.spot ≡ resolved c o
resolved_spot x a b c None h = h.spot_is
resolved_spot x a b c (Some w) h = h.spot_is

read_term : (x : Execution) (state : Cell → Term) (a b : Placed x) → ResolvesTo x a b → value_at free x.trace state a.spot ≡ value_at free x.trace state b.spot
read_term x state a b r =
    reads_value free x.trace state a.spot r.0.0 r.0.1 r.0.2 ∙ ap (value_at free x.trace state) (sym (resolved_spot x a b r.0.0 (source r.0.0 r.0.1) r.1))

one_number : (swaps : Symbol → Bool) → ((f : Symbol) → swaps f ≡ true → ⊥) → (order : Order) (f : Symbol) (k l : ℕ) → ArgumentsMeet swaps order f k l → k ≡ l
one_number swaps never Keep f k l h = h
one_number swaps never Swap f k l h = absurd (never f h.0)

-- steps lead from agreeing terms to agreeing terms
steps_alike : (g : Compared) → ((f : Symbol) → g.pairing.swaps f ≡ true → ⊥) → (order : Order) (a a' : Placed g.left) (b b' : Placed g.right) → Alike g a.spot b.spot → StepsTo g order a b a' b' → Alike g a'.spot b'.spot
steps_alike g never order a a' b b' h (inl (e, r, s)) = moved g a.spot a'.spot b.spot b'.spot (read_term g.left (left_state g.input) a a' r) (ap (right_term g) (sym s.spot_is)) h
steps_alike g never order a a' b b' h (inr (inl (e, n, r, s))) = moved g a.spot a'.spot b.spot b'.spot (ap (left_term g) (sym s.spot_is)) (read_term g.right (right_state g.input) b b' r) h
steps_alike g never order a a' b b' h (inr (inr c)) =
    let l = call_term g.pairing.left g.params g.left g.describes_left (left_state g.input) a a' c.left c.left_number c.left_argument in
    let r = call_term g.pairing.right g.params g.right g.describes_right (right_state g.input) b b' c.right c.right_number c.right_argument in
    let k : c.left_number ≡ c.right_number = one_number g.pairing.swaps never order c.left.symbol c.left_number c.right_number c.meet in
    let calls : Agree g.pairing.swaps (Apply c.left.symbol (terms l.arguments)) (Apply c.right.symbol (terms r.arguments)) =
    subst (λ (z : Term). Agree g.pairing.swaps (Apply c.left.symbol (terms l.arguments)) z) r.call (subst (λ (z : Term). Agree g.pairing.swaps z (right_term g b.spot)) l.call h) in
    let all = match_arguments g.pairing.swaps (λ f t. never f t) c.left.symbol c.right.symbol (terms l.arguments) (terms r.arguments) (agree_matches g.pairing.swaps calls) in
    matches_agree g.pairing.swaps (match_at g.pairing.swaps l.arguments r.arguments all c.left_number (left_term g a'.spot) (right_term g b'.spot) l.argument (ap (slice_get r.arguments) k ∙ r.argument))

-- agreeing terms are no mismatch
alike_match : (g : Compared) (a : Placed g.left) (b : Placed g.right) → Alike g a.spot b.spot → ¬ (IsReader g.left a) → ¬ (IsReader g.right b) → IsMatch g a b
alike_match g a b h l r =
    matched g a b (same_head g.pairing.swaps (left_term g a.spot) (right_term g b.spot) (agree_matches g.pairing.swaps h)) (shape g.left (left_state g.input) a l) (shape g.right (right_state g.input) b r)

-- ---- points

same_parts : (xs ys cs ds : List ℤ) → length xs ≡ length ys → xs ++ cs ≡ ys ++ ds → (xs ≡ ys) × (cs ≡ ds)
same_parts [] [] cs ds l e = (refl, e)
same_parts [] (y ∷ ys) cs ds l e = absurd cc
same_parts (x ∷ xs) [] cs ds l e = absurd cc
same_parts (x ∷ xs) (y ∷ ys) cs ds l e =
    let n : length xs ≡ length ys = cc in
    let h : x ≡ y = cc in
    let t : xs ++ cs ≡ ys ++ ds = cc in
    let r = same_parts xs ys cs ds n t in
    ((λ i. h i ∷ r.0 i), r.1)

one_spot : (m : Model) (params : List ℤ) (x : Execution) → Describes m params x → (a b : Placed x) → a.position ≡ b.position → a.at ≡ b.at → a.spot ≡ b.spot
one_spot m params x d a b p q = at_once m params x d b.position b.at a.spot b.spot (subst (λ (z : List ℤ). At x b.position z a.spot) q (subst (λ (z : Position). At x z a.at a.spot) p a.here)) b.here

one_width : (m : Model) (params : List ℤ) (x : Execution) → Describes m params x → (a b : Placed x) → a.position ≡ b.position → length a.at ≡ length b.at
one_width m params x d a b p = at_width m params x d a.position a.at a.spot a.here ∙ ap (coordinate_count m) p ∙ sym (at_width m params x d b.position b.at b.spot b.here)

-- positions at a point name one spot of each program
one_pair : (pair : Pair) (key : Positions) (p params : List ℤ) (c : IsCompared pair params) (a a' : LeftPlaced pair params) (b b' : RightPlaced pair params) → IsPlaced pair key p params a b → IsPlaced pair key p params a' b' → (a.spot ≡ a'.spot) × (b.spot ≡ b'.spot)
one_pair pair key p params c a a' b b' s t =
    let l : a.position ≡ a'.position = s.left_is ∙ sym t.left_is in
    let r : b.position ≡ b'.position = s.right_is ∙ sym t.right_is in
    let e = same_parts params params (a.at ++ b.at) (a'.at ++ b'.at) refl (sym s.point_is ∙ t.point_is) in
    let w = one_width (model_of pair.left pair.context) params (execution pair.left (model_of pair.left pair.context) params) c.left a a' l in
    let f = same_parts a.at a'.at b.at b'.at w e.1 in
    (one_spot (model_of pair.left pair.context) params (execution pair.left (model_of pair.left pair.context) params) c.left a a' l f.0, one_spot (model_of pair.right pair.context) params (execution pair.right (model_of pair.right pair.context) params) c.right b b' r f.1)

-- ---- obligations

abbrev AlikeAt : Pair → Positions → List ℤ → List ℤ → Type 0
AlikeAt pair key p params = (c : IsCompared pair params) (a : LeftPlaced pair params) (b : RightPlaced pair params) → IsPlaced pair key p params a b → Alike (comparison pair params c) a.spot b.spot

-- the elements of outputs
output_spot : (x : Execution) (a : Placed x) (o : ℕ) → a.position ≡ Output o → x.inside o a.at × (a.spot ≡ AtEnd (element o a.at))
unfolding At
output_spot x a o p = subst (λ (z : Position). At x z a.at a.spot) p a.here

outputs_alike : (pair : Pair) (outputs : List ℕ) → ((o : ℕ) → IsAmong o outputs → TermsAgree pair o) → (key : Positions) (p params : List ℤ) → IsOutputPair pair outputs key p → AlikeAt pair key p params
outputs_alike pair outputs h key p params o c a b s =
    let there = o.there in
    let l : a.position ≡ Output o.output = s.left_is ∙ sym there.placed.left_is ∙ o.left_is in
    let r : b.position ≡ Output o.output = s.right_is ∙ sym there.placed.right_is ∙ o.right_is in
    let wide : length a.at ≡ length there.a.at =
    at_width (model_of pair.left pair.context) params (execution pair.left (model_of pair.left pair.context) params) c.left a.position a.at a.spot a.here ∙ ap (coordinate_count (model_of pair.left pair.context)) (s.left_is ∙ sym there.placed.left_is)
    ∙ sym (at_width (model_of pair.left pair.context) there.params (execution pair.left (model_of pair.left pair.context) there.params) there.compared.left there.a.position there.a.at there.a.spot there.a.here) in
    let e = same_parts params there.params (a.at ++ b.at) (there.a.at ++ there.b.at) (c.valuation.each ∙ sym there.compared.valuation.each) (sym s.point_is ∙ there.placed.point_is) in
    let f = same_parts a.at there.a.at b.at there.b.at wide e.1 in
    let one : a.at ≡ b.at = f.0 ∙ o.one_element ∙ sym f.1 in
    let i = output_spot (execution pair.left (model_of pair.left pair.context) params) a o.output l in
    let j = output_spot (execution pair.right (model_of pair.right pair.context) params) b o.output r in
    let g = comparison pair params c in
    moved g (AtEnd (element o.output a.at)) a.spot (AtEnd (element o.output a.at)) b.spot (ap (left_term g) (sym i.1)) (ap (λ (z : List ℤ). right_term g (AtEnd (element o.output z))) one ∙ ap (right_term g) (sym j.1))
    (h o.output o.among params c.valuation a.at i.0.2)

step_base : (pair : Pair) → ((f : Symbol) → swaps_of pair.commutative f ≡ true → ⊥) → (order : Order) (key next : Positions) (p q : List ℤ) (st : IsStepPair pair order key p next q) → ((params : List ℤ) → AlikeAt pair key p params) → AlikeAt pair next q st.params
step_base pair never order key next p q st before c a b s =
    let e = one_pair pair next q st.params st.compared st.a' a st.b' b st.to s in
    let g = comparison pair st.params st.compared in
    let new = steps_alike g never (order_at pair key order) st.a st.a' st.b st.b' (before st.params st.compared st.a st.b st.from) st.steps in
    moved g st.a'.spot a.spot st.b'.spot b.spot (ap (left_term g) e.0) (ap (right_term g) e.1) new

same_valuation : (pair : Pair) (key : Positions) (p ps qs : List ℤ) → length ps ≡ length pair.left.params → length qs ≡ length pair.left.params → (a : LeftPlaced pair ps) (b : RightPlaced pair ps) (a' : LeftPlaced pair qs) (b' : RightPlaced pair qs) → IsPlaced pair key p ps a b → IsPlaced pair key p qs a' b' → ps ≡ qs
same_valuation pair key p ps qs l r a b a' b' s t = (same_parts ps qs (a.at ++ b.at) (a'.at ++ b'.at) (l ∙ sym r) (sym s.point_is ∙ t.point_is)).0

step_alike : (pair : Pair) → ((f : Symbol) → swaps_of pair.commutative f ≡ true → ⊥) → (order : Order) (key next : Positions) (p q : List ℤ) (st : IsStepPair pair order key p next q) → ((params : List ℤ) → AlikeAt pair key p params) → (params : List ℤ) → AlikeAt pair next q params
step_alike pair never order key next p q st before params c a b s =
    let e : st.params ≡ params = same_valuation pair next q st.params params st.compared.valuation.each c.valuation.each st.a' st.b' a b st.to s in
    subst (λ (z : List ℤ). AlikeAt pair next q z) e (step_base pair never order key next p q st before) c a b s

obligations_alike : (pair : Pair) (outputs : List ℕ) (recurrent : Positions → Bool) (template : Positions → List Row) → ((key : Positions) → recurrent key ≡ false) → ((f : Symbol) → swaps_of pair.commutative f ≡ true → ⊥) → ((o : ℕ) → IsAmong o outputs → TermsAgree pair o)
    → (order : Positions → Order) (key : Positions) (p : List ℤ) → Obligation (setting pair outputs recurrent template) order key p → (params : List ℤ) → AlikeAt pair key p params
obligations_alike pair outputs recurrent template none never h order key p (output _ _ o) params = outputs_alike pair outputs h key p params o
obligations_alike pair outputs recurrent template none never h order next q (step key p _ _ before st) params = step_alike pair never (order key) key next p q st (obligations_alike pair outputs recurrent template none never h order key p before) params
obligations_alike pair outputs recurrent template none never h order key q (hull _ _ m ws ps bs t instance found broken combines apart) params = let f : true ≡ false = sym t ∙ none key in absurd cc

pub agreeing_terms_have_no_mismatch : AgreeingTermsHaveNoMismatch
agreeing_terms_have_no_mismatch pair outputs recurrent template none plain h order (key, p, o, m) =
    let a = obligations_alike pair outputs recurrent template none (none_swap pair.commutative plain) h order key p o m.there.params m.there.compared m.there.a m.there.b m.there.placed in
    m.mismatch.apart (alike_match (comparison pair m.there.params m.there.compared) m.there.a m.there.b a m.mismatch.left m.mismatch.right)
