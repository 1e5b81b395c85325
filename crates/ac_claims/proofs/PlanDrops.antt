-- A plan that is taken apart.
use Rattle.std.proofs.Common.{◌≡◌, ℕ, ℤ, ◌+◌, ◌*◌, ◌<◌, suc, List, [], ◌∷◌, ◌++◌, length, slice_index_or, slice_set, Option, refl, sym, ap, ◌∙◌, subst, arith, append-nil, length-append}
use Rattle.std.specs.Prelude.{IfSome, Vec}
use Rattle.std.specs.List.{flat_map}
use Rattle.std.specs.Vec.{with_item}
use Rattle.std.specs.declared.alloc.Global.{Global}
use Rattle.std.proofs.lemmas.List.Concat.{flat_map-append}
use Rattle.ac_forms.specs.Affine.{Affine}
use Rattle.ac_syntax.specs.declared.tree.Order.{Order}
use Rattle.ac_claims.specs.PlanNodes.{nodes_behind, nodes_of, node_count, waiting, waiting_in, waiting_of, left_over}
use Rattle.ac_claims.specs.declared.types.Plan.{Plan}
use Rattle.ac_claims.specs.declared.types.PlanNext.{PlanNext, Residue, Go, Row_of-Plan, end_of-Plan, more_of-Plan, items-the_row-Plan, items_hidden-the_row-Plan-0}
use Rattle.ac_claims.specs.declared.types.PlanNext.TheBlock.{hidden-the_row-Plan-0}
use Rattle.ac_claims.proofs.NodeSteps.{go_behind, residue_behind, row_nodes}

row_waiting : {w : _} (all : Row_of-Plan w) → waiting_in all ≡ waiting_of (items-the_row-Plan w all)
row_waiting end_of-Plan = refl
row_waiting (more_of-Plan s t more) = ap (λ (ts : List Plan). 1 + 2 * length ts + waiting t) (row_nodes more)

waiting_residue : (x : PlanNext) (m : ℤ) (f : Affine) (kids : Vec Plan Global) → x ≡ Residue m f kids → waiting x ≡ waiting_of kids.items
waiting_residue x m f kids is = ap waiting is ∙ row_waiting (hidden-the_row-Plan-0 kids) ∙ ap waiting_of (items_hidden-the_row-Plan-0 kids)

waiting_go : (x : PlanNext) (order : Order) (cases : Vec Plan Global) → x ≡ Go order cases → waiting x ≡ waiting_of cases.items
waiting_go x order cases is = ap waiting is ∙ row_waiting (hidden-the_row-Plan-0 cases) ∙ ap waiting_of (items_hidden-the_row-Plan-0 cases)

-- ---- into a branch

taken_by : (o : Option (PlanNext × PlanNext)) (x : PlanNext) (n : ℕ) → waiting x ≡ n → IfSome o (λ next. left_over next.0 next.1 < 2 + n) → IfSome o (λ next. left_over next.0 next.1 < 2 + waiting x)
taken_by o x n e h = subst (λ (k : ℕ). IfSome o (λ next. left_over next.0 next.1 < 2 + k)) (sym e) h

pub take_residue : (o : Option (PlanNext × PlanNext)) (x : PlanNext) (m : ℤ) (f : Affine) (kids : Vec Plan Global) → x ≡ Residue m f kids → IfSome o (λ next. left_over next.0 next.1 < 2 + waiting_of kids.items) → IfSome o (λ next. left_over next.0 next.1 < 2 + waiting x)
take_residue o x m f kids is h = taken_by o x (waiting_of kids.items) (waiting_residue x m f kids is) h

pub take_go : (o : Option (PlanNext × PlanNext)) (x : PlanNext) (order : Order) (cases : Vec Plan Global) → x ≡ Go order cases → IfSome o (λ next. left_over next.0 next.1 < 2 + waiting_of cases.items) → IfSome o (λ next. left_over next.0 next.1 < 2 + waiting x)
take_go o x order cases is h = taken_by o x (waiting_of cases.items) (waiting_go x order cases is) h

left_by : (o : Option (PlanNext × PlanNext)) (x rest : PlanNext) (ts : List Plan) → nodes_behind x ≡ flat_map nodes_of ts → IfSome o (λ next. left_over next.0 next.1 < 2 * (1 + node_count ts) + waiting rest) → IfSome o (λ next. left_over next.0 next.1 < left_over x rest)
left_by o x rest ts e h = subst (λ (all : List Plan). IfSome o (λ next. left_over next.0 next.1 < 2 * (1 + length all) + waiting rest)) (sym e) h

pub leave_residue : (o : Option (PlanNext × PlanNext)) (x rest : PlanNext) (m : ℤ) (f : Affine) (kids : Vec Plan Global) → x ≡ Residue m f kids → IfSome o (λ next. left_over next.0 next.1 < 2 * (1 + node_count kids.items) + waiting rest) → IfSome o (λ next. left_over next.0 next.1 < left_over x rest)
leave_residue o x rest m f kids is h = left_by o x rest kids.items (residue_behind x m f kids is) h

pub leave_go : (o : Option (PlanNext × PlanNext)) (x rest : PlanNext) (order : Order) (cases : Vec Plan Global) → x ≡ Go order cases → IfSome o (λ next. left_over next.0 next.1 < 2 * (1 + node_count cases.items) + waiting rest) → IfSome o (λ next. left_over next.0 next.1 < left_over x rest)
leave_go o x rest order cases is h = left_by o x rest cases.items (go_behind x order cases is) h

-- ---- the first plan of a list is gone into

entered : (xs : List Plan) (p d : Plan) (below rest : PlanNext) → 0 < length xs → below ≡ d.next → d ≡ slice_index_or xs 0 d → p.next ≡ rest → 2 * (1 + length (nodes_behind below)) + waiting_of (slice_set xs 0 p) < 2 * (1 + node_count xs) + waiting rest
entered [] p d below rest h eb ed ep = absurd (omega (arith, h))
entered (x ∷ xs) p d below rest h eb ed ep =
    let a : length (nodes_behind below) ≡ length (nodes_behind x.next) = ap (λ (y : PlanNext). length (nodes_behind y)) (eb ∙ ap (λ (t : Plan). t.next) ed) in
    let b : node_count (x ∷ xs) ≡ suc (length (nodes_behind x.next)) + node_count xs = length-append (nodes_of x) (flat_map nodes_of xs) in
    let c : waiting p.next ≡ waiting rest = ap waiting ep in
    omega (arith, a, b, c)

pub enter_less : (v : Vec Plan Global) (p d : Plan) (below rest : PlanNext) (order : Order) → 0 < length v.items → below ≡ d.next → d ≡ slice_index_or v.items 0 d → p.next ≡ rest → left_over below (Go order (with_item v 0 p)) < 2 * (1 + node_count v.items) + waiting rest
enter_less v p d below rest order h eb ed ep =
    let a = entered v.items p d below rest h eb ed ep in
    let b = waiting_go (Go order (with_item v 0 p)) order (with_item v 0 p) refl in
    omega (arith, a, b)

-- ---- the last one is taken

count_push : (xs : List Plan) (t : Plan) → node_count (xs ++ t ∷ []) ≡ node_count xs + (1 + length (nodes_behind t.next))
count_push xs t =
    let a : node_count (xs ++ t ∷ []) ≡ length (flat_map nodes_of xs ++ flat_map nodes_of (t ∷ [])) = ap length (flat_map-append nodes_of xs (t ∷ [])) in
    let b = length-append (flat_map nodes_of xs) (flat_map nodes_of (t ∷ [])) in
    let c : length (flat_map nodes_of (t ∷ [])) ≡ length (nodes_of t) = ap length (append-nil (nodes_of t)) in
    omega (arith, a, b, c)

waiting_last : (xs : List Plan) (t : Plan) → 0 < length xs → waiting_of (xs ++ t ∷ []) ≡ waiting_of xs + 2 * (1 + length (nodes_behind t.next))
waiting_last [] t h = absurd (omega (arith, h))
waiting_last (x ∷ xs) t h = omega (arith, count_push xs t)

pub last_less : (ts : List Plan) (v : Vec Plan Global) (t : Plan) (order : Order) → ts ≡ v.items ++ t ∷ [] → 0 < length v.items → left_over t.next (Go order v) < 2 + waiting_of ts
last_less ts v t order e h =
    let a : waiting_of ts ≡ waiting_of v.items + 2 * (1 + length (nodes_behind t.next)) = ap waiting_of e ∙ waiting_last v.items t h in
    let b = waiting_go (Go order v) order v refl in
    omega (arith, a, b)
