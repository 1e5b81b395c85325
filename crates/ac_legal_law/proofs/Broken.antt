-- A point meets a question of two assignments if and only if the order is broken between its two instances.
use Rattle.std.proofs.Common.{◌≡◌, ◌↔◌, inl, inr, ℕ, List, [], ◌∷◌, ◌++◌, map, length, take, sym, ap, ◌∙◌, subst, ℤ, Some}
use Rattle.std.specs.Prelude.{slice_get, Option}
use Rattle.std.proofs.Math.Seq.{take-append_seam}
use Rattle.ac_forms.specs.Affine.{Affine}
use Rattle.ac_forms.specs.PieceMembership.{IsInSome}
use Rattle.ac_forms.specs.Renaming.{renamed, renamed_row, picked}
use Rattle.ac_forms.specs.Rows.{Meets, AreRowsOver}
use Rattle.ac_forms.specs.declared.row.Row.{Row}
use Rattle.ac_syntax.specs.ReadyPrograms.{ReadyProgram, ReadyAll, FitParts}
use Rattle.ac_syntax.specs.Source.{Writer, Stands}
use Rattle.ac_syntax.specs.Trace.{Entry, trace_of}
use Rattle.ac_syntax.specs.declared.tree.Cond.{Cond}
use Rattle.ac_syntax.specs.declared.tree.Program.{Program}
use Rattle.ac_syntax.proofs.LastWriters.{stands_contains}
use Rattle.ac_syntax.proofs.Places.{contains_stands}
use Rattle.ac_poly_quotients.specs.QuotientRows.{quotients_at}
use Rattle.ac_poly.specs.Coordinates.{width, coordinates, coordinates_at, coordinates_of, levels_before}
use Rattle.ac_poly.specs.Lower.{lowered_body}
use Rattle.ac_poly.specs.ModelMeaning.{values_at}
use Rattle.ac_poly.specs.Model.{model_of}
use Rattle.ac_poly.specs.declared.types.StmtModel.{StmtModel}
use Rattle.ac_poly.proofs.Bodies.{counters_told}
use Rattle.ac_poly.proofs.Columns.{has_columns}
use Rattle.ac_poly.proofs.Whole.{has_instances, has_cells, has_nodes, has_order, has_context}
use Rattle.ac_legal_law.specs.BrokenOrders.{IsBroken, BreaksBetween, counters_in}
use Rattle.ac_legal_law.specs.OrderQuestions.{first_columns, second_columns, first_counters, second_counters, clashes, late, joined, order_questions}
use Rattle.ac_legal_law.specs.Schedules.{forms_of, time_of, IsValuationOf}
use Rattle.ac_legal_law.specs.EntryTimes.{IsSmaller}
use Rattle.ac_legal_law.proofs.Choices.{in_joined, in_renamed, values-renamed, front_meets, picked_first, picked_second, picked_first_counters, picked_second_counters}
use Rattle.ac_legal_law.proofs.ClashRows.{Shown, clashes_hold}
use Rattle.ac_legal_law.proofs.Lateness.{late_holds}

module _ (p : Program) (context : Cond) (times : List (List Affine)) (ready : ReadyProgram p) (fit : FitParts (length p.params) 0 context.parts) (params : List ℤ) (each : length params ≡ length p.params) where
  -- the coordinates of an entry
  abbrev coords : Writer → List ℤ
  coords w = coordinates (model_of p context) params w.entry

  -- its counters, with its quotients behind them
  counted : (w : Writer) (s : StmtModel) → Stands (trace_of p.body params) w → slice_get (model_of p context).stmts w.entry.stmt ≡ Some s → length w.entry.counters ≡ length s.loops
  counted w s st at =
      counters_told p.body params w.entry s
      (subst (λ (n : ℕ). ReadyAll n 0 p.body) (sym each) ready.body)
      (subst (λ (n : ℕ). slice_get (lowered_body n p.body) w.entry.stmt ≡ Some s) (sym each) at)
      (stands_contains st)

  abbrev quotients : Writer → StmtModel → List ℤ
  quotients w s = quotients_at s.quots (params ++ w.entry.counters)

  coords-are : (w : Writer) (s : StmtModel) → slice_get (model_of p context).stmts w.entry.stmt ≡ Some s → coords w ≡ w.entry.counters ++ quotients w s
  coords-are w s at = ap (λ (o : Option StmtModel). coordinates_of o params w.entry.counters) at

  -- the parts of a question that two instances decide
  abbrev between : ℕ → StmtModel → ℕ → StmtModel → List (List Row)
  between i s j u =
      joined (levels_before (length p.params) i s j u)
      (joined (clashes (first_columns (length p.params) s) (second_columns (length p.params) s u) s u)
      (late (map (renamed (first_counters (length p.params) s)) (forms_of times i)) (map (renamed (second_counters (length p.params) s u)) (forms_of times j)) []))

  shown : (w : Writer) (s : StmtModel) (q : List ℤ) → Stands (trace_of p.body params) w → slice_get (model_of p context).stmts w.entry.stmt ≡ Some s → q ≡ params ++ (coords w) → Shown q w.entry s
  shown w s q st at e =
      let c = stands_contains st in
      let k = has_nodes p context ready params w.entry s each at c in
      subst (λ (r : List ℤ). Shown r w.entry s) (sym e) (record { cell = has_cells p context ready params w.entry s each at c; count = k.0; nodes = k.1 })

  -- at two entries
  at_entries : (w u : Writer) (s t : StmtModel) → Stands (trace_of p.body params) w → Stands (trace_of p.body params) u
      → slice_get (model_of p context).stmts w.entry.stmt ≡ Some s → slice_get (model_of p context).stmts u.entry.stmt ≡ Some t
      → length (coords w) ≡ width s → length (coords u) ≡ width t
      → IsInSome Meets (between w.entry.stmt s u.entry.stmt t) (params ++ ((coords w) ++ (coords u))) ↔ IsBroken (time_of times params) (trace_of p.body params) w u
  at_entries w u s t sw su aw au lw lu =
      let point = params ++ ((coords w) ++ (coords u)) in
      let ks = first_columns (length p.params) s in
      let ls = second_columns (length p.params) s t in
      let kt = first_counters (length p.params) s in
      let lt = second_counters (length p.params) s t in
      let f1 : picked ks point ≡ params ++ (coords w) = picked_first params (coords w) (coords u) (length p.params) s each lw in
      let f2 : picked ls point ≡ params ++ (coords u) = picked_second params (coords w) (coords u) (length p.params) s t each lw lu in
      let order = has_order p context ready params w u s t each aw au sw su in
      let clash = clashes_hold ks ls point w.entry u.entry s t (shown w s (picked ks point) sw aw f1) (shown u t (picked ls point) su au f2) in
      let qs = quotients w s in
      let rs = quotients u t in
      let g1 : picked kt point ≡ params ++ w.entry.counters = ap (λ (xs : List ℤ). picked kt (params ++ (xs ++ coords u))) (coords-are w s aw) ∙ picked_first_counters params w.entry.counters qs (coords u) (length p.params) s each (counted w s sw aw) in
      let g2 : picked lt point ≡ params ++ u.entry.counters = ap (λ (ys : List ℤ). picked lt (params ++ (coords w ++ ys))) (coords-are u t au) ∙ picked_second_counters params (coords w) u.entry.counters rs (length p.params) s t each lw (counted u t su au) in
      let lates = late_holds (map (renamed kt) (forms_of times w.entry.stmt)) (map (renamed lt) (forms_of times u.entry.stmt)) [] point in
      let v1 : values_at point (map (renamed kt) (forms_of times w.entry.stmt)) ≡ time_of times params w.entry = values-renamed kt (forms_of times w.entry.stmt) point ∙ ap (λ (r : List ℤ). values_at r (forms_of times w.entry.stmt)) g1 in
      let v2 : values_at point (map (renamed lt) (forms_of times u.entry.stmt)) ≡ time_of times params u.entry = values-renamed lt (forms_of times u.entry.stmt) point ∙ ap (λ (r : List ℤ). values_at r (forms_of times u.entry.stmt)) g2 in
      let lev = in_joined (levels_before (length p.params) w.entry.stmt s u.entry.stmt t) (joined (clashes ks ls s t) (late (map (renamed kt) (forms_of times w.entry.stmt)) (map (renamed lt) (forms_of times u.entry.stmt)) [])) point in
      let two = in_joined (clashes ks ls s t) (late (map (renamed kt) (forms_of times w.entry.stmt)) (map (renamed lt) (forms_of times u.entry.stmt)) []) point in (
        (λ m.
            let a = lev.0 m in
            let b = two.0 a.1 in
            record {
              conflict = record { first = sw; second = su; earlier = order.1 a.0; clash = clash.0 b.0 };
              late = λ k. (lates.0 b.1).1 (subst (λ (z : List ℤ × List ℤ). IsSmaller z.0 z.1) (λ i. (sym v1 i, sym v2 i)) k);
            }),
        (λ x. lev.1 (
          order.0 x.conflict.earlier,
          two.1 (
            clash.1 x.conflict.clash,
            lates.1 (tt, λ k. x.late (subst (λ (z : List ℤ × List ℤ). IsSmaller z.0 z.1) (λ i. (v1 i, v2 i)) k)),
          ),
        )),
      )

  -- at the coordinates of two instances
  moved : (w u : Writer) (s t : StmtModel) (i j : ℕ) (xs ys : List ℤ) → w.entry.stmt ≡ i → (coords w) ≡ xs → u.entry.stmt ≡ j → (coords u) ≡ ys
      → IsInSome Meets (between i s j t) (params ++ (xs ++ ys)) → IsInSome Meets (between w.entry.stmt s u.entry.stmt t) (params ++ ((coords w) ++ (coords u)))
  moved w u s t i j xs ys a b c d m =
      subst (λ (z : ℕ × ℕ × List ℤ × List ℤ). IsInSome Meets (between z.0 s z.1 t) (params ++ (z.2 ++ z.3))) (λ k. (sym a k, sym c k, sym b k, sym d k)) m

  moved_back : (w u : Writer) (s t : StmtModel) (i j : ℕ) (xs ys : List ℤ) → w.entry.stmt ≡ i → (coords w) ≡ xs → u.entry.stmt ≡ j → (coords u) ≡ ys
      → IsInSome Meets (between w.entry.stmt s u.entry.stmt t) (params ++ ((coords w) ++ (coords u))) → IsInSome Meets (between i s j t) (params ++ (xs ++ ys))
  moved_back w u s t i j xs ys a b c d m =
      subst (λ (z : ℕ × ℕ × List ℤ × List ℤ). IsInSome Meets (between z.0 s z.1 t) (params ++ (z.2 ++ z.3))) (λ k. (a k, c k, b k, d k)) m

  -- an instance that a piece has, in the trace
  instance : (xs : List ℤ) (i : ℕ) (s : StmtModel) → slice_get (model_of p context).stmts i ≡ Some s → length xs ≡ width s → IsInSome Meets s.pieces (params ++ xs)
      → (w : Writer) × Stands (trace_of p.body params) w × (w.entry.stmt ≡ i) × ((coords w) ≡ xs)
  instance xs i s at l m =
      let e = (has_instances p context ready params xs i s each at l).0 m in
      let w = contains_stands (trace_of p.body params) e.0 e.1 in
      (w.0, w.1, ap (λ (x : Entry). x.stmt) w.2 ∙ e.2, ap (λ (x : Entry). coordinates (model_of p context) params x) w.2 ∙ e.3)

  in_piece : (w : Writer) (xs : List ℤ) (i : ℕ) (s : StmtModel) → Stands (trace_of p.body params) w → slice_get (model_of p context).stmts i ≡ Some s → length xs ≡ width s → w.entry.stmt ≡ i → (coords w) ≡ xs → IsInSome Meets s.pieces (params ++ xs)
  in_piece w xs i s st at l a b = (has_instances p context ready params xs i s each at l).1 (w.entry, stands_contains st, a, b)

  named : (w : Writer) (i : ℕ) (s : StmtModel) → w.entry.stmt ≡ i → slice_get (model_of p context).stmts i ≡ Some s → slice_get (model_of p context).stmts w.entry.stmt ≡ Some s
  named w i s e at = subst (λ (k : ℕ). slice_get (model_of p context).stmts k ≡ Some s) (sym e) at

  long : (w : Writer) (xs : List ℤ) (s : StmtModel) → (coords w) ≡ xs → length xs ≡ width s → length (coords w) ≡ width s
  long w xs s e l = ap length e ∙ l

  -- the counters come first among the coordinates
  counters-first : (w : Writer) (s : StmtModel) (xs : List ℤ) → Stands (trace_of p.body params) w → slice_get (model_of p context).stmts w.entry.stmt ≡ Some s → coords w ≡ xs → w.entry.counters ≡ counters_in s xs
  counters-first w s xs st at e =
      let whole : w.entry.counters ++ quotients w s ≡ xs = sym (coords-are w s at) ∙ e in
      sym (take-append_seam w.entry.counters (quotients w s)) ∙ (λ i. take (counted w s st at i) (whole i))

  coords-from : (w : Writer) (s : StmtModel) (xs : List ℤ) → slice_get (model_of p context).stmts w.entry.stmt ≡ Some s → w.entry.counters ≡ counters_in s xs → coordinates_at s params (counters_in s xs) ≡ xs → coords w ≡ xs
  coords-from w s xs at c e = coords-are w s at ∙ ap (coordinates_at s params) c ∙ e

  coords-at : (w : Writer) (s : StmtModel) (xs : List ℤ) → Stands (trace_of p.body params) w → slice_get (model_of p context).stmts w.entry.stmt ≡ Some s → coords w ≡ xs → coordinates_at s params (counters_in s xs) ≡ xs
  coords-at w s xs st at e = ap (coordinates_at s params) (sym (counters-first w s xs st at e)) ∙ sym (coords-are w s at) ∙ e

  -- between the instances of two entries of whose coordinates it is so
  pub breaks_between : (w v : Writer) (s u : StmtModel) (i j : ℕ) (xs ys : List ℤ) → IsValuationOf p context params → IsBroken (time_of times params) (trace_of p.body params) w v
      → slice_get (model_of p context).stmts i ≡ Some s → slice_get (model_of p context).stmts j ≡ Some u → w.entry.stmt ≡ i → coords w ≡ xs → v.entry.stmt ≡ j → coords v ≡ ys
      → BreaksBetween p context times params i s xs j u ys
  breaks_between w v s u i j xs ys valuation x at bt a b c d =
      let aw = named w i s a at in
      let av = named v j u c bt in
      record {
        first_coords = coords-at w s xs x.conflict.first aw b;
        second_coords = coords-at v u ys x.conflict.second av d;
        breaks = record {
          valuation = valuation;
          first = w;
          second = v;
          first_is = record { stmt = a; counters = counters-first w s xs x.conflict.first aw b };
          second_is = record { stmt = c; counters = counters-first v u ys x.conflict.second av d };
          broken = x;
        };
      }

  pub broken : (xs ys : List ℤ) (i j : ℕ) (s u : StmtModel) → slice_get (model_of p context).stmts i ≡ Some s → slice_get (model_of p context).stmts j ≡ Some u
      → length xs ≡ width s → length ys ≡ width u
      → IsInSome Meets (order_questions (model_of p context) times i s j u) (params ++ (xs ++ ys)) ↔ BreaksBetween p context times params i s xs j u ys
  broken xs ys i j s u at bt lx ly =
      let point = params ++ (xs ++ ys) in
      let ks = first_columns (length p.params) s in
      let ls = second_columns (length p.params) s u in
      let firsts = map (map (renamed_row ks)) s.pieces in
      let seconds = map (map (renamed_row ls)) u.pieces in
      let over : AreRowsOver (length params) (model_of p context).context = subst (λ (k : ℕ). AreRowsOver k (model_of p context).context) (sym each) (has_columns p context ready fit).context in
      let ctx = front_meets (model_of p context).context params (xs ++ ys) over in
      let holds = has_context p context fit params each in
      let f1 : picked ks point ≡ params ++ xs = picked_first params xs ys (length p.params) s each lx in
      let f2 : picked ls point ≡ params ++ ys = picked_second params xs ys (length p.params) s u each lx ly in
      let one = in_joined ((model_of p context).context ∷ []) (joined firsts (joined seconds (between i s j u))) point in
      let two = in_joined firsts (joined seconds (between i s j u)) point in
      let three = in_joined seconds (between i s j u) point in
      let r1 = in_renamed ks s.pieces point in
      let r2 = in_renamed ls u.pieces point in (
        (λ m.
            let a = one.0 m in
            let b = two.0 a.1 in
            let c = three.0 b.1 in
            let w = instance xs i s at lx (subst (λ (q : List ℤ). IsInSome Meets s.pieces q) f1 (r1.0 b.0)) in
            let v = instance ys j u bt ly (subst (λ (q : List ℤ). IsInSome Meets u.pieces q) f2 (r2.0 c.0)) in
            breaks_between w.0 v.0 s u i j xs ys (record { each = each; context_holds = holds.0 (ctx.0 (elim a.0 [ inl k ↦ k | inr z ↦ absurd z ])) })
            ((at_entries w.0 v.0 s u w.1 v.1 (named w.0 i s w.2 at) (named v.0 j u v.2 bt) (long w.0 xs s w.3 lx) (long v.0 ys u v.3 ly)).0 (moved w.0 v.0 s u i j xs ys w.2 w.3 v.2 v.3 c.1))
            at bt w.2 w.3 v.2 v.3),
        (λ x.
            let y = x.breaks in
            let w = y.first in
            let v = y.second in
            let sw = y.broken.conflict.first in
            let sv = y.broken.conflict.second in
            let aw = named w i s y.first_is.stmt at in
            let av = named v j u y.second_is.stmt bt in
            let cw = coords-from w s xs aw y.first_is.counters x.first_coords in
            let cv = coords-from v u ys av y.second_is.counters x.second_coords in
            one.1 (
              inl (ctx.1 (holds.1 y.valuation.context_holds)),
              two.1 (
                r1.1 (subst (λ (q : List ℤ). IsInSome Meets s.pieces q) (sym f1) (in_piece w xs i s sw at lx y.first_is.stmt cw)),
                three.1 (
                  r2.1 (subst (λ (q : List ℤ). IsInSome Meets u.pieces q) (sym f2) (in_piece v ys j u sv bt ly y.second_is.stmt cv)),
                  moved_back w v s u i j xs ys y.first_is.stmt cw y.second_is.stmt cv ((at_entries w v s u sw sv aw av (long w xs s cw lx) (long v ys u cv ly)).1 y.broken),
                ),
              ),
            )),
      )
