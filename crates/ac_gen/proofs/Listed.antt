-- Lists that grow by one.
use Rattle.std.proofs.Common.{◌≡◌, ◌+◌, ◌++◌, ◌<◌, ℕ, zero, suc, List, [], ◌∷◌, length, drop, map, refl, ap, sym, ◌∙◌, arith, slice_index_or}
use Rattle.std.proofs.Math.Seq.{drop-length}
use Rattle.std.proofs.lemmas.List.{append_assoc, append-nil, drop_more}
use Rattle.std.proofs.lemmas.List.Sums.{sum_by-drop_more}
use Rattle.ac_syntax.specs.declared.tree.Stmt.{Stmt}
use Rattle.ac_gen.specs.PipelineLoops.{copying, shifted, statement}
use Rattle.ac_gen.specs.Pipelines.{local, locals, target, margin, loops, pipeline, shifted_each}
use Rattle.ac_gen.specs.declared.draws.Stage.{Stage}

-- one more local
pub locals_more : (j n : ℕ) → locals j (n + 1) ≡ locals j n ++ local (j + n) ∷ []
locals_more j zero = ap (λ k. local k ∷ []) (let e : j ≡ j + 0 = omega arith in e)
locals_more j (suc n) =
    let e : suc j + n ≡ j + suc n = omega arith in
    let more : suc n + 1 ≡ suc (n + 1) = omega arith in
    ap (locals j) more ∙ ap (λ ls. local j ∷ ls) (locals_more (suc j) n ∙ ap (λ k. locals (suc j) n ++ local k ∷ []) e)

pub locals_next : (n : ℕ) → locals 0 n ++ local n ∷ [] ≡ locals 0 (n + 1)
locals_next n = let e : n ≡ 0 + n = omega arith in ap (λ k. locals 0 n ++ local k ∷ []) e ∙ sym (locals_more 0 n)

-- the loops of the stages from the number i on
abbrev pub loops_from : ℕ → ℕ → List Stage → List Stmt
loops_from source i ts = map statement (shifted_each ts (loops source (i + 2) ts))

-- the loop of the stage with the number i
abbrev pub loop_at : ℕ → ℕ → Stage → List Stage → Stmt
loop_at source i t rest = statement (shifted t.shift (copying (target (i + 2) rest) t.function source t.reach (margin rest)))

-- one more loop of those that are left
pub loops_more : (ts : List Stage) (i source : ℕ) (d : Stage) (seen : List Stmt) → i < length ts
    → (seen ++ loop_at source i (slice_index_or ts i d) (drop (i + 1) ts) ∷ []) ++ loops_from (i + 2) (i + 1) (drop (i + 1) ts) ≡ seen ++ loops_from source i (drop i ts)
loops_more ts i source d seen h =
    let t = slice_index_or ts i d in
    let rest = drop (i + 1) ts in
    let e : i + 1 + 2 ≡ suc (i + 2) = omega arith in
    append_assoc seen (loop_at source i t rest ∷ []) (loops_from (i + 2) (i + 1) rest)
    ∙ ap (λ n. seen ++ loop_at source i t rest ∷ map statement (shifted_each rest (loops (i + 2) n rest))) e
    ∙ ap (λ us. seen ++ loops_from source i us) (sym (drop_more ts i d h))

-- what the stages behind the number i read ahead
pub margin_more : (ts : List Stage) (i : ℕ) (d : Stage) → i < length ts → margin (drop i ts) ≡ (slice_index_or ts i d).reach + margin (drop (i + 1) ts)
margin_more ts i d h = sum_by-drop_more (λ t. t.reach) ts i d h

-- none are left at the end
pub loops_end : (ts : List Stage) (source i : ℕ) (seen : List Stmt) → seen ++ loops_from source i (drop (length ts) ts) ≡ seen
loops_end ts source i seen = ap (λ us. seen ++ loops_from source i us) (drop-length ts) ∙ append-nil seen

length_loops : (source next : ℕ) (ts : List Stage) → length (shifted_each ts (loops source next ts)) ≡ length ts
length_loops source next [] = refl
length_loops source next (t ∷ ts) = ap suc (length_loops next (suc next) ts)

-- there is a loop for each stage
pub length_shifted : (ts : List Stage) → length (shifted_each ts (pipeline ts)) ≡ length ts
length_shifted ts = length_loops 0 2 ts
