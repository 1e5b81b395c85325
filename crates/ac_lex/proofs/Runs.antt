-- The run at the front of a text.
use Rattle.std.specs.Prelude.{Bool, true, false, cond, ◌==◌}
use Rattle.std.proofs.Common.{◌≡◌, ℕ, suc, ◌+◌, ◌≤◌, ◌<◌, List, [], ◌∷◌, ◌++◌, length, take, refl, sym, subst, arith}
use Rattle.std.proofs.lemmas.Bool.Decides.{Decides-eqb}
use Rattle.ac_lex.specs.Bytes.{is_digit}
use Rattle.ac_lex.specs.Numerals.{continues, GoesOn, ends, goes, IsRun, from_digit, from_point}
use Rattle.ac_lex.specs.LexerModel.{run_len, pointed_run, run_at}

run_len_most : {before : ℕ} {xs : List ℕ} (ys : List ℕ) → GoesOn before xs → length xs ≤ run_len before (xs ++ ys)
run_len_most ys ends = omega arith
run_len_most ys (goes {before} {b} {bytes = xs} on more) =
    let below : length xs ≤ run_len b (xs ++ ys) = run_len_most ys more in
    subst (λ t. suc (length xs) ≤ cond t (suc (run_len b (xs ++ ys))) 0) (sym on) (omega arith)

run_len_goes : (before : ℕ) (xs : List ℕ) → GoesOn before (take (run_len before xs) xs)
run_len_goes before [] = ends
run_len_goes before (b ∷ xs) = by_test (continues before b) refl (run_len_goes b xs)
  where
    by_test : (t : Bool) → continues before b ≡ t → GoesOn b (take (run_len b xs) xs) → GoesOn before (take (cond t (suc (run_len b xs)) 0) (b ∷ xs))
    by_test true on more = goes on more
    by_test false on more = ends

-- no run at the front is longer
pub run_most : {text : List ℕ} (more : List ℕ) → IsRun text → length text ≤ run_at (text ++ more)
unfolding run_at
run_most more (from_digit {d} {bytes} is on) =
    let below : length bytes ≤ run_len d (bytes ++ more) = run_len_most more on in
    subst (λ t. suc (length bytes) ≤ cond t (1 + run_len d (bytes ++ more)) (cond (d == 46) (pointed_run (bytes ++ more)) 0)) (sym is) (omega arith)
run_most more (from_point {d} {bytes} is on) =
    let below : length bytes ≤ run_len d (bytes ++ more) = run_len_most more on in
    subst (λ t. suc (suc (length bytes)) ≤ cond t (2 + run_len d (bytes ++ more)) 0) (sym is) (omega arith)

-- what is at the front is a run
pub run_is : (bytes : List ℕ) → 0 < run_at bytes → IsRun (take (run_at bytes) bytes)
unfolding run_at
run_is [] some = absurd (omega arith)
run_is (a ∷ bytes) some = by_first (is_digit a) (a == 46) refl refl some
  where
    by_second : (rest : List ℕ) → a ≡ 46 → 0 < pointed_run rest → IsRun (take (pointed_run rest) (a ∷ rest))
    by_second [] point some = absurd (omega arith)
    by_second (b ∷ rest) point some = by_test (is_digit b) refl some
      where
        by_test : (t : Bool) → is_digit b ≡ t → 0 < cond t (2 + run_len b rest) 0 → IsRun (take (cond t (2 + run_len b rest) 0) (a ∷ b ∷ rest))
        by_test true is some =
            let n = run_len b rest in let two : suc (suc n) ≡ 2 + n = omega arith in
            subst (λ k. IsRun (take k (a ∷ b ∷ rest))) two (subst (λ c. IsRun (c ∷ b ∷ take n rest)) (sym point) (from_point is (run_len_goes b rest)))
        by_test false is some = absurd (omega arith)

    by_first : (t s : Bool) → is_digit a ≡ t → (a == 46) ≡ s → 0 < cond t (1 + run_len a bytes) (cond s (pointed_run bytes) 0)
        → IsRun (take (cond t (1 + run_len a bytes) (cond s (pointed_run bytes) 0)) (a ∷ bytes))
    by_first true s is at some =
        let n = run_len a bytes in let one : suc n ≡ 1 + n = omega arith in
        subst (λ k. IsRun (take k (a ∷ bytes))) one (from_digit is (run_len_goes a bytes))
    by_first false true is at some = by_second bytes ((Decides-eqb a 46).0 at) some
    by_first false false is at some = absurd (omega arith)

-- no run begins with another byte
pub run_none : (a : ℕ) (bytes : List ℕ) → is_digit a ≡ false → (a == 46) ≡ false → run_at (a ∷ bytes) ≡ 0
unfolding run_at
run_none a bytes no_digit no_point =
    subst (λ t. cond t (1 + run_len a bytes) (cond (a == 46) (pointed_run bytes) 0) ≡ 0) (sym no_digit)
    (subst (λ t. cond t (pointed_run bytes) 0 ≡ 0) (sym no_point) refl)

run_len_fits : (before : ℕ) (xs : List ℕ) → run_len before xs ≤ length xs
run_len_fits before [] = omega arith
run_len_fits before (b ∷ xs) = by_test (continues before b) (run_len_fits b xs)
  where
    by_test : (t : Bool) → run_len b xs ≤ length xs → cond t (suc (run_len b xs)) 0 ≤ suc (length xs)
    by_test true more = omega arith
    by_test false more = omega arith

pub run_fits : (bytes : List ℕ) → run_at bytes ≤ length bytes
unfolding run_at
run_fits [] = omega arith
run_fits (a ∷ bytes) = by_tests (is_digit a) (a == 46) bytes (run_len_fits a bytes)
  where
    pointed_fits : (rest : List ℕ) → pointed_run rest ≤ suc (length rest)
    pointed_fits [] = omega arith
    pointed_fits (b ∷ rest) = by_test (is_digit b) (run_len_fits b rest)
      where
        by_test : (t : Bool) → run_len b rest ≤ length rest → cond t (2 + run_len b rest) 0 ≤ suc (suc (length rest))
        by_test true more = omega arith
        by_test false more = omega arith

    by_tests : (t s : Bool) (rest : List ℕ) → run_len a rest ≤ length rest → cond t (1 + run_len a rest) (cond s (pointed_run rest) 0) ≤ suc (length rest)
    by_tests true s rest more = omega arith
    by_tests false true rest more = pointed_fits rest
    by_tests false false rest more = omega arith
