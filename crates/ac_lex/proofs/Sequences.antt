-- Steps that are determined by the bytes make one sequence at most, and one first fault, and never both.
use Rattle.std.proofs.Common.{◌≡◌, ℕ, ◌<◌, List, [], ◌∷◌, ◌++◌, length, refl, sym, ◌∙◌, ap, subst, arith}
use Rattle.ac_lex.specs.Lexemes.{Lexeme}
use Rattle.ac_lex.specs.TextPieces.{Why}
use Rattle.ac_lex.specs.Tokens.{Sequence, the_end, next, FirstFault, here, later}

-- at most one step or one fault stands at a place
pub record IsDetermined (Step : List ℕ → List ℕ → List ℕ → List Lexeme → Type 0) (Fault : List ℕ → List ℕ → Why → ℕ → Type 0) : Type 0 where
  pub not_empty : (before text rest : List ℕ) (ts : List Lexeme) → Step before text rest ts → 0 < length text
  pub one_step : (before text rest text' rest' : List ℕ) (ts ts' : List Lexeme) → Step before text rest ts → Step before text' rest' ts'
      → text ++ rest ≡ text' ++ rest' → (text ≡ text') × (rest ≡ rest') × (ts ≡ ts')
  pub fault_not_empty : (before bytes : List ℕ) (why : Why) (at : ℕ) → Fault before bytes why at → 0 < length bytes
  pub one_fault : (before bytes : List ℕ) (why why' : Why) (at at' : ℕ) → Fault before bytes why at → Fault before bytes why' at' → (why ≡ why') × (at ≡ at')
  pub not_both : (before text rest : List ℕ) (ts : List Lexeme) (why : Why) (at : ℕ) → Step before text rest ts → Fault before (text ++ rest) why at → ⊥

no_end : (text rest : List ℕ) → 0 < length text → [] ≡ text ++ rest → ⊥
no_end [] rest some e = omega arith
no_end (b ∷ text) rest some e = cc

module _ (Step : List ℕ → List ℕ → List ℕ → List Lexeme → Type 0) (Fault : List ℕ → List ℕ → Why → ℕ → Type 0) (d : IsDetermined Step Fault) where
  one_sequence_at : {before bytes bytes' : List ℕ} {ts us : List Lexeme} → Sequence Step before bytes ts → Sequence Step before bytes' us → bytes ≡ bytes' → ts ≡ us
  one_sequence_at the_end the_end e = refl
  one_sequence_at the_end (next {before} {text} {rest} {tokens} s more) e = absurd (no_end text rest (d.not_empty before text rest tokens s) e)
  one_sequence_at (next {before} {text} {rest} {tokens} s more) the_end e = absurd (no_end text rest (d.not_empty before text rest tokens s) (sym e))
  one_sequence_at (next {before} {text} {rest} {tokens = ts} {more = us} s more) (next {text = text'} {rest = rest'} {tokens = ts'} {more = us'} s' more') e =
      let one = d.one_step before text rest text' rest' ts ts' s s' e in
      let there : Sequence Step (before ++ text) rest' us' = subst (λ l. Sequence Step (before ++ l) rest' us') (sym one.0) more' in
      let same = one_sequence_at more there one.1 in
      ap (λ l. l ++ us) one.2 ∙ ap (λ l. ts' ++ l) same

  pub one_sequence : {before bytes : List ℕ} {ts us : List Lexeme} → Sequence Step before bytes ts → Sequence Step before bytes us → ts ≡ us
  one_sequence one two = one_sequence_at one two refl

  no_fault_at : {before bytes bytes' : List ℕ} {ts : List Lexeme} {why : Why} {at : ℕ} → Sequence Step before bytes ts → FirstFault Step Fault before bytes' why at
      → bytes ≡ bytes' → ⊥
  no_fault_at (the_end {before}) (here {bytes} {why} {at} f) e = let some = d.fault_not_empty before bytes why at f in omega (arith, some, ap length e)
  no_fault_at (the_end {before}) (later {text} {rest} {tokens = ts} s more) e = no_end text rest (d.not_empty before text rest ts s) e
  no_fault_at (next {before} {text} {rest} {tokens = ts} s more) (here {why} {at} f) e =
      d.not_both before text rest ts why at s (subst (λ l. Fault before l why at) (sym e) f)
  no_fault_at (next {before} {text} {rest} {tokens = ts} s more) (later {text = text'} {rest = rest'} {tokens = ts'} {why} {at} s' more') e =
      let one = d.one_step before text rest text' rest' ts ts' s s' e in
      no_fault_at more (subst (λ l. FirstFault Step Fault (before ++ l) rest' why at) (sym one.0) more') one.1

  pub no_fault : {before bytes : List ℕ} {ts : List Lexeme} {why : Why} {at : ℕ} → Sequence Step before bytes ts → FirstFault Step Fault before bytes why at → ⊥
  no_fault one two = no_fault_at one two refl

  one_first_fault_at : {before bytes bytes' : List ℕ} {why why' : Why} {at at' : ℕ} → FirstFault Step Fault before bytes why at
      → FirstFault Step Fault before bytes' why' at' → bytes ≡ bytes' → (why ≡ why') × (at ≡ at')
  one_first_fault_at (here {before} {bytes} {why} {at} f) (here {why = why'} {at = at'} f') e =
      d.one_fault before bytes why why' at at' f (subst (λ l. Fault before l why' at') (sym e) f')
  one_first_fault_at (here {before} {bytes} {why} {at} f) (later {text} {rest} {tokens = ts} s more) e =
      absurd (d.not_both before text rest ts why at s (subst (λ l. Fault before l why at) e f))
  one_first_fault_at (later {before} {text} {rest} {tokens = ts} s more) (here {why} {at} f) e =
      absurd (d.not_both before text rest ts why at s (subst (λ l. Fault before l why at) (sym e) f))
  one_first_fault_at (later {before} {text} {rest} {tokens = ts} s more) (later {text = text'} {rest = rest'} {tokens = ts'} {why = why'} {at = at'} s' more') e =
      let one = d.one_step before text rest text' rest' ts ts' s s' e in
      one_first_fault_at more (subst (λ l. FirstFault Step Fault (before ++ l) rest' why' at') (sym one.0) more') one.1

  pub one_first_fault : {before bytes : List ℕ} {why why' : Why} {at at' : ℕ} → FirstFault Step Fault before bytes why at
      → FirstFault Step Fault before bytes why' at' → (why ≡ why') × (at ≡ at')
  one_first_fault one two = one_first_fault_at one two refl
