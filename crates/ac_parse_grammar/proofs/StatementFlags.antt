-- Statements with whether an else that follows would belong to them, and that reading them so is reading them.
use Rattle.std.specs.Prelude.{Bool, true, false, cond, ◌&&◌}
use Rattle.std.proofs.Common.{◌≡◌, ℕ, zero, suc, List, [], ◌∷◌, ◌++◌, refl, ◌∙◌, ap}
use Rattle.ac_lex.specs.Lexemes.{Lexeme}
use Rattle.ac_parse_grammar.specs.declared.terminal.Terminal.{Terminal}
use Rattle.ac_parse_grammar.specs.declared.terminal.Terminal.TheVariants as t
use Rattle.ac_parse_grammar.specs.declared.statements.LoopHeader.{LoopHeader}
use Rattle.ac_parse_grammar.specs.declared.tree.Part.{Part}
use Rattle.ac_parse_grammar.specs.declared.tree.Statement.{Statement}
use Rattle.ac_parse_grammar.specs.ReaderCombinators.{Got, found, stopped, Reader, and_then, ◌>>=◌, ◌>>◌, pure, refuse, peek, front, rest, take, is, expect, by_terminal, many_from}
use Rattle.ac_parse_grammar.specs.Found.{Goes}
use Rattle.ac_parse_grammar.specs.Constructs.{opening}
use Rattle.ac_parse_grammar.specs.Conditions.{cond as condition}
use Rattle.ac_parse_grammar.specs.StatementsReading.{header, assignment, loop_of, branch_of, begins_statement, block, repetition, otherwise, otherwise_by, branch, statement_by, statement_in, statement_inside, statement}

-- statements, and whether the last of them ends in a branch that an else may follow
pub data Ending : Type 0 where
  ending : Bool → List Statement → Ending

abbrev pub left_of : Ending → List Statement
left_of (ending dangling all) = all

abbrev pub closed_by : List Statement → Ending
closed_by all = ending false all

abbrev pub on_ending : Goes Ending
on_ending (ending dangling all) k = dangling && is t.Else k

abbrev pub looped : Lexeme → LoopHeader → Ending → Ending
looped keyword header (ending dangling body) = ending dangling (loop_of keyword header body ∷ [])

abbrev pub branched : Lexeme → List Part → Ending → Ending → Ending
branched keyword parts taken (ending dangling other) = ending dangling (branch_of keyword parts (left_of taken) other ∷ [])

abbrev pub join_ending : Ending → Ending → Ending
join_ending front (ending dangling all) = ending dangling (left_of front ++ all)

-- ---- the readers

abbrev pub loop_inside : Reader Ending → Lexeme → ℕ → Reader Ending
loop_inside inner keyword within = header within >>= (λ header. expect t.Close >> (inner >>= (λ body. pure (looped keyword header body))))

abbrev pub otherwise_flagged_by : Reader Ending → Terminal → Reader Ending
otherwise_flagged_by inner t.Else = take >> inner
otherwise_flagged_by inner _ = pure (ending true [])

unfoldable pub otherwise_flagged : Reader Ending → Reader Ending
otherwise_flagged inner = by_terminal (otherwise_flagged_by inner)

abbrev pub branch_inside : Reader Ending → Lexeme → ℕ → Reader Ending
branch_inside inner keyword within = condition within >>= (λ parts. expect t.Close >> (inner >>= (λ taken. otherwise_flagged inner >>= (λ other. pure (branched keyword parts taken other)))))

abbrev pub flagged_by : ℕ → Reader (List Statement) → Reader Ending → Terminal → Reader Ending
flagged_by room plain inner t.Semicolon = take >> pure (ending false [])
flagged_by room plain inner t.OpenBrace = block room plain >>= (λ all. pure (closed_by all))
flagged_by room plain inner t.For = take >>= (λ keyword. opening t.Open room >>= loop_inside inner keyword)
flagged_by room plain inner t.If = take >>= (λ keyword. opening t.Open room >>= branch_inside inner keyword)
flagged_by room plain inner _ = assignment room >>= (λ all. pure (closed_by all))

unfoldable pub flagged_in : ℕ → Reader (List Statement) → Reader Ending → Reader Ending
flagged_in room plain inner = by_terminal (flagged_by room plain inner)

unfoldable pub flagged_inside : ℕ → Reader Ending
flagged_inside zero = refuse
flagged_inside (suc room) = flagged_in room (statement_inside room) (flagged_inside room)

unfoldable pub flagged : ℕ → Reader Ending
flagged room = flagged_in room (statement_inside room) (flagged_inside room)

-- ---- without the flag

abbrev pub out : Ending → Reader (List Statement)
out e = pure (left_of e)

bind_out : {A : Type 0} (r : Got A) (f : A → Reader Ending) (g : A → Reader (List Statement)) → ((a : A) (ts : List Lexeme) → and_then (f a ts) out ≡ g a ts)
    → and_then (and_then r f) out ≡ and_then r g
bind_out (found a ts) f g same = same a ts
bind_out (stopped w ts) f g same = refl

-- where the flag is not asked for
pub flag_out : (r : Got Ending) (s : Got (List Statement)) (f : Ending → Reader Ending) (g : List Statement → Reader (List Statement))
    → and_then r out ≡ s → ((e : Ending) (ts : List Lexeme) → and_then (f e ts) out ≡ g (left_of e) ts) → and_then (and_then r f) out ≡ and_then s g
flag_out (found e ts) s f g is same = same e ts ∙ ap (λ s. and_then s g) is
flag_out (stopped w ts) s f g is same = ap (λ s. and_then s g) is

closed_out : (r : Got (List Statement)) → and_then (and_then r (λ all. pure (closed_by all))) out ≡ r
closed_out (found all ts) = refl
closed_out (stopped w ts) = refl

looped_out : (keyword : Lexeme) (header : LoopHeader) (e : Ending) (ts : List Lexeme) → and_then (pure (looped keyword header e) ts) out ≡ found (loop_of keyword header (left_of e) ∷ []) ts
looped_out keyword header (ending dangling body) ts = refl

branched_out : (keyword : Lexeme) (parts : List Part) (taken e : Ending) (ts : List Lexeme) → and_then (pure (branched keyword parts taken e) ts) out ≡ found (branch_of keyword parts (left_of taken) (left_of e) ∷ []) ts
branched_out keyword parts taken (ending dangling other) ts = refl

module _ (room : ℕ) (plain : Reader (List Statement)) (inner : Reader Ending) (same : (ts : List Lexeme) → and_then (inner ts) out ≡ plain ts) where
  loop_out : (ts : List Lexeme) → and_then (and_then (take ts) (λ keyword. opening t.Open room >>= loop_inside inner keyword)) out ≡ repetition room plain ts
  unfolding repetition
  loop_out ts =
      bind_out (opening t.Open room (rest ts)) (loop_inside inner (front ts)) _ (λ within us.
      bind_out (header within us) _ _ (λ header us.
      bind_out (expect t.Close us) _ _ (λ _ us.
      flag_out (inner us) (plain us) _ _ (same us) (looped_out (front ts) header))))

  otherwise_out : (ts : List Lexeme) → and_then (otherwise_flagged inner ts) out ≡ otherwise plain ts
  unfolding otherwise_flagged otherwise
  otherwise_out ts = by_head (peek ts)
    where
      by_head : (k : Terminal) → and_then (otherwise_flagged_by inner k ts) out ≡ otherwise_by plain k ts
      by_head t.Else = same (rest ts)
      by_head _ = refl

  branch_out : (ts : List Lexeme) → and_then (and_then (take ts) (λ keyword. opening t.Open room >>= branch_inside inner keyword)) out ≡ branch room plain ts
  unfolding branch
  branch_out ts =
      bind_out (opening t.Open room (rest ts)) (branch_inside inner (front ts)) _ (λ within us.
      bind_out (condition within us) _ _ (λ parts us.
      bind_out (expect t.Close us) _ _ (λ _ us.
      flag_out (inner us) (plain us) _ _ (same us) (λ taken us.
      flag_out (otherwise_flagged inner us) (otherwise plain us) _ _ (otherwise_out us) (branched_out (front ts) parts taken)))))

  in_out : (ts : List Lexeme) → and_then (flagged_in room plain inner ts) out ≡ statement_in room plain ts
  unfolding flagged_in statement_in
  in_out ts = by_head (peek ts)
    where
      by_head : (k : Terminal) → and_then (flagged_by room plain inner k ts) out ≡ statement_by room plain k ts
      by_head t.Semicolon = refl
      by_head t.OpenBrace = closed_out (block room plain ts)
      by_head t.For = loop_out ts
      by_head t.If = branch_out ts
      by_head _ = closed_out (assignment room ts)

pub inside_out : (room : ℕ) (ts : List Lexeme) → and_then (flagged_inside room ts) out ≡ statement_inside room ts
unfolding flagged_inside statement_inside
inside_out zero ts = refl
inside_out (suc room) ts = in_out room (statement_inside room) (flagged_inside room) (inside_out room) ts

pub flagged_out : (room : ℕ) (ts : List Lexeme) → and_then (flagged room ts) out ≡ statement room ts
unfolding flagged statement
flagged_out room ts = in_out room (statement_inside room) (flagged_inside room) (inside_out room) ts

-- ---- { stmt }

pub many_out : (plain : Reader (List Statement)) (inner : Reader Ending) → ((ts : List Lexeme) → and_then (inner ts) out ≡ plain ts) → (n : ℕ) (x : Ending) (ts : List Lexeme)
    → and_then (many_from begins_statement join_ending inner n x ts) out ≡ many_from begins_statement ◌++◌ plain n (left_of x) ts
unfolding many_from
many_out plain inner same zero x ts = refl
many_out plain inner same (suc n) x ts = by_test (begins_statement (peek ts)) (many_out plain inner same n)
  where
    by_item : ((y : Ending) (us : List Lexeme) → and_then (many_from begins_statement join_ending inner n y us) out ≡ many_from begins_statement ◌++◌ plain n (left_of y) us)
        → (e : Ending) (us : List Lexeme) → and_then (many_from begins_statement join_ending inner n (join_ending x e) us) out ≡ many_from begins_statement ◌++◌ plain n (left_of x ++ left_of e) us
    by_item ih (ending dangling all) us = ih (ending dangling (left_of x ++ all)) us

    by_test : (v : Bool) → ((y : Ending) (us : List Lexeme) → and_then (many_from begins_statement join_ending inner n y us) out ≡ many_from begins_statement ◌++◌ plain n (left_of y) us)
        → and_then (cond v (and_then (inner ts) (λ e. many_from begins_statement join_ending inner n (join_ending x e))) (found x ts)) out
        ≡ cond v (and_then (plain ts) (λ all. many_from begins_statement ◌++◌ plain n (left_of x ++ all))) (found (left_of x) ts)
    by_test false ih = refl
    by_test true ih = flag_out (inner ts) (plain ts) _ _ (same ts) (by_item ih)
