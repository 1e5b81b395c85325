-- The tokens of lines.
use Rattle.std.specs.Prelude.{List, [], ◌∷◌, ◌++◌, length, codes}
use Rattle.std.proofs.Common.{◌≡◌, ℕ, ◌+◌, sym, ◌∙◌, ap, append_assoc}
use Rattle.std.proofs.lemmas.List.{append-nil}
use Rattle.ac_lex.specs.Lexemes.{Lexeme}
use Rattle.ac_parse_roundtrip.specs.Items.{Item, blank, lexemes, space, mark, word, line, otherwise}
use Rattle.ac_parse_roundtrip.proofs.ItemSequences.{after, lexemes-append}
use Rattle.ac_parse_roundtrip.proofs.TokenTerminals.{mark_at, word_at}

-- the place of the line below
abbrev pub below : ℕ → List ℕ → List Item → ℕ
below at indent is = after (at + length indent) is + 1

pub line_then : (at : ℕ) (indent : List ℕ) (is rest : List Item) → lexemes at (line indent is ++ rest) ≡ lexemes (at + length indent) is ++ lexemes (below at indent is) rest
line_then at indent is rest =
    ap (λ js. lexemes (at + length indent) js) (append_assoc is (blank (10 ∷ []) ∷ []) rest) ∙ lexemes-append (at + length indent) is (blank (10 ∷ []) ∷ rest)

pub line_alone : (at : ℕ) (indent : List ℕ) (is : List Item) → lexemes at (line indent is) ≡ lexemes (at + length indent) is
line_alone at indent is = lexemes-append (at + length indent) is (blank (10 ∷ []) ∷ []) ∙ append-nil (lexemes (at + length indent) is)

-- ---- assignments

abbrev pub assign_items : List ℕ → List Item → List Item → List Item
assign_items name ss vs = word name ∷ ss ++ space ∷ mark (codes "=") ∷ space ∷ vs ++ mark (codes ";") ∷ []

module _ (at : ℕ) (name : List ℕ) (ss vs : List Item) where
  abbrev pub becomes_place : ℕ
  becomes_place = after (at + length name) ss + 1

  abbrev pub value_place : ℕ
  value_place = becomes_place + 1 + 1

  pub assign_tokens : lexemes at (assign_items name ss vs)
      ≡ word_at at name ∷ lexemes (at + length name) ss ++ (mark_at becomes_place (codes "=") ∷ lexemes value_place vs ++ mark_at (after value_place vs) (codes ";") ∷ [])
  assign_tokens =
      ap (λ js. lexemes at (word name ∷ js)) (append_assoc ss (space ∷ mark (codes "=") ∷ space ∷ vs) (mark (codes ";") ∷ []))
      ∙ (ap (λ ts. word_at at name ∷ ts) (lexemes-append (at + length name) ss (space ∷ mark (codes "=") ∷ space ∷ vs ++ mark (codes ";") ∷ []))
      ∙ ap (λ ts. word_at at name ∷ lexemes (at + length name) ss ++ (mark_at becomes_place (codes "=") ∷ ts)) (lexemes-append value_place vs (mark (codes ";") ∷ [])))

-- ---- loops

abbrev pub loop_items : List ℕ → List Item → List Item → List Item → List Item
loop_items iter fs cs ss =
    word (codes "for") ∷ space ∷ mark (codes "(") ∷ word (codes "int") ∷ space ∷ word iter ∷ space ∷ mark (codes "=") ∷ space ∷ fs
    ++ mark (codes ";") ∷ space ∷ cs ++ mark (codes ";") ∷ space ∷ ss
    ++ mark (codes ")") ∷ space ∷ mark (codes "{") ∷ []

module _ (at : ℕ) (iter : List ℕ) (fs cs ss : List Item) where
  abbrev pub open_place : ℕ
  open_place = at + 3 + 1

  abbrev pub int_place : ℕ
  int_place = open_place + 1

  abbrev pub iter_place : ℕ
  iter_place = int_place + 3 + 1

  abbrev pub start_becomes : ℕ
  start_becomes = iter_place + length iter + 1

  abbrev pub start_place : ℕ
  start_place = start_becomes + 1 + 1

  abbrev pub cond_place : ℕ
  cond_place = after start_place fs + 1 + 1

  abbrev pub step_place : ℕ
  step_place = after cond_place cs + 1 + 1

  abbrev pub close_place : ℕ
  close_place = after step_place ss

  abbrev pub loop_front : List Lexeme → List Lexeme
  loop_front ts =
      word_at at (codes "for") ∷ mark_at open_place (codes "(") ∷ word_at int_place (codes "int") ∷ word_at iter_place iter ∷ mark_at start_becomes (codes "=") ∷ ts

  abbrev loop_close : List Item
  loop_close = mark (codes ")") ∷ space ∷ mark (codes "{") ∷ []

  abbrev loop_step : List Item
  loop_step = mark (codes ";") ∷ space ∷ ss ++ loop_close

  abbrev loop_cond : List Item
  loop_cond = mark (codes ";") ∷ space ∷ cs ++ loop_step

  abbrev semicolon_at : ℕ → List Lexeme → List Lexeme
  semicolon_at place ts = mark_at place (codes ";") ∷ ts

  nest : fs ++ mark (codes ";") ∷ space ∷ cs ++ mark (codes ";") ∷ space ∷ ss ++ loop_close ≡ fs ++ loop_cond
  nest =
      append_assoc (fs ++ mark (codes ";") ∷ space ∷ cs) (mark (codes ";") ∷ space ∷ ss) loop_close ∙ append_assoc fs (mark (codes ";") ∷ space ∷ cs) loop_step

  pub loop_tokens : lexemes at (loop_items iter fs cs ss)
      ≡ loop_front (lexemes start_place fs ++ semicolon_at (after start_place fs) (lexemes cond_place cs ++ semicolon_at (after cond_place cs)
      (lexemes step_place ss ++ (mark_at close_place (codes ")") ∷ mark_at (close_place + 1 + 1) (codes "{") ∷ []))))
  loop_tokens =
      ap (λ js. loop_front (lexemes start_place js)) nest
      ∙ (ap (λ ts. loop_front ts) (lexemes-append start_place fs loop_cond)
      ∙ (ap (λ ts. loop_front (lexemes start_place fs ++ semicolon_at (after start_place fs) ts)) (lexemes-append cond_place cs loop_step)
      ∙ ap (λ ts. loop_front (lexemes start_place fs ++ semicolon_at (after start_place fs) (lexemes cond_place cs ++ semicolon_at (after cond_place cs) ts)))
      (lexemes-append step_place ss loop_close)))

-- ---- branches

abbrev pub branch_items : List Item → List Item
branch_items cs = word (codes "if") ∷ space ∷ mark (codes "(") ∷ cs ++ mark (codes ")") ∷ space ∷ mark (codes "{") ∷ []

module _ (at : ℕ) (cs : List Item) where
  abbrev pub test_open : ℕ
  test_open = at + 2 + 1

  abbrev pub test_place : ℕ
  test_place = test_open + 1

  abbrev pub test_close : ℕ
  test_close = after test_place cs

  pub branch_tokens : lexemes at (branch_items cs)
      ≡ word_at at (codes "if") ∷ mark_at test_open (codes "(") ∷ lexemes test_place cs ++ (mark_at test_close (codes ")") ∷ mark_at (test_close + 1 + 1) (codes "{") ∷ [])
  branch_tokens =
      ap (λ ts. word_at at (codes "if") ∷ mark_at test_open (codes "(") ∷ ts) (lexemes-append test_place cs (mark (codes ")") ∷ space ∷ mark (codes "{") ∷ []))

-- ---- lines with what stands below them

abbrev pub close_line : List ℕ → List Item
close_line indent = line indent (mark (codes "}") ∷ [])

pub enclosing_tokens : (at : ℕ) (indent : List ℕ) (is js : List Item) → lexemes at (line indent is ++ js ++ close_line indent)
    ≡ lexemes (at + length indent) is ++ (lexemes (below at indent is) js ++ mark_at (after (below at indent is) js + length indent) (codes "}") ∷ [])
enclosing_tokens at indent is js =
    ap (λ ks. lexemes at ks) (append_assoc (line indent is) js (close_line indent))
    ∙ (line_then at indent is (js ++ close_line indent)
    ∙ ap (λ ts. lexemes (at + length indent) is ++ ts) (lexemes-append (below at indent is) js (close_line indent)
    ∙ ap (λ ts. lexemes (below at indent is) js ++ ts) (line_alone (after (below at indent is) js) indent (mark (codes "}") ∷ []))))

module _ {A : Type 0} where
  headed : (es cs ss us : List A) (c d e o : A) → (es ++ c ∷ (cs ++ d ∷ (ss ++ e ∷ o ∷ []))) ++ us ≡ (es ++ (c ∷ cs ++ d ∷ ss)) ++ e ∷ o ∷ us
  headed es cs ss us c d e o =
      (append_assoc es (c ∷ cs ++ d ∷ (ss ++ e ∷ o ∷ [])) us
      ∙ ap (λ xs. es ++ c ∷ xs) (append_assoc cs (d ∷ ss ++ e ∷ o ∷ []) us ∙ ap (λ xs. cs ++ d ∷ xs) (append_assoc ss (e ∷ o ∷ []) us)))
      ∙ sym (append_assoc es (c ∷ cs ++ d ∷ ss) (e ∷ o ∷ us) ∙ ap (λ xs. es ++ c ∷ xs) (append_assoc cs (d ∷ ss) (e ∷ o ∷ us)))

  tested : (cs us : List A) (c o : A) → (cs ++ c ∷ o ∷ []) ++ us ≡ cs ++ c ∷ o ∷ us
  tested cs us c o = append_assoc cs (c ∷ o ∷ []) us

  chosen : (cs bs us : List A) (c o r : A) → (cs ++ c ∷ o ∷ []) ++ (bs ++ r ∷ us) ≡ cs ++ (c ∷ (o ∷ bs ++ r ∷ []) ++ us)
  chosen cs bs us c o r = append_assoc cs (c ∷ o ∷ []) (bs ++ r ∷ us) ∙ ap (λ xs. cs ++ c ∷ o ∷ xs) (sym (append_assoc bs (r ∷ []) us))

-- the tokens of a block that is closed at a place
abbrev pub block_at : ℕ → List Lexeme → ℕ → List Lexeme
block_at from ts to = mark_at from (codes "{") ∷ ts ++ mark_at to (codes "}") ∷ []

module _ (at : ℕ) (indent iter : List ℕ) (fs cs ss bs : List Item) where
  abbrev pub loop_at : ℕ
  loop_at = at + length indent

  abbrev pub loop_below : ℕ
  loop_below = below at indent (loop_items iter fs cs ss)

  abbrev pub loop_end : ℕ
  loop_end = after loop_below bs + length indent

  abbrev pub loop_header : List Lexeme
  loop_header =
      word_at (int_place loop_at iter fs cs ss) (codes "int") ∷ word_at (iter_place loop_at iter fs cs ss) iter ∷ mark_at (start_becomes loop_at iter fs cs ss) (codes "=")
      ∷ lexemes (start_place loop_at iter fs cs ss) fs
      ++ (mark_at (after (start_place loop_at iter fs cs ss) fs) (codes ";") ∷ lexemes (cond_place loop_at iter fs cs ss) cs
      ++ mark_at (after (cond_place loop_at iter fs cs ss) cs) (codes ";") ∷ lexemes (step_place loop_at iter fs cs ss) ss)

  pub loop_whole : lexemes at (line indent (loop_items iter fs cs ss) ++ bs ++ close_line indent)
      ≡ word_at loop_at (codes "for") ∷ mark_at (open_place loop_at iter fs cs ss) (codes "(") ∷ loop_header
      ++ mark_at (close_place loop_at iter fs cs ss) (codes ")") ∷ block_at (close_place loop_at iter fs cs ss + 1 + 1) (lexemes loop_below bs) loop_end
  loop_whole =
      let us = lexemes loop_below bs ++ mark_at loop_end (codes "}") ∷ [] in
      enclosing_tokens at indent (loop_items iter fs cs ss) bs
      ∙ (ap (λ ts. ts ++ us) (loop_tokens loop_at iter fs cs ss)
      ∙ ap (λ ts. loop_front loop_at iter fs cs ss ts)
      (headed (lexemes (start_place loop_at iter fs cs ss) fs) (lexemes (cond_place loop_at iter fs cs ss) cs) (lexemes (step_place loop_at iter fs cs ss) ss) us
      (mark_at (after (start_place loop_at iter fs cs ss) fs) (codes ";")) (mark_at (after (cond_place loop_at iter fs cs ss) cs) (codes ";"))
      (mark_at (close_place loop_at iter fs cs ss) (codes ")")) (mark_at (close_place loop_at iter fs cs ss + 1 + 1) (codes "{"))))

module _ (at : ℕ) (indent : List ℕ) (cs bs : List Item) where
  abbrev pub branch_at : ℕ
  branch_at = at + length indent

  abbrev pub branch_below : ℕ
  branch_below = below at indent (branch_items cs)

  abbrev pub branch_end : ℕ
  branch_end = after branch_below bs + length indent

  pub branch_whole : lexemes at (line indent (branch_items cs) ++ bs ++ close_line indent)
      ≡ word_at branch_at (codes "if") ∷ mark_at (test_open branch_at cs) (codes "(") ∷ lexemes (test_place branch_at cs) cs
      ++ mark_at (test_close branch_at cs) (codes ")") ∷ block_at (test_close branch_at cs + 1 + 1) (lexemes branch_below bs) branch_end
  branch_whole =
      let us = lexemes branch_below bs ++ mark_at branch_end (codes "}") ∷ [] in
      enclosing_tokens at indent (branch_items cs) bs
      ∙ (ap (λ ts. ts ++ us) (branch_tokens branch_at cs)
      ∙ ap (λ ts. word_at branch_at (codes "if") ∷ mark_at (test_open branch_at cs) (codes "(") ∷ ts)
      (tested (lexemes (test_place branch_at cs) cs) us (mark_at (test_close branch_at cs) (codes ")")) (mark_at (test_close branch_at cs + 1 + 1) (codes "{"))))

  abbrev pub else_at : ℕ
  else_at = branch_end + 1 + 1

  abbrev pub else_below : ℕ
  else_below = below (after branch_below bs) indent otherwise

  abbrev pub else_end : List Item → ℕ
  else_end es = after else_below es + length indent

  pub else_whole : (es : List Item) → lexemes at (line indent (branch_items cs) ++ bs ++ (line indent otherwise ++ es) ++ close_line indent)
      ≡ word_at branch_at (codes "if") ∷ mark_at (test_open branch_at cs) (codes "(") ∷ lexemes (test_place branch_at cs) cs
      ++ (mark_at (test_close branch_at cs) (codes ")") ∷ block_at (test_close branch_at cs + 1 + 1) (lexemes branch_below bs) branch_end
      ++ word_at else_at (codes "else") ∷ block_at (else_at + 4 + 1) (lexemes else_below es) (else_end es))
  else_whole es =
      let rest = line indent otherwise ++ es ++ close_line indent in
      let behind = word_at else_at (codes "else") ∷ block_at (else_at + 4 + 1) (lexemes else_below es) (else_end es) in
      ap (λ is. lexemes at is)
      (append_assoc (line indent (branch_items cs) ++ bs) (line indent otherwise ++ es) (close_line indent) ∙ append_assoc (line indent (branch_items cs)) bs rest)
      ∙ (line_then at indent (branch_items cs) (bs ++ rest)
      ∙ (ap (λ ts. lexemes branch_at (branch_items cs) ++ ts)
      (lexemes-append branch_below bs rest ∙ ap (λ ts. lexemes branch_below bs ++ ts) (enclosing_tokens (after branch_below bs) indent otherwise es))
      ∙ (ap (λ ts. ts ++ (lexemes branch_below bs ++ mark_at branch_end (codes "}") ∷ behind)) (branch_tokens branch_at cs)
      ∙ ap (λ ts. word_at branch_at (codes "if") ∷ mark_at (test_open branch_at cs) (codes "(") ∷ ts)
      (chosen (lexemes (test_place branch_at cs) cs) (lexemes branch_below bs) behind (mark_at (test_close branch_at cs) (codes ")"))
      (mark_at (test_close branch_at cs + 1 + 1) (codes "{")) (mark_at branch_end (codes "}"))))))
