-- The trees of programs.
use Rattle.std.specs.Prelude.{List, [], ◌∷◌, ◌++◌, length, codes, true}
use Rattle.std.specs.List.{flat_map, join_by}
use Rattle.std.proofs.Common.{◌≡◌, ℕ, suc, ◌+◌, refl, sym, ◌∙◌, ap, subst, append_assoc, arith}
use Rattle.std.proofs.lemmas.List.{append-nil}
use Rattle.ac_syntax.specs.declared.tree.Array.{Array}
use Rattle.ac_syntax.specs.declared.tree.Program.{Program}
use Rattle.ac_syntax.specs.Text.{Scope, whole_scope}
use Rattle.ac_lex.specs.Lexemes.{Lexeme}
use Rattle.ac_parse_grammar.specs.declared.tree.File.{File}
use Rattle.ac_parse_grammar.specs.declared.file.Function.{Function}
use Rattle.ac_parse_grammar.specs.TokenWords.{word_of}
use Rattle.ac_parse_grammar.specs.StatementsTrees.{file_of}
use Rattle.ac_parse_grammar.specs.StatementsGrammar.{IsStatements}
use Rattle.ac_parse_grammar.specs.DeclarationsGrammar.{IsRun, no_item, IsParameters, IsDeclarations}
use Rattle.ac_parse_grammar.specs.FileGrammar as g
use Rattle.ac_parse_grammar.specs.FileGrammar.{IsPragma, IsFunction, IsFile}
use Rattle.ac_parse_grammar.proofs.StatementAnswers.{one_file}
use Rattle.ac_parse_roundtrip.specs.Items.{Item, lexemes, space, mark, word, line, slot_items, local_line, stmt, pragma_lines, program}
use Rattle.ac_parse_roundtrip.specs.CanonicalTrees.{Each, IsSlotTree, IsDeclaredTree, IsStatementTree, locals, ArePragmas, IsFileTree}
use Rattle.ac_parse_roundtrip.specs.GrammarPrograms.{HasNames}
use Rattle.ac_parse_roundtrip.specs.TreeRoundTrip.{HaveTrees, HaveNoOtherTrees}
use Rattle.ac_parse_roundtrip.proofs.ItemSequences.{after, lexemes-append, Reads}
use Rattle.ac_parse_roundtrip.proofs.TokenTerminals.{mark_at, word_at, name_is, void_is, open_is, close_is, open_brace_is, close_brace_is}
use Rattle.ac_parse_roundtrip.proofs.Depths.{Deep, same_depth}
use Rattle.ac_parse_roundtrip.proofs.FormTrees.{IsNamedScope}
use Rattle.ac_parse_roundtrip.proofs.Calls.{comma_items}
use Rattle.ac_parse_roundtrip.proofs.Lines.{below, close_line, line_then, line_alone}
use Rattle.ac_parse_roundtrip.proofs.StatementTrees.{higher, StatementsRead, statements_deep}
use Rattle.ac_parse_roundtrip.proofs.DeclarationTrees.{parameters_read, locals_read}
use Rattle.ac_parse_roundtrip.proofs.PragmaTrees.{pragmas_read}

-- ---- the tokens

abbrev head_items : List ℕ → List Item → List Item
head_items name ps = word (codes "void") ∷ space ∷ word name ∷ mark (codes "(") ∷ ps ++ mark (codes ")") ∷ space ∷ mark (codes "{") ∷ []

module _ (at : ℕ) (name : List ℕ) (ls ps ds ss : List Item) where
  abbrev head_at : ℕ
  head_at = after at ls

  abbrev name_at : ℕ
  name_at = head_at + 0 + 4 + 1

  abbrev open_at : ℕ
  open_at = name_at + length name

  abbrev params_at : ℕ
  params_at = open_at + 1

  abbrev close_at : ℕ
  close_at = after params_at ps

  abbrev locals_at : ℕ
  locals_at = below head_at [] (head_items name ps)

  abbrev body_at : ℕ
  body_at = after locals_at ds

  abbrev end_at : ℕ
  end_at = after body_at ss + 0

  abbrev function_tokens : List Lexeme
  function_tokens =
      word_at (head_at + 0) (codes "void") ∷ word_at name_at name ∷ mark_at open_at (codes "(") ∷ lexemes params_at ps
      ++ (mark_at close_at (codes ")") ∷ mark_at (close_at + 1 + 1) (codes "{") ∷ lexemes locals_at ds ++ (lexemes body_at ss ++ mark_at end_at (codes "}") ∷ []))

  file_tokens : lexemes at (ls ++ line [] (head_items name ps) ++ ds ++ ss ++ close_line []) ≡ lexemes at ls ++ function_tokens
  file_tokens =
      let h = line [] (head_items name ps) in
      let e = close_line [] in
      let vs = lexemes locals_at ds ++ (lexemes body_at ss ++ mark_at end_at (codes "}") ∷ []) in
      ap (λ is. lexemes at is) (append_assoc (ls ++ h ++ ds) ss e ∙ (append_assoc (ls ++ h) ds (ss ++ e) ∙ append_assoc ls h (ds ++ (ss ++ e))))
      ∙ (lexemes-append at ls (h ++ (ds ++ (ss ++ e)))
      ∙ ap (λ ts. lexemes at ls ++ ts)
      (line_then head_at [] (head_items name ps) (ds ++ (ss ++ e))
      ∙ (ap (λ ts. lexemes (head_at + 0) (head_items name ps) ++ ts)
      (lexemes-append locals_at ds (ss ++ e) ∙ ap (λ ts. lexemes locals_at ds ++ ts)
      (lexemes-append body_at ss e ∙ ap (λ ts. lexemes body_at ss ++ ts) (line_alone (after body_at ss) [] (mark (codes "}") ∷ []))))
      ∙ ap (λ ts. word_at (head_at + 0) (codes "void") ∷ word_at name_at name ∷ mark_at open_at (codes "(") ∷ ts)
      (ap (λ ts. ts ++ vs) (lexemes-append params_at ps (mark (codes ")") ∷ space ∷ mark (codes "{") ∷ []))
      ∙ append_assoc (lexemes params_at ps) (mark_at close_at (codes ")") ∷ mark_at (close_at + 1 + 1) (codes "{") ∷ []) vs))))

-- ---- the tree

module _ (p : Program) (has : HasNames p) where
  abbrev scope : Scope
  scope = whole_scope p

  named : IsNamedScope scope
  named = record { params = has.params; iters = tt }

  abbrev param_items : List Item
  param_items = join_by (slot_items scope) comma_items p.slots

  abbrev local_items : List Item
  local_items = flat_map (λ (a : Array). local_line scope a.kind a) p.arrays

  abbrev body_items : List Item
  body_items = flat_map (stmt scope (codes "  ")) p.body

  abbrev FileReads : ℕ → Type 0
  FileReads room = Reads (IsFile room) (IsFileTree p) (program p)

  file_read : (room : ℕ) → Reads (IsRun (IsPragma (suc room))) (ArePragmas p) (pragma_lines p)
      → Reads (IsParameters room) (Each (IsSlotTree scope) p.slots) param_items
      → Reads (IsDeclarations room) (Each (IsDeclaredTree scope true) (locals p.arrays)) local_items
      → Reads (IsStatements room) (Each (IsStatementTree scope) p.body) body_items → FileReads (suc room)
  file_read room pragmas params locals statements = record {
    at = λ at.
        let ls = pragma_lines p in
        let ps = param_items in
        let ds = local_items in
        let ss = body_items in
        let x = pragmas.at at in
        let y = params.at (params_at at p.name ls ps ds ss) in
        let z = locals.at (locals_at at p.name ls ps ds ss) in
        let w = statements.at (body_at at p.name ls ps ds ss) in
        let close = close_at at p.name ls ps ds ss in
        let end = end_at at p.name ls ps ds ss in
        let n = word_at (name_at at p.name ls ps ds ss) p.name in
        let function : Function = record { name = word_of n; params = y.0; body = record { locals = z.0; statements = w.0 } } in
        let tree = file_of x.0 function [] in
        let fs = function_tokens at p.name ls ps ds ss in
        let behind : lexemes at ls ++ (fs ++ []) ≡ lexemes at (program p) = ap (λ ts. lexemes at ls ++ ts) (append-nil fs) ∙ sym (file_tokens at p.name ls ps ds ss) in (
          tree,
          subst (λ ts. IsFile (suc room) ts tree) behind
              (g.file x.1 (g.function (mark_at close (codes ")")) (mark_at (close + 1 + 1) (codes "{")) (mark_at end (codes "}"))
              (void_is (head_at at p.name ls ps ds ss + 0)) (name_is (name_at at p.name ls ps ds ss) p.name has.name) (open_is (open_at at p.name ls ps ds ss)) y.1 (close_is close)
              (open_brace_is (close + 1 + 1)) z.1 w.1 (close_brace_is end)) no_item),
          record { name = refl; params = y.2; locals = z.2; body = w.2; pragmas = subst (λ all. ArePragmas p all) (sym (append-nil x.0)) x.2 },
        );
  }

  -- within three constructs there is room for a form in brackets
  abbrev above : ℕ → ℕ
  above room = suc (suc (suc room))

  pub file_deep : Deep (λ room. FileReads (suc (above room)))
  file_deep =
      same_depth (λ room. StatementsRead scope (codes "  ") p.body (above room)) (λ room. FileReads (suc (above room)))
      (λ room r. file_read (above room) (pragmas_read (suc room) p named has.context has.commutative has.outputs) (parameters_read room p named p.slots has.slots)
      (locals_read room scope named p.arrays has.arrays) r)
      (higher (λ room. StatementsRead scope (codes "  ") p.body (suc (suc room))) (higher (λ room. StatementsRead scope (codes "  ") p.body (suc room))
      (higher (StatementsRead scope (codes "  ") p.body) (statements_deep scope (codes "  ") p.body named has.body))))

-- ---- what the tokens of a program have

abbrev file_at : (p : Program) (has : HasNames p) → (room : ℕ) × (file : File) × IsFile room (lexemes 0 (program p)) file × IsFileTree p file
file_at p has =
    let d = file_deep p has in
    let x = (d.holds d.depth (omega arith)).at 0 in (suc (suc (suc (suc d.depth))), x.0, x.1, x.2)

pub have_trees : HaveTrees
have_trees p has = file_at p has

pub have_no_other_trees : HaveNoOtherTrees
have_no_other_trees p has room file other =
    let x = file_at p has in subst (λ f. IsFileTree p f) (one_file (lexemes 0 (program p)) x.1 file (x.0, x.2) (room, other)) x.3
