-- From the first rule that is broken to the answer.
use Rattle.std.proofs.Common.{◌≡◌, ℕ, suc, ◌+◌, ◌<◌, List, [], ◌∷◌, ◌++◌, map, drop, get_or, length, refl, ap, sym, ◌∙◌, Option, Some, None, append_assoc, drop-cons, add-one}
use Rattle.std.specs.Prelude.{Ok, Err}
use Rattle.ac_syntax.specs.declared.tree.Program.{Program}
use Rattle.ac_parse_grammar.specs.declared.tree.File.{File}
use Rattle.ac_parse_exprs.specs.declared.fault.Broken.{Broken}
use Rattle.ac_parse_rules.specs.declared.fault.RuleFault.{RuleFault}
use Rattle.ac_parse_rules.specs.declared.fault.RuleFault.TheVariants as fault
use Rattle.ac_parse_grammar.specs.declared.tree.Word.{Word}
use Rattle.ac_parse_grammar.specs.declared.tree.Pragma.{Pragma}
use Rattle.ac_parse_exprs.specs.declared.scope.Entry.{Entry}
use Rattle.ac_parse_exprs.specs.Meanings.{declared_meaning}
use Rattle.ac_parse_exprs.specs.Values.{array_number}
use Rattle.ac_parse_rules.specs.Files.{IsAnswer, file_broken, program_of, broken_of, line_words, output_words, output_numbers, output_line, arrays_under, body_under, context_under, commutative_words, program_under}
use Rattle.ac_parse_rules.specs.Declarations.{param_names, slots_from}
use Rattle.ac_syntax.specs.declared.tree.Array.{Array}
use Rattle.ac_syntax.specs.declared.tree.Slot.{Slot}
use Rattle.ac_syntax.specs.declared.tree.Stmt.{Stmt}
use Rattle.ac_syntax.specs.declared.tree.Cond.{Cond}

pub answer_fault : (file : File) (f : RuleFault) (b : Broken) → broken_of f ≡ Some b → file_broken file ≡ Some b → IsAnswer file (Err f)
answer_fault file (fault.NotAffine place) b h e = e ∙ sym h
answer_fault file (fault.Undeclared place) b h e = e ∙ sym h
answer_fault file (fault.Misused place) b h e = e ∙ sym h
answer_fault file (fault.Duplicate place) b h e = e ∙ sym h
answer_fault file (fault.Endless place) b h e = e ∙ sym h
answer_fault file (fault.Limit which place) b h e = e ∙ sym h
answer_fault file (fault.Memory e') b h e = tt

pub answer_program : (file : File) (program : Program) → file_broken file ≡ None → program ≡ program_of file → IsAnswer file (Ok program)
answer_program file program h e = (h, e)

numbers_both : (names : List Entry) (xs ys : List Word) → output_numbers names (xs ++ ys) ≡ output_numbers names xs ++ output_numbers names ys
numbers_both names [] ys = refl
numbers_both names (x ∷ xs) ys = ap (λ ns. array_number (declared_meaning names x.name) ∷ ns) (numbers_both names xs ys)

-- one line further
pub outputs_turn : (names : List Entry) (ps : List Pragma) (i : ℕ) (p : Pragma) (all new whole : List ℕ) → i < length ps → p ≡ get_or ps i p
    → new ≡ all ++ output_numbers names (line_words p) → all ++ output_numbers names (output_words (drop i ps)) ≡ whole
    → new ++ output_numbers names (output_words (drop (i + 1) ps)) ≡ whole
outputs_turn names ps i p all new whole h g e k =
    let d : drop i ps ≡ p ∷ drop (i + 1) ps = rw (add-one) (drop-cons ps i p h ∙ ap (λ x. x ∷ drop (suc i) ps) (sym g)) in
    ap (λ xs. xs ++ output_numbers names (output_words (drop (i + 1) ps))) e
    ∙ append_assoc all (output_numbers names (line_words p)) (output_numbers names (output_words (drop (i + 1) ps)))
    ∙ ap (λ xs. all ++ xs) (sym (numbers_both names (line_words p) (output_words (drop (i + 1) ps))))
    ∙ ap (λ xs. all ++ output_numbers names (output_words xs)) (sym d) ∙ k

-- the program of its parts
pub made : (names : List Entry) (file : File) (n : List ℕ) (ps : List (List ℕ)) (rs : List Array) (ss : List Slot) (b : List Stmt) (cx : Cond) (cm : List (List ℕ)) (o : Option (List ℕ))
    → n ≡ file.name.name → ps ≡ param_names file.params → rs ≡ arrays_under names file → ss ≡ slots_from file.params 0 0 → b ≡ body_under names file → cx ≡ record { parts = context_under names file }
    → cm ≡ map (λ (word : Word). word.name) (commutative_words file.pragmas) → o ≡ output_line names file.pragmas
    → record { name = n; params = ps; arrays = rs; slots = ss; body = b; context = cx; commutative = cm; outputs = o } ≡ program_under names file
made names file n ps rs ss b cx cm o e1 e2 e3 e4 e5 e6 e7 e8 = rw (e1, e2, e3, e4, e5, e6, e7, e8) refl
