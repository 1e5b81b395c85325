-- From exact readers of files to what is answered.
use Rattle.std.specs.Prelude.{Result, Ok, Err, false}
use Rattle.std.proofs.Common.{◌≡◌, ℕ, zero, suc, ◌+◌, arith, List, [], ◌∷◌, ◌++◌, refl, sym, ◌∙◌, subst}
use Rattle.std.proofs.lemmas.List.{append-nil}
use Rattle.ac_lex.specs.Lexemes.{Lexeme}
use Rattle.ac_parse_grammar.specs.declared.tree.File.{File}
use Rattle.ac_parse_grammar.specs.declared.cursor.Stop.{Stop}
use Rattle.ac_parse_grammar.specs.declared.cursor.Stop.TheVariants.{Syntax, Nesting, Memory}
use Rattle.ac_parse_grammar.specs.ReaderCombinators.{Reads, found, peek, front, is}
use Rattle.ac_parse_grammar.specs.Found.{Read, CanGoOn}
use Rattle.ac_parse_grammar.specs.GrammarAnswers.{AtAnyDepth, IsAnswer, IsOnly}
use Rattle.ac_parse_grammar.specs.FileReading.{file}
use Rattle.ac_parse_grammar.specs.FileGrammar as g
use Rattle.ac_parse_grammar.specs.FileGrammar.{IsFile}
use Rattle.ac_parse_grammar.specs.FileAnswers.{place_at, IsAnyFile, IsFileAnswer, IsOnlyFile, told}
use Rattle.ac_parse_grammar.proofs.Answering.{answer, finds}
use Rattle.ac_parse_grammar.proofs.StatementFiles.{file_exact, some_file, on_file, not_end}
use Rattle.ac_parse_grammar.proofs.StatementDeeper.{file_deeper}

no_file : (ts : List Lexeme) (a : File) → IsFile 0 ts a → ⊥
no_file _ _ (g.file b f l) = elim f [ ]

at_end : (a : File) → on_file a (peek []) ≡ false
unfolding is
at_end a = refl

-- nothing is left behind a file
whole : (room : ℕ) (old new : List Lexeme) (a : File) → Read (IsFile room) on_file old new a → IsFile room old a
whole room old [] a r = subst (λ l. IsFile room l a) (sym (r.cut ∙ append-nil r.used)) r.is
whole room old (l ∷ ls) a r = cc (r.ends, not_end l)

any_file : (pre : List Lexeme) → CanGoOn (AtAnyDepth (λ room. IsFile (suc room))) pre → CanGoOn IsAnyFile pre
any_file pre on = (on.0, on.1, (suc on.2.0, on.2.1))

-- a whole file reads as its own front
dead_from : (before bad other : List Lexeme) (a : File) → ((others used left : List Lexeme) (a : File) → peek others ≡ peek bad → AtAnyDepth (λ room. IsFile (suc room)) used a → on_file a (peek left) ≡ false → before ++ others ≡ used ++ left → ⊥)
    → peek other ≡ peek bad → IsAnyFile (before ++ other) a → ⊥
dead_from before bad other a dead same is = by_room is.0 is.1
  where
    by_room : (room : ℕ) → IsFile room (before ++ other) a → ⊥
    by_room zero r = no_file (before ++ other) a r
    by_room (suc room) r = dead other (before ++ other) [] a same (room, r) (at_end a) (sym (append-nil (before ++ other)))

pub file_answer : (room end : ℕ) (old new : List Lexeme) (r : Result File Stop) → Reads (λ a. a) (file (suc room) old) r new → IsFileAnswer (suc room) end old (told r (place_at end new))
file_answer room end old new r h = by_result r (answer (λ room. file (suc room)) (λ room. IsFile (suc room)) on_file file_exact (λ room. file_deeper (suc room)) some_file room old new r h)
  where
    by_result : (r : Result File Stop) → IsAnswer (λ room. IsFile (suc room)) on_file room old r new → IsFileAnswer (suc room) end old (told r (place_at end new))
    by_result (Ok a) x = whole (suc room) old new a x
    by_result (Err Syntax) x = record {
      before = x.before;
      bad = new;
      cut = x.cut;
      at = refl;
      begins = any_file x.before x.first.viable;
      alive = x.alive;
      dead = λ other a same is. dead_from x.before new other a x.first.dead same is;
    }
    by_result (Err Nesting) x = record {
      before = x.before;
      bad = new;
      cut = x.cut;
      at = refl;
      opens = x.opens;
      begins = any_file (x.before ++ front new ∷ []) x.deeper;
      alive = x.alive;
      dead = λ other a same is. x.first.dead other (x.before ++ other) [] a same is (at_end a) (sym (append-nil (x.before ++ other)));
    }
    by_result (Err (Memory fault)) x = tt

pub file_only : (room end : ℕ) (old new : List Lexeme) (r : Result File Stop) → Reads (λ a. a) (file (suc room) old) r new → (a : File) → IsFile (suc room) old a → IsOnlyFile a (told r (place_at end new))
file_only room end old new r h a is =
    by_result r (finds (λ room. file (suc room)) (λ room. IsFile (suc room)) on_file file_exact (λ room. file_deeper (suc room)) some_file room old new r h [] a
    (record { used = old; cut = sym (append-nil old); is = is; ends = at_end a }))
  where
    by_result : (r : Result File Stop) → IsOnly a [] r new → IsOnlyFile a (told r (place_at end new))
    by_result (Ok b) x = x.0
    by_result (Err Syntax) x = x
    by_result (Err Nesting) x = x
    by_result (Err (Memory fault)) x = tt

lift : (more room : ℕ) (ts : List Lexeme) (a : File) → IsFile (suc room) ts a → IsFile (suc (more + room)) ts a
lift zero room ts a r = let same : 0 + room ≡ room = omega arith in subst (λ d. IsFile (suc d) ts a) (sym same) r
lift (suc more) room ts a r = let same : suc more + room ≡ suc (more + room) = omega arith in subst (λ d. IsFile (suc d) ts a) (sym same) ((file_exact (more + room)).up ts a (lift more room ts a r))

-- tokens are one file at most, however deep
pub one_file : (ts : List Lexeme) (a b : File) → IsAnyFile ts a → IsAnyFile ts b → a ≡ b
one_file ts a b x y = by_rooms x.0 y.0 x.1 y.1
  where
    by_rooms : (m n : ℕ) → IsFile m ts a → IsFile n ts b → a ≡ b
    by_rooms zero n x y = absurd (no_file ts a x)
    by_rooms (suc m) zero x y = absurd (no_file ts b y)
    by_rooms (suc m) (suc n) x y =
        let flip : m + n ≡ n + m = omega arith in
        let first : file (suc (n + m)) (ts ++ []) ≡ found a [] = (file_exact (n + m)).complete ts [] a (lift n m ts a x) (at_end a) in
        let second : file (suc (n + m)) (ts ++ []) ≡ found b [] = (file_exact (n + m)).complete ts [] b (subst (λ d. IsFile (suc d) ts b) flip (lift m n ts b y)) (at_end b) in
        let both : found a [] ≡ found b [] = sym first ∙ second in cc (both)
