-- Terms of a sum that stand behind others, and the lines of a loop and of an else.
use Rattle.std.specs.Prelude.{ℕ, ℤ, Bool, true, List, [], ◌∷◌, ◌++◌, codes, if◌then◌else◌}
use Rattle.std.specs.List.{flat_map}
use Rattle.ac_syntax.specs.Text.{Scope, constant_term, line, deeper, stmt_text, inside, loop_text}
use Rattle.ac_syntax.specs.declared.tree.IndexExpr.{IndexExpr}
use Rattle.ac_syntax.specs.declared.tree.Cond.{Cond}
use Rattle.ac_syntax.specs.declared.tree.Stmt.{Stmt}

abbrev pub plus : Bool → List ℕ
plus any = if any then codes " + " else []

-- each term with ` + ` before it, but for the first of all
abbrev pub continued : Bool → List (List ℕ) → List ℕ
continued any [] = []
continued any (t ∷ ts) = plus any ++ t ++ continued true ts

abbrev pub has_terms : Bool → List (List ℕ) → Bool
has_terms any [] = any
has_terms any (t ∷ ts) = true

-- the constant behind other terms, or 0 where no term stands
abbrev pub ended : Bool → ℤ → List ℕ
ended any c = continued any (constant_term c) ++ (if has_terms any (constant_term c) then [] else codes "0")

abbrev pub else_lines : Scope → List ℕ → List Stmt → List ℕ
else_lines scope indent [] = []
else_lines scope indent (s ∷ other) = line indent (codes "} else {") ++ flat_map (stmt_text scope (deeper indent)) (s ∷ other)

abbrev pub loop_lines : Scope → List ℕ → List ℕ → IndexExpr → Cond → ℤ → List Stmt → List ℕ
loop_lines scope indent iter start cond step body =
    line indent (loop_text scope iter start cond step) ++ flat_map (stmt_text (inside scope iter) (deeper indent)) body ++ line indent (codes "}")
