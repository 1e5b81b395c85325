-- The loops of a pipeline, and a loop that is shifted.
use Rattle.std.specs.Prelude.{ℕ, ℤ, pos, negsuc, ◌+ℤ◌, ◌-ℤ◌, ◌*ℤ◌, List, [], ◌∷◌, ◌++◌, codes, decimal}
use Rattle.ac_syntax.specs.Turns.{innermost}
use Rattle.ac_syntax.specs.declared.tree.Place.{Place}
use Rattle.ac_syntax.specs.declared.tree.IndexExpr.{IndexExpr}
use Rattle.ac_syntax.specs.declared.tree.Rel.TheVariants.{NonNegative}
use Rattle.ac_syntax.specs.declared.tree.Symbol.{Symbol}
use Rattle.ac_syntax.specs.declared.tree.Stmt.{Stmt}
use Rattle.ac_syntax.specs.declared.tree.Stmt.TheVariants as stmt
use Rattle.ac_syntax.specs.declared.tree.Value.TheVariants as value

abbrev pub nowhere : Place
nowhere = record { at = 0 }

-- a constant plus so many times N and so many times the iterators
abbrev pub form : ℤ → ℤ → List ℤ → IndexExpr
form constant times iters = record { konst = constant; params = times ∷ []; iters = iters; quots = []; place = nowhere }

-- `for (int i = start; bound >= 0; i++) target[written] = function(source[read]);`
pub record Loop : Type 0 where
  pub start : IndexExpr
  pub bound : IndexExpr
  pub target : ℕ
  pub written : IndexExpr
  pub function : ℕ
  pub source : ℕ
  pub read : IndexExpr

-- `for (int i = 0; i < N + margin; i++) target[i] = function(source[i + reach]);`
abbrev pub copying : ℕ → ℕ → ℕ → ℕ → ℕ → Loop
copying target function source reach margin = record {
  start = form (pos 0) (pos 0) [];
  bound = form (pos margin -ℤ pos 1) (pos 1) (negsuc 0 ∷ []);
  target = target;
  written = form (pos 0) (pos 0) (pos 1 ∷ []);
  function = function;
  source = source;
  read = form (pos reach) (pos 0) (pos 1 ∷ []);
}

-- with i - s in place of the iterator i
abbrev pub behind : ℕ → IndexExpr → IndexExpr
behind s e = record { konst = e.konst -ℤ (pos s *ℤ innermost e.iters); params = e.params; iters = e.iters; quots = e.quots; place = e.place }

abbrev pub later : ℕ → IndexExpr → IndexExpr
later s e = record { konst = e.konst +ℤ pos s; params = e.params; iters = e.iters; quots = e.quots; place = e.place }

-- the loop shifted by s: its iterator starts s later, and i - s stands for it
abbrev pub shifted : ℕ → Loop → Loop
shifted s l = record {
  start = later s l.start;
  bound = behind s l.bound;
  target = l.target;
  written = behind s l.written;
  function = l.function;
  source = l.source;
  read = behind s l.read;
}

-- f0, f1, f2 and f3
abbrev pub function_symbol : ℕ → Symbol
function_symbol k = record { name = codes "f" ++ decimal k; arity = 1 }

-- the loop as a statement
abbrev pub statement : Loop → Stmt
statement l =
    stmt.For (codes "i") l.start (record { parts = record { form = l.bound; rel = NonNegative } ∷ [] }) (pos 1)
    (stmt.Assign l.target (l.written ∷ []) (value.Call (function_symbol l.function) (value.Access l.source (l.read ∷ []) nowhere ∷ []) nowhere) nowhere ∷ []) nowhere
