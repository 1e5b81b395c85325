-- Programs that are the same but for the places of their parts in the text.
use Rattle.std.specs.Prelude.{◌≡◌, List, [], ◌∷◌, map}
use Rattle.ac_syntax.specs.declared.tree.Place.{Place}
use Rattle.ac_syntax.specs.declared.tree.Quot.{Quot}
use Rattle.ac_syntax.specs.declared.tree.IndexExpr.{IndexExpr}
use Rattle.ac_syntax.specs.declared.tree.Comparison.{Comparison}
use Rattle.ac_syntax.specs.declared.tree.Cond.{Cond}
use Rattle.ac_syntax.specs.declared.tree.Array.{Array}
use Rattle.ac_syntax.specs.declared.tree.Program.{Program}
use Rattle.ac_syntax.specs.declared.tree.Stmt.{Stmt, Row_of-Stmt, end_of-Stmt, more_of-Stmt}
use Rattle.ac_syntax.specs.declared.tree.Stmt.TheVariants.{For, For', If, If', Assign}
use Rattle.ac_syntax.specs.declared.tree.Value.{Value, Row_of-Value, end_of-Value, more_of-Value}
use Rattle.ac_syntax.specs.declared.tree.Value.TheVariants.{Number, Access, Call, Call'}

-- the place that stands for all
abbrev pub nowhere : Place
nowhere = record { at = 0 }

abbrev pub quot_without_place : Quot → Quot
quot_without_place q = record { coef = q.coef; konst = q.konst; params = q.params; iters = q.iters; div = q.div; place = nowhere }

abbrev pub form_without_place : IndexExpr → IndexExpr
form_without_place e = record { konst = e.konst; params = e.params; iters = e.iters; quots = map quot_without_place e.quots; place = nowhere }

abbrev pub forms_without_places : List IndexExpr → List IndexExpr
forms_without_places forms = map form_without_place forms

abbrev pub comparison_without_place : Comparison → Comparison
comparison_without_place c = record { form = form_without_place c.form; rel = c.rel }

abbrev pub parts_without_places : List Comparison → List Comparison
parts_without_places parts = map comparison_without_place parts

unfoldable mutual
  pub value_without_places : Value → Value
  value_without_places (Number e) = Number (form_without_place e)
  value_without_places (Access array subs place) = Access array (forms_without_places subs) nowhere
  value_without_places (Call' symbol n args place) = Call symbol (values_without_places args) nowhere

  pub values_without_places : {m : _} → Row_of-Value m → List Value
  values_without_places end_of-Value = []
  values_without_places (more_of-Value v rest) = value_without_places v ∷ values_without_places rest

abbrev pub condition_without_places : Cond → Cond
condition_without_places c = record { parts = parts_without_places c.parts }

unfoldable mutual
  pub stmt_without_places : Stmt → Stmt
  stmt_without_places (For' iter start cond step n body place) = For iter (form_without_place start) (condition_without_places cond) step (stmts_without_places body) nowhere
  stmt_without_places (If' cond n taken m other place) = If (condition_without_places cond) (stmts_without_places taken) (stmts_without_places other) nowhere
  stmt_without_places (Assign array subs v place) = Assign array (forms_without_places subs) (value_without_places v) nowhere

  pub stmts_without_places : {m : _} → Row_of-Stmt m → List Stmt
  stmts_without_places end_of-Stmt = []
  stmts_without_places (more_of-Stmt s rest) = stmt_without_places s ∷ stmts_without_places rest

abbrev pub array_without_places : Array → Array
array_without_places a = record { name = a.name; extents = forms_without_places a.extents; kind = a.kind }

-- each place is the same
abbrev pub program_without_places : Program → Program
program_without_places p = record {
  name = p.name;
  params = p.params;
  arrays = map array_without_places p.arrays;
  slots = p.slots;
  body = map stmt_without_places p.body;
  context = condition_without_places p.context;
  commutative = p.commutative;
  outputs = p.outputs;
}

-- the same name, parameters, arrays, statements, context, commutative names and outputs
abbrev pub IsSameButPlaces : Program → Program → Type 0
IsSameButPlaces p q = program_without_places p ≡ program_without_places q
