-- The name of each rule: its variant's, in lower case.
use Rattle.std.specs.Prelude.{ℕ, List, codes}
use Rattle.ac_cert.specs.declared.types.Rule.{Rule}
use Rattle.ac_cert.specs.declared.types.Rule.TheVariants as rule

abbrev pub name_of : Rule → List ℕ
name_of rule.Text = codes "text"
name_of rule.Point = codes "point"
name_of rule.Coords = codes "coords"
name_of rule.Claim = codes "claim"
name_of rule.Output = codes "output"
name_of rule.Tree = codes "tree"
name_of rule.Add = codes "add"
name_of rule.Cut = codes "cut"
name_of rule.DivScale = codes "divscale"
name_of rule.DivAdd = codes "divadd"
name_of rule.DivMod = codes "divmod"
name_of rule.DivEq = codes "diveq"
name_of rule.Quot = codes "quot"
name_of rule.Floor = codes "floor"
name_of rule.EqCut = codes "eqcut"
name_of rule.Split = codes "split"
name_of rule.Residue = codes "residue"
name_of rule.Go = codes "go"
name_of rule.Absurd = codes "absurd"
name_of rule.Hit = codes "hit"
name_of rule.Number = codes "number"
name_of rule.Initial = codes "initial"
name_of rule.Killed = codes "killed"
name_of rule.End = codes "end"
