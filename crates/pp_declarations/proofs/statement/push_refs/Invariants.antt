use Rattle.std.proofs.Common.{◌≡◌, ◌++◌, map, drop}
use Rattle.pp_declarations.specs.Classes.{plain_class_ref}
use Rattle.pp_declarations.proofs.statement.push_refs.Given as goal

abbrev pub invariant-loop-title : goal.invariant-loop-title
invariant-loop-title l = l.refs ++ map plain_class_ref (drop l.title-index l.titles) ≡ l.initial.refs ++ map plain_class_ref l.titles
