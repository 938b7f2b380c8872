use Rattle.std.proofs.Common.{◌≡◌, ◌++◌, drop}
use Rattle.pp_declaration_state.proofs.references.copy_refs.Given as goal

abbrev pub invariant-loop-r : goal.invariant-loop-r
invariant-loop-r l = l.copies ++ drop l.r-index l.refs ≡ l.refs
