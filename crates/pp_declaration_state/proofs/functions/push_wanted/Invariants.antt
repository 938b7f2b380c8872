use Rattle.std.proofs.Common.{◌≡◌, ◌++◌, map, drop}
use Rattle.pp_declaration_state.specs.Wanting.{wanted_at}
use Rattle.pp_declaration_state.proofs.functions.push_wanted.Given as goal

abbrev pub invariant-loop-r : goal.invariant-loop-r
invariant-loop-r l = l.pending ++ map (wanted_at l.at) (drop l.r-index l.refs) ≡ l.initial.pending ++ map (wanted_at l.at) l.refs
