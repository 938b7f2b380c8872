use Rattle.std.proofs.Common.{◌≡◌, ◌++◌, drop, option_map}
use Rattle.allowed_order.specs.Names.{positions_of}
use Rattle.allowed_order.proofs.naming.positions_of.Given as goal

-- what was found, with what is still to be found
abbrev pub invariant-loop-text : goal.invariant-loop-text
invariant-loop-text l = option_map (λ more. l.positions ++ more) (positions_of l.names (drop l.text-index l.texts)) ≡ positions_of l.names l.texts
