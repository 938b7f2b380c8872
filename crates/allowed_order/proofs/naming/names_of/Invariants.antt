use Rattle.std.proofs.Common.{◌≡◌, [], drop}
use Rattle.allowed_order.specs.Names.{with_names}
use Rattle.allowed_order.proofs.naming.names_of.Given as goal

-- the names so far, with those that are still to be added
abbrev pub invariant-loop-place : goal.invariant-loop-place
invariant-loop-place l = (l.position ≡ l.place-index) × (with_names l.catalog l.position (drop l.place-index l.plain) l.names ≡ with_names l.catalog 0 l.plain [])
