use Rattle.std.proofs.Common.{◌≡◌, drop}
use Rattle.catalog_semantics.specs.Attributes.{attributes_behind}
use Rattle.pp_declared_values.specs.Named.{keys_of, given_behind, AllStand}
use Rattle.pp_declared_values.proofs.attributes.attributes_behind.Given as goal

abbrev pub invariant-loop-a : goal.invariant-loop-a
invariant-loop-a l =
    AllStand l.given l.names
    × (given_behind l.given (attributes_behind l.scopes (keys_of l.names) (drop l.a-index l.attrs)) ≡ attributes_behind l.scopes (keys_of l.fn.names) l.attrs)
