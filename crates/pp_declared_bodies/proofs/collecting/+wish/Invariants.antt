use Rattle.std.proofs.Common.{◌≡◌, map, drop}
use Rattle.catalog_semantics.specs.Collecting.{all_of, wish_in}
use Rattle.pp_declared_bodies.proofs.SearchLaws.{behind}
use Rattle.pp_declared_bodies.proofs.collecting.+wish.Given as goal

abbrev pub invariant-wishes_of-loop-search : goal.invariant-wishes_of-loop-search
invariant-wishes_of-loop-search l = behind l.wishes (all_of (map (wish_in l.scopes) (drop l.search-index l.all))) ≡ all_of (map (wish_in l.scopes) l.all)
