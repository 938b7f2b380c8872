use Rattle.std.proofs.Common.{◌≡◌, ◌+◌, map, drop, length}
use Rattle.std.specs.List.{AllByRecursion}
use Rattle.catalog_semantics.specs.States.{in_turn}
use Rattle.catalog_semantics.specs.Declaring.{bodies_declared}
use Rattle.catalog_semantics.specs.Functions.{placed, each_class}
use Rattle.catalog_semantics.specs.Effects.{effect_at, sides_of}
use Rattle.pp_declared_bodies.specs.Bodies.{declared_behind}
use Rattle.pp_declared_bodies.specs.Parents.{backwards}
use Rattle.pp_declarations.specs.Frames.{bodies_in, includes}
use Rattle.pp_declarations.specs.Classes.{IsOwn, sides_behind, parent_runs, parents_run, plain_class, plain_class_ref}
use Rattle.catalog_semantics.specs.Rooms.{depth, block_depth}
use Rattle.pp_declarations.specs.Depth.{weight}
use Rattle.pp_declarations.proofs.statement.+statement.Given as goal

-- ---- that it ends

abbrev pub decreases-inner : goal.decreases-inner
decreases-inner l = weight l.frame.now.left.bodies l.frame.now.site.now (block_depth l.body.now) + 16

abbrev pub decreases-block : goal.decreases-block
decreases-block l = weight l.frame.now.left.bodies l.frame.now.site.now (block_depth l.body.now) + 15

abbrev pub decreases-statement : goal.decreases-statement
decreases-statement l = weight l.frame.now.left.bodies l.frame.now.site.now (depth l.s.now) + 14

abbrev pub decreases-chain : goal.decreases-chain
decreases-chain l = weight l.frame.now.left.bodies l.frame.now.site.now 0 + 13

abbrev pub decreases-run_call : goal.decreases-run_call
decreases-run_call l = weight l.frame.now.left.bodies l.frame.now.site.now 0 + 13

abbrev pub decreases-all_sides : goal.decreases-all_sides
decreases-all_sides l = weight l.frame.now.left.bodies l.frame.now.site.now 0 + 12

abbrev pub decreases-include_all : goal.decreases-include_all
decreases-include_all l = weight l.frame.now.left.bodies l.frame.now.site.now 0 + 12

abbrev pub decreases-one_side : goal.decreases-one_side
decreases-one_side l = weight l.frame.now.left.bodies l.frame.now.site.now 0 + 11

abbrev pub decreases-include_each : goal.decreases-include_each
decreases-include_each l = weight l.frame.now.left.bodies l.frame.now.site.now 0 + 11

abbrev pub decreases-declare : goal.decreases-declare
decreases-declare l = weight l.frame.now.left.bodies l.frame.now.site.now 0 + 10

abbrev pub decreases-include : goal.decreases-include
decreases-include l = weight l.frame.now.left.bodies l.frame.now.site.now 0 + 10

abbrev pub decreases-declare_classes : goal.decreases-declare_classes
decreases-declare_classes l = weight l.frame.now.left.bodies l.frame.now.site.now 0 + 9

abbrev pub decreases-class_body : goal.decreases-class_body
decreases-class_body l = weight l.frame.now.left.bodies l.frame.now.site.now 0 + 8

abbrev pub decreases-class_titles : goal.decreases-class_titles
decreases-class_titles l = weight l.frame.now.left.bodies l.frame.now.site.now 0 + 7

abbrev pub decreases-declare_class : goal.decreases-declare_class
decreases-declare_class l = weight l.frame.now.left.bodies l.frame.now.site.now 0 + 6

abbrev pub decreases-run_parents : goal.decreases-run_parents
decreases-run_parents l = weight l.frame.now.left.bodies l.frame.now.site.now 0 + 5

abbrev pub decreases-run_class : goal.decreases-run_class
decreases-run_class l = weight l.frame.now.left.bodies l.frame.now.site.now 0 + 4

-- ---- loops

abbrev pub invariant-block-loop-s : goal.invariant-block-loop-s
invariant-block-loop-s l = in_turn (map (effect_at l.frame.left l.frame.site.now) (drop l.s-index l.body)) l.state ≡ in_turn (map (effect_at l.frame.left l.frame.site.now) l.body) l.initial.state

abbrev pub invariant-all_sides-loop-x : goal.invariant-all_sides-loop-x
invariant-all_sides-loop-x l =
    sides_behind l.sides (sides_of l.frame.site.now (bodies_in l.frame) (drop l.x-index l.operands) l.state) ≡ sides_of l.frame.site.now (bodies_in l.frame) l.operands l.initial.state

abbrev pub invariant-declare_classes-loop-b : goal.invariant-declare_classes-loop-b
invariant-declare_classes-loop-b l =
    declared_behind l.refs (bodies_declared (plain_class l.frame.site.now (bodies_in l.frame)) plain_class_ref (drop l.b-index l.bodies) l.state)
    ≡ bodies_declared (plain_class l.frame.site.now (bodies_in l.frame)) plain_class_ref l.bodies l.initial.state

abbrev pub invariant-class_titles-loop-title : goal.invariant-class_titles-loop-title
invariant-class_titles-loop-title l =
    in_turn (map (plain_class l.frame.site.now (bodies_in l.frame) l.at l.attributes) (drop l.title-index l.titles)) l.state
    ≡ in_turn (map (plain_class l.frame.site.now (bodies_in l.frame) l.at l.attributes) l.titles) l.initial.state

abbrev pub decreases-run_parents-loop-p : goal.decreases-run_parents-loop-p
decreases-run_parents-loop-p l = length l.parents.items

abbrev pub invariant-run_parents-loop-p : goal.invariant-run_parents-loop-p
invariant-run_parents-loop-p l =
    (in_turn (map (parent_runs (bodies_in l.frame) l.at) (backwards (map (λ p. p.now) l.parents.items))) l.state ≡ parents_run l.frame.site.now (bodies_in l.frame) l.at l.d l.initial.state)
    × AllByRecursion (IsOwn l.frame.site.now) (map (λ p. p.now) l.parents.items)

abbrev pub invariant-include_all-loop-arg : goal.invariant-include_all-loop-arg
invariant-include_all-loop-arg l =
    in_turn (map (each_class (includes l.frame l.call)) (placed (drop l.arg-index l.call.args.now) l.rest)) l.state
    ≡ in_turn (map (each_class (includes l.frame l.call)) (placed l.call.args.now l.values)) l.initial.state

abbrev pub invariant-include_each-loop-name : goal.invariant-include_each-loop-name
invariant-include_each-loop-name l =
    in_turn (map (includes l.frame l.call) (drop l.name-index l.names)) l.state
    ≡ in_turn (map (includes l.frame l.call) l.names) l.initial.state
