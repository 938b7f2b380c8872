use Rattle.std.proofs.Common.{◌<◌, ◌*◌, map, sym, ap, subst, ◌∙◌, List}
use Rattle.std.specs.List.{AllByRecursion}
use Rattle.catalog_semantics.specs.Sites.{Definition}
use Rattle.catalog_semantics.specs.States.{in_turn}
use Rattle.catalog_semantics.specs.declared.room.Room.{Room}
use Rattle.catalog_semantics.specs.Rooms.{depth, block_depth}
use Rattle.catalog_semantics.specs.Declaring.{body_in, class_resource, class_runs, classes_declared}
use Rattle.pp_value.specs.Values.{Pair}
use Rattle.pp_declared_bodies.specs.Parents.{backwards}
use Rattle.pp_declarations.specs.Frames.{bodies_in}
use Rattle.pp_declarations.specs.Classes.{IsOwn, plain_class, plain_class_ref, parent_runs, parents_run}
use Rattle.pp_declarations.specs.Depth.{bound_of, weight}
use Rattle.pp_declarations.proofs.DepthLaws.{below, no_deeper, member_within, if_less, option_less, body_less, other_less, next_rank, same_bodies, fewer_bodies}
use Rattle.pp_declarations.proofs.OwnLaws.{own_within, line_is_own, last_own, popped}
use Rattle.pp_declarations.proofs.StatementLaws.{includes_by, answers_as, answered, refuses_too}
use Rattle.pp_declarations.proofs.BodyLaws.{begin_refused, block_refused, class_ended, class_never_ends, bodies_refused, room_for_one, line_runs, next_parent, parent_refused}
use Rattle.pp_eval.specs.Scoping.{left}
use Rattle.pp_declarations.proofs.statement.+statement.Goals.{run_class-then-may_run+in_ok-block, run_class-else-may_run}
use Rattle.pp_declarations.proofs.statement.+statement.Goals as goal

-- ---- that it ends

pub block-statement-requires : goal.block-statement-requires
block-statement-requires t c = (
  below _ t _ c.decreases (no_deeper (c.args.frame.now.left.bodies * bound_of c.args.frame.now.site.now) (depth c.s-item.result) (block_depth c.args.body.now)
      (member_within c.args.body.now c.loop-s.s-index c.s-item.result c.s-item.result c.loop-s-test.true c.s-item.is)),
  tt,
)

pub statement-inner-requires : goal.statement-inner-requires
statement-inner-requires t c = (
  below _ t _ c.decreases (if_less (c.args.frame.now.left.bodies * bound_of c.args.frame.now.site.now) c.args.s.now c.scopes.result.now c.in-If.at c.in-If.arms c.as_slice-in-If.result.now c.in-If.other c.as_slice-in-If-2.result.now c.in_ok-body-in-If.body.now
      c.in-If.is c.as_slice-in-If.ensures c.as_slice-in-If-2.ensures c.in_ok-body-in-If.ensures),
  tt,
)

pub statement-inner-requires-then-branch : goal.statement-inner-requires-then-branch
statement-inner-requires-then-branch t c = (
  below _ t _ c.decreases (other_less (c.args.frame.now.left.bodies * bound_of c.args.frame.now.site.now) c.args.s.now c.in-Unless.at c.in-Unless.test c.in-Unless.body c.in-Unless.other c.as_slice-then-branch.result.now c.in-Unless.is c.as_slice-then-branch.ensures),
  tt,
)

pub statement-inner-requires-else-branch : goal.statement-inner-requires-else-branch
statement-inner-requires-else-branch t c = (
  below _ t _ c.decreases (body_less (c.args.frame.now.left.bodies * bound_of c.args.frame.now.site.now) c.args.s.now c.in-Unless.at c.in-Unless.test c.in-Unless.body c.in-Unless.other c.as_slice-else-branch.result.now c.in-Unless.is c.as_slice-else-branch.ensures),
  tt,
)

pub statement-inner-requires-in-Some : goal.statement-inner-requires-in-Some
statement-inner-requires-in-Some t c = (
  below _ t _ c.decreases (option_less (c.args.frame.now.left.bodies * bound_of c.args.frame.now.site.now) c.args.s.now c.scopes-in-Case.result.now c.in-Case.at c.in-Case.value c.in-Case.arms c.as_slice-in-Case.result.now c.in_ok-body-in-Case.field-0 c.in-Some.body
      c.in-Case.is c.as_slice-in-Case.ensures c.in-Some.is c.in_ok-body-in-Case.ensures),
  tt,
)

pub inner-block-requires : goal.inner-block-requires
inner-block-requires t c = (
  below _ t _ c.decreases (same_bodies c.in_block.result.bodies c.args.frame.now.left.bodies (bound_of c.args.frame.now.site.now) (block_depth c.args.body.now) (ap (λ (r : Room). r.bodies) c.in_block.ensures)),
  tt,
)

pub run_class-block-requires : goal.run_class-block-requires
run_class-block-requires t c = (
  below _ t _ c.decreases (fewer_bodies c.in_body.result.bodies c.args.frame.now.left.bodies (bound_of c.args.frame.now.site.now) (block_depth c.body-body.result.now) (ap (λ (r : Room). r.bodies) c.in_body.ensures)
      (room_for_one c.args.frame.now.left c.body-body.result.now (sym c.has_room_for-may_run.ensures ∙ c.if-may_run.true))
      (subst (λ b. block_depth b < bound_of c.args.frame.now.site.now) (sym c.body-body.ensures) (own_within c.args.frame.now.site.now c.args.d.now c.requires))),
  tt,
)

-- ---- functions

pub run_call-returns-in-Include : goal.run_call-returns-in-Include
run_call-returns-in-Include t c =
    answers_as _ _ _ c.include_all.result
    (includes_by c.args.frame.now.site.now (bodies_in c.args.frame.now) c.args.call.now.at c.args.call.now.func c.args.call.now.args.now c.args.state.now c.scopes.result.now c.in_ok-all.all c.as_slice-values.result.now c.in-Include.is
    c.scopes.ensures c.in_ok-all.ensures c.as_slice-values.ensures)
    c.include_all.ensures

-- ---- bodies of classes

pub run_class-returns-in_err-begin_class : goal.run_class-returns-in_err-begin_class
run_class-returns-in_err-begin_class t c =
    answered _ _ c.from_residual-in_err-begin_class.result c.in_err-begin_class.field-0.0 c.from_residual-in_err-begin_class.ensures.1
    (begin_refused c.args.frame.now.left c.args.frame.now.site.now c.args.d.now c.in_ok-r.r (class_resource c.args.at c.args.d.now.name c.args.attributes.now) c.args.state.now
    (c.in_ok-r.ensures ∙ ap (λ n. class_resource c.args.at n c.args.attributes.now) (c.as_str.ensures ∙ c.name.ensures)) c.has_room_for-may_run.result c.body-body.result.now c.in_err-begin_class.field-0.0 c.body-body.ensures c.has_room_for-may_run.ensures
    c.in_err-begin_class.ensures)

pub run_class-returns-in_err-block : goal.run_class-returns-in_err-block
run_class-returns-in_err-block t c =
    answered _ _ c.from_residual-in_err-block.result c.in_err-block.field-0.0 c.from_residual-in_err-block.ensures.1
    (block_refused c.args.frame.now.left c.args.frame.now.site.now c.args.d.now c.in_ok-r.r (class_resource c.args.at c.args.d.now.name c.args.attributes.now) c.args.state.now
    (c.in_ok-r.ensures ∙ ap (λ n. class_resource c.args.at n c.args.attributes.now) (c.as_str.ensures ∙ c.name.ensures)) c.has_room_for-may_run.result c.body-body.result.now c.body-body.result.now c.begin_class.new.state c.in_body.result c.in_err-block.field-0.0
    c.has_room_for-may_run.ensures c.if-may_run.true c.in_ok-begin_class.ensures c.body-body.ensures c.body-body.ensures c.in_body.ensures c.in_err-block.ensures)

pub run_class-returns : goal.run_class-returns
run_class-returns t c =
    let same = c.in_ok-r.ensures ∙ ap (λ n. class_resource c.args.at n c.args.attributes.now) (c.as_str.ensures ∙ c.name.ensures) in
    elim c.if-may_run.branch [
      | run_class-then-may_run+in_ok-block w ↦
          class_ended c.args.frame.now.left c.args.frame.now.site.now c.args.d.now c.in_ok-r.r (class_resource c.args.at c.args.d.now.name c.args.attributes.now) c.args.state.now same c.has_room_for-may_run.result c.body-body.result.now
          c.begin_class.new.state w.block.new.state c.if-may_run.state w.in_body.result c.body-body.ensures c.has_room_for-may_run.ensures w.if-may_run.true c.in_ok-begin_class.ensures w.in_body.ensures w.in_ok-block.ensures
          (w.state-is ∙ (w.end_body.ensures ∙ ap (λ o. record w.block.new.state { running = o; scopes = left w.block.new.state.scopes }) c.running-before.ensures))
      | run_class-else-may_run w ↦
          absurd (class_never_ends c.args.frame.now.left c.args.frame.now.site.now c.args.d.now c.in_ok-r.r (class_resource c.args.at c.args.d.now.name c.args.attributes.now) c.args.state.now same c.has_room_for-may_run.result c.begin_class.new.state
          w.if-may_run.false c.in_ok-begin_class.ensures)
    ]

-- ---- classes of bodies

pub declare_classes-returns-in-Err : goal.declare_classes-returns-in-Err
declare_classes-returns-in-Err t c =
    bodies_refused (plain_class c.args.frame.now.site.now (bodies_in c.args.frame.now)) plain_class_ref c.loop-b.refs c.args.bodies.now c.loop-b.b-index c.b-item.result c.loop-b.state
    (classes_declared c.args.frame.now.site.now (bodies_in c.args.frame.now) c.args.bodies.now c.args.state.now) c.in-Err.fault c.loop-b-test.true c.b-item.is c.loop-b.invariant c.in-Err.ensures

-- ---- parents

pub run_parents-loop-p-init : goal.run_parents-loop-p-init
run_parents-loop-p-init t c = (
  sym (line_runs c.args.frame.now.site.now (bodies_in c.args.frame.now) c.args.at c.args.d.now c.args.state.now (map (λ p. p.now) c.in_ok-parents.parents.items) c.in_ok-parents.ensures),
  line_is_own c.args.frame.now.site.now c.args.state.now _ c.args.d.now (map (λ p. p.now) c.in_ok-parents.parents.items) c.in_ok-parents.ensures,
)

pub run_parents-run_class-requires : goal.run_parents-run_class-requires
run_parents-run_class-requires t c = (
  below _ t _ c.decreases (next_rank (weight c.args.frame.now.left.bodies c.args.frame.now.site.now 0)),
  (last_own c.args.frame.now.site.now (map (λ p. p.now) c.pop.new.self.items) c.in-Some.p.now
      (subst (AllByRecursion (IsOwn c.args.frame.now.site.now)) (popped c.loop-p.parents.items c.pop.new.self.items c.in-Some.p c.in-Some.ensures.items) c.loop-p.invariant.1)).1,
)

pub run_parents-loop-p-preserved : goal.run_parents-loop-p-preserved
run_parents-loop-p-preserved t c =
    let bodies = bodies_in c.args.frame.now in
    let line = popped c.loop-p.parents.items c.pop.new.self.items c.in-Some.p c.in-Some.ensures.items in (
      sym (next_parent bodies c.args.at (map (λ p. p.now) c.pop.new.self.items) c.in-Some.p.now c.loop-p.state c.run_class.new.state
          (ap (λ (attributes : List Pair). class_runs (body_in bodies c.in-Some.p.now.body) c.in-Some.p.now (class_resource c.args.at c.in-Some.p.now.name attributes) c.loop-p.state) (sym c.new-none.ensures) ∙ c.in-Ok.ensures))
          ∙ (ap (λ (ds : List Definition). in_turn (map (parent_runs bodies c.args.at) (backwards ds)) c.loop-p.state) (sym line) ∙ c.loop-p.invariant.0),
      (last_own c.args.frame.now.site.now (map (λ p. p.now) c.pop.new.self.items) c.in-Some.p.now (subst (AllByRecursion (IsOwn c.args.frame.now.site.now)) line c.loop-p.invariant.1)).0,
    )

pub run_parents-returns-in-Err : goal.run_parents-returns-in-Err
run_parents-returns-in-Err t c =
    let bodies = bodies_in c.args.frame.now in
    let line = popped c.loop-p.parents.items c.pop.new.self.items c.in-Some.p c.in-Some.ensures.items in
    refuses_too (class_runs (body_in bodies c.in-Some.p.now.body) c.in-Some.p.now (class_resource c.args.at c.in-Some.p.now.name c.new-none.result) c.loop-p.state) (parents_run c.args.frame.now.site.now bodies c.args.at c.args.d.now c.args.state.now) c.in-Err.fault
    (λ x h.
    sym c.loop-p.invariant.0
    ∙ (ap (λ (ds : List Definition). in_turn (map (parent_runs bodies c.args.at) (backwards ds)) c.loop-p.state) line
    ∙ parent_refused bodies c.args.at (map (λ p. p.now) c.pop.new.self.items) c.in-Some.p.now c.loop-p.state x
    (ap (λ (attributes : List Pair). class_runs (body_in bodies c.in-Some.p.now.body) c.in-Some.p.now (class_resource c.args.at c.in-Some.p.now.name attributes) c.loop-p.state) (sym c.new-none.ensures) ∙ h)))
    c.in-Err.ensures
