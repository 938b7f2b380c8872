use Rattle.std.proofs.Common.{rules, ◌≡◌, ℕ, ◌<◌, true, cond, List, length, sym, ap, subst, ◌∙◌}
use Rattle.std.specs.List.{AllByRecursion}
use Rattle.fs_lang.specs.Meaning.{program_of, test_of, program_of_if}
use Rattle.fs_lang.specs.Sizes.{program_size}
use Rattle.fs_interpreter.specs.Places.{has}
use Rattle.fs_interpreter.specs.Steps.{stepped, written, holds_in}
use Rattle.fs_interpreter.proofs.Frames.{grows_on, state_keeps}
use Rattle.fs_interpreter.proofs.BranchLaws.{aside_later, read_so, read_at_same, try_same, branch_is, on_ok, becomes_so}
use Rattle.fs_interpreter.proofs.StepLaws.{leaves_others}
use Rattle.fs_lang.proofs.SizeLaws.{item_smaller, if_size}
use Rattle.fs_interpreter.proofs.run.+run.Goals as goal

pub try_branch-returns-clause-grows : goal.try_branch-returns-clause-grows
try_branch-returns-clause-grows g t c = grows_on _ _ _ (grows_on _ _ _ c.keep.ensures.grows c.step.ensures.grows) c.keep-2.ensures.grows

pub try_branch-returns-clause-read : goal.try_branch-returns-clause-read
try_branch-returns-clause-read g t c =
    let m0 = g.B.Bits.meanings c.args.bits.now in
    let m1 = g.B.Bits.meanings c.keep.new.bits in
    read_so _ c.args.places.now _ _ c.in_ok-made.made c.in_ok-made.ensures.read
    (λ v. c.in_ok-step.ensures.changes.told v ∙ ap (stepped c.args.table.now (program_of c.args.e.now)) (state_keeps m0 m1 c.args.cells.now c.keep.ensures.grows c.requires.cells v))

pub try_branch-returns-clause-same : goal.try_branch-returns-clause-same
try_branch-returns-clause-same g t c =
    let m0 = g.B.Bits.meanings c.args.bits.now in
    let m1 = g.B.Bits.meanings c.keep.new.bits in
    let m2 = g.B.Bits.meanings c.step.new.bits in
    let m3 = g.B.Bits.meanings c.keep-2.new.bits in
    try_same m0 m1 m2 m3 c.args.cells.now c.step.new.cells c.restore.new.cells c.in_ok-old.old c.args.places.now (length c.args.cells.now.present) (stepped c.args.table.now (program_of c.args.e.now))
    c.keep.ensures.grows c.step.ensures.grows c.keep-2.ensures.grows c.requires.cells c.in_ok-old.ensures.own c.in_ok-old.ensures.read c.in_ok-step.ensures.changes c.restore.ensures
    (leaves_others c.args.table.now (program_of c.args.e.now) c.args.places.now c.requires.all)

pub branch-choose-requires-clause-aside : goal.branch-choose-requires-clause-aside
branch-choose-requires-clause-aside g t c = aside_later _ _ _ _ c.in_ok-made.made c.step.ensures.grows (sym (c.in_ok-step.ensures.changes.places ∙ c.in_ok-made.ensures.same.places)) c.in_ok-made.ensures.own

pub branch-returns-clause-changes : goal.branch-returns-clause-changes
branch-returns-clause-changes g t c =
    let m0 = g.B.Bits.meanings c.args.bits.now in
    let m1 = g.B.Bits.meanings c.holds.new.bits in
    let m2 = g.B.Bits.meanings c.try_branch.new.bits in
    let m3 = g.B.Bits.meanings c.step.new.bits in
    let e = program_of c.args.e.now in
    let f = program_of c.args.f.now in
    let places = c.in_ok-places.places.items in
    on_ok c.choose.result
    (branch_is m0 m1 m2 m3 (g.B.Bits.meanings c.choose.new.bits) c.args.cells.now c.try_branch.new.cells c.step.new.cells c.choose.new.cells c.in_ok-c.c c.in_ok-made.made places (length c.args.cells.now.present)
    (holds_in c.args.table.now (test_of c.args.a.now)) (stepped c.args.table.now e) (stepped c.args.table.now f)
    c.holds.ensures.grows c.try_branch.ensures.grows c.step.ensures.grows c.requires.cells c.in_ok-c.ensures.gives c.in_ok-made.ensures.own
    (read_at_same _ _ _ _ c.in_ok-made.made c.deref.ensures.value c.in_ok-made.ensures.read)
    c.in_ok-made.ensures.same c.in_ok-step.ensures.changes
    (leaves_others c.args.table.now e places c.in_ok-places.ensures.first) (leaves_others c.args.table.now f places c.in_ok-places.ensures.second))
    c.choose.ensures.changes

pub step_all-step-requires : goal.step_all-step-requires
step_all-step-requires g t c κs within =
    let smaller = item_smaller c.args.programs.now c.loop-program.program-index c.program-item.result c.loop-program-test.true c.program-item.is in
    let places = c.loop-program.invariant.places ∙ c.requires.places in
    search rules

pub branch-try_branch-requires : goal.branch-try_branch-requires
branch-try_branch-requires g t c κs within =
    let paths = c.args.table.now.paths in
    let all : (j : ℕ) → has j (written c.args.table.now.paths (program_of c.args.e.now)) ≡ true → has j c.deref.result.now ≡ true = λ j h. ap (has j) c.deref.ensures.value ∙ c.in_ok-places.ensures.first j h in
    let below = subst (λ (is : List ℕ). AllByRecursion (λ i. i < length c.args.table.now.paths) is) (sym c.deref.ensures.value) c.in_ok-places.ensures.below in
    search rules

pub step-branch-alloc-requires : goal.step-branch-alloc-requires
step-branch-alloc-requires g t c κs within =
    let size = if_size c.args.program.now c.in-If.a c.in-If.e c.in-If.f c.in-If.is in
    let left = ap (λ x. program_size (program_of x)) c.get.ensures in
    let right = ap (λ x. program_size (program_of x)) c.get-in-If.ensures in
    search rules

pub step-returns-in-If-clause-changes : goal.step-returns-in-If-clause-changes
step-returns-in-If-clause-changes g t c =
    on_ok c.branch-alloc.result
    (becomes_so (g.B.Bits.meanings c.args.bits.now) (g.B.Bits.meanings c.branch-alloc.new.bits) c.args.cells.now c.branch-alloc.new.cells _ _
    (λ v s.
    (λ i. cond (holds_in c.args.table.now (test_of c.in-If.a) s.cell) (stepped c.args.table.now (program_of (c.get.ensures i)) s) (stepped c.args.table.now (program_of (c.get-in-If.ensures i)) s))
    ∙ sym (ap (λ x. stepped c.args.table.now (program_of x) s) c.in-If.is ∙ ap (λ x. stepped c.args.table.now x s) (program_of_if c.in-If.a c.in-If.e c.in-If.f))))
    c.branch-alloc.ensures.changes
