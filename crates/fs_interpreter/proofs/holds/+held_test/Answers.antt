use Rattle.std.proofs.Common.{rules, sym, ap, ◌∙◌}
use Rattle.std.specs.Prelude.{◌&&◌, ◌||◌}
use Rattle.fs_interpreter.specs.Steps.{holds_in}
use Rattle.fs_lang.specs.Meaning.{test_of, test_of_and, test_of_or}
use Rattle.fs_lang.specs.Sizes.{test_size}
use Rattle.fs_lang.proofs.SizeLaws.{and_size, or_size}
use Rattle.fs_interpreter.specs.States.{cell_at}
use Rattle.fs_interpreter.proofs.Frames.{cells_keep, if_means}
use Rattle.fs_interpreter.proofs.holds.+held_test.Goals as goal

pub both_hold-returns-clause-gives : goal.both_hold-returns-clause-gives
both_hold-returns-clause-gives g t c =
    let keep = cells_keep (g.B.Bits.meanings c.args.bits.now) (g.B.Bits.meanings c.holds.new.bits) c.args.cells.now c.holds.ensures.grows c.requires.cells in
    if_means _ _ _ _ c.and.ensures.gives (λ v. let one = c.holds-2.ensures.grows.bit c.in_ok-first.first c.in_ok-first.ensures.gives.owned v ∙ c.in_ok-first.ensures.gives.means v in
    let two = c.in_ok-second.ensures.gives.means v ∙ ap (holds_in c.args.table.now (test_of c.args.b.now)) (keep v) in
    (λ i. one i && two i))

pub one_holds-returns-clause-gives : goal.one_holds-returns-clause-gives
one_holds-returns-clause-gives g t c =
    let keep = cells_keep (g.B.Bits.meanings c.args.bits.now) (g.B.Bits.meanings c.holds.new.bits) c.args.cells.now c.holds.ensures.grows c.requires.cells in
    if_means _ _ _ _ c.or.ensures.gives (λ v. let one = c.holds-2.ensures.grows.bit c.in_ok-first.first c.in_ok-first.ensures.gives.owned v ∙ c.in_ok-first.ensures.gives.means v in
    let two = c.in_ok-second.ensures.gives.means v ∙ ap (holds_in c.args.table.now (test_of c.args.b.now)) (keep v) in
    (λ i. one i || two i))

pub holds-both_hold-requires : goal.holds-both_hold-requires
holds-both_hold-requires g t c κs within =
    let size = and_size c.args.test.now c.in-And.a c.in-And.b c.in-And.is in
    let left = ap (λ x. test_size (test_of x)) c.get-in-And.ensures in
    let right = ap (λ x. test_size (test_of x)) c.get-in-And-2.ensures in
    search rules

pub holds-one_holds-requires : goal.holds-one_holds-requires
holds-one_holds-requires g t c κs within =
    let size = or_size c.args.test.now c.in-Or.a c.in-Or.b c.in-Or.is in
    let left = ap (λ x. test_size (test_of x)) c.get-in-Or.ensures in
    let right = ap (λ x. test_size (test_of x)) c.get-in-Or-2.ensures in
    search rules

pub holds-returns-in-And-clause-gives : goal.holds-returns-in-And-clause-gives
holds-returns-in-And-clause-gives g t c =
    if_means _ _ _ _ c.both_hold.ensures.gives (λ v.
    let cell = cell_at (g.B.Bits.meanings c.args.bits.now) v c.args.cells.now in
    (λ i. holds_in c.args.table.now (test_of (c.get-in-And.ensures i)) cell && holds_in c.args.table.now (test_of (c.get-in-And-2.ensures i)) cell)
    ∙ sym (ap (λ x. holds_in c.args.table.now (test_of x) cell) c.in-And.is ∙ ap (λ x. holds_in c.args.table.now x cell) (test_of_and c.in-And.a c.in-And.b)))

pub holds-returns-in-Or-clause-gives : goal.holds-returns-in-Or-clause-gives
holds-returns-in-Or-clause-gives g t c =
    if_means _ _ _ _ c.one_holds.ensures.gives (λ v.
    let cell = cell_at (g.B.Bits.meanings c.args.bits.now) v c.args.cells.now in
    (λ i. holds_in c.args.table.now (test_of (c.get-in-Or.ensures i)) cell || holds_in c.args.table.now (test_of (c.get-in-Or-2.ensures i)) cell)
    ∙ sym (ap (λ x. holds_in c.args.table.now (test_of x) cell) c.in-Or.is ∙ ap (λ x. holds_in c.args.table.now x cell) (test_of_or c.in-Or.a c.in-Or.b)))
