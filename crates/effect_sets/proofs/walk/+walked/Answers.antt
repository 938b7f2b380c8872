use Rattle.std.proofs.Common.{rules, ◌+◌, option_map, drop, ap, ap₂, sym, ◌∙◌}
use Rattle.std.proofs.lemmas.List.{drop_all}
use Rattle.fs_semantics.specs.Programs.{If}
use Rattle.fs_lang.specs.Meaning.{test_of, program_of, programs_in, program_of_if}
use Rattle.fs_lang.specs.Sizes.{program_size}
use Rattle.fs_lang.proofs.SizeLaws.{item_smaller, if_size}
use Rattle.effect_sets.specs.Footprints.{joined, ensuring, in_case, test_footprint, footprint_after, steps_footprint, sure_after}
use Rattle.effect_sets.specs.Members.{members, common}
use Rattle.effect_sets.specs.Telling.{found_footprint}
use Rattle.effect_sets.proofs.FoundLaws.{on_ok, joined_assoc}
use Rattle.effect_sets.proofs.WalkLaws.{same_found, program_next, one_step, one_sure, kept_by_both}
use Rattle.effect_sets.proofs.walk.+walked.Goals as goal

pub walk-walk_choice-requires : goal.walk-walk_choice-requires
walk-walk_choice-requires t c =
    let size = if_size c.args.program.now c.in-If.a c.in-If.e c.in-If.f c.in-If.is in
    let left = ap (λ x. program_size (program_of x)) c.get.ensures in
    let right = ap (λ x. program_size (program_of x)) c.get-in-If.ensures in
    search rules

pub walk-returns-in-If-clause-footprint : goal.walk-returns-in-If-clause-footprint
walk-returns-in-If-clause-footprint t c =
    let is = ap program_of c.in-If.is ∙ program_of_if c.in-If.a c.in-If.e c.in-If.f ∙ (λ i. If (test_of c.in-If.a) (program_of (sym c.get.ensures i)) (program_of (sym c.get-in-If.ensures i))) in
    on_ok c.walk_choice.result (λ h. h ∙ ap (λ x. joined (found_footprint c.args.found.now) (footprint_after x (members c.args.sure.now))) (sym is)) c.walk_choice.ensures.footprint

pub walk-returns-in-If-clause-sure : goal.walk-returns-in-If-clause-sure
walk-returns-in-If-clause-sure t c =
    let is = ap program_of c.in-If.is ∙ program_of_if c.in-If.a c.in-If.e c.in-If.f ∙ (λ i. If (test_of c.in-If.a) (program_of (sym c.get.ensures i)) (program_of (sym c.get-in-If.ensures i))) in
    on_ok c.walk_choice.result (λ h. h ∙ ap (λ x. sure_after x (members c.args.sure.now)) (sym is)) c.walk_choice.ensures.sure

pub walk_all-walk-requires : goal.walk_all-walk-requires
walk_all-walk-requires t c =
    let smaller = item_smaller c.args.programs.now c.loop-program.program-index c.program-item.result c.loop-program-test.true c.program-item.is in
    search rules

pub walk_all-loop-program-preserved : goal.walk_all-loop-program-preserved
walk_all-loop-program-preserved t c =
    let i = c.loop-program.program-index in
    let es = c.args.programs.now in
    let e = program_of c.program-item.result in
    let rest = programs_in (drop (i + 1) es) in
    let all = programs_in (drop i es) in
    let s = members c.loop-program.sure in
    let whole = program_next es i c.program-item.result c.loop-program-test.true c.program-item.is in
    record {
      footprint = one_step (found_footprint c.loop-program.found) (found_footprint c.walk.new.found) e rest all s (members c.walk.new.sure) c.in_ok-walk.ensures.footprint c.in_ok-walk.ensures.sure whole ∙ c.loop-program.invariant.footprint;
      sure = one_sure e rest all s (members c.walk.new.sure) c.in_ok-walk.ensures.sure whole ∙ c.loop-program.invariant.sure;
    }

pub walk_all-returns-clause-footprint : goal.walk_all-returns-clause-footprint
walk_all-returns-clause-footprint t c =
    let f = found_footprint c.loop-program.found in
    same_found f ∙ ap (λ es. joined f (steps_footprint (programs_in es) (members c.loop-program.sure))) (sym (drop_all c.loop-program.program-index c.args.programs.now c.loop-program-test.false)) ∙ c.loop-program.invariant.footprint

pub walk_apart-returns-clause-footprint : goal.walk_apart-returns-clause-footprint
walk_apart-returns-clause-footprint t c =
    let s = members c.args.sure.now in
    let e = footprint_after (program_of c.args.e.now) s in
    let f = footprint_after (program_of c.args.f.now) s in
    c.in_ok-walk-2.ensures.footprint
    ∙ ap (λ r. joined (found_footprint c.walk.new.found) (footprint_after (program_of c.args.f.now) r)) c.in_ok-other.ensures
    ∙ ap (λ x. joined x f) c.in_ok-walk.ensures.footprint ∙ joined_assoc (found_footprint c.args.found.now) e f

pub walk_apart-returns-clause-sure : goal.walk_apart-returns-clause-sure
walk_apart-returns-clause-sure t c =
    c.in_ok-sure.ensures ∙ ap₂ common c.in_ok-walk.ensures.sure (c.in_ok-walk-2.ensures.sure ∙ ap (sure_after (program_of c.args.f.now)) c.in_ok-other.ensures)

pub walk_branches-returns-then-second-clause-footprint : goal.walk_branches-returns-then-second-clause-footprint
walk_branches-returns-then-second-clause-footprint t c =
    let s = members c.args.sure.now in
    let e = footprint_after (program_of c.args.e.now) s in
    let f = footprint_after (program_of c.args.f.now) s in
    let same = c.in_ok-walk.ensures.sure ∙ c.keeps-first.ensures c.if-first.true in
    on_ok c.walk-then-second.result (λ h. h
    ∙ ap (λ r. joined (found_footprint c.walk.new.found) (footprint_after (program_of c.args.f.now) r)) same
    ∙ ap (λ x. joined x f) c.in_ok-walk.ensures.footprint ∙ joined_assoc (found_footprint c.args.found.now) e f) c.walk-then-second.ensures.footprint

pub walk_branches-returns-then-second-clause-sure : goal.walk_branches-returns-then-second-clause-sure
walk_branches-returns-then-second-clause-sure t c =
    let s = members c.args.sure.now in
    let first = c.keeps-first.ensures c.if-first.true in
    let second = c.keeps-second.ensures c.if-second.true in
    on_ok c.walk-then-second.result (λ h. h
    ∙ ap (sure_after (program_of c.args.f.now)) (c.in_ok-walk.ensures.sure ∙ first) ∙ second
    ∙ kept_by_both s (sure_after (program_of c.args.e.now) s) (sure_after (program_of c.args.f.now) s) first second) c.walk-then-second.ensures.sure

pub walk_choice-returns-in_ok-look_for-in-None-clause-footprint : goal.walk_choice-returns-in_ok-look_for-in-None-clause-footprint
walk_choice-returns-in_ok-look_for-in-None-clause-footprint t c =
    let s = members c.args.sure.now in
    let a = test_footprint (test_of c.args.test.now) s in
    let both = joined (footprint_after (program_of c.args.e.now) s) (footprint_after (program_of c.args.f.now) s) in
    let none = sym c.ensured_path.ensures ∙ ap (λ o. option_map (λ p. p.now) o) c.in-None.is in
    on_ok c.walk_branches.result (λ h. h ∙ ap (λ x. joined x both) c.in_ok-look_for-in-None.ensures ∙ joined_assoc (found_footprint c.args.found.now) a both
    ∙ ap (λ o. joined (found_footprint c.args.found.now) (in_case o (λ p. ensuring p s) (joined a both))) (sym none)) c.walk_branches.ensures.footprint
