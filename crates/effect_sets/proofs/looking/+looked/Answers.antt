use Rattle.std.proofs.Common.{rules, ap, sym, ◌∙◌}
use Rattle.fs_semantics.specs.Programs.{And, Or}
use Rattle.fs_lang.specs.Meaning.{test_of, test_of_and, test_of_or}
use Rattle.fs_lang.specs.Sizes.{test_size}
use Rattle.fs_lang.proofs.SizeLaws.{and_size, or_size}
use Rattle.effect_sets.specs.Footprints.{joined, test_footprint}
use Rattle.effect_sets.specs.Members.{members}
use Rattle.effect_sets.specs.Telling.{found_footprint}
use Rattle.effect_sets.proofs.FoundLaws.{on_ok, joined_assoc}
use Rattle.effect_sets.proofs.looking.+looked.Goals as goal

pub look_for-look_for_both-requires : goal.look_for-look_for_both-requires
look_for-look_for_both-requires t c =
    let size = and_size c.args.test.now c.in-And.a c.in-And.b c.in-And.is in
    let left = ap (λ x. test_size (test_of x)) c.get-in-And.ensures in
    let right = ap (λ x. test_size (test_of x)) c.get-in-And-2.ensures in
    search rules

pub look_for-look_for_both-requires-in-Or : goal.look_for-look_for_both-requires-in-Or
look_for-look_for_both-requires-in-Or t c =
    let size = or_size c.args.test.now c.in-Or.a c.in-Or.b c.in-Or.is in
    let left = ap (λ x. test_size (test_of x)) c.get-in-Or.ensures in
    let right = ap (λ x. test_size (test_of x)) c.get-in-Or-2.ensures in
    search rules

pub look_for-returns-in-And : goal.look_for-returns-in-And
look_for-returns-in-And t c =
    let is = ap test_of c.in-And.is ∙ test_of_and c.in-And.a c.in-And.b ∙ (λ i. And (test_of (sym c.get-in-And.ensures i)) (test_of (sym c.get-in-And-2.ensures i))) in
    on_ok c.look_for_both.result (λ h. h ∙ ap (λ x. joined (found_footprint c.args.found.now) (test_footprint x (members c.args.sure.now))) (sym is)) c.look_for_both.ensures

pub look_for-returns-in-Or : goal.look_for-returns-in-Or
look_for-returns-in-Or t c =
    let is = ap test_of c.in-Or.is ∙ test_of_or c.in-Or.a c.in-Or.b ∙ (λ i. Or (test_of (sym c.get-in-Or.ensures i)) (test_of (sym c.get-in-Or-2.ensures i))) in
    on_ok c.look_for_both-in-Or.result (λ h. h ∙ ap (λ x. joined (found_footprint c.args.found.now) (test_footprint x (members c.args.sure.now))) (sym is)) c.look_for_both-in-Or.ensures

pub look_for_both-returns : goal.look_for_both-returns
look_for_both-returns t c =
    let s = members c.args.sure.now in
    let a = test_footprint (test_of c.args.a.now) s in
    let b = test_footprint (test_of c.args.b.now) s in
    on_ok c.look_for-2.result (λ h. h ∙ ap (λ x. joined x b) c.in_ok-look_for.ensures ∙ joined_assoc (found_footprint c.args.found.now) a b) c.look_for-2.ensures
