use Rattle.std.proofs.Common.{◌<◌, length, map, None, refl, sym, subst}
use Rattle.std.specs.Prelude.{slice_index_or}
use Rattle.fs_lang.specs.Meaning.{program_of}
use Rattle.failure_semantics.specs.Failures.{FailsAt}
use Rattle.failure_search.specs.Found.{IsSearched}
use Rattle.failure_search.proofs.PlaceLaws.{all_at, fails_at}
use Rattle.failure_search.proofs.StepLaws.{item_map}
use Rattle.failure_search.proofs.find.find_failure.Goals as goal

pub returns-in-Ends : goal.returns-in-Ends
returns-in-Ends c =
    let k = subst (IsSearched (map program_of c.args.programs.now) c.args.order.now c.args.tree.now) c.in-Ends.is c.in_ok-search.ensures in
    (c.in-Ends.field-0, k)

pub returns : goal.returns
returns c =
    let es = map program_of c.args.programs.now in
    let i = slice_index_or c.args.order.now c.in-Fails.place 0 in
    let k = subst (IsSearched es c.args.order.now c.args.tree.now) c.in-Fails.is c.in_ok-search.ensures in
    let below = all_at (λ j. j < length c.args.programs.now) c.args.order.now c.in-Fails.place c.requires k.0 in
    let same = item_map c.args.programs.now i c.index-programs-resource.result below c.index-programs-resource.is in
    let found = c.in_ok-failure-in-Fails.ensures None refl in
    (found.0, fails_at es c.args.order.now c.args.tree.now c.in-Fails.reached c.in-Fails.place i found.0 k.0 refl k.1 (subst (λ e. FailsAt e c.in-Fails.reached found.0) (sym same) found.1), found.2)
