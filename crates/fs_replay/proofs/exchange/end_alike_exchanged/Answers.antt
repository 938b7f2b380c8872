use Rattle.std.proofs.Common.{◌≡◌, ◌<◌, ◌∷◌, length, map, refl, sym, subst, ◌∙◌}
use Rattle.std.specs.List.{AllByRecursion}
use Rattle.fs_semantics.specs.Programs.{and_then}
use Rattle.fs_semantics.specs.Orders.{outcome}
use Rattle.fs_lang.specs.Meaning.{program_of}
use Rattle.fs_replay.specs.Exchanged.{left_behind_one_way, left_behind_other_way}
use Rattle.fs_replay.proofs.ExchangeLaws.{all_behind, whole_is, ends_alike, if_ok, alike_ends, both_wholes}
use Rattle.fs_replay.proofs.exchange.end_alike_exchanged.Goals as goal

pub returns-then-alike : goal.returns-then-alike
returns-then-alike c =
    let x = c.args.exchange.now in
    let g = c.args.ground.now in
    let same = alike_ends c.states.ensures.outcome g.table _ _ _ _ (c.are_alike-alike.ensures c.if-alike.true) c.in_ok-runs.ensures.left.stands c.in_ok-runs.ensures.right.stands in
    (λ e. ends_alike (map program_of g.programs.now) x.front x.back x.first x.second g.tree.now same, λ e. refl)

pub end_alike_behind-requires-clause-below : goal.end_alike_behind-requires-clause-below
end_alike_behind-requires-clause-below c =
    let x = c.args.exchange.now in
    subst (AllByRecursion (λ i. i < length c.args.ground.now.programs.now)) (sym c.as_slice.ensures)
    (all_behind (λ i. i < length c.args.ground.now.programs.now) x.front (x.first ∷ x.second ∷ x.back) c.requires.below).1.1

pub returns : goal.returns
returns c =
    let x = c.args.exchange.now in
    let g = c.args.ground.now in
    if_ok c.end_alike_behind.result (λ alike h. both_wholes (map program_of g.programs.now) x.front x.back _ x.first x.second g.tree.now alike c.as_slice.ensures
    (h (left_behind_one_way g x) (left_behind_other_way g x) c.in_ok-runs.ensures.left c.in_ok-runs.ensures.right)) c.end_alike_behind.ensures
