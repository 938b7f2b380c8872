use Rattle.std.proofs.Common.{◌++◌, sym, ap, subst, ◌∙◌, ◌≢◌, []}
use Rattle.std.specs.Map.Iter.{deref}
use Rattle.std.proofs.lemmas.Map.Iter.{rest_more}
use Rattle.fs_semantics.specs.FileTree.{parent}
use Rattle.fs_interpreter.specs.Places.{HasPath, place_in, or_added}
use Rattle.path_domain.proofs.LaidLaws.{next_path, not_root, above_there}
use Rattle.path_domain.proofs.places.lay.Goals as goal

pub add_path-requires-clause-root : goal.add_path-requires-clause-root
add_path-requires-clause-root c =
    let next = rest_more deref c.loop-p.p-iterator c.next.new.self c.next.result c.in-Some.p c.in-Some.is c.next.ensures.steps in
    subst (λ q. q ≢ []) (sym c.in_ok-copy.ensures)
    (not_root c.loop-p.table.paths c.next.new.self c.args.paths.now.keys c.in-Some.p.now (ap (λ r. c.loop-p.table.paths ++ r) (sym next) ∙ c.loop-p.invariant.paths) c.requires.parents)

pub add_path-requires-clause-above : goal.add_path-requires-clause-above
add_path-requires-clause-above c =
    let next = rest_more deref c.loop-p.p-iterator c.next.new.self c.next.result c.in-Some.p c.in-Some.is c.next.ensures.steps in
    subst (λ q. HasPath c.loop-p.table (parent q)) (sym c.in_ok-copy.ensures)
    (above_there c.loop-p.table c.next.new.self c.args.paths.now.keys c.in-Some.p.now (ap (λ r. c.loop-p.table.paths ++ r) (sym next) ∙ c.loop-p.invariant.paths) c.into_iter-p-iterator.ensures.into_iter_gives.4 c.requires.parents)

pub loop-p-preserved : goal.loop-p-preserved
loop-p-preserved c =
    let next = rest_more deref c.loop-p.p-iterator c.next.new.self c.next.result c.in-Some.p c.in-Some.is c.next.ensures.steps in
    record {
      paths = ap (λ t. t.paths ++ c.next.new.self) c.in_ok-add_path.ensures.ok
          ∙ ap (λ q. or_added (place_in c.loop-p.table.paths q) c.loop-p.table.paths q ++ c.next.new.self) c.in_ok-copy.ensures
          ∙ next_path c.loop-p.table.paths c.next.new.self c.args.paths.now.keys c.in-Some.p.now (ap (λ r. c.loop-p.table.paths ++ r) (sym next) ∙ c.loop-p.invariant.paths) c.into_iter-p-iterator.ensures.into_iter_gives.4;
      contents = ap (λ t. t.contents) c.in_ok-add_path.ensures.ok ∙ c.loop-p.invariant.contents;
      next = (tt, tt);
    }
