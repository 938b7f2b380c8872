use Rattle.std.proofs.Common.{length, sym, ap, subst, ◌∙◌, ◌<◌}
use Rattle.fs_semantics.specs.FileTree.{parent}
use Rattle.fs_interpreter.specs.Places.{HasPath, Keeps}
use Rattle.fs_replay.proofs.CoverLaws.{keeps_more, front_parent}
use Rattle.fs_replay.proofs.cover.cover_fronts.Goals as goal

pub add_path-requires-clause-above : goal.add_path-requires-clause-above
add_path-requires-clause-above c =
    let below = subst (λ p. c.loop-k.k < length p) c.segments-k-end.ensures.value c.loop-k-test.true in
    subst (HasPath c.loop-k.table) (sym (ap parent c.in_ok-front.ensures ∙ front_parent c.args.p.now c.loop-k.k below)) c.loop-k.invariant.there

pub loop-k-preserved : goal.loop-k-preserved
loop-k-preserved c =
    let now = c.in_ok-add_path.ensures.ok in
    record {
      there = subst (λ q. HasPath c.add_path.new.self q) c.in_ok-front.ensures (subst (λ t. HasPath t c.in_ok-front.front) (sym now) (c.additions.ensures.path c.loop-k.table c.in_ok-front.front));
      keeps = keeps_more c.args.table.now c.loop-k.table c.add_path.new.self c.loop-k.invariant.keeps (subst (Keeps c.loop-k.table) (sym now) (c.additions.ensures.paths c.loop-k.table c.in_ok-front.front));
    }
