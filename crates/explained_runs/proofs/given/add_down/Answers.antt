use Rattle.std.proofs.Common.{◌≡◌, ◌+◌, ◌<◌, length, refl, sym, ap, subst, arith}
use Rattle.fs_semantics.specs.Entries.{IsFolderAt}
use Rattle.explained_runs.proofs.GivenLaws.{parent_at, one_down, only_folders}
use Rattle.explained_runs.proofs.given.add_down.Goals as goal

pub add_folder-requires-clause-above : goal.add_folder-requires-clause-above
add_folder-requires-clause-above c =
    let long : length c.segments-n-end.result.now ≡ length c.args.p.now = ap length c.segments-n-end.ensures.value in
    let low : c.loop-n.n < length c.args.p.now = omega arith in
    subst (IsFolderAt c.loop-n.tree) (sym (parent_at c.loop-n.n (c.loop-n.n + 1) c.args.p.now c.in_ok-front.field-0 refl low c.in_ok-front.ensures)) c.loop-n.invariant.grown.folder

pub loop-n-preserved : goal.loop-n-preserved
loop-n-preserved c =
    let f = c.in_ok-front.field-0 in
    record {
      grown = one_down c.loop-n.n (c.loop-n.n + 1) c.args.p.now f c.args.tree.now c.loop-n.tree c.add_folder.new.tree c.in_ok-front.ensures c.loop-n.invariant.grown c.in_ok-add_folder.ensures;
      folders = only_folders (length f) f c.loop-n.tree c.add_folder.new.tree c.loop-n.invariant.folders c.in_ok-add_folder.ensures;
    }
