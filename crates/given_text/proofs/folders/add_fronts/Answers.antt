use Rattle.std.proofs.Common.{◌≡◌, ◌<◌, length, ap, subst, arith}
use Rattle.given_text.proofs.FolderLaws.{Climbs, above, climbs, ends}
use Rattle.given_text.proofs.folders.add_fronts.Goals as goal

pub add_folder-requires-clause-above : goal.add_folder-requires-clause-above
add_folder-requires-clause-above c =
    let inside = subst (λ l. c.loop-n.n < length l) c.segments-n-end.ensures.value c.loop-n-test.true in
    above c.args.p.now c.in_ok-front.front c.loop-n.n c.args.tree.now c.loop-n.tree inside c.in_ok-front.ensures c.loop-n.invariant

pub loop-n-preserved : goal.loop-n-preserved
loop-n-preserved c =
    let inside = subst (λ l. c.loop-n.n < length l) c.segments-n-end.ensures.value c.loop-n-test.true in
    climbs c.args.p.now c.in_ok-front.front c.loop-n.n c.args.tree.now c.loop-n.tree c.add_folder.new.tree inside c.in_ok-front.ensures c.in_ok-add_folder.ensures c.loop-n.invariant

pub returns-clause-tree : goal.returns-clause-tree
returns-clause-tree c =
    let whole = ap length c.segments-n-end.ensures.value in
    let all : c.loop-n.n ≡ length c.args.p.now = omega (arith, c.loop-n-test.false, c.loop-n.auto.n-end, whole) in
    ends c.args.p.now c.args.tree.now c.loop-n.tree (subst (λ m. Climbs c.args.p.now m c.args.tree.now c.loop-n.tree) all c.loop-n.invariant)
