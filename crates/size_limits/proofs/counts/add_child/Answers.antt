use Rattle.std.proofs.Common.{◌+◌, cond, ap, ◌∙◌}
use Rattle.fs_semantics.specs.FileTree.{path_eq}
use Rattle.size_limits.specs.Weights.{capped, count_in}
use Rattle.size_limits.proofs.WeightLaws.{counted}
use Rattle.size_limits.proofs.counts.add_child.Goals as goal

pub returns : goal.returns
returns c q =
    let m = c.args.counts.now in
    counted m c.insert.new.self c.in_ok-above.above q c.saturating_add-n.result c.in_ok-insert.ensures.updates (c.saturating_add-n.ensures ∙ ap (λ n. capped (n + 1)) c.count_of.ensures)
    ∙ ap (λ p. cond (path_eq p q) (capped (count_in m q + 1)) (count_in m q)) c.in_ok-above.ensures
