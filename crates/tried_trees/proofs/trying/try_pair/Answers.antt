use Rattle.std.proofs.Common.{map, sym, true≢false, ◌∙◌}
use Rattle.std.proofs.lemmas.List.{length-map}
use Rattle.fs_lang.specs.Meaning.{program_of}
use Rattle.fs_replay.specs.Exchanged.{one_way, other_way}
use Rattle.tried_trees.proofs.TriedLaws.{differing}
use Rattle.tried_trees.proofs.trying.try_pair.Goals as goal

pub returns-clause-found : goal.returns-clause-found
returns-clause-found c =
    let g = c.args.ground.now in
    let x = c.in_ok-exchange.exchange in
    differing c.args.place (map program_of g.programs.now) c.args.order.now g.tree.now _ _ _ _ _ (one_way x) (other_way x)
    (length-map g.programs.now program_of ∙ c.requires.count) c.is_tree.ensures c.in_ok-tree.ensures c.in_ok-left.ensures.left c.in_ok-left.ensures.right c.in_ok-exchange.ensures
    (λ e. true≢false (sym (c.in_ok-alike.ensures.1 e) ∙ c.if-alike.false))
