use Rattle.std.proofs.Common.{inl, inr}
use Rattle.tree_differences.proofs.PlacedLaws.{no_listed}
use Rattle.tree_differences.proofs.ListLaws.{in_either, are_differences}
use Rattle.tree_differences.proofs.comparing.differences.Goals as goal

pub returns : goal.returns
returns c =
    are_differences c.args.first.now c.args.second.now c.is_tree.ensures c.is_tree-2.ensures c.path_texts.ensures.same c.add_all-2.new.into.items
    (c.in_ok-add_all-2.ensures.listed (c.in_ok-add_all.ensures.listed (no_listed c.args.first.now c.args.second.now c.new-list.result.items c.new-list.ensures.items)))
    (λ p d. elim (in_either c.args.first.now c.args.second.now p d) [
      | inl here ↦ c.in_ok-add_all-2.ensures.keeps _ (c.in_ok-add_all.ensures.there p here d)
      | inr there ↦ c.in_ok-add_all-2.ensures.there p there d
    ])
