use Rattle.std.proofs.Common.{option_map, sym, ap, ◌∙◌}
use Rattle.std.specs.FinMap as map
use Rattle.fs_lang.specs.Meaning.{entry_of}
use Rattle.fs_lang.proofs.TreeLaws.{get_tree, mapped_twice}
use Rattle.fs_lang.proofs.tree.Tree.get.Goals as goal

pub returns : goal.returns
returns c =
    mapped_twice (λ x. x.now) entry_of c.get.result ∙ ap (option_map entry_of) c.get.ensures.value
    ∙ sym (get_tree c.self.inside.entries c.args.p.now) ∙ ap (λ t. map.get t c.args.p.now) c.self.view_is
