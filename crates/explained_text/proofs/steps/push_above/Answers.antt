use Rattle.std.proofs.Common.{◌≡◌, ◌++◌, codes, OnOk, subst}
use Rattle.fs_semantics.specs.FileTree.{Path}
use Rattle.tree_text.specs.ProgramText.{path_shown}
use Rattle.explained_text.proofs.steps.push_above.Goals as goal

pub returns : goal.returns
returns c = subst (λ (q : Path). OnOk c.push_path.result (c.push_path.new.into ≡ c.args.into.now ++ (codes ": no folder " ++ path_shown q))) c.in_ok-above.ensures c.push_path.ensures
