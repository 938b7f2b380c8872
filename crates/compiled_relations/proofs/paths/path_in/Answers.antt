use Rattle.std.proofs.Common.{sym, subst}
use Rattle.fs_semantics.specs.FileTree.{Path}
use Rattle.fs_lang.specs.PathText.{IsPathText, IfBad}
use Rattle.fs_lang.proofs.PathLaws.{path_again}
use Rattle.compiled_relations.proofs.PathLaws.{unspelled}
use Rattle.compiled_relations.proofs.paths.path_in.Goals as goal

pub returns-in-Ok : goal.returns-in-Ok
returns-in-Ok c = sym (path_again c.args.text.now c.in-Ok.path c.in-Ok.ensures.found)

pub returns-in-Err-Bad : goal.returns-in-Err-Bad
returns-in-Err-Bad c = unspelled c.args.text.now c.utf8.text (subst (λ e. IfBad e ((p : Path) → IsPathText c.args.text.now p → ⊥)) c.in-Err-Bad.field-0-is c.in-Err-Bad.ensures.bad)
