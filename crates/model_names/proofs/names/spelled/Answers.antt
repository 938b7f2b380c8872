use Rattle.std.proofs.Common.{subst}
use Rattle.fs_semantics.specs.FileTree.{Path}
use Rattle.fs_lang.specs.PathText.{IsPathText, IfBad}
use Rattle.model_names.proofs.NameLaws.{spelled_so, unspelled}
use Rattle.model_names.proofs.names.spelled.Goals as goal

pub returns-in-Ok : goal.returns-in-Ok
returns-in-Ok c = spelled_so c.args.text.now c.in-Ok.path c.in-Ok.ensures.found

pub returns-in-Err-Bad : goal.returns-in-Err-Bad
returns-in-Err-Bad c = unspelled c.args.text.now c.utf8.text (subst (λ e. IfBad e ((p : Path) → IsPathText c.args.text.now p → ⊥)) c.in-Err-Bad.field-0-is c.in-Err-Bad.ensures.bad)
