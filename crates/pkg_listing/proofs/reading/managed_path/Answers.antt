use Rattle.std.proofs.Common.{subst}
use Rattle.fs_semantics.specs.FileTree.{Path}
use Rattle.fs_lang.specs.PathText.{IsPathText, IfBad}
use Rattle.pkg_listing.proofs.PathLaws.{read_path, no_path, unmanaged_path}
use Rattle.pkg_listing.proofs.reading.managed_path.Goals as goal

pub returns-in-Err-Bad-clause-path : goal.returns-in-Err-Bad-clause-path
returns-in-Err-Bad-clause-path c = no_path c.args.text.now c.utf8.text (subst (λ e. IfBad e ((p : Path) → IsPathText c.args.text.now p → ⊥)) c.in-Err-Bad.field-0-is c.in-Err-Bad.ensures.bad)

pub returns-then-may_be_managed-clause-path : goal.returns-then-may_be_managed-clause-path
returns-then-may_be_managed-clause-path c = read_path c.args.text.now c.in-Ok.path c.in-Ok.ensures.found (c.may_be_managed.ensures.0 c.if-may_be_managed.true)

pub returns-else-may_be_managed-clause-path : goal.returns-else-may_be_managed-clause-path
returns-else-may_be_managed-clause-path c = unmanaged_path c.args.text.now c.in-Ok.path c.in-Ok.ensures.found c.may_be_managed.result c.may_be_managed.ensures.1 c.if-may_be_managed.false
