use Rattle.std.proofs.Common.{subst}
use Rattle.fs_lang.specs.PathText.{IfBad}
use Rattle.fs_lang.specs.Names.{IsName}
use Rattle.model_names.proofs.NameLaws.{named_so, unnamed}
use Rattle.model_names.proofs.names.named.Goals as goal

pub returns-in-Ok : goal.returns-in-Ok
returns-in-Ok c = named_so c.args.name.now c.in-Ok.s c.in-Ok.ensures.named c.in-Ok.ensures.found

pub returns-in-Err-Bad : goal.returns-in-Err-Bad
returns-in-Err-Bad c = unnamed c.args.name.now (subst (λ e. IfBad e (IsName c.args.name.now → ⊥)) c.in-Err-Bad.field-0-is c.in-Err-Bad.ensures.bad)
