use Rattle.std.proofs.Common.{codes}
use Rattle.compiled_text.proofs.ValueLaws.{copy_proper}
use Rattle.compiled_text.proofs.values.object_value.Goals as goal

pub returns-in-Some-find-clause-proper : goal.returns-in-Some-find-clause-proper
returns-in-Some-find-clause-proper c = copy_proper (codes "__pvalue") c.args.pairs c.in-Some-find.value.now c.copy.result c.requires.proper c.in-Some-find.ensures c.copy.ensures
