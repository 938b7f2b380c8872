use Rattle.compiled_text.specs.Compiled.{ids_of}
use Rattle.compiled_text.proofs.BracketLaws.{references}
use Rattle.compiled_text.proofs.RefLaws.{places}
use Rattle.compiled_text.proofs.OneCompiled.{one_compiled}
use Rattle.compiled_text.proofs.laws.compiled_texts.Goals as goal

pub returns-clause-one : goal.returns-clause-one
returns-clause-one c = one_compiled

pub returns-clause-sound : goal.returns-clause-sound
returns-clause-sound c bytes compiled text = text.says.sound

pub returns-clause-references : goal.returns-clause-references
returns-clause-references c = references

pub returns-clause-places : goal.returns-clause-places
returns-clause-places c compiled r place = places r (ids_of compiled.resources) place
