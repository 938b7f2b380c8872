use Rattle.fs_semantics.proofs.ConstructLaws.{kept, keeps_tree, keeps_parents}
use Rattle.fs_semantics.proofs.Alike.{alike_where_read, changes_read}
use Rattle.fs_semantics.proofs.program_laws.constructs.Goals as goal

pub returns : goal.returns
returns c = record { kept = λ e t u q done other. kept e q t u other done; tree = keeps_tree; parents = keeps_parents; alike = alike_where_read; asked = changes_read }
