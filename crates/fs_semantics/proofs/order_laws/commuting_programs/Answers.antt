use Rattle.fs_semantics.proofs.Commuting.{outcome-append, alike, second}
use Rattle.fs_semantics.proofs.order_laws.commuting_programs.Goals as goal

pub returns : goal.returns
returns c = record { joined = outcome-append; alike = alike; second = second }
