use Rattle.repair.proofs.ArrowLaws.{followed, no_arrows, deterministic_more}
use Rattle.repair.proofs.laws.arrows.Goals as goal

pub returns : goal.returns
returns c = record {
  followed = λ order arrows run strict free. followed order strict arrows run free;
  none = λ order a b strict. no_arrows order strict a b;
  more = λ es order arrows more sub. deterministic_more order arrows more sub es;
}
