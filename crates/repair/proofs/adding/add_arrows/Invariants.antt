use Rattle.std.proofs.Common.{map}
use Rattle.fs_lang.specs.Meaning.{program_of}
use Rattle.repair.specs.Arrows.{IsOrderWith}
use Rattle.repair.specs.Steps.{WereMissing, pairs_left}
use Rattle.repair.proofs.adding.add_arrows.Given as goal

abbrev pub invariant-looks : goal.invariant-looks
invariant-looks l = record {
  made : IsOrderWith l.plan.order.now l.arrows l.now;
  missing : WereMissing (map program_of l.plan.programs.now) l.plan.order.now l.arrows;
}

abbrev pub decreases-looks : goal.decreases-looks
decreases-looks l = pairs_left l.now
