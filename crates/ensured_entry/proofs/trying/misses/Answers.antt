use Rattle.std.proofs.Common.{map, sym, ap, ◌∙◌}
use Rattle.fs_semantics.specs.Orders.{outcome}
use Rattle.fs_lang.specs.Meaning.{program_of}
use Rattle.fs_lang.specs.Outcomes.{outcome_of}
use Rattle.ensured_entry.proofs.RunLaws.{ended}
use Rattle.ensured_entry.proofs.trying.misses.Goals as goal

pub returns-in-Ended : goal.returns-in-Ended
returns-in-Ended c =
    ended (outcome (map program_of c.args.programs.now) c.args.order.now c.args.tree.now) c.in-Ended.after c.args.wanted.now c.is_in.result (sym (ap outcome_of c.in-Ended.is) ∙ c.in_ok-after.ensures) c.is_in.ensures
