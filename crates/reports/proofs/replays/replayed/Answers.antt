use Rattle.std.proofs.Common.{length, sym, ap, ◌∙◌}
use Rattle.std.proofs.lemmas.List.{length-map}
use Rattle.std.specs.Option.{option_map}
use Rattle.fs_lang.specs.Meaning.{program_of}
use Rattle.reports.proofs.ReplayLaws.{has_programs}
use Rattle.reports.proofs.replays.replayed.Goals as goal

pub replayed_in-requires : goal.replayed_in-requires
replayed_in-requires c =
    let m = c.args.made.now in
    let is = c.requires.order in
    has_programs (option_map (λ b. b.now) c.args.text) m.catalog m.graph c.in_ok-order.order c.as_slice-turns.result.now c.as_slice-programs.result.now c.as_slice-turns.ensures
    (ap length c.as_slice-programs.ensures ∙ sym (length-map m.programs program_of) ∙ is.count ∙ is.many) c.in_ok-order.ensures.order
