use Rattle.std.proofs.Common.{map}
use Rattle.fs_semantics.specs.Orders.{outcome}
use Rattle.fs_lang.specs.Meaning.{program_of}
use Rattle.fs_replay.proofs.CoverLaws.{three_ok}
use Rattle.fs_replay.proofs.OutcomeLaws.{outcome_parents, then_parents}
use Rattle.fs_replay.proofs.exchange.run_on.Goals as goal

pub returns : goal.returns
returns c =
    let es = map program_of c.args.ground.now.programs.now in
    let order = c.args.order.now in
    three_ok c.run_in_order.result (λ cells places stands o h. record {
      cells = cells;
      places = places;
      stands = stands o h.stands;
      parents = then_parents c.constructs.ensures.parents o (outcome es order) h.parents (λ t k. outcome_parents c.constructs.ensures.parents es order t k);
    }) c.run_in_order.ensures.cells c.run_in_order.ensures.places c.run_in_order.ensures.stands
