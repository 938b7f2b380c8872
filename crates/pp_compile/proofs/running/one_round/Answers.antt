use Rattle.pp_compile.proofs.LookLaws.{looked_on}
use Rattle.pp_compile.proofs.running.one_round.Goals as goal

pub returns-clause-looked : goal.returns-clause-looked
returns-clause-looked c =
    looked_on c.args.site.now c.args.state.now c.realize_new.new.state c.evaluate.new.state c.all_looked.result (c.in-Some.place, c.in-Some.ensures.0) c.realize_new.ensures c.all_looked.ensures c.in-Some.ensures.1.0
    (c.in_ok-evaluate.ensures c.in-Some.ensures.0 c.in-Some.ensures.1.1)
