use Rattle.tree_differences.proofs.PlacedLaws.{when_ok, listed_after, kept_after, there_after}
use Rattle.std.proofs.Common.{sym}
use Rattle.std.proofs.lemmas.Bool.{both_ways}
use Rattle.tree_differences.proofs.comparing.add.Goals as goal

pub returns-clause-listed : goal.returns-clause-listed
returns-clause-listed c = when_ok c.place.result (λ e. listed_after c.args.first.now c.args.second.now _ c.args.into.now.items c.place.new.list.items e c.in_ok-text.ensures
    (record { first = sym c.get-left.ensures; second = sym c.get-right.ensures; differ = λ same. both_ways c.same_found.result c.if-same_found.false (c.same_found.ensures.1 same) })) c.place.ensures

pub returns-clause-keeps : goal.returns-clause-keeps
returns-clause-keeps c = when_ok c.place.result (λ e. kept_after _ c.args.into.now.items c.place.new.list.items e) c.place.ensures

pub returns-clause-there : goal.returns-clause-there
returns-clause-there c = when_ok c.place.result (λ e differ. there_after _ c.args.into.now.items c.place.new.list.items e c.in_ok-text.ensures) c.place.ensures
