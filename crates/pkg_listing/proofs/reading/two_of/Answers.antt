use Rattle.std.proofs.Common.{◌∙◌, sym}
use Rattle.serde_json.specs.View.{view}
use Rattle.pkg_listing.proofs.FormLaws.{not_two, two_got}
use Rattle.pkg_listing.proofs.reading.two_of.Goals as goal

pub returns-then-not-are_two : goal.returns-then-not-are_two
returns-then-not-are_two c =
    not_two c.args.a.now c.args.b.now (view c.args.json.now) c.in_ok-members.members.now.entries c.in_ok-members.ensures (λ n. c.if-not-are_two.true (c.len-are_two.ensures.len ∙ n))

pub returns : goal.returns
returns c =
    two_got c.args.a.now c.args.b.now (view c.args.json.now) (view c.in_ok-first.first.now) (view c.in_ok-second.second.now) c.in_ok-members.members.now.entries
    c.in_ok-members.ensures (sym c.len-are_two.ensures.len ∙ c.if-not-are_two.false) c.in_ok-first.ensures c.in_ok-second.ensures
