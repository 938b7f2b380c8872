use Rattle.std.proofs.Common.{not, ap, sym, ◌∙◌}
use Rattle.pkg_listing.proofs.SetLaws.{told, stays, grows}
use Rattle.pkg_listing.proofs.paths.PathSet.insert.Goals as goal

pub returns-then-is_some-clause-new : goal.returns-then-is_some-clause-new
returns-then-is_some-clause-new c =
    let there = told c.path_texts.ensures.same c.paths.ensures.same c.self.inside.paths c.args.p.now c.as_str.result.now c.find.result c.args.self.now c.self.invariant c.segments.ensures.segments (c.as_str.ensures ∙ c.in_ok-text.ensures) c.find.ensures c.self.view_is in
    ap not (sym c.if-is_some.true ∙ c.is_some.ensures ∙ there)

pub returns-then-is_some-clause-paths : goal.returns-then-is_some-clause-paths
returns-then-is_some-clause-paths c =
    let there = told c.path_texts.ensures.same c.paths.ensures.same c.self.inside.paths c.args.p.now c.as_str.result.now c.find.result c.args.self.now c.self.invariant c.segments.ensures.segments (c.as_str.ensures ∙ c.in_ok-text.ensures) c.find.ensures c.self.view_is in
    stays c.args.p.now c.args.self.now (sym there ∙ (sym c.is_some.ensures ∙ c.if-is_some.true))

pub returns-clause-new : goal.returns-clause-new
returns-clause-new c =
    let there = told c.path_texts.ensures.same c.paths.ensures.same c.self.inside.paths c.args.p.now c.as_str.result.now c.find.result c.args.self.now c.self.invariant c.segments.ensures.segments (c.as_str.ensures ∙ c.in_ok-text.ensures) c.find.ensures c.self.view_is in
    ap not (sym c.if-is_some.false ∙ c.is_some.ensures ∙ there)

pub returns-clause-paths : goal.returns-clause-paths
returns-clause-paths c =
    let there = told c.path_texts.ensures.same c.paths.ensures.same c.self.inside.paths c.args.p.now c.as_str.result.now c.find.result c.args.self.now c.self.invariant c.segments.ensures.segments (c.as_str.ensures ∙ c.in_ok-text.ensures) c.find.ensures c.self.view_is in
    grows c.self.inside.paths c.push.new.self c.in_ok-text.text c.in_ok-copy.copy c.args.p.now c.args.self.now c.in_ok-push.ensures.ok c.in_ok-copy.ensures c.self.view_is (sym there ∙ (sym c.is_some.ensures ∙ c.if-is_some.false))
