use Rattle.std.proofs.Common.{◌≡◌, map, length, sym, ap, subst, ◌∙◌}
use Rattle.std.proofs.lemmas.Result.{IfOk-weaker}
use Rattle.std.proofs.lemmas.List.{length-map}
use Rattle.fs_semantics.specs.Orders.{up_from}
use Rattle.fs_lang.specs.Meaning.{program_of}
use Rattle.orders.specs.Relation.{comes}
use Rattle.given_hosts.specs.Guard.{guard_before, GoesFirst}
use Rattle.given_hosts.proofs.GuardLaws.{goes_first}
use Rattle.given_verdict.proofs.SideLaws.{Side}
use Rattle.given_entry.proofs.WithoutLaws.{has_orders, entry_from}
use Rattle.given_entry.proofs.ensuring.guarded_entry.Goals as goal

pub ensured_without-requires : goal.ensured_without-requires
ensured_without-requires c = has_orders (map program_of c.as_slice.result.now) c.in_ok-graph.graph.order c.args.wanted.now c.args.budget c.in_ok-answered.answered c.in_ok-answered.ensures

pub returns : goal.returns
returns c = IfOk-weaker c.ensured_without.result _ _ (λ without is.
    let es = map program_of c.args.plan.now.programs.now in
    let order = c.args.plan.now.order.now in
    let given = c.args.given.now in
    let graph = c.in_ok-graph.graph in
    let long : length es ≡ order.count = length-map c.args.plan.now.programs.now program_of ∙ c.args.plan.now.count in
    let goes = subst (λ n. GoesFirst n (comes order) (guard_before order.count (comes order))) (sym long) (goes_first order.count (comes order)) in
    let side : Side given es order graph.order = record {
      long = long;
      before = c.in_ok-graph.ensures.order;
      count = ap length (sym c.in_ok-graph.ensures.programs) ∙ length-map graph.programs program_of ∙ c.in_ok-graph.ensures.count;
      kept_by = λ kept k. c.guard_is_pruned.ensures given es (comes order) (guard_before order.count (comes order)) goes kept k;
      one = λ kept left k l. (c.pruning.ensures.one es (comes order) k.0 l.0 (up_from 0 (length es)) kept left k.1 l.1).1;
      few = λ kept k. (c.pruning.ensures.some es (comes order) k.0 kept (c.pruning.ensures.leads es (comes order) k.0 (up_from 0 (length es)) kept k.1)).few;
      first = c.has_first_extension.ensures.first;
      whole = c.has_first_extension-2.ensures.first;
      is_first = record { allowed = c.has_first_extension.ensures.allowed; least = c.has_first_extension.ensures.least };
      is_whole = record { allowed = c.has_first_extension-2.ensures.allowed; least = c.has_first_extension-2.ensures.least };
    } in
    entry_from given c.requires.given es order graph.order side c.args.wanted.now c.args.budget (map program_of c.as_slice.result.now) c.in_ok-answered.answered without
    (ap (map program_of) c.as_slice.ensures ∙ c.in_ok-graph.ensures.programs) c.in_ok-answered.ensures is) c.ensured_without.ensures
