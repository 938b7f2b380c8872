use Rattle.std.proofs.Common.{◌≡◌, List, map, length, sym, ap, subst, ◌∙◌}
use Rattle.std.proofs.lemmas.List.{length-map}
use Rattle.fs_semantics.specs.Programs.{Program}
use Rattle.fs_semantics.specs.Orders.{Told, IsDeterministic, Succeeds}
use Rattle.fs_lang.specs.Meaning.{program_of}
use Rattle.given_hosts.specs.Guard.{guarded, guard_before, GoesFirst}
use Rattle.orders.specs.Relation.{comes}
use Rattle.success.specs.Questions.{StatesEnd, IsEnd}
use Rattle.success.specs.Answers.{AnswersEnd}
use Rattle.given_verdict.proofs.EndLaws.{states, shown}
use Rattle.given_verdict.proofs.ends.end_guarded.Goals as goal

pub ask_end-requires-clause-deterministic : goal.ask_end-requires-clause-deterministic
ask_end-requires-clause-deterministic c =
    let es = map program_of c.args.asked.now.plan.now.programs.now in
    let order = c.args.asked.now.plan.now.order.now in
    let given = c.args.asked.now.given.now in
    let more = c.in_ok-graph.graph.order in
    let long : length es ≡ order.count = length-map c.args.asked.now.plan.now.programs.now program_of ∙ c.args.asked.now.plan.now.count in
    let goes = subst (λ n. GoesFirst n (comes order) (guard_before order.count (comes order))) (sym long) (c.guards.ensures.goes order.count (comes order)) in
    let sure = (c.guarded_graphs.ensures.deterministic given es (comes order) (guard_before order.count (comes order)) goes).1 c.requires.deterministic in
    let are = ap (map program_of) c.as_slice.ensures ∙ c.in_ok-graph.ensures.programs in
    subst (λ (gs : List Program). IsDeterministic gs (Told (comes more))) (sym are) (subst (λ b. IsDeterministic (guarded given es) (Told b)) (sym c.in_ok-graph.ensures.order) sure)

pub returns-in-Refuted : goal.returns-in-Refuted
returns-in-Refuted c =
    let es = map program_of c.args.asked.now.plan.now.programs.now in
    let order = c.args.asked.now.plan.now.order.now in
    let given = c.args.asked.now.given.now in
    let more = c.in_ok-graph.graph.order in
    let long : length es ≡ order.count = length-map c.args.asked.now.plan.now.programs.now program_of ∙ c.args.asked.now.plan.now.count in
    let goes = subst (λ n. GoesFirst n (comes order) (guard_before order.count (comes order))) (sym long) (c.guards.ensures.goes order.count (comes order)) in
    let are = ap (map program_of) c.as_slice.ensures ∙ c.in_ok-graph.ensures.programs in
    let found = subst (AnswersEnd (map program_of c.as_slice.result.now) more c.args.asked.now.budget) c.in-Refuted.is c.in_ok-found.ensures in
    let fails = subst (λ (gs : List Program). Succeeds gs (Told (comes more)) → ⊥) are found.0 in
    let law = c.guarded_graphs.ensures.succeeds given es (comes order) (guard_before order.count (comes order)) goes in
    let count = sym (ap length c.in_ok-graph.ensures.programs) ∙ length-map c.in_ok-graph.graph.programs program_of ∙ c.in_ok-graph.ensures.count in
    let first = c.has_first_extension.ensures in
    let whole = c.has_first_extension-2.ensures in
    let stated = subst (λ (gs : List Program). StatesEnd gs more c.in-Refuted.verified.formula) are found.1 in (
      (λ s. fails (subst (λ b. Succeeds (guarded given es) (Told b)) (sym c.in_ok-graph.ensures.order) (law.1 s))),
      states given es order long c.requires.deterministic more count c.in_ok-graph.ensures.order c.requires.given first.first whole.first
          (record { allowed = first.allowed; least = first.least }) (record { allowed = whole.allowed; least = whole.least })
          c.in-Refuted.verified.formula stated,
      found.2,
    )

pub returns-in-Shown : goal.returns-in-Shown
returns-in-Shown c =
    let es = map program_of c.args.asked.now.plan.now.programs.now in
    let order = c.args.asked.now.plan.now.order.now in
    let given = c.args.asked.now.given.now in
    let more = c.in_ok-graph.graph.order in
    let long : length es ≡ order.count = length-map c.args.asked.now.plan.now.programs.now program_of ∙ c.args.asked.now.plan.now.count in
    let are = ap (map program_of) c.as_slice.ensures ∙ c.in_ok-graph.ensures.programs in
    let found = subst (AnswersEnd (map program_of c.as_slice.result.now) more c.args.asked.now.budget) c.in-Shown.is c.in_ok-found.ensures in
    let count = sym (ap length c.in_ok-graph.ensures.programs) ∙ length-map c.in_ok-graph.graph.programs program_of ∙ c.in_ok-graph.ensures.count in
    shown given es order long c.requires.deterministic more count c.in_ok-graph.ensures.order c.in-Shown.witness c.in_ok-run_of-in-Shown.field-0
    (subst (λ (gs : List Program). IsEnd gs more c.in-Shown.witness) are found) c.in_ok-run_of-in-Shown.ensures

pub returns : goal.returns
returns c =
    let es = map program_of c.args.asked.now.plan.now.programs.now in
    let order = c.args.asked.now.plan.now.order.now in
    let given = c.args.asked.now.given.now in
    let more = c.in_ok-graph.graph.order in
    let long : length es ≡ order.count = length-map c.args.asked.now.plan.now.programs.now program_of ∙ c.args.asked.now.plan.now.count in
    let are = ap (map program_of) c.as_slice.ensures ∙ c.in_ok-graph.ensures.programs in
    let found = subst (AnswersEnd (map program_of c.as_slice.result.now) more c.args.asked.now.budget) c.in-Spent.is c.in_ok-found.ensures in
    let first = c.has_first_extension.ensures in
    let whole = c.has_first_extension-2.ensures in
    let count = sym (ap length c.in_ok-graph.ensures.programs) ∙ length-map c.in_ok-graph.graph.programs program_of ∙ c.in_ok-graph.ensures.count in (
      states given es order long c.requires.deterministic more count c.in_ok-graph.ensures.order c.requires.given first.first whole.first
          (record { allowed = first.allowed; least = first.least }) (record { allowed = whole.allowed; least = whole.least })
          c.in-Spent.cnf (subst (λ (gs : List Program). StatesEnd gs more c.in-Spent.cnf) are found.0),
      found.1,
    )
