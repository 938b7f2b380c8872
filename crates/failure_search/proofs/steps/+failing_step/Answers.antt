use Rattle.std.proofs.Common.{◌+◌, ◌-◌, ◌<◌, ◌≤◌, length, rules, sym, subst, ◌∙◌, arith}
use Rattle.std.specs.List.{AllByRecursion}
use Rattle.fs_lang.specs.Meaning.{program_of}
use Rattle.fs_lang.proofs.SizeLaws.{item_smaller}
use Rattle.failure_search.proofs.FindLaws.{ok_map}
use Rattle.failure_search.proofs.StepLaws.{a_step, all_end, below_all, leads, step_fails, rest_run, rest_shorter, rest_smaller, rest_leads_in}
use Rattle.failure_search.proofs.steps.+failing_step.Goals as goal
use Rattle.fs_semantics.proofs.Ground.{up_below}

pub search-requires : goal.search-requires
search-requires t c =
    let within : 0 + c.min-n.result ≤ length c.args.steps.now = omega arith in
    subst (AllByRecursion (λ i. i < length c.args.steps.now)) (sym (c.as_slice.ensures ∙ c.in_ok-order.ensures)) (up_below 0 c.min-n.result (length c.args.steps.now) within)

pub bounds-steps-i : goal.bounds-steps-i
bounds-steps-i t c =
    let within : c.min-n.result ≤ length c.args.steps.now = omega arith in
    let step = a_step c.args.steps.now c.min-n.result c.in-Fails.i c.in_ok-order.order c.as_slice.result.now c.in_ok-i.field-0 c.args.tree.now c.in-Fails.reached c.as_slice.ensures c.in_ok-order.ensures c.in-Fails.is c.in_ok-i.ensures in
    below_all c.min-n.result c.in-Fails.i (length c.args.steps.now) within step.below

pub offset_bounds-steps-i : goal.offset_bounds-steps-i
offset_bounds-steps-i t c =
    let within : c.min-n.result ≤ length c.args.steps.now = omega arith in
    let step = a_step c.args.steps.now c.min-n.result c.in-Fails.i c.in_ok-order.order c.as_slice.result.now c.in_ok-i.field-0 c.args.tree.now c.in-Fails.reached c.as_slice.ensures c.in_ok-order.ensures c.in-Fails.is c.in_ok-i.ensures in
    let below : c.in-Fails.i < length c.args.steps.now = below_all c.min-n.result c.in-Fails.i (length c.args.steps.now) within step.below in
    search rules

pub returns-in-Fails-clause-fails : goal.returns-in-Fails-clause-fails
returns-in-Fails-clause-fails t c =
    let within : c.min-n.result ≤ length c.args.steps.now = omega arith in
    let step = a_step c.args.steps.now c.min-n.result c.in-Fails.i c.in_ok-order.order c.as_slice.result.now c.in_ok-i.field-0 c.args.tree.now c.in-Fails.reached c.as_slice.ensures c.in_ok-order.ensures c.in-Fails.is c.in_ok-i.ensures in
    step_fails c.args.steps.now c.min-n.result c.in-Fails.i c.index-steps-i.result c.in-Fails.reached within step.below c.index-steps-i.is step.fails

pub returns-in-Fails-clause-leads : goal.returns-in-Fails-clause-leads
returns-in-Fails-clause-leads t c =
    let within : c.min-n.result ≤ length c.args.steps.now = omega arith in
    let step = a_step c.args.steps.now c.min-n.result c.in-Fails.i c.in_ok-order.order c.as_slice.result.now c.in_ok-i.field-0 c.args.tree.now c.in-Fails.reached c.as_slice.ensures c.in_ok-order.ensures c.in-Fails.is c.in_ok-i.ensures in
    leads c.args.steps.now c.min-n.result c.in-Fails.i c.index-steps-i.result c.args.tree.now c.in-Fails.reached within step.below c.index-steps-i.is step.ends

pub returns-in-Fails-clause-smaller : goal.returns-in-Fails-clause-smaller
returns-in-Fails-clause-smaller t c =
    let within : c.min-n.result ≤ length c.args.steps.now = omega arith in
    let step = a_step c.args.steps.now c.min-n.result c.in-Fails.i c.in_ok-order.order c.as_slice.result.now c.in_ok-i.field-0 c.args.tree.now c.in-Fails.reached c.as_slice.ensures c.in_ok-order.ensures c.in-Fails.is c.in_ok-i.ensures in
    item_smaller c.args.steps.now c.in-Fails.i c.index-steps-i.result (below_all c.min-n.result c.in-Fails.i (length c.args.steps.now) within step.below) c.index-steps-i.is

pub failing_step-requires : goal.failing_step-requires
failing_step-requires t c =
    let within : c.min-n.result ≤ length c.args.steps.now = omega arith in
    let ends = all_end c.args.steps.now c.min-n.result c.in_ok-order.order c.as_slice.result.now c.in_ok-i.field-0 c.args.tree.now c.in-Ends.ended c.as_slice.ensures c.in_ok-order.ensures c.in-Ends.is c.in_ok-i.ensures in
    let shorter = rest_shorter c.args.steps.now c.min-n.result c.args.tree.now within (λ h. omega arith) c.requires in
    let none = rest_run c.args.steps.now c.min-n.result c.args.tree.now c.in-Ends.ended within ends c.requires in
    search rules

pub returns-clause-leads : goal.returns-clause-leads
returns-clause-leads t c =
    let within : c.min-n.result ≤ length c.args.steps.now = omega arith in
    let ends = all_end c.args.steps.now c.min-n.result c.in_ok-order.order c.as_slice.result.now c.in_ok-i.field-0 c.args.tree.now c.in-Ends.ended c.as_slice.ensures c.in_ok-order.ensures c.in-Ends.is c.in_ok-i.ensures in
    ok_map c.failing_step.result (λ x inner. rest_leads_in c.args.steps.now c.min-n.result c.args.tree.now c.in-Ends.ended within ends (program_of x.0.now) x.1 inner) c.failing_step.ensures.leads

pub returns-clause-smaller : goal.returns-clause-smaller
returns-clause-smaller t c =
    let less = rest_smaller c.args.steps.now c.min-n.result in
    ok_map c.failing_step.result (λ x inner. omega (arith, less, inner)) c.failing_step.ensures.smaller
