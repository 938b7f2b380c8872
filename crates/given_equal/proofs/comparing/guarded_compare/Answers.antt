use Rattle.std.proofs.Common.{◌≡◌, map, length, sym, ap, subst, ◌∙◌}
use Rattle.std.proofs.lemmas.Result.{IfOk-weaker}
use Rattle.std.proofs.lemmas.List.{length-map}
use Rattle.fs_semantics.specs.Orders.{up_from}
use Rattle.fs_lang.specs.Meaning.{program_of}
use Rattle.orders.specs.Relation.{comes}
use Rattle.given_hosts.specs.Guard.{guard_before, GoesFirst}
use Rattle.given_hosts.proofs.GuardLaws.{goes_first}
use Rattle.given_verdict.proofs.SideLaws.{Side}
use Rattle.given_equal.proofs.WithoutLaws.{has_orders, both_from}
use Rattle.given_equal.proofs.comparing.guarded_compare.Goals as goal

pub compared_without-requires : goal.compared_without-requires
compared_without-requires c =
    has_orders (map program_of c.as_slice.result.now) c.in_ok-one.one.order (map program_of c.as_slice-2.result.now) c.in_ok-second.second.order c.args.budget c.in_ok-answered.answered c.in_ok-answered.ensures

pub returns : goal.returns
returns c = IfOk-weaker c.compared_without.result _ _ (λ without is.
    let es = map program_of c.args.left.now.programs.now in
    let fs = map program_of c.args.right.now.programs.now in
    let order = c.args.left.now.order.now in
    let other = c.args.right.now.order.now in
    let given = c.args.given.now in
    let one = c.in_ok-one.one in
    let second = c.in_ok-second.second in
    let long : length es ≡ order.count = length-map c.args.left.now.programs.now program_of ∙ c.args.left.now.count in
    let other_long : length fs ≡ other.count = length-map c.args.right.now.programs.now program_of ∙ c.args.right.now.count in
    let goes = subst (λ n. GoesFirst n (comes order) (guard_before order.count (comes order))) (sym long) (goes_first order.count (comes order)) in
    let other_goes = subst (λ n. GoesFirst n (comes other) (guard_before other.count (comes other))) (sym other_long) (goes_first other.count (comes other)) in
    let side : Side given es order one.order = record {
      long = long;
      before = c.in_ok-one.ensures.order;
      count = ap length (sym c.in_ok-one.ensures.programs) ∙ length-map one.programs program_of ∙ c.in_ok-one.ensures.count;
      kept_by = λ kept k. c.guard_is_pruned.ensures given es (comes order) (guard_before order.count (comes order)) goes kept k;
      one = λ kept left k l. (c.pruning.ensures.one es (comes order) k.0 l.0 (up_from 0 (length es)) kept left k.1 l.1).1;
      few = λ kept k. (c.pruning.ensures.some es (comes order) k.0 kept (c.pruning.ensures.leads es (comes order) k.0 (up_from 0 (length es)) kept k.1)).few;
      first = c.has_first_extension.ensures.first;
      whole = c.has_first_extension-2.ensures.first;
      is_first = record { allowed = c.has_first_extension.ensures.allowed; least = c.has_first_extension.ensures.least };
      is_whole = record { allowed = c.has_first_extension-2.ensures.allowed; least = c.has_first_extension-2.ensures.least };
    } in
    let other_side : Side given fs other second.order = record {
      long = other_long;
      before = c.in_ok-second.ensures.order;
      count = ap length (sym c.in_ok-second.ensures.programs) ∙ length-map second.programs program_of ∙ c.in_ok-second.ensures.count;
      kept_by = λ kept k. c.guard_is_pruned.ensures given fs (comes other) (guard_before other.count (comes other)) other_goes kept k;
      one = λ kept left k l. (c.pruning.ensures.one fs (comes other) k.0 l.0 (up_from 0 (length fs)) kept left k.1 l.1).1;
      few = λ kept k. (c.pruning.ensures.some fs (comes other) k.0 kept (c.pruning.ensures.leads fs (comes other) k.0 (up_from 0 (length fs)) kept k.1)).few;
      first = c.has_first_extension-3.ensures.first;
      whole = c.has_first_extension-4.ensures.first;
      is_first = record { allowed = c.has_first_extension-3.ensures.allowed; least = c.has_first_extension-3.ensures.least };
      is_whole = record { allowed = c.has_first_extension-4.ensures.allowed; least = c.has_first_extension-4.ensures.least };
    } in
    both_from given c.requires.given es order one.order side fs other second.order other_side c.args.budget (map program_of c.as_slice.result.now) (map program_of c.as_slice-2.result.now) c.in_ok-answered.answered without
    (ap (map program_of) c.as_slice.ensures ∙ c.in_ok-one.ensures.programs) (ap (map program_of) c.as_slice-2.ensures ∙ c.in_ok-second.ensures.programs) c.in_ok-answered.ensures is) c.compared_without.ensures
