use Rattle.std.proofs.Common.{map, sym, subst, ◌∙◌}
use Rattle.std.proofs.lemmas.List.{length-map}
use Rattle.fs_semantics.specs.Orders.{Told, IsLinearExtension}
use Rattle.fs_lang.specs.Meaning.{program_of}
use Rattle.orders.specs.Relation.{comes}
use Rattle.order_encode.specs.Witnesses.{IsFirstExtension}
use Rattle.given_verdict.proofs.again.ask_on.Goals as goal

pub returns-then-all_keep : goal.returns-then-all_keep
returns-then-all_keep c =
    let es = map program_of c.args.asked.now.plan.now.programs.now in
    let order = c.args.asked.now.plan.now.order.now in
    let first = c.has_first_extension.ensures.first in
    let is_first : IsFirstExtension order first = record { allowed = c.has_first_extension.ensures.allowed; least = c.has_first_extension.ensures.least } in
    let allowed = subst (λ n. IsLinearExtension n (Told (comes order)) first) (sym (length-map c.args.asked.now.plan.now.programs.now program_of ∙ c.args.asked.now.plan.now.count)) c.has_first_extension.ensures.allowed in (
      c.second_runs.ensures.kept c.args.asked.now.given.now es (comes order) c.requires.deterministic c.are_proper.ensures (c.all_keep.ensures.keeps c.if-all_keep.true) first allowed
          (λ t h. c.requires.never t first (record { is_first = is_first; shows = h })),
      c.requires.same,
    )
