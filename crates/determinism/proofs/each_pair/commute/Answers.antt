use Rattle.std.proofs.Common.{map, subst, ◌∙◌, arith}
use Rattle.std.proofs.lemmas.Result.{IfOk-weaker}
use Rattle.std.proofs.lemmas.List.{length-map}
use Rattle.fs_semantics.specs.Orders.{Told, FreeCommute}
use Rattle.fs_lang.specs.Meaning.{program_of}
use Rattle.orders.specs.Relation.{comes}
use Rattle.determinism.proofs.EachPairLaws.{two_commute, some_by}
use Rattle.determinism.proofs.each_pair.commute.Goals as goal

pub returns : goal.returns
returns c = IfOk-weaker c.refuted.result _ _ (λ found is.
    let two = c.in_ok-two.two in
    let before = Told (comes c.in_ok-order.order) in
    some_by found (λ none.
    two_commute (map program_of c.args.programs.now) (map program_of two) before c.args.a c.args.b (length-map two program_of ∙ c.in_ok-two.ensures.long)
    (record { differ = λ same. absurd (omega (arith, same)); not_before = c.in_ok-order.ensures.free 0 1; not_after = c.in_ok-order.ensures.free 1 0 })
    c.in_ok-two.ensures.first c.in_ok-two.ensures.second
    (subst (λ xs. FreeCommute (map program_of xs) before) c.as_slice.ensures (c.in_ok-cnf.ensures.states.0 none))) is) c.refuted.ensures.no_model
