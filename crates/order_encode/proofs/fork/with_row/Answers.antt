use Rattle.std.proofs.Common.{◌≡◌, ◌==◌, true, false, map, refl, subst, sym, ◌∙◌, eqb-true}
use Rattle.std.proofs.lemmas.Bool.{eqb-false}
use Rattle.bool_circuit.specs.Gates.{wire_value}
use Rattle.fs_semantics.specs.Orders.{IsFree}
use Rattle.fs_lang.specs.Meaning.{program_of}
use Rattle.orders.specs.Relation.{Comes}
use Rattle.order_encode.specs.Goals.{are_these, EndApartAt}
use Rattle.order_encode.proofs.ForkLaws.{below}
use Rattle.order_encode.proofs.GrowthLaws.{◌>>◌, still_stands, fork_stays}
use Rattle.order_encode.proofs.fork.with_row.Goals as goal

pub loop-k-preserved : goal.loop-k-preserved
loop-k-preserved c =
    let before = c.loop-k.invariant in
    let i = c.args.i in
    let k = c.loop-k.k in
    let first = c.args.fork.now.first.now in
    let second = c.args.fork.now.second.now in
    let order = c.args.plan.now.order in
    let es = map program_of c.args.plan.now.programs in
    let pair = c.in_ok-with_pair.ensures in
    record {
      wire = pair.wire;
      fork = fork_stays c.with_pair.ensures.grows before.fork;
      grows = before.grows >> c.with_pair.ensures.grows;
      stays = λ v e. pair.stays v (before.stays v e);
      found = λ v o h n low high free these apart. elim (n == k) as (λ b. (n == k) ≡ b → wire_value c.with_pair.new.sym v c.with_pair.new.goal.wire.0 ≡ true) [
        | true ↦ λ e.
            let same = eqb-true n k e in
            let h1 = still_stands c.args.plan.now.domain.table o before.grows c.requires.fork.cells v h in
            let first_is = before.grows.code first c.requires.fork.first v in
            let second_is = before.grows.code second c.requires.fork.second v in
            pair.found v o h1 (subst (λ m. IsFree (Comes order) i m) same free)
            ((λ t. are_these i (sym same t) (first_is t) (second_is t)) ∙ these)
            (subst (λ m. EndApartAt es o i m) same apart)
        | false ↦ λ e.
            let other = eqb-false n k e in
            pair.stays v (before.found v o h n low (below n k high other) free these apart)
      ] refl;
    }

pub returns-in_err-with_pair-clause-grows : goal.returns-in_err-with_pair-clause-grows
returns-in_err-with_pair-clause-grows c = c.loop-k.invariant.grows >> c.with_pair.ensures.grows
