use Rattle.std.proofs.Common.{◌≡◌, ◌<◌, ◌==◌, true, false, map, refl, subst, sym, ◌∙◌, arith, eqb-true}
use Rattle.std.proofs.lemmas.Bool.{eqb-false}
use Rattle.bool_circuit.specs.Gates.{wire_value}
use Rattle.fs_semantics.specs.Orders.{IsFree}
use Rattle.fs_lang.specs.Meaning.{program_of}
use Rattle.orders.specs.Relation.{Comes}
use Rattle.order_encode.specs.Goals.{are_these, EndApartAt}
use Rattle.order_encode.proofs.ForkLaws.{below, at_either, one_of, themselves, these_turned, free_turned, apart_turned}
use Rattle.order_circuit.specs.Codes.{node}
use Rattle.order_encode.proofs.GrowthLaws.{◌>>◌, still_stands, fork_stays}
use Rattle.order_encode.proofs.fork.some_pair_differs.Goals as goal

pub loop-i-init : goal.loop-i-init
loop-i-init c =
    let g = c.constant.ensures.grows in
    record {
      wire = c.in_ok-wire.ensures.gives.owned;
      fork = fork_stays g c.requires.fork;
      found = λ v o h m n low less high free these apart. absurd (omega (arith, low));
      grows = g;
    }

pub loop-i-preserved : goal.loop-i-preserved
loop-i-preserved c =
    let before = c.loop-i.invariant in
    let i = c.loop-i.i in
    let first = c.args.fork.now.first.now in
    let second = c.args.fork.now.second.now in
    let order = c.args.plan.now.order in
    let es = map program_of c.args.plan.now.programs in
    let row = c.in_ok-with_row.ensures in
    record {
      wire = row.wire;
      fork = fork_stays c.with_row.ensures.grows before.fork;
      grows = before.grows >> c.with_row.ensures.grows;
      found = λ v o h m n low less high free these apart. elim (m == i) as (λ b. (m == i) ≡ b → wire_value c.with_row.new.sym v c.with_row.new.goal.wire.0 ≡ true) [
        | true ↦ λ e.
            let same = eqb-true m i e in
            let h1 = still_stands c.args.plan.now.domain.table o before.grows c.requires.fork.cells v h in
            let first_is = before.grows.code first c.requires.fork.first v in
            let second_is = before.grows.code second c.requires.fork.second v in
            row.found v o h1 n (subst (λ k. k < n) same less) high (subst (λ k. IsFree (Comes order) k n) same free)
            ((λ t. are_these (sym same t) n (first_is t) (second_is t)) ∙ these)
            (subst (λ k. EndApartAt es o k n) same apart)
        | false ↦ λ e.
            let other = eqb-false m i e in
            row.stays v (before.found v o h m n (below m i low other) less high free these apart)
      ] refl;
    }

pub returns-in_err-with_row-clause-grows : goal.returns-in_err-with_row-clause-grows
returns-in_err-with_row-clause-grows c = c.loop-i.invariant.grows >> c.with_row.ensures.grows

pub returns-clause-found : goal.returns-clause-found
returns-clause-found c = λ v o h nodes apart.
    let before = c.loop-i.invariant in
    let g0 = c.args.sym.now in
    let x = node g0 v c.args.fork.now.first.now in
    let y = node g0 v c.args.fork.now.second.now in
    let es = map program_of c.args.plan.now.programs in
    let found = before.found v o h in
    let first = nodes.first in
    let second = nodes.second in
    at_either (one_of x y nodes.free.differ)
    (λ less. found x y (omega (arith, first)) less second nodes.free (themselves x y) apart)
    (λ less. found y x (omega (arith, second)) less first (free_turned (Comes c.args.plan.now.order) x y nodes.free) (these_turned x y x y (themselves x y)) (apart_turned es o x y apart))
