use Rattle.std.proofs.Common.{◌+◌, ap, sym, ◌∙◌, drop}
use Rattle.pp_value.specs.Keys.{with_pairs}
use Rattle.catalog_semantics.specs.States.{defaults_of}
use Rattle.pp_declaration_state.proofs.DefaultLaws.{next_default}
use Rattle.pp_declaration_state.proofs.defaults.defaults_of.Goals as goal
use Rattle.rh_base.proofs.Lists.{drop_step}

pub loop-d-preserved : goal.loop-d-preserved
loop-d-preserved c =
    ap (λ pairs. with_pairs pairs (defaults_of c.args.kind.now (drop (c.loop-d.d-index + 1) c.args.defaults.now))) c.in_ok-put_default.ensures
    ∙ (sym (next_default c.args.kind.now c.d-item.result (drop (c.loop-d.d-index + 1) c.args.defaults.now) c.loop-d.all)
    ∙ (ap (λ ds. with_pairs c.loop-d.all (defaults_of c.args.kind.now ds)) (sym (drop_step c.args.defaults.now c.loop-d.d-index c.d-item.result c.d-item.result c.loop-d-test.true c.d-item.is))
    ∙ c.loop-d.invariant))
