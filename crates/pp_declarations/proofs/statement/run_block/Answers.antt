use Rattle.std.proofs.Common.{map, ap, ◌∙◌}
use Rattle.catalog_semantics.specs.declared.room.Room.{Room}
use Rattle.catalog_semantics.specs.States.{in_turn}
use Rattle.catalog_semantics.specs.Effects.{effect_at}
use Rattle.pp_declarations.proofs.StatementLaws.{answers_as, whole_block}
use Rattle.pp_declarations.proofs.statement.run_block.Goals as goal

pub returns : goal.returns
returns c =
    answers_as _ _ _ c.block.result
    (ap (λ (room : Room). in_turn (map (effect_at room c.args.site.now) c.args.body.now) c.args.state.now) c.whole.ensures
    ∙ whole_block c.args.site.now c.args.body.now c.args.state.now)
    c.block.ensures
