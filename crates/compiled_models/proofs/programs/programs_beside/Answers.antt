-- That the programs of native resources are made one after another.
use Rattle.std.proofs.Common.{◌∷◌, ◌+◌, [], List, Result, drop, map, subst, arith}
use Rattle.rh_base.specs.declared.fault.Refusal.{Refusal}
use Rattle.fs_semantics.specs.Programs.{Program}
use Rattle.fs_lang.specs.Meaning.{program_of}
use Rattle.compiled_models.specs.Programs.{Native, natives_at, programs_behind}
use Rattle.compiled_models.specs.Hosts.{setting_of, native_of}
use Rattle.compiled_models.proofs.NativeLaws.{next_at}
use Rattle.compiled_models.proofs.ProgramLaws.{AreMade, more_made, none_more}
use Rattle.compiled_models.proofs.programs.programs_beside.Goals.{After-push_program}
use Rattle.compiled_models.proofs.programs.programs_beside.Goals as goal

module _ (c : After-push_program) where
  -- the resources that are left behind this one
  abbrev rest : List Native
  rest = natives_at c.args.host.now.catalog.now.resources c.args.catalog.now.resources (drop (c.loop-place.place-index + 1) c.args.plain.now)

  -- what all of them give
  abbrev whole : Result (List Program) Refusal
  whole = programs_behind (setting_of c.args.host.now) c.args.edits.now [] (natives_at c.args.host.now.catalog.now.resources c.args.catalog.now.resources c.args.plain.now)

  -- with the resource of this turn in front, those behind it are left
  left : AreMade (setting_of c.args.host.now) c.args.edits.now c.loop-place.places (map program_of c.loop-place.made) (native_of c.native_at-n.result ∷ rest) whole
  left =
      subst (λ ns. AreMade (setting_of c.args.host.now) c.args.edits.now c.loop-place.places (map program_of c.loop-place.made) ns whole)
      (next_at c.args.host.now.catalog.now.resources c.args.catalog.now.resources c.args.plain.now c.loop-place.place-index (c.loop-place.place-index + 1) _ (native_of c.native_at-n.result) (omega arith) c.loop-place-test.true
      c.native_at-n.ensures.place c.native_at-n.ensures.text c.native_at-n.ensures.resource)
      c.loop-place.invariant

pub returns-in-Err : goal.returns-in-Err
returns-in-Err c =
    let at = (goal.at.returns-in-Err c).After-push_program in
    none_more (setting_of c.args.host.now) c.args.edits.now c.loop-place.places c.push_program.new.places (map program_of c.loop-place.made) (map program_of c.push_program.new.into) (native_of c.native_at-n.result) (rest at) (whole at) c.in-Err.fault
    (left at) c.in-Err.ensures

pub loop-place-preserved : goal.loop-place-preserved
loop-place-preserved c =
    let at = (goal.at.loop-place-preserved c).After-push_program in
    more_made (setting_of c.args.host.now) c.args.edits.now c.loop-place.places c.push_program.new.places (map program_of c.loop-place.made) (map program_of c.push_program.new.into) (native_of c.native_at-n.result) (rest at) (whole at)
    (left at) c.in-Ok.ensures
