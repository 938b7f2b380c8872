use Rattle.std.proofs.Common.{[], ◌∷◌, map, length, length-append, sym, ap, subst, arith}
use Rattle.fs_lang.specs.Meaning.{program_of}
use Rattle.commute_prune.specs.Numbered.{StandsFor, AreOf}
use Rattle.commute_prune.proofs.MatrixLaws.{map_at, one_more_of}
use Rattle.commute_prune.proofs.matrix.number_programs.Goals as goal

pub loop-program-preserved : goal.loop-program-preserved
loop-program-preserved c =
    let i = c.loop-program.program-index in
    let es = c.args.programs.now in
    let at = map_at es i c.program-item.result c.loop-program-test.true c.program-item.is in
    record {
      numbering = c.in_ok-sets.ensures.numbering;
      long = omega (arith, ap length c.in_ok-push.ensures.items, length-append c.loop-program.all.items (c.in_ok-sets.sets ∷ []), c.loop-program.invariant.long);
      stand = subst (AreOf c.number_one.new.numbers (map program_of es)) (sym c.in_ok-push.ensures.items)
          (one_more_of c.loop-program.numbers c.number_one.new.numbers (map program_of es) c.loop-program.all.items c.in_ok-sets.sets i c.in_ok-sets.ensures.extends c.loop-program.invariant.long c.loop-program.invariant.stand
          (subst (λ e. StandsFor c.number_one.new.numbers e c.in_ok-sets.sets) (sym at) c.in_ok-sets.ensures.stands));
    }
