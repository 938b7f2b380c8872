use Rattle.std.proofs.Common.{◌≡◌, map, length, reverse, sym, ap, subst, ◌∙◌, arith}
use Rattle.std.proofs.lemmas.List.{length-map}
use Rattle.fs_semantics.specs.Orders.{up_from}
use Rattle.fs_lang.specs.Meaning.{program_of}
use Rattle.commute_prune.specs.Matrix.{IsMatrix}
use Rattle.commute_prune.specs.Pruned.{Finds}
use Rattle.commute_prune.proofs.PrunedLaws.{up_rises, finds_prunes, lates_reversed}
use Rattle.commute_prune.proofs.settling.prune.Goals as goal
use Rattle.fs_semantics.proofs.Ground.{up_below}

pub returns : goal.returns
returns c =
    let es = map program_of c.args.programs.now in
    let order = c.args.order.now in
    let rows = c.as_slice.result.now in
    let kept = c.settle.new.p.kept in
    let long : length es ≡ order.count = length-map c.args.programs.now program_of ∙ c.requires in
    let settled = c.in_ok-settle.ensures in
    let matrix : IsMatrix es rows = subst (IsMatrix es) (sym c.as_slice.ensures) c.in_ok-clear.ensures in
    record {
      moves = settled.moves;
      prunes = finds_prunes es order rows matrix long settled.moves (up_from 0 (length es)) kept (up_rises 0 (length es)) (up_below 0 (length es) order.count (omega (arith, long)))
          (subst (λ n. Finds order rows settled.moves (up_from 0 n) kept) (sym long) settled.found);
      first_is = settled.first_is;
      last_is = c.from_vec.ensures ∙ c.reverse.ensures.items ∙ ap reverse settled.late_is ∙ lates_reversed settled.moves;
    }
