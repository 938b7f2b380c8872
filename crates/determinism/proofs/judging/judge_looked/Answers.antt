use Rattle.std.proofs.Common.{map, subst, refl, get_or}
use Rattle.fs_lang.specs.Meaning.{program_of}
use Rattle.orders.specs.Relation.{comes}
use Rattle.sure_folders.specs.Pruning.{chosen}
use Rattle.determinism.specs.Settled.{IsSettled}
use Rattle.determinism.proofs.JudgeLaws.{pruned, stated_by_any, judged_proved, judged_differs}
use Rattle.determinism.proofs.judging.judge_looked.Goals as goal

pub returns-in-Alike : goal.returns-in-Alike
returns-in-Alike c =
    let es = map program_of c.args.plan.now.programs.now in
    let order = c.args.plan.now.order.now in
    let is = c.requires.kept in
    let ks = c.args.kept.now.pruned.kept in
    let sure = subst (IsSettled es order) c.in-Alike.is c.in_ok-settled.ensures in
    let decided = c.determinism_is_decided.ensures.decided (chosen es ks) (λ a b. comes order (get_or ks a 0) (get_or ks b 0)) in
    judged_proved is c.pruning.ensures.one c.requires.some (pruned is c.args.plan.now.programs.now _ refl c.args.plan.now.count c.pruned_count-pruned.ensures) sure.0
    (stated_by_any is decided sure.0 c.in-Alike.verified.formula sure.1) sure.1

pub returns-in-Differ : goal.returns-in-Differ
returns-in-Differ c =
    let es = map program_of c.args.plan.now.programs.now in
    let order = c.args.plan.now.order.now in
    let is = c.requires.kept in
    let found = subst (IsSettled es order) c.in-Differ.is c.in_ok-settled.ensures in
    judged_differs is c.pruning.ensures.one c.requires.some (pruned is c.args.plan.now.programs.now _ refl c.args.plan.now.count c.pruned_count-pruned.ensures) found
