use Rattle.std.proofs.Common.{sym, subst}
use Rattle.std.specs.FinMap as finite
use Rattle.std.specs.Map.Iter.{deref_pair}
use Rattle.std.proofs.lemmas.Map.Iter.{rest_more, rest_all}
use Rattle.fs_lang.specs.Trees.{entries_of}
use Rattle.tree_differences.proofs.ListLaws.{HasAll, each_key}
use Rattle.tree_differences.proofs.comparing.add_all.Goals as goal

pub loop-p-preserved : goal.loop-p-preserved
loop-p-preserved c =
    let next = rest_more deref_pair c.loop-p.p-iterator c.next.new.self c.next.result (c.in-Some.p, c.in-Some.field-0-1) c.in-Some.is c.next.ensures.steps in
    record {
      listed = λ h. c.in_ok-add.ensures.listed (c.loop-p.invariant.listed h);
      keeps = λ text h. c.in_ok-add.ensures.keeps text (c.loop-p.invariant.keeps text h);
      there = λ ds more all. c.loop-p.invariant.there ds (λ text h. more text (c.in_ok-add.ensures.keeps text h))
          (subst (λ es. HasAll c.args.first.now c.args.second.now ds (entries_of es)) (sym next) ((λ d. more _ (c.in_ok-add.ensures.there d)), all));
    }

pub returns-clause-there : goal.returns-clause-there
returns-clause-there c =
    let rest = rest_all deref_pair c.loop-p.p-iterator c.next.new.self c.next.result c.in-None.is c.next.ensures.steps in
    λ p key d. each_key c.args.first.now c.args.second.now c.args.from.now c.loop-p.into.items p
    (c.loop-p.invariant.there c.loop-p.into.items (λ text h. h) (subst (λ es. HasAll c.args.first.now c.args.second.now c.loop-p.into.items (entries_of es)) (sym rest) tt)) key d
