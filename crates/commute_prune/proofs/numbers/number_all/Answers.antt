use Rattle.std.proofs.Common.{◌++◌, [], ◌∷◌, ap, sym, subst, ◌∙◌, append_assoc}
use Rattle.std.specs.Map.Iter.{deref}
use Rattle.std.proofs.lemmas.Map.Iter.{rest_more}
use Rattle.fs_semantics.specs.FileTree.{is_among}
use Rattle.commute_prune.specs.Numbers.{AreNumbers}
use Rattle.commute_prune.proofs.NumberLaws.{one_number, among_last}
use Rattle.commute_prune.proofs.numbers.number_all.Goals as goal

pub loop-p-preserved : goal.loop-p-preserved
loop-p-preserved c =
    let p = c.in-Some.p.now in
    let front = c.loop-p.invariant.numbers.0 in
    let next = rest_more deref c.loop-p.p-iterator c.next.new.self c.next.result c.in-Some.p c.in-Some.is c.next.ensures.steps in
    record {
      numbering = c.in_ok-n.ensures.numbering;
      extends = λ q k h. c.in_ok-n.ensures.extends q k (c.loop-p.invariant.extends q k h);
      numbers = (
        front ++ p ∷ [],
        c.loop-p.invariant.numbers.1 ∙ ap (λ l. front ++ l) next ∙ sym (append_assoc front (p ∷ []) c.next.new.self),
        subst (AreNumbers c.number.new.numbers (λ q. is_among q (front ++ p ∷ []))) (sym c.in_ok-push.ensures.items)
            (one_number c.loop-p.numbers c.number.new.numbers (λ q. is_among q front) (λ q. is_among q (front ++ p ∷ [])) p c.in_ok-n.n c.loop-p.listed.items
            c.in_ok-n.ensures.extends c.loop-p.invariant.numbers.2 c.in_ok-n.ensures.number (λ q. among_last q p front)),
      );
    }
