use Rattle.std.proofs.Common.{◌++◌, suc, rules, length, ap, sym, subst, ◌∙◌, ◌≤◌, arith}
use Rattle.finite_domain.specs.Layouts.{letters}
use Rattle.path_domain.proofs.TextLaws.{next_number, letters_more}
use Rattle.path_domain.proofs.StemLaws.{counted, letters_long}
use Rattle.path_domain.proofs.stems.leading.Goals as goal

pub overflow_add-n : goal.overflow_add-n
overflow_add-n c =
    let whole = c.loop-rest.invariant ∙ ap (λ r. letters c.loop-rest.n ++ r) c.in-Some.ensures ∙ letters_more c.loop-rest.n c.in-Some.rest.now in
    let long = subst (λ t. suc c.loop-rest.n ≤ length t) (sym whole) (letters_long (suc c.loop-rest.n) c.in-Some.rest.now) in
    search (rules, arith)

pub loop-rest-preserved : goal.loop-rest-preserved
loop-rest-preserved c = c.loop-rest.invariant ∙ ap (λ r. letters c.loop-rest.n ++ r) c.in-Some.ensures ∙ letters_more c.loop-rest.n c.in-Some.rest.now ∙ ap (λ n. letters n ++ c.in-Some.rest.now) (next_number c.loop-rest.n)

pub returns-clause-counts : goal.returns-clause-counts
returns-clause-counts c = counted c.args.c.now c.loop-rest.left.now c.loop-rest.n c.loop-rest.invariant c.in_default.ensures

pub returns-clause-bound : goal.returns-clause-bound
returns-clause-bound c = subst (λ t. c.loop-rest.n ≤ length t) (sym c.loop-rest.invariant) (letters_long c.loop-rest.n c.loop-rest.left.now)
