use Rattle.std.proofs.Common.{ℕ, List, ◌-◌, length, get_or, ap, ◌∙◌, arith}
use Rattle.cnf.specs.Store.{start_of}
use Rattle.cnf.proofs.StoreLaws.{clause_kept}
use Rattle.cnf.proofs.formula.Cnf.length.Goals as goal

pub bounds-start-requires-clause-high : goal.bounds-start-requires-clause-high
bounds-start-requires-clause-high c =
    let k = clause_kept c.self.inside.vars c.self.inside.literals.items c.self.inside.ends.items c.args.self.now c.args.i c.self.invariant c.self.view_is c.requires.low c.requires.high in
    let n = k.high in
    let d = ap (λ (xs : List ℕ). length xs) c.deref.ensures.value in
    omega arith

pub overflow_sub-result : goal.overflow_sub-result
overflow_sub-result c =
    let k = clause_kept c.self.inside.vars c.self.inside.literals.items c.self.inside.ends.items c.args.self.now c.args.i c.self.invariant c.self.view_is c.requires.low c.requires.high in
    let r = k.rises in
    let s = c.bounds-start.ensures.start ∙ ap (λ (xs : List ℕ). start_of 0 xs (c.args.i - 1)) c.deref.ensures.value in
    let e = c.bounds-start.ensures.end ∙ ap (λ (xs : List ℕ). get_or xs (c.args.i - 1) 0) c.deref.ensures.value in
    omega arith

pub returns : goal.returns
returns c =
    let k = clause_kept c.self.inside.vars c.self.inside.literals.items c.self.inside.ends.items c.args.self.now c.args.i c.self.invariant c.self.view_is c.requires.low c.requires.high in
    let l = k.long in
    let s = c.bounds-start.ensures.start ∙ ap (λ (xs : List ℕ). start_of 0 xs (c.args.i - 1)) c.deref.ensures.value in
    let e = c.bounds-start.ensures.end ∙ ap (λ (xs : List ℕ). get_or xs (c.args.i - 1) 0) c.deref.ensures.value in
    omega arith
