use Rattle.std.proofs.Common.{ℕ, List, ◌-◌, ◌+◌, length, get_or, Some, refl, sym, ap, ◌∙◌, arith}
use Rattle.std.proofs.lemmas.List.{get_or_read_under}
use Rattle.cnf.specs.Store.{start_of, lit_of}
use Rattle.cnf.proofs.StoreLaws.{clause_kept}
use Rattle.cnf.proofs.formula.Cnf.lit.Goals as goal

pub bounds-start-requires-clause-high : goal.bounds-start-requires-clause-high
bounds-start-requires-clause-high c =
    let k = clause_kept c.self.inside.vars c.self.inside.literals.items c.self.inside.ends.items c.args.self.now c.args.i c.self.invariant c.self.view_is c.requires.low c.requires.high in
    let n = k.high in
    let d = ap (λ (xs : List ℕ). length xs) c.deref.ensures.value in
    omega arith

pub overflow_add-start : goal.overflow_add-start
overflow_add-start c =
    let k = clause_kept c.self.inside.vars c.self.inside.literals.items c.self.inside.ends.items c.args.self.now c.args.i c.self.invariant c.self.view_is c.requires.low c.requires.high in
    let r = k.rises in
    let b = k.inside in
    let l = k.long in
    let o = c.self.inside.literals.ok in
    let n = o.0 in
    let m = o.1 in
    let t = c.self.inside.literals.small in
    let w = c.requires.within in
    let s = c.bounds-start.ensures.start ∙ ap (λ (xs : List ℕ). start_of 0 xs (c.args.i - 1)) c.deref.ensures.value in
    omega arith

pub index-requires : goal.index-requires
index-requires c =
    let k = clause_kept c.self.inside.vars c.self.inside.literals.items c.self.inside.ends.items c.args.self.now c.args.i c.self.invariant c.self.view_is c.requires.low c.requires.high in
    let r = k.rises in
    let b = k.inside in
    let l = k.long in
    let n = c.self.inside.literals.ok.0 in
    let w = c.requires.within in
    let s = c.bounds-start.ensures.start ∙ ap (λ (xs : List ℕ). start_of 0 xs (c.args.i - 1)) c.deref.ensures.value in
    omega arith

pub returns : goal.returns
returns c =
    let k = clause_kept c.self.inside.vars c.self.inside.literals.items c.self.inside.ends.items c.args.self.now c.args.i c.self.invariant c.self.view_is c.requires.low c.requires.high in
    let r = k.rises in
    let b = k.inside in
    let l = k.long in
    let w = c.requires.within in
    let s = c.bounds-start.ensures.start ∙ ap (λ (xs : List ℕ). start_of 0 xs (c.args.i - 1)) c.deref.ensures.value in
    let index = get_or_read_under c.self.inside.literals.items (c.bounds-start.result.0 + c.args.k) (length c.self.inside.literals.items) c.index.result.now 0 c.index.ensures (omega arith) refl in
    k.lits c.args.k c.requires.within ∙ ap (λ (x : ℕ). Some (lit_of x)) (ap (λ (x : ℕ). get_or c.self.inside.literals.items (x + c.args.k) 0) (sym s) ∙ sym index) ∙ ap Some (sym c.lit_of.ensures)
