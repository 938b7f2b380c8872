use Rattle.std.proofs.Common.{ℕ, List, ◌≡◌, ◌<◌, ◌^◌, get_or, ◌++◌, ◌∷◌, [], length, sym, ap, ◌∙◌, subst}
use Rattle.std.proofs.lemmas.List.Elements.{All-from_recursion, recursion_from_All}
use Rattle.cnf.specs.declared.lit.Lit.{Lit}
use Rattle.cnf.specs.Literals.{HasVariable}
use Rattle.cnf.specs.Clauses.{HasVariables, IsClause, clause_of}
use Rattle.cnf.specs.Formulas.{Formula}
use Rattle.cnf.specs.Store.{IsStored}
use Rattle.cnf.proofs.ClauseLaws.{all-clause_of, IsClause-clause_of}
use Rattle.cnf.proofs.StoreLaws.{pushed_stored, pushed_formula, more_variables}
use Rattle.cnf.proofs.formula.Cnf.add.Goals as goal

-- the clause that is added has variables of the formula
variables : (n : ℕ) (lits : List Lit) → ((k : ℕ) (d : Lit) → k < length lits → HasVariable n (get_or lits k d)) → HasVariables n (clause_of lits)
variables n lits h = all-clause_of (HasVariable n) lits (recursion_from_All (HasVariable n) lits h)

pub push_clause-requires : goal.push_clause-requires
push_clause-requires c =
    let n = c.self.inside.vars in
    let is : c.args.self.now.vars ≡ n = ap (λ (f : Formula). f.vars) (sym c.self.view_is) in
    let h = subst (λ n. HasVariables n (clause_of c.args.lits.now)) is (variables c.args.self.now.vars c.args.lits.now c.requires) in
    let k = more_variables n (2 ^ 31) (clause_of c.args.lits.now) c.self.invariant.small h in
    All-from_recursion (HasVariable (2 ^ 31)) c.lits.result.now (subst (HasVariables (2 ^ 31)) (sym (c.lits.ensures.lits ∙ c.in_ok-clause.ensures.value)) k)

pub invariant_of-self : goal.invariant_of-self
invariant_of-self c =
    subst (λ (ls : List ℕ). IsStored c.self.inside.vars ls c.push_clause.new.ends.items) (sym c.in_err-push_clause.ensures.literals_err)
    (subst (IsStored c.self.inside.vars c.self.inside.literals.items) (sym c.in_err-push_clause.ensures.ends_err) c.self.invariant)

pub returns-clause-ok : goal.returns-clause-ok
returns-clause-ok c =
    let n = c.self.inside.vars in
    let is : c.args.self.now.vars ≡ n = ap (λ (f : Formula). f.vars) (sym c.self.view_is) in
    let d = c.lits.result.now in
    let value : d ≡ clause_of c.args.lits.now = c.lits.ensures.lits ∙ c.in_ok-clause.ensures.value in
    let h = subst (HasVariables n) (sym value) (subst (λ n. HasVariables n (clause_of c.args.lits.now)) is (variables c.args.self.now.vars c.args.lits.now c.requires)) in
    pushed_formula n c.self.inside.literals.items c.self.inside.ends.items c.push_clause.new.literals.items c.push_clause.new.ends.items d c.self.invariant h c.in_ok-push_clause.ensures.literals c.in_ok-push_clause.ensures.ends
    ∙ (λ i. record { vars = sym is i; clauses = ap (λ (f : Formula). f.clauses) c.self.view_is i ++ value i ∷ [] })

pub invariant_of-self-2 : goal.invariant_of-self-2
invariant_of-self-2 c =
    let n = c.self.inside.vars in
    let is : c.args.self.now.vars ≡ n = ap (λ (f : Formula). f.vars) (sym c.self.view_is) in
    let d = c.lits.result.now in
    let value : d ≡ clause_of c.args.lits.now = c.lits.ensures.lits ∙ c.in_ok-clause.ensures.value in
    let h = subst (HasVariables n) (sym value) (subst (λ n. HasVariables n (clause_of c.args.lits.now)) is (variables c.args.self.now.vars c.args.lits.now c.requires)) in
    pushed_stored n c.self.inside.literals.items c.self.inside.ends.items c.push_clause.new.literals.items c.push_clause.new.ends.items d c.self.invariant h c.in_ok-push_clause.ensures.literals c.in_ok-push_clause.ensures.ends
    (subst IsClause (sym value) (IsClause-clause_of c.args.lits.now))
