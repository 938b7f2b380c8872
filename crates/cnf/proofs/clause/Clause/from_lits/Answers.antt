use Rattle.std.proofs.Common.{◌≡◌, sym, ap, ◌∙◌, subst, rules}
use Rattle.std.specs.Cmp.{nat_cmp_total, on_total}
use Rattle.std.specs.Cmp.Rules.{comparing}
use Rattle.std.specs.List.{list_any}
use Rattle.std.proofs.lemmas.List.Filters.{dedup_is}
use Rattle.std.proofs.lemmas.List.Kept.{IsStrictlySortedBy-dedup}
use Rattle.std.proofs.lemmas.List.Sorted.{list_any-IsPermutation}
use Rattle.cnf.specs.contracts.lit.LitPartialEq.TheImpl.{eq-value}
use Rattle.cnf.specs.Literals.{lit_place, same_lit}
use Rattle.cnf.specs.Clauses.{IsClause, IsClauseOf}
use Rattle.cnf.proofs.ClauseLaws.{IsClause-from_sorted, list_any-dedup, clause_from}
use Rattle.cnf.proofs.clause.Clause.from_lits.Goals as goal
use Rattle.cnf.proofs.clause.Clause.from_lits.Goals.{After-dedup}

-- sorted literals without repetition are in order
ordered : (c : After-dedup) → IsClause c.dedup.new.self.items
ordered c =
    let sorted = c.sort_unstable.new.self.items in
    let is = dedup_is eq-value.it sorted c.dedup.new.self.items c.dedup.ensures.filtered in
    subst IsClause (sym is) (IsClause-from_sorted _ (IsStrictlySortedBy-dedup (on_total lit_place nat_cmp_total) (λ x y. search (comparing, rules)) sorted c.sort_unstable.ensures.sorted))

-- they are just the literals that were given
members : (c : After-dedup) → IsClauseOf c.args.lits.now c.dedup.new.self.items
members c =
    let sorted = c.sort_unstable.new.self.items in
    let is = dedup_is eq-value.it sorted c.dedup.new.self.items c.dedup.ensures.filtered in
    record {
      ordered = ordered c;
      same = λ l.
          ap (list_any (same_lit l)) is
          ∙ list_any-dedup eq-value.it (same_lit l) (λ a b e. ap (same_lit l) (let s : a ≡ b = search rules in s)) sorted
          ∙ sym (list_any-IsPermutation (same_lit l) _ sorted c.sort_unstable.ensures.permutation)
          ∙ ap (list_any (same_lit l)) c.in_ok-lits.ensures.items;
    }

pub invariant_of-result : goal.invariant_of-result
invariant_of-result c = ordered (goal.at.invariant_of-result c).After-dedup

pub returns-clause-members : goal.returns-clause-members
returns-clause-members c = members (goal.at.returns-clause-members c).After-dedup

pub returns-clause-value : goal.returns-clause-value
returns-clause-value c = clause_from c.args.lits.now c.dedup.new.self.items (members (goal.at.returns-clause-value c).After-dedup)
