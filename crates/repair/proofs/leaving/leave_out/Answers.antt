use Rattle.std.proofs.Common.{◌≡◌, ◌≢◌, ℕ, List, [], ◌∷◌, ◌++◌, map, length, sym, ap, subst, ◌∙◌, arith}
use Rattle.fs_lang.specs.Meaning.{program_of}
use Rattle.repair.specs.Arrows.{ComesWith, CanBeAdded, IsOrderWith}
use Rattle.repair.specs.Missing.{IsLook}
use Rattle.repair.specs.Answers.{IsRepaired}
use Rattle.repair.specs.Steps.{WereMissing, AreLeft}
use Rattle.repair.specs.declared.repaired.Repaired.TheVariants as repaired
use Rattle.fs_semantics.specs.Orders.{IsDeterministic}
use Rattle.repair.proofs.AddLaws.{deterministic_with, different_with}
use Rattle.repair.proofs.LeaveLaws.{no_items, begun, left_out, stays, all_looked_at, none_to_look_at, budget_spent, added_among}
use Rattle.repair.proofs.leaving.leave_out.Goals as goal
use Rattle.repair.proofs.leaving.leave_out.Goals.{in-Sure, in-Missing+in_ok-needed-in-Missing}

pub returns-in_default : goal.returns-in_default
returns-in_default c =
    let es = map program_of c.args.plan.now.programs.now in
    let order = c.args.plan.now.order.now in
    let none : c.args.arrows.now ≡ [] = no_items c.args.arrows.now c.in_default.ensures.cases in
    subst (λ xs. IsRepaired es order c.args.budget (repaired.Done xs)) (sym c.new.ensures)
    (none_to_look_at es order c.count.ensures.ordered (subst (WereMissing es order) none c.requires.missing) (subst (λ xs. IsDeterministic es (ComesWith order xs)) none c.requires.deterministic))

pub loop-arrow-init : goal.loop-arrow-init
loop-arrow-init c =
    let es = map program_of c.args.plan.now.programs.now in
    let order = c.args.plan.now.order.now in
    let rest = c.in-Some.earlier.now in
    let last = c.in-Some.last.now in
    let split : c.args.arrows.now ≡ rest ++ last ∷ [] = c.in-Some.ensures.cases.0 in
    subst (AreLeft es order c.args.arrows.now rest) (sym c.in_ok-needed.ensures)
    (subst (λ xs. AreLeft es order xs rest (last ∷ [])) (sym split)
    (begun es order rest last (subst (WereMissing es order) split c.requires.missing) (subst (λ xs. IsDeterministic es (ComesWith order xs)) split c.requires.deterministic)))

pub with_arrows-requires-clause-added : goal.with_arrows-requires-clause-added
with_arrows-requires-clause-added c =
    let es = map program_of c.args.plan.now.programs.now in
    let order = c.args.plan.now.order.now in
    let rest = c.in-Some-split_last.others.now in
    let arrow = c.in-Some-split_last.arrow.now in
    let left = subst (λ xs. AreLeft es order c.args.arrows.now xs c.loop-arrow.needed) c.in-Some-split_last.ensures.cases.0 c.loop-arrow.invariant in
    let are : c.as_slice-in-Some-split_last.result.now ≡ rest ++ c.loop-arrow.needed =
    c.as_slice-in-Some-split_last.ensures ∙ c.in_ok-without.ensures ∙ ap (λ (xs : List (ℕ × ℕ)). rest ++ xs) c.as_slice.ensures in
    subst (CanBeAdded order) (sym are) (added_among es order c.args.arrows.now rest c.loop-arrow.needed arrow c.requires.missing.added left)

pub returns-in-Spent : goal.returns-in-Spent
returns-in-Spent c =
    let es = map program_of c.args.plan.now.programs.now in
    let order = c.args.plan.now.order.now in
    let without = c.in_ok-without.without in
    let rest = c.in-Some-split_last.others.now in
    let arrow = c.in-Some-split_last.arrow.now in
    let made = c.in_ok-made.made in
    let left = subst (λ xs. AreLeft es order c.args.arrows.now xs c.loop-arrow.needed) c.in-Some-split_last.ensures.cases.0 c.loop-arrow.invariant in
    let are : without ≡ rest ++ c.loop-arrow.needed = c.in_ok-without.ensures ∙ ap (λ (xs : List (ℕ × ℕ)). rest ++ xs) c.as_slice.ensures in
    let spent = subst (IsLook es made c.args.budget) c.in-Spent.is c.in_ok-look_at.ensures in
    let with = subst (λ xs. IsOrderWith order xs made) c.as_slice-in-Some-split_last.ensures c.in_ok-made.ensures in
    budget_spent es order without c.in-Spent.cnf c.in-Spent.log
    (subst (CanBeAdded order) (sym are) (added_among es order c.args.arrows.now rest c.loop-arrow.needed arrow c.requires.missing.added left))
    (made, with, spent)

pub loop-arrow-preserved : goal.loop-arrow-preserved
loop-arrow-preserved c =
    let es = map program_of c.args.plan.now.programs.now in
    let order = c.args.plan.now.order.now in
    let all = c.args.arrows.now in
    let rest = c.in-Some-split_last.others.now in
    let arrow = c.in-Some-split_last.arrow.now in
    let made = c.in_ok-made.made in
    let left = subst (λ xs. AreLeft es order all xs c.loop-arrow.needed) c.in-Some-split_last.ensures.cases.0 c.loop-arrow.invariant in
    let are : c.as_slice-in-Some-split_last.result.now ≡ rest ++ c.loop-arrow.needed =
    c.as_slice-in-Some-split_last.ensures ∙ c.in_ok-without.ensures ∙ ap (λ (xs : List (ℕ × ℕ)). rest ++ xs) c.as_slice.ensures in
    let with = subst (λ xs. IsOrderWith order xs made) are c.in_ok-made.ensures in
    elim c.match-branch-5.branch [
      | in-Sure w ↦
          let sure = subst (IsLook es made c.args.budget) w.in-Sure.is c.in_ok-look_at.ensures in
          subst (AreLeft es order all rest) (sym w.needed-is) (left_out es order all rest c.loop-arrow.needed arrow left (deterministic_with es order (rest ++ c.loop-arrow.needed) made with sure))
      | in-Missing+in_ok-needed-in-Missing w ↦
          let found = subst (IsLook es made c.args.budget) w.in-Missing.is c.in_ok-look_at.ensures in
          let now = w.needed-is ∙ w.in_ok-needed-in-Missing.ensures ∙ ap (λ (xs : List (ℕ × ℕ)). arrow ∷ xs) w.as_slice-in-Missing.ensures in
          subst (AreLeft es order all rest) (sym now) (stays es order all rest c.loop-arrow.needed arrow left (different_with es order (rest ++ c.loop-arrow.needed) made with w.in-Missing.field-0 found))
    ]

pub returns : goal.returns
returns c =
    let es = map program_of c.args.plan.now.programs.now in
    let order = c.args.plan.now.order.now in
    let all = c.args.arrows.now in
    let none = no_items c.loop-arrow.rest.now c.in_default-split_last.ensures.cases in
    let some : all ≢ [] = λ e. let f = ap (λ (xs : List (ℕ × ℕ)). length xs) (sym e ∙ c.in-Some.ensures.cases.0) in let g = c.in-Some.ensures.cases.1 in let h = ap (λ (xs : List (ℕ × ℕ)). length xs) e in omega arith in
    all_looked_at es order c.count.ensures.ordered all c.loop-arrow.needed c.requires.missing some (subst (λ xs. AreLeft es order all xs c.loop-arrow.needed) none c.loop-arrow.invariant)
