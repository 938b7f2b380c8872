use Rattle.std.proofs.Common.{◌≡◌, true, false, None, IfOk, rules, sym, ap, subst, ◌∙◌}
use Rattle.fs_semantics.specs.FileTree.{Folder}
use Rattle.fs_semantics.specs.Programs as language
use Rattle.fs_semantics.specs.Programs.{holds, run, run_all}
use Rattle.fs_lang.specs.Meaning.{test_of, program_of, programs_in, program_of_steps, program_of_if}
use Rattle.fs_lang.specs.Sizes.{program_size}
use Rattle.failure_search.specs.Found.{reason_of, Finds}
use Rattle.failure_search.proofs.FindLaws.{ok_map, in_first, in_second, branch_first, branch_second, found_err, found_mkdir, found_creat, found_link, found_rm, found_cp}
use Rattle.failure_search.proofs.find.+find.Goals as goal
use Rattle.failure_search.proofs.find.+find.Goals.{find-in-Err, find-in-Mkdir, find-in-Creat, find-in-Link, find-in-Rm, find-in-Cp}

pub find-find_in_steps-requires : goal.find-find_in_steps-requires
find-find_in_steps-requires t c =
    let same : program_of c.args.program.now ≡ language.Steps (programs_in c.as_slice.result.now) = ap program_of c.in-Steps.is ∙ program_of_steps c.in-Steps.es ∙ ap (λ es. language.Steps (programs_in es)) (sym c.as_slice.ensures) in
    let none : run_all (programs_in c.as_slice.result.now) c.args.tree.now ≡ None = ap (λ e. run e c.args.tree.now) (sym same) ∙ c.requires in
    let size = ap program_size same in
    search rules

pub find-returns-in-Steps : goal.find-returns-in-Steps
find-returns-in-Steps t c =
    let same : program_of c.args.program.now ≡ language.Steps (programs_in c.as_slice.result.now) = ap program_of c.in-Steps.is ∙ program_of_steps c.in-Steps.es ∙ ap (λ es. language.Steps (programs_in es)) (sym c.as_slice.ensures) in
    subst (λ e. IfOk c.find_in_steps.result (Finds (reason_of c.args.why) e c.args.tree.now)) (sym same) c.find_in_steps.ensures

pub find-find_in_branch-requires : goal.find-find_in_branch-requires
find-find_in_branch-requires t c =
    let same : program_of c.args.program.now ≡ language.If (test_of c.in-If.a) (program_of c.get.result.now) (program_of c.get-in-If.result.now) =
    ap program_of c.in-If.is ∙ program_of_if c.in-If.a c.in-If.e c.in-If.f ∙ (λ i. language.If (test_of c.in-If.a) (program_of (sym c.get.ensures i)) (program_of (sym c.get-in-If.ensures i))) in
    let none : run (language.If (test_of c.in-If.a) (program_of c.get.result.now) (program_of c.get-in-If.result.now)) c.args.tree.now ≡ None = ap (λ e. run e c.args.tree.now) (sym same) ∙ c.requires in
    let size = ap program_size same in
    search rules

pub find-returns-in-If : goal.find-returns-in-If
find-returns-in-If t c =
    let same : program_of c.args.program.now ≡ language.If (test_of c.in-If.a) (program_of c.get.result.now) (program_of c.get-in-If.result.now) =
    ap program_of c.in-If.is ∙ program_of_if c.in-If.a c.in-If.e c.in-If.f ∙ (λ i. language.If (test_of c.in-If.a) (program_of (sym c.get.ensures i)) (program_of (sym c.get-in-If.ensures i))) in
    subst (λ e. IfOk c.find_in_branch.result (Finds (reason_of c.args.why) e c.args.tree.now)) (sym same) (ok_map c.find_in_branch.result (λ f inner. inner (reason_of c.args.why)) c.find_in_branch.ensures)

pub find-returns : goal.find-returns
find-returns t c =
    let tree = c.args.tree.now in
    let why = reason_of c.args.why in
    elim c.match-program.branch [
      | find-in-Err w ↦ found_err tree _ why w.in-Err.is (ap reason_of w.reason-is)
      | find-in-Mkdir w ↦ found_mkdir tree _ why w.in-Mkdir.p w.in-Mkdir.is c.requires (ap reason_of w.reason-is ∙ w.no_place-reason.ensures) (c.reasons.ensures.place w.in-Mkdir.p Folder tree)
      | find-in-Creat w ↦ found_creat tree _ why w.in-Creat.p _ w.in-Creat.is c.requires (ap reason_of w.reason-is ∙ w.no_place-reason-in-Creat.ensures) (λ x. c.reasons.ensures.place w.in-Creat.p x tree)
      | find-in-Link w ↦ found_link tree _ why w.in-Link.p _ w.in-Link.is c.requires (ap reason_of w.reason-is ∙ w.no_place-reason-in-Link.ensures) (λ x. c.reasons.ensures.place w.in-Link.p x tree)
      | find-in-Rm w ↦ found_rm tree _ why w.in-Rm.p w.in-Rm.is c.requires (ap reason_of w.reason-is ∙ w.not_gone-reason.ensures) (c.reasons.ensures.removal w.in-Rm.p tree)
      | find-in-Cp w ↦ found_cp tree _ why w.in-Cp.p w.in-Cp.q w.in-Cp.is c.requires (ap reason_of w.reason-is ∙ w.no_copy-reason.ensures) (c.reasons.ensures.copy w.in-Cp.p w.in-Cp.q tree)
    ]

pub find_in_branch-find-requires : goal.find_in_branch-find-requires
find_in_branch-find-requires t c =
    let on : holds (test_of c.args.test.now) c.args.tree.now ≡ true = sym c.holds.ensures ∙ c.if-holds.true in
    let none = branch_first (test_of c.args.test.now) (program_of c.args.first.now) (program_of c.args.second.now) c.args.tree.now on c.requires in
    search rules

pub find_in_branch-find-requires-else-holds : goal.find_in_branch-find-requires-else-holds
find_in_branch-find-requires-else-holds t c =
    let off : holds (test_of c.args.test.now) c.args.tree.now ≡ false = sym c.holds.ensures ∙ c.if-holds.false in
    let none = branch_second (test_of c.args.test.now) (program_of c.args.first.now) (program_of c.args.second.now) c.args.tree.now off c.requires in
    search rules

pub find_in_branch-returns-then-holds : goal.find_in_branch-returns-then-holds
find_in_branch-returns-then-holds t c =
    let on : holds (test_of c.args.test.now) c.args.tree.now ≡ true = sym c.holds.ensures ∙ c.if-holds.true in
    ok_map c.find.result (λ f inner. in_first (test_of c.args.test.now) (program_of c.args.first.now) (program_of c.args.second.now) c.args.tree.now f on inner) c.find.ensures

pub find_in_branch-returns-else-holds : goal.find_in_branch-returns-else-holds
find_in_branch-returns-else-holds t c =
    let off : holds (test_of c.args.test.now) c.args.tree.now ≡ false = sym c.holds.ensures ∙ c.if-holds.false in
    ok_map c.find-else-holds.result (λ f inner. in_second (test_of c.args.test.now) (program_of c.args.first.now) (program_of c.args.second.now) c.args.tree.now f off inner) c.find-else-holds.ensures

pub find_in_steps-returns : goal.find_in_steps-returns
find_in_steps-returns t c =
    ok_map c.find.result (λ f inner choice why. let k = inner choice why in (k.0, c.in_ok-step.ensures.leads choice k.0 k.1, k.2)) c.find.ensures
