use Rattle.std.proofs.Common.{ap, sym, subst, subst₂, ◌∙◌}
use Rattle.std.specs.Prelude.{IsTrue, IfSome, List}
use Rattle.std.specs.BTreeSet.{BTreeSet}
use Rattle.std.proofs.lemmas.Result.{IfOk-weaker}
use Rattle.fs_semantics.specs.FileTree.{Path}
use Rattle.fs_lang.specs.declared.program.Program.{Program}
use Rattle.fs_lang.specs.Meaning.{test_of, program_of, program_of_if}
use Rattle.commuting_parts.specs.Runs.{SwapFrom}
use Rattle.commuting_parts.specs.Prints.{TreeWith, CommuteWith}
use Rattle.commuting_parts.specs.Parts.{runs, IsDivided}
use Rattle.commuting_parts.proofs.CommuteLaws.{choice_commutes}
use Rattle.commuting_parts.proofs.commuting.+commuting.Goals as goal

pub choice_commutes-returns : goal.choice_commutes-returns
choice_commutes-returns t c =
    let folders = c.args.folders.now in
    let f = program_of c.args.f.now in
    let is = ap program_of c.in-If.is ∙ program_of_if c.in-If.test c.in-If.g c.in-If.h in
    IfOk-weaker c.commute_with-2.result (λ told. IsTrue told → CommuteWith folders (program_of c.get-2.result.now) f) (λ told. IsTrue told → CommuteWith folders (program_of c.args.e.now) f)
    (λ told commute h. subst (λ x. CommuteWith folders x f) (sym is)
    (choice_commutes (TreeWith folders) (test_of c.in-If.test) (program_of c.in-If.g) (program_of c.in-If.h) f
    (c.in_ok-is_left.ensures c.if-not-branch.false)
    (subst (λ x. CommuteWith folders (program_of x) f) c.get.ensures (c.in_ok-commute_with.ensures c.if-not-branch-2.false))
    (subst (λ x. CommuteWith folders (program_of x) f) c.get-2.ensures (commute h))))
    c.commute_with-2.ensures

pub commute_behind_folders-returns : goal.commute_behind_folders-returns
commute_behind_folders-returns t c =
    let folders = c.args.folders.now in
    let es = c.args.es.now in
    let fs = c.args.fs.now in
    let l = c.get-left.result.now in
    let r = c.get-right.result.now in
    let Behind : BTreeSet Path → Type 0 = λ behind. (es fs : List Program) → IsDivided es l → IsDivided fs r
    → CommuteWith behind (program_of l.rest) (program_of r.rest) → SwapFrom (TreeWith folders) (runs es) (runs fs) in
    let Commute : Program → Program → Type 0 = λ x y. CommuteWith c.in-Some.behind (program_of x) (program_of y) in
    let found = subst (λ o. IfSome o Behind) c.in-Some.is c.in_ok-folders_behind.ensures in
    let left = subst (IsDivided es) (sym c.get-left.ensures) c.in_ok-divided.ensures in
    let right = subst (IsDivided fs) (sym c.get-right.ensures) c.in_ok-others.ensures in
    IfOk-weaker c.commute_with.result (λ told. IsTrue told → Commute c.get-rest.result.now c.get-other.result.now)
    (λ told. IsTrue told → SwapFrom (TreeWith folders) (runs es) (runs fs))
    (λ told commute h. found es fs left right (subst₂ Commute c.get-rest.ensures c.get-other.ensures (commute h))) c.commute_with.ensures
