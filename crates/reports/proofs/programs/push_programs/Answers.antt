use Rattle.std.proofs.Common.{◌+◌, List, ◌++◌, false, map, drop, sym, ap, ◌∙◌}
use Rattle.fs_lang.specs.declared.program.Program.{Program}
use Rattle.fs_lang.specs.Meaning.{program_of}
use Rattle.reports.specs.Reports.{program_lines}
use Rattle.reports.proofs.LineLaws.{one_told, ended, past}
use Rattle.reports.proofs.programs.push_programs.Goals as goal
use Rattle.reports.proofs.programs.push_programs.Goals.{else-loop-k-test, then-loop-k-test+in_default}

pub loop-k-preserved : goal.loop-k-preserved
loop-k-preserved c =
    let k = c.args.known.now in
    let m = c.args.source.now in
    let made = c.args.catalog.now in
    let plain = c.args.plain.now in
    let rest = c.in-Some.ensures.cases in
    ap (λ into. into ++ program_lines k m made (drop (c.loop-k.k + 1) plain) (map program_of c.in-Some.more.now)) c.in_ok-push_program.ensures
    ∙ one_told k m made plain c.as_slice-marks.result.now c.loop-k.k false c.loop-k.into.items c.in-Some.program.now c.in-Some.more.now (c.as_slice-marks.ensures ∙ c.in_ok-assumed.ensures) c.loop-k-test.true
    ∙ ap (λ (es : List Program). c.loop-k.into.items ++ program_lines k m made (drop c.loop-k.k plain) (map program_of es)) (sym rest.0)
    ∙ c.loop-k.invariant

pub returns : goal.returns
returns c =
    let k = c.args.known.now in
    let m = c.args.source.now in
    let made = c.args.catalog.now in
    let plain = c.args.plain.now in
    let all = c.args.into.now.items ++ program_lines k m made plain (map program_of c.args.programs.now) in
    elim c.loop-k-test.branch [
      | else-loop-k-test w ↦ past k m made plain c.loop-k.k (map program_of c.loop-k.rest.now) c.loop-k.into.items all w.loop-k-test.false c.loop-k.invariant
      | then-loop-k-test+in_default w ↦ ended k m made plain (drop c.loop-k.k plain) c.loop-k.rest.now c.loop-k.into.items all w.in_default.ensures.cases c.loop-k.invariant
    ]
