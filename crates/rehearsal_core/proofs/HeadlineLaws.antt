-- From the report that was written to the headline.
use Rattle.std.proofs.Common.{◌≡◌, ◌⊎◌, inl, inr, ℕ, [], ◌∷◌, Option, Some, None, refl, sym, ap, subst, ◌∙◌, arith}
use Rattle.command_line.specs.declared.table.Ask.{Ask}
use Rattle.command_line.specs.declared.table.Ask.TheVariants as ask
use Rattle.command_line.specs.declared.table.Role.TheVariants as role
use Rattle.command_line.specs.declared.request.Request.{Request}
use Rattle.fs_semantics.specs.Programs.{Program}
use Rattle.given_hosts.specs.Given.{Stand}
use Rattle.given_links.specs.Reading.{program_read_as}
use Rattle.known_inputs.specs.declared.inputs.Inputs.{Inputs}
use Rattle.reports.specs.declared.question.Question.{Question}
use Rattle.reports.specs.declared.question.Question.TheVariants as question
use Rattle.reports.specs.Questions.{IsReport}
use Rattle.verdict_report.specs.declared.report.Form.{Form}
use Rattle.verdict_report.specs.declared.report.Form.TheVariants as form
use Rattle.verdict_report.specs.declared.report.Report.{Report}
use Rattle.reports.specs.Comparisons.{place_of_source, other_inputs, names_of, other_names_of, IsComparison}
use Rattle.command_line.specs.Table.{load_of}
use Rattle.compiled_text.specs.Compiled.{Compiled}
use Rattle.known_inputs.specs.Inputs.{bytes_or_none, bytes_of, IsCompiledOf, IsGivenOf, IsKnown}
use Rattle.known_inputs.specs.declared.inputs.Known.{Known}
use Rattle.rehearsal_core.specs.Inputs.{Requests, Reports, IsAnswerTo}
use Rattle.rehearsal_core.specs.Runs.{Run, Appends}
use Rattle.rehearsal_core.specs.Headline.{ask_for, AsksForVerdict, AsksForEntry, AsksForRepair, AsksForComparison, Modelled, Judged, IsCompared, DoTheSame, DoOtherwise, OneDependsOnOrder, SpendsOnComparison, IsWell, DependsOnOrder, ChangesAgain, SpendsConflicts, LeavesEntry, MissesEntry, SpendsOnEntry, IsMended, SpendsOnRepair, AsksForExplanation, Explained, head_of, IsWellExplained, TellsWhyOrderMatters, TellsWhatChanges, SpendsOnExplanation, IsOfEveryTree, AreManifests, Headline}
use Rattle.rehearsal_core.proofs.VerdictLaws as verdict_laws
use Rattle.rehearsal_core.proofs.EntryLaws as entry_laws
use Rattle.rehearsal_core.proofs.RepairLaws as repair_laws
use Rattle.rehearsal_core.proofs.ComparedLaws as compared_laws
use Rattle.rehearsal_core.proofs.ExplainedLaws as explained_laws
use Rattle.rehearsal_core.specs.Answers.{WritesReport, Tells}

-- ---- what a report is about

-- a verdict, an entry that is wanted, a repair, a comparison, an explanation, or something else, which has status 0
data Kind (a : Ask) (conflicts : Option ℕ) (i : Inputs) (report : Report) : Type 0 where
  verdict : (f : Form) → a ≡ ask_for f → IsReport (question.Verdict f conflicts) i report → Kind a conflicts i report
  entry : a ≡ ask.Ensures → IsReport (question.Ensures conflicts) i report → Kind a conflicts i report
  repair : a ≡ ask.Repair → IsReport (question.Repair conflicts) i report → Kind a conflicts i report
  both : a ≡ ask.Equal → IsComparison conflicts i report → Kind a conflicts i report
  why : a ≡ ask.Explain → IsReport (question.Explain conflicts) i report → Kind a conflicts i report
  other : report.status ≡ 0 → ((f : Form) → a ≡ ask_for f → ⊥) → (a ≡ ask.Repair → ⊥) → (a ≡ ask.Ensures → ⊥) → (a ≡ ask.Equal → ⊥) → (a ≡ ask.Explain → ⊥) → Kind a conflicts i report

-- other values of `--ask` than these
abbrev is_other : Ask → Type 0
is_other ask.Verify = ⊥
is_other ask.Proof = ⊥
is_other ask.Catalog = Unit {0}
is_other ask.Graph = Unit {0}
is_other ask.Programs = Unit {0}
is_other ask.Replay = Unit {0}
is_other ask.Check = Unit {0}
is_other ask.Migrate = Unit {0}
is_other ask.Repair = ⊥
is_other ask.Ensures = ⊥
is_other ask.Equal = ⊥
is_other ask.Explain = ⊥

-- the other values ask for no verdict
no_verdict : (a : Ask) → is_other a → (f : Form) → a ≡ ask_for f → ⊥
no_verdict a h form.Lines e = subst is_other e h
no_verdict a h form.Proofs e = subst is_other e h

-- and for no repair
no_repair : (a : Ask) → is_other a → a ≡ ask.Repair → ⊥
no_repair a h e = subst is_other e h

-- and for no entry that is wanted
no_entry : (a : Ask) → is_other a → a ≡ ask.Ensures → ⊥
no_entry a h e = subst is_other e h

-- and for no comparison
no_equal : (a : Ask) → is_other a → a ≡ ask.Equal → ⊥
no_equal a h e = subst is_other e h

-- and for no explanation
no_why : (a : Ask) → is_other a → a ≡ ask.Explain → ⊥
no_why a h e = subst is_other e h

-- an answer is of the kind that is asked for
kind_of : (a : Ask) (conflicts : Option ℕ) (i : Inputs) (report : Report) → IsAnswerTo a conflicts i report → Kind a conflicts i report
kind_of ask.Verify conflicts i report answer = verdict form.Lines refl answer
kind_of ask.Proof conflicts i report answer = verdict form.Proofs refl answer
kind_of ask.Catalog conflicts i report answer = other answer.0 (no_verdict ask.Catalog tt) (no_repair ask.Catalog tt) (no_entry ask.Catalog tt) (no_equal ask.Catalog tt) (no_why ask.Catalog tt)
kind_of ask.Graph conflicts i report answer = other answer.0 (no_verdict ask.Graph tt) (no_repair ask.Graph tt) (no_entry ask.Graph tt) (no_equal ask.Graph tt) (no_why ask.Graph tt)
kind_of ask.Programs conflicts i report answer = other answer.told.0 (no_verdict ask.Programs tt) (no_repair ask.Programs tt) (no_entry ask.Programs tt) (no_equal ask.Programs tt) (no_why ask.Programs tt)
kind_of ask.Replay conflicts i report answer = other answer.told.0 (no_verdict ask.Replay tt) (no_repair ask.Replay tt) (no_entry ask.Replay tt) (no_equal ask.Replay tt) (no_why ask.Replay tt)
kind_of ask.Check conflicts i report answer = other answer.0 (no_verdict ask.Check tt) (no_repair ask.Check tt) (no_entry ask.Check tt) (no_equal ask.Check tt) (no_why ask.Check tt)
kind_of ask.Migrate conflicts i report answer = other answer.0 (no_verdict ask.Migrate tt) (no_repair ask.Migrate tt) (no_entry ask.Migrate tt) (no_equal ask.Migrate tt) (no_why ask.Migrate tt)
kind_of ask.Repair conflicts i report answer = repair refl answer
kind_of ask.Ensures conflicts i report answer = entry refl answer
kind_of ask.Equal conflicts i report answer = both refl answer
kind_of ask.Explain conflicts i report answer = why refl answer

-- and so is a report
kind : (run : Run) (report : Report) (reports : Reports run.words run.held report) → Kind reports.on.loaded.ask reports.on.loaded.conflicts reports.on.loaded.inputs report
kind run report reports = kind_of reports.on.loaded.ask reports.on.loaded.conflicts reports.on.loaded.inputs report reports.on.says

-- what is asked about, of a report on programs
abbrev modelled : (run : Run) (report : Report) (reports : Reports run.words run.held report) (a : Ask) (q : Question) → reports.on.loaded.ask ≡ a → IsReport q reports.on.loaded.inputs report → Modelled run a
modelled run report reports a q asked is = record {
  request = reports.request;
  made = reports.made;
  asked = sym reports.on.stands.asked ∙ asked;
  loaded = reports.on.loaded;
  stands = reports.on.stands;
  known = is.known;
  source = is.source;
  catalog = is.catalog;
  graph = is.graph;
  programs = is.programs;
  modelled = is.modelled;
}

-- words make one request at most, so that a report is on what they ask for
asked_for : (run : Run) (report : Report) (reports : Reports run.words run.held report) (r : Request) → Requests run.words r → reports.on.loaded.ask ≡ r.ask
asked_for run report reports r made =
    let both : ◌≡◌ {A = Option Request} (Some (record reports.request { wanted = None })) (Some (record r { wanted = None })) = sym reports.made.given.plain ∙ made.given.plain in
    let same : ◌≡◌ {A = Request} (record reports.request { wanted = None }) (record r { wanted = None }) = cc in
    reports.on.stands.asked ∙ subst (λ x. reports.request.ask ≡ x.ask) same refl

-- no two of these are asked for at once
no_verdict_repairs : (f : Form) → ask_for f ≡ ask.Repair → ⊥
no_verdict_repairs form.Lines e = cc
no_verdict_repairs form.Proofs e = cc

-- a request for a verdict is none for an entry
no_verdict_wants : (f : Form) → ask_for f ≡ ask.Ensures → ⊥
no_verdict_wants form.Lines e = cc
no_verdict_wants form.Proofs e = cc

-- and neither is one for a repair
no_repair_wants : ask.Repair ≡ ask.Ensures → ⊥
no_repair_wants e = cc

-- a request for a verdict is none for a comparison
no_verdict_compares : (f : Form) → ask_for f ≡ ask.Equal → ⊥
no_verdict_compares form.Lines e = cc
no_verdict_compares form.Proofs e = cc

-- and neither is one for a repair
no_repair_compares : ask.Repair ≡ ask.Equal → ⊥
no_repair_compares e = cc

-- nor is one for an entry
no_entry_compares : ask.Ensures ≡ ask.Equal → ⊥
no_entry_compares e = cc

-- a request for a verdict is none for an explanation
no_verdict_explains : (f : Form) → ask_for f ≡ ask.Explain → ⊥
no_verdict_explains form.Lines e = cc
no_verdict_explains form.Proofs e = cc

-- and neither is one for a repair
no_repair_explains : ask.Repair ≡ ask.Explain → ⊥
no_repair_explains e = cc

-- nor is one for an entry
no_entry_explains : ask.Ensures ≡ ask.Explain → ⊥
no_entry_explains e = cc

-- nor one for a comparison
no_equal_explains : ask.Equal ≡ ask.Explain → ⊥
no_equal_explains e = cc

-- a verdict that is told, and an entry that is
module _ (run : Run) (report : Report) (reports : Reports run.words run.held report) where
  -- what is judged, of a report on a verdict
  abbrev verdict_on : (f : Form) → reports.on.loaded.ask ≡ ask_for f → (answer : IsReport (question.Verdict f reports.on.loaded.conflicts) reports.on.loaded.inputs report) → Judged run
  verdict_on f is answer = record {
    ask = ask_for f;
    form = f;
    told = inl refl;
    of = modelled run report reports (ask_for f) (question.Verdict f reports.on.loaded.conflicts) is answer;
    pruned = answer.told.pruned;
    count = answer.told.count;
  }

  -- and of one on an entry that is wanted
  abbrev entry_on : reports.on.loaded.ask ≡ ask.Ensures → (answer : IsReport (question.Ensures reports.on.loaded.conflicts) reports.on.loaded.inputs report) → Judged run
  entry_on is answer = record {
    ask = ask.Ensures;
    form = form.Lines;
    told = inr (refl, refl);
    of = modelled run report reports ask.Ensures (question.Ensures reports.on.loaded.conflicts) is answer;
    pruned = answer.told.pruned;
    count = answer.told.count;
  }

-- what is compared, of a report on both manifests
abbrev compared : (run : Run) (report : Report) (reports : Reports run.words run.held report) → reports.on.loaded.ask ≡ ask.Equal → IsComparison reports.on.loaded.conflicts reports.on.loaded.inputs report → IsCompared run
compared run report reports asked is = record {
  request = reports.request;
  made = reports.made;
  asked = sym reports.on.stands.asked ∙ asked;
  loaded = reports.on.loaded;
  stands = reports.on.stands;
  of = is.of;
}

-- what is explained, of a report on that
abbrev explained_on : (run : Run) (report : Report) (reports : Reports run.words run.held report) → reports.on.loaded.ask ≡ ask.Explain → IsReport (question.Explain reports.on.loaded.conflicts) reports.on.loaded.inputs report → Explained run
explained_on run report reports asked is = record {
  of = modelled run report reports ask.Explain (question.Explain reports.on.loaded.conflicts) asked is;
  names = is.told.names;
  named = is.told.named;
  node = is.told.node;
  noted = is.told.noted;
  pruned = is.told.told.pruned;
  count = is.told.told.count;
}

-- ---- what each status promises

-- where a verdict is asked for, status 0 promises that all is well
well_of : (run : Run) → AsksForVerdict run → WritesReport run 0 → IsWell run
well_of run asks (report, reports, same, written, left) =
    let asked = asked_for run report reports asks.0 asks.1 ∙ asks.3 in
    elim (kind run report reports) [
      | verdict f is answer ↦ record { judged = verdict_on run report reports f is answer; report = report; sure = verdict_laws.at_zero _ _ _ _ _ _ report answer.told same; written = written }
      | entry is answer ↦ absurd (no_verdict_wants asks.2 (sym asked ∙ is))
      | repair is answer ↦ absurd (no_verdict_repairs asks.2 (sym asked ∙ is))
      | both is answer ↦ absurd (no_verdict_compares asks.2 (sym asked ∙ is))
      | why is answer ↦ absurd (no_verdict_explains asks.2 (sym asked ∙ is))
      | other zero not_verdict not_repair not_entry not_equal not_why ↦ absurd (not_verdict asks.2 asked)
    ]

-- status 1 promises that orders differ
depends_of : (run : Run) → WritesReport run 1 → DependsOnOrder run ⊎ (OneDependsOnOrder run ⊎ TellsWhyOrderMatters run)
depends_of run (report, reports, same, written, left) =
    elim (kind run report reports) [
      | verdict f is answer ↦ inl (record { judged = verdict_on run report reports f is answer; report = report; different = verdict_laws.at_one _ _ _ _ _ _ report answer.told same; written = written })
      | entry is answer ↦ inl (record { judged = entry_on run report reports is answer; report = report; different = entry_laws.at_one _ _ _ _ _ _ report answer.told same; written = written })
      | repair is answer ↦ absurd (repair_laws.not_between _ _ _ _ _ report answer.told 1 (omega arith) (omega arith) same)
      | both is answer ↦ inr (inl (record { compared = compared run report reports is answer; report = report; differs = compared_laws.at_one _ _ _ _ _ _ _ _ _ report answer.told.answer same; written = written }))
      | why is answer ↦ inr (inr (record { explained = explained_on run report reports is answer; report = report; different = explained_laws.at_one _ _ _ _ _ report answer.told.told.answer same; written = written }))
      | other zero not_verdict not_repair not_entry not_equal not_why ↦ absurd (omega (arith, same, zero))
    ]

-- status 2 promises that a second run changes something
changes_of : (run : Run) → WritesReport run 2 → ChangesAgain run ⊎ TellsWhatChanges run
changes_of run (report, reports, same, written, left) =
    elim (kind run report reports) [
      | verdict f is answer ↦ inl (record { judged = verdict_on run report reports f is answer; report = report; changed = verdict_laws.at_two _ _ _ _ _ _ report answer.told same; written = written })
      | entry is answer ↦ absurd (entry_laws.not_two _ _ _ _ _ _ report answer.told same)
      | repair is answer ↦ absurd (repair_laws.not_between _ _ _ _ _ report answer.told 2 (omega arith) (omega arith) same)
      | both is answer ↦ absurd (compared_laws.not_two _ _ _ _ _ _ _ _ _ report answer.told.answer same)
      | why is answer ↦ inr (record { explained = explained_on run report reports is answer; report = report; changed = explained_laws.at_two _ _ _ _ _ report answer.told.told.answer same; written = written })
      | other zero not_verdict not_repair not_entry not_equal not_why ↦ absurd (omega (arith, same, zero))
    ]

-- a comparison of status 3 promises that the conflicts were spent on it
spent_comparison : (run : Run) (report : Report) (reports : Reports run.words run.held report) → report.status ≡ 3 → Appends report.text run.out → reports.on.loaded.ask ≡ ask.Equal
    → IsComparison reports.on.loaded.conflicts reports.on.loaded.inputs report → SpendsOnComparison run
spent_comparison run report reports same written is answer = record {
  compared = compared run report reports is answer;
  report = report;
  unanswered = compared_laws.at_three _ _ _ (names_of answer.of) _ _ (other_names_of answer.of) _ _ report answer.told.answer same;
  written = written;
}

-- and so does an explanation of that status
spent_explanation : (run : Run) (report : Report) (reports : Reports run.words run.held report) → report.status ≡ 3 → Appends report.text run.out → reports.on.loaded.ask ≡ ask.Explain
    → IsReport (question.Explain reports.on.loaded.conflicts) reports.on.loaded.inputs report → SpendsOnExplanation run
spent_explanation run report reports same written is answer =
    let on = explained_on run report reports is answer in
    record {
      explained = on;
      report = report;
      unanswered = explained_laws.at_three _ on.names _ _ (head_of on) report answer.told.told.answer same;
      written = written;
    }

-- and so does what is told of a repair at that status
spent_repair : (run : Run) (report : Report) (reports : Reports run.words run.held report) → report.status ≡ 3 → Appends report.text run.out → reports.on.loaded.ask ≡ ask.Repair
    → IsReport (question.Repair reports.on.loaded.conflicts) reports.on.loaded.inputs report → SpendsOnRepair run
spent_repair run report reports same written is answer = record {
  of = modelled run report reports ask.Repair (question.Repair reports.on.loaded.conflicts) is answer;
  report = report;
  unrepaired = repair_laws.at_three _ _ _ _ _ report answer.told same;
  written = written;
}

-- and what is told of an entry that is wanted: on whether the graph is deterministic, or on a later question
spent_entry : (run : Run) (report : Report) (reports : Reports run.words run.held report) → report.status ≡ 3 → Appends report.text run.out → reports.on.loaded.ask ≡ ask.Ensures
    → IsReport (question.Ensures reports.on.loaded.conflicts) reports.on.loaded.inputs report → SpendsConflicts run ⊎ SpendsOnEntry run
spent_entry run report reports same written is answer =
    let on = entry_on run report reports is answer in
    elim (entry_laws.at_three _ _ _ _ _ _ report answer.told same) [
      | inl unanswered ↦ inl (record { judged = on; report = report; unanswered = unanswered; written = written })
      | inr spent ↦ inr (record { judged = on; asked = refl; report = report; unanswered = spent; written = written })
    ]

-- status 3 promises that the conflicts were spent, whatever was asked
spends_of : (run : Run) → WritesReport run 3 → SpendsConflicts run ⊎ (SpendsOnRepair run ⊎ (SpendsOnEntry run ⊎ (SpendsOnComparison run ⊎ SpendsOnExplanation run)))
spends_of run (report, reports, same, written, left) =
    elim (kind run report reports) [
      | verdict f is answer ↦ inl (record { judged = verdict_on run report reports f is answer; report = report; unanswered = verdict_laws.at_three _ _ _ _ _ _ report answer.told same; written = written })
      | entry is answer ↦ elim (spent_entry run report reports same written is answer) [
        | inl first ↦ inl first
        | inr later ↦ inr (inr (inl later))
      ]
      | repair is answer ↦ inr (inl (spent_repair run report reports same written is answer))
      | both is answer ↦ inr (inr (inr (inl (spent_comparison run report reports same written is answer))))
      | why is answer ↦ inr (inr (inr (inr (spent_explanation run report reports same written is answer))))
      | other zero not_verdict not_repair not_entry not_equal not_why ↦ absurd (omega (arith, same, zero))
    ]

-- where a repair is asked for, status 0 promises that the arrows repair
mended_of : (run : Run) → AsksForRepair run → WritesReport run 0 → IsMended run
mended_of run asks (report, reports, same, written, left) =
    let asked = asked_for run report reports asks.0 asks.1 ∙ asks.2 in
    elim (kind run report reports) [
      | verdict f is answer ↦ absurd (no_verdict_repairs f (sym is ∙ asked))
      | entry is answer ↦ absurd (no_repair_wants (sym asked ∙ is))
      | repair is answer ↦ record { of = modelled run report reports ask.Repair (question.Repair reports.on.loaded.conflicts) is answer; report = report; repaired = repair_laws.at_zero _ _ _ _ _ report answer.told same; written = written }
      | both is answer ↦ absurd (no_repair_compares (sym asked ∙ is))
      | why is answer ↦ absurd (no_repair_explains (sym asked ∙ is))
      | other zero not_verdict not_repair not_entry not_equal not_why ↦ absurd (not_repair asked)
    ]

-- where an entry is wanted, status 0 promises that each run leaves it
leaves_of : (run : Run) → AsksForEntry run → WritesReport run 0 → LeavesEntry run
leaves_of run asks (report, reports, same, written, left) =
    let asked = asked_for run report reports asks.0 asks.1 ∙ asks.2 in
    elim (kind run report reports) [
      | verdict f is answer ↦ absurd (no_verdict_wants f (sym is ∙ asked))
      | entry is answer ↦ record { judged = entry_on run report reports is answer; asked = refl; report = report; ensured = entry_laws.at_zero _ _ _ _ _ _ report answer.told same; written = written }
      | repair is answer ↦ absurd (no_repair_wants (sym is ∙ asked))
      | both is answer ↦ absurd (no_entry_compares (sym asked ∙ is))
      | why is answer ↦ absurd (no_entry_explains (sym asked ∙ is))
      | other zero not_verdict not_repair not_entry not_equal not_why ↦ absurd (not_entry asked)
    ]

-- status 9 promises that one doesn't
misses_of : (run : Run) → WritesReport run 9 → MissesEntry run
misses_of run (report, reports, same, written, left) =
    elim (kind run report reports) [
      | verdict f is answer ↦ absurd (verdict_laws.not_high _ _ _ _ _ _ report answer.told 9 (omega arith) same)
      | entry is answer ↦ record { judged = entry_on run report reports is answer; asked = refl; report = report; missed = entry_laws.at_nine _ _ _ _ _ _ report answer.told same; written = written }
      | repair is answer ↦ absurd (repair_laws.not_high _ _ _ _ _ report answer.told 9 (omega arith) same)
      | both is answer ↦ absurd (compared_laws.not_nine _ _ _ _ _ _ _ _ _ report answer.told.answer same)
      | why is answer ↦ absurd (explained_laws.not_high _ _ _ _ _ report answer.told.told.answer 9 (omega arith) same)
      | other zero not_verdict not_repair not_entry not_equal not_why ↦ absurd (omega (arith, same, zero))
    ]

-- where two are compared, status 0 promises that they do the same
equal_of : (run : Run) → AsksForComparison run → WritesReport run 0 → DoTheSame run
equal_of run asks (report, reports, same, written, left) =
    let asked = asked_for run report reports asks.0 asks.1 ∙ asks.2 in
    elim (kind run report reports) [
      | verdict f is answer ↦ absurd (no_verdict_compares f (sym is ∙ asked))
      | entry is answer ↦ absurd (no_entry_compares (sym is ∙ asked))
      | repair is answer ↦ absurd (no_repair_compares (sym is ∙ asked))
      | both is answer ↦ record { compared = compared run report reports is answer; report = report; equal = compared_laws.at_zero _ _ _ _ _ _ _ _ _ report answer.told.answer same; written = written }
      | why is answer ↦ absurd (no_equal_explains (sym asked ∙ is))
      | other zero not_verdict not_repair not_entry not_equal not_why ↦ absurd (not_equal asked)
    ]

-- status 10 promises that they don't
unequal_of : (run : Run) → WritesReport run 10 → DoOtherwise run
unequal_of run (report, reports, same, written, left) =
    elim (kind run report reports) [
      | verdict f is answer ↦ absurd (verdict_laws.not_high _ _ _ _ _ _ report answer.told 10 (omega arith) same)
      | entry is answer ↦ absurd (entry_laws.not_ten _ _ _ _ _ _ report answer.told same)
      | repair is answer ↦ absurd (repair_laws.not_high _ _ _ _ _ report answer.told 10 (omega arith) same)
      | both is answer ↦ record { compared = compared run report reports is answer; report = report; unequal = compared_laws.at_ten _ _ _ _ _ _ _ _ _ report answer.told.answer same; written = written }
      | why is answer ↦ absurd (explained_laws.not_high _ _ _ _ _ report answer.told.told.answer 10 (omega arith) same)
      | other zero not_verdict not_repair not_entry not_equal not_why ↦ absurd (omega (arith, same, zero))
    ]

-- where an explanation is asked for, status 0 promises that all is well
explained_of : (run : Run) → AsksForExplanation run → WritesReport run 0 → IsWellExplained run
explained_of run asks (report, reports, same, written, left) =
    let asked = asked_for run report reports asks.0 asks.1 ∙ asks.2 in
    elim (kind run report reports) [
      | verdict f is answer ↦ absurd (no_verdict_explains f (sym is ∙ asked))
      | entry is answer ↦ absurd (no_entry_explains (sym is ∙ asked))
      | repair is answer ↦ absurd (no_repair_explains (sym is ∙ asked))
      | both is answer ↦ absurd (no_equal_explains (sym is ∙ asked))
      | why is answer ↦ record { explained = explained_on run report reports is answer; report = report; sure = explained_laws.at_zero _ _ _ _ _ report answer.told.told.answer same; written = written }
      | other zero not_verdict not_repair not_entry not_equal not_why ↦ absurd (not_why asked)
    ]

-- ---- where nothing is given

-- without links a program is read as it is, as the law of reading says
abbrev pub ReadAlone : Type 0
ReadAlone = (e : Program) → program_read_as [] e ≡ e

-- where nothing is given, all is said of every file tree, and of the programs as they are
every_tree_of : ReadAlone → (i : Inputs) (k : Known) → IsKnown i k → bytes_of role.Given i ≡ None → IsOfEveryTree k
every_tree_of alone i k is none =
    let nothing : (k.given.folders ≡ []) × (k.given.links ≡ []) = subst (λ b. IsGivenOf b k.given) none is.given in
    record {
      none = nothing.0;
      trees = λ t tree. record { is_tree = tree; stand = subst (λ folders. Stand folders t) (sym nothing.0) tt };
      programs = λ e. ap (λ links. program_read_as links e) nothing.1 ∙ alone e;
    }

-- ---- where no compiled catalog is named

-- without bytes there is no compiled catalog
without_bytes : (m : Option Compiled) → IsCompiledOf None m → m ≡ None
without_bytes None is = refl
without_bytes (Some c) is = absurd is

-- where none is named what is asked about is a manifest
no_source : (i : Inputs) (m : Option Compiled) → IsCompiledOf (bytes_of role.Compiled i) m → bytes_of role.Compiled i ≡ None → m ≡ None
no_source i m is none = without_bytes m (subst (λ bytes. IsCompiledOf bytes m) none is)

-- then the other one stands in the place of the input
no_other_bytes : (i : Inputs) → bytes_of role.Compiled i ≡ None → bytes_of role.Compiled (other_inputs i) ≡ None
no_other_bytes i none = ap (λ bytes. load_of role.Compiled ((place_of_source bytes, bytes_or_none (bytes_of role.Other i)) ∷ i.files)) none ∙ none

-- where none is named both that are compared are manifests
are_manifests : (run : Run) (c : IsCompared run) → bytes_of role.Compiled c.loaded.inputs ≡ None → AreManifests c
are_manifests run c none =
    let i = c.loaded.inputs in
    (no_source i c.of.source c.of.modelled.planned.compiled.source none, no_source (other_inputs i) c.of.other_source c.of.other_modelled.planned.compiled.source (no_other_bytes i none))

-- what a status tells is what it promises
pub headline_of : ReadAlone → (run : Run) (status : ℕ) → Tells run status → Headline run status
headline_of alone run status tells = record {
  well = λ asks is. well_of run asks (subst (WritesReport run) is (tells.report (inl (omega (arith, is)))));
  depends = λ is. depends_of run (subst (WritesReport run) is (tells.report (inl (omega (arith, is)))));
  changes = λ is. changes_of run (subst (WritesReport run) is (tells.report (inl (omega (arith, is)))));
  spends = λ is. spends_of run (subst (WritesReport run) is (tells.report (inl (omega (arith, is)))));
  mended = λ asks is. mended_of run asks (subst (WritesReport run) is (tells.report (inl (omega (arith, is)))));
  leaves = λ asks is. leaves_of run asks (subst (WritesReport run) is (tells.report (inl (omega (arith, is)))));
  misses = λ is. misses_of run (subst (WritesReport run) is (tells.report (inr (inl is))));
  equal = λ asks is. equal_of run asks (subst (WritesReport run) is (tells.report (inl (omega (arith, is)))));
  unequal = λ is. unequal_of run (subst (WritesReport run) is (tells.report (inr (inr is))));
  explained = λ asks is. explained_of run asks (subst (WritesReport run) is (tells.report (inl (omega (arith, is)))));
  every_tree = λ a m. every_tree_of alone m.loaded.inputs m.known m.modelled.planned.compiled.known;
  every_tree_of_both = λ c. every_tree_of alone c.loaded.inputs c.of.known c.of.modelled.planned.compiled.known;
  of_manifest = λ a m. no_source m.loaded.inputs m.source m.modelled.planned.compiled.source;
  of_manifests = λ c. are_manifests run c;
}
