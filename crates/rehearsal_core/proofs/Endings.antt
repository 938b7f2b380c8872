-- From what there is to say, and how it was told, to what the status tells.
use Rattle.std.proofs.Common.{◌≡◌, ◌≢◌, ◌⊎◌, ◌≤◌, inl, inr, ℕ, List, [], ◌∷◌, map, Option, Some, None, refl, sym, ap, subst, ◌∙◌, arith}
use Rattle.std.specs.Prelude.{String, string_bytes}
use Rattle.std.specs.declared.alloc.Global.{Global}
use Rattle.rh_base.specs.declared.fault.Refusal.{Refusal}
use Rattle.rh_base.specs.Causes.{Rose}
use Rattle.rh_base.specs.Shelf.{Held, Untold, Only, ElseEmpty, told_at, IsMissing}
use Rattle.rh_base.specs.Sink.{appended}
use Rattle.command_line.specs.declared.table.Ask.{Ask}
use Rattle.command_line.specs.declared.table.Ask.TheVariants as ask
use Rattle.command_line.specs.declared.request.Request.{Request}
use Rattle.command_line.specs.Table.{ByRole, usage_line}
use Rattle.request_files.specs.Files.{FirstFailed, AllTold}
use Rattle.known_inputs.specs.declared.inputs.Inputs.{Inputs}
use Rattle.fs_semantics.specs.Programs.{Program}
use Rattle.orders.specs.Relation.{Relation}
use Rattle.question_terms.specs.declared.terms.Terms.{Terms}
use Rattle.verdict_report.specs.declared.report.Form.{Form}
use Rattle.verdict_report.specs.declared.report.Form.TheVariants as form
use Rattle.verdict_report.specs.Told.{IsTold}
use Rattle.repair_report.specs.Told.{IsRepairTold}
use Rattle.wanted_entry.specs.declared.wanted.Wanted.{Wanted}
use Rattle.entry_report.specs.Told.{IsEntryTold}
use Rattle.verdict_report.specs.declared.report.Report.{Report}
use Rattle.rehearsal_core.specs.Inputs.{files_of, Requests, RequestsNone, IsHeld, LacksFile, Reports, Refuses, FailsToRead, IsAnswerTo}
use Rattle.rehearsal_core.specs.declared.run.Ending.{Ending}
use Rattle.rehearsal_core.specs.declared.run.Ending.TheVariants as ending
use Rattle.rehearsal_core.specs.Runs.{Run, Appends, IsLeft, IsSound, HasFailed, AppendsFront}
use Rattle.rehearsal_core.proofs.Excluding.{OneRequest, NoCatalogRefusal, NoGraphRefusal, NoReportRefusal, NoComparisonRefusal, OneList, NoFault, no_refusal, no_report_lacks, no_refusal_lacks}
use Rattle.rehearsal_core.specs.Steps.{SaysOf, Says, TellsLine, TellsReport, Ended}
use Rattle.rehearsal_core.specs.Answers.{IsOfReport, HasCause, Tells, Owed, Owes, refusal_line, read_fault_line, memory_line}
use Rattle.reports.specs.declared.sides.Side.{Side}
use Rattle.rehearsal_core.proofs.ComparedLaws as compared_laws
use Rattle.rehearsal_core.proofs.ExplainedLaws as explained_laws

-- a file that is told isn't missing
not_missing : (held : Held) (name bytes : List ℕ) → told_at held name ≡ Some bytes → IsMissing held name → ⊥
not_missing Untold name bytes h k = k
not_missing (Only files) name bytes h k = let no : ◌≡◌ {A = Option (List ℕ)} (Some bytes) None = sym h ∙ k in cc
not_missing (ElseEmpty files) name bytes h k = k

-- words that make a request don't make none
none_made : (words : List (String Global)) (request : Request) → Requests words request → RequestsNone words → ⊥
none_made words request made none = none request made

-- where each file is told, only a count of faults that rose keeps one from being read
none_failed : (held : Held) (before now : ℕ) (files : ByRole (List ℕ)) (name : List ℕ) → (Rose before now → ⊥) → AllTold held files → FirstFailed held before now files name → ⊥
none_failed held before now [] name never told failed = failed
none_failed held before now (f ∷ files) name never told (inl here) = elim here.1 [
  | inl rose ↦ never rose
  | inr missing ↦ not_missing held f.1 told.0.0 told.0.1 (subst (λ n. IsMissing held n) (sym here.0) missing)
]
none_failed held before now (f ∷ files) name never told (inr later) = none_failed held before now files name never told.1 later.1

-- ---- what each status tells, and what follows of which there are

-- no status of a report is one from 4 to 8
not_report : (n : ℕ) → 4 ≤ n → n ≤ 8 → (status : ℕ) → status ≡ n → IsOfReport status → ⊥
not_report n low high status is (inl few) = absurd (omega (arith, low, is, few))
not_report n low high status is (inr (inl nine)) = absurd (omega (arith, high, is, nine))
not_report n low high status is (inr (inr ten)) = absurd (omega (arith, high, is, ten))

-- memory was refused
memory_tells : (run : Run) (status : ℕ) → status ≡ 8 → AppendsFront memory_line run.err → IsLeft run.out → Tells run status
memory_tells run status is front out = record {
  report = λ e. absurd (not_report 8 (omega arith) (omega arith) status is e);
  refused = λ e. absurd (omega (arith, is, e));
  words = λ e. absurd (omega (arith, is, e));
  read = λ e. absurd (omega (arith, is, e));
  write = λ e. absurd (omega (arith, is, e));
  memory = λ e. (front, out);
  known = inr (inr (inr (inr (inr is))));
}

-- at status 8, where no put on out failed, what has to follow does
memory_owes : (run : Run) (status : ℕ) → status ≡ 8 → IsSound run.out → Owed run status
memory_owes run status is sound = record {
  usage = λ none. inr (inr is);
  decided = λ held faults. inr (inr is);
  unread = λ read. inr (inr is);
  unwritten = λ failed. absurd (failed sound);
  untold = λ failed. inr is;
}

-- what a status tells and what follows of it are its ending
ended : (run : Run) (status : ℕ) → Tells run status → Owed run status → Ended run status
ended run status tells owed = record { tells = tells; owed = owed }

-- where memory was refused the run ends so
pub memory_ends : (run : Run) (status : ℕ) → status ≡ 8 → AppendsFront memory_line run.err → IsLeft run.out → IsSound run.out → Ended run status
memory_ends run status is front out sound = ended run status (memory_tells run status is front out) (memory_owes run status is sound)

-- ---- a report was to be written

-- a verdict has the status of a report
few_told : (f : Form) (terms : Terms) (notes : List ℕ) (names : List (List ℕ)) (es : List Program) (order : Relation) (report : Report) → IsTold f terms notes names es order report → IsOfReport report.status
few_told f terms notes names es order report told = elim told.answer [
  | inl sure ↦ inl (omega (arith, sure.status))
  | inr (inl different) ↦ inl (omega (arith, different.status))
  | inr (inr (inl changed)) ↦ inl (omega (arith, changed.status))
  | inr (inr (inr spent)) ↦ inl (omega (arith, spent.status))
]

-- and so has a repair
few_repaired : (terms : Terms) (notes : List ℕ) (names : List (List ℕ)) (es : List Program) (order : Relation) (report : Report) → IsRepairTold terms notes names es order report → IsOfReport report.status
few_repaired terms notes names es order report told = elim told.answer [
  | inl repaired ↦ inl (omega (arith, repaired.status))
  | inr spent ↦ inl (omega (arith, spent.status))
]

-- and an entry that is wanted
few_ensured : (terms : Terms) (notes : List ℕ) (w : Wanted) (names : List (List ℕ)) (es : List Program) (order : Relation) (report : Report) → IsEntryTold terms notes w names es order report → IsOfReport report.status
few_ensured terms notes w names es order report told = elim told.answer [
  | inl held ↦ inl (omega (arith, held.status))
  | inr (inl different) ↦ inl (omega (arith, different.status))
  | inr (inr (inl missed)) ↦ inr (inl missed.status)
  | inr (inr (inr (inl spent))) ↦ inl (omega (arith, spent.status))
  | inr (inr (inr (inr spent))) ↦ inl (omega (arith, spent.status))
]

-- a report has the status of one
few : (a : Ask) (conflicts : Option ℕ) (i : Inputs) (report : Report) → IsAnswerTo a conflicts i report → IsOfReport report.status
few ask.Verify conflicts i report answer = few_told form.Lines _ _ _ _ _ report answer.told
few ask.Proof conflicts i report answer = few_told form.Proofs _ _ _ _ _ report answer.told
few ask.Catalog conflicts i report answer = inl (omega (arith, answer.0))
few ask.Graph conflicts i report answer = inl (omega (arith, answer.0))
few ask.Programs conflicts i report answer = inl (omega (arith, answer.told.0))
few ask.Replay conflicts i report answer = inl (omega (arith, answer.told.0))
few ask.Check conflicts i report answer = inl (omega (arith, answer.0))
few ask.Migrate conflicts i report answer = inl (omega (arith, answer.0))
few ask.Repair conflicts i report answer = few_repaired _ _ _ _ _ report answer.told
few ask.Ensures conflicts i report answer = few_ensured _ _ _ _ _ _ report answer.told
few ask.Equal conflicts i report answer = compared_laws.few _ _ _ _ _ _ _ _ _ report answer.told.answer
few ask.Explain conflicts i report answer = explained_laws.few _ _ _ _ _ report answer.told.told.answer

-- whatever is reported has the status of one
has_status : (words : List (String Global)) (held : Held) (report : Report) → Reports words held report → IsOfReport report.status
has_status words held report reports = few reports.on.loaded.ask reports.on.loaded.conflicts reports.on.loaded.inputs report reports.on.says

-- where a report was to be written the run ends so
pub report_ends : (run : Run) (status : ℕ) (report : Report) → Reports run.words run.held report → run.shelf_now ≡ run.shelf_before
    → TellsReport report run.out run.err status → Ended run status
report_ends run status report reports read (inl told) =
    let is : IsOfReport status = subst IsOfReport (sym told.0) (has_status run.words run.held report reports) in
    ended run status
    (record {
      report = λ e. (report, reports, sym told.0, told.1, told.3);
      refused = λ e. absurd (not_report 4 (omega arith) (omega arith) status e is);
      words = λ e. absurd (not_report 5 (omega arith) (omega arith) status e is);
      read = λ e. absurd (not_report 6 (omega arith) (omega arith) status e is);
      write = λ e. absurd (not_report 7 (omega arith) (omega arith) status e is);
      memory = λ e. absurd (not_report 8 (omega arith) (omega arith) status e is);
      known = inl is;
    })
    (record {
      usage = λ none. absurd (none_made run.words reports.request reports.made none);
      decided = λ held faults. inl is;
      unread = λ failed. absurd (failed read);
      unwritten = λ failed. absurd (failed told.2);
      untold = λ failed. absurd (failed told.4);
    })
report_ends run status report reports read (inr (inl told)) =
    ended run status
    (record {
      report = λ e. absurd (not_report 7 (omega arith) (omega arith) status told.0 e);
      refused = λ e. absurd (omega (arith, told.0, e));
      words = λ e. absurd (omega (arith, told.0, e));
      read = λ e. absurd (omega (arith, told.0, e));
      write = λ e. inl (told.1, report, reports, told.2, told.3);
      memory = λ e. absurd (omega (arith, told.0, e));
      known = inr (inr (inr (inr (inl told.0))));
    })
    (record {
      usage = λ none. inr (inl told.0);
      decided = λ held faults. absurd (faults.out told.1);
      unread = λ failed. absurd (failed read);
      unwritten = λ failed. told.0;
      untold = λ failed. inl told.0;
    })
report_ends run status report reports read (inr (inr told)) = memory_ends run status told.0 told.3 told.1 told.2

-- a line was to be told on err: its cause, and what is known of a cause
record Cause (run : Run) (at : ℕ) (line : List ℕ) : Type 0 where
  has : HasCause run at line
  usage : RequestsNone run.words → at ≡ 5
  decided : IsHeld run.words run.held → (Rose run.shelf_before run.shelf_now → ⊥) → at ≡ 4
  unread : run.shelf_now ≢ run.shelf_before → at ≡ 6

-- a line that was told on err is what its status tells
told_line : (run : Run) (status at : ℕ) (line : List ℕ) → HasCause run at line → IsLeft run.out → status ≡ at → Appends line run.err → Tells run status
told_line run status at line cause out is told = elim cause [
  | inl c ↦ record {
    report = λ e. absurd (not_report 4 (omega arith) (omega arith) status (is ∙ c.0) e);
    refused = λ e. (c.1, c.2, c.3, told ∙ ap (λ l. appended l run.err.before) c.4, out);
    words = λ e. absurd (omega (arith, is, c.0, e));
    read = λ e. absurd (omega (arith, is, c.0, e));
    write = λ e. absurd (omega (arith, is, c.0, e));
    memory = λ e. absurd (omega (arith, is, c.0, e));
    known = inr (inl (is ∙ c.0));
  }
  | inr (inl c) ↦ record {
    report = λ e. absurd (not_report 5 (omega arith) (omega arith) status (is ∙ c.0) e);
    refused = λ e. absurd (omega (arith, is, c.0, e));
    words = λ e. (c.1, told ∙ ap (λ l. appended l run.err.before) c.2, out);
    read = λ e. absurd (omega (arith, is, c.0, e));
    write = λ e. absurd (omega (arith, is, c.0, e));
    memory = λ e. absurd (omega (arith, is, c.0, e));
    known = inr (inr (inl (is ∙ c.0)));
  }
  | inr (inr c) ↦ record {
    report = λ e. absurd (not_report 6 (omega arith) (omega arith) status (is ∙ c.0) e);
    refused = λ e. absurd (omega (arith, is, c.0, e));
    words = λ e. absurd (omega (arith, is, c.0, e));
    read = λ e. (c.1, c.2, told ∙ ap (λ l. appended l run.err.before) c.3, out);
    write = λ e. absurd (omega (arith, is, c.0, e));
    memory = λ e. absurd (omega (arith, is, c.0, e));
    known = inr (inr (inr (inl (is ∙ c.0))));
  }
]

-- where a line was to be told the run ends so
line_ends : (run : Run) (status at : ℕ) (line : List ℕ) → Cause run at line → IsLeft run.out → IsSound run.out → TellsLine at line run.err status → Ended run status
line_ends run status at line cause out sound (inl told) =
    ended run status
    (told_line run status at line cause.has out told.0 told.1)
    (record {
      usage = λ none. inl (told.0 ∙ cause.usage none);
      decided = λ held faults. inr (inl (told.0 ∙ cause.decided held faults.shelf));
      unread = λ failed. inl (told.0 ∙ cause.unread failed);
      unwritten = λ failed. absurd (failed sound);
      untold = λ failed. absurd (failed told.2);
    })
line_ends run status at line cause out sound (inr (inl told)) =
    ended run status
    (record {
      report = λ e. absurd (not_report 7 (omega arith) (omega arith) status told.0 e);
      refused = λ e. absurd (omega (arith, told.0, e));
      words = λ e. absurd (omega (arith, told.0, e));
      read = λ e. absurd (omega (arith, told.0, e));
      write = λ e. inr (told.1, at, line, cause.has, told.2, out);
      memory = λ e. absurd (omega (arith, told.0, e));
      known = inr (inr (inr (inr (inl told.0))));
    })
    (record {
      usage = λ none. inr (inl told.0);
      decided = λ held faults. absurd (faults.err told.1);
      unread = λ failed. inr (inl told.0);
      unwritten = λ failed. absurd (failed sound);
      untold = λ failed. inl told.0;
    })
line_ends run status at line cause out sound (inr (inr told)) = memory_ends run status told.0 told.1 out sound

-- and so it does with a refusal
pub refusal_ends : (run : Run) (status : ℕ) (s : Side) (r : Refusal) → Refuses run.words run.held s r → run.shelf_now ≡ run.shelf_before → IsLeft run.out → IsSound run.out
    → TellsLine 4 (refusal_line s r) run.err status → Ended run status
refusal_ends run status s r refuses read out sound told =
    line_ends run status 4 (refusal_line s r)
    (record {
      has = inl (refl, s, r, refuses, refl);
      usage = λ none. absurd (none_made run.words refuses.request refuses.made none);
      decided = λ held shelf. refl;
      unread = λ failed. absurd (failed read);
    }) out sound told

-- and where the words make no request
pub usage_ends : (run : Run) (status : ℕ) → RequestsNone run.words → run.shelf_now ≡ run.shelf_before → IsLeft run.out → IsSound run.out
    → TellsLine 5 usage_line run.err status → Ended run status
usage_ends run status none read out sound told =
    line_ends run status 5 usage_line
    (record {
      has = inr (inl (refl, none, refl));
      usage = λ again. refl;
      decided = λ held shelf. absurd (none_made run.words held.request held.made none);
      unread = λ failed. absurd (failed read);
    }) out sound told

-- and where a file couldn't be read
pub read_fault_ends : OneRequest → (run : Run) (status : ℕ) (name : List ℕ) → FailsToRead run.words run.held run.shelf_before run.shelf_now name → IsLeft run.out → IsSound run.out
    → TellsLine 6 (read_fault_line name) run.err status → Ended run status
read_fault_ends one run status name fails out sound told =
    line_ends run status 6 (read_fault_line name)
    (record {
      has = inr (inr (refl, name, fails, refl));
      usage = λ none. absurd (none_made run.words fails.request fails.made none);
      decided = λ held shelf.
          absurd (none_failed run.held run.shelf_before run.shelf_now (files_of fails.request) name shelf
          (subst (λ q. AllTold run.held (files_of q)) (one (map string_bytes run.words) held.request fails.request held.made fails.made) held.told) fails.first);
      unread = λ failed. refl;
    }) out sound told

-- ---- where no count of faults can rise

-- no count of faults rises from 0 to 0
pub never_rose : Rose 0 0 → ⊥
never_rose h = absurd (omega (arith, h))

-- where no sink fails the status isn't 7
pub never_a_write_fault : (run : Run) (status : ℕ) → Tells run status → (HasFailed run.out → ⊥) → (HasFailed run.err → ⊥) → status ≡ 7 → ⊥
never_a_write_fault run status tells out err is = elim (tells.write is) [ inl o ↦ out o.0 | inr e ↦ err e.0 ]

-- nor a read, where each name can be read
never_failed : (held : Held) (before now : ℕ) (files : ByRole (List ℕ)) (name : List ℕ) → (Rose before now → ⊥) → ((n : List ℕ) → IsMissing held n → ⊥) → FirstFailed held before now files name → ⊥
never_failed held before now [] name never there failed = failed
never_failed held before now (f ∷ files) name never there (inl here) = elim here.1 [ inl rose ↦ never rose | inr missing ↦ there name missing ]
never_failed held before now (f ∷ files) name never there (inr later) = never_failed held before now files name never there later.1

-- where the shelf doesn't fail and no name is missing, the status isn't 6
pub never_a_read_fault : (run : Run) (status : ℕ) → Tells run status → (Rose run.shelf_before run.shelf_now → ⊥) → ((n : List ℕ) → IsMissing run.held n → ⊥) → status ≡ 6 → ⊥
never_a_read_fault run status tells never there is =
    let told = tells.read is in
    never_failed run.held run.shelf_before run.shelf_now (files_of told.1.request) told.0 never there told.1.first

-- ---- what follows from what is told

-- where a file is missing
lacking : OneRequest → (run : Run) (status : ℕ) → Tells run status → LacksFile run.words run.held → (status ≡ 6) ⊎ ((status ≡ 7) ⊎ (status ≡ 8))
lacking one run status tells lacks = elim tells.known [
  | inl is ↦ let told = tells.report is in absurd (no_report_lacks one run.words run.held lacks told.0 told.1)
  | inr (inl is) ↦ let told = tells.refused is in absurd (no_refusal_lacks one run.words run.held lacks told.0 told.1 told.2)
  | inr (inr (inl is)) ↦ absurd ((tells.words is).0 lacks.request lacks.made)
  | inr (inr (inr others)) ↦ others
]

-- what follows of the status follows of how the run ended
pub owes : NoCatalogRefusal → NoGraphRefusal → NoReportRefusal → NoComparisonRefusal → OneList → NoFault → OneRequest → (run : Run) (status : ℕ) → Ended run status → Owes run status
owes catalogs graphs programs comparisons lists faults one run status ends = record {
  owed = ends.owed;
  refused = λ held s r refuses is.
      let told = ends.tells.report is in no_refusal catalogs graphs programs comparisons lists faults one run.words run.held told.0 s r held told.1 refuses;
  missing = lacking one run status ends.tells;
}

-- ---- from the request to the words that make it

-- what is said of a request is said of the words that make it
pub says_of_words : (words : List (String Global)) (request : Request) (held : Held) (before now : ℕ) (e : Ending)
    → Requests words request → SaysOf request held before now e → Says words held before now e
says_of_words words request held before now (ending.Report report) made h = (h.0, record { request = request; made = made; on = h.1 })
says_of_words words request held before now (ending.Refused s r) made h = (h.0, record { request = request; made = made; cause = h.1 })
says_of_words words request held before now ending.BadWords made h = absurd h
says_of_words words request held before now (ending.ReadFault name) made h = record { request = request; made = made; first = h }
says_of_words words request held before now ending.Memory made h = h
