-- What is said of a request excludes what is said otherwise: a report excludes a refusal, and a missing file both.
use Rattle.std.proofs.Common.{◌≡◌, inl, inr, ℕ, ◌≤◌, List, [], ◌∷◌, ◌++◌, length, map, Option, refl, sym, subst, ◌∙◌, arith}
use Rattle.std.specs.Prelude.{String, string_bytes}
use Rattle.std.specs.List.{AllByRecursion}
use Rattle.std.specs.declared.alloc.Global.{Global}
use Rattle.rh_base.specs.declared.fault.Refusal.{Refusal}
use Rattle.rh_base.specs.Shelf.{Held}
use Rattle.command_line.specs.declared.table.Ask.{Ask}
use Rattle.command_line.specs.declared.table.Ask.TheVariants as ask
use Rattle.command_line.specs.declared.request.Request.{Request}
use Rattle.command_line.specs.declared.request.Source.{Source}
use Rattle.command_line.specs.declared.request.Source.TheVariants as source
use Rattle.command_line.specs.declared.table.InputKind.{InputKind}
use Rattle.command_line.specs.Table.{limit_of, ByRole, input_kind}
use Rattle.command_line.specs.Words.{Makes}
use Rattle.request_files.specs.Files.{AreRead, FirstTooLong, NoneMissing, AnyMissing, AllTold}
use Rattle.cnf.specs.declared.log.Step.{Step}
use Rattle.cnf.specs.Formulas.{Formula}
use Rattle.cnf.specs.Proofs.{IsAccepted}
use Rattle.proof_check.specs.declared.fault.Cause.{Cause}
use Rattle.proof_check.specs.Faults.{IsFault}
use Rattle.proof_check.specs.Refuted.{Refutation}
use Rattle.proof_check.specs.ProofWords.{IsProofText}
use Rattle.known_inputs.specs.declared.inputs.Inputs.{Inputs}
use Rattle.known_inputs.specs.Inputs.{input_of}
use Rattle.verdict_report.specs.declared.report.Report.{Report}
use Rattle.verdict_report.specs.declared.report.Form.TheVariants as form
use Rattle.reports.specs.declared.question.Question.{Question}
use Rattle.reports.specs.declared.question.Question.TheVariants as question
use Rattle.reports.specs.Stages.{CatalogRefusal, GraphRefusal}
use Rattle.reports.specs.Reports.{IsCatalogReport, IsGraphReport}
use Rattle.reports.specs.Questions.{IsReport, ReportRefusal}
use Rattle.reports.specs.Comparisons.{IsComparison, ComparisonRefusal}
use Rattle.reports.specs.declared.sides.Side.{Side}
use Rattle.reports.specs.declared.sides.Side.TheVariants as side
use Rattle.reports.specs.Sides.{OfInput}
use Rattle.rehearsal_core.specs.declared.inputs.Loaded.{Loaded}
use Rattle.rehearsal_core.specs.Verified.{IsRefuted, AreVerified, FirstBad, BreaksProofRule}
use Rattle.rehearsal_core.specs.Migrated.{BreaksListingRule}
use Rattle.rehearsal_core.specs.Inputs.{files_in, files_of, Requests, AreInputs, IsLoaded, IsAnswerTo, BreaksFor, Breaks, ReportsOn, IsTooLongAt, RefusesAt, Reports, Refuses, IsHeld, LacksFile}

-- ---- what is known of each part

-- words make one request only
abbrev pub OneRequest : Type 0
OneRequest = (words : List (List ℕ)) (r s : Request) → Makes words r → Makes words s → r ≡ s

-- a report on the catalog excludes a refusal
abbrev pub NoCatalogRefusal : Type 0
NoCatalogRefusal = (i : Inputs) (report : List ℕ) (r : Refusal) → IsCatalogReport i report → CatalogRefusal i r → ⊥

-- and so does one on the graph
abbrev pub NoGraphRefusal : Type 0
NoGraphRefusal = (i : Inputs) (report : List ℕ) (r : Refusal) → IsGraphReport i report → GraphRefusal i r → ⊥

-- and one on programs
abbrev pub NoReportRefusal : Type 0
NoReportRefusal = (q : Question) (i : Inputs) (report : Report) (r : Refusal) → IsReport q i report → ReportRefusal q i r → ⊥

-- and a comparison
abbrev pub NoComparisonRefusal : Type 0
NoComparisonRefusal = (given : Option ℕ) (i : Inputs) (report : Report) (s : Side) (r : Refusal) → IsComparison given i report → ComparisonRefusal i s r → ⊥

-- a text spells one list of proofs only
abbrev pub OneList : Type 0
OneList = (text : List ℕ) (ps qs : List Refutation) → IsProofText text ps → IsProofText text qs → ps ≡ qs

-- a proof has no step that fails
abbrev pub NoFault : Type 0
NoFault = (f : Formula) (steps : List Step) (n : ℕ) (cause : Cause) → IsAccepted f steps → IsFault f steps n cause → ⊥

-- ---- files that are told

-- files that are told are read as the same bytes
same_files : (held : Held) (kind : InputKind) (names files others : ByRole (List ℕ)) → AllTold held names → AreRead held kind names files → AreRead held kind names others → files ≡ others
same_files held kind [] [] [] told is was = refl
same_files held kind [] [] (g ∷ others) told is was = absurd was
same_files held kind [] (f ∷ files) others told is was = absurd is
same_files held kind (n ∷ names) [] others told is was = absurd is
same_files held kind (n ∷ names) (f ∷ files) [] told is was = absurd was
same_files held kind (n ∷ names) (f ∷ files) (g ∷ others) told is was =
    let role = is.0 ∙ sym was.0 in
    let bytes = is.1.1 told.0.0 told.0.1 ∙ sym (was.1.1 told.0.0 told.0.1) in
    let more = same_files held kind names files others told.1 is.2 was.2 in
    λ t. (role t, bytes t) ∷ more t

-- and where they are read none is too long
not_too_long : (held : Held) (kind : InputKind) (names files : ByRole (List ℕ)) (r : Refusal) → AllTold held names → AreRead held kind names files → FirstTooLong held kind names r → ⊥
not_too_long held kind [] files r told is long = long
not_too_long held kind (n ∷ names) [] r told is long = absurd is
not_too_long held kind (n ∷ names) (f ∷ files) r told is (inl here) =
    let more = here.0.1 told.0.0 told.0.1 in
    let less = subst (λ bytes. length bytes ≤ limit_of kind n.0) (is.1.1 told.0.0 told.0.1) is.1.2 in
    absurd (omega (arith, more, less))
not_too_long held kind (n ∷ names) (f ∷ files) r told is (inr later) = not_too_long held kind names files r told.1 is.2 later.1

-- files that were read aren't missing
read_are_there : (held : Held) (kind : InputKind) (names files : ByRole (List ℕ)) → AreRead held kind names files → AnyMissing held names → ⊥
read_are_there held kind [] files is missing = missing
read_are_there held kind (n ∷ names) [] is missing = absurd is
read_are_there held kind (n ∷ names) (f ∷ files) is (inl here) = is.1.0 here
read_are_there held kind (n ∷ names) (f ∷ files) is (inr later) = read_are_there held kind names files is.2 later

-- where none is missing none is
none_and_any : (held : Held) (names : ByRole (List ℕ)) → NoneMissing held names → AnyMissing held names → ⊥
none_and_any held [] none missing = missing
none_and_any held (n ∷ names) none (inl here) = none.0 here
none_and_any held (n ∷ names) none (inr later) = none_and_any held names none.1 later

-- ---- what is loaded

-- what a request is about, where its files are told, is one
same_inputs : (held : Held) (r : Request) (s : Source) (i j : Inputs) → AllTold held (files_in s) → AreInputs held r s i → AreInputs held r s j → i ≡ j
same_inputs held r (source.Files names) i j told is was =
    let node = is.0 ∙ sym was.0 in
    let limits = is.1 ∙ sym was.1 in
    let wanted = is.2 ∙ sym was.2 in
    let files = same_files held (input_kind r.ask names) names i.files j.files told is.3 was.3 in
    λ t. record { node = node t; limits = limits t; wanted = wanted t; files = files t }
same_inputs held r (source.Workload n) i j told is was = is ∙ sym was

-- and so is the request with what it is about
same_loaded : (held : Held) (r : Request) (l m : Loaded) → AllTold held (files_of r) → IsLoaded held r l → IsLoaded held r m → l ≡ m
same_loaded held r l m told is was =
    let a = is.asked ∙ sym was.asked in
    let conflicts = is.conflicts ∙ sym was.conflicts in
    let inputs = same_inputs held r r.source l.inputs m.inputs told is.inputs was.inputs in
    λ t. record { ask = a t; conflicts = conflicts t; inputs = inputs t }

-- where the files were loaded none is too long
loaded_within : (held : Held) (q : Request) (s : Source) (i : Inputs) (r : Refusal) → AllTold held (files_in s) → AreInputs held q s i → FirstTooLong held (input_kind q.ask (files_in s)) (files_in s) r → ⊥
loaded_within held q (source.Files names) i r told is long = not_too_long held (input_kind q.ask names) names i.files r told is.3 long
loaded_within held q (source.Workload n) i r told is long = long

-- and none is missing
loaded_are_there : (held : Held) (q : Request) (s : Source) (i : Inputs) → AreInputs held q s i → AnyMissing held (files_in s) → ⊥
loaded_are_there held q (source.Files names) i is missing = read_are_there held (input_kind q.ask names) names i.files is.3 missing
loaded_are_there held q (source.Workload n) i is missing = missing

-- ---- proofs

-- what holds of all of a list holds of one in its middle
at_middle : {X : Type 0} (P : X → Type 0) (front : List X) (x : X) (back : List X) → AllByRecursion P (front ++ x ∷ back) → P x
at_middle P [] x back all = all.0
at_middle P (y ∷ front) x back all = at_middle P front x back all.1

-- where all are proofs none is bad
not_bad : NoFault → (proofs : List Refutation) (number step : ℕ) → AllByRecursion IsRefuted proofs → FirstBad proofs number step → ⊥
not_bad none proofs number step all first =
    let is = at_middle IsRefuted first.front first.bad first.back (subst (AllByRecursion IsRefuted) first.whole all) in
    none first.bad.formula first.bad.steps step first.cause is.accepted first.fault

-- a text whose proofs are verified breaks no rule of proofs
verified_or_not : OneList → NoFault → (text report : List ℕ) (r : Refusal) → AreVerified text report → BreaksProofRule text r → ⊥
verified_or_not one none text report r is (inl spells) = spells.1 is.proofs is.spelled
verified_or_not one none text report r is (inr bad) =
    not_bad none bad.proofs bad.number bad.step (subst (AllByRecursion IsRefuted) (one text is.proofs bad.proofs is.spelled bad.spelled) is.refuted) bad.first

-- ---- an answer, or a refusal

-- what is refused of the input alone is refused of no other side
of_one : (P : Refusal → Type 0) (s : Side) (r : Refusal) → ((x : Refusal) → P x → ⊥) → OfInput P s r → ⊥
of_one P side.Input r none of = none r of
of_one P side.Other r none of = of

module _ (catalogs : NoCatalogRefusal) (graphs : NoGraphRefusal) (programs : NoReportRefusal) (comparisons : NoComparisonRefusal) (lists : OneList) (faults : NoFault) where
  -- the same of a report on programs
  no_side_of : (q : Question) (i : Inputs) (report : Report) (s : Side) (r : Refusal) → IsReport q i report → OfInput (ReportRefusal q i) s r → ⊥
  no_side_of q i report s r is breaks = of_one (ReportRefusal q i) s r (λ x refused. programs q i report x is refused) breaks

  -- an answer excludes a refusal of the same files
  answered_or_not : (a : Ask) (conflicts : Option ℕ) (i : Inputs) (report : Report) (s : Side) (r : Refusal) → IsAnswerTo a conflicts i report → BreaksFor a conflicts i s r → ⊥
  answered_or_not ask.Verify conflicts i report s r is breaks = no_side_of (question.Verdict form.Lines conflicts) i report s r is breaks
  answered_or_not ask.Proof conflicts i report s r is breaks = no_side_of (question.Verdict form.Proofs conflicts) i report s r is breaks
  answered_or_not ask.Catalog conflicts i report s r is breaks = of_one (CatalogRefusal i) s r (λ x refused. catalogs i report.text x is.1 refused) breaks
  answered_or_not ask.Graph conflicts i report s r is breaks = of_one (GraphRefusal i) s r (λ x refused. graphs i report.text x is.1 refused) breaks
  answered_or_not ask.Programs conflicts i report s r is breaks = no_side_of question.Programs i report s r is breaks
  answered_or_not ask.Replay conflicts i report s r is breaks = no_side_of question.Replay i report s r is breaks
  answered_or_not ask.Check conflicts i report s r is breaks =
      of_one (BreaksProofRule (input_of i)) s r (λ x refused. verified_or_not lists faults (input_of i) report.text x is.1 refused) breaks
  answered_or_not ask.Migrate conflicts i report s r is breaks =
      of_one (BreaksListingRule (input_of i)) s r (λ x refused. refused.1 is.1.packages is.1.given) breaks
  answered_or_not ask.Repair conflicts i report s r is breaks = no_side_of (question.Repair conflicts) i report s r is breaks
  answered_or_not ask.Ensures conflicts i report s r is breaks = no_side_of (question.Ensures conflicts) i report s r is breaks
  answered_or_not ask.Equal conflicts i report s r is breaks = comparisons conflicts i report s r is breaks
  answered_or_not ask.Explain conflicts i report s r is breaks = no_side_of (question.Explain conflicts) i report s r is breaks

  -- and so does a report on a request whose files are told
  reported_or_refused : (q : Request) (held : Held) (report : Report) (s : Side) (r : Refusal) → AllTold held (files_of q) → ReportsOn q held report → RefusesAt q held s r → ⊥
  reported_or_refused q held report s r told on (inl long) =
      of_one (IsTooLongAt q held) s r (λ x refused. loaded_within held q q.source on.loaded.inputs x told on.stands.inputs refused) long.1
  reported_or_refused q held report s r told on (inr broken) =
      answered_or_not on.loaded.ask on.loaded.conflicts on.loaded.inputs report s r on.says
      (subst (λ l. Breaks l s r) (same_loaded held q broken.loaded on.loaded told broken.stands on.stands) broken.breaks)

  -- and one on the words that make it
  pub no_refusal : OneRequest → (words : List (String Global)) (held : Held) (report : Report) (s : Side) (r : Refusal) → IsHeld words held → Reports words held report → Refuses words held s r → ⊥
  no_refusal one words held report s r is reports refuses =
      let texts = map string_bytes words in
      reported_or_refused reports.request held report s r
      (subst (λ q. AllTold held (files_of q)) (one texts is.request reports.request is.made reports.made) is.told)
      reports.on
      (subst (λ q. RefusesAt q held s r) (one texts refuses.request reports.request refuses.made reports.made) refuses.cause)

-- ---- a file that is missing

module _ (one : OneRequest) (words : List (String Global)) (held : Held) (lacks : LacksFile words held) where
  -- the file that is missing is one of the request that the words make
  lacks_at : (q : Request) → Requests words q → AnyMissing held (files_of q)
  lacks_at q made = subst (λ x. AnyMissing held (files_of x)) (one (map string_bytes words) lacks.request q lacks.made made) lacks.missing

  -- where a file is missing nothing is reported
  pub no_report_lacks : (report : Report) → Reports words held report → ⊥
  no_report_lacks report reports =
      loaded_are_there held reports.request reports.request.source reports.on.loaded.inputs reports.on.stands.inputs (lacks_at reports.request reports.made)

  -- and nothing is refused
  pub no_refusal_lacks : (s : Side) (r : Refusal) → Refuses words held s r → ⊥
  no_refusal_lacks s r refuses = elim refuses.cause [
    | inl long ↦ none_and_any held (files_of refuses.request) long.0 (lacks_at refuses.request refuses.made)
    | inr broken ↦ loaded_are_there held refuses.request refuses.request.source broken.loaded.inputs broken.stands.inputs (lacks_at refuses.request refuses.made)
  ]
