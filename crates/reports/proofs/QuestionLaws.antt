-- What refuses a stage refuses the report, and what is told of programs is told in it.
use Rattle.std.proofs.Common.{◌≡◌, ℕ, List, Option, Result, Ok, Err}
use Rattle.std.specs.Prelude.{IfOk, IfErr}
use Rattle.rh_base.specs.declared.fault.Fault.{Fault}
use Rattle.rh_base.specs.declared.fault.Fault.TheVariants.{Refused, Memory}
use Rattle.rh_base.specs.Refused.{IfRefused}
use Rattle.fs_semantics.specs.Programs.{Program}
use Rattle.catalog_semantics.specs.Catalogs.{Catalog}
use Rattle.dep_graph.specs.declared.answer.Graph.{Graph}
use Rattle.known_inputs.specs.declared.inputs.Inputs.{Inputs}
use Rattle.known_inputs.specs.declared.inputs.Known.{Known}
use Rattle.command_line.specs.declared.table.Role.TheVariants as role
use Rattle.host_limits.specs.declared.limits.Limits.{Limits}
use Rattle.known_inputs.specs.Inputs.{bytes_of, input_of, IsCompiledOf, IsKnown, FirstUnread}
use Rattle.compiled_text.specs.Compiled.{Compiled}
use Rattle.reports.specs.declared.question.Question.{Question}
use Rattle.verdict_report.specs.declared.report.Report.{Report}
use Rattle.reports.specs.Stages.{node_name, ForSource, IsModelled, ProgramsRefusal}
use Rattle.reports.specs.Questions as questions
use Rattle.reports.specs.Questions.{IsToldOf, HasNoAnswer, IsReport, ReportRefusal}
use Rattle.reports.proofs.StageLaws.{unread_programs}

-- ---- what comes before an answer

-- what refuses the programs refuses the report
before_answer : (q : Question) (i : Inputs) (e : Fault) → IfRefused e (ProgramsRefusal i) → IfRefused e (ReportRefusal q i)
before_answer q i (Refused r) first = questions.before_answer first
before_answer q i (Memory m) first = tt

-- and so does what refuses the files
pub unread_report : (q : Question) (i : Inputs) (e : Fault) → IfRefused e (FirstUnread i) → IfRefused e (ReportRefusal q i)
unread_report q i e first = before_answer q i e (unread_programs i e first)

-- and what refuses what is asked about, of each request with such files
pub source_report : (q : Question) (i : Inputs) (k : Known) (m : Option Compiled) (text name : List ℕ) (l : Limits) (e : Fault) → IfRefused e (λ r. ForSource m text name l k (λ j. ProgramsRefusal j r))
    → text ≡ input_of i → IsCompiledOf (bytes_of role.Compiled i) m → name ≡ node_name i.node → l ≡ i.limits → IsKnown i k → IfRefused e (ReportRefusal q i)
source_report q i k m text name l (Refused r) none is source called limited known = questions.before_answer (none i is source called limited known)
source_report q i k m text name l (Memory x) none is source called limited known = tt

-- ---- answers

-- what is told of programs is told in a report
pub report_of : (q : Question) (i : Inputs) (k : Known) (m : Option Compiled) (c : Catalog) (g : Graph) (es : List Program) (said : Result Report Fault) → IsModelled i k m c g es
    → IfOk said (IsToldOf q i k m c g es) → IfOk said (IsReport q i)
report_of q i k m c g es (Ok report) modelled told = record { known = k; source = m; catalog = c; graph = g; programs = es; modelled = modelled; told = told }
report_of q i k m c g es (Err e) modelled told = tt

-- that nothing is told of them refuses the report
no_answer : (q : Question) (i : Inputs) (k : Known) (m : Option Compiled) (c : Catalog) (g : Graph) (es : List Program) (e : Fault) → IsModelled i k m c g es
    → IfRefused e (HasNoAnswer q i k m c g es) → IfRefused e (ReportRefusal q i)
no_answer q i k m c g es (Refused r) modelled none = questions.no_answer k m c g es modelled none
no_answer q i k m c g es (Memory x) modelled none = tt

-- and so it is where what was asked is refused
pub refusal_of : (q : Question) (i : Inputs) (k : Known) (m : Option Compiled) (c : Catalog) (g : Graph) (es : List Program) (said : Result Report Fault) → IsModelled i k m c g es
    → IfErr said (λ e. IfRefused e (HasNoAnswer q i k m c g es)) → IfErr said (λ e. IfRefused e (ReportRefusal q i))
refusal_of q i k m c g es (Ok report) modelled none = tt
refusal_of q i k m c g es (Err e) modelled none = no_answer q i k m c g es e modelled none
