use Rattle.std.proofs.Common.{refl}
use Rattle.rehearsal_core.proofs.Endings.{report_ends, refusal_ends, usage_ends, read_fault_ends}
use Rattle.rehearsal_core.proofs.run.answered.Goals as goal

pub returns-in-Report : goal.returns-in-Report
returns-in-Report g c = report_ends _ _ c.in-Report.report c.in-Report.ensures.says.1 c.in-Report.ensures.says.0 c.write_report.ensures

pub returns-in-Refused : goal.returns-in-Refused
returns-in-Refused g c = refusal_ends _ _ c.in-Refused.side c.in-Refused.refusal c.in-Refused.ensures.says.1 c.in-Refused.ensures.says.0 refl refl c.tell_refusal.ensures

pub returns-in-BadWords : goal.returns-in-BadWords
returns-in-BadWords g c = usage_ends _ _ c.in-BadWords.ensures.says.1 c.in-BadWords.ensures.says.0 refl refl c.tell_usage.ensures

pub returns-in-ReadFault : goal.returns-in-ReadFault
returns-in-ReadFault g c = read_fault_ends c.one_request.ensures _ _ c.in-ReadFault.name c.in-ReadFault.ensures.says refl refl c.tell_read_fault.ensures
