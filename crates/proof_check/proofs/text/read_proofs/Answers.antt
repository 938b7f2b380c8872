use Rattle.std.proofs.Common.{map, subst, true, List}
use Rattle.std.specs.Prelude.{codes}
use Rattle.rh_base.specs.declared.fault.Fault.{Fault}
use Rattle.rh_base.specs.declared.fault.Fault.TheVariants.{Refused, Memory}
use Rattle.rh_base.specs.declared.fault.Refusal.{Refusal}
use Rattle.rh_base.specs.Refused.{IfRefused, IsRefusal}
use Rattle.rh_base.specs.declared.misread.Misread.{Misread}
use Rattle.proof_check.specs.ProofWords.{IsProofText}
use Rattle.proof_check.specs.WordsLeft.{words_left}
use Rattle.rh_base.specs.Reading.{Fails}
use Rattle.proof_check.specs.WordReading.{proofs_in}
use Rattle.proof_check.specs.Refuted.{Refutation, refutation}
use Rattle.proof_check.proofs.Spelling.{text_found, text_same, text_none}
use Rattle.proof_check.proofs.text.read_proofs.Goals as goal

-- what holds besides can be told with a refusal
also : (e : Fault) (P : Refusal → Type 0) (Q : Type 0) → Q → IfRefused e P → IfRefused e (λ r. P r × Q)
also (Refused r) P Q q h = (h, q)
also (Memory m) P Q q h = tt

pub returns-in-Ok-clause-spelled : goal.returns-in-Ok-clause-spelled
returns-in-Ok-clause-spelled c = text_found c.args.bytes.now (map refutation c.in-Ok.found.items) c.in-Ok.ensures

pub returns-in-Ok-clause-only : goal.returns-in-Ok-clause-only
returns-in-Ok-clause-only c ps h = text_same c.args.bytes.now (map refutation c.in-Ok.found.items) ps c.in-Ok.ensures h

pub returns-in-Err-Form-clause-only : goal.returns-in-Err-Form-clause-only
returns-in-Err-Form-clause-only c ps h = absurd (text_none c.args.bytes.now ps (subst (λ (m : Misread). Fails m (proofs_in (words_left true c.args.bytes.now))) c.in-Err-Form.field-0-is c.in-Err-Form.ensures) h)

pub returns-in-Err-Form-clause-refused : goal.returns-in-Err-Form-clause-refused
returns-in-Err-Form-clause-refused c =
    also c.refused.result (IsRefusal 80 0 (codes "proof")) ((ps : List Refutation) → IsProofText c.args.bytes.now ps → ⊥)
    (λ ps h. text_none c.args.bytes.now ps (subst (λ (m : Misread). Fails m (proofs_in (words_left true c.args.bytes.now))) c.in-Err-Form.field-0-is c.in-Err-Form.ensures) h) c.refused.ensures
