-- Texts that have another form than what is read.
use Rattle.rh_base.specs.declared.misread.Misread.{Misread}
use Rattle.rh_base.specs.declared.misread.Misread.TheVariants as misread

-- a fact where the fault is that the text has another form
abbrev pub IfForm : Misread → Type 0 → Type 0
IfForm misread.Form P = P
IfForm (misread.Memory m) P = Unit {0}
