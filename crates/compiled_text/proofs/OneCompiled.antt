-- A text says one compiled catalog at most, and what says none is refused.
use Rattle.std.proofs.Common.{◌≡◌, ℕ, List, Some, None, codes, sym, subst, ◌∙◌}
use Rattle.serde_json.specs.Data.{Data}
use Rattle.serde_json.specs.Read.{read}
use Rattle.rh_base.specs.declared.fault.Fault.{Fault}
use Rattle.rh_base.specs.declared.fault.Fault.TheVariants.{Refused, Memory}
use Rattle.rh_base.specs.Refused.{IfRefused, IsRefusal}
use Rattle.compiled_text.specs.Compiled.{Compiled}
use Rattle.compiled_text.specs.Form.{IsCompiled, IsCompiledText}
use Rattle.compiled_text.specs.Reading.{compiled_of}
use Rattle.compiled_text.proofs.FormLaws.{compiled_back}
use Rattle.std.proofs.lemmas.Option.{none-some, same_Some}

-- JSON says one compiled catalog at most
same_compiled : (d : Data) (a b : Compiled) → IsCompiled a d → IsCompiled b d → a ≡ b
same_compiled d a b is was = same_Some a b (sym (compiled_back d a is) ∙ compiled_back d b was)

-- so do bytes
pub one_compiled : (bytes : List ℕ) (a b : Compiled) → IsCompiledText bytes a → IsCompiledText bytes b → a ≡ b
one_compiled bytes a b is was =
    same_compiled was.json a b (subst (λ d. IsCompiled a d) (same_Some is.json was.json (sym is.is_read ∙ was.is_read)) is.says) was.says

-- bytes whose JSON isn't read as a compiled catalog say none
says_none : (bytes : List ℕ) (d : Data) → read bytes ≡ Some d → compiled_of d ≡ None → (c : Compiled) → IsCompiledText bytes c → ⊥
says_none bytes d is none c text =
    none-some c (sym none ∙ compiled_back d c (subst (λ e. IsCompiled c e) (same_Some text.json d (sym text.is_read ∙ is)) text.says))

-- the refusal of code 65 comes where the bytes say none
pub refused_with : (bytes : List ℕ) (d : Data) (f : Fault) → read bytes ≡ Some d → compiled_of d ≡ None → IfRefused f (IsRefusal 65 0 (codes "compiled"))
    → IfRefused f (λ r. IsRefusal 65 0 (codes "compiled") r × ((c : Compiled) → IsCompiledText bytes c → ⊥))
refused_with bytes d (Refused r) is none h = (h, says_none bytes d is none)
refused_with bytes d (Memory m) is none h = tt
