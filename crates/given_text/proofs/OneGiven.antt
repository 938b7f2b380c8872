-- A text gives one thing, and what stands in what it gives.
use Rattle.std.proofs.Common.{◌≡◌, ℕ, List, Some, None, codes, sym, ap, subst, ◌∙◌}
use Rattle.std.specs.FinMap as finite
use Rattle.serde_json.specs.Data.{Data}
use Rattle.serde_json.specs.Read.{read}
use Rattle.rh_base.specs.declared.fault.Fault.{Fault}
use Rattle.rh_base.specs.declared.fault.Fault.TheVariants.{Refused, Memory}
use Rattle.rh_base.specs.declared.misread.Misread.{Misread}
use Rattle.rh_base.specs.declared.misread.Misread.TheVariants as misread
use Rattle.rh_base.specs.Reading.{Fails}
use Rattle.rh_base.specs.Refused.{IfRefused, IsRefusal}
use Rattle.given_text.specs.declared.given.Given.{Given}
use Rattle.given_text.specs.Form.{named, IsStated, IsSound, IsClosed, IsGivenBy, IsGivenText}
use Rattle.json_parts.specs.Forms.{IfForm}
use Rattle.given_text.specs.Reading.{stated_of}
use Rattle.given_text.proofs.FormLaws.{stated_back}
use Rattle.given_text.proofs.JustLaws.{same_tree}
use Rattle.std.proofs.lemmas.Option.{none-some, same_Some}

-- JSON states one thing only
same_stated : (d : Data) (a b : Given) → IsStated a d → IsStated b d → a ≡ b
same_stated d a b is was = same_Some a b (sym (stated_back d a is) ∙ stated_back d b was)

-- what is stated gives one thing only
same_closed : (stated g h : Given) → IsClosed stated g → IsClosed stated h → g ≡ h
same_closed stated g h is was =
    let links : g.links ≡ h.links = is.links ∙ sym was.links in
    let folders : g.folders ≡ h.folders = is.folders ∙ ap (λ t. finite.keys t) (same_tree (named stated) is.tree was.tree is.just was.just) ∙ sym was.folders in
    λ t. record { folders = folders t; links = links t }

-- and so JSON gives one thing only
pub same_given : (d : Data) (g h : Given) → IsGivenBy d g → IsGivenBy d h → g ≡ h
same_given d g h is was =
    same_closed was.stated g h (subst (λ s. IsClosed s g) (same_stated d is.stated was.stated is.states was.states) is.closed) was.closed

-- and so does a text
pub one_given : (bytes : List ℕ) (g h : Given) → IsGivenText bytes g → IsGivenText bytes h → g ≡ h
one_given bytes g h is was =
    same_given was.json g h (subst (λ d. IsGivenBy d g) (same_Some is.json was.json (sym is.is_read ∙ was.is_read)) is.gives) was.gives

-- ---- JSON that gives nothing

-- JSON that isn't read as folders and links gives nothing
pub states_none : (d : Data) → stated_of d ≡ None → (g : Given) → IsGivenBy d g → ⊥
states_none d none g is = none-some is.stated (sym none ∙ stated_back d is.stated is.states)

-- JSON whose folders and links aren't sound gives nothing
pub not_sound : (d : Data) (s : Given) → IsStated s d → (IsSound s → ⊥) → (g : Given) → IsGivenBy d g → ⊥
not_sound d s states n g is = n (subst IsSound (same_stated d is.stated s is.states states) is.sound)

-- a text whose JSON gives nothing gives nothing
pub gives_none : (bytes : List ℕ) (d : Data) → read bytes ≡ Some d → ((g : Given) → IsGivenBy d g → ⊥) → (g : Given) → IsGivenText bytes g → ⊥
gives_none bytes d is n g text = n g (subst (λ e. IsGivenBy e g) (same_Some text.json d (sym text.is_read ∙ is)) text.gives)

-- where the fault is the form, the JSON gives nothing
pub not_stated : (d : Data) (e : Misread) → Fails e (stated_of d) → IfForm e ((g : Given) → IsGivenBy d g → ⊥)
not_stated d misread.Form none = states_none d none
not_stated d (misread.Memory m) none = tt

-- a refusal of JSON that gives nothing is one of a text that gives nothing
pub refused_with : (bytes : List ℕ) (d : Data) (f : Fault) → read bytes ≡ Some d → ((g : Given) → IsGivenBy d g → ⊥) → IfRefused f (IsRefusal 67 0 (codes "given"))
    → IfRefused f (λ r. IsRefusal 67 0 (codes "given") r × ((g : Given) → IsGivenText bytes g → ⊥))
refused_with bytes d (Refused r) is none h = (h, gives_none bytes d is none)
refused_with bytes d (Memory m) is none h = tt
