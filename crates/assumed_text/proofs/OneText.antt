-- A text says one list of assumptions at most, which are sound, and what says none is refused.
use Rattle.std.proofs.Common.{◌≡◌, ◌∷◌, [], ◌++◌, ℕ, List, Option, Some, None, codes, sym, subst, ◌∙◌}
use Rattle.std.specs.List.{AllByRecursion}
use Rattle.serde_json.specs.Data.{Data, Items, no_items, item, Members, no_members, member}
use Rattle.serde_json.specs.Read.{read}
use Rattle.rh_base.specs.declared.fault.Fault.{Fault}
use Rattle.rh_base.specs.declared.fault.Fault.TheVariants.{Refused as Refusing, Memory}
use Rattle.rh_base.specs.declared.misread.Misread.{Misread}
use Rattle.rh_base.specs.declared.misread.Misread.TheVariants as misread
use Rattle.rh_base.specs.Reading.{Fails}
use Rattle.rh_base.specs.Refused.{IfRefused, IsRefusal}
use Rattle.fs_semantics.specs.FileTree.{Path}
use Rattle.fs_lang.specs.Managed.{MayBeManaged}
use Rattle.pkg_listing.specs.Form.{AreFolders}
use Rattle.assumed_text.specs.declared.assumed.Behavior.{Behavior}
use Rattle.assumed_text.specs.declared.assumed.Assumed.{Assumed}
use Rattle.assumed_text.specs.declared.assumed.Assumed.TheVariants.{Nothing, Refused, Does}
use Rattle.assumed_text.specs.declared.assumed.Assumption.{Assumption}
use Rattle.assumed_text.specs.Assumptions.{IfPathMayBeManaged, IsSoundBehavior, IsSound, IsSoundAssumption}
use Rattle.assumed_text.specs.Form.{ArePathsAt, IsPathAt, IsBehavior, IsAssumed, AreAssumptions, SaysAssumptions, IsAssumptionsText}
use Rattle.json_parts.specs.Forms.{IfForm}
use Rattle.assumed_text.specs.Reading.{all_rows}
use Rattle.assumed_text.proofs.SubjectLaws.{ReferencesWhere}
use Rattle.assumed_text.proofs.PathLaws.{OnceWhere}
use Rattle.assumed_text.proofs.FormLaws.{says_back}
use Rattle.std.proofs.lemmas.Option.{none-some, same_Some}

-- ---- one list

-- JSON says one list of assumptions only
same_rows : ReferencesWhere → OnceWhere → (d : Data) (a b : List Assumption) → SaysAssumptions a d → SaysAssumptions b d → a ≡ b
same_rows references once d a b is was = same_Some a b (sym (says_back references once d a is) ∙ says_back references once d b was)

-- and so does a text
pub one_text : ReferencesWhere → OnceWhere → (bytes : List ℕ) (a b : List Assumption) → IsAssumptionsText bytes a → IsAssumptionsText bytes b → a ≡ b
one_text references once bytes a b is was =
    same_rows references once was.json a b (subst (SaysAssumptions a) (same_Some is.json was.json (sym is.is_read ∙ was.is_read)) is.says) was.says

-- ---- they are sound

-- the paths of items may be managed
all_managed : (paths : List Path) (items : Items) → AreFolders paths items → AllByRecursion MayBeManaged paths
all_managed [] items h = tt
all_managed (p ∷ paths) no_items h = absurd h
all_managed (p ∷ paths) (item d items) h = (h.0.managed, all_managed paths items h.1)

-- and so may those of an array, where it stands
managed_at : (paths : List Path) (o : Option Data) → ArePathsAt paths o → AllByRecursion MayBeManaged paths
managed_at paths None h = subst (AllByRecursion MayBeManaged) (sym h) tt
managed_at paths (Some d) h = all_managed paths h.0 h.2

-- and a path, where it stands
one_managed : (path : Option Path) (o : Option Data) → IsPathAt path o → IfPathMayBeManaged path
one_managed path None h = subst IfPathMayBeManaged (sym h) tt
one_managed path (Some d) h = subst IfPathMayBeManaged (sym h.1) h.2.managed

-- what holds of all of two lists holds of all of both joined
all_both : (P : Path → Type 0) (ps qs : List Path) → AllByRecursion P ps → AllByRecursion P qs → AllByRecursion P (ps ++ qs)
all_both P [] qs h k = k
all_both P (p ∷ ps) qs h k = (h.0, all_both P ps qs h.1 k)

-- a behavior that JSON says is sound
sound_behavior : (b : Behavior) (d : Data) → IsBehavior b d → IsSoundBehavior b
sound_behavior b d h = record {
  apart = h.apart;
  few = h.few;
  managed = all_both MayBeManaged b.needs (b.folders ++ (b.makes ++ (b.edits ++ b.removes))) (managed_at b.needs _ h.needs)
      (all_both MayBeManaged b.folders (b.makes ++ (b.edits ++ b.removes)) (managed_at b.folders _ h.folders)
      (all_both MayBeManaged b.makes (b.edits ++ b.removes) (managed_at b.makes _ h.makes)
      (all_both MayBeManaged b.edits b.removes (managed_at b.edits _ h.edits) (managed_at b.removes _ h.removes))));
  creates = one_managed b.creates _ h.creates;
}

-- and so is whatever it says to be assumed
sound_assumed : (a : Assumed) (d : Data) → IsAssumed a d → IsSound a
sound_assumed Nothing d h = tt
sound_assumed Refused d h = tt
sound_assumed (Does b) d h = sound_behavior b d h

-- and each assumption of its members
pub all_sound : (rows : List Assumption) (members : Members) → AreAssumptions rows members → AllByRecursion IsSoundAssumption rows
all_sound [] _ h = tt
all_sound (a ∷ rows) no_members h = absurd h
all_sound (a ∷ rows) (member key d members) h = (sound_assumed a.assumed d h.0.assumed, all_sound rows members h.1)

-- ---- no list

-- where the fault is the form, the JSON says no assumptions
pub says_none : ReferencesWhere → OnceWhere → (d : Data) (e : Misread) → Fails e (all_rows d) → IfForm e ((rows : List Assumption) → SaysAssumptions rows d → ⊥)
says_none references once d misread.Form none = λ rows h. none-some rows (sym none ∙ says_back references once d rows h)
says_none references once d (misread.Memory m) none = tt

-- a text whose JSON says none says none
no_text : (bytes : List ℕ) (d : Data) → read bytes ≡ Some d → ((rows : List Assumption) → SaysAssumptions rows d → ⊥) → (rows : List Assumption) → IsAssumptionsText bytes rows → ⊥
no_text bytes d is none rows text = none rows (subst (SaysAssumptions rows) (same_Some text.json d (sym text.is_read ∙ is)) text.says)

-- a refusal of JSON that says none is one of a text that says none
pub refused_with : (bytes : List ℕ) (d : Data) (f : Fault) → read bytes ≡ Some d → ((rows : List Assumption) → SaysAssumptions rows d → ⊥) → IfRefused f (IsRefusal 66 0 (codes "assume"))
    → IfRefused f (λ r. IsRefusal 66 0 (codes "assume") r × ((rows : List Assumption) → IsAssumptionsText bytes rows → ⊥))
refused_with bytes d (Refusing r) is none h = (h, no_text bytes d is none)
refused_with bytes d (Memory m) is none h = tt
