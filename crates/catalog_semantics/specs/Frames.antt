-- What a statement leaves as it was.
use Rattle.std.specs.Prelude.{◌≡◌, ◌≤◌, ℕ, length, slice_get, true, false, Option, Some, List, [], ◌∷◌, ◌++◌, Result, Ok, Err}
use Rattle.std.specs.List.{AllByRecursion}
use Rattle.rh_base.specs.declared.fault.Refusal.{Refusal}
use Rattle.host_limits.specs.declared.limits.Limits.{Limits}
use Rattle.host_limits.specs.Limits.{declared_limit}
use Rattle.pp_syntax.specs.declared.tree.Item.{Item}
use Rattle.pp_syntax.specs.declared.tree.Item.TheVariants as item
use Rattle.pp_value.specs.declared.value.Ref.{Ref}
use Rattle.pp_value.specs.declared.value.Value.{Value}
use Rattle.pp_eval.specs.Extending.{Begins, Extends as ScopesExtend}
use Rattle.catalog_semantics.specs.declared.catalog.Resource.{Resource}
use Rattle.pp_value.specs.Values.{Pair, HasDistinctKeys}
use Rattle.catalog_semantics.specs.Attributes.{AreClean}
use Rattle.catalog_semantics.specs.Sites.{is_built_in}
use Rattle.catalog_semantics.specs.Catalogs.{is_plain_sort}
use Rattle.pp_data.specs.Lookup.{key_of}
use Rattle.catalog_semantics.specs.States.{State, stands_in}

-- so of what is given, if anything is
abbrev pub Each : {A : Type 0} → (A → Type 0) → Result A Refusal → Type 0
Each P (Ok x) = P x
Each P (Err r) = Unit {0}

-- What a statement leaves: nothing that stands is taken away or changed, and it ends in the scope and in the body where it began.
pub record Extends (s t : State) : Type 0 where
  pub limits : t.limits ≡ s.limits
  pub running : t.running ≡ s.running
  pub main_has_ended : t.main_has_ended ≡ s.main_has_ended
  pub scopes : ScopesExtend s.scopes t.scopes
  pub defaults : t.defaults ≡ s.defaults
  pub ran : t.ran ≡ s.ran
  pub resources : Begins s.resources t.resources
  pub holdings : Begins s.holdings t.holdings
  pub ties : Begins s.ties t.ties
  pub collectors : Begins s.collectors t.collectors
  pub pending : Begins s.pending t.pending

-- none of them stands before it
abbrev pub AreNewBehind : List Ref → List Ref → Type 0
AreNewBehind before [] = Unit {0}
AreNewBehind before (r ∷ refs) = (stands_in r before ≡ false) × AreNewBehind (before ++ r ∷ []) refs

-- Each reference stands once.
abbrev pub StandOnce : List Ref → Type 0
StandOnce refs = AreNewBehind [] refs

-- Two look-ups in class data agree for every parameter of every class that the items define.
abbrev pub AgreeOnItem : (List ℕ → Option Value) → (List ℕ → Option Value) → Item → Type 0
AgreeOnItem find other (item.Class at name params parent body) =
    AllByRecursion (λ p. find (key_of name p.name) ≡ other (key_of name p.name)) params
AgreeOnItem find other (item.Define at name params body) = Unit {0}
AgreeOnItem find other (item.Node at names body) = Unit {0}
AgreeOnItem find other (item.Defaults at kind attrs) = Unit {0}
AgreeOnItem find other (item.Plain s) = Unit {0}

-- so for all of them
abbrev pub AgreeOn : (List ℕ → Option Value) → (List ℕ → Option Value) → List Item → Type 0
AgreeOn find other items = AllByRecursion (AgreeOnItem find other) items

-- These are the limits, and at most as many resources are declared as they let.
abbrev pub Fits : Limits → State → Type 0
Fits limits s = (s.limits ≡ limits) × (length s.resources ≤ declared_limit limits)

-- The attributes are clean, and no name of them stands twice.
abbrev pub AreSoundAttributes : List Pair → Type 0
AreSoundAttributes attributes = AreClean attributes × HasDistinctKeys attributes

-- The attributes are sound, and a resource of no class and no defined type is of a built-in type.
abbrev pub IsSound : Resource → Type 0
IsSound r = AreSoundAttributes r.attrs × (is_plain_sort r.sort ≡ true → is_built_in r.id.kind ≡ true)

abbrev pub AreSound : List Resource → Type 0
AreSound resources = AllByRecursion IsSound resources

-- a class or a defined resource stands at a place
abbrev pub IsContainerAt : ℕ → List Resource → Type 0
IsContainerAt place resources = (r : Resource) × ((slice_get resources place ≡ Some r) × (is_plain_sort r.sort ≡ false))
