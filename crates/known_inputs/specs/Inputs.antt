-- What the files of a request say, but for a manifest, and which of them is refused first.
use Rattle.std.specs.Prelude.{◌≡◌, List, [], ◌∷◌, ◌++◌, ℕ, ◌+◌, Bool, true, false, map, Option, Some, None, is_some, if◌then◌else◌, codes}
use Rattle.std.specs.List.{list_any}
use Rattle.command_line.specs.declared.table.Role.{Role}
use Rattle.command_line.specs.declared.table.Role.TheVariants as role
use Rattle.command_line.specs.Table.{load_of as named}
use Rattle.rh_base.specs.declared.fault.Refusal.{Refusal}
use Rattle.rh_base.specs.Refused.{IsRefusal}
use Rattle.fs_semantics.specs.FileTree.{Path, Tree, is_among}
use Rattle.given_hosts.specs.Given.{Stand}
use Rattle.pp_value.specs.declared.value.Value.{Value}
use Rattle.pp_value.specs.declared.value.Value.TheVariants as v
use Rattle.pp_eval.specs.Facts.{AreFacts}
use Rattle.pp_data.specs.declared.data.Level.{Level}
use Rattle.pp_data.specs.Form.{AreData}
use Rattle.pkg_listing.specs.Packages.{Packages}
use Rattle.pkg_listing.specs.Form.{IsListingText}
use Rattle.tree_text.specs.TreeText.{IsTreeText}
use Rattle.compiled_text.specs.declared.catalog.CompiledResource.{CompiledResource}
use Rattle.compiled_text.specs.Compiled.{Compiled}
use Rattle.compiled_models.specs.Assumed.{assumed_at}
use Rattle.compiled_text.specs.Form.{IsCompiledText}
use Rattle.assumed_text.specs.declared.assumed.Assumed.{Assumed}
use Rattle.assumed_text.specs.declared.assumed.Assumed.TheVariants.{Nothing, Refused, Does}
use Rattle.assumed_text.specs.declared.assumed.Assumption.{Assumption}
use Rattle.assumed_text.specs.Form.{IsAssumptionsText}
use Rattle.given_links.specs.Reading.{read_as}
use Rattle.given_text.specs.declared.given.Given.{Given}
use Rattle.given_text.specs.Folders.{HasJust}
use Rattle.given_text.specs.Form.{IsGivenText}
use Rattle.wanted_entry.specs.declared.wanted.Wanted.{Wanted}
use Rattle.known_inputs.specs.declared.inputs.Inputs.{Inputs}
use Rattle.known_inputs.specs.declared.inputs.Known.{Known}

-- the bytes of a file, if one is named
abbrev pub Bytes : Type 0
Bytes = Option (List ℕ)

-- the bytes of the file of a role
abbrev pub bytes_of : Role → Inputs → Bytes
bytes_of r i = named r i.files

-- the bytes, or none of them
abbrev pub bytes_or_none : Bytes → List ℕ
bytes_or_none None = []
bytes_or_none (Some bytes) = bytes

-- the bytes of the input; none where it isn't named
abbrev pub input_of : Inputs → List ℕ
input_of i = bytes_or_none (bytes_of role.Input i)

-- the entry, or any entry at the root
abbrev pub wanted_or_root : Option Wanted → Wanted
wanted_or_root None = record { path = []; content = None }
wanted_or_root (Some w) = w

-- the entry that is wanted
abbrev pub wanted_of : Inputs → Wanted
wanted_of i = wanted_or_root i.wanted

-- ---- what the bytes say; without any, there is nothing

-- these are the facts
abbrev pub AreFactsOf : Bytes → Value → Type 0
AreFactsOf None x = x ≡ v.Map []
AreFactsOf (Some bytes) x = AreFacts bytes x

-- these are the packages that are listed
abbrev pub IsListingOf : Bytes → Packages → Type 0
IsListingOf None packages = packages ≡ []
IsListingOf (Some bytes) packages = IsListingText bytes packages

-- these are the levels of the class data
abbrev pub AreDataOf : Bytes → List Level → Type 0
AreDataOf None levels = levels ≡ []
AreDataOf (Some bytes) levels = AreData bytes levels

-- this is the file tree that is told; without bytes none is
abbrev pub IsTreeOf : Bytes → Option Tree → Type 0
IsTreeOf None None = Unit {0}
IsTreeOf None (Some t) = ⊥
IsTreeOf (Some bytes) None = ⊥
IsTreeOf (Some bytes) (Some t) = IsTreeText bytes t

-- this is the compiled catalog that is told; without bytes none is
abbrev pub IsCompiledOf : Bytes → Option Compiled → Type 0
IsCompiledOf None None = Unit {0}
IsCompiledOf None (Some c) = ⊥
IsCompiledOf (Some bytes) None = ⊥
IsCompiledOf (Some bytes) (Some c) = IsCompiledText bytes c

-- this is what is assumed of resources
abbrev pub AreAssumedOf : Bytes → List Assumption → Type 0
AreAssumedOf None rows = rows ≡ []
AreAssumedOf (Some bytes) rows = IsAssumptionsText bytes rows

-- these are the folders and links that every host has
abbrev pub IsGivenOf : Bytes → Given → Type 0
IsGivenOf None g = (g.folders ≡ []) × (g.links ≡ [])
IsGivenOf (Some bytes) g = IsGivenText bytes g

-- The file tree in which a run begins: the one that is told, in which the given folders stand; and where none is told, that of the
-- given folders alone.
abbrev pub BeginsIn : Option Tree → List Path → Tree → Type 0
BeginsIn None folders t = HasJust folders t
BeginsIn (Some told) folders t = (t ≡ told) × Stand folders t

-- ---- a wanted content that a resource edits

-- the paths that a resource edits, as something is assumed of it
abbrev pub edits_in : Option Assumed → List Path
edits_in None = []
edits_in (Some Nothing) = []
edits_in (Some Refused) = []
edits_in (Some (Does b)) = b.edits

-- the paths that a resource at a place edits; a container does nothing itself
abbrev pub edits_at : List CompiledResource → List Assumption → ℕ → CompiledResource → List Path
edits_at all rows place r = if r.is_container then [] else edits_in (assumed_at all rows place r)

-- the paths that these edit, of which the first stands at this place
abbrev pub edits_from : List CompiledResource → List Assumption → ℕ → List CompiledResource → List Path
edits_from all rows place [] = []
edits_from all rows place (r ∷ resources) = edits_at all rows place r ++ edits_from all rows (place + 1) resources

-- The paths that the resources of a compiled catalog edit. An assumption of which none of them is the subject edits nothing.
abbrev pub edited_in : Option Compiled → List Assumption → List Path
edited_in None rows = []
edited_in (Some c) rows = edits_from c.resources rows 0 c.resources

-- the path of an entry of which a content is wanted
abbrev pub held_path : Option Wanted → List Path
held_path None = []
held_path (Some w) = if is_some w.content then w.path ∷ [] else []

-- A content is wanted at one of the paths that resources edit, where each path is read so: nobody knows then what is in the file.
abbrev pub wants_edited : (Path → Path) → Option Wanted → List Path → Bool
wants_edited read wanted edited = list_any (λ p. is_among (read p) (map read edited)) (held_path wanted)

-- ---- bytes that say nothing, and their refusals

-- the bytes are no facts
pub record HasNoFacts (bytes : Bytes) (r : Refusal) : Type 0 where
  pub refusal : IsRefusal 60 0 (codes "facts") r
  pub none : (x : Value) → AreFactsOf bytes x → ⊥

-- the bytes are no listing
pub record HasNoListing (bytes : Bytes) (r : Refusal) : Type 0 where
  pub refusal : IsRefusal 61 0 (codes "packages") r
  pub none : (packages : Packages) → IsListingOf bytes packages → ⊥

-- the bytes are no class data
pub record HasNoData (bytes : Bytes) (r : Refusal) : Type 0 where
  pub refusal : IsRefusal 64 0 (codes "data") r
  pub none : (levels : List Level) → AreDataOf bytes levels → ⊥

-- the bytes are no file tree
pub record HasNoTree (bytes : Bytes) (r : Refusal) : Type 0 where
  pub refusal : IsRefusal 62 0 (codes "tree") r
  pub none : (t : Option Tree) → IsTreeOf bytes t → ⊥

-- the bytes are no compiled catalog
pub record HasNoCompiled (bytes : Bytes) (r : Refusal) : Type 0 where
  pub refusal : IsRefusal 65 0 (codes "compiled") r
  pub none : (c : Option Compiled) → IsCompiledOf bytes c → ⊥

-- the bytes are no assumptions
pub record HasNoAssumptions (bytes : Bytes) (r : Refusal) : Type 0 where
  pub refusal : IsRefusal 66 0 (codes "assume") r
  pub none : (rows : List Assumption) → AreAssumedOf bytes rows → ⊥

-- what is wanted is one of the paths that are edited, where each path is read so
pub record WantsEdited (read : Path → Path) (wanted : Option Wanted) (edited : List Path) (r : Refusal) : Type 0 where
  pub refusal : IsRefusal 66 0 (codes "assume") r
  pub wants : wants_edited read wanted edited ≡ true

-- the bytes give no folders and links
pub record HasNoGiven (bytes : Bytes) (r : Refusal) : Type 0 where
  pub refusal : IsRefusal 67 0 (codes "given") r
  pub none : (g : Given) → IsGivenOf bytes g → ⊥

-- in the tree that is told a given folder isn't a folder
abbrev pub LacksGiven : Option Tree → List Path → Refusal → Type 0
LacksGiven None folders r = ⊥
LacksGiven (Some told) folders r = IsRefusal 62 0 (codes "tree") r × (Stand folders told → ⊥)

-- ---- all files but the manifest

-- these are the facts, the packages and the class data
pub record AreTold (i : Inputs) (x : Value) (packages : Packages) (levels : List Level) : Type 0 where
  pub facts : AreFactsOf (bytes_of role.Facts i) x
  pub listing : IsListingOf (bytes_of role.Packages i) packages
  pub class_data : AreDataOf (bytes_of role.Data i) levels

-- these are the file tree and the compiled catalog, if they are told, and what is assumed
pub record AreNamed (i : Inputs) (t : Option Tree) (c : Option Compiled) (rows : List Assumption) : Type 0 where
  pub tree : IsTreeOf (bytes_of role.Tree i) t
  pub compiled : IsCompiledOf (bytes_of role.Compiled i) c
  pub assumed : AreAssumedOf (bytes_of role.Assume i) rows

-- The files say this: those beside a manifest, or a compiled catalog and those beside it.
pub record IsKnown (i : Inputs) (k : Known) : Type 0 where
  pub told : AreTold i k.facts k.listing k.class_data
  pub tree : Option Tree
  pub compiled : Option Compiled
  pub named : AreNamed i tree compiled k.assumed
  pub apart : wants_edited (λ p. p) i.wanted (edited_in compiled k.assumed) ≡ false
  pub given : IsGivenOf (bytes_of role.Given i) k.given
  pub apart_as_read : wants_edited (read_as k.given.links) i.wanted (edited_in compiled k.assumed) ≡ false
  pub begins : BeginsIn tree k.given.folders k.tree

-- The refusal of the first that says nothing: facts, the listing, class data, the tree, a compiled catalog, what is assumed, and then
-- what every host has. Behind what is assumed, and again behind what every host has, it is refused that a resource edits what is
-- wanted, as it is assumed; and then a tree in which a given folder isn't one.
pub data FirstUnread (i : Inputs) (r : Refusal) : Type 0 where
  facts : HasNoFacts (bytes_of role.Facts i) r → FirstUnread i r
  listing : (x : Value) → AreFactsOf (bytes_of role.Facts i) x → HasNoListing (bytes_of role.Packages i) r → FirstUnread i r
  class_data : (x : Value) (packages : Packages) → AreFactsOf (bytes_of role.Facts i) x
      → IsListingOf (bytes_of role.Packages i) packages → HasNoData (bytes_of role.Data i) r → FirstUnread i r
  tree : (x : Value) (packages : Packages) (levels : List Level) → AreTold i x packages levels
      → HasNoTree (bytes_of role.Tree i) r → FirstUnread i r
  compiled : (x : Value) (packages : Packages) (levels : List Level) (t : Option Tree) → AreTold i x packages levels
      → IsTreeOf (bytes_of role.Tree i) t
      → HasNoCompiled (bytes_of role.Compiled i) r → FirstUnread i r
  assumed : (x : Value) (packages : Packages) (levels : List Level) (t : Option Tree) (c : Option Compiled)
      → AreTold i x packages levels → IsTreeOf (bytes_of role.Tree i) t
      → IsCompiledOf (bytes_of role.Compiled i) c → HasNoAssumptions (bytes_of role.Assume i) r → FirstUnread i r
  edited : (x : Value) (packages : Packages) (levels : List Level) (t : Option Tree) (c : Option Compiled)
      (rows : List Assumption) → AreTold i x packages levels
      → AreNamed i t c rows → WantsEdited (λ p. p) i.wanted (edited_in c rows) r → FirstUnread i r
  given : (x : Value) (packages : Packages) (levels : List Level) (t : Option Tree) (c : Option Compiled)
      (rows : List Assumption) → AreTold i x packages levels
      → AreNamed i t c rows → HasNoGiven (bytes_of role.Given i) r → FirstUnread i r
  edited_as_read : (x : Value) (packages : Packages) (levels : List Level) (t : Option Tree) (c : Option Compiled)
      (rows : List Assumption) (g : Given)
      → AreTold i x packages levels → AreNamed i t c rows → IsGivenOf (bytes_of role.Given i) g
      → WantsEdited (read_as g.links) i.wanted (edited_in c rows) r → FirstUnread i r
  lacks : (x : Value) (packages : Packages) (levels : List Level) (t : Option Tree) (c : Option Compiled)
      (rows : List Assumption) (g : Given)
      → AreTold i x packages levels → AreNamed i t c rows → IsGivenOf (bytes_of role.Given i) g → LacksGiven t g.folders r → FirstUnread i r
