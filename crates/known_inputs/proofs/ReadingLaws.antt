-- A file is refused where those before it say something.
use Rattle.std.proofs.Common.{◌≡◌, List, [], Option, false, subst}
use Rattle.command_line.specs.declared.table.Role.TheVariants as role
use Rattle.rh_base.specs.declared.fault.Fault.{Fault}
use Rattle.rh_base.specs.declared.fault.Fault.TheVariants.{Refused, Memory}
use Rattle.rh_base.specs.Refused.{IfRefused}
use Rattle.fs_semantics.specs.FileTree.{Path, Tree}
use Rattle.compiled_text.specs.Compiled.{Compiled}
use Rattle.assumed_text.specs.declared.assumed.Assumption.{Assumption}
use Rattle.wanted_entry.specs.declared.wanted.Wanted.{Wanted}
use Rattle.given_links.specs.Reading.{read_as}
use Rattle.given_text.specs.declared.given.Given.{Given}
use Rattle.pp_value.specs.declared.value.Value.{Value}
use Rattle.pp_data.specs.declared.data.Level.{Level}
use Rattle.pkg_listing.specs.Packages.{Packages}
use Rattle.known_inputs.specs.declared.inputs.Inputs.{Inputs}
use Rattle.known_inputs.specs.Inputs.{bytes_of, AreFactsOf, IsListingOf, IsTreeOf, IsCompiledOf, IsGivenOf, edited_in, wants_edited, HasNoListing, HasNoData, HasNoTree, HasNoCompiled, HasNoAssumptions, HasNoGiven, WantsEdited, LacksGiven, AreTold, AreNamed, FirstUnread, listing, class_data, tree, compiled, assumed, edited, given, edited_as_read, lacks}

-- behind facts that are read, bytes that are no listing are the first that say nothing
pub listing_refused : (i : Inputs) (x : Value) (e : Fault) → AreFactsOf (bytes_of role.Facts i) x → IfRefused e (HasNoListing (bytes_of role.Packages i)) → IfRefused e (FirstUnread i)
listing_refused i x (Refused r) facts none = listing x facts none
listing_refused i x (Memory m) facts none = tt

-- behind the listing, bytes that are no class data are
pub data_refused : (i : Inputs) (x : Value) (packages : Packages) (e : Fault) → AreFactsOf (bytes_of role.Facts i) x → IsListingOf (bytes_of role.Packages i) packages
    → IfRefused e (HasNoData (bytes_of role.Data i)) → IfRefused e (FirstUnread i)
data_refused i x packages (Refused r) facts listed none = class_data x packages facts listed none
data_refused i x packages (Memory m) facts listed none = tt

-- behind the class data, bytes that are no tree are
pub tree_refused : (i : Inputs) (x : Value) (packages : Packages) (levels : List Level) (e : Fault) → AreTold i x packages levels
    → IfRefused e (HasNoTree (bytes_of role.Tree i)) → IfRefused e (FirstUnread i)
tree_refused i x packages levels (Refused r) told none = tree x packages levels told none
tree_refused i x packages levels (Memory m) told none = tt

-- behind the tree, bytes that are no compiled catalog are
pub compiled_refused : (i : Inputs) (x : Value) (packages : Packages) (levels : List Level) (t : Option Tree) (e : Fault) → AreTold i x packages levels
    → IsTreeOf (bytes_of role.Tree i) t → IfRefused e (HasNoCompiled (bytes_of role.Compiled i)) → IfRefused e (FirstUnread i)
compiled_refused i x packages levels t (Refused r) told is_tree none = compiled x packages levels t told is_tree none
compiled_refused i x packages levels t (Memory m) told is_tree none = tt

-- behind the compiled catalog, bytes that are no assumptions are
pub assumed_refused : (i : Inputs) (x : Value) (packages : Packages) (levels : List Level) (t : Option Tree) (c : Option Compiled) (e : Fault) → AreTold i x packages levels
    → IsTreeOf (bytes_of role.Tree i) t → IsCompiledOf (bytes_of role.Compiled i) c → IfRefused e (HasNoAssumptions (bytes_of role.Assume i)) → IfRefused e (FirstUnread i)
assumed_refused i x packages levels t c (Refused r) told is_tree is_compiled none = assumed x packages levels t c told is_tree is_compiled none
assumed_refused i x packages levels t c (Memory m) told is_tree is_compiled none = tt

-- through no links a path is read as itself
abbrev pub NothingIsRead : Type 0
NothingIsRead = (p : Path) → read_as [] p ≡ p

-- through no links all paths are read as themselves
same_reading : NothingIsRead → read_as [] ≡ (λ p. p)
same_reading none = λ t p. none p t

-- what isn't edited as it is read through no links isn't edited as it stands
pub nothing_is_read : NothingIsRead → (wanted : Option Wanted) (paths : List Path) → wants_edited (read_as []) wanted paths ≡ false → wants_edited (λ p. p) wanted paths ≡ false
nothing_is_read none wanted paths h = subst (λ read. wants_edited read wanted paths ≡ false) (same_reading none) h

-- behind the assumptions, a wanted content that a resource edits is refused
pub edits_refused : NothingIsRead → (i : Inputs) (x : Value) (packages : Packages) (levels : List Level) (t : Option Tree) (c : Option Compiled) (rows : List Assumption) (e : Fault)
    → AreTold i x packages levels → AreNamed i t c rows → IfRefused e (WantsEdited (read_as []) i.wanted (edited_in c rows)) → IfRefused e (FirstUnread i)
edits_refused none i x packages levels t c rows (Refused r) told named wants =
    edited x packages levels t c rows told named (subst (λ read. WantsEdited read i.wanted (edited_in c rows) r) (same_reading none) wants)
edits_refused none i x packages levels t c rows (Memory m) told named wants = tt

-- behind that, bytes that give no folders and links are the first that say nothing
pub given_refused : (i : Inputs) (x : Value) (packages : Packages) (levels : List Level) (t : Option Tree) (c : Option Compiled) (rows : List Assumption) (e : Fault)
    → AreTold i x packages levels → AreNamed i t c rows → IfRefused e (HasNoGiven (bytes_of role.Given i)) → IfRefused e (FirstUnread i)
given_refused i x packages levels t c rows (Refused r) told named none = given x packages levels t c rows told named none
given_refused i x packages levels t c rows (Memory m) told named none = tt

-- behind these, a wanted content that a resource edits, as paths are read, is refused
pub edits_as_read_refused : (i : Inputs) (x : Value) (packages : Packages) (levels : List Level) (t : Option Tree) (c : Option Compiled) (rows : List Assumption) (g : Given) (e : Fault)
    → AreTold i x packages levels → AreNamed i t c rows → IsGivenOf (bytes_of role.Given i) g → IfRefused e (WantsEdited (read_as g.links) i.wanted (edited_in c rows)) → IfRefused e (FirstUnread i)
edits_as_read_refused i x packages levels t c rows g (Refused r) told named is_given wants = edited_as_read x packages levels t c rows g told named is_given wants
edits_as_read_refused i x packages levels t c rows g (Memory m) told named is_given wants = tt

-- and last, a tree in which a given folder isn't one
pub lack_refused : (i : Inputs) (x : Value) (packages : Packages) (levels : List Level) (t : Option Tree) (c : Option Compiled) (rows : List Assumption) (g : Given) (e : Fault)
    → AreTold i x packages levels → AreNamed i t c rows → IsGivenOf (bytes_of role.Given i) g → IfRefused e (LacksGiven t g.folders) → IfRefused e (FirstUnread i)
lack_refused i x packages levels t c rows g (Refused r) told named is_given lacking = lacks x packages levels t c rows g told named is_given lacking
lack_refused i x packages levels t c rows g (Memory m) told named is_given lacking = tt
