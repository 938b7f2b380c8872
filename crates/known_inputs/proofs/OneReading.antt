-- Files say one thing, or one of them is refused, but not both.
use Rattle.std.proofs.Common.{◌≡◌, ℕ, Bool, true, false, List, Option, Some, None, refl, sym, ap, subst, ◌∙◌}
use Rattle.std.proofs.lemmas.Bool.{both_ways}
use Rattle.std.proofs.lemmas.Option.{same_Some}
use Rattle.rh_base.specs.declared.fault.Refusal.{Refusal}
use Rattle.fs_semantics.specs.FileTree.{Path, Tree}
use Rattle.given_hosts.specs.Given.{Stand}
use Rattle.compiled_text.specs.Compiled.{Compiled}
use Rattle.compiled_text.specs.Form.{IsCompiledText}
use Rattle.assumed_text.specs.declared.assumed.Assumption.{Assumption}
use Rattle.assumed_text.specs.Form.{IsAssumptionsText}
use Rattle.given_links.specs.Reading.{read_as}
use Rattle.given_text.specs.declared.given.Given.{Given}
use Rattle.given_text.specs.Folders.{HasJust}
use Rattle.given_text.specs.Form.{IsGivenText}
use Rattle.pp_value.specs.declared.value.Value.{Value}
use Rattle.pp_eval.specs.Facts.{fact_of, AreFacts}
use Rattle.pp_data.specs.declared.data.Level.{Level}
use Rattle.pp_data.specs.Form.{AreData}
use Rattle.pkg_listing.specs.Packages.{Packages}
use Rattle.pkg_listing.specs.Form.{IsListingText}
use Rattle.tree_text.specs.TreeText.{IsTreeText}
use Rattle.command_line.specs.declared.table.Role.TheVariants as role
use Rattle.known_inputs.specs.declared.inputs.Inputs.{Inputs}
use Rattle.known_inputs.specs.declared.inputs.Known.{Known}
use Rattle.known_inputs.specs.Inputs.{Bytes, bytes_of, AreFactsOf, IsListingOf, AreDataOf, IsTreeOf, IsCompiledOf, AreAssumedOf, IsGivenOf, BeginsIn, LacksGiven, edited_in, wants_edited, AreNamed, IsKnown, FirstUnread}

-- ---- one text

-- bytes say one thing as facts
same_facts : (bytes : List ℕ) (x y : Value) → AreFacts bytes x → AreFacts bytes y → x ≡ y
same_facts bytes x y a b = a.value ∙ ap fact_of (same_Some _ _ (sym a.is_read ∙ b.is_read)) ∙ sym b.value

-- each text says one thing
abbrev pub OneListing : Type 0
OneListing = (bytes : List ℕ) (a b : Packages) → IsListingText bytes a → IsListingText bytes b → a ≡ b

-- a text says the levels of one class data
abbrev pub OneData : Type 0
OneData = (bytes : List ℕ) (a b : List Level) → AreData bytes a → AreData bytes b → a ≡ b

-- a text is that of one tree only
abbrev pub OneTree : Type 0
OneTree = (bytes : List ℕ) (t u : Tree) → IsTreeText bytes t → IsTreeText bytes u → t ≡ u

-- the bytes of a file, if one is named, say one thing as facts
one_facts : (bytes : Bytes) (x y : Value) → AreFactsOf bytes x → AreFactsOf bytes y → x ≡ y
one_facts None x y a b = a ∙ sym b
one_facts (Some bytes) x y a b = same_facts bytes x y a b

-- as a listing they say one
one_listing : OneListing → (bytes : Bytes) (a b : Packages) → IsListingOf bytes a → IsListingOf bytes b → a ≡ b
one_listing one None a b is was = is ∙ sym was
one_listing one (Some bytes) a b is was = one bytes a b is was

-- and as class data
one_data : OneData → (bytes : Bytes) (a b : List Level) → AreDataOf bytes a → AreDataOf bytes b → a ≡ b
one_data one None a b is was = is ∙ sym was
one_data one (Some bytes) a b is was = one bytes a b is was

-- and as a tree
one_tree : OneTree → (bytes : Bytes) (t u : Option Tree) → IsTreeOf bytes t → IsTreeOf bytes u → t ≡ u
one_tree one None None None is was = refl
one_tree one None None (Some u) is was = absurd was
one_tree one None (Some t) u is was = absurd is
one_tree one (Some bytes) None u is was = absurd is
one_tree one (Some bytes) (Some t) None is was = absurd was
one_tree one (Some bytes) (Some t) (Some u) is was = ap (λ v. Some v) (one bytes t u is was)

-- a text gives one thing, and paths have one tree
abbrev pub OneGiven : Type 0
OneGiven = (bytes : List ℕ) (g h : Given) → IsGivenText bytes g → IsGivenText bytes h → g ≡ h

-- paths have one tree of just these
abbrev pub OneJust : Type 0
OneJust = (paths : List Path) (t u : Tree) → HasJust paths t → HasJust paths u → t ≡ u

-- the bytes of a file, if one is named, give one thing
one_given : OneGiven → (bytes : Bytes) (g h : Given) → IsGivenOf bytes g → IsGivenOf bytes h → g ≡ h
one_given one None g h is was =
    let folders : g.folders ≡ h.folders = is.0 ∙ sym was.0 in
    let links : g.links ≡ h.links = is.1 ∙ sym was.1 in
    λ t. record { folders = folders t; links = links t }
one_given one (Some bytes) g h is was = one bytes g h is was

-- a run begins in one tree
one_beginning : OneJust → (told : Option Tree) (folders : List Path) (t u : Tree) → BeginsIn told folders t → BeginsIn told folders u → t ≡ u
one_beginning one None folders t u is was = one folders t u is was
one_beginning one (Some told) folders t u is was = is.0 ∙ sym was.0

-- a text says one list of assumptions only
abbrev pub OneAssumed : Type 0
OneAssumed = (bytes : List ℕ) (rows others : List Assumption) → IsAssumptionsText bytes rows → IsAssumptionsText bytes others → rows ≡ others

-- the bytes of a file, if one is named, say one list of assumptions
one_assumed : OneAssumed → (bytes : Bytes) (rows others : List Assumption) → AreAssumedOf bytes rows → AreAssumedOf bytes others → rows ≡ others
one_assumed one None rows others is was = is ∙ sym was
one_assumed one (Some bytes) rows others is was = one bytes rows others is was

-- a text is that of one compiled catalog only
abbrev pub OneCompiled : Type 0
OneCompiled = (bytes : List ℕ) (c d : Compiled) → IsCompiledText bytes c → IsCompiledText bytes d → c ≡ d

-- the bytes of a file, if one is named, say one compiled catalog
one_compiled : OneCompiled → (bytes : Bytes) (c d : Option Compiled) → IsCompiledOf bytes c → IsCompiledOf bytes d → c ≡ d
one_compiled one None None None is was = refl
one_compiled one None None (Some d) is was = absurd was
one_compiled one None (Some c) d is was = absurd is
one_compiled one (Some bytes) None d is was = absurd is
one_compiled one (Some bytes) (Some c) None is was = absurd was
one_compiled one (Some bytes) (Some c) (Some d) is was = ap (λ v. Some v) (one bytes c d is was)

-- ---- all files

-- the files say one thing together
pub one_known : OneListing → OneData → OneTree → OneAssumed → OneGiven → OneJust → (i : Inputs) (k m : Known) → IsKnown i k → IsKnown i m → k ≡ m
one_known listings data_texts trees assumptions givens justs i k m is was =
    let facts = one_facts (bytes_of role.Facts i) k.facts m.facts is.told.facts was.told.facts in
    let listing = one_listing listings (bytes_of role.Packages i) k.listing m.listing is.told.listing was.told.listing in
    let levels = one_data data_texts (bytes_of role.Data i) k.class_data m.class_data is.told.class_data was.told.class_data in
    let told = one_tree trees (bytes_of role.Tree i) is.tree was.tree is.named.tree was.named.tree in
    let assumed = one_assumed assumptions (bytes_of role.Assume i) k.assumed m.assumed is.named.assumed was.named.assumed in
    let given = one_given givens (bytes_of role.Given i) k.given m.given is.given was.given in
    let begins : BeginsIn was.tree m.given.folders k.tree =
    subst (λ (g : Given). BeginsIn was.tree g.folders k.tree) given (subst (λ o. BeginsIn o k.given.folders k.tree) told is.begins) in
    let tree = one_beginning justs was.tree m.given.folders k.tree m.tree begins was.begins in
    λ t. record { facts = facts t; listing = listing t; class_data = levels t; tree = tree t; assumed = assumed t; given = given t }

-- a tree in which a run begins lacks no folder
begins_well : (told : Option Tree) (folders : List Path) (t : Tree) (r : Refusal) → BeginsIn told folders t → LacksGiven told folders r → ⊥
begins_well None folders t r begins lacking = lacking
begins_well (Some told) folders t r begins lacking = lacking.1 (subst (Stand folders) begins.0 begins.1)

-- what resources edit, as the files say it
same_edits : OneCompiled → OneAssumed → (i : Inputs) (k : Known) (is : IsKnown i k) (t : Option Tree) (c : Option Compiled) (rows : List Assumption) → AreNamed i t c rows → edited_in c rows ≡ edited_in is.compiled k.assumed
same_edits catalogs assumptions i k is t c rows named =
    let same = one_assumed assumptions (bytes_of role.Assume i) rows k.assumed named.assumed is.named.assumed in
    let one = one_compiled catalogs (bytes_of role.Compiled i) c is.compiled named.compiled is.named.compiled in
    ap (λ d. edited_in d rows) one ∙ ap (λ rs. edited_in is.compiled rs) same

-- where they say something none of them is refused
pub none_refused : OneTree → OneCompiled → OneAssumed → OneGiven → (i : Inputs) (k : Known) (r : Refusal) → IsKnown i k → FirstUnread i r → ⊥
none_refused trees catalogs assumptions givens i k r is (FirstUnread.facts none) = none.none k.facts is.told.facts
none_refused trees catalogs assumptions givens i k r is (FirstUnread.listing x facts none) = none.none k.listing is.told.listing
none_refused trees catalogs assumptions givens i k r is (FirstUnread.class_data x packages facts listed none) = none.none k.class_data is.told.class_data
none_refused trees catalogs assumptions givens i k r is (FirstUnread.tree x packages levels told none) = none.none is.tree is.named.tree
none_refused trees catalogs assumptions givens i k r is (FirstUnread.compiled x packages levels t told is_tree none) = none.none is.compiled is.named.compiled
none_refused trees catalogs assumptions givens i k r is (FirstUnread.assumed x packages levels t c told is_tree is_compiled none) = none.none k.assumed is.named.assumed
none_refused trees catalogs assumptions givens i k r is (FirstUnread.edited x packages levels t c rows told named wants) =
    let same = same_edits catalogs assumptions i k is t c rows named in
    both_ways (wants_edited (λ p. p) i.wanted (edited_in is.compiled k.assumed)) is.apart (subst (λ edited. wants_edited (λ p. p) i.wanted edited ≡ true) same wants.wants)
none_refused trees catalogs assumptions givens i k r is (FirstUnread.given x packages levels t c rows told named none) = none.none k.given is.given
none_refused trees catalogs assumptions givens i k r is (FirstUnread.edited_as_read x packages levels t c rows g told named is_given wants) =
    let same = same_edits catalogs assumptions i k is t c rows named in
    let said = one_given givens (bytes_of role.Given i) g k.given is_given is.given in
    let wants_here = subst (λ (h : Given). wants_edited (read_as h.links) i.wanted (edited_in c rows) ≡ true) said wants.wants in
    both_ways (wants_edited (read_as k.given.links) i.wanted (edited_in is.compiled k.assumed)) is.apart_as_read
    (subst (λ edited. wants_edited (read_as k.given.links) i.wanted edited ≡ true) same wants_here)
none_refused trees catalogs assumptions givens i k r is (FirstUnread.lacks x packages levels t c rows g told named is_given lacking) =
    let same = one_tree trees (bytes_of role.Tree i) t is.tree named.tree is.named.tree in
    let said = one_given givens (bytes_of role.Given i) g k.given is_given is.given in
    begins_well is.tree k.given.folders k.tree r is.begins
    (subst (λ (h : Given). LacksGiven is.tree h.folders r) said (subst (λ o. LacksGiven o g.folders r) same lacking))
