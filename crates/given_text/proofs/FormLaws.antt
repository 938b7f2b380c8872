-- What is read of a text is what its form says, both ways.
use Rattle.std.proofs.Common.{◌≡◌, ℕ, ◌==◌, cond, List, [], ◌∷◌, Option, Some, None, option_map, codes, refl, sym, ap, subst, ◌∙◌, eqb-true}
use Rattle.std.specs.List.{AllByRecursion}
use Rattle.serde_json.specs.Data.{Data, string, array, object, Items, Members, no_members, member}
use Rattle.serde_json.specs.Find.{get_member, as_object, as_array}
use Rattle.serde_json.specs.Events.{members_len}
use Rattle.rh_base.specs.Reading.{◌>>=◌}
use Rattle.fs_semantics.specs.FileTree.{Path}
use Rattle.pkg_listing.specs.Reading.{managed_path, path_of, folders_of}
use Rattle.pkg_listing.proofs.FormLaws.{path_is, path_back, folders_are, folders_back}
use Rattle.given_links.specs.declared.links.GivenLink.{GivenLink}
use Rattle.given_text.specs.declared.given.Given.{Given}
use Rattle.given_text.specs.Form.{IsLinkOf, AreLinksOf, LinksAre, IsStated}
use Rattle.given_text.specs.Reading.{link_with, link_of, links_of, links_in, given_with, folders_in, stated_with, stated_of, IsProperLink, IsProper}
use Rattle.rh_base.proofs.Options.{bind_some, map_some, if_some, bind_goes}
use Rattle.std.proofs.lemmas.Option.{none-some, same_Some}
use Rattle.json_parts.proofs.DataLaws.{object_is, array_is}
use Rattle.json_parts.specs.Versions.{has_version}
use Rattle.json_parts.proofs.DataLaws.{version_is}

-- ---- links

-- a link that is read of a member is the member's link
link_is : (key : List ℕ) (d : Data) (l : GivenLink) → link_of key d ≡ Some l → IsProperLink l → IsLinkOf l key d
link_is key d l h s =
    let path = bind_some (managed_path key) (λ p. option_map (link_with p) (path_of d)) l h in
    let target = map_some (link_with path.0) (path_of d) l path.2 in
    let from : path.0 ≡ l.path = ap (λ (m : GivenLink). m.path) target.2 in
    let to : target.0 ≡ l.target = ap (λ (m : GivenLink). m.target) target.2 in (
      path_is (string key) l.path (path.1 ∙ ap (λ p. Some p) from) s.0,
      path_is d l.target (target.1 ∙ ap (λ p. Some p) to) s.1,
    )

-- and a member's link is read of it
link_back : (key : List ℕ) (d : Data) (l : GivenLink) → IsLinkOf l key d → link_of key d ≡ Some l
link_back key d l h =
    bind_goes (managed_path key) (λ p. option_map (link_with p) (path_of d)) l.path (path_back (string key) l.path h.0)
    ∙ ap (option_map (link_with l.path)) (path_back d l.target h.1)

-- links that are read of members are those of the members
links_are : (members : Members) (links : List GivenLink) → links_of members ≡ Some links → AllByRecursion IsProperLink links → AreLinksOf links members
links_are no_members links h s = subst (λ ls. AreLinksOf ls no_members) (same_Some [] links h) tt
links_are (member key d members) links h s =
    let first = bind_some (link_of key d) (λ l. option_map (λ ls. l ∷ ls) (links_of members)) links h in
    let rest = map_some (λ ls. first.0 ∷ ls) (links_of members) links first.2 in
    let both = subst (AllByRecursion IsProperLink) (sym rest.2) s in
    subst (λ ls. AreLinksOf ls (member key d members)) rest.2 (link_is key d first.0 first.1 both.0, links_are members rest.0 rest.1 both.1)

-- and the links of members are read of them
links_back : (members : Members) (links : List GivenLink) → AreLinksOf links members → links_of members ≡ Some links
links_back no_members [] h = refl
links_back no_members (l ∷ links) h = absurd h
links_back (member key d _) [] h = absurd h
links_back (member key d members) (l ∷ links) h =
    bind_goes (link_of key d) (λ m. option_map (λ ls. m ∷ ls) (links_of members)) l (link_back key d l h.0)
    ∙ ap (option_map (λ ls. l ∷ ls)) (links_back members links h.1)

-- the links that are read, where they may be missing, are those that stand there
many_is : (o : Option Data) (keys : ℕ) (links : List GivenLink) → links_in o keys ≡ Some links → AllByRecursion IsProperLink links → LinksAre links o keys
many_is None keys links h s =
    let two = if_some (keys == 2) (Some []) links h in (sym (same_Some [] links two.1), eqb-true keys 2 two.0)
many_is (Some d) keys links h s =
    let three = if_some (keys == 3) (as_object d >>= links_of) links h in
    let members = bind_some (as_object d) links_of links three.1 in
    (members.0, object_is d members.0 members.1, links_are members.0 links members.2 s, eqb-true keys 3 three.0)

-- and those that stand there are read
many_back : (o : Option Data) (keys : ℕ) (links : List GivenLink) → LinksAre links o keys → links_in o keys ≡ Some links
many_back None keys links h = ap (λ k. cond (k == 2) (Some []) None) h.1 ∙ ap (λ ls. Some ls) (sym h.0)
many_back (Some d) keys links h =
    ap (λ k. cond (k == 3) (as_object d >>= links_of) None) h.3 ∙ ap (λ e. as_object e >>= links_of) h.1 ∙ links_back h.0 links h.2

-- ---- folders and links

-- folders that are read are read of a list
some_folders : (o : Option Data) (folders : List Path) → folders_in o ≡ Some folders → (items : Items) × (o ≡ Some (array items)) × (folders_of items ≡ Some folders)
some_folders None folders h = absurd (none-some folders h)
some_folders (Some d) folders h =
    let items = bind_some (as_array d) folders_of folders h in (items.0, ap (λ e. Some e) (array_is d items.0 items.1), items.2)

-- what is read of an object as folders and links is what the object states
with_is : (members : Members) (g : Given) → stated_with (object members) (members_len members) ≡ Some g → IsProper g → IsStated g (object members)
with_is members g h s =
    let version = if_some (has_version (get_member (codes "version") members))
    (folders_in (get_member (codes "folders") members) >>= (λ folders. option_map (given_with folders) (links_in (get_member (codes "links") members) (members_len members)))) g h in
    let folders = bind_some (folders_in (get_member (codes "folders") members)) (λ folders. option_map (given_with folders) (links_in (get_member (codes "links") members) (members_len members))) g version.1 in
    let links = map_some (given_with folders.0) (links_in (get_member (codes "links") members) (members_len members)) g folders.2 in
    let first : folders.0 ≡ g.folders = ap (λ (k : Given). k.folders) links.2 in
    let second : links.0 ≡ g.links = ap (λ (k : Given). k.links) links.2 in
    let listed = some_folders (get_member (codes "folders") members) folders.0 folders.1 in
    record {
      members = members;
      is_object = refl;
      has_version = version_is (get_member (codes "version") members) version.0;
      folders = listed.0;
      has_folders = listed.1;
      are_folders = folders_are listed.0 g.folders (listed.2 ∙ ap (λ ps. Some ps) first) s.0;
      are_links = many_is (get_member (codes "links") members) (members_len members) g.links (links.1 ∙ ap (λ ls. Some ls) second) s.1;
    }

-- what is read of JSON as folders and links is what it states
pub stated_is : (d : Data) (g : Given) → stated_of d ≡ Some g → IsProper g → IsStated g d
stated_is d g h s =
    let members = bind_some (as_object d) (λ members. stated_with d (members_len members)) g h in
    let is = object_is d members.0 members.1 in
    subst (IsStated g) (sym is) (with_is members.0 g (ap (λ e. stated_with e (members_len members.0)) (sym is) ∙ members.2) s)

-- and what JSON states is read of it
pub stated_back : (d : Data) (g : Given) → IsStated g d → stated_of d ≡ Some g
stated_back d g h =
    let links = get_member (codes "links") h.members in
    let keys = members_len h.members in
    ap stated_of h.is_object
    ∙ (ap (λ o. cond (has_version o) (folders_in (get_member (codes "folders") h.members) >>= (λ folders. option_map (given_with folders) (links_in links keys))) None) h.has_version
    ∙ (ap (λ o. folders_in o >>= (λ folders. option_map (given_with folders) (links_in links keys))) h.has_folders
    ∙ (bind_goes (folders_of h.folders) (λ folders. option_map (given_with folders) (links_in links keys)) g.folders (folders_back h.folders g.folders h.are_folders)
    ∙ ap (option_map (given_with g.folders)) (many_back links keys g.links h.are_links))))
