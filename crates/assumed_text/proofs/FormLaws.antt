-- What is read of a text is what its form says, both ways.
use Rattle.std.proofs.Common.{◌≡◌, ◌⊎◌, inl, inr, ℕ, ◌==◌, Bool, true, false, true≢false, cond, ◌||◌, ◌&&◌, List, [], ◌∷◌, Option, Some, None, option_map, bytes_eq, codes, refl, sym, ap, ap₂, subst, ◌∙◌, eqb-true}
use Rattle.std.specs.List.{AllByRecursion}
use Rattle.std.proofs.lemmas.Slice.Eq.{bytes_eq-Decides}
use Rattle.serde_json.specs.Data.{Data, null, boolean, number, string, array, object, Members, no_members, member}
use Rattle.serde_json.specs.Find.{get_member, as_object, as_array}
use Rattle.serde_json.specs.Events.{members_len}
use Rattle.rh_base.specs.Reading.{◌>>=◌}
use Rattle.fs_semantics.specs.FileTree.{Path, IsSegment}
use Rattle.pkg_listing.specs.Reading.{path_of, folders_of}
use Rattle.pkg_listing.proofs.FormLaws.{path_is, path_back, folders_are, folders_back}
use Rattle.assumed_text.specs.declared.assumed.Behavior.{Behavior}
use Rattle.assumed_text.specs.declared.assumed.Assumed.{Assumed}
use Rattle.assumed_text.specs.declared.assumed.Assumed.TheVariants.{Nothing, Refused, Does}
use Rattle.assumed_text.specs.declared.assumed.Assumption.{Assumption}
use Rattle.assumed_text.specs.Form.{ArePathsAt, IsPathAt, IsAction, HasOnlyParts, HasAction, IsBehavior, IsAssumed, IsAssumption, AreAssumptions, SaysAssumptions}
use Rattle.assumed_text.specs.Reading.{subject_of, is_action, has_only_parts, has_action, paths_in, path_in, behavior_with, behavior_of, if_fit, behaves, word_of, assumed_of, assumption_with, assumption_of, rows_of, rows_in, rows_with, all_rows, IfProper, IsProperBehavior, IsProper, IsProperAssumption}
use Rattle.assumed_text.proofs.SubjectLaws.{ReferencesWhere, subject_where}
use Rattle.assumed_text.proofs.PathLaws.{OnceWhere, fit_is, fit_back}
use Rattle.std.proofs.lemmas.Bool.{and_parts}
use Rattle.rh_base.proofs.Options.{bind_some, map_some, if_some, bind_goes}
use Rattle.std.proofs.lemmas.Option.{none-some, same_Some}
use Rattle.json_parts.proofs.DataLaws.{object_is, array_is}
use Rattle.json_parts.specs.Versions.{has_version}
use Rattle.json_parts.proofs.DataLaws.{version_is}

-- ---- keys

-- a key that is told to be the word is that word
same : (key word : List ℕ) → bytes_eq key word ≡ true → key ≡ word
same key word h = (bytes_eq-Decides key word).0 h

-- and one that is it is told to be
equal : (key word : List ℕ) → key ≡ word → bytes_eq key word ≡ true
equal key word h = (bytes_eq-Decides key word).1 h

-- the one or the other, by what each test says
one_of : (a b : Bool) (P Q : Type 0) → (a ≡ true → P) → (b ≡ true → Q) → (a || b) ≡ true → P ⊎ Q
one_of true b P Q f g h = inl (f refl)
one_of false b P Q f g h = inr (g h)

-- where each test tells what it is about, one of the two is told where one holds
is_one_of : (a b : Bool) (P Q : Type 0) → (P → a ≡ true) → (Q → b ≡ true) → P ⊎ Q → (a || b) ≡ true
is_one_of a b P Q f g (inl p) = ap (λ t. t || b) (f p)
is_one_of true b P Q f g (inr q) = refl
is_one_of false b P Q f g (inr q) = g q

-- a key that is told to be one of actions is one
action_is : (key : List ℕ) → is_action key ≡ true → IsAction key
action_is key =
    one_of (bytes_eq key (codes "needs")) (bytes_eq key (codes "folders") || (bytes_eq key (codes "makes") || (bytes_eq key (codes "edits") || bytes_eq key (codes "removes")))) (key ≡ codes "needs") _ (same key (codes "needs"))
    (one_of (bytes_eq key (codes "folders")) (bytes_eq key (codes "makes") || (bytes_eq key (codes "edits") || bytes_eq key (codes "removes"))) (key ≡ codes "folders") _ (same key (codes "folders"))
    (one_of (bytes_eq key (codes "makes")) (bytes_eq key (codes "edits") || bytes_eq key (codes "removes")) (key ≡ codes "makes") _ (same key (codes "makes"))
    (one_of (bytes_eq key (codes "edits")) (bytes_eq key (codes "removes")) (key ≡ codes "edits") (key ≡ codes "removes") (same key (codes "edits")) (same key (codes "removes")))))

-- and one that is so is told to be
action_back : (key : List ℕ) → IsAction key → is_action key ≡ true
action_back key =
    is_one_of (bytes_eq key (codes "needs")) (bytes_eq key (codes "folders") || (bytes_eq key (codes "makes") || (bytes_eq key (codes "edits") || bytes_eq key (codes "removes")))) (key ≡ codes "needs") _ (equal key (codes "needs"))
    (is_one_of (bytes_eq key (codes "folders")) (bytes_eq key (codes "makes") || (bytes_eq key (codes "edits") || bytes_eq key (codes "removes"))) (key ≡ codes "folders") _ (equal key (codes "folders"))
    (is_one_of (bytes_eq key (codes "makes")) (bytes_eq key (codes "edits") || bytes_eq key (codes "removes")) (key ≡ codes "makes") _ (equal key (codes "makes"))
    (is_one_of (bytes_eq key (codes "edits")) (bytes_eq key (codes "removes")) (key ≡ codes "edits") (key ≡ codes "removes") (equal key (codes "edits")) (equal key (codes "removes")))))

-- members that are told to have no other keys have none
parts_are : (members : Members) → has_only_parts members ≡ true → HasOnlyParts members
parts_are no_members h = tt
parts_are (member key d members) h =
    let two = and_parts (is_action key || bytes_eq key (codes "creates")) (has_only_parts members) h in (
      one_of (is_action key) (bytes_eq key (codes "creates")) (IsAction key) (key ≡ codes "creates") (action_is key) (same key (codes "creates")) two.0,
      parts_are members two.1,
    )

-- and those that have none are told to
parts_back : (members : Members) → HasOnlyParts members → has_only_parts members ≡ true
parts_back no_members h = refl
parts_back (member key d members) h =
    ap₂ (λ a b. a && b) (is_one_of (is_action key) (bytes_eq key (codes "creates")) (IsAction key) (key ≡ codes "creates") (action_back key) (equal key (codes "creates")) h.0) (parts_back members h.1)

-- members that are told to have an action have one
acts : (members : Members) → has_action members ≡ true → HasAction members
acts no_members h = absurd (true≢false (sym h))
acts (member key d members) h = one_of (is_action key) (has_action members) (IsAction key) (HasAction members) (action_is key) (acts members) h

-- and those that have one are told to
acts_back : (members : Members) → HasAction members → has_action members ≡ true
acts_back no_members h = absurd h
acts_back (member key d members) h = is_one_of (is_action key) (has_action members) (IsAction key) (HasAction members) (action_back key) (acts_back members) h

-- ---- behaviors

-- paths that are read of an array, where it stands, are those of its form
paths_are : (o : Option Data) (paths : List Path) → paths_in o ≡ Some paths → AllByRecursion (AllByRecursion IsSegment) paths → ArePathsAt paths o
paths_are None paths h s = sym (same_Some [] paths h)
paths_are (Some d) paths h s =
    let items = bind_some (as_array d) folders_of paths h in (items.0, array_is d items.0 items.1, folders_are items.0 paths items.2 s)

-- and paths of the form are read
paths_back : (o : Option Data) (paths : List Path) → ArePathsAt paths o → paths_in o ≡ Some paths
paths_back None paths h = ap (λ (ps : List Path). Some ps) (sym h)
paths_back (Some d) paths h = ap (λ e. as_array e >>= folders_of) h.1 ∙ folders_back h.0 paths h.2

-- a path that is read, where it stands, is the one of its form
one_path : (o : Option Data) (path : Option Path) → path_in o ≡ Some path → IfProper path → IsPathAt path o
one_path None path h s = sym (same_Some None path h)
one_path (Some d) path h s =
    let p = map_some (λ (q : Path). Some q) (path_of d) path h in (p.0, sym p.2, path_is d p.0 p.1 (subst IfProper (sym p.2) s))

-- and a path of the form is read
one_path_back : (o : Option Data) (path : Option Path) → IsPathAt path o → path_in o ≡ Some path
one_path_back None path h = ap (λ (p : Option Path). Some p) (sym h)
one_path_back (Some d) path h = ap (option_map (λ (q : Path). Some q)) (path_back d h.0 h.2) ∙ ap (λ (p : Option Path). Some p) (sym h.1)

-- the parts of an object are those of a behavior
record HasParts (b : Behavior) (members : Members) : Type 0 where
  needs : paths_in (get_member (codes "needs") members) ≡ Some b.needs
  folders : paths_in (get_member (codes "folders") members) ≡ Some b.folders
  makes : paths_in (get_member (codes "makes") members) ≡ Some b.makes
  edits : paths_in (get_member (codes "edits") members) ≡ Some b.edits
  removes : paths_in (get_member (codes "removes") members) ≡ Some b.removes
  creates : path_in (get_member (codes "creates") members) ≡ Some b.creates

-- a behavior that is read of an object has the object's parts
has_parts : (members : Members) (b : Behavior) → behavior_of (object members) ≡ Some b → HasParts b members
has_parts members b h =
    let needs = bind_some (paths_in (get_member (codes "needs") members)) (λ needs. paths_in (get_member (codes "folders") members) >>= (λ folders. paths_in (get_member (codes "makes") members) >>= (λ makes. paths_in (get_member (codes "edits") members)
    >>= (λ edits. paths_in (get_member (codes "removes") members) >>= (λ removes. option_map (behavior_with needs folders makes edits removes) (path_in (get_member (codes "creates") members))))))) b h in
    let folders = bind_some (paths_in (get_member (codes "folders") members)) (λ folders. paths_in (get_member (codes "makes") members) >>= (λ makes. paths_in (get_member (codes "edits") members)
    >>= (λ edits. paths_in (get_member (codes "removes") members) >>= (λ removes. option_map (behavior_with needs.0 folders makes edits removes) (path_in (get_member (codes "creates") members)))))) b needs.2 in
    let makes = bind_some (paths_in (get_member (codes "makes") members)) (λ makes. paths_in (get_member (codes "edits") members)
    >>= (λ edits. paths_in (get_member (codes "removes") members) >>= (λ removes. option_map (behavior_with needs.0 folders.0 makes edits removes) (path_in (get_member (codes "creates") members))))) b folders.2 in
    let edits = bind_some (paths_in (get_member (codes "edits") members))
    (λ edits. paths_in (get_member (codes "removes") members) >>= (λ removes. option_map (behavior_with needs.0 folders.0 makes.0 edits removes) (path_in (get_member (codes "creates") members)))) b makes.2 in
    let removes = bind_some (paths_in (get_member (codes "removes") members)) (λ removes. option_map (behavior_with needs.0 folders.0 makes.0 edits.0 removes) (path_in (get_member (codes "creates") members))) b edits.2 in
    let creates = map_some (behavior_with needs.0 folders.0 makes.0 edits.0 removes.0) (path_in (get_member (codes "creates") members)) b removes.2 in
    record {
      needs = needs.1 ∙ ap (λ (c : Behavior). Some c.needs) creates.2;
      folders = folders.1 ∙ ap (λ (c : Behavior). Some c.folders) creates.2;
      makes = makes.1 ∙ ap (λ (c : Behavior). Some c.makes) creates.2;
      edits = edits.1 ∙ ap (λ (c : Behavior). Some c.edits) creates.2;
      removes = removes.1 ∙ ap (λ (c : Behavior). Some c.removes) creates.2;
      creates = creates.1 ∙ ap (λ (c : Behavior). Some c.creates) creates.2;
    }

-- and one that has them is read of it
parts_read : (members : Members) (b : Behavior) → HasParts b members → behavior_of (object members) ≡ Some b
parts_read members b h =
    bind_goes (paths_in (get_member (codes "needs") members)) (λ needs. paths_in (get_member (codes "folders") members) >>= (λ folders. paths_in (get_member (codes "makes") members) >>= (λ makes. paths_in (get_member (codes "edits") members)
    >>= (λ edits. paths_in (get_member (codes "removes") members) >>= (λ removes. option_map (behavior_with needs folders makes edits removes) (path_in (get_member (codes "creates") members))))))) b.needs h.needs
    ∙ (bind_goes (paths_in (get_member (codes "folders") members)) (λ folders. paths_in (get_member (codes "makes") members) >>= (λ makes. paths_in (get_member (codes "edits") members)
    >>= (λ edits. paths_in (get_member (codes "removes") members) >>= (λ removes. option_map (behavior_with b.needs folders makes edits removes) (path_in (get_member (codes "creates") members)))))) b.folders h.folders
    ∙ (bind_goes (paths_in (get_member (codes "makes") members)) (λ makes. paths_in (get_member (codes "edits") members)
    >>= (λ edits. paths_in (get_member (codes "removes") members) >>= (λ removes. option_map (behavior_with b.needs b.folders makes edits removes) (path_in (get_member (codes "creates") members))))) b.makes h.makes
    ∙ (bind_goes (paths_in (get_member (codes "edits") members))
    (λ edits. paths_in (get_member (codes "removes") members) >>= (λ removes. option_map (behavior_with b.needs b.folders b.makes edits removes) (path_in (get_member (codes "creates") members)))) b.edits h.edits
    ∙ (bind_goes (paths_in (get_member (codes "removes") members)) (λ removes. option_map (behavior_with b.needs b.folders b.makes b.edits removes) (path_in (get_member (codes "creates") members))) b.removes h.removes
    ∙ ap (option_map (behavior_with b.needs b.folders b.makes b.edits b.removes)) h.creates))))

-- a behavior that is told by an object is the one of its form
behavior_is : OnceWhere → (members : Members) (b : Behavior) → behaves (object members) members ≡ Some b → IsProperBehavior b → IsBehavior b (object members)
behavior_is once members b h s =
    let tests = if_some (has_only_parts members && has_action members) (behavior_of (object members) >>= if_fit) b h in
    let two = and_parts (has_only_parts members) (has_action members) tests.0 in
    let read = bind_some (behavior_of (object members)) if_fit b tests.1 in
    let fit = fit_is once read.0 b read.2 in
    let parts = has_parts members b (read.1 ∙ ap (λ (c : Behavior). Some c) fit.0) in
    record {
      members = members;
      is_object = refl;
      parts = parts_are members two.0;
      acts = acts members two.1;
      needs = paths_are (get_member (codes "needs") members) b.needs parts.needs s.needs;
      folders = paths_are (get_member (codes "folders") members) b.folders parts.folders s.folders;
      makes = paths_are (get_member (codes "makes") members) b.makes parts.makes s.makes;
      edits = paths_are (get_member (codes "edits") members) b.edits parts.edits s.edits;
      removes = paths_are (get_member (codes "removes") members) b.removes parts.removes s.removes;
      creates = one_path (get_member (codes "creates") members) b.creates parts.creates s.creates;
      apart = (fit_is once b b (ap if_fit (sym fit.0) ∙ read.2)).1;
      few = (fit_is once b b (ap if_fit (sym fit.0) ∙ read.2)).2;
    }

-- and a behavior of the form is told
behavior_back : OnceWhere → (d : Data) (b : Behavior) → IsBehavior b d → (as_object d >>= behaves d) ≡ Some b
behavior_back once d b h =
    ap (λ e. as_object e >>= behaves e) h.is_object
    ∙ (ap (λ t. cond t (behavior_of (object h.members) >>= if_fit) None) (ap₂ (λ x y. x && y) (parts_back h.members h.parts) (acts_back h.members h.acts))
    ∙ (bind_goes (behavior_of (object h.members)) if_fit b (parts_read h.members b (record {
      needs = paths_back (get_member (codes "needs") h.members) b.needs h.needs;
      folders = paths_back (get_member (codes "folders") h.members) b.folders h.folders;
      makes = paths_back (get_member (codes "makes") h.members) b.makes h.makes;
      edits = paths_back (get_member (codes "edits") h.members) b.edits h.edits;
      removes = paths_back (get_member (codes "removes") h.members) b.removes h.removes;
      creates = one_path_back (get_member (codes "creates") h.members) b.creates h.creates;
    }))
    ∙ fit_back once b h.apart h.few))

-- ---- what is assumed

-- what a word says is what its form says
word_is : (word : List ℕ) (a : Assumed) → word_of word ≡ Some a → IsAssumed a (string word)
word_is word a h = at (bytes_eq word (codes "none")) (bytes_eq word (codes "refused")) refl refl h
  where
    at : (s t : Bool) → bytes_eq word (codes "none") ≡ s → bytes_eq word (codes "refused") ≡ t → cond s (Some Nothing) (cond t (Some Refused) None) ≡ Some a → IsAssumed a (string word)
    at true t e f k = subst (λ b. IsAssumed b (string word)) (same_Some Nothing a k) (ap string (same word (codes "none") e))
    at false true e f k = subst (λ b. IsAssumed b (string word)) (same_Some Refused a k) (ap string (same word (codes "refused") f))
    at false false e f k = absurd (none-some a k)

-- what JSON tells to be assumed is what its form says
assumed_is : OnceWhere → (d : Data) (a : Assumed) → assumed_of d ≡ Some a → IsProper a → IsAssumed a d
assumed_is once null a h s = absurd (none-some a h)
assumed_is once (boolean b) a h s = absurd (none-some a h)
assumed_is once (number n) a h s = absurd (none-some a h)
assumed_is once (string word) a h s = word_is word a h
assumed_is once (array items) a h s = absurd (none-some a h)
assumed_is once (object members) a h s =
    let b = map_some Does (behaves (object members) members) a h in
    subst (λ c. IsAssumed c (object members)) b.2 (behavior_is once members b.0 b.1 (subst IsProper (sym b.2) s))

-- and what the form says is told
assumed_back : OnceWhere → (d : Data) (a : Assumed) → IsAssumed a d → assumed_of d ≡ Some a
assumed_back once d Nothing h = ap assumed_of h
assumed_back once d Refused h = ap assumed_of h
assumed_back once d (Does b) h =
    ap assumed_of h.is_object ∙ ap (option_map Does) (ap (λ e. as_object e >>= behaves e) (sym h.is_object) ∙ behavior_back once d b h)

-- ---- assumptions

-- the assumption of a member is that of its form
assumption_is : ReferencesWhere → OnceWhere → (key : List ℕ) (d : Data) (a : Assumption) → assumption_of key d ≡ Some a → IsProperAssumption a → IsAssumption a key d
assumption_is references once key d a h s =
    let subject = bind_some (subject_of key) (λ subject. option_map (assumption_with subject) (assumed_of d)) a h in
    let assumed = map_some (assumption_with subject.0) (assumed_of d) a subject.2 in
    record {
      subject = (subject_where references key a.subject).0 (subject.1 ∙ ap (λ (b : Assumption). Some b.subject) assumed.2);
      assumed = assumed_is once d a.assumed (assumed.1 ∙ ap (λ (b : Assumption). Some b.assumed) assumed.2) s;
    }

-- and one of the form is read
assumption_back : ReferencesWhere → OnceWhere → (key : List ℕ) (d : Data) (a : Assumption) → IsAssumption a key d → assumption_of key d ≡ Some a
assumption_back references once key d a h =
    bind_goes (subject_of key) (λ subject. option_map (assumption_with subject) (assumed_of d)) a.subject ((subject_where references key a.subject).1 h.subject)
    ∙ ap (option_map (assumption_with a.subject)) (assumed_back once d a.assumed h.assumed)

-- the assumptions of members are those of their form
rows_are : ReferencesWhere → OnceWhere → (members : Members) (rows : List Assumption) → rows_of members ≡ Some rows → AllByRecursion IsProperAssumption rows → AreAssumptions rows members
rows_are references once no_members rows h s = subst (λ l. AreAssumptions l no_members) (same_Some [] rows h) tt
rows_are references once (member key d members) rows h s =
    let first = bind_some (assumption_of key d) (λ a. option_map (λ l. a ∷ l) (rows_of members)) rows h in
    let rest = map_some (λ l. first.0 ∷ l) (rows_of members) rows first.2 in
    let both = subst (AllByRecursion IsProperAssumption) (sym rest.2) s in
    subst (λ l. AreAssumptions l (member key d members)) rest.2 (assumption_is references once key d first.0 first.1 both.0, rows_are references once members rest.0 rest.1 both.1)

-- and those of the form are read
rows_back : ReferencesWhere → OnceWhere → (members : Members) (rows : List Assumption) → AreAssumptions rows members → rows_of members ≡ Some rows
rows_back references once no_members [] h = refl
rows_back references once no_members (a ∷ rows) h = absurd h
rows_back references once (member key d _) [] h = absurd h
rows_back references once (member key d members) (a ∷ rows) h =
    bind_goes (assumption_of key d) (λ b. option_map (λ l. b ∷ l) (rows_of members)) a (assumption_back references once key d a h.0)
    ∙ ap (option_map (λ l. a ∷ l)) (rows_back references once members rows h.1)

-- ---- the whole

-- assumptions that are read of what may stand there are read of an object
some_rows : (o : Option Data) (rows : List Assumption) → rows_in o ≡ Some rows → (resources : Members) × (o ≡ Some (object resources)) × (rows_of resources ≡ Some rows)
some_rows None rows h = absurd (none-some rows h)
some_rows (Some d) rows h =
    let resources = bind_some (as_object d) rows_of rows h in (resources.0, ap (λ e. Some e) (object_is d resources.0 resources.1), resources.2)

-- assumptions that are read of an object of two keys are those that it says
with_is : ReferencesWhere → OnceWhere → (members : Members) (rows : List Assumption) → rows_with (object members) (members_len members) ≡ Some rows → AllByRecursion IsProperAssumption rows → SaysAssumptions rows (object members)
with_is references once members rows h s =
    let tests = if_some ((members_len members == 2) && has_version (get_member (codes "version") members)) (rows_in (get_member (codes "resources") members)) rows h in
    let two = and_parts (members_len members == 2) (has_version (get_member (codes "version") members)) tests.0 in
    let found = some_rows (get_member (codes "resources") members) rows tests.1 in
    record {
      members = members;
      is_object = refl;
      just_two = eqb-true (members_len members) 2 two.0;
      has_version = version_is (get_member (codes "version") members) two.1;
      resources = found.0;
      has_resources = found.1;
      are_assumptions = rows_are references once found.0 rows found.2 s;
    }

-- assumptions that JSON tells are those that it says
pub says : ReferencesWhere → OnceWhere → (d : Data) (rows : List Assumption) → all_rows d ≡ Some rows → AllByRecursion IsProperAssumption rows → SaysAssumptions rows d
says references once d rows h s =
    let members = bind_some (as_object d) (λ members. rows_with d (members_len members)) rows h in
    let is = object_is d members.0 members.1 in
    subst (SaysAssumptions rows) (sym is) (with_is references once members.0 rows (ap (λ e. rows_with e (members_len members.0)) (sym is) ∙ members.2) s)

-- and those that it says are told
pub says_back : ReferencesWhere → OnceWhere → (d : Data) (rows : List Assumption) → SaysAssumptions rows d → all_rows d ≡ Some rows
says_back references once d rows h =
    ap all_rows h.is_object
    ∙ (ap (λ t. cond t (rows_in (get_member (codes "resources") h.members)) None) (ap₂ (λ k o. (k == 2) && has_version o) h.just_two h.has_version)
    ∙ (ap rows_in h.has_resources ∙ rows_back references once h.resources rows h.are_assumptions))
