-- The members that are read.
use Rattle.std.proofs.Common.{◌≡◌, ◌≢◌, ◌⊎◌, inl, inr, ℕ, ◌≤◌, Bool, true, false, List, [], ◌∷◌, ◌++◌, length, Option, Some, None, is_some, refl, sym, ap, subst, ◌∙◌, String, Global, BTreeMap, string_bytes, string_cmp}
use Rattle.std.specs.Prelude.{◌↔◌, IsTrue, IsUtf8, Result, Ok, Err, IfErr}
use Rattle.std.specs.Result.{IsErrAnd}
use Rattle.std.specs.declared.cmp.Ordering.{Ordering}
use Rattle.std.specs.declared.cmp.Ordering.TheVariants.{Less, Equal, Greater}
use Rattle.std.specs.Ordering.{nat_cmp, ordering_then, ordering_reverse}
use Rattle.std.specs.Cmp.{nat_cmp_total, tied_itself}
use Rattle.std.specs.Cmp.Lexicographic.{slice_cmp, nat_list_cmp_total}
use Rattle.std.specs.List.{AllByRecursion}
use Rattle.std.specs.List.Sorted.{IsStrictlySortedBy}
use Rattle.std.specs.Map.{keys_of}
use Rattle.std.specs.FinMap as map
use Rattle.std.specs.FinMap.{get-empty}
use Rattle.serde_json.specs.Data.{Data, null, object, Members, no_members}
use Rattle.serde_json.specs.Read.{read}
use Rattle.serde_json.specs.View.{view, members_view}
use Rattle.serde_json.specs.declared.value.Value.{Value}
use Rattle.serde_json.specs.declared.value.Value as stored
use Rattle.serde_json.proofs.Views.{Entry, view-Object}
use Rattle.rh_base.specs.declared.misread.Misread.{Misread}
use Rattle.rh_base.specs.declared.misread.Misread.TheVariants as misread
use Rattle.rh_base.specs.declared.limits.TheConstants.{PATH_BYTES, PATH_SEGMENTS}
use Rattle.fs_semantics.specs.FileTree as fs
use Rattle.fs_semantics.specs.FileTree.{Path, Folder, Tree, IsTree, IsSegment, is_dir, parent, path_cmp, path_eq}
use Rattle.fs_semantics.specs.Entries.{IsFreeAt, IsFolderAt, IsWith}
use Rattle.fs_lang.specs.PathText.{IsPathText, path_text}
use Rattle.tree_text.specs.TreeText.{entry_data, HasMember, AreMembers, IsWithinLimits, IsTreeText}
use Rattle.json_parts.specs.Forms.{IfForm}
use Rattle.tree_text.specs.Reading.{Fits, IsGrown}
use Rattle.tree_text.proofs.MemberLaws.{has_left, has_right, has_either}
use Rattle.tree_text.proofs.WriteLaws.{SameText, SamePath, proper_at}
use Rattle.tree_text.proofs.TextLaws.{same_entry}
use Rattle.std.proofs.lemmas.Option.{same_Some}

-- trees with the same entries are the same, as the law of trees says
abbrev pub SameTree : Type 0
SameTree = (t u : Tree) → ((p : Path) → map.get t p ≡ map.get u p) → t ≡ u

-- ---- members tell the tree

-- an entry of one tree of these members is one of each other tree of theirs
same_at : SameText → (ms : Members) (t u : Tree) → IsTree t → IsTree u → AreMembers ms t → AreMembers ms u
    → (p : Path) (x : fs.Entry) → map.get t p ≡ Some x → map.get u p ≡ Some x
same_at same ms t u is_t is_u a b p x h =
    let e = b.member_is_entry (path_text p) (entry_data x) (a.entry_is_member p x h) in
    let path : p ≡ e.path = same p e.path (proper_at t p x is_t h) (proper_at u e.path e.entry is_u e.stands) e.key_is in
    ap (map.get u) path ∙ e.stands ∙ ap (λ y. Some y) (sym (same_entry x e.entry e.data_is))

-- members are those of one tree only
pub one_tree : SameText → SameTree → (ms : Members) (t u : Tree) → IsTree t → IsTree u → AreMembers ms t → AreMembers ms u → t ≡ u
one_tree same_text same_tree ms t u is_t is_u a b = same_tree t u (λ p. at p (map.get t p) (map.get u p) refl refl)
  where
    at : (p : Path) (x y : Option fs.Entry) → map.get t p ≡ x → map.get u p ≡ y → map.get t p ≡ map.get u p
    at p (Some x) y e f = e ∙ sym (same_at same_text ms t u is_t is_u a b p x e)
    at p None (Some y) e f = same_at same_text ms u t is_u is_t b a p y f ∙ sym f
    at p None None e f = e ∙ sym f

-- ---- one member more

-- an entry that is put into a tree stands there, and the rest stays
abbrev pub WithEntry : Type 0
WithEntry = (t : Tree) (p : Path) (x : fs.Entry) → IsWith t (map.insert t p x) p (Some x)

-- whether paths are the same
abbrev pub Told : Type 0
Told = (p q : Path) → (p ≡ q) ⊎ (p ≢ q)

-- the new entry stands in its place
at_new : WithEntry → (t u : Tree) (p : Path) (x : fs.Entry) → u ≡ map.insert t p x → map.get u p ≡ Some x
at_new with_entry t u p x e = ap (λ v. map.get v p) e ∙ (with_entry t p x).here

-- and elsewhere all is as before
at_old : WithEntry → (t u : Tree) (p : Path) (x : fs.Entry) → u ≡ map.insert t p x → (q : Path) → q ≢ p → map.get u q ≡ map.get t q
at_old with_entry t u p x e q n = ap (λ v. map.get v q) e ∙ (with_entry t p x).elsewhere q n

-- a place where nothing stands isn't one where something does
none_some : (t : Tree) (p q : Path) (y : fs.Entry) → map.get t p ≡ None → map.get t q ≡ Some y → q ≢ p
none_some t p q y n h e = let clash : ◌≡◌ {A = Option fs.Entry} None (Some y) = sym n ∙ ap (map.get t) (sym e) ∙ h in cc

-- with one member more, which fits, the members are those of the tree with its entry
pub grown_members : WithEntry → Told → (es : List Entry) (k : String Global) (v : Value) (t u : Tree) → AreMembers (members_view es) t → IsGrown (string_bytes k) (view v) t u
    → AreMembers (members_view (es ++ (k, v) ∷ [])) u
grown_members with_entry told es k v t u a g =
    let p = g.0 in let x = g.1 in let fits = g.2 in record {
      member_is_entry = λ q c h. elim (has_either q c es ((k, v) ∷ []) h) [
        | inl m ↦
            let e = a.member_is_entry q c m in
            record { path = e.path; entry = e.entry; stands = at_old with_entry t u p x g.3 e.path (none_some t p e.path e.entry fits.free.1 e.stands) ∙ e.stands; key_is = e.key_is; data_is = e.data_is }
        | inr m ↦ elim m [
          | inl two ↦ record { path = p; entry = x; stands = at_new with_entry t u p x g.3; key_is = two.0 ∙ fits.is_key.form; data_is = two.1 ∙ fits.value }
          | inr none ↦ absurd none
        ]
      ];
      entry_is_member = λ q y h. elim (told q p) [
        | inl same ↦
            let entry : x ≡ y = same_Some x y (sym (at_new with_entry t u p x g.3) ∙ ap (map.get u) (sym same) ∙ h) in
            has_right (path_text q) (entry_data y) es ((k, v) ∷ []) (inl (ap path_text same ∙ sym fits.is_key.form, ap entry_data (sym entry) ∙ sym fits.value))
        | inr other ↦ has_left (path_text q) (entry_data y) es ((k, v) ∷ []) (a.entry_is_member q y (sym (at_old with_entry t u p x g.3 q other) ∙ h))
      ];
    }

-- and the tree is within the limits still
pub grown_limits : WithEntry → Told → (key : List ℕ) (d : Data) (t u : Tree) → IsWithinLimits t → IsGrown key d t u → IsWithinLimits u
grown_limits with_entry told key d t u a g q y h = elim (told q g.0) [
  | inl same ↦
      let key_is = (g.2).is_key in
      subst (λ r. (length (path_text r) ≤ PATH_BYTES) × (length r ≤ PATH_SEGMENTS)) (sym same)
      (subst (λ l. length l ≤ PATH_BYTES) key_is.form key_is.text.bytes, key_is.text.depth)
  | inr other ↦ a q y (sym (at_old with_entry t u g.0 g.1 g.3 q other) ∙ h)
]

-- no members are those of a tree without entries
pub nothing_read : (t : Tree) → ((p : Path) → map.get t p ≡ None) → AreMembers no_members t × IsWithinLimits t
nothing_read t none = (
  record { member_is_entry = λ q c h. absurd h; entry_is_member = λ p x h. let clash : ◌≡◌ {A = Option fs.Entry} None (Some x) = sym (none p) ∙ h in cc },
  (λ p x h. let clash : ◌≡◌ {A = Option fs.Entry} None (Some x) = sym (none p) ∙ h in cc),
)

-- ---- the order of keys

-- the keys ahead of a member are less than its own
before_it : (es rest : List Entry) (k : String Global) (v : Value) → IsStrictlySortedBy string_cmp (keys_of (es ++ (k, v) ∷ rest))
    → (q : List ℕ) (c : Data) → HasMember q c (members_view es) → slice_cmp nat_cmp q (string_bytes k) ≡ Less
unfolding IsStrictlySortedBy
before_it [] rest k v s q c h = absurd h
before_it (e ∷ es) rest k v s q c (inl two) = ap (λ r. slice_cmp nat_cmp r (string_bytes k)) two.0 ∙ reach es s.0
  where
    reach : (fs : List Entry) → AllByRecursion (λ y. string_cmp e.0 y ≡ Less) (keys_of (fs ++ (k, v) ∷ rest)) → slice_cmp nat_cmp (string_bytes e.0) (string_bytes k) ≡ Less
    reach [] a = a.0
    reach (f ∷ fs) a = reach fs a.1
before_it (e ∷ es) rest k v s q c (inr h) = before_it es rest k v s.1 q c h

-- a key that is less than all of these is less than that of each member
all_behind : (k : String Global) (rest : List Entry) → AllByRecursion (λ y. string_cmp k y ≡ Less) (keys_of rest) → (q : List ℕ) (c : Data) → HasMember q c (members_view rest) → slice_cmp nat_cmp (string_bytes k) q ≡ Less
all_behind k [] a q c h = absurd h
all_behind k (e ∷ rest) a q c (inl two) = ap (slice_cmp nat_cmp (string_bytes k)) two.0 ∙ a.0
all_behind k (e ∷ rest) a q c (inr h) = all_behind k rest a.1 q c h

-- and the keys behind a member are greater than its own
behind_it : (es rest : List Entry) (k : String Global) (v : Value) → IsStrictlySortedBy string_cmp (keys_of (es ++ (k, v) ∷ rest))
    → (q : List ℕ) (c : Data) → HasMember q c (members_view rest) → slice_cmp nat_cmp (string_bytes k) q ≡ Less
unfolding IsStrictlySortedBy
behind_it [] rest k v s q c h = all_behind k rest s.0 q c h
behind_it (e ∷ es) rest k v s q c h = behind_it es rest k v s.1 q c h

-- a text is less than each longer one that it begins
front_less : (q more : List ℕ) → more ≢ [] → slice_cmp nat_cmp q (q ++ more) ≡ Less
front_less [] [] n = absurd (n refl)
front_less [] (b ∷ more) n = refl
front_less (b ∷ q) more n = ap (λ o. ordering_then o (slice_cmp nat_cmp q (q ++ more))) (tied_itself nat_cmp_total b) ∙ front_less q more n

-- of two keys not each is less than the other
not_both : (k l : List ℕ) → slice_cmp nat_cmp k l ≡ Less → slice_cmp nat_cmp l k ≡ Less → ⊥
not_both k l h g = let clash : ◌≡◌ {A = Ordering} Less Greater = sym h ∙ nat_list_cmp_total.antisymm k l ∙ ap ordering_reverse g in cc

-- no key is less than itself
not_itself : (k : List ℕ) → slice_cmp nat_cmp k k ≡ Less → ⊥
not_itself k h = let clash : ◌≡◌ {A = Ordering} Equal Less = sym (tied_itself nat_list_cmp_total k) ∙ h in cc

-- ---- a member that doesn't fit

-- a path within the limits is read back, and its text goes on from that of its parent, as the laws of path texts say
abbrev pub Again : Type 0
Again = (p : Path) → AllByRecursion IsSegment p → length (path_text p) ≤ PATH_BYTES → length p ≤ PATH_SEGMENTS → IsPathText (path_text p) p

-- the text of a path goes on from that of its parent, unless this is the root
abbrev pub Below : Type 0
Below = (p : Path) → parent p ≢ [] → (more : List ℕ) × (more ≢ []) × (path_text p ≡ path_text (parent p) ++ more)

-- a path is told to be a folder exactly where it is one
abbrev pub FolderTold : Type 0
FolderTold = (p : Path) (t : Tree) → IsTrue (is_dir t p) ↔ IsFolderAt t p

-- the members before one, it, and those behind it
module _ (same : SameText) (again : Again) (below : Below) (folder : FolderTold) (told : Told) (es rest : List Entry) (k : String Global) (v : Value) (sorted : IsStrictlySortedBy string_cmp (keys_of (es ++ (k, v) ∷ rest)))
    (u t : Tree) (is_u : IsTree u) (is_t : IsTree t) (a : AreMembers (members_view es) u) (b : AreMembers (members_view (es ++ (k, v) ∷ rest)) t) where
  -- the path of the next member is free in the tree of those ahead of it
  is_free : (p : Path) (x : fs.Entry) → map.get t p ≡ Some x → string_bytes k ≡ path_text p → IsFreeAt u p
  is_free p x h key = ((λ e. let clash : ◌≡◌ {A = Option fs.Entry} None (Some x) = sym is_t.no_root ∙ ap (map.get t) (sym e) ∙ h in cc), none (map.get u p) refl)
    where
      none : (r : Option fs.Entry) → map.get u p ≡ r → map.get u p ≡ None
      none None e = e
      none (Some y) e = absurd (not_itself (string_bytes k) (subst (λ q. slice_cmp nat_cmp q (string_bytes k) ≡ Less) (sym key) (before_it es rest k v sorted (path_text p) (entry_data y) (a.entry_is_member p y e))))

  -- its parent, where that is a folder with an entry, is so in that tree already
  folder_before : (p : Path) → string_bytes k ≡ path_text p → parent p ≢ [] → map.get t (parent p) ≡ Some Folder → map.get u (parent p) ≡ Some Folder
  folder_before p key n h =
      let more = below p n in
      let less : slice_cmp nat_cmp (path_text (parent p)) (string_bytes k) ≡ Less = ap (slice_cmp nat_cmp (path_text (parent p))) (key ∙ more.2) ∙ front_less (path_text (parent p)) more.0 more.1 in
      elim (has_either (path_text (parent p)) null es ((k, v) ∷ rest) (b.entry_is_member (parent p) Folder h)) [
        | inl m ↦
            let e = a.member_is_entry (path_text (parent p)) null m in
            let path : parent p ≡ e.path = same (parent p) e.path (proper_at t (parent p) Folder is_t h) (proper_at u e.path e.entry is_u e.stands) e.key_is in
            ap (map.get u) path ∙ e.stands ∙ ap (λ y. Some y) (sym (same_entry Folder e.entry e.data_is))
        | inr m ↦ elim m [
          | inl two ↦ absurd (not_itself (string_bytes k) (subst (λ q. slice_cmp nat_cmp q (string_bytes k) ≡ Less) two.0 less))
          | inr m ↦ absurd (not_both (path_text (parent p)) (string_bytes k) less (behind_it es rest k v sorted (path_text (parent p)) null m))
        ]
      ]

  -- and so its parent is a folder there
  is_above : (p : Path) → string_bytes k ≡ path_text p → IsFolderAt t (parent p) → IsFolderAt u (parent p)
  is_above p key (inl e) = inl e
  is_above p key (inr h) = elim (told (parent p) []) [ inl e ↦ inl e | inr n ↦ inr (folder_before p key n h) ]

  -- where all members are those of a tree within the limits, the next one fits
  pub never : IsWithinLimits t → ((p : Path) (x : fs.Entry) → Fits (string_bytes k) (view v) u p x → ⊥) → ⊥
  never limits misfit =
      let e = b.member_is_entry (string_bytes k) (view v) (has_right (string_bytes k) (view v) es ((k, v) ∷ rest) (inl (refl, refl))) in
      let p = e.path in
      let short = limits p e.entry e.stands in
      misfit p e.entry (record {
        is_key = record { text = subst (λ l. IsPathText l p) (sym e.key_is) (again p (proper_at t p e.entry is_t e.stands) short.0 short.1); form = e.key_is };
        value = e.data_is;
        free = is_free p e.entry e.stands e.key_is;
        above = is_above p e.key_is ((folder (parent p) t).0 (is_t.parents p (ap is_some e.stands)));
      })

-- ---- what the bytes are read as

-- objects that are read as one have the same members
same_object : (ms ns : Members) → ◌≡◌ {A = Option Data} (Some (object ms)) (Some (object ns)) → ms ≡ ns
same_object ms ns e = cc

-- the same bytes are read as the same members
pub same_read : (bytes : List ℕ) (ms ns : Members) → read bytes ≡ Some (object ms) → read bytes ≡ Some (object ns) → ms ≡ ns
same_read bytes ms ns e f = same_object ms ns (sym e ∙ f)

-- ---- the reading of all members

-- paths are the same or not, as the test tells
pub told_of : SamePath → Told
told_of same p q = at (path_eq p q) refl
  where
    at : (b : Bool) → path_eq p q ≡ b → (p ≡ q) ⊎ (p ≢ q)
    at true e = inl ((same p q).0 e)
    at false e = inr (λ h. let clash : true ≡ false = sym ((same p q).1 h) ∙ e in cc)

-- the empty tree is that of no members, and within the limits
pub read_nothing : (t : Tree) → t ≡ map.empty → AreMembers no_members t × IsWithinLimits t
read_nothing t e = nothing_read t (λ p. ap (λ u. map.get u p) e ∙ get-empty path_cmp p)

-- with one more member read, which fits, what was read is still the tree of the members so far
pub read_more : WithEntry → Told → (es all : List Entry) (k : String Global) (v : Value) (key : List ℕ) (t u : Tree) → all ≡ es ++ (k, v) ∷ [] → key ≡ string_bytes k
    → AreMembers (members_view es) t × IsWithinLimits t → IsGrown key (view v) t u → AreMembers (members_view all) u × IsWithinLimits u
read_more with_entry told es all k v key t u whole is h g =
    let grown = subst (λ l. IsGrown l (view v) t u) is g in (
      subst (λ l. AreMembers (members_view l) u) (sym whole) (grown_members with_entry told es k v t u h.0 grown),
      grown_limits with_entry told key (view v) t u h.1 g,
    )

-- where the next member doesn't fit, no tree within the limits has all members
pub unread : SameText → Again → Below → FolderTold → Told → (all es old rest : List Entry) (k : String Global) (v : Value) (key : List ℕ) (u : Tree) (e : Misread) → IsStrictlySortedBy string_cmp (keys_of all) → all ≡ es ++ old → old ≡ (k, v) ∷ rest
    → key ≡ string_bytes k → IsTree u → AreMembers (members_view es) u → IfForm e ((p : Path) (x : fs.Entry) → Fits key (view v) u p x → ⊥)
    → IfForm e ((t : Tree) → IsTree t → IsWithinLimits t → AreMembers (members_view all) t → ⊥)
unread same again below folder told all es old rest k v key u misread.Form sorted whole next is is_u a misfit = λ t is_t limits b.
    let parts : all ≡ es ++ (k, v) ∷ rest = whole ∙ ap (λ l. es ++ l) next in
    never same again below folder told es rest k v (subst (λ l. IsStrictlySortedBy string_cmp (keys_of l)) parts sorted) u t is_u is_t a (subst (λ l. AreMembers (members_view l) t) parts b) limits
    (subst (λ l. (p : Path) (x : fs.Entry) → Fits l (view v) u p x → ⊥) is misfit)
unread same again below folder told all es old rest k v key u (misread.Memory m) sorted whole next is is_u a misfit = tt

-- bytes that are read as the members of a tree are a text of that tree
pub tree_read : (bytes : List ℕ) (m : BTreeMap (String Global) Value) (json : Value) (t : Tree) → IsUtf8 bytes → read bytes ≡ Some (view json) → json ≡ stored.Object m → AreMembers (members_view m.entries) t → IsWithinLimits t → IsTree t
    → IsTreeText bytes t
tree_read bytes m json t text is object_is are limits is_tree =
    record { is_tree = is_tree; limits = limits; text = text; members = members_view m.entries; is_read = is ∙ ap (λ j. Some (view j)) object_is ∙ ap (λ d. Some d) (view-Object m); are = are }

-- a fact of a fault that is passed on
pub passed_on : {X : Type 0} (P : Misread → Type 0) (r : Result X Misread) (e : Misread) → IsErrAnd r (λ f. f ≡ e) → P e → IfErr r P
passed_on P (Ok x) e h k = tt
passed_on P (Err f) e h k = subst P (sym h) k
