-- Definitions by their names, and the names of nodes.
use Rattle.std.proofs.Common.{◌≡◌, arith, add-one, ℕ, zero, suc, ◌-◌, ◌<◌, length, Bool, true, false, cond, ◌||◌, List, [], ◌∷◌, ◌++◌, map, refl, sym, ap, ◌∙◌, append_assoc, append-nil}
use Rattle.std.specs.Prelude.{is_none, is_some, not, nat_lt, codes, Option, Some, None, Result, Ok, Err}
use Rattle.std.specs.List.{list_any}
use Rattle.std.specs.Str.{bytes_eq}
use Rattle.std.specs.Cmp.Lexicographic.{nat_list_eq_equiv}
use Rattle.std.proofs.Math.Nat.{suc-sub-suc, sub-zero}
use Rattle.std.proofs.lemmas.Bool.{ltb-true, ltb-false}
use Rattle.std.proofs.lemmas.List.Folds.{list_any-append}
use Rattle.rh_base.specs.declared.fault.Refusal.{Refusal}
use Rattle.pp_value.specs.Keys.{value_at}
use Rattle.pp_value.specs.Texts.{lowered}
use Rattle.pp_eval.specs.Evaluating.{◌>>=◌, refusal}
use Rattle.catalog_semantics.specs.Sites.{Definition, Node, Site, definition_of, is_same_node, new_nodes, node_names, node_label, node_block, with_its_node, stands_twice, is_taken, is_defined, with_node, line_of, inherits_itself}
use Rattle.pp_definitions.specs.declared.nodes.NodeNames.{NodeNames}
use Rattle.pp_syntax.specs.declared.tree.Stmt.{Stmt}
use Rattle.pp_definitions.specs.Gathering.{node_gathered}
use Rattle.pp_definitions.specs.Places.{parent_in, if_some, goes_on, AreNamed, keyed_names, noted, noted_one, noted_all, has_some}
use Rattle.std.proofs.Math.Bool.{or-false, or-true}
use Rattle.pp_value.proofs.LimitLaws.{or_right}

-- ---- definitions

-- there are as many images as items
pub counted : {X Y : Type 0} (f : X → Y) (xs : List X) → length (map f xs) ≡ length xs
counted f [] = refl
counted f (x ∷ xs) = ap suc (counted f xs)

-- what is found under a name is the definition of the name
pub found : (name : List ℕ) (pairs : List (List ℕ × Definition)) → AreNamed pairs → value_at name pairs ≡ definition_of name (map (λ p. p.1) pairs)
found name [] h = refl
found name (p ∷ pairs) h = (λ i. cond (bytes_eq (h.0 i) name) (Some p.1) (found name pairs h.1 i))

-- a name without a definition has none among the pairs
pub is_new : (name : List ℕ) (pairs : List (List ℕ × Definition)) → AreNamed pairs → definition_of name (map (λ p. p.1) pairs) ≡ None → value_at name pairs ≡ None
is_new name pairs h k = found name pairs h ∙ k

-- with one more pair each key is the name of its definition
pub named_still : (pairs : List (List ℕ × Definition)) (name : List ℕ) (d : Definition) → AreNamed pairs → name ≡ d.name → AreNamed (pairs ++ (name, d) ∷ [])
named_still [] name d h k = (k, tt)
named_still (p ∷ pairs) name d h k = (h.0, named_still pairs name d h.1 k)

-- one more pair is one more definition
pub one_more : (pairs : List (List ℕ × Definition)) (name : List ℕ) (d : Definition) → map (λ (p : List ℕ × Definition). p.1) (pairs ++ (name, d) ∷ []) ≡ map (λ p. p.1) pairs ++ d ∷ []
one_more [] name d = refl
one_more (p ∷ pairs) name d = ap (λ ds. p.1 ∷ ds) (one_more pairs name d)

-- ---- names of nodes

-- something is there, here or further on, where one of the two is
lowered_head : (t : Bool) (o : Option Bool) → is_some (cond t (Some true) o) ≡ (t || is_some o)
lowered_head true o = refl
lowered_head false o = refl

-- a name of a node stands exactly where it is noted in lower case
pub noted_is : (name : List ℕ) (names : List (Option (List ℕ))) → list_any (is_same_node (Some name)) names ≡ is_some (value_at (lowered name) (keyed_names names))
noted_is name [] = refl
noted_is name (None ∷ names) = noted_is name names
noted_is name (Some own ∷ names) =
    (λ i. nat_list_eq_equiv.symm (lowered name) (lowered own) i || noted_is name names i) ∙ sym (lowered_head (bytes_eq (lowered own) (lowered name)) (value_at (lowered name) (keyed_names names)))

-- one more name is noted last
keyed_last : (names : List (Option (List ℕ))) (name : Option (List ℕ)) → keyed_names (names ++ name ∷ []) ≡ keyed_names names ++ keyed_names (name ∷ [])
keyed_last [] name = refl
keyed_last (None ∷ names) name = keyed_last names name
keyed_last (Some own ∷ names) name = ap (λ keys. (lowered own, true) ∷ keys) (keyed_last names name)

-- nothing behind a disjunction changes it
or_end : (a b : Bool) → (a || (b || false)) ≡ (a || b)
or_end true b = refl
or_end false true = refl
or_end false false = refl

-- one name behind others
noted_last : (names : List (Option (List ℕ))) (name : Option (List ℕ)) → noted (names ++ name ∷ [])
    ≡ record { named = keyed_names names ++ keyed_names (name ∷ []); has_default = list_any (is_same_node None) names || is_same_node None name }
noted_last names name =
    λ i. record { named = keyed_last names name i; has_default = (list_any-append (is_same_node None) names (name ∷ []) ∙ or_end (list_any (is_same_node None) names) (is_same_node None name)) i }

-- one more name behind those before, unless it stands twice
abbrev new_one : ℕ → List (Option (List ℕ)) → Option (List ℕ) → Result (List (Option (List ℕ))) Refusal
new_one at before name = cond (list_any (is_same_node name) before) (Err (stands_twice at (node_label name))) (Ok (before ++ name ∷ []))

-- the names that are found, as they are noted
abbrev pub as_noted : Result (List (Option (List ℕ))) Refusal → Result NodeNames Refusal
as_noted r = r >>= λ all. Ok (noted all)

-- a name that is noted, or not
by_name : (at : ℕ) (before : List (Option (List ℕ))) (name : Option (List ℕ)) → noted_one at name (noted before) ≡ as_noted (new_one at before name)
by_name at before None = by (list_any (is_same_node None) before) refl
  where
    by : (t : Bool) → list_any (is_same_node None) before ≡ t
        → cond t (Err (stands_twice at (codes "default"))) (Ok (record (noted before) { has_default = true })) ≡ as_noted (cond t (Err (stands_twice at (codes "default"))) (Ok (before ++ None ∷ [])))
    by true h = refl
    by false h = ap (λ (x : NodeNames). Ok x) (sym (noted_last before None ∙ (λ i. record { named = append-nil (keyed_names before) i; has_default = or-true (list_any (is_same_node None) before) i })))
by_name at before (Some name) = by (value_at (lowered name) (keyed_names before)) refl
  where
    new_names : NodeNames
    new_names = record (noted before) { named = keyed_names before ++ (lowered name, true) ∷ [] }

    by : (o : Option Bool) → value_at (lowered name) (keyed_names before) ≡ o → cond (is_none o) (Ok new_names) (Err (stands_twice at name)) ≡ as_noted (new_one at before (Some name))
    by None h = ap (λ (x : NodeNames). Ok x) (sym (noted_last before (Some name) ∙ (λ i. record { named = keyed_names before ++ (lowered name, true) ∷ []; has_default = or-false (list_any (is_same_node None) before) i })))
        ∙ ap (λ t. as_noted (cond t (Err (stands_twice at name)) (Ok (before ++ Some name ∷ [])))) (sym (noted_is name before ∙ ap is_some h))
    by (Some b) h = ap (λ t. as_noted (cond t (Err (stands_twice at name)) (Ok (before ++ Some name ∷ [])))) (sym (noted_is name before ∙ ap is_some h))

-- Names are noted as far as they are new.
pub noted_new : (at : ℕ) (before names : List (Option (List ℕ))) → noted_all at names (noted before) ≡ as_noted (new_nodes at before names)
noted_new at before [] = refl
noted_new at before (name ∷ names) = ap (λ (r : Result NodeNames Refusal). r >>= noted_all at names) (by_name at before name) ∙ by (list_any (is_same_node name) before) (noted_new at (before ++ name ∷ []) names)
  where
    by : (t : Bool) → noted_all at names (noted (before ++ name ∷ [])) ≡ as_noted (new_nodes at (before ++ name ∷ []) names) → (as_noted (cond t (Err (stands_twice at (node_label name))) (Ok (before ++ name ∷ []))) >>= noted_all at names)
        ≡ as_noted (cond t (Err (stands_twice at (node_label name))) (new_nodes at (before ++ name ∷ []) names))
    by true h = refl
    by false h = h

-- one more block has its names behind the others
pub names_last : (nodes : List Node) (n : Node) → node_names (nodes ++ n ∷ []) ≡ node_names nodes ++ n.names
names_last [] n = append-nil n.names
names_last (m ∷ nodes) n = ap (λ names. m.names ++ names) (names_last nodes n) ∙ sym (append_assoc m.names (node_names nodes) n.names)

-- ---- the node's block

-- a node that has no block is refused where there are blocks
pub its_node_is : (site : Site) → with_its_node site ≡ cond (is_none (node_block site)) (cond (has_some site.nodes) (Err (refusal 31 0 site.node_name)) (Ok site)) (Ok site)
its_node_is site = by site.classes site.defined_types site.nodes site.node_name
  where
    by : (classes types : List Definition) (nodes : List Node) (name : List ℕ) →
        with_its_node (record { classes = classes; defined_types = types; nodes = nodes; node_name = name })
        ≡ cond (is_none (node_block (record { classes = classes; defined_types = types; nodes = nodes; node_name = name }))) (cond (has_some nodes) (Err (refusal 31 0 name)) (Ok (record { classes = classes; defined_types = types; nodes = nodes; node_name = name }))) (Ok (record { classes = classes; defined_types = types; nodes = nodes; node_name = name }))
    by classes types [] name = refl
    by classes types (n ∷ nodes) name = refl

-- nothing behind eight tests changes them
pub one_of_eight : (a b c d e f g h : Bool) → (a || (b || (c || (d || (e || (f || (g || h))))))) ≡ (a || (b || (c || (d || (e || (f || (g || (h || false))))))))
one_of_eight a b c d e f g h = λ i. a || (b || (c || (d || (e || (f || (g || sym (or-false h) i))))))

-- ---- gathering

-- a name that isn't taken has no definition
free_by : (o : Option Definition) (b : Bool) → (not (is_none o) || b) ≡ false → o ≡ None
free_by None b h = refl
free_by (Some d) b h = cc

-- what is told to be missing is
none_is : (o : Option Definition) → not (is_none o) ≡ false → o ≡ None
none_is None h = refl
none_is (Some d) h = cc

-- a name that isn't taken is no class
pub free_class : (site : Site) (name : List ℕ) → is_taken site name ≡ false → definition_of name site.classes ≡ None
free_class site name h = free_by (definition_of name site.classes) (is_defined name site.defined_types) h

-- nor a defined type
pub free_type : (site : Site) (name : List ℕ) → is_taken site name ≡ false → definition_of name site.defined_types ≡ None
free_type site name h = none_is (definition_of name site.defined_types) (or_right (is_defined name site.classes) (is_defined name site.defined_types) h)

module _ (at : ℕ) (names : List (Option (List ℕ))) (body : List Stmt) (site : Site) (taken : NodeNames) (is : taken ≡ noted (node_names site.nodes)) where
  -- names are noted as they are found new
  as_new : noted_all at names taken ≡ as_noted (new_nodes at (node_names site.nodes) names)
  as_new = ap (noted_all at names) is ∙ noted_new at (node_names site.nodes) names

  -- a refusal among the names is one of the block
  refused_by : (e : Refusal) (r : Result (List (Option (List ℕ))) Refusal) → as_noted r ≡ Err e → (r >>= λ all. Ok (with_node names body site)) ≡ Err e
  refused_by e (Ok all) h = cc
  refused_by e (Err d) h = cc

  -- a block with a name that stands already is refused
  pub node_refused : (e : Refusal) → noted_all at names taken ≡ Err e → node_gathered at names body site ≡ Err e
  node_refused e h = refused_by e (new_nodes at (node_names site.nodes) names) (sym as_new ∙ h)

  -- names that are all new make a block
  added_by : (new : NodeNames) (r : Result (List (Option (List ℕ))) Refusal) → as_noted r ≡ Ok new → (r >>= λ all. Ok (with_node names body site)) ≡ Ok (with_node names body site)
  added_by new (Ok all) h = refl
  added_by new (Err d) h = cc

  -- a block with new names is gathered
  pub node_added : (new : NodeNames) → noted_all at names taken ≡ Ok new → node_gathered at names body site ≡ Ok (with_node names body site)
  node_added new h = added_by new (new_nodes at (node_names site.nodes) names) (sym as_new ∙ h)

-- new names are noted behind those before
all_new : (at : ℕ) (before names : List (Option (List ℕ))) (new : NodeNames) → as_noted (new_nodes at before names) ≡ Ok new → noted (before ++ names) ≡ new
all_new at before [] new h = ap noted (append-nil before) ∙ same_names (noted before) new h
  where
    same_names : (x y : NodeNames) → ◌≡◌ {A = Result NodeNames Refusal} (Ok x) (Ok y) → x ≡ y
    same_names x y k = cc
all_new at before (name ∷ names) new h = by (list_any (is_same_node name) before) h (all_new at (before ++ name ∷ []) names new)
  where
    by : (t : Bool) → as_noted (cond t (Err (stands_twice at (node_label name))) (new_nodes at (before ++ name ∷ []) names)) ≡ Ok new
        → (as_noted (new_nodes at (before ++ name ∷ []) names) ≡ Ok new → noted ((before ++ name ∷ []) ++ names) ≡ new) → noted (before ++ name ∷ names) ≡ new
    by true k more = cc
    by false k more = ap noted (sym (append_assoc before (name ∷ []) names)) ∙ more k

-- with one more block the names that are noted are those of all
pub names_noted : (at : ℕ) (names : List (Option (List ℕ))) (body : List Stmt) (nodes : List Node) (taken new : NodeNames) → taken ≡ noted (node_names nodes)
    → noted_all at names taken ≡ Ok new → new ≡ noted (node_names (nodes ++ record { names = names; body = body } ∷ []))
names_noted at names body nodes taken new is h =
    sym (all_new at (node_names nodes) names new (sym (noted_new at (node_names nodes) names) ∙ (ap (noted_all at names) (sym is) ∙ h)))
    ∙ ap noted (sym (names_last nodes (record { names = names; body = body })))

-- ---- inheriting

-- no number is below 0
pub below_none : (n : ℕ) → nat_lt n 0 ≡ false
below_none n = by (nat_lt n 0) refl
  where
    by : (t : Bool) → nat_lt n 0 ≡ t → t ≡ false
    by true h = let less = ltb-true n 0 h in absurd (omega (arith, less))
    by false h = refl

-- one more on both sides changes nothing
both_next : (n m : ℕ) → nat_lt (suc n) (suc m) ≡ nat_lt n m
both_next n m = by (nat_lt (suc n) (suc m)) (nat_lt n m) refl refl
  where
    by : (t u : Bool) → nat_lt (suc n) (suc m) ≡ t → nat_lt n m ≡ u → t ≡ u
    by true true h k = refl
    by true false h k = let less = ltb-true (suc n) (suc m) h in let more = ltb-false n m k in absurd (omega (arith, less, more))
    by false true h k = let less = ltb-false (suc n) (suc m) h in let more = ltb-true n m k in absurd (omega (arith, less, more))
    by false false h k = refl

-- a chain of parents is longer than this where it goes on so far from the first
by_parent : (n : ℕ) (classes : List Definition) (d : Definition) (o : Option Definition)
    → ((p : Definition) → nat_lt n (length (line_of (suc n) classes (Some p))) ≡ goes_on n classes p)
    → nat_lt n (length (line_of (suc n) classes o)) ≡ if_some (goes_on n classes) o
by_parent n classes d None more = below_none n
by_parent n classes d (Some p) more = more p

-- so it is from a class
pub goes_far : (n : ℕ) (classes : List Definition) (d : Definition) → nat_lt n (length (line_of (suc n) classes (Some d))) ≡ goes_on n classes d
goes_far zero classes d = refl
goes_far (suc n) classes d = both_next n (length (line_of (suc n) classes (parent_in classes d))) ∙ by_parent n classes d (parent_in classes d) (goes_far n classes)

-- a class inherits itself exactly where its chain goes on for as many steps as there are classes
pub meets_itself : (classes : List Definition) (d : Definition) → inherits_itself classes d ≡ goes_on (length classes) classes d
meets_itself classes d = ap (λ n. nat_lt (length classes) (length (line_of n classes (Some d)))) (add-one (length classes)) ∙ goes_far (length classes) classes d

-- a chain goes on for so many steps where that of the parent does for one less
pub goes_further : (n : ℕ) (classes : List Definition) (d p : Definition) → 0 < n → parent_in classes d ≡ Some p → goes_on n classes d ≡ goes_on (n - 1) classes p
goes_further zero classes d p h k = absurd (never h)
  where
    never : 0 < 0 → ⊥
    never e = omega arith
goes_further (suc n) classes d p h k = ap (if_some (goes_on n classes)) k ∙ ap (λ m. goes_on m classes p) (sym (suc-sub-suc n 0 ∙ sub-zero n))

-- without a parent it goes on for none
pub ends_there : (n : ℕ) (classes : List Definition) (d : Definition) → 0 < n → parent_in classes d ≡ None → goes_on n classes d ≡ false
ends_there zero classes d h k = absurd (never h)
  where
    never : 0 < 0 → ⊥
    never e = omega arith
ends_there (suc n) classes d h k = ap (if_some (goes_on n classes)) k
