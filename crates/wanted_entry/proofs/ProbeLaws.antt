-- The shadow of a tree, over the domain of the programs and the probe, has the entry where the tree has.
use Rattle.std.proofs.Common.{◌≡◌, ℕ, ◌<◌, true, List, [], ◌∷◌, ◌++◌, length, get_or, Option, Some, None, inl, inr, refl, sym, ap, subst, ◌∙◌}
use Rattle.std.proofs.lemmas.List.{get_or_append_left}
use Rattle.std.specs.Prelude.{IsSome}
use Rattle.std.specs.List.{AllByRecursion}
use Rattle.std.specs.FinMap as map
use Rattle.fs_semantics.specs.FileTree.{Path, Entry, Folder, File, Link, Tree, IsTree, HasText}
use Rattle.fs_semantics.specs.Programs.{Program, Id, Outcome, and_then, run}
use Rattle.fs_semantics.specs.Orders.{outcome}
use Rattle.finite_domain.specs.Mentions.{Matter, At, Text, Mentions, AnyMentions}
use Rattle.finite_domain.specs.Domains.{Domain, is_known, IsDomain}
use Rattle.finite_domain.specs.Shadows.{IsOver, mapped, IsShadow, EndAsShadows}
use Rattle.finite_domain.proofs.Paths.{spoken_known}
use Rattle.wanted_entry.specs.declared.wanted.Wanted.{Wanted}
use Rattle.wanted_entry.specs.Entries.{HasEntry, EndsWithout, or_empty, probe_of}
use Rattle.fs_semantics.proofs.ConstructLaws.{split_then}

-- what is known of shadows
abbrev pub HaveShadows : Type 0
HaveShadows = (es : List Program) (d : Domain) → IsDomain es d → (t : Tree) → IsTree t → (m : List ℕ → List ℕ) × (s : Tree) × IsTree s × IsShadow es d m t s

-- programs end, from a tree and from its shadow, as shadows
abbrev pub RunAsShadows : Type 0
RunAsShadows = (es : List Program) (d : Domain) → IsDomain es d → (m : List ℕ → List ℕ) (t s : Tree) → IsShadow es d m t s
    → (i : ℕ) → EndAsShadows es d m t s (run (get_or es i Id) t) (run (get_or es i Id) s)

-- ---- a run of the programs, over the domain of these and more

module _ (es more : List Program) (d : Domain) (dom : IsDomain (es ++ more) d) (m : List ℕ → List ℕ) where
  -- the other ends in a tree, too, which is a shadow of this one
  abbrev EndsToo : Tree → Outcome → Type 0
  EndsToo u q = (v : Tree) × (q ≡ Some v) × IsShadow (es ++ more) d m u v

  -- what ends as a shadow of a run that ends in a tree ends in a shadow of that tree
  ended : (t s : Tree) (r q : Outcome) (u : Tree) → EndAsShadows (es ++ more) d m t s r q → r ≡ Some u → EndsToo u q
  ended t s None q u h e = cc
  ended t s (Some w) None u h e = absurd h
  ended t s (Some w) (Some v) u h e = let same : w ≡ u = cc in (v, refl, subst (λ x. IsShadow (es ++ more) d m x v) same h.shadow)

  -- a run of the programs ends from a shadow in a shadow of what it ends in
  run_too : RunAsShadows → (o : List ℕ) → AllByRecursion (λ k. k < length es) o → (t s u : Tree) → IsShadow (es ++ more) d m t s → outcome es o t ≡ Some u → EndsToo u (outcome es o s)
  run_too runs [] low t s u shadow h = let same : t ≡ u = cc in (s, refl, subst (λ x. IsShadow (es ++ more) d m x s) same shadow)
  run_too runs (i ∷ o) low t s u shadow h =
      let two = split_then (run (get_or es i Id) t) (outcome es o) u h in
      let here = get_or_append_left es more Id i low.0 in
      let step = subst (λ e. EndAsShadows (es ++ more) d m t s (run e t) (run e s)) here (runs (es ++ more) d dom m t s shadow i) in
      let one = ended t s (run (get_or es i Id) t) (run (get_or es i Id) s) two.0 step two.1 in
      let rest = run_too runs o low.1 two.0 one.0 u one.2 two.2 in
      (rest.0, ap (λ q. and_then q (outcome es o)) one.1 ∙ rest.1, rest.2)

-- ---- the entry

-- what the last program mentions one of all mentions
last_mentions : (es : List Program) (e : Program) (x : Matter) → Mentions e x → AnyMentions (es ++ e ∷ []) x
last_mentions [] e x h = inl h
last_mentions (f ∷ es) e x h = inr (last_mentions es e x h)

-- where an entry is that was mapped, one was
some_mapped : (m : List ℕ → List ℕ) (r : Option Entry) → IsSome (mapped m r) → IsSome r
some_mapped m None h = h
some_mapped m (Some x) h = refl

-- the entry that is mapped to a file is one
file_mapped : (m : List ℕ → List ℕ) (r : Option Entry) (content : List ℕ) → mapped m r ≡ Some (File content) → (c : List ℕ) × (r ≡ Some (File c)) × (m c ≡ content)
file_mapped m None content h = cc
file_mapped m (Some Folder) content h = cc
file_mapped m (Some (File c)) content h = (c, refl, cc)
file_mapped m (Some (Link c)) content h = cc

module _ (all : List Program) (d : Domain) (m : List ℕ → List ℕ) (u v : Tree) (shadow : IsShadow all d m u v) (p : Path) (known : is_known d p ≡ true) where
  -- an entry that the shadow has at a known path the tree has, where its content is one of the programs'
  had_too : (content : Option (List ℕ)) → AnyMentions all (Text (or_empty content)) → HasEntry v p content → HasEntry u p content
  had_too None mentioned h = some_mapped m (map.get u p) (subst IsSome (shadow.entries p known) h)
  had_too (Some content) mentioned h =
      let from = file_mapped m (map.get u p) content (sym (shadow.entries p known) ∙ h) in
      let held : HasText (map.get u p) from.0 = subst (λ r. HasText r from.0) (sym from.1) refl in
      let same = shadow.one_to_one from.0 content (inr (p, known, held)) (inl mentioned) (from.2 ∙ sym (shadow.constants content mentioned)) in
      from.1 ∙ ap (λ c. Some (File c)) same

-- where a run ends without the entry, one does so from a tree over the domain of the programs and the probe
pub without_over : HaveShadows → RunAsShadows → (es : List Program) (w : Wanted) (d : Domain) → IsDomain (es ++ probe_of w ∷ []) d → (before : ℕ → ℕ → Type 0) (t : Tree) (o : List ℕ)
    → EndsWithout es before w t o → (s : Tree) × IsOver d s × EndsWithout es before w s o
without_over have runs es w d dom before t o e =
    let probe = probe_of w in
    let all = es ++ probe ∷ [] in
    let shade = have all d dom t e.is_tree in
    let end = run_too es (probe ∷ []) d dom shade.0 runs o e.allowed.below t shade.1 e.after shade.3 e.ends in
    let known = spoken_known all d dom w.path (inl (last_mentions es probe (At w.path) (inl refl))) in
    let mentioned = last_mentions es probe (Text (or_empty w.content)) (inr refl) in (
      shade.1,
      shade.3.over,
      record {
        is_tree = shade.2;
        allowed = e.allowed;
        after = end.0;
        ends = end.1;
        misses = λ h. e.misses (had_too all d shade.0 e.after end.0 end.2 w.path known w.content mentioned h);
      },
    )
