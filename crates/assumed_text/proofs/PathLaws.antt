-- Paths of which none stands twice.
use Rattle.std.proofs.Common.{◌≡◌, ◌↔◌, ◌≤◌, Bool, true, false, cond, not, ◌&&◌, nat_le, List, [], ◌∷◌, ◌++◌, length, append_assoc, append-nil, Option, Some, None, refl, sym, ap, subst, ◌∙◌, leb-true}
use Rattle.std.proofs.lemmas.Bool.{le-leb}
use Rattle.rh_base.specs.Reading.{◌>>=◌}
use Rattle.fs_semantics.specs.FileTree.{Path, is_among}
use Rattle.pkg_listing.specs.Packages.{are_new, stand_once, AreApart}
use Rattle.assumed_text.specs.declared.assumed.Behavior.{Behavior}
use Rattle.assumed_text.specs.declared.assumed.TheConstants.{BEHAVIOR_PATHS}
use Rattle.assumed_text.specs.Assumptions.{paths_of}
use Rattle.assumed_text.specs.Reading.{with_new, all_paths, if_fit}
use Rattle.rh_base.proofs.Options.{bind_some, if_some, bind_goes}
use Rattle.std.proofs.lemmas.Option.{same_Some}

-- no path stands twice exactly where each differs from those behind it
abbrev pub OnceWhere : Type 0
OnceWhere = (ps : List Path) → (stand_once ps ≡ true) ↔ AreApart ps

-- two steps that are the same behind each value are the same
bind_same : {X Y : Type 0} (o : Option X) (f g : X → Option Y) → ((x : X) → f x ≡ g x) → (o >>= f) ≡ (o >>= g)
bind_same None f g h = refl
bind_same (Some x) f g h = h x

-- ---- some paths, and then others

-- two lists are new behind some paths where the first is, and the second is behind that
new_append : (seen ps qs : List Path) → with_new seen (ps ++ qs) ≡ (with_new seen ps >>= (λ s. with_new s qs))
new_append seen [] qs = refl
new_append seen (p ∷ ps) qs = at (is_among p seen) (new_append (seen ++ p ∷ []) ps qs)
  where
    at : (t : Bool) → with_new (seen ++ p ∷ []) (ps ++ qs) ≡ (with_new (seen ++ p ∷ []) ps >>= (λ s. with_new s qs))
        → cond t None (with_new (seen ++ p ∷ []) (ps ++ qs)) ≡ (cond t None (with_new (seen ++ p ∷ []) ps) >>= (λ s. with_new s qs))
    at true h = refl
    at false h = h

-- the paths of a behavior are new part by part exactly where they are all together
all_is : (b : Behavior) → all_paths b ≡ with_new [] (paths_of b)
all_is b = sym (
    new_append [] b.needs (b.folders ++ (b.makes ++ (b.edits ++ b.removes)))
    ∙ bind_same (with_new [] b.needs) (λ s. with_new s (b.folders ++ (b.makes ++ (b.edits ++ b.removes)))) (λ s. with_new s b.folders >>= (λ s. with_new s b.makes >>= (λ s. with_new s b.edits >>= (λ s. with_new s b.removes)))) (λ s.
    new_append s b.folders (b.makes ++ (b.edits ++ b.removes))
    ∙ bind_same (with_new s b.folders) (λ s. with_new s (b.makes ++ (b.edits ++ b.removes))) (λ s. with_new s b.makes >>= (λ s. with_new s b.edits >>= (λ s. with_new s b.removes))) (λ s.
    new_append s b.makes (b.edits ++ b.removes)
    ∙ bind_same (with_new s b.makes) (λ s. with_new s (b.edits ++ b.removes)) (λ s. with_new s b.edits >>= (λ s. with_new s b.removes)) (λ s. new_append s b.edits b.removes))))

-- paths that are new come behind those that were seen
new_is : (seen ps : List Path) → with_new seen ps ≡ cond (are_new seen ps) (Some (seen ++ ps)) None
new_is seen [] = ap (λ (l : List Path). Some l) (sym (append-nil seen))
new_is seen (p ∷ ps) = at (is_among p seen) (new_is (seen ++ p ∷ []) ps)
  where
    whole : cond (are_new (seen ++ p ∷ []) ps) (Some ((seen ++ p ∷ []) ++ ps)) None ≡ cond (are_new (seen ++ p ∷ []) ps) (Some (seen ++ p ∷ ps)) None
    whole = ap (λ (l : List Path). cond (are_new (seen ++ p ∷ []) ps) (Some l) None) (append_assoc seen (p ∷ []) ps)

    at : (t : Bool) → with_new (seen ++ p ∷ []) ps ≡ cond (are_new (seen ++ p ∷ []) ps) (Some ((seen ++ p ∷ []) ++ ps)) None
        → cond t None (with_new (seen ++ p ∷ []) ps) ≡ cond (not t && are_new (seen ++ p ∷ []) ps) (Some (seen ++ p ∷ ps)) None
    at true h = refl
    at false h = h ∙ whole

-- ---- behaviors that are fit

-- a behavior that passes as fit is itself, and its paths stand once and are few
pub fit_is : OnceWhere → (b c : Behavior) → if_fit b ≡ Some c → (b ≡ c) × AreApart (paths_of b) × (length (paths_of b) ≤ BEHAVIOR_PATHS)
fit_is once b c h =
    let paths = bind_some (all_paths b) (λ (ps : List Path). cond (nat_le (length ps) BEHAVIOR_PATHS) (Some b) None) c h in
    let few = if_some (nat_le (length paths.0) BEHAVIOR_PATHS) (Some b) c paths.2 in
    let new = if_some (are_new [] (paths_of b)) (Some (paths_of b)) paths.0 (sym (all_is b ∙ new_is [] (paths_of b)) ∙ paths.1) in
    let same : paths_of b ≡ paths.0 = same_Some (paths_of b) paths.0 new.1 in (
      same_Some b c few.1,
      (once (paths_of b)).0 new.0,
      subst (λ (ps : List Path). length ps ≤ BEHAVIOR_PATHS) (sym same) (leb-true (length paths.0) BEHAVIOR_PATHS few.0),
    )

-- and one whose paths do passes
pub fit_back : OnceWhere → (b : Behavior) → AreApart (paths_of b) → length (paths_of b) ≤ BEHAVIOR_PATHS → if_fit b ≡ Some b
fit_back once b apart few =
    bind_goes (all_paths b) (λ (ps : List Path). cond (nat_le (length ps) BEHAVIOR_PATHS) (Some b) None) (paths_of b)
    (all_is b ∙ (new_is [] (paths_of b) ∙ ap (λ t. cond t (Some (paths_of b)) None) ((once (paths_of b)).1 apart)))
    ∙ ap (λ t. cond t (Some b) None) (le-leb (length (paths_of b)) BEHAVIOR_PATHS few)
