-- The paths of a domain: the known ones have known parents, the fresh ones aren't known.
use Rattle.std.proofs.Common.{◌≡◌, ◌≢◌, true, false, List, [], ◌∷◌, ◌++◌, inl, inr, refl, sym, ap, subst, ◌∙◌, append_assoc, append-nil}
use Rattle.std.proofs.lemmas.Bool.{or_cases, or_right, false_from_ne_true}
use Rattle.fs_semantics.specs.FileTree.{Segment, Path, parent, is_root, is_among}
use Rattle.fs_semantics.specs.Programs.{Program}
use Rattle.fs_semantics.proofs.Trees.{parent_above}
use Rattle.finite_domain.specs.Domains.{SpeakOf, IsNamed, Domain, is_known, IsDomain}

-- the parent of a path with one segment more is that path
pub parent_child : (p : Path) (s : Segment) → parent (p ++ s ∷ []) ≡ p
parent_child [] s = refl
parent_child (r ∷ []) s = refl
parent_child (r ∷ q ∷ p) s = ap (λ x. r ∷ x) (parent_child (q ∷ p) s)

-- a path with one segment more isn't the root
pub child_no_root : (p : Path) (s : Segment) → is_root (p ++ s ∷ []) ≡ false
child_no_root [] s = refl
child_no_root (r ∷ p) s = refl

module _ (es : List Program) (d : Domain) (dom : IsDomain es d) where
  -- the root and the named paths are known
  known : (p : Path) → (p ≢ [] → IsNamed es p) → is_known d p ≡ true
  known [] h = refl
  known (s ∷ p) h = (dom.named (s ∷ p)).1 (h (λ e. cc))

  -- a path of which the programs speak is known
  pub spoken_known : (p : Path) → SpeakOf es p → is_known d p ≡ true
  spoken_known p h = known p (λ n. record { not_root = n; more = []; spoken = subst (SpeakOf es) (sym (append-nil p)) h })

  -- the parent of a known path is known
  pub parent_known : (p : Path) → is_known d p ≡ true → is_known d (parent p) ≡ true
  parent_known [] h = refl
  parent_known (s ∷ p) h =
      let name = (dom.named (s ∷ p)).0 h in
      let up = parent_above s p in
      known (parent (s ∷ p)) (λ n. record {
        not_root = n;
        more = up.0 ++ name.more;
        spoken = subst (SpeakOf es) (ap (λ r. r ++ name.more) up.2 ∙ append_assoc (parent (s ∷ p)) up.0 name.more) name.spoken;
      })

  -- a named path is known
  pub named_known : (p : Path) → is_among p d.named ≡ true → is_known d p ≡ true
  named_known p h = or_right (is_root p) (is_among p d.named) h

  -- a child with the unused segment isn't known
  pub child_unknown : (p : Path) → is_known d (p ++ dom.other ∷ []) ≡ false
  child_unknown p = false_from_ne_true _ (λ h. elim (or_cases (is_root (p ++ dom.other ∷ [])) (is_among (p ++ dom.other ∷ []) d.named) h) [
    | inl root ↦ let no : ◌≡◌ true false = sym root ∙ child_no_root p dom.other in cc
    | inr among ↦
        let name = (dom.named (p ++ dom.other ∷ [])).0 among in
        dom.unused p name.more (subst (SpeakOf es) (append_assoc p (dom.other ∷ []) name.more) name.spoken)
  ])

  -- no fresh child is known
  pub fresh_unknown : (q : Path) → is_among q d.fresh ≡ true → is_known d q ≡ false
  fresh_unknown q h = let f = (dom.fresh q).0 h in ap (is_known d) f.2 ∙ child_unknown f.0
