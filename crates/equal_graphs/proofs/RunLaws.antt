-- Two orders, each of programs of its own, tell the same from a tree and from its shadow over the domain of both.
use Rattle.std.proofs.Common.{◌≡◌, ◌≢◌, ℕ, ◌+◌, ◌<◌, map, List, [], ◌∷◌, ◌++◌, length, get_or, refl, sym, ap, ◌∙◌}
use Rattle.std.proofs.lemmas.List.{get_or_append_left, get_or-append-add}
use Rattle.std.specs.List.{AllByRecursion}
use Rattle.fs_semantics.specs.FileTree.{Tree, IsTree}
use Rattle.fs_semantics.specs.Programs.{Program, Id, and_then, run}
use Rattle.fs_semantics.specs.Orders.{outcome}
use Rattle.finite_domain.specs.Domains as over
use Rattle.finite_domain.specs.Domains.{IsDomain}
use Rattle.finite_domain.specs.Shadows.{IsOver, IsShadow, StandsFor}
use Rattle.finite_domain.specs.Layouts.{Layout, domain_of, IsLayout}
use Rattle.path_domain.specs.declared.listed.Domain.{Domain}
use Rattle.path_domain.specs.Laid.{layout_of}
use Rattle.order_encode.specs.Witnesses.{IsOverDomain}

-- what is known of layouts and of shadows
abbrev pub LaidOut : Type 0
LaidOut = (es : List Program) (l : Layout) → IsLayout es l → IsDomain es (domain_of l)

-- each file tree has a shadow over a domain of the programs
abbrev pub HaveShadows : Type 0
HaveShadows = (es : List Program) (d : over.Domain) → IsDomain es d → (t : Tree) → IsTree t → (m : List ℕ → List ℕ) × (s : Tree) × IsTree s × IsShadow es d m t s

-- a shadow stands for its tree
abbrev pub TellTheSame : Type 0
TellTheSame = (es : List Program) (d : over.Domain) → IsDomain es d → (m : List ℕ → List ℕ) (t s : Tree) → IsShadow es d m t s → StandsFor es s t

-- ---- an order of the one list, or of the other, is one of both together

-- an order of the first list ends the same among both lists
in_front : (es fs : List Program) (o : List ℕ) → AllByRecursion (λ k. k < length es) o → (t : Tree) → outcome (es ++ fs) o t ≡ outcome es o t
in_front es fs [] low t = refl
in_front es fs (i ∷ o) low t =
    ap (λ e. and_then (run e t) (outcome (es ++ fs) o)) (get_or_append_left es fs Id i low.0)
    ∙ ap (and_then (run (get_or es i Id) t)) (λ n u. in_front es fs o low.1 u n)

-- the same numbers, counted on from n
abbrev counted_on : ℕ → List ℕ → List ℕ
counted_on n p = map (λ i. n + i) p

-- an order of the second list, counted on behind the first, ends the same among both lists
behind : (es fs : List Program) (p : List ℕ) (t : Tree) → outcome (es ++ fs) (counted_on (length es) p) t ≡ outcome fs p t
behind es fs [] t = refl
behind es fs (i ∷ p) t =
    ap (λ e. and_then (run e t) (outcome (es ++ fs) (counted_on (length es) p))) (get_or-append-add es fs i Id)
    ∙ ap (and_then (run (get_or fs i Id) t)) (λ n u. behind es fs p u n)

-- ---- where they end differently, they do so from a tree over the domain

module _ (laid : LaidOut) (have : HaveShadows) (tell : TellTheSame) (es fs : List Program) (d : Domain) (is : IsLayout (es ++ fs) (layout_of d)) where
  -- orders of the two lists that end differently from a tree do so from one over the domain
  pub apart_over : (t : Tree) → IsTree t → (o p : List ℕ) → AllByRecursion (λ k. k < length es) o → outcome es o t ≢ outcome fs p t
      → (s : Tree) × IsTree s × IsOverDomain d s × (outcome es o s ≢ outcome fs p s)
  apart_over t tree o p low differ =
      let dom = laid (es ++ fs) (layout_of d) is in
      let shade = have (es ++ fs) (domain_of (layout_of d)) dom t tree in
      let s = shade.1 in
      let alike = (tell (es ++ fs) (domain_of (layout_of d)) dom shade.0 t s shade.3).alike o (counted_on (length es) p) in (
        s,
        shade.2,
        shade.3.over,
        (λ e. differ (sym (in_front es fs o low t) ∙ alike.1 (in_front es fs o low s ∙ e ∙ sym (behind es fs p s)) ∙ behind es fs p t)),
      )
