-- One run and two, behind the guard: they end differently just where the first ends in a tree that the second doesn't leave as it is.
use Rattle.std.proofs.Common.{◌≡◌, ◌≢◌, ◌↔◌, ◌⊎◌, inl, inr, ℕ, Bool, ◌<◌, List, [], ◌∷◌, ◌++◌, ◌+◌, length, map, arith, sym, ap, subst, ◌∙◌}
use Rattle.std.specs.List.{AllByRecursion}
use Rattle.fs_semantics.specs.FileTree.{Path, Tree, IsTree}
use Rattle.fs_semantics.specs.Programs.{Program, and_then}
use Rattle.fs_semantics.specs.Orders.{Told, IsLinearExtension, outcome}
use Rattle.fs_semantics.proofs.Counts.{all_append}
use Rattle.fs_semantics.proofs.Commuting.{outcome-append}
use Rattle.finite_domain.specs.Domains as over
use Rattle.finite_domain.specs.Domains.{IsDomain}
use Rattle.finite_domain.specs.Shadows.{IsShadow, StandsFor}
use Rattle.finite_domain.specs.Layouts.{Layout, domain_of, IsLayout}
use Rattle.path_domain.specs.declared.listed.Domain.{Domain}
use Rattle.path_domain.specs.Laid.{layout_of}
use Rattle.given_hosts.specs.Given.{Stand}
use Rattle.given_hosts.specs.Guard.{guarded}
use Rattle.std.proofs.lemmas.List.{length-map}
use Rattle.fs_lang.specs.Meaning.{program_of}
use Rattle.fs_lang.specs.declared.program.Program.{Program as Code}
use Rattle.given_hosts.proofs.GraphLaws.{longer}
use Rattle.given_hosts.proofs.GuardLaws.{stand_told, ends_where_stand, fails_elsewhere}
use Rattle.orders.specs.Relation.{Relation, Comes}
use Rattle.cnf.specs.Formulas.{Formula, IsSatisfiable}
use Rattle.proof_check.specs.Refuted.{HasNoModel}
use Rattle.order_encode.specs.Witnesses.{IsOverDomain, IsFirstExtension}
use Rattle.order_encode.specs.Parting.{HaveParting, ShowsParting}
use Rattle.order_encode.specs.declared.witness.Witness.{Witness}
use Rattle.order_encode.specs.declared.witness.Witness.TheVariants as witness
use Rattle.order_encode.proofs.WitnessLaws.{Long, first_same}
use Rattle.given_verdict.proofs.AskedLaws.{layout_of_guarded}
use Rattle.given_verdict.specs.Second.{IsChangedFrom, HasChangeFrom, StatesSecondFrom, NeverChangedFrom, IsSecondChangeFrom, IsChangeTree, IsOfEnd, IsWithFirst}
use Rattle.given_verdict.proofs.BehindLaws.{ended}

-- a layout of programs gives a domain of them
abbrev pub LaidOut : Type 0
LaidOut = (es : List Program) (l : Layout) → IsLayout es l → IsDomain es (domain_of l)

-- each file tree has a shadow over a domain of the programs
abbrev pub HaveShadows : Type 0
HaveShadows = (es : List Program) (d : over.Domain) → IsDomain es d → (t : Tree) → IsTree t → (m : List ℕ → List ℕ) × (s : Tree) × IsTree s × IsShadow es d m t s

-- a shadow stands for its tree
abbrev pub TellTheSame : Type 0
TellTheSame = (es : List Program) (d : over.Domain) → IsDomain es d → (m : List ℕ → List ℕ) (t s : Tree) → IsShadow es d m t s → StandsFor es s t

module _ (given : List Path) (es : List Program) (order : Relation) (long : length es ≡ order.count) (first : List ℕ) (is_first : IsFirstExtension order first) where
  -- one run in the first extension, behind the guard
  abbrev once : List ℕ
  once = length es ∷ first

  -- two runs in it, behind the guard
  abbrev twice : List ℕ
  twice = length es ∷ (first ++ first)

  -- the first extension is an allowed order
  allowed : IsLinearExtension (length es) (Comes order) first
  allowed = subst (λ n. IsLinearExtension n (Comes order) first) (sym long) is_first.allowed

  -- where the given folders stand, one run behind the guard ends as it does without it
  after_once : (t : Tree) → Stand given t → outcome (guarded given es) (length es ∷ first) t ≡ outcome es first t
  after_once t h = ends_where_stand given es first t allowed.below h

  -- and two runs end as the second does from what the first left
  after_twice : (t : Tree) → Stand given t → outcome (guarded given es) (length es ∷ (first ++ first)) t ≡ and_then (outcome es first t) (outcome es first)
  after_twice t h =
      ends_where_stand given es (first ++ first) t (all_append (λ k. k < length es) first first allowed.below allowed.below) h ∙ outcome-append es first first t

  -- where one run and two end differently behind the guard, the second changes something
  changed : (t : Tree) → IsTree t → outcome (guarded given es) (length es ∷ first) t ≢ outcome (guarded given es) (length es ∷ (first ++ first)) t → IsChangedFrom given es order t first
  changed t tree differ = elim (stand_told given t) [
    | inl g ↦ elim (ended (outcome es first t)) [
      | inl none ↦ absurd (differ (after_once t g ∙ none ∙ sym (after_twice t g ∙ ap (λ r. and_then r (outcome es first)) none)))
      | inr some ↦ record {
        is_first = is_first;
        shows = record {
          stand = g;
          shows = record {
            is_tree = tree;
            allowed = allowed;
            after = some.0;
            ends = some.1;
            changes = λ e. differ (after_once t g ∙ some.1 ∙ sym (after_twice t g ∙ ap (λ r. and_then r (outcome es first)) some.1 ∙ e));
          };
        };
      }
    ]
    | inr n ↦ absurd (differ (fails_elsewhere given es first t n ∙ sym (fails_elsewhere given es (first ++ first) t n)))
  ]

  -- and where it changes something they end differently
  differs : (t : Tree) → IsChangedFrom given es order t first → outcome (guarded given es) (length es ∷ first) t ≢ outcome (guarded given es) (length es ∷ (first ++ first)) t
  differs t c e =
      let g = c.shows.stand in
      let u = c.shows.shows.after in
      c.shows.shows.changes (sym (ap (λ r. and_then r (outcome es first)) c.shows.shows.ends) ∙ sym (after_twice t g) ∙ sym e ∙ after_once t g ∙ c.shows.shows.ends)

  -- a witness of one run and two that end differently has a tree from which the second changes something
  pub shown : (d : Domain) (o p : List ℕ) → o ≡ length es ∷ first → p ≡ length es ∷ (first ++ first) → (w : Witness) → ShowsParting (guarded given es) o (guarded given es) p d w → IsChangeTree given es order w
  shown d o p e f (witness.Orders tree left right) h = absurd h
  shown d o p e f (witness.Twice tree q) h = absurd h
  shown d o p e f (witness.Ends tree q) h =
      (first, changed tree h.is_tree (λ k. h.differ (ap (λ x. outcome (guarded given es) x tree) e ∙ k ∙ sym (ap (λ x. outcome (guarded given es) x tree) f))))

  module _ (laid : LaidOut) (have : HaveShadows) (tell : TellTheSame) where
    -- a tree over the domain from which one run and two end differently
    record IsFound (d : Domain) : Type 0 where
      pub tree : Tree
      pub is_tree : IsTree tree
      pub over : IsOverDomain d tree
      pub differ : outcome (guarded given es) (length es ∷ first) tree ≢ outcome (guarded given es) (length es ∷ (first ++ first)) tree

    -- where they end differently from any tree, they do so from one over the domain
    over_it : (d : Domain) → IsLayout (guarded given es) (layout_of d) → (t : Tree) → IsTree t
        → outcome (guarded given es) (length es ∷ first) t ≢ outcome (guarded given es) (length es ∷ (first ++ first)) t → IsFound d
    over_it d is t tree differ =
        let dom = laid (guarded given es) (layout_of d) is in
        let s = have (guarded given es) (domain_of (layout_of d)) dom t tree in
        let same = tell (guarded given es) (domain_of (layout_of d)) dom s.0 t s.1 s.3 in
        record { tree = s.1; is_tree = s.2; over = s.3.over; differ = λ e. differ ((same.alike (length es ∷ first) (length es ∷ (first ++ first))).1 e) }

    module _ (alone : Long) (d : Domain) (is : IsLayout (guarded given es) (layout_of d)) (o p : List ℕ) (one : o ≡ length es ∷ first) (two : p ≡ length es ∷ (first ++ first)) (f : Formula)
        (exact : IsSatisfiable f ↔ HaveParting (guarded given es) o (guarded given es) p d) where
      -- where the two orders end differently, so do one run and two
      apart_to : (t : Tree) → outcome (guarded given es) o t ≢ outcome (guarded given es) p t → outcome (guarded given es) (length es ∷ first) t ≢ outcome (guarded given es) (length es ∷ (first ++ first)) t
      apart_to t n e = n (ap (λ x. outcome (guarded given es) x t) one ∙ e ∙ sym (ap (λ x. outcome (guarded given es) x t) two))

      -- and where one run and two end differently, so do the two orders
      apart_back : (t : Tree) → outcome (guarded given es) (length es ∷ first) t ≢ outcome (guarded given es) (length es ∷ (first ++ first)) t → outcome (guarded given es) o t ≢ outcome (guarded given es) p t
      apart_back t n e = n (sym (ap (λ x. outcome (guarded given es) x t) one) ∙ e ∙ ap (λ x. outcome (guarded given es) x t) two)

      -- where they end differently from any tree, the formula can be true
      satisfied : (t : Tree) → IsTree t → outcome (guarded given es) (length es ∷ first) t ≢ outcome (guarded given es) (length es ∷ (first ++ first)) t → IsSatisfiable f
      satisfied t tree n = let s = over_it d is t tree n in exact.1 (record { tree = s.tree; parts = record { is_tree = s.is_tree; over = s.over; differ = apart_back s.tree s.differ } })

      -- what is changed in a first extension is changed in this one
      mine : (t : Tree) (other : List ℕ) → IsChangedFrom given es order t other → IsChangedFrom given es order t first
      mine t other c = subst (IsChangedFrom given es order t) (first_same alone order other first c.is_first is_first) c

      -- the formula states whether a second run in the first extension changes anything
      pub states : given ≢ [] → StatesSecondFrom given es order f
      states some e lay = (
        (λ h.
            let m = exact.0 h in
            let s = over_it e (layout_of_guarded given es some (layout_of e) lay) m.tree m.parts.is_tree (apart_to m.tree m.parts.differ) in
            record { tree = s.tree; first = first; over = s.over; changed = changed s.tree s.is_tree s.differ }),
        (λ w. satisfied w.tree w.changed.shows.shows.is_tree (differs w.tree (mine w.tree w.first w.changed))),
      )

      -- and where it has no model no such run changes anything
      pub never : HasNoModel f → NeverChangedFrom given es order
      never no_model t other c = let v = satisfied t c.shows.shows.is_tree (differs t (mine t other c)) in no_model v.0 v.1

-- ---- the numbers of runs are those of programs

-- numbers below a count are below the next one
one_more : (n : ℕ) (o : List ℕ) → AllByRecursion (λ k. k < n) o → AllByRecursion (λ k. k < n + 1) o
one_more n [] h = tt
one_more n (k ∷ o) h = let low : k < n = h.0 in (omega arith, one_more n o h.1)

-- with the guard there is one program more
as_many : (given : List Path) (es : List Program) (fs : List Code) → map program_of fs ≡ guarded given es → length es + 1 ≡ length fs
as_many given es fs are = sym (longer given es) ∙ sym (ap length are) ∙ length-map fs program_of

-- the numbers of a run with the guard in front are those of programs with the guard
run_below : (given : List Path) (es : List Program) (fs : List Code) → map program_of fs ≡ guarded given es → (run o : List ℕ) → AllByRecursion (λ k. k < length es) run → o ≡ length es ∷ run
    → AllByRecursion (λ k. k < length fs) o
run_below given es fs are run o below is =
    subst (λ n. AllByRecursion (λ k. k < n) o) (as_many given es fs are) (subst (AllByRecursion (λ k. k < length es + 1)) (sym is) (omega arith, one_more (length es) run below))

-- the numbers of one run behind the guard are those of programs with the guard
pub once_below : (given : List Path) (es : List Program) (order : Relation) → length es ≡ order.count → (first : List ℕ) → IsFirstExtension order first → (fs : List Code) → map program_of fs ≡ guarded given es
    → (o : List ℕ) → o ≡ length es ∷ first → AllByRecursion (λ k. k < length fs) o
once_below given es order long first is fs are o = run_below given es fs are first o (allowed given es order long first is).below

-- and so are the numbers of two runs behind it
pub twice_below : (given : List Path) (es : List Program) (order : Relation) → length es ≡ order.count → (first : List ℕ) → IsFirstExtension order first → (fs : List Code) → map program_of fs ≡ guarded given es
    → (o : List ℕ) → o ≡ length es ∷ (first ++ first) → AllByRecursion (λ k. k < length fs) o
twice_below given es order long first is fs are o =
    let low = (allowed given es order long first is).below in
    run_below given es fs are (first ++ first) o (all_append (λ k. k < length es) first first low low)

-- a witness whose tree shows a change has a tree alone
pub of_end : (given : List Path) (es : List Program) (order : Relation) (w : Witness) → IsChangeTree given es order w → IsOfEnd w
of_end given es order (witness.Orders tree left right) h = h
of_end given es order (witness.Twice tree o) h = h
of_end given es order (witness.Ends tree o) h = tt

-- its tree, with the first extension, shows a second run that changes something
pub with_it : (given : List Path) (es : List Program) (order : Relation) → Long → (w v : Witness) → IsChangeTree given es order w → IsWithFirst order w v → IsSecondChangeFrom given es order v
with_it given es order alone (witness.Orders tree left right) v h k = absurd h
with_it given es order alone (witness.Twice tree o) v h k = absurd h
with_it given es order alone (witness.Ends tree o) v h k =
    subst (IsSecondChangeFrom given es order) (sym k.2) (subst (IsChangedFrom given es order tree) (first_same alone order h.0 k.0 h.1.is_first k.1) h.1)
