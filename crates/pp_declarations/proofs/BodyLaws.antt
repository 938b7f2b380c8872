-- A class's body, from its beginning to its end, and the parents that run before it.
use Rattle.std.proofs.Common.{◌≡◌, ℕ, ◌+◌, ◌-◌, ◌<◌, Bool, true, false, cond, ◌&&◌, List, [], ◌∷◌, ◌++◌, map, length, Option, Some, None, Result, Ok, Err, refl, sym, ap, subst, ◌∙◌, arith, length-append, get_or, drop}
use Rattle.std.specs.Prelude.{slice_get, option_and_then, codes, nat_lt}
use Rattle.std.proofs.lemmas.Bool.{ltb-true}
use Rattle.rh_base.specs.declared.fault.Fault.{Fault}
use Rattle.rh_base.specs.declared.fault.Fault.TheVariants as fault
use Rattle.rh_base.specs.declared.fault.Refusal.{Refusal}
use Rattle.pp_syntax.specs.declared.tree.Stmt.{Stmt}
use Rattle.pp_syntax.specs.declared.tree.Body.{Body}
use Rattle.pp_value.specs.declared.value.Ref.{Ref}
use Rattle.pp_value.specs.Shown.{shown_ref}
use Rattle.pp_value.specs.Values.{Pair}
use Rattle.pp_eval.specs.declared.scope.Scope.{Scope}
use Rattle.pp_eval.specs.Evaluating.{◌>>=◌, refusal, Refuses}
use Rattle.pp_eval.specs.Growing.{inner_stays}
use Rattle.pp_eval.specs.Scoping.{Scoped, entered, left as left_scope, class_scope, current_scope, IsInner, IsInnerSort}
use Rattle.catalog_semantics.specs.declared.catalog.Resource.{Resource}
use Rattle.catalog_semantics.specs.declared.state.State.{State}
use Rattle.catalog_semantics.specs.Sites.{Definition, Site}
use Rattle.catalog_semantics.specs.States.{Effect, in_turn, is_declared, added}
use Rattle.catalog_semantics.specs.Declaring.{Bodies, body_in, all_known, opened, begun, ended, body_begins, class_runs, class_resource, class_named, no_circle, parents_of, class_declared, body_declared, bodies_declared}
use Rattle.catalog_semantics.specs.declared.room.Room.{Room}
use Rattle.catalog_semantics.specs.Rooms.{block_depth, in_body, has_room_for}
use Rattle.catalog_semantics.specs.Effects.{effect_at, bodies_at}
use Rattle.catalog_semantics.proofs.Statements.{body_runs_in}
use Rattle.catalog_semantics.proofs.Extending.{blocks_only_add, openings_only_add}
use Rattle.pp_declared_bodies.specs.Bodies.{declared_behind}
use Rattle.pp_declared_bodies.proofs.BodyLaws as declaring
use Rattle.pp_declared_bodies.specs.Beginning.{may_begin, class_added, class_begins, body_ends}
use Rattle.pp_declared_bodies.specs.Parents.{nearest_first, backwards, turned}
use Rattle.pp_declared_bodies.proofs.BeginningLaws.{class_is}
use Rattle.pp_declared_bodies.proofs.ParentLaws.{from_the_top}
use Rattle.pp_declarations.specs.Classes.{parent_runs, parents_run}
use Rattle.rh_base.proofs.Lists.{drop_step}

-- equal results have equal states
pub same_state : (s t : State) → ◌≡◌ {A = Result State Refusal} (Ok s) (Ok t) → s ≡ t
same_state s t h = cc

-- what goes last stands at the number of those before it
pub got_last : {X : Type 0} (front : List X) (x : X) → slice_get (front ++ x ∷ []) (length front) ≡ Some x
got_last [] x = refl
got_last (y ∷ front) x = got_last front x

-- ---- where no more bodies may run

module _ (d : Definition) (r : Resource) (s : State) where
  -- how the class's body begins in a state
  abbrev begins_in : State → Result State Refusal
  begins_in t = body_begins d (length s.resources) r (class_scope t.scopes.0 d.name d.parent) t

  -- a class that may not run is refused, as one that stands already or for want of room
  none_by : (added_so : Result State Refusal) (b : Bool) → (cond b (Err (refusal 24 r.at (shown_ref r.id))) (Ok s) >>= λ _. Err (refusal 32 r.at (codes "declared")))
      ≡ ((cond b (Err (refusal 24 r.at (shown_ref r.id))) (Ok s) >>= λ _. may_begin r.at false s >>= λ _. added_so) >>= begins_in)
  none_by added_so true = refl
  none_by added_so false = refl

  -- so it begins as one without room does
  none_runs : class_runs None d r s ≡ class_begins false d r s
  none_runs = none_by (added r s) (is_declared r.id s)

  -- such a class never begins
  never_by : (t : State) (b : Bool) → ((cond b (Err (refusal 24 r.at (shown_ref r.id))) (Ok s) >>= λ _. may_begin r.at false s >>= λ _. added r s) >>= begins_in) ≡ Ok t → ⊥
  never_by t true h = cc
  never_by t false h = cc

  -- a class without room never begins
  pub never_begins : (t : State) → class_begins false d r s ≡ Ok t → ⊥
  never_begins t h = never_by t (is_declared r.id s) h

-- ---- the whole

module _ (site : Site) (d : Definition) (r : Resource) (s : State) where
  -- the class, where there is so much room
  abbrev runs_in : Room → Result State Refusal
  runs_in left = class_runs (body_in (bodies_at left site) d.body) d r s

  -- it runs with what is left within it, or not at all
  by_room : (left : Room) (b : Bool) → has_room_for left d.body ≡ b → runs_in left ≡ class_runs (cond b (Some (effect_at (in_body left) site)) None) d r s
  by_room left b is = ap (λ (run : Option (Stmt → Effect)). class_runs run d r s) (body_runs_in left site d.body ∙ ap (λ (t : Bool). cond t (Some (effect_at (in_body left) site)) None) is)

  -- where there is room, it begins and runs to its end
  runs_on : (left : Room) → has_room_for left d.body ≡ true → runs_in left ≡ (class_begins true d r s >>= body_ends (effect_at (in_body left) site) d s.running)
  runs_on left h = by_room left true h ∙ class_is (effect_at (in_body left) site) d r s

  -- where there is none, it begins without room
  no_bodies : (left : Room) → has_room_for left d.body ≡ false → runs_in left ≡ class_begins false d r s
  no_bodies left h = by_room left false h ∙ none_runs d r s

  -- a class that doesn't begin is refused so
  pub not_begun : (left : Room) (e : Refusal) (may : Bool) → may ≡ has_room_for left d.body → class_begins may d r s ≡ Err e → runs_in left ≡ Err e
  not_begun left e true is h = runs_on left (sym is) ∙ ap (λ (x : Result State Refusal). x >>= body_ends (effect_at (in_body left) site) d s.running) h
  not_begun left e false is h = no_bodies left (sym is) ∙ h

  -- a statement of its body that is refused refuses it
  pub body_refused : (left : Room) (t : State) (e : Refusal) → has_room_for left d.body ≡ true → class_begins true d r s ≡ Ok t → in_turn (map (effect_at (in_body left) site) d.body) t ≡ Err e → runs_in left ≡ Err e
  body_refused left t e h k b =
      runs_on left h ∙ (ap (λ (x : Result State Refusal). x >>= body_ends (effect_at (in_body left) site) d s.running) k
      ∙ ap (λ (x : Result State Refusal). x >>= λ u. Ok (ended (record t { running = s.running }) u)) b)

  -- a body that runs to its end leaves what ran before running, in its scope
  pub body_ended : (left : Room) (t u : State) → has_room_for left d.body ≡ true → class_begins true d r s ≡ Ok t → in_turn (map (effect_at (in_body left) site) d.body) t ≡ Ok u
      → runs_in left ≡ Ok (record u { running = s.running; scopes = left_scope u.scopes })
  body_ended left t u h k b =
      runs_on left h ∙ (ap (λ (x : Result State Refusal). x >>= body_ends (effect_at (in_body left) site) d s.running) k
      ∙ ap (λ (x : Result State Refusal). x >>= λ w. Ok (ended (record t { running = s.running }) w)) b)

module _ (left : Room) (site : Site) (d : Definition) (r q : Resource) (s : State) (same : r ≡ q) where
  -- a refusal of the beginning is one of the class
  pub begin_refused : (may : Bool) (body : List Stmt) (e : Fault) → body ≡ d.body → may ≡ has_room_for left body → Refuses (class_begins may d r s) e → Refuses (class_runs (body_in (bodies_at left site) d.body) d q s) e
  begin_refused may body (fault.Refused x) own is h =
      not_begun site d q s left x may (is ∙ ap (has_room_for left) own) (ap (λ (p : Resource). class_begins may d p s) (sym same) ∙ h)
  begin_refused may body (fault.Memory m) own is h = tt

  -- so is one of its statements
  pub block_refused : (may : Bool) (body inner : List Stmt) (t : State) (room : Room) (e : Fault) → may ≡ has_room_for left body → may ≡ true → class_begins may d r s ≡ Ok t → body ≡ d.body → inner ≡ d.body → room ≡ in_body left
      → Refuses (in_turn (map (effect_at room site) inner) t) e
      → Refuses (class_runs (body_in (bodies_at left site) d.body) d q s) e
  block_refused may body inner t room (fault.Refused x) is some begins own own_inner room_is h =
      body_refused site d q s left t x (ap (has_room_for left) (sym own) ∙ (sym is ∙ some))
      (ap (λ (p : Resource). class_begins true d p s) (sym same) ∙ (ap (λ b. class_begins b d r s) (sym some) ∙ begins))
      ((λ i. in_turn (map (effect_at (sym room_is i) site) (sym own_inner i)) t) ∙ h)
  block_refused may body inner t room (fault.Memory m) is some begins own own_inner room_is h = tt

  -- a class whose body ended is as if it had run
  pub class_ended : (may : Bool) (body : List Stmt) (t u v : State) (room : Room) → body ≡ d.body → may ≡ has_room_for left body → may ≡ true → class_begins may d r s ≡ Ok t → room ≡ in_body left
      → in_turn (map (effect_at room site) body) t ≡ Ok u → v ≡ record u { running = s.running; scopes = left_scope u.scopes } → class_runs (body_in (bodies_at left site) d.body) d q s ≡ Ok v
  class_ended may body t u v room own is some begins room_is runs end =
      body_ended site d q s left t u (ap (has_room_for left) (sym own) ∙ (sym is ∙ some))
      (ap (λ (p : Resource). class_begins true d p s) (sym same) ∙ (ap (λ b. class_begins b d r s) (sym some) ∙ begins))
      ((λ i. in_turn (map (effect_at (sym room_is i) site) (sym own i)) t) ∙ runs)
      ∙ ap (λ (w : State). Ok w) (sym end)

  -- a class without room has no end
  pub class_never_ends : (may : Bool) (t : State) → may ≡ false → class_begins may d r s ≡ Ok t → ⊥
  class_never_ends may t none begins = never_begins d r s t (ap (λ b. class_begins b d r s) (sym none) ∙ begins)

-- where there is room for a body, there is room for one more
pub room_for_one : (left : Room) (body : List Stmt) → has_room_for left body ≡ true → 0 < left.bodies
room_for_one left body h = by (nat_lt 0 left.bodies) refl h
  where
    by : (b : Bool) → nat_lt 0 left.bodies ≡ b → (b && nat_lt (block_depth body) left.levels) ≡ true → 0 < left.bodies
    by true is k = ltb-true 0 left.bodies is
    by false is k = cc

-- ---- the bodies of a declaration

-- a body is refused, of those that are left
pub bodies_refused : (declare : ℕ → List Pair → List ℕ → Effect) (refer : List ℕ → Ref) (before : List Ref) (bodies : List Body) (i : ℕ) (b : Body) (s : State) (all : Result (List Ref × State) Refusal) (e : Fault)
    → i < length bodies → b ≡ get_or bodies i b → declared_behind before (bodies_declared declare refer (drop i bodies) s) ≡ all
    → Refuses (declared_behind before (body_declared declare refer b s)) e → Refuses all e
bodies_refused declare refer before bodies i b s all (fault.Refused x) h is same refused =
    sym same
    ∙ (ap (λ (bs : List Body). declared_behind before (bodies_declared declare refer bs s)) (drop_step bodies i b b h is)
    ∙ declaring.body_refused declare refer b (drop (i + 1) bodies) before s x refused)
bodies_refused declare refer before bodies i b s all (fault.Memory m) h is same refused = tt

-- ---- the scope of the body

-- the scope that is entered is the current one, and is one of a class or a defined resource
inner_last : (open_ones : List ℕ) (place : ℕ) (scopes : List Scope) (scope : Scope) → place ≡ length scopes → IsInnerSort scope.sort
    → IsInner (option_and_then (slice_get (scopes ++ scope ∷ [])) (slice_get (open_ones ++ place ∷ []) (length (open_ones ++ place ∷ []) - 1)))
inner_last open_ones place scopes scope is h =
    subst (λ n. IsInner (option_and_then (slice_get (scopes ++ scope ∷ [])) (slice_get (open_ones ++ place ∷ []) n))) (sym last)
    (subst (λ (o : Option ℕ). IsInner (option_and_then (slice_get (scopes ++ scope ∷ [])) o)) (sym (got_last open_ones place))
    (subst (λ n. IsInner (slice_get (scopes ++ scope ∷ []) n)) (sym is)
    (subst IsInner (sym (got_last scopes scope)) h)))
  where
    last : length (open_ones ++ place ∷ []) - 1 ≡ length open_ones
    last = let more = length-append open_ones (place ∷ []) in omega arith

-- so it is of a scope of such a sort
inner_entered : (s : Scoped) (scope : Scope) → IsInnerSort scope.sort → IsInner (current_scope (entered s scope))
inner_entered s scope h = inner_last s.1 (length s.0) s.0 scope refl h

-- what is so of each body that is opened is so of the one that begins
opened_by : (d : Definition) (place : ℕ) (t : State) (o : Result State Refusal) (P : State → Type 0) → ((u : State) → o ≡ Ok u → P (begun place u)) → (o >>= λ u. Ok (begun place u)) ≡ Ok t → P t
opened_by d place t (Ok u) P f h = subst P (same_state (begun place u) t h) (f u refl)
opened_by d place t (Err e) P f h = cc

-- so it is where names are asked before
begun_by : (d : Definition) (place : ℕ) (t : State) (k o : Result State Refusal) (P : State → Type 0) → ((u : State) → o ≡ Ok u → P (begun place u)) → (k >>= λ _. o >>= λ u. Ok (begun place u)) ≡ Ok t → P t
begun_by d place t (Ok w) o P f h = opened_by d place t o P f h
begun_by d place t (Err e) o P f h = cc

-- a class that begins was added before
added_by : (d : Definition) (r : Resource) (s t : State) (x : Result State Refusal) → (x >>= begins_in d r s) ≡ Ok t → (v : State) × (begins_in d r s v ≡ Ok t)
added_by d r s t (Ok v) h = (v, h)
added_by d r s t (Err e) h = cc

-- a class's body begins in a scope of a class
pub inner_begun : (may : Bool) (d : Definition) (r : Resource) (s t : State) → class_begins may d r s ≡ Ok t → IsInner (current_scope t.scopes)
inner_begun may d r s t h =
    let from = added_by d r s t (class_added may r s) h in
    let v = from.0 in
    let scope = class_scope v.scopes.0 d.name d.parent in
    begun_by d (length s.resources) t (all_known r.at d.parameters r.attrs v) (opened d r scope v) (λ w. IsInner (current_scope w.scopes))
    (λ u is. inner_stays (entered v.scopes scope) u.scopes (openings_only_add d r scope v u is).scopes (inner_entered v.scopes scope tt)) from.1

-- the statements of a body end in such a scope where they began in one
pub inner_still : (n : Room) (site : Site) (body : List Stmt) (s t : State) → in_turn (map (effect_at n site) body) s ≡ Ok t → IsInner (current_scope s.scopes) → IsInner (current_scope t.scopes)
inner_still n site body s t h k = inner_stays s.scopes t.scopes (blocks_only_add n site body s t h).scopes k

-- ---- parents

module _ (f : Definition → Effect) where
  -- those that stand nearest last run last, one before the others
  last_runs : (front : List Definition) (p : Definition) (s : State) → in_turn (map f (backwards (front ++ p ∷ []))) s ≡ (f p s >>= in_turn (map f (backwards front)))
  last_runs front p s = ap (λ (ds : List Definition). in_turn (map f ds) s) (back front p)
    where
      back : (front : List Definition) (p : Definition) → backwards (front ++ p ∷ []) ≡ p ∷ backwards front
      back [] p = refl
      back (d ∷ front) p = ap (λ (ds : List Definition). ds ++ d ∷ []) (back front p)

-- where the topmost parent has run, the others are left
pub next_parent : (bodies : Bodies) (at : ℕ) (front : List Definition) (p : Definition) (s t : State) → parent_runs bodies at p s ≡ Ok t
    → in_turn (map (parent_runs bodies at) (backwards (front ++ p ∷ []))) s ≡ in_turn (map (parent_runs bodies at) (backwards front)) t
next_parent bodies at front p s t h =
    last_runs (parent_runs bodies at) front p s ∙ ap (λ (x : Result State Refusal). x >>= in_turn (map (parent_runs bodies at) (backwards front))) h

-- where it is refused, all are
pub parent_refused : (bodies : Bodies) (at : ℕ) (front : List Definition) (p : Definition) (s : State) (e : Refusal) → parent_runs bodies at p s ≡ Err e
    → in_turn (map (parent_runs bodies at) (backwards (front ++ p ∷ []))) s ≡ Err e
parent_refused bodies at front p s e h =
    last_runs (parent_runs bodies at) front p s ∙ ap (λ (x : Result State Refusal). x >>= in_turn (map (parent_runs bodies at) (backwards front))) h

module _ (site : Site) (bodies : Bodies) (at : ℕ) (d : Definition) (s : State) where
  -- the parents run as the nearest first, turned round
  from_line : parents_run site bodies at d s ≡ (turned (nearest_first (length site.classes + 1) site s d) >>= λ ds. in_turn (map (parent_runs bodies at) ds) s)
  from_line = ap (λ (r : Result (List Definition) Refusal). r >>= λ ds. in_turn (map (parent_runs bodies at) ds) s) (from_the_top site s d)

  -- so they do where they are found
  pub line_runs : (ds : List Definition) → nearest_first (length site.classes + 1) site s d ≡ Ok ds → parents_run site bodies at d s ≡ in_turn (map (parent_runs bodies at) (backwards ds)) s
  line_runs ds h = from_line ∙ ap (λ (r : Result (List Definition) Refusal). turned r >>= λ es. in_turn (map (parent_runs bodies at) es) s) h

  -- and are refused where one isn't
  pub line_refused : (e : Refusal) → nearest_first (length site.classes + 1) site s d ≡ Err e → parents_run site bodies at d s ≡ Err e
  line_refused e h = from_line ∙ ap (λ (r : Result (List Definition) Refusal). turned r >>= λ es. in_turn (map (parent_runs bodies at) es) s) h

-- ---- a class behind its parents

-- what follows the parents follows what runs of them
parents_joined : {A : Type 0} (r : Result (List Definition) Refusal) (f : List Definition → Result State Refusal) (g : State → Result A Refusal) → (r >>= λ ds. f ds >>= g) ≡ ((r >>= f) >>= g)
parents_joined (Ok ds) f g = refl
parents_joined (Err e) f g = refl

module _ (site : Site) (bodies : Bodies) (at : ℕ) (attributes : List Pair) (name : List ℕ) (s : State) where
  -- the class, behind its parents
  abbrev behind_parents : Definition → Result State Refusal
  behind_parents d = no_circle site d >>= λ _. parents_run site bodies at d s >>= class_runs (body_in bodies d.body) d (class_resource at d.name attributes)

  -- the parents are looked for once the chain is known to meet no class twice
  by_circle : (d : Definition) (k : Result Definition Refusal)
      → (k >>= λ _. parents_of site s d >>= λ ds. in_turn (map (parent_runs bodies at) ds) s >>= λ t. class_runs (body_in bodies d.body) d (class_resource at d.name attributes) t)
      ≡ (k >>= λ _. parents_run site bodies at d s >>= class_runs (body_in bodies d.body) d (class_resource at d.name attributes))
  by_circle d (Ok c) = parents_joined (parents_of site s d) (λ ds. in_turn (map (parent_runs bodies at) ds) s) (class_runs (body_in bodies d.body) d (class_resource at d.name attributes))
  by_circle d (Err e) = refl

  -- so it is behind the class's name
  by_name : (r : Result Definition Refusal)
      → (r >>= λ d. no_circle site d >>= λ _. parents_of site s d >>= λ ds. in_turn (map (parent_runs bodies at) ds) s >>= λ t. class_runs (body_in bodies d.body) d (class_resource at d.name attributes) t)
      ≡ (r >>= behind_parents)
  by_name (Ok d) = by_circle d (no_circle site d)
  by_name (Err e) = refl

  -- a class is declared behind its parents
  pub declared_is : class_declared site bodies at attributes name s ≡ (class_named site at name >>= behind_parents)
  declared_is = by_name (class_named site at name)
