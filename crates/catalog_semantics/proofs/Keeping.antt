-- What is so of every statement, where each single change keeps it.
use Rattle.std.proofs.Common.{◌≡◌, refl, ℕ, zero, suc, ◌-◌, Bool, true, false, cond, List, [], ◌∷◌, ◌++◌, map, length, Option, Some, None}
use Rattle.std.proofs.Common.{Result, Ok, Err}
use Rattle.std.proofs.Common.{◌⊎◌, inl, inr, ap, sym, ◌∙◌, subst}
use Rattle.std.specs.Prelude.{slice_get, filter, nat_lt}
use Rattle.std.specs.Prelude.{codes, is_none}
use Rattle.std.specs.Str.{bytes_eq}
use Rattle.std.specs.List.{AllByRecursion, flat_map}
use Rattle.rh_base.specs.declared.fault.Refusal.{Refusal}
use Rattle.pp_syntax.specs.declared.tree.Expr.{Expr}
use Rattle.pp_syntax.specs.declared.tree.Func.{Func}
use Rattle.pp_syntax.specs.declared.tree.Func.TheVariants as func
use Rattle.pp_syntax.specs.declared.tree.Body.{Body}
use Rattle.pp_syntax.specs.declared.tree.Operand.{Operand}
use Rattle.pp_syntax.specs.declared.tree.Operand.TheVariants as operand
use Rattle.pp_syntax.specs.declared.tree.Arrow.{Arrow}
use Rattle.pp_syntax.specs.declared.tree.Stmt.{Stmt, Stmt-F, roll-Stmt, map-Stmt, ind-Stmt}
use Rattle.pp_syntax.specs.declared.tree.Stmt.TheOpen as plain
use Rattle.pp_syntax.specs.declared.tree.Stmt.TheOpen.{Arm-F, CaseArm-F}
use Rattle.pp_syntax.specs.declared.tree.Arm.{Arm, roll-Arm, map-Arm}
use Rattle.pp_syntax.specs.declared.tree.CaseArm.{CaseArm, roll-CaseArm, map-CaseArm}
use Rattle.pp_value.specs.declared.value.Ref.{Ref}
use Rattle.pp_value.specs.declared.value.Value.{Value}
use Rattle.pp_value.specs.declared.value.Value.TheVariants as v
use Rattle.pp_value.specs.Values.{Pair, value_at}
use Rattle.pp_eval.specs.declared.scope.Scope.{Scope}
use Rattle.pp_eval.specs.References.{plain_name}
use Rattle.pp_eval.specs.Evaluating.{◌>>=◌, bound_again, if_there}
use Rattle.pp_eval.specs.Scoping.{class_scope, bindings_now, with_binding}
use Rattle.pp_eval.specs.Evaluation.{value_of}
use Rattle.catalog_semantics.specs.declared.catalog.Resource.{Resource}
use Rattle.catalog_semantics.specs.declared.state.Collector.{Collector}
use Rattle.catalog_semantics.specs.declared.state.Pending.{Pending}
use Rattle.catalog_semantics.specs.declared.state.Side.{Side}
use Rattle.catalog_semantics.specs.declared.state.Tie.{Tie}
use Rattle.catalog_semantics.specs.Sites.{Parameter, Definition, Site, is_built_in}
use Rattle.catalog_semantics.specs.States.{State, Default, Effect, in_turn, with_scopes, bound, is_declared, place_of, defaults_of, lacks, is_class, with_defaults, is_new, has_room, within_size, as_added, added, held, tied, collected, with_pending}
use Rattle.catalog_semantics.specs.Attributes.{titles_at, attributes_at, references_in}
use Rattle.catalog_semantics.specs.Declaring.{Bodies, within, body_in, one_more_body, given_or_else, fitting, parameter_bound, all_known, entering, opened}
use Rattle.catalog_semantics.specs.Declaring.{begun, ended, body_begins, body_runs, class_ref, class_resource, class_named, class_runs, no_circle}
use Rattle.catalog_semantics.specs.Declaring.{parents_of, class_declared, class_included, resource_declared, body_declared, bodies_declared}
use Rattle.catalog_semantics.specs.Declaring.{known_type, resources_declared, classes_declared}
use Rattle.catalog_semantics.specs.Functions.{Argument, arguments, class_names, held_in, before_container, contained, required}
use Rattle.catalog_semantics.specs.Functions.{included_then, each_class, realizes, shown_arguments, calls}
use Rattle.catalog_semantics.specs.Collecting.{collector_of}
use Rattle.catalog_semantics.specs.Effects.{assigned, test_of, first_true, unless_true, first_option, default_block, chosen_block}
use Rattle.catalog_semantics.specs.Effects.{options_of, selected_block, named_refs, as_named, declared_by, side_of, sides_of, ties_of}
use Rattle.catalog_semantics.specs.Rooms.{Room, block_depth, whole_room}
use Rattle.catalog_semantics.specs.Effects.{chained, called, Inner, Arms, InnerArms, InnerCaseArms, block_by, arm_in, case_arm_in, effect_in, effect_with, runs_within, bodies_at, effect_at, effect_of}
use Rattle.catalog_semantics.specs.Frames.{Each, IsSound, AreSoundAttributes, IsContainerAt}
use Rattle.catalog_semantics.specs.Catalogs.{is_plain_sort}
use Rattle.catalog_semantics.specs.declared.catalog.Sort.TheVariants as sort
use Rattle.catalog_semantics.proofs.DistinctNames.{all_sound, both_each}
use Rattle.catalog_semantics.proofs.Rolled.{in_arm, in_case_arm, layer_of, rolled, rolled_arm, rolled_case_arm}

-- each effect leads to a state that stands in this relation to the one before
abbrev pub Keeps : (State → State → Type 0) → Effect → Type 0
Keeps R f = (s : State) → Each (R s) (f s)

-- Each single change leads to a state that stands in this relation to the one before, and it goes on from one change to the next.
pub record IsFrame (R : State → State → Type 0) : Type 0 where
  pub same : (s : State) → R s s
  pub joined : (s t u : State) → R s t → R t u → R s u
  pub binds : (at : ℕ) (name : List ℕ) (x : Value) → Keeps R (bound at name x)
  pub adds : (r : Resource) → IsSound r → (s : State) → (r.holder ≡ None) ⊎ (r.holder ≡ s.running) → Each (R s) (added r s)
  pub bodies : (place : ℕ) (scope : Scope) (s t u : State) → IsContainerAt place s.resources → R (entering scope s) t → R (begun place t) u → R s (ended s u)
  pub holds : (name : List ℕ) (outer class : ℕ) (s : State) → s.running ≡ Some outer → place_of (class_ref name) s.resources ≡ Some class → R s (held outer class s)
  pub ties : (ties : List Tie) (s : State) → R s (tied ties s)
  pub collects : (c : Collector) (s : State) → R s (collected c s)
  pub wants : (more : List Pending) (s : State) → R s (with_pending more s)

-- a last step that gives what is so makes a whole that does
pub step_each : {A B : Type 0} (Q : B → Type 0) (r : Result A Refusal) (f : A → Result B Refusal) → ((x : A) → Each Q (f x))
    → Each Q (r >>= f)
step_each Q (Ok x) f h = h x
step_each Q (Err e) f h = tt

-- a step behind what is so gives what is so
pub then_each : {A B : Type 0} (P : A → Type 0) (Q : B → Type 0) (r : Result A Refusal) (f : A → Result B Refusal) → Each P r
    → ((x : A) → P x → Each Q (f x)) → Each Q (r >>= f)
then_each P Q (Ok x) f h k = k x h
then_each P Q (Err e) f h k = tt

-- so does a choice of two that do
pub if_each : {A : Type 0} (P : A → Type 0) (b : Bool) (x y : Result A Refusal) → Each P x → Each P y → Each P (cond b x y)
if_each P true x y h k = h
if_each P false x y h k = k

-- a name that is bound, where all that can come of it keeps it
pub bound_each : (P : State → Type 0) (at : ℕ) (name : List ℕ) (x : Value) (s : State) → P (with_scopes (with_binding name x s.scopes) s) → Each P (bound at name x s)
bound_each P at name x s h = by_test (is_none (value_at name (bindings_now s.scopes)))
  where
    by_test : (b : Bool) → Each P (cond b (Ok (with_binding name x s.scopes)) (Err (bound_again at name)) >>= λ scopes. Ok (with_scopes scopes s))
    by_test true = h
    by_test false = tt

-- ---- what is added stands last

-- what goes last stands at the number of those before it
got_last : (front : List Resource) (r : Resource) → slice_get (front ++ r ∷ []) (length front) ≡ Some r
got_last [] r = refl
got_last (q ∷ front) r = got_last front r

-- defaults change no sort
sort_filled : (defaults : List Default) (r : Resource) → (with_defaults defaults r).sort ≡ r.sort
sort_filled defaults r = either (is_class r)
  where
    either : (b : Bool) → (cond b r (record r { attrs = r.attrs ++ filter (lacks r.attrs) (defaults_of r.id.kind defaults) })).sort ≡ r.sort
    either true = refl
    either false = refl

-- nor does adding
sort_added : (s : State) (r : Resource) → (as_added s r).sort ≡ r.sort
sort_added s r = either s.main_has_ended
  where
    either : (b : Bool) → (cond b (with_defaults s.defaults r) r).sort ≡ r.sort
    either true = sort_filled s.defaults r
    either false = refl

-- a class or a defined resource that is added is a container at the last place
stands_last : (r : Resource) (s : State) → is_plain_sort r.sort ≡ false → Each (λ t. IsContainerAt (length s.resources) t.resources) (added r s)
stands_last r s container = step_each Q (is_new r s) _ (λ new. step_each Q (has_room r s) _ (λ room.
    step_each Q (within_size r.at (s.resources ++ as_added s r ∷ [])) _ (λ fits. (as_added s r, (got_last s.resources (as_added s r), ap is_plain_sort (sort_added s r) ∙ container)))))
  where
    Q : State → Type 0
    Q t = IsContainerAt (length s.resources) t.resources

module _ (R : State → State → Type 0) (frame : IsFrame R) where
  -- what is kept from a later state on is kept from the earlier
  carried : {A : Type 0} (g : A → State) (s t : State) → R s t → (x : Result A Refusal) → Each (λ y. R t (g y)) x → Each (λ y. R s (g y)) x
  carried g s t h (Ok u) k = frame.joined s t (g u) h k
  carried g s t h (Err r) k = tt

  -- one thing after the other, where each of them shows its state
  goes_on : {A B : Type 0} (g : A → State) (h : B → State) (s : State) (r : Result A Refusal) (f : A → Result B Refusal)
      → Each (λ x. R s (g x)) r → ((x : A) → Each (λ y. R (g x) (h y)) (f x)) → Each (λ y. R s (h y)) (r >>= f)
  goes_on g h s (Ok x) f p k = carried h s (g x) p (f x) (k x)
  goes_on g h s (Err e) f p k = tt

  -- an effect behind one that keeps it keeps it
  pub then_keep : (s : State) (r : Result State Refusal) (f : Effect) → Each (R s) r → Keeps R f → Each (R s) (r >>= f)
  then_keep s r f p k = goes_on (λ t. t) (λ t. t) s r f p k

  -- effects in turn that each keep it do
  in_turn_keeps : (fs : List Effect) → AllByRecursion (Keeps R) fs → Keeps R (in_turn fs)
  in_turn_keeps [] h s = frame.same s
  in_turn_keeps (f ∷ fs) h s = then_keep s (f s) (in_turn fs) (h.0 s) (in_turn_keeps fs h.1)

  -- the effects of items each keep it, where that of any item does
  each_keeps : {A : Type 0} (f : A → Effect) (xs : List A) → ((x : A) → Keeps R (f x)) → AllByRecursion (Keeps R) (map f xs)
  each_keeps f [] h = tt
  each_keeps f (x ∷ xs) h = (h x, each_keeps f xs h)

  -- the effects of items in turn keep it
  pub all_keep : {A : Type 0} (f : A → Effect) (xs : List A) → ((x : A) → Keeps R (f x)) → Keeps R (in_turn (map f xs))
  all_keep f xs h = in_turn_keeps (map f xs) (each_keeps f xs h)

  -- ---- bodies

  -- binding a parameter keeps it
  parameter_keeps : (r : Resource) (p : Parameter) → Keeps R (parameter_bound r p)
  parameter_keeps r p s =
      step_each (R s) (given_or_else r p (value_at p.name r.attrs) s) _
      (λ x. step_each (R s) (fitting r.at p x) _ (λ y. frame.binds r.at p.name y s))

  -- opening a body keeps it from its scope on
  pub opened_keeps : (d : Definition) (r : Resource) (scope : Scope) (s : State) → Each (R (entering scope s)) (opened d r scope s)
  opened_keeps d r scope s =
      in_turn_keeps (bound r.at (codes "title") (v.Str r.id.title) ∷ bound r.at (codes "name") (v.Str r.id.title) ∷ map
      (parameter_bound r) d.parameters) (
        frame.binds r.at (codes "title") (v.Str r.id.title),
        (frame.binds r.at (codes "name") (v.Str r.id.title), each_keeps (parameter_bound r) d.parameters (parameter_keeps r)),
      )
      (entering scope s)

  -- leaving a body keeps it, where its statements do
  body_ends : (place : ℕ) (scope : Scope) (s t : State) → IsContainerAt place s.resources → R (entering scope s) t → (x : Result State Refusal) → Each (R (begun place t)) x
      → Each (R s) (x >>= λ u. Ok (ended s u))
  body_ends place scope s t at h (Ok u) k = frame.bodies place scope s t u at h k
  body_ends place scope s t at h (Err e) k = tt

  -- so does a body that runs
  pub body_keeps : (run : Stmt → Effect) → ((x : Stmt) → Keeps R (run x)) → (d : Definition) (place : ℕ) (r : Resource) (scope : Scope) (s : State) → IsContainerAt place s.resources
      → Each (R s) (body_runs run d place r scope s)
  body_keeps run h d place r scope s at =
      then_each Begins (R s) (body_begins d place r scope s) _ begins (λ t b.
      subst (λ (w : State). Each (R s) (in_turn (map run d.body) w >>= λ u. Ok (ended s u))) (sym b.1)
      (body_ends place scope s b.0 at b.2 (in_turn (map run d.body) (begun place b.0)) (all_keep run d.body h (begun place b.0))))
    where
      -- it begins behind what is kept
      Begins : State → Type 0
      Begins t = (v : State) × (t ≡ begun place v) × R (entering scope s) v

      begins : Each Begins (body_begins d place r scope s)
      begins = step_each Begins (all_known r.at d.parameters r.attrs s) _ (λ known.
          then_each (R (entering scope s)) Begins (opened d r scope s) _ (opened_keeps d r scope s) (λ v k. (v, refl, k)))

  -- ---- classes

  -- if there is a way to run statements, it keeps it
  abbrev pub MayKeep : Option (Stmt → Effect) → Type 0
  MayKeep None = Unit {0}
  MayKeep (Some run) = (x : Stmt) → Keeps R (run x)

  -- so does each body, whatever room is left
  abbrev pub BodiesKeep : Bodies → Type 0
  BodiesKeep bodies = (left : ℕ) (body : List Stmt) → MayKeep (bodies.run left body)

  -- the way to run a body that is found keeps it
  one_keeps : (at : ℕ) (may_run : Option (Stmt → Effect)) → MayKeep may_run
      → Each (λ (run : Stmt → Effect). (x : Stmt) → Keeps R (run x)) (one_more_body at may_run)
  one_keeps at None h = tt
  one_keeps at (Some run) h = h

  module _ (site : Site) (bodies : Bodies) (keep : BodiesKeep bodies) where
    -- a class that runs keeps it
    class_runs_keeps : (d : Definition) (r : Resource) → IsSound r → is_plain_sort r.sort ≡ false → r.holder ≡ None → Keeps R (class_runs (body_in bodies d.body) d r)
    class_runs_keeps d r sound container alone s = step_each (R s) (is_new r s) _ (λ new.
        then_each (λ (run : Stmt → Effect). (x : Stmt) → Keeps R (run x)) (R s) (one_more_body r.at (body_in bodies d.body)) _ (one_keeps r.at (body_in bodies d.body) (keep bodies.left d.body))
        (λ run h.
        then_each (λ t. R s t × IsContainerAt (length s.resources) t.resources) (R s) (added r s) _
        (both_each (R s) (λ t. IsContainerAt (length s.resources) t.resources) (added r s) (frame.adds r sound s (inl alone)) (stands_last r s container))
        (λ t k. carried (λ u. u) s t k.0 (body_runs run d (length s.resources) r (class_scope t.scopes.0 d.name d.parent) t)
        (body_keeps run h d (length s.resources) r (class_scope t.scopes.0 d.name d.parent) t k.1))))

    -- a class with sound attributes is a sound resource
    class_sound : (at : ℕ) (name : List ℕ) (attributes : List Pair) → AreSoundAttributes attributes → IsSound (class_resource at name attributes)
    class_sound at name attributes clean = (clean, λ h. cc)

    -- declaring a class keeps it
    declared_keeps : (at : ℕ) (attributes : List Pair) → AreSoundAttributes attributes → (name : List ℕ)
        → Keeps R (class_declared site bodies at attributes name)
    declared_keeps at attributes clean name s = step_each (R s) (class_named site at name) _ (λ d.
        step_each (R s) (no_circle site d) _ (λ fine.
        step_each (R s) (parents_of site s d) _ (λ parents.
        then_keep s (in_turn (map (λ e. class_runs (body_in bodies e.body) e (class_resource at e.name [])) parents) s)
        (class_runs (body_in bodies d.body) d (class_resource at d.name attributes))
        (all_keep (λ (e : Definition). class_runs (body_in bodies e.body) e (class_resource at e.name [])) parents
        (λ e. class_runs_keeps e (class_resource at e.name []) (class_sound at e.name [] (tt, tt)) refl refl) s)
        (class_runs_keeps d (class_resource at d.name attributes) (class_sound at d.name attributes clean) refl refl))))

    -- including one does
    included_keeps : (at : ℕ) (name : List ℕ) → Keeps R (class_included site bodies at name)
    included_keeps at name s =
        if_each (R s) (is_declared (class_ref name) s) (Ok s) (class_declared site bodies at [] name s) (frame.same s)
        (declared_keeps at [] (tt, tt) name s)

    -- ---- resources

    -- so of the state that is given beside something
    abbrev Shows : {A : Type 0} → (State → Result (A × State) Refusal) → Type 0
    Shows f = (s : State) → Each (λ x. R s x.1) (f s)

    -- declaring a body keeps it
    one_body_keeps : (declare : ℕ → List Pair → List ℕ → Effect) (refer : List ℕ → Ref)
        → ((at : ℕ) (attributes : List Pair) → AreSoundAttributes attributes → (title : List ℕ) → Keeps R (declare at attributes title)) → (b : Body)
        → Shows (body_declared declare refer b)
    one_body_keeps declare refer h b s = step_each _ (titles_at s.scopes b.title) _ (λ titles.
        then_each AreSoundAttributes _ (attributes_at s.scopes b.attrs) _ (all_sound s.scopes [] b.attrs) (λ attributes clean.
        then_each (R s) _ (in_turn (map (declare b.title.at attributes) titles) s) _
        (all_keep (declare b.title.at attributes) titles (h b.title.at attributes clean) s) (λ t k. k)))

    -- declaring bodies does
    bodies_keep : (declare : ℕ → List Pair → List ℕ → Effect) (refer : List ℕ → Ref)
        → ((at : ℕ) (attributes : List Pair) → AreSoundAttributes attributes → (title : List ℕ) → Keeps R (declare at attributes title))
        → (bs : List Body)
        → Shows (bodies_declared declare refer bs)
    bodies_keep declare refer h [] s = frame.same s
    bodies_keep declare refer h (b ∷ bs) s =
        goes_on (λ (x : List Ref × State). x.1) (λ (x : List Ref × State). x.1) s (body_declared declare refer b s) _
        (one_body_keeps declare refer h b s) (λ first.
        then_each (λ (more : List Ref × State). R first.1 more.1) _ (bodies_declared declare refer bs first.1) _
        (bodies_keep declare refer h bs first.1) (λ more k. k))

    -- a resource of no class and no defined type is of a built-in type
    sort_built : (b : Bool) → is_plain_sort (cond b sort.Plain sort.Defined) ≡ true → b ≡ true
    sort_built true h = refl
    sort_built false h = h

    -- declaring resources keeps it
    resources_keep : (at : ℕ) (is_virtual : Bool) (kind : List ℕ) (bs : List Body) → Shows (resources_declared site at is_virtual kind bs)
    resources_keep at is_virtual kind bs s = step_each _ (known_type site at (plain_name kind)) _ (λ known.
        bodies_keep (λ here. resource_declared here is_virtual known) (λ title. record { kind = known; title = title })
        (λ here attributes clean title t. frame.adds _ (clean, sort_built (is_built_in known)) t (inr refl)) bs s)

    -- declaring classes does
    classes_keep : (bs : List Body) → Shows (classes_declared site bodies bs)
    classes_keep bs s =
        bodies_keep (λ here attributes title. class_declared site bodies here attributes (plain_name title))
        (λ title. class_ref (plain_name title)) (λ here attributes clean title. declared_keeps here attributes clean (plain_name title)) bs
        s

    -- ---- functions

    -- putting a class in the container that runs keeps it
    held_keeps : (name : List ℕ) (outer class : Option ℕ) (s : State) → s.running ≡ outer → place_of (class_ref name) s.resources ≡ class → R s (held_in outer class s)
    held_keeps name None class s is at = frame.same s
    held_keeps name (Some outer) None s is at = frame.same s
    held_keeps name (Some outer) (Some class) s is at = frame.holds name outer class s is at

    -- putting it before the container does
    before_keeps : (at : ℕ) (class : Ref) (container : Option Resource) (s : State) → R s (before_container at class container s)
    before_keeps at class None s = frame.same s
    before_keeps at class (Some container) s = frame.ties _ s

    -- including a class and then doing something does
    then_keeps : (next : List ℕ → State → State) → ((name : List ℕ) (s : State) → R s (next name s)) → (at : ℕ) (name : List ℕ)
        → Keeps R (included_then next site bodies at name)
    then_keeps next h at name s =
        then_keep s (class_included site bodies at name s) (λ t. Ok (next name t)) (included_keeps at name s) (λ t. h name t)

    -- doing so with each class of an argument does
    each_class_keeps : (f : List ℕ → Effect) → ((name : List ℕ) → Keeps R (f name)) → (x : Argument) → Keeps R (each_class f x)
    each_class_keeps f h x s = step_each (R s) (if_there x.0 (class_names x.1)) _ (λ names. all_keep f names h s)

    -- asking for references does
    realizes_keeps : (at : ℕ) (x : Argument) → Keeps R (realizes at x)
    realizes_keeps at x s = step_each (R s) (if_there x.0 (references_in x.1)) _ (λ refs. frame.wants _ s)

    -- each function does
    calls_keep : (at : ℕ) (f : Func) (xs : List Argument) → Keeps R (calls site bodies at f xs)
    calls_keep at func.Include xs =
        all_keep (each_class (included_then (λ name t. t) site bodies at)) xs
        (each_class_keeps _ (then_keeps (λ name t. t) (λ name t. frame.same t) at))
    calls_keep at func.Contain xs =
        all_keep (each_class (included_then contained site bodies at)) xs
        (each_class_keeps _ (then_keeps contained (λ name t. held_keeps name t.running (place_of (class_ref name) t.resources) t refl refl) at))
    calls_keep at func.Require xs =
        all_keep (each_class (included_then (required at) site bodies at)) xs
        (each_class_keeps _ (then_keeps (required at) (λ name t. before_keeps at (class_ref name) _ t) at))
    calls_keep at func.Realize xs = all_keep (realizes at) xs (realizes_keeps at)
    calls_keep at func.Fail xs = λ s. step_each (R s) (shown_arguments xs) _ (λ texts. tt)
    calls_keep at func.Notice xs = frame.same
    calls_keep at func.Warning xs = frame.same

    -- ---- chains

    -- references for a side of a chain keep it
    named_keeps : (s : State) (r : Result (List Ref × State) Refusal) → Each (λ x. R s x.1) r → Each (λ x. R s x.1) (as_named r)
    named_keeps s (Ok x) h = h
    named_keeps s (Err e) h = tt

    -- declaring resources or classes does
    declared_by_keeps : (at : ℕ) (is_virtual : Bool) (kind : List ℕ) (declared : List Body)
        → Shows (declared_by site bodies at is_virtual kind declared)
    declared_by_keeps at is_virtual kind declared s =
        if_each (λ (x : List Ref × State). R s x.1) (bytes_eq kind (codes "class")) (classes_declared site bodies declared s)
        (resources_declared site at is_virtual kind declared s) (classes_keep declared s) (resources_keep at is_virtual kind declared s)

    -- one side of a chain does
    side_keeps : (x : Operand) → Shows (side_of site bodies x)
    side_keeps (operand.Declare at is_virtual kind declared) s =
        named_keeps s (declared_by site bodies at is_virtual kind declared s) (declared_by_keeps at is_virtual kind declared s)
    side_keeps (operand.Collect at kind sought) s = step_each _ (collector_of site at kind sought s) _ (λ c. frame.collects c s)
    side_keeps (operand.Named es) s = step_each _ (named_refs s.scopes es) _ (λ refs. frame.same s)

    -- all sides do
    sides_keep : (xs : List Operand) → Shows (sides_of site bodies xs)
    sides_keep [] s = frame.same s
    sides_keep (x ∷ xs) s =
        goes_on (λ (y : Side × State). y.1) (λ (y : List Side × State). y.1) s (side_of site bodies x s) _ (side_keeps x s) (λ first.
        then_each (λ (more : List Side × State). R first.1 more.1) _ (sides_of site bodies xs first.1) _ (sides_keep xs first.1)
        (λ more k. k))

    -- a chain does
    chained_keeps : (at : ℕ) (xs : List Operand) (arrows : List Arrow) → Keeps R (chained site bodies at xs arrows)
    chained_keeps at xs arrows s =
        goes_on (λ (y : List Side × State). y.1) (λ (t : State). t) s (sides_of site bodies xs s) _ (sides_keep xs s)
        (λ x. frame.ties (ties_of at x.0 arrows) x.1)

    -- ---- conditions

    -- the block of the arm keeps it
    abbrev ArmKeeps : Expr × Effect → Type 0
    ArmKeeps a = Keeps R a.1

    -- the first block whose test is true keeps it
    first_true_keeps : (arms : List (Expr × Effect)) (other : Effect) → AllByRecursion ArmKeeps arms → Keeps R other
        → Keeps R (first_true arms other)
    first_true_keeps [] other h k s = k s
    first_true_keeps (a ∷ arms) other h k s =
        step_each (R s) (test_of s.scopes a.0) _ (λ b. if_each (R s) b (a.1 s) (first_true arms other s) (h.0 s)
        (first_true_keeps arms other h.1 k s))

    -- the block of the choice keeps it
    abbrev ChoiceKeeps : Option Expr × Effect → Type 0
    ChoiceKeeps c = Keeps R c.1

    -- the block keeps it, if there is one
    abbrev IfKeeps : Option Effect → Type 0
    IfKeeps None = Unit {0}
    IfKeeps (Some f) = Keeps R f

    -- the block of `default` keeps it
    default_keeps : (choices : List (Option Expr × Effect)) → AllByRecursion ChoiceKeeps choices → IfKeeps (default_block choices)
    default_keeps [] h = tt
    default_keeps ((None, block) ∷ choices) h = h.0
    default_keeps ((Some e, block) ∷ choices) h = default_keeps choices h.1

    -- so does that of the first option that is equal
    option_keeps : (s : State) (at : ℕ) (x : Value) (choices : List (Option Expr × Effect)) → AllByRecursion ChoiceKeeps choices
        → Each IfKeeps (first_option s.scopes at x choices)
    option_keeps s at x [] h = tt
    option_keeps s at x (c ∷ choices) h =
        step_each IfKeeps _ _ (λ b. if_each IfKeeps b (Ok (Some c.1)) (first_option s.scopes at x choices) h.0
        (option_keeps s at x choices h.1))

    -- so does that of the two which is chosen
    chosen_keeps : (found default : Option Effect) → IfKeeps found → IfKeeps default → Keeps R (chosen_block found default)
    chosen_keeps (Some f) default h k s = h s
    chosen_keeps None (Some f) h k s = k s
    chosen_keeps None None h k s = frame.same s

    -- a `case` keeps it
    selected_keeps : (e : Expr) (choices : List (Option Expr × Effect)) → AllByRecursion ChoiceKeeps choices
        → Keeps R (selected_block e choices)
    selected_keeps e choices h s = step_each (R s) (value_of s.scopes e) _ (λ x.
        then_each IfKeeps (R s) (first_option s.scopes e.at x choices) _ (option_keeps s e.at x choices h)
        (λ found k. chosen_keeps found (default_block choices) k (default_keeps choices h) s))

    -- an assignment does
    assigned_keeps : (at : ℕ) (name : List ℕ) (e : Expr) → Keeps R (assigned at name e)
    assigned_keeps at name e s = step_each (R s) (value_of s.scopes e) _ (λ x. frame.binds at name x s)

    -- a call does
    called_keeps : (at : ℕ) (f : Func) (args : List Expr) → Keeps R (called site bodies at f args)
    called_keeps at f args s = step_each (R s) (arguments s.scopes args) _ (λ xs. calls_keep at f xs s)

    -- an `unless` does
    unless_keeps : (e : Expr) (body other : Effect) → Keeps R body → Keeps R other → Keeps R (unless_true e body other)
    unless_keeps e body other h k s = step_each (R s) (test_of s.scopes e) _ (λ b. if_each (R s) b (other s) (body s) (k s) (h s))

  -- ---- every statement

  -- so whatever may be open, if the bodies do
  abbrev AlwaysKeeps : Inner → Type 0
  AlwaysKeeps f = (bodies : Bodies) → BodiesKeep bodies → Keeps R (f bodies)

  module _ (site : Site) where
    -- a statement of which it is known
    abbrev KnownStmt : Type 0
    KnownStmt = (x : Stmt) × AlwaysKeeps (effect_in site x)

    -- an arm of which it is known
    abbrev KnownArm : Type 0
    KnownArm = (a : Arm) × AlwaysKeeps (in_arm site a).1

    -- an arm of a `case` of which it is known
    abbrev KnownCaseArm : Type 0
    KnownCaseArm = (a : CaseArm) × AlwaysKeeps (in_case_arm site a).1

    -- each of such statements keeps it
    each_known : (xs : List KnownStmt) (bodies : Bodies) → BodiesKeep bodies
        → AllByRecursion (Keeps R) (map (λ (f : Inner). f bodies) (map (effect_in site) (map (λ (x : KnownStmt). x.0) xs)))
    each_known [] bodies keep = tt
    each_known (x ∷ xs) bodies keep = (x.1 bodies keep, each_known xs bodies keep)

    -- so does a block of them
    block_keeps : (xs : List KnownStmt) → AlwaysKeeps (block_by (map (effect_in site) (map (λ (x : KnownStmt). x.0) xs)))
    block_keeps xs bodies keep = in_turn_keeps _ (each_known xs bodies keep)

    -- so does each of such arms
    arms_keep : (xs : List KnownArm) (bodies : Bodies) → BodiesKeep bodies
        → AllByRecursion (λ (a : Arms). Keeps R a.1) (map (arm_in bodies) (map (in_arm site) (map (λ (x : KnownArm). x.0) xs)))
    arms_keep [] bodies keep = tt
    arms_keep (x ∷ xs) bodies keep = (x.1 bodies keep, arms_keep xs bodies keep)

    -- so does each option with its block
    options_keep : (options : List (Option Expr)) (f : Effect) → Keeps R f → (more : List (Option Expr × Effect))
        → AllByRecursion (λ (c : Option Expr × Effect). Keeps R c.1) more
        → AllByRecursion (λ (c : Option Expr × Effect). Keeps R c.1) (map (λ (option : Option Expr). (option, f)) options ++ more)
    options_keep [] f h more k = k
    options_keep (o ∷ options) f h more k = (h, options_keep options f h more k)

    -- so does each of such arms of a `case`
    case_arms_keep : (xs : List KnownCaseArm) (bodies : Bodies) → BodiesKeep bodies
        → AllByRecursion (λ (c : Option Expr × Effect). Keeps R c.1)
        (flat_map options_of (map (case_arm_in bodies) (map (in_case_arm site) (map (λ (x : KnownCaseArm). x.0) xs))))
    case_arms_keep [] bodies keep = tt
    case_arms_keep (x ∷ xs) bodies keep =
        options_keep (in_case_arm site x.0).0 ((in_case_arm site x.0).1 bodies) (x.1 bodies keep) _ (case_arms_keep xs bodies keep)

    -- the statement by itself, of which it is known what stands in it
    abbrev inner : Stmt-F KnownStmt KnownArm KnownCaseArm → Stmt-F Stmt Arm CaseArm
    inner y = map-Stmt KnownStmt KnownArm KnownCaseArm Stmt Arm CaseArm (λ x. x.0) (λ a. a.0) (λ c. c.0) y

    -- a statement keeps it, where what stands in it does
    layer_keeps : (y : Stmt-F KnownStmt KnownArm KnownCaseArm) → AlwaysKeeps (layer_of site (inner y))
    layer_keeps (plain.Chain at operands arrows) bodies keep = chained_keeps site bodies keep at operands arrows
    layer_keeps (plain.Assign at name value) bodies keep = assigned_keeps site bodies keep at name value
    layer_keeps (plain.Call at f args) bodies keep = called_keeps site bodies keep at f args
    layer_keeps (plain.If at arms other) bodies keep =
        first_true_keeps site bodies keep _ _ (arms_keep arms (within bodies) keep) (block_keeps other (within bodies) keep)
    layer_keeps (plain.Unless at test body other) bodies keep =
        unless_keeps site bodies keep test _ _ (block_keeps body (within bodies) keep) (block_keeps other (within bodies) keep)
    layer_keeps (plain.Case at value arms) bodies keep = selected_keeps site bodies keep value _ (case_arms_keep arms (within bodies) keep)

    -- each statement keeps it, whatever may be open
    effect_keeps : (x : Stmt) → AlwaysKeeps (effect_in site x)
    effect_keeps =
        ind-Stmt (λ x. AlwaysKeeps (effect_in site x)) (λ a. AlwaysKeeps (in_arm site a).1) (λ c. AlwaysKeeps (in_case_arm site c).1)
        (λ x y is. subst (λ (z : Stmt-F Stmt Arm CaseArm). AlwaysKeeps (effect_in site (roll-Stmt z))) is
        (subst (λ (f : Inner). AlwaysKeeps f) (sym (rolled site (inner y))) (layer_keeps y)))
        (λ x y is. subst (λ (z : Arm-F Stmt Arm CaseArm). AlwaysKeeps (in_arm site (roll-Arm z)).1) is
        (subst (λ (a : InnerArms). AlwaysKeeps a.1) (sym (rolled_arm site
        (map-Arm KnownStmt KnownArm KnownCaseArm Stmt Arm CaseArm (λ x. x.0) (λ a. a.0) (λ c. c.0) y)))
        (block_keeps y.body)))
        (λ x y is. subst (λ (z : CaseArm-F Stmt Arm CaseArm). AlwaysKeeps (in_case_arm site (roll-CaseArm z)).1) is
        (subst (λ (a : InnerCaseArms). AlwaysKeeps a.1) (sym
        (rolled_case_arm site (map-CaseArm KnownStmt KnownArm KnownCaseArm Stmt Arm CaseArm (λ x. x.0) (λ a. a.0) (λ c. c.0) y)))
        (block_keeps y.body)))

    -- a body for which there is room, or not, keeps it
    may_by : (n left : ℕ) → ((more : ℕ) (body : List Stmt) → MayKeep (runs_within n site more body)) → (b : Bool)
        → MayKeep (cond b (Some (effect_with site (record { left = left - 1; run = runs_within n site }))) None)
    may_by n left keep true = λ x. effect_keeps x (record { left = left - 1; run = runs_within n site }) keep
    may_by n left keep false = tt

    -- so does each body, however many may run
    run_keeps : (n left : ℕ) (body : List Stmt) → MayKeep (runs_within n site left body)
    run_keeps zero left body = tt
    run_keeps (suc n) left body = may_by n left (run_keeps n) (nat_lt (block_depth body) left)

  -- each statement keeps it, in any room
  pub effect_at_keeps : (room : Room) (site : Site) (x : Stmt) → Keeps R (effect_at room site x)
  effect_at_keeps room site x = effect_keeps site x (bodies_at room site) (run_keeps site room.bodies)

  -- So each statement keeps it.
  pub statement_keeps : (site : Site) (x : Stmt) → Keeps R (effect_of site x)
  unfolding effect_of
  statement_keeps site x = effect_at_keeps whole_room site x
