-- Each reference stands once.
use Rattle.std.proofs.Common.{◌≡◌, Bool, true, false, cond, List, [], ◌∷◌, ◌++◌, Result, Ok, Err, refl, sym, ap, subst, ◌∙◌, append_assoc}
use Rattle.std.proofs.lemmas.List.{append-nil}
use Rattle.rh_base.specs.declared.fault.Refusal.{Refusal}
use Rattle.pp_syntax.specs.declared.tree.Stmt.{Stmt}
use Rattle.pp_value.specs.declared.value.Ref.{Ref}
use Rattle.pp_eval.specs.Evaluating.{◌>>=◌}
use Rattle.catalog_semantics.specs.declared.catalog.Resource.{Resource}
use Rattle.catalog_semantics.specs.Sites.{Site}
use Rattle.catalog_semantics.specs.States.{State, Default, references_of, stands_in, is_declared, is_class, with_defaults, as_added}
use Rattle.catalog_semantics.specs.States.{has_room, within_size, added}
use Rattle.catalog_semantics.specs.Effects.{effect_of}
use Rattle.catalog_semantics.specs.Frames.{Each, AreNewBehind, StandOnce}
use Rattle.catalog_semantics.proofs.Keeping.{Keeps, IsFrame, step_each, bound_each, statement_keeps}

-- a test that refuses where it is true
pub if_false : {A B : Type 0} (Q : B → Type 0) (b : Bool) (e : Refusal) (x : A) (f : A → Result B Refusal) → (b ≡ false → Each Q (f x))
    → Each Q (cond b (Err e) (Ok x) >>= f)
if_false Q true e x f h = tt
if_false Q false e x f h = h refl

-- a reference that stands in neither list may go behind
new_behind : (before refs : List Ref) (r : Ref) → AreNewBehind before refs → stands_in r (before ++ refs) ≡ false
    → AreNewBehind before (refs ++ r ∷ [])
new_behind before [] r h k = (subst (λ (w : List Ref). stands_in r w ≡ false) (append-nil before) k, tt)
new_behind before (q ∷ refs) r h k = (
  h.0,
  new_behind (before ++ q ∷ []) refs r h.1
      (subst (λ (w : List Ref). stands_in r w ≡ false) (sym (append_assoc before (q ∷ []) refs)) k),
)

-- one of two resources of one reference has it
either_id : (b : Bool) (x y : Resource) (ref : Ref) → x.id ≡ ref → y.id ≡ ref → (cond b x y).id ≡ ref
either_id true x y ref h k = h
either_id false x y ref h k = k

-- defaults change no reference
pub filled_id : (defaults : List Default) (r : Resource) → (with_defaults defaults r).id ≡ r.id
filled_id defaults r = either_id (is_class r) r _ r.id refl refl

-- nor does adding
added_id : (s : State) (r : Resource) → (as_added s r).id ≡ r.id
added_id s r = either_id s.main_has_ended (with_defaults s.defaults r) r r.id (filled_id s.defaults r) refl

-- where each reference stands once in the one, it does in the other
abbrev pub StandStill : State → State → Type 0
StandStill s t = StandOnce (references_of s.resources) → StandOnce (references_of t.resources)

-- one more resource is one more reference
pub refs_more : (resources : List Resource) (r : Resource) → references_of (resources ++ r ∷ []) ≡ references_of resources ++ r.id ∷ []
refs_more [] r = refl
refs_more (q ∷ resources) r = ap (λ (w : List Ref). q.id ∷ w) (refs_more resources r)

-- a resource that is added keeps each reference standing once
adds_once : (r : Resource) → Keeps StandStill (added r)
adds_once r s = if_false (StandStill s) (is_declared r.id s) _ s _ (λ new. step_each (StandStill s) (has_room r s) _ (λ room.
    step_each (StandStill s) (within_size r.at (s.resources ++ as_added s r ∷ [])) _ (λ fits h.
    subst StandOnce (sym (refs_more s.resources (as_added s r) ∙ ap (λ (w : Ref). references_of s.resources ++ w ∷ []) (added_id s r)))
    (new_behind [] (references_of s.resources) r.id h new))))

-- so does each single change
pub standing : IsFrame StandStill
standing = record {
  same = λ s h. h;
  joined = λ s t u h k x. k (h x);
  binds = λ at name x s. bound_each (StandStill s) at name x s (λ h. h);
  adds = λ r sound s holder. adds_once r s;
  bodies = λ place scope s t u at h k x. k (h x);
  holds = λ name outer class s is at h. h;
  ties = λ ties s h. h;
  collects = λ c s h. h;
  wants = λ more s h. h;
}

-- so does a statement
pub once_kept : (site : Site) (x : Stmt) (s t : State) → effect_of site x s ≡ Ok t → StandOnce (references_of s.resources)
    → StandOnce (references_of t.resources)
once_kept site x s t h = subst (Each (StandStill s)) h (statement_keeps StandStill standing site x s)
