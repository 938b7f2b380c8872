-- The refusals of a graph.
use Rattle.std.proofs.Common.{◌≡◌, List, [], ◌++◌, Some, None, refl, sym, ap, subst, ◌∙◌, append_assoc}
use Rattle.std.specs.Prelude.{MatchOption}
use Rattle.rh_base.specs.Refused.{IfRefused}
use Rattle.rh_base.specs.declared.fault.Fault.{Fault}
use Rattle.rh_base.specs.declared.fault.Fault.TheVariants as fault
use Rattle.rh_base.specs.declared.fault.Refusal.{Refusal}
use Rattle.pp_eval.specs.Evaluating.{Refuses}
use Rattle.catalog_semantics.specs.Catalogs.{Catalog}
use Rattle.graph_semantics.specs.Relations.{all_relations, missing_target}
use Rattle.graph_semantics.specs.Graphs.{IsCircleRefusal, IsGraphRefusal}
use Rattle.dep_graph.specs.Links.{with_links}
use Rattle.dep_graph.specs.Whole.{AreLinks}
use Rattle.dep_graph.specs.declared.links.Link.{Link}
use Rattle.dep_graph.proofs.Related.{nothing_missing, something_missing}

-- a refusal that is one is what follows from that
pub refused_weaker : (P Q : Refusal → Type 0) (e : Fault) → ((x : Refusal) → P x → Q x) → IfRefused e P → IfRefused e Q
refused_weaker P Q (fault.Refused r) f h = f r h
refused_weaker P Q (fault.Memory m) f h = tt

-- the refusal of a reference to nothing is one of the graph
missing_is : (c : Catalog) (r : Refusal) → missing_target c ≡ Some r → IsGraphRefusal c r
missing_is c r h = subst (λ o. MatchOption o (IsCircleRefusal c r) (λ y. r ≡ y)) (sym h) refl

-- so is a refusal while relations are made links
pub links_refused : (c : Catalog) (e : Fault) → Refuses (with_links c (all_relations c) []) e → IfRefused e (IsGraphRefusal c)
links_refused c (fault.Refused r) h = missing_is c r (something_missing c (all_relations c) [] r h)
links_refused c (fault.Memory m) h = tt

-- so is that of a circle, where no reference names nothing
circle_is : (c : Catalog) (r : Refusal) → missing_target c ≡ None → IsCircleRefusal c r → IsGraphRefusal c r
circle_is c r h k = subst (λ o. MatchOption o (IsCircleRefusal c r) (λ y. r ≡ y)) (sym h) k

-- where all relations are links, no reference names nothing
pub complete : (c : Catalog) (links : List Link) → AreLinks c links → missing_target c ≡ None
complete c links are = nothing_missing c (all_relations c) [] links are

-- so the refusal of a circle is one of the graph
pub circle_refused : (c : Catalog) (links : List Link) (e : Fault) → AreLinks c links → IfRefused e (IsCircleRefusal c) → IfRefused e (IsGraphRefusal c)
circle_refused c links e are h = refused_weaker (IsCircleRefusal c) (IsGraphRefusal c) e (λ x k. circle_is c x (complete c links are) k) h

-- lists that were joined one after the other are four in a row
pub four_joined : {X : Type 0} (a b c d s l n f : List X) → a ≡ s → b ≡ a ++ l → c ≡ b ++ n → d ≡ c ++ f → d ≡ s ++ (l ++ (n ++ f))
four_joined a b c d s l n f one two three four =
    four ∙ ap (λ x. x ++ f) (three ∙ ap (λ x. x ++ n) (two ∙ ap (λ x. x ++ l) one)) ∙ append_assoc (s ++ l) n f ∙ append_assoc s l (n ++ f)
