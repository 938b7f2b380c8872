-- Two manifests or two compiled catalogs, each with its catalog, its graph and its programs.
use Rattle.std.proofs.Common.{◌≡◌, inl, inr, ◌==◌, ℕ, false, cond, List, ◌∷◌, length, Option, Some, None, Result, Ok, Err, refl, sym, ap, subst, ◌∙◌}
use Rattle.std.specs.Prelude.{IfOk, IfErr}
use Rattle.rh_base.specs.declared.fault.Fault.{Fault}
use Rattle.rh_base.specs.declared.fault.Fault.TheVariants.{Refused, Memory}
use Rattle.rh_base.specs.Refused.{IfRefused}
use Rattle.pp_eval.specs.Evaluating.{Refuses}
use Rattle.fs_semantics.specs.Programs.{Program}
use Rattle.catalog_semantics.specs.Catalogs.{Catalog}
use Rattle.compiled_text.specs.Compiled.{Compiled}
use Rattle.orders.specs.Relation.{Comes, IsStrictOrder}
use Rattle.graph_semantics.specs.Graphs.{IsGraphOf, IsGraphRefusal}
use Rattle.dep_graph.specs.declared.answer.Graph.{Graph}
use Rattle.command_line.specs.declared.table.Role.{Role}
use Rattle.command_line.specs.declared.table.Role.TheVariants as role
use Rattle.command_line.specs.Table.{ByRole, role_index, load_of as named}
use Rattle.host_limits.specs.declared.limits.Limits.{Limits}
use Rattle.known_inputs.specs.declared.inputs.Inputs.{Inputs}
use Rattle.known_inputs.specs.declared.inputs.Known.{Known}
use Rattle.known_inputs.specs.Inputs as inputs
use Rattle.known_inputs.specs.Inputs.{Bytes, bytes_of, bytes_or_none, input_of, AreFactsOf, IsListingOf, AreDataOf, IsTreeOf, IsCompiledOf, AreAssumedOf, IsGivenOf, HasNoCompiled, AreTold, IsKnown, FirstUnread}
use Rattle.given_equal.specs.Sizes.{IsTooLargeJoined}
use Rattle.reports.specs.declared.sides.Side.TheVariants as side
use Rattle.reports.specs.Sides.{refused_in, IfUntold}
use Rattle.reports.specs.Stages.{node_name, ForSource, IsModelled, ProgramsRefusal}
use Rattle.reports.specs.Comparisons.{place_of_source, other_inputs, AreModelled, ComparisonRefusal}
use Rattle.reports.proofs.StageLaws.{unread_programs}

-- ---- the files beside the other

-- the file of a role that is neither that of the input nor that of a compiled catalog
kept : (r : Role) (x : List ℕ) (files : ByRole (List ℕ)) → (role_index role.Input == role_index r) ≡ false → (role_index role.Compiled == role_index r) ≡ false
    → (b : Bytes) → named r ((place_of_source b, x) ∷ files) ≡ named r files
kept r x files input compiled None = ap (λ t. cond t (Some x) (named r files)) input
kept r x files input compiled (Some bytes) = ap (λ t. cond t (Some x) (named r files)) compiled

-- what the files beside the one say of facts, packages and class data, they say beside the other
told_too : (i : Inputs) (k : Known) → IsKnown i k → AreTold (other_inputs i) k.facts k.listing k.class_data
told_too i k is =
    let b = bytes_of role.Compiled i in
    let x = bytes_or_none (bytes_of role.Other i) in
    record {
      facts = subst (λ o. AreFactsOf o k.facts) (sym (kept role.Facts x i.files refl refl b)) is.told.facts;
      listing = subst (λ o. IsListingOf o k.listing) (sym (kept role.Packages x i.files refl refl b)) is.told.listing;
      class_data = subst (λ o. AreDataOf o k.class_data) (sym (kept role.Data x i.files refl refl b)) is.told.class_data;
    }

-- and so it is of the tree
tree_too : (i : Inputs) (k : Known) (is : IsKnown i k) → IsTreeOf (bytes_of role.Tree (other_inputs i)) is.tree
tree_too i k is =
    subst (λ o. IsTreeOf o is.tree) (sym (kept role.Tree (bytes_or_none (bytes_of role.Other i)) i.files refl refl (bytes_of role.Compiled i))) is.named.tree

-- what the files beside the one say, they say beside the other
pub known_too : (i : Inputs) (k : Known) (m : Option Compiled) → IsKnown i k → IsCompiledOf (bytes_of role.Compiled (other_inputs i)) m → IsKnown (other_inputs i) k
known_too i k m is source =
    let b = bytes_of role.Compiled i in
    let x = bytes_or_none (bytes_of role.Other i) in
    record {
      told = told_too i k is;
      tree = is.tree;
      compiled = m;
      named = record {
        tree = tree_too i k is;
        compiled = source;
        assumed = subst (λ o. AreAssumedOf o k.assumed) (sym (kept role.Assume x i.files refl refl b)) is.named.assumed;
      };
      apart = refl;
      given = subst (λ o. IsGivenOf o k.given) (sym (kept role.Given x i.files refl refl b)) is.given;
      apart_as_read = refl;
      begins = is.begins;
    }

-- the other text is no compiled catalog, which is found out behind all that is said beside it
pub other_unread : (i : Inputs) (k : Known) (e : Fault) → IsKnown i k → IfRefused e (HasNoCompiled (bytes_of role.Compiled (other_inputs i))) → IfRefused e (ProgramsRefusal (other_inputs i))
other_unread i k e is none = unread_programs (other_inputs i) e (at e none)
  where
    at : (e : Fault) → IfRefused e (HasNoCompiled (bytes_of role.Compiled (other_inputs i))) → IfRefused e (FirstUnread (other_inputs i))
    at (Refused r) none = inputs.compiled k.facts k.listing k.class_data is.tree (told_too i k is) (tree_too i k is) none
    at (Memory m) none = tt

-- what holds of each request with such files holds of that with the other
module _ (i : Inputs) (k : Known) (m : Option Compiled) (text name : List ℕ) (l : Limits) (is : text ≡ input_of (other_inputs i)) (source : IsCompiledOf (bytes_of role.Compiled (other_inputs i)) m)
    (called : name ≡ node_name i.node) (limited : l ≡ i.limits) (known : IsKnown i k) where
  -- what holds of each request with the other side as its input holds of this one's
  other_has : (P : Inputs → Type 0) → ForSource m text name l k P → P (other_inputs i)
  other_has P each = each (other_inputs i) is source called limited (known_too i k m known source)

  -- what was answered of the other side is answered of these files with it
  pub other_modelled : {X : Type 0} (Q : X → Inputs → Type 0) (said : Result X Fault) → IfOk said (λ x. ForSource m text name l k (Q x)) → IfOk said (λ x. Q x (other_inputs i))
  other_modelled Q (Ok x) each = other_has (Q x) each
  other_modelled Q (Err e) each = tt

  -- and what was refused of it is refused of these
  pub other_unmodelled : {X : Type 0} (said : Result X Fault) → IfErr said (λ e. IfRefused e (λ r. ForSource m text name l k (λ j. ProgramsRefusal j r)))
      → IfErr said (λ e. IfRefused e (ProgramsRefusal (other_inputs i)))
  other_unmodelled (Ok x) none = tt
  other_unmodelled (Err (Refused r)) none = other_has (λ j. ProgramsRefusal j r) none
  other_unmodelled (Err (Memory x)) none = tt

-- ---- both

-- a refusal of the files beside both is one of the input's side
pub unread_both : (i : Inputs) (e : Fault) → IfRefused e (FirstUnread i) → IfUntold (refused_in side.Input e) (ComparisonRefusal i)
unread_both i (Refused r) first = inl (unread_programs i (Refused r) first)
unread_both i (Memory m) first = tt

-- a refusal of the first side is one of the comparison
pub first_refused : (i : Inputs) (k : Known) (m : Option Compiled) (text name : List ℕ) (l : Limits) (e : Fault) → IfRefused e (λ r. ForSource m text name l k (λ j. ProgramsRefusal j r))
    → text ≡ input_of i → IsCompiledOf (bytes_of role.Compiled i) m → name ≡ node_name i.node → l ≡ i.limits → IsKnown i k → IfUntold (refused_in side.Input e) (ComparisonRefusal i)
first_refused i k m text name l (Refused r) none text_is source name_is limited known = inl (none i text_is source name_is limited known)
first_refused i k m text name l (Memory x) none text_is source name_is limited known = tt

module _ (i : Inputs) (k : Known) (m : Option Compiled) (c : Catalog) (g : Graph) (es : List Program) (is : IsModelled i k m c g es) where
  -- and one of the other side, behind a first that has programs
  pub other_refused : (e : Fault) → IfRefused e (ProgramsRefusal (other_inputs i)) → IfUntold (refused_in side.Other e) (ComparisonRefusal i)
  other_refused (Refused r) none = record { known = k; source = m; catalog = c; graph = g; programs = es; modelled = is; refused = none }
  other_refused (Memory x) none = tt

  module _ (n : Option Compiled) (d : Catalog) (h : Graph) (fs : List Program) (other : IsModelled (other_inputs i) k n d h fs) where
    -- both sides, with their programs
    abbrev pub both : AreModelled i
    both = record {
      known = k;
      source = m;
      catalog = c;
      graph = g;
      programs = es;
      modelled = is;
      other_source = n;
      other_catalog = d;
      other_graph = h;
      other_programs = fs;
      other_modelled = other;
    }

    -- a refusal of both as too large is one of the comparison
    pub too_large_both : (e : Fault) → IfRefused e (IsTooLargeJoined i.limits k.given.folders es fs) → IfUntold (refused_in side.Input e) (ComparisonRefusal i)
    too_large_both (Refused r) large = inr (record { of = both; too_large = large })
    too_large_both (Memory x) large = tt
