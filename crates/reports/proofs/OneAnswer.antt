-- Inputs have one catalog, one graph, one list of programs and one size. So a report excludes a refusal.
use Rattle.std.proofs.Common.{◌≡◌, inl, inr, ℕ, Bool, List, Option, Some, None, Result, Ok, Err, refl, sym, ap, subst, subst₂, ◌∙◌, arith}
use Rattle.rh_base.specs.declared.fault.Refusal.{Refusal}
use Rattle.fs_semantics.specs.FileTree.{Path}
use Rattle.fs_semantics.specs.Programs.{Program}
use Rattle.orders.specs.Relation.{comes}
use Rattle.pp_syntax.specs.declared.tree.Manifest.{Manifest}
use Rattle.pp_value.specs.declared.value.Value.{Value}
use Rattle.pp_data.specs.declared.data.Level.{Level}
use Rattle.catalog_semantics.specs.Catalogs.{Catalog, catalog_of}
use Rattle.compiled_text.specs.Compiled.{Compiled}
use Rattle.compiled_text.specs.Form.{IsCompiledText}
use Rattle.pp_compile.specs.Sources.{IsParsed, IsSourceRefusal, IsCatalogOf}
use Rattle.graph_semantics.specs.Graphs.{plain_places, IsGraphOf, IsGraphRefusal}
use Rattle.fs_semantics.specs.Orders.{Told}
use Rattle.dep_graph.specs.declared.answer.Graph.{Graph}
use Rattle.host_limits.specs.declared.limits.Limits.{Limits}
use Rattle.host_limits.specs.Limits.{weight_limit, IsAtMost, IsMoreThan, IsWeightWithin}
use Rattle.size_limits.specs.Paths.{HasPaths}
use Rattle.given_verdict.specs.Graphs.{asked_programs}
use Rattle.given_verdict.specs.Limits.{HasFewPathsWith, HasManyPathsWith, IsLightWith, IsHeavyWith, IsTooLargeWith}
use Rattle.given_entry.specs.Sizes.{probed, HasFewPathsProbed, HasManyPathsProbed, IsTooLargeProbed}
use Rattle.given_equal.specs.Sizes.{joined, HasFewPathsJoined, HasManyPathsJoined, AreWithinWith, IsTooLargeJoined}
use Rattle.wanted_entry.specs.declared.wanted.Wanted.{Wanted}
use Rattle.size_limits.specs.Weights.{Weighs}
use Rattle.command_line.specs.declared.table.Role.TheVariants as role
use Rattle.known_inputs.specs.declared.inputs.Inputs.{Inputs}
use Rattle.known_inputs.specs.declared.inputs.Known.{Known}
use Rattle.known_inputs.specs.Inputs.{Bytes, input_of, bytes_of, IsCompiledOf, IsKnown, FirstUnread}
use Rattle.verdict_report.specs.declared.report.Report.{Report}
use Rattle.reports.specs.declared.question.Question.{Question}
use Rattle.reports.specs.declared.question.Question.TheVariants as question
use Rattle.reports.specs.Stages.{node_name, HasCatalog, HasNoCatalog, IsCompiled, IsPlanned, IsModelled, programs_in, CatalogRefusal, GraphRefusal, ProgramsRefusal}
use Rattle.reports.specs.Terms.{wanted_in}
use Rattle.reports.specs.Questions.{IsToldOf, HasNoAnswer, IsReport, ReportRefusal}
use Rattle.reports.specs.declared.sides.Side.{Side}
use Rattle.reports.specs.declared.sides.Side.TheVariants as side
use Rattle.reports.specs.Comparisons.{other_inputs, AreModelled, IsComparison, ComparisonRefusal}
use Rattle.reports.proofs.SameOrders.{OnePair, same_order_for}

-- ---- what is known of each stage

-- the files of a request say one thing
abbrev pub OneKnown : Type 0
OneKnown = (i : Inputs) (k m : Known) → IsKnown i k → IsKnown i m → k ≡ m

-- and where they say something none of them is refused
abbrev pub NoneUnread : Type 0
NoneUnread = (i : Inputs) (k : Known) (r : Refusal) → IsKnown i k → FirstUnread i r → ⊥

-- a text is that of one compiled catalog only
abbrev pub OneCompiled : Type 0
OneCompiled = (bytes : List ℕ) (c d : Compiled) → IsCompiledText bytes c → IsCompiledText bytes d → c ≡ d

-- a text is parsed as one manifest only
abbrev pub OneManifest : Type 0
OneManifest = (text : List ℕ) (m n : Manifest) → IsParsed text m → IsParsed text n → m ≡ n

-- a text that is parsed isn't refused
abbrev pub NoSourceRefusal : Type 0
NoSourceRefusal = (text : List ℕ) (m : Manifest) (r : Refusal) → IsParsed text m → IsSourceRefusal text r → ⊥

-- a catalog with a graph isn't refused for one
abbrev pub NoGraphRefusal : Type 0
NoGraphRefusal = (c : Catalog) (plain : List ℕ) (before : ℕ → ℕ → Bool) (r : Refusal) → IsGraphOf c plain (Told before) → IsGraphRefusal c r → ⊥

-- the domain of programs has one number of paths only
abbrev pub OneCount : Type 0
OneCount = (es : List Program) (n m : ℕ) → HasPaths es n → HasPaths es m → n ≡ m

-- programs have one weight only
abbrev pub OneWeight : Type 0
OneWeight = (es : List Program) (v w : ℕ) → Weighs es v → Weighs es w → v ≡ w

-- ---- one compiled catalog

-- the bytes of a file, if one is named, are one compiled catalog
one_source : OneCompiled → (bytes : Bytes) (m n : Option Compiled) → IsCompiledOf bytes m → IsCompiledOf bytes n → m ≡ n
one_source one None None None is was = refl
one_source one None None (Some n) is was = absurd was
one_source one None (Some m) n is was = absurd is
one_source one (Some bytes) None n is was = absurd is
one_source one (Some bytes) (Some m) None is was = absurd was
one_source one (Some bytes) (Some m) (Some n) is was = ap (λ (c : Compiled). Some c) (one bytes m n is was)

-- ---- one catalog

module _ (known : OneKnown) (unread : NoneUnread) (texts : OneCompiled) (manifests : OneManifest) (sources : NoSourceRefusal) where
  -- a text has one catalog, or one refusal
  same_catalog : (text : List ℕ) (facts : Value) (node : List ℕ) (levels : List Level) (l : Limits) (v w : Result Catalog Refusal)
      → IsCatalogOf text facts node levels l v → IsCatalogOf text facts node levels l w → v ≡ w
  same_catalog text facts node levels l v w is was =
      is.is ∙ ap (λ m. catalog_of m facts node levels l) (manifests text is.manifest was.manifest is.parsed was.parsed) ∙ sym was.is

  -- and not both
  no_catalog : (text node : List ℕ) (l : Limits) (k : Known) (m : Option Compiled) (c : Catalog) (r : Refusal) → HasCatalog text node l k m c → HasNoCatalog text node l k m r → ⊥
  no_catalog text node l k None c r is (inl source) = sources text is.manifest r is.parsed source
  no_catalog text node l k None c r is (inr refused) =
      let clash : ◌≡◌ {A = Result Catalog Refusal} (Ok c) (Err r) = same_catalog text k.facts node k.class_data l (Ok c) (Err r) is refused in cc
  no_catalog text node l k (Some m) c r is refused = let clash : ◌≡◌ {A = Result Catalog Refusal} (Ok c) (Err r) = sym is ∙ refused in cc

  -- files that give a catalog aren't refused
  pub no_catalog_refusal : (i : Inputs) (k : Known) (m : Option Compiled) (c : Catalog) (r : Refusal) → IsCompiled i k m c → CatalogRefusal i r → ⊥
  no_catalog_refusal i k m c r is (CatalogRefusal.unread first) = unread i k r is.known first
  no_catalog_refusal i k m c r is (CatalogRefusal.uncompiled j n also source refused) =
      no_catalog (input_of i) (node_name i.node) i.limits k m c r is.catalog
      (subst₂ (λ (x : Known) (y : Option Compiled). HasNoCatalog (input_of i) (node_name i.node) i.limits x y r) (known i j k also is.known)
      (one_source texts (bytes_of role.Compiled i) n m source is.source) refused)

  -- what is asked about has one catalog
  one_found : (text node : List ℕ) (l : Limits) (k : Known) (m : Option Compiled) (c d : Catalog) → HasCatalog text node l k m c → HasCatalog text node l k m d → c ≡ d
  one_found text node l k None c d is was =
      let both : ◌≡◌ {A = Result Catalog Refusal} (Ok c) (Ok d) = same_catalog text k.facts node k.class_data l (Ok c) (Ok d) is was in cc
  one_found text node l k (Some m) c d is was = let both : ◌≡◌ {A = Result Catalog Refusal} (Ok c) (Ok d) = sym is ∙ was in cc

  -- the files of a request name one source
  same_source : (i : Inputs) (k j : Known) (m n : Option Compiled) (c d : Catalog) → IsCompiled i k m c → IsCompiled i j n d → m ≡ n
  same_source i k j m n c d is was = one_source texts (bytes_of role.Compiled i) m n is.source was.source

  -- and give one catalog
  one_catalog : (i : Inputs) (k j : Known) (m n : Option Compiled) (c d : Catalog) → IsCompiled i k m c → IsCompiled i j n d → c ≡ d
  one_catalog i k j m n c d is was =
      one_found (input_of i) (node_name i.node) i.limits k m c d is.catalog
      (subst₂ (λ (x : Known) (y : Option Compiled). HasCatalog (input_of i) (node_name i.node) i.limits x y d) (known i j k was.known is.known)
      (sym (same_source i k j m n c d is was)) was.catalog)

  -- ---- one graph

  module _ (graphs : NoGraphRefusal) where
    -- files that give a graph aren't refused
    pub no_graph_refusal : (i : Inputs) (k : Known) (m : Option Compiled) (c : Catalog) (g : Graph) (r : Refusal) → IsPlanned i k m c g → GraphRefusal i r → ⊥
    no_graph_refusal i k m c g r is (GraphRefusal.before_graph first) = no_catalog_refusal i k m c r is.compiled first
    no_graph_refusal i k m c g r is (GraphRefusal.in_graph j n d compiled refused) =
        graphs c g.plain (comes g.order) r is.graph (subst (λ x. IsGraphRefusal x r) (one_catalog i j k n m d c compiled is.compiled) refused)

    -- and give one list of plain resources
    one_plain : (i : Inputs) (k j : Known) (m n : Option Compiled) (c d : Catalog) (g h : Graph) → IsPlanned i k m c g → IsPlanned i j n d h → g.plain ≡ h.plain
    one_plain i k j m n c d g h is was =
        let same = one_catalog i k j m n c d is.compiled was.compiled in
        is.graph.places ∙ ap plain_places same ∙ sym was.graph.places

    -- ---- one list of programs

    -- and these have one list of programs, or one refusal
    same_programs : (i : Inputs) (k j : Known) (m n : Option Compiled) (c d : Catalog) (g h : Graph) → IsPlanned i k m c g → IsPlanned i j n d h
        → programs_in k m c g.plain ≡ programs_in j n d h.plain
    same_programs i k j m n c d g h is was =
        let files = known i k j is.compiled.known was.compiled.known in
        let source = same_source i k j m n c d is.compiled was.compiled in
        let catalog = one_catalog i k j m n c d is.compiled was.compiled in
        let plain = one_plain i k j m n c d g h is was in
        λ t. programs_in (files t) (source t) (catalog t) (plain t)

    -- files that give programs aren't refused
    no_programs_refusal : (i : Inputs) (k : Known) (m : Option Compiled) (c : Catalog) (g : Graph) (es : List Program) (r : Refusal) → IsModelled i k m c g es → ProgramsRefusal i r → ⊥
    no_programs_refusal i k m c g es r is (ProgramsRefusal.before_programs first) = no_graph_refusal i k m c g r is.planned first
    no_programs_refusal i k m c g es r is (ProgramsRefusal.in_programs j n d h planned refused) =
        let clash : ◌≡◌ {A = Result (List Program) Refusal} (Ok es) (Err r) = sym is.programs ∙ same_programs i k j m n c d g h is.planned planned ∙ refused in cc

    -- and say one thing
    one_known : (i : Inputs) (k j : Known) (m n : Option Compiled) (c d : Catalog) (g h : Graph) (es fs : List Program) → IsModelled i k m c g es → IsModelled i j n d h fs → k ≡ j
    one_known i k j m n c d g h es fs is was = known i k j is.planned.compiled.known was.planned.compiled.known

    -- and give one list of programs
    one_programs : (i : Inputs) (k j : Known) (m n : Option Compiled) (c d : Catalog) (g h : Graph) (es fs : List Program) → IsModelled i k m c g es → IsModelled i j n d h fs → es ≡ fs
    one_programs i k j m n c d g h es fs is was =
        let both : ◌≡◌ {A = Result (List Program) Refusal} (Ok es) (Ok fs) = sym is.programs ∙ same_programs i k j m n c d g h is.planned was.planned ∙ was.programs in cc

    -- ---- one size

    module _ (pairs : OnePair) (counts : OneCount) (weighings : OneWeight) where
      -- a domain of few paths hasn't many
      not_many : (l : Limits) (given : List Path) (es : List Program) → HasFewPathsWith l given es → HasManyPathsWith l given es → ⊥
      not_many l given es few many =
          let same = counts (asked_programs given es) few.0 many.0 few.1 many.1 in
          let low = few.2 in
          let high = many.2 in
          omega (arith, same, low, high)

      -- what is at most a number isn't more
      not_over : (w : ℕ) (most : Option ℕ) → IsAtMost w most → IsMoreThan w most → ⊥
      not_over w None within over = over
      not_over w (Some most) within over = omega (arith, within, over)

      -- programs of a small weight aren't heavy
      not_heavy : (l : Limits) (es : List Program) → IsLightWith l es → IsHeavyWith l es → ⊥
      not_heavy l es light heavy =
          let same = weighings es light.0 heavy.0 light.1 heavy.1 in
          not_over heavy.0 (weight_limit l) (subst (λ w. IsWeightWithin l w) same light.2) heavy.2

      -- programs within the limits aren't refused as too large
      not_too_large : (l : Limits) (given : List Path) (es : List Program) (r : Refusal) → HasFewPathsWith l given es → IsLightWith l es → IsTooLargeWith l given es r → ⊥
      not_too_large l given es r few light (inl many) = not_many l given es few many.0
      not_too_large l given es r few light (inr heavy) = not_heavy l es light heavy.1

      -- a domain of few paths with the probe hasn't many
      not_wide : (l : Limits) (given : List Path) (es : List Program) (w : Wanted) → HasFewPathsProbed l given es w → HasManyPathsProbed l given es w → ⊥
      not_wide l given es w few many =
          let same = counts (probed given es w) few.0 many.0 few.1 many.1 in
          let low = few.2 in
          let high = many.2 in
          omega (arith, same, low, high)

      -- programs within the limits, with the probe, aren't refused as too large
      not_too_large_probed : (l : Limits) (given : List Path) (es : List Program) (w : Wanted) (r : Refusal) → HasFewPathsWith l given es → HasFewPathsProbed l given es w → IsLightWith l es
          → IsTooLargeProbed l given es w r → ⊥
      not_too_large_probed l given es w r few narrow light (inl wide) = not_many l given es few wide.0
      not_too_large_probed l given es w r few narrow light (inr (inl wide)) = not_wide l given es w narrow wide.0
      not_too_large_probed l given es w r few narrow light (inr (inr heavy)) = not_heavy l es light heavy.2

      -- ---- one answer

      -- what is within the limits as one of two knowns tells them is so as the other does
      few_too : (i : Inputs) (k j : Known) (es fs : List Program) → k ≡ j → es ≡ fs → HasFewPathsWith i.limits k.given.folders es → HasFewPathsWith i.limits j.given.folders fs
      few_too i k j es fs files same few = subst₂ (λ (x : Known) (all : List Program). HasFewPathsWith i.limits x.given.folders all) files same few

      -- the same programs aren't both within the limits and refused as too large
      too_large_or_not : (i : Inputs) (k j : Known) (es fs : List Program) (r : Refusal) → k ≡ j → es ≡ fs → HasFewPathsWith i.limits k.given.folders es → IsLightWith i.limits es
          → IsTooLargeWith i.limits j.given.folders fs r → ⊥
      too_large_or_not i k j es fs r files same few light large =
          not_too_large i.limits j.given.folders fs r (few_too i k j es fs files same few) (subst (IsLightWith i.limits) same light) large

      -- what is told of programs excludes that nothing is
      told_or_not : (q : Question) (i : Inputs) (k j : Known) (m n : Option Compiled) (c d : Catalog) (g h : Graph) (es fs : List Program) (report : Report) (r : Refusal)
          → IsModelled i k m c g es → IsModelled i j n d h fs → IsToldOf q i k m c g es report → HasNoAnswer q i j n d h fs r → ⊥
      told_or_not question.Programs i k j m n c d g h es fs report r is was told none = none
      told_or_not (question.Verdict form conflicts) i k j m n c d g h es fs report r is was told large =
          too_large_or_not i k j es fs r (one_known i k j m n c d g h es fs is was) (one_programs i k j m n c d g h es fs is was) told.paths told.weight large
      told_or_not question.Replay i k j m n c d g h es fs report r is was told none =
          none.none told.1.order
          (same_order_for pairs (bytes_of role.Order i) c d g h told.1.order (one_catalog i k j m n c d is.planned.compiled was.planned.compiled) (one_plain i k j m n c d g h is.planned was.planned)
          is.planned.graph was.planned.graph is.planned.count was.planned.count is.planned.strict was.planned.strict told.1.ordered)
      told_or_not (question.Explain conflicts) i k j m n c d g h es fs report r is was told large =
          too_large_or_not i k j es fs r (one_known i k j m n c d g h es fs is was) (one_programs i k j m n c d g h es fs is was) told.told.paths told.told.weight large
      told_or_not (question.Repair conflicts) i k j m n c d g h es fs report r is was told large =
          too_large_or_not i k j es fs r (one_known i k j m n c d g h es fs is was) (one_programs i k j m n c d g h es fs is was) told.paths told.weight large
      told_or_not (question.Ensures conflicts) i k j m n c d g h es fs report r is was told large =
          let files = one_known i k j m n c d g h es fs is was in
          let same = one_programs i k j m n c d g h es fs is was in
          not_too_large_probed i.limits j.given.folders fs (wanted_in i j) r (few_too i k j es fs files same told.paths)
          (subst₂ (λ (x : Known) (all : List Program). HasFewPathsProbed i.limits x.given.folders all (wanted_in i x)) files same told.probed)
          (subst (IsLightWith i.limits) same told.weight) large

      -- a report excludes a refusal
      pub no_report_refusal : (q : Question) (i : Inputs) (report : Report) (r : Refusal) → IsReport q i report → ReportRefusal q i r → ⊥
      no_report_refusal q i report r is (ReportRefusal.before_answer first) = no_programs_refusal i is.known is.source is.catalog is.graph is.programs r is.modelled first
      no_report_refusal q i report r is (ReportRefusal.no_answer j n d h fs was none) =
          told_or_not q i is.known j is.source n is.catalog d is.graph h is.programs fs report r is.modelled was is.told none

      -- ---- one answer on both

      -- a domain of both with few paths hasn't many
      not_joined : (l : Limits) (given : List Path) (es fs : List Program) → HasFewPathsJoined l given es fs → HasManyPathsJoined l given es fs → ⊥
      not_joined l given es fs few many =
          let same = counts (joined given es fs) few.0 many.0 few.1 many.1 in
          let low = few.2 in
          let high = many.2 in
          omega (arith, same, low, high)

      -- two lists of programs within the limits aren't refused as too large
      not_too_large_together : (l : Limits) (given : List Path) (es fs : List Program) (r : Refusal) → AreWithinWith l given es fs → IsTooLargeJoined l given es fs r → ⊥
      not_too_large_together l given es fs r within (inl wide) = not_joined l given es fs within.joined_paths wide.0
      not_too_large_together l given es fs r within (inr large) = elim large.1 [
        | inl left ↦ not_too_large l given es r within.left_paths within.left_weight left
        | inr right ↦ not_too_large l given fs r within.right_paths within.right_weight right.2
      ]

      -- both are within the limits, however they were found
      same_within : (i : Inputs) (m n : AreModelled i) → AreWithinWith i.limits m.known.given.folders m.programs m.other_programs
          → AreWithinWith i.limits n.known.given.folders n.programs n.other_programs
      same_within i m n within =
          let left = one_programs i m.known n.known m.source n.source m.catalog n.catalog m.graph n.graph m.programs n.programs m.modelled n.modelled in
          let right = one_programs (other_inputs i) m.known n.known m.other_source n.other_source m.other_catalog n.other_catalog m.other_graph n.other_graph m.other_programs n.other_programs m.other_modelled n.other_modelled in
          let files = one_known i m.known n.known m.source n.source m.catalog n.catalog m.graph n.graph m.programs n.programs m.modelled n.modelled in
          subst (λ (x : Known). AreWithinWith i.limits x.given.folders n.programs n.other_programs) files
          (subst₂ (λ (es : List Program) (fs : List Program). AreWithinWith i.limits m.known.given.folders es fs) left right within)

      -- a comparison excludes a refusal
      pub no_comparison_refusal : (conflicts : Option ℕ) (i : Inputs) (report : Report) (s : Side) (r : Refusal) → IsComparison conflicts i report → ComparisonRefusal i s r → ⊥
      no_comparison_refusal conflicts i report side.Input r is (inl first) =
          no_programs_refusal i is.of.known is.of.source is.of.catalog is.of.graph is.of.programs r is.of.modelled first
      no_comparison_refusal conflicts i report side.Input r is (inr large) =
          not_too_large_together i.limits large.of.known.given.folders large.of.programs large.of.other_programs r (same_within i is.of large.of is.told.within) large.too_large
      no_comparison_refusal conflicts i report side.Other r is refused =
          no_programs_refusal (other_inputs i) is.of.known is.of.other_source is.of.other_catalog is.of.other_graph is.of.other_programs r is.of.other_modelled refused.refused
