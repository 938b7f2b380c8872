use Rattle.reports.proofs.OneAnswer.{no_catalog_refusal, no_graph_refusal, no_report_refusal, no_comparison_refusal}
use Rattle.reports.proofs.laws.reports_exclude_refusals.Goals as goal

pub returns-clause-catalogs : goal.returns-clause-catalogs
returns-clause-catalogs c i report r is refused =
    no_catalog_refusal c.files_say_one_thing.ensures.one c.files_say_one_thing.ensures.refusals c.compiled_texts.ensures.one c.one_reading.ensures.manifests c.one_reading.ensures.refusals
    i is.known is.source is.catalog r is.compiled refused

pub returns-clause-graphs : goal.returns-clause-graphs
returns-clause-graphs c i report r is refused =
    no_graph_refusal c.files_say_one_thing.ensures.one c.files_say_one_thing.ensures.refusals c.compiled_texts.ensures.one c.one_reading.ensures.manifests c.one_reading.ensures.refusals
    c.one_graph.ensures.refusals i is.known is.source is.catalog is.graph r is.planned refused

pub returns-clause-programs : goal.returns-clause-programs
returns-clause-programs c =
    no_report_refusal c.files_say_one_thing.ensures.one c.files_say_one_thing.ensures.refusals c.compiled_texts.ensures.one c.one_reading.ensures.manifests c.one_reading.ensures.refusals
    c.one_graph.ensures.refusals c.one_graph.ensures.pairs c.path_counts.ensures c.weights.ensures

pub returns-clause-comparisons : goal.returns-clause-comparisons
returns-clause-comparisons c =
    no_comparison_refusal c.files_say_one_thing.ensures.one c.files_say_one_thing.ensures.refusals c.compiled_texts.ensures.one c.one_reading.ensures.manifests c.one_reading.ensures.refusals
    c.one_graph.ensures.refusals c.one_graph.ensures.pairs c.path_counts.ensures c.weights.ensures
