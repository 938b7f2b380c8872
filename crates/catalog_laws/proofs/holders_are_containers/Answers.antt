use Rattle.catalog_laws.proofs.Held.{catalog_held}
use Rattle.catalog_laws.proofs.holders_are_containers.Goals as goal

pub returns-clause-holders : goal.returns-clause-holders
returns-clause-holders c m facts node_name data_levels limits catalog is = (catalog_held m facts node_name data_levels limits catalog is).0

pub returns-clause-holdings : goal.returns-clause-holdings
returns-clause-holdings c m facts node_name data_levels limits catalog is = (catalog_held m facts node_name data_levels limits catalog is).1
